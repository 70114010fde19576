-- No record that has the terminal reconfigured stands in a tunnel.
use Rattle.std.proofs.Common.{ℕ, zero, suc, ◌≡◌, ◌++◌, ◌+◌, ◌*◌, ◌==◌, false, List, [], ◌∷◌, Option, Some, None, refl, ap, ◌∙◌, inl, inr, arith}
use Rattle.std.specs.Prelude.{filter, length, remove}
use Rattle.std.specs.List.{flat_map}
use Rattle.std.proofs.lemmas.Bool.{cases_Bool}
use Rattle.std.proofs.lemmas.Bool.Decides.{nat_tests}
use Rattle.dc_base.specs.Links.{class_number, is_same_link, link, link_number}
use Rattle.dc_base.specs.Nodes.{node_number}
use Rattle.dc_base.specs.declared.events.Event.{Event}
use Rattle.dc_base.specs.declared.events.Header.{Header}
use Rattle.dc_base.specs.declared.flights.Flight.{Flight}
use Rattle.dc_base.specs.declared.nodes.Class.TheVariants.{Ctl, Tun}
use Rattle.dc_base.specs.declared.nodes.LinkId.{LinkId}
use Rattle.dc_base.specs.declared.nodes.Node.TheVariants.{M, T}
use Rattle.dc_base.specs.declared.records.Plan.{Plan}
use Rattle.transcript.specs.Content.{on_link, place_taken, put_on, without_taken}
use Rattle.transcript.specs.Transcript.{sends}
use Rattle.node_rules.specs.Choices.{Choices, Send}
use Rattle.node_rules.specs.Run.{world_step}
use Rattle.node_rules.specs.World.{World, flights_on, new_world}
use Rattle.master_runs.proofs.Contents.{flights_next}
use Rattle.master_runs.proofs.Moving.{none_there}
use Rattle.run_table.specs.SameTable.{NoOrderInTunnels}
use Rattle.run_table.specs.Words.{is_order_sent, order_sends, orders}
use Rattle.run_table.proofs.LineWords.{filter_append}

far : (a b c : ℕ) → c ≡ 3 → (a + 4 * b + 16 * c == 1) ≡ false
far a b c is = grind (arith, nat_tests)

-- a tunnel is not the link to the terminal
tunnel_far : (l : LinkId) → l.class ≡ Tun → is_same_link l (link M T Ctl) ≡ false
tunnel_far l is = far (node_number l.from) (node_number l.to) (class_number l.class) (ap class_number is)

-- the orders that are put on a link
orders_on : (l : LinkId) (ss : List Send) → filter orders (flat_map (on_link l) ss) ≡ flat_map (on_link l) (filter is_order_sent ss)
orders_on l [] = refl
orders_on l (s ∷ ss) =
    elim (cases_Bool (is_same_link l s.0)) [
      | inl here ↦ elim (cases_Bool (orders s.1)) [
        | inl yes' ↦ rw here (rw yes' (rw here (ap (λ fs. s.1 ∷ fs) (orders_on l ss))))
        | inr no' ↦ rw here (rw no' (orders_on l ss))
      ]
      | inr there ↦ elim (cases_Bool (orders s.1)) [
        | inl yes' ↦ rw there (rw yes' (rw there (orders_on l ss)))
        | inr no' ↦ rw there (rw no' (orders_on l ss))
      ]
    ]

none_on : (l : LinkId) (o : Option (Plan × List ℕ)) → l.class ≡ Tun → flat_map (on_link l) (order_sends o) ≡ []
none_on l None is = refl
none_on l (Some x) is = rw (tunnel_far l is) refl

-- a flight less
none_left : (i : ℕ) (fs : List Flight) → filter orders fs ≡ [] → filter orders (remove fs i) ≡ []
none_left zero [] none = refl
none_left (suc i) [] none = refl
none_left zero (f ∷ fs) none = elim (cases_Bool (orders f)) [ inl yes' ↦ absurd (let n = rw yes' at none in cc) | inr no' ↦ rw no' at none ]
none_left (suc i) (f ∷ fs) none =
    elim (cases_Bool (orders f)) [ inl yes' ↦ absurd (let n = rw yes' at none in cc) | inr no' ↦ rw no' (none_left i fs (rw no' at none)) ]

none_without : (l : LinkId) (place : Option (LinkId × ℕ)) (fs : List Flight) → filter orders fs ≡ [] → filter orders (without_taken l place fs) ≡ []
none_without l None fs none = none
none_without l (Some place) fs none =
    elim (cases_Bool (is_same_link l place.0)) [ inl here ↦ rw here (none_left place.1 fs none) | inr there ↦ rw there none ]

-- at the start
pub no_order_new : (h : Header) → NoOrderInTunnels (new_world h)
no_order_new h = λ l is. ap (λ fs. filter orders fs) (none_there 64 (link_number l) [])

-- and after an event, where the only order among its lines is the one to the terminal
pub no_order_next : (c : Choices) (w : World) (e : Event) (o : Option (Plan × List ℕ)) → length w.links ≡ 64 → NoOrderInTunnels w
    → filter is_order_sent (sends (world_step c w e).1.lines) ≡ order_sends o → NoOrderInTunnels (world_step c w e).0
no_order_next c w e o long none sent = λ l is.
    let x = (world_step c w e).1 in
    let place = place_taken x.event x.answer in
    ap (λ fs. filter orders fs) (flights_next c w e l long)
    ∙ filter_append orders (without_taken l place (flights_on l w.links)) (put_on l x.lines)
    ∙ ap (λ fs. fs ++ filter orders (put_on l x.lines)) (none_without l place (flights_on l w.links) (none l is))
    ∙ orders_on l (sends x.lines) ∙ ap (λ ss. flat_map (on_link l) ss) sent ∙ none_on l o is
