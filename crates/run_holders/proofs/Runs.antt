-- In a run whose steps suit the past each node holds, by the past, what it has an active anchor of.
use Rattle.std.proofs.Common.{ℕ, ◌≡◌, ◌∙◌, Bool, true, false, List, [], ◌∷◌, Option, Some, None, refl, sym, ap, subst}
use Rattle.std.specs.List.{AllByRecursion}
use Rattle.std.specs.Prelude.{filter, fold, if◌then◌else◌, nat_lt, slice_get, ◌&&◌}
use Rattle.dc_base.specs.Links.{is_ordered, is_tunnel}
use Rattle.dc_base.specs.Nodes.{is_same_node}
use Rattle.dc_base.specs.declared.answers.Answer.TheVariants as answer
use Rattle.dc_base.specs.declared.answers.Refusal.TheVariants as refusal
use Rattle.dc_base.specs.declared.events.Event.{Event}
use Rattle.dc_base.specs.declared.events.Event.TheVariants as event
use Rattle.dc_base.specs.declared.events.Header.{Header}
use Rattle.dc_base.specs.declared.events.Line.{Line}
use Rattle.dc_base.specs.declared.events.Line.TheVariants as line
use Rattle.dc_base.specs.declared.events.Note.{Note}
use Rattle.dc_base.specs.declared.flights.Flight.{Flight}
use Rattle.dc_base.specs.declared.flights.Flight.TheVariants as flight
use Rattle.dc_base.specs.declared.nodes.Class.TheVariants.{Air, Ctl, Feed, Tun}
use Rattle.dc_base.specs.declared.nodes.LinkId.{LinkId}
use Rattle.dc_base.specs.declared.nodes.Node.{Node}
use Rattle.dc_base.specs.declared.nodes.Node.TheVariants.{A, B, M, T}
use Rattle.dc_base.specs.declared.records.Rec.TheVariants as rec
use Rattle.transcript.proofs.OnEach.{each_weaker}
use Rattle.node_rules.specs.Choices.{Choices, Send}
use Rattle.node_rules.specs.Lines.{lines_of}
use Rattle.node_rules.specs.Flights.{weight}
use Rattle.node_rules.specs.Readers.{is_aged_for}
use Rattle.node_rules.specs.Run.{Happening, carried_on, entries_from, entry_with, given_to, happening, node_at, on_links, refused_for, step_of, world_after, world_step}
use Rattle.node_rules.specs.declared.inputs.Effects.{Effects}
use Rattle.node_rules.specs.declared.inputs.Input.TheVariants.{Come}
use Rattle.node_rules.specs.SecondStep.{second_step}
use Rattle.node_rules.specs.World.{World, flights_on, new_world}
use Rattle.node_rules.specs.declared.inputs.Input.{Input}
use Rattle.dc_base.specs.declared.nodes.Class.{Class}
use Rattle.claims.specs.Claim.{Each, EachLine}
use Rattle.claims.specs.Judged.{judged}
use Rattle.claims.specs.Links.{is_from_to}
use Rattle.claims.specs.Names.{claim, holder}
use Rattle.claims.specs.Noted.{after, noted, past, past_from}
use Rattle.claims.specs.Past.{Past, new_past}
use Rattle.run_control.specs.Sound.{AddsSecond}
use Rattle.run_control.specs.Steps.{AreOrdered}
use Rattle.run_senders.specs.Fitting.{FitsOn, IsFitting}
use Rattle.run_senders.specs.Lines.{IsCopyBy, IsOwnLine}
use Rattle.run_table.specs.Words.{orders}
use Rattle.run_uplinks.proofs.Held.{Holds}
use Rattle.run_uplinks.proofs.Runs.{holds_new, holds_next}
use Rattle.run_words.proofs.Lines.{each_line_of}
use Rattle.run_words.specs.Parts.{at_lines}
use Rattle.run_words.specs.Senders.{AreBy}
use Rattle.run_holders.specs.Fitting.{HoldsAll}
use Rattle.run_holders.specs.Lines.{is_give_line, is_handing_line}
use Rattle.run_holders.specs.Suited.{AllHold, HappensSuited, IsSuited, RunsSuited, actives_at}
use Rattle.run_holders.proofs.EventHolds.{each_other, itself}
use Rattle.run_holders.proofs.HeldLines.{OrdersAsMaster}
use Rattle.run_holders.proofs.NamesApart.{Descends, drawn_descends}
use Rattle.run_senders.proofs.Lines.{copy_is, event_copies, own_lines}
use Rattle.run_senders.proofs.Standing.{AreRight, right_new, right_next}
use Rattle.run_senders.proofs.SecondRecords.{second_fits}
use Rattle.run_senders.proofs.Records.{fits_from_records}
use Rattle.run_senders.proofs.TerminalKinds.{terminal_kinds}
use Rattle.run_senders.specs.Kinds.{is_of_terminal}
use Rattle.run_senders.proofs.SecondSends.{second_sends}
use Rattle.run_control.proofs.Steps.{event_ordered, second_stepped}
use Rattle.run_control.specs.Traffic.{came}
use Rattle.run_table.specs.SameTable.{NoOrderInTunnels}
use Rattle.run_uplinks.proofs.Standing.{order_at}
use Rattle.run_holders.specs.Holdings.{Holding, holdings, latest_in}
use Rattle.run_holders.proofs.HeldSeeing.{is_moving_line, judged_seen, noted_seen, with_event}
use Rattle.run_holders.proofs.HolderClaims.{gives_claimed, handings_claimed}

-- ---- who has the terminal reconfigure

from_master : (l : LinkId) → is_from_to M T l ≡ true → l.from ≡ M
from_master l is = by l.from is
  where
    by : (x : Node) → is_from_to M T (record l { from = x }) ≡ true → x ≡ M
    by M e = refl
    by T e = absurd (let bad : false ≡ true = e in cc)
    by A e = absurd (let bad : false ≡ true = e in cc)
    by B e = absurd (let bad : false ≡ true = e in cc)

order_by : (x : Node) (l : LinkId) (f : Flight) → l.from ≡ x → FitsOn l f → orders f ≡ true → x ≡ M
order_by x l (flight.Ctl (rec.Reconf q key)) from fits is = sym from ∙ from_master l fits
order_by x l f from fits is = absurd cc

sends_order : (x : Node) (ss : List Send) → AreBy x ss → AllByRecursion IsFitting ss → AllByRecursion (λ (s : Send). OrdersAsMaster x (line.Send s.0 s.1)) ss
sends_order x [] by fits = tt
sends_order x (s ∷ ss) by fits = (λ is. order_by x s.0 s.1 by.0.0 fits.0 is, sends_order x ss by.1 fits.1)

notes_order : (x : Node) (ns : List Note) → AllByRecursion (λ n. OrdersAsMaster x (line.Note n)) ns
notes_order x [] = tt
notes_order x (n ∷ ns) = (tt, notes_order x ns)

by_master : (ss : List Send) → AllByRecursion (λ (s : Send). OrdersAsMaster M (line.Send s.0 s.1)) ss
by_master [] = tt
by_master (s ∷ ss) = (λ is. refl, by_master ss)

pub by_terminal : (ss : List Send) → AllByRecursion (λ (s : Send). is_of_terminal s.0 s.1 ≡ true) ss → AllByRecursion (λ (s : Send). OrdersAsMaster T (line.Send s.0 s.1)) ss
by_terminal [] all = tt
by_terminal (s ∷ ss) all = (λ is. no_order s.0 s.1 all.0 is, by_terminal ss all.1)
  where
    both : (a b d : Bool) → (a && b && d) ≡ true → (b ≡ true) × (d ≡ true)
    both true true true e = (refl, refl)
    both true true false e = absurd cc
    both true false d e = absurd cc
    both false b d e = absurd cc

    no_order : (l : LinkId) (f : Flight) → is_of_terminal l f ≡ true → orders f ≡ true → T ≡ M
    no_order l (flight.Ctl (rec.Reconf q key)) may is = by l.from l.to may
      where
        by : (x y : Node) → is_of_terminal (record l { from = x; to = y }) (flight.Ctl (rec.Reconf q key)) ≡ true → T ≡ M
        by x y may' = absurd (never x y (both _ (is_from_to T M (record l { from = x; to = y })) (is_from_to M T (record l { from = x; to = y })) may'))
          where
            never : (x y : Node) → (is_from_to T M (record l { from = x; to = y }) ≡ true) × (is_from_to M T (record l { from = x; to = y }) ≡ true) → ⊥
            never T y e = absurd (let bad : false ≡ true = e.1 in cc)
            never M y e = absurd (let bad : false ≡ true = e.0 in cc)
            never A y e = absurd (let bad : false ≡ true = e.0 in cc)
            never B y e = absurd (let bad : false ≡ true = e.0 in cc)
    no_order l f may is = absurd cc

-- ---- a state of a run

-- what is so at any moment of a run
pub record Stands (p : Past) (w : World) : Type 0 where
  pub holds : Holds p w
  pub right : AreRight w
  pub ordered : AreOrdered w
  pub all : AllHold p w

module _ (c : Choices) (w : World) (right : AreRight w) (up : AreOrdered w) where
  pub as_master : (x : Node) (i : Input) → let o = (carried_on c w (given_to x i)).1 in AllByRecursion (OrdersAsMaster x) (lines_of o)
  as_master T i = let o = (carried_on c w (given_to T i)).1 in each_line_of (OrdersAsMaster T) o (notes_order T o.notes) (by_terminal o.sends (terminal_kinds c w.terminal i))
  as_master M i = let o = (carried_on c w (given_to M i)).1 in each_line_of (OrdersAsMaster M) o (notes_order M o.notes) (by_master o.sends)
  as_master A i =
      let o = (carried_on c w (given_to A i)).1 in
      let done = came (second_step c w.a i) in
      each_line_of (OrdersAsMaster A) o (notes_order A o.notes) (sends_order A o.sends (second_sends A c w.a i right.there.a).by (fits_from_records done.1.sends (second_fits A refl w.a i done right.there.a.name (second_stepped c w.a i up.a))))
  as_master B i =
      let o = (carried_on c w (given_to B i)).1 in
      let done = came (second_step c w.b i) in
      each_line_of (OrdersAsMaster B) o (notes_order B o.notes) (sends_order B o.sends (second_sends B c w.b i right.there.b).by (fits_from_records done.1.sends (second_fits B refl w.b i done right.there.b.name (second_stepped c w.b i up.b))))

-- ---- what is lost or repeated

tunnel_is : (l : LinkId) → is_tunnel l.class ≡ true → l.class ≡ Tun
tunnel_is l is = by l.class is
  where
    by : (k : Class) → is_tunnel k ≡ true → k ≡ Tun
    by Tun e = refl
    by Ctl e = absurd (let bad : false ≡ true = e in cc)
    by Feed e = absurd (let bad : false ≡ true = e in cc)
    by Air e = absurd (let bad : false ≡ true = e in cc)

copy_still : (w : World) (e : Event) (k : Line) → NoOrderInTunnels w → IsCopyBy w e k → is_moving_line k ≡ false
copy_still w e k none copy = copy_is (λ z. is_moving_line z ≡ false) w e k (λ l i m f same tunnel at. by l i f (orders f) refl (none l (tunnel_is l tunnel)) at) copy
  where
    by : (l : LinkId) (i : ℕ) (f : Flight) (b : Bool) → orders f ≡ b → filter orders (flights_on l w.links) ≡ [] → slice_get (flights_on l w.links) i ≡ Some f → orders f ≡ false
    by l i f false is empty at = is
    by l i f true is empty at = absurd (order_at (λ z. ⊥) i (flights_on l w.links) f (subst (AllByRecursion (λ z. ⊥)) (sym empty) tt) at is)

still_lines : (ls : List Line) (p : Past) → AllByRecursion (λ k. is_moving_line k ≡ false) ls → holdings (fold noted p ls) ≡ holdings p
still_lines [] p still = refl
still_lines (l ∷ ls) p still = still_lines ls (noted p l) still.1 ∙ noted_seen p l still.0

-- a claim that asks nothing of these lines
unasked : (these : Line → Bool) (ls : List Line) (p : Past) → AllByRecursion (λ k. these k ≡ false) ls → EachLine (at_lines these (claim holder)).of_line p ls
unasked these [] p none = tt
unasked these (l ∷ ls) p none = (ap (λ (b : Bool). if b then (claim holder).of_line p l else true) none.0, unasked these ls (noted p l) none.1)

-- ---- an event

module _ (c : Choices) (w : World) (p : Past) (e : Event) where
  same_held : (q : Past) → holdings q ≡ holdings p → AllHold p w → AllHold q w
  same_held q same all x k g at = subst (λ hs. (h : Holding) × (latest_in k hs ≡ Some h) × (h.holder ≡ Some (x, g))) (sym same) (all x k g at)

  -- what an event does by itself where no node takes an input
  links_same : (effects : Effects) → happening w e ≡ on_links effects → holdings (judged e answer.Ok p) ≡ holdings p
  links_same effects is = judged_seen e answer.Ok p ∙ by e is
    where
      of : Happening → Bool
      of (given_to y j) = true
      of (refused_for why) = true
      of (on_links x) = false

      no : {X : Type 0} → true ≡ false → X
      no bad = absurd cc

      step : (l : LinkId) (i : ℕ) (o : Option Flight) → of (step_of w l i o) ≡ true
      step l i None = refl
      step l i (Some f) = two (is_ordered l.class && nat_lt 0 i) (is_aged_for (node_at w l.to) (weight f))
        where
          two : (a b : Bool) → of (if a then refused_for refusal.NotFirst else if b then refused_for refusal.Aged else given_to l.to (Come l f)) ≡ true
          two true b = refl
          two false true = refl
          two false false = refl

      by : (x : Event) → happening w x ≡ on_links effects → with_event p x (holdings p) ≡ holdings p
      by (event.Lose l i) at = refl
      by (event.Again l i) at = refl
      by (event.Recover id) at = no (ap of at)
      by (event.Report node id) at = no (ap of at)
      by (event.Deny node on) at = no (ap of at)
      by (event.Ask node what) at = no (ap of at)
      by event.ScgFail at = no (ap of at)
      by (event.Submit id d payload) at = no (ap of at)
      by (event.Step l i) at = no (sym (step l i (slice_get (flights_on l w.links) i)) ∙ ap of at)
      by (event.Bearer id n first shape threshold policy) at = no (ap of at)
      by (event.Reshape id shape) at = no (ap of at)
      by (event.Remove id) at = no (ap of at)
      by (event.Add node) at = no (ap of at)
      by event.Change at = no (ap of at)
      by event.Release at = no (ap of at)
      by event.RekeySecond at = no (ap of at)
      by (event.RekeyMaster root) at = no (ap of at)

  module _ (s : Stands p w) where
    -- a node took an input
    module _ (x : Node) (i : Input) (is : IsSuited p w e x (carried_on c w (given_to x i)).1 (carried_on c w (given_to x i)).0) (down : Descends (fold noted (judged e (carried_on c w (given_to x i)).1.answer p) (lines_of (carried_on c w (given_to x i)).1))) where
      its : HoldsAll (fold noted (judged e (carried_on c w (given_to x i)).1.answer p) (lines_of (carried_on c w (given_to x i)).1)) x (actives_at x (carried_on c w (given_to x i)).0)
      its = itself p w e x (carried_on c w (given_to x i)).1 (carried_on c w (given_to x i)).0 is down (as_master c w s.right s.ordered x i) s.all

      others_too : (y : Node) → is_same_node x y ≡ false → actives_at y (carried_on c w (given_to x i)).0 ≡ actives_at y w → HoldsAll (fold noted (judged e (carried_on c w (given_to x i)).1.answer p) (lines_of (carried_on c w (given_to x i)).1)) y (actives_at y (carried_on c w (given_to x i)).0)
      others_too y apart same = each_other p w e x (carried_on c w (given_to x i)).1 (carried_on c w (given_to x i)).0 is down (as_master c w s.right s.ordered x i) s.all y apart same

    given_all : (x : Node) (i : Input) → IsSuited p w e x (carried_on c w (given_to x i)).1 (carried_on c w (given_to x i)).0 → Descends (fold noted (judged e (carried_on c w (given_to x i)).1.answer p) (lines_of (carried_on c w (given_to x i)).1))
        → AllHold (fold noted (judged e (carried_on c w (given_to x i)).1.answer p) (lines_of (carried_on c w (given_to x i)).1)) (carried_on c w (given_to x i)).0
    given_all T i is down T = its T i is down
    given_all T i is down M = others_too T i is down M refl refl
    given_all T i is down A = others_too T i is down A refl refl
    given_all T i is down B = others_too T i is down B refl refl
    given_all M i is down T = others_too M i is down T refl refl
    given_all M i is down M = its M i is down
    given_all M i is down A = others_too M i is down A refl refl
    given_all M i is down B = others_too M i is down B refl refl
    given_all A i is down T = others_too A i is down T refl refl
    given_all A i is down M = others_too A i is down M refl refl
    given_all A i is down A = its A i is down
    given_all A i is down B = others_too A i is down B refl refl
    given_all B i is down T = others_too B i is down T refl refl
    given_all B i is down M = others_too B i is down M refl refl
    given_all B i is down A = others_too B i is down A refl refl
    given_all B i is down B = its B i is down

    -- whatever happens
    happens_all : (h : Happening) → happening w e ≡ h → HappensSuited c p w e h → Descends (after p (entry_with e (carried_on c w h).1)) → AllByRecursion (IsOwnLine w e h) (lines_of (carried_on c w h).1)
        → AllHold (after p (entry_with e (carried_on c w h).1)) (carried_on c w h).0
    happens_all (given_to x i) at is down own = given_all x i is down
    happens_all (refused_for why) at is down own = same_held (judged e (answer.No why) p) (judged_seen e (answer.No why) p) s.all
    happens_all (on_links effects) at is down own =
        let q = judged e answer.Ok p in
        let ls = lines_of (carried_on c w (on_links effects)).1 in
        same_held (fold noted q ls) (still_lines ls q (each_weaker (IsCopyBy w e) (λ k. is_moving_line k ≡ false) (λ k copy. copy_still w e k s.holds.lasts.none copy) ls own) ∙ links_same effects at) s.all

    -- and its lines: each `give`, and each `up` of an uplink payload, is the holder's
    happens_give : (h : Happening) → HappensSuited c p w e h → AllByRecursion (IsOwnLine w e h) (lines_of (carried_on c w h).1)
        → EachLine (at_lines is_give_line (claim holder)).of_line (judged e (carried_on c w h).1.answer p) (lines_of (carried_on c w h).1)
    happens_give (given_to x i) is own = gives_claimed x (lines_of (carried_on c w (given_to x i)).1) (judged e (carried_on c w (given_to x i)).1.answer p) is.start is.fit is.suit (is.begins (s.all x))
    happens_give (refused_for why) is own = tt
    happens_give (on_links effects) is own =
        let ls = lines_of (carried_on c w (on_links effects)).1 in
        unasked is_give_line ls (judged e answer.Ok p) (each_weaker (IsCopyBy w e) (λ k. is_give_line k ≡ false) (λ k copy. copy_is (λ z. is_give_line z ≡ false) w e k (λ l i m f same tunnel at. refl) copy) ls own)

    happens_hand : (h : Happening) → HappensSuited c p w e h → AllByRecursion (IsOwnLine w e h) (lines_of (carried_on c w h).1)
        → EachLine (at_lines is_handing_line (claim holder)).of_line (judged e (carried_on c w h).1.answer p) (lines_of (carried_on c w h).1)
    happens_hand (given_to x i) is own = handings_claimed x (lines_of (carried_on c w (given_to x i)).1) (judged e (carried_on c w (given_to x i)).1.answer p) is.start is.fit is.suit (is.begins (s.all x))
    happens_hand (refused_for why) is own = tt
    happens_hand (on_links effects) is own =
        let ls = lines_of (carried_on c w (on_links effects)).1 in
        unasked is_handing_line ls (judged e answer.Ok p) (each_weaker (IsCopyBy w e) (λ k. is_handing_line k ≡ false) (λ k copy. copy_is (λ z. is_handing_line z ≡ false) w e k (λ l i m f same tunnel at. refl) copy) ls own)

-- ---- a run

same_actives : (c : Choices) (w : World) (e : Event) (x : Node) → actives_at x (world_step c w e).0 ≡ actives_at x (carried_on c w (happening w e)).0
same_actives c w e T = refl
same_actives c w e M = refl
same_actives c w e A = refl
same_actives c w e B = refl

pub stands_next : (c : Choices) (w : World) (p : Past) (e : Event) → AddsSecond e → Stands p w → HappensSuited c p w e (happening w e) → Stands (after p (world_step c w e).1) (world_step c w e).0
stands_next c w p e adds s is =
    let holds = holds_next c w p e adds s.holds in
    let all = happens_all c w p e s (happening w e) refl is (drawn_descends (after p (world_step c w e).1) holds.up.drawn) (own_lines c w e (happening w e) s.right.there (event_copies w e)) in
    record {
      holds = holds;
      right = right_next c w e s.right;
      ordered = event_ordered c w e s.ordered;
      all = λ x. subst (HoldsAll (after p (world_step c w e).1) x) (sym (same_actives c w e x)) (all x);
    }

pub stands_new : (c : Choices) (h : Header) (policies : ℕ) → Stands (new_past h policies) (new_world h)
stands_new c h policies = record {
  holds = holds_new c h policies;
  right = right_new h;
  ordered = record { terminal = tt; master = tt; a = tt; b = tt };
  all = none;
}
  where
    none : AllHold (new_past h policies) (new_world h)
    none T k g at = absurd (let bad : None ≡ Some g = at in cc)
    none M k g at = absurd (let bad : None ≡ Some g = at in cc)
    none A k g at = absurd (let bad : None ≡ Some g = at in cc)
    none B k g at = absurd (let bad : None ≡ Some g = at in cc)

pub stands_on : (c : Choices) (es : List Event) → AllByRecursion AddsSecond es → (w : World) (p : Past) → Stands p w → RunsSuited c p w es → Stands (past_from p (entries_from c w es)) (world_after c w es)
stands_on c [] adds w p s suited = s
stands_on c (e ∷ es) adds w p s suited = stands_on c es adds.1 (world_step c w e).0 (after p (world_step c w e).1) (stands_next c w p e adds.0 s suited.0) suited.1

gives_on : (c : Choices) (es : List Event) → AllByRecursion AddsSecond es → (w : World) (p : Past) → Stands p w → RunsSuited c p w es → Each (at_lines is_give_line (claim holder)) p (entries_from c w es)
gives_on c [] adds w p s suited = tt
gives_on c (e ∷ es) adds w p s suited = (
  happens_give c w p e s (happening w e) suited.0 (own_lines c w e (happening w e) s.right.there (event_copies w e)),
  refl,
  gives_on c es adds.1 (world_step c w e).0 (after p (world_step c w e).1) (stands_next c w p e adds.0 s suited.0) suited.1,
)

hands_on : (c : Choices) (es : List Event) → AllByRecursion AddsSecond es → (w : World) (p : Past) → Stands p w → RunsSuited c p w es → Each (at_lines is_handing_line (claim holder)) p (entries_from c w es)
hands_on c [] adds w p s suited = tt
hands_on c (e ∷ es) adds w p s suited = (
  happens_hand c w p e s (happening w e) suited.0 (own_lines c w e (happening w e) s.right.there (event_copies w e)),
  refl,
  hands_on c es adds.1 (world_step c w e).0 (after p (world_step c w e).1) (stands_next c w p e adds.0 s suited.0) suited.1,
)

-- in a run whose steps suit the past: after it each node holds, by the past, what it has an active anchor of, in the anchor's generation;
-- each `give` is the holder's, and so is each `up` of an uplink payload
pub all_hold_if : (c : Choices) (h : Header) (policies : ℕ) (es : List Event) → AllByRecursion AddsSecond es → RunsSuited c (new_past h policies) (new_world h) es
    → AllHold (past h policies (entries_from c (new_world h) es)) (world_after c (new_world h) es)
all_hold_if c h policies es adds suited = (stands_on c es adds (new_world h) (new_past h policies) (stands_new c h policies) suited).all

pub gives_by_holder_if : (c : Choices) (h : Header) (policies : ℕ) (es : List Event) → AllByRecursion AddsSecond es → RunsSuited c (new_past h policies) (new_world h) es
    → Each (at_lines is_give_line (claim holder)) (new_past h policies) (entries_from c (new_world h) es)
gives_by_holder_if c h policies es adds suited = gives_on c es adds (new_world h) (new_past h policies) (stands_new c h policies) suited

pub hands_by_holder_if : (c : Choices) (h : Header) (policies : ℕ) (es : List Event) → AllByRecursion AddsSecond es → RunsSuited c (new_past h policies) (new_world h) es
    → Each (at_lines is_handing_line (claim holder)) (new_past h policies) (entries_from c (new_world h) es)
hands_by_holder_if c h policies es adds suited = hands_on c es adds (new_world h) (new_past h policies) (stands_new c h policies) suited
