-- In each run each line that sends an uplink data PDU protects its submission.
use Rattle.std.proofs.Common.{ℕ, ◌≡◌, ◌&&◌, Bool, true, false, List, [], ◌∷◌, Option, Some, None, slice_get, refl, sym, ap, subst, ◌∙◌, inl, inr}
use Rattle.std.specs.Prelude.{if◌then◌else◌, nat_lt, ⊤}
use Rattle.std.specs.List.{AllByRecursion}
use Rattle.std.specs.Option.{option_map}
use Rattle.std.proofs.lemmas.Bool.{cases_Bool}
use Rattle.dc_base.specs.Links.{is_ordered, is_tunnel}
use Rattle.dc_base.specs.Nodes.{is_same_node}
use Rattle.dc_base.specs.declared.answers.Answer.TheVariants as answer
use Rattle.dc_base.specs.declared.answers.Refusal.TheVariants as refusal
use Rattle.dc_base.specs.declared.events.Event.{Event}
use Rattle.dc_base.specs.declared.events.Event.TheVariants as event
use Rattle.dc_base.specs.declared.events.Header.{Header}
use Rattle.dc_base.specs.declared.events.Line.{Line}
use Rattle.dc_base.specs.declared.events.Line.TheVariants as line
use Rattle.dc_base.specs.declared.events.Note.{Note}
use Rattle.dc_base.specs.declared.flights.Flight.{Flight}
use Rattle.dc_base.specs.declared.flights.Flight.TheVariants as flight
use Rattle.dc_base.specs.declared.nodes.Class.{Class}
use Rattle.dc_base.specs.declared.nodes.Class.TheVariants.{Air, Ctl, Feed, Tun}
use Rattle.dc_base.specs.declared.nodes.LinkId.{LinkId}
use Rattle.dc_base.specs.declared.nodes.Node.{Node}
use Rattle.dc_base.specs.declared.nodes.Node.TheVariants.{A, B, M, T}
use Rattle.transcript.proofs.OnEach.{each_at}
use Rattle.claims.specs.Claim.{Each, EachLine}
use Rattle.claims.specs.Judged.{judged}
use Rattle.claims.specs.Links.{find_at, without}
use Rattle.claims.specs.Noted.{after, noted, past, past_from}
use Rattle.claims.specs.Past.{Past, new_past}
use Rattle.claims.specs.Protected.{is_protected}
use Rattle.claims.specs.Taking.{given_if}
use Rattle.node_rules.specs.Choices.{Choices}
use Rattle.node_rules.specs.Flights.{weight}
use Rattle.node_rules.specs.Lines.{lines_of}
use Rattle.node_rules.specs.Readers.{is_aged_for}
use Rattle.node_rules.specs.Run.{Happening, carried_on, copy_of, entries_from, given_to, happening, loss_of, node_at, on_links, refused_for, step_of, world_step}
use Rattle.node_rules.specs.World.{World, flights_on, new_world}
use Rattle.transcript.proofs.OnEach.{each_weaker}
use Rattle.node_rules.specs.declared.inputs.Input.TheVariants.{Cmd, Come}
use Rattle.node_rules.specs.declared.inputs.Outcome.{Outcome}
use Rattle.run_control.specs.Sound.{AddsSecond}
use Rattle.run_senders.specs.Holders.{AreThere}
use Rattle.run_senders.specs.Kinds.{MayBeOn, is_of_terminal}
use Rattle.run_senders.specs.Lines.{IsCopyBy, IsOwnLine}
use Rattle.run_senders.proofs.Lines.{event_copies, own_lines}
use Rattle.run_senders.proofs.MasterSends.{master_sends}
use Rattle.run_senders.proofs.SecondSends.{second_sends}
use Rattle.run_senders.proofs.Standing.{StandRight}
use Rattle.run_uplinks.specs.Readings.{reading}
use Rattle.run_uplinks.specs.Seen.{seen}
use Rattle.run_uplinks.proofs.Protected.{ProtectsIf, event_protects}
use Rattle.run_words.proofs.Lines.{each_line_of}
use Rattle.run_words.proofs.Standing.{found_standing}
use Rattle.run_words.specs.Senders.{AreBy, class_of}
use Rattle.run_words.specs.Standing.{StandsAs}
use Rattle.run_relays.specs.Kept.{AreSmall}
use Rattle.run_relays.specs.Lines.{protects_uplink, sends_uplink, uplink_protected}
use Rattle.run_relays.specs.Relays.{AreOnLinks, ArePlain, AreSentFor, OnLink}
use Rattle.run_relays.proofs.Claimed.{HoldsFrom, each_from}
use Rattle.run_relays.proofs.Contexts.{taken_context}
use Rattle.run_relays.proofs.FromTerminal.{link_stays}
use Rattle.run_relays.proofs.Keeping.{small_before}
use Rattle.run_relays.proofs.Pasts.{Becomes, IsRead, becomes_self, becomes_then, judged_becomes, lines_become}
use Rattle.run_relays.proofs.Protecting.{SendHolds, copy_holds, if_true, plain_hold, sent_hold}
use Rattle.run_relays.proofs.Runs.{Relays, relays_new, relays_next, run_becomes}
use Rattle.run_relays.proofs.Steps.{AnyHost, AreSentIn, GivenOn, any_hosts, carried_sends, event_given}

-- ---- what the past of an event has of a flight

-- the flight that is given
abbrev Gives : Past → Event → Happening → Type 0
Gives p e (given_to x (Come l f)) = (judged e answer.Ok p).given ≡ Some (l, f)
Gives p e (given_to x (Cmd y)) = ⊤
Gives p e (refused_for why) = ⊤
Gives p e (on_links effects) = ⊤

module _ (p : Past) (w : World) (same : StandsAs p w) where
  found : (l : LinkId) (i : ℕ) (f : Flight) → slice_get (flights_on l w.links) i ≡ Some f → find_at l i p.standing ≡ Some (l, f)
  found l i f at = found_standing p w same l i ∙ ap (option_map (λ x. (l, x))) at

  given_is : (l : LinkId) (i : ℕ) (f : Flight) → slice_get (flights_on l w.links) i ≡ Some f → (judged (event.Step l i) answer.Ok p).given ≡ Some (l, f)
  given_is l i f at =
      let e = event.Step l i in
      let q : Past = record p { earlier = p.pdus; event = e; answer = answer.Ok; given = None; copied = None; fresh = []; said = []; standing = without l i p.standing } in
      ap (λ o. (given_if o q).given) (found l i f at) ∙ ap (λ (c : Option (LinkId × Flight) × Option (LinkId × Flight)). c.0) (taken_context l f (record q { given = Some (l, f) }))

  step_gives : (l : LinkId) (i : ℕ) (o : Option Flight) → slice_get (flights_on l w.links) i ≡ o → Gives p (event.Step l i) (step_of w l i o)
  step_gives l i None at = tt
  step_gives l i (Some f) at =
      elim (cases_Bool (is_ordered l.class && nat_lt 0 i)) [
        | inl behind ↦ rw behind tt
        | inr first ↦ elim (cases_Bool (is_aged_for (node_at w l.to) (weight f))) [
          | inl aged ↦ rw (first, aged) tt
          | inr fresh ↦ rw (first, fresh) (given_is l i f at)
        ]
      ]

  loss_gives : (e : Event) (in_it : Bool) (o : Option Flight) → Gives p e (if in_it then loss_of o else refused_for refusal.NotTunnel)
  loss_gives e false o = tt
  loss_gives e true None = tt
  loss_gives e true (Some f) = tt

  copy_gives : (e : Event) (l : LinkId) (in_it : Bool) (o : Option Flight) → Gives p e (if in_it then copy_of l o else refused_for refusal.NotTunnel)
  copy_gives e l false o = tt
  copy_gives e l true None = tt
  copy_gives e l true (Some f) = tt

  event_gives : (e : Event) → Gives p e (happening w e)
  event_gives (event.Step l i) = step_gives l i (slice_get (flights_on l w.links) i) refl
  event_gives (event.Lose l i) = loss_gives (event.Lose l i) (is_tunnel l.class) (slice_get (flights_on l w.links) i)
  event_gives (event.Again l i) = copy_gives (event.Again l i) l (is_tunnel l.class) (slice_get (flights_on l w.links) i)
  event_gives (event.Bearer id n first shape threshold policy) = tt
  event_gives (event.Reshape id shape) = tt
  event_gives (event.Remove id) = tt
  event_gives (event.Add x) = tt
  event_gives event.Change = tt
  event_gives event.Release = tt
  event_gives event.RekeySecond = tt
  event_gives (event.RekeyMaster root) = tt
  event_gives (event.Recover id) = tt
  event_gives (event.Report x id) = tt
  event_gives (event.Deny x on) = tt
  event_gives (event.Ask x what) = tt
  event_gives event.ScgFail = tt
  event_gives (event.Submit id d sdu) = tt

-- ---- lines

-- where each line is protected
from_all : (p : Past) (xs : List Line) → EachLine is_protected p xs → EachLine protects_uplink p xs
from_all p [] all = tt
from_all p (x ∷ xs) all = (if_true (sends_uplink p x) (is_protected p x) all.0, from_all (noted p x) xs all.1)

-- a note sends nothing
note_holds : (p : Past) (ns : List Note) → AllByRecursion (λ n. HoldsFrom protects_uplink p (line.Note n)) ns
note_holds p [] = tt
note_holds p (n ∷ ns) = (λ q becomes same. refl, note_holds p ns)

-- the lines of an outcome, by its sends
by_sends : (p : Past) (o : Outcome) → IsRead p → AllByRecursion (SendHolds p) o.sends → EachLine protects_uplink p (lines_of o)
by_sends p o is sends = each_from protects_uplink p (lines_of o) p (becomes_self p is) refl (each_line_of (HoldsFrom protects_uplink p) o (note_holds p o.notes) sends)

-- what may come from the terminal stands in no tunnel
no_tunnel : (k : Class) (f : Flight) → k ≡ class_of f → is_tunnel k ≡ true → (l : LinkId) → is_of_terminal l f ≡ false
no_tunnel Tun (flight.Tun tag packet) same tunnel l = refl
no_tunnel Tun (flight.Air id g num tag pdu) same tunnel l = absurd cc
no_tunnel Tun (flight.Ack id g num) same tunnel l = absurd cc
no_tunnel Tun (flight.Sdu id g sdu) same tunnel l = refl
no_tunnel Tun (flight.End id g) same tunnel l = refl
no_tunnel Tun (flight.Told id g count) same tunnel l = refl
no_tunnel Tun (flight.Ctl r) same tunnel l = absurd cc
no_tunnel Ctl f same tunnel l = absurd cc
no_tunnel Feed f same tunnel l = absurd cc
no_tunnel Air f same tunnel l = absurd cc

not_there : (l : LinkId) (f : Flight) → MayBeOn l f → is_tunnel l.class ≡ true → is_same_node l.from T ≡ false
not_there l f may tunnel =
    elim (cases_Bool (is_same_node l.from T)) [
      | inl from ↦ let bad : false ≡ true = sym (no_tunnel l.class f may.class tunnel l) ∙ may.terminal from in absurd cc
      | inr other ↦ other
    ]

module _ (p : Past) (w : World) (read : IsRead p) (on : AreOnLinks (reading (seen p)) w) (right : StandRight w) (same : StandsAs p w) where
  -- before the lines of an event the same is so
  begins : (e : Event) → Becomes p (judged e answer.Ok p)
  begins e = judged_becomes e answer.Ok p read

  copy_line : (l : LinkId) (i : ℕ) (m : LinkId) (f : Flight) → m ≡ l → is_tunnel l.class ≡ true → slice_get (flights_on l w.links) i ≡ Some f → AreSmall (reading (seen (judged (event.Again l i) answer.Ok p)))
      → HoldsFrom protects_uplink (judged (event.Again l i) answer.Ok p) (line.Send m f)
  copy_line l i m f at tunnel stands now =
      let q = judged (event.Again l i) answer.Ok p in
      subst (λ k. HoldsFrom protects_uplink q (line.Send k f)) (sym at)
      (copy_holds q l f now (link_stays (reading (seen p)) (reading (seen q)) l f (begins (event.Again l i)).grows (each_at (OnLink (reading (seen p)) l) (flights_on l w.links) i f (on l) stands))
      (not_there l f (each_at (MayBeOn l) (flights_on l w.links) i f (right l) stands) tunnel) (found p w same l i f stands))

  -- the line of a copy
  copy_lines : (e : Event) (k : Line) → AreSmall (reading (seen (judged e answer.Ok p))) → IsCopyBy w e k → HoldsFrom protects_uplink (judged e answer.Ok p) k
  copy_lines (event.Again l i) (line.Send m f) small copy = copy_line l i m f copy.0 copy.1 copy.2 small
  copy_lines (event.Again l i) (line.Note n) small copy = absurd copy
  copy_lines (event.Again l i) (line.Event e) small copy = absurd copy
  copy_lines (event.Again l i) (line.Answer a) small copy = absurd copy
  copy_lines (event.Step l i) k small copy = absurd copy
  copy_lines (event.Lose l i) k small copy = absurd copy
  copy_lines (event.Bearer id n first shape threshold policy) k small copy = absurd copy
  copy_lines (event.Reshape id shape) k small copy = absurd copy
  copy_lines (event.Remove id) k small copy = absurd copy
  copy_lines (event.Add x) k small copy = absurd copy
  copy_lines event.Change k small copy = absurd copy
  copy_lines event.Release k small copy = absurd copy
  copy_lines event.RekeySecond k small copy = absurd copy
  copy_lines (event.RekeyMaster root) k small copy = absurd copy
  copy_lines (event.Recover id) k small copy = absurd copy
  copy_lines (event.Report x id) k small copy = absurd copy
  copy_lines (event.Deny x which) k small copy = absurd copy
  copy_lines (event.Ask x what) k small copy = absurd copy
  copy_lines event.ScgFail k small copy = absurd copy
  copy_lines (event.Submit id d sdu) k small copy = absurd copy

  module _ (c : Choices) (e : Event) (there : AreThere w) where
    -- another node takes a flight
    taken : (x : Node) (l : LinkId) (f : Flight) (o : Outcome) → o.answer ≡ answer.Ok → is_same_node x T ≡ false → GivenOn (reading (seen p)) (given_to x (Come l f)) → Gives p e (given_to x (Come l f)) → AreBy x o.sends
        → AreSentFor AnyHost f o.sends → AreSmall (reading (seen (judged e o.answer p))) → EachLine protects_uplink (judged e o.answer p) (lines_of o)
    taken x l f o ok other given gives by sent small =
        let q = judged e answer.Ok p in
        let now = subst (λ a. AreSmall (reading (seen (judged e a p)))) ok small in
        subst (λ a. EachLine protects_uplink (judged e a p) (lines_of o)) (sym ok)
        (by_sends q o (begins e).is (sent_hold q x l f o.sends now (link_stays (reading (seen p)) (reading (seen q)) l f (begins e).grows given.1) gives given.0 other by sent))

    -- or an event
    commanded : (x : Node) (o : Outcome) → is_same_node x T ≡ false → AreBy x o.sends → ArePlain o.sends → EachLine protects_uplink (judged e o.answer p) (lines_of o)
    commanded x o other by plain = let q = judged e o.answer p in by_sends q o (judged_becomes e o.answer p read).is (plain_hold q x o.sends other by plain)

    -- what happens
    event_holds : (h : Happening) → GivenOn (reading (seen p)) h → Gives p e h → AreSentIn AnyHost h (carried_on c w h).1.sends → ProtectsIf c w p e h → AllByRecursion (IsOwnLine w e h) (lines_of (carried_on c w h).1)
        → let o = (carried_on c w h).1 in AreSmall (reading (seen (judged e o.answer p))) → EachLine protects_uplink (judged e o.answer p) (lines_of o)
    event_holds (given_to T i) given gives sent protects own small = let o = (carried_on c w (given_to T i)).1 in from_all (judged e o.answer p) (lines_of o) protects
    event_holds (given_to M (Come l f)) given gives sent protects own small =
        taken M l f (carried_on c w (given_to M (Come l f))).1 refl refl given gives (master_sends c w.master (Come l f) there.master).by sent small
    event_holds (given_to A (Come l f)) given gives sent protects own small =
        taken A l f (carried_on c w (given_to A (Come l f))).1 refl refl given gives (second_sends A c w.a (Come l f) there.a).by sent small
    event_holds (given_to B (Come l f)) given gives sent protects own small =
        taken B l f (carried_on c w (given_to B (Come l f))).1 refl refl given gives (second_sends B c w.b (Come l f) there.b).by sent small
    event_holds (given_to M (Cmd x)) given gives sent protects own small = commanded M (carried_on c w (given_to M (Cmd x))).1 refl (master_sends c w.master (Cmd x) there.master).by sent
    event_holds (given_to A (Cmd x)) given gives sent protects own small = commanded A (carried_on c w (given_to A (Cmd x))).1 refl (second_sends A c w.a (Cmd x) there.a).by sent
    event_holds (given_to B (Cmd x)) given gives sent protects own small = commanded B (carried_on c w (given_to B (Cmd x))).1 refl (second_sends B c w.b (Cmd x) there.b).by sent
    event_holds (refused_for why) given gives sent protects own small = tt
    event_holds (on_links effects) given gives sent protects own small =
        let o = (carried_on c w (on_links effects)).1 in
        let q = judged e answer.Ok p in
        each_from protects_uplink q (lines_of o) q (becomes_self q (begins e).is) refl (each_weaker (IsCopyBy w e) (HoldsFrom protects_uplink q) (λ k copy. copy_lines e k small copy) (lines_of o) own)

-- ---- a run

-- while the plans drawn are small
protected_on : (c : Choices) (es : List Event) → AllByRecursion AddsSecond es → (w : World) (p : Past) → Relays p w → AreSmall (reading (seen (past_from p (entries_from c w es)))) → Each uplink_protected p (entries_from c w es)
protected_on c [] adds w p is small = tt
protected_on c (e ∷ es) adds w p is small =
    let h = happening w e in
    let x = (world_step c w e).1 in
    let q = judged e x.answer p in
    let one = judged_becomes e x.answer p is.read in
    let next = lines_become x.lines q one.is in
    let more = run_becomes c es (world_step c w e).0 (after p x) next.is in
    let all = becomes_then q (after p x) (past_from (after p x) (entries_from c (world_step c w e).0 es)) next more in (
      event_holds p w is.read is.on is.right.right is.holds.stands c e is.right.there h (event_given (reading (seen p)) w is.on e) (event_gives p w is.holds.stands e) (carried_sends AnyHost c w h (any_hosts w) is.any)
          (event_protects c w p is.holds e) (own_lines c w e h is.right.there (event_copies w e)) (small_before (reading (seen q)) (reading (seen (past_from (after p x) (entries_from c (world_step c w e).0 es)))) all.grows small),
      refl,
      protected_on c es adds.1 (world_step c w e).0 (after p x) (relays_next c w p e adds.0 is) small,
    )

-- after any events of which each addition is of a secondary node, while the plans drawn are small: each line that sends an uplink data
-- PDU, whether from the terminal, relayed by a leg host or as a copy, protects the submission of its tag under the key of its plan,
-- and what is relayed is passed on or copied
pub uplinks_protected_all : (c : Choices) (h : Header) (policies : ℕ) (es : List Event) → AllByRecursion AddsSecond es → AreSmall (reading (seen (past h policies (entries_from c (new_world h) es))))
    → Each uplink_protected (new_past h policies) (entries_from c (new_world h) es)
uplinks_protected_all c h policies es adds small = protected_on c es adds (new_world h) (new_past h policies) (relays_new c h policies) small
