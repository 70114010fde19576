-- Each `freed` line of an uplink, of each event, is past the one before.
use Rattle.std.proofs.Common.{ℕ, ◌≡◌, ◌&&◌, Bool, true, false, List, [], ◌∷◌, Option, Some, None, slice_get, refl, sym, ap, subst, ◌∙◌, inl, inr}
use Rattle.std.specs.Prelude.{Err, Ok, Result, if◌then◌else◌, nat_lt, not}
use Rattle.std.specs.List.{AllByRecursion, list_any}
use Rattle.std.proofs.lemmas.Bool.{cases_Bool}
use Rattle.dc_base.specs.Links.{is_ordered, is_tunnel}
use Rattle.dc_base.specs.declared.answers.Answer.TheVariants as answer
use Rattle.dc_base.specs.declared.answers.Refusal.{Refusal}
use Rattle.dc_base.specs.declared.answers.Refusal.TheVariants as refusal
use Rattle.dc_base.specs.declared.events.Event.{Event}
use Rattle.dc_base.specs.declared.events.Event.TheVariants as event
use Rattle.dc_base.specs.declared.events.Header.{Header}
use Rattle.dc_base.specs.declared.events.Line.TheVariants as line
use Rattle.dc_base.specs.declared.flights.Flight.{Flight}
use Rattle.dc_base.specs.declared.flights.Flight.TheVariants as flight
use Rattle.dc_base.specs.declared.nodes.Class.{Class}
use Rattle.dc_base.specs.declared.nodes.Class.TheVariants.{Air, Ctl, Feed, Tun}
use Rattle.dc_base.specs.declared.nodes.Dir.TheVariants.{Dl, Ul}
use Rattle.dc_base.specs.declared.nodes.LinkId.{LinkId}
use Rattle.dc_base.specs.declared.nodes.Node.{Node}
use Rattle.dc_base.specs.declared.nodes.Node.TheVariants.{A, B, M, T}
use Rattle.dc_base.specs.declared.records.Item.{Item}
use Rattle.dc_base.specs.declared.records.Item.TheVariants as item
use Rattle.dc_base.specs.declared.records.Plan.{Plan}
use Rattle.dc_base.specs.declared.records.Rec.{Rec}
use Rattle.dc_base.specs.declared.records.Rec.TheVariants as rec
use Rattle.key_chain.specs.KeyNames.{octets_of_side}
use Rattle.pdcp_pdu.specs.Pdu.{Content, decoded}
use Rattle.pdcp_pdu.specs.declared.pdu.PduErr.{PduErr}
use Rattle.pdcp_tx.specs.Sender.{low}
use Rattle.transcript.proofs.OnEach.{each_append}
use Rattle.claims.specs.Claim.{Each, EachLine, of_lines}
use Rattle.claims.specs.Judged.{judged}
use Rattle.claims.specs.Past.{Past, new_past}
use Rattle.node_rules.specs.Choices.{Choices}
use Rattle.node_rules.specs.Effects.{accepted, in_turn, quiet}
use Rattle.node_rules.specs.Entity.{risen, take_pdu}
use Rattle.node_rules.specs.Flights.{Named, flight_named, weight}
use Rattle.node_rules.specs.Held.{held}
use Rattle.node_rules.specs.Lines.{lines_of}
use Rattle.node_rules.specs.Readers.{is_aged_for}
use Rattle.node_rules.specs.Run.{carried_on, copy_of, entries_from, happening, loss_of, node_at, refused_for, step_of, takes}
use Rattle.node_rules.specs.Setup.{Setup, setup_of}
use Rattle.node_rules.specs.Terminal.{TerminalNode, air_taken, air_taken_by, half_did, half_set, half_set_if, is_takable, item_taken, plan_taken, recovered_half, reported_there, scg_fails, submitted_there, terminal_control, terminal_record, terminal_takes}
use Rattle.node_rules.specs.TerminalHalf.{TerminalHalf, is_taken, pdu_came, terminal_air_in}
use Rattle.node_rules.specs.World.{World, flights_on, new_world}
use Rattle.node_rules.specs.declared.inputs.Effects.{Effects}
use Rattle.node_rules.specs.declared.inputs.Input.{Input}
use Rattle.node_rules.specs.declared.inputs.Input.TheVariants.{Cmd, Come}
use Rattle.node_rules.specs.declared.inputs.Outcome.{Outcome}
use Rattle.run_control.specs.Sound.{AddsSecond}
use Rattle.run_table.specs.Words.{orders}
use Rattle.run_words.proofs.Runs.{each_if}
use Rattle.run_uplinks.specs.Answers.{uplink_rises}
use Rattle.run_uplinks.specs.Seen.{Seen, latest, seen}
use Rattle.run_uplinks.proofs.Events.{given_is}
use Rattle.run_uplinks.proofs.Freed.{IsQuiet, air_lines_rise, plain_lines_rise, quiet_lines}
use Rattle.run_uplinks.proofs.Given.{unseen_flight}
use Rattle.run_uplinks.proofs.Held.{Holds}
use Rattle.run_uplinks.proofs.MasterNotes.{master_plain}
use Rattle.run_uplinks.proofs.Runs.{holds_new, holds_next}
use Rattle.run_uplinks.proofs.SecondNotes.{ArePlain, second_plain}
use Rattle.run_uplinks.proofs.Seeing.{judged_seen}
use Rattle.run_uplinks.proofs.Terminals.{present_at}
use Rattle.run_uplinks.proofs.TerminalNotes.{did_notes}

-- ---- the notes of a plan

abbrev AreQuietNotes : Effects → Type 0
AreQuietNotes x = AllByRecursion (λ n. IsQuiet (line.Note n)) x.notes

half_quiet : (c : Choices) (t : TerminalNode) (id : ℕ) (s : Setup) (o : Option TerminalHalf) → AreQuietNotes (half_set c t id s o).1
half_quiet c t id s None = tt
half_quiet c t id s (Some h) = tt

half_if_quiet : (c : Choices) (t : TerminalNode) (id : ℕ) (o : Option Setup) → AreQuietNotes (half_set_if c t id o).1
half_if_quiet c t id None = tt
half_if_quiet c t id (Some s) = half_quiet c t id s (held id t.halves)

item_quiet : (c : Choices) (root : List ℕ) (p : Plan) (t : TerminalNode) (i : Item) → AreQuietNotes (item_taken c root p t i).1
item_quiet c root p t (item.Set id n first shape threshold policy key old) =
    (λ q. refl, half_if_quiet c t id (setup_of T p t.alg (octets_of_side root key.side) (item.Set id n first shape threshold policy key old)))
item_quiet c root p t (item.Unset id) = (λ q. refl, tt)

items_quiet : (c : Choices) (root : List ℕ) (p : Plan) (t : TerminalNode) (items : List Item) → AreQuietNotes (in_turn (item_taken c root p) t items).1
items_quiet c root p t [] = tt
items_quiet c root p t (i ∷ items) =
    let here = item_taken c root p t i in
    each_append (λ n. IsQuiet (line.Note n)) here.1.notes (in_turn (item_taken c root p) here.0 items).1.notes (item_quiet c root p t i) (items_quiet c root p here.0 items)

plan_quiet : (c : Choices) (root : List ℕ) (p : Plan) (t : TerminalNode) (takes' : Bool) → AreQuietNotes (plan_taken c root p t takes').1
plan_quiet c root p t true = items_quiet c root p (record t { sec = p.sec }) p.items
plan_quiet c root p t false = tt

recovery_quiet : (c : Choices) (t : TerminalNode) (id : ℕ) (o : Option TerminalHalf) → AreQuietNotes (recovered_half c t id o).1
recovery_quiet c t id None = tt
recovery_quiet c t id (Some h) = tt

record_quiet : (c : Choices) (t : TerminalNode) (r : Rec) → AreQuietNotes (terminal_record c t r).1
record_quiet c t (rec.Reconf q key) = plan_quiet c key q t (not (list_any (λ i. not (is_takable t i)) q.items))
record_quiet c t (rec.Recov id) = recovery_quiet c t id (held id t.halves)
record_quiet c t (rec.Rcomp g) = tt
record_quiet c t (rec.Scgf failed) = tt
record_quiet c t (rec.Recovd id) = tt
record_quiet c t (rec.Addreq plan key) = tt
record_quiet c t (rec.Addack g) = tt
record_quiet c t (rec.Addrej g) = tt
record_quiet c t (rec.Modreq plan key) = tt
record_quiet c t (rec.Modack g) = tt
record_quiet c t (rec.Modrej g) = tt
record_quiet c t (rec.Recfg g) = tt
record_quiet c t (rec.Relreq plan) = tt
record_quiet c t (rec.Relack g) = tt
record_quiet c t (rec.Relrej g) = tt
record_quiet c t (rec.Uecr g) = tt
record_quiet c t (rec.Snst status) = tt
record_quiet c t (rec.Moved g id) = tt
record_quiet c t (rec.Scgn id g) = tt
record_quiet c t rec.Modrqd = tt
record_quiet c t (rec.Modcnf g) = tt
record_quiet c t (rec.Modref word) = tt
record_quiet c t rec.Chgrqd = tt
record_quiet c t (rec.Chgcnf plan) = tt
record_quiet c t (rec.Chgref word) = tt
record_quiet c t rec.Relrqd = tt
record_quiet c t (rec.Relcnf plan) = tt

control_quiet : (c : Choices) (t : TerminalNode) (f : Flight) → AreQuietNotes (terminal_control c t f).1
control_quiet c t (flight.Ctl r) = record_quiet c t r
control_quiet c t (flight.Air id g num tag pdu) = tt
control_quiet c t (flight.Ack id g num) = tt
control_quiet c t (flight.Tun tag packet) = tt
control_quiet c t (flight.Sdu id g payload) = tt
control_quiet c t (flight.End id g) = tt
control_quiet c t (flight.Told id g count) = tt

-- ---- where Low rose

risen_less : (before after count : ℕ) → risen before after ≡ Some count → nat_lt before count ≡ true
risen_less before after count is = by (nat_lt before after) refl is
  where
    by : (b : Bool) → nat_lt before after ≡ b → (if b then Some after else None) ≡ Some count → nat_lt before count ≡ true
    by true less is' = let same : after ≡ count = cc in subst (λ k. nat_lt before k ≡ true) same less
    by false less is' = absurd (let bad : None ≡ Some count = is' in cc)

pdu_rises : (h : TerminalHalf) (from : Node) (num : ℕ) (r : Result Content PduErr) (count : ℕ) → (pdu_came h from num r).1.low ≡ Some count → nat_lt (low h.tx) count ≡ true
pdu_rises h from num (Err e) count is = absurd (let bad : None ≡ Some count = is in cc)
pdu_rises h from num (Ok x) count is = risen_less (low h.tx) (low (take_pdu h x).0.tx) count is

air_rises : (h : TerminalHalf) (from : Node) (f : Flight) (count : ℕ) → (terminal_air_in h from f).1.low ≡ Some count → nat_lt (low h.tx) count ≡ true
air_rises h from (flight.Air id g num tag pdu) count is =
    elim (cases_Bool (is_taken h.setup from id g)) [
      | inl yes' ↦ pdu_rises h from num (decoded h.setup.n pdu) count (rw yes' at is)
      | inr no' ↦ absurd (let bad : None ≡ Some count = rw no' at is in cc)
    ]
air_rises h from (flight.Ack id g num) count is =
    elim (cases_Bool (is_taken h.setup from id g)) [
      | inl yes' ↦ absurd (let bad : None ≡ Some count = rw yes' at is in cc)
      | inr no' ↦ absurd (let bad : None ≡ Some count = rw no' at is in cc)
    ]
air_rises h from (flight.Tun tag packet) count is = absurd (let bad : None ≡ Some count = is in cc)
air_rises h from (flight.Sdu id g payload) count is = absurd (let bad : None ≡ Some count = is in cc)
air_rises h from (flight.End id g) count is = absurd (let bad : None ≡ Some count = is in cc)
air_rises h from (flight.Told id g count') count is = absurd (let bad : None ≡ Some count = is in cc)
air_rises h from (flight.Ctl r) count is = absurd (let bad : None ≡ Some count = is in cc)

named_no_order : (f : Flight) (x : Named) → flight_named f ≡ Some x → orders f ≡ false
named_no_order (flight.Ctl r) x is = absurd (let bad : None ≡ Some x = is in cc)
named_no_order (flight.Air id g num tag pdu) x is = refl
named_no_order (flight.Ack id g num) x is = refl
named_no_order (flight.Tun tag packet) x is = refl
named_no_order (flight.Sdu id g payload) x is = refl
named_no_order (flight.End id g) x is = refl
named_no_order (flight.Told id g count) x is = refl

-- ---- an event

module _ (c : Choices) (w : World) (p : Past) (h : Holds p w) where
  abbrev RisesAfter : Event → World × Outcome → Type 0
  RisesAfter e done = EachLine uplink_rises (judged e done.1.answer p) (lines_of done.1)

  plain : (e : Event) (done : World × Outcome) → ArePlain done.1.notes → RisesAfter e done
  plain e done notes = plain_lines_rise done.1 (judged e done.1.answer p) notes

  at_master : (e : Event) (i : Input) → RisesAfter e (takes c w i M)
  at_master e i = plain e (takes c w i M) (master_plain c w.master i)

  at_a : (e : Event) (i : Input) → RisesAfter e (takes c w i A)
  at_a e i = plain e (takes c w i A) (second_plain c w.a i)

  at_b : (e : Event) (i : Input) → RisesAfter e (takes c w i B)
  at_b e i = plain e (takes c w i B) (second_plain c w.b i)

  refused_rises : (e : Event) (why : Refusal) → RisesAfter e (carried_on c w (refused_for why))
  refused_rises e why = plain e (carried_on c w (refused_for why)) tt

  -- ---- a flight comes to the terminal

  module _ (l : LinkId) (i : ℕ) (f : Flight) (at : slice_get (flights_on l w.links) i ≡ Some f) where
    abbrev q : Past
    q = judged (event.Step l i) answer.Ok p

    seen_there : orders f ≡ false → seen q ≡ seen p
    seen_there no' = judged_seen (event.Step l i) answer.Ok p ∙ given_is c w p h l i f at ∙ unseen_flight f (seen p) no'

    air_by : (id : ℕ) (o : Option TerminalHalf) → held id w.terminal.halves ≡ o → orders f ≡ false → EachLine uplink_rises q (lines_of (accepted (air_taken_by w.terminal l.from f id o)).1)
    air_by id None there no' = plain_lines_rise (accepted (air_taken_by w.terminal l.from f id None)).1 q tt
    air_by id (Some x) there no' =
        let u = present_at c (seen p) w.terminal h.up id x there in
        let done = terminal_air_in x l.from f in
        air_lines_rise (accepted (half_did w.terminal id done)).1 q id done.1.ups done.1.low u.0 refl (did_notes w.terminal id done)
        (ap (λ (s : Seen). latest id s.bearers) (seen_there no') ∙ u.1)
        (λ count is. ap (λ k. nat_lt k count) (sym u.2.sender.low_is) ∙ air_rises x l.from f count is)

    air_named : (o : Option Named) → flight_named f ≡ o → EachLine uplink_rises q (lines_of (accepted (air_taken w.terminal l.from f o)).1)
    air_named None is = plain_lines_rise (accepted (air_taken w.terminal l.from f None)).1 q tt
    air_named (Some (id, g)) is = air_by id (held id w.terminal.halves) refl (named_no_order f (id, g) is)

    by_class : (k : Class) → EachLine uplink_rises q (lines_of (accepted (terminal_takes c w.terminal l.from f k)).1)
    by_class Ctl = quiet_lines (accepted (terminal_control c w.terminal f)).1 q (control_quiet c w.terminal f)
    by_class Feed = plain_lines_rise (accepted (w.terminal, quiet)).1 q tt
    by_class Air = air_named (flight_named f) refl
    by_class Tun = plain_lines_rise (accepted (w.terminal, quiet)).1 q tt

    given_rises : (x : Node) → RisesAfter (event.Step l i) (takes c w (Come l f) x)
    given_rises T = by_class l.class
    given_rises M = at_master (event.Step l i) (Come l f)
    given_rises A = at_a (event.Step l i) (Come l f)
    given_rises B = at_b (event.Step l i) (Come l f)

  step_rises : (l : LinkId) (i : ℕ) (o : Option Flight) → slice_get (flights_on l w.links) i ≡ o → RisesAfter (event.Step l i) (carried_on c w (step_of w l i o))
  step_rises l i None at = refused_rises (event.Step l i) refusal.NoFlight
  step_rises l i (Some f) at =
      elim (cases_Bool (is_ordered l.class && nat_lt 0 i)) [
        | inl behind ↦ rw behind (refused_rises (event.Step l i) refusal.NotFirst)
        | inr first ↦ elim (cases_Bool (is_aged_for (node_at w l.to) (weight f))) [
          | inl aged ↦ rw (first, aged) (refused_rises (event.Step l i) refusal.Aged)
          | inr fresh ↦ rw (first, fresh) (given_rises l i f at l.to)
        ]
      ]

  loss_rises : (e : Event) (in_it : Bool) (o : Option Flight) → RisesAfter e (carried_on c w (if in_it then loss_of o else refused_for refusal.NotTunnel))
  loss_rises e false o = refused_rises e refusal.NotTunnel
  loss_rises e true None = refused_rises e refusal.NoFlight
  loss_rises e true (Some f) = plain e (carried_on c w (loss_of (Some f))) tt

  copy_rises : (e : Event) (l : LinkId) (in_it : Bool) (o : Option Flight) → RisesAfter e (carried_on c w (if in_it then copy_of l o else refused_for refusal.NotTunnel))
  copy_rises e l false o = refused_rises e refusal.NotTunnel
  copy_rises e l true None = refused_rises e refusal.NoFlight
  copy_rises e l true (Some f) = plain e (carried_on c w (copy_of l (Some f))) tt

  -- events of the terminal
  submission_plain : (id : ℕ) (payload : List ℕ) (o : Option TerminalHalf) → ArePlain (submitted_there c w.terminal id payload o).1.notes
  submission_plain id payload None = tt
  submission_plain id payload (Some x) = tt

  report_plain : (id : ℕ) (o : Option TerminalHalf) → ArePlain (reported_there c w.terminal id o).1.notes
  report_plain id None = tt
  report_plain id (Some x) = tt

  failure_plain : (o : Option Node) → ArePlain (scg_fails w.terminal o).1.notes
  failure_plain None = tt
  failure_plain (Some x) = tt

  other : (e : Event) (x : Node) → RisesAfter e (takes c w (Cmd e) T) → RisesAfter e (takes c w (Cmd e) x)
  other e T here = here
  other e M here = at_master e (Cmd e)
  other e A here = at_a e (Cmd e)
  other e B here = at_b e (Cmd e)

  event_rises : (e : Event) → RisesAfter e (carried_on c w (happening w e))
  event_rises (event.Submit id Ul payload) = plain (event.Submit id Ul payload) (takes c w (Cmd (event.Submit id Ul payload)) T) (submission_plain id payload (held id w.terminal.halves))
  event_rises (event.Submit id Dl payload) = at_master (event.Submit id Dl payload) (Cmd (event.Submit id Dl payload))
  event_rises (event.Report x id) = other (event.Report x id) x (plain (event.Report x id) (takes c w (Cmd (event.Report x id)) T) (report_plain id (held id w.terminal.halves)))
  event_rises (event.Deny x on) = other (event.Deny x on) x (plain (event.Deny x on) (takes c w (Cmd (event.Deny x on)) T) tt)
  event_rises (event.Ask x what) = other (event.Ask x what) x (plain (event.Ask x what) (takes c w (Cmd (event.Ask x what)) T) tt)
  event_rises event.ScgFail = plain event.ScgFail (takes c w (Cmd event.ScgFail) T) (failure_plain w.terminal.sec)
  event_rises (event.Step l i) = step_rises l i (slice_get (flights_on l w.links) i) refl
  event_rises (event.Lose l i) = loss_rises (event.Lose l i) (is_tunnel l.class) (slice_get (flights_on l w.links) i)
  event_rises (event.Again l i) = copy_rises (event.Again l i) l (is_tunnel l.class) (slice_get (flights_on l w.links) i)
  event_rises (event.Bearer id n first shape threshold policy) = let e = event.Bearer id n first shape threshold policy in at_master e (Cmd e)
  event_rises (event.Reshape id shape) = let e = event.Reshape id shape in at_master e (Cmd e)
  event_rises (event.Remove id) = let e = event.Remove id in at_master e (Cmd e)
  event_rises (event.Add x) = let e = event.Add x in at_master e (Cmd e)
  event_rises event.Change = at_master event.Change (Cmd event.Change)
  event_rises event.Release = at_master event.Release (Cmd event.Release)
  event_rises event.RekeySecond = at_master event.RekeySecond (Cmd event.RekeySecond)
  event_rises (event.RekeyMaster root) = let e = event.RekeyMaster root in at_master e (Cmd e)
  event_rises (event.Recover id) = let e = event.Recover id in at_master e (Cmd e)

-- each `freed` line of an uplink of any run is past the one before
pub freed_lines_rise : (c : Choices) (h : Header) (policies : ℕ) (es : List Event) → AllByRecursion AddsSecond es
    → Each (of_lines uplink_rises) (new_past h policies) (entries_from c (new_world h) es)
freed_lines_rise c h policies es names =
    each_if c (of_lines uplink_rises) AddsSecond Holds (λ w p e name holds. event_rises c w p holds e) (λ w p e name holds. refl) (holds_next c)
    es names (new_world h) (new_past h policies) (holds_new c h policies)
