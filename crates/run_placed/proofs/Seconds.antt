-- What a secondary node notes of itself stands in its place, in each event of a run.
use Rattle.std.proofs.Common.{ℕ, ◌≡◌, ◌&&◌, Bool, true, false, List, [], ◌∷◌, Option, Some, None, slice_get, refl, sym, ap, subst, ◌∙◌, inl, inr}
use Rattle.std.specs.Prelude.{if◌then◌else◌, nat_lt}
use Rattle.std.specs.List.{AllByRecursion}
use Rattle.std.specs.Option.{option_map}
use Rattle.std.proofs.lemmas.Bool.{cases_Bool}
use Rattle.dc_base.specs.Links.{is_ordered, is_tunnel}
use Rattle.dc_base.specs.Nodes.{is_same_node}
use Rattle.dc_base.specs.declared.answers.Answer.TheVariants as answer
use Rattle.dc_base.specs.declared.answers.Refusal.{Refusal}
use Rattle.dc_base.specs.declared.answers.Refusal.TheVariants as refusal
use Rattle.dc_base.specs.declared.events.Event.{Event}
use Rattle.dc_base.specs.declared.events.Event.TheVariants as event
use Rattle.dc_base.specs.declared.events.Header.{Header}
use Rattle.dc_base.specs.declared.events.Line.TheVariants as line
use Rattle.dc_base.specs.declared.events.Note.{Note}
use Rattle.dc_base.specs.declared.events.Note.TheVariants as note
use Rattle.dc_base.specs.declared.flights.Flight.{Flight}
use Rattle.dc_base.specs.declared.flights.Flight.TheVariants as flight
use Rattle.dc_base.specs.declared.nodes.Cell.TheVariants as cell
use Rattle.dc_base.specs.declared.nodes.Class.{Class}
use Rattle.dc_base.specs.declared.nodes.Class.TheVariants.{Air, Ctl, Feed, Tun}
use Rattle.dc_base.specs.declared.nodes.Dir.TheVariants.{Dl, Ul}
use Rattle.dc_base.specs.declared.nodes.LinkId.{LinkId}
use Rattle.dc_base.specs.declared.nodes.Node.{Node}
use Rattle.dc_base.specs.declared.nodes.Node.TheVariants.{A, B, M, T}
use Rattle.dc_base.specs.declared.nodes.Want.{Want}
use Rattle.dc_base.specs.declared.records.Rec.{Rec}
use Rattle.dc_base.specs.declared.records.Rec.TheVariants as rec
use Rattle.claims.specs.Claim.{Each}
use Rattle.claims.specs.Judged.{judged}
use Rattle.claims.specs.Links.{find_at}
use Rattle.claims.specs.Names.{claim, placed}
use Rattle.claims.specs.Past.{Past, new_past}
use Rattle.claims.specs.Reading.{second, with_second}
use Rattle.claims.specs.Taking.{on_record, requested}
use Rattle.node_rules.specs.Acts.{first_refusal}
use Rattle.node_rules.specs.AnchorReceiving.{air_in, tunnel_in}
use Rattle.node_rules.specs.Choices.{Choices}
use Rattle.node_rules.specs.Effects.{accepted}
use Rattle.node_rules.specs.Flights.{flight_named, weight}
use Rattle.node_rules.specs.HostRules.{host_air_in, host_tunnel_in}
use Rattle.node_rules.specs.Lines.{lines_of}
use Rattle.node_rules.specs.Readers.{is_aged_for}
use Rattle.node_rules.specs.Run.{carried_on, copy_of, entries_from, happening, loss_of, node_at, refused_for, step_of, takes, world_step}
use Rattle.node_rules.specs.SecondState.{second_commands_unless, second_refusals}
use Rattle.node_rules.specs.SecondStep.{is_fit, second_commanded, second_control, second_step, second_takes}
use Rattle.node_rules.specs.Secondary.{SecondNode, active_at}
use Rattle.node_rules.specs.World.{World, flights_on, new_world}
use Rattle.node_rules.specs.declared.inputs.Input.{Input}
use Rattle.node_rules.specs.declared.inputs.Input.TheVariants.{Cmd, Come}
use Rattle.node_rules.specs.declared.inputs.Outcome.{Outcome}
use Rattle.run_seconds.specs.Sides.{held_by, side_of, sides}
use Rattle.run_seconds.proofs.Others.{AreOther, IsOther, master_other, terminal_other}
use Rattle.run_seconds.proofs.Runs.{Told, told_new, told_next}
use Rattle.run_seconds.proofs.Seeing.{after_sides}
use Rattle.run_uplinks.proofs.SecondNotes.{second_by_data, second_by_line, second_by_report}
use Rattle.run_words.specs.Parts.{at_lines}
use Rattle.run_words.proofs.Runs.{AreLinked, each_by, linked_new, linked_next}
use Rattle.run_words.proofs.Standing.{found_standing}
use Rattle.run_placed.specs.Lines.{is_second_note_line}
use Rattle.run_placed.proofs.OwnLines.{IsBefore, IsNoOwn, SecondPlaced, side_at, silent_placed}
use Rattle.run_placed.proofs.SecondRecords.{anchors_no_own, record_placed}

-- ---- notes of other nodes

other_no_own : (n : Note) → IsOther n → IsNoOwn (line.Note n)
other_no_own (note.Begin w) is = refl
other_no_own (note.Join x g) is = absurd cc
other_no_own (note.Leave x g) is = absurd cc
other_no_own (note.Give x id g) is = refl
other_no_own (note.Own x id g) is = refl
other_no_own (note.Set id g) is = refl
other_no_own (note.Unset id) is = refl
other_no_own (note.Up x id d count sdu) is = refl
other_no_own (note.Freed id d count) is = refl
other_no_own (note.Confirmed x) is = absurd cc
other_no_own (note.Refused x w) is = absurd cc
other_no_own note.Done is = refl
other_no_own note.Rejected is = refl

others_no_own : (ns : List Note) → AreOther ns → AllByRecursion (λ n. IsNoOwn (line.Note n)) ns
others_no_own [] all = tt
others_no_own (n ∷ ns) all = (other_no_own n all.0, others_no_own ns all.1)

-- ---- the record that is given

asked_given : (x : Node) (w : Want) (p : Past) → (requested x w p).given ≡ p.given
asked_given A w p = refl
asked_given B w p = refl
asked_given T w p = refl
asked_given M w p = refl

record_kept : (l : LinkId) (r : Rec) (p : Past) → (on_record l r p).given ≡ p.given
record_kept l (rec.Reconf q key) p = refl
record_kept l (rec.Rcomp g) p = refl
record_kept l (rec.Scgf failed) p = refl
record_kept l (rec.Recov id) p = refl
record_kept l (rec.Recovd id) p = refl
record_kept l (rec.Addreq q key) p = refl
record_kept l (rec.Addack g) p = refl
record_kept l (rec.Addrej g) p = refl
record_kept l (rec.Modreq q key) p = refl
record_kept l (rec.Modack g) p = refl
record_kept l (rec.Modrej g) p = refl
record_kept l (rec.Recfg g) p = refl
record_kept l (rec.Relreq q) p = refl
record_kept l (rec.Relack g) p = refl
record_kept l (rec.Relrej g) p = refl
record_kept l (rec.Uecr g) p = refl
record_kept l (rec.Snst status) p = refl
record_kept l (rec.Moved g id) p = refl
record_kept l (rec.Scgn id g) p = refl
record_kept l (rec.Modcnf g) p = refl
record_kept l (rec.Modref w) p = refl
record_kept l (rec.Chgcnf q) p = refl
record_kept l (rec.Chgref w) p = refl
record_kept l (rec.Relcnf q) p = refl
record_kept l rec.Modrqd p = asked_given l.from _ p
record_kept l rec.Chgrqd p = asked_given l.from _ p
record_kept l rec.Relrqd p = asked_given l.from _ p

-- ---- an event

module _ (c : Choices) (w : World) (p : Past) (told : Told p w) (linked : AreLinked p w) where
  abbrev PlacedAfter : Event → World × Outcome → Type 0
  PlacedAfter e done = SecondPlaced (judged e done.1.answer p) (lines_of done.1)

  silent : (e : Event) (done : World × Outcome) → AllByRecursion (λ n. IsNoOwn (line.Note n)) done.1.notes → PlacedAfter e done
  silent e done none = silent_placed done.1 (judged e done.1.answer p) none

  at_master : (e : Event) (i : Input) → PlacedAfter e (takes c w i M)
  at_master e i = silent e (takes c w i M) (others_no_own (takes c w i M).1.notes (master_other c w.master i))

  at_terminal : (e : Event) (i : Input) → PlacedAfter e (takes c w i T)
  at_terminal e i = silent e (takes c w i T) (others_no_own (takes c w i T).1.notes (terminal_other c w.terminal i))

  refused_placed : (e : Event) (why : Refusal) → PlacedAfter e (carried_on c w (refused_for why))
  refused_placed e why = silent e (carried_on c w (refused_for why)) tt

  -- ---- a flight comes to a secondary node

  module _ (l : LinkId) (i : ℕ) (f : Flight) (at : slice_get (flights_on l w.links) i ≡ Some f) where
    abbrev q : Past
    q = judged (event.Step l i) answer.Ok p

    found : find_at l i p.standing ≡ Some (l, f)
    found = found_standing p w linked.same l i ∙ ap (option_map (λ x. (l, x))) at

    -- at the node
    module _ (s : SecondNode) (at_side : (q' : Past) → side_of (second s.proc.me q') ≡ side_at s.proc.me (sides q')) (to : is_same_node s.proc.me l.to ≡ true) (mine : side_at s.proc.me (sides p) ≡ held_by s.proc) where
      same_sides : sides q ≡ sides p
      same_sides = after_sides p (record { event = event.Step l i; answer = answer.Ok; lines = [] })

      given_is : (r : Rec) → f ≡ flight.Ctl r → q.given ≡ Some (l, flight.Ctl r)
      given_is r same = rw (found, same) (record_kept l r _)

      control : (g : Flight) → f ≡ g → SecondPlaced q (lines_of (accepted (second_control c s g)).1)
      control (flight.Ctl r) same = record_placed c s at_side r (is_fit s r) q (record { given = record { link = l; given = given_is r same; to = to }; side = ap (side_at s.proc.me) same_sides ∙ mine })
      control (flight.Air id g num tag pdu) same = silent_placed (accepted (second_control c s (flight.Air id g num tag pdu))).1 q tt
      control (flight.Ack id g num) same = silent_placed (accepted (second_control c s (flight.Ack id g num))).1 q tt
      control (flight.Tun tag packet) same = silent_placed (accepted (second_control c s (flight.Tun tag packet))).1 q tt
      control (flight.Sdu id g payload) same = silent_placed (accepted (second_control c s (flight.Sdu id g payload))).1 q tt
      control (flight.End id g) same = silent_placed (accepted (second_control c s (flight.End id g))).1 q tt
      control (flight.Told id g count) same = silent_placed (accepted (second_control c s (flight.Told id g count))).1 q tt

      taken_placed : (k : Class) → SecondPlaced q (lines_of (accepted (second_takes c s f k)).1)
      taken_placed Ctl = control f refl
      taken_placed Feed = let o = (accepted (second_takes c s f Feed)).1 in silent_placed o q (anchors_no_own o.notes (second_by_line c s f))
      taken_placed Air =
          let o = (accepted (second_takes c s f Air)).1 in silent_placed o q (anchors_no_own o.notes (second_by_data s (λ a. air_in a cell.Scg f) (λ h. host_air_in h f) (flight_named f)))
      taken_placed Tun =
          let o = (accepted (second_takes c s f Tun)).1 in silent_placed o q (anchors_no_own o.notes (second_by_data s (λ a. tunnel_in c a f) (λ h. host_tunnel_in h f) (flight_named f)))

    same_name : (x y : Node) → x ≡ y → is_same_node x y ≡ true
    same_name x y same = subst (λ z. is_same_node x z ≡ true) same (itself x)
      where
        itself : (z : Node) → is_same_node z z ≡ true
        itself T = refl
        itself M = refl
        itself A = refl
        itself B = refl

    given_placed : (x : Node) → l.to ≡ x → PlacedAfter (event.Step l i) (takes c w (Come l f) x)
    given_placed T to = at_terminal (event.Step l i) (Come l f)
    given_placed M to = at_master (event.Step l i) (Come l f)
    given_placed A to =
        taken_placed w.a (subst (λ y. (q' : Past) → side_of (second y q') ≡ side_at y (sides q')) (sym told.is_a) (λ q'. refl)) (same_name w.a.proc.me l.to (told.is_a ∙ sym to))
        (ap (λ y. side_at y (sides p)) told.is_a ∙ ap (side_at A) told.sides_are) l.class
    given_placed B to =
        taken_placed w.b (subst (λ y. (q' : Past) → side_of (second y q') ≡ side_at y (sides q')) (sym told.is_b) (λ q'. refl)) (same_name w.b.proc.me l.to (told.is_b ∙ sym to))
        (ap (λ y. side_at y (sides p)) told.is_b ∙ ap (side_at B) told.sides_are) l.class

  step_placed : (l : LinkId) (i : ℕ) (o : Option Flight) → slice_get (flights_on l w.links) i ≡ o → PlacedAfter (event.Step l i) (carried_on c w (step_of w l i o))
  step_placed l i None at = refused_placed (event.Step l i) refusal.NoFlight
  step_placed l i (Some f) at =
      elim (cases_Bool (is_ordered l.class && nat_lt 0 i)) [
        | inl behind ↦ rw behind (refused_placed (event.Step l i) refusal.NotFirst)
        | inr first ↦ elim (cases_Bool (is_aged_for (node_at w l.to) (weight f))) [
          | inl aged ↦ rw (first, aged) (refused_placed (event.Step l i) refusal.Aged)
          | inr fresh ↦ rw (first, fresh) (given_placed l i f at l.to refl)
        ]
      ]

  loss_placed : (e : Event) (in_it : Bool) (o : Option Flight) → PlacedAfter e (carried_on c w (if in_it then loss_of o else refused_for refusal.NotTunnel))
  loss_placed e false o = refused_placed e refusal.NotTunnel
  loss_placed e true None = refused_placed e refusal.NoFlight
  loss_placed e true (Some f) = silent e (carried_on c w (loss_of (Some f))) tt

  copy_placed : (e : Event) (l : LinkId) (in_it : Bool) (o : Option Flight) → PlacedAfter e (carried_on c w (if in_it then copy_of l o else refused_for refusal.NotTunnel))
  copy_placed e l false o = refused_placed e refusal.NotTunnel
  copy_placed e l true None = refused_placed e refusal.NoFlight
  copy_placed e l true (Some f) = silent e (carried_on c w (copy_of l (Some f))) tt

  -- ---- events of the secondary nodes

  asked_silent : (s : SecondNode) (x : Node) (what : Want) (o : Option Refusal) → AllByRecursion (λ n. IsNoOwn (line.Note n)) (second_commanded c s (second_commands_unless s.proc (event.Ask x what) o)).1.notes
  asked_silent s x what None = tt
  asked_silent s x what (Some why) = tt

  denied_silent : (s : SecondNode) (x : Node) (on : Bool) (o : Option Refusal) → AllByRecursion (λ n. IsNoOwn (line.Note n)) (second_commanded c s (second_commands_unless s.proc (event.Deny x on) o)).1.notes
  denied_silent s x on None = tt
  denied_silent s x on (Some why) = tt

  -- a report
  report_a : (id : ℕ) → PlacedAfter (event.Report A id) (takes c w (Cmd (event.Report A id)) A)
  report_a id = silent (event.Report A id) (takes c w (Cmd (event.Report A id)) A) (anchors_no_own _ (second_by_report c w.a id (active_at w.a id)))

  report_b : (id : ℕ) → PlacedAfter (event.Report B id) (takes c w (Cmd (event.Report B id)) B)
  report_b id = silent (event.Report B id) (takes c w (Cmd (event.Report B id)) B) (anchors_no_own _ (second_by_report c w.b id (active_at w.b id)))

  event_placed : (e : Event) → PlacedAfter e (carried_on c w (happening w e))
  event_placed (event.Submit id Ul payload) = at_terminal (event.Submit id Ul payload) (Cmd (event.Submit id Ul payload))
  event_placed (event.Submit id Dl payload) = at_master (event.Submit id Dl payload) (Cmd (event.Submit id Dl payload))
  event_placed (event.Report T id) = at_terminal (event.Report T id) (Cmd (event.Report T id))
  event_placed (event.Report M id) = at_master (event.Report M id) (Cmd (event.Report M id))
  event_placed (event.Report A id) = report_a id
  event_placed (event.Report B id) = report_b id
  event_placed (event.Deny T on) = at_terminal (event.Deny T on) (Cmd (event.Deny T on))
  event_placed (event.Deny M on) = at_master (event.Deny M on) (Cmd (event.Deny M on))
  event_placed (event.Deny A on) = let e = event.Deny A on in silent e (takes c w (Cmd e) A) (denied_silent w.a A on (first_refusal (second_refusals w.a.proc e)))
  event_placed (event.Deny B on) = let e = event.Deny B on in silent e (takes c w (Cmd e) B) (denied_silent w.b B on (first_refusal (second_refusals w.b.proc e)))
  event_placed (event.Ask T what) = at_terminal (event.Ask T what) (Cmd (event.Ask T what))
  event_placed (event.Ask M what) = at_master (event.Ask M what) (Cmd (event.Ask M what))
  event_placed (event.Ask A what) = let e = event.Ask A what in silent e (takes c w (Cmd e) A) (asked_silent w.a A what (first_refusal (second_refusals w.a.proc e)))
  event_placed (event.Ask B what) = let e = event.Ask B what in silent e (takes c w (Cmd e) B) (asked_silent w.b B what (first_refusal (second_refusals w.b.proc e)))
  event_placed event.ScgFail = at_terminal event.ScgFail (Cmd event.ScgFail)
  event_placed (event.Step l i) = step_placed l i (slice_get (flights_on l w.links) i) refl
  event_placed (event.Lose l i) = loss_placed (event.Lose l i) (is_tunnel l.class) (slice_get (flights_on l w.links) i)
  event_placed (event.Again l i) = copy_placed (event.Again l i) l (is_tunnel l.class) (slice_get (flights_on l w.links) i)
  event_placed (event.Bearer id n first shape threshold policy) = let e = event.Bearer id n first shape threshold policy in at_master e (Cmd e)
  event_placed (event.Reshape id shape) = let e = event.Reshape id shape in at_master e (Cmd e)
  event_placed (event.Remove id) = let e = event.Remove id in at_master e (Cmd e)
  event_placed (event.Add x) = let e = event.Add x in at_master e (Cmd e)
  event_placed event.Change = at_master event.Change (Cmd event.Change)
  event_placed event.Release = at_master event.Release (Cmd event.Release)
  event_placed event.RekeySecond = at_master event.RekeySecond (Cmd event.RekeySecond)
  event_placed (event.RekeyMaster root) = let e = event.RekeyMaster root in at_master e (Cmd e)
  event_placed (event.Recover id) = let e = event.Recover id in at_master e (Cmd e)

-- ---- a run

-- what is so at any moment of a run
record Stands (p : Past) (w : World) : Type 0 where
  told : Told p w
  linked : AreLinked p w

-- each line of any run by which a secondary node joins or leaves, or by which what it asked for is confirmed or refused, stands in its
-- place
pub second_notes_placed : (c : Choices) (h : Header) (policies : ℕ) (es : List Event) → Each (at_lines is_second_note_line (claim placed)) (new_past h policies) (entries_from c (new_world h) es)
second_notes_placed c h policies es =
    each_by c (at_lines is_second_note_line (claim placed)) Stands
    (λ w p e is. event_placed c w p is.told is.linked e) (λ w p e is. refl)
    (λ w p e is. record { told = told_next c w p e is.told; linked = linked_next c w p e is.linked })
    es (new_world h) (new_past h policies) (record { told = told_new h policies; linked = linked_new h policies })
