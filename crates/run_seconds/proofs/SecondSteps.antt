-- Whatever comes to a secondary node, what is said of it stays what its procedures hold.
use Rattle.std.proofs.Common.{ℕ, ◌≡◌, ◌==◌, ◌++◌, Bool, true, false, List, [], ◌∷◌, Option, Some, None, refl, sym, ap, ◌∙◌, inl, inr}
use Rattle.std.specs.Prelude.{Err, Ok, Result, fold, is_some}
use Rattle.std.specs.List.{AllByRecursion}
use Rattle.std.proofs.lemmas.Bool.{cases_Bool}
use Rattle.dc_base.specs.declared.answers.Answer.{Answer}
use Rattle.dc_base.specs.declared.answers.Answer.TheVariants as answer
use Rattle.dc_base.specs.declared.answers.Refusal.{Refusal}
use Rattle.dc_base.specs.declared.events.Event.{Event}
use Rattle.dc_base.specs.declared.events.Event.TheVariants as event
use Rattle.dc_base.specs.declared.events.Note.{Note}
use Rattle.dc_base.specs.declared.flights.Flight.{Flight}
use Rattle.dc_base.specs.declared.flights.Flight.TheVariants as flight
use Rattle.dc_base.specs.declared.nodes.Cell.TheVariants as cell
use Rattle.dc_base.specs.declared.nodes.Class.{Class}
use Rattle.dc_base.specs.declared.nodes.Class.TheVariants.{Air, Ctl, Feed, Tun}
use Rattle.dc_base.specs.declared.nodes.Node.{Node}
use Rattle.dc_base.specs.declared.nodes.Want.{Want}
use Rattle.dc_base.specs.declared.records.Rec.{Rec}
use Rattle.node_rules.specs.Acts.{ProcFault, first_refusal}
use Rattle.node_rules.specs.Anchor.{Active, AnchorState}
use Rattle.node_rules.specs.AnchorReceiving.{air_in, tunnel_in}
use Rattle.node_rules.specs.AnchorSending.{report}
use Rattle.node_rules.specs.Choices.{Choices, Send}
use Rattle.node_rules.specs.Feed.{Fed, Frozen, sdu_in}
use Rattle.node_rules.specs.Flights.{Named, flight_named}
use Rattle.node_rules.specs.Held.{held}
use Rattle.node_rules.specs.Host.{Host}
use Rattle.node_rules.specs.HostRules.{host_air_in, host_tunnel_in}
use Rattle.node_rules.specs.SecondRecords.{second_take}
use Rattle.node_rules.specs.SecondState.{SecondActs, second_commands, second_commands_unless, second_refusals}
use Rattle.node_rules.specs.SecondStep.{fed_ended, fed_took, frozen_ended, frozen_took, is_before_change, is_fit, key_in, on_second_host, second_commanded, second_control, second_data, second_event, second_line, second_record, second_record_taken, second_report, second_step, second_takes}
use Rattle.node_rules.specs.Secondary.{SecondNode, active_at, is_fed_of, on_fed}
use Rattle.node_rules.specs.declared.bearers.AnchorOut.{AnchorOut}
use Rattle.node_rules.specs.declared.inputs.Input.{Input}
use Rattle.node_rules.specs.declared.inputs.Input.TheVariants.{Cmd, Come}
use Rattle.run_uplinks.proofs.SecondNotes.{AreOfAnchors, second_by_data, second_by_line, second_by_report}
use Rattle.run_seconds.specs.Own.{IsOwn, own, said}
use Rattle.run_seconds.specs.Sides.{Side, denying, held_by, wanting}
use Rattle.run_seconds.proofs.Acts.{IsKept, anchors_own, anchors_silent, does_kept, fed_proc}
use Rattle.run_seconds.proofs.Own.{Says, SaysIf, take_says}

-- where its procedures stay as they are, and what it notes is of its anchors
anchors_kept : (s next : SecondNode) (ns : List Note) → next.proc ≡ s.proc → AreOfAnchors ns → IsKept (held_by s.proc) s next ns
anchors_kept s next ns same all = record {
  me = ap (λ q. q.me) same;
  side = anchors_silent ns all (held_by s.proc) ∙ ap held_by (sym same);
  own = anchors_own s.proc.me ns all;
}

-- ---- the procedures

module _ (c : Choices) (s : SecondNode) where
  taken_kept : (key : List ℕ) (r : Result SecondActs ProcFault) → SaysIf s.proc r → let done = second_record_taken c key s r in IsKept (held_by s.proc) s done.0 done.1.notes
  taken_kept key (Ok r) says = does_kept c key (held_by s.proc) s r says.me says.side says.own
  taken_kept key (Err why) says = anchors_kept s s [] refl tt

  record_kept : (r : Rec) (fits : Bool) → let done = second_record c s r fits in IsKept (held_by s.proc) s done.0 done.1.notes
  record_kept r true = taken_kept (key_in r) (second_take s.proc r) (take_says s.proc r)
  record_kept r false = anchors_kept s s [] refl tt

  -- ---- traffic

  frozen_took_proc : (id g : ℕ) (payload : List ℕ) (o : Option Frozen) → (frozen_took s id g payload o).0.proc ≡ s.proc
  frozen_took_proc id g payload None = refl
  frozen_took_proc id g payload (Some f) = refl

  fed_took_proc : (id g : ℕ) (payload : List ℕ) (o : Option Fed) → (fed_took c s id g payload o).0.proc ≡ s.proc
  fed_took_proc id g payload None = refl
  fed_took_proc id g payload (Some x) = refl

  frozen_ended_proc : (id g : ℕ) (o : Option Frozen) → (frozen_ended s id g o).0.proc ≡ s.proc
  frozen_ended_proc id g None = refl
  frozen_ended_proc id g (Some f) = refl

  fed_ended_proc : (id g : ℕ) (o : Option Fed) → (fed_ended s id g o).0.proc ≡ s.proc
  fed_ended_proc id g None = refl
  fed_ended_proc id g (Some x) = refl

  line_proc : (f : Flight) → (second_line c s f).0.proc ≡ s.proc
  line_proc (flight.Sdu id g payload) =
      elim (cases_Bool (is_before_change g (held id s.frozen))) [
        | inl yes' ↦ rw yes' (frozen_took_proc id g payload (held id s.frozen))
        | inr no' ↦ rw no' (fed_took_proc id g payload (held id s.anchors))
      ]
  line_proc (flight.End id g) =
      elim (cases_Bool (is_some (held id s.frozen))) [
        | inl yes' ↦ rw yes' (frozen_ended_proc id g (held id s.frozen))
        | inr no' ↦ rw no' (fed_ended_proc id g (held id s.anchors))
      ]
  line_proc (flight.Told id g count) = refl
  line_proc (flight.Air id g num tag pdu) = refl
  line_proc (flight.Ack id g num) = refl
  line_proc (flight.Tun tag packet) = refl
  line_proc (flight.Ctl r) = refl

  host_proc : (id : ℕ) (f : Host → Host × List Send) (o : Option Host) → (on_second_host s id f o).0.proc ≡ s.proc
  host_proc id f None = refl
  host_proc id f (Some h) = refl

  data_proc : (f : AnchorState → AnchorState × AnchorOut) (h : Host → Host × List Send) (o : Option Named) → (second_data s f h o).0.proc ≡ s.proc
  data_proc f h None = refl
  data_proc f h (Some (id, g)) =
      elim (cases_Bool (is_fed_of g (held id s.anchors))) [ inl yes' ↦ rw yes' (fed_proc s id f (held id s.anchors)) | inr no' ↦ rw no' (host_proc id h (held id s.hosts)) ]

  control_kept : (f : Flight) → let done = second_control c s f in IsKept (held_by s.proc) s done.0 done.1.notes
  control_kept (flight.Ctl r) = record_kept r (is_fit s r)
  control_kept (flight.Air id g num tag pdu) = anchors_kept s s [] refl tt
  control_kept (flight.Ack id g num) = anchors_kept s s [] refl tt
  control_kept (flight.Tun tag packet) = anchors_kept s s [] refl tt
  control_kept (flight.Sdu id g payload) = anchors_kept s s [] refl tt
  control_kept (flight.End id g) = anchors_kept s s [] refl tt
  control_kept (flight.Told id g count) = anchors_kept s s [] refl tt

  -- a flight comes
  pub takes_kept : (f : Flight) (k : Class) → let done = second_takes c s f k in IsKept (held_by s.proc) s done.0 done.1.notes
  takes_kept f Ctl = control_kept f
  takes_kept f Feed = let done = second_line c s f in anchors_kept s done.0 done.1.notes (line_proc f) (second_by_line c s f)
  takes_kept f Air =
      let done = second_takes c s f Air in
      anchors_kept s done.0 done.1.notes (data_proc (λ a. air_in a cell.Scg f) (λ h. host_air_in h f) (flight_named f))
      (second_by_data s (λ a. air_in a cell.Scg f) (λ h. host_air_in h f) (flight_named f))
  takes_kept f Tun =
      let done = second_takes c s f Tun in
      anchors_kept s done.0 done.1.notes (data_proc (λ a. tunnel_in c a f) (λ h. host_tunnel_in h f) (flight_named f))
      (second_by_data s (λ a. tunnel_in c a f) (λ h. host_tunnel_in h f) (flight_named f))

  -- ---- events

  report_proc : (id : ℕ) (o : Option Active) → (second_report c s id o).0.proc ≡ s.proc
  report_proc id None = refl
  report_proc id (Some a) = fed_proc s id (report c) (held id s.anchors)

  -- a report is asked for
  pub report_kept : (id : ℕ) (o : Option Active) → let done = second_report c s id o in IsKept (held_by s.proc) s done.0 done.1.notes
  report_kept id o = let done = second_report c s id o in anchors_kept s done.0 done.1.notes (report_proc id o) (second_by_report c s id o)

  -- it is set to deny, or not to
  pub deny_kept : (x : Node) (on : Bool) → let done = second_step c s (Cmd (event.Deny x on)) in IsKept (denying on (held_by s.proc)) s done.0 done.1.notes
  deny_kept x on = does_kept c [] (denying on (held_by s.proc)) s (second_commands s.proc (event.Deny x on)) refl refl tt

  -- what is said of it once its request was answered
  abbrev pub asking : Want → Answer → Side
  asking w answer.Ok = wanting (Some w) (held_by s.proc)
  asking w (answer.No why) = held_by s.proc

  ask_kept_by : (x : Node) (w : Want) (o : Option Refusal)
      → let done = second_commanded c s (second_commands_unless s.proc (event.Ask x w) o) in IsKept (asking w done.1.answer) s done.0 done.1.notes
  ask_kept_by x w None = does_kept c [] (wanting (Some w) (held_by s.proc)) s (second_commands s.proc (event.Ask x w)) refl refl tt
  ask_kept_by x w (Some why) = anchors_kept s s [] refl tt

  -- it asks for something
  pub ask_kept : (x : Node) (w : Want) → let done = second_step c s (Cmd (event.Ask x w)) in IsKept (asking w done.1.answer) s done.0 done.1.notes
  ask_kept x w = ask_kept_by x w (first_refusal (second_refusals s.proc (event.Ask x w)))
