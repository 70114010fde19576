-- What is seen of the past stays what the master holds, at each input of the master.
use Rattle.std.proofs.Common.{ℕ, ◌≡◌, ◌+◌, ◌-◌, ◌++◌, Bool, true, false, List, [], ◌∷◌, Option, Some, None, refl, sym, ap, subst, ◌∙◌, inl, inr}
use Rattle.std.specs.Prelude.{Ok, Err, Result, fold}
use Rattle.std.specs.List.{list_any}
use Rattle.std.proofs.lemmas.Bool.{cases_Bool}
use Rattle.std.proofs.lemmas.List.{append-nil}
use Rattle.dc_base.specs.declared.events.Note.{Note}
use Rattle.dc_base.specs.declared.events.Note.TheVariants as note
use Rattle.dc_base.specs.declared.flights.Flight.{Flight}
use Rattle.dc_base.specs.declared.flights.Flight.TheVariants as flight
use Rattle.dc_base.specs.declared.nodes.Cell.TheVariants as cell
use Rattle.dc_base.specs.declared.nodes.Class.{Class}
use Rattle.dc_base.specs.declared.nodes.Class.TheVariants.{Air, Ctl, Feed, Tun}
use Rattle.dc_base.specs.declared.nodes.Node.{Node}
use Rattle.dc_base.specs.declared.nodes.Node.TheVariants.{M}
use Rattle.dc_base.specs.declared.records.StatusTransfer.{StatusTransfer}
use Rattle.node_rules.specs.Acts.{ProcFault}
use Rattle.node_rules.specs.declared.acts.Act.TheVariants.{Pass as pass}
use Rattle.node_rules.specs.declared.bearers.AnchorOut.{AnchorOut}
use Rattle.node_rules.specs.Adopting.{status_in}
use Rattle.node_rules.specs.Anchor.{AnchorState, setup_at}
use Rattle.node_rules.specs.AnchorReceiving.{air_in, tunnel_in}
use Rattle.node_rules.specs.Choices.{Choices, Send}
use Rattle.node_rules.specs.Flights.{Named, flight_named}
use Rattle.node_rules.specs.Held.{held}
use Rattle.node_rules.specs.Host.{Host}
use Rattle.node_rules.specs.HostRules.{host_air_in, host_tunnel_in}
use Rattle.node_rules.specs.Lines.{is_end, notes_after}
use Rattle.node_rules.specs.Master.{MasterNode, anchor_did, told_by}
use Rattle.node_rules.specs.MasterPlan.{adopts_if, does, on_waiting}
use Rattle.node_rules.specs.MasterState.{MasterActs}
use Rattle.node_rules.specs.MasterStep.{control_taken, data_taken, host_did, is_anchor_of, line_taken, master_takes, on_host, record_taken}
use Rattle.node_rules.specs.MasterTaking.{master_adopted, master_take}
use Rattle.node_rules.specs.CommandTable.{row}
use Rattle.node_rules.specs.declared.inputs.Effects.{Effects}
use Rattle.run_windows.specs.ActNotes.{acts_notes}
use Rattle.run_windows.specs.Answers.{IsSeen}
use Rattle.run_windows.specs.Controls.{controls}
use Rattle.run_windows.specs.Seen.{Seen, with_note}
use Rattle.run_windows.proofs.Carrying.{IsSeenOnce, after_controls, fold_append, moved_seen}
use Rattle.run_windows.proofs.Laying.{carried_seen}
use Rattle.run_windows.proofs.Moving.{IsAnyMove, any_of_calm, stays}
use Rattle.run_windows.proofs.Procedures.{OfResult, adopted_is, carries, moves, passes, take_is}
use Rattle.run_windows.proofs.Telling.{Tells, anchor_tells, controls_append, does_tells, taken_tells, tells_nothing, tells_unseen, told_tells}

module _ (s : Seen) (m : MasterNode) (is : IsSeen s m) where
  -- a step by which the procedures do nothing
  pub told_seen : (k : MasterNode) (ns : List Note) → Tells m k ns [] → IsSeenOnce s k ns
  told_seen k ns tells =
      moved_seen s m k (m.proc, []) ns is.counted is.there (any_of_calm s m.proc (m.proc, []) (stays s m.proc [] is.fit (record { none = refl; plain = tt }))) tells

  -- one by which they do something
  pub any_seen : (k : MasterNode) (r : MasterActs) (ns : List Note) → IsAnyMove s m.proc r → Tells (record m { proc = r.0 }) k ns (acts_notes r.1) → IsSeenOnce s k ns
  any_seen k r ns any tells = moved_seen s m k r ns is.counted is.there any tells

  -- ---- an anchor that may adopt

  adopts_seen : (c : Choices) (id g : ℕ) (adopted : Bool) (done : MasterNode × Effects) → Tells m done.0 done.1.notes [] → IsSeenOnce s (adopts_if c id g adopted done).0 (adopts_if c id g adopted done).1.notes
  adopts_seen c id g false done tells = told_seen done.0 done.1.notes tells
  adopts_seen c id g true done tells =
      let first = note.Own M id g ∷ done.1.notes in
      let one = told_seen done.0 done.1.notes tells in
      let t = fold with_note s first in
      let k = done.0 in
      let r = master_adopted k.proc id in
      let next = (does c k r).1.notes in
      let two = moved_seen t k (does c k r).0 r next one.seen.counted one.seen.there (adopted_is t k.proc one.seen.fit id) (does_tells c k r (adopted_is t k.proc one.seen.fit id).move.plain) in
      record {
        seen = subst (λ (u : Seen). IsSeen u (does c k r).0) (sym (fold_append s first next)) two.seen;
        once =
            let none : controls (first ++ next) ≡ controls next = controls_append first next ∙ ap (λ cs. cs ++ controls next) tells.said in
            after_controls (first ++ next) ∙ ap (λ cs. list_any is_end (notes_after cs)) none ∙ sym (after_controls next) ∙ two.once;
      }

  pub waiting_seen : (c : Choices) (id : ℕ) (f : AnchorState → AnchorState × AnchorOut) (o : Option AnchorState) → IsSeenOnce s (on_waiting c m id f o).0 (on_waiting c m id f o).1.notes
  waiting_seen c id f None = told_seen m [] (tells_nothing m)
  waiting_seen c id f (Some a) = adopts_seen c id (setup_at a).g (f a).1.adopted (anchor_did m id (f a)) (anchor_tells m id (f a))

  -- ---- flights of user data

  host_seen : (id : ℕ) (f : Host → Host × List Send) (o : Option Host) → IsSeenOnce s (on_host m id f o).0 (on_host m id f o).1.notes
  host_seen id f None = told_seen m [] (tells_nothing m)
  host_seen id f (Some h) = told_seen (host_did m id (f h)).0 [] (tells_unseen m (host_did m id (f h)).0 [] refl refl (λ t. refl) refl)

  data_seen : (c : Choices) (f : AnchorState → AnchorState × AnchorOut) (h : Host → Host × List Send) (o : Option Named) → IsSeenOnce s (data_taken c m f h o).0 (data_taken c m f h o).1.notes
  data_seen c f h None = told_seen m [] (tells_nothing m)
  data_seen c f h (Some (id, g)) =
      elim (cases_Bool (is_anchor_of g (held id m.anchors))) [
        | inl yes' ↦ rw yes' (waiting_seen c id f (held id m.anchors))
        | inr no' ↦ rw no' (host_seen id h (held id m.hosts))
      ]

  line_seen : (f : Flight) → IsSeenOnce s (line_taken m f).0 (line_taken m f).1.notes
  line_seen (flight.Told id g count) = told_seen (told_by m id g count (row m.proc.table id)).0 (told_by m id g count (row m.proc.table id)).1.notes (told_tells m id g count (row m.proc.table id))
  line_seen (flight.Sdu id g payload) = told_seen m [] (tells_nothing m)
  line_seen (flight.End id g) = told_seen m [] (tells_nothing m)
  line_seen (flight.Air id g num tag pdu) = told_seen m [] (tells_nothing m)
  line_seen (flight.Ack id g num) = told_seen m [] (tells_nothing m)
  line_seen (flight.Tun tag packet) = told_seen m [] (tells_nothing m)
  line_seen (flight.Ctl r) = told_seen m [] (tells_nothing m)

  -- ---- records

  passed_seen : (c : Choices) (st : StatusTransfer) → IsSeenOnce s (record_taken c m (Ok (m.proc, pass st ∷ []))).0 (record_taken c m (Ok (m.proc, pass st ∷ []))).1.notes
  passed_seen c st =
      let x = on_waiting c m st.id (λ a. status_in c a st) (held st.id m.anchors) in
      subst (λ ns. IsSeenOnce s x.0 ns) (sym (append-nil x.1.notes)) (waiting_seen c st.id (λ a. status_in c a st) (held st.id m.anchors))

  record_seen : (c : Choices) (r : Result MasterActs ProcFault) → OfResult s m.proc r → IsSeenOnce s (record_taken c m r).0 (record_taken c m r).1.notes
  record_seen c (Err why) of = told_seen m [] (tells_nothing m)
  record_seen c (Ok r) (moves any) = any_seen (record_taken c m (Ok r)).0 r (record_taken c m (Ok r)).1.notes any (taken_tells c (record m { proc = r.0 }) r.1 any.move.plain)
  record_seen c (Ok r) (passes st same) = subst (λ (q : MasterActs). IsSeenOnce s (record_taken c m (Ok q)).0 (record_taken c m (Ok q)).1.notes) (sym same) (passed_seen c st)
  record_seen c (Ok r) (carries change f x wanted opened w same) =
      subst (λ (q : MasterActs). IsSeenOnce s (record_taken c m (Ok q)).0 (record_taken c m (Ok q)).1.notes) (sym same)
      (carried_seen c s m change f x wanted w is.fit is.counted is.there opened)

  control_seen : (c : Choices) (from : Node) (f : Flight) → IsSeenOnce s (control_taken c m from f).0 (control_taken c m from f).1.notes
  control_seen c from (flight.Ctl r) = record_seen c (master_take from m.proc r) (take_is s m.proc is.fit from r)
  control_seen c from (flight.Air id g num tag pdu) = told_seen m [] (tells_nothing m)
  control_seen c from (flight.Ack id g num) = told_seen m [] (tells_nothing m)
  control_seen c from (flight.Tun tag packet) = told_seen m [] (tells_nothing m)
  control_seen c from (flight.Sdu id g payload) = told_seen m [] (tells_nothing m)
  control_seen c from (flight.End id g) = told_seen m [] (tells_nothing m)
  control_seen c from (flight.Told id g count) = told_seen m [] (tells_nothing m)

  -- whatever comes on a link
  pub takes_seen : (c : Choices) (from : Node) (f : Flight) (k : Class) → IsSeenOnce s (master_takes c m from f k).0 (master_takes c m from f k).1.notes
  takes_seen c from f Ctl = control_seen c from f
  takes_seen c from f Feed = line_seen f
  takes_seen c from f Air = data_seen c (λ a. air_in a cell.Mcg f) (λ h. host_air_in h f) (flight_named f)
  takes_seen c from f Tun = data_seen c (λ a. tunnel_in c a f) (λ h. host_tunnel_in h f) (flight_named f)
