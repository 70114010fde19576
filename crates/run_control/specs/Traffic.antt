-- What traffic does to the control plane: nothing, or an anchor adopts its bearer.
use Rattle.std.specs.Prelude.{Bool, List, Option, Some, [], false, if◌then◌else◌, not, true, ℕ, ◌==◌, ◌∷◌, ◌≡◌}
use Rattle.dc_base.specs.Links.{link}
use Rattle.dc_base.specs.declared.events.Event.{Event}
use Rattle.dc_base.specs.declared.events.Event.TheVariants as event
use Rattle.dc_base.specs.declared.flights.Flight.TheVariants as flight
use Rattle.dc_base.specs.declared.nodes.Class.TheVariants.{Ctl}
use Rattle.dc_base.specs.declared.nodes.Node.TheVariants.{M}
use Rattle.dc_base.specs.declared.records.Rec.TheVariants as rec
use Rattle.dc_base.specs.declared.records.StatusTransfer.{StatusTransfer}
use Rattle.node_rules.specs.Anchor.{Active, AnchorState}
use Rattle.node_rules.specs.Choices.{Choices, Send}
use Rattle.node_rules.specs.Effects.{after_effects}
use Rattle.node_rules.specs.Master.{MasterNode}
use Rattle.node_rules.specs.MasterPlan.{does}
use Rattle.node_rules.specs.MasterTaking.{master_adopted}
use Rattle.node_rules.specs.Secondary.{SecondNode, name_of}
use Rattle.node_rules.specs.Terminal.{TerminalNode}
use Rattle.node_rules.specs.declared.bearers.AnchorOut.{AnchorOut}
use Rattle.node_rules.specs.declared.inputs.Effects.{Effects}
use Rattle.node_rules.specs.declared.inputs.Input.{Input}
use Rattle.node_rules.specs.declared.inputs.Input.TheVariants.{Cmd, Come}
use Rattle.node_rules.specs.declared.inputs.Outcome.{Outcome}
use Rattle.run_control.specs.Orders.{Ascends}
use Rattle.run_control.specs.Views.{View, adopting, at_stage, bearer_of, controls, has_status, is_awaited, is_control, master_view, second_view, terminal_view, view_of}

-- ---- an anchor

-- an anchor with the bearer sends traffic alone, and stays as it is
pub record Serves (a : Active) (done : Active × List Send) : Type 0 where
  pub bearer : bearer_of done.0.entity.setup ≡ bearer_of a.entity.setup
  pub opened : done.0.is_open ≡ a.is_open
  pub sends : controls done.1 ≡ []

-- an anchor stays as it is, and sends traffic alone
pub record Keeps (a : AnchorState) (done : AnchorState × AnchorOut) : Type 0 where
  pub stays : done.1.adopted ≡ false
  pub view : view_of done.0 ≡ view_of a
  pub sends : controls done.1.sends ≡ []

-- traffic leaves an anchor as it is, or it adopts its bearer, once it has the status transfer
pub data OnTraffic (a : AnchorState) (done : AnchorState × AnchorOut) : Type 0 where
  keeps : (stays : done.1.adopted ≡ false) → (view : view_of done.0 ≡ view_of a) → (sends : controls done.1.sends ≡ []) → OnTraffic a done
  adopts : (adopted : done.1.adopted ≡ true) → (had : (view_of a).stage ≡ has_status) → (view : view_of done.0 ≡ adopting (view_of a)) → (sends : controls done.1.sends ≡ []) → OnTraffic a done

-- the status transfer that an anchor waits for is noted, or the anchor adopts its bearer at once; any other one changes nothing
pub data OnStatus (status : StatusTransfer) (a : AnchorState) (done : AnchorState × AnchorOut) : Type 0 where
  passes : (other : is_awaited status (view_of a) ≡ false) → (is : Keeps a done) → OnStatus status a done
  notes : (awaited : is_awaited status (view_of a) ≡ true) → (stays : done.1.adopted ≡ false) → (view : view_of done.0 ≡ at_stage has_status (view_of a)) → (sends : controls done.1.sends ≡ []) → OnStatus status a done
  adopts_at_once : (awaited : is_awaited status (view_of a) ≡ true) → (adopted : done.1.adopted ≡ true) → (view : view_of done.0 ≡ adopting (view_of a)) → (sends : controls done.1.sends ≡ []) → OnStatus status a done

-- the completion opens an anchor, or lets it be opened at its adoption
pub record Opens (a : AnchorState) (done : AnchorState × AnchorOut) : Type 0 where
  pub stays : done.1.adopted ≡ false
  pub view : view_of done.0 ≡ record (view_of a) { opened = true }
  pub sends : controls done.1.sends ≡ []

-- ---- the nodes

-- an event is of the traffic: a submission, or a status report that is asked for
abbrev pub is_traffic_event : Event → Bool
is_traffic_event (event.Submit id d payload) = true
is_traffic_event (event.Report node id) = true
is_traffic_event _ = false

-- an input is: such an event, or what comes on another link than a control link
abbrev pub is_traffic : Input → Bool
is_traffic (Cmd e) = is_traffic_event e
is_traffic (Come l f) = not (is_control l.class)

-- what comes of an input, whatever it was answered
abbrev pub came : {S : Type 0} → S × Outcome → S × Effects
came done = (done.0, record { notes = done.1.notes; sends = done.1.sends })

-- the views with that of one identity changed
abbrev pub with_view : ℕ → View → (ℕ → Option View) → ℕ → Option View
with_view id v views k = if id == k then Some v else views k

-- a secondary node after traffic: all stays, and no record is sent; or an anchor adopts, which the master is told
pub data SecondOnTraffic (s : SecondNode) (done : SecondNode × Effects) : Type 0 where
  second_keeps : (proc : done.0.proc ≡ s.proc) → (views : (k : ℕ) → second_view done.0 k ≡ second_view s k) → (sends : controls done.1.sends ≡ []) → (ascends : Ascends s.anchors → Ascends done.0.anchors) → SecondOnTraffic s done
  second_adopts : (id : ℕ) (v : View) → (at : second_view s id ≡ Some v) → (had : v.stage ≡ has_status)
      → (proc : done.0.proc ≡ s.proc) → (views : (k : ℕ) → second_view done.0 k ≡ with_view id (adopting v) (second_view s) k)
      → (sends : controls done.1.sends ≡ (link (name_of s) M Ctl, flight.Ctl (rec.Moved v.bearer.g id)) ∷ []) → (ascends : Ascends s.anchors → Ascends done.0.anchors) → SecondOnTraffic s done

-- the master after traffic: all stays, and no record is sent; or its anchor adopts, and then its procedures hear of it
pub data MasterOnTraffic (c : Choices) (m : MasterNode) (done : MasterNode × Effects) : Type 0 where
  master_keeps : (proc : done.0.proc ≡ m.proc) → (views : (k : ℕ) → master_view done.0 k ≡ master_view m k) → (sends : controls done.1.sends ≡ []) → (ascends : Ascends m.anchors → Ascends done.0.anchors) → MasterOnTraffic c m done
  master_adopts : (id : ℕ) (v : View) → (at : master_view m id ≡ Some v) → (had : v.stage ≡ has_status)
      → (next : MasterNode) (before : Effects) → (proc : next.proc ≡ m.proc) → (views : (k : ℕ) → master_view next k ≡ with_view id (adopting v) (master_view m) k)
      → (sends : controls before.sends ≡ []) → (ascends : Ascends m.anchors → Ascends next.anchors) → (is : done ≡ after_effects before (does c next (master_adopted next.proc id))) → MasterOnTraffic c m done

-- the terminal after traffic
pub record TerminalOnTraffic (t : TerminalNode) (done : TerminalNode × Effects) : Type 0 where
  pub sec : done.0.sec ≡ t.sec
  pub views : (k : ℕ) → terminal_view done.0 k ≡ terminal_view t k
  pub sends : controls done.1.sends ≡ []
  pub ascends : Ascends t.halves → Ascends done.0.halves
