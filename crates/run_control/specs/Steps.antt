-- Whatever input a node takes, what the control plane sees of it: traffic, a record, a command, or nothing.
use Rattle.std.specs.Prelude.{List, None, Option, Some, [], length, ℕ, ◌≡◌, ◌∷◌}
use Rattle.dc_base.specs.declared.events.Event.{Event}
use Rattle.dc_base.specs.declared.events.Event.TheVariants as event
use Rattle.dc_base.specs.declared.flights.Flight.{Flight}
use Rattle.dc_base.specs.declared.flights.Flight.TheVariants as flight
use Rattle.dc_base.specs.declared.nodes.Class.{Class}
use Rattle.dc_base.specs.declared.nodes.Class.TheVariants.{Ctl}
use Rattle.dc_base.specs.declared.nodes.Node.{Node}
use Rattle.dc_base.specs.declared.nodes.Node.TheVariants.{M, T}
use Rattle.dc_base.specs.declared.records.Rec.{Rec}
use Rattle.dc_base.specs.declared.records.Rec.TheVariants as rec
use Rattle.node_rules.specs.Choices.{Choices}
use Rattle.node_rules.specs.Effects.{quiet}
use Rattle.node_rules.specs.Master.{MasterNode}
use Rattle.node_rules.specs.Secondary.{SecondNode}
use Rattle.node_rules.specs.Terminal.{TerminalNode}
use Rattle.node_rules.specs.World.{World}
use Rattle.node_rules.specs.declared.inputs.Effects.{Effects}
use Rattle.node_rules.specs.declared.inputs.Input.{Input}
use Rattle.node_rules.specs.declared.inputs.Input.TheVariants.{Cmd, Come}
use Rattle.run_control.specs.MasterControl.{MasterHeard, MasterOrdered}
use Rattle.run_control.specs.Orders.{Ascends}
use Rattle.run_control.specs.SecondControl.{SecondHeard, SecondOrdered, record_to}
use Rattle.run_control.specs.TerminalControl.{TerminalDid, heard_bearers, sec_after, terminal_answers}
use Rattle.run_control.specs.Traffic.{MasterOnTraffic, SecondOnTraffic, TerminalOnTraffic}
use Rattle.run_control.specs.Views.{terminal_view}

-- the record that comes on a link of a class
abbrev pub record_on : Class → Flight → Option Rec
record_on Ctl (flight.Ctl r) = Some r
record_on _ _ = None

-- the record in an input
abbrev pub record_in : Input → Option Rec
record_in (Cmd e) = None
record_in (Come l f) = record_on l.class f

-- a secondary node
pub data SecondStepped (s : SecondNode) (i : Input) (done : SecondNode × Effects) : Type 0 where
  second_by_traffic : (is : SecondOnTraffic s done) → SecondStepped s i done
  second_by_record : (r : Rec) → (came_in : record_in i ≡ Some r) → (is : SecondHeard s r done) → SecondStepped s i done
  second_by_command : (e : Event) → (came_in : i ≡ Cmd e) → (is : SecondOrdered s e done) → SecondStepped s i done
  second_by_nothing : (is : done ≡ (s, quiet)) → SecondStepped s i done

-- the node from which an input comes; that of a command does not matter
abbrev pub sender_of : Input → Node
sender_of (Cmd e) = T
sender_of (Come l f) = l.from

-- the master
pub data MasterStepped (c : Choices) (m : MasterNode) (i : Input) (done : MasterNode × Effects) : Type 0 where
  master_by_traffic : (is : MasterOnTraffic c m done) → MasterStepped c m i done
  master_by_record : (r : Rec) → (came_in : record_in i ≡ Some r) → (is : MasterHeard c m (sender_of i) r done) → MasterStepped c m i done
  master_by_command : (e : Event) → (came_in : i ≡ Cmd e) → (is : MasterOrdered m (length c.policies) e done) → MasterStepped c m i done
  master_by_nothing : (is : done ≡ (m, quiet)) → MasterStepped c m i done

-- the terminal; the failure of its secondary cell group is told to the master
pub data TerminalStepped (t : TerminalNode) (i : Input) (done : TerminalNode × Effects) : Type 0 where
  terminal_by_traffic : (is : TerminalOnTraffic t done) → TerminalStepped t i done
  terminal_by_record : (r : Rec) → (came_in : record_in i ≡ Some r) → (is : TerminalDid t (sec_after (terminal_view t) t.sec r) (heard_bearers (terminal_view t) r) (terminal_answers (terminal_view t) r) done)
      → TerminalStepped t i done
  terminal_by_failure : (failed : List (ℕ × ℕ)) → (came_in : i ≡ Cmd event.ScgFail) → (is : TerminalDid t t.sec (terminal_view t) (record_to T M (rec.Scgf failed) ∷ []) done) → TerminalStepped t i done
  terminal_by_nothing : (is : done ≡ (t, quiet)) → TerminalStepped t i done

-- each node holds its bearers by ascending identities
pub record AreOrdered (w : World) : Type 0 where
  pub terminal : Ascends w.terminal.halves
  pub master : Ascends w.master.anchors
  pub a : Ascends w.a.anchors
  pub b : Ascends w.b.anchors
