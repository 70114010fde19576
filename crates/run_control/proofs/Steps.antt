-- Whatever input a node takes, in any run.
use Rattle.std.proofs.Common.{ℕ, ◌≡◌, ◌==◌, Bool, true, false, List, [], ◌∷◌, Option, Some, None, length, refl, sym, ap, subst, ◌∙◌}
use Rattle.std.specs.Prelude.{flat_map, if◌then◌else◌, map, ◌+◌}
use Rattle.std.specs.Option.{option_map}
use Rattle.dc_base.specs.declared.events.Event.{Event}
use Rattle.dc_base.specs.declared.events.Event.TheVariants as event
use Rattle.dc_base.specs.declared.events.Header.{Header}
use Rattle.dc_base.specs.declared.flights.Flight.{Flight}
use Rattle.dc_base.specs.declared.flights.Flight.TheVariants as flight
use Rattle.dc_base.specs.declared.nodes.Cell.TheVariants.{Scg}
use Rattle.dc_base.specs.declared.nodes.Class.{Class}
use Rattle.dc_base.specs.declared.nodes.Class.TheVariants.{Air, Ctl, Feed, Tun}
use Rattle.dc_base.specs.declared.nodes.Node.{Node}
use Rattle.dc_base.specs.declared.nodes.Node.TheVariants.{A, B, M, T}
use Rattle.dc_base.specs.declared.records.StatusTransfer.{StatusTransfer}
use Rattle.node_rules.specs.Choices.{Choices}
use Rattle.node_rules.specs.Effects.{after_effects}
use Rattle.node_rules.specs.Held.{held}
use Rattle.node_rules.specs.Master.{MasterNode}
use Rattle.node_rules.specs.MasterPlan.{does}
use Rattle.node_rules.specs.MasterStep.{master_event, master_step, master_takes}
use Rattle.node_rules.specs.MasterTaking.{master_adopted}
use Rattle.node_rules.specs.Run.{Happening, carried_on, given_to, happening, on_links, refused_for, world_after, world_step}
use Rattle.node_rules.specs.SecondStep.{second_event, second_step, second_takes}
use Rattle.node_rules.specs.Secondary.{SecondNode}
use Rattle.node_rules.specs.Setup.{has_cell, with_failed_scg}
use Rattle.node_rules.specs.Terminal.{TerminalNode, failing_half, scg_fails, terminal_event, terminal_step, terminal_takes}
use Rattle.node_rules.specs.TerminalHalf.{TerminalHalf, terminal_fail}
use Rattle.node_rules.specs.World.{World, new_world}
use Rattle.node_rules.specs.declared.inputs.Effects.{Effects}
use Rattle.node_rules.specs.declared.inputs.Input.{Input}
use Rattle.node_rules.specs.declared.inputs.Input.TheVariants.{Cmd, Come}
use Rattle.run_control.specs.MasterControl.{MasterHeard, MasterPassed, adopts_by_it, master_heard, master_no_row, master_ordered, master_passed, master_refused, waits_on}
use Rattle.run_control.specs.Orders.{Ascends, AscendsFrom}
use Rattle.run_control.specs.SecondControl.{heard, no_row, not_ordered, ordered, unfit}
use Rattle.run_control.specs.Steps.{AreOrdered, MasterStepped, SecondStepped, TerminalStepped, master_by_command, master_by_nothing, master_by_record, master_by_traffic, record_in, record_on, second_by_command, second_by_nothing, second_by_record, second_by_traffic, sender_of, terminal_by_failure, terminal_by_nothing, terminal_by_record, terminal_by_traffic}
use Rattle.run_control.specs.Traffic.{came, master_adopts, master_keeps, second_adopts, second_keeps}
use Rattle.master_runs.proofs.Holding.{held-cons}
use Rattle.run_control.proofs.MasterActs.{does_projects}
use Rattle.run_control.proofs.MasterHears.{master_hears, master_orders}
use Rattle.run_control.proofs.Masters.{master_traffic}
use Rattle.run_control.proofs.SecondHears.{second_hears, second_orders}
use Rattle.run_control.proofs.Seconds.{second_traffic}
use Rattle.run_control.proofs.TerminalHears.{terminal_hears}
use Rattle.run_control.proofs.Terminals.{half_view, terminal_traffic}

-- ---- a secondary node

second_on_control : (c : Choices) (s : SecondNode) (i : Input) (f : Flight) → Ascends s.anchors → record_in i ≡ record_on Ctl f → SecondStepped s i (second_takes c s f Ctl)
second_on_control c s i (flight.Ctl r) up is = second_by_record r is (second_hears c s r up)
second_on_control c s i (flight.Air id g num tag pdu) up is = second_by_nothing refl
second_on_control c s i (flight.Ack id g num) up is = second_by_nothing refl
second_on_control c s i (flight.Tun tag packet) up is = second_by_nothing refl
second_on_control c s i (flight.Sdu id g payload) up is = second_by_nothing refl
second_on_control c s i (flight.End id g) up is = second_by_nothing refl
second_on_control c s i (flight.Told id g count) up is = second_by_nothing refl

second_on : (c : Choices) (s : SecondNode) (from to : Node) (k : Class) (f : Flight) → Ascends s.anchors
    → SecondStepped s (Come (record { from = from; to = to; class = k }) f) (came (second_step c s (Come (record { from = from; to = to; class = k }) f)))
second_on c s from to Ctl f up = second_on_control c s (Come (record { from = from; to = to; class = Ctl }) f) f up refl
second_on c s from to Feed f up = second_by_traffic (second_traffic c s (Come (record { from = from; to = to; class = Feed }) f) refl)
second_on c s from to Air f up = second_by_traffic (second_traffic c s (Come (record { from = from; to = to; class = Air }) f) refl)
second_on c s from to Tun f up = second_by_traffic (second_traffic c s (Come (record { from = from; to = to; class = Tun }) f) refl)

second_given : (c : Choices) (s : SecondNode) (e : Event) → Ascends s.anchors → SecondStepped s (Cmd e) (came (second_event c s e))
second_given c s (event.Submit id d payload) up = second_by_traffic (second_traffic c s (Cmd (event.Submit id d payload)) refl)
second_given c s (event.Report node id) up = second_by_traffic (second_traffic c s (Cmd (event.Report node id)) refl)
second_given c s (event.Deny node on) up = second_by_command (event.Deny node on) refl (second_orders c s (event.Deny node on) up)
second_given c s (event.Ask node what) up = second_by_command (event.Ask node what) refl (second_orders c s (event.Ask node what) up)
second_given c s (event.Bearer id n first shape threshold policy) up = second_by_nothing refl
second_given c s (event.Reshape id shape) up = second_by_nothing refl
second_given c s (event.Remove id) up = second_by_nothing refl
second_given c s (event.Add node) up = second_by_nothing refl
second_given c s event.Change up = second_by_nothing refl
second_given c s event.Release up = second_by_nothing refl
second_given c s event.RekeySecond up = second_by_nothing refl
second_given c s (event.RekeyMaster root) up = second_by_nothing refl
second_given c s (event.Recover id) up = second_by_nothing refl
second_given c s event.ScgFail up = second_by_nothing refl
second_given c s (event.Step l i) up = second_by_nothing refl
second_given c s (event.Lose l i) up = second_by_nothing refl
second_given c s (event.Again l i) up = second_by_nothing refl

pub second_stepped : (c : Choices) (s : SecondNode) (i : Input) → Ascends s.anchors → SecondStepped s i (came (second_step c s i))
second_stepped c s (Cmd e) up = second_given c s e up
second_stepped c s (Come l f) up = second_on c s l.from l.to l.class f up

-- it goes on holding its anchors in order
second_ordered : (s : SecondNode) (i : Input) (done : SecondNode × Effects) → Ascends s.anchors → SecondStepped s i done → Ascends done.0.anchors
second_ordered s i done up (second_by_traffic (second_keeps proc views sends ascends)) = ascends up
second_ordered s i done up (second_by_traffic (second_adopts id v at had proc views sends ascends)) = ascends up
second_ordered s i done up (second_by_record r came_in (heard acts fit taken is)) = is.ascends
second_ordered s i done up (second_by_record r came_in (unfit fit is)) = subst (λ (x : SecondNode × Effects). Ascends x.0.anchors) (sym is) up
second_ordered s i done up (second_by_record r came_in (no_row why taken is)) = subst (λ (x : SecondNode × Effects). Ascends x.0.anchors) (sym is) up
second_ordered s i done up (second_by_command e came_in (ordered acts taken is)) = is.ascends
second_ordered s i done up (second_by_command e came_in (not_ordered why refused is)) = subst (λ (x : SecondNode × Effects). Ascends x.0.anchors) (sym is) up
second_ordered s i done up (second_by_nothing is) = subst (λ (x : SecondNode × Effects). Ascends x.0.anchors) (sym is) up

-- ---- the master

master_on_control : (c : Choices) (m : MasterNode) (i : Input) (from : Node) (f : Flight) → Ascends m.anchors → record_in i ≡ record_on Ctl f → sender_of i ≡ from
    → MasterStepped c m i (master_takes c m from f Ctl)
master_on_control c m i from (flight.Ctl r) up is named =
    master_by_record r is (subst (λ x. MasterHeard c m x r (master_takes c m from (flight.Ctl r) Ctl)) (sym named) (master_hears c m from r up))
master_on_control c m i from (flight.Air id g num tag pdu) up is named = master_by_nothing refl
master_on_control c m i from (flight.Ack id g num) up is named = master_by_nothing refl
master_on_control c m i from (flight.Tun tag packet) up is named = master_by_nothing refl
master_on_control c m i from (flight.Sdu id g payload) up is named = master_by_nothing refl
master_on_control c m i from (flight.End id g) up is named = master_by_nothing refl
master_on_control c m i from (flight.Told id g count) up is named = master_by_nothing refl

master_on : (c : Choices) (m : MasterNode) (from to : Node) (k : Class) (f : Flight) → Ascends m.anchors
    → MasterStepped c m (Come (record { from = from; to = to; class = k }) f) (came (master_step c m (Come (record { from = from; to = to; class = k }) f)))
master_on c m from to Ctl f up = master_on_control c m (Come (record { from = from; to = to; class = Ctl }) f) from f up refl refl
master_on c m from to Feed f up = master_by_traffic (master_traffic c m (Come (record { from = from; to = to; class = Feed }) f) refl)
master_on c m from to Air f up = master_by_traffic (master_traffic c m (Come (record { from = from; to = to; class = Air }) f) refl)
master_on c m from to Tun f up = master_by_traffic (master_traffic c m (Come (record { from = from; to = to; class = Tun }) f) refl)

master_given : (c : Choices) (m : MasterNode) (e : Event) → Ascends m.anchors → MasterStepped c m (Cmd e) (came (master_event c m e))
master_given c m (event.Submit id d payload) up = master_by_traffic (master_traffic c m (Cmd (event.Submit id d payload)) refl)
master_given c m (event.Report node id) up = master_by_traffic (master_traffic c m (Cmd (event.Report node id)) refl)
master_given c m (event.Bearer id n first shape threshold policy) up =
    let e = event.Bearer id n first shape threshold policy in master_by_command e refl (master_orders c m (length c.policies) e up)
master_given c m (event.Reshape id shape) up = master_by_command (event.Reshape id shape) refl (master_orders c m (length c.policies) (event.Reshape id shape) up)
master_given c m (event.Remove id) up = master_by_command (event.Remove id) refl (master_orders c m (length c.policies) (event.Remove id) up)
master_given c m (event.Add node) up = master_by_command (event.Add node) refl (master_orders c m (length c.policies) (event.Add node) up)
master_given c m event.Change up = master_by_command event.Change refl (master_orders c m (length c.policies) event.Change up)
master_given c m event.Release up = master_by_command event.Release refl (master_orders c m (length c.policies) event.Release up)
master_given c m event.RekeySecond up = master_by_command event.RekeySecond refl (master_orders c m (length c.policies) event.RekeySecond up)
master_given c m (event.RekeyMaster root) up = master_by_command (event.RekeyMaster root) refl (master_orders c m (length c.policies) (event.RekeyMaster root) up)
master_given c m (event.Recover id) up = master_by_command (event.Recover id) refl (master_orders c m (length c.policies) (event.Recover id) up)
master_given c m (event.Deny node on) up = master_by_nothing refl
master_given c m (event.Ask node what) up = master_by_nothing refl
master_given c m event.ScgFail up = master_by_nothing refl
master_given c m (event.Step l i) up = master_by_nothing refl
master_given c m (event.Lose l i) up = master_by_nothing refl
master_given c m (event.Again l i) up = master_by_nothing refl

pub master_stepped : (c : Choices) (m : MasterNode) (i : Input) → Ascends m.anchors → MasterStepped c m i (came (master_step c m i))
master_stepped c m (Cmd e) up = master_given c m e up
master_stepped c m (Come l f) up = master_on c m l.from l.to l.class f up

-- after an adoption the procedures go on
then_ordered : (c : Choices) (next : MasterNode) (before : Effects) (id : ℕ) → Ascends next.anchors → Ascends (after_effects before (does c next (master_adopted next.proc id))).0.anchors
then_ordered c next before id up = (does_projects c next (master_adopted next.proc id) up).ascends

passed_ordered : (c : Choices) (m : MasterNode) (status : StatusTransfer) (done : MasterNode × Effects) → MasterPassed c m status done → Ascends done.0.anchors
passed_ordered c m status done (waits_on is) = is.ascends
passed_ordered c m status done (adopts_by_it v at awaited next before did is) =
    subst (λ (x : MasterNode × Effects). Ascends x.0.anchors) (sym is) (then_ordered c next before status.id did.ascends)

master_ordered_after : (c : Choices) (m : MasterNode) (i : Input) (done : MasterNode × Effects) → Ascends m.anchors → MasterStepped c m i done → Ascends done.0.anchors
master_ordered_after c m i done up (master_by_traffic (master_keeps proc views sends ascends)) = ascends up
master_ordered_after c m i done up (master_by_traffic (master_adopts id v at had next before proc views sends ascends is)) =
    subst (λ (x : MasterNode × Effects). Ascends x.0.anchors) (sym is) (then_ordered c next before id (ascends up))
master_ordered_after c m i done up (master_by_record r came_in (master_heard acts taken plain is)) = is.ascends
master_ordered_after c m i done up (master_by_record r came_in (master_passed status taken is)) = passed_ordered c m status done is
master_ordered_after c m i done up (master_by_record r came_in (master_no_row why taken is)) = subst (λ (x : MasterNode × Effects). Ascends x.0.anchors) (sym is) up
master_ordered_after c m i done up (master_by_command e came_in (master_ordered acts taken is)) = is.ascends
master_ordered_after c m i done up (master_by_command e came_in (master_refused why refused is)) = subst (λ (x : MasterNode × Effects). Ascends x.0.anchors) (sym is) up
master_ordered_after c m i done up (master_by_nothing is) = subst (λ (x : MasterNode × Effects). Ascends x.0.anchors) (sym is) up

-- ---- the terminal

-- a bearer whose leg is marked is the same bearer
failed_view : (h : TerminalHalf) → half_view (terminal_fail h) ≡ half_view h
failed_view h = by (has_cell h.setup Scg)
  where
    by : (b : Bool) → half_view (if b then record h { setup = with_failed_scg h.setup } else h) ≡ half_view h
    by true = refl
    by false = refl

failed_views : (xs : List (ℕ × TerminalHalf)) (k : ℕ) → option_map half_view (held k (map (λ (x : ℕ × TerminalHalf). (x.0, terminal_fail x.1)) xs)) ≡ option_map half_view (held k xs)
failed_views [] k = refl
failed_views (x ∷ xs) k =
    ap (λ o. option_map half_view o) (held-cons k (x.0, terminal_fail x.1) (map (λ (y : ℕ × TerminalHalf). (y.0, terminal_fail y.1)) xs))
    ∙ by (k == x.0) (failed_views xs k) ∙ sym (ap (λ o. option_map half_view o) (held-cons k x xs))
  where
    by : (b : Bool) → option_map half_view (held k (map (λ (y : ℕ × TerminalHalf). (y.0, terminal_fail y.1)) xs)) ≡ option_map half_view (held k xs) → option_map half_view (if b then Some (terminal_fail x.1) else held k (map (λ (y : ℕ × TerminalHalf). (y.0, terminal_fail y.1)) xs)) ≡ option_map half_view (if b then Some x.1 else held k xs)
    by true more = ap (λ v. Some v) (failed_view x.1)
    by false more = more

failed_ordered : (from : ℕ) (xs : List (ℕ × TerminalHalf)) → AscendsFrom from xs → AscendsFrom from (map (λ (x : ℕ × TerminalHalf). (x.0, terminal_fail x.1)) xs)
failed_ordered from [] up = tt
failed_ordered from (x ∷ xs) up = (up.0, failed_ordered (x.0 + 1) xs up.1)

fails_is : (t : TerminalNode) (sec : Option Node) → Ascends t.halves → TerminalStepped t (Cmd event.ScgFail) (came (scg_fails t sec))
fails_is t None up = terminal_by_nothing refl
fails_is t (Some sec) up = terminal_by_failure (flat_map failing_half t.halves) refl (record {
  joins = refl;
  after = λ k. failed_views t.halves k;
  told = refl;
  ascends = failed_ordered 0 t.halves up;
})

terminal_on_control : (c : Choices) (t : TerminalNode) (i : Input) (from : Node) (f : Flight) → Ascends t.halves → record_in i ≡ record_on Ctl f → TerminalStepped t i (terminal_takes c t from f Ctl)
terminal_on_control c t i from (flight.Ctl r) up is = terminal_by_record r is (terminal_hears c t from r up)
terminal_on_control c t i from (flight.Air id g num tag pdu) up is = terminal_by_nothing refl
terminal_on_control c t i from (flight.Ack id g num) up is = terminal_by_nothing refl
terminal_on_control c t i from (flight.Tun tag packet) up is = terminal_by_nothing refl
terminal_on_control c t i from (flight.Sdu id g payload) up is = terminal_by_nothing refl
terminal_on_control c t i from (flight.End id g) up is = terminal_by_nothing refl
terminal_on_control c t i from (flight.Told id g count) up is = terminal_by_nothing refl

terminal_on : (c : Choices) (t : TerminalNode) (from to : Node) (k : Class) (f : Flight) → Ascends t.halves
    → TerminalStepped t (Come (record { from = from; to = to; class = k }) f) (came (terminal_step c t (Come (record { from = from; to = to; class = k }) f)))
terminal_on c t from to Ctl f up = terminal_on_control c t (Come (record { from = from; to = to; class = Ctl }) f) from f up refl
terminal_on c t from to Feed f up = terminal_by_traffic (terminal_traffic c t (Come (record { from = from; to = to; class = Feed }) f) refl)
terminal_on c t from to Air f up = terminal_by_traffic (terminal_traffic c t (Come (record { from = from; to = to; class = Air }) f) refl)
terminal_on c t from to Tun f up = terminal_by_traffic (terminal_traffic c t (Come (record { from = from; to = to; class = Tun }) f) refl)

terminal_given : (c : Choices) (t : TerminalNode) (e : Event) → Ascends t.halves → TerminalStepped t (Cmd e) (came (terminal_event c t e))
terminal_given c t (event.Submit id d payload) up = terminal_by_traffic (terminal_traffic c t (Cmd (event.Submit id d payload)) refl)
terminal_given c t (event.Report node id) up = terminal_by_traffic (terminal_traffic c t (Cmd (event.Report node id)) refl)
terminal_given c t event.ScgFail up = fails_is t t.sec up
terminal_given c t (event.Bearer id n first shape threshold policy) up = terminal_by_nothing refl
terminal_given c t (event.Reshape id shape) up = terminal_by_nothing refl
terminal_given c t (event.Remove id) up = terminal_by_nothing refl
terminal_given c t (event.Add node) up = terminal_by_nothing refl
terminal_given c t event.Change up = terminal_by_nothing refl
terminal_given c t event.Release up = terminal_by_nothing refl
terminal_given c t event.RekeySecond up = terminal_by_nothing refl
terminal_given c t (event.RekeyMaster root) up = terminal_by_nothing refl
terminal_given c t (event.Recover id) up = terminal_by_nothing refl
terminal_given c t (event.Deny node on) up = terminal_by_nothing refl
terminal_given c t (event.Ask node what) up = terminal_by_nothing refl
terminal_given c t (event.Step l i) up = terminal_by_nothing refl
terminal_given c t (event.Lose l i) up = terminal_by_nothing refl
terminal_given c t (event.Again l i) up = terminal_by_nothing refl

pub terminal_stepped : (c : Choices) (t : TerminalNode) (i : Input) → Ascends t.halves → TerminalStepped t i (came (terminal_step c t i))
terminal_stepped c t (Cmd e) up = terminal_given c t e up
terminal_stepped c t (Come l f) up = terminal_on c t l.from l.to l.class f up

terminal_ordered : (t : TerminalNode) (i : Input) (done : TerminalNode × Effects) → Ascends t.halves → TerminalStepped t i done → Ascends done.0.halves
terminal_ordered t i done up (terminal_by_traffic is) = is.ascends up
terminal_ordered t i done up (terminal_by_record r came_in is) = is.ascends
terminal_ordered t i done up (terminal_by_failure failed came_in is) = is.ascends
terminal_ordered t i done up (terminal_by_nothing is) = subst (λ (x : TerminalNode × Effects). Ascends x.0.halves) (sym is) up

-- ---- a run

taken_ordered : (c : Choices) (w : World) (what : Happening) → AreOrdered w → AreOrdered (carried_on c w what).0
taken_ordered c w (given_to T i) up = record {
  terminal = terminal_ordered w.terminal i (came (terminal_step c w.terminal i)) up.terminal (terminal_stepped c w.terminal i up.terminal);
  master = up.master;
  a = up.a;
  b = up.b;
}
taken_ordered c w (given_to M i) up = record {
  terminal = up.terminal;
  master = master_ordered_after c w.master i (came (master_step c w.master i)) up.master (master_stepped c w.master i up.master);
  a = up.a;
  b = up.b;
}
taken_ordered c w (given_to A i) up = record {
  terminal = up.terminal;
  master = up.master;
  a = second_ordered w.a i (came (second_step c w.a i)) up.a (second_stepped c w.a i up.a);
  b = up.b;
}
taken_ordered c w (given_to B i) up = record {
  terminal = up.terminal;
  master = up.master;
  a = up.a;
  b = second_ordered w.b i (came (second_step c w.b i)) up.b (second_stepped c w.b i up.b);
}
taken_ordered c w (refused_for why) up = up
taken_ordered c w (on_links effects) up = up

pub event_ordered : (c : Choices) (w : World) (e : Event) → AreOrdered w → AreOrdered (world_step c w e).0
event_ordered c w e up = let is = taken_ordered c w (happening w e) up in record { terminal = is.terminal; master = is.master; a = is.a; b = is.b }

run_ordered : (c : Choices) (w : World) (es : List Event) → AreOrdered w → AreOrdered (world_after c w es)
run_ordered c w [] up = up
run_ordered c w (e ∷ es) up = run_ordered c (world_step c w e).0 es (event_ordered c w e up)

-- in each run each node holds its bearers in order, so whatever input it takes is of one of these kinds
pub always_ordered : (c : Choices) (h : Header) (es : List Event) → AreOrdered (world_after c (new_world h) es)
always_ordered c h es = run_ordered c (new_world h) es (record { terminal = tt; master = tt; a = tt; b = tt })
