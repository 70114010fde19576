-- Traffic at the master.
use Rattle.std.proofs.Common.{ℕ, ◌≡◌, ◌==◌, Bool, true, false, List, [], Option, Some, None, refl, sym, ap, subst, ◌∙◌, arith}
use Rattle.std.specs.Prelude.{if◌then◌else◌, nat_lt, not}
use Rattle.std.specs.Option.{option_map}
use Rattle.dc_base.specs.declared.answers.Refusal.{Refusal}
use Rattle.dc_base.specs.declared.events.Event.{Event}
use Rattle.dc_base.specs.declared.events.Event.TheVariants as event
use Rattle.dc_base.specs.declared.events.Note.TheVariants as note
use Rattle.dc_base.specs.declared.flights.Flight.{Flight}
use Rattle.dc_base.specs.declared.flights.Flight.TheVariants as flight
use Rattle.dc_base.specs.declared.nodes.Cell.TheVariants as cell
use Rattle.dc_base.specs.declared.nodes.Class.{Class}
use Rattle.dc_base.specs.declared.nodes.Class.TheVariants.{Air, Ctl, Feed, Tun}
use Rattle.dc_base.specs.declared.nodes.Dir.TheVariants.{Dl}
use Rattle.dc_base.specs.declared.nodes.Node.{Node}
use Rattle.dc_base.specs.declared.nodes.Node.TheVariants.{A, B, M, T}
use Rattle.node_rules.specs.Acts.{first_refusal}
use Rattle.node_rules.specs.Anchor.{AnchorState, setup_at}
use Rattle.node_rules.specs.AnchorReceiving.{air_in, tunnel_in}
use Rattle.node_rules.specs.AnchorSending.{report, submit}
use Rattle.node_rules.specs.Choices.{Choices, Send}
use Rattle.node_rules.specs.CommandTable.{row}
use Rattle.node_rules.specs.Effects.{both, noted, quiet, unless}
use Rattle.node_rules.specs.Flights.{Named, flight_named}
use Rattle.node_rules.specs.Held.{held, holding}
use Rattle.node_rules.specs.Host.{Host}
use Rattle.node_rules.specs.HostRules.{host_air_in, host_tunnel_in}
use Rattle.node_rules.specs.Master.{MasterNode, anchor_did, low_rises, on_anchor, told_by, window_told}
use Rattle.node_rules.specs.MasterPlan.{adopts_if, on_waiting}
use Rattle.node_rules.specs.MasterState.{has_bearer}
use Rattle.node_rules.specs.MasterStep.{data_taken, is_anchor_of, line_taken, master_event, master_step, master_takes, on_host, report_asked, settled_row, submit_refusals, submitted, submitted_to, to_anchor_at, with_accepted}
use Rattle.node_rules.specs.declared.bearers.AnchorOut.{AnchorOut}
use Rattle.node_rules.specs.declared.bearers.Window.{Window}
use Rattle.node_rules.specs.declared.commands.Row.{Row}
use Rattle.node_rules.specs.declared.inputs.Effects.{Effects}
use Rattle.node_rules.specs.declared.inputs.Input.{Input}
use Rattle.node_rules.specs.declared.inputs.Input.TheVariants.{Cmd, Come}
use Rattle.run_control.specs.Orders.{Ascends}
use Rattle.run_control.specs.Traffic.{Keeps, MasterOnTraffic, OnTraffic, adopts, came, is_traffic, is_traffic_event, keeps, master_adopts, master_keeps}
use Rattle.run_control.specs.Views.{controls, is_control, master_view, view_of}
use Rattle.run_control.proofs.Ascending.{ascends_with}
use Rattle.run_control.proofs.Anchors.{report_keeps, submit_keeps}
use Rattle.run_control.proofs.Arrivals.{air_keeps, tunnel_is}
use Rattle.run_control.proofs.Holding.{seen_again, seen_with}
use Rattle.run_control.proofs.Hosts.{host_air_none, host_tunnel_none}
use Rattle.run_control.proofs.Sent.{either, none_in_both}

-- nothing comes of it
pub master_same : (c : Choices) (m : MasterNode) → MasterOnTraffic c m (m, quiet)
master_same c m = master_keeps refl (λ k. refl) refl (λ up. up)

-- ---- the window

-- a step that changes neither the procedures nor an anchor
pub record Aside (m : MasterNode) (done : MasterNode × Effects) : Type 0 where
  pub proc : done.0.proc ≡ m.proc
  pub anchors : done.0.anchors ≡ m.anchors
  pub sends : controls done.1.sends ≡ []

window_aside : (m : MasterNode) (id count : ℕ) (o : Option Window) → Aside m (window_told m id count o)
window_aside m id count None = record { proc = refl; anchors = refl; sends = refl }
window_aside m id count (Some w) =
    either (Aside m) (nat_lt w.told count) (record m { windows = holding id (Some (record w { told = count })) m.windows }, noted (note.Freed id Dl count)) (m, quiet)
    (record { proc = refl; anchors = refl; sends = refl }) (record { proc = refl; anchors = refl; sends = refl })

pub low_aside : (m : MasterNode) (id : ℕ) (low : Option ℕ) → Aside m (low_rises m id low)
low_aside m id None = record { proc = refl; anchors = refl; sends = refl }
low_aside m id (Some count) = window_aside m id count (held id m.windows)

told_aside : (m : MasterNode) (id g count : ℕ) (o : Option Row) → Aside m (told_by m id g count o)
told_aside m id g count None = record { proc = refl; anchors = refl; sends = refl }
told_aside m id g count (Some r) =
    either (Aside m) (nat_lt g r.est) (m, quiet) (window_told m id count (held id m.windows)) (record { proc = refl; anchors = refl; sends = refl }) (window_aside m id count (held id m.windows))

aside_keeps : (c : Choices) (m : MasterNode) (done : MasterNode × Effects) → Aside m done → MasterOnTraffic c m done
aside_keeps c m done is = master_keeps is.proc (λ k. ap (λ (xs : List (ℕ × AnchorState)). option_map view_of (held k xs)) is.anchors) is.sends (λ up. subst (λ (xs : List (ℕ × AnchorState)). Ascends xs) (sym is.anchors) up)

-- ---- what an anchor does

-- the anchor after its step
pub record Did (m : MasterNode) (id : ℕ) (a : AnchorState) (done : MasterNode × Effects) : Type 0 where
  pub proc : done.0.proc ≡ m.proc
  pub views : (k : ℕ) → master_view done.0 k ≡ option_map view_of (held k (holding id (Some a) m.anchors))
  pub sends : controls done.1.sends ≡ []
  pub ascends : Ascends m.anchors → Ascends done.0.anchors

pub anchor_done : (m : MasterNode) (id : ℕ) (done : AnchorState × AnchorOut) → controls done.1.sends ≡ [] → Did m id done.0 (anchor_did m id done)
anchor_done m id done none =
    let m' : MasterNode = record m { anchors = holding id (Some done.0) m.anchors } in
    let is = low_aside m' id done.1.low in
    record {
      proc = is.proc;
      views = λ k. ap (λ (xs : List (ℕ × AnchorState)). option_map view_of (held k xs)) is.anchors;
      sends = none_in_both done.1.sends (low_rises m' id done.1.low).1.sends none is.sends;
      ascends = λ up. subst (λ (xs : List (ℕ × AnchorState)). Ascends xs) (sym is.anchors) (ascends_with 0 id done.0 m.anchors (omega arith) up);
    }

-- a step of an anchor that stays
pub on_anchor_is : (c : Choices) (m : MasterNode) (id : ℕ) (f : AnchorState → AnchorState × AnchorOut) → ((a : AnchorState) → Keeps a (f a)) → (o : Option AnchorState) → held id m.anchors ≡ o
    → MasterOnTraffic c m (on_anchor m id f o)
on_anchor_is c m id f is None at = master_same c m
on_anchor_is c m id f is (Some a) at =
    let did = anchor_done m id (f a) (is a).sends in
    master_keeps did.proc (λ k. did.views k ∙ seen_again view_of id k (f a).0 a m.anchors at (is a).view) did.sends did.ascends

-- of one that may adopt
waiting_did : (c : Choices) (m : MasterNode) (id : ℕ) (a : AnchorState) (done : AnchorState × AnchorOut) → held id m.anchors ≡ Some a → OnTraffic a done
    → MasterOnTraffic c m (adopts_if c id (setup_at a).g done.1.adopted (anchor_did m id done))
waiting_did c m id a done at (keeps stays view sends) =
    let did = anchor_done m id done sends in
    subst (λ b. MasterOnTraffic c m (adopts_if c id (setup_at a).g b (anchor_did m id done))) (sym stays)
    (master_keeps did.proc (λ k. did.views k ∙ seen_again view_of id k done.0 a m.anchors at view) did.sends did.ascends)
waiting_did c m id a done at (adopts adopted had view sends) =
    let did = anchor_done m id done sends in
    subst (λ b. MasterOnTraffic c m (adopts_if c id (setup_at a).g b (anchor_did m id done))) (sym adopted)
    (master_adopts id (view_of a) (ap (λ o. option_map view_of o) at) had (anchor_did m id done).0 (both (noted (note.Own M id (setup_at a).g)) (anchor_did m id done).1) did.proc
    (λ k. did.views k ∙ seen_with view_of id k done.0 m.anchors ∙ ap (λ v. if id == k then Some v else master_view m k) view) did.sends did.ascends refl)

pub on_waiting_is : (c : Choices) (m : MasterNode) (id : ℕ) (f : AnchorState → AnchorState × AnchorOut) → ((a : AnchorState) → OnTraffic a (f a)) → (o : Option AnchorState) → held id m.anchors ≡ o
    → MasterOnTraffic c m (on_waiting c m id f o)
on_waiting_is c m id f is None at = master_same c m
on_waiting_is c m id f is (Some a) at = waiting_did c m id a (f a) at (is a)

-- ---- flights

host_is : (c : Choices) (m : MasterNode) (id : ℕ) (f : Host → Host × List Send) → ((h : Host) → controls (f h).1 ≡ []) → (o : Option Host) → MasterOnTraffic c m (on_host m id f o)
host_is c m id f none None = master_same c m
host_is c m id f none (Some h) = master_keeps refl (λ k. refl) (none h) (λ up. up)

data_is : (c : Choices) (m : MasterNode) (f : AnchorState → AnchorState × AnchorOut) (h : Host → Host × List Send) → ((a : AnchorState) → OnTraffic a (f a)) → ((x : Host) → controls (h x).1 ≡ [])
    → (named : Option Named) → MasterOnTraffic c m (data_taken c m f h named)
data_is c m f h anchor host None = master_same c m
data_is c m f h anchor host (Some (id, g)) =
    either (MasterOnTraffic c m) (is_anchor_of g (held id m.anchors)) (on_waiting c m id f (held id m.anchors)) (on_host m id h (held id m.hosts))
    (on_waiting_is c m id f anchor (held id m.anchors) refl) (host_is c m id h host (held id m.hosts))

line_is : (c : Choices) (m : MasterNode) (f : Flight) → MasterOnTraffic c m (line_taken m f)
line_is c m (flight.Told id g count) = aside_keeps c m (told_by m id g count (row m.proc.table id)) (told_aside m id g count (row m.proc.table id))
line_is c m (flight.Sdu id g payload) = master_same c m
line_is c m (flight.End id g) = master_same c m
line_is c m (flight.Air id g num tag pdu) = master_same c m
line_is c m (flight.Ack id g num) = master_same c m
line_is c m (flight.Tun tag packet) = master_same c m
line_is c m (flight.Ctl r) = master_same c m

takes_is : (c : Choices) (m : MasterNode) (from : Node) (f : Flight) (k : Class) → not (is_control k) ≡ true → MasterOnTraffic c m (master_takes c m from f k)
takes_is c m from f Ctl other = absurd cc
takes_is c m from f Feed other = line_is c m f
takes_is c m from f Air other = data_is c m (λ a. air_in a cell.Mcg f) (λ h. host_air_in h f) (λ a. air_keeps a cell.Mcg f) (λ h. host_air_none h f) (flight_named f)
takes_is c m from f Tun other = data_is c m (λ a. tunnel_in c a f) (λ h. host_tunnel_in h f) (λ a. tunnel_is c a f) (λ h. host_tunnel_none h f) (flight_named f)

-- ---- events

-- what is so of the master with one more submission accepted is so of it
accepted_as : (c : Choices) (m : MasterNode) (id : ℕ) (w : Window) (done : MasterNode × Effects) → MasterOnTraffic c (with_accepted m id w) done → MasterOnTraffic c m done
accepted_as c m id w done (master_keeps proc views sends ascends) = master_keeps proc views sends ascends
accepted_as c m id w done (master_adopts i v at had next before proc views sends ascends is) = master_adopts i v at had next before proc views sends ascends is

to_anchor_is : (c : Choices) (m : MasterNode) (id g : ℕ) (payload : List ℕ) (x : Node) → MasterOnTraffic c m (to_anchor_at c m id g payload x)
to_anchor_is c m id g payload M = on_anchor_is c m id (λ a. submit c a payload) (λ a. submit_keeps c a payload) (held id m.anchors) refl
to_anchor_is c m id g payload A = master_keeps refl (λ k. refl) refl (λ up. up)
to_anchor_is c m id g payload B = master_keeps refl (λ k. refl) refl (λ up. up)
to_anchor_is c m id g payload T = master_same c m

unless_is : (c : Choices) (m : MasterNode) (why : Option Refusal) (done : MasterNode × Effects) → MasterOnTraffic c m done → MasterOnTraffic c m (came (unless m why done))
unless_is c m None done is = is
unless_is c m (Some why) done is = master_same c m

submitted_to_is : (c : Choices) (m : MasterNode) (id : ℕ) (payload : List ℕ) (r : Row) (o : Option Window) → MasterOnTraffic c m (came (submitted_to c m id payload r o))
submitted_to_is c m id payload r None = master_same c m
submitted_to_is c m id payload r (Some w) =
    let m' = with_accepted m id w in
    unless_is c m (first_refusal (submit_refusals r w)) (to_anchor_at c m' id r.g payload r.anchor)
    (accepted_as c m id w (to_anchor_at c m' id r.g payload r.anchor) (to_anchor_is c m' id r.g payload r.anchor))

submitted_is : (c : Choices) (m : MasterNode) (id : ℕ) (payload : List ℕ) (o : Option Row) → MasterOnTraffic c m (came (submitted c m id payload o))
submitted_is c m id payload None = master_same c m
submitted_is c m id payload (Some r) = submitted_to_is c m id payload r (held id m.windows)

report_is : (c : Choices) (m : MasterNode) (id : ℕ) (there : Bool) → MasterOnTraffic c m (came (report_asked c m id there))
report_is c m id false = master_same c m
report_is c m id true = on_anchor_is c m id (report c) (λ a. report_keeps c a) (held id m.anchors) refl

event_is : (c : Choices) (m : MasterNode) (e : Event) → is_traffic_event e ≡ true → MasterOnTraffic c m (came (master_event c m e))
event_is c m (event.Submit id d payload) is = submitted_is c m id payload (settled_row m id)
event_is c m (event.Report node id) is = report_is c m id (has_bearer m.proc id)
event_is c m (event.Bearer id n first shape threshold policy) is = absurd cc
event_is c m (event.Reshape id shape) is = absurd cc
event_is c m (event.Remove id) is = absurd cc
event_is c m (event.Add node) is = absurd cc
event_is c m event.Change is = absurd cc
event_is c m event.Release is = absurd cc
event_is c m event.RekeySecond is = absurd cc
event_is c m (event.RekeyMaster root) is = absurd cc
event_is c m (event.Recover id) is = absurd cc
event_is c m (event.Deny node on) is = absurd cc
event_is c m (event.Ask node what) is = absurd cc
event_is c m event.ScgFail is = absurd cc
event_is c m (event.Step l i) is = absurd cc
event_is c m (event.Lose l i) is = absurd cc
event_is c m (event.Again l i) is = absurd cc

-- traffic at the master
pub master_traffic : (c : Choices) (m : MasterNode) (i : Input) → is_traffic i ≡ true → MasterOnTraffic c m (came (master_step c m i))
master_traffic c m (Cmd e) is = event_is c m e is
master_traffic c m (Come l f) is = takes_is c m l.from f l.class is
