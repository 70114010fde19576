-- What each step of an anchor keeps, each step of the master keeps of all its anchors.
use Rattle.std.proofs.Common.{Bool, Err, List, None, Ok, Option, Result, Some, [], false, not, true, ℕ, ◌==◌, ◌∷◌, length}
use Rattle.std.specs.Option.{option_map}
use Rattle.std.specs.Prelude.{if◌then◌else◌, nat_lt}
use Rattle.dc_base.specs.declared.answers.Refusal.{Refusal}
use Rattle.dc_base.specs.declared.events.Event.{Event}
use Rattle.dc_base.specs.declared.events.Note.{Note}
use Rattle.dc_base.specs.declared.flights.Flight.{Flight}
use Rattle.dc_base.specs.declared.nodes.Class.{Class}
use Rattle.dc_base.specs.declared.nodes.Class.TheVariants.{Air, Ctl, Feed, Tun}
use Rattle.dc_base.specs.declared.nodes.Dir.TheVariants.{Dl}
use Rattle.dc_base.specs.declared.nodes.Node.{Node}
use Rattle.dc_base.specs.declared.nodes.Node.TheVariants.{A, B, M, T}
use Rattle.dc_base.specs.declared.records.Item.{Item}
use Rattle.dc_base.specs.declared.records.Plan.{Plan}
use Rattle.node_rules.specs.Adopting.{status_in}
use Rattle.node_rules.specs.Anchor.{AnchorState, active_anchor, fresh, renew, setup_at, waiting, waiting_anchor}
use Rattle.node_rules.specs.AnchorReceiving.{air_in, tunnel_in}
use Rattle.node_rules.specs.AnchorSending.{fail_scg, recover, report, submit, unlock}
use Rattle.node_rules.specs.Choices.{Choices, Send}
use Rattle.node_rules.specs.CommandTable.{row}
use Rattle.node_rules.specs.Effects.{in_turn, noted, quiet, unless}
use Rattle.node_rules.specs.Flights.{Named, flight_named}
use Rattle.node_rules.specs.Held.{held, holding, identities}
use Rattle.node_rules.specs.Host.{Host}
use Rattle.node_rules.specs.HostRules.{host_air_in, host_tunnel_in}
use Rattle.node_rules.specs.Master.{MasterNode, anchor_did, is_waiting, low_rises, on_anchor, on_anchor_of, told_by, window_told, without_waiting}
use Rattle.node_rules.specs.MasterCommands.{master_command}
use Rattle.node_rules.specs.MasterPlan.{adopts_if, carries_item, does, frozen_here, is_rejection, master_act, master_did, master_part, master_setup, on_waiting, prepares_item, prepares_part, renewed_here, says, with_host_and_window}
use Rattle.node_rules.specs.MasterState.{MasterActs, has_bearer}
use Rattle.node_rules.specs.MasterStep.{command_taken, commanded, control_taken, data_taken, is_anchor_of, line_taken, master_event, master_step, master_takes, on_host, record_taken, report_asked, settled_row, submit_refusals, submitted, submitted_to, to_anchor_at, with_accepted}
use Rattle.node_rules.specs.MasterTaking.{master_adopted, master_take}
use Rattle.node_rules.specs.Parts.{part_at}
use Rattle.node_rules.specs.Setup.{Setup}
use Rattle.node_rules.specs.declared.acts.Act.{Act}
use Rattle.node_rules.specs.declared.acts.Act.TheVariants.{FailOne as fail_one, Go as go, Pass as pass, Prepare as prepare, RecoverOne as recover_one, Say as say, Send as send, UnlockAll as unlock_all}
use Rattle.node_rules.specs.declared.bearers.AnchorOut.{AnchorOut}
use Rattle.node_rules.specs.declared.bearers.Window.{Window}
use Rattle.node_rules.specs.declared.commands.Row.{Row}
use Rattle.node_rules.specs.declared.inputs.Effects.{Effects}
use Rattle.node_rules.specs.declared.inputs.Input.{Input}
use Rattle.run_senders.specs.Holders.{AllHeld, IfThere}
use Rattle.run_senders.proofs.Held.{held_so, holding_so}
use Rattle.run_ordered.specs.Anchors.{IsLaw}
use Rattle.dc_base.specs.Records.{item_id}
use Rattle.master_runs.proofs.Lists.{each_filter}
use Rattle.node_rules.specs.Acts.{first_refusal, ProcFault, refused, unexpected}
use Rattle.node_rules.specs.declared.parts.Part.{Part}
use Rattle.node_rules.specs.declared.parts.Part.TheVariants.{Awaits as awaits, Drops as drops, Establishes as establishes, HandsOver as hands_over, HasNoAnchor as has_no_anchor, Renews as renews}
use Rattle.node_rules.specs.declared.inputs.Input.TheVariants.{Cmd, Come}
use Rattle.dc_base.specs.declared.events.Event.TheVariants as event
use Rattle.dc_base.specs.declared.events.Note.TheVariants as note
use Rattle.dc_base.specs.declared.flights.Flight.TheVariants as flight
use Rattle.dc_base.specs.declared.nodes.Cell.TheVariants as cell

module _ (c : Choices) (P : AnchorState → Type 0) (law : IsLaw c P) where
  -- it is so of all anchors of the master
  abbrev K : MasterNode → Type 0
  K m = AllHeld P m.anchors

  -- whichever of two
  either_of : (t : Bool) (x y : MasterNode × Effects) → K x.0 → K y.0 → K (if t then x else y).0
  either_of true x y one two = one
  either_of false x y one two = two

  turn : {X : Type 0} (f : MasterNode → X → MasterNode × Effects) → ((m : MasterNode) (y : X) → K m → K (f m y).0) → (m : MasterNode) (ys : List X) → K m → K (in_turn f m ys).0
  turn f each m [] is = is
  turn f each m (y ∷ ys) is = turn f each (f m y).0 ys (each m y is)

  with_anchor : (m : MasterNode) (id : ℕ) (o : Option AnchorState) → IfThere P o → K m → K (record m { anchors = holding id o m.anchors })
  with_anchor m id o so is = holding_so P id o so m.anchors is

  here : (m : MasterNode) (id : ℕ) → K m → IfThere P (held id m.anchors)
  here m id is = held_so P id m.anchors is

  -- ---- windows and anchors

  by_window : (m : MasterNode) (id count : ℕ) (o : Option Window) → K m → K (window_told m id count o).0
  by_window m id count None is = is
  by_window m id count (Some w) is =
      either_of (nat_lt w.told count) (record m { windows = holding id (Some (record w { told = count })) m.windows }, noted (note.Freed id Dl count)) (m, quiet) is is

  by_low : (m : MasterNode) (id : ℕ) (o : Option ℕ) → K m → K (low_rises m id o).0
  by_low m id None is = is
  by_low m id (Some count) is = by_window m id count (held id m.windows) is

  by_told : (m : MasterNode) (id g count : ℕ) (o : Option Row) → K m → K (told_by m id g count o).0
  by_told m id g count None is = is
  by_told m id g count (Some r) is = either_of (nat_lt g r.est) (m, quiet) (window_told m id count (held id m.windows)) is (by_window m id count (held id m.windows) is)

  -- a step of an anchor
  abbrev Kept : (AnchorState → AnchorState × AnchorOut) → Type 0
  Kept f = (a : AnchorState) → P a → P (f a).0

  by_anchor : (m : MasterNode) (id : ℕ) (done : AnchorState × AnchorOut) → P done.0 → K m → K (anchor_did m id done).0
  by_anchor m id done so is = by_low (record m { anchors = holding id (Some done.0) m.anchors }) id done.1.low (with_anchor m id (Some done.0) so is)

  by_on_anchor : (m : MasterNode) (id : ℕ) (f : AnchorState → AnchorState × AnchorOut) → Kept f → (o : Option AnchorState) → IfThere P o → K m → K (on_anchor m id f o).0
  by_on_anchor m id f keep None at is = is
  by_on_anchor m id f keep (Some a) at is = by_anchor m id (f a) (keep a at) is

  by_on_anchor_of : (m : MasterNode) (g : ℕ) (f : AnchorState → AnchorState × AnchorOut) → Kept f → (id : ℕ) (o : Option AnchorState) → IfThere P o → K m → K (on_anchor_of m g f id o).0
  by_on_anchor_of m g f keep id None at is = is
  by_on_anchor_of m g f keep id (Some a) at is = either_of ((setup_at a).g == g) (anchor_did m id (f a)) (m, quiet) (by_anchor m id (f a) (keep a at) is) is

  -- ---- how a plan is carried out

  fresh_is : (o : Option Setup) → IfThere P (option_map fresh o)
  fresh_is None = tt
  fresh_is (Some s) = law.begins s

  waiting_is : (o : Option Setup) → IfThere P (option_map waiting o)
  waiting_is None = tt
  waiting_is (Some s) = law.waits s

  by_renewed : (m : MasterNode) (id g : ℕ) (s : Option Setup) (o : Option AnchorState) → IfThere P o → K m → K (renewed_here m id g s o).0
  by_renewed m id g None o at is = is
  by_renewed m id g (Some s) None at is = is
  by_renewed m id g (Some s) (Some (waiting_anchor w)) at is = is
  by_renewed m id g (Some s) (Some (active_anchor a)) at is = with_anchor m id (Some (active_anchor (renew a s))) (law.renews a s at) is

  by_frozen : (m : MasterNode) (id g : ℕ) (to : Node) (o : Option AnchorState) → K m → K (frozen_here m id g to o).0
  by_frozen m id g to None is = is
  by_frozen m id g to (Some (waiting_anchor w)) is = is
  by_frozen m id g to (Some (active_anchor a)) is = with_anchor m id None tt is

  by_part : (m : MasterNode) (p : Plan) (i : Item) (part : Part) → K m → K (master_part m p i part).0
  by_part m p i establishes is = with_anchor m (item_id i) (option_map fresh (master_setup m p i)) (fresh_is (master_setup m p i)) is
  by_part m p i renews is = by_renewed m (item_id i) p.g (master_setup m p i) (held (item_id i) m.anchors) (here m (item_id i) is) is
  by_part m p i awaits is = is
  by_part m p i (hands_over to) is = by_frozen m (item_id i) p.g to (held (item_id i) m.anchors) is
  by_part m p i drops is = with_anchor m (item_id i) None tt is
  by_part m p i has_no_anchor is = is

  by_item : (p : Plan) (m : MasterNode) (i : Item) → K m → K (carries_item p m i).0
  by_item p m i is = by_part (with_host_and_window p m i) p i (part_at M p.sec i) is

  by_preparing : (p : Plan) (m : MasterNode) (i : Item) (part : Part) → K m → K (prepares_part m p i part).0
  by_preparing p m i establishes is = is
  by_preparing p m i renews is = is
  by_preparing p m i awaits is = with_anchor m (item_id i) (option_map waiting (master_setup m p i)) (waiting_is (master_setup m p i)) is
  by_preparing p m i (hands_over to) is = is
  by_preparing p m i drops is = is
  by_preparing p m i has_no_anchor is = is

  -- ---- acts

  by_says : (m : MasterNode) (n : Note) → K m → K (says m n).0
  by_says m n is = by (is_rejection n)
    where
      by : (t : Bool) → AllHeld P (if t then without_waiting m else m).anchors
      by true = each_filter (λ (x : ℕ × AnchorState). P x.1) (λ (x : ℕ × AnchorState). not (is_waiting x.1)) m.anchors is
      by false = is

  by_act : (m : MasterNode) (a : Act) → K m → K (master_act c m a).0
  by_act m (send to r) is = is
  by_act m (prepare p) is = turn (prepares_item p) (λ k i so. by_preparing p k i (part_at M p.sec i) so) m p.items is
  by_act m (go p) is = turn (carries_item p) (by_item p) m p.items is
  by_act m (unlock_all g) is =
      turn (λ n id. on_anchor_of n g (unlock c) id (held id n.anchors)) (λ n id so. by_on_anchor_of n g (unlock c) law.unlocks id (held id n.anchors) (here n id so) so) m (identities m.anchors) is
  by_act m (say n) is = by_says m n is
  by_act m (recover_one id) is = by_on_anchor m id (recover c) law.recovers (held id m.anchors) (here m id is) is
  by_act m (fail_one id g) is = by_on_anchor_of m g (fail_scg c) law.fails id (held id m.anchors) (here m id is) is
  by_act m (pass st) is = is

  by_does : (m : MasterNode) (r : MasterActs) → K m → K (does c m r).0
  by_does m r is = turn (master_act c) by_act (record m { proc = r.0 }) r.1 is

  -- ---- an adoption

  by_adopts : (id g : ℕ) (adopted : Bool) (done : MasterNode × Effects) → K done.0 → K (adopts_if c id g adopted done).0
  by_adopts id g false done is = is
  by_adopts id g true done is = by_does done.0 (master_adopted done.0.proc id) is

  by_waiting : (m : MasterNode) (id : ℕ) (f : AnchorState → AnchorState × AnchorOut) → Kept f → (o : Option AnchorState) → IfThere P o → K m → K (on_waiting c m id f o).0
  by_waiting m id f keep None at is = is
  by_waiting m id f keep (Some a) at is = by_adopts id (setup_at a).g (f a).1.adopted (anchor_did m id (f a)) (by_anchor m id (f a) (keep a at) is)

  -- ---- records

  by_did : (m : MasterNode) (a : Act) → K m → K (master_did c m a).0
  by_did m (send to r) is = is
  by_did m (prepare p) is = by_act m (prepare p) is
  by_did m (go p) is = by_act m (go p) is
  by_did m (unlock_all g) is = by_act m (unlock_all g) is
  by_did m (say n) is = by_act m (say n) is
  by_did m (recover_one id) is = by_act m (recover_one id) is
  by_did m (fail_one id g) is = by_act m (fail_one id g) is
  by_did m (pass st) is = by_waiting m st.id (λ a. status_in c a st) (λ a so. law.transfers a st so) (held st.id m.anchors) (here m st.id is) is

  by_record : (m : MasterNode) (r : Result MasterActs ProcFault) → K m → K (record_taken c m r).0
  by_record m (Ok r) is = turn (master_did c) by_did (record m { proc = r.0 }) r.1 is
  by_record m (Err why) is = is

  -- ---- flights

  by_host : (m : MasterNode) (id : ℕ) (h : Host → Host × List Send) (o : Option Host) → K m → K (on_host m id h o).0
  by_host m id h None is = is
  by_host m id h (Some x) is = is

  by_data : (m : MasterNode) (f : AnchorState → AnchorState × AnchorOut) (h : Host → Host × List Send) → Kept f → (o : Option Named) → K m → K (data_taken c m f h o).0
  by_data m f h keep None is = is
  by_data m f h keep (Some (id, g)) is =
      either_of (is_anchor_of g (held id m.anchors)) (on_waiting c m id f (held id m.anchors)) (on_host m id h (held id m.hosts))
      (by_waiting m id f keep (held id m.anchors) (here m id is) is) (by_host m id h (held id m.hosts) is)

  by_line : (m : MasterNode) (f : Flight) → K m → K (line_taken m f).0
  by_line m (flight.Told id g count) is = by_told m id g count (row m.proc.table id) is
  by_line m (flight.Sdu id g payload) is = is
  by_line m (flight.End id g) is = is
  by_line m (flight.Air id g num tag pdu) is = is
  by_line m (flight.Ack id g num) is = is
  by_line m (flight.Tun tag packet) is = is
  by_line m (flight.Ctl r) is = is

  by_control : (m : MasterNode) (from : Node) (f : Flight) → K m → K (control_taken c m from f).0
  by_control m from (flight.Ctl r) is = by_record m (master_take from m.proc r) is
  by_control m from (flight.Air id g num tag pdu) is = is
  by_control m from (flight.Ack id g num) is = is
  by_control m from (flight.Tun tag packet) is = is
  by_control m from (flight.Sdu id g payload) is = is
  by_control m from (flight.End id g) is = is
  by_control m from (flight.Told id g count) is = is

  by_flight : (m : MasterNode) (from : Node) (f : Flight) (k : Class) → K m → K (master_takes c m from f k).0
  by_flight m from f Ctl is = by_control m from f is
  by_flight m from f Feed is = by_line m f is
  by_flight m from f Air is = by_data m (λ a. air_in a cell.Mcg f) (λ h. host_air_in h f) (λ a so. law.hears a cell.Mcg f so) (flight_named f) is
  by_flight m from f Tun is = by_data m (λ a. tunnel_in c a f) (λ h. host_tunnel_in h f) (λ a so. law.tunnels a f so) (flight_named f) is

  -- ---- events

  by_to_anchor : (m : MasterNode) (id g : ℕ) (payload : List ℕ) (x : Node) → K m → K (to_anchor_at c m id g payload x).0
  by_to_anchor m id g payload M is = by_on_anchor m id (λ a. submit c a payload) (λ a so. law.submits a payload so) (held id m.anchors) (here m id is) is
  by_to_anchor m id g payload A is = is
  by_to_anchor m id g payload B is = is
  by_to_anchor m id g payload T is = is

  by_unless : (m : MasterNode) (o : Option Refusal) (done : MasterNode × Effects) → K m → K done.0 → K (unless m o done).0
  by_unless m None done is at = at
  by_unless m (Some why) done is at = is

  by_submitted_to : (m : MasterNode) (id : ℕ) (payload : List ℕ) (r : Row) (o : Option Window) → K m → K (submitted_to c m id payload r o).0
  by_submitted_to m id payload r None is = is
  by_submitted_to m id payload r (Some w) is =
      let k = with_accepted m id w in
      by_unless m (first_refusal (submit_refusals r w)) (to_anchor_at c k id r.g payload r.anchor) is (by_to_anchor k id r.g payload r.anchor is)

  by_submitted : (m : MasterNode) (id : ℕ) (payload : List ℕ) (o : Option Row) → K m → K (submitted c m id payload o).0
  by_submitted m id payload None is = is
  by_submitted m id payload (Some r) is = by_submitted_to m id payload r (held id m.windows) is

  by_report : (m : MasterNode) (id : ℕ) (has : Bool) → K m → K (report_asked c m id has).0
  by_report m id false is = is
  by_report m id true is = by_on_anchor m id (report c) law.reports (held id m.anchors) (here m id is) is

  by_commanded : (m : MasterNode) (r : Result MasterActs ProcFault) → K m → K (commanded c m r).0
  by_commanded m (Ok r) is = by_does m r is
  by_commanded m (Err (refused why)) is = is
  by_commanded m (Err (unexpected k)) is = is

  by_command : (m : MasterNode) (e : Event) → K m → K (command_taken c m e).0
  by_command m e is = by_commanded m (master_command (length c.policies) m.proc e) is

  by_event : (m : MasterNode) (e : Event) → K m → K (master_event c m e).0
  by_event m (event.Bearer id n first shape threshold policy) is = by_command m (event.Bearer id n first shape threshold policy) is
  by_event m (event.Reshape id shape) is = by_command m (event.Reshape id shape) is
  by_event m (event.Remove id) is = by_command m (event.Remove id) is
  by_event m (event.Add node) is = by_command m (event.Add node) is
  by_event m event.Change is = by_command m event.Change is
  by_event m event.Release is = by_command m event.Release is
  by_event m event.RekeySecond is = by_command m event.RekeySecond is
  by_event m (event.RekeyMaster root) is = by_command m (event.RekeyMaster root) is
  by_event m (event.Recover id) is = by_command m (event.Recover id) is
  by_event m (event.Report node id) is = by_report m id (has_bearer m.proc id) is
  by_event m (event.Deny node on) is = is
  by_event m (event.Ask node what) is = is
  by_event m event.ScgFail is = is
  by_event m (event.Submit id d payload) is = by_submitted m id payload (settled_row m id) is
  by_event m (event.Step l i) is = is
  by_event m (event.Lose l i) is = is
  by_event m (event.Again l i) is = is

  -- a step of the master
  pub master_walk : (m : MasterNode) (i : Input) → K m → K (master_step c m i).0
  master_walk m (Cmd e) is = by_event m e is
  master_walk m (Come l f) is = by_flight m l.from f l.class is
