-- What the master sends is no uplink PDU, or passes on the one that comes; and what its waiting anchors keep is read of those that came.
use Rattle.std.proofs.Common.{ℕ, ◌==◌, Bool, true, false, List, Option, Some, None, length, inl, inr}
use Rattle.std.specs.Prelude.{Err, Ok, Result, nat_lt, not}
use Rattle.std.specs.Option.{option_map}
use Rattle.std.proofs.lemmas.Bool.{cases_Bool}
use Rattle.dc_base.specs.Nodes.{is_same_node}
use Rattle.dc_base.specs.Records.{item_id}
use Rattle.dc_base.specs.declared.answers.Refusal.{Refusal}
use Rattle.dc_base.specs.declared.events.Event.{Event}
use Rattle.dc_base.specs.declared.events.Event.TheVariants as event
use Rattle.dc_base.specs.declared.events.Note.{Note}
use Rattle.dc_base.specs.declared.events.Note.TheVariants as note
use Rattle.dc_base.specs.declared.flights.Flight.{Flight}
use Rattle.dc_base.specs.declared.flights.Flight.TheVariants as flight
use Rattle.dc_base.specs.declared.nodes.Cell.TheVariants as cell
use Rattle.dc_base.specs.declared.nodes.Class.{Class}
use Rattle.dc_base.specs.declared.nodes.Class.TheVariants.{Air, Ctl, Feed, Tun}
use Rattle.dc_base.specs.declared.nodes.Dir.TheVariants.{Dl}
use Rattle.dc_base.specs.declared.nodes.Node.{Node}
use Rattle.dc_base.specs.declared.nodes.Node.TheVariants.{A, B, M, T}
use Rattle.dc_base.specs.declared.records.Item.{Item}
use Rattle.dc_base.specs.declared.records.Item.TheVariants as item
use Rattle.dc_base.specs.declared.records.Plan.{Plan}
use Rattle.master_runs.proofs.Lists.{each_filter}
use Rattle.node_rules.specs.Acts.{ProcFault, first_refusal, refused, unexpected}
use Rattle.node_rules.specs.Adopting.{status_in}
use Rattle.node_rules.specs.Anchor.{AnchorState, active_anchor, fresh, renew, setup_at, waiting, waiting_anchor}
use Rattle.node_rules.specs.AnchorReceiving.{air_in, tunnel_in}
use Rattle.node_rules.specs.AnchorSending.{fail_scg, recover, report, submit, unlock}
use Rattle.node_rules.specs.Choices.{Choices, Send}
use Rattle.node_rules.specs.CommandTable.{row}
use Rattle.node_rules.specs.Effects.{accepted, noted, quiet, turned_down, unless}
use Rattle.node_rules.specs.Flights.{Named, flight_named}
use Rattle.node_rules.specs.Held.{held, holding, identities}
use Rattle.node_rules.specs.HostRules.{host_air_in, host_tunnel_in}
use Rattle.node_rules.specs.Master.{MasterNode, anchor_did, is_waiting, low_rises, on_anchor, on_anchor_of, told_by, window_told, without_waiting}
use Rattle.node_rules.specs.MasterCommands.{command_refusals, commands_unless}
use Rattle.node_rules.specs.MasterPlan.{adopts_if, carries_item, does, frozen_here, is_rejection, line_end, line_ends, master_act, master_did, master_part, master_setup, on_waiting, prepares_item, prepares_part, renewed_here, says, with_host_and_window}
use Rattle.node_rules.specs.MasterState.{MasterActs, has_bearer}
use Rattle.node_rules.specs.MasterStep.{command_taken, commanded, control_taken, data_taken, is_anchor_of, line_taken, master_step, master_takes, on_host, record_taken, report_asked, settled_row, submit_refusals, submitted, submitted_to, to_anchor_at, with_accepted}
use Rattle.node_rules.specs.MasterTaking.{master_adopted, master_take}
use Rattle.node_rules.specs.Parts.{part_at}
use Rattle.node_rules.specs.Places.{anchor_at}
use Rattle.node_rules.specs.Setup.{Setup}
use Rattle.node_rules.specs.declared.acts.Act.{Act}
use Rattle.node_rules.specs.declared.acts.Act.TheVariants.{FailOne as fail_one, Go as go, Pass as pass, Prepare as prepare, RecoverOne as recover_one, Say as say, Send as send, UnlockAll as unlock_all}
use Rattle.node_rules.specs.declared.bearers.AnchorOut.{AnchorOut}
use Rattle.node_rules.specs.declared.bearers.Window.{Window}
use Rattle.node_rules.specs.declared.commands.Row.{Row}
use Rattle.node_rules.specs.declared.inputs.Effects.{Effects}
use Rattle.node_rules.specs.declared.inputs.Input.TheVariants.{Cmd, Come}
use Rattle.node_rules.specs.declared.inputs.Outcome.{Outcome}
use Rattle.node_rules.specs.declared.parts.Part.{Part}
use Rattle.node_rules.specs.declared.parts.Part.TheVariants.{Awaits as awaits, Drops as drops, Establishes as establishes, HandsOver as hands_over, HasNoAnchor as has_no_anchor, Renews as renews}
use Rattle.master_runs.proofs.Lists.{each_filter}
use Rattle.run_control.proofs.Sent.{either}
use Rattle.run_senders.specs.Holders.{AllHeld, IfThere}
use Rattle.run_senders.proofs.Held.{held_so, holding_so}
use Rattle.run_relays.specs.Kept.{Brings, KeepsOf}
use Rattle.run_relays.specs.Relays.{ArePlain, AreSentFor, IsSentFor}
use Rattle.run_relays.proofs.AnchorSends.{AnchorDoes, both_plain, fail_does, freeze_plain, recover_does, report_does, submit_does, unlock_does}
use Rattle.run_relays.proofs.Arrivals.{air_does, status_does, tunnel_does}
use Rattle.run_relays.proofs.Held.{Leaves, LeavesWith, in_turn_leaves}
use Rattle.run_relays.proofs.Hosts.{host_air_sends, host_tunnel_sends, plain_for}
use Rattle.node_rules.specs.Host.{Host}
use Rattle.dc_base.specs.declared.nodes.LinkId.{LinkId}

module _ (P : ℕ → ℕ → List ℕ → Type 0) (H : Host → Type 0) where
  -- such contents alone are kept at the master
  abbrev K : MasterNode → Type 0
  K m = AllHeld (KeepsOf P) m.anchors

  -- after a step of the master
  abbrev AtMaster : MasterNode × Effects → Type 0
  AtMaster done = Leaves K done

  -- with another anchor for an identity, or none
  with_anchor : (m : MasterNode) (id : ℕ) (o : Option AnchorState) → IfThere (KeepsOf P) o → K m → K (record m { anchors = holding id o m.anchors })
  with_anchor m id o so is = holding_so (KeepsOf P) id o so m.anchors is

  -- nothing comes of it
  idle : (m : MasterNode) → K m → AtMaster (m, quiet)
  idle m is = record { so = is; plain = tt }

  -- ---- windows and anchors

  by_window : (m : MasterNode) (id count : ℕ) (o : Option Window) → K m → AtMaster (window_told m id count o)
  by_window m id count None is = idle m is
  by_window m id count (Some w) is =
      either AtMaster (nat_lt w.told count) (record m { windows = holding id (Some (record w { told = count })) m.windows }, noted (note.Freed id Dl count)) (m, quiet)
      (record { so = is; plain = tt }) (idle m is)

  by_low : (m : MasterNode) (id : ℕ) (o : Option ℕ) → K m → AtMaster (low_rises m id o)
  by_low m id None is = idle m is
  by_low m id (Some count) is = by_window m id count (held id m.windows) is

  by_told : (m : MasterNode) (id g count : ℕ) (o : Option Row) → K m → AtMaster (told_by m id g count o)
  by_told m id g count None is = idle m is
  by_told m id g count (Some r) is = either AtMaster (nat_lt g r.est) (m, quiet) (window_told m id count (held id m.windows)) (idle m is) (by_window m id count (held id m.windows) is)

  by_anchor : (m : MasterNode) (id : ℕ) (done : AnchorState × AnchorOut) → AnchorDoes P done → K m → AtMaster (anchor_did m id done)
  by_anchor m id done does' is =
      let k : MasterNode = record m { anchors = holding id (Some done.0) m.anchors } in
      let low = by_low k id done.1.low (with_anchor m id (Some done.0) does'.keeps is) in
      record { so = low.so; plain = both_plain done.1.sends (low_rises k id done.1.low).1.sends does'.plain low.plain }

  -- a step of an anchor
  abbrev AnchorsDo : (AnchorState → AnchorState × AnchorOut) → Type 0
  AnchorsDo f = (a : AnchorState) → KeepsOf P a → AnchorDoes P (f a)

  by_on_anchor : (m : MasterNode) (id : ℕ) (f : AnchorState → AnchorState × AnchorOut) → AnchorsDo f → (o : Option AnchorState) → IfThere (KeepsOf P) o → K m → AtMaster (on_anchor m id f o)
  by_on_anchor m id f do' None here is = idle m is
  by_on_anchor m id f do' (Some a) here is = by_anchor m id (f a) (do' a here) is

  by_on_anchor_of : (m : MasterNode) (g : ℕ) (f : AnchorState → AnchorState × AnchorOut) → AnchorsDo f → (id : ℕ) (o : Option AnchorState) → IfThere (KeepsOf P) o → K m
      → AtMaster (on_anchor_of m g f id o)
  by_on_anchor_of m g f do' id None here is = idle m is
  by_on_anchor_of m g f do' id (Some a) here is = either AtMaster ((setup_at a).g == g) (anchor_did m id (f a)) (m, quiet) (by_anchor m id (f a) (do' a here) is) (idle m is)

  -- what the anchor of an identity keeps
  anchor_here : (m : MasterNode) (id : ℕ) → K m → IfThere (KeepsOf P) (held id m.anchors)
  anchor_here m id is = held_so (KeepsOf P) id m.anchors is

  -- ---- how a plan is carried out

  fresh_keeps : (o : Option Setup) → IfThere (KeepsOf P) (option_map fresh o)
  fresh_keeps None = tt
  fresh_keeps (Some s) = tt

  waiting_keeps : (o : Option Setup) → IfThere (KeepsOf P) (option_map waiting o)
  waiting_keeps None = tt
  waiting_keeps (Some s) = tt

  by_renewed : (m : MasterNode) (id g : ℕ) (s : Option Setup) (o : Option AnchorState) → K m → AtMaster (renewed_here m id g s o)
  by_renewed m id g None o is = idle m is
  by_renewed m id g (Some s) None is = idle m is
  by_renewed m id g (Some s) (Some (waiting_anchor w)) is = idle m is
  by_renewed m id g (Some s) (Some (active_anchor a)) is = record { so = with_anchor m id (Some (active_anchor (renew a s))) tt is; plain = tt }

  by_frozen : (m : MasterNode) (id g : ℕ) (to : Node) (o : Option AnchorState) → K m → AtMaster (frozen_here m id g to o)
  by_frozen m id g to None is = idle m is
  by_frozen m id g to (Some (waiting_anchor w)) is = idle m is
  by_frozen m id g to (Some (active_anchor a)) is = record { so = with_anchor m id None tt is; plain = (tt, freeze_plain a to g true) }

  by_part : (m : MasterNode) (p : Plan) (i : Item) (part : Part) → K m → AtMaster (master_part m p i part)
  by_part m p i establishes is =
      let s = master_setup m p i in record { so = with_anchor m (item_id i) (option_map fresh s) (fresh_keeps s) is; plain = tt }
  by_part m p i renews is = by_renewed m (item_id i) p.g (master_setup m p i) (held (item_id i) m.anchors) is
  by_part m p i awaits is = idle m is
  by_part m p i (hands_over to) is = by_frozen m (item_id i) p.g to (held (item_id i) m.anchors) is
  by_part m p i drops is = record { so = with_anchor m (item_id i) None tt is; plain = tt }
  by_part m p i has_no_anchor is = idle m is

  by_line_end : (g id : ℕ) (new old : Node) → ArePlain (line_end g id new old).sends
  by_line_end g id new M = tt
  by_line_end g id new T = tt
  by_line_end g id new A = elim (cases_Bool (is_same_node new A)) [ inl yes' ↦ rw yes' tt | inr no' ↦ rw no' (tt, tt) ]
  by_line_end g id new B = elim (cases_Bool (is_same_node new B)) [ inl yes' ↦ rw yes' tt | inr no' ↦ rw no' (tt, tt) ]

  by_line_ends : (g : ℕ) (sec : Option Node) (i : Item) → ArePlain (line_ends g sec i).sends
  by_line_ends g sec (item.Set id n first shape threshold policy key None) = tt
  by_line_ends g sec (item.Set id n first shape threshold policy key (Some old)) = by_line_end g id (anchor_at sec shape) old
  by_line_ends g sec (item.Unset id) = tt

  by_item : (p : Plan) (m : MasterNode) (i : Item) → K m → AtMaster (carries_item p m i)
  by_item p m i is =
      let k = with_host_and_window p m i in
      let part = by_part k p i (part_at M p.sec i) is in
      record { so = part.so; plain = both_plain (line_ends p.g p.sec i).sends (master_part k p i (part_at M p.sec i)).1.sends (by_line_ends p.g p.sec i) part.plain }

  by_preparing : (m : MasterNode) (p : Plan) (i : Item) (part : Part) → K m → AtMaster (prepares_part m p i part)
  by_preparing m p i establishes is = idle m is
  by_preparing m p i renews is = idle m is
  by_preparing m p i awaits is = let s = master_setup m p i in record { so = with_anchor m (item_id i) (option_map waiting s) (waiting_keeps s) is; plain = tt }
  by_preparing m p i (hands_over to) is = idle m is
  by_preparing m p i drops is = idle m is
  by_preparing m p i has_no_anchor is = idle m is

  -- ---- acts

  -- a line of the procedures
  by_says : (m : MasterNode) (n : Note) → K m → AtMaster (says m n)
  by_says m n is =
      record { so = either K (is_rejection n) (without_waiting m) m (each_filter (λ (x : ℕ × AnchorState). KeepsOf P x.1) (λ (x : ℕ × AnchorState). not (is_waiting x.1)) m.anchors is) is; plain = tt }

  by_act : (c : Choices) (m : MasterNode) (a : Act) → K m → AtMaster (master_act c m a)
  by_act c m (send to r) is = record { so = is; plain = (tt, tt) }
  by_act c m (prepare p) is = in_turn_leaves K (prepares_item p) (λ k i. by_preparing k p i (part_at M p.sec i)) m p.items is
  by_act c m (go p) is = in_turn_leaves K (carries_item p) (by_item p) m p.items is
  by_act c m (unlock_all g) is =
      in_turn_leaves K (λ n id. on_anchor_of n g (unlock c) id (held id n.anchors))
      (λ n id so. by_on_anchor_of n g (unlock c) (unlock_does P c) id (held id n.anchors) (anchor_here n id so) so) m (identities m.anchors) is
  by_act c m (say n) is = by_says m n is
  by_act c m (recover_one id) is = by_on_anchor m id (recover c) (recover_does P c) (held id m.anchors) (anchor_here m id is) is
  by_act c m (fail_one id g) is = by_on_anchor_of m g (fail_scg c) (fail_does P c) id (held id m.anchors) (anchor_here m id is) is
  by_act c m (pass st) is = idle m is

  by_does : (c : Choices) (m : MasterNode) (r : MasterActs) → K m → AtMaster (does c m r)
  by_does c m r is = in_turn_leaves K (master_act c) (by_act c) (record m { proc = r.0 }) r.1 is

  by_adopting : (c : Choices) (id g : ℕ) (adopted : Bool) (done : MasterNode × Effects) → AtMaster done → AtMaster (adopts_if c id g adopted done)
  by_adopting c id g false done at = at
  by_adopting c id g true done at =
      let r = master_adopted done.0.proc id in
      let more = by_does c done.0 r at.so in
      record { so = more.so; plain = both_plain done.1.sends (does c done.0 r).1.sends at.plain more.plain }

  by_waiting : (c : Choices) (m : MasterNode) (id : ℕ) (f : AnchorState → AnchorState × AnchorOut) → AnchorsDo f → (o : Option AnchorState) → IfThere (KeepsOf P) o → K m → AtMaster (on_waiting c m id f o)
  by_waiting c m id f do' None here is = idle m is
  by_waiting c m id f do' (Some a) here is = by_adopting c id (setup_at a).g (f a).1.adopted (anchor_did m id (f a)) (by_anchor m id (f a) (do' a here) is)

  by_did : (c : Choices) (m : MasterNode) (a : Act) → K m → AtMaster (master_did c m a)
  by_did c m (send to r) is = by_act c m (send to r) is
  by_did c m (prepare p) is = by_act c m (prepare p) is
  by_did c m (go p) is = by_act c m (go p) is
  by_did c m (unlock_all g) is = by_act c m (unlock_all g) is
  by_did c m (say n) is = by_act c m (say n) is
  by_did c m (recover_one id) is = by_act c m (recover_one id) is
  by_did c m (fail_one id g) is = by_act c m (fail_one id g) is
  by_did c m (pass st) is = by_waiting c m st.id (λ a. status_in c a st) (λ a keeps. status_does P c a st keeps) (held st.id m.anchors) (anchor_here m st.id is) is

  -- ---- what the master takes

  by_record : (c : Choices) (m : MasterNode) (r : Result MasterActs ProcFault) → K m → AtMaster (record_taken c m r)
  by_record c m (Ok r) is = in_turn_leaves K (master_did c) (by_did c) (record m { proc = r.0 }) r.1 is
  by_record c m (Err why) is = idle m is

  by_line : (m : MasterNode) (f : Flight) → K m → AtMaster (line_taken m f)
  by_line m (flight.Told id g count) is = by_told m id g count (row m.proc.table id) is
  by_line m (flight.Sdu id g payload) is = idle m is
  by_line m (flight.End id g) is = idle m is
  by_line m (flight.Air id g num tag pdu) is = idle m is
  by_line m (flight.Ack id g num) is = idle m is
  by_line m (flight.Tun tag packet) is = idle m is
  by_line m (flight.Ctl r) is = idle m is

  by_control : (c : Choices) (m : MasterNode) (from : Node) (f : Flight) → K m → AtMaster (control_taken c m from f)
  by_control c m from (flight.Ctl r) is = by_record c m (master_take from m.proc r) is
  by_control c m from (flight.Air id g num tag pdu) is = idle m is
  by_control c m from (flight.Ack id g num) is = idle m is
  by_control c m from (flight.Tun tag packet) is = idle m is
  by_control c m from (flight.Sdu id g payload) is = idle m is
  by_control c m from (flight.End id g) is = idle m is
  by_control c m from (flight.Told id g count) is = idle m is

  -- a flight that it takes
  module _ (f : Flight) where
    abbrev Passes : MasterNode × Effects → Type 0
    Passes done = LeavesWith K (IsSentFor H f) done

    passes : (done : MasterNode × Effects) → AtMaster done → Passes done
    passes done at = record { so = at.so; sends = plain_for H f done.1.sends at.plain }

    by_host : (m : MasterNode) (id : ℕ) (h : Host → Host × List Send) → ((x : Host) → H x → AreSentFor H f (h x).1) → (o : Option Host) → IfThere H o → K m → Passes (on_host m id h o)
    by_host m id h sends None there is = passes (on_host m id h None) (idle m is)
    by_host m id h sends (Some x) there is = record { so = is; sends = sends x there }

    by_data : (c : Choices) (m : MasterNode) (a : AnchorState → AnchorState × AnchorOut) (h : Host → Host × List Send) → AnchorsDo a → ((x : Host) → H x → AreSentFor H f (h x).1) → AllHeld H m.hosts → (o : Option Named) → K m
        → Passes (data_taken c m a h o)
    by_data c m a h do' hosts held' None is = passes (data_taken c m a h None) (idle m is)
    by_data c m a h do' hosts held' (Some (id, g)) is =
        either Passes (is_anchor_of g (held id m.anchors)) (on_waiting c m id a (held id m.anchors)) (on_host m id h (held id m.hosts))
        (passes (on_waiting c m id a (held id m.anchors)) (by_waiting c m id a do' (held id m.anchors) (anchor_here m id is) is)) (by_host m id h hosts (held id m.hosts) (held_so H id m.hosts held') is)

    by_class : (c : Choices) (m : MasterNode) (from : Node) (k : Class) → Brings P f → AllHeld H m.hosts → K m → Passes (master_takes c m from f k)
    by_class c m from Ctl brings held' is = passes (control_taken c m from f) (by_control c m from f is)
    by_class c m from Feed brings held' is = passes (line_taken m f) (by_line m f is)
    by_class c m from Air brings held' is =
        by_data c m (λ a. air_in a cell.Mcg f) (λ h. host_air_in h f) (λ a keeps. air_does P a cell.Mcg f brings keeps) (λ h so. host_air_sends H h so f) held' (flight_named f) is
    by_class c m from Tun brings held' is =
        by_data c m (λ a. tunnel_in c a f) (λ h. host_tunnel_in h f) (λ a keeps. tunnel_does P c a f brings keeps) (λ h so. host_tunnel_sends H h f) held' (flight_named f) is

  -- ---- its events

  -- with its answer
  pub record AtEvent (done : MasterNode × Outcome) : Type 0 where
    pub so : AllHeld (KeepsOf P) done.0.anchors
    pub plain : ArePlain done.1.sends

  answered : (done : MasterNode × Effects) → AtMaster done → AtEvent (accepted done)
  answered done at = record { so = at.so; plain = at.plain }

  turned_away : (m : MasterNode) (why : Refusal) → K m → AtEvent (turned_down m why)
  turned_away m why is = record { so = is; plain = tt }

  by_commanded : (c : Choices) (m : MasterNode) (r : Result MasterActs ProcFault) → K m → AtEvent (commanded c m r)
  by_commanded c m (Ok r) is = answered (does c m r) (by_does c m r is)
  by_commanded c m (Err (refused why)) is = turned_away m why is
  by_commanded c m (Err (unexpected k)) is = answered (m, quiet) (idle m is)

  by_to_anchor : (c : Choices) (m : MasterNode) (id g : ℕ) (payload : List ℕ) (x : Node) → K m → AtMaster (to_anchor_at c m id g payload x)
  by_to_anchor c m id g payload M is = by_on_anchor m id (λ a. submit c a payload) (λ a keeps. submit_does P c a payload keeps) (held id m.anchors) (anchor_here m id is) is
  by_to_anchor c m id g payload A is = record { so = is; plain = (tt, tt) }
  by_to_anchor c m id g payload B is = record { so = is; plain = (tt, tt) }
  by_to_anchor c m id g payload T is = idle m is

  by_unless : (m : MasterNode) (o : Option Refusal) (done : MasterNode × Effects) → K m → AtMaster done → AtEvent (unless m o done)
  by_unless m None done is at = answered done at
  by_unless m (Some why) done is at = turned_away m why is

  by_submitted_to : (c : Choices) (m : MasterNode) (id : ℕ) (payload : List ℕ) (r : Row) (o : Option Window) → K m → AtEvent (submitted_to c m id payload r o)
  by_submitted_to c m id payload r None is = record { so = is; plain = tt }
  by_submitted_to c m id payload r (Some w) is =
      let k = with_accepted m id w in
      by_unless m (first_refusal (submit_refusals r w)) (to_anchor_at c k id r.g payload r.anchor) is (by_to_anchor c k id r.g payload r.anchor is)

  by_submitted : (c : Choices) (m : MasterNode) (id : ℕ) (payload : List ℕ) (o : Option Row) → K m → AtEvent (submitted c m id payload o)
  by_submitted c m id payload None is = record { so = is; plain = tt }
  by_submitted c m id payload (Some r) is = by_submitted_to c m id payload r (held id m.windows) is

  by_report : (c : Choices) (m : MasterNode) (id : ℕ) (has : Bool) → K m → AtEvent (report_asked c m id has)
  by_report c m id false is = record { so = is; plain = tt }
  by_report c m id true is = answered (on_anchor m id (report c) (held id m.anchors)) (by_on_anchor m id (report c) (report_does P c) (held id m.anchors) (anchor_here m id is) is)

  by_command : (c : Choices) (m : MasterNode) (e : Event) → K m → AtEvent (command_taken c m e)
  by_command c m e is = by_commanded c m (commands_unless m.proc e (first_refusal (command_refusals (length c.policies) m.proc e))) is

  by_nothing : (m : MasterNode) → K m → AtEvent (accepted (m, quiet))
  by_nothing m is = record { so = is; plain = tt }

  -- an event that the master takes
  pub master_event_plain : (c : Choices) (m : MasterNode) (e : Event) → AllHeld (KeepsOf P) m.anchors → AtEvent (master_step c m (Cmd e))
  master_event_plain c m (event.Bearer id n first shape threshold policy) is = by_command c m (event.Bearer id n first shape threshold policy) is
  master_event_plain c m (event.Reshape id shape) is = by_command c m (event.Reshape id shape) is
  master_event_plain c m (event.Remove id) is = by_command c m (event.Remove id) is
  master_event_plain c m (event.Add node) is = by_command c m (event.Add node) is
  master_event_plain c m event.Change is = by_command c m event.Change is
  master_event_plain c m event.Release is = by_command c m event.Release is
  master_event_plain c m event.RekeySecond is = by_command c m event.RekeySecond is
  master_event_plain c m (event.RekeyMaster root) is = by_command c m (event.RekeyMaster root) is
  master_event_plain c m (event.Recover id) is = by_command c m (event.Recover id) is
  master_event_plain c m (event.Report node id) is = by_report c m id (has_bearer m.proc id) is
  master_event_plain c m (event.Deny node on) is = by_nothing m is
  master_event_plain c m (event.Ask node what) is = by_nothing m is
  master_event_plain c m event.ScgFail is = by_nothing m is
  master_event_plain c m (event.Submit id d payload) is = by_submitted c m id payload (settled_row m id) is
  master_event_plain c m (event.Step l i) is = by_nothing m is
  master_event_plain c m (event.Lose l i) is = by_nothing m is
  master_event_plain c m (event.Again l i) is = by_nothing m is

  -- a flight: what is kept is read of the PDU that came, or of such as before; and what is sent is no uplink PDU, or passes this one on
  pub record AtFlight (f : Flight) (done : MasterNode × Outcome) : Type 0 where
    pub so : AllHeld (KeepsOf P) done.0.anchors
    pub sends : AreSentFor H f done.1.sends

  pub master_flight_passes : (c : Choices) (m : MasterNode) (l : LinkId) (f : Flight) → Brings P f → AllHeld H m.hosts → AllHeld (KeepsOf P) m.anchors → AtFlight f (master_step c m (Come l f))
  master_flight_passes c m l f brings held' is = let at = by_class f c m l.from l.class brings held' is in record { so = at.so; sends = at.sends }
