-- What the master notes says nothing of the terminal's side.
use Rattle.std.proofs.Common.{ℕ, ◌≡◌, ◌==◌, Bool, true, false, List, [], ◌∷◌, Option, Some, None, refl, inl, inr}
use Rattle.std.specs.Prelude.{Err, Ok, Result, length, nat_lt}
use Rattle.std.proofs.lemmas.Bool.{cases_Bool}
use Rattle.dc_base.specs.Nodes.{is_same_node}
use Rattle.dc_base.specs.Records.{item_id}
use Rattle.dc_base.specs.declared.answers.Refusal.{Refusal}
use Rattle.dc_base.specs.declared.events.Event.{Event}
use Rattle.dc_base.specs.declared.events.Event.TheVariants as event
use Rattle.dc_base.specs.declared.events.Note.TheVariants as note
use Rattle.dc_base.specs.declared.flights.Flight.{Flight}
use Rattle.dc_base.specs.declared.flights.Flight.TheVariants as flight
use Rattle.dc_base.specs.declared.nodes.Cell.TheVariants as cell
use Rattle.dc_base.specs.declared.nodes.Class.{Class}
use Rattle.dc_base.specs.declared.nodes.Class.TheVariants.{Air, Ctl, Feed, Tun}
use Rattle.dc_base.specs.declared.nodes.Dir.TheVariants.{Ul}
use Rattle.dc_base.specs.declared.nodes.Node.{Node}
use Rattle.dc_base.specs.declared.nodes.Node.TheVariants.{A, B, M, T}
use Rattle.dc_base.specs.declared.records.Item.{Item}
use Rattle.dc_base.specs.declared.records.Item.TheVariants as item
use Rattle.dc_base.specs.declared.records.Plan.{Plan}
use Rattle.transcript.proofs.OnEach.{each_append}
use Rattle.node_rules.specs.Acts.{ProcFault, first_refusal, refused, unexpected}
use Rattle.node_rules.specs.Adopting.{status_in}
use Rattle.node_rules.specs.Anchor.{AnchorState, active_anchor, setup_at, waiting_anchor}
use Rattle.node_rules.specs.AnchorReceiving.{air_in, tunnel_in}
use Rattle.node_rules.specs.AnchorSending.{fail_scg, recover, report, submit, unlock}
use Rattle.node_rules.specs.Choices.{Choices, Send}
use Rattle.node_rules.specs.CommandTable.{row}
use Rattle.node_rules.specs.Effects.{in_turn}
use Rattle.node_rules.specs.Flights.{Named, flight_named}
use Rattle.node_rules.specs.Held.{held, holding, identities}
use Rattle.node_rules.specs.Host.{Host}
use Rattle.node_rules.specs.HostRules.{host_air_in, host_tunnel_in}
use Rattle.node_rules.specs.Master.{MasterNode, anchor_did, handed_up, low_rises, on_anchor, on_anchor_of, told_by, window_told}
use Rattle.node_rules.specs.MasterCommands.{command_refusals, commands_unless}
use Rattle.node_rules.specs.MasterPlan.{adopts_if, carries_item, does, frozen_here, line_end, line_ends, master_act, master_did, master_part, master_setup, on_waiting, prepares_item, prepares_part, renewed_here, with_host_and_window}
use Rattle.node_rules.specs.MasterState.{MasterActs, has_bearer}
use Rattle.node_rules.specs.MasterStep.{command_taken, commanded, control_taken, data_taken, is_anchor_of, line_taken, master_event, master_step, master_takes, on_host, record_taken, report_asked, settled_row, submit_refusals, submitted, submitted_to, to_anchor_at, with_accepted}
use Rattle.node_rules.specs.MasterTaking.{master_adopted, master_take}
use Rattle.node_rules.specs.Parts.{part_at}
use Rattle.node_rules.specs.Places.{anchor_at}
use Rattle.node_rules.specs.Setup.{Setup}
use Rattle.node_rules.specs.declared.acts.Act.{Act}
use Rattle.node_rules.specs.declared.acts.Act.TheVariants.{FailOne as fail_one, Go as go, Pass as pass, Prepare as prepare, RecoverOne as recover_one, Say as say, Send as send, UnlockAll as unlock_all}
use Rattle.node_rules.specs.declared.bearers.AnchorOut.{AnchorOut}
use Rattle.node_rules.specs.declared.bearers.Window.{Window}
use Rattle.node_rules.specs.declared.commands.Row.{Row}
use Rattle.node_rules.specs.declared.inputs.Effects.{Effects}
use Rattle.node_rules.specs.declared.inputs.Input.{Input}
use Rattle.node_rules.specs.declared.inputs.Input.TheVariants.{Cmd, Come}
use Rattle.node_rules.specs.declared.parts.Part.{Part}
use Rattle.node_rules.specs.declared.parts.Part.TheVariants.{Awaits as awaits, Drops as drops, Establishes as establishes, HandsOver as hands_over, HasNoAnchor as has_no_anchor, Renews as renews}
use Rattle.run_uplinks.proofs.SecondNotes.{ArePlain}
use Rattle.node_rules.specs.Effects.{unless}
use Rattle.run_uplinks.proofs.MasterSays.{IsMasters, SayPlain, SaysPlain, TakesPlain, adopted_says, commands_says, take_says}
use Rattle.std.specs.List.{AllByRecursion}
use Rattle.dc_base.specs.declared.events.Note.{Note}
use Rattle.dc_base.specs.declared.nodes.Dir.{Dir}
use Rattle.run_uplinks.specs.Notes.{changes}

abbrev pub AreMasters : List Note → Type 0
AreMasters ns = AllByRecursion IsMasters ns

by_ups : (x : Node) (id : ℕ) (d : Dir) (ups : List (ℕ × List ℕ)) → AreMasters (handed_up x id d ups)
by_ups x id d [] = tt
by_ups x id d (u ∷ ups) = (refl, by_ups x id d ups)

-- ---- windows and anchors

by_window : (m : MasterNode) (id count : ℕ) (o : Option Window) → AreMasters (window_told m id count o).1.notes
by_window m id count None = tt
by_window m id count (Some w) = elim (cases_Bool (nat_lt w.told count)) [ inl yes' ↦ rw yes' (refl, tt) | inr no' ↦ rw no' tt ]

by_low : (m : MasterNode) (id : ℕ) (o : Option ℕ) → AreMasters (low_rises m id o).1.notes
by_low m id None = tt
by_low m id (Some count) = by_window m id count (held id m.windows)

by_told : (m : MasterNode) (id g count : ℕ) (o : Option Row) → AreMasters (told_by m id g count o).1.notes
by_told m id g count None = tt
by_told m id g count (Some r) = elim (cases_Bool (nat_lt g r.est)) [ inl yes' ↦ rw yes' tt | inr no' ↦ rw no' (by_window m id count (held id m.windows)) ]

by_anchor : (m : MasterNode) (id : ℕ) (done : AnchorState × AnchorOut) → AreMasters (anchor_did m id done).1.notes
by_anchor m id done =
    let k = record m { anchors = holding id (Some done.0) m.anchors } in
    each_append IsMasters (handed_up M id Ul done.1.ups) (low_rises k id done.1.low).1.notes (by_ups M id Ul done.1.ups) (by_low k id done.1.low)

by_on_anchor : (m : MasterNode) (id : ℕ) (f : AnchorState → AnchorState × AnchorOut) (o : Option AnchorState) → AreMasters (on_anchor m id f o).1.notes
by_on_anchor m id f None = tt
by_on_anchor m id f (Some a) = by_anchor m id (f a)

by_on_anchor_of : (m : MasterNode) (g : ℕ) (f : AnchorState → AnchorState × AnchorOut) (id : ℕ) (o : Option AnchorState) → AreMasters (on_anchor_of m g f id o).1.notes
by_on_anchor_of m g f id None = tt
by_on_anchor_of m g f id (Some a) = elim (cases_Bool ((setup_at a).g == g)) [ inl yes' ↦ rw yes' (by_anchor m id (f a)) | inr no' ↦ rw no' tt ]

by_each : {X : Type 0} (f : MasterNode → X → MasterNode × Effects) → ((m : MasterNode) (x : X) → AreMasters (f m x).1.notes) → (m : MasterNode) (xs : List X) → AreMasters (in_turn f m xs).1.notes
by_each f each m [] = tt
by_each f each m (x ∷ xs) = each_append IsMasters (f m x).1.notes (in_turn f (f m x).0 xs).1.notes (each m x) (by_each f each (f m x).0 xs)

-- ---- how a plan is carried out

by_renewed : (m : MasterNode) (id g : ℕ) (s : Option Setup) (o : Option AnchorState) → AreMasters (renewed_here m id g s o).1.notes
by_renewed m id g None o = tt
by_renewed m id g (Some s) None = tt
by_renewed m id g (Some s) (Some (waiting_anchor w)) = tt
by_renewed m id g (Some s) (Some (active_anchor a)) = (refl, tt)

by_frozen : (m : MasterNode) (id g : ℕ) (to : Node) (o : Option AnchorState) → AreMasters (frozen_here m id g to o).1.notes
by_frozen m id g to None = tt
by_frozen m id g to (Some (waiting_anchor w)) = tt
by_frozen m id g to (Some (active_anchor a)) = (refl, tt)

by_part : (m : MasterNode) (p : Plan) (i : Item) (part : Part) → AreMasters (master_part m p i part).1.notes
by_part m p i establishes = (refl, tt)
by_part m p i renews = by_renewed m (item_id i) p.g (master_setup m p i) (held (item_id i) m.anchors)
by_part m p i awaits = tt
by_part m p i (hands_over to) = by_frozen m (item_id i) p.g to (held (item_id i) m.anchors)
by_part m p i drops = tt
by_part m p i has_no_anchor = tt

by_line_end : (g id : ℕ) (new old : Node) → AreMasters (line_end g id new old).notes
by_line_end g id new M = tt
by_line_end g id new T = tt
by_line_end g id new A = elim (cases_Bool (is_same_node new A)) [ inl yes' ↦ rw yes' tt | inr no' ↦ rw no' tt ]
by_line_end g id new B = elim (cases_Bool (is_same_node new B)) [ inl yes' ↦ rw yes' tt | inr no' ↦ rw no' tt ]

by_line_ends : (g : ℕ) (sec : Option Node) (i : Item) → AreMasters (line_ends g sec i).notes
by_line_ends g sec (item.Set id n first shape threshold policy key None) = tt
by_line_ends g sec (item.Set id n first shape threshold policy key (Some old)) = by_line_end g id (anchor_at sec shape) old
by_line_ends g sec (item.Unset id) = tt

by_item : (p : Plan) (m : MasterNode) (i : Item) → AreMasters (carries_item p m i).1.notes
by_item p m i =
    let k = with_host_and_window p m i in
    each_append IsMasters (line_ends p.g p.sec i).notes (master_part k p i (part_at M p.sec i)).1.notes (by_line_ends p.g p.sec i) (by_part k p i (part_at M p.sec i))

by_preparing : (m : MasterNode) (p : Plan) (i : Item) (part : Part) → AreMasters (prepares_part m p i part).1.notes
by_preparing m p i establishes = tt
by_preparing m p i renews = tt
by_preparing m p i awaits = tt
by_preparing m p i (hands_over to) = tt
by_preparing m p i drops = tt
by_preparing m p i has_no_anchor = tt

-- ---- acts

by_act : (c : Choices) (m : MasterNode) (a : Act) → SaysPlain a → AreMasters (master_act c m a).1.notes
by_act c m (send to r) plain = tt
by_act c m (prepare p) plain = by_each (prepares_item p) (λ k i. by_preparing k p i (part_at M p.sec i)) m p.items
by_act c m (go p) plain = by_each (carries_item p) (by_item p) m p.items
by_act c m (unlock_all g) plain = by_each (λ n id. on_anchor_of n g (unlock c) id (held id n.anchors)) (λ n id. by_on_anchor_of n g (unlock c) id (held id n.anchors)) m (identities m.anchors)
by_act c m (say n) plain = (plain, tt)
by_act c m (recover_one id) plain = by_on_anchor m id (recover c) (held id m.anchors)
by_act c m (fail_one id g) plain = by_on_anchor_of m g (fail_scg c) id (held id m.anchors)
by_act c m (pass st) plain = tt

by_acts : (c : Choices) (m : MasterNode) (acts : List Act) → SayPlain acts → AreMasters (in_turn (master_act c) m acts).1.notes
by_acts c m [] plain = tt
by_acts c m (a ∷ acts) plain =
    each_append IsMasters (master_act c m a).1.notes (in_turn (master_act c) (master_act c m a).0 acts).1.notes (by_act c m a plain.0) (by_acts c (master_act c m a).0 acts plain.1)

by_does : (c : Choices) (m : MasterNode) (r : MasterActs) → SayPlain r.1 → AreMasters (does c m r).1.notes
by_does c m r plain = by_acts c (record m { proc = r.0 }) r.1 plain

-- ---- what the master takes

by_commanded : (c : Choices) (m : MasterNode) (r : Result MasterActs ProcFault) → TakesPlain r → AreMasters (commanded c m r).1.notes
by_commanded c m (Ok r) plain = by_does c m r plain
by_commanded c m (Err (refused why)) plain = tt
by_commanded c m (Err (unexpected k)) plain = tt

by_adopting : (c : Choices) (id g : ℕ) (is : Bool) (done : MasterNode × Effects) → AreMasters done.1.notes → AreMasters (adopts_if c id g is done).1.notes
by_adopting c id g false done plain = plain
by_adopting c id g true done plain =
    let r = master_adopted done.0.proc id in
    each_append IsMasters (note.Own M id g ∷ done.1.notes) (does c done.0 r).1.notes (refl, plain) (by_does c done.0 r (adopted_says id done.0.proc done.0.proc.command))

by_waiting : (c : Choices) (m : MasterNode) (id : ℕ) (f : AnchorState → AnchorState × AnchorOut) (o : Option AnchorState) → AreMasters (on_waiting c m id f o).1.notes
by_waiting c m id f None = tt
by_waiting c m id f (Some a) = by_adopting c id (setup_at a).g (f a).1.adopted (anchor_did m id (f a)) (by_anchor m id (f a))

by_did : (c : Choices) (m : MasterNode) (a : Act) → SaysPlain a → AreMasters (master_did c m a).1.notes
by_did c m (send to r) plain = by_act c m (send to r) plain
by_did c m (prepare p) plain = by_act c m (prepare p) plain
by_did c m (go p) plain = by_act c m (go p) plain
by_did c m (unlock_all g) plain = by_act c m (unlock_all g) plain
by_did c m (say n) plain = by_act c m (say n) plain
by_did c m (recover_one id) plain = by_act c m (recover_one id) plain
by_did c m (fail_one id g) plain = by_act c m (fail_one id g) plain
by_did c m (pass st) plain = by_waiting c m st.id (λ a. status_in c a st) (held st.id m.anchors)

by_dids : (c : Choices) (m : MasterNode) (acts : List Act) → SayPlain acts → AreMasters (in_turn (master_did c) m acts).1.notes
by_dids c m [] plain = tt
by_dids c m (a ∷ acts) plain =
    each_append IsMasters (master_did c m a).1.notes (in_turn (master_did c) (master_did c m a).0 acts).1.notes (by_did c m a plain.0) (by_dids c (master_did c m a).0 acts plain.1)

by_record : (c : Choices) (m : MasterNode) (r : Result MasterActs ProcFault) → TakesPlain r → AreMasters (record_taken c m r).1.notes
by_record c m (Ok r) plain = by_dids c (record m { proc = r.0 }) r.1 plain
by_record c m (Err why) plain = tt

by_to_anchor : (c : Choices) (m : MasterNode) (id g : ℕ) (payload : List ℕ) (x : Node) → AreMasters (to_anchor_at c m id g payload x).1.notes
by_to_anchor c m id g payload M = by_on_anchor m id (λ a. submit c a payload) (held id m.anchors)
by_to_anchor c m id g payload A = tt
by_to_anchor c m id g payload B = tt
by_to_anchor c m id g payload T = tt

by_unless : (c : Choices) (m : MasterNode) (id : ℕ) (payload : List ℕ) (r : Row) (k : MasterNode) (o : Option Refusal) → AreMasters (unless m o (to_anchor_at c k id r.g payload r.anchor)).1.notes
by_unless c m id payload r k None = by_to_anchor c k id r.g payload r.anchor
by_unless c m id payload r k (Some why) = tt

by_submitted_to : (c : Choices) (m : MasterNode) (id : ℕ) (payload : List ℕ) (r : Row) (o : Option Window) → AreMasters (submitted_to c m id payload r o).1.notes
by_submitted_to c m id payload r None = tt
by_submitted_to c m id payload r (Some w) = by_unless c m id payload r (with_accepted m id w) (first_refusal (submit_refusals r w))

by_submitted : (c : Choices) (m : MasterNode) (id : ℕ) (payload : List ℕ) (o : Option Row) → AreMasters (submitted c m id payload o).1.notes
by_submitted c m id payload None = tt
by_submitted c m id payload (Some r) = by_submitted_to c m id payload r (held id m.windows)

by_report : (c : Choices) (m : MasterNode) (id : ℕ) (has : Bool) → AreMasters (report_asked c m id has).1.notes
by_report c m id false = tt
by_report c m id true = by_on_anchor m id (report c) (held id m.anchors)

by_command : (c : Choices) (m : MasterNode) (e : Event) → AreMasters (command_taken c m e).1.notes
by_command c m e = let o = first_refusal (command_refusals (length c.policies) m.proc e) in by_commanded c m (commands_unless m.proc e o) (commands_says m.proc e o)

by_event : (c : Choices) (m : MasterNode) (e : Event) → AreMasters (master_event c m e).1.notes
by_event c m (event.Bearer id n first shape threshold policy) = by_command c m (event.Bearer id n first shape threshold policy)
by_event c m (event.Reshape id shape) = by_command c m (event.Reshape id shape)
by_event c m (event.Remove id) = by_command c m (event.Remove id)
by_event c m (event.Add node) = by_command c m (event.Add node)
by_event c m event.Change = by_command c m event.Change
by_event c m event.Release = by_command c m event.Release
by_event c m event.RekeySecond = by_command c m event.RekeySecond
by_event c m (event.RekeyMaster root) = by_command c m (event.RekeyMaster root)
by_event c m (event.Recover id) = by_command c m (event.Recover id)
by_event c m (event.Report node id) = by_report c m id (has_bearer m.proc id)
by_event c m (event.Deny node on) = tt
by_event c m (event.Ask node what) = tt
by_event c m event.ScgFail = tt
by_event c m (event.Submit id d payload) = by_submitted c m id payload (settled_row m id)
by_event c m (event.Step l i) = tt
by_event c m (event.Lose l i) = tt
by_event c m (event.Again l i) = tt

by_host : (m : MasterNode) (id : ℕ) (f : Host → Host × List Send) (o : Option Host) → AreMasters (on_host m id f o).1.notes
by_host m id f None = tt
by_host m id f (Some h) = tt

by_data : (c : Choices) (m : MasterNode) (f : AnchorState → AnchorState × AnchorOut) (h : Host → Host × List Send) (o : Option Named) → AreMasters (data_taken c m f h o).1.notes
by_data c m f h None = tt
by_data c m f h (Some (id, g)) =
    elim (cases_Bool (is_anchor_of g (held id m.anchors))) [ inl yes' ↦ rw yes' (by_waiting c m id f (held id m.anchors)) | inr no' ↦ rw no' (by_host m id h (held id m.hosts)) ]

by_line : (m : MasterNode) (f : Flight) → AreMasters (line_taken m f).1.notes
by_line m (flight.Told id g count) = by_told m id g count (row m.proc.table id)
by_line m (flight.Sdu id g payload) = tt
by_line m (flight.End id g) = tt
by_line m (flight.Air id g num tag pdu) = tt
by_line m (flight.Ack id g num) = tt
by_line m (flight.Tun tag packet) = tt
by_line m (flight.Ctl r) = tt

by_control : (c : Choices) (m : MasterNode) (from : Node) (f : Flight) → AreMasters (control_taken c m from f).1.notes
by_control c m from (flight.Ctl r) = by_record c m (master_take from m.proc r) (take_says from m.proc r)
by_control c m from (flight.Air id g num tag pdu) = tt
by_control c m from (flight.Ack id g num) = tt
by_control c m from (flight.Tun tag packet) = tt
by_control c m from (flight.Sdu id g payload) = tt
by_control c m from (flight.End id g) = tt
by_control c m from (flight.Told id g count) = tt

by_flight : (c : Choices) (m : MasterNode) (from : Node) (f : Flight) (k : Class) → AreMasters (master_takes c m from f k).1.notes
by_flight c m from f Ctl = by_control c m from f
by_flight c m from f Feed = by_line m f
by_flight c m from f Air = by_data c m (λ a. air_in a cell.Mcg f) (λ h. host_air_in h f) (flight_named f)
by_flight c m from f Tun = by_data c m (λ a. tunnel_in c a f) (λ h. host_tunnel_in h f) (flight_named f)

-- all that it notes, whatever comes
pub master_notes : (c : Choices) (m : MasterNode) (i : Input) → AreMasters (master_step c m i).1.notes
master_notes c m (Cmd e) = by_event c m e
master_notes c m (Come l f) = by_flight c m l.from f l.class

are_plain : (ns : List Note) → AreMasters ns → ArePlain ns
are_plain [] all = tt
are_plain (n ∷ ns) all =
    elim (cases_Bool (changes n)) [ inl yes' ↦ absurd (let bad : true ≡ false = rw yes' at all.0 in cc) | inr no' ↦ (no', are_plain ns all.1) ]

-- so it says nothing of the terminal's side
pub master_plain : (c : Choices) (m : MasterNode) (i : Input) → ArePlain (master_step c m i).1.notes
master_plain c m i = are_plain (master_step c m i).1.notes (master_notes c m i)
