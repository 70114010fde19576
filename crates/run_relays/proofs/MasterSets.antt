-- What the master sets up is what plans that were drawn set.
use Rattle.std.proofs.Common.{ℕ, ◌==◌, Bool, true, false, List, Option, Some, None, sym, subst}
use Rattle.std.specs.Prelude.{nat_lt, not, ⊤}
use Rattle.std.specs.List.{AllByRecursion}
use Rattle.std.specs.Option.{option_map}
use Rattle.dc_base.specs.Records.{item_id}
use Rattle.dc_base.specs.declared.answers.Refusal.{Refusal}
use Rattle.dc_base.specs.declared.events.Note.{Note}
use Rattle.dc_base.specs.declared.events.Note.TheVariants as note
use Rattle.dc_base.specs.declared.flights.Flight.{Flight}
use Rattle.dc_base.specs.declared.flights.Flight.TheVariants as flight
use Rattle.dc_base.specs.declared.nodes.Dir.TheVariants.{Dl}
use Rattle.dc_base.specs.declared.nodes.Node.{Node}
use Rattle.dc_base.specs.declared.nodes.Node.TheVariants.{A, B, M, T}
use Rattle.dc_base.specs.declared.records.Item.{Item}
use Rattle.dc_base.specs.declared.records.Plan.{Plan}
use Rattle.master_runs.proofs.Lists.{each_filter}
use Rattle.node_rules.specs.Acts.{first_refusal}
use Rattle.node_rules.specs.Anchor.{AnchorState, active_anchor, fresh, renew, setup_at, waiting, waiting_anchor}
use Rattle.node_rules.specs.AnchorSending.{fail_scg, recover, report, submit, unlock}
use Rattle.node_rules.specs.Choices.{Choices, Send}
use Rattle.node_rules.specs.CommandTable.{row}
use Rattle.node_rules.specs.Effects.{noted, quiet, unless}
use Rattle.node_rules.specs.Held.{held, holding, identities}
use Rattle.node_rules.specs.Master.{MasterNode, anchor_did, is_waiting, low_rises, on_anchor, on_anchor_of, told_by, window_told, without_waiting}
use Rattle.node_rules.specs.MasterPlan.{carries_item, does, frozen_here, is_rejection, master_act, master_part, master_setup, prepares_item, prepares_part, renewed_here, says, with_host_and_window}
use Rattle.node_rules.specs.MasterState.{MasterActs}
use Rattle.node_rules.specs.MasterStep.{line_taken, on_host, report_asked, submit_refusals, submitted, submitted_to, to_anchor_at, with_accepted}
use Rattle.node_rules.specs.Parts.{host_at, part_at}
use Rattle.node_rules.specs.Setup.{Setup}
use Rattle.node_rules.specs.declared.acts.Act.{Act}
use Rattle.node_rules.specs.declared.acts.Act.TheVariants.{FailOne as fail_one, Go as go, Pass as pass, Prepare as prepare, RecoverOne as recover_one, Say as say, Send as send, UnlockAll as unlock_all}
use Rattle.node_rules.specs.declared.bearers.AnchorOut.{AnchorOut}
use Rattle.node_rules.specs.declared.bearers.Window.{Window}
use Rattle.node_rules.specs.declared.commands.Row.{Row}
use Rattle.node_rules.specs.declared.inputs.Effects.{Effects}
use Rattle.node_rules.specs.declared.parts.Part.{Part}
use Rattle.node_rules.specs.declared.parts.Part.TheVariants.{Awaits as awaits, Drops as drops, Establishes as establishes, HandsOver as hands_over, HasNoAnchor as has_no_anchor, Renews as renews}
use Rattle.master_runs.proofs.Lists.{each_filter}
use Rattle.run_control.proofs.Sent.{either}
use Rattle.run_senders.specs.Holders.{AllHeld, IfThere}
use Rattle.run_senders.proofs.Held.{held_so, holding_so}
use Rattle.node_rules.specs.Host.{Host}
use Rattle.run_relays.specs.Setups.{AnchorOf, HostOf, IsHostOfPlan, IsOfPlan, core}
use Rattle.run_relays.proofs.Cores.{KeepsCore, KeepsHost, fail_core, recover_core, report_core, submit_core, unlock_core}
use Rattle.run_relays.proofs.Planned.{FoundIn, Runs, RunsOnly, any_fit, each_found, host_is, setup_is, turn_keeps}

module _ (plans : List Plan) where
  -- all that the master has is set up so
  pub record K (m : MasterNode) : Type 0 where
    pub anchors : AllHeld (AnchorOf (IsOfPlan plans)) m.anchors
    pub hosts : AllHeld (HostOf (IsHostOfPlan plans)) m.hosts

  abbrev Anchored : AnchorState → Type 0
  Anchored a = AnchorOf (IsOfPlan plans) a

  -- with another anchor for an identity, or none
  with_anchor : (m : MasterNode) (id : ℕ) (o : Option AnchorState) → IfThere Anchored o → K m → K (record m { anchors = holding id o m.anchors })
  with_anchor m id o so is = record { anchors = holding_so Anchored id o so m.anchors is.anchors; hosts = is.hosts }

  pub anchor_here : (m : MasterNode) (id : ℕ) → K m → IfThere Anchored (held id m.anchors)
  anchor_here m id is = held_so Anchored id m.anchors is.anchors

  -- ---- windows and anchors

  by_window : (m : MasterNode) (id count : ℕ) (o : Option Window) → K m → K (window_told m id count o).0
  by_window m id count None is = is
  by_window m id count (Some w) is =
      either (λ (done : MasterNode × Effects). K done.0) (nat_lt w.told count) (record m { windows = holding id (Some (record w { told = count })) m.windows }, noted (note.Freed id Dl count)) (m, quiet)
      (record { anchors = is.anchors; hosts = is.hosts }) is

  by_low : (m : MasterNode) (id : ℕ) (o : Option ℕ) → K m → K (low_rises m id o).0
  by_low m id None is = is
  by_low m id (Some count) is = by_window m id count (held id m.windows) is

  by_told : (m : MasterNode) (id g count : ℕ) (o : Option Row) → K m → K (told_by m id g count o).0
  by_told m id g count None is = is
  by_told m id g count (Some r) is = either (λ (done : MasterNode × Effects). K done.0) (nat_lt g r.est) (m, quiet) (window_told m id count (held id m.windows)) is (by_window m id count (held id m.windows) is)

  -- a step of an anchor
  abbrev pub AnchorsKeep : (AnchorState → AnchorState × AnchorOut) → Type 0
  AnchorsKeep f = (a : AnchorState) → KeepsCore a (f a)

  pub by_anchor : (m : MasterNode) (id : ℕ) (a : AnchorState) (done : AnchorState × AnchorOut) → Anchored a → KeepsCore a done → K m → K (anchor_did m id done).0
  by_anchor m id a done here same is =
      by_low (record m { anchors = holding id (Some done.0) m.anchors }) id done.1.low (with_anchor m id (Some done.0) (subst (IsOfPlan plans) (sym same) here) is)

  by_on_anchor : (m : MasterNode) (id : ℕ) (f : AnchorState → AnchorState × AnchorOut) → AnchorsKeep f → (o : Option AnchorState) → IfThere Anchored o → K m → K (on_anchor m id f o).0
  by_on_anchor m id f keep None here is = is
  by_on_anchor m id f keep (Some a) here is = by_anchor m id a (f a) here (keep a) is

  by_on_anchor_of : (m : MasterNode) (g : ℕ) (f : AnchorState → AnchorState × AnchorOut) → AnchorsKeep f → (id : ℕ) (o : Option AnchorState) → IfThere Anchored o → K m → K (on_anchor_of m g f id o).0
  by_on_anchor_of m g f keep id None here is = is
  by_on_anchor_of m g f keep id (Some a) here is = either (λ (done : MasterNode × Effects). K done.0) ((setup_at a).g == g) (anchor_did m id (f a)) (m, quiet) (by_anchor m id a (f a) here (keep a) is) is

  -- ---- how a plan is carried out

  fresh_is : (o : Option Setup) → IfThere (λ (s : Setup). IsOfPlan plans (core s)) o → IfThere Anchored (option_map fresh o)
  fresh_is None here = tt
  fresh_is (Some s) here = here

  waiting_is : (o : Option Setup) → IfThere (λ (s : Setup). IsOfPlan plans (core s)) o → IfThere Anchored (option_map waiting o)
  waiting_is None here = tt
  waiting_is (Some s) here = here

  by_renewed : (m : MasterNode) (id g : ℕ) (s : Option Setup) (o : Option AnchorState) → IfThere (λ (x : Setup). IsOfPlan plans (core x)) s → K m → K (renewed_here m id g s o).0
  by_renewed m id g None o here is = is
  by_renewed m id g (Some s) None here is = is
  by_renewed m id g (Some s) (Some (waiting_anchor w)) here is = is
  by_renewed m id g (Some s) (Some (active_anchor a)) here is = with_anchor m id (Some (active_anchor (renew a s))) here is

  by_frozen : (m : MasterNode) (id g : ℕ) (to : Node) (o : Option AnchorState) → K m → K (frozen_here m id g to o).0
  by_frozen m id g to None is = is
  by_frozen m id g to (Some (waiting_anchor w)) is = is
  by_frozen m id g to (Some (active_anchor a)) is = with_anchor m id None tt is

  by_part : (m : MasterNode) (p : Plan) (i : Item) (part : Part) → Runs plans p → FoundIn p.items i → K m → K (master_part m p i part).0
  by_part m p i establishes runs found is =
      let s = master_setup m p i in with_anchor m (item_id i) (option_map fresh s) (fresh_is s (setup_is plans M p m.alg _ i runs found)) is
  by_part m p i renews runs found is = by_renewed m (item_id i) p.g (master_setup m p i) (held (item_id i) m.anchors) (setup_is plans M p m.alg _ i runs found) is
  by_part m p i awaits runs found is = is
  by_part m p i (hands_over to) runs found is = by_frozen m (item_id i) p.g to (held (item_id i) m.anchors) is
  by_part m p i drops runs found is = with_anchor m (item_id i) None tt is
  by_part m p i has_no_anchor runs found is = is

  with_host : (p : Plan) (m : MasterNode) (i : Item) → Runs plans p → FoundIn p.items i → K m → K (with_host_and_window p m i)
  with_host p m i runs found is =
      record { anchors = is.anchors; hosts = holding_so (HostOf (IsHostOfPlan plans)) (item_id i) (host_at M p i) (host_is plans M p i runs found) m.hosts is.hosts }

  by_item : (p : Plan) → Runs plans p → (m : MasterNode) (i : Item) → FoundIn p.items i → K m → K (carries_item p m i).0
  by_item p runs m i found is = by_part (with_host_and_window p m i) p i (part_at M p.sec i) runs found (with_host p m i runs found is)

  by_preparing : (p : Plan) → Runs plans p → (m : MasterNode) (i : Item) (part : Part) → FoundIn p.items i → K m → K (prepares_part m p i part).0
  by_preparing p runs m i establishes found is = is
  by_preparing p runs m i renews found is = is
  by_preparing p runs m i awaits found is = let s = master_setup m p i in with_anchor m (item_id i) (option_map waiting s) (waiting_is s (setup_is plans M p m.alg _ i runs found)) is
  by_preparing p runs m i (hands_over to) found is = is
  by_preparing p runs m i drops found is = is
  by_preparing p runs m i has_no_anchor found is = is

  -- ---- acts

  by_says : (m : MasterNode) (n : Note) → K m → K (says m n).0
  by_says m n is =
      either K (is_rejection n) (without_waiting m) m
      (record { anchors = each_filter (λ (x : ℕ × AnchorState). Anchored x.1) (λ (x : ℕ × AnchorState). not (is_waiting x.1)) m.anchors is.anchors; hosts = is.hosts }) is

  by_act : (c : Choices) (m : MasterNode) (a : Act) → RunsOnly plans a → K m → K (master_act c m a).0
  by_act c m (send to r) runs is = is
  by_act c m (prepare p) runs is = turn_keeps K (FoundIn p.items) (prepares_item p) (λ k i found so. by_preparing p runs k i (part_at M p.sec i) found so) m p.items (each_found 0 p.items runs.1) is
  by_act c m (go p) runs is = turn_keeps K (FoundIn p.items) (carries_item p) (λ k i found so. by_item p runs k i found so) m p.items (each_found 0 p.items runs.1) is
  by_act c m (unlock_all g) runs is =
      turn_keeps K (λ id. ⊤) (λ n id. on_anchor_of n g (unlock c) id (held id n.anchors))
      (λ n id fits so. by_on_anchor_of n g (unlock c) (unlock_core c) id (held id n.anchors) (anchor_here n id so) so) m (identities m.anchors) (any_fit (identities m.anchors)) is
  by_act c m (say n) runs is = by_says m n is
  by_act c m (recover_one id) runs is = by_on_anchor m id (recover c) (recover_core c) (held id m.anchors) (anchor_here m id is) is
  by_act c m (fail_one id g) runs is = by_on_anchor_of m g (fail_scg c) (fail_core c) id (held id m.anchors) (anchor_here m id is) is
  by_act c m (pass st) runs is = is

  pub does_keeps : (c : Choices) (m : MasterNode) (r : MasterActs) → AllByRecursion (RunsOnly plans) r.1 → K m → K (does c m r).0
  does_keeps c m r runs is = turn_keeps K (RunsOnly plans) (master_act c) (λ k a fits so. by_act c k a fits so) (record m { proc = r.0 }) r.1 runs (record { anchors = is.anchors; hosts = is.hosts })

  -- ---- what the master takes

  pub by_host : (m : MasterNode) (id : ℕ) (h : Host → Host × List Send) → ((x : Host) → KeepsHost x (h x)) → (o : Option Host) → IfThere (HostOf (IsHostOfPlan plans)) o → K m → K (on_host m id h o).0
  by_host m id h keep None here is = is
  by_host m id h keep (Some x) here is =
      record { anchors = is.anchors; hosts = holding_so (HostOf (IsHostOfPlan plans)) id (Some (h x).0) (subst (IsHostOfPlan plans) (sym (keep x)) here) m.hosts is.hosts }

  pub line_keeps : (m : MasterNode) (f : Flight) → K m → K (line_taken m f).0
  line_keeps m (flight.Told id g count) is = by_told m id g count (row m.proc.table id) is
  line_keeps m (flight.Sdu id g payload) is = is
  line_keeps m (flight.End id g) is = is
  line_keeps m (flight.Air id g num tag pdu) is = is
  line_keeps m (flight.Ack id g num) is = is
  line_keeps m (flight.Tun tag packet) is = is
  line_keeps m (flight.Ctl r) is = is

  -- ---- submissions and reports

  pub by_to_anchor : (c : Choices) (m : MasterNode) (id g : ℕ) (payload : List ℕ) (x : Node) → K m → K (to_anchor_at c m id g payload x).0
  by_to_anchor c m id g payload M is = by_on_anchor m id (λ a. submit c a payload) (λ a. submit_core c a payload) (held id m.anchors) (anchor_here m id is) is
  by_to_anchor c m id g payload A is = is
  by_to_anchor c m id g payload B is = is
  by_to_anchor c m id g payload T is = is

  by_unless : (m : MasterNode) (o : Option Refusal) (done : MasterNode × Effects) → K m → K done.0 → K (unless m o done).0
  by_unless m None done is at = at
  by_unless m (Some why) done is at = is

  by_submitted_to : (c : Choices) (m : MasterNode) (id : ℕ) (payload : List ℕ) (r : Row) (o : Option Window) → K m → K (submitted_to c m id payload r o).0
  by_submitted_to c m id payload r None is = is
  by_submitted_to c m id payload r (Some w) is =
      let k = with_accepted m id w in
      let same : K k = record { anchors = is.anchors; hosts = is.hosts } in
      by_unless m (first_refusal (submit_refusals r w)) (to_anchor_at c k id r.g payload r.anchor) is (by_to_anchor c k id r.g payload r.anchor same)

  pub submitted_keeps : (c : Choices) (m : MasterNode) (id : ℕ) (payload : List ℕ) (o : Option Row) → K m → K (submitted c m id payload o).0
  submitted_keeps c m id payload None is = is
  submitted_keeps c m id payload (Some r) is = by_submitted_to c m id payload r (held id m.windows) is

  pub report_keeps : (c : Choices) (m : MasterNode) (id : ℕ) (has : Bool) → K m → K (report_asked c m id has).0
  report_keeps c m id false is = is
  report_keeps c m id true is = by_on_anchor m id (report c) (report_core c) (held id m.anchors) (anchor_here m id is) is
