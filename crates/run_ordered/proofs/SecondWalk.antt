-- What each step of an anchor keeps, each step of a secondary node keeps of all its anchors.
use Rattle.std.specs.Prelude.{if◌then◌else◌, nat_lt, Err, Ok, Result, is_some}
use Rattle.node_rules.specs.Anchor.{Active, AnchorState, silent, active_anchor, fresh, renew, waiting, waiting_anchor}
use Rattle.run_senders.specs.Holders.{AllHeld, IfThere}
use Rattle.run_senders.proofs.Held.{held_so, holding_so}
use Rattle.run_ordered.specs.Anchors.{IsLaw}
use Rattle.std.proofs.Common.{Bool, List, None, Option, Some, [], false, true, ℕ, ◌∷◌}
use Rattle.std.specs.Option.{option_map}
use Rattle.dc_base.specs.declared.events.Event.{Event}
use Rattle.dc_base.specs.declared.flights.Flight.{Flight}
use Rattle.dc_base.specs.declared.nodes.Class.{Class}
use Rattle.dc_base.specs.declared.nodes.Class.TheVariants.{Air, Ctl, Feed, Tun}
use Rattle.dc_base.specs.declared.nodes.Node.{Node}
use Rattle.dc_base.specs.declared.records.Item.{Item}
use Rattle.dc_base.specs.declared.records.Plan.{Plan}
use Rattle.node_rules.specs.Adopting.{status_in}
use Rattle.node_rules.specs.AnchorReceiving.{air_in, tunnel_in}
use Rattle.node_rules.specs.AnchorSending.{fail_scg, recover, report, submit, unlock}
use Rattle.node_rules.specs.Choices.{Choices, Send}
use Rattle.node_rules.specs.Effects.{in_turn, quiet}
use Rattle.node_rules.specs.Flights.{Named, flight_named}
use Rattle.node_rules.specs.Held.{held, holding, identities}
use Rattle.node_rules.specs.Host.{Host}
use Rattle.node_rules.specs.HostRules.{host_air_in, host_tunnel_in}
use Rattle.node_rules.specs.Parts.{part_at, host_at}
use Rattle.node_rules.specs.Setup.{Setup, setup_of}
use Rattle.node_rules.specs.declared.acts.Act.{Act}
use Rattle.node_rules.specs.declared.acts.Act.TheVariants.{FailOne as fail_one, Go as go, Pass as pass, Prepare as prepare, RecoverOne as recover_one, Say as say, Send as send, UnlockAll as unlock_all}
use Rattle.node_rules.specs.declared.bearers.AnchorOut.{AnchorOut}
use Rattle.node_rules.specs.declared.inputs.Effects.{Effects}
use Rattle.node_rules.specs.declared.inputs.Input.{Input}
use Rattle.dc_base.specs.Records.{item_id}
use Rattle.node_rules.specs.Acts.{ProcFault, refused, unexpected}
use Rattle.node_rules.specs.declared.parts.Part.{Part}
use Rattle.node_rules.specs.declared.parts.Part.TheVariants.{Awaits as awaits, Drops as drops, Establishes as establishes, HandsOver as hands_over, HasNoAnchor as has_no_anchor, Renews as renews}
use Rattle.node_rules.specs.declared.inputs.Input.TheVariants.{Cmd, Come}
use Rattle.dc_base.specs.declared.records.Rec.{Rec}
use Rattle.node_rules.specs.Feed.{Fed, Frozen, end_in, sdu_in}
use Rattle.node_rules.specs.SecondPlan.{beginning, frozen_active, frozen_there, renewed_active, renewed_there, second_act, second_does, second_item, second_part}
use Rattle.node_rules.specs.SecondRecords.{second_take}
use Rattle.node_rules.specs.SecondState.{second_command, SecondActs}
use Rattle.node_rules.specs.SecondStep.{second_event, fed_ended, fed_took, frozen_ended, frozen_took, is_before_change, is_fit, key_in, on_second_host, second_commanded, second_control, second_data, second_line, second_record, second_record_taken, second_report, second_step, second_takes}
use Rattle.node_rules.specs.Secondary.{SecondNode, active_at, active_in, is_fed_of, name_of, on_fed, on_fed_of, within}
use Rattle.node_rules.specs.declared.commands.Membership.{Membership}
use Rattle.node_rules.specs.declared.commands.Membership.TheVariants.{Joined as joined, Left as left, Outside as outside}
use Rattle.dc_base.specs.declared.events.Event.TheVariants as event
use Rattle.dc_base.specs.declared.flights.Flight.TheVariants as flight
use Rattle.dc_base.specs.declared.nodes.Cell.TheVariants as cell

module _ (c : Choices) (P : AnchorState → Type 0) (law : IsLaw c P) where
  -- it is so of an anchor with its line
  abbrev FedSo : Fed → Type 0
  FedSo x = P x.anchor

  -- it is so of all anchors of the node
  abbrev K : SecondNode → Type 0
  K s = AllHeld FedSo s.anchors

  either_of : (t : Bool) (x y : SecondNode × Effects) → K x.0 → K y.0 → K (if t then x else y).0
  either_of true x y one two = one
  either_of false x y one two = two

  turn : {X : Type 0} (f : SecondNode → X → SecondNode × Effects) → ((s : SecondNode) (y : X) → K s → K (f s y).0) → (s : SecondNode) (ys : List X) → K s → K (in_turn f s ys).0
  turn f each s [] is = is
  turn f each s (y ∷ ys) is = turn f each (f s y).0 ys (each s y is)

  with_anchor : (s : SecondNode) (id : ℕ) (o : Option Fed) → IfThere FedSo o → K s → K (record s { anchors = holding id o s.anchors })
  with_anchor s id o so is = holding_so FedSo id o so s.anchors is

  here : (s : SecondNode) (id : ℕ) → K s → IfThere FedSo (held id s.anchors)
  here s id is = held_so FedSo id s.anchors is

  -- ---- anchors

  -- a step of an anchor
  abbrev Kept : (AnchorState → AnchorState × AnchorOut) → Type 0
  Kept f = (a : AnchorState) → P a → P (f a).0

  by_fed : (s : SecondNode) (id : ℕ) (f : AnchorState → AnchorState × AnchorOut) → Kept f → (o : Option Fed) → IfThere FedSo o → K s → K (on_fed s id f o).0
  by_fed s id f keep None at is = is
  by_fed s id f keep (Some x) at is = with_anchor s id (Some (record x { anchor = (f x.anchor).0 })) (keep x.anchor at) is

  by_fed_of : (s : SecondNode) (g : ℕ) (f : AnchorState → AnchorState × AnchorOut) → Kept f → (id : ℕ) (o : Option Fed) → IfThere FedSo o → K s → K (on_fed_of s g f id o).0
  by_fed_of s g f keep id o at is = either_of (is_fed_of g o) (on_fed s id f o) (s, quiet) (by_fed s id f keep o at is) is

  -- ---- how a plan is carried out

  fresh_is : (g : ℕ) (o : Option Setup) → IfThere FedSo (option_map (λ s. beginning g (fresh s)) o)
  fresh_is g None = tt
  fresh_is g (Some s) = law.begins s

  waiting_is : (g : ℕ) (o : Option Setup) → IfThere FedSo (option_map (λ s. beginning g (waiting s)) o)
  waiting_is g None = tt
  waiting_is g (Some s) = law.waits s

  by_renewed_in : (s : SecondNode) (id g : ℕ) (setup : Setup) (x : Fed) (st : AnchorState) → P st → K s → K (renewed_active s id g setup x (active_in st)).0
  by_renewed_in s id g setup x (waiting_anchor w) at is = is
  by_renewed_in s id g setup x (active_anchor a) at is = with_anchor s id (Some (record x { anchor = active_anchor (renew a setup) })) (law.renews a setup at) is

  by_renewed : (s : SecondNode) (id g : ℕ) (setup : Option Setup) (o : Option Fed) → IfThere FedSo o → K s → K (renewed_there s id g setup o).0
  by_renewed s id g None o at is = is
  by_renewed s id g (Some setup) None at is = is
  by_renewed s id g (Some setup) (Some x) at is = by_renewed_in s id g setup x x.anchor at is

  by_frozen_active : (s : SecondNode) (id g : ℕ) (to : Node) (x : Fed) (o : Option Active) → K s → K (frozen_active s id g to x o).0
  by_frozen_active s id g to x None is = is
  by_frozen_active s id g to x (Some a) is = with_anchor s id None tt is

  by_frozen : (s : SecondNode) (id g : ℕ) (to : Node) (o : Option Fed) → K s → K (frozen_there s id g to o).0
  by_frozen s id g to None is = is
  by_frozen s id g to (Some x) is = by_frozen_active s id g to x (active_in x.anchor) is

  by_part : (s : SecondNode) (p : Plan) (setup : Option Setup) (id : ℕ) (part : Part) → K s → K (second_part s p setup id part).0
  by_part s p setup id establishes is = with_anchor s id (option_map (λ y. beginning p.g (fresh y)) setup) (fresh_is p.g setup) is
  by_part s p setup id renews is = by_renewed s id p.g setup (held id s.anchors) (here s id is) is
  by_part s p setup id awaits is = with_anchor s id (option_map (λ y. beginning p.g (waiting y)) setup) (waiting_is p.g setup) is
  by_part s p setup id (hands_over to) is = by_frozen s id p.g to (held id s.anchors) is
  by_part s p setup id drops is = with_anchor s id None tt is
  by_part s p setup id has_no_anchor is = is

  by_item : (key : List ℕ) (p : Plan) (s : SecondNode) (i : Item) → K s → K (second_item key p s i).0
  by_item key p s i is =
      by_part (record s { hosts = holding (item_id i) (host_at (name_of s) p i) s.hosts }) p (setup_of (name_of s) p s.alg key i) (item_id i) (part_at (name_of s) p.sec i) is

  -- ---- acts

  by_act : (key : List ℕ) (s : SecondNode) (a : Act) → K s → K (second_act c key s a).0
  by_act key s (send to r) is = is
  by_act key s (prepare p) is = is
  by_act key s (go p) is = turn (second_item key p) (by_item key p) s p.items is
  by_act key s (unlock_all g) is =
      turn (λ n id. on_fed_of n g (unlock c) id (held id n.anchors)) (λ n id so. by_fed_of n g (unlock c) law.unlocks id (held id n.anchors) (here n id so) so) s (identities s.anchors) is
  by_act key s (say n) is = is
  by_act key s (recover_one id) is = by_fed s id (recover c) law.recovers (held id s.anchors) (here s id is) is
  by_act key s (fail_one id g) is = by_fed_of s g (fail_scg c) law.fails id (held id s.anchors) (here s id is) is
  by_act key s (pass st) is = by_fed s st.id (λ a. status_in c a st) (λ a so. law.transfers a st so) (held st.id s.anchors) (here s st.id is) is

  within_so : (k : Membership) (s : SecondNode) → K s → K (within k s)
  within_so outside s is = tt
  within_so joined s is = is
  within_so left s is = is

  by_does : (key : List ℕ) (s : SecondNode) (r : SecondActs) → K s → K (second_does c key s r).0
  by_does key s r is = turn (second_act c key) (by_act key) (within r.0.membership (record s { proc = r.0 })) r.1 (within_so r.0.membership (record s { proc = r.0 }) is)

  -- ---- records

  by_taken : (key : List ℕ) (s : SecondNode) (r : Result SecondActs ProcFault) → K s → K (second_record_taken c key s r).0
  by_taken key s (Ok r) is = by_does key s r is
  by_taken key s (Err why) is = is

  by_record : (s : SecondNode) (r : Rec) (fits : Bool) → K s → K (second_record c s r fits).0
  by_record s r true is = by_taken (key_in r) s (second_take s.proc r) is
  by_record s r false is = is

  -- ---- the core's lines

  by_frozen_took : (s : SecondNode) (id g : ℕ) (payload : List ℕ) (o : Option Frozen) → K s → K (frozen_took s id g payload o).0
  by_frozen_took s id g payload None is = is
  by_frozen_took s id g payload (Some f) is = is

  sdu_so : (x : Fed) (g : ℕ) (payload : List ℕ) → FedSo x → FedSo (sdu_in c x g payload).0
  sdu_so x g payload at = by (nat_lt g x.since)
    where
      by : (t : Bool) → FedSo (if◌then◌else◌ {A = Fed × AnchorOut} t (x, silent) (record x { anchor = (submit c x.anchor payload).0 }, (submit c x.anchor payload).1)).0
      by true = at
      by false = law.submits x.anchor payload at

  by_fed_took : (s : SecondNode) (id g : ℕ) (payload : List ℕ) (o : Option Fed) → IfThere FedSo o → K s → K (fed_took c s id g payload o).0
  by_fed_took s id g payload None at is = is
  by_fed_took s id g payload (Some x) at is = with_anchor s id (Some (sdu_in c x g payload).0) (sdu_so x g payload at) is

  by_frozen_ended : (s : SecondNode) (id g : ℕ) (o : Option Frozen) → K s → K (frozen_ended s id g o).0
  by_frozen_ended s id g None is = is
  by_frozen_ended s id g (Some f) is = is

  end_so : (x : Fed) (g : ℕ) (st : AnchorState) → FedSo x → FedSo (end_in x g st)
  end_so x g (active_anchor a) at = at
  end_so x g (waiting_anchor w) at = at

  by_fed_ended : (s : SecondNode) (id g : ℕ) (o : Option Fed) → IfThere FedSo o → K s → K (fed_ended s id g o).0
  by_fed_ended s id g None at is = is
  by_fed_ended s id g (Some x) at is = with_anchor s id (Some (end_in x g x.anchor)) (end_so x g x.anchor at) is

  by_line : (s : SecondNode) (f : Flight) → K s → K (second_line c s f).0
  by_line s (flight.Sdu id g payload) is =
      either_of (is_before_change g (held id s.frozen)) (frozen_took s id g payload (held id s.frozen)) (fed_took c s id g payload (held id s.anchors))
      (by_frozen_took s id g payload (held id s.frozen) is) (by_fed_took s id g payload (held id s.anchors) (here s id is) is)
  by_line s (flight.End id g) is =
      either_of (is_some (held id s.frozen)) (frozen_ended s id g (held id s.frozen)) (fed_ended s id g (held id s.anchors))
      (by_frozen_ended s id g (held id s.frozen) is) (by_fed_ended s id g (held id s.anchors) (here s id is) is)
  by_line s (flight.Told id g count) is = is
  by_line s (flight.Air id g num tag pdu) is = is
  by_line s (flight.Ack id g num) is = is
  by_line s (flight.Tun tag packet) is = is
  by_line s (flight.Ctl r) is = is

  -- ---- other flights

  by_host : (s : SecondNode) (id : ℕ) (f : Host → Host × List Send) (o : Option Host) → K s → K (on_second_host s id f o).0
  by_host s id f None is = is
  by_host s id f (Some h) is = is

  by_data : (s : SecondNode) (f : AnchorState → AnchorState × AnchorOut) (h : Host → Host × List Send) → Kept f → (o : Option Named) → K s → K (second_data s f h o).0
  by_data s f h keep None is = is
  by_data s f h keep (Some (id, g)) is =
      either_of (is_fed_of g (held id s.anchors)) (on_fed s id f (held id s.anchors)) (on_second_host s id h (held id s.hosts))
      (by_fed s id f keep (held id s.anchors) (here s id is) is) (by_host s id h (held id s.hosts) is)

  by_control : (s : SecondNode) (f : Flight) → K s → K (second_control c s f).0
  by_control s (flight.Ctl r) is = by_record s r (is_fit s r) is
  by_control s (flight.Air id g num tag pdu) is = is
  by_control s (flight.Ack id g num) is = is
  by_control s (flight.Tun tag packet) is = is
  by_control s (flight.Sdu id g payload) is = is
  by_control s (flight.End id g) is = is
  by_control s (flight.Told id g count) is = is

  by_flight : (s : SecondNode) (f : Flight) (k : Class) → K s → K (second_takes c s f k).0
  by_flight s f Ctl is = by_control s f is
  by_flight s f Feed is = by_line s f is
  by_flight s f Air is = by_data s (λ a. air_in a cell.Scg f) (λ h. host_air_in h f) (λ a so. law.hears a cell.Scg f so) (flight_named f) is
  by_flight s f Tun is = by_data s (λ a. tunnel_in c a f) (λ h. host_tunnel_in h f) (λ a so. law.tunnels a f so) (flight_named f) is

  -- ---- events

  by_report : (s : SecondNode) (id : ℕ) (o : Option Active) → K s → K (second_report c s id o).0
  by_report s id None is = is
  by_report s id (Some a) is = by_fed s id (report c) law.reports (held id s.anchors) (here s id is) is

  by_commanded : (s : SecondNode) (r : Result SecondActs ProcFault) → K s → K (second_commanded c s r).0
  by_commanded s (Ok r) is = by_does [] s r is
  by_commanded s (Err (refused why)) is = is
  by_commanded s (Err (unexpected k)) is = is

  by_event : (s : SecondNode) (e : Event) → K s → K (second_event c s e).0
  by_event s (event.Report node id) is = by_report s id (active_at s id) is
  by_event s (event.Deny node on) is = by_commanded s (second_command s.proc (event.Deny node on)) is
  by_event s (event.Ask node what) is = by_commanded s (second_command s.proc (event.Ask node what)) is
  by_event s (event.Bearer id n first shape threshold policy) is = is
  by_event s (event.Reshape id shape) is = is
  by_event s (event.Remove id) is = is
  by_event s (event.Add node) is = is
  by_event s event.Change is = is
  by_event s event.Release is = is
  by_event s event.RekeySecond is = is
  by_event s (event.RekeyMaster root) is = is
  by_event s (event.Recover id) is = is
  by_event s event.ScgFail is = is
  by_event s (event.Submit id d payload) is = is
  by_event s (event.Step l i) is = is
  by_event s (event.Lose l i) is = is
  by_event s (event.Again l i) is = is

  -- a step of a secondary node
  pub second_walk : (s : SecondNode) (i : Input) → K s → K (second_step c s i).0
  second_walk s (Cmd e) is = by_event s e is
  second_walk s (Come l f) is = by_flight s f l.class is
