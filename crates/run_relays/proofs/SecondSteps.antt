-- What a secondary node sends is no uplink PDU, or passes on the one that comes; and what its waiting anchors keep is read of those that
-- came.
use Rattle.std.proofs.Common.{ℕ, ◌++◌, Bool, true, false, List, [], Option, Some, None, inl, inr}
use Rattle.std.specs.Prelude.{Err, Ok, Result, is_some, nat_lt}
use Rattle.std.specs.Option.{option_map}
use Rattle.std.proofs.lemmas.Bool.{cases_Bool}
use Rattle.dc_base.specs.Records.{item_id}
use Rattle.dc_base.specs.declared.events.Event.{Event}
use Rattle.dc_base.specs.declared.events.Event.TheVariants as event
use Rattle.dc_base.specs.declared.flights.Flight.{Flight}
use Rattle.dc_base.specs.declared.flights.Flight.TheVariants as flight
use Rattle.dc_base.specs.declared.nodes.Cell.TheVariants as cell
use Rattle.dc_base.specs.declared.nodes.Class.{Class}
use Rattle.dc_base.specs.declared.nodes.Class.TheVariants.{Air, Ctl, Feed, Tun}
use Rattle.dc_base.specs.declared.nodes.Node.{Node}
use Rattle.dc_base.specs.declared.records.Item.{Item}
use Rattle.dc_base.specs.declared.records.Plan.{Plan}
use Rattle.dc_base.specs.declared.records.Rec.{Rec}
use Rattle.node_rules.specs.Acts.{ProcFault, first_refusal, refused, unexpected}
use Rattle.node_rules.specs.Adopting.{status_in}
use Rattle.node_rules.specs.Anchor.{Active, AnchorState, active_anchor, fresh, renew, setup_at, waiting, waiting_anchor}
use Rattle.node_rules.specs.AnchorReceiving.{air_in, tunnel_in}
use Rattle.node_rules.specs.AnchorSending.{fail_scg, recover, report, unlock}
use Rattle.node_rules.specs.Choices.{Choices, Send}
use Rattle.node_rules.specs.Effects.{accepted, quiet}
use Rattle.node_rules.specs.Feed.{Fed, Frozen, end_in, has_ended, sdu_in}
use Rattle.node_rules.specs.Flights.{Named, flight_named}
use Rattle.node_rules.specs.Held.{held, holding, identities}
use Rattle.node_rules.specs.Host.{Host}
use Rattle.node_rules.specs.HostRules.{host_air_in, host_tunnel_in}
use Rattle.node_rules.specs.Parts.{host_at, part_at}
use Rattle.node_rules.specs.SecondPlan.{beginning, frozen_active, frozen_there, renewed_active, renewed_there, second_act, second_does, second_item, second_part}
use Rattle.node_rules.specs.SecondRecords.{second_take}
use Rattle.node_rules.specs.SecondState.{SecondActs, second_commands_unless, second_refusals}
use Rattle.node_rules.specs.SecondStep.{fed_ended, fed_took, frozen_ended, frozen_took, is_before_change, is_fit, key_in, on_second_host, second_commanded, second_control, second_data, second_line, second_record, second_record_taken, second_report, second_step, second_takes}
use Rattle.node_rules.specs.Secondary.{SecondNode, active_at, active_in, adopted_there, anchored, fed_did, is_fed_of, low_told, name_of, on_fed, on_fed_of, second_effects, within}
use Rattle.node_rules.specs.Setup.{Setup, setup_of}
use Rattle.node_rules.specs.declared.acts.Act.{Act}
use Rattle.node_rules.specs.declared.acts.Act.TheVariants.{FailOne as fail_one, Go as go, Pass as pass, Prepare as prepare, RecoverOne as recover_one, Say as say, Send as send, UnlockAll as unlock_all}
use Rattle.node_rules.specs.declared.bearers.AnchorOut.{AnchorOut}
use Rattle.node_rules.specs.declared.commands.Membership.{Membership}
use Rattle.node_rules.specs.declared.commands.Membership.TheVariants.{Joined as joined, Left as left, Outside as outside}
use Rattle.node_rules.specs.declared.inputs.Effects.{Effects}
use Rattle.node_rules.specs.declared.inputs.Input.TheVariants.{Cmd, Come}
use Rattle.node_rules.specs.declared.inputs.Outcome.{Outcome}
use Rattle.node_rules.specs.declared.parts.Part.{Part}
use Rattle.node_rules.specs.declared.parts.Part.TheVariants.{Awaits as awaits, Drops as drops, Establishes as establishes, HandsOver as hands_over, HasNoAnchor as has_no_anchor, Renews as renews}
use Rattle.run_control.proofs.Sent.{either}
use Rattle.run_senders.specs.Holders.{AllHeld, IfThere}
use Rattle.run_senders.proofs.Held.{held_so, holding_so}
use Rattle.run_relays.specs.Kept.{Brings, FedKeepsOf, KeepsOf}
use Rattle.run_relays.specs.Relays.{ArePlain, AreSentFor, IsSentFor}
use Rattle.run_relays.proofs.AnchorSends.{AnchorDoes, both_plain, fail_does, freeze_plain, frozen_end_plain, frozen_sdu_plain, recover_does, report_does, submit_does, unlock_does}
use Rattle.run_relays.proofs.Arrivals.{air_does, status_does, tunnel_does}
use Rattle.run_relays.proofs.Held.{Leaves, LeavesWith, in_turn_leaves}
use Rattle.run_relays.proofs.Hosts.{host_air_sends, host_tunnel_sends, plain_for}
use Rattle.dc_base.specs.declared.nodes.LinkId.{LinkId}

module _ (P : ℕ → ℕ → List ℕ → Type 0) (H : Host → Type 0) where
  -- such contents alone are kept at the node
  abbrev K : SecondNode → Type 0
  K s = AllHeld (FedKeepsOf P) s.anchors

  -- after a step of the node
  abbrev AtSecond : SecondNode × Effects → Type 0
  AtSecond done = Leaves K done

  -- nothing comes of it
  idle : (s : SecondNode) → K s → AtSecond (s, quiet)
  idle s is = record { so = is; plain = tt }

  -- with another anchor for an identity, or none
  with_anchor : (s : SecondNode) (id : ℕ) (o : Option Fed) → IfThere (FedKeepsOf P) o → K s → K (record s { anchors = holding id o s.anchors })
  with_anchor s id o so is = holding_so (FedKeepsOf P) id o so s.anchors is

  anchor_here : (s : SecondNode) (id : ℕ) → K s → IfThere (FedKeepsOf P) (held id s.anchors)
  anchor_here s id is = held_so (FedKeepsOf P) id s.anchors is

  -- ---- anchors

  by_adopted : (me : Node) (id g : ℕ) (adopted : Bool) → ArePlain (adopted_there me id g adopted).sends
  by_adopted me id g false = tt
  by_adopted me id g true = (tt, tt)

  by_low : (me : Node) (id g : ℕ) (o : Option ℕ) → ArePlain (low_told me id g o).sends
  by_low me id g None = tt
  by_low me id g (Some count) = (tt, tt)

  by_effects : (me : Node) (id g : ℕ) (out : AnchorOut) → ArePlain out.sends → ArePlain (second_effects me id g out).sends
  by_effects me id g out plain =
      both_plain ((adopted_there me id g out.adopted).sends ++ out.sends) (low_told me id g out.low).sends
      (both_plain (adopted_there me id g out.adopted).sends out.sends (by_adopted me id g out.adopted) plain) (by_low me id g out.low)

  -- an anchor with its line, after its step
  by_fed_did : (s : SecondNode) (id : ℕ) (done : Fed × AnchorOut) → FedKeepsOf P done.0 → ArePlain done.1.sends → K s → AtSecond (fed_did s id done)
  by_fed_did s id done keeps plain is = record { so = with_anchor s id (Some done.0) keeps is; plain = by_effects (name_of s) id (setup_at done.0.anchor).g done.1 plain }

  -- a step of an anchor
  abbrev AnchorsDo : (AnchorState → AnchorState × AnchorOut) → Type 0
  AnchorsDo f = (a : AnchorState) → KeepsOf P a → AnchorDoes P (f a)

  by_fed : (s : SecondNode) (id : ℕ) (f : AnchorState → AnchorState × AnchorOut) → AnchorsDo f → (o : Option Fed) → IfThere (FedKeepsOf P) o → K s → AtSecond (on_fed s id f o)
  by_fed s id f do' None here is = idle s is
  by_fed s id f do' (Some y) here is = let one = do' y.anchor here in by_fed_did s id (anchored y (f y.anchor)) one.keeps one.plain is

  by_fed_of : (s : SecondNode) (g : ℕ) (f : AnchorState → AnchorState × AnchorOut) → AnchorsDo f → (id : ℕ) (o : Option Fed) → IfThere (FedKeepsOf P) o → K s → AtSecond (on_fed_of s g f id o)
  by_fed_of s g f do' id o here is = either AtSecond (is_fed_of g o) (on_fed s id f o) (s, quiet) (by_fed s id f do' o here is) (idle s is)

  -- ---- how a plan is carried out

  by_renewed_active : (s : SecondNode) (id g : ℕ) (setup : Setup) (y : Fed) (o : Option Active) → K s → AtSecond (renewed_active s id g setup y o)
  by_renewed_active s id g setup y None is = idle s is
  by_renewed_active s id g setup y (Some a) is = record { so = with_anchor s id (Some (record y { anchor = active_anchor (renew a setup) })) tt is; plain = tt }

  by_renewed : (s : SecondNode) (id g : ℕ) (setup : Option Setup) (o : Option Fed) → K s → AtSecond (renewed_there s id g setup o)
  by_renewed s id g None o is = idle s is
  by_renewed s id g (Some setup) None is = idle s is
  by_renewed s id g (Some setup) (Some y) is = by_renewed_active s id g setup y (active_in y.anchor) is

  by_frozen_active : (s : SecondNode) (id g : ℕ) (to : Node) (y : Fed) (o : Option Active) → K s → AtSecond (frozen_active s id g to y o)
  by_frozen_active s id g to y None is = idle s is
  by_frozen_active s id g to y (Some a) is = record { so = with_anchor s id None tt is; plain = (tt, freeze_plain a to g (has_ended y.ended g)) }

  by_frozen : (s : SecondNode) (id g : ℕ) (to : Node) (o : Option Fed) → K s → AtSecond (frozen_there s id g to o)
  by_frozen s id g to None is = idle s is
  by_frozen s id g to (Some y) is = by_frozen_active s id g to y (active_in y.anchor) is

  fresh_keeps : (g : ℕ) (o : Option Setup) → IfThere (FedKeepsOf P) (option_map (λ s. beginning g (fresh s)) o)
  fresh_keeps g None = tt
  fresh_keeps g (Some s) = tt

  waiting_keeps : (g : ℕ) (o : Option Setup) → IfThere (FedKeepsOf P) (option_map (λ s. beginning g (waiting s)) o)
  waiting_keeps g None = tt
  waiting_keeps g (Some s) = tt

  by_part : (s : SecondNode) (p : Plan) (setup : Option Setup) (id : ℕ) (part : Part) → K s → AtSecond (second_part s p setup id part)
  by_part s p setup id establishes is = record { so = with_anchor s id (option_map (λ y. beginning p.g (fresh y)) setup) (fresh_keeps p.g setup) is; plain = tt }
  by_part s p setup id renews is = by_renewed s id p.g setup (held id s.anchors) is
  by_part s p setup id awaits is = record { so = with_anchor s id (option_map (λ y. beginning p.g (waiting y)) setup) (waiting_keeps p.g setup) is; plain = tt }
  by_part s p setup id (hands_over to) is = by_frozen s id p.g to (held id s.anchors) is
  by_part s p setup id drops is = record { so = with_anchor s id None tt is; plain = tt }
  by_part s p setup id has_no_anchor is = idle s is

  by_item : (key : List ℕ) (p : Plan) (s : SecondNode) (i : Item) → K s → AtSecond (second_item key p s i)
  by_item key p s i is =
      by_part (record s { hosts = holding (item_id i) (host_at (name_of s) p i) s.hosts }) p (setup_of (name_of s) p s.alg key i) (item_id i) (part_at (name_of s) p.sec i) is

  -- ---- acts

  by_act : (c : Choices) (key : List ℕ) (s : SecondNode) (a : Act) → K s → AtSecond (second_act c key s a)
  by_act c key s (send to r) is = record { so = is; plain = (tt, tt) }
  by_act c key s (prepare p) is = idle s is
  by_act c key s (go p) is = in_turn_leaves K (second_item key p) (by_item key p) s p.items is
  by_act c key s (unlock_all g) is =
      in_turn_leaves K (λ n id. on_fed_of n g (unlock c) id (held id n.anchors))
      (λ n id so. by_fed_of n g (unlock c) (unlock_does P c) id (held id n.anchors) (anchor_here n id so) so) s (identities s.anchors) is
  by_act c key s (say n) is = record { so = is; plain = tt }
  by_act c key s (recover_one id) is = by_fed s id (recover c) (recover_does P c) (held id s.anchors) (anchor_here s id is) is
  by_act c key s (fail_one id g) is = by_fed_of s g (fail_scg c) (fail_does P c) id (held id s.anchors) (anchor_here s id is) is
  by_act c key s (pass st) is = by_fed s st.id (λ a. status_in c a st) (λ a keeps. status_does P c a st keeps) (held st.id s.anchors) (anchor_here s st.id is) is

  within_so : (k : Membership) (s : SecondNode) → K s → K (within k s)
  within_so outside s is = tt
  within_so joined s is = is
  within_so left s is = is

  by_does : (c : Choices) (key : List ℕ) (s : SecondNode) (r : SecondActs) → K s → AtSecond (second_does c key s r)
  by_does c key s r is =
      let k : SecondNode = record s { proc = r.0 } in in_turn_leaves K (second_act c key) (by_act c key) (within r.0.membership k) r.1 (within_so r.0.membership k is)

  by_taken : (c : Choices) (key : List ℕ) (s : SecondNode) (r : Result SecondActs ProcFault) → K s → AtSecond (second_record_taken c key s r)
  by_taken c key s (Ok r) is = by_does c key s r is
  by_taken c key s (Err why) is = idle s is

  by_record : (c : Choices) (s : SecondNode) (r : Rec) (fits : Bool) → K s → AtSecond (second_record c s r fits)
  by_record c s r true is = by_taken c (key_in r) s (second_take s.proc r) is
  by_record c s r false is = idle s is

  -- ---- the core's lines

  by_frozen_took : (s : SecondNode) (id g : ℕ) (payload : List ℕ) (o : Option Frozen) → K s → AtSecond (frozen_took s id g payload o)
  by_frozen_took s id g payload None is = idle s is
  by_frozen_took s id g payload (Some f) is = record { so = is; plain = frozen_sdu_plain f g payload }

  by_sdu : (c : Choices) (f : Fed) (g : ℕ) (payload : List ℕ) → FedKeepsOf P f → FedKeepsOf P (sdu_in c f g payload).0 × ArePlain (sdu_in c f g payload).1.sends
  by_sdu c f g payload here =
      let one = submit_does P c f.anchor payload here in
      elim (cases_Bool (nat_lt g f.since)) [
        | inl older ↦ rw older (here, tt)
        | inr later ↦ rw later (one.keeps, one.plain)
      ]

  by_fed_took : (c : Choices) (s : SecondNode) (id g : ℕ) (payload : List ℕ) (o : Option Fed) → IfThere (FedKeepsOf P) o → K s → AtSecond (fed_took c s id g payload o)
  by_fed_took c s id g payload None here is = idle s is
  by_fed_took c s id g payload (Some y) here is = let one = by_sdu c y g payload here in by_fed_did s id (sdu_in c y g payload) one.0 one.1 is

  by_frozen_ended : (s : SecondNode) (id g : ℕ) (o : Option Frozen) → K s → AtSecond (frozen_ended s id g o)
  by_frozen_ended s id g None is = idle s is
  by_frozen_ended s id g (Some f) is = record { so = is; plain = frozen_end_plain f g }

  end_keeps : (f : Fed) (g : ℕ) (a : AnchorState) → FedKeepsOf P f → FedKeepsOf P (end_in f g a)
  end_keeps f g (waiting_anchor w) here = here
  end_keeps f g (active_anchor a) here = here

  by_fed_ended : (s : SecondNode) (id g : ℕ) (o : Option Fed) → IfThere (FedKeepsOf P) o → K s → AtSecond (fed_ended s id g o)
  by_fed_ended s id g None here is = idle s is
  by_fed_ended s id g (Some y) here is = record { so = with_anchor s id (Some (end_in y g y.anchor)) (end_keeps y g y.anchor here) is; plain = tt }

  by_line : (c : Choices) (s : SecondNode) (f : Flight) → K s → AtSecond (second_line c s f)
  by_line c s (flight.Sdu id g payload) is =
      either AtSecond (is_before_change g (held id s.frozen)) (frozen_took s id g payload (held id s.frozen)) (fed_took c s id g payload (held id s.anchors))
      (by_frozen_took s id g payload (held id s.frozen) is) (by_fed_took c s id g payload (held id s.anchors) (anchor_here s id is) is)
  by_line c s (flight.End id g) is =
      either AtSecond (is_some (held id s.frozen)) (frozen_ended s id g (held id s.frozen)) (fed_ended s id g (held id s.anchors))
      (by_frozen_ended s id g (held id s.frozen) is) (by_fed_ended s id g (held id s.anchors) (anchor_here s id is) is)
  by_line c s (flight.Told id g count) is = idle s is
  by_line c s (flight.Air id g num tag pdu) is = idle s is
  by_line c s (flight.Ack id g num) is = idle s is
  by_line c s (flight.Tun tag packet) is = idle s is
  by_line c s (flight.Ctl r) is = idle s is

  by_control : (c : Choices) (s : SecondNode) (f : Flight) → K s → AtSecond (second_control c s f)
  by_control c s (flight.Ctl r) is = by_record c s r (is_fit s r) is
  by_control c s (flight.Air id g num tag pdu) is = idle s is
  by_control c s (flight.Ack id g num) is = idle s is
  by_control c s (flight.Tun tag packet) is = idle s is
  by_control c s (flight.Sdu id g payload) is = idle s is
  by_control c s (flight.End id g) is = idle s is
  by_control c s (flight.Told id g count) is = idle s is

  -- ---- other flights

  module _ (f : Flight) where
    abbrev Passes : SecondNode × Effects → Type 0
    Passes done = LeavesWith K (IsSentFor H f) done

    passes : (done : SecondNode × Effects) → AtSecond done → Passes done
    passes done at = record { so = at.so; sends = plain_for H f done.1.sends at.plain }

    by_host : (s : SecondNode) (id : ℕ) (h : Host → Host × List Send) → ((x : Host) → H x → AreSentFor H f (h x).1) → (o : Option Host) → IfThere H o → K s → Passes (on_second_host s id h o)
    by_host s id h sends None there is = passes (on_second_host s id h None) (idle s is)
    by_host s id h sends (Some x) there is = record { so = is; sends = sends x there }

    by_data : (s : SecondNode) (a : AnchorState → AnchorState × AnchorOut) (h : Host → Host × List Send) → AnchorsDo a → ((x : Host) → H x → AreSentFor H f (h x).1) → AllHeld H s.hosts → (o : Option Named) → K s
        → Passes (second_data s a h o)
    by_data s a h do' hosts held' None is = passes (second_data s a h None) (idle s is)
    by_data s a h do' hosts held' (Some (id, g)) is =
        either Passes (is_fed_of g (held id s.anchors)) (on_fed s id a (held id s.anchors)) (on_second_host s id h (held id s.hosts))
        (passes (on_fed s id a (held id s.anchors)) (by_fed s id a do' (held id s.anchors) (anchor_here s id is) is)) (by_host s id h hosts (held id s.hosts) (held_so H id s.hosts held') is)

    by_class : (c : Choices) (s : SecondNode) (k : Class) → Brings P f → AllHeld H s.hosts → K s → Passes (second_takes c s f k)
    by_class c s Ctl brings held' is = passes (second_control c s f) (by_control c s f is)
    by_class c s Feed brings held' is = passes (second_line c s f) (by_line c s f is)
    by_class c s Air brings held' is =
        by_data s (λ a. air_in a cell.Scg f) (λ h. host_air_in h f) (λ a keeps. air_does P a cell.Scg f brings keeps) (λ h so. host_air_sends H h so f) held' (flight_named f) is
    by_class c s Tun brings held' is =
        by_data s (λ a. tunnel_in c a f) (λ h. host_tunnel_in h f) (λ a keeps. tunnel_does P c a f brings keeps) (λ h so. host_tunnel_sends H h f) held' (flight_named f) is

  -- ---- its events

  -- with its answer
  pub record AtEvent (done : SecondNode × Outcome) : Type 0 where
    pub so : AllHeld (FedKeepsOf P) done.0.anchors
    pub plain : ArePlain done.1.sends

  answered : (done : SecondNode × Effects) → AtSecond done → AtEvent (accepted done)
  answered done at = record { so = at.so; plain = at.plain }

  by_commanded : (c : Choices) (s : SecondNode) (r : Result SecondActs ProcFault) → K s → AtEvent (second_commanded c s r)
  by_commanded c s (Ok r) is = answered (second_does c [] s r) (by_does c [] s r is)
  by_commanded c s (Err (refused why)) is = record { so = is; plain = tt }
  by_commanded c s (Err (unexpected k)) is = record { so = is; plain = tt }

  by_command : (c : Choices) (s : SecondNode) (e : Event) → K s → AtEvent (second_commanded c s (second_commands_unless s.proc e (first_refusal (second_refusals s.proc e))))
  by_command c s e is = by_commanded c s (second_commands_unless s.proc e (first_refusal (second_refusals s.proc e))) is

  by_report : (c : Choices) (s : SecondNode) (id : ℕ) (o : Option Active) → K s → AtEvent (second_report c s id o)
  by_report c s id None is = record { so = is; plain = tt }
  by_report c s id (Some a) is = answered (on_fed s id (report c) (held id s.anchors)) (by_fed s id (report c) (report_does P c) (held id s.anchors) (anchor_here s id is) is)

  by_nothing : (s : SecondNode) → K s → AtEvent (accepted (s, quiet))
  by_nothing s is = record { so = is; plain = tt }

  -- an event that the node takes
  pub second_event_plain : (c : Choices) (s : SecondNode) (e : Event) → AllHeld (FedKeepsOf P) s.anchors → AtEvent (second_step c s (Cmd e))
  second_event_plain c s (event.Report node id) is = by_report c s id (active_at s id) is
  second_event_plain c s (event.Deny node on) is = by_command c s (event.Deny node on) is
  second_event_plain c s (event.Ask node what) is = by_command c s (event.Ask node what) is
  second_event_plain c s (event.Bearer id n first shape threshold policy) is = by_nothing s is
  second_event_plain c s (event.Reshape id shape) is = by_nothing s is
  second_event_plain c s (event.Remove id) is = by_nothing s is
  second_event_plain c s (event.Add node) is = by_nothing s is
  second_event_plain c s event.Change is = by_nothing s is
  second_event_plain c s event.Release is = by_nothing s is
  second_event_plain c s event.RekeySecond is = by_nothing s is
  second_event_plain c s (event.RekeyMaster root) is = by_nothing s is
  second_event_plain c s (event.Recover id) is = by_nothing s is
  second_event_plain c s event.ScgFail is = by_nothing s is
  second_event_plain c s (event.Submit id d payload) is = by_nothing s is
  second_event_plain c s (event.Step l i) is = by_nothing s is
  second_event_plain c s (event.Lose l i) is = by_nothing s is
  second_event_plain c s (event.Again l i) is = by_nothing s is

  -- a flight: what is kept is read of the PDU that came, or of such as before; and what is sent is no uplink PDU, or passes this one on
  pub record AtFlight (f : Flight) (done : SecondNode × Outcome) : Type 0 where
    pub so : AllHeld (FedKeepsOf P) done.0.anchors
    pub sends : AreSentFor H f done.1.sends

  pub second_flight_passes : (c : Choices) (s : SecondNode) (l : LinkId) (f : Flight) → Brings P f → AllHeld H s.hosts → AllHeld (FedKeepsOf P) s.anchors → AtFlight f (second_step c s (Come l f))
  second_flight_passes c s l f brings held' is = let at = by_class f c s l.class brings held' is in record { so = at.so; sends = at.sends }
