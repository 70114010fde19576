-- What a secondary node holds stays its own, and what it sends begins there.
use Rattle.std.proofs.Common.{ℕ, ◌≡◌, ◌==◌, ◌++◌, Bool, true, false, List, [], Option, Some, None, refl, sym, subst, ◌∙◌, inl, inr}
use Rattle.std.specs.Prelude.{Err, Ok, Result, is_some, nat_le, nat_lt, ◌&&◌}
use Rattle.std.specs.Option.{option_map}
use Rattle.std.proofs.lemmas.Bool.{cases_Bool}
use Rattle.dc_base.specs.Records.{item_id}
use Rattle.dc_base.specs.declared.events.Event.{Event}
use Rattle.dc_base.specs.declared.events.Event.TheVariants as event
use Rattle.dc_base.specs.declared.flights.Flight.{Flight}
use Rattle.dc_base.specs.declared.flights.Flight.TheVariants as flight
use Rattle.dc_base.specs.declared.nodes.Alg.{Alg}
use Rattle.dc_base.specs.declared.nodes.Cell.TheVariants as cell
use Rattle.dc_base.specs.declared.nodes.Class.{Class}
use Rattle.dc_base.specs.declared.nodes.Class.TheVariants.{Air, Ctl, Feed, Tun}
use Rattle.dc_base.specs.declared.nodes.Node.{Node}
use Rattle.dc_base.specs.declared.records.Item.{Item}
use Rattle.dc_base.specs.declared.records.Item.TheVariants as item
use Rattle.dc_base.specs.declared.records.Plan.{Plan}
use Rattle.dc_base.specs.declared.records.Rec.{Rec}
use Rattle.transcript.proofs.OnEach.{each_append}
use Rattle.node_rules.specs.Acts.{ProcFault, first_refusal, refused, unexpected}
use Rattle.node_rules.specs.Adopting.{status_in}
use Rattle.node_rules.specs.Anchor.{Active, AnchorState, active_anchor, fresh, renew, setup_at, waiting, waiting_anchor}
use Rattle.node_rules.specs.AnchorReceiving.{air_in, tunnel_in}
use Rattle.node_rules.specs.AnchorSending.{fail_scg, recover, report, submit, unlock}
use Rattle.node_rules.specs.Choices.{Choices, Send}
use Rattle.node_rules.specs.Effects.{accepted, quiet}
use Rattle.node_rules.specs.Feed.{Fed, Frozen, end_in, freeze_fed, frozen_end_in, frozen_of, frozen_sdu_in, has_ended, sdu_in}
use Rattle.node_rules.specs.Flights.{Named, flight_named}
use Rattle.node_rules.specs.Freezing.{Tunnel, forward_fresh}
use Rattle.node_rules.specs.Held.{held, holding, identities}
use Rattle.node_rules.specs.Host.{Host}
use Rattle.node_rules.specs.HostRules.{host_air_in, host_tunnel_in}
use Rattle.node_rules.specs.Parts.{host_at, part_at}
use Rattle.node_rules.specs.Places.{is_host_at}
use Rattle.node_rules.specs.SecondPlan.{beginning, frozen_active, frozen_there, renewed_active, renewed_there, second_act, second_does, second_item, second_part}
use Rattle.node_rules.specs.SecondRecords.{second_take}
use Rattle.node_rules.specs.SecondState.{SecondActs, second_commands_unless, second_refusals}
use Rattle.node_rules.specs.SecondStep.{fed_ended, fed_took, frozen_ended, frozen_took, is_before_change, is_fit, key_in, on_second_host, second_commanded, second_control, second_data, second_event, second_line, second_record, second_record_taken, second_report, second_step, second_takes}
use Rattle.node_rules.specs.Secondary.{SecondNode, active_at, active_in, adopted_there, anchored, fed_did, is_fed_of, low_told, name_of, on_fed, on_fed_of, second_effects, within}
use Rattle.node_rules.specs.Setup.{Setup, setup_of}
use Rattle.node_rules.specs.declared.acts.Act.{Act}
use Rattle.node_rules.specs.declared.acts.Act.TheVariants.{FailOne as fail_one, Go as go, Pass as pass, Prepare as prepare, RecoverOne as recover_one, Say as say, Send as send, UnlockAll as unlock_all}
use Rattle.node_rules.specs.declared.bearers.AnchorOut.{AnchorOut}
use Rattle.node_rules.specs.declared.commands.Membership.{Membership}
use Rattle.node_rules.specs.declared.commands.Membership.TheVariants.{Joined as joined, Left as left, Outside as outside}
use Rattle.node_rules.specs.declared.inputs.Effects.{Effects}
use Rattle.node_rules.specs.declared.inputs.Input.{Input}
use Rattle.node_rules.specs.declared.inputs.Input.TheVariants.{Cmd, Come}
use Rattle.node_rules.specs.declared.inputs.Outcome.{Outcome}
use Rattle.node_rules.specs.declared.parts.Part.{Part}
use Rattle.node_rules.specs.declared.parts.Part.TheVariants.{Awaits as awaits, Drops as drops, Establishes as establishes, HandsOver as hands_over, HasNoAnchor as has_no_anchor, Renews as renews}
use Rattle.run_control.proofs.EventTurns.{TakesBusy, second_busy, unless_busy}
use Rattle.run_control.proofs.Sent.{either}
use Rattle.run_words.specs.Senders.{AreBy, IsBy}
use Rattle.run_senders.specs.Holders.{HostStays, IfThere, IsAnchorAt, IsFedAt, IsFrozenAt, IsHostAt, IsSecond, Leaves, Stays}
use Rattle.run_senders.proofs.Anchors.{by_freeze, fail_stays, freeze_there, recover_stays, report_stays, submit_stays, unlock_stays}
use Rattle.run_senders.proofs.Arrivals.{air_stays, status_stays, tunnel_stays}
use Rattle.run_senders.proofs.Held.{held_so, holding_so, in_turn_so}
use Rattle.run_senders.proofs.Hosts.{host_air_stays, host_tunnel_stays}

-- with its answer
pub record FromSecond (x : Node) (done : SecondNode × Outcome) : Type 0 where
  pub so : IsSecond x done.0
  pub by : AreBy x done.1.sends

-- a step of an anchor
abbrev AnchorStays : (AnchorState → AnchorState × AnchorOut) → Type 0
AnchorStays f = (a : AnchorState) → Stays a (f a)

-- a setup is at this node
abbrev IsSetAt : Node → Setup → Type 0
IsSetAt x s = s.node ≡ x

module _ (x : Node) where
  -- after a step of the node
  abbrev AtSecond : SecondNode × Effects → Type 0
  AtSecond done = Leaves (IsSecond x) x done

  -- nothing comes of it
  idle : (s : SecondNode) → IsSecond x s → AtSecond (s, quiet)
  idle s is = record { so = is; by = tt }

  -- with another anchor for an identity, or none
  with_anchor : (s : SecondNode) (id : ℕ) (o : Option Fed) → IfThere (IsFedAt x) o → IsSecond x s → IsSecond x (record s { anchors = holding id o s.anchors })
  with_anchor s id o so is = record { name = is.name; anchors = holding_so (IsFedAt x) id o so s.anchors is.anchors; frozen = is.frozen; hosts = is.hosts }

  with_frozen : (s : SecondNode) (id : ℕ) (o : Option Frozen) → IfThere (IsFrozenAt x) o → IsSecond x s → IsSecond x (record s { frozen = holding id o s.frozen })
  with_frozen s id o so is = record { name = is.name; anchors = is.anchors; frozen = holding_so (IsFrozenAt x) id o so s.frozen is.frozen; hosts = is.hosts }

  with_host : (s : SecondNode) (id : ℕ) (o : Option Host) → IfThere (IsHostAt x) o → IsSecond x s → IsSecond x (record s { hosts = holding id o s.hosts })
  with_host s id o so is = record { name = is.name; anchors = is.anchors; frozen = is.frozen; hosts = holding_so (IsHostAt x) id o so s.hosts is.hosts }

  anchor_here : (s : SecondNode) (id : ℕ) → IsSecond x s → IfThere (IsFedAt x) (held id s.anchors)
  anchor_here s id is = held_so (IsFedAt x) id s.anchors is.anchors

  frozen_here : (s : SecondNode) (id : ℕ) → IsSecond x s → IfThere (IsFrozenAt x) (held id s.frozen)
  frozen_here s id is = held_so (IsFrozenAt x) id s.frozen is.frozen

  -- ---- anchors

  by_adopted : (id g : ℕ) (adopted : Bool) → AreBy x (adopted_there x id g adopted).sends
  by_adopted id g false = tt
  by_adopted id g true = ((refl, refl), tt)

  by_low : (id g : ℕ) (o : Option ℕ) → AreBy x (low_told x id g o).sends
  by_low id g None = tt
  by_low id g (Some count) = ((refl, refl), tt)

  by_effects : (me : Node) (id g : ℕ) (out : AnchorOut) → me ≡ x → AreBy x out.sends → AreBy x (second_effects me id g out).sends
  by_effects me id g out named by =
      subst (λ y. AreBy x (second_effects y id g out).sends) (sym named)
      (each_append (IsBy x) ((adopted_there x id g out.adopted).sends ++ out.sends) (low_told x id g out.low).sends
      (each_append (IsBy x) (adopted_there x id g out.adopted).sends out.sends (by_adopted id g out.adopted) by) (by_low id g out.low))

  -- an anchor with its line, after its step
  by_fed_did : (s : SecondNode) (id : ℕ) (done : Fed × AnchorOut) → IsFedAt x done.0 → AreBy x done.1.sends → IsSecond x s → AtSecond (fed_did s id done)
  by_fed_did s id done here by is = record { so = with_anchor s id (Some done.0) here is; by = by_effects (name_of s) id (setup_at done.0.anchor).g done.1 is.name by }

  by_fed : (s : SecondNode) (id : ℕ) (f : AnchorState → AnchorState × AnchorOut) → AnchorStays f → (o : Option Fed) → IfThere (IsFedAt x) o → IsSecond x s → AtSecond (on_fed s id f o)
  by_fed s id f stays None here is = idle s is
  by_fed s id f stays (Some y) here is =
      let one = stays y.anchor in by_fed_did s id (anchored y (f y.anchor)) (one.node ∙ here) (subst (λ n. AreBy n (f y.anchor).1.sends) here one.by) is

  by_fed_of : (s : SecondNode) (g : ℕ) (f : AnchorState → AnchorState × AnchorOut) → AnchorStays f → (id : ℕ) (o : Option Fed) → IfThere (IsFedAt x) o → IsSecond x s → AtSecond (on_fed_of s g f id o)
  by_fed_of s g f stays id o here is = either AtSecond (is_fed_of g o) (on_fed s id f o) (s, quiet) (by_fed s id f stays o here is) (idle s is)

  -- ---- how a plan is carried out

  by_renewed_active : (s : SecondNode) (id g : ℕ) (setup : Setup) (y : Fed) (o : Option Active) → IsSetAt x setup → IsSecond x s → AtSecond (renewed_active s id g setup y o)
  by_renewed_active s id g setup y None here is = idle s is
  by_renewed_active s id g setup y (Some a) here is = record { so = with_anchor s id (Some (record y { anchor = active_anchor (renew a setup) })) here is; by = tt }

  by_renewed : (s : SecondNode) (id g : ℕ) (setup : Option Setup) (o : Option Fed) → IfThere (IsSetAt x) setup → IsSecond x s → AtSecond (renewed_there s id g setup o)
  by_renewed s id g None o here is = idle s is
  by_renewed s id g (Some setup) None here is = idle s is
  by_renewed s id g (Some setup) (Some y) here is = by_renewed_active s id g setup y (active_in y.anchor) here is

  -- an active anchor is where its bearer is set up
  active_here : (a : AnchorState) → IsAnchorAt x a → IfThere (λ (y : Active). IsSetAt x y.entity.setup) (active_in a)
  active_here (waiting_anchor w) here = tt
  active_here (active_anchor a) here = here

  frozen_so : (since : ℕ) (o : Option Tunnel) → IfThere (λ (t : Tunnel). t.node ≡ x) o → IfThere (IsFrozenAt x) (frozen_of since o)
  frozen_so since None here = tt
  frozen_so since (Some t) here = here

  by_frozen_active : (s : SecondNode) (id g : ℕ) (to : Node) (y : Fed) (o : Option Active) → IfThere (λ (a : Active). IsSetAt x a.entity.setup) o → IsSecond x s → AtSecond (frozen_active s id g to y o)
  by_frozen_active s id g to y None here is = idle s is
  by_frozen_active s id g to y (Some a) here is =
      let last = has_ended y.ended g in
      let rest = subst (λ n. IfThere (λ (t : Tunnel). t.node ≡ n) (freeze_fed y a to g).rest) here (freeze_there a to g last) in
      record {
        so = with_frozen (record s { anchors = holding id None s.anchors }) id (frozen_of y.since (freeze_fed y a to g).rest) (frozen_so y.since (freeze_fed y a to g).rest rest) (with_anchor s id None tt is);
        by = ((is.name, refl), subst (λ n. AreBy n (freeze_fed y a to g).sends) here (by_freeze a to g last));
      }

  by_frozen : (s : SecondNode) (id g : ℕ) (to : Node) (o : Option Fed) → IfThere (IsFedAt x) o → IsSecond x s → AtSecond (frozen_there s id g to o)
  by_frozen s id g to None here is = idle s is
  by_frozen s id g to (Some y) here is = by_frozen_active s id g to y (active_in y.anchor) (active_here y.anchor here) is

  fresh_here : (g : ℕ) (o : Option Setup) → IfThere (IsSetAt x) o → IfThere (IsFedAt x) (option_map (λ s. beginning g (fresh s)) o)
  fresh_here g None here = tt
  fresh_here g (Some s) here = here

  waiting_here : (g : ℕ) (o : Option Setup) → IfThere (IsSetAt x) o → IfThere (IsFedAt x) (option_map (λ s. beginning g (waiting s)) o)
  waiting_here g None here = tt
  waiting_here g (Some s) here = here

  by_part : (s : SecondNode) (p : Plan) (setup : Option Setup) (id : ℕ) (part : Part) → IfThere (IsSetAt x) setup → IsSecond x s → AtSecond (second_part s p setup id part)
  by_part s p setup id establishes here is = record { so = with_anchor s id (option_map (λ y. beginning p.g (fresh y)) setup) (fresh_here p.g setup here) is; by = tt }
  by_part s p setup id renews here is = by_renewed s id p.g setup (held id s.anchors) here is
  by_part s p setup id awaits here is = record { so = with_anchor s id (option_map (λ y. beginning p.g (waiting y)) setup) (waiting_here p.g setup here) is; by = tt }
  by_part s p setup id (hands_over to) here is = by_frozen s id p.g to (held id s.anchors) (anchor_here s id is) is
  by_part s p setup id drops here is = record { so = with_anchor s id None tt is; by = tt }
  by_part s p setup id has_no_anchor here is = idle s is

  setup_here : (me : Node) (p : Plan) (alg : Alg) (key : List ℕ) (i : Item) → me ≡ x → IfThere (IsSetAt x) (setup_of me p alg key i)
  setup_here me p alg key (item.Set id n first shape threshold policy name old) named = named
  setup_here me p alg key (item.Unset id) named = tt

  host_here : (me : Node) (p : Plan) (i : Item) → me ≡ x → IfThere (IsHostAt x) (host_at me p i)
  host_here me p (item.Set id n first shape threshold policy key old) named =
      elim (cases_Bool (is_host_at p.sec shape me)) [ inl yes' ↦ rw yes' named | inr no' ↦ rw no' tt ]
  host_here me p (item.Unset id) named = tt

  by_item : (key : List ℕ) (p : Plan) (s : SecondNode) (i : Item) → IsSecond x s → AtSecond (second_item key p s i)
  by_item key p s i is =
      by_part (record s { hosts = holding (item_id i) (host_at (name_of s) p i) s.hosts }) p (setup_of (name_of s) p s.alg key i) (item_id i) (part_at (name_of s) p.sec i)
      (setup_here (name_of s) p s.alg key i is.name) (with_host s (item_id i) (host_at (name_of s) p i) (host_here (name_of s) p i is.name) is)

  -- ---- acts

  by_act : (c : Choices) (key : List ℕ) (s : SecondNode) (a : Act) → IsSecond x s → AtSecond (second_act c key s a)
  by_act c key s (send to r) is = record { so = is; by = ((is.name, refl), tt) }
  by_act c key s (prepare p) is = idle s is
  by_act c key s (go p) is = in_turn_so (IsSecond x) x (second_item key p) (by_item key p) s p.items is
  by_act c key s (unlock_all g) is =
      in_turn_so (IsSecond x) x (λ n id. on_fed_of n g (unlock c) id (held id n.anchors))
      (λ n id so. by_fed_of n g (unlock c) (unlock_stays c) id (held id n.anchors) (anchor_here n id so) so) s (identities s.anchors) is
  by_act c key s (say n) is = record { so = is; by = tt }
  by_act c key s (recover_one id) is = by_fed s id (recover c) (recover_stays c) (held id s.anchors) (anchor_here s id is) is
  by_act c key s (fail_one id g) is = by_fed_of s g (fail_scg c) (fail_stays c) id (held id s.anchors) (anchor_here s id is) is
  by_act c key s (pass st) is = by_fed s st.id (λ a. status_in c a st) (λ a. status_stays c a st) (held st.id s.anchors) (anchor_here s st.id is) is

  -- with other procedures of the same node
  within_so : (k : Membership) (s : SecondNode) → IsSecond x s → IsSecond x (within k s)
  within_so outside s is = record { name = is.name; anchors = tt; frozen = tt; hosts = tt }
  within_so joined s is = is
  within_so left s is = is

  by_does : (c : Choices) (key : List ℕ) (s : SecondNode) (r : SecondActs) → r.0.me ≡ s.proc.me → IsSecond x s → AtSecond (second_does c key s r)
  by_does c key s r same is =
      let k : SecondNode = record s { proc = r.0 } in
      in_turn_so (IsSecond x) x (second_act c key) (by_act c key) (within r.0.membership k) r.1
      (within_so r.0.membership k (record { name = same ∙ is.name; anchors = is.anchors; frozen = is.frozen; hosts = is.hosts }))

  by_taken : (c : Choices) (key : List ℕ) (s : SecondNode) (r : Result SecondActs ProcFault) → TakesBusy s.proc r → IsSecond x s → AtSecond (second_record_taken c key s r)
  by_taken c key s (Ok r) busy is = by_does c key s r busy.0 is
  by_taken c key s (Err why) busy is = idle s is

  by_record : (c : Choices) (s : SecondNode) (r : Rec) (fits : Bool) → IsSecond x s → AtSecond (second_record c s r fits)
  by_record c s r true is = by_taken c (key_in r) s (second_take s.proc r) (second_busy s.proc r) is
  by_record c s r false is = idle s is

  -- ---- the core's lines

  by_frozen_sdu : (f : Frozen) (g : ℕ) (payload : List ℕ) → IsFrozenAt x f → IsFrozenAt x (frozen_sdu_in f g payload).0 × AreBy x (frozen_sdu_in f g payload).1
  by_frozen_sdu f g payload here =
      either (λ (done : Frozen × List Send). IsFrozenAt x done.0 × AreBy x done.1) (nat_le f.since g && nat_lt g f.tunnel.g)
      (record f { tunnel = (forward_fresh f.tunnel payload).0 }, (forward_fresh f.tunnel payload).1) (f, []) (here, ((here, refl), tt)) (here, tt)

  by_frozen_took : (s : SecondNode) (id g : ℕ) (payload : List ℕ) (o : Option Frozen) → IfThere (IsFrozenAt x) o → IsSecond x s → AtSecond (frozen_took s id g payload o)
  by_frozen_took s id g payload None here is = idle s is
  by_frozen_took s id g payload (Some f) here is =
      let one = by_frozen_sdu f g payload here in record { so = with_frozen s id (Some (frozen_sdu_in f g payload).0) one.0 is; by = one.1 }

  by_sdu : (c : Choices) (f : Fed) (g : ℕ) (payload : List ℕ) → IsFedAt x f → IsFedAt x (sdu_in c f g payload).0 × AreBy x (sdu_in c f g payload).1.sends
  by_sdu c f g payload here =
      let one = submit_stays c f.anchor payload in
      elim (cases_Bool (nat_lt g f.since)) [
        | inl older ↦ rw older (here, tt)
        | inr later ↦ rw later (one.node ∙ here, subst (λ n. AreBy n (submit c f.anchor payload).1.sends) here one.by)
      ]

  by_fed_took : (c : Choices) (s : SecondNode) (id g : ℕ) (payload : List ℕ) (o : Option Fed) → IfThere (IsFedAt x) o → IsSecond x s → AtSecond (fed_took c s id g payload o)
  by_fed_took c s id g payload None here is = idle s is
  by_fed_took c s id g payload (Some y) here is = let one = by_sdu c y g payload here in by_fed_did s id (sdu_in c y g payload) one.0 one.1 is

  by_frozen_end : (f : Frozen) (g : ℕ) → IsFrozenAt x f → IfThere (IsFrozenAt x) (frozen_end_in f g).0 × AreBy x (frozen_end_in f g).1
  by_frozen_end f g here =
      elim (cases_Bool (f.tunnel.g == g)) [
        | inl ends ↦ rw ends (tt, ((here, refl), ((here, refl), tt)))
        | inr other ↦ rw other (here, tt)
      ]

  by_frozen_ended : (s : SecondNode) (id g : ℕ) (o : Option Frozen) → IfThere (IsFrozenAt x) o → IsSecond x s → AtSecond (frozen_ended s id g o)
  by_frozen_ended s id g None here is = idle s is
  by_frozen_ended s id g (Some f) here is = let one = by_frozen_end f g here in record { so = with_frozen s id (frozen_end_in f g).0 one.0 is; by = one.1 }

  end_here : (f : Fed) (g : ℕ) (a : AnchorState) → IsFedAt x f → IsFedAt x (end_in f g a)
  end_here f g (waiting_anchor w) here = here
  end_here f g (active_anchor a) here = here

  by_fed_ended : (s : SecondNode) (id g : ℕ) (o : Option Fed) → IfThere (IsFedAt x) o → IsSecond x s → AtSecond (fed_ended s id g o)
  by_fed_ended s id g None here is = idle s is
  by_fed_ended s id g (Some y) here is = record { so = with_anchor s id (Some (end_in y g y.anchor)) (end_here y g y.anchor here) is; by = tt }

  by_line : (c : Choices) (s : SecondNode) (f : Flight) → IsSecond x s → AtSecond (second_line c s f)
  by_line c s (flight.Sdu id g payload) is =
      either AtSecond (is_before_change g (held id s.frozen)) (frozen_took s id g payload (held id s.frozen)) (fed_took c s id g payload (held id s.anchors))
      (by_frozen_took s id g payload (held id s.frozen) (frozen_here s id is) is) (by_fed_took c s id g payload (held id s.anchors) (anchor_here s id is) is)
  by_line c s (flight.End id g) is =
      either AtSecond (is_some (held id s.frozen)) (frozen_ended s id g (held id s.frozen)) (fed_ended s id g (held id s.anchors))
      (by_frozen_ended s id g (held id s.frozen) (frozen_here s id is) is) (by_fed_ended s id g (held id s.anchors) (anchor_here s id is) is)
  by_line c s (flight.Told id g count) is = idle s is
  by_line c s (flight.Air id g num tag pdu) is = idle s is
  by_line c s (flight.Ack id g num) is = idle s is
  by_line c s (flight.Tun tag packet) is = idle s is
  by_line c s (flight.Ctl r) is = idle s is

  -- ---- other flights

  by_host : (s : SecondNode) (id : ℕ) (f : Host → Host × List Send) → ((h : Host) → HostStays h (f h)) → (o : Option Host) → IfThere (IsHostAt x) o → IsSecond x s → AtSecond (on_second_host s id f o)
  by_host s id f stays None here is = idle s is
  by_host s id f stays (Some h) here is =
      record { so = with_host s id (Some (f h).0) ((stays h).node ∙ here) is; by = subst (λ n. AreBy n (f h).1) here (stays h).by }

  by_data : (s : SecondNode) (f : AnchorState → AnchorState × AnchorOut) (h : Host → Host × List Send) → AnchorStays f → ((y : Host) → HostStays y (h y)) → (o : Option Named) → IsSecond x s
      → AtSecond (second_data s f h o)
  by_data s f h anchors hosts None is = idle s is
  by_data s f h anchors hosts (Some (id, g)) is =
      either AtSecond (is_fed_of g (held id s.anchors)) (on_fed s id f (held id s.anchors)) (on_second_host s id h (held id s.hosts))
      (by_fed s id f anchors (held id s.anchors) (anchor_here s id is) is) (by_host s id h hosts (held id s.hosts) (held_so (IsHostAt x) id s.hosts is.hosts) is)

  by_control : (c : Choices) (s : SecondNode) (f : Flight) → IsSecond x s → AtSecond (second_control c s f)
  by_control c s (flight.Ctl r) is = by_record c s r (is_fit s r) is
  by_control c s (flight.Air id g num tag pdu) is = idle s is
  by_control c s (flight.Ack id g num) is = idle s is
  by_control c s (flight.Tun tag packet) is = idle s is
  by_control c s (flight.Sdu id g payload) is = idle s is
  by_control c s (flight.End id g) is = idle s is
  by_control c s (flight.Told id g count) is = idle s is

  by_class : (c : Choices) (s : SecondNode) (f : Flight) (k : Class) → IsSecond x s → AtSecond (second_takes c s f k)
  by_class c s f Ctl is = by_control c s f is
  by_class c s f Feed is = by_line c s f is
  by_class c s f Air is = by_data s (λ a. air_in a cell.Scg f) (λ h. host_air_in h f) (λ a. air_stays a cell.Scg f) (λ h. host_air_stays h f) (flight_named f) is
  by_class c s f Tun is = by_data s (λ a. tunnel_in c a f) (λ h. host_tunnel_in h f) (λ a. tunnel_stays c a f) (λ h. host_tunnel_stays h f) (flight_named f) is

  -- ---- its events

  answered : (done : SecondNode × Effects) → AtSecond done → FromSecond x (accepted done)
  answered done at = record { so = at.so; by = at.by }

  by_commanded : (c : Choices) (s : SecondNode) (r : Result SecondActs ProcFault) → TakesBusy s.proc r → IsSecond x s → FromSecond x (second_commanded c s r)
  by_commanded c s (Ok r) busy is = answered (second_does c [] s r) (by_does c [] s r busy.0 is)
  by_commanded c s (Err (refused why)) busy is = record { so = is; by = tt }
  by_commanded c s (Err (unexpected k)) busy is = record { so = is; by = tt }

  by_command : (c : Choices) (s : SecondNode) (e : Event) → IsSecond x s → FromSecond x (second_commanded c s (second_commands_unless s.proc e (first_refusal (second_refusals s.proc e))))
  by_command c s e is =
      let o = first_refusal (second_refusals s.proc e) in by_commanded c s (second_commands_unless s.proc e o) (unless_busy s.proc e o) is

  by_report : (c : Choices) (s : SecondNode) (id : ℕ) (o : Option Active) → IsSecond x s → FromSecond x (second_report c s id o)
  by_report c s id None is = record { so = is; by = tt }
  by_report c s id (Some a) is = answered (on_fed s id (report c) (held id s.anchors)) (by_fed s id (report c) (report_stays c) (held id s.anchors) (anchor_here s id is) is)

  by_nothing : (s : SecondNode) → IsSecond x s → FromSecond x (accepted (s, quiet))
  by_nothing s is = record { so = is; by = tt }

  by_event : (c : Choices) (s : SecondNode) (e : Event) → IsSecond x s → FromSecond x (second_event c s e)
  by_event c s (event.Report node id) is = by_report c s id (active_at s id) is
  by_event c s (event.Deny node on) is = by_command c s (event.Deny node on) is
  by_event c s (event.Ask node what) is = by_command c s (event.Ask node what) is
  by_event c s (event.Bearer id n first shape threshold policy) is = by_nothing s is
  by_event c s (event.Reshape id shape) is = by_nothing s is
  by_event c s (event.Remove id) is = by_nothing s is
  by_event c s (event.Add node) is = by_nothing s is
  by_event c s event.Change is = by_nothing s is
  by_event c s event.Release is = by_nothing s is
  by_event c s event.RekeySecond is = by_nothing s is
  by_event c s (event.RekeyMaster root) is = by_nothing s is
  by_event c s (event.Recover id) is = by_nothing s is
  by_event c s event.ScgFail is = by_nothing s is
  by_event c s (event.Submit id d payload) is = by_nothing s is
  by_event c s (event.Step l i) is = by_nothing s is
  by_event c s (event.Lose l i) is = by_nothing s is
  by_event c s (event.Again l i) is = by_nothing s is

  -- whatever comes: what the node holds is its own, and all that it sends begins there
  pub second_sends : (c : Choices) (s : SecondNode) (i : Input) → IsSecond x s → FromSecond x (second_step c s i)
  second_sends c s (Cmd e) is = by_event c s e is
  second_sends c s (Come l f) is = let at = by_class c s f l.class is in record { so = at.so; by = at.by }
