-- The master's procedures carry out what they may: plans that were drawn, of generations that ascend.
use Rattle.std.proofs.Common.{ℕ, ◌≡◌, ◌++◌, ◌+◌, ◌==◌, true, false, Bool, List, [], ◌∷◌, Option, Some, None, Result, Ok, Err, refl, sym, ap, subst, ◌∙◌, inl, inr, arith}
use Rattle.std.specs.Prelude.{fold, length, ⊤}
use Rattle.std.specs.List.{AllByRecursion, list_any}
use Rattle.std.proofs.lemmas.Bool.{and_parts, cases_Bool, eqb-true}
use Rattle.std.proofs.lemmas.List.{append-nil}
use Rattle.dc_base.specs.declared.answers.Refusal.{Refusal}
use Rattle.dc_base.specs.declared.events.Event.{Event}
use Rattle.dc_base.specs.declared.events.Event.TheVariants as event
use Rattle.dc_base.specs.declared.events.Note.TheVariants as note
use Rattle.dc_base.specs.declared.flights.Flight.{Flight}
use Rattle.dc_base.specs.declared.flights.Flight.TheVariants as flight
use Rattle.dc_base.specs.declared.nodes.Cell.TheVariants as cell
use Rattle.dc_base.specs.declared.nodes.Class.{Class}
use Rattle.dc_base.specs.declared.nodes.Class.TheVariants.{Air, Ctl, Feed, Tun}
use Rattle.dc_base.specs.declared.nodes.Node.{Node}
use Rattle.dc_base.specs.declared.nodes.Node.TheVariants.{M, T}
use Rattle.dc_base.specs.declared.records.Plan.{Plan}
use Rattle.pdcp_pdu.specs.Pdu.{Content, decoded}
use Rattle.pdcp_pdu.specs.declared.pdu.PduErr.{PduErr}
use Rattle.nr_u.specs.declared.frame.Frame.{Frame}
use Rattle.claims.specs.Past.{Past}
use Rattle.node_rules.specs.Acts.{ProcFault, first_refusal}
use Rattle.node_rules.specs.Adopting.{status_in}
use Rattle.node_rules.specs.Anchor.{AnchorState, active_anchor, setup_at, silent, waiting_anchor}
use Rattle.node_rules.specs.AnchorReceiving.{air_ack, air_in, air_pdu, delivery_in, is_from_host, is_on_leg, packet_in, relayed_pdu, tunnel_in}
use Rattle.node_rules.specs.Choices.{Choices, Send}
use Rattle.node_rules.specs.Effects.{after_effects, both, in_turn, noted, quiet}
use Rattle.node_rules.specs.Flights.{Named, flight_named, packet_named}
use Rattle.node_rules.specs.Held.{held}
use Rattle.node_rules.specs.Host.{Host}
use Rattle.node_rules.specs.HostRules.{host_tunnel_in}
use Rattle.node_rules.specs.Lines.{lines_of}
use Rattle.node_rules.specs.Master.{MasterNode, anchor_did}
use Rattle.node_rules.specs.MasterCommands.{command_refusals, commands, commands_unless, master_command}
use Rattle.node_rules.specs.MasterPlan.{adopts_if, does, master_did, on_waiting}
use Rattle.node_rules.specs.MasterState.{MasterActs, MasterProc}
use Rattle.node_rules.specs.MasterStep.{commanded, control_taken, data_taken, is_anchor_of, master_event, master_takes, record_taken}
use Rattle.node_rules.specs.MasterTaking.{master_adopted, master_take}
use Rattle.node_rules.specs.Packets.{Packet, delivery, forwarding, nothing, packet_of, pdu_down, pdu_up}
use Rattle.node_rules.specs.Setup.{is_of}
use Rattle.node_rules.specs.declared.acts.Act.{Act}
use Rattle.node_rules.specs.declared.acts.Act.TheVariants.{FailOne as fail_one, Go as go, Pass as pass, Prepare as prepare, RecoverOne as recover_one, Say as say, Send as send, UnlockAll as unlock_all}
use Rattle.node_rules.specs.declared.bearers.AnchorOut.{AnchorOut}
use Rattle.node_rules.specs.declared.commands.Command.{Command}
use Rattle.node_rules.specs.declared.commands.Command.TheVariants.{Asked as asked, Gone as gone, Recovering as recovering}
use Rattle.node_rules.specs.declared.inputs.Effects.{Effects}
use Rattle.node_rules.specs.declared.inputs.Outcome.{Outcome}
use Rattle.run_control.proofs.Sent.{either}
use Rattle.run_control.specs.Sound.{AddsSecond, IsSound}
use Rattle.run_generations.specs.Newer.{fresh_by}
use Rattle.run_senders.specs.Holders.{IfThere}
use Rattle.run_table.specs.Quiet.{Follows, HaveNoPlan}
use Rattle.run_table.specs.SameTable.{Agree, FitsOpen}
use Rattle.run_table.specs.View.{View, view}
use Rattle.run_table.specs.Words.{hears}
use Rattle.run_table.proofs.Views.{hears_answer, hears_event}
use Rattle.run_table.proofs.Steps.{goes_command}
use Rattle.run_table.proofs.Beside.{beside_on, does_follows, follows_after}
use Rattle.run_table.proofs.Procs.{Goes}
use Rattle.run_table.proofs.Procs as procs
use Rattle.run_table.proofs.Quiet.{of_status, of_tunnelled}
use Rattle.run_table.proofs.Records.{TakenIf, goes_adopted, goes_taken}
use Rattle.run_relays.proofs.ActPlans.{ActsFrom, FromIf, adopted_acts, command_acts, taken_acts}
use Rattle.run_relays.proofs.MasterTurn.{ArePlansApart, Stay}
use Rattle.run_relays.proofs.Planned.{RunsOnly}
use Rattle.run_confirmed.specs.Flights.{IsSmallStatus}
use Rattle.run_confirmed.specs.Laid.{AreLow, layout_of}
use Rattle.run_confirmed.specs.Masters.{AdoptsSo, CommandsSo, ControlsSo, Does, MayDo, TakesSo, is_pass, next_of, taken_by}
use Rattle.run_confirmed.specs.Plans.{LaysOut}
use Rattle.run_confirmed.proofs.Going.{GoesOn, IsPast, MayGo, TakesOn, adoption_on, command_on, take_on}
use Rattle.run_confirmed.proofs.Laid.{AreNamed, laid_out}
use Rattle.run_confirmed.proofs.MasterSteps.{did_same}
use Rattle.run_confirmed.proofs.Planning.{acts_drawn, now}

-- ---- an anchor adopts by what its own forwarding tunnel brings alone

relayed_stays : (a : AnchorState) (x : Result Content PduErr) → (relayed_pdu a x).1.adopted ≡ false
relayed_stays a (Err e) = refl
relayed_stays (waiting_anchor w) (Ok x) = refl
relayed_stays (active_anchor a) (Ok x) = refl

air_pdu_stays : (a : AnchorState) (num : ℕ) (x : Result Content PduErr) → (air_pdu a num x).1.adopted ≡ false
air_pdu_stays a num (Err e) = refl
air_pdu_stays (waiting_anchor w) num (Ok x) = refl
air_pdu_stays (active_anchor a) num (Ok x) = refl

air_ack_stays : (a : AnchorState) (num : ℕ) → (air_ack a num).1.adopted ≡ false
air_ack_stays (waiting_anchor w) num = refl
air_ack_stays (active_anchor a) num = refl

-- by nothing over the air
air_stays : (a : AnchorState) (f : Flight) → (air_in a cell.Mcg f).1.adopted ≡ false
air_stays a (flight.Air id g num tag pdu) =
    either (λ (done : AnchorState × AnchorOut). done.1.adopted ≡ false) (is_on_leg (setup_at a) cell.Mcg id g) (air_pdu a num (decoded (setup_at a).n pdu)) (a, silent) (air_pdu_stays a num (decoded (setup_at a).n pdu)) refl
air_stays a (flight.Ack id g num) =
    either (λ (done : AnchorState × AnchorOut). done.1.adopted ≡ false) (is_on_leg (setup_at a) cell.Mcg id g) (air_ack a num) (a, silent) (air_ack_stays a num) refl
air_stays a (flight.Tun tag packet) = refl
air_stays a (flight.Sdu id g payload) = refl
air_stays a (flight.End id g) = refl
air_stays a (flight.Told id g count) = refl
air_stays a (flight.Ctl r) = refl

delivery_stays : (c : Choices) (a : AnchorState) (status : Frame) → (delivery_in c a status).1.adopted ≡ false
delivery_stays c (waiting_anchor w) status = refl
delivery_stays c (active_anchor a) status = refl

-- a packet is of the bearer and generation of the anchor
record IsNamedAs (a : AnchorState) (o : Option Named) : Type 0 where
  id : ℕ
  g : ℕ
  named : o ≡ Some (id, g)
  of : is_of (setup_at a) id g ≡ true

packet_adopts : (c : Choices) (a : AnchorState) (p : Packet) → (packet_in c a p).1.adopted ≡ true → IsNamedAs a (packet_named p)
packet_adopts c a (pdu_down id g number repeat pdu) adopted = absurd (let bad : false ≡ true = adopted in cc)
packet_adopts c a (pdu_up id g pdu) adopted =
    let never = either (λ (done : AnchorState × AnchorOut). done.1.adopted ≡ false) (is_from_host (setup_at a) id g) (relayed_pdu a (decoded (setup_at a).n pdu)) (a, silent) (relayed_stays a (decoded (setup_at a).n pdu)) refl in
    absurd (let bad : false ≡ true = sym never ∙ adopted in cc)
packet_adopts c a (delivery id g status) adopted =
    let never = either (λ (done : AnchorState × AnchorOut). done.1.adopted ≡ false) (is_from_host (setup_at a) id g) (delivery_in c a status) (a, silent) (delivery_stays c a status) refl in
    absurd (let bad : false ≡ true = sym never ∙ adopted in cc)
packet_adopts c a (forwarding id g d load) adopted =
    elim (cases_Bool (is_of (setup_at a) id g)) [
      | inl its ↦ record { id = id; g = g; named = refl; of = its }
      | inr other ↦ absurd (let bad : false ≡ true = rw other at adopted in cc)
    ]
packet_adopts c a nothing adopted = absurd (let bad : false ≡ true = adopted in cc)

tunnel_adopts : (c : Choices) (a : AnchorState) (f : Flight) → (tunnel_in c a f).1.adopted ≡ true → IsNamedAs a (flight_named f)
tunnel_adopts c a (flight.Tun tag packet) adopted = packet_adopts c a (packet_of packet) adopted
tunnel_adopts c a (flight.Air id g num tag pdu) adopted = absurd (let bad : false ≡ true = adopted in cc)
tunnel_adopts c a (flight.Ack id g num) adopted = absurd (let bad : false ≡ true = adopted in cc)
tunnel_adopts c a (flight.Sdu id g payload) adopted = absurd (let bad : false ≡ true = adopted in cc)
tunnel_adopts c a (flight.End id g) adopted = absurd (let bad : false ≡ true = adopted in cc)
tunnel_adopts c a (flight.Told id g count) adopted = absurd (let bad : false ≡ true = adopted in cc)
tunnel_adopts c a (flight.Ctl r) adopted = absurd (let bad : false ≡ true = adopted in cc)

-- a plan that was carried out was drawn last
owed_past : {v : View} (m : MasterNode) → Agree v m.proc → IsPast (next_of m.proc) m.proc.command
owed_past m agree = by m.proc.command (agree.sound.open_fits)
  where
    by : (o : Option Command) → FitsOpen m.proc.table o → IsPast (fresh_by T m.proc.table.last o) o
    by None fits = tt
    by (Some (asked c first who wanted)) fits = tt
    by (Some (gone p w)) fits = omega (arith, fits)
    by (Some (recovering id terminal second)) fits = tt

-- a record has a COUNT of 32 bits
abbrev pub IsSmallFlight : Flight → Type 0
IsSmallFlight (flight.Ctl r) = IsSmallStatus r
IsSmallFlight _ = ⊤

-- ---- acts

pass_same : (a : Act) → procs.is_pass a ≡ is_pass a
pass_same (send to r) = refl
pass_same (prepare p) = refl
pass_same (go p) = refl
pass_same (unlock_all g) = refl
pass_same (say n) = refl
pass_same (recover_one id) = refl
pass_same (fail_one id g) = refl
pass_same (pass status) = refl

none_passed : (acts : List Act) → list_any procs.is_pass acts ≡ false → AllByRecursion (λ (a : Act). is_pass a ≡ false) acts
none_passed [] none = tt
none_passed (a ∷ acts) none =
    elim (cases_Bool (procs.is_pass a)) [
      | inl yes' ↦ absurd (let bad : true ≡ false = rw yes' at none in cc)
      | inr no' ↦ (sym (pass_same a) ∙ no', none_passed acts (rw no' at none))
    ]

module _ (plans : List Plan) where
  -- an act is of a plan that lays bearers out so
  abbrev ActLaid : Act → Type 0
  ActLaid (prepare p) = LaysOut (layout_of plans) p
  ActLaid (go p) = LaysOut (layout_of plans) p
  ActLaid (send to r) = ⊤
  ActLaid (unlock_all g) = ⊤
  ActLaid (say n) = ⊤
  ActLaid (recover_one id) = ⊤
  ActLaid (fail_one id g) = ⊤
  ActLaid (pass status) = ⊤

  may_do : (k from below : ℕ) (acts : List Act) → MayGo k from acts below → AllByRecursion ActLaid acts → MayDo (layout_of plans) from acts below
  may_do k from below [] may laid = may
  may_do k from below (send to r ∷ acts) may laid = (may.0, may_do k from below acts may.1 laid.1)
  may_do k from below (prepare p ∷ acts) may laid = (may.0, laid.0, may_do k from below acts may.1 laid.1)
  may_do k from below (go p ∷ acts) may laid = (may.0, laid.0, may_do k (p.g + 1) below acts may.1 laid.1)
  may_do k from below (unlock_all g ∷ acts) may laid = may_do k from below acts may laid.1
  may_do k from below (say n ∷ acts) may laid = may_do k from below acts may laid.1
  may_do k from below (recover_one id ∷ acts) may laid = may_do k from below acts may laid.1
  may_do k from below (fail_one id g ∷ acts) may laid = may_do k from below acts may laid.1
  may_do k from below (pass status ∷ acts) may laid = may_do k from below acts may.2 laid.1

  module _ (named : AreNamed plans) (low : AreLow plans) where
    act_laid : (ps : List Plan) → Stay ps plans → (a : Act) → RunsOnly ps a → ActLaid a
    act_laid ps stay (prepare p) runs = laid_out plans named low p (stay p.g p runs.0, runs.1)
    act_laid ps stay (go p) runs = laid_out plans named low p (stay p.g p runs.0, runs.1)
    act_laid ps stay (send to r) runs = tt
    act_laid ps stay (unlock_all g) runs = tt
    act_laid ps stay (say n) runs = tt
    act_laid ps stay (recover_one id) runs = tt
    act_laid ps stay (fail_one id g) runs = tt
    act_laid ps stay (pass status) runs = tt

    acts_laid : (ps : List Plan) → Stay ps plans → (acts : List Act) → AllByRecursion (RunsOnly ps) acts → AllByRecursion ActLaid acts
    acts_laid ps stay [] runs = tt
    acts_laid ps stay (a ∷ acts) runs = (act_laid ps stay a runs.0, acts_laid ps stay acts runs.1)

    module _ (c : Choices) (v : View) where
      -- the plans of the view after these effects are of bearers apart, and are among these
      pub record AreKept (x : Effects) : Type 0 where
        pub apart : ArePlansApart (now v x).plans
        pub stay : Stay (now v x).plans plans

      -- a step of the procedures
      pub does_so : (k : ℕ) (m : MasterProc) (r : MasterActs) → GoesOn k (next_of m) r → Goes v r → ActsFrom r → (done : MasterNode × Effects)
          → Follows r done → AreKept done.1
          → Does (layout_of plans) m r
      does_so k m r on g from done f kept =
          may_do k (next_of m) (next_of r.0) r.1 on (acts_laid (now v done.1).plans kept.stay r.1 (acts_drawn v r g from done f kept.apart))

      -- an adoption
      adopts_so : (m : MasterNode) → Agree v m.proc → (id : ℕ) (f : AnchorState → AnchorState × AnchorOut) → ((a : AnchorState) → HaveNoPlan (f a).1.sends)
          → (o : Option AnchorState) → AreKept (on_waiting c m id f o).1
          → AdoptsSo (layout_of plans) m.proc f id o
      adopts_so m agree id f none None kept = tt
      adopts_so m agree id f none (Some a) kept = λ adopted.
          let done = anchor_did m id (f a) in
          let g = (setup_at a).g in
          let beside = beside_on m id f none (Some a) in
          let own : Effects = both (noted (note.Own M id g)) done.1 in
          let r = master_adopted done.0.proc id in
          let whole = after_effects own (does c done.0 r) in
          let here : AreKept whole.1 = subst (λ (b : Bool). AreKept (adopts_if c id g b done).1) adopted kept in
          let follows = follows_after own r (does c done.0 r) (record { notes = beside.quiet.notes; sends = beside.quiet.sends }) (does_follows c done.0 r) in
          let same : master_adopted done.0.proc id ≡ master_adopted m.proc id = ap (λ (q : MasterProc). master_adopted q id) beside.proc in
          does_so (next_of m.proc) m.proc (master_adopted m.proc id) (adoption_on (next_of m.proc) m.proc id) (goes_adopted v m.proc agree id) (adopted_acts m.proc id) whole
          (subst (λ (y : MasterActs). Follows y whole) same follows) here

      both_none : (x : Effects) → both x quiet ≡ x
      both_none x = ap (λ ns. record { notes = ns; sends = x.sends ++ [] }) (append-nil x.notes) ∙ ap (λ ss. record { notes = x.notes; sends = ss }) (append-nil x.sends)

      -- a record
      pub taken_so : (m : MasterNode) → Agree v m.proc → (r : Result MasterActs ProcFault) → TakenIf v m.proc r → FromIf r
          → TakesOn (next_of m.proc) (next_of m.proc) r
          → AreKept (record_taken c m r).1
          → TakesSo (layout_of plans) c m r
      taken_so m agree (Err why) taken from on kept = tt
      taken_so m agree (Ok r) (inl g) from on kept =
          let plain = none_passed r.1 g.speaks.no_pass in
          let same = did_same (layout_of plans) c (record m { proc = r.0 }) r.1 plain in
          inl (plain, does_so (next_of m.proc) m.proc r on g from (does c m r) (does_follows c m r) (subst (λ (x : MasterNode × Effects). AreKept x.1) same kept))
      taken_so m agree (Ok r) (inr p) from on kept =
          let st = p.status in
          let f : AnchorState → AnchorState × AnchorOut = λ a. status_in c a st in
          let here = on_waiting c m st.id f (held st.id m.anchors) in
          let whole : (y : MasterActs) → MasterNode × Effects = λ y. in_turn (master_did c) (record m { proc = y.0 }) y.1 in
          let may = subst (λ (y : MasterActs). GoesOn (next_of m.proc) (next_of m.proc) y) p.is on in
          let at : AreKept (both here.1 quiet) = subst (λ (y : MasterActs). AreKept (whole y).1) p.is kept in
          let adopts = adopts_so m agree st.id f (λ a. of_status c a st) (held st.id m.anchors) (subst AreKept (both_none here.1) at) in
          subst (λ (y : MasterActs). TakesSo (layout_of plans) c m (Ok y)) (sym p.is)
          (inr (record { status = st; acts = refl; small = may.0; older = may.1; rises = may.2; adopts = adopts }))

      -- a flight of user data
      anchor_named : (m : MasterNode) (id i g : ℕ) (a : AnchorState) → held id m.anchors ≡ Some a → (setup_at a).id ≡ id → is_of (setup_at a) i g ≡ true
          → (i ≡ id) × (is_anchor_of g (held id m.anchors) ≡ true)
      anchor_named m id i g a there same its =
          let parts = and_parts ((setup_at a).id == i) ((setup_at a).g == g) its in
          (sym (eqb-true (setup_at a).id i parts.0) ∙ same, ap (is_anchor_of g) there ∙ parts.1)

      tunnel_so : (m : MasterNode) → Agree v m.proc → (f : Flight) (h : Host → Host × List Send) → (id : ℕ)
          → IfThere (λ (a : AnchorState). (setup_at a).id ≡ id) (held id m.anchors)
          → ((a : AnchorState) → HaveNoPlan (tunnel_in c a f).1.sends)
          → AreKept (data_taken c m (λ a. tunnel_in c a f) h (flight_named f)).1
          → AdoptsSo (layout_of plans) m.proc (λ a. tunnel_in c a f) id (held id m.anchors)
      tunnel_so m agree f h id own none kept = by (held id m.anchors) refl own
        where
          by : (o : Option AnchorState) → held id m.anchors ≡ o → IfThere (λ (a : AnchorState). (setup_at a).id ≡ id) o
              → AdoptsSo (layout_of plans) m.proc (λ a. tunnel_in c a f) id o
          by None there own = tt
          by (Some a) there own = λ adopted.
              let is = tunnel_adopts c a f adopted in
              let both' = anchor_named m id is.id is.g a there own is.of in
              let kept' = subst (λ (o : Option Named). AreKept (data_taken c m (λ a. tunnel_in c a f) h o).1) is.named kept in
              let kept'' = subst (λ (j : ℕ). AreKept (data_taken c m (λ a. tunnel_in c a f) h (Some (j, is.g))).1) both'.0 kept' in
              let at : AreKept (on_waiting c m id (λ a. tunnel_in c a f) (held id m.anchors)).1 = rw both'.1 at kept'' in
              (adopts_so m agree id (λ a. tunnel_in c a f) none (Some a) (subst (λ (o : Option AnchorState). AreKept (on_waiting c m id (λ a. tunnel_in c a f) o).1) there at)) adopted

      -- whatever flight comes
      never : (m : MasterNode) (f : AnchorState → AnchorState × AnchorOut) (id : ℕ) → ((a : AnchorState) → (f a).1.adopted ≡ false) → (o : Option AnchorState)
          → AdoptsSo (layout_of plans) m.proc f id o
      never m f id none None = tt
      never m f id none (Some a) = λ adopted. absurd (let bad : false ≡ true = sym (none a) ∙ adopted in cc)

      pub adopts_by : (m : MasterNode) → Agree v m.proc → (from : Node) (f : Flight) (k : Class)
          → ((id : ℕ) → IfThere (λ (a : AnchorState). (setup_at a).id ≡ id) (held id m.anchors))
          → AreKept (master_takes c m from f k).1
          → (id : ℕ) → AdoptsSo (layout_of plans) m.proc (taken_by c k f) id (held id m.anchors)
      adopts_by m agree from f Air own kept = λ id. never m (taken_by c Air f) id (λ a. air_stays a f) (held id m.anchors)
      adopts_by m agree from f Ctl own kept = λ id. never m (taken_by c Ctl f) id (λ a. refl) (held id m.anchors)
      adopts_by m agree from f Feed own kept = λ id. never m (taken_by c Feed f) id (λ a. refl) (held id m.anchors)
      adopts_by m agree from f Tun own kept = λ id. tunnel_so m agree f (λ h. host_tunnel_in h f) id (own id) (λ a. of_tunnelled c a f) kept

      controls : (m : MasterNode) → Agree v m.proc → (from : Node) (f : Flight) → IsSound m.proc → IsSmallFlight f → AreKept (control_taken c m from f).1
          → ControlsSo (layout_of plans) c m from f
      controls m agree from (flight.Ctl r) owed small kept =
          taken_so m agree (master_take from m.proc r) (goes_taken v m.proc agree from r) (taken_acts from m.proc r) (take_on (next_of m.proc) from m.proc r owed agree.sound.open_fits (owed_past m agree) small) kept
      controls m agree from (flight.Air id g num tag pdu) owed small kept = tt
      controls m agree from (flight.Ack id g num) owed small kept = tt
      controls m agree from (flight.Tun tag packet) owed small kept = tt
      controls m agree from (flight.Sdu id g payload) owed small kept = tt
      controls m agree from (flight.End id g) owed small kept = tt
      controls m agree from (flight.Told id g count) owed small kept = tt

      pub controls_by : (m : MasterNode) → Agree v m.proc → (from : Node) (f : Flight) (k : Class) → IsSound m.proc → IsSmallFlight f
          → AreKept (master_takes c m from f k).1
          → k ≡ Ctl → ControlsSo (layout_of plans) c m from f
      controls_by m agree from f Ctl owed small kept = λ same. controls m agree from f owed small kept
      controls_by m agree from f Air owed small kept = λ same. absurd (let bad : Air ≡ Ctl = same in cc)
      controls_by m agree from f Feed owed small kept = λ same. absurd (let bad : Feed ≡ Ctl = same in cc)
      controls_by m agree from f Tun owed small kept = λ same. absurd (let bad : Tun ≡ Ctl = same in cc)

    -- ---- a command

    module _ (c : Choices) (p : Past) where
      -- the plans after this outcome of an event are of bearers apart, and are among these
      pub record IsKeptAfter (e : Event) (o : Outcome) : Type 0 where
        pub apart : ArePlansApart (fold hears (hears_answer p e o.answer (view p)) (lines_of o)).plans
        pub stay : Stay (fold hears (hears_answer p e o.answer (view p)) (lines_of o)).plans plans

      by_command : (m : MasterNode) (e : Event) (o : Option Refusal) → (o ≡ None → Goes (hears_event p e (view p)) (commands m.proc e))
          → TakesOn (next_of m.proc) (next_of m.proc) (commands_unless m.proc e o)
          → IsKeptAfter e (commanded c m (commands_unless m.proc e o)).1
          → CommandsSo (layout_of plans) m.proc (commands_unless m.proc e o)
      by_command m e None goes on kept =
          let r = commands m.proc e in
          does_so c (hears_event p e (view p)) (next_of m.proc) m.proc r on (goes refl) (command_acts m.proc e) (does c m r) (does_follows c m r) (record { apart = kept.apart; stay = kept.stay })
      by_command m e (Some why) goes on kept = tt

      pub command_so : (m : MasterNode) → Agree (view p) m.proc → (e : Event) → AddsSecond e → IsKeptAfter e (master_event c m e).1
          → CommandsSo (layout_of plans) m.proc (master_command (length c.policies) m.proc e)
      command_so m agree (event.Bearer id n first shape threshold policy) names kept =
          let e = event.Bearer id n first shape threshold policy in
          by_command m e (first_refusal (command_refusals (length c.policies) m.proc e)) (goes_command (length c.policies) p (view p) m.proc e names agree) (command_on (next_of m.proc) (length c.policies) m.proc e) kept
      command_so m agree (event.Reshape id shape) names kept =
          let e = event.Reshape id shape in
          by_command m e (first_refusal (command_refusals (length c.policies) m.proc e)) (goes_command (length c.policies) p (view p) m.proc e names agree) (command_on (next_of m.proc) (length c.policies) m.proc e) kept
      command_so m agree (event.Remove id) names kept =
          let e = event.Remove id in
          by_command m e (first_refusal (command_refusals (length c.policies) m.proc e)) (goes_command (length c.policies) p (view p) m.proc e names agree) (command_on (next_of m.proc) (length c.policies) m.proc e) kept
      command_so m agree (event.Add node) names kept =
          let e = event.Add node in
          by_command m e (first_refusal (command_refusals (length c.policies) m.proc e)) (goes_command (length c.policies) p (view p) m.proc e names agree) (command_on (next_of m.proc) (length c.policies) m.proc e) kept
      command_so m agree event.Change names kept =
          let e = event.Change in
          by_command m e (first_refusal (command_refusals (length c.policies) m.proc e)) (goes_command (length c.policies) p (view p) m.proc e names agree) (command_on (next_of m.proc) (length c.policies) m.proc e) kept
      command_so m agree event.Release names kept =
          let e = event.Release in
          by_command m e (first_refusal (command_refusals (length c.policies) m.proc e)) (goes_command (length c.policies) p (view p) m.proc e names agree) (command_on (next_of m.proc) (length c.policies) m.proc e) kept
      command_so m agree event.RekeySecond names kept =
          let e = event.RekeySecond in
          by_command m e (first_refusal (command_refusals (length c.policies) m.proc e)) (goes_command (length c.policies) p (view p) m.proc e names agree) (command_on (next_of m.proc) (length c.policies) m.proc e) kept
      command_so m agree (event.RekeyMaster root) names kept =
          let e = event.RekeyMaster root in
          by_command m e (first_refusal (command_refusals (length c.policies) m.proc e)) (goes_command (length c.policies) p (view p) m.proc e names agree) (command_on (next_of m.proc) (length c.policies) m.proc e) kept
      command_so m agree (event.Recover id) names kept =
          let e = event.Recover id in
          by_command m e (first_refusal (command_refusals (length c.policies) m.proc e)) (goes_command (length c.policies) p (view p) m.proc e names agree) (command_on (next_of m.proc) (length c.policies) m.proc e) kept
      command_so m agree (event.Report node id) names kept = command_on (next_of m.proc) (length c.policies) m.proc (event.Report node id)
      command_so m agree (event.Deny node on) names kept = command_on (next_of m.proc) (length c.policies) m.proc (event.Deny node on)
      command_so m agree (event.Ask node what) names kept = command_on (next_of m.proc) (length c.policies) m.proc (event.Ask node what)
      command_so m agree event.ScgFail names kept = command_on (next_of m.proc) (length c.policies) m.proc event.ScgFail
      command_so m agree (event.Submit id d payload) names kept = command_on (next_of m.proc) (length c.policies) m.proc (event.Submit id d payload)
      command_so m agree (event.Step l i) names kept = command_on (next_of m.proc) (length c.policies) m.proc (event.Step l i)
      command_so m agree (event.Lose l i) names kept = command_on (next_of m.proc) (length c.policies) m.proc (event.Lose l i)
      command_so m agree (event.Again l i) names kept = command_on (next_of m.proc) (length c.policies) m.proc (event.Again l i)
