-- How an anchor becomes active in a step of a secondary node: by an item of a plan, by the status transfer that it waits for, or by the
-- last that it waits for.
use Rattle.std.proofs.Common.{ℕ, ◌≡◌, ◌∙◌, Bool, true, false, List, [], ◌∷◌, Option, Some, None, refl, sym, ap, subst}
use Rattle.std.specs.List.{AllByRecursion}
use Rattle.std.specs.Prelude.{Err, Ok, Result, is_some, nat_lt}
use Rattle.dc_base.specs.Records.{item_id}
use Rattle.dc_base.specs.declared.events.Event.{Event}
use Rattle.dc_base.specs.declared.events.Event.TheVariants as event
use Rattle.dc_base.specs.declared.flights.Flight.{Flight}
use Rattle.dc_base.specs.declared.flights.Flight.TheVariants as flight
use Rattle.dc_base.specs.declared.nodes.Cell.TheVariants as cell
use Rattle.dc_base.specs.declared.nodes.Class.{Class}
use Rattle.dc_base.specs.declared.nodes.Class.TheVariants.{Air, Ctl, Feed, Tun}
use Rattle.dc_base.specs.declared.nodes.LinkId.{LinkId}
use Rattle.dc_base.specs.declared.records.Item.{Item}
use Rattle.dc_base.specs.declared.records.Plan.{Plan}
use Rattle.dc_base.specs.declared.records.Rec.{Rec}
use Rattle.dc_base.specs.declared.records.Rec.TheVariants as rec
use Rattle.dc_base.specs.declared.records.StatusTransfer.{StatusTransfer}
use Rattle.transcript.proofs.OnEach.{each_append}
use Rattle.node_rules.specs.Acts.{ProcFault, first_refusal}
use Rattle.dc_base.specs.declared.answers.Refusal.{Refusal}
use Rattle.node_rules.specs.Adopting.{status_in}
use Rattle.node_rules.specs.Anchor.{Active, AnchorState, active_anchor, setup_at, silent, waiting_anchor}
use Rattle.node_rules.specs.AnchorReceiving.{air_in, tunnel_in}
use Rattle.node_rules.specs.AnchorSending.{report, submit}
use Rattle.node_rules.specs.Choices.{Choices, Send}
use Rattle.node_rules.specs.Effects.{in_turn}
use Rattle.node_rules.specs.Feed.{Fed, Frozen, sdu_in}
use Rattle.node_rules.specs.Flights.{Named, flight_named}
use Rattle.node_rules.specs.Held.{held}
use Rattle.node_rules.specs.Host.{Host}
use Rattle.node_rules.specs.HostRules.{host_air_in, host_tunnel_in}
use Rattle.node_rules.specs.Parts.{part_at}
use Rattle.node_rules.specs.SecondPlan.{second_act, second_does}
use Rattle.node_rules.specs.SecondRecords.{second_take}
use Rattle.node_rules.specs.SecondState.{SecondActs, second_commands, second_commands_unless, second_refusals}
use Rattle.node_rules.specs.SecondStep.{fed_ended, fed_took, frozen_ended, frozen_took, is_before_change, is_fit, key_in, on_second_host, plan_in, second_commanded, second_control, second_data, second_event, second_line, second_record, second_record_taken, second_report, second_step, second_takes}
use Rattle.node_rules.specs.Secondary.{SecondNode, active_at, is_fed_of, name_of, on_fed, within}
use Rattle.node_rules.specs.declared.acts.Act.TheVariants.{Go as go, Pass as pass}
use Rattle.node_rules.specs.declared.bearers.AnchorOut.{AnchorOut}
use Rattle.node_rules.specs.declared.commands.Membership.{Membership}
use Rattle.node_rules.specs.declared.commands.Membership.TheVariants.{Joined as joined, Left as left, Outside as outside}
use Rattle.node_rules.specs.declared.inputs.Effects.{Effects}
use Rattle.node_rules.specs.declared.inputs.Input.{Input}
use Rattle.node_rules.specs.declared.inputs.Input.TheVariants.{Cmd, Come}
use Rattle.run_control.proofs.Arrivals.{air_keeps, status_is, tunnel_is}
use Rattle.run_control.specs.Steps.{record_in, record_on}
use Rattle.run_control.specs.Traffic.{OnStatus, OnTraffic, adopts, adopts_at_once, keeps, notes, passes}
use Rattle.run_control.specs.Views.{View, has_status, is_awaited, second_view, view_of}
use Rattle.std.specs.Option.{option_map}
use Rattle.run_places.proofs.SecondTakes.{Took, TookBy, took, took_plan, took_quietly, took_status}
use Rattle.run_holders.proofs.AnchorSteps.{either, report_stays, submit_stays}
use Rattle.run_holders.proofs.SecondTelling.{AnswersBeside, SaysBeside, take_says}
use Rattle.run_holders.proofs.SecondWellActs.{AreOwn, ActOwns, IsAmong, ItemOwns, OwnBy, does_own, each_item, effects_own, front_beside, is_active_part, no_adoption, on_fed_walks, quiets_own, stays_walk}

-- how an anchor becomes active in a step of the node, by which this is to hold
pub record OwnsBy (P : ℕ → ℕ → Type 0) (s : SecondNode) (i : Input) : Type 0 where
  -- by an item of the plan of the record
  pub plan : (r : Rec) (q : Plan) (it : Item) → record_in i ≡ Some r → is_fit s r ≡ true → plan_in r ≡ Some q → IsAmong it q.items
      → is_active_part (part_at (name_of s) q.sec it) ≡ true → P (item_id it) q.g
  -- by the status transfer that it waits for
  pub status : (st : StatusTransfer) (v : View) → record_in i ≡ Some (rec.Snst st) → second_view s st.id ≡ Some v → is_awaited st v ≡ true → P st.id v.bearer.g
  -- by the last that it waits for, once it has the status transfer
  pub rest : (id : ℕ) (v : View) → second_view s id ≡ Some v → v.stage ≡ has_status → P id v.bearer.g

module _ (P : ℕ → ℕ → Type 0) where
  -- ---- a step

  setup_g : (a : AnchorState) → (setup_at a).g ≡ (view_of a).bearer.g
  setup_g (active_anchor a) = refl
  setup_g (waiting_anchor w) = refl

  module _ (c : Choices) (s : SecondNode) (i : Input) (owns : OwnsBy P s i) where
    held_view : (id : ℕ) (x : Fed) → held id s.anchors ≡ Some x → second_view s id ≡ Some (view_of x.anchor)
    held_view id x at = ap (λ (o : Option Fed). option_map (λ (z : Fed). view_of z.anchor) o) at

    -- a status transfer is passed on
    by_status : (st : StatusTransfer) → record_in i ≡ Some (rec.Snst st) → (x : Fed) → held st.id s.anchors ≡ Some x → (done : AnchorState × AnchorOut)
        → OnStatus st x.anchor done → done.1.adopted ≡ true → P st.id (setup_at done.0).g
    by_status st came x at done (passes other is) adopted = no_adoption P done.1.adopted is.stays adopted
    by_status st came x at done (notes awaited stays view sends) adopted = no_adoption P done.1.adopted stays adopted
    by_status st came x at done (adopts_at_once awaited adopted' view sends) adopted =
        subst (λ g. P st.id g) (sym (setup_g done.0 ∙ ap (λ (v : View). v.bearer.g) view))
        (owns.status st (view_of x.anchor) came (held_view st.id x at) awaited)

    pass_own : (st : StatusTransfer) → record_in i ≡ Some (rec.Snst st) → (n : SecondNode)
        → ((x : Fed) → held st.id n.anchors ≡ Some x → held st.id s.anchors ≡ Some x) → AreOwn P (in_turn (second_act c []) n (pass st ∷ [])).1.notes
    pass_own st came n there =
        each_append (OwnBy P) (on_fed n st.id (λ a. status_in c a st) (held st.id n.anchors)).1.notes []
        (on_fed_walks P n st.id (λ a. status_in c a st) (held st.id n.anchors)
        (λ x at adopted. by_status st came x (there x at) (status_in c x.anchor st) (status_is c x.anchor st) adopted)).own tt

    -- what a record has the node do
    does_by : (r : Rec) → record_in i ≡ Some r → is_fit s r ≡ true → (acts : SecondActs) → acts.0.me ≡ s.proc.me → AllByRecursion SaysBeside acts.1
        → Took r acts.1 → AreOwn P (second_does c (key_in r) s acts).1.notes
    does_by r came fit acts me beside (took_quietly all unagreed) = does_own P c (key_in r) s acts (quiets_own P acts.0.me acts.1 all beside)
    does_by r came fit acts me beside (took_plan p plan front all acts_are) =
        let before = front_beside P front (go p ∷ []) (subst (AllByRecursion SaysBeside) acts_are beside) in
        let item = λ (it : Item) (among : IsAmong it p.items) (active : is_active_part (part_at acts.0.me p.sec it) ≡ true).
        owns.plan r p it came fit plan among (subst (λ z. is_active_part (part_at z p.sec it) ≡ true) me active) in
        does_own P c (key_in r) s acts
        (subst (AllByRecursion (ActOwns P acts.0.me)) (sym acts_are)
        (each_append (ActOwns P acts.0.me) front (go p ∷ []) (quiets_own P acts.0.me front all before)
        (each_item P (ItemOwns P acts.0.me p) p.items item, tt)))
    does_by r came fit acts me beside (took_status st is acts_are) =
        subst (λ done. AreOwn P (in_turn (second_act c (key_in r)) (within acts.0.membership (record s { proc = acts.0 })) done).1.notes) (sym acts_are)
        (subst (λ q. AreOwn P (in_turn (second_act c (key_in q)) (within acts.0.membership (record s { proc = acts.0 })) (pass st ∷ [])).1.notes) (sym is)
        (pass_own st (came ∙ ap (λ z. Some z) is) (within acts.0.membership (record s { proc = acts.0 })) (there acts.0.membership)))
      where
        there : (m : Membership) (x : Fed) → held st.id (within m (record s { proc = acts.0 })).anchors ≡ Some x → held st.id s.anchors ≡ Some x
        there outside x at = absurd (let bad : None ≡ Some x = at in cc)
        there joined x at = at
        there left x at = at

    taken_own : (r : Rec) → record_in i ≡ Some r → is_fit s r ≡ true → (t : Result SecondActs ProcFault) → AnswersBeside s.proc t → TookBy r t
        → AreOwn P (second_record_taken c (key_in r) s t).1.notes
    taken_own r came fit (Ok acts) says it = does_by r came fit acts says.0 says.1 it
    taken_own r came fit (Err why) says it = tt

    record_own : (r : Rec) → record_in i ≡ Some r → AreOwn P (second_record c s r (is_fit s r)).1.notes
    record_own r came = by (is_fit s r) refl
      where
        by : (b : Bool) → is_fit s r ≡ b → AreOwn P (second_record c s r b).1.notes
        by true fit = taken_own r came fit (second_take s.proc r) (take_says s.proc r) (took s.proc r)
        by false unfit = tt

    -- traffic
    by_rest : (id : ℕ) (x : Fed) → held id s.anchors ≡ Some x → (done : AnchorState × AnchorOut) → OnTraffic x.anchor done → done.1.adopted ≡ true
        → P id (setup_at done.0).g
    by_rest id x at done (keeps stays view sends) adopted = no_adoption P done.1.adopted stays adopted
    by_rest id x at done (adopts adopted' had view sends) adopted =
        subst (λ g. P id g) (sym (setup_g done.0 ∙ ap (λ (v : View). v.bearer.g) view)) (owns.rest id (view_of x.anchor) (held_view id x at) had)

    host_own : (id : ℕ) (f : Host → Host × List Send) (o : Option Host) → AreOwn P (on_second_host s id f o).1.notes
    host_own id f None = tt
    host_own id f (Some h) = tt

    data_own : (f : AnchorState → AnchorState × AnchorOut) (h : Host → Host × List Send) → ((a : AnchorState) → OnTraffic a (f a)) → (o : Option Named)
        → AreOwn P (second_data s f h o).1.notes
    data_own f h is None = tt
    data_own f h is (Some (id, g)) =
        either (λ (done : SecondNode × Effects). AreOwn P done.1.notes) (is_fed_of g (held id s.anchors)) (on_fed s id f (held id s.anchors))
        (on_second_host s id h (held id s.hosts))
        (on_fed_walks P s id f (held id s.anchors) (λ x at adopted. by_rest id x at (f x.anchor) (is x.anchor) adopted)).own (host_own id h (held id s.hosts))

    frozen_took_own : (id g : ℕ) (payload : List ℕ) (o : Option Frozen) → AreOwn P (frozen_took s id g payload o).1.notes
    frozen_took_own id g payload None = tt
    frozen_took_own id g payload (Some f) = tt

    frozen_ended_own : (id g : ℕ) (o : Option Frozen) → AreOwn P (frozen_ended s id g o).1.notes
    frozen_ended_own id g None = tt
    frozen_ended_own id g (Some f) = tt

    fed_ended_own : (id g : ℕ) (o : Option Fed) → AreOwn P (fed_ended s id g o).1.notes
    fed_ended_own id g None = tt
    fed_ended_own id g (Some x) = tt

    sdu_stays : (x : Fed) (g : ℕ) (payload : List ℕ) → (sdu_in c x g payload).1.adopted ≡ false
    sdu_stays x g payload =
        either (λ (done : Fed × AnchorOut). done.1.adopted ≡ false) (nat_lt g x.since) (x, silent)
        (let done = submit c x.anchor payload in (record x { anchor = done.0 }, done.1)) refl (submit_stays c x.anchor payload).adopted

    fed_took_own : (id g : ℕ) (payload : List ℕ) (o : Option Fed) → AreOwn P (fed_took c s id g payload o).1.notes
    fed_took_own id g payload None = tt
    fed_took_own id g payload (Some x) =
        effects_own P (name_of s) id (setup_at (sdu_in c x g payload).0.anchor).g (sdu_in c x g payload).1
        (λ adopted. no_adoption P (sdu_in c x g payload).1.adopted (sdu_stays x g payload) adopted)

    line_own : (f : Flight) → AreOwn P (second_line c s f).1.notes
    line_own (flight.Sdu id g payload) =
        either (λ (done : SecondNode × Effects). AreOwn P done.1.notes) (is_before_change g (held id s.frozen)) (frozen_took s id g payload (held id s.frozen))
        (fed_took c s id g payload (held id s.anchors))
        (frozen_took_own id g payload (held id s.frozen)) (fed_took_own id g payload (held id s.anchors))
    line_own (flight.End id g) =
        either (λ (done : SecondNode × Effects). AreOwn P done.1.notes) (is_some (held id s.frozen)) (frozen_ended s id g (held id s.frozen))
        (fed_ended s id g (held id s.anchors))
        (frozen_ended_own id g (held id s.frozen)) (fed_ended_own id g (held id s.anchors))
    line_own (flight.Told id g count) = tt
    line_own (flight.Air id g num tag pdu) = tt
    line_own (flight.Ack id g num) = tt
    line_own (flight.Tun tag packet) = tt
    line_own (flight.Ctl r) = tt

    -- a command
    ordered_own : (e : Event) (o : Option Refusal) → AllByRecursion (ActOwns P (second_commands s.proc e).0.me) (second_commands s.proc e).1
        → AreOwn P (second_commanded c s (second_commands_unless s.proc e o)).1.notes
    ordered_own e None so = does_own P c [] s (second_commands s.proc e) so
    ordered_own e (Some why) so = tt

    report_own : (id : ℕ) (o : Option Active) → AreOwn P (second_report c s id o).1.notes
    report_own id None = tt
    report_own id (Some a) = (stays_walk P s id (report c) (report_stays c) (held id s.anchors)).own

    event_own : (e : Event) → AreOwn P (second_event c s e).1.notes
    event_own (event.Report node id) = report_own id (active_at s id)
    event_own (event.Deny node on) = ordered_own (event.Deny node on) (first_refusal (second_refusals s.proc (event.Deny node on))) tt
    event_own (event.Ask node what) = ordered_own (event.Ask node what) (first_refusal (second_refusals s.proc (event.Ask node what))) (tt, tt)
    event_own (event.Bearer id n first shape threshold policy) = tt
    event_own (event.Reshape id shape) = tt
    event_own (event.Remove id) = tt
    event_own (event.Add node) = tt
    event_own event.Change = tt
    event_own event.Release = tt
    event_own event.RekeySecond = tt
    event_own (event.RekeyMaster root) = tt
    event_own (event.Recover id) = tt
    event_own event.ScgFail = tt
    event_own (event.Submit id d payload) = tt
    event_own (event.Step l k) = tt
    event_own (event.Lose l k) = tt
    event_own (event.Again l k) = tt

    control_own : (f : Flight) → ((r : Rec) → f ≡ flight.Ctl r → record_in i ≡ Some r) → AreOwn P (second_control c s f).1.notes
    control_own (flight.Ctl r) came = record_own r (came r refl)
    control_own (flight.Air id g num tag pdu) came = tt
    control_own (flight.Ack id g num) came = tt
    control_own (flight.Tun tag packet) came = tt
    control_own (flight.Sdu id g payload) came = tt
    control_own (flight.End id g) came = tt
    control_own (flight.Told id g count) came = tt

    class_own : (f : Flight) (k : Class) → (k ≡ Ctl → (r : Rec) → f ≡ flight.Ctl r → record_in i ≡ Some r) → AreOwn P (second_takes c s f k).1.notes
    class_own f Ctl came = control_own f (came refl)
    class_own f Feed came = line_own f
    class_own f Air came = data_own (λ a. air_in a cell.Scg f) (λ h. host_air_in h f) (λ a. air_keeps a cell.Scg f) (flight_named f)
    class_own f Tun came = data_own (λ a. tunnel_in c a f) (λ h. host_tunnel_in h f) (λ a. tunnel_is c a f) (flight_named f)

  record_came : (l : LinkId) (f : Flight) (k : Class) → l.class ≡ k → k ≡ Ctl → (r : Rec) → f ≡ flight.Ctl r → record_in (Come l f) ≡ Some r
  record_came l f k class is r same = ap (λ z. record_on z f) (class ∙ is) ∙ ap (record_on Ctl) same

  -- whatever a secondary node takes, each anchor that it notes as active is such
  pub step_owns : (c : Choices) (s : SecondNode) (i : Input) → OwnsBy P s i → AllByRecursion (OwnBy P) (second_step c s i).1.notes
  step_owns c s (Cmd e) owns = event_own c s (Cmd e) owns e
  step_owns c s (Come l f) owns = class_own c s (Come l f) owns f l.class (λ is r same. record_came l f l.class refl is r same)
