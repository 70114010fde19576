-- After a step of the master all that it has is of plans that were drawn, and so are the plans that it sends.
use Rattle.std.proofs.Common.{ℕ, ◌≡◌, ◌++◌, ◌==◌, Bool, true, false, List, [], ◌∷◌, Option, Some, None, refl, sym, ap, subst, ◌∙◌, inl, inr}
use Rattle.std.proofs.lemmas.List.{append-nil}
use Rattle.std.specs.Prelude.{Err, Ok, Result, filter, fold}
use Rattle.std.specs.List.{AllByRecursion, list_any}
use Rattle.std.proofs.lemmas.Bool.{cases_Bool}
use Rattle.dc_base.specs.declared.answers.Answer.TheVariants as answer
use Rattle.dc_base.specs.declared.events.Line.TheVariants as line
use Rattle.dc_base.specs.declared.events.Note.TheVariants as note
use Rattle.dc_base.specs.declared.flights.Flight.{Flight}
use Rattle.dc_base.specs.declared.flights.Flight.TheVariants as flight
use Rattle.dc_base.specs.declared.nodes.Cell.TheVariants as cell
use Rattle.dc_base.specs.declared.nodes.Class.{Class}
use Rattle.dc_base.specs.declared.nodes.Class.TheVariants.{Air, Ctl, Feed, Tun}
use Rattle.dc_base.specs.declared.nodes.Node.{Node}
use Rattle.dc_base.specs.declared.nodes.Node.TheVariants.{M}
use Rattle.dc_base.specs.declared.nodes.Want.{Want}
use Rattle.dc_base.specs.declared.records.Plan.{Plan}
use Rattle.claims.specs.Table as claims
use Rattle.claims.specs.Table.{is_change}
use Rattle.node_rules.specs.Acts.{ProcFault}
use Rattle.node_rules.specs.Adopting.{status_in}
use Rattle.node_rules.specs.Anchor.{AnchorState, setup_at}
use Rattle.node_rules.specs.AnchorReceiving.{air_in, tunnel_in}
use Rattle.node_rules.specs.Choices.{Choices, Send}
use Rattle.node_rules.specs.Effects.{after_effects, both, in_turn, noted, quiet}
use Rattle.node_rules.specs.Flights.{Named, flight_named}
use Rattle.node_rules.specs.Held.{held}
use Rattle.node_rules.specs.Host.{Host}
use Rattle.node_rules.specs.HostRules.{host_air_in, host_tunnel_in}
use Rattle.node_rules.specs.Lines.{lines_of}
use Rattle.node_rules.specs.Master.{MasterNode, anchor_did}
use Rattle.node_rules.specs.MasterPlan.{adopts_if, does, master_act, master_did, on_waiting}
use Rattle.node_rules.specs.MasterState.{MasterActs, MasterProc}
use Rattle.node_rules.specs.MasterStep.{control_taken, data_taken, is_anchor_of, line_taken, master_takes, on_host, record_taken}
use Rattle.node_rules.specs.MasterTaking.{master_adopted, master_take}
use Rattle.node_rules.specs.declared.acts.Act.{Act}
use Rattle.node_rules.specs.declared.acts.Act.TheVariants.{FailOne as fail_one, Go as go, Pass as pass, Prepare as prepare, RecoverOne as recover_one, Say as say, Send as send, UnlockAll as unlock_all}
use Rattle.node_rules.specs.declared.bearers.AnchorOut.{AnchorOut}
use Rattle.node_rules.specs.declared.commands.Change.{Change}
use Rattle.node_rules.specs.declared.commands.Command.TheVariants.{Asked as asked}
use Rattle.node_rules.specs.declared.commands.First.{First}
use Rattle.node_rules.specs.declared.inputs.Effects.{Effects}
use Rattle.node_rules.specs.declared.inputs.Outcome.{Outcome}
use Rattle.run_senders.specs.Holders.{AllHeld, IfThere}
use Rattle.run_senders.proofs.Held.{held_so}
use Rattle.run_table.specs.Orders.{OrderFits, before_order}
use Rattle.run_table.specs.Quiet.{Follows, HaveNoPlan, IsQuiet, said}
use Rattle.run_table.specs.SameTable.{Agree, SameCommand}
use Rattle.run_table.specs.View.{View, carries, carries_if, carries_plan, carries_with, planned}
use Rattle.run_table.specs.Words.{Ending, Words, begun_notes, by_words, done as finished, hears, is_order_sent, lines_in, order_sends, over_notes, rejected as turned_down}
use Rattle.run_table.proofs.Beside.{beside_none, beside_on, does_follows, follows_after, line_did}
use Rattle.run_table.proofs.LineWords.{heard_lines}
use Rattle.run_table.proofs.Others.{only_sends}
use Rattle.run_table.proofs.Procs.{Goes, is_pass}
use Rattle.run_table.proofs.Quiet.{of_air, of_host_air, of_host_tunnel, of_status, of_tunnelled}
use Rattle.run_table.proofs.Records.{TakenIf, goes_adopted, goes_taken}
use Rattle.run_uplinks.proofs.Wells.{IsWell, lines_grow}
use Rattle.run_relays.specs.Pdus.{Ascend}
use Rattle.run_relays.specs.Setups.{AnchorOf, HostOf, IsHostOfPlan, IsOfPlan}
use Rattle.run_relays.proofs.ActPlans.{ActsFrom, FromIf, adopted_acts, taken_acts}
use Rattle.run_relays.proofs.Cores.{KeepsHost, air_core, host_air_core, host_tunnel_core, status_core, tunnel_core}
use Rattle.run_relays.proofs.Drawn.{HasOrderSent, Hears, SendBrings, acts_run, kept_order, nothing_sent, orders_planned, sends_bring}
use Rattle.run_relays.proofs.MasterSets.{AnchorsKeep, K, anchor_here, by_anchor, by_host, does_keeps, line_keeps}
use Rattle.run_relays.proofs.Planned.{RunsOnly}

-- ---- the plans of a view

-- carrying a plan out draws none
carries_plans : (g : ℕ) (v : View) → (carries g v).plans ≡ v.plans
carries_plans g v = by v.table.command
  where
    of_plan : (c : claims.Command) (o : Option Plan) → (carries_plan g c o v).plans ≡ v.plans
    of_plan c None = refl
    of_plan c (Some q) = refl

    if_so : (c : claims.Command) (b : Bool) → (carries_if g c b v).plans ≡ v.plans
    if_so c true = of_plan c (planned v.plans g)
    if_so c false = refl

    by : (o : Option claims.Command) → (carries_with g o v).plans ≡ v.plans
    by None = refl
    by (Some c) = if_so c _

order_plans : (begun : Option Want) (order : Option (Plan × List ℕ)) (v : View) → (fold hears v (lines_in (begun_notes begun) (order_sends order))).plans ≡ (fold hears v (lines_in (begun_notes begun) (order_sends None))).plans
order_plans None None v = refl
order_plans (Some w) None v = refl
order_plans None (Some x) v = carries_plans x.0.g v
order_plans (Some w) (Some x) v = carries_plans x.0.g (hears v (line.Note (note.Begin w)))

words_plans : (over : Option Ending) (begun : Option Want) (order : Option (Plan × List ℕ)) (v : View)
    → (fold hears v (lines_in (over_notes over ++ begun_notes begun) (order_sends order))).plans ≡ (fold hears v (lines_in (over_notes over ++ begun_notes begun) (order_sends None))).plans
words_plans None begun order v = order_plans begun order v
words_plans (Some finished) begun order v = order_plans begun order (hears v (line.Note note.Done))
words_plans (Some turned_down) begun order v = order_plans begun order (hears v (line.Note note.Rejected))

-- the items of plans are of bearers apart
abbrev pub ArePlansApart : List Plan → Type 0
ArePlansApart plans = AllByRecursion (λ (q : Plan). Ascend 0 q.items) plans

found_apart : (plans : List Plan) (g : ℕ) (q : Plan) → ArePlansApart plans → planned plans g ≡ Some q → Ascend 0 q.items
found_apart [] g q all at = absurd (let bad : None ≡ Some q = at in cc)
found_apart (x ∷ plans) g q all at =
    elim (cases_Bool (x.g == g)) [
      | inl here ↦ let same : x ≡ q = let e = rw here at at in cc in subst (λ (y : Plan). Ascend 0 y.items) same all.0
      | inr there ↦ found_apart plans g q all.1 (rw there at at)
    ]

-- ---- what a node has stays of plans that were drawn

-- what was drawn stays drawn
abbrev pub Stay : List Plan → List Plan → Type 0
Stay ps qs = (g : ℕ) (q : Plan) → planned ps g ≡ Some q → planned qs g ≡ Some q

module _ (ps qs : List Plan) (stay : Stay ps qs) where
  pub anchor_stays : (a : AnchorState) → AnchorOf (IsOfPlan ps) a → AnchorOf (IsOfPlan qs) a
  anchor_stays a is = record { plan = is.plan; drawn = stay (setup_at a).g is.plan is.drawn; threshold = is.threshold; policy = is.policy; key = is.key; old = is.old; item = is.item; sec = is.sec }

  pub host_stays : (h : Host) → HostOf (IsHostOfPlan ps) h → HostOf (IsHostOfPlan qs) h
  host_stays h is = record {
    of = is.of;
    is = record { plan = is.is.plan; drawn = stay is.of.g is.is.plan is.is.drawn; threshold = is.is.threshold; policy = is.is.policy; key = is.is.key; old = is.is.old; item = is.is.item; sec = is.is.sec };
    g = is.g;
    id = is.id;
    hosts = is.hosts;
    anchor = is.anchor;
  }

  pub held_stay : {X : Type 0} (P Q : X → Type 0) → ((x : X) → P x → Q x) → (xs : List (ℕ × X)) → AllHeld P xs → AllHeld Q xs
  held_stay P Q each [] all = tt
  held_stay P Q each (x ∷ xs) all = (each x.1 all.0, held_stay P Q each xs all.1)

  pub k_stays : (m : MasterNode) → K ps m → K qs m
  k_stays m is = record {
    anchors = held_stay (AnchorOf (IsOfPlan ps)) (AnchorOf (IsOfPlan qs)) anchor_stays m.anchors is.anchors;
    hosts = held_stay (HostOf (IsHostOfPlan ps)) (HostOf (IsHostOfPlan qs)) host_stays m.hosts is.hosts;
  }

-- ---- a step of the master, from this view on

module _ (c : Choices) (v : View) (well : IsWell v) where
  -- the outcome with these effects
  abbrev pub out : Effects → Outcome
  out x = record { answer = answer.Ok; notes = x.notes; sends = x.sends }

  -- the view after its lines
  abbrev pub now : Effects → View
  now x = fold hears v (lines_of (out x))

  pub record IsSet (done : MasterNode × Effects) : Type 0 where
    pub keeps : K (now done.1).plans done.0
    pub brings : AllByRecursion (SendBrings (now done.1).plans) done.1.sends

  stays : (x : Effects) → Stay v.plans (now x).plans
  stays x = (lines_grow (lines_of (out x)) v well).stays

  -- where it says nothing of plans
  pub quiet_set : (done : MasterNode × Effects) → IsQuiet done.1 → K v.plans done.0 → IsSet done
  quiet_set done silent is = record { keeps = k_stays v.plans (now done.1).plans (stays done.1) done.0 is; brings = nothing_sent (now done.1).plans done.1.sends silent.sends }

  same_now : (r : MasterActs) (g : Goes v r) (done : MasterNode × Effects) → Follows r done → now done.1 ≡ by_words g.words v
  same_now r g done f =
      heard_lines (out done.1) g.words v (f.says.notes ∙ g.speaks.notes) (orders_planned done.1.sends ∙ ap (filter is_order_sent) f.says.sends ∙ sym (orders_planned (said r.1).sends) ∙ g.speaks.orders)

  order_drawn : (w : Words) (p : Plan) (o : Option (Plan × List ℕ)) → HasOrderSent p (order_sends o) → OrderFits (before_order w v) o → planned (before_order w v).plans p.g ≡ Some p
  order_drawn w p None has fits = absurd has
  order_drawn w p (Some x) has fits =
      elim has [ inl same ↦ subst (λ (q : Plan). planned (before_order w v).plans q.g ≡ Some q) same fits.drawn | inr none ↦ absurd none ]

  asked_drawn : (u : View) (ch : Change) (first : First) (who : Node) (wanted : Bool) (k : Option claims.Command) → SameCommand u (Some (asked ch first who wanted)) k → planned u.plans ch.plan.g ≡ Some ch.plan
  asked_drawn u ch first who wanted None same = absurd same
  asked_drawn u ch first who wanted (Some k) same = same.1.plan

  hears_it : (r : MasterActs) (g : Goes v r) (done : MasterNode × Effects) → Follows r done → ArePlansApart (now done.1).plans → Hears (now done.1).plans done.0.proc done.1.sends
  hears_it r g done f apart =
      let same = same_now r g done f in
      let orders = orders_planned done.1.sends ∙ ap (filter is_order_sent) f.says.sends ∙ sym (orders_planned (said r.1).sends) ∙ g.speaks.orders in
      let plans : (before_order g.words v).plans ≡ (now done.1).plans = sym (ap (λ (u : View). u.plans) same ∙ words_plans g.words.over g.words.begun g.words.order v) in
      record {
        order = λ p has.
            let drawn = subst (λ ps. planned ps p.g ≡ Some p) plans (order_drawn g.words p g.words.order (subst (HasOrderSent p) orders (kept_order p done.1.sends has)) g.fits) in
            (drawn, found_apart (now done.1).plans p.g p apart drawn);
        asks = λ ch first who wanted open'.
            let command : r.0.command ≡ Some (asked ch first who wanted) = sym (ap (λ (x : MasterProc). x.command) f.proc) ∙ open' in
            let u = by_words g.words v in
            let drawn = subst (λ (z : View). planned z.plans ch.plan.g ≡ Some ch.plan) (sym same) (asked_drawn u ch first who wanted u.table.command (subst (λ o. SameCommand u o u.table.command) command g.agree.same.command)) in
            (drawn, found_apart (now done.1).plans ch.plan.g ch.plan apart drawn);
      }

  -- where it follows its procedures
  pub goes_set : (r : MasterActs) → Goes v r → ActsFrom r → (done : MasterNode × Effects) → Follows r done → ArePlansApart (now done.1).plans
      → (AllByRecursion (RunsOnly (now done.1).plans) r.1 → K (now done.1).plans done.0) → IsSet done
  goes_set r g from done f apart keeps =
      let heard = hears_it r g done f apart in
      record { keeps = keeps (acts_run (now done.1).plans r done from f heard); brings = sends_bring (now done.1).plans r done from f heard }

  pub does_set : (m : MasterNode) (r : MasterActs) → Goes v r → ActsFrom r → ArePlansApart (now (does c m r).1).plans → K v.plans m → IsSet (does c m r)
  does_set m r g from apart is =
      let done = does c m r in
      goes_set r g from done (does_follows c m r) apart (λ runs. does_keeps (now done.1).plans c m r runs (k_stays v.plans (now done.1).plans (stays done.1) m is))

  module _ (m : MasterNode) (agree : Agree v m.proc) (is : K v.plans m) where
    nothing_set : IsSet (m, quiet)
    nothing_set = quiet_set (m, quiet) (beside_none m).quiet is

    -- ---- an adoption

    adopting_set : (id g : ℕ) (f : AnchorState → AnchorState × AnchorOut) (a : AnchorState) → ((x : AnchorState) → HaveNoPlan (f x).1.sends) → AnchorsKeep v.plans f → AnchorOf (IsOfPlan v.plans) a → (adopted : Bool)
        → ArePlansApart (now (adopts_if c id g adopted (anchor_did m id (f a))).1).plans → IsSet (adopts_if c id g adopted (anchor_did m id (f a)))
    adopting_set id g f a none keep here false apart = quiet_set (anchor_did m id (f a)) (beside_on m id f none (Some a)).quiet (by_anchor v.plans m id a (f a) here (keep a) is)
    adopting_set id g f a none keep here true apart =
        let n = (anchor_did m id (f a)).0 in
        let x = (anchor_did m id (f a)).1 in
        let beside = beside_on m id f none (Some a) in
        let r = master_adopted n.proc id in
        let own : Effects = both (noted (note.Own M id g)) x in
        let whole = after_effects own (does c n r) in
        let goes : Goes v r = subst (λ p. Goes v (master_adopted p id)) (sym beside.proc) (goes_adopted v m.proc agree id) in
        goes_set r goes (adopted_acts n.proc id) whole (follows_after own r (does c n r) (record { notes = beside.quiet.notes; sends = beside.quiet.sends }) (does_follows c n r)) apart
        (λ runs. does_keeps (now whole.1).plans c n r runs (k_stays v.plans (now whole.1).plans (stays whole.1) n (by_anchor v.plans m id a (f a) here (keep a) is)))

    waiting_set : (id : ℕ) (f : AnchorState → AnchorState × AnchorOut) → ((x : AnchorState) → HaveNoPlan (f x).1.sends) → AnchorsKeep v.plans f → (o : Option AnchorState) → IfThere (AnchorOf (IsOfPlan v.plans)) o
        → ArePlansApart (now (on_waiting c m id f o).1).plans → IsSet (on_waiting c m id f o)
    waiting_set id f none keep None here apart = nothing_set
    waiting_set id f none keep (Some a) here apart = adopting_set id (setup_at a).g f a none keep here (f a).1.adopted apart

    -- ---- a record

    both_none : (x : Effects) → both x quiet ≡ x
    both_none x = ap (λ ns. record { notes = ns; sends = x.sends ++ [] }) (append-nil x.notes) ∙ ap (λ ss. record { notes = x.notes; sends = ss }) (append-nil x.sends)

    did_acts : (acts : List Act) (k : MasterNode) → list_any is_pass acts ≡ false → in_turn (master_did c) k acts ≡ in_turn (master_act c) k acts
    did_acts [] k none = refl
    did_acts (send to r ∷ acts) k none = let done = master_act c k (send to r) in ap (λ x. after_effects done.1 x) (did_acts acts done.0 none)
    did_acts (prepare p ∷ acts) k none = let done = master_act c k (prepare p) in ap (λ x. after_effects done.1 x) (did_acts acts done.0 none)
    did_acts (go p ∷ acts) k none = let done = master_act c k (go p) in ap (λ x. after_effects done.1 x) (did_acts acts done.0 none)
    did_acts (unlock_all g ∷ acts) k none = let done = master_act c k (unlock_all g) in ap (λ x. after_effects done.1 x) (did_acts acts done.0 none)
    did_acts (say n ∷ acts) k none = let done = master_act c k (say n) in ap (λ x. after_effects done.1 x) (did_acts acts done.0 none)
    did_acts (recover_one id ∷ acts) k none = let done = master_act c k (recover_one id) in ap (λ x. after_effects done.1 x) (did_acts acts done.0 none)
    did_acts (fail_one id g ∷ acts) k none = let done = master_act c k (fail_one id g) in ap (λ x. after_effects done.1 x) (did_acts acts done.0 none)
    did_acts (pass st ∷ acts) k none = absurd (let bad : true ≡ false = none in cc)

    taken_set : (r : Result MasterActs ProcFault) → TakenIf v m.proc r → FromIf r → ArePlansApart (now (record_taken c m r).1).plans → IsSet (record_taken c m r)
    taken_set (Err why) taken from apart = nothing_set
    taken_set (Ok r) (inl g) from apart =
        let same = did_acts r.1 (record m { proc = r.0 }) g.speaks.no_pass in
        subst IsSet (sym same) (does_set m r g from (subst (λ (x : MasterNode × Effects). ArePlansApart (now x.1).plans) same apart) is)
    taken_set (Ok r) (inr p) from apart =
        let f : AnchorState → AnchorState × AnchorOut = λ a. status_in c a p.status in
        let here = on_waiting c m p.status.id f (held p.status.id m.anchors) in
        let whole : (y : MasterActs) → MasterNode × Effects = λ y. in_turn (master_did c) (record m { proc = y.0 }) y.1 in
        let at = subst (λ (y : MasterActs). ArePlansApart (now (whole y).1).plans) p.is apart in
        let passed = waiting_set p.status.id f (λ a. of_status c a p.status) (λ a. status_core c a p.status) (held p.status.id m.anchors) (anchor_here v.plans m p.status.id is) (subst (λ x. ArePlansApart (now x).plans) (both_none here.1) at) in
        subst (λ (y : MasterActs). IsSet (whole y)) (sym p.is) (subst (λ x. IsSet (here.0, x)) (sym (both_none here.1)) passed)

    -- ---- other flights

    host_set : (id : ℕ) (h : Host → Host × List Send) → ((x : Host) → HaveNoPlan (h x).1) → ((x : Host) → KeepsHost x (h x)) → (o : Option Host) → IfThere (HostOf (IsHostOfPlan v.plans)) o → IsSet (on_host m id h o)
    host_set id h none keep None here = nothing_set
    host_set id h none keep (Some x) here = quiet_set (on_host m id h (Some x)) (only_sends (h x).1 (none x)) (by_host v.plans m id h keep (Some x) here is)

    data_set : (a : AnchorState → AnchorState × AnchorOut) (h : Host → Host × List Send) → ((x : AnchorState) → HaveNoPlan (a x).1.sends) → ((x : Host) → HaveNoPlan (h x).1) → AnchorsKeep v.plans a → ((x : Host) → KeepsHost x (h x))
        → (o : Option Named) → ArePlansApart (now (data_taken c m a h o).1).plans → IsSet (data_taken c m a h o)
    data_set a h none no_hosts keep hosts None apart = nothing_set
    data_set a h none no_hosts keep hosts (Some (id, g)) apart =
        elim (cases_Bool (is_anchor_of g (held id m.anchors))) [
          | inl yes' ↦ rw yes' (waiting_set id a none keep (held id m.anchors) (anchor_here v.plans m id is) (rw yes' at apart))
          | inr no' ↦ rw no' (host_set id h no_hosts hosts (held id m.hosts) (held_so (HostOf (IsHostOfPlan v.plans)) id m.hosts is.hosts))
        ]

    control_set : (from : Node) (f : Flight) → ArePlansApart (now (control_taken c m from f).1).plans → IsSet (control_taken c m from f)
    control_set from (flight.Ctl r) apart = taken_set (master_take from m.proc r) (goes_taken v m.proc agree from r) (taken_acts from m.proc r) apart
    control_set from (flight.Air id g num tag pdu) apart = nothing_set
    control_set from (flight.Ack id g num) apart = nothing_set
    control_set from (flight.Tun tag packet) apart = nothing_set
    control_set from (flight.Sdu id g payload) apart = nothing_set
    control_set from (flight.End id g) apart = nothing_set
    control_set from (flight.Told id g count) apart = nothing_set

    -- a flight that it takes
    pub flight_set : (from : Node) (f : Flight) (k : Class) → ArePlansApart (now (master_takes c m from f k).1).plans → IsSet (master_takes c m from f k)
    flight_set from f Ctl apart = control_set from f apart
    flight_set from f Feed apart = quiet_set (line_taken m f) (line_did m f).quiet (line_keeps v.plans m f is)
    flight_set from f Air apart =
        data_set (λ a. air_in a cell.Mcg f) (λ h. host_air_in h f) (λ a. of_air a cell.Mcg f) (λ h. of_host_air h f) (λ a. air_core a cell.Mcg f) (λ h. host_air_core h f) (flight_named f) apart
    flight_set from f Tun apart =
        data_set (λ a. tunnel_in c a f) (λ h. host_tunnel_in h f) (λ a. of_tunnelled c a f) (λ h. of_host_tunnel h f) (λ a. tunnel_core c a f) (λ h. host_tunnel_core h f) (flight_named f) apart
