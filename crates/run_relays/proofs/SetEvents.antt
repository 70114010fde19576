-- After each event of a run all that nodes have is of plans that were drawn, and so are the plans that are sent.
use Rattle.std.proofs.Common.{ℕ, ◌≡◌, ◌&&◌, Bool, true, false, List, Option, Some, None, length, slice_get, refl, inl, inr}
use Rattle.std.specs.Prelude.{fold, if◌then◌else◌, nat_lt}
use Rattle.std.specs.List.{AllByRecursion}
use Rattle.std.proofs.lemmas.Bool.{cases_Bool}
use Rattle.dc_base.specs.Links.{is_ordered, is_tunnel}
use Rattle.dc_base.specs.declared.answers.Answer.TheVariants as answer
use Rattle.dc_base.specs.declared.answers.Refusal.{Refusal}
use Rattle.dc_base.specs.declared.answers.Refusal.TheVariants as refusal
use Rattle.dc_base.specs.declared.events.Event.{Event}
use Rattle.dc_base.specs.declared.events.Event.TheVariants as event
use Rattle.dc_base.specs.declared.flights.Flight.{Flight}
use Rattle.dc_base.specs.declared.flights.Flight.TheVariants as flight
use Rattle.dc_base.specs.declared.nodes.Dir.TheVariants.{Dl, Ul}
use Rattle.dc_base.specs.declared.nodes.LinkId.{LinkId}
use Rattle.dc_base.specs.declared.nodes.Node.{Node}
use Rattle.dc_base.specs.declared.nodes.Node.TheVariants.{A, B, M, T}
use Rattle.dc_base.specs.declared.records.Plan.{Plan}
use Rattle.dc_base.specs.declared.records.Rec.{Rec}
use Rattle.transcript.proofs.OnEach.{each_at, each_weaker}
use Rattle.claims.specs.Past.{Past}
use Rattle.claims.specs.Planned.{plan_in}
use Rattle.node_rules.specs.Acts.{first_refusal}
use Rattle.node_rules.specs.AnchorSending.{report}
use Rattle.node_rules.specs.Choices.{Choices}
use Rattle.node_rules.specs.Effects.{unless}
use Rattle.node_rules.specs.Feed.{Fed}
use Rattle.node_rules.specs.Flights.{weight}
use Rattle.node_rules.specs.Held.{held}
use Rattle.node_rules.specs.Lines.{lines_of}
use Rattle.node_rules.specs.Master.{MasterNode}
use Rattle.node_rules.specs.MasterCommands.{command_refusals, commands, commands_unless}
use Rattle.node_rules.specs.MasterState.{has_bearer}
use Rattle.node_rules.specs.MasterStep.{commanded, master_event, report_asked, settled_row, submit_refusals, submitted, submitted_to, to_anchor_at, with_accepted}
use Rattle.node_rules.specs.Readers.{is_aged_for}
use Rattle.node_rules.specs.Run.{Happening, carried_on, copy_of, given_to, happening, loss_of, node_at, on_links, refused_for, step_of}
use Rattle.node_rules.specs.SecondStep.{second_step}
use Rattle.node_rules.specs.Secondary.{SecondNode}
use Rattle.node_rules.specs.Terminal.{terminal_step}
use Rattle.node_rules.specs.World.{World, flights_on}
use Rattle.node_rules.specs.declared.bearers.Window.{Window}
use Rattle.node_rules.specs.declared.commands.Row.{Row}
use Rattle.node_rules.specs.declared.inputs.Effects.{Effects}
use Rattle.node_rules.specs.declared.inputs.Input.{Input}
use Rattle.node_rules.specs.declared.inputs.Input.TheVariants.{Cmd, Come}
use Rattle.node_rules.specs.declared.inputs.Outcome.{Outcome}
use Rattle.run_control.specs.Sound.{AddsSecond}
use Rattle.run_table.specs.Quiet.{HaveNoPlan}
use Rattle.run_table.specs.SameTable.{Agree}
use Rattle.run_table.specs.View.{View, view}
use Rattle.run_table.specs.Words.{hears}
use Rattle.run_table.proofs.Beside.{beside_on, to_anchor_did}
use Rattle.run_table.proofs.Others.{second_quiet, terminal_quiet}
use Rattle.run_table.proofs.Procs.{Goes}
use Rattle.run_table.proofs.Quiet.{of_report}
use Rattle.run_table.proofs.Steps.{goes_command}
use Rattle.run_table.proofs.Views.{hears_answer, hears_event}
use Rattle.run_uplinks.proofs.Wells.{IsWell, answer_grows, lines_grow}
use Rattle.run_relays.specs.Setups.{FedOf, HostOf, IsHostOfPlan, IsOfPlan}
use Rattle.run_relays.proofs.ActPlans.{command_acts}
use Rattle.run_relays.proofs.Drawn.{SendBrings, nothing_sent}
use Rattle.run_relays.proofs.MasterSets as master
use Rattle.run_relays.proofs.MasterSets.{report_keeps, submitted_keeps}
use Rattle.run_relays.proofs.MasterTurn.{ArePlansApart, Stay, anchor_stays, does_set, flight_set, held_stay, host_stays, k_stays}
use Rattle.run_relays.proofs.SecondSets as second
use Rattle.run_relays.proofs.SecondSets.{BringsFlight, BringsPlan, event_keeps, flight_keeps}

-- ---- what was drawn stays

module _ (ps qs : List Plan) (stay : Stay ps qs) where
  plan_stays : (r : Rec) (o : Option Plan) → BringsPlan ps r o → BringsPlan qs r o
  plan_stays r None is = tt
  plan_stays r (Some p) (inl runs) = inl (stay p.g p runs.0, runs.1)
  plan_stays r (Some p) (inr none) = inr none

  pub brings_stay : (f : Flight) → BringsFlight ps f → BringsFlight qs f
  brings_stay (flight.Ctl r) is = plan_stays r (plan_in r) is
  brings_stay (flight.Air id g num tag pdu) is = tt
  brings_stay (flight.Ack id g num) is = tt
  brings_stay (flight.Tun tag packet) is = tt
  brings_stay (flight.Sdu id g payload) is = tt
  brings_stay (flight.End id g) is = tt
  brings_stay (flight.Told id g count) is = tt

  fed_stays : (f : Fed) → FedOf (IsOfPlan ps) f → FedOf (IsOfPlan qs) f
  fed_stays f is = anchor_stays ps qs stay f.anchor is

  second_stays : (s : SecondNode) → second.K ps s → second.K qs s
  second_stays s is = record {
    anchors = held_stay ps qs stay (FedOf (IsOfPlan ps)) (FedOf (IsOfPlan qs)) fed_stays s.anchors is.anchors;
    hosts = held_stay ps qs stay (HostOf (IsHostOfPlan ps)) (HostOf (IsHostOfPlan qs)) (host_stays ps qs stay) s.hosts is.hosts;
  }

-- all that the nodes have, by nodes
pub record HaveOf (plans : List Plan) (w : World) : Type 0 where
  pub master : master.K plans w.master
  pub a : second.K plans w.a
  pub b : second.K plans w.b

pub have_stay : (ps qs : List Plan) (w : World) → Stay ps qs → HaveOf ps w → HaveOf qs w
have_stay ps qs w stay is = record { master = k_stays ps qs stay w.master is.master; a = second_stays ps qs stay w.a is.a; b = second_stays ps qs stay w.b is.b }

-- ---- an event

module _ (c : Choices) (p : Past) (w : World) (well : IsWell (view p)) (agree : Agree (view p) w.master.proc) (have : HaveOf (view p).plans w) where
  -- the view after an outcome
  abbrev pub after_it : Event → Outcome → View
  after_it e o = fold hears (hears_answer p e o.answer (view p)) (lines_of o)

  stays : (e : Event) (o : Outcome) → Stay (view p).plans (after_it e o).plans
  stays e o =
      let first = answer_grows p e o.answer (view p) well in
      let more = lines_grow (lines_of o) (hears_answer p e o.answer (view p)) first.well in
      λ g q at. more.stays g q (first.stays g q at)

  -- what is so after it
  pub record After (e : Event) (done : World × Outcome) : Type 0 where
    pub all : HaveOf (after_it e done.1).plans done.0
    pub brings : AllByRecursion (SendBrings (after_it e done.1).plans) done.1.sends

  -- of the master
  record MasterAfter (e : Event) (done : MasterNode × Outcome) : Type 0 where
    keeps : master.K (after_it e done.1).plans done.0
    pub brings : AllByRecursion (SendBrings (after_it e done.1).plans) done.1.sends

  by_master : (e : Event) (done : MasterNode × Outcome) → MasterAfter e done → After e (record w { master = done.0 }, done.1)
  by_master e done is =
      let s = stays e done.1 in
      let qs = (after_it e done.1).plans in
      record { all = record { master = is.keeps; a = second_stays (view p).plans qs s w.a have.a; b = second_stays (view p).plans qs s w.b have.b }; brings = is.brings }

  -- ---- the master's events

  -- where nothing is said of plans
  still_after : (e : Event) (done : MasterNode × Outcome) → HaveNoPlan done.1.sends → master.K (view p).plans done.0 → MasterAfter e done
  still_after e done none is =
      let qs = (after_it e done.1).plans in record { keeps = k_stays (view p).plans qs (stays e done.1) done.0 is; brings = nothing_sent qs done.1.sends none }

  by_command : (e : Event) (o : Option Refusal) → (o ≡ None → Goes (hears_event p e (view p)) (commands w.master.proc e)) → let done = commanded c w.master (commands_unless w.master.proc e o) in ArePlansApart (after_it e done.1).plans
      → MasterAfter e done
  by_command e None goes apart =
      let first = answer_grows p e answer.Ok (view p) well in
      let v = hears_event p e (view p) in
      let set = does_set c v first.well w.master (commands w.master.proc e) (goes refl) (command_acts w.master.proc e) apart (k_stays (view p).plans v.plans first.stays w.master have.master) in
      record { keeps = set.keeps; brings = set.brings }
  by_command e (Some why) goes apart = still_after e (commanded c w.master (commands_unless w.master.proc e (Some why))) refl have.master

  to_it_none : (m : MasterNode) (o : Option Refusal) (id g : ℕ) (payload : List ℕ) (x : Node) → HaveNoPlan (unless w.master o (to_anchor_at c m id g payload x)).1.sends
  to_it_none m None id g payload x = (to_anchor_did c m id g payload x).quiet.sends
  to_it_none m (Some why) id g payload x = refl

  submitted_none : (id : ℕ) (payload : List ℕ) (o : Option Row) → HaveNoPlan (submitted c w.master id payload o).1.sends
  submitted_none id payload None = refl
  submitted_none id payload (Some r) = by (held id w.master.windows)
    where
      by : (o : Option Window) → HaveNoPlan (submitted_to c w.master id payload r o).1.sends
      by None = refl
      by (Some win) = to_it_none (with_accepted w.master id win) (first_refusal (submit_refusals r win)) id r.g payload r.anchor

  report_none : (id : ℕ) (has : Bool) → HaveNoPlan (report_asked c w.master id has).1.sends
  report_none id false = refl
  report_none id true = (beside_on w.master id (report c) (of_report c) (held id w.master.anchors)).quiet.sends

  master_after : (e : Event) → AddsSecond e → ArePlansApart (after_it e (master_event c w.master e).1).plans → MasterAfter e (master_event c w.master e)
  master_after (event.Bearer id n first shape threshold policy) names apart =
      let e = event.Bearer id n first shape threshold policy in by_command e (first_refusal (command_refusals (length c.policies) w.master.proc e)) (goes_command (length c.policies) p (view p) w.master.proc e names agree) apart
  master_after (event.Reshape id shape) names apart =
      let e = event.Reshape id shape in by_command e (first_refusal (command_refusals (length c.policies) w.master.proc e)) (goes_command (length c.policies) p (view p) w.master.proc e names agree) apart
  master_after (event.Remove id) names apart =
      let e = event.Remove id in by_command e (first_refusal (command_refusals (length c.policies) w.master.proc e)) (goes_command (length c.policies) p (view p) w.master.proc e names agree) apart
  master_after (event.Add node) names apart =
      let e = event.Add node in by_command e (first_refusal (command_refusals (length c.policies) w.master.proc e)) (goes_command (length c.policies) p (view p) w.master.proc e names agree) apart
  master_after event.Change names apart =
      let e = event.Change in by_command e (first_refusal (command_refusals (length c.policies) w.master.proc e)) (goes_command (length c.policies) p (view p) w.master.proc e names agree) apart
  master_after event.Release names apart =
      let e = event.Release in by_command e (first_refusal (command_refusals (length c.policies) w.master.proc e)) (goes_command (length c.policies) p (view p) w.master.proc e names agree) apart
  master_after event.RekeySecond names apart =
      let e = event.RekeySecond in by_command e (first_refusal (command_refusals (length c.policies) w.master.proc e)) (goes_command (length c.policies) p (view p) w.master.proc e names agree) apart
  master_after (event.RekeyMaster root) names apart =
      let e = event.RekeyMaster root in by_command e (first_refusal (command_refusals (length c.policies) w.master.proc e)) (goes_command (length c.policies) p (view p) w.master.proc e names agree) apart
  master_after (event.Recover id) names apart =
      let e = event.Recover id in by_command e (first_refusal (command_refusals (length c.policies) w.master.proc e)) (goes_command (length c.policies) p (view p) w.master.proc e names agree) apart
  master_after (event.Report node id) names apart =
      still_after (event.Report node id) (report_asked c w.master id (has_bearer w.master.proc id)) (report_none id (has_bearer w.master.proc id)) (report_keeps (view p).plans c w.master id (has_bearer w.master.proc id) have.master)
  master_after (event.Deny node on) names apart = still_after (event.Deny node on) (master_event c w.master (event.Deny node on)) refl have.master
  master_after (event.Ask node what) names apart = still_after (event.Ask node what) (master_event c w.master (event.Ask node what)) refl have.master
  master_after event.ScgFail names apart = still_after event.ScgFail (master_event c w.master event.ScgFail) refl have.master
  master_after (event.Submit id d payload) names apart =
      still_after (event.Submit id d payload) (submitted c w.master id payload (settled_row w.master id)) (submitted_none id payload (settled_row w.master id)) (submitted_keeps (view p).plans c w.master id payload (settled_row w.master id) have.master)
  master_after (event.Step l i) names apart = still_after (event.Step l i) (master_event c w.master (event.Step l i)) refl have.master
  master_after (event.Lose l i) names apart = still_after (event.Lose l i) (master_event c w.master (event.Lose l i)) refl have.master
  master_after (event.Again l i) names apart = still_after (event.Again l i) (master_event c w.master (event.Again l i)) refl have.master

  -- ---- the other nodes

  -- the terminal
  by_terminal : (e : Event) (i : Input) → After e (carried_on c w (given_to T i))
  by_terminal e i =
      let o = (terminal_step c w.terminal i).1 in
      let qs = (after_it e o).plans in
      let all = have_stay (view p).plans qs w (stays e o) have in
      record { all = record { master = all.master; a = all.a; b = all.b }; brings = nothing_sent qs o.sends (terminal_quiet c w.terminal i).sends }

  -- a secondary node, of which it is still so
  by_a : (e : Event) (i : Input) → second.K (view p).plans (second_step c w.a i).0 → After e (carried_on c w (given_to A i))
  by_a e i is =
      let o = (second_step c w.a i).1 in
      let qs = (after_it e o).plans in
      let all = have_stay (view p).plans qs w (stays e o) have in
      record { all = record { master = all.master; a = second_stays (view p).plans qs (stays e o) (second_step c w.a i).0 is; b = all.b }; brings = nothing_sent qs o.sends (second_quiet c w.a i).sends }

  by_b : (e : Event) (i : Input) → second.K (view p).plans (second_step c w.b i).0 → After e (carried_on c w (given_to B i))
  by_b e i is =
      let o = (second_step c w.b i).1 in
      let qs = (after_it e o).plans in
      let all = have_stay (view p).plans qs w (stays e o) have in
      record { all = record { master = all.master; a = all.a; b = second_stays (view p).plans qs (stays e o) (second_step c w.b i).0 is }; brings = nothing_sent qs o.sends (second_quiet c w.b i).sends }

  by_refusal : (e : Event) (why : Refusal) → After e (carried_on c w (refused_for why))
  by_refusal e why = let o = (carried_on c w (refused_for why)).1 in record { all = have_stay (view p).plans (after_it e o).plans w (stays e o) have; brings = tt }

  -- what happens on links alone
  by_links : (e : Event) (x : Effects) → AllByRecursion (SendBrings (view p).plans) x.sends → After e (carried_on c w (on_links x))
  by_links e x brings =
      let o = (carried_on c w (on_links x)).1 in
      let qs = (after_it e o).plans in
      record {
        all = have_stay (view p).plans qs w (stays e o) have;
        brings = each_weaker (SendBrings (view p).plans) (SendBrings qs) (λ s is. brings_stay (view p).plans qs (stays e o) s.1 is) x.sends brings;
      }

  -- ---- any event

  abbrev AfterHappening : Event → Happening → Type 0
  AfterHappening e h = ArePlansApart (after_it e (carried_on c w h).1).plans → After e (carried_on c w h)

  -- one that is given to a node as it is
  given_after : (e : Event) → AddsSecond e → (x : Node) → AfterHappening e (given_to x (Cmd e))
  given_after e names T apart = by_terminal e (Cmd e)
  given_after e names M apart = by_master e (master_event c w.master e) (master_after e names apart)
  given_after e names A apart = by_a e (Cmd e) (event_keeps (view p).plans c w.a e have.a)
  given_after e names B apart = by_b e (Cmd e) (event_keeps (view p).plans c w.b e have.b)

  -- a flight
  come_after : (l : LinkId) (i : ℕ) (f : Flight) → BringsFlight (view p).plans f → (x : Node) → AfterHappening (event.Step l i) (given_to x (Come l f))
  come_after l i f brings T apart = by_terminal (event.Step l i) (Come l f)
  come_after l i f brings M apart =
      let set = flight_set c (view p) well w.master agree have.master l.from f l.class apart in
      by_master (event.Step l i) _ (record { keeps = set.keeps; brings = set.brings })
  come_after l i f brings A apart = by_a (event.Step l i) (Come l f) (flight_keeps (view p).plans c w.a l f brings have.a)
  come_after l i f brings B apart = by_b (event.Step l i) (Come l f) (flight_keeps (view p).plans c w.b l f brings have.b)

  module _ (stand : (l : LinkId) → AllByRecursion (BringsFlight (view p).plans) (flights_on l w.links)) where
    step_after : (l : LinkId) (i : ℕ) (o : Option Flight) → slice_get (flights_on l w.links) i ≡ o → AfterHappening (event.Step l i) (step_of w l i o)
    step_after l i None at = λ apart. by_refusal (event.Step l i) refusal.NoFlight
    step_after l i (Some f) at =
        elim (cases_Bool (is_ordered l.class && nat_lt 0 i)) [
          | inl behind ↦ rw behind (λ apart. by_refusal (event.Step l i) refusal.NotFirst)
          | inr first ↦ elim (cases_Bool (is_aged_for (node_at w l.to) (weight f))) [
            | inl aged ↦ rw (first, aged) (λ apart. by_refusal (event.Step l i) refusal.Aged)
            | inr fresh ↦ rw (first, fresh) (come_after l i f (each_at (BringsFlight (view p).plans) (flights_on l w.links) i f (stand l) at) l.to)
          ]
        ]

    loss_after : (e : Event) (in_it : Bool) (o : Option Flight) → AfterHappening e (if in_it then loss_of o else refused_for refusal.NotTunnel)
    loss_after e false o apart = by_refusal e refusal.NotTunnel
    loss_after e true None apart = by_refusal e refusal.NoFlight
    loss_after e true (Some f) apart = by_links e _ tt

    copy_after : (e : Event) (l : LinkId) (i : ℕ) (in_it : Bool) (o : Option Flight) → slice_get (flights_on l w.links) i ≡ o → AfterHappening e (if in_it then copy_of l o else refused_for refusal.NotTunnel)
    copy_after e l i false o at apart = by_refusal e refusal.NotTunnel
    copy_after e l i true None at apart = by_refusal e refusal.NoFlight
    copy_after e l i true (Some f) at apart = by_links e _ (each_at (BringsFlight (view p).plans) (flights_on l w.links) i f (stand l) at, tt)

    pub event_after : (e : Event) → AddsSecond e → AfterHappening e (happening w e)
    event_after (event.Bearer id n first shape threshold policy) names = given_after (event.Bearer id n first shape threshold policy) names M
    event_after (event.Reshape id shape) names = given_after (event.Reshape id shape) names M
    event_after (event.Remove id) names = given_after (event.Remove id) names M
    event_after (event.Add node) names = given_after (event.Add node) names M
    event_after event.Change names = given_after event.Change names M
    event_after event.Release names = given_after event.Release names M
    event_after event.RekeySecond names = given_after event.RekeySecond names M
    event_after (event.RekeyMaster root) names = given_after (event.RekeyMaster root) names M
    event_after (event.Recover id) names = given_after (event.Recover id) names M
    event_after (event.Report node id) names = given_after (event.Report node id) names node
    event_after (event.Deny node on) names = given_after (event.Deny node on) names node
    event_after (event.Ask node what) names = given_after (event.Ask node what) names node
    event_after event.ScgFail names = given_after event.ScgFail names T
    event_after (event.Submit id Ul payload) names = given_after (event.Submit id Ul payload) names T
    event_after (event.Submit id Dl payload) names = given_after (event.Submit id Dl payload) names M
    event_after (event.Step l i) names = step_after l i (slice_get (flights_on l w.links) i) refl
    event_after (event.Lose l i) names = loss_after (event.Lose l i) (is_tunnel l.class) (slice_get (flights_on l w.links) i)
    event_after (event.Again l i) names = copy_after (event.Again l i) l i (is_tunnel l.class) (slice_get (flights_on l w.links) i) refl
