-- Whatever the master takes, it adds to the stories of its anchors and leg hosts alone.
use Rattle.std.proofs.Common.{◌≡◌, ℕ, ◌+◌, ◌<◌, ◌≤◌, ◌^◌, true, false, Bool, List, [], ◌∷◌, Option, Some, None, Result, Ok, Err, length, refl, sym, ap, ◌∙◌, subst, inl, inr, arith}
use Rattle.std.specs.List.{AllByRecursion}
use Rattle.dc_base.specs.Links.{link}
use Rattle.dc_base.specs.Nodes.{is_same_node}
use Rattle.dc_base.specs.declared.answers.Refusal.{Refusal}
use Rattle.dc_base.specs.declared.events.Event.{Event}
use Rattle.dc_base.specs.declared.events.Event.TheVariants as event
use Rattle.dc_base.specs.declared.flights.Flight.{Flight}
use Rattle.dc_base.specs.declared.flights.Flight.TheVariants as flight
use Rattle.dc_base.specs.declared.nodes.Cell.TheVariants as cell
use Rattle.dc_base.specs.declared.nodes.Class.{Class}
use Rattle.dc_base.specs.declared.nodes.Class.TheVariants.{Air, Ctl, Feed, Tun}
use Rattle.dc_base.specs.declared.nodes.LinkId.{LinkId}
use Rattle.dc_base.specs.declared.nodes.Node.{Node}
use Rattle.dc_base.specs.declared.nodes.Node.TheVariants.{A, B, M, T}
use Rattle.dc_base.specs.declared.records.StatusTransfer.{StatusTransfer}
use Rattle.node_rules.specs.Acts.{ProcFault, first_refusal, refused, unexpected}
use Rattle.node_rules.specs.Adopting.{status_in}
use Rattle.node_rules.specs.Anchor.{AnchorState, setup_at}
use Rattle.node_rules.specs.AnchorReceiving.{air_in, tunnel_in}
use Rattle.node_rules.specs.AnchorSending.{report, submit}
use Rattle.node_rules.specs.Choices.{Choices, Send}
use Rattle.node_rules.specs.CommandTable.{row}
use Rattle.node_rules.specs.Effects.{after_effects, in_turn, quiet, unless}
use Rattle.node_rules.specs.Flights.{Named, flight_named}
use Rattle.node_rules.specs.Held.{held}
use Rattle.node_rules.specs.Host.{Host}
use Rattle.node_rules.specs.HostRules.{host_air_in, host_tunnel_in}
use Rattle.node_rules.specs.Master.{MasterNode, anchor_did}
use Rattle.node_rules.specs.MasterCommands.{master_command}
use Rattle.node_rules.specs.MasterPlan.{adopts_if, does, master_act, master_did, on_waiting}
use Rattle.node_rules.specs.MasterState.{MasterActs, MasterProc, has_bearer}
use Rattle.node_rules.specs.MasterStep.{command_taken, commanded, control_taken, data_taken, is_anchor_of, line_taken, master_event, master_step, master_takes, on_host, record_taken, report_asked, settled_row, submit_refusals, submitted, submitted_to, to_anchor_at, with_accepted}
use Rattle.node_rules.specs.MasterTaking.{master_adopted, master_take}
use Rattle.node_rules.specs.declared.acts.Act.{Act}
use Rattle.node_rules.specs.declared.acts.Act.TheVariants.{FailOne as fail_one, Go as go, Pass as pass, Prepare as prepare, RecoverOne as recover_one, Say as say, Send as send, UnlockAll as unlock_all}
use Rattle.node_rules.specs.declared.bearers.AnchorOut.{AnchorOut}
use Rattle.node_rules.specs.declared.bearers.Window.{Window}
use Rattle.node_rules.specs.declared.commands.Row.{Row}
use Rattle.node_rules.specs.declared.inputs.Effects.{Effects}
use Rattle.node_rules.specs.declared.inputs.Input.{Input}
use Rattle.node_rules.specs.declared.inputs.Input.TheVariants.{Cmd, Come}
use Rattle.run_control.proofs.Sent.{either}
use Rattle.run_generations.proofs.Keeping.{host_air, host_tunnel}
use Rattle.run_senders.specs.Holders.{IfThere}
use Rattle.run_confirmed.specs.Flights.{IsReadRight, IsTrue}
use Rattle.run_confirmed.specs.Masters.{AdoptsSo, CommandsSo, ControlsSo, Does, IsMasterFrom, IsMasterNow, IsYoung, Passes, TakesSo, is_pass, next_of, taken_by}
use Rattle.run_confirmed.specs.Nodes.{Goes, IsAnchorOf, IsHostOf}
use Rattle.run_confirmed.specs.Stories.{Layout, Stories}
use Rattle.run_confirmed.proofs.Held.{if_there}
use Rattle.run_confirmed.proofs.Hosts.{HostGoes, host_air_goes, host_tunnel_goes}
use Rattle.run_confirmed.proofs.MasterPlans.{acts_go}
use Rattle.run_confirmed.proofs.Masters.{AllMay, At, AtGoes, InOrder, at_later, did_goes, held_goes, on_host_goes, seen_to, then_to, told_by_goes}
use Rattle.run_confirmed.proofs.Seconds.{order_then, stays_goes}
use Rattle.run_confirmed.proofs.Steps.{air_is, air_lacks, passed_is, passed_lacks, report_is, report_lacks, submit_is, submit_lacks, tunnel_lacks, tunnelled_is}

module _ (layout : Layout) (c : Choices) where
  -- what it has now
  abbrev pub Now : Stories → MasterNode → Type 0
  Now stories m = IsMasterNow layout stories m

  abbrev pub NowGoes : Stories → MasterNode × Effects → Type 0
  NowGoes stories done = Goes layout M Now stories done.0 done.1.sends

  now_of : (q : MasterProc) (stories : Stories) (m : MasterNode) → At layout q (next_of q) stories m → Now stories m
  now_of q stories m is = subst (λ (z : MasterProc). IsMasterFrom layout z (next_of z) stories m) (sym is.procs) is

  now_goes : (q : MasterProc) (stories : Stories) (m : MasterNode) (sent : List Send) → Goes layout M (At layout q (next_of q)) stories m sent
      → Goes layout M Now stories m sent
  now_goes q stories m sent g = seen_to layout M (At layout q (next_of q)) Now stories m sent (λ later is. now_of q later m is) g

  idle : (stories : Stories) → InOrder layout stories → (m : MasterNode) → Now stories m → NowGoes stories (m, quiet)
  idle stories order m is = stays_goes layout M Now stories order m [] is tt

  -- with other procedures
  with_proc : (from : ℕ) (stories : Stories) (m : MasterNode) (q r : MasterProc) → At layout q from stories m → At layout r from stories (record m { proc = r })
  with_proc from stories m q r is = record {
    has = record { anchors = is.has.anchors; hosts = is.has.hosts; anchors_ascend = is.has.anchors_ascend; hosts_ascend = is.has.hosts_ascend };
    procs = refl;
    young = is.young;
    below = is.below;
    unused = is.unused;
  }

  -- what its procedures have it do after a step
  does_goes : (stories : Stories) → InOrder layout stories → (m : MasterNode) (r : MasterActs) → Does layout m.proc r → Now stories m
      → NowGoes stories (does c m r)
  does_goes stories order m r may is =
      let k : MasterNode = record m { proc = r.0 } in
      let done = in_turn (master_act c) k r.1 in
      now_goes r.0 stories done.0 done.1.sends (acts_go layout r.0 (next_of m.proc) (next_of r.0) stories order c k r.1 may (with_proc (next_of m.proc) stories m m.proc r.0 is))

  -- an anchor may adopt its bearer
  adopting : (q : MasterProc) (stories : Stories) → InOrder layout stories → (id g : ℕ) (adopted : Bool) (done : MasterNode × Effects)
      → (adopted ≡ true → Does layout q (master_adopted q id)) → AtGoes layout q (next_of q) stories done
      → NowGoes stories (adopts_if c id g adopted done)
  adopting q stories order id g false done adopts first = now_goes q stories done.0 done.1.sends first
  adopting q stories order id g true done adopts first =
      let r = master_adopted done.0.proc id in
      let more = does c done.0 r in
      let may : Does layout done.0.proc r = subst (λ (z : MasterProc). Does layout z (master_adopted z id)) (sym first.so.procs) (adopts refl) in
      let now = now_of q first.later done.0 first.so in
      let rest = does_goes first.later (order_then layout M (At layout q (next_of q)) stories done.0 done.1.sends first) done.0 r may now in
      then_to layout M (At layout q (next_of q)) Now stories done.0 more.0 done.1.sends more.1.sends first rest

  waiting_goes : (stories : Stories) → InOrder layout stories → (m : MasterNode) (id : ℕ) (f : AnchorState → AnchorState × AnchorOut)
      → AllMay layout (next_of m.proc) f → AdoptsSo layout m.proc f id (held id m.anchors) → Now stories m
      → NowGoes stories (on_waiting c m id f (held id m.anchors))
  waiting_goes stories order m id f may adopts is = by (held id m.anchors) (is.has.anchors id) (is.young id) adopts
    where
      by : (o : Option AnchorState) → IfThere (IsAnchorOf layout stories M id) o → IfThere (IsYoung (next_of m.proc)) o → AdoptsSo layout m.proc f id o
          → NowGoes stories (on_waiting c m id f o)
      by None here young adopts = idle stories order m is
      by (Some a) here young adopts =
          let done = anchor_did m id (f a) in
          adopting m.proc stories order id (setup_at a).g (f a).1.adopted done adopts (did_goes layout m.proc (next_of m.proc) stories order m id a (f a) here young (may a here.steady) is)

  -- ---- a record

  passed_may : (from : ℕ) (st : StatusTransfer) → st.dl < 2 ^ 32 → st.g + 1 ≤ from → AllMay layout from (λ a. status_in c a st)
  passed_may from st small below a steady = record {
    step = passed_is c st small a steady;
    lacks = λ above lacks. passed_lacks c st a (λ same. absurd (omega (arith, below, above, same))) lacks;
  }

  one_same : (m : MasterNode) (a : Act) → is_pass a ≡ false → master_did c m a ≡ master_act c m a
  one_same m (send to r) none = refl
  one_same m (prepare p) none = refl
  one_same m (go p) none = refl
  one_same m (unlock_all g) none = refl
  one_same m (say n) none = refl
  one_same m (recover_one id) none = refl
  one_same m (fail_one id g) none = refl
  one_same m (pass st) none = absurd (let bad : true ≡ false = none in cc)

  -- acts without a status transfer do the same
  pub did_same : (m : MasterNode) (acts : List Act) → AllByRecursion (λ (a : Act). is_pass a ≡ false) acts
      → in_turn (master_did c) m acts ≡ in_turn (master_act c) m acts
  did_same m [] none = refl
  did_same m (a ∷ acts) none =
      ap (λ (here : MasterNode × Effects). after_effects here.1 (in_turn (master_did c) here.0 acts)) (one_same m a none.0) ∙ ap (after_effects (master_act c m a).1) (did_same (master_act c m a).0 acts none.1)

  -- a status transfer is taken
  pass_goes : (stories : Stories) → InOrder layout stories → (m : MasterNode) (r : MasterActs) → Passes layout c m r → Now stories m
      → NowGoes stories (record_taken c m (Ok r))
  pass_goes stories order m r passes is =
      let st = passes.status in
      let k : MasterNode = record m { proc = r.0 } in
      let now : Now stories k = at_later layout r.0 (next_of m.proc) (next_of r.0) stories k passes.rises (with_proc (next_of m.proc) stories m m.proc r.0 is) in
      let done = on_waiting c k st.id (λ a. status_in c a st) (held st.id m.anchors) in
      let one = waiting_goes stories order k st.id (λ a. status_in c a st) (passed_may (next_of r.0) st passes.small passes.older) passes.adopts now in
      let rest = stays_goes layout M Now one.later (order_then layout M Now stories done.0 done.1.sends one) done.0 [] one.so tt in
      subst (λ (l : List Act). NowGoes stories (in_turn (master_did c) k l)) (sym passes.acts) (then_to layout M Now Now stories done.0 done.0 done.1.sends [] one rest)

  record_goes : (stories : Stories) → InOrder layout stories → (m : MasterNode) (r : Result MasterActs ProcFault) → TakesSo layout c m r → Now stories m
      → NowGoes stories (record_taken c m r)
  record_goes stories order m (Ok r) (inl takes) is =
      subst (NowGoes stories) (sym (did_same (record m { proc = r.0 }) r.1 takes.0)) (does_goes stories order m r takes.1 is)
  record_goes stories order m (Ok r) (inr passes) is = pass_goes stories order m r passes is
  record_goes stories order m (Err why) takes is = idle stories order m is

  -- ---- flights

  -- what is needed of a flight: it comes over the air from the terminal alone, to the master; it is so and is read right, and its procedures
  -- carry out what they may
  pub record ComesRight (stories : Stories) (m : MasterNode) (l : LinkId) (f : Flight) : Type 0 where
    pub from : l.class ≡ Air → is_same_node l.from T ≡ true
    pub to : l.to ≡ M
    pub true' : IsTrue layout stories l f
    pub reads : IsReadRight layout stories l f
    pub adopts : (id : ℕ) → AdoptsSo layout m.proc (taken_by c l.class f) id (held id m.anchors)
    pub controls : l.class ≡ Ctl → ControlsSo layout c m l.from f

  host_goes : (stories : Stories) (order : InOrder layout stories) (m : MasterNode) (id : ℕ) (f : Host → Host × List Send) → ((h : Host) → (f h).0.g ≡ h.g)
      → ((y : Host) → IsHostOf layout stories M id y → HostGoes layout M stories order id y.g (f y)) → Now stories m
      → NowGoes stories (on_host m id f (held id m.hosts))
  host_goes stories order m id f same hosts is =
      let done = on_host m id f (held id m.hosts) in
      now_goes m.proc stories done.0 done.1.sends
      (on_host_goes layout m.proc (next_of m.proc) stories order m id f same (held id m.hosts)
      (if_there (IsHostOf layout stories M id) (λ (y : Host). HostGoes layout M stories order id y.g (f y)) (λ y was. hosts y was) (held id m.hosts) (is.has.hosts id)) (is.has.hosts id) (is.below id) is)

  data_goes : (stories : Stories) (order : InOrder layout stories) (m : MasterNode) (f : AnchorState → AnchorState × AnchorOut) (h : Host → Host × List Send) (o : Option Named) → AllMay layout (next_of m.proc) f
      → ((id : ℕ) → AdoptsSo layout m.proc f id (held id m.anchors)) → ((y : Host) → (h y).0.g ≡ y.g)
      → ((id : ℕ) (y : Host) → IsHostOf layout stories M id y → HostGoes layout M stories order id y.g (h y)) → Now stories m
      → NowGoes stories (data_taken c m f h o)
  data_goes stories order m f h None may adopts same hosts is = idle stories order m is
  data_goes stories order m f h (Some (id, g)) may adopts same hosts is =
      either (NowGoes stories) (is_anchor_of g (held id m.anchors)) (on_waiting c m id f (held id m.anchors)) (on_host m id h (held id m.hosts)) (waiting_goes stories order m id f may (adopts id) is)
      (host_goes stories order m id h same (hosts id) is)

  air_may : (from : ℕ) (f : Flight) → AllMay layout from (λ a. air_in a cell.Mcg f)
  air_may from f a steady = record { step = air_is cell.Mcg f a steady; lacks = λ above lacks. air_lacks cell.Mcg f a lacks }

  tunnel_may : (from : ℕ) (f : Flight) → AllMay layout from (λ a. tunnel_in c a f)
  tunnel_may from f a steady = record { step = tunnelled_is c f a steady; lacks = λ above lacks. tunnel_lacks c f a lacks }

  line_goes : (stories : Stories) → InOrder layout stories → (m : MasterNode) (f : Flight) → Now stories m → NowGoes stories (line_taken m f)
  line_goes stories order m (flight.Told id g count) is =
      let done = line_taken m (flight.Told id g count) in
      now_goes m.proc stories done.0 done.1.sends (told_by_goes layout m.proc (next_of m.proc) stories order m id g count (row m.proc.table id) is)
  line_goes stories order m (flight.Sdu id g payload) is = idle stories order m is
  line_goes stories order m (flight.End id g) is = idle stories order m is
  line_goes stories order m (flight.Air id g num tag pdu) is = idle stories order m is
  line_goes stories order m (flight.Ack id g num) is = idle stories order m is
  line_goes stories order m (flight.Tun tag packet) is = idle stories order m is
  line_goes stories order m (flight.Ctl r) is = idle stories order m is

  control_goes : (stories : Stories) → InOrder layout stories → (m : MasterNode) (from : Node) (f : Flight) → ControlsSo layout c m from f → Now stories m
      → NowGoes stories (control_taken c m from f)
  control_goes stories order m from (flight.Ctl r) takes is = record_goes stories order m (master_take from m.proc r) takes is
  control_goes stories order m from (flight.Air id g num tag pdu) takes is = idle stories order m is
  control_goes stories order m from (flight.Ack id g num) takes is = idle stories order m is
  control_goes stories order m from (flight.Tun tag packet) takes is = idle stories order m is
  control_goes stories order m from (flight.Sdu id g payload) takes is = idle stories order m is
  control_goes stories order m from (flight.End id g) takes is = idle stories order m is
  control_goes stories order m from (flight.Told id g count) takes is = idle stories order m is

  takes_goes : (stories : Stories) → InOrder layout stories → (m : MasterNode) (l : LinkId) (f : Flight) (k : Class) → l.class ≡ k → ComesRight stories m l f
      → Now stories m → NowGoes stories (master_takes c m l.from f k)
  takes_goes stories order m l f Ctl class right is = control_goes stories order m l.from f (right.controls class) is
  takes_goes stories order m l f Feed class right is = line_goes stories order m f is
  takes_goes stories order m l f Air class right is =
      data_goes stories order m (λ a. air_in a cell.Mcg f) (λ h. host_air_in h f) (flight_named f) (air_may (next_of m.proc) f) (λ id. subst (λ (j : Class). AdoptsSo layout m.proc (taken_by c j f) id (held id m.anchors)) class (right.adopts id)) (host_air f)
      (λ id y was. host_air_goes layout M stories order id y l f refl was (right.from class) right.to right.true') is
  takes_goes stories order m l f Tun class right is =
      data_goes stories order m (λ a. tunnel_in c a f) (λ h. host_tunnel_in h f) (flight_named f) (tunnel_may (next_of m.proc) f) (λ id. subst (λ (j : Class). AdoptsSo layout m.proc (taken_by c j f) id (held id m.anchors)) class (right.adopts id)) (host_tunnel f)
      (λ id y was. host_tunnel_goes layout M stories order id y l f was right.true' right.reads) is

  -- ---- its events

  commanded_goes : (stories : Stories) → InOrder layout stories → (m : MasterNode) (r : Result MasterActs ProcFault) → CommandsSo layout m.proc r
      → Now stories m
      → Goes layout M Now stories (commanded c m r).0 (commanded c m r).1.sends
  commanded_goes stories order m (Ok r) takes is = does_goes stories order m r takes is
  commanded_goes stories order m (Err (refused why)) takes is = idle stories order m is
  commanded_goes stories order m (Err (unexpected k)) takes is = idle stories order m is

  command_goes : (stories : Stories) → InOrder layout stories → (m : MasterNode) (e : Event)
      → CommandsSo layout m.proc (master_command (length c.policies) m.proc e) → Now stories m
      → Goes layout M Now stories (command_taken c m e).0 (command_taken c m e).1.sends
  command_goes stories order m e so is = commanded_goes stories order m (master_command (length c.policies) m.proc e) so is

  submit_may : (from : ℕ) (payload : List ℕ) → AllMay layout from (λ a. submit c a payload)
  submit_may from payload a steady = record { step = submit_is c payload a steady; lacks = λ above lacks. submit_lacks c payload a lacks }

  report_may : (from : ℕ) → AllMay layout from (report c)
  report_may from a steady = record { step = report_is c a steady; lacks = λ above lacks. report_lacks c a lacks }

  to_anchor_goes : (stories : Stories) → InOrder layout stories → (m : MasterNode) (id g : ℕ) (payload : List ℕ) (x : Node) → Now stories m
      → NowGoes stories (to_anchor_at c m id g payload x)
  to_anchor_goes stories order m id g payload M is =
      let done = to_anchor_at c m id g payload M in
      now_goes m.proc stories done.0 done.1.sends (held_goes layout m.proc (next_of m.proc) stories order m id (λ a. submit c a payload) (submit_may (next_of m.proc) payload) is)
  to_anchor_goes stories order m id g payload A is = stays_goes layout M Now stories order m ((link M A Feed, flight.Sdu id g payload) ∷ []) is (tt, tt)
  to_anchor_goes stories order m id g payload B is = stays_goes layout M Now stories order m ((link M B Feed, flight.Sdu id g payload) ∷ []) is (tt, tt)
  to_anchor_goes stories order m id g payload T is = idle stories order m is

  unless_goes : (stories : Stories) → InOrder layout stories → (m : MasterNode) (o : Option Refusal) (done : MasterNode × Effects) → Now stories m
      → NowGoes stories done
      → Goes layout M Now stories (unless m o done).0 (unless m o done).1.sends
  unless_goes stories order m None done is goes = goes
  unless_goes stories order m (Some why) done is goes = idle stories order m is

  accepted_is : (stories : Stories) (m : MasterNode) (id : ℕ) (w : Window) → Now stories m → Now stories (with_accepted m id w)
  accepted_is stories m id w is = record {
    has = record { anchors = is.has.anchors; hosts = is.has.hosts; anchors_ascend = is.has.anchors_ascend; hosts_ascend = is.has.hosts_ascend };
    procs = is.procs;
    young = is.young;
    below = is.below;
    unused = is.unused;
  }

  submitted_to_goes : (stories : Stories) → InOrder layout stories → (m : MasterNode) (id : ℕ) (payload : List ℕ) (r : Row) (o : Option Window) → Now stories m
      → Goes layout M Now stories (submitted_to c m id payload r o).0 (submitted_to c m id payload r o).1.sends
  submitted_to_goes stories order m id payload r None is = idle stories order m is
  submitted_to_goes stories order m id payload r (Some w) is =
      let k = with_accepted m id w in
      unless_goes stories order m (first_refusal (submit_refusals r w)) (to_anchor_at c k id r.g payload r.anchor) is
      (to_anchor_goes stories order k id r.g payload r.anchor (accepted_is stories m id w is))

  submitted_goes : (stories : Stories) → InOrder layout stories → (m : MasterNode) (id : ℕ) (payload : List ℕ) (o : Option Row) → Now stories m
      → Goes layout M Now stories (submitted c m id payload o).0 (submitted c m id payload o).1.sends
  submitted_goes stories order m id payload None is = idle stories order m is
  submitted_goes stories order m id payload (Some r) is = submitted_to_goes stories order m id payload r (held id m.windows) is

  report_goes : (stories : Stories) → InOrder layout stories → (m : MasterNode) (id : ℕ) (has : Bool) → Now stories m
      → Goes layout M Now stories (report_asked c m id has).0 (report_asked c m id has).1.sends
  report_goes stories order m id false is = idle stories order m is
  report_goes stories order m id true is =
      let done = report_asked c m id true in
      now_goes m.proc stories done.0 done.1.sends (held_goes layout m.proc (next_of m.proc) stories order m id (report c) (report_may (next_of m.proc)) is)

  event_goes : (stories : Stories) → InOrder layout stories → (m : MasterNode) (e : Event)
      → CommandsSo layout m.proc (master_command (length c.policies) m.proc e) → Now stories m
      → Goes layout M Now stories (master_event c m e).0 (master_event c m e).1.sends
  event_goes stories order m (event.Bearer id n first shape threshold policy) so is =
      command_goes stories order m (event.Bearer id n first shape threshold policy) so is
  event_goes stories order m (event.Reshape id shape) so is = command_goes stories order m (event.Reshape id shape) so is
  event_goes stories order m (event.Remove id) so is = command_goes stories order m (event.Remove id) so is
  event_goes stories order m (event.Add node) so is = command_goes stories order m (event.Add node) so is
  event_goes stories order m event.Change so is = command_goes stories order m event.Change so is
  event_goes stories order m event.Release so is = command_goes stories order m event.Release so is
  event_goes stories order m event.RekeySecond so is = command_goes stories order m event.RekeySecond so is
  event_goes stories order m (event.RekeyMaster root) so is = command_goes stories order m (event.RekeyMaster root) so is
  event_goes stories order m (event.Recover id) so is = command_goes stories order m (event.Recover id) so is
  event_goes stories order m (event.Report node id) so is = report_goes stories order m id (has_bearer m.proc id) is
  event_goes stories order m (event.Deny node on) so is = idle stories order m is
  event_goes stories order m (event.Ask node what) so is = idle stories order m is
  event_goes stories order m event.ScgFail so is = idle stories order m is
  event_goes stories order m (event.Submit id d payload) so is = submitted_goes stories order m id payload (settled_row m id) is
  event_goes stories order m (event.Step l i) so is = idle stories order m is
  event_goes stories order m (event.Lose l i) so is = idle stories order m is
  event_goes stories order m (event.Again l i) so is = idle stories order m is

  -- what is needed of an input
  abbrev pub InputIsRight : Stories → MasterNode → Input → Type 0
  InputIsRight stories m (Cmd e) = CommandsSo layout m.proc (master_command (length c.policies) m.proc e)
  InputIsRight stories m (Come l f) = ComesRight stories m l f

  -- whatever it takes
  pub master_goes : (stories : Stories) → InOrder layout stories → (m : MasterNode) (i : Input) → InputIsRight stories m i → Now stories m
      → Goes layout M Now stories (master_step c m i).0 (master_step c m i).1.sends
  master_goes stories order m (Cmd e) right is = event_goes stories order m e right is
  master_goes stories order m (Come l f) right is = takes_goes stories order m l f l.class refl right is
