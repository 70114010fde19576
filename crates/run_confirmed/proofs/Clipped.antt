-- What the terminal receives in a step is of generations below those that it may yet be told of: the others stay unused.
use Rattle.std.proofs.Common.{◌≡◌, ℕ, ◌+◌, ◌≤◌, true, false, Bool, List, [], ◌∷◌, Option, Some, None, Result, Ok, Err, sym, ap, ◌∙◌, subst, inl, inr, arith}
use Rattle.std.specs.Prelude.{if◌then◌else◌, nat_lt, not, ⊤}
use Rattle.std.specs.List.{AllByRecursion, list_any}
use Rattle.std.proofs.lemmas.Bool.{cases_Bool, lt-ltb, ltb-true}
use Rattle.dc_base.specs.Nodes.{is_same_node}
use Rattle.dc_base.specs.declared.events.Event.{Event}
use Rattle.dc_base.specs.declared.events.Event.TheVariants as event
use Rattle.dc_base.specs.declared.flights.Flight.{Flight}
use Rattle.dc_base.specs.declared.flights.Flight.TheVariants as flight
use Rattle.dc_base.specs.declared.nodes.Class.{Class}
use Rattle.dc_base.specs.declared.nodes.Class.TheVariants.{Air, Ctl, Feed, Tun}
use Rattle.dc_base.specs.declared.nodes.Node.{Node}
use Rattle.dc_base.specs.declared.nodes.Node.TheVariants.{T}
use Rattle.dc_base.specs.declared.records.Item.{Item}
use Rattle.dc_base.specs.declared.records.Item.TheVariants as item
use Rattle.dc_base.specs.declared.records.Plan.{Plan}
use Rattle.dc_base.specs.declared.records.Rec.{Rec}
use Rattle.dc_base.specs.declared.records.Rec.TheVariants as rec
use Rattle.key_chain.specs.KeyNames.{octets_of_side}
use Rattle.pdcp_pdu.specs.Pdu.{Content, decoded}
use Rattle.pdcp_pdu.specs.declared.pdu.PduErr.{PduErr}
use Rattle.pdcp_tx.specs.Sender.{Sender}
use Rattle.pdcp_tx.specs.Sending.{take_sdu}
use Rattle.pdcp_tx.specs.declared.tx.TxErr.{TxErr}
use Rattle.pdcp_tx.specs.declared.tx.TxErr.TheVariants as unable
use Rattle.transcript.proofs.OnEach.{each_append}
use Rattle.node_rules.specs.Choices.{Choices, Send}
use Rattle.node_rules.specs.Effects.{in_turn}
use Rattle.node_rules.specs.Entity.{Entity}
use Rattle.node_rules.specs.Flights.{Named, flight_named}
use Rattle.node_rules.specs.Held.{held}
use Rattle.node_rules.specs.Sending.{send_counts, send_kept, send_report}
use Rattle.node_rules.specs.Setup.{Setup, cell_of, node_of, setup_of}
use Rattle.node_rules.specs.Terminal.{TerminalNode, air_taken, air_taken_by, half_set, half_set_if, is_takable, item_taken, plan_taken, recovered_half, reported_there, scg_fails, submitted_there, terminal_control, terminal_event, terminal_record, terminal_step, terminal_takes}
use Rattle.node_rules.specs.TerminalHalf.{TerminalHalf, acked, is_taken, leg_send, pdu_came, silent, submit_as, terminal_air_in, with_sends}
use Rattle.node_rules.specs.declared.bearers.HalfOut.{HalfOut}
use Rattle.node_rules.specs.declared.bearers.OnLeg.{OnLeg}
use Rattle.node_rules.specs.declared.inputs.Input.{Input}
use Rattle.node_rules.specs.declared.inputs.Input.TheVariants.{Cmd, Come}
use Rattle.run_confirms.specs.Statuses.{IsAckOf}
use Rattle.run_control.proofs.Sent.{either}
use Rattle.run_generations.specs.Ahead.{HalvesBelow, IsHalfBelow}
use Rattle.run_senders.specs.Holders.{IfThere}
use Rattle.run_senders.proofs.Held.{held_so}
use Rattle.run_words.proofs.Lines.{each_flat}
use Rattle.run_words.specs.Senders.{AreBy as AreSentBy}
use Rattle.run_confirmed.specs.Flights.{IsTrueSend}
use Rattle.run_confirmed.specs.Nodes.{Goes, IsHalfOf, IsTerminalOf}
use Rattle.run_confirmed.specs.Stories.{AreBy, IsBy, IsInOrder, IsUnused, Layout, ReceivedBy, Stories, Story}
use Rattle.run_confirmed.proofs.Growing.{none_by}
use Rattle.run_confirmed.proofs.Terminals.{InputIsRight, terminal_goes}

module _ (k : ℕ) where
  -- ---- what the terminal acks

  -- an ack is of a generation below this one, and nothing goes through a tunnel
  abbrev IsMild : Send → Type 0
  IsMild (l, flight.Ack id g num) = g + 1 ≤ k
  IsMild (l, flight.Tun tag packet) = ⊥
  IsMild (l, flight.Air id g num tag pdu) = ⊤
  IsMild (l, flight.Sdu id g payload) = ⊤
  IsMild (l, flight.End id g) = ⊤
  IsMild (l, flight.Told id g count) = ⊤
  IsMild (l, flight.Ctl r) = ⊤

  abbrev AreMild : List Send → Type 0
  AreMild ss = AllByRecursion IsMild ss

  legs_mild : (done : Entity × List OnLeg) → AreMild (with_sends done).1
  legs_mild done =
      each_flat IsMild (λ (p : OnLeg). leg_send done.0.setup p (node_of done.0.setup.sec p.cell)) done.1 (λ p. one p (node_of done.0.setup.sec p.cell))
    where
      one : (p : OnLeg) (o : Option Node) → AreMild (leg_send done.0.setup p o)
      one p None = tt
      one p (Some y) = (tt, tt)

  came_mild : (h : TerminalHalf) (from : Node) (num : ℕ) (x : Result Content PduErr) → IsHalfBelow k h → AreMild (pdu_came h from num x).1.sends
  came_mild h from num (Err e) le = tt
  came_mild h from num (Ok x) le = (le, tt)

  air_mild : (h : TerminalHalf) (from : Node) (f : Flight) → IsHalfBelow k h → AreMild (terminal_air_in h from f).1.sends
  air_mild h from (flight.Air id g num tag pdu) le =
      either (λ (done : TerminalHalf × HalfOut). AreMild done.1.sends) (is_taken h.setup from id g) (pdu_came h from num (decoded h.setup.n pdu)) (h, silent) (came_mild h from num (decoded h.setup.n pdu) le) tt
  air_mild h from (flight.Ack id g num) le =
      either (λ (done : TerminalHalf × HalfOut). AreMild done.1.sends) (is_taken h.setup from id g) (acked h (cell_of from) num, silent) (h, silent) tt tt
  air_mild h from (flight.Tun tag packet) le = tt
  air_mild h from (flight.Sdu id g sdu) le = tt
  air_mild h from (flight.End id g) le = tt
  air_mild h from (flight.Told id g count) le = tt
  air_mild h from (flight.Ctl r) le = tt

  by_mild : (t : TerminalNode) (from : Node) (f : Flight) (id : ℕ) (o : Option TerminalHalf) → IfThere (IsHalfBelow k) o → AreMild (air_taken_by t from f id o).1.sends
  by_mild t from f id None le = tt
  by_mild t from f id (Some h) le = air_mild h from f le

  taken_mild : (t : TerminalNode) (from : Node) (f : Flight) (o : Option Named) → HalvesBelow k t → AreMild (air_taken t from f o).1.sends
  taken_mild t from f None below = tt
  taken_mild t from f (Some (id, g)) below = by_mild t from f id (held id t.halves) (held_so (IsHalfBelow k) id t.halves below)

  -- ---- records

  set_mild : (c : Choices) (t : TerminalNode) (id : ℕ) (s : Setup) (o : Option TerminalHalf) → AreMild (half_set c t id s o).1.sends
  set_mild c t id s None = tt
  set_mild c t id s (Some h) = legs_mild (send_kept c (record h { setup = s }))

  set_if_mild : (c : Choices) (t : TerminalNode) (id : ℕ) (o : Option Setup) → AreMild (half_set_if c t id o).1.sends
  set_if_mild c t id None = tt
  set_if_mild c t id (Some s) = set_mild c t id s (held id t.halves)

  item_mild : (c : Choices) (root : List ℕ) (p : Plan) (t : TerminalNode) (i : Item) → AreMild (item_taken c root p t i).1.sends
  item_mild c root p t (item.Set id n first shape threshold policy key old) =
      set_if_mild c t id (setup_of T p t.alg (octets_of_side root key.side) (item.Set id n first shape threshold policy key old))
  item_mild c root p t (item.Unset id) = tt

  items_mild : (c : Choices) (root : List ℕ) (p : Plan) (t : TerminalNode) (items : List Item) → AreMild (in_turn (item_taken c root p) t items).1.sends
  items_mild c root p t [] = tt
  items_mild c root p t (i ∷ items) =
      let one = item_taken c root p t i in
      each_append IsMild one.1.sends (in_turn (item_taken c root p) one.0 items).1.sends (item_mild c root p t i) (items_mild c root p one.0 items)

  plan_mild : (c : Choices) (root : List ℕ) (p : Plan) (t : TerminalNode) (takes : Bool) → AreMild (plan_taken c root p t takes).1.sends
  plan_mild c root p t true = (tt, items_mild c root p (record t { sec = p.sec }) p.items)
  plan_mild c root p t false = tt

  recovered_mild : (c : Choices) (t : TerminalNode) (id : ℕ) (o : Option TerminalHalf) → AreMild (recovered_half c t id o).1.sends
  recovered_mild c t id None = tt
  recovered_mild c t id (Some h) = (tt, legs_mild (send_kept c h))

  record_mild : (c : Choices) (t : TerminalNode) (r : Rec) → AreMild (terminal_record c t r).1.sends
  record_mild c t (rec.Reconf plan key) = plan_mild c key plan t (not (list_any (λ i. not (is_takable t i)) plan.items))
  record_mild c t (rec.Recov id) = recovered_mild c t id (held id t.halves)
  record_mild c t (rec.Rcomp g) = tt
  record_mild c t (rec.Scgf failed) = tt
  record_mild c t (rec.Recovd id) = tt
  record_mild c t (rec.Addreq plan key) = tt
  record_mild c t (rec.Addack g) = tt
  record_mild c t (rec.Addrej g) = tt
  record_mild c t (rec.Modreq plan key) = tt
  record_mild c t (rec.Modack g) = tt
  record_mild c t (rec.Modrej g) = tt
  record_mild c t (rec.Recfg g) = tt
  record_mild c t (rec.Relreq plan) = tt
  record_mild c t (rec.Relack g) = tt
  record_mild c t (rec.Relrej g) = tt
  record_mild c t (rec.Uecr g) = tt
  record_mild c t (rec.Snst status) = tt
  record_mild c t (rec.Moved g id) = tt
  record_mild c t (rec.Scgn id g) = tt
  record_mild c t rec.Modrqd = tt
  record_mild c t (rec.Modcnf g) = tt
  record_mild c t (rec.Modref word) = tt
  record_mild c t rec.Chgrqd = tt
  record_mild c t (rec.Chgcnf plan) = tt
  record_mild c t (rec.Chgref word) = tt
  record_mild c t rec.Relrqd = tt
  record_mild c t (rec.Relcnf plan) = tt

  control_mild : (c : Choices) (t : TerminalNode) (f : Flight) → AreMild (terminal_control c t f).1.sends
  control_mild c t (flight.Ctl r) = record_mild c t r
  control_mild c t (flight.Air id g num tag pdu) = tt
  control_mild c t (flight.Ack id g num) = tt
  control_mild c t (flight.Tun tag packet) = tt
  control_mild c t (flight.Sdu id g payload) = tt
  control_mild c t (flight.End id g) = tt
  control_mild c t (flight.Told id g count) = tt

  takes_mild : (c : Choices) (t : TerminalNode) (from : Node) (f : Flight) (class : Class) → HalvesBelow k t → AreMild (terminal_takes c t from f class).1.sends
  takes_mild c t from f Ctl below = control_mild c t f
  takes_mild c t from f Feed below = tt
  takes_mild c t from f Air below = taken_mild t from f (flight_named f) below
  takes_mild c t from f Tun below = tt

  -- ---- events

  submit_mild : (c : Choices) (h : TerminalHalf) (r : Result (Sender × ℕ) TxErr) → AreMild (submit_as c h r).2
  submit_mild c h (Ok (tx, count)) = legs_mild (send_counts c (record h { tx = tx }) (count ∷ []))
  submit_mild c h (Err (unable.Full lowest next)) = tt
  submit_mild c h (Err unable.Exhausted) = tt
  submit_mild c h (Err unable.Memory) = tt

  submitted_mild : (c : Choices) (t : TerminalNode) (id : ℕ) (payload : List ℕ) (o : Option TerminalHalf) → AreMild (submitted_there c t id payload o).1.sends
  submitted_mild c t id payload None = tt
  submitted_mild c t id payload (Some h) = submit_mild c h (take_sdu h.tx payload)

  reported_mild : (c : Choices) (t : TerminalNode) (id : ℕ) (o : Option TerminalHalf) → AreMild (reported_there c t id o).1.sends
  reported_mild c t id None = tt
  reported_mild c t id (Some h) = legs_mild (send_report c h)

  failure_mild : (t : TerminalNode) (o : Option Node) → AreMild (scg_fails t o).1.sends
  failure_mild t None = tt
  failure_mild t (Some x) = (tt, tt)

  event_mild : (c : Choices) (t : TerminalNode) (e : Event) → AreMild (terminal_event c t e).1.sends
  event_mild c t (event.Submit id d payload) = submitted_mild c t id payload (held id t.halves)
  event_mild c t (event.Report node id) = reported_mild c t id (held id t.halves)
  event_mild c t event.ScgFail = failure_mild t t.sec
  event_mild c t (event.Bearer id n first shape threshold policy) = tt
  event_mild c t (event.Reshape id shape) = tt
  event_mild c t (event.Remove id) = tt
  event_mild c t (event.Add node) = tt
  event_mild c t event.Change = tt
  event_mild c t event.Release = tt
  event_mild c t event.RekeySecond = tt
  event_mild c t (event.RekeyMaster root) = tt
  event_mild c t (event.Recover id) = tt
  event_mild c t (event.Deny node on) = tt
  event_mild c t (event.Ask node what) = tt
  event_mild c t (event.Step l i) = tt
  event_mild c t (event.Lose l i) = tt
  event_mild c t (event.Again l i) = tt

  step_mild : (c : Choices) (t : TerminalNode) (i : Input) → HalvesBelow k t → AreMild (terminal_step c t i).1.sends
  step_mild c t (Cmd e) below = event_mild c t e
  step_mild c t (Come l f) below = takes_mild c t l.from f l.class below

  -- ---- the stories, but for generations that it was not told of

  abbrev clipped : Stories → Stories → Stories
  clipped a b id g = if nat_lt g k then b id g else a id g

  clipped_below : (a b : Stories) (id g : ℕ) → g + 1 ≤ k → clipped a b id g ≡ b id g
  clipped_below a b id g le = ap (λ (t : Bool). if t then b id g else a id g) (lt-ltb g k (omega (arith, le)))

  module _ (layout : Layout) (a b : Stories) (order : (id g : ℕ) → IsInOrder (a id g)) (by : AreBy layout T a b) where
    clipped_by : AreBy layout T a (clipped a b)
    clipped_by id g = either (IsBy layout T id g (a id g)) (nat_lt g k) (b id g) (a id g) (by id g) (none_by layout T a order id g)

    half_clipped : (id : ℕ) (h : TerminalHalf) → IsHalfBelow k h → IsHalfOf layout b id h → IsHalfOf layout (clipped a b) id h
    half_clipped id h le is =
        record { same_id = is.same_id; n = is.n; rx = ap (λ (s : Story). s.rx) (clipped_below a b id h.setup.g le) ∙ is.rx }

    both_there : (id : ℕ) (o : Option TerminalHalf) → IfThere (IsHalfBelow k) o → IfThere (IsHalfOf layout b id) o → IfThere (IsHalfOf layout (clipped a b) id) o
    both_there id None le is = tt
    both_there id (Some h) le is = half_clipped id h le is

    sends_clipped : (ss : List Send) → AreMild ss → AreSentBy T ss → AllByRecursion (IsTrueSend layout b) ss → AllByRecursion (IsTrueSend layout (clipped a b)) ss
    sends_clipped [] mild own all = tt
    sends_clipped ((l, flight.Air id g num tag pdu) ∷ ss) mild own all = (
      λ down. absurd (let bad : true ≡ false = sym (ap (λ (y : Node). is_same_node y T) own.0.0) ∙ down in cc),
      sends_clipped ss mild.1 own.1 all.1,
    )
    sends_clipped ((l, flight.Ack id g num) ∷ ss) mild own all = (
      λ up. subst (λ (s : Story). IsAckOf (if is_same_node l.to (layout.home id g) then s.own else s.far) (ReceivedBy s.rx) num) (sym (clipped_below a b id g mild.0)) (all.0 up),
      sends_clipped ss mild.1 own.1 all.1,
    )
    sends_clipped ((l, flight.Tun tag packet) ∷ ss) mild own all = absurd mild.0
    sends_clipped ((l, flight.Ctl r) ∷ ss) mild own all = (all.0, sends_clipped ss mild.1 own.1 all.1)
    sends_clipped ((l, flight.Sdu id g payload) ∷ ss) mild own all = (tt, sends_clipped ss mild.1 own.1 all.1)
    sends_clipped ((l, flight.End id g) ∷ ss) mild own all = (tt, sends_clipped ss mild.1 own.1 all.1)
    sends_clipped ((l, flight.Told id g count) ∷ ss) mild own all = (tt, sends_clipped ss mild.1 own.1 all.1)

-- a step of the terminal, after which what was not used yet from this generation on is not
pub record TerminalStaysUnused (layout : Layout) (k : ℕ) (stories : Stories) (state : TerminalNode) (sent : List Send) : Type 0 where
  pub goes : Goes layout T (λ (later : Stories) (t : TerminalNode). IsTerminalOf layout later t) stories state sent
  pub unused : (id g : ℕ) → k ≤ g → IsUnused layout T id g (goes.later id g)

pub terminal_unused : (layout : Layout) (k : ℕ) (stories : Stories) (order : (id g : ℕ) → IsInOrder (stories id g))
    (unused : (id g : ℕ) → k ≤ g → IsUnused layout T id g (stories id g)) (c : Choices) (t : TerminalNode) (i : Input)
    → InputIsRight layout stories t i → IsTerminalOf layout stories t
    → HalvesBelow k t → HalvesBelow k (terminal_step c t i).0 → AreSentBy T (terminal_step c t i).1.sends
    → TerminalStaysUnused layout k stories (terminal_step c t i).0 (terminal_step c t i).1.sends
terminal_unused layout k stories order unused c t i right is had has own =
    let got = terminal_goes layout stories order c t i right is in
    let t' = (terminal_step c t i).0 in
    record {
      goes = record {
        later = clipped k stories got.later;
        by = clipped_by k layout stories got.later order got.by;
        so = record {
          halves = λ id. both_there k layout stories got.later order got.by id (held id t'.halves) (held_so (IsHalfBelow k) id t'.halves has) (got.so.halves id);
          ascend = got.so.ascend;
        };
        sends = sends_clipped k layout stories got.later order got.by (terminal_step c t i).1.sends (step_mild k c t i had) own got.sends;
      };
      unused = λ id g above. subst (IsUnused layout T id g) (sym (ap (λ (b : Bool). if b then got.later id g else stories id g) (not_less g k above))) (unused id g above);
    }
  where
    not_less : (g k : ℕ) → k ≤ g → nat_lt g k ≡ false
    not_less g k above = elim (cases_Bool (nat_lt g k)) [ inl less ↦ absurd (let le = ltb-true g k less in omega (arith, le, above)) | inr is ↦ is ]
