-- What the terminal sends follows on from what it sent before, whatever it takes: each leg of each of its bearers goes on, and a new
-- generation begins anew.
use Rattle.std.proofs.Common.{ℕ, ◌≡◌, ◌≤◌, ◌++◌, ◌+◌, ◌==◌, Bool, true, false, List, [], ◌∷◌, Option, Some, None, map, refl, sym, ap, subst, ◌∙◌, arith, append_assoc}
use Rattle.std.specs.Prelude.{Err, Ok, Result, filter_map, if◌then◌else◌, not}
use Rattle.std.specs.List.{list_any}
use Rattle.std.proofs.lemmas.Bool.{ne_eqb}
use Rattle.dc_base.specs.Records.{item_id}
use Rattle.dc_base.specs.declared.events.Event.{Event}
use Rattle.dc_base.specs.declared.events.Event.TheVariants as event
use Rattle.dc_base.specs.declared.flights.Flight.{Flight}
use Rattle.dc_base.specs.declared.flights.Flight.TheVariants as flight
use Rattle.dc_base.specs.Links.{is_same_link, link}
use Rattle.dc_base.specs.declared.nodes.Cell.{Cell}
use Rattle.dc_base.specs.declared.nodes.Cell.TheVariants.{Scg}
use Rattle.dc_base.specs.declared.nodes.Class.{Class}
use Rattle.dc_base.specs.declared.nodes.Class.TheVariants.{Air, Ctl, Feed, Tun}
use Rattle.dc_base.specs.declared.nodes.LinkId.{LinkId}
use Rattle.dc_base.specs.declared.nodes.Node.{Node}
use Rattle.dc_base.specs.declared.nodes.Node.TheVariants.{A, B, M, T}
use Rattle.dc_base.specs.declared.records.Item.{Item}
use Rattle.dc_base.specs.declared.records.Item.TheVariants as item
use Rattle.dc_base.specs.declared.records.Plan.{Plan}
use Rattle.dc_base.specs.declared.records.Rec.{Rec}
use Rattle.dc_base.specs.declared.records.Rec.TheVariants as rec
use Rattle.pdcp_pdu.specs.Pdu.{Content, decoded}
use Rattle.pdcp_pdu.specs.StatusReport.{report_pdu}
use Rattle.pdcp_pdu.specs.declared.pdu.PduErr.{PduErr}
use Rattle.pdcp_rx.specs.Entries.{counts_of}
use Rattle.pdcp_tx.specs.Sender.{Sender, counts}
use Rattle.pdcp_tx.specs.Sending.{take_sdu}
use Rattle.pdcp_tx.specs.declared.tx.TxErr.{TxErr}
use Rattle.pdcp_tx.specs.declared.tx.TxErr.TheVariants as unable
use Rattle.split_leg.specs.Legs.{leg_at, with_ack, with_leg}
use Rattle.node_rules.specs.Choices.{Choices, Send}
use Rattle.node_rules.specs.Effects.{in_turn}
use Rattle.node_rules.specs.Entity.{Entity, renewed, take_pdu}
use Rattle.node_rules.specs.Flights.{Named, flight_named}
use Rattle.node_rules.specs.Held.{held}
use Rattle.node_rules.specs.Sending.{Pdu, pdu_at, send_counts, send_kept, send_report}
use Rattle.node_rules.specs.Setup.{Setup, cell_of, has_cell, with_failed_scg}
use Rattle.node_rules.specs.Terminal.{TerminalNode, air_taken, air_taken_by, half_set, is_takable, item_taken, plan_taken, recovered_half, reported_there, scg_fails, submitted_there, terminal_event, terminal_record, terminal_step, terminal_takes, with_half}
use Rattle.node_rules.specs.TerminalHalf.{TerminalHalf, ack, acked, is_taken, pdu_came, silent, submit_as, terminal_air_in, terminal_fail, terminal_new, with_sends}
use Rattle.node_rules.specs.declared.bearers.HalfOut.{HalfOut}
use Rattle.node_rules.specs.declared.bearers.OnLeg.{OnLeg}
use Rattle.node_rules.specs.declared.inputs.Effects.{Effects}
use Rattle.node_rules.specs.declared.inputs.Input.{Input}
use Rattle.node_rules.specs.declared.inputs.Input.TheVariants.{Cmd, Come}
use Rattle.master_runs.proofs.Holding.{held-cons}
use Rattle.run_confirms.proofs.Confirming.{ack_same}
use Rattle.run_control.specs.Orders.{Ascends, AscendsFrom}
use Rattle.run_control.specs.Sound.{IsSecond}
use Rattle.run_control.proofs.Ascending.{ascends_with, ascends_without}
use Rattle.run_legs.specs.Entities.{HasSent}
use Rattle.run_legs.proofs.Entities.{counts_sent, has_sent, kept_sent}
use Rattle.run_relays.specs.Pdus.{Ascend}
use Rattle.run_numbers.specs.Histories.{ArePut, NoneOf, OnlyOf, counted_from}
use Rattle.run_numbers.specs.Records.{ComesNew, HalfSends, IsHalfPut, IsNewPlan, IsTerminalPut, TerminalGoes, leg_on, leg_sents}
use Rattle.run_numbers.proofs.Halves.{half_sends}
use Rattle.run_numbers.proofs.Holding.{ack_none, all_stay, follow_both, none_other, nothing_follows, only_follow, put_in, put_out, record_none}
use Rattle.run_numbers.proofs.Puts.{next_follow, next_put, none_put}
use Rattle.run_numbers.proofs.Sending.{legs_stay, new_on, nothing_sends, taken_same, taken_setup}

-- ---- bearers that are held

-- the identity and the generation of a bearer
abbrev id_of : TerminalHalf → ℕ
id_of h = h.setup.id

abbrev g_of : TerminalHalf → ℕ
g_of h = h.setup.g

half_stays : (sent sends : List Send) (h : TerminalHalf) → NoneOf h.setup.id h.setup.g sends → IsHalfPut sent h → IsHalfPut (sent ++ sends) h
half_stays sent sends h none is = record { second = is.second; legs = λ l. none_put sent l h.setup.id h.setup.g (leg_on l h.setup) sends (none l) (is.legs l) }

-- a leg that is marked has what was put on it
failed_on : (s : Setup) (l : LinkId) → leg_on l (with_failed_scg s) ≡ leg_on l s
failed_on s l = ap (λ zs. if is_same_link l (link T l.to Air) then zs else []) (to l.to)
  where
    to : (x : Node) → leg_sents x (with_failed_scg s) ≡ leg_sents x s
    to T = refl
    to M = refl
    to A = refl
    to B = refl

module _ (sent : List Send) where
  -- no PDU is sent, and the bearers stay
  quiet_goes : (t : TerminalNode) (sends : List Send) → ((id g : ℕ) → NoneOf id g sends) → IsTerminalPut sent t → TerminalGoes sent t sends
  quiet_goes t sends none put = record {
    follows = nothing_follows sent sends none;
    puts = record { ascends = put.ascends; halves = all_stay id_of g_of IsHalfPut half_stays sent sends t.halves (λ k x at. none x.setup.id x.setup.g) put.halves };
  }

  idle : (t : TerminalNode) → IsTerminalPut sent t → TerminalGoes sent t []
  idle t put = quiet_goes t [] (λ id g l. refl) put

  -- a bearer goes on from this setup
  half_goes : (t : TerminalNode) (id : ℕ) (base : Setup) (h : TerminalHalf) (sends : List Send) → h.setup.id ≡ id → IsSecond h.setup.sec → ((l : LinkId) → ArePut sent l h.setup.id h.setup.g (leg_on l base))
      → HalfSends base h.setup sends → IsTerminalPut sent t → TerminalGoes sent (with_half t id (Some h)) sends
  half_goes t id base h sends named second before goes put = record {
    follows = only_follow sent sends h.setup.id h.setup.g (λ l. next_follow sent l h.setup.id h.setup.g (leg_on l base) (leg_on l h.setup) sends (before l) (goes.own l)) goes.others;
    puts = record {
      ascends = ascends_with 0 id h t.halves (omega arith) put.ascends;
      halves =
          put_in id_of g_of IsHalfPut half_stays sent sends t.halves id h.setup.g h named
          (record { second = second; legs = λ l. next_put sent l h.setup.id h.setup.g (leg_on l base) (leg_on l h.setup) sends (before l) (goes.own l) })
          (subst (λ i. OnlyOf i h.setup.g sends) named goes.others) put.halves;
    };
  }

  -- one that is held, with other legs
  held_goes : (t : TerminalNode) (id : ℕ) (h later : TerminalHalf) (sends : List Send) → held id t.halves ≡ Some h → later.setup ≡ record h.setup { legs = later.setup.legs }
      → HalfSends h.setup later.setup sends → IsTerminalPut sent t → TerminalGoes sent (with_half t id (Some later)) sends
  held_goes t id h later sends at same goes put =
      let is = put.halves id h at in
      let same_id : later.setup.id ≡ h.setup.id = ap (λ (s : Setup). s.id) same in
      let same_g : later.setup.g ≡ h.setup.g = ap (λ (s : Setup). s.g) same in
      half_goes t id h.setup later sends (same_id ∙ is.0) (subst IsSecond (sym (ap (λ (s : Setup). s.sec) same)) is.1.second)
      (λ l. subst (λ i. ArePut sent l i later.setup.g (leg_on l h.setup)) (sym same_id) (subst (λ g. ArePut sent l h.setup.id g (leg_on l h.setup)) (sym same_g) (is.1.legs l)))
      goes put

  -- one that is held sends PDUs
  entity_goes : (t : TerminalNode) (id : ℕ) (h : TerminalHalf) (e : Entity) (pdus : List Pdu) (done : Entity × List OnLeg) → held id t.halves ≡ Some h → e.setup ≡ h.setup → HasSent pdus e done → IsTerminalPut sent t
      → TerminalGoes sent (with_half t id (Some done.0)) (with_sends done).1
  entity_goes t id h e pdus done at same has put =
      let is = put.halves id h at in
      held_goes t id h done.0 (with_sends done).1 at (has.setup ∙ ap (λ (s : Setup). record s { legs = done.0.setup.legs }) same)
      (subst (λ (s : Setup). HalfSends s done.0.setup (with_sends done).1) same (half_sends pdus e done has (subst (λ (s : Setup). IsSecond s.sec) (sym same) is.1.second))) put

  -- ---- events

  submission_goes : (c : Choices) (t : TerminalNode) (id : ℕ) (h : TerminalHalf) (r : Result (Sender × ℕ) TxErr) → held id t.halves ≡ Some h → IsTerminalPut sent t
      → TerminalGoes sent (with_half t id (Some (submit_as c h r).0)) (submit_as c h r).2
  submission_goes c t id h (Ok (tx, count)) at put = let e = record h { tx = tx } in entity_goes t id h e (filter_map (pdu_at e) (count ∷ [])) (send_counts c e (count ∷ [])) at refl (counts_sent c e (count ∷ [])) put
  submission_goes c t id h (Err (unable.Full lowest next)) at put = held_goes t id h h [] at refl (nothing_sends h.setup) put
  submission_goes c t id h (Err unable.Exhausted) at put = held_goes t id h h [] at refl (nothing_sends h.setup) put
  submission_goes c t id h (Err unable.Memory) at put = held_goes t id h h [] at refl (nothing_sends h.setup) put

  submitted_goes : (c : Choices) (t : TerminalNode) (id : ℕ) (payload : List ℕ) (o : Option TerminalHalf) → held id t.halves ≡ o → IsTerminalPut sent t
      → TerminalGoes sent (submitted_there c t id payload o).0 (submitted_there c t id payload o).1.sends
  submitted_goes c t id payload None at put = idle t put
  submitted_goes c t id payload (Some h) at put = submission_goes c t id h (take_sdu h.tx payload) at put

  reported_goes : (c : Choices) (t : TerminalNode) (id : ℕ) (o : Option TerminalHalf) → held id t.halves ≡ o → IsTerminalPut sent t → TerminalGoes sent (reported_there c t id o).0 (reported_there c t id o).1.sends
  reported_goes c t id None at put = idle t put
  reported_goes c t id (Some h) at put =
      let pdus : List Pdu = (None, report_pdu h.rx.deliv (counts_of h.rx.stored)) ∷ [] in entity_goes t id h h pdus (send_report c h) at refl (has_sent c h pdus) put

  -- ---- the failure of the secondary cell group

  failed_put : (h : TerminalHalf) → IsHalfPut sent h → IsHalfPut sent (terminal_fail h)
  failed_put h is = by (has_cell h.setup Scg)
    where
      by : (b : Bool) → IsHalfPut sent (if b then record h { setup = with_failed_scg h.setup } else h)
      by true = record { second = is.second; legs = λ l. subst (ArePut sent l h.setup.id h.setup.g) (sym (failed_on h.setup l)) (is.legs l) }
      by false = is

  failed_id : (h : TerminalHalf) → (terminal_fail h).setup.id ≡ h.setup.id
  failed_id h = by (has_cell h.setup Scg)
    where
      by : (b : Bool) → (if b then record h { setup = with_failed_scg h.setup } else h).setup.id ≡ h.setup.id
      by true = refl
      by false = refl

  -- the bearers once their legs are marked
  abbrev failed : List (ℕ × TerminalHalf) → List (ℕ × TerminalHalf)
  failed xs = map (λ (x : ℕ × TerminalHalf). (x.0, terminal_fail x.1)) xs

  ascends_failed : (from : ℕ) (xs : List (ℕ × TerminalHalf)) → AscendsFrom from xs → AscendsFrom from (failed xs)
  ascends_failed from [] up = tt
  ascends_failed from (x ∷ xs) up = (up.0, ascends_failed (x.0 + 1) xs up.1)

  was_held : (k : ℕ) (h : TerminalHalf) (xs : List (ℕ × TerminalHalf)) → held k (failed xs) ≡ Some h → (was : TerminalHalf) × (held k xs ≡ Some was) × (terminal_fail was ≡ h)
  was_held k h [] at = absurd (let bad : None ≡ Some h = at in cc)
  was_held k h (x ∷ xs) at = by (k == x.0) refl (was_held k h xs)
    where
      some_is : (a b : TerminalHalf) → Some a ≡ Some b → a ≡ b
      some_is a b same = cc

      now : (if k == x.0 then Some (terminal_fail x.1) else held k (failed xs)) ≡ Some h
      now = sym (held-cons k (x.0, terminal_fail x.1) (failed xs)) ∙ at

      by : (b : Bool) → (k == x.0) ≡ b → (held k (failed xs) ≡ Some h → (was : TerminalHalf) × (held k xs ≡ Some was) × (terminal_fail was ≡ h))
          → (was : TerminalHalf) × (held k (x ∷ xs) ≡ Some was) × (terminal_fail was ≡ h)
      by true here more =
          (x.1, held-cons k x xs ∙ ap (λ b. if b then Some x.1 else held k xs) here, some_is (terminal_fail x.1) h (sym (ap (λ b. if b then Some (terminal_fail x.1) else held k (failed xs)) here) ∙ now))
      by false apart more =
          let found = more (sym (ap (λ b. if b then Some (terminal_fail x.1) else held k (failed xs)) apart) ∙ now) in
          (found.0, held-cons k x xs ∙ ap (λ b. if b then Some x.1 else held k xs) apart ∙ found.1, found.2)

  fails_put : (t : TerminalNode) → IsTerminalPut sent t → IsTerminalPut sent (record t { halves = failed t.halves })
  fails_put t put = record {
    ascends = ascends_failed 0 t.halves put.ascends;
    halves = λ k h at.
        let was = was_held k h t.halves at in
        let is = put.halves k was.0 was.1 in
        (sym (ap id_of was.2) ∙ failed_id was.0 ∙ is.0, subst (IsHalfPut sent) was.2 (failed_put was.0 is.1));
  }

  fails_goes : (t : TerminalNode) (o : Option Node) → IsTerminalPut sent t → TerminalGoes sent (scg_fails t o).0 (scg_fails t o).1.sends
  fails_goes t None put = idle t put
  fails_goes t (Some sec) put = quiet_goes (record t { halves = failed t.halves }) _ (λ id g. record_none (link T M Ctl) _ id g) (fails_put t put)

  -- ---- over the air

  -- a bearer takes a flight
  abbrev HalfTakes : TerminalHalf → TerminalHalf × HalfOut → Type 0
  HalfTakes h done = (done.0.setup ≡ record h.setup { legs = done.0.setup.legs }) × HalfSends h.setup done.0.setup done.1.sends

  takes_if : (h : TerminalHalf) (t : Bool) (x y : TerminalHalf × HalfOut) → HalfTakes h x → HalfTakes h y → HalfTakes h (if t then x else y)
  takes_if h true x y is else' = is
  takes_if h false x y is else' = else'

  takes_nothing : (h : TerminalHalf) → HalfTakes h (h, silent)
  takes_nothing h = (refl, nothing_sends h.setup)

  pdu_takes : (h : TerminalHalf) (from : Node) (num : ℕ) (r : Result Content PduErr) → HalfTakes h (pdu_came h from num r)
  pdu_takes h from num (Err e) = takes_nothing h
  pdu_takes h from num (Ok x) =
      let same = taken_setup h x in
      let legs = (take_pdu h x).0.setup.legs in
      (same, subst (λ (s : Setup). HalfSends h.setup s (ack h.setup from num)) (sym same) (legs_stay h.setup legs (taken_same h x) (ack h.setup from num) (λ id g. ack_none (link T from Air) h.setup.id h.setup.g num id g)))

  ack_takes : (h : TerminalHalf) (cell : Cell) (num : ℕ) → HalfTakes h (acked h cell num, silent)
  ack_takes h cell num = (refl, legs_stay h.setup (with_leg h.setup.legs cell (with_ack (leg_at h.setup.legs cell) num)) (ack_same h.setup.legs cell num) [] (λ id g l. refl))

  air_takes : (h : TerminalHalf) (from : Node) (f : Flight) → HalfTakes h (terminal_air_in h from f)
  air_takes h from (flight.Air id g num tag pdu) = takes_if h (is_taken h.setup from id g) (pdu_came h from num (decoded h.setup.n pdu)) (h, silent) (pdu_takes h from num (decoded h.setup.n pdu)) (takes_nothing h)
  air_takes h from (flight.Ack id g num) = takes_if h (is_taken h.setup from id g) (acked h (cell_of from) num, silent) (h, silent) (ack_takes h (cell_of from) num) (takes_nothing h)
  air_takes h from (flight.Tun tag packet) = takes_nothing h
  air_takes h from (flight.Sdu id g sdu) = takes_nothing h
  air_takes h from (flight.End id g) = takes_nothing h
  air_takes h from (flight.Told id g count) = takes_nothing h
  air_takes h from (flight.Ctl r) = takes_nothing h

  air_by : (t : TerminalNode) (from : Node) (f : Flight) (id : ℕ) (o : Option TerminalHalf) → held id t.halves ≡ o → IsTerminalPut sent t → TerminalGoes sent (air_taken_by t from f id o).0 (air_taken_by t from f id o).1.sends
  air_by t from f id None at put = idle t put
  air_by t from f id (Some h) at put = let does = air_takes h from f in held_goes t id h (terminal_air_in h from f).0 (terminal_air_in h from f).1.sends at does.0 does.1 put

  air_goes : (t : TerminalNode) (from : Node) (f : Flight) (o : Option Named) → IsTerminalPut sent t → TerminalGoes sent (air_taken t from f o).0 (air_taken t from f o).1.sends
  air_goes t from f None put = idle t put
  air_goes t from f (Some (id, g)) put = air_by t from f id (held id t.halves) refl put

  -- ---- a plan's items

  -- a bearer begins, or begins anew, in a generation of which nothing was sent
  set_goes : (c : Choices) (t : TerminalNode) (id : ℕ) (s : Setup) (o : Option TerminalHalf) → s.id ≡ id → IsSecond s.sec → ((l : LinkId) → leg_on l s ≡ []) → NoneOf s.id s.g sent → IsTerminalPut sent t
      → TerminalGoes sent (half_set c t id s o).0 (half_set c t id s o).1.sends × OnlyOf s.id s.g (half_set c t id s o).1.sends
  set_goes c t id s None named second empty none put =
      (half_goes t id s (terminal_new s) [] named second (λ l. none l ∙ ap (counted_from 0) (sym (empty l))) (nothing_sends s) put, λ l i h apart. refl)
  set_goes c t id s (Some h) named second empty none put =
      let e = renewed h s in
      let done = send_kept c e in
      let has = kept_sent c e in
      let goes = half_sends (filter_map (pdu_at e) (counts e.tx.kept)) e done has second in
      (half_goes t id s done.0 (with_sends done).1 named second (λ l. none l ∙ ap (counted_from 0) (sym (empty l))) goes put, goes.others)

-- ---- a plan

module _ (c : Choices) (root : List ℕ) (p : Plan) (second : IsSecond p.sec) where
  -- after an item the terminal goes on, and nothing was sent of another identity
  abbrev ItemGoes : List Send → ℕ → TerminalNode × Effects → Type 0
  ItemGoes sent id done = TerminalGoes sent done.0 done.1.sends × OnlyOf id p.g done.1.sends

  item_goes : (sent : List Send) (t : TerminalNode) (i : Item) → NoneOf (item_id i) p.g sent → IsTerminalPut sent t → ItemGoes sent (item_id i) (item_taken c root p t i)
  item_goes sent t (item.Set id n first shape threshold policy key None) none put = set_goes sent c t id _ (held id t.halves) refl second (λ l. new_on _ refl refl l) none put
  item_goes sent t (item.Set id n first shape threshold policy key (Some old)) none put = set_goes sent c t id _ (held id t.halves) refl second (λ l. new_on _ refl refl l) none put
  item_goes sent t (item.Unset id) none put = (
    record {
      follows = λ l i h. tt;
      puts = record { ascends = ascends_without 0 id t.halves put.ascends; halves = put_out id_of g_of IsHalfPut half_stays sent [] t.halves id p.g put.ascends (λ l i h apart. refl) put.halves };
    },
    λ l i h apart. refl,
  )

  items_go : (sent : List Send) (t : TerminalNode) (from : ℕ) (items : List Item) → Ascend from items → ((id : ℕ) → from ≤ id → NoneOf id p.g sent) → IsTerminalPut sent t
      → TerminalGoes sent (in_turn (item_taken c root p) t items).0 (in_turn (item_taken c root p) t items).1.sends
  items_go sent t from [] up none put = idle sent t put
  items_go sent t from (i ∷ items) up none put =
      let one = item_taken c root p t i in
      let here = item_goes sent t i (none (item_id i) up.0) put in
      let xs = one.1.sends in
      let more =
      items_go (sent ++ xs) one.0 (item_id i + 1) items up.1
      (λ id le l. none_put sent l id p.g [] xs (none_other (item_id i) p.g id p.g xs here.1 (ne_eqb (item_id i) id (λ same. omega (arith, le, same))) l) (none id (omega (arith, le, up.0)) l))
      here.0.puts in
      record {
        follows = follow_both sent xs (in_turn (item_taken c root p) one.0 items).1.sends here.0.follows more.follows;
        puts = subst (λ zs. IsTerminalPut zs (in_turn (item_taken c root p) one.0 items).0) (append_assoc sent xs (in_turn (item_taken c root p) one.0 items).1.sends) more.puts;
      }

-- a record is sent first
after_record : (sent : List Send) (t u : TerminalNode) (k : LinkId) (r : Rec) (ys : List Send) → IsTerminalPut sent t → (IsTerminalPut (sent ++ (k, flight.Ctl r) ∷ []) t → TerminalGoes (sent ++ (k, flight.Ctl r) ∷ []) u ys)
    → TerminalGoes sent u ((k, flight.Ctl r) ∷ ys)
after_record sent t u k r ys put then' =
    let first = quiet_goes sent t ((k, flight.Ctl r) ∷ []) (λ id g. record_none k r id g) put in
    let more = then' first.puts in
    record { follows = follow_both sent ((k, flight.Ctl r) ∷ []) ys first.follows more.follows; puts = subst (λ zs. IsTerminalPut zs u) (append_assoc sent ((k, flight.Ctl r) ∷ []) ys) more.puts }

plan_goes : (c : Choices) (root : List ℕ) (p : Plan) (sent : List Send) (t : TerminalNode) (takes : Bool) → IsNewPlan sent p → IsTerminalPut sent t
    → TerminalGoes sent (plan_taken c root p t takes).0 (plan_taken c root p t takes).1.sends
plan_goes c root p sent t true new put =
    let k = link T M Ctl in
    let x : Send = (k, flight.Ctl (rec.Rcomp p.g)) in
    let done = in_turn (item_taken c root p) (record t { sec = p.sec }) p.items in
    after_record sent (record t { sec = p.sec }) done.0 k (rec.Rcomp p.g) done.1.sends (record { ascends = put.ascends; halves = put.halves })
    (λ put'.
    items_go c root p new.second (sent ++ x ∷ []) (record t { sec = p.sec }) 0 p.items new.ascend
    (λ id le l. none_put sent l id p.g [] (x ∷ []) (record_none k (rec.Rcomp p.g) id p.g l) (new.none id l)) put')
plan_goes c root p sent t false new put = idle sent t put

recovered_goes : (c : Choices) (sent : List Send) (t : TerminalNode) (id : ℕ) (o : Option TerminalHalf) → held id t.halves ≡ o → IsTerminalPut sent t
    → TerminalGoes sent (recovered_half c t id o).0 (recovered_half c t id o).1.sends
recovered_goes c sent t id None at put = idle sent t put
recovered_goes c sent t id (Some h) at put =
    after_record sent t (with_half t id (Some (send_kept c h).0)) (link T M Ctl) (rec.Recovd id) (with_sends (send_kept c h)).1 put
    (λ put'. entity_goes (sent ++ (link T M Ctl, flight.Ctl (rec.Recovd id)) ∷ []) t id h h (filter_map (pdu_at h) (counts h.tx.kept)) (send_kept c h) at refl (kept_sent c h) put')

module _ (c : Choices) (sent : List Send) (t : TerminalNode) (put : IsTerminalPut sent t) where
  -- so the terminal does
  abbrev Does : TerminalNode × Effects → Type 0
  Does done = TerminalGoes sent done.0 done.1.sends

  record_goes : (r : Rec) → ((p : Plan) (key : List ℕ) → r ≡ rec.Reconf p key → IsNewPlan sent p) → Does (terminal_record c t r)
  record_goes (rec.Reconf p key) new = plan_goes c key p sent t (not (list_any (λ i. not (is_takable t i)) p.items)) (new p key refl) put
  record_goes (rec.Recov id) new = recovered_goes c sent t id (held id t.halves) refl put
  record_goes (rec.Rcomp g) new = idle sent t put
  record_goes (rec.Scgf pairs) new = idle sent t put
  record_goes (rec.Recovd id) new = idle sent t put
  record_goes (rec.Addreq plan key) new = idle sent t put
  record_goes (rec.Addack g) new = idle sent t put
  record_goes (rec.Addrej g) new = idle sent t put
  record_goes (rec.Modreq plan key) new = idle sent t put
  record_goes (rec.Modack g) new = idle sent t put
  record_goes (rec.Modrej g) new = idle sent t put
  record_goes (rec.Recfg g) new = idle sent t put
  record_goes (rec.Relreq plan) new = idle sent t put
  record_goes (rec.Relack g) new = idle sent t put
  record_goes (rec.Relrej g) new = idle sent t put
  record_goes (rec.Uecr g) new = idle sent t put
  record_goes (rec.Snst status) new = idle sent t put
  record_goes (rec.Moved g id) new = idle sent t put
  record_goes (rec.Scgn id g) new = idle sent t put
  record_goes rec.Modrqd new = idle sent t put
  record_goes (rec.Modcnf g) new = idle sent t put
  record_goes (rec.Modref word) new = idle sent t put
  record_goes rec.Chgrqd new = idle sent t put
  record_goes (rec.Chgcnf plan) new = idle sent t put
  record_goes (rec.Chgref word) new = idle sent t put
  record_goes rec.Relrqd new = idle sent t put
  record_goes (rec.Relcnf plan) new = idle sent t put

  takes_go : (f : Flight) (k : Class) (from to : Node) → ComesNew sent (Come (record { from = from; to = to; class = k }) f) → Does (terminal_takes c t from f k)
  takes_go (flight.Ctl r) Ctl from to new = record_goes r (λ p key is. new p key (ap (λ x. Some x) is))
  takes_go (flight.Air id g num tag pdu) Ctl from to new = idle sent t put
  takes_go (flight.Ack id g num) Ctl from to new = idle sent t put
  takes_go (flight.Tun tag packet) Ctl from to new = idle sent t put
  takes_go (flight.Sdu id g payload) Ctl from to new = idle sent t put
  takes_go (flight.End id g) Ctl from to new = idle sent t put
  takes_go (flight.Told id g count) Ctl from to new = idle sent t put
  takes_go f Feed from to new = idle sent t put
  takes_go f Air from to new = air_goes sent t from f (flight_named f) put
  takes_go f Tun from to new = idle sent t put

  event_goes : (e : Event) → TerminalGoes sent (terminal_event c t e).0 (terminal_event c t e).1.sends
  event_goes (event.Submit id d payload) = submitted_goes sent c t id payload (held id t.halves) refl put
  event_goes (event.Report node id) = reported_goes sent c t id (held id t.halves) refl put
  event_goes event.ScgFail = fails_goes sent t t.sec put
  event_goes (event.Bearer id n first shape threshold policy) = idle sent t put
  event_goes (event.Reshape id shape) = idle sent t put
  event_goes (event.Remove id) = idle sent t put
  event_goes (event.Add node) = idle sent t put
  event_goes event.Change = idle sent t put
  event_goes event.Release = idle sent t put
  event_goes event.RekeySecond = idle sent t put
  event_goes (event.RekeyMaster root) = idle sent t put
  event_goes (event.Recover id) = idle sent t put
  event_goes (event.Deny node on) = idle sent t put
  event_goes (event.Ask node what) = idle sent t put
  event_goes (event.Step l i) = idle sent t put
  event_goes (event.Lose l i) = idle sent t put
  event_goes (event.Again l i) = idle sent t put

  -- whatever the terminal takes: what it sends follows on from what it sent
  pub terminal_goes : (i : Input) → ComesNew sent i → TerminalGoes sent (terminal_step c t i).0 (terminal_step c t i).1.sends
  terminal_goes (Cmd e) new = event_goes e
  terminal_goes (Come l f) new = takes_go f l.class l.from l.to new

-- before anything was sent
pub nothing_put : (t : TerminalNode) → t.halves ≡ [] → IsTerminalPut [] t
nothing_put t none = record {
  ascends = subst Ascends (sym none) tt;
  halves = λ k x at. absurd (let bad : None ≡ Some x = ap (held k) (sym none) ∙ at in cc);
}
