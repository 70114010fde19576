-- In every run each data PDU that the terminal sends has a COUNT from Low to the next one, as they are before the step.
use Rattle.std.proofs.Common.{ℕ, ◌≡◌, ◌+◌, ◌-◌, ◌==◌, ◌^◌, ◌⊎◌, ◌++◌, Bool, true, false, List, [], ◌∷◌, Option, Some, None, refl, sym, ap, subst, ◌∙◌, inl, inr, arith}
use Rattle.std.specs.Prelude.{Err, Ok, Result, nat_le, not}
use Rattle.std.specs.List.{AllByRecursion, list_any}
use Rattle.std.proofs.lemmas.Bool.{cases_Bool, eqb-true}
use Rattle.transcript.proofs.OnEach.{each_append}
use Rattle.dc_base.specs.Count.{window}
use Rattle.dc_base.specs.declared.events.Event.{Event}
use Rattle.dc_base.specs.declared.events.Event.TheVariants as event
use Rattle.dc_base.specs.declared.events.Header.{Header}
use Rattle.dc_base.specs.declared.flights.Flight.{Flight}
use Rattle.dc_base.specs.declared.flights.Flight.TheVariants as flight
use Rattle.dc_base.specs.declared.nodes.Class.{Class}
use Rattle.dc_base.specs.declared.nodes.Class.TheVariants.{Air, Ctl, Feed, Tun}
use Rattle.dc_base.specs.declared.nodes.KeyName.{KeyName}
use Rattle.dc_base.specs.declared.nodes.Node.{Node}
use Rattle.dc_base.specs.declared.nodes.Node.TheVariants.{A, B, M, T}
use Rattle.dc_base.specs.declared.nodes.Shape.{Shape}
use Rattle.dc_base.specs.declared.numbers.SnLen.{SnLen}
use Rattle.dc_base.specs.declared.records.Item.{Item}
use Rattle.dc_base.specs.declared.records.Item.TheVariants as item
use Rattle.dc_base.specs.declared.records.Plan.{Plan}
use Rattle.dc_base.specs.declared.records.Rec.{Rec}
use Rattle.dc_base.specs.declared.records.Rec.TheVariants as rec
use Rattle.key_chain.specs.KeyNames.{octets_of_side}
use Rattle.pdcp_pdu.specs.Pdu.{Content, decoded}
use Rattle.pdcp_pdu.specs.declared.pdu.PduErr.{PduErr}
use Rattle.pdcp_tx.specs.Sender.{Rises, Sender, counts, low, sdu_at}
use Rattle.pdcp_tx.proofs.Entries.{Rises-enumerated, Rises-least}
use Rattle.claims.specs.Noted.{past}
use Rattle.claims.specs.Past.{new_past}
use Rattle.node_rules.specs.Choices.{Choices, Send}
use Rattle.node_rules.specs.Effects.{in_turn}
use Rattle.node_rules.specs.Flights.{Named, flight_named}
use Rattle.node_rules.specs.Held.{held}
use Rattle.node_rules.specs.Run.{Happening, entries_from, given_to, happening, on_links, refused_for, world_after}
use Rattle.node_rules.specs.Setup.{Setup, new_legs}
use Rattle.node_rules.specs.Terminal.{TerminalNode, air_taken, air_taken_by, half_set, is_takable, item_taken, plan_taken, recovered_half, reported_there, scg_fails, submitted_there, terminal_control, terminal_event, terminal_record, terminal_step, terminal_takes, with_half}
use Rattle.node_rules.specs.TerminalHalf.{TerminalHalf, is_taken, pdu_came, terminal_air_in, terminal_new, terminal_renew}
use Rattle.node_rules.specs.World.{World, new_world}
use Rattle.node_rules.specs.declared.inputs.Input.{Input}
use Rattle.node_rules.specs.declared.inputs.Input.TheVariants.{Cmd, Come}
use Rattle.master_runs.proofs.Holding.{held-other, held-same}
use Rattle.run_control.specs.Sound.{AddsSecond}
use Rattle.run_windows.specs.Windows.{Ascends}
use Rattle.run_windows.proofs.Keys.{ascends-out, ascends-put, out-other, out-same}
use Rattle.run_uplinks.specs.Seen.{Seen, seen}
use Rattle.run_uplinks.specs.Uplinks.{IsUp}
use Rattle.run_uplinks.proofs.Establishments.{latest-id, some_is}
use Rattle.run_uplinks.proofs.Runs.{holds_new, holds_on}
use Rattle.run_uplinks.proofs.Terminals.{present_at}
use Rattle.run_relays.specs.Ages.{AreTimely, IsOfWindow, IsTimely, TimelyIf}
use Rattle.run_relays.proofs.Timely.{Found, counts_timely, found_between, report_timely}

-- a bearer of the terminal has its identity, and what its entity keeps rises
record IsRising (id : ℕ) (h : TerminalHalf) : Type 0 where
  of_id : h.setup.id ≡ id
  from : ℕ
  rises : Rises from h.tx.next h.tx.kept

module _ (c : Choices) (t : TerminalNode) (ascends : Ascends 0 t.halves) (rising : (id : ℕ) (h : TerminalHalf) → held id t.halves ≡ Some h → IsRising id h) where
  abbrev TimelySend : Send → Type 0
  TimelySend x = IsTimely t x.1

  -- nothing is kept in an entity, or it is the one that was there before the step
  abbrev IsLike : ℕ → Sender → Type 0
  IsLike id tx = (tx.kept ≡ []) ⊎ ((h : TerminalHalf) × (held id t.halves ≡ Some h) × (h.tx ≡ tx))

  record Stays (k : TerminalNode) : Type 0 where
    up : Ascends 0 k.halves
    like : (id : ℕ) (h : TerminalHalf) → held id k.halves ≡ Some h → IsLike id h.tx

  found_like : (id : ℕ) (h : TerminalHalf) → h.setup.id ≡ id → IsLike id h.tx → Found t h
  found_like id h of_id (inl none) count sdu some = absurd (let bad : None ≡ Some sdu = sym (ap (λ es. sdu_at es count) none) ∙ some in cc)
  found_like id h of_id (inr x) count sdu some =
      let was = rising id x.0 x.1 in
      let some_was : sdu_at x.0.tx.kept count ≡ Some sdu = ap (λ (y : Sender). sdu_at y.kept count) x.2 ∙ some in
      let b = found_between (low x.0.tx) x.0.tx.next x.0.tx.kept count sdu (Rises-least was.from x.0.tx.next x.0.tx.kept was.rises) some_was in
      subst (λ j. IsOfWindow t j (Some count)) (sym of_id) (record { half = x.0; there = x.1; count = count; tagged = refl; from_low = b.0; to_next = omega (arith, b.1) })

  -- a bearer is changed or dropped
  stays_with : (k : TerminalNode) (id : ℕ) (x : TerminalHalf) → Stays k → IsLike id x.tx → Stays (with_half k id (Some x))
  stays_with k id x is like = record {
    up = ascends-put 0 id x k.halves (omega arith) is.up;
    like = λ j h at. elim (cases_Bool (id == j)) [
      | inl here ↦
          let same : id ≡ j = eqb-true id j here in
          let at' : held id (with_half k id (Some x)).halves ≡ Some h = subst (λ i. held i (with_half k id (Some x)).halves ≡ Some h) (sym same) at in
          let y : x ≡ h = some_is x h (sym (held-same id x k.halves) ∙ at') in
          subst (λ i. IsLike i h.tx) same (subst (λ (z : TerminalHalf). IsLike id z.tx) y like)
      | inr apart ↦ is.like j h (sym (held-other id j x k.halves apart) ∙ at)
    ];
  }

  stays_without : (k : TerminalNode) (id : ℕ) → Stays k → Stays (with_half k id None)
  stays_without k id is = record {
    up = ascends-out 0 id k.halves is.up;
    like = λ j h at. elim (cases_Bool (id == j)) [
      | inl here ↦
          let same : id ≡ j = eqb-true id j here in
          let at' : held id (with_half k id None).halves ≡ Some h = subst (λ i. held i (with_half k id None).halves ≡ Some h) (sym same) at in
          absurd (let bad : None ≡ Some h = sym (out-same 0 id k.halves is.up) ∙ at' in cc)
      | inr apart ↦ is.like j h (sym (out-other id j k.halves apart) ∙ at)
    ];
  }

  -- ---- plans

  set_stays : (k : TerminalNode) (id : ℕ) (s : Setup) (o : Option TerminalHalf) → held id k.halves ≡ o → Stays k → Stays (half_set c k id s o).0
  set_stays k id s None at is = stays_with k id (terminal_new s) is (inl refl)
  set_stays k id s (Some h) at is = stays_with k id (terminal_renew c h s).0 is (is.like id h at)

  set_timely : (k : TerminalNode) (id : ℕ) (s : Setup) → s.id ≡ id → (o : Option TerminalHalf) → held id k.halves ≡ o → Stays k → AreTimely t (half_set c k id s o).1.sends
  set_timely k id s of_id None at is = tt
  set_timely k id s of_id (Some h) at is = counts_timely t c (record h { setup = s }) (found_like id (record h { setup = s }) of_id (is.like id h at)) (counts h.tx.kept)

  abbrev setup_by : List ℕ → Plan → TerminalNode → ℕ → SnLen → ℕ → Shape → ℕ → ℕ → KeyName → Setup
  setup_by root p k id n first shape threshold policy key = record {
    node = T;
    sec = p.sec;
    g = p.g;
    id = id;
    n = n;
    first = first;
    alg = k.alg;
    key = octets_of_side root key.side;
    legs = new_legs shape threshold policy;
  }

  item_stays : (root : List ℕ) (p : Plan) (k : TerminalNode) (i : Item) → Stays k → Stays (item_taken c root p k i).0
  item_stays root p k (item.Set id n first shape threshold policy key old) is = set_stays k id (setup_by root p k id n first shape threshold policy key) (held id k.halves) refl is
  item_stays root p k (item.Unset id) is = stays_without k id is

  item_timely : (root : List ℕ) (p : Plan) (k : TerminalNode) (i : Item) → Stays k → AreTimely t (item_taken c root p k i).1.sends
  item_timely root p k (item.Set id n first shape threshold policy key old) is = set_timely k id (setup_by root p k id n first shape threshold policy key) refl (held id k.halves) refl is
  item_timely root p k (item.Unset id) is = tt

  items_timely : (root : List ℕ) (p : Plan) (k : TerminalNode) (items : List Item) → Stays k → AreTimely t (in_turn (item_taken c root p) k items).1.sends
  items_timely root p k [] is = tt
  items_timely root p k (i ∷ items) is =
      let here = item_taken c root p k i in
      each_append TimelySend here.1.sends (in_turn (item_taken c root p) here.0 items).1.sends (item_timely root p k i is) (items_timely root p here.0 items (item_stays root p k i is))

  plan_timely : (root : List ℕ) (p : Plan) (takes : Bool) → AreTimely t (plan_taken c root p t takes).1.sends
  plan_timely root p true = (tt, items_timely root p (record t { sec = p.sec }) p.items (record { up = ascends; like = λ id h at. inr (h, at, refl) }))
  plan_timely root p false = tt

  -- ---- records

  recovery_timely : (id : ℕ) (o : Option TerminalHalf) → held id t.halves ≡ o → AreTimely t (recovered_half c t id o).1.sends
  recovery_timely id None at = tt
  recovery_timely id (Some h) at = (tt, counts_timely t c h (found_like id h (rising id h at).of_id (inr (h, at, refl))) (counts h.tx.kept))

  record_timely : (r : Rec) → AreTimely t (terminal_record c t r).1.sends
  record_timely (rec.Reconf q key) = plan_timely key q (not (list_any (λ i. not (is_takable t i)) q.items))
  record_timely (rec.Recov id) = recovery_timely id (held id t.halves) refl
  record_timely (rec.Rcomp g) = tt
  record_timely (rec.Scgf failed) = tt
  record_timely (rec.Recovd id) = tt
  record_timely (rec.Addreq plan key) = tt
  record_timely (rec.Addack g) = tt
  record_timely (rec.Addrej g) = tt
  record_timely (rec.Modreq plan key) = tt
  record_timely (rec.Modack g) = tt
  record_timely (rec.Modrej g) = tt
  record_timely (rec.Recfg g) = tt
  record_timely (rec.Relreq plan) = tt
  record_timely (rec.Relack g) = tt
  record_timely (rec.Relrej g) = tt
  record_timely (rec.Uecr g) = tt
  record_timely (rec.Snst status) = tt
  record_timely (rec.Moved g id) = tt
  record_timely (rec.Scgn id g) = tt
  record_timely rec.Modrqd = tt
  record_timely (rec.Modcnf g) = tt
  record_timely (rec.Modref word) = tt
  record_timely rec.Chgrqd = tt
  record_timely (rec.Chgcnf plan) = tt
  record_timely (rec.Chgref word) = tt
  record_timely rec.Relrqd = tt
  record_timely (rec.Relcnf plan) = tt

  -- ---- flights

  pdu_timely : (h : TerminalHalf) (from : Node) (num : ℕ) (r : Result Content PduErr) → AreTimely t (pdu_came h from num r).1.sends
  pdu_timely h from num (Ok x) = (tt, tt)
  pdu_timely h from num (Err e) = tt

  air_timely : (h : TerminalHalf) (from : Node) (f : Flight) → AreTimely t (terminal_air_in h from f).1.sends
  air_timely h from (flight.Air id g num tag pdu) =
      elim (cases_Bool (is_taken h.setup from id g)) [
        | inl yes' ↦ rw yes' (pdu_timely h from num (decoded h.setup.n pdu))
        | inr no' ↦ rw no' tt
      ]
  air_timely h from (flight.Ack id g num) = elim (cases_Bool (is_taken h.setup from id g)) [ inl yes' ↦ rw yes' tt | inr no' ↦ rw no' tt ]
  air_timely h from (flight.Tun tag packet) = tt
  air_timely h from (flight.Sdu id g sdu) = tt
  air_timely h from (flight.End id g) = tt
  air_timely h from (flight.Told id g count) = tt
  air_timely h from (flight.Ctl r) = tt

  taken_timely : (from : Node) (f : Flight) (id : ℕ) (o : Option TerminalHalf) → AreTimely t (air_taken_by t from f id o).1.sends
  taken_timely from f id None = tt
  taken_timely from f id (Some h) = air_timely h from f

  named_timely : (from : Node) (f : Flight) (o : Option Named) → AreTimely t (air_taken t from f o).1.sends
  named_timely from f None = tt
  named_timely from f (Some (id, g)) = taken_timely from f id (held id t.halves)

  control_timely : (f : Flight) → AreTimely t (terminal_control c t f).1.sends
  control_timely (flight.Ctl r) = record_timely r
  control_timely (flight.Air id g num tag pdu) = tt
  control_timely (flight.Ack id g num) = tt
  control_timely (flight.Tun tag packet) = tt
  control_timely (flight.Sdu id g sdu) = tt
  control_timely (flight.End id g) = tt
  control_timely (flight.Told id g count) = tt

  flight_timely : (from : Node) (f : Flight) (class : Class) → AreTimely t (terminal_takes c t from f class).1.sends
  flight_timely from f Ctl = control_timely f
  flight_timely from f Feed = tt
  flight_timely from f Air = named_timely from f (flight_named f)
  flight_timely from f Tun = tt

  -- ---- events

  submission_timely : (id : ℕ) (payload : List ℕ) (o : Option TerminalHalf) → held id t.halves ≡ o → AreTimely t (submitted_there c t id payload o).1.sends
  submission_timely id payload None at = tt
  submission_timely id payload (Some h) at =
      elim (cases_Bool (nat_le (low h.tx + window h.tx.n) h.tx.next)) [
        | inl full ↦ rw full tt
        | inr room ↦ elim (cases_Bool (h.tx.next == 2 ^ 32 - 1)) [
          | inl spent ↦ rw (room, spent) tt
          | inr left ↦
              let was = rising id h at in
              let tx : Sender = record h.tx { next = h.tx.next + 1; kept = h.tx.kept ++ (h.tx.next, payload) ∷ [] } in
              let up : Rises (low h.tx) (h.tx.next + 1) tx.kept =
              Rises-enumerated (low h.tx) h.tx.next h.tx.kept (payload ∷ []) (Rises-least was.from h.tx.next h.tx.kept was.rises) in
              let found : Found t (record h { tx = tx }) =
              λ count sdu some. (
              let b = found_between (low h.tx) (h.tx.next + 1) tx.kept count sdu up some in
              subst (λ j. IsOfWindow t j (Some count)) (sym was.of_id) (record { half = h; there = at; count = count; tagged = refl; from_low = b.0; to_next = omega (arith, b.1) })
              ) in
              rw (room, left) (counts_timely t c (record h { tx = tx }) found (h.tx.next ∷ []))
        ]
      ]

  asked_timely : (id : ℕ) (o : Option TerminalHalf) → AreTimely t (reported_there c t id o).1.sends
  asked_timely id None = tt
  asked_timely id (Some h) = report_timely t c h

  failure_timely : (o : Option Node) → AreTimely t (scg_fails t o).1.sends
  failure_timely None = tt
  failure_timely (Some x) = (tt, tt)

  event_timely : (e : Event) → AreTimely t (terminal_event c t e).1.sends
  event_timely (event.Submit id d payload) = submission_timely id payload (held id t.halves) refl
  event_timely (event.Report node id) = asked_timely id (held id t.halves)
  event_timely event.ScgFail = failure_timely t.sec
  event_timely (event.Bearer id n first shape threshold policy) = tt
  event_timely (event.Reshape id shape) = tt
  event_timely (event.Remove id) = tt
  event_timely (event.Add node) = tt
  event_timely event.Change = tt
  event_timely event.Release = tt
  event_timely event.RekeySecond = tt
  event_timely (event.RekeyMaster root) = tt
  event_timely (event.Recover id) = tt
  event_timely (event.Deny node on) = tt
  event_timely (event.Ask node what) = tt
  event_timely (event.Step l i) = tt
  event_timely (event.Lose l i) = tt
  event_timely (event.Again l i) = tt

  -- any input
  step_timely : (i : Input) → AreTimely t (terminal_step c t i).1.sends
  step_timely (Cmd e) = event_timely e
  step_timely (Come l f) = flight_timely l.from f l.class

-- ---- runs

rising_by : (c : Choices) (s : Seen) (t : TerminalNode) → IsUp s t → (id : ℕ) (h : TerminalHalf) → held id t.halves ≡ Some h → IsRising id h
rising_by c s t is id h at =
    let x = present_at c s t is id h at in
    record { of_id = x.2.id ∙ latest-id id s.bearers x.0 x.1; from = x.0.first; rises = x.2.sender.rises }

-- at any moment of a run, whatever the terminal takes next: each data PDU that it sends has a COUNT from Low of the bearer to the next
-- one, as they are before it; so it is of a bearer that takes up a new generation with this step
pub ages_always : (c : Choices) (h : Header) (policies : ℕ) (es : List Event) → AllByRecursion AddsSecond es → (e : Event)
    → (let w = world_after c (new_world h) es in TimelyIf c w (happening w e))
ages_always c h policies es names e =
    let w = world_after c (new_world h) es in
    by w (seen (past h policies (entries_from c (new_world h) es))) (holds_on c es names (new_world h) (new_past h policies) (holds_new c h policies)).up (happening w e)
  where
    by : (w : World) (s : Seen) → IsUp s w.terminal → (x : Happening) → TimelyIf c w x
    by w s is (given_to T i) = step_timely c w.terminal is.ascends (rising_by c s w.terminal is) i
    by w s is (given_to M i) = tt
    by w s is (given_to A i) = tt
    by w s is (given_to B i) = tt
    by w s is (refused_for why) = tt
    by w s is (on_links effects) = tt
