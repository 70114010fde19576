-- Whatever the terminal takes, it adds to what it received alone, and acks what it received.
use Rattle.std.proofs.Common.{◌≡◌, ℕ, ◌+◌, ◌==◌, ◌&&◌, true, false, Bool, List, [], ◌∷◌, Option, Some, None, Result, Ok, Err, map, refl, sym, ap, ◌∙◌, subst, inl, inr}
use Rattle.std.specs.Prelude.{IfSome, if◌then◌else◌, not, slice_get, ⊤}
use Rattle.std.specs.List.{AllByRecursion, flat_map, list_any}
use Rattle.std.specs.Option.{option_map}
use Rattle.std.proofs.lemmas.Bool.{and_parts, cases_Bool, eqb-true}
use Rattle.dc_base.specs.Links.{link}
use Rattle.dc_base.specs.Nodes.{is_same_node}
use Rattle.dc_base.specs.Records.{item_id}
use Rattle.dc_base.specs.declared.events.Event.{Event}
use Rattle.dc_base.specs.declared.events.Event.TheVariants as event
use Rattle.dc_base.specs.declared.flights.Flight.{Flight}
use Rattle.dc_base.specs.declared.flights.Flight.TheVariants as flight
use Rattle.dc_base.specs.declared.nodes.Cell.TheVariants.{Scg}
use Rattle.dc_base.specs.declared.nodes.Class.{Class}
use Rattle.dc_base.specs.declared.nodes.Class.TheVariants.{Air, Ctl, Feed, Tun}
use Rattle.dc_base.specs.declared.nodes.LinkId.{LinkId}
use Rattle.dc_base.specs.declared.nodes.Node.{Node}
use Rattle.dc_base.specs.declared.nodes.Node.TheVariants.{M, T}
use Rattle.dc_base.specs.declared.numbers.SnLen.{SnLen}
use Rattle.dc_base.specs.declared.records.Item.{Item}
use Rattle.dc_base.specs.declared.records.Item.TheVariants as item
use Rattle.dc_base.specs.declared.records.Plan.{Plan}
use Rattle.dc_base.specs.declared.records.Rec.{Rec}
use Rattle.dc_base.specs.declared.records.Rec.TheVariants as rec
use Rattle.key_chain.specs.KeyNames.{octets_of_side}
use Rattle.pdcp_pdu.specs.Pdu.{Content, decoded, report, sdu}
use Rattle.pdcp_pdu.specs.declared.pdu.PduErr.{PduErr}
use Rattle.pdcp_rx.specs.Receiver.{Received}
use Rattle.pdcp_rx.specs.declared.entity.RxParts.{RxParts}
use Rattle.pdcp_tx.specs.Sender.{Sender}
use Rattle.pdcp_tx.specs.Sending.{take_sdu}
use Rattle.pdcp_tx.specs.declared.tx.TxErr.{TxErr}
use Rattle.pdcp_tx.specs.declared.tx.TxErr.TheVariants as unable
use Rattle.node_rules.specs.Choices.{Choices, Send}
use Rattle.node_rules.specs.Effects.{in_turn, quiet}
use Rattle.node_rules.specs.Entity.{Entity, renewed, take_pdu}
use Rattle.node_rules.specs.Flights.{Named, flight_named}
use Rattle.node_rules.specs.Held.{held, holding}
use Rattle.node_rules.specs.Sending.{send_counts, send_kept, send_report}
use Rattle.node_rules.specs.Setup.{Setup, cell_of, has_cell, has_failed, has_leg_at, is_of, new_legs, node_of, with_failed_scg}
use Rattle.node_rules.specs.Terminal.{TerminalNode, air_taken, air_taken_by, failing_half, half_set, is_takable, item_taken, plan_taken, recovered_half, reported_there, scg_fails, submitted_there, terminal_control, terminal_event, terminal_record, terminal_step, terminal_takes}
use Rattle.node_rules.specs.TerminalHalf.{TerminalHalf, acked, is_taken, leg_send, pdu_came, silent, submit_as, terminal_air_in, terminal_fail, terminal_new, terminal_renew, with_sends}
use Rattle.node_rules.specs.declared.bearers.HalfOut.{HalfOut}
use Rattle.node_rules.specs.declared.bearers.OnLeg.{OnLeg}
use Rattle.node_rules.specs.declared.inputs.Effects.{Effects}
use Rattle.node_rules.specs.declared.inputs.Input.{Input}
use Rattle.node_rules.specs.declared.inputs.Input.TheVariants.{Cmd, Come}
use Rattle.master_runs.proofs.Holding.{held-cons}
use Rattle.run_control.specs.Orders.{AscendsFrom}
use Rattle.run_control.proofs.Sent.{either}
use Rattle.run_confirms.specs.Hosts.{Shows}
use Rattle.run_confirms.specs.Statuses.{IsAckOf, Stays}
use Rattle.run_confirms.specs.Terminals.{IsInferred}
use Rattle.run_confirms.proofs.Terminals.{terminal_acks, terminal_stays}
use Rattle.run_senders.specs.Holders.{IfThere}
use Rattle.run_words.proofs.Lines.{each_flat}
use Rattle.run_confirmed.specs.Flights.{IsReadRight, IsTrue, IsTrueSend}
use Rattle.run_confirmed.specs.Nodes.{Goes, IsHalfOf, IsTerminalOf}
use Rattle.run_confirmed.specs.Plans.{AreApart, IsFit, IsFitOrder, SetsAsLaidOut}
use Rattle.run_confirmed.specs.Worlds.{Infers}
use Rattle.run_confirmed.specs.Stories.{AreBy, IsInOrder, IsNew, Layout, ReceivedBy, Stories, Story, leg_of}
use Rattle.run_confirmed.proofs.Growing.{extends_none, none_by, story_by, story_here, story_other, with_story}
use Rattle.run_confirmed.proofs.Held.{if_there, out_so, put_so, set_ascends}
use Rattle.run_confirmed.proofs.Seconds.{before_goes, order_then, stays_goes, then_goes}

-- ---- what it sends by itself

legs_true : (layout : Layout) (later : Stories) (done : Entity × List OnLeg) → AllByRecursion (IsTrueSend layout later) (with_sends done).1
legs_true layout later done =
    each_flat (IsTrueSend layout later) (λ (p : OnLeg). leg_send done.0.setup p (node_of done.0.setup.sec p.cell)) done.1 (λ p. one p (node_of done.0.setup.sec p.cell))
  where
    one : (p : OnLeg) (o : Option Node) → AllByRecursion (IsTrueSend layout later) (leg_send done.0.setup p o)
    one p None = tt
    one p (Some y) = (λ apart. absurd (let bad : true ≡ false = apart in cc), tt)

-- the identity
abbrev first_of : ℕ → Option Named → ℕ
first_of other None = other
first_of other (Some (id, g)) = id

-- ---- a bearer

-- the setup is the same but for its legs
abbrev SameFace : TerminalHalf → TerminalHalf → Type 0
SameFace h after = (after.setup.id ≡ h.setup.id) × (after.setup.g ≡ h.setup.g) × (after.setup.n ≡ h.setup.n)

taken_face : (h : TerminalHalf) (x : Content) → SameFace h (take_pdu h x).0
taken_face h (sdu s body) = (refl, refl, refl)
taken_face h (report fmc bits) = (refl, refl, refl)

came_face : (h : TerminalHalf) (from : Node) (num : ℕ) (x : Result Content PduErr) → SameFace h (pdu_came h from num x).0
came_face h from num (Err e) = (refl, refl, refl)
came_face h from num (Ok x) = taken_face h x

-- all that is held is changed
held_map : {X : Type 0} (f : X → X) (k : ℕ) (xs : List (ℕ × X)) → held k (map (λ (x : ℕ × X). (x.0, f x.1)) xs) ≡ option_map f (held k xs)
held_map f k [] = refl
held_map {X} f k (x ∷ xs) =
    held-cons k (x.0, f x.1) (map (λ (y : ℕ × X). (y.0, f y.1)) xs) ∙ ap (λ o. if k == x.0 then Some (f x.1) else o) (held_map f k xs) ∙ by (k == x.0) ∙ sym (ap (option_map f) (held-cons k x xs))
  where
    by : (b : Bool) → (if b then Some (f x.1) else option_map f (held k xs)) ≡ option_map f (if b then Some x.1 else held k xs)
    by true = refl
    by false = refl

ascends_map : {X : Type 0} (f : X → X) (lo : ℕ) (xs : List (ℕ × X)) → AscendsFrom lo xs → AscendsFrom lo (map (λ (x : ℕ × X). (x.0, f x.1)) xs)
ascends_map f lo [] up = tt
ascends_map f lo (x ∷ xs) up = (up.0, ascends_map f (x.0 + 1) xs up.1)

module _ (layout : Layout) where
  -- what the terminal has
  abbrev TerminalIs : Stories → TerminalNode → Type 0
  TerminalIs stories t = IsTerminalOf layout stories t

  abbrev InOrder : Stories → Type 0
  InOrder stories = (id g : ℕ) → IsInOrder (stories id g)

  abbrev TerminalGoes : Stories → TerminalNode × Effects → Type 0
  TerminalGoes stories done = Goes layout T TerminalIs stories done.0 done.1.sends

  idle_goes : (stories : Stories) → InOrder stories → (t : TerminalNode) → TerminalIs stories t → TerminalGoes stories (t, quiet)
  idle_goes stories order t is = stays_goes layout T TerminalIs stories order t [] is tt

  -- a bearer is put that received the same
  put_half : (stories : Stories) (t : TerminalNode) (id : ℕ) (h : TerminalHalf) → IsHalfOf layout stories id h → TerminalIs stories t
      → TerminalIs stories (record t { halves = holding id (Some h) t.halves })
  put_half stories t id h so is = record {
    halves = put_so (λ k y. IsHalfOf layout stories k y) id h t.halves so (λ k apart. is.halves k);
    ascend = set_ascends (λ k y. IsHalfOf layout stories k y) id (Some h) t.halves is.ascend;
  }

  half_same : (stories : Stories) (id : ℕ) (h after : TerminalHalf) → SameFace h after → after.rx ≡ h.rx → IsHalfOf layout stories id h
      → IsHalfOf layout stories id after
  half_same stories id h after face rx is = record {
    same_id = face.0 ∙ is.same_id;
    n = face.2 ∙ is.n ∙ ap (layout.n id) (sym face.1);
    rx = ap (λ (k : ℕ). (stories id k).rx) face.1 ∙ is.rx ∙ ap Some (sym rx);
  }

  -- it sends
  sent_goes : (stories : Stories) → InOrder stories → (t : TerminalNode) (id : ℕ) (h after : TerminalHalf) (sends : List Send) → SameFace h after
      → after.rx ≡ h.rx → IsHalfOf layout stories id h
      → AllByRecursion (IsTrueSend layout stories) sends → TerminalIs stories t
      → Goes layout T TerminalIs stories (record t { halves = holding id (Some after) t.halves }) sends
  sent_goes stories order t id h after sends face rx here true' is =
      stays_goes layout T TerminalIs stories order (record t { halves = holding id (Some after) t.halves }) sends (put_half stories t id after (half_same stories id h after face rx here) is) true'

  -- ---- what was received grows

  -- the story with another receiving entity
  abbrev with_rx : Stories → ℕ → ℕ → RxParts → Story
  with_rx stories id g rx = record (stories id g) { rx = Some rx }

  rx_by : (stories : Stories) → InOrder stories → (id g : ℕ) (rx : RxParts) → Stays (ReceivedBy (stories id g).rx) (Received rx)
      → AreBy layout T stories (with_story id g (with_rx stories id g rx) stories)
  rx_by stories order id g rx stays =
      let s = stories id g in
      story_by layout T id g (with_rx stories id g rx) stories order (record {
        later = record {
          own = extends_none s.own;
          tunnel = extends_none s.tunnel;
          far = extends_none s.far;
          received = stays;
          order = record { rise = (order id g).rise; below = (order id g).below };
        };
        own = λ apart. refl;
        tunnel = λ apart. refl;
        far = λ apart. refl;
        rx = λ apart. absurd (let bad : true ≡ false = apart in cc);
      })

  half_other : (stories : Stories) (id g : ℕ) (s : Story) (k : ℕ) (h : TerminalHalf) → (id == k) ≡ false → IsHalfOf layout stories k h
      → IsHalfOf layout (with_story id g s stories) k h
  half_other stories id g s k h other is =
      record { same_id = is.same_id; n = is.n; rx = ap (λ (t : Story). t.rx) (story_other id g s stories k h.setup.g other) ∙ is.rx }

  -- a bearer is put with its receiving entity, and the stories of other identities stay
  record RxGoes (stories : Stories) (id : ℕ) (t : TerminalNode) (sends : List Send) : Type 0 where
    goes : Goes layout T TerminalIs stories t sends
    others : (k g : ℕ) → (id == k) ≡ false → goes.later k g ≡ stories k g

  rx_goes : (stories : Stories) → InOrder stories → (t : TerminalNode) (id : ℕ) (after : TerminalHalf) (sends : List Send) → after.setup.id ≡ id
      → after.setup.n ≡ layout.n id after.setup.g
      → Stays (ReceivedBy (stories id after.setup.g).rx) (Received after.rx)
      → AllByRecursion (IsTrueSend layout (with_story id after.setup.g (with_rx stories id after.setup.g after.rx) stories)) sends → TerminalIs stories t
      → RxGoes stories id (record t { halves = holding id (Some after) t.halves }) sends
  rx_goes stories order t id after sends same_id same_n stays true' is =
      let g = after.setup.g in
      let s = with_rx stories id g after.rx in
      let later = with_story id g s stories in
      record {
        goes = record {
          later = later;
          by = rx_by stories order id g after.rx stays;
          so = record {
            halves =
                put_so (λ k y. IsHalfOf layout later k y) id after t.halves (record { same_id = same_id; n = same_n; rx = ap (λ (z : Story). z.rx) (story_here id g s stories) })
                (λ k apart. if_there (IsHalfOf layout stories k) (IsHalfOf layout later k) (λ y was. half_other stories id g s k y apart was) (held k t.halves) (is.halves k));
            ascend = set_ascends (λ k y. IsHalfOf layout later k y) id (Some after) t.halves is.ascend;
          };
          sends = true';
        };
        others = λ k h apart. story_other id g s stories k h apart;
      }

  -- ---- over the air

  received_later : (stories : Stories) (id : ℕ) (h after : TerminalHalf) → (stories id h.setup.g).rx ≡ Some h.rx → after.setup.g ≡ h.setup.g
      → Stays (Received h.rx) (Received after.rx)
      → Stays (ReceivedBy (stories id after.setup.g).rx) (Received after.rx)
  received_later stories id h after is same stays =
      subst (λ (o : Option RxParts). Stays (ReceivedBy o) (Received after.rx)) (sym (ap (λ k. (stories id k).rx) same ∙ is)) stays

  -- the acks of a PDU are so
  acks_true : (stories : Stories) (id : ℕ) (h : TerminalHalf) (from : Node) (num : ℕ) (tag : Option ℕ) (x : Result Content PduErr) → h.setup.id ≡ id
      → slice_get (leg_of layout stories id h.setup.g from) num ≡ Some tag → Shows h.setup.n tag x → IfSome tag (IsInferred h)
      → (let done = pdu_came h from num x in
      AllByRecursion (IsTrueSend layout (with_story id done.0.setup.g (with_rx stories id done.0.setup.g done.0.rx) stories)) done.1.sends)
  acks_true stories id h from num tag (Err e) same at shows inferred = tt
  acks_true stories id h from num tag (Ok x) same at shows inferred =
      let g = h.setup.g in
      let done = pdu_came h from num (Ok x) in
      let acks = (terminal_acks (leg_of layout stories id g from) h from num tag (Ok x) at shows inferred).0.2 in
      let s = with_rx stories id g done.0.rx in
      let later = with_story id g s stories in
      let b = is_same_node from (layout.home id g) in
      let face = taken_face h x in
      let right : IsAckOf (leg_of layout later h.setup.id g from) (ReceivedBy (later h.setup.id g).rx) num =
      subst (λ (k : ℕ). IsAckOf (leg_of layout later k g from) (ReceivedBy (later k g).rx) num) (sym same)
      (subst (λ (t : Story). IsAckOf (if b then t.own else t.far) (ReceivedBy t.rx) num) (sym (story_here id g s stories)) acks) in (
        λ up. subst (λ (k : ℕ). IsAckOf (leg_of layout (with_story id k (with_rx stories id k done.0.rx) stories) h.setup.id g from) (ReceivedBy (with_story id k (with_rx stories id k done.0.rx) stories h.setup.id g).rx) num)
            (sym face.1) right,
        tt,
      )

  pdu_goes : (stories : Stories) → InOrder stories
      → (t : TerminalNode) (id : ℕ) (h : TerminalHalf) (from : Node) (num : ℕ) (tag : Option ℕ) (x : Result Content PduErr) → IsHalfOf layout stories id h
      → slice_get (leg_of layout stories id h.setup.g from) num ≡ Some tag → Shows h.setup.n tag x → IfSome tag (IsInferred h) → TerminalIs stories t
      → (let done = pdu_came h from num x in Goes layout T TerminalIs stories (record t { halves = holding id (Some done.0) t.halves }) done.1.sends)
  pdu_goes stories order t id h from num tag x here at shows inferred is =
      let done = pdu_came h from num x in
      let face = came_face h from num x in
      (rx_goes stories order t id done.0 done.1.sends (face.0 ∙ here.same_id) (face.2 ∙ here.n ∙ ap (layout.n id) (sym face.1))
      (received_later stories id h done.0 here.rx face.1 (terminal_stays h from num x)) (acks_true stories id h from num tag x here.same_id at shows inferred) is).goes

  -- a bearer after a flight
  abbrev AirGoes : Stories → TerminalNode → ℕ → TerminalHalf × HalfOut → Type 0
  AirGoes stories t id done = Goes layout T TerminalIs stories (record t { halves = holding id (Some done.0) t.halves }) done.1.sends

  -- its COUNT is inferred by this bearer
  abbrev InfersFor : TerminalHalf → Flight → Type 0
  InfersFor h (flight.Air id g num tag pdu) = h.setup.g ≡ g → IfSome tag (IsInferred h)
  InfersFor h _ = ⊤

  named_half : (h : TerminalHalf) (from : Node) (i g : ℕ) → is_taken h.setup from i g ≡ true → (h.setup.id ≡ i) × (h.setup.g ≡ g)
  named_half h from i g taken =
      let s = h.setup in
      let first = (and_parts (is_of s i g && has_leg_at s from) (not (has_failed s (cell_of from))) taken).0 in
      let both = and_parts (s.id == i) (s.g == g) (and_parts (is_of s i g) (has_leg_at s from) first).0 in
      (eqb-true s.id i both.0, eqb-true s.g g both.1)

  idle_half : (stories : Stories) → InOrder stories → (t : TerminalNode) (id : ℕ) (h : TerminalHalf) → IsHalfOf layout stories id h → TerminalIs stories t
      → AirGoes stories t id (h, silent)
  idle_half stories order t id h here is = sent_goes stories order t id h h [] (refl, refl, refl) refl here tt is

  half_goes : (stories : Stories) → InOrder stories → (t : TerminalNode) (id : ℕ) (h : TerminalHalf) (l : LinkId) (f : Flight) → is_same_node l.from T ≡ false
      → IsTrue layout stories l f → IsReadRight layout stories l f
      → InfersFor h f → IsHalfOf layout stories id h → TerminalIs stories t → AirGoes stories t id (terminal_air_in h l.from f)
  half_goes stories order t id h l (flight.Air i g num tag pdu) apart truth reads infers here is =
      elim (cases_Bool (is_taken h.setup l.from i g)) [
        | inl taken ↦
            let name = named_half h l.from i g taken in
            let k = h.setup.g in
            let at : slice_get (leg_of layout stories id k l.from) num ≡ Some tag =
            subst (λ (j : ℕ). slice_get (leg_of layout stories j k l.from) num ≡ Some tag) (sym name.0 ∙ here.same_id)
            (subst (λ (j : ℕ). slice_get (leg_of layout stories i j l.from) num ≡ Some tag) (sym name.1) (truth apart)) in
            let n_is : layout.n i g ≡ h.setup.n = ap (λ j. layout.n i j) (sym name.1) ∙ ap (λ j. layout.n j k) (sym name.0 ∙ here.same_id) ∙ sym here.n in
            let shows : Shows h.setup.n tag (decoded h.setup.n pdu) = subst (λ (n : SnLen). Shows n tag (decoded n pdu)) n_is (reads apart).shows in
            rw taken (pdu_goes stories order t id h l.from num tag (decoded h.setup.n pdu) here at shows (infers name.1) is)
        | inr left ↦ rw left (idle_half stories order t id h here is)
      ]
  half_goes stories order t id h l (flight.Ack i g num) apart truth reads infers here is =
      either (AirGoes stories t id) (is_taken h.setup l.from i g) (acked h (cell_of l.from) num, silent) (h, silent)
      (sent_goes stories order t id h (acked h (cell_of l.from) num) [] (refl, refl, refl) refl here tt is) (idle_half stories order t id h here is)
  half_goes stories order t id h l (flight.Tun tag packet) apart truth reads infers here is = idle_half stories order t id h here is
  half_goes stories order t id h l (flight.Sdu i g payload) apart truth reads infers here is = idle_half stories order t id h here is
  half_goes stories order t id h l (flight.End i g) apart truth reads infers here is = idle_half stories order t id h here is
  half_goes stories order t id h l (flight.Told i g count) apart truth reads infers here is = idle_half stories order t id h here is
  half_goes stories order t id h l (flight.Ctl r) apart truth reads infers here is = idle_half stories order t id h here is

  for_half : (h : TerminalHalf) (f : Flight) (t : TerminalNode) (id g : ℕ) → flight_named f ≡ Some (id, g) → held id t.halves ≡ Some h → Infers t f
      → InfersFor h f
  for_half h (flight.Air i k num tag pdu) t id g named at infers =
      let same : i ≡ id = ap (first_of i) named in
      subst (IfThere (λ (y : TerminalHalf). y.setup.g ≡ k → IfSome tag (IsInferred y))) (ap (λ j. held j t.halves) same ∙ at) infers
  for_half h (flight.Ack i k num) t id g named at infers = tt
  for_half h (flight.Tun tag packet) t id g named at infers = tt
  for_half h (flight.Sdu i k payload) t id g named at infers = tt
  for_half h (flight.End i k) t id g named at infers = tt
  for_half h (flight.Told i k count) t id g named at infers = tt
  for_half h (flight.Ctl r) t id g named at infers = tt

  air_goes : (stories : Stories) → InOrder stories → (t : TerminalNode) (l : LinkId) (f : Flight) → is_same_node l.from T ≡ false → IsTrue layout stories l f
      → IsReadRight layout stories l f → Infers t f
      → TerminalIs stories t → TerminalGoes stories (air_taken t l.from f (flight_named f))
  air_goes stories order t l f apart truth reads infers is = by (flight_named f) refl
    where
      one : (id g : ℕ) → flight_named f ≡ Some (id, g) → (o : Option TerminalHalf) → held id t.halves ≡ o → IfThere (IsHalfOf layout stories id) o
          → TerminalGoes stories (air_taken_by t l.from f id o)
      one id g named None at here = idle_goes stories order t is
      one id g named (Some h) at here = half_goes stories order t id h l f apart truth reads (for_half h f t id g named at infers) here is

      by : (o : Option Named) → flight_named f ≡ o → TerminalGoes stories (air_taken t l.from f o)
      by None named = idle_goes stories order t is
      by (Some (id, g)) named = one id g named (held id t.halves) refl (is.halves id)

  -- ---- plans

  -- the story of an item is unused
  abbrev IsUnusedItem : Stories → ℕ → Item → Type 0
  IsUnusedItem stories g i = (stories (item_id i) g).rx ≡ None

  -- a bearer of the plan is set up
  set_goes : (stories : Stories) → InOrder stories → (c : Choices) (t : TerminalNode) (id : ℕ) (s : Setup) (o : Option TerminalHalf) → s.id ≡ id
      → s.n ≡ layout.n id s.g → (stories id s.g).rx ≡ None → TerminalIs stories t
      → (let done = half_set c t id s o in RxGoes stories id done.0 done.1.sends)
  set_goes stories order c t id s None same_id same_n none is =
      rx_goes stories order t id (terminal_new s) [] same_id same_n (subst (λ (o : Option RxParts). Stays (ReceivedBy o) (Received (terminal_new s).rx)) (sym none) (λ count no'. absurd no')) tt is
  set_goes stories order c t id s (Some h) same_id same_n none is =
      let done = terminal_renew c h s in
      rx_goes stories order t id done.0 done.1 same_id same_n (subst (λ (o : Option RxParts). Stays (ReceivedBy o) (Received done.0.rx)) (sym none) (λ count no'. absurd no'))
      (legs_true layout (with_story id s.g (with_rx stories id s.g done.0.rx) stories) (send_kept c (renewed h s))) is

  item_goes : (stories : Stories) → InOrder stories → (c : Choices) (root : List ℕ) (p : Plan) (t : TerminalNode) (i : Item) → SetsAsLaidOut layout p i
      → IsUnusedItem stories p.g i → TerminalIs stories t
      → (let done = item_taken c root p t i in RxGoes stories (item_id i) done.0 done.1.sends)
  item_goes stories order c root p t (item.Set id n first shape threshold policy key old) laid none is =
      let i = item.Set id n first shape threshold policy key old in
      let st : Setup = record { node = T; sec = p.sec; g = p.g; id = id; n = n; first = first; alg = t.alg; key = octets_of_side root key.side; legs = new_legs shape threshold policy } in
      let done = half_set c t id st (held id t.halves) in
      let got = set_goes stories order c t id st (held id t.halves) refl laid.same_n none is in
      record { goes = record { later = got.goes.later; by = got.goes.by; so = got.goes.so; sends = got.goes.sends }; others = got.others }
  item_goes stories order c root p t (item.Unset id) laid none is = record {
    goes = record {
      later = stories;
      by = none_by layout T stories order;
      so = record {
        halves = out_so (λ k y. IsHalfOf layout stories k y) id t.halves is.ascend (λ k apart. is.halves k);
        ascend = set_ascends (λ k y. IsHalfOf layout stories k y) id None t.halves is.ascend;
      };
      sends = tt;
    };
    others = λ k g apart. refl;
  }

  still_unused : (stories later : Stories) (i : Item) (g : ℕ) → ((k h : ℕ) → (item_id i == k) ≡ false → later k h ≡ stories k h) → (items : List Item)
      → AllByRecursion (IsUnusedItem stories g) items
      → AllByRecursion (λ (j : Item). (item_id i == item_id j) ≡ false) items → AllByRecursion (IsUnusedItem later g) items
  still_unused stories later i g others [] none apart = tt
  still_unused stories later i g others (j ∷ items) none apart =
      (ap (λ (s : Story). s.rx) (others (item_id j) g apart.0) ∙ none.0, still_unused stories later i g others items none.1 apart.1)

  items_go : (stories : Stories) → InOrder stories → (c : Choices) (root : List ℕ) (p : Plan) (t : TerminalNode) (items : List Item)
      → AllByRecursion (SetsAsLaidOut layout p) items
      → AllByRecursion (IsUnusedItem stories p.g) items → AreApart items → TerminalIs stories t → TerminalGoes stories (in_turn (item_taken c root p) t items)
  items_go stories order c root p t [] laid none apart is = idle_goes stories order t is
  items_go stories order c root p t (i ∷ items) laid none apart is =
      let one = item_taken c root p t i in
      let got = item_goes stories order c root p t i laid.0 none.0 is in
      let first = got.goes in
      let rest = items_go first.later (order_then layout T TerminalIs stories one.0 one.1.sends first) c root p one.0 items laid.1 (still_unused stories first.later i p.g got.others items none.1 apart.0) apart.1 first.so in
      then_goes layout T TerminalIs stories one.0 (in_turn (item_taken c root p) one.0 items).0 one.1.sends (in_turn (item_taken c root p) one.0 items).1.sends first rest

  all_unused : (stories : Stories) (g : ℕ) (items : List Item) → IsNew layout T stories g → AllByRecursion (IsUnusedItem stories g) items
  all_unused stories g [] new = tt
  all_unused stories g (i ∷ items) new = ((new (item_id i)).rx refl, all_unused stories g items new)

  with_sec : (stories : Stories) (t : TerminalNode) (sec : Option Node) → TerminalIs stories t → TerminalIs stories (record t { sec = sec })
  with_sec stories t sec is = record { halves = is.halves; ascend = is.ascend }

  plan_goes : (stories : Stories) → InOrder stories → (c : Choices) (root : List ℕ) (p : Plan) (t : TerminalNode) (takes : Bool)
      → IsFit layout (IsNew layout T stories) p → AreApart p.items → TerminalIs stories t
      → TerminalGoes stories (plan_taken c root p t takes)
  plan_goes stories order c root p t true fit apart is =
      let k : TerminalNode = record t { sec = p.sec } in
      let rest = in_turn (item_taken c root p) k p.items in
      before_goes layout T TerminalIs stories rest.0 ((link T M Ctl, flight.Ctl (rec.Rcomp p.g)) ∷ []) rest.1.sends (λ later. (tt, tt))
      (items_go stories order c root p k p.items fit.1 (all_unused stories p.g p.items fit.0) apart (with_sec stories t p.sec is))
  plan_goes stories order c root p t false fit apart is = idle_goes stories order t is

  recovered_goes : (stories : Stories) → InOrder stories → (c : Choices) (t : TerminalNode) (id : ℕ) (o : Option TerminalHalf)
      → IfThere (IsHalfOf layout stories id) o → TerminalIs stories t
      → TerminalGoes stories (recovered_half c t id o)
  recovered_goes stories order c t id None here is = idle_goes stories order t is
  recovered_goes stories order c t id (Some h) here is =
      let done = with_sends (send_kept c h) in
      before_goes layout T TerminalIs stories (record t { halves = holding id (Some done.0) t.halves }) ((link T M Ctl, flight.Ctl (rec.Recovd id)) ∷ []) done.1 (λ later. (tt, tt))
      (sent_goes stories order t id h done.0 done.1 (refl, refl, refl) refl here (legs_true layout stories (send_kept c h)) is)

  record_goes : (stories : Stories) → InOrder stories → (c : Choices) (t : TerminalNode) (r : Rec) → IsFitOrder layout (IsNew layout T stories) r
      → TerminalIs stories t → TerminalGoes stories (terminal_record c t r)
  record_goes stories order c t (rec.Reconf plan key) fit is =
      plan_goes stories order c key plan t (not (list_any (λ i. not (is_takable t i)) plan.items)) fit.0 fit.1 is
  record_goes stories order c t (rec.Recov id) fit is = recovered_goes stories order c t id (held id t.halves) (is.halves id) is
  record_goes stories order c t (rec.Rcomp g) fit is = idle_goes stories order t is
  record_goes stories order c t (rec.Scgf failed) fit is = idle_goes stories order t is
  record_goes stories order c t (rec.Recovd id) fit is = idle_goes stories order t is
  record_goes stories order c t (rec.Addreq plan key) fit is = idle_goes stories order t is
  record_goes stories order c t (rec.Addack g) fit is = idle_goes stories order t is
  record_goes stories order c t (rec.Addrej g) fit is = idle_goes stories order t is
  record_goes stories order c t (rec.Modreq plan key) fit is = idle_goes stories order t is
  record_goes stories order c t (rec.Modack g) fit is = idle_goes stories order t is
  record_goes stories order c t (rec.Modrej g) fit is = idle_goes stories order t is
  record_goes stories order c t (rec.Recfg g) fit is = idle_goes stories order t is
  record_goes stories order c t (rec.Relreq plan) fit is = idle_goes stories order t is
  record_goes stories order c t (rec.Relack g) fit is = idle_goes stories order t is
  record_goes stories order c t (rec.Relrej g) fit is = idle_goes stories order t is
  record_goes stories order c t (rec.Uecr g) fit is = idle_goes stories order t is
  record_goes stories order c t (rec.Snst status) fit is = idle_goes stories order t is
  record_goes stories order c t (rec.Moved g id) fit is = idle_goes stories order t is
  record_goes stories order c t (rec.Scgn id g) fit is = idle_goes stories order t is
  record_goes stories order c t rec.Modrqd fit is = idle_goes stories order t is
  record_goes stories order c t (rec.Modcnf g) fit is = idle_goes stories order t is
  record_goes stories order c t (rec.Modref word) fit is = idle_goes stories order t is
  record_goes stories order c t rec.Chgrqd fit is = idle_goes stories order t is
  record_goes stories order c t (rec.Chgcnf plan) fit is = idle_goes stories order t is
  record_goes stories order c t (rec.Chgref word) fit is = idle_goes stories order t is
  record_goes stories order c t rec.Relrqd fit is = idle_goes stories order t is
  record_goes stories order c t (rec.Relcnf plan) fit is = idle_goes stories order t is

  -- what is needed of a flight: over the air it comes from another node; it is so, is read right and infers; an order fits
  pub record ComesRight (stories : Stories) (t : TerminalNode) (l : LinkId) (f : Flight) : Type 0 where
    pub from : l.class ≡ Air → is_same_node l.from T ≡ false
    pub true' : IsTrue layout stories l f
    pub reads : IsReadRight layout stories l f
    pub infers : Infers t f
    pub fits : (r : Rec) → f ≡ flight.Ctl r → l.class ≡ Ctl → IsFitOrder layout (IsNew layout T stories) r

  control_goes : (stories : Stories) → InOrder stories → (c : Choices) (t : TerminalNode) (f : Flight)
      → ((r : Rec) → f ≡ flight.Ctl r → IsFitOrder layout (IsNew layout T stories) r) → TerminalIs stories t
      → TerminalGoes stories (terminal_control c t f)
  control_goes stories order c t (flight.Ctl r) fits is = record_goes stories order c t r (fits r refl) is
  control_goes stories order c t (flight.Air id g num tag pdu) fits is = idle_goes stories order t is
  control_goes stories order c t (flight.Ack id g num) fits is = idle_goes stories order t is
  control_goes stories order c t (flight.Tun tag packet) fits is = idle_goes stories order t is
  control_goes stories order c t (flight.Sdu id g payload) fits is = idle_goes stories order t is
  control_goes stories order c t (flight.End id g) fits is = idle_goes stories order t is
  control_goes stories order c t (flight.Told id g count) fits is = idle_goes stories order t is

  takes_goes : (stories : Stories) → InOrder stories → (c : Choices) (t : TerminalNode) (l : LinkId) (f : Flight) (k : Class) → l.class ≡ k
      → ComesRight stories t l f → TerminalIs stories t
      → TerminalGoes stories (terminal_takes c t l.from f k)
  takes_goes stories order c t l f Ctl class right is = control_goes stories order c t f (λ r same. right.fits r same class) is
  takes_goes stories order c t l f Feed class right is = idle_goes stories order t is
  takes_goes stories order c t l f Air class right is = air_goes stories order t l f (right.from class) right.true' right.reads right.infers is
  takes_goes stories order c t l f Tun class right is = idle_goes stories order t is

  -- ---- its events

  submit_goes : (stories : Stories) → InOrder stories → (c : Choices) (t : TerminalNode) (id : ℕ) (h : TerminalHalf) (r : Result (Sender × ℕ) TxErr)
      → IsHalfOf layout stories id h → TerminalIs stories t
      → (let done = submit_as c h r in Goes layout T TerminalIs stories (record t { halves = holding id (Some done.0) t.halves }) done.2)
  submit_goes stories order c t id h (Ok (tx, count)) here is =
      let b : TerminalHalf = record h { tx = tx } in
      let done = with_sends (send_counts c b (count ∷ [])) in
      sent_goes stories order t id h done.0 done.1 (refl, refl, refl) refl here (legs_true layout stories (send_counts c b (count ∷ []))) is
  submit_goes stories order c t id h (Err (unable.Full lowest next)) here is = sent_goes stories order t id h h [] (refl, refl, refl) refl here tt is
  submit_goes stories order c t id h (Err unable.Exhausted) here is = sent_goes stories order t id h h [] (refl, refl, refl) refl here tt is
  submit_goes stories order c t id h (Err unable.Memory) here is = sent_goes stories order t id h h [] (refl, refl, refl) refl here tt is

  submitted_goes : (stories : Stories) → InOrder stories → (c : Choices) (t : TerminalNode) (id : ℕ) (payload : List ℕ) (o : Option TerminalHalf)
      → IfThere (IsHalfOf layout stories id) o → TerminalIs stories t
      → (let done = submitted_there c t id payload o in Goes layout T TerminalIs stories done.0 done.1.sends)
  submitted_goes stories order c t id payload None here is = idle_goes stories order t is
  submitted_goes stories order c t id payload (Some h) here is = submit_goes stories order c t id h (take_sdu h.tx payload) here is

  reported_goes : (stories : Stories) → InOrder stories → (c : Choices) (t : TerminalNode) (id : ℕ) (o : Option TerminalHalf)
      → IfThere (IsHalfOf layout stories id) o → TerminalIs stories t
      → (let done = reported_there c t id o in Goes layout T TerminalIs stories done.0 done.1.sends)
  reported_goes stories order c t id None here is = idle_goes stories order t is
  reported_goes stories order c t id (Some h) here is =
      let done = with_sends (send_report c h) in sent_goes stories order t id h done.0 done.1 (refl, refl, refl) refl here (legs_true layout stories (send_report c h)) is

  -- the legs over the secondary cell group are marked
  failed_half : (stories : Stories) (id : ℕ) (h : TerminalHalf) → IsHalfOf layout stories id h → IsHalfOf layout stories id (terminal_fail h)
  failed_half stories id h here =
      either (IsHalfOf layout stories id) (has_cell h.setup Scg) (record h { setup = with_failed_scg h.setup }) h (half_same stories id h (record h { setup = with_failed_scg h.setup }) (refl, refl, refl) refl here) here

  failed_all : (stories : Stories) (t : TerminalNode) → TerminalIs stories t
      → TerminalIs stories (record t { halves = map (λ (x : ℕ × TerminalHalf). (x.0, terminal_fail x.1)) t.halves })
  failed_all stories t is = record {
    halves = λ k. subst (IfThere (IsHalfOf layout stories k)) (sym (held_map terminal_fail k t.halves)) (by k (held k t.halves) (is.halves k));
    ascend = ascends_map terminal_fail 0 t.halves is.ascend;
  }
    where
      by : (k : ℕ) (o : Option TerminalHalf) → IfThere (IsHalfOf layout stories k) o → IfThere (IsHalfOf layout stories k) (option_map terminal_fail o)
      by k None here = tt
      by k (Some h) here = failed_half stories k h here

  failure_goes : (stories : Stories) → InOrder stories → (t : TerminalNode) (o : Option Node) → TerminalIs stories t
      → (let done = scg_fails t o in Goes layout T TerminalIs stories done.0 done.1.sends)
  failure_goes stories order t None is = idle_goes stories order t is
  failure_goes stories order t (Some sec) is =
      stays_goes layout T TerminalIs stories order (record t { halves = map (λ (x : ℕ × TerminalHalf). (x.0, terminal_fail x.1)) t.halves })
      ((link T M Ctl, flight.Ctl (rec.Scgf (flat_map failing_half t.halves))) ∷ []) (failed_all stories t is) (tt, tt)

  event_goes : (stories : Stories) → InOrder stories → (c : Choices) (t : TerminalNode) (e : Event) → TerminalIs stories t
      → Goes layout T TerminalIs stories (terminal_event c t e).0 (terminal_event c t e).1.sends
  event_goes stories order c t (event.Submit id d payload) is = submitted_goes stories order c t id payload (held id t.halves) (is.halves id) is
  event_goes stories order c t (event.Report node id) is = reported_goes stories order c t id (held id t.halves) (is.halves id) is
  event_goes stories order c t event.ScgFail is = failure_goes stories order t t.sec is
  event_goes stories order c t (event.Bearer id n first shape threshold policy) is = idle_goes stories order t is
  event_goes stories order c t (event.Reshape id shape) is = idle_goes stories order t is
  event_goes stories order c t (event.Remove id) is = idle_goes stories order t is
  event_goes stories order c t (event.Add node) is = idle_goes stories order t is
  event_goes stories order c t event.Change is = idle_goes stories order t is
  event_goes stories order c t event.Release is = idle_goes stories order t is
  event_goes stories order c t event.RekeySecond is = idle_goes stories order t is
  event_goes stories order c t (event.RekeyMaster root) is = idle_goes stories order t is
  event_goes stories order c t (event.Recover id) is = idle_goes stories order t is
  event_goes stories order c t (event.Deny node on) is = idle_goes stories order t is
  event_goes stories order c t (event.Ask node what) is = idle_goes stories order t is
  event_goes stories order c t (event.Step l i) is = idle_goes stories order t is
  event_goes stories order c t (event.Lose l i) is = idle_goes stories order t is
  event_goes stories order c t (event.Again l i) is = idle_goes stories order t is

  -- what is needed of an input
  abbrev pub InputIsRight : Stories → TerminalNode → Input → Type 0
  InputIsRight stories t (Cmd e) = ⊤
  InputIsRight stories t (Come l f) = ComesRight stories t l f

  -- whatever it takes
  pub terminal_goes : (stories : Stories) → InOrder stories → (c : Choices) (t : TerminalNode) (i : Input) → InputIsRight stories t i → TerminalIs stories t
      → Goes layout T TerminalIs stories (terminal_step c t i).0 (terminal_step c t i).1.sends
  terminal_goes stories order c t (Cmd e) right is = event_goes stories order c t e is
  terminal_goes stories order c t (Come l f) right is = takes_goes stories order c t l f l.class refl right is
