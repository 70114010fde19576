-- Each step of an anchor: PDUs are taken or kept, what a waiting anchor gathers is of the frozen entity, and all else leaves the
-- receiving entity as it is.
use Rattle.std.proofs.Common.{ℕ, ◌≡◌, ◌==◌, ◌++◌, ◌&&◌, Bool, true, false, List, [], ◌∷◌, Option, Ok, refl, sym, ap, ◌∙◌, subst, inl, inr, ◌^◌, ◌<◌, ◌≤◌}
use Rattle.run_receivers.proofs.Growing.{in_order}
use Rattle.run_receivers.proofs.Freezing.{frozen_says, transfer_says}
use Rattle.run_receivers.specs.Frozen.{IsOfFrozen, SaysOf}
use Rattle.node_rules.specs.Freezing.{freeze, transfer_of}
use Rattle.dc_base.specs.declared.nodes.Node.{Node}
use Rattle.std.specs.List.{AllByRecursion}
use Rattle.std.specs.Prelude.{Result, if◌then◌else◌, is_some, nat_lt, not}
use Rattle.std.proofs.lemmas.Bool.{eqb-true}
use Rattle.dc_base.specs.declared.flights.Flight.{Flight}
use Rattle.dc_base.specs.declared.flights.Flight.TheVariants as flight
use Rattle.dc_base.specs.declared.nodes.Cell.{Cell}
use Rattle.dc_base.specs.declared.nodes.Dir.{Dir}
use Rattle.dc_base.specs.declared.numbers.SnLen.{SnLen}
use Rattle.forward.specs.Load.{Load}
use Rattle.nr_u.specs.declared.frame.Frame.{Frame}
use Rattle.pdcp_pdu.specs.Pdu.{Content, decoded}
use Rattle.pdcp_pdu.specs.declared.pdu.PduErr.{PduErr}
use Rattle.pdcp_rx.specs.declared.entity.RxParts.{RxParts}
use Rattle.node_rules.specs.Adopting.{forward_in}
use Rattle.node_rules.specs.Anchor.{Active, AnchorState, active_anchor, fresh, renew, setup_at, silent, waiting_anchor}
use Rattle.node_rules.specs.AnchorReceiving.{ack, air_ack, air_in, air_pdu, delivery_in, is_from_host, is_on_leg, packet_in, pdu_in, relayed_pdu, tunnel_in, with_confirm}
use Rattle.node_rules.specs.AnchorSending.{fail_scg, recover, report, submit, unlock}
use Rattle.node_rules.specs.Choices.{Choices, Send}
use Rattle.node_rules.specs.Entity.{take_pdu}
use Rattle.node_rules.specs.Feed.{Fed, sdu_in}
use Rattle.node_rules.specs.Packets.{Packet, delivery, forwarding, nothing, packet_of, pdu_down, pdu_up}
use Rattle.node_rules.specs.Setup.{Setup, anchor_cell, has_cell, has_failed, host_of, is_of, is_same_cell}
use Rattle.node_rules.specs.declared.bearers.AnchorOut.{AnchorOut}
use Rattle.run_receivers.specs.Anchors.{HasCome, HasReceiver, HasStepped, IsForAnchor, IsForwardedTo, IsPduFor, IsReceivingAt, IsYoung, MayCome}
use Rattle.run_receivers.specs.Pdus.{Ciphering, IsPdu, IsReader}
use Rattle.run_receivers.specs.Receiving.{HasTaken, IsReceiving}
use Rattle.run_receivers.specs.Submitted.{Submitted}
use Rattle.run_receivers.proofs.Gathering.{forward_stepped, pdus_more, still, stored_payloads}
use Rattle.run_receivers.proofs.Taking.{reader_stays, taken_none, young_taken}
use Rattle.run_receivers.proofs.Untouched.{LeavesReceiver, acked_untouched, delivery_leaves, failure_leaves, open_if_leaves, recovery_leaves, report_leaves, same_reader, submit_leaves}

-- ---- the beginning

-- the anchor of a new bearer
pub fresh_holds : (u : Submitted) (low : ℕ) (k : Ciphering) (s : Setup) → IsReader u k s
    → HasReceiver u low k (record { n = s.n; deliv = s.first; stored = [] }) [] (fresh s)
fresh_holds u low k s reader = record { reader = reader; is = refl; none = refl }

-- the anchor in a new generation: the entity is as it was, under the new key
pub renew_holds : (u : Submitted) (low : ℕ) (k new : Ciphering) (rx : RxParts) (tags : List (Option ℕ)) (a : Active) (s : Setup)
    → HasReceiver u low k rx tags (active_anchor a) → IsReader u new s
    → HasReceiver u low new rx tags (active_anchor (renew a s))
renew_holds u low k new rx tags a s h reader = record { reader = reader; is = h.is; none = h.none }

-- as the anchor is set up it reads what was submitted
pub reader_at : (u : Submitted) (low : ℕ) (k : Ciphering) (rx : RxParts) (tags : List (Option ℕ)) (s : AnchorState) → HasReceiver u low k rx tags s
    → IsReader u k (setup_at s)
reader_at u low k rx tags (waiting_anchor w) h = h.reader
reader_at u low k rx tags (active_anchor a) h = h.reader

left_of : (a b : Bool) → (a && b) ≡ true → a ≡ true
left_of true b is = refl
left_of false b is = absurd cc

module _ (u : Submitted) (low : ℕ) (k : Ciphering) (rx : RxParts) (r : IsReceiving u low rx) (kept : List (Option ℕ)) where
  -- an active anchor that leaves its receiving entity
  left : (a b : Active) (out : AnchorOut) → IsReceivingAt u k rx kept a → LeavesReceiver a b → out.ups ≡ []
      → HasStepped u low k rx kept [] (active_anchor b, out)
  left a b out h leaves none =
      still u low k rx r kept (active_anchor b) out
      (record { reader = same_reader u k a.entity.setup b.entity.setup leaves.setup h.reader; is = leaves.rx ∙ h.is; none = h.none }) none

  -- ---- what is asked of an anchor

  pub submit_stepped : (c : Choices) (s : AnchorState) (p : List ℕ) → HasReceiver u low k rx kept s → HasStepped u low k rx kept [] (submit c s p)
  submit_stepped c (waiting_anchor w) p h =
      still u low k rx r kept (waiting_anchor (record w { fresh = w.fresh ++ p ∷ [] })) silent
      (record { reader = h.reader; transfer = h.transfer; up = h.up; kept = h.kept }) refl
  submit_stepped c (active_anchor a) p h = left a _ _ h (submit_leaves a.is_open c a p) refl

  pub unlock_stepped : (c : Choices) (s : AnchorState) → HasReceiver u low k rx kept s → HasStepped u low k rx kept [] (unlock c s)
  unlock_stepped c (waiting_anchor w) h =
      still u low k rx r kept (waiting_anchor (record w { is_told = true })) silent
      (record { reader = h.reader; transfer = h.transfer; up = h.up; kept = h.kept }) refl
  unlock_stepped c (active_anchor a) h = left a _ _ h (open_if_leaves (not a.is_open) c a) refl

  pub recover_stepped : (c : Choices) (s : AnchorState) → HasReceiver u low k rx kept s → HasStepped u low k rx kept [] (recover c s)
  recover_stepped c (waiting_anchor w) h = still u low k rx r kept (waiting_anchor w) silent h refl
  recover_stepped c (active_anchor a) h = left a _ _ h (recovery_leaves a.is_open c a) refl

  pub fail_stepped : (c : Choices) (s : AnchorState) → HasReceiver u low k rx kept s → HasStepped u low k rx kept [] (fail_scg c s)
  fail_stepped c (waiting_anchor w) h =
      let reader : IsReader u k (setup_at (fail_scg c (waiting_anchor w)).0) = record { same_n = h.reader.same_n; same_key = h.reader.same_key } in
      still u low k rx r kept (fail_scg c (waiting_anchor w)).0 silent (record { reader = reader; transfer = h.transfer; up = h.up; kept = h.kept }) refl
  fail_stepped c (active_anchor a) h = left a _ _ h (failure_leaves a.is_open c a) refl

  pub report_stepped : (c : Choices) (s : AnchorState) → HasReceiver u low k rx kept s → HasStepped u low k rx kept [] (report c s)
  report_stepped c (waiting_anchor w) h = still u low k rx r kept (waiting_anchor w) silent h refl
  report_stepped c (active_anchor a) h = left a _ _ h (report_leaves a.is_open c a) refl

  -- an SDU from the core
  pub sdu_stepped : (c : Choices) (f : Fed) (g : ℕ) (p : List ℕ) → HasReceiver u low k rx kept f.anchor
      → HasStepped u low k rx kept [] ((sdu_in c f g p).0.anchor, (sdu_in c f g p).1)
  sdu_stepped c f g p h = by (nat_lt g f.since)
    where
      by : (t : Bool) → let done = if◌then◌else◌ {A = Fed × AnchorOut} t (f, silent) (record f { anchor = (submit c f.anchor p).0 }, (submit c f.anchor p).1) in
          HasStepped u low k rx kept [] (done.0.anchor, done.1)
      by true = still u low k rx r kept f.anchor silent h refl
      by false = submit_stepped c f.anchor p h

  -- ---- a PDU comes

  pub pdu_stepped : (s : AnchorState) (tag : Option ℕ) (x : Content) → HasReceiver u low k rx kept s → IsPdu u k tag x → MayCome u low rx tag s
      → HasStepped u low k rx kept (tag ∷ []) (pdu_in s x)
  pdu_stepped (waiting_anchor w) tag x h is may =
      record {
        after = rx;
        tags = [];
        left = kept ++ tag ∷ [];
        taken = taken_none u low rx r;
        holds = record { reader = h.reader; transfer = h.transfer; up = h.up; kept = pdus_more u k low kept w.pdus tag x h.kept is may };
        those = refl;
      }
  pdu_stepped (active_anchor a) tag x h is may =
      let done = take_pdu a.entity x in
      let mine = subst (IsReceiving u low) (sym h.is) r in
      let taken = young_taken u low k a.entity mine h.reader tag x is (subst (λ y. IsYoung u y tag) (sym h.is) may) in
      record {
        after = done.0.rx;
        tags = tag ∷ [];
        left = [];
        taken = subst (λ y. HasTaken u low (tag ∷ []) y done.0.rx done.1) h.is taken;
        holds = record { reader = reader_stays u k a.entity x h.reader; is = refl; none = refl };
        those = ap (λ (ts : List (Option ℕ)). ts ++ tag ∷ []) (sym h.none);
      }

  -- with its confirm
  confirmed : (acks : List Send) (new : List (Option ℕ)) (done : AnchorState × AnchorOut) → HasStepped u low k rx kept new done
      → HasStepped u low k rx kept new (with_confirm acks done)
  confirmed acks new done h = record { after = h.after; tags = h.tags; left = h.left; taken = h.taken; holds = h.holds; those = h.those }

  -- the octets of one
  octets_stepped : (s : AnchorState) (num : ℕ) (tag : Option ℕ) (pdu : List ℕ) → HasReceiver u low k rx kept s → IsPduFor u low k rx s tag pdu
      → HasStepped u low k rx kept (tag ∷ []) (air_pdu s num (decoded (setup_at s).n pdu))
  octets_stepped s num tag pdu h may =
      let p = may.0 in
      let read : decoded (setup_at s).n pdu ≡ Ok p.content = ap (λ (n : SnLen). decoded n pdu) (reader_at u low k rx kept s h).same_n ∙ p.read in
      let acks = ack (setup_at s) num (has_failed (setup_at s) (anchor_cell (setup_at s).legs.shape)) in
      subst (λ (o : Result Content PduErr). HasStepped u low k rx kept (tag ∷ []) (air_pdu s num o)) (sym read)
      (confirmed acks (tag ∷ []) (pdu_in s p.content) (pdu_stepped s tag p.content h p.is may.1))

  relayed_stepped : (s : AnchorState) (tag : Option ℕ) (pdu : List ℕ) → HasReceiver u low k rx kept s → IsPduFor u low k rx s tag pdu
      → HasStepped u low k rx kept (tag ∷ []) (relayed_pdu s (decoded (setup_at s).n pdu))
  relayed_stepped s tag pdu h may =
      let p = may.0 in
      let read : decoded (setup_at s).n pdu ≡ Ok p.content = ap (λ (n : SnLen). decoded n pdu) (reader_at u low k rx kept s h).same_n ∙ p.read in
      subst (λ (o : Result Content PduErr). HasStepped u low k rx kept (tag ∷ []) (relayed_pdu s o)) (sym read) (pdu_stepped s tag p.content h p.is may.1)

  -- ---- over the air

  -- a flight that brings no PDU
  none_came : (f : Flight) (done : AnchorState × AnchorOut) → HasStepped u low k rx kept [] done → HasCome u low k rx kept f done
  none_came f done h = record { new = []; one = inl refl; stepped = h }

  ack_stepped : (s : AnchorState) (num : ℕ) → HasReceiver u low k rx kept s → HasStepped u low k rx kept [] (air_ack s num)
  ack_stepped (waiting_anchor w) num h = still u low k rx r kept (waiting_anchor w) silent h refl
  ack_stepped (active_anchor a) num h = left a _ _ h (acked_untouched a.entity (anchor_cell a.entity.setup.legs.shape) num) refl

  on_leg : (s : AnchorState) (cell : Cell) (id g : ℕ) → is_on_leg (setup_at s) cell id g ≡ true → is_of (setup_at s) id g ≡ true
  on_leg s cell id g is =
      left_of (is_of (setup_at s) id g) _
      (left_of (is_of (setup_at s) id g && is_same_cell cell (anchor_cell (setup_at s).legs.shape)) (has_cell (setup_at s) cell) is)

  pub air_stepped : (s : AnchorState) (cell : Cell) (f : Flight) → HasReceiver u low k rx kept s → IsForAnchor u low k rx s f
      → HasCome u low k rx kept f (air_in s cell f)
  air_stepped s cell (flight.Air id g num tag pdu) h may = by (is_on_leg (setup_at s) cell id g) refl
    where
      by : (t : Bool) → is_on_leg (setup_at s) cell id g ≡ t
          → HasCome u low k rx kept (flight.Air id g num tag pdu)
          (if◌then◌else◌ {A = AnchorState × AnchorOut} t (air_pdu s num (decoded (setup_at s).n pdu)) (s, silent))
      by true is = record { new = tag ∷ []; one = inr refl; stepped = octets_stepped s num tag pdu h (may (on_leg s cell id g is)) }
      by false is = none_came (flight.Air id g num tag pdu) (s, silent) (still u low k rx r kept s silent h refl)
  air_stepped s cell (flight.Ack id g num) h may = by (is_on_leg (setup_at s) cell id g)
    where
      by : (t : Bool) → HasCome u low k rx kept (flight.Ack id g num) (if◌then◌else◌ {A = AnchorState × AnchorOut} t (air_ack s num) (s, silent))
      by true = none_came (flight.Ack id g num) (air_ack s num) (ack_stepped s num h)
      by false = none_came (flight.Ack id g num) (s, silent) (still u low k rx r kept s silent h refl)
  air_stepped s cell (flight.Tun tag packet) h may = none_came (flight.Tun tag packet) (s, silent) (still u low k rx r kept s silent h refl)
  air_stepped s cell (flight.Sdu id g p) h may = none_came (flight.Sdu id g p) (s, silent) (still u low k rx r kept s silent h refl)
  air_stepped s cell (flight.End id g) h may = none_came (flight.End id g) (s, silent) (still u low k rx r kept s silent h refl)
  air_stepped s cell (flight.Told id g count) h may = none_came (flight.Told id g count) (s, silent) (still u low k rx r kept s silent h refl)
  air_stepped s cell (flight.Ctl rec) h may = none_came (flight.Ctl rec) (s, silent) (still u low k rx r kept s silent h refl)

  -- ---- through a tunnel

  delivery_stepped : (c : Choices) (s : AnchorState) (status : Frame) → HasReceiver u low k rx kept s → HasStepped u low k rx kept [] (delivery_in c s status)
  delivery_stepped c (waiting_anchor w) status h = still u low k rx r kept (waiting_anchor w) silent h refl
  delivery_stepped c (active_anchor a) status h = left a _ _ h (delivery_leaves c a status) refl

  -- the packet was read, of the anchor's bearer and generation
  load_stepped : (c : Choices) (s : AnchorState) (tag : Option ℕ) (packet : List ℕ) (id g : ℕ) (d : Dir) (load : Load) → HasReceiver u low k rx kept s
      → IsForwardedTo rx s (flight.Tun tag packet)
      → packet_of packet ≡ forwarding id g d load → is_of (setup_at s) id g ≡ true → HasStepped u low k rx kept [] (forward_in c s d load)
  load_stepped c (waiting_anchor w) tag packet id g d load h says read is =
      let id_is : w.setup.id ≡ id = eqb-true w.setup.id id (left_of (w.setup.id == id) (w.setup.g == g) is) in
      let g_is : w.setup.g ≡ g = eqb-true w.setup.g g (right_of (w.setup.id == id) (w.setup.g == g) is) in
      forward_stepped u low k rx r c kept w d load h (λ up.
      says load (read ∙ ap (λ x. forwarding x g d load) (sym id_is) ∙ ap (λ x. forwarding w.setup.id x d load) (sym g_is) ∙ ap
      (λ x. forwarding w.setup.id w.setup.g x load) up))
    where
      right_of : (a b : Bool) → (a && b) ≡ true → b ≡ true
      right_of true b is' = is'
      right_of false b is' = absurd cc
  load_stepped c (active_anchor a) tag packet id g d load h says read is = still u low k rx r kept (active_anchor a) silent h refl

  packet_stepped : (c : Choices) (s : AnchorState) (tag : Option ℕ) (packet : List ℕ) (p : Packet) → packet_of packet ≡ p → HasReceiver u low k rx kept s
      → IsForAnchor u low k rx s (flight.Tun tag packet)
      → HasCome u low k rx kept (flight.Tun tag packet) (packet_in c s p)
  packet_stepped c s tag packet (pdu_down id g number repeat pdu) read h may =
      none_came (flight.Tun tag packet) (s, silent) (still u low k rx r kept s silent h refl)
  packet_stepped c s tag packet (pdu_up id g pdu) read h may = by (is_from_host (setup_at s) id g) refl
    where
      by : (t : Bool) → is_from_host (setup_at s) id g ≡ t
          → HasCome u low k rx kept (flight.Tun tag packet)
          (if◌then◌else◌ {A = AnchorState × AnchorOut} t (relayed_pdu s (decoded (setup_at s).n pdu)) (s, silent))
      by true is =
          record {
            new = tag ∷ [];
            one = inr refl;
            stepped = relayed_stepped s tag pdu h
                (may.0 id g pdu read (left_of (is_of (setup_at s) id g) (is_some (host_of (setup_at s))) is));
          }
      by false is = none_came (flight.Tun tag packet) (s, silent) (still u low k rx r kept s silent h refl)
  packet_stepped c s tag packet (delivery id g status) read h may = by (is_from_host (setup_at s) id g)
    where
      by : (t : Bool) → HasCome u low k rx kept (flight.Tun tag packet) (if◌then◌else◌ {A = AnchorState × AnchorOut} t (delivery_in c s status) (s, silent))
      by true = none_came (flight.Tun tag packet) (delivery_in c s status) (delivery_stepped c s status h)
      by false = none_came (flight.Tun tag packet) (s, silent) (still u low k rx r kept s silent h refl)
  packet_stepped c s tag packet (forwarding id g d load) read h may = by (is_of (setup_at s) id g) refl
    where
      by : (t : Bool) → is_of (setup_at s) id g ≡ t
          → HasCome u low k rx kept (flight.Tun tag packet) (if◌then◌else◌ {A = AnchorState × AnchorOut} t (forward_in c s d load) (s, silent))
      by true is = none_came (flight.Tun tag packet) (forward_in c s d load) (load_stepped c s tag packet id g d load h may.1 read is)
      by false is = none_came (flight.Tun tag packet) (s, silent) (still u low k rx r kept s silent h refl)
  packet_stepped c s tag packet nothing read h may = none_came (flight.Tun tag packet) (s, silent) (still u low k rx r kept s silent h refl)

  pub tunnel_stepped : (c : Choices) (s : AnchorState) (f : Flight) → HasReceiver u low k rx kept s → IsForAnchor u low k rx s f
      → HasCome u low k rx kept f (tunnel_in c s f)
  tunnel_stepped c s (flight.Tun tag packet) h may = packet_stepped c s tag packet (packet_of packet) refl h may
  tunnel_stepped c s (flight.Air id g num tag pdu) h may = none_came (flight.Air id g num tag pdu) (s, silent) (still u low k rx r kept s silent h refl)
  tunnel_stepped c s (flight.Ack id g num) h may = none_came (flight.Ack id g num) (s, silent) (still u low k rx r kept s silent h refl)
  tunnel_stepped c s (flight.Sdu id g p) h may = none_came (flight.Sdu id g p) (s, silent) (still u low k rx r kept s silent h refl)
  tunnel_stepped c s (flight.End id g) h may = none_came (flight.End id g) (s, silent) (still u low k rx r kept s silent h refl)
  tunnel_stepped c s (flight.Told id g count) h may = none_came (flight.Told id g count) (s, silent) (still u low k rx r kept s silent h refl)
  tunnel_stepped c s (flight.Ctl rec) h may = none_came (flight.Ctl rec) (s, silent) (still u low k rx r kept s silent h refl)

-- ---- the bearer is given up

-- what a freeze sends is of the receiving entity, or says nothing of one; and so is the status transfer
pub freeze_of : (u : Submitted) (low : ℕ) (k : Ciphering) (rx : RxParts) (tags : List (Option ℕ)) (a : Active) (target : Node) (h : ℕ) (last : Bool)
    → IsReceiving u low rx → HasReceiver u low k rx tags (active_anchor a) → h < 2 ^ 24 → 1 ≤ a.entity.setup.id → a.entity.setup.id ≤ 32
    → (other : RxParts) (g id : ℕ) → (g ≡ h → id ≡ a.entity.setup.id → other ≡ rx)
    → SaysOf rx (freeze a target h last).status × AllByRecursion (λ (x : Send). IsOfFrozen other g id x.1) (freeze a target h last).sends
freeze_of u low k rx tags a target h last r holds small some most other g id same =
    let mine : IsReceiving u low a.entity.rx = subst (IsReceiving u low) (sym holds.is) r in (
      subst (λ x. SaysOf x (transfer_of a.entity h)) holds.is (transfer_says a.entity h),
      frozen_says a target h last small some most (mine.same_n ∙ sym holds.reader.same_n) (in_order u low a.entity.rx mine)
          (stored_payloads u low a.entity.rx mine) other g id
          (λ gen identity. same gen identity ∙ sym holds.is),
    )
