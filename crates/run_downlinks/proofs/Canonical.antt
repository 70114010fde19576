-- Each step of an anchor sends the data PDUs of SDUs that its entity keeps then, and no others.
use Rattle.std.proofs.Common.{ℕ, ◌≡◌, ◌++◌, ◌+◌, ◌*◌, ◌/◌, ◌^◌, ◌-◌, ◌≤◌, ◌==◌, min, ◌&&◌, ◌∙◌, Bool, true, false, List, [], ◌∷◌, Option, Some, None, arith, length, not, refl, sym, subst, inl, inr}
use Rattle.std.specs.Prelude.{Err, Ok, Result, if◌then◌else◌, is_none, is_some}
use Rattle.std.specs.List.{AllByRecursion, enumerate_from, filter_map, flat_map}
use Rattle.std.proofs.lemmas.Bool.{cases_Bool, cases_lt, eqb-true, le-leb}
use Rattle.dc_base.specs.Count.{sn, window}
use Rattle.dc_base.specs.declared.flights.Flight.{Flight}
use Rattle.dc_base.specs.declared.flights.Flight.TheVariants as flight
use Rattle.dc_base.specs.declared.nodes.Cell.{Cell}
use Rattle.dc_base.specs.declared.nodes.Dir.{Dir}
use Rattle.dc_base.specs.declared.nodes.Dir.TheVariants.{Dl, Ul}
use Rattle.dc_base.specs.declared.nodes.Node.{Node}
use Rattle.dc_base.specs.declared.numbers.SnLen.{SnLen}
use Rattle.dc_base.specs.declared.numbers.SnLen.TheVariants.{S12, S18}
use Rattle.dc_base.specs.declared.records.StatusTransfer.{StatusTransfer}
use Rattle.forward.specs.Forwarded.{whole}
use Rattle.forward.specs.Load.{Load, Sdu}
use Rattle.nr_u.specs.Tunnel.Verdicts.{again_of}
use Rattle.nr_u.specs.declared.frame.Frame.{Frame}
use Rattle.nea2.specs.Combined.{combined}
use Rattle.pdcp_pdu.proofs.Bitmaps.{length-bitmap}
use Rattle.pdcp_pdu.specs.Bitmap.{bitmap_len, is_among}
use Rattle.pdcp_pdu.specs.DataPdu.{data_pdu, is_data}
use Rattle.pdcp_pdu.specs.Pdu.{Content, decoded, report, sdu}
use Rattle.pdcp_pdu.specs.StatusReport.{report_pdu}
use Rattle.pdcp_pdu.specs.declared.pdu.PduErr.{PduErr}
use Rattle.pdcp_rx.specs.Entries.{counts_of}
use Rattle.pdcp_tx.specs.Sender.{Entry, Sender, counts, low, sdu_at}
use Rattle.pdcp_tx.specs.Sending.{give_numbers, take_sdu}
use Rattle.pdcp_tx.specs.declared.tx.TxErr.{TxErr}
use Rattle.pdcp_tx.proofs.Rules.{give_numbers-exhausted, give_numbers-full, give_numbers-ok}
use Rattle.split_leg.specs.Legs.{LegsState, acked_count, is_repeat, leg_at, with_ack, with_leg, with_send}
use Rattle.split_leg.specs.Routes.{route_of}
use Rattle.split_leg.specs.declared.legs.Route.{Route}
use Rattle.split_leg.specs.declared.legs.Route.TheVariants as route
use Rattle.transcript.proofs.OnEach.{each_append}
use Rattle.node_rules.specs.Adopting.{adopts_with, forward_in, settled, status_in, taken_over, with_load}
use Rattle.node_rules.specs.Anchor.{Active, AnchorState, Waiting, active_anchor, new_tunnel, setup_at, silent, waiting_anchor}
use Rattle.node_rules.specs.AnchorReceiving.{ack, air_ack, air_in, air_pdu, ascending, delivery_in, is_from_host, is_on_leg, packet_in, pdu_in, relayed_pdu, tunnel_in, with_delivery}
use Rattle.node_rules.specs.AnchorSending.{anchor_recovers, anchor_sends, fail_scg, is_local, leg_send, open_if, opens, recover, recover_at, report as asked_report, report_at, submit, submit_as, submit_at, tunnel_send, unlock, with_failure, with_numbers, with_tx}
use Rattle.node_rules.specs.Choices.{Choices, Send}
use Rattle.node_rules.specs.Entity.{Entity, confirmed_count, stream, take_pdu, take_pdus}
use Rattle.node_rules.specs.Packets.{Packet, delivery, forwarding, nothing, packet_of, pdu_down, pdu_up}
use Rattle.node_rules.specs.Sending.{Pdu, pdu_at, put_by, send_counts, send_each, send_one, send_report}
use Rattle.node_rules.specs.Setup.{Setup, anchor_cell, has_failed, host_of, is_of}
use Rattle.node_rules.specs.declared.bearers.AnchorOut.{AnchorOut}
use Rattle.node_rules.specs.declared.bearers.OnLeg.{OnLeg}
use Rattle.run_downlinks.specs.Canonical.{AreSentOf, IsCanonical, IsDataOf, IsSentOf, Keying, keying}

-- ---- what an entity puts on its legs

-- each PDU of these is put there
module _ (Q : Pdu → Type 0) where
  abbrev OnLegSo : OnLeg → Type 0
  OnLegSo o = Q o.pdu

  by_route : (r : Route) (repeat : Bool) (x : Pdu) (legs : LegsState) → Q x → AllByRecursion OnLegSo (put_by r repeat x legs).1
  by_route route.None repeat x legs is = tt
  by_route (route.One cell) repeat x legs is = (is, tt)
  by_route route.Both repeat x legs is = (is, (is, tt))

  each_put : (c : Choices) (pdus : List Pdu) (legs : LegsState) → AllByRecursion Q pdus → AllByRecursion OnLegSo (send_each c pdus legs).1
  each_put c [] legs all = tt
  each_put c (x ∷ pdus) legs all =
      let here = send_one c x legs in
      each_append OnLegSo here.1 (send_each c pdus here.0).1 (by_route (route_of legs c.policies (is_some x.0)) (is_repeat (with_send legs) x.0) x (with_send legs) all.0) (each_put c pdus here.0 all.1)

-- an SDU that is found is kept
found_kept : (P : Entry → Type 0) (es : List Entry) (count : ℕ) (payload : List ℕ) → AllByRecursion P es → sdu_at es count ≡ Some payload → P (count, payload)
found_kept P [] count payload all at = absurd (let bad : None ≡ Some payload = at in cc)
found_kept P (e ∷ es) count payload all at =
    elim (cases_Bool (e.0 == count)) [
      | inl here ↦
          let found : Some e.1 ≡ Some payload = rw here at at in
          let same : e.1 ≡ payload = cc in
          subst (λ n. P (n, payload)) (eqb-true e.0 count here) (subst (λ y. P (e.0, y)) same all.0)
      | inr there ↦ found_kept P es count payload all.1 (rw there at at)
    ]

is_control : (fmc : ℕ) (cs : List ℕ) → is_data (report_pdu fmc cs) ≡ false
unfolding report_pdu
is_control fmc cs = refl

is_short : (fmc : ℕ) (cs : List ℕ) → length (report_pdu fmc cs) ≤ 9000
unfolding report_pdu
is_short fmc cs = let len = length-bitmap (is_among cs) (fmc + 1) (min 8995 (bitmap_len fmc cs)) in omega arith

-- the PDU of an SDU is a data PDU
is_one : (n : SnLen) (shown : ℕ) (body : List ℕ) → is_data (data_pdu n shown body) ≡ true
unfolding data_pdu
is_one S12 shown body = le-leb 128 (128 + 16 * 0 + shown / 256) (omega arith)
is_one S18 shown body = le-leb 128 (128 + 4 * 0 + shown / 65536) (omega arith)

module _ (P : Entry → Type 0) where
  -- a PDU that an entity is to send
  abbrev Goes : Keying → Pdu → Type 0
  Goes k x = IsDataOf k P x.0 x.1 × (is_data x.1 ≡ false → length x.1 ≤ 9000)

  counts_canonical : (e : Entity) (cs : List ℕ) → AllByRecursion P e.tx.kept → AllByRecursion (Goes (keying e.setup)) (filter_map (pdu_at e) cs)
  counts_canonical e [] kept = tt
  counts_canonical e (count ∷ cs) kept = by (sdu_at e.tx.kept count) refl (counts_canonical e cs kept)
    where
      by : (o : Option (List ℕ)) → sdu_at e.tx.kept count ≡ o → AllByRecursion (Goes (keying e.setup)) (filter_map (pdu_at e) cs) → AllByRecursion (Goes (keying e.setup)) (filter_map (pdu_at e) (count ∷ cs))
      by None none more = rw none more
      by (Some payload) some more =
          let k = keying e.setup in
          let data' = is_one k.n (sn k.n count) (combined payload (stream k.alg k.key count k.id k.d (length payload))) in
          rw some (
            (λ is. record { entry = (count, payload); so = found_kept P e.tx.kept count payload kept some; tagged = refl; is = refl }, λ none. absurd (let bad : true ≡ false = sym data' ∙ none in cc)),
            more,
          )

  -- ---- how they leave

  tunnel_canonical : (s : Setup) (x : OnLeg) (host : Option Node) → Goes (keying s) x.pdu → AreSentOf (keying s) P (tunnel_send s x host)
  tunnel_canonical s x None is = tt
  tunnel_canonical s x (Some host) is = (record { number = x.num; repeat = x.repeat; pdu = x.pdu.1; is = refl; so = is.0; control = is.1 }, tt)

  leg_canonical : (s : Setup) (x : OnLeg) (own : Bool) → Goes (keying s) x.pdu → AreSentOf (keying s) P (leg_send s x own)
  leg_canonical s x true is = ((refl, refl, is.0), tt)
  leg_canonical s x false is = tunnel_canonical s x (host_of s) is

  both_sent : (k : Keying) (xs ys : List Send) → AreSentOf k P xs → AreSentOf k P ys → AreSentOf k P (xs ++ ys)
  both_sent k xs ys one two = each_append (IsSentOf k P) xs ys one two

  legs_canonical : (s : Setup) (xs : List OnLeg) → AllByRecursion (λ (x : OnLeg). Goes (keying s) x.pdu) xs → AreSentOf (keying s) P (flat_map (λ x. leg_send s x (is_local s x)) xs)
  legs_canonical s [] all = tt
  legs_canonical s (x ∷ xs) all =
      both_sent (keying s) (leg_send s x (is_local s x)) (flat_map (λ y. leg_send s y (is_local s y)) xs) (leg_canonical s x (is_local s x) all.0) (legs_canonical s xs all.1)

  -- ---- an active anchor

  sends_canonical : (c : Choices) (a : Active) (cs : List ℕ) → AllByRecursion P a.entity.tx.kept → AreSentOf (keying a.entity.setup) P (anchor_sends c a cs).1
  sends_canonical c a cs kept =
      legs_canonical a.entity.setup (send_counts c a.entity cs).1
      (each_put (Goes (keying a.entity.setup)) c (filter_map (pdu_at a.entity) cs) a.entity.setup.legs (counts_canonical a.entity cs kept))

  recovery_canonical : (c : Choices) (a : Active) → AllByRecursion P a.entity.tx.kept → AreSentOf (keying a.entity.setup) P (anchor_recovers c a).1
  recovery_canonical c a kept = sends_canonical c a (counts a.entity.tx.kept) kept

  submission_canonical : (c : Choices) (a : Active) (payload : List ℕ) (r : Result (Sender × ℕ) TxErr) → AllByRecursion P (submit_as c a payload r).0.entity.tx.kept
      → AreSentOf (keying a.entity.setup) P (submit_as c a payload r).1
  submission_canonical c a payload (Ok x) kept = sends_canonical c (with_tx a x.0) (x.1 ∷ []) kept
  submission_canonical c a payload (Err e) kept = tt

  submit_canonical : (is : Bool) (c : Choices) (a : Active) (payload : List ℕ) → AllByRecursion P (submit_at is c a payload).0.entity.tx.kept
      → AreSentOf (keying a.entity.setup) P (submit_at is c a payload).1
  submit_canonical true c a payload kept = submission_canonical c a payload (take_sdu a.entity.tx payload) kept
  submit_canonical false c a payload kept = tt

  left_of : (xs ys : List Entry) → AllByRecursion P (xs ++ ys) → AllByRecursion P xs
  left_of [] ys all = tt
  left_of (x ∷ xs) ys all = (all.0, left_of xs ys all.1)

  -- what was kept before COUNTs were given is kept then
  numbers_canonical : (c : Choices) (a : Active) → let done = with_numbers c a (give_numbers a.entity.tx) in
      AllByRecursion P done.0.entity.tx.kept → AllByRecursion P a.entity.tx.kept × AreSentOf (keying a.entity.setup) P done.1
  numbers_canonical c a =
      let tx = a.entity.tx in
      elim (cases_lt (low tx + window tx.n) (tx.next + length tx.held)) [
        | inl full ↦ rw (give_numbers-full tx full) (λ kept. (kept, tt))
        | inr room ↦ elim (cases_lt (2 ^ 32 - 1) (tx.next + length tx.held)) [
          | inl last ↦ rw (give_numbers-exhausted tx room last) (λ kept. (kept, tt))
          | inr more ↦ rw (give_numbers-ok tx room more) (λ kept. (
            left_of tx.kept (enumerate_from tx.next tx.held) kept,
            sends_canonical c (with_tx a (record tx { next = tx.next + length tx.held; kept = tx.kept ++ enumerate_from tx.next tx.held; held = [] })) _ kept,
          ))
        ]
      ]

  opening_canonical : (c : Choices) (a : Active) → AllByRecursion P (opens c a).0.entity.tx.kept → AreSentOf (keying a.entity.setup) P (opens c a).1
  opening_canonical c a kept =
      let again = anchor_recovers c (record a { is_open = true }) in
      let done = numbers_canonical c again.0 kept in
      both_sent (keying a.entity.setup) again.1 (with_numbers c again.0 (give_numbers again.0.entity.tx)).1 (recovery_canonical c (record a { is_open = true }) done.0) done.1

  open_if_canonical : (is : Bool) (c : Choices) (a : Active) → AllByRecursion P (open_if is c a).0.entity.tx.kept → AreSentOf (keying a.entity.setup) P (open_if is c a).1
  open_if_canonical true c a kept = opening_canonical c a kept
  open_if_canonical false c a kept = tt

  recover_canonical : (is : Bool) (c : Choices) (a : Active) → AllByRecursion P (recover_at is c a).0.entity.tx.kept → AreSentOf (keying a.entity.setup) P (recover_at is c a).1
  recover_canonical true c a kept = recovery_canonical c a kept
  recover_canonical false c a kept = tt

  report_canonical : (is : Bool) (c : Choices) (a : Active) → AreSentOf (keying a.entity.setup) P (report_at is c a).1
  report_canonical true c a =
      let pdu = report_pdu a.entity.rx.deliv (counts_of a.entity.rx.stored) in
      let no' : is_data pdu ≡ false = is_control a.entity.rx.deliv (counts_of a.entity.rx.stored) in
      legs_canonical a.entity.setup (send_report c a.entity).1
      (each_put (Goes (keying a.entity.setup)) c ((None, pdu) ∷ []) a.entity.setup.legs ((λ data'. absurd (let bad : true ≡ false = sym data' ∙ no' in cc), λ none. is_short a.entity.rx.deliv (counts_of a.entity.rx.stored)), tt))
  report_canonical false c a = tt

-- ---- the keying stays

abbrev Same : Active → Active → Type 0
Same a b = keying b.entity.setup ≡ keying a.entity.setup

submission_same : (c : Choices) (a : Active) (payload : List ℕ) (r : Result (Sender × ℕ) TxErr) → Same a (submit_as c a payload r).0
submission_same c a payload (Ok x) = refl
submission_same c a payload (Err e) = refl

submit_same : (is : Bool) (c : Choices) (a : Active) (payload : List ℕ) → Same a (submit_at is c a payload).0
submit_same true c a payload = submission_same c a payload (take_sdu a.entity.tx payload)
submit_same false c a payload = refl

numbers_same : (c : Choices) (a : Active) (r : Result (Sender × List ℕ) TxErr) → Same a (with_numbers c a r).0
numbers_same c a (Ok x) = refl
numbers_same c a (Err e) = refl

open_if_same : (is : Bool) (c : Choices) (a : Active) → Same a (open_if is c a).0
open_if_same true c a = let again = anchor_recovers c (record a { is_open = true }) in numbers_same c again.0 (give_numbers again.0.entity.tx)
open_if_same false c a = refl

recover_same : (is : Bool) (c : Choices) (a : Active) → Same a (recover_at is c a).0
recover_same true c a = refl
recover_same false c a = refl

report_same : (is : Bool) (c : Choices) (a : Active) → Same a (report_at is c a).0
report_same true c a = refl
report_same false c a = refl

taken_same : (e : Entity) (x : Content) → keying (take_pdu e x).0.setup ≡ keying e.setup
taken_same e (sdu s body) = refl
taken_same e (report fmc bits) = refl

all_taken_same : (e : Entity) (xs : List Content) → keying (take_pdus e xs).0.setup ≡ keying e.setup
all_taken_same e [] = refl
all_taken_same e (x ∷ xs) = all_taken_same (take_pdu e x).0 xs ∙ taken_same e x

-- ---- what an anchor is asked for

pub submit_is : (c : Choices) (s : AnchorState) (payload : List ℕ) → IsCanonical s (submit c s payload)
submit_is c (waiting_anchor w) payload = record { same = refl; sends = λ P kept. tt }
submit_is c (active_anchor a) payload = record { same = submit_same a.is_open c a payload; sends = λ P kept. submit_canonical P a.is_open c a payload kept }

pub unlock_is : (c : Choices) (s : AnchorState) → IsCanonical s (unlock c s)
unlock_is c (waiting_anchor w) = record { same = refl; sends = λ P kept. tt }
unlock_is c (active_anchor a) = record { same = open_if_same (not a.is_open) c a; sends = λ P kept. open_if_canonical P (not a.is_open) c a kept }

pub recover_is : (c : Choices) (s : AnchorState) → IsCanonical s (recover c s)
recover_is c (waiting_anchor w) = record { same = refl; sends = λ P kept. tt }
recover_is c (active_anchor a) = record { same = recover_same a.is_open c a; sends = λ P kept. recover_canonical P a.is_open c a kept }

pub fail_is : (c : Choices) (s : AnchorState) → IsCanonical s (fail_scg c s)
fail_is c (waiting_anchor w) = record { same = refl; sends = λ P kept. tt }
fail_is c (active_anchor a) =
    let b : Active = record a { entity = with_failure a.entity } in
    record { same = recover_same a.is_open c b; sends = λ P kept. recover_canonical P a.is_open c b kept }

pub report_is : (c : Choices) (s : AnchorState) → IsCanonical s (asked_report c s)
report_is c (waiting_anchor w) = record { same = refl; sends = λ P kept. tt }
report_is c (active_anchor a) = record { same = report_same a.is_open c a; sends = λ P kept. report_canonical P a.is_open c a }

-- ---- what comes to it

idle_is : (s : AnchorState) → IsCanonical s (s, silent)
idle_is s = record { same = refl; sends = λ P kept. tt }

-- whichever of two
either_is : (s : AnchorState) (t : Bool) (x y : AnchorState × AnchorOut) → IsCanonical s x → IsCanonical s y → IsCanonical s (if t then x else y)
either_is s true x y one two = one
either_is s false x y one two = two

pdu_is : (s : AnchorState) (x : Content) → IsCanonical s (pdu_in s x)
pdu_is (waiting_anchor w) x = record { same = refl; sends = λ P kept. tt }
pdu_is (active_anchor a) x = record { same = taken_same a.entity x; sends = λ P kept. tt }

ack_sent : (P : Entry → Type 0) (k : Keying) (s : Setup) (num : ℕ) (failed : Bool) → AreSentOf k P (ack s num failed)
ack_sent P k s num true = tt
ack_sent P k s num false = (tt, tt)

air_pdu_is : (s : AnchorState) (num : ℕ) (r : Result Content PduErr) → IsCanonical s (air_pdu s num r)
air_pdu_is s num (Err e) = idle_is s
air_pdu_is s num (Ok x) =
    let failed = has_failed (setup_at s) (anchor_cell (setup_at s).legs.shape) in
    let one = pdu_is s x in
    record { same = one.same; sends = λ P kept. both_sent P (keying (setup_at s)) (ack (setup_at s) num failed) (pdu_in s x).1.sends (ack_sent P (keying (setup_at s)) (setup_at s) num failed) (one.sends P kept) }

count_same : (e : Entity) (o : Option ℕ) → keying (confirmed_count e o).setup ≡ keying e.setup
count_same e None = refl
count_same e (Some count) = refl

air_ack_is : (s : AnchorState) (num : ℕ) → IsCanonical s (air_ack s num)
air_ack_is (waiting_anchor w) num = idle_is (waiting_anchor w)
air_ack_is (active_anchor a) num =
    let cell = anchor_cell a.entity.setup.legs.shape in
    let leg = leg_at a.entity.setup.legs cell in
    record {
      same = count_same (record a.entity { setup = record a.entity.setup { legs = with_leg a.entity.setup.legs cell (with_ack leg num) } }) (acked_count leg.pdus num);
      sends = λ P kept. tt;
    }

-- over the air
pub air_is : (s : AnchorState) (cell : Cell) (f : Flight) → IsCanonical s (air_in s cell f)
air_is s cell (flight.Air id g num tag pdu) =
    let r = decoded (setup_at s).n pdu in either_is s (is_on_leg (setup_at s) cell id g) (air_pdu s num r) (s, silent) (air_pdu_is s num r) (idle_is s)
air_is s cell (flight.Ack id g num) = either_is s (is_on_leg (setup_at s) cell id g) (air_ack s num) (s, silent) (air_ack_is s num) (idle_is s)
air_is s cell (flight.Tun tag packet) = idle_is s
air_is s cell (flight.Sdu id g payload) = idle_is s
air_is s cell (flight.End id g) = idle_is s
air_is s cell (flight.Told id g count) = idle_is s
air_is s cell (flight.Ctl r) = idle_is s

-- an adoption
adoption_is : (c : Choices) (w : Waiting) (st : Option StatusTransfer) (down up : Option (List Sdu)) → IsCanonical (waiting_anchor w) (adopts_with c w st down up)
adoption_is c w None down up = idle_is (waiting_anchor w)
adoption_is c w (Some st) None up = idle_is (waiting_anchor w)
adoption_is c w (Some st) (Some down) None = idle_is (waiting_anchor w)
adoption_is c w (Some st) (Some down) (Some up) =
    let e = taken_over w st down up in
    let a : Active = record { entity = (take_pdus e w.pdus).0; is_open = false; tunnel = new_tunnel w.setup.n } in
    let all = all_taken_same e w.pdus in
    record {
      same = open_if_same w.is_told c a ∙ all;
      sends = λ P kept. subst (λ k. AreSentOf k P (open_if w.is_told c a).1) all (open_if_canonical P w.is_told c a kept);
    }

settled_is : (c : Choices) (w : Waiting) → IsCanonical (waiting_anchor w) (settled c w)
settled_is c w = adoption_is c w w.transfer (whole w.down) (whole w.up)

-- from a waiting anchor with other things that came to it
with_it : (w v : Waiting) (done : AnchorState × AnchorOut) → keying v.setup ≡ keying w.setup → IsCanonical (waiting_anchor v) done → IsCanonical (waiting_anchor w) done
with_it w v done same is = record { same = is.same ∙ same; sends = λ P kept. subst (λ k. AreSentOf k P done.1.sends) same (is.sends P kept) }

-- SN STATUS TRANSFER
pub status_is : (c : Choices) (s : AnchorState) (st : StatusTransfer) → IsCanonical s (status_in c s st)
status_is c (waiting_anchor w) st =
    let v : Waiting = record w { transfer = Some st } in
    either_is (waiting_anchor w) (is_of w.setup st.id st.g && is_none w.transfer) (settled c v) (waiting_anchor w, silent) (with_it w v (settled c v) refl (settled_is c v)) (idle_is (waiting_anchor w))
status_is c (active_anchor a) st = idle_is (active_anchor a)

forward_is : (c : Choices) (s : AnchorState) (d : Dir) (load : Load) → IsCanonical s (forward_in c s d load)
forward_is c (waiting_anchor w) Dl load = let v = with_load w Dl load in with_it w v (settled c v) refl (settled_is c v)
forward_is c (waiting_anchor w) Ul load = let v = with_load w Ul load in with_it w v (settled c v) refl (settled_is c v)
forward_is c (active_anchor a) d load = idle_is (active_anchor a)

relayed_is : (s : AnchorState) (r : Result Content PduErr) → IsCanonical s (relayed_pdu s r)
relayed_is s (Err e) = idle_is s
relayed_is s (Ok x) = pdu_is s x

delivery_is : (c : Choices) (s : AnchorState) (status : Frame) → IsCanonical s (delivery_in c s status)
delivery_is c (waiting_anchor w) status = idle_is (waiting_anchor w)
delivery_is c (active_anchor a) status =
    record { same = refl; sends = λ P kept. sends_canonical P c (with_delivery a status) (ascending (again_of a.tunnel (low a.entity.tx) status)) kept }

packet_is : (c : Choices) (s : AnchorState) (p : Packet) → IsCanonical s (packet_in c s p)
packet_is c s (pdu_down id g number repeat pdu) = idle_is s
packet_is c s (pdu_up id g pdu) =
    let r = decoded (setup_at s).n pdu in either_is s (is_from_host (setup_at s) id g) (relayed_pdu s r) (s, silent) (relayed_is s r) (idle_is s)
packet_is c s (delivery id g status) = either_is s (is_from_host (setup_at s) id g) (delivery_in c s status) (s, silent) (delivery_is c s status) (idle_is s)
packet_is c s (forwarding id g d load) = either_is s (is_of (setup_at s) id g) (forward_in c s d load) (s, silent) (forward_is c s d load) (idle_is s)
packet_is c s nothing = idle_is s

-- through a tunnel
pub tunnel_is : (c : Choices) (s : AnchorState) (f : Flight) → IsCanonical s (tunnel_in c s f)
tunnel_is c s (flight.Tun tag packet) = packet_is c s (packet_of packet)
tunnel_is c s (flight.Air id g num tag pdu) = idle_is s
tunnel_is c s (flight.Ack id g num) = idle_is s
tunnel_is c s (flight.Sdu id g payload) = idle_is s
tunnel_is c s (flight.End id g) = idle_is s
tunnel_is c s (flight.Told id g count) = idle_is s
tunnel_is c s (flight.Ctl r) = idle_is s
