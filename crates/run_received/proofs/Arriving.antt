-- An uplink PDU, as an anchor of its bearer reads it (TS 38.323, 5.2.2 and 5.8).
use Rattle.std.proofs.Common.{ℕ, ◌≡◌, ◌+◌, ◌-◌, ◌<◌, ◌≤◌, ◌==◌, Bool, true, false, List, [], ◌∷◌}
use Rattle.std.proofs.Common.{Option, Some, None, length, slice_get, refl, sym, ap, subst, ◌∙◌, inl, inr, arith}
use Rattle.std.specs.Prelude.{Ok, find, if◌then◌else◌, map, nat_le, nat_lt}
use Rattle.std.specs.List.{AllByRecursion}
use Rattle.std.proofs.lemmas.Bool.{and_from, cases_Bool, le-leb, leb-true, lt-ltb}
use Rattle.dc_base.specs.Count.{sn, window}
use Rattle.dc_base.specs.declared.flights.Flight.TheVariants as flight
use Rattle.dc_base.specs.declared.nodes.Alg.{Alg}
use Rattle.dc_base.specs.declared.nodes.Alg.TheVariants.{Nea0, Nea2}
use Rattle.dc_base.specs.declared.nodes.Cell.{Cell}
use Rattle.dc_base.specs.declared.nodes.Dir.TheVariants.{Ul}
use Rattle.dc_base.specs.declared.nodes.KeyName.{KeyName}
use Rattle.dc_base.specs.declared.nodes.LinkId.{LinkId}
use Rattle.dc_base.specs.declared.nodes.Node.TheVariants.{T}
use Rattle.dc_base.specs.declared.numbers.SnLen.{SnLen}
use Rattle.key_chain.specs.KeyNames.{octets}
use Rattle.nea2.specs.Combined.{combined}
use Rattle.nea2.specs.Keystream.{keystream}
use Rattle.pdcp_pdu.specs.DataPdu.{IsPayload, data_pdu, is_data}
use Rattle.pdcp_pdu.specs.Pdu.{decoded}
use Rattle.pdcp_rx.specs.declared.entity.RxParts.{RxParts}
use Rattle.claims.specs.Past.{Bearer, Past}
use Rattle.claims.specs.Protected as protected
use Rattle.claims.specs.HandedUp.{is_within}
use Rattle.claims.specs.Reading.{Setting, holds, latest, setting}
use Rattle.claims.specs.Taking.{direction_in}
use Rattle.claims.specs.Views.{Pdu, report_in}
use Rattle.node_rules.specs.Anchor.{Active, AnchorState, active_anchor, silent}
use Rattle.node_rules.specs.AnchorReceiving.{ack, air_in, air_pdu, is_from_host, is_on_leg, packet_in, pdu_in, relayed_pdu, tunnel_in, with_confirm}
use Rattle.node_rules.specs.Choices.{Choices}
use Rattle.node_rules.specs.Packets.{packet_of, pdu_up}
use Rattle.node_rules.specs.declared.bearers.AnchorOut.{AnchorOut}
use Rattle.node_rules.specs.Entity.{Entity, pdu_of, risen_low, stream, take_pdu}
use Rattle.node_rules.specs.Setup.{Setup, anchor_cell, has_failed, new_legs}
use Rattle.run_receivers.specs.Pdus.{IsPduIn, IsReader}
use Rattle.run_receivers.specs.Receiving.{HasTaken}
use Rattle.run_receivers.proofs.Taking.{young_taken}
use Rattle.run_receivers.specs.Submitted.{IsSubmission}
use Rattle.run_receivers.proofs.Ciphering.{pdu_sent}
use Rattle.run_relays.specs.Pdus.{IsGoodPdu, named_face, payload_of, pdu_octets}
use Rattle.run_uplinks.specs.Readings.{Face, face_of, reading}
use Rattle.run_uplinks.specs.Seen.{seen, uplink_of}
use Rattle.run_received.specs.Receipts.{Receipt, receipt_of, submitted_to}
use Rattle.run_received.specs.Receivers.{IsReceiver, ciphering_of}
use Rattle.run_received.specs.Changes.{count_on, data_on, early_on, is_named, maybe_pdu_on, pdu_on, report_on, set_pdu_on, waits_on}
use Rattle.run_received.proofs.Receiving.{one_tag, receives_more, with_taken}

-- the establishment that a generation is one of, where the latest is not younger, is the latest
pub face_latest : (id g : ℕ) (bs : List Bearer) (b : Bearer) → find (λ (x : Bearer). x.id == id) bs ≡ Some b → nat_le b.g g ≡ true
    → named_face id g (map face_of (map uplink_of bs)) ≡ Some (face_of (uplink_of b))
face_latest id g [] b at upto = absurd (let bad : None ≡ Some b = at in cc)
face_latest id g (x ∷ bs) b at upto =
    elim (cases_Bool (x.id == id)) [
      | inl here ↦
          let is : Some x ≡ Some b = rw here at at in
          let same : x ≡ b = cc in
          let upto' : nat_le x.g g ≡ true = subst (λ (y : Bearer). nat_le y.g g ≡ true) (sym same) upto in
          rw (here, upto') (ap (λ (y : Bearer). Some (face_of (uplink_of y))) same)
      | inr there ↦ rw there (face_latest id g bs b (rw there at at) upto)
    ]

-- the keystream of a key is that of its name
stream_is : (alg : Alg) (roots : List (List ℕ)) (name : KeyName) (count id len : ℕ)
    → stream alg (octets roots name) count id Ul len ≡ protected.stream alg roots name count id Ul len
unfolding keystream
stream_is Nea0 roots name count id len = refl
stream_is Nea2 roots name count id len = refl

-- a submission, by its payload
payload_sub : (b : Bearer) (c : ℕ) (payload : List ℕ) → payload_of (face_of (uplink_of b)) c ≡ Some payload
    → IsSubmission (submitted_to (receipt_of b)) (c, payload)
payload_sub b c payload at = by (nat_le b.first c) refl at
  where
    by : (t : Bool) → nat_le b.first c ≡ t → (if t then slice_get b.up.submitted (c - b.first) else None) ≡ Some payload
        → IsSubmission (submitted_to (receipt_of b)) (c, payload)
    by true from at' = record { from = leb-true b.first c from; payload = at' }
    by false from at' = absurd (let bad : None ≡ Some payload = at' in cc)

-- an uplink data PDU of a generation of the latest establishment: its COUNT is one that was submitted, and it is read as the PDU of that
-- submission
pub record IsRead (p : Past) (b : Bearer) (set : Setting) (tag : Option ℕ) (pdu : List ℕ) : Type 0 where
  pub count : ℕ
  pub tagged : tag ≡ Some count
  pub payload : List ℕ
  pub submission : IsSubmission (submitted_to (receipt_of b)) (count, payload)
  pub reads : IsPduIn (submitted_to (receipt_of b)) (ciphering_of p b.id set) (Some count) pdu

pub pdu_read : (p : Past) (b : Bearer) (id g : ℕ) (tag : Option ℕ) (pdu : List ℕ) (set : Setting) → IsGoodPdu (reading (seen p)) id g tag pdu
    → latest p id ≡ Some b → b.id ≡ id → nat_le b.g g ≡ true → setting p id g ≡ Some set → AllByRecursion IsPayload b.up.submitted
    → IsRead p b set tag pdu
pdu_read p b id g tag pdu set good at of_id upto in_plan payloads =
    let faces = map face_of (map uplink_of p.bearers) in
    let face : good.face ≡ face_of (uplink_of b) = let is : Some good.face ≡ Some (face_of (uplink_of b)) = sym good.of_face
    ∙ face_latest id g p.bearers b at upto in cc in
    let same : good.set ≡ set = let is : Some good.set ≡ Some set = sym good.in_plan ∙ in_plan in cc in
    let sub = payload_sub b good.count good.payload (ap (λ (f : Face). payload_of f good.count) (sym face) ∙ good.submitted) in
    let k = ciphering_of p b.id set in
    let s : Setup = record {
      node = T;
      sec = None;
      g = g;
      id = b.id;
      n = b.n;
      first = b.first;
      alg = p.header.alg;
      key = octets p.table.roots set.key;
      legs = new_legs set.shape 0 0;
    } in
    let is : pdu ≡ pdu_of s (good.count, good.payload) =
    good.octets
    ∙ ap (λ (f : Face). pdu_octets (reading (seen p)) f good.set.key good.count good.payload) face
    ∙ ap (λ (x : Setting). pdu_octets (reading (seen p)) (face_of (uplink_of b)) x.key good.count good.payload) same
    ∙ ap (λ z. data_pdu b.n (sn b.n good.count) (combined good.payload z))
    (sym (stream_is p.header.alg p.table.roots set.key good.count b.id (length good.payload))) in
    record {
      count = good.count;
      tagged = good.tagged;
      payload = good.payload;
      submission = sub;
      reads = subst (IsPduIn (submitted_to (receipt_of b)) k (Some good.count)) (sym is)
          (pdu_sent (submitted_to (receipt_of b)) k s good.count good.payload payloads (record { same_n = refl; same_key = refl }) sub);
    }

-- ---- at an active anchor

-- it is taken: the entity is what the past says, once it has the COUNT as taken and what is handed up
pub data_arrives : (p : Past) (b : Bearer) (set : Setting) (tag : Option ℕ) (pdu : List ℕ) (e : Entity) → IsReceiver (receipt_of b) e.rx
    → IsReader (submitted_to (receipt_of b)) (ciphering_of p b.id set) e.setup → (is : IsRead p b set tag pdu)
    → e.rx.deliv ≤ is.count + window b.n
    → (let done = take_pdu e is.reads.content in
    IsReceiver (with_taken (is.count ∷ []) done.1 (receipt_of b)) done.0.rx
    × HasTaken (submitted_to (receipt_of b)) b.up.freed (Some is.count ∷ []) e.rx done.0.rx done.1)
data_arrives p b set tag pdu e receiver reader is young =
    let r = receipt_of b in
    let done = take_pdu e is.reads.content in
    let taken = young_taken (submitted_to r) b.up.freed (ciphering_of p b.id set) e receiver.receiving reader
    (Some is.count) is.reads.content is.reads.is young in
    (receives_more r e.rx done.0.rx (Some is.count ∷ []) (is.count ∷ []) done.1 receiver taken (one_tag is.count), taken)

-- it comes over the leg of the anchor's own node
pub over_air : (p : Past) (b : Bearer) (set : Setting) (tag : Option ℕ) (pdu : List ℕ) (a : Active) (cell : Cell) (id g num : ℕ)
    → a.entity.setup.n ≡ b.n → is_on_leg a.entity.setup cell id g ≡ true → (is : IsRead p b set tag pdu)
    → (let done = take_pdu a.entity is.reads.content in let here = air_in (active_anchor a) cell (flight.Air id g num tag pdu) in
    (here.0 ≡ active_anchor (record a { entity = done.0 })) × (here.1.ups ≡ done.1) × (here.1.adopted ≡ false)
    × (here.1.low ≡ risen_low a.entity done.0))
over_air p b set tag pdu a cell id g num same_n on is =
    let read : decoded a.entity.setup.n pdu ≡ Ok is.reads.content = ap (λ (n : SnLen). decoded n pdu) same_n ∙ is.reads.read in
    let acks = ack a.entity.setup num (has_failed a.entity.setup (anchor_cell a.entity.setup.legs.shape)) in
    let all : air_in (active_anchor a) cell (flight.Air id g num tag pdu) ≡ with_confirm acks (pdu_in (active_anchor a) is.reads.content) =
    ap (λ t. if◌then◌else◌ {A = AnchorState × AnchorOut} t (air_pdu (active_anchor a) num (decoded a.entity.setup.n pdu)) (active_anchor a, silent)) on
    ∙ ap (air_pdu (active_anchor a) num) read in (
      ap (λ (d : AnchorState × AnchorOut). d.0) all,
      ap (λ (d : AnchorState × AnchorOut). d.1.ups) all,
      ap (λ (d : AnchorState × AnchorOut). d.1.adopted) all,
      ap (λ (d : AnchorState × AnchorOut). d.1.low) all,
    )

-- or the leg host relays it
pub relayed : (p : Past) (b : Bearer) (set : Setting) (tag : Option ℕ) (pdu : List ℕ) (c : Choices) (a : Active) (packet : List ℕ) (id g : ℕ)
    → a.entity.setup.n ≡ b.n → is_from_host a.entity.setup id g ≡ true → packet_of packet ≡ pdu_up id g pdu → (is : IsRead p b set tag pdu)
    → (let done = take_pdu a.entity is.reads.content in let here = tunnel_in c (active_anchor a) (flight.Tun tag packet) in
    (here.0 ≡ active_anchor (record a { entity = done.0 })) × (here.1.ups ≡ done.1) × (here.1.adopted ≡ false)
    × (here.1.low ≡ risen_low a.entity done.0))
relayed p b set tag pdu c a packet id g same_n from says is =
    let read : decoded a.entity.setup.n pdu ≡ Ok is.reads.content = ap (λ (n : SnLen). decoded n pdu) same_n ∙ is.reads.read in
    let all : tunnel_in c (active_anchor a) (flight.Tun tag packet) ≡ pdu_in (active_anchor a) is.reads.content =
    ap (packet_in c (active_anchor a)) says
    ∙ ap (λ t. if◌then◌else◌ {A = AnchorState × AnchorOut} t (relayed_pdu (active_anchor a) (decoded a.entity.setup.n pdu)) (active_anchor a, silent)) from
    ∙ ap (relayed_pdu (active_anchor a)) read in (
      ap (λ (d : AnchorState × AnchorOut). d.0) all,
      ap (λ (d : AnchorState × AnchorOut). d.1.ups) all,
      ap (λ (d : AnchorState × AnchorOut). d.1.adopted) all,
      ap (λ (d : AnchorState × AnchorOut). d.1.low) all,
    )

-- ---- by the past

-- the past has its COUNT as taken, where the node holds the bearer in its generation
pub past_takes : (p : Past) (l : LinkId) (u : Pdu) (set : Setting) (r : Receipt) (count : ℕ) → setting p u.id u.g ≡ Some set → is_named p u.id u.g r ≡ true
    → is_data u.octets ≡ true → direction_in l set ≡ Ul → holds l.to u.g r.holder ≡ true → u.tag ≡ Some count
    → maybe_pdu_on p l (Some u) r ≡ record r { taken = count ∷ r.taken }
past_takes p l u set r count in_plan named data' up holds' tagged =
    ap (λ o. set_pdu_on p l u o r) in_plan
    ∙ ap (λ t. if t then pdu_on l u set r else r) named
    ∙ ap (λ t. if t then data_on l u.g set (direction_in l set) u.tag r
    else report_on l u.g (direction_in l set) (report_in (decoded r.n u.octets)) r) data'
    ∙ ap (λ d. data_on l u.g set d u.tag r) up
    ∙ ap (λ t. if t then count_on u.tag r else early_on (waits_on l.to u.g set r) l.to u.g u.tag r) holds'
    ∙ ap (λ o. count_on o r) tagged

-- ---- which COUNT is inferred

-- one that is not aged is within a window of the next COUNT to hand up
pub is_inferred_at : (b : Bearer) (rx : RxParts) (count : ℕ) → IsReceiver (receipt_of b) rx → b.first ≤ count → count < b.first + length b.up.submitted
    → rx.deliv ≤ count + window b.n → is_within b.n rx.deliv count ≡ true
is_inferred_at b rx count is from below young =
    let above = is.receiving.above in let near = is.receiving.near in
    and_from (nat_le rx.deliv (count + window b.n)) (nat_lt count (rx.deliv + window b.n)) (le-leb rx.deliv (count + window b.n) young)
    (lt-ltb count (rx.deliv + window b.n) (omega (arith, above, near, below)))
