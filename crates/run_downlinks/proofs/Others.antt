-- Packets that bring no PDU to a leg host, to whoever reads them: relayed PDUs, delivery statuses, and those of a forwarding tunnel.
use Rattle.std.proofs.Common.{ℕ, zero, suc, ◌≡◌, ◌≤◌, ◌<◌, ◌+◌, ◌-◌, ◌*◌, ◌==◌, Bool, true, false, List, [], ◌∷◌, Option, Some, None, Result, Ok, Err, drop, take, length, refl, sym, ap, subst, ◌∙◌, arith, inl, inr, ◌⊎◌, not}
use Rattle.std.specs.Prelude.{if◌then◌else◌, is_none, is_some, nat_lt, slice_index, ⊤, ◌/◌, ◌%◌, ◌^◌}
use Rattle.std.specs.Int.{w32, from_be_bytes, to_be_bytes}
use Rattle.std.proofs.lemmas.Bool.{cases_Bool, cases_lt, eq-eqb, le-ltb, ne_eqb}
use Rattle.std.proofs.lemmas.Nat.{from_be_bytes-to_be_bytes_4}
use Rattle.dc_base.specs.Tunnel.{teid, teid_gen, teid_id, teid_kind}
use Rattle.claims.specs.Packets.{Packet as Packet', if_spelled, number2, number3, number4, octets_of, ranges, read_packet, status, uplink, with_rest, with_user}
use Rattle.claims.specs.Packets as claims
use Rattle.claims.specs.Sameness.{is_same_octets, is_some_and}
use Rattle.claims.specs.Views.{Pdu, pdu_in}
use Rattle.gtpu.specs.Content.{Content, kind_of}
use Rattle.gtpu.specs.Decoded.{Parts, behind, behind_checks, content_of, decoded, extensions_from, of_kind, parts_of, with_parts}
use Rattle.gtpu.specs.Fault.{extension_fault, header_fault}
use Rattle.gtpu.specs.Spelling.{spelling}
use Rattle.gtpu.specs.declared.faults.GtpErr.{GtpErr}
use Rattle.gtpu.specs.declared.packet.GtpKind.TheVariants.{EndMarker, GPdu}
use Rattle.gtpu.specs.declared.packet.PduNumber.{PduNumber}
use Rattle.gtpu.specs.declared.packet.PduNumber.TheVariants.{Long, Short}
use Rattle.nr_u.specs.Frames.{is_set}
use Rattle.nr_u.specs.Faults.{fault_of}
use Rattle.nr_u.specs.Reading.{decoded as frame_in, judged, shown_number, shown_status}
use Rattle.nr_u.specs.declared.frame.Frame.TheVariants.{Status, User}
use Rattle.nr_u.specs.declared.frame.NruErr.{NruErr}
use Rattle.nr_u.specs.declared.frame.Range.{Range}
use Rattle.node_rules.specs.Packets.{Packet, delivery, forwarding, nothing, packet_of, pdu_down, pdu_up, said_by, status_packet, up_packet, with_frame}
use Rattle.node_rules.specs.Packets as packets
use Rattle.run_relays.proofs.Views.{up_viewed}
use Rattle.run_downlinks.specs.Downlinks.{IsOtherDown}

-- ---- as a node reads them

-- whatever the checks of the header find
said_as : (octets : List ℕ) (P : Packet → Type 0) → P nothing → P (said_by (of_kind octets (kind_of (slice_index octets 1)))) → P (packet_of octets)
unfolding decoded
said_as octets P none some = by (header_fault octets)
  where
    by : (o : Option GtpErr) → P (said_by (behind_checks octets o))
    by (Some e) = none
    by None = some

-- it says that it brings a PDU to a leg host
abbrev pub is_down : Packet → Bool
is_down (pdu_up id g pdu) = false
is_down (pdu_down id g number repeat pdu) = true
is_down (delivery id g said) = false
is_down (forwarding id g d load) = false
is_down nothing = false

pub never_down : (octets : List ℕ) → is_down (packet_of octets) ≡ false → (id g number : ℕ) (repeat : Bool) (pdu : List ℕ) → packet_of octets ≡ pdu_down id g number repeat pdu → ⊥
never_down octets no' id g number repeat pdu says = let bad : true ≡ false = sym (ap is_down says) ∙ no' in cc

-- a packet without a container
plain_kind : (t k : ℕ) (pdu : List ℕ) → is_down (packets.of_kind (record { kind = GPdu; teid = t; container = None; number = None; body = pdu }) k) ≡ false
plain_kind t zero pdu = refl
plain_kind t (suc zero) pdu = refl
plain_kind t (suc (suc zero)) pdu = refl
plain_kind t (suc (suc (suc k))) pdu = refl

up_reads : (g id : ℕ) (pdu : List ℕ) → is_down (packet_of (up_packet g id pdu)) ≡ false
up_reads g id pdu =
    let t = from_be_bytes w32 (to_be_bytes w32 (teid g id 0)) in said_as (up_packet g id pdu) (λ p. is_down p ≡ false) refl (plain_kind t (teid_kind t) pdu)

-- octets of a container are a delivery status, if they are a frame
abbrev is_status : Option (List ℕ) → Bool
is_status None = false
is_status (Some []) = true
is_status (Some (first ∷ rest)) = not (first / 2 ^ 4 == 0)

abbrev HasStatus : Result Parts GtpErr → Type 0
HasStatus (Err e) = ⊤
HasStatus (Ok parts) = is_status parts.container ≡ true

cases_fault : (o : Option GtpErr) → ((e : GtpErr) × (o ≡ Some e)) ⊎ (o ≡ None)
cases_fault None = inr refl
cases_fault (Some e) = inl (e, refl)

-- the first container that is read stays
stays_status : (headers size : ℕ) (c : List ℕ) (number : Option PduNumber) (type : ℕ) (after : List ℕ) → is_status (Some c) ≡ true → HasStatus (extensions_from headers size (Some c) number type after)
stays_status zero size c number type after is = tt
stays_status (suc headers) size c number type after is =
    elim (cases_Bool (type == 0)) [
      | inl last ↦ rw (last, HasStatus) is
      | inr more ↦ elim (cases_fault (extension_fault (Some c) number type after (size - (length after + 1)))) [
        | inl fault ↦ rw (more, fault.1, HasStatus) tt
        | inr none ↦ rw (more, none, HasStatus) (stays_status headers size c _ (slice_index (behind after) 0) (drop 1 (behind after)) is)
      ]
    ]

first_status : (headers size : ℕ) (after : List ℕ) → is_status (Some (content_of after)) ≡ true → HasStatus (extensions_from headers size None None 0x84 after)
first_status zero size after is = tt
first_status (suc headers) size after is =
    elim (cases_fault (extension_fault None None 0x84 after (size - (length after + 1)))) [
      | inl fault ↦ rw (fault.1, HasStatus) tt
      | inr none ↦ rw (none, HasStatus) (stays_status headers size (content_of after) _ (slice_index (behind after) 0) (drop 1 (behind after)) is)
    ]

status_frame : (id g : ℕ) (body c : List ℕ) → is_status (Some c) ≡ true → is_down (with_frame id g body (frame_in c)) ≡ false
status_frame id g body [] is = by (fault_of [])
  where
    by : (o : Option NruErr) → is_down (with_frame id g body (judged (Status None []) o)) ≡ false
    by None = refl
    by (Some e) = refl
status_frame id g body (first ∷ rest) is =
    elim (cases_Bool (first / 2 ^ 4 == 0)) [
      | inl zero' ↦ absurd (let bad : false ≡ true = rw zero' at is in cc)
      | inr some ↦ ap (λ b. is_down (with_frame id g body (judged (if b then User (shown_number rest) (is_set first 0) (is_set first 1) else shown_status first rest) (fault_of (first ∷ rest))))) some ∙ by rest (fault_of (first ∷ rest))
    ]
  where
    by : (rest : List ℕ) (o : Option NruErr) → is_down (with_frame id g body (judged (shown_status first rest) o)) ≡ false
    by [] None = refl
    by [] (Some e) = refl
    by (count ∷ rest) None = refl
    by (count ∷ rest) (Some e) = refl

no_down : (p : Content) (k : ℕ) (o : Option (List ℕ)) → p.container ≡ o → is_status o ≡ true → is_down (packets.of_kind p k) ≡ false
no_down p zero None same some = absurd cc
no_down p zero (Some c) same some = rw same (status_frame (teid_id p.teid) (teid_gen p.teid) p.body c some)
no_down p (suc zero) o same some = refl
no_down p (suc (suc zero)) o same some = refl
no_down p (suc (suc (suc k))) o same some = refl

with_status : (t : ℕ) (r : Result Parts GtpErr) → HasStatus r → is_down (said_by (with_parts GPdu t r)) ≡ false
with_status t (Err e) has = refl
with_status t (Ok parts) has =
    let p : Content = record { kind = GPdu; teid = t; container = parts.container; number = parts.number; body = parts.body } in no_down p (teid_kind t) parts.container refl has

-- what is taken of octets begins as they do
taken_status : (n first : ℕ) (rest : List ℕ) → 1 ≤ n → (first / 2 ^ 4 == 0) ≡ false → is_status (Some (take n (first ∷ rest))) ≡ true
taken_status zero first rest some is = absurd (omega (arith, some))
taken_status (suc n) first rest some is = ap not is

first_is : (b : Bool) → ((2 ^ 4 + (if b then 1 else 0)) / 2 ^ 4 == 0) ≡ false
first_is true = refl
first_is false = refl

-- the octets of a delivery status from the type of its container on
status_reads : (g id : ℕ) (highest : Option ℕ) (lost : List Range) → is_down (packet_of (status_packet g id (Status highest lost))) ≡ false
status_reads g id highest lost =
    let octets = status_packet g id (Status highest lost) in
    said_as octets (λ p. is_down p ≡ false) refl (with_status (from_be_bytes w32 (to_be_bytes w32 (teid g id 0))) (parts_of octets 4) (first_status (length octets) (length octets) (drop 12 octets) (taken_status _ _ _ (omega arith) (first_is (is_some highest)))))

-- ---- as the claims view them

abbrev Unseen : Option Packet' → Type 0
Unseen o = (tag : Option ℕ) → is_some_and (λ (u : Pdu). not (is_none u.num)) (pdu_in tag o) ≡ false

if_same : (octets : List ℕ) (p : Packet') → Unseen (Some p) → Unseen (if_spelled octets p)
if_same octets p none tag =
    elim (cases_Bool (is_same_octets (octets_of p) octets)) [ inl yes' ↦ rw yes' (none tag) | inr no' ↦ rw no' refl ]

up_unseen : (g id : ℕ) (pdu : List ℕ) → Unseen (claims.packet_of (up_packet g id pdu))
up_unseen g id pdu =
    let t = number4 (drop 4 (up_packet g id pdu)) in subst Unseen (sym (up_viewed g id pdu)) (if_same (up_packet g id pdu) (uplink (teid_id t) (teid_gen t) pdu) (λ tag. refl))

-- a frame that is a delivery status
frame_unseen : (t : ℕ) (sn : Option PduNumber) (frame body : List ℕ) → is_status (Some frame) ≡ true → Unseen (Some (claims.with_frame t sn frame body))
frame_unseen t sn [] body is tag = refl
frame_unseen t sn (flags ∷ frame) body is tag =
    elim (cases_lt flags 16) [
      | inl less ↦ absurd (let none : (flags / 2 ^ 4 == 0) ≡ true = eq-eqb (flags / 2 ^ 4) 0 (omega (arith, less)) in let bad : false ≡ true = rw none at is in cc)
      | inr more ↦ let no' : nat_lt flags 16 ≡ false = le-ltb flags 16 more in rw no' (by (flags == 16))
    ]
  where
    by : (b : Bool) → is_some_and (λ (u : Pdu). not (is_none u.num)) (pdu_in tag (Some (if b then status (teid_id t) (teid_gen t) None (ranges (take (6 * slice_index frame 0) (drop 1 frame)))
        else status (teid_id t) (teid_gen t) (Some (number3 (drop 1 frame))) (ranges (take (6 * slice_index frame 0) (drop 4 frame)))))) ≡ false
    by true = refl
    by false = refl

rest_unseen : (t : ℕ) (frame rest : List ℕ) → is_status (Some frame) ≡ true → Unseen (Some (with_rest t frame rest))
rest_unseen t frame [] is tag = refl
rest_unseen t frame (next ∷ rest) is tag =
    elim (cases_Bool (next == 0xC0)) [
      | inl short ↦ rw short (frame_unseen t (Some (Short (number2 (drop 1 rest)))) frame (drop 4 rest) is tag)
      | inr no' ↦ elim (cases_Bool (next == 0x82)) [
        | inl long ↦ rw (no', long) (frame_unseen t (Some (Long (number3 (drop 1 rest)))) frame (drop 8 rest) is tag)
        | inr none ↦ rw (no', none) (frame_unseen t None frame rest is tag)
      ]
    ]

status_unseen : (g id : ℕ) (highest : Option ℕ) (lost : List Range) → Unseen (claims.packet_of (status_packet g id (Status highest lost)))
status_unseen g id highest lost =
    let octets = status_packet g id (Status highest lost) in
    let len = 4 * slice_index octets 12 - 2 in
    if_same octets (read_packet octets) (rest_unseen (number4 (drop 4 octets)) (take len (drop 13 octets)) (drop (13 + len) octets) (taken_status _ _ _ (omega arith) (first_is (is_some highest))))

-- ---- both

pub up_is_other : (g id : ℕ) (pdu : List ℕ) → IsOtherDown (up_packet g id pdu)
up_is_other g id pdu = record { unread = never_down (up_packet g id pdu) (up_reads g id pdu); unseen = up_unseen g id pdu }

pub status_is_other : (g id : ℕ) (highest : Option ℕ) (lost : List Range) → IsOtherDown (status_packet g id (Status highest lost))
status_is_other g id highest lost =
    record { unread = never_down (status_packet g id (Status highest lost)) (status_reads g id highest lost); unseen = status_unseen g id highest lost }

-- ---- packets of a forwarding tunnel

-- the four octets of a TEID
four : (t : ℕ) (rest : List ℕ) → t < 2 ^ 32 → number4 ((t / 16777216 % 256) ∷ (t / 65536 % 256) ∷ (t / 256 % 256) ∷ (t % 256) ∷ rest) ≡ t
four t rest small = omega (arith, small)

-- of another kind than a bearer's own traffic
later_kind : (p : Content) (j : ℕ) → is_down (packets.of_kind p (suc j)) ≡ false
later_kind p zero = refl
later_kind p (suc zero) = refl
later_kind p (suc (suc j)) = refl

user_unseen : (t flags : ℕ) (sn : Option PduNumber) (frame body : List ℕ) → (teid_kind t == 0) ≡ false → Unseen (Some (with_user t flags sn frame body))
user_unseen t flags sn frame body other tag = elim (cases_Bool (flags == 0)) [ inl none ↦ rw (other, none) refl | inr some ↦ rw (other, some) refl ]

other_frame : (t : ℕ) (sn : Option PduNumber) (frame body : List ℕ) → (teid_kind t == 0) ≡ false → Unseen (Some (claims.with_frame t sn frame body))
other_frame t sn [] body other tag = refl
other_frame t sn (flags ∷ frame) body other tag =
    elim (cases_Bool (nat_lt flags 16)) [
      | inl user ↦ rw user (user_unseen t flags sn frame body other tag)
      | inr no' ↦ rw no' (by (flags == 16))
    ]
  where
    by : (b : Bool) → is_some_and (λ (u : Pdu). not (is_none u.num)) (pdu_in tag (Some (if b then status (teid_id t) (teid_gen t) None (ranges (take (6 * slice_index frame 0) (drop 1 frame)))
        else status (teid_id t) (teid_gen t) (Some (number3 (drop 1 frame))) (ranges (take (6 * slice_index frame 0) (drop 4 frame)))))) ≡ false
    by true = refl
    by false = refl

other_rest : (t : ℕ) (frame rest : List ℕ) → (teid_kind t == 0) ≡ false → Unseen (Some (with_rest t frame rest))
other_rest t frame [] other tag = refl
other_rest t frame (next ∷ rest) other tag =
    elim (cases_Bool (next == 0xC0)) [
      | inl short ↦ rw short (other_frame t (Some (Short (number2 (drop 1 rest)))) frame (drop 4 rest) other tag)
      | inr no' ↦ elim (cases_Bool (next == 0x82)) [
        | inl long ↦ rw (no', long) (other_frame t (Some (Long (number3 (drop 1 rest)))) frame (drop 8 rest) other tag)
        | inr none ↦ rw (no', none) (other_frame t None frame rest other tag)
      ]
    ]

-- a forwarded SDU, and the total (TS 37.340, 10; TS 29.281, 5)
pub forwarded_is_other : (t j : ℕ) (c : List ℕ) (number : Option PduNumber) (body : List ℕ) → t < 2 ^ 32 → teid_kind t ≡ suc j
    → IsOtherDown (spelling (record { kind = GPdu; teid = t; container = Some c; number = number; body = body }))
forwarded_is_other t j c number body small kind =
    let octets = spelling (record { kind = GPdu; teid = t; container = Some c; number = number; body = body }) in
    let len = 4 * slice_index octets 12 - 2 in
    let other : (teid_kind t == 0) ≡ false = ne_eqb (teid_kind t) 0 (λ none. omega (arith, none, kind)) in
    record {
      unread = never_down octets
          (said_as octets (λ p. is_down p ≡ false) refl
          (subst (λ x. is_down (said_by (with_parts GPdu x (parts_of octets 4))) ≡ false) (sym (from_be_bytes-to_be_bytes_4 t small)) (by (parts_of octets 4))));
      unseen = if_same octets (read_packet octets)
          (subst (λ x. Unseen (Some (with_rest x (take len (drop 13 octets)) (drop (13 + len) octets)))) (sym (four t (drop 8 octets) small)) (other_rest t (take len (drop 13 octets)) (drop (13 + len) octets) other));
    }
  where
    by : (r : Result Parts GtpErr) → is_down (said_by (with_parts GPdu t r)) ≡ false
    by (Err e) = refl
    by (Ok x) =
        let p : Content = record { kind = GPdu; teid = t; container = x.container; number = x.number; body = x.body } in ap (λ k. is_down (packets.of_kind p k)) kind ∙ later_kind p j

-- and the End Marker (TS 29.281, 7.3.2)
pub marker_is_other : (t : ℕ) → IsOtherDown (spelling (record { kind = EndMarker; teid = t; container = None; number = None; body = [] }))
marker_is_other t =
    let octets = spelling (record { kind = EndMarker; teid = t; container = None; number = None; body = [] }) in
    record {
      unread = never_down octets (said_as octets (λ p. is_down p ≡ false) refl (by (from_be_bytes w32 (to_be_bytes w32 t)) (parts_of octets 0)));
      unseen = if_same octets (read_packet octets) (λ tag. refl);
    }
  where
    by : (x : ℕ) (r : Result Parts GtpErr) → is_down (said_by (with_parts EndMarker x r)) ≡ false
    by x (Err e) = refl
    by x (Ok parts) = refl
