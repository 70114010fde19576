-- How packets in tunnels are read: as a relayed PDU only the packet in which a leg host passes one on.
use Rattle.std.proofs.Common.{ℕ, zero, suc, ◌≡◌, ◌≤◌, ◌<◌, ◌+◌, ◌-◌, ◌^◌, ◌==◌, Bool, true, false, List, Option, Some, None, Result, Ok, Err, drop, length, refl, sym, ap, subst, ◌∙◌, arith, inl, inr, ◌⊎◌}
use Rattle.std.specs.Prelude.{slice_index, is_some, ⊤, ◌||◌}
use Rattle.std.specs.Int.{w32, from_be_bytes, to_be_bytes}
use Rattle.std.proofs.lemmas.Bool.{cases_Bool}
use Rattle.std.proofs.lemmas.Nat.{from_be_bytes-to_be_bytes_4}
use Rattle.dc_base.specs.Tunnel.{teid, teid_gen, teid_id, teid_kind}
use Rattle.gtpu.specs.Content.{Content, kind_of}
use Rattle.gtpu.specs.Decoded.{Parts, behind, behind_checks, content_of, decoded, extensions_from, of_kind, parts_of, with_parts}
use Rattle.gtpu.specs.Fault.{extension_fault, header_fault}
use Rattle.gtpu.specs.Spelling.{spelling}
use Rattle.gtpu.specs.declared.faults.GtpErr.{GtpErr}
use Rattle.gtpu.specs.declared.packet.GtpKind.{GtpKind}
use Rattle.gtpu.specs.declared.packet.GtpKind.TheVariants.{EchoRequest, EchoResponse, EndMarker, ErrorIndication, GPdu}
use Rattle.gtpu.specs.declared.packet.PduNumber.{PduNumber}
use Rattle.nr_u.specs.Reading.{decoded as frame_in}
use Rattle.nr_u.specs.declared.frame.Frame.{Frame}
use Rattle.nr_u.specs.declared.frame.Frame.TheVariants.{Status, User}
use Rattle.nr_u.specs.declared.frame.NruErr.{NruErr}
use Rattle.node_rules.specs.Packets.{Packet, delivery, forwarding, nothing, of_message, packet_of, pdu_down, pdu_up, said_by, up_packet, with_frame}
use Rattle.node_rules.specs.Packets as packets
use Rattle.run_relays.specs.Relays.{IsOther, is_marker}

-- ---- whatever the checks of the header find

said_as : (octets : List ℕ) (P : Packet → Type 0) → P nothing → P (said_by (of_kind octets (kind_of (slice_index octets 1)))) → P (packet_of octets)
unfolding decoded
said_as octets P none some = by (header_fault octets)
  where
    by : (o : Option GtpErr) → P (said_by (behind_checks octets o))
    by (Some e) = none
    by None = some

-- ---- another packet

-- it says that it is a relayed PDU
abbrev is_up : Packet → Bool
is_up (pdu_up id g pdu) = true
is_up (pdu_down id g number repeat pdu) = false
is_up (delivery id g status) = false
is_up (forwarding id g d load) = false
is_up nothing = false

-- no packet but a G-PDU does
other_message : (kind : GtpKind) (t : ℕ) (r : Result Parts GtpErr) → ((p : Content) → is_up (of_message p kind) ≡ false) → is_up (said_by (with_parts kind t r)) ≡ false
other_message kind t (Err e) none = refl
other_message kind t (Ok parts) none = none (record { kind = kind; teid = t; container = parts.container; number = parts.number; body = parts.body })

-- a container was read
abbrev HasContainer : Result Parts GtpErr → Type 0
HasContainer (Err e) = ⊤
HasContainer (Ok parts) = is_some parts.container ≡ true

cases_fault : (o : Option GtpErr) → ((e : GtpErr) × (o ≡ Some e)) ⊎ (o ≡ None)
cases_fault None = inr refl
cases_fault (Some e) = inl (e, refl)

-- the first one that is read stays
stays_read : (headers size : ℕ) (c : List ℕ) (number : Option PduNumber) (type : ℕ) (after : List ℕ) → HasContainer (extensions_from headers size (Some c) number type after)
stays_read zero size c number type after = tt
stays_read (suc headers) size c number type after =
    elim (cases_Bool (type == 0)) [
      | inl last ↦ rw (last, HasContainer) refl
      | inr more ↦ elim (cases_fault (extension_fault (Some c) number type after (size - (length after + 1)))) [
        | inl fault ↦ rw (more, fault.1, HasContainer) tt
        | inr none ↦ rw (more, none, HasContainer) (stays_read headers size c _ (slice_index (behind after) 0) (drop 1 (behind after)))
      ]
    ]

-- a first header of the type of a container
first_read : (headers size : ℕ) (after : List ℕ) → HasContainer (extensions_from headers size None None 0x84 after)
first_read zero size after = tt
first_read (suc headers) size after =
    elim (cases_fault (extension_fault None None 0x84 after (size - (length after + 1)))) [
      | inl fault ↦ rw (fault.1, HasContainer) tt
      | inr none ↦ rw (none, HasContainer) (stays_read headers size (content_of after) _ (slice_index (behind after) 0) (drop 1 (behind after)))
    ]

no_frame : (id g : ℕ) (body : List ℕ) (r : Result Frame NruErr) → is_up (with_frame id g body r) ≡ false
no_frame id g body (Err e) = refl
no_frame id g body (Ok (User number true repeat)) = refl
no_frame id g body (Ok (User number false repeat)) = refl
no_frame id g body (Ok (Status highest lost)) = refl

-- a G-PDU with a container is no relayed PDU
no_relay : (p : Content) (k : ℕ) (o : Option (List ℕ)) → p.container ≡ o → is_some o ≡ true → is_up (packets.of_kind p k) ≡ false
no_relay p zero None same some = absurd cc
no_relay p zero (Some c) same some = rw same (no_frame (teid_id p.teid) (teid_gen p.teid) p.body (frame_in c))
no_relay p (suc zero) o same some = refl
no_relay p (suc (suc zero)) o same some = refl
no_relay p (suc (suc (suc k))) o same some = refl

with_container : (t : ℕ) (r : Result Parts GtpErr) → HasContainer r → is_up (said_by (with_parts GPdu t r)) ≡ false
with_container t (Err e) has = refl
with_container t (Ok parts) has =
    let p : Content = record { kind = GPdu; teid = t; container = parts.container; number = parts.number; body = parts.body } in no_relay p (teid_kind t) parts.container refl has

other_reads : (kind : GtpKind) (t : ℕ) (c : Option (List ℕ)) (number : Option PduNumber) (body : List ℕ) → (is_some c || is_marker kind) ≡ true
    → is_up (packet_of (spelling (record { kind = kind; teid = t; container = c; number = number; body = body }))) ≡ false
other_reads GPdu t None number body other = absurd (let bad : false ≡ true = other in cc)
other_reads GPdu t (Some c) number body other =
    let octets = spelling (record { kind = GPdu; teid = t; container = Some c; number = number; body = body }) in
    said_as octets (λ p. is_up p ≡ false) refl (with_container _ (parts_of octets 4) (first_read (length octets) (length octets) (drop 12 octets)))
other_reads EndMarker t c number body other =
    let octets = spelling (record { kind = EndMarker; teid = t; container = c; number = number; body = body }) in
    said_as octets (λ p. is_up p ≡ false) refl (other_message EndMarker _ _ (λ p. refl))
other_reads EchoRequest t c number body other =
    let octets = spelling (record { kind = EchoRequest; teid = t; container = c; number = number; body = body }) in
    said_as octets (λ p. is_up p ≡ false) refl (other_message EchoRequest _ _ (λ p. refl))
other_reads EchoResponse t c number body other =
    let octets = spelling (record { kind = EchoResponse; teid = t; container = c; number = number; body = body }) in
    said_as octets (λ p. is_up p ≡ false) refl (other_message EchoResponse _ _ (λ p. refl))
other_reads ErrorIndication t c number body other =
    let octets = spelling (record { kind = ErrorIndication; teid = t; container = c; number = number; body = body }) in
    said_as octets (λ p. is_up p ≡ false) refl (other_message ErrorIndication _ _ (λ p. refl))

-- another packet is not read as a relayed PDU
pub other_is_none : (packet : List ℕ) (id g : ℕ) (pdu : List ℕ) → IsOther packet → packet_of packet ≡ pdu_up id g pdu → ⊥
other_is_none packet id g pdu is up =
    let p = is.content in
    let no' : is_up (packet_of packet) ≡ false = subst (λ o. is_up (packet_of o) ≡ false) (sym is.is) (other_reads p.kind p.teid p.container p.number p.body is.other) in
    let bad : true ≡ false = sym (ap is_up up) ∙ no' in
    cc

-- ---- a relayed PDU

-- it is read with these octets, and the identity and generation of this TEID
abbrev IsUpOf : ℕ → List ℕ → Packet → Type 0
IsUpOf t pdu (pdu_up id g x) = (id ≡ teid_id t) × (g ≡ teid_gen t) × (x ≡ pdu)
IsUpOf t pdu (pdu_down id g number repeat x) = ⊤
IsUpOf t pdu (delivery id g status) = ⊤
IsUpOf t pdu (forwarding id g d load) = ⊤
IsUpOf t pdu nothing = ⊤

up_of_kind : (t k : ℕ) (pdu : List ℕ) → IsUpOf t pdu (packets.of_kind (record { kind = GPdu; teid = t; container = None; number = None; body = pdu }) k)
up_of_kind t zero pdu = (refl, refl, refl)
up_of_kind t (suc zero) pdu = tt
up_of_kind t (suc (suc zero)) pdu = tt
up_of_kind t (suc (suc (suc k))) pdu = tt

up_reads : (g id : ℕ) (pdu : List ℕ) → IsUpOf (from_be_bytes w32 (to_be_bytes w32 (teid g id 0))) pdu (packet_of (up_packet g id pdu))
up_reads g id pdu =
    let t = from_be_bytes w32 (to_be_bytes w32 (teid g id 0)) in said_as (up_packet g id pdu) (IsUpOf t pdu) tt (up_of_kind t (teid_kind t) pdu)

pub teid_is : (g id : ℕ) → 1 ≤ id → id ≤ 32 → g < 2 ^ 24 → (teid_id (teid g id 0) ≡ id) × (teid_gen (teid g id 0) ≡ g) × (teid g id 0 < 2 ^ 32)
teid_is g id one most small = (omega (arith, one, most, small), omega (arith, one, most, small), omega (arith, one, most, small))

-- what is read of it
pub record IsReadAs (g id : ℕ) (pdu : List ℕ) (h i : ℕ) (x : List ℕ) : Type 0 where
  pub octets : x ≡ pdu
  pub owner : 1 ≤ id → id ≤ 32 → g < 2 ^ 24 → (i ≡ id) × (h ≡ g)

pub up_is : (g id : ℕ) (pdu : List ℕ) (i h : ℕ) (x : List ℕ) → packet_of (up_packet g id pdu) ≡ pdu_up i h x → IsReadAs g id pdu h i x
up_is g id pdu i h x is =
    let t = teid g id 0 in
    let reads : IsUpOf (from_be_bytes w32 (to_be_bytes w32 t)) pdu (pdu_up i h x) = subst (IsUpOf (from_be_bytes w32 (to_be_bytes w32 t)) pdu) is (up_reads g id pdu) in
    record {
      octets = reads.2;
      owner = λ one most small.
          let parts = teid_is g id one most small in
          let same = from_be_bytes-to_be_bytes_4 t parts.2 in
          (reads.0 ∙ ap teid_id same ∙ parts.0, reads.1 ∙ ap teid_gen same ∙ parts.1);
    }
