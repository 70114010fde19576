-- A packet of a bearer's own traffic is read as it was written, so what it says is what was meant.
use Rattle.std.proofs.Common.{◌≡◌, ℕ, ◌++◌, ◌<◌, ◌≤◌, ◌^◌, ◌∷◌, [], true, Bool, List, Option, Ok, Some, None, length, refl, sym, ap, ◌∙◌, subst, arith, length-append}
use Rattle.std.specs.Prelude.{IfSome}
use Rattle.std.proofs.lemmas.Option.{slice_get_within}
use Rattle.dc_base.specs.Tunnel.{teid, teid_gen, teid_id, teid_kind}
use Rattle.dc_base.specs.declared.numbers.SnLen.{SnLen}
use Rattle.gtpu.specs.Content.{Content}
use Rattle.gtpu.specs.Grammar.{IsPacket}
use Rattle.gtpu.specs.Spelling.{IsContainer, extensions, spelling}
use Rattle.gtpu.specs.declared.packet.GtpKind.TheVariants.{GPdu}
use Rattle.gtpu.proofs.Again.{read_again}
use Rattle.gtpu.proofs.Reading.{packet_is_read}
use Rattle.nr_u.specs.declared.frame.Frame.{Frame}
use Rattle.nr_u.specs.declared.frame.Frame.TheVariants.{Status, User}
use Rattle.nr_u.specs.declared.frame.Range.{Range}
use Rattle.nr_u.specs.declared.tunnel.outbound.Sent.{Sent}
use Rattle.nr_u.specs.Frames.{IsWritable, fields, first_octet, written}
use Rattle.nr_u.proofs.Shown.{frame_decodes}
use Rattle.nr_u.proofs.Written.{written_fits, written_is_frame, written_length}
use Rattle.pdcp_pdu.specs.Pdu.{decoded}
use Rattle.node_rules.specs.Packets.{delivery, down_packet, of_kind, own_packet, packet_of, pdu_down, said_by, status_packet, with_container, with_frame}
use Rattle.run_confirms.specs.Anchors.{IsInTunnel}
use Rattle.run_confirms.specs.Hosts.{Shows}
use Rattle.run_confirms.specs.Packets.{IsTrueFor}
use Rattle.run_confirms.specs.Statuses.{IsStatusOf}

-- ---- TEIDs

kind_is : (g id : ℕ) → teid_kind (teid g id 0) ≡ 0
kind_is g id = omega arith

id_is : (g id : ℕ) → 1 ≤ id → id ≤ 32 → teid_id (teid g id 0) ≡ id
id_is g id some small = omega arith

gen_is : (g id : ℕ) → 1 ≤ id → id ≤ 32 → teid_gen (teid g id 0) ≡ g
gen_is g id some small = omega arith

-- ---- packets

extensions_len : (container : Option (List ℕ)) (body : List ℕ) (t : ℕ) → IfSome container IsContainer
    → length (extensions (record { kind = GPdu; teid = t; container = container; number = None; body = body })) ≤ 1024
extensions_len None body t fits = omega arith
extensions_len (Some c) body t fits = omega (arith, fits.1, length-append (c ++ []) (0 ∷ []), length-append c [])

-- identities are 1 to 32, generations have 25 bits, and a packet's body has at most 32,768 octets
pub record IsNamedRight (id g : ℕ) (body : List ℕ) : Type 0 where
  pub some : 1 ≤ id
  pub small : id ≤ 32
  pub generation : g < 2 ^ 25
  pub short : length body ≤ 2 ^ 15

own_said : (id g : ℕ) (container : Option (List ℕ)) (body : List ℕ) → IsNamedRight id g body → IfSome container IsContainer
    → packet_of (own_packet g id container body) ≡ with_container id g body container
own_said id g container body right fits =
    let t = teid g id 0 in
    let p : Content = record { kind = GPdu; teid = t; container = container; number = None; body = body } in
    let in_range : t < 2 ^ 32 = omega (arith, right.some, right.small, right.generation) in
    let read : IsPacket p (spelling p) = read_again p (spelling p) refl in_range (omega (arith, right.short, extensions_len container body t fits)) fits tt tt in
    ap said_by (packet_is_read (spelling p) p read) ∙ ap (of_kind p) (kind_is g id)
    ∙ ap (λ (i : ℕ). with_container i (teid_gen t) body container) (id_is g id right.some right.small) ∙ ap (λ (h : ℕ). with_container id h body container) (gen_is g id right.some right.small)

frame_contained : (f : Frame) → IsWritable f → IsContainer (written f)
frame_contained f can = (omega (arith, written_length f (length (first_octet f ∷ fields f)) refl), written_fits f can)

framed : (id g : ℕ) (f : Frame) (body : List ℕ) → IsWritable f → IsNamedRight id g body
    → packet_of (own_packet g id (Some (written f)) body) ≡ with_frame id g body (Ok f)
framed id g f body can right =
    own_said id g (Some (written f)) body right (frame_contained f can) ∙ ap (with_frame id g body) (frame_decodes (written f) f (written_is_frame f can))

-- a PDU for the host is read as it was written
pub down_is_read : (id g number : ℕ) (repeat : Bool) (pdu : List ℕ) → number < 2 ^ 24 → IsNamedRight id g pdu
    → packet_of (down_packet g id number repeat pdu) ≡ pdu_down id g number repeat pdu
down_is_read id g number repeat pdu small right = framed id g (User number true repeat) pdu small right

-- and so is a delivery status
pub status_is_read : (id g : ℕ) (highest : Option ℕ) (lost : List Range) → IsWritable (Status highest lost) → IsNamedRight id g []
    → packet_of (status_packet g id (Status highest lost)) ≡ delivery id g (Status highest lost)
status_is_read id g highest lost can right = framed id g (Status highest lost) [] can right

-- ---- what they say

-- a packet with a PDU that was sent says the truth
pub down_is_true : (id g : ℕ) (n : SnLen) (tun : List Sent) (received : ℕ → Type 0) (tag : Option ℕ) (packet : List ℕ) → (is : IsInTunnel id g tun tag packet)
    → length tun ≤ 2 ^ 24 → IsNamedRight id g is.pdu
    → Shows n tag (decoded n is.pdu) → IsTrueFor id g n tun received tag (packet_of packet)
down_is_true id g n tun received tag packet is small right shows =
    let inside : is.number < length tun = slice_get_within tun is.number (record { count = tag; repeat = is.repeat }) is.sent in
    let said : packet_of packet ≡ pdu_down id g is.number is.repeat is.pdu = ap packet_of is.is ∙ down_is_read id g is.number is.repeat is.pdu (omega (arith, inside, small)) right in
    subst (IsTrueFor id g n tun received tag) (sym said) (λ same_id same_g. (is.sent, shows))

-- the packet of a delivery status that says the truth does too
pub status_is_true : (id g : ℕ) (n : SnLen) (tun : List Sent) (received : ℕ → Type 0) (tag : Option ℕ) (status : Frame) → IsStatusOf n tun received tag status
    → IsWritable status → IsNamedRight id g []
    → IsTrueFor id g n tun received tag (packet_of (status_packet g id status))
status_is_true id g n tun received tag status truth can right =
    let said : packet_of (status_packet g id status) ≡ delivery id g status =
    ap (λ (f : Frame). packet_of (status_packet g id f)) truth.frame ∙ status_is_read id g truth.highest truth.lost (subst IsWritable truth.frame can) right ∙ ap (delivery id g) (sym truth.frame) in
    subst (IsTrueFor id g n tun received tag) (sym said) (λ same_id same_g. truth)
