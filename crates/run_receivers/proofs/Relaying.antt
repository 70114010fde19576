-- What a packet says of an uplink PDU: only one of the bearer's own tunnel with no container says one, and it is the one that was put in.
use Rattle.std.proofs.Common.{ℕ, zero, suc, ◌≡◌, ◌+◌, ◌^◌, ◌<◌, ◌≤◌, Bool, true, false, List, [], ◌∷◌, ◌++◌, length-append, Option, Some, None, Ok, length, refl, sym, ap, ◌∙◌, arith}
use Rattle.std.specs.Prelude.{Err, Result}
use Rattle.dc_base.specs.Tunnel.{teid, teid_gen, teid_id, teid_kind}
use Rattle.gtpu.specs.Content.{Content}
use Rattle.gtpu.specs.Decoded.{decoded}
use Rattle.gtpu.specs.Spelling.{IsContainer, extensions, spelling}
use Rattle.gtpu.specs.declared.faults.GtpErr.{GtpErr}
use Rattle.gtpu.specs.declared.packet.GtpKind.{GtpKind}
use Rattle.gtpu.specs.declared.packet.GtpKind.TheVariants.{EchoRequest, EchoResponse, EndMarker, ErrorIndication, GPdu}
use Rattle.nr_u.specs.declared.frame.Frame.{Frame}
use Rattle.nr_u.specs.declared.frame.Frame.TheVariants.{Status, User}
use Rattle.nr_u.specs.declared.frame.NruErr.{NruErr}
use Rattle.nr_u.specs.Frames.{written}
use Rattle.nr_u.specs.Reading.{decoded as frame_in}
use Rattle.node_rules.specs.Packets.{down_packet, of_kind, of_message, packet_of, pdu_up, said_by, up_packet, with_container, with_frame}
use Rattle.run_receivers.proofs.Freezing.{packet_again}
use Rattle.run_receivers.proofs.Packets.{gen_in_teid, id_in_teid, teid_fits, teid_read, teid_written}

-- a packet, as it is written, says an uplink PDU of a bearer and generation: its TEID names them, and what is read of it is plain
pub record SaysPdu (p : Content) (id g : ℕ) (pdu : List ℕ) : Type 0 where
  pub read : Content
  pub decoded_is : decoded (spelling p) ≡ Ok read
  pub kind : teid_kind p.teid ≡ 0
  pub id_is : teid_id p.teid ≡ id
  pub g_is : teid_gen p.teid ≡ g
  pub plain : read.container ≡ None
  pub body_is : read.body ≡ pdu

record IsPlain (q : Content) (kind id g : ℕ) (pdu : List ℕ) : Type 0 where
  own : kind ≡ 0
  of_id : teid_id q.teid ≡ id
  of_g : teid_gen q.teid ≡ g
  none : q.container ≡ None
  body : q.body ≡ pdu

not_framed : (i h : ℕ) (body : List ℕ) (r : Result Frame NruErr) (id g : ℕ) (pdu : List ℕ) → with_frame i h body r ≡ pdu_up id g pdu → ⊥
not_framed i h body (Err e) id g pdu is = cc
not_framed i h body (Ok (User number true repeat)) id g pdu is = cc
not_framed i h body (Ok (User number false repeat)) id g pdu is = cc
not_framed i h body (Ok (Status highest lost)) id g pdu is = cc

of_container : (q : Content) (o : Option (List ℕ)) (id g : ℕ) (pdu : List ℕ) → q.container ≡ o
    → with_container (teid_id q.teid) (teid_gen q.teid) q.body o ≡ pdu_up id g pdu → IsPlain q 0 id g pdu
of_container q None id g pdu has is = record { own = refl; of_id = cc; of_g = cc; none = has; body = cc }
of_container q (Some octets) id g pdu has is = absurd (not_framed (teid_id q.teid) (teid_gen q.teid) q.body (frame_in octets) id g pdu is)

of_kinds : (q : Content) (kind id g : ℕ) (pdu : List ℕ) → of_kind q kind ≡ pdu_up id g pdu → IsPlain q kind id g pdu
of_kinds q zero id g pdu is = of_container q q.container id g pdu refl is
of_kinds q (suc zero) id g pdu is = absurd cc
of_kinds q (suc (suc zero)) id g pdu is = absurd cc
of_kinds q (suc (suc (suc k))) id g pdu is = absurd cc

of_messages : (q : Content) (kind : GtpKind) (id g : ℕ) (pdu : List ℕ) → of_message q kind ≡ pdu_up id g pdu → IsPlain q (teid_kind q.teid) id g pdu
of_messages q GPdu id g pdu is = of_kinds q (teid_kind q.teid) id g pdu is
of_messages q EndMarker id g pdu is = absurd cc
of_messages q EchoRequest id g pdu is = absurd cc
of_messages q EchoResponse id g pdu is = absurd cc
of_messages q ErrorIndication id g pdu is = absurd cc

-- what a packet that is written says of an uplink PDU
pub says_pdu : (p : Content) (id g : ℕ) (pdu : List ℕ) → p.teid < 2 ^ 32 → packet_of (spelling p) ≡ pdu_up id g pdu → SaysPdu p id g pdu
says_pdu p id g pdu fits is = by (decoded (spelling p)) refl is
  where
    by : (r : Result Content GtpErr) → decoded (spelling p) ≡ r → said_by r ≡ pdu_up id g pdu → SaysPdu p id g pdu
    by (Err e) at is' = absurd cc
    by (Ok q) at is' =
        let named = of_messages q q.kind id g pdu is' in
        let same : q.teid ≡ p.teid = teid_read (spelling p) q at ∙ teid_written p fits in
        record {
          read = q;
          decoded_is = at;
          kind = ap teid_kind (sym same) ∙ named.own;
          id_is = ap teid_id (sym same) ∙ named.of_id;
          g_is = ap teid_gen (sym same) ∙ named.of_g;
          plain = named.none;
          body_is = named.body;
        }

-- a packet of a forwarding tunnel says none
pub forwarded_says_none : (p : Content) (id g : ℕ) (pdu : List ℕ) → p.teid < 2 ^ 32 → (teid_kind p.teid ≡ 0 → ⊥) → packet_of (spelling p) ≡ pdu_up id g pdu → ⊥
forwarded_says_none p id g pdu fits other is = other (says_pdu p id g pdu fits is).kind

-- what a host relays is what it took, of its bearer and generation
pub relayed_is : (h i : ℕ) (taken : List ℕ) (id g : ℕ) (pdu : List ℕ) → h < 2 ^ 24 → 1 ≤ i → i ≤ 32 → length taken < 2 ^ 16
    → packet_of (up_packet h i taken) ≡ pdu_up id g pdu
    → (id ≡ i) × (g ≡ h) × (pdu ≡ taken)
relayed_is h i taken id g pdu small some most short is =
    let p : Content = record { kind = GPdu; teid = teid h i 0; container = None; number = None; body = taken } in
    let fits = teid_fits h i 0 small most (omega arith) in
    let said = says_pdu p id g pdu fits is in
    let again : decoded (spelling p) ≡ Ok p = packet_again p fits (omega arith) tt tt tt in
    let read : said.read ≡ p = let both : Ok said.read ≡ Ok p = sym said.decoded_is ∙ again in cc in (
      sym said.id_is ∙ id_in_teid h i 0 some most (omega arith),
      sym said.g_is ∙ gen_in_teid h i 0 most (omega arith),
      sym said.body_is ∙ ap (λ (q : Content). q.body) read,
    )

-- a packet of a bearer's own traffic, with a frame
abbrev pub framed : ℕ → ℕ → List ℕ → List ℕ → Content
framed h i octets body = record { kind = GPdu; teid = teid h i 0; container = Some octets; number = None; body = body }

-- with its headers it is short
framed_size : (octets body : List ℕ) → IsContainer octets → length body < 2 ^ 15 → length (extensions (framed 0 0 octets body)) + length body < 2 ^ 16
framed_size octets body container short =
    let all = length-append octets [] in
    let header = length-append (octets ++ []) (0 ∷ []) in
    omega (arith, container.1)

-- it says none
pub framed_says_none : (h i : ℕ) (octets body : List ℕ) (id g : ℕ) (pdu : List ℕ) → h < 2 ^ 24 → i ≤ 32 → IsContainer octets → length body < 2 ^ 15
    → packet_of (spelling (framed h i octets body)) ≡ pdu_up id g pdu → ⊥
framed_says_none h i octets body id g pdu small most container short is =
    let p = framed h i octets body in
    let fits = teid_fits h i 0 small most (omega arith) in
    let said = says_pdu p id g pdu fits is in
    let again : decoded (spelling p) ≡ Ok p = packet_again p fits (framed_size octets body container short) container tt tt in
    let read : said.read ≡ p = let both : Ok said.read ≡ Ok p = sym said.decoded_is ∙ again in cc in
    let has : Some octets ≡ None = ap (λ (q : Content). q.container) (sym read) ∙ said.plain in
    cc

-- nor does a downlink PDU to a host
pub down_says_none : (h i number : ℕ) (repeat : Bool) (body : List ℕ) (id g : ℕ) (pdu : List ℕ) → h < 2 ^ 24 → i ≤ 32 → length body < 2 ^ 15
    → packet_of (down_packet h i number repeat body) ≡ pdu_up id g pdu → ⊥
down_says_none h i number repeat body id g pdu small most short is =
    framed_says_none h i (written (User number true repeat)) body id g pdu small most (refl, omega arith) short is
