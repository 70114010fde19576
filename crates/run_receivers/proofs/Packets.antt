-- What a packet in a tunnel says by its TEID: only one of a forwarding tunnel says what is forwarded, and for its own bearer and
-- generation.
use Rattle.std.proofs.Common.{ℕ, zero, suc, ◌≡◌, ◌^◌, ◌<◌, ◌≤◌, List, Option, Some, None, Ok, true, false, take, drop, refl, sym, ap, ◌∙◌, arith}
use Rattle.std.specs.Prelude.{Err, Result}
use Rattle.std.specs.Int.{from_be_bytes, w32}
use Rattle.std.proofs.lemmas.Nat.{from_be_bytes-to_be_bytes_4}
use Rattle.dc_base.specs.Tunnel.{teid, teid_gen, teid_id, teid_kind}
use Rattle.dc_base.specs.declared.nodes.Dir.{Dir}
use Rattle.dc_base.specs.declared.nodes.Dir.TheVariants.{Dl, Ul}
use Rattle.forward.specs.Load.{Load}
use Rattle.forward.specs.Reading.{load_in}
use Rattle.gtpu.specs.Content.{Content}
use Rattle.gtpu.specs.Decoded.{Parts, behind_checks, decoded, with_parts}
use Rattle.gtpu.specs.Decoded as read
use Rattle.gtpu.specs.Fault.{header_fault}
use Rattle.gtpu.specs.Content.{kind_of}
use Rattle.gtpu.specs.Spelling.{spelling}
use Rattle.gtpu.specs.declared.faults.GtpErr.{GtpErr}
use Rattle.gtpu.specs.declared.packet.GtpKind.{GtpKind}
use Rattle.gtpu.specs.declared.packet.GtpKind.TheVariants.{EchoRequest, EchoResponse, EndMarker, ErrorIndication, GPdu}
use Rattle.nr_u.specs.declared.frame.Frame.{Frame}
use Rattle.nr_u.specs.declared.frame.Frame.TheVariants.{Status, User}
use Rattle.nr_u.specs.declared.frame.NruErr.{NruErr}
use Rattle.nr_u.specs.Reading.{decoded as frame_in}
use Rattle.node_rules.specs.Packets.{forwarding, of_kind, of_message, packet_of, said_by, with_container, with_frame}
use Rattle.std.specs.Prelude.{slice_index}

-- ---- the TEID

-- the TEID that octets show
abbrev pub shown_teid : List ℕ → ℕ
shown_teid octets = from_be_bytes w32 (take 4 (drop 4 octets))

parts_teid : (kind : GtpKind) (t : ℕ) (r : Result Parts GtpErr) (q : Content) → with_parts kind t r ≡ Ok q → q.teid ≡ t
parts_teid kind t (Err e) q is = absurd cc
parts_teid kind t (Ok parts) q is =
    let same : q ≡ record { kind = kind; teid = t; container = parts.container; number = parts.number; body = parts.body } = cc in
    ap (λ (x : Content). x.teid) same

kind_teid : (octets : List ℕ) (o : Option GtpKind) (q : Content) → read.of_kind octets o ≡ Ok q → q.teid ≡ shown_teid octets
kind_teid octets None q is = absurd cc
kind_teid octets (Some kind) q is = parts_teid kind (shown_teid octets) _ q is

checks_teid : (octets : List ℕ) (o : Option GtpErr) (q : Content) → behind_checks octets o ≡ Ok q → q.teid ≡ shown_teid octets
checks_teid octets (Some e) q is = absurd cc
checks_teid octets None q is = kind_teid octets (kind_of (slice_index octets 1)) q is

-- a packet that is read has the TEID that its octets show
pub teid_read : (octets : List ℕ) (q : Content) → decoded octets ≡ Ok q → q.teid ≡ shown_teid octets
unfolding decoded
teid_read octets q is = checks_teid octets (header_fault octets) q is

-- that of a packet as it is written is its own
pub teid_written : (p : Content) → p.teid < 2 ^ 32 → shown_teid (spelling p) ≡ p.teid
teid_written p fits = from_be_bytes-to_be_bytes_4 p.teid fits

-- the three numbers of a TEID
pub kind_in_teid : (g id kind : ℕ) → kind < 4 → teid_kind (teid g id kind) ≡ kind
kind_in_teid g id kind small = omega arith

pub id_in_teid : (g id kind : ℕ) → 1 ≤ id → id ≤ 32 → kind < 4 → teid_id (teid g id kind) ≡ id
id_in_teid g id kind some most small = omega arith

pub gen_in_teid : (g id kind : ℕ) → id ≤ 32 → kind < 4 → teid_gen (teid g id kind) ≡ g
gen_in_teid g id kind most small = omega arith

pub teid_fits : (g id kind : ℕ) → g < 2 ^ 24 → id ≤ 32 → kind < 4 → teid g id kind < 2 ^ 32
teid_fits g id kind low most small = omega arith

-- ---- what is forwarded

-- the kind of a forwarding tunnel
abbrev pub kind_number : Dir → ℕ
kind_number Dl = 1
kind_number Ul = 2

-- a packet, as it is written, says this of a bearer and generation in a direction: its TEID names them
pub record SaysForwarded (p : Content) (id g : ℕ) (d : Dir) (load : Load) : Type 0 where
  pub read : Content
  pub decoded_is : decoded (spelling p) ≡ Ok read
  pub kind : teid_kind p.teid ≡ kind_number d
  pub id_is : teid_id p.teid ≡ id
  pub g_is : teid_gen p.teid ≡ g
  pub load_is : load_in read read.container ≡ load

-- the same of a packet that was read
record IsRead (q : Content) (kind id g : ℕ) (d : Dir) (load : Load) : Type 0 where
  of_dir : kind ≡ kind_number d
  of_id : teid_id q.teid ≡ id
  of_g : teid_gen q.teid ≡ g
  of_load : load_in q q.container ≡ load

not_frame : (id g : ℕ) (body : List ℕ) (r : Result Frame NruErr) (i h : ℕ) (d : Dir) (load : Load) → with_frame id g body r ≡ forwarding i h d load → ⊥
not_frame id g body (Err e) i h d load is = cc
not_frame id g body (Ok (User number true repeat)) i h d load is = cc
not_frame id g body (Ok (User number false repeat)) i h d load is = cc
not_frame id g body (Ok (Status highest lost)) i h d load is = cc

not_own : (id g : ℕ) (body : List ℕ) (o : Option (List ℕ)) (i h : ℕ) (d : Dir) (load : Load) → with_container id g body o ≡ forwarding i h d load → ⊥
not_own id g body None i h d load is = cc
not_own id g body (Some octets) i h d load is = not_frame id g body (frame_in octets) i h d load is

of_kinds : (q : Content) (kind id g : ℕ) (d : Dir) (load : Load) → of_kind q kind ≡ forwarding id g d load → IsRead q kind id g d load
of_kinds q zero id g d load is = absurd (not_own (teid_id q.teid) (teid_gen q.teid) q.body q.container id g d load is)
of_kinds q (suc zero) id g d load is = let dir : Dl ≡ d = cc in record { of_dir = ap kind_number dir; of_id = cc; of_g = cc; of_load = cc }
of_kinds q (suc (suc zero)) id g d load is = let dir : Ul ≡ d = cc in record { of_dir = ap kind_number dir; of_id = cc; of_g = cc; of_load = cc }
of_kinds q (suc (suc (suc k))) id g d load is = absurd cc

of_messages : (q : Content) (kind : GtpKind) (id g : ℕ) (d : Dir) (load : Load) → of_message q kind ≡ forwarding id g d load
    → IsRead q (teid_kind q.teid) id g d load
of_messages q GPdu id g d load is = of_kinds q (teid_kind q.teid) id g d load is
of_messages q EndMarker id g d load is = absurd cc
of_messages q EchoRequest id g d load is = absurd cc
of_messages q EchoResponse id g d load is = absurd cc
of_messages q ErrorIndication id g d load is = absurd cc

-- what a packet that is written says of what is forwarded
pub says_forwarded : (p : Content) (id g : ℕ) (d : Dir) (load : Load) → p.teid < 2 ^ 32 → packet_of (spelling p) ≡ forwarding id g d load
    → SaysForwarded p id g d load
says_forwarded p id g d load fits is = by (decoded (spelling p)) refl is
  where
    by : (r : Result Content GtpErr) → decoded (spelling p) ≡ r → said_by r ≡ forwarding id g d load → SaysForwarded p id g d load
    by (Err e) at is' = absurd cc
    by (Ok q) at is' =
        let named = of_messages q q.kind id g d load is' in
        let same : q.teid ≡ p.teid = teid_read (spelling p) q at ∙ teid_written p fits in
        record {
          read = q;
          decoded_is = at;
          kind = ap teid_kind (sym same) ∙ named.of_dir;
          id_is = ap teid_id (sym same) ∙ named.of_id;
          g_is = ap teid_gen (sym same) ∙ named.of_g;
          load_is = named.of_load;
        }
