-- Each data PDU protects its submission (TS 38.323, 5.8; TS 33.401, B.2), and comes from where it may.
use Rattle.std.specs.Prelude.{Bool, List, Option, Some, false, length, replicate, true, ℕ, ◌&&◌, ◌==◌, ◌||◌}
use Rattle.dc_base.specs.Count.{sn}
use Rattle.dc_base.specs.Links.{is_same_link}
use Rattle.dc_base.specs.Nodes.{is_same_node}
use Rattle.dc_base.specs.declared.events.Line.{Line}
use Rattle.dc_base.specs.declared.events.Line.TheVariants as line
use Rattle.dc_base.specs.declared.flights.Flight.{Flight}
use Rattle.dc_base.specs.declared.flights.Flight.TheVariants as flight
use Rattle.dc_base.specs.declared.nodes.Alg.{Alg}
use Rattle.dc_base.specs.declared.nodes.Alg.TheVariants.{Nea0, Nea2}
use Rattle.dc_base.specs.declared.nodes.Dir.{Dir}
use Rattle.dc_base.specs.declared.nodes.Dir.TheVariants.{Dl, Ul}
use Rattle.dc_base.specs.declared.nodes.KeyName.{KeyName}
use Rattle.dc_base.specs.declared.nodes.LinkId.{LinkId}
use Rattle.dc_base.specs.declared.nodes.Node.TheVariants.{T}
use Rattle.key_chain.specs.KeyNames.{octets, upenc}
use Rattle.nea2.specs.Combined.{combined}
use Rattle.nea2.specs.Keystream.{keystream}
use Rattle.pdcp_pdu.specs.DataPdu.{data_pdu}
use Rattle.claims.specs.Sameness.{is_none_or, is_same_number, is_same_octets, is_some_and}
use Rattle.claims.specs.Views.{Pdu, data_of, pdu_of}
use Rattle.claims.specs.Past.{Bearer, Past}
use Rattle.claims.specs.Reading.{Setting, anchor_in, bearer_of, setting, submission}
use Rattle.claims.specs.Taking.{direction_of}

-- the keystream of a key name (TS 33.501, D.2.1); without a cipher no key is derived
abbrev pub stream : Alg → List (List ℕ) → KeyName → ℕ → ℕ → Dir → ℕ → List ℕ
stream Nea0 roots key count id d len = replicate len 0
stream Nea2 roots key count id d len = keystream Nea2 (upenc roots key Nea2) count id d len

-- the PDU of the submission with this COUNT, under a key
abbrev pub protected_pdu : Past → Bearer → KeyName → Dir → ℕ → List ℕ → List ℕ
protected_pdu p b key d c sdu =
    data_pdu b.n (sn b.n c) (combined sdu (stream p.header.alg p.table.roots key c b.id d (length sdu)))

-- the octets are that PDU, where there is such a submission
abbrev pub protects_one : Past → Bearer → KeyName → Dir → ℕ → List ℕ → Option (List ℕ) → Bool
protects_one p b key d c octets sdu = is_some_and (λ x. is_same_octets octets (protected_pdu p b key d c x)) sdu

-- a PDU protects the submission of its tag under the key of its plan
abbrev pub protects : Past → Dir → Pdu → Option ℕ → Option Setting → Option Bearer → Bool
protects p d u (Some c) (Some s) (Some b) = protects_one p b s.key d c u.octets (submission d c b)
protects p d u _ _ _ = false

-- ---- where it comes from

-- the same packet with the same tag: a copy is in a tunnel
abbrev pub is_same_packet : Flight → Flight → Bool
is_same_packet (flight.Tun tag packet) (flight.Tun tag' packet') = is_same_number tag tag' && is_same_octets packet packet'
is_same_packet _ _ = false

-- the flight is the copy of an `again`
abbrev pub is_copy : Past → LinkId → Flight → Bool
is_copy p l f = is_some_and (λ s. is_same_link l s.0 && is_same_packet f s.1) p.copied

-- the same PDU: identity, generation, tag and octets
abbrev pub is_same_pdu : Pdu → Pdu → Bool
is_same_pdu u v = (u.id == v.id) && (u.g == v.g) && is_same_number u.tag v.tag && is_same_octets u.octets v.octets

-- it is passed on: the node took this PDU in this event
abbrev pub is_passed_on : Past → LinkId → Pdu → Bool
is_passed_on p l u = is_some_and (λ s. is_same_node s.0.to l.from && is_some_and (is_same_pdu u) (pdu_of s.1)) p.given

-- the node numbers the PDUs of a direction: the terminal, or the anchor of the plan
abbrev pub is_origin : LinkId → Dir → Option Setting → Bool
is_origin l Ul s = is_same_node l.from T
is_origin l Dl s = is_some_and (λ t. is_same_node l.from (anchor_in t)) s

-- a data PDU protects a submission; it comes from the terminal or the anchor of its plan, or is passed on or copied
abbrev pub is_protected_pdu : Past → LinkId → Flight → Pdu → Bool
is_protected_pdu p l f u =
    let d = direction_of p l u in
    protects p d u u.tag (setting p u.id u.g) (bearer_of p u.id u.g)
    && (is_origin l d (setting p u.id u.g) || is_passed_on p l u || is_copy p l f)

-- and so does each that is sent
abbrev pub is_protected : Past → Line → Bool
is_protected p (line.Send l f) = is_none_or (is_protected_pdu p l f) (data_of f)
is_protected p _ = true
