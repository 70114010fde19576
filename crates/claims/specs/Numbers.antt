-- The numbers of PDUs on their legs, of frames in their tunnels, and of forwarded packets.
use Rattle.std.specs.Option.{option_map}
use Rattle.std.specs.Prelude.{Bool, List, fold, if◌then◌else◌, max, true, unwrap_or, ℕ, ◌&&◌, ◌+◌, ◌==◌, ◌||◌}
use Rattle.dc_base.specs.Links.{is_same_link}
use Rattle.dc_base.specs.Nodes.{is_same_dir}
use Rattle.dc_base.specs.declared.events.Line.{Line}
use Rattle.dc_base.specs.declared.events.Line.TheVariants as line
use Rattle.dc_base.specs.declared.flights.Flight.{Flight}
use Rattle.dc_base.specs.declared.nodes.Dir.{Dir}
use Rattle.dc_base.specs.declared.nodes.LinkId.{LinkId}
use Rattle.key_chain.specs.KeyNames.{octets}
use Rattle.pdcp_pdu.specs.DataPdu.{is_data}
use Rattle.pdcp_pdu.specs.StatusReport.{report_pdu}
use Rattle.claims.specs.Sameness.{is_none_or, is_same_octets, is_some_and}
use Rattle.claims.specs.Packets.{Packet, forwarded, total}
use Rattle.claims.specs.Views.{Pdu, packet_in, pdu_of}
use Rattle.claims.specs.Past.{Bearer, Past}
use Rattle.claims.specs.Reading.{bearer_of, deliv, received_at, stored}
use Rattle.claims.specs.Protected.{is_copy, is_passed_on}

-- the number after that of a PDU, if it is of this link, bearer and generation
abbrev pub number_after : LinkId → ℕ → ℕ → LinkId × Pdu → ℕ
number_after l id g (k, u) = if is_same_link l k && (u.id == id) && (u.g == g) then unwrap_or (option_map (λ n. n + 1) u.num) 0 else 0

-- the number after the greatest: legs and tunnels count from 0 in each generation
abbrev pub next_number : Past → LinkId → ℕ → ℕ → ℕ
next_number p l id g = fold (λ k s. max k (number_after l id g s)) 0 p.pdus

-- the PDU has the next number of its leg, or none
abbrev pub has_next_number : Past → LinkId → Pdu → Bool
has_next_number p l u = is_none_or (λ k. k == next_number p l u.id u.g) u.num

-- the number after that of a forwarded SDU of this identity, generation and direction
abbrev pub forward_after : ℕ → ℕ → Dir → LinkId × Packet → ℕ
forward_after id g d (l, forwarded i h e k s sdu) = if (i == id) && (h == g) && is_same_dir d e then k + 1 else 0
forward_after id g d _ = 0

-- the number after the greatest of a forwarding tunnel
abbrev pub next_forward : Past → ℕ → ℕ → Dir → ℕ
next_forward p id g d = fold (λ k s. max k (forward_after id g d s)) 0 p.forwards

-- a forwarded SDU has the next number of its tunnel, and a total is that number
abbrev pub packet_is_numbered : Past → Packet → Bool
packet_is_numbered p (forwarded id g d k s sdu) = k == next_forward p id g d
packet_is_numbered p (total id g d k) = k == next_forward p id g d
packet_is_numbered p _ = true

-- a flight that is no copy has the next number
abbrev pub is_numbered_flight : Past → Flight → LinkId → Bool
is_numbered_flight p f l = is_none_or (has_next_number p l) (pdu_of f) && is_none_or (packet_is_numbered p) (packet_in f)

-- so has each that is sent
abbrev pub has_number : Past → Line → Bool
has_number p (line.Send l f) = is_copy p l f || is_numbered_flight p f l
has_number p _ = true

-- ---- what a report names

-- the report names exactly what was handed up and what is stored (TS 38.323, 5.4.1)
abbrev pub is_true_report : Dir → Bearer → List ℕ → Bool
is_true_report d b octets = is_same_octets octets (report_pdu (deliv d b) (stored d b))

-- a control PDU is passed on, or is the report of the entity at its sender
abbrev pub is_reported_pdu : Past → LinkId → Pdu → Bool
is_reported_pdu p l u =
    is_data u.octets || is_passed_on p l u || is_some_and (λ b. is_true_report (received_at l.from) b u.octets) (bearer_of p u.id u.g)

-- so is each that is sent
abbrev pub is_reported : Past → Line → Bool
is_reported p (line.Send l f) = is_copy p l f || is_none_or (is_reported_pdu p l) (pdu_of f)
is_reported p _ = true
