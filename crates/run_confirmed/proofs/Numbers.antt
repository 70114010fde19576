-- A PDU in a tunnel has a number of 24 bits, while no more than 2^24 are sent there (TS 38.425, 5.5.3.4).
use Rattle.std.proofs.Common.{◌≡◌, ◌+◌, ◌/◌, ◌%◌, ◌≤◌, ◌^◌, ℕ, true, Bool, List, [], ◌∷◌, Option, Some, ap, ◌∙◌, arith}
use Rattle.nr_u.specs.Frames.{first_octet, number, padded}
use Rattle.nr_u.specs.declared.frame.Frame.TheVariants.{User}
use Rattle.node_rules.specs.Packets.{down_packet, own_packet}
use Rattle.std.specs.Prelude.{length}
use Rattle.std.proofs.lemmas.Option.{slice_get_within}
use Rattle.dc_base.specs.declared.flights.Flight.TheVariants as flight
use Rattle.dc_base.specs.declared.nodes.LinkId.{LinkId}
use Rattle.run_confirmed.specs.Flights.{IsDown, IsReadRight, ShowsTag}
use Rattle.run_confirmed.specs.Stories.{Layout, Stories}

-- so what is left of reading such a packet is that its PDU is short, and shows its COUNT
pub few_read : (layout : Layout) (stories : Stories) (l : LinkId) (tag : Option ℕ) (packet : List ℕ)
    → ((id g : ℕ) → length (stories id g).tunnel ≤ 2 ^ 24)
    → ((d : IsDown stories tag packet) → (length d.sent.pdu ≤ 2 ^ 15) × ShowsTag (layout.n d.id d.g) tag d.sent.pdu)
    → IsReadRight layout stories l (flight.Tun tag packet)
few_read layout stories l tag packet few said = λ d.
    let inside = slice_get_within (stories d.id d.g).tunnel d.sent.number (record { count = tag; repeat = d.sent.repeat }) d.sent.sent in
    let most = few d.id d.g in
    record { small = omega (arith, inside, most); short = (said d).0; shows = (said d).1 }

-- ---- past that it does not say which it is

number_again : (n : ℕ) → number (n + 2 ^ 24) ≡ number n
number_again n =
    let m = n + 2 ^ 24 in
    let high : (m / 65536) % 256 ≡ (n / 65536) % 256 = omega arith in
    let middle : (m / 256) % 256 ≡ (n / 256) % 256 = omega arith in
    let low : m % 256 ≡ n % 256 = omega arith in
    ap (λ (x : ℕ). x ∷ ((m / 256) % 256) ∷ (m % 256) ∷ []) high ∙ ap (λ (y : ℕ). ((n / 65536) % 256) ∷ y ∷ (m % 256) ∷ []) middle
    ∙ ap (λ (z : ℕ). ((n / 65536) % 256) ∷ ((n / 256) % 256) ∷ z ∷ []) low

-- the packet of a PDU is that of a number 2^24 above
pub same_octets : (id g n : ℕ) (repeat : Bool) (pdu : List ℕ) → down_packet g id (n + 2 ^ 24) repeat pdu ≡ down_packet g id n repeat pdu
same_octets id g n repeat pdu = ap (λ (octets : List ℕ). own_packet g id (Some (padded (first_octet (User n true repeat) ∷ octets))) pdu) (number_again n)
