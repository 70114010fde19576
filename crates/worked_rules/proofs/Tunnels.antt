-- A forwarding tunnel: the octets of its packets, and what is made of those that come (TS 38.423, 8.2.2).
use Rattle.std.specs.Prelude.{◌≡◌, ℕ, List, [], ◌∷◌, codes, fold, Some, None, Result, Ok, Err}
use Rattle.std.proofs.Common.{refl}
use Rattle.hex.specs.Hex.{encode_lower, encode_with}
use Rattle.dc_base.specs.declared.numbers.SnLen.TheVariants.{S12}
use Rattle.gtpu.specs.Content.{Content}
use Rattle.gtpu.specs.Decoded.{decoded}
use Rattle.gtpu.specs.Spelling.{spelling}
use Rattle.gtpu.specs.declared.faults.GtpErr.{GtpErr}
use Rattle.gtpu.specs.declared.packet.GtpKind.TheVariants.{GPdu}
use Rattle.forward.specs.Forwarded.{Forwarded, after, nothing_came, whole}
use Rattle.forward.specs.Outgoing.{end_marker, sdu_packet, total_packet}
use Rattle.forward.specs.Reading.{carried}

-- an SDU with SN 0, then one without SN, the total of both, and the End Marker, in the downlink tunnel of generation 3
abbrev first : List ℕ
first = spelling (sdu_packet 385 S12 0 (Some 0, 170 ∷ []))

abbrev second : List ℕ
second = spelling (sdu_packet 385 S12 1 (None, 187 ∷ []))

abbrev total : List ℕ
total = spelling (total_packet 385 2)

abbrev marker : List ℕ
marker = spelling (end_marker 385)

first_octets : encode_lower first ≡ codes "34ff0011000001810000008402010000000000c001000000aa"
unfolding encode_with
first_octets = refl

second_says : decoded second ≡ Ok (record { kind = GPdu; teid = 385; container = Some (1 ∷ 0 ∷ 0 ∷ 1 ∷ 0 ∷ 0 ∷ []); number = None; body = 187 ∷ [] })
unfolding decoded
second_says = refl

total_octets : encode_lower total ≡ codes "34ff000c00000181000000840200000002000000"
unfolding encode_with
total_octets = refl

marker_octets : encode_lower marker ≡ codes "30fe000000000181"
unfolding encode_with
marker_octets = refl

-- ---- the receiving end

-- what octets are read as comes out of the tunnel; what is no packet does not
abbrev with_read : Forwarded → Result Content GtpErr → Forwarded
with_read f (Err e) = f
with_read f (Ok p) = after f (carried p)

abbrev came : List (List ℕ) → Forwarded
came packets = fold (λ f octets. with_read f (decoded octets)) nothing_came packets

-- without the first SDU the list is not there, though the second came twice and the total is known
not_done_without_the_first : whole (came (second ∷ total ∷ second ∷ [])) ≡ None
unfolding decoded
not_done_without_the_first = refl

-- with it the list is there, in the order of the forward numbers
done_in_order : whole (came (second ∷ total ∷ second ∷ first ∷ [])) ≡ Some ((Some 0, 170 ∷ []) ∷ (None, 187 ∷ []) ∷ [])
unfolding decoded
done_in_order = refl

-- an End Marker counts for nothing
not_done_by_the_marker : whole (came (first ∷ marker ∷ second ∷ [])) ≡ None
unfolding decoded
not_done_by_the_marker = refl
