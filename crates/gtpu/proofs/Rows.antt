-- Rows of packets, read by computation: `refl` alone shows what octets say.
use Rattle.std.proofs.Common.{◌≡◌, [], ◌∷◌, Some, refl}
use Rattle.std.specs.Prelude.{Ok, Err}
use Rattle.gtpu.specs.declared.faults.GtpErr.TheVariants as fault
use Rattle.gtpu.specs.declared.packet.GtpKind.TheVariants.{GPdu}
use Rattle.gtpu.specs.declared.packet.PduNumber.TheVariants.{Short}
use Rattle.gtpu.specs.Decoded.{decoded}

-- a container, and a number of 16 bits
pub container_and_number : decoded (52 ∷ 255 ∷ 0 ∷ 18 ∷ 0 ∷ 0 ∷ 1 ∷ 129 ∷ 0 ∷ 0 ∷ 0 ∷ 132 ∷ 2 ∷ 1 ∷ 0 ∷ 0 ∷ 0 ∷ 0 ∷ 0 ∷ 192 ∷ 1 ∷ 10 ∷ 188 ∷ 0 ∷ 104 ∷ 105 ∷ []) ≡ Ok (record { kind = GPdu; teid = 385; container = Some (1 ∷ 0 ∷ 0 ∷ 0 ∷ 0 ∷ 0 ∷ []); number = Some (Short 2748); body = 104 ∷ 105 ∷ [] })
unfolding decoded
container_and_number = refl

-- a number of 18 bits, and then one of 16
pub second_number : decoded (52 ∷ 255 ∷ 0 ∷ 18 ∷ 0 ∷ 0 ∷ 0 ∷ 1 ∷ 0 ∷ 0 ∷ 0 ∷ 130 ∷ 2 ∷ 0 ∷ 0 ∷ 1 ∷ 0 ∷ 0 ∷ 0 ∷ 192 ∷ 1 ∷ 0 ∷ 1 ∷ 0 ∷ 104 ∷ 105 ∷ []) ≡ Err (fault.Extension 20)
unfolding decoded
second_number = refl

-- an unknown type with bit 7 set, behind one with bit 7 clear
pub unknown_required : decoded (52 ∷ 255 ∷ 0 ∷ 9 ∷ 0 ∷ 0 ∷ 0 ∷ 128 ∷ 0 ∷ 0 ∷ 0 ∷ 127 ∷ 1 ∷ 170 ∷ 187 ∷ 255 ∷ 0 ∷ []) ≡ Err (fault.UnknownRequired 15)
unfolding decoded
unknown_required = refl
