-- Which COUNTs may be among the SDUs that are taken over.
use Rattle.std.specs.Prelude.{ℕ, Bool, ◌-◌, ◌^◌, ◌&&◌, nat_lt}
use Rattle.anchor.specs.declared.taking.Bounds.{Bounds}
use Rattle.anchor.specs.declared.taking.Bounds.TheVariants.{Numbered, Stored}

-- the reference for the sequence numbers
abbrev pub reference_of : Bounds → ℕ
reference_of (Numbered dl) = dl
reference_of (Stored ul) = ul

-- whether the COUNT may be there
abbrev pub may_be : Bounds → ℕ → Bool
may_be (Numbered dl) c = nat_lt c dl
may_be (Stored ul) c = nat_lt ul c && nat_lt c (2 ^ 32 - 1)
