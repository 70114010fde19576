-- The rule of a stored routing policy.
use Rattle.std.specs.Prelude.{ℕ, ◌+◌, nat_le, List, slice_index_or, if◌then◌else◌}
use Rattle.split_leg.specs.declared.policies.Choice.{Choice}
use Rattle.split_leg.specs.declared.policies.Choice.TheVariants.{Mcg, Scg}

-- two numbers of octets, which tie a policy's choice to the volumes of the legs
pub record Margins : Type 0 where
  pub plus : ℕ
  pub minus : ℕ

-- the margins of the policy of this number
abbrev pub margins_at : List Margins → ℕ → Margins
margins_at list i = slice_index_or list i (record { plus = 0; minus = 0 })

-- the leg that a policy of these margins chooses at these volumes
abbrev pub chosen : Margins → ℕ → ℕ → Choice
chosen margins mcg scg = if nat_le (scg + margins.minus) (mcg + margins.plus) then Scg else Mcg

-- the volume of the leg that is chosen, and that of the other
abbrev pub chosen_volume : Choice → ℕ → ℕ → ℕ
chosen_volume Mcg mcg scg = mcg
chosen_volume Scg mcg scg = scg

-- the volume of the leg that is not chosen, in octets
abbrev pub other_volume : Choice → ℕ → ℕ → ℕ
other_volume Mcg mcg scg = scg
other_volume Scg mcg scg = mcg
