-- How the code keeps what came out of a forwarding tunnel.
use Rattle.std.specs.Prelude.{◌≡◌, ℕ, ◌<◌, ◌^◌, List, length, Option, None, IsSome, slice_get}
use Rattle.std.specs.Ordering.{nat_cmp}
use Rattle.std.specs.BTreeMap.{is_at}
use Rattle.std.specs.Map.{lookup}
use Rattle.forward.specs.Load.{Sdu}

-- the SDU of a number, if it came
abbrev pub under : List (ℕ × Sdu) → ℕ → Option Sdu
under sdus number = lookup (is_at (nat_cmp number)) sdus

-- each number below this one came
abbrev pub CameBelow : List (ℕ × Sdu) → ℕ → Type 0
CameBelow sdus end = (number : ℕ) → number < end → IsSome (under sdus number)

-- no number that came has more than 24 bits
abbrev pub AreSmall : List (ℕ × Sdu) → Type 0
AreSmall sdus = (number : ℕ) → IsSome (under sdus number) → number < 2 ^ 24

-- every number below this one came, and it did not
pub record IsFirstMissing (sdus : List (ℕ × Sdu)) (missing : ℕ) : Type 0 where
  pub below : CameBelow sdus missing
  pub absent : under sdus missing ≡ None
  pub small : AreSmall sdus

-- the SDUs of the numbers below this one, in the order of their numbers
pub record IsFront (sdus : List (ℕ × Sdu)) (end : ℕ) (list : List Sdu) : Type 0 where
  pub whole : length list ≡ end
  pub each : (number : ℕ) → number < end → slice_get list number ≡ under sdus number
