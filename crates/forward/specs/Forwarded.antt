-- What came out of a forwarding tunnel (TS 38.423, 8.2.2; the numbers are this product's own).
use Rattle.std.specs.Prelude.{ℕ, zero, suc, ◌+◌, List, [], ◌∷◌, Option, Some, None}
use Rattle.std.specs.Ordering.{nat_cmp}
use Rattle.std.specs.BTreeMap.{insert_entry, is_at}
use Rattle.std.specs.Map.{lookup}
use Rattle.forward.specs.Load.{Sdu, Load, Piece, Total, Nothing}

-- the SDUs that came, by their forward numbers, which ascend, and the number of all once it came
pub record Forwarded : Type 0 where
  pub sdus : List (ℕ × Sdu)
  pub total : Option ℕ

-- before anything came
abbrev pub nothing_came : Forwarded
nothing_came = record { sdus = []; total = None }

-- the SDU of a forward number, if it came
abbrev pub sdu_under : Forwarded → ℕ → Option Sdu
sdu_under f number = lookup (is_at (nat_cmp number)) f.sdus

-- the first SDU of each number counts
abbrev pub with_piece : Forwarded → ℕ → Sdu → Option Sdu → Forwarded
with_piece f number sdu (Some there) = f
with_piece f number sdu None = record f { sdus = insert_entry nat_cmp f.sdus number sdu }

-- the first total counts
abbrev pub with_total : Forwarded → ℕ → Option ℕ → Forwarded
with_total f total (Some there) = f
with_total f total None = record f { total = Some total }

-- a packet comes out of the tunnel
abbrev pub after : Forwarded → Load → Forwarded
after f (Piece number sdu) = with_piece f number sdu (sdu_under f number)
after f (Total total) = with_total f total f.total
after f Nothing = f

-- one more in front of what is there, if both are there
abbrev pub in_front : Option Sdu → Option (List Sdu) → Option (List Sdu)
in_front None rest = None
in_front (Some sdu) None = None
in_front (Some sdu) (Some sdus) = Some (sdu ∷ sdus)

-- the SDUs of so many numbers from this one on, if each came
abbrev pub all_from : Forwarded → ℕ → ℕ → Option (List Sdu)
all_from f number zero = Some []
all_from f number (suc k) = in_front (sdu_under f number) (all_from f (number + 1) k)

-- all SDUs in the order of their numbers, if the total and each of them came
abbrev pub all_by : Forwarded → Option ℕ → Option (List Sdu)
all_by f None = None
all_by f (Some total) = all_from f 0 total

-- the list that was forwarded, once all of it came
abbrev pub whole : Forwarded → Option (List Sdu)
whole f = all_by f f.total
