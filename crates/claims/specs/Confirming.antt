-- What confirms a COUNT.
use Rattle.std.specs.List.{list_any}
use Rattle.std.specs.Prelude.{Bool, List, [], if◌then◌else◌, suc, zero, ℕ, ◌+◌, ◌==◌, ◌∷◌}
use Rattle.dc_base.specs.Count.{bits}
use Rattle.pdcp_pdu.specs.Bitmap.{names}

-- a confirmation: of one COUNT, or of all that a status report with this FMC and this bitmap names
pub data Confirmation : Type 0 where
  acked : ℕ → Confirmation
  reported : ℕ → List ℕ → Confirmation

-- it is of this COUNT
abbrev pub is_of : ℕ → Confirmation → Bool
is_of count (acked c) = count == c
is_of count (reported fmc bits) = names fmc bits count

-- one of them is
abbrev pub is_confirmed : List Confirmation → ℕ → Bool
is_confirmed confirms count = list_any (is_of count) confirms

-- the least COUNT from c on that is not confirmed, among the first k
abbrev pub least_but : List Confirmation → ℕ → ℕ → ℕ
least_but confirms c zero = c
least_but confirms c (suc k) = if is_confirmed confirms c then least_but confirms (c + 1) k else c

-- all COUNTs from c on that are not confirmed, among the first k
abbrev pub unconfirmed_from : List Confirmation → ℕ → ℕ → List ℕ
unconfirmed_from confirms c zero = []
unconfirmed_from confirms c (suc k) =
    if is_confirmed confirms c then unconfirmed_from confirms (c + 1) k else c ∷ unconfirmed_from confirms (c + 1) k
