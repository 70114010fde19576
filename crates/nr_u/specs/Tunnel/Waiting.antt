-- What `Outbound` keeps so that a frame need not look at all that was sent.
use Rattle.std.specs.Prelude.{◌≡◌, ℕ, ◌-◌, ◌<◌, ◌≤◌, ◌&&◌, nat_lt, nat_le, Bool, true, List, [], ◌∷◌, length, filter, fold, slice_get, Some, ⊤}
use Rattle.std.specs.List.{AllByRecursion}
use Rattle.std.specs.List.Sorted.{IsStrictlySortedBy}
use Rattle.std.specs.Ordering.{nat_cmp}
use Rattle.std.specs.BTreeMap.{is_at}
use Rattle.std.specs.Map.{keys_of, remove_entry}
use Rattle.nr_u.specs.Tunnel.Outgoing.{Counted, is_open}

-- the COUNTs do not fall, from low on
abbrev pub Climbs : ℕ → List Counted → Type 0
Climbs low [] = ⊤
Climbs low (e ∷ es) = (low ≤ e.1) × Climbs e.1 es

-- the COUNT is not below the last of these
abbrev pub IsNext : List Counted → ℕ → Type 0
IsNext es count = (e : Counted) → slice_get es (length es - 1) ≡ Some e → e.1 ≤ count

-- the entries that are left when these are taken out, by their numbers
abbrev pub taken_out : List Counted → List Counted → List Counted
taken_out es taken = fold (λ left e. remove_entry (is_at (nat_cmp e.0)) left) es taken

-- whether the number is one of those from a first one on and below an end
abbrev pub lies_in : ℕ → ℕ → Counted → Bool
lies_in from end e = nat_le from e.0 && nat_lt e.0 end

-- each number was given: it is below the next
abbrev pub AreGiven : ℕ → List Counted → Type 0
AreGiven next es = AllByRecursion (λ e. e.0 < next) es

-- the numbers ascend
abbrev pub ByNumber : List Counted → Type 0
ByNumber es = IsStrictlySortedBy nat_cmp (keys_of es)

-- where a range lists a PDU that is open, it is among those to look at
abbrev pub Covers : ℕ → List ℕ → List Counted → List Counted → Type 0
Covers low confirmed askable unasked = filter (λ e. is_open low confirmed e.1) askable ≡ filter (λ e. is_open low confirmed e.1) unasked

-- what is kept: numbers that were given; COUNTs that wait do not fall while in_order says so; what is open is to be looked at
pub record IsOutboundState (next : ℕ) (waiting unasked askable : List Counted) (confirmed : List ℕ) (in_order : Bool) (reference : ℕ) : Type 0 where
  pub waiting_given : AreGiven next waiting
  pub unasked_given : AreGiven next unasked
  pub askable_given : AreGiven next askable
  pub sorted : ByNumber unasked
  pub climbs : in_order ≡ true → Climbs 0 waiting
  pub covers : Covers reference confirmed askable unasked
