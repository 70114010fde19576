-- Reading a line field by field.
use Rattle.std.specs.Prelude.{◌≡◌, ℕ, ◌+◌, nat_le, List, [], ◌∷◌, length, drop, if◌then◌else◌, Bool, true, false}
use Rattle.transcript_text.specs.Grammar.{Kind, IsFault, parts}
use Rattle.transcript_text.specs.declared.fault.LineFault.{LineFault}
use Rattle.transcript_text.specs.declared.fault.LineFault.TheVariants as fault

-- the fields from this place on: none after the text's end
abbrev pub parts_from : ℕ → List ℕ → ℕ → List (List ℕ)
parts_from separator text at = if nat_le at (length text) then parts separator (drop at text) else []

-- what is left of a line: the place of the next field, which is how many octets stand before it, and the fields from there
-- on; where no field is left, the place is one more than the line's length
pub record Left : Type 0 where
  pub at : ℕ
  pub fields : List (List ℕ)
  pub separator : ℕ  -- the octet between two fields

-- whether a field is left
abbrev pub has_any : List (List ℕ) → Bool
has_any [] = false
has_any (f ∷ fs) = true

-- a field is taken
pub record Takes (field : List ℕ) (old new : Left) : Type 0 where
  pub found : old.fields ≡ field ∷ new.fields
  pub moved : new.at ≡ old.at + length field + 1

-- a fault is one of what is left, where columns are told by P; want of memory may come at any time
abbrev pub FaultAt : (ℕ → List (List ℕ) → ℕ → Type 0) → Left → LineFault → Type 0
FaultAt P left (fault.Column c) = P left.at left.fields c
FaultAt P left fault.Memory = Unit {0}

-- the fault of fields of these sorts
abbrev pub IsFaultAt : List Kind → Left → LineFault → Type 0
IsFaultAt ks left f = FaultAt (IsFault ks) left f

-- what is said of the column of a fault; want of memory has none
abbrev pub ForColumn : LineFault → (ℕ → Type 0) → Type 0
ForColumn (fault.Column c) P = P c
ForColumn fault.Memory P = Unit {0}
