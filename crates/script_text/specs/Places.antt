-- Reading a line field by field.
use Rattle.std.specs.Prelude.{◌≡◌, ℕ, ◌+◌, nat_le, List, [], ◌∷◌, length, drop, if◌then◌else◌}
use Rattle.script_text.specs.Grammar.{Kind, Allows, IsFault, fields}
use Rattle.script_text.specs.declared.scripted.LineFault.{LineFault}
use Rattle.script_text.specs.declared.scripted.LineFault.TheVariants as fault

-- the fields from this place on: none after the line's end
abbrev pub fields_from : List ℕ → ℕ → List (List ℕ)
fields_from line at = if nat_le at (length line) then fields (drop at line) else []

-- what is left of a line: the place of the next field, which is how many octets stand before it, and the fields from there
-- on; where no field is left, the place is one more than the line's length
pub record Left : Type 0 where
  pub at : ℕ
  pub fields : List (List ℕ)

-- a field of the sort is taken
pub record Takes (kind : Kind) (field : List ℕ) (old new : Left) : Type 0 where
  pub allowed : Allows kind field
  pub found : old.fields ≡ field ∷ new.fields
  pub moved : new.at ≡ old.at + length field + 1

-- the fault of the fields that are left; want of memory may come at any time
abbrev pub IsFaultAt : List Kind → Left → LineFault → Type 0
IsFaultAt ks left (fault.Column c) = IsFault ks left.at left.fields c
IsFaultAt ks left fault.Memory = Unit {0}

-- what is said of the column of a fault; want of memory has none
abbrev pub ForColumn : LineFault → (ℕ → Type 0) → Type 0
ForColumn (fault.Column c) P = P c
ForColumn fault.Memory P = Unit {0}
