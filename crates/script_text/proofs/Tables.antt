-- What a table of words says.
use Rattle.std.proofs.Common.{◌≡◌, ℕ, List, [], ◌∷◌, Bool, true, ◌&&◌, Option, sym, ◌∙◌, inl, inr, Bor}
use Rattle.std.specs.Prelude.{IfSome, IsTrue}
use Rattle.std.specs.Str.{bytes_eq}
use Rattle.std.proofs.lemmas.Bool.{cases_Bool, and_parts}
use Rattle.std.proofs.lemmas.Slice.Eq.{bytes_eq-Decides}
use Rattle.script_text.specs.Spelling.{value_of}

-- whether each row of a table has the word of its value, and a value that passes
abbrev pub spells : {T : Type 0} → (T → List ℕ) → (T → Bool) → List (Bor (List ℕ) × T) → Bool
spells word good [] = true
spells word good (row ∷ rows) = (good row.1 && bytes_eq row.0.now (word row.1)) && spells word good rows

value_of-spells : {T : Type 0} (word : T → List ℕ) (good : T → Bool) (rows : List (Bor (List ℕ) × T)) → spells word good rows ≡ true
    → (field : List ℕ) → IfSome (value_of rows field) (λ t. IsTrue (good t) × (field ≡ word t))
unfolding value_of
value_of-spells word good [] h field = tt
value_of-spells word good (row ∷ rows) h field =
    let parts = and_parts (good row.1 && bytes_eq row.0.now (word row.1)) (spells word good rows) h in
    let first = and_parts (good row.1) (bytes_eq row.0.now (word row.1)) parts.0 in
    elim (cases_Bool (bytes_eq row.0.now field)) [
      | inl same ↦
          rw same (first.0, sym ((bytes_eq-Decides row.0.now field).0 same) ∙ (bytes_eq-Decides row.0.now (word row.1)).0 first.1)
      | inr other ↦ rw other (value_of-spells word good rows parts.1 field)
    ]

-- what is found in a table that spells its values
pub found_spells : {T : Type 0} (word : T → List ℕ) (good : T → Bool) (rows : List (Bor (List ℕ) × T)) (field : List ℕ) (r : Option T)
    → r ≡ value_of rows field → spells word good rows ≡ true → IfSome r (λ t. IsTrue (good t) × (field ≡ word t))
found_spells word good rows field r e h = rw e (value_of-spells word good rows h field)
