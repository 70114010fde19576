-- The forms of the command line that make a script: their words.
use Rattle.std.specs.Prelude.{◌≡◌, ◌≢◌, ℕ, ◌≤◌, List, [], ◌∷◌, codes, Option, MatchOption}
use Rattle.std.specs.Fmt.{decimal}
use Rattle.made_scripts.specs.declared.forms.MadeForm.{MadeForm}
use Rattle.made_scripts.specs.declared.forms.Purpose.{Purpose}
use Rattle.made_scripts.specs.declared.forms.Purpose.TheVariants.{Make, Soak}

-- the word of a purpose
abbrev pub purpose_word : Purpose → List ℕ
purpose_word Make = codes "make"
purpose_word Soak = codes "soak"

-- the numbers of a form are in their ranges
pub record IsForm (f : MadeForm) : Type 0 where
  pub seed : f.seed ≤ 18446744073709551615
  pub least : 1 ≤ f.turns
  pub most : f.turns ≤ 20000

-- the words of a form
abbrev pub words_of : MadeForm → List (List ℕ)
words_of f = purpose_word f.purpose ∷ decimal f.seed ∷ decimal f.turns ∷ []

-- what words were found to be: none of the forms, or this one
abbrev pub IsRead : List (List ℕ) → Option MadeForm → Type 0
IsRead words found = MatchOption found ((f : MadeForm) → IsForm f → words ≢ words_of f) (λ f. IsForm f × (words ≡ words_of f))
