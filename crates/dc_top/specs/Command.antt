-- What a call of the program answers, and what it writes.
use Rattle.std.specs.Prelude.{◌≡◌, ◌≢◌, ◌⊎◌, ℕ, List, [], ◌∷◌, codes, Option}
use Rattle.std.specs.Io.KnownBytes.{Appends}
use Rattle.dc_base.specs.declared.answers.Status.{Status}
use Rattle.dc_base.specs.declared.answers.Status.TheVariants as status
use Rattle.dc_outside.specs.Octets.{AppendsFront}
use Rattle.dc_forms.specs.declared.form.Form.{Form}
use Rattle.dc_forms.specs.Forms.{IsForm, IsFormText, words_of}
use Rattle.node_rules.specs.Choices.{Choices}
use Rattle.made_scripts.specs.declared.forms.MadeForm.{MadeForm}
use Rattle.made_scripts.specs.Forms.{IsForm as IsMadeForm, words_of as made_words}
use Rattle.made_runs.specs.Written.{HasMade}

-- the words are the form that reads a script
abbrev pub IsRun : List (List ℕ) → Type 0
IsRun words = words ≡ codes "run" ∷ []

-- the words are the form that reads a transcript
abbrev pub IsCheck : List (List ℕ) → Type 0
IsCheck words = words ≡ codes "check" ∷ []

-- the words are none of the forms that show something: keys, a text under a cipher, octets
abbrev pub IsNoShown : List (List ℕ) → Type 0
IsNoShown words = (f : Form) → IsForm f → words ≢ words_of f

-- the words are none of the forms that make a script
abbrev pub IsNoMade : List (List ℕ) → Type 0
IsNoMade words = (f : MadeForm) → IsMadeForm f → words ≢ made_words f

-- the words are none of the forms that read no source
abbrev pub IsNoOther : List (List ℕ) → Type 0
IsNoOther words = IsNoShown words × IsNoMade words

-- what is said of the octets put out before and after a form that shows something
abbrev pub HasShown : List (List ℕ) → Status → Option (List ℕ) → Option (List ℕ) → Type 0
HasShown words status.Ok old new = (text : List ℕ) × IsFormText words text × Appends old new text
HasShown words status.WriteFault old new = (text : List ℕ) × IsFormText words text × AppendsFront old new text
HasShown words status.Usage old new = Appends old new []
HasShown words status.Memory old new = Appends old new []
HasShown words _ old new = ⊥

-- what is said of them before and after a form that makes a script
pub record HasMadeBy (c : Choices) (words : List (List ℕ)) (s : Status) (old new : Option (List ℕ)) : Type 0 where
  pub form : MadeForm
  pub good : IsMadeForm form
  pub worded : words ≡ made_words form
  pub made : HasMade c form s old new

-- what is said of them before and after any form but that which reads a script
abbrev pub HasWritten : Choices → List (List ℕ) → Status → Option (List ℕ) → Option (List ℕ) → Type 0
HasWritten c words s old new = HasMadeBy c words s old new ⊎ (IsNoMade words × HasShown words s old new)
