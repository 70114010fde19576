-- What the forms that make a script write, and what is said of the octets put out, by the status.
use Rattle.std.specs.Prelude.{ℕ, List, [], Option}
use Rattle.std.specs.Io.KnownBytes.{Appends}
use Rattle.dc_base.specs.declared.answers.Status.{Status}
use Rattle.dc_base.specs.declared.answers.Status.TheVariants as status
use Rattle.dc_outside.specs.Octets.{AppendsFront}
use Rattle.node_rules.specs.Choices.{Choices}
use Rattle.made_scripts.specs.declared.forms.MadeForm.{MadeForm}
use Rattle.made_scripts.specs.declared.forms.Purpose.{Purpose}
use Rattle.made_scripts.specs.declared.forms.Purpose.TheVariants.{Make, Soak}
use Rattle.made_runs.specs.Made.{IsMakeable, IsSummable, made_summary, made_text}

-- for this purpose, of a seed and a number of turns: the script, or what its run comes to
abbrev pub made_for : Purpose → Choices → ℕ → ℕ → List ℕ
made_for Make c seed turns = made_text c seed turns
made_for Soak c seed turns = made_summary c seed turns

-- what a form writes
abbrev pub made_of : Choices → MadeForm → List ℕ
made_of c f = made_for f.purpose c f.seed f.turns

-- for this purpose no limit is passed
abbrev pub IsLimitedFor : Purpose → Choices → ℕ → ℕ → Type 0
IsLimitedFor Make c seed turns = IsMakeable c seed turns
IsLimitedFor Soak c seed turns = IsSummable c seed turns

-- no limit is passed
abbrev pub IsLimited : Choices → MadeForm → Type 0
IsLimited c f = IsLimitedFor f.purpose c f.seed f.turns

-- what is said of the octets put out before and after a form that ended so
abbrev pub HasMade : Choices → MadeForm → Status → Option (List ℕ) → Option (List ℕ) → Type 0
HasMade c f status.Ok old new = IsLimited c f × Appends old new (made_of c f)
HasMade c f status.WriteFault old new = IsLimited c f × AppendsFront old new (made_of c f)
HasMade c f status.TooLong old new = (IsLimited c f → ⊥) × Appends old new []
HasMade c f status.Memory old new = Appends old new []
HasMade c f _ old new = ⊥
