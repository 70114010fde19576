-- When a line by which an anchor becomes active suits the past before the lines of its event.
use Rattle.std.specs.Prelude.{Bool, None, Some, false, true, ⊤, ℕ, ◌≡◌, ◌≤◌}
use Rattle.dc_base.specs.Nodes.{is_same_node}
use Rattle.dc_base.specs.declared.events.Line.{Line}
use Rattle.dc_base.specs.declared.events.Line.TheVariants as line
use Rattle.dc_base.specs.declared.events.Note.TheVariants as note
use Rattle.dc_base.specs.declared.nodes.Node.{Node}
use Rattle.node_rules.specs.World.{World}
use Rattle.claims.specs.Past.{Past}
use Rattle.claims.specs.Reading.{Setting, setting}
use Rattle.run_holders.specs.Holdings.{Holding, holdings, latest_in}
use Rattle.run_holders.specs.Suited.{actives_at}

-- the plan of a generation sets an identity, whose latest establishment is no later
pub record SetsLatest (p : Past) (id g : ℕ) : Type 0 where
  pub set : Setting
  pub in_plan : setting p id g ≡ Some set
  pub holding : Holding
  pub latest : latest_in id (holdings p) ≡ Some holding
  pub upto : holding.g ≤ g

-- an anchor that becomes active is of such a generation, and no other node has an active one of the bearer
abbrev pub OwnsWell : Past → World → Node → Line → Type 0
OwnsWell p w x (line.Note (note.Own y id g)) = SetsLatest p id g × ((z : Node) → is_same_node x z ≡ false → actives_at z w id ≡ None)
OwnsWell p w x _ = ⊤

-- the line begins a command
abbrev pub is_begin_line : Line → Bool
is_begin_line (line.Note (note.Begin w)) = true
is_begin_line _ = false
