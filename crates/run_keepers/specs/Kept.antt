-- Whose anchors are active, by what the past says of who holds each bearer.
use Rattle.std.specs.Prelude.{List, Some, [], fold, ⊤, ℕ, ◌≡◌, ◌∷◌}
use Rattle.dc_base.specs.declared.events.Event.{Event}
use Rattle.dc_base.specs.declared.events.Line.{Line}
use Rattle.dc_base.specs.declared.events.Line.TheVariants as line
use Rattle.dc_base.specs.declared.events.Note.TheVariants as note
use Rattle.dc_base.specs.declared.nodes.Node.{Node}
use Rattle.node_rules.specs.Lines.{lines_of}
use Rattle.node_rules.specs.World.{World}
use Rattle.node_rules.specs.declared.inputs.Outcome.{Outcome}
use Rattle.claims.specs.Judged.{judged}
use Rattle.claims.specs.Noted.{noted}
use Rattle.claims.specs.Past.{Past}
use Rattle.run_holders.specs.Actives.{Actives, LinesFit, line_actives}
use Rattle.run_holders.specs.Fitting.{IsOfLatest}
use Rattle.run_holders.specs.Suited.{actives_at}
use Rattle.run_holders.specs.Holdings.{holder_in, holdings}

-- of each bearer that the node holds by the past it has an active anchor, in that generation
abbrev pub KeepsAll : Past → Node → Actives → Type 0
KeepsAll p x a = (k g : ℕ) → holder_in k (holdings p) ≡ Some (x, g) → a k ≡ Some g

-- an anchor that becomes active is of the latest establishment of its bearer
abbrev pub OwnsLatest : Past → Line → Type 0
OwnsLatest p (line.Note (note.Own x id g)) = IsOfLatest p id g
OwnsLatest p _ = ⊤

-- so each of several lines, one after another
abbrev pub AllOwnLatest : Past → List Line → Type 0
AllOwnLatest p [] = ⊤
AllOwnLatest p (x ∷ xs) = OwnsLatest p x × AllOwnLatest (noted p x) xs

-- each node keeps so what it holds by the past
abbrev pub AllKeep : Past → World → Type 0
AllKeep p w = (x : Node) → KeepsAll p x (actives_at x w)

-- a step of a node with its outcome: its lines fit its active anchors, each that becomes active is of the latest establishment, and what is
-- active by the lines and held by the past after them is active after the step
pub record IsLasting (p : Past) (w : World) (e : Event) (x : Node) (o : Outcome) (now : World) : Type 0 where
  pub fit : LinesFit x (actives_at x w) (lines_of o)
  pub own : AllOwnLatest (judged e o.answer p) (lines_of o)
  pub lasts : (k g : ℕ) → fold line_actives (actives_at x w) (lines_of o) k ≡ Some g → holder_in k (holdings (fold noted (judged e o.answer p) (lines_of o))) ≡ Some (x, g) → actives_at x now k ≡ Some g
