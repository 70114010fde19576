-- When the lines of an event fit what the past says of who holds each bearer.
use Rattle.std.specs.Prelude.{List, None, Some, [], ⊤, ℕ, ◌≡◌, ◌∷◌}
use Rattle.dc_base.specs.declared.events.Line.{Line}
use Rattle.dc_base.specs.declared.events.Line.TheVariants as line
use Rattle.dc_base.specs.declared.events.Note.TheVariants as note
use Rattle.dc_base.specs.declared.flights.Flight.TheVariants as flight
use Rattle.dc_base.specs.declared.nodes.Node.{Node}
use Rattle.dc_base.specs.declared.records.Plan.{Plan}
use Rattle.dc_base.specs.declared.records.Rec.TheVariants as rec
use Rattle.claims.specs.Noted.{noted}
use Rattle.claims.specs.Past.{Past}
use Rattle.claims.specs.Reading.{plan, setting, unsets}
use Rattle.std.specs.List.{list_any}
use Rattle.run_holders.specs.Actives.{Actives, line_actives}
use Rattle.run_holders.specs.Holdings.{Holding, holdings, latest_in, named_in}
use Rattle.std.specs.Prelude.{true}

-- no two identities have establishments of one name
abbrev pub AreDistinct : List Holding → Type 0
AreDistinct hs = (id k : ℕ) (h u : Holding) → latest_in id hs ≡ Some h → latest_in k hs ≡ Some u → h.g ≡ u.g → id ≡ k

-- the plan of a generation sets the latest establishment of an identity
pub record IsOfLatest (p : Past) (id g : ℕ) : Type 0 where
  pub holding : Holding
  pub named : named_in id g (setting p id g) (holdings p) ≡ Some holding
  pub latest : latest_in id (holdings p) ≡ Some holding
  pub distinct : AreDistinct (holdings p)

-- the plan that was drawn with a generation drops the identity
abbrev pub IsDroppedBy : Past → ℕ → ℕ → Type 0
IsDroppedBy p g id = (q : Plan) × (plan p g ≡ Some q) × (list_any (unsets id) q.items ≡ true)

-- an anchor becomes active in a generation whose plan sets the latest establishment; a plan that is carried out drops no bearer whose
-- anchor is active
abbrev pub Suits : Past → Actives → Line → Type 0
Suits p a (line.Note (note.Own x id g)) = IsOfLatest p id g
Suits p a (line.Send l (flight.Ctl (rec.Reconf q key))) = (id : ℕ) → IsDroppedBy p q.g id → a id ≡ None
Suits p a _ = ⊤

-- each of several lines, one after another
abbrev pub AllSuit : Past → Actives → List Line → Type 0
AllSuit p a [] = ⊤
AllSuit p a (x ∷ xs) = Suits p a x × AllSuit (noted p x) (line_actives a x) xs

-- no line says that another node has an active anchor of a bearer of which these are active
abbrev pub IsApart : Actives → Line → Type 0
IsApart b (line.Note (note.Own x id g)) = b id ≡ None
IsApart b _ = ⊤

-- by the past a node holds each bearer of which it has an active anchor
abbrev pub HoldsAll : Past → Node → Actives → Type 0
HoldsAll p x a = (k g : ℕ) → a k ≡ Some g → (h : Holding) × (latest_in k (holdings p) ≡ Some h) × (h.holder ≡ Some (x, g))
