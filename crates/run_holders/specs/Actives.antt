-- Which anchors of one node are active, and what the lines of an event say of them.
use Rattle.std.specs.List.{list_any}
use Rattle.std.specs.Option.{option_map}
use Rattle.std.specs.Prelude.{Bool, List, None, Option, Some, [], false, if◌then◌else◌, is_some, true, ⊤, ℕ, ◌==◌, ◌≡◌, ◌∷◌, ◌⊎◌}
use Rattle.dc_base.specs.declared.events.Line.{Line}
use Rattle.dc_base.specs.declared.events.Line.TheVariants as line
use Rattle.dc_base.specs.declared.events.Note.{Note}
use Rattle.dc_base.specs.declared.events.Note.TheVariants as note
use Rattle.dc_base.specs.declared.nodes.Dir.TheVariants.{Ul}
use Rattle.dc_base.specs.declared.nodes.Node.{Node}
use Rattle.node_rules.specs.Anchor.{AnchorState, active_anchor, waiting_anchor}
use Rattle.node_rules.specs.Feed.{Fed}
use Rattle.node_rules.specs.Held.{held}
use Rattle.node_rules.specs.Master.{MasterNode}
use Rattle.node_rules.specs.Secondary.{SecondNode}

-- by identities, the generations in which anchors of a node are active
abbrev pub Actives : Type 0
Actives = ℕ → Option ℕ

-- the generation of an active anchor
abbrev pub active_of : Option AnchorState → Option ℕ
active_of None = None
active_of (Some (waiting_anchor w)) = None
active_of (Some (active_anchor a)) = Some a.entity.setup.g

-- those of the master
abbrev pub master_actives : MasterNode → Actives
master_actives m id = active_of (held id m.anchors)

-- those of a secondary node
abbrev pub second_actives : SecondNode → Actives
second_actives s id = active_of (option_map (λ (x : Fed). x.anchor) (held id s.anchors))

-- another one for an identity
abbrev pub with_active : ℕ → Option ℕ → Actives → Actives
with_active id o a k = if id == k then o else a k

-- a note changes them
abbrev pub note_actives : Actives → Note → Actives
note_actives a (note.Own x id g) = with_active id (Some g) a
note_actives a (note.Give x id g) = with_active id None a
note_actives a _ = a

-- a note of a node fits them: `own` and `give` are of the node itself, and an anchor that gives or hands up is active
abbrev pub NoteFits : Node → Actives → Note → Type 0
NoteFits x a (note.Own y id g) = y ≡ x
NoteFits x a (note.Give y id g) = (y ≡ x) × (is_some (a id) ≡ true)
NoteFits x a (note.Up y id Ul count sdu) = (y ≡ x) × (is_some (a id) ≡ true)
NoteFits x a _ = ⊤

-- so does each of several notes, one after another
abbrev pub NotesFit : Node → Actives → List Note → Type 0
NotesFit x a [] = ⊤
NotesFit x a (n ∷ ns) = NoteFits x a n × NotesFit x (note_actives a n) ns

-- the note is of an anchor: it is active from now on, it was frozen, or it handed up
abbrev pub is_of_anchor : Note → Bool
is_of_anchor (note.Own x id g) = true
is_of_anchor (note.Give x id g) = true
is_of_anchor (note.Up x id d count sdu) = true
is_of_anchor _ = false

-- the note says that an anchor was frozen
abbrev pub is_give : Note → Bool
is_give (note.Give x id g) = true
is_give _ = false

-- the note says that an uplink payload was handed up
abbrev pub is_handing : Note → Bool
is_handing (note.Up x id Ul count sdu) = true
is_handing _ = false

-- no note says the one, or none says the other
abbrev pub GiveOrHand : List Note → Type 0
GiveOrHand ns = (list_any is_give ns ≡ false) ⊎ (list_any is_handing ns ≡ false)

-- a line changes them as its note does
abbrev pub line_actives : Actives → Line → Actives
line_actives a (line.Note n) = note_actives a n
line_actives a _ = a

-- and fits them as its note does
abbrev pub LineFits : Node → Actives → Line → Type 0
LineFits x a (line.Note n) = NoteFits x a n
LineFits x a _ = ⊤

-- so does each of several lines, one after another
abbrev pub LinesFit : Node → Actives → List Line → Type 0
LinesFit x a [] = ⊤
LinesFit x a (l ∷ ls) = LineFits x a l × LinesFit x (line_actives a l) ls

-- whatever is active by the one is active so by the other
abbrev pub Within : Actives → Actives → Type 0
Within a b = (k g : ℕ) → a k ≡ Some g → b k ≡ Some g
