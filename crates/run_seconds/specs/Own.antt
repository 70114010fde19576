-- What a secondary node notes of itself.
use Rattle.std.specs.Prelude.{List, None, ◌∷◌, [], false, true, ⊤, ◌≡◌}
use Rattle.dc_base.specs.declared.events.Note.{Note}
use Rattle.dc_base.specs.declared.events.Note.TheVariants as note
use Rattle.dc_base.specs.declared.nodes.Node.{Node}
use Rattle.node_rules.specs.Lines.{is_end}
use Rattle.node_rules.specs.declared.acts.Act.{Act}
use Rattle.node_rules.specs.declared.acts.Act.TheVariants as act
use Rattle.run_seconds.specs.Sides.{Side, joining, wanting}

-- what it notes does this to what is said of it
abbrev pub own : Side → Note → Side
own s (note.Join x g) = joining true s
own s (note.Leave x g) = joining false s
own s (note.Confirmed x) = wanting None s
own s (note.Refused x w) = wanting None s
own s _ = s

-- the note is of this node, if it says who joins or leaves, or which request is answered
abbrev pub IsBy : Node → Note → Type 0
IsBy me (note.Join x g) = x ≡ me
IsBy me (note.Leave x g) = x ≡ me
IsBy me (note.Confirmed x) = x ≡ me
IsBy me (note.Refused x w) = x ≡ me
IsBy me _ = ⊤

-- and ends no command
abbrev pub IsOwn : Node → Note → Type 0
IsOwn me n = (is_end n ≡ false) × IsBy me n

-- what the procedures have the node say
abbrev pub said : List Act → List Note
said [] = []
said (act.Say n ∷ acts) = n ∷ said acts
said (a ∷ acts) = said acts
