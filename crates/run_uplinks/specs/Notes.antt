-- Which notes change what is seen.
use Rattle.std.specs.Prelude.{Bool, false, true, ◌||◌}
use Rattle.dc_base.specs.declared.events.Note.{Note}
use Rattle.dc_base.specs.declared.events.Note.TheVariants as note
use Rattle.dc_base.specs.declared.nodes.Dir.TheVariants.{Ul}
use Rattle.node_rules.specs.Lines.{is_end}

-- the note says what the terminal has of a bearer, or that its uplink window moved
abbrev pub changes : Note → Bool
changes (note.Set id g) = true
changes (note.Unset id) = true
changes (note.Freed id Ul count) = true
changes _ = false

-- a secondary node says of itself that it joined or left, or that its request was answered
abbrev pub is_of_second : Note → Bool
is_of_second (note.Join x g) = true
is_of_second (note.Leave x g) = true
is_of_second (note.Confirmed x) = true
is_of_second (note.Refused x w) = true
is_of_second _ = false

-- the note is of the procedures of a node: one of these, or that a command ended
abbrev pub is_procedural : Note → Bool
is_procedural n = is_of_second n || is_end n
