-- Lines that say what the terminal has of a bearer, or what became of a secondary node.
use Rattle.std.specs.Prelude.{Bool, false, true}
use Rattle.dc_base.specs.declared.events.Line.{Line}
use Rattle.dc_base.specs.declared.events.Line.TheVariants as line
use Rattle.dc_base.specs.declared.events.Note.TheVariants as note

-- the terminal took a bearer in a generation, or dropped it
abbrev pub is_terminal_note_line : Line → Bool
is_terminal_note_line (line.Note (note.Set id g)) = true
is_terminal_note_line (line.Note (note.Unset id)) = true
is_terminal_note_line _ = false

-- a secondary node joined or left, or what it asked for was confirmed or refused
abbrev pub is_second_note_line : Line → Bool
is_second_note_line (line.Note (note.Join x g)) = true
is_second_note_line (line.Note (note.Leave x g)) = true
is_second_note_line (line.Note (note.Confirmed x)) = true
is_second_note_line (line.Note (note.Refused x w)) = true
is_second_note_line _ = false
