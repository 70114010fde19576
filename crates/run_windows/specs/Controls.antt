-- The notes of an outcome that decide how downlink submissions are answered, by their places among the lines of an event.
use Rattle.std.specs.Prelude.{◌||◌, ◌==◌, ℕ, Bool, List, filter}
use Rattle.dc_base.specs.declared.events.Note.{Note}
use Rattle.node_rules.specs.Lines.{place}

-- the notes of a place
abbrev pub notes_in_place : ℕ → List Note → List Note
notes_in_place k ns = filter (λ x. place x == k) ns

-- a command begins or ends
abbrev pub is_control : Note → Bool
is_control x = (place x == 0) || (place x == 6)

-- the notes by which commands begin and end
abbrev pub controls : List Note → List Note
controls ns = filter is_control ns

-- windows begin further on
abbrev pub freeds : List Note → List Note
freeds ns = notes_in_place 4 ns
