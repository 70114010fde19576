-- The lines of which holders are claimed.
use Rattle.std.specs.Prelude.{Bool, false, true, ⊤, ◌≡◌}
use Rattle.dc_base.specs.declared.events.Line.{Line}
use Rattle.dc_base.specs.declared.events.Line.TheVariants as line
use Rattle.dc_base.specs.declared.events.Note.TheVariants as note
use Rattle.dc_base.specs.declared.nodes.Dir.TheVariants.{Ul}
use Rattle.run_holders.specs.Actives.{is_of_anchor}

-- an anchor becomes active
abbrev pub is_own_line : Line → Bool
is_own_line (line.Note (note.Own x id g)) = true
is_own_line _ = false

-- one is frozen
abbrev pub is_give_line : Line → Bool
is_give_line (line.Note (note.Give x id g)) = true
is_give_line _ = false

-- an uplink payload is handed up
abbrev pub is_handing_line : Line → Bool
is_handing_line (line.Note (note.Up x id Ul count sdu)) = true
is_handing_line _ = false

-- a flight is sent
abbrev pub is_sending_line : Line → Bool
is_sending_line (line.Send l f) = true
is_sending_line _ = false

-- a line says nothing of an anchor
abbrev pub IsQuiet : Line → Type 0
IsQuiet (line.Note n) = is_of_anchor n ≡ false
IsQuiet _ = ⊤
