-- What the submitters are told, and their windows (TS 38.323, 5.2.1).
use Rattle.std.specs.List.{list_all}
use Rattle.std.specs.Prelude.{Bool, Option, nat_le, nat_lt, true, ℕ, ◌&&◌, ◌+◌, ◌==◌, ◌||◌}
use Rattle.dc_base.specs.Count.{window}
use Rattle.dc_base.specs.Nodes.{is_same_node}
use Rattle.dc_base.specs.declared.events.Line.{Line}
use Rattle.dc_base.specs.declared.events.Line.TheVariants as line
use Rattle.dc_base.specs.declared.events.Note.TheVariants as note
use Rattle.dc_base.specs.declared.flights.Flight.TheVariants as flight
use Rattle.dc_base.specs.declared.nodes.Dir.{Dir}
use Rattle.dc_base.specs.declared.nodes.Dir.TheVariants.{Dl, Ul}
use Rattle.dc_base.specs.declared.nodes.Node.{Node}
use Rattle.dc_base.specs.declared.nodes.Node.TheVariants.{M}
use Rattle.claims.specs.Sameness.{is_none_or, is_some_and}
use Rattle.claims.specs.Past.{Bearer, Past}
use Rattle.claims.specs.Reading.{bearer_of, deliv, holds, lane, latest, low, next_count}

-- Told is this COUNT, and past the last `freed`
abbrev pub frees : Dir → ℕ → Option Bearer → Bool
frees d c b = is_some_and (λ x. (c == (lane d x).told) && nat_lt (lane d x).freed c) b

-- Low of the holder is this COUNT, and past what it told last
abbrev pub tells_rise : Node → ℕ → ℕ → Option Bearer → Bool
tells_rise x g c b = is_some_and (λ y. holds x g y.holder && (c == low Dl y) && nat_lt y.tells c) b

-- `freed` comes where Told rose, and a `told` where Low rose at a secondary as holder
abbrev pub is_told : Past → Line → Bool
is_told p (line.Note (note.Freed id d c)) = frees d c (latest p id)
is_told p (line.Send l (flight.Told id g c)) = tells_rise l.from g c (bearer_of p id g)
is_told p _ = true

-- a secondary as holder has told its Low
abbrev pub has_told : Bearer → Bool
has_told b = is_none_or (λ h. is_same_node h.0 M || (b.tells == low Dl b)) b.holder

-- nothing is left to tell of a bearer
abbrev pub bearer_is_told : Bearer → Bool
bearer_is_told b = (b.up.freed == b.up.told) && (b.down.freed == b.down.told) && has_told b

-- nor of any, after an event
abbrev pub all_told : Past → Bool
all_told p = list_all bearer_is_told p.bearers

-- Told is at most what was handed up, that at most what was submitted, and that at most a window past Told
abbrev pub is_in_window : Dir → Bearer → Bool
is_in_window d b = nat_le (lane d b).told (deliv d b) && nat_le (deliv d b) (next_count d b) && nat_le (next_count d b) ((lane d b).told + window b.n)

-- of every bearer, in both directions
abbrev pub all_in_window : Past → Bool
all_in_window p = list_all (λ b. is_in_window Ul b && is_in_window Dl b) p.bearers
