-- Parts of a claim: what it says of some events, or of some lines, alone.
use Rattle.std.specs.Prelude.{Bool, true, false, if◌then◌else◌}
use Rattle.dc_base.specs.declared.events.Event.{Event}
use Rattle.dc_base.specs.declared.events.Event.TheVariants as event
use Rattle.dc_base.specs.declared.events.Line.{Line}
use Rattle.claims.specs.Claim.{Claim, of_entries, of_lines}

-- what a claim says of the entries of these events
abbrev pub at_events : (Event → Bool) → Claim → Claim
at_events these k = of_entries (λ p x q. if these x.event then k.of_entry p x q else true)

-- what a claim says of these lines
abbrev pub at_lines : (Line → Bool) → Claim → Claim
at_lines these k = of_lines (λ p x. if these x then k.of_line p x else true)

-- a flight of a tunnel is lost, or repeated
abbrev pub is_loss_or_copy : Event → Bool
is_loss_or_copy (event.Lose l i) = true
is_loss_or_copy (event.Again l i) = true
is_loss_or_copy _ = false
