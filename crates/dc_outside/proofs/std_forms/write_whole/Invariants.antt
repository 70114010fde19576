use Rattle.std.proofs.Common.{◌≡◌, ℕ, drop, length, take}
use Rattle.std.specs.Io.KnownBytes.{Appends}
use Rattle.dc_outside.proofs.std_forms.write_whole.Given as goal

-- the writer has the front that `rest` leaves out
abbrev pub invariant-loop-rest : goal.invariant-loop-rest
invariant-loop-rest g l = (n : ℕ) × (l.rest ≡ drop n l.bytes)
    × Appends (g.W.Write.contents l.initial.writer) (g.W.Write.contents l.writer) (take n l.bytes)

abbrev pub decreases-loop-rest : goal.decreases-loop-rest
decreases-loop-rest g l = length l.rest
