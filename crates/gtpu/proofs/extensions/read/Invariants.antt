use Rattle.std.proofs.Common.{◌<◌, ◌≤◌, ◌+◌, length, drop}
use Rattle.std.specs.Option.{option_copied}
use Rattle.gtpu.specs.Extension.{AreExtensions}
use Rattle.gtpu.proofs.extensions.read.Given as goal

-- what was read so far, and that a next type is there
abbrev pub invariant-loop-rest : goal.invariant-loop-rest
invariant-loop-rest l =
    record {
      before : AreExtensions (drop 11 l.input) (option_copied l.known.container) l.known.number l.rest;
      more : 0 < length l.rest;
      within : length l.rest + 11 ≤ length l.input;
    }

abbrev pub decreases-loop-rest : goal.decreases-loop-rest
decreases-loop-rest l = length l.rest
