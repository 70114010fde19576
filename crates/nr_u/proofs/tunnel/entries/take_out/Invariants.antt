use Rattle.std.proofs.Common.{◌≡◌, take}
use Rattle.nr_u.specs.Tunnel.Waiting.{taken_out}
use Rattle.nr_u.proofs.tunnel.entries.take_out.Given as goal

abbrev pub invariant-loop-entry : goal.invariant-loop-entry
invariant-loop-entry l = l.map.entries ≡ taken_out l.fn.map.entries (take l.entry-index l.entries)
