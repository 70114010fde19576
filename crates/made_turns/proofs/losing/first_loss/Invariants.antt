use Rattle.std.proofs.Common.{◌≡◌, drop}
use Rattle.made_scripts.specs.Turns.{first_loss}
use Rattle.made_turns.proofs.losing.first_loss.Given as goal

abbrev pub invariant-loop-link : goal.invariant-loop-link
invariant-loop-link l = first_loss l.network.links l.links ≡ first_loss l.network.links (drop l.link-index l.links)
