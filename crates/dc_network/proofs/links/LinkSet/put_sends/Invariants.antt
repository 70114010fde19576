use Rattle.std.proofs.Common.{◌≡◌, take}
use Rattle.std.specs.Prelude.{fold}
use Rattle.transcript.specs.Transcript.{sends}
use Rattle.node_rules.specs.World.{with_send}
use Rattle.dc_network.proofs.links.LinkSet.put_sends.Given as goal

abbrev pub invariant-loop-line : goal.invariant-loop-line
invariant-loop-line l = l.self ≡ fold with_send l.initial.self (sends (take l.line-index l.lines))
