use Rattle.std.proofs.Common.{◌≡◌, [], replicate}
use Rattle.dc_network.proofs.links.LinkSet.new.Given as goal

abbrev pub invariant-loop-place : goal.invariant-loop-place
invariant-loop-place l = l.links.items ≡ replicate l._place []
