use Rattle.std.proofs.Common.{◌≡◌}
use Rattle.key_chain.proofs.Masking.{masked_below}
use Rattle.key_chain.proofs.mac.xored.Given as goal

abbrev pub invariant-loop-octet : goal.invariant-loop-octet
invariant-loop-octet l = l.octet-items ≡ masked_below l.fn.pad l.fn.block l.octet-index
