use Rattle.std.proofs.Common.{arith}
use Rattle.key_chain.proofs.Masking.{masked_more}
use Rattle.key_chain.proofs.mac.xored.Goals as goal

pub loop-octet-preserved : goal.loop-octet-preserved
loop-octet-preserved c = masked_more c.args.pad c.args.block.now c.loop-octet.octet-items c.loop-octet.octet-index (omega arith) c.loop-octet.invariant
