use Rattle.gtpu.proofs.Headers.{extends}
use Rattle.gtpu.proofs.extensions.step.Goals as goal

pub returns : goal.returns
returns c = extends _ _ _ _ _ _ _ _ c.requires.some c.requires.understood c.in_ok-content.ensures c.in_ok-known.ensures
