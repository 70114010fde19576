use Rattle.key_chain.proofs.Masking.{written_key}
use Rattle.key_chain.proofs.mac.padded.Goals as goal

pub returns : goal.returns
returns c = written_key _ _ c.copy_from_slice.ensures.after
