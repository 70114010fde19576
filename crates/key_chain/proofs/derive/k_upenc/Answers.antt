use Rattle.std.proofs.Common.{◌∙◌}
use Rattle.key_chain.proofs.Halves.{second_half}
use Rattle.key_chain.proofs.derive.k_upenc.Goals as goal

pub returns : goal.returns
returns c = c.copy_from_slice.ensures.after ∙ second_half _ c.args.key.now _ c.args.alg c.identity.ensures c.hmac-derived.ensures
