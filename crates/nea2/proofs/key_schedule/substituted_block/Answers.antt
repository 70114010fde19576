use Rattle.std.proofs.Common.{◌∙◌, ap, arith}
use Rattle.nea2.specs.Cipher.{substitution}
use Rattle.nea2.proofs.key_schedule.substituted_block.Goals as goal

pub returns : goal.returns
returns c j lane =
    c.blocks-out.ensures.octets j 0 lane (omega arith)
    ∙ c.sub_bytes.ensures.octets j 0 lane (omega arith)
    ∙ ap substitution (c.copies.ensures.octets j 0 lane (omega arith))
