use Rattle.std.proofs.Common.{sym, ap, ◌∙◌, arith}
use Rattle.nea2.specs.Cipher.{cipher}
use Rattle.nea2.proofs.Blocks.{block_of-octets}
use Rattle.nea2.proofs.cipher.Aes128.enciphered_block.Goals as goal

pub returns : goal.returns
returns c =
    let whole = block_of-octets c.copies.result 0 c.args.block.now c.told-block (λ j lane. sym (c.copies.ensures.octets j 0 lane (omega arith))) in
    let out = block_of-octets c.enciphered.result 0 _ (c.blocks-out.ensures.full 0 (omega arith)) (λ j lane. c.blocks-out.ensures.octets j 0 lane (omega arith)) in
    out ∙ c.enciphered.ensures.each_block 0 (omega arith) ∙ ap (cipher c.args.self.now) (sym whole)
