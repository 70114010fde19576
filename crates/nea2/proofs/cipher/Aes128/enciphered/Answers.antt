use Rattle.nea2.specs.RoundKeys.{key_of}
use Rattle.nea2.proofs.cipher.Aes128.enciphered.Goals as goal

pub returns-clause-each_block : goal.returns-clause-each_block
returns-clause-each_block c k low =
    let held = c.enciphered.ensures.each_block (key_of c.self.inside.round_keys) k c.self.invariant.1 low in
    let view = c.self.view_is in
    cc
