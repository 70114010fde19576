use Rattle.std.proofs.Common.{length, sym}
use Rattle.nea2.proofs.CombinedLaws.{combined-combined, length-combined}
use Rattle.nea2.proofs.KeystreamLaws.{combined-keystream_none}
use Rattle.nea2.proofs.stream.nea.Goals as goal

pub returns-in-Nea0 : goal.returns-in-Nea0
returns-in-Nea0 c =
    let same = combined-keystream_none c.args.text.now c.args.key.now c.args.count c.args.id c.args.dir (length c.args.text.now) in
    rw c.in-Nea0.is (record { enciphered = sym same; deciphered = same })

pub returns-in-Nea2-clause-deciphered : goal.returns-in-Nea2-clause-deciphered
returns-in-Nea2-clause-deciphered c =
    rw (c.in-Nea2.is, c.encipher.ensures, length-combined) (combined-combined _ _)
