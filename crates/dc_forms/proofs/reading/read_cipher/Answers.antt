use Rattle.std.proofs.Common.{rules}
use Rattle.dc_forms.proofs.Wording.{no_key, long_text}
use Rattle.dc_forms.proofs.reading.read_cipher.Goals as goal

pub returns-then-len-ne16 : goal.returns-then-len-ne16
returns-then-len-ne16 c =
    let read = rw c.in-Some.is at c.in_ok-octets.ensures.some in
    no_key _ _ _ _ _ c.in-Some.octets read.0 (search rules)

pub returns-then-len-gt9000 : goal.returns-then-len-gt9000
returns-then-len-gt9000 c =
    let read = rw c.in-Some-2.is at c.in_ok-text.ensures.some in
    long_text _ _ _ _ _ c.in-Some-2.text read.0 (search rules)
