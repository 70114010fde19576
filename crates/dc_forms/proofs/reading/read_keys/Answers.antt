use Rattle.std.proofs.Common.{rules}
use Rattle.dc_forms.proofs.Wording.{no_root}
use Rattle.dc_forms.proofs.reading.read_keys.Goals as goal

pub returns-then-len-ne32 : goal.returns-then-len-ne32
returns-then-len-ne32 c =
    let read = rw c.in-Some.is at c.in_ok-octets.ensures.some in
    no_root _ _ c.in-Some.octets read.0 (search rules)
