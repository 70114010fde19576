use Rattle.std.proofs.Common.{arith}
use Rattle.script_text.proofs.Ranges.{too_many_octets}
use Rattle.script_text.proofs.field_reader.payload_of.Goals as goal

pub returns-else-len-le-MAX_PAYLOAD-clause-none : goal.returns-else-len-le-MAX_PAYLOAD-clause-none
returns-else-len-le-MAX_PAYLOAD-clause-none c =
    let found = rw c.in-Some.is at c.in_ok-octets.ensures.some in
    too_many_octets c.args.field.now _ (omega arith) found.0
