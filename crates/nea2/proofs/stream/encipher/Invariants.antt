use Rattle.std.proofs.Common.{◌≡◌, ◌+◌, ◌*◌}
use Rattle.nea2.specs.Combined.{combined}
use Rattle.nea2.specs.Keystream.{stream_blocks}
use Rattle.nea2.proofs.stream.encipher.Given as goal

abbrev pub invariant-batches : goal.invariant-batches
invariant-batches l = l.text ≡ combined l.fn.text (stream_blocks l.key l.count l.id l.dir (8 * l.batch))

abbrev pub invariant-parts : goal.invariant-parts
invariant-parts l = l.text ≡ combined l.fn.text (stream_blocks l.key l.count l.id l.dir (8 * l.batch + l.k))
