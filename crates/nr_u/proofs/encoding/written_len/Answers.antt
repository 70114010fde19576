use Rattle.std.proofs.Common.{arith}
use Rattle.nr_u.proofs.Written.{written_length, bare_small}
use Rattle.nr_u.proofs.encoding.written_len.Goals as goal

pub returns : goal.returns
returns c = written_length c.args.f.now _ c.bare_len-bare.ensures

pub overflow_add-result : goal.overflow_add-result
overflow_add-result c = omega (arith, c.bare_len-bare.ensures, bare_small c.args.f.now c.requires)
