use Rattle.std.proofs.Common.{ap, sym}
use Rattle.std.specs.Result.{result_ok}
use Rattle.nr_u.proofs.Shown.{frame_decodes}
use Rattle.forward.proofs.load.frame_in.Goals as goal

pub returns-in-Ok-clause-read : goal.returns-in-Ok-clause-read
returns-in-Ok-clause-read c = ap result_ok (sym (frame_decodes c.args.octets.now c.in-Ok.frame c.in-Ok.ensures.frame))
