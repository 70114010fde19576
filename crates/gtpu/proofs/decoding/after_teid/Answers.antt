use Rattle.std.proofs.Common.{arith}
use Rattle.std.proofs.lemmas.Result.{MatchResult-weaker}
use Rattle.gtpu.proofs.Places.{sequenced_at, extended_at}
use Rattle.gtpu.proofs.decoding.after_teid.Goals as goal

pub returns-in-1-to-3 : goal.returns-in-1-to-3
returns-in-1-to-3 c = sequenced_at c.args.flags c.args.input.now (omega arith) (omega arith) (c.requires.numbers (omega arith))

pub returns-in_default : goal.returns-in_default
returns-in_default c =
    MatchResult-weaker c.read.result c.read.ensures
    (λ x are. extended_at c.args.flags c.args.input.now _ _ _ (omega arith) (c.requires.numbers (omega arith)) are)
    (λ e fault. (omega arith, fault))
