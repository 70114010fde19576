use Rattle.std.proofs.Common.{◌∙◌, refl}
use Rattle.nr_u.proofs.Settled.{last-push, entries_below-filter}
use Rattle.nr_u.proofs.tunnel.inbound.last_below.Goals as goal

pub returns-in-Some : goal.returns-in-Some
returns-in-Some c =
    let between = c.range.ensures.between tt ∙ entries_below-filter c.args.limit c.args.firsts.now.entries in
    rw (← between, c.in-Some.ensures.steps, last-push) refl

pub returns-in-None : goal.returns-in-None
returns-in-None c =
    let between = c.range.ensures.between tt ∙ entries_below-filter c.args.limit c.args.firsts.now.entries in
    rw (← between, c.in-None.ensures.steps.0) refl
