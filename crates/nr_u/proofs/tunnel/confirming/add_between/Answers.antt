use Rattle.std.proofs.Common.{leb, rules, ◌∙◌}
use Rattle.std.proofs.lemmas.Bool.{le-leb, lt-leb}
use Rattle.nr_u.proofs.Confirming.{front_starts, front_next, front_stops}
use Rattle.nr_u.proofs.tunnel.confirming.add_between.Goals as goal

pub loop-number-init : goal.loop-number-init
loop-number-init c =
    front_starts c.args.from c.args.end _ c.args.highest c.args.waiting.now.entries _ _ c.args.found.now.items c.max.ensures (c.range-number-items.ensures.between tt) c.into_iter-number-iterator.ensures.into_iter_gives

pub loop-number-preserved : goal.loop-number-preserved
loop-number-preserved c =
    front_next (λ e. leb e.1 c.args.highest) _ _ _ _ _ (c.in-Some.number.now, c.in-Some.count.now) c.loop-number.invariant c.in-Some.ensures.steps (le-leb _ _ c.if-count-highest.false) (search rules)

pub returns-then-count-highest-clause-added : goal.returns-then-count-highest-clause-added
returns-then-count-highest-clause-added c =
    front_stops (λ e. leb e.1 c.args.highest) _ _ _ _ (c.in-Some.number.now, c.in-Some.count.now) c.loop-number.invariant c.in-Some.ensures.steps (lt-leb _ _ c.if-count-highest.true)
