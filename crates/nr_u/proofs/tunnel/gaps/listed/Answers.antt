use Rattle.std.proofs.Common.{sym, ◌∙◌}
use Rattle.nr_u.proofs.Gaps.{listed_next, listed_len, listed_full, listed_all}
use Rattle.nr_u.proofs.tunnel.gaps.listed.Goals as goal

pub loop-to-preserved : goal.loop-to-preserved
loop-to-preserved c =
    (listed_next _ _ _ _ _ (c.in-Some.to.now, c.in-Some.from.now) c.loop-to.invariant.0 c.in-Some.ensures.steps c.in_ok-push.ensures.ok, listed_len _ _ _ 168 _ c.in_ok-push.ensures.ok c.loop-to.invariant.1 c.len.ensures c.if-len-eq-LISTED.false)

pub returns-then-len-eq-LISTED : goal.returns-then-len-eq-LISTED
returns-then-len-eq-LISTED c =
    listed_full 168 _ _ c.args.gaps.now.entries c.loop-to.invariant.0 (sym c.len.ensures ∙ c.if-len-eq-LISTED.true)

pub returns : goal.returns
returns c = listed_all 168 _ _ c.args.gaps.now.entries c.loop-to.invariant.0 c.in-None.ensures.steps.0 c.loop-to.invariant.1
