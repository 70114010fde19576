use Rattle.std.proofs.Common.{refl}
use Rattle.dc_base.specs.declared.nodes.Node.TheVariants as at
use Rattle.node_rules.specs.Choices.{by_policies}
use Rattle.outlets.specs.Boxes.{ids}
use Rattle.split_leg.specs.Stored.{margins}
use Rattle.workers.specs.Working.{opening}
use Rattle.live_run.proofs.Journals.{done_of, may_run, ran_of}
use Rattle.live_run.proofs.run.run_nodes.Goals as goal

pub gather-requires-clause-t : goal.gather-requires-clause-t
gather-requires-clause-t g c = done_of g.C.NodeCore.node g.S.Shaper.is_lossless (ids c.in_ok-boxes.boxes) (by_policies (margins c.args.policies.t)) (opening at.T (g.C.NodeCore.node c.args.parts.t.core) c.args.plan.t (g.S.Shaper.is_lossless c.args.parts.t.shaper)) c.args.turns c.in_ok-boxes.workers.t c.in_ok-workers.workers.t (c.in_ok-boxes.ensures.t (by_policies (margins c.args.policies.t))) c.in_ok-workers.ensures.t

pub returns-clause-t : goal.returns-clause-t
returns-clause-t g c = rw c.gather.ensures.t (ran_of g.C.NodeCore.node g.S.Shaper.is_lossless (ids c.in_ok-boxes.boxes) (by_policies (margins c.args.policies.t)) (opening at.T (g.C.NodeCore.node c.args.parts.t.core) c.args.plan.t (g.S.Shaper.is_lossless c.args.parts.t.shaper)) c.args.turns c.in_ok-boxes.workers.t c.in_ok-workers.workers.t (c.in_ok-boxes.ensures.t (by_policies (margins c.args.policies.t))) c.in_ok-workers.ensures.t)

pub gather-requires-clause-m : goal.gather-requires-clause-m
gather-requires-clause-m g c = done_of g.D.NodeCore.node g.S.Shaper.is_lossless (ids c.in_ok-boxes.boxes) (by_policies (margins c.args.policies.m)) (opening at.M (g.D.NodeCore.node c.args.parts.m.core) c.args.plan.m (g.S.Shaper.is_lossless c.args.parts.m.shaper)) c.args.turns c.in_ok-boxes.workers.m c.in_ok-workers.workers.m (c.in_ok-boxes.ensures.m (by_policies (margins c.args.policies.m))) c.in_ok-workers.ensures.m

pub returns-clause-m : goal.returns-clause-m
returns-clause-m g c = rw c.gather.ensures.m (ran_of g.D.NodeCore.node g.S.Shaper.is_lossless (ids c.in_ok-boxes.boxes) (by_policies (margins c.args.policies.m)) (opening at.M (g.D.NodeCore.node c.args.parts.m.core) c.args.plan.m (g.S.Shaper.is_lossless c.args.parts.m.shaper)) c.args.turns c.in_ok-boxes.workers.m c.in_ok-workers.workers.m (c.in_ok-boxes.ensures.m (by_policies (margins c.args.policies.m))) c.in_ok-workers.ensures.m)

pub gather-requires-clause-a : goal.gather-requires-clause-a
gather-requires-clause-a g c = done_of g.E.NodeCore.node g.S.Shaper.is_lossless (ids c.in_ok-boxes.boxes) (by_policies (margins c.args.policies.a)) (opening at.A (g.E.NodeCore.node c.args.parts.a.core) c.args.plan.a (g.S.Shaper.is_lossless c.args.parts.a.shaper)) c.args.turns c.in_ok-boxes.workers.a c.in_ok-workers.workers.a (c.in_ok-boxes.ensures.a (by_policies (margins c.args.policies.a))) c.in_ok-workers.ensures.a

pub returns-clause-a : goal.returns-clause-a
returns-clause-a g c = rw c.gather.ensures.a (ran_of g.E.NodeCore.node g.S.Shaper.is_lossless (ids c.in_ok-boxes.boxes) (by_policies (margins c.args.policies.a)) (opening at.A (g.E.NodeCore.node c.args.parts.a.core) c.args.plan.a (g.S.Shaper.is_lossless c.args.parts.a.shaper)) c.args.turns c.in_ok-boxes.workers.a c.in_ok-workers.workers.a (c.in_ok-boxes.ensures.a (by_policies (margins c.args.policies.a))) c.in_ok-workers.ensures.a)

pub gather-requires-clause-b : goal.gather-requires-clause-b
gather-requires-clause-b g c = done_of g.E.NodeCore.node g.S.Shaper.is_lossless (ids c.in_ok-boxes.boxes) (by_policies (margins c.args.policies.b)) (opening at.B (g.E.NodeCore.node c.args.parts.b.core) c.args.plan.b (g.S.Shaper.is_lossless c.args.parts.b.shaper)) c.args.turns c.in_ok-boxes.workers.b c.in_ok-workers.workers.b (c.in_ok-boxes.ensures.b (by_policies (margins c.args.policies.b))) c.in_ok-workers.ensures.b

pub returns-clause-b : goal.returns-clause-b
returns-clause-b g c = rw c.gather.ensures.b (ran_of g.E.NodeCore.node g.S.Shaper.is_lossless (ids c.in_ok-boxes.boxes) (by_policies (margins c.args.policies.b)) (opening at.B (g.E.NodeCore.node c.args.parts.b.core) c.args.plan.b (g.S.Shaper.is_lossless c.args.parts.b.shaper)) c.args.turns c.in_ok-boxes.workers.b c.in_ok-workers.workers.b (c.in_ok-boxes.ensures.b (by_policies (margins c.args.policies.b))) c.in_ok-workers.ensures.b)

pub run_all-requires-clause-t : goal.run_all-requires-clause-t
run_all-requires-clause-t g c κs within =
    may_run g.C.NodeCore.node g.S.Shaper.is_lossless (ids c.in_ok-boxes.boxes) (by_policies (margins c.args.policies.t)) (opening at.T (g.C.NodeCore.node c.args.parts.t.core) c.args.plan.t (g.S.Shaper.is_lossless c.args.parts.t.shaper)) c.in_ok-boxes.workers.t (c.in_ok-boxes.ensures.t (by_policies (margins c.args.policies.t)))

pub run_all-requires-clause-m : goal.run_all-requires-clause-m
run_all-requires-clause-m g c κs within =
    may_run g.D.NodeCore.node g.S.Shaper.is_lossless (ids c.in_ok-boxes.boxes) (by_policies (margins c.args.policies.m)) (opening at.M (g.D.NodeCore.node c.args.parts.m.core) c.args.plan.m (g.S.Shaper.is_lossless c.args.parts.m.shaper)) c.in_ok-boxes.workers.m (c.in_ok-boxes.ensures.m (by_policies (margins c.args.policies.m)))

pub run_all-requires-clause-a : goal.run_all-requires-clause-a
run_all-requires-clause-a g c κs within =
    may_run g.E.NodeCore.node g.S.Shaper.is_lossless (ids c.in_ok-boxes.boxes) (by_policies (margins c.args.policies.a)) (opening at.A (g.E.NodeCore.node c.args.parts.a.core) c.args.plan.a (g.S.Shaper.is_lossless c.args.parts.a.shaper)) c.in_ok-boxes.workers.a (c.in_ok-boxes.ensures.a (by_policies (margins c.args.policies.a)))

pub run_all-requires-clause-b : goal.run_all-requires-clause-b
run_all-requires-clause-b g c κs within =
    may_run g.E.NodeCore.node g.S.Shaper.is_lossless (ids c.in_ok-boxes.boxes) (by_policies (margins c.args.policies.b)) (opening at.B (g.E.NodeCore.node c.args.parts.b.core) c.args.plan.b (g.S.Shaper.is_lossless c.args.parts.b.shaper)) c.in_ok-boxes.workers.b (c.in_ok-boxes.ensures.b (by_policies (margins c.args.policies.b)))
