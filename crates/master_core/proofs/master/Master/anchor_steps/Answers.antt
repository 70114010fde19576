use Rattle.std.proofs.Common.{◌≡◌, Some, rules}
use Rattle.std.specs.BTreeMap.{get_by}
use Rattle.std.specs.Ordering.{nat_cmp}
use Rattle.node_rules.specs.Choices.{by_policies}
use Rattle.split_leg.specs.Stored.{margins}
use Rattle.master_core.specs.Steps.{anchor_does}
use Rattle.master_core.proofs.Maps.{entries_written}
use Rattle.master_core.proofs.Moves.{anchor_steps}
use Rattle.master_core.proofs.master.Master.anchor_steps.Goals as goal

pub returns : goal.returns
returns g c =
    let there : get_by (nat_cmp c.args.id) c.self.inside.anchors ≡ Some c.in-Some.anchor.now = search rules in
    let put = entries_written c.self.inside.anchors (c.get_mut.follows.lender c.anchor_does.new.anchor) c.args.id c.in-Some.anchor.now c.anchor_does.new.anchor c.get_mut.ensures.ordered there (c.get_mut.follows.holds c.anchor_does.new.anchor) in
    rw (← c.self.view_is) (anchor_steps _ c.args.id (anchor_does (by_policies (margins c.args.policies.now)) c.args.step) c.in-Some.anchor.now (c.anchor_does.new.anchor, c.in_ok-out.out) _ c.generation-g.result there put c.in_ok-out.ensures c.generation-g.ensures)
