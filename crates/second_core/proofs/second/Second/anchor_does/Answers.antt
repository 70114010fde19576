use Rattle.std.proofs.Common.{◌≡◌, Some, rules}
use Rattle.std.specs.BTreeMap.{get_by}
use Rattle.std.specs.Ordering.{nat_cmp}
use Rattle.node_rules.specs.Choices.{by_policies}
use Rattle.split_leg.specs.Stored.{margins}
use Rattle.second_core.specs.Steps.{anchor_does}
use Rattle.second_core.proofs.Maps.{entries_written}
use Rattle.second_core.proofs.Moves.{anchor_steps}
use Rattle.second_core.proofs.second.Second.anchor_does.Goals as goal

pub returns : goal.returns
returns g c =
    let there : get_by (nat_cmp c.args.id) c.self.inside.anchors ≡ Some c.in-Some.fed.now = search rules in
    let put = entries_written c.self.inside.anchors (c.get_mut.follows.lender c.does.new.self) c.args.id c.in-Some.fed.now c.does.new.self c.get_mut.ensures.ordered there (c.get_mut.follows.holds c.does.new.self) in
    rw (← c.self.view_is, c.in_ok-second_effects.ensures) (anchor_steps _ c.args.id (anchor_does (by_policies (margins c.args.policies.now)) c.args.step) c.in-Some.fed.now (c.does.new.self, c.in_ok-out.out) _ c.me-me.result c.generation-g.result there put c.in_ok-out.ensures c.me-me.ensures c.generation-g.ensures)
