use Rattle.std.proofs.Common.{◌≡◌, Some, rules}
use Rattle.std.specs.BTreeMap.{get_by}
use Rattle.std.specs.Ordering.{nat_cmp}
use Rattle.node_rules.specs.Choices.{by_policies}
use Rattle.split_leg.specs.Stored.{margins}
use Rattle.second_core.proofs.Maps.{entries_written}
use Rattle.second_core.proofs.Moves.{fed_takes}
use Rattle.second_core.proofs.second.Second.fed_takes.Goals as goal

pub returns : goal.returns
returns g c =
    let there : get_by (nat_cmp c.args.id) c.self.inside.anchors ≡ Some c.in-Some.fed.now = search rules in
    let put = entries_written c.self.inside.anchors (c.get_mut.follows.lender c.sdu_in.new.self) c.args.id c.in-Some.fed.now c.sdu_in.new.self c.get_mut.ensures.ordered there (c.get_mut.follows.holds c.sdu_in.new.self) in
    rw (← c.self.view_is, c.in_ok-second_effects.ensures) (fed_takes (by_policies (margins c.args.policies.now)) _ c.args.id c.args.g c.args.sdu c.in-Some.fed.now (c.sdu_in.new.self, c.in_ok-out.out) _ c.me-me.result c.generation-generation.result there put c.in_ok-out.ensures c.me-me.ensures c.generation-generation.ensures)
