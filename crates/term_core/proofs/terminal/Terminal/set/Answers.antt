use Rattle.std.proofs.Common.{◌≡◌, Some, rules}
use Rattle.std.specs.BTreeMap.{get_by}
use Rattle.std.specs.Ordering.{nat_cmp}
use Rattle.node_rules.specs.Choices.{by_policies}
use Rattle.split_leg.specs.Stored.{margins}
use Rattle.term_core.proofs.Halves.{entries_written}
use Rattle.term_core.proofs.Steps.{half_renews}
use Rattle.term_core.proofs.terminal.Terminal.set.Goals as goal

pub returns-in_ok-sends-in-Some : goal.returns-in_ok-sends-in-Some
returns-in_ok-sends-in-Some g c =
    let there : get_by (nat_cmp c.args.id) c.self.inside.halves ≡ Some c.in-Some.half.now = search rules in
    let put = entries_written c.self.inside.halves (c.get_mut.follows.lender c.renew.new.self) c.args.id c.in-Some.half.now c.renew.new.self c.get_mut.ensures.ordered there (c.get_mut.follows.holds c.renew.new.self) in
    rw (← c.self.view_is, c.sends_alone.ensures) (half_renews (by_policies (margins c.args.policies.now)) _ c.args.id c.args.setup c.in-Some.half.now (c.renew.new.self, c.in_ok-sends-in-Some.sends) _ there put c.in_ok-sends-in-Some.ensures)
