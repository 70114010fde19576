use Rattle.std.proofs.Common.{◌≡◌, Some, rules}
use Rattle.std.specs.BTreeMap.{get_by}
use Rattle.std.specs.Ordering.{nat_cmp}
use Rattle.node_rules.specs.Choices.{by_policies}
use Rattle.split_leg.specs.Stored.{margins}
use Rattle.term_core.proofs.Halves.{entries_written}
use Rattle.term_core.proofs.Steps.{half_recovers}
use Rattle.term_core.proofs.terminal.Terminal.recover.Goals as goal

pub returns : goal.returns
returns g c =
    let there : get_by (nat_cmp c.args.id) c.self.inside.halves ≡ Some c.in-Some.half.now = search rules in
    let put = entries_written c.self.inside.halves (c.get_mut.follows.lender c.recover.new.self) c.args.id c.in-Some.half.now c.recover.new.self c.get_mut.ensures.ordered there (c.get_mut.follows.holds c.recover.new.self) in
    rw (← c.self.view_is, c.in_ok-add.ensures, c.in_ok-effects.ensures, c.sends_alone.ensures) (half_recovers (by_policies (margins c.args.policies.now)) _ c.args.id c.in-Some.half.now (c.recover.new.self, c.in_ok-sends.sends) _ there put c.in_ok-sends.ensures)
