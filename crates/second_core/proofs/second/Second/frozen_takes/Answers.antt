use Rattle.std.proofs.Common.{◌≡◌, Some, rules}
use Rattle.std.specs.BTreeMap.{get_by}
use Rattle.std.specs.Ordering.{nat_cmp}
use Rattle.second_core.proofs.Maps.{entries_written}
use Rattle.second_core.proofs.Moves.{frozen_takes}
use Rattle.second_core.proofs.second.Second.frozen_takes.Goals as goal

pub returns : goal.returns
returns c =
    let there : get_by (nat_cmp c.args.id) c.self.inside.frozen ≡ Some c.in-Some.frozen.now = search rules in
    let put = entries_written c.self.inside.frozen (c.get_mut.follows.lender c.sdu_in.new.self) c.args.id c.in-Some.frozen.now c.sdu_in.new.self c.get_mut.ensures.ordered there (c.get_mut.follows.holds c.sdu_in.new.self) in
    rw (← c.self.view_is, c.sends_alone.ensures) (frozen_takes _ c.args.id c.args.g c.args.sdu.now c.in-Some.frozen.now (c.sdu_in.new.self, c.in_ok-sends.sends) _ there put (rw c.as_slice.ensures at c.in_ok-sends.ensures))
