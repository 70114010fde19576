use Rattle.std.proofs.Common.{◌≡◌, Some, rules}
use Rattle.std.specs.BTreeMap.{get_by}
use Rattle.std.specs.Ordering.{nat_cmp}
use Rattle.second_core.proofs.Maps.{entries_written}
use Rattle.second_core.proofs.Moves.{fed_ends}
use Rattle.second_core.proofs.second.Second.fed_ends.Goals as goal

pub returns : goal.returns
returns c =
    let there : get_by (nat_cmp c.args.id) c.self.inside.anchors ≡ Some c.in-Some.fed.now = search rules in
    let put = entries_written c.self.inside.anchors (c.get_mut.follows.lender c.end_in.new.self) c.args.id c.in-Some.fed.now c.end_in.new.self c.get_mut.ensures.ordered there (c.get_mut.follows.holds c.end_in.new.self) in
    rw (← c.self.view_is, c.quiet-2.ensures) (fed_ends _ c.args.id c.args.g c.in-Some.fed.now c.end_in.new.self _ there put c.end_in.ensures)
