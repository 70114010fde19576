use Rattle.std.proofs.Common.{◌≡◌, Some, rules}
use Rattle.std.specs.BTreeMap.{get_by}
use Rattle.std.specs.Ordering.{nat_cmp}
use Rattle.term_core.proofs.Halves.{entries_written}
use Rattle.term_core.proofs.Steps.{half_takes}
use Rattle.term_core.proofs.terminal.Terminal.half_takes.Goals as goal

pub returns : goal.returns
returns c =
    let there : get_by (nat_cmp c.args.id) c.self.inside.halves ≡ Some c.in-Some.half.now = search rules in
    let put = entries_written c.self.inside.halves (c.get_mut.follows.lender c.air_in.new.self) c.args.id c.in-Some.half.now c.air_in.new.self c.get_mut.ensures.ordered there (c.get_mut.follows.holds c.air_in.new.self) in
    rw (← c.self.view_is, c.in_ok-half_notes.ensures) (half_takes _ c.args.from c.args.flight c.args.id c.in-Some.half.now (c.air_in.new.self, c.in_ok-ups.field-0) _ there put c.in_ok-ups.ensures)
