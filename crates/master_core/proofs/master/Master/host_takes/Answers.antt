use Rattle.std.proofs.Common.{◌≡◌, Some, rules}
use Rattle.std.specs.BTreeMap.{get_by}
use Rattle.std.specs.Ordering.{nat_cmp}
use Rattle.master_core.specs.Steps.{host_takes}
use Rattle.master_core.proofs.Maps.{entries_written}
use Rattle.master_core.proofs.Moves.{host_steps}
use Rattle.master_core.proofs.master.Master.host_takes.Goals as goal

pub returns : goal.returns
returns c =
    let there : get_by (nat_cmp c.args.id) c.self.inside.hosts ≡ Some c.in-Some.host.now = search rules in
    let put = entries_written c.self.inside.hosts (c.get_mut.follows.lender c.host_takes.new.host) c.args.id c.in-Some.host.now c.host_takes.new.host c.get_mut.ensures.ordered there (c.get_mut.follows.holds c.host_takes.new.host) in
    rw (← c.self.view_is, c.sends_alone.ensures) (host_steps _ c.args.id (host_takes c.args.flight.now) c.in-Some.host.now (c.host_takes.new.host, c.in_ok-sends.sends) _ there put c.in_ok-sends.ensures)
