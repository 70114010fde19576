use Rattle.nr_u.specs.Tunnel.Outgoing.{confirms}
use Rattle.std.specs.Prelude.{Some}
use Rattle.nr_u.proofs.Filters.{left_out}
use Rattle.nr_u.proofs.tunnel.confirming.take_up_to.Goals as goal

pub returns-clause-left : goal.returns-clause-left
returns-clause-left c =
    left_out (confirms (Some c.args.highest) c.args.lost.now) c.args.waiting.now.entries _ _ _ c.in_ok-found.ensures.ordered c.in_ok-found.ensures.found c.as_slice-2.ensures.value c.take_out.ensures
