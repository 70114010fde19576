use Rattle.node_rules.specs.Freezing.{Tunnel}
use Rattle.anchor.proofs.Pieces.{closing-is}
use Rattle.anchor.proofs.forwarding.Path.close.Goals as goal

pub returns : goal.returns
returns c =
    let t : Tunnel = record { node = c.self.inside.node; target = c.self.inside.target; g = c.self.inside.g; id = c.self.inside.id; n = c.self.inside.n; next = c.self.inside.out.next } in
    rw (← c.self.view_is)
    (closing-is t c.self.inside.out.teid c.args.sends.now c.push.new.self c.push-2.new.self c.flight.result c.flight-2.result c.in_ok-total.total c.in_ok-total.end_marker
    c.in_ok-push.ensures.ok c.in_ok-push-2.ensures.ok c.flight.ensures c.flight-2.ensures c.in_ok-total.ensures.total.spelled c.in_ok-total.ensures.end_marker.spelled)
