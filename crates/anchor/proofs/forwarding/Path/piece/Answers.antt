use Rattle.std.proofs.Common.{List, [], ◌∷◌, ◌++◌, ap, ◌∙◌}
use Rattle.forward.specs.Outgoing.{sdu_packet}
use Rattle.node_rules.specs.Choices.{Send}
use Rattle.node_rules.specs.Freezing.{Tunnel, packet_send}
use Rattle.anchor.specs.Paths.{ForwardPath}
use Rattle.anchor.proofs.Pieces.{piece-is}
use Rattle.anchor.proofs.forwarding.Path.piece.Goals as goal

pub returns-clause-sends : goal.returns-clause-sends
returns-clause-sends c =
    let t : Tunnel = record { node = c.self.inside.node; target = c.self.inside.target; g = c.self.inside.g; id = c.self.inside.id; n = c.self.inside.n; next = c.self.inside.out.next } in
    piece-is t (sdu_packet c.self.inside.out.teid c.self.inside.n c.self.inside.out.next (c.args.sn, c.args.sdu.now)) c.args.sends.now c.push.new.self c.flight.result c.in_ok-packet.packet
    c.in_ok-push.ensures.ok c.flight.ensures c.in_ok-packet.ensures.packet.spelled
    ∙ ap {B = List Send} (λ (p : ForwardPath). c.args.sends.now ++ packet_send p.tunnel (sdu_packet p.teid p.tunnel.n p.tunnel.next (c.args.sn, c.args.sdu.now)) ∷ []) c.self.view_is
