use Rattle.forward.specs.Load.{Sdu}
use Rattle.forward.proofs.Frames.{sdu_sent_in}
use Rattle.forward.proofs.outgoing.ForwardOut.next.Goals as goal

pub returns-clause-sent : goal.returns-clause-sent
returns-clause-sent c sdus all =
    let sdu : Sdu = (c.args.sn, c.args.sdu.now) in
    sdu_sent_in c.args.self.now.teid c.args.n sdus sdu c.args.self.now.next _ c.in_ok-octets.ensures.decoded_is all
