use Rattle.forward.proofs.Frames.{total_sent_in, marker_sent_in}
use Rattle.forward.proofs.outgoing.ForwardOut.close.Goals as goal

pub returns-clause-sent : goal.returns-clause-sent
returns-clause-sent c sdus all = (
  total_sent_in c.args.self.now.teid sdus c.args.self.now.next _ c.in_ok-packets.ensures.total.decoded_is all,
  marker_sent_in c.args.self.now.teid sdus _ c.in_ok-packets.ensures.end_marker.decoded_is,
)
