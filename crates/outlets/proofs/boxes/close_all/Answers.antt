use Rattle.outlets.specs.Boxes.{ids}
use Rattle.outlets.proofs.Ends.{all_closed}
use Rattle.outlets.proofs.boxes.close_all.Goals as goal

pub returns : goal.returns
returns c got sent readers ways =
    all_closed (ids c.args.boxes.now) got sent c.args.readers c.args.outlets c.into_tickets.result c.into_tickets-2.result c.into_tickets-3.result c.into_tickets-4.result
    c.transposed-by_receiver.result.t c.transposed-by_receiver.result.m c.transposed-by_receiver.result.a c.transposed-by_receiver.result.b readers ways
    c.into_tickets.ensures c.into_tickets-2.ensures c.into_tickets-3.ensures c.into_tickets-4.ensures
    c.transposed-by_receiver.ensures.t c.transposed-by_receiver.ensures.m c.transposed-by_receiver.ensures.a c.transposed-by_receiver.ensures.b
    c.close.ensures c.close-2.ensures c.close-3.ensures c.close-4.ensures
