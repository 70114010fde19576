use Rattle.outlets.specs.Boxes.{ids}
use Rattle.outlets.specs.declared.boxes.Inboxes.{Inboxes}
use Rattle.outlets.proofs.Ends.{all_new}
use Rattle.outlets.proofs.boxes.open_all.Goals as goal

pub returns-clause-ways : goal.returns-clause-ways
returns-clause-ways c =
    let boxes : Inboxes = record { t = c.in_ok-inbox_t.inbox_t; m = c.in_ok-inbox_m.inbox_m; a = c.in_ok-inbox_a.inbox_a; b = c.in_ok-inbox_b.inbox_b } in
    all_new (ids boxes) c.tickets-to_t.result c.tickets-to_m.result c.tickets-to_a.result c.tickets-to_b.result c.transposed-by_sender.result c.new.result c.new-2.result c.new-3.result c.new-4.result
    c.tickets-to_t.ensures.senders c.tickets-to_m.ensures.senders c.tickets-to_a.ensures.senders c.tickets-to_b.ensures.senders
    c.transposed-by_sender.ensures.t c.transposed-by_sender.ensures.m c.transposed-by_sender.ensures.a c.transposed-by_sender.ensures.b
    c.new.ensures c.new-2.ensures c.new-3.ensures c.new-4.ensures
