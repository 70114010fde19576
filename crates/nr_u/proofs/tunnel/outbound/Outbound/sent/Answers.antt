use Rattle.std.proofs.Common.{subst, sym}
use Rattle.nr_u.specs.Tunnel.Outgoing.{Outgoing, IsHistory}
use Rattle.nr_u.proofs.Sending.{state_next, state_first, state_sent}
use Rattle.nr_u.proofs.History.{history_sent}
use Rattle.nr_u.proofs.tunnel.outbound.Outbound.sent.Goals as goal

pub invariant_of-self : goal.invariant_of-self
invariant_of-self c =
    rw c.in_err-note_first.ensures.err (state_next _ _ _ _ _ _ _ c.self.invariant)

pub invariant_of-self-in_err-note_both : goal.invariant_of-self-in_err-note_both
invariant_of-self-in_err-note_both c =
    rw (c.in_ok-note_first.ensures.ok, c.in_err-note_both.ensures.err_unasked, c.in_err-note_both.ensures.err_askable) (state_first _ _ _ _ _ _ _ _ c.args.count c.args.repeat c.self.invariant c.keeps_order-in_order.ensures.before c.keeps_order-in_order.ensures.next)

pub invariant_of-self-2 : goal.invariant_of-self-2
invariant_of-self-2 c =
    let sorted = rw c.in_ok-note_both.ensures.unasked at c.in_ok-note_both.ensures.ordered c.self.invariant.sorted in
    rw (c.in_ok-note_first.ensures.ok, c.in_ok-note_both.ensures.unasked, c.in_ok-note_both.ensures.askable) (state_sent _ _ _ _ _ _ _ _ c.args.count c.args.repeat c.self.invariant c.keeps_order-in_order.ensures.before c.keeps_order-in_order.ensures.next sorted)

pub returns-clause-history : goal.returns-clause-history
returns-clause-history c = λ before was.
    let inside : Outgoing = record { n = c.self.inside.n; next = c.self.inside.next; waiting = c.self.inside.waiting.entries; unasked = c.self.inside.unasked.entries; confirmed = c.self.inside.confirmed.keys } in
    rw (c.in_ok-note_first.ensures.ok, c.in_ok-note_both.ensures.unasked) (history_sent before inside c.args.count c.args.repeat (subst (λ (o : Outgoing). IsHistory before o) (sym c.self.view_is) was))
