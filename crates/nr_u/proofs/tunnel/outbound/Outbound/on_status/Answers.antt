use Rattle.std.proofs.Common.{ap, sym, subst, ◌∙◌, arith}
use Rattle.std.specs.Prelude.{map}
use Rattle.std.proofs.lemmas.List.Sorted.{IsPermutation-trans}
use Rattle.nr_u.specs.Tunnel.Outgoing.{Outgoing, Counted, with_status, asked_by, IsHistory}
use Rattle.nr_u.proofs.OnStatus.{leaves, asked_counts, confirmed_is}
use Rattle.nr_u.proofs.Sending.{state_frame}
use Rattle.nr_u.proofs.Asking.{covers_less}
use Rattle.nr_u.proofs.History.{history_frame, delivered}
use Rattle.nr_u.proofs.Law.{counts_acked}
use Rattle.nr_u.proofs.tunnel.outbound.Outbound.on_status.Goals as goal

pub take_asked-requires-clause-covers : goal.take_asked-requires-clause-covers
take_asked-requires-clause-covers c =
    c.in_ok-widen.ensures.covers _ (covers_less c.self.inside.reference c.self.inside.reference c.self.inside.confirmed.keys _ c.self.inside.askable.entries c.self.inside.unasked.entries (omega arith) c.in_ok-add_all.ensures.keeps c.self.invariant.covers)

pub invariant_of-self-in_err-add_all : goal.invariant_of-self-in_err-add_all
invariant_of-self-in_err-add_all c =
    let covers = covers_less c.self.inside.reference c.self.inside.reference c.self.inside.confirmed.keys _ c.self.inside.askable.entries c.self.inside.unasked.entries (omega arith) c.in_err-add_all.ensures.keeps c.self.invariant.covers in
    state_frame _ _ _ _ _ _ _ _ _ _ _ _ _ c.self.invariant c.in_ok-confirmed.ensures.left c.self.invariant.unasked_given c.self.invariant.askable_given c.self.invariant.sorted covers

pub invariant_of-self-in_err-widen : goal.invariant_of-self-in_err-widen
invariant_of-self-in_err-widen c =
    let covers = covers_less c.self.inside.reference c.self.inside.reference c.self.inside.confirmed.keys _ c.self.inside.askable.entries c.self.inside.unasked.entries (omega arith) c.in_ok-add_all.ensures.keeps c.self.invariant.covers in
    rw c.in_err-widen.ensures.err (state_frame _ _ _ _ _ _ _ _ _ _ _ _ _ c.self.invariant c.in_ok-confirmed.ensures.left c.self.invariant.unasked_given c.self.invariant.askable_given c.self.invariant.sorted covers)

pub invariant_of-self-in_err-again : goal.invariant_of-self-in_err-again
invariant_of-self-in_err-again c =
    let asked = c.in_err-again.ensures in
    state_frame _ _ _ _ _ _ _ _ _ _ _ _ _ c.self.invariant c.in_ok-confirmed.ensures.left
    (asked.given c.self.inside.next c.self.invariant.unasked_given) (asked.given_askable c.self.inside.next (c.in_ok-widen.ensures.given c.self.inside.next c.self.invariant.askable_given c.self.invariant.unasked_given)) asked.sorted asked.covers

pub invariant_of-self-2 : goal.invariant_of-self-2
invariant_of-self-2 c =
    let asked = c.in_ok-again.ensures in
    state_frame _ _ _ _ _ _ _ _ _ _ _ _ _ c.self.invariant c.in_ok-confirmed.ensures.left
    (asked.given c.self.inside.next c.self.invariant.unasked_given) (asked.given_askable c.self.inside.next (c.in_ok-widen.ensures.given c.self.inside.next c.self.invariant.askable_given c.self.invariant.unasked_given)) asked.sorted asked.covers

pub returns-clause-state : goal.returns-clause-state
returns-clause-state c =
    let inside : Outgoing = record { n = c.self.inside.n; next = c.self.inside.next; waiting = c.self.inside.waiting.entries; unasked = c.self.inside.unasked.entries; confirmed = c.self.inside.confirmed.keys } in
    let left = leaves inside c.args.low c.in-Status.highest c.in-Status.lost _ _ _ _ _ _ _ c.as_slice-lost.ensures c.highest_of-highest.ensures c.in_ok-confirmed.ensures.counts c.in_ok-confirmed.ensures.left c.as_slice.ensures.value c.in_ok-add_all.ensures.ok c.in_ok-again.ensures.left in
    rw c.in-Status.is (left ∙ ap (λ (o : Outgoing). with_status o c.args.low c.in-Status.highest c.in-Status.lost) c.self.view_is)

pub returns-clause-history : goal.returns-clause-history
returns-clause-history c = λ sent was.
    subst (λ (o : Outgoing). IsHistory sent o) (sym (returns-clause-state c)) (history_frame sent c.args.self.now c.args.low c.args.f.now was)

pub returns-clause-again : goal.returns-clause-again
returns-clause-again c =
    let inside : Outgoing = record { n = c.self.inside.n; next = c.self.inside.next; waiting = c.self.inside.waiting.entries; unasked = c.self.inside.unasked.entries; confirmed = c.self.inside.confirmed.keys } in
    let counts = asked_counts inside c.args.low c.in-Status.highest c.in-Status.lost _ _ _ _ _ c.as_slice-lost.ensures c.highest_of-highest.ensures c.in_ok-confirmed.ensures.counts c.as_slice.ensures.value c.in_ok-add_all.ensures.ok in
    let again = ap (λ (o : Outgoing). map (λ (e : Counted). e.1) (asked_by o c.args.low c.in-Status.highest c.in-Status.lost)) (sym c.self.view_is) ∙ counts in
    rw (c.in-Status.is, c.from_vec-2.ensures, again) (IsPermutation-trans _ _ _ c.in_ok-again.ensures.counts c.sort_unstable.ensures.permutation)

pub returns-clause-ascending : goal.returns-clause-ascending
returns-clause-ascending c = rw c.from_vec-2.ensures c.sort_unstable.ensures.sorted

pub returns-clause-delivered : goal.returns-clause-delivered
returns-clause-delivered c = λ sent number count was at says.
    let inside : Outgoing = record { n = c.self.inside.n; next = c.self.inside.next; waiting = c.self.inside.waiting.entries; unasked = c.self.inside.unasked.entries; confirmed = c.self.inside.confirmed.keys } in
    let confirmed = confirmed_is inside c.args.self.now c.args.low c.args.f.now c.in-Status.highest c.in-Status.lost _ _ _ _ c.self.view_is c.in-Status.is c.as_slice-lost.ensures c.highest_of-highest.ensures c.in_ok-confirmed.ensures.counts c.from_vec.ensures in
    rw confirmed (delivered sent c.args.self.now c.args.low c.args.f.now number count was at says)

pub returns-clause-acked : goal.returns-clause-acked
returns-clause-acked c = λ sent i was end is.
    let inside : Outgoing = record { n = c.self.inside.n; next = c.self.inside.next; waiting = c.self.inside.waiting.entries; unasked = c.self.inside.unasked.entries; confirmed = c.self.inside.confirmed.keys } in
    let confirmed = confirmed_is inside c.args.self.now c.args.low c.args.f.now c.in-Status.highest c.in-Status.lost _ _ _ _ c.self.view_is c.in-Status.is c.as_slice-lost.ensures c.highest_of-highest.ensures c.in_ok-confirmed.ensures.counts c.from_vec.ensures in
    rw confirmed (counts_acked sent c.args.self.now c.args.low i c.args.f.now end was.firsts is)
