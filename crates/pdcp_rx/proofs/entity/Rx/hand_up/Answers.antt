use Rattle.std.proofs.Common.{◌≡◌, ◌+◌, ◌-◌, ◌<◌, ◌^◌, ◌∷◌, ◌++◌, [], List, max, length, take, drop, sym, ap, ◌∙◌, subst, arith}
use Rattle.std.specs.List.{AllByRecursion}
use Rattle.dc_base.proofs.Counting.{window_some}
use Rattle.pdcp_rx.specs.declared.entity.Put.{Put}
use Rattle.pdcp_rx.specs.declared.entity.Put.TheVariants.{Stored}
use Rattle.pdcp_rx.specs.declared.entity.RxParts.{RxParts}
use Rattle.pdcp_rx.specs.Entries.{Entry, past_greatest}
use Rattle.pdcp_rx.specs.Run.{run_from}
use Rattle.pdcp_rx.specs.Receiver.{IsInOrder, put}
use Rattle.pdcp_rx.specs.Ring.{ring_from}
use Rattle.pdcp_rx.proofs.Putting.{put_next, in_order-put}
use Rattle.pdcp_rx.proofs.RingSteps.{ring_begins, next_after_run}
use Rattle.pdcp_rx.proofs.entity.Rx.hand_up.Goals as goal

pub first_gap-gap-requires : goal.first_gap-gap-requires
first_gap-gap-requires c =
    let d = c.self.inside.deliv in
    let begins = ring_begins c.self.inside.ring d c.self.invariant.in_order.ascends in
    subst (AllByRecursion (λ (e : Entry). e.0 < 2 ^ 32 - 1)) begins c.self.invariant.in_order.not_last

pub invariant_of-self : goal.invariant_of-self
invariant_of-self c =
    let d = c.self.inside.deliv in
    let gap = c.first_gap-gap.result in
    let r : RxParts = record { n = c.self.inside.n; deliv = d; stored = ring_from c.self.inside.ring d } in
    let not_last : d < 2 ^ 32 - 1 = subst (λ (v : RxParts). v.deliv < 2 ^ 32 - 1) (sym c.self.view_is) c.requires in
    let begins = ring_begins c.self.inside.ring d c.self.invariant.in_order.ascends in
    let gap_is : gap ≡ d + 1 + length (run_from (d + 1) r.stored) =
    c.first_gap-gap.ensures ∙ ap (λ (es : List Entry). d + 1 + length (run_from (d + 1) es)) (sym begins) in
    let place : gap ≡ d + 1 + (gap - d - 1) = omega arith in
    let left : ring_from c.take_first.new.ring gap ≡ drop (gap - d - 1) r.stored =
    ap (λ g. ring_from c.take_first.new.ring g) place ∙ c.take_first.ensures.left
    ∙ ap (λ es. drop (gap - d - 1) es) (sym begins) in
    let went = put_next r gap c.args.sdu c.self.invariant.in_order gap_is in
    record {
      in_order = rw left (subst IsInOrder (ap (λ a. a.0) went) (in_order-put r d c.args.sdu c.self.invariant.in_order not_last (omega
          (arith, window_some r.n))));
      next_is = c.max-self-inside.ensures ∙ ap (λ n. max n gap) c.self.invariant.next_is ∙ sym (next_after_run r gap gap_is) ∙ ap
          (λ es. past_greatest gap es) (sym left);
    }

pub returns-clause-ok : goal.returns-clause-ok
returns-clause-ok c =
    let d = c.self.inside.deliv in
    let gap = c.first_gap-gap.result in
    let r : RxParts = record { n = c.self.inside.n; deliv = d; stored = ring_from c.self.inside.ring d } in
    let begins = ring_begins c.self.inside.ring d c.self.invariant.in_order.ascends in
    let gap_is : gap ≡ d + 1 + length (run_from (d + 1) r.stored) =
    c.first_gap-gap.ensures ∙ ap (λ (es : List Entry). d + 1 + length (run_from (d + 1) es)) (sym begins) in
    let lent : ring_from c.self.inside.ring (d + 1) ≡ r.stored = sym begins in
    let place : gap ≡ d + 1 + (gap - d - 1) = omega arith in
    let left : ring_from c.take_first.new.ring gap ≡ drop (gap - d - 1) r.stored =
    ap (λ g. ring_from c.take_first.new.ring g) place ∙ c.take_first.ensures.left ∙ ap (λ es. drop (gap - d - 1) es) lent in
    let first : c.push.new.self.items ≡ (d, c.args.sdu) ∷ [] = (rw c.unwrap.ensures at c.push.ensures.items) ∙ ap (λ xs. xs ++
    (d, c.args.sdu) ∷ []) c.in_ok-handed.ensures.items in
    let handed : c.from_vec.result ≡ (d, c.args.sdu) ∷ take (gap - d - 1) r.stored =
    c.from_vec.ensures ∙ c.take_first.ensures.handed ∙ ap (λ es. c.push.new.self.items ++ take (gap - d - 1) es) lent ∙ ap (λ xs. xs ++ take
    (gap - d - 1) r.stored) first in
    let there : ◌≡◌ {A = RxParts × Put} (record r { deliv = gap; stored = ring_from c.take_first.new.ring gap }, Stored c.from_vec.result)
    (put r d c.args.sdu) =
    rw (left, handed) (sym (put_next r gap c.args.sdu c.self.invariant.in_order gap_is)) in
    subst (λ (v : RxParts). ◌≡◌ {A = RxParts × Put} (record r { deliv = gap; stored = ring_from c.take_first.new.ring gap }, Stored c.from_vec.result)
    (put v v.deliv c.args.sdu)) c.self.view_is there
