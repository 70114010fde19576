use Rattle.std.proofs.Common.{◌≡◌, ◌<◌, ◌+◌, max, false, sym, ap, ◌∙◌, subst, arith}
use Rattle.dc_base.specs.Count.{window}
use Rattle.dc_base.proofs.Counting.{window_small}
use Rattle.pdcp_rx.specs.declared.entity.Put.{Put}
use Rattle.pdcp_rx.specs.declared.entity.Put.TheVariants.{Stored}
use Rattle.pdcp_rx.specs.declared.entity.RxParts.{RxParts}
use Rattle.pdcp_rx.specs.Entries.{is_stored, with_sdu, past_greatest}
use Rattle.pdcp_rx.specs.Receiver.{IsInOrder, put}
use Rattle.pdcp_rx.specs.Ring.{ring_from}
use Rattle.pdcp_rx.proofs.Putting.{put_later, in_order-put}
use Rattle.pdcp_rx.proofs.RingSteps.{past_greatest-with_sdu}
use Rattle.pdcp_rx.proofs.entity.Rx.store.Goals as goal

pub insert-requires-clause-near : goal.insert-requires-clause-near
insert-requires-clause-near c =
    let in_window : c.args.count < c.self.inside.deliv + window c.self.inside.n = subst (λ (v : RxParts). c.args.count < v.deliv + window v.n)
    (sym c.self.view_is) c.requires.in_window in
    omega (arith, in_window, window_small c.self.inside.n)

pub invariant_of-self-2 : goal.invariant_of-self-2
invariant_of-self-2 c =
    let d = c.self.inside.deliv in
    let r : RxParts = record { n = c.self.inside.n; deliv = d; stored = ring_from c.self.inside.ring d } in
    let new : is_stored c.args.count r.stored ≡ false = sym c.is_held.ensures ∙ c.if-is_held.false in
    let above : d < c.args.count = subst (λ (v : RxParts). v.deliv < c.args.count) (sym c.self.view_is) c.requires.above in
    let in_window : c.args.count < d + window r.n = subst (λ (v : RxParts). c.args.count < v.deliv + window v.n) (sym c.self.view_is) c.requires.in_window in
    let ok : ring_from c.insert.new.ring d ≡ with_sdu c.args.count c.args.sdu r.stored = c.in_ok-insert.ensures.ok in
    record {
      in_order = rw ok (subst IsInOrder (ap (λ a. a.0) (put_later r c.args.count c.args.sdu c.self.invariant.in_order above new))
          (in_order-put r c.args.count c.args.sdu c.self.invariant.in_order c.requires.not_last in_window));
      next_is = c.max-self-inside.ensures ∙ ap (λ n. max n (c.args.count + 1)) c.self.invariant.next_is ∙ sym
          (past_greatest-with_sdu d c.args.count c.args.sdu r.stored) ∙ ap (λ es. past_greatest d es) (sym ok);
    }

pub returns-clause-ok : goal.returns-clause-ok
returns-clause-ok c =
    let d = c.self.inside.deliv in
    let r : RxParts = record { n = c.self.inside.n; deliv = d; stored = ring_from c.self.inside.ring d } in
    let new : is_stored c.args.count r.stored ≡ false = sym c.is_held.ensures ∙ c.if-is_held.false in
    let above : d < c.args.count = subst (λ (v : RxParts). v.deliv < c.args.count) (sym c.self.view_is) c.requires.above in
    let ok : ring_from c.insert.new.ring d ≡ with_sdu c.args.count c.args.sdu r.stored = c.in_ok-insert.ensures.ok in
    let there : ◌≡◌ {A = RxParts × Put} (record r { stored = ring_from c.insert.new.ring d }, Stored c.new.result) (put r c.args.count c.args.sdu) =
    rw (ok, c.new.ensures) (sym (put_later r c.args.count c.args.sdu c.self.invariant.in_order above new)) in
    subst (λ (v : RxParts). ◌≡◌ {A = RxParts × Put} (record r { stored = ring_from c.insert.new.ring d }, Stored c.new.result)
    (put v c.args.count c.args.sdu)) c.self.view_is there
