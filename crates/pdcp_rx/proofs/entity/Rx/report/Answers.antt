use Rattle.std.proofs.Common.{◌≡◌, ◌+◌, ◌<◌, All, sym, ap, ◌∙◌, subst, arith}
use Rattle.std.specs.List.Sorted.{IsStrictlyIncreasing}
use Rattle.pdcp_rx.specs.declared.entity.RxParts.{RxParts}
use Rattle.pdcp_rx.specs.Entries.{counts_of}
use Rattle.pdcp_rx.specs.Ring.{ring_from}
use Rattle.pdcp_rx.proofs.Counts.{counts_increase, counts_above}
use Rattle.pdcp_rx.proofs.entity.Rx.report.Goals as goal

pub encode_report-requires-clause-ascending : goal.encode_report-requires-clause-ascending
encode_report-requires-clause-ascending c =
    let stored = ring_from c.self.inside.ring c.self.inside.deliv in
    let counts : c.in_ok-stored.field-0 ≡ counts_of stored = c.in_ok-stored.ensures ∙ ap (λ (v : RxParts). counts_of v.stored) (sym c.self.view_is) in
    subst IsStrictlyIncreasing (sym counts) (counts_increase (c.self.inside.deliv + 1) stored c.self.invariant.in_order.ascends)

pub encode_report-requires-clause-above : goal.encode_report-requires-clause-above
encode_report-requires-clause-above c =
    let d = c.self.inside.deliv in
    let stored = ring_from c.self.inside.ring d in
    let counts : c.in_ok-stored.field-0 ≡ counts_of stored = c.in_ok-stored.ensures ∙ ap (λ (v : RxParts). counts_of v.stored) (sym c.self.view_is) in
    subst (All (λ k. d < k)) (sym counts) (counts_above d (d + 1) stored (omega arith) c.self.invariant.in_order.ascends)
