use Rattle.std.proofs.Common.{◌<◌, ◌≤◌, ◌^◌, length, get_or, sym, ◌∙◌, arith, inl, inr}
use Rattle.std.proofs.lemmas.Bool.{cases_lt, ltb-false}
use Rattle.pdcp_tx.specs.Slots.{count_at}
use Rattle.pdcp_tx.proofs.Named.{none-due, due-past}
use Rattle.pdcp_tx.proofs.Slots.{slot_entries-below}
use Rattle.pdcp_tx.proofs.kept.empty_named.Goals as goal

pub returns-clause-live : goal.returns-clause-live
returns-clause-live c =
    let slots = c.args.kept.now.items in
    let left = c.loop-place.invariant in
    let len = left.len in
    let fits : c.args.next < 2 ^ 32 = omega arith in
    sym (none-due c.args.next c.args.fmc c.args.bits.now c.loop-place.kept.items
    (λ k d inside. elim (cases_lt k c.loop-place.place) [
      | inl below ↦ left.done k below d
      | inr above ↦
          let within : k < length slots = omega arith in
          let past : c.place_of-end.result ≤ k = omega arith in
          let le : c.past.result ≤ count_at c.args.next (get_or slots k d).0 = ltb-false _ _ (c.place_of-end.ensures.place.1 k d past within) in
          rw (left.later k above d) (due-past c.args.next c.args.fmc c.args.bits.now c.past.result (get_or slots k d).0 c.past.ensures fits le (slot_entries-below c.requires.from c.args.next slots c.requires.rises k d within))
    ]))
    ∙ left.rest
