use Rattle.std.proofs.Common.{◌<◌, ◌^◌, not, refl, sym, ap, ◌∙◌, arith, get_or-set_same}
use Rattle.std.specs.List.{filter}
use Rattle.std.proofs.lemmas.Bool.{and_parts, and_left}
use Rattle.pdcp_pdu.specs.Bitmap.{names}
use Rattle.pdcp_tx.specs.Sender.{Entry}
use Rattle.pdcp_tx.specs.Slots.{live}
use Rattle.pdcp_tx.proofs.Emptied.{emptied-live, emptied-slots, emptied-far}
use Rattle.pdcp_tx.proofs.Named.{named-without}
use Rattle.pdcp_tx.proofs.kept.empty_if_named.Goals as goal

pub returns-then-is_due-clause-slots : goal.returns-then-is_due-clause-slots
returns-then-is_due-clause-slots c =
    let fits : c.args.next < 2 ^ 32 = omega arith in
    let due = and_parts _ _ (sym c.is_due.ensures ∙ c.if-is_due.true) in
    let mark = c.index.result.now.0 in
    rw c.empty.ensures (emptied-slots c.args.next mark c.args.kept.now.items c.args.place c.index.result.now c.requires.slots fits (record { inside = c.requires.inside; at = c.index.ensures; same = refl; live = due.0 }))

pub returns-then-is_due-clause-rest : goal.returns-then-is_due-clause-rest
returns-then-is_due-clause-rest c =
    let fits : c.args.next < 2 ^ 32 = omega arith in
    let due = and_parts _ _ (sym c.is_due.ensures ∙ c.if-is_due.true) in
    let mark = c.index.result.now.0 in
    rw c.empty.ensures
    (ap (filter (λ (e : Entry). not (names c.args.fmc c.args.bits.now e.0)))
    (emptied-live c.args.next mark c.args.kept.now.items c.args.place c.index.result.now c.requires.slots fits (record { inside = c.requires.inside; at = c.index.ensures; same = refl; live = due.0 }))
    ∙ named-without c.args.fmc c.args.bits.now mark (live c.args.next c.args.kept.now.items) due.1)

pub returns-then-is_due-clause-done : goal.returns-then-is_due-clause-done
returns-then-is_due-clause-done c = λ d.
    let fits : c.args.next < 2 ^ 32 = omega arith in
    let due = and_parts _ _ (sym c.is_due.ensures ∙ c.if-is_due.true) in
    let mark = c.index.result.now.0 in
    let inside = c.requires.inside in
    let far = emptied-far c.args.next mark c.args.kept.now.items c.args.place c.index.result.now c.requires.slots fits (record { inside = c.requires.inside; at = c.index.ensures; same = refl; live = due.0 }) in
    rw (c.empty.ensures, get_or-set_same) (and_left _ _ far)
