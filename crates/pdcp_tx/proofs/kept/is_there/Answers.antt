use Rattle.std.proofs.Common.{◌≤◌, length, ap, ◌∙◌, rules, arith, inl, inr}
use Rattle.std.proofs.lemmas.Bool.{cases_Bool, ne_eqb, both_ways}
use Rattle.std.proofs.lemmas.List.{get_or_default}
use Rattle.pdcp_tx.specs.Sender.{Entry}
use Rattle.pdcp_tx.specs.Slots.{is_live}
use Rattle.pdcp_tx.proofs.Slots.{kept-place}
use Rattle.pdcp_tx.proofs.kept.is_there.Goals as goal

pub returns-in-None-clause-other : goal.returns-in-None-clause-other
returns-in-None-clause-other c =
    let out : length c.args.kept.now.items ≤ c.args.place = search rules in
    kept-place c.args.count c.requires.slots.from c.args.next c.args.kept.now.items c.args.place c.requires.slots.rises c.requires.place (λ d inside same there. omega arith)

pub returns-then-mark-count-clause-other : goal.returns-then-mark-count-clause-other
returns-then-mark-count-clause-other c =
    rw c.is_live.ensures
    (elim (cases_Bool (is_live c.args.next c.args.count)) [
      | inl yes' ↦ rw yes' tt
      | inr no' ↦ rw no' (kept-place c.args.count c.requires.slots.from c.args.next c.args.kept.now.items c.args.place c.requires.slots.rises c.requires.place (λ d inside same there. both_ways _ no' there))
    ])

pub returns-else-mark-count-clause-other : goal.returns-else-mark-count-clause-other
returns-else-mark-count-clause-other c =
    rw (ne_eqb _ _ c.if-mark-count.false)
    (kept-place c.args.count c.requires.slots.from c.args.next c.args.kept.now.items c.args.place c.requires.slots.rises c.requires.place
    (λ d inside same there. c.if-mark-count.false (ap (λ (e : Entry). e.0) (c.in-Some.ensures.lookup ∙ get_or_default c.args.kept.now.items c.args.place c.in-Some.field-0.now d inside) ∙ same)))
