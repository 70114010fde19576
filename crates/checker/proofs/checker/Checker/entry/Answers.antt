use Rattle.std.proofs.Common.{sym, ◌∙◌, arith}
use Rattle.transcript.specs.Transcript.{Entry}
use Rattle.checker.specs.declared.claim.Claim.TheVariants.{Cause}
use Rattle.checker.proofs.Entries.{after_lines, as_whole, before_lines, breaks_at, passes_at, whole_broken, whole_holds}
use Rattle.checker.proofs.checker.Checker.entry.Goals as goal

pub returns-then-not-has_cause-clause-broken : goal.returns-then-not-has_cause-clause-broken
returns-then-not-has_cause-clause-broken c = λ p are.
    let e : Entry = record { event = c.args.event.now; answer = c.args.answer; lines = c.args.lines.now } in
    as_whole p e Cause (whole_broken p e (sym (c.in_ok-has_cause.ensures p c.args.lines.now are) ∙ c.if-not-has_cause.true))

pub loop-place-init : goal.loop-place-init
loop-place-init c = λ p are.
    let e : Entry = record { event = c.args.event.now; answer = c.args.answer; lines = c.args.lines.now } in
    before_lines _ p e (c.in_ok-judge.ensures p are) (whole_holds p e (sym (c.in_ok-has_cause.ensures p c.args.lines.now are) ∙ c.if-not-has_cause.false))

pub loop-place-preserved : goal.loop-place-preserved
loop-place-preserved c = λ p are.
    passes_at c.loop-place.self _ p _ c.loop-place.place c.index-lines-place.result (c.loop-place.invariant p are) c.loop-place-test.true
    (sym c.index-lines-place.is) (λ q parts. sym c.in-None.is ∙ c.broken_by.ensures q parts) (λ q parts. c.in_ok-note-in-None.ensures q parts)

pub returns-in-Some-clause-broken : goal.returns-in-Some-clause-broken
returns-in-Some-clause-broken c = λ p are.
    breaks_at c.loop-place.self p _ c.loop-place.place c.index-lines-place.result c.in-Some.claim (c.loop-place.invariant p are) c.loop-place-test.true
    (sym c.index-lines-place.is) (λ q parts. sym c.in-Some.is ∙ c.broken_by.ensures q parts)

pub returns-clause-broken : goal.returns-clause-broken
returns-clause-broken c = λ p are. sym (after_lines c.loop-place.self p _ c.loop-place.place (c.loop-place.invariant p are) (omega arith)).1

pub returns-clause-after : goal.returns-clause-after
returns-clause-after c = λ p are. (after_lines c.loop-place.self p _ c.loop-place.place (c.loop-place.invariant p are) (omega arith)).0
