use Rattle.std.proofs.Common.{ℕ, ◌≡◌, ◌≤◌, List, Some, None, Option, refl, sym, ◌∙◌, rules, arith, subst}
use Rattle.dc_base.specs.declared.events.Line.{Line}
use Rattle.claims.specs.Noted.{after, past}
use Rattle.checker.specs.Decided.{first_broken}
use Rattle.checker.specs.Parts.{ArePartsOf}
use Rattle.transcript_entries.specs.Read.{ahead}
use Rattle.check_form.specs.Verdicts.{IsVerdict}
use Rattle.check_form.specs.declared.verdict.Verdict.TheVariants as verdict
use Rattle.check_form.proofs.SoFar.{after_entry, ends_badly, ends_cut, ends_well, event_there, is_settled, not_so_many, read_with}
use Rattle.check_form.proofs.checking.check_entries.Goals as goal

pub returns-in_err-entry-clause-unread : goal.returns-in_err-entry-clause-unread
returns-in_err-entry-clause-unread g c = λ octets start.
    let a = c.loop-entries.invariant.after octets start in
    let there = event_there c.loop-entries.reader.event c.in_err-entry.ensures.due in
    let cut : IsVerdict (verdict.Unread c.in_err-entry.field-0.0) octets =
    ends_cut octets c.loop-entries.entries c.loop-entries.reader (ahead c.loop-entries.reader.reader (g.S.Source.left c.loop-entries.source)) c.loop-entries.checker
    c.in_err-entry.field-0.0 there.0 a there.1 (c.in_err-entry.ensures.unread (is_settled octets c.loop-entries.entries _ _ _ a)) in
    search rules

pub returns-in_default-clause-verdict : goal.returns-in_default-clause-verdict
returns-in_default-clause-verdict g c = λ octets start.
    ends_well octets c.loop-entries.entries c.loop-entries.reader (ahead c.loop-entries.reader.reader (g.S.Source.left c.loop-entries.source)) c.loop-entries.checker
    (c.loop-entries.invariant.after octets start) (rw c.in_default.is at c.in_ok-entry.ensures.end)

pub returns-in-Some-tried-clause-verdict : goal.returns-in-Some-tried-clause-verdict
returns-in-Some-tried-clause-verdict g c = λ octets start.
    let a = c.loop-entries.invariant.after octets start in
    let given = rw c.in-Some.is at c.in_ok-entry.ensures.entry in
    ends_badly octets c.loop-entries.entries c.line_of.result c.loop-entries.reader c.next.new.self (g.S.Source.left c.loop-entries.source) (g.S.Source.left c.next.new.source)
    c.in-Some.entry c.loop-entries.checker c.in-Some-tried.broken a (given (is_settled octets c.loop-entries.entries _ _ _ a))
    (λ policies h t are. subst (λ (ls : List Line). first_broken (past h policies t) (read_with c.in-Some.entry ls) ≡ Some c.in-Some-tried.broken) c.as_slice.ensures
    (sym (rw c.in-Some-tried.is at (c.in_ok-tried.ensures.broken (past h policies t) are)))) c.line_of.ensures

pub loop-entries-preserved : goal.loop-entries-preserved
loop-entries-preserved g c =
    let i = c.loop-entries.invariant in
    record {
      after = λ octets start.
          let a = i.after octets start in
          let given = rw c.in-Some.is at c.in_ok-entry.ensures.entry in
          after_entry octets c.loop-entries.entries c.loop-entries.reader c.next.new.self (g.S.Source.left c.loop-entries.source) (g.S.Source.left c.next.new.source)
          c.in-Some.entry c.loop-entries.checker c.entry.new.self a (given (is_settled octets c.loop-entries.entries _ _ _ a))
          (λ policies h t are. subst (λ (ls : List Line). first_broken (past h policies t) (read_with c.in-Some.entry ls) ≡ None) c.as_slice.ensures
          (sym (rw c.in-None.is at (c.in_ok-tried.ensures.broken (past h policies t) are))))
          (λ policies h t are. subst (λ (ls : List Line). ArePartsOf c.entry.new.self (after (past h policies t) (read_with c.in-Some.entry ls))) c.as_slice.ensures
          (rw c.in-None.is at (c.in_ok-tried.ensures.after (past h policies t) are)));
      few = c.in_ok-entry.ensures.few;
      kept = c.in_ok-entry.ensures.kept ∙ i.kept;
    }

pub returns-clause-unread : goal.returns-clause-unread
returns-clause-unread g c = λ octets start.
    let last : c.loop-entries.entries ≡ 4294967295 = omega arith in
    absurd (not_so_many octets c.loop-entries.entries last c.loop-entries.reader (ahead c.loop-entries.reader.reader (g.S.Source.left c.loop-entries.source)) c.loop-entries.checker
    (c.loop-entries.invariant.after octets start) c.loop-entries.invariant.few)
