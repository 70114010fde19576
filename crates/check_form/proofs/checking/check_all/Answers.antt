use Rattle.std.proofs.Common.{ℕ, ◌≡◌, List, Some, Option, inl, rules, subst}
use Rattle.transcript_entries.specs.Read.{IsOpened, IsUnopened, ahead}
use Rattle.check_form.specs.Verdicts.{IsVerdict}
use Rattle.check_form.specs.declared.verdict.Verdict.TheVariants as verdict
use Rattle.check_form.proofs.SoFar.{so_far_first}
use Rattle.check_form.proofs.checking.check_all.Goals as goal

pub returns-in_err-opened-clause-unread : goal.returns-in_err-opened-clause-unread
returns-in_err-opened-clause-unread g c = λ octets told.
    let cut : IsVerdict (verdict.Unread c.in_err-opened.field-0.0) octets = inl (subst (IsUnopened c.in_err-opened.field-0.0) told c.in_err-opened.ensures.unopened) in
    search rules

pub returns-clause-verdict : goal.returns-clause-verdict
returns-clause-verdict g c = λ octets told.
    c.check_entries.ensures.verdict octets
    (so_far_first octets (g.S.Source.left c.open.new.source) c.in_ok-opened.opened.0 c.in_ok-opened.opened.1 c.in_ok-checker.checker
    (subst (λ (o : Option (List ℕ)). IsOpened o (g.S.Source.left c.open.new.source) c.in_ok-opened.opened.0 c.in_ok-opened.opened.1) told c.in_ok-opened.ensures.opened) c.in_ok-checker.ensures)

pub returns-clause-unread : goal.returns-clause-unread
returns-clause-unread g c = λ octets told.
    c.check_entries.ensures.unread octets
    (so_far_first octets (g.S.Source.left c.open.new.source) c.in_ok-opened.opened.0 c.in_ok-opened.opened.1 c.in_ok-checker.checker
    (subst (λ (o : Option (List ℕ)). IsOpened o (g.S.Source.left c.open.new.source) c.in_ok-opened.opened.0 c.in_ok-opened.opened.1) told c.in_ok-opened.ensures.opened) c.in_ok-checker.ensures)
