use Rattle.std.proofs.Common.{refl, inr}
use Rattle.check_form.specs.Verdicts.{IsVerdict}
use Rattle.check_form.specs.Written.{fails_text}
use Rattle.check_form.specs.declared.verdict.Verdict.TheVariants as verdict
use Rattle.check_form.proofs.Telling.{line_failed}
use Rattle.check_form.proofs.form.check_command.Goals as goal

pub returns-in-Err-write_line-clause-checked : goal.returns-in-Err-write_line-clause-checked
returns-in-Err-write_line-clause-checked g c = λ octets told.
    let v : IsVerdict (verdict.Fails c.in-Fails.line c.in-Fails.claim) octets = rw c.in-Fails.is at (c.check.ensures.verdict octets told) in
    line_failed _ g.K.Sink.put_out c.args.out.now c.write_line-in-Fails.new.out octets c.fails_text.result (fails_text c.in-Fails.line c.in-Fails.claim) c.in-Err-write_line.outcome
    c.fails_text.ensures (inr (c.in-Fails.line, c.in-Fails.claim, v, refl)) c.in-Err-write_line.ensures.front c.in-Err-write_line.ensures.none
