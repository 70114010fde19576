use Rattle.std.proofs.Common.{rules, refl, ◌∙◌, arith}
use Rattle.node_rules.specs.Choices.{Choices, by_policies}
use Rattle.split_leg.specs.Stored.{margins}
use Rattle.dc_top.specs.Ended.{HasEnded}
use Rattle.dc_top.proofs.SoFar.{after_line, end_of_input, end_of_lines, no_line, end_in_line}
use Rattle.dc_top.proofs.running.run_lines.Goals as goal

pub loop-number-init : goal.loop-number-init
loop-number-init g c = (λ all before so_far. so_far, c.requires, refl, refl)

pub returns-in_err-line-clause-ended : goal.returns-in_err-line-clause-ended
returns-in_err-line-clause-ended g c = λ all before so_far input told.
    let choices : Choices = by_policies (margins c.args.policies.now) in
    let i = c.loop-number.invariant in
    let ended : HasEnded choices input c.in_err-line.field-0.0 (g.S.Source.left c.take_line.new.src) before (g.K.Sink.put_out c.loop-number.out) =
    no_line choices _ c.loop-number.number c.loop-number.reader.passed c.loop-number.reader.ended _ _ _ _ (i.0 all before so_far) input told _ c.in_err-line.field-0.0
    (λ over. let none = c.in_err-line.ensures.after_end over in cc) c.in_err-line.ensures.unread in
    search rules

pub returns-in_default-clause-ended : goal.returns-in_default-clause-ended
returns-in_default-clause-ended g c = λ all before so_far input told.
    let choices : Choices = by_policies (margins c.args.policies.now) in
    let i = c.loop-number.invariant in
    end_of_input choices _ c.loop-number.number c.loop-number.reader.passed c.loop-number.reader.ended _ _ _ _ (i.0 all before so_far) input told (g.S.Source.left c.take_line.new.src)
    c.take_line.new.reader.held (rw c.in_default.is at c.in_ok-line.ensures.end) (λ over. let same = c.in_ok-line.ensures.after_end over in cc)

pub returns-in_err-run_line-clause-ended : goal.returns-in_err-run_line-clause-ended
returns-in_err-run_line-clause-ended g c = λ all before so_far input told.
    let choices : Choices = by_policies (margins c.args.policies.now) in
    let i = c.loop-number.invariant in
    let ended : HasEnded choices input c.in_err-run_line.field-0.0 (g.S.Source.left c.take_line.new.src) before (g.K.Sink.put_out c.run_line.new.out) =
    end_in_line choices c.loop-number.network c.loop-number.number c.loop-number.reader.passed c.loop-number.reader.ended _ _ _ _ (i.0 all before so_far) input told (g.S.Source.left c.take_line.new.src)
    c.in_err-run_line.field-0.0 c.in-Some.line
    c.take_line.new.reader.held c.take_line.new.reader.passed c.take_line.new.reader.ended _ (rw c.in-Some.is at c.in_ok-line.ensures.in_range) (rw c.in-Some.is at c.in_ok-line.ensures.short)
    (rw c.in-Some.is at c.in_ok-line.ensures.line) (rw c.in-Some.is at c.in_ok-line.ensures.passed) (rw c.in-Some.is at c.in_ok-line.ensures.last)
    c.in_ok-line.ensures.total c.in_ok-line.ensures.ahead c.in_err-run_line.ensures.stopped in
    search rules

pub loop-number-preserved : goal.loop-number-preserved
loop-number-preserved g c =
    let choices : Choices = by_policies (margins c.args.policies.now) in
    let i = c.loop-number.invariant in
    let ran = c.in_ok-run_line.ensures.ran in (
      λ all before so_far. after_line choices c.loop-number.network c.loop-number.number c.loop-number.reader.passed c.loop-number.reader.ended _ _ _ _ (i.0 all before so_far) c.in-Some.line c.run_line.new.network ran.0
          c.take_line.new.reader.passed c.take_line.new.reader.ended _ _
          (rw c.in-Some.is at c.in_ok-line.ensures.in_range) (rw c.in-Some.is at c.in_ok-line.ensures.short) ran.1 ran.2
          (rw c.in-Some.is at c.in_ok-line.ensures.line) (rw c.in-Some.is at c.in_ok-line.ensures.passed) (rw c.in-Some.is at c.in_ok-line.ensures.last) c.in_ok-line.ensures.total,
      ran.2.within,
      c.in_ok-line.ensures.kept ∙ i.2,
      c.in_ok-run_line.ensures.kept ∙ i.3,
    )

pub returns-clause-ended : goal.returns-clause-ended
returns-clause-ended g c = λ all before so_far input told.
    let choices : Choices = by_policies (margins c.args.policies.now) in
    let i = c.loop-number.invariant in
    end_of_lines choices c.loop-number.network c.loop-number.number c.loop-number.reader.passed c.loop-number.reader.ended _ _ _ _ (i.0 all before so_far) input told (g.S.Source.left c.loop-number.src) (omega arith)
