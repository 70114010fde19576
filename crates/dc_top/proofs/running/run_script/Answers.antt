use Rattle.std.proofs.Common.{rules, [], ap}
use Rattle.std.specs.Io.KnownBytes.{prepend_known}
use Rattle.node_rules.specs.Choices.{Choices, by_policies}
use Rattle.split_leg.specs.Stored.{margins}
use Rattle.dc_top.specs.Ended.{HasEnded}
use Rattle.dc_top.proofs.SoFar.{unread_header, end_at_header, end_before_lines, after_header}
use Rattle.dc_top.proofs.running.run_script.Goals as goal

pub returns-in_err-header-clause-ended : goal.returns-in_err-header-clause-ended
returns-in_err-header-clause-ended g c = λ input told.
    let choices : Choices = by_policies (margins c.args.policies.now) in
    let un = rw (c.new-reader.ensures.held, c.new-reader.ensures.passed) at c.in_err-header.ensures.unread in
    let ended : HasEnded choices input c.in_err-header.field-0.0 (g.S.Source.left c.take_header.new.src) (g.K.Sink.put_out c.args.out.now) (g.K.Sink.put_out c.args.out.now) =
    unread_header choices c.in_err-header.field-0.0 input (prepend_known [] (g.S.Source.left c.args.src.now)) _ _ (ap (prepend_known []) told) un in
    search rules

pub returns-in_err-write_first-clause-ended : goal.returns-in_err-write_first-clause-ended
returns-in_err-write_first-clause-ended g c = λ input told.
    let choices : Choices = by_policies (margins c.args.policies.now) in
    let line = rw c.new-reader.ensures.held at c.in_ok-header.ensures.line in
    let counted = rw (c.new-reader.ensures.held, c.new-reader.ensures.passed) at c.in_ok-header.ensures.passed in
    let ends = rw c.new-reader.ensures.held at c.in_ok-header.ensures.last in
    let ended : HasEnded choices input c.in_err-write_first.field-0.0 (g.S.Source.left c.take_header.new.src) (g.K.Sink.put_out c.args.out.now) (g.K.Sink.put_out c.write_first.new.out) =
    end_at_header choices c.in_err-write_first.field-0.0 c.in_ok-header.header input c.take_header.new.reader.held (g.S.Source.left c.args.src.now) _ _ _ c.take_header.new.reader.passed
    c.take_header.new.reader.ended told c.in_ok-header.ensures.header line counted ends c.in_ok-header.ensures.total c.in_ok-header.ensures.ahead c.in_err-write_first.ensures.unwritten in
    search rules

pub returns-in_default-clause-ended : goal.returns-in_default-clause-ended
returns-in_default-clause-ended g c = λ input told.
    let choices : Choices = by_policies (margins c.args.policies.now) in
    let line = rw c.new-reader.ensures.held at c.in_ok-header.ensures.line in
    let counted = rw (c.new-reader.ensures.held, c.new-reader.ensures.passed) at c.in_ok-header.ensures.passed in
    let ends = rw c.new-reader.ensures.held at c.in_ok-header.ensures.last in
    end_before_lines choices c.in_ok-header.header input c.take_header.new.reader.held (g.S.Source.left c.args.src.now) (g.S.Source.left c.take_header.new.src) _ _
    c.take_header.new.reader.passed c.take_header.new.reader.ended told c.in_ok-header.ensures.header line counted ends c.in_ok-header.ensures.total c.in_ok-write_first.ensures.written

pub returns-clause-ended : goal.returns-clause-ended
returns-clause-ended g c = λ input told.
    let line = rw c.new-reader.ensures.held at c.in_ok-header.ensures.line in
    let counted = rw (c.new-reader.ensures.held, c.new-reader.ensures.passed) at c.in_ok-header.ensures.passed in
    let ends = rw c.new-reader.ensures.held at c.in_ok-header.ensures.last in
    c.run_lines.ensures.ended _ _
    (after_header (by_policies (margins c.args.policies.now)) c.in_ok-header.header c.in-Ok.network c.take_header.new.reader.passed c.take_header.new.reader.ended
    (g.S.Source.left c.args.src.now) _ _ _ c.in_ok-header.ensures.header c.in-Ok.ensures
    c.in_ok-write_first.ensures.written line counted ends c.in_ok-header.ensures.total)
    input told
