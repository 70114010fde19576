use Rattle.std.proofs.Common.{rules, ◌≡◌, arith}
use Rattle.std.specs.Prelude.{Err}
use Rattle.node_rules.specs.Choices.{Choices, by_policies}
use Rattle.split_leg.specs.Stored.{margins}
use Rattle.made_runs.specs.Made.{IsMakeable, turned}
use Rattle.made_runs.specs.declared.halt.Halt.TheVariants.{TooLong}
use Rattle.made_runs.proofs.Limits.{makeable, run_past, too_long}
use Rattle.made_runs.proofs.Texts.{made_whole}
use Rattle.made_runs.proofs.making.script_of.Goals as goal

pub returns-in_err-run_to_closing-clause-past : goal.returns-in_err-run_to_closing-clause-past
returns-in_err-run_to_closing-clause-past g c =
    let choices : Choices = by_policies (margins c.args.policies.now) in
    let past : Err c.in_err-run_to_closing.field-0.0 ≡ Err TooLong → IsMakeable choices c.args.seed c.args.turns → ⊥ =
    λ is made. run_past choices (turned choices c.args.seed c.args.turns) (c.in_err-run_to_closing.ensures.past is) made.ran in
    search rules

pub returns-then-len-gt-MAX_SCRIPT-clause-past : goal.returns-then-len-gt-MAX_SCRIPT-clause-past
returns-then-len-gt-MAX_SCRIPT-clause-past g c = λ is.
    too_long (by_policies (margins c.args.policies.now)) c.args.seed c.args.turns c.write_lines-2.new.out
    (made_whole (by_policies (margins c.args.policies.now)) c.args.seed c.args.turns c.made_header.result c.opening.result c.closing.result
    c.new-text.result c.write_first.new.out c.write_lines.new.out c.run_to_closing.new.text c.write_lines-2.new.out
    c.made_header.ensures c.opening.ensures c.closing.ensures c.new-text.ensures
    c.in_ok-write_first.ensures c.in_ok-write_lines.ensures c.in_ok-run_to_closing.ensures.written c.in_ok-write_lines-2.ensures)
    c.len.result c.len.ensures c.if-len-gt-MAX_SCRIPT.true

pub returns-clause-text : goal.returns-clause-text
returns-clause-text g c =
    made_whole (by_policies (margins c.args.policies.now)) c.args.seed c.args.turns c.made_header.result c.opening.result c.closing.result
    c.new-text.result c.write_first.new.out c.write_lines.new.out c.run_to_closing.new.text c.write_lines-2.new.out
    c.made_header.ensures c.opening.ensures c.closing.ensures c.new-text.ensures
    c.in_ok-write_first.ensures c.in_ok-write_lines.ensures c.in_ok-run_to_closing.ensures.written c.in_ok-write_lines-2.ensures

pub returns-clause-within : goal.returns-clause-within
returns-clause-within g c =
    makeable (by_policies (margins c.args.policies.now)) c.args.seed c.args.turns c.write_lines-2.new.out c.run_to_closing.new.run
    c.in_ok-run_to_closing.ensures.ran
    (made_whole (by_policies (margins c.args.policies.now)) c.args.seed c.args.turns c.made_header.result c.opening.result c.closing.result
    c.new-text.result c.write_first.new.out c.write_lines.new.out c.run_to_closing.new.text c.write_lines-2.new.out
    c.made_header.ensures c.opening.ensures c.closing.ensures c.new-text.ensures
    c.in_ok-write_first.ensures c.in_ok-write_lines.ensures c.in_ok-run_to_closing.ensures.written c.in_ok-write_lines-2.ensures)
    c.len.result c.len.ensures (omega (arith, c.if-len-gt-MAX_SCRIPT.false))
