use Rattle.std.proofs.Common.{rules, ◌≡◌}
use Rattle.std.specs.Prelude.{Err}
use Rattle.std.proofs.lemmas.Result.{on_ok_weaker}
use Rattle.node_rules.specs.Choices.{Choices, by_policies}
use Rattle.split_leg.specs.Stored.{margins}
use Rattle.made_runs.specs.Made.{turned}
use Rattle.made_runs.specs.Running.{PassesLimit, run_start}
use Rattle.made_runs.specs.declared.halt.Halt.TheVariants.{TooLong}
use Rattle.made_runs.proofs.Limits.{opening_past, turned_past, turned_run, turned_written}
use Rattle.made_runs.proofs.making.run_to_closing.Goals as goal

pub returns-in_err-lines-clause-past : goal.returns-in_err-lines-clause-past
returns-in_err-lines-clause-past g c =
    let choices : Choices = by_policies (margins c.args.policies.now) in
    let past : Err c.in_err-lines.field-0.0 ≡ Err TooLong → PassesLimit choices run_start (turned choices c.args.seed c.args.turns) =
    λ is. opening_past choices c.args.run.now c.opening.result c.args.seed c.args.turns c.requires c.opening.ensures (c.in_err-lines.ensures.past is) in
    search rules

pub returns-clause-ran : goal.returns-clause-ran
returns-clause-ran g c =
    on_ok_weaker c.run_turns.result
    (turned_run (by_policies (margins c.args.policies.now)) c.args.run.now c.lines.new.self c.run_turns.new.run c.opening.result c.args.seed c.args.turns c.requires c.opening.ensures
    c.in_ok-lines.ensures.ran) c.run_turns.ensures.ran

pub returns-clause-written : goal.returns-clause-written
returns-clause-written g c =
    turned_written (by_policies (margins c.args.policies.now)) c.run_turns.result c.args.run.now c.lines.new.self c.opening.result c.args.seed c.args.turns
    c.args.text.now c.run_turns.new.text c.requires c.opening.ensures c.in_ok-lines.ensures.ran c.run_turns.ensures.written

pub returns-clause-past : goal.returns-clause-past
returns-clause-past g c = λ is.
    turned_past (by_policies (margins c.args.policies.now)) c.args.run.now c.lines.new.self c.opening.result c.args.seed c.args.turns c.requires c.opening.ensures
    c.in_ok-lines.ensures.ran (c.run_turns.ensures.past is)
