use Rattle.std.proofs.Common.{rules, ◌≡◌}
use Rattle.std.specs.Prelude.{Err}
use Rattle.node_rules.specs.Choices.{Choices, by_policies}
use Rattle.split_leg.specs.Stored.{margins}
use Rattle.made_runs.specs.Made.{IsSummable, made_events}
use Rattle.made_runs.specs.declared.halt.Halt.TheVariants.{TooLong}
use Rattle.made_runs.proofs.Limits.{closed_past, closed_run, run_past, run_within, summary_whole, turned_past_all}
use Rattle.made_runs.proofs.making.summary_of.Goals as goal

pub returns-in_err-run_to_closing-clause-past : goal.returns-in_err-run_to_closing-clause-past
returns-in_err-run_to_closing-clause-past g c =
    let choices : Choices = by_policies (margins c.args.policies.now) in
    let past : Err c.in_err-run_to_closing.field-0.0 ≡ Err TooLong → IsSummable choices c.args.seed c.args.turns → ⊥ =
    λ is. run_past choices (made_events choices c.args.seed c.args.turns) (turned_past_all choices c.args.seed c.args.turns (c.in_err-run_to_closing.ensures.past is)) in
    search rules

pub returns-in_err-lines-clause-past : goal.returns-in_err-lines-clause-past
returns-in_err-lines-clause-past g c =
    let choices : Choices = by_policies (margins c.args.policies.now) in
    let past : Err c.in_err-lines.field-0.0 ≡ Err TooLong → IsSummable choices c.args.seed c.args.turns → ⊥ =
    λ is. run_past choices (made_events choices c.args.seed c.args.turns)
    (closed_past choices c.run_to_closing.new.run c.closing.result c.args.seed c.args.turns c.closing.ensures c.in_ok-run_to_closing.ensures.ran (c.in_err-lines.ensures.past is)) in
    search rules

pub returns-clause-text : goal.returns-clause-text
returns-clause-text g c =
    let choices : Choices = by_policies (margins c.args.policies.now) in
    summary_whole choices c.lines-2.new.self c.args.seed c.args.turns c.new-text.result c.write_summary.new.out
    (closed_run choices c.run_to_closing.new.run c.lines-2.new.self c.closing.result c.args.seed c.args.turns c.closing.ensures
    c.in_ok-run_to_closing.ensures.ran c.in_ok-lines.ensures.ran) c.new-text.ensures c.in_ok-write_summary.ensures

pub returns-clause-within : goal.returns-clause-within
returns-clause-within g c =
    let choices : Choices = by_policies (margins c.args.policies.now) in
    run_within choices c.lines-2.new.self (made_events choices c.args.seed c.args.turns)
    (closed_run choices c.run_to_closing.new.run c.lines-2.new.self c.closing.result c.args.seed c.args.turns c.closing.ensures
    c.in_ok-run_to_closing.ensures.ran c.in_ok-lines.ensures.ran)
