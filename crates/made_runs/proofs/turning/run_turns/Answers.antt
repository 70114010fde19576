use Rattle.std.proofs.Common.{rules, ◌≡◌, ◌<◌, ◌≤◌, arith}
use Rattle.std.specs.Prelude.{Err}
use Rattle.node_rules.specs.Choices.{Choices, by_policies}
use Rattle.split_leg.specs.Stored.{margins}
use Rattle.made_scripts.specs.Scripts.{turns_from}
use Rattle.made_runs.specs.Running.{PassesLimit}
use Rattle.made_runs.specs.declared.halt.Halt.TheVariants.{TooLong}
use Rattle.made_runs.proofs.Turns.{turns_end, turns_first, turns_more, turns_past}
use Rattle.made_runs.proofs.turning.run_turns.Goals as goal

pub loop-number-init : goal.loop-number-init
loop-number-init g c =
    turns_first (by_policies (margins c.args.policies.now)) c.args.run.now c.args.seed c.args.turns c.new-draws.result c.args.text.now c.requires c.new-draws.ensures

pub returns-in_err-run_turn-clause-past : goal.returns-in_err-run_turn-clause-past
returns-in_err-run_turn-clause-past g c =
    let choices : Choices = by_policies (margins c.args.policies.now) in
    let less : c.loop-number.number < c.args.turns = omega (arith, c.loop-number-test.true) in
    let past : Err c.in_err-run_turn.field-0.0 ≡ Err TooLong → PassesLimit choices c.args.run.now (turns_from choices c.args.run.now.counting.world 0 c.args.seed c.args.turns) =
    λ is. turns_past choices c.args.run.now c.loop-number.run c.args.seed c.args.turns c.loop-number.number c.loop-number.draws c.args.text.now c.loop-number.text
    c.loop-number.invariant less (c.in_err-run_turn.ensures.past is) in
    search rules

pub loop-number-preserved : goal.loop-number-preserved
loop-number-preserved g c =
    let less : c.loop-number.number < c.args.turns = omega (arith, c.loop-number-test.true) in
    turns_more (by_policies (margins c.args.policies.now)) c.args.run.now c.loop-number.run c.args.seed c.args.turns c.loop-number.number c.loop-number.draws
    c.args.text.now c.loop-number.text c.loop-number.invariant c.run_turn.new.run c.run_turn.new.draws c.run_turn.new.text less
    c.in_ok-run_turn.ensures.ran c.in_ok-run_turn.ensures.drawn c.in_ok-run_turn.ensures.written

pub returns-clause-ran : goal.returns-clause-ran
returns-clause-ran g c =
    let past : c.args.turns ≤ c.loop-number.number = omega (arith, c.loop-number-test.false) in
    let ended = turns_end (by_policies (margins c.args.policies.now)) c.args.run.now c.loop-number.run c.args.seed c.args.turns c.loop-number.number c.loop-number.draws
    c.args.text.now c.loop-number.text c.loop-number.invariant past in
    ended.0

pub returns-clause-written : goal.returns-clause-written
returns-clause-written g c =
    let past : c.args.turns ≤ c.loop-number.number = omega (arith, c.loop-number-test.false) in
    let ended = turns_end (by_policies (margins c.args.policies.now)) c.args.run.now c.loop-number.run c.args.seed c.args.turns c.loop-number.number c.loop-number.draws
    c.args.text.now c.loop-number.text c.loop-number.invariant past in
    ended.1
