use Rattle.std.proofs.Common.{rules, ◌≡◌, ◌<◌, ◌≤◌, length, arith}
use Rattle.std.specs.Prelude.{Err}
use Rattle.node_rules.specs.Choices.{Choices, by_policies}
use Rattle.split_leg.specs.Stored.{margins}
use Rattle.made_scripts.specs.Scripts.{script_events}
use Rattle.made_runs.specs.Running.{PassesLimit}
use Rattle.made_runs.specs.declared.halt.Halt.TheVariants.{TooLong}
use Rattle.made_runs.proofs.Turns.{lines_end, lines_more, lines_past}
use Rattle.made_runs.proofs.running.MadeRun.lines.Goals as goal

pub returns-in_err-line-clause-past : goal.returns-in_err-line-clause-past
returns-in_err-line-clause-past g c =
    let choices : Choices = by_policies (margins c.args.policies.now) in
    let less : c.loop-line.line-index < length c.args.lines.now = omega (arith, c.loop-line-test.true) in
    let past : Err c.in_err-line.field-0.0 ≡ Err TooLong → PassesLimit choices c.args.self.now (script_events choices c.args.self.now.counting.world c.args.lines.now) =
    λ is. lines_past choices c.args.self.now c.loop-line.self c.args.lines.now c.loop-line.line-index c.loop-line.invariant c.line-item.result less c.line-item.is (c.in_err-line.ensures.past is) in
    search rules

pub loop-line-preserved : goal.loop-line-preserved
loop-line-preserved g c =
    let less : c.loop-line.line-index < length c.args.lines.now = omega (arith, c.loop-line-test.true) in
    lines_more (by_policies (margins c.args.policies.now)) c.args.self.now c.loop-line.self c.args.lines.now c.loop-line.line-index c.loop-line.invariant c.line-item.result less c.line-item.is
    c.line.new.self c.in_ok-line.ensures.ran

pub returns-clause-ran : goal.returns-clause-ran
returns-clause-ran g c =
    let past : length c.args.lines.now ≤ c.loop-line.line-index = omega (arith, c.loop-line-test.false) in
    lines_end (by_policies (margins c.args.policies.now)) c.args.self.now c.loop-line.self c.args.lines.now c.loop-line.line-index c.loop-line.invariant past
