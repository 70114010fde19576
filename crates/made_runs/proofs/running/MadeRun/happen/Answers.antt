use Rattle.std.proofs.Common.{rules, ◌≡◌, ◌∙◌, sym, ap}
use Rattle.node_rules.specs.Choices.{Choices, by_policies}
use Rattle.split_leg.specs.Stored.{margins}
use Rattle.summary.specs.Summed.{with_lines}
use Rattle.made_runs.specs.Running.{Running, run_after}
use Rattle.made_runs.proofs.Runs.{run_next, with_totals}
use Rattle.made_runs.proofs.running.MadeRun.happen.Goals as goal

pub returns : goal.returns
returns g c =
    let choices : Choices = by_policies (margins c.args.policies.now) in
    let h = c.in_ok-happened.happened in
    let before : Running = with_totals c.self.inside.network c.self.inside.summary in
    let view : before ≡ c.args.self.now = c.self.view_is in
    let same : h.lines ≡ c.as_slice.result.now = search rules in
    let done : with_totals c.event.new.self c.add_all.new.self ≡ run_after choices before c.args.event =
    run_next choices before c.args.event h.answer h.lines c.event.new.self c.add_event.new.self c.add_answer.new.self c.add_all.new.self
    c.in_ok-happened.ensures.after c.in_ok-happened.ensures.happened c.in_ok-add_event.ensures c.in_ok-add_answer.ensures
    (c.in_ok-add_all.ensures ∙ ap (with_lines c.add_answer.new.self) (sym same)) in
    done ∙ ap (λ (r : Running). run_after choices r c.args.event) view
