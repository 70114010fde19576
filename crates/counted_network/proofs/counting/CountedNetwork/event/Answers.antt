use Rattle.std.proofs.Common.{rules, ◌≡◌, ◌++◌, ◌∙◌}
use Rattle.node_rules.specs.Choices.{Choices, by_policies}
use Rattle.node_rules.specs.Run.{world_step}
use Rattle.split_leg.specs.Stored.{margins}
use Rattle.transcript.specs.Transcript.{Entry, entry_lines}
use Rattle.dc_network.specs.Counting.{counted}
use Rattle.counted_network.specs.Counted.{counting_after}
use Rattle.counted_network.proofs.Happening.{counted_next, entry_of, happened, with_counts}
use Rattle.counted_network.proofs.counting.CountedNetwork.event.Goals as goal

pub invariant_of-self-2 : goal.invariant_of-self-2
invariant_of-self-2 g c =
    let before = c.self.invariant in
    let h = c.in_ok-happened.happened in
    let x : Entry = entry_of c.args.event h.answer h.lines in
    let same : x.lines ≡ c.as_slice.result.now = search rules in
    (before.0 ++ entry_lines x, c.in_ok-self-inside.ensures before.0 x same before.1)

pub returns-clause-after : goal.returns-clause-after
returns-clause-after g c =
    let before = c.self.invariant in
    let h = c.in_ok-happened.happened in
    let choices : Choices = by_policies (margins c.args.policies.now) in
    let same : h.lines ≡ c.as_slice.result.now = search rules in
    let counts : counted before.0 ≡ c.args.self.now.counts = rw (← c.self.view_is) before.1 in
    let is : (c.event.new.self, entry_of c.args.event h.answer h.lines) ≡ world_step choices c.args.self.now.world c.args.event = rw (← c.self.view_is) c.in_ok-happened.ensures in
    let done : with_counts c.event.new.self c.in_ok-self-inside.field-0 ≡ counting_after choices c.args.self.now c.args.event =
    counted_next choices c.args.self.now c.event.new.self c.in_ok-self-inside.field-0 c.args.event h.answer h.lines before.0 counts is
    (λ x e. c.in_ok-self-inside.ensures before.0 x (e ∙ same) before.1) in
    done

pub returns-clause-happened : goal.returns-clause-happened
returns-clause-happened g c =
    let h = c.in_ok-happened.happened in
    rw (← c.self.view_is)
    (happened (by_policies (margins c.args.policies.now)) c.self.inside.network c.event.new.self c.args.event h.answer h.lines c.in_ok-happened.ensures)
