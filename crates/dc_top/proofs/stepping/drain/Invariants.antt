use Rattle.std.proofs.Common.{◌≡◌, ◌-◌, ◌^◌, List}
use Rattle.dc_base.specs.declared.events.Event.{Event}
use Rattle.node_rules.specs.Choices.{by_policies}
use Rattle.split_leg.specs.Stored.{margins}
use Rattle.dc_top.specs.Steps.{AreFirstSteps, HasRun}
use Rattle.dc_top.proofs.stepping.drain.Given as goal

abbrev pub invariant-loop-link : goal.invariant-loop-link
invariant-loop-link g l =
    (es : List Event) × AreFirstSteps (by_policies (margins l.fn.policies)) l.initial.network.world es
    × HasRun (by_policies (margins l.fn.policies)) l.initial.network es l.network (g.K.Sink.put_out l.initial.out) (g.K.Sink.put_out l.out)
    × (g.K.Sink.fault_count l.out ≡ g.K.Sink.fault_count l.initial.out)

abbrev pub decreases-loop-link : goal.decreases-loop-link
decreases-loop-link g l = 2 ^ 20 - l.network.counts.events
