use Rattle.std.proofs.Common.{rules, ◌≡◌, Some, None, ap, arith}
use Rattle.dc_base.specs.declared.events.Event.TheVariants.{Step}
use Rattle.std.specs.Prelude.{Err}
use Rattle.node_rules.specs.Choices.{Choices, by_policies}
use Rattle.node_rules.specs.World.{first_loaded}
use Rattle.split_leg.specs.Stored.{margins}
use Rattle.made_scripts.specs.Scripts.{drain_steps, enough}
use Rattle.counted_network.proofs.Events.{one_event_more}
use Rattle.made_runs.specs.Running.{PassesLimit, Running}
use Rattle.made_runs.specs.declared.halt.Halt.TheVariants.{TooLong}
use Rattle.made_runs.proofs.Draining.{drain_end, drain_first, drain_more, drain_past}
use Rattle.made_runs.proofs.running.MadeRun.drain.Goals as goal

pub loop-link-init : goal.loop-link-init
loop-link-init g c = drain_first (by_policies (margins c.args.policies.now)) c.args.self.now c.requires

pub loop-link-preserved : goal.loop-link-preserved
loop-link-preserved g c =
    let some : first_loaded c.loop-link.self.counting.world.links ≡ Some c.in-Some.link = search rules in
    drain_more (by_policies (margins c.args.policies.now)) c.args.self.now c.loop-link.self c.loop-link.invariant c.in-Some.link c.event.new.self some c.in_ok-event.ensures.ran

pub loop-link-smaller : goal.loop-link-smaller
loop-link-smaller g c =
    let more = one_event_more (by_policies (margins c.args.policies.now)) c.loop-link.self.counting (Step c.in-Some.link 0) in
    let after = ap (λ (r : Running). r.counting.counts.events) c.in_ok-event.ensures.ran.after in
    let within = c.in_ok-event.ensures.ran.within.events in
    omega (arith, more, after, within)

pub returns-in_err-event-clause-past : goal.returns-in_err-event-clause-past
returns-in_err-event-clause-past g c =
    let choices : Choices = by_policies (margins c.args.policies.now) in
    let some : first_loaded c.loop-link.self.counting.world.links ≡ Some c.in-Some.link = search rules in
    let past : Err c.in_err-event.field-0.0 ≡ Err TooLong → PassesLimit choices c.args.self.now (drain_steps choices enough c.args.self.now.counting.world) =
    λ is. drain_past choices c.args.self.now c.loop-link.self c.loop-link.invariant c.in-Some.link some (c.in_err-event.ensures.past is) in
    search rules

pub returns-clause-ran : goal.returns-clause-ran
returns-clause-ran g c =
    let none : first_loaded c.loop-link.self.counting.world.links ≡ None = search rules in
    drain_end (by_policies (margins c.args.policies.now)) c.args.self.now c.loop-link.self c.loop-link.invariant none
