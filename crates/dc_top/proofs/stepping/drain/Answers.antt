use Rattle.std.proofs.Common.{rules, ◌≡◌, Some, ◌∷◌, [], ◌++◌, ◌∙◌, ap, arith}
use Rattle.dc_base.specs.declared.events.Event.TheVariants.{Step}
use Rattle.node_rules.specs.Choices.{Choices, by_policies}
use Rattle.node_rules.specs.World.{first_loaded}
use Rattle.split_leg.specs.Stored.{margins}
use Rattle.counted_network.specs.Counted.{Counting}
use Rattle.dc_top.specs.Steps.{HasStoppedDraining}
use Rattle.counted_network.proofs.Events.{one_event_more}
use Rattle.dc_top.proofs.Worlds.{first_step, run_more, stopped_after}
use Rattle.dc_top.proofs.stepping.drain.Goals as goal

pub returns-in_err-run_event-clause-stopped : goal.returns-in_err-run_event-clause-stopped
returns-in_err-run_event-clause-stopped g c =
    let choices : Choices = by_policies (margins c.args.policies.now) in
    let i = c.loop-link.invariant in
    let first : Some c.in-Some.link ≡ first_loaded c.loop-link.network.world.links = search rules in
    let stopped : HasStoppedDraining choices c.in_err-run_event.field-0.0 c.args.network.now (g.K.Sink.put_out c.args.out.now) (g.K.Sink.put_out c.run_event.new.out) =
    record {
      before = i.0;
      event = Step c.in-Some.link 0;
      steps = first_step choices c.args.network.now c.loop-link.network i.0 c.in-Some.link _ _ i.2 first i.1;
      stopped = stopped_after choices _ _ _ i.0 _ _ _ _ i.2 c.in_err-run_event.ensures.stopped;
    } in
    search rules

pub loop-link-preserved : goal.loop-link-preserved
loop-link-preserved g c =
    let choices : Choices = by_policies (margins c.args.policies.now) in
    let i = c.loop-link.invariant in
    let first : Some c.in-Some.link ≡ first_loaded c.loop-link.network.world.links = search rules in (
      i.0 ++ Step c.in-Some.link 0 ∷ [],
      first_step choices c.args.network.now c.loop-link.network i.0 c.in-Some.link _ _ i.2 first i.1,
      run_more choices _ _ _ i.0 (Step c.in-Some.link 0 ∷ []) _ _ _ i.2 c.in_ok-run_event.ensures.ran,
      c.in_ok-run_event.ensures.kept ∙ i.3,
    )

pub loop-link-smaller : goal.loop-link-smaller
loop-link-smaller g c =
    let more = one_event_more (by_policies (margins c.args.policies.now)) c.loop-link.network (Step c.in-Some.link 0) in
    let after = ap (λ (j : Counting). j.counts.events) c.in_ok-run_event.ensures.ran.after in
    let within = c.in_ok-run_event.ensures.ran.within.events in
    omega (arith, more, after, within)
