use Rattle.node_rules.specs.Choices.{by_policies}
use Rattle.split_leg.specs.Stored.{margins}
use Rattle.dc_top.proofs.Worlds.{drain_ended, event_ended, event_ran}
use Rattle.dc_top.proofs.stepping.run_line.Goals as goal

pub returns-in-Drain-clause-stopped : goal.returns-in-Drain-clause-stopped
returns-in-Drain-clause-stopped g c =
    drain_ended (by_policies (margins c.args.policies.now)) c.drain.result c.args.line c.args.network.now _ _ c.in-Drain.is c.drain.ensures.stopped

pub returns-in-One-clause-stopped : goal.returns-in-One-clause-stopped
returns-in-One-clause-stopped g c =
    event_ended (by_policies (margins c.args.policies.now)) c.run_event.result c.args.line c.in-One.event c.args.network.now _ _ c.in-One.is c.run_event.ensures.stopped

pub returns-in-One-clause-ran : goal.returns-in-One-clause-ran
returns-in-One-clause-ran g c =
    event_ran (by_policies (margins c.args.policies.now)) c.run_event.result c.args.line c.in-One.event c.args.network.now _ _ _ c.in-One.is c.run_event.ensures.ran
