use Rattle.std.proofs.Common.{rules}
use Rattle.node_rules.specs.Choices.{by_policies}
use Rattle.split_leg.specs.Stored.{margins}
use Rattle.dc_top.proofs.Worlds.{unwritten_stopped}
use Rattle.dc_top.proofs.stepping.run_event.Goals as goal

pub returns-clause-stopped : goal.returns-clause-stopped
returns-clause-stopped g c =
    unwritten_stopped (by_policies (margins c.args.policies.now)) c.write_text.result c.args.network.now c.args.event _ _ _
    (search rules) c.requires.within (search rules) c.write_text.ensures.unwritten
