use Rattle.std.proofs.Common.{◌≡◌, take}
use Rattle.node_rules.specs.Effects.{in_turn}
use Rattle.node_rules.specs.MasterPlan.{prepares_item}
use Rattle.master_core.proofs.master.Master.prepare.Given as goal

abbrev pub invariant-loop-item : goal.invariant-loop-item
invariant-loop-item l =
    in_turn (prepares_item l.plan) l.initial.self (take l.item-index l.plan.items) ≡ (l.self, l.effects)
