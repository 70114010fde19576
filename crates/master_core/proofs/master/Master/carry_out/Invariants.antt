use Rattle.std.proofs.Common.{◌≡◌, take}
use Rattle.node_rules.specs.Effects.{in_turn}
use Rattle.node_rules.specs.MasterPlan.{carries_item}
use Rattle.master_core.proofs.master.Master.carry_out.Given as goal

abbrev pub invariant-loop-item : goal.invariant-loop-item
invariant-loop-item l =
    in_turn (carries_item l.plan) l.initial.self (take l.item-index l.plan.items) ≡ (l.self, l.effects)
