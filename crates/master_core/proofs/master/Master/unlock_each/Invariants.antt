use Rattle.std.proofs.Common.{◌≡◌, take}
use Rattle.node_rules.specs.AnchorSending.{unlock}
use Rattle.node_rules.specs.Choices.{by_policies}
use Rattle.node_rules.specs.Effects.{in_turn}
use Rattle.node_rules.specs.Held.{held}
use Rattle.node_rules.specs.Master.{MasterNode, on_anchor_of}
use Rattle.split_leg.specs.Stored.{margins}
use Rattle.master_core.proofs.master.Master.unlock_each.Given as goal

abbrev pub invariant-loop-id : goal.invariant-loop-id
invariant-loop-id g l =
    in_turn (λ (n : MasterNode) id. on_anchor_of n l.g (unlock (by_policies (margins l.policies))) id (held id n.anchors)) l.initial.self (take l.id-index l.ids) ≡ (l.self, l.effects)
