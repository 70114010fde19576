use Rattle.std.proofs.Common.{◌≡◌, take}
use Rattle.node_rules.specs.AnchorSending.{unlock}
use Rattle.node_rules.specs.Choices.{by_policies}
use Rattle.node_rules.specs.Effects.{in_turn}
use Rattle.node_rules.specs.Held.{held}
use Rattle.node_rules.specs.Secondary.{SecondNode, on_fed_of}
use Rattle.split_leg.specs.Stored.{margins}
use Rattle.second_core.proofs.second.Second.unlock_each.Given as goal

abbrev pub invariant-loop-id : goal.invariant-loop-id
invariant-loop-id g l =
    in_turn (λ (n : SecondNode) id. on_fed_of n l.g (unlock (by_policies (margins l.policies))) id (held id n.anchors)) l.initial.self (take l.id-index l.ids) ≡ (l.self, l.effects)
