use Rattle.std.proofs.Common.{◌≡◌, drop}
use Rattle.node_rules.specs.Choices.{by_policies}
use Rattle.node_rules.specs.Effects.{after_effects, in_turn}
use Rattle.node_rules.specs.Terminal.{item_taken}
use Rattle.split_leg.specs.Stored.{margins}
use Rattle.term_core.proofs.terminal.Terminal.take_items.Given as goal

abbrev pub invariant-loop-item : goal.invariant-loop-item
invariant-loop-item g l =
    after_effects l.effects (in_turn (item_taken (by_policies (margins l.policies)) l.root l.plan) l.self (drop l.item-index l.items))
    ≡ after_effects l.initial.effects (in_turn (item_taken (by_policies (margins l.policies)) l.root l.plan) l.initial.self l.items)
