-- What is kept by all anchors of a node, after one step and after several.
use Rattle.std.proofs.Common.{List, [], ◌∷◌}
use Rattle.std.specs.List.{AllByRecursion}
use Rattle.node_rules.specs.Choices.{Send}
use Rattle.node_rules.specs.Effects.{in_turn}
use Rattle.node_rules.specs.declared.inputs.Effects.{Effects}
use Rattle.run_relays.specs.Relays.{ArePlain}
use Rattle.run_relays.proofs.AnchorSends.{both_plain}

-- a step of a node after which this is so, with sends that are no uplink PDUs
pub record Leaves {S : Type 0} (K : S → Type 0) (done : S × Effects) : Type 0 where
  pub so : K done.0
  pub plain : ArePlain done.1.sends

-- with sends of which that is so
pub record LeavesWith {S : Type 0} (K : S → Type 0) (Q : Send → Type 0) (done : S × Effects) : Type 0 where
  pub so : K done.0
  pub sends : AllByRecursion Q done.1.sends

-- one step after another
pub in_turn_leaves : {S X : Type 0} (K : S → Type 0) (f : S → X → S × Effects) → ((s : S) (y : X) → K s → Leaves K (f s y)) → (s : S) (ys : List X) → K s → Leaves K (in_turn f s ys)
in_turn_leaves K f each s [] so = record { so = so; plain = tt }
in_turn_leaves K f each s (y ∷ ys) so =
    let one = each s y so in
    let more = in_turn_leaves K f each (f s y).0 ys one.so in
    record { so = more.so; plain = both_plain (f s y).1.sends (in_turn f (f s y).0 ys).1.sends one.plain more.plain }
