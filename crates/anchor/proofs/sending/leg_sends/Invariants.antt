use Rattle.std.proofs.Common.{◌≡◌, ◌++◌, fold}
use Rattle.std.specs.List.{flat_map}
use Rattle.std.specs.Vec.Iter.{into_iter_items}
use Rattle.node_rules.specs.AnchorSending.{is_local, leg_send, tunnelled}
use Rattle.anchor.proofs.sending.leg_sends.Given as goal

abbrev pub invariant-loop-on_leg : goal.invariant-loop-on_leg
invariant-loop-on_leg l = record {
  tunnel : fold (λ o p. tunnelled o p (is_local l.setup p)) l.tunnel (into_iter_items l.on_leg-iterator)
      ≡ fold (λ o p. tunnelled o p (is_local l.setup p)) l.initial.tunnel l.fn.on_legs;
  sends : l.sends ++ flat_map (λ p. leg_send l.setup p (is_local l.setup p)) (into_iter_items l.on_leg-iterator)
      ≡ flat_map (λ p. leg_send l.setup p (is_local l.setup p)) l.fn.on_legs;
}
