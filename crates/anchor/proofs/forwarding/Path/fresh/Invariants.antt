use Rattle.std.proofs.Common.{◌≡◌, ◌++◌, ℕ, List, None, map, length}
use Rattle.std.specs.Vec.Iter.{into_iter_items}
use Rattle.node_rules.specs.Freezing.{pieces}
use Rattle.anchor.specs.Paths.{after_pieces}
use Rattle.anchor.proofs.forwarding.Path.fresh.Given as goal

abbrev pub invariant-loop-sdu : goal.invariant-loop-sdu
invariant-loop-sdu l = record {
  path : after_pieces l.self (length (into_iter_items l.sdu-iterator)) ≡ after_pieces l.initial.self (length l.fn.sdus);
  sends : l.sends ++ pieces l.self.tunnel l.self.teid l.self.tunnel.next (map (λ (sdu : List ℕ). (None, sdu)) (into_iter_items l.sdu-iterator))
      ≡ l.initial.sends ++ pieces l.initial.self.tunnel l.initial.self.teid l.initial.self.tunnel.next (map (λ (sdu : List ℕ). (None, sdu)) l.fn.sdus);
}
