use Rattle.std.proofs.Common.{◌≡◌, ◌++◌, length}
use Rattle.std.specs.Vec.Iter.{into_iter_items}
use Rattle.node_rules.specs.Freezing.{numbered, pieces}
use Rattle.anchor.specs.Paths.{after_pieces}
use Rattle.anchor.proofs.forwarding.Path.numbered.Given as goal

abbrev pub invariant-loop-count : goal.invariant-loop-count
invariant-loop-count l = record {
  path : after_pieces l.self (length (into_iter_items l.count-iterator)) ≡ after_pieces l.initial.self (length l.fn.entries);
  sends : l.sends ++ pieces l.self.tunnel l.self.teid l.self.tunnel.next (numbered l.self.tunnel.n (into_iter_items l.count-iterator))
      ≡ l.initial.sends ++ pieces l.initial.self.tunnel l.initial.self.teid l.initial.self.tunnel.next (numbered l.initial.self.tunnel.n l.fn.entries);
}
