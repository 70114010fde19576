use Rattle.std.proofs.Common.{◌≡◌, nat_lt, length, drop}
use Rattle.std.specs.List.{find}
use Rattle.node_rules.specs.World.{flights_on}
use Rattle.dc_network.proofs.links.LinkSet.first_of.Given as goal

abbrev pub invariant-loop-link : goal.invariant-loop-link
invariant-loop-link l =
    find (λ x. nat_lt 0 (length (flights_on x l.self))) l.links ≡ find (λ x. nat_lt 0 (length (flights_on x l.self))) (drop l.link-index l.links)
