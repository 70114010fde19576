use Rattle.std.proofs.Common.{◌≡◌, drop}
use Rattle.std.specs.List.{position_from}
use Rattle.node_rules.specs.World.{flights_on}
use Rattle.made_scripts.specs.Turns.{is_own_traffic, own_place}
use Rattle.made_turns.proofs.losing.own_place.Given as goal

abbrev pub invariant-loop-place : goal.invariant-loop-place
invariant-loop-place l =
    own_place (flights_on l.link l.network.links) ≡ position_from is_own_traffic l.place (drop l.place (flights_on l.link l.network.links))
