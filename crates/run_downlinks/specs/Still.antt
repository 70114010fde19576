-- A step that leaves the downlinks where they are: no node of the network changes, nor a line from the core or to it.
use Rattle.std.specs.Prelude.{ℕ, ◌≡◌}
use Rattle.std.specs.List.{AllByRecursion}
use Rattle.dc_base.specs.Links.{link}
use Rattle.dc_base.specs.declared.flights.Flight.{Flight}
use Rattle.dc_base.specs.declared.nodes.Class.TheVariants.{Feed}
use Rattle.dc_base.specs.declared.nodes.LinkId.{LinkId}
use Rattle.dc_base.specs.declared.nodes.Node.TheVariants.{A, B, M}
use Rattle.node_rules.specs.World.{World, flights_on}
use Rattle.run_ordered.specs.Forwarding.{IsSilentOf}

-- what is so of all flights on a link that say nothing of a sending entity of this identity, and of those that stood there, is so of those
-- that stand there
pub record IsStill (id : ℕ) (w v : World) : Type 1 where
  pub master : v.master ≡ w.master
  pub a : v.a ≡ w.a
  pub b : v.b ≡ w.b
  pub to_a : flights_on (link M A Feed) v.links ≡ flights_on (link M A Feed) w.links
  pub to_b : flights_on (link M B Feed) v.links ≡ flights_on (link M B Feed) w.links
  pub from_a : flights_on (link A M Feed) v.links ≡ flights_on (link A M Feed) w.links
  pub from_b : flights_on (link B M Feed) v.links ≡ flights_on (link B M Feed) w.links
  pub flights : (P : Flight → Type 0) → ((f : Flight) → IsSilentOf id f → P f) → (l : LinkId) → AllByRecursion P (flights_on l w.links) → AllByRecursion P (flights_on l v.links)
