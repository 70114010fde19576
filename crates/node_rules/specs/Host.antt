-- What the node holds that has a leg of a bearer and not its PDCP entity: the leg's host, the
-- corresponding node of TS 38.425.
use Rattle.std.specs.Prelude.{ℕ, List, []}
use Rattle.dc_base.specs.declared.nodes.Node.{Node}
use Rattle.dc_base.specs.declared.numbers.SnLen.{SnLen}
use Rattle.nr_u.specs.Tunnel.Incoming.{Incoming}

-- a leg's host in one generation of the bearer (TS 38.425, 5.4; the form is this product's own)
pub record Host : Type 0 where
  pub node : Node
  pub anchor : Node  -- the node at the other end of the tunnel
  pub g : ℕ
  pub id : ℕ
  pub tunnel : Incoming  -- what came from the anchor
  pub carried : List ℕ  -- for each PDU put on the leg, by its number there, the number that it had in the tunnel

-- a host before anything came (TS 38.425, 5.4; the form is this product's own)
abbrev pub new_host : Node → Node → ℕ → ℕ → SnLen → Host
new_host node anchor g id n =
    record { node = node; anchor = anchor; g = g; id = id; tunnel = record { n = n; came = []; unacked = [] }; carried = [] }
