-- The open tunnel of an anchor that gave its bearer up, in one direction.
use Rattle.std.specs.Prelude.{ℕ, ◌+◌}
use Rattle.node_rules.specs.Freezing.{Tunnel}

-- a forwarding tunnel with its endpoint at the new anchor
pub record ForwardPath : Type 0 where
  pub tunnel : Tunnel
  pub teid : ℕ

-- after so many SDUs more
abbrev pub after_pieces : ForwardPath → ℕ → ForwardPath
after_pieces p more = record p { tunnel = record p.tunnel { next = p.tunnel.next + more } }
