-- What came at the far end of a tunnel, by what was sent in it (TS 38.425, 5.4.1).
use Rattle.std.specs.Prelude.{false, IfSome, List, slice_get, ℕ, ◌≡◌}
use Rattle.std.specs.List.{AllByRecursion}
use Rattle.std.specs.Option.{IsSomeAnd}
use Rattle.dc_base.specs.declared.numbers.SnLen.{SnLen}
use Rattle.nr_u.specs.declared.tunnel.inbound.Arrival.{Arrival}
use Rattle.nr_u.specs.declared.tunnel.outbound.Sent.{Sent}
use Rattle.nr_u.specs.Tunnel.Ends.{IsAsSent}
use Rattle.nr_u.specs.Tunnel.Incoming.{Ascends, Incoming, Numbered, contains}

-- what came has the repeat mark of what was sent, its COUNT as tag, and the sequence number of its COUNT
abbrev pub CameAs : SnLen → Arrival → Sent → Type 0
CameAs n a s = IsAsSent n a s × (a.tag ≡ s.count)

-- what came under each number was sent under it
abbrev pub CameFrom : SnLen → List Sent → List Numbered → Type 0
CameFrom n tun came = AllByRecursion (λ (a : Numbered). IsSomeAnd (slice_get tun a.0) (CameAs n a.1)) came

-- it was received, if it was acked and is a data PDU
abbrev pub IsReceivedIfAcked : (ℕ → Type 0) → List ℕ → Numbered → Type 0
IsReceivedIfAcked received unacked a = contains a.0 unacked ≡ false → IfSome a.1.tag received

-- what came in a tunnel: numbers that ascend, under each what was sent under it; what was acked was received
pub record HasCome (tun : List Sent) (received : ℕ → Type 0) (i : Incoming) : Type 0 where
  pub ascends : Ascends 0 i.came
  pub sent : CameFrom i.n tun i.came
  pub acked : AllByRecursion (IsReceivedIfAcked received i.unacked) i.came
