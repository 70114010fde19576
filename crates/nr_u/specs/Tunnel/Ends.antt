-- Both ends of one tunnel: what a delivery status of one end confirms at the other.
use Rattle.std.specs.Prelude.{◌≡◌, ℕ, ◌+◌, ◌<◌, ◌≤◌, false, true, List, option_map, slice_get, Some}
use Rattle.std.specs.List.{AllByRecursion}
use Rattle.std.specs.Option.{IsSomeAnd}
use Rattle.dc_base.specs.declared.numbers.SnLen.{SnLen}
use Rattle.dc_base.specs.Count.{sn, window}
use Rattle.nr_u.specs.declared.tunnel.inbound.Arrival.{Arrival}
use Rattle.nr_u.specs.declared.tunnel.outbound.Sent.{Sent}
use Rattle.nr_u.specs.Tunnel.Incoming.{Incoming, Numbered, Ascends, has, contains, named}
use Rattle.nr_u.specs.Tunnel.Outgoing.{first_send}

-- the COUNTs of the first sends rise
abbrev pub FirstSendsRise : List Sent → Type 0
FirstSendsRise sent = (j k c d : ℕ) → j < k → slice_get sent j ≡ Some (first_send c) → slice_get sent k ≡ Some (first_send d) → c < d

-- what came has the repeat flag of what was sent, and the sequence number of its COUNT
abbrev pub IsAsSent : SnLen → Arrival → Sent → Type 0
IsAsSent n a s = (a.repeat ≡ s.repeat) × (a.sn ≡ option_map (sn n) s.count)

-- what came under a number is what was sent under it
abbrev pub CameAsSent : SnLen → List Sent → List Numbered → Type 0
CameAsSent n sent came = AllByRecursion (λ a. IsSomeAnd (slice_get sent a.0) (IsAsSent n a.1)) came

-- the COUNT of the PDU that a status names is in the window round low
abbrev pub NamesNear : SnLen → List Sent → ℕ → Incoming → Type 0
NamesNear n sent low i = (a : Numbered) (c : ℕ) → named i ≡ Some a → slice_get sent a.0 ≡ Some (first_send c) → (low ≤ c + window n) × (c < low + window n)

-- i is the other end of the tunnel in which these PDUs were sent, whose delivery status is read with the reference low
pub record IsOtherEnd (n : SnLen) (sent : List Sent) (low : ℕ) (i : Incoming) : Type 0 where
  pub ascends : Ascends 0 i.came
  pub rise : FirstSendsRise sent
  pub as_sent : CameAsSent n sent i.came
  pub near : NamesNear n sent low i

-- the COUNT was sent for the first time under this number, which came and was acked
pub record WasAckedUnder (sent : List Sent) (i : Incoming) (count number : ℕ) : Type 0 where
  pub sent_first : slice_get sent number ≡ Some (first_send count)
  pub came : has number i.came ≡ true
  pub acked : contains number i.unacked ≡ false

-- the COUNT was sent for the first time under a number that came and was acked
abbrev pub WasAcked : List Sent → Incoming → ℕ → Type 0
WasAcked sent i count = (number : ℕ) × WasAckedUnder sent i count number
