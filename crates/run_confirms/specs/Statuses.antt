-- What an ack and a delivery status say of the PDUs of one bearer and generation, by what was sent: the terminal received what
-- they confirm (TS 38.425, 5.4.2). What the terminal received is any predicate on COUNTs.
use Rattle.std.specs.Prelude.{false, true, IfSome, List, Option, length, option_and_then, option_map, slice_get, Some, ℕ, ◌+◌, ◌<◌, ◌≡◌, ◌≤◌}
use Rattle.std.specs.Option.{IsSomeAnd}
use Rattle.dc_base.specs.declared.numbers.SnLen.{SnLen}
use Rattle.dc_base.specs.Count.{sn, window}
use Rattle.nr_u.specs.declared.frame.Frame.{Frame}
use Rattle.nr_u.specs.declared.frame.Frame.TheVariants.{Status}
use Rattle.nr_u.specs.declared.frame.Range.{Range}
use Rattle.nr_u.specs.declared.tunnel.outbound.Sent.{Sent}
use Rattle.nr_u.specs.Tunnel.Outgoing.{first_send, is_listed}

-- what was received is received still
abbrev pub Stays : (ℕ → Type 0) → (ℕ → Type 0) → Type 0
Stays received later = (count : ℕ) → received count → later count

-- an ack of this number on a leg, given by the COUNTs of its PDUs (a control PDU has none): there is such a PDU, and its COUNT,
-- if it has one, was received
abbrev pub IsAckOf : List (Option ℕ) → (ℕ → Type 0) → ℕ → Type 0
IsAckOf leg received num = IsSomeAnd (slice_get leg num) (λ tag. IfSome tag received)

-- the COUNT of what was sent in a tunnel under this number; none for a control PDU, and where nothing was sent
abbrev pub count_under : List Sent → ℕ → Option ℕ
count_under tun number = option_and_then (λ (s : Sent). s.count) (slice_get tun number)

-- the COUNT was sent in a tunnel for the first time, under some number
abbrev pub WasFirst : List Sent → ℕ → Type 0
WasFirst tun count = (number : ℕ) × (slice_get tun number ≡ Some (first_send count))

-- the COUNTs of the first sends lie below this one
abbrev pub FirstsBelow : ℕ → List Sent → Type 0
FirstsBelow end tun = (number count : ℕ) → slice_get tun number ≡ Some (first_send count) → count < end

-- each COUNT up to this one that was sent for the first time, under a number in no listed range, was received
abbrev pub AreReceivedTo : List Sent → (ℕ → Type 0) → List Range → ℕ → Type 0
AreReceivedTo tun received lost highest =
    (number count : ℕ) → slice_get tun number ≡ Some (first_send count) → count ≤ highest → is_listed lost number ≡ false → received count

-- what a delivery status with this tag says of what was sent in a tunnel: it lists numbers that were given, shows the sequence
-- number of its tag, a COUNT that was sent for the first time, and each first send up to there that is not listed was received
pub record IsStatusOf (n : SnLen) (tun : List Sent) (received : ℕ → Type 0) (tag : Option ℕ) (f : Frame) : Type 0 where
  pub highest : Option ℕ
  pub lost : List Range
  pub frame : f ≡ Status highest lost
  pub given : (number : ℕ) → is_listed lost number ≡ true → number < length tun
  pub shown : highest ≡ option_map (sn n) tag
  pub first : IfSome tag (WasFirst tun)
  pub delivered : IfSome tag (AreReceivedTo tun received lost)

-- the tag lies in the window round Low, the reference with which the status is read
abbrev pub IsNear : SnLen → ℕ → Option ℕ → Type 0
IsNear n low tag = IfSome tag (λ h. (low ≤ h + window n) × (h < low + window n))
