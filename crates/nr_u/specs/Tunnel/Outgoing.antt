-- What was sent in a tunnel, and what a delivery status says of it (after TS 38.425, 5.4.2).
use Rattle.std.specs.Prelude.{◌≡◌, ℕ, ◌+◌, ◌⊎◌, ◌&&◌, nat_lt, nat_le, not, if◌then◌else◌, Bool, true, false, List, length, map, filter, fold, slice_get, Option, Some, None}
use Rattle.std.specs.List.{AllByRecursion, list_any}
use Rattle.std.specs.Ordering.{nat_cmp}
use Rattle.std.specs.BTreeMap.{insert_entry, is_at}
use Rattle.std.specs.BTreeSet.{insert_key}
use Rattle.std.specs.Map.{lookup}
use Rattle.dc_base.specs.declared.numbers.SnLen.{SnLen}
use Rattle.dc_base.specs.Count.{modulus, count_for}
use Rattle.nr_u.specs.declared.frame.Range.{Range}
use Rattle.nr_u.specs.declared.tunnel.outbound.Sent.{Sent}
use Rattle.nr_u.specs.Tunnel.Incoming.{contains}

-- a number in the tunnel, and the COUNT that was sent under it
abbrev pub Counted : Type 0
Counted = ℕ × ℕ

-- the sending end of a tunnel
pub record Outgoing : Type 0 where
  pub n : SnLen
  pub next : ℕ  -- the number of the next PDU: so many were sent
  pub waiting : List Counted  -- the first sends that no frame confirmed
  pub unasked : List Counted  -- the data PDUs that were not asked for again
  pub confirmed : List ℕ  -- the COUNTs that frames confirmed

-- the number goes in where there is a COUNT
abbrev pub noted : Option ℕ → ℕ → List Counted → List Counted
noted None number es = es
noted (Some count) number es = insert_entry nat_cmp es number count

-- a PDU is sent under the next number
abbrev pub with_sent : Outgoing → Sent → Outgoing
with_sent o s = record o {
  next = o.next + 1;
  waiting = if s.repeat then o.waiting else noted s.count o.next o.waiting;
  unasked = noted s.count o.next o.unasked;
}

-- the highest COUNT that a frame confirms, by its sequence number; low is the reference
abbrev pub highest_of : SnLen → ℕ → Option ℕ → Option ℕ
highest_of n low None = None
highest_of n low (Some s) = if nat_lt s (modulus n) then count_for n low s else None

-- whether the number is in a listed range
abbrev pub is_listed : List Range → ℕ → Bool
is_listed lost number = list_any (λ r. nat_le r.from number && nat_le number r.to) lost

-- whether a frame confirms a first send: its COUNT is at most the highest, and its number is in no listed range
abbrev pub confirms : Option ℕ → List Range → Counted → Bool
confirms None lost e = false
confirms (Some highest) lost e = nat_le e.1 highest && not (is_listed lost e.0)

-- whether a PDU of this COUNT may be asked for again: it is not below low, and no frame confirmed it
abbrev pub is_open : ℕ → List ℕ → ℕ → Bool
is_open low confirmed count = nat_le low count && not (contains count confirmed)

-- whether a frame asks again for a data PDU: it is listed and open
abbrev pub asks : ℕ → List ℕ → List Range → Counted → Bool
asks low confirmed lost e = is_listed lost e.0 && is_open low confirmed e.1

-- what a frame confirms, in the order of numbers
abbrev pub confirmed_by : Outgoing → ℕ → Option ℕ → List Range → List Counted
confirmed_by o low highest lost = filter (confirms (highest_of o.n low highest) lost) o.waiting

-- the COUNTs that are confirmed after the frame
abbrev pub confirmed_after : Outgoing → ℕ → Option ℕ → List Range → List ℕ
confirmed_after o low highest lost = fold (insert_key nat_cmp) o.confirmed (map (λ e. e.1) (confirmed_by o low highest lost))

-- what a frame asks for again, in the order of numbers
abbrev pub asked_by : Outgoing → ℕ → Option ℕ → List Range → List Counted
asked_by o low highest lost = filter (asks low (confirmed_after o low highest lost) lost) o.unasked

-- a delivery status comes
abbrev pub with_status : Outgoing → ℕ → Option ℕ → List Range → Outgoing
with_status o low highest lost = record o {
  waiting = filter (λ e. not (confirms (highest_of o.n low highest) lost e)) o.waiting;
  unasked = filter (λ e. not (asks low (confirmed_after o low highest lost) lost e)) o.unasked;
  confirmed = confirmed_after o low highest lost;
}

-- a data PDU that is sent for the first time
abbrev pub first_send : ℕ → Sent
first_send count = record { count = Some count; repeat = false }

-- under each number its COUNT was sent for the first time
abbrev pub AreFirstSends : List Sent → List Counted → Type 0
AreFirstSends sent es = AllByRecursion (λ e. slice_get sent e.0 ≡ Some (first_send e.1)) es

-- the COUNT was sent for the first time under this number, and no frame confirmed it yet
abbrev pub Waits : Outgoing → ℕ → ℕ → Type 0
Waits o number count = lookup (is_at (nat_cmp number)) o.waiting ≡ Some count

-- these PDUs were sent, in the order of their numbers from 0 on: a first send waits, or its COUNT is confirmed
pub record IsHistory (sent : List Sent) (o : Outgoing) : Type 0 where
  pub numbers : length sent ≡ o.next
  pub firsts : AreFirstSends sent o.waiting
  pub settled : (number count : ℕ) → slice_get sent number ≡ Some (first_send count) → Waits o number count ⊎ (contains count o.confirmed ≡ true)
