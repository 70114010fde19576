-- How the code finds the PDUs of a leg: the first PDU of each COUNT, and the outstanding data PDUs by COUNT and number.
use Rattle.std.specs.Prelude.{◌≡◌, ℕ, ◌+◌, ◌*◌, ◌/◌, ◌%◌, ◌^◌, ◌<◌, ◌≤◌, ◌==◌, ◌&&◌, Bool, true, false, List, length, take, Option, Some, None, nat_lt, slice_get}
use Rattle.std.specs.List.{list_any}
use Rattle.split_leg.specs.declared.leg.Pdu.{Pdu}
use Rattle.split_leg.specs.Legs.{is_count, is_open, volume}

-- a place that is known is below k
abbrev pub is_below : ℕ → Option ℕ → Bool
is_below k None = false
is_below k (Some place) = nat_lt place k

-- the place of the first PDU of a COUNT, after one more PDU at a place, which is of that COUNT or is not
abbrev pub first_after : Bool → ℕ → Option ℕ → Option ℕ
first_after b place (Some first) = Some first
first_after true place None = Some place
first_after false place None = None

-- the key of the PDU that has this COUNT and this number: keys ascend by COUNT, and then by number
abbrev pub key_of : ℕ → ℕ → ℕ
key_of count num = count * 2 ^ 32 + num

-- k is the key of a PDU of this COUNT with this number; a control PDU (None) has no key
abbrev pub is_key_of : Option ℕ → ℕ → ℕ → Bool
is_key_of count num k = is_count (k / 2 ^ 32) count && k % 2 ^ 32 == num

-- the PDU that has a number is outstanding and of COUNT c; there may be none with that number (None)
abbrev pub is_open_with : ℕ → Option Pdu → Bool
is_open_with c None = false
is_open_with c (Some p) = is_open p && is_count c p.count

-- k is the key of an outstanding data PDU of these
abbrev pub is_open_key : List Pdu → ℕ → Bool
is_open_key pdus k = is_open_with (k / 2 ^ 32) (slice_get pdus (k % 2 ^ 32))

-- `outstanding` octets are outstanding, the map `first` has the place of the first PDU of each COUNT, and the set
-- `keys` the keys of the outstanding data PDUs
pub record IsIndexed (pdus : List Pdu) (outstanding : ℕ) (first : ℕ → Option ℕ) (keys : ℕ → Bool) : Type 0 where
  pub volume_is : outstanding ≡ volume pdus
  pub bound : outstanding ≤ 65535 * length pdus
  pub fewer : length pdus < 2 ^ 32
  pub firsts : (c k : ℕ) → list_any (λ p. is_count c p.count) (take k pdus) ≡ is_below k (first c)
  pub open_keys : (k : ℕ) → keys k ≡ is_open_key pdus k
