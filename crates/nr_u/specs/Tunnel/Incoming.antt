-- What came in a tunnel, and the delivery status of it (after TS 38.425, 5.4.2).
use Rattle.std.specs.Prelude.{ℕ, ◌+◌, ◌-◌, ◌≤◌, ◌&&◌, nat_lt, not, if◌then◌else◌, Bool, true, List, [], ◌∷◌, take, take_while, filter, slice_get, Option, Some, None, is_some, ⊤}
use Rattle.std.specs.List.{list_any}
use Rattle.std.specs.Ordering.{nat_cmp}
use Rattle.std.specs.BTreeMap.{insert_entry, is_at}
use Rattle.std.specs.BTreeSet.{insert_key}
use Rattle.std.specs.Map.{lookup}
use Rattle.std.specs.Set.{remove_key}
use Rattle.dc_base.specs.declared.numbers.SnLen.{SnLen}
use Rattle.nr_u.specs.declared.frame.Range.{Range}
use Rattle.nr_u.specs.declared.tunnel.inbound.Arrival.{Arrival}

-- a PDU that came, under its number
abbrev pub Numbered : Type 0
Numbered = ℕ × Arrival

-- what came in a tunnel: the PDUs by their numbers, which ascend, and the numbers that were not acked yet
pub record Incoming : Type 0 where
  pub n : SnLen
  pub came : List Numbered
  pub unacked : List ℕ

-- whether the number is among those that came
abbrev pub has : ℕ → List Numbered → Bool
has number came = is_some (lookup (is_at (nat_cmp number)) came)

-- whether the number is among these
abbrev pub contains : ℕ → List ℕ → Bool
contains number numbers = list_any (is_at (nat_cmp number)) numbers

-- the numbers ascend, from low on
abbrev pub Ascends : ℕ → List Numbered → Type 0
Ascends low [] = ⊤
Ascends low (a ∷ rest) = (low ≤ a.0) × Ascends (a.0 + 1) rest

-- a PDU with this number comes; one that came before is ignored
abbrev pub with_arrival : Incoming → ℕ → Arrival → Incoming
with_arrival i number a =
    if has number i.came then i
    else record i { came = insert_entry nat_cmp i.came number a; unacked = insert_key nat_cmp i.unacked number }

-- the PDU with this number is acked; a number that did not come is ignored
abbrev pub with_ack : Incoming → ℕ → Incoming
with_ack i number = record i { unacked = remove_key (is_at (nat_cmp number)) i.unacked }

-- the numbers from low on, and below the highest that came, that did not come
abbrev pub gaps : ℕ → List Numbered → List Range
gaps low [] = []
gaps low (a ∷ rest) =
    if nat_lt low a.0 then record { from = low; to = a.0 - 1 } ∷ gaps (a.0 + 1) rest
    else gaps (a.0 + 1) rest

-- the gaps that a status lists: at most 168
abbrev pub listed : List Numbered → List Range
listed came = take 168 (gaps 0 came)

-- whether the number lies below the first gap that is not listed
abbrev pub is_below : Option Range → ℕ → Bool
is_below None number = true
is_below (Some gap) number = nat_lt number gap.from

-- the longest front of what came that is acked and lies below the first gap that is not listed
abbrev pub settled : Incoming → List Numbered
settled i = take_while (λ a. not (contains a.0 i.unacked) && is_below (slice_get (gaps 0 i.came) 168) a.0) i.came

-- a data PDU that is no repeat
abbrev pub is_first : Arrival → Bool
is_first a = is_some a.sn && not a.repeat

-- the last of a list; None if the list is empty
abbrev pub last : {X : Type 0} → List X → Option X
last [] = None
last (x ∷ []) = Some x
last (x ∷ y ∷ xs) = last (y ∷ xs)

-- the PDU whose sequence number a status names: the last in that front that is a data PDU and no repeat
abbrev pub named : Incoming → Option Numbered
named i = last (filter (λ a. is_first a.1) (settled i))
