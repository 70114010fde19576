-- The PDUs that were put on the legs of a bearer in one generation (TS 38.323, 5.2.1 and 5.11).
use Rattle.std.specs.Prelude.{◌==◌, ℕ, Bool, true, false, ◌&&◌, ◌||◌, not, nat_le, nat_lt, List, [], ◌∷◌, ◌++◌, length, map, take, sum_by, Option, Some, None, slice_get, slice_set, if◌then◌else◌}
use Rattle.std.specs.List.{list_any}
use Rattle.dc_base.specs.declared.nodes.Cell.{Cell}
use Rattle.dc_base.specs.declared.nodes.Cell.TheVariants.{Mcg, Scg}
use Rattle.dc_base.specs.declared.nodes.Shape.{Shape}
use Rattle.split_leg.specs.declared.leg.Pdu.{Pdu}

-- a leg: its PDUs by their numbers, how many of them were put by earlier sends, and whether it failed
pub record LegState : Type 0 where
  pub pdus : List Pdu
  pub before : ℕ
  pub failed : Bool

-- the octets of a PDU are outstanding: it is no repeat, its ack has not come and its COUNT is not confirmed
abbrev pub is_open : Pdu → Bool
is_open p = not p.repeat && not p.acked && not p.settled

-- what a PDU counts in the volume of its leg: its octets while they are outstanding, else 0
abbrev pub open_octets : Pdu → ℕ
open_octets p = if is_open p then p.octets else 0

-- the volume of a leg: the octets that are outstanding
abbrev pub volume : List Pdu → ℕ
volume pdus = sum_by open_octets pdus

-- the PDU's COUNT is c; a control PDU has none (None)
abbrev pub is_count : ℕ → Option ℕ → Bool
is_count c None = false
is_count c (Some d) = d == c

-- an earlier send put a PDU of this COUNT on the leg
abbrev pub put_before : ℕ → LegState → Bool
put_before c leg = list_any (λ p. is_count c p.count) (take leg.before leg.pdus)

-- one more PDU
abbrev pub with_pdu : LegState → Option ℕ → ℕ → Bool → LegState
with_pdu leg count octets repeat =
    record leg { pdus = leg.pdus ++ record { count = count; octets = octets; repeat = repeat; acked = false; settled = false } ∷ [] }

-- what an ack confirms: the COUNT of a PDU whose ack had not come
abbrev pub count_unless_acked : Option Pdu → Option ℕ
count_unless_acked None = None
count_unless_acked (Some p) = if p.acked then None else p.count

-- the COUNT that the ack of this number confirms; None for no such PDU, one acked before, or a control PDU
abbrev pub acked_count : List Pdu → ℕ → Option ℕ
acked_count pdus num = count_unless_acked (slice_get pdus num)

-- the PDUs after the ack of the one that has this number; where none has it (None), they are as before
abbrev pub set_acked : List Pdu → ℕ → Option Pdu → List Pdu
set_acked pdus num None = pdus
set_acked pdus num (Some p) = slice_set pdus num (record p { acked = true })

-- the ack of this number came
abbrev pub with_ack : LegState → ℕ → LegState
with_ack leg num = record leg { pdus = set_acked leg.pdus num (slice_get leg.pdus num) }

-- the PDU's COUNT is from first up to below end; that of a control PDU (None) is not
abbrev pub is_within : ℕ → ℕ → Option ℕ → Bool
is_within first end None = false
is_within first end (Some c) = nat_le first c && nat_lt c end

-- an outstanding PDU with a COUNT from first up to below end
abbrev pub is_settled_by : ℕ → ℕ → Pdu → Bool
is_settled_by first end p = is_open p && is_within first end p.count

-- the PDU after the COUNTs from first up to below end are confirmed: outstanding no more, if its COUNT is one of them
abbrev pub settle : ℕ → ℕ → Pdu → Pdu
settle first end p = if is_settled_by first end p then record p { settled = true } else p

-- the COUNTs from first up to below end are confirmed
abbrev pub settle_all : ℕ → ℕ → LegState → LegState
settle_all first end leg = record leg { pdus = map (settle first end) leg.pdus }

-- the two legs of a bearer, and how PDUs are routed to them: the threshold is in octets
pub record LegsState : Type 0 where
  pub shape : Shape
  pub threshold : ℕ
  pub policy : ℕ
  pub mcg : LegState
  pub scg : LegState

-- the leg over this cell group
abbrev pub leg_at : LegsState → Cell → LegState
leg_at legs Mcg = legs.mcg
leg_at legs Scg = legs.scg

-- the legs with this one over the cell group, in place of the leg there
abbrev pub with_leg : LegsState → Cell → LegState → LegsState
with_leg legs Mcg leg = record legs { mcg = leg }
with_leg legs Scg leg = record legs { scg = leg }

-- the next send begins: all PDUs on the legs were put by earlier sends
abbrev pub begun : LegState → LegState
begun leg = record leg { before = length leg.pdus }

-- the next send begins on both legs
abbrev pub with_send : LegsState → LegsState
with_send legs = record legs { mcg = begun legs.mcg; scg = begun legs.scg }

-- a PDU of this COUNT is a repeat: an earlier send put one on a leg. A control PDU is none
abbrev pub is_repeat : LegsState → Option ℕ → Bool
is_repeat legs None = false
is_repeat legs (Some c) = put_before c legs.mcg || put_before c legs.scg

-- the COUNTs from first up to below end are confirmed
abbrev pub settled_on_both : ℕ → ℕ → LegsState → LegsState
settled_on_both first end legs =
    record legs { mcg = settle_all first end legs.mcg; scg = settle_all first end legs.scg }
