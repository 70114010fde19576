-- The events of a run in which all bearers are at the master.
use Rattle.std.specs.Prelude.{◌≡◌, ◌-◌, ◌^◌, ◌<◌, ◌≤◌, Bool, true, false, List, ⊤}
use Rattle.std.specs.List.{AllByRecursion}
use Rattle.dc_base.specs.declared.events.Event.{Event}
use Rattle.dc_base.specs.declared.events.Event.TheVariants.{Bearer, Recover, Report, Submit, Step, Lose, Again}
use Rattle.pdcp_pdu.specs.DataPdu.{IsPayload}

-- whether an event is a new bearer, a recovery, a report, a submission, or what happens to a flight. So no secondary node
-- comes in, no key changes, and a bearer stays in the shape that it was given; where that needs a secondary it is refused
abbrev pub is_of_master : Event → Bool
is_of_master (Bearer id n first shape threshold policy) = true
is_of_master (Recover id) = true
is_of_master (Report node id) = true
is_of_master (Submit id d payload) = true
is_of_master (Step l i) = true
is_of_master (Lose l i) = true
is_of_master (Again l i) = true
is_of_master _ = false

-- the parts of an event are in their ranges: an identity is at most 32, a first COUNT is not the last one, and a
-- submission has 1 to 9000 octets
abbrev pub IsEventInRange : Event → Type 0
IsEventInRange (Bearer id n first shape threshold policy) = (id ≤ 32) × (first < 2 ^ 32 - 1)
IsEventInRange (Submit id d payload) = IsPayload payload
IsEventInRange _ = ⊤

-- such an event, in range
abbrev pub IsOfMaster : Event → Type 0
IsOfMaster e = IsEventInRange e × (is_of_master e ≡ true)

-- each is one
abbrev pub AreOfMaster : List Event → Type 0
AreOfMaster es = AllByRecursion IsOfMaster es
