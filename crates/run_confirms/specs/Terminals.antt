-- What the terminal acks of a bearer (TS 38.323, 5.2.2; the ack is this product's own).
use Rattle.std.specs.Prelude.{List, Option, Some, ⊤, ℕ, ◌-◌, ◌<◌, ◌^◌, ◌≡◌}
use Rattle.dc_base.specs.Count.{count_for, sn}
use Rattle.dc_base.specs.declared.flights.Flight.{Flight}
use Rattle.dc_base.specs.declared.flights.Flight.TheVariants as flight
use Rattle.node_rules.specs.TerminalHalf.{TerminalHalf}
use Rattle.run_confirms.specs.Statuses.{IsAckOf}

-- the terminal infers this COUNT from its sequence number, and it is not the last, which is not used
abbrev pub IsInferred : TerminalHalf → ℕ → Type 0
IsInferred h count = (count_for h.setup.n h.rx.deliv (sn h.setup.n count) ≡ Some count) × (count < 2 ^ 32 - 1)

-- an ack is of this bearer and generation, and of a PDU of the leg whose COUNT was received, if it has one
abbrev pub IsTrueAck : ℕ → ℕ → List (Option ℕ) → (ℕ → Type 0) → Flight → Type 0
IsTrueAck id g leg received (flight.Ack i h num) = (i ≡ id) × (h ≡ g) × IsAckOf leg received num
IsTrueAck id g leg received _ = ⊤
