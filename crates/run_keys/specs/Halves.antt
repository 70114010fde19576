-- What is so of the identity and generation of each bearer at the terminal, and of each PDU that is sent.
use Rattle.std.specs.List.{AllByRecursion}
use Rattle.std.specs.Prelude.{List, ℕ, ⊤}
use Rattle.dc_base.specs.declared.flights.Flight.TheVariants as flight
use Rattle.dc_base.specs.declared.records.Item.{Item}
use Rattle.dc_base.specs.declared.records.Item.TheVariants as item
use Rattle.dc_base.specs.declared.records.Plan.{Plan}
use Rattle.node_rules.specs.Choices.{Send}
use Rattle.node_rules.specs.Terminal.{TerminalNode}
use Rattle.node_rules.specs.TerminalHalf.{TerminalHalf}
use Rattle.run_senders.specs.Holders.{AllHeld}

-- of a bearer at the terminal
abbrev pub IsHalfOf : (ℕ → ℕ → Type 0) → TerminalHalf → Type 0
IsHalfOf P h = P h.setup.id h.setup.g

-- of all
abbrev pub HalvesOf : (ℕ → ℕ → Type 0) → TerminalNode → Type 0
HalvesOf P t = AllHeld (IsHalfOf P) t.halves

-- of a PDU on the air
abbrev pub IsSentOf : (ℕ → ℕ → Type 0) → Send → Type 0
IsSentOf P (l, flight.Air id g num tag pdu) = P id g
IsSentOf P (l, flight.Tun tag packet) = ⊤
IsSentOf P (l, flight.Ack id g num) = ⊤
IsSentOf P (l, flight.Sdu id g sdu) = ⊤
IsSentOf P (l, flight.End id g) = ⊤
IsSentOf P (l, flight.Told id g count) = ⊤
IsSentOf P (l, flight.Ctl r) = ⊤

-- of each
abbrev pub AreSentOf : (ℕ → ℕ → Type 0) → List Send → Type 0
AreSentOf P ss = AllByRecursion (IsSentOf P) ss

-- of what an item of a plan of this generation sets
abbrev pub SetsItem : (ℕ → ℕ → Type 0) → ℕ → Item → Type 0
SetsItem P g (item.Set id n first shape threshold policy key old) = P id g
SetsItem P g (item.Unset id) = ⊤

-- of all that a plan sets
abbrev pub SetsOnly : (ℕ → ℕ → Type 0) → Plan → Type 0
SetsOnly P q = AllByRecursion (SetsItem P q.g) q.items
