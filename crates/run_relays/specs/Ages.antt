-- Which COUNTs the terminal sends (TS 38.323, 5.2.1 and 5.5).
use Rattle.std.specs.List.{AllByRecursion}
use Rattle.std.specs.Prelude.{List, Option, Some, true, ⊤, ℕ, ◌≡◌, ◌≤◌}
use Rattle.dc_base.specs.declared.flights.Flight.{Flight}
use Rattle.dc_base.specs.declared.flights.Flight.TheVariants as flight
use Rattle.pdcp_pdu.specs.DataPdu.{is_data}
use Rattle.pdcp_tx.specs.Sender.{low}
use Rattle.node_rules.specs.Choices.{Choices, Send}
use Rattle.node_rules.specs.Held.{held}
use Rattle.node_rules.specs.Run.{Happening, given_to, on_links, refused_for}
use Rattle.node_rules.specs.Terminal.{TerminalNode, terminal_step}
use Rattle.node_rules.specs.TerminalHalf.{TerminalHalf}
use Rattle.node_rules.specs.World.{World}
use Rattle.dc_base.specs.declared.nodes.Node.TheVariants.{A, B, M, T}

-- a COUNT is one from Low to the next one of the bearer that the terminal holds
pub record IsOfWindow (t : TerminalNode) (id : ℕ) (tag : Option ℕ) : Type 0 where
  pub half : TerminalHalf
  pub there : held id t.halves ≡ Some half
  pub count : ℕ
  pub tagged : tag ≡ Some count
  pub from_low : low half.tx ≤ count
  pub to_next : count ≤ half.tx.next

-- the tag of a data PDU is
abbrev pub IsTimely : TerminalNode → Flight → Type 0
IsTimely t (flight.Air id g num tag pdu) = is_data pdu ≡ true → IsOfWindow t id tag
IsTimely t (flight.Ack id g num) = ⊤
IsTimely t (flight.Tun tag packet) = ⊤
IsTimely t (flight.Sdu id g sdu) = ⊤
IsTimely t (flight.End id g) = ⊤
IsTimely t (flight.Told id g count) = ⊤
IsTimely t (flight.Ctl rec) = ⊤

-- of each send
abbrev pub AreTimely : TerminalNode → List Send → Type 0
AreTimely t ss = AllByRecursion (λ (x : Send). IsTimely t x.1) ss

-- of each in a step of the terminal, as it was before the step
abbrev pub TimelyIf : Choices → World → Happening → Type 0
TimelyIf c w (given_to T i) = AreTimely w.terminal (terminal_step c w.terminal i).1.sends
TimelyIf c w (given_to M i) = ⊤
TimelyIf c w (given_to A i) = ⊤
TimelyIf c w (given_to B i) = ⊤
TimelyIf c w (refused_for why) = ⊤
TimelyIf c w (on_links effects) = ⊤
