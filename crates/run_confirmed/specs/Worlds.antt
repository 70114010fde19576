-- What all nodes have of the stories, and what stands on links says of them; what is taken right.
use Rattle.std.specs.Prelude.{IfSome, length, not, true, ⊤, ℕ, ◌≡◌}
use Rattle.std.specs.List.{AllByRecursion}
use Rattle.dc_base.specs.Nodes.{is_same_node}
use Rattle.dc_base.specs.declared.flights.Flight.{Flight}
use Rattle.dc_base.specs.declared.flights.Flight.TheVariants as flight
use Rattle.dc_base.specs.declared.nodes.Class.TheVariants.{Air, Ctl}
use Rattle.dc_base.specs.declared.nodes.LinkId.{LinkId}
use Rattle.dc_base.specs.declared.nodes.Node.{Node}
use Rattle.dc_base.specs.declared.nodes.Node.TheVariants.{A, B, M, T}
use Rattle.dc_base.specs.declared.records.Rec.{Rec}
use Rattle.node_rules.specs.Held.{held}
use Rattle.node_rules.specs.Choices.{Choices}
use Rattle.node_rules.specs.MasterCommands.{master_command}
use Rattle.node_rules.specs.Run.{Happening, given_to, on_links, refused_for}
use Rattle.node_rules.specs.Terminal.{TerminalNode}
use Rattle.node_rules.specs.TerminalHalf.{TerminalHalf}
use Rattle.node_rules.specs.World.{World, flights_on}
use Rattle.node_rules.specs.declared.inputs.Input.TheVariants.{Cmd, Come}
use Rattle.run_confirms.specs.Terminals.{IsInferred}
use Rattle.run_senders.specs.Holders.{IfThere}
use Rattle.run_confirmed.specs.Flights.{IsReadRight, IsTrue}
use Rattle.run_confirmed.specs.Masters.{AdoptsSo, CommandsSo, ControlsSo, IsMasterNow, taken_by}
use Rattle.run_confirmed.specs.Nodes.{IsSecondOf, IsTerminalOf}
use Rattle.run_confirmed.specs.Plans.{IsFitOrder, IsFitRecord}
use Rattle.run_confirmed.specs.Stories.{IsInOrder, IsNew, Layout, Stories}

-- nodes have what the stories say
pub record AreNodesOf (layout : Layout) (stories : Stories) (w : World) : Type 0 where
  pub terminal : IsTerminalOf layout stories w.terminal
  pub master : IsMasterNow layout stories w.master
  pub a : IsSecondOf layout A stories w.a
  pub b : IsSecondOf layout B stories w.b

-- so they have, and what stands on links says so
pub record IsWorldOf (layout : Layout) (stories : Stories) (w : World) : Type 0 where
  pub long : length w.links ≡ 64
  pub nodes : AreNodesOf layout stories w
  pub flights : (l : LinkId) → AllByRecursion (IsTrue layout stories l) (flights_on l w.links)
  pub order : (id g : ℕ) → IsInOrder (stories id g)

-- the plan in a record that a node takes is new there, and lays its bearers out as the layout says
abbrev pub FitsAt : Layout → Stories → Node → Rec → Type 0
FitsAt layout stories T r = IsFitOrder layout (IsNew layout T stories) r
FitsAt layout stories M r = ⊤
FitsAt layout stories A r = IsFitRecord layout (IsNew layout A stories) r
FitsAt layout stories B r = IsFitRecord layout (IsNew layout B stories) r

-- where the terminal has the bearer of a PDU in its generation, it infers the COUNT that is its tag
abbrev pub Infers : TerminalNode → Flight → Type 0
Infers t (flight.Air id g num tag pdu) = IfThere (λ (h : TerminalHalf). h.setup.g ≡ g → IfSome tag (IsInferred h)) (held id t.halves)
Infers t _ = ⊤

-- the procedures of the master carry out what they may, for a flight that it takes
abbrev pub ProcsTake : Layout → Choices → World → Node → LinkId → Flight → Type 0
ProcsTake layout c w M l f =
    ((id : ℕ) → AdoptsSo layout w.master.proc (taken_by c l.class f) id (held id w.master.anchors)) × (l.class ≡ Ctl → ControlsSo layout c w.master l.from f)
ProcsTake layout c w x l f = ⊤

-- a flight that a node takes: it comes to the node, and over the air from the terminal or to it; it is read as it was sent; the
-- terminal infers the COUNT of a PDU; the plan in a record fits
pub record IsTakenRight (layout : Layout) (c : Choices) (stories : Stories) (w : World) (x : Node) (l : LinkId) (f : Flight) : Type 0 where
  pub from : l.class ≡ Air → is_same_node l.from T ≡ not (is_same_node x T)
  pub to : l.to ≡ x
  pub reads : IsReadRight layout stories l f
  pub infers : is_same_node x T ≡ true → Infers w.terminal f
  pub fits : (r : Rec) → f ≡ flight.Ctl r → l.class ≡ Ctl → FitsAt layout stories x r
  pub procs : ProcsTake layout c w x l f

-- of what happens; for a command, the procedures of the master carry out what they may
abbrev pub HappensRight : Layout → Choices → Stories → World → Happening → Type 0
HappensRight layout c stories w (given_to x (Come l f)) = IsTakenRight layout c stories w x l f
HappensRight layout c stories w (given_to M (Cmd e)) = CommandsSo layout w.master.proc (master_command (length c.policies) w.master.proc e)
HappensRight layout c stories w (given_to x (Cmd e)) = ⊤
HappensRight layout c stories w (refused_for why) = ⊤
HappensRight layout c stories w (on_links effects) = ⊤
