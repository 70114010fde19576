-- What is still asked of a flight that a node takes, where all else is so in every run.
use Rattle.std.specs.Prelude.{Some, false, true, ⊤, ℕ, ◌+◌, ◌-◌, ◌<◌, ◌==◌, ◌^◌, ◌≡◌}
use Rattle.dc_base.specs.Count.{window}
use Rattle.dc_base.specs.Nodes.{is_same_node}
use Rattle.dc_base.specs.declared.flights.Flight.{Flight}
use Rattle.dc_base.specs.declared.flights.Flight.TheVariants as flight
use Rattle.dc_base.specs.declared.nodes.Class.TheVariants.{Ctl}
use Rattle.dc_base.specs.declared.nodes.LinkId.{LinkId}
use Rattle.dc_base.specs.declared.nodes.Node.{Node}
use Rattle.dc_base.specs.declared.nodes.Node.TheVariants.{A, B, M, T}
use Rattle.dc_base.specs.declared.records.Rec.{Rec}
use Rattle.dc_base.specs.declared.records.Rec.TheVariants as rec
use Rattle.node_rules.specs.Held.{held}
use Rattle.node_rules.specs.Terminal.{TerminalNode}
use Rattle.node_rules.specs.TerminalHalf.{TerminalHalf}
use Rattle.run_senders.specs.Holders.{IfThere}
use Rattle.node_rules.specs.Run.{Happening, given_to, on_links, refused_for}
use Rattle.node_rules.specs.World.{World}
use Rattle.node_rules.specs.declared.inputs.Input.TheVariants.{Cmd, Come}
use Rattle.run_confirmed.specs.Flights.{IsReadRight}
use Rattle.run_confirmed.specs.Stories.{IsNew, Layout, Stories}
use Rattle.run_confirmed.specs.Worlds.{Infers}

-- the plan of a record for a secondary node is of a generation of which this is so; a release of generation 0 is none
abbrev pub HasNewPlan : (ℕ → Type 0) → Rec → Type 0
HasNewPlan fresh (rec.Addreq plan key) = fresh plan.g
HasNewPlan fresh (rec.Modreq plan key) = fresh plan.g
HasNewPlan fresh (rec.Relreq plan) = fresh plan.g
HasNewPlan fresh (rec.Chgcnf plan) = fresh plan.g
HasNewPlan fresh (rec.Relcnf plan) = (plan.g == 0) ≡ false → fresh plan.g
HasNewPlan fresh _ = ⊤

-- so is that of a record for the terminal
abbrev pub HasNewOrder : (ℕ → Type 0) → Rec → Type 0
HasNewOrder fresh (rec.Reconf plan key) = fresh plan.g
HasNewOrder fresh _ = ⊤

-- the plan in a record that a node takes is new there
abbrev pub IsNewAt : Layout → Stories → Node → Rec → Type 0
IsNewAt layout stories T r = HasNewOrder (IsNew layout T stories) r
IsNewAt layout stories M r = ⊤
IsNewAt layout stories A r = HasNewPlan (IsNew layout A stories) r
IsNewAt layout stories B r = HasNewPlan (IsNew layout B stories) r

-- a flight that a node takes is read as it was sent; the terminal infers the COUNT of a PDU; the plan in a record is new
pub record IsHeardRight (layout : Layout) (stories : Stories) (w : World) (x : Node) (l : LinkId) (f : Flight) : Type 0 where
  pub reads : IsReadRight layout stories l f
  pub infers : is_same_node x T ≡ true → Infers w.terminal f
  pub new : (r : Rec) → f ≡ flight.Ctl r → l.class ≡ Ctl → IsNewAt layout stories x r

-- of what happens
abbrev pub HappensHeard : Layout → Stories → World → Happening → Type 0
HappensHeard layout stories w (given_to x (Come l f)) = IsHeardRight layout stories w x l f
HappensHeard layout stories w (given_to x (Cmd e)) = ⊤
HappensHeard layout stories w (refused_for why) = ⊤
HappensHeard layout stories w (on_links effects) = ⊤

-- where the terminal has the bearer of a PDU in its generation, the COUNT that is its tag lies less than a window ahead of RX_DELIV, and is
-- not the last, which is not used
abbrev pub IsNotAhead : TerminalNode → Flight → Type 0
IsNotAhead t (flight.Air id g num (Some count) pdu) =
    IfThere (λ (h : TerminalHalf). h.setup.g ≡ g → (count < 2 ^ 32 - 1) × (count < h.rx.deliv + window h.setup.n)) (held id t.halves)
IsNotAhead t _ = ⊤

-- what is still asked where plans are new, and what is taken is not aged: a flight that a node takes is read as it was sent, and no PDU
-- comes to the terminal from too far ahead
pub record IsReadSo (layout : Layout) (stories : Stories) (w : World) (x : Node) (l : LinkId) (f : Flight) : Type 0 where
  pub reads : IsReadRight layout stories l f
  pub near : is_same_node x T ≡ true → IsNotAhead w.terminal f

-- of what happens
abbrev pub HappensRead : Layout → Stories → World → Happening → Type 0
HappensRead layout stories w (given_to x (Come l f)) = IsReadSo layout stories w x l f
HappensRead layout stories w (given_to x (Cmd e)) = ⊤
HappensRead layout stories w (refused_for why) = ⊤
HappensRead layout stories w (on_links effects) = ⊤
