-- What the terminal notes: of a plan, what it sets and drops; of a flight over the air, what is handed up, and that its uplink
-- window moved.
use Rattle.std.proofs.Common.{ℕ, Bool, true, false, List, [], ◌∷◌, Option, Some, None, refl, inl, inr}
use Rattle.std.specs.List.{AllByRecursion}
use Rattle.dc_base.specs.declared.flights.Flight.{Flight}
use Rattle.dc_base.specs.declared.nodes.Dir.TheVariants.{Dl}
use Rattle.dc_base.specs.declared.nodes.Node.{Node}
use Rattle.dc_base.specs.declared.nodes.Node.TheVariants.{T}
use Rattle.dc_base.specs.declared.records.Item.{Item}
use Rattle.dc_base.specs.declared.records.Item.TheVariants as item
use Rattle.dc_base.specs.declared.records.Plan.{Plan}
use Rattle.key_chain.specs.KeyNames.{octets_of_side}
use Rattle.transcript.proofs.OnEach.{each_append}
use Rattle.node_rules.specs.Choices.{Choices}
use Rattle.node_rules.specs.Effects.{in_turn}
use Rattle.node_rules.specs.Flights.{Named}
use Rattle.node_rules.specs.Held.{held}
use Rattle.node_rules.specs.Master.{handed_up}
use Rattle.node_rules.specs.Setup.{Setup, setup_of}
use Rattle.node_rules.specs.Terminal.{TerminalNode, air_taken, air_taken_by, half_did, half_set, half_set_if, item_taken, plan_taken, uplink_freed}
use Rattle.node_rules.specs.TerminalHalf.{TerminalHalf, terminal_air_in}
use Rattle.node_rules.specs.declared.bearers.HalfOut.{HalfOut}
use Rattle.run_uplinks.proofs.Lines.{IsOfTerminal}

-- ---- a plan

by_half : (c : Choices) (t : TerminalNode) (id : ℕ) (s : Setup) (o : Option TerminalHalf) → AllByRecursion (IsOfTerminal 2) (half_set c t id s o).1.notes
by_half c t id s None = tt
by_half c t id s (Some h) = tt

by_half_if : (c : Choices) (t : TerminalNode) (id : ℕ) (o : Option Setup) → AllByRecursion (IsOfTerminal 2) (half_set_if c t id o).1.notes
by_half_if c t id None = tt
by_half_if c t id (Some s) = by_half c t id s (held id t.halves)

by_item : (c : Choices) (root : List ℕ) (p : Plan) (t : TerminalNode) (i : Item) → AllByRecursion (IsOfTerminal 2) (item_taken c root p t i).1.notes
by_item c root p t (item.Set id n first shape threshold policy key old) =
    ((refl, refl, inl refl), by_half_if c t id (setup_of T p t.alg (octets_of_side root key.side) (item.Set id n first shape threshold policy key old)))
by_item c root p t (item.Unset id) = ((refl, refl, inl refl), tt)

by_items : (c : Choices) (root : List ℕ) (p : Plan) (t : TerminalNode) (items : List Item) → AllByRecursion (IsOfTerminal 2) (in_turn (item_taken c root p) t items).1.notes
by_items c root p t [] = tt
by_items c root p t (i ∷ items) =
    let here = item_taken c root p t i in
    each_append (IsOfTerminal 2) here.1.notes (in_turn (item_taken c root p) here.0 items).1.notes (by_item c root p t i) (by_items c root p here.0 items)

pub plan_notes : (c : Choices) (root : List ℕ) (p : Plan) (t : TerminalNode) (takes : Bool) → AllByRecursion (IsOfTerminal 2) (plan_taken c root p t takes).1.notes
plan_notes c root p t true = by_items c root p (record t { sec = p.sec }) p.items
plan_notes c root p t false = tt

-- ---- a flight over the air

by_ups : (id : ℕ) (ups : List (ℕ × List ℕ)) → AllByRecursion (IsOfTerminal 4) (handed_up T id Dl ups)
by_ups id [] = tt
by_ups id (u ∷ ups) = ((refl, refl, inr (λ s. refl)), by_ups id ups)

by_freed : (id : ℕ) (o : Option ℕ) → AllByRecursion (IsOfTerminal 4) (uplink_freed id o)
by_freed id None = tt
by_freed id (Some count) = ((refl, refl, inl refl), tt)

pub did_notes : (t : TerminalNode) (id : ℕ) (done : TerminalHalf × HalfOut) → AllByRecursion (IsOfTerminal 4) (half_did t id done).1.notes
did_notes t id done = each_append (IsOfTerminal 4) (handed_up T id Dl done.1.ups) (uplink_freed id done.1.low) (by_ups id done.1.ups) (by_freed id done.1.low)

by_air : (t : TerminalNode) (from : Node) (f : Flight) (id : ℕ) (o : Option TerminalHalf) → AllByRecursion (IsOfTerminal 4) (air_taken_by t from f id o).1.notes
by_air t from f id None = tt
by_air t from f id (Some h) = did_notes t id (terminal_air_in h from f)

pub air_notes : (t : TerminalNode) (from : Node) (f : Flight) (o : Option Named) → AllByRecursion (IsOfTerminal 4) (air_taken t from f o).1.notes
air_notes t from f None = tt
air_notes t from f (Some (id, g)) = by_air t from f id (held id t.halves)
