-- When the lines of each event of a run suit what the past says of who holds each bearer.
use Rattle.std.specs.List.{AllByRecursion, list_any}
use Rattle.std.specs.Prelude.{List, Some, [], false, ⊤, ℕ, ◌≡◌, ◌∷◌, ◌⊎◌}
use Rattle.dc_base.specs.Nodes.{is_same_node}
use Rattle.dc_base.specs.declared.events.Event.{Event}
use Rattle.dc_base.specs.declared.events.Event.TheVariants as event
use Rattle.dc_base.specs.declared.flights.Flight.{Flight}
use Rattle.dc_base.specs.declared.flights.Flight.TheVariants as flight
use Rattle.dc_base.specs.declared.nodes.Node.{Node}
use Rattle.dc_base.specs.declared.nodes.Node.TheVariants.{A, B, M, T}
use Rattle.dc_base.specs.declared.records.Item.{Item}
use Rattle.dc_base.specs.declared.records.Rec.{Rec}
use Rattle.dc_base.specs.declared.records.Rec.TheVariants as rec
use Rattle.node_rules.specs.Choices.{Choices}
use Rattle.node_rules.specs.Lines.{lines_of}
use Rattle.node_rules.specs.Run.{Happening, carried_on, given_to, happening, on_links, refused_for, world_step}
use Rattle.node_rules.specs.World.{World}
use Rattle.claims.specs.Judged.{judged}
use Rattle.claims.specs.Links.{find_at}
use Rattle.claims.specs.Noted.{after}
use Rattle.claims.specs.Past.{Past}
use Rattle.claims.specs.Reading.{unsets}
use Rattle.run_holders.specs.Actives.{Actives}
use Rattle.run_holders.specs.Fitting.{AllSuit, IsApart}
use Rattle.run_holders.specs.Lines.{IsQuiet}
use Rattle.run_holders.specs.Owning.{OwnsWell}
use Rattle.run_holders.specs.Suited.{actives_at}

-- the items that a record drops, where a node takes it
abbrev pub dropped_in : Rec → List Item
dropped_in (rec.Modreq q key) = q.items
dropped_in _ = []

-- those that a flight drops
abbrev pub drops_in : Flight → List Item
drops_in (flight.Ctl r) = dropped_in r
drops_in _ = []

-- the flight that a step takes leaves what these hold
abbrev pub TakesNone : Past → Node → Actives → Event → Type 0
TakesNone p y b (event.Step l i) = (f : Flight) → find_at l i p.standing ≡ Some (l, f) → (k g : ℕ) → b k ≡ Some g → (is_same_node l.to y ≡ false) ⊎ (list_any (unsets k) (drops_in f) ≡ false)
TakesNone p y b _ = ⊤

-- the lines of a step of the master suit the past by what is active before it, or they say nothing of anchors and suit it by what is
-- active after it; none says that it has an active anchor of what is active elsewhere
abbrev pub MasterLines : Choices → Past → World → Event → Happening → Type 0
MasterLines c p w e h =
    (AllSuit (judged e (carried_on c w h).1.answer p) (actives_at M w) (lines_of (carried_on c w h).1)
    ⊎ (AllByRecursion IsQuiet (lines_of (carried_on c w h).1) × AllSuit (judged e (carried_on c w h).1.answer p) (actives_at M (carried_on c w h).0) (lines_of (carried_on c w h).1)))
    × ((y : Node) → is_same_node M y ≡ false → AllByRecursion (IsApart (actives_at y w)) (lines_of (carried_on c w h).1))

-- a secondary node takes no record that drops what it has an active anchor of, or it has none after it and the lines say nothing of
-- anchors; each anchor that becomes active there is of the latest establishment and of nothing that is active elsewhere
abbrev pub SecondLines : Choices → Past → World → Event → Node → Happening → Type 0
SecondLines c p w e x h =
    (TakesNone p x (actives_at x w) e ⊎ (TakesNone p x (actives_at x (carried_on c w h).0) e × AllByRecursion IsQuiet (lines_of (carried_on c w h).1)))
    × AllByRecursion (OwnsWell (judged e (carried_on c w h).1.answer p) w x) (lines_of (carried_on c w h).1)

-- so it is of what happens; of the terminal nothing is asked
abbrev pub HappensWell : Choices → Past → World → Event → Happening → Type 0
HappensWell c p w e (given_to T i) = ⊤
HappensWell c p w e (given_to M i) = MasterLines c p w e (given_to M i)
HappensWell c p w e (given_to A i) = SecondLines c p w e A (given_to A i)
HappensWell c p w e (given_to B i) = SecondLines c p w e B (given_to B i)
HappensWell c p w e (refused_for why) = ⊤
HappensWell c p w e (on_links effects) = ⊤

-- and of each event of a run
abbrev pub RunsWell : Choices → Past → World → List Event → Type 0
RunsWell c p w [] = ⊤
RunsWell c p w (e ∷ es) = HappensWell c p w e (happening w e) × RunsWell c (after p (world_step c w e).1) (world_step c w e).0 es
