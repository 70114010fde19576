-- The script that is made of a seed and a number of turns.
use Rattle.std.specs.Prelude.{ℕ, zero, suc, false, ◌+◌, List, [], ◌∷◌, ◌++◌, map, replicate, Option, Some, None, ◌≡◌, ⊤}
use Rattle.dc_base.specs.declared.events.Event.{Event}
use Rattle.dc_base.specs.declared.events.Event.TheVariants.{Add, Bearer, Recover, Reshape, Step}
use Rattle.dc_base.specs.declared.events.Header.{Header}
use Rattle.dc_base.specs.declared.nodes.Alg.TheVariants.{Nea2}
use Rattle.dc_base.specs.declared.nodes.LegSet.TheVariants as legs
use Rattle.dc_base.specs.declared.nodes.Node.TheVariants.{A}
use Rattle.dc_base.specs.declared.nodes.Shape.{Shape}
use Rattle.dc_base.specs.declared.numbers.SnLen.TheVariants.{S18}
use Rattle.node_rules.specs.Choices.{Choices}
use Rattle.node_rules.specs.Run.{world_after, world_step}
use Rattle.node_rules.specs.World.{World, first_loaded, new_world}
use Rattle.script_text.specs.declared.scripted.Scripted.{Scripted}
use Rattle.script_text.specs.declared.scripted.Scripted.TheVariants.{Drain, One}
use Rattle.made_scripts.specs.Turns.{mxm, turn_of}

-- 128-NEA2, no SN Counter drawn, and a root key of 32 octets 5a
abbrev pub made_header : Header
made_header = record { alg = Nea2; used = 0; root = replicate 32 90 }

-- the anchor and the only leg at the master
abbrev pub mm : Shape
mm = record { at_second = false; legs = legs.Mcg; dup = false }

-- a bearer, a secondary node, and then both legs, each command done before the next
abbrev pub opening : List Scripted
opening = One (Bearer 1 S18 0 mm 0 0) ∷ Drain ∷ One (Add A) ∷ Drain ∷ One (Reshape 1 mxm) ∷ Drain ∷ []

-- what is still under way comes in, and what was lost is sent again
abbrev pub closing : List Scripted
closing = Drain ∷ One (Recover 1) ∷ Drain ∷ []

-- ---- the events of lines

-- the steps of a drain, up to so many: of the first flight on the first link on which one stands, until none stands on any
unfoldable pub drain_steps : Choices → ℕ → World → List Event
drain_steps c zero w = []
drain_steps c (suc n) w = elim (first_loaded w.links) [ None ↦ [] | Some l ↦ Step l 0 ∷ drain_steps c n (world_step c w (Step l 0)).0 ]

-- more steps than a run within its limits has events
abbrev pub enough : ℕ
enough = 1048577

-- the events of a line
abbrev pub line_events : Choices → World → Scripted → List Event
line_events c w (One event) = event ∷ []
line_events c w Drain = drain_steps c enough w

-- the events of lines, one after another
unfoldable pub script_events : Choices → World → List Scripted → List Event
script_events c w [] = []
script_events c w (line ∷ lines) = line_events c w line ++ script_events c (world_after c w (line_events c w line)) lines

-- each drain among lines ends: nothing stands on any link after it
unfoldable pub DrainsEnd : Choices → World → List Scripted → Type 0
DrainsEnd c w [] = ⊤
DrainsEnd c w (One event ∷ lines) = DrainsEnd c (world_step c w event).0 lines
DrainsEnd c w (Drain ∷ lines) =
    let after = world_after c w (drain_steps c enough w) in
    (first_loaded after.links ≡ None) × DrainsEnd c after lines

-- ---- turns

-- an event, if there is one
abbrev pub as_list : Option Event → List Event
as_list None = []
as_list (Some event) = event ∷ []

-- the events of so many turns, from the turn of this number on, with these draws
unfoldable pub turns_from : Choices → World → ℕ → ℕ → ℕ → List Event
turns_from c w number draws zero = []
turns_from c w number draws (suc more) =
    let now = turn_of w number draws in
    as_list now.event ++ turns_from c (world_after c w (as_list now.event)) (number + 1) now.draws more

-- the nodes and the links between them after the opening
abbrev pub opened : Choices → World
opened c = world_after c (new_world made_header) (script_events c (new_world made_header) opening)

-- the lines of the script
abbrev pub made_lines : Choices → ℕ → ℕ → List Scripted
made_lines c seed turns = opening ++ map (λ e. One e) (turns_from c (opened c) 0 seed turns) ++ closing
