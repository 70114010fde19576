-- The nodes and the links between them after events, and what the lines of these events count.
use Rattle.std.specs.Prelude.{List, [], ◌∷◌}
use Rattle.dc_base.specs.declared.events.Header.{Header}
use Rattle.dc_base.specs.declared.events.Event.{Event}
use Rattle.transcript.specs.Transcript.{entry_lines}
use Rattle.node_rules.specs.Choices.{Choices}
use Rattle.node_rules.specs.Run.{world_step}
use Rattle.node_rules.specs.World.{World, new_world}
use Rattle.dc_network.specs.Counting.{Counted, counted, counts_of_both}

-- the nodes and the links between them, and what all lines since the start count
pub record Counting : Type 0 where
  pub world : World
  pub counts : Counted

-- at the start
abbrev pub start : Header → Counting
start h = record { world = new_world h; counts = counted [] }

-- after one more event
abbrev pub counting_after : Choices → Counting → Event → Counting
counting_after c k e =
    let next = world_step c k.world e in
    record { world = next.0; counts = counts_of_both k.counts (counted (entry_lines next.1)) }

-- after events
abbrev pub counting_after_all : Choices → Counting → List Event → Counting
counting_after_all c k [] = k
counting_after_all c k (e ∷ es) = counting_after_all c (counting_after c k e) es
