-- The nodes and the links with all lines since the start, one event after another.
use Rattle.std.specs.Prelude.{List, ◌++◌}
use Rattle.dc_base.specs.declared.events.Event.{Event}
use Rattle.dc_base.specs.declared.events.Line.{Line}
use Rattle.transcript.specs.Transcript.{entry_lines}
use Rattle.node_rules.specs.Choices.{Choices}
use Rattle.node_rules.specs.Run.{world_step}
use Rattle.node_rules.specs.World.{World}

-- what there is, and the lines since the start
pub record Kept : Type 0 where
  pub now : World
  pub lines : List Line

-- after one more event
abbrev pub kept_after : Choices → Kept → Event → Kept
kept_after c k e =
    let done = world_step c k.now e in
    record { now = done.0; lines = k.lines ++ entry_lines done.1 }
