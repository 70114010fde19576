-- A run under the header of a made script: what there is after events, and the limits.
use Rattle.std.specs.Prelude.{List, [], ◌∷◌, ◌≡◌}
use Rattle.dc_base.specs.declared.events.Event.{Event}
use Rattle.transcript.specs.Transcript.{entry_lines}
use Rattle.node_rules.specs.Choices.{Choices}
use Rattle.node_rules.specs.Run.{world_step}
use Rattle.dc_network.specs.Counting.{IsWithin}
use Rattle.counted_network.specs.Counted.{Counting, counting_after, counting_after_all, start}
use Rattle.made_scripts.specs.Scripts.{made_header}
use Rattle.summary.specs.Summed.{Totals, nothing, with_lines}

-- the nodes and the links between them with what was counted, and what the lines so far come to
pub record Running : Type 0 where
  pub counting : Counting
  pub totals : Totals

-- before the first event
abbrev pub run_start : Running
run_start = record { counting = start made_header; totals = nothing }

-- after one more event
abbrev pub run_after : Choices → Running → Event → Running
run_after c r e = record { counting = counting_after c r.counting e; totals = with_lines r.totals (entry_lines (world_step c r.counting.world e).1) }

-- after events
abbrev pub run_after_all : Choices → Running → List Event → Running
run_after_all c r [] = r
run_after_all c r (e ∷ es) = run_after_all c (run_after c r e) es

-- one event
abbrev pub one : Event → List Event
one e = e ∷ []

-- these events led from one to the other, within the limits of a run
pub record HasRun (c : Choices) (r : Running) (es : List Event) (s : Running) : Type 0 where
  pub after : s ≡ run_after_all c r es
  pub within : IsWithin s.counting.counts

-- these events pass a limit of a run
abbrev pub PassesLimit : Choices → Running → List Event → Type 0
PassesLimit c r es = IsWithin (counting_after_all c r.counting es).counts → ⊥
