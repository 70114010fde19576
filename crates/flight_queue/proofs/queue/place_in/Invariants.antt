use Rattle.std.proofs.Common.{◌≡◌, drop}
use Rattle.flight_queue.specs.Runs.{place_in}
use Rattle.flight_queue.proofs.Places.{places_from}
use Rattle.flight_queue.proofs.queue.place_in.Given as goal

abbrev pub invariant-loop-index : goal.invariant-loop-index
invariant-loop-index l = place_in l.runs l.position ≡ places_from l.index (drop l.index l.runs) l.rest
