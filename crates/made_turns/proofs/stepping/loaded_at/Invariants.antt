use Rattle.std.proofs.Common.{◌≡◌, drop}
use Rattle.std.specs.Prelude.{slice_get}
use Rattle.made_scripts.specs.Turns.{loaded_of}
use Rattle.made_turns.proofs.stepping.loaded_at.Given as goal

abbrev pub invariant-loop-link : goal.invariant-loop-link
invariant-loop-link l =
    slice_get (loaded_of l.network.links l.links) l.place ≡ slice_get (loaded_of l.network.links (drop l.link-index l.links)) l.before
