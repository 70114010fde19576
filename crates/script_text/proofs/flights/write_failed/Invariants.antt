-- What was written, with the text of the pairs that are left, is the whole text.
use Rattle.std.proofs.Common.{◌≡◌, ◌++◌, ◌∷◌, drop}
use Rattle.std.specs.List.{flat_map}
use Rattle.transcript.specs.Text.{pair_text}
use Rattle.script_text.proofs.flights.write_failed.Given as goal

abbrev pub invariant-loop-pair : goal.invariant-loop-pair
invariant-loop-pair l =
    l.out ++ flat_map (λ p. 32 ∷ pair_text p) (drop l.pair-index l.pair-items)
    ≡ l.initial.out ++ flat_map (λ p. 32 ∷ pair_text p) l.pair-items
