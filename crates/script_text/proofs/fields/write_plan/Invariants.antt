-- What was written, with the text of the items that are left, is the whole text.
use Rattle.std.proofs.Common.{◌≡◌, ◌++◌, ◌∷◌, drop}
use Rattle.std.specs.List.{flat_map}
use Rattle.transcript.specs.Text.{item_text}
use Rattle.script_text.proofs.fields.write_plan.Given as goal

abbrev pub invariant-loop-item : goal.invariant-loop-item
invariant-loop-item l =
    l.out ++ flat_map (λ i. 32 ∷ item_text i) (drop l.item-index l.item-items)
    ≡ l.initial.out ++ flat_map (λ i. 32 ∷ item_text i) l.item-items
