-- Which entry comes next.
use Rattle.std.specs.Prelude.{Bool, true, List, [], ◌∷◌}
use Rattle.dc_base.specs.declared.nodes.Node.{Node}
use Rattle.journals.specs.declared.entries.JournalEntry.{JournalEntry}
use Rattle.journals.specs.Merging.{is_before}

-- the first of the node's entries comes before the first of the others
abbrev pub goes_first : Node → List JournalEntry → List (Node × JournalEntry) → Bool
goes_first n [] ys = true
goes_first n (e ∷ es) [] = true
goes_first n (e ∷ es) (y ∷ ys) = is_before (n, e) y
