-- What is held by identities, which ascend: what is written at one that is there.
use Rattle.std.proofs.Common.{◌≡◌, ℕ, List, [], ◌∷◌, ap, ◌∙◌, Some, refl}
use Rattle.std.specs.BTreeMap.{BTreeMap, IsOrdered, WritesThrough, get_by, insert_entry, is_at}
use Rattle.std.specs.Cmp.{nat_cmp_total}
use Rattle.std.specs.List.Sorted.{IsStrictlySortedBy}
use Rattle.std.specs.Map.{keys_of, lookup, set_value}
use Rattle.std.specs.Ordering.{nat_cmp}
use Rattle.std.specs.declared.cmp.Ordering.{Ordering}
use Rattle.std.specs.declared.cmp.Ordering.TheVariants.{Less, Equal, Greater}
use Rattle.std.proofs.lemmas.Map.{lookup-none}
use Rattle.std.proofs.lemmas.Map.Entries.{none_below_head}
use Rattle.std.proofs.lemmas.Map.Keys.{sorted_tail}

-- at the head of the list, by how the key compares to it
by_order : {X : Type 0} (o : Ordering) (k : ℕ) (v w : X) (e : ℕ × X) (es : List (ℕ × X)) → nat_cmp k e.0 ≡ o → IsStrictlySortedBy nat_cmp (keys_of (e ∷ es))
    → lookup (is_at (nat_cmp k)) (e ∷ es) ≡ Some v
    → (lookup (is_at (nat_cmp k)) es ≡ Some v → set_value (is_at (nat_cmp k)) es w ≡ insert_entry nat_cmp es k w)
    → set_value (is_at (nat_cmp k)) (e ∷ es) w ≡ insert_entry nat_cmp (e ∷ es) k w
by_order Less k v w e es at s h later = let n = lookup-none (is_at (nat_cmp k)) (e ∷ es) (none_below_head nat_cmp_total k e es s at) in cc
by_order Equal k v w e es at s h later = rw at refl
by_order Greater k v w e es at s h later = rw at (ap (λ r. e ∷ r) (later (rw at at h)))

-- a value that takes the place of one is put there
pub insert_entry-there : {X : Type 0} (k : ℕ) (v w : X) (es : List (ℕ × X)) → IsStrictlySortedBy nat_cmp (keys_of es) → lookup (is_at (nat_cmp k)) es ≡ Some v
    → set_value (is_at (nat_cmp k)) es w ≡ insert_entry nat_cmp es k w
insert_entry-there k v w [] s h = cc
insert_entry-there k v w (e ∷ es) s h = by_order (nat_cmp k e.0) k v w e es refl s h (insert_entry-there k v w es (sorted_tail nat_cmp e.0 (keys_of es) s))

-- the same of a map, after a write through what `get_mut` lent
pub entries_written : {X : Type 0} (m n : BTreeMap ℕ X) (k : ℕ) (v w : X) → IsOrdered nat_cmp m → get_by (nat_cmp k) m ≡ Some v → WritesThrough nat_cmp (nat_cmp k) m w n
    → n.entries ≡ insert_entry nat_cmp m.entries k w
entries_written m n k v w s h t = t.0 ∙ insert_entry-there k v w m.entries s h
