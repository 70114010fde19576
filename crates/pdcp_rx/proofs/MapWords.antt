-- The words of std's map, and those of what is stored.
use Rattle.std.proofs.Common.{ℕ, ◌≡◌, ◌==◌, false, List, [], ◌∷◌, refl, arith}
use Rattle.std.specs.Map.{lookup}
use Rattle.std.specs.BTreeMap.{is_at, insert_entry}
use Rattle.std.specs.Ordering.{nat_cmp}
use Rattle.std.specs.Option.{is_some}
use Rattle.std.proofs.lemmas.Bool.Decides.{nat_tests}
use Rattle.pdcp_rx.specs.Entries.{Entry, is_stored, with_sdu}

is_at-eqb : (c d : ℕ) → is_at (nat_cmp c) d ≡ (c == d)
is_at-eqb c d = grind (arith, nat_tests)

pub is_some-lookup : (c : ℕ) (es : List Entry) → is_some (lookup (is_at (nat_cmp c)) es) ≡ is_stored c es
is_some-lookup c [] = refl
is_some-lookup c (e ∷ es) = grind (arith, nat_tests, is_at-eqb c e.0, is_some-lookup c es)

pub insert_entry-new : (c : ℕ) (sdu : List ℕ) (es : List Entry) → is_stored c es ≡ false → insert_entry nat_cmp es c sdu ≡ with_sdu c sdu es
insert_entry-new c sdu [] new = refl
insert_entry-new c sdu (e ∷ es) new = grind (arith, nat_tests, insert_entry-new c sdu es)
