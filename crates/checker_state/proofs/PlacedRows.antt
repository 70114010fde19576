-- A row in its place by ascending identity, where the place of the first identity that is no smaller is known.
use Rattle.std.proofs.Common.{◌≡◌, ◌∙◌, ℕ, zero, suc, ◌+◌, ◌<◌, ◌≤◌, ◌==◌, Bool, true, false, List, [], ◌∷◌, ◌++◌, None, Some, length, get_or, nat_le, nat_lt, set, ap, refl, arith, inl, inr}
use Rattle.std.specs.List.{insert, position, position_or_len}
use Rattle.std.proofs.lemmas.Bool.{cases_Bool, ltb-true}
use Rattle.std.proofs.lemmas.Bool.Decides.{nat_tests}
use Rattle.claims.specs.Table.{Row}
use Rattle.claims.specs.Carrying.{with_row}

-- where no element passes
pub position-none : {X : Type 0} (p : X → Bool) (xs : List X) → position p xs ≡ None → length xs ≤ position_or_len p xs
position-none p xs none = grind (arith, nat_tests)

-- where one does
pub position-some : {X : Type 0} (p : X → Bool) (xs : List X) (i : ℕ) → position p xs ≡ Some i → (i ≡ position_or_len p xs) × (i < length xs)
position-some p xs i some = elim (cases_Bool (nat_lt (position_or_len p xs) (length xs))) [
  | inl e ↦ let same : i ≡ position_or_len p xs = cc (some, e) in (same, omega (arith, ltb-true (position_or_len p xs) (length xs) e, same))
  | inr e ↦ absurd cc
]

-- the bearer is of this identity or a greater one
abbrev pub is_from : Row → Row → Bool
is_from r x = nat_le r.id x.id

-- a bearer goes behind those with a smaller identity
skipped : (r x : Row) (xs : List Row) → is_from r x ≡ false → with_row r (x ∷ xs) ≡ x ∷ with_row r xs
skipped r x xs e =
    let apart : (x.id == r.id) ≡ false = grind (arith, nat_tests) in
    let above : nat_lt r.id x.id ≡ false = grind (arith, nat_tests) in
    rw (apart, above) refl

place_here : (r x : Row) (xs : List Row) → is_from r x ≡ true → position_or_len (is_from r) (x ∷ xs) ≡ 0
place_here r x xs e = rw e refl

place_behind : (r x : Row) (xs : List Row) → is_from r x ≡ false → position_or_len (is_from r) (x ∷ xs) ≡ 1 + position_or_len (is_from r) xs
place_behind r x xs e = rw e refl

-- all identities are smaller
pub with_row-last : (r : Row) (xs : List Row) → length xs ≤ position_or_len (is_from r) xs → with_row r xs ≡ xs ++ r ∷ []
with_row-last r [] past = refl
with_row-last r (x ∷ xs) past = elim (cases_Bool (is_from r x)) [
  | inl e ↦ absurd (omega (arith, place_here r x xs e))
  | inr e ↦ skipped r x xs e ∙ ap (λ l. x ∷ l) (with_row-last r xs (omega (arith, place_behind r x xs e)))
]

-- the identity is there
pub with_row-there : (r : Row) (xs : List Row) (i : ℕ) (d : Row) → i ≡ position_or_len (is_from r) xs → i < length xs → ((get_or xs i d).id == r.id) ≡ true
    → with_row r xs ≡ set xs i r
with_row-there r [] i d is inside same = absurd (omega arith)
with_row-there r (x ∷ xs) zero d is inside same = rw same refl
with_row-there r (x ∷ xs) (suc i) d is inside same = elim (cases_Bool (is_from r x)) [
  | inl e ↦ absurd (omega (arith, place_here r x xs e))
  | inr e ↦ skipped r x xs e ∙ ap (λ l. x ∷ l) (with_row-there r xs i d (omega (arith, place_behind r x xs e)) (omega arith) same)
]

-- the first identity that is no smaller is another one
pub with_row-between : (r : Row) (xs : List Row) (i : ℕ) (d : Row) → i ≡ position_or_len (is_from r) xs → i < length xs → ((get_or xs i d).id == r.id) ≡ false
    → with_row r xs ≡ insert xs i r
with_row-between r [] i d is inside other = absurd (omega arith)
with_row-between r (x ∷ xs) zero d is inside other = elim (cases_Bool (is_from r x)) [
  | inl e ↦ let below : nat_lt r.id x.id ≡ true = grind (arith, nat_tests) in rw (other, below) refl
  | inr e ↦ absurd (omega (arith, place_behind r x xs e))
]
with_row-between r (x ∷ xs) (suc i) d is inside other = elim (cases_Bool (is_from r x)) [
  | inl e ↦ absurd (omega (arith, place_here r x xs e))
  | inr e ↦ skipped r x xs e ∙ ap (λ l. x ∷ l) (with_row-between r xs i d (omega (arith, place_behind r x xs e)) (omega arith) other)
]
