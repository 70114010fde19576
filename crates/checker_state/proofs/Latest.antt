-- The latest bearer of an identity, changed at its place.
use Rattle.std.proofs.Common.{◌≡◌, ℕ, zero, suc, ◌+◌, ◌<◌, ◌≤◌, ◌==◌, Bool, true, false, List, [], ◌∷◌, length, get_or, set, ap, refl, arith, inl, inr}
use Rattle.std.specs.List.{position_or_len}
use Rattle.std.proofs.lemmas.Bool.{cases_Bool}
use Rattle.claims.specs.Past.{Bearer}
use Rattle.claims.specs.Reading.{on_latest}

-- the bearer is of this identity
abbrev pub is_of : ℕ → Bearer → Bool
is_of id b = b.id == id

place_here : (id : ℕ) (b : Bearer) (bs : List Bearer) → is_of id b ≡ true → position_or_len (is_of id) (b ∷ bs) ≡ 0
place_here id b bs e = rw e refl

place_behind : (id : ℕ) (b : Bearer) (bs : List Bearer) → is_of id b ≡ false → position_or_len (is_of id) (b ∷ bs) ≡ 1 + position_or_len (is_of id) bs
place_behind id b bs e = rw e refl

-- there is none
pub latest_none : (id : ℕ) (f : Bearer → Bearer) (bs : List Bearer) → length bs ≤ position_or_len (is_of id) bs → bs ≡ on_latest id f bs
latest_none id f [] past = refl
latest_none id f (b ∷ bs) past = elim (cases_Bool (is_of id b)) [
  | inl e ↦ absurd (omega (arith, place_here id b bs e))
  | inr e ↦ rw e (ap (λ l. b ∷ l) (latest_none id f bs (omega (arith, place_behind id b bs e))))
]

-- it is at this place
pub latest_there : (id : ℕ) (f : Bearer → Bearer) (bs : List Bearer) (i : ℕ) (d : Bearer) → i ≡ position_or_len (is_of id) bs → i < length bs
    → set bs i (f (get_or bs i d)) ≡ on_latest id f bs
latest_there id f [] i d is inside = absurd (omega arith)
latest_there id f (b ∷ bs) zero d is inside = elim (cases_Bool (is_of id b)) [
  | inl e ↦ rw e refl
  | inr e ↦ absurd (omega (arith, place_behind id b bs e))
]
latest_there id f (b ∷ bs) (suc i) d is inside = elim (cases_Bool (is_of id b)) [
  | inl e ↦ absurd (omega (arith, place_here id b bs e))
  | inr e ↦ rw e (ap (λ l. b ∷ l) (latest_there id f bs i d (omega (arith, place_behind id b bs e)) (omega arith)))
]
