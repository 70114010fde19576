-- The latest establishment of an identity, by its place.
use Rattle.std.proofs.Common.{ℕ, zero, suc, ◌≡◌, ◌+◌, ◌<◌, Bool, false, true, List, [], ◌∷◌, length, get_or, set, drop, refl, ap, arith, add-one}
use Rattle.std.specs.Prelude.{◌==◌, ◌||◌}
use Rattle.std.proofs.lemmas.Bool.{eq-eqb}
use Rattle.std.proofs.Math.Bool.{or-true}
use Rattle.summary.specs.Totals.{IsLatest, is_there, with_latest}
use Rattle.summary.specs.declared.tallies.Tally.{Tally}

both_false : (a b : Bool) → (a || b) ≡ false → (a ≡ false) × (b ≡ false)
both_false false b none = (refl, none)
both_false true b none = cc

-- no establishment of the identity: nothing changes
pub none_changed : (id : ℕ) (change : Tally → Tally) (ts : List Tally) → is_there id ts ≡ false → with_latest id change ts ≡ ts
unfolding with_latest
none_changed id change [] none = refl
none_changed id change (t ∷ ts) none = let parts = both_false (t.id == id) (is_there id ts) none in rw (parts.1, parts.0) refl

-- one that stands at a place is there
there_at : (id : ℕ) (ts : List Tally) (i : ℕ) (d : Tally) → i < length ts → (get_or ts i d).id ≡ id → is_there id ts ≡ true
there_at id [] i d less is = absurd (omega arith)
there_at id (t ∷ ts) zero d less is = let same : (t.id == id) ≡ true = eq-eqb t.id id is in rw same refl
there_at id (t ∷ ts) (suc i) d less is = let rest : is_there id ts ≡ true = there_at id ts i d (omega arith) is in rw rest (or-true (t.id == id))

-- the latest one is changed in its place
pub latest_changed : (id : ℕ) (change : Tally → Tally) (ts : List Tally) (i : ℕ) (d : Tally) → IsLatest id ts i → with_latest id change ts ≡ set ts i (change (get_or ts i d))
unfolding with_latest
latest_changed id change [] i d is = absurd (omega (arith, is.there))
latest_changed id change (t ∷ ts) zero d is =
    let none : is_there id ts ≡ false = is.last in
    let same : (t.id == id) ≡ true = eq-eqb t.id id (is.is_it d) in
    rw (none, same) refl
latest_changed id change (t ∷ ts) (suc i) d is =
    let less : i < length ts = omega (arith, is.there) in
    let there : is_there id ts ≡ true = there_at id ts i d less (is.is_it d) in
    let last : is_there id (drop (suc (suc i)) (t ∷ ts)) ≡ false = rw add-one at is.last in
    let rest : with_latest id change ts ≡ set ts i (change (get_or ts i d)) =
    latest_changed id change ts i d (record { there = less; is_it = λ e. is.is_it e; last = rw add-one last }) in
    rw there (ap (λ us. t ∷ us) rest)
