-- Packets of a bearer's own traffic on a link, place by place.
use Rattle.std.proofs.Common.{ℕ, suc, ◌≡◌, ◌+◌, ◌<◌, ◌≤◌, Bool, false, true, List, ◌∷◌, None, Some, cond, drop, length, refl, sym, ap, ◌∙◌, arith, add-one, inl, inr}
use Rattle.std.specs.Prelude.{slice_get}
use Rattle.std.specs.List.{position_from}
use Rattle.std.proofs.Math.Seq.{drop-cons}
use Rattle.std.proofs.lemmas.List.{drop_all}
use Rattle.std.proofs.lemmas.Option.{get_or_from_slice_get, slice_get_cases}
use Rattle.dc_base.specs.declared.flights.Flight.{Flight}
use Rattle.made_scripts.specs.Turns.{is_own_traffic, own_place}

-- what is left from a place on
split_at : {X : Type 0} (xs : List X) (i : ℕ) (x : X) → i < length xs → slice_get xs i ≡ Some x → drop i xs ≡ x ∷ drop (suc i) xs
split_at xs i x less is = drop-cons xs i x less ∙ ap (λ y. y ∷ drop (suc i) xs) (get_or_from_slice_get xs i x x is)

pub own_first : (fs : List Flight) → own_place fs ≡ position_from is_own_traffic 0 (drop 0 fs)
unfolding own_place
own_first fs = refl

-- the flight at a place, and those after it
own_step : (fs : List Flight) (i : ℕ) (b : Bool) → i < length fs → ((f : Flight) → slice_get fs i ≡ Some f → b ≡ is_own_traffic f)
    → position_from is_own_traffic i (drop i fs) ≡ cond b (Some i) (position_from is_own_traffic (i + 1) (drop (suc i) fs))
own_step fs i b less told = elim (slice_get_cases fs i).1 [
  | inl there ↦
      let rest = drop (suc i) fs in
      ap (position_from is_own_traffic i) (split_at fs i there.0 less there.2)
      ∙ ap (λ t. cond t (Some i) (position_from is_own_traffic (i + 1) rest)) (sym (told there.0 there.2))
  | inr past ↦ let more = past.0 in absurd (omega arith)
]

pub own_later : (fs : List Flight) (i : ℕ) (b : Bool) → i < length fs → ((f : Flight) → slice_get fs i ≡ Some f → b ≡ is_own_traffic f) → b ≡ false
    → position_from is_own_traffic i (drop i fs) ≡ position_from is_own_traffic (i + 1) (drop (i + 1) fs)
own_later fs i b less told is = rw add-one (own_step fs i b less told ∙ rw add-one (ap (λ t. cond t (Some i) (position_from is_own_traffic (suc i) (drop (suc i) fs))) is))

pub own_here : (fs : List Flight) (i : ℕ) (b : Bool) → i < length fs → ((f : Flight) → slice_get fs i ≡ Some f → b ≡ is_own_traffic f) → b ≡ true
    → position_from is_own_traffic i (drop i fs) ≡ Some i
own_here fs i b less told is = own_step fs i b less told ∙ ap (λ t. cond t (Some i) (position_from is_own_traffic (i + 1) (drop (suc i) fs))) is

pub own_nowhere : (fs : List Flight) (i : ℕ) → length fs ≤ i → position_from is_own_traffic i (drop i fs) ≡ None
own_nowhere fs i past = ap (position_from is_own_traffic i) (drop_all i fs past)
