-- How a text is cut at its separators.
use Rattle.std.proofs.Common.{◌≡◌, ℕ, ◌+◌, ◌-◌, ◌≤◌, ◌==◌, List, ◌∷◌, length, take, drop, ◌∙◌, ap, refl, not, Option, arith, inl, inr}
use Rattle.std.specs.Prelude.{MatchOption}
use Rattle.std.specs.List.{position, position_or_len, slice_split}
use Rattle.std.proofs.lemmas.Bool.{cases_lt, le-leb, lt-leb, lt-ltb, le-ltb}
use Rattle.std.proofs.lemmas.List.{length-drop, drop-drop, take_all}
use Rattle.std.proofs.lemmas.List.Splits.{slice_split_first, slice_split_none}
use Rattle.std.proofs.lemmas.List.Sums.{fails_before_first, prefix_len-le-length}
use Rattle.transcript_text.specs.Places.{parts_from}

cut_at_separator : (s : ℕ) (text : List ℕ) (at : ℕ) → at ≤ length text
    → parts_from s text at
    ≡ take (position_or_len (λ o. o == s) (drop at text)) (drop at text)
    ∷ parts_from s text (at + position_or_len (λ o. o == s) (drop at text) + 1)
cut_at_separator s text at h =
    let here = le-leb at (length text) h in
    let len : length (drop at text) ≡ length text - at = length-drop at text in
    elim (cases_lt (position_or_len (λ o. o == s) (drop at text)) (length (drop at text))) [
      | inl less ↦
          let there = le-leb (at + position_or_len (λ o. o == s) (drop at text) + 1) (length text) (omega (arith, len, less, h)) in
          let sum : at + (position_or_len (λ o. o == s) (drop at text) + 1) ≡ at + position_or_len (λ o. o == s) (drop at text) + 1 = omega arith in
          let rest = drop-drop (position_or_len (λ o. o == s) (drop at text) + 1) at text ∙ ap (λ (k : ℕ). drop k text) sum in
          rw (here, there) (slice_split_first (λ o. o == s) (drop at text) 0 less
          ∙ ap (λ (r : List ℕ). take (position_or_len (λ o. o == s) (drop at text)) (drop at text) ∷ slice_split (λ o. o == s) r) rest)
      | inr all ↦
          let there = lt-leb (at + position_or_len (λ o. o == s) (drop at text) + 1) (length text) (omega (arith, len, all, h)) in
          let whole = take_all (position_or_len (λ o. o == s) (drop at text)) (drop at text) all in
          rw (here, there, whole)
          (slice_split_none (λ o. o == s) (drop at text) (λ k d l. fails_before_first (λ o. o == s) (drop at text) k d (omega (arith, all, l))))
    ]

-- the first field ends at the first separator, and the next one begins after it
pub first_field : (s : ℕ) (text : List ℕ) (at n : ℕ) → at ≤ length text → n ≡ position_or_len (λ o. o == s) (drop at text)
    → parts_from s text at ≡ take n (drop at text) ∷ parts_from s text (at + n + 1)
first_field s text at n h e = rw e (cut_at_separator s text at h)

-- the first separator, or the end
pub first_or_end : (s : ℕ) (rest : List ℕ) (r : Option ℕ) → r ≡ position (λ o. o == s) rest
    → MatchOption r (length rest ≡ position_or_len (λ o. o == s) rest) (λ n. n ≡ position_or_len (λ o. o == s) rest)
first_or_end s rest r e =
    let most = prefix_len-le-length (λ o. not (o == s)) rest in
    elim (cases_lt (position_or_len (λ o. o == s) rest) (length rest)) [
      | inl less ↦ rw (e, lt-ltb (position_or_len (λ o. o == s) rest) (length rest) less) refl
      | inr all ↦ rw (e, le-ltb (position_or_len (λ o. o == s) rest) (length rest) all) (omega (arith, most, all))
    ]
