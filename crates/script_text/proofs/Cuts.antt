-- How a line is cut into its fields.
use Rattle.std.proofs.Common.{◌≡◌, ℕ, ◌+◌, ◌-◌, ◌≤◌, List, ◌∷◌, length, take, drop, ◌∙◌, ap, refl, not, Option, arith, inl, inr}
use Rattle.std.specs.Prelude.{MatchOption}
use Rattle.std.specs.List.{position, position_or_len, slice_split}
use Rattle.std.proofs.lemmas.Bool.{cases_lt, le-leb, lt-leb, lt-ltb, le-ltb}
use Rattle.std.proofs.lemmas.List.{length-drop, drop-drop, take_all}
use Rattle.std.proofs.lemmas.List.Splits.{slice_split_first, slice_split_none}
use Rattle.std.proofs.lemmas.List.Sums.{fails_before_first, prefix_len-le-length}
use Rattle.script_text.specs.Grammar.{is_space}
use Rattle.script_text.specs.Places.{fields_from}

cut_at_space : (line : List ℕ) (at : ℕ) → at ≤ length line
    → fields_from line at
    ≡ take (position_or_len is_space (drop at line)) (drop at line) ∷ fields_from line (at + position_or_len is_space (drop at line) + 1)
cut_at_space line at h =
    let here = le-leb at (length line) h in
    let len : length (drop at line) ≡ length line - at = length-drop at line in
    elim (cases_lt (position_or_len is_space (drop at line)) (length (drop at line))) [
      | inl less ↦
          let there = le-leb (at + position_or_len is_space (drop at line) + 1) (length line) (omega (arith, len, less, h)) in
          let sum : at + (position_or_len is_space (drop at line) + 1) ≡ at + position_or_len is_space (drop at line) + 1 = omega arith in
          let rest = drop-drop (position_or_len is_space (drop at line) + 1) at line ∙ ap (λ (k : ℕ). drop k line) sum in
          rw (here, there) (slice_split_first is_space (drop at line) 0 less
          ∙ ap (λ (r : List ℕ). take (position_or_len is_space (drop at line)) (drop at line) ∷ slice_split is_space r) rest)
      | inr all ↦
          let there = lt-leb (at + position_or_len is_space (drop at line) + 1) (length line) (omega (arith, len, all, h)) in
          let whole = take_all (position_or_len is_space (drop at line)) (drop at line) all in
          rw (here, there, whole)
          (slice_split_none is_space (drop at line) (λ k d l. fails_before_first is_space (drop at line) k d (omega (arith, all, l))))
    ]

-- the first field ends at the first space, and the next one begins after it
pub first_field : (line : List ℕ) (at n : ℕ) → at ≤ length line → n ≡ position_or_len is_space (drop at line)
    → fields_from line at ≡ take n (drop at line) ∷ fields_from line (at + n + 1)
first_field line at n h e = rw e (cut_at_space line at h)

-- the first space, or the end
pub first_space_or_end : (rest : List ℕ) (r : Option ℕ) → r ≡ position is_space rest
    → MatchOption r (length rest ≡ position_or_len is_space rest) (λ n. n ≡ position_or_len is_space rest)
first_space_or_end rest r e =
    let most = prefix_len-le-length (λ o. not (is_space o)) rest in
    elim (cases_lt (position_or_len is_space rest) (length rest)) [
      | inl less ↦ rw (e, lt-ltb (position_or_len is_space rest) (length rest) less) refl
      | inr all ↦ rw (e, le-ltb (position_or_len is_space rest) (length rest) all) (omega (arith, most, all))
    ]
