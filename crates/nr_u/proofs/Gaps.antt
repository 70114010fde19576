-- The gaps between numbers that came, and what a new number makes of them.
use Rattle.std.proofs.Common.{◌≡◌, ℕ, Bool, zero, suc, ◌+◌, ◌<◌, ◌≤◌, ◌-◌, ◌++◌, ◌⊎◌, true, false, cond, ltb, leb, List, [], ◌∷◌, Option, Some, None, is_some, refl, sym, ap, ◌∙◌, append_assoc, append-nil, length, take, inl, inr, arith}
use Rattle.std.specs.Prelude.{◌≢◌, max, map, filter, option_map, slice_get, IfSome}
use Rattle.std.specs.List.{AllByRecursion}
use Rattle.std.specs.Ordering.{nat_cmp}
use Rattle.std.specs.BTreeMap.{insert_entry, is_at}
use Rattle.std.specs.Map.{lookup, remove_entry}
use Rattle.std.proofs.lemmas.Bool.{le-ltb, lt-ltb, le-leb, lt-leb, cases_lt, cases_Bool}
use Rattle.std.proofs.lemmas.Bool.Decides.{nat_tests}
use Rattle.std.proofs.lemmas.List.{take_at, take_all, length-append}
use Rattle.nr_u.specs.declared.frame.Range.{Range}
use Rattle.nr_u.specs.declared.tunnel.inbound.Arrival.{Arrival}
use Rattle.nr_u.specs.Frames.{Rising}
use Rattle.nr_u.specs.Tunnel.Incoming.{Numbered, Ascends, has, gaps}
use Rattle.nr_u.specs.Tunnel.Kept.{ByEnd, next_after, gap_range, gap_at, from_or, with_below, without_below, narrowed}
use Rattle.nr_u.proofs.ByNumber.{cmp_tells, next_after-above, remove-insert}

-- what lies above the number in its gap
abbrev above : ℕ → Range → List Range
above number gap = cond (ltb number gap.to) (record { from = number + 1; to = gap.to } ∷ []) []

-- what lies below it
abbrev below : ℕ → Range → List Range
below number gap = cond (ltb gap.from number) (record { from = gap.from; to = number - 1 } ∷ []) []

-- the gaps without this number, which lies in one of them
abbrev without : ℕ → List Range → List Range
without number [] = []
without number (r ∷ rest) = cond (ltb r.to number) (r ∷ without number rest) (below number r ++ (above number r ++ rest))

-- the number lies in a gap
abbrev pub IsMissing : ℕ → List Range → Type 0
IsMissing number [] = ⊥
IsMissing number (r ∷ rest) = ((r.from ≤ number) × (number ≤ r.to)) ⊎ IsMissing number rest

pub gaps-insert : (low k : ℕ) (a : Arrival) (es : List Numbered) → low ≤ k → k < next_after low es → has k es ≡ false → gaps low (insert_entry nat_cmp es k a) ≡ without k (gaps low es)
gaps-insert low k a [] least inside new = absurd (omega arith)
gaps-insert low k a (e ∷ es) least inside new = grind (arith, nat_tests, cmp_tells k e.0, gaps-insert (e.0 + 1) k a es)

-- past the highest number
gaps-push : (low k : ℕ) (a : Arrival) (es : List Numbered) → Ascends low es → next_after low es ≤ k
    → gaps low (insert_entry nat_cmp es k a) ≡ gaps low es ++ cond (ltb (next_after low es) k) (record { from = next_after low es; to = k - 1 } ∷ []) []
gaps-push low k a [] up past = grind (arith, nat_tests)
gaps-push low k a (e ∷ es) up past =
    let top = next_after-above (e.0 + 1) es up.1 in
    grind (arith, nat_tests, cmp_tells k e.0, gaps-push (e.0 + 1) k a es)

pub next_after-insert : (low k : ℕ) (a : Arrival) (es : List Numbered) → low ≤ k → Ascends low es → has k es ≡ false → next_after low (insert_entry nat_cmp es k a) ≡ max (next_after low es) (k + 1)
next_after-insert low k a [] least up new = omega arith
next_after-insert low k a (e ∷ es) least up new =
    let top = next_after-above (e.0 + 1) es up.1 in
    grind (arith, cmp_tells k e.0, next_after-insert (e.0 + 1) k a es)

pub gaps-missing : (low k : ℕ) (es : List Numbered) → low ≤ k → k < next_after low es → has k es ≡ false → IsMissing k (gaps low es)
gaps-missing low k [] least inside new = absurd (omega arith)
gaps-missing low k (e ∷ es) least inside new =
    let later : e.0 < k → has k es ≡ false = λ past. grind (arith, cmp_tells k e.0) in
    elim (cmp_tells k e.0) [
      | inl less ↦ let test : ltb low e.0 ≡ true = lt-ltb _ _ (omega (arith, less.1)) in rw test (inl (least, omega (arith, less.1)))
      | inr rest ↦ elim rest [
        | inl same ↦ absurd (grind (arith, same.0))
        | inr more ↦
            let there = gaps-missing (e.0 + 1) k es (omega (arith, more.1)) inside (later more.1) in
            elim (cases_Bool (ltb low e.0)) [ inl gap ↦ rw gap (inr there) | inr none ↦ rw none there ]
      ]
    ]

Rising-later : (low next : ℕ) (rs : List Range) → low ≤ next → Rising next rs → Rising low rs
Rising-later low next [] le up = tt
Rising-later low next (r ∷ rs) le up = (omega (arith, up.0), up.1, up.2)

pub gaps-rising : (low : ℕ) (es : List Numbered) → Ascends low es → Rising low (gaps low es)
gaps-rising low [] up = tt
gaps-rising low (e ∷ es) up =
    let others = gaps-rising (e.0 + 1) es up.1 in
    elim (cases_lt low e.0) [
      | inl less ↦ let test : ltb low e.0 ≡ true = lt-ltb _ _ less in rw test (omega arith, omega arith, Rising-later (e.0 - 1 + 1) (e.0 + 1) (gaps (e.0 + 1) es) (omega arith) others)
      | inr not_less ↦ let test : ltb low e.0 ≡ false = le-ltb _ _ not_less in rw test (Rising-later low (e.0 + 1) (gaps (e.0 + 1) es) (omega (arith, up.0)) others)
    ]

-- ---- gaps by their ends

abbrev pub ranges : ByEnd → List Range
ranges ends = map gap_range ends

-- each gap ends below the number after the highest
pub gaps-end : (low : ℕ) (es : List Numbered) → Ascends low es → AllByRecursion (λ r. r.to < next_after low es) (gaps low es)
gaps-end low [] up = tt
gaps-end low (e ∷ es) up =
    let top = next_after-above (e.0 + 1) es up.1 in
    let others = gaps-end (e.0 + 1) es up.1 in
    elim (cases_Bool (ltb low e.0)) [
      | inl gap ↦ rw gap (omega (arith, top), others)
      | inr none ↦ rw none others
    ]

-- the first gap that ends at the number or above is not this one
gap_at-later : (number : ℕ) (e : ℕ × ℕ) (ends : ByEnd) → e.0 < number → gap_at number (e ∷ ends) ≡ gap_at number ends
gap_at-later number e ends past = let test : leb number e.0 ≡ false = lt-leb _ _ past in rw test refl

gap_at-here : (number : ℕ) (e : ℕ × ℕ) (ends : ByEnd) → number ≤ e.0 → gap_at number (e ∷ ends) ≡ Some (gap_range e)
gap_at-here number e ends here = let test : leb number e.0 ≡ true = le-leb _ _ here in rw test refl

-- past the end of each gap
pub gap_at-none : (next number : ℕ) (ends : ByEnd) → AllByRecursion (λ (r : Range). r.to < next) (ranges ends) → next ≤ number → gap_at number ends ≡ None
gap_at-none next number [] all past = refl
gap_at-none next number (e ∷ ends) all past = gap_at-later number e ends (omega (arith, all.0)) ∙ gap_at-none next number ends all.1 past

-- a number that is missing lies in the first gap that ends at it or above
pub record LiesIn (low number : ℕ) (ends : ByEnd) (g : Range) : Type 0 where
  pub is : gap_at number ends ≡ Some g
  pub begins : g.from ≤ number
  pub ends_above : number ≤ g.to
  pub from_low : low ≤ g.from

missing_from : (low number : ℕ) (rs : List Range) → Rising low rs → IsMissing number rs → low ≤ number
missing_from low number [] up missing = absurd missing
missing_from low number (r ∷ rs) up missing =
    elim missing [
      | inl here ↦ omega (arith, up.0, here.0)
      | inr there ↦ omega (arith, up.0, up.1, missing_from (r.to + 1) number rs up.2 there)
    ]

pub lies_in : (low number : ℕ) (ends : ByEnd) → Rising low (ranges ends) → IsMissing number (ranges ends) → (g : Range) × LiesIn low number ends g
lies_in low number [] up missing = absurd missing
lies_in low number (e ∷ ends) up missing =
    elim (cases_lt e.0 number) [
      | inl past ↦ elim missing [
        | inl here ↦ absurd (omega (arith, here.1))
        | inr there ↦
            let later = lies_in (e.0 + 1) number ends up.2 there in
            (later.0, record { is = gap_at-later number e ends past ∙ later.1.is; begins = later.1.begins; ends_above = later.1.ends_above; from_low = omega (arith, later.1.from_low, up.0, up.1) })
      ]
      | inr here ↦
          let begun : e.1 ≤ number = elim missing [
            | inl in_it ↦ in_it.0
            | inr there ↦ absurd (omega (arith, missing_from (e.0 + 1) number (ranges ends) up.2 there))
          ] in
          (gap_range e, record { is = gap_at-here number e ends here; begins = begun; ends_above = here; from_low = up.0 })
    ]

-- a gap that ends below the new part stays before it
with_below-later : (from number : ℕ) (e : ℕ × ℕ) (ends : ByEnd) → e.0 < from → with_below from number (e ∷ ends) ≡ e ∷ with_below from number ends
with_below-later from number e ends past =
    elim (cases_lt from number) [
      | inl some ↦ let test : ltb from number ≡ true = lt-ltb _ _ some in rw test (grind (arith, cmp_tells (number - 1) e.0))
      | inr none ↦ let test : ltb from number ≡ false = le-ltb _ _ none in rw test refl
    ]

narrowed-later : (number : ℕ) (g : Range) (e : ℕ × ℕ) (ends : ByEnd) → e.0 < g.to → narrowed number (Some g) (e ∷ ends) ≡ e ∷ narrowed number (Some g) ends
narrowed-later number g e ends past =
    elim (cases_Bool (ltb number g.to)) [
      | inl some ↦ rw some (grind (arith, cmp_tells g.to e.0))
      | inr none ↦ rw none (grind (arith, cmp_tells g.to e.0))
    ]

-- of the gap itself
narrowed-here : (number : ℕ) (e : ℕ × ℕ) (ends : ByEnd) → number ≤ e.0 → ranges (narrowed number (Some (gap_range e)) (e ∷ ends)) ≡ above number (gap_range e) ++ ranges ends
narrowed-here number e ends here =
    elim (cases_Bool (ltb number e.0)) [
      | inl some ↦ rw some (grind (arith, cmp_tells e.0 e.0))
      | inr none ↦ rw none (grind (arith, cmp_tells e.0 e.0))
    ]

with_below-here : (number : ℕ) (e : ℕ × ℕ) (ends : ByEnd) → number ≤ e.0 → with_below e.1 number (e ∷ ends) ≡ cond (ltb e.1 number) ((number - 1, e.1) ∷ e ∷ ends) (e ∷ ends)
with_below-here number e ends here =
    elim (cases_lt e.1 number) [
      | inl some ↦ let test : ltb e.1 number ≡ true = lt-ltb _ _ some in rw test (grind (arith, cmp_tells (number - 1) e.0))
      | inr none ↦ let test : ltb e.1 number ≡ false = le-ltb _ _ none in rw test refl
    ]

cut_here : (number : ℕ) (e : ℕ × ℕ) (ends : ByEnd) → e.1 ≤ number → number ≤ e.0
    → ranges (narrowed number (Some (gap_range e)) (with_below e.1 number (e ∷ ends))) ≡ below number (gap_range e) ++ (above number (gap_range e) ++ ranges ends)
cut_here number e ends begun here =
    ap (λ (x : ByEnd). ranges (narrowed number (Some (gap_range e)) x)) (with_below-here number e ends here)
    ∙ elim (cases_lt e.1 number) [
      | inl some ↦
          let test : ltb e.1 number ≡ true = lt-ltb _ _ some in
          rw test (ap ranges (narrowed-later number (gap_range e) (number - 1, e.1) (e ∷ ends) (omega arith)) ∙ ap (λ (x : List Range). record { from = e.1; to = number - 1 } ∷ x) (narrowed-here number e ends here))
      | inr none ↦
          let test : ltb e.1 number ≡ false = le-ltb _ _ none in
          rw test (narrowed-here number e ends here)
    ]

later_lies : (low number : ℕ) (g : Range) (e : ℕ × ℕ) (ends : ByEnd) → Rising low (ranges (e ∷ ends)) → LiesIn low number (e ∷ ends) g → e.0 < number → IsMissing number (ranges ends) → LiesIn (e.0 + 1) number ends g
later_lies low number g e ends up lies past there =
    let found = lies_in (e.0 + 1) number ends up.2 there in
    let same : found.0 ≡ g = let is : Some found.0 ≡ Some g = sym found.1.is ∙ sym (gap_at-later number e ends past) ∙ lies.is in cc in
    rw (← same) found.1

cut : (low number : ℕ) (g : Range) (ends : ByEnd) → Rising low (ranges ends) → LiesIn low number ends g → IsMissing number (ranges ends)
    → ranges (narrowed number (Some g) (with_below g.from number ends)) ≡ without number (ranges ends)
cut low number g [] up lies missing = absurd missing
cut low number g (e ∷ ends) up lies missing =
    elim (cases_lt e.0 number) [
      | inl past ↦
          let test : ltb e.0 number ≡ true = lt-ltb _ _ past in
          let there : IsMissing number (ranges ends) = elim missing [ inl here ↦ absurd (omega (arith, here.1)) | inr later ↦ later ] in
          let lies' = later_lies low number g e ends up lies past there in
          let step = with_below-later g.from number e ends (omega (arith, lies'.from_low)) in
          let next = narrowed-later number g e (with_below g.from number ends) (omega (arith, lies'.ends_above)) in
          rw (step, next, test) (ap (λ (x : List Range). gap_range e ∷ x) (cut (e.0 + 1) number g ends up.2 lies' there))
      | inr here ↦
          let test : ltb e.0 number ≡ false = le-ltb _ _ here in
          let same : gap_range e ≡ g = let is : Some (gap_range e) ≡ Some g = sym (gap_at-here number e ends here) ∙ lies.is in cc in
          let begun : e.1 ≤ number = omega (arith, lies.begins, ap (λ (r : Range). r.from) same) in
          rw (← same, test) (cut_here number e ends begun here)
    ]

-- ---- past the highest number

insert-end : (k v : ℕ) (ends : ByEnd) → AllByRecursion (λ (r : Range). r.to < k) (ranges ends) → insert_entry nat_cmp ends k v ≡ ends ++ (k, v) ∷ []
insert-end k v [] all = refl
insert-end k v (e ∷ ends) all = grind (arith, cmp_tells k e.0, insert-end k v ends all.1, all.0)

ends_later : (k next : ℕ) (ends : ByEnd) → next ≤ k → AllByRecursion (λ (r : Range). r.to < next) (ranges ends) → AllByRecursion (λ (r : Range). r.to < k) (ranges ends)
ends_later k next [] le all = tt
ends_later k next (e ∷ ends) le all = (omega (arith, all.0), ends_later k next ends le all.1)

ranges-push : (ends : ByEnd) (k v : ℕ) → ranges (ends ++ (k, v) ∷ []) ≡ ranges ends ++ record { from = v; to = k } ∷ []
ranges-push [] k v = refl
ranges-push (e ∷ ends) k v = ap (λ (x : List Range). gap_range e ∷ x) (ranges-push ends k v)

push_end : (next number : ℕ) (ends : ByEnd) → AllByRecursion (λ (r : Range). r.to < next) (ranges ends) → next ≤ number
    → ranges (with_below next number ends) ≡ ranges ends ++ cond (ltb next number) (record { from = next; to = number - 1 } ∷ []) []
push_end next number ends all past =
    elim (cases_lt next number) [
      | inl some ↦
          let test : ltb next number ≡ true = lt-ltb _ _ some in
          rw test (ap ranges (insert-end (number - 1) next ends (ends_later (number - 1) next ends (omega arith) all)) ∙ ranges-push ends (number - 1) next)
      | inr none ↦
          let test : ltb next number ≡ false = le-ltb _ _ none in
          rw test (sym (append-nil (ranges ends)))
    ]

-- ---- which ends are there

abbrev has_end : ℕ → ByEnd → Bool
has_end k ends = is_some (lookup (is_at (nat_cmp k)) ends)

end_below : (k : ℕ) (ends : ByEnd) → AllByRecursion (λ (r : Range). r.to < k) (ranges ends) → has_end k ends ≡ false
end_below k [] all = refl
end_below k (e ∷ ends) all = grind (arith, cmp_tells k e.0, end_below k ends all.1, all.0)

end_above : (low k : ℕ) (ends : ByEnd) → Rising low (ranges ends) → k < low → has_end k ends ≡ false
end_above low k [] up past = refl
end_above low k (e ∷ ends) up past = grind (arith, cmp_tells k e.0, end_above (e.0 + 1) k ends up.2, up.0, up.1)

-- none within the gap, below the number
end_inside : (low number : ℕ) (g : Range) (ends : ByEnd) → Rising low (ranges ends) → LiesIn low number ends g → IsMissing number (ranges ends) → g.from < number → has_end (number - 1) ends ≡ false
end_inside low number g [] up lies missing some = absurd missing
end_inside low number g (e ∷ ends) up lies missing some =
    elim (cases_lt e.0 number) [
      | inl past ↦
          let there : IsMissing number (ranges ends) = elim missing [ inl here ↦ absurd (omega (arith, here.1)) | inr later ↦ later ] in
          let lies' = later_lies low number g e ends up lies past there in
          let rest = end_inside (e.0 + 1) number g ends up.2 lies' there some in
          grind (arith, cmp_tells (number - 1) e.0, rest, lies'.from_low)
      | inr here ↦
          let rest = end_above (e.0 + 1) (number - 1) ends up.2 (omega arith) in
          grind (arith, cmp_tells (number - 1) e.0, rest)
    ]

end_there : (number : ℕ) (g : Range) (ends : ByEnd) → gap_at number ends ≡ Some g → has_end g.to ends ≡ true
end_there number g [] is = absurd cc
end_there number g (e ∷ ends) is =
    elim (cases_lt e.0 number) [
      | inl past ↦
          let rest = end_there number g ends (sym (gap_at-later number e ends past) ∙ is) in
          grind (arith, cmp_tells g.to e.0, rest)
      | inr here ↦
          let same : gap_range e ≡ g = let h : Some (gap_range e) ≡ Some g = sym (gap_at-here number e ends here) ∙ is in cc in
          rw (← same) (grind (arith, cmp_tells e.0 e.0))
    ]

end_stays : (j k v : ℕ) (ends : ByEnd) → has_end j ends ≡ true → has_end j (insert_entry nat_cmp ends k v) ≡ true
end_stays j k v [] there = absurd cc
end_stays j k v (e ∷ ends) there = grind (arith, cmp_tells k e.0, cmp_tells j e.0, cmp_tells j k, end_stays j k v ends)

-- ---- a new number

rising_here : (es : List Numbered) (ends : ByEnd) → Ascends 0 es → ranges ends ≡ gaps 0 es → Rising 0 (ranges ends)
rising_here es ends up are = rw are (gaps-rising 0 es up)

missing_here : (next number : ℕ) (es : List Numbered) (ends : ByEnd) → Ascends 0 es → has number es ≡ false → ranges ends ≡ gaps 0 es → next ≡ next_after 0 es → number < next → IsMissing number (ranges ends)
missing_here next number es ends up new are next_is inside = rw are (gaps-missing 0 number es (omega arith) (omega (arith, next_is)) new)

all_below : (next : ℕ) (es : List Numbered) (ends : ByEnd) → Ascends 0 es → ranges ends ≡ gaps 0 es → next ≡ next_after 0 es → AllByRecursion (λ (r : Range). r.to < next) (ranges ends)
all_below next es ends up are next_is = rw (are, next_is) (gaps-end 0 es up)

if_some : {X : Type 0} (o : Option X) (P : X → Type 0) → ((x : X) → o ≡ Some x → P x) → IfSome o P
if_some None P each = tt
if_some (Some x) P each = each x refl

-- the gaps after a number that did not come before
pub gaps_after : (next number : ℕ) (a : Arrival) (es : List Numbered) (ends : ByEnd) → Ascends 0 es → has number es ≡ false → ranges ends ≡ gaps 0 es → next ≡ next_after 0 es
    → ranges (narrowed number (gap_at number ends) (with_below (from_or next (gap_at number ends)) number ends)) ≡ gaps 0 (insert_entry nat_cmp es number a)
gaps_after next number a es ends up new are next_is =
    elim (cases_lt number next) [
      | inl inside ↦
          let missing = missing_here next number es ends up new are next_is inside in
          let found = lies_in 0 number ends (rising_here es ends up are) missing in
          rw found.1.is (cut 0 number found.0 ends (rising_here es ends up are) found.1 missing ∙ ap (without number) are ∙ sym (gaps-insert 0 number a es (omega arith) (omega (arith, next_is)) new))
      | inr past ↦
          let all = all_below next es ends up are next_is in
          rw (gap_at-none next number ends all past) (push_end next number ends all past ∙ rw (are, next_is) (sym (gaps-push 0 number a es up (omega (arith, next_is)))))
    ]

-- where the part below the number goes, there is no gap yet
pub below_new : (next number : ℕ) (es : List Numbered) (ends : ByEnd) → Ascends 0 es → has number es ≡ false → ranges ends ≡ gaps 0 es → next ≡ next_after 0 es
    → without_below (from_or next (gap_at number ends)) number (with_below (from_or next (gap_at number ends)) number ends) ≡ ends
below_new next number es ends up new are next_is =
    let from = from_or next (gap_at number ends) in
    elim (cases_lt from number) [
      | inr none ↦ let test : ltb from number ≡ false = le-ltb _ _ none in rw test refl
      | inl some ↦
          let test : ltb from number ≡ true = lt-ltb _ _ some in
          let absent : has_end (number - 1) ends ≡ false = elim (cases_lt number next) [
            | inl inside ↦
                let missing = missing_here next number es ends up new are next_is inside in
                let found = lies_in 0 number ends (rising_here es ends up are) missing in
                let from_is : from ≡ found.0.from = ap (from_or next) found.1.is in
                end_inside 0 number found.0 ends (rising_here es ends up are) found.1 missing (omega (arith, from_is, some))
            | inr past ↦
                let all = all_below next es ends up are next_is in
                let from_is : from ≡ next = ap (from_or next) (gap_at-none next number ends all past) in
                end_below (number - 1) ends (ends_later (number - 1) next ends (omega (arith, from_is, some)) all)
          ] in
          rw test (remove-insert (number - 1) from ends absent)
    ]

-- the gap in which the number lies is there
pub gap_there : (number from : ℕ) (ends : ByEnd) → IfSome (gap_at number ends) (λ g. is_some (lookup (is_at (nat_cmp g.to)) (with_below from number ends)) ≡ true)
gap_there number from ends = if_some (gap_at number ends) _ (λ g is.
    elim (cases_Bool (ltb from number)) [
      | inl some ↦ rw some (end_stays g.to (number - 1) from ends (end_there number g ends is))
      | inr none ↦ rw none (end_there number g ends is)
    ])

-- ---- the gaps that a status lists

pub listed_next : (lost more : List Range) (left after all : ByEnd) (e : ℕ × ℕ) → lost ++ ranges left ≡ ranges all → left ≡ e ∷ after → more ≡ lost ++ gap_range e ∷ [] → more ++ ranges after ≡ ranges all
listed_next lost more left after all e so_far left_is more_is =
    rw more_is (append_assoc lost (gap_range e ∷ []) (ranges after) ∙ ap (λ (l : ByEnd). lost ++ ranges l) (sym left_is) ∙ so_far)

pub listed_len : (lost more : List Range) (r : Range) (n len : ℕ) → more ≡ lost ++ r ∷ [] → length lost ≤ n → len ≡ length lost → len ≢ n → length more ≤ n
listed_len lost more r n len more_is few len_is other = rw more_is (omega (arith, length-append lost (r ∷ []), few, len_is, other))

pub listed_full : (n : ℕ) (lost : List Range) (left all : ByEnd) → lost ++ ranges left ≡ ranges all → length lost ≡ n → lost ≡ take n (ranges all)
listed_full n lost left all so_far len = sym (ap (take n) (sym so_far) ∙ take_at lost (ranges left) n len)

pub listed_all : (n : ℕ) (lost : List Range) (left all : ByEnd) → lost ++ ranges left ≡ ranges all → left ≡ [] → length lost ≤ n → lost ≡ take n (ranges all)
listed_all n lost left all so_far none few =
    let whole : lost ≡ ranges all = sym (append-nil lost) ∙ ap (λ (l : ByEnd). lost ++ ranges l) (sym none) ∙ so_far in
    whole ∙ sym (take_all n (ranges all) (omega (arith, few, ap length whole)))

pub unlisted_next : (passed : ℕ) (left after all : ByEnd) (e : ℕ × ℕ) → slice_get (ranges left) (168 - passed) ≡ slice_get (ranges all) 168 → left ≡ e ∷ after → passed < 168 → slice_get (ranges after) (168 - (passed + 1)) ≡ slice_get (ranges all) 168
unlisted_next passed left after all e so_far left_is more =
    let at : 168 - passed ≡ suc (168 - (passed + 1)) = omega arith in
    ap (slice_get (gap_range e ∷ ranges after)) (sym at) ∙ ap (λ (l : ByEnd). slice_get (ranges l) (168 - passed)) (sym left_is) ∙ so_far

pub unlisted_here : (past passed : ℕ) (left after all : ByEnd) (e : ℕ × ℕ) → slice_get (ranges left) (168 - passed) ≡ slice_get (ranges all) 168 → left ≡ e ∷ after → passed ≡ 168 → e.1 ≡ from_or past (slice_get (ranges all) 168)
unlisted_here past passed left after all e so_far left_is full =
    let at : 168 - passed ≡ 0 = omega arith in
    let here : slice_get (ranges all) 168 ≡ Some (gap_range e) = sym so_far ∙ ap (λ (l : ByEnd). slice_get (ranges l) (168 - passed)) left_is ∙ ap (slice_get (gap_range e ∷ ranges after)) at in
    rw here refl

pub unlisted_none : (past passed : ℕ) (left all : ByEnd) → slice_get (ranges left) (168 - passed) ≡ slice_get (ranges all) 168 → left ≡ [] → past ≡ from_or past (slice_get (ranges all) 168)
unlisted_none past passed left all so_far none =
    let here : slice_get (ranges all) 168 ≡ None = sym so_far ∙ ap (λ (l : ByEnd). slice_get (ranges l) (168 - passed)) none in
    rw here refl
