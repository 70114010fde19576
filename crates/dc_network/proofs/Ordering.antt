-- What is written in turn, and what is left of it for later turns.
use Rattle.std.proofs.Common.{◌≡◌, ◌++◌, ◌∷◌, ◌==◌, ◌<◌, ◌+◌, ◌&&◌, [], arith, Bool, List, ap, append_assoc, false, get_or, inl, inr, length, not, refl, suc, sym, take, true, zero, ◌∙◌, ℕ}
use Rattle.std.specs.Prelude.{filter, map}
use Rattle.std.specs.List.{flat_map}
use Rattle.std.proofs.lemmas.Bool.{cases_Bool, eqb-true, not-true}
use Rattle.std.proofs.lemmas.Grind.{flat_map-append}
use Rattle.std.proofs.lemmas.List.{append-nil, take_more}
use Rattle.dc_network.specs.Apart.{AreApart}
use Rattle.std.proofs.lemmas.Bool.Decides.{nat_tests}
use Rattle.dc_base.specs.Links.{all_links, is_same_link, link_number}
use Rattle.dc_base.specs.declared.nodes.LinkId.{LinkId}
use Rattle.dc_base.specs.declared.events.Line.{Line}
use Rattle.dc_base.specs.declared.events.Line.TheVariants as line
use Rattle.dc_base.specs.declared.events.Note.{Note}
use Rattle.node_rules.specs.Choices.{Send}
use Rattle.node_rules.specs.Lines.{ended, is_idle_release, notes_after, notes_at, notes_before, ordered, place, sends_after, sends_before, sends_on}

-- what passes a test is left where what fails another is taken away, if nothing passes both
pub filter-filter : {X : Type 0} (p q : X → Bool) → ((x : X) → p x ≡ true → q x ≡ true) → (xs : List X) → filter p (filter q xs) ≡ filter p xs
filter-filter p q apart [] = refl
filter-filter p q apart (x ∷ xs) =
    elim (cases_Bool (p x)) [
      | inl yes' ↦ rw (apart x yes') (rw yes' (ap (λ zs. x ∷ zs) (filter-filter p q apart xs)))
      | inr no' ↦ elim (cases_Bool (q x)) [
        | inl kept ↦ rw kept (rw no' (filter-filter p q apart xs))
        | inr gone ↦ rw gone (rw no' (filter-filter p q apart xs))
      ]
    ]

-- a number that equals one does not equal another one
pub not_both : (n k j : ℕ) → (k == j) ≡ false → (n == k) ≡ true → not (n == j) ≡ true
not_both n k j apart here =
    let same : n ≡ k = eqb-true n k here in rw same (rw apart refl)

-- the notes of a place are left when those of another one are taken away
pub notes_at-left : (xs : List Note) (j k : ℕ) → (k == j) ≡ false → notes_at (filter (λ x. not (place x == j)) xs) k ≡ notes_at xs k
notes_at-left xs j k apart =
    ap (map (λ x. line.Note x))
    (filter-filter (λ x. place x == k) (λ x. not (place x == j)) (λ x here. not_both (place x) k j apart here) xs)

-- a number equals itself
same_number : (n : ℕ) → (n == n) ≡ true
same_number n = grind (arith, nat_tests)

-- a link that is one is not another one
other_link : (l m k : LinkId) → is_same_link m l ≡ false → is_same_link m k ≡ true → not (is_same_link l k) ≡ true
other_link l m k apart here =
    let same : link_number m ≡ link_number k = eqb-true (link_number m) (link_number k) here in
    elim (cases_Bool (is_same_link l k)) [
      | inl yes' ↦
          let too : link_number l ≡ link_number k = eqb-true (link_number l) (link_number k) yes' in
          let itself : (link_number m == link_number l) ≡ true =
          ap (λ n. n == link_number l) (same ∙ sym too) ∙ same_number (link_number l) in
          let bad : true ≡ false = rw itself at apart in cc
      | inr no' ↦ rw no' refl
    ]

-- the sends on a link are left when those on another one are taken away
pub sends_on-left : (xs : List Send) (l m : LinkId) → is_same_link m l ≡ false → sends_on (filter (λ s. not (is_same_link l s.0)) xs) m ≡ sends_on xs m
sends_on-left xs l m apart =
    ap (map (λ (s : Send). line.Send s.0 s.1))
    (filter-filter (λ (s : Send). is_same_link m s.0) (λ (s : Send). not (is_same_link l s.0)) (λ s here. other_link l m s.0 apart here) xs)

-- what was written for one more of a list
pub written_more : {X A : Type 0} (f : X → List A) (start lines : List A) (xs : List X) (i : ℕ) (d : X) → i < length xs
    → lines ≡ start ++ flat_map f (take i xs) → lines ++ f (get_or xs i d) ≡ start ++ flat_map f (take (i + 1) xs)
written_more f start lines xs i d below so_far =
    let next : flat_map f (take (i + 1) xs) ≡ flat_map f (take i xs) ++ f (get_or xs i d) =
    ap (flat_map f) (take_more xs i d below) ∙ flat_map-append f (take i xs) (get_or xs i d ∷ [])
    ∙ ap (λ ys. flat_map f (take i xs) ++ ys) (append-nil (f (get_or xs i d))) in
    ap (λ ys. ys ++ f (get_or xs i d)) so_far ∙ append_assoc start (flat_map f (take i xs)) (f (get_or xs i d))
    ∙ sym (ap (λ ys. start ++ ys) next)

-- ---- the 22 links

-- a link stands nowhere in these
abbrev pub stands_apart : LinkId → List LinkId → Bool
stands_apart l [] = true
stands_apart l (m ∷ ms) = not (is_same_link m l) && stands_apart l ms

-- each stands apart from those after it
abbrev pub stand_apart : List LinkId → Bool
stand_apart [] = true
stand_apart (l ∷ ls) = stands_apart l ls && stand_apart ls

-- both are so
both_left : (a b : Bool) → (a && b) ≡ true → a ≡ true
both_left true b h = refl
both_left false b h = absurd cc

-- and the other
both_right : (a b : Bool) → (a && b) ≡ true → b ≡ true
both_right true b h = h
both_right false b h = absurd cc

-- a link that stands apart is none of them
apart_at : (l : LinkId) (ms : List LinkId) (k : ℕ) (d : LinkId) → stands_apart l ms ≡ true → k < length ms → is_same_link (get_or ms k d) l ≡ false
apart_at l [] k d apart below = absurd (omega arith)
apart_at l (m ∷ ms) zero d apart below = not-true (is_same_link m l) (both_left _ _ apart)
apart_at l (m ∷ ms) (suc k) d apart below = apart_at l ms k d (both_right _ _ apart) (omega arith)

-- by the test no link stands in two places
pub tested_apart : (ls : List LinkId) → stand_apart ls ≡ true → AreApart ls
tested_apart [] apart i k d e order below = absurd (omega arith)
tested_apart (l ∷ ls) apart zero zero d e order below = absurd (omega arith)
tested_apart (l ∷ ls) apart zero (suc k) d e order below = apart_at l ls k d (both_left _ _ apart) (omega arith)
tested_apart (l ∷ ls) apart (suc i) zero d e order below = absurd (omega arith)
tested_apart (l ∷ ls) apart (suc i) (suc k) d e order below = tested_apart ls (both_right _ _ apart) i k d e (omega arith) (omega arith)

-- the 22 links are apart
pub all_apart : AreApart all_links
all_apart = tested_apart all_links refl

-- ---- the whole

-- what is written in nine turns
chain : {X : Type 0} (start a b c d e f g h : List X)
    → ((((((((start ++ a) ++ b) ++ c) ++ d) ++ e) ++ f) ++ g) ++ h) ≡ start ++ (((a ++ (b ++ (c ++ (d ++ (e ++ []))))) ++ f) ++ (g ++ (h ++ [])))
chain start a b c d e f g h = simp (append_assoc, append-nil)

-- what is left once the notes of a place are written
abbrev pub without_place : List Note → ℕ → List Note
without_place xs j = filter (λ x. not (place x == j)) xs

-- the notes of a later place are still there
still : (before after : List Note) (j k : ℕ) → after ≡ without_place before j → (k == j) ≡ false → notes_at after k ≡ notes_at before k
still before after j k left apart = ap (λ xs. notes_at xs k) left ∙ notes_at-left before j k apart

-- notes and sends are written in their order
pub in_turns : (notes : List Note) (sends : List Send) (n1 n2 n3 n4 n5 n6 : List Note) (l0 l1 l2 l3 l4 l5 l6 l7 l8 : List Line)
    → n1 ≡ without_place notes 0 → l1 ≡ l0 ++ notes_at notes 0
    → n2 ≡ without_place n1 1 → l2 ≡ l1 ++ notes_at n1 1
    → n3 ≡ without_place n2 2 → l3 ≡ l2 ++ notes_at n2 2
    → n4 ≡ without_place n3 3 → l4 ≡ l3 ++ notes_at n3 3
    → n5 ≡ without_place n4 4 → l5 ≡ l4 ++ notes_at n4 4
    → l6 ≡ l5 ++ flat_map (sends_on sends) all_links
    → n6 ≡ without_place n5 5 → l7 ≡ l6 ++ notes_at n5 5
    → l8 ≡ l7 ++ notes_at n6 6
    → l8 ≡ l0 ++ ordered notes sends
in_turns notes sends n1 n2 n3 n4 n5 n6 l0 l1 l2 l3 l4 l5 l6 l7 l8 r1 w1 r2 w2 r3 w3 r4 w4 r5 w5 w6 r6 w7 w8 =
    let e1 = still notes n1 0 1 r1 refl in
    let e2 = still n1 n2 1 2 r2 refl ∙ still notes n1 0 2 r1 refl in
    let e3 = still n2 n3 2 3 r3 refl ∙ still n1 n2 1 3 r2 refl ∙ still notes n1 0 3 r1 refl in
    let e4 = still n3 n4 3 4 r4 refl ∙ still n2 n3 2 4 r3 refl ∙ still n1 n2 1 4 r2 refl ∙ still notes n1 0 4 r1 refl in
    let e5 = still n4 n5 4 5 r5 refl ∙ still n3 n4 3 5 r4 refl ∙ still n2 n3 2 5 r3 refl ∙ still n1 n2 1 5 r2 refl ∙ still notes n1 0 5 r1 refl in
    let e6 = still n5 n6 5 6 r6 refl ∙ still n4 n5 4 6 r5 refl ∙ still n3 n4 3 6 r4 refl ∙ still n2 n3 2 6 r3 refl ∙ still n1 n2 1 6 r2 refl ∙ still notes n1 0 6 r1 refl in
    rw (w8, w7, w6, w5, w4, w3, w2, w1, e1, e2, e3, e4, e5, e6)
    (chain l0 (notes_at notes 0) (notes_at notes 1) (notes_at notes 2) (notes_at notes 3) (notes_at notes 4) (flat_map (sends_on sends) all_links) (notes_at notes 5) (notes_at notes 6))

-- what is written in three turns
three : {X : Type 0} (start a b c : List X) → ((start ++ a) ++ b) ++ c ≡ start ++ ((a ++ b) ++ c)
three start a b c = simp append_assoc

-- an event in which a command ends is written in its order
pub ended_in_turns : (notes nb na : List Note) (sends sb si sa : List Send) (l0 l1 l2 l3 : List Line)
    → nb ≡ notes_before notes → na ≡ notes_after notes
    → sb ≡ sends_before sends → si ≡ filter is_idle_release sends → sa ≡ sends_after sends
    → l1 ≡ l0 ++ ordered nb sb
    → l2 ≡ l1 ++ map (λ (s : Send). line.Send s.0 s.1) si
    → l3 ≡ l2 ++ ordered na sa
    → l3 ≡ l0 ++ ended notes sends
ended_in_turns notes nb na sends sb si sa l0 l1 l2 l3 before after first idle last w1 w2 w3 =
    rw (w3, w2, w1, before, after, first, idle, last)
    (three l0 (ordered (notes_before notes) (sends_before sends)) (map (λ (s : Send). line.Send s.0 s.1) (filter is_idle_release sends)) (ordered (notes_after notes) (sends_after sends)))
