-- In a merged order each message stands at the front of what its sender sent to its receiver when it is taken.
use Rattle.std.proofs.Common.{List, [], ap, append_assoc, arith, inl, inr, refl, subst, sym, true, ℕ, ◌++◌, ◌<◌, ◌==◌, ◌∙◌, ◌∷◌, ◌≡◌, ◌≤◌}
use Rattle.std.proofs.lemmas.Bool.{and_parts, cases_Bool, eq-eqb, eqb-true, ltb-true, or_cases}
use Rattle.std.proofs.lemmas.List.Elements.{filter-append}
use Rattle.std.specs.List.{AllByRecursion, filter}
use Rattle.std.specs.Prelude.{Bool, if◌then◌else◌}
use Rattle.dc_base.specs.Nodes.{node_number}
use Rattle.dc_base.specs.declared.nodes.Node.{Node}
use Rattle.journals.proofs.OnEach.{each_append, each_both, each_filter, each_weaker}
use Rattle.journals.proofs.Stamps.{sends_stamped}
use Rattle.journals.specs.Journals.{AreFirst, Legal, Stamped, outputs, sent, taken, took}
use Rattle.journals.specs.Merging.{Found, IsAtFront, Merged, Runs, Sorted, Under, added, after, empty, is_before, of, taken_off, without_first}
use Rattle.journals.specs.Messages.{from, to}
use Rattle.journals.specs.declared.entries.JournalEntry.{JournalEntry}
use Rattle.journals.specs.declared.entries.Message.{Message}
use Rattle.journals.specs.declared.entries.What.{What}
use Rattle.journals.specs.declared.entries.What.TheVariants.{Driver, Loss, Step}

-- what is so of the entries of each node is so of each entry
pub each_of : (Q : ℕ → JournalEntry → Type 0) (xs : List (Node × JournalEntry)) → ((n : ℕ) → AllByRecursion (Q n) (of n xs))
    → AllByRecursion (λ (x : Node × JournalEntry). Q (node_number x.0) x.1) xs
each_of Q [] all = tt
each_of Q (x ∷ xs) all =
    let k = node_number x.0 in
    let mine : AllByRecursion (Q k) (x.1 ∷ of k xs) = rw (eq-eqb k k refl) at (all k) in (
      mine.0,
      each_of Q xs (λ n. elim (cases_Bool (k == n)) [
        | inl here ↦ (let h : AllByRecursion (Q n) (x.1 ∷ of n xs) = rw here at (all n) in h.1)
        | inr other ↦ (let h : AllByRecursion (Q n) (of n xs) = rw other at (all n) in h)
      ]),
    )

-- and the other way
pub of_each : (Q : ℕ → JournalEntry → Type 0) (n : ℕ) (xs : List (Node × JournalEntry)) → AllByRecursion (λ (x : Node × JournalEntry). Q (node_number x.0) x.1) xs
    → AllByRecursion (Q n) (of n xs)
of_each Q n [] all = tt
of_each Q n (x ∷ xs) all =
    elim (cases_Bool (node_number x.0 == n)) [
      | inl here ↦ rw here (subst (λ (k : ℕ). Q k x.1) (eqb-true (node_number x.0) n here) all.0, of_each Q n xs all.1)
      | inr other ↦ rw other (of_each Q n xs all.1)
    ]

-- what entries with stamps from s on send has stamps from s on
abbrev Late : ℕ → ℕ → JournalEntry → Type 0
Late s n e = Stamped n e × (s ≤ e.stamp)

late_sent : (s n : ℕ) (es : List JournalEntry) → AllByRecursion (Late s n) es → AllByRecursion (λ (m : Message). s ≤ m.stamp) (sent es)
late_sent s n [] all = tt
late_sent s n (e ∷ es) all =
    each_append (λ (m : Message). s ≤ m.stamp) (outputs e) (sent es)
    (each_weaker (λ (m : Message). (node_number m.link.from ≡ n) × (m.stamp ≡ e.stamp)) (λ (m : Message). s ≤ m.stamp) (λ m h. let a = all.0.1 in let b = h.1 in omega arith) (outputs e) (sends_stamped n e all.0.0))
    (late_sent s n es all.1)

taken_of : (n : Node) (k : ℕ) (e : JournalEntry) (xs : List (Node × JournalEntry)) → taken (of k ((n, e) ∷ xs)) ≡ (if node_number n == k then took e.what ++ taken (of k xs) else taken (of k xs))
taken_of n k e xs = elim (cases_Bool (node_number n == k)) [ inl here ↦ rw here refl | inr other ↦ rw other refl ]

-- a message that is earlier than those that are yet to be sent was sent before
front : (l s ms : List Message) (m : Message) (low : ℕ) → l ++ s ≡ m ∷ ms → AllByRecursion (λ (x : Message). low ≤ x.stamp) s → m.stamp < low → (rest : List Message) × (l ≡ m ∷ rest)
front [] [] ms m low is late early = absurd cc
front [] (x ∷ s) ms m low is late early =
    let same : x ≡ m = cc in
    let e : x.stamp ≡ m.stamp = ap (λ (y : Message). y.stamp) same in
    let a = late.0 in absurd (omega arith)
front (x ∷ l) s ms m low is late early = let same : x ≡ m = cc in (l, ap (λ (y : Message). y ∷ l) same)

-- what node n takes now, and what each node takes later, is the first of what is under way and of what is sent later
abbrev Before : Under → ℕ → List Message → (ℕ → List Message) → (ℕ → ℕ → List Message) → Type 0
Before under n now t s = (p k : ℕ) → AreFirst (from p (if n == k then now ++ t k else t k)) (under p k ++ s p k)

found_first : (under : Under) (n low : ℕ) (m : Message) (t : ℕ → List Message) (s : ℕ → ℕ → List Message) → Before under n (m ∷ []) t s
    → ((p k : ℕ) → AllByRecursion (λ (x : Message). low ≤ x.stamp) (s p k)) → m.stamp < low → IsAtFront under n m
found_first under n low m t s before late early =
    let p = node_number m.link.from in
    let h : AreFirst (m ∷ from p (t n)) (under p n ++ s p n) = rw (eq-eqb n n refl, eq-eqb p p refl) at (before p n) in
    front (under p n) (s p n) (from p (t n) ++ h.0) m low h.1 (late p n) early

found : (under : Under) (n low : ℕ) (w : What) (t : ℕ → List Message) (s : ℕ → ℕ → List Message) → Before under n (took w) t s
    → ((p k : ℕ) → AllByRecursion (λ (x : Message). low ≤ x.stamp) (s p k)) → AllByRecursion (λ (m : Message). m.stamp < low) (took w) → Found under n w
found under n low (Driver l) t s before late takes = tt
found under n low (Step m) t s before late takes = found_first under n low m t s before late takes.0
found under n low (Loss m) t s before late takes = found_first under n low m t s before late takes.0

off_first : (under : Under) (n : ℕ) (m : Message) (t : ℕ → List Message) (s : ℕ → ℕ → List Message) → Before under n (m ∷ []) t s → IsAtFront under n m
    → (p k : ℕ) → AreFirst (from p (t k)) (without_first (node_number m.link.from) n under p k ++ s p k)
off_first under n m t s before is p k =
    elim (cases_Bool (node_number m.link.from == p)) [
      | inl its ↦ elim (cases_Bool (n == k)) [
        | inl here ↦
            let h : AreFirst (m ∷ from p (t k)) (under p k ++ s p k) = rw (here, its) at (before p k) in
            let link : under p k ≡ m ∷ is.0 = sym (ap (λ (a : ℕ). under a n) (eqb-true (node_number m.link.from) p its) ∙ ap (λ (b : ℕ). under p b) (eqb-true n k here)) ∙ is.1 in
            let whole : m ∷ (is.0 ++ s p k) ≡ m ∷ (from p (t k) ++ h.0) = rw link at h.1 in
            let tails : is.0 ++ s p k ≡ from p (t k) ++ h.0 = cc in
            rw (its, here, link) (h.0, tails)
        | inr other ↦ (let h : AreFirst (from p (t k)) (under p k ++ s p k) = rw other at (before p k) in rw (its, other) h)
      ]
      | inr not_its ↦ elim (cases_Bool (n == k)) [
        | inl here ↦ (let h : AreFirst (from p (t k)) (under p k ++ s p k) = rw (here, not_its) at (before p k) in rw not_its h)
        | inr other ↦ (let h : AreFirst (from p (t k)) (under p k ++ s p k) = rw other at (before p k) in rw not_its h)
      ]
    ]

off : (under : Under) (n : ℕ) (w : What) (t : ℕ → List Message) (s : ℕ → ℕ → List Message) → Before under n (took w) t s → Found under n w
    → (p k : ℕ) → AreFirst (from p (t k)) (taken_off under n w p k ++ s p k)
off under n (Driver l) t s before is p k = elim (cases_Bool (n == k)) [ inl here ↦ rw here at (before p k) | inr other ↦ rw other at (before p k) ]
off under n (Step m) t s before is p k = off_first under n m t s before is p k
off under n (Loss m) t s before is p k = off_first under n m t s before is p k

-- what is still to be taken is the first of what is under way and of what is still to be sent
abbrev Carries : Under → List (Node × JournalEntry) → Type 0
Carries under xs = (p k : ℕ) → AreFirst (from p (taken (of k xs))) (under p k ++ to k (sent (of p xs)))

grow : (test : Message → Bool) (l o s f : List Message) → AreFirst f (l ++ filter test (o ++ s)) → AreFirst f ((l ++ filter test o) ++ filter test s)
grow test l o s f h = (h.0, append_assoc l (filter test o) (filter test s) ∙ (ap (λ (z : List Message). l ++ z) (sym (filter-append test o s)) ∙ h.1))

on_added : (under : Under) (n : Node) (e : JournalEntry) (xs : List (Node × JournalEntry))
    → ((p k : ℕ) → AreFirst (from p (taken (of k xs))) (under p k ++ to k (sent (of p ((n, e) ∷ xs))))) → Carries (added under (node_number n) (outputs e)) xs
on_added under n e xs h p k =
    elim (cases_Bool (node_number n == p)) [
      | inl here ↦
          (let g : AreFirst (from p (taken (of k xs))) (under p k ++ to k (outputs e ++ sent (of p xs))) = rw here at (h p k) in
          rw here (grow (λ m. node_number m.link.to == k) (under p k) (outputs e) (sent (of p xs)) (from p (taken (of k xs))) g))
      | inr other ↦ (let g : AreFirst (from p (taken (of k xs))) (under p k ++ to k (sent (of p xs))) = rw other at (h p k) in rw other g)
    ]

not_earlier : (x y : Node × JournalEntry) → is_before x y ≡ true → x.1.stamp ≤ y.1.stamp
not_earlier x y is = elim (or_cases _ _ is) [
  | inl less ↦ (let l = ltb-true x.1.stamp y.1.stamp less in omega arith)
  | inr same ↦ (let p = and_parts (x.1.stamp == y.1.stamp) _ same in let e = eqb-true x.1.stamp y.1.stamp p.0 in omega arith)
]

pub runs : (xs : List (Node × JournalEntry)) (under : Under) → AllByRecursion (λ (x : Node × JournalEntry). Stamped (node_number x.0) x.1) xs → Sorted xs → Carries under xs → Runs under xs
runs [] under stamped sorted carries = tt
runs (x ∷ xs) under stamped sorted carries =
    let n = node_number x.0 in
    let low = x.1.stamp in
    let later : AllByRecursion (λ (y : Node × JournalEntry). Late low (node_number y.0) y.1) (x ∷ xs) = (
      (stamped.0, omega arith),
      each_both (λ (y : Node × JournalEntry). Stamped (node_number y.0) y.1) (λ (y : Node × JournalEntry). low ≤ y.1.stamp) xs stamped.1
          (each_weaker (λ y. is_before x y ≡ true) (λ (y : Node × JournalEntry). low ≤ y.1.stamp) (λ y. not_earlier x y) xs sorted.0),
    ) in
    let t : ℕ → List Message = λ k. taken (of k xs) in
    let s : ℕ → ℕ → List Message = λ p k. to k (sent (of p (x ∷ xs))) in
    let before : Before under n (took x.1.what) t s = λ p k. subst (λ (z : List Message). AreFirst (from p z) (under p k ++ s p k)) (taken_of x.0 k x.1 xs) (carries p k) in
    let late : (p k : ℕ) → AllByRecursion (λ (m : Message). low ≤ m.stamp) (s p k) =
    λ p k. each_filter (λ (m : Message). low ≤ m.stamp) (λ m. node_number m.link.to == k) (sent (of p (x ∷ xs))) (late_sent low p (of p (x ∷ xs)) (of_each (Late low) p (x ∷ xs) later)) in
    let here : Found under n x.1.what = found under n low x.1.what t s before late stamped.0.takes in
    (here, runs xs (after under x) stamped.1 sorted.1 (on_added (taken_off under n x.1.what) x.0 x.1 xs (off under n x.1.what t s before here)))

pub all_found : (j : ℕ → List JournalEntry) (xs : List (Node × JournalEntry)) → Legal j → Merged j xs → Runs empty xs
all_found j xs legal is =
    runs xs empty
    (each_of Stamped xs (λ n. subst (AllByRecursion (Stamped n)) (sym (is.parts n)) (legal.stamped n)))
    is.sorted
    (λ p k. rw (is.parts k, is.parts p) (legal.first p k))
