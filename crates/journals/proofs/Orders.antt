-- `merged` has each journal's entries, in order.
use Rattle.std.proofs.Common.{List, [], ap, arith, false, inl, inr, refl, suc, sym, true, zero, ℕ, ◌++◌, ◌+◌, ◌<◌, ◌==◌, ◌∙◌, ◌∷◌, ◌≡◌, ◌≤◌}
use Rattle.std.proofs.lemmas.Bool.{cases_Bool, cond-false, eqb-true, ne_eqb}
use Rattle.std.proofs.lemmas.Bool.Decides.{nat_tests}
use Rattle.std.proofs.lemmas.List.{append-nil}
use Rattle.std.specs.List.{AllByRecursion}
use Rattle.std.specs.Prelude.{if◌then◌else◌}
use Rattle.dc_base.specs.Nodes.{node_number}
use Rattle.dc_base.specs.declared.nodes.Node.{Node}
use Rattle.dc_base.specs.declared.nodes.Node.TheVariants.{A, B, M, T}
use Rattle.journals.proofs.OnEach.{each_weaker}
use Rattle.journals.specs.Journals.{Legal, Rising}
use Rattle.journals.specs.Merging.{Merged, Sorted, is_before, merged, numbered, of, put, put_all}
use Rattle.journals.specs.declared.entries.JournalEntry.{JournalEntry}

pub total_order : (x y : Node × JournalEntry) → is_before x y ≡ false → is_before y x ≡ true
total_order x y no' = grind (arith, nat_tests)

pub transitive : (x y z : Node × JournalEntry) → is_before x y ≡ true → is_before y z ≡ true → is_before x z ≡ true
transitive x y z a b = grind (arith, nat_tests)

pub put_each : (P : Node × JournalEntry → Type 0) (x : Node × JournalEntry) (ys : List (Node × JournalEntry)) → P x → AllByRecursion P ys → AllByRecursion P (put x ys)
put_each P x [] one all = (one, tt)
put_each P x (y ∷ ys) one all =
    elim (cases_Bool (is_before x y)) [ inl here ↦ rw here (one, all) | inr past ↦ rw past (all.0, put_each P x ys one all.1) ]

put_sorted : (x : Node × JournalEntry) (ys : List (Node × JournalEntry)) → Sorted ys → Sorted (put x ys)
put_sorted x [] s = (tt, tt)
put_sorted x (y ∷ ys) s =
    elim (cases_Bool (is_before x y)) [
      | inl here ↦ rw here ((here, each_weaker (λ z. is_before y z ≡ true) (λ z. is_before x z ≡ true) (λ z h. transitive x y z here h) ys s.0), s)
      | inr past ↦ rw past (put_each (λ z. is_before y z ≡ true) x ys (total_order x y past) s.0, put_sorted x ys s.1)
    ]

put_all_each : (P : Node × JournalEntry → Type 0) (n : Node) (es : List JournalEntry) (ys : List (Node × JournalEntry)) → ((e : JournalEntry) → P (n, e)) → AllByRecursion P ys → AllByRecursion P (put_all n es ys)
put_all_each P n [] ys one all = all
put_all_each P n (e ∷ es) ys one all = put_each P (n, e) (put_all n es ys) (one e) (put_all_each P n es ys one all)

pub put_all_sorted : (n : Node) (es : List JournalEntry) (ys : List (Node × JournalEntry)) → Sorted ys → Sorted (put_all n es ys)
put_all_sorted n [] ys s = s
put_all_sorted n (e ∷ es) ys s = put_sorted (n, e) (put_all n es ys) (put_all_sorted n es ys s)

-- each entry of node n has a stamp from s on
abbrev From : ℕ → ℕ → Node × JournalEntry → Type 0
From n s y = node_number y.0 ≡ n → s ≤ y.1.stamp

all_from : (n : Node) (s t : ℕ) (es : List JournalEntry) (ys : List (Node × JournalEntry)) → Rising s t es → AllByRecursion (From (node_number n) s) ys → ((r : ℕ) → AllByRecursion (From (node_number n) r) ys)
    → AllByRecursion (From (node_number n) s) (put_all n es ys)
all_from n s t [] ys r all every = all
all_from n s t (e ∷ es) ys r all every =
    let k = node_number n in
    put_each (From k s) (n, e) (put_all n es ys) (λ _. r.0)
    (each_weaker (From k (e.stamp + 1)) (From k s) (λ y h same. let l = h same in let a = r.0 in omega arith) (put_all n es ys)
    (all_from n (e.stamp + 1) (e.turn + 1) es ys r.2 (every (e.stamp + 1)) every))

tie : (x y : Node × JournalEntry) → node_number x.0 ≡ node_number y.0 → x.1.stamp ≤ y.1.stamp → is_before x y ≡ true
tie x y same le = grind (arith, nat_tests)

of_put : (k : ℕ) (x : Node × JournalEntry) (ys : List (Node × JournalEntry)) → AllByRecursion (From (node_number x.0) x.1.stamp) ys → of k (put x ys) ≡ of k (x ∷ ys)
of_put k x [] all = refl
of_put k x (y ∷ ys) all =
    elim (cases_Bool (is_before x y)) [
      | inl here ↦ rw here refl
      | inr past ↦ rw past (elim (cases_Bool (node_number y.0 == k)) [
        | inl yk ↦ elim (cases_Bool (node_number x.0 == k)) [
          | inl xk ↦ (let a = eqb-true (node_number x.0) k xk in let b = eqb-true (node_number y.0) k yk in let t = tie x y (a ∙ sym b) (all.0 (b ∙ sym a)) in absurd cc)
          | inr xn ↦ (let h : of k (put x ys) ≡ of k ys = rw xn at (of_put k x ys all.1) in rw (yk, xn) (ap (λ (l : List JournalEntry). y.1 ∷ l) h))
        ]
        | inr yn ↦ (rw yn (of_put k x ys all.1))
      ])
    ]

of_put_all : (k : ℕ) (n : Node) (s t : ℕ) (es : List JournalEntry) (ys : List (Node × JournalEntry)) → Rising s t es → ((r : ℕ) → AllByRecursion (From (node_number n) r) ys)
    → of k (put_all n es ys) ≡ (if node_number n == k then es ++ of k ys else of k ys)
of_put_all k n s t [] ys r every = elim (cases_Bool (node_number n == k)) [ inl here ↦ rw here refl | inr other ↦ rw other refl ]
of_put_all k n s t (e ∷ es) ys r every =
    let i = node_number n in
    let later = each_weaker (From i (e.stamp + 1)) (From i e.stamp) (λ y h same. let l = h same in omega arith) (put_all n es ys)
    (all_from n (e.stamp + 1) (e.turn + 1) es ys r.2 (every (e.stamp + 1)) every) in
    of_put k (n, e) (put_all n es ys) later
    ∙ elim (cases_Bool (i == k)) [
      | inl here ↦ (let h : of k (put_all n es ys) ≡ es ++ of k ys = rw here at (of_put_all k n (e.stamp + 1) (e.turn + 1) es ys r.2 every) in rw here (ap (λ (l : List JournalEntry). e ∷ l) h))
      | inr other ↦ (let h : of k (put_all n es ys) ≡ of k ys = rw other at (of_put_all k n (e.stamp + 1) (e.turn + 1) es ys r.2 every) in rw other h)
    ]

abbrev Not : ℕ → Node × JournalEntry → Type 0
Not n y = node_number y.0 ≡ n → ⊥

none_from : (n : ℕ) (ys : List (Node × JournalEntry)) → AllByRecursion (Not n) ys → (r : ℕ) → AllByRecursion (From n r) ys
none_from n ys all r = each_weaker (Not n) (From n r) (λ y h same. absurd (h same)) ys all

pub merged_parts : (t m a b : List JournalEntry) → Legal (numbered t m a b) → (n : ℕ) → of n (merged t m a b) ≡ numbered t m a b n
merged_parts t m a b legal n =
    let r3 = put_all B b [] in
    let r2 = put_all A a r3 in
    let r1 = put_all M m r2 in
    let e3 : (k : ℕ) → of k r3 ≡ (if 3 == k then b ++ [] else []) = λ k. of_put_all k B 0 0 b [] (legal.rising 3) (λ r. tt) in
    let e2 : (k : ℕ) → of k r2 ≡ (if 2 == k then a ++ of k r3 else of k r3) = λ k. of_put_all k A 0 0 a r3 (legal.rising 2)
    (none_from 2 r3 (put_all_each (Not 2) B b [] (λ e h. omega arith) tt)) in
    let e1 : (k : ℕ) → of k r1 ≡ (if 1 == k then m ++ of k r2 else of k r2) = λ k. of_put_all k M 0 0 m r2 (legal.rising 1)
    (none_from 1 r2 (put_all_each (Not 1) A a r3 (λ e h. omega arith) (put_all_each (Not 1) B b [] (λ e h. omega arith) tt))) in
    let e0 : (k : ℕ) → of k (merged t m a b) ≡ (if 0 == k then t ++ of k r1 else of k r1) = λ k. of_put_all k T 0 0 t r1 (legal.rising 0)
    (none_from 0 r1 (put_all_each (Not 0) M m r2 (λ e h. omega arith) (put_all_each (Not 0) A a r3 (λ e h. omega arith) (put_all_each (Not 0) B b [] (λ e h. omega arith) tt)))) in
    at_each n e3 e2 e1 e0
  where
    at_each : (k : ℕ) → ((k : ℕ) → of k (put_all B b []) ≡ (if 3 == k then b ++ [] else []))
        → ((k : ℕ) → of k (put_all A a (put_all B b [])) ≡ (if 2 == k then a ++ of k (put_all B b []) else of k (put_all B b [])))
        → ((k : ℕ) → of k (put_all M m (put_all A a (put_all B b []))) ≡ (if 1 == k then m ++ of k (put_all A a (put_all B b [])) else of k (put_all A a (put_all B b []))))
        → ((k : ℕ) → of k (merged t m a b) ≡ (if 0 == k then t ++ of k (put_all M m (put_all A a (put_all B b []))) else of k (put_all M m (put_all A a (put_all B b [])))))
        → of k (merged t m a b) ≡ numbered t m a b k
    at_each zero e3 e2 e1 e0 = e0 0 ∙ (ap (λ (l : List JournalEntry). t ++ l) (e1 0 ∙ (e2 0 ∙ e3 0)) ∙ append-nil t)
    at_each (suc zero) e3 e2 e1 e0 = e0 1 ∙ (e1 1 ∙ (ap (λ (l : List JournalEntry). m ++ l) (e2 1 ∙ e3 1) ∙ append-nil m))
    at_each (suc (suc zero)) e3 e2 e1 e0 = e0 2 ∙ (e1 2 ∙ (e2 2 ∙ (ap (λ (l : List JournalEntry). a ++ l) (e3 2) ∙ append-nil a)))
    at_each (suc (suc (suc zero))) e3 e2 e1 e0 = e0 3 ∙ (e1 3 ∙ (e2 3 ∙ (e3 3 ∙ append-nil b)))
    at_each (suc (suc (suc (suc k)))) e3 e2 e1 e0 =
        let n : ℕ = suc (suc (suc (suc k))) in
        let none : (i : ℕ) → i < 4 → (i == n) ≡ false = λ i h. ne_eqb i n (λ e. omega arith) in
        let n0 : (0 == n) ≡ false = none 0 (omega arith) in
        let n1 : (1 == n) ≡ false = none 1 (omega arith) in
        let n2 : (2 == n) ≡ false = none 2 (omega arith) in
        let n3 : (3 == n) ≡ false = none 3 (omega arith) in
        e0 n ∙ (cond-false (0 == n) _ _ n0 ∙ (e1 n ∙ (cond-false (1 == n) _ _ n1 ∙ (e2 n ∙ (cond-false (2 == n) _ _ n2 ∙ (e3 n ∙ (cond-false (3 == n) _ _ n3 ∙
        sym (cond-false (0 == n) _ _ n0 ∙ (cond-false (1 == n) _ _ n1 ∙ (cond-false (2 == n) _ _ n2 ∙ cond-false (3 == n) _ _ n3))))))))))

pub merged_merged : (t m a b : List JournalEntry) → Legal (numbered t m a b) → Merged (numbered t m a b) (merged t m a b)
merged_merged t m a b legal =
    record {
      sorted = put_all_sorted T t (put_all M m (put_all A a (put_all B b []))) (put_all_sorted M m (put_all A a (put_all B b [])) (put_all_sorted A a (put_all B b []) (put_all_sorted B b [] tt)));
      parts = merged_parts t m a b legal;
    }
