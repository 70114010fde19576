-- `put_all` goes from the front too.
use Rattle.std.proofs.Common.{ℕ, ◌≡◌, ◌+◌, ◌≤◌, ◌∙◌, true, false, List, [], ◌∷◌, ◌++◌, refl, ap, sym, arith, append_assoc}
use Rattle.std.specs.List.{AllByRecursion}
use Rattle.std.proofs.lemmas.Bool.Decides.{nat_tests}
use Rattle.dc_base.specs.declared.nodes.Node.{Node}
use Rattle.journals.specs.declared.entries.JournalEntry.{JournalEntry}
use Rattle.journals.specs.Journals.{Rising}
use Rattle.journals.specs.Merging.{is_before, Sorted, put, put_all}
use Rattle.journals.proofs.OnEach.{each_weaker}
use Rattle.journals.proofs.Orders.{put_each, transitive}
use Rattle.merging.specs.Heads.{goes_first}

abbrev Tagged : Type 0
Tagged = Node × JournalEntry

-- what comes after x, with a later entry of the same node
later_too : (n : Node) (e f : JournalEntry) (y : Tagged) → e.stamp ≤ f.stamp → is_before (n, e) y ≡ false → is_before (n, f) y ≡ false
later_too n e f y le no' = grind (arith, nat_tests)

same_node : (n : Node) (e f : JournalEntry) → e.stamp ≤ f.stamp → is_before (n, e) (n, f) ≡ true
same_node n e f le = grind (arith, nat_tests)

all_after : (n : Node) (s t : ℕ) (e : JournalEntry) (es : List JournalEntry) (ys : List Tagged) → e.stamp ≤ s → Rising s t es → AllByRecursion (λ y. is_before (n, e) y ≡ true) ys → AllByRecursion (λ y. is_before (n, e) y ≡ true) (put_all n es ys)
all_after n s t e [] ys low r all = all
all_after n s t e (f ∷ es) ys low r all =
    let a = r.0 in
    put_each (λ y. is_before (n, e) y ≡ true) (n, f) (put_all n es ys) (same_node n e f (omega arith)) (all_after n (f.stamp + 1) (f.turn + 1) e es ys (omega arith) r.2 all)

put_first : (x : Tagged) (ys : List Tagged) → AllByRecursion (λ y. is_before x y ≡ true) ys → put x ys ≡ x ∷ ys
put_first x [] all = refl
put_first x (y ∷ ys) all = let h : is_before x y ≡ true = all.0 in rw h refl

pub takes_own : (n : Node) (s t : ℕ) (e : JournalEntry) (es : List JournalEntry) (ys : List Tagged) → Rising s t (e ∷ es) → Sorted ys → goes_first n (e ∷ es) ys ≡ true → put_all n (e ∷ es) ys ≡ (n, e) ∷ put_all n es ys
takes_own n s t e es [] r sorted is = put_first (n, e) (put_all n es []) (all_after n (e.stamp + 1) (e.turn + 1) e es [] (omega arith) r.2 tt)
takes_own n s t e es (y ∷ ys) r sorted is =
    put_first (n, e) (put_all n es (y ∷ ys)) (all_after n (e.stamp + 1) (e.turn + 1) e es (y ∷ ys) (omega arith) r.2
    (is, each_weaker (λ z. is_before y z ≡ true) (λ z. is_before (n, e) z ≡ true) (λ z h. transitive (n, e) y z is h) ys sorted.0))

skips : (n : Node) (s t : ℕ) (es : List JournalEntry) (y : Tagged) (ys : List Tagged) → Rising s t es → ((f : JournalEntry) → s ≤ f.stamp → is_before (n, f) y ≡ false) → put_all n es (y ∷ ys) ≡ y ∷ put_all n es ys
skips n s t [] y ys r no' = refl
skips n s t (f ∷ es) y ys r no' =
    let low = r.0 in
    let here : is_before (n, f) y ≡ false = no' f low in
    let rest : put_all n es (y ∷ ys) ≡ y ∷ put_all n es ys = skips n (f.stamp + 1) (f.turn + 1) es y ys r.2 (λ g h. no' g (omega arith)) in
    rw (rest, here) refl

pub takes_other : (n : Node) (s t : ℕ) (e : JournalEntry) (es : List JournalEntry) (y : Tagged) (ys : List Tagged) → Rising s t (e ∷ es) → goes_first n (e ∷ es) (y ∷ ys) ≡ false → put_all n (e ∷ es) (y ∷ ys) ≡ y ∷ put_all n (e ∷ es) ys
takes_other n s t e es y ys r is = skips n e.stamp t (e ∷ es) y ys (omega arith, r.1, r.2) (λ f low. later_too n e f y low is)

rising_tail : (s t : ℕ) (es : List JournalEntry) → Rising s t es → Rising 0 0 es
rising_tail s t [] r = tt
rising_tail s t (e ∷ es) r = (omega arith, omega arith, r.2)

pub own_step : (n : Node) (merged after : List Tagged) (all es : List JournalEntry) (e : JournalEntry) (ys : List Tagged) → all ≡ e ∷ es → after ≡ merged ++ (n, e) ∷ [] → Rising 0 0 all → Sorted ys → goes_first n all ys ≡ true
    → (after ++ put_all n es ys ≡ merged ++ put_all n all ys) × Rising 0 0 es
own_step n merged after all es e ys is put r sorted first =
    let r' : Rising 0 0 (e ∷ es) = rw is at r in
    let first' : goes_first n (e ∷ es) ys ≡ true = rw is at first in (
      ap (λ (l : List Tagged). l ++ put_all n es ys) put ∙ (append_assoc merged ((n, e) ∷ []) (put_all n es ys) ∙ (ap (λ (l : List Tagged). merged ++ l) (sym (takes_own n 0 0 e es ys r' sorted first')) ∙ ap (λ (l : List JournalEntry). merged ++ put_all n l ys) (sym is))),
      rising_tail (e.stamp + 1) (e.turn + 1) es r'.2,
    )

other_cases : (n : Node) (all : List JournalEntry) (y : Tagged) (ys : List Tagged) → Rising 0 0 all → goes_first n all (y ∷ ys) ≡ false → put_all n all (y ∷ ys) ≡ y ∷ put_all n all ys
other_cases n [] y ys r first = refl
other_cases n (e ∷ es) y ys r first = takes_other n 0 0 e es y ys r first

pub other_step : (n : Node) (merged after : List Tagged) (all : List JournalEntry) (others ys : List Tagged) (y : Tagged) → others ≡ y ∷ ys → after ≡ merged ++ y ∷ [] → Rising 0 0 all → Sorted others → goes_first n all others ≡ false
    → (after ++ put_all n all ys ≡ merged ++ put_all n all others) × Sorted ys
other_step n merged after all others ys y is put r sorted first =
    let s' : Sorted (y ∷ ys) = rw is at sorted in
    let first' : goes_first n all (y ∷ ys) ≡ false = rw is at first in (
      ap (λ (l : List Tagged). l ++ put_all n all ys) put ∙ (append_assoc merged (y ∷ []) (put_all n all ys) ∙ (ap (λ (l : List Tagged). merged ++ l) (sym (other_cases n all y ys r first')) ∙ ap (λ (l : List Tagged). merged ++ put_all n all l) (sym is))),
      s'.1,
    )
