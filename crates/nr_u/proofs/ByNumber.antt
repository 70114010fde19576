-- Lists by ascending numbers, and what a new number does to them.
use Rattle.std.proofs.Common.{◌≡◌, ℕ, ◌+◌, ◌<◌, ◌≤◌, ◌⊎◌, Bool, true, false, cond, List, [], ◌∷◌, is_some, refl, sym, subst, inl, inr, arith}
use Rattle.std.specs.Prelude.{filter}
use Rattle.std.specs.List.{AllByRecursion}
use Rattle.std.specs.Ordering.{nat_cmp}
use Rattle.std.specs.Cmp.{nat_cmp_is}
use Rattle.std.specs.declared.cmp.Ordering.TheVariants.{Less, Equal, Greater}
use Rattle.std.specs.BTreeMap.{insert_entry, is_at}
use Rattle.std.specs.BTreeSet.{insert_key}
use Rattle.std.specs.Map.{lookup, remove_entry}
use Rattle.std.specs.Set.{remove_key}
use Rattle.std.proofs.lemmas.Bool.{cases_order, cases_Bool}
use Rattle.nr_u.specs.declared.tunnel.inbound.Arrival.{Arrival}
use Rattle.nr_u.specs.Tunnel.Incoming.{Numbered, Ascends, has, contains}
use Rattle.nr_u.specs.Tunnel.Kept.{next_after}

-- how two numbers compare
pub cmp_tells : (a b : ℕ) → ((nat_cmp a b ≡ Less) × (a < b)) ⊎ (((nat_cmp a b ≡ Equal) × (a ≡ b)) ⊎ ((nat_cmp a b ≡ Greater) × (b < a)))
cmp_tells a b =
    elim (cases_order a b) [
      | inl same ↦ inr (inl (sym (nat_cmp_is a b Equal same), same))
      | inr apart ↦ elim apart [
        | inl less ↦ inl (sym (nat_cmp_is a b Less less), less)
        | inr more ↦ inr (inr (sym (nat_cmp_is a b Greater more), more))
      ]
    ]

-- a new entry, taken out again
pub remove-insert : {X : Type 0} (k : ℕ) (v : X) (es : List (ℕ × X)) → is_some (lookup (is_at (nat_cmp k)) es) ≡ false → remove_entry (is_at (nat_cmp k)) (insert_entry nat_cmp es k v) ≡ es
remove-insert k v [] new = grind (arith, cmp_tells k k)
remove-insert k v (e ∷ es) new = grind (arith, cmp_tells k e.0, cmp_tells k k, remove-insert k v es)

pub remove-insert_key : (k : ℕ) (ks : List ℕ) → contains k ks ≡ false → remove_key (is_at (nat_cmp k)) (insert_key nat_cmp ks k) ≡ ks
remove-insert_key k [] new = grind (arith, cmp_tells k k)
remove-insert_key k (x ∷ ks) new = grind (arith, cmp_tells k x, cmp_tells k k, remove-insert_key k ks)

remove-absent : {X : Type 0} (k : ℕ) (es : List (ℕ × X)) → is_some (lookup (is_at (nat_cmp k)) es) ≡ false → remove_entry (is_at (nat_cmp k)) es ≡ es
remove-absent k [] new = refl
remove-absent k (e ∷ es) new = grind (arith, cmp_tells k e.0, remove-absent k es)

-- the same where it went in only if it passed a test
pub remove-insert_if : {X : Type 0} (b : Bool) (k : ℕ) (v : X) (es : List (ℕ × X)) → is_some (lookup (is_at (nat_cmp k)) es) ≡ false → remove_entry (is_at (nat_cmp k)) (cond b (insert_entry nat_cmp es k v) es) ≡ es
remove-insert_if true k v es new = remove-insert k v es new
remove-insert_if false k v es new = remove-absent k es new

pub Ascends-insert : (low k : ℕ) (a : Arrival) (es : List Numbered) → low ≤ k → Ascends low es → has k es ≡ false → Ascends low (insert_entry nat_cmp es k a)
Ascends-insert low k a [] above up new = (above, tt)
Ascends-insert low k a (e ∷ es) above up new = grind (arith, cmp_tells k e.0, Ascends-insert (e.0 + 1) k a es)

pub next_after-above : (low : ℕ) (es : List Numbered) → Ascends low es → low ≤ next_after low es
next_after-above low [] up = omega arith
next_after-above low (e ∷ es) up = omega (arith, up.0, next_after-above (e.0 + 1) es up.1)

-- ---- which numbers are there

pub has-insert : (j k : ℕ) (a : Arrival) (es : List Numbered) → has j es ≡ true → has j (insert_entry nat_cmp es k a) ≡ true
has-insert j k a [] there = absurd cc
has-insert j k a (e ∷ es) there = grind (arith, cmp_tells k e.0, cmp_tells j e.0, cmp_tells j k, has-insert j k a es)

has-insert_same : (k : ℕ) (a : Arrival) (es : List Numbered) → has k (insert_entry nat_cmp es k a) ≡ true
has-insert_same k a [] = grind (arith, cmp_tells k k)
has-insert_same k a (e ∷ es) = grind (arith, cmp_tells k e.0, cmp_tells k k, has-insert_same k a es)

-- each of the numbers is among those that came
abbrev pub Came : List Numbered → List ℕ → Type 0
Came es ks = AllByRecursion (λ k. has k es ≡ true) ks

pub Came-remove : (k : ℕ) (es : List Numbered) (ks : List ℕ) → Came es ks → Came es (remove_key (is_at (nat_cmp k)) ks)
Came-remove k es [] all = tt
Came-remove k es (x ∷ ks) all =
    elim (cases_Bool (is_at (nat_cmp k) x)) [
      | inl here ↦ rw here all.1
      | inr other ↦ rw other (all.0, Came-remove k es ks all.1)
    ]

Came-later : (k : ℕ) (a : Arrival) (es : List Numbered) (ks : List ℕ) → Came es ks → Came (insert_entry nat_cmp es k a) ks
Came-later k a es [] all = tt
Came-later k a es (x ∷ ks) all = (has-insert x k a es all.0, Came-later k a es ks all.1)

pub Came-insert : (k : ℕ) (a : Arrival) (es : List Numbered) (ks : List ℕ) → Came es ks → Came (insert_entry nat_cmp es k a) (insert_key nat_cmp ks k)
Came-insert k a es [] all = (has-insert_same k a es, tt)
Came-insert k a es (x ∷ ks) all =
    elim (cmp_tells k x) [
      | inl less ↦ rw less.0 (has-insert_same k a es, Came-later k a es (x ∷ ks) all)
      | inr rest ↦ elim rest [
        | inl same ↦ rw same.0 (Came-later k a es (x ∷ ks) all)
        | inr more ↦ rw more.0 (has-insert x k a es all.0, Came-insert k a es ks all.1)
      ]
    ]

pub insert_all : (P : Numbered → Type 0) (k : ℕ) (a : Arrival) (es : List Numbered) → P (k, a) → AllByRecursion P es → AllByRecursion P (insert_entry nat_cmp es k a)
insert_all P k a [] here all = (here, tt)
insert_all P k a (e ∷ es) here all =
    elim (cmp_tells k e.0) [
      | inl less ↦ rw less.0 (here, all)
      | inr rest ↦ elim rest [
        | inl same ↦ rw same.0 (subst (λ (x : ℕ). P (x, a)) same.1 here, all.1)
        | inr more ↦ rw more.0 (all.0, insert_all P k a es here all.1)
      ]
    ]

pub contains-new : (k : ℕ) (es : List Numbered) (ks : List ℕ) → Came es ks → has k es ≡ false → contains k ks ≡ false
contains-new k es [] all new = refl
contains-new k es (x ∷ ks) all new = grind (arith, cmp_tells k x, contains-new k es ks all.1, all.0)

-- ---- those that pass a test

pub has-filter : (p : Numbered → Bool) (k : ℕ) (es : List Numbered) → has k es ≡ false → has k (filter p es) ≡ false
has-filter p k [] new = refl
has-filter p k (e ∷ es) new = grind (arith, cmp_tells k e.0, has-filter p k es)

-- before all of them
insert_front : (low k : ℕ) (a : Arrival) (es : List Numbered) → k < low → Ascends low es → insert_entry nat_cmp es k a ≡ (k, a) ∷ es
insert_front low k a [] before up = refl
insert_front low k a (e ∷ es) before up = grind (arith, cmp_tells k e.0)

Ascends-later : (low next : ℕ) (es : List Numbered) → low ≤ next → Ascends next es → Ascends low es
Ascends-later low next [] le up = tt
Ascends-later low next (e ∷ es) le up = (omega (arith, up.0), up.1)

Ascends-filter : (p : Numbered → Bool) (low : ℕ) (es : List Numbered) → Ascends low es → Ascends low (filter p es)
Ascends-filter p low [] up = tt
Ascends-filter p low (e ∷ es) up =
    elim (cases_Bool (p e)) [
      | inl passes ↦ rw passes (up.0, Ascends-filter p (e.0 + 1) es up.1)
      | inr fails ↦ rw fails (Ascends-later low (e.0 + 1) (filter p es) (omega (arith, up.0)) (Ascends-filter p (e.0 + 1) es up.1))
    ]

pub filter-insert : (p : Numbered → Bool) (low k : ℕ) (a : Arrival) (es : List Numbered) → Ascends low es → has k es ≡ false
    → filter p (insert_entry nat_cmp es k a) ≡ cond (p (k, a)) (insert_entry nat_cmp (filter p es) k a) (filter p es)
filter-insert p low k a [] up new = grind arith
filter-insert p low k a (e ∷ es) up new =
    let front = insert_front (e.0 + 1) k a (filter p es) in
    let up' = Ascends-filter p (e.0 + 1) es up.1 in
    grind (arith, cmp_tells k e.0, filter-insert p (e.0 + 1) k a es up.1)
