-- One step over the slots of a ring: what it finds, moves and leaves.
use Rattle.std.proofs.Common.{ℕ, zero, suc, ◌≡◌, ◌+◌, ◌-◌, ◌%◌, ◌<◌, ◌≤◌, ◌==◌, max, ltb, true, false, Option, Some, None, List, [], ◌∷◌, ◌++◌, length, get_or, replicate, drop, refl, sym, ap, ◌∙◌, subst, add-zero, append_assoc, arith, inl, inr}
use Rattle.std.proofs.Math.ListN.{set, length-set}
use Rattle.std.specs.List.{AllByRecursion}
use Rattle.std.specs.Option.{is_some}
use Rattle.std.proofs.lemmas.List.{get_or-replicate, get_or_past, length-replicate}
use Rattle.std.proofs.lemmas.Bool.Decides.{nat_tests}
use Rattle.std.proofs.lemmas.Bool.{cases_lt, cases_Bool, eqb-true}
use Rattle.pdcp_rx.specs.declared.entity.RxParts.{RxParts}
use Rattle.pdcp_rx.specs.Entries.{Entry, counts_of, AscendFrom, is_stored, with_sdu, past_greatest}
use Rattle.pdcp_rx.specs.Run.{run_from}
use Rattle.pdcp_rx.specs.Ring.{Slots, slot_of, before, slots_from, ring_from}
use Rattle.pdcp_rx.proofs.Entries.{ascend_at, stored_below}
use Rattle.pdcp_rx.proofs.Runs.{run_none, run_first}
use Rattle.pdcp_rx.proofs.Rings.{mod_apart, slot_of-set_other, slots_same, slots_ascend, ring_passed, slots_put, stored_slot}

-- an SDU stands in a slot that is taken
pub taken : (x : Option (List ℕ)) → is_some x ≡ true → (sdu : List ℕ) × (x ≡ Some sdu)
taken None is = absurd cc
taken (Some sdu) is = (sdu, refl)

pub not_taken : (x : Option (List ℕ)) → is_some x ≡ false → x ≡ None
not_taken None is = refl
not_taken (Some sdu) is = absurd cc

-- what a slot that is not taken has before the others
pub slots_free : (s : Slots) (c k m : ℕ) → k ≡ suc m → slot_of s c ≡ None → slots_from s c k ≡ slots_from s (c + 1) m
slots_free s c k m is free = ap (λ n. slots_from s c n) is ∙ ap (λ x. before c x (slots_from s (c + 1) m)) free

-- what a slot that is taken has before the others
pub slots_taken : (s : Slots) (c k m : ℕ) (sdu : List ℕ) → k ≡ suc m → slot_of s c ≡ Some sdu → slots_from s c k ≡ (c, sdu) ∷ slots_from s (c + 1) m
slots_taken s c k m sdu is there = ap (λ n. slots_from s c n) is ∙ ap (λ x. before c x (slots_from s (c + 1) m)) there

-- the slots after one are the same once that has been freed
pub slots_after : (s : Slots) (c m : ℕ) → suc m ≤ length s → slots_from (set s (c % length s) None) (c + 1) m ≡ slots_from s (c + 1) m
slots_after s c m fit =
    slots_same (set s (c % length s) None) s (c + 1) m
    (λ e le lt. slot_of-set_other s e c None (λ same. mod_apart (length s) c e (omega arith) (omega arith) (sym same)))

-- nothing goes up where the slot is free
pub gap_free : (s : Slots) (c k m : ℕ) → k ≡ suc m → is_some (slot_of s c) ≡ false → run_from c (slots_from s c k) ≡ []
gap_free s c k m is free =
    ap (λ es. run_from c es) (slots_free s c k m is (not_taken (slot_of s c) free)) ∙ run_none c (slots_from s (c + 1) m) (slots_ascend s (c + 1)
    (c + 1) m (omega arith))

-- one goes up where the slot is taken
pub gap_taken : (s : Slots) (c k m : ℕ) → k ≡ suc m → is_some (slot_of s c) ≡ true → length (run_from c (slots_from s c k)) ≡ suc (length (run_from
    (c + 1) (slots_from s (c + 1) m)))
gap_taken s c k m is there =
    let found = taken (slot_of s c) there in
    ap (λ es. length (run_from c es)) (slots_taken s c k m found.0 is found.1) ∙ ap length (run_first c found.0 (slots_from s (c + 1) m))

-- what holds of each SDU in the slots holds of that in the first, and of each in the others
module _ (P : Entry → Type 0) where
  each_before : (c : ℕ) (x : Option (List ℕ)) (es : List Entry) → AllByRecursion P (before c x es) → AllByRecursion P es
  each_before c None es all = all
  each_before c (Some sdu) es all = all.1

  pub each_after : (s : Slots) (c k m : ℕ) → k ≡ suc m → AllByRecursion P (slots_from s c k) → AllByRecursion P (slots_from s (c + 1) m)
  each_after s c k m is all = each_before c (slot_of s c) (slots_from s (c + 1) m) (subst (λ n. AllByRecursion P (slots_from s c n)) is all)

  pub each_here : (s : Slots) (c k m : ℕ) (sdu : List ℕ) → k ≡ suc m → slot_of s c ≡ Some sdu → AllByRecursion P (slots_from s c k) → P (c, sdu)
  each_here s c k m sdu is there all = let split : AllByRecursion P ((c, sdu) ∷ slots_from s (c + 1) m) = subst (AllByRecursion P)
      (slots_taken s c k m sdu is there) all in split.0

pub below_here : (b : ℕ) (s : Slots) (c k m : ℕ) → k ≡ suc m → is_some (slot_of s c) ≡ true → AllByRecursion (λ e. e.0 < b) (slots_from s c k) → c < b
below_here b s c k m is there all = let found = taken (slot_of s c) there in each_here (λ e. e.0 < b) s c k m found.0 is found.1 all

ring_head : (s : Slots) (c k : ℕ) → k ≡ length s → 0 < length (run_from c (slots_from s c k)) → (0 < length s) × (is_some (slot_of s c) ≡ true)
ring_head s c zero is some' = absurd (omega arith)
ring_head s c (suc m) is some' =
    elim (is_some (slot_of s c)) as (λ b. is_some (slot_of s c) ≡ b → (0 < length s) × (b ≡ true)) [
      | true ↦ λ e. (omega arith, refl)
      | false ↦ λ e. absurd (omega (arith, ap length (gap_free s c (suc m) m refl e)))
    ] refl

-- where some go up, the first stands in its slot
pub run_head : (s : Slots) (c : ℕ) → 0 < length (run_from c (ring_from s c)) → (0 < length s) × (is_some (slot_of s c) ≡ true)
run_head s c some' = ring_head s c (length s) refl some'

pub index_same : {X : Type 0} (n i : ℕ) (x : X) → get_or (replicate n x) i x ≡ x
index_same n i x = elim (cases_lt i n) [ inl lt ↦ get_or-replicate n i x x lt | inr le ↦ get_or_past (replicate n x) i x (omega (arith, length-replicate n x)) ]

-- nothing stands in free slots
pub slots_replicate : (n c k : ℕ) → slots_from (replicate n None) c k ≡ []
slots_replicate n c zero = refl
slots_replicate n c (suc k) =
    let x : Option (List ℕ) = None in
    ap (λ y. before c y (slots_from (replicate n x) (c + 1) k)) (index_same n (c % length (replicate n x)) x) ∙ slots_replicate n (c + 1) k

-- an entry above all others goes to their end
pub with_sdu_last : (b c : ℕ) (sdu : List ℕ) (es fs : List Entry) → AscendFrom b (es ++ (c, sdu) ∷ fs) → with_sdu c sdu es ≡ es ++ (c, sdu) ∷ []
with_sdu_last b c sdu [] fs ascends = refl
with_sdu_last b c sdu (e ∷ es) fs ascends =
    let above = ascend_at (e.0 + 1) c sdu es fs ascends.1 in
    let rest = with_sdu_last (e.0 + 1) c sdu es fs ascends.1 in
    grind (arith, nat_tests)

-- and is not among them
pub not_stored_last : (b c : ℕ) (sdu : List ℕ) (es fs : List Entry) → AscendFrom b (es ++ (c, sdu) ∷ fs) → is_stored c es ≡ false
not_stored_last b c sdu [] fs ascends = refl
not_stored_last b c sdu (e ∷ es) fs ascends =
    let above = ascend_at (e.0 + 1) c sdu es fs ascends.1 in
    let rest = not_stored_last (e.0 + 1) c sdu es fs ascends.1 in
    grind (arith, nat_tests)

-- an SDU comes into a ring, where its slot was free
pub ring_put : (s : Slots) (b c : ℕ) (sdu : List ℕ) → b ≤ c → c < b + length s → slot_of s c ≡ None → ring_from (set s (c % length s)
    (Some sdu)) b ≡ with_sdu c sdu (ring_from s b)
ring_put s b c sdu le lt free =
    ap (λ n. slots_from (set s (c % length s) (Some sdu)) b n) (length-set s (c % length s) (Some sdu)) ∙ slots_put s b c (length s) sdu le lt
    (omega arith) free

-- the slot of a COUNT that is not stored is free
pub slot_none : (s : Slots) (b c : ℕ) → b ≤ c → c < b + length s → is_stored c (ring_from s b) ≡ false → slot_of s c ≡ None
slot_none s b c le lt new = not_taken (slot_of s c) (sym (stored_slot s b c (length s) le lt) ∙ new)

-- a ring in which the first COUNT is not stored may begin one later
pub ring_begins : (s : Slots) (b : ℕ) → AscendFrom (b + 1) (ring_from s b) → ring_from s b ≡ ring_from s (b + 1)
ring_begins s b ascends =
    elim (cases_lt 0 (length s)) [
      | inl some' ↦ ring_passed s b (slot_none s b b (omega arith) (omega arith) (stored_below (b + 1) b (ring_from s b) ascends (omega arith)))
      | inr none ↦ let z : length s ≡ 0 = omega arith in ap (λ n. slots_from s b n) z ∙ sym (ap (λ n. slots_from s (b + 1) n) z)
    ]

pub each_at : (P : Entry → Type 0) (e : Entry) (es fs : List Entry) → AllByRecursion P (es ++ e ∷ fs) → P e
each_at P e [] fs all = all.0
each_at P e (f ∷ es) fs all = each_at P e es fs all.1

-- one step of the COUNTs
pub counts_taken : (s : Slots) (c k m : ℕ) (cs all : List ℕ) → k ≡ suc m → is_some (slot_of s c) ≡ true → cs ++ counts_of (slots_from s c k) ≡ all →
    (cs ++ c ∷ []) ++ counts_of (slots_from s (c + 1) m) ≡ all
counts_taken s c k m cs all is there was =
    let found = taken (slot_of s c) there in
    append_assoc cs (c ∷ []) (counts_of (slots_from s (c + 1) m)) ∙ sym (ap (λ (es : List Entry). cs ++ counts_of es)
    (slots_taken s c k m found.0 is found.1)) ∙ was

pub counts_free : (s : Slots) (c k m : ℕ) (cs all : List ℕ) → k ≡ suc m → is_some (slot_of s c) ≡ false → cs ++ counts_of (slots_from s c k) ≡ all
    → cs ++ counts_of (slots_from s (c + 1) m) ≡ all
counts_free s c k m cs all is free was =
    sym (ap (λ (es : List Entry). cs ++ counts_of es) (slots_free s c k m is (not_taken (slot_of s c) free))) ∙ was

-- one step of the SDUs that are taken out
pub all_taken : (s : Slots) (c k m : ℕ) (sdu : List ℕ) (es all : List Entry) → k ≡ suc m → slot_of s c ≡ Some sdu → es ++ slots_from s c k ≡ all → (es ++
    (c, sdu) ∷ []) ++ slots_from s (c + 1) m ≡ all
all_taken s c k m sdu es all is there was =
    append_assoc es ((c, sdu) ∷ []) (slots_from s (c + 1) m) ∙ sym (ap (λ (fs : List Entry). es ++ fs) (slots_taken s c k m sdu is there)) ∙ was

pub all_free : (s : Slots) (c k m : ℕ) (es all : List Entry) → k ≡ suc m → slot_of s c ≡ None → es ++ slots_from s c k ≡ all → es ++ slots_from s
    (c + 1) m ≡ all
all_free s c k m es all is free was = sym (ap (λ (fs : List Entry). es ++ fs) (slots_free s c k m is free)) ∙ was

-- one step of the SDUs that move to other slots
pub all_moved : (s t : Slots) (b c k m : ℕ) (sdu : List ℕ) (all : List Entry) → k ≡ suc m → b ≤ c → c < b + length t → slot_of s c ≡ Some sdu → AscendFrom b all
    → ring_from t b ++ slots_from s c k ≡ all → ring_from (set t (c % length t) (Some sdu)) b ++ slots_from s (c + 1) m ≡ all
all_moved s t b c k m sdu all is le lt there ascends was =
    let rest = slots_from s (c + 1) m in
    let split : ring_from t b ++ (c, sdu) ∷ rest ≡ all = sym (ap (λ (fs : List Entry). ring_from t b ++ fs) (slots_taken s c k m sdu is there)) ∙ was in
    let up = subst (AscendFrom b) (sym split) ascends in
    let free = slot_none t b c le lt (not_stored_last b c sdu (ring_from t b) rest up) in
    ap (λ (fs : List Entry). fs ++ rest) (ring_put t b c sdu le lt free ∙ with_sdu_last b c sdu (ring_from t b) rest up)
    ∙ append_assoc (ring_from t b) ((c, sdu) ∷ []) rest ∙ split

-- RX_NEXT with one more SDU
pub past_greatest-with_sdu : (b c : ℕ) (sdu : List ℕ) (es : List Entry) → past_greatest b (with_sdu c sdu es) ≡ max (past_greatest b es) (c + 1)
past_greatest-with_sdu b c sdu [] = omega arith
past_greatest-with_sdu b c sdu (e ∷ es) =
    elim (cases_Bool (ltb c e.0)) [ inl yes' ↦ rw yes' (omega arith) | inr no' ↦ rw no' (omega (arith, past_greatest-with_sdu b c sdu es)) ]

past_greatest-base : (b c : ℕ) (es : List Entry) → b ≤ c → past_greatest c es ≡ max (past_greatest b es) c
past_greatest-base b c [] le = omega arith
past_greatest-base b c (e ∷ es) le = omega (arith, past_greatest-base b c es le)

-- RX_NEXT once the run has gone up
pub past_greatest-run : (b c : ℕ) (es : List Entry) → b ≤ c → past_greatest (c + length (run_from c es)) (drop (length (run_from c es)) es) ≡ max
    (past_greatest b es) (c + length (run_from c es))
past_greatest-run b c [] le = omega arith
past_greatest-run b c (e ∷ es) le =
    let l = length (run_from (c + 1) es) in
    elim (cases_Bool (e.0 == c)) [
      | inl yes' ↦
          let place : c + suc l ≡ c + 1 + l = omega arith in
          rw yes' (rw place (past_greatest-run b (c + 1) es (omega arith) ∙ omega (arith, eqb-true e.0 c yes')))
      | inr no' ↦ rw no' (subst (λ n. past_greatest n (e ∷ es) ≡ max (past_greatest b (e ∷ es)) n) (sym (add-zero c)) (past_greatest-base b c (e ∷ es) le))
    ]

-- so it is at the first gap
pub next_after_run : (r : RxParts) (gap : ℕ) → gap ≡ r.deliv + 1 + length (run_from (r.deliv + 1) r.stored) → past_greatest gap (drop
    (gap - r.deliv - 1) r.stored) ≡ max (past_greatest r.deliv r.stored) gap
next_after_run r gap gap_is =
    let number = length (run_from (r.deliv + 1) r.stored) in
    let is : gap - r.deliv - 1 ≡ number = omega arith in
    ap (λ n. past_greatest gap (drop n r.stored)) is ∙ ap (λ g. past_greatest g (drop number r.stored)) gap_is
    ∙ past_greatest-run r.deliv (r.deliv + 1) r.stored (omega arith) ∙ ap (λ g. max (past_greatest r.deliv r.stored) g) (sym gap_is)
