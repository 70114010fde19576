-- The laws of the ring: what a slot that is filled or freed changes, and where the ring may begin.
use Rattle.std.proofs.Common.{ℕ, zero, suc, ◌≡◌, ◌≢◌, ◌+◌, ◌/◌, ◌%◌, ◌<◌, ◌≤◌, false, Option, Some, None, List, [], ◌∷◌, ◌++◌, length, get_or, refl, sym, ap, ◌∙◌, add-zero, zero-add, append-nil, add-one, arith, inl, inr, get_or-set_same, get_or-set_other}
use Rattle.std.proofs.Math.Nat.{div-add-mod, mul-le-mul_left, add-mod_right}
use Rattle.std.proofs.Math.ListN.{set, length-set}
use Rattle.std.specs.Option.{is_some}
use Rattle.std.proofs.lemmas.Bool.Decides.{nat_tests}
use Rattle.std.proofs.lemmas.Bool.{cases_lt}
use Rattle.pdcp_rx.specs.Entries.{Entry, AscendFrom, is_stored, with_sdu}
use Rattle.pdcp_rx.specs.Ring.{Slots, slot_of, before, slots_from, ring_from}
use Rattle.pdcp_rx.proofs.Entries.{AscendFrom-weaker, stored_below, with_sdu_first}

-- two COUNTs that are fewer than m apart have slots of their own
pub mod_apart : (m c d : ℕ) → c < d → d < c + m → c % m ≢ d % m
mod_apart m c d lt near same =
    let one = div-add-mod c m in
    let other = div-add-mod d m in
    elim (cases_lt (c / m) (d / m)) [
      | inl below ↦ absurd (omega (arith, mul-le-mul_left m below))
      | inr above ↦ absurd (omega
          (arith, mul-le-mul_left m above))
    ]

pub slot_of-set_other : (s : Slots) (c d : ℕ) (x : Option (List ℕ)) → c % length s ≢ d % length s → slot_of (set s (d % length s) x) c ≡ slot_of s c
slot_of-set_other s c d x ne = rw length-set (rw get_or-set_other refl)

pub slot_of-set_same : (s : Slots) (d : ℕ) (x : Option (List ℕ)) → 0 < length s → slot_of (set s (d % length s) x) d ≡ x
slot_of-set_same s d x some' =
    let lt : d % length s < length s = omega arith in
    rw length-set (rw get_or-set_same refl)

-- slots that hold the same for each of these COUNTs
pub slots_same : (s t : Slots) (c k : ℕ) → ((e : ℕ) → c ≤ e → e < c + k → slot_of s e ≡ slot_of t e) → slots_from s c k ≡ slots_from t c k
slots_same s t c zero same = refl
slots_same s t c (suc k) same =
    ap (λ x. before c x (slots_from s (c + 1) k)) (same c (omega arith) (omega arith))
    ∙ ap (λ es. before c (slot_of t c) es) (slots_same s t (c + 1) k (λ e le lt. same e (omega arith) (omega arith)))

before-append : (c : ℕ) (x : Option (List ℕ)) (es fs : List Entry) → before c x (es ++ fs) ≡ before c x es ++ fs
before-append c None es fs = refl
before-append c (Some sdu) es fs = refl

pub slots_append : (s : Slots) (c j k : ℕ) → slots_from s c (j + k) ≡ slots_from s c j ++ slots_from s (c + j) k
slots_append s c zero k = rw (zero-add, add-zero) refl
slots_append s c (suc j) k =
    let more : suc j + k ≡ suc (j + k) = omega arith in
    let place : c + 1 + j ≡ c + suc j = omega arith in
    rw more
    (ap (λ es. before c (slot_of s c) es) (slots_append s (c + 1) j k)
    ∙ before-append c (slot_of s c) (slots_from s (c + 1) j) (slots_from s (c + 1 + j) k)
    ∙ ap (λ b. before c (slot_of s c) (slots_from s (c + 1) j) ++ slots_from s b k) place)

-- the last of the slots is that of the last COUNT
slots_last : (s : Slots) (c k : ℕ) → slots_from s c (suc k) ≡ slots_from s c k ++ before (c + k) (slot_of s (c + k)) []
slots_last s c k = ap (λ n. slots_from s c n) (sym (add-one k)) ∙ slots_append s c k 1

-- one round later, a COUNT has the same slot
slot_of-round : (s : Slots) (c d : ℕ) → d ≡ c + length s → slot_of s d ≡ slot_of s c
slot_of-round s c d is = ap (λ i. get_or s i None) (ap (λ e. e % length s) is ∙ add-mod_right c (length s))

before_ascends : (b c : ℕ) (x : Option (List ℕ)) (es : List Entry) → b ≤ c → AscendFrom (c + 1) es → AscendFrom b (before c x es)
before_ascends b c None es le ascends = AscendFrom-weaker b (c + 1) es (omega arith) ascends
before_ascends b c (Some sdu) es le ascends = (le, ascends)

pub slots_ascend : (s : Slots) (b c k : ℕ) → b ≤ c → AscendFrom b (slots_from s c k)
slots_ascend s b c zero le = tt
slots_ascend s b c (suc k) le = before_ascends b c (slot_of s c) (slots_from s (c + 1) k) le (slots_ascend s (c + 1) (c + 1) k (omega arith))

append_none : (es : List Entry) (c : ℕ) (x : Option (List ℕ)) → x ≡ None → es ++ before c x [] ≡ es
append_none es c x none = rw none (append-nil es)

passed_by : (s : Slots) (c k : ℕ) → k ≡ length s → slot_of s c ≡ None → slots_from s c k ≡ slots_from s (c + 1) k
passed_by s c zero is free = refl
passed_by s c (suc k) is free =
    ap (λ x. before c x (slots_from s (c + 1) k)) free
    ∙ sym (slots_last s (c + 1) k ∙ append_none (slots_from s (c + 1) k) (c + 1 + k) (slot_of s (c + 1 + k)) (slot_of-round s c (c + 1 + k) (omega arith)
    ∙ free))

-- a ring that begins one later, where the first slot is free
pub ring_passed : (s : Slots) (c : ℕ) → slot_of s c ≡ None → ring_from s c ≡ ring_from s (c + 1)
ring_passed s c free = passed_by s c (length s) refl free

taken_by : (s : Slots) (c k : ℕ) (sdu : List ℕ) → k ≡ length s → 0 < k → slot_of s c ≡ Some sdu → slots_from s c k ≡ (c, sdu) ∷ slots_from (set s
    (c % length s) None) (c + 1) k
taken_by s c zero sdu is some' there = absurd (omega arith)
taken_by s c (suc k) sdu is some' there =
    let t = set s (c % length s) None in
    let len : length t ≡ length s = length-set s (c % length s) None in
    let rest : slots_from t (c + 1) k ≡ slots_from s (c + 1) k =
    slots_same t s (c + 1) k (λ e le lt. slot_of-set_other s e c None (λ same. mod_apart (length s) c e (omega arith) (omega arith) (sym same))) in
    let last : slot_of t (c + 1 + k) ≡ None = slot_of-round t c (c + 1 + k) (omega arith) ∙ slot_of-set_same s c None (omega arith) in
    ap (λ x. before c x (slots_from s (c + 1) k)) there
    ∙ ap (λ (es : List Entry). (c, sdu) ∷ es) (sym (slots_last t (c + 1) k ∙ append_none (slots_from t (c + 1) k) (c + 1 + k) (slot_of t
    (c + 1 + k)) last ∙ rest))

-- the first SDU leaves its slot, and the ring begins one later
pub ring_taken : (s : Slots) (c : ℕ) (sdu : List ℕ) → 0 < length s → slot_of s c ≡ Some sdu → ring_from s c ≡ (c, sdu) ∷ ring_from (set s
    (c % length s) None) (c + 1)
ring_taken s c sdu some' there =
    taken_by s c (length s) sdu refl some' there
    ∙ ap (λ k. (c, sdu) ∷ slots_from (set s (c % length s) None) (c + 1) k) (sym (length-set s (c % length s) None))

before-with_sdu : (c d : ℕ) (sdu : List ℕ) (x : Option (List ℕ)) (es : List Entry) → c < d → before c x (with_sdu d sdu es) ≡ with_sdu d sdu (before c x es)
before-with_sdu c d sdu None es lt = refl
before-with_sdu c d sdu (Some y) es lt = grind (arith, nat_tests)

-- an SDU comes into its slot, which was free
pub slots_put : (s : Slots) (c d k : ℕ) (sdu : List ℕ) → c ≤ d → d < c + k → k ≤ length s → slot_of s d ≡ None → slots_from (set s (d % length s)
    (Some sdu)) c k ≡ with_sdu d sdu (slots_from s c k)
slots_put s c d zero sdu le lt fit free = absurd (omega arith)
slots_put s c d (suc k) sdu le lt fit free =
    let t = set s (d % length s) (Some sdu) in
    elim (cases_lt c d) [
      | inl below ↦
          ap (λ x. before c x (slots_from t (c + 1) k)) (slot_of-set_other s c d (Some sdu) (mod_apart (length s) c d below (omega arith)))
          ∙ ap (λ es. before c (slot_of s c) es) (slots_put s (c + 1) d k sdu (omega arith) (omega arith) (omega arith) free)
          ∙ before-with_sdu c d sdu (slot_of s c) (slots_from s (c + 1) k) below
      | inr above ↦
          let is : d ≡ c = omega arith in
          let here : slot_of t c ≡ Some sdu = ap (λ e. slot_of t e) (sym is) ∙ slot_of-set_same s d (Some sdu) (omega arith) in
          let was : slot_of s c ≡ None = ap (λ e. slot_of s e) (sym is) ∙ free in
          let rest : slots_from t (c + 1) k ≡ slots_from s (c + 1) k =
          slots_same t s (c + 1) k (λ e le' lt'. slot_of-set_other s e d (Some sdu) (λ same. mod_apart (length s) d e (omega arith) (omega arith)
          (sym same))) in
          let first : with_sdu c sdu (slots_from s (c + 1) k) ≡ (c, sdu) ∷ slots_from s (c + 1) k = with_sdu_first c sdu (slots_from s (c + 1) k)
          (slots_ascend s (c + 1) (c + 1) k (omega arith)) in
          ap (λ x. before c x (slots_from t (c + 1) k)) here ∙ ap (λ (es : List Entry). (c, sdu) ∷ es) rest ∙ sym first
          ∙ ap (λ e. with_sdu e sdu (slots_from s (c + 1) k)) (sym is) ∙ ap (λ x. with_sdu d sdu (before c x (slots_from s (c + 1) k))) (sym was)
    ]

stored_before : (c d : ℕ) (x : Option (List ℕ)) (es : List Entry) → c < d → is_stored d (before c x es) ≡ is_stored d es
stored_before c d None es lt = refl
stored_before c d (Some sdu) es lt = grind (arith, nat_tests)

stored_here : (c d : ℕ) (x : Option (List ℕ)) (es : List Entry) → d ≡ c → AscendFrom (c + 1) es → is_stored d (before c x es) ≡ is_some x
stored_here c d None es is ascends = stored_below (c + 1) d es ascends (omega arith)
stored_here c d (Some sdu) es is ascends = grind (arith, nat_tests)

-- whether a COUNT is stored is whether its slot is taken
pub stored_slot : (s : Slots) (c d k : ℕ) → c ≤ d → d < c + k → is_stored d (slots_from s c k) ≡ is_some (slot_of s d)
stored_slot s c d zero le lt = absurd (omega arith)
stored_slot s c d (suc k) le lt =
    elim (cases_lt c d) [
      | inl below ↦ stored_before c d (slot_of s c) (slots_from s (c + 1) k) below ∙ stored_slot s (c + 1) d k (omega arith) (omega arith)
      | inr above ↦
          let is : d ≡ c = omega arith in
          stored_here c d (slot_of s c) (slots_from s (c + 1) k) is (slots_ascend s (c + 1) (c + 1) k (omega arith)) ∙ ap (λ e. is_some (slot_of s e)) (sym is)
    ]

-- a COUNT past the ring is not stored
pub stored_past : (s : Slots) (c d k : ℕ) → c + k ≤ d → is_stored d (slots_from s c k) ≡ false
stored_past s c d zero le = refl
stored_past s c d (suc k) le = stored_before c d (slot_of s c) (slots_from s (c + 1) k) (omega arith) ∙ stored_past s (c + 1) d k (omega arith)
