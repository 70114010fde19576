-- Slots under their COUNTs: the first, the place of a COUNT, and what is not kept.
use Rattle.std.proofs.Common.{ℕ, zero, suc, ◌≡◌, ◌+◌, ◌<◌, ◌≤◌, ◌==◌, not, true, false, List, [], ◌∷◌, None, length, get_or, drop, refl, sym, ap, ◌∙◌, subst, arith, inl, inr}
use Rattle.std.specs.List.{filter}
use Rattle.std.specs.List.Sorted.{IsNonDecreasingBy}
use Rattle.std.proofs.lemmas.Bool.{cases_Bool, ltb-true, ltb-false, ne_eqb}
use Rattle.pdcp_tx.specs.Sender.{Entry, least, is_kept, sdu_at, Rises}
use Rattle.pdcp_tx.specs.Slots.{is_live, count_at, live, slot_entries, AreSlots, begins_empty, IsSlotPlace}
use Rattle.pdcp_tx.proofs.Entries.{Rises-weaker, Rises-bounds, least-first}

-- the SDUs that are there rise as the slots do
pub live-rises : (from next : ℕ) (slots : List Entry) → Rises from next (slot_entries next slots) → Rises from next (live next slots)
live-rises from next [] up = up
live-rises from next (e ∷ slots) up =
    elim (cases_Bool (is_live next e.0)) [
      | inl yes' ↦
          let here : count_at next e.0 ≡ e.0 = rw yes' refl in
          let rest : Rises (e.0 + 1) next (slot_entries next slots) = subst (λ (k : ℕ). Rises (k + 1) next (slot_entries next slots)) here up.1 in
          rw yes' (omega (arith, up.0, here), live-rises (e.0 + 1) next slots rest)
      | inr no' ↦ rw no' (Rises-weaker from (count_at next e.0 + 1) next (live next slots) (omega (arith, up.0)) (live-rises (count_at next e.0 + 1) next slots up.1))
    ]

-- later slots have later COUNTs
pub slot_entries-at : (from next : ℕ) (slots : List Entry) → Rises from next (slot_entries next slots) → (i : ℕ) (d : Entry) → i < length slots → from ≤ count_at next (get_or slots i d).0
slot_entries-at from next [] up i d inside = absurd (omega arith)
slot_entries-at from next (e ∷ slots) up zero d inside = up.0
slot_entries-at from next (e ∷ slots) up (suc i) d inside =
    let later = slot_entries-at (count_at next e.0 + 1) next slots up.1 i d (omega arith) in omega (arith, up.0)

pub slot_entries-below : (from next : ℕ) (slots : List Entry) → Rises from next (slot_entries next slots) → (i : ℕ) (d : Entry) → i < length slots → count_at next (get_or slots i d).0 < next
slot_entries-below from next [] up i d inside = absurd (omega arith)
slot_entries-below from next (e ∷ slots) up zero d inside = let rest = Rises-bounds (count_at next e.0 + 1) next (slot_entries next slots) up.1 in omega (arith, rest.0, rest.1)
slot_entries-below from next (e ∷ slots) up (suc i) d inside = slot_entries-below (count_at next e.0 + 1) next slots up.1 i d (omega arith)

pub non_decreasing : (from next : ℕ) (slots : List Entry) → Rises from next (slot_entries next slots) → IsNonDecreasingBy (λ (e : Entry). count_at next e.0) slots
non_decreasing from next [] up i j d le inside = absurd (omega arith)
non_decreasing from next (e ∷ slots) up zero zero d le inside = omega arith
non_decreasing from next (e ∷ slots) up zero (suc j) d le inside = let later = slot_entries-at (count_at next e.0 + 1) next slots up.1 j d (omega arith) in omega arith
non_decreasing from next (e ∷ slots) up (suc i) zero d le inside = absurd (omega arith)
non_decreasing from next (e ∷ slots) up (suc i) (suc j) d le inside = non_decreasing (count_at next e.0 + 1) next slots up.1 i j d (omega arith) (omega arith)

pub begins-live : (next : ℕ) (e : Entry) (slots : List Entry) → begins_empty next (e ∷ slots) ≡ false → is_live next e.0 ≡ true
begins-live next e slots begins =
    elim (cases_Bool (is_live next e.0)) [
      | inl yes' ↦ yes'
      | inr no' ↦ let wrong : true ≡ false = rw no' at begins in absurd (cc (wrong))
    ]

-- the first slot has the least COUNT
pub slot_entries-least : (from next : ℕ) (slots : List Entry) → Rises from next (slot_entries next slots) → begins_empty next slots ≡ false → Rises (least next (live next slots)) next (slot_entries next slots)
slot_entries-least from next [] up begins = omega arith
slot_entries-least from next (e ∷ slots) up begins =
    let here = begins-live next e slots begins in
    let rises : Rises from next (e ∷ live next slots) = rw here at (live-rises from next (e ∷ slots) up) in
    let first = least-first from next e (live next slots) rises in
    rw here (omega (arith, first), rw here at up.1)

pub least-front : (next : ℕ) (slots : List Entry) (e : Entry) → AreSlots next slots → begins_empty next slots ≡ false → 0 < length slots → e ≡ get_or slots 0 e → e.0 ≡ least next (live next slots)
least-front next [] e are begins some is = absurd (omega arith)
least-front next (x ∷ slots) e are begins some is =
    let here = begins-live next x slots begins in
    let rises : Rises are.from next (x ∷ live next slots) = rw here at (live-rises are.from next (x ∷ slots) are.rises) in
    rw here (ap (λ (y : Entry). y.0) is ∙ sym (least-first are.from next x (live next slots) rises))

-- ---- the place of a COUNT

place-rest : (next count : ℕ) (e : Entry) (slots : List Entry) (i : ℕ) → IsSlotPlace next count (e ∷ slots) (suc i) → IsSlotPlace next count slots i
place-rest next count e slots i at = (λ k d low high. at.0 (suc k) d (omega arith) (omega arith), λ k d low high. at.1 (suc k) d (omega arith) (omega arith))

kept-past : (count from next : ℕ) (es : List Entry) → Rises from next es → count < from → is_kept es count ≡ false
kept-past count from next [] up past = refl
kept-past count from next (e ∷ es) up past =
    let apart : e.0 == count ≡ false = ne_eqb _ _ (λ same. omega (arith, up.0)) in
    rw apart (kept-past count (e.0 + 1) next es up.1 (omega (arith, up.0)))

-- the COUNT is not at its place: it is not kept
pub kept-place : (count from next : ℕ) (slots : List Entry) (i : ℕ) → Rises from next (slot_entries next slots) → IsSlotPlace next count slots i
    → ((d : Entry) → i < length slots → (get_or slots i d).0 ≡ count → is_live next count ≡ true → ⊥) → is_kept (live next slots) count ≡ false
kept-place count from next [] i up at other = refl
kept-place count from next (x ∷ slots) zero up at other =
    let above : count ≤ count_at next x.0 = ltb-false _ _ (at.1 0 x (omega arith) (omega arith)) in
    let rest = kept-past count (count_at next x.0 + 1) next (live next slots) (live-rises (count_at next x.0 + 1) next slots up.1) (omega arith) in
    elim (cases_Bool (is_live next x.0)) [
      | inl yes' ↦
          let apart : x.0 == count ≡ false = ne_eqb _ _ (λ same. other x (omega arith) same (subst (λ (c : ℕ). is_live next c ≡ true) same yes')) in
          rw (yes', apart) rest
      | inr no' ↦ rw no' rest
    ]
kept-place count from next (x ∷ slots) (suc i) up at other =
    let below : count_at next x.0 < count = ltb-true _ _ (at.0 0 x (omega arith) (omega arith)) in
    let rest = kept-place count (count_at next x.0 + 1) next slots i up.1 (place-rest next count x slots i at) (λ d inside. other d (omega arith)) in
    elim (cases_Bool (is_live next x.0)) [
      | inl yes' ↦
          let b : x.0 < count = rw yes' at below in
          let apart : x.0 == count ≡ false = ne_eqb _ _ (λ same. omega arith) in
          rw (yes', apart) rest
      | inr no' ↦ rw no' rest
    ]

-- what is not kept is not found
pub sdu_at-not_kept : (count : ℕ) (es : List Entry) → is_kept es count ≡ false → sdu_at es count ≡ None
sdu_at-not_kept count [] none = refl
sdu_at-not_kept count (e ∷ es) none =
    elim (cases_Bool (e.0 == count)) [
      | inl yes' ↦ let wrong : true ≡ false = rw yes' at none in absurd (cc (wrong))
      | inr no' ↦ rw no' (sdu_at-not_kept count es (rw no' at none))
    ]

-- and its confirmation takes nothing away
pub without-not_kept : (count : ℕ) (es : List Entry) → is_kept es count ≡ false → filter (λ e. not (e.0 == count)) es ≡ es
without-not_kept count [] none = refl
without-not_kept count (e ∷ es) none =
    elim (cases_Bool (e.0 == count)) [
      | inl yes' ↦ let wrong : true ≡ false = rw yes' at none in absurd (cc (wrong))
      | inr no' ↦ rw no' (ap (λ (xs : List Entry). e ∷ xs) (without-not_kept count es (rw no' at none)))
    ]

-- ---- empty slots in front

pub live-rest : (next : ℕ) (slots : List Entry) → begins_empty next slots ≡ true → live next (drop 1 slots) ≡ live next slots
live-rest next [] begins = refl
live-rest next (e ∷ slots) begins =
    elim (cases_Bool (is_live next e.0)) [
      | inl yes' ↦ let wrong : false ≡ true = rw yes' at begins in absurd (cc (wrong))
      | inr no' ↦ rw no' refl
    ]

pub slots-rest : (next : ℕ) (slots : List Entry) → AreSlots next slots → AreSlots next (drop 1 slots)
slots-rest next [] are = are
slots-rest next (e ∷ slots) are =
    record { from = are.from; near = are.near; rises = Rises-weaker are.from (count_at next e.0 + 1) next (slot_entries next slots) (omega (arith, are.rises.0)) are.rises.1 }

pub begins-some : (next : ℕ) (slots : List Entry) → begins_empty next slots ≡ true → 0 < length slots
begins-some next [] begins = absurd (cc (begins))
begins-some next (e ∷ slots) begins = omega arith
