-- The slot of an SDU that is kept: what is found there, and what it leaves when it is emptied.
use Rattle.std.proofs.Common.{ℕ, zero, suc, ◌≡◌, ◌+◌, ◌^◌, ◌<◌, ◌≤◌, ◌==◌, not, true, false, List, [], ◌∷◌, Some, length, get_or, set, refl, sym, ap, ◌∙◌, subst, arith, inl, inr}
use Rattle.std.specs.List.{filter}
use Rattle.std.proofs.lemmas.Bool.{cases_Bool, eq-eqb, ne_eqb}
use Rattle.pdcp_tx.specs.Sender.{Entry, sdu_at, Rises}
use Rattle.pdcp_tx.specs.Slots.{is_live, opposite, count_at, live, slot_entries, AreSlots}
use Rattle.pdcp_tx.proofs.Entries.{without_past}
use Rattle.pdcp_tx.proofs.Marks.{live-opposite, count_at-opposite}
use Rattle.pdcp_tx.proofs.Slots.{live-rises, slot_entries-at, slot_entries-below}

-- slot i has the SDU with this COUNT
pub record Holds (next count : ℕ) (slots : List Entry) (i : ℕ) (e : Entry) : Type 0 where
  pub inside : i < length slots
  pub at : e ≡ get_or slots i e
  pub same : e.0 ≡ count
  pub live : is_live next count ≡ true

holds-rest : (next count : ℕ) (x : Entry) (slots : List Entry) (i : ℕ) (e : Entry) → Holds next count (x ∷ slots) (suc i) e → Holds next count slots i e
holds-rest next count x slots i e h = record { inside = omega (arith, h.inside); at = h.at; same = h.same; live = h.live }

holds-first : (next count : ℕ) (x : Entry) (slots : List Entry) (e : Entry) → Holds next count (x ∷ slots) 0 e → (x.0 ≡ count) × (is_live next x.0 ≡ true)
holds-first next count x slots e h =
    let same : x.0 ≡ count = ap (λ (y : Entry). y.0) (sym h.at) ∙ h.same in
    (same, rw same h.live)

-- the slots before it have lower COUNTs
holds-later : (count from next : ℕ) (x : Entry) (slots : List Entry) (i : ℕ) (e : Entry) → Rises from next (slot_entries next (x ∷ slots)) → Holds next count (x ∷ slots) (suc i) e → count_at next x.0 < count
holds-later count from next x slots i e up h =
    let later = slot_entries-at (count_at next x.0 + 1) next slots up.1 i e (omega (arith, h.inside)) in
    let here : e.0 ≡ (get_or slots i e).0 = ap (λ (y : Entry). y.0) h.at in
    let same = h.same in
    let l : count_at next x.0 + 1 ≤ count_at next count = rw (sym here ∙ same) at later in
    let m : count_at next x.0 + 1 ≤ count = rw h.live at l in
    omega arith

pub found-there : (count from next : ℕ) (slots : List Entry) (i : ℕ) (e : Entry) → Rises from next (slot_entries next slots) → Holds next count slots i e → sdu_at (live next slots) count ≡ Some e.1
found-there count from next [] i e up h = absurd (omega (arith, h.inside))
found-there count from next (x ∷ slots) zero e up h =
    let first = holds-first next count x slots e h in
    rw (first.1, eq-eqb _ _ first.0) (ap (λ (y : Entry). Some y.1) (sym h.at))
found-there count from next (x ∷ slots) (suc i) e up h =
    let lower = holds-later count from next x slots i e up h in
    let rest = found-there count (count_at next x.0 + 1) next slots i e up.1 (holds-rest next count x slots i e h) in
    elim (cases_Bool (is_live next x.0)) [
      | inl yes' ↦
          let b : x.0 < count = rw yes' at lower in
          let apart : x.0 == count ≡ false = ne_eqb _ _ (λ same. omega arith) in
          rw (yes', apart) rest
      | inr no' ↦ rw no' rest
    ]

-- its slot emptied, it is not kept, and all others are
pub live-emptied : (count from next : ℕ) (slots : List Entry) (i : ℕ) (e : Entry) → Rises from next (slot_entries next slots) → is_live next (opposite count) ≡ false → Holds next count slots i e
    → live next (set slots i (opposite count, [])) ≡ filter (λ e. not (e.0 == count)) (live next slots)
live-emptied count from next [] i e up far h = absurd (omega (arith, h.inside))
live-emptied count from next (x ∷ slots) zero e up far h =
    let first = holds-first next count x slots e h in
    let here : count_at next x.0 ≡ count = rw first.1 first.0 in
    let rises : Rises (count + 1) next (live next slots) = live-rises (count + 1) next slots (subst (λ (c : ℕ). Rises (c + 1) next (slot_entries next slots)) here up.1) in
    rw (far, first.1, eq-eqb _ _ first.0) (sym (without_past count (count + 1) next (live next slots) rises (omega arith)))
live-emptied count from next (x ∷ slots) (suc i) e up far h =
    let lower = holds-later count from next x slots i e up h in
    let rest = live-emptied count (count_at next x.0 + 1) next slots i e up.1 far (holds-rest next count x slots i e h) in
    elim (cases_Bool (is_live next x.0)) [
      | inl yes' ↦
          let b : x.0 < count = rw yes' at lower in
          let apart : x.0 == count ≡ false = ne_eqb _ _ (λ same. omega arith) in
          rw (yes', apart) (ap (λ (xs : List Entry). x ∷ xs) rest)
      | inr no' ↦ rw no' rest
    ]

pub rises-emptied : (count from next : ℕ) (slots : List Entry) (i : ℕ) (e : Entry) → Rises from next (slot_entries next slots) → count_at next (opposite count) ≡ count → Holds next count slots i e
    → Rises from next (slot_entries next (set slots i (opposite count, [])))
rises-emptied count from next [] i e up is h = absurd (omega (arith, h.inside))
rises-emptied count from next (x ∷ slots) zero e up is h =
    let first = holds-first next count x slots e h in
    let here : count_at next x.0 ≡ count_at next (opposite count) = (rw first.1 first.0) ∙ sym is in
    subst (λ (c : ℕ). (from ≤ c) × Rises (c + 1) next (slot_entries next slots)) here up
rises-emptied count from next (x ∷ slots) (suc i) e up is h =
    (up.0, rises-emptied count (count_at next x.0 + 1) next slots i e up.1 is (holds-rest next count x slots i e h))

-- the COUNT of an SDU that is kept is near next
holds-near : (next count : ℕ) (slots : List Entry) (i : ℕ) (e : Entry) → AreSlots next slots → Holds next count slots i e → (count < next) × (next ≤ count + 2 ^ 17)
holds-near next count slots i e are h =
    let near = are.near in
    let inside = h.inside in
    let here : (get_or slots i e).0 ≡ count = ap (λ (y : Entry). y.0) (sym h.at) ∙ h.same in
    let is : count_at next (get_or slots i e).0 ≡ count = rw (here, h.live) refl in
    let low = slot_entries-at are.from next slots are.rises i e inside in
    let high = slot_entries-below are.from next slots are.rises i e inside in
    (omega (arith, is, low, high), omega (arith, is, low, high))

pub emptied-live : (next count : ℕ) (slots : List Entry) (i : ℕ) (e : Entry) → AreSlots next slots → next < 2 ^ 32 → Holds next count slots i e
    → live next (set slots i (opposite count, [])) ≡ filter (λ e. not (e.0 == count)) (live next slots)
emptied-live next count slots i e are fits h =
    let near = holds-near next count slots i e are h in
    live-emptied count are.from next slots i e are.rises (live-opposite next count near.0 near.1 fits) h

pub emptied-slots : (next count : ℕ) (slots : List Entry) (i : ℕ) (e : Entry) → AreSlots next slots → next < 2 ^ 32 → Holds next count slots i e → AreSlots next (set slots i (opposite count, []))
emptied-slots next count slots i e are fits h =
    let near = holds-near next count slots i e are h in
    record { from = are.from; near = are.near; rises = rises-emptied count are.from next slots i e are.rises (count_at-opposite next count near.0 near.1 fits) h }

pub emptied-far : (next count : ℕ) (slots : List Entry) (i : ℕ) (e : Entry) → AreSlots next slots → next < 2 ^ 32 → Holds next count slots i e → is_live next (opposite count) ≡ false
emptied-far next count slots i e are fits h = let near = holds-near next count slots i e are h in live-opposite next count near.0 near.1 fits
