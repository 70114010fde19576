-- Slots for new COUNTs.
use Rattle.std.proofs.Common.{ℕ, ◌≡◌, ◌+◌, ◌^◌, ◌<◌, ◌≤◌, false, List, [], ◌∷◌, ◌++◌, length, refl, ap, arith, inl, inr}
use Rattle.std.specs.List.{enumerate_from}
use Rattle.std.proofs.lemmas.Bool.{cases_Bool}
use Rattle.dc_base.specs.declared.numbers.SnLen.{SnLen}
use Rattle.dc_base.specs.declared.numbers.SnLen.TheVariants.{S12, S18}
use Rattle.dc_base.specs.Count.{window}
use Rattle.pdcp_tx.specs.Sender.{Entry, least, Rises, InWindow}
use Rattle.pdcp_tx.specs.Slots.{is_live, count_at, live, slot_entries, begins_empty, IsSlotQueue}
use Rattle.pdcp_tx.proofs.Entries.{Rises-bounds, Rises-enumerated, enumerated, in_window-enumerated}
use Rattle.pdcp_tx.proofs.Marks.{live-near, live-later}
use Rattle.pdcp_tx.proofs.Slots.{slot_entries-least, begins-live}

window-near : (n : SnLen) → window n ≤ 2 ^ 17
unfolding window
window-near S12 = omega arith
window-near S18 = omega arith

-- ---- COUNTs near next are all there

pub live-all : (from next : ℕ) (es : List Entry) → Rises from next es → next ≤ from + 2 ^ 17 → live next es ≡ es
live-all from next [] up near = refl
live-all from next (e ∷ es) up near =
    let rest = Rises-bounds (e.0 + 1) next es up.1 in
    let here = live-near next e.0 (omega (arith, rest.0, rest.1)) (omega (arith, up.0)) in
    rw here (ap (λ (xs : List Entry). e ∷ xs) (live-all (e.0 + 1) next es up.1 (omega (arith, up.0))))

slot_entries-all : (from next : ℕ) (es : List Entry) → Rises from next es → next ≤ from + 2 ^ 17 → slot_entries next es ≡ es
slot_entries-all from next [] up near = refl
slot_entries-all from next (e ∷ es) up near =
    let rest = Rises-bounds (e.0 + 1) next es up.1 in
    let here = live-near next e.0 (omega (arith, rest.0, rest.1)) (omega (arith, up.0)) in
    rw here (ap (λ (xs : List Entry). e ∷ xs) (slot_entries-all (e.0 + 1) next es up.1 (omega (arith, up.0))))

begins-all : (from next : ℕ) (es : List Entry) → Rises from next es → next ≤ from + 2 ^ 17 → begins_empty next es ≡ false
begins-all from next [] up near = refl
begins-all from next (e ∷ es) up near =
    let rest = Rises-bounds (e.0 + 1) next es up.1 in
    rw (live-near next e.0 (omega (arith, rest.0, rest.1)) (omega (arith, up.0))) refl

pub live-in_window : (n : SnLen) (next : ℕ) (es : List Entry) → InWindow n next es → live next es ≡ es
live-in_window n next es w =
    let near = w.near in
    let wide = window-near n in
    live-all w.from next es w.rises (omega arith)

pub kept-in_window : (n : SnLen) (next : ℕ) (es : List Entry) → InWindow n next es → IsSlotQueue n next es
kept-in_window n next es w =
    let near = w.near in
    let wide = window-near n in
    let n' : next ≤ w.from + 2 ^ 17 = omega arith in
    record {
      window = rw (live-all w.from next es w.rises n') w;
      slots = record { from = w.from; near = n'; rises = rw (slot_entries-all w.from next es w.rises n') w.rises };
      begins = begins-all w.from next es w.rises n';
    }

-- ---- more, from the next COUNT on

live-grows : (from next : ℕ) (slots : List Entry) (sdus : List (List ℕ)) → Rises from next (slot_entries next slots) → next + length sdus ≤ from + 2 ^ 17
    → live (next + length sdus) (slots ++ enumerate_from next sdus) ≡ live next slots ++ enumerate_from next sdus
live-grows from next [] sdus up room = live-all next (next + length sdus) (enumerate_from next sdus) (enumerated next next sdus (omega arith)) (omega (arith, up))
live-grows from next (e ∷ slots) sdus up room =
    let bounds = Rises-bounds (count_at next e.0 + 1) next (slot_entries next slots) up.1 in
    let stays = live-later next (next + length sdus) e.0 (omega (arith, bounds.0, bounds.1)) (omega arith) (omega (arith, up.0)) in
    let rest = live-grows (count_at next e.0 + 1) next slots sdus up.1 (omega (arith, up.0)) in
    elim (cases_Bool (is_live next e.0)) [
      | inl yes' ↦ rw (stays, yes') (ap (λ (xs : List Entry). e ∷ xs) rest)
      | inr no' ↦ rw (stays, no') rest
    ]

slot_entries-grows : (from next : ℕ) (slots : List Entry) (sdus : List (List ℕ)) → Rises from next (slot_entries next slots) → next + length sdus ≤ from + 2 ^ 17
    → slot_entries (next + length sdus) (slots ++ enumerate_from next sdus) ≡ slot_entries next slots ++ enumerate_from next sdus
slot_entries-grows from next [] sdus up room = slot_entries-all next (next + length sdus) (enumerate_from next sdus) (enumerated next next sdus (omega arith)) (omega (arith, up))
slot_entries-grows from next (e ∷ slots) sdus up room =
    let bounds = Rises-bounds (count_at next e.0 + 1) next (slot_entries next slots) up.1 in
    let stays = live-later next (next + length sdus) e.0 (omega (arith, bounds.0, bounds.1)) (omega arith) (omega (arith, up.0)) in
    rw stays (ap (λ (xs : List Entry). (count_at next e.0, e.1) ∷ xs) (slot_entries-grows (count_at next e.0 + 1) next slots sdus up.1 (omega (arith, up.0))))

begins-grows : (from next : ℕ) (slots : List Entry) (sdus : List (List ℕ)) → Rises from next (slot_entries next slots) → next + length sdus ≤ from + 2 ^ 17 → begins_empty next slots ≡ false
    → begins_empty (next + length sdus) (slots ++ enumerate_from next sdus) ≡ false
begins-grows from next [] sdus up room begins = begins-all next (next + length sdus) (enumerate_from next sdus) (enumerated next next sdus (omega arith)) (omega (arith, up))
begins-grows from next (e ∷ slots) sdus up room begins =
    let bounds = Rises-bounds (count_at next e.0 + 1) next (slot_entries next slots) up.1 in
    let stays = live-later next (next + length sdus) e.0 (omega (arith, bounds.0, bounds.1)) (omega arith) (omega (arith, up.0)) in
    rw (stays, begins-live next e slots begins) refl

pub live-grown : (n : SnLen) (next : ℕ) (slots : List Entry) (sdus : List (List ℕ)) → IsSlotQueue n next slots → next + length sdus ≤ least next (live next slots) + window n
    → live (next + length sdus) (slots ++ enumerate_from next sdus) ≡ live next slots ++ enumerate_from next sdus
live-grown n next slots sdus k room =
    let wide = window-near n in
    live-grows (least next (live next slots)) next slots sdus (slot_entries-least k.slots.from next slots k.slots.rises k.begins) (omega arith)

pub kept-grown : (n : SnLen) (next : ℕ) (slots : List Entry) (sdus : List (List ℕ)) → IsSlotQueue n next slots → next + length sdus ≤ least next (live next slots) + window n
    → IsSlotQueue n (next + length sdus) (slots ++ enumerate_from next sdus)
kept-grown n next slots sdus k room =
    let wide = window-near n in
    let low = least next (live next slots) in
    let up = slot_entries-least k.slots.from next slots k.slots.rises k.begins in
    let near : next + length sdus ≤ low + 2 ^ 17 = omega arith in
    record {
      window = rw (live-grows low next slots sdus up near) (in_window-enumerated n next (live next slots) sdus k.window room);
      slots = record { from = low; near = near; rises = rw (slot_entries-grows low next slots sdus up near) (Rises-enumerated low next (slot_entries next slots) sdus up) };
      begins = begins-grows low next slots sdus up near k.begins;
    }

-- one more
pub live-take_sdu : (n : SnLen) (next : ℕ) (slots : List Entry) (sdu : List ℕ) → IsSlotQueue n next slots → next < least next (live next slots) + window n
    → live (next + 1) (slots ++ (next, sdu) ∷ []) ≡ live next slots ++ (next, sdu) ∷ []
live-take_sdu n next slots sdu k room = live-grown n next slots (sdu ∷ []) k (omega arith)

pub kept-take_sdu : (n : SnLen) (next : ℕ) (slots : List Entry) (sdu : List ℕ) → IsSlotQueue n next slots → next < least next (live next slots) + window n
    → IsSlotQueue n (next + 1) (slots ++ (next, sdu) ∷ [])
kept-take_sdu n next slots sdu k room = kept-grown n next slots (sdu ∷ []) k (omega arith)
