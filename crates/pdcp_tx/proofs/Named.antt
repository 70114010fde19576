-- What a status report names among the slots.
use Rattle.std.proofs.Common.{ℕ, suc, ◌≡◌, ◌-◌, ◌^◌, ◌<◌, ◌≤◌, ◌==◌, cond, not, true, false, List, [], ◌∷◌, length, get_or, refl, ap, ◌∙◌, arith, inl, inr}
use Rattle.std.specs.List.{filter}
use Rattle.std.proofs.lemmas.Bool.{cases_Bool, eqb-true, and_left}
use Rattle.pdcp_pdu.specs.Bitmap.{names}
use Rattle.pdcp_tx.specs.Sender.{Entry}
use Rattle.pdcp_tx.specs.Slots.{is_live, count_at, live, is_due}

-- to confirm one that the report names takes nothing from the others
pub named-without : (fmc : ℕ) (bits : List ℕ) (count : ℕ) (es : List Entry) → names fmc bits count ≡ true
    → filter (λ e. not (names fmc bits e.0)) (filter (λ e. not (e.0 == count)) es) ≡ filter (λ e. not (names fmc bits e.0)) es
named-without fmc bits count [] named = refl
named-without fmc bits count (e ∷ es) named =
    elim (cases_Bool (e.0 == count)) [
      | inl yes' ↦
          let here : names fmc bits e.0 ≡ true = ap (names fmc bits) (eqb-true _ _ yes') ∙ named in
          rw (yes', here) (named-without fmc bits count es named)
      | inr no' ↦
          let rest = named-without fmc bits count es named in
          rw no' (ap (λ (xs : List Entry). cond (not (names fmc bits e.0)) (e ∷ xs) xs) rest)
    ]

-- where the report names none that is kept it takes nothing away
pub none-due : (next fmc : ℕ) (bits : List ℕ) (slots : List Entry) → ((k : ℕ) (d : Entry) → k < length slots → is_due next fmc bits (get_or slots k d).0 ≡ false)
    → filter (λ e. not (names fmc bits e.0)) (live next slots) ≡ live next slots
none-due next fmc bits [] none = refl
none-due next fmc bits (e ∷ slots) none =
    let rest = none-due next fmc bits slots (λ k d inside. none (suc k) d (omega arith)) in
    let here = none 0 e (omega arith) in
    elim (cases_Bool (is_live next e.0)) [
      | inl yes' ↦
          let not_named : names fmc bits e.0 ≡ false = rw yes' at here in
          rw (yes', not_named) (ap (λ (xs : List Entry). e ∷ xs) rest)
      | inr no' ↦ rw no' rest
    ]

-- past its last COUNT a report names none
pub due-past : (next fmc : ℕ) (bits : List ℕ) (count mark : ℕ) → ((c : ℕ) → count ≤ c → c < 2 ^ 32 - 1 → names fmc bits c ≡ false) → next < 2 ^ 32 → count ≤ count_at next mark → count_at next mark < next
    → is_due next fmc bits mark ≡ false
due-past next fmc bits count mark past fits le below =
    elim (cases_Bool (is_live next mark)) [
      | inl yes' ↦
          let l : count ≤ mark = rw yes' at le in
          let b : mark < next = rw yes' at below in
          rw yes' (past mark l (omega arith))
      | inr no' ↦ and_left _ _ no'
    ]
