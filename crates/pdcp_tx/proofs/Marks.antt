-- Marks of slots: which stand for an SDU that is there, and what they are for as next rises.
use Rattle.std.proofs.Common.{ℕ, ◌≡◌, ◌+◌, ◌-◌, ◌^◌, ◌<◌, ◌≤◌, ltb, true, false, sym, ◌∙◌, arith, inl, inr}
use Rattle.std.proofs.lemmas.Bool.{cases_Bool, cases_lt, lt-ltb, le-ltb}
use Rattle.pdcp_tx.specs.Slots.{is_live, opposite, count_at}

-- a COUNT near next marks a slot that has its SDU
pub live-near : (next count : ℕ) → count < next → next ≤ count + 2 ^ 17 → is_live next count ≡ true
unfolding is_live
live-near next count below near = lt-ltb _ _ (omega arith)

-- the mark of an empty slot is far from next
pub live-far : (next mark : ℕ) → opposite mark < next → next ≤ opposite mark + 2 ^ 17 → is_live next mark ≡ false
unfolding is_live opposite
live-far next mark below near =
    elim (cases_lt mark (2 ^ 31)) [
      | inl low ↦
          let b : mark + 2 ^ 31 < next = rw (lt-ltb _ _ low) at below in
          le-ltb _ _ (omega arith)
      | inr high ↦
          let b : mark - 2 ^ 31 < next = rw (le-ltb _ _ high) at below in
          let n : next ≤ mark - 2 ^ 31 + 2 ^ 17 = rw (le-ltb _ _ high) at near in
          le-ltb _ _ (omega arith)
    ]

pub opposite-opposite : (count : ℕ) → count < 2 ^ 32 → opposite (opposite count) ≡ count
unfolding opposite
opposite-opposite count fits =
    elim (cases_lt count (2 ^ 31)) [
      | inl low ↦
          let back : ltb (count + 2 ^ 31) (2 ^ 31) ≡ false = le-ltb _ _ (omega arith) in
          rw (lt-ltb _ _ low, back) (omega arith)
      | inr high ↦
          let back : ltb (count - 2 ^ 31) (2 ^ 31) ≡ true = lt-ltb _ _ (omega arith) in
          rw (le-ltb _ _ high, back) (omega arith)
    ]

-- the slot of a COUNT near next is empty under its other mark
pub live-opposite : (next count : ℕ) → count < next → next ≤ count + 2 ^ 17 → next < 2 ^ 32 → is_live next (opposite count) ≡ false
live-opposite next count below near fits =
    let back = opposite-opposite count (omega arith) in
    live-far next (opposite count) (rw back below) (rw back near)

pub count_at-opposite : (next count : ℕ) → count < next → next ≤ count + 2 ^ 17 → next < 2 ^ 32 → count_at next (opposite count) ≡ count
count_at-opposite next count below near fits = rw (live-opposite next count below near fits) (opposite-opposite count (omega arith))

-- a slot stays what it is as next rises in the window
pub live-later : (next later mark : ℕ) → count_at next mark < next → next ≤ later → later ≤ count_at next mark + 2 ^ 17 → is_live later mark ≡ is_live next mark
live-later next later mark below le near =
    elim (cases_Bool (is_live next mark)) [
      | inl yes' ↦
          let b : mark < next = rw yes' at below in
          let n : later ≤ mark + 2 ^ 17 = rw yes' at near in
          live-near later mark (omega arith) n ∙ sym yes'
      | inr no' ↦
          let b : opposite mark < next = rw no' at below in
          let n : later ≤ opposite mark + 2 ^ 17 = rw no' at near in
          live-far later mark (omega arith) n ∙ sym no'
    ]
