-- The laws of the bitmap: a slot that is filled or freed changes its own bit alone.
use Rattle.std.proofs.Common.{ℕ, ◌≡◌, ◌≢◌, ◌-◌, ◌*◌, ◌/◌, ◌%◌, ◌^◌, ◌<◌, ◌≤◌, ◌==◌, true, false, not, Option, Some, None, List, length, get_or, replicate, bit_and, bit_or, refl, sym, ap, ◌∙◌, arith, inl, inr, get_or-set_same, get_or-set_other}
use Rattle.std.proofs.Math.ListN.{set, length-set}
use Rattle.std.specs.Option.{is_some}
use Rattle.std.proofs.lemmas.Nat.{pow_pos, pow_below, and_le_l, and_le_r, and_assoc, and-not, and_or_self, and_or_apart, pow_apart, or_disjoint, div_below}
use Rattle.std.proofs.lemmas.List.{length-replicate}
use Rattle.std.proofs.lemmas.Bool.Decides.{eqb_tells}
use Rattle.std.proofs.lemmas.Bool.{cases_eq}
use Rattle.pdcp_rx.specs.Ring.{Slots}
use Rattle.pdcp_rx.specs.Marks.{word_of, is_marked, marked, unmarked, MarksAre}
use Rattle.pdcp_rx.proofs.RingSteps.{index_same}

eqb_no : (a b : ℕ) → a ≢ b → (a == b) ≡ false
eqb_no a b ne = elim (eqb_tells a b) [ inl yes' ↦ absurd (ne yes'.1) | inr no' ↦ no'.0 ]

and_self : (m : ℕ) → bit_and m m ≡ m
and_self m =
    let none : bit_and 0 m ≡ 0 = omega (arith, and_le_l 0 m) in
    let same : bit_or 0 m ≡ m = or_disjoint 0 m none ∙ omega arith in
    ap (λ x. bit_and x m) (sym same) ∙ and_or_self m 0

-- the bit that is set
bit_in : (w k : ℕ) → bit_and (bit_or w (2 ^ k)) (2 ^ k) ≡ 2 ^ k
bit_in w k = and_or_self (2 ^ k) w

-- the bit that is cleared
bit_out : (w k : ℕ) → k < 64 → bit_and (bit_and w (2 ^ 64 - 1 - 2 ^ k)) (2 ^ k) ≡ 0
bit_out w k lt =
    let m = 2 ^ k in
    let none : bit_and (2 ^ 64 - 1 - m) m ≡ 0 = omega (arith, and-not 64 m m (pow_below k 64 lt) (pow_below k 64 lt), and_self m) in
    and_assoc m w (2 ^ 64 - 1 - m) ∙ ap (λ x. bit_and w x) none ∙ (let le = and_le_r w 0 in omega arith)

-- another bit
bit_kept_in : (w k j : ℕ) → k ≢ j → bit_and (bit_or w (2 ^ k)) (2 ^ j) ≡ bit_and w (2 ^ j)
bit_kept_in w k j ne = and_or_apart (2 ^ j) w (2 ^ k) (pow_apart k j ne)

bit_kept_out : (w k j : ℕ) → k < 64 → j < 64 → k ≢ j → bit_and (bit_and w (2 ^ 64 - 1 - 2 ^ k)) (2 ^ j) ≡ bit_and w (2 ^ j)
bit_kept_out w k j lt lt' ne =
    let m = 2 ^ k in
    let n = 2 ^ j in
    let all : bit_and (2 ^ 64 - 1 - m) n ≡ n = omega (arith, and-not 64 m n (pow_below k 64 lt) (pow_below j 64 lt'), pow_apart k j ne) in
    and_assoc n w (2 ^ 64 - 1 - m) ∙ ap (λ x. bit_and w x) all

-- a word that is written over is read where it was written, and each other word is as before
word_same : (ws : List ℕ) (i j v : ℕ) → j / 64 ≡ i / 64 → i < 64 * length ws → word_of (set ws (i / 64) v) j ≡ v
word_same ws i j v is lt =
    let within : i / 64 < length ws = div_below i 64 (length ws) (omega arith) (omega arith) in
    ap (λ k. get_or (set ws (i / 64) v) k 0) is ∙ get_or-set_same ws (i / 64) v 0 within

word_other : (ws : List ℕ) (i j v : ℕ) → j / 64 ≢ i / 64 → word_of (set ws (i / 64) v) j ≡ word_of ws j
word_other ws i j v ne = get_or-set_other ws (i / 64) (j / 64) v 0 ne

-- slots of one word have bits of their own
apart_in_word : (i j : ℕ) → j ≢ i → j / 64 ≡ i / 64 → i % 64 ≢ j % 64
apart_in_word i j ne is same = ne (omega arith)

module _ (ws : List ℕ) (i : ℕ) (lt : i < 64 * length ws) where
  pub marked_same : is_marked (marked ws i) i ≡ true
  marked_same =
      let word = word_same ws i i (bit_or (word_of ws i) (2 ^ (i % 64))) refl lt in
      let bit : bit_and (word_of (marked ws i) i) (2 ^ (i % 64)) ≡ 2 ^ (i % 64) = ap (λ w. bit_and w (2 ^ (i % 64))) word ∙ bit_in (word_of ws i) (i % 64) in
      let some' = pow_pos (i % 64) in
      ap (λ x. not (x == 0)) bit ∙ ap not (eqb_no (2 ^ (i % 64)) 0 (λ z. absurd (omega arith)))

  pub marked_other : (j : ℕ) → j ≢ i → is_marked (marked ws i) j ≡ is_marked ws j
  marked_other j ne =
      let v = bit_or (word_of ws i) (2 ^ (i % 64)) in
      elim (cases_eq (j / 64) (i / 64)) [
        | inl is ↦
            ap (λ w. not (bit_and w (2 ^ (j % 64)) == 0)) (word_same ws i j v is lt)
            ∙ ap (λ x. not (x == 0)) (bit_kept_in (word_of ws i) (i % 64) (j % 64) (apart_in_word i j ne is))
            ∙ ap (λ k. not (bit_and (get_or ws k 0) (2 ^ (j % 64)) == 0)) (sym is)
        | inr other ↦ ap (λ w. not (bit_and w (2 ^ (j % 64)) == 0)) (word_other ws i j v other)
      ]

  pub unmarked_same : is_marked (unmarked ws i) i ≡ false
  unmarked_same =
      let word = word_same ws i i (bit_and (word_of ws i) (2 ^ 64 - 1 - 2 ^ (i % 64))) refl lt in
      ap (λ w. not (bit_and w (2 ^ (i % 64)) == 0)) word ∙ ap (λ x. not (x == 0)) (bit_out (word_of ws i) (i % 64) (omega arith))

  pub unmarked_other : (j : ℕ) → j ≢ i → is_marked (unmarked ws i) j ≡ is_marked ws j
  unmarked_other j ne =
      let v = bit_and (word_of ws i) (2 ^ 64 - 1 - 2 ^ (i % 64)) in
      elim (cases_eq (j / 64) (i / 64)) [
        | inl is ↦
            ap (λ w. not (bit_and w (2 ^ (j % 64)) == 0)) (word_same ws i j v is lt)
            ∙ ap (λ x. not (x == 0)) (bit_kept_out (word_of ws i) (i % 64) (j % 64) (omega arith) (omega arith) (apart_in_word i j ne is))
            ∙ ap (λ k. not (bit_and (get_or ws k 0) (2 ^ (j % 64)) == 0)) (sym is)
        | inr other ↦ ap (λ w. not (bit_and w (2 ^ (j % 64)) == 0)) (word_other ws i j v other)
      ]

-- a slot is filled
pub MarksAre-put : (ws : List ℕ) (s : Slots) (i : ℕ) (sdu : List ℕ) → i < length s → MarksAre ws s → MarksAre (marked ws i) (set s i (Some sdu))
MarksAre-put ws s i sdu lt ok =
    record {
      enough = omega (arith, ok.enough, length-set ws (i / 64) (bit_or (word_of ws i) (2 ^ (i % 64))), length-set s i (Some sdu));
      each = λ j lt'. let within : i < 64 * length ws = omega (arith, ok.enough) in
          elim (cases_eq j i) [
            | inl is ↦
                ap (λ k. is_marked (marked ws i) k) is ∙ marked_same ws i within
                ∙ sym (ap (λ k. is_some (get_or (set s i (Some sdu)) k None)) is ∙ ap is_some (get_or-set_same s i (Some sdu) None lt))
            | inr ne ↦ marked_other ws i within j ne ∙ ok.each j (omega (arith, length-set s i (Some sdu))) ∙ sym (ap is_some (get_or-set_other s i j
                (Some sdu) None ne))
          ];
    }

-- a slot is freed
pub MarksAre-free : (ws : List ℕ) (s : Slots) (i : ℕ) → i < length s → MarksAre ws s → MarksAre (unmarked ws i) (set s i None)
MarksAre-free ws s i lt ok =
    record {
      enough = omega (arith, ok.enough, length-set ws (i / 64) (bit_and (word_of ws i) (2 ^ 64 - 1 - 2 ^ (i % 64))), length-set s i None);
      each = λ j lt'. let within : i < 64 * length ws = omega (arith, ok.enough) in
          elim (cases_eq j i) [
            | inl is ↦
                ap (λ k. is_marked (unmarked ws i) k) is ∙ unmarked_same ws i within
                ∙ sym (ap (λ k. is_some (get_or (set s i None) k None)) is ∙ ap is_some (get_or-set_same s i None None lt))
            | inr ne ↦ unmarked_other ws i within j ne ∙ ok.each j (omega (arith, length-set s i None)) ∙ sym (ap is_some (get_or-set_other s i j None None ne))
          ];
    }

-- all slots are free
pub MarksAre-none : (n m : ℕ) → m ≤ 64 * n → MarksAre (replicate n 0) (replicate m None)
MarksAre-none n m le =
    let x : Option (List ℕ) = None in
    record {
      enough = omega (arith, length-replicate {A = ℕ} n 0, length-replicate m x);
      each = λ i lt. ap (λ w. not (bit_and w (2 ^ (i % 64)) == 0)) (index_same {X = ℕ} n (i / 64) 0) ∙ (let le' = and_le_l 0 (2 ^ (i % 64)) in
          let z : bit_and 0 (2 ^ (i % 64)) ≡ 0 = omega arith in ap (λ b. not (b == 0)) z) ∙ sym (ap is_some (index_same m i x));
    }
