-- Bitmaps of a set of COUNTs: what each bit is, and what one COUNT more does to them.
use Rattle.std.proofs.Common.{ℕ, zero, suc, ◌≡◌, ◌+◌, ◌-◌, ◌*◌, ◌/◌, ◌%◌, ◌^◌, ◌<◌, ◌≤◌, ◌==◌, ◌||◌, ◌⊎◌, cond, Bool, true, false, List, [], ◌∷◌, length, take, replicate, set, get_or, refl, sym, ap, ◌∙◌, subst, arith, inl, inr}
use Rattle.std.specs.Int.{bit_at}
use Rattle.std.proofs.lemmas.Bool.{cases_Bool, or_right, eq-eqb, ne_eqb}
use Rattle.std.proofs.lemmas.List.Folds.{list_any_more}
use Rattle.std.proofs.lemmas.Nat.Bits.{bit_at_cat_low, bit_at_cat_high, bit_at-zero}
use Rattle.pdcp_pdu.specs.Bitmap.{is_shown, is_among, bits_from, bitmap}
use Rattle.pdcp_pdu.proofs.Ascending.{Ascending, none_before}
use Rattle.pdcp_pdu.proofs.Bits.{here_or_later, is_shown-here, is_shown-later}

-- ---- one COUNT more

-- the second set has d, which the first has not, and nothing else that is new
pub record Marks (old new : ℕ → Bool) (d : ℕ) : Type 0 where
  pub without : old d ≡ false
  pub with_it : new d ≡ true
  pub others : (k : ℕ) → (k ≡ d → ⊥) → new k ≡ old k

cells : {x y : ℕ} {xs ys : List ℕ} → x ≡ y → xs ≡ ys → x ∷ xs ≡ y ∷ ys
cells e f = cc

module _ (old new : ℕ → Bool) where
  pub bits_from-apart : (k c d : ℕ) → Marks old new d → (d < c) ⊎ (c + k ≤ d) → bits_from new c k ≡ bits_from old c k
  bits_from-apart zero c d marks apart = refl
  bits_from-apart (suc k) c d marks apart =
      let here : new c ≡ old c = marks.others c (λ same. elim apart [ inl below ↦ omega arith | inr above ↦ omega arith ]) in
      let rest : bits_from new (c + 1) k ≡ bits_from old (c + 1) k =
      bits_from-apart k (c + 1) d marks (elim apart [ inl below ↦ inl (omega arith) | inr above ↦ inr (omega arith) ]) in
      rw (here, rest) refl

  pub bits_from-marked : (k c p : ℕ) → Marks old new (c + p) → p < k → bits_from new c k ≡ bits_from old c k + 2 ^ (k - 1 - p)
  bits_from-marked zero c p marks h = absurd (omega arith)
  bits_from-marked (suc k) c zero marks h =
      let at : c + 0 ≡ c = omega arith in
      let marks' = subst (Marks old new) at marks in
      let rest = bits_from-apart k (c + 1) c marks' (inl (omega arith)) in
      let power : suc k - 1 - 0 ≡ k = omega arith in
      rw (marks'.with_it, marks'.without, rest, power) (omega arith)
  bits_from-marked (suc k) c (suc p) marks h =
      let at : c + suc p ≡ c + 1 + p = omega arith in
      let marks' = subst (Marks old new) at marks in
      let here : new c ≡ old c = marks.others c (λ same. omega arith) in
      let rest = bits_from-marked k (c + 1) p marks' (omega arith) in
      let power : suc k - 1 - suc p ≡ k - 1 - p = omega arith in
      rw (here, rest, power) (omega arith)

  pub bitmap-apart : (m c d : ℕ) → Marks old new d → (d < c) ⊎ (c + 8 * m ≤ d) → bitmap new c m ≡ bitmap old c m
  bitmap-apart zero c d marks apart = refl
  bitmap-apart (suc m) c d marks apart =
      let octet = bits_from-apart 8 c d marks (elim apart [ inl below ↦ inl below | inr above ↦ inr (omega arith) ]) in
      let rest = bitmap-apart m (c + 8) d marks (elim apart [ inl below ↦ inl (omega arith) | inr above ↦ inr (omega arith) ]) in
      cells octet rest

  pub bitmap-marked : (m c p : ℕ) → Marks old new (c + p) → p / 8 < m
      → set (bitmap old c m) (p / 8) (get_or (bitmap old c m) (p / 8) 0 + 2 ^ (7 - p % 8)) ≡ bitmap new c m
  bitmap-marked zero c p marks h = absurd (omega arith)
  bitmap-marked (suc m) c p marks h =
      elim (here_or_later p) [
        | inl here ↦
            let quotient : p / 8 ≡ 0 = omega arith in
            let rest : p % 8 ≡ p = omega arith in
            let power : 8 - 1 - p ≡ 7 - p = omega arith in
            rw (quotient, rest) (cells (sym (bits_from-marked 8 c p marks here)) (sym (bitmap-apart m (c + 8) (c + p) marks (inl (omega arith)))))
        | inr later ↦
            let b = later.back in
            let is = later.is in
            let quotient : p / 8 ≡ suc (b / 8) = omega arith in
            let rest : p % 8 ≡ b % 8 = omega arith in
            let at : c + p ≡ c + 8 + b = omega arith in
            rw (quotient, rest) (cells (sym (bits_from-apart 8 c (c + p) marks (inr (omega arith)))) (bitmap-marked m (c + 8) b (subst (Marks old new) at marks) (omega arith)))
      ]

-- ---- no COUNT

pub bitmap-none : (c m : ℕ) → bitmap (is_among []) c m ≡ replicate m 0
bitmap-none c zero = refl
bitmap-none c (suc m) = ap (λ (xs : List ℕ). 0 ∷ xs) (bitmap-none (c + 8) m)

-- ---- what each bit is

module _ (set' : ℕ → Bool) where
  pub bits_from-small : (c k : ℕ) → bits_from set' c k < 2 ^ k
  bits_from-small c zero = omega arith
  bits_from-small c (suc k) =
      let rest = bits_from-small (c + 1) k in
      elim (cases_Bool (set' c)) [ inl yes' ↦ rw yes' (omega arith) | inr no' ↦ rw no' (omega arith) ]

  pub bit_at-bits_from : (k c p : ℕ) → p < k → bit_at (bits_from set' c k) (k - 1 - p) ≡ cond (set' (c + p)) 1 0
  bit_at-bits_from zero c p h = absurd (omega arith)
  bit_at-bits_from (suc k) c zero h =
      let at : c + 0 ≡ c = omega arith in
      let place : suc k - 1 - 0 ≡ k = omega arith in
      rw (at, place) (bit_at_cat_high (cond (set' c) 1 0) k (bits_from set' (c + 1) k) k (bits_from-small (c + 1) k) (omega arith)
      ∙ (let none : k - k ≡ 0 = omega arith in rw none (elim (cases_Bool (set' c)) [ inl yes' ↦ rw yes' refl | inr no' ↦ rw no' refl ])))
  bit_at-bits_from (suc k) c (suc p) h =
      let at : c + suc p ≡ c + 1 + p = omega arith in
      let place : suc k - 1 - suc p ≡ k - 1 - p = omega arith in
      rw (at, place) (bit_at_cat_low (cond (set' c) 1 0) k (bits_from set' (c + 1) k) (k - 1 - p) (omega arith) ∙ bit_at-bits_from k (c + 1) p (omega arith))

  pub is_shown-bitmap : (m c k : ℕ) → k < 8 * m → is_shown (bitmap set' c m) (suc k) ≡ set' (c + k)
  is_shown-bitmap zero c k h = absurd (omega arith)
  is_shown-bitmap (suc m) c k h =
      elim (here_or_later k) [
        | inl here ↦
            is_shown-here (bits_from set' c 8) (bitmap set' (c + 8) m) k here
            ∙ ap (λ (b : ℕ). b == 1) (bit_at-bits_from 8 c k here)
            ∙ elim (cases_Bool (set' (c + k))) [ inl yes' ↦ rw yes' refl | inr no' ↦ rw no' refl ]
        | inr later ↦
            let b = later.back in
            let at : c + 8 + b ≡ c + k = let is = later.is in omega arith in
            ap (λ (j : ℕ). is_shown (bitmap set' c (suc m)) (suc j)) later.is
            ∙ is_shown-later (bits_from set' c 8) (bitmap set' (c + 8) m) b
            ∙ is_shown-bitmap m (c + 8) b (let is = later.is in omega arith) ∙ ap set' at
      ]

  pub is_shown-past : (m c k : ℕ) → 8 * m ≤ k → is_shown (bitmap set' c m) (suc k) ≡ false
  is_shown-past zero c k h = rw (bit_at-zero (7 - k % 8)) refl
  is_shown-past (suc m) c k h =
      elim (here_or_later k) [
        | inl here ↦ absurd (omega arith)
        | inr later ↦
            ap (λ (j : ℕ). is_shown (bitmap set' c (suc m)) (suc j)) later.is
            ∙ is_shown-later (bits_from set' c 8) (bitmap set' (c + 8) m) later.back
            ∙ is_shown-past m (c + 8) later.back (let is = later.is in omega arith)
      ]

  pub length-bitmap : (c m : ℕ) → length (bitmap set' c m) ≡ m
  length-bitmap c zero = refl
  length-bitmap c (suc m) = ap (λ (k : ℕ). suc k) (length-bitmap (c + 8) m)

  pub get_or-bitmap : (m c i : ℕ) → i < m → get_or (bitmap set' c m) i 0 ≡ bits_from set' (c + 8 * i) 8
  get_or-bitmap zero c i h = absurd (omega arith)
  get_or-bitmap (suc m) c zero h = let at : c + 8 * 0 ≡ c = omega arith in rw at refl
  get_or-bitmap (suc m) c (suc i) h = let at : c + 8 * suc i ≡ c + 8 + 8 * i = omega arith in rw at (get_or-bitmap m (c + 8) i (omega arith))

-- ---- the loop over an ascending list

-- the first COUNTs of the list, and one more of them
taken_more : (c : ℕ) (xs : List ℕ) (i : ℕ) → Ascending c xs → i < length xs → Marks (is_among (take i xs)) (is_among (take (i + 1) xs)) (get_or xs i 0)
taken_more c xs i up h =
    let x = get_or xs i 0 in
    let more : (k : ℕ) → is_among (take (i + 1) xs) k ≡ (is_among (take i xs) k || (x == k)) = λ k. list_any_more (λ (y : ℕ). y == k) xs i 0 h in
    record {
      without = none_before c xs i up h;
      with_it = more x ∙ or_right _ _ (eq-eqb x x refl);
      others = λ k other. let apart : x == k ≡ false = ne_eqb x k (λ same. other (sym same)) in
          more k ∙ rw apart (elim (cases_Bool (is_among (take i xs) k)) [ inl yes' ↦ rw yes' refl | inr no' ↦ rw no' refl ]);
    }

pub mark_more : (fmc m : ℕ) (xs : List ℕ) (i p : ℕ) → Ascending fmc xs → i < length xs → fmc + 1 + p ≡ get_or xs i 0 → p / 8 < m
    → set (bitmap (is_among (take i xs)) (fmc + 1) m) (p / 8) (get_or (bitmap (is_among (take i xs)) (fmc + 1) m) (p / 8) 0 + 2 ^ (7 - p % 8)) ≡ bitmap (is_among (take (i + 1) xs)) (fmc + 1) m
mark_more fmc m xs i p up h is inside =
    bitmap-marked (is_among (take i xs)) (is_among (take (i + 1) xs)) m (fmc + 1) p (subst (Marks (is_among (take i xs)) (is_among (take (i + 1) xs))) (sym is) (taken_more fmc xs i up h)) inside

pub past_more : (fmc m : ℕ) (xs : List ℕ) (i p : ℕ) → Ascending fmc xs → i < length xs → fmc + 1 + p ≡ get_or xs i 0 → m ≤ p / 8
    → bitmap (is_among (take i xs)) (fmc + 1) m ≡ bitmap (is_among (take (i + 1) xs)) (fmc + 1) m
past_more fmc m xs i p up h is past =
    sym (bitmap-apart (is_among (take i xs)) (is_among (take (i + 1) xs)) m (fmc + 1) (get_or xs i 0) (taken_more fmc xs i up h) (inr (omega (arith, is))))

-- the octet that gets one bit more has room for it
pub mark_fits : (fmc m : ℕ) (xs : List ℕ) (i p : ℕ) → Ascending fmc xs → i < length xs → fmc + 1 + p ≡ get_or xs i 0 → p / 8 < m
    → get_or (bitmap (is_among (take i xs)) (fmc + 1) m) (p / 8) 0 + 2 ^ (7 - p % 8) < 256
mark_fits fmc m xs i p up h is inside =
    let old = is_among (take i xs) in let new = is_among (take (i + 1) xs) in
    let c = fmc + 1 + 8 * (p / 8) in
    let at : get_or xs i 0 ≡ c + p % 8 = omega (arith, is) in
    let marks = subst (Marks old new) at (taken_more fmc xs i up h) in
    let octet = bits_from-marked old new 8 c (p % 8) marks (omega arith) in
    let power : 8 - 1 - p % 8 ≡ 7 - p % 8 = omega arith in
    let octet' : bits_from new c 8 ≡ bits_from old c 8 + 2 ^ (7 - p % 8) = octet ∙ ap (λ (k : ℕ). bits_from old c 8 + 2 ^ k) power in
    rw (get_or-bitmap old m (fmc + 1) (p / 8) inside) (let small = bits_from-small new c 8 in omega (arith, octet'))
