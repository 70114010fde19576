-- The bits of a bitmap, octet by octet, and the first octet with a 1 beyond the last COUNT.
use Rattle.std.proofs.Common.{ℕ, suc, ◌≡◌, ◌+◌, ◌-◌, ◌/◌, ◌%◌, ◌^◌, ◌<◌, ◌≤◌, ◌==◌, ◌⊎◌, true, false, List, [], ◌∷◌, Option, Some, None, get_or, length, drop, drop-cons, add-one, refl, sym, ap, ◌∙◌, arith, inl, inr}
use Rattle.std.specs.Int.{bit_at, w8, trailing_zeros}
use Rattle.std.specs.Option.{option_map}
use Rattle.std.proofs.lemmas.Bool.{cases_lt, eqb-true, eqb-false, eq-eqb, ne_eqb}
use Rattle.std.proofs.Math.Pow.{pow_mono}
use Rattle.std.proofs.lemmas.Nat.{div-add-mod', mod_below, pow_pos}
use Rattle.std.proofs.lemmas.Nat.Bits.{bit_at_cat_low, bit_at-zero, bit_at_above, bit_at-trailing_zeros}
use Rattle.pdcp_pdu.specs.Bitmap.{is_shown}
use Rattle.pdcp_pdu.specs.StatusReport.{first_beyond}
use Rattle.pdcp_pdu.proofs.Choices.{chosen, map_none, map_some}

-- ---- the eight bits of the first octet, and those after them

pub is_shown-here : (octet : ℕ) (bits : List ℕ) (k : ℕ) → k < 8 → is_shown (octet ∷ bits) (suc k) ≡ (bit_at octet (7 - k) == 1)
is_shown-here octet bits k h =
    let quotient : k / 8 ≡ 0 = omega arith in
    let rest : k % 8 ≡ k = omega arith in
    rw (quotient, rest) refl

pub is_shown-later : (octet : ℕ) (bits : List ℕ) (k : ℕ) → is_shown (octet ∷ bits) (suc (k + 8)) ≡ is_shown bits (suc k)
is_shown-later octet bits k =
    let quotient : (k + 8) / 8 ≡ suc (k / 8) = omega arith in
    let rest : (k + 8) % 8 ≡ k % 8 = omega arith in
    rw (quotient, rest) refl

-- a bit is one of the first octet, or one after it
pub record Later (k : ℕ) : Type 0 where
  pub back : ℕ
  pub is : k ≡ back + 8

pub here_or_later : (k : ℕ) → (k < 8) ⊎ Later k
here_or_later k = elim (cases_lt k 8) [ inl here ↦ inl here | inr later ↦ inr (record { back = k - 8; is = omega arith }) ]

-- ---- the low bits of an octet

-- a 1 among the low bits is a 1 of what they make
pub bit_at-low : (n m p : ℕ) → p < m → bit_at (n % 2 ^ m) p ≡ bit_at n p
bit_at-low n m p h = sym (bit_at_cat_low (n / 2 ^ m) m (n % 2 ^ m) p h) ∙ ap (λ (x : ℕ). bit_at x p) (div-add-mod' n (2 ^ m))

pub no_low_bit : (n m p : ℕ) → n % 2 ^ m ≡ 0 → p < m → bit_at n p ≡ 0
no_low_bit n m p none h = sym (bit_at-low n m p h) ∙ ap (λ (x : ℕ). bit_at x p) none ∙ bit_at-zero p

-- a number that is not 0 has a 1
pub low_bit : (n m : ℕ) → (n % 2 ^ m ≡ 0 → ⊥) → m ≤ 8 → (p : ℕ) × (p < m) × (bit_at n p ≡ 1)
low_bit n m some most =
    let low = n % 2 ^ m in
    let positive : 0 < low = omega (arith, some) in
    let powers : 2 ^ m ≤ 2 ^ 8 = pow_mono most in
    let low_small : low < 2 ^ m = mod_below n (2 ^ m) (pow_pos m) in
    let found = bit_at-trailing_zeros w8 low positive (omega arith) in
    let p = trailing_zeros w8 low in
    elim (cases_lt p m) [
      | inl inside ↦ (p, inside, sym (bit_at-low n m p inside) ∙ found.1)
      | inr outside ↦ absurd (cc (found.1, bit_at_above low m p low_small outside))
    ]

-- ---- the first octet with a 1 beyond the room

-- octet i has a 1 at a place from room on, and no octet before it has
pub record Beyond (room : ℕ) (bits : List ℕ) (i : ℕ) : Type 0 where
  pub bit : ℕ
  pub here : bit / 8 ≡ i
  pub shown : is_shown bits (suc bit) ≡ true
  pub beyond : room ≤ bit
  pub first : (b : ℕ) → is_shown bits (suc b) ≡ true → room ≤ b → i ≤ b / 8

-- the low bits of the first octet are those beyond the room
here_inside : (room octet b : ℕ) (bits : List ℕ) → octet % 2 ^ (8 - room) ≡ 0 → b < 8 → is_shown (octet ∷ bits) (suc b) ≡ true → b < room
here_inside room octet b bits none here shown =
    elim (cases_lt b room) [
      | inl inside ↦ inside
      | inr outside ↦
          let off = no_low_bit octet (8 - room) (7 - b) none (omega arith) in
          let on : bit_at octet (7 - b) == 1 ≡ true = sym (is_shown-here octet bits b here) ∙ shown in
          absurd (cc (off, eqb-true _ _ on))
    ]

pub none_beyond : (room : ℕ) (bits : List ℕ) → first_beyond room bits ≡ None → (b : ℕ) → is_shown bits (suc b) ≡ true → b < room
none_beyond room [] none b shown = absurd (cc (bit_at-zero (7 - b % 8), eqb-true _ _ shown))
none_beyond room (octet ∷ bits) none b shown =
    elim (chosen (octet % 2 ^ (8 - room) == 0) (option_map (λ (i : ℕ). suc i) (first_beyond (room - 8) bits)) (Some 0) None none) [
      | inl clear ↦
          let rest : first_beyond (room - 8) bits ≡ None = map_none _ _ clear.1 in
          elim (here_or_later b) [
            | inl here ↦ here_inside room octet b bits (eqb-true _ _ clear.0) here shown
            | inr later ↦
                let shown' : is_shown bits (suc later.back) ≡ true = sym (is_shown-later octet bits later.back) ∙ ap (λ (k : ℕ). is_shown (octet ∷ bits) (suc k)) (sym later.is) ∙ shown in
                let inside = none_beyond (room - 8) bits rest later.back shown' in
                omega (arith, later.is)
          ]
      | inr stops ↦ absurd (cc (stops.1))
    ]

pub some_beyond : (room : ℕ) (bits : List ℕ) (i : ℕ) → first_beyond room bits ≡ Some i → Beyond room bits i
some_beyond room [] i found = absurd cc
some_beyond room (octet ∷ bits) i found =
    elim (chosen (octet % 2 ^ (8 - room) == 0) (option_map (λ (i : ℕ). suc i) (first_beyond (room - 8) bits)) (Some 0) (Some i) found) [
      | inl clear ↦
          let rest = map_some (λ (j : ℕ). suc j) _ i clear.1 in
          let later = some_beyond (room - 8) bits rest.0 rest.1 in
          let i_is : suc rest.0 ≡ i = rest.2 in
          let late = later.here in
          let past = later.beyond in
          record {
            bit = later.bit + 8;
            here = omega arith;
            shown = is_shown-later octet bits later.bit ∙ later.shown;
            beyond = omega arith;
            first = λ b shown out. elim (here_or_later b) [
              | inl here ↦ let inside = here_inside room octet b bits (eqb-true _ _ clear.0) here shown in absurd (omega arith)
              | inr more ↦
                  let b_is = more.is in
                  let shown' : is_shown bits (suc more.back) ≡ true = sym (is_shown-later octet bits more.back) ∙ ap (λ (k : ℕ). is_shown (octet ∷ bits) (suc k)) (sym more.is) ∙ shown in
                  let before = later.first more.back shown' (omega arith) in
                  omega arith
            ];
          }
      | inr stops ↦
          let low = low_bit octet (8 - room) (eqb-false _ _ stops.0) (omega arith) in
          let place : low.0 < 8 - room = low.1 in
          let i_is : 0 ≡ i = cc (stops.1) in
          let there : is_shown (octet ∷ bits) (suc (7 - low.0)) ≡ (bit_at octet (7 - (7 - low.0)) == 1) = is_shown-here octet bits (7 - low.0) (omega arith) in
          let back : 7 - (7 - low.0) ≡ low.0 = omega arith in
          record {
            bit = 7 - low.0;
            here = omega arith;
            shown = there ∙ ap (λ (p : ℕ). bit_at octet p == 1) back ∙ eq-eqb _ _ low.2;
            beyond = omega arith;
            first = λ b shown out. omega arith;
          }
    ]

-- ---- the loop that looks for it

pub map_at : (place : ℕ) (o : Option ℕ) → option_map (λ (i : ℕ). place + i) (option_map (λ (i : ℕ). suc i) o) ≡ option_map (λ (i : ℕ). place + 1 + i) o
map_at place None = refl
map_at place (Some i) = let e : place + suc i ≡ place + 1 + i = omega arith in ap Some e

pub beyond_more : (room place octet : ℕ) (bits : List ℕ) → place < length bits → octet ≡ get_or bits place 0 → octet % 2 ^ (8 - room) ≡ 0
    → option_map (λ (i : ℕ). place + i) (first_beyond room (drop place bits)) ≡ option_map (λ (i : ℕ). place + 1 + i) (first_beyond (room - 8) (drop (place + 1) bits))
beyond_more room place octet bits inside is clear =
    let test : get_or bits place 0 % 2 ^ (8 - room) == 0 ≡ true = eq-eqb _ _ (ap (λ (o : ℕ). o % 2 ^ (8 - room)) (sym is) ∙ clear) in
    rw (drop-cons bits place 0, add-one place, test) (map_at place (first_beyond (room - 8) (drop (suc place) bits)) ∙ rw (add-one place) refl)

pub beyond_here : (room place octet : ℕ) (bits : List ℕ) → place < length bits → octet ≡ get_or bits place 0 → (octet % 2 ^ (8 - room) ≡ 0 → ⊥)
    → option_map (λ (i : ℕ). place + i) (first_beyond room (drop place bits)) ≡ Some place
beyond_here room place octet bits inside is some =
    let test : get_or bits place 0 % 2 ^ (8 - room) == 0 ≡ false = ne_eqb _ _ (λ clear. some (ap (λ (o : ℕ). o % 2 ^ (8 - room)) is ∙ clear)) in
    rw (drop-cons bits place 0, test) (ap Some (let e : place + 0 ≡ place = omega arith in e))
