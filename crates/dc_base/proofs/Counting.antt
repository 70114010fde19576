-- `count_for` finds the one COUNT in the window that shows a sequence number.
use Rattle.std.proofs.Common.{ℕ, zero, suc, ◌≡◌, ◌+◌, ◌-◌, ◌*◌, ◌/◌, ◌%◌, ◌^◌, ◌<◌, ◌≤◌, Option, Some, None, MatchOption, refl, sym, ap, ◌∙◌, arith, inl, inr}
use Rattle.std.proofs.lemmas.Nat.{mod-mul-add, div-add-mod'}
use Rattle.std.proofs.lemmas.Bool.{cond-true, cond-false, lt-ltb, le-ltb, ltb-true, cases_lt}
use Rattle.std.proofs.Math.Nat.{add-mul-mod_self_right}
use Rattle.std.proofs.lemmas.Option.{cond_some}
use Rattle.dc_base.specs.declared.numbers.SnLen.{SnLen}
use Rattle.dc_base.specs.declared.numbers.SnLen.TheVariants.{S12, S18}
use Rattle.dc_base.specs.Count.{modulus, window, sn, distance, count_below, count_for, IsCountFor, HasNoCountFor}

pub two_windows : (n : SnLen) → modulus n ≡ 2 * window n
unfolding modulus window
two_windows S12 = refl
two_windows S18 = refl

pub window_some : (n : SnLen) → 0 < window n
unfolding window
window_some S12 = omega arith
window_some S18 = omega arith

pub window_small : (n : SnLen) → window n ≤ 2 ^ 17
unfolding window
window_small S12 = omega arith
window_small S18 = omega arith

pub modulus_bounds : (n : SnLen) → (modulus n ≡ modulus n) × (modulus n ≡ 2 * window n) × (0 < modulus n) × (modulus n ≤ 2 ^ 18)
modulus_bounds n = (refl, two_windows n, omega (arith, two_windows n, window_some n), omega (arith, two_windows n, window_small n))

pub sn_small : (n : SnLen) (c : ℕ) → sn n c < modulus n
unfolding sn
sn_small n c = let some : 0 < modulus n = omega (arith, two_windows n, window_some n) in omega arith

-- a number is a multiple of the modulus and its sequence number
pub parts : (n : SnLen) (c : ℕ) → c ≡ (c / modulus n) * modulus n + sn n c
unfolding sn
parts n c = sym (div-add-mod' c (modulus n))

-- two numbers that differ by multiples of m have the same rest
same_rest : (m x y a b : ℕ) → y < m → x + a * m ≡ y + b * m → x % m ≡ y
same_rest m x y a b small e =
    let turned : x + a * m ≡ b * m + y = omega (arith, e) in
    sym (add-mul-mod_self_right x a m) ∙ ap (λ (k : ℕ). k % m) turned ∙ mod-mul-add b m y small

-- the distance is below a whole window, and what it is the rest of
pub distance_is : (n : SnLen) (r s : ℕ) → s < modulus n
    → (distance n r s < modulus n)
    × (s + modulus n + window n - sn n r ≡ ((s + modulus n + window n - sn n r) / modulus n) * modulus n + distance n r s)
unfolding distance
distance_is n r s small =
    let some : 0 < modulus n = omega (arith, two_windows n, window_some n) in
    (omega arith, sym (div-add-mod' (s + modulus n + window n - sn n r) (modulus n)))

-- what `count_below` gives
below_some : (x w c : ℕ) → count_below x w ≡ Some c → (c + w ≡ x) × (c < 2 ^ 32)
below_some x w c e = elim (cases_lt x w) [
  | inl less ↦ absurd cc (e, cond-true _ _ _ (lt-ltb _ _ less))
  | inr enough ↦
      let p = cond_some _ _ _ (sym (cond-false _ _ _ (le-ltb _ _ enough)) ∙ e) in
      let small : x - w < 2 ^ 32 = ltb-true _ _ p.0 in
      let is = p.1 in
      (omega (arith, is, enough), omega (arith, is, small))
]

below_is : (x w c : ℕ) → c + w ≡ x → c < 2 ^ 32 → count_below x w ≡ Some c
below_is x w c e small =
    let is : x - w ≡ c = omega (arith, e) in
    let less : x - w < 2 ^ 32 = omega (arith, is, small) in
    let enough : w ≤ x = omega (arith, e) in
    cond-false _ _ _ (le-ltb x w enough) ∙ cond-true _ _ _ (lt-ltb _ _ less) ∙ ap Some is

shown : (n : SnLen) (c s q h : ℕ) → s < modulus n → c + q * modulus n ≡ s + h * modulus n → sn n c ≡ s
unfolding sn
shown n c s q h small e = same_rest (modulus n) c s q h small e

-- what `count_for` finds is in the window, shows s, and is a COUNT
pub count_for_finds : (n : SnLen) (r s c : ℕ) → s < modulus n → count_for n r s ≡ Some c → IsCountFor n r s c × (c < 2 ^ 32)
unfolding count_for
count_for_finds n r s c small e =
    let two = two_windows n in
    let p = below_some (r + distance n r s) (window n) c e in
    let at = p.0 in
    let d = distance_is n r s small in
    let d_small = d.0 in
    let rest = d.1 in
    let r_is = parts n r in
    let t_small = sn_small n r in
    let q = (s + modulus n + window n - sn n r) / modulus n in
    let turned : c + q * modulus n ≡ s + (r / modulus n + 1) * modulus n = omega (arith, at, rest, r_is, t_small) in
    (record { low = omega (arith, at); high = omega (arith, at, d_small, two); shows = shown n c s q (r / modulus n + 1) small turned }, p.1)

-- a COUNT in the window that shows s is what `count_for` finds
pub count_for_is : (n : SnLen) (r s c : ℕ) → c < 2 ^ 32 → IsCountFor n r s c → count_for n r s ≡ Some c
unfolding count_for distance
count_for_is n r s c small w =
    let two = two_windows n in
    let t_small = sn_small n r in
    let r_is = parts n r in
    let c_is = parts n c in
    let low = w.low in let high = w.high in let shows = w.shows in
    let e = c + window n - r in
    let turned : s + modulus n + window n - sn n r + (c / modulus n) * modulus n ≡ e + (r / modulus n + 1) * modulus n =
    omega (arith, r_is, c_is, low, shows, t_small) in
    let far = same_rest (modulus n) (s + modulus n + window n - sn n r) e (c / modulus n) (r / modulus n + 1) (omega (arith, low, high, two)) turned in
    below_is (r + distance n r s) (window n) c (omega (arith, far, low)) small

-- so it decides whether there is one
pub count_for_decides : (n : SnLen) (r s : ℕ) (o : Option ℕ) → s < modulus n → o ≡ count_for n r s
    → MatchOption o (HasNoCountFor n r s) (λ c. IsCountFor n r s c)
count_for_decides n r s None small is = λ c less w. cc (is, count_for_is n r s c less w)
count_for_decides n r s (Some c) small is = (count_for_finds n r s c small (sym is)).0
