-- The keys of the outstanding data PDUs, after a PDU is put, or is outstanding no more.
use Rattle.std.proofs.Common.{◌≡◌, ◌≢◌, ◌∙◌, ℕ, zero, suc, ◌+◌, ◌*◌, ◌/◌, ◌%◌, ◌^◌, ◌<◌, ◌≤◌, ◌==◌, Bool, true, false, ◌&&◌, ◌||◌, not, cond, List, [], ◌∷◌, ◌++◌, length, get_or, set, slice_get, Option, Some, None, ap, sym, refl, subst, arith, inl, inr}
use Rattle.std.proofs.lemmas.Bool.{and_parts, cases_Bool, eqb-true, eqb-false}
use Rattle.std.proofs.lemmas.Option.{slice_get_past, slice_get_within}
use Rattle.split_leg.specs.declared.leg.Pdu.{Pdu}
use Rattle.split_leg.specs.Legs.{is_count, is_open}
use Rattle.split_leg.specs.Indexes.{is_key_of, is_open_key, is_open_with, key_of}

-- the two parts of a key
pub key_count : (c n : ℕ) → n < 2 ^ 32 → key_of c n / 2 ^ 32 ≡ c
key_count c n small = omega arith

key_num : (c n : ℕ) → n < 2 ^ 32 → key_of c n % 2 ^ 32 ≡ n
key_num c n small = omega arith

-- the element at a place, after one more at the end, and after one in place of another
get_pushed-at : {X : Type 0} (xs : List X) (x : X) → slice_get (xs ++ x ∷ []) (length xs) ≡ Some x
get_pushed-at [] x = refl
get_pushed-at (y ∷ xs) x = get_pushed-at xs x

get_pushed-other : {X : Type 0} (xs : List X) (x : X) (i : ℕ) → (i ≡ length xs → ⊥) → slice_get (xs ++ x ∷ []) i ≡ slice_get xs i
get_pushed-other [] x zero other = absurd (other refl)
get_pushed-other [] x (suc i) other = refl
get_pushed-other (y ∷ xs) x zero other = refl
get_pushed-other (y ∷ xs) x (suc i) other = get_pushed-other xs x i (λ e. other (ap (λ n. suc n) e))

get_set-at : {X : Type 0} (xs : List X) (i : ℕ) (x : X) → i < length xs → slice_get (set xs i x) i ≡ Some x
get_set-at [] i x inside = absurd (omega arith)
get_set-at (y ∷ xs) zero x inside = refl
get_set-at (y ∷ xs) (suc i) x inside = get_set-at xs i x (omega arith)

get_set-other : {X : Type 0} (xs : List X) (j : ℕ) (x : X) (i : ℕ) → (i ≡ j → ⊥) → slice_get (set xs j x) i ≡ slice_get xs i
get_set-other [] j x i other = refl
get_set-other (y ∷ xs) zero x zero other = absurd (other refl)
get_set-other (y ∷ xs) zero x (suc i) other = refl
get_set-other (y ∷ xs) (suc j) x zero other = refl
get_set-other (y ∷ xs) (suc j) x (suc i) other = get_set-other xs j x i (λ e. other (ap (λ n. suc n) e))

-- what a key says of the PDU that it finds
pub record Finds (pdus : List Pdu) (c n : ℕ) : Type 0 where
  pub pdu : Pdu
  pub there : slice_get pdus n ≡ Some pdu
  pub is_open : is_open pdu ≡ true
  pub count : is_count c pdu.count ≡ true

-- the key of an outstanding data PDU finds it
pub key_finds : (pdus : List Pdu) (c n : ℕ) → n < 2 ^ 32 → is_open_key pdus (key_of c n) ≡ true → Finds pdus c n
key_finds pdus c n small shown =
    let P : ℕ → ℕ → Type 0 = λ d m. is_open_with d (slice_get pdus m) ≡ true in
    let at : is_open_with c (slice_get pdus n) ≡ true = subst (λ d. P d n) (key_count c n small) (subst (λ m. P (key_of c n / 2 ^ 32) m) (key_num c n small) shown) in
    finds (slice_get pdus n) refl at
  where
    finds : (o : Option Pdu) → slice_get pdus n ≡ o → is_open_with c o ≡ true → Finds pdus c n
    finds None is h = absurd (cc (h))
    finds (Some p) is h = let parts = and_parts (is_open p) (is_count c p.count) h in record { pdu = p; there = is; is_open = parts.0; count = parts.1 }

-- and the other way round
pub key_shows : (pdus : List Pdu) (c n : ℕ) (p : Pdu) → n < 2 ^ 32 → slice_get pdus n ≡ Some p → is_open p ≡ true → is_count c p.count ≡ true → is_open_key pdus (key_of c n) ≡ true
key_shows pdus c n p small there opened count =
    let P : ℕ → ℕ → Type 0 = λ d m. is_open_with d (slice_get pdus m) ≡ true in
    let at : is_open_with c (slice_get pdus n) ≡ true = ap (is_open_with c) there ∙ rw (opened, count) refl in
    subst (λ m. P (key_of c n / 2 ^ 32) m) (sym (key_num c n small)) (subst (λ d. P d n) (sym (key_count c n small)) at)

-- a number that is not given has no key
pub no_key_past : (pdus : List Pdu) (count : Option ℕ) (k : ℕ) → is_key_of count (length pdus) k ≡ true → is_open_key pdus k ≡ false
no_key_past pdus count k is =
    let num = eqb-true _ _ (and_parts (is_count (k / 2 ^ 32) count) (k % 2 ^ 32 == length pdus) is).1 in
    ap (is_open_with (k / 2 ^ 32)) (slice_get_past pdus (k % 2 ^ 32) (omega (arith, num)))

-- after one more PDU, which is outstanding unless it is a repeat
pub open_keys-put : (pdus ys : List Pdu) (p : Pdu) (num : ℕ) (f g : ℕ → Bool) → ((k : ℕ) → f k ≡ is_open_key pdus k) → ys ≡ pdus ++ p ∷ [] → num ≡ length pdus → is_open p ≡ not p.repeat
    → ((k : ℕ) → g k ≡ (f k || (not p.repeat && is_key_of p.count num k))) → (k : ℕ) → g k ≡ is_open_key ys k
open_keys-put pdus ys p num f g keys items at fresh more k =
    let c = k / 2 ^ 32 in let n = k % 2 ^ 32 in
    let given : g k ≡ (is_open_key pdus k || (not p.repeat && (is_count c p.count && n == length pdus))) =
    more k ∙ ap (λ b. b || (not p.repeat && is_key_of p.count num k)) (keys k) ∙ ap (λ m. is_open_key pdus k || (not p.repeat && (is_count c p.count && n == m))) at in
    given ∙ elim (cases_Bool (n == length pdus)) [
      | inl here ↦
          let same = eqb-true _ _ here in
          let none : is_open_key pdus k ≡ false = ap (is_open_with c) (slice_get_past pdus n (omega (arith, same))) in
          rw (none, here) (right_true (not p.repeat) (is_count c p.count)) ∙ ap (λ b. b && is_count c p.count) (sym fresh)
          ∙ sym (ap (is_open_with c) (ap (slice_get (pdus ++ p ∷ [])) same ∙ get_pushed-at pdus p))
      | inr other ↦
          rw other (right_false (is_open_key pdus k) (not p.repeat) (is_count c p.count)) ∙ sym (ap (is_open_with c) (get_pushed-other pdus p n (eqb-false _ _ other)))
    ] ∙ sym (ap (λ (l : List Pdu). is_open_key l k) items)
  where
    right_true : (r b : Bool) → (false || (r && (b && true))) ≡ (r && b)
    right_true true true = refl
    right_true true false = refl
    right_true false b = refl

    right_false : (a r b : Bool) → (a || (r && (b && false))) ≡ a
    right_false true r b = refl
    right_false false true true = refl
    right_false false true false = refl
    right_false false false b = refl

-- after a PDU that is not outstanding in place of one
pub open_keys-closed : (pdus : List Pdu) (i : ℕ) (p q : Pdu) (f g : ℕ → Bool) → ((k : ℕ) → f k ≡ is_open_key pdus k) → slice_get pdus i ≡ Some p → is_open q ≡ false
    → ((k : ℕ) → g k ≡ (f k && not (is_key_of p.count i k))) → (k : ℕ) → g k ≡ is_open_key (set pdus i q) k
open_keys-closed pdus i p q f g keys there closed less k =
    let c = k / 2 ^ 32 in let n = k % 2 ^ 32 in
    less k ∙ ap (λ b. b && not (is_key_of p.count i k)) (keys k) ∙ elim (cases_Bool (n == i)) [
      | inl here ↦
          let same = eqb-true _ _ here in
          let at : slice_get pdus n ≡ Some p = ap (slice_get pdus) same ∙ there in
          ap (λ o. is_open_with c o && not (is_count c p.count && n == i)) at
          ∙ ap (λ b. (is_open p && is_count c p.count) && not (is_count c p.count && b)) here
          ∙ gone (is_open p) (is_count c p.count) ∙ sym (ap (λ b. b && is_count c q.count) closed)
          ∙ sym (ap (is_open_with c) (ap (slice_get (set pdus i q)) same ∙ get_set-at pdus i q (slice_get_within pdus i p there)))
      | inr other ↦
          ap (λ b. is_open_key pdus k && not (is_count c p.count && b)) other ∙ stays (is_open_key pdus k) (is_count c p.count)
          ∙ sym (ap (is_open_with c) (get_set-other pdus i q n (eqb-false _ _ other)))
    ]
  where
    gone : (a b : Bool) → ((a && b) && not (b && true)) ≡ false
    gone true true = refl
    gone true false = refl
    gone false b = refl

    stays : (a b : Bool) → (a && not (b && false)) ≡ a
    stays true true = refl
    stays true false = refl
    stays false b = refl
