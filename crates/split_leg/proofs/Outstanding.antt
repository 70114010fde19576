-- Which octets are outstanding after a PDU is put, acked or settled.
use Rattle.std.proofs.Common.{◌≡◌, ◌∙◌, ℕ, zero, suc, ◌+◌, ◌-◌, ◌/◌, ◌*◌, ◌^◌, ◌<◌, ◌≤◌, ltb, leb, Bool, true, false, ◌&&◌, ◌||◌, not, cond, List, [], ◌∷◌, ◌++◌, length, map, take, get_or, set, sum_by, slice_get, Option, Some, None, ap, sym, refl, subst, arith, inl, inr}
use Rattle.std.specs.List.{list_any}
use Rattle.std.proofs.lemmas.Bool.{cases_Bool, and_parts, eqb-true, eq-eqb, ltb-true, leb-true, lt-ltb, le-leb}
use Rattle.std.proofs.lemmas.List.{length-append, length-map, length-set, take-map}
use Rattle.std.proofs.lemmas.List.Sums.{sum_by-append, sum_by-set}
use Rattle.std.proofs.lemmas.Option.{slice_get-get_or, slice_get_within, get_or_from_slice_get}
use Rattle.split_leg.specs.declared.leg.Pdu.{Pdu}
use Rattle.split_leg.specs.Legs.{is_count, is_open, is_within, is_settled_by, open_octets, settle, volume}
use Rattle.split_leg.specs.Indexes.{IsIndexed, first_after, is_key_of, is_open_key, is_open_with, key_of}
use Rattle.split_leg.proofs.Firsts.{firsts_push, same_any}
use Rattle.split_leg.proofs.OpenKeys.{Finds, key_count, key_finds, key_shows, open_keys-put, open_keys-closed}

open_if_acked : (r s : Bool) → (not r && not true) && not s ≡ false
open_if_acked true s = refl
open_if_acked false s = refl

-- a PDU whose ack came is not outstanding
is_open-acked : (p : Pdu) → is_open (record p { acked = true }) ≡ false
is_open-acked p = open_if_acked p.repeat p.settled

open_if_settled : (r a : Bool) → (not r && not a) && not true ≡ false
open_if_settled true a = refl
open_if_settled false true = refl
open_if_settled false false = refl

-- a PDU whose COUNT was confirmed is not outstanding
is_open-settled : (p : Pdu) → is_open (record p { settled = true }) ≡ false
is_open-settled p = open_if_settled p.repeat p.acked

open_if_fresh : (r : Bool) → (not r && not false) && not false ≡ not r
open_if_fresh true = refl
open_if_fresh false = refl

-- the octets of a PDU that is not outstanding do not count
open_octets-closed : (p : Pdu) → is_open p ≡ false → open_octets p ≡ 0
open_octets-closed p closed = ap (λ b. cond b p.octets 0) closed

open_octets-le : (p : Pdu) → open_octets p ≤ p.octets
open_octets-le p = elim (is_open p) as (λ b. cond b p.octets 0 ≤ p.octets) [ true ↦ omega arith | false ↦ omega arith ]

settle-count : (first end : ℕ) (p : Pdu) → (settle first end p).count ≡ p.count
settle-count first end p =
    elim (is_open p && is_within first end p.count) as (λ b. (cond b (record p { settled = true }) p).count ≡ p.count) [ true ↦ refl | false ↦ refl ]

-- a PDU that is settled is not settled again
settle-settled : (first end : ℕ) (p : Pdu) → settle first end (record p { settled = true }) ≡ record p { settled = true }
settle-settled first end p = ap (λ b. cond (b && is_within first end p.count) (record p { settled = true }) (record p { settled = true })) (is_open-settled p)

settle-due : (first end : ℕ) (p : Pdu) → is_settled_by first end p ≡ true → settle first end p ≡ record p { settled = true }
settle-due first end p due = ap (λ b. cond b (record p { settled = true }) p) due

settle-idle : (first end : ℕ) (p : Pdu) → is_settled_by first end p ≡ false → settle first end p ≡ p
settle-idle first end p idle = ap (λ b. cond b (record p { settled = true }) p) idle

-- a list with one element in place of another, which a function makes the same of
map-set_same : {X : Type 0} (f : X → X) (xs : List X) (i : ℕ) (x y : X) → slice_get xs i ≡ Some x → f y ≡ f x → map f (set xs i y) ≡ map f xs
map-set_same f [] i x y there same = refl
map-set_same f (z ∷ xs) zero x y there same = let is : z ≡ x = cc (there) in ap (λ w. w ∷ map f xs) (same ∙ ap f (sym is))
map-set_same f (z ∷ xs) (suc i) x y there same = ap (λ l. f z ∷ l) (map-set_same f xs i x y there same)

map-fixed : {X : Type 0} (f : X → X) (xs : List X) → ((i : ℕ) (x : X) → slice_get xs i ≡ Some x → f x ≡ x) → map f xs ≡ xs
map-fixed f [] fixed = refl
map-fixed f (x ∷ xs) fixed = ap (λ w. w ∷ map f xs) (fixed 0 x refl) ∙ ap (λ l. x ∷ l) (map-fixed f xs (λ i y there. fixed (suc i) y there))

-- ---- one more PDU, and an ack

pub indexed_put : (pdus ys : List Pdu) (outstanding octets num : ℕ) (f g : ℕ → Option ℕ) (keys more : ℕ → Bool) (p : Pdu) → IsIndexed pdus outstanding f keys → ys ≡ pdus ++ p ∷ [] → p.octets ≤ 65535
    → p.acked ≡ false → p.settled ≡ false → length pdus < 2 ^ 32 - 1 → octets ≡ open_octets p → num ≡ length pdus → ((c : ℕ) → g c ≡ first_after (is_count c p.count) num (f c))
    → ((k : ℕ) → more k ≡ (keys k || (not p.repeat && is_key_of p.count num k))) → IsIndexed ys (outstanding + octets) g more
indexed_put pdus ys outstanding octets num f g keys more p indexed items small not_acked not_settled room count at notes opens =
    let sums = sum_by-append open_octets pdus (p ∷ []) in
    let le = open_octets-le p in
    let long : length ys ≡ length pdus + 1 = ap length items ∙ length-append pdus (p ∷ []) in
    let all : volume ys ≡ volume (pdus ++ p ∷ []) = ap volume items in
    let was = indexed.volume_is in
    let fresh : is_open p ≡ not p.repeat = ap (λ b. (not p.repeat && not b) && not p.settled) not_acked ∙ ap (λ b. (not p.repeat && not false) && not b) not_settled ∙ open_if_fresh p.repeat in
    record {
      volume_is = omega (arith, was, sums, all, count);
      bound = omega (arith, indexed.bound, le, long, count);
      fewer = omega (arith, long);
      firsts = λ c k.
          ap (λ (l : List Pdu). list_any (λ (r : Pdu). is_count c r.count) (take k l)) items
          ∙ firsts_push (λ c q. is_count c q.count) pdus f g p indexed.firsts (λ d. notes d ∙ ap (λ n. first_after (is_count d p.count) n (f d)) at) c k;
      open_keys = open_keys-put pdus ys p num keys more indexed.open_keys items at fresh opens;
    }

pub indexed_acked : (pdus : List Pdu) (outstanding octets : ℕ) (f : ℕ → Option ℕ) (keys less : ℕ → Bool) (i : ℕ) (p : Pdu) → IsIndexed pdus outstanding f keys → i < length pdus → p ≡ get_or pdus i p
    → octets ≡ open_octets p → ((k : ℕ) → less k ≡ (keys k && not (is_key_of p.count i k))) → IsIndexed (set pdus i (record p { acked = true })) (outstanding - octets) f less
indexed_acked pdus outstanding octets f keys less i p indexed inside read count closes =
    let q : Pdu = record p { acked = true } in
    let sums = sum_by-set open_octets pdus i q p inside in
    let old : open_octets (get_or pdus i p) ≡ open_octets p = ap open_octets (sym read) in
    let gone = open_octets-closed q (is_open-acked p) in
    let long = length-set pdus i q in
    let was = indexed.volume_is in
    record {
      volume_is = omega (arith, was, sums, old, gone, count);
      bound = omega (arith, indexed.bound, long);
      fewer = omega (arith, indexed.fewer, long);
      firsts = λ c k. same_any (λ (r : Pdu). is_count c r.count) k pdus i q p read refl ∙ indexed.firsts c k;
      open_keys = open_keys-closed pdus i p q keys less indexed.open_keys (slice_get-get_or pdus i p inside ∙ ap Some (sym read)) (is_open-acked p) closes;
    }

-- ---- COUNTs that are confirmed

-- some PDUs were settled, and so many octets are no longer outstanding
pub record IsSettling (first end : ℕ) (initial pdus : List Pdu) (octets : ℕ) (keys : ℕ → Bool) : Type 0 where
  pub same : map (settle first end) pdus ≡ map (settle first end) initial
  pub rest : volume pdus + octets ≡ volume initial
  pub open_keys : (k : ℕ) → keys k ≡ is_open_key pdus k

pub settling-len : (first end : ℕ) (initial pdus : List Pdu) (octets : ℕ) (keys : ℕ → Bool) → IsSettling first end initial pdus octets keys → length pdus ≡ length initial
settling-len first end initial pdus octets keys settling =
    sym (length-map pdus (settle first end)) ∙ ap length settling.same ∙ length-map initial (settle first end)

-- how many PDUs are outstanding
abbrev one_if_open : Pdu → ℕ
one_if_open p = cond (is_open p) 1 0

unfoldable pub open_len : List Pdu → ℕ
open_len pdus = sum_by one_if_open pdus

-- nothing is settled yet
pub settling_none : (first end : ℕ) (pdus : List Pdu) (keys : ℕ → Bool) → ((k : ℕ) → keys k ≡ is_open_key pdus k) → IsSettling first end pdus pdus 0 keys
settling_none first end pdus keys opens = record { same = refl; rest = omega arith; open_keys = opens }

-- a PDU with a key is settled, if its COUNT is one of those
due_if_found : (first end c : ℕ) (p : Pdu) → is_open p ≡ true → is_count c p.count ≡ true → first ≤ c → c < end → is_settled_by first end p ≡ true
due_if_found first end c p opened count from below = due p.count count
  where
    due : (o : Option ℕ) → is_count c o ≡ true → (is_open p && is_within first end o) ≡ true
    due None h = absurd (cc (h))
    due (Some d) h =
        let same = eqb-true _ _ h in
        let low : leb first d ≡ true = le-leb _ _ (omega (arith, same)) in
        let high : ltb d end ≡ true = lt-ltb _ _ (omega (arith, same)) in
        rw (opened, low, high) refl

pub settling_more : (first end c num : ℕ) (initial pdus : List Pdu) (octets more : ℕ) (keys less : ℕ → Bool) (x : Pdu) → IsSettling first end initial pdus octets keys → num < 2 ^ 32
    → keys (key_of c num) ≡ true → first ≤ c → c < end → x ≡ get_or pdus num x → open_octets (settle first end x) + more ≡ open_octets x
    → ((k : ℕ) → less k ≡ (keys k && not (is_key_of x.count num k))) → IsSettling first end initial (set pdus num (settle first end x)) (octets + more) less
settling_more first end c num initial pdus octets more keys less x settling small shown from below read counted closes =
    let found : Finds pdus c num = key_finds pdus c num small (sym (settling.open_keys (key_of c num)) ∙ shown) in
    let inside = slice_get_within pdus num found.pdu found.there in
    let is : x ≡ found.pdu = read ∙ get_or_from_slice_get pdus num found.pdu x found.there in
    let there : slice_get pdus num ≡ Some x = found.there ∙ ap Some (sym is) in
    let due : is_settled_by first end x ≡ true = due_if_found first end c x (ap is_open is ∙ found.is_open) (ap (λ (p : Pdu). is_count c p.count) is ∙ found.count) from below in
    let done = settle-due first end x due in
    let sums = sum_by-set open_octets pdus num (settle first end x) x inside in
    let old : open_octets (get_or pdus num x) ≡ open_octets x = ap open_octets (sym read) in
    let was = settling.rest in
    record {
      same = map-set_same (settle first end) pdus num x (settle first end x) there (ap (settle first end) done ∙ settle-settled first end x ∙ sym done) ∙ settling.same;
      rest = omega (arith, was, sums, old, counted);
      open_keys = open_keys-closed pdus num x (settle first end x) keys less settling.open_keys there (ap is_open done ∙ is_open-settled x) closes;
    }

-- one PDU less is outstanding
pub fewer_open : (first end c num : ℕ) (initial pdus : List Pdu) (octets : ℕ) (keys : ℕ → Bool) (x : Pdu) → IsSettling first end initial pdus octets keys → num < 2 ^ 32
    → keys (key_of c num) ≡ true → first ≤ c → c < end → x ≡ get_or pdus num x → open_len (set pdus num (settle first end x)) < open_len pdus
unfolding open_len
fewer_open first end c num initial pdus octets keys x settling small shown from below read =
    let found : Finds pdus c num = key_finds pdus c num small (sym (settling.open_keys (key_of c num)) ∙ shown) in
    let inside = slice_get_within pdus num found.pdu found.there in
    let is : x ≡ found.pdu = read ∙ get_or_from_slice_get pdus num found.pdu x found.there in
    let opened : is_open x ≡ true = ap is_open is ∙ found.is_open in
    let due : is_settled_by first end x ≡ true = due_if_found first end c x opened (ap (λ (p : Pdu). is_count c p.count) is ∙ found.count) from below in
    let sums = sum_by-set one_if_open pdus num (settle first end x) x inside in
    let old : one_if_open (get_or pdus num x) ≡ 1 = ap one_if_open (sym read) ∙ ap (λ b. cond b 1 0) opened in
    let new : one_if_open (settle first end x) ≡ 0 = ap one_if_open (settle-due first end x due) ∙ ap (λ b. cond b 1 0) (is_open-settled x) in
    omega (arith, sums, old, new)

-- where no key of such a COUNT is left, all are settled
pub settling_all : (first end : ℕ) (initial pdus : List Pdu) (octets : ℕ) (keys : ℕ → Bool) → IsSettling first end initial pdus octets keys → length initial < 2 ^ 32
    → ((k : ℕ) → keys k ≡ true → first ≤ k / 2 ^ 32 → end ≤ k / 2 ^ 32) → pdus ≡ map (settle first end) initial
settling_all first end initial pdus octets keys settling fewer none =
    sym (map-fixed (settle first end) pdus (λ i p there. settle-idle first end p (idle i p there))) ∙ settling.same
  where
    idle : (i : ℕ) (p : Pdu) → slice_get pdus i ≡ Some p → is_settled_by first end p ≡ false
    idle i p there = elim (cases_Bool (is_settled_by first end p)) [ inl due ↦ absurd (left p.count refl due) | inr idle' ↦ idle' ]
      where
        left : (o : Option ℕ) → p.count ≡ o → is_open p && is_within first end o ≡ true → ⊥
        left None is due = let h = (and_parts (is_open p) false due).1 in absurd (cc (h))
        left (Some c) is due =
            let parts = and_parts (is_open p) (is_within first end (Some c)) due in
            let range = and_parts (leb first c) (ltb c end) parts.1 in
            let from = leb-true _ _ range.0 in
            let below = ltb-true _ _ range.1 in
            let few : i < 2 ^ 32 = let inside = slice_get_within pdus i p there in let long = settling-len first end initial pdus octets keys settling in omega (arith, inside, long) in
            let is_open_there : is_open_key pdus (key_of c i) ≡ true = key_shows pdus c i p few there parts.0 (ap (is_count c) is ∙ eq-eqb c c refl) in
            let at = key_count c i few in
            let past = none (key_of c i) (settling.open_keys (key_of c i) ∙ is_open_there) (omega (arith, at)) in
            omega (arith, at, past)

-- what is kept after COUNTs are confirmed
any-settled : (first end c : ℕ) (xs : List Pdu) → list_any (λ (r : Pdu). is_count c r.count) (map (settle first end) xs) ≡ list_any (λ (r : Pdu). is_count c r.count) xs
any-settled first end c [] = refl
any-settled first end c (x ∷ xs) =
    ap (λ o. is_count c o || list_any (λ (r : Pdu). is_count c r.count) (map (settle first end) xs)) (settle-count first end x)
    ∙ ap (λ b. is_count c x.count || b) (any-settled first end c xs)

pub indexed_settled : (first end : ℕ) (pdus ys : List Pdu) (outstanding octets : ℕ) (f : ℕ → Option ℕ) (keys less : ℕ → Bool) → IsIndexed pdus outstanding f keys → ys ≡ map (settle first end) pdus
    → volume ys + octets ≡ volume pdus → ((k : ℕ) → less k ≡ is_open_key ys k) → IsIndexed ys (outstanding - octets) f less
indexed_settled first end pdus ys outstanding octets f keys less indexed items rest opens =
    let long : length ys ≡ length pdus = ap length items ∙ length-map pdus (settle first end) in
    let was = indexed.volume_is in
    record {
      volume_is = omega (arith, was, rest);
      bound = omega (arith, indexed.bound, long);
      fewer = omega (arith, indexed.fewer, long);
      firsts = λ c k.
          ap (λ (l : List Pdu). list_any (λ (r : Pdu). is_count c r.count) (take k l)) items
          ∙ ap (list_any (λ (r : Pdu). is_count c r.count)) (take-map (settle first end) k pdus)
          ∙ any-settled first end c (take k pdus) ∙ indexed.firsts c k;
      open_keys = opens;
    }
