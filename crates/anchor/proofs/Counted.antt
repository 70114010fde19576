-- What is taken of the SDUs that were forwarded: it ascends, and lies in the window.
use Rattle.std.proofs.Common.{ℕ, ◌≡◌, ◌+◌, ◌-◌, ◌^◌, ◌<◌, ◌≤◌, ltb, Bool, true, false, not, List, [], ◌∷◌, Option, Some, None, All, refl, sym, ◌∙◌, arith, inl, inr}
use Rattle.std.specs.List.{AllByRecursion}
use Rattle.std.proofs.lemmas.Bool.{cases_Bool, ltb-true}
use Rattle.std.proofs.lemmas.List.Elements.{All-cons, All-from_recursion, All-head, All-tail}
use Rattle.std.specs.BTreeMap.{insert_entry, is_at}
use Rattle.std.specs.Map.{lookup}
use Rattle.std.specs.Option.{is_some}
use Rattle.std.specs.Ordering.{nat_cmp}
use Rattle.dc_base.specs.Count.{IsCountFor, modulus, window}
use Rattle.dc_base.specs.declared.numbers.SnLen.{SnLen}
use Rattle.dc_base.proofs.Counting.{count_for_finds}
use Rattle.forward.specs.Load.{Sdu}
use Rattle.pdcp_rx.specs.Entries.{AscendFrom, Entry, is_stored, with_sdu}
use Rattle.pdcp_rx.specs.Receiver.{IsInOrder}
use Rattle.pdcp_rx.proofs.Entries.{AscendFrom-with_sdu, each_with_sdu, each_weaker}
use Rattle.pdcp_rx.proofs.MapWords.{insert_entry-new, is_some-lookup}
use Rattle.pdcp_pdu.specs.DataPdu.{IsPayload}
use Rattle.pdcp_tx.specs.Sender.{counts}
use Rattle.node_rules.specs.Adopting.{count_of, counted, is_payload, numbered_of, stored_of, with_counted}
use Rattle.std.specs.Prelude.{fold, ◌&&◌, nat_lt}

-- a COUNT that an SN stands for lies in the window round the reference
pub count_of_finds : (n : SnLen) (r : ℕ) (sn : Option ℕ) (c : ℕ) → count_of n r sn ≡ Some c → (r ≤ c + window n) × (c < r + window n)
count_of_finds n r None c is = absurd cc
count_of_finds n r (Some s) c is =
    elim (cases_Bool (ltb s (modulus n))) [
      | inl yes' ↦ let found = (count_for_finds n r s c (ltb-true s (modulus n) yes') (rw yes' at is)).0 in (found.low, found.high)
      | inr no' ↦ absurd (let none : ◌≡◌ {A = Option ℕ} None (Some c) = rw no' at is in cc)
    ]

-- one more SDU, of a COUNT that may be there
module _ (Q : List Entry → Type 0) (may_be : ℕ → Bool) where
  with_counted_keeps : (es : List Entry) (sdu : List ℕ) (o : Option ℕ) → Q es
      → ((c : ℕ) → o ≡ Some c → may_be c ≡ true → is_stored c es ≡ false → Q (with_sdu c sdu es))
      → Q (with_counted may_be es sdu o)
  with_counted_keeps es sdu None kept one = kept
  with_counted_keeps es sdu (Some c) kept one =
      elim (cases_Bool (is_payload sdu)) [
        | inr no' ↦ rw no' kept
        | inl payload ↦ elim (cases_Bool (may_be c)) [
          | inr no' ↦ rw (payload, no') kept
          | inl may ↦ elim (cases_Bool (is_stored c es)) [
            | inl there ↦ rw (payload, may, there) kept
            | inr new ↦ rw (payload, may, new) (one c refl may new)
          ]
        ]
      ]

-- what holds at first, and stays so, holds of all
module _ (Q : List Entry → Type 0) (n : SnLen) (r : ℕ) (may_be : ℕ → Bool)
    (more : (es : List Entry) (sdu : List ℕ) (sn : Option ℕ) (c : ℕ) → Q es → count_of n r sn ≡ Some c → may_be c ≡ true → is_stored c es ≡ false → Q (with_sdu c sdu es)) where
  all_counted : (es : List Entry) (sdus : List Sdu) → Q es → Q (fold (λ es (s : Sdu). with_counted may_be es s.1 (count_of n r s.0)) es sdus)
  all_counted es [] kept = kept
  all_counted es (s ∷ sdus) kept =
      all_counted (with_counted may_be es s.1 (count_of n r s.0)) sdus
      (with_counted_keeps Q may_be es s.1 (count_of n r s.0) kept (λ c is may new. more es s.1 s.0 c kept is may new))

each_count : (P : ℕ → Type 0) (es : List Entry) → AllByRecursion (λ e. P e.0) es → AllByRecursion P (counts es)
each_count P [] all = tt
each_count P (e ∷ es) all = (all.0, each_count P es all.1)

pub numbered_ascends : (n : SnLen) (dl : ℕ) (sdus : List Sdu) → AscendFrom 0 (numbered_of n dl sdus)
numbered_ascends n dl sdus =
    all_counted (AscendFrom 0) n dl (λ c. nat_lt c dl) (λ es sdu sn c kept is may new. AscendFrom-with_sdu 0 c sdu es (omega arith) new kept) [] sdus tt

numbered_each : (n : SnLen) (dl : ℕ) (sdus : List Sdu) → AllByRecursion (λ e. (e.0 < dl) × (dl ≤ e.0 + window n)) (numbered_of n dl sdus)
numbered_each n dl sdus =
    all_counted (AllByRecursion (λ e. (e.0 < dl) × (dl ≤ e.0 + window n))) n dl (λ c. nat_lt c dl)
    (λ es sdu sn c kept is may new. each_with_sdu (λ e. (e.0 < dl) × (dl ≤ e.0 + window n)) c sdu es (ltb-true c dl may, (count_of_finds n dl sn c is).0) kept) [] sdus tt

pub numbered_below : (n : SnLen) (dl : ℕ) (sdus : List Sdu) → All (λ c. c < dl) (counts (numbered_of n dl sdus))
numbered_below n dl sdus =
    All-from_recursion _ _ (each_count (λ c. c < dl) (numbered_of n dl sdus) (each_weaker _ (λ e. e.0 < dl) (λ e both. both.0) (numbered_of n dl sdus) (numbered_each n dl sdus)))

pub numbered_near : (n : SnLen) (dl : ℕ) (sdus : List Sdu) → All (λ c. dl ≤ c + window n) (counts (numbered_of n dl sdus))
numbered_near n dl sdus =
    All-from_recursion _ _ (each_count (λ c. dl ≤ c + window n) (numbered_of n dl sdus) (each_weaker _ (λ e. dl ≤ e.0 + window n) (λ e both. both.1) (numbered_of n dl sdus) (numbered_each n dl sdus)))

-- both tests hold
both_true : (a b : Bool) → (a && b) ≡ true → (a ≡ true) × (b ≡ true)
both_true true true is = (refl, refl)
both_true true false is = absurd cc
both_true false b is = absurd cc

stored_above : (ul c : ℕ) → (nat_lt ul c && nat_lt c (2 ^ 32 - 1)) ≡ true → (ul < c) × (c < 2 ^ 32 - 1)
stored_above ul c may =
    let both = both_true (nat_lt ul c) (nat_lt c (2 ^ 32 - 1)) may in
    (ltb-true ul c both.0, ltb-true c (2 ^ 32 - 1) both.1)

pub stored_in_order : (n : SnLen) (ul : ℕ) (sdus : List Sdu) → IsInOrder (record { n = n; deliv = ul; stored = stored_of n ul sdus })
stored_in_order n ul sdus =
    let may_be : ℕ → Bool = λ c. nat_lt ul c && nat_lt c (2 ^ 32 - 1) in
    record {
      ascends = all_counted (AscendFrom (ul + 1)) n ul may_be (λ es sdu sn c kept is may new. AscendFrom-with_sdu (ul + 1) c sdu es (omega (arith, (stored_above ul c may).0)) new kept) [] sdus tt;
      in_window = all_counted (AllByRecursion (λ e. e.0 < ul + window n)) n ul may_be (λ es sdu sn c kept is may new. each_with_sdu (λ e. e.0 < ul + window n) c sdu es (count_of_finds n ul sn c is).1 kept) [] sdus tt;
      not_last = all_counted (AllByRecursion (λ e. e.0 < 2 ^ 32 - 1)) n ul may_be (λ es sdu sn c kept is may new. each_with_sdu (λ e. e.0 < 2 ^ 32 - 1) c sdu es (stored_above ul c may).1 kept) [] sdus tt;
    }

-- ---- one more

not_true : (b : Bool) → not b ≡ true → b ≡ false
not_true true is = absurd cc
not_true false is = refl

not_false : (b : Bool) → not b ≡ false → b ≡ true
not_false true is = refl
not_false false is = absurd cc

pub counted_out : (may_be : ℕ → Bool) (es : List Entry) (sdu : List ℕ) (c : ℕ) → not (may_be c) ≡ true → es ≡ with_counted may_be es sdu (Some c)
counted_out may_be es sdu c out =
    elim (cases_Bool (is_payload sdu)) [
      | inl yes' ↦ rw (yes', not_true (may_be c) out) refl
      | inr no' ↦ rw no' refl
    ]

pub counted_there : (may_be : ℕ → Bool) (es : List Entry) (sdu : List ℕ) (c : ℕ) → is_payload sdu ≡ true → not (may_be c) ≡ false
    → is_some (lookup (is_at (nat_cmp c)) es) ≡ true → es ≡ with_counted may_be es sdu (Some c)
counted_there may_be es sdu c payload out there =
    let is = sym (is_some-lookup c es) ∙ there in
    rw (payload, not_false (may_be c) out, is) refl

pub counted_new : (may_be : ℕ → Bool) (es : List Entry) (sdu : List ℕ) (c : ℕ) → is_payload sdu ≡ true → not (may_be c) ≡ false
    → is_some (lookup (is_at (nat_cmp c)) es) ≡ false → insert_entry nat_cmp es c sdu ≡ with_counted may_be es sdu (Some c)
counted_new may_be es sdu c payload out absent =
    let new = sym (is_some-lookup c es) ∙ absent in
    insert_entry-new c sdu es new ∙ rw (payload, not_false (may_be c) out, new) refl

all_with_sdu : (P : Entry → Type 0) (c : ℕ) (sdu : List ℕ) (es : List Entry) → P (c, sdu) → All P es → All P (with_sdu c sdu es)
all_with_sdu P c sdu [] one all = All-cons P (c, sdu) [] one all
all_with_sdu P c sdu (e ∷ es) one all =
    elim (cases_Bool (ltb c e.0)) [
      | inl yes' ↦ rw yes' (All-cons P (c, sdu) (e ∷ es) one all)
      | inr no' ↦ rw no' (All-cons P e (with_sdu c sdu es) (All-head P e es all) (all_with_sdu P c sdu es one (All-tail P e es all)))
    ]

pub payloads_new : (es : List Entry) (sdu : List ℕ) (c : ℕ) → is_some (lookup (is_at (nat_cmp c)) es) ≡ false → IsPayload sdu
    → All (λ (e : Entry). IsPayload e.1) es → All (λ (e : Entry). IsPayload e.1) (insert_entry nat_cmp es c sdu)
payloads_new es sdu c absent payload all =
    rw (insert_entry-new c sdu es (sym (is_some-lookup c es) ∙ absent)) (all_with_sdu (λ e. IsPayload e.1) c sdu es payload all)
