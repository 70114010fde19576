-- The book that the maps stand for, after each change of them.
use Rattle.std.proofs.Common.{◌≡◌, ℕ, zero, suc, ◌+◌, ◌==◌, ◌<◌, Bool, true, false, not, IsTrue, List, [], ◌∷◌, ◌++◌, Option, None, Some, Result, Ok, Err, is_some, length, arith, slice_get, slice_index, get_or, set, refl, sym, ap, ◌∙◌}
use Rattle.std.specs.Result.{IsErrAnd, IsErrOf}
use Rattle.std.proofs.lemmas.Bool.Decides.{nat_tests}
use Rattle.std.specs.Map.{keys_of, lookup, values_of}
use Rattle.std.proofs.lemmas.Option.{get_or_from_slice_get}
use Rattle.indexmap.specs.IndexMap.{set_value_at}
use Rattle.key_chain.specs.declared.key_book.KeyErr.{KeyErr}
use Rattle.key_chain.specs.declared.key_book.KeyErr.TheVariants.{Memory}
use Rattle.key_chain.specs.declared.key_book.KeyOfId.{KeyOfId}
use Rattle.key_chain.specs.Book.{Book, is_claimed, noting, with_claim, with_next_drawn}
use Rattle.key_chain.specs.BookOfMaps.{book_of, claim_of, claims_of}
use Rattle.key_chain.proofs.Claims.{claims_of-append}
use Rattle.key_chain.proofs.Roots.{keys_of-append, keys_of-set_value_at, values_of-append, values_of-set_value_at}

-- a root is noted
pub book_of-noting : (roots : List (List ℕ × ℕ)) (current : ℕ) (claims : List (KeyOfId × ℕ)) (root : List ℕ) (after : List (List ℕ × ℕ))
    → after ≡ roots ++ (root, 0) ∷ [] → book_of after current claims ≡ noting (book_of roots current claims) root
book_of-noting roots current claims root after e = λ i. record {
  roots = (ap keys_of e ∙ keys_of-append roots (root, 0)) i;
  drawn = (ap values_of e ∙ values_of-append roots (root, 0)) i;
  current = current;
  claims = claims_of claims;
}

-- the next SN Counter of the current root is drawn
pub book_of-drawn : (roots : List (List ℕ × ℕ)) (current : ℕ) (claims : List (KeyOfId × ℕ)) (count : ℕ) → slice_get (values_of roots) current ≡ Some count
    → book_of (set_value_at roots current (count + 1)) current claims ≡ with_next_drawn (book_of roots current claims)
book_of-drawn roots current claims count at =
    let drawn = get_or_from_slice_get (values_of roots) current count 0 at in
    λ i. record {
      roots = keys_of-set_value_at roots current (count + 1) i;
      drawn = (values_of-set_value_at roots current (count + 1) ∙ (λ j. set (values_of roots) current (sym drawn j + 1))) i;
      current = current;
      claims = claims_of claims;
    }

-- the count that was written is read again
pub written : (roots : List (List ℕ × ℕ)) (i w : ℕ) → i < length roots → slice_index (values_of (set_value_at roots i w)) i ≡ w
written [] i w inside = absurd (omega arith)
written (x ∷ xs) zero w inside = refl
written (x ∷ xs) (suc i) w inside = written xs i w (omega arith)

-- a claim that nobody made is made
pub with_claim-new : (claims after : List (KeyOfId × ℕ)) (what : KeyOfId) (est : ℕ) → after ≡ claims ++ (what, est) ∷ [] → is_claimed (claims_of claims) (claim_of (what, est)) ≡ false
    → claims_of after ≡ with_claim (claims_of claims) (claim_of (what, est))
with_claim-new claims after what est e new =
    ap claims_of e ∙ claims_of-append what est claims ∙ sym (rw new refl)

-- a claim that stands changes nothing
pub with_claim-again : (claims : List (KeyOfId × ℕ)) (what : KeyOfId) (est : ℕ) → is_claimed (claims_of claims) (claim_of (what, est)) ≡ true
    → claims_of claims ≡ with_claim (claims_of claims) (claim_of (what, est))
with_claim-again claims what est stands = sym (rw stands refl)

pub other_number : (m n : ℕ) → (m ≡ n → ⊥) → not (m == n) ≡ true
other_number m n apart = grind (arith, nat_tests)

pub same_number : (m n : ℕ) → m ≡ n → (m == n) ≡ true
same_number m n e = grind (arith, nat_tests)

-- want of memory is no other error
pub only_memory : {T : Type 0} (r : Result T KeyErr) (e : KeyErr) → (Memory ≡ e → ⊥) → IsErrAnd r (λ x. x ≡ Memory) → IsErrOf r e → ⊥
only_memory (Ok v) e other held is = held
only_memory (Err x) e other held is = let same : x ≡ e = cc in other (sym held ∙ same)

-- what a look-up does not find
pub not_found : {X : Type 0} (found : Option X) → false ≡ is_some found → found ≡ None
not_found None e = refl
not_found (Some x) e = absurd cc
