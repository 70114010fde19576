-- SDUs that are forwarded with their sequence numbers are taken under the COUNTs that they had.
use Rattle.std.proofs.Common.{ℕ, ◌≡◌, ◌+◌, ◌<◌, ◌≤◌, ◌^◌, ◌++◌, ◌∷◌, [], true, false, Bool, List, Option, Some, None, fold, map, refl, sym, ap, ◌∙◌, subst, arith, ltb}
use Rattle.std.specs.List.{AllByRecursion}
use Rattle.std.proofs.lemmas.Bool.Decides.{nat_tests}
use Rattle.std.proofs.lemmas.List.{append-nil, append_assoc}
use Rattle.dc_base.specs.declared.numbers.SnLen.{SnLen}
use Rattle.dc_base.specs.Count.{window, modulus, sn, count_for}
use Rattle.forward.specs.Load.{Sdu}
use Rattle.pdcp_rx.specs.Entries.{AscendFrom, Entry, is_stored, with_sdu}
use Rattle.pdcp_rx.proofs.Laws.{sent_inferred}
use Rattle.node_rules.specs.Adopting.{count_of, counted, is_payload, with_counted}
use Rattle.node_rules.specs.Freezing.{numbered}

-- the entry can be taken: its sequence number says its COUNT, which may be there, and it is a payload
pub record IsTaken (n : SnLen) (r : ℕ) (may_be : ℕ → Bool) (e : Entry) : Type 0 where
  pub says : count_of n r (Some (sn n e.0)) ≡ Some e.0
  pub may : may_be e.0 ≡ true
  pub payload : is_payload e.1 ≡ true

-- those that are there lie below a COUNT
abbrev pub AreBelow : ℕ → List Entry → Type 0
AreBelow c es = AllByRecursion (λ (e : Entry). e.0 < c) es

not_stored : (c : ℕ) (es : List Entry) → AreBelow c es → is_stored c es ≡ false
not_stored c [] below = refl
not_stored c (e ∷ es) below = grind (arith, nat_tests, not_stored c es)

with_last : (c : ℕ) (sdu : List ℕ) (es : List Entry) → AreBelow c es → with_sdu c sdu es ≡ es ++ (c, sdu) ∷ []
with_last c sdu [] below = refl
with_last c sdu (e ∷ es) below = grind (arith, nat_tests, with_last c sdu es)

below_more : (c d : ℕ) (sdu : List ℕ) (es : List Entry) → c < d → AreBelow c es → AreBelow d (es ++ (c, sdu) ∷ [])
below_more c d sdu [] less below = (less, tt)
below_more c d sdu (e ∷ es) less below = (omega (arith, below.0, less), below_more c d sdu es less below.1)

below_later : (c d : ℕ) (es : List Entry) → c ≤ d → AreBelow c es → AreBelow d es
below_later c d [] le below = tt
below_later c d (e ∷ es) le below = (omega (arith, below.0, le), below_later c d es le below.1)

-- one entry
one_taken : (n : SnLen) (r : ℕ) (may_be : ℕ → Bool) (acc : List Entry) (e : Entry) → AreBelow e.0 acc → IsTaken n r may_be e
    → with_counted may_be acc e.1 (count_of n r (Some (sn n e.0))) ≡ acc ++ e ∷ []
one_taken n r may_be acc e below taken =
    rw (taken.says, taken.payload, taken.may, not_stored e.0 acc below) (with_last e.0 e.1 acc below)

-- entries in their order
pub numbered_taken : (n : SnLen) (r : ℕ) (may_be : ℕ → Bool) (from : ℕ) (acc es : List Entry) → AreBelow from acc → AscendFrom from es → AllByRecursion (IsTaken n r may_be) es
    → fold (λ xs (s : Sdu). with_counted may_be xs s.1 (count_of n r s.0)) acc (numbered n es) ≡ acc ++ es
numbered_taken n r may_be from acc [] below ascends taken = sym (append-nil acc)
numbered_taken n r may_be from acc (e ∷ es) below ascends taken =
    let here = one_taken n r may_be acc e (below_later from e.0 acc ascends.0 below) taken.0 in
    ap (λ (xs : List Entry). fold (λ xs (s : Sdu). with_counted may_be xs s.1 (count_of n r s.0)) xs (numbered n es)) here
    ∙ numbered_taken n r may_be (e.0 + 1) (acc ++ e ∷ []) es (below_more e.0 (e.0 + 1) e.1 acc (omega arith) (below_later from e.0 acc ascends.0 below)) ascends.1 taken.1
    ∙ append_assoc acc (e ∷ []) es

-- SDUs without a sequence number change nothing
pub fresh_taken : (n : SnLen) (r : ℕ) (may_be : ℕ → Bool) (acc : List Entry) (sdus : List (List ℕ))
    → fold (λ xs (s : Sdu). with_counted may_be xs s.1 (count_of n r s.0)) acc (map (λ (sdu : List ℕ). (None, sdu)) sdus) ≡ acc
fresh_taken n r may_be acc [] = refl
fresh_taken n r may_be acc (sdu ∷ sdus) = fresh_taken n r may_be acc sdus
