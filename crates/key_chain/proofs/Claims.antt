-- The list of claims, and the map that keeps them by identity and key.
use Rattle.std.proofs.Common.{◌≡◌, ℕ, ◌==◌, Bool, true, false, not, cond, ◌&&◌, ◌||◌, List, [], ◌∷◌, ◌++◌, Option, None, Some, is_some, IsTrue, refl, sym, ap, ◌∙◌, arith}
use Rattle.std.specs.List.{list_any}
use Rattle.std.specs.Map.{lookup}
use Rattle.std.proofs.lemmas.Bool.Decides.{nat_tests}
use Rattle.dc_base.specs.Nodes.{is_same_key, is_same_side}
use Rattle.dc_base.specs.declared.nodes.KeyName.{KeyName}
use Rattle.dc_base.specs.declared.nodes.Side.{Side}
use Rattle.dc_base.specs.declared.nodes.Side.TheVariants.{Master, Second}
use Rattle.key_chain.specs.declared.key_book.KeyOfId.{KeyOfId}
use Rattle.key_chain.specs.Book.{Claim, HasOneClaimant, is_claimed, is_for, is_spent}
use Rattle.key_chain.specs.BookOfMaps.{claim_of, claims_of}
use Rattle.dc_base.specs.contracts.nodes.SidePartialEq.TheImpl as sides
use Rattle.key_chain.specs.contracts.key_book.KeyOfIdPartialEq.TheImpl as block

-- both name one identity and one key
abbrev pub same : KeyOfId → KeyOfId → Bool
same a b = (a.id == b.id) && is_same_key a.key b.key

and_true_left : (a b : Bool) → (a && b) ≡ true → a ≡ true
and_true_left true b e = refl
and_true_left false b e = e

and_true_right : (a b : Bool) → (a && b) ≡ true → b ≡ true
and_true_right true b e = e
and_true_right false b e = absurd cc

equal_numbers : (m n : ℕ) → (m == n) ≡ true → m ≡ n
equal_numbers m n e = grind (arith, nat_tests)

equal_sides : (s t : Side) → is_same_side s t ≡ true → s ≡ t
equal_sides Master Master e = refl
equal_sides Master (Second d) e = absurd cc
equal_sides (Second c) Master e = absurd cc
equal_sides (Second c) (Second d) e = ap Second (equal_numbers c d e)

equal_keys : (a b : KeyName) → is_same_key a b ≡ true → a ≡ b
equal_keys a b e =
    let root = equal_numbers a.root b.root (and_true_left _ _ e) in
    let side = equal_sides a.side b.side (and_true_right (a.root == b.root) _ e) in
    λ i. record { root = root i; side = side i }

equal : (a b : KeyOfId) → same a b ≡ true → a ≡ b
equal a b e =
    let id = equal_numbers a.id b.id (and_true_left _ _ e) in
    let key = equal_keys a.key b.key (and_true_right (a.id == b.id) _ e) in
    λ i. record { id = id i; key = key i }

flip_numbers : (m n : ℕ) → (m == n) ≡ (n == m)
flip_numbers m n = grind (arith, nat_tests)

flip_sides : (s t : Side) → is_same_side s t ≡ is_same_side t s
flip_sides Master Master = refl
flip_sides Master (Second d) = refl
flip_sides (Second c) Master = refl
flip_sides (Second c) (Second d) = flip_numbers c d

flip : (a b : KeyOfId) → same a b ≡ same b a
flip a b = λ i. flip_numbers a.id b.id i && (flip_numbers a.key.root b.key.root i && flip_sides a.key.side b.key.side i)

-- the value that was found passes the test
abbrev pub passes : (ℕ → Bool) → Option ℕ → Bool
passes test None = false
passes test (Some est) = test est

pub not-not : (a : Bool) → not (not a) ≡ a
not-not true = refl
not-not false = refl

or_false : (a : Bool) → (a || false) ≡ a
or_false true = refl
or_false false = refl

none_passes : (what : KeyOfId) (test : ℕ → Bool) (cs : List Claim) → list_any (is_for what.id what.key) cs ≡ false
    → list_any (λ c. is_for what.id what.key c && test c.est) cs ≡ false
none_passes what test [] none = refl
none_passes what test (c ∷ cs) none = by (is_for what.id what.key c) none (none_passes what test cs)
  where
    by : (b : Bool) → (b || list_any (is_for what.id what.key) cs) ≡ false
        → (list_any (is_for what.id what.key) cs ≡ false → list_any (λ d. is_for what.id what.key d && test d.est) cs ≡ false)
        → ((b && test c.est) || list_any (λ d. is_for what.id what.key d && test d.est) cs) ≡ false
    by true e rest = absurd cc
    by false e rest = rest e

negated : (b : Bool) → IsTrue (not b) → b ≡ false
negated true h = absurd cc
negated false h = refl

-- the one claim of an identity and key passes a test exactly where the look-up's answer does
pub list_any-lookup : (what : KeyOfId) (test : ℕ → Bool) (es : List (KeyOfId × ℕ)) → HasOneClaimant (claims_of es)
    → list_any (λ c. is_for what.id what.key c && test c.est) (claims_of es) ≡ passes test (lookup (same what) es)
list_any-lookup what test [] one = refl
list_any-lookup what test (e ∷ es) one = by (same what e.0) refl (list_any-lookup what test es one.1)
  where
    by : (b : Bool) → same what e.0 ≡ b
        → list_any (λ c. is_for what.id what.key c && test c.est) (claims_of es) ≡ passes test (lookup (same what) es)
        → ((b && test e.1) || list_any (λ c. is_for what.id what.key c && test c.est) (claims_of es)) ≡ passes test (cond b (Some e.1) (lookup (same what) es))
    by false apart rest = rest
    by true here rest =
        let others : list_any (is_for what.id what.key) (claims_of es) ≡ false =
        ap (λ (k : KeyOfId). list_any (is_for k.id k.key) (claims_of es)) (equal what e.0 here) ∙ negated _ one.0 in
        ap (λ b. test e.1 || b) (none_passes what test (claims_of es) others) ∙ or_false (test e.1)

-- one more claim, of an identity and key that none has
any-more : (a what : KeyOfId) (est : ℕ) (es : List (KeyOfId × ℕ)) → list_any (is_for a.id a.key) (claims_of (es ++ (what, est) ∷ [])) ≡ (list_any (is_for a.id a.key) (claims_of es) || same a what)
any-more a what est [] = or_false (same a what)
any-more a what est (e ∷ es) = ap (λ b. same a e.0 || b) (any-more a what est es) ∙ or_assoc (same a e.0) _ _
  where
    or_assoc : (x y z : Bool) → (x || (y || z)) ≡ ((x || y) || z)
    or_assoc true y z = refl
    or_assoc false y z = refl

pub HasOneClaimant-more : (what : KeyOfId) (est : ℕ) (es : List (KeyOfId × ℕ)) → HasOneClaimant (claims_of es) → lookup (same what) es ≡ None
    → HasOneClaimant (claims_of (es ++ (what, est) ∷ []))
HasOneClaimant-more what est [] one none = (refl, tt)
HasOneClaimant-more what est (e ∷ es) one none = by (same what e.0) refl none (HasOneClaimant-more what est es one.1)
  where
    by : (b : Bool) → same what e.0 ≡ b → cond b (Some e.1) (lookup (same what) es) ≡ None
        → (lookup (same what) es ≡ None → HasOneClaimant (claims_of (es ++ (what, est) ∷ [])))
        → HasOneClaimant (claims_of ((e ∷ es) ++ (what, est) ∷ []))
    by true here found rest = absurd cc
    by false apart found rest =
        let others : list_any (is_for e.0.id e.0.key) (claims_of es) ≡ false = negated _ one.0 in
        let new : same e.0 what ≡ false = flip e.0 what ∙ apart in
        (ap not (any-more e.0 what est es ∙ (λ i. others i || new i)), rest found)

-- a new entry goes to the end, as a claim
pub claims_of-append : (what : KeyOfId) (est : ℕ) (es : List (KeyOfId × ℕ)) → claims_of (es ++ (what, est) ∷ []) ≡ claims_of es ++ claim_of (what, est) ∷ []
claims_of-append what est [] = refl
claims_of-append what est (e ∷ es) = ap (λ cs. claim_of e ∷ cs) (claims_of-append what est es)

-- the equality of the map's keys, as it is derived
abbrev pub is_equal : KeyOfId → KeyOfId → Bool
is_equal = (block.ghosts).eq

agree_sides : (s t : Side) → (sides.ghosts).eq s t ≡ is_same_side s t
agree_sides Master Master = refl
agree_sides Master (Second d) = refl
agree_sides (Second c) Master = refl
agree_sides (Second c) (Second d) = refl

pub agree : (a b : KeyOfId) → is_equal a b ≡ same a b
agree a b = ap (λ e. (a.id == b.id) && ((a.key.root == b.key.root) && e)) (agree_sides a.key.side b.key.side)

-- what the map answers for an identity and key tells whether another establishment claimed it
pub is_spent-found : (what : KeyOfId) (est : ℕ) (es : List (KeyOfId × ℕ)) → HasOneClaimant (claims_of es) → (found : Option ℕ) → found ≡ lookup (is_equal what) es
    → is_spent (claims_of es) what.id est what.key ≡ passes (λ other. not (other == est)) found
is_spent-found what est es one found is =
    list_any-lookup what (λ other. not (other == est)) es one ∙ ap (passes (λ other. not (other == est))) (sym (is ∙ (λ i. lookup (λ k. agree what k i) es)))

-- and whether this one did
pub is_claimed-found : (what : KeyOfId) (est : ℕ) (es : List (KeyOfId × ℕ)) → HasOneClaimant (claims_of es) → (found : Option ℕ) → found ≡ lookup (is_equal what) es
    → is_claimed (claims_of es) (claim_of (what, est)) ≡ passes (λ other. other == est) found
is_claimed-found what est es one found is =
    list_any-lookup what (λ other. other == est) es one ∙ ap (passes (λ other. other == est)) (sym (is ∙ (λ i. lookup (λ k. agree what k i) es)))

-- a claim of what nobody claimed
pub HasOneClaimant-new : (what : KeyOfId) (est : ℕ) (es : List (KeyOfId × ℕ)) → HasOneClaimant (claims_of es) → lookup (is_equal what) es ≡ None
    → HasOneClaimant (claims_of (es ++ (what, est) ∷ []))
HasOneClaimant-new what est es one none = HasOneClaimant-more what est es one (sym (λ i. lookup (λ k. agree what k i) es) ∙ none)
