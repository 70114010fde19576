-- More claims, each of a key that is not spent for its identity.
use Rattle.std.proofs.Common.{ℕ, ◌≡◌, ◌==◌, ◌||◌, Bool, true, false, List, [], ◌∷◌, refl, sym, ap, subst, ◌∙◌, inl, inr, ◌⊎◌, arith}
use Rattle.std.specs.Prelude.{fold, not}
use Rattle.std.specs.List.{AllByRecursion, list_any}
use Rattle.std.proofs.lemmas.Bool.{and_parts, cases_Bool, eq-eqb, eqb-true}
use Rattle.std.proofs.lemmas.Bool.Decides.{nat_tests}
use Rattle.std.proofs.lemmas.List.Folds.{list_any-append}
use Rattle.dc_base.specs.Nodes.{is_same_key, is_same_side}
use Rattle.dc_base.specs.declared.nodes.KeyName.{KeyName}
use Rattle.dc_base.specs.declared.nodes.Side.{Side}
use Rattle.dc_base.specs.declared.nodes.Side.TheVariants.{Master, Second}
use Rattle.key_chain.specs.Book.{Claim, is_claimed, is_for, is_same_claim, is_spent, spends, with_claim}
use Rattle.run_keys.specs.OneClaimant.{AreOne, IsUnspent}

-- ---- keys and claims that are the same

same_side : (a b : Side) → is_same_side a b ≡ true → a ≡ b
same_side Master Master is = refl
same_side Master (Second d) is = absurd (let bad : false ≡ true = is in cc)
same_side (Second c) Master is = absurd (let bad : false ≡ true = is in cc)
same_side (Second c) (Second d) is = ap Second (eqb-true c d is)

side_itself : (a : Side) → is_same_side a a ≡ true
side_itself Master = refl
side_itself (Second c) = eq-eqb c c refl

pub same_key : (a b : KeyName) → is_same_key a b ≡ true → a ≡ b
same_key a b is =
    let parts = and_parts (a.root == b.root) (is_same_side a.side b.side) is in
    ap (λ (r : ℕ). record a { root = r }) (eqb-true a.root b.root parts.0) ∙ ap (λ s. record b { side = s }) (same_side a.side b.side parts.1)

pub key_itself : (a : KeyName) → is_same_key a a ≡ true
key_itself a = rw (eq-eqb a.root a.root refl) (side_itself a.side)

pub for_it : (id : ℕ) (key : KeyName) (c : Claim) → is_for id key c ≡ true → (id ≡ c.id) × (key ≡ c.key)
for_it id key c is = let parts = and_parts (id == c.id) (is_same_key key c.key) is in (eqb-true id c.id parts.0, same_key key c.key parts.1)

pub for_itself : (c : Claim) → is_for c.id c.key c ≡ true
for_itself c = rw (eq-eqb c.id c.id refl) (key_itself c.key)

pub same_claim : (a b : Claim) → is_same_claim a b ≡ true → a ≡ b
same_claim a b is =
    let parts = and_parts (is_for a.id a.key b) (b.est == a.est) is in
    let both = for_it a.id a.key b parts.0 in
    ap (λ (i : ℕ). record a { id = i }) both.0 ∙ ap (λ k. record a { id = b.id; key = k }) both.1 ∙ ap (λ e. record b { est = e }) (sym (eqb-true b.est a.est parts.1))

pub claim_itself : (c : Claim) → is_same_claim c c ≡ true
claim_itself c = rw (for_itself c) (eq-eqb c.est c.est refl)

-- one that another spends, spends that
spends_back : (c d : Claim) → spends c.id c.est c.key d ≡ true → spends d.id d.est d.key c ≡ true
spends_back c d is =
    let parts = and_parts (is_for c.id c.key d) (not (d.est == c.est)) is in
    let both = for_it c.id c.key d parts.0 in
    let here : is_for d.id d.key c ≡ true = ap (λ i. is_for i d.key c) (sym both.0) ∙ ap (λ k. is_for c.id k c) (sym both.1) ∙ for_itself c in
    let flip : (c.est == d.est) ≡ (d.est == c.est) = grind (arith, nat_tests) in
    rw here (ap not flip ∙ parts.1)

not_itself : (c : Claim) → spends c.id c.est c.key c ≡ true → ⊥
not_itself c is =
    let parts = and_parts (is_for c.id c.key c) (not (c.est == c.est)) is in
    let same : (c.est == c.est) ≡ true = eq-eqb c.est c.est refl in
    let bad : false ≡ true = rw same at parts.1 in absurd (cc bad)

-- ---- lists of them

pub any_of_claimed : (f : Claim → Bool) (cs : List Claim) (c : Claim) → is_claimed cs c ≡ true → f c ≡ true → list_any f cs ≡ true
any_of_claimed f [] c is holds = absurd (let bad : false ≡ true = is in cc)
any_of_claimed f (x ∷ cs) c is holds =
    elim (cases_Bool (is_same_claim c x)) [
      | inl same ↦ let here : f x ≡ true = ap f (sym (same_claim c x same)) ∙ holds in rw here refl
      | inr other ↦
          let rest : list_any f cs ≡ true = any_of_claimed f cs c (rw other at is) holds in
          elim (cases_Bool (f x)) [ inl yes' ↦ rw yes' refl | inr no' ↦ rw no' rest ]
    ]

-- a claim that passes a test, where one does
pub any_found : (f : Claim → Bool) (cs : List Claim) → list_any f cs ≡ true → (c : Claim) × (is_claimed cs c ≡ true) × (f c ≡ true)
any_found f [] is = absurd (let bad : false ≡ true = is in cc)
any_found f (x ∷ cs) is =
    elim (cases_Bool (f x)) [
      | inl yes' ↦ (x, rw (claim_itself x) refl, yes')
      | inr no' ↦ let more = any_found f cs (rw no' at is) in (more.0, either_way (is_same_claim more.0 x) (is_claimed cs more.0) more.1, more.2)
    ]
  where
    either_way : (a b : Bool) → b ≡ true → (a || b) ≡ true
    either_way true b is = refl
    either_way false b is = is

or_parts : (a b : Bool) → (a || b) ≡ true → (a ≡ true) ⊎ (b ≡ true)
or_parts true b is = inl refl
or_parts false b is = inr is

or_last : (a b : Bool) → (a || (b || false)) ≡ true → (a ≡ true) ⊎ (b ≡ true)
or_last true b is = inl refl
or_last false true is = inr refl
or_last false false is = absurd (let bad : false ≡ true = is in cc)

-- one more
module _ (f : Claim → Bool) (cs : List Claim) (new : Claim) where
  any_either : list_any f (with_claim cs new) ≡ true → (list_any f cs ≡ true) ⊎ (f new ≡ true)
  any_either is =
      elim (cases_Bool (is_claimed cs new)) [
        | inl there ↦ inl (rw there at is)
        | inr fresh ↦ or_last (list_any f cs) (f new) (sym (list_any-append f cs (new ∷ [])) ∙ (rw fresh at is))
      ]

  any_more : list_any f cs ≡ true → list_any f (with_claim cs new) ≡ true
  any_more is =
      elim (cases_Bool (is_claimed cs new)) [
        | inl there ↦ rw there is
        | inr fresh ↦ rw fresh (list_any-append f cs (new ∷ []) ∙ ap (λ b. b || (f new || false)) is)
      ]

-- it stands
claimed_here : (cs : List Claim) (new : Claim) → is_claimed (with_claim cs new) new ≡ true
claimed_here cs new =
    elim (cases_Bool (is_claimed cs new)) [
      | inl there ↦ rw there there
      | inr fresh ↦ rw fresh (list_any-append (is_same_claim new) cs (new ∷ []) ∙ ap (λ b. b || (is_same_claim new new || false)) fresh ∙ ap (λ b. b || false) (claim_itself new))
    ]

-- ---- of keys that are not spent

-- one more keeps each the only one
one_more : (cs : List Claim) (new : Claim) → AreOne cs → IsUnspent cs new → AreOne (with_claim cs new)
one_more cs new one unspent c stands =
    elim (cases_Bool (is_spent (with_claim cs new) c.id c.est c.key)) [
      | inl spent ↦ absurd (by_stands (any_either (is_same_claim c) cs new stands) (any_either (spends c.id c.est c.key) cs new spent))
      | inr no' ↦ no'
    ]
  where
    by_stands : (is_claimed cs c ≡ true) ⊎ (is_same_claim c new ≡ true) → (is_spent cs c.id c.est c.key ≡ true) ⊎ (spends c.id c.est c.key new ≡ true) → ⊥
    by_stands (inl old) (inl spent) = let bad : false ≡ true = sym (one c old) ∙ spent in absurd (cc bad)
    by_stands (inl old) (inr spent) =
        let back : is_spent cs new.id new.est new.key ≡ true = any_of_claimed (spends new.id new.est new.key) cs c old (spends_back c new spent) in
        let bad : false ≡ true = sym unspent ∙ back in absurd (cc bad)
    by_stands (inr same) (inl spent) =
        let it : c ≡ new = same_claim c new same in
        let bad : false ≡ true = sym unspent ∙ ap (λ (x : Claim). is_spent cs x.id x.est x.key) (sym it) ∙ spent in absurd (cc bad)
    by_stands (inr same) (inr spent) =
        let it : c ≡ new = same_claim c new same in
        not_itself new (ap (λ (x : Claim). spends x.id x.est x.key new) (sym it) ∙ spent)

-- another that is not spent stays so, if it is of the same establishment where it is of the same identity
still_unspent : (cs : List Claim) (new c : Claim) → (c.id ≡ new.id → c.est ≡ new.est) → IsUnspent cs c → IsUnspent (with_claim cs new) c
still_unspent cs new c same unspent =
    elim (cases_Bool (is_spent (with_claim cs new) c.id c.est c.key)) [
      | inl spent ↦ absurd (by (any_either (spends c.id c.est c.key) cs new spent))
      | inr no' ↦ no'
    ]
  where
    by : (is_spent cs c.id c.est c.key ≡ true) ⊎ (spends c.id c.est c.key new ≡ true) → ⊥
    by (inl spent) = let bad : false ≡ true = sym unspent ∙ spent in absurd (cc bad)
    by (inr spent) =
        let parts = and_parts (is_for c.id c.key new) (not (new.est == c.est)) spent in
        let est = same (for_it c.id c.key new parts.0).0 in
        let it : (new.est == c.est) ≡ true = eq-eqb new.est c.est (sym est) in
        let bad : false ≡ true = rw it at parts.1 in absurd (cc bad)

-- several, the establishment of each given by its identity
module _ (E : ℕ → ℕ) where
  -- a claim is of that establishment
  abbrev pub IsOfIdentity : Claim → Type 0
  IsOfIdentity c = c.est ≡ E c.id

  all_unspent : (cs : List Claim) (new : Claim) → IsOfIdentity new → (ns : List Claim) → AllByRecursion IsOfIdentity ns → AllByRecursion (IsUnspent cs) ns → AllByRecursion (IsUnspent (with_claim cs new)) ns
  all_unspent cs new is [] are unspent = tt
  all_unspent cs new is (n ∷ ns) are unspent =
      (still_unspent cs new n (λ same. are.0 ∙ ap E same ∙ sym is) unspent.0, all_unspent cs new is ns are.1 unspent.1)

  pub one_all : (ns cs : List Claim) → AreOne cs → AllByRecursion IsOfIdentity ns → AllByRecursion (IsUnspent cs) ns → AreOne (fold with_claim cs ns)
  one_all [] cs one are unspent = one
  one_all (n ∷ ns) cs one are unspent = one_all ns (with_claim cs n) (one_more cs n one unspent.0) are.1 (all_unspent cs n are.0 ns are.1 unspent.1)

-- what stands after several stood before, or is one of them
pub any_fold : (f : Claim → Bool) (ns cs : List Claim) → list_any f cs ≡ true → list_any f (fold with_claim cs ns) ≡ true
any_fold f [] cs is = is
any_fold f (n ∷ ns) cs is = any_fold f ns (with_claim cs n) (any_more f cs n is)

pub claimed_all : (ns cs : List Claim) → AllByRecursion (λ n. is_claimed (fold with_claim cs ns) n ≡ true) ns
claimed_all ns cs = from ns cs
  where
    from : (ns cs : List Claim) → AllByRecursion (λ n. is_claimed (fold with_claim cs ns) n ≡ true) ns
    from [] cs = tt
    from (n ∷ ns) cs = (any_fold (is_same_claim n) ns (with_claim cs n) (claimed_here cs n), from ns (with_claim cs n))

pub each_claimed : (P : Claim → Type 0) (ns cs : List Claim) → ((c : Claim) → is_claimed cs c ≡ true → P c) → AllByRecursion P ns → (c : Claim) → is_claimed (fold with_claim cs ns) c ≡ true → P c
each_claimed P [] cs old new c is = old c is
each_claimed P (n ∷ ns) cs old new c is = each_claimed P ns (with_claim cs n) before new.1 c is
  where
    by : (d : Claim) → (is_claimed cs d ≡ true) ⊎ (is_same_claim d n ≡ true) → P d
    by d (inl stands) = old d stands
    by d (inr same) = subst P (sym (same_claim d n same)) new.0

    before : (d : Claim) → is_claimed (with_claim cs n) d ≡ true → P d
    before d stands = by d (any_either (is_same_claim d) cs n stands)
