-- What is so of all that is held, by identities, stays so as one is put or taken away.
use Rattle.std.proofs.Common.{◌≡◌, ℕ, ◌==◌, false, Bool, List, Option, Some, None, refl, sym, ap, ◌∙◌, subst, inl, inr, arith}
use Rattle.std.specs.Option.{option_map}
use Rattle.std.specs.Prelude.{if◌then◌else◌}
use Rattle.std.proofs.lemmas.Bool.{cases_Bool, eqb-true}
use Rattle.node_rules.specs.Held.{held, holding}
use Rattle.master_runs.proofs.Holding.{held-other, held-same}
use Rattle.run_control.specs.Orders.{Ascends}
use Rattle.run_control.proofs.Ascending.{ascends_with, ascends_without, seen_without}
use Rattle.run_senders.specs.Holders.{IfThere}

pub if_there : {X : Type 0} (P Q : X → Type 0) → ((y : X) → P y → Q y) → (o : Option X) → IfThere P o → IfThere Q o
if_there P Q gives None is = tt
if_there P Q gives (Some y) is = gives y is

module _ {X : Type 0} (P : ℕ → X → Type 0) where
  -- one is put
  pub put_so : (id : ℕ) (y : X) (xs : List (ℕ × X)) → P id y → ((k : ℕ) → (id == k) ≡ false → IfThere (P k) (held k xs)) → (k : ℕ)
      → IfThere (P k) (held k (holding id (Some y) xs))
  put_so id y xs so others k =
      elim (cases_Bool (id == k)) [
        | inl same ↦ subst (λ j. IfThere (P j) (held j (holding id (Some y) xs))) (eqb-true id k same) (subst (IfThere (P id)) (sym (held-same id y xs)) so)
        | inr apart ↦ subst (IfThere (P k)) (sym (held-other id k y xs apart)) (others k apart)
      ]

  same_map : (o : Option X) → option_map (λ (y : X). y) o ≡ o
  same_map None = refl
  same_map (Some y) = refl

  -- one is taken away
  pub out_so : (id : ℕ) (xs : List (ℕ × X)) → Ascends xs → ((k : ℕ) → (id == k) ≡ false → IfThere (P k) (held k xs)) → (k : ℕ)
      → IfThere (P k) (held k (holding id None xs))
  out_so id xs up others k =
      let is : held k (holding id None xs) ≡ (if id == k then None else held k xs) =
      sym (same_map (held k (holding id None xs))) ∙ seen_without (λ (y : X). y) id k xs up ∙ ap (λ o. if id == k then None else o) (same_map (held k xs)) in
      elim (cases_Bool (id == k)) [
        | inl same ↦ subst (IfThere (P k)) (sym (is ∙ ap (λ (b : Bool). if b then None else held k xs) same)) tt
        | inr apart ↦ subst (IfThere (P k)) (sym (is ∙ ap (λ (b : Bool). if b then None else held k xs) apart)) (others k apart)
      ]

  -- one is put, or taken away
  pub set_so : (id : ℕ) (o : Option X) (xs : List (ℕ × X)) → Ascends xs → IfThere (P id) o → ((k : ℕ) → (id == k) ≡ false → IfThere (P k) (held k xs))
      → (k : ℕ) → IfThere (P k) (held k (holding id o xs))
  set_so id None xs up so others k = out_so id xs up others k
  set_so id (Some y) xs up so others k = put_so id y xs so others k

  -- the order stays
  pub set_ascends : (id : ℕ) (o : Option X) (xs : List (ℕ × X)) → Ascends xs → Ascends (holding id o xs)
  set_ascends id None xs up = ascends_without 0 id xs up
  set_ascends id (Some y) xs up = ascends_with 0 id y xs (omega arith) up
