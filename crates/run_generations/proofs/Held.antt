-- What is so of all that is held, with one put in or taken out.
use Rattle.std.proofs.Common.{ℕ, ◌==◌, Bool, true, false, List, [], ◌∷◌, Option, Some, None, sym, subst, inl, inr}
use Rattle.std.specs.Prelude.{if◌then◌else◌, ⊤}
use Rattle.std.specs.List.{AllByRecursion}
use Rattle.std.proofs.lemmas.Bool.{cases_order}
use Rattle.node_rules.specs.Held.{held, holding}
use Rattle.master_runs.proofs.Holding.{equal_is, greater_is, held-cons, less_is}

module _ {X : Type 0} (P : X → Type 0) where
  -- it is so of all
  abbrev pub Each : List (ℕ × X) → Type 0
  Each xs = AllByRecursion (λ (e : ℕ × X). P e.1) xs

  -- of one, if there is one
  abbrev pub IfThere : Option X → Type 0
  IfThere None = ⊤
  IfThere (Some x) = P x

  each_in : (id : ℕ) (x : X) (xs : List (ℕ × X)) → P x → Each xs → Each (holding id (Some x) xs)
  each_in id x [] is all = (is, tt)
  each_in id x (e ∷ es) is all =
      elim (cases_order id e.0) [
        | inl same ↦ rw (← same, equal_is id) (is, all.1)
        | inr apart ↦ elim apart [
          | inl lt ↦ rw (less_is id e.0 lt) (is, all)
          | inr gt ↦ rw (greater_is id e.0 gt) (all.0, each_in id x es is all.1)
        ]
      ]

  each_out : (id : ℕ) (xs : List (ℕ × X)) → Each xs → Each (holding id None xs)
  each_out id [] all = tt
  each_out id (e ∷ es) all =
      elim (cases_order id e.0) [
        | inl same ↦ rw (← same, equal_is id) all.1
        | inr apart ↦ elim apart [
          | inl lt ↦ rw (less_is id e.0 lt) (all.0, each_out id es all.1)
          | inr gt ↦ rw (greater_is id e.0 gt) (all.0, each_out id es all.1)
        ]
      ]

  -- with this one put in, or none
  pub each_with : (id : ℕ) (o : Option X) (xs : List (ℕ × X)) → IfThere o → Each xs → Each (holding id o xs)
  each_with id None xs is all = each_out id xs all
  each_with id (Some x) xs is all = each_in id x xs is all

  -- so it is of what is held
  pub each_held : (id : ℕ) (xs : List (ℕ × X)) → Each xs → IfThere (held id xs)
  each_held id [] all = tt
  each_held id (e ∷ es) all = subst IfThere (sym (held-cons id e es)) (by (id == e.0) (each_held id es all.1))
    where
      by : (b : Bool) → IfThere (held id es) → IfThere (if b then Some e.1 else held id es)
      by true more = all.0
      by false more = more
