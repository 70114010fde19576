-- What of several sends goes over the control links.
use Rattle.std.proofs.Common.{◌≡◌, ◌++◌, Bool, true, false, List, [], ◌∷◌, refl, ap, ◌∙◌}
use Rattle.std.specs.Prelude.{if◌then◌else◌}
use Rattle.std.specs.List.{flat_map}
use Rattle.node_rules.specs.Choices.{Send}
use Rattle.run_control.specs.Views.{controls, is_of_control}

-- first the one and then the other
pub controls_append : (xs ys : List Send) → controls (xs ++ ys) ≡ controls xs ++ controls ys
controls_append [] ys = refl
controls_append (x ∷ xs) ys = by (is_of_control x) (controls_append xs ys)
  where
    by : (b : Bool) → controls (xs ++ ys) ≡ controls xs ++ controls ys → (if b then x ∷ controls (xs ++ ys) else controls (xs ++ ys)) ≡ (if b then x ∷ controls xs else controls xs) ++ controls ys
    by true more = ap (λ (zs : List Send). x ∷ zs) more
    by false more = more

-- nothing in either
pub none_in_both : (xs ys : List Send) → controls xs ≡ [] → controls ys ≡ [] → controls (xs ++ ys) ≡ []
none_in_both xs ys p q = controls_append xs ys ∙ ap (λ zs. zs ++ controls ys) p ∙ q

-- nothing in any
pub none_in_each : {X : Type 0} (f : X → List Send) → ((x : X) → controls (f x) ≡ []) → (xs : List X) → controls (flat_map f xs) ≡ []
none_in_each f none [] = refl
none_in_each f none (x ∷ xs) = none_in_both (f x) (flat_map f xs) (none x) (none_in_each f none xs)

-- either way
pub either : {X : Type 0} (P : X → Type 0) (b : Bool) (x y : X) → P x → P y → P (if b then x else y)
either P true x y p q = p
either P false x y p q = q
