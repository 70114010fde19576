-- Where a command ends: first what belongs to its end, then each answer that nothing has to be released, then the release that begins.
use Rattle.std.proofs.Common.{◌≡◌, ◌++◌, Bool, true, false, List, [], ◌∷◌, refl, sym, ap, ◌∙◌}
use Rattle.std.specs.Prelude.{if◌then◌else◌, not, ◌||◌}
use Rattle.std.specs.List.{list_any}
use Rattle.run_control.specs.Links.{idles_first, is_in_turn}

-- ---- two truth values

pub or_first : (b d : Bool) → (b || d) ≡ false → b ≡ false
or_first true d no' = absurd cc
or_first false d no' = refl

pub or_later : (b d : Bool) → (b || d) ≡ false → d ≡ false
or_later true d no' = absurd cc
or_later false d no' = no'

pub or_none : (b : Bool) → (b || false) ≡ b
or_none true = refl
or_none false = refl

pub not_is : (b : Bool) → not b ≡ true → b ≡ false
not_is true no' = absurd cc
not_is false no' = refl

-- a test is not passed and failed
pub never : {X : Type 0} (b : Bool) → b ≡ true → b ≡ false → X
never true yes' no' = absurd cc
never false yes' no' = absurd cc

-- ---- lists

module _ {X : Type 0} (is_idle opens : X → Bool) where
  pub busy_first : (xs : List X) → list_any is_idle xs ≡ false → idles_first is_idle xs ≡ true
  busy_first [] none = refl
  busy_first (x ∷ xs) none = by (is_idle x) none
    where
      by : (b : Bool) → (b || list_any is_idle xs) ≡ false → (if b then idles_first is_idle xs else not (list_any is_idle xs)) ≡ true
      by true no' = absurd cc
      by false no' = ap not no'

  pub busy_turn : (xs : List X) → list_any is_idle xs ≡ false → is_in_turn is_idle opens xs ≡ true
  busy_turn [] none = refl
  busy_turn (x ∷ xs) none = by (opens x) (busy_first (x ∷ xs) none) (busy_turn xs (or_later (is_idle x) (list_any is_idle xs) none))
    where
      by : (b : Bool) → idles_first is_idle (x ∷ xs) ≡ true → is_in_turn is_idle opens xs ≡ true → (if b then idles_first is_idle (x ∷ xs) else is_in_turn is_idle opens xs) ≡ true
      by true first more = first
      by false first more = more

  -- none that is idle comes after one that is not
  pub none_later : (x : X) (xs : List X) → is_idle x ≡ false → idles_first is_idle (x ∷ xs) ≡ true → list_any is_idle xs ≡ false
  none_later x xs busy first = not_is (list_any is_idle xs) (sym (ap (λ b. if b then idles_first is_idle xs else not (list_any is_idle xs)) busy) ∙ first)

  pub later_first : (x : X) (xs : List X) → is_idle x ≡ true → idles_first is_idle (x ∷ xs) ≡ true → idles_first is_idle xs ≡ true
  later_first x xs idle first = sym (ap (λ b. if b then idles_first is_idle xs else not (list_any is_idle xs)) idle) ∙ first

  -- each that is idle opens
  pub first_turn : ((x : X) → is_idle x ≡ true → opens x ≡ true) → (xs : List X) → idles_first is_idle xs ≡ true → is_in_turn is_idle opens xs ≡ true
  first_turn each [] first = refl
  first_turn each (x ∷ xs) first = by (opens x) refl (is_idle x) refl
    where
      by : (b : Bool) → opens x ≡ b → (d : Bool) → is_idle x ≡ d → (if b then idles_first is_idle (x ∷ xs) else is_in_turn is_idle opens xs) ≡ true
      by true opening d idle = first
      by false still true idle = never (opens x) (each x idle) still
      by false still false busy = busy_turn xs (none_later x xs busy first)

  -- before the first one that opens
  pub past : (xs ys : List X) → list_any opens xs ≡ false → is_in_turn is_idle opens (xs ++ ys) ≡ is_in_turn is_idle opens ys
  past [] ys none = refl
  past (x ∷ xs) ys none = by (opens x) none (λ rest. past xs ys rest)
    where
      by : (b : Bool) → (b || list_any opens xs) ≡ false → (list_any opens xs ≡ false → is_in_turn is_idle opens (xs ++ ys) ≡ is_in_turn is_idle opens ys)
          → (if b then idles_first is_idle (x ∷ (xs ++ ys)) else is_in_turn is_idle opens (xs ++ ys)) ≡ is_in_turn is_idle opens ys
      by true no' more = absurd cc
      by false no' more = more no'
