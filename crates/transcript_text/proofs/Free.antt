-- A text whose parts have no separator is cut into these parts.
use Rattle.std.proofs.Common.{◌≡◌, ℕ, ◌+◌, ◌%◌, ◌^◌, ◌<◌, ◌==◌, ◌&&◌, List, [], ◌∷◌, ◌++◌, Bool, true, false, not, refl, ap, ◌∙◌, arith, eq-eqb}
use Rattle.std.specs.List.{All, join_with_byte}
use Rattle.std.specs.Fmt.{decimal}
use Rattle.std.proofs.lemmas.Bool.{and_parts, ne_eqb}
use Rattle.std.proofs.lemmas.Fmt.{decimal_by_steps}
use Rattle.std.proofs.lemmas.List.Elements.{All-nil, All-cons}
use Rattle.std.proofs.lemmas.List.Splits.{slice_split_at, slice_split_none}
use Rattle.script_text.proofs.Spaceless.{is_spaceless, Spaceless}
use Rattle.script_text.specs.Grammar.{is_space}
use Rattle.transcript_text.specs.Grammar.{parts}

-- whether a part has no separator
abbrev pub is_free : ℕ → List ℕ → Bool
is_free s [] = true
is_free s (o ∷ os) = not (o == s) && is_free s os

-- every part has none
abbrev pub AllFree : ℕ → List (List ℕ) → Type 0
AllFree s [] = Unit {0}
AllFree s (f ∷ fs) = (is_free s f ≡ true) × AllFree s fs

not_true : (b : Bool) → not b ≡ true → b ≡ false
not_true true h = cc
not_true false h = refl

all_free : (s : ℕ) (f : List ℕ) → is_free s f ≡ true → All (λ o. (o == s) ≡ false) f
all_free s [] h = All-nil (λ o. (o == s) ≡ false)
all_free s (o ∷ os) h =
    let both = and_parts (not (o == s)) (is_free s os) h in
    All-cons (λ x. (x == s) ≡ false) o os (not_true (o == s) both.0) (all_free s os both.1)

eq_same : (s : ℕ) → (s == s) ≡ true
eq_same s = eq-eqb s s refl

-- the parts of a text that was written part by part
pub parts-joined : (s : ℕ) (f : List ℕ) (fs : List (List ℕ)) → AllFree s (f ∷ fs) → parts s (join_with_byte s (f ∷ fs)) ≡ f ∷ fs
parts-joined s f [] h = slice_split_none (λ o. o == s) f (all_free s f h.0)
parts-joined s f (g ∷ gs) h =
    slice_split_at (λ o. o == s) f s (join_with_byte s (g ∷ gs)) (all_free s f h.0) (eq_same s)
    ∙ ap (λ (l : List (List ℕ)). f ∷ l) (parts-joined s g gs h.1)

pub is_free-append : (s : ℕ) (a b : List ℕ) → is_free s a ≡ true → is_free s b ≡ true → is_free s (a ++ b) ≡ true
is_free-append s [] b ha hb = hb
is_free-append s (o ∷ os) b ha hb =
    let both = and_parts (not (o == s)) (is_free s os) ha in
    let rest = is_free-append s os b both.1 hb in
    let first = both.0 in
    rw (first, rest) refl

-- parts joined by another octet have none
pub is_free-joined : (s c : ℕ) (fs : List (List ℕ)) → is_free s (c ∷ []) ≡ true → AllFree s fs → is_free s (join_with_byte c fs) ≡ true
is_free-joined s c [] other h = refl
is_free-joined s c (f ∷ []) other h = h.0
is_free-joined s c (f ∷ g ∷ gs) other h =
    is_free-append s f (c ∷ join_with_byte c (g ∷ gs)) h.0
    (is_free-append s (c ∷ []) (join_with_byte c (g ∷ gs)) other (is_free-joined s c (g ∷ gs) other h.1))

digit_is_free : (s d : ℕ) → s < 48 → is_free s ((48 + d) ∷ []) ≡ true
digit_is_free s d h =
    let other = ne_eqb (48 + d) s (λ e. omega (arith, e)) in
    rw other refl

-- a number has digits only
pub decimal_is_free : (s n : ℕ) → s < 48 → n < 2 ^ 64 → is_free s (decimal n) ≡ true
decimal_is_free s n small h =
    decimal_by_steps (λ _ ds. is_free s ds ≡ true) (λ d _. digit_is_free s d small)
    (λ m ds _ rest. is_free-append s ds ((48 + m % 10) ∷ []) rest (digit_is_free s (m % 10) small)) n h

-- without a space
pub free_of_space : (f : List ℕ) → is_spaceless f ≡ true → is_free 32 f ≡ true
free_of_space [] h = refl
free_of_space (o ∷ os) h =
    let both = and_parts (not (is_space o)) (is_spaceless os) h in
    let first = both.0 in
    let rest = free_of_space os both.1 in
    rw (first, rest) refl

pub all_free_of_space : (fs : List (List ℕ)) → Spaceless fs → AllFree 32 fs
all_free_of_space [] h = tt
all_free_of_space (f ∷ fs) h = (free_of_space f h.0, all_free_of_space fs h.1)
