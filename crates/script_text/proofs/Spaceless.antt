-- A line whose fields have no space is cut into these fields.
use Rattle.std.proofs.Common.{◌≡◌, ℕ, suc, ◌+◌, ◌/◌, ◌%◌, ◌^◌, ◌<◌, ◌≤◌, ◌&&◌, List, [], ◌∷◌, ◌++◌, Bool, true, false, not, refl, ap, ◌∙◌, arith, slice_index}
use Rattle.std.specs.List.{All}
use Rattle.std.specs.Fmt.{decimal}
use Rattle.std.proofs.lemmas.Bool.{and_parts, ne_eqb}
use Rattle.std.proofs.lemmas.Fmt.{decimal_by_steps}
use Rattle.std.proofs.lemmas.List.Elements.{All-nil, All-cons}
use Rattle.std.proofs.lemmas.List.Splits.{slice_split_at, slice_split_none}
use Rattle.hex.specs.Hex.{encode_lower, encode_with, lower_digits, IsBytes}
use Rattle.dc_base.specs.declared.nodes.Node.{Node}
use Rattle.dc_base.specs.declared.nodes.Node.TheVariants.{T, M, A, B}
use Rattle.dc_base.specs.declared.nodes.Class.{Class}
use Rattle.dc_base.specs.declared.nodes.Class.TheVariants.{Ctl, Feed, Air, Tun}
use Rattle.dc_base.specs.declared.nodes.LinkId.{LinkId}
use Rattle.transcript.specs.Words.{spaced, node_word, class_word, link_word}
use Rattle.script_text.specs.Grammar.{fields, is_space}

-- whether a field has no space
abbrev pub is_spaceless : List ℕ → Bool
is_spaceless [] = true
is_spaceless (o ∷ os) = not (is_space o) && is_spaceless os

abbrev pub Spaceless : List (List ℕ) → Type 0
Spaceless [] = Unit {0}
Spaceless (f ∷ fs) = (is_spaceless f ≡ true) × Spaceless fs

not_true : (b : Bool) → not b ≡ true → b ≡ false
not_true true h = cc
not_true false h = refl

all_spaceless : (f : List ℕ) → is_spaceless f ≡ true → All (λ o. is_space o ≡ false) f
all_spaceless [] h = All-nil (λ o. is_space o ≡ false)
all_spaceless (o ∷ os) h =
    let parts = and_parts (not (is_space o)) (is_spaceless os) h in
    All-cons (λ x. is_space x ≡ false) o os (not_true (is_space o) parts.0) (all_spaceless os parts.1)

-- the fields of a line that was written field by field
pub fields-spaced : (f : List ℕ) (fs : List (List ℕ)) → Spaceless (f ∷ fs) → fields (spaced (f ∷ fs)) ≡ f ∷ fs
fields-spaced f [] h = slice_split_none is_space f (all_spaceless f h.0)
fields-spaced f (g ∷ gs) h =
    slice_split_at is_space f 32 (spaced (g ∷ gs)) (all_spaceless f h.0) refl
    ∙ ap (λ (l : List (List ℕ)). f ∷ l) (fields-spaced g gs h.1)

pub is_spaceless-append : (a b : List ℕ) → is_spaceless a ≡ true → is_spaceless b ≡ true → is_spaceless (a ++ b) ≡ true
is_spaceless-append [] b ha hb = hb
is_spaceless-append (o ∷ os) b ha hb =
    let parts = and_parts (not (is_space o)) (is_spaceless os) ha in
    let rest = is_spaceless-append os b parts.1 hb in
    let first = parts.0 in
    rw (first, rest) refl

digit_is_spaceless : (d : ℕ) → is_spaceless ((48 + d) ∷ []) ≡ true
digit_is_spaceless d =
    let other = ne_eqb (48 + d) 32 (λ e. omega (arith, e)) in
    rw other refl

pub decimal_is_spaceless : (n : ℕ) → n < 2 ^ 64 → is_spaceless (decimal n) ≡ true
decimal_is_spaceless n h =
    decimal_by_steps (λ _ ds. is_spaceless ds ≡ true) (λ d _. digit_is_spaceless d)
    (λ m ds _ rest. is_spaceless-append ds ((48 + m % 10) ∷ []) rest (digit_is_spaceless (m % 10))) n h

hex_digit_is_no_space : (k : ℕ) → k < 16 → is_space (slice_index lower_digits k) ≡ false
hex_digit_is_no_space k h = all_spaceless lower_digits refl k 0 h

pub octets_are_spaceless : (x : List ℕ) → IsBytes x → is_spaceless (encode_lower x) ≡ true
unfolding encode_with
octets_are_spaceless [] h = refl
octets_are_spaceless (b ∷ bs) h =
    let byte : b < 256 = h 0 in
    let high = hex_digit_is_no_space (b / 16) (omega arith) in
    let low = hex_digit_is_no_space (b % 16) (omega arith) in
    let rest = octets_are_spaceless bs (λ i. h (suc i)) in
    rw (high, low, rest) refl

pub node_is_spaceless : (n : Node) → is_spaceless (node_word n) ≡ true
node_is_spaceless T = refl
node_is_spaceless M = refl
node_is_spaceless A = refl
node_is_spaceless B = refl

class_is_spaceless : (c : Class) → is_spaceless (class_word c) ≡ true
class_is_spaceless Ctl = refl
class_is_spaceless Feed = refl
class_is_spaceless Air = refl
class_is_spaceless Tun = refl

pub link_is_spaceless : (l : LinkId) → is_spaceless (link_word l) ≡ true
link_is_spaceless l =
    is_spaceless-append (node_word l.from ++ node_word l.to ++ 46 ∷ []) (class_word l.class)
    (is_spaceless-append (node_word l.from ++ node_word l.to) (46 ∷ [])
    (is_spaceless-append (node_word l.from) (node_word l.to) (node_is_spaceless l.from) (node_is_spaceless l.to)) refl)
    (class_is_spaceless l.class)
