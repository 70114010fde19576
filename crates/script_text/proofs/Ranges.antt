-- Numbers and octets that a field writes, against their ranges.
use Rattle.std.proofs.Common.{◌≡◌, ℕ, ◌^◌, ◌<◌, ◌≤◌, List, [], length, Result, Ok, Err, Bool, true, false, sym, ap, ◌∙◌, arith}
use Rattle.std.specs.Prelude.{MatchResult}
use Rattle.std.specs.Fmt.{decimal}
use Rattle.std.specs.Str.{bytes_eq}
use Rattle.std.proofs.lemmas.Bool.Decides.{Decides-eqb}
use Rattle.std.proofs.lemmas.Slice.Eq.{slice_eq-Decides}
use Rattle.std.proofs.lemmas.Fmt.{decimal_injective}
use Rattle.hex.specs.Hex.{encode_lower, lower_digits, decode_sized, IsBytes}
use Rattle.hex.specs.declared.error.FromHexError.{FromHexError}
use Rattle.hex.proofs.HexLemmas.{length-encode_with, decode_sized-encode_lower}
use Rattle.script_text.specs.Grammar.{Allows, Number, payload, root}

-- a field that writes no number up to the top writes none of the range
pub no_number : (low high : ℕ) (f : List ℕ) → ((n : ℕ) → n ≤ high → f ≡ decimal n → ⊥) → Allows (Number low high) f → ⊥
no_number low high f none w = none w.0 w.2 w.3

-- nor does one that writes a number below the range
pub low_number : (low high n : ℕ) (f : List ℕ) → n < low → n ≤ high → high < 2 ^ 64 → f ≡ decimal n → Allows (Number low high) f → ⊥
low_number low high n f below top fits e w =
    let same = decimal_injective n w.0 (omega (arith, top, fits)) (omega (arith, w.2, fits)) (sym e ∙ w.3) in
    omega (arith, same, w.1, below)

-- a field that writes no octets is no payload
pub no_octets : (f : List ℕ) → ((x : List ℕ) → IsBytes x → (x ≡ [] → ⊥) → f ≡ encode_lower x → ⊥) → Allows payload f → ⊥
no_octets f none w =
    none w.0 w.1 (λ e. let z : length w.0 ≡ 0 = ap length e in omega (arith, z, w.2)) w.4

-- nor is one that writes too many
pub too_many_octets : (f o : List ℕ) → 9000 < length o → f ≡ encode_lower o → Allows payload f → ⊥
too_many_octets f o long e w =
    let a = length-encode_with lower_digits o in
    let b = length-encode_with lower_digits w.0 in
    let same : length (encode_lower o) ≡ length (encode_lower w.0) = ap length (sym e ∙ w.4) in
    omega (arith, a, b, same, long, w.3)

-- a field that writes a root key is decoded
pub root_decoded : (f out : List ℕ) (r : Result (Unit {0}) FromHexError)
    → MatchResult (decode_sized f 32) (λ bytes. (r ≡ Ok tt) × (out ≡ bytes)) (λ e. r ≡ Err e)
    → (w : Allows root f) → f ≡ encode_lower out
root_decoded f out r h w =
    let len : length w.0 ≡ 32 = omega (arith, w.2, w.3) in
    let d : decode_sized f 32 ≡ Ok w.0 = ap (λ (s : List ℕ). decode_sized s 32) w.4 ∙ decode_sized-encode_lower w.0 32 len w.1 in
    let read = rw d at h in
    w.4 ∙ ap encode_lower (sym read.1)

-- what a comparison with a text says
pub same_text : (f text out : List ℕ) (b : Bool) → b ≡ bytes_eq f text → text ≡ out → b ≡ true → f ≡ out
same_text f text out b e t same = (slice_eq-Decides Decides-eqb f text b e).0 same ∙ t

pub other_text : (f text out : List ℕ) (b : Bool) → b ≡ bytes_eq f text → text ≡ out → b ≡ false → f ≡ out → ⊥
other_text f text out b e t other same =
    let equal = (slice_eq-Decides Decides-eqb f text b e).1 (same ∙ sym t) in
    let clash : true ≡ false = sym equal ∙ other in
    cc
