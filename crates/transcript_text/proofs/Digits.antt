-- Octets that a field writes in digits.
use Rattle.std.proofs.Common.{◌≡◌, ℕ, List, [], ◌∷◌, Bool, true, false, refl, sym, ap, ◌∙◌}
use Rattle.std.specs.Prelude.{codes}
use Rattle.std.proofs.Math.Bool.{beq}
use Rattle.std.specs.Str.{bytes_eq}
use Rattle.std.proofs.lemmas.Slice.Eq.{bytes_eq-Decides}
use Rattle.hex.specs.Hex.{decode_of, encode_lower, IsBytes}
use Rattle.hex.proofs.HexLemmas.{decode_of-encode_lower}
use Rattle.pdcp_pdu.specs.DataPdu.{is_data}
use Rattle.transcript.specs.Words.{octets_or_dash}
use Rattle.transcript_text.specs.Ranges.{IsHex}
use Rattle.transcript_text.specs.Grammar.{Allows, Pdu, Bits}

-- a field writes one list of octets
pub same_octets : (x y : List ℕ) → IsBytes x → IsBytes y → encode_lower x ≡ encode_lower y → x ≡ y
same_octets x y hx hy e =
    let a = decode_of-encode_lower x hx in
    let b = decode_of-encode_lower y hy in
    let both = sym a ∙ (ap decode_of e ∙ b) in
    cc

beq_same : (b : Bool) → beq b b ≡ true
beq_same true = refl
beq_same false = refl

-- a PDU that is not of the sort is no PDU of the sort
pub other_pdu : (f pdu : List ℕ) (b wanted : Bool) → IsHex pdu → f ≡ encode_lower pdu → b ≡ is_data pdu → beq b wanted ≡ false
    → Allows (Pdu wanted) f → ⊥
other_pdu f pdu b wanted h e is other w =
    let same = same_octets pdu w.0 h.1 w.1.0.1 (sym e ∙ w.2) in
    let equal : b ≡ wanted = is ∙ (ap is_data same ∙ w.1.1) in
    let yes : beq b wanted ≡ true = ap (λ (x : Bool). beq x wanted) equal ∙ beq_same wanted in
    let clash : true ≡ false = sym yes ∙ other in
    cc

no_bits_of : (f x : List ℕ) → ((y : List ℕ) → IsBytes y → (y ≡ [] → ⊥) → f ≡ encode_lower y → ⊥) → (f ≡ codes "-" → ⊥) → IsBytes x
    → f ≡ octets_or_dash x → ⊥
no_bits_of f [] none dash h e = dash e
no_bits_of f (o ∷ os) none dash h e = none (o ∷ os) h (λ z. cc) e

-- a field that is neither octets nor a dash is no bitmap
pub no_bits : (f : List ℕ) → ((y : List ℕ) → IsBytes y → (y ≡ [] → ⊥) → f ≡ encode_lower y → ⊥) → bytes_eq f (codes "-") ≡ false → Allows Bits f → ⊥
no_bits f none other w =
    no_bits_of f w.0 none (λ e. let yes = (bytes_eq-Decides f (codes "-")).1 e in cc) w.1 w.2
