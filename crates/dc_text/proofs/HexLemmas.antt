-- Which texts `encode_lower` writes.
use Rattle.std.proofs.Common.{◌≡◌, ℕ, zero, suc, ◌+◌, ◌-◌, ◌*◌, ◌/◌, ◌%◌, ◌<◌, ◌==◌, ◌&&◌, nat_lt, Bool, true, if◌then◌else◌, List, [], ◌∷◌, ◌++◌, length, slice_index, EachIndex, Ok, Err, inl, inr, refl, sym, ◌∙◌, ap, arith}
use Rattle.std.proofs.lemmas.Bool.{and_parts, cases_lt, eqb-true}
use Rattle.std.proofs.lemmas.List.{append-nil, append_assoc}
use Rattle.hex.specs.Hex.{IsBytes, decode_of, encode_lower, encode_with, lower_digits}
use Rattle.hex.specs.declared.error.FromHexError.{FromHexError}
use Rattle.hex.proofs.HexLemmas.{decode_of-encode_lower, decode_of-same, length-encode_with}
use Rattle.dc_text.specs.HexText.{IsLowerDigit}

-- every element is a lower-case digit
abbrev pub LowerDigits : List ℕ → Type 0
LowerDigits text = EachIndex text (λ k. IsLowerDigit (slice_index text k))

-- ---- the table of the sixteen digits

-- the digit of a value
abbrev digit_of : ℕ → ℕ
digit_of d = if nat_lt d 10 then 48 + d else 87 + d

-- the first n places of the table hold the digits of their values, as a test that computes
abbrev is_table : ℕ → Bool
is_table zero = true
is_table (suc n) = (slice_index lower_digits n == digit_of n) && is_table n

table-at : (n d : ℕ) → is_table n ≡ true → d < n → slice_index lower_digits d ≡ digit_of d
table-at zero d h lt = absurd (omega arith)
table-at (suc n) d h lt =
    let parts = and_parts (slice_index lower_digits n == digit_of n) (is_table n) h in
    elim (cases_lt d n) [
      | inl below ↦ table-at n d parts.1 below
      | inr top ↦
          let e : d ≡ n = omega arith in
          rw e (eqb-true (slice_index lower_digits n) (digit_of n) parts.0)
    ]

lower_digits-at : (d : ℕ) → d < 16 → slice_index lower_digits d ≡ digit_of d
lower_digits-at d lt = table-at 16 d refl lt

-- a place of the table is a lower-case digit
lower_digit : (d : ℕ) → d < 16 → IsLowerDigit (slice_index lower_digits d)
lower_digit d lt = rw lower_digits-at (grind (arith))

-- the value of a lower-case digit
abbrev value_of : ℕ → ℕ
value_of c = if nat_lt c 58 then c - 48 else c - 87

value_of-small : (c : ℕ) → IsLowerDigit c → value_of c < 16
value_of-small c h = grind (arith)

digit_of-value_of : (c : ℕ) → IsLowerDigit c → digit_of (value_of c) ≡ c
digit_of-value_of c h = grind (arith)

digit-value_of : (c : ℕ) → IsLowerDigit c → slice_index lower_digits (value_of c) ≡ c
digit-value_of c h = lower_digits-at (value_of c) (value_of-small c h) ∙ digit_of-value_of c h

-- ---- texts

-- the octets of pairs of digits
bytes_of : List ℕ → List ℕ
bytes_of [] = []
bytes_of (a ∷ []) = []
bytes_of (a ∷ b ∷ rest) = (value_of a * 16 + value_of b) ∷ bytes_of rest

LowerDigits-tail : (c : ℕ) (text : List ℕ) → LowerDigits (c ∷ text) → LowerDigits text
LowerDigits-tail c text h k lt = h (suc k) (omega arith)

-- an even number of lower-case digits writes octets
encode_lower-bytes_of : (text : List ℕ) → length text % 2 ≡ 0 → LowerDigits text → encode_lower (bytes_of text) ≡ text
unfolding bytes_of encode_with
encode_lower-bytes_of [] even h = refl
encode_lower-bytes_of (a ∷ []) even h = absurd (omega arith)
encode_lower-bytes_of (a ∷ b ∷ rest) even h =
    let da = h 0 (omega arith) in
    let db = h 1 (omega arith) in
    let sa = value_of-small a da in
    let sb = value_of-small b db in
    let high : (value_of a * 16 + value_of b) / 16 ≡ value_of a = omega arith in
    let low : (value_of a * 16 + value_of b) % 16 ≡ value_of b = omega arith in
    let ih = encode_lower-bytes_of rest (omega arith) (LowerDigits-tail b rest (LowerDigits-tail a (b ∷ rest) h)) in
    rw (high, low, digit-value_of a da, digit-value_of b db, ih) refl

IsBytes-bytes_of : (text : List ℕ) → LowerDigits text → IsBytes (bytes_of text)
unfolding bytes_of
IsBytes-bytes_of [] h k = omega arith
IsBytes-bytes_of (a ∷ []) h k = omega arith
IsBytes-bytes_of (a ∷ b ∷ rest) h zero =
    let sa = value_of-small a (h 0 (omega arith)) in
    let sb = value_of-small b (h 1 (omega arith)) in
    omega arith
IsBytes-bytes_of (a ∷ b ∷ rest) h (suc k) = IsBytes-bytes_of rest (LowerDigits-tail b rest (LowerDigits-tail a (b ∷ rest) h)) k

-- the text of some octets has lower-case digits alone
pub LowerDigits-encode_lower : (bytes : List ℕ) → IsBytes bytes → LowerDigits (encode_lower bytes)
unfolding encode_with
LowerDigits-encode_lower [] h k lt = absurd (omega arith)
LowerDigits-encode_lower (b ∷ rest) h zero lt = let byte = h 0 in lower_digit (b / 16) (omega arith)
LowerDigits-encode_lower (b ∷ rest) h (suc zero) lt = lower_digit (b % 16) (omega arith)
LowerDigits-encode_lower (b ∷ rest) h (suc (suc k)) lt = LowerDigits-encode_lower rest (λ i. h (suc i)) k (omega arith)

-- what decodes is the text of its octets
pub encode_lower-decoded : (text bytes : List ℕ) → length text % 2 ≡ 0 → LowerDigits text → decode_of text ≡ Ok bytes → text ≡ encode_lower bytes
encode_lower-decoded text bytes even h decoded =
    let same = encode_lower-bytes_of text even h in
    let read : decode_of text ≡ Ok (bytes_of text) = ap decode_of (sym same) ∙ decode_of-encode_lower (bytes_of text) (IsBytes-bytes_of text h) in
    sym same ∙ ap encode_lower (decode_of-same text (bytes_of text) bytes read decoded)

-- no text of octets is written otherwise
pub encode_lower-refused : (text bytes : List ℕ) (e : FromHexError) → IsBytes bytes → decode_of text ≡ Err e → text ≡ encode_lower bytes → ⊥
encode_lower-refused text bytes e h refused same =
    let read : decode_of text ≡ Ok bytes = ap decode_of same ∙ decode_of-encode_lower bytes h in cc

-- the text of some octets is not empty where they are not
pub length-encode_lower : (bytes : List ℕ) → length (encode_lower bytes) ≡ 2 * length bytes
length-encode_lower bytes = length-encode_with lower_digits bytes

-- ---- texts written part by part

encode_lower-append : (a b : List ℕ) → encode_lower (a ++ b) ≡ encode_lower a ++ encode_lower b
unfolding encode_with
encode_lower-append [] b = refl
encode_lower-append (x ∷ a) b = rw (encode_lower-append a b) refl

-- one part more is written
pub hex_step : (out one whole front back rest : List ℕ) → rest ≡ front ++ back → one ≡ out ++ encode_lower front → out ++ encode_lower rest ≡ whole
    → one ++ encode_lower back ≡ whole
hex_step out one whole front back rest parts written inv =
    let split : encode_lower rest ≡ encode_lower front ++ encode_lower back = ap encode_lower parts ∙ encode_lower-append front back in
    rw (written, append_assoc) (rw split at inv)

-- no part is left
pub hex_done : (out whole rest : List ℕ) → length rest ≡ 0 → out ++ encode_lower rest ≡ whole → out ≡ whole
unfolding encode_with
hex_done out whole [] none inv = sym (append-nil out) ∙ inv
hex_done out whole (o ∷ os) none inv = absurd (omega arith)
