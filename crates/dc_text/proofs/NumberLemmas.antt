-- Which texts `decimal` writes, by what `parse` says of them.
use Rattle.std.proofs.Common.{◌≡◌, ◌≢◌, ◌⊎◌, ℕ, ◌^◌, ◌<◌, ◌≤◌, List, [], ◌∷◌, length, get_or, Result, Ok, inl, inr, sym, ◌∙◌, ap, subst, arith}
use Rattle.std.specs.Fmt.{decimal}
use Rattle.std.specs.Str.{IsUtf8}
use Rattle.std.specs.Str.Parse.{AllDigits, ParsesUnsigned, digits_value}
use Rattle.std.proofs.lemmas.Bool.{cases_eq}
use Rattle.std.proofs.lemmas.Str.{IsUtf8-from_ascii}
use Rattle.std.proofs.lemmas.Str.Parse.{IsNumeralModel, digit_at, numerals_by_value, parse_plain, tells_digits}
use Rattle.std.proofs.lemmas.Fmt.{IsAscii-decimal, decimal-digits_value, decimal_digit, decimal_is_IsNumeral, decimal_nonempty, first_decimal}

-- `0`, or one of the other nine digits at the front
abbrev pub BeginsNumber : List ℕ → Type 0
BeginsNumber field = (field ≡ 48 ∷ []) ⊎ ((48 < get_or field 0 0) × (get_or field 0 0 ≤ 57))

own : IsNumeralModel (AllDigits 10) (digits_value 10)
own = numerals_by_value (AllDigits 10) tells_digits

-- a field that begins so has no plus in front
no_plus : (field : List ℕ) → BeginsNumber field → get_or field 0 0 ≢ 43
no_plus field (inl e) plus = let first : get_or field 0 0 ≡ 48 = ap (λ l. get_or l 0 0) e in omega arith
no_plus field (inr d) plus = omega arith

-- and a zero in front only where it stands alone
zero_alone : (field : List ℕ) → BeginsNumber field → get_or field 0 0 ≡ 48 → length field ≡ 1
zero_alone field (inl e) zero = ap length e
zero_alone field (inr d) zero = absurd (omega arith)

-- what parses is the text of its number
pub decimal-parsed : {E : Type 0} (field : List ℕ) (n : ℕ) (r : Result ℕ E) → BeginsNumber field → ParsesUnsigned {E = E} 64 10 field r → r ≡ Ok n
    → field ≡ decimal n
decimal-parsed {E} field n r begins parses ok =
    let parsed : ParsesUnsigned {E = E} 64 10 field (Ok n) = subst (λ (x : Result ℕ E). ParsesUnsigned {E = E} 64 10 field x) ok parses in
    let plain = parse_plain own {E = E} 64 field (Ok n) parsed (no_plus field begins) in
    let back = decimal-digits_value own field plain.0.0 plain.0.1 (zero_alone field begins) plain.0.2 in
    sym back ∙ sym (ap decimal plain.1)

-- the text of a number begins so
pub BeginsNumber-decimal : (n : ℕ) → n < 2 ^ 64 → BeginsNumber (decimal n)
BeginsNumber-decimal n h =
    elim (cases_eq n 0) [
      | inl zero ↦ inl (ap decimal zero ∙ decimal_digit 0 (omega arith))
      | inr some ↦
          let first = first_decimal n (omega arith) h in
          let range = digit_at (decimal n) 0 (decimal_is_IsNumeral n h).0.1 (decimal_nonempty n h) in
          inr (first, range.1)
    ]

-- and is the UTF-8 of some characters
pub IsUtf8-decimal : (n : ℕ) → n < 2 ^ 64 → IsUtf8 (decimal n)
IsUtf8-decimal n h = IsUtf8-from_ascii (decimal n) (IsAscii-decimal n h)
