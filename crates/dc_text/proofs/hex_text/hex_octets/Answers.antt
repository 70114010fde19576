use Rattle.std.proofs.Common.{◌≡◌, ◌==◌, inl, inr, length, refl, sym, ap, subst, arith}
use Rattle.std.proofs.lemmas.Bool.{eqb-true}
use Rattle.std.proofs.lemmas.List.{nil_from_length}
use Rattle.hex.proofs.HexLemmas.{decode_of-ok}
use Rattle.dc_text.proofs.HexLemmas.{LowerDigits, LowerDigits-encode_lower, encode_lower-decoded, encode_lower-refused, length-encode_lower}
use Rattle.dc_text.proofs.hex_text.hex_octets.Goals as goal
use Rattle.dc_text.proofs.hex_text.hex_octets.Goals.{then-is_empty-via-then-is_empty, then-is_empty-via-else-is_empty+then-not-has_lower_digits_alone}

pub returns-then-is_empty-clause-none : goal.returns-then-is_empty-clause-none
returns-then-is_empty-clause-none c octets bytes some e = elim c.then-is_empty.branch [
  | then-is_empty-via-then-is_empty w ↦
      let len = length-encode_lower octets in
      let none : length c.args.field.now ≡ 0 = eqb-true _ _ (sym w.if-is_empty.ensures) in
      let same = ap length e in
      some (nil_from_length octets (omega arith))
  | then-is_empty-via-else-is_empty+then-not-has_lower_digits_alone w ↦
      let digits = subst LowerDigits (sym e) (LowerDigits-encode_lower octets bytes) in
      let none = w.if-not-has_lower_digits_alone.ensures.1 digits in
      cc
]

pub returns-in-Ok-clause-some : goal.returns-in-Ok-clause-some
returns-in-Ok-clause-some c =
    let digits = c.if-not-has_lower_digits_alone.ensures.0 refl in
    let read = decode_of-ok c.args.field.now _ c.in-Ok.ensures.ok in
    rw c.from_vec.ensures (
      encode_lower-decoded c.args.field.now _ read.0 digits c.in-Ok.ensures.ok,
      (λ empty.
          let none : length c.args.field.now ≡ 0 = omega (arith, read.2, ap length empty) in
          let test = ap (λ n. n == 0) none in
          cc),
      read.3,
    )

pub returns-in_default : goal.returns-in_default
returns-in_default c = record {
  some = tt;
  none = λ octets bytes some e. elim c.in-Err.ensures.err [
    | inl memory ↦ c.in_default.not-OutOfMemory memory
    | inr refused ↦ encode_lower-refused c.args.field.now octets _ bytes refused e
  ];
}
