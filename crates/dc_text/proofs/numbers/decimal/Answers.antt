use Rattle.std.proofs.Common.{◌≡◌, refl, sym, ◌∙◌, subst, arith}
use Rattle.std.specs.Str.{IsUtf8}
use Rattle.std.proofs.lemmas.Fmt.{parse-decimal}
use Rattle.dc_text.proofs.NumberLemmas.{BeginsNumber, BeginsNumber-decimal, IsUtf8-decimal, decimal-parsed}
use Rattle.dc_text.proofs.numbers.decimal.Goals as goal

pub returns-then-not-begins_a_number-clause-none : goal.returns-then-not-begins_a_number-clause-none
returns-then-not-begins_a_number-clause-none c n le e =
    let begins = subst BeginsNumber (sym e) (BeginsNumber-decimal n (omega arith)) in
    let none = c.if-not-begins_a_number.ensures.1 begins in
    cc

pub returns-in_default-clause-none : goal.returns-in_default-clause-none
returns-in_default-clause-none c n le e =
    c.in_default.ensures.cases.0 (subst IsUtf8 (sym e) (IsUtf8-decimal n (omega arith)))

pub returns-in-Ok-parse-clause-some : goal.returns-in-Ok-parse-clause-some
returns-in-Ok-parse-clause-some c =
    let parses = rw c.in-Ok.ensures.cases.0 at c.parse.ensures.value.0 in
    (decimal-parsed _ _ _ (c.if-not-begins_a_number.ensures.0 refl) parses c.in-Ok-parse.is, c.if-number-max.true)

pub returns-in_default-parse-clause-none : goal.returns-in_default-parse-clause-none
returns-in_default-parse-clause-none c n le e =
    let text = c.in-Ok.ensures.cases.0 ∙ e in
    let parsed = parse-decimal 64 n _ _ (omega arith) (omega arith) text c.parse.ensures.value.0 in
    let same : n ≡ c.in-Ok-parse.number = cc in
    omega arith

pub returns-in_default-parse-2-clause-none : goal.returns-in_default-parse-2-clause-none
returns-in_default-parse-2-clause-none c n le e =
    let text = c.in-Ok.ensures.cases.0 ∙ e in
    let parsed = parse-decimal 64 n _ _ (omega arith) (omega arith) text c.parse.ensures.value.0 in
    cc
