use Rattle.std.proofs.Common.{sym, ◌∙◌}
use Rattle.transcript_text.proofs.Digits.{no_bits}
use Rattle.transcript_text.proofs.spelling.bits_of.Goals as goal

pub returns-in-None-clause-none : goal.returns-in-None-clause-none
returns-in-None-clause-none c =
    let none = rw c.in-None.is at c.in_ok-octets.ensures.none in
    no_bits c.args.field.now none (sym c.is_dash.ensures ∙ c.if-is_dash.false)
