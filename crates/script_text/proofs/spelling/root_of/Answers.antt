use Rattle.std.proofs.Common.{◌∙◌}
use Rattle.script_text.proofs.Ranges.{root_decoded, same_text, other_text}
use Rattle.script_text.proofs.spelling.root_of.Goals as goal

pub returns-then-eq-clause-some : goal.returns-then-eq-clause-some
returns-then-eq-clause-some c = (
  (c.root_text.ensures.bytes, c.root_text.ensures.size),
  same_text _ _ _ c.eq.result c.eq.ensures (c.as_slice.ensures ∙ c.root_text.ensures.text) c.if-eq.true,
)

pub returns-else-eq-clause-none : goal.returns-else-eq-clause-none
returns-else-eq-clause-none c = λ w.
    other_text _ _ _ c.eq.result c.eq.ensures (c.as_slice.ensures ∙ c.root_text.ensures.text) c.if-eq.false
    (root_decoded c.args.field.now c.decode_to_slice.new.out c.decode_to_slice.result c.decode_to_slice.ensures.value w)
