use Rattle.std.proofs.Common.{List, ℕ, ◌++◌, map, sym, ap, subst, ◌∙◌}
use Rattle.std.proofs.lemmas.Result.{err_from_is_err_and}
use Rattle.transcript_text.specs.Ranges.{Every}
use Rattle.transcript_text.proofs.Each.{each_failed, each_later, every_more, read_more}
use Rattle.transcript_text.proofs.field_reader.FieldReader.all.Goals as goal

pub returns-in_err-value-clause-fault : goal.returns-in_err-value-clause-fault
returns-in_err-value-clause-fault g c =
    let p = err_from_is_err_and c.from_residual.result c.from_residual.ensures.1 in
    rw (p.1, p.2)
    (each_failed g.A.Spelled.kind c.args.self.now c.loop-alloc.self c.loop-alloc.invariant.fault
    (sym c.has_more.ensures ∙ c.loop-alloc-test.true) _ c.in_err-value.ensures.fault)

pub loop-alloc-preserved : goal.loop-alloc-preserved
loop-alloc-preserved g c = record {
  read =
      c.loop-alloc.invariant.read
      ∙ (ap (λ (l : List (List ℕ)). map g.A.Spelled.word c.loop-alloc.values ++ l) c.in_ok-value.ensures.taken.found
      ∙ (read_more g.A.Spelled.word c.loop-alloc.values c.in_ok-value.value c.take.new.self.fields
      ∙ ap (λ (vs : List _). map g.A.Spelled.word vs ++ c.take.new.self.fields) (sym c.in_ok-push.ensures.ok)));
  range =
      subst (Every g.A.Spelled.in_range) (sym c.in_ok-push.ensures.ok)
      (every_more g.A.Spelled.in_range c.loop-alloc.values c.in_ok-value.value c.loop-alloc.invariant.range c.in_ok-value.ensures.range);
  fault = λ f h.
      c.loop-alloc.invariant.fault f
      (each_later g.A.Spelled.kind (g.A.Spelled.word c.in_ok-value.value) c.loop-alloc.self c.take.new.self f c.in_ok-value.ensures.allowed
      c.in_ok-value.ensures.taken h);
}
