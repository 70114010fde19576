use Rattle.std.proofs.Common.{inl, inr, refl, arith}
use Rattle.std.proofs.lemmas.Grind.{common_steps}
use Rattle.dc_outside.specs.MemSink.{free}
use Rattle.dc_outside.proofs.mem_sink.MemSinkSink.write_all.Goals as goal
use Rattle.dc_outside.proofs.mem_sink.MemSinkSink.write_all.Goals.{then-is_refused-via-then-is_refused, then-is_refused-via-else-is_refused+then-not-add}

-- a write with such a number adds nothing, and any other what fits
pub returns-then-is_refused-clause-octets : goal.returns-then-is_refused-clause-octets
returns-then-is_refused-clause-octets c = elim c.then-is_refused.branch [
  | then-is_refused-via-then-is_refused w ↦ (0, grind (arith, common_steps))
  | then-is_refused-via-else-is_refused+then-not-add w ↦ (free c.args.self.now, grind (arith, common_steps))
]

pub returns-then-is_refused-clause-fails : goal.returns-then-is_refused-clause-fails
returns-then-is_refused-clause-fails c = (
  (λ _. elim c.then-is_refused.branch [
    | then-is_refused-via-then-is_refused w ↦ inl (rw (← c.self.view_is, ← c.deref.ensures.value) (w.if-is_refused.ensures.0 refl))
    | then-is_refused-via-else-is_refused+then-not-add w ↦ inr (grind (arith, common_steps, w.if-not-add.ensures.all))
  ]),
  (λ _. refl),
)
