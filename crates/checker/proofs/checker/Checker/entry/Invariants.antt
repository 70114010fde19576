use Rattle.claims.specs.Past.{Past}
use Rattle.checker.specs.Parts.{ArePartsOf}
use Rattle.checker.proofs.Entries.{IsUpTo}
use Rattle.checker.proofs.checker.Checker.entry.Given as goal

abbrev pub invariant-loop-place : goal.invariant-loop-place
invariant-loop-place l = (p : Past) → ArePartsOf l.fn.self p → IsUpTo l.self p (record { event = l.event; answer = l.fn.answer; lines = l.lines }) l.place
