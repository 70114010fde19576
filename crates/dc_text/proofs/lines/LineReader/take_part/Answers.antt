use Rattle.std.proofs.Common.{ℕ, arith}
use Rattle.std.proofs.lemmas.List.{length-take, nil_from_length}
use Rattle.std.proofs.lemmas.Grind.{common_steps}
use Rattle.dc_text.proofs.LineLemmas.{HasNoLineFeed-searched, part_taken}
use Rattle.dc_text.proofs.lines.LineReader.take_part.Goals as goal

pub returns-in_ok-append-in-Some-clause-part : goal.returns-in_ok-append-in-Some-clause-part
returns-in_ok-append-in-Some-clause-part c =
    rw (← c.self.view_is) (part_taken c.self.inside.buffer.items c.deref.result.now _ _ c.self.inside.start c.self.inside.end c.in-Some.len
    c.deref.ensures.value c.in-Some.ensures (grind (arith, common_steps, c.in_ok-append-in-Some.ensures.ok)))

pub returns-in_ok-append-in-None-clause-part : goal.returns-in_ok-append-in-None-clause-part
returns-in_ok-append-in-None-clause-part c =
    rw (← c.self.view_is, ← c.deref.ensures.value) (
      HasNoLineFeed-searched _ c.in-None.ensures,
      c.in_ok-append-in-None.ensures.ok,
      nil_from_length _ (omega (arith, length-take {A = ℕ})),
    )
