use Rattle.std.proofs.Common.{ℕ, ◌≡◌, ◌+◌, ◌++◌, List, [], ◌∷◌, length, sym, ap, ◌∙◌, subst, rules, arith}
use Rattle.std.specs.List.{AllByRecursion}
use Rattle.std.proofs.lemmas.List.{length_push}
use Rattle.dc_base.specs.declared.events.Line.{Line}
use Rattle.dc_base.specs.declared.events.Line.TheVariants as line
use Rattle.transcript_entries.specs.Lines.{Ahead, HaveRead, text_of, texts}
use Rattle.transcript_entries.specs.Places.{IsRead, within}
use Rattle.transcript_entries.specs.Read.{IsNoEvent, IsUnread, ahead}
use Rattle.transcript_entries.proofs.Standing.{all_append}
use Rattle.transcript_entries.proofs.Taking.{cut_within, many_within, more_lines}
use Rattle.transcript_entries.proofs.entries.take_lines.Goals as goal

pub returns-in_err-line-clause-unread : goal.returns-in_err-line-clause-unread
returns-in_err-line-clause-unread g c = λ settled.
    let i = c.loop-before.invariant in
    let a : Ahead = ahead c.args.reader.now (g.S.Source.left c.args.source.now) in
    let b : Ahead = ahead c.loop-before.reader (g.S.Source.left c.loop-before.source) in
    let cut : IsUnread c.in_err-line.field-0.0 within c.args.taken a =
    cut_within c.in_err-line.field-0.0 a b c.args.taken (c.loop-before.before + 1) c.loop-before.lines (i.read settled) i.good i.no_event (omega (arith, i.taken)) c.in_err-line.ensures.unread in
    search rules

pub returns-in-Ok-clause-read : goal.returns-in-Ok-clause-read
returns-in-Ok-clause-read g c = λ settled.
    let a : Ahead = ahead c.args.reader.now (g.S.Source.left c.args.source.now) in
    let b : Ahead = ahead c.loop-before.reader (g.S.Source.left c.loop-before.source) in
    let n : Ahead = ahead c.next_line.new.reader (g.S.Source.left c.next_line.new.source) in
    more_lines a b n c.loop-before.lines (line.Event c.in-Ok.event) (c.loop-before.invariant.read settled)
    (subst (λ l. HaveRead b (text_of l ∷ []) n) c.in-Ok.ensures.event (rw c.in-Some.is at c.in_ok-line.ensures.read))

pub loop-before-preserved : goal.loop-before-preserved
loop-before-preserved g c =
    let i = c.loop-before.invariant in
    let a : Ahead = ahead c.args.reader.now (g.S.Source.left c.args.source.now) in
    let b : Ahead = ahead c.loop-before.reader (g.S.Source.left c.loop-before.source) in
    let n : Ahead = ahead c.next_line.new.reader (g.S.Source.left c.next_line.new.source) in
    let old : List Line = c.loop-before.lines in
    let new : List Line = c.push.new.self in
    let is : new ≡ old ++ c.in-Err.other ∷ [] = c.in_ok-push-in-Err.ensures.ok in
    let long : length new ≡ length (old ++ c.in-Err.other ∷ []) = ap (λ (ls : List Line). length ls) is in
    let same : c.in-Err.other ≡ c.in-Some.line = c.in-Err.ensures.event.0 in
    let came : HaveRead b (text_of c.in-Some.line ∷ []) n = rw c.in-Some.is at c.in_ok-line.ensures.read in
    let good : IsRead c.in-Some.line = rw c.in-Some.is at c.in_ok-line.ensures.good in
    record {
      read = λ settled. subst (λ (ls : List Line). HaveRead a (texts ls) n) (sym is)
          (more_lines a b n old c.in-Err.other (i.read settled) (subst (λ l. HaveRead b (text_of l ∷ []) n) (sym same) came));
      good = subst (AllByRecursion IsRead) (sym is) (all_append IsRead old (c.in-Err.other ∷ []) i.good (subst IsRead (sym same) good, tt));
      no_event = subst (AllByRecursion IsNoEvent) (sym is) (all_append IsNoEvent old (c.in-Err.other ∷ []) i.no_event (c.in-Err.ensures.event.1, tt));
      taken = omega (arith, i.taken, long, length_push old c.in-Err.other);
      kept = c.in_ok-line.ensures.kept ∙ i.kept;
    }

pub returns-clause-unread : goal.returns-clause-unread
returns-clause-unread g c = λ settled.
    let i = c.loop-before.invariant in
    many_within (ahead c.args.reader.now (g.S.Source.left c.args.source.now)) (ahead c.loop-before.reader (g.S.Source.left c.loop-before.source)) c.args.taken
    c.loop-before.lines (i.read settled) i.good i.no_event (omega (arith, i.taken))
