use Rattle.std.proofs.Common.{◌<◌, ◌++◌, length}
use Rattle.std.proofs.lemmas.Option.{IfSome_then}
use Rattle.dc_text.proofs.LineLemmas.{GivesLine-found, GivesLine-last, Keeps-more, line_of-long, span-found, span-last}
use Rattle.dc_text.proofs.lines.LineReader.read_line.Goals as goal

pub returns-then-not-more-clause-line : goal.returns-then-not-more-clause-line
returns-then-not-more-clause-line g c =
    let kept = Keeps-more _ c.loop-line.line _ _ _ _ c.loop-line.invariant.0 c.in_ok-more.ensures.octets in
    let ended = rw c.if-not-more.true at c.in_ok-more.ensures.more in
    let known = rw ended.0 at kept in
    IfSome_then c.last_line.result c.last_line.ensures.some (λ f some. rw (ended.0, some.0) (GivesLine-last _ _ _ known c.loop-line.invariant.1 ended.1 some.2))

pub returns-then-not-more-clause-span : goal.returns-then-not-more-clause-span
returns-then-not-more-clause-span g c =
    let kept = Keeps-more _ c.loop-line.line _ _ _ _ c.loop-line.invariant.0 c.in_ok-more.ensures.octets in
    let ended = rw c.if-not-more.true at c.in_ok-more.ensures.more in
    let known = rw ended.0 at kept in
    IfSome_then c.last_line.result c.last_line.ensures.some (λ f some. rw some.1 (span-last _ _ _ known c.loop-line.invariant.1 ended.1))

pub returns-then-ended-clause-line : goal.returns-then-ended-clause-line
returns-then-ended-clause-line g c =
    let kept = Keeps-more _ c.loop-line.line _ _ _ _ c.loop-line.invariant.0 c.in_ok-more.ensures.octets in
    let part = rw c.if-ended.true at c.in_ok-ended.ensures.part in
    rw (part.1, part.2) (GivesLine-found _ _ _ _ kept c.loop-line.invariant.1 part.0)

pub returns-then-ended-clause-span : goal.returns-then-ended-clause-span
returns-then-ended-clause-span g c =
    let kept = Keeps-more _ c.loop-line.line _ _ _ _ c.loop-line.invariant.0 c.in_ok-more.ensures.octets in
    let part = rw c.if-ended.true at c.in_ok-ended.ensures.part in
    rw (c.len-span.ensures, part.1) (span-found _ _ _ _ kept c.loop-line.invariant.1 part.0)

pub returns-then-len-gt-MAX_LINE-clause-line_too_long : goal.returns-then-len-gt-MAX_LINE-clause-line_too_long
returns-then-len-gt-MAX_LINE-clause-line_too_long g c _ =
    let kept = Keeps-more _ c.loop-line.line _ _ _ _ c.loop-line.invariant.0 c.in_ok-more.ensures.octets in
    let part = rw c.if-ended.false at c.in_ok-ended.ensures.part in
    let long : 20000 < length (c.loop-line.line ++ c.has_more.new.self.held) = rw part.1 at (rw c.len.ensures at c.if-len-gt-MAX_LINE.true) in
    line_of-long _ _ _ _ 20000 kept c.loop-line.invariant.1 part.0 long
