use Rattle.std.proofs.Common.{sym, ◌∙◌}
use Rattle.anchor.specs.Bounds.{may_be}
use Rattle.anchor.proofs.Counted.{counted_new, counted_out, counted_there, payloads_new}
use Rattle.anchor.proofs.taking.take_payload.Goals as goal

pub returns-then-excludes-clause-entries : goal.returns-then-excludes-clause-entries
returns-then-excludes-clause-entries c =
    counted_out (may_be c.args.bounds) c.args.entries.now.entries c.args.sdu c.args.count (sym c.excludes.ensures ∙ c.if-excludes.true)

pub returns-then-contains_key-clause-entries : goal.returns-then-contains_key-clause-entries
returns-then-contains_key-clause-entries c =
    counted_there (may_be c.args.bounds) c.args.entries.now.entries c.args.sdu c.args.count c.requires.value (sym c.excludes.ensures ∙ c.if-excludes.false) (sym c.contains_key.ensures ∙ c.if-contains_key.true)

pub returns-clause-entries : goal.returns-clause-entries
returns-clause-entries c =
    c.in_ok-insert.ensures.entries
    ∙ counted_new (may_be c.args.bounds) c.args.entries.now.entries c.args.sdu c.args.count c.requires.value (sym c.excludes.ensures ∙ c.if-excludes.false) (sym c.contains_key.ensures ∙ c.if-contains_key.false)

pub returns-clause-payloads : goal.returns-clause-payloads
returns-clause-payloads c = λ all.
    rw c.in_ok-insert.ensures.entries (payloads_new c.args.entries.now.entries c.args.sdu c.args.count (sym c.contains_key.ensures ∙ c.if-contains_key.false) c.requires.payload all)
