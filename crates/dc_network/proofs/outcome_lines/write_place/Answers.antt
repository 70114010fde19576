use Rattle.std.proofs.Common.{◌≡◌, ◌++◌, ◌==◌, ◌∙◌, [], ap, false, not, sym}
use Rattle.std.specs.Prelude.{map}
use Rattle.std.specs.List.{list_any}
use Rattle.std.proofs.lemmas.List.{append-nil}
use Rattle.dc_base.specs.declared.events.Line.TheVariants as line
use Rattle.node_rules.specs.Lines.{place}
use Rattle.dc_network.proofs.Splitting.{all_fail, none_pass}
use Rattle.dc_network.proofs.outcome_lines.write_place.Goals as goal

pub returns-then-not-has_note_at-clause-others : goal.returns-then-not-has_note_at-clause-others
returns-then-not-has_note_at-clause-others c =
    let none : list_any (λ x. place x == c.args.at) c.args.notes.items ≡ false =
    cc (c.as_slice.ensures.value, c.has_note_at.ensures, c.if-not-has_note_at.true) in
    sym (all_fail (λ x. place x == c.args.at) c.args.notes.items none)

pub returns-then-not-has_note_at-clause-written : goal.returns-then-not-has_note_at-clause-written
returns-then-not-has_note_at-clause-written c =
    let none : list_any (λ x. place x == c.args.at) c.args.notes.items ≡ false =
    cc (c.as_slice.ensures.value, c.has_note_at.ensures, c.if-not-has_note_at.true) in
    sym (ap (λ xs. c.args.lines.now ++ map (λ x. line.Note x) xs) (none_pass (λ x. place x == c.args.at) c.args.notes.items none) ∙ append-nil c.args.lines.now)
