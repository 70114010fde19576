use Rattle.std.proofs.Common.{[], ◌∷◌, sym, ◌∙◌, append_assoc}
use Rattle.std.specs.Fmt.{decimal}
use Rattle.transcript_text.specs.Grammar.{identity, word_32}
use Rattle.transcript_text.specs.Places.{IsFaultAt}
use Rattle.transcript_text.proofs.Nested.{told, joined_of_parts, no_pair}
use Rattle.transcript_text.proofs.items.pair_of.Goals as goal

pub returns-in-Ok-clause-some : goal.returns-in-Ok-clause-some
returns-in-Ok-clause-some c = (
  c.in-Ok.ensures.range,
  joined_of_parts 47 (decimal c.in-Ok.pair.0 ∷ decimal c.in-Ok.pair.1 ∷ []) c.args.field.now c.new-parts.result
      c.new-parts.ensures.fields c.in-Ok.ensures.read
      ∙ sym (append_assoc (decimal c.in-Ok.pair.0) (47 ∷ []) (decimal c.in-Ok.pair.1)),
)

pub returns-in-Err-Column-clause-none : goal.returns-in-Err-Column-clause-none
returns-in-Err-Column-clause-none c =
    let column = rw c.in-Err-Column.is at c.in-Err-Column.field-0-is in
    no_pair c.args.field.now c.new-parts.result c.in-Err-Column.field-0-0 c.new-parts.ensures.fields
    (told c.two-read.result (IsFaultAt (identity ∷ word_32 ∷ []) c.new-parts.result) c.in-Err-Column.field-0 c.in-Err-Column.field-0-0
    c.two-read.ensures.fault c.in-Err-Column.is column)
