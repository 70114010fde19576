use Rattle.std.proofs.Common.{List, ℕ, [], ◌∷◌, sym, ap, ◌∙◌, append_assoc}
use Rattle.std.specs.Fmt.{decimal}
use Rattle.transcript_text.specs.Grammar.{Number, word_32}
use Rattle.transcript_text.specs.Places.{IsFaultAt}
use Rattle.transcript_text.proofs.Nested.{told, joined_of_parts, no_second_key}
use Rattle.transcript_text.proofs.items.second_key.Goals as goal

pub returns-in-Ok-clause-some : goal.returns-in-Ok-clause-some
returns-in-Ok-clause-some c = (
  c.in-Ok.ensures.range,
  ap (λ (t : List ℕ). 115 ∷ t)
      (joined_of_parts 46 (decimal c.in-Ok.names.0 ∷ decimal c.in-Ok.names.1 ∷ []) c.args.name.now c.new-parts.result
      c.new-parts.ensures.fields c.in-Ok.ensures.read
      ∙ sym (append_assoc (decimal c.in-Ok.names.0) (46 ∷ []) (decimal c.in-Ok.names.1))),
)

pub returns-in-Err-Column-clause-none : goal.returns-in-Err-Column-clause-none
returns-in-Err-Column-clause-none c =
    let column = rw c.in-Err-Column.is at c.in-Err-Column.field-0-is in
    no_second_key c.args.name.now c.new-parts.result c.in-Err-Column.field-0-0 c.new-parts.ensures.fields
    (told c.two-read.result (IsFaultAt (word_32 ∷ Number 0 65535 ∷ []) c.new-parts.result) c.in-Err-Column.field-0 c.in-Err-Column.field-0-0
    c.two-read.ensures.fault c.in-Err-Column.is column)
