use Rattle.std.proofs.Common.{◌∙◌}
use Rattle.transcript_text.specs.Items.{item_parts, set_kinds}
use Rattle.transcript_text.specs.Places.{IsFaultAt}
use Rattle.transcript_text.proofs.Nested.{told, joined_of_parts, joined_item, no_item_if}
use Rattle.transcript_text.proofs.items.item_of.Goals as goal

pub returns-in-Ok-clause-some : goal.returns-in-Ok-clause-some
returns-in-Ok-clause-some c = (
  c.in-Ok.ensures.read.0,
  joined_of_parts 47 (item_parts c.in-Ok.item) c.args.field.now c.new-parts.result c.new-parts.ensures.fields c.in-Ok.ensures.read.1
      ∙ joined_item c.in-Ok.item,
)

pub returns-in-Err-Column-clause-none : goal.returns-in-Err-Column-clause-none
returns-in-Err-Column-clause-none c =
    no_item_if c.unset_item.result c.args.field.now c.new-parts.result c.in-Err-Column.field-0-0 c.unset_item.ensures.none
    c.new-parts.ensures.fields
    (told c.set_item.result (IsFaultAt set_kinds c.new-parts.result) c.in-Err-Column.field-0 c.in-Err-Column.field-0-0
    c.set_item.ensures.fault c.in-Err-Column.is c.in-Err-Column.field-0-is)
