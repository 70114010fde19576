-- A draft of the code, and the draft of the rules that it stands for: it says what is to be drawn of the book, in place of the
-- book as it is then.
use Rattle.key_chain.specs.Book.{Book}
use Rattle.node_rules.specs.CommandTable.{Table, with_counter}
use Rattle.node_rules.specs.Drafts.{Draft as RuleDraft, book_with_root}
use Rattle.command_table.specs.declared.drafts.Draft.{Draft}
use Rattle.command_table.specs.declared.drafts.Draws.{Draws}
use Rattle.command_table.specs.declared.drafts.Draws.TheVariants as draws

-- the book of a table once this is drawn
abbrev pub book_after : Table → Draws → Book
book_after t draws.Nothing = t.book
book_after t draws.Counter = with_counter t.book t.book.current
book_after t (draws.Root root) = book_with_root t root t.sec

-- the draft of the rules
abbrev pub rule_draft : Table → Draft → RuleDraft
rule_draft t d = record { change = d.change; book = book_after t d.draws; first = d.first }
