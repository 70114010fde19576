use Rattle.std.proofs.Common.{sym, ◌∙◌}
use Rattle.std.specs.Str.{bytes_eq}
use Rattle.key_chain.proofs.Roots.{list_any-keys_of}
use Rattle.key_chain.proofs.key_book.KeyBook.is_noted.Goals as goal

pub returns : goal.returns
returns c =
    rw (← c.self.view_is) (c.contains_key.ensures ∙ sym (list_any-keys_of (bytes_eq c.args.root.now) c.self.inside.roots.entries))
