use Rattle.std.proofs.Common.{◌≡◌, IsTrue, false, sym, ◌∙◌, rules}
use Rattle.std.specs.Str.{bytes_eq}
use Rattle.indexmap.proofs.CallerLemmas.{insert_entry-new}
use Rattle.key_chain.specs.Book.{is_noted}
use Rattle.key_chain.specs.declared.key_book.KeyErr.TheVariants.{RootUsed}
use Rattle.key_chain.proofs.Books.{book_of-noting, not_found, only_memory}
use Rattle.key_chain.proofs.Roots.{list_any-keys_of}
use Rattle.key_chain.proofs.key_book.KeyBook.refresh.Goals as goal

pub returns-then-contains_key-clause-used : goal.returns-then-contains_key-clause-used
returns-then-contains_key-clause-used c =
    let noted : IsTrue (is_noted c.args.self.now.roots c.args.root.now) =
    rw (← c.self.view_is) (list_any-keys_of (bytes_eq c.args.root.now) c.self.inside.roots.entries ∙ sym (c.if-contains_key.ensures)) in
    (λ _. noted, λ _. search rules)

pub returns-in_err-insert-clause-used : goal.returns-in_err-insert-clause-used
returns-in_err-insert-clause-used c =
    let noted : is_noted c.args.self.now.roots c.args.root.now ≡ false =
    rw (← c.self.view_is) (list_any-keys_of (bytes_eq c.args.root.now) c.self.inside.roots.entries ∙ sym (c.if-contains_key.ensures)) in
    (λ is. absurd (only_memory c.from_residual.result RootUsed (λ e. absurd cc) c.from_residual.ensures.1 is), λ is. absurd cc)

pub returns-clause-noted : goal.returns-clause-noted
returns-clause-noted c =
    let new = not_found _ (c.if-contains_key.ensures) in
    rw (← c.self.view_is)
    (book_of-noting c.self.inside.roots.entries c.self.inside.current c.self.inside.claims.entries c.args.root.now _
    (c.in_ok-insert.ensures.entries ∙ insert_entry-new bytes_eq c.self.inside.roots c.args.root.now 0 new))

pub returns-clause-used : goal.returns-clause-used
returns-clause-used c =
    let noted : is_noted c.args.self.now.roots c.args.root.now ≡ false =
    rw (← c.self.view_is) (list_any-keys_of (bytes_eq c.args.root.now) c.self.inside.roots.entries ∙ sym (c.if-contains_key.ensures)) in
    (λ is. absurd cc, λ is. absurd cc)
