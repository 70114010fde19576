use Rattle.std.proofs.Common.{◌≡◌, ℕ, ◌+◌, ◌<◌, length, slice_index, sym, ◌∙◌, arith, rules}
use Rattle.std.specs.Map.{values_of}
use Rattle.std.proofs.lemmas.Option.{get_or_from_slice_get}
use Rattle.indexmap.specs.IndexMap.{set_value_at}
use Rattle.indexmap.specs.Layout.{length-set_value_at}
use Rattle.dc_base.specs.declared.nodes.Side.TheVariants.{Second}
use Rattle.key_chain.specs.Book.{counters_drawn}
use Rattle.key_chain.proofs.Books.{book_of-drawn, written}
use Rattle.key_chain.proofs.key_book.KeyBook.next_sn.Goals as goal

pub invariant_of-self : goal.invariant_of-self
invariant_of-self c =
    (omega (arith, c.self.invariant.0, length-set_value_at c.self.inside.roots.entries c.self.inside.current (c.index-drawn.result.now + 1)), c.self.invariant.1)

pub returns-in_default-clause-spent : goal.returns-in_default-clause-spent
returns-in_default-clause-spent c =
    let drawn : counters_drawn c.args.self.now c.args.self.now.current ≡ c.index-drawn.result.now =
    rw (← c.self.view_is) (get_or_from_slice_get (values_of c.self.inside.roots.entries) c.self.inside.current c.index-drawn.result.now 0 c.index-drawn.ensures) in
    (λ is. omega (arith, drawn, c.in_default.ensures), λ many. search rules)

pub returns-clause-name : goal.returns-clause-name
returns-clause-name c =
    let drawn = get_or_from_slice_get (values_of c.self.inside.roots.entries) c.self.inside.current c.index-drawn.result.now 0 c.index-drawn.ensures in
    rw (← c.self.view_is) (λ i. record { root = c.self.inside.current; side = Second ((c.in-Ok.ensures.1 ∙ sym drawn) i) })

pub returns-clause-drawn : goal.returns-clause-drawn
returns-clause-drawn c =
    rw (← c.self.view_is)
    (book_of-drawn c.self.inside.roots.entries c.self.inside.current c.self.inside.claims.entries c.index-drawn.result.now c.index-drawn.ensures)

pub returns-clause-not_before : goal.returns-clause-not_before
returns-clause-not_before c =
    let drawn = get_or_from_slice_get (values_of c.self.inside.roots.entries) c.self.inside.current c.index-drawn.result.now 0 c.index-drawn.ensures in
    rw (← c.self.view_is) (λ less. omega (arith, drawn, c.in-Ok.ensures))

pub returns-clause-from_now_on : goal.returns-clause-from_now_on
returns-clause-from_now_on c =
    omega (arith, c.in-Ok.ensures, written c.self.inside.roots.entries c.self.inside.current (c.index-drawn.result.now + 1) c.self.invariant.0)

pub returns-clause-spent : goal.returns-clause-spent
returns-clause-spent c =
    let drawn : counters_drawn c.args.self.now c.args.self.now.current ≡ c.index-drawn.result.now =
    rw (← c.self.view_is) (get_or_from_slice_get (values_of c.self.inside.roots.entries) c.self.inside.current c.index-drawn.result.now 0 c.index-drawn.ensures) in
    (λ is. absurd cc, λ many. absurd (omega (arith, drawn, c.in-Ok.ensures)))
