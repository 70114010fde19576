use Rattle.std.proofs.Common.{not, sym, ap, ◌∙◌}
use Rattle.key_chain.specs.declared.key_book.KeyOfId.{KeyOfId}
use Rattle.key_chain.proofs.Claims.{is_spent-found, not-not}
use Rattle.key_chain.proofs.key_book.KeyBook.may_claim.Goals as goal

pub returns-in-Some-clause-free : goal.returns-in-Some-clause-free
returns-in-Some-clause-free c =
    let what : KeyOfId = record { id = c.args.id; key = c.args.key.now } in
    rw (← c.self.view_is)
    (sym (ap not (is_spent-found what c.args.est c.self.inside.claims.entries c.self.invariant.1 _ c.in-Some.ensures.value) ∙ not-not _))

pub returns-in-None-clause-free : goal.returns-in-None-clause-free
returns-in-None-clause-free c =
    let what : KeyOfId = record { id = c.args.id; key = c.args.key.now } in
    rw (← c.self.view_is)
    (sym (ap not (is_spent-found what c.args.est c.self.inside.claims.entries c.self.invariant.1 _ c.in-None.ensures.value)))
