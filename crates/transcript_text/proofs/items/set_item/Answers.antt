use Rattle.std.proofs.Common.{[], ◌∷◌}
use Rattle.std.proofs.lemmas.Result.{err_from_is_err_and}
use Rattle.transcript_text.specs.Grammar.{Number, Sequence, Shaped, Key, MaybeNode, identity, word_32}
use Rattle.transcript_text.proofs.Taking.{here, later, later_here}
use Rattle.transcript_text.proofs.items.set_item.Goals as goal

pub returns-in_err-id-clause-fault : goal.returns-in_err-id-clause-fault
returns-in_err-id-clause-fault c =
    let p = err_from_is_err_and c.from_residual.result c.from_residual.ensures.1 in
    rw (p.1, p.2) (here identity (Sequence ∷ word_32 ∷ Shaped ∷ word_32 ∷ Number 0 255 ∷ Key ∷ MaybeNode ∷ []) c.args.parts.now _ c.in_err-id.ensures.fault)

pub returns-in_err-n-clause-fault : goal.returns-in_err-n-clause-fault
returns-in_err-n-clause-fault c =
    let p = err_from_is_err_and c.from_residual-in_err-n.result c.from_residual-in_err-n.ensures.1 in
    rw (p.1, p.2)
    (later_here identity Sequence (word_32 ∷ Shaped ∷ word_32 ∷ Number 0 255 ∷ Key ∷ MaybeNode ∷ []) _ _ _ _ c.in_ok-id.ensures.allowed c.in_ok-id.ensures.taken c.in_err-n.ensures.fault)

pub returns-in_err-first-clause-fault : goal.returns-in_err-first-clause-fault
returns-in_err-first-clause-fault c =
    let p = err_from_is_err_and c.from_residual-in_err-first.result c.from_residual-in_err-first.ensures.1 in
    rw (p.1, p.2)
    (later identity (Sequence ∷ word_32 ∷ Shaped ∷ word_32 ∷ Number 0 255 ∷ Key ∷ MaybeNode ∷ []) _ _ _ _ c.in_ok-id.ensures.allowed c.in_ok-id.ensures.taken
    (later_here Sequence word_32 (Shaped ∷ word_32 ∷ Number 0 255 ∷ Key ∷ MaybeNode ∷ []) _ _ _ _ c.in_ok-n.ensures.allowed c.in_ok-n.ensures.taken c.in_err-first.ensures.fault))
