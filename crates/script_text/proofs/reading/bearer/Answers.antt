use Rattle.std.proofs.Common.{[], ◌∷◌}
use Rattle.std.proofs.lemmas.Result.{err_from_is_err_and}
use Rattle.script_text.specs.Grammar.{Sequence, Number, Shaped, word_32}
use Rattle.script_text.proofs.Taking.{later}
use Rattle.script_text.proofs.reading.bearer.Goals as goal

pub returns-in_err-id-clause-fault : goal.returns-in_err-id-clause-fault
returns-in_err-id-clause-fault c =
    let p = err_from_is_err_and c.from_residual.result c.from_residual.ensures.1 in
    rw (p.1, p.2) (c.in_err-id.ensures.fault (Sequence ∷ Number 0 4294967294 ∷ Shaped ∷ word_32 ∷ Number 0 255 ∷ []))

pub returns-in_err-n-clause-fault : goal.returns-in_err-n-clause-fault
returns-in_err-n-clause-fault c =
    let p = err_from_is_err_and c.from_residual-in_err-n.result c.from_residual-in_err-n.ensures.1 in
    rw (p.1, p.2) (later _ (Sequence ∷ Number 0 4294967294 ∷ Shaped ∷ word_32 ∷ Number 0 255 ∷ []) _ _ _ _ c.in_ok-id.ensures.taken (c.in_err-n.ensures.fault (Number 0 4294967294 ∷ Shaped ∷ word_32 ∷ Number 0 255 ∷ [])))

pub returns-in_err-first-clause-fault : goal.returns-in_err-first-clause-fault
returns-in_err-first-clause-fault c =
    let p = err_from_is_err_and c.from_residual-in_err-first.result c.from_residual-in_err-first.ensures.1 in
    rw (p.1, p.2) (later _ (Sequence ∷ Number 0 4294967294 ∷ Shaped ∷ word_32 ∷ Number 0 255 ∷ []) _ _ _ _ c.in_ok-id.ensures.taken (later _ (Number 0 4294967294 ∷ Shaped ∷ word_32 ∷ Number 0 255 ∷ []) _ _ _ _ c.in_ok-n.ensures.taken (c.in_err-first.ensures.fault (Shaped ∷ word_32 ∷ Number 0 255 ∷ []))))

pub returns-in_err-shape-clause-fault : goal.returns-in_err-shape-clause-fault
returns-in_err-shape-clause-fault c =
    let p = err_from_is_err_and c.from_residual-in_err-shape.result c.from_residual-in_err-shape.ensures.1 in
    rw (p.1, p.2) (later _ (Sequence ∷ Number 0 4294967294 ∷ Shaped ∷ word_32 ∷ Number 0 255 ∷ []) _ _ _ _ c.in_ok-id.ensures.taken (later _ (Number 0 4294967294 ∷ Shaped ∷ word_32 ∷ Number 0 255 ∷ []) _ _ _ _ c.in_ok-n.ensures.taken (later _ (Shaped ∷ word_32 ∷ Number 0 255 ∷ []) _ _ _ _ c.in_ok-first.ensures.taken (c.in_err-shape.ensures.fault (word_32 ∷ Number 0 255 ∷ [])))))

pub returns-in_err-threshold-clause-fault : goal.returns-in_err-threshold-clause-fault
returns-in_err-threshold-clause-fault c =
    let p = err_from_is_err_and c.from_residual-in_err-threshold.result c.from_residual-in_err-threshold.ensures.1 in
    rw (p.1, p.2) (later _ (Sequence ∷ Number 0 4294967294 ∷ Shaped ∷ word_32 ∷ Number 0 255 ∷ []) _ _ _ _ c.in_ok-id.ensures.taken (later _ (Number 0 4294967294 ∷ Shaped ∷ word_32 ∷ Number 0 255 ∷ []) _ _ _ _ c.in_ok-n.ensures.taken (later _ (Shaped ∷ word_32 ∷ Number 0 255 ∷ []) _ _ _ _ c.in_ok-first.ensures.taken (later _ (word_32 ∷ Number 0 255 ∷ []) _ _ _ _ c.in_ok-shape.ensures.taken (c.in_err-threshold.ensures.fault (Number 0 255 ∷ []))))))

pub returns-in_err-policy-clause-fault : goal.returns-in_err-policy-clause-fault
returns-in_err-policy-clause-fault c =
    let p = err_from_is_err_and c.from_residual-in_err-policy.result c.from_residual-in_err-policy.ensures.1 in
    rw (p.1, p.2) (later _ (Sequence ∷ Number 0 4294967294 ∷ Shaped ∷ word_32 ∷ Number 0 255 ∷ []) _ _ _ _ c.in_ok-id.ensures.taken (later _ (Number 0 4294967294 ∷ Shaped ∷ word_32 ∷ Number 0 255 ∷ []) _ _ _ _ c.in_ok-n.ensures.taken (later _ (Shaped ∷ word_32 ∷ Number 0 255 ∷ []) _ _ _ _ c.in_ok-first.ensures.taken (later _ (word_32 ∷ Number 0 255 ∷ []) _ _ _ _ c.in_ok-shape.ensures.taken (later _ (Number 0 255 ∷ []) _ _ _ _ c.in_ok-threshold.ensures.taken (c.in_err-policy.ensures.fault []))))))
