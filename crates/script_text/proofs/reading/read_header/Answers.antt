use Rattle.std.proofs.Common.{[], ◌∷◌, sym, ◌∙◌}
use Rattle.std.proofs.lemmas.Result.{err_from_is_err_and}
use Rattle.script_text.specs.Grammar.{Cipher, Number, root}
use Rattle.script_text.proofs.Taking.{later}
use Rattle.script_text.proofs.Whole.{header_column, header_of_fields, four_fields}
use Rattle.script_text.proofs.Outside.{outside_of_header}
use Rattle.script_text.proofs.reading.read_header.Goals as goal

pub returns-in_err-take_word-clause-column : goal.returns-in_err-take_word-clause-column
returns-in_err-take_word-clause-column c =
    let p = err_from_is_err_and c.from_residual.result c.from_residual.ensures.1 in
    rw (p.1, p.2) (header_column c.args.line.now _ _ c.new-fields.ensures.at c.new-fields.ensures.fields (c.in_err-take_word.ensures.fault (Cipher ∷ Number 0 65536 ∷ root ∷ [])))

pub returns-in_err-alg-clause-column : goal.returns-in_err-alg-clause-column
returns-in_err-alg-clause-column c =
    let p = err_from_is_err_and c.from_residual-in_err-alg.result c.from_residual-in_err-alg.ensures.1 in
    rw (p.1, p.2) (header_column c.args.line.now _ _ c.new-fields.ensures.at c.new-fields.ensures.fields (later _ (Cipher ∷ Number 0 65536 ∷ root ∷ []) _ _ _ _ c.in_ok-take_word.ensures.taken (c.in_err-alg.ensures.fault (Number 0 65536 ∷ root ∷ []))))

pub returns-in_err-used-clause-column : goal.returns-in_err-used-clause-column
returns-in_err-used-clause-column c =
    let p = err_from_is_err_and c.from_residual-in_err-used.result c.from_residual-in_err-used.ensures.1 in
    rw (p.1, p.2) (header_column c.args.line.now _ _ c.new-fields.ensures.at c.new-fields.ensures.fields (later _ (Cipher ∷ Number 0 65536 ∷ root ∷ []) _ _ _ _ c.in_ok-take_word.ensures.taken (later _ (Number 0 65536 ∷ root ∷ []) _ _ _ _ c.in_ok-alg.ensures.taken (c.in_err-used.ensures.fault (root ∷ [])))))

pub returns-in_err-root-clause-column : goal.returns-in_err-root-clause-column
returns-in_err-root-clause-column c =
    let p = err_from_is_err_and c.from_residual-in_err-root.result c.from_residual-in_err-root.ensures.1 in
    rw (p.1, p.2) (header_column c.args.line.now _ _ c.new-fields.ensures.at c.new-fields.ensures.fields (later _ (Cipher ∷ Number 0 65536 ∷ root ∷ []) _ _ _ _ c.in_ok-take_word.ensures.taken (later _ (Number 0 65536 ∷ root ∷ []) _ _ _ _ c.in_ok-alg.ensures.taken (later _ (root ∷ []) _ _ _ _ c.in_ok-used.ensures.taken (c.in_err-root.ensures.fault [])))))

pub returns-clause-read : goal.returns-clause-read
returns-clause-read c = (
  (c.in_ok-used.ensures.range.1, c.in_ok-root.ensures.range),
  header_of_fields record { alg = c.in_ok-alg.alg; used = c.in_ok-used.used; root = c.in_ok-root.root } c.args.line.now
      (sym c.new-fields.ensures.fields
      ∙ four_fields _ _ _ _ _ _ _ _ _ c.in_ok-take_word.ensures.taken.found c.in_ok-alg.ensures.taken.found
      c.in_ok-used.ensures.taken.found c.in_ok-root.ensures.taken.found c.in_ok-take_end.ensures.none),
)

pub returns-in_err-take_word-clause-outside : goal.returns-in_err-take_word-clause-outside
returns-in_err-take_word-clause-outside c =
    let p = err_from_is_err_and c.from_residual.result c.from_residual.ensures.1 in
    rw (p.1, p.2) (outside_of_header _ c.args.line.now (header_column c.args.line.now _ _ c.new-fields.ensures.at c.new-fields.ensures.fields (c.in_err-take_word.ensures.fault (Cipher ∷ Number 0 65536 ∷ root ∷ []))))

pub returns-in_err-alg-clause-outside : goal.returns-in_err-alg-clause-outside
returns-in_err-alg-clause-outside c =
    let p = err_from_is_err_and c.from_residual-in_err-alg.result c.from_residual-in_err-alg.ensures.1 in
    rw (p.1, p.2) (outside_of_header _ c.args.line.now (header_column c.args.line.now _ _ c.new-fields.ensures.at c.new-fields.ensures.fields (later _ (Cipher ∷ Number 0 65536 ∷ root ∷ []) _ _ _ _ c.in_ok-take_word.ensures.taken (c.in_err-alg.ensures.fault (Number 0 65536 ∷ root ∷ [])))))

pub returns-in_err-used-clause-outside : goal.returns-in_err-used-clause-outside
returns-in_err-used-clause-outside c =
    let p = err_from_is_err_and c.from_residual-in_err-used.result c.from_residual-in_err-used.ensures.1 in
    rw (p.1, p.2) (outside_of_header _ c.args.line.now (header_column c.args.line.now _ _ c.new-fields.ensures.at c.new-fields.ensures.fields (later _ (Cipher ∷ Number 0 65536 ∷ root ∷ []) _ _ _ _ c.in_ok-take_word.ensures.taken (later _ (Number 0 65536 ∷ root ∷ []) _ _ _ _ c.in_ok-alg.ensures.taken (c.in_err-used.ensures.fault (root ∷ []))))))

pub returns-in_err-root-clause-outside : goal.returns-in_err-root-clause-outside
returns-in_err-root-clause-outside c =
    let p = err_from_is_err_and c.from_residual-in_err-root.result c.from_residual-in_err-root.ensures.1 in
    rw (p.1, p.2) (outside_of_header _ c.args.line.now (header_column c.args.line.now _ _ c.new-fields.ensures.at c.new-fields.ensures.fields (later _ (Cipher ∷ Number 0 65536 ∷ root ∷ []) _ _ _ _ c.in_ok-take_word.ensures.taken (later _ (Number 0 65536 ∷ root ∷ []) _ _ _ _ c.in_ok-alg.ensures.taken (later _ (root ∷ []) _ _ _ _ c.in_ok-used.ensures.taken (c.in_err-root.ensures.fault []))))))

pub returns-in_err-take_end-clause-outside : goal.returns-in_err-take_end-clause-outside
returns-in_err-take_end-clause-outside c =
    let p = err_from_is_err_and c.from_residual-in_err-take_end.result c.from_residual-in_err-take_end.ensures.1 in
    rw (p.1, p.2) (outside_of_header _ c.args.line.now (header_column c.args.line.now _ _ c.new-fields.ensures.at c.new-fields.ensures.fields (later _ (Cipher ∷ Number 0 65536 ∷ root ∷ []) _ _ _ _ c.in_ok-take_word.ensures.taken (later _ (Number 0 65536 ∷ root ∷ []) _ _ _ _ c.in_ok-alg.ensures.taken (later _ (root ∷ []) _ _ _ _ c.in_ok-used.ensures.taken (later _ [] _ _ _ _ c.in_ok-root.ensures.taken c.in_err-take_end.ensures.fault))))))
