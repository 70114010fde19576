use Rattle.std.proofs.Common.{◌==◌, not, rules, tests}
use Rattle.std.proofs.lemmas.Fn.{filter_same}
use Rattle.claims.specs.Table.{Row}
use Rattle.checker_state.proofs.rows.drop_row.Goals as goal

pub returns : goal.returns
returns c =
    filter_same _ (λ (r : Row). not (r.id == c.args.id)) _ (λ x b f k. search (rules, tests)) _ _ c.retain.ensures.filtered
