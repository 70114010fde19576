use Rattle.std.proofs.Common.{◌==◌, not, rules, tests}
use Rattle.std.proofs.lemmas.Fn.{filter_same}
use Rattle.node_rules.specs.declared.commands.Row.{Row}
use Rattle.command_table.proofs.rows.drop_row.Goals as goal

pub returns : goal.returns
returns c =
    filter_same _ (λ (r : Row). not (r.id == c.args.id)) _ (λ x b f k. search (rules, tests)) _ _ c.retain.ensures.filtered
