use Rattle.std.proofs.Common.{refl, rules}
use Rattle.std.proofs.lemmas.Map.Made.{map_same_pairs}
use Rattle.node_rules.specs.TerminalHalf.{terminal_fail}
use Rattle.term_core.proofs.terminal.Terminal.fail_legs.Goals as goal

pub returns : goal.returns
returns c =
    let marked = map_same_pairs _ terminal_fail _ (λ k v b w f' t. search rules) _ _ c.retain.ensures.filtered in
    rw (← c.self.view_is, marked) refl
