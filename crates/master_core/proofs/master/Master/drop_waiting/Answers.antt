use Rattle.std.proofs.Common.{refl, rules}
use Rattle.std.specs.Prelude.{not}
use Rattle.std.proofs.lemmas.Map.Made.{filter_same_pairs}
use Rattle.node_rules.specs.Master.{is_waiting}
use Rattle.master_core.proofs.master.Master.drop_waiting.Goals as goal

pub returns : goal.returns
returns c =
    let kept = filter_same_pairs _ (λ x. not (is_waiting x.1)) _ (λ k v b w f' t. search rules) _ _ c.retain.ensures.filtered in
    rw (← c.self.view_is, kept) refl
