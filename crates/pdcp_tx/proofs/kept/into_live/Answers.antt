use Rattle.std.proofs.Common.{◌∙◌, rules}
use Rattle.std.proofs.lemmas.Fn.{filter_same}
use Rattle.pdcp_tx.specs.Sender.{Entry}
use Rattle.pdcp_tx.specs.Slots.{is_live}
use Rattle.pdcp_tx.proofs.kept.into_live.Goals as goal

pub returns : goal.returns
returns c =
    c.into_vec.ensures.items
    ∙ filter_same _ (λ (e : Entry). is_live c.args.next e.0) _ (λ x b f' k. search rules) c.args.kept.items c.retain.new.self.items c.retain.ensures.filtered
