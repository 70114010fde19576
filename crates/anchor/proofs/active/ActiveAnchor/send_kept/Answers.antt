use Rattle.std.proofs.Common.{List, ap, ◌∙◌}
use Rattle.std.specs.List.{filter_map}
use Rattle.node_rules.specs.Anchor.{Active}
use Rattle.node_rules.specs.AnchorSending.{anchor_recovers}
use Rattle.node_rules.specs.Choices.{Send, by_policies}
use Rattle.node_rules.specs.Sending.{pdu_at}
use Rattle.pdcp_tx.specs.Sender.{counts}
use Rattle.split_leg.specs.Stored.{margins}
use Rattle.anchor.proofs.Shape.{if_sends, with_sends-carried}
use Rattle.anchor.proofs.active.ActiveAnchor.send_kept.Goals as goal

pub returns : goal.returns
returns g c =
    let a : Active = record { entity = c.self.inside.entity; is_open = c.self.inside.is_open; tunnel = c.self.inside.tunnel } in
    let carried = with_sends-carried (by_policies (margins c.args.policies.now)) a (filter_map (pdu_at c.self.inside.entity) (counts c.self.inside.entity.tx.kept)) _ _ c.in_ok-on_legs.ensures in
    let opened = ap {B = Active × List Send} (λ (a : Active). anchor_recovers (by_policies (margins c.args.policies.now)) a) c.self.view_is in
    if_sends c.carry.result c.carry.new.self (carried ∙ opened) c.carry.ensures
