use Rattle.std.proofs.Common.{ℕ, ◌≡◌, List, ap, ◌∙◌}
use Rattle.nr_u.specs.Tunnel.Incoming.{contains}
use Rattle.nr_u.specs.Tunnel.Verdicts.{after_frame, again_of, confirmed_of}
use Rattle.pdcp_tx.specs.Sender.{low}
use Rattle.split_leg.specs.Stored.{margins}
use Rattle.node_rules.specs.Anchor.{Active, AnchorState}
use Rattle.node_rules.specs.AnchorReceiving.{ascending, delivery_at}
use Rattle.node_rules.specs.AnchorSending.{anchor_sends}
use Rattle.node_rules.specs.Choices.{Choices, Send, by_policies}
use Rattle.node_rules.specs.Entity.{confirmed_where, risen}
use Rattle.node_rules.specs.declared.bearers.AnchorOut.{AnchorOut}
use Rattle.anchor.proofs.Delivery.{delivered}
use Rattle.anchor.proofs.active.ActiveAnchor.take_status.Goals as goal

pub returns : goal.returns
returns g c =
    let choices : Choices = by_policies (margins c.args.policies.now) in
    let status = c.args.status.now in
    let a : Active = record { entity = c.self.inside.entity; is_open = c.self.inside.is_open; tunnel = c.self.inside.tunnel } in
    let mid : Active = record { entity = c.confirm_all.new.self; is_open = c.self.inside.is_open; tunnel = c.on_status.new.self } in
    let after = c.in_ok-verdict.ensures.after ∙ ap (λ (k : ℕ). after_frame a.tunnel k status) c.low-before.ensures in
    let confirmed = c.in_ok-verdict.ensures.confirmed ∙ ap (λ (k : ℕ). confirmed_of a.tunnel k status) c.low-before.ensures in
    let again = c.in_ok-verdict.ensures.again ∙ ap (λ (k : ℕ). ascending (again_of a.tunnel k status)) c.low-before.ensures in
    let entity = c.in_ok-confirm_all.ensures ∙ ap (λ (xs : List ℕ). confirmed_where (λ x. contains x xs) a.entity) c.as_slice.ensures in
    let sent = c.in_ok-sends.ensures ∙ ap {B = Active × List Send} (λ (xs : List ℕ). anchor_sends choices mid xs) c.as_slice-2.ensures in
    let later = c.low.ensures ∙ ap (λ (x : Active). low x.entity.tx) c.self-2.view_is in
    let rose = c.risen-low.ensures ∙ ap (λ (k : ℕ). risen k c.low.result) c.low-before.ensures ∙ ap (λ (k : ℕ). risen (low a.entity.tx) k) later in
    let there = delivered choices a status c.in_ok-verdict.verdict.confirmed c.in_ok-verdict.verdict.again c.confirm_all.new.self c.on_status.new.self c.send_counts.new.self c.in_ok-sends.sends after confirmed again entity sent in
    rw (c.new.ensures, rose) (there ∙ ap {B = AnchorState × AnchorOut} (λ (x : Active). delivery_at choices x status) c.self.view_is)
