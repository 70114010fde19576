-- What a delivery status does to an anchor, from what its parts do.
use Rattle.std.proofs.Common.{ℕ, ◌≡◌, List, [], Option, ap, ◌∙◌}
use Rattle.nr_u.specs.Tunnel.Incoming.{contains}
use Rattle.nr_u.specs.Tunnel.Outgoing.{Outgoing}
use Rattle.nr_u.specs.Tunnel.Verdicts.{after_frame, again_of, confirmed_of}
use Rattle.nr_u.specs.declared.frame.Frame.{Frame}
use Rattle.pdcp_tx.specs.Sender.{low}
use Rattle.node_rules.specs.Anchor.{Active, AnchorState, active_anchor, silent}
use Rattle.node_rules.specs.AnchorReceiving.{ascending, delivery_at, with_delivery}
use Rattle.node_rules.specs.AnchorSending.{anchor_sends}
use Rattle.node_rules.specs.Choices.{Choices, Send}
use Rattle.node_rules.specs.Entity.{Entity, confirmed_where, risen_low}
use Rattle.node_rules.specs.declared.bearers.AnchorOut.{AnchorOut}

-- the anchor and what comes of it, once it sent what was asked for
abbrev asked : Active → Active × List Send → AnchorState × AnchorOut
asked a done = (active_anchor done.0, record silent { low = risen_low a.entity done.0.entity; sends = done.1 })

pub delivered : (c : Choices) (a : Active) (status : Frame) (confirmed again : List ℕ) (entity : Entity) (tunnel : Outgoing) (now : Active) (sends : List Send)
    → tunnel ≡ after_frame a.tunnel (low a.entity.tx) status → confirmed ≡ confirmed_of a.tunnel (low a.entity.tx) status
    → again ≡ ascending (again_of a.tunnel (low a.entity.tx) status) → entity ≡ confirmed_where (λ x. contains x confirmed) a.entity
    → ◌≡◌ {A = Active × List Send} (now, sends) (anchor_sends c (record a { entity = entity; tunnel = tunnel }) again)
    → ◌≡◌ {A = AnchorState × AnchorOut} (asked a (now, sends)) (delivery_at c a status)
delivered c a status confirmed again entity tunnel now sends tunnel_is confirmed_is again_is entity_is sent =
    let whole = entity_is ∙ ap (λ (xs : List ℕ). confirmed_where (λ x. contains x xs) a.entity) confirmed_is in
    let state : record a { entity = entity; tunnel = tunnel } ≡ with_delivery a status = cc (whole, tunnel_is) in
    let there = sent ∙ ap {B = Active × List Send} (λ (x : Active). anchor_sends c x again) state ∙ ap {B = Active × List Send} (λ (xs : List ℕ). anchor_sends c (with_delivery a status) xs) again_is in
    ap {B = AnchorState × AnchorOut} (λ (done : Active × List Send). asked a done) there
