-- What the adoption does, from what its parts do.
use Rattle.std.proofs.Common.{ℕ, ◌≡◌, false, true, List, [], ◌∷◌, Option, Some, sym, ap, refl, ◌∙◌}
use Rattle.dc_base.specs.declared.numbers.SnLen.{SnLen}
use Rattle.dc_base.specs.declared.records.StatusTransfer.{StatusTransfer}
use Rattle.forward.specs.Forwarded.{whole}
use Rattle.forward.specs.Load.{Sdu}
use Rattle.pdcp_pdu.specs.Pdu.{Content}
use Rattle.pdcp_rx.specs.Entries.{Entry}
use Rattle.node_rules.specs.Adopting.{active_with, adopts, adopts_with, settled}
use Rattle.node_rules.specs.Anchor.{Active, AnchorState, Waiting, active_anchor, new_tunnel}
use Rattle.node_rules.specs.AnchorSending.{open_if}
use Rattle.node_rules.specs.Choices.{Choices, Send}
use Rattle.node_rules.specs.Entity.{Entity, risen_low, take_pdu, take_pdus}
use Rattle.node_rules.specs.declared.bearers.AnchorOut.{AnchorOut}
use Rattle.anchor.specs.Takeover.{entity_of}
use Rattle.anchor.proofs.Coming.{n-take_pdu}

n-take_pdus : (e : Entity) (xs : List Content) → (take_pdus e xs).0.setup.n ≡ e.setup.n
n-take_pdus e [] = refl
n-take_pdus e (x ∷ xs) = n-take_pdus (take_pdu e x).0 xs ∙ n-take_pdu e x

-- the anchor and what comes of it, from the entity after the PDUs and from the opening
abbrev both_parts : Entity → Entity × List Entry → Active × List Send → AnchorState × AnchorOut
both_parts e up done = (active_anchor done.0, record { adopted = true; ups = up.1; low = risen_low e up.0; sends = done.1 })

pub adopted-is : (c : Choices) (w : Waiting) (e after : Entity) (ups : List Entry) (now : Active) (sends : List Send)
    → w.setup.n ≡ e.setup.n → ◌≡◌ {A = Entity × List Entry} (after, ups) (take_pdus e w.pdus)
    → ◌≡◌ {A = Active × List Send} (now, sends) (open_if w.is_told c (record { entity = after; is_open = false; tunnel = new_tunnel after.setup.n }))
    → ◌≡◌ {A = AnchorState × AnchorOut} (both_parts e (after, ups) (now, sends)) (adopts c w e)
adopted-is c w e after ups now sends n_is came opened =
    let n_after : after.setup.n ≡ w.setup.n = ap (λ (up : Entity × List Entry). up.0.setup.n) came ∙ n-take_pdus e w.pdus ∙ sym n_is in
    let there = opened ∙ ap {B = Active × List Send} (λ (n : SnLen). open_if w.is_told c (record { entity = after; is_open = false; tunnel = new_tunnel n })) n_after in
    ap {B = AnchorState × AnchorOut} (λ (done : Active × List Send). both_parts e (after, ups) done) there
    ∙ ap {B = AnchorState × AnchorOut} (λ (up : Entity × List Entry). both_parts e up (active_with c w up.0)) came

pub settled-is : (c : Choices) (w : Waiting) (st : StatusTransfer) (down up : List Sdu) → w.transfer ≡ Some st → whole w.down ≡ Some down → whole w.up ≡ Some up
    → settled c w ≡ adopts c w (entity_of w.setup w.fresh st down up)
settled-is c w st down up transfer_is down_is up_is =
    ap {B = AnchorState × AnchorOut} (λ (x : Option StatusTransfer). adopts_with c w x (whole w.down) (whole w.up)) transfer_is
    ∙ ap {B = AnchorState × AnchorOut} (λ (x : Option (List Sdu)). adopts_with c w (Some st) x (whole w.up)) down_is
    ∙ ap {B = AnchorState × AnchorOut} (λ (x : Option (List Sdu)). adopts_with c w (Some st) (Some down) x) up_is
