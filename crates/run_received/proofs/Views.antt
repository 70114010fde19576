-- The anchors of a bearer as the control plane sees them; and who holds the bearer, where by the past the holder is the node whose anchor
-- is active.
use Rattle.std.proofs.Common.{ℕ, ◌≡◌, ◌⊎◌, Bool, true, false, Option, Some, None, refl, sym, ap, subst, ◌∙◌, inl, inr}
use Rattle.std.specs.Prelude.{if◌then◌else◌}
use Rattle.std.specs.Option.{option_map}
use Rattle.dc_base.specs.declared.nodes.Dir.TheVariants.{Ul}
use Rattle.dc_base.specs.declared.nodes.LinkId.{LinkId}
use Rattle.dc_base.specs.declared.nodes.Node.{Node}
use Rattle.dc_base.specs.declared.nodes.Node.TheVariants.{A, B, M, T}
use Rattle.claims.specs.HandedUp.{is_active_at, is_within, pdu_is_inferred}
use Rattle.claims.specs.Past.{Bearer}
use Rattle.claims.specs.Sameness.{implies}
use Rattle.node_rules.specs.Anchor.{AnchorState, Waiting, active_anchor, waiting_anchor}
use Rattle.node_rules.specs.Feed.{Fed}
use Rattle.node_rules.specs.Held.{held}
use Rattle.node_rules.specs.World.{World}
use Rattle.pdcp_rx.specs.declared.entity.RxParts.{RxParts}
use Rattle.run_control.specs.SecondControl.{is_holding}
use Rattle.run_control.specs.Views.{View, view_of, waits_with}
use Rattle.dc_base.specs.declared.records.StatusTransfer.{StatusTransfer}
use Rattle.run_places.specs.Tokens.{anchors_at}
use Rattle.run_uplinks.proofs.Establishments.{some_is}
use Rattle.run_received.specs.Receipts.{receipt_of}
use Rattle.run_received.specs.Receivers.{IsReceiver, anchor_at}
use Rattle.run_received.specs.Uplinks.{IsActiveIn, IsHeld}
use Rattle.run_received.proofs.Claims.{deliv_is}

-- what the control plane sees is the view of the anchor
pub views_are : (x : Node) (w : World) (id : ℕ) → anchors_at x w id ≡ option_map view_of (anchor_at x w id)
views_are M w id = refl
views_are T w id = refl
views_are A w id = by (held id w.a.anchors)
  where
    by : (o : Option Fed) → option_map (λ (x : Fed). view_of x.anchor) o ≡ option_map view_of (option_map (λ (f : Fed). f.anchor) o)
    by None = refl
    by (Some f) = refl
views_are B w id = by (held id w.b.anchors)
  where
    by : (o : Option Fed) → option_map (λ (x : Fed). view_of x.anchor) o ≡ option_map view_of (option_map (λ (f : Fed). f.anchor) o)
    by None = refl
    by (Some f) = refl

-- the generation of an active anchor, as it is seen
abbrev pub active_in : Option View → Option ℕ
active_in None = None
active_in (Some v) = if is_holding v.stage then Some v.bearer.g else None

waits_none : (v : Waiting) → active_in (Some (view_of (waiting_anchor v))) ≡ None
waits_none v = by v.transfer
  where
    by : (o : Option StatusTransfer) → (if is_holding (waits_with o) then Some v.setup.g else None) ≡ None
    by None = refl
    by (Some st) = refl

-- it is active in the generation that is seen
pub seen_active : (x : Node) (w : World) (id g : ℕ) → IsActiveIn w id x g → active_in (anchors_at x w id) ≡ Some g
seen_active x w id g is = ap active_in (views_are x w id ∙ ap (option_map view_of) is.there) ∙ ap Some is.of

pub active_seen : (x : Node) (w : World) (id g : ℕ) → active_in (anchors_at x w id) ≡ Some g → IsActiveIn w id x g
active_seen x w id g is = by (anchor_at x w id) refl (sym (ap active_in (views_are x w id)) ∙ is)
  where
    by : (o : Option AnchorState) → anchor_at x w id ≡ o → active_in (option_map view_of o) ≡ Some g → IsActiveIn w id x g
    by None at none = absurd (let bad : None ≡ Some g = none in cc)
    by (Some (waiting_anchor v)) at none = absurd (let bad : None ≡ Some g = sym (waits_none v) ∙ none in cc)
    by (Some (active_anchor a)) at some = record { anchor = a; there = at; of = some_is a.entity.setup.g g some }

-- ---- who holds

-- where the past has the node of each active anchor as the holder, in the anchor's generation, and nobody where none is active, the holder
-- is the node whose anchor is active
pub holder_held : (w : World) (b : Bearer) → ((x : Node) (g : ℕ) → active_in (anchors_at x w b.id) ≡ Some g → b.holder ≡ Some (x, g))
    → (((x : Node) → active_in (anchors_at x w b.id) ≡ None) → b.holder ≡ None) → ((x : Node) (g : ℕ) → b.holder ≡ Some (x, g) → b.owned ≡ g)
    → IsHeld w (receipt_of b)
holder_held w b active none owned = record {
  active = λ x g is. let held' = active x g (seen_active x w b.id g is) in (held', owned x g held');
  holder = λ x g held'. found x g held' (at M) (at A) (at B);
}
  where
    at : (x : Node) → (active_in (anchors_at x w b.id) ≡ None) ⊎ ((g : ℕ) × (active_in (anchors_at x w b.id) ≡ Some g))
    at x = by (active_in (anchors_at x w b.id)) refl
      where
        by : (o : Option ℕ) → active_in (anchors_at x w b.id) ≡ o → (active_in (anchors_at x w b.id) ≡ None) ⊎ ((g : ℕ)
            × (active_in (anchors_at x w b.id) ≡ Some g))
        by None is = inl is
        by (Some g) is = inr (g, is)

    same : (x y : Node) (g h : ℕ) → b.holder ≡ Some (x, g) → active_in (anchors_at y w b.id) ≡ Some h → IsActiveIn w b.id x g
    same x y g h held' is =
        let one : Node × ℕ = (x, g) in
        let two : Node × ℕ = (y, h) in
        let pair : one ≡ two = some_is one two (sym held' ∙ active y h is) in
        subst (λ (z : Node × ℕ). IsActiveIn w b.id z.0 z.1) (sym pair) (active_seen y w b.id h is)

    found : (x : Node) (g : ℕ) → b.holder ≡ Some (x, g) → (active_in (anchors_at M w b.id) ≡ None) ⊎ ((h : ℕ) × (active_in (anchors_at M w b.id) ≡ Some h))
        → (active_in (anchors_at A w b.id) ≡ None) ⊎ ((h : ℕ) × (active_in (anchors_at A w b.id) ≡ Some h))
        → (active_in (anchors_at B w b.id) ≡ None) ⊎ ((h : ℕ) × (active_in (anchors_at B w b.id) ≡ Some h)) → IsActiveIn w b.id x g
    found x g held' (inr m) at_a at_b = same x M g m.0 held' m.1
    found x g held' (inl no_m) (inr a) at_b = same x A g a.0 held' a.1
    found x g held' (inl no_m) (inl no_a) (inr z) = same x B g z.0 held' z.1
    found x g held' (inl no_m) (inl no_a) (inl no_b) =
        absurd (let bad : None ≡ Some (x, g) = sym (none (all no_m no_a no_b)) ∙ held' in cc)
      where
        all : active_in (anchors_at M w b.id) ≡ None → active_in (anchors_at A w b.id) ≡ None → active_in (anchors_at B w b.id) ≡ None
            → (y : Node) → active_in (anchors_at y w b.id) ≡ None
        all m a z M = m
        all m a z A = a
        all m a z B = z
        all m a z T = refl

-- ---- the claim on what is inferred

-- the COUNT of a PDU that comes to the holder is within a window of RX_DELIV, by the past
pub uplink_inferred : (b : Bearer) (rx : RxParts) (l : LinkId) (g count : ℕ) → IsReceiver (receipt_of b) rx → is_within b.n rx.deliv count ≡ true
    → pdu_is_inferred Ul l g (Some count) (Some b) ≡ true
uplink_inferred b rx l g count is within =
    let now = ap (λ k. is_within b.n k count) (deliv_is (receipt_of b) rx is) ∙ within in
    ap (implies (is_active_at l g Ul b)) now ∙ by (is_active_at l g Ul b)
  where
    by : (t : Bool) → implies t true ≡ true
    by true = refl
    by false = refl
