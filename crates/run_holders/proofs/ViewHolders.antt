-- The active anchors of a node are those that the control plane sees.
use Rattle.std.proofs.Common.{ℕ, ◌≡◌, ◌∙◌, List, Option, Some, None, refl, sym}
use Rattle.std.specs.List.{AllByRecursion}
use Rattle.std.specs.Option.{option_map}
use Rattle.dc_base.specs.declared.events.Event.{Event}
use Rattle.dc_base.specs.declared.events.Header.{Header}
use Rattle.dc_base.specs.declared.nodes.Node.{Node}
use Rattle.dc_base.specs.declared.nodes.Node.TheVariants.{A, B, M, T}
use Rattle.dc_base.specs.declared.records.StatusTransfer.{StatusTransfer}
use Rattle.node_rules.specs.Anchor.{AnchorState, active_anchor, waiting_anchor}
use Rattle.node_rules.specs.Choices.{Choices}
use Rattle.node_rules.specs.Feed.{Fed}
use Rattle.node_rules.specs.Held.{held}
use Rattle.node_rules.specs.Run.{entries_from, world_after}
use Rattle.node_rules.specs.World.{World, new_world}
use Rattle.claims.specs.Noted.{past}
use Rattle.claims.specs.Past.{Past, new_past}
use Rattle.run_control.specs.Sound.{AddsSecond}
use Rattle.run_control.specs.Views.{bearer_of, view_of, waits_with}
use Rattle.run_places.specs.Tokens.{anchors_at}
use Rattle.run_holders.specs.Actives.{active_of}
use Rattle.run_holders.specs.Holders.{ActiveHolds, active_in}
use Rattle.run_holders.specs.Suited.{AllHold, RunsSuited, actives_at}
use Rattle.run_holders.proofs.HolderClaims.{holder_of}
use Rattle.run_holders.proofs.Runs.{all_hold_if}

-- an anchor
anchor_seen : (a : AnchorState) → active_in (Some (view_of a)) ≡ active_of (Some a)
anchor_seen (active_anchor a) = refl
anchor_seen (waiting_anchor w) = by w.transfer
  where
    by : (t : Option StatusTransfer) → active_in (Some (record { bearer = bearer_of w.setup; opened = w.is_told; stage = waits_with t })) ≡ None
    by None = refl
    by (Some st) = refl

master_seen : (o : Option AnchorState) → active_in (option_map view_of o) ≡ active_of o
master_seen None = refl
master_seen (Some a) = anchor_seen a

second_seen : (o : Option Fed) → active_in (option_map (λ (x : Fed). view_of x.anchor) o) ≡ active_of (option_map (λ (x : Fed). x.anchor) o)
second_seen None = refl
second_seen (Some x) = anchor_seen x.anchor

pub actives_seen : (x : Node) (w : World) (id : ℕ) → active_in (anchors_at x w id) ≡ actives_at x w id
actives_seen M w id = master_seen (held id w.master.anchors)
actives_seen A w id = second_seen (held id w.a.anchors)
actives_seen B w id = second_seen (held id w.b.anchors)
actives_seen T w id = refl

-- where each node holds what it has an active anchor of, the node whose anchor is active is the holder
pub active_holds : (p : Past) (w : World) (id : ℕ) → AllHold p w → ActiveHolds p w id
active_holds p w id all x g at = holder_of p id x g (all x id g (sym (actives_seen x w id) ∙ at))

-- so after a run whose steps suit the past
pub active_holds_if : (c : Choices) (h : Header) (policies : ℕ) (es : List Event) → AllByRecursion AddsSecond es → RunsSuited c (new_past h policies) (new_world h) es → (id : ℕ)
    → ActiveHolds (past h policies (entries_from c (new_world h) es)) (world_after c (new_world h) es) id
active_holds_if c h policies es adds suited id =
    active_holds (past h policies (entries_from c (new_world h) es)) (world_after c (new_world h) es) id (all_hold_if c h policies es adds suited)
