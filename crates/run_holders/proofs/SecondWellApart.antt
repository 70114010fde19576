-- Where a secondary node alone has a bearer, or is to have it, no other node has an active anchor of it.
use Rattle.std.proofs.Common.{ℕ, ◌≡◌, ◌≤◌, ◌∙◌, Option, Some, None, refl, sym, arith, inl, inr}
use Rattle.std.specs.Prelude.{false, true, if◌then◌else◌}
use Rattle.dc_base.specs.Nodes.{is_same_node}
use Rattle.dc_base.specs.declared.nodes.Node.{Node}
use Rattle.dc_base.specs.declared.nodes.Node.TheVariants.{A, B, M, T}
use Rattle.node_rules.specs.World.{World}
use Rattle.run_control.specs.SecondControl.{is_holding}
use Rattle.run_control.specs.Views.{Stage, View, has_status, holds, lacks_status}
use Rattle.run_places.proofs.Runs.{IsWhole}
use Rattle.run_places.specs.Tokens.{anchors_at, kept_at, kept_by}
use Rattle.run_holders.specs.Holders.{active_in}
use Rattle.run_holders.specs.Suited.{actives_at}
use Rattle.run_holders.proofs.SecondWellPlans.{IsAlone}
use Rattle.run_holders.proofs.ViewHolders.{actives_seen}

-- an anchor that is not kept is not active
unkept : (o : Option View) → kept_by o ≤ 0 → active_in o ≡ None
unkept None le = refl
unkept (Some v) le = by v.stage le
  where
    by : (k : Stage) → kept_at k ≤ 0 → (if is_holding k then Some v.bearer.g else None) ≡ None
    by holds le' = absurd (omega (arith, le'))
    by lacks_status le' = refl
    by has_status le' = refl

module _ (w : World) (whole : IsWhole w) (id : ℕ) where
  none_at : (z : Node) → kept_by (anchors_at z w id) ≤ 0 → actives_at z w id ≡ None
  none_at z le = sym (actives_seen z w id) ∙ unkept (anchors_at z w id) le

  pub alone_a : IsAlone w A id → (z : Node) → is_same_node A z ≡ false → actives_at z w id ≡ None
  alone_a alone A apart = absurd (let bad : true ≡ false = apart in cc)
  alone_a alone T apart = refl
  alone_a (inl here) M apart = none_at M (omega (arith, whole.keeps.once id, here))
  alone_a (inl here) B apart = none_at B (omega (arith, whole.keeps.once id, here))
  alone_a (inr nowhere) M apart = none_at M (omega (arith, nowhere))
  alone_a (inr nowhere) B apart = none_at B (omega (arith, nowhere))

  pub alone_b : IsAlone w B id → (z : Node) → is_same_node B z ≡ false → actives_at z w id ≡ None
  alone_b alone B apart = absurd (let bad : true ≡ false = apart in cc)
  alone_b alone T apart = refl
  alone_b (inl here) M apart = none_at M (omega (arith, whole.keeps.once id, here))
  alone_b (inl here) A apart = none_at A (omega (arith, whole.keeps.once id, here))
  alone_b (inr nowhere) M apart = none_at M (omega (arith, nowhere))
  alone_b (inr nowhere) A apart = none_at A (omega (arith, nowhere))
