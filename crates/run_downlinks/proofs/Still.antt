-- A step that leaves the downlinks where they are keeps their order.
use Rattle.std.proofs.Common.{ℕ, ◌≡◌, ◌∙◌, refl, sym, ap, subst}
use Rattle.std.specs.List.{AllByRecursion}
use Rattle.std.specs.Option.{option_map}
use Rattle.dc_base.specs.declared.nodes.Node.{Node}
use Rattle.dc_base.specs.declared.nodes.Node.TheVariants.{A, B, M, T}
use Rattle.pdcp_tx.specs.Sender.{Sender, low}
use Rattle.node_rules.specs.Feed.{Fed}
use Rattle.node_rules.specs.Held.{held}
use Rattle.node_rules.specs.Master.{MasterNode}
use Rattle.node_rules.specs.MasterState.{is_unsettled}
use Rattle.node_rules.specs.Secondary.{SecondNode}
use Rattle.node_rules.specs.World.{World}
use Rattle.node_rules.specs.declared.commands.Row.{Row}
use Rattle.run_receivers.specs.Submitted.{Submitted}
use Rattle.run_ordered.specs.Feeds.{IsTold}
use Rattle.run_ordered.specs.Orders.{IsOrdered, IsWindowOf, scene_of}
use Rattle.run_ordered.specs.Scenes.{Shrinks}
use Rattle.run_ordered.specs.Scenes.Shrinks.{same_line}
use Rattle.run_ordered.proofs.Handing.{stays_ordered}
use Rattle.run_downlinks.specs.Still.{IsStill}

module _ (u : Submitted) (r : Row) (id : ℕ) (w v : World) (still : IsStill id w v) where
  anchor_is : (z : Node) → ((scene_of v id).at z).anchor ≡ ((scene_of w id).at z).anchor
  anchor_is T = refl
  anchor_is M = ap (λ (m : MasterNode). held id m.anchors) still.master
  anchor_is A = ap (λ (s : SecondNode). option_map (λ (x : Fed). x.anchor) (held id s.anchors)) still.a
  anchor_is B = ap (λ (s : SecondNode). option_map (λ (x : Fed). x.anchor) (held id s.anchors)) still.b

  fed_is : (z : Node) → ((scene_of v id).at z).fed ≡ ((scene_of w id).at z).fed
  fed_is T = refl
  fed_is M = refl
  fed_is A = ap (λ (s : SecondNode). held id s.anchors) still.a
  fed_is B = ap (λ (s : SecondNode). held id s.anchors) still.b

  frozen_is : (z : Node) → ((scene_of v id).at z).frozen ≡ ((scene_of w id).at z).frozen
  frozen_is T = refl
  frozen_is M = refl
  frozen_is A = ap (λ (s : SecondNode). held id s.frozen) still.a
  frozen_is B = ap (λ (s : SecondNode). held id s.frozen) still.b

  line_is : (z : Node) → ((scene_of v id).at z).line ≡ ((scene_of w id).at z).line
  line_is T = refl
  line_is M = refl
  line_is A = still.to_a
  line_is B = still.to_b

  told_is : (z : Node) → ((scene_of v id).at z).told ≡ ((scene_of w id).at z).told
  told_is T = refl
  told_is M = refl
  told_is A = still.from_a
  told_is B = still.from_b

  window_is : (x : Submitted) (tx : Sender) → IsWindowOf x r.est id (scene_of w id) tx → IsWindowOf x r.est id (scene_of v id) tx
  window_is x tx is = record {
    begun = is.begun;
    there = ap (λ (m : MasterNode). held id m.windows) still.master ∙ is.there;
    accepted = is.accepted;
    told = is.told;
    near = is.near;
    on_lines = λ z. subst (AllByRecursion (IsTold r.est id (low tx))) (sym (told_is z)) (is.on_lines z);
  }

  pub still_ordered : IsOrdered u r id (scene_of w id) → IsOrdered u r id (scene_of v id)
  still_ordered is =
      stays_ordered u r id (scene_of w id) (scene_of v id)
      (record {
        anchor = anchor_is;
        fed = fed_is;
        frozen = frozen_is;
        line = λ z. subst (Shrinks r.est id ((scene_of w id).at z).line) (sym (line_is z)) same_line;
        unsettled = ap (λ (m : MasterNode). is_unsettled id m.proc.command) still.master;
        flights = still.flights;
        told = window_is;
      })
      is
