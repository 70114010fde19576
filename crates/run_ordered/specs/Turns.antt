-- What a plan makes of the scene of a bearer, item by item (TS 37.340, 10.2 to 10.5).
use Rattle.std.specs.Prelude.{false, [], None, Some, true, ℕ, ◌++◌, ◌<◌, ◌∷◌, ◌≡◌, ◌≤◌}
use Rattle.std.specs.List.{AllByRecursion}
use Rattle.dc_base.specs.Nodes.{is_same_node}
use Rattle.dc_base.specs.declared.flights.Flight.TheVariants as flight
use Rattle.dc_base.specs.declared.nodes.LinkId.{LinkId}
use Rattle.dc_base.specs.declared.nodes.Node.{Node}
use Rattle.forward.specs.Forwarded.{nothing_came}
use Rattle.pdcp_tx.specs.Sender.{Sender}
use Rattle.node_rules.specs.Anchor.{Active, Waiting, active_anchor, waiting_anchor}
use Rattle.node_rules.specs.Feed.{Fed, freeze_fed, frozen_of, has_ended}
use Rattle.node_rules.specs.declared.commands.Row.{Row}
use Rattle.run_receivers.specs.Submitted.{Submitted}
use Rattle.run_senders.specs.Holders.{IfThere}
use Rattle.run_ordered.specs.Feeds.{AreUpto}
use Rattle.run_ordered.specs.Forwarding.{IsBeforeFreeze, IsOfSender}
use Rattle.run_ordered.specs.Orders.{IsWindowOf, Scene}
use Rattle.run_ordered.specs.Scenes.{IsAtOne}

-- the row of the bearer in a new generation, with its anchor at this node
pub record IsRenamed (r q : Row) (x : Node) : Type 0 where
  pub est : q.est ≡ r.est
  pub newer : r.g ≤ q.g
  pub anchor : q.anchor ≡ x

-- an anchor that waits for the bearer is made at a node that has none, in a generation of which nothing was heard yet
pub record BeginsToWait (u : Submitted) (r : Row) (id : ℕ) (s s' : Scene) (y : Node) (w : Waiting) : Type 1 where
  pub alone : IsAtOne id s s' y
  pub none : (s.at y).anchor ≡ None
  pub is : (s'.at y).anchor ≡ Some (waiting_anchor w)
  pub line : (s'.at y).line ≡ (s.at y).line
  pub frozen : (s'.at y).frozen ≡ (s.at y).frozen
  pub fed : IfThere (λ (f : Fed). (r.est ≤ f.since) × (f.since ≤ w.setup.g)) (s'.at y).fed
  pub known : AreUpto id w.setup.g (s'.at y).line (s'.at y).fed
  pub same_n : w.setup.n ≡ u.n
  pub newer : r.g < w.setup.g
  pub fresh : w.fresh ≡ []
  pub transfer : w.transfer ≡ None
  pub down : w.down ≡ nothing_came
  pub silent : (l : LinkId) → AllByRecursion (IsBeforeFreeze w.setup.g id) (s'.flights l)
  pub told : (tx : Sender) → IsWindowOf u r.est id s tx → IsWindowOf u r.est id s' tx

-- it goes again, as the plan is rejected
pub record WaitsNoLonger (u : Submitted) (est id : ℕ) (s s' : Scene) (y : Node) (w : Waiting) : Type 1 where
  pub alone : IsAtOne id s s' y
  pub was : (s.at y).anchor ≡ Some (waiting_anchor w)
  pub none : (s'.at y).anchor ≡ None
  pub line : (s'.at y).line ≡ (s.at y).line
  pub frozen : (s'.at y).frozen ≡ (s.at y).frozen
  pub told : (tx : Sender) → IsWindowOf u est id s tx → IsWindowOf u est id s' tx

-- an active anchor is frozen at its secondary node, for the generation of the anchor that waits
pub record IsFrozenThere (u : Submitted) (est id : ℕ) (s s' : Scene) (x y : Node) (a : Active) (g : ℕ) : Type 0 where
  pub others : (z : Node) → is_same_node x z ≡ false → s'.at z ≡ s.at z
  pub unsettled : s'.unsettled ≡ s.unsettled
  pub was : (s.at x).anchor ≡ Some (active_anchor a)
  pub fed : Fed
  pub had : (s.at x).fed ≡ Some fed
  pub named : a.entity.setup.id ≡ id
  pub none : (s'.at x).anchor ≡ None
  pub line : (s'.at x).line ≡ (s.at x).line
  pub frozen : (s'.at x).frozen ≡ frozen_of fed.since (freeze_fed fed a y g).rest
  pub flights : ((l : LinkId) → AllByRecursion (IsBeforeFreeze g id) (s.flights l)) → (l : LinkId)
      → AllByRecursion (IsOfSender a.entity.tx (has_ended fed.ended g) g id) (s'.flights l)
  pub told : IsWindowOf u est id s a.entity.tx → IsWindowOf u est id s' a.entity.tx

-- a plan that moves the bearer from a secondary node is carried out at the master: the path leads to the new anchor, and the line to
-- the old one ends
pub record PathTurns (u : Submitted) (r q : Row) (id : ℕ) (s s' : Scene) (x y : Node) : Type 1 where
  pub alone : IsAtOne id s s' x
  pub renamed : IsRenamed r q y
  pub line : (s'.at x) ≡ record (s.at x) { line = (s.at x).line ++ flight.End id q.g ∷ [] }
  pub told : (tx : Sender) → IsWindowOf u r.est id s tx → IsWindowOf u q.est id s' tx

-- one that moves it from the master: its anchor is frozen there, and no line ends
pub record PathLeaves (u : Submitted) (r q : Row) (id : ℕ) (s s' : Scene) (x y : Node) (a : Active) : Type 0 where
  pub others : (z : Node) → is_same_node x z ≡ false → s'.at z ≡ s.at z
  pub unsettled : s'.unsettled ≡ s.unsettled
  pub renamed : IsRenamed r q y
  pub was : (s.at x).anchor ≡ Some (active_anchor a)
  pub none : (s'.at x).anchor ≡ None
  pub line : (s.at x).line ≡ []
  pub line_after : (s'.at x).line ≡ []
  pub frozen : (s'.at x).frozen ≡ None
  pub flights : ((l : LinkId) → AllByRecursion (IsBeforeFreeze q.g id) (s.flights l)) → (l : LinkId)
      → AllByRecursion (IsOfSender a.entity.tx true q.g id) (s'.flights l)
  pub told : IsWindowOf u r.est id s a.entity.tx → IsWindowOf u q.est id s' a.entity.tx

-- the bearer is dropped at the node of its anchor, which the open command has it be
pub record IsDroppedThere (s s' : Scene) (x : Node) : Type 0 where
  pub others : (z : Node) → is_same_node x z ≡ false → s'.at z ≡ s.at z
  pub none : (s'.at x).anchor ≡ None
  pub unsettled : s'.unsettled ≡ true
