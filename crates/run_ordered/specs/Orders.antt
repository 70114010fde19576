-- Where the submissions of a bearer are that have no COUNT yet, and where its sending entity is: at an anchor, or on its way to the one
-- that waits for it (TS 37.340, 8 and 10).
use Rattle.std.specs.Prelude.{Bool, List, None, Option, Some, [], false, length, true, ℕ, ◌++◌, ◌+◌, ◌<◌, ◌≡◌, ◌≤◌}
use Rattle.std.specs.List.{AllByRecursion}
use Rattle.std.specs.Option.{option_map}
use Rattle.dc_base.specs.Count.{window}
use Rattle.dc_base.specs.Links.{link}
use Rattle.dc_base.specs.Nodes.{is_same_node}
use Rattle.dc_base.specs.declared.flights.Flight.{Flight}
use Rattle.dc_base.specs.declared.nodes.Class.TheVariants.{Feed}
use Rattle.dc_base.specs.declared.nodes.LinkId.{LinkId}
use Rattle.dc_base.specs.declared.nodes.Node.{Node}
use Rattle.dc_base.specs.declared.nodes.Node.TheVariants.{A, B, M, T}
use Rattle.forward.specs.Forwarded.{nothing_came}
use Rattle.pdcp_tx.specs.Sender.{Sender, low}
use Rattle.node_rules.specs.Anchor.{Active, AnchorState, Waiting, active_anchor, waiting_anchor}
use Rattle.node_rules.specs.Feed.{Fed, Frozen}
use Rattle.node_rules.specs.Held.{held}
use Rattle.node_rules.specs.MasterState.{is_unsettled}
use Rattle.node_rules.specs.Secondary.{SecondNode}
use Rattle.node_rules.specs.World.{World, flights_on}
use Rattle.node_rules.specs.declared.bearers.Window.{Window}
use Rattle.node_rules.specs.declared.commands.Row.{Row}
use Rattle.run_receivers.specs.Submitted.{Submitted, next_of}
use Rattle.run_senders.specs.Holders.{IfThere}
use Rattle.run_ordered.specs.Feeds.{AreUpto, EndsLine, IsUpto, IsSinceUpto, IsBefore, IsLastLineOf, IsLineOf, IsSince, IsTold, sdus_of}
use Rattle.run_ordered.specs.Forwarding.{IsBeforeFreeze, IsOfSender, IsTakingOver, forwarded_by}
use Rattle.run_ordered.specs.Fronts.{HasFront, IsFront}

-- ---- what there is of a bearer

-- at a node: the anchor, with its line from the core at a secondary node; what is left of a frozen one; and what stands on the core's
-- lines to the node and from it
pub record Place : Type 0 where
  pub anchor : Option AnchorState
  pub fed : Option Fed
  pub frozen : Option Frozen
  pub line : List Flight
  pub told : List Flight

-- at all nodes, with the master's window, the flights on all links, and whether the open command sets the bearer up or drops it
pub record Scene : Type 0 where
  pub at : Node → Place
  pub window : Option Window
  pub flights : LinkId → List Flight
  pub unsettled : Bool

-- at a secondary node
abbrev pub second_place : SecondNode → ℕ → List Flight → List Flight → Place
second_place s id line told = record {
  anchor = option_map (λ (x : Fed). x.anchor) (held id s.anchors);
  fed = held id s.anchors;
  frozen = held id s.frozen;
  line = line;
  told = told;
}

-- at any node of a world; the terminal has none, and no line leads to the master
abbrev pub place_of : World → ℕ → Node → Place
place_of w id M = record { anchor = held id w.master.anchors; fed = None; frozen = None; line = []; told = [] }
place_of w id A = second_place w.a id (flights_on (link M A Feed) w.links) (flights_on (link A M Feed) w.links)
place_of w id B = second_place w.b id (flights_on (link M B Feed) w.links) (flights_on (link B M Feed) w.links)
place_of w id T = record { anchor = None; fed = None; frozen = None; line = []; told = [] }

-- all of it
abbrev pub scene_of : World → ℕ → Scene
scene_of w id = record {
  at = place_of w id;
  window = held id w.master.windows;
  flights = λ l. flights_on l w.links;
  unsettled = is_unsettled id w.master.proc.command;
}

-- ---- the window

-- the master's window of the bearer has counted all submissions, and begins no further than Low, nor does any that is told
pub record IsWindowOf (u : Submitted) (est id : ℕ) (s : Scene) (tx : Sender) : Type 0 where
  pub begun : Window
  pub there : s.window ≡ Some begun
  pub accepted : begun.accepted ≡ length u.payloads
  pub told : begun.told ≤ low tx
  pub near : next_of u ≤ begun.told + window u.n
  pub on_lines : (z : Node) → AllByRecursion (IsTold est id (low tx)) (s.at z).told

-- ---- anchors

-- the node has no anchor, and forwards nothing; and no SDU of the establishment is on the line to it
pub record IsAway (est id : ℕ) (p : Place) : Type 0 where
  pub anchor : p.anchor ≡ None
  pub frozen : p.frozen ≡ None
  pub line : sdus_of est id p.line ≡ []

-- at all nodes but these two
abbrev pub AreAway : ℕ → ℕ → Scene → Node → Node → Type 0
AreAway est id s x y = (z : Node) → is_same_node x z ≡ false → is_same_node y z ≡ false → IsAway est id (s.at z)

-- the node has the sending entity, to which come what is on its line and then these
pub record IsSendingAt (u : Submitted) (r : Row) (id : ℕ) (s : Scene) (x : Node) (later : List (List ℕ)) : Type 0 where
  pub anchor : Active
  pub there : (s.at x).anchor ≡ Some (active_anchor anchor)
  pub front : HasFront u (sdus_of r.est id (s.at x).line ++ later) anchor
  pub line : IfThere (λ (f : Fed). IsLineOf r.est id f (s.at x).line) (s.at x).fed
  pub upto : IsSinceUpto r.g (s.at x).fed
  pub known : AreUpto id r.g (s.at x).line (s.at x).fed
  pub frozen : (s.at x).frozen ≡ None
  pub told : IsWindowOf u r.est id s anchor.entity.tx

-- the node waits for it
pub record IsAwaiting (u : Submitted) (est id : ℕ) (p : Place) : Type 0 where
  pub anchor : Waiting
  pub there : p.anchor ≡ Some (waiting_anchor anchor)
  pub same_n : anchor.setup.n ≡ u.n
  pub line : IfThere (λ (f : Fed). IsLineOf est id f p.line) p.fed
  pub upto : IsSinceUpto anchor.setup.g p.fed
  pub known : AreUpto id anchor.setup.g p.line p.fed
  pub frozen : p.frozen ≡ None

-- what comes to a waiting anchor: what it keeps, and then what is on its line
abbrev pub coming_to : ℕ → ℕ → Place → Waiting → List (List ℕ)
coming_to est id p new = new.fresh ++ sdus_of est id p.line

-- the path leads to the old anchor, and nothing came to the new one; or the change was carried out, and the path leads to the new one
pub data IsPath (r : Row) (id : ℕ) (p : Place) (x y : Node) (new : Waiting) : Type 0 where
  to_old : (at : r.anchor ≡ x) → (older : r.g < new.setup.g) → (none : coming_to r.est id p new ≡ []) → IsPath r id p x y new
  to_new : (at : r.anchor ≡ y) → (same : r.g ≡ new.setup.g) → IsPath r id p x y new

-- ---- as it moves

-- the frozen anchor forwards what comes on its line, until that ends
pub record IsForwarding (tx : Sender) (r : Row) (id : ℕ) (p : Place) (x : Node) (g : ℕ) : Type 0 where
  pub frozen : Frozen
  pub there : p.frozen ≡ Some frozen
  pub g_is : frozen.tunnel.g ≡ g
  pub id_is : frozen.tunnel.id ≡ id
  pub n_is : frozen.tunnel.n ≡ tx.n
  pub next : frozen.tunnel.next ≡ length (forwarded_by tx)
  pub from : r.est ≤ frozen.since
  pub upto : frozen.since ≤ r.g
  pub since : AllByRecursion (IsSince r.est id frozen.since) p.line
  pub before : AllByRecursion (IsBefore r.est id g) p.line
  pub known : AllByRecursion (IsUpto id r.g) p.line
  pub ends : is_same_node x r.anchor ≡ false → EndsLine r.est id g p.line

-- it does so; or it has told how much that was, and the path leads elsewhere
abbrev pub IsFrozenAs : Bool → Sender → Row → ℕ → Place → Node → ℕ → Type 0
IsFrozenAs false tx r id p x g = IsForwarding tx r id p x g
IsFrozenAs true tx r id p x g = (p.frozen ≡ None) × (sdus_of r.est id p.line ≡ []) × (is_same_node x r.anchor ≡ false)

-- ---- all of it

-- of a bearer of the table: it was dropped at the node of its anchor, and soon will be at the master; its anchor is where the path
-- leads; it is about to move; or it is on its way
pub data IsOrdered (u : Submitted) (r : Row) (id : ℕ) (s : Scene) : Type 0 where
  is_dropped : (none : (z : Node) → (s.at z).anchor ≡ None) → (unsettled : s.unsettled ≡ true) → IsOrdered u r id s
  at_anchor : (x : Node) → (path : r.anchor ≡ x) → (is : IsSendingAt u r id s x []) → (away : AreAway r.est id s x x) → IsOrdered u r id s
  about_to_move : (x y : Node) → (apart : is_same_node x y ≡ false) → (new : IsAwaiting u r.est id (s.at y))
      → (is : IsSendingAt u r id s x (coming_to r.est id (s.at y) new.anchor)) → (path : IsPath r id (s.at y) x y new.anchor)
      → (last : is_same_node x r.anchor ≡ false → IfThere (λ (f : Fed). IsLastLineOf r.est id r.g f (s.at x).line) (s.at x).fed)
      → (no_transfer : new.anchor.transfer ≡ None) → (nothing : new.anchor.down ≡ nothing_came)
      → (before : (l : LinkId) → AllByRecursion (IsBeforeFreeze new.anchor.setup.g id) (s.flights l)) → (away : AreAway r.est id s x y) → IsOrdered u r id s
  on_its_way : (x y : Node) → (apart : is_same_node x y ≡ false) → (new : IsAwaiting u r.est id (s.at y)) → (gone : (s.at x).anchor ≡ None) → (tx : Sender)
      → (closed : Bool)
      → (takes : IsTakingOver tx closed new.anchor) → (front : IsFront u (sdus_of r.est id (s.at x).line ++ coming_to r.est id (s.at y) new.anchor) false tx)
      → (path : IsPath r id (s.at y) x y new.anchor) → (frozen : IsFrozenAs closed tx r id (s.at x) x new.anchor.setup.g)
      → (flights : (l : LinkId) → AllByRecursion (IsOfSender tx closed new.anchor.setup.g id) (s.flights l))
      → (told : IsWindowOf u r.est id s tx) → (away : AreAway r.est id s x y) → IsOrdered u r id s
