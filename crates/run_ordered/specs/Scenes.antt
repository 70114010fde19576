-- What a step of a node makes of the scene of a bearer, where no plan is carried out.
use Rattle.std.specs.Prelude.{true, false, Bool, List, [], None, Some, ℕ, ◌+◌, ◌++◌, ◌-◌, ◌<◌, ◌^◌, ◌∷◌, ◌≡◌, ◌≤◌, ◌⊎◌, ⊤}
use Rattle.std.specs.List.{AllByRecursion}
use Rattle.dc_base.specs.Count.{window}
use Rattle.dc_base.specs.Nodes.{is_same_node}
use Rattle.dc_base.specs.declared.flights.Flight.{Flight}
use Rattle.dc_base.specs.declared.flights.Flight.TheVariants as flight
use Rattle.dc_base.specs.declared.nodes.LinkId.{LinkId}
use Rattle.dc_base.specs.declared.nodes.Node.{Node}
use Rattle.forward.specs.Forwarded.{nothing_came}
use Rattle.forward.specs.Tunnel.{IsLater}
use Rattle.pdcp_tx.specs.Sender.{Sender, low}
use Rattle.node_rules.specs.Anchor.{AnchorState, Active, Waiting, active_anchor, waiting_anchor}
use Rattle.node_rules.specs.Feed.{Fed}
use Rattle.node_rules.specs.declared.bearers.Window.{Window}
use Rattle.node_rules.specs.declared.commands.Row.{Row}
use Rattle.run_receivers.specs.Submitted.{Submitted}
use Rattle.run_senders.specs.Holders.{IfThere}
use Rattle.node_rules.specs.Choices.{Send}
use Rattle.node_rules.specs.declared.bearers.AnchorOut.{AnchorOut}
use Rattle.run_ordered.specs.Anchors.{AnchorWaits}
use Rattle.run_ordered.specs.Feeds.{AreUpto, IsSinceUpto, IsLastLineOf, IsLineOf, sdu_of, sdus_of}
use Rattle.run_ordered.specs.Forwarding.{IsBeforeFreeze, IsOfSender, IsQuiet, IsSilentOf, IsTakingOver, down_tunnel}
use Rattle.run_ordered.specs.Fronts.{ArePayloads, HasFront, IsFront, IsMoving}
use Rattle.run_ordered.specs.Orders.{IsForwarding, IsFrozenAs, IsWindowOf, Place, Scene, coming_to}

-- the node alone has changed, and on the links flights went, or came that say nothing of what is handed over
pub record IsAtOne (id : ℕ) (s s' : Scene) (x : Node) : Type 1 where
  pub others : (z : Node) → is_same_node x z ≡ false → s'.at z ≡ s.at z
  pub unsettled : s'.unsettled ≡ s.unsettled
  pub flights : (P : Flight → Type 0) → ((f : Flight) → IsSilentOf id f → P f) → (l : LinkId) → AllByRecursion P (s.flights l) → AllByRecursion P (s'.flights l)

-- what its line brings is what its anchor takes, as it was
pub record KeepsLine (est id : ℕ) (p q : Place) : Type 0 where
  pub line : IfThere (λ (f : Fed). IsLineOf est id f p.line) p.fed → IfThere (λ (f : Fed). IsLineOf est id f q.line) q.fed
  pub upto : (h : ℕ) → IsSinceUpto h p.fed → IsSinceUpto h q.fed
  pub known : (h : ℕ) → AreUpto id h p.line p.fed → AreUpto id h q.line q.fed
  pub last : (h : ℕ) → IfThere (λ (f : Fed). IsLastLineOf est id h f p.line) p.fed → IfThere (λ (f : Fed). IsLastLineOf est id h f q.line) q.fed
  pub frozen : q.frozen ≡ p.frozen

-- the active anchor of the node took what stood first on its line, or did something else: the submissions that have yet to come go on
-- in their order
pub record Serves (est id : ℕ) (s s' : Scene) (x : Node) (a b : Active) : Type 1 where
  pub alone : IsAtOne id s s' x
  pub was : (s.at x).anchor ≡ Some (active_anchor a)
  pub is : (s'.at x).anchor ≡ Some (active_anchor b)
  pub line : KeepsLine est id (s.at x) (s'.at x)
  pub front : (u : Submitted) (later : List (List ℕ)) → HasFront u (sdus_of est id (s.at x).line ++ later) a
      → HasFront u (sdus_of est id (s'.at x).line ++ later) b
  pub told : (u : Submitted) → IsWindowOf u est id s a.entity.tx → IsWindowOf u est id s' b.entity.tx

-- a waiting anchor goes on to wait: what comes to it is as it was
pub record WaitsOn (est id : ℕ) (s s' : Scene) (y : Node) (w v : Waiting) : Type 1 where
  pub alone : IsAtOne id s s' y
  pub was : (s.at y).anchor ≡ Some (waiting_anchor w)
  pub is : (s'.at y).anchor ≡ Some (waiting_anchor v)
  pub line : KeepsLine est id (s.at y) (s'.at y)
  pub coming : coming_to est id (s'.at y) v ≡ coming_to est id (s.at y) w
  pub same_g : v.setup.g ≡ w.setup.g
  pub same_n : v.setup.n ≡ w.setup.n
  pub transfer : v.transfer ≡ w.transfer
  pub down : v.down ≡ w.down
  pub told : (u : Submitted) (tx : Sender) → IsWindowOf u est id s tx → IsWindowOf u est id s' tx

-- ---- the entity is taken over

-- an anchor that waited still takes the entity over, in the same generation and with what came to it; or it has the entity, all that was
-- forwarded having come, and these have yet to come to it
pub data HasOrTakes (u : Submitted) (g : ℕ) (fresh old rest : List (List ℕ)) (tx : Sender) (closed : Bool) : AnchorState → Type 0 where
  takes : (w : Waiting) → (same_g : w.setup.g ≡ g) → (same : w.fresh ≡ fresh) → (is : IsTakingOver tx closed w) → (moving : IsMoving u old rest tx w)
      → HasOrTakes u g fresh old rest tx closed (waiting_anchor w)
  has : (a : Active) → (shut : closed ≡ true) → (front : HasFront u rest a) → (rises : low tx ≤ low a.entity.tx)
      → HasOrTakes u g fresh old rest tx closed (active_anchor a)

-- the window is that of the entity, wherever it is then
abbrev pub IsWindowAt : Submitted → ℕ → ℕ → Scene → Sender → AnchorState → Type 0
IsWindowAt u est id s tx (waiting_anchor w) = IsWindowOf u est id s tx
IsWindowAt u est id s tx (active_anchor a) = IsWindowOf u est id s a.entity.tx

-- Low has not fallen, where the entity was taken over
abbrev pub HasRisen : Sender → AnchorState → Type 0
HasRisen tx (waiting_anchor w) = ⊤
HasRisen tx (active_anchor a) = low tx ≤ low a.entity.tx

-- something came to a waiting anchor of the entity that it waits for; where nothing was frozen yet, it waits on
pub record Receives (est id : ℕ) (s s' : Scene) (y : Node) (w : Waiting) (t : AnchorState) : Type 1 where
  pub alone : IsAtOne id s s' y
  pub was : (s.at y).anchor ≡ Some (waiting_anchor w)
  pub is : (s'.at y).anchor ≡ Some t
  pub line : KeepsLine est id (s.at y) (s'.at y)
  pub same : sdus_of est id (s'.at y).line ≡ sdus_of est id (s.at y).line
  pub before : ((l : LinkId) → AllByRecursion (IsBeforeFreeze w.setup.g id) (s.flights l)) → w.transfer ≡ None → w.down ≡ nothing_came
      → (v : Waiting) × WaitsOn est id s s' y w v
  pub after : (u : Submitted) (old rest : List (List ℕ)) (tx : Sender) (closed : Bool) → ArePayloads u → (closed ≡ true → old ≡ [])
      → ((l : LinkId) → AllByRecursion (IsOfSender tx closed w.setup.g id) (s.flights l))
      → IsTakingOver tx closed w → IsMoving u old rest tx w → HasOrTakes u w.setup.g w.fresh old rest tx closed t
  pub told : (u : Submitted) (tx : Sender) → HasRisen tx t → IsWindowOf u est id s tx → IsWindowAt u est id s' tx t

-- ---- a frozen anchor forwards

-- what a frozen anchor took from its line it has forwarded; or the line ended, and it has told how much that was
pub record HasForwarded (u : Submitted) (later : List (List ℕ)) (r : Row) (id : ℕ) (s s' : Scene) (x : Node) (g : ℕ) (tx : Sender) : Type 0 where
  pub after : Sender
  pub closed : Bool
  pub front : IsFront u (sdus_of r.est id (s'.at x).line ++ later) false after
  pub frozen : IsFrozenAs closed after r id (s'.at x) x g
  pub longer : IsLater (down_tunnel tx false) (down_tunnel after closed)
  pub same_n : after.n ≡ tx.n
  pub next : after.next ≡ tx.next
  pub low_is : low after ≡ low tx
  pub flights : ((l : LinkId) → AllByRecursion (IsOfSender tx false g id) (s.flights l)) → (l : LinkId)
      → AllByRecursion (IsOfSender after closed g id) (s'.flights l)

-- the frozen anchor of a node forwards what it takes from its line, and nothing else of the scene changes
pub record Forwards (r : Row) (id : ℕ) (s s' : Scene) (x : Node) : Type 0 where
  pub others : (z : Node) → is_same_node x z ≡ false → s'.at z ≡ s.at z
  pub unsettled : s'.unsettled ≡ s.unsettled
  pub anchor : (s'.at x).anchor ≡ (s.at x).anchor
  pub had : (s.at x).frozen ≡ None → ⊥
  pub after : (u : Submitted) (later : List (List ℕ)) (tx : Sender) (g : ℕ) → ArePayloads u → (is_same_node x r.anchor ≡ false) ⊎ (r.g < g)
      → IsForwarding tx r id (s.at x) x g
      → IsFront u (sdus_of r.est id (s.at x).line ++ later) false tx → HasForwarded u later r id s s' x g tx
  pub told : (u : Submitted) (tx ty : Sender) → low ty ≡ low tx → IsWindowOf u r.est id s tx → IsWindowOf u r.est id s' ty

-- ---- nothing is done with the bearer

-- a line is as it was, or what stood first on it is gone, which was no SDU of the establishment
pub data Shrinks (est id : ℕ) (line : List Flight) : List Flight → Type 0 where
  same_line : Shrinks est id line line
  first_gone : (f : Flight) → (rest : List Flight) → (first : line ≡ f ∷ rest) → (other : sdu_of est id f ≡ None) → Shrinks est id line rest

-- but that its window may begin further on, or flights go, come, or are told
pub record StaysSo (est id : ℕ) (s s' : Scene) : Type 1 where
  pub anchor : (z : Node) → (s'.at z).anchor ≡ (s.at z).anchor
  pub fed : (z : Node) → (s'.at z).fed ≡ (s.at z).fed
  pub frozen : (z : Node) → (s'.at z).frozen ≡ (s.at z).frozen
  pub line : (z : Node) → Shrinks est id (s.at z).line (s'.at z).line
  pub unsettled : s'.unsettled ≡ s.unsettled
  pub flights : (P : Flight → Type 0) → ((f : Flight) → IsSilentOf id f → P f) → (l : LinkId) → AllByRecursion P (s.flights l) → AllByRecursion P (s'.flights l)
  pub told : (u : Submitted) (tx : Sender) → IsWindowOf u est id s tx → IsWindowOf u est id s' tx

-- ---- a payload is submitted

-- the master's window counts one submission more, for which there was room (TS 38.323, 5.2.1)
pub record CountsOne (r : Row) (s s' : Scene) : Type 0 where
  pub before : Window
  pub there : s.window ≡ Some before
  pub after : s'.window ≡ Some (record before { accepted = before.accepted + 1 })
  pub room : r.first + before.accepted < before.told + window r.n
  pub few : r.first + before.accepted < 2 ^ 32 - 1
  pub settled : s.unsettled ≡ false

-- it goes over the line to the anchor to which the path leads
pub record SendsOn (r : Row) (id : ℕ) (p : List ℕ) (s s' : Scene) : Type 1 where
  pub alone : IsAtOne id s s' r.anchor
  pub counts : CountsOne r s s'
  pub line : (s'.at r.anchor) ≡ record (s.at r.anchor) { line = (s.at r.anchor).line ++ flight.Sdu id r.g p ∷ [] }

-- or to an active anchor at the master, to which no line leads
pub record SubmitsTo (r : Row) (id : ℕ) (p : List ℕ) (s s' : Scene) (a b : Active) : Type 1 where
  pub alone : IsAtOne id s s' r.anchor
  pub was : (s.at r.anchor).anchor ≡ Some (active_anchor a)
  pub is : (s'.at r.anchor).anchor ≡ Some (active_anchor b)
  pub line : KeepsLine r.est id (s.at r.anchor) (s'.at r.anchor)
  pub none : (s.at r.anchor).line ≡ []
  pub none_after : (s'.at r.anchor).line ≡ []
  pub counts : CountsOne r s s'
  pub front : (u : Submitted) (rest : List (List ℕ)) → HasFront u (p ∷ rest) a → HasFront u rest b
  pub rises : low a.entity.tx ≤ low b.entity.tx
  pub told : (z : Node) → (s'.at z).told ≡ (s.at z).told

-- or to a waiting one there, which keeps it
pub record SubmitsWaiting (r : Row) (id : ℕ) (p : List ℕ) (s s' : Scene) (w v : Waiting) : Type 1 where
  pub alone : IsAtOne id s s' r.anchor
  pub was : (s.at r.anchor).anchor ≡ Some (waiting_anchor w)
  pub is : (s'.at r.anchor).anchor ≡ Some (waiting_anchor v)
  pub keeps : v ≡ record w { fresh = w.fresh ++ p ∷ [] }
  pub line : KeepsLine r.est id (s.at r.anchor) (s'.at r.anchor)
  pub none : (s.at r.anchor).line ≡ []
  pub none_after : (s'.at r.anchor).line ≡ []
  pub counts : CountsOne r s s'
  pub told : (z : Node) → (s'.at z).told ≡ (s.at z).told

-- something came to a waiting anchor: where this is so of what came, it is of the entity that it takes over, and where that is so, of
-- nothing that was frozen
pub record AnchorTakes (w : Waiting) (of : Sender → Bool → Type 0) (before : Type 0) (done : AnchorState × AnchorOut) : Type 0 where
  pub waits : before → w.transfer ≡ None → w.down ≡ nothing_came → AnchorWaits w [] done
  pub after : (u : Submitted) (old rest : List (List ℕ)) (tx : Sender) (closed : Bool) → ArePayloads u → (closed ≡ true → old ≡ []) → of tx closed
      → IsTakingOver tx closed w → IsMoving u old rest tx w
      → HasOrTakes u w.setup.g w.fresh old rest tx closed done.0
  pub told : (b : Active) → done.0 ≡ active_anchor b → (k : ℕ) → done.1.low ≡ Some k → k ≤ low b.entity.tx
  pub untold : (v : Waiting) → done.0 ≡ waiting_anchor v → done.1.low ≡ None
  pub silent_out : AllByRecursion (λ (x : Send). IsQuiet x.1) done.1.sends

-- ---- a node does something

-- the node alone has changed, but for the flights that it sent
pub record Follows (s s' : Scene) (x : Node) (sends : List Send) : Type 1 where
  pub others : (z : Node) → is_same_node x z ≡ false → s'.at z ≡ s.at z
  pub unsettled : s'.unsettled ≡ s.unsettled
  pub window : s'.window ≡ s.window
  pub flights : (P : Flight → Type 0) → AllByRecursion (λ (y : Send). P y.1) sends → (l : LinkId) → AllByRecursion P (s.flights l)
      → AllByRecursion P (s'.flights l)
  pub told : (P : Flight → Type 0) → AllByRecursion (λ (y : Send). P y.1) sends → AllByRecursion P (s.at x).told → AllByRecursion P (s'.at x).told

-- what a node has of a bearer: the active anchor, or a waiting one, with its line; what forwards; nothing at all; or nothing of which
-- anything is said, as the bearer is dropped
pub data HasOf (r : Row) (id : ℕ) (s : Scene) (x : Node) : Type 0 where
  active_there : (a : Active) → (there : (s.at x).anchor ≡ Some (active_anchor a)) → (frozen : (s.at x).frozen ≡ None)
      → (line : IfThere (λ (f : Fed). IsLineOf r.est id f (s.at x).line) (s.at x).fed) → HasOf r id s x
  waiting_there : (w : Waiting) → (there : (s.at x).anchor ≡ Some (waiting_anchor w)) → (frozen : (s.at x).frozen ≡ None)
      → (line : IfThere (λ (f : Fed). IsLineOf r.est id f (s.at x).line) (s.at x).fed) → HasOf r id s x
  frozen_there : (none : (s.at x).anchor ≡ None) → (tx : Sender) → (g : ℕ) → (is : IsForwarding tx r id (s.at x) x g) → HasOf r id s x
  nothing_there : (none : (s.at x).anchor ≡ None) → (frozen : (s.at x).frozen ≡ None) → (line : sdus_of r.est id (s.at x).line ≡ []) → HasOf r id s x
  dropped : (none : (z : Node) → (s.at z).anchor ≡ None) → (unsettled : s.unsettled ≡ true) → HasOf r id s x
