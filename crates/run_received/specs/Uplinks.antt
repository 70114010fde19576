-- Each uplink at any moment of a run: who has its receiving entity, what that has received, and what is on its way to it.
use Rattle.std.specs.List.{AllByRecursion}
use Rattle.std.specs.Prelude.{List, None, Option, Some, true, ⊤, ℕ, ◌<◌, ◌≡◌, ◌≤◌}
use Rattle.dc_base.specs.declared.events.Event.{Event}
use Rattle.dc_base.specs.declared.events.Event.TheVariants as event
use Rattle.dc_base.specs.declared.nodes.LinkId.{LinkId}
use Rattle.dc_base.specs.declared.nodes.Node.{Node}
use Rattle.dc_base.specs.declared.nodes.Node.TheVariants.{T}
use Rattle.claims.specs.Past.{Early, Past}
use Rattle.claims.specs.Reading.{Setting, setting}
use Rattle.claims.specs.Sameness.{is_among}
use Rattle.forward.specs.Forwarded.{nothing_came}
use Rattle.node_rules.specs.Choices.{Send}
use Rattle.node_rules.specs.Anchor.{Active, AnchorState, Waiting, active_anchor, waiting_anchor}
use Rattle.node_rules.specs.Held.{held}
use Rattle.node_rules.specs.TerminalHalf.{TerminalHalf}
use Rattle.node_rules.specs.World.{World, flights_on}
use Rattle.pdcp_pdu.specs.DataPdu.{IsPayload}
use Rattle.pdcp_rx.specs.declared.entity.RxParts.{RxParts}
use Rattle.run_legs.specs.Puts.{IsAmong}
use Rattle.run_generations.specs.Ahead.{IsAhead}
use Rattle.run_places.specs.Places.{IsPlaced}
use Rattle.run_receivers.specs.Anchors.{IsGathering}
use Rattle.run_relays.specs.Kept.{AreSmall}
use Rattle.run_relays.proofs.Runs.{Relays}
use Rattle.run_relays.proofs.SetRuns.{Planned}
use Rattle.run_uplinks.specs.Readings.{reading}
use Rattle.run_uplinks.specs.Seen.{seen}
use Rattle.run_received.specs.OnTheWay.{Comes, is_sent_in}
use Rattle.run_received.specs.Receipts.{Receipt, early_counts, receipt, submitted_to}
use Rattle.run_received.specs.Receivers.{IsReceiver, IsSource, ReadsBy, anchor_at, ciphering_of}

-- ---- what a run is made of

-- an event names a first COUNT and payloads that a script may have
abbrev pub SubmitsPayload : Event → Type 0
SubmitsPayload (event.Bearer id n first shape threshold policy) = first < 4294967295
SubmitsPayload (event.Submit id d sdu) = IsPayload sdu
SubmitsPayload _ = ⊤

-- each anchor of the latest establishment of an identity reads what was submitted, under the key of the plan of its generation
abbrev pub AreReaders : Past → World → Type 0
AreReaders p w = (id : ℕ) (r : Receipt) → receipt p id ≡ Some r → (x : Node) (s : AnchorState) → anchor_at x w id ≡ Some s → ReadsBy p id r s

-- the node has an active anchor of the identity, in this generation
pub record IsActiveIn (w : World) (id : ℕ) (x : Node) (g : ℕ) : Type 0 where
  pub anchor : Active
  pub there : anchor_at x w id ≡ Some (active_anchor anchor)
  pub of : anchor.entity.setup.g ≡ g

-- the holder of an establishment is the node whose anchor is active, in the generation of that anchor, which is the one of the last
-- `own` line
pub record IsHeld (w : World) (r : Receipt) : Type 0 where
  pub active : (x : Node) (g : ℕ) → IsActiveIn w r.id x g → (r.holder ≡ Some (x, g)) × (r.owned ≡ g)
  pub holder : (x : Node) (g : ℕ) → r.holder ≡ Some (x, g) → IsActiveIn w r.id x g

-- of the latest establishment of each identity
abbrev pub AreHeld : Past → World → Type 0
AreHeld p w = (id : ℕ) (r : Receipt) → receipt p id ≡ Some r → IsHeld w r

-- what is so at any moment of a run besides: of uplink PDUs, plans, keys, holders and places
pub record Frame (p : Past) (w : World) : Type 0 where
  pub relays : Relays p w
  pub planned : Planned p w
  pub small : AreSmall (reading (seen p))
  pub readers : AreReaders p w
  pub held : AreHeld p w
  pub placed : (id : ℕ) → IsPlaced w id

-- ---- one uplink

-- an anchor that waits for it gathers the entity, and keeps what came early; while somebody holds the bearer, nothing of the old
-- anchor came yet
pub record IsWaiter (p : Past) (r : Receipt) (rx : RxParts) (x : Node) (v : Waiting) : Type 0 where
  pub set : Setting
  pub in_plan : setting p r.id v.setup.g ≡ Some set
  pub tags : List (Option ℕ)
  pub gathers : IsGathering (submitted_to r) r.freed (ciphering_of p r.id set) rx tags v
  pub early : (c : ℕ) → is_among c (early_counts x v.setup.g r) ≡ true → IsAmong tags (Some c)
  pub kept : (c : ℕ) → IsAmong tags (Some c) → is_among c (early_counts x v.setup.g r) ≡ true
  pub took : (c : ℕ) → IsAmong tags (Some c) → (h : ℕ) → r.terminal ≡ Some h → v.setup.g ≤ h
  pub since : r.owned < v.setup.g
  pub apart : (h : Node × ℕ) → r.holder ≡ Some h → (v.transfer ≡ None) × (v.up ≡ nothing_came)

-- an anchor of it: an active one has the entity, and one that waits gathers it
abbrev pub Serves : Past → Receipt → RxParts → Node → AnchorState → Type 0
Serves p r rx x (active_anchor a) = a.entity.rx ≡ rx
Serves p r rx x (waiting_anchor v) = IsWaiter p r rx x v

-- an entity is the receiving one of the uplink: it is what the past says; the terminal keeps what was not confirmed; each anchor
-- has it or gathers it; and what is on its way is of it
pub record HasReceiver (p : Past) (w : World) (sent : List Send) (r : Receipt) (rx : RxParts) : Type 0 where
  pub is : IsReceiver r rx
  pub told : r.told ≡ r.freed
  pub source : (h : TerminalHalf) → held r.id w.terminal.halves ≡ Some h → IsSource r h.tx
  pub anchors : (x : Node) (s : AnchorState) → anchor_at x w r.id ≡ Some s → Serves p r rx x s
  pub comes : (l : LinkId) → AllByRecursion (Comes sent r rx l) (flights_on l w.links)
  pub early : AllByRecursion (λ (e : Early). is_sent_in r.id e.g sent ≡ true) r.early

-- the latest establishment of each identity has such an entity; what the terminal sent is older than each plan on its way to it
pub record Uplinks (p : Past) (w : World) : Type 0 where
  pub sent : List Send
  pub ahead : IsAhead T w sent
  pub each : (id : ℕ) (r : Receipt) → receipt p id ≡ Some r → (rx : RxParts) × HasReceiver p w sent r rx
