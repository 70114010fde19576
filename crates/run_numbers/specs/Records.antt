-- What each end of a leg has of the PDUs that it sent in its generation, by the past of the claims (this product's own).
use Rattle.std.specs.Prelude.{List, None, Option, Some, [], false, if◌then◌else◌, length, map, ℕ, ◌+◌, ◌++◌, ◌<◌, ◌==◌, ◌^◌, ◌≡◌, ◌≤◌}
use Rattle.dc_base.specs.Links.{is_same_link, link}
use Rattle.dc_base.specs.declared.nodes.Class.TheVariants.{Air, Tun}
use Rattle.dc_base.specs.declared.nodes.LinkId.{LinkId}
use Rattle.dc_base.specs.declared.nodes.Node.{Node}
use Rattle.dc_base.specs.declared.nodes.Node.TheVariants.{A, B, M, T}
use Rattle.claims.specs.Past.{Past}
use Rattle.nr_u.specs.declared.tunnel.outbound.Sent.{Sent}
use Rattle.split_leg.specs.declared.leg.Pdu.{Pdu}
use Rattle.split_leg.specs.Legs.{LegState, LegsState, leg_at}
use Rattle.node_rules.specs.Anchor.{Active, setup_at}
use Rattle.node_rules.specs.Feed.{Fed}
use Rattle.node_rules.specs.Secondary.{SecondNode}
use Rattle.node_rules.specs.declared.inputs.Effects.{Effects}
use Rattle.node_rules.specs.Choices.{Send}
use Rattle.node_rules.specs.Host.{Host}
use Rattle.node_rules.specs.Places.{is_at}
use Rattle.node_rules.specs.Setup.{Setup, anchor_cell, host_of, other_cell}
use Rattle.dc_base.specs.declared.nodes.Cell.{Cell}
use Rattle.run_confirms.specs.Anchors.{far_cell, own_cell, sent_on}
use Rattle.node_rules.specs.Held.{held}
use Rattle.node_rules.specs.Terminal.{TerminalNode}
use Rattle.node_rules.specs.TerminalHalf.{TerminalHalf}
use Rattle.run_control.specs.Orders.{Ascends}
use Rattle.run_control.specs.Sound.{IsSecond}
use Rattle.run_control.specs.Steps.{record_in}
use Rattle.run_relays.specs.Pdus.{Ascend}
use Rattle.node_rules.specs.declared.inputs.Input.{Input}
use Rattle.dc_base.specs.declared.records.Plan.{Plan}
use Rattle.dc_base.specs.declared.records.Rec.TheVariants as rec
use Rattle.run_numbers.specs.Histories.{ArePut, Continues, FollowOn, IsNumberedFrom, NoneOf, OnlyOf, air_history, history, puts_on}

-- a PDU of a leg as it is sent over the air: without a mark
abbrev pub air_sent : Pdu → Sent
air_sent p = record { count = p.count; repeat = false }

-- those of a leg, by their numbers
abbrev pub air_sents : LegState → List Sent
air_sents leg = map air_sent leg.pdus

-- those of the terminal on the leg to a node, in the generation of a setup
abbrev pub leg_sents : Node → Setup → List Sent
leg_sents T s = []
leg_sents M s = air_sents s.legs.mcg
leg_sents A s = if is_at A s.sec then air_sents s.legs.scg else []
leg_sents B s = if is_at B s.sec then air_sents s.legs.scg else []

-- on a link from the terminal
abbrev pub leg_on : LinkId → Setup → List Sent
leg_on l s = if is_same_link l (link T l.to Air) then leg_sents l.to s else []

-- of a bearer at the terminal: on each link it sent what its leg there has more than before, and nothing of another bearer or
-- generation
pub record HalfSends (before after : Setup) (sends : List Send) : Type 0 where
  pub own : (l : LinkId) → Continues l after.id after.g (leg_on l before) (leg_on l after) sends
  pub others : OnlyOf after.id after.g sends

-- of a bearer at the terminal: on each link from it what its leg there has was put, and nothing else of its generation; it has a
-- secondary node, or none
pub record IsHalfPut (sent : List Send) (h : TerminalHalf) : Type 0 where
  pub second : IsSecond h.setup.sec
  pub legs : (l : LinkId) → ArePut sent l h.setup.id h.setup.g (leg_on l h.setup)

-- of each that is held by its identity
abbrev pub AllPut : {X : Type 0} → (X → ℕ) → (List Send → X → Type 0) → List Send → List (ℕ × X) → Type 0
AllPut id_of P sent xs = (k : ℕ) (x : _) → held k xs ≡ Some x → (id_of x ≡ k) × P sent x

-- of all that the terminal has
pub record IsTerminalPut (sent : List Send) (t : TerminalNode) : Type 0 where
  pub ascends : Ascends t.halves
  pub halves : AllPut (λ (h : TerminalHalf). h.setup.id) IsHalfPut sent t.halves

-- after a step of the terminal it is so with what it sent, which follows on from what was sent before
pub record TerminalGoes (sent : List Send) (t : TerminalNode) (sends : List Send) : Type 0 where
  pub follows : FollowOn sent sends
  pub puts : IsTerminalPut (sent ++ sends) t

-- those of an anchor in the tunnel to the host, if there is one
abbrev pub far_on : LinkId → Setup → Option Node → List Sent
far_on l s None = []
far_on l s (Some host) = if is_same_link l (link s.node host Tun) then sent_on (leg_at s.legs (other_cell (anchor_cell s.legs.shape))) else []

-- those of an anchor on a link: on the leg of its own node, and in the tunnel
abbrev pub anchor_on : LinkId → Setup → List Sent
anchor_on l s = if is_same_link l (link s.node T Air) then air_sents (leg_at s.legs (anchor_cell s.legs.shape)) else far_on l s (host_of s)

-- of a bearer at its anchor: on each link it sent what it has there more than before, and nothing of another bearer or generation
pub record AnchorSends (before after : Setup) (sends : List Send) : Type 0 where
  pub own : (l : LinkId) → Continues l after.id after.g (anchor_on l before) (anchor_on l after) sends
  pub others : OnlyOf after.id after.g sends

-- of a leg host: what it sends has the next numbers of its leg, and it sends nothing else of a bearer
pub record HostSends (before after : Host) (sends : List Send) : Type 0 where
  pub node : after.node ≡ before.node
  pub id : after.id ≡ before.id
  pub g : after.g ≡ before.g
  pub own : IsNumberedFrom (length before.carried) (puts_on (link before.node T Air) before.id before.g sends)
  pub counts : length after.carried ≡ length before.carried + length (puts_on (link before.node T Air) before.id before.g sends)
  pub elsewhere : (l : LinkId) → is_same_link l (link before.node T Air) ≡ false → puts_on l before.id before.g sends ≡ []
  pub others : OnlyOf before.id before.g sends

-- identity and generation are in their ranges (TS 38.331, 6.3.2: DRB-Identity)
abbrev pub IsInRange : Setup → Type 0
IsInRange s = (1 ≤ s.id) × (s.id ≤ 32) × (s.g < 2 ^ 24)

-- the cell group of the host
abbrev pub far_of : Setup → Cell
far_of s = other_cell (anchor_cell s.legs.shape)

-- if there is a host, the numbers in the tunnel to it are of 24 bits (TS 38.425, 5.5.3.4: the NR-U sequence number)
abbrev pub HasFew : Setup → Setup → Type 0
HasFew before after = (host : Node) → host_of before ≡ Some host → length (leg_at after.legs (far_of before)).pdus ≤ 2 ^ 24

-- the same was put on both legs
pub record SamePuts (before after : LegsState) : Type 0 where
  pub shape : after.shape ≡ before.shape
  pub mcg : sent_on after.mcg ≡ sent_on before.mcg
  pub scg : sent_on after.scg ≡ sent_on before.scg

-- a step of an anchor: nothing of its setup changes but its legs, which grow, in the tunnel by no more than is sent; and in these ranges
-- it goes on where they were
pub record AnchorGoes (before after : Setup) (sends : List Send) : Type 0 where
  pub same : after ≡ record before { legs = after.legs }
  pub shape : after.legs.shape ≡ before.legs.shape
  pub grow : (cell : Cell) → length (leg_at before.legs cell).pdus ≤ length (leg_at after.legs cell).pdus
  pub more : (host : Node) → host_of before ≡ Some host → length (leg_at after.legs (far_of before)).pdus ≤ length (leg_at before.legs (far_of before)).pdus + length sends
  pub goes : IsInRange before → HasFew before after → AnchorSends before after sends

-- of an anchor: on each link what it has there was put, and nothing else of its generation
abbrev pub IsAnchorPut : List Send → Setup → Type 0
IsAnchorPut sent s = (l : LinkId) → ArePut sent l s.id s.g (anchor_on l s)

-- in its ranges
abbrev pub IsAnchorPutInRange : List Send → Setup → Type 0
IsAnchorPutInRange sent s = IsInRange s × IsAnchorPut sent s

-- of a leg host: the next number of its leg is that of the next PDU that it puts there
abbrev pub IsHostPut : List Send → Host → Type 0
IsHostPut sent h = length (puts_on (link h.node T Air) h.id h.g sent) ≡ length h.carried

-- after a step of a leg host it is so, with what it sent, which follows on and is of no other bearer
pub record HostFollows (sent : List Send) (after : Host) (sends : List Send) : Type 0 where
  pub follows : FollowOn sent sends
  pub puts : IsHostPut (sent ++ sends) after
  pub others : OnlyOf after.id after.g sends

-- of all anchors and leg hosts of a node; where it has both of one identity, they are of different generations
pub record AreBearersPut {X : Type 0} (setup_in : X → Setup) (sent : List Send) (anchors : List (ℕ × X)) (hosts : List (ℕ × Host)) : Type 0 where
  pub anchors_ascend : Ascends anchors
  pub hosts_ascend : Ascends hosts
  pub each_anchor : AllPut (λ (x : X). (setup_in x).id) (λ (ss : List Send) (x : X). IsAnchorPutInRange ss (setup_in x)) sent anchors
  pub each_host : AllPut (λ (h : Host). h.id) IsHostPut sent hosts
  pub apart : (k : ℕ) (x : X) (h : Host) → held k anchors ≡ Some x → held k hosts ≡ Some h → ((setup_in x).g == h.g) ≡ false

-- of all that a secondary node has
abbrev pub IsSecondPut : List Send → SecondNode → Type 0
IsSecondPut sent s = AreBearersPut (λ (x : Fed). setup_at x.anchor) sent s.anchors s.hosts

-- after a step of a secondary node it is so, with what it sent, which follows on; while it sent no more than a number can count
abbrev pub SecondGoes : List Send → SecondNode × Effects → Type 0
SecondGoes sent done = length (sent ++ done.1.sends) ≤ 2 ^ 24 → FollowOn sent done.1.sends × IsSecondPut (sent ++ done.1.sends) done.0

-- after a step of an anchor it is so, with what it sent, which follows on from what was sent before and is of no other bearer
pub record AnchorFollows (sent : List Send) (after : Setup) (sends : List Send) : Type 0 where
  pub follows : FollowOn sent sends
  pub puts : IsAnchorPut (sent ++ sends) after
  pub others : OnlyOf after.id after.g sends

-- ---- by the past

-- a bearer at the terminal has on its leg to a node what was sent there in its generation
abbrev pub IsHalfRecorded : Past → Setup → Type 0
IsHalfRecorded p s = (x : Node) → history p (link T x Air) s.id s.g ≡ leg_sents x s

-- so has an active anchor on the leg of its own node, and in the tunnel to the host
pub record IsAnchorRecorded (p : Past) (a : Active) : Type 0 where
  pub own : air_history p (link a.entity.setup.node T Air) a.entity.setup.id a.entity.setup.g ≡ map (λ (s : Sent). s.count) (sent_on (leg_at a.entity.setup.legs (own_cell a.entity)))
  pub far : (host : Node) → host_of a.entity.setup ≡ Some host
      → history p (link a.entity.setup.node host Tun) a.entity.setup.id a.entity.setup.g ≡ sent_on (leg_at a.entity.setup.legs (far_cell a.entity))

-- a leg host counts the PDUs that it put on its leg
abbrev pub IsHostRecorded : Past → Host → Type 0
IsHostRecorded p h = length (history p (link h.node T Air) h.id h.g) ≡ length h.carried

-- a plan that comes to the terminal is new: it has no other secondary node, its items are of ascending identities, and nothing of its
-- generation was sent
pub record IsNewPlan (sent : List Send) (p : Plan) : Type 0 where
  pub second : IsSecond p.sec
  pub ascend : Ascend 0 p.items
  pub none : (id : ℕ) → NoneOf id p.g sent

-- so is each in a record that comes
abbrev pub ComesNew : List Send → Input → Type 0
ComesNew sent i = (p : Plan) (key : List ℕ) → record_in i ≡ Some (rec.Reconf p key) → IsNewPlan sent p
