-- What was sent for the terminal in each generation of each bearer, and what the terminal received (TS 38.323, 5.2; TS 38.425, 5.4).
use Rattle.std.specs.Prelude.{List, None, Option, Some, [], false, if◌then◌else◌, take, true, ℕ, ◌++◌, ◌^◌, ◌≡◌}
use Rattle.dc_base.specs.Nodes.{is_same_node}
use Rattle.dc_base.specs.declared.nodes.Node.{Node}
use Rattle.dc_base.specs.declared.nodes.Node.TheVariants.{T}
use Rattle.dc_base.specs.declared.numbers.SnLen.{SnLen}
use Rattle.nr_u.specs.declared.tunnel.outbound.Sent.{Sent}
use Rattle.nr_u.specs.Tunnel.Ends.{FirstSendsRise}
use Rattle.pdcp_rx.specs.Receiver.{Received}
use Rattle.pdcp_rx.specs.declared.entity.RxParts.{RxParts}
use Rattle.run_confirms.specs.Statuses.{FirstsBelow, Stays}

-- where the anchor and the leg host of each identity and generation are, and how long its SNs are
pub record Layout : Type 0 where
  pub home : ℕ → ℕ → Node
  pub host : ℕ → ℕ → Node
  pub n : ℕ → ℕ → SnLen

-- of one generation of a bearer: the COUNTs of the PDUs on the leg of the anchor's node, by their numbers; what was sent in the
-- tunnel; the COUNTs on the leg of the host; the receiving entity of the terminal as it was last there
pub record Story : Type 0 where
  pub own : List (Option ℕ)
  pub tunnel : List Sent
  pub far : List (Option ℕ)
  pub rx : Option RxParts

-- by identities and generations
abbrev pub Stories : Type 0
Stories = ℕ → ℕ → Story

-- nothing was sent
abbrev pub blank : Story
blank = record { own = []; tunnel = []; far = []; rx = None }

-- the COUNT was received by an entity, if there was one
abbrev pub ReceivedBy : Option RxParts → ℕ → Type 0
ReceivedBy None count = ⊥
ReceivedBy (Some rx) count = Received rx count

-- what was sent in a tunnel under numbers that a frame can hold (TS 38.425, 5.5.3.6)
unfoldable pub fitting : List Sent → List Sent
fitting tunnel = take (2 ^ 24) tunnel

-- what was put on the leg over the cells of a node
abbrev pub leg_of : Layout → Stories → ℕ → ℕ → Node → List (Option ℕ)
leg_of layout stories id g x = if is_same_node x (layout.home id g) then (stories id g).own else (stories id g).far

-- a list is longer at its end
pub record Extends {X : Type 0} (before after : List X) : Type 0 where
  pub more : List X
  pub is : after ≡ before ++ more

-- first sends of a tunnel rise, and no COUNT has more than 32 bits
pub record IsInOrder (s : Story) : Type 0 where
  pub rise : FirstSendsRise s.tunnel
  pub below : FirstsBelow (2 ^ 32) s.tunnel

-- more was sent and received by then, in order
pub record IsLater (before after : Story) : Type 0 where
  pub own : Extends before.own after.own
  pub tunnel : Extends before.tunnel after.tunnel
  pub far : Extends before.far after.far
  pub received : Stays (ReceivedBy before.rx) (ReceivedBy after.rx)
  pub order : IsInOrder after

-- what a node added: to the leg and the tunnel of its anchor, to the leg of its host, and at the terminal to what was received
pub record IsBy (layout : Layout) (x : Node) (id g : ℕ) (before after : Story) : Type 0 where
  pub later : IsLater before after
  pub own : is_same_node x (layout.home id g) ≡ false → after.own ≡ before.own
  pub tunnel : is_same_node x (layout.home id g) ≡ false → after.tunnel ≡ before.tunnel
  pub far : is_same_node x (layout.host id g) ≡ false → after.far ≡ before.far
  pub rx : is_same_node x T ≡ false → after.rx ≡ before.rx

-- of each generation
abbrev pub AreBy : Layout → Node → Stories → Stories → Type 0
AreBy layout x before after = (id g : ℕ) → IsBy layout x id g (before id g) (after id g)

-- nothing was added yet that a node could add
pub record IsUnused (layout : Layout) (x : Node) (id g : ℕ) (s : Story) : Type 0 where
  pub own : is_same_node x (layout.home id g) ≡ true → s.own ≡ []
  pub tunnel : is_same_node x (layout.home id g) ≡ true → s.tunnel ≡ []
  pub far : is_same_node x (layout.host id g) ≡ true → s.far ≡ []
  pub rx : is_same_node x T ≡ true → s.rx ≡ None

-- in a generation, for any identity
abbrev pub IsNew : Layout → Node → Stories → ℕ → Type 0
IsNew layout x stories g = (id : ℕ) → IsUnused layout x id g (stories id g)
