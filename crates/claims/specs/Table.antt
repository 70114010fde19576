-- The command table: what the master's commands made of secondary, keys and bearers.
use Rattle.std.specs.List.{find}
use Rattle.std.specs.Prelude.{Bool, List, None, Option, [], false, if◌then◌else◌, slice_index, ℕ, ◌==◌, ◌∷◌}
use Rattle.dc_base.specs.declared.events.Event.{Event}
use Rattle.dc_base.specs.declared.events.Header.{Header}
use Rattle.dc_base.specs.declared.nodes.KeyName.{KeyName}
use Rattle.dc_base.specs.declared.nodes.Node.{Node}
use Rattle.dc_base.specs.declared.nodes.Shape.{Shape}
use Rattle.dc_base.specs.declared.nodes.Side.TheVariants.{Master, Second as SecondKey}
use Rattle.dc_base.specs.declared.numbers.SnLen.{SnLen}
use Rattle.claims.specs.Sameness.{is_some_and}

-- the table's row of a bearer, which is named by the generation that set it up
pub record Row : Type 0 where
  pub id : ℕ
  pub bearer : ℕ
  pub n : SnLen
  pub first : ℕ
  pub shape : Shape
  pub threshold : ℕ
  pub policy : ℕ
  pub key : KeyName

-- an identity uses a key, for this establishment (TS 33.501, 6.10.3.1: no key is used again for an identity)
pub record Claimed : Type 0 where
  pub id : ℕ
  pub key : KeyName
  pub bearer : ℕ

-- what a command is: a change under this generation, or the recovery of this identity
pub data Kind : Type 0 where
  change : ℕ → Kind
  recovery : ℕ → Kind

-- the command that is open: its event, the secondary that asked for it, the one that the first record goes to, the root
-- and the K_SN that are current once it is carried out, and whether a forwarded packet of its generation was lost
pub record Command : Type 0 where
  pub kind : Kind
  pub event : Event
  pub asker : Option Node
  pub target : Option Node
  pub root : ℕ
  pub second_key : KeyName
  pub is_carried : Bool
  pub is_lost : Bool

-- the table: secondary, root, roots in the order named, how many SN Counters of each were drawn, the current K_SN, the
-- bearers, the keys in use, the last generation drawn, and the command that is open
pub record Table : Type 0 where
  pub sec : Option Node
  pub root : ℕ
  pub roots : List (List ℕ)
  pub counters : List ℕ
  pub second_key : KeyName
  pub rows : List Row
  pub uses : List Claimed
  pub last : ℕ
  pub command : Option Command

-- the K_SN of a root and an SN Counter (TS 33.501, 6.10.3.1)
abbrev pub second_key : ℕ → ℕ → KeyName
second_key root counter = record { root = root; side = SecondKey counter }

-- the master's key of a root
abbrev pub master_key : ℕ → KeyName
master_key root = record { root = root; side = Master }

-- the key of a shape: that of the anchor's node
abbrev pub key_for : Shape → ℕ → KeyName → KeyName
key_for s root k = if s.at_second then k else master_key root

-- the table before anything happened
abbrev pub new_table : Header → Table
new_table h = record {
  sec = None;
  root = 0;
  roots = h.root ∷ [];
  counters = h.used ∷ [];
  second_key = second_key 0 0;
  rows = [];
  uses = [];
  last = 0;
  command = None;
}

-- the row of an identity
abbrev pub row : Table → ℕ → Option Row
row t id = find (λ r. r.id == id) t.rows

-- how many SN Counters of a root were drawn
abbrev pub drawn : Table → ℕ → ℕ
drawn t root = slice_index t.counters root

-- the next K_SN of the current root
abbrev pub next_key : Table → KeyName
next_key t = second_key t.root (drawn t t.root)

-- a test of the command that is open
abbrev pub command_has : (Command → Bool) → Table → Bool
command_has f t = is_some_and f t.command

-- the command is a change under this generation
abbrev pub is_change : ℕ → Kind → Bool
is_change g (change h) = g == h
is_change g (recovery id) = false

-- the command is the recovery of this identity
abbrev pub is_recovery : ℕ → Kind → Bool
is_recovery id (change h) = false
is_recovery id (recovery i) = id == i
