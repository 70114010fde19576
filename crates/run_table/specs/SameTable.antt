-- The table of the claims is the master's.
use Rattle.std.specs.List.{AllByRecursion, list_any}
use Rattle.std.specs.Prelude.{Bool, List, None, Option, Some, [], false, filter, map, true, ℕ, ◌<◌, ◌≡◌, ◌≤◌, ◌∷◌, ⊤}
use Rattle.dc_base.specs.Nodes.{is_mm}
use Rattle.dc_base.specs.declared.nodes.Class.TheVariants.{Tun}
use Rattle.dc_base.specs.declared.nodes.KeyName.{KeyName}
use Rattle.dc_base.specs.declared.nodes.LinkId.{LinkId}
use Rattle.dc_base.specs.declared.nodes.Node.{Node}
use Rattle.dc_base.specs.declared.records.Item.{Item}
use Rattle.dc_base.specs.declared.records.Item.TheVariants.{Set, Unset}
use Rattle.key_chain.specs.Book.{Claim}
use Rattle.claims.specs.Table as claims
use Rattle.claims.specs.Table.{Claimed, change, recovery}
use Rattle.node_rules.specs.CommandTable.{Table, carried}
use Rattle.node_rules.specs.MasterState.{MasterProc}
use Rattle.node_rules.specs.Places.{anchor_at}
use Rattle.node_rules.specs.declared.commands.Change.{Change}
use Rattle.node_rules.specs.declared.commands.Command.{Command}
use Rattle.node_rules.specs.declared.commands.Command.TheVariants.{Asked as asked, Gone as gone, Recovering as recovering}
use Rattle.node_rules.specs.declared.commands.Row.{Row}
use Rattle.node_rules.specs.World.{World, flights_on}
use Rattle.run_control.specs.Sound.{IsSecond}
use Rattle.run_table.specs.View.{View, planned}
use Rattle.run_table.specs.Words.{orders}

-- what the claims keep of the master's row: all but the node of the anchor and the last generation
abbrev pub row_of : Row → claims.Row
row_of r = record { id = r.id; bearer = r.est; n = r.n; first = r.first; shape = r.shape; threshold = r.threshold; policy = r.policy; key = r.key }

-- the same keys are in use, by the same identities and establishments; how often and in which order does not matter
abbrev pub SameUses : List Claimed → List Claim → Type 0
SameUses us cs = (f : ℕ → KeyName → ℕ → Bool) → list_any (λ u. f u.id u.key u.bearer) us ≡ list_any (λ c. f c.id c.key c.est) cs

-- a change that was drawn, and is not carried out yet or is
pub record IsDrawn (v : View) (k : claims.Command) (g : ℕ) (is_carried : Bool) : Type 0 where
  pub kind : k.kind ≡ change g
  pub carried : k.is_carried ≡ is_carried
  pub last : g ≡ v.table.last

-- what is current once it is carried out
pub record IsFor (v : View) (k : claims.Command) (c : Change) : Type 0 where
  pub root : k.root ≡ c.root
  pub second_key : k.second_key ≡ c.second_key
  pub plan : planned v.plans c.plan.g ≡ Some c.plan

-- the open command of the claims is the master's
abbrev pub SameCommand : View → Option Command → Option claims.Command → Type 0
SameCommand v None None = ⊤
SameCommand v (Some (asked c first who wanted)) (Some k) = IsDrawn v k c.plan.g false × IsFor v k c
SameCommand v (Some (gone plan going)) (Some k) = IsDrawn v k plan.g true
SameCommand v (Some (recovering id terminal second)) (Some k) = k.kind ≡ recovery id
SameCommand v _ _ = ⊥

-- the rest of the table
pub record SameRest (t : claims.Table) (m : Table) : Type 0 where
  pub sec : t.sec ≡ m.sec
  pub root : t.root ≡ m.book.current
  pub roots : t.roots ≡ m.book.roots
  pub counters : t.counters ≡ m.book.drawn
  pub second_key : t.second_key ≡ m.second_key
  pub rows : t.rows ≡ map row_of m.rows
  pub uses : SameUses t.uses m.book.claims
  pub last : t.last ≡ m.last

-- the table of the claims is the master's
pub record SameTable (v : View) (m : MasterProc) : Type 0 where
  pub rest : SameRest v.table m.table
  pub command : SameCommand v m.command v.table.command

-- ---- what is so of the master's table itself

-- by ascending identity
abbrev pub Ascend : List Row → Type 0
Ascend [] = ⊤
Ascend (r ∷ rows) = AllByRecursion (λ (x : Row). r.id < x.id) rows × Ascend rows

-- the anchor of each bearer is where its shape has it, and without a secondary node each is the master's alone
pub record IsPlaced (sec : Option Node) (rows : List Row) : Type 0 where
  pub anchors : AllByRecursion (λ (r : Row). r.anchor ≡ anchor_at sec r.shape) rows
  pub alone : sec ≡ None → AllByRecursion (λ (r : Row). is_mm r.shape ≡ true) rows
  pub ascend : Ascend rows
  pub second : IsSecond sec

-- an item of a bearer that is there
abbrev pub IsOld : Item → Type 0
IsOld (Set id n first shape threshold policy key None) = ⊥
IsOld (Set id n first shape threshold policy key (Some old)) = ⊤
IsOld (Unset id) = ⊥

-- items of bearers that are there, or one alone
abbrev pub AreFit : List Item → Type 0
AreFit [] = ⊤
AreFit (i ∷ []) = ⊤
AreFit (i ∷ j ∷ is) = AllByRecursion IsOld (i ∷ j ∷ is)

-- the change fits the table: it keeps the bearers placed
pub record Fits (t : Table) (c : Change) : Type 0 where
  pub items : AreFit c.plan.items
  pub placed : IsPlaced c.plan.sec (carried t c).rows
  pub last : c.plan.g ≡ t.last
  pub later : 1 ≤ c.plan.g

-- so does the change for which the master asked
abbrev pub FitsOpen : Table → Option Command → Type 0
FitsOpen t None = ⊤
FitsOpen t (Some (asked c first who wanted)) = Fits t c
FitsOpen t (Some (gone plan going)) = plan.g ≡ t.last
FitsOpen t (Some (recovering id terminal second)) = ⊤

-- the table of the master is sound: bearers placed, and no establishment of a later generation
pub record IsSound (m : MasterProc) : Type 0 where
  pub placed : IsPlaced m.table.sec m.table.rows
  pub rows : AllByRecursion (λ (r : Row). r.est ≤ m.table.last) m.table.rows
  pub claims : AllByRecursion (λ (c : Claim). c.est ≤ m.table.last) m.table.book.claims
  pub open_fits : FitsOpen m.table m.command

-- both
pub record Agree (v : View) (m : MasterProc) : Type 0 where
  pub same : SameTable v m
  pub sound : IsSound m

-- ---- what is asked of a run

-- what stands in a tunnel is no record that has the terminal reconfigure
abbrev pub NoOrderInTunnels : World → Type 0
NoOrderInTunnels w = (l : LinkId) → l.class ≡ Tun → filter orders (flights_on l w.links) ≡ []
