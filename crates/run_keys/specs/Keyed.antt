-- What is so of the keys in the master's command table: those that are claimed were drawn, none of an identity by two establishments;
-- each bearer has claimed its own, and one whose anchor is the master has that of the current root (TS 33.501, 6.10.2.1 and 6.10.3.1).
use Rattle.std.specs.List.{AllByRecursion}
use Rattle.std.specs.Prelude.{Bool, Option, Some, false, is_some, length, true, ℕ, ◌+◌, ◌<◌, ◌≡◌, ◌≤◌, ⊤}
use Rattle.dc_base.specs.declared.events.Event.{Event}
use Rattle.dc_base.specs.declared.events.Event.TheVariants as event
use Rattle.dc_base.specs.declared.nodes.KeyName.{KeyName}
use Rattle.dc_base.specs.declared.nodes.Side.{Side}
use Rattle.dc_base.specs.declared.nodes.Side.TheVariants.{Master, Second}
use Rattle.dc_base.specs.declared.records.Item.{Item}
use Rattle.dc_base.specs.declared.records.Item.TheVariants.{Set, Unset}
use Rattle.dc_base.specs.declared.records.Plan.{Plan}
use Rattle.key_chain.specs.Book.{Book, Claim, counters_drawn, is_claimed}
use Rattle.node_rules.specs.CommandTable.{Table, master_key_of, row}
use Rattle.node_rules.specs.Drafts.{draft}
use Rattle.node_rules.specs.MasterEnds.{is_release_spent}
use Rattle.node_rules.specs.declared.commands.Row.{Row}
use Rattle.run_table.specs.SameTable.{IsPlaced}
use Rattle.run_table.proofs.Fitting.{IsAllowed}
use Rattle.run_keys.specs.OneClaimant.{AreOne}

-- the SN Counter of a key is one of the first so many; the master's key has none
abbrev pub IsOfFirst : Side → ℕ → Type 0
IsOfFirst Master n = ⊤
IsOfFirst (Second counter) n = counter < n

-- the root of a key was noted, and its SN Counter was drawn
abbrev pub IsDrawnKey : Book → KeyName → Type 0
IsDrawnKey b k = (k.root < length b.roots) × IsOfFirst k.side (counters_drawn b k.root)

-- the claim that a row of the table has made
abbrev pub claim_of : Row → Claim
claim_of r = record { id = r.id; key = r.key; est = r.est }

-- a row has claimed its key, which is that of the current root where the anchor is the master; and its establishment is the latest of
-- its identity, and of no later generation
pub record IsKeyedRow (E : ℕ → Option ℕ) (b : Book) (last : ℕ) (r : Row) : Type 0 where
  pub claimed : is_claimed b.claims (claim_of r) ≡ true
  pub at_master : r.shape.at_second ≡ false → r.key ≡ master_key_of b.current
  pub latest : E r.id ≡ Some r.est
  pub upto : r.est ≤ last

-- the command table
pub record IsKeyed (E : ℕ → Option ℕ) (t : Table) : Type 0 where
  pub placed : IsPlaced t.sec t.rows
  pub counts : length t.book.drawn ≡ length t.book.roots
  pub current : t.book.current < length t.book.roots
  pub drawn : (c : Claim) → is_claimed t.book.claims c ≡ true → IsDrawnKey t.book c.key
  pub one : AreOne t.book.claims
  pub rows : AllByRecursion (IsKeyedRow E t.book t.last) t.rows
  pub second : is_some t.sec ≡ true → IsDrawnKey t.book t.second_key

-- the table has the bearer that an item of a plan of this generation sets, under the key that it sets
abbrev pub IsSetIn : Table → ℕ → Item → Type 0
IsSetIn t g (Set id n first shape threshold policy key old) = (r : Row) × (row t id ≡ Some r) × (r.key ≡ key) × (r.est ≤ g)
IsSetIn t g (Unset id) = ⊤

-- so it has all that a plan sets
abbrev pub AreSet : Table → Plan → Type 0
AreSet t q = AllByRecursion (IsSetIn t q.g) q.items

-- ---- commands

-- a command that is refused where it would set a key that is spent for an identity
abbrev pub heeds_claims : Event → Bool
heeds_claims (event.Bearer id n first shape threshold policy) = true
heeds_claims (event.Reshape id shape) = true
heeds_claims event.Release = true
heeds_claims _ = false

-- what it sets up is the latest establishment of its identity, named by the next generation
abbrev pub IsLatest : (ℕ → Option ℕ) → Table → Event → Type 0
IsLatest E t (event.Bearer id n first shape threshold policy) = E id ≡ Some (t.last + 1)
IsLatest E t _ = ⊤

-- a command is not refused
pub record IsApt (E : ℕ → Option ℕ) (t : Table) (e : Event) : Type 0 where
  pub allowed : IsAllowed t.sec e
  pub unspent : heeds_claims e ≡ true → is_release_spent t (draft t e) ≡ false
  pub latest : IsLatest E t e
