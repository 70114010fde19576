-- What leads among the plans that a step of the master sends.
use Rattle.std.specs.List.{AllByRecursion}
use Rattle.std.specs.Prelude.{Bool, List, None, Some, [], false, true, ℕ, ◌≡◌, ◌∷◌, ⊤}
use Rattle.std.proofs.Common.{◌⊎◌}
use Rattle.dc_base.specs.declared.nodes.Node.{Node}
use Rattle.dc_base.specs.declared.records.Rec.{Rec}
use Rattle.dc_base.specs.declared.records.Rec.TheVariants as rec
use Rattle.key_chain.specs.KeyNames.{octets}
use Rattle.claims.specs.Planned.{plan_in}
use Rattle.node_rules.specs.Lines.{is_end}
use Rattle.node_rules.specs.MasterState.{MasterActs}
use Rattle.node_rules.specs.declared.acts.Act.{Act}
use Rattle.node_rules.specs.declared.acts.Act.TheVariants.{Say as say, Send as send}
use Rattle.node_rules.specs.declared.commands.Change.{Change}
use Rattle.node_rules.specs.declared.commands.Command.TheVariants.{Asked as asked}
use Rattle.node_rules.specs.declared.commands.First.{First}
use Rattle.run_relays.specs.Setups.{no_release}

-- the record is the first of a change, with the octets of a K_SN (TS 38.423, 8.3.1 and 8.3.3)
abbrev pub is_first : Rec → Bool
is_first (rec.Addreq q key) = true
is_first (rec.Modreq q key) = true
is_first _ = false

-- the act sends no plan
abbrev pub PlanFree : Act → Type 0
PlanFree (send to r) = plan_in r ≡ None
PlanFree _ = ⊤

-- it sends no such first record
abbrev pub KeyFree : Act → Type 0
KeyFree (send to r) = is_first r ≡ false
KeyFree _ = ⊤

-- it sends the record by which a plan is carried out, or the one that says that there is nothing to release
abbrev pub Opens : Act → Type 0
Opens (send to (rec.Reconf q key)) = ⊤
Opens (send to (rec.Relcnf q)) = q ≡ no_release
Opens _ = ⊥

-- such an act leads those that send plans, and none of them sends a first record
abbrev pub Led : List Act → Type 0
Led [] = ⊤
Led (a ∷ acts) = (PlanFree a × Led acts) ⊎ (Opens a × AllByRecursion KeyFree acts)

-- a first record is of this change, with the octets of its K_SN; and no command ends
abbrev pub IsAsked : List (List ℕ) → Change → Act → Type 0
IsAsked roots c (send to (rec.Addreq q key)) = (q ≡ c.plan) × (key ≡ octets roots c.second_key)
IsAsked roots c (send to (rec.Modreq q key)) = (q ≡ c.plan) × (key ≡ octets roots c.second_key)
IsAsked roots c (say n) = is_end n ≡ false
IsAsked roots c _ = ⊤

-- one of the two is so of what comes of a step of the procedures
pub data LedFrom (r : MasterActs) : Type 0 where
  led_acts : (led : Led r.1) → LedFrom r
  asking_acts : (c : Change) (first : First) (who : Node) (wanted : Bool) → (open' : r.0.command ≡ Some (asked c first who wanted)) → (are : AllByRecursion (IsAsked r.0.table.book.roots c) r.1) → LedFrom r
