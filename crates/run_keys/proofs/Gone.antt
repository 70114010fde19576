-- The keys of a plan that was carried out are in use.
use Rattle.std.proofs.Common.{ℕ, ◌≡◌, ◌==◌, List, [], ◌∷◌, Some, None, subst, inl, inr}
use Rattle.std.specs.List.{AllByRecursion}
use Rattle.std.proofs.lemmas.Bool.{cases_Bool}
use Rattle.dc_base.specs.declared.records.Plan.{Plan}
use Rattle.claims.specs.Past.{Past}
use Rattle.node_rules.specs.World.{World}
use Rattle.node_rules.specs.declared.commands.Command.TheVariants.{Gone as gone}
use Rattle.node_rules.specs.declared.commands.Going.{Going}
use Rattle.run_table.specs.View.{planned}
use Rattle.run_relays.specs.Pdus.{Ascend}
use Rattle.run_relays.proofs.Planned.{each_found}
use Rattle.run_keys.specs.Halves.{SetsOnly}
use Rattle.run_keys.specs.InUse.{HoldsUses, IsInUse}
use Rattle.run_keys.specs.Keyed.{AreSet, IsKeyed}
use Rattle.run_keys.specs.Names.{est}
use Rattle.run_windows.specs.Seen.{seen}
use Rattle.run_keys.specs.Tables.{OfCommand}
use Rattle.run_keys.proofs.Uses.{items_in_use}

-- a plan that was drawn is one of those that were
found_so : (P : Plan → Type 0) (plans : List Plan) (g : ℕ) (q : Plan) → AllByRecursion P plans → planned plans g ≡ Some q → P q
found_so P [] g q all at = absurd (let bad : None ≡ Some q = at in cc)
found_so P (x ∷ plans) g q all at =
    elim (cases_Bool (x.g == g)) [
      | inl here ↦ let same : x ≡ q = let e = rw here at at in cc in subst P same all.0
      | inr there ↦ found_so P plans g q all.1 (rw there at at)
    ]

-- of the plan of the open command, once it is carried out, all that it sets is in use if it is the one that was drawn with its generation
pub gone_in_use : (p : Past) (w : World) → HoldsUses p w → (q : Plan) (going : Going) → w.master.proc.command ≡ Some (gone q going)
    → planned p.plans q.g ≡ Some q → SetsOnly (IsInUse p) q
gone_in_use p w is q going at drawn =
    let t = w.master.proc.table in
    let read = is.plans.relays.read in
    let set : AreSet t q = subst (OfCommand (IsKeyed (est (seen p))) AreSet t) at is.keys.keys.command in
    let apart : Ascend 0 q.items = found_so (λ (x : Plan). Ascend 0 x.items) p.plans q.g q read.apart drawn in
    items_in_use p t is.keys.keys.table is.keys.lasts.agree.same.rest.uses read q drawn q.items set (each_found 0 q.items apart)
