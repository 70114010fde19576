-- A drop that is asked of a secondary node is never rejected, in any run.
use Rattle.std.proofs.Common.{ℕ, ◌≡◌, ◌||◌, Bool, true, false, List, [], ◌∷◌, Some, refl, sym, ap, subst, ◌∙◌}
use Rattle.std.proofs.lemmas.Bool.{eqb-true}
use Rattle.std.specs.List.{AllByRecursion, list_any}
use Rattle.std.specs.Prelude.{if◌then◌else◌}
use Rattle.dc_base.specs.Nodes.{is_secondary}
use Rattle.dc_base.specs.declared.events.Event.{Event}
use Rattle.dc_base.specs.declared.events.Header.{Header}
use Rattle.dc_base.specs.declared.nodes.Node.{Node}
use Rattle.dc_base.specs.declared.nodes.Node.TheVariants.{M}
use Rattle.dc_base.specs.declared.records.Item.{Item}
use Rattle.dc_base.specs.declared.records.Plan.{Plan}
use Rattle.dc_base.specs.declared.records.Rec.{Rec}
use Rattle.dc_base.specs.declared.records.Rec.TheVariants as rec
use Rattle.node_rules.specs.Choices.{Choices}
use Rattle.node_rules.specs.Run.{world_after}
use Rattle.node_rules.specs.SecondRecords.{is_one_drop}
use Rattle.node_rules.specs.World.{World, new_world}
use Rattle.node_rules.specs.declared.commands.First.{First}
use Rattle.node_rules.specs.declared.commands.First.TheVariants.{Addition as addition, Modification as modification, Release as release}
use Rattle.run_control.specs.Links.{records_on}
use Rattle.run_control.specs.Sound.{AreSound}
use Rattle.run_agreed.specs.Drops.{DropStands, DropsByModification, IsDropFirst, IsNoDrop, NoDropRefused, RejectionFits, asked_plan, is_modrej, rejected_in}
use Rattle.run_agreed.specs.Lines.{is_spoken, pair_at, spoken}
use Rattle.run_agreed.proofs.Drops.{stands_always}

-- ---- no rejection stands there

modrej_in : (g : ℕ) (r : Rec) → is_modrej g r ≡ true → rejected_in r ≡ Some g
modrej_in g (rec.Reconf plan key) is = absurd cc
modrej_in g (rec.Rcomp h) is = absurd cc
modrej_in g (rec.Scgf failed) is = absurd cc
modrej_in g (rec.Recov id) is = absurd cc
modrej_in g (rec.Recovd id) is = absurd cc
modrej_in g (rec.Addreq plan key) is = absurd cc
modrej_in g (rec.Addack h) is = absurd cc
modrej_in g (rec.Addrej h) is = absurd cc
modrej_in g (rec.Modreq plan key) is = absurd cc
modrej_in g (rec.Modack h) is = absurd cc
modrej_in g (rec.Modrej h) is = ap (λ k. Some k) (eqb-true h g is)
modrej_in g (rec.Recfg h) is = absurd cc
modrej_in g (rec.Relreq plan) is = absurd cc
modrej_in g (rec.Relack h) is = absurd cc
modrej_in g (rec.Relrej h) is = absurd cc
modrej_in g (rec.Uecr h) is = absurd cc
modrej_in g (rec.Snst status) is = absurd cc
modrej_in g (rec.Moved h id) is = absurd cc
modrej_in g (rec.Scgn id h) is = absurd cc
modrej_in g rec.Modrqd is = absurd cc
modrej_in g (rec.Modcnf h) is = absurd cc
modrej_in g (rec.Modref word) is = absurd cc
modrej_in g rec.Chgrqd is = absurd cc
modrej_in g (rec.Chgcnf plan) is = absurd cc
modrej_in g (rec.Chgref word) is = absurd cc
modrej_in g rec.Relrqd is = absurd cc
modrej_in g (rec.Relcnf plan) is = absurd cc

modrej_spoken : (g : ℕ) (r : Rec) → is_modrej g r ≡ true → is_spoken r ≡ true
modrej_spoken g (rec.Reconf plan key) is = absurd cc
modrej_spoken g (rec.Rcomp h) is = absurd cc
modrej_spoken g (rec.Scgf failed) is = absurd cc
modrej_spoken g (rec.Recov id) is = absurd cc
modrej_spoken g (rec.Recovd id) is = absurd cc
modrej_spoken g (rec.Addreq plan key) is = absurd cc
modrej_spoken g (rec.Addack h) is = absurd cc
modrej_spoken g (rec.Addrej h) is = absurd cc
modrej_spoken g (rec.Modreq plan key) is = absurd cc
modrej_spoken g (rec.Modack h) is = absurd cc
modrej_spoken g (rec.Modrej h) is = refl
modrej_spoken g (rec.Recfg h) is = absurd cc
modrej_spoken g (rec.Relreq plan) is = absurd cc
modrej_spoken g (rec.Relack h) is = absurd cc
modrej_spoken g (rec.Relrej h) is = absurd cc
modrej_spoken g (rec.Uecr h) is = absurd cc
modrej_spoken g (rec.Snst status) is = absurd cc
modrej_spoken g (rec.Moved h id) is = absurd cc
modrej_spoken g (rec.Scgn id h) is = absurd cc
modrej_spoken g rec.Modrqd is = absurd cc
modrej_spoken g (rec.Modcnf h) is = absurd cc
modrej_spoken g (rec.Modref word) is = absurd cc
modrej_spoken g rec.Chgrqd is = absurd cc
modrej_spoken g (rec.Chgcnf plan) is = absurd cc
modrej_spoken g (rec.Chgref word) is = absurd cc
modrej_spoken g rec.Relrqd is = absurd cc
modrej_spoken g (rec.Relcnf plan) is = absurd cc

-- where each rejection fits, none is of this drop
none_rejected : (last : ℕ) (p : Plan) (rs : List Rec) → is_one_drop p.items ≡ true → AllByRecursion (RejectionFits last (Some p)) (spoken rs) → list_any (is_modrej p.g) rs ≡ false
none_rejected last p [] drops all = refl
none_rejected last p (r ∷ rs) drops all = by (is_modrej p.g r) refl (is_spoken r) refl all (λ more. none_rejected last p rs drops more)
  where
    one : is_modrej p.g r ≡ true → RejectionFits last (Some p) r → ⊥
    one is fits = let no' = (subst (IsNoDrop last (Some p)) (modrej_in p.g r is) fits).1 refl in let bad : true ≡ false = sym drops ∙ no' in absurd cc

    by : (b : Bool) → is_modrej p.g r ≡ b → (d : Bool) → is_spoken r ≡ d → AllByRecursion (RejectionFits last (Some p)) (if d then r ∷ spoken rs else spoken rs)
        → (AllByRecursion (RejectionFits last (Some p)) (spoken rs) → list_any (is_modrej p.g) rs ≡ false) → (is_modrej p.g r || list_any (is_modrej p.g) rs) ≡ false
    by true is true said all' more = absurd (one is all'.0)
    by true is false unsaid all' more = let bad : true ≡ false = sym (modrej_spoken p.g r is) ∙ unsaid in absurd cc
    by false is true said all' more = ap (λ b. b || list_any (is_modrej p.g) rs) is ∙ more all'.1
    by false is false unsaid all' more = ap (λ b. b || list_any (is_modrej p.g) rs) is ∙ more all'

-- a drop is asked for by a modification
first_is : (f : First) (items : List Item) → is_one_drop items ≡ true → IsDropFirst f items → f ≡ modification
first_is addition items drops is = let bad : true ≡ false = sym drops ∙ is in absurd cc
first_is modification items drops is = refl
first_is release items drops is = let bad : true ≡ false = sym drops ∙ is in absurd cc

pub stands_none : (w : World) → ((x : Node) → is_secondary x ≡ true → DropStands (pair_at x w)) → NoDropRefused w
stands_none w stands x second c f who wanted opened drops =
    let is = stands x second in (
      first_is f c.plan.items drops (subst DropsByModification opened is.first),
      none_rejected w.master.proc.table.last c.plan (records_on x M w) drops (subst (λ o. AllByRecursion (RejectionFits w.master.proc.table.last o) (spoken (records_on x M w))) (ap asked_plan opened) is.rejections),
    )

-- in each state of each run no rejection of a drop that is asked for stands on a link to the master
pub no_drop_refused : (c : Choices) (h : Header) (es : List Event) → AreSound es → NoDropRefused (world_after c (new_world h) es)
no_drop_refused c h es sound = stands_none (world_after c (new_world h) es) (stands_always c h es sound)
