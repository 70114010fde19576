-- Where a secondary node agrees, the first record from the master has its row there; and where what stands on its link to the master
-- is awaited, the first of it has its row at the master.
use Rattle.std.proofs.Common.{ℕ, ◌≡◌, ◌==◌, ◌&&◌, ◌||◌, Bool, true, false, List, [], ◌∷◌, Option, Some, None, refl, sym, ap, subst, ◌∙◌}
use Rattle.std.proofs.lemmas.Bool.{eq-eqb}
use Rattle.std.specs.List.{AllByRecursion, list_any}
use Rattle.std.specs.Prelude.{Err, Ok, Result, find, if◌then◌else◌, not}
use Rattle.dc_base.specs.Nodes.{is_same_node, is_secondary}
use Rattle.dc_base.specs.declared.nodes.Node.{Node}
use Rattle.dc_base.specs.declared.nodes.Node.TheVariants.{A, B, M, T}
use Rattle.dc_base.specs.declared.records.Item.{Item}
use Rattle.dc_base.specs.declared.records.Item.TheVariants as item
use Rattle.dc_base.specs.declared.records.Plan.{Plan}
use Rattle.dc_base.specs.declared.records.Rec.{Rec}
use Rattle.dc_base.specs.declared.records.Rec.TheVariants as rec
use Rattle.dc_base.specs.declared.records.RecKind.{RecKind}
use Rattle.dc_base.specs.declared.records.RecKind.TheVariants as kind
use Rattle.dc_base.specs.declared.records.StatusTransfer.{StatusTransfer}
use Rattle.node_rules.specs.Acts.{ProcFault, unexpected}
use Rattle.node_rules.specs.MasterRecords.{adopted_if, agreed, agreed_if, is_answer, is_moving, is_same_first, moved, passed_to, recovered, recovered_at, recovered_second, rejected, rejected_if, released, transferred}
use Rattle.node_rules.specs.MasterState.{MasterActs, MasterProc}
use Rattle.node_rules.specs.MasterTaking.{from_second, master_take}
use Rattle.node_rules.specs.Places.{is_at}
use Rattle.node_rules.specs.SecondRecords.{second_take}
use Rattle.node_rules.specs.SecondState.{SecondProc}
use Rattle.node_rules.specs.SecondStep.{plan_in, recovery_in}
use Rattle.node_rules.specs.World.{World}
use Rattle.node_rules.specs.declared.acts.Act.TheVariants.{Send as send}
use Rattle.node_rules.specs.declared.commands.Command.{Command}
use Rattle.node_rules.specs.declared.commands.Command.TheVariants.{Asked as asked, Gone as gone, Recovering as recovering}
use Rattle.node_rules.specs.declared.commands.First.{First}
use Rattle.node_rules.specs.declared.commands.First.TheVariants.{Addition as addition, Modification as modification, Release as release}
use Rattle.node_rules.specs.declared.commands.Membership.{Membership}
use Rattle.dc_base.specs.declared.nodes.Want.{Want}
use Rattle.run_control.specs.Claims.{Agrees, FirstIs, second_at}
use Rattle.run_control.specs.Links.{records_on}
use Rattle.run_control.specs.Rows.{IsTaken, Reads}
use Rattle.run_control.specs.SecondControl.{Views, fits, fits_plan, fits_recovery, holds_like, misses}
use Rattle.run_control.specs.Views.{second_view}
use Rattle.run_control.proofs.Reading.{any_taken}
use Rattle.run_control.specs.Wants.{IsAskedFor}
use Rattle.run_agreed.specs.Expected.{AwaitedAlone, BearersFitThere, IsAwaited, IsElsewhere, IsUnderWay, IsRecovery, ItemFitsThere, UnderWay, PlanFitsThere, RecoveryFitsThere}

-- ---- at a secondary node

-- the first record of a line that is read is taken
reads_first : (s : SecondProc) (down : List Rec) (m : Membership) (w : Option Want) → Reads s.membership s.want down m w → FirstIs (λ r. IsTaken (second_take s r)) down
reads_first s [] m w read = tt
reads_first s (r ∷ q) m w read = any_taken s r read.0

-- where a secondary node agrees, the first record from the master has its row
pub row_expected : (w : World) (x : Node) → Agrees w x → FirstIs (λ r. IsTaken (second_take (second_at x w).proc r)) (records_on M x w)
row_expected w x agrees = reads_first (second_at x w).proc (records_on M x w) _ agrees.wants agrees.reads

-- ---- its bearers

no_miss : (x : Node) (views : Views) (i : Item) → ItemFitsThere x views i → misses x views i ≡ false
no_miss x views (item.Set id n first shape threshold policy key None) there = refl
no_miss x views (item.Set id n first shape threshold policy key (Some old)) there = by (is_same_node old x) there
  where
    by : (b : Bool) → (b ≡ true → holds_like n first (views id) ≡ true) → (b && not (holds_like n first (views id))) ≡ false
    by true holds = ap (λ d. not d) (holds refl)
    by false holds = refl
no_miss x views (item.Unset id) there = refl

none_misses : (x : Node) (views : Views) (items : List Item) → AllByRecursion (ItemFitsThere x views) items → list_any (misses x views) items ≡ false
none_misses x views [] all = refl
none_misses x views (i ∷ is) all = ap (λ b. b || list_any (misses x views) is) (no_miss x views i all.0) ∙ none_misses x views is all.1

plan_fits : (x : Node) (views : Views) (o : Option Plan) → PlanFitsThere x views o → fits_plan x views o ≡ true
plan_fits x views None there = refl
plan_fits x views (Some p) there = ap (λ b. not b) (none_misses x views p.items there)

recovery_fits : (views : Views) (o : Option ℕ) → RecoveryFitsThere views o → fits_recovery views o ≡ true
recovery_fits views None there = refl
recovery_fits views (Some id) there = there

record_fits : (x : Node) (views : Views) (r : Rec) → PlanFitsThere x views (plan_in r) → RecoveryFitsThere views (recovery_in r) → fits x views r ≡ true
record_fits x views r plan recovery = ap (λ b. b && fits_recovery views (recovery_in r)) (plan_fits x views (plan_in r) plan) ∙ recovery_fits views (recovery_in r) recovery

first_both : (P Q R : Rec → Type 0) → ((r : Rec) → P r → Q r → R r) → (rs : List Rec) → FirstIs P rs → FirstIs Q rs → FirstIs R rs
first_both P Q R f [] p q = tt
first_both P Q R f (r ∷ rs) p q = f r p q

-- where a secondary node agrees and its bearers are there, the first record from the master is expected
pub second_expected : (w : World) (x : Node) → Agrees w x → BearersFitThere w x
    → FirstIs (λ r. IsTaken (second_take (second_at x w).proc r) × (fits x (second_view (second_at x w)) r ≡ true)) (records_on M x w)
second_expected w x agrees there =
    let views = second_view (second_at x w) in
    first_both (λ r. IsTaken (second_take (second_at x w).proc r)) (λ r. fits x views r ≡ true) (λ r. IsTaken (second_take (second_at x w).proc r) × (fits x views r ≡ true)) (λ r p q. (p, q)) (records_on M x w)
    (row_expected w x agrees)
    (first_both (λ r. PlanFitsThere x views (plan_in r)) (λ r. RecoveryFitsThere views (recovery_in r)) (λ r. fits x views r ≡ true) (record_fits x views) (records_on M x w) there.plan there.recovery)

-- ---- at the master

itself : (x : Node) → is_same_node x x ≡ true
itself T = refl
itself M = refl
itself A = refl
itself B = refl

itself_first : (f : First) → is_same_first f f ≡ true
itself_first addition = refl
itself_first modification = refl
itself_first release = refl

answers : (f : First) (x : Node) (g : ℕ) (first : First) (who : Node) (h : ℕ) → (first ≡ f) × (who ≡ x) × (h ≡ g) → is_answer f x g first who h ≡ true
answers f x g first who h is =
    subst (λ j. is_answer f x g j who h ≡ true) (sym is.0) (subst (λ y. is_answer f x g f y h ≡ true) (sym is.1) (subst (λ k. is_answer f x g f x k ≡ true) (sym is.2)
    (ap (λ b. b && is_same_node x x && (g == g)) (itself_first f) ∙ ap (λ b. b && (g == g)) (itself x) ∙ eq-eqb g g refl)))

agreed_taken : (k : RecKind) (f : First) (x : Node) (g : ℕ) (m : MasterProc) (o : Option Command) → IsAskedFor f x g o → IsTaken (agreed k f x g m o)
agreed_taken k f x g m None is = absurd is
agreed_taken k f x g m (Some (asked c first who wanted)) is = subst (λ b. IsTaken (agreed_if k m c first who wanted b)) (sym (answers f x g first who c.plan.g is)) tt
agreed_taken k f x g m (Some (gone plan going)) is = absurd is
agreed_taken k f x g m (Some (recovering id t z)) is = absurd is

rejected_taken : (k : RecKind) (f : First) (x : Node) (g : ℕ) (m : MasterProc) (o : Option Command) → IsAskedFor f x g o → IsTaken (rejected k f x g m o)
rejected_taken k f x g m None is = absurd is
rejected_taken k f x g m (Some (asked c first who wanted)) is = subst (λ b. IsTaken (rejected_if k m first who wanted b)) (sym (answers f x g first who c.plan.g is)) tt
rejected_taken k f x g m (Some (gone plan going)) is = absurd is
rejected_taken k f x g m (Some (recovering id t z)) is = absurd is

released_taken : (r : Result MasterActs ProcFault) (m : MasterProc) → IsTaken (released r m)
released_taken (Ok r) m = tt
released_taken (Err why) m = tt

recovered_second_taken : (m : MasterProc) (id : ℕ) (t : Bool) (b : Bool) → b ≡ true → IsTaken (recovered_second m id t b)
recovered_second_taken m id t true is = tt
recovered_second_taken m id t false is = absurd cc

recovered_at_taken : (x : Node) (m : MasterProc) (i id : ℕ) (t : Bool) (z : Option Node) → is_secondary x ≡ true → (i ≡ id) × (z ≡ Some x) → IsTaken (recovered_at x m i t z (i == id))
recovered_at_taken T m i id t z second is = absurd cc
recovered_at_taken M m i id t z second is = absurd cc
recovered_at_taken A m i id t z second is = recovered_second_taken m i t (is_at A z && (i == id)) (ap (λ o. is_at A o && (i == id)) is.1 ∙ eq-eqb i id is.0)
recovered_at_taken B m i id t z second is = recovered_second_taken m i t (is_at B z && (i == id)) (ap (λ o. is_at B o && (i == id)) is.1 ∙ eq-eqb i id is.0)

recovered_taken : (x : Node) (id : ℕ) (m : MasterProc) (o : Option Command) → is_secondary x ≡ true → IsRecovery x id o → IsTaken (recovered x id m o)
recovered_taken x id m None second is = absurd is
recovered_taken x id m (Some (asked c first who wanted)) second is = absurd is
recovered_taken x id m (Some (gone plan going)) second is = absurd is
recovered_taken x id m (Some (recovering i t z)) second is = recovered_at_taken x m i id t z second is

passed_taken : (m : MasterProc) (s : StatusTransfer) (x : Node) (o : Option (ℕ × Node)) → IsElsewhere x o → IsTaken (passed_to m s x o)
passed_taken m s x None is = absurd is
passed_taken m s x (Some (id, T)) is = absurd (let bad = is.1 in cc)
passed_taken m s x (Some (id, M)) is = tt
passed_taken m s x (Some (id, A)) is = subst (λ b. IsTaken {R = MasterActs} (if b then Err (unexpected kind.Snst) else Ok (m, send A (rec.Snst s) ∷ []))) (sym is.0) tt
passed_taken m s x (Some (id, B)) is = subst (λ b. IsTaken {R = MasterActs} (if b then Err (unexpected kind.Snst) else Ok (m, send B (rec.Snst s) ∷ []))) (sym is.0) tt

transferred_taken : (x : Node) (s : StatusTransfer) (m : MasterProc) (o : Option Command) → IsUnderWay x o (rec.Snst s) → IsTaken (transferred x s m o)
transferred_taken x s m None is = absurd is
transferred_taken x s m (Some (asked c first who wanted)) is = absurd is
transferred_taken x s m (Some (gone p w)) is =
    let place = find (λ (y : ℕ × Node). y.0 == s.id) w.moving in
    subst (λ b. IsTaken (passed_to m s x (if b then place else None))) (sym (eq-eqb p.g s.g is.0)) (passed_taken m s x place is.1)
transferred_taken x s m (Some (recovering i t z)) is = absurd is

moved_taken : (x : Node) (g id : ℕ) (m : MasterProc) (o : Option Command) → IsUnderWay x o (rec.Moved g id) → IsTaken (moved x g id m o)
moved_taken x g id m None is = absurd is
moved_taken x g id m (Some (asked c first who wanted)) is = absurd is
moved_taken x g id m (Some (gone p w)) is =
    subst (λ b. IsTaken (adopted_if kind.Moved m id x p w b)) (sym (ap (λ b. b && list_any (is_moving id x) w.moving) (eq-eqb p.g g is.0) ∙ is.1)) tt
moved_taken x g id m (Some (recovering i t z)) is = absurd is

-- a record that is awaited is taken
second_taken : (x : Node) (m : MasterProc) (r : Rec) → is_secondary x ≡ true → IsAwaited x m.command r → IsUnderWay x m.command r → IsTaken (from_second x m r)
second_taken x m (rec.Reconf plan key) second is moves = absurd is
second_taken x m (rec.Rcomp g) second is moves = absurd is
second_taken x m (rec.Scgf failed) second is moves = absurd is
second_taken x m (rec.Recov id) second is moves = absurd is
second_taken x m (rec.Recovd id) second is moves = recovered_taken x id m m.command second moves
second_taken x m (rec.Addreq plan key) second is moves = absurd is
second_taken x m (rec.Addack g) second is moves = agreed_taken kind.Addack addition x g m m.command is
second_taken x m (rec.Addrej g) second is moves = rejected_taken kind.Addrej addition x g m m.command is
second_taken x m (rec.Modreq plan key) second is moves = absurd is
second_taken x m (rec.Modack g) second is moves = agreed_taken kind.Modack modification x g m m.command is
second_taken x m (rec.Modrej g) second is moves = rejected_taken kind.Modrej modification x g m m.command is
second_taken x m (rec.Recfg g) second is moves = absurd is
second_taken x m (rec.Relreq plan) second is moves = absurd is
second_taken x m (rec.Relack g) second is moves = released_taken (agreed kind.Relack release x g m m.command) m
second_taken x m (rec.Relrej g) second is moves = rejected_taken kind.Relrej release x g m m.command is
second_taken x m (rec.Uecr g) second is moves = absurd is
second_taken x m (rec.Snst status) second is moves = transferred_taken x status m m.command moves
second_taken x m (rec.Moved g id) second is moves = moved_taken x g id m m.command moves
second_taken x m (rec.Scgn id g) second is moves = absurd is
second_taken x m rec.Modrqd second is moves = tt
second_taken x m (rec.Modcnf g) second is moves = absurd is
second_taken x m (rec.Modref word) second is moves = absurd is
second_taken x m rec.Chgrqd second is moves = tt
second_taken x m (rec.Chgcnf plan) second is moves = absurd is
second_taken x m (rec.Chgref word) second is moves = absurd is
second_taken x m rec.Relrqd second is moves = tt
second_taken x m (rec.Relcnf plan) second is moves = absurd is

at_master : (x : Node) (m : MasterProc) (r : Rec) → is_secondary x ≡ true → IsAwaited x m.command r → IsUnderWay x m.command r → IsTaken (master_take x m r)
at_master A m r second is moves = second_taken A m r refl is moves
at_master B m r second is moves = second_taken B m r refl is moves
at_master T m r second is moves = absurd cc
at_master M m r second is moves = absurd cc

first_of : (P : Rec → Type 0) (rs : List Rec) → AllByRecursion P rs → FirstIs P rs
first_of P [] all = tt
first_of P (r ∷ rs) all = all.0

-- where the answers on the link to the master are awaited, and the first record is one that is waited for where it is of a recovery or
-- a move, the first record is expected at the master
pub from_second_expected : (w : World) (x : Node) → is_secondary x ≡ true → AwaitedAlone w x → UnderWay w x → FirstIs (λ r. IsTaken (master_take x w.master.proc r)) (records_on x M w)
from_second_expected w x second alone moves =
    let o = w.master.proc.command in
    first_both (IsAwaited x o) (IsUnderWay x o) (λ r. IsTaken (master_take x w.master.proc r)) (λ r is move. at_master x w.master.proc r second is move) (records_on x M w) (first_of (IsAwaited x o) (records_on x M w) alone) moves
