-- What the terminal answers is taken by the master, where it is due.
use Rattle.std.proofs.Common.{ℕ, ◌≡◌, ◌==◌, Bool, true, false, Option, Some, None, refl, sym, ap, subst, ◌∙◌}
use Rattle.std.specs.Prelude.{not, ◌&&◌}
use Rattle.std.proofs.lemmas.Bool.{eq-eqb}
use Rattle.dc_base.specs.declared.nodes.Node.{Node}
use Rattle.dc_base.specs.declared.nodes.Node.TheVariants.{T}
use Rattle.dc_base.specs.declared.records.Plan.{Plan}
use Rattle.dc_base.specs.declared.records.Rec.{Rec}
use Rattle.dc_base.specs.declared.records.Rec.TheVariants as rec
use Rattle.node_rules.specs.MasterRecords.{completed, completed_if, recovered, recovered_there}
use Rattle.node_rules.specs.MasterState.{MasterProc}
use Rattle.node_rules.specs.MasterTaking.{from_terminal}
use Rattle.node_rules.specs.declared.commands.Command.{Command}
use Rattle.node_rules.specs.declared.commands.Command.TheVariants.{Asked as asked, Gone as gone, Recovering as recovering}
use Rattle.node_rules.specs.declared.commands.Going.{Going}
use Rattle.run_control.specs.Claims.{IsAnswer}
use Rattle.run_control.specs.Rows.{IsTaken}
use Rattle.run_control.specs.Telling.{Due, due_by, nothing_due, plan_due, plan_unless, recovery_due, recovery_if}

-- the generation, or the identity, that is due
abbrev number_due : Due → ℕ
number_due nothing_due = 0
number_due (plan_due g) = g
number_due (recovery_due id) = id

-- ---- a completion

completed_by : (m : MasterProc) (p : Plan) (w : Going) (g : ℕ) (complete : Bool) → w.complete ≡ complete → plan_unless complete p.g ≡ plan_due g → IsTaken (completed_if m p w ((p.g == g) && not w.complete))
completed_by m p w g true is due = absurd cc
completed_by m p w g false is due =
    let same : p.g ≡ g = ap number_due due in
    let yes' : ((p.g == g) && not w.complete) ≡ true = ap (λ b. (p.g == g) && not b) is ∙ ap (λ b. b && true) (eq-eqb p.g g same) in
    subst (λ b. IsTaken (completed_if m p w b)) (sym yes') tt

completed_taken : (g : ℕ) (m : MasterProc) (c : Option Command) → due_by c ≡ plan_due g → IsTaken (completed g m c)
completed_taken g m None due = absurd cc
completed_taken g m (Some (asked c first who wanted)) due = absurd cc
completed_taken g m (Some (gone p w)) due = completed_by m p w g w.complete refl due
completed_taken g m (Some (recovering id true second)) due = absurd cc
completed_taken g m (Some (recovering id false second)) due = absurd cc

-- ---- a recovery

never_plan : (b : Bool) (g id : ℕ) → plan_unless b g ≡ recovery_due id → ⊥
never_plan true g id due = absurd cc
never_plan false g id due = absurd cc

recovered_by : (m : MasterProc) (i id : ℕ) (terminal : Bool) (second : Option Node) → recovery_if terminal i ≡ recovery_due id → IsTaken (recovered_there m i second (terminal && (i == id)))
recovered_by m i id true second due = subst (λ b. IsTaken (recovered_there m i second b)) (sym (eq-eqb i id (ap number_due due))) tt
recovered_by m i id false second due = absurd cc

recovered_taken : (id : ℕ) (m : MasterProc) (c : Option Command) → due_by c ≡ recovery_due id → IsTaken (recovered T id m c)
recovered_taken id m None due = absurd cc
recovered_taken id m (Some (asked c first who wanted)) due = absurd cc
recovered_taken id m (Some (gone p w)) due = absurd (never_plan w.complete p.g id due)
recovered_taken id m (Some (recovering i terminal second)) due = recovered_by m i id terminal second due

-- ---- any answer

pub answer_taken : (m : MasterProc) (r : Rec) → IsAnswer (due_by m.command) r → IsTaken (from_terminal m r)
answer_taken m (rec.Rcomp g) is = completed_taken g m m.command is
answer_taken m (rec.Recovd id) is = recovered_taken id m m.command is
answer_taken m (rec.Scgf failed) is = tt
answer_taken m (rec.Reconf plan key) is = absurd is
answer_taken m (rec.Recov id) is = absurd is
answer_taken m (rec.Addreq plan key) is = absurd is
answer_taken m (rec.Addack g) is = absurd is
answer_taken m (rec.Addrej g) is = absurd is
answer_taken m (rec.Modreq plan key) is = absurd is
answer_taken m (rec.Modack g) is = absurd is
answer_taken m (rec.Modrej g) is = absurd is
answer_taken m (rec.Recfg g) is = absurd is
answer_taken m (rec.Relreq plan) is = absurd is
answer_taken m (rec.Relack g) is = absurd is
answer_taken m (rec.Relrej g) is = absurd is
answer_taken m (rec.Uecr g) is = absurd is
answer_taken m (rec.Snst status) is = absurd is
answer_taken m (rec.Moved g id) is = absurd is
answer_taken m (rec.Scgn id g) is = absurd is
answer_taken m rec.Modrqd is = absurd is
answer_taken m (rec.Modcnf g) is = absurd is
answer_taken m (rec.Modref word) is = absurd is
answer_taken m rec.Chgrqd is = absurd is
answer_taken m (rec.Chgcnf plan) is = absurd is
answer_taken m (rec.Chgref word) is = absurd is
answer_taken m rec.Relrqd is = absurd is
answer_taken m (rec.Relcnf plan) is = absurd is
