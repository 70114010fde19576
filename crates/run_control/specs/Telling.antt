-- What the terminal is to answer, by the open command; and what the master's procedures tell it.
use Rattle.std.specs.List.{flat_map}
use Rattle.std.specs.Prelude.{Bool, List, None, Option, Some, [], false, true, ℕ, ◌∷◌, ◌≡◌}
use Rattle.dc_base.specs.declared.nodes.Node.{Node}
use Rattle.dc_base.specs.declared.nodes.Node.TheVariants.{A, B, M, T}
use Rattle.dc_base.specs.declared.records.Rec.{Rec}
use Rattle.dc_base.specs.declared.records.Rec.TheVariants as rec
use Rattle.node_rules.specs.MasterState.{MasterActs}
use Rattle.node_rules.specs.declared.acts.Act.{Act}
use Rattle.node_rules.specs.declared.acts.Act.TheVariants.{FailOne as fail_one, Go as go, Pass as pass, Prepare as prepare, RecoverOne as recover_one, Say as say, Send as send, UnlockAll as unlock_all}
use Rattle.node_rules.specs.declared.commands.Command.{Command}
use Rattle.node_rules.specs.declared.commands.Command.TheVariants.{Asked as asked, Gone as gone, Recovering as recovering}

-- nothing, the completion of the plan of a generation, or the recovery of a bearer
pub data Due : Type 0 where
  nothing_due : Due
  plan_due : (g : ℕ) → Due
  recovery_due : (id : ℕ) → Due

-- until the terminal answered
abbrev pub plan_unless : Bool → ℕ → Due
plan_unless true g = nothing_due
plan_unless false g = plan_due g

-- a recovery of the bearer is due, if it is still to be done
abbrev pub recovery_if : Bool → ℕ → Due
recovery_if true id = recovery_due id
recovery_if false id = nothing_due

-- by the open command
abbrev pub due_by : Option Command → Due
due_by None = nothing_due
due_by (Some (asked c first who wanted)) = nothing_due
due_by (Some (gone plan going)) = plan_unless going.complete plan.g
due_by (Some (recovering id terminal second)) = recovery_if terminal id

-- the record asks for that
abbrev pub IsAsking : Due → Rec → Type 0
IsAsking (plan_due g) (rec.Reconf p key) = p.g ≡ g
IsAsking (recovery_due id) (rec.Recov k) = k ≡ id
IsAsking _ _ = ⊥

-- ---- what is told

-- a record for the terminal
abbrev pub told_by : Node → Rec → List Rec
told_by T r = r ∷ []
told_by M r = []
told_by A r = []
told_by B r = []

-- by an act
abbrev pub told_by_act : Act → List Rec
told_by_act (send to r) = told_by to r
told_by_act (prepare p) = []
told_by_act (go p) = []
told_by_act (unlock_all g) = []
told_by_act (say n) = []
told_by_act (recover_one id) = []
told_by_act (fail_one id g) = []
told_by_act (pass status) = []

-- a step of the procedures, where this is due once the input was taken: nothing is told, and it stays due; or nothing is due,
-- and what is due then is asked for, once
pub data Tells (due : Due) (r : MasterActs) : Type 0 where
  tells_nothing : (told : flat_map told_by_act r.1 ≡ []) → (stays : due_by r.0.command ≡ due) → Tells due r
  tells_once : (none : due ≡ nothing_due) → (x : Rec) → (told : flat_map told_by_act r.1 ≡ x ∷ []) → (asks : IsAsking (due_by r.0.command) x) → Tells due r

-- what is due once a record from a node was taken
abbrev pub due_after : Node → Rec → Due → Due
due_after T (rec.Rcomp g) due = nothing_due
due_after T (rec.Recovd id) due = nothing_due
due_after _ _ due = due
