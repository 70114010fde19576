-- The plans that a node is told of, by their generations: each is newer than those before it (this product's own).
use Rattle.std.specs.Prelude.{Err, List, None, Ok, Option, Result, Some, [], false, if◌then◌else◌, ⊤, ℕ, ◌+◌, ◌==◌, ◌∷◌, ◌≡◌, ◌≤◌}
use Rattle.std.specs.List.{flat_map}
use Rattle.dc_base.specs.Nodes.{is_same_node}
use Rattle.dc_base.specs.declared.nodes.Node.{Node}
use Rattle.dc_base.specs.declared.records.Rec.{Rec}
use Rattle.dc_base.specs.declared.records.Rec.TheVariants as rec
use Rattle.node_rules.specs.Acts.{ProcFault}
use Rattle.node_rules.specs.CommandTable.{Table}
use Rattle.node_rules.specs.Drafts.{Draft}
use Rattle.node_rules.specs.MasterState.{MasterActs, MasterProc}
use Rattle.node_rules.specs.Places.{is_at}
use Rattle.node_rules.specs.declared.acts.Act.{Act}
use Rattle.node_rules.specs.declared.acts.Act.TheVariants.{FailOne as fail_one, Go as go, Pass as pass, Prepare as prepare, RecoverOne as recover_one, Say as say, Send as send, UnlockAll as unlock_all}
use Rattle.node_rules.specs.declared.commands.Command.{Command}
use Rattle.node_rules.specs.declared.commands.Command.TheVariants.{Asked as asked, Gone as gone, Recovering as recovering}
use Rattle.node_rules.specs.declared.commands.First.{First}
use Rattle.node_rules.specs.declared.commands.First.TheVariants.{Addition as addition, Modification as modification, Release as release}

-- ---- generations told

-- no plan has generation 0
abbrev pub later : ℕ → List ℕ
later g = if g == 0 then [] else g ∷ []

-- the generation of the plan in a record
abbrev pub plan_generation : Rec → List ℕ
plan_generation (rec.Reconf plan key) = later plan.g
plan_generation (rec.Addreq plan key) = later plan.g
plan_generation (rec.Modreq plan key) = later plan.g
plan_generation (rec.Relreq plan) = later plan.g
plan_generation (rec.Chgcnf plan) = later plan.g
plan_generation (rec.Relcnf plan) = later plan.g
plan_generation _ = []

-- those that an act tells a node
abbrev pub told_to : Node → Act → List ℕ
told_to y (send to r) = if is_same_node y to then plan_generation r else []
told_to y (prepare p) = []
told_to y (go p) = []
told_to y (unlock_all g) = []
told_to y (say n) = []
told_to y (recover_one id) = []
told_to y (fail_one id g) = []
told_to y (pass status) = []

-- several acts
abbrev pub told_in : Node → List Act → List ℕ
told_in y acts = flat_map (told_to y) acts

-- generations that ascend, from this one on and below that one
abbrev pub Between : ℕ → List ℕ → ℕ → Type 0
Between from [] below = from ≤ below
Between from (g ∷ gs) below = (from ≤ g) × Between (g + 1) gs below

-- ---- the procedures

-- the least generation of which a node may still be told, where this one was drawn last and this command is open: a node that the
-- plan of the command does not ask may be told of that plan itself
abbrev pub fresh_by : Node → ℕ → Option Command → ℕ
fresh_by y last None = last + 1
fresh_by y last (Some (asked c first who wanted)) = if is_same_node y who then last + 1 else last
fresh_by y last (Some (gone plan going)) = last + 1
fresh_by y last (Some (recovering id terminal second)) = last + 1

-- by the state
abbrev pub fresh_from : Node → MasterProc → ℕ
fresh_from y m = fresh_by y m.table.last m.command

-- an addition asks another node than the secondary node
abbrev pub AsksOther : First → Node → Option Node → Type 0
AsksOther addition who sec = is_at who sec ≡ false
AsksOther modification who sec = ⊤
AsksOther release who sec = ⊤

-- the plan that awaits its agreement is the last one drawn
abbrev pub IsDrawnBy : Table → Option Command → Type 0
IsDrawnBy t None = ⊤
IsDrawnBy t (Some (asked c first who wanted)) = (c.plan.g ≡ t.last) × (1 ≤ t.last) × AsksOther first who t.sec
IsDrawnBy t (Some (gone plan going)) = ⊤
IsDrawnBy t (Some (recovering id terminal second)) = ⊤

-- of a state
abbrev pub IsDrawn : MasterProc → Type 0
IsDrawn m = IsDrawnBy m.table m.command

-- after a step of the procedures: what the node was told of ascends, from this generation on, and is no more to be told
pub record IsNewer (y : Node) (from : ℕ) (r : MasterActs) : Type 0 where
  pub told : Between from (told_in y r.1) (fresh_from y r.0)
  pub drawn : IsDrawn r.0

-- where a step is taken
abbrev pub TakesNewer : Node → ℕ → Result MasterActs ProcFault → Type 0
TakesNewer y from (Ok r) = IsNewer y from r
TakesNewer y from (Err why) = ⊤

-- ---- drafts

-- the first record of an addition is for another node than the secondary node
abbrev pub FirstAsksOther : Option (First × Node) → Option Node → Type 0
FirstAsksOther None sec = ⊤
FirstAsksOther (Some (first, who)) sec = AsksOther first who sec

-- a draft has the next generation
abbrev pub IsNextDraft : Table → Option Draft → Type 0
IsNextDraft t None = ⊤
IsNextDraft t (Some d) = (d.change.plan.g ≡ t.last + 1) × FirstAsksOther d.first t.sec
