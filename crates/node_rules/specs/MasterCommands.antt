-- The commands that the master takes, and when it refuses them.
use Rattle.std.specs.Prelude.{Bool, Err, List, None, Ok, Option, Result, Some, [], bytes_eq, false, is_none, is_some, nat_le, not, true, ℕ, ◌&&◌, ◌∷◌}
use Rattle.dc_base.specs.Nodes.{is_mm}
use Rattle.dc_base.specs.declared.answers.Refusal.{Refusal}
use Rattle.dc_base.specs.declared.answers.Refusal.TheVariants as refusal
use Rattle.dc_base.specs.declared.events.Event.{Event}
use Rattle.dc_base.specs.declared.events.Event.TheVariants as event
use Rattle.dc_base.specs.declared.nodes.Node.{Node}
use Rattle.dc_base.specs.declared.nodes.Node.TheVariants.{A, B, M, T}
use Rattle.dc_base.specs.declared.nodes.Shape.{Shape}
use Rattle.dc_base.specs.declared.records.Rec.TheVariants as rec
use Rattle.key_chain.specs.Book.{is_noted}
use Rattle.transcript.specs.Words.{shape_word}
use Rattle.node_rules.specs.declared.acts.Act.TheVariants.{RecoverOne as recover_one, Send as send}
use Rattle.node_rules.specs.Acts.{ProcFault, first_refusal, refused}
use Rattle.node_rules.specs.declared.commands.Row.{Row}
use Rattle.node_rules.specs.CommandTable.{is_counter_spent, row}
use Rattle.node_rules.specs.Drafts.{draft}
use Rattle.node_rules.specs.MasterEnds.{is_release_spent}
use Rattle.node_rules.specs.MasterGo.{begins_if}
use Rattle.node_rules.specs.declared.commands.Command.TheVariants.{Recovering as recovering}
use Rattle.node_rules.specs.MasterState.{MasterActs, MasterProc, has_bearer}

-- the table has no secondary node (part of the rule command_refusals)
abbrev pub is_alone : MasterProc → Bool
is_alone m = is_none m.table.sec

-- a plan that the command would draw sets a key that another establishment used for that identity (TS 38.331, 5.3.5.6.5)
abbrev pub spends_identity : MasterProc → Event → Bool
spends_identity m e = is_release_spent m.table (draft m.table e)

-- both have the same name of their shape (part of the rule command_refusals)
abbrev pub is_same_shape : Shape → Option Row → Bool
is_same_shape s None = false
is_same_shape s (Some r) = bytes_eq (shape_word s) (shape_word r.shape)

-- the conditions under which a command is refused, in their order; what is no command of the master's is never refused
-- (this product's own)
abbrev pub command_refusals : ℕ → MasterProc → Event → List (Bool × Refusal)
command_refusals policies m (event.Bearer id n first shape threshold policy) =
    (is_some m.command, refusal.Busy) ∷ (has_bearer m id, refusal.BearerThere) ∷ (not (is_mm shape) && is_alone m, refusal.NoSecondary)
    ∷ (nat_le policies policy, refusal.NoPolicy) ∷ (spends_identity m (event.Bearer id n first shape threshold policy), refusal.IdSpent) ∷ []
command_refusals policies m (event.Reshape id shape) =
    (is_some m.command, refusal.Busy) ∷ (not (has_bearer m id), refusal.NoBearer) ∷ (not (is_mm shape) && is_alone m, refusal.NoSecondary)
    ∷ (is_same_shape shape (row m.table id), refusal.SameShape) ∷ (spends_identity m (event.Reshape id shape), refusal.IdSpent) ∷ []
command_refusals policies m (event.Remove id) = (is_some m.command, refusal.Busy) ∷ (not (has_bearer m id), refusal.NoBearer) ∷ []
command_refusals policies m (event.Add node) =
    (is_some m.command, refusal.Busy) ∷ (not (is_alone m), refusal.SecondaryThere) ∷ (is_counter_spent m.table, refusal.CounterSpent) ∷ []
command_refusals policies m event.Change =
    (is_some m.command, refusal.Busy) ∷ (is_alone m, refusal.NoSecondary) ∷ (is_counter_spent m.table, refusal.CounterSpent) ∷ []
command_refusals policies m event.Release =
    (is_some m.command, refusal.Busy) ∷ (is_alone m, refusal.NoSecondary) ∷ (spends_identity m event.Release, refusal.IdSpent) ∷ []
command_refusals policies m event.RekeySecond =
    (is_some m.command, refusal.Busy) ∷ (is_alone m, refusal.NoSecondary) ∷ (is_counter_spent m.table, refusal.CounterSpent) ∷ []
command_refusals policies m (event.RekeyMaster root) =
    (is_some m.command, refusal.Busy) ∷ (is_noted m.table.book.roots root, refusal.RootUsed) ∷ []
command_refusals policies m (event.Recover id) = (is_some m.command, refusal.Busy) ∷ (not (has_bearer m id), refusal.NoBearer) ∷ []
command_refusals policies m (event.Report node id) = []
command_refusals policies m (event.Deny node on) = []
command_refusals policies m (event.Ask node what) = []
command_refusals policies m event.ScgFail = []
command_refusals policies m (event.Submit id d payload) = []
command_refusals policies m (event.Step l i) = []
command_refusals policies m (event.Lose l i) = []
command_refusals policies m (event.Again l i) = []

-- the node of a bearer's anchor has to recover it; the terminal has to in any case
-- (TS 38.323, 5.5; the command is this product's own)
abbrev pub recovers_at : MasterProc → ℕ → Node → MasterActs
recovers_at m id M = (record m { command = Some (recovering id true None) }, send T (rec.Recov id) ∷ recover_one id ∷ [])
recovers_at m id A = (record m { command = Some (recovering id true (Some A)) }, send T (rec.Recov id) ∷ send A (rec.Recov id) ∷ [])
recovers_at m id B = (record m { command = Some (recovering id true (Some B)) }, send T (rec.Recov id) ∷ send B (rec.Recov id) ∷ [])
recovers_at m id T = (m, [])

-- a bearer is recovered (part of the rule command_by)
abbrev pub recovers_row : MasterProc → ℕ → Option Row → MasterActs
recovers_row m id None = (m, [])
recovers_row m id (Some r) = recovers_at m id r.anchor

-- the bearer that an event recovers; any other command has a plan (part of the rule commands)
abbrev pub recovered_by : Event → Option ℕ
recovered_by (event.Bearer id n first shape threshold policy) = None
recovered_by (event.Reshape id shape) = None
recovered_by (event.Remove id) = None
recovered_by (event.Add node) = None
recovered_by event.Change = None
recovered_by event.Release = None
recovered_by event.RekeySecond = None
recovered_by (event.RekeyMaster root) = None
recovered_by (event.Recover id) = Some id
recovered_by (event.Report node id) = None
recovered_by (event.Deny node on) = None
recovered_by (event.Ask node what) = None
recovered_by event.ScgFail = None
recovered_by (event.Submit id d payload) = None
recovered_by (event.Step l i) = None
recovered_by (event.Lose l i) = None
recovered_by (event.Again l i) = None

-- a command is carried on: a recovery, or one that has a plan (TS 37.340, 10.2 to 10.5; a recovery: TS 38.323, 5.5)
abbrev pub command_by : MasterProc → Event → Option ℕ → MasterActs
command_by m e None = begins_if m false (draft m.table e)
command_by m e (Some id) = recovers_row m id (row m.table id)

-- a command that is not refused begins (part of the rule master_command)
abbrev pub commands : MasterProc → Event → MasterActs
commands m e = command_by m e (recovered_by e)

-- unless it is refused (part of the rule master_command)
abbrev pub commands_unless : MasterProc → Event → Option Refusal → Result MasterActs ProcFault
commands_unless m e None = Ok (commands m e)
commands_unless m e (Some why) = Err (refused why)

-- the master takes a command, where so many routing policies are stored
-- (TS 37.340, 10.2 to 10.5; the refusals are this product's own)
abbrev pub master_command : ℕ → MasterProc → Event → Result MasterActs ProcFault
master_command policies m e = commands_unless m e (first_refusal (command_refusals policies m e))
