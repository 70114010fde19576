-- The records that the master takes (TS 38.423, 8.2.2 and 8.3; TS 38.331, 5.3.5 and 5.7.3): each with what it does in each state.
use Rattle.std.specs.List.{list_any}
use Rattle.std.specs.Prelude.{Bool, Err, List, None, Ok, Option, Result, Some, [], false, filter, find, flat_map, if◌then◌else◌, is_some, not, true, ℕ, ◌&&◌, ◌++◌, ◌==◌, ◌∷◌}
use Rattle.dc_base.specs.Nodes.{is_same_node}
use Rattle.dc_base.specs.declared.answers.Word.{Word}
use Rattle.dc_base.specs.declared.answers.Word.TheVariants as word
use Rattle.dc_base.specs.declared.events.Event.{Event}
use Rattle.dc_base.specs.declared.events.Event.TheVariants as event
use Rattle.dc_base.specs.declared.events.Note.TheVariants as note
use Rattle.dc_base.specs.declared.nodes.Node.{Node}
use Rattle.dc_base.specs.declared.nodes.Node.TheVariants.{A, B, M, T}
use Rattle.dc_base.specs.declared.nodes.Want.{Want}
use Rattle.dc_base.specs.declared.nodes.Want.TheVariants as want
use Rattle.dc_base.specs.declared.records.Plan.{Plan}
use Rattle.dc_base.specs.declared.records.Rec.{Rec}
use Rattle.dc_base.specs.declared.records.Rec.TheVariants as rec
use Rattle.dc_base.specs.declared.records.RecKind.{RecKind}
use Rattle.dc_base.specs.declared.records.RecKind.TheVariants as kind
use Rattle.dc_base.specs.declared.records.StatusTransfer.{StatusTransfer}
use Rattle.node_rules.specs.declared.acts.Act.{Act}
use Rattle.node_rules.specs.declared.acts.Act.TheVariants.{FailOne as fail_one, Pass as pass, Say as say, Send as send, UnlockAll as unlock_all}
use Rattle.node_rules.specs.Acts.{ProcFault, unexpected}
use Rattle.node_rules.specs.declared.commands.Change.{Change}
use Rattle.node_rules.specs.declared.commands.Row.{Row}
use Rattle.node_rules.specs.CommandTable.{is_counter_spent, row}
use Rattle.node_rules.specs.declared.commands.First.{First}
use Rattle.node_rules.specs.declared.commands.First.TheVariants.{Addition as addition, Modification as modification, Release as release}
use Rattle.node_rules.specs.Drafts.{draft}
use Rattle.node_rules.specs.MasterEnds.{ends, tries, waits_for}
use Rattle.node_rules.specs.MasterGo.{before_acts, begins_if, goes, way}
use Rattle.node_rules.specs.declared.commands.Command.{Command}
use Rattle.node_rules.specs.declared.commands.Going.{Going}
use Rattle.node_rules.specs.declared.commands.Command.TheVariants.{Asked as asked, Gone as gone, Recovering as recovering}
use Rattle.node_rules.specs.MasterState.{MasterActs, MasterProc, with_waits}
use Rattle.node_rules.specs.Places.{is_at, other_second}

-- a record that has no row in the state (this product's own)
abbrev pub no_row : RecKind → Result MasterActs ProcFault
no_row k = Err (unexpected k)

-- ---- the answers to a first record

-- the node agreed to the plan of this generation: it is carried out (part of the rule agreed)
abbrev pub agreed_if : RecKind → MasterProc → Change → First → Node → Bool → Bool → Result MasterActs ProcFault
agreed_if k m c first who wanted true = Ok (goes m c (way first who wanted m.table.sec))
agreed_if k m c first who wanted false = no_row k

-- both are the same first record (part of the rule is_answer)
abbrev pub is_same_first : First → First → Bool
is_same_first addition addition = true
is_same_first addition modification = false
is_same_first addition release = false
is_same_first modification addition = false
is_same_first modification modification = true
is_same_first modification release = false
is_same_first release addition = false
is_same_first release modification = false
is_same_first release release = true

-- this node answers the first record of this kind and generation (part of the rule agreed)
abbrev pub is_answer : First → Node → ℕ → First → Node → ℕ → Bool
is_answer f from g first who h = is_same_first f first && is_same_node from who && (g == h)

-- an acknowledge comes (TS 38.423, 8.3.1, 8.3.3 and 8.3.6)
abbrev pub agreed : RecKind → First → Node → ℕ → MasterProc → Option Command → Result MasterActs ProcFault
agreed k f from g m None = no_row k
agreed k f from g m (Some (asked c first who wanted)) = agreed_if k m c first who wanted (is_answer f from g first who c.plan.g)
agreed k f from g m (Some (gone plan going)) = no_row k
agreed k f from g m (Some (recovering id terminal second)) = no_row k

-- an acknowledge of a release: that of a change comes when it likes, and says nothing (TS 38.423, 8.3.6)
abbrev pub released : Result MasterActs ProcFault → MasterProc → Result MasterActs ProcFault
released (Ok r) m = Ok r
released (Err why) m = Ok (m, [])

-- the node that asked for the command hears that it was rejected (TS 38.423, 8.3.4 and 8.3.5)
abbrev pub rejecting : First → Node → Bool → List Act
rejecting first who false = []
rejecting addition who true = send (other_second who) (rec.Chgref word.Rejected) ∷ []
rejecting modification who true = send who (rec.Modref word.Rejected) ∷ []
rejecting release who true = []

-- the command is rejected: it ends (part of the rule rejected)
abbrev pub rejected_if : RecKind → MasterProc → First → Node → Bool → Bool → Result MasterActs ProcFault
rejected_if k m first who wanted true = Ok (ends m (rejecting first who wanted) note.Rejected)
rejected_if k m first who wanted false = no_row k

-- a rejection comes (TS 38.423, 8.3.1, 8.3.3 and 8.3.6)
abbrev pub rejected : RecKind → First → Node → ℕ → MasterProc → Option Command → Result MasterActs ProcFault
rejected k f from g m None = no_row k
rejected k f from g m (Some (asked c first who wanted)) = rejected_if k m first who wanted (is_answer f from g first who c.plan.g)
rejected k f from g m (Some (gone plan going)) = no_row k
rejected k f from g m (Some (recovering id terminal second)) = no_row k

-- ---- the terminal's answers

-- the node that agreed hears that the reconfiguration is complete, or has its request confirmed by that
-- (TS 38.423, 8.3.2 and 8.3.4)
abbrev pub completing : Option Node → Bool → ℕ → List Act
completing None confirms g = []
completing (Some x) true g = send x (rec.Modcnf g) ∷ []
completing (Some x) false g = send x (rec.Recfg g) ∷ []

-- the terminal took the plan: the anchors of its generation open (part of the rule completed)
abbrev pub completed_if : MasterProc → Plan → Going → Bool → Result MasterActs ProcFault
completed_if m p w true =
    Ok (before_acts (completing w.due w.confirms p.g ++ unlock_all p.g ∷ []) (waits_for m (gone p (record w { complete = true }))))
completed_if m p w false = no_row kind.Rcomp

-- the terminal answers that the reconfiguration is complete (TS 38.331, 5.3.5; TS 38.423, 8.3.2)
abbrev pub completed : ℕ → MasterProc → Option Command → Result MasterActs ProcFault
completed g m None = no_row kind.Rcomp
completed g m (Some (asked c first who wanted)) = no_row kind.Rcomp
completed g m (Some (gone p w)) = completed_if m p w ((p.g == g) && not w.complete)
completed g m (Some (recovering id terminal second)) = no_row kind.Rcomp

-- the anchor of a bearer learns that its SCG leg failed: at the master at once, else by a record (part of the rule failed_legs)
abbrev pub failing_at : ℕ → ℕ → Node → List Act
failing_at id g M = fail_one id g ∷ []
failing_at id g A = send A (rec.Scgn id g) ∷ []
failing_at id g B = send B (rec.Scgn id g) ∷ []
failing_at id g T = []

-- if the generation is the bearer's current one (part of the rule failed_legs)
abbrev pub failing : ℕ → ℕ → Option Row → List Act
failing id g None = []
failing id g (Some r) = if r.g == g then failing_at id g r.anchor else []

-- the terminal reports the SCG legs that failed (TS 37.340, 7.7)
abbrev pub failed_legs : MasterProc → List (ℕ × ℕ) → MasterActs
failed_legs m pairs = (m, flat_map (λ (x : ℕ × ℕ). failing x.0 x.1 (row m.table x.0)) pairs)

-- ---- recoveries

-- the terminal recovered the bearer (part of the rule recovered)
abbrev pub recovered_there : MasterProc → ℕ → Option Node → Bool → Result MasterActs ProcFault
recovered_there m id second true = Ok (waits_for m (recovering id false second))
recovered_there m id second false = no_row kind.Recovd

-- a secondary node did (part of the rule recovered)
abbrev pub recovered_second : MasterProc → ℕ → Bool → Bool → Result MasterActs ProcFault
recovered_second m id terminal true = Ok (waits_for m (recovering id terminal None))
recovered_second m id terminal false = no_row kind.Recovd

-- a node says that it recovered the bearer (part of the rule recovered)
abbrev pub recovered_at : Node → MasterProc → ℕ → Bool → Option Node → Bool → Result MasterActs ProcFault
recovered_at T m id terminal second same = recovered_there m id second (terminal && same)
recovered_at A m id terminal second same = recovered_second m id terminal (is_at A second && same)
recovered_at B m id terminal second same = recovered_second m id terminal (is_at B second && same)
recovered_at M m id terminal second same = no_row kind.Recovd

-- in each state: only the recovery of that bearer waits for it (this product's own)
abbrev pub recovered : Node → ℕ → MasterProc → Option Command → Result MasterActs ProcFault
recovered from id m None = no_row kind.Recovd
recovered from id m (Some (asked c first who wanted)) = no_row kind.Recovd
recovered from id m (Some (gone plan going)) = no_row kind.Recovd
recovered from id m (Some (recovering i terminal second)) = recovered_at from m i terminal second (i == id)

-- ---- moves

-- the bearer moves, and this node has not adopted it (part of the rule moved)
abbrev pub is_moving : ℕ → Node → ℕ × Node → Bool
is_moving id x y = (y.0 == id) && is_same_node x y.1

-- the node adopted the bearer, which moves no longer (part of the rule moved)
abbrev pub adopted_if : RecKind → MasterProc → ℕ → Node → Plan → Going → Bool → Result MasterActs ProcFault
adopted_if k m id x p w true = Ok (waits_for m (gone p (record w { moving = filter (λ y. not (is_moving id x y)) w.moving })))
adopted_if k m id x p w false = no_row k

-- a secondary node says so (this product's own)
abbrev pub moved : Node → ℕ → ℕ → MasterProc → Option Command → Result MasterActs ProcFault
moved from g id m None = no_row kind.Moved
moved from g id m (Some (asked c first who wanted)) = no_row kind.Moved
moved from g id m (Some (gone p w)) = adopted_if kind.Moved m id from p w ((p.g == g) && list_any (is_moving id from) w.moving)
moved from g id m (Some (recovering i terminal second)) = no_row kind.Moved

-- the status transfer is for the master's own anchor, or is passed on to the new anchor at the other secondary node
-- (part of the rule transferred)
abbrev pub passed_to : MasterProc → StatusTransfer → Node → Option (ℕ × Node) → Result MasterActs ProcFault
passed_to m s from None = no_row kind.Snst
passed_to m s from (Some (id, M)) = Ok (m, pass s ∷ [])
passed_to m s from (Some (id, A)) = if is_same_node from A then no_row kind.Snst else Ok (m, send A (rec.Snst s) ∷ [])
passed_to m s from (Some (id, B)) = if is_same_node from B then no_row kind.Snst else Ok (m, send B (rec.Snst s) ∷ [])
passed_to m s from (Some (id, T)) = no_row kind.Snst

-- a status transfer comes from the old anchor of a bearer that moves (TS 38.423, 8.2.2)
abbrev pub transferred : Node → StatusTransfer → MasterProc → Option Command → Result MasterActs ProcFault
transferred from s m None = no_row kind.Snst
transferred from s m (Some (asked c first who wanted)) = no_row kind.Snst
transferred from s m (Some (gone p w)) = passed_to m s from (if p.g == s.g then find (λ (x : ℕ × Node). x.0 == s.id) w.moving else None)
transferred from s m (Some (recovering i terminal second)) = no_row kind.Snst

-- ---- what a secondary node asks for

-- why the master refuses a new K_SN or a change, where it does
-- (TS 38.423, 8.3.4 and 8.3.5; when it refuses is this product's own)
abbrev pub asking_refusal : Node → MasterProc → Option Word
asking_refusal from m =
    if not (is_at from m.table.sec) then Some word.NoSecondary
    else if is_some m.command then Some word.Busy
    else if is_counter_spent m.table then Some word.CounterSpent
    else None

-- it is refused by a record, or the command begins (TS 38.423, 8.3.4 and 8.3.5)
abbrev pub begins_asked : MasterProc → Node → Want → Event → (Word → Rec) → Option Word → MasterActs
begins_asked m from what e refuse (Some why) = (m, send from (refuse why) ∷ [])
begins_asked m from what e refuse None = before_acts (say (note.Begin what) ∷ []) (begins_if m true (draft m.table e))

-- a request from a secondary node; its release is never refused (TS 38.423, 8.3.4, 8.3.5 and 8.3.7)
abbrev pub wanted_by : Node → Want → MasterProc → MasterActs
wanted_by from want.Rekey m = begins_asked m from want.Rekey event.RekeySecond (λ w. rec.Modref w) (asking_refusal from m)
wanted_by from want.Change m = begins_asked m from want.Change event.Change (λ w. rec.Chgref w) (asking_refusal from m)
wanted_by from want.Release m = tries from (with_waits true from m)
