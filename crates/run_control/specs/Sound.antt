-- The nodes that the master's procedures speak of and to are secondary nodes, or the terminal.
use Rattle.std.specs.List.{AllByRecursion}
use Rattle.std.specs.Prelude.{Err, List, None, Ok, Option, Result, Some, true, ⊤, ◌≡◌}
use Rattle.dc_base.specs.Nodes.{is_secondary}
use Rattle.dc_base.specs.declared.events.Event.{Event}
use Rattle.dc_base.specs.declared.events.Event.TheVariants as event
use Rattle.dc_base.specs.declared.nodes.Node.{Node}
use Rattle.dc_base.specs.declared.nodes.Node.TheVariants.{A, B, M, T}
use Rattle.node_rules.specs.Acts.{ProcFault}
use Rattle.node_rules.specs.Drafts.{Draft}
use Rattle.node_rules.specs.MasterState.{MasterActs, MasterProc}
use Rattle.node_rules.specs.declared.acts.Act.{Act}
use Rattle.node_rules.specs.declared.acts.Act.TheVariants.{FailOne as fail_one, Go as go, Pass as pass, Prepare as prepare, RecoverOne as recover_one, Say as say, Send as send, UnlockAll as unlock_all}
use Rattle.node_rules.specs.declared.commands.Command.{Command}
use Rattle.node_rules.specs.declared.commands.Command.TheVariants.{Asked as asked, Gone as gone, Recovering as recovering}
use Rattle.node_rules.specs.declared.commands.First.{First}

-- ---- scripts

-- only a secondary node is added
abbrev pub AddsSecond : Event → Type 0
AddsSecond (event.Add node) = is_secondary node ≡ true
AddsSecond _ = ⊤

-- by each event of a script
abbrev pub AreSound : List Event → Type 0
AreSound es = AllByRecursion AddsSecond es

-- ---- the procedures

-- a secondary node, if there is one
abbrev pub IsSecond : Option Node → Type 0
IsSecond None = ⊤
IsSecond (Some x) = is_secondary x ≡ true

-- the open command
abbrev pub IsSoundCommand : Option Command → Type 0
IsSoundCommand None = ⊤
IsSoundCommand (Some (asked c first who wanted)) = IsSecond c.plan.sec × (is_secondary who ≡ true)
IsSoundCommand (Some (gone plan going)) = IsSecond plan.sec × IsSecond going.due × IsSecond going.leaving
IsSoundCommand (Some (recovering id terminal second)) = IsSecond second

-- the state
pub record IsSound (m : MasterProc) : Type 0 where
  pub sec : IsSecond m.table.sec
  pub command : IsSoundCommand m.command

-- ---- what they have the master do

-- a record goes to another node
abbrev pub IsSentOut : Node → Type 0
IsSentOut T = ⊤
IsSentOut A = ⊤
IsSentOut B = ⊤
IsSentOut M = ⊥

-- what an act sends is for a secondary node or the terminal, and its plan names no other secondary node
abbrev pub IsSoundAct : Act → Type 0
IsSoundAct (send to r) = IsSentOut to
IsSoundAct (prepare p) = IsSecond p.sec
IsSoundAct (go p) = IsSecond p.sec
IsSoundAct (unlock_all g) = ⊤
IsSoundAct (say n) = ⊤
IsSoundAct (recover_one id) = ⊤
IsSoundAct (fail_one id g) = ⊤
IsSoundAct (pass status) = ⊤

-- a state with acts
pub record AreSoundActs (r : MasterActs) : Type 0 where
  pub state : IsSound r.0
  pub acts : AllByRecursion IsSoundAct r.1

-- what is taken is sound
abbrev pub TakesSound : Result MasterActs ProcFault → Type 0
TakesSound (Ok r) = AreSoundActs r
TakesSound (Err why) = ⊤

-- ---- drafts

-- the first record goes to a secondary node
abbrev pub IsSoundFirst : Option (First × Node) → Type 0
IsSoundFirst None = ⊤
IsSoundFirst (Some (first, who)) = is_secondary who ≡ true

-- a plan that is drawn names no other secondary node, nor does the node that is asked first
abbrev pub IsSoundDraft : Option Draft → Type 0
IsSoundDraft None = ⊤
IsSoundDraft (Some d) = IsSecond d.change.plan.sec × IsSoundFirst d.first
