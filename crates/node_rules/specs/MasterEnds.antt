-- The end of a command, and the releases that waited for it.
use Rattle.std.specs.Prelude.{Bool, List, None, Option, Some, [], false, true, ℕ, ◌++◌, ◌∷◌}
use Rattle.dc_base.specs.declared.events.Event.TheVariants as event
use Rattle.dc_base.specs.declared.events.Note.{Note}
use Rattle.dc_base.specs.declared.events.Note.TheVariants as note
use Rattle.dc_base.specs.declared.nodes.Node.{Node}
use Rattle.dc_base.specs.declared.nodes.Node.TheVariants.{A, B, M, T}
use Rattle.dc_base.specs.declared.records.Plan.{Plan}
use Rattle.dc_base.specs.declared.records.Rec.{Rec}
use Rattle.dc_base.specs.declared.records.Rec.TheVariants as rec
use Rattle.node_rules.specs.declared.acts.Act.{Act}
use Rattle.node_rules.specs.declared.acts.Act.TheVariants.{Say as say, Send as send}
use Rattle.node_rules.specs.CommandTable.{Table, is_spent_by}
use Rattle.node_rules.specs.Drafts.{Draft, draft}
use Rattle.node_rules.specs.MasterGo.{before_acts, lets_go}
use Rattle.node_rules.specs.declared.commands.Command.{Command}
use Rattle.node_rules.specs.declared.commands.Going.{Going}
use Rattle.node_rules.specs.declared.commands.Command.TheVariants.{Asked as asked, Gone as gone, Recovering as recovering}
use Rattle.node_rules.specs.MasterState.{MasterActs, MasterProc, waits_at, with_waits}
use Rattle.node_rules.specs.Places.{is_at, other_second}

-- the answer to a node that asked for its release and is not the secondary node any more
-- (TS 38.423, 8.3.7; this answer is this product's own)
abbrev pub nothing_to_release : Rec
nothing_to_release = rec.Relcnf (record { g = 0; sec = None; items = [] })

-- the plan of a release would set a key that another establishment used for that identity (TS 38.331, 5.3.5.6.5)
abbrev pub is_release_spent : Table → Option Draft → Bool
is_release_spent t None = false
is_release_spent t (Some d) = is_spent_by t d.change.plan

-- a release that the secondary node asked for is begun, unless an identity would be spent
-- (TS 37.340, 10.4; TS 38.423, 8.3.7; that it waits is this product's own)
abbrev pub releases_if : MasterProc → Node → Bool → Option Draft → MasterActs
releases_if m x spent None = (m, [])
releases_if m x true (Some d) = (m, [])
releases_if m x false (Some d) = lets_go (with_waits false x m) x d

-- where no command is open, the release that a node asked for is tried (TS 38.423, 8.3.7; that it waits is this product's own)
abbrev pub tries_now : MasterProc → Node → Bool → MasterActs
tries_now m x true = let d = draft m.table event.Release in releases_if m x (is_release_spent m.table d) d
tries_now m x false = (with_waits false x m, send x nothing_to_release ∷ [])

-- the release that a node asked for is tried, if it waits and no command is open (part of the rule tries)
abbrev pub tries_if : MasterProc → Node → Bool → Option Command → MasterActs
tries_if m x false c = (m, [])
tries_if m x true None = tries_now m x (is_at x m.table.sec)
tries_if m x true (Some (asked c first who wanted)) = (m, [])
tries_if m x true (Some (gone plan going)) = (m, [])
tries_if m x true (Some (recovering id terminal second)) = (m, [])

-- the release that this node asked for is tried (TS 38.423, 8.3.7; that it waits is this product's own)
abbrev pub tries : Node → MasterProc → MasterActs
tries x m = tries_if m x (waits_at m x) m.command

-- one step after another (part of the rule retries)
abbrev pub and_then : MasterActs → (MasterProc → MasterActs) → MasterActs
and_then r f = before_acts r.1 (f r.0)

-- the node whose request is tried first: one that is not the secondary node, and a before b (part of the rule retries)
abbrev pub tried_first : Option Node → Node
tried_first None = A
tried_first (Some A) = B
tried_first (Some B) = A
tried_first (Some M) = A
tried_first (Some T) = A

-- what waits is tried (this product's own)
abbrev pub retries : MasterProc → MasterActs
retries m = let x = tried_first m.table.sec in and_then (tries x m) (tries (other_second x))

-- the context at the secondary node that leaves ends (TS 38.423, 8.2.7)
abbrev pub forgetting : Option Node → ℕ → List Act
forgetting None g = []
forgetting (Some x) g = send x (rec.Uecr g) ∷ []

-- a command ends with this line (this product's own)
abbrev pub ends : MasterProc → List Act → Note → MasterActs
ends m acts how = before_acts (acts ++ say how ∷ []) (retries (record m { command = None }))

-- a carried-out command is done once the terminal has answered and every moved bearer is adopted
-- (TS 37.340, 10.2 to 10.5; what is awaited is this product's own)
abbrev pub ends_gone : MasterProc → Plan → Going → Bool → List (ℕ × Node) → MasterActs
ends_gone m p w false moving = (m, [])
ends_gone m p w true (x ∷ xs) = (m, [])
ends_gone m p w true [] = ends m (forgetting w.leaving p.g) note.Done

-- a recovery is done once all have said so (this product's own)
abbrev pub ends_recovering : MasterProc → Bool → Option Node → MasterActs
ends_recovering m false None = ends m [] note.Done
ends_recovering m false (Some x) = (m, [])
ends_recovering m true second = (m, [])

-- the open command ends, if nothing is awaited any more (part of the rule waits_for)
abbrev pub ends_if : MasterProc → Option Command → MasterActs
ends_if m None = (m, [])
ends_if m (Some (asked c first who wanted)) = (m, [])
ends_if m (Some (gone plan going)) = ends_gone m plan going going.complete going.moving
ends_if m (Some (recovering id terminal second)) = ends_recovering m terminal second

-- the state with this open command, which ends if nothing is awaited any more (this product's own)
abbrev pub waits_for : MasterProc → Command → MasterActs
waits_for m c = ends_if (record m { command = Some c }) (Some c)
