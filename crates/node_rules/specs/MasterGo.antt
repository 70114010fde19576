-- A command begins, and its plan is carried out (TS 37.340, 10.2 to 10.5 and 10.7).
use Rattle.std.specs.List.{list_any}
use Rattle.std.specs.Prelude.{Bool, List, None, Option, Some, [], false, flat_map, if◌then◌else◌, ℕ, ◌++◌, ◌∷◌}
use Rattle.dc_base.specs.Nodes.{is_same_node}
use Rattle.dc_base.specs.declared.events.Note.TheVariants as note
use Rattle.dc_base.specs.declared.nodes.Node.{Node}
use Rattle.dc_base.specs.declared.nodes.Node.TheVariants.{M, T}
use Rattle.dc_base.specs.declared.nodes.Want.TheVariants as want
use Rattle.dc_base.specs.declared.records.Item.{Item}
use Rattle.dc_base.specs.declared.records.Item.TheVariants as item
use Rattle.dc_base.specs.declared.records.Plan.{Plan}
use Rattle.dc_base.specs.declared.records.Rec.{Rec}
use Rattle.dc_base.specs.declared.records.Rec.TheVariants as rec
use Rattle.key_chain.specs.KeyNames.{octets}
use Rattle.transcript.specs.Bearers.{roots}
use Rattle.node_rules.specs.declared.acts.Act.{Act}
use Rattle.node_rules.specs.declared.acts.Act.TheVariants.{Go as go, Prepare as prepare, Say as say, Send as send}
use Rattle.node_rules.specs.declared.commands.Change.{Change}
use Rattle.node_rules.specs.CommandTable.{carried, master_key_of}
use Rattle.node_rules.specs.declared.commands.First.{First}
use Rattle.node_rules.specs.declared.commands.First.TheVariants.{Addition as addition, Modification as modification, Release as release}
use Rattle.node_rules.specs.Drafts.{Draft}
use Rattle.node_rules.specs.declared.commands.Command.TheVariants.{Asked as asked, Gone as gone}
use Rattle.node_rules.specs.MasterState.{MasterActs, MasterProc}
use Rattle.node_rules.specs.Places.{anchor_at}
use Rattle.node_rules.specs.declared.commands.Way.{Way}
use Rattle.node_rules.specs.declared.commands.Leaving.{Leaving}
use Rattle.node_rules.specs.declared.commands.Leaving.TheVariants.{ByRequest as by_request, ByChangeConfirm as by_change_confirm, ByReleaseConfirm as by_release_confirm}

-- a bearer of the plan that moves to another node, with its new anchor (part of the rule moving_by)
abbrev pub moving_of : Option Node → Item → List (ℕ × Node)
moving_of sec (item.Set id n first shape threshold policy key None) = []
moving_of sec (item.Set id n first shape threshold policy key (Some old)) =
    let new = anchor_at sec shape in if is_same_node old new then [] else (id, new) ∷ []
moving_of sec (item.Unset id) = []

-- the bearers that a plan moves (TS 37.340, 10.3 to 10.5)
abbrev pub moving_by : Plan → List (ℕ × Node)
moving_by p = flat_map (moving_of p.sec) p.items

-- whether one of them moves to the master (part of the rule preparing)
abbrev pub moves_here : Plan → Bool
moves_here p = list_any (λ (x : ℕ × Node). is_same_node M x.1) (moving_by p)

-- the waiting anchors that the master makes where a command begins (TS 37.340, 10.3 and 10.4)
abbrev pub preparing : Plan → List Act
preparing p = if moves_here p then prepare p ∷ [] else []

-- of a plan that concerns the master and the terminal alone (part of the rule begins_by)
abbrev pub alone : Way
alone = record { due = None; confirms = false; leaving = None; told = None }

-- of a release that the secondary node asked for (TS 38.423, 8.3.7)
abbrev pub let_go : Node → Way
let_go x = record { due = None; confirms = false; leaving = Some x; told = Some by_release_confirm }

-- how the secondary node hears of a change away from it (TS 38.423, 8.3.5 and 8.3.6)
abbrev pub change_told : Bool → Leaving
change_told wanted = if wanted then by_change_confirm else by_request

-- of a plan that this node agreed to: with an addition the secondary node of before leaves (TS 37.340, 10.2 to 10.5)
abbrev pub way : First → Node → Bool → Option Node → Way
way addition who wanted sec = record { due = Some who; confirms = false; leaving = sec; told = Some (change_told wanted) }
way modification who wanted sec = record { due = Some who; confirms = wanted; leaving = None; told = None }
way release who wanted sec = record { due = None; confirms = false; leaving = Some who; told = None }

-- the record for the node that leaves (TS 38.423, 8.3.5 to 8.3.7)
abbrev pub leave_record : Leaving → Plan → Rec
leave_record by_request p = rec.Relreq p
leave_record by_change_confirm p = rec.Chgcnf p
leave_record by_release_confirm p = rec.Relcnf p

-- it is sent, where there is such a node (part of the rule goes)
abbrev pub leave_acts : Option Node → Option Leaving → Plan → List Act
leave_acts None told p = []
leave_acts (Some x) None p = []
leave_acts (Some x) (Some how) p = send x (leave_record how p) ∷ []

-- a change is carried out: the terminal is told first, with the octets of the root that is current then (TS 37.340, 10.2.2)
abbrev pub goes : MasterProc → Change → Way → MasterActs
goes m c w = (
  record m {
    table = carried m.table c;
    command = Some (gone c.plan (record { complete = false; due = w.due; confirms = w.confirms; leaving = w.leaving; moving = moving_by c.plan }));
  },
  send T (rec.Reconf c.plan (octets m.table.book.roots (master_key_of c.root))) ∷ go c.plan ∷ leave_acts w.leaving w.told c.plan,
)

-- the first record of a change, with the octets of the K_SN after it (TS 38.423, 8.3.1, 8.3.3 and 8.3.6)
abbrev pub first_record : List (List ℕ) → First → Change → Rec
first_record roots addition c = rec.Addreq c.plan (octets roots c.second_key)
first_record roots modification c = rec.Modreq c.plan (octets roots c.second_key)
first_record roots release c = rec.Relreq c.plan

-- the generation, the root and the SN Counter of a draft are drawn (TS 33.501, 6.10.3.1; the generation is this product's own)
abbrev pub drawn : MasterProc → Draft → MasterProc
drawn m d = record m { table = record m.table { book = d.book; last = d.change.plan.g } }

-- what acts come before others (part of the rule begins)
abbrev pub before_acts : List Act → MasterActs → MasterActs
before_acts acts r = (r.0, acts ++ r.1)

-- a draft is begun: by its first record, or at once (part of the rule begins)
abbrev pub begins_by : MasterProc → Draft → Bool → Option (First × Node) → MasterActs
begins_by m d wanted None = goes m d.change alone
begins_by m d wanted (Some (first, who)) = (
  record m { command = Some (asked d.change first who wanted) },
  send who (first_record m.table.book.roots first d.change) ∷ [],
)

-- a draft is drawn and begun, with the waiting anchors that it needs at the master (TS 37.340, 10.2 to 10.5)
abbrev pub begins : MasterProc → Draft → Bool → MasterActs
begins m d wanted = before_acts (preparing d.change.plan) (begins_by (drawn m d) d wanted d.first)

-- a command is begun; an event that draws no plan is none (part of the rule begins)
abbrev pub begins_if : MasterProc → Bool → Option Draft → MasterActs
begins_if m wanted None = (m, [])
begins_if m wanted (Some d) = begins m d wanted

-- a release that a secondary node asked for is begun at once (TS 37.340, 10.4; TS 38.423, 8.3.7)
abbrev pub lets_go : MasterProc → Node → Draft → MasterActs
lets_go m x d = before_acts (say (note.Begin want.Release) ∷ preparing d.change.plan) (goes (drawn m d) d.change (let_go x))
