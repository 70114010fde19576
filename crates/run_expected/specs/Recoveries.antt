-- Where the recovery of a bearer stands between the master and the secondary node that has its anchor.
use Rattle.std.specs.List.{list_any}
use Rattle.std.specs.Prelude.{Bool, List, Some, true, ℕ, ◌≡◌, ◌⊎◌}
use Rattle.dc_base.specs.declared.nodes.Node.{Node}
use Rattle.dc_base.specs.declared.nodes.Node.TheVariants.{M}
use Rattle.dc_base.specs.declared.records.Rec.{Rec}
use Rattle.node_rules.specs.MasterState.{MasterProc}
use Rattle.node_rules.specs.SecondRecords.{second_take}
use Rattle.node_rules.specs.World.{World}
use Rattle.node_rules.specs.declared.commands.Command.TheVariants.{Recovering as recovering}
use Rattle.run_control.specs.Claims.{FirstIs, second_at}
use Rattle.run_control.specs.Links.{records_on}
use Rattle.run_control.specs.Rows.{IsTaken}
use Rattle.run_control.specs.SecondControl.{fits}
use Rattle.run_control.specs.Views.{second_view}
use Rattle.run_agreed.specs.Stalls.{is_recov, is_recovd}

-- the secondary node takes the record that comes first from the master: it has its row, and fits the anchors
abbrev pub TakesFirst : World → Node → Type 0
TakesFirst w x = FirstIs (λ r. IsTaken (second_take (second_at x w).proc r) × (fits x (second_view (second_at x w)) r ≡ true)) (records_on M x w)

-- while the open recovery waits for the node, the order to recover is among the records to it, or the news among those from it
abbrev pub RecoveryIsIn : Node → MasterProc → List Rec → List Rec → Type 0
RecoveryIsIn x m down up = (id : ℕ) (terminal : Bool) → m.command ≡ Some (recovering id terminal (Some x)) → (list_any (is_recov id) down ≡ true) ⊎ (list_any (is_recovd id) up ≡ true)
