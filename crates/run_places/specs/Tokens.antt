-- How often the entity of a bearer is held, or on its way: by the anchors, and by the status transfers between them.
use Rattle.std.specs.Prelude.{List, None, Option, Some, [], if◌then◌else◌, ℕ, ◌+◌, ◌==◌, ◌∷◌}
use Rattle.dc_base.specs.declared.nodes.Node.{Node}
use Rattle.dc_base.specs.declared.nodes.Node.TheVariants.{A, B, M, T}
use Rattle.dc_base.specs.declared.records.Rec.{Rec}
use Rattle.dc_base.specs.declared.records.Rec.TheVariants as rec
use Rattle.node_rules.specs.World.{World}
use Rattle.run_control.specs.Links.{records_on}
use Rattle.run_control.specs.SecondControl.{Views}
use Rattle.run_control.specs.Views.{Stage, View, has_status, holds, lacks_status, master_view, second_view}

-- what the control plane sees of the anchors of a node; the terminal has none
abbrev pub anchors_at : Node → World → Views
anchors_at M w = master_view w.master
anchors_at A w = second_view w.a
anchors_at B w = second_view w.b
anchors_at T w = λ k. None

-- an anchor has the entity, or has been told by a status transfer where it is
abbrev pub kept_at : Stage → ℕ
kept_at holds = 1
kept_at has_status = 1
kept_at lacks_status = 0

-- where there is one
abbrev pub kept_by : Option View → ℕ
kept_by None = 0
kept_by (Some v) = kept_at v.stage

-- a record is a status transfer of this bearer (TS 38.423, 8.2.2)
abbrev pub status_in : ℕ → Rec → ℕ
status_in id (rec.Snst status) = if status.id == id then 1 else 0
status_in id _ = 0

-- how many of several are
abbrev pub statuses : ℕ → List Rec → ℕ
statuses id [] = 0
statuses id (r ∷ rs) = status_in id r + statuses id rs

-- how often a bearer is held by an anchor, or between two of them
abbrev pub tokens : ℕ → World → ℕ
tokens id w =
    ((kept_by (anchors_at M w id) + kept_by (anchors_at A w id)) + kept_by (anchors_at B w id))
    + ((statuses id (records_on M A w) + statuses id (records_on A M w)) + (statuses id (records_on M B w) + statuses id (records_on B M w)))
