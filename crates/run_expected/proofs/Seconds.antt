-- In each state of each run a secondary node takes what comes first to it, and what it sends the master is awaited.
use Rattle.std.proofs.Common.{◌≡◌, true, List, [], ◌∷◌}
use Rattle.dc_base.specs.Nodes.{is_secondary}
use Rattle.dc_base.specs.declared.events.Event.{Event}
use Rattle.dc_base.specs.declared.events.Header.{Header}
use Rattle.dc_base.specs.declared.nodes.Node.{Node}
use Rattle.dc_base.specs.declared.nodes.Node.TheVariants.{M}
use Rattle.dc_base.specs.declared.records.Rec.{Rec}
use Rattle.node_rules.specs.Choices.{Choices}
use Rattle.node_rules.specs.Run.{world_after}
use Rattle.node_rules.specs.SecondRecords.{second_take}
use Rattle.node_rules.specs.World.{new_world}
use Rattle.run_control.specs.Claims.{FirstIs, second_at}
use Rattle.run_control.specs.Links.{records_on}
use Rattle.run_control.specs.Rows.{IsTaken}
use Rattle.run_control.specs.SecondControl.{fits}
use Rattle.run_control.specs.Sound.{AreSound}
use Rattle.run_control.specs.Views.{second_view}
use Rattle.run_agreed.specs.Expected.{AwaitedAlone}
use Rattle.run_agreed.proofs.Awaited.{awaited_always}
use Rattle.run_agreed.proofs.Expected.{row_expected}
use Rattle.run_pairs.proofs.Agreement.{agrees_always}
use Rattle.run_pairs.proofs.Runs.{fits_last}
use Rattle.run_expected.specs.Recoveries.{TakesFirst}

first_both : (P Q : Rec → Type 0) (rs : List Rec) → FirstIs P rs → FirstIs Q rs → FirstIs (λ r. P r × Q r) rs
first_both P Q [] p q = tt
first_both P Q (r ∷ rs) p q = (p, q)

-- in each state of each run the first record on the link from the master has its row at the secondary node, and fits its anchors
pub second_always : (c : Choices) (h : Header) (es : List Event) → AreSound es → (x : Node) → is_secondary x ≡ true → TakesFirst (world_after c (new_world h) es) x
second_always c h es sound x second =
    let w = world_after c (new_world h) es in
    first_both (λ r. IsTaken (second_take (second_at x w).proc r)) (λ r. fits x (second_view (second_at x w)) r ≡ true) (records_on M x w) (row_expected w x (agrees_always c h es sound x second)) (fits_last c h es sound x second)

-- in each state of each run each record on the link to the master is awaited there
pub awaited : (c : Choices) (h : Header) (es : List Event) → AreSound es → (x : Node) → is_secondary x ≡ true → AwaitedAlone (world_after c (new_world h) es) x
awaited c h es sound x second = awaited_always c h (agrees_always c h) es sound x second
