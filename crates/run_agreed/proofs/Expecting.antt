-- In each run in which all agree, and the bearers are where the records presuppose them, nothing comes unexpected.
use Rattle.std.proofs.Common.{◌≡◌, List, [], true, refl, sym, subst}
use Rattle.dc_base.specs.Nodes.{is_secondary}
use Rattle.dc_base.specs.declared.events.Event.{Event}
use Rattle.dc_base.specs.declared.events.Header.{Header}
use Rattle.dc_base.specs.declared.nodes.Node.{Node}
use Rattle.dc_base.specs.declared.nodes.Node.TheVariants.{A, B, M, T}
use Rattle.node_rules.specs.Choices.{Choices}
use Rattle.node_rules.specs.MasterTaking.{master_take}
use Rattle.node_rules.specs.Run.{world_after}
use Rattle.node_rules.specs.World.{new_world}
use Rattle.run_control.specs.Claims.{FirstIs, IsExpected}
use Rattle.run_control.specs.Links.{records_on}
use Rattle.run_control.specs.Rows.{IsTaken}
use Rattle.run_control.specs.Sound.{AreSound}
use Rattle.run_control.proofs.BookRuns.{taken_always}
use Rattle.run_control.proofs.Heard.{heard_always}
use Rattle.run_agreed.specs.Expected.{AgreesAlways, BearersFitThere, UnderWay}
use Rattle.run_agreed.proofs.Awaited.{awaited_always}
use Rattle.run_agreed.proofs.Expected.{from_second_expected, second_expected}

-- in each state, if the bearers at each secondary node are as the first record there presupposes, what of recoveries and of moves comes
-- first from it is under way, and the master sends itself nothing
pub expected_always : (c : Choices) (h : Header) → AgreesAlways c h → (es : List Event) → AreSound es → (let w = world_after c (new_world h) es in
    ((x : Node) → is_secondary x ≡ true → BearersFitThere w x) → ((x : Node) → is_secondary x ≡ true → UnderWay w x) → records_on M M w ≡ [] → IsExpected w)
expected_always c h agreement es sound there moves none = record {
  at_second = λ x second. second_expected (world_after c (new_world h) es) x (agreement es sound x second) (there x second);
  at_master = of_node;
  at_terminal = taken_always c h es sound;
}
  where
    of_second : (x : Node) → is_secondary x ≡ true → (let w = world_after c (new_world h) es in FirstIs (λ r. IsTaken (master_take x w.master.proc r)) (records_on x M w))
    of_second x second = from_second_expected (world_after c (new_world h) es) x second (awaited_always c h agreement es sound x second) (moves x second)

    of_node : (x : Node) → (let w = world_after c (new_world h) es in FirstIs (λ r. IsTaken (master_take x w.master.proc r)) (records_on x M w))
    of_node T = heard_always c h es sound
    of_node A = of_second A refl
    of_node B = of_second B refl
    of_node M = subst (λ rs. FirstIs (λ r. IsTaken (master_take M (world_after c (new_world h) es).master.proc r)) rs) (sym none) tt
