-- In each state of each run what a secondary node asked for is asked on its link, answered on the other, open at the master, or a
-- release that waits there.
use Rattle.std.proofs.Common.{◌≡◌, ◌&&◌, Bool, true, false, List, [], ◌∷◌, Option, Some, None, refl}
use Rattle.std.specs.Prelude.{not}
use Rattle.dc_base.specs.Nodes.{is_secondary}
use Rattle.dc_base.specs.declared.events.Event.{Event}
use Rattle.dc_base.specs.declared.events.Header.{Header}
use Rattle.dc_base.specs.declared.nodes.Node.{Node}
use Rattle.dc_base.specs.declared.nodes.Want.{Want}
use Rattle.dc_base.specs.declared.nodes.Want.TheVariants as want
use Rattle.node_rules.specs.Choices.{Choices}
use Rattle.node_rules.specs.Places.{is_at}
use Rattle.node_rules.specs.Run.{world_after}
use Rattle.node_rules.specs.World.{World, new_world}
use Rattle.node_rules.specs.declared.commands.Command.{Command}
use Rattle.node_rules.specs.declared.commands.Command.TheVariants.{Asked as asked, Gone as gone, Recovering as recovering}
use Rattle.node_rules.specs.declared.commands.First.{First}
use Rattle.run_control.specs.Sound.{AreSound}
use Rattle.run_agreed.specs.Stalls as stalls
use Rattle.run_pairs.specs.Pairs.{begun_as, begun_asked, begun_for}
use Rattle.run_pairs.specs.Standing as standing
use Rattle.run_pairs.proofs.Outcomes.{wants_always}

-- ---- the open command

begun_is : (k a : Want) (b : Bool) → begun_as k b ≡ a ∷ [] → b ≡ true
begun_is k a true is = refl
begun_is k a false is = absurd cc

both_first : (b d : Bool) → (b && d) ≡ true → b ≡ true
both_first true d is = refl
both_first false d is = absurd cc

asked_for_second : (x : Node) (first : First) (who : Node) (wanted : Bool) (a : Want) → begun_asked x first who wanted ≡ a ∷ [] → wanted ≡ true
asked_for_second x first who true a is = refl
asked_for_second x first who false a is = absurd cc

-- the command that was begun for what a node asked for is for a secondary node
for_second : (x : Node) (o : Option Command) (a : Want) → begun_for x o ≡ a ∷ [] → stalls.IsForSecond o
for_second x None a is = absurd cc
for_second x (Some (asked c first who wanted)) a is = asked_for_second x first who wanted a is
for_second x (Some (gone plan going)) a is =
    both_first going.confirms (not going.complete) (both_first (going.confirms && not going.complete) (is_at x going.due) (begun_is want.Rekey a ((going.confirms && not going.complete) && is_at x going.due) is))
for_second x (Some (recovering id terminal second)) a is = absurd cc

-- ---- a want

stands_so : (w : World) (x : Node) (a : Want) → standing.WantStands w x a → stalls.WantStands w x a
stands_so w x a (standing.is_sent there) = stalls.is_sent there
stands_so w x a (standing.is_answered there) = stalls.is_answered there
stands_so w x a (standing.is_begun there) = stalls.is_open (for_second x w.master.proc.command a there)
stands_so w x a (standing.is_waiting needs waiting) = stalls.is_waiting needs waiting

-- in each state of each run what a secondary node asked for stands somewhere
pub wants_stand_always : (c : Choices) (h : Header) (es : List Event) → AreSound es → (x : Node) → is_secondary x ≡ true → stalls.WantsStand (world_after c (new_world h) es) x
wants_stand_always c h es sound x second a asks = stands_so (world_after c (new_world h) es) x a (wants_always c h es sound x second a asks)
