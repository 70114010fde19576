-- Where a bearer is: which nodes have an anchor of it, active or waiting.
use Rattle.std.specs.List.{list_any}
use Rattle.std.specs.Prelude.{None, Option, Some, false, true, ℕ, ◌≡◌}
use Rattle.dc_base.specs.Nodes.{is_same_node}
use Rattle.dc_base.specs.declared.nodes.Node.{Node}
use Rattle.node_rules.specs.MasterGo.{moving_by}
use Rattle.node_rules.specs.MasterRecords.{is_moving}
use Rattle.node_rules.specs.World.{World}
use Rattle.node_rules.specs.declared.commands.Command.{Command}
use Rattle.node_rules.specs.declared.commands.Command.TheVariants.{Asked as asked, Gone as gone, Recovering as recovering}
use Rattle.run_control.specs.SecondControl.{is_holding}
use Rattle.run_control.specs.Views.{View}
use Rattle.run_places.specs.Tokens.{anchors_at}

-- the open command, asked or carried out, moves the bearer to this node in this generation
abbrev pub MovesBy : ℕ → Node → ℕ → Option Command → Type 0
MovesBy id y g None = ⊥
MovesBy id y g (Some (asked c first who wanted)) = (g ≡ c.plan.g) × (list_any (is_moving id y) (moving_by c.plan) ≡ true)
MovesBy id y g (Some (gone p going)) = (g ≡ p.g) × (list_any (is_moving id y) going.moving ≡ true)
MovesBy id y g (Some (recovering i terminal second)) = ⊥

-- the node has an active anchor of the bearer
pub record IsActiveAt (w : World) (id : ℕ) (x : Node) : Type 0 where
  pub view : View
  pub there : anchors_at x w id ≡ Some view
  pub active : is_holding view.stage ≡ true

-- the node has an anchor that waits for the bearer, in the generation of the open command, which moves it there
pub record IsWaitingAt (w : World) (id : ℕ) (y : Node) : Type 0 where
  pub view : View
  pub there : anchors_at y w id ≡ Some view
  pub waits : is_holding view.stage ≡ false
  pub moves : MovesBy id y view.bearer.g w.master.proc.command

-- no other node than these two has an anchor of it
abbrev pub NoneBut : World → ℕ → Node → Node → Type 0
NoneBut w id x y = (z : Node) → is_same_node x z ≡ false → is_same_node y z ≡ false → anchors_at z w id ≡ None

-- no node has an anchor of the bearer; or one alone has, and it is active; or it is active at one, and another waits for it; or one
-- waits for it, and no other has an anchor: the bearer is on its way there (TS 37.340, 10.2 to 10.5)
pub data IsPlaced (w : World) (id : ℕ) : Type 0 where
  nowhere : (none : (z : Node) → anchors_at z w id ≡ None) → IsPlaced w id
  at_node : (x : Node) → (active : IsActiveAt w id x) → (alone : NoneBut w id x x) → IsPlaced w id
  about_to_move : (x y : Node) → (apart : is_same_node x y ≡ false) → (active : IsActiveAt w id x) → (waiting : IsWaitingAt w id y) → (alone : NoneBut w id x y) → IsPlaced w id
  on_its_way : (y : Node) → (waiting : IsWaitingAt w id y) → (alone : NoneBut w id y y) → IsPlaced w id
