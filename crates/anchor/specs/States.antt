-- What is seen of an anchor.
use Rattle.std.specs.Prelude.{ℕ, Bool, true, false, None, Option, Some, [], option_map}
use Rattle.dc_base.specs.declared.nodes.Alg.TheVariants.{Nea0}
use Rattle.dc_base.specs.declared.nodes.Node.{Node}
use Rattle.dc_base.specs.declared.nodes.Node.TheVariants.{M}
use Rattle.dc_base.specs.declared.numbers.SnLen.TheVariants.{S12}
use Rattle.node_rules.specs.Anchor.{Active, AnchorState, active_anchor, renew, waiting, waiting_anchor}
use Rattle.node_rules.specs.Freezing.{FreezeOut, freeze}
use Rattle.node_rules.specs.Places.{mm}
use Rattle.node_rules.specs.Setup.{Setup, new_legs}
use Rattle.anchor.specs.declared.anchor.State.{State}
use Rattle.anchor.specs.declared.anchor.State.TheVariants.{Waiting, Active as Open, Spent}

-- an anchor that lost what it had for want of memory, and is not used again: nothing is said of it
abbrev pub spent : AnchorState
spent = waiting (record { node = M; sec = None; g = 0; id = 1; n = S12; first = 0; alg = Nea0; key = []; legs = new_legs mm 0 0 })

-- an anchor by its state
abbrev pub anchor_state : State → AnchorState
anchor_state (Waiting w) = waiting_anchor w
anchor_state (Open a) = active_anchor a
anchor_state Spent = spent

-- whether the anchor waits
abbrev pub is_waiting : AnchorState → Bool
is_waiting (waiting_anchor w) = true
is_waiting (active_anchor a) = false

-- an active anchor in a new generation, and whether it is one; a waiting one stays as it is
abbrev pub renewal : AnchorState → Setup → AnchorState × Bool
renewal (waiting_anchor w) s = (waiting_anchor w, false)
renewal (active_anchor a) s = (active_anchor (renew a s), true)

-- what an active anchor gives that is frozen; None of a waiting one
abbrev pub frozen_at : AnchorState → Node → ℕ → Bool → Option FreezeOut
frozen_at (waiting_anchor w) target g last = None
frozen_at (active_anchor a) target g last = Some (freeze a target g last)
