use Rattle.std.proofs.Common.{◌≡◌, ℕ, Bool, Result, Ok, Err, Some, IfOk, Option, ap, sym, refl, ◌∙◌}
use Rattle.dc_base.specs.declared.nodes.Node.{Node}
use Rattle.node_rules.specs.Anchor.{Active, AnchorState, active_anchor}
use Rattle.node_rules.specs.Freezing.{FreezeOut as Given, freeze}
use Rattle.anchor.specs.Frozen.{given}
use Rattle.anchor.specs.States.{anchor_state, frozen_at}
use Rattle.anchor.specs.declared.anchor.State.{State}
use Rattle.anchor.specs.declared.freezing.FreezeOut.{FreezeOut}
use Rattle.anchor.proofs.anchor.Anchor.freeze.Goals as goal

if_given : {E : Type 0} (r : Result FreezeOut E) (s : AnchorState) (a : Active) (target : Node) (g : ℕ) (last : Bool) → active_anchor a ≡ s
    → IfOk r (λ out. given out ≡ freeze a target g last) → IfOk r (λ out. ◌≡◌ {A = Option Given} (Some (given out)) (frozen_at s target g last))
if_given (Ok out) s a target g last is h =
    ap {B = Option Given} (λ (x : Given). Some x) h ∙ ap {B = Option Given} (λ (x : AnchorState). frozen_at x target g last) is
if_given (Err e) s a target g last is h = tt

pub returns-in-Active : goal.returns-in-Active
returns-in-Active c =
    if_given c.freeze.result c.args.self c.in-Active.active c.args.target c.args.g c.args.last
    (ap (λ (x : State). anchor_state x) (sym c.in-Active.is) ∙ c.self.view_is) (c.freeze.ensures c.in-Active.active (sym c.into_entity.ensures))
