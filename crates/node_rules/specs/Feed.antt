-- The anchor of a bearer at a secondary, with the line that brings the SDUs from the core (TS 37.340, 8.2; that it may be
-- frozen while SDUs still come, and the generation of each, are this product's own).
use Rattle.std.specs.Prelude.{ℕ, ◌==◌, ◌&&◌, nat_le, nat_lt, if◌then◌else◌, Bool, false, List, [], Option, Some, None}
use Rattle.dc_base.specs.declared.nodes.Node.{Node}
use Rattle.node_rules.specs.declared.bearers.AnchorOut.{AnchorOut}
use Rattle.node_rules.specs.Anchor.{Active, AnchorState, active_anchor, silent, waiting_anchor}
use Rattle.node_rules.specs.AnchorSending.{submit}
use Rattle.node_rules.specs.Choices.{Choices, Send}
use Rattle.node_rules.specs.Freezing.{FreezeOut, Tunnel, forward_end, forward_fresh, freeze}

-- an anchor that takes SDUs from the core (this product's own)
pub record Fed : Type 0 where
  pub since : ℕ  -- the generation in which the node became the bearer's anchor: an SDU of an older one is not of this bearer
  pub ended : Option ℕ  -- the change for which the line said already that no more SDUs come
  pub anchor : AnchorState

-- what is left of an anchor that was frozen before the line ended (TS 37.340, 10; the form is this product's own)
pub record Frozen : Type 0 where
  pub since : ℕ
  pub tunnel : Tunnel

-- an SDU comes from the core, with the generation of its path (TS 37.340, 8; the generation of each SDU is this product's own)
abbrev pub sdu_in : Choices → Fed → ℕ → List ℕ → Fed × AnchorOut
sdu_in c f g sdu =
    if nat_lt g f.since then (f, silent)
    else (let done = submit c f.anchor sdu in (record f { anchor = done.0 }, done.1))

-- the line ends for a change, of which an active anchor has not heard yet (this product's own)
abbrev pub end_in : Fed → ℕ → AnchorState → Fed
end_in f g (active_anchor a) = record f { ended = Some g }
end_in f g (waiting_anchor w) = f

-- whether the line ended for this change (part of the rule freeze_fed)
abbrev pub has_ended : Option ℕ → ℕ → Bool
has_ended None g = false
has_ended (Some h) g = h == g

-- the anchor is frozen for a change to this node (TS 37.340, 10; TS 38.423, 8.2.2)
abbrev pub freeze_fed : Fed → Active → Node → ℕ → FreezeOut
freeze_fed f a target g = freeze a target g (has_ended f.ended g)

-- what is left of it (part of the rule freeze_fed)
abbrev pub frozen_of : ℕ → Option Tunnel → Option Frozen
frozen_of since None = None
frozen_of since (Some tunnel) = Some (record { since = since; tunnel = tunnel })

-- an SDU comes from the core at a frozen anchor: one of this bearer that was sent before the change is forwarded
-- (TS 37.340, 10)
abbrev pub frozen_sdu_in : Frozen → ℕ → List ℕ → Frozen × List Send
frozen_sdu_in f g sdu =
    if nat_le f.since g && nat_lt g f.tunnel.g then (let done = forward_fresh f.tunnel sdu in (record f { tunnel = done.0 }, done.1))
    else (f, [])

-- the line ends: if it is for this change, the tunnel is closed and nothing is left (TS 29.281, 7.3.2)
abbrev pub frozen_end_in : Frozen → ℕ → Option Frozen × List Send
frozen_end_in f g = if f.tunnel.g == g then (None, forward_end f.tunnel) else (Some f, [])
