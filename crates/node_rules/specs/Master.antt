-- What the master holds, and what comes of its anchors (TS 37.340, 4.2.2): besides its procedures, the anchors and leg hosts at
-- its node and the core's user plane end, which owns the downlink windows (this product's own).
use Rattle.std.specs.Prelude.{Bool, List, None, Option, Some, [], false, filter, if◌then◌else◌, map, nat_lt, not, true, ℕ, ◌==◌}
use Rattle.dc_base.specs.declared.events.Note.{Note}
use Rattle.dc_base.specs.declared.events.Note.TheVariants as note
use Rattle.dc_base.specs.declared.nodes.Alg.{Alg}
use Rattle.dc_base.specs.declared.nodes.Dir.{Dir}
use Rattle.dc_base.specs.declared.nodes.Dir.TheVariants.{Dl, Ul}
use Rattle.dc_base.specs.declared.nodes.Node.{Node}
use Rattle.dc_base.specs.declared.nodes.Node.TheVariants.{M}
use Rattle.transcript.specs.Bearers.{ups}
use Rattle.node_rules.specs.declared.bearers.AnchorOut.{AnchorOut}
use Rattle.node_rules.specs.Anchor.{AnchorState, active_anchor, setup_at, waiting_anchor}
use Rattle.node_rules.specs.declared.commands.Row.{Row}
use Rattle.node_rules.specs.declared.inputs.Effects.{Effects}
use Rattle.node_rules.specs.Effects.{after_effects, noted, quiet}
use Rattle.node_rules.specs.Held.{held, holding}
use Rattle.node_rules.specs.Host.{Host}
use Rattle.node_rules.specs.MasterState.{MasterProc, new_master_proc}
use Rattle.node_rules.specs.declared.bearers.Window.{Window}

-- the master: the ciphering algorithm, the procedures, and by identities the anchors, the leg hosts and the windows
-- (TS 37.340, 4.2.2; the form is this product's own)
pub record MasterNode : Type 0 where
  pub alg : Alg
  pub proc : MasterProc
  pub anchors : List (ℕ × AnchorState)
  pub hosts : List (ℕ × Host)
  pub windows : List (ℕ × Window)

-- the master before the first event, with so many SN Counters of the first root drawn before (this product's own)
abbrev pub new_master : Alg → ℕ → List ℕ → MasterNode
new_master alg used root = record { alg = alg; proc = new_master_proc used root; anchors = []; hosts = []; windows = [] }

-- ---- the downlink window

-- a COUNT is told as Low: the window begins there, if that is further than before (this product's own)
abbrev pub window_told : MasterNode → ℕ → ℕ → Option Window → MasterNode × Effects
window_told m id count None = (m, quiet)
window_told m id count (Some w) =
    if nat_lt w.told count then (record m { windows = holding id (Some (record w { told = count })) m.windows }, noted (note.Freed id Dl count))
    else (m, quiet)

-- Low may have risen (this product's own)
abbrev pub low_rises : MasterNode → ℕ → Option ℕ → MasterNode × Effects
low_rises m id None = (m, quiet)
low_rises m id (Some count) = window_told m id count (held id m.windows)

-- a secondary anchor tells its Low: one of an earlier establishment, or of a bearer that is dropped, is ignored
-- (this product's own)
abbrev pub told_by : MasterNode → ℕ → ℕ → ℕ → Option Row → MasterNode × Effects
told_by m id g count None = (m, quiet)
told_by m id g count (Some r) = if nat_lt g r.est then (m, quiet) else window_told m id count (held id m.windows)

-- ---- what comes of a step of an anchor

-- SDUs are handed up at a node (TS 38.323, 5.2.2)
abbrev pub handed_up : Node → ℕ → Dir → List (ℕ × List ℕ) → List Note
handed_up x id d ups = map (λ (u : ℕ × List ℕ). note.Up x id d u.0 u.1) ups

-- the anchor after its step, with what it handed up and sent, and its Low told at once (part of the rule on_anchor)
abbrev pub anchor_did : MasterNode → ℕ → AnchorState × AnchorOut → MasterNode × Effects
anchor_did m id done =
    after_effects (record { notes = handed_up M id Ul done.1.ups; sends = done.1.sends })
    (low_rises (record m { anchors = holding id (Some done.0) m.anchors }) id done.1.low)

-- a step of the anchor of a bearer, where the master has it (this product's own)
abbrev pub on_anchor : MasterNode → ℕ → (AnchorState → AnchorState × AnchorOut) → Option AnchorState → MasterNode × Effects
on_anchor m id f None = (m, quiet)
on_anchor m id f (Some a) = anchor_did m id (f a)

-- the same for an anchor of this generation alone (this product's own)
abbrev pub on_anchor_of : MasterNode → ℕ → (AnchorState → AnchorState × AnchorOut) → ℕ → Option AnchorState → MasterNode × Effects
on_anchor_of m g f id None = (m, quiet)
on_anchor_of m g f id (Some a) = if (setup_at a).g == g then anchor_did m id (f a) else (m, quiet)

-- the anchors that wait for a plan that is rejected go (part of the rule without_waiting)
abbrev pub is_waiting : AnchorState → Bool
is_waiting (waiting_anchor w) = true
is_waiting (active_anchor a) = false

-- the master without them (this product's own)
abbrev pub without_waiting : MasterNode → MasterNode
without_waiting m = record m { anchors = filter (λ (x : ℕ × AnchorState). not (is_waiting x.1)) m.anchors }
