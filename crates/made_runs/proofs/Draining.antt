-- A drain, step by step.
use Rattle.std.proofs.Common.{ℕ, zero, suc, ◌≡◌, ◌+◌, ◌-◌, ◌≤◌, ◌^◌, ◌++◌, [], ◌∷◌, Option, Some, None, refl, sym, ap, ◌∙◌, subst, arith}
use Rattle.dc_base.specs.declared.events.Event.TheVariants.{Step}
use Rattle.dc_base.specs.declared.nodes.LinkId.{LinkId}
use Rattle.node_rules.specs.Choices.{Choices}
use Rattle.node_rules.specs.Run.{world_step}
use Rattle.node_rules.specs.World.{World, first_loaded}
use Rattle.dc_network.specs.Counting.{IsWithin}
use Rattle.counted_network.proofs.Events.{one_event_more}
use Rattle.made_scripts.specs.Scripts.{drain_steps, enough}
use Rattle.made_runs.specs.Running.{HasRun, PassesLimit, Running, one}
use Rattle.made_runs.proofs.Upto.{IsUpTo, up_end, up_first, up_more, up_past}

-- the steps of a drain: done, and left, of which there are more than a run within the limits has room for
pub record IsDraining (c : Choices) (r s : Running) : Type 0 where
  pub more : ℕ
  pub steps : IsUpTo c r (drain_steps c enough r.counting.world) (drain_steps c more s.counting.world) s
  pub room : 2 ^ 20 + 1 ≤ more + s.counting.counts.events

module _ (c : Choices) where
  pub steps_none : (n : ℕ) (w : World) → first_loaded w.links ≡ None → drain_steps c n w ≡ []
  unfolding drain_steps
  steps_none zero w none = refl
  steps_none (suc n) w none = ap (λ (o : Option LinkId). elim o [ None ↦ [] | Some l ↦ Step l 0 ∷ drain_steps c n (world_step c w (Step l 0)).0 ]) none

  pub steps_some : (n : ℕ) (w : World) (l : LinkId) → first_loaded w.links ≡ Some l → drain_steps c (suc n) w ≡ one (Step l 0) ++ drain_steps c n (world_step c w (Step l 0)).0
  unfolding drain_steps
  steps_some n w l some = ap (λ (o : Option LinkId). elim o [ None ↦ [] | Some l ↦ Step l 0 ∷ drain_steps c n (world_step c w (Step l 0)).0 ]) some

  pub drain_first : (r : Running) → IsWithin r.counting.counts → IsDraining c r r
  drain_first r within = record { more = enough; steps = up_first c r (drain_steps c enough r.counting.world) within; room = omega arith }

  module _ (r s : Running) (d : IsDraining c r s) where
    pub drain_end : first_loaded s.counting.world.links ≡ None → HasRun c r (drain_steps c enough r.counting.world) s
    drain_end none =
        let all = drain_steps c enough r.counting.world in
        up_end c r s all (subst (λ es. IsUpTo c r all es s) (steps_none d.more s.counting.world none) d.steps)

    -- the next of the steps that are left
    next_step : (l : LinkId) → first_loaded s.counting.world.links ≡ Some l
        → IsUpTo c r (drain_steps c enough r.counting.world) (one (Step l 0) ++ drain_steps c (d.more - 1) (world_step c s.counting.world (Step l 0)).0) s
    next_step l some =
        let all = drain_steps c enough r.counting.world in
        let few = d.steps.ran.within.events in
        let room = d.room in
        let is : d.more ≡ suc (d.more - 1) = omega (arith, few, room) in
        subst (λ es. IsUpTo c r all es s)
        (ap (λ n. drain_steps c n s.counting.world) is ∙ steps_some (d.more - 1) s.counting.world l some) d.steps

    pub drain_past : (l : LinkId) → first_loaded s.counting.world.links ≡ Some l → PassesLimit c s (one (Step l 0))
        → PassesLimit c r (drain_steps c enough r.counting.world)
    drain_past l some past =
        up_past c r s (drain_steps c enough r.counting.world) (one (Step l 0)) (drain_steps c (d.more - 1) (world_step c s.counting.world (Step l 0)).0)
        (next_step l some) past

    pub drain_more : (l : LinkId) (t : Running) → first_loaded s.counting.world.links ≡ Some l → HasRun c s (one (Step l 0)) t → IsDraining c r t
    drain_more l t some run =
        let all = drain_steps c enough r.counting.world in
        let left = drain_steps c (d.more - 1) (world_step c s.counting.world (Step l 0)).0 in
        let world = ap (λ (x : Running). x.counting.world) run.after in
        let events = ap (λ (x : Running). x.counting.counts.events) run.after in
        let grown = one_event_more c s.counting (Step l 0) in
        let few = d.steps.ran.within.events in
        let room = d.room in
        record {
          more = d.more - 1;
          steps = subst (λ (w : World). IsUpTo c r all (drain_steps c (d.more - 1) w) t) (sym world)
              (up_more c r s t all (one (Step l 0)) left (next_step l some) run);
          room = omega (arith, events, grown, few, room);
        }
