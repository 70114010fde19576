-- Each drain of a script whose run is within the limits ends by itself: nothing stands on any link after it.
use Rattle.std.proofs.Common.{ℕ, zero, suc, ◌≡◌, ◌+◌, ◌≤◌, ◌^◌, ◌++◌, List, [], ◌∷◌, Option, Some, None, refl, sym, ap, ◌∙◌, subst, arith}
use Rattle.dc_base.specs.declared.events.Event.{Event}
use Rattle.dc_base.specs.declared.events.Event.TheVariants.{Step}
use Rattle.dc_base.specs.declared.nodes.LinkId.{LinkId}
use Rattle.script_text.specs.declared.scripted.Scripted.{Scripted}
use Rattle.script_text.specs.declared.scripted.Scripted.TheVariants.{Drain, One}
use Rattle.node_rules.specs.Choices.{Choices}
use Rattle.node_rules.specs.Run.{world_after, world_step}
use Rattle.node_rules.specs.World.{World, first_loaded, new_world}
use Rattle.dc_network.specs.Counting.{IsWithin}
use Rattle.counted_network.specs.Counted.{Counting, counting_after, counting_after_all, start}
use Rattle.counted_network.proofs.Events.{counting-append, counting_world, one_event_more}
use Rattle.made_scripts.specs.Scripts.{DrainsEnd, drain_steps, enough, made_header, made_lines, script_events}
use Rattle.made_runs.specs.Made.{IsSummable, made_events}
use Rattle.made_runs.proofs.Draining.{steps_none, steps_some}
use Rattle.made_runs.proofs.Limits.{start_counts}
use Rattle.made_runs.proofs.Runs.{within_front}

module _ (c : Choices) where
  -- after these steps nothing stands on any link
  abbrev Empties : ℕ → Counting → Type 0
  Empties n k = first_loaded (world_after c k.world (drain_steps c n k.world)).links ≡ None

  abbrev WithinAfter : Counting → List Event → Type 0
  WithinAfter k es = IsWithin (counting_after_all c k es).counts

  no_steps : (w : World) → drain_steps c zero w ≡ []
  unfolding drain_steps
  no_steps w = refl

  drain_empties : (n : ℕ) (k : Counting) → 2 ^ 20 + 1 ≤ n + k.counts.events → WithinAfter k (drain_steps c n k.world) → Empties n k
  drain_empties zero k room within =
      let now : WithinAfter k [] = subst (WithinAfter k) (no_steps k.world) within in
      let few = now.events in
      absurd (omega (arith, room, few))
  drain_empties (suc n) k room within =
      by (first_loaded k.world.links) refl (λ l some. drain_empties n (counting_after c k (Step l 0)) (left l) (subst (WithinAfter k) (steps_some c n k.world l some) within))
    where
      left : (l : LinkId) → 2 ^ 20 + 1 ≤ n + (counting_after c k (Step l 0)).counts.events
      left l = let grown = one_event_more c k (Step l 0) in omega (arith, room, grown)

      by : (o : Option LinkId) → first_loaded k.world.links ≡ o → ((l : LinkId) → first_loaded k.world.links ≡ Some l → Empties n (counting_after c k (Step l 0))) → Empties (suc n) k
      by None none later = ap (λ es. first_loaded (world_after c k.world es).links) (steps_none c (suc n) k.world none) ∙ none
      by (Some l) some later = ap (λ es. first_loaded (world_after c k.world es).links) (steps_some c n k.world l some) ∙ later l some

  no_lines : (w : World) → DrainsEnd c w []
  unfolding DrainsEnd
  no_lines w = tt

  after_one : (w : World) (e : Event) (lines : List Scripted) → DrainsEnd c (world_step c w e).0 lines → DrainsEnd c w (One e ∷ lines)
  unfolding DrainsEnd
  after_one w e lines more = more

  after_drain : (w : World) (lines : List Scripted) → first_loaded (world_after c w (drain_steps c enough w)).links ≡ None
      → DrainsEnd c (world_after c w (drain_steps c enough w)) lines → DrainsEnd c w (Drain ∷ lines)
  unfolding DrainsEnd
  after_drain w lines empty more = (empty, more)

  one_line : (w : World) (e : Event) (lines : List Scripted) → script_events c w (One e ∷ lines) ≡ e ∷ script_events c (world_step c w e).0 lines
  unfolding script_events
  one_line w e lines = refl

  drain_line : (w : World) (lines : List Scripted)
      → script_events c w (Drain ∷ lines) ≡ drain_steps c enough w ++ script_events c (world_after c w (drain_steps c enough w)) lines
  unfolding script_events
  drain_line w lines = refl

  lines_end : (lines : List Scripted) (k : Counting) → WithinAfter k (script_events c k.world lines) → DrainsEnd c k.world lines
  lines_end [] k within = no_lines k.world
  lines_end (One e ∷ lines) k within =
      after_one k.world e lines (lines_end lines (counting_after c k e) (subst (WithinAfter k) (one_line k.world e lines) within))
  lines_end (Drain ∷ lines) k within =
      let steps = drain_steps c enough k.world in
      let next = counting_after_all c k steps in
      let w = world_after c k.world steps in
      let whole : WithinAfter k (steps ++ script_events c w lines) = subst (WithinAfter k) (drain_line k.world lines) within in
      let drained = within_front c k steps (script_events c w lines) whole in
      let same : next.world ≡ w = counting_world c k steps in
      let rest : WithinAfter next (script_events c w lines) = subst (λ (j : Counting). IsWithin j.counts) (counting-append c k steps (script_events c w lines)) whole in
      after_drain k.world lines (drain_empties enough k (omega arith) drained)
      (subst (λ (v : World). DrainsEnd c v lines) same
      (lines_end lines next (subst (λ (v : World). WithinAfter next (script_events c v lines)) (sym same) rest)))

  -- so does each drain of a made script whose run passes no limit
  pub made_drains_end : (seed turns : ℕ) → IsSummable c seed turns → DrainsEnd c (new_world made_header) (made_lines c seed turns)
  made_drains_end seed turns within =
      lines_end (made_lines c seed turns) (start made_header) (subst IsWithin (sym (start_counts c (made_events c seed turns))) within)
