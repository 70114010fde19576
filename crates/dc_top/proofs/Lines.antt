-- Events of lines: that their entries are those of the lines.
use Rattle.std.proofs.Common.{◌≡◌, ◌+◌, ◌<◌, ◌≤◌, ◌^◌, ◌++◌, List, [], ◌∷◌, length, map, refl, sym, ap, ◌∙◌, subst, inl, inr, arith, append_assoc, append-nil}
use Rattle.std.specs.List.{AllByRecursion, flat_map}
use Rattle.std.proofs.lemmas.Grind.{flat_map-append}
use Rattle.std.proofs.lemmas.List.{length-map}
use Rattle.dc_base.specs.declared.events.Header.{Header}
use Rattle.dc_base.specs.declared.events.Event.{Event}
use Rattle.dc_base.specs.declared.events.Line.{Line}
use Rattle.dc_base.specs.declared.events.Line.TheVariants as line
use Rattle.transcript.specs.Content.{first_loaded}
use Rattle.transcript.specs.Transcript.{Entry, EachFrom, entry_lines, transcript_text}
use Rattle.script_text.specs.declared.scripted.Scripted.{Scripted}
use Rattle.script_text.specs.declared.scripted.Scripted.TheVariants.{One, Drain}
use Rattle.node_rules.specs.Choices.{Choices}
use Rattle.node_rules.specs.Run.{entries_from, world_after, world_step}
use Rattle.node_rules.specs.World as world
use Rattle.node_rules.specs.World.{World, new_world}
use Rattle.dc_network.specs.Counting.{Counted, IsWithin, counted, counts_of_both}
use Rattle.dc_network.proofs.Counted.{counted-append}
use Rattle.master_runs.specs.OfMaster.{AreOfMaster}
use Rattle.master_runs.proofs.Contents.{first_loaded_is}
use Rattle.master_runs.proofs.Runs.{whole_faithful}
use Rattle.run_control.specs.Claims.{NeverStalls}
use Rattle.run_control.specs.Sound.{AddsSecond}
use Rattle.run_expected.proofs.Stalling.{never_stalls_always}
use Rattle.run_relays.specs.Ranges.{NamesIdentity}
use Rattle.run_claims.proofs.Keeping.{run_keeps_claims}
use Rattle.transcript.proofs.OnEach.{each_weaker}
use Rattle.counted_network.specs.Counted.{Counting, counting_after, counting_after_all}
use Rattle.dc_top.specs.Steps.{AreBegun, AreEventsOf, AreFirstSteps, events_text}
use Rattle.dc_top.specs.Run.{AreEntriesOf, AreFirstEntriesOf, IsByRules, IsDrainStep, events_of}
use Rattle.dc_top.specs.SoFar.{IsFit}
use Rattle.dc_top.proofs.Texts.{transcript_text-append}
use Rattle.counted_network.proofs.Events.{entries-append, entries-next, world_after-append, world_after-next}
use Rattle.dc_top.proofs.Worlds.{events_are}

module _ (c : Choices) where
  pub events_begun : (line : Scripted) (k : Counting) (es : List Event) → AreEventsOf c line k es → AreBegun c line k es
  events_begun (One e) k es one = inr one
  events_begun Drain k es all = all.0

  -- ---- what there is after events from the start

  abbrev pub entries : Header → List Event → List Entry
  entries h es = entries_from c (new_world h) es

  abbrev pub state : Header → List Event → World
  state h es = world_after c (new_world h) es

  abbrev with_counts : World → Counted → Counting
  with_counts w n = record { world = w; counts = n }

  abbrev pub counting : Header → List Event → Counting
  counting h es = with_counts (state h es) (counted (flat_map entry_lines (entries h es)))

  -- the lines of one entry more
  lines-next : (h : Header) (es : List Event) (e : Event)
      → flat_map entry_lines (entries h es) ++ entry_lines (world_step c (state h es) e).1 ≡ flat_map entry_lines (entries h (es ++ e ∷ []))
  lines-next h es e =
      let x = (world_step c (state h es) e).1 in
      ap (λ (l : List Line). flat_map entry_lines (entries h es) ++ l) (sym (append-nil (entry_lines x)))
      ∙ sym (flat_map-append entry_lines (entries h es) (x ∷ []))
      ∙ ap (λ (t : List Entry). flat_map entry_lines t) (sym (entries-next c (new_world h) es e))

  counting-next : (h : Header) (es : List Event) (e : Event) → counting_after c (counting h es) e ≡ counting h (es ++ e ∷ [])
  counting-next h es e =
      let x = (world_step c (state h es) e).1 in
      ap (λ (w : World). with_counts w (counts_of_both (counting h es).counts (counted (entry_lines x)))) (sym (world_after-next c (new_world h) es e))
      ∙ ap (with_counts (state h (es ++ e ∷ [])))
      (sym (counted-append (flat_map entry_lines (entries h es)) (entry_lines x)) ∙ ap (λ (l : List Line). counted l) (lines-next h es e))

  pub counting-more : (h : Header) (es fs : List Event) → counting_after_all c (counting h es) fs ≡ counting h (es ++ fs)
  counting-more h es [] = ap (counting h) (sym (append-nil es))
  counting-more h es (f ∷ fs) =
      ap (λ k. counting_after_all c k fs) (counting-next h es f) ∙ counting-more h (es ++ f ∷ []) fs ∙ ap (counting h) (append_assoc es (f ∷ []) fs)

  -- ---- how many events there are

  events_counted : (t : List Entry) → length t ≤ (counted (flat_map entry_lines t)).events
  events_counted [] = omega arith
  events_counted (e ∷ t) =
      let rest = events_counted t in
      let own : (counted (entry_lines e)).events ≡ 1 + (counted (line.Answer e.answer ∷ e.lines)).events =
      ap (λ (k : Counted). k.events) (counted-append (line.Event e.event ∷ []) (line.Answer e.answer ∷ e.lines)) in
      let sum : (counted (flat_map entry_lines (e ∷ t))).events ≡ (counted (entry_lines e)).events + (counted (flat_map entry_lines t)).events =
      ap (λ (k : Counted). k.events) (counted-append (entry_lines e) (flat_map entry_lines t)) in
      omega (arith, rest, own, sum)

  -- a run within its limits has few
  pub few_within : (h : Header) (es : List Event) → IsWithin (counted (flat_map entry_lines (entries h es))) → length es ≤ 2 ^ 20
  few_within h es within =
      let all : length (entries h es) ≡ length es = sym (length-map (entries h es) (λ e. e.event)) ∙ ap (λ (fs : List Event). length fs) (events_are c (new_world h) es) in
      let counts = events_counted (entries h es) in
      let most = within.events in
      omega (arith, all, counts, most)

  -- ---- the rules and the claims

  pub ruled : (h : Header) (es : List Event) → AllByRecursion IsFit es → length es < 2 ^ 23 → IsByRules c h (entries h es)
  ruled h es fit few =
      let own : events_of (entries h es) ≡ es = events_are c (new_world h) es in
      let adds = each_weaker IsFit AddsSecond (λ e is. is.0) es fit in
      let names = each_weaker IsFit NamesIdentity (λ e is. is.1) es fit in
      record {
        by_rules = ap (entries h) (sym own);
        keeps = run_keeps_claims c h es adds names few;
        unstalled = subst (λ fs. NeverStalls (world_after c (new_world h) fs)) (sym own) (never_stalls_always c h es adds);
        faithful = λ all. whole_faithful c h es (subst AreOfMaster own all);
      }

  -- ---- entries of lines

  module _ (h : Header) where
    pub entries_more : (es fs : List Event) → entries h (es ++ fs) ≡ entries h es ++ entries_from c (state h es) fs
    entries_more es fs = entries-append c (new_world h) es fs

    pub state_more : (es fs : List Event) → state h (es ++ fs) ≡ world_after c (state h es) fs
    state_more es fs = world_after-append c (new_world h) es fs

    pub text_more : (es fs : List Event) → transcript_text h (entries h (es ++ fs)) ≡ transcript_text h (entries h es) ++ events_text c (state h es) fs
    text_more es fs = ap (transcript_text h) (entries_more es fs) ∙ transcript_text-append h (entries h es) (entries_from c (state h es) fs)

    drain_steps : (es fs : List Event) → AreFirstSteps c (state h es) fs → EachFrom IsDrainStep (entries h es) (entries_from c (state h es) fs)
    drain_steps es [] steps = tt
    drain_steps es (f ∷ fs) steps =
        let next : state h (es ++ f ∷ []) ≡ (world_step c (state h es) f).0 = world_after-next c (new_world h) es f in
        let rest : EachFrom IsDrainStep (entries h (es ++ f ∷ [])) (entries_from c (state h (es ++ f ∷ [])) fs) =
        drain_steps (es ++ f ∷ []) fs (subst (λ w. AreFirstSteps c w fs) (sym next) steps.1) in (
          record { link = steps.0.link; first = first_loaded_is c h es ∙ steps.0.first; step = steps.0.step },
          subst (λ w. EachFrom IsDrainStep (entries h es ++ (world_step c (state h es) f).1 ∷ []) (entries_from c w fs)) next
              (subst (λ t. EachFrom IsDrainStep t (entries_from c (state h (es ++ f ∷ [])) fs)) (entries-next c (new_world h) es f) rest),
        )

    pub are_entries : (line : Scripted) (es fs : List Event) → AreEventsOf c line (counting h es) fs → AreEntriesOf line (entries h es) (entries_from c (state h es) fs)
    are_entries (One e) es fs one = subst (λ xs. map (λ x. x.event) (entries_from c (state h es) xs) ≡ e ∷ []) (sym one) refl
    are_entries Drain es fs steps = (
      drain_steps es fs steps.0,
      ap first_loaded (sym (entries_more es fs)) ∙ first_loaded_is c h (es ++ fs)
          ∙ ap (λ (k : Counting). world.first_loaded k.world.links) (sym (counting-more h es fs)) ∙ steps.1,
    )

    pub are_first : (line : Scripted) (es fs : List Event) → AreBegun c line (counting h es) fs → AreFirstEntriesOf line (entries h es) (entries_from c (state h es) fs)
    are_first (One e) es fs (inl none) = inl (ap (entries_from c (state h es)) none)
    are_first (One e) es fs (inr one) = inr (subst (λ xs. map (λ x. x.event) (entries_from c (state h es) xs) ≡ e ∷ []) (sym one) refl)
    are_first Drain es fs steps = drain_steps es fs steps
