-- The events of a made script, part by part, and the limits on what they count.
use Rattle.std.proofs.Common.{ℕ, ◌≡◌, ◌<◌, ◌≤◌, ◌++◌, List, [], ◌∷◌, length, refl, sym, ap, ◌∙◌, map, subst, append_assoc, arith}
use Rattle.std.specs.Prelude.{OnOk, Result}
use Rattle.dc_base.specs.declared.events.Event.{Event}
use Rattle.script_text.specs.declared.scripted.Scripted.{Scripted}
use Rattle.script_text.specs.declared.scripted.Scripted.TheVariants.{One}
use Rattle.node_rules.specs.Choices.{Choices}
use Rattle.node_rules.specs.Run.{world_after, world_step}
use Rattle.node_rules.specs.World.{World, new_world}
use Rattle.dc_network.specs.Counting.{Counted, IsWithin, counted, counts_of_both}
use Rattle.counted_network.specs.Counted.{Counting, counting_after_all, start}
use Rattle.counted_network.proofs.Events.{world_after-append}
use Rattle.made_scripts.specs.Scripts.{closing, line_events, made_header, opened, opening, script_events, turns_from}
use Rattle.summary.specs.Summed.{Totals}
use Rattle.summary.specs.Texts.{summary_text}
use Rattle.made_runs.specs.Made.{IsMakeable, event_lines, made_events, made_summary, made_text, most_octets, run_lines, turned}
use Rattle.made_runs.specs.Running.{HasRun, PassesLimit, Running, run_start}
use Rattle.made_runs.proofs.Runs.{counting_of, passes_front, passes_then, run_counts, run_then, run_totals, world_of}

module _ (c : Choices) where
  -- ---- from the start

  -- what events count, and what the lines of their transcript count
  pub start_counts : (es : List Event) → (counting_after_all c (start made_header) es).counts ≡ counted (run_lines c es)
  start_counts es = run_counts c (start made_header) es ∙ alone (counted (run_lines c es))
    where
      alone : (n : Counted) → counts_of_both (counted []) n ≡ n
      alone n = grind arith

  pub run_within : (s : Running) (es : List Event) → HasRun c run_start es s → IsWithin (counted (run_lines c es))
  run_within s es p =
      subst IsWithin (ap (λ (k : Counting). k.counts) (counting_of c run_start s es p) ∙ start_counts es) p.within

  pub run_past : (es : List Event) → PassesLimit c run_start es → IsWithin (counted (run_lines c es)) → ⊥
  run_past es past = λ within. past (subst IsWithin (sym (start_counts es)) within)

  -- ---- the parts

  events-append : (w : World) (xs ys : List Scripted)
      → script_events c w (xs ++ ys) ≡ script_events c w xs ++ script_events c (world_after c w (script_events c w xs)) ys
  unfolding script_events
  events-append w [] ys = refl
  events-append w (x ∷ xs) ys =
      let own = line_events c w x in
      let w' = world_after c w own in
      ap (λ es. own ++ es) (events-append w' xs ys)
      ∙ sym (append_assoc own (script_events c w' xs) (script_events c (world_after c w' (script_events c w' xs)) ys))
      ∙ ap (λ (v : World). own ++ script_events c w' xs ++ script_events c v ys) (sym (world_after-append c w own (script_events c w' xs)))

  ones : (w : World) (es : List Event) → script_events c w (map (λ e. One e) es) ≡ es
  unfolding script_events
  ones w [] = refl
  ones w (e ∷ es) = ap (λ fs. e ∷ fs) (ones (world_step c w e).0 es)

  -- lines, events as lines, and lines
  three : (w : World) (xs : List Scripted) (es : List Event) (ys : List Scripted)
      → script_events c w (xs ++ map (λ e. One e) es ++ ys)
      ≡ (script_events c w xs ++ es) ++ script_events c (world_after c w (script_events c w xs ++ es)) ys
  three w xs es ys =
      let front : script_events c w (xs ++ map (λ e. One e) es) ≡ script_events c w xs ++ es =
      events-append w xs (map (λ e. One e) es) ∙ ap (λ fs. script_events c w xs ++ fs) (ones (world_after c w (script_events c w xs)) es) in
      events-append w (xs ++ map (λ e. One e) es) ys ∙ ap (λ fs. fs ++ script_events c (world_after c w fs) ys) front

  made_events_parts : (seed turns : ℕ)
      → made_events c seed turns ≡ turned c seed turns ++ script_events c (world_after c (new_world made_header) (turned c seed turns)) closing
  made_events_parts seed turns = three (new_world made_header) opening (turns_from c (opened c) 0 seed turns) closing

  -- ---- the opening and the turns, and the closing after them

  -- the opening was run from the start
  begun : (r s : Running) (lines : List Scripted) → r ≡ run_start → lines ≡ opening → HasRun c r (script_events c r.counting.world lines) s
      → HasRun c run_start (script_events c (new_world made_header) opening) s
  begun r s lines first is p =
      subst (λ (x : Running). HasRun c x (script_events c x.counting.world opening) s) first
      (subst (λ (ls : List Scripted). HasRun c r (script_events c r.counting.world ls) s) is p)

  opened_is : (r s : Running) (lines : List Scripted) → r ≡ run_start → lines ≡ opening → HasRun c r (script_events c r.counting.world lines) s
      → s.counting.world ≡ opened c
  opened_is r s lines first is p = world_of c run_start s (script_events c (new_world made_header) opening) (begun r s lines first is p)

  pub turned_written : {T E : Type 0} (result : Result T E) (r s : Running) (lines : List Scripted) (seed turns : ℕ) (old new : List ℕ) → r ≡ run_start → lines ≡ opening
      → HasRun c r (script_events c r.counting.world lines) s → OnOk result (new ≡ old ++ event_lines (turns_from c s.counting.world 0 seed turns))
      → OnOk result (new ≡ old ++ event_lines (turns_from c (opened c) 0 seed turns))
  turned_written result r s lines seed turns old new first is p written =
      subst (λ (w : World). OnOk result (new ≡ old ++ event_lines (turns_from c w 0 seed turns))) (opened_is r s lines first is p) written

  pub opening_past : (r : Running) (lines : List Scripted) (seed turns : ℕ) → r ≡ run_start → lines ≡ opening
      → PassesLimit c r (script_events c r.counting.world lines) → PassesLimit c run_start (turned c seed turns)
  opening_past r lines seed turns first is past =
      passes_front c run_start (script_events c (new_world made_header) opening) (turns_from c (opened c) 0 seed turns)
      (subst (λ (x : Running). PassesLimit c x (script_events c x.counting.world opening)) first
      (subst (λ (ls : List Scripted). PassesLimit c r (script_events c r.counting.world ls)) is past))

  pub turned_run : (r s t : Running) (lines : List Scripted) (seed turns : ℕ) → r ≡ run_start → lines ≡ opening
      → HasRun c r (script_events c r.counting.world lines) s
      → HasRun c s (turns_from c s.counting.world 0 seed turns) t → HasRun c run_start (turned c seed turns) t
  turned_run r s t lines seed turns first is p q =
      run_then c run_start s t (script_events c (new_world made_header) opening) (turns_from c (opened c) 0 seed turns) (begun r s lines first is p)
      (subst (λ (w : World). HasRun c s (turns_from c w 0 seed turns) t) (opened_is r s lines first is p) q)

  pub turned_past : (r s : Running) (lines : List Scripted) (seed turns : ℕ) → r ≡ run_start → lines ≡ opening
      → HasRun c r (script_events c r.counting.world lines) s
      → PassesLimit c s (turns_from c s.counting.world 0 seed turns) → PassesLimit c run_start (turned c seed turns)
  turned_past r s lines seed turns first is p past =
      passes_then c run_start s (script_events c (new_world made_header) opening) (turns_from c (opened c) 0 seed turns) (begun r s lines first is p)
      (subst (λ (w : World). PassesLimit c s (turns_from c w 0 seed turns)) (opened_is r s lines first is p) past)

  pub closed_run : (s t : Running) (lines : List Scripted) (seed turns : ℕ) → lines ≡ closing → HasRun c run_start (turned c seed turns) s
      → HasRun c s (script_events c s.counting.world lines) t → HasRun c run_start (made_events c seed turns) t
  closed_run s t lines seed turns is p q =
      let front = turned c seed turns in
      subst (λ es. HasRun c run_start es t) (sym (made_events_parts seed turns))
      (run_then c run_start s t front (script_events c (world_after c (new_world made_header) front) closing) p
      (subst (λ (w : World). HasRun c s (script_events c w closing) t) (world_of c run_start s front p)
      (subst (λ (ls : List Scripted). HasRun c s (script_events c s.counting.world ls) t) is q)))

  pub closed_past : (s : Running) (lines : List Scripted) (seed turns : ℕ) → lines ≡ closing → HasRun c run_start (turned c seed turns) s
      → PassesLimit c s (script_events c s.counting.world lines) → PassesLimit c run_start (made_events c seed turns)
  closed_past s lines seed turns is p past =
      let front = turned c seed turns in
      subst (PassesLimit c run_start) (sym (made_events_parts seed turns))
      (passes_then c run_start s front (script_events c (world_after c (new_world made_header) front) closing) p
      (subst (λ (w : World). PassesLimit c s (script_events c w closing)) (world_of c run_start s front p)
      (subst (λ (ls : List Scripted). PassesLimit c s (script_events c s.counting.world ls)) is past)))

  -- a limit that is passed by the last turn is passed
  pub turned_past_all : (seed turns : ℕ) → PassesLimit c run_start (turned c seed turns) → PassesLimit c run_start (made_events c seed turns)
  turned_past_all seed turns past =
      let front = turned c seed turns in
      subst (PassesLimit c run_start) (sym (made_events_parts seed turns))
      (passes_front c run_start front (script_events c (world_after c (new_world made_header) front) closing) past)

  -- the summary after all events is that of the lines of their transcript
  summary_is : (s : Running) (seed turns : ℕ) → HasRun c run_start (made_events c seed turns) s → summary_text s.totals ≡ made_summary c seed turns
  summary_is s seed turns p =
      ap (λ (t : Totals). summary_text t) (ap (λ (x : Running). x.totals) p.after ∙ run_totals c run_start (made_events c seed turns))

  pub summary_whole : (s : Running) (seed turns : ℕ) (old new : List ℕ) → HasRun c run_start (made_events c seed turns) s → old ≡ []
      → new ≡ old ++ summary_text s.totals → new ≡ made_summary c seed turns
  summary_whole s seed turns old new p none written = written ∙ ap (λ t. t ++ summary_text s.totals) none ∙ summary_is s seed turns p

  -- ---- the limit on the script

  pub makeable : (seed turns : ℕ) (text : List ℕ) (s : Running) → HasRun c run_start (turned c seed turns) s → text ≡ made_text c seed turns
      → (n : ℕ) → n ≡ length text → n ≤ most_octets → IsMakeable c seed turns
  makeable seed turns text s p whole n counted_octets few = record {
    ran = run_within s (turned c seed turns) p;
    short = subst (λ t. length t ≤ most_octets) whole (subst (λ m. m ≤ most_octets) counted_octets few);
  }

  pub too_long : (seed turns : ℕ) (text : List ℕ) → text ≡ made_text c seed turns → (n : ℕ) → n ≡ length text → most_octets < n → IsMakeable c seed turns → ⊥
  too_long seed turns text whole n counted_octets many made =
      let short : length text ≤ most_octets = subst (λ t. length t ≤ most_octets) (sym whole) made.short in
      omega (arith, counted_octets, many, short)
