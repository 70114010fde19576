-- Events of a run, one after another: what there is after them, what they count, and what their lines come to.
use Rattle.std.proofs.Common.{◌≡◌, ◌++◌, List, [], ◌∷◌, refl, sym, ap, ◌∙◌, subst, arith}
use Rattle.std.specs.List.{flat_map}
use Rattle.std.proofs.lemmas.Grind.{fold-append}
use Rattle.dc_base.specs.declared.answers.Answer.{Answer}
use Rattle.dc_base.specs.declared.events.Event.{Event}
use Rattle.dc_base.specs.declared.events.Line.{Line}
use Rattle.dc_base.specs.declared.events.Line.TheVariants as line
use Rattle.transcript.specs.Transcript.{Entry, entry_lines}
use Rattle.node_rules.specs.Choices.{Choices}
use Rattle.node_rules.specs.Run.{entries_from, world_after, world_step}
use Rattle.dc_network.specs.Counting.{Counted, IsWithin, counted, counts_of_both}
use Rattle.dc_network.proofs.Counted.{counted-append}
use Rattle.counted_network.specs.Counted.{Counting, counting_after, counting_after_all}
use Rattle.counted_network.proofs.Events.{counting-append, counting_world}
use Rattle.summary.specs.Summed.{Totals, with_answer, with_line, with_lines}
use Rattle.made_runs.specs.Running.{HasRun, PassesLimit, Running, one, run_after, run_after_all}

-- a run by its two parts
abbrev pub with_totals : Counting → Totals → Running
with_totals k t = record { counting = k; totals = t }

-- an entry by its parts
abbrev pub entry_of : Event → Answer → List Line → Entry
entry_of e a ls = record { event = e; answer = a; lines = ls }

-- ---- one event

-- what the lines of an entry come to, one after another
pub entry_totals : (x : Entry) (e : Event) (a : Answer) (ls : List Line) (t u v w : Totals) → x ≡ entry_of e a ls
    → u ≡ with_line t (line.Event e) → v ≡ with_answer u a → w ≡ with_lines v ls → w ≡ with_lines t (entry_lines x)
entry_totals x e a ls t u v w is first second third =
    third ∙ ap (λ (s : Totals). with_lines s ls) (second ∙ ap (λ (s : Totals). with_answer s a) first)
    ∙ ap (λ (y : Entry). with_lines t (entry_lines y)) (sym is)

-- what there is after it, by its parts
pub run_next : (c : Choices) (r : Running) (e : Event) (a : Answer) (ls : List Line) (k : Counting) (u v w : Totals) → k ≡ counting_after c r.counting e
    → (world_step c r.counting.world e).1 ≡ entry_of e a ls
    → u ≡ with_line r.totals (line.Event e) → v ≡ with_answer u a → w ≡ with_lines v ls → with_totals k w ≡ run_after c r e
run_next c r e a ls k u v w after is first second third =
    ap (λ (j : Counting). with_totals j w) after
    ∙ ap (with_totals (counting_after c r.counting e)) (entry_totals (world_step c r.counting.world e).1 e a ls r.totals u v w is first second third)

-- ---- events

module _ (c : Choices) where
  pub run-append : (r : Running) (es fs : List Event) → run_after_all c r (es ++ fs) ≡ run_after_all c (run_after_all c r es) fs
  run-append r [] fs = refl
  run-append r (e ∷ es) fs = run-append (run_after c r e) es fs

  pub run_counting : (r : Running) (es : List Event) → (run_after_all c r es).counting ≡ counting_after_all c r.counting es
  run_counting r [] = refl
  run_counting r (e ∷ es) = run_counting (run_after c r e) es

  pub run_world : (r : Running) (es : List Event) → (run_after_all c r es).counting.world ≡ world_after c r.counting.world es
  run_world r es = ap (λ (k : Counting). k.world) (run_counting r es) ∙ counting_world c r.counting es

  pub run_totals : (r : Running) (es : List Event) → (run_after_all c r es).totals ≡ with_lines r.totals (flat_map entry_lines (entries_from c r.counting.world es))
  run_totals r [] = refl
  run_totals r (e ∷ es) =
      let x = (world_step c r.counting.world e).1 in
      let rest = flat_map entry_lines (entries_from c (world_step c r.counting.world e).0 es) in
      run_totals (run_after c r e) es ∙ sym (fold-append with_line r.totals (entry_lines x) rest)

  pub run_counts : (k : Counting) (es : List Event) → (counting_after_all c k es).counts ≡ counts_of_both k.counts (counted (flat_map entry_lines (entries_from c k.world es)))
  run_counts k [] = none k.counts
    where
      none : (n : Counted) → n ≡ counts_of_both n (counted [])
      none n = grind arith
  run_counts k (e ∷ es) =
      let x = (world_step c k.world e).1 in
      let rest = flat_map entry_lines (entries_from c (world_step c k.world e).0 es) in
      run_counts (counting_after c k e) es
      ∙ both k.counts (counted (entry_lines x)) (counted rest)
      ∙ ap (counts_of_both k.counts) (sym (counted-append (entry_lines x) rest))
    where
      both : (a b d : Counted) → counts_of_both (counts_of_both a b) d ≡ counts_of_both a (counts_of_both b d)
      both a b d = grind arith

  -- ---- within the limits, and past them

  pub run_none : (r : Running) → IsWithin r.counting.counts → HasRun c r [] r
  run_none r within = record { after = refl; within = within }

  pub ran_one : (r s : Running) (e : Event) → s ≡ run_after c r e → IsWithin s.counting.counts → HasRun c r (one e) s
  ran_one r s e is within = record { after = is; within = within }

  pub past_one : (r s : Running) (e : Event) → s ≡ run_after c r e → (IsWithin s.counting.counts → ⊥) → PassesLimit c r (one e)
  past_one r s e is past = λ within. past (subst (λ (k : Counting). IsWithin k.counts) (sym (ap (λ (x : Running). x.counting) is)) within)

  pub run_then : (r s t : Running) (es fs : List Event) → HasRun c r es s → HasRun c s fs t → HasRun c r (es ++ fs) t
  run_then r s t es fs p q = record {
    after = q.after ∙ ap (λ (x : Running). run_after_all c x fs) p.after ∙ sym (run-append r es fs);
    within = q.within;
  }

  pub counting_of : (r s : Running) (es : List Event) → HasRun c r es s → s.counting ≡ counting_after_all c r.counting es
  counting_of r s es p = ap (λ (x : Running). x.counting) p.after ∙ run_counting r es

  pub world_of : (r s : Running) (es : List Event) → HasRun c r es s → s.counting.world ≡ world_after c r.counting.world es
  world_of r s es p = ap (λ (x : Running). x.counting.world) p.after ∙ run_world r es

  pub passes_then : (r s : Running) (es fs : List Event) → HasRun c r es s → PassesLimit c s fs → PassesLimit c r (es ++ fs)
  passes_then r s es fs p past = λ within.
      past (subst (λ (k : Counting). IsWithin k.counts)
      (counting-append c r.counting es fs ∙ ap (λ (k : Counting). counting_after_all c k fs) (sym (counting_of r s es p))) within)

  -- a front of events that are within the limits is
  pub within_front : (k : Counting) (es fs : List Event) → IsWithin (counting_after_all c k (es ++ fs)).counts → IsWithin (counting_after_all c k es).counts
  within_front k es fs within =
      let m = counting_after_all c k es in
      let more = counted (flat_map entry_lines (entries_from c m.world fs)) in
      let sum : IsWithin (counts_of_both m.counts more) =
      subst IsWithin (run_counts m fs) (subst (λ (j : Counting). IsWithin j.counts) (counting-append c k es fs) within) in
      record { events = omega arith; flights = omega arith; octets = omega arith }

  pub passes_front : (r : Running) (es fs : List Event) → PassesLimit c r es → PassesLimit c r (es ++ fs)
  passes_front r es fs past = λ within. past (within_front r.counting es fs within)
