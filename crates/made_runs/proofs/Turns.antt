-- Lines of a script, and turns, one after another.
use Rattle.std.proofs.Common.{ℕ, zero, suc, ◌≡◌, ◌+◌, ◌-◌, ◌<◌, ◌≤◌, ◌++◌, List, [], ◌∷◌, drop, get_or, length, refl, sym, ap, ◌∙◌, subst, arith, add-one, append_assoc, append-nil}
use Rattle.std.proofs.Math.Seq.{drop-cons}
use Rattle.std.proofs.lemmas.List.{drop_all}
use Rattle.script_text.specs.declared.scripted.Scripted.{Scripted}
use Rattle.node_rules.specs.Choices.{Choices}
use Rattle.node_rules.specs.Run.{world_after}
use Rattle.node_rules.specs.World.{World}
use Rattle.dc_network.specs.Counting.{IsWithin}
use Rattle.made_scripts.specs.Scripts.{as_list, line_events, script_events, turns_from}
use Rattle.made_scripts.specs.Turns.{turn_of}
use Rattle.made_runs.specs.Made.{event_lines}
use Rattle.made_runs.specs.Running.{HasRun, PassesLimit, Running}
use Rattle.made_runs.proofs.Runs.{run_none, run_then, world_of}
use Rattle.made_runs.proofs.Texts.{event_lines-append}
use Rattle.made_runs.proofs.Upto.{IsUpTo, up_end, up_first, up_more, up_past}

module _ (c : Choices) where
  -- ---- lines of a script

  -- the first so many lines were run, and their events are done
  abbrev pub HasRunLines : Running → List Scripted → ℕ → Running → Type 0
  HasRunLines r lines i s = IsUpTo c r (script_events c r.counting.world lines) (script_events c s.counting.world (drop i lines)) s

  pub lines_first : (r : Running) (lines : List Scripted) → IsWithin r.counting.counts → HasRunLines r lines 0 r
  lines_first r lines within = up_first c r (script_events c r.counting.world lines) within

  no_more : (w : World) → script_events c w [] ≡ []
  unfolding script_events
  no_more w = refl

  one_more : (w : World) (line : Scripted) (lines : List Scripted)
      → script_events c w (line ∷ lines) ≡ line_events c w line ++ script_events c (world_after c w (line_events c w line)) lines
  unfolding script_events
  one_more w line lines = refl

  module _ (r s : Running) (lines : List Scripted) (i : ℕ) (u : HasRunLines r lines i s) where
    pub lines_end : length lines ≤ i → HasRun c r (script_events c r.counting.world lines) s
    lines_end past =
        let all = script_events c r.counting.world lines in
        up_end c r s all
        (subst (λ es. IsUpTo c r all es s) (ap (script_events c s.counting.world) (drop_all i lines past) ∙ no_more s.counting.world) u)

    module _ (line : Scripted) (less : i < length lines) (here : line ≡ get_or lines i line) where
      -- the events of the next line, and of those after it
      next_line : IsUpTo c r (script_events c r.counting.world lines)
          (line_events c s.counting.world line ++ script_events c (world_after c s.counting.world (line_events c s.counting.world line)) (drop (i + 1) lines)) s
      next_line =
          let all = script_events c r.counting.world lines in
          let cut : drop i lines ≡ line ∷ drop (i + 1) lines = rw add-one (drop-cons lines i line less ∙ ap (λ l. l ∷ drop (suc i) lines) (sym here)) in
          subst (λ es. IsUpTo c r all es s) (ap (script_events c s.counting.world) cut ∙ one_more s.counting.world line (drop (i + 1) lines)) u

      pub lines_past : PassesLimit c s (line_events c s.counting.world line) → PassesLimit c r (script_events c r.counting.world lines)
      lines_past past =
          up_past c r s (script_events c r.counting.world lines) (line_events c s.counting.world line)
          (script_events c (world_after c s.counting.world (line_events c s.counting.world line)) (drop (i + 1) lines)) next_line past

      pub lines_more : (t : Running) → HasRun c s (line_events c s.counting.world line) t → HasRunLines r lines (i + 1) t
      lines_more t run =
          let all = script_events c r.counting.world lines in
          let own = line_events c s.counting.world line in
          subst (λ (w : World). IsUpTo c r all (script_events c w (drop (i + 1) lines)) t) (sym (world_of c s t own run))
          (up_more c r s t all own (script_events c (world_after c s.counting.world own) (drop (i + 1) lines)) next_line run)

-- ---- turns

-- the turns before this number were run, of so many, with these draws left, and their lines added to a text
pub record HasTurned (c : Choices) (r : Running) (seed turns number draws : ℕ) (s : Running) (old new : List ℕ) : Type 0 where
  pub events : IsUpTo c r (turns_from c r.counting.world 0 seed turns) (turns_from c s.counting.world number draws (turns - number)) s
  pub written : new ≡ old ++ event_lines events.done

module _ (c : Choices) where
  pub turns_first : (r : Running) (seed turns draws : ℕ) (text : List ℕ) → IsWithin r.counting.counts → draws ≡ seed → HasTurned c r seed turns 0 draws r text text
  turns_first r seed turns draws text within is =
      let same : turns ≡ turns - 0 = omega arith in
      let all = turns_from c r.counting.world 0 seed turns in
      record {
        events = record {
          done = [];
          ran = run_none c r within;
          rest = ap (turns_from c r.counting.world 0 seed) same ∙ ap (λ x. turns_from c r.counting.world 0 x (turns - 0)) (sym is);
        };
        written = sym (append-nil text);
      }

  at_zero : (w : World) (number draws : ℕ) → turns_from c w number draws zero ≡ []
  unfolding turns_from
  at_zero w number draws = refl

  no_turns : (w : World) (number draws left : ℕ) → left ≡ 0 → turns_from c w number draws left ≡ []
  no_turns w number draws left none = ap (turns_from c w number draws) none ∙ at_zero w number draws

  one_turn : (w : World) (number draws more : ℕ) → turns_from c w number draws (suc more)
      ≡ as_list (turn_of w number draws).event
      ++ turns_from c (world_after c w (as_list (turn_of w number draws).event)) (number + 1) (turn_of w number draws).draws more
  unfolding turns_from
  one_turn w number draws more = refl

  module _ (r s : Running) (seed turns number draws : ℕ) (old mid : List ℕ) (h : HasTurned c r seed turns number draws s old mid) where
    pub turns_end : turns ≤ number → HasRun c r (turns_from c r.counting.world 0 seed turns) s × (mid ≡ old ++ event_lines (turns_from c r.counting.world 0 seed turns))
    turns_end past =
        let all = turns_from c r.counting.world 0 seed turns in
        let none : turns_from c s.counting.world number draws (turns - number) ≡ [] = no_turns s.counting.world number draws (turns - number) (omega arith) in
        let whole : all ≡ h.events.done = h.events.rest ∙ ap (λ es. h.events.done ++ es) none ∙ append-nil h.events.done in
        (subst (λ es. HasRun c r es s) (sym whole) h.events.ran, h.written ∙ ap (λ es. old ++ event_lines es) (sym whole))

    -- the events of the next turn, and of those after it
    next_turn : number < turns → turns_from c s.counting.world number draws (turns - number)
        ≡ as_list (turn_of s.counting.world number draws).event
        ++ turns_from c (world_after c s.counting.world (as_list (turn_of s.counting.world number draws).event)) (number + 1)
        (turn_of s.counting.world number draws).draws (turns - (number + 1))
    next_turn less =
        let is : turns - number ≡ suc (turns - (number + 1)) = omega arith in
        ap (turns_from c s.counting.world number draws) is ∙ one_turn s.counting.world number draws (turns - (number + 1))

    pub turns_past : number < turns → PassesLimit c s (as_list (turn_of s.counting.world number draws).event)
        → PassesLimit c r (turns_from c r.counting.world 0 seed turns)
    turns_past less past =
        let all = turns_from c r.counting.world 0 seed turns in
        let now = turn_of s.counting.world number draws in
        up_past c r s all (as_list now.event)
        (turns_from c (world_after c s.counting.world (as_list now.event)) (number + 1) now.draws (turns - (number + 1)))
        (subst (λ es. IsUpTo c r all es s) (next_turn less) h.events) past

    pub turns_more : (t : Running) (draws' : ℕ) (new : List ℕ) → number < turns
        → HasRun c s (as_list (turn_of s.counting.world number draws).event) t → draws' ≡ (turn_of s.counting.world number draws).draws
        → new ≡ mid ++ event_lines (as_list (turn_of s.counting.world number draws).event) → HasTurned c r seed turns (number + 1) draws' t old new
    turns_more t draws' new less run is text =
        let now = turn_of s.counting.world number draws in
        let own = as_list now.event in
        let done = h.events.done in
        let left = turns_from c (world_after c s.counting.world own) (number + 1) now.draws (turns - (number + 1)) in
        record {
          events = record {
            done = done ++ own;
            ran = run_then c r s t done own h.events.ran run;
            rest = h.events.rest ∙ ap (λ es. done ++ es) (next_turn less) ∙ sym (append_assoc done own left)
                ∙ ap (λ (w : World). done ++ own ++ turns_from c w (number + 1) now.draws (turns - (number + 1))) (sym (world_of c s t own run))
                ∙ ap (λ d. done ++ own ++ turns_from c t.counting.world (number + 1) d (turns - (number + 1))) (sym is);
          };
          written = text ∙ ap (λ x. x ++ event_lines own) h.written ∙ append_assoc old (event_lines done) (event_lines own)
              ∙ ap (λ x. old ++ x) (sym (event_lines-append done own));
        }
