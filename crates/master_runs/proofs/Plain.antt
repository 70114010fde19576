-- An entry that draws no generation: the plans and bearers are as before, and where it ends no command and sets nothing up, so is all that the nodes follow.
use Rattle.std.proofs.Common.{ℕ, ◌≡◌, ◌+◌, ◌++◌, List, [], ◌∷◌, Option, Some, None, Bool, false, refl, sym, ap, ◌∙◌, subst, arith}
use Rattle.std.specs.Prelude.{if◌then◌else◌, fold, is_some, Contains}
use Rattle.std.specs.List.{flat_map}
use Rattle.std.specs.Option.{option_map}
use Rattle.std.proofs.lemmas.List.{append-nil}
use Rattle.dc_base.specs.declared.nodes.Dir.{Dir}
use Rattle.dc_base.specs.declared.nodes.Dir.TheVariants.{Ul, Dl}
use Rattle.dc_base.specs.declared.events.Header.{Header}
use Rattle.transcript.specs.Transcript.{Entry}
use Rattle.transcript.specs.Content.{mt_ctl, tm_ctl}
use Rattle.transcript.specs.Bearers.{OpenCommand, change, opens, Established, established, established_by, latest, generation, is_draw, plan_of, plans, ends_command, open_command, has_after, is_set, key_in, submission}
use Rattle.master_runs.specs.Entities.{Entities, bearer_in}
use Rattle.master_runs.specs.Control.{Nodes}
use Rattle.master_runs.specs.Links.{Links, on}
use Rattle.transcript.proofs.Establishing.{IsOnce, submitted-next, plans-next, generation-next, open_command-next, is_set-next}
use Rattle.master_runs.proofs.Sound.{half, AllConfigured, Phase, IsTabled}
use Rattle.master_runs.proofs.Sound.Phase.{idle, commanded, answered, recovering, recovered}
use Rattle.master_runs.proofs.Tables.{Keeps}

-- ---- an entry that draws nothing

-- it draws no generation
pub record IsUndrawn (e : Entry) : Type 0 where
  pub no_plan : (g : ℕ) → plan_of g e.event e.answer ≡ []
  pub no_draw : is_draw e ≡ false

module _ (t : List Entry) (e : Entry) (undrawn : IsUndrawn e) where
  -- the plans are those drawn before
  pub plans_same : plans (t ++ e ∷ []) ≡ plans t
  plans_same = plans-next t e ∙ ap (λ ps. plans t ++ ps) (undrawn.no_plan (generation t + 1)) ∙ append-nil (plans t)

  -- so are the bearers
  pub established_same : established (t ++ e ∷ []) ≡ established t
  established_same = ap (λ ps. flat_map (λ p. flat_map (established_by p.g) p.items) ps) plans_same

  -- the last generation is as before
  pub generation_same : generation (t ++ e ∷ []) ≡ generation t
  generation_same = generation-next t e ∙ ap (λ c. generation t + (if c then 1 else 0)) undrawn.no_draw ∙ omega arith

  -- the bearers that there were are there
  pub there_then : (b : Established) → Contains (established t) b → Contains (established (t ++ e ∷ [])) b
  there_then b there = subst (λ bs. Contains bs b) (sym established_same) there

  -- and those that are there were
  pub there_before : (b : Established) → Contains (established (t ++ e ∷ [])) b → Contains (established t) b
  there_before b there = subst (λ bs. Contains bs b) established_same there

-- ---- a plain entry

-- it draws no generation, opens and ends no command, and the terminal has the same bearers after it
pub record IsPlain (e : Entry) : Type 0 where
  pub undrawn : IsUndrawn e
  pub no_open : (g : ℕ) (open' : Option OpenCommand) → opens g open' e.event e.answer ≡ open'
  pub no_end : (open' : Option OpenCommand) → fold ends_command open' e.lines ≡ open'
  pub no_set : (id : ℕ) (has : Bool) → fold (has_after id) has e.lines ≡ has

module _ (t : List Entry) (e : Entry) (plain : IsPlain e) where
  -- the same command is open
  open_same : open_command (t ++ e ∷ []) ≡ open_command t
  open_same =
      open_command-next t e
      ∙ ap (λ o. fold ends_command o e.lines) (plain.no_open (generation t + 1) (open_command t))
      ∙ plain.no_end (open_command t)

-- ---- with nodes that keep their bearers

-- entities are there where their bearer is
pub is_some_map : (o : Option Entities) → is_some (option_map (λ e. e.bearer) o) ≡ is_some o
is_some_map None = refl
is_some_map (Some e) = refl

-- nothing is there
pub is_none : {A : Type 0} (o : Option A) → is_some o ≡ false → o ≡ None
is_none None none = refl
is_none (Some x) none = absurd cc

-- a place with no bearer has no entities
pub none_mapped : (x : Option Entities) → option_map (λ e. e.bearer) x ≡ None → x ≡ None
none_mapped x is = is_none x (sym (is_some_map x) ∙ ap (λ (o : Option Established). is_some o) is)

-- where each place keeps its bearer, and the terminal is told of none, the nodes follow the transcript with the command that is open then
pub tabled_busy : (t : List Entry) (e : Entry) → IsUndrawn e → ((id : ℕ) → is_set id (t ++ e ∷ []) ≡ is_set id t) → (s s' : Nodes) → Keeps s s'
    → (o : Option OpenCommand) → open_command (t ++ e ∷ []) ≡ o → IsTabled t s → IsTabled (t ++ e ∷ []) (record s' { busy = o })
tabled_busy t e undrawn set' s s' keeps o opened was = record {
  master_long = keeps.master_long ∙ was.master_long;
  terminal_long = keeps.terminal_long ∙ was.terminal_long;
  master_is = λ id. keeps.bearers Dl id ∙ was.master_is id ∙ ap (latest id) (sym (established_same t e undrawn));
  terminal_is = λ id. keeps.bearers Ul id ∙ was.terminal_is id
      ∙ sym (ap (λ c. if c then latest id (established (t ++ e ∷ [])) else None) (set' id) ∙ ap (λ bs. if is_set id t then latest id bs else None) (established_same t e undrawn));
  set_is = λ id. set' id ∙ was.set_is id ∙ sym (is_some_map (bearer_in s.terminal id)) ∙ ap (λ o. is_some o) (sym (keeps.bearers Ul id)) ∙ is_some_map (bearer_in s'.terminal id);
  drawn_is = keeps.drawn ∙ was.drawn_is ∙ sym (generation_same t e undrawn);
  busy_is = sym opened;
  once = subst IsOnce (sym (established_same t e undrawn)) was.once;
  ranged = λ b there. was.ranged b (there_before t e undrawn b there);
  keyed = λ b there. ap (key_in b.g b.id) (plans_same t e undrawn) ∙ was.keyed b (there_before t e undrawn b there);
}

module _ (t : List Entry) (e : Entry) (plain : IsPlain e) (s s' : Nodes) (keeps : Keeps s s') where
  -- the nodes still have the bearers of the transcript
  pub tabled_same : IsTabled t s → IsTabled (t ++ e ∷ []) s'
  tabled_same was =
      tabled_busy t e plain.undrawn (λ id. is_set-next id t e ∙ plain.no_set id (is_set id t)) s s' keeps s'.busy (open_same t e plain ∙ sym was.busy_is ∙ sym keeps.busy) was

  -- a bearer that the terminal lacks then was lacking
  none_before : (k : ℕ) → bearer_in s'.terminal k ≡ None → bearer_in s.terminal k ≡ None
  none_before k none = none_mapped (bearer_in s.terminal k) (sym (keeps.bearers Ul k) ∙ ap (option_map (λ e. e.bearer)) none)

  -- and one that was lacking is so then
  none_after : (k : ℕ) → bearer_in s.terminal k ≡ None → bearer_in s'.terminal k ≡ None
  none_after k none = none_mapped (bearer_in s'.terminal k) (keeps.bearers Ul k ∙ ap (option_map (λ e. e.bearer)) none)

  -- every bearer is still at the terminal
  configured_same : AllConfigured t s → AllConfigured (t ++ e ∷ []) s'
  configured_same all b there none = all b (there_before t e plain.undrawn b there) (none_before b.id none)

  -- the phase is as it was, where nothing is submitted to a bearer whose command is open, and it sends nothing
  pub phase_same : (h : Header) (links links' : Links) → on links' mt_ctl ≡ on links mt_ctl → on links' tm_ctl ≡ on links tm_ctl
      → ((b : Established) → Contains (established t) b → s.busy ≡ Some (change b.g) → bearer_in s.terminal b.id ≡ None → (d : Dir) → submission b d t e ≡ [])
      → ((b : Established) → Contains (established t) b → s.busy ≡ Some (change b.g) → (half b s'.master).sent ≡ (half b s.master).sent)
      → Phase h t s links → Phase h (t ++ e ∷ []) s' links'
  phase_same h links links' mt tm none same (idle busy to_t to_m all) = idle (keeps.busy ∙ busy) (mt ∙ to_t) (tm ∙ to_m) (configured_same all)
  phase_same h links links' mt tm none same (commanded b there shape threshold policy busy to_t to_m before unsent absent only) =
      commanded b (there_then t e plain.undrawn b there) shape threshold policy (keeps.busy ∙ busy) (mt ∙ to_t) (tm ∙ to_m)
      (λ d. submitted-next b d t e ∙ ap (λ xs. xs ++ submission b d t e) (before d) ∙ none b there busy absent d)
      (same b there busy ∙ unsent)
      (none_after b.id absent)
      (λ c at lacks. only c (there_before t e plain.undrawn c at) (none_before c.id lacks))
  phase_same h links links' mt tm none same (answered b there busy to_t to_m all) =
      answered b (there_then t e plain.undrawn b there) (keeps.busy ∙ busy) (mt ∙ to_t) (tm ∙ to_m) (configured_same all)
  phase_same h links links' mt tm none same (recovering b there busy to_t to_m all) =
      recovering b (there_then t e plain.undrawn b there) (keeps.busy ∙ busy) (mt ∙ to_t) (tm ∙ to_m) (configured_same all)
  phase_same h links links' mt tm none same (recovered b there busy to_t to_m all) =
      recovered b (there_then t e plain.undrawn b there) (keeps.busy ∙ busy) (mt ∙ to_t) (tm ∙ to_m) (configured_same all)
