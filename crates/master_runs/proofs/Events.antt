-- Any event does the same in both worlds.
use Rattle.std.proofs.Common.{ℕ, ◌≡◌, true, List, [], ◌∷◌, Option, Some, None, length, slice_get, refl, arith}
use Rattle.std.specs.Prelude.{is_some, nat_le, not}
use Rattle.std.specs.List.{AllByRecursion}
use Rattle.std.proofs.lemmas.Bool.{cond_both}
use Rattle.dc_base.specs.Nodes.{is_mm}
use Rattle.dc_base.specs.declared.answers.Answer.TheVariants as answer
use Rattle.dc_base.specs.declared.answers.Refusal.TheVariants as refusal
use Rattle.dc_base.specs.declared.events.Event.{Event}
use Rattle.dc_base.specs.declared.events.Event.TheVariants.{Bearer, Reshape, Remove, Add, Change, Release, RekeySecond, RekeyMaster, Recover, Report, Deny, Ask, ScgFail, Submit, Step, Lose, Again}
use Rattle.dc_base.specs.declared.events.Header.{Header}
use Rattle.dc_base.specs.declared.events.Line.TheVariants as line
use Rattle.dc_base.specs.declared.nodes.Dir.TheVariants.{Dl, Ul}
use Rattle.dc_base.specs.declared.nodes.Node.TheVariants.{T, M, A, B}
use Rattle.dc_base.specs.declared.nodes.Shape.{Shape}
use Rattle.dc_base.specs.declared.numbers.SnLen.{SnLen}
use Rattle.transcript.specs.Content.{mt_ctl}
use Rattle.transcript.specs.Transcript.{Entry}
use Rattle.master_runs.specs.Control.{Nodes, commanded, recovered, recovery_commanded, set_up, unless_open}
use Rattle.master_runs.specs.Entities.{Entities, bearer_in}
use Rattle.master_runs.specs.Links.{Links, on}
use Rattle.master_runs.specs.Plane.{Outcome, submitted}
use Rattle.master_runs.specs.OfMaster.{IsEventInRange, is_of_master}
use Rattle.master_runs.specs.Run.{WorldState, decided, reported_by}
use Rattle.master_runs.proofs.Sound.{Sound}
use Rattle.node_rules.specs.Choices.{Choices}
use Rattle.node_rules.specs.Entity.{Entity}
use Rattle.node_rules.specs.MasterStep.{master_step}
use Rattle.node_rules.specs.Run.{carried_on, copy_of, happening, loss_of}
use Rattle.node_rules.specs.Terminal.{terminal_step}
use Rattle.node_rules.specs.World.{World}
use Rattle.node_rules.specs.declared.inputs.Input.TheVariants.{Cmd}
use Rattle.master_runs.specs.Same.{Inside, IsPlainFlight, SameTerminal, SameMaster, WorldDid, terminal_as, master_as, world_as}
use Rattle.master_runs.proofs.Lifting.{by_terminal, by_master, by_none}
use Rattle.master_runs.proofs.SameRecovering.{recovery_down}
use Rattle.master_runs.proofs.Serving.{submitted_down, report_down}
use Rattle.master_runs.proofs.SameSettingUp.{bearer_down}
use Rattle.master_runs.proofs.Sounds.{servable}
use Rattle.master_runs.proofs.SameStepping.{step_same, tunnel_same}
use Rattle.master_runs.proofs.SameUpwards.{submitted_up, reported_up}

-- a bearer that is commanded leaves the terminal
commanded_terminal : (policies : ℕ) (h : Header) (s : Nodes) (id : ℕ) (n : SnLen) (first : ℕ) (shape : Shape) (threshold policy : ℕ)
    → (commanded policies h s id n first shape threshold policy).0.terminal ≡ s.terminal
commanded_terminal policies h s id n first shape threshold policy =
    let P : Nodes × Outcome → Type 0 = λ q. q.0.terminal ≡ s.terminal in
    cond_both (is_some s.busy) (s, (answer.No refusal.Busy, [])) _ P (λ yes'. refl) (λ no'.
    cond_both (is_some (bearer_in s.master id)) (s, (answer.No refusal.BearerThere, [])) _ P (λ yes'. refl) (λ no'.
    cond_both (not (is_mm shape)) (s, (answer.No refusal.NoSecondary, [])) _ P (λ yes'. refl) (λ no'.
    cond_both (nat_le policies policy) (s, (answer.No refusal.NoPolicy, [])) (set_up h s id n first shape threshold policy) P (λ yes'. refl) (λ no'. refl))))

-- and so does a recovery
recovered_terminal : (h : Header) (s : Nodes) (id : ℕ) (o : Option Entities) → (recovered h s id o).0.terminal ≡ s.terminal
recovered_terminal h s id None = refl
recovered_terminal h s id (Some e) = refl

recovery_terminal : (h : Header) (s : Nodes) (id : ℕ) → (recovery_commanded h s id).0.terminal ≡ s.terminal
recovery_terminal h s id =
    let P : Nodes × Outcome → Type 0 = λ q. q.0.terminal ≡ s.terminal in
    cond_both (is_some s.busy) (s, (answer.No refusal.Busy, [])) (recovered h s id (unless_open s.busy (bearer_in s.master id))) P (λ yes'. refl)
    (λ no'. recovered_terminal h s id (unless_open s.busy (bearer_in s.master id)))

module _ (h : Header) (c : Choices) (t : List Entry) (s : Nodes) (links : Links) (sound : Sound h (length c.policies) t (record { header = h; nodes = s; links = links }))
    (halves : List (ℕ × Entity)) (y : Inside) (term : SameTerminal h s.terminal halves) (mast : SameMaster h s y)
    (plain : AllByRecursion IsPlainFlight (on links mt_ctl)) where
  -- the two worlds
  abbrev first_world : WorldState
  first_world = record { header = h; nodes = s; links = links }

  abbrev second_world : World
  second_world = world_as h s.drawn halves y links

  -- what an event does in both
  abbrev Same : Event → Type 0
  Same e = WorldDid h links (carried_on c second_world (happening second_world e)) (decided (length c.policies) first_world e)

  -- any event
  pub event_same : (e : Event) → IsEventInRange e → is_of_master e ≡ true → Same e
  event_same (Bearer id n first shape threshold policy) good built =
      let e = Bearer id n first shape threshold policy in
      let long = sound.tables.master_long in
      by_master h s halves y links term mast (master_step c (master_as h s.drawn y) (Cmd e)) (commanded (length c.policies) h s id n first shape threshold policy)
      (bearer_down h c s.drawn s.master s.terminal y id n first shape threshold policy mast.command mast (omega (arith, good.0, long)) good.1)
      (commanded_terminal (length c.policies) h s id n first shape threshold policy)
  event_same (Recover id) good built =
      by_master h s halves y links term mast (master_step c (master_as h s.drawn y) (Cmd (Recover id))) (recovery_commanded h s id)
      (recovery_down h c s.drawn s.master s.terminal y id mast.command mast (λ e at. servable h (length c.policies) t first_world sound Dl id e at))
      (recovery_terminal h s id)
  event_same (Report M id) good built =
      by_master h s halves y links term mast (master_step c (master_as h s.drawn y) (Cmd (Report M id)))
      (let done = reported_by Dl s.master id (unless_open s.busy (bearer_in s.master id)) in (record s { master = done.0 }, done.1))
      (report_down h c s y mast id (mast.bearers id) refl refl refl refl (λ e at. servable h (length c.policies) t first_world sound Dl id e at)) refl
  event_same (Report T id) good built =
      by_terminal h s halves y links term mast (terminal_step c (terminal_as h halves) (Cmd (Report T id))) (reported_by Ul s.terminal id (bearer_in s.terminal id))
      (reported_up h c s.terminal halves term id (term id) refl)
  event_same (Report A id) good built = by_none h s halves y links term mast refusal.NoBearer
  event_same (Report B id) good built = by_none h s halves y links term mast refusal.NoBearer
  event_same (Submit id Dl payload) good built =
      by_master h s halves y links term mast (master_step c (master_as h s.drawn y) (Cmd (Submit id Dl payload)))
      (let done = submitted h Dl s.master id payload (unless_open s.busy (bearer_in s.master id)) in (record s { master = done.0 }, done.1))
      (submitted_down h c s y mast id payload (mast.bearers id) refl refl refl refl (λ e at. servable h (length c.policies) t first_world sound Dl id e at)) refl
  event_same (Submit id Ul payload) good built =
      by_terminal h s halves y links term mast (terminal_step c (terminal_as h halves) (Cmd (Submit id Ul payload))) (submitted h Ul s.terminal id payload (bearer_in s.terminal id))
      (submitted_up h c s.terminal halves term id payload (term id) refl (λ e at. (servable h (length c.policies) t first_world sound Ul id e at).rises))
  event_same (Step l i) good built =
      step_same h c t s links sound halves y term mast plain l i (slice_get (on links l) i) refl
  event_same (Lose l i) good built =
      tunnel_same h c t s links sound halves y term mast plain l i loss_of (λ f. []) refl (slice_get (on links l) i) refl
  event_same (Again l i) good built =
      tunnel_same h c t s links sound halves y term mast plain l i (copy_of l) (λ f. line.Send l f ∷ []) refl (slice_get (on links l) i) refl
  event_same (Reshape id shape) good built = absurd cc
  event_same (Remove id) good built = absurd cc
  event_same (Add node) good built = absurd cc
  event_same Change good built = absurd cc
  event_same Release good built = absurd cc
  event_same RekeySecond good built = absurd cc
  event_same (RekeyMaster root) good built = absurd cc
  event_same (Deny node state) good built = absurd cc
  event_same (Ask node what) good built = absurd cc
  event_same ScgFail good built = absurd cc
