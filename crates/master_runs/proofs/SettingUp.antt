-- A bearer is set up: at the master, at the terminal, and at the master again; and what a node takes from a control link.
use Rattle.std.proofs.Common.{ℕ, ◌≡◌, ◌-◌, ◌^◌, ◌<◌, ◌≤◌, List, [], ◌∷◌, Some, true, false, slice_get, sym, subst}
use Rattle.std.specs.Prelude.{nat_le, is_some}
use Rattle.dc_base.specs.declared.numbers.SnLen.{SnLen}
use Rattle.dc_base.specs.declared.nodes.Shape.{Shape}
use Rattle.dc_base.specs.declared.flights.Flight.{Flight}
use Rattle.dc_base.specs.declared.flights.Flight.TheVariants as flight
use Rattle.dc_base.specs.declared.records.Plan.{Plan}
use Rattle.dc_base.specs.declared.records.Rec.TheVariants.{Reconf, Rcomp, Recov, Recovd}
use Rattle.dc_base.specs.declared.answers.Answer.TheVariants as answer
use Rattle.dc_base.specs.declared.events.Header.{Header}
use Rattle.dc_base.specs.declared.events.Event.TheVariants.{Bearer, Step}
use Rattle.dc_base.specs.Nodes.{is_mm}
use Rattle.transcript.specs.Transcript.{Entry}
use Rattle.transcript.specs.Content.{mt_ctl, tm_ctl}
use Rattle.master_runs.specs.Entities.{bearer_in}
use Rattle.master_runs.specs.Control.{plan_for, set_up, told_terminal, told_master}
use Rattle.master_runs.specs.Links.{on}
use Rattle.master_runs.specs.Run.{WorldState}
use Rattle.master_runs.proofs.Sound.{idle as phase_idle, commanded as phase_commanded, answered as phase_answered, recovering as phase_recovering, recovered as phase_recovered, Happened, Sound}
use Rattle.master_runs.proofs.Beginning.{began_happened}
use Rattle.master_runs.proofs.Configuring.{configured_happened}
use Rattle.master_runs.proofs.Completing.{completed_happened, told_done}
use Rattle.master_runs.proofs.Recovering.{recov_happened, recovd_happened}

-- what is taken from the link is the one flight there
one_there : (fs : List Flight) (f g : Flight) → slice_get fs 0 ≡ Some f → fs ≡ g ∷ [] → f ≡ g
one_there fs f g at is = let first : slice_get (g ∷ []) 0 ≡ Some f = subst (λ xs. slice_get xs 0 ≡ Some f) is at in cc

-- and nothing is taken where nothing stands
none_there : (fs : List Flight) (f : Flight) → slice_get fs 0 ≡ Some f → fs ≡ [] → ⊥
none_there fs f at is = let first : slice_get [] 0 ≡ Some f = subst (λ xs. slice_get xs 0 ≡ Some f) is at in cc

module _ (h : Header) (policies : ℕ) (t : List Entry) (w : WorldState) (sound : Sound h policies t w) where
  -- a bearer is set up
  pub set_up_happened : (id : ℕ) (n : SnLen) (first : ℕ) (shape : Shape) (threshold policy : ℕ) → id ≤ 32 → first < 2 ^ 32 - 1
      → is_some w.nodes.busy ≡ false → is_some (bearer_in w.nodes.master id) ≡ false → is_mm shape ≡ true → nat_le policies policy ≡ false
      → let done = set_up h w.nodes id n first shape threshold policy in
      Happened h policies t w (record { event = Bearer id n first shape threshold policy; answer = answer.Ok; lines = done.1.1 }) done.0
  set_up_happened id n first shape threshold policy small short free new mm known = began_happened h policies t w sound id n first shape threshold policy small short free new mm known

  -- the terminal takes the plan
  pub told_terminal_happened : (f : Flight) → slice_get (on w.links mt_ctl) 0 ≡ Some f
      → let done = told_terminal h w.nodes f in
      Happened h policies t w (record { event = Step mt_ctl 0; answer = answer.Ok; lines = done.1 }) done.0
  told_terminal_happened f at = elim sound.phase [
    | phase_idle busy empty answers all ↦ absurd (none_there (on w.links mt_ctl) f at empty)
    | phase_commanded b there shape threshold policy busy plans answers none unsent lacks only ↦
        let plan : Plan = plan_for b.g b.id b.n b.first shape threshold policy in
        subst (λ f. Happened h policies t w (record { event = Step mt_ctl 0; answer = answer.Ok; lines = (told_terminal h w.nodes f).1 }) (told_terminal h w.nodes f).0)
        (sym (one_there (on w.links mt_ctl) f (flight.Ctl (Reconf plan h.root)) at plans))
        (configured_happened h policies t w sound b there shape threshold policy lacks plans busy answers only)
    | phase_answered b there busy empty answers all ↦ absurd (none_there (on w.links mt_ctl) f at empty)
    | phase_recovering b there busy plans empty all ↦
        subst (λ f. Happened h policies t w (record { event = Step mt_ctl 0; answer = answer.Ok; lines = (told_terminal h w.nodes f).1 }) (told_terminal h w.nodes f).0)
        (sym (one_there (on w.links mt_ctl) f (flight.Ctl (Recov b.id)) at plans))
        (recov_happened h policies t w sound b there busy all plans empty)
    | phase_recovered b there busy empty answers all ↦ absurd (none_there (on w.links mt_ctl) f at empty)
  ]

  -- the master takes that it did
  pub told_master_happened : (f : Flight) → slice_get (on w.links tm_ctl) 0 ≡ Some f
      → let done = told_master w.nodes f in
      Happened h policies t w (record { event = Step tm_ctl 0; answer = answer.Ok; lines = done.1 }) done.0
  told_master_happened f at = elim sound.phase [
    | phase_idle busy plans empty all ↦ absurd (none_there (on w.links tm_ctl) f at empty)
    | phase_commanded b there shape threshold policy busy plans empty none unsent lacks only ↦ absurd (none_there (on w.links tm_ctl) f at empty)
    | phase_answered b there busy plans answers all ↦
        subst (λ f. Happened h policies t w (record { event = Step tm_ctl 0; answer = answer.Ok; lines = (told_master w.nodes f).1 }) (told_master w.nodes f).0)
        (sym (one_there (on w.links tm_ctl) f (flight.Ctl (Rcomp b.g)) at answers))
        (subst (λ done. Happened h policies t w (record { event = Step tm_ctl 0; answer = answer.Ok; lines = done.1 }) done.0)
        (sym (told_done h policies t w sound b there busy)) (completed_happened h policies t w sound b there answers plans all))
    | phase_recovering b there busy plans empty all ↦ absurd (none_there (on w.links tm_ctl) f at empty)
    | phase_recovered b there busy plans answers all ↦
        subst (λ f. Happened h policies t w (record { event = Step tm_ctl 0; answer = answer.Ok; lines = (told_master w.nodes f).1 }) (told_master w.nodes f).0)
        (sym (one_there (on w.links tm_ctl) f (flight.Ctl (Recovd b.id)) at answers))
        (recovd_happened h policies t w sound b there busy all plans answers)
  ]
