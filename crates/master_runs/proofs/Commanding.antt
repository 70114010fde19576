-- A bearer that the master is to set up, or a recovery that it is to start: it is done, or refused.
use Rattle.std.proofs.Common.{ℕ, ◌≡◌, ◌-◌, ◌^◌, ◌<◌, ◌≤◌, List, [], Option, Some, None, Bool, true, false, refl, sym, ap, ◌∙◌}
use Rattle.std.specs.Prelude.{nat_le, not, is_some}
use Rattle.std.specs.Option.{option_map}
use Rattle.std.proofs.lemmas.Bool.{cond_both, cond-true, cond-false}
use Rattle.dc_base.specs.declared.numbers.SnLen.{SnLen}
use Rattle.dc_base.specs.declared.nodes.Shape.{Shape}
use Rattle.dc_base.specs.declared.answers.Answer.TheVariants.{No}
use Rattle.dc_base.specs.declared.answers.Refusal.{Refusal}
use Rattle.dc_base.specs.declared.answers.Refusal.TheVariants.{NoBearer, BearerThere, Busy, NoSecondary, NoPolicy}
use Rattle.dc_base.specs.declared.events.Header.{Header}
use Rattle.dc_base.specs.declared.events.Event.TheVariants.{Bearer, Recover}
use Rattle.dc_base.specs.Nodes.{is_mm}
use Rattle.transcript.specs.Transcript.{Entry}
use Rattle.transcript.specs.Content.{place_taken}
use Rattle.transcript.specs.Bearers.{Established, OpenCommand, open_command, at_master}
use Rattle.transcript.specs.Claims.{bearer_answer, recover_answer}
use Rattle.master_runs.specs.Entities.{Entities, bearer_in}
use Rattle.master_runs.specs.Control.{set_up, commanded, unless_open, recovered, recovery_commanded}
use Rattle.master_runs.specs.Run.{WorldState}
use Rattle.master_runs.proofs.Sound.{Sound}
use Rattle.master_runs.proofs.Refusing.{refused_happened}
use Rattle.master_runs.proofs.Recovering.{recover_happened}
use Rattle.master_runs.proofs.SettingUp.{set_up_happened}
use Rattle.master_runs.proofs.Plain.{is_some_map}
use Rattle.master_runs.proofs.Deciding.{Next, next, at_master_is}

module _ (h : Header) (policies : ℕ) (t : List Entry) (w : WorldState) (sound : Sound h policies t w) where
  -- a command is open for the transcript where one is for the nodes
  busy_same : is_some (open_command t) ≡ is_some w.nodes.busy
  busy_same = ap (λ (o : Option OpenCommand). is_some o) (sym sound.tables.busy_is)

  -- a bearer that is refused
  refuse_bearer : (id : ℕ) (n : SnLen) (first : ℕ) (shape : Shape) (threshold policy : ℕ) (why : Refusal) → place_taken (Bearer id n first shape threshold policy) (No why) ≡ None
      → No why ≡ bearer_answer policies t id shape policy → Next h policies t w (Bearer id n first shape threshold policy) (w.nodes, (No why, []))
  refuse_bearer id n first shape threshold policy why none due =
      next h policies t w sound (Bearer id n first shape threshold policy) (w.nodes, (No why, []))
      (refused_happened h policies t w sound (Bearer id n first shape threshold policy) why (λ g. refl) refl (λ g o. refl) (λ b d c. refl) refl none due)

  -- with no command open that is all that it has
  idle_has : (id : ℕ) → is_some w.nodes.busy ≡ false → is_some (at_master id t) ≡ is_some (bearer_in w.nodes.master id)
  idle_has id free = ap (λ (o : Option Established). is_some o) (at_master_is h policies t w sound id) ∙ is_some_map (unless_open w.nodes.busy (bearer_in w.nodes.master id)) ∙ unopened w.nodes.busy free (bearer_in w.nodes.master id)
    where
      unopened : (g : Option OpenCommand) → is_some g ≡ false → (o : Option Entities) → is_some (unless_open g o) ≡ is_some o
      unopened None free None = refl
      unopened None free (Some e) = refl
      unopened (Some g) free o = absurd cc

  -- a bearer is set up, or refused
  pub bearer_sound : (id : ℕ) (n : SnLen) (first : ℕ) (shape : Shape) (threshold policy : ℕ) → id ≤ 32 → first < 2 ^ 32 - 1
      → Next h policies t w (Bearer id n first shape threshold policy) (commanded policies h w.nodes id n first shape threshold policy)
  bearer_sound id n first shape threshold policy small short =
      let e = Bearer id n first shape threshold policy in
      cond_both (is_some w.nodes.busy) (w.nodes, (No Busy, [])) _ (Next h policies t w e)
      (λ busy. refuse_bearer id n first shape threshold policy Busy refl (sym (cond-true _ _ _ (busy_same ∙ busy))))
      (λ free.
      let has = idle_has id free in
      cond_both (is_some (bearer_in w.nodes.master id)) (w.nodes, (No BearerThere, [])) _ (Next h policies t w e)
      (λ there. refuse_bearer id n first shape threshold policy BearerThere refl (sym (cond-false _ _ _ (busy_same ∙ free) ∙ cond-true _ _ _ (has ∙ there))))
      (λ new.
      cond_both (not (is_mm shape)) (w.nodes, (No NoSecondary, [])) _ (Next h policies t w e)
      (λ away. refuse_bearer id n first shape threshold policy NoSecondary refl (sym (cond-false _ _ _ (busy_same ∙ free) ∙ cond-false _ _ _ (has ∙ new) ∙ cond-true _ _ _ away)))
      (λ mm.
      cond_both (nat_le policies policy) (w.nodes, (No NoPolicy, [])) (set_up h w.nodes id n first shape threshold policy) (Next h policies t w e)
      (λ unknown. refuse_bearer id n first shape threshold policy NoPolicy refl (sym (cond-false _ _ _ (busy_same ∙ free) ∙ cond-false _ _ _ (has ∙ new) ∙ cond-false _ _ _ mm ∙ cond-true _ _ _ unknown)))
      (λ known. next h policies t w sound e (set_up h w.nodes id n first shape threshold policy)
      (set_up_happened h policies t w sound id n first shape threshold policy small short free new (not_not (is_mm shape) mm) known)))))
    where
      not_not : (c : Bool) → not c ≡ false → c ≡ true
      not_not true no' = refl
      not_not false no' = absurd cc

  -- a recovery is commanded, or refused
  pub recover_sound : (id : ℕ) → Next h policies t w (Recover id) (recovery_commanded h w.nodes id)
  recover_sound id =
      cond_both (is_some w.nodes.busy) (w.nodes, (No Busy, [])) (recovered h w.nodes id (unless_open w.nodes.busy (bearer_in w.nodes.master id))) (Next h policies t w (Recover id))
      (λ busy. refuse Busy (sym (cond-true _ _ _ (busy_same ∙ busy))))
      (λ free. found free (unless_open w.nodes.busy (bearer_in w.nodes.master id)) refl)
    where
      refuse : (why : Refusal) → No why ≡ recover_answer t (at_master id t) → Next h policies t w (Recover id) (w.nodes, (No why, []))
      refuse why due = next h policies t w sound (Recover id) (w.nodes, (No why, [])) (refused_happened h policies t w sound (Recover id) why (λ g. refl) refl (λ g o. refl) (λ b d c. refl) refl refl due)

      found : is_some w.nodes.busy ≡ false → (o : Option Entities) → unless_open w.nodes.busy (bearer_in w.nodes.master id) ≡ o → Next h policies t w (Recover id) (recovered h w.nodes id o)
      found free None is =
          let none : at_master id t ≡ None = at_master_is h policies t w sound id ∙ ap (option_map (λ (x : Entities). x.bearer)) is in
          refuse NoBearer (sym (cond-false _ _ _ (busy_same ∙ free) ∙ cond-false _ _ _ (ap (λ (x : Option Established). is_some x) none)))
      found free (Some e) is = next h policies t w sound (Recover id) (recovered h w.nodes id (Some e)) (recover_happened h policies t w sound id e free is)
