-- Where each `freed` line was written, a downlink submission is answered as the claims find it due, whatever became of its bearer.
use Rattle.std.proofs.Common.{ℕ, ◌≡◌, ◌+◌, ◌==◌, ◌-◌, ◌^◌, true, List, [], ◌∷◌, Option, Some, None, refl, ap, subst}
use Rattle.std.specs.Prelude.{nat_le}
use Rattle.dc_base.specs.Count.{window}
use Rattle.dc_base.specs.declared.answers.Refusal.TheVariants as refusal
use Rattle.dc_base.specs.declared.events.Event.TheVariants as event
use Rattle.dc_base.specs.declared.nodes.Dir.TheVariants.{Dl}
use Rattle.claims.specs.Causes.{at_master, first_of_them, has_cause, submit_due}
use Rattle.claims.specs.Past.{Bearer, Past}
use Rattle.claims.specs.Reading.{next_count}
use Rattle.claims.specs.Sameness.{is_same_answer}
use Rattle.node_rules.specs.Choices.{Choices}
use Rattle.node_rules.specs.Run.{world_step}
use Rattle.node_rules.specs.World.{World}
use Rattle.run_windows.specs.Answers.{submission_due}
use Rattle.run_agreed.proofs.BearerCauses.{AllHold, has_submission_answer}

-- both answers are the same where what was told was freed
due_same : (o : Option Bearer) → ((x : Bearer) → o ≡ Some x → x.down.freed ≡ x.down.told) → submission_due o ≡ submit_due Dl o
due_same None told = refl
due_same (Some x) told =
    ap (λ k. first_of_them ((nat_le (k + window x.n) (next_count Dl x), refusal.Full) ∷ (next_count Dl x == 2 ^ 32 - 1, refusal.Exhausted) ∷ [])) (told x refl)

-- the answer to a submission is the one that the claims find due
pub submission_cause : (c : Choices) (w : World) (p : Past) → AllHold c p w → (id : ℕ) (payload : List ℕ) → ((x : Bearer) → at_master p id ≡ Some x → x.down.freed ≡ x.down.told)
    → has_cause p (world_step c w (event.Submit id Dl payload)).1 ≡ true
submission_cause c w p is id payload told =
    subst (λ y. is_same_answer (world_step c w (event.Submit id Dl payload)).1.answer y ≡ true) (due_same (at_master p id) told) (has_submission_answer c w p is (event.Submit id Dl payload))
