-- In each run the master takes each record of the terminal, and what waits for the terminal has its record or its answer on its way.
use Rattle.std.proofs.Common.{◌≡◌, Bool, true, false, List, [], ◌∷◌, refl, sym, ap, subst, ◌∙◌}
use Rattle.std.specs.Prelude.{if◌then◌else◌, not}
use Rattle.dc_base.specs.declared.events.Event.{Event}
use Rattle.dc_base.specs.declared.events.Header.{Header}
use Rattle.dc_base.specs.declared.nodes.Node.TheVariants.{M, T}
use Rattle.dc_base.specs.declared.records.Rec.{Rec}
use Rattle.dc_base.specs.declared.records.Rec.TheVariants as rec
use Rattle.node_rules.specs.Choices.{Choices}
use Rattle.node_rules.specs.MasterState.{MasterProc}
use Rattle.node_rules.specs.MasterTaking.{from_terminal, master_take}
use Rattle.node_rules.specs.Run.{world_after}
use Rattle.node_rules.specs.World.{new_world}
use Rattle.run_control.specs.Claims.{FirstIs, IsAnswer, Talks, answered_once, asked_once, is_failure, quiet_both}
use Rattle.run_control.specs.Links.{records_on}
use Rattle.run_control.specs.Rows.{IsTaken}
use Rattle.run_control.specs.Sound.{AreSound}
use Rattle.run_control.specs.Telling.{due_by, nothing_due}
use Rattle.run_control.proofs.Answers.{answer_taken}
use Rattle.run_control.proofs.BookRuns.{talks_always}
use Rattle.run_control.proofs.Talks.{answering, first_or}

-- a failure is taken at any time
failure_taken : (m : MasterProc) (r : Rec) → is_failure r ≡ true → IsTaken (from_terminal m r)
failure_taken m (rec.Reconf plan key) is = absurd cc
failure_taken m (rec.Rcomp g) is = absurd cc
failure_taken m (rec.Scgf failed) is = tt
failure_taken m (rec.Recov id) is = absurd cc
failure_taken m (rec.Recovd id) is = absurd cc
failure_taken m (rec.Addreq plan key) is = absurd cc
failure_taken m (rec.Addack g) is = absurd cc
failure_taken m (rec.Addrej g) is = absurd cc
failure_taken m (rec.Modreq plan key) is = absurd cc
failure_taken m (rec.Modack g) is = absurd cc
failure_taken m (rec.Modrej g) is = absurd cc
failure_taken m (rec.Recfg g) is = absurd cc
failure_taken m (rec.Relreq plan) is = absurd cc
failure_taken m (rec.Relack g) is = absurd cc
failure_taken m (rec.Relrej g) is = absurd cc
failure_taken m (rec.Uecr g) is = absurd cc
failure_taken m (rec.Snst status) is = absurd cc
failure_taken m (rec.Moved g id) is = absurd cc
failure_taken m (rec.Scgn id g) is = absurd cc
failure_taken m rec.Modrqd is = absurd cc
failure_taken m (rec.Modcnf g) is = absurd cc
failure_taken m (rec.Modref word) is = absurd cc
failure_taken m rec.Chgrqd is = absurd cc
failure_taken m (rec.Chgcnf plan) is = absurd cc
failure_taken m (rec.Chgref word) is = absurd cc
failure_taken m rec.Relrqd is = absurd cc
failure_taken m (rec.Relcnf plan) is = absurd cc

-- what comes first from the terminal is a failure, or the answer that is due
heard : (m : MasterProc) (r : Rec) (down up : List Rec) → Talks (due_by m.command) down (r ∷ up) → IsTaken (from_terminal m r)
heard m r down up talks = by (is_failure r) refl talks
  where
    front : (b : Bool) → is_failure r ≡ b → answering (r ∷ up) ≡ (if not b then r ∷ answering up else answering up)
    front b is = ap (λ d. if not d then r ∷ answering up else answering up) is

    never_none : r ∷ answering up ≡ [] → ⊥
    never_none is = absurd cc

    one : (x : Rec) → r ∷ answering up ≡ x ∷ [] → r ≡ x
    one x is = ap (λ (rs : List Rec). first_or rs r) is

    by : (b : Bool) → is_failure r ≡ b → Talks (due_by m.command) down (r ∷ up) → IsTaken (from_terminal m r)
    by true is t = failure_taken m r is
    by false is (quiet_both none down_is up_is) = absurd (never_none (sym (front false is) ∙ up_is))
    by false is (asked_once x asks down_is up_is) = absurd (never_none (sym (front false is) ∙ up_is))
    by false is (answered_once x answers down_is up_is) = answer_taken m r (subst (IsAnswer (due_by m.command)) (sym (one x (sym (front false is) ∙ up_is))) answers)

first_heard : (m : MasterProc) (down up : List Rec) → Talks (due_by m.command) down up → FirstIs (λ r. IsTaken (master_take T m r)) up
first_heard m down [] talks = tt
first_heard m down (r ∷ up) talks = heard m r down up talks

-- no record of the terminal is without its row
pub heard_always : (c : Choices) (h : Header) (es : List Event) → AreSound es → (let w = world_after c (new_world h) es in FirstIs (λ r. IsTaken (master_take T w.master.proc r)) (records_on T M w))
heard_always c h es sound =
    let w = world_after c (new_world h) es in
    first_heard w.master.proc (records_on M T w) (records_on T M w) (talks_always c h es sound)

-- where neither line has anything, nothing is due
pub due_always : (c : Choices) (h : Header) (es : List Event) → AreSound es → (let w = world_after c (new_world h) es in records_on M T w ≡ [] → records_on T M w ≡ [] → due_by w.master.proc.command ≡ nothing_due)
due_always c h es sound = λ no_down no_up. by (records_on M T (world_after c (new_world h) es)) (records_on T M (world_after c (new_world h) es)) no_down no_up (talks_always c h es sound)
  where
    by : (down up : List Rec) → down ≡ [] → up ≡ [] → Talks (due_by (world_after c (new_world h) es).master.proc.command) down up → due_by (world_after c (new_world h) es).master.proc.command ≡ nothing_due
    by down up no_down no_up (quiet_both is down_is up_is) = is
    by down up no_down no_up (asked_once r asks down_is up_is) = never_one r (sym down_is ∙ no_down)
      where
        never_one : (x : Rec) → x ∷ [] ≡ [] → due_by (world_after c (new_world h) es).master.proc.command ≡ nothing_due
        never_one x is = absurd cc
    by down up no_down no_up (answered_once r answers down_is up_is) = never_one r (sym up_is ∙ ap answering no_up)
      where
        never_one : (x : Rec) → x ∷ [] ≡ [] → due_by (world_after c (new_world h) es).master.proc.command ≡ nothing_due
        never_one x is = absurd cc
