-- In each run a status report that is asked for at the master is answered as it is due.
use Rattle.std.proofs.Common.{ℕ, ◌≡◌, ◌&&◌, ◌||◌, Bool, true, false, List, [], ◌∷◌, Option, Some, None, refl, sym, ap, ◌∙◌, inl, inr, length}
use Rattle.std.specs.List.{AllByRecursion, list_any}
use Rattle.std.specs.Prelude.{if◌then◌else◌, is_none, is_some, not}
use Rattle.std.proofs.lemmas.Bool.{cases_Bool, eq-eqb}
use Rattle.dc_base.specs.declared.answers.Answer.{Answer}
use Rattle.dc_base.specs.declared.answers.Refusal.TheVariants as refusal
use Rattle.dc_base.specs.declared.events.Event.{Event}
use Rattle.dc_base.specs.declared.events.Event.TheVariants as event
use Rattle.dc_base.specs.declared.events.Header.{Header}
use Rattle.dc_base.specs.declared.nodes.Node.TheVariants.{A, B, M, T}
use Rattle.transcript.specs.Transcript.{Entry}
use Rattle.claims.specs.Causes.{at_master, first_of_them, has_cause}
use Rattle.claims.specs.Claim.{Each}
use Rattle.claims.specs.Judged.{judged}
use Rattle.claims.specs.Names.{cause, claim}
use Rattle.claims.specs.Past.{Bearer, Past, new_past}
use Rattle.claims.specs.Reading as reading
use Rattle.claims.specs.Sameness.{answer_number, is_same_answer, kept_if}
use Rattle.node_rules.specs.Choices.{Choices}
use Rattle.node_rules.specs.CommandTable.{row}
use Rattle.node_rules.specs.Master.{MasterNode}
use Rattle.node_rules.specs.MasterState.{MasterProc, has_bearer, is_unsettled, is_unsettled_by}
use Rattle.node_rules.specs.MasterStep.{report_asked}
use Rattle.node_rules.specs.Run.{entries_from, world_step}
use Rattle.node_rules.specs.World.{World, new_world}
use Rattle.node_rules.specs.declared.commands.Row.{Row}
use Rattle.run_control.specs.Sound.{AddsSecond}
use Rattle.run_words.specs.Parts.{at_events}
use Rattle.run_words.proofs.Runs.{each_if, none_said}
use Rattle.run_windows.specs.Fits.{Fits, absent, awaited, set_up, there}
use Rattle.run_windows.specs.Seen.{Count, Face, latest, seen, seen_of}
use Rattle.run_windows.proofs.Latest.{some_is}
use Rattle.run_agreed.specs.BearerCauses.{is_master_report}
use Rattle.run_agreed.specs.Dropped.{IsGoneOrGoing, is_dropped_in, is_going, is_gone}
use Rattle.run_agreed.proofs.BearerCauses.{AllHold, absent_is, and_false, hold_new, hold_next, in_of, kept_there, none_some, not_both, out_of, seen_at}

module _ (c : Choices) (w : World) (p : Past) (is : AllHold c p w) (id : ℕ) where
  abbrev proc : MasterProc
  proc = w.master.proc

  -- whether the past has it at the master
  abbrev has : Option Bearer → Bool
  has o = is_some (kept_if (kept_there c w p is) o)

  face_is : (b : Bearer) (y : Face × Count) → reading.latest p id ≡ Some b → latest id (seen p).bearers ≡ Some y → seen_of b ≡ y
  face_is b y at y_at = some_is (seen_of b) y (sym (seen_at c w p is id (Some b) at) ∙ y_at)

  -- one that is not done
  undone : (o : Option Bearer) → reading.latest p id ≡ o → (y : Face × Count) → latest id (seen p).bearers ≡ Some y → y.0.is_done ≡ false → has o ≡ false
  undone None at y y_at new = refl
  undone (Some b) at y y_at new =
      out_of c w p is b (ap (λ d. d && not b.is_dropped) (ap (λ (z : Face × Count). z.0.is_done) (face_is b y at y_at) ∙ new))

  -- the master has a row, and no open command sets the bearer up or drops it
  abbrev holds_by : Option Row → Bool → Bool
  holds_by r unsettled = is_some r && not unsettled

  -- one that was dropped
  dropped_is : (b : Bearer) → reading.latest p id ≡ Some b → b.is_dropped ≡ true → (r : Row) → row proc.table id ≡ Some r → is_unsettled id proc.command ≡ true
  dropped_is b at dropped r row_at = by (is.drops id (ap is_dropped_in (seen_at c w p is id (Some b) at) ∙ dropped))
    where
      by : IsGoneOrGoing id proc → is_unsettled id proc.command ≡ true
      by (is_gone none unset) = absurd (not_both c w p is (row proc.table id) r none row_at)
      by (is_going ch f who wanted opened items) =
          ap (is_unsettled id) opened ∙ ap (λ xs. list_any (is_unsettled_by id) xs) items ∙ ap (λ d. d || false) (eq-eqb id id refl)

  done_is : (o : Option Bearer) → reading.latest p id ≡ o → (y : Face × Count) → latest id (seen p).bearers ≡ Some y → (r : Row) → row proc.table id ≡ Some r → y.0.is_done ≡ true
      → (y.0.is_dropped ≡ false → is_unsettled id proc.command ≡ false) → has o ≡ holds_by (row proc.table id) (is_unsettled id proc.command)
  done_is None at y y_at r row_at done settled = absurd (not_both c w p is (latest id (seen p).bearers) y (seen_at c w p is id None at) y_at)
  done_is (Some b) at y y_at r row_at done settled =
      let same = face_is b y at y_at in
      let b_done : b.is_done ≡ true = ap (λ (z : Face × Count). z.0.is_done) same ∙ done in
      elim (cases_Bool b.is_dropped) [
        | inl dropped ↦
            out_of c w p is b (ap (λ d. b.is_done && not d) dropped ∙ and_false c w p is b.is_done)
            ∙ sym (ap (λ u. holds_by (row proc.table id) u) (dropped_is b at dropped r row_at) ∙ ap (λ x. holds_by x true) row_at)
        | inr kept' ↦
            let free = settled (sym (ap (λ (z : Face × Count). z.0.is_dropped) same) ∙ kept') in
            in_of c w p is b (ap (λ d. d && not b.is_dropped) b_done ∙ ap not kept') ∙ sym (ap (λ u. holds_by (row proc.table id) u) free ∙ ap (λ x. holds_by x false) row_at)
      ]

  by_fits : (o : Option Bearer) → reading.latest p id ≡ o → Fits (seen p) proc id → has o ≡ holds_by (row proc.table id) (is_unsettled id proc.command)
  by_fits o at (absent none out) = absent_is c w p is id o at out ∙ sym (ap (λ x. holds_by x (is_unsettled id proc.command)) none)
  by_fits o at (awaited y y_at none ch f who wanted opened sets new) = undone o at y y_at new.0 ∙ sym (ap (λ x. holds_by x (is_unsettled id proc.command)) none)
  by_fits o at (set_up y y_at r row_at same plan going opened sets new) =
      undone o at y y_at new.0 ∙ sym (ap (λ u. holds_by (row proc.table id) u) (ap (is_unsettled id) opened ∙ sets) ∙ ap (λ x. holds_by x true) row_at)
  by_fits o at (there y y_at r row_at same done settled) = done_is o at y y_at r row_at done settled

  -- the bearers at the master are those that its procedures have
  pub master_has : is_none (at_master p id) ≡ not (has_bearer proc id)
  master_has = none_some (at_master p id) ∙ ap not (by_fits (reading.latest p id) refl (is.windows.fit.each id))

report_answer : (c : Choices) (m : MasterNode) (id : ℕ) (there' : Bool) → (report_asked c m id there').1.answer ≡ first_of_them ((not there', refusal.NoBearer) ∷ [])
report_answer c m id true = refl
report_answer c m id false = refl

same_answer : (a b : Answer) → a ≡ b → is_same_answer a b ≡ true
same_answer a b is = eq-eqb (answer_number a) (answer_number b) (ap answer_number is)

abbrev report_has_cause : Past → Entry → Bool
report_has_cause p x = if is_master_report x.event then has_cause p x else true

cause_of : (c : Choices) (w : World) (p : Past) (e : Event) → AllHold c p w → report_has_cause p (world_step c w e).1 ≡ true
cause_of c w p (event.Report M id) is =
    same_answer (report_asked c w.master id (has_bearer w.master.proc id)).1.answer (first_of_them ((is_none (at_master p id), refusal.NoBearer) ∷ []))
    (report_answer c w.master id (has_bearer w.master.proc id) ∙ ap (λ b. first_of_them ((b, refusal.NoBearer) ∷ [])) (sym (master_has c w p is id)))
cause_of c w p (event.Report T id) is = refl
cause_of c w p (event.Report A id) is = refl
cause_of c w p (event.Report B id) is = refl
cause_of c w p (event.Bearer id n first shape threshold policy) is = refl
cause_of c w p (event.Reshape id shape) is = refl
cause_of c w p (event.Remove id) is = refl
cause_of c w p (event.Add x) is = refl
cause_of c w p event.Change is = refl
cause_of c w p event.Release is = refl
cause_of c w p event.RekeySecond is = refl
cause_of c w p (event.RekeyMaster root) is = refl
cause_of c w p (event.Recover id) is = refl
cause_of c w p (event.Deny x on) is = refl
cause_of c w p (event.Ask x what) is = refl
cause_of c w p event.ScgFail is = refl
cause_of c w p (event.Submit id d payload) is = refl
cause_of c w p (event.Step l i) is = refl
cause_of c w p (event.Lose l i) is = refl
cause_of c w p (event.Again l i) is = refl

-- each status report that is asked for at the master is answered ok where its bearer is done and not dropped, and else that there is none
pub master_reports_hold : (c : Choices) (h : Header) (es : List Event) → AllByRecursion AddsSecond es
    → Each (at_events is_master_report (claim cause)) (new_past h (length c.policies)) (entries_from c (new_world h) es)
master_reports_hold c h es names =
    each_if c (at_events is_master_report (claim cause)) AddsSecond (AllHold c) (λ w p e name l. none_said (judged e (world_step c w e).1.answer p) (world_step c w e).1.lines) (λ w p e name l. cause_of c w p e l)
    (λ w p e name l. hold_next c w p e name l) es names (new_world h) (new_past h (length c.policies)) (hold_new c h)
