-- The answers by what is told, where each `freed` line was written; and how far the submissions of a bearer go.
use Rattle.std.proofs.Common.{ℕ, ◌≡◌, ◌≤◌, ◌+◌, ◌-◌, ◌==◌, ◌^◌, Bool, true, false, List, [], ◌∷◌, Option, Some, None, refl, sym, ap, subst, ◌∙◌, inl, inr}
use Rattle.std.specs.Prelude.{is_some, nat_le, not, if◌then◌else◌, ◌&&◌}
use Rattle.std.specs.Option.{option_map}
use Rattle.std.proofs.lemmas.Bool.{cases_Bool}
use Rattle.dc_base.specs.Count.{window}
use Rattle.dc_base.specs.declared.answers.Refusal.TheVariants as refusal
use Rattle.dc_base.specs.declared.events.Event.TheVariants as event
use Rattle.dc_base.specs.declared.nodes.Dir.TheVariants.{Dl}
use Rattle.claims.specs.Causes.{at_master, first_of_them, has_cause, submit_due}
use Rattle.claims.specs.Past.{Bearer, Past}
use Rattle.claims.specs.Reading.{latest, next_count}
use Rattle.claims.specs.Sameness.{is_same_answer, kept_if}
use Rattle.node_rules.specs.Choices.{Choices}
use Rattle.node_rules.specs.CommandTable.{row}
use Rattle.node_rules.specs.Held.{held}
use Rattle.node_rules.specs.Run.{world_step}
use Rattle.node_rules.specs.World.{World}
use Rattle.node_rules.specs.declared.bearers.Window.{Window}
use Rattle.node_rules.specs.declared.commands.Row.{Row}
use Rattle.run_windows.specs.Answers.{submission_due, unless_dropped}
use Rattle.run_windows.specs.Fits.{Fits, IsNoneOrOut, absent, awaited, set_up, there}
use Rattle.run_windows.specs.Seen.{Count, Face, seen, seen_of}
use Rattle.run_windows.specs.Seen as sight
use Rattle.run_windows.specs.Windows.{IsWindow}
use Rattle.run_windows.proofs.Answering.{Holds, answer_is, latest_is}
use Rattle.run_windows.proofs.Latest.{some_is}

-- what passes a test was there
kept_some : (t : Bearer → Bool) (o : Option Bearer) (x : Bearer) → kept_if t o ≡ Some x → o ≡ Some x
kept_some t None x is = is
kept_some t (Some y) x is =
    elim (cases_Bool (t y)) [
      | inl passes ↦ sym (ap (λ z. if z then Some y else None) passes) ∙ is
      | inr fails ↦ let bad : None ≡ Some x = sym (ap (λ z. if z then Some y else None) fails) ∙ is in absurd (cc bad)
    ]

-- both answers are the same where what was told was freed
due_same : (o : Option Bearer) → ((x : Bearer) → o ≡ Some x → x.down.freed ≡ x.down.told) → submission_due o ≡ submit_due Dl o
due_same None told = refl
due_same (Some x) told =
    ap (λ k. first_of_them ((nat_le (k + window x.n) (next_count Dl x), refusal.Full) ∷ (next_count Dl x == 2 ^ 32 - 1, refusal.Exhausted) ∷ [])) (told x refl)

-- of a bearer that is not dropped something is said
not_dropped : (o : Option Bearer) (b : Bearer) (z : Bool) → o ≡ Some b → b.is_dropped ≡ false → unless_dropped o z ≡ true → z ≡ true
not_dropped o b z at kept is = sym (ap (λ d. if d then true else z) kept) ∙ subst (λ y. unless_dropped y z ≡ true) at is

module _ (c : Choices) (v : World) (p : Past) (holds : Holds p v) (id : ℕ) (b : Bearer) (at : latest p id ≡ Some b) (kept : b.is_dropped ≡ false) where
  -- where what was told was freed, the answer to a submission is the one that the claims find due
  pub told_cause : (payload : List ℕ) → b.down.freed ≡ b.down.told → has_cause p (world_step c v (event.Submit id Dl payload)).1 ≡ true
  told_cause payload told =
      let a = (world_step c v (event.Submit id Dl payload)).1.answer in
      let of : (x : Bearer) → at_master p id ≡ Some x → x.down.freed ≡ x.down.told =
      λ x is. subst (λ (y : Bearer). y.down.freed ≡ y.down.told) (some_is b x (sym at ∙ kept_some (λ y. y.is_done && not y.is_dropped) (latest p id) x is)) told in
      subst (λ y. is_same_answer a y ≡ true) (due_same (at_master p id) of)
      (not_dropped (latest p id) b (is_same_answer a (submission_due (at_master p id))) at kept (answer_is c v p (event.Submit id Dl payload) holds))

  -- the next COUNT of a bearer that is there is at most a window past the last `freed` line
  pub next_within : b.is_done ≡ true → next_count Dl b ≤ b.down.freed + window b.n
  next_within done = by (holds.fit.each id)
    where
      seen_at : sight.latest id (seen p).bearers ≡ Some (seen_of b)
      seen_at = latest_is id p.bearers ∙ ap (option_map seen_of) at

      of_window : (r : Row) → row v.master.proc.table id ≡ Some r → (o : Option Window) → held id v.master.windows ≡ o → next_count Dl b ≤ b.down.freed + window b.n
      of_window r row_at None none = let bad : false ≡ true = sym (ap is_some none) ∙ holds.there id ∙ ap is_some row_at in absurd (cc bad)
      of_window r row_at (Some w) some =
          let x = holds.counted.each id w some in
          let is : IsWindow (seen_of b) w = subst (λ (y : Face × Count). IsWindow y w) (some_is x.0 (seen_of b) (sym x.1 ∙ seen_at)) x.2 in is.within

      by : Fits (seen p) v.master.proc id → next_count Dl b ≤ b.down.freed + window b.n
      by (absent none out) =
          elim (subst (λ o. IsNoneOrOut (seen p).kind o) seen_at out) [
            | inl gone ↦ let bad : true ≡ false = sym gone ∙ kept in absurd (cc bad)
            | inr never ↦ let bad : true ≡ false = sym done ∙ never.0 in absurd (cc bad)
          ]
      by (awaited y y_at none ch f x w opened sets new) =
          let same : y ≡ seen_of b = some_is y (seen_of b) (sym y_at ∙ seen_at) in
          let bad : true ≡ false = sym done ∙ ap (λ (z : Face × Count). z.0.is_done) (sym same) ∙ new.0 in absurd (cc bad)
      by (set_up y y_at r row_at row_is q g at_work sets new) = of_window r row_at (held id v.master.windows) refl
      by (there y y_at r row_at row_is done' settled) = of_window r row_at (held id v.master.windows) refl
