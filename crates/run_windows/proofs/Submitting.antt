-- A downlink submission: its answer, and what is seen after it.
use Rattle.std.proofs.Common.{ℕ, ◌≡◌, ◌<◌, ◌+◌, ◌-◌, ◌==◌, ◌^◌, true, false, List, [], ◌∷◌, Option, Some, None, refl, sym, ap, subst, ◌∙◌, arith, inl, inr}
use Rattle.std.specs.Prelude.{is_some, nat_le, if◌then◌else◌}
use Rattle.std.specs.Option.{option_map}
use Rattle.std.proofs.lemmas.Bool.{cases_Bool, eqb-true, leb-false, leb-true, le-leb, lt-leb}
use Rattle.dc_base.specs.Count.{window}
use Rattle.dc_base.proofs.Counting.{window_some}
use Rattle.dc_base.specs.declared.answers.Answer.{Answer}
use Rattle.dc_base.specs.declared.answers.Answer.TheVariants as answer
use Rattle.dc_base.specs.declared.answers.Refusal.{Refusal}
use Rattle.dc_base.specs.declared.answers.Refusal.TheVariants as refusal
use Rattle.dc_base.specs.declared.events.Event.TheVariants as event
use Rattle.dc_base.specs.declared.nodes.Dir.TheVariants.{Dl}
use Rattle.dc_base.specs.declared.nodes.Node.{Node}
use Rattle.dc_base.specs.declared.nodes.Node.TheVariants.{A, B, M, T}
use Rattle.node_rules.specs.Acts.{first_refusal}
use Rattle.node_rules.specs.declared.bearers.Window.{Window}
use Rattle.node_rules.specs.AnchorSending.{submit}
use Rattle.node_rules.specs.Choices.{Choices}
use Rattle.node_rules.specs.CommandTable.{row}
use Rattle.node_rules.specs.Effects.{accepted, turned_down, unless}
use Rattle.node_rules.specs.Held.{held, holding}
use Rattle.node_rules.specs.Master.{MasterNode, on_anchor}
use Rattle.node_rules.specs.MasterState.{is_unsettled}
use Rattle.node_rules.specs.MasterStep.{settled_row, submit_refusals, submitted, submitted_to, to_anchor_at, with_accepted}
use Rattle.node_rules.specs.declared.commands.Row.{Row}
use Rattle.node_rules.specs.declared.inputs.Outcome.{Outcome}
use Rattle.master_runs.proofs.Holding.{held-same, held-other}
use Rattle.run_windows.specs.Answers.{IsSeen}
use Rattle.run_windows.specs.Fits.{Fits, IsNoneOrOut, IsRow, absent, awaited, set_up, there}
use Rattle.run_windows.specs.Seen.{Count, Face, Seen, answered, latest, on_latest, one_more, with_event}
use Rattle.run_windows.specs.Windows.{IsWindow, pending}
use Rattle.run_windows.proofs.Carrying.{IsSeenOnce, same_fit, SameFaces}
use Rattle.run_windows.proofs.Latest.{counted_changed, latest-other, latest-same, some_is}
use Rattle.run_windows.proofs.Masters.{told_seen}
use Rattle.run_windows.proofs.Telling.{on_anchor_tells, tells_nothing}

-- what refuses a submission to a bearer at the master, by what is seen of it
abbrev pub count_due : Face × Count → Option Refusal
count_due b = first_refusal ((nat_le (b.1.freed + window b.0.n) (b.0.first + b.1.submitted), refusal.Full) ∷ (b.0.first + b.1.submitted == 2 ^ 32 - 1, refusal.Exhausted) ∷ [])

-- the window is full by both
same_full : (w first accepted told : ℕ) → 0 < w → nat_le w (first + accepted - told) ≡ nat_le (told + w) (first + accepted)
same_full w first accepted told some =
    elim (cases_Bool (nat_le (told + w) (first + accepted))) [
      | inl full ↦ le-leb w (first + accepted - told) (omega (arith, leb-true (told + w) (first + accepted) full)) ∙ sym full
      | inr room ↦ lt-leb w (first + accepted - told) (omega (arith, some, leb-false (told + w) (first + accepted) room)) ∙ sym room
    ]

-- of a window as it is seen, the row and what is seen refuse the same
same_refusal : (r : Row) (w : Window) (b : Face × Count) → IsRow r b → IsWindow b w → first_refusal (submit_refusals r w) ≡ count_due b
same_refusal r w b row_is is =
    ap (λ full. first_refusal ((full, refusal.Full) ∷ (r.first + w.accepted == 2 ^ 32 - 1, refusal.Exhausted) ∷ [])) (same_full (window r.n) r.first w.accepted w.told (window_some r.n))
    ∙ rw (row_is.0, row_is.1, is.accepted, is.told) refl

-- a change of counts alone is no change of faces
more_faces : (id : ℕ) (bs : List (Face × Count)) → SameFaces bs (on_latest id one_more bs)
more_faces id bs k =
    elim (cases_Bool (id == k)) [
      | inl same ↦
          subst (λ j. option_map (λ (b : Face × Count). b.0) (latest j (on_latest id one_more bs)) ≡ option_map (λ (b : Face × Count). b.0) (latest j bs)) (eqb-true id k same)
          (ap (option_map (λ (b : Face × Count). b.0)) (latest-same id one_more (λ b. refl) bs) ∙ by (latest id bs))
      | inr other ↦ ap (option_map (λ (b : Face × Count). b.0)) (latest-other id k one_more (λ b. refl) other bs)
    ]
  where
    by : (o : Option (Face × Count)) → option_map (λ (b : Face × Count). b.0) (option_map one_more o) ≡ option_map (λ (b : Face × Count). b.0) o
    by None = refl
    by (Some b) = refl

-- ---- a submission

abbrev pub answer_of : Option Refusal → Answer
answer_of None = answer.Ok
answer_of (Some why) = answer.No why

-- the answer is the one that is due by what is seen, where the bearer is not dropped
abbrev pub IsDue : Option (Face × Count) → Answer → Type 0
IsDue None a = a ≡ answer.No refusal.NoBearer
IsDue (Some b) a = b.0.is_dropped ≡ false → a ≡ (if b.0.is_done then answer_of (count_due b) else answer.No refusal.NoBearer)

pub record IsSubmitted (s : Seen) (id : ℕ) (payload : List ℕ) (done : MasterNode × Outcome) : Type 0 where
  pub seen : IsSeenOnce (answered (event.Submit id Dl payload) done.1.answer s) done.0 done.1.notes
  pub due : IsDue (latest id s.bearers) done.1.answer

module _ (c : Choices) (s : Seen) (m : MasterNode) (is : IsSeen s m) (id : ℕ) (payload : List ℕ) where
  -- where there is none
  none_submitted : IsDue (latest id s.bearers) (answer.No refusal.NoBearer) → IsSubmitted s id payload (turned_down m refusal.NoBearer)
  none_submitted due = record { seen = told_seen s m is m [] (tells_nothing m); due = due }

  settled_none : row m.proc.table id ≡ None → settled_row m id ≡ None
  settled_none none = elim (cases_Bool (is_unsettled id m.proc.command)) [ inl yes' ↦ rw yes' refl | inr no' ↦ rw no' none ]

  abbrev more : Seen
  more = with_event (event.Submit id Dl payload) s

  -- what is seen of the window with one more submission
  more_seen : (r : Row) (w : Window) (b : Face × Count) → held id m.windows ≡ Some w → latest id s.bearers ≡ Some b → IsRow r b → IsWindow b w → first_refusal (submit_refusals r w) ≡ None
      → IsSeen more (with_accepted m id w)
  more_seen r w b at latest_is row_is window_is none =
      let room : nat_le (b.1.freed + window b.0.n) (b.0.first + b.1.submitted) ≡ false = not_full b (sym (same_refusal r w b row_is window_is) ∙ none) in
      let v : Window = record w { accepted = w.accepted + 1 } in
      let below = leb-false (b.1.freed + window b.0.n) (b.0.first + b.1.submitted) room in
      record {
        fit = same_fit s (on_latest id one_more s.bearers) (more_faces id s.bearers) m.proc is.fit;
        counted = counted_changed (pending m.proc.command) s.bearers m.windows is.counted id w v one_more (λ y. refl) at (λ y y_is x.
            subst (λ (z : Face × Count). IsWindow (one_more z) v) (some_is b y (sym latest_is ∙ y_is))
            (record { accepted = ap (λ k. k + 1) window_is.accepted; told = window_is.told; within = omega (arith, below) }));
        there = λ k. elim (cases_Bool (id == k)) [
          | inl same ↦
              subst (λ j. is_some (held j (holding id (Some v) m.windows)) ≡ is_some (row m.proc.table j)) (eqb-true id k same)
              (ap is_some (held-same id v m.windows) ∙ sym (ap is_some at) ∙ is.there id)
          | inr other ↦ ap is_some (held-other id k v m.windows other) ∙ is.there k
        ];
      }
    where
      not_full : (b : Face × Count) → count_due b ≡ None → nat_le (b.1.freed + window b.0.n) (b.0.first + b.1.submitted) ≡ false
      not_full b none =
          elim (cases_Bool (nat_le (b.1.freed + window b.0.n) (b.0.first + b.1.submitted))) [
            | inl full ↦ let bad : Some refusal.Full ≡ None = rw full at none in absurd (cc bad)
            | inr room ↦ room
          ]

  -- it goes to the anchor
  anchored : (k : MasterNode) (g : ℕ) (x : Node) → IsSeen more k → IsSeenOnce more (to_anchor_at c k id g payload x).0 (to_anchor_at c k id g payload x).1.notes
  anchored k g M seen =
      let done = on_anchor k id (λ a. submit c a payload) (held id k.anchors) in told_seen more k seen done.0 done.1.notes (on_anchor_tells k id (λ a. submit c a payload) (held id k.anchors))
  anchored k g A seen = told_seen more k seen k [] (tells_nothing k)
  anchored k g B seen = told_seen more k seen k [] (tells_nothing k)
  anchored k g T seen = told_seen more k seen k [] (tells_nothing k)

  -- to a bearer that is there
  there_submitted : (r : Row) (w : Window) (b : Face × Count) → held id m.windows ≡ Some w → latest id s.bearers ≡ Some b → IsRow r b → IsWindow b w → b.0.is_done ≡ true
      → (q : Option Refusal) → first_refusal (submit_refusals r w) ≡ q → IsSubmitted s id payload (unless m q (to_anchor_at c (with_accepted m id w) id r.g payload r.anchor))
  there_submitted r w b at latest_is row_is window_is done (Some why) q = record {
    seen = told_seen s m is m [] (tells_nothing m);
    due = subst (λ o. IsDue o (answer.No why)) (sym latest_is) (λ u. rw done (ap answer_of (sym q ∙ same_refusal r w b row_is window_is)));
  }
  there_submitted r w b at latest_is row_is window_is done None q = record {
    seen = anchored (with_accepted m id w) r.g r.anchor (more_seen r w b at latest_is row_is window_is q);
    due = subst (λ o. IsDue o answer.Ok) (sym latest_is) (λ u. rw done (ap answer_of (sym q ∙ same_refusal r w b row_is window_is)));
  }

  to_row : (b : Face × Count) → latest id s.bearers ≡ Some b → (r : Row) → row m.proc.table id ≡ Some r → IsRow r b → b.0.is_done ≡ true → (o : Option Window) → held id m.windows ≡ o
      → IsSubmitted s id payload (submitted_to c m id payload r o)
  to_row b at r row_at row_is done None none = let bad : false ≡ true = sym (ap is_some none) ∙ is.there id ∙ ap is_some row_at in absurd (cc bad)
  to_row b at r row_at row_is done (Some w) some =
      let x = is.counted.each id w some in
      let window_is : IsWindow b w = subst (λ (y : Face × Count). IsWindow y w) (some_is x.0 b (sym x.1 ∙ at)) x.2 in
      there_submitted r w b some at row_is window_is done (first_refusal (submit_refusals r w)) refl

  by_fit : Fits s m.proc id → IsSubmitted s id payload (submitted c m id payload (settled_row m id))
  by_fit (absent none out) =
      subst (λ o. IsSubmitted s id payload (submitted c m id payload o)) (sym (settled_none none)) (none_submitted (out_due (latest id s.bearers) out))
    where
      out_due : (o : Option (Face × Count)) → IsNoneOrOut s.kind o → IsDue o (answer.No refusal.NoBearer)
      out_due None out = refl
      out_due (Some b) out = λ u. elim out [
        | inl gone ↦ let bad : true ≡ false = sym gone ∙ u in cc
        | inr never ↦ let undone = never.0 in rw undone refl
      ]
  by_fit (awaited b at none ch f x w opened sets new) =
      subst (λ o. IsSubmitted s id payload (submitted c m id payload o)) (sym (settled_none none))
      (none_submitted (subst (λ o. IsDue o (answer.No refusal.NoBearer)) (sym at) (λ u. let undone = new.0 in rw undone refl)))
  by_fit (set_up b at r row_at row_is p g at_work sets new) =
      let unsettled : is_unsettled id m.proc.command ≡ true = ap (is_unsettled id) at_work ∙ sets in
      let none : settled_row m id ≡ None = ap (λ y. if y then None else row m.proc.table id) unsettled in
      subst (λ o. IsSubmitted s id payload (submitted c m id payload o)) (sym none)
      (none_submitted (subst (λ o. IsDue o (answer.No refusal.NoBearer)) (sym at) (λ u. let undone = new.0 in rw undone refl)))
  by_fit (there b at r row_at row_is done settled) =
      elim (cases_Bool (is_unsettled id m.proc.command)) [
        | inl unsettled ↦
            let none : settled_row m id ≡ None = ap (λ y. if y then None else row m.proc.table id) unsettled in
            subst (λ o. IsSubmitted s id payload (submitted c m id payload o)) (sym none)
            (none_submitted (subst (λ o. IsDue o (answer.No refusal.NoBearer)) (sym at) (λ u. let bad : true ≡ false = sym unsettled ∙ settled u in absurd (cc bad))))
        | inr free ↦
            let some : settled_row m id ≡ Some r = ap (λ y. if y then None else row m.proc.table id) free ∙ row_at in
            subst (λ o. IsSubmitted s id payload (submitted c m id payload o)) (sym some) (to_row b at r row_at row_is done (held id m.windows) refl)
      ]

  -- in each state
  pub is_submitted : IsSubmitted s id payload (submitted c m id payload (settled_row m id))
  is_submitted = by_fit (is.fit.each id)
