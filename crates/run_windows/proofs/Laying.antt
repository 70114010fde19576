-- The master carries out a plan that sets one bearer up or drops one: its window begins, or is gone.
use Rattle.std.proofs.Common.{ℕ, ◌≡◌, ◌≤◌, ◌+◌, ◌==◌, ◌++◌, Bool, List, [], ◌∷◌, Option, Some, None, refl, sym, ap, subst, ◌∙◌, arith, inl, inr}
use Rattle.std.specs.Prelude.{fold, filter, is_some, not}
use Rattle.std.proofs.lemmas.Bool.{cases_Bool, eqb-true}
use Rattle.std.proofs.lemmas.List.{append-nil}
use Rattle.dc_base.specs.declared.nodes.Node.{Node}
use Rattle.dc_base.specs.declared.nodes.Node.TheVariants.{M}
use Rattle.dc_base.specs.declared.numbers.SnLen.{SnLen}
use Rattle.dc_base.specs.declared.records.Item.{Item}
use Rattle.dc_base.specs.declared.records.Item.TheVariants as item
use Rattle.node_rules.specs.declared.acts.Act.{Act}
use Rattle.node_rules.specs.declared.bearers.Window.{Window}
use Rattle.node_rules.specs.Choices.{Choices}
use Rattle.node_rules.specs.CommandTable.{row, rows_after, with_row}
use Rattle.node_rules.specs.Effects.{in_turn}
use Rattle.node_rules.specs.Held.{held, holding}
use Rattle.node_rules.specs.Master.{MasterNode}
use Rattle.node_rules.specs.MasterGo.{goes, leave_acts}
use Rattle.node_rules.specs.MasterPlan.{carries_item, line_ends, master_did, master_part, with_host_and_window}
use Rattle.node_rules.specs.MasterState.{MasterProc}
use Rattle.node_rules.specs.Parts.{part_at}
use Rattle.node_rules.specs.Places.{anchor_at}
use Rattle.node_rules.specs.declared.commands.Change.{Change}
use Rattle.node_rules.specs.declared.commands.Command.TheVariants.{Asked as asked}
use Rattle.node_rules.specs.declared.commands.First.{First}
use Rattle.node_rules.specs.declared.commands.Row.{Row}
use Rattle.node_rules.specs.declared.commands.Way.{Way}
use Rattle.node_rules.specs.declared.inputs.Effects.{Effects}
use Rattle.master_runs.proofs.Holding.{held-same, held-other, row-same, row-other}
use Rattle.run_windows.specs.Answers.{IsSeen}
use Rattle.run_windows.specs.Fits.{AreFit, Fit, IsOpened, dropping, setting_up, settings}
use Rattle.run_windows.specs.Seen.{Count, Face, Seen, latest}
use Rattle.dc_base.specs.Count.{window}
use Rattle.run_windows.specs.Windows.{AreCounted, IsWindow, fresh_count, pending, set_up_by}
use Rattle.run_windows.proofs.Carrying.{IsSeenOnce, moved_seen}
use Rattle.run_windows.proofs.Fitting.{goes_fit}
use Rattle.run_windows.proofs.Keys.{ascends-out, ascends-put, out-other, out-same}
use Rattle.run_windows.proofs.Latest.{some_is}
use Rattle.run_windows.proofs.Moving.{any_of_calm, goes_move, leave_quiet, stays}
use Rattle.run_windows.proofs.Tables.{dropped_row, kept_row, row_in}
use Rattle.run_windows.proofs.Telling.{Tells, part_tells, taken_tells, tells_then}

-- ---- windows

-- of a bearer of which nothing was counted
fresh_window : (b : Face × Count) (first : ℕ) → b.0.first ≡ first → b.1 ≡ fresh_count first → IsWindow b (record { accepted = 0; told = first })
fresh_window b first same count = record {
  accepted = ap (λ (y : Count). y.submitted) (sym count);
  told = ap (λ (y : Count). y.freed) (sym count);
  within = subst (λ (y : Count). b.0.first + y.submitted ≤ y.freed + window b.0.n) (sym count) (omega (arith, same));
}

-- that of a bearer that is set up begins
laid_counted : (id : ℕ) (n : SnLen) (first : ℕ) (bs : List (Face × Count)) (ws : List (ℕ × Window)) → AreCounted (Some (id, n, first)) bs ws
    → AreCounted None bs (holding id (Some (record { accepted = 0; told = first })) ws)
laid_counted id n first bs ws is = record {
  each = λ k w at. elim (cases_Bool (id == k)) [
    | inl same ↦
        let x = is.fresh id n first refl in
        let here : id ≡ k = eqb-true id k same in
        let new : Window = record { accepted = 0; told = first } in
        let to : new ≡ w = some_is new w (sym (held-same id new ws) ∙ ap (λ j. held j (holding id (Some new) ws)) here ∙ at) in
        (x.1.0, ap (λ j. latest j bs) (sym here) ∙ x.1.1, subst (λ v. IsWindow x.1.0 v) to (fresh_window x.1.0 first x.1.3 x.1.4))
    | inr other ↦ is.each k w (sym (held-other id k (record { accepted = 0; told = first }) ws other) ∙ at)
  ];
  fresh = λ k m f to. let bad : None ≡ Some (k, m, f) = to in absurd (cc bad);
  ascends = ascends-put 0 id (record { accepted = 0; told = first }) ws (omega arith) is.ascends;
}

-- that of a bearer that is dropped is gone
gone_counted : (p : Option (ℕ × SnLen × ℕ)) (id : ℕ) (bs : List (Face × Count)) (ws : List (ℕ × Window)) → AreCounted p bs ws → AreCounted None bs (holding id None ws)
gone_counted p id bs ws is = record {
  each = λ k w at. elim (cases_Bool (id == k)) [
    | inl same ↦
        let bad : None ≡ Some w = sym (out-same 0 id ws is.ascends) ∙ ap (λ j. held j (holding id None ws)) (eqb-true id k same) ∙ at in absurd (cc bad)
    | inr other ↦ is.each k w (sym (out-other id k ws other) ∙ at)
  ];
  fresh = λ k m f to. let bad : None ≡ Some (k, m, f) = to in absurd (cc bad);
  ascends = ascends-out 0 id ws is.ascends;
}

module _ (c : Choices) (s : Seen) (m : MasterNode) (change : Change) (f : First) (x : Node) (wanted : Bool) (w : Way)
    (fit : Fit s m.proc) (counted : AreCounted (pending m.proc.command) s.bearers m.windows) (windows : (id : ℕ) → is_some (held id m.windows) ≡ is_some (row m.proc.table id))
    (opened : m.proc.command ≡ Some (asked change f x wanted)) where
  abbrev went : MasterProc
  went = (goes m.proc change w).0

  abbrev m1 : MasterNode
  m1 = record m { proc = went }

  abbrev leaving : List Act
  leaving = leave_acts w.leaving w.told change.plan

  -- all that it has the master do
  abbrev done : MasterNode × Effects
  done = in_turn (master_did c) m1 (goes m.proc change w).1

  abbrev items_done : List Item → MasterNode × Effects
  items_done items = in_turn (carries_item change.plan) m1 items

  -- after the one item, where the window is as it is to be
  after_item : (i : Item) → (line : (line_ends change.plan.g change.plan.sec i).notes ≡ []) → IsSeen s (with_host_and_window change.plan m1 i)
      → IsSeenOnce s (in_turn (master_did c) (items_done (i ∷ [])).0 leaving).0 ((items_done (i ∷ [])).1.notes ++ (in_turn (master_did c) (items_done (i ∷ [])).0 leaving).1.notes)
  after_item i line is =
      let k0 = with_host_and_window change.plan m1 i in
      let part = master_part k0 change.plan i (part_at M change.plan.sec i) in
      let last = in_turn (master_did c) part.0 leaving in
      let quiet = leave_quiet w.leaving w.told change.plan in
      let tells : Tells k0 last.0 (part.1.notes ++ last.1.notes) [] =
      tells_then k0 part.0 last.0 part.1.notes last.1.notes [] [] (part_tells k0 change.plan i (part_at M change.plan.sec i))
      (subst (λ cs. Tells part.0 last.0 last.1.notes cs) quiet.none (taken_tells c part.0 leaving quiet.plain)) in
      let same : (items_done (i ∷ [])).1.notes ≡ part.1.notes = append-nil ((line_ends change.plan.g change.plan.sec i).notes ++ part.1.notes) ∙ ap (λ ns. ns ++ part.1.notes) line in
      subst (λ ns. IsSeenOnce s last.0 (ns ++ last.1.notes)) (sym same)
      (moved_seen s k0 last.0 (k0.proc, []) (part.1.notes ++ last.1.notes) is.counted is.there (any_of_calm s k0.proc (k0.proc, []) (stays s k0.proc [] is.fit (record { none = refl; plain = tt }))) tells)

  went_fit : Fit s went
  went_fit = goes_fit s m.proc change f x wanted fit opened w

  -- all of it
  whole : (items : List Item) → change.plan.items ≡ items
      → IsSeenOnce s (in_turn (master_did c) (items_done items).0 leaving).0 ((items_done items).1.notes ++ (in_turn (master_did c) (items_done items).0 leaving).1.notes) → IsSeenOnce s done.0 done.1.notes
  whole items same is =
      subst (λ (is' : List Item). IsSeenOnce s (in_turn (master_did c) (items_done is').0 leaving).0 ((items_done is').1.notes ++ (in_turn (master_did c) (items_done is').0 leaving).1.notes)) (sym same) is

  laid : AreFit s m.proc.table change.plan.items → IsSeenOnce s done.0 done.1.notes
  laid (settings all) =
      let c' = goes_move s m.proc change f x wanted w fit opened all in
      moved_seen s m done.0 (goes m.proc change w) done.1.notes counted windows (any_of_calm s m.proc (goes m.proc change w) c') (taken_tells c m1 (goes m.proc change w).1 c'.move.plain)
  laid (setting_up id n first shape threshold policy key is none b at same_n same_first new) =
      let i = item.Set id n first shape threshold policy key None in
      let v : Window = record { accepted = 0; told = first } in
      let r : Row = record { id = id; est = change.plan.g; n = n; first = first; shape = shape; threshold = threshold; policy = policy; key = key; anchor = anchor_at change.plan.sec shape; g = change.plan.g } in
      let table : (j : ℕ) → row went.table j ≡ row_in j (with_row r m.proc.table.rows) = λ j. ap (λ items. row_in j (fold (rows_after m.proc.table change.plan.g change.plan.sec) m.proc.table.rows items)) is in
      let pend : pending m.proc.command ≡ Some (id, n, first) = ap pending opened ∙ ap set_up_by is in
      whole (i ∷ []) is (after_item i refl (record {
        fit = went_fit;
        counted = laid_counted id n first s.bearers m.windows (subst (λ p. AreCounted p s.bearers m.windows) pend counted);
        there = λ j. elim (cases_Bool (id == j)) [
          | inl same ↦
              subst (λ k. is_some (held k (holding id (Some v) m.windows)) ≡ is_some (row went.table k)) (eqb-true id j same)
              (ap is_some (held-same id v m.windows) ∙ sym (ap is_some (table id ∙ row-same r m.proc.table.rows)))
          | inr other ↦ ap is_some (held-other id j v m.windows other) ∙ windows j ∙ sym (ap is_some (table j ∙ row-other r j m.proc.table.rows other))
        ];
      }))
  laid (dropping id is) =
      let i = item.Unset id in
      let table : (j : ℕ) → row went.table j ≡ row_in j (filter (λ r. not (r.id == id)) m.proc.table.rows) = λ j. ap (λ items. row_in j (fold (rows_after m.proc.table change.plan.g change.plan.sec) m.proc.table.rows items)) is in
      whole (i ∷ []) is (after_item i refl (record {
        fit = went_fit;
        counted = gone_counted (pending m.proc.command) id s.bearers m.windows counted;
        there = λ j. elim (cases_Bool (id == j)) [
          | inl same ↦
              subst (λ k. is_some (held k (holding id None m.windows)) ≡ is_some (row went.table k)) (eqb-true id j same)
              (ap is_some (out-same 0 id m.windows counted.ascends) ∙ sym (ap is_some (table id ∙ dropped_row id m.proc.table.rows)))
          | inr other ↦ ap is_some (out-other id j m.windows other) ∙ windows j ∙ sym (ap is_some (table j ∙ kept_row id j m.proc.table.rows other))
        ];
      }))

  -- a plan that was agreed to is carried out
  pub carried_seen : IsSeenOnce s done.0 done.1.notes
  carried_seen = laid (subst (λ o. IsOpened s m.proc.table o) opened fit.opened)
