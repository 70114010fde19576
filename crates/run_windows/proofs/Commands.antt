-- What is seen of the past stays what the master holds, at each command.
use Rattle.std.proofs.Common.{ℕ, ◌≡◌, ◌≤◌, ◌+◌, ◌==◌, Bool, true, false, List, [], ◌∷◌, Option, Some, None, refl, sym, ap, subst, ◌∙◌, arith, inl, inr}
use Rattle.std.specs.Prelude.{fold, is_some, if◌then◌else◌, ◌||◌}
use Rattle.std.specs.List.{AllByRecursion, list_any}
use Rattle.std.specs.Option.{option_map}
use Rattle.std.proofs.lemmas.Bool.{cases_Bool, eqb-true, eq-eqb}
use Rattle.dc_base.specs.declared.answers.Refusal.{Refusal}
use Rattle.dc_base.specs.declared.events.Event.TheVariants as event
use Rattle.dc_base.specs.declared.nodes.KeyName.{KeyName}
use Rattle.dc_base.specs.declared.nodes.Node.{Node}
use Rattle.dc_base.specs.declared.nodes.Node.TheVariants.{A, B, M, T}
use Rattle.dc_base.specs.declared.nodes.Shape.{Shape}
use Rattle.dc_base.specs.declared.numbers.SnLen.{SnLen}
use Rattle.dc_base.specs.declared.records.Item.TheVariants as item
use Rattle.claims.specs.Table.{change}
use Rattle.node_rules.specs.declared.acts.Act.{Act}
use Rattle.node_rules.specs.declared.bearers.Window.{Window}
use Rattle.node_rules.specs.Choices.{Choices}
use Rattle.node_rules.specs.CommandTable.{row}
use Rattle.node_rules.specs.Drafts.{Draft}
use Rattle.node_rules.specs.Held.{held}
use Rattle.node_rules.specs.Lines.{is_end, notes_after}
use Rattle.node_rules.specs.Master.{MasterNode}
use Rattle.node_rules.specs.MasterCommands.{recovers_at, recovers_row}
use Rattle.node_rules.specs.MasterGo.{alone, begins, begins_by}
use Rattle.node_rules.specs.MasterGo.{drawn as proc_drawn}
use Rattle.node_rules.specs.MasterPlan.{does}
use Rattle.node_rules.specs.MasterState.{is_unsettled, is_unsettled_by}
use Rattle.node_rules.specs.declared.commands.Command.{Command}
use Rattle.node_rules.specs.declared.commands.Command.TheVariants.{Asked as asked, Gone as gone, Recovering as recovering}
use Rattle.node_rules.specs.declared.commands.First.{First}
use Rattle.node_rules.specs.declared.commands.First.TheVariants.{Modification as modification}
use Rattle.node_rules.specs.declared.commands.Row.{Row}
use Rattle.run_windows.specs.ActNotes.{IsPlain, acts_notes}
use Rattle.run_windows.specs.Answers.{IsSeen}
use Rattle.run_windows.specs.Fits.{Fit, Fits, IsNew, IsNoneOrOut, IsOfRow, IsOpened, absent, awaited, dropping, set_up, setting_up, there}
use Rattle.run_windows.specs.Seen.{Count, Face, Seen, drawn, dropped, latest, new_seen, with_event, with_note}
use Rattle.run_windows.specs.Windows.{AreCounted, fresh_count, pending, set_up_by}
use Rattle.run_windows.proofs.Carrying.{IsSeenOnce, moved_seen}
use Rattle.run_windows.proofs.Fitting.{asking, fits_as, not_both, out_drawn}
use Rattle.run_windows.proofs.Latest.{counted_as, latest-other, latest-same, some_is}
use Rattle.run_windows.proofs.Laying.{carried_seen}
use Rattle.run_windows.proofs.Masters.{told_seen}
use Rattle.run_windows.proofs.Moving.{IsAnyMove, any_of_calm, begins_move}
use Rattle.run_windows.proofs.Telling.{does_tells, tells_nothing}

-- ---- what is not refused

pub none_of : (o : Option Command) → is_some o ≡ false → o ≡ None
none_of None is = refl
none_of (Some x) is = let bad : true ≡ false = is in cc

pub not_first : (b : Bool) (y : Refusal) (more : Option Refusal) → (if b then Some y else more) ≡ None → (b ≡ false) × (more ≡ None)
not_first true y more none = let bad : Some y ≡ None = none in absurd (cc bad)
not_first false y more none = (refl, none)

module _ (c : Choices) (s : Seen) (m : MasterNode) (is : IsSeen s m) where
  -- ---- a command that sets bearers of the table

  pub settings_seen : (d : Draft) → m.proc.command ≡ None → AllByRecursion (IsOfRow m.proc.table) d.change.plan.items
      → IsSeenOnce (drawn s) (does c m (begins m.proc d false)).0 (does c m (begins m.proc d false)).1.notes
  settings_seen d free all =
      let r = begins m.proc d false in
      let move = begins_move s m.proc d false is.fit free all in
      moved_seen (drawn s) m (does c m r).0 r (does c m r).1.notes is.counted is.there (any_of_calm (drawn s) m.proc r move) (does_tells c m r move.move.plain)

  -- ---- a new bearer

  module _ (id : ℕ) (n : SnLen) (first : ℕ) (shape : Shape) (threshold policy : ℕ) (key : KeyName) (d : Draft)
      (items : d.change.plan.items ≡ item.Set id n first shape threshold policy key None ∷ []) (free : m.proc.command ≡ None) (none : row m.proc.table id ≡ None) where
    abbrev with_new : Seen
    with_new = with_event (event.Bearer id n first shape threshold policy) s

    abbrev new : Face × Count
    new = new_seen (s.last + 1) id n first

    new_there : latest id with_new.bearers ≡ Some new
    new_there = rw (eq-eqb id id refl) refl

    new_fresh : IsNew (Some (change (s.last + 1))) new
    new_fresh = (refl, refl, eq-eqb (s.last + 1) (s.last + 1) refl)

    other_fits : (f : First) (x : Node) (k : ℕ) → (id == k) ≡ false → Fits s m.proc k → Fits with_new (asking m.proc d f x false) k
    other_fits f x k other (absent no' out) = absent no' (rw other (out_drawn s (latest k s.bearers) (is.fit.bound k) out))
    other_fits f x k other (awaited b at no' c' f' x' w' opened sets new') = absurd (not_both m.proc.command (asked c' f' x' w') free opened)
    other_fits f x k other (set_up b at r row_is same q g at_work sets new') = absurd (not_both m.proc.command (gone q g) free at_work)
    other_fits f x k other (there b at r row_is same done settled) =
        there b (rw other at) r row_is same done (λ u. ap (λ is'. list_any (is_unsettled_by k) is') items ∙ ap (λ y. y || false) other)

    new_bound : (k : ℕ) (b : Face × Count) → latest k with_new.bearers ≡ Some b → b.0.g ≤ s.last + 1
    new_bound k b at =
        elim (cases_Bool (id == k)) [
          | inl same ↦ let at' : Some new ≡ Some b = rw same at at in subst (λ (y : Face × Count). y.0.g ≤ s.last + 1) (some_is new b at') (omega arith)
          | inr other ↦ let at' : latest k s.bearers ≡ Some b = rw other at at in let below = is.fit.bound k b at' in omega (arith, below)
        ]

    new_fit : (f : First) (x : Node) → Fit with_new (asking m.proc d f x false)
    new_fit f x = record {
      each = λ k. elim (cases_Bool (id == k)) [
        | inl same ↦
            subst (λ j. Fits with_new (asking m.proc d f x false) j) (eqb-true id k same)
            (awaited new new_there none d.change f x false refl (ap set_up_by items) new_fresh)
        | inr other ↦ other_fits f x k other (is.fit.each k)
      ];
      opened = setting_up id n first shape threshold policy key items none new new_there refl refl new_fresh;
      bound = new_bound;
      ascends = is.fit.ascends;
    }

    no_window : held id m.windows ≡ None
    no_window = by (held id m.windows) (is.there id ∙ ap is_some none)
      where
        by : (o : Option Window) → is_some o ≡ false → o ≡ None
        by None is' = refl
        by (Some w) is' = let bad : true ≡ false = is' in cc

    new_counted : AreCounted (Some (id, n, first)) with_new.bearers m.windows
    new_counted = record {
      each = λ k w at. elim (cases_Bool (id == k)) [
        | inl same ↦ absurd (not_both (held k m.windows) w (ap (λ j. held j m.windows) (sym (eqb-true id k same)) ∙ no_window) at)
        | inr other ↦ let x = is.counted.each k w at in (x.0, rw other x.1, x.2)
      ];
      fresh = λ k m' f to.
          let here : (id, n, first) ≡ (k, m', f) = some_is (id, n, first) (k, m', f) to in
          subst (λ (y : ℕ × SnLen × ℕ). (held y.0 m.windows ≡ None) × ((b : Face × Count) × (latest y.0 with_new.bearers ≡ Some b) × (b.0.n ≡ y.1) × (b.0.first ≡ y.2) × (b.1 ≡ fresh_count y.2))) here
          (no_window, (new, new_there, refl, refl, refl));
      ascends = is.counted.ascends;
    }

    -- it waits for its first answer, or is carried out at once
    pub bearer_begun : (o : Option (First × Node)) → IsSeenOnce with_new (does c m (begins_by (proc_drawn m.proc d) d false o)).0 (does c m (begins_by (proc_drawn m.proc d) d false o)).1.notes
    bearer_begun None =
        carried_seen c with_new (record m { proc = asking m.proc d modification T false }) d.change modification T false alone (new_fit modification T)
        (subst (λ q. AreCounted q with_new.bearers m.windows) (sym (ap set_up_by items)) new_counted) is.there refl
    bearer_begun (Some (f, who)) =
        let k = record m { proc = asking m.proc d f who false } in
        told_seen with_new k (record {
          fit = new_fit f who;
          counted = subst (λ q. AreCounted q with_new.bearers m.windows) (sym (ap set_up_by items)) new_counted;
          there = is.there;
        }) k [] (tells_nothing k)

  -- ---- a bearer is dropped

  module _ (id : ℕ) (d : Draft) (items : d.change.plan.items ≡ item.Unset id ∷ []) (free : m.proc.command ≡ None) where
    abbrev without : Seen
    without = with_event (event.Remove id) s

    out_dropped : (o : Option (Face × Count)) → IsNoneOrOut without.kind (option_map dropped o)
    out_dropped None = tt
    out_dropped (Some b) = inl refl

    here_fits : (f : First) (x : Node) → Fits s m.proc id → Fits without (asking m.proc d f x false) id
    here_fits f x (absent none out) = absent none (subst (λ o. IsNoneOrOut without.kind o) (sym (latest-same id dropped (λ b. refl) s.bearers)) (out_dropped (latest id s.bearers)))
    here_fits f x (awaited b at none c' f' x' w' opened sets new') = absurd (not_both m.proc.command (asked c' f' x' w') free opened)
    here_fits f x (set_up b at r row_is same q g at_work sets new') = absurd (not_both m.proc.command (gone q g) free at_work)
    here_fits f x (there b at r row_is same done settled) =
        there (dropped b) (latest-same id dropped (λ b. refl) s.bearers ∙ ap (option_map dropped) at) r row_is same done (λ u. let bad : true ≡ false = u in cc)

    rest_fits : (f : First) (x : Node) (k : ℕ) → (id == k) ≡ false → Fits s m.proc k → Fits without (asking m.proc d f x false) k
    rest_fits f x k other (absent none out) =
        absent none (subst (λ o. IsNoneOrOut without.kind o) (sym (latest-other id k dropped (λ b. refl) other s.bearers)) (out_drawn s (latest k s.bearers) (is.fit.bound k) out))
    rest_fits f x k other (awaited b at none c' f' x' w' opened sets new') = absurd (not_both m.proc.command (asked c' f' x' w') free opened)
    rest_fits f x k other (set_up b at r row_is same q g at_work sets new') = absurd (not_both m.proc.command (gone q g) free at_work)
    rest_fits f x k other (there b at r row_is same done settled) =
        there b (latest-other id k dropped (λ b. refl) other s.bearers ∙ at) r row_is same done (λ u. ap (λ is'. list_any (is_unsettled_by k) is') items ∙ ap (λ y. y || false) other)

    drop_bound : (k : ℕ) (b : Face × Count) → latest k without.bearers ≡ Some b → b.0.g ≤ s.last + 1
    drop_bound k b at =
        elim (cases_Bool (id == k)) [
          | inl same ↦ dropped_bound (latest id s.bearers) refl (sym (latest-same id dropped (λ b. refl) s.bearers) ∙ ap (λ j. latest j without.bearers) (eqb-true id k same) ∙ at)
          | inr other ↦ let below = is.fit.bound k b (sym (latest-other id k dropped (λ b. refl) other s.bearers) ∙ at) in omega (arith, below)
        ]
      where
        dropped_bound : (o : Option (Face × Count)) → latest id s.bearers ≡ o → option_map dropped o ≡ Some b → b.0.g ≤ s.last + 1
        dropped_bound None is' to = let bad : None ≡ Some b = to in absurd (cc bad)
        dropped_bound (Some y) is' to =
            let below = is.fit.bound id y is' in subst (λ (z : Face × Count). z.0.g ≤ s.last + 1) (some_is (dropped y) b to) (omega (arith, below))

    drop_fit : (f : First) (x : Node) → Fit without (asking m.proc d f x false)
    drop_fit f x = record {
      each = λ k. elim (cases_Bool (id == k)) [
        | inl same ↦ subst (λ j. Fits without (asking m.proc d f x false) j) (eqb-true id k same) (here_fits f x (is.fit.each id))
        | inr other ↦ rest_fits f x k other (is.fit.each k)
      ];
      opened = dropping id items;
      bound = drop_bound;
      ascends = is.fit.ascends;
    }

    drop_counted : AreCounted None without.bearers m.windows
    drop_counted =
        counted_as None s.bearers m.windows (subst (λ q. AreCounted q s.bearers m.windows) (ap pending free) is.counted) without.bearers (λ k b at. elim (cases_Bool (id == k)) [
          | inl same ↦ (dropped b, ap (λ j. latest j without.bearers) (sym (eqb-true id k same)) ∙ latest-same id dropped (λ b. refl) s.bearers ∙ ap (option_map dropped) (ap (λ j. latest j s.bearers) (eqb-true id k same) ∙ at), refl, refl, refl)
          | inr other ↦ (b, latest-other id k dropped (λ b. refl) other s.bearers ∙ at, refl, refl, refl)
        ])

    pub drop_begun : (o : Option (First × Node)) → IsSeenOnce without (does c m (begins_by (proc_drawn m.proc d) d false o)).0 (does c m (begins_by (proc_drawn m.proc d) d false o)).1.notes
    drop_begun None =
        carried_seen c without (record m { proc = asking m.proc d modification T false }) d.change modification T false alone (drop_fit modification T)
        (subst (λ q. AreCounted q without.bearers m.windows) (sym (ap set_up_by items)) drop_counted) is.there refl
    drop_begun (Some (f, who)) =
        let k = record m { proc = asking m.proc d f who false } in
        told_seen without k (record {
          fit = drop_fit f who;
          counted = subst (λ q. AreCounted q without.bearers m.windows) (sym (ap set_up_by items)) drop_counted;
          there = is.there;
        }) k [] (tells_nothing k)

  -- ---- a recovery

  module _ (id : ℕ) (free : m.proc.command ≡ None) where
    abbrev recovers : Seen
    recovers = with_event (event.Recover id) s

    out_recovered : (o : Option (Face × Count)) → IsNoneOrOut s.kind o → IsNoneOrOut recovers.kind o
    out_recovered None out = tt
    out_recovered (Some b) out = elim out [ inl gone' ↦ inl gone' | inr never ↦ inr (never.0, refl) ]

    recovery_fits : (o : Option Command) → pending o ≡ None → ((k : ℕ) → is_unsettled k o ≡ false) → (k : ℕ) → Fits s m.proc k → Fits recovers (record m.proc { command = o }) k
    recovery_fits o pend settled' k (absent none out) = absent none (out_recovered (latest k s.bearers) out)
    recovery_fits o pend settled' k (awaited b at none c' f' x' w' opened sets new') = absurd (not_both m.proc.command (asked c' f' x' w') free opened)
    recovery_fits o pend settled' k (set_up b at r row_is same q g at_work sets new') = absurd (not_both m.proc.command (gone q g) free at_work)
    recovery_fits o pend settled' k (there b at r row_is same done settled) = there b at r row_is same done (λ u. settled' k)

    recovery_move : (t : Bool) (z : Option Node) (acts : List Act) → acts_notes acts ≡ [] → AllByRecursion IsPlain acts → IsAnyMove recovers m.proc (record m.proc { command = Some (recovering id t z) }, acts)
    recovery_move t z acts none plain = record {
      move = record {
        fit = subst (λ ns. Fit (fold with_note recovers ns) (record m.proc { command = Some (recovering id t z) })) (sym none)
            (record { each = λ k. recovery_fits (Some (recovering id t z)) refl (λ j. refl) k (is.fit.each k); opened = tt; bound = is.fit.bound; ascends = is.fit.ascends });
        plain = plain;
        there = λ k. refl;
        pend = inl refl;
      };
      once = ap (λ ns. list_any is_end (notes_after ns)) none;
    }

    no_recovery : IsAnyMove recovers m.proc (m.proc, [])
    no_recovery = record {
      move = record {
        fit = record { each = λ k. fits_as recovers (record m.proc { command = None }) m.proc refl free k (recovery_fits None refl (λ j. refl) k (is.fit.each k)); opened = subst (λ o. IsOpened recovers m.proc.table o) (sym free) tt; bound = is.fit.bound; ascends = is.fit.ascends };
        plain = tt;
        there = λ k. refl;
        pend = inr refl;
      };
      once = refl;
    }

    recovers_at_move : (x : Node) → IsAnyMove recovers m.proc (recovers_at m.proc id x)
    recovers_at_move M = recovery_move true None (recovers_at m.proc id M).1 refl (tt, (tt, tt))
    recovers_at_move A = recovery_move true (Some A) (recovers_at m.proc id A).1 refl (tt, (tt, tt))
    recovers_at_move B = recovery_move true (Some B) (recovers_at m.proc id B).1 refl (tt, (tt, tt))
    recovers_at_move T = no_recovery

    recovers_row_move : (o : Option Row) → IsAnyMove recovers m.proc (recovers_row m.proc id o)
    recovers_row_move None = no_recovery
    recovers_row_move (Some r) = recovers_at_move r.anchor

    pub recovery_seen : (o : Option Row) → IsSeenOnce recovers (does c m (recovers_row m.proc id o)).0 (does c m (recovers_row m.proc id o)).1.notes
    recovery_seen o =
        moved_seen recovers m (does c m (recovers_row m.proc id o)).0 (recovers_row m.proc id o) (does c m (recovers_row m.proc id o)).1.notes is.counted is.there (recovers_row_move o)
        (does_tells c m (recovers_row m.proc id o) (recovers_row_move o).move.plain)
