-- What the procedures of the master do where no bearer is set up or dropped: each of their steps keeps what is seen.
use Rattle.std.proofs.Common.{ℕ, ◌≡◌, ◌+◌, ◌++◌, ◌⊎◌, Bool, true, false, List, [], ◌∷◌, Option, Some, None, refl, sym, ap, subst, ◌∙◌, inl, inr, append_assoc}
use Rattle.std.specs.Prelude.{fold, is_some, map, not}
use Rattle.std.specs.List.{AllByRecursion, list_any}
use Rattle.std.proofs.lemmas.Bool.{cases_Bool}
use Rattle.dc_base.specs.Nodes.{is_mm}
use Rattle.dc_base.specs.declared.events.Event.TheVariants as event
use Rattle.dc_base.specs.declared.events.Note.{Note}
use Rattle.dc_base.specs.declared.events.Note.TheVariants as note
use Rattle.dc_base.specs.declared.nodes.Node.{Node}
use Rattle.dc_base.specs.declared.nodes.Node.TheVariants.{A, B, M, T}
use Rattle.dc_base.specs.declared.nodes.Want.{Want}
use Rattle.dc_base.specs.declared.nodes.Want.TheVariants as want
use Rattle.dc_base.specs.declared.records.Item.{Item}
use Rattle.dc_base.specs.declared.records.Item.TheVariants as item
use Rattle.dc_base.specs.declared.records.Plan.{Plan}
use Rattle.node_rules.specs.declared.acts.Act.{Act}
use Rattle.node_rules.specs.declared.acts.Act.TheVariants.{Say as say, Send as send}
use Rattle.node_rules.specs.CommandTable.{Table, row, carried}
use Rattle.node_rules.specs.Drafts.{Draft, draft, same_keys, set_to, shared_rows, without_key}
use Rattle.node_rules.specs.Drafts.{asking as first_asking}
use Rattle.node_rules.specs.Places.{mm}
use Rattle.node_rules.specs.Lines.{is_end, notes_after}
use Rattle.node_rules.specs.MasterEnds.{nothing_to_release, ends, ends_gone, ends_recovering, forgetting, is_release_spent, releases_if, retries, tried_first, tries, tries_if, tries_now, waits_for}
use Rattle.node_rules.specs.MasterGo.{drawn as proc_drawn}
use Rattle.node_rules.specs.MasterGo.{alone, before_acts, begins, begins_by, goes, leave_acts, let_go, lets_go, moves_here, preparing}
use Rattle.node_rules.specs.MasterState.{MasterActs, MasterProc, waits_at, with_waits}
use Rattle.node_rules.specs.Places.{is_at, other_second}
use Rattle.node_rules.specs.declared.commands.Change.{Change}
use Rattle.node_rules.specs.declared.commands.Command.{Command}
use Rattle.node_rules.specs.declared.commands.Command.TheVariants.{Asked as asked, Gone as gone, Recovering as recovering}
use Rattle.node_rules.specs.declared.commands.First.{First}
use Rattle.node_rules.specs.declared.commands.First.TheVariants.{Modification as modification, Release as release}
use Rattle.node_rules.specs.declared.commands.Going.{Going}
use Rattle.node_rules.specs.declared.commands.Leaving.{Leaving}
use Rattle.node_rules.specs.declared.commands.Row.{Row}
use Rattle.node_rules.specs.declared.commands.Way.{Way}
use Rattle.run_windows.specs.ActNotes.{IsKept, IsPlain, act_notes, acts_notes}
use Rattle.run_windows.specs.Fits.{AreAscending, Fit, IsOfRow}
use Rattle.run_windows.specs.Seen.{Seen, drawn, with_note}
use Rattle.run_windows.specs.Windows.{pending}
use Rattle.run_windows.proofs.Fitting.{IsNotAsked, asking, done_fit, fits_as, goes_fit, gone_fits, none_set_up, not_asked_gone, not_asked_recovering, recovering_fits, rejected_fit, settings_fit}
use Rattle.run_windows.proofs.Latest.{some_is}
use Rattle.run_windows.proofs.Tables.{AreAlike, all_alike, alike_itself, neither, rows, some_of_rows}

-- a step of the procedures, with what the master has to do: all is seen as before, but for the notes; no bearer is set up or
-- dropped; and it leaves no bearer to be set up but one that was so before
pub record IsMove (s : Seen) (m : MasterProc) (r : MasterActs) : Type 0 where
  pub fit : Fit (fold with_note s (acts_notes r.1)) r.0
  pub plain : AllByRecursion IsPlain r.1
  pub there : (id : ℕ) → is_some (row r.0.table id) ≡ is_some (row m.table id)
  pub pend : (pending r.0.command ≡ None) ⊎ (pending r.0.command ≡ pending m.command)

-- and no command ends in it
abbrev pub IsCalm : List Act → Type 0
IsCalm acts = list_any is_end (acts_notes acts) ≡ false

pub record IsCalmMove (s : Seen) (m : MasterProc) (r : MasterActs) : Type 0 where
  pub move : IsMove s m r
  pub calm : IsCalm r.1

-- or only one does
pub record IsAnyMove (s : Seen) (m : MasterProc) (r : MasterActs) : Type 0 where
  pub move : IsMove s m r
  pub once : list_any is_end (notes_after (acts_notes r.1)) ≡ false

-- ---- lists of acts

fold_append : (s : Seen) (xs ys : List Note) → fold with_note s (xs ++ ys) ≡ fold with_note (fold with_note s xs) ys
fold_append s [] ys = refl
fold_append s (x ∷ xs) ys = fold_append (with_note s x) xs ys

notes_append : (xs ys : List Act) → acts_notes (xs ++ ys) ≡ acts_notes xs ++ acts_notes ys
notes_append [] ys = refl
notes_append (x ∷ xs) ys = ap (λ ns. act_notes x ++ ns) (notes_append xs ys) ∙ sym (append_assoc (act_notes x) (acts_notes xs) (acts_notes ys))

any_append : (xs ys : List Note) → list_any is_end xs ≡ false → list_any is_end ys ≡ false → list_any is_end (xs ++ ys) ≡ false
any_append [] ys none more = more
any_append (x ∷ xs) ys none more =
    elim (cases_Bool (is_end x)) [ inl yes' ↦ let bad : true ≡ false = rw yes' at none in cc | inr no' ↦ rw no' (any_append xs ys (rw no' at none) more) ]

plain_append : (xs ys : List Act) → AllByRecursion IsPlain xs → AllByRecursion IsPlain ys → AllByRecursion IsPlain (xs ++ ys)
plain_append [] ys one more = more
plain_append (x ∷ xs) ys one more = (one.0, plain_append xs ys one.1 more)

-- acts of which nothing is seen
pub record IsQuiet (acts : List Act) : Type 0 where
  pub none : acts_notes acts ≡ []
  pub plain : AllByRecursion IsPlain acts

pub quiet_append : (xs ys : List Act) → IsQuiet xs → IsQuiet ys → IsQuiet (xs ++ ys)
quiet_append xs ys one more = record { none = notes_append xs ys ∙ ap (λ ns. ns ++ acts_notes ys) one.none ∙ more.none; plain = plain_append xs ys one.plain more.plain }

-- a move after such acts
after_quiet : (s : Seen) (m : MasterProc) (acts : List Act) (r : MasterActs) → IsQuiet acts → IsCalmMove s m r → IsCalmMove s m (before_acts acts r)
after_quiet s m acts r quiet c =
    let same : acts_notes (acts ++ r.1) ≡ acts_notes r.1 = notes_append acts r.1 ∙ ap (λ ns. ns ++ acts_notes r.1) quiet.none in
    record {
      move = record {
        fit = subst (λ ns. Fit (fold with_note s ns) r.0) (sym same) c.move.fit;
        plain = plain_append acts r.1 quiet.plain c.move.plain;
        there = c.move.there;
        pend = c.move.pend;
      };
      calm = ap (list_any is_end) same ∙ c.calm;
    }

pub after_quiet_any : (s : Seen) (m : MasterProc) (acts : List Act) (r : MasterActs) → IsQuiet acts → IsAnyMove s m r → IsAnyMove s m (before_acts acts r)
after_quiet_any s m acts r quiet c =
    let same : acts_notes (acts ++ r.1) ≡ acts_notes r.1 = notes_append acts r.1 ∙ ap (λ ns. ns ++ acts_notes r.1) quiet.none in
    record {
      move = record {
        fit = subst (λ ns. Fit (fold with_note s ns) r.0) (sym same) c.move.fit;
        plain = plain_append acts r.1 quiet.plain c.move.plain;
        there = c.move.there;
        pend = c.move.pend;
      };
      once = ap (λ ns. list_any is_end (notes_after ns)) same ∙ c.once;
    }

-- one move after another
then_move : (s : Seen) (m : MasterProc) (r q : MasterActs) → IsCalmMove s m r → IsCalmMove (fold with_note s (acts_notes r.1)) r.0 q → IsCalmMove s m (before_acts r.1 q)
then_move s m r q first next = record {
  move = record {
    fit = subst (λ t. Fit t q.0) (sym (ap (fold with_note s) (notes_append r.1 q.1) ∙ fold_append s (acts_notes r.1) (acts_notes q.1))) next.move.fit;
    plain = plain_append r.1 q.1 first.move.plain next.move.plain;
    there = λ id. next.move.there id ∙ first.move.there id;
    pend = elim next.move.pend [ inl none ↦ inl none | inr same ↦ elim first.move.pend [ inl none ↦ inl (same ∙ none) | inr as_before ↦ inr (same ∙ as_before) ] ];
  };
  calm = ap (list_any is_end) (notes_append r.1 q.1) ∙ any_append (acts_notes r.1) (acts_notes q.1) first.calm next.calm;
}

-- nothing but such acts
pub stays : (s : Seen) (m : MasterProc) (acts : List Act) → Fit s m → IsQuiet acts → IsCalmMove s m (m, acts)
stays s m acts fit quiet = record {
  move = record { fit = subst (λ ns. Fit (fold with_note s ns) m) (sym quiet.none) fit; plain = quiet.plain; there = λ id. refl; pend = inr refl };
  calm = ap (list_any is_end) quiet.none;
}

none_after : (ns : List Note) → list_any is_end ns ≡ false → notes_after ns ≡ []
none_after [] none = refl
none_after (x ∷ xs) none =
    elim (cases_Bool (is_end x)) [ inl yes' ↦ let bad : true ≡ false = rw yes' at none in cc | inr no' ↦ rw no' (none_after xs (rw no' at none)) ]

-- a move in which no command ends is one in which at most one does
pub any_of_calm : (s : Seen) (m : MasterProc) (r : MasterActs) → IsCalmMove s m r → IsAnyMove s m r
any_of_calm s m r c = record { move = c.move; once = ap (list_any is_end) (none_after (acts_notes r.1) c.calm) }

-- ---- a plan is carried out

kept_of : (t : Table) (items : List Item) → AllByRecursion (IsOfRow t) items → AllByRecursion IsKept items
kept_of t [] all = tt
kept_of t (item.Set id n first shape threshold policy key (Some old) ∷ items) all = (tt, kept_of t items all.1)
kept_of t (item.Set id n first shape threshold policy key None ∷ items) all = absurd all.0
kept_of t (item.Unset id ∷ items) all = absurd all.0

pub leave_quiet : (x : Option Node) (how : Option Leaving) (p : Plan) → IsQuiet (leave_acts x how p)
leave_quiet None how p = record { none = refl; plain = tt }
leave_quiet (Some x) None p = record { none = refl; plain = tt }
leave_quiet (Some x) (Some how) p = record { none = refl; plain = (tt, tt) }

alike_there : (x y : Option Row) → AreAlike x y → is_some y ≡ is_some x
alike_there x y (neither none too) = ap is_some too ∙ sym (ap is_some none)
alike_there x y (rows r is q too n f) = ap is_some too ∙ sym (ap is_some is)

pub goes_move : (s : Seen) (m : MasterProc) (c : Change) (f : First) (x : Node) (wanted : Bool) (w : Way) → Fit s m → m.command ≡ Some (asked c f x wanted) → AllByRecursion (IsOfRow m.table) c.plan.items
    → IsCalmMove s m (goes m c w)
goes_move s m c f x wanted w fit opened all =
    let leave = leave_quiet w.leaving w.told c.plan in
    record {
      move = record {
        fit = subst (λ ns. Fit (fold with_note s ns) (goes m c w).0) (sym leave.none) (goes_fit s m c f x wanted fit opened w);
        plain = (tt, (kept_of m.table c.plan.items all, leave.plain));
        there = λ id. alike_there (row m.table id) (row (carried m.table c) id) (all_alike m.table c.plan.g c.plan.sec c.plan.items m.table.rows (λ k. alike_itself (row m.table k)) all id);
        pend = inl refl;
      };
      calm = ap (list_any is_end) leave.none;
    }

-- ---- a command begins that sets bearers of the table

preparing_quiet : (p : Plan) → IsQuiet (preparing p)
preparing_quiet p = elim (cases_Bool (moves_here p)) [ inl yes' ↦ rw yes' (record { none = refl; plain = (tt, tt) }) | inr no' ↦ rw no' (record { none = refl; plain = tt }) ]

-- after its generation is drawn
begins_by_move : (s : Seen) (m : MasterProc) (d : Draft) (wanted : Bool) (o : Option (First × Node)) → Fit s m → m.command ≡ None → AllByRecursion (IsOfRow m.table) d.change.plan.items
    → IsCalmMove (drawn s) m (begins_by (proc_drawn m d) d wanted o)
begins_by_move s m d wanted None fit free all =
    let ready = goes_move (drawn s) (asking m d modification T wanted) d.change modification T wanted alone (settings_fit s m d modification T wanted fit free all) refl all in
    record { move = record { fit = ready.move.fit; plain = ready.move.plain; there = ready.move.there; pend = inl refl }; calm = ready.calm }
begins_by_move s m d wanted (Some (f, who)) fit free all = record {
  move = record { fit = settings_fit s m d f who wanted fit free all; plain = (tt, tt); there = λ id. refl; pend = inl (none_set_up m.table d.change.plan.items all) };
  calm = refl;
}

pub begins_move : (s : Seen) (m : MasterProc) (d : Draft) (wanted : Bool) → Fit s m → m.command ≡ None → AllByRecursion (IsOfRow m.table) d.change.plan.items → IsCalmMove (drawn s) m (begins m d wanted)
begins_move s m d wanted fit free all =
    after_quiet (drawn s) m (preparing d.change.plan) (begins_by (proc_drawn m d) d wanted d.first) (preparing_quiet d.change.plan) (begins_by_move s m d wanted d.first fit free all)

-- a note that a command begins, before
pub after_begin : (s : Seen) (m : MasterProc) (w : Want) (r : MasterActs) → IsCalmMove (drawn s) m r → IsCalmMove s m (before_acts (say (note.Begin w) ∷ []) r)
after_begin s m w r c = record { move = record { fit = c.move.fit; plain = (refl, c.move.plain); there = c.move.there; pend = c.move.pend }; calm = c.calm }

lets_go_move : (s : Seen) (m : MasterProc) (x : Node) (d : Draft) → Fit s m → m.command ≡ None → AllByRecursion (IsOfRow m.table) d.change.plan.items → IsCalmMove s m (lets_go m x d)
lets_go_move s m x d fit free all =
    let ready = goes_move (drawn s) (asking m d release x false) d.change release x false (let_go x) (settings_fit s m d release x false fit free all) refl all in
    let c : IsCalmMove (drawn s) m (goes (proc_drawn m d) d.change (let_go x)) =
    record { move = record { fit = ready.move.fit; plain = ready.move.plain; there = ready.move.there; pend = inl refl }; calm = ready.calm } in
    after_begin s m want.Release (before_acts (preparing d.change.plan) (goes (proc_drawn m d) d.change (let_go x)))
    (after_quiet (drawn s) m (preparing d.change.plan) (goes (proc_drawn m d) d.change (let_go x)) (preparing_quiet d.change.plan) c)

-- ---- the releases that wait

pub waits_fit : (s : Seen) (m : MasterProc) (w : Bool) (x : Node) → Fit s m → Fit s (with_waits w x m)
waits_fit s m w M fit = fit
waits_fit s m w T fit = fit
waits_fit s m w A fit = record { each = λ id. fits_as s m (with_waits w A m) refl refl id (fit.each id); opened = fit.opened; bound = fit.bound; ascends = fit.ascends }
waits_fit s m w B fit = record { each = λ id. fits_as s m (with_waits w B m) refl refl id (fit.each id); opened = fit.opened; bound = fit.bound; ascends = fit.ascends }

-- a move from a state with the same rows
from_same : (s : Seen) (m k : MasterProc) (r : MasterActs) → ((id : ℕ) → is_some (row k.table id) ≡ is_some (row m.table id)) → ((pending k.command ≡ None) ⊎ (pending k.command ≡ pending m.command))
    → IsAnyMove s k r → IsAnyMove s m r
from_same s m k r same pend c = record {
  move = record {
    fit = c.move.fit;
    plain = c.move.plain;
    there = λ id. c.move.there id ∙ same id;
    pend = elim c.move.pend [ inl none ↦ inl none | inr is ↦ elim pend [ inl none ↦ inl (is ∙ none) | inr as_before ↦ inr (is ∙ as_before) ] ];
  };
  once = c.once;
}

-- or from one in which a release waits or does not
pub from_waits : (s : Seen) (m : MasterProc) (w : Bool) (x : Node) (r : MasterActs) → IsCalmMove s (with_waits w x m) r → IsCalmMove s m r
from_waits s m w M r c = c
from_waits s m w T r c = c
from_waits s m w A r c = record { move = record { fit = c.move.fit; plain = c.move.plain; there = c.move.there; pend = c.move.pend }; calm = c.calm }
from_waits s m w B r c = record { move = record { fit = c.move.fit; plain = c.move.plain; there = c.move.there; pend = c.move.pend }; calm = c.calm }

drafted_is : (d e : Draft) → Some d ≡ Some e → d ≡ e
drafted_is d e same = some_is d e same

release_of_rows : (m : MasterProc) → AreAscending 0 m.table.rows → (d : Draft) → draft m.table event.Release ≡ Some d → AllByRecursion (IsOfRow m.table) d.change.plan.items
release_of_rows m up d is =
    let all = some_of_rows m.table m.table.book.current m.table.second_key (λ r. mm) (λ r. not (is_mm r.shape)) up in
    subst (λ (y : Draft). AllByRecursion (IsOfRow m.table) y.change.plan.items) (drafted_is (without_key m.table (same_keys m.table None (map (set_to m.table.book.current m.table.second_key (λ r. mm)) (shared_rows m.table))) (first_asking release m.table.sec)) d is) all

releases_move : (s : Seen) (m : MasterProc) (x : Node) (spent : Bool) (o : Option Draft) → draft m.table event.Release ≡ o → Fit s m → m.command ≡ None → IsCalmMove s m (releases_if m x spent o)
releases_move s m x spent None is fit free = stays s m [] fit (record { none = refl; plain = tt })
releases_move s m x true (Some d) is fit free = stays s m [] fit (record { none = refl; plain = tt })
releases_move s m x false (Some d) is fit free = waited (lets_go_move s (with_waits false x m) x d (waits_fit s m false x fit) (waits_free x) (waits_all x (release_of_rows m fit.ascends d is)))
  where
    waits_free : (y : Node) → (with_waits false y m).command ≡ None
    waits_free M = free
    waits_free T = free
    waits_free A = free
    waits_free B = free

    waits_all : (y : Node) → AllByRecursion (IsOfRow m.table) d.change.plan.items → AllByRecursion (IsOfRow (with_waits false y m).table) d.change.plan.items
    waits_all M all = all
    waits_all T all = all
    waits_all A all = all
    waits_all B all = all

    waited : IsCalmMove s (with_waits false x m) (lets_go (with_waits false x m) x d) → IsCalmMove s m (lets_go (with_waits false x m) x d)
    waited c = from_waits s m false x (lets_go (with_waits false x m) x d) c

tries_now_move : (s : Seen) (m : MasterProc) (x : Node) (at : Bool) → Fit s m → m.command ≡ None → IsCalmMove s m (tries_now m x at)
tries_now_move s m x true fit free = releases_move s m x (is_release_spent m.table (draft m.table event.Release)) (draft m.table event.Release) refl fit free
tries_now_move s m x false fit free =
    from_waits s m false x (with_waits false x m, send x nothing_to_release ∷ []) (stays s (with_waits false x m) (send x nothing_to_release ∷ []) (waits_fit s m false x fit) (record { none = refl; plain = (tt, tt) }))

tries_if_move : (s : Seen) (m : MasterProc) (x : Node) (waits : Bool) (o : Option Command) → m.command ≡ o → Fit s m → IsCalmMove s m (tries_if m x waits o)
tries_if_move s m x false o is fit = stays s m [] fit (record { none = refl; plain = tt })
tries_if_move s m x true None is fit = tries_now_move s m x (is_at x m.table.sec) fit is
tries_if_move s m x true (Some (asked c f y w)) is fit = stays s m [] fit (record { none = refl; plain = tt })
tries_if_move s m x true (Some (gone p g)) is fit = stays s m [] fit (record { none = refl; plain = tt })
tries_if_move s m x true (Some (recovering i t z)) is fit = stays s m [] fit (record { none = refl; plain = tt })

pub tries_move : (s : Seen) (m : MasterProc) (x : Node) → Fit s m → IsCalmMove s m (tries x m)
tries_move s m x fit = tries_if_move s m x (waits_at m x) m.command refl fit

retries_move : (s : Seen) (m : MasterProc) → Fit s m → IsCalmMove s m (retries m)
retries_move s m fit =
    let x = tried_first m.table.sec in
    let first = tries_move s m x fit in
    then_move s m (tries x m) (tries (other_second x) (tries x m).0) first (tries_move (fold with_note s (acts_notes (tries x m).1)) (tries x m).0 (other_second x) first.move.fit)

-- ---- a command ends

-- with one note, after acts of which nothing is seen
ends_move : (s : Seen) (m : MasterProc) (acts : List Act) (how : Note) → IsQuiet acts → act_notes (say how) ≡ how ∷ [] → IsPlain (say how) → is_end how ≡ true
    → Fit (with_note s how) (record m { command = None }) → IsAnyMove s m (ends m acts how)
ends_move s m acts how quiet one plain at_end fit =
    let k = record m { command = None } in
    let rest = retries_move (with_note s how) k fit in
    let r = retries k in
    let same : acts_notes ((acts ++ say how ∷ []) ++ r.1) ≡ how ∷ acts_notes r.1 =
    notes_append (acts ++ say how ∷ []) r.1
    ∙ ap (λ ns. ns ++ acts_notes r.1) (notes_append acts (say how ∷ []) ∙ ap (λ ns. ns ++ acts_notes (say how ∷ [])) quiet.none ∙ ap (λ ns. ns ++ []) one) in
    record {
      move = record {
        fit = subst (λ ns. Fit (fold with_note s ns) r.0) (sym same) rest.move.fit;
        plain = plain_append (acts ++ say how ∷ []) r.1 (plain_append acts (say how ∷ []) quiet.plain (plain, tt)) rest.move.plain;
        there = rest.move.there;
        pend = inl (elim rest.move.pend [ inl none ↦ none | inr as_before ↦ as_before ]);
      };
      once = ap (λ ns. list_any is_end (notes_after ns)) same ∙ rw at_end rest.calm;
    }

forgetting_quiet : (x : Option Node) (g : ℕ) → IsQuiet (forgetting x g)
forgetting_quiet None g = record { none = refl; plain = tt }
forgetting_quiet (Some x) g = record { none = refl; plain = (tt, tt) }

-- with `done`, where the command is not one that waits for its first answer
done_move : (s : Seen) (m : MasterProc) (acts : List Act) → IsQuiet acts → Fit s m → IsNotAsked m.command → IsAnyMove s m (ends m acts note.Done)
done_move s m acts quiet fit not_asked = ends_move s m acts note.Done quiet refl refl refl (done_fit s m fit not_asked)

-- with `rejected`
pub rejected_move : (s : Seen) (m : MasterProc) (c : Change) (f : First) (x : Node) (w : Bool) (acts : List Act) → IsQuiet acts → Fit s m → m.command ≡ Some (asked c f x w)
    → IsAnyMove s m (ends m acts note.Rejected)
rejected_move s m c f x w acts quiet fit opened = ends_move s m acts note.Rejected quiet refl refl refl (rejected_fit s m c f x w fit opened)

-- ---- what is awaited comes

gone_move : (s : Seen) (m : MasterProc) (p : Plan) (g : Going) (complete : Bool) (moving : List (ℕ × Node)) → Fit s m → m.command ≡ Some (gone p g) → IsAnyMove s m (ends_gone m p g complete moving)
gone_move s m p g false moving fit is = any_of_calm s m (m, []) (stays s m [] fit (record { none = refl; plain = tt }))
gone_move s m p g true (x ∷ xs) fit is = any_of_calm s m (m, []) (stays s m [] fit (record { none = refl; plain = tt }))
gone_move s m p g true [] fit is = done_move s m (forgetting g.leaving p.g) (forgetting_quiet g.leaving p.g) fit (λ c f x w opened. not_asked_gone c f x w p g (sym opened ∙ is))

recovering_move : (s : Seen) (m : MasterProc) (i : ℕ) (terminal : Bool) (second : Option Node) → Fit s m → m.command ≡ Some (recovering i terminal second) → IsAnyMove s m (ends_recovering m terminal second)
recovering_move s m i true second fit is = any_of_calm s m (m, []) (stays s m [] fit (record { none = refl; plain = tt }))
recovering_move s m i false (Some x) fit is = any_of_calm s m (m, []) (stays s m [] fit (record { none = refl; plain = tt }))
recovering_move s m i false None fit is = done_move s m [] (record { none = refl; plain = tt }) fit (λ c f x w opened. not_asked_recovering c f x w i false None (sym opened ∙ is))

-- the change goes on: less is awaited
pub goes_on : (s : Seen) (m : MasterProc) (p : Plan) (g h : Going) → Fit s m → m.command ≡ Some (gone p g) → IsAnyMove s m (waits_for m (gone p h))
goes_on s m p g h fit is =
    let k = record m { command = Some (gone p h) } in
    from_same s m k (ends_gone k p h h.complete h.moving) (λ id. refl) (inl refl)
    (gone_move s k p h h.complete h.moving (record { each = λ id. gone_fits s m p g h is id (fit.each id); opened = tt; bound = fit.bound; ascends = fit.ascends }) refl)

-- and so does a recovery
pub recovers_on : (s : Seen) (m : MasterProc) (i : ℕ) (t u : Bool) (x y : Option Node) → Fit s m → m.command ≡ Some (recovering i t x) → IsAnyMove s m (waits_for m (recovering i u y))
recovers_on s m i t u x y fit is =
    let k = record m { command = Some (recovering i u y) } in
    from_same s m k (ends_recovering k u y) (λ id. refl) (inl refl)
    (recovering_move s k i u y (record { each = λ id. recovering_fits s m i t u x y is id (fit.each id); opened = tt; bound = fit.bound; ascends = fit.ascends }) refl)
