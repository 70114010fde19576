-- The master after a step of its procedures and all that they have it do.
use Rattle.std.proofs.Common.{ℕ, ◌≡◌, ◌≤◌, ◌+◌, ◌==◌, ◌++◌, ◌⊎◌, true, false, List, [], ◌∷◌, Option, Some, None, refl, sym, ap, subst, ◌∙◌, inl, inr}
use Rattle.std.specs.Prelude.{fold, is_some}
use Rattle.std.specs.List.{list_any}
use Rattle.std.specs.Option.{option_map}
use Rattle.std.proofs.lemmas.Bool.{cases_Bool, eqb-true}
use Rattle.dc_base.specs.declared.events.Note.{Note}
use Rattle.dc_base.specs.declared.events.Note.TheVariants as note
use Rattle.dc_base.specs.declared.nodes.Dir.TheVariants.{Dl, Ul}
use Rattle.dc_base.specs.declared.numbers.SnLen.{SnLen}
use Rattle.node_rules.specs.Held.{held}
use Rattle.node_rules.specs.Lines.{is_end, notes_after, place}
use Rattle.node_rules.specs.Master.{MasterNode}
use Rattle.node_rules.specs.MasterState.{MasterActs, MasterProc}
use Rattle.node_rules.specs.CommandTable.{row}
use Rattle.node_rules.specs.declared.commands.Command.{Command}
use Rattle.node_rules.specs.declared.commands.Command.TheVariants.{Asked as asked, Gone as gone, Recovering as recovering}
use Rattle.run_windows.specs.ActNotes.{acts_notes}
use Rattle.run_windows.specs.Answers.{IsSeen}
use Rattle.run_windows.specs.Controls.{controls, freeds}
use Rattle.run_windows.specs.Fits.{Fit, Fits, IsNew, IsNoneOrOut, IsOpened, absent, awaited, dropping, set_up, setting_up, settings, there}
use Rattle.run_windows.specs.Seen.{Count, Face, Seen, freed_to, latest, on_latest, with_note}
use Rattle.run_windows.specs.Windows.{AreCounted, pending}
use Rattle.run_windows.proofs.Latest.{latest-other, latest-same}
use Rattle.run_windows.proofs.Moving.{IsAnyMove}
use Rattle.run_windows.proofs.Sorting.{EndsOnce, apart}
use Rattle.run_windows.proofs.Telling.{Tells}

-- ---- a window that begins further on changes nothing of the commands

-- the latest establishment of each identity has the same face
abbrev pub SameFaces : List (Face × Count) → List (Face × Count) → Type 0
SameFaces bs cs = (id : ℕ) → option_map (λ (b : Face × Count). b.0) (latest id cs) ≡ option_map (λ (b : Face × Count). b.0) (latest id bs)

freed_faces : (id count : ℕ) (bs : List (Face × Count)) → SameFaces bs (on_latest id (freed_to count) bs)
freed_faces id count bs k =
    elim (cases_Bool (id == k)) [
      | inl same ↦
          subst (λ j. option_map (λ (b : Face × Count). b.0) (latest j (on_latest id (freed_to count) bs)) ≡ option_map (λ (b : Face × Count). b.0) (latest j bs)) (eqb-true id k same)
          (ap (option_map (λ (b : Face × Count). b.0)) (latest-same id (freed_to count) (λ b. refl) bs) ∙ by (latest id bs))
      | inr other ↦ ap (option_map (λ (b : Face × Count). b.0)) (latest-other id k (freed_to count) (λ b. refl) other bs)
    ]
  where
    by : (o : Option (Face × Count)) → option_map (λ (b : Face × Count). b.0) (option_map (freed_to count) o) ≡ option_map (λ (b : Face × Count). b.0) o
    by None = refl
    by (Some b) = refl

-- what has this face
faced : (o : Option (Face × Count)) (f : Face) → option_map (λ (b : Face × Count). b.0) o ≡ Some f → (b : Face × Count) × (o ≡ Some b) × (b.0 ≡ f)
faced None f is = let bad : None ≡ Some f = is in absurd (cc bad)
faced (Some b) f is = (b, refl, ap (λ (o : Option Face). elim o [ None ↦ b.0 | Some x ↦ x ]) is)

module _ (s : Seen) (cs : List (Face × Count)) (same : SameFaces s.bearers cs) where
  abbrev t : Seen
  t = record s { bearers = cs }

  -- the establishment in the place of another
  found : (id : ℕ) (b : Face × Count) → latest id s.bearers ≡ Some b → (c : Face × Count) × (latest id cs ≡ Some c) × (c.0 ≡ b.0)
  found id b at = faced (latest id cs) b.0 (same id ∙ ap (option_map (λ (x : Face × Count). x.0)) at)

  none_or_out : (id : ℕ) → IsNoneOrOut s.kind (latest id s.bearers) → IsNoneOrOut s.kind (latest id cs)
  none_or_out id out = by (latest id s.bearers) (latest id cs) (same id) out
    where
      by : (x y : Option (Face × Count)) → option_map (λ (b : Face × Count). b.0) y ≡ option_map (λ (b : Face × Count). b.0) x → IsNoneOrOut s.kind x → IsNoneOrOut s.kind y
      by None None is out = tt
      by (Some b) None is out = tt
      by None (Some c) is out = let bad : Some c.0 ≡ None = is in absurd (cc bad)
      by (Some b) (Some c) is out =
          let face : c.0 ≡ b.0 = ap (λ (o : Option Face). elim o [ None ↦ c.0 | Some x ↦ x ]) is in
          subst (λ (f : Face). IsNoneOrOut s.kind (Some (f, c.1))) (sym face) out

  same_fits : (m : MasterProc) (id : ℕ) → Fits s m id → Fits t m id
  same_fits m id (absent none out) = absent none (none_or_out id out)
  same_fits m id (awaited b at none c f x w is sets new) =
      let y = found id b at in
      awaited y.0 y.1 none c f x w is (sets ∙ ap (λ (g : Face). Some (id, g.n, g.first)) (sym y.2)) (subst (λ (g : Face). IsNew s.kind (g, y.0.1)) (sym y.2) new)
  same_fits m id (set_up b at r is row_is p g at_work sets new) =
      let y = found id b at in
      set_up y.0 y.1 r is (row_is.0 ∙ ap (λ (g : Face). g.n) (sym y.2), row_is.1 ∙ ap (λ (g : Face). g.first) (sym y.2)) p g at_work sets (subst (λ (g : Face). IsNew s.kind (g, y.0.1)) (sym y.2) new)
  same_fits m id (there b at r is row_is done settled) =
      let y = found id b at in
      there y.0 y.1 r is (row_is.0 ∙ ap (λ (g : Face). g.n) (sym y.2), row_is.1 ∙ ap (λ (g : Face). g.first) (sym y.2)) (ap (λ (g : Face). g.is_done) y.2 ∙ done)
      (λ u. settled (ap (λ (g : Face). g.is_dropped) (sym y.2) ∙ u))

  same_opened : (m : MasterProc) (o : Option Command) → IsOpened s m.table o → IsOpened t m.table o
  same_opened m None is = tt
  same_opened m (Some (gone p g)) is = tt
  same_opened m (Some (recovering i u z)) is = tt
  same_opened m (Some (asked c f x w)) (settings all) = settings all
  same_opened m (Some (asked c f x w)) (dropping id is) = dropping id is
  same_opened m (Some (asked c f x w)) (setting_up id n first shape threshold policy key is none b at same_n same_first new) =
      let y = found id b at in
      setting_up id n first shape threshold policy key is none y.0 y.1 (ap (λ (g : Face). g.n) y.2 ∙ same_n) (ap (λ (g : Face). g.first) y.2 ∙ same_first)
      (subst (λ (g : Face). IsNew s.kind (g, y.0.1)) (sym y.2) new)

  back : (id : ℕ) (c : Face × Count) → latest id cs ≡ Some c → (b : Face × Count) × (latest id s.bearers ≡ Some b) × (b.0 ≡ c.0)
  back id c at = faced (latest id s.bearers) c.0 (sym (same id) ∙ ap (option_map (λ (x : Face × Count). x.0)) at)

  pub same_fit : (m : MasterProc) → Fit s m → Fit t m
  same_fit m fit = record {
    each = λ id. same_fits m id (fit.each id);
    opened = same_opened m m.command fit.opened;
    bound = λ id c at. let y = back id c at in subst (λ (f : Face). f.g ≤ s.last) y.2 (fit.bound id y.0 y.1);
    ascends = fit.ascends;
  }

freed_fit : (n : Note) → (place n == 4) ≡ true → (s : Seen) (m : MasterProc) → Fit s m → Fit (with_note s n) m
freed_fit (note.Freed id Dl count) is s m fit = same_fit s (on_latest id (freed_to count) s.bearers) (freed_faces id count s.bearers) m fit
freed_fit (note.Freed id Ul count) is s m fit = fit
freed_fit (note.Begin w) is s m fit = let bad : false ≡ true = is in cc
freed_fit (note.Join x g) is s m fit = let bad : false ≡ true = is in cc
freed_fit (note.Leave x g) is s m fit = let bad : false ≡ true = is in cc
freed_fit (note.Give x id g) is s m fit = let bad : false ≡ true = is in cc
freed_fit (note.Own x id g) is s m fit = let bad : false ≡ true = is in cc
freed_fit (note.Set id g) is s m fit = let bad : false ≡ true = is in cc
freed_fit (note.Unset id) is s m fit = let bad : false ≡ true = is in cc
freed_fit (note.Up x id d count sdu) is s m fit = let bad : false ≡ true = is in cc
freed_fit (note.Confirmed x) is s m fit = let bad : false ≡ true = is in cc
freed_fit (note.Refused x w) is s m fit = let bad : false ≡ true = is in cc
freed_fit note.Done is s m fit = let bad : false ≡ true = is in cc
freed_fit note.Rejected is s m fit = let bad : false ≡ true = is in cc

freeds_fit : (ns : List Note) (s : Seen) (m : MasterProc) → Fit s m → Fit (fold with_note s (freeds ns)) m
freeds_fit [] s m fit = fit
freeds_fit (n ∷ ns) s m fit =
    elim (cases_Bool (place n == 4)) [
      | inl is ↦ rw is (freeds_fit ns (with_note s n) m (freed_fit n is s m fit))
      | inr other ↦ rw other (freeds_fit ns s m fit)
    ]

-- ---- a step of the procedures with what it has the master do

-- ends of commands are among the notes that begin or end one
any_control : (ns : List Note) → list_any is_end ns ≡ list_any is_end (controls ns)
any_control [] = refl
any_control (note.Begin w ∷ ns) = any_control ns
any_control (note.Join x g ∷ ns) = any_control ns
any_control (note.Leave x g ∷ ns) = any_control ns
any_control (note.Give x id g ∷ ns) = any_control ns
any_control (note.Own x id g ∷ ns) = any_control ns
any_control (note.Set id g ∷ ns) = any_control ns
any_control (note.Unset id ∷ ns) = any_control ns
any_control (note.Up x id d count sdu ∷ ns) = any_control ns
any_control (note.Freed id d count ∷ ns) = any_control ns
any_control (note.Confirmed x ∷ ns) = any_control ns
any_control (note.Refused x w ∷ ns) = any_control ns
any_control (note.Done ∷ ns) = refl
any_control (note.Rejected ∷ ns) = refl

pub after_controls : (ns : List Note) → list_any is_end (notes_after ns) ≡ list_any is_end (notes_after (controls ns))
after_controls [] = refl
after_controls (note.Begin w ∷ ns) = after_controls ns
after_controls (note.Join x g ∷ ns) = after_controls ns
after_controls (note.Leave x g ∷ ns) = after_controls ns
after_controls (note.Give x id g ∷ ns) = after_controls ns
after_controls (note.Own x id g ∷ ns) = after_controls ns
after_controls (note.Set id g ∷ ns) = after_controls ns
after_controls (note.Unset id ∷ ns) = after_controls ns
after_controls (note.Up x id d count sdu ∷ ns) = after_controls ns
after_controls (note.Freed id d count ∷ ns) = after_controls ns
after_controls (note.Confirmed x ∷ ns) = after_controls ns
after_controls (note.Refused x w ∷ ns) = after_controls ns
after_controls (note.Done ∷ ns) = any_control ns
after_controls (note.Rejected ∷ ns) = any_control ns

pub fold_append : (s : Seen) (xs ys : List Note) → fold with_note s (xs ++ ys) ≡ fold with_note (fold with_note s xs) ys
fold_append s [] ys = refl
fold_append s (x ∷ xs) ys = fold_append (with_note s x) xs ys

-- with another bearer to be set up, or none
repended : (p q : Option (ℕ × SnLen × ℕ)) (bs : List (Face × Count)) (m : MasterNode) → AreCounted p bs m.windows → (q ≡ None) ⊎ (q ≡ p) → AreCounted q bs m.windows
repended p q bs m is pend =
    elim pend [
      | inl none ↦ record { each = is.each; fresh = λ id n first to. let bad : None ≡ Some (id, n, first) = sym none ∙ to in absurd (cc bad); ascends = is.ascends }
      | inr same ↦ subst (λ x. AreCounted x bs m.windows) (sym same) is
    ]

-- what is seen of it, with the promise that a command ends once at most
pub record IsSeenOnce (s : Seen) (m : MasterNode) (ns : List Note) : Type 0 where
  pub seen : IsSeen (fold with_note s ns) m
  pub once : EndsOnce ns

pub moved_seen : (s : Seen) (m k : MasterNode) (r : MasterActs) (ns : List Note) → AreCounted (pending m.proc.command) s.bearers m.windows
    → ((id : ℕ) → is_some (held id m.windows) ≡ is_some (row m.proc.table id)) → IsAnyMove s m.proc r → Tells (record m { proc = r.0 }) k ns (acts_notes r.1) → IsSeenOnce s k ns
moved_seen s m k r ns counted windows any tells =
    let fit : Fit (fold with_note s ns) r.0 =
    subst (λ u. Fit u r.0) (sym (apart s ns ∙ ap (λ cs. fold with_note (fold with_note s cs) (freeds ns)) tells.said)) (freeds_fit ns (fold with_note s (acts_notes r.1)) r.0 any.move.fit) in
    record {
      seen = record {
        fit = subst (λ (p : MasterProc). Fit (fold with_note s ns) p) (sym tells.proc) fit;
        counted = repended (pending m.proc.command) (pending k.proc.command) (fold with_note s ns).bearers k (tells.counted (pending m.proc.command) s counted)
            (elim any.move.pend [ inl none ↦ inl (ap (λ (p : MasterProc). pending p.command) tells.proc ∙ none) | inr same ↦ inr (ap (λ (p : MasterProc). pending p.command) tells.proc ∙ same) ]);
        there = λ id. (tells.there counted.ascends).1 id ∙ windows id ∙ sym (any.move.there id) ∙ ap (λ (p : MasterProc). is_some (row p.table id)) (sym tells.proc);
      };
      once = after_controls ns ∙ ap (λ cs. list_any is_end (notes_after cs)) tells.said ∙ any.once;
    }
