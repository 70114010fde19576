-- What the procedures of the master hold of each bearer stays as it is seen, at each of their steps.
use Rattle.std.proofs.Common.{ℕ, ◌≡◌, ◌≤◌, ◌+◌, ◌==◌, ◌⊎◌, Bool, true, false, List, [], ◌∷◌, Option, Some, None, refl, sym, ap, subst, ◌∙◌, arith, inl, inr}
use Rattle.std.specs.Prelude.{fold, filter, not, ◌||◌}
use Rattle.std.specs.List.{AllByRecursion, list_any}
use Rattle.std.specs.Option.{option_map}
use Rattle.std.proofs.lemmas.Bool.{cases_Bool, eqb-true, eqb-false, eq-eqb, ne_eqb}
use Rattle.dc_base.specs.declared.numbers.SnLen.{SnLen}
use Rattle.dc_base.specs.declared.nodes.Node.{Node}
use Rattle.dc_base.specs.declared.records.Item.{Item}
use Rattle.dc_base.specs.declared.records.Item.TheVariants as item
use Rattle.dc_base.specs.declared.records.Plan.{Plan}
use Rattle.claims.specs.Table.{Kind, change, is_change}
use Rattle.node_rules.specs.CommandTable.{Table, row, rows_after, with_row}
use Rattle.node_rules.specs.Drafts.{Draft}
use Rattle.node_rules.specs.MasterGo.{goes, moving_by}
use Rattle.node_rules.specs.MasterGo.{drawn as proc_drawn}
use Rattle.node_rules.specs.Places.{anchor_at}
use Rattle.node_rules.specs.declared.commands.Way.{Way}
use Rattle.master_runs.proofs.Holding.{row-same, row-other}
use Rattle.dc_base.specs.declared.events.Note.TheVariants as note
use Rattle.node_rules.specs.MasterState.{MasterProc, is_unsettled, is_unsettled_by}
use Rattle.node_rules.specs.declared.commands.Change.{Change}
use Rattle.node_rules.specs.declared.commands.Command.{Command}
use Rattle.node_rules.specs.declared.commands.Command.TheVariants.{Asked as asked, Gone as gone, Recovering as recovering}
use Rattle.node_rules.specs.declared.commands.First.{First}
use Rattle.node_rules.specs.declared.commands.Going.{Going}
use Rattle.node_rules.specs.declared.commands.Row.{Row}
use Rattle.run_windows.specs.Fits.{AreFit, Fit, Fits, IsNoneOrOut, IsOfRow, IsOpened, IsOut, IsRow, absent, awaited, dropping, is_kind_of, set_up, setting_up, settings, there}
use Rattle.run_windows.specs.Seen.{Count, Face, Seen, done_by, done_in, drawn, latest, with_note}
use Rattle.run_windows.specs.Windows.{set_up_by}
use Rattle.run_windows.proofs.Latest.{latest-done, some_is}
use Rattle.run_windows.proofs.Tables.{AreAlike, all_alike, alike_itself, dropped_row, kept_row, neither, row_in, rows, rows_ascend, some_row}

-- an option is not both
pub not_both : {X : Type 0} (o : Option X) (x : X) → o ≡ None → o ≡ Some x → ⊥
not_both o x none some = let bad : None ≡ Some x = sym none ∙ some in absurd (cc bad)

abbrev is_asked : Option Command → Bool
is_asked None = false
is_asked (Some (asked c f x w)) = true
is_asked (Some (gone p g)) = false
is_asked (Some (recovering i t s)) = false

abbrev is_gone : Option Command → Bool
is_gone None = false
is_gone (Some (asked c f x w)) = false
is_gone (Some (gone p g)) = true
is_gone (Some (recovering i t s)) = false

abbrev plan_of : Plan → Option Command → Plan
plan_of p None = p
plan_of p (Some (asked c f x w)) = p
plan_of p (Some (gone r g)) = r
plan_of p (Some (recovering i t s)) = p

abbrev change_of : Change → Option Command → Change
change_of c None = c
change_of c (Some (asked d f x w)) = d
change_of c (Some (gone p g)) = c
change_of c (Some (recovering i t s)) = c

-- a command is one of its kinds alone
pub not_asked_gone : (c : Change) (f : First) (x : Node) (w : Bool) (p : Plan) (g : Going) → Some (asked c f x w) ≡ Some (gone p g) → ⊥
not_asked_gone c f x w p g same = let bad : true ≡ false = ap is_asked same in cc

pub not_asked_recovering : (c : Change) (f : First) (x : Node) (w : Bool) (i : ℕ) (t : Bool) (z : Option Node) → Some (asked c f x w) ≡ Some (recovering i t z) → ⊥
not_asked_recovering c f x w i t z same = let bad : true ≡ false = ap is_asked same in cc

not_gone_recovering : (p : Plan) (g : Going) (i : ℕ) (t : Bool) (z : Option Node) → Some (gone p g) ≡ Some (recovering i t z) → ⊥
not_gone_recovering p g i t z same = let bad : true ≡ false = ap is_gone same in cc

plan_same : (p q : Plan) (g h : Going) → Some (gone p g) ≡ Some (gone q h) → p ≡ q
plan_same p q g h same = ap (plan_of p) same

-- ---- the items of settings

-- they set nothing up
pub none_set_up : (t : Table) (items : List Item) → AllByRecursion (IsOfRow t) items → set_up_by items ≡ None
none_set_up t [] all = refl
none_set_up t (item.Set id n first shape threshold policy key (Some old) ∷ items) all = refl
none_set_up t (item.Set id n first shape threshold policy key None ∷ items) all = absurd all.0
none_set_up t (item.Unset id ∷ items) all = absurd all.0

-- and leave every bearer settled
all_settled : (t : Table) (id : ℕ) (items : List Item) → AllByRecursion (IsOfRow t) items → list_any (is_unsettled_by id) items ≡ false
all_settled t id [] all = refl
all_settled t id (item.Set i n first shape threshold policy key (Some old) ∷ items) all = all_settled t id items all.1
all_settled t id (item.Set i n first shape threshold policy key None ∷ items) all = absurd all.0
all_settled t id (item.Unset i ∷ items) all = absurd all.0

-- ---- a command ends

out_done : (k : Kind) (b : Face × Count) → IsOut (Some k) b → IsOut None (done_in k b)
out_done k b out =
    elim out [
      | inl gone' ↦ elim (cases_Bool (is_change b.0.g k)) [ inl yes' ↦ rw yes' (inl gone') | inr no' ↦ rw no' (inl gone') ]
      | inr never ↦ let no' = never.1 in rw no' (inr (never.0, refl))
    ]

none_or_out_done : (o : Option Kind) (bs : List (Face × Count)) (id : ℕ) → IsNoneOrOut o (latest id bs) → IsNoneOrOut None (latest id (done_by o bs))
none_or_out_done None bs id out = weaken (latest id bs) out
  where
    weaken : (x : Option (Face × Count)) → IsNoneOrOut None x → IsNoneOrOut None x
    weaken x out = out
none_or_out_done (Some k) bs id out = subst (λ y. IsNoneOrOut None y) (sym (latest-done k id bs)) (by (latest id bs) out)
  where
    by : (x : Option (Face × Count)) → IsNoneOrOut (Some k) x → IsNoneOrOut None (option_map (done_in k) x)
    by None out = tt
    by (Some b) out = out_done k b out

-- the latest establishment after the end, where there is one
abbrev after_done : Option Kind → Face × Count → Face × Count
after_done None b = b
after_done (Some k) b = done_in k b

latest_after : (o : Option Kind) (bs : List (Face × Count)) (id : ℕ) (b : Face × Count) → latest id bs ≡ Some b → latest id (done_by o bs) ≡ Some (after_done o b)
latest_after None bs id b at = at
latest_after (Some k) bs id b at = latest-done k id bs ∙ ap (option_map (done_in k)) at

same_row : (o : Option Kind) (r : Row) (b : Face × Count) → IsRow r b → IsRow r (after_done o b)
same_row None r b same = same
same_row (Some k) r b same = elim (cases_Bool (is_change b.0.g k)) [ inl yes' ↦ rw yes' same | inr no' ↦ rw no' same ]

stays_done : (o : Option Kind) (b : Face × Count) → b.0.is_done ≡ true → (after_done o b).0.is_done ≡ true
stays_done None b done = done
stays_done (Some k) b done = elim (cases_Bool (is_change b.0.g k)) [ inl yes' ↦ rw yes' refl | inr no' ↦ rw no' done ]

becomes_done : (o : Option Kind) (b : Face × Count) → is_kind_of b.0.g o ≡ true → (after_done o b).0.is_done ≡ true
becomes_done None b is = let bad : false ≡ true = is in cc
becomes_done (Some k) b is = rw is refl

same_name : (o : Option Kind) (b : Face × Count) → (after_done o b).0.g ≡ b.0.g
same_name None b = refl
same_name (Some k) b = elim (cases_Bool (is_change b.0.g k)) [ inl yes' ↦ rw yes' refl | inr no' ↦ rw no' refl ]

-- the latest was there before
from_before : (o : Option Kind) (bs : List (Face × Count)) (id : ℕ) (x : Face × Count) → latest id (done_by o bs) ≡ Some x → (b : Face × Count) × (latest id bs ≡ Some b) × (x.0.g ≡ b.0.g)
from_before o bs id x at = by (latest id bs) refl
  where
    by : (y : Option (Face × Count)) → latest id bs ≡ y → (b : Face × Count) × (latest id bs ≡ Some b) × (x.0.g ≡ b.0.g)
    by (Some b) is = (b, is, ap (λ (z : Face × Count). z.0.g) (some_is x (after_done o b) (sym at ∙ latest_after o bs id b is)) ∙ same_name o b)
    by None is = absurd (not_both (latest id (done_by o bs)) x (none_after o is) at)
      where
        none_after : (o : Option Kind) → latest id bs ≡ None → latest id (done_by o bs) ≡ None
        none_after None none = none
        none_after (Some k) none = latest-done k id bs ∙ ap (option_map (done_in k)) none

-- the procedures with the same rows and the same open command
pub fits_as : (s : Seen) (m k : MasterProc) → k.table.rows ≡ m.table.rows → k.command ≡ m.command → (id : ℕ) → Fits s m id → Fits s k id
fits_as s m k table command id (absent none out) = absent (ap (row_in id) table ∙ none) out
fits_as s m k table command id (awaited b at none c f x w is sets new) = awaited b at (ap (row_in id) table ∙ none) c f x w (command ∙ is) sets new
fits_as s m k table command id (set_up b at r is same p g at_work sets new) = set_up b at r (ap (row_in id) table ∙ is) same p g (command ∙ at_work) sets new
fits_as s m k table command id (there b at r is same done settled) = there b at r (ap (row_in id) table ∙ is) same done (λ u. ap (is_unsettled id) command ∙ settled u)

-- a command goes on: less is awaited
pub gone_fits : (s : Seen) (m : MasterProc) (p : Plan) (g h : Going) → m.command ≡ Some (gone p g) → (id : ℕ) → Fits s m id → Fits s (record m { command = Some (gone p h) }) id
gone_fits s m p g h is id (absent none out) = absent none out
gone_fits s m p g h is id (awaited b at none c f x w opened sets new) = absurd (not_asked_gone c f x w p g (sym opened ∙ is))
gone_fits s m p g h is id (set_up b at r is_row same q k at_work sets new) =
    set_up b at r is_row same p h refl (ap (λ (z : Plan). list_any (is_unsettled_by id) z.items) (plan_same p q g k (sym is ∙ at_work)) ∙ sets) new
gone_fits s m p g h is id (there b at r is_row same done settled) = there b at r is_row same done (λ u. sym (ap (is_unsettled id) is) ∙ settled u)

pub recovering_fits : (s : Seen) (m : MasterProc) (i : ℕ) (t u : Bool) (x y : Option Node) → m.command ≡ Some (recovering i t x) → (id : ℕ) → Fits s m id
    → Fits s (record m { command = Some (recovering i u y) }) id
recovering_fits s m i t u x y is id (absent none out) = absent none out
recovering_fits s m i t u x y is id (awaited b at none c f z w opened sets new) = absurd (not_asked_recovering c f z w i t x (sym opened ∙ is))
recovering_fits s m i t u x y is id (set_up b at r is_row same q k at_work sets new) = absurd (not_gone_recovering q k i t x (sym at_work ∙ is))
recovering_fits s m i t u x y is id (there b at r is_row same done settled) = there b at r is_row same done (λ d. refl)

-- ---- the steps

-- the open command is not one that waits for its first answer
abbrev pub IsNotAsked : Option Command → Type 0
IsNotAsked o = (c : Change) (f : First) (x : Node) (w : Bool) → o ≡ Some (asked c f x w) → ⊥

pub done_fit : (s : Seen) (m : MasterProc) → Fit s m → IsNotAsked m.command → Fit (with_note s note.Done) (record m { command = None })
done_fit s m fit not_asked = record {
  each = λ id. by id (fit.each id);
  opened = tt;
  bound = λ id b at. let x = from_before s.kind s.bearers id b at in subst (λ k. k ≤ s.last) (sym x.2) (fit.bound id x.0 x.1);
  ascends = fit.ascends;
}
  where
    by : (id : ℕ) → Fits s m id → Fits (with_note s note.Done) (record m { command = None }) id
    by id (absent none out) = absent none (none_or_out_done s.kind s.bearers id out)
    by id (awaited b at none c f x w is sets new) = absurd (not_asked c f x w is)
    by id (set_up b at r is same p g at_work sets new) =
        there (after_done s.kind b) (latest_after s.kind s.bearers id b at) r is (same_row s.kind r b same) (becomes_done s.kind b new.2) (λ d. refl)
    by id (there b at r is same done settled) =
        there (after_done s.kind b) (latest_after s.kind s.bearers id b at) r is (same_row s.kind r b same) (stays_done s.kind b done) (λ d. refl)

loosened : (k : Option Kind) (o : Option (Face × Count)) → IsNoneOrOut k o → IsNoneOrOut None o
loosened k None out = tt
loosened k (Some b) out = elim out [ inl gone' ↦ inl gone' | inr never ↦ inr (never.0, refl) ]

pub rejected_fit : (s : Seen) (m : MasterProc) (c : Change) (f : First) (x : Node) (w : Bool) → Fit s m → m.command ≡ Some (asked c f x w)
    → Fit (with_note s note.Rejected) (record m { command = None })
rejected_fit s m c f x w fit opened = record { each = λ id. by id (fit.each id); opened = tt; bound = fit.bound; ascends = fit.ascends }
  where
    by : (id : ℕ) → Fits s m id → Fits (with_note s note.Rejected) (record m { command = None }) id
    by id (absent none out) = absent none (loosened s.kind (latest id s.bearers) out)
    by id (awaited b at none c' f' x' w' is sets new) = absent none (subst (λ o. IsNoneOrOut None o) (sym at) (inr (new.0, refl)))
    by id (set_up b at r is same p g at_work sets new) = absurd (not_asked_gone c f x w p g (sym opened ∙ at_work))
    by id (there b at r is same done settled) = there b at r is same done (λ d. refl)

-- a plan is drawn: what is out stays out
pub out_drawn : (s : Seen) (o : Option (Face × Count)) → ((b : Face × Count) → o ≡ Some b → b.0.g ≤ s.last) → IsNoneOrOut s.kind o → IsNoneOrOut (drawn s).kind o
out_drawn s None bound out = tt
out_drawn s (Some b) bound out =
    elim out [
      | inl gone' ↦ inl gone'
      | inr never ↦ let below = bound b refl in inr (never.0, ne_eqb b.0.g (s.last + 1) (λ same. omega (arith, same, below)))
    ]

-- the state in which a draft is drawn, and its first record not answered
abbrev pub asking : MasterProc → Draft → First → Node → Bool → MasterProc
asking m d f x w = record (proc_drawn m d) { command = Some (asked d.change f x w) }

pub settings_fit : (s : Seen) (m : MasterProc) (d : Draft) (f : First) (x : Node) (w : Bool) → Fit s m → m.command ≡ None → AllByRecursion (IsOfRow m.table) d.change.plan.items
    → Fit (drawn s) (asking m d f x w)
settings_fit s m d f x w fit free all = record {
  each = λ id. by id (fit.each id);
  opened = settings all;
  bound = λ id b at. let below = fit.bound id b at in omega (arith, below);
  ascends = fit.ascends;
}
  where
    by : (id : ℕ) → Fits s m id → Fits (drawn s) (asking m d f x w) id
    by id (absent none out) = absent none (out_drawn s (latest id s.bearers) (fit.bound id) out)
    by id (awaited b at none c' f' x' w' is sets new) = absurd (not_both m.command (asked c' f' x' w') free is)
    by id (set_up b at r is same p g at_work sets new) = absurd (not_both m.command (gone p g) free at_work)
    by id (there b at r is same done settled) = there b at r is same done (λ u. all_settled m.table id d.change.plan.items all)

-- the change of a command is one
asked_same : (c d : Change) (f g : First) (x y : Node) (w v : Bool) → Some (asked c f x w) ≡ Some (asked d g y v) → c ≡ d
asked_same c d f g x y w v same = ap (change_of c) same

module _ (s : Seen) (m : MasterProc) (c : Change) (f : First) (x : Node) (wanted : Bool) (fit : Fit s m) (opened : m.command ≡ Some (asked c f x wanted)) (w : Way) where
  abbrev went : MasterProc
  went = (goes m c w).0

  abbrev going' : Going
  going' = record { complete = false; due = w.due; confirms = w.confirms; leaving = w.leaving; moving = moving_by c.plan }

  -- of no row
  no_row : (id : ℕ) → row went.table id ≡ None → IsNoneOrOut s.kind (latest id s.bearers) → Fits s went id
  no_row id none out = absent none out

  went_settings : AllByRecursion (IsOfRow m.table) c.plan.items → (id : ℕ) → Fits s m id → Fits s went id
  went_settings all id = by (all_alike m.table c.plan.g c.plan.sec c.plan.items m.table.rows (λ k. alike_itself (row m.table k)) all id)
    where
      by : AreAlike (row m.table id) (row went.table id) → Fits s m id → Fits s went id
      by (neither none too) (absent none' out) = absent too out
      by (rows r is q too n f) (absent none out) = absurd (not_both (row m.table id) r none is)
      by alike (awaited b at none c' f' x' w' is sets new) =
          let same : c ≡ c' = asked_same c c' f f' x x' wanted w' (sym opened ∙ is) in
          absurd (not_both (set_up_by c.plan.items) (id, b.0.n, b.0.first) (none_set_up m.table c.plan.items all) (ap (λ (d : Change). set_up_by d.plan.items) same ∙ sets))
      by alike (set_up b at r is same p g at_work sets new) = absurd (not_asked_gone c f x wanted p g (sym opened ∙ at_work))
      by (neither none too) (there b at r is same done settled) = absurd (not_both (row m.table id) r none is)
      by (rows r' is' q too n first) (there b at r is same done settled) =
          let one : r' ≡ r = some_row (row m.table id) r' r is' is in
          there b at q too (n ∙ ap (λ (y : Row). y.n) one ∙ same.0, first ∙ ap (λ (y : Row). y.first) one ∙ same.1) done (λ u. all_settled m.table id c.plan.items all)

  -- of a bearer that the plan leaves as it is
  went_other : (id : ℕ) → row went.table id ≡ row m.table id → (set_up_by c.plan.items ≡ None ⊎ ((j : ℕ) × (n : SnLen) × (first : ℕ) × (set_up_by c.plan.items ≡ Some (j, n, first)) × ((j == id) ≡ false)))
      → Fits s m id → Fits s went id
  went_other id same other (absent none out) = absent (same ∙ none) out
  went_other id same other (awaited b at none c' f' x' w' is sets new) =
      let one : c ≡ c' = asked_same c c' f f' x x' wanted w' (sym opened ∙ is) in
      let mine : set_up_by c.plan.items ≡ Some (id, b.0.n, b.0.first) = ap (λ (d : Change). set_up_by d.plan.items) one ∙ sets in
      elim other [
        | inl none' ↦ absurd (not_both (set_up_by c.plan.items) (id, b.0.n, b.0.first) none' mine)
        | inr of ↦ absurd (eqb-false of.0 id of.4 (ap (λ (y : ℕ × SnLen × ℕ). y.0) (some_is (of.0, of.1, of.2) (id, b.0.n, b.0.first) (sym of.3 ∙ mine))))
      ]
  went_other id same other (set_up b at r is alike p g at_work sets new) = absurd (not_asked_gone c f x wanted p g (sym opened ∙ at_work))
  went_other id same other (there b at r is alike done settled) =
      there b at r (same ∙ is) alike done (λ u. sym (ap (is_unsettled id) opened) ∙ settled u)

  went_by : AreFit s m.table c.plan.items → (id : ℕ) → Fits s went id
  went_by (settings all) id = went_settings all id (fit.each id)
  went_by (setting_up k n first shape threshold policy key is none b at same_n same_first new) id =
      let i = item.Set k n first shape threshold policy key None in
      let r : Row = record { id = k; est = c.plan.g; n = n; first = first; shape = shape; threshold = threshold; policy = policy; key = key; anchor = anchor_at c.plan.sec shape; g = c.plan.g } in
      let table : (j : ℕ) → row went.table j ≡ row_in j (with_row r m.table.rows) = λ j. ap (λ items. row_in j (fold (rows_after m.table c.plan.g c.plan.sec) m.table.rows items)) is in
      elim (cases_Bool (k == id)) [
        | inl same ↦
            subst (λ j. Fits s went j) (eqb-true k id same)
            (set_up b at r (table k ∙ row-same r m.table.rows) (sym same_n, sym same_first) c.plan going' refl
            (ap (λ items. list_any (is_unsettled_by k) items) is ∙ ap (λ y. y || false) (eq-eqb k k refl)) new)
        | inr other ↦ went_other id (table id ∙ row-other r id m.table.rows other) (inr (k, n, first, ap set_up_by is, other)) (fit.each id)
      ]
  went_by (dropping k is) id =
      let table : (j : ℕ) → row went.table j ≡ row_in j (filter (λ r. not (r.id == k)) m.table.rows) = λ j. ap (λ items. row_in j (fold (rows_after m.table c.plan.g c.plan.sec) m.table.rows items)) is in
      elim (cases_Bool (k == id)) [
        | inl same ↦ subst (λ j. Fits s went j) (eqb-true k id same) (absent (table k ∙ dropped_row k m.table.rows) (out (fit.each k)))
        | inr other ↦ went_other id (table id ∙ kept_row k id m.table.rows other) (inl (ap set_up_by is)) (fit.each id)
      ]
    where
      out : Fits s m k → IsNoneOrOut s.kind (latest k s.bearers)
      out (absent none o) = o
      out (awaited b at none c' f' x' w' opened' sets new) =
          let one : c ≡ c' = asked_same c c' f f' x x' wanted w' (sym opened ∙ opened') in
          absurd (not_both (set_up_by c.plan.items) (k, b.0.n, b.0.first) (ap set_up_by is) (ap (λ (d : Change). set_up_by d.plan.items) one ∙ sets))
      out (set_up b at r is' same p g at_work sets new) = absurd (not_asked_gone c f x wanted p g (sym opened ∙ at_work))
      out (there b at r is' same done settled) =
          subst (λ o. IsNoneOrOut s.kind o) (sym at) (elim (cases_Bool b.0.is_dropped) [
            | inl yes' ↦ inl yes'
            | inr no' ↦
                let free : is_unsettled k m.command ≡ false = settled no' in
                let held' : is_unsettled k m.command ≡ true = ap (is_unsettled k) opened ∙ ap (λ items. list_any (is_unsettled_by k) items) is ∙ ap (λ y. y || false) (eq-eqb k k refl) in
                let bad : true ≡ false = sym held' ∙ free in cc
          ])

  -- a plan that was agreed to, or needs no one to, is carried out
  pub goes_fit : Fit s went
  goes_fit = record { each = went_by (subst (λ o. IsOpened s m.table o) opened fit.opened); opened = tt; bound = fit.bound; ascends = rows_ascend m.table c.plan.g c.plan.sec c.plan.items m.table.rows fit.ascends }
