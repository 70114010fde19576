-- A bearer that is gone from the table, or whose drop is asked for, stays so in each part of a step of the master, where no bearer of
-- that identity is set up, and no rejection of a drop comes.
use Rattle.std.proofs.Common.{ℕ, ◌≡◌, ◌==◌, ◌||◌, Bool, true, false, List, [], ◌∷◌, Option, Some, None, refl, sym, ap, subst, ◌∙◌, inl, inr}
use Rattle.std.proofs.lemmas.Bool.{cases_Bool, eqb-true}
use Rattle.std.specs.List.{list_any}
use Rattle.std.specs.Prelude.{filter, fold, if◌then◌else◌, length, map, not, ⊤}
use Rattle.dc_base.specs.Nodes.{is_mm, is_secondary}
use Rattle.dc_base.specs.declared.events.Event.{Event}
use Rattle.dc_base.specs.declared.events.Event.TheVariants as event
use Rattle.dc_base.specs.declared.nodes.KeyName.{KeyName}
use Rattle.dc_base.specs.declared.nodes.Node.{Node}
use Rattle.dc_base.specs.declared.nodes.Node.TheVariants.{A, B, M, T}
use Rattle.dc_base.specs.declared.nodes.Shape.{Shape}
use Rattle.dc_base.specs.declared.nodes.Want.{Want}
use Rattle.dc_base.specs.declared.nodes.Want.TheVariants as want
use Rattle.dc_base.specs.declared.records.Item.{Item}
use Rattle.dc_base.specs.declared.records.Item.TheVariants as item
use Rattle.dc_base.specs.declared.records.Rec.{Rec}
use Rattle.dc_base.specs.declared.records.Rec.TheVariants as rec
use Rattle.claims.specs.Drafts.{command_of}
use Rattle.claims.specs.Reading.{sets}
use Rattle.node_rules.specs.CommandTable.{Table, establishment, row, rows_after, second_key_of}
use Rattle.node_rules.specs.Drafts.{Draft, draft, next_second_key, set_to}
use Rattle.node_rules.specs.MasterCommands.{recovers_at}
use Rattle.node_rules.specs.MasterGo.{alone, begins_by, drawn, goes, let_go, way}
use Rattle.node_rules.specs.MasterState.{MasterActs, MasterProc, with_waits}
use Rattle.node_rules.specs.Places.{anchor_at, mm}
use Rattle.node_rules.specs.SecondRecords.{is_one_drop}
use Rattle.node_rules.specs.declared.commands.Change.{Change}
use Rattle.node_rules.specs.declared.commands.Command.{Command}
use Rattle.node_rules.specs.declared.commands.Command.TheVariants.{Asked as asked, Gone as gone, Recovering as recovering}
use Rattle.node_rules.specs.declared.commands.First.{First}
use Rattle.node_rules.specs.declared.commands.First.TheVariants.{Addition as addition, Modification as modification, Release as release}
use Rattle.node_rules.specs.declared.commands.Row.{Row}
use Rattle.node_rules.specs.declared.commands.Way.{Way}
use Rattle.master_runs.proofs.Holding.{row-other}
use Rattle.run_windows.proofs.Tables.{dropped_row, kept_row, row_in}
use Rattle.run_agreed.specs.Dropped.{IsGoneOrGoing, IsUnset, is_going, is_gone, sets_up}
use Rattle.run_agreed.specs.Drops.{DropsByModification, IsDropFirst, IsNoDrop, RejectionFits, asked_plan, rejected_in}
use Rattle.run_agreed.specs.Segments.{MayBegin, Origin, Segment, agrees, aside, begun, by_event, by_record, completes, ends, is_asked, is_ordered, is_rej, lets_off, moves_on, needless, recovered, recovers, refuses, rejects, second_recovers, terminal_recovers, waits}
use Rattle.run_agreed.proofs.Drops.{part_goes, rejection_still, waits_same}

-- ---- tables

none_first : (b : Bool) (r : Row) (o : Option Row) → (if b then Some r else o) ≡ None → (b ≡ false) × (o ≡ None)
none_first true r o is = let bad : Some r ≡ None = is in absurd (cc bad)
none_first false r o is = (refl, is)

-- where no row is of the identity, none of the items of rows sets it
set_none : (id root : ℕ) (key : KeyName) (shape : Row → Shape) (rows : List Row) → row_in id rows ≡ None → list_any (sets id) (map (set_to root key shape) rows) ≡ false
set_none id root key shape [] none = refl
set_none id root key shape (r ∷ rows) none =
    let two = none_first (r.id == id) r (row_in id rows) none in
    ap (λ b. b || list_any (sets id) (map (set_to root key shape) rows)) two.0 ∙ set_none id root key shape rows two.1

kept_none : (id : ℕ) (f : Row → Bool) (rows : List Row) → row_in id rows ≡ None → row_in id (filter f rows) ≡ None
kept_none id f [] none = refl
kept_none id f (r ∷ rows) none = by (f r) two.0 (kept_none id f rows two.1)
  where
    two : ((r.id == id) ≡ false) × (row_in id rows ≡ None)
    two = none_first (r.id == id) r (row_in id rows) none

    by : (b : Bool) → (r.id == id) ≡ false → row_in id (filter f rows) ≡ None → row_in id (if b then r ∷ filter f rows else filter f rows) ≡ None
    by true apart more = ap (λ d. if d then Some r else row_in id (filter f rows)) apart ∙ more
    by false apart more = more

-- a draft sets no bearer that is not there, but one that it sets up
abbrev UnsetIf : ℕ → Option Draft → Type 0
UnsetIf id None = ⊤
UnsetIf id (Some d) = list_any (sets id) d.change.plan.items ≡ false

draft_unset : (id : ℕ) (t : Table) (e : Event) → row t id ≡ None → sets_up id e ≡ false → UnsetIf id (draft t e)
draft_unset id t (event.Bearer i n first shape threshold policy) none other = ap (λ b. b || false) other
draft_unset id t (event.Reshape i shape) none other = set_none id t.book.current t.second_key (λ r. shape) (filter (λ r. r.id == i) t.rows) (kept_none id (λ r. r.id == i) t.rows none)
draft_unset id t (event.Remove i) none other = refl
draft_unset id t (event.Add node) none other = refl
draft_unset id t event.Change none other = set_none id t.book.current (next_second_key t) (λ r. r.shape) (filter (λ r. not (is_mm r.shape)) t.rows) (kept_none id (λ r. not (is_mm r.shape)) t.rows none)
draft_unset id t event.Release none other = set_none id t.book.current t.second_key (λ r. mm) (filter (λ r. not (is_mm r.shape)) t.rows) (kept_none id (λ r. not (is_mm r.shape)) t.rows none)
draft_unset id t event.RekeySecond none other = set_none id t.book.current (next_second_key t) (λ r. r.shape) (filter (λ r. r.shape.at_second) t.rows) (kept_none id (λ r. r.shape.at_second) t.rows none)
draft_unset id t (event.RekeyMaster root) none other = let number = length t.book.roots in set_none id number (second_key_of number 0) (λ r. r.shape) t.rows none
draft_unset id t (event.Recover i) none other = tt
draft_unset id t (event.Report node i) none other = tt
draft_unset id t (event.Deny node on) none other = tt
draft_unset id t (event.Ask node what) none other = tt
draft_unset id t event.ScgFail none other = tt
draft_unset id t (event.Submit i d payload) none other = tt
draft_unset id t (event.Step l j) none other = tt
draft_unset id t (event.Lose l j) none other = tt
draft_unset id t (event.Again l j) none other = tt

-- nor does it have a row after such items
row_none : (id : ℕ) (t : Table) (g : ℕ) (sec : Option Node) (items : List Item) (rows : List Row) → row_in id rows ≡ None → list_any (sets id) items ≡ false → row_in id (fold (rows_after t g sec) rows items) ≡ None
row_none id t g sec [] rows none unset = none
row_none id t g sec (item.Set k n first shape threshold policy key old ∷ items) rows none unset =
    let two = or_false (k == id) (list_any (sets id) items) unset in
    let new : Row = record { id = k; est = establishment g old (row t k); n = n; first = first; shape = shape; threshold = threshold; policy = policy; key = key; anchor = anchor_at sec shape; g = g } in
    row_none id t g sec items (rows_after t g sec rows (item.Set k n first shape threshold policy key old)) (row-other new id rows two.0 ∙ none) two.1
  where
    or_false : (b d : Bool) → (b || d) ≡ false → (b ≡ false) × (d ≡ false)
    or_false true d is = let bad : true ≡ false = is in absurd (cc bad)
    or_false false d is = (refl, is)
row_none id t g sec (item.Unset k ∷ items) rows none unset =
    row_none id t g sec items (filter (λ r. not (r.id == k)) rows)
    (elim (cases_Bool (k == id)) [
      | inl same ↦ subst (λ j. row_in j (filter (λ r. not (r.id == k)) rows) ≡ None) (eqb-true k id same) (dropped_row k rows)
      | inr other ↦ kept_row k id rows other ∙ none
    ]) unset

-- ---- parts

module _ (id : ℕ) where
  -- a plan is carried out that does not set it
  went_gone : (m k : MasterProc) (c : Change) (w : Way) → k.table.rows ≡ m.table.rows → row m.table id ≡ None → list_any (sets id) c.plan.items ≡ false → IsGoneOrGoing id (goes k c w).0
  went_gone m k c w rows none unset = is_gone (row_none id k.table c.plan.g c.plan.sec c.plan.items k.table.rows (ap (row_in id) rows ∙ none) unset) tt

  -- or one that drops it alone
  pub went_dropped : (k : MasterProc) (c : Change) (w : Way) → c.plan.items ≡ item.Unset id ∷ [] → IsGoneOrGoing id (goes k c w).0
  went_dropped k c w items =
      is_gone (ap (λ is. row_in id (fold (rows_after k.table c.plan.g c.plan.sec) k.table.rows is)) items ∙ dropped_row id k.table.rows) tt

  same_change : (c d : Change) (f g : First) (x y : Node) (u v : Bool) → Some (asked c f x u) ≡ Some (asked d g y v) → c ≡ d
  same_change c d f g x y u v is = ap (λ o. change_of o c) is
    where
      change_of : Option Command → Change → Change
      change_of None e = e
      change_of (Some (asked b h z w)) e = b
      change_of (Some (gone p w)) e = e
      change_of (Some (recovering i t z)) e = e

  -- with the same table and command
  stays_gone : (m k : MasterProc) → k.table ≡ m.table → k.command ≡ m.command → IsGoneOrGoing id m → IsGoneOrGoing id k
  stays_gone m k table command (is_gone none unset) = is_gone (ap (λ t. row t id) table ∙ none) (subst (IsUnset id) (sym command) unset)
  stays_gone m k table command (is_going c first who wanted opened items) = is_going c first who wanted (command ∙ opened) items

  -- where no plan awaits its agreement, it is gone
  gone_of : (m : MasterProc) (o : Option Command) → m.command ≡ o → asked_plan o ≡ None → IsGoneOrGoing id m → row m.table id ≡ None
  gone_of m o is no_plan (is_gone none unset) = none
  gone_of m o is no_plan (is_going c first who wanted opened items) = let bad : Some c.plan ≡ None = sym (ap asked_plan opened) ∙ ap asked_plan is ∙ no_plan in absurd (cc bad)

  -- and then it stays so with another command of this kind
  still_gone : (m k : MasterProc) (o : Option Command) → m.command ≡ o → asked_plan o ≡ None → k.table ≡ m.table → IsUnset id k.command → IsGoneOrGoing id m → IsGoneOrGoing id k
  still_gone m k o is no_plan table unset state = is_gone (ap (λ t. row t id) table ∙ gone_of m o is no_plan state) unset

  begins_gone : (m : MasterProc) (d : Draft) (wanted : Bool) (o : Option (First × Node)) → row m.table id ≡ None → list_any (sets id) d.change.plan.items ≡ false → IsGoneOrGoing id (begins_by (drawn m d) d wanted o).0
  begins_gone m d wanted None none unset = went_gone m (drawn m d) d.change alone refl none unset
  begins_gone m d wanted (Some (f, who)) none unset = is_gone none unset

  recovers_gone : (m : MasterProc) (i : ℕ) (x : Node) → m.command ≡ None → IsGoneOrGoing id m → IsGoneOrGoing id (recovers_at m i x).0
  recovers_gone m i M free state = still_gone m (recovers_at m i M).0 None free refl refl tt state
  recovers_gone m i A free state = still_gone m (recovers_at m i A).0 None free refl refl tt state
  recovers_gone m i B free state = still_gone m (recovers_at m i B).0 None free refl refl tt state
  recovers_gone m i T free state = state

-- ---- the record from which a step comes

-- it rejects no drop that is asked for
abbrev pub OriginFits : Origin → MasterProc → Type 0
OriginFits o m = (y : Node) (q : Rec) → is_secondary y ≡ true → o ≡ by_record y q → RejectionFits m.table.last (asked_plan m.command) q

-- the event sets no such bearer up
abbrev pub SetsNone : ℕ → Origin → Type 0
SetsNone id o = (e : Event) → o ≡ by_event e → sets_up id e ≡ false

rejected_drop : (q : Rec) (f : First) (g : ℕ) → f ≡ modification → is_rej f g q ≡ true → rejected_in q ≡ Some g
rejected_drop q f g is rej = by q (subst (λ h. is_rej h g q ≡ true) is rej)
  where
    by : (r : Rec) → is_rej modification g r ≡ true → rejected_in r ≡ Some g
    by (rec.Reconf plan key) same = absurd cc
    by (rec.Rcomp h) same = absurd cc
    by (rec.Scgf failed) same = absurd cc
    by (rec.Recov id) same = absurd cc
    by (rec.Recovd id) same = absurd cc
    by (rec.Addreq plan key) same = absurd cc
    by (rec.Addack h) same = absurd cc
    by (rec.Addrej h) same = absurd cc
    by (rec.Modreq plan key) same = absurd cc
    by (rec.Modack h) same = absurd cc
    by (rec.Modrej h) same = ap (λ k. Some k) (eqb-true h g same)
    by (rec.Recfg h) same = absurd cc
    by (rec.Relreq plan) same = absurd cc
    by (rec.Relack h) same = absurd cc
    by (rec.Relrej h) same = absurd cc
    by (rec.Uecr h) same = absurd cc
    by (rec.Snst status) same = absurd cc
    by (rec.Moved h id) same = absurd cc
    by (rec.Scgn id h) same = absurd cc
    by rec.Modrqd same = absurd cc
    by (rec.Modcnf h) same = absurd cc
    by (rec.Modref word) same = absurd cc
    by rec.Chgrqd same = absurd cc
    by (rec.Chgcnf plan) same = absurd cc
    by (rec.Chgref word) same = absurd cc
    by rec.Relrqd same = absurd cc
    by (rec.Relcnf plan) same = absurd cc

drop_first : (f : First) (items : List Item) → is_one_drop items ≡ true → IsDropFirst f items → f ≡ modification
drop_first addition items drops is = let bad : true ≡ false = sym drops ∙ is in absurd (cc bad)
drop_first modification items drops is = refl
drop_first release items drops is = let bad : true ≡ false = sym drops ∙ is in absurd (cc bad)

-- what is kept along the parts
pub record IsOut (id : ℕ) (o : Origin) (m : MasterProc) : Type 0 where
  pub first : DropsByModification m.command
  pub fits : OriginFits o m
  pub state : IsGoneOrGoing id m

-- no drop is rejected
not_rejected : (id : ℕ) (o : Origin) (m : MasterProc) (c : Change) (first : First) (who : Node) (wanted : Bool) (q : Rec) → IsOut id o m → m.command ≡ Some (asked c first who wanted) → c.plan.items ≡ item.Unset id ∷ []
    → is_secondary who ≡ true → o ≡ by_record who q → is_rej first c.plan.g q ≡ true → ⊥
not_rejected id o m c first who wanted q out opened items second from rej =
    let drop : is_one_drop c.plan.items ≡ true = ap is_one_drop items in
    let f : first ≡ modification = drop_first first c.plan.items drop (subst DropsByModification opened out.first) in
    let fits : IsNoDrop m.table.last (asked_plan m.command) (rejected_in q) = out.fits who q second from in
    let there : IsNoDrop m.table.last (Some c.plan) (Some c.plan.g) =
    subst (λ k. IsNoDrop m.table.last k (Some c.plan.g)) (ap asked_plan opened) (subst (IsNoDrop m.table.last (asked_plan m.command)) (rejected_drop q first c.plan.g f rej) fits) in
    let bad : true ≡ false = sym drop ∙ there.1 refl in cc

module _ (id : ℕ) (o : Origin) (none_up : SetsNone id o) where
  -- the draft of a command sets no bearer that is gone
  may_unset : (m : MasterProc) (e : Event) (wanted : Bool) → MayBegin o m e wanted → row m.table id ≡ None → (d : Draft) → draft m.table e ≡ Some d → list_any (sets id) d.change.plan.items ≡ false
  may_unset m e wanted (is_ordered policies unrefused from by_none) none d is = subst (UnsetIf id) is (draft_unset id m.table e none (none_up e from))
  may_unset m e wanted (is_asked x what unrefused from by_second event_is) none d is = subst (UnsetIf id) is (draft_unset id m.table e none (asked_sets e what event_is))
    where
      of_want : (a : Want) → sets_up id (command_of a) ≡ false
      of_want want.Rekey = refl
      of_want want.Change = refl
      of_want want.Release = refl

      asked_sets : (k : Event) (a : Want) → k ≡ command_of a → sets_up id k ≡ false
      asked_sets k a same = ap (sets_up id) same ∙ of_want a

  part_state : (m : MasterProc) (r : MasterActs) → IsOut id o m → Segment o m r → IsGoneOrGoing id r.0
  part_state m r out (aside acts all is) = subst (λ (y : MasterActs). IsGoneOrGoing id y.0) (sym is) out.state
  part_state m r out (refuses x q refusal what from is) = subst (λ (y : MasterActs). IsGoneOrGoing id y.0) (sym is) out.state
  part_state m r out (waits x from is) = let same = waits_same true x m in subst (λ (y : MasterActs). IsGoneOrGoing id y.0) (sym is) (stays_gone id m (with_waits true x m) same.0 same.1 out.state)
  part_state m r out (needless x waiting free apart is) =
      let same = waits_same false x m in subst (λ (y : MasterActs). IsGoneOrGoing id y.0) (sym is) (stays_gone id m (with_waits false x m) same.0 same.1 out.state)
  part_state m r out (lets_off x d waiting free here drawn' unspent is) =
      let none = gone_of id m None free refl out.state in
      let same = waits_same false x m in
      subst (λ (y : MasterActs). IsGoneOrGoing id y.0) (sym is)
      (went_gone id m (drawn (with_waits false x m) d) d.change (let_go x) (ap (λ (t : Table). t.rows) same.0) none (subst (UnsetIf id) drawn' (draft_unset id m.table event.Release none refl)))
  part_state m r out (begun e d wanted free drawn' may is) =
      let none = gone_of id m None free refl out.state in
      subst (λ (y : MasterActs). IsGoneOrGoing id y.0) (sym is) (begins_gone id m d wanted d.first none (may_unset m e wanted may none d drawn'))
  part_state m r out (agrees c f who wanted opened second q from ack is) = subst (λ (y : MasterActs). IsGoneOrGoing id y.0) (sym is) (by out.state)
    where
      by : IsGoneOrGoing id m → IsGoneOrGoing id (goes m c (way f who wanted m.table.sec)).0
      by (is_gone none unset) = went_gone id m m c (way f who wanted m.table.sec) refl none (subst (IsUnset id) opened unset)
      by (is_going c' f' who' wanted' opened' items) =
          went_dropped id m c (way f who wanted m.table.sec) (ap (λ (k : Change). k.plan.items) (same_change id c c' f f' who who' wanted wanted' (sym opened ∙ opened')) ∙ items)
  part_state m r out (completes p w opened waited from is) = subst (λ (y : MasterActs). IsGoneOrGoing id y.0) (sym is) (still_gone id m _ (Some (gone p w)) opened refl refl tt out.state)
  part_state m r out (moves_on p w moving opened is) = subst (λ (y : MasterActs). IsGoneOrGoing id y.0) (sym is) (still_gone id m _ (Some (gone p w)) opened refl refl tt out.state)
  part_state m r out (ends p w opened complete is) = subst (λ (y : MasterActs). IsGoneOrGoing id y.0) (sym is) (still_gone id m _ (Some (gone p w)) opened refl refl tt out.state)
  part_state m r out (rejects c f who wanted opened second q from rej is) = subst (λ (y : MasterActs). IsGoneOrGoing id y.0) (sym is) (by out.state)
    where
      by : IsGoneOrGoing id m → IsGoneOrGoing id (record m { command = None })
      by (is_gone none unset) = is_gone none tt
      by (is_going c' f' who' wanted' opened' items) =
          absurd (not_rejected id o m c f who wanted q out opened (ap (λ (k : Change). k.plan.items) (same_change id c c' f f' who who' wanted wanted' (sym opened ∙ opened')) ∙ items) second from rej)
  part_state m r out (recovers i x free is) = subst (λ (y : MasterActs). IsGoneOrGoing id y.0) (sym is) (recovers_gone id m i x free out.state)
  part_state m r out (terminal_recovers i t y opened from is) = subst (λ (z : MasterActs). IsGoneOrGoing id z.0) (sym is) (still_gone id m _ (Some (recovering i t y)) opened refl refl tt out.state)
  part_state m r out (second_recovers i t x opened from is) = subst (λ (z : MasterActs). IsGoneOrGoing id z.0) (sym is) (still_gone id m _ (Some (recovering i t (Some x))) opened refl refl tt out.state)
  part_state m r out (recovered i opened is) = subst (λ (z : MasterActs). IsGoneOrGoing id z.0) (sym is) (still_gone id m _ (Some (recovering i false None)) opened refl refl tt out.state)

  -- each part keeps it
  pub part_out : (m : MasterProc) (r : MasterActs) → IsOut id o m → Segment o m r → IsOut id o r.0
  part_out m r out part =
      let goes' = part_goes o m r out.first part in
      record { first = goes'.first; fits = λ y q second from. rejection_still m r.0 goes'.later (rejected_in q) (out.fits y q second from); state = part_state m r out part }
