-- What the master takes of a record, and what it does by itself: each keeps what is seen.
use Rattle.std.proofs.Common.{ℕ, ◌≡◌, ◌+◌, ◌==◌, ◌++◌, Bool, true, false, List, [], ◌∷◌, Option, Some, None, refl, sym, subst, inl, inr}
use Rattle.std.specs.Prelude.{Ok, Err, Result, filter, find, is_some, not, if◌then◌else◌, ◌&&◌, ⊤}
use Rattle.std.specs.List.{AllByRecursion, list_any}
use Rattle.std.proofs.lemmas.Bool.{cases_Bool}
use Rattle.dc_base.specs.Nodes.{is_mm, is_same_node}
use Rattle.dc_base.specs.declared.events.Event.{Event}
use Rattle.dc_base.specs.declared.events.Event.TheVariants as event
use Rattle.dc_base.specs.declared.events.Note.TheVariants as note
use Rattle.dc_base.specs.declared.nodes.Node.{Node}
use Rattle.dc_base.specs.declared.nodes.Node.TheVariants.{A, B, M, T}
use Rattle.dc_base.specs.declared.nodes.Want.{Want}
use Rattle.dc_base.specs.declared.nodes.Want.TheVariants as want
use Rattle.dc_base.specs.declared.records.Plan.{Plan}
use Rattle.dc_base.specs.declared.records.Rec.{Rec}
use Rattle.dc_base.specs.declared.records.Rec.TheVariants as rec
use Rattle.dc_base.specs.declared.records.RecKind.{RecKind}
use Rattle.dc_base.specs.declared.records.RecKind.TheVariants as kind
use Rattle.dc_base.specs.declared.answers.Word.{Word}
use Rattle.dc_base.specs.declared.answers.Word.TheVariants as word
use Rattle.dc_base.specs.declared.records.StatusTransfer.{StatusTransfer}
use Rattle.node_rules.specs.Acts.{ProcFault}
use Rattle.node_rules.specs.declared.acts.Act.{Act}
use Rattle.node_rules.specs.declared.acts.Act.TheVariants.{Pass as pass, Say as say, Send as send, UnlockAll as unlock_all}
use Rattle.node_rules.specs.CommandTable.{is_counter_spent, row}
use Rattle.node_rules.specs.Drafts.{Draft, draft, next_second, next_second_key, second_rows, shared_rows, with_next_key}
use Rattle.node_rules.specs.MasterEnds.{tries, waits_for}
use Rattle.node_rules.specs.MasterGo.{before_acts, begins, begins_if, goes, way}
use Rattle.node_rules.specs.MasterRecords.{adopted_if, agreed, agreed_if, asking_refusal, begins_asked, completed, completed_if, completing, failed_legs, failing, failing_at, is_answer, is_moving, moved, passed_to, recovered, recovered_at, recovered_second, recovered_there, rejected, rejected_if, rejecting, released, transferred, wanted_by}
use Rattle.node_rules.specs.MasterState.{MasterActs, MasterProc, with_waits}
use Rattle.node_rules.specs.MasterTaking.{adopted_here, from_second, from_terminal, master_adopted, master_take}
use Rattle.node_rules.specs.Places.{is_at}
use Rattle.node_rules.specs.declared.commands.Change.{Change}
use Rattle.node_rules.specs.declared.commands.Command.{Command}
use Rattle.node_rules.specs.declared.commands.Command.TheVariants.{Asked as asked, Gone as gone, Recovering as recovering}
use Rattle.node_rules.specs.declared.commands.First.{First}
use Rattle.node_rules.specs.declared.commands.First.TheVariants.{Addition as addition, Modification as modification, Release as release}
use Rattle.node_rules.specs.declared.commands.Going.{Going}
use Rattle.node_rules.specs.declared.commands.Row.{Row}
use Rattle.node_rules.specs.declared.commands.Way.{Way}
use Rattle.run_windows.specs.Fits.{AreFit, Fit, IsOfRow, IsOpened, dropping, setting_up, settings}
use Rattle.run_windows.specs.Seen.{Seen}
use Rattle.run_windows.proofs.Moving.{IsAnyMove, IsQuiet, after_begin, after_quiet_any, any_of_calm, begins_move, from_waits, goes_move, goes_on, quiet_append, recovers_on, rejected_move, stays, tries_move, waits_fit}
use Rattle.run_windows.proofs.Tables.{some_of_rows}

-- a record is a move; or a plan is carried out that sets one bearer up or drops one; or a status transfer is passed on
pub data IsTaken (s : Seen) (m : MasterProc) (r : MasterActs) : Type 0 where
  moves : (any : IsAnyMove s m r) → IsTaken s m r
  carries : (c : Change) → (f : First) → (x : Node) → (wanted : Bool) → (opened : m.command ≡ Some (asked c f x wanted)) → (w : Way) → (is : r ≡ goes m c w) → IsTaken s m r
  passes : (st : StatusTransfer) → (is : r ≡ (m, pass st ∷ [])) → IsTaken s m r

-- whatever has no row does nothing
abbrev pub OfResult : Seen → MasterProc → Result MasterActs ProcFault → Type 0
OfResult s m (Ok r) = IsTaken s m r
OfResult s m (Err why) = ⊤

quiet_none : IsQuiet []
quiet_none = record { none = refl; plain = tt }

still : (s : Seen) (m : MasterProc) (acts : List Act) → Fit s m → IsQuiet acts → IsTaken s m (m, acts)
still s m acts fit quiet = moves (any_of_calm s m (m, acts) (stays s m acts fit quiet))

one_send : (x : Node) (r : Rec) → IsQuiet (send x r ∷ [])
one_send x r = record { none = refl; plain = (tt, tt) }

module _ (s : Seen) (m : MasterProc) (fit : Fit s m) where
  -- ---- the answers to a first record

  agreed_by : (c : Change) (f : First) (x : Node) (wanted : Bool) (w : Way) → m.command ≡ Some (asked c f x wanted) → AreFit s m.table c.plan.items → IsTaken s m (goes m c w)
  agreed_by c f x wanted w opened (settings all) = moves (any_of_calm s m (goes m c w) (goes_move s m c f x wanted w fit opened all))
  agreed_by c f x wanted w opened (setting_up id n first shape threshold policy key is none b at same_n same_first new) = carries c f x wanted opened w refl
  agreed_by c f x wanted w opened (dropping id is) = carries c f x wanted opened w refl

  agreed_if_is : (k : RecKind) (c : Change) (f : First) (x : Node) (wanted : Bool) (is : Bool) → m.command ≡ Some (asked c f x wanted) → OfResult s m (agreed_if k m c f x wanted is)
  agreed_if_is k c f x wanted false opened = tt
  agreed_if_is k c f x wanted true opened = agreed_by c f x wanted (way f x wanted m.table.sec) opened (subst (λ o. IsOpened s m.table o) opened fit.opened)

  agreed_is : (k : RecKind) (f : First) (from : Node) (g : ℕ) (o : Option Command) → m.command ≡ o → OfResult s m (agreed k f from g m o)
  agreed_is k f from g None is = tt
  agreed_is k f from g (Some (asked c first who wanted)) is = agreed_if_is k c first who wanted (is_answer f from g first who c.plan.g) is
  agreed_is k f from g (Some (gone p w)) is = tt
  agreed_is k f from g (Some (recovering i t z)) is = tt

  released_is : (r : Result MasterActs ProcFault) → OfResult s m r → OfResult s m (released r m)
  released_is (Ok r) taken = taken
  released_is (Err why) taken = still s m [] fit quiet_none

  rejecting_quiet : (f : First) (who : Node) (wanted : Bool) → IsQuiet (rejecting f who wanted)
  rejecting_quiet addition who false = quiet_none
  rejecting_quiet modification who false = quiet_none
  rejecting_quiet release who false = quiet_none
  rejecting_quiet addition who true = record { none = refl; plain = (tt, tt) }
  rejecting_quiet modification who true = record { none = refl; plain = (tt, tt) }
  rejecting_quiet release who true = quiet_none

  rejected_if_is : (k : RecKind) (c : Change) (f : First) (who : Node) (wanted : Bool) (is : Bool) → m.command ≡ Some (asked c f who wanted) → OfResult s m (rejected_if k m f who wanted is)
  rejected_if_is k c f who wanted false opened = tt
  rejected_if_is k c f who wanted true opened = moves (rejected_move s m c f who wanted (rejecting f who wanted) (rejecting_quiet f who wanted) fit opened)

  rejected_is : (k : RecKind) (f : First) (from : Node) (g : ℕ) (o : Option Command) → m.command ≡ o → OfResult s m (rejected k f from g m o)
  rejected_is k f from g None is = tt
  rejected_is k f from g (Some (asked c first who wanted)) is = rejected_if_is k c first who wanted (is_answer f from g first who c.plan.g) is
  rejected_is k f from g (Some (gone p w)) is = tt
  rejected_is k f from g (Some (recovering i t z)) is = tt

  -- ---- the terminal's answers

  completing_quiet : (x : Option Node) (confirms : Bool) (g : ℕ) → IsQuiet (completing x confirms g)
  completing_quiet None true g = quiet_none
  completing_quiet None false g = quiet_none
  completing_quiet (Some x) true g = one_send x (rec.Modcnf g)
  completing_quiet (Some x) false g = one_send x (rec.Recfg g)

  completed_if_is : (p : Plan) (w : Going) (is : Bool) → m.command ≡ Some (gone p w) → OfResult s m (completed_if m p w is)
  completed_if_is p w false opened = tt
  completed_if_is p w true opened =
      let acts = completing w.due w.confirms p.g ++ unlock_all p.g ∷ [] in
      moves (after_quiet_any s m acts (waits_for m (gone p (record w { complete = true })))
      (quiet_append (completing w.due w.confirms p.g) (unlock_all p.g ∷ []) (completing_quiet w.due w.confirms p.g) (record { none = refl; plain = (tt, tt) }))
      (goes_on s m p w (record w { complete = true }) fit opened))

  completed_is : (g : ℕ) (o : Option Command) → m.command ≡ o → OfResult s m (completed g m o)
  completed_is g None is = tt
  completed_is g (Some (asked c f x wanted)) is = tt
  completed_is g (Some (gone p w)) is = completed_if_is p w ((p.g == g) && not w.complete) is
  completed_is g (Some (recovering i t z)) is = tt

  failing_at_quiet : (id g : ℕ) (x : Node) → IsQuiet (failing_at id g x)
  failing_at_quiet id g M = record { none = refl; plain = (tt, tt) }
  failing_at_quiet id g A = one_send A (rec.Scgn id g)
  failing_at_quiet id g B = one_send B (rec.Scgn id g)
  failing_at_quiet id g T = quiet_none

  failing_quiet : (id g : ℕ) (o : Option Row) → IsQuiet (failing id g o)
  failing_quiet id g None = quiet_none
  failing_quiet id g (Some r) = elim (cases_Bool (r.g == g)) [ inl yes' ↦ rw yes' (failing_at_quiet id g r.anchor) | inr no' ↦ rw no' quiet_none ]

  failed_quiet : (pairs : List (ℕ × ℕ)) → IsQuiet (failed_legs m pairs).1
  failed_quiet [] = quiet_none
  failed_quiet (x ∷ pairs) = quiet_append (failing x.0 x.1 (row m.table x.0)) (failed_legs m pairs).1 (failing_quiet x.0 x.1 (row m.table x.0)) (failed_quiet pairs)

  -- ---- recoveries and moves

  recovered_there_is : (id i : ℕ) (t : Bool) (second : Option Node) (is : Bool) → m.command ≡ Some (recovering i t second) → OfResult s m (recovered_there m i second is)
  recovered_there_is id i t second false opened = tt
  recovered_there_is id i t second true opened = moves (recovers_on s m i t false second second fit opened)

  recovered_second_is : (i : ℕ) (t : Bool) (second : Option Node) (is : Bool) → m.command ≡ Some (recovering i t second) → OfResult s m (recovered_second m i t is)
  recovered_second_is i t second false opened = tt
  recovered_second_is i t second true opened = moves (recovers_on s m i t t second None fit opened)

  recovered_at_is : (from : Node) (i : ℕ) (t : Bool) (second : Option Node) (same : Bool) → m.command ≡ Some (recovering i t second) → OfResult s m (recovered_at from m i t second same)
  recovered_at_is T i t second same opened = recovered_there_is i i t second (t && same) opened
  recovered_at_is A i t second same opened = recovered_second_is i t second (is_at A second && same) opened
  recovered_at_is B i t second same opened = recovered_second_is i t second (is_at B second && same) opened
  recovered_at_is M i t second same opened = tt

  recovered_is : (from : Node) (id : ℕ) (o : Option Command) → m.command ≡ o → OfResult s m (recovered from id m o)
  recovered_is from id None is = tt
  recovered_is from id (Some (asked c f x wanted)) is = tt
  recovered_is from id (Some (gone p w)) is = tt
  recovered_is from id (Some (recovering i t z)) is = recovered_at_is from i t z (i == id) is

  adopted_if_is : (k : RecKind) (id : ℕ) (x : Node) (p : Plan) (w : Going) (is : Bool) → m.command ≡ Some (gone p w) → OfResult s m (adopted_if k m id x p w is)
  adopted_if_is k id x p w false opened = tt
  adopted_if_is k id x p w true opened = moves (goes_on s m p w (record w { moving = filter (λ y. not (is_moving id x y)) w.moving }) fit opened)

  moved_is : (from : Node) (g id : ℕ) (o : Option Command) → m.command ≡ o → OfResult s m (moved from g id m o)
  moved_is from g id None is = tt
  moved_is from g id (Some (asked c f x wanted)) is = tt
  moved_is from g id (Some (gone p w)) is = adopted_if_is kind.Moved id from p w ((p.g == g) && list_any (is_moving id from) w.moving) is
  moved_is from g id (Some (recovering i t z)) is = tt

  passed_to_is : (st : StatusTransfer) (from : Node) (o : Option (ℕ × Node)) → OfResult s m (passed_to m st from o)
  passed_to_is st from None = tt
  passed_to_is st from (Some (id, M)) = passes st refl
  passed_to_is st from (Some (id, A)) =
      elim (cases_Bool (is_same_node from A)) [ inl yes' ↦ rw yes' tt | inr no' ↦ rw no' (still s m (send A (rec.Snst st) ∷ []) fit (one_send A (rec.Snst st))) ]
  passed_to_is st from (Some (id, B)) =
      elim (cases_Bool (is_same_node from B)) [ inl yes' ↦ rw yes' tt | inr no' ↦ rw no' (still s m (send B (rec.Snst st) ∷ []) fit (one_send B (rec.Snst st))) ]
  passed_to_is st from (Some (id, T)) = tt

  transferred_is : (from : Node) (st : StatusTransfer) (o : Option Command) → OfResult s m (transferred from st m o)
  transferred_is from st None = tt
  transferred_is from st (Some (asked c f x wanted)) = tt
  transferred_is from st (Some (gone p w)) = passed_to_is st from (if p.g == st.g then find (λ (x : ℕ × Node). x.0 == st.id) w.moving else None)
  transferred_is from st (Some (recovering i t z)) = tt

  -- ---- what a secondary asks for

  -- what is not refused finds no command open
  free_of : (from : Node) → asking_refusal from m ≡ None → m.command ≡ None
  free_of from none =
      elim (cases_Bool (not (is_at from m.table.sec))) [
        | inl away ↦ let bad : Some word.NoSecondary ≡ None = rw away at none in absurd (cc bad)
        | inr here ↦
            let busy : (if is_some m.command then Some word.Busy else if is_counter_spent m.table then Some word.CounterSpent else None) ≡ None = rw here at none in
            by m.command busy
      ]
    where
      by : (o : Option Command) → (if is_some o then Some word.Busy else if is_counter_spent m.table then Some word.CounterSpent else None) ≡ None → o ≡ None
      by None busy = refl
      by (Some x) busy = let bad : Some word.Busy ≡ None = busy in absurd (cc bad)

  begins_asked_is : (from : Node) (what : Want) (e : Event) (refuse : Word → Rec) (o : Option Word) → (d : Draft) → draft m.table e ≡ Some d → (o ≡ None → m.command ≡ None) → AllByRecursion (IsOfRow m.table) d.change.plan.items
      → IsTaken s m (begins_asked m from what e refuse o)
  begins_asked_is from what e refuse (Some why) d is free all = still s m (send from (refuse why) ∷ []) fit (one_send from (refuse why))
  begins_asked_is from what e refuse None d is free all =
      subst (λ x. IsTaken s m (before_acts (say (note.Begin what) ∷ []) (begins_if m true x))) (sym is)
      (moves (any_of_calm s m (before_acts (say (note.Begin what) ∷ []) (begins m d true)) (after_begin s m what (begins m d true) (begins_move s m d true fit (free refl) all))))

  wanted_is : (from : Node) (what : Want) → IsTaken s m (wanted_by from what m)
  wanted_is from want.Rekey =
      begins_asked_is from want.Rekey event.RekeySecond (λ w. rec.Modref w) (asking_refusal from m) (with_next_key m.table m.table.sec (second_rows m.table) modification) refl (free_of from)
      (some_of_rows m.table m.table.book.current (next_second_key m.table) (λ r. r.shape) (λ r. r.shape.at_second) fit.ascends)
  wanted_is from want.Change =
      begins_asked_is from want.Change event.Change (λ w. rec.Chgref w) (asking_refusal from m) (with_next_key m.table (next_second m.table.sec) (shared_rows m.table) addition) refl (free_of from)
      (some_of_rows m.table m.table.book.current (next_second_key m.table) (λ r. r.shape) (λ r. not (is_mm r.shape)) fit.ascends)
  wanted_is from want.Release =
      moves (any_of_calm s m (tries from (with_waits true from m)) (from_waits s m true from (tries from (with_waits true from m)) (tries_move s (with_waits true from m) from (waits_fit s m true from fit))))

  -- ---- all records

  from_second_is : (x : Node) (r : Rec) → OfResult s m (from_second x m r)
  from_second_is x (rec.Addack g) = agreed_is kind.Addack addition x g m.command refl
  from_second_is x (rec.Modack g) = agreed_is kind.Modack modification x g m.command refl
  from_second_is x (rec.Relack g) = released_is (agreed kind.Relack release x g m m.command) (agreed_is kind.Relack release x g m.command refl)
  from_second_is x (rec.Addrej g) = rejected_is kind.Addrej addition x g m.command refl
  from_second_is x (rec.Modrej g) = rejected_is kind.Modrej modification x g m.command refl
  from_second_is x (rec.Relrej g) = rejected_is kind.Relrej release x g m.command refl
  from_second_is x (rec.Snst status) = transferred_is x status m.command
  from_second_is x (rec.Moved g id) = moved_is x g id m.command refl
  from_second_is x (rec.Recovd id) = recovered_is x id m.command refl
  from_second_is x rec.Modrqd = wanted_is x want.Rekey
  from_second_is x rec.Chgrqd = wanted_is x want.Change
  from_second_is x rec.Relrqd = wanted_is x want.Release
  from_second_is x (rec.Reconf plan key) = tt
  from_second_is x (rec.Rcomp g) = tt
  from_second_is x (rec.Scgf failed) = tt
  from_second_is x (rec.Recov id) = tt
  from_second_is x (rec.Addreq plan key) = tt
  from_second_is x (rec.Modreq plan key) = tt
  from_second_is x (rec.Recfg g) = tt
  from_second_is x (rec.Relreq plan) = tt
  from_second_is x (rec.Uecr g) = tt
  from_second_is x (rec.Scgn id g) = tt
  from_second_is x (rec.Modcnf g) = tt
  from_second_is x (rec.Modref word) = tt
  from_second_is x (rec.Chgcnf plan) = tt
  from_second_is x (rec.Chgref word) = tt
  from_second_is x (rec.Relcnf plan) = tt

  from_terminal_is : (r : Rec) → OfResult s m (from_terminal m r)
  from_terminal_is (rec.Rcomp g) = completed_is g m.command refl
  from_terminal_is (rec.Scgf failed) = still s m (failed_legs m failed).1 fit (failed_quiet failed)
  from_terminal_is (rec.Recovd id) = recovered_is T id m.command refl
  from_terminal_is (rec.Reconf plan key) = tt
  from_terminal_is (rec.Recov id) = tt
  from_terminal_is (rec.Addreq plan key) = tt
  from_terminal_is (rec.Addack g) = tt
  from_terminal_is (rec.Addrej g) = tt
  from_terminal_is (rec.Modreq plan key) = tt
  from_terminal_is (rec.Modack g) = tt
  from_terminal_is (rec.Modrej g) = tt
  from_terminal_is (rec.Recfg g) = tt
  from_terminal_is (rec.Relreq plan) = tt
  from_terminal_is (rec.Relack g) = tt
  from_terminal_is (rec.Relrej g) = tt
  from_terminal_is (rec.Uecr g) = tt
  from_terminal_is (rec.Snst status) = tt
  from_terminal_is (rec.Moved g id) = tt
  from_terminal_is (rec.Scgn id g) = tt
  from_terminal_is rec.Modrqd = tt
  from_terminal_is (rec.Modcnf g) = tt
  from_terminal_is (rec.Modref word) = tt
  from_terminal_is rec.Chgrqd = tt
  from_terminal_is (rec.Chgcnf plan) = tt
  from_terminal_is (rec.Chgref word) = tt
  from_terminal_is rec.Relrqd = tt
  from_terminal_is (rec.Relcnf plan) = tt

  pub take_is : (x : Node) (r : Rec) → OfResult s m (master_take x m r)
  take_is T r = from_terminal_is r
  take_is A r = from_second_is A r
  take_is B r = from_second_is B r
  take_is M r = tt

  -- the master's own anchor adopted a bearer
  adopted_here_is : (id : ℕ) (o : Option Command) → m.command ≡ o → IsAnyMove s m (adopted_here id m o)
  adopted_here_is id None is = any_of_calm s m (m, []) (stays s m [] fit quiet_none)
  adopted_here_is id (Some (asked c f x wanted)) is = any_of_calm s m (m, []) (stays s m [] fit quiet_none)
  adopted_here_is id (Some (gone p w)) is = goes_on s m p w (record w { moving = filter (λ y. not (is_moving id M y)) w.moving }) fit is
  adopted_here_is id (Some (recovering i t z)) is = any_of_calm s m (m, []) (stays s m [] fit quiet_none)

  pub adopted_is : (id : ℕ) → IsAnyMove s m (master_adopted m id)
  adopted_is id = adopted_here_is id m.command refl
