-- Whatever the master's procedures take, what they tell the terminal fits the table, and is what the table is after it.
use Rattle.std.proofs.Common.{ℕ, ◌≡◌, ◌++◌, ◌==◌, Bool, true, false, List, [], ◌∷◌, Option, Some, None, refl, sym, ap, subst, ◌∙◌, length}
use Rattle.std.specs.Prelude.{Err, Ok, Result, filter, find, if◌then◌else◌, is_some, not, ⊤, ◌&&◌, is_none}
use Rattle.std.specs.List.{list_any}
use Rattle.dc_base.specs.Nodes.{is_same_node, is_secondary, is_mm}
use Rattle.dc_base.specs.declared.answers.Refusal.{Refusal}
use Rattle.dc_base.specs.declared.answers.Refusal.TheVariants as refusal
use Rattle.dc_base.specs.declared.answers.Word.{Word}
use Rattle.dc_base.specs.declared.events.Event.{Event}
use Rattle.dc_base.specs.declared.events.Event.TheVariants as event
use Rattle.dc_base.specs.declared.events.Note.TheVariants as note
use Rattle.dc_base.specs.declared.nodes.Node.{Node}
use Rattle.dc_base.specs.declared.nodes.Node.TheVariants.{A, B, M, T}
use Rattle.dc_base.specs.declared.nodes.Want.{Want}
use Rattle.dc_base.specs.declared.nodes.Want.TheVariants as want
use Rattle.dc_base.specs.declared.records.Plan.{Plan}
use Rattle.dc_base.specs.declared.records.Rec.{Rec}
use Rattle.dc_base.specs.declared.records.Rec.TheVariants as rec
use Rattle.dc_base.specs.declared.records.RecKind.{RecKind}
use Rattle.dc_base.specs.declared.records.RecKind.TheVariants as kind
use Rattle.dc_base.specs.declared.records.StatusTransfer.{StatusTransfer}
use Rattle.node_rules.specs.Acts.{ProcFault, first_refusal, unexpected}
use Rattle.node_rules.specs.CommandTable.{row, master_key_of, Table, second_key_of}
use Rattle.node_rules.specs.Drafts.{draft, Draft, next_second_key}
use Rattle.node_rules.specs.MasterCommands.{command_refusals, commands_unless, master_command, recovers_at, recovers_row, command_by, recovered_by}
use Rattle.node_rules.specs.MasterEnds.{tries, waits_for, and_then, ends, ends_gone, ends_recovering, forgetting, is_release_spent, nothing_to_release, releases_if, retries, tried_first, tries_if, tries_now}
use Rattle.node_rules.specs.MasterGo.{begins_if, way, alone, before_acts, begins_by, drawn, first_record, goes, leave_acts, leave_record, let_go, lets_go, moves_here, preparing}
use Rattle.node_rules.specs.MasterRecords.{adopted_if, agreed, agreed_if, asking_refusal, begins_asked, completed, completed_if, completing, failed_legs, is_answer, is_moving, moved, passed_to, recovered, recovered_second, recovered_there, rejected, rejected_if, rejecting, released, transferred, wanted_by, recovered_at}
use Rattle.node_rules.specs.MasterState.{MasterActs, MasterProc, with_waits, waits_at, has_bearer, is_unsettled}
use Rattle.node_rules.specs.MasterTaking.{adopted_here, from_second, from_terminal, master_adopted, master_take}
use Rattle.node_rules.specs.Places.{is_at, other_second, mm}
use Rattle.node_rules.specs.declared.acts.Act.{Act}
use Rattle.node_rules.specs.declared.acts.Act.TheVariants.{Say as say, Send as send, UnlockAll as unlock_all, Prepare as prepare}
use Rattle.node_rules.specs.declared.commands.Command.{Command}
use Rattle.node_rules.specs.declared.commands.Command.TheVariants.{Asked as asked, Gone as gone, Recovering as recovering}
use Rattle.node_rules.specs.declared.commands.First.{First}
use Rattle.node_rules.specs.declared.commands.First.TheVariants.{Addition as addition, Modification as modification, Release as release}
use Rattle.node_rules.specs.declared.commands.Going.{Going}
use Rattle.node_rules.specs.declared.commands.Row.{Row}
use Rattle.run_control.specs.Sound.{AddsSecond, IsSecond, IsSound, IsSoundCommand, IsSoundDraft, IsSoundFirst}
use Rattle.run_control.specs.Telling.{Due, Tells, due_by, nothing_due, tells_nothing, tells_once, IsAsking}
use Rattle.run_control.proofs.Sent.{either}
use Rattle.run_control.proofs.Sound.{draft_sound, other_is, way_leaving, first_is}
use Rattle.run_control.proofs.Telling.{not_told, told_append, told_in, tries_tells}
use Rattle.dc_base.specs.declared.events.Note.{Note}
use Rattle.key_chain.specs.KeyNames.{octets}
use Rattle.node_rules.specs.declared.commands.Change.{Change}
use Rattle.node_rules.specs.declared.commands.Leaving.{Leaving}
use Rattle.node_rules.specs.declared.commands.Way.{Way}
use Rattle.run_control.specs.Books.{Books, CommandFits, Fit, Have, IsBooked, RowsFrom, books_nothing, books_plan, books_recovery, row_has, rows_have}
use Rattle.run_control.proofs.Tables.{after_alike, all_fit, fit_alike, plan_ascends, plan_rows, some_fit}
use Rattle.run_control.proofs.Asking.{completing_tells, failed_none, rejecting_tells}
use Rattle.std.proofs.lemmas.List.{append-nil}

-- a step from such a state
record Booked (have : Have) (r : MasterActs) : Type 0 where
  state : IsBooked r.0
  books : Books have r

-- acts before others that tell nothing
before_books : (have : Have) (acts : List Act) (r : MasterActs) → told_in acts ≡ [] → Booked have r → Booked have (before_acts acts r)
before_books have acts r none booked = record { state = booked.state; books = by booked.books }
  where
    more : told_in (acts ++ r.1) ≡ told_in r.1
    more = told_append acts r.1 ∙ ap (λ zs. zs ++ told_in r.1) none

    by : Books have r → Books have (before_acts acts r)
    by (books_nothing told same) = books_nothing (more ∙ told) same
    by (books_plan p key told fits after) = books_plan p key (more ∙ told) fits after
    by (books_recovery id told same there) = books_recovery id (more ∙ told) same there

-- nothing is done
stays_booked : (m : MasterProc) → IsBooked m → Booked (rows_have m.table.rows) (m, [])
stays_booked m booked = record { state = booked; books = books_nothing refl (λ k. refl) }

-- ---- a command goes

leave_none : (x : Option Node) (told : Option Leaving) (p : Plan) → IsSecond x → told_in (leave_acts x told p) ≡ []
leave_none None told p is = refl
leave_none (Some x) None p is = refl
leave_none (Some x) (Some how) p is = ap (λ zs. zs ++ []) (not_told x (leave_record how p) is)

goes_booked : (m : MasterProc) (c : Change) (w : Way) → RowsFrom 0 m.table.rows → Fit (rows_have m.table.rows) c.plan.items → IsSecond w.leaving → Booked (rows_have m.table.rows) (goes m c w)
goes_booked m c w rows fits leaving =
    let key = octets m.table.book.roots (master_key_of c.root) in
    record {
      state = record { rows = plan_ascends m.table c.plan.g c.plan.sec c.plan.items m.table.rows rows; command = tt };
      books = books_plan c.plan key (ap (λ zs. rec.Reconf c.plan key ∷ zs) (leave_none w.leaving w.told c.plan leaving)) fits (λ k. plan_rows m.table c.plan.g c.plan.sec c.plan.items m.table.rows k);
    }

preparing_none : (p : Plan) → told_in (preparing p) ≡ []
preparing_none p = either (λ acts. told_in acts ≡ []) (moves_here p) (prepare p ∷ []) [] refl refl

-- a draft fits the table
abbrev DraftFits : Have → Option Draft → Type 0
DraftFits have None = ⊤
DraftFits have (Some d) = Fit have d.change.plan.items

begins_by_booked : (m : MasterProc) (d : Draft) (wanted : Bool) (o : Option (First × Node)) → RowsFrom 0 m.table.rows → Fit (rows_have m.table.rows) d.change.plan.items → IsSoundFirst o
    → Booked (rows_have m.table.rows) (begins_by m d wanted o)
begins_by_booked m d wanted None rows fits sound = goes_booked m d.change alone rows fits tt
begins_by_booked m d wanted (Some (first, who)) rows fits sound = record {
  state = record { rows = rows; command = fits };
  books = books_nothing (ap (λ zs. zs ++ []) (not_told who (first_record m.table.book.roots first d.change) sound)) (λ k. refl);
}

begins_if_booked : (m : MasterProc) (wanted : Bool) (o : Option Draft) → IsBooked m → DraftFits (rows_have m.table.rows) o → IsSoundDraft o → Booked (rows_have m.table.rows) (begins_if m wanted o)
begins_if_booked m wanted None booked fits sound = stays_booked m booked
begins_if_booked m wanted (Some d) booked fits sound =
    before_books (rows_have m.table.rows) (preparing d.change.plan) (begins_by (drawn m d) d wanted d.first) (preparing_none d.change.plan) (begins_by_booked (drawn m d) d wanted d.first booked.rows fits sound.1)

-- ---- releases that wait

lets_go_booked : (m : MasterProc) (x : Node) (d : Draft) → RowsFrom 0 m.table.rows → Fit (rows_have m.table.rows) d.change.plan.items → is_secondary x ≡ true → Booked (rows_have m.table.rows) (lets_go m x d)
lets_go_booked m x d rows fits second =
    before_books (rows_have m.table.rows) (say (note.Begin want.Release) ∷ preparing d.change.plan) (goes (drawn m d) d.change (let_go x)) (preparing_none d.change.plan)
    (goes_booked (drawn m d) d.change (let_go x) rows fits second)

-- what waits does not matter
waits_booked : (b : Bool) (x : Node) (m : MasterProc) → IsBooked m → IsBooked (with_waits b x m)
waits_booked b A m booked = record { rows = booked.rows; command = booked.command }
waits_booked b B m booked = record { rows = booked.rows; command = booked.command }
waits_booked b M m booked = booked
waits_booked b T m booked = booked

waits_rows : (b : Bool) (x : Node) (m : MasterProc) → (with_waits b x m).table ≡ m.table
waits_rows b A m = refl
waits_rows b B m = refl
waits_rows b M m = refl
waits_rows b T m = refl

releases_booked : (m : MasterProc) (x : Node) (spent : Bool) (o : Option Draft) → IsBooked m → DraftFits (rows_have m.table.rows) o → is_secondary x ≡ true → Booked (rows_have m.table.rows) (releases_if m x spent o)
releases_booked m x spent None booked fits second = stays_booked m booked
releases_booked m x true (Some d) booked fits second = stays_booked m booked
releases_booked m x false (Some d) booked fits second =
    let table = waits_rows false x m in
    subst (λ (t : Table). Booked (rows_have t.rows) (lets_go (with_waits false x m) x d)) table
    (lets_go_booked (with_waits false x m) x d (waits_booked false x m booked).rows (subst (λ (t : Table). Fit (rows_have t.rows) d.change.plan.items) (sym table) fits) second)

release_fits : (t : Table) → RowsFrom 0 t.rows → DraftFits (rows_have t.rows) (draft t event.Release)
release_fits t rows = some_fit t.book.current t.second_key (λ r. mm) (λ r. not (is_mm r.shape)) t.rows rows

tries_now_booked : (m : MasterProc) (x : Node) (there : Bool) → IsBooked m → is_secondary x ≡ true → Booked (rows_have m.table.rows) (tries_now m x there)
tries_now_booked m x true booked second = let d = draft m.table event.Release in releases_booked m x (is_release_spent m.table d) d booked (release_fits m.table booked.rows) second
tries_now_booked m x false booked second = record {
  state = waits_booked false x m booked;
  books = books_nothing (ap (λ zs. zs ++ []) (not_told x nothing_to_release second)) (λ k. ap (λ (t : Table). rows_have t.rows k) (waits_rows false x m));
}

tries_if_booked : (m : MasterProc) (x : Node) (waits : Bool) (c : Option Command) → IsBooked m → is_secondary x ≡ true → Booked (rows_have m.table.rows) (tries_if m x waits c)
tries_if_booked m x false c booked second = stays_booked m booked
tries_if_booked m x true None booked second = tries_now_booked m x (is_at x m.table.sec) booked second
tries_if_booked m x true (Some (asked c first who wanted)) booked second = stays_booked m booked
tries_if_booked m x true (Some (gone plan going)) booked second = stays_booked m booked
tries_if_booked m x true (Some (recovering id terminal sec)) booked second = stays_booked m booked

tries_booked : (x : Node) (m : MasterProc) → IsBooked m → is_secondary x ≡ true → Booked (rows_have m.table.rows) (tries x m)
tries_booked x m booked second = tries_if_booked m x (waits_at m x) m.command booked second

-- one step after another, of which only one tells
some_told : (x : Rec) (acts : List Act) {X : Type 0} → told_in acts ≡ x ∷ [] → told_in acts ≡ [] → X
some_told x acts one none = by (sym one ∙ none)
  where
    by : {X : Type 0} → x ∷ [] ≡ [] → X
    by e = absurd cc

never_asks : (d : Due) (x : Rec) → d ≡ nothing_due → IsAsking d x → ⊥
never_asks d x none asks = no_one x (subst (λ z. IsAsking z x) none asks)
  where
    no_one : (y : Rec) → IsAsking nothing_due y → ⊥
    no_one y a = a

-- what tells nothing leaves the rows
quietly : (have : Have) (r : MasterActs) → told_in r.1 ≡ [] → Books have r → (k : ℕ) → rows_have r.0.table.rows k ≡ have k
quietly have r none (books_nothing told same) = same
quietly have r none (books_plan p key told fits after) = some_told (rec.Reconf p key) r.1 told none
quietly have r none (books_recovery id told same there) = some_told (rec.Recov id) r.1 told none

-- after a step that tells nothing
later_books : (have : Have) (r s : MasterActs) → told_in r.1 ≡ [] → ((k : ℕ) → rows_have r.0.table.rows k ≡ have k) → Books (rows_have r.0.table.rows) s → Books have (before_acts r.1 s)
later_books have r s none same books = by books
  where
    more : told_in (r.1 ++ s.1) ≡ told_in s.1
    more = told_append r.1 s.1 ∙ ap (λ zs. zs ++ told_in s.1) none

    by : Books (rows_have r.0.table.rows) s → Books have (before_acts r.1 s)
    by (books_nothing told still) = books_nothing (more ∙ told) (λ k. still k ∙ same k)
    by (books_plan p key told fits after) = books_plan p key (more ∙ told) (fit_alike (rows_have r.0.table.rows) have p.items same fits) (λ k. after k ∙ after_alike p.items (rows_have r.0.table.rows) have same k)
    by (books_recovery id told still there) = books_recovery id (more ∙ told) (λ k. still k ∙ same k) (sym (ap (λ (o : Option (ℕ × ℕ)). is_some o) (same id)) ∙ there)

-- before a step that tells nothing
first_books : (have : Have) (r s : MasterActs) → told_in s.1 ≡ [] → ((k : ℕ) → rows_have s.0.table.rows k ≡ rows_have r.0.table.rows k) → Books have r → Books have (before_acts r.1 s)
first_books have r s none same books = by books
  where
    more : told_in (r.1 ++ s.1) ≡ told_in r.1
    more = told_append r.1 s.1 ∙ ap (λ zs. told_in r.1 ++ zs) none ∙ append-nil (told_in r.1)

    by : Books have r → Books have (before_acts r.1 s)
    by (books_nothing told still) = books_nothing (more ∙ told) (λ k. same k ∙ still k)
    by (books_plan p key told fits after) = books_plan p key (more ∙ told) fits (λ k. same k ∙ after k)
    by (books_recovery id told still there) = books_recovery id (more ∙ told) (λ k. same k ∙ still k) there

then_booked : (have : Have) (due : Due) (r : MasterActs) (f : MasterProc → MasterActs) → Booked have r → Booked (rows_have r.0.table.rows) (f r.0) → Tells due r → Tells (due_by r.0.command) (f r.0) → Booked have (and_then r f)
then_booked have due r f one two (tells_nothing told stays) t = record { state = two.state; books = later_books have r (f r.0) told (quietly have r told one.books) two.books }
then_booked have due r f one two (tells_once free x told asks) (tells_nothing told' stays') =
    record { state = two.state; books = first_books have r (f r.0) told' (quietly (rows_have r.0.table.rows) (f r.0) told' two.books) one.books }
then_booked have due r f one two (tells_once free x told asks) (tells_once free' y told' asks') = absurd (never_asks (due_by r.0.command) x free' asks)

retries_booked : (m : MasterProc) → IsBooked m → Booked (rows_have m.table.rows) (retries m)
retries_booked m booked =
    let x = tried_first m.table.sec in
    let one = tries_booked x m booked (first_is m.table.sec) in
    then_booked (rows_have m.table.rows) (due_by m.command) (tries x m) (tries (other_second x)) one (tries_booked (other_second x) (tries x m).0 one.state (other_is x))
    (tries_tells x m (first_is m.table.sec)) (tries_tells (other_second x) (tries x m).0 (other_is x))

-- ---- a command ends

ends_booked : (m : MasterProc) (acts : List Act) (how : Note) → told_in acts ≡ [] → RowsFrom 0 m.table.rows → Booked (rows_have m.table.rows) (ends m acts how)
ends_booked m acts how none rows =
    before_books (rows_have m.table.rows) (acts ++ say how ∷ []) (retries (record m { command = None })) (told_append acts (say how ∷ []) ∙ ap (λ zs. zs ++ []) none)
    (retries_booked (record m { command = None }) (record { rows = rows; command = tt }))

forgetting_none : (x : Option Node) (g : ℕ) → IsSecond x → told_in (forgetting x g) ≡ []
forgetting_none None g is = refl
forgetting_none (Some x) g is = ap (λ zs. zs ++ []) (not_told x (rec.Uecr g) is)

ends_gone_booked : (m : MasterProc) (p : Plan) (w : Going) (complete : Bool) (moving : List (ℕ × Node)) → IsSecond w.leaving → IsBooked m → Booked (rows_have m.table.rows) (ends_gone m p w complete moving)
ends_gone_booked m p w false moving leaving booked = stays_booked m booked
ends_gone_booked m p w true (x ∷ xs) leaving booked = stays_booked m booked
ends_gone_booked m p w true [] leaving booked = ends_booked m (forgetting w.leaving p.g) note.Done (forgetting_none w.leaving p.g leaving) booked.rows

ends_recovering_booked : (m : MasterProc) (terminal : Bool) (second : Option Node) → IsBooked m → Booked (rows_have m.table.rows) (ends_recovering m terminal second)
ends_recovering_booked m false None booked = ends_booked m [] note.Done refl booked.rows
ends_recovering_booked m false (Some x) booked = stays_booked m booked
ends_recovering_booked m true second booked = stays_booked m booked

-- a command that was carried out, and a recovery, after an answer
gone_booked : (m : MasterProc) (p : Plan) (w : Going) → IsSecond w.leaving → RowsFrom 0 m.table.rows → Booked (rows_have m.table.rows) (waits_for m (gone p w))
gone_booked m p w leaving rows = ends_gone_booked (record m { command = Some (gone p w) }) p w w.complete w.moving leaving (record { rows = rows; command = tt })

recovering_booked : (m : MasterProc) (id : ℕ) (terminal : Bool) (second : Option Node) → RowsFrom 0 m.table.rows → Booked (rows_have m.table.rows) (waits_for m (recovering id terminal second))
recovering_booked m id terminal second rows = ends_recovering_booked (record m { command = Some (recovering id terminal second) }) terminal second (record { rows = rows; command = tt })

-- ---- records

-- what is taken is so
abbrev pub TakesBooked : Have → Result MasterActs ProcFault → Type 0
TakesBooked have (Ok r) = IsBooked r.0 × Books have r
TakesBooked have (Err why) = ⊤

module _ (m : MasterProc) (booked : IsBooked m) where
  abbrev pub Taken : Result MasterActs ProcFault → Type 0
  Taken r = TakesBooked (rows_have m.table.rows) r

  as_taken : (r : MasterActs) → Booked (rows_have m.table.rows) r → Taken (Ok r)
  as_taken r is = (is.state, is.books)

  agreed_if_booked : (k : RecKind) (c : Change) (first : First) (who : Node) (wanted : Bool) (b : Bool) → Fit (rows_have m.table.rows) c.plan.items → is_secondary who ≡ true → IsSecond m.table.sec → Taken (agreed_if k m c first who wanted b)
  agreed_if_booked k c first who wanted true fits second sec =
      let w = way first who wanted m.table.sec in as_taken (goes m c w) (goes_booked m c w booked.rows fits (way_leaving first who wanted m.table.sec second sec))
  agreed_if_booked k c first who wanted false fits second sec = tt

  agreed_booked : (k : RecKind) (f : First) (from : Node) (g : ℕ) (c : Option Command) → CommandFits (rows_have m.table.rows) c → IsSoundCommand c → IsSecond m.table.sec → Taken (agreed k f from g m c)
  agreed_booked k f from g None fits sound sec = tt
  agreed_booked k f from g (Some (asked c first who wanted)) fits sound sec = agreed_if_booked k c first who wanted (is_answer f from g first who c.plan.g) fits sound.1 sec
  agreed_booked k f from g (Some (gone plan going)) fits sound sec = tt
  agreed_booked k f from g (Some (recovering id terminal second)) fits sound sec = tt

  released_booked : (r : Result MasterActs ProcFault) → Taken r → Taken (released r m)
  released_booked (Ok r) is = is
  released_booked (Err why) is = (booked, books_nothing refl (λ k. refl))

  rejected_if_booked : (k : RecKind) (first : First) (who : Node) (wanted : Bool) (b : Bool) → is_secondary who ≡ true → Taken (rejected_if k m first who wanted b)
  rejected_if_booked k first who wanted true second = as_taken _ (ends_booked m (rejecting first who wanted) note.Rejected (rejecting_tells first who wanted second) booked.rows)
  rejected_if_booked k first who wanted false second = tt

  rejected_booked : (k : RecKind) (f : First) (from : Node) (g : ℕ) (c : Option Command) → IsSoundCommand c → Taken (rejected k f from g m c)
  rejected_booked k f from g None sound = tt
  rejected_booked k f from g (Some (asked c first who wanted)) sound = rejected_if_booked k first who wanted (is_answer f from g first who c.plan.g) sound.1
  rejected_booked k f from g (Some (gone plan going)) sound = tt
  rejected_booked k f from g (Some (recovering id terminal second)) sound = tt

  completed_if_booked : (p : Plan) (w : Going) (b : Bool) → IsSecond w.due → IsSecond w.leaving → Taken (completed_if m p w b)
  completed_if_booked p w true due leaving =
      as_taken _ (before_books (rows_have m.table.rows) (completing w.due w.confirms p.g ++ unlock_all p.g ∷ []) (waits_for m (gone p (record w { complete = true })))
      (told_append (completing w.due w.confirms p.g) (unlock_all p.g ∷ []) ∙ ap (λ zs. zs ++ []) (completing_tells w.due w.confirms p.g due))
      (gone_booked m p (record w { complete = true }) leaving booked.rows))
  completed_if_booked p w false due leaving = tt

  completed_booked : (g : ℕ) (c : Option Command) → IsSoundCommand c → Taken (completed g m c)
  completed_booked g None sound = tt
  completed_booked g (Some (asked c first who wanted)) sound = tt
  completed_booked g (Some (gone p w)) sound = completed_if_booked p w ((p.g == g) && not w.complete) sound.1 sound.2
  completed_booked g (Some (recovering id terminal second)) sound = tt

  there_booked : (id : ℕ) (second : Option Node) (b : Bool) → Taken (recovered_there m id second b)
  there_booked id second true = as_taken _ (recovering_booked m id false second booked.rows)
  there_booked id second false = tt

  second_booked : (id : ℕ) (terminal : Bool) (b : Bool) → Taken (recovered_second m id terminal b)
  second_booked id terminal true = as_taken _ (recovering_booked m id terminal None booked.rows)
  second_booked id terminal false = tt

  recovered_at_booked : (x : Node) (id : ℕ) (terminal : Bool) (second : Option Node) (same : Bool) → Taken (recovered_at x m id terminal second same)
  recovered_at_booked T id terminal second same = there_booked id second (terminal && same)
  recovered_at_booked A id terminal second same = second_booked id terminal (is_at A second && same)
  recovered_at_booked B id terminal second same = second_booked id terminal (is_at B second && same)
  recovered_at_booked M id terminal second same = tt

  recovered_booked : (from : Node) (id : ℕ) (c : Option Command) → Taken (recovered from id m c)
  recovered_booked from id None = tt
  recovered_booked from id (Some (asked c first who wanted)) = tt
  recovered_booked from id (Some (gone plan going)) = tt
  recovered_booked from id (Some (recovering i terminal second)) = recovered_at_booked from i terminal second (i == id)

  adopted_booked : (k : RecKind) (id : ℕ) (x : Node) (p : Plan) (w : Going) (b : Bool) → IsSecond w.leaving → Taken (adopted_if k m id x p w b)
  adopted_booked k id x p w true leaving = as_taken _ (gone_booked m p (record w { moving = filter (λ y. not (is_moving id x y)) w.moving }) leaving booked.rows)
  adopted_booked k id x p w false leaving = tt

  moved_booked : (from : Node) (g id : ℕ) (c : Option Command) → IsSoundCommand c → Taken (moved from g id m c)
  moved_booked from g id None sound = tt
  moved_booked from g id (Some (asked c first who wanted)) sound = tt
  moved_booked from g id (Some (gone p w)) sound = adopted_booked kind.Moved id from p w ((p.g == g) && list_any (is_moving id from) w.moving) sound.2
  moved_booked from g id (Some (recovering i terminal second)) sound = tt

  passed_booked : (s : StatusTransfer) (from : Node) (o : Option (ℕ × Node)) → Taken (passed_to m s from o)
  passed_booked s from None = tt
  passed_booked s from (Some (id, M)) = (booked, books_nothing refl (λ k. refl))
  passed_booked s from (Some (id, A)) = either Taken (is_same_node from A) (Err (unexpected kind.Snst)) (Ok (m, send A (rec.Snst s) ∷ [])) tt (booked, books_nothing refl (λ k. refl))
  passed_booked s from (Some (id, B)) = either Taken (is_same_node from B) (Err (unexpected kind.Snst)) (Ok (m, send B (rec.Snst s) ∷ [])) tt (booked, books_nothing refl (λ k. refl))
  passed_booked s from (Some (id, T)) = tt

  transferred_booked : (from : Node) (s : StatusTransfer) (c : Option Command) → Taken (transferred from s m c)
  transferred_booked from s None = tt
  transferred_booked from s (Some (asked c first who wanted)) = tt
  transferred_booked from s (Some (gone p w)) = passed_booked s from (if p.g == s.g then find (λ (x : ℕ × Node). x.0 == s.id) w.moving else None)
  transferred_booked from s (Some (recovering i terminal second)) = tt

  failed_booked : (pairs : List (ℕ × ℕ)) → Taken (Ok (failed_legs m pairs))
  failed_booked pairs = (booked, books_nothing (failed_none m pairs) (λ k. refl))

  asked_booked : (from : Node) (what : Want) (e : Event) (refuse : Word → Rec) (o : Option Word) → is_secondary from ≡ true → DraftFits (rows_have m.table.rows) (draft m.table e) → IsSoundDraft (draft m.table e)
      → Booked (rows_have m.table.rows) (begins_asked m from what e refuse o)
  asked_booked from what e refuse (Some why) second fits sound = record { state = booked; books = books_nothing (ap (λ zs. zs ++ []) (not_told from (refuse why) second)) (λ k. refl) }
  asked_booked from what e refuse None second fits sound =
      before_books (rows_have m.table.rows) (say (note.Begin what) ∷ []) (begins_if m true (draft m.table e)) refl (begins_if_booked m true (draft m.table e) booked fits sound)

  wanted_booked : (from : Node) (what : Want) → is_secondary from ≡ true → IsSecond m.table.sec → Booked (rows_have m.table.rows) (wanted_by from what m)
  wanted_booked from want.Rekey second sec =
      asked_booked from want.Rekey event.RekeySecond (λ w. rec.Modref w) (asking_refusal from m) second (some_fit m.table.book.current (next_second_key m.table) (λ r. r.shape) (λ r. r.shape.at_second) m.table.rows booked.rows) (draft_sound m.table event.RekeySecond tt sec)
  wanted_booked from want.Change second sec =
      asked_booked from want.Change event.Change (λ w. rec.Chgref w) (asking_refusal from m) second (some_fit m.table.book.current (next_second_key m.table) (λ r. r.shape) (λ r. not (is_mm r.shape)) m.table.rows booked.rows) (draft_sound m.table event.Change tt sec)
  wanted_booked from want.Release second sec =
      subst (λ (t : Table). Booked (rows_have t.rows) (tries from (with_waits true from m))) (waits_rows true from m) (tries_booked from (with_waits true from m) (waits_booked true from m booked) second)

  from_second_booked : (x : Node) (r : Rec) → is_secondary x ≡ true → IsSound m → Taken (from_second x m r)
  from_second_booked x (rec.Reconf plan key) second sound = tt
  from_second_booked x (rec.Rcomp g) second sound = tt
  from_second_booked x (rec.Scgf failed) second sound = tt
  from_second_booked x (rec.Recov id) second sound = tt
  from_second_booked x (rec.Recovd id) second sound = recovered_booked x id m.command
  from_second_booked x (rec.Addreq plan key) second sound = tt
  from_second_booked x (rec.Addack g) second sound = agreed_booked kind.Addack addition x g m.command booked.command sound.command sound.sec
  from_second_booked x (rec.Addrej g) second sound = rejected_booked kind.Addrej addition x g m.command sound.command
  from_second_booked x (rec.Modreq plan key) second sound = tt
  from_second_booked x (rec.Modack g) second sound = agreed_booked kind.Modack modification x g m.command booked.command sound.command sound.sec
  from_second_booked x (rec.Modrej g) second sound = rejected_booked kind.Modrej modification x g m.command sound.command
  from_second_booked x (rec.Recfg g) second sound = tt
  from_second_booked x (rec.Relreq plan) second sound = tt
  from_second_booked x (rec.Relack g) second sound = released_booked (agreed kind.Relack release x g m m.command) (agreed_booked kind.Relack release x g m.command booked.command sound.command sound.sec)
  from_second_booked x (rec.Relrej g) second sound = rejected_booked kind.Relrej release x g m.command sound.command
  from_second_booked x (rec.Uecr g) second sound = tt
  from_second_booked x (rec.Snst status) second sound = transferred_booked x status m.command
  from_second_booked x (rec.Moved g id) second sound = moved_booked x g id m.command sound.command
  from_second_booked x (rec.Scgn id g) second sound = tt
  from_second_booked x rec.Modrqd second sound = as_taken _ (wanted_booked x want.Rekey second sound.sec)
  from_second_booked x (rec.Modcnf g) second sound = tt
  from_second_booked x (rec.Modref word) second sound = tt
  from_second_booked x rec.Chgrqd second sound = as_taken _ (wanted_booked x want.Change second sound.sec)
  from_second_booked x (rec.Chgcnf plan) second sound = tt
  from_second_booked x (rec.Chgref word) second sound = tt
  from_second_booked x rec.Relrqd second sound = as_taken _ (wanted_booked x want.Release second sound.sec)
  from_second_booked x (rec.Relcnf plan) second sound = tt

  from_terminal_booked : (r : Rec) → IsSound m → Taken (from_terminal m r)
  from_terminal_booked (rec.Reconf plan key) sound = tt
  from_terminal_booked (rec.Rcomp g) sound = completed_booked g m.command sound.command
  from_terminal_booked (rec.Scgf failed) sound = failed_booked failed
  from_terminal_booked (rec.Recov id) sound = tt
  from_terminal_booked (rec.Recovd id) sound = recovered_booked T id m.command
  from_terminal_booked (rec.Addreq plan key) sound = tt
  from_terminal_booked (rec.Addack g) sound = tt
  from_terminal_booked (rec.Addrej g) sound = tt
  from_terminal_booked (rec.Modreq plan key) sound = tt
  from_terminal_booked (rec.Modack g) sound = tt
  from_terminal_booked (rec.Modrej g) sound = tt
  from_terminal_booked (rec.Recfg g) sound = tt
  from_terminal_booked (rec.Relreq plan) sound = tt
  from_terminal_booked (rec.Relack g) sound = tt
  from_terminal_booked (rec.Relrej g) sound = tt
  from_terminal_booked (rec.Uecr g) sound = tt
  from_terminal_booked (rec.Snst status) sound = tt
  from_terminal_booked (rec.Moved g id) sound = tt
  from_terminal_booked (rec.Scgn id g) sound = tt
  from_terminal_booked rec.Modrqd sound = tt
  from_terminal_booked (rec.Modcnf g) sound = tt
  from_terminal_booked (rec.Modref word) sound = tt
  from_terminal_booked rec.Chgrqd sound = tt
  from_terminal_booked (rec.Chgcnf plan) sound = tt
  from_terminal_booked (rec.Chgref word) sound = tt
  from_terminal_booked rec.Relrqd sound = tt
  from_terminal_booked (rec.Relcnf plan) sound = tt

  -- whatever record comes from whatever node
  pub take_booked : (from : Node) (r : Rec) → IsSound m → Taken (master_take from m r)
  take_booked T r sound = from_terminal_booked r sound
  take_booked A r sound = from_second_booked A r refl sound
  take_booked B r sound = from_second_booked B r refl sound
  take_booked M r sound = tt

  adopted_here_booked : (id : ℕ) (c : Option Command) → IsSoundCommand c → Taken (Ok (adopted_here id m c))
  adopted_here_booked id None sound = (booked, books_nothing refl (λ k. refl))
  adopted_here_booked id (Some (asked c first who wanted)) sound = (booked, books_nothing refl (λ k. refl))
  adopted_here_booked id (Some (gone p w)) sound = as_taken _ (gone_booked m p (record w { moving = filter (λ y. not (is_moving id M y)) w.moving }) sound.2 booked.rows)
  adopted_here_booked id (Some (recovering i terminal second)) sound = (booked, books_nothing refl (λ k. refl))

  -- an adoption
  pub adoption_booked : (id : ℕ) → IsSound m → Taken (Ok (master_adopted m id))
  adoption_booked id sound = adopted_here_booked id m.command sound.command

  -- ---- a command

  recovers_at_booked : (id : ℕ) (x : Node) → is_some (rows_have m.table.rows id) ≡ true → Booked (rows_have m.table.rows) (recovers_at m id x)
  recovers_at_booked id M there = record { state = record { rows = booked.rows; command = tt }; books = books_recovery id refl (λ k. refl) there }
  recovers_at_booked id A there = record { state = record { rows = booked.rows; command = tt }; books = books_recovery id refl (λ k. refl) there }
  recovers_at_booked id B there = record { state = record { rows = booked.rows; command = tt }; books = books_recovery id refl (λ k. refl) there }
  recovers_at_booked id T there = stays_booked m booked

  recovers_row_booked : (id : ℕ) (o : Option Row) → row m.table id ≡ o → Booked (rows_have m.table.rows) (recovers_row m id o)
  recovers_row_booked id None at = stays_booked m booked
  recovers_row_booked id (Some r) at = recovers_at_booked id r.anchor (ap (λ (o : Option Row). is_some (row_has o)) at)

  -- with no command open a bearer is there where it is in the table
  there_is : (id : ℕ) (b : Bool) → is_some m.command ≡ false → has_bearer m id ≡ b → is_some (rows_have m.table.rows id) ≡ b
  there_is id b free has = some_row (row m.table id) ∙ sym (settled m.command free) ∙ has
    where
      some_row : (o : Option Row) → is_some (row_has o) ≡ is_some o
      some_row None = refl
      some_row (Some r) = refl

      and_true : (d : Bool) → (d && true) ≡ d
      and_true true = refl
      and_true false = refl

      settled : (c : Option Command) → is_some c ≡ false → (is_some (row m.table id) && not (is_unsettled id c)) ≡ is_some (row m.table id)
      settled None none = and_true (is_some (row m.table id))
      settled (Some c) none = absurd cc

  none_is : (o : Option (ℕ × ℕ)) → is_some o ≡ false → is_none o ≡ true
  none_is None is = refl
  none_is (Some x) is = absurd cc

  -- the first conditions under which a command is refused do not hold
  passed_one : (b : Bool) (why : Refusal) (rest : Option Refusal) → (if b then Some why else rest) ≡ None → (b ≡ false) × (rest ≡ None)
  passed_one true why rest is = absurd cc
  passed_one false why rest is = (refl, is)

  drafted : (policies : ℕ) (e : Event) → first_refusal (command_refusals policies m e) ≡ None → DraftFits (rows_have m.table.rows) (draft m.table e)
  drafted policies (event.Bearer id n first shape threshold policy) is =
      let one = passed_one (is_some m.command) refusal.Busy _ is in
      let two = passed_one (has_bearer m id) refusal.BearerThere _ one.1 in
      (none_is (rows_have m.table.rows id) (there_is id false one.0 two.0), tt)
  drafted policies (event.Reshape id shape) is = some_fit m.table.book.current m.table.second_key (λ r. shape) (λ r. r.id == id) m.table.rows booked.rows
  drafted policies (event.Remove id) is =
      let one = passed_one (is_some m.command) refusal.Busy _ is in
      let two = passed_one (not (has_bearer m id)) refusal.NoBearer _ one.1 in
      (there_is id true one.0 (twice (has_bearer m id) two.0), tt)
    where
      twice : (b : Bool) → not b ≡ false → b ≡ true
      twice true no' = refl
      twice false no' = absurd cc
  drafted policies (event.Add node) is = tt
  drafted policies event.Change is = some_fit m.table.book.current (next_second_key m.table) (λ r. r.shape) (λ r. not (is_mm r.shape)) m.table.rows booked.rows
  drafted policies event.Release is = release_fits m.table booked.rows
  drafted policies event.RekeySecond is = some_fit m.table.book.current (next_second_key m.table) (λ r. r.shape) (λ r. r.shape.at_second) m.table.rows booked.rows
  drafted policies (event.RekeyMaster root) is = let number = length m.table.book.roots in all_fit number (second_key_of number 0) (λ r. r.shape) m.table.rows booked.rows
  drafted policies (event.Recover id) is = tt
  drafted policies (event.Report node id) is = tt
  drafted policies (event.Deny node on) is = tt
  drafted policies (event.Ask node what) is = tt
  drafted policies event.ScgFail is = tt
  drafted policies (event.Submit id d payload) is = tt
  drafted policies (event.Step l i) is = tt
  drafted policies (event.Lose l i) is = tt
  drafted policies (event.Again l i) is = tt

  command_by_booked : (policies : ℕ) (e : Event) (o : Option ℕ) → first_refusal (command_refusals policies m e) ≡ None → AddsSecond e → IsSecond m.table.sec → Booked (rows_have m.table.rows) (command_by m e o)
  command_by_booked policies e None is adds sec = begins_if_booked m false (draft m.table e) booked (drafted policies e is) (draft_sound m.table e adds sec)
  command_by_booked policies e (Some id) is adds sec = recovers_row_booked id (row m.table id) refl

  unless_booked : (policies : ℕ) (e : Event) (o : Option Refusal) → first_refusal (command_refusals policies m e) ≡ o → AddsSecond e → IsSecond m.table.sec → Taken (commands_unless m e o)
  unless_booked policies e None is adds sec = as_taken _ (command_by_booked policies e (recovered_by e) is adds sec)
  unless_booked policies e (Some why) is adds sec = tt

  pub command_booked : (policies : ℕ) (e : Event) → AddsSecond e → IsSound m → Taken (master_command policies m e)
  command_booked policies e adds sound = unless_booked policies e (first_refusal (command_refusals policies m e)) refl adds sound.sec
