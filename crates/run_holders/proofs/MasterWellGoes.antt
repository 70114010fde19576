-- Each step of the procedures of the master carries out one plan at most, that of the command which is open then; the terminal is told
-- of it just before.
use Rattle.std.proofs.Common.{append_assoc, ℕ, ◌==◌, ◌++◌, ◌∙◌, Bool, true, false, List, [], ◌∷◌, Option, Some, None, refl, sym, ap, subst, inl, inr}
use Rattle.std.specs.Prelude.{◌≡◌, if◌then◌else◌, Err, Ok, Result, filter, find, map, not, ⊤, ◌&&◌}
use Rattle.std.specs.List.{AllByRecursion, list_any}
use Rattle.std.proofs.lemmas.Bool.{cases_Bool}
use Rattle.dc_base.specs.Nodes.{is_same_node, is_secondary}
use Rattle.dc_base.specs.declared.answers.Word.{Word}
use Rattle.dc_base.specs.declared.events.Event.{Event}
use Rattle.dc_base.specs.declared.events.Event.TheVariants as event
use Rattle.dc_base.specs.declared.events.Note.{Note}
use Rattle.dc_base.specs.declared.events.Note.TheVariants as note
use Rattle.dc_base.specs.declared.nodes.Node.{Node}
use Rattle.dc_base.specs.declared.nodes.Node.TheVariants.{A, B, M, T}
use Rattle.dc_base.specs.declared.nodes.Want.{Want}
use Rattle.dc_base.specs.declared.nodes.Want.TheVariants as want
use Rattle.dc_base.specs.declared.records.Plan.{Plan}
use Rattle.dc_base.specs.declared.records.Rec.{Rec}
use Rattle.dc_base.specs.declared.records.Rec.TheVariants as rec
use Rattle.dc_base.specs.declared.records.RecKind.{RecKind}
use Rattle.dc_base.specs.declared.records.RecKind.TheVariants as kind
use Rattle.dc_base.specs.declared.records.StatusTransfer.{StatusTransfer}
use Rattle.transcript.proofs.OnEach.{each_append}
use Rattle.node_rules.specs.Acts.{ProcFault}
use Rattle.node_rules.specs.CommandTable.{Table, row}
use Rattle.node_rules.specs.Drafts.{Draft, draft, set_to, shared_rows}
use Rattle.node_rules.specs.MasterCommands.{command_by, commands, recovered_by, recovers_at, recovers_row}
use Rattle.node_rules.specs.MasterEnds.{and_then, ends, ends_gone, ends_if, ends_recovering, forgetting, is_release_spent, releases_if, retries, tried_first, tries, tries_if, tries_now, waits_for}
use Rattle.node_rules.specs.MasterGo.{alone, before_acts, begins, begins_by, begins_if, drawn, first_record, goes, leave_acts, leave_record, let_go, lets_go, moves_here, preparing, way}
use Rattle.node_rules.specs.MasterRecords.{adopted_if, agreed, agreed_if, asking_refusal, begins_asked, completed, completed_if, completing, failed_legs, failing, failing_at, is_answer, is_moving, moved, passed_to, recovered, recovered_at, recovered_second, recovered_there, rejected, rejected_if, rejecting, released, transferred, wanted_by}
use Rattle.node_rules.specs.MasterState.{MasterActs, MasterProc, waits_at, with_waits}
use Rattle.node_rules.specs.MasterTaking.{adopted_here, from_second, from_terminal, master_adopted, master_take}
use Rattle.node_rules.specs.Places.{is_at, mm, other_second}
use Rattle.node_rules.specs.declared.acts.Act.{Act}
use Rattle.node_rules.specs.declared.acts.Act.TheVariants.{FailOne as fail_one, Go as go, Pass as pass, Prepare as prepare, RecoverOne as recover_one, Say as say, Send as send, UnlockAll as unlock_all}
use Rattle.node_rules.specs.declared.commands.Change.{Change}
use Rattle.node_rules.specs.declared.commands.Command.{Command}
use Rattle.node_rules.specs.declared.commands.Command.TheVariants.{Asked as asked, Gone as gone, Recovering as recovering}
use Rattle.node_rules.specs.declared.commands.First.{First}
use Rattle.node_rules.specs.declared.commands.First.TheVariants.{Addition as addition, Modification as modification, Release as release}
use Rattle.node_rules.specs.declared.commands.Going.{Going}
use Rattle.node_rules.specs.declared.commands.Row.{Row}
use Rattle.node_rules.specs.declared.commands.Way.{Way}
use Rattle.node_rules.specs.declared.commands.Leaving.{Leaving}
use Rattle.node_rules.specs.declared.commands.Leaving.TheVariants.{ByChangeConfirm as by_change_confirm, ByReleaseConfirm as by_release_confirm, ByRequest as by_request}
use Rattle.dc_base.specs.declared.nodes.KeyName.{KeyName}
use Rattle.dc_base.specs.declared.nodes.Shape.{Shape}
use Rattle.std.proofs.lemmas.List.{append-nil}
use Rattle.run_holders.specs.Actives.{is_of_anchor}
use Rattle.claims.specs.Reading.{unsets}
use Rattle.run_table.specs.Words.{is_order}
use Rattle.run_holders.proofs.MasterWellLines.{DropsNone}

-- ---- what is said of a step of the procedures

-- an act carries out no plan, tells the terminal of none, and says nothing of anchors
abbrev pub IsStay : Act → Type 0
IsStay (send to r) = is_order r ≡ false
IsStay (prepare p) = ⊤
IsStay (go p) = ⊥
IsStay (unlock_all g) = ⊤
IsStay (say n) = is_of_anchor n ≡ false
IsStay (recover_one id) = ⊤
IsStay (fail_one id g) = ⊤
IsStay (pass st) = ⊥

abbrev pub Stay : List Act → Type 0
Stay acts = AllByRecursion IsStay acts

-- an act sends a record that tells the terminal of no plan
abbrev pub IsFarewell : Act → Type 0
IsFarewell (send to r) = is_order r ≡ false
IsFarewell _ = ⊥

-- no plan is carried out; or one of which this is so, and its command is open then
pub data GoesBy (D : Plan → Type 0) (r : MasterActs) : Type 0 where
  goes_none : (stay : Stay r.1) → GoesBy D r
  goes_one : (before : List Act) → (q : Plan) → (key : List ℕ) → (leave : List Act) → (w : Going)
      → (is : r.1 ≡ before ++ (send T (rec.Reconf q key) ∷ go q ∷ leave)) → (stay : Stay before)
      → (more : AllByRecursion IsFarewell leave) → (opened : r.0.command ≡ Some (gone q w)) → (of : D q) → GoesBy D r

-- of any plan
abbrev pub Any : Plan → Type 0
Any q = ⊤

-- of what is taken
abbrev pub TakesGoes : (Plan → Type 0) → Result MasterActs ProcFault → Type 0
TakesGoes D (Ok r) = GoesBy D r
TakesGoes D (Err why) = ⊤

any_goes : (D : Plan → Type 0) (r : MasterActs) → GoesBy D r → GoesBy Any r
any_goes D r (goes_none stay) = goes_none stay
any_goes D r (goes_one before q key leave w is stay more opened of) = goes_one before q key leave w is stay more opened tt

stay_append : (xs ys : List Act) → Stay xs → Stay ys → Stay (xs ++ ys)
stay_append xs ys one more = each_append IsStay xs ys one more

-- where others come before
goes_before : (D : Plan → Type 0) (m : MasterProc) (xs acts : List Act) → Stay xs → GoesBy D (m, acts) → GoesBy D (m, xs ++ acts)
goes_before D m xs acts first (goes_none stay) = goes_none (stay_append xs acts first stay)
goes_before D m xs acts first (goes_one before q key leave w is stay more opened of) =
    goes_one (xs ++ before) q key leave w (ap (λ zs. xs ++ zs) is ∙ sym (append_assoc xs before (send T (rec.Reconf q key) ∷ go q ∷ leave)))
    (stay_append xs before first stay) more opened of

-- ---- the procedures

preparing_stays : (p : Plan) → Stay (preparing p)
preparing_stays p = elim (cases_Bool (moves_here p)) [ inl yes' ↦ rw yes' (tt, tt) | inr no' ↦ rw no' tt ]

leave_is : (how : Leaving) (p : Plan) → is_order (leave_record how p) ≡ false
leave_is by_request p = refl
leave_is by_change_confirm p = refl
leave_is by_release_confirm p = refl

leave_goes : (x : Option Node) (how : Option Leaving) (p : Plan) → AllByRecursion IsFarewell (leave_acts x how p)
leave_goes None how p = tt
leave_goes (Some x) None p = tt
leave_goes (Some x) (Some how) p = (leave_is how p, tt)

goes_go : (D : Plan → Type 0) (m : MasterProc) (c : Change) (w : Way) → D c.plan → GoesBy D (goes m c w)
goes_go D m c w of = goes_one [] c.plan _ (leave_acts w.leaving w.told c.plan) _ refl tt (leave_goes w.leaving w.told c.plan) refl of

first_is : (roots : List (List ℕ)) (f : First) (c : Change) → is_order (first_record roots f c) ≡ false
first_is roots addition c = refl
first_is roots modification c = refl
first_is roots release c = refl

begins_by_goes : (m : MasterProc) (d : Draft) (wanted : Bool) (o : Option (First × Node)) → GoesBy Any (begins_by m d wanted o)
begins_by_goes m d wanted None = goes_go Any m d.change alone tt
begins_by_goes m d wanted (Some (first, who)) = goes_none (first_is m.table.book.roots first d.change, tt)

begins_goes : (m : MasterProc) (d : Draft) (wanted : Bool) → GoesBy Any (begins m d wanted)
begins_goes m d wanted =
    let r = begins_by (drawn m d) d wanted d.first in goes_before Any r.0 (preparing d.change.plan) r.1 (preparing_stays d.change.plan)
    (begins_by_goes (drawn m d) d wanted d.first)

begins_if_goes : (m : MasterProc) (wanted : Bool) (o : Option Draft) → GoesBy Any (begins_if m wanted o)
begins_if_goes m wanted None = goes_none tt
begins_if_goes m wanted (Some d) = begins_goes m d wanted

-- ---- a release

lets_go_goes : (m : MasterProc) (x : Node) (d : Draft) → DropsNone d.change.plan → GoesBy DropsNone (lets_go m x d)
lets_go_goes m x d none =
    let r = goes (drawn m d) d.change (let_go x) in
    goes_before DropsNone r.0 (say (note.Begin want.Release) ∷ preparing d.change.plan) r.1 (refl, preparing_stays d.change.plan)
    (goes_go DropsNone (drawn m d) d.change (let_go x) none)

-- no plan of a release drops a bearer
abbrev KeepsAll : Option Draft → Type 0
KeepsAll None = ⊤
KeepsAll (Some d) = DropsNone d.change.plan

sets_keep : (root : ℕ) (key : KeyName) (shape : Row → Shape) (rows : List Row) (id : ℕ) → list_any (unsets id) (map (set_to root key shape) rows) ≡ false
sets_keep root key shape [] id = refl
sets_keep root key shape (r ∷ rows) id = sets_keep root key shape rows id

release_keeps : (t : Table) → KeepsAll (draft t event.Release)
release_keeps t id = sets_keep t.book.current t.second_key (λ r. mm) (shared_rows t) id

releases_goes : (m : MasterProc) (x : Node) (spent : Bool) (o : Option Draft) → KeepsAll o → GoesBy DropsNone (releases_if m x spent o)
releases_goes m x spent None keeps = goes_none tt
releases_goes m x true (Some d) keeps = goes_none tt
releases_goes m x false (Some d) keeps = lets_go_goes (with_waits false x m) x d keeps

tries_now_goes : (m : MasterProc) (x : Node) (is : Bool) → GoesBy DropsNone (tries_now m x is)
tries_now_goes m x true = releases_goes m x (is_release_spent m.table (draft m.table event.Release)) (draft m.table event.Release) (release_keeps m.table)
tries_now_goes m x false = goes_none (refl, tt)

tries_if_goes : (m : MasterProc) (x : Node) (waits : Bool) (o : Option Command) → GoesBy DropsNone (tries_if m x waits o)
tries_if_goes m x false o = goes_none tt
tries_if_goes m x true None = tries_now_goes m x (is_at x m.table.sec)
tries_if_goes m x true (Some (asked c first who wanted)) = goes_none tt
tries_if_goes m x true (Some (gone plan going)) = goes_none tt
tries_if_goes m x true (Some (recovering id terminal second)) = goes_none tt

tries_goes : (x : Node) (m : MasterProc) → GoesBy DropsNone (tries x m)
tries_goes x m = tries_if_goes m x (waits_at m x) m.command

-- while a plan is carried out none is tried
tries_later : (m : MasterProc) (x : Node) (waits : Bool) (o : Option Command) (q : Plan) (w : Going) → o ≡ Some (gone q w) → tries_if m x waits o ≡ (m, [])
tries_later m x waits o q w is = ap (tries_if m x waits) is ∙ by waits
  where
    by : (b : Bool) → tries_if m x b (Some (gone q w)) ≡ (m, [])
    by true = refl
    by false = refl

then_goes : (r : MasterActs) (x : Node) → GoesBy DropsNone r → GoesBy DropsNone (and_then r (tries x))
then_goes r x (goes_none stay) = let s = tries x r.0 in goes_before DropsNone s.0 r.1 s.1 stay (tries_goes x r.0)
then_goes r x (goes_one before q key leave w is stay more opened of) =
    subst (λ (s : MasterActs). GoesBy DropsNone (before_acts r.1 s)) (sym (tries_later r.0 x (waits_at r.0 x) r.0.command q w opened))
    (goes_one before q key leave w (append-nil r.1 ∙ is) stay more opened of)

retries_goes : (m : MasterProc) → GoesBy DropsNone (retries m)
retries_goes m = let x = tried_first m.table.sec in then_goes (tries x m) (other_second x) (tries_goes x m)

ends_goes : (m : MasterProc) (acts : List Act) (n : Note) → Stay acts → is_of_anchor n ≡ false → GoesBy DropsNone (ends m acts n)
ends_goes m acts n stay is =
    let r = retries (record m { command = None }) in goes_before DropsNone r.0 (acts ++ say n ∷ []) r.1 (stay_append acts (say n ∷ []) stay (is, tt))
    (retries_goes (record m { command = None }))

forgetting_stays : (x : Option Node) (g : ℕ) → Stay (forgetting x g)
forgetting_stays None g = tt
forgetting_stays (Some x) g = (refl, tt)

ends_gone_goes : (m : MasterProc) (p : Plan) (w : Going) (complete : Bool) (moving : List (ℕ × Node)) → GoesBy DropsNone (ends_gone m p w complete moving)
ends_gone_goes m p w false moving = goes_none tt
ends_gone_goes m p w true (x ∷ xs) = goes_none tt
ends_gone_goes m p w true [] = ends_goes m (forgetting w.leaving p.g) note.Done (forgetting_stays w.leaving p.g) refl

ends_recovering_goes : (m : MasterProc) (terminal : Bool) (second : Option Node) → GoesBy DropsNone (ends_recovering m terminal second)
ends_recovering_goes m false None = ends_goes m [] note.Done tt refl
ends_recovering_goes m false (Some x) = goes_none tt
ends_recovering_goes m true second = goes_none tt

ends_if_goes : (m : MasterProc) (o : Option Command) → GoesBy DropsNone (ends_if m o)
ends_if_goes m None = goes_none tt
ends_if_goes m (Some (asked c first who wanted)) = goes_none tt
ends_if_goes m (Some (gone plan going)) = ends_gone_goes m plan going going.complete going.moving
ends_if_goes m (Some (recovering id terminal second)) = ends_recovering_goes m terminal second

waits_goes : (m : MasterProc) (c : Command) → GoesBy DropsNone (waits_for m c)
waits_goes m c = ends_if_goes (record m { command = Some c }) (Some c)

any_waits : (m : MasterProc) (c : Command) → GoesBy Any (waits_for m c)
any_waits m c = any_goes DropsNone (waits_for m c) (waits_goes m c)

-- the master's own anchor adopted a bearer
pub adopted_goes : (m : MasterProc) (id : ℕ) → GoesBy DropsNone (master_adopted m id)
adopted_goes m id = by m.command
  where
    by : (o : Option Command) → GoesBy DropsNone (adopted_here id m o)
    by None = goes_none tt
    by (Some (asked c first who wanted)) = goes_none tt
    by (Some (gone p w)) = waits_goes m (gone p (record w { moving = filter (λ y. not (is_moving id M y)) w.moving }))
    by (Some (recovering i terminal second)) = goes_none tt

-- ---- records

agreed_if_goes : (k : RecKind) (m : MasterProc) (c : Change) (f : First) (who : Node) (wanted is : Bool) → TakesGoes Any (agreed_if k m c f who wanted is)
agreed_if_goes k m c f who wanted true = goes_go Any m c (way f who wanted m.table.sec) tt
agreed_if_goes k m c f who wanted false = tt

agreed_goes : (k : RecKind) (f : First) (from : Node) (g : ℕ) (m : MasterProc) (o : Option Command) → TakesGoes Any (agreed k f from g m o)
agreed_goes k f from g m None = tt
agreed_goes k f from g m (Some (asked c first who wanted)) = agreed_if_goes k m c first who wanted (is_answer f from g first who c.plan.g)
agreed_goes k f from g m (Some (gone plan going)) = tt
agreed_goes k f from g m (Some (recovering id terminal second)) = tt

released_goes : (r : Result MasterActs ProcFault) (m : MasterProc) → TakesGoes Any r → TakesGoes Any (released r m)
released_goes (Ok r) m is = is
released_goes (Err why) m is = goes_none tt

rejecting_stays : (f : First) (who : Node) (wanted : Bool) → Stay (rejecting f who wanted)
rejecting_stays addition who false = tt
rejecting_stays modification who false = tt
rejecting_stays release who false = tt
rejecting_stays addition who true = (refl, tt)
rejecting_stays modification who true = (refl, tt)
rejecting_stays release who true = tt

rejected_if_goes : (k : RecKind) (m : MasterProc) (f : First) (who : Node) (wanted is : Bool) → TakesGoes Any (rejected_if k m f who wanted is)
rejected_if_goes k m f who wanted true = any_goes DropsNone _ (ends_goes m (rejecting f who wanted) note.Rejected (rejecting_stays f who wanted) refl)
rejected_if_goes k m f who wanted false = tt

rejected_goes : (k : RecKind) (f : First) (from : Node) (g : ℕ) (m : MasterProc) (o : Option Command) → TakesGoes Any (rejected k f from g m o)
rejected_goes k f from g m None = tt
rejected_goes k f from g m (Some (asked c first who wanted)) = rejected_if_goes k m first who wanted (is_answer f from g first who c.plan.g)
rejected_goes k f from g m (Some (gone plan going)) = tt
rejected_goes k f from g m (Some (recovering id terminal second)) = tt

completing_stays : (x : Option Node) (confirms : Bool) (g : ℕ) → Stay (completing x confirms g)
completing_stays None confirms g = tt
completing_stays (Some x) true g = (refl, tt)
completing_stays (Some x) false g = (refl, tt)

completed_if_goes : (m : MasterProc) (p : Plan) (w : Going) (is : Bool) → TakesGoes Any (completed_if m p w is)
completed_if_goes m p w true =
    let r = waits_for m (gone p (record w { complete = true })) in
    goes_before Any r.0 (completing w.due w.confirms p.g ++ unlock_all p.g ∷ []) r.1
    (stay_append (completing w.due w.confirms p.g) (unlock_all p.g ∷ []) (completing_stays w.due w.confirms p.g) (tt, tt))
    (any_waits m (gone p (record w { complete = true })))
completed_if_goes m p w false = tt

completed_goes : (g : ℕ) (m : MasterProc) (o : Option Command) → TakesGoes Any (completed g m o)
completed_goes g m None = tt
completed_goes g m (Some (asked c first who wanted)) = tt
completed_goes g m (Some (gone p w)) = completed_if_goes m p w ((p.g == g) && not w.complete)
completed_goes g m (Some (recovering id terminal second)) = tt

failing_at_stays : (id g : ℕ) (x : Node) → Stay (failing_at id g x)
failing_at_stays id g M = (tt, tt)
failing_at_stays id g A = (refl, tt)
failing_at_stays id g B = (refl, tt)
failing_at_stays id g T = tt

failing_stays : (id g : ℕ) (o : Option Row) → Stay (failing id g o)
failing_stays id g None = tt
failing_stays id g (Some r) = elim (cases_Bool (r.g == g)) [ inl yes' ↦ rw yes' (failing_at_stays id g r.anchor) | inr no' ↦ rw no' tt ]

failed_stays : (m : MasterProc) (pairs : List (ℕ × ℕ)) → Stay (failed_legs m pairs).1
failed_stays m [] = tt
failed_stays m (x ∷ pairs) = stay_append (failing x.0 x.1 (row m.table x.0)) (failed_legs m pairs).1 (failing_stays x.0 x.1 (row m.table x.0))
    (failed_stays m pairs)

recovered_there_goes : (m : MasterProc) (id : ℕ) (second : Option Node) (is : Bool) → TakesGoes Any (recovered_there m id second is)
recovered_there_goes m id second true = any_waits m (recovering id false second)
recovered_there_goes m id second false = tt

recovered_second_goes : (m : MasterProc) (id : ℕ) (terminal is : Bool) → TakesGoes Any (recovered_second m id terminal is)
recovered_second_goes m id terminal true = any_waits m (recovering id terminal None)
recovered_second_goes m id terminal false = tt

recovered_at_goes : (x : Node) (m : MasterProc) (id : ℕ) (terminal : Bool) (second : Option Node) (same : Bool)
    → TakesGoes Any (recovered_at x m id terminal second same)
recovered_at_goes T m id terminal second same = recovered_there_goes m id second (terminal && same)
recovered_at_goes A m id terminal second same = recovered_second_goes m id terminal (is_at A second && same)
recovered_at_goes B m id terminal second same = recovered_second_goes m id terminal (is_at B second && same)
recovered_at_goes M m id terminal second same = tt

recovered_goes : (from : Node) (id : ℕ) (m : MasterProc) (o : Option Command) → TakesGoes Any (recovered from id m o)
recovered_goes from id m None = tt
recovered_goes from id m (Some (asked c first who wanted)) = tt
recovered_goes from id m (Some (gone plan going)) = tt
recovered_goes from id m (Some (recovering i terminal second)) = recovered_at_goes from m i terminal second (i == id)

adopted_if_goes : (k : RecKind) (m : MasterProc) (id : ℕ) (x : Node) (p : Plan) (w : Going) (is : Bool) → TakesGoes Any (adopted_if k m id x p w is)
adopted_if_goes k m id x p w true = any_waits m (gone p (record w { moving = filter (λ y. not (is_moving id x y)) w.moving }))
adopted_if_goes k m id x p w false = tt

moved_goes : (from : Node) (g id : ℕ) (m : MasterProc) (o : Option Command) → TakesGoes Any (moved from g id m o)
moved_goes from g id m None = tt
moved_goes from g id m (Some (asked c first who wanted)) = tt
moved_goes from g id m (Some (gone p w)) = adopted_if_goes kind.Moved m id from p w ((p.g == g) && list_any (is_moving id from) w.moving)
moved_goes from g id m (Some (recovering i terminal second)) = tt

-- of what is taken of a record; or it is a status transfer, for the master's own anchor
pub data Taken (from : Node) (m : MasterProc) (r : Rec) : Result MasterActs ProcFault → Type 0 where
  taken_goes : (x : Result MasterActs ProcFault) → (goes' : TakesGoes Any x) → Taken from m r x
  taken_pass : (st : StatusTransfer) → (second : is_secondary from ≡ true) → (is : r ≡ rec.Snst st) → Taken from m r (Ok (m, pass st ∷ []))

passed_goes : (m : MasterProc) (s : StatusTransfer) (from : Node) → is_secondary from ≡ true → (o : Option (ℕ × Node))
    → Taken from m (rec.Snst s) (passed_to m s from o)
passed_goes m s from second None = taken_goes _ tt
passed_goes m s from second (Some (id, M)) = taken_pass s second refl
passed_goes m s from second (Some (id, A)) = taken_goes _
    (elim (cases_Bool (is_same_node from A)) [ inl yes' ↦ rw yes' tt | inr no' ↦ rw no' (goes_none (refl, tt)) ])
passed_goes m s from second (Some (id, B)) = taken_goes _
    (elim (cases_Bool (is_same_node from B)) [ inl yes' ↦ rw yes' tt | inr no' ↦ rw no' (goes_none (refl, tt)) ])
passed_goes m s from second (Some (id, T)) = taken_goes _ tt

transferred_goes : (from : Node) → is_secondary from ≡ true → (s : StatusTransfer) (m : MasterProc) (o : Option Command)
    → Taken from m (rec.Snst s) (transferred from s m o)
transferred_goes from second s m None = taken_goes _ tt
transferred_goes from second s m (Some (asked c first who wanted)) = taken_goes _ tt
transferred_goes from second s m (Some (gone p w)) = passed_goes m s from second (if p.g == s.g then find (λ (x : ℕ × Node). x.0 == s.id) w.moving else None)
transferred_goes from second s m (Some (recovering i terminal other)) = taken_goes _ tt

asked_goes : (m : MasterProc) (from : Node) (what : Want) (e : Event) (refuse : Word → Rec) (o : Option Word) → ((w : Word) → is_order (refuse w) ≡ false)
    → GoesBy Any (begins_asked m from what e refuse o)
asked_goes m from what e refuse (Some why) none = goes_none (none why, tt)
asked_goes m from what e refuse None none =
    let r = begins_if m true (draft m.table e) in goes_before Any r.0 (say (note.Begin what) ∷ []) r.1 (refl, tt) (begins_if_goes m true (draft m.table e))

wanted_goes : (from : Node) (w : Want) (m : MasterProc) → GoesBy Any (wanted_by from w m)
wanted_goes from want.Rekey m = asked_goes m from want.Rekey event.RekeySecond (λ w. rec.Modref w) (asking_refusal from m) (λ w. refl)
wanted_goes from want.Change m = asked_goes m from want.Change event.Change (λ w. rec.Chgref w) (asking_refusal from m) (λ w. refl)
wanted_goes from want.Release m = any_goes DropsNone _ (tries_goes from (with_waits true from m))

second_goes : (x : Node) → is_secondary x ≡ true → (m : MasterProc) (r : Rec) → Taken x m r (from_second x m r)
second_goes x second m (rec.Addack g) = taken_goes _ (agreed_goes kind.Addack addition x g m m.command)
second_goes x second m (rec.Modack g) = taken_goes _ (agreed_goes kind.Modack modification x g m m.command)
second_goes x second m (rec.Relack g) = taken_goes _
    (released_goes (agreed kind.Relack release x g m m.command) m (agreed_goes kind.Relack release x g m m.command))
second_goes x second m (rec.Addrej g) = taken_goes _ (rejected_goes kind.Addrej addition x g m m.command)
second_goes x second m (rec.Modrej g) = taken_goes _ (rejected_goes kind.Modrej modification x g m m.command)
second_goes x second m (rec.Relrej g) = taken_goes _ (rejected_goes kind.Relrej release x g m m.command)
second_goes x second m (rec.Snst status) = transferred_goes x second status m m.command
second_goes x second m (rec.Moved g id) = taken_goes _ (moved_goes x g id m m.command)
second_goes x second m (rec.Recovd id) = taken_goes _ (recovered_goes x id m m.command)
second_goes x second m rec.Modrqd = taken_goes _ (wanted_goes x want.Rekey m)
second_goes x second m rec.Chgrqd = taken_goes _ (wanted_goes x want.Change m)
second_goes x second m rec.Relrqd = taken_goes _ (wanted_goes x want.Release m)
second_goes x second m r = taken_goes _ tt

terminal_goes : (m : MasterProc) (r : Rec) → TakesGoes Any (from_terminal m r)
terminal_goes m (rec.Rcomp g) = completed_goes g m m.command
terminal_goes m (rec.Scgf failed) = goes_none (failed_stays m failed)
terminal_goes m (rec.Recovd id) = recovered_goes T id m m.command
terminal_goes m r = tt

-- a record
pub take_goes : (from : Node) (m : MasterProc) (r : Rec) → Taken from m r (master_take from m r)
take_goes T m r = taken_goes _ (terminal_goes m r)
take_goes A m r = second_goes A refl m r
take_goes B m r = second_goes B refl m r
take_goes M m r = taken_goes _ tt

-- ---- commands

recovers_at_stays : (m : MasterProc) (id : ℕ) (x : Node) → Stay (recovers_at m id x).1
recovers_at_stays m id M = (refl, (tt, tt))
recovers_at_stays m id A = (refl, (refl, tt))
recovers_at_stays m id B = (refl, (refl, tt))
recovers_at_stays m id T = tt

recovers_row_goes : (m : MasterProc) (id : ℕ) (o : Option Row) → GoesBy Any (recovers_row m id o)
recovers_row_goes m id None = goes_none tt
recovers_row_goes m id (Some r) = goes_none (recovers_at_stays m id r.anchor)

command_by_goes : (m : MasterProc) (e : Event) (o : Option ℕ) → GoesBy Any (command_by m e o)
command_by_goes m e None = begins_if_goes m false (draft m.table e)
command_by_goes m e (Some id) = recovers_row_goes m id (row m.table id)

-- an event
pub commands_goes : (m : MasterProc) (e : Event) → GoesBy Any (commands m e)
commands_goes m e = command_by_goes m e (recovered_by e)
