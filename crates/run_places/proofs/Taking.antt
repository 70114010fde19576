-- Whatever record the master's procedures take, whatever command, and whatever they hear of an adoption: it is a turn.
use Rattle.std.proofs.Common.{ℕ, ◌≡◌, ◌≤◌, ◌<◌, ◌+◌, ◌==◌, ◌++◌, ◌∙◌, Bool, true, false, List, [], ◌∷◌, Option, Some, None, refl, sym, ap, subst, arith, inl, inr}
use Rattle.std.specs.List.{AllByRecursion, filter, find, flat_map, list_any}
use Rattle.std.specs.Prelude.{Err, Ok, Result, if◌then◌else◌, is_none, is_some, length, map, not, ⊤, ◌&&◌, ◌⊎◌}
use Rattle.std.proofs.lemmas.Bool.{eqb-true}
use Rattle.std.proofs.lemmas.Option.{same_Some}
use Rattle.dc_base.specs.Nodes.{is_mm, is_same_node, is_secondary}
use Rattle.dc_base.specs.Records.{item_id}
use Rattle.dc_base.specs.declared.answers.Refusal.{Refusal}
use Rattle.dc_base.specs.declared.answers.Refusal.TheVariants as refusal
use Rattle.dc_base.specs.declared.answers.Word.{Word}
use Rattle.dc_base.specs.declared.answers.Word.TheVariants as word
use Rattle.dc_base.specs.declared.events.Event.{Event}
use Rattle.dc_base.specs.declared.events.Event.TheVariants as event
use Rattle.dc_base.specs.declared.events.Note.TheVariants as note
use Rattle.dc_base.specs.declared.nodes.Node.{Node}
use Rattle.dc_base.specs.declared.nodes.Node.TheVariants.{A, B, M, T}
use Rattle.dc_base.specs.declared.nodes.Shape.{Shape}
use Rattle.dc_base.specs.declared.nodes.Want.{Want}
use Rattle.dc_base.specs.declared.nodes.Want.TheVariants as want
use Rattle.dc_base.specs.declared.records.Item.{Item}
use Rattle.dc_base.specs.declared.records.Item.TheVariants as item
use Rattle.dc_base.specs.declared.records.Plan.{Plan}
use Rattle.dc_base.specs.declared.records.Rec.{Rec}
use Rattle.dc_base.specs.declared.records.Rec.TheVariants as rec
use Rattle.dc_base.specs.declared.records.RecKind.{RecKind}
use Rattle.dc_base.specs.declared.records.RecKind.TheVariants as kind
use Rattle.node_rules.specs.Acts.{ProcFault, first_refusal}
use Rattle.node_rules.specs.CommandTable.{Table, is_counter_spent, row}
use Rattle.node_rules.specs.Drafts.{Draft, asking, asking_for, draft, next_second, next_second_key, shape_of, second_rows, shared_rows, with_next_key}
use Rattle.node_rules.specs.MasterCommands.{command_refusals, commands, commands_unless, is_alone, master_command, recovers_at, recovers_row}
use Rattle.node_rules.specs.MasterEnds.{tries, tries_if, waits_for}
use Rattle.node_rules.specs.MasterGo.{before_acts, begins_if, way}
use Rattle.node_rules.specs.MasterRecords.{adopted_if, agreed, agreed_if, asking_refusal, begins_asked, completed, completed_if, completing, failed_legs, failing, failing_at, is_answer, is_moving, moved, recovered, recovered_at, recovered_second, recovered_there, rejected, rejected_if, rejecting, released, wanted_by}
use Rattle.node_rules.specs.MasterState.{MasterActs, MasterProc, has_bearer, waits_at, with_waits}
use Rattle.node_rules.specs.MasterTaking.{adopted_here, from_second, from_terminal, master_adopted, master_take}
use Rattle.node_rules.specs.Places.{is_at, mm, other_second}
use Rattle.node_rules.specs.declared.acts.Act.{Act}
use Rattle.node_rules.specs.declared.acts.Act.TheVariants.{RecoverOne as recover_one, Say as say, Send as send, UnlockAll as unlock_all}
use Rattle.node_rules.specs.declared.commands.Change.{Change}
use Rattle.node_rules.specs.declared.commands.Command.{Command}
use Rattle.node_rules.specs.declared.commands.Command.TheVariants.{Asked as asked, Gone as gone, Recovering as recovering}
use Rattle.node_rules.specs.declared.commands.First.{First}
use Rattle.node_rules.specs.declared.commands.First.TheVariants.{Addition as addition, Modification as modification, Release as release}
use Rattle.node_rules.specs.declared.commands.Going.{Going}
use Rattle.node_rules.specs.declared.commands.Row.{Row}
use Rattle.run_control.specs.Sound.{AddsSecond, IsSecond}
use Rattle.run_control.proofs.Sent.{either}
use Rattle.run_control.proofs.Turns.{never}
use Rattle.run_pairs.specs.Apt.{IsApt, IsAptAsked, IsAptCommand, IsAskedAs, IsPlaced, IsPlacedRow}
use Rattle.run_pairs.proofs.DraftBearers.{draft_of_table}
use Rattle.run_pairs.proofs.Placed.{apt_draft}
use Rattle.run_pairs.proofs.Replies.{apart_turned, same_node}
use Rattle.run_places.proofs.Begins.{IsDraftFor, IsReleaseAlone, LeavesWell, Turned, asked_in, begins_turned, goes_turned, rows_planned, said_first, still}
use Rattle.run_places.proofs.Ends.{IsFreeCommand, ends_turned, free_turned, going_turned, recovering_turned, tried_free, waits_command, waits_state}
use Rattle.run_places.proofs.Plans.{found_here}
use Rattle.run_places.proofs.States.{Course, IsMinor, IsPlanFor, State, Turn, carried_out, course_of, is_drop, is_new, is_rejected, item_in, minor, one_then, proposed, row_in, settled, state_of}
use Rattle.run_places.proofs.Turning.{without}

-- what is taken is a turn
abbrev pub TakesTurned : State → Result MasterActs ProcFault → Type 0
TakesTurned s (Ok r) = Turned s r
TakesTurned s (Err why) = ⊤

-- the state with this command
abbrev pub with_command : Bool → MasterProc → Option Command → State
with_command b m o = record { rows = m.table.rows; last = m.table.last; course = course_of b o }

at_command : (b : Bool) (m : MasterProc) (o : Option Command) (t : Result MasterActs ProcFault) → m.command ≡ o → TakesTurned (with_command b m o) t → TakesTurned (state_of b m) t
at_command b m o t at is = subst (λ c. TakesTurned (with_command b m c) t) (sym at) is

-- ---- the answers to a first record

-- the node that leaves is not that of the plan
leaves_well : (first : First) (who : Node) (wanted : Bool) (t : Table) (c : Change) → IsAptAsked t c first who wanted → LeavesWell (way first who wanted t.sec).leaving (way first who wanted t.sec).told c.plan
leaves_well addition who wanted t c apt = by t.sec apt.nodes.2
  where
    by : (o : Option Node) → is_at who o ≡ false → LeavesWell (way addition who wanted o).leaving (way addition who wanted o).told c.plan
    by None apart = tt
    by (Some y) apart = (ap (is_at y) apt.nodes.0 ∙ apart_turned who y apart, apt.items.apart)
leaves_well modification who wanted t c apt = tt
leaves_well release who wanted t c apt = tt

rejecting_minor : (first : First) (who : Node) (wanted : Bool) → AllByRecursion IsMinor (rejecting first who wanted)
rejecting_minor first who false = tt
rejecting_minor addition who true = (tt, tt)
rejecting_minor modification who true = (tt, tt)
rejecting_minor release who true = tt

-- whether it has agreed, by what it answers
abbrev pub IsAnswered : First → Node → ℕ → Bool → Option Command → Type 0
IsAnswered f from g b None = ⊤
IsAnswered f from g b (Some (asked c first who wanted)) = is_answer f from g first who c.plan.g ≡ true → b ≡ true
IsAnswered f from g b (Some (gone p going)) = ⊤
IsAnswered f from g b (Some (recovering id terminal second)) = ⊤

abbrev pub IsRefused : First → Node → ℕ → Bool → Option Command → Type 0
IsRefused f from g b None = ⊤
IsRefused f from g b (Some (asked c first who wanted)) = is_answer f from g first who c.plan.g ≡ true → b ≡ false
IsRefused f from g b (Some (gone p going)) = ⊤
IsRefused f from g b (Some (recovering id terminal second)) = ⊤

module _ (b : Bool) (m : MasterProc) (apt : IsApt m) where
  s : State
  s = state_of b m

  pub agreed_turned : (k : RecKind) (f : First) (from : Node) (g : ℕ) → IsAnswered f from g b m.command → TakesTurned (state_of b m) (agreed k f from g m m.command)
  agreed_turned k f from g sure = by m.command refl apt.command sure
    where
      by : (o : Option Command) → m.command ≡ o → IsAptCommand m.table o → IsAnswered f from g b o → TakesTurned (state_of b m) (agreed k f from g m o)
      by None at is sure = tt
      by (Some (gone p going)) at is sure = tt
      by (Some (recovering id terminal second)) at is sure = tt
      by (Some (asked c first who wanted)) at is sure = at_command b m (Some (asked c first who wanted)) _ at (one (is_answer f from g first who c.plan.g) refl)
        where
          one : (d : Bool) → is_answer f from g first who c.plan.g ≡ d → TakesTurned (with_command b m (Some (asked c first who wanted))) (agreed_if k m c first who wanted d)
          one true answers = record { agreed = false; turn = goes_turned m c (way first who wanted m.table.sec) (Some who) b (inr (sure answers)) (leaves_well first who wanted m.table c is); flag = tt }
          one false other = tt

  pub rejected_turned : (k : RecKind) (f : First) (from : Node) (g : ℕ) → IsRefused f from g b m.command → TakesTurned (state_of b m) (rejected k f from g m m.command)
  rejected_turned k f from g sure = by m.command refl sure
    where
      by : (o : Option Command) → m.command ≡ o → IsRefused f from g b o → TakesTurned (state_of b m) (rejected k f from g m o)
      by None at sure = tt
      by (Some (gone p going)) at sure = tt
      by (Some (recovering id terminal second)) at sure = tt
      by (Some (asked c first who wanted)) at sure = at_command b m (Some (asked c first who wanted)) _ at (one (is_answer f from g first who c.plan.g) refl)
        where
          now : State
          now = with_command b m (Some (asked c first who wanted))

          next : State
          next = with_command false m None

          one : (d : Bool) → is_answer f from g first who c.plan.g ≡ d → TakesTurned now (rejected_if k m first who wanted d)
          one false other = tt
          one true answers =
              free_turned now _
              (ends_turned now m (rejecting first who wanted) note.Rejected apt.up
              (one_then now now next (rejecting first who wanted) (say note.Rejected ∷ []) (minor now (rejecting first who wanted) (rejecting_minor first who wanted))
              (is_rejected now c.plan (Some who) (ap (proposed c.plan (Some who)) (sure answers)))))

  pub released_turned : (t : Result MasterActs ProcFault) → TakesTurned (state_of b m) t → TakesTurned (state_of b m) (released t m)
  released_turned (Ok r) is = is
  released_turned (Err why) is = still b m [] tt

  -- ---- the terminal

  completing_minor : (x : Option Node) (confirms : Bool) (g : ℕ) → AllByRecursion IsMinor (completing x confirms g ++ unlock_all g ∷ [])
  completing_minor None confirms g = (tt, tt)
  completing_minor (Some x) true g = (tt, (tt, tt))
  completing_minor (Some x) false g = (tt, (tt, tt))

  pub completed_turned : (g : ℕ) → TakesTurned (state_of b m) (completed g m m.command)
  completed_turned g = by m.command refl
    where
      by : (o : Option Command) → m.command ≡ o → TakesTurned (state_of b m) (completed g m o)
      by None at = tt
      by (Some (asked c first who wanted)) at = tt
      by (Some (gone p w)) at = at_command b m (Some (gone p w)) _ at (one ((p.g == g) && not w.complete))
        where
          one : (d : Bool) → TakesTurned (with_command b m (Some (gone p w))) (completed_if m p w d)
          one true =
              said_first (with_command b m (Some (gone p w))) (completing w.due w.confirms p.g ++ unlock_all p.g ∷ []) (waits_for m (gone p (record w { complete = true }))) (completing_minor w.due w.confirms p.g)
              (free_turned _ _ (going_turned m p (record w { complete = true }) apt.up))
          one false = tt
      by (Some (recovering id terminal second)) at = tt

  failing_minor : (id g : ℕ) (o : Option Row) → AllByRecursion IsMinor (failing id g o)
  failing_minor id g None = tt
  failing_minor id g (Some r) = either (AllByRecursion IsMinor) (r.g == g) (failing_at id g r.anchor) [] (at_node r.anchor) tt
    where
      at_node : (x : Node) → AllByRecursion IsMinor (failing_at id g x)
      at_node M = (tt, tt)
      at_node A = (tt, tt)
      at_node B = (tt, tt)
      at_node T = tt

  all_append : (xs ys : List Act) → AllByRecursion IsMinor xs → AllByRecursion IsMinor ys → AllByRecursion IsMinor (xs ++ ys)
  all_append [] ys p q = q
  all_append (x ∷ xs) ys p q = (p.0, all_append xs ys p.1 q)

  failed_minor : (pairs : List (ℕ × ℕ)) → AllByRecursion IsMinor (failed_legs m pairs).1
  failed_minor [] = tt
  failed_minor (z ∷ zs) = all_append (failing z.0 z.1 (row m.table z.0)) (failed_legs m zs).1 (failing_minor z.0 z.1 (row m.table z.0)) (failed_minor zs)

  -- ---- recoveries

  pub recovered_turned : (x : Node) (id : ℕ) → TakesTurned (state_of b m) (recovered x id m m.command)
  recovered_turned x id = by m.command refl
    where
      by : (o : Option Command) → m.command ≡ o → TakesTurned (state_of b m) (recovered x id m o)
      by None at = tt
      by (Some (asked c first who wanted)) at = tt
      by (Some (gone p w)) at = tt
      by (Some (recovering i terminal second)) at = at_command b m (Some (recovering i terminal second)) _ at (one x (i == id))
        where
          there : (d : Bool) → TakesTurned (with_command b m (Some (recovering i terminal second))) (recovered_there m i second d)
          there true = free_turned _ _ (recovering_turned m i false second apt.up)
          there false = tt

          at_second : (d : Bool) → TakesTurned (with_command b m (Some (recovering i terminal second))) (recovered_second m i terminal d)
          at_second true = free_turned _ _ (recovering_turned m i terminal None apt.up)
          at_second false = tt

          one : (y : Node) (same : Bool) → TakesTurned (with_command b m (Some (recovering i terminal second))) (recovered_at y m i terminal second same)
          one T same = there (terminal && same)
          one A same = at_second (is_at A second && same)
          one B same = at_second (is_at B second && same)
          one M same = tt

  -- ---- what a secondary node asks for

  pub none_open : (c : Option Command) → is_some c ≡ false → c ≡ None
  none_open None none = refl
  none_open (Some c) none = absurd cc

  -- a plan that the table begins with
  pub plan_begins : (wanted : Bool) (d : Draft) → m.command ≡ None → IsDraftFor m d → IsReleaseAlone d d.first → Turned (state_of b m) (begins_if m wanted (Some d))
  plan_begins wanted d none is lone =
      subst (λ st. Turned st (begins_if m wanted (Some d))) (ap (λ c. record { rows = m.table.rows; last = m.table.last; course = c }) (ap (course_of false) none ∙ sym (ap (course_of b) none)))
      (begins_turned m d wanted (ap (course_of false) none) is lone)

  pub asking_second : (f : First) (o : Option Node) → IsSecond o → IsSecond (asked_in (asking f o))
  asking_second f None is = tt
  asking_second f (Some x) is = is

  pub asking_lone : (f : First) (d : Draft) (o : Option Node) → (f ≡ release → d.change.plan.sec ≡ None) → IsReleaseAlone d (asking f o)
  asking_lone f d None so = tt
  asking_lone f d (Some x) so = so

  no_release : {X : Type 0} → modification ≡ release → X
  no_release e = absurd cc

  no_addition : {X : Type 0} → addition ≡ release → X
  no_addition e = absurd cc

  next_is : (o : Option Node) → IsSecond (next_second o)
  next_is None = tt
  next_is (Some x) = by x
    where
      by : (y : Node) → is_secondary (other_second y) ≡ true
      by T = refl
      by M = refl
      by A = refl
      by B = refl

  pub rekey_turned : (wanted : Bool) → m.command ≡ None → Turned (state_of b m) (begins_if m wanted (draft m.table event.RekeySecond))
  rekey_turned wanted none =
      let t = m.table in
      let d = with_next_key t t.sec (second_rows t) modification in
      plan_begins wanted d none
      (record { plan = rows_planned t.book.current (next_second_key t) (λ r. r.shape) (second_rows t) t.rows (t.last + 1) t.sec (asked_in (asking modification t.sec)) apt.second (asking_second modification t.sec apt.second) (draft_of_table t event.RekeySecond apt.up); fresh = refl })
      (asking_lone modification d t.sec (λ e. no_release e))

  pub change_turned : (wanted : Bool) → m.command ≡ None → Turned (state_of b m) (begins_if m wanted (draft m.table event.Change))
  change_turned wanted none =
      let t = m.table in
      let d = with_next_key t (next_second t.sec) (shared_rows t) addition in
      plan_begins wanted d none
      (record { plan = rows_planned t.book.current (next_second_key t) (λ r. r.shape) (shared_rows t) t.rows (t.last + 1) (next_second t.sec) (asked_in (asking addition (next_second t.sec))) (next_is t.sec) (asking_second addition (next_second t.sec) (next_is t.sec)) (draft_of_table t event.Change apt.up); fresh = refl })
      (asking_lone addition d (next_second t.sec) (λ e. no_addition e))

  free_if : {X : Type 0} (a c d : Bool) (u v w : X) → (if a then Some u else if c then Some v else if d then Some w else None) ≡ None → c ≡ false
  free_if true c d u v w is = absurd cc
  free_if false true d u v w is = absurd cc
  free_if false false d u v w is = refl

  asks_turned : (from : Node) (what : Want) (e : Event) (refuse : Word → Rec) (o : Option Word) → asking_refusal from m ≡ o → ((why : Word) → IsMinor (send from (refuse why))) → (m.command ≡ None → Turned (state_of b m) (begins_if m true (draft m.table e)))
      → Turned (state_of b m) (begins_asked m from what e refuse o)
  asks_turned from what e refuse (Some why) is plain begun = still b m (send from (refuse why) ∷ []) (plain why, tt)
  asks_turned from what e refuse None is plain begun =
      said_first (state_of b m) (say (note.Begin what) ∷ []) (begins_if m true (draft m.table e)) (refl, tt)
      (begun (none_open m.command (free_if (not (is_at from m.table.sec)) (is_some m.command) (is_counter_spent m.table) word.NoSecondary word.Busy word.CounterSpent is)))

  tries_asked : (n : MasterProc) (x : Node) (w : Bool) (o : Option Command) → n.command ≡ o → IsApt n → Turned (state_of b n) (tries_if n x w o)
  tries_asked n x false o at apt' = still b n [] tt
  tries_asked n x true None at apt' =
      subst (λ st. Turned st (tries_if n x true None)) (ap (λ c. record { rows = n.table.rows; last = n.table.last; course = c }) (ap (course_of false) at ∙ sym (ap (course_of b) at)))
      (free_turned (state_of false n) (tries_if n x true None) (tried_free n x true None apt'.up at tt))
  tries_asked n x true (Some (asked c first who wanted)) at apt' = still b n [] tt
  tries_asked n x true (Some (gone p going)) at apt' = still b n [] tt
  tries_asked n x true (Some (recovering id terminal second)) at apt' = still b n [] tt

  waits_up : (w : Bool) (x : Node) → IsApt (with_waits w x m)
  waits_up w T = apt
  waits_up w M = apt
  waits_up w A = record { second = apt.second; rows = apt.rows; up = apt.up; command = apt.command }
  waits_up w B = record { second = apt.second; rows = apt.rows; up = apt.up; command = apt.command }

  pub wanted_turned : (from : Node) (what : Want) → Turned (state_of b m) (wanted_by from what m)
  wanted_turned from want.Rekey = asks_turned from want.Rekey event.RekeySecond (λ w. rec.Modref w) (asking_refusal from m) refl (λ why. tt) (rekey_turned true)
  wanted_turned from want.Change = asks_turned from want.Change event.Change (λ w. rec.Chgref w) (asking_refusal from m) refl (λ why. tt) (change_turned true)
  wanted_turned from want.Release =
      let n = with_waits true from m in
      subst (λ st. Turned st (tries from n)) (waits_state b true from m) (tries_asked n from (waits_at n from) n.command refl (waits_up true from))

  -- ---- a record

  -- of a secondary node, whose answers are as the node agreed; but for what it tells of bearers under way
  abbrev pub AnswersAs : Node → Rec → Type 0
  AnswersAs x (rec.Addack g) = IsAnswered addition x g b m.command
  AnswersAs x (rec.Modack g) = IsAnswered modification x g b m.command
  AnswersAs x (rec.Relack g) = IsAnswered release x g b m.command
  AnswersAs x (rec.Addrej g) = IsRefused addition x g b m.command
  AnswersAs x (rec.Modrej g) = IsRefused modification x g b m.command
  AnswersAs x (rec.Relrej g) = IsRefused release x g b m.command
  AnswersAs x (rec.Snst status) = ⊥
  AnswersAs x (rec.Moved g id) = ⊥
  AnswersAs x _ = ⊤

  pub second_turned : (x : Node) (r : Rec) → AnswersAs x r → TakesTurned (state_of b m) (from_second x m r)
  second_turned x (rec.Addack g) sure = agreed_turned kind.Addack addition x g sure
  second_turned x (rec.Modack g) sure = agreed_turned kind.Modack modification x g sure
  second_turned x (rec.Relack g) sure = released_turned (agreed kind.Relack release x g m m.command) (agreed_turned kind.Relack release x g sure)
  second_turned x (rec.Addrej g) sure = rejected_turned kind.Addrej addition x g sure
  second_turned x (rec.Modrej g) sure = rejected_turned kind.Modrej modification x g sure
  second_turned x (rec.Relrej g) sure = rejected_turned kind.Relrej release x g sure
  second_turned x (rec.Snst status) sure = absurd sure
  second_turned x (rec.Moved g id) sure = absurd sure
  second_turned x (rec.Recovd id) sure = recovered_turned x id
  second_turned x rec.Modrqd sure = wanted_turned x want.Rekey
  second_turned x rec.Chgrqd sure = wanted_turned x want.Change
  second_turned x rec.Relrqd sure = wanted_turned x want.Release
  second_turned x (rec.Reconf plan key) sure = tt
  second_turned x (rec.Rcomp g) sure = tt
  second_turned x (rec.Scgf failed) sure = tt
  second_turned x (rec.Recov id) sure = tt
  second_turned x (rec.Addreq plan key) sure = tt
  second_turned x (rec.Modreq plan key) sure = tt
  second_turned x (rec.Recfg g) sure = tt
  second_turned x (rec.Relreq plan) sure = tt
  second_turned x (rec.Uecr g) sure = tt
  second_turned x (rec.Scgn id g) sure = tt
  second_turned x (rec.Modcnf g) sure = tt
  second_turned x (rec.Modref word) sure = tt
  second_turned x (rec.Chgcnf plan) sure = tt
  second_turned x (rec.Chgref word) sure = tt
  second_turned x (rec.Relcnf plan) sure = tt

  terminal_turned : (r : Rec) → TakesTurned (state_of b m) (from_terminal m r)
  terminal_turned (rec.Rcomp g) = completed_turned g
  terminal_turned (rec.Scgf failed) = still b m (failed_legs m failed).1 (failed_minor failed)
  terminal_turned (rec.Recovd id) = recovered_turned T id
  terminal_turned (rec.Reconf plan key) = tt
  terminal_turned (rec.Recov id) = tt
  terminal_turned (rec.Addreq plan key) = tt
  terminal_turned (rec.Addack g) = tt
  terminal_turned (rec.Addrej g) = tt
  terminal_turned (rec.Modreq plan key) = tt
  terminal_turned (rec.Modack g) = tt
  terminal_turned (rec.Modrej g) = tt
  terminal_turned (rec.Recfg g) = tt
  terminal_turned (rec.Relreq plan) = tt
  terminal_turned (rec.Relack g) = tt
  terminal_turned (rec.Relrej g) = tt
  terminal_turned (rec.Uecr g) = tt
  terminal_turned (rec.Snst status) = tt
  terminal_turned (rec.Moved g id) = tt
  terminal_turned (rec.Scgn id g) = tt
  terminal_turned rec.Modrqd = tt
  terminal_turned (rec.Modcnf g) = tt
  terminal_turned (rec.Modref word) = tt
  terminal_turned rec.Chgrqd = tt
  terminal_turned (rec.Chgcnf plan) = tt
  terminal_turned (rec.Chgref word) = tt
  terminal_turned rec.Relrqd = tt
  terminal_turned (rec.Relcnf plan) = tt

  -- of any node
  abbrev pub AnswersFrom : Node → Rec → Type 0
  AnswersFrom T r = ⊤
  AnswersFrom M r = ⊤
  AnswersFrom A r = AnswersAs A r
  AnswersFrom B r = AnswersAs B r

  pub take_turned : (from : Node) (r : Rec) → AnswersFrom from r → TakesTurned (state_of b m) (master_take from m r)
  take_turned T r sure = terminal_turned r
  take_turned M r sure = tt
  take_turned A r sure = second_turned A r sure
  take_turned B r sure = second_turned B r sure

-- ---- a bearer is adopted

-- what the procedures hear of, by a secondary node
pub moved_turned : (b : Bool) (m : MasterProc) (apt : IsApt m) (from : Node) (id : ℕ) (p : Plan) (w : Going) (r : MasterActs) → m.command ≡ Some (gone p w) → adopted_if kind.Moved m id from p w true ≡ Ok r
    → Turned (record { rows = m.table.rows; last = m.table.last; course = carried_out p (without id from w.moving) }) r
moved_turned b m apt from id p w r at is =
    subst (TakesTurned (record { rows = m.table.rows; last = m.table.last; course = carried_out p (without id from w.moving) })) is (free_turned _ _ (going_turned m p (record w { moving = without id from w.moving }) apt.up))

-- by the master's own anchor
pub adoption_turned : (m : MasterProc) (apt : IsApt m) (id : ℕ) (p : Plan) (w : Going) → m.command ≡ Some (gone p w) → Turned (record { rows = m.table.rows; last = m.table.last; course = carried_out p (without id M w.moving) }) (master_adopted m id)
adoption_turned m apt id p w at =
    subst (λ o. Turned (record { rows = m.table.rows; last = m.table.last; course = carried_out p (without id M w.moving) }) (adopted_here id m o)) (sym at)
    (free_turned _ _ (going_turned m p (record w { moving = without id M w.moving }) apt.up))
