-- The plans that the master's procedures have it carry out are of generations that ascend, and what they pass on is small.
use Rattle.std.proofs.lemmas.Bool.{cases_Bool, eqb-true}
use Rattle.std.proofs.Common.{ℕ, ◌≡◌, ◌≤◌, ◌+◌, ◌++◌, ◌==◌, ◌&&◌, true, false, Bool, List, [], ◌∷◌, Option, Some, None, Result, Ok, Err, refl, sym, ap, subst, ◌∙◌, inl, inr, arith}
use Rattle.std.specs.Prelude.{filter, find, if◌then◌else◌, is_some, not, ⊤, ◌<◌, ◌^◌}
use Rattle.std.specs.List.{AllByRecursion, list_any}
use Rattle.dc_base.specs.Nodes.{is_same_node, is_secondary}
use Rattle.dc_base.specs.declared.answers.Refusal.{Refusal}
use Rattle.dc_base.specs.declared.answers.Refusal.TheVariants as refusal
use Rattle.dc_base.specs.declared.answers.Word.{Word}
use Rattle.dc_base.specs.declared.answers.Word.TheVariants as word
use Rattle.dc_base.specs.declared.events.Event.{Event}
use Rattle.dc_base.specs.declared.events.Event.TheVariants as event
use Rattle.dc_base.specs.declared.events.Note.{Note}
use Rattle.dc_base.specs.declared.events.Note.TheVariants as note
use Rattle.dc_base.specs.declared.nodes.Node.{Node}
use Rattle.dc_base.specs.declared.nodes.Node.TheVariants.{A, B, M, T}
use Rattle.dc_base.specs.declared.nodes.Want.{Want}
use Rattle.dc_base.specs.declared.nodes.Want.TheVariants as want
use Rattle.dc_base.specs.declared.records.Plan.{Plan}
use Rattle.dc_base.specs.declared.records.Rec.{Rec}
use Rattle.dc_base.specs.declared.records.Rec.TheVariants as rec
use Rattle.dc_base.specs.declared.records.RecKind.{RecKind}
use Rattle.dc_base.specs.declared.records.RecKind.TheVariants as kind
use Rattle.dc_base.specs.declared.records.StatusTransfer.{StatusTransfer}
use Rattle.transcript.proofs.OnEach.{each_append}
use Rattle.node_rules.specs.Acts.{ProcFault, first_refusal, unexpected}
use Rattle.node_rules.specs.CommandTable.{Table, is_counter_spent, row}
use Rattle.node_rules.specs.Drafts.{Draft, draft}
use Rattle.node_rules.specs.MasterCommands.{command_refusals, commands, commands_unless, master_command, recovers_at, recovers_row}
use Rattle.node_rules.specs.MasterEnds.{ends, ends_gone, ends_recovering, forgetting, is_release_spent, releases_if, retries, tried_first, tries, tries_if, tries_now, waits_for}
use Rattle.node_rules.specs.MasterGo.{alone, begins, begins_by, begins_if, drawn, first_record, goes, leave_acts, leave_record, let_go, lets_go, moves_here, preparing, way}
use Rattle.node_rules.specs.MasterRecords.{adopted_if, agreed, agreed_if, asking_refusal, begins_asked, completed, completed_if, completing, failed_legs, failing, failing_at, is_answer, is_moving, moved, passed_to, recovered, recovered_at, recovered_second, recovered_there, rejected, rejected_if, rejecting, released, transferred, wanted_by}
use Rattle.node_rules.specs.MasterState.{MasterActs, MasterProc, waits_at, with_waits}
use Rattle.node_rules.specs.MasterTaking.{adopted_here, from_second, from_terminal, master_adopted, master_take}
use Rattle.node_rules.specs.Places.{is_at, other_second}
use Rattle.node_rules.specs.declared.acts.Act.{Act}
use Rattle.node_rules.specs.declared.acts.Act.TheVariants.{FailOne as fail_one, Go as go, Pass as pass, Prepare as prepare, RecoverOne as recover_one, Say as say, Send as send, UnlockAll as unlock_all}
use Rattle.node_rules.specs.declared.commands.Change.{Change}
use Rattle.node_rules.specs.declared.commands.Command.{Command}
use Rattle.node_rules.specs.declared.commands.Command.TheVariants.{Asked as asked, Gone as gone, Recovering as recovering}
use Rattle.node_rules.specs.declared.commands.First.{First}
use Rattle.node_rules.specs.declared.commands.First.TheVariants.{Addition as addition, Modification as modification, Release as release}
use Rattle.node_rules.specs.declared.commands.Going.{Going}
use Rattle.node_rules.specs.declared.commands.Leaving.{Leaving}
use Rattle.node_rules.specs.declared.commands.Leaving.TheVariants.{ByChangeConfirm as by_change_confirm, ByReleaseConfirm as by_release_confirm, ByRequest as by_request}
use Rattle.node_rules.specs.declared.commands.Row.{Row}
use Rattle.node_rules.specs.declared.commands.Way.{Way}
use Rattle.run_control.proofs.Sent.{either}
use Rattle.run_control.specs.Sound.{IsSound, IsSoundCommand}
use Rattle.run_table.specs.SameTable.{FitsOpen}
use Rattle.run_generations.specs.Newer.{fresh_by}
use Rattle.run_generations.proofs.Telling.{waits_fresh}
use Rattle.run_confirmed.specs.Flights.{IsSmallStatus}
use Rattle.run_confirmed.specs.Masters.{next_of}

module _ (past : ℕ) where
  -- ---- acts

  -- acts carry out plans of generations that ascend, from this one on and below that one; a status transfer has a COUNT of 32 bits, and one that
  -- is taken is of an earlier generation than this
  abbrev pub MayGo : ℕ → List Act → ℕ → Type 0
  MayGo from [] below = from ≤ below
  MayGo from (send to r ∷ acts) below = IsSmallStatus r × MayGo from acts below
  MayGo from (prepare p ∷ acts) below = (from ≤ p.g) × MayGo from acts below
  MayGo from (go p ∷ acts) below = (from ≤ p.g) × MayGo (p.g + 1) acts below
  MayGo from (unlock_all g ∷ acts) below = MayGo from acts below
  MayGo from (say n ∷ acts) below = MayGo from acts below
  MayGo from (recover_one id ∷ acts) below = MayGo from acts below
  MayGo from (fail_one id g ∷ acts) below = MayGo from acts below
  MayGo from (pass status ∷ acts) below = (status.dl < 2 ^ 32) × (status.g + 1 ≤ past) × MayGo from acts below

  -- an act is of no plan
  abbrev IsIdle : Act → Type 0
  IsIdle (send to r) = IsSmallStatus r
  IsIdle (prepare p) = ⊥
  IsIdle (go p) = ⊥
  IsIdle (unlock_all g) = ⊤
  IsIdle (say n) = ⊤
  IsIdle (recover_one id) = ⊤
  IsIdle (fail_one id g) = ⊤
  IsIdle (pass status) = ⊥

  abbrev AreIdle : List Act → Type 0
  AreIdle acts = AllByRecursion IsIdle acts

  -- idle acts change nothing of it
  idle_before : (i j : ℕ) (xs ys : List Act) → AreIdle xs → MayGo i ys j → MayGo i (xs ++ ys) j
  idle_before i j [] ys idle may = may
  idle_before i j (send to r ∷ xs) ys idle may = (idle.0, idle_before i j xs ys idle.1 may)
  idle_before i j (prepare p ∷ xs) ys idle may = absurd idle.0
  idle_before i j (go p ∷ xs) ys idle may = absurd idle.0
  idle_before i j (unlock_all g ∷ xs) ys idle may = idle_before i j xs ys idle.1 may
  idle_before i j (say n ∷ xs) ys idle may = idle_before i j xs ys idle.1 may
  idle_before i j (recover_one id ∷ xs) ys idle may = idle_before i j xs ys idle.1 may
  idle_before i j (fail_one id g ∷ xs) ys idle may = idle_before i j xs ys idle.1 may
  idle_before i j (pass status ∷ xs) ys idle may = absurd idle.0

  idle_go : (i j : ℕ) (xs : List Act) → AreIdle xs → i ≤ j → MayGo i xs j
  idle_go i j [] idle le = le
  idle_go i j (send to r ∷ xs) idle le = (idle.0, idle_go i j xs idle.1 le)
  idle_go i j (prepare p ∷ xs) idle le = absurd idle.0
  idle_go i j (go p ∷ xs) idle le = absurd idle.0
  idle_go i j (unlock_all g ∷ xs) idle le = idle_go i j xs idle.1 le
  idle_go i j (say n ∷ xs) idle le = idle_go i j xs idle.1 le
  idle_go i j (recover_one id ∷ xs) idle le = idle_go i j xs idle.1 le
  idle_go i j (fail_one id g ∷ xs) idle le = idle_go i j xs idle.1 le
  idle_go i j (pass status ∷ xs) idle le = absurd idle.0

  go_lower : (i j k : ℕ) (xs : List Act) → i ≤ j → MayGo j xs k → MayGo i xs k
  go_lower i j k [] le may = omega (arith, le, may)
  go_lower i j k (send to r ∷ xs) le may = (may.0, go_lower i j k xs le may.1)
  go_lower i j k (prepare p ∷ xs) le may = (let first = may.0 in omega (arith, le, first), go_lower i j k xs le may.1)
  go_lower i j k (go p ∷ xs) le may = (let first = may.0 in omega (arith, le, first), may.1)
  go_lower i j k (unlock_all g ∷ xs) le may = go_lower i j k xs le may
  go_lower i j k (say n ∷ xs) le may = go_lower i j k xs le may
  go_lower i j k (recover_one id ∷ xs) le may = go_lower i j k xs le may
  go_lower i j k (fail_one id g ∷ xs) le may = go_lower i j k xs le may
  go_lower i j k (pass status ∷ xs) le may = (may.0, may.1, go_lower i j k xs le may.2)

  go_append : (i j k : ℕ) (xs ys : List Act) → MayGo i xs j → MayGo j ys k → MayGo i (xs ++ ys) k
  go_append i j k [] ys first then' = go_lower i j k ys first then'
  go_append i j k (send to r ∷ xs) ys first then' = (first.0, go_append i j k xs ys first.1 then')
  go_append i j k (prepare p ∷ xs) ys first then' = (first.0, go_append i j k xs ys first.1 then')
  go_append i j k (go p ∷ xs) ys first then' = (first.0, go_append (p.g + 1) j k xs ys first.1 then')
  go_append i j k (unlock_all g ∷ xs) ys first then' = go_append i j k xs ys first then'
  go_append i j k (say n ∷ xs) ys first then' = go_append i j k xs ys first then'
  go_append i j k (recover_one id ∷ xs) ys first then' = go_append i j k xs ys first then'
  go_append i j k (fail_one id g ∷ xs) ys first then' = go_append i j k xs ys first then'
  go_append i j k (pass status ∷ xs) ys first then' = (first.0, first.1, go_append i j k xs ys first.2 then')

  -- a step of the procedures does so, from this generation on
  abbrev pub GoesOn : ℕ → MasterActs → Type 0
  GoesOn from r = MayGo from r.1 (next_of r.0)

  -- where it is taken
  abbrev pub TakesOn : ℕ → Result MasterActs ProcFault → Type 0
  TakesOn from (Ok r) = GoesOn from r
  TakesOn from (Err why) = ⊤

  -- ---- a plan is carried out

  leave_small : (how : Leaving) (p : Plan) → IsSmallStatus (leave_record how p)
  leave_small by_request p = tt
  leave_small by_change_confirm p = tt
  leave_small by_release_confirm p = tt

  leave_idle : (x : Option Node) (how : Option Leaving) (p : Plan) → AreIdle (leave_acts x how p)
  leave_idle None how p = tt
  leave_idle (Some x) None p = tt
  leave_idle (Some x) (Some how) p = (leave_small how p, tt)

  goes_on : (i : ℕ) (m : MasterProc) (c : Change) (w : Way) → c.plan.g ≡ m.table.last → i ≤ c.plan.g → GoesOn i (goes m c w)
  goes_on i m c w same le = (tt, (le, idle_go (c.plan.g + 1) (m.table.last + 1) (leave_acts w.leaving w.told c.plan) (leave_idle w.leaving w.told c.plan) (omega (arith, same))))

  prepares_on : (i j : ℕ) (p : Plan) (xs : List Act) → i ≤ p.g → MayGo i xs j → MayGo i (preparing p ++ xs) j
  prepares_on i j p xs le may = either (λ acts. MayGo i (acts ++ xs) j) (moves_here p) (prepare p ∷ []) [] (le, may) may

  -- what may be carried out next is at least the last
  at_least : (last : ℕ) (c : Option Command) → last ≤ fresh_by T last c
  at_least last None = omega arith
  at_least last (Some (asked c first who wanted)) = either (λ k. last ≤ k) (is_same_node T who) (last + 1) last (omega arith) (omega arith)
  at_least last (Some (gone plan going)) = omega arith
  at_least last (Some (recovering id terminal second)) = omega arith

  -- and at most the one behind it
  at_most : (last : ℕ) (c : Option Command) → fresh_by T last c ≤ last + 1
  at_most last None = omega arith
  at_most last (Some (asked c first who wanted)) = either (λ k. k ≤ last + 1) (is_same_node T who) (last + 1) last (omega arith) (omega arith)
  at_most last (Some (gone plan going)) = omega arith
  at_most last (Some (recovering id terminal second)) = omega arith

  first_small : (roots : List (List ℕ)) (first : First) (c : Change) → IsSmallStatus (first_record roots first c)
  first_small roots addition c = tt
  first_small roots modification c = tt
  first_small roots release c = tt

  begins_by_on : (m : MasterProc) (d : Draft) (wanted : Bool) (o : Option (First × Node)) → d.change.plan.g ≡ m.table.last + 1
      → GoesOn (m.table.last + 1) (begins_by (drawn m d) d wanted o)
  begins_by_on m d wanted None next = goes_on (m.table.last + 1) (drawn m d) d.change alone refl (omega (arith, next))
  begins_by_on m d wanted (Some (first, who)) next =
      let least = at_least d.change.plan.g (Some (asked d.change first who wanted)) in (first_small d.book.roots first d.change, omega (arith, next, least))

  begins_on : (m : MasterProc) (d : Draft) (wanted : Bool) → d.change.plan.g ≡ m.table.last + 1 → GoesOn (m.table.last + 1) (begins m d wanted)
  begins_on m d wanted next =
      let r = begins_by (drawn m d) d wanted d.first in
      prepares_on (m.table.last + 1) (next_of r.0) d.change.plan r.1 (omega (arith, next)) (begins_by_on m d wanted d.first next)

  -- a draft has the next generation
  abbrev IsNext : Table → Option Draft → Type 0
  IsNext t None = ⊤
  IsNext t (Some d) = d.change.plan.g ≡ t.last + 1

  draft_next : (t : Table) (e : Event) → IsNext t (draft t e)
  draft_next t (event.Bearer id n first shape threshold policy) = refl
  draft_next t (event.Reshape id shape) = refl
  draft_next t (event.Remove id) = refl
  draft_next t (event.Add node) = refl
  draft_next t event.Change = refl
  draft_next t event.Release = refl
  draft_next t event.RekeySecond = refl
  draft_next t (event.RekeyMaster root) = refl
  draft_next t (event.Recover id) = tt
  draft_next t (event.Report node id) = tt
  draft_next t (event.Deny node on) = tt
  draft_next t (event.Ask node what) = tt
  draft_next t event.ScgFail = tt
  draft_next t (event.Submit id d payload) = tt
  draft_next t (event.Step l i) = tt
  draft_next t (event.Lose l i) = tt
  draft_next t (event.Again l i) = tt

  -- with no command open
  free_on : (m : MasterProc) → m.command ≡ None → GoesOn (m.table.last + 1) (m, [])
  free_on m free = subst (λ c. m.table.last + 1 ≤ fresh_by T m.table.last c) (sym free) (omega arith)

  begins_if_on : (m : MasterProc) (wanted : Bool) (o : Option Draft) → IsNext m.table o → m.command ≡ None → GoesOn (m.table.last + 1) (begins_if m wanted o)
  begins_if_on m wanted None next free = free_on m free
  begins_if_on m wanted (Some d) next free = begins_on m d wanted next

  lets_go_on : (m : MasterProc) (x : Node) (d : Draft) → d.change.plan.g ≡ m.table.last + 1 → GoesOn (m.table.last + 1) (lets_go m x d)
  lets_go_on m x d next =
      let r = goes (drawn m d) d.change (let_go x) in
      prepares_on (m.table.last + 1) (next_of r.0) d.change.plan r.1 (omega (arith, next)) (goes_on (m.table.last + 1) (drawn m d) d.change (let_go x) refl (omega (arith, next)))

  -- ---- releases that wait

  waits_last : (b : Bool) (x : Node) (m : MasterProc) → (with_waits b x m).table.last ≡ m.table.last
  waits_last b A m = refl
  waits_last b B m = refl
  waits_last b M m = refl
  waits_last b T m = refl

  releases_on : (m : MasterProc) (x : Node) (spent : Bool) (o : Option Draft) → IsNext m.table o → m.command ≡ None → GoesOn (m.table.last + 1) (releases_if m x spent o)
  releases_on m x spent None next free = free_on m free
  releases_on m x true (Some d) next free = free_on m free
  releases_on m x false (Some d) next free =
      let k = with_waits false x m in
      let r = lets_go k x d in
      go_lower (m.table.last + 1) (k.table.last + 1) (next_of r.0) r.1 (omega (arith, waits_last false x m)) (lets_go_on k x d (next ∙ ap (λ j. j + 1) (sym (waits_last false x m))))

  tries_now_on : (m : MasterProc) (x : Node) (there : Bool) → m.command ≡ None → GoesOn (m.table.last + 1) (tries_now m x there)
  tries_now_on m x true free = releases_on m x (is_release_spent m.table (draft m.table event.Release)) (draft m.table event.Release) (draft_next m.table event.Release) free
  tries_now_on m x false free = (tt, subst (λ k. m.table.last + 1 ≤ k) (sym (waits_fresh T false x m)) (free_on m free))

  tries_if_on : (m : MasterProc) (x : Node) (waits : Bool) (c : Option Command) → m.command ≡ c → GoesOn (fresh_by T m.table.last c) (tries_if m x waits c)
  tries_if_on m x false c is = subst (λ d. fresh_by T m.table.last c ≤ fresh_by T m.table.last d) (sym is) (omega arith)
  tries_if_on m x true None is = tries_now_on m x (is_at x m.table.sec) is
  tries_if_on m x true (Some (asked c first who wanted)) is =
      subst (λ d. fresh_by T m.table.last (Some (asked c first who wanted)) ≤ fresh_by T m.table.last d) (sym is) (omega arith)
  tries_if_on m x true (Some (gone plan going)) is = subst (λ d. m.table.last + 1 ≤ fresh_by T m.table.last d) (sym is) (omega arith)
  tries_if_on m x true (Some (recovering id terminal second)) is = subst (λ d. m.table.last + 1 ≤ fresh_by T m.table.last d) (sym is) (omega arith)

  tries_on : (x : Node) (m : MasterProc) → GoesOn (next_of m) (tries x m)
  tries_on x m = tries_if_on m x (waits_at m x) m.command refl

  retries_on : (m : MasterProc) → GoesOn (next_of m) (retries m)
  retries_on m =
      let x = tried_first m.table.sec in
      let first = tries x m in
      let then' = tries (other_second x) first.0 in
      go_append (next_of m) (next_of first.0) (next_of then'.0) first.1 then'.1 (tries_on x m) (tries_on (other_second x) first.0)

  -- ---- a command ends

  ends_on : (m : MasterProc) (acts : List Act) (how : Note) → AreIdle acts → GoesOn (m.table.last + 1) (ends m acts how)
  ends_on m acts how idle =
      let k : MasterProc = record m { command = None } in
      let r = retries k in
      idle_before (m.table.last + 1) (next_of r.0) (acts ++ say how ∷ []) r.1 (each_append IsIdle acts (say how ∷ []) idle (tt, tt)) (retries_on k)

  forgetting_idle : (x : Option Node) (g : ℕ) → AreIdle (forgetting x g)
  forgetting_idle None g = tt
  forgetting_idle (Some x) g = (tt, tt)

  ends_gone_on : (m : MasterProc) (p : Plan) (w v : Going) (complete : Bool) (moving : List (ℕ × Node))
      → GoesOn (m.table.last + 1) (ends_gone (record m { command = Some (gone p v) }) p w complete moving)
  ends_gone_on m p w v false moving = omega arith
  ends_gone_on m p w v true (x ∷ xs) = omega arith
  ends_gone_on m p w v true [] = ends_on (record m { command = Some (gone p v) }) (forgetting w.leaving p.g) note.Done (forgetting_idle w.leaving p.g)

  ends_recovering_on : (m : MasterProc) (id : ℕ) (terminal t : Bool) (second s : Option Node)
      → GoesOn (m.table.last + 1) (ends_recovering (record m { command = Some (recovering id t s) }) terminal second)
  ends_recovering_on m id false t None s = ends_on (record m { command = Some (recovering id t s) }) [] note.Done tt
  ends_recovering_on m id false t (Some x) s = omega arith
  ends_recovering_on m id true t second s = omega arith

  gone_on : (m : MasterProc) (p : Plan) (w : Going) → GoesOn (m.table.last + 1) (waits_for m (gone p w))
  gone_on m p w = ends_gone_on m p w w w.complete w.moving

  recovering_on : (m : MasterProc) (id : ℕ) (terminal : Bool) (second : Option Node) → GoesOn (m.table.last + 1) (waits_for m (recovering id terminal second))
  recovering_on m id terminal second = ends_recovering_on m id terminal terminal second second

  -- ---- records

  no_terminal : (x : Node) → is_secondary x ≡ true → is_same_node T x ≡ false
  no_terminal T is = absurd (let bad : false ≡ true = is in cc)
  no_terminal M is = refl
  no_terminal A is = refl
  no_terminal B is = refl

  agreed_on : (k : RecKind) (f : First) (from : Node) (g : ℕ) (m : MasterProc) (c : Option Command) → IsSoundCommand c → FitsOpen m.table c
      → TakesOn (fresh_by T m.table.last c) (agreed k f from g m c)
  agreed_on k f from g m None sound drawn' = tt
  agreed_on k f from g m (Some (asked c first who wanted)) sound drawn' = by (is_answer f from g first who c.plan.g)
    where
      low : (if is_same_node T who then m.table.last + 1 else m.table.last) ≤ c.plan.g
      low = subst (λ b. (if b then m.table.last + 1 else m.table.last) ≤ c.plan.g) (sym (no_terminal who sound.1)) (let same = drawn'.last in omega (arith, same))

      by : (b : Bool) → TakesOn (fresh_by T m.table.last (Some (asked c first who wanted))) (agreed_if k m c first who wanted b)
      by true = goes_on (fresh_by T m.table.last (Some (asked c first who wanted))) m c (way first who wanted m.table.sec) drawn'.last low
      by false = tt
  agreed_on k f from g m (Some (gone plan going)) sound drawn' = tt
  agreed_on k f from g m (Some (recovering id terminal second)) sound drawn' = tt

  released_on : (r : Result MasterActs ProcFault) (m : MasterProc) → TakesOn (next_of m) r → TakesOn (next_of m) (released r m)
  released_on (Ok r) m is = is
  released_on (Err why) m is = omega arith

  rejecting_idle : (first : First) (who : Node) (wanted : Bool) → AreIdle (rejecting first who wanted)
  rejecting_idle first who false = tt
  rejecting_idle addition who true = (tt, tt)
  rejecting_idle modification who true = (tt, tt)
  rejecting_idle release who true = tt

  rejected_on : (k : RecKind) (f : First) (from : Node) (g : ℕ) (m : MasterProc) (c : Option Command) → TakesOn (fresh_by T m.table.last c) (rejected k f from g m c)
  rejected_on k f from g m None = tt
  rejected_on k f from g m (Some (asked c first who wanted)) = by (is_answer f from g first who c.plan.g)
    where
      by : (b : Bool) → TakesOn (fresh_by T m.table.last (Some (asked c first who wanted))) (rejected_if k m first who wanted b)
      by true =
          let r = ends m (rejecting first who wanted) note.Rejected in
          go_lower (fresh_by T m.table.last (Some (asked c first who wanted))) (m.table.last + 1) (next_of r.0) r.1 (at_most m.table.last (Some (asked c first who wanted)))
          (ends_on m (rejecting first who wanted) note.Rejected (rejecting_idle first who wanted))
      by false = tt
  rejected_on k f from g m (Some (gone plan going)) = tt
  rejected_on k f from g m (Some (recovering id terminal second)) = tt

  completing_idle : (x : Option Node) (confirms : Bool) (g : ℕ) → AreIdle (completing x confirms g)
  completing_idle None confirms g = tt
  completing_idle (Some x) true g = (tt, tt)
  completing_idle (Some x) false g = (tt, tt)

  completed_on : (g : ℕ) (m : MasterProc) (c : Option Command) → TakesOn (fresh_by T m.table.last c) (completed g m c)
  completed_on g m None = tt
  completed_on g m (Some (asked c first who wanted)) = tt
  completed_on g m (Some (gone p w)) = by ((p.g == g) && not w.complete)
    where
      by : (b : Bool) → TakesOn (m.table.last + 1) (completed_if m p w b)
      by true =
          let r = waits_for m (gone p (record w { complete = true })) in
          idle_before (m.table.last + 1) (next_of r.0) (completing w.due w.confirms p.g ++ unlock_all p.g ∷ []) r.1 (each_append IsIdle (completing w.due w.confirms p.g) (unlock_all p.g ∷ []) (completing_idle w.due w.confirms p.g) (tt, tt))
          (gone_on m p (record w { complete = true }))
      by false = tt
  completed_on g m (Some (recovering id terminal second)) = tt

  failing_at_idle : (id g : ℕ) (x : Node) → AreIdle (failing_at id g x)
  failing_at_idle id g M = (tt, tt)
  failing_at_idle id g A = (tt, tt)
  failing_at_idle id g B = (tt, tt)
  failing_at_idle id g T = tt

  failing_idle : (id g : ℕ) (o : Option Row) → AreIdle (failing id g o)
  failing_idle id g None = tt
  failing_idle id g (Some r) = either AreIdle (r.g == g) (failing_at id g r.anchor) [] (failing_at_idle id g r.anchor) tt

  failed_idle : (m : MasterProc) (pairs : List (ℕ × ℕ)) → AreIdle (failed_legs m pairs).1
  failed_idle m [] = tt
  failed_idle m (x ∷ pairs) = each_append IsIdle (failing x.0 x.1 (row m.table x.0)) (failed_legs m pairs).1 (failing_idle x.0 x.1 (row m.table x.0)) (failed_idle m pairs)

  recovered_on : (x : Node) (id : ℕ) (m : MasterProc) (c : Option Command) → TakesOn (fresh_by T m.table.last c) (recovered x id m c)
  recovered_on x id m None = tt
  recovered_on x id m (Some (asked c first who wanted)) = tt
  recovered_on x id m (Some (gone plan going)) = tt
  recovered_on x id m (Some (recovering i terminal second)) = by x (i == id)
    where
      there : (b : Bool) → TakesOn (m.table.last + 1) (recovered_there m i second b)
      there true = recovering_on m i false second
      there false = tt

      at_second : (b : Bool) → TakesOn (m.table.last + 1) (recovered_second m i terminal b)
      at_second true = recovering_on m i terminal None
      at_second false = tt

      by : (x : Node) (same : Bool) → TakesOn (m.table.last + 1) (recovered_at x m i terminal second same)
      by T same = there (terminal && same)
      by A same = at_second (is_at A second && same)
      by B same = at_second (is_at B second && same)
      by M same = tt

  moved_on : (from : Node) (g id : ℕ) (m : MasterProc) (c : Option Command) → TakesOn (fresh_by T m.table.last c) (moved from g id m c)
  moved_on from g id m None = tt
  moved_on from g id m (Some (asked c first who wanted)) = tt
  moved_on from g id m (Some (gone p w)) = by ((p.g == g) && list_any (is_moving id from) w.moving)
    where
      by : (b : Bool) → TakesOn (m.table.last + 1) (adopted_if kind.Moved m id from p w b)
      by true = gone_on m p (record w { moving = filter (λ z. not (is_moving id from z)) w.moving })
      by false = tt
  moved_on from g id m (Some (recovering i terminal second)) = tt

  passed_on : (m : MasterProc) (s : StatusTransfer) (from : Node) (o : Option (ℕ × Node)) → s.dl < 2 ^ 32 → s.g + 1 ≤ past → TakesOn (next_of m) (passed_to m s from o)
  passed_on m s from None small old = tt
  passed_on m s from (Some (id, M)) small old = (small, old, omega arith)
  passed_on m s from (Some (id, A)) small old =
      either (TakesOn (next_of m)) (is_same_node from A) (Err (unexpected kind.Snst)) (Ok (m, send A (rec.Snst s) ∷ [])) tt (small, omega arith)
  passed_on m s from (Some (id, B)) small old =
      either (TakesOn (next_of m)) (is_same_node from B) (Err (unexpected kind.Snst)) (Ok (m, send B (rec.Snst s) ∷ [])) tt (small, omega arith)
  passed_on m s from (Some (id, T)) small old = tt

  -- a plan that was carried out is of an earlier generation
  abbrev pub IsPast : Option Command → Type 0
  IsPast None = ⊤
  IsPast (Some (asked c first who wanted)) = ⊤
  IsPast (Some (gone p w)) = p.g + 1 ≤ past
  IsPast (Some (recovering id terminal second)) = ⊤

  transferred_on : (from : Node) (s : StatusTransfer) (m : MasterProc) (c : Option Command) → s.dl < 2 ^ 32 → IsPast c → TakesOn (next_of m) (transferred from s m c)
  transferred_on from s m None small old = tt
  transferred_on from s m (Some (asked c first who wanted)) small old = tt
  transferred_on from s m (Some (gone p w)) small old =
      elim (cases_Bool (p.g == s.g)) [
        | inl same ↦ rw same (passed_on m s from (find (λ (x : ℕ × Node). x.0 == s.id) w.moving) small (subst (λ (g : ℕ). g + 1 ≤ past) (eqb-true p.g s.g same) old))
        | inr other ↦ rw other tt
      ]
  transferred_on from s m (Some (recovering i terminal second)) small old = tt

  -- ---- what a secondary node asks for

  none_open : (c : Option Command) → is_some c ≡ false → c ≡ None
  none_open None none = refl
  none_open (Some c) none = absurd (let bad : true ≡ false = none in cc)

  free_if : {X : Type 0} (a b d : Bool) (u v w : X) → (if a then Some u else if b then Some v else if d then Some w else None) ≡ None → b ≡ false
  free_if true b d u v w is = absurd cc
  free_if false true d u v w is = absurd cc
  free_if false false d u v w is = refl

  asked_on : (m : MasterProc) (from : Node) (what : Want) (e : Event) (refuse : Word → Rec) (o : Option Word) → asking_refusal from m ≡ o
      → ((why : Word) → IsSmallStatus (refuse why))
      → GoesOn (next_of m) (begins_asked m from what e refuse o)
  asked_on m from what e refuse (Some why) is small = (small why, omega arith)
  asked_on m from what e refuse None is small =
      let free = none_open m.command (free_if (not (is_at from m.table.sec)) (is_some m.command) (is_counter_spent m.table) word.NoSecondary word.Busy word.CounterSpent is) in
      let r = begins_if m true (draft m.table e) in
      go_lower (next_of m) (m.table.last + 1) (next_of r.0) r.1 (at_most m.table.last m.command) (begins_if_on m true (draft m.table e) (draft_next m.table e) free)

  wanted_on : (from : Node) (what : Want) (m : MasterProc) → GoesOn (next_of m) (wanted_by from what m)
  wanted_on from want.Rekey m = asked_on m from want.Rekey event.RekeySecond (λ w. rec.Modref w) (asking_refusal from m) refl (λ why. tt)
  wanted_on from want.Change m = asked_on m from want.Change event.Change (λ w. rec.Chgref w) (asking_refusal from m) refl (λ why. tt)
  wanted_on from want.Release m =
      let k = with_waits true from m in
      let r = tries from k in
      go_lower (next_of m) (next_of k) (next_of r.0) r.1 (subst (λ j. next_of m ≤ j) (sym (waits_fresh T true from m)) (omega arith)) (tries_on from k)

  -- ---- any record

  second_on : (x : Node) (m : MasterProc) (r : Rec) → IsSound m → FitsOpen m.table m.command → IsPast m.command → IsSmallStatus r → TakesOn (next_of m) (from_second x m r)
  second_on x m (rec.Addack g) sound drawn' old small = agreed_on kind.Addack addition x g m m.command sound.command drawn'
  second_on x m (rec.Modack g) sound drawn' old small = agreed_on kind.Modack modification x g m m.command sound.command drawn'
  second_on x m (rec.Relack g) sound drawn' old small =
      released_on (agreed kind.Relack release x g m m.command) m (agreed_on kind.Relack release x g m m.command sound.command drawn')
  second_on x m (rec.Addrej g) sound drawn' old small = rejected_on kind.Addrej addition x g m m.command
  second_on x m (rec.Modrej g) sound drawn' old small = rejected_on kind.Modrej modification x g m m.command
  second_on x m (rec.Relrej g) sound drawn' old small = rejected_on kind.Relrej release x g m m.command
  second_on x m (rec.Snst status) sound drawn' old small = transferred_on x status m m.command small old
  second_on x m (rec.Moved g id) sound drawn' old small = moved_on x g id m m.command
  second_on x m (rec.Recovd id) sound drawn' old small = recovered_on x id m m.command
  second_on x m rec.Modrqd sound drawn' old small = wanted_on x want.Rekey m
  second_on x m rec.Chgrqd sound drawn' old small = wanted_on x want.Change m
  second_on x m rec.Relrqd sound drawn' old small = wanted_on x want.Release m
  second_on x m (rec.Reconf plan key) sound drawn' old small = tt
  second_on x m (rec.Rcomp g) sound drawn' old small = tt
  second_on x m (rec.Scgf failed) sound drawn' old small = tt
  second_on x m (rec.Recov id) sound drawn' old small = tt
  second_on x m (rec.Addreq plan key) sound drawn' old small = tt
  second_on x m (rec.Modreq plan key) sound drawn' old small = tt
  second_on x m (rec.Recfg g) sound drawn' old small = tt
  second_on x m (rec.Relreq plan) sound drawn' old small = tt
  second_on x m (rec.Uecr g) sound drawn' old small = tt
  second_on x m (rec.Scgn id g) sound drawn' old small = tt
  second_on x m (rec.Modcnf g) sound drawn' old small = tt
  second_on x m (rec.Modref w) sound drawn' old small = tt
  second_on x m (rec.Chgcnf plan) sound drawn' old small = tt
  second_on x m (rec.Chgref w) sound drawn' old small = tt
  second_on x m (rec.Relcnf plan) sound drawn' old small = tt

  terminal_on : (m : MasterProc) (r : Rec) → TakesOn (next_of m) (from_terminal m r)
  terminal_on m (rec.Rcomp g) = completed_on g m m.command
  terminal_on m (rec.Scgf failed) = idle_go (next_of m) (next_of m) (failed_legs m failed).1 (failed_idle m failed) (omega arith)
  terminal_on m (rec.Recovd id) = recovered_on T id m m.command
  terminal_on m (rec.Reconf plan key) = tt
  terminal_on m (rec.Recov id) = tt
  terminal_on m (rec.Addreq plan key) = tt
  terminal_on m (rec.Addack g) = tt
  terminal_on m (rec.Addrej g) = tt
  terminal_on m (rec.Modreq plan key) = tt
  terminal_on m (rec.Modack g) = tt
  terminal_on m (rec.Modrej g) = tt
  terminal_on m (rec.Recfg g) = tt
  terminal_on m (rec.Relreq plan) = tt
  terminal_on m (rec.Relack g) = tt
  terminal_on m (rec.Relrej g) = tt
  terminal_on m (rec.Uecr g) = tt
  terminal_on m (rec.Snst status) = tt
  terminal_on m (rec.Moved g id) = tt
  terminal_on m (rec.Scgn id g) = tt
  terminal_on m rec.Modrqd = tt
  terminal_on m (rec.Modcnf g) = tt
  terminal_on m (rec.Modref w) = tt
  terminal_on m rec.Chgrqd = tt
  terminal_on m (rec.Chgcnf plan) = tt
  terminal_on m (rec.Chgref w) = tt
  terminal_on m rec.Relrqd = tt
  terminal_on m (rec.Relcnf plan) = tt

  -- whatever record comes from whatever node
  pub take_on : (from : Node) (m : MasterProc) (r : Rec) → IsSound m → FitsOpen m.table m.command → IsPast m.command → IsSmallStatus r → TakesOn (next_of m) (master_take from m r)
  take_on T m r sound drawn' old small = terminal_on m r
  take_on A m r sound drawn' old small = second_on A m r sound drawn' old small
  take_on B m r sound drawn' old small = second_on B m r sound drawn' old small
  take_on M m r sound drawn' old small = tt

  -- an adoption
  adopted_on : (id : ℕ) (m : MasterProc) (c : Option Command) → m.command ≡ c → GoesOn (fresh_by T m.table.last c) (adopted_here id m c)
  adopted_on id m None is = subst (λ d. m.table.last + 1 ≤ fresh_by T m.table.last d) (sym is) (omega arith)
  adopted_on id m (Some (asked c first who wanted)) is =
      subst (λ d. fresh_by T m.table.last (Some (asked c first who wanted)) ≤ fresh_by T m.table.last d) (sym is) (omega arith)
  adopted_on id m (Some (gone p w)) is = gone_on m p (record w { moving = filter (λ z. not (is_moving id M z)) w.moving })
  adopted_on id m (Some (recovering i terminal second)) is = subst (λ d. m.table.last + 1 ≤ fresh_by T m.table.last d) (sym is) (omega arith)

  pub adoption_on : (m : MasterProc) (id : ℕ) → GoesOn (next_of m) (master_adopted m id)
  adoption_on m id = adopted_on id m m.command refl

  -- ---- a command

  free_first : (b : Bool) (why : Refusal) (rest : Option Refusal) → (if b then Some why else rest) ≡ None → b ≡ false
  free_first true why rest is = absurd (let bad : Some why ≡ None = is in cc)
  free_first false why rest is = refl

  planned_on : (m : MasterProc) (e : Event) → is_some m.command ≡ false → GoesOn (next_of m) (begins_if m false (draft m.table e))
  planned_on m e free =
      let r = begins_if m false (draft m.table e) in
      go_lower (next_of m) (m.table.last + 1) (next_of r.0) r.1 (at_most m.table.last m.command)
      (begins_if_on m false (draft m.table e) (draft_next m.table e) (none_open m.command free))

  recovers_at_on : (m : MasterProc) (id : ℕ) (x : Node) → GoesOn (next_of m) (recovers_at m id x)
  recovers_at_on m id M = (tt, at_most m.table.last m.command)
  recovers_at_on m id A = (tt, (tt, at_most m.table.last m.command))
  recovers_at_on m id B = (tt, (tt, at_most m.table.last m.command))
  recovers_at_on m id T = omega arith

  recovers_on : (m : MasterProc) (id : ℕ) (o : Option Row) → GoesOn (next_of m) (recovers_row m id o)
  recovers_on m id None = omega arith
  recovers_on m id (Some r) = recovers_at_on m id r.anchor

  -- one that has a plan is refused first of all where one is open
  unless_on : (m : MasterProc) (e : Event) (o : Option Refusal) → (o ≡ None → GoesOn (next_of m) (commands m e)) → TakesOn (next_of m) (commands_unless m e o)
  unless_on m e None so = so refl
  unless_on m e (Some why) so = tt

  commands_on : (m : MasterProc) (e : Event) (rest : Option Refusal) → commands m e ≡ begins_if m false (draft m.table e)
      → TakesOn (next_of m) (commands_unless m e (if is_some m.command then Some refusal.Busy else rest))
  commands_on m e rest same =
      unless_on m e (if is_some m.command then Some refusal.Busy else rest)
      (λ is. subst (GoesOn (next_of m)) (sym same) (planned_on m e (free_first (is_some m.command) refusal.Busy rest is)))

  pub command_on : (policies : ℕ) (m : MasterProc) (e : Event) → TakesOn (next_of m) (master_command policies m e)
  command_on policies m (event.Bearer id n first shape threshold policy) = commands_on m (event.Bearer id n first shape threshold policy) _ refl
  command_on policies m (event.Reshape id shape) = commands_on m (event.Reshape id shape) _ refl
  command_on policies m (event.Remove id) = commands_on m (event.Remove id) _ refl
  command_on policies m (event.Add node) = commands_on m (event.Add node) _ refl
  command_on policies m event.Change = commands_on m event.Change _ refl
  command_on policies m event.Release = commands_on m event.Release _ refl
  command_on policies m event.RekeySecond = commands_on m event.RekeySecond _ refl
  command_on policies m (event.RekeyMaster root) = commands_on m (event.RekeyMaster root) _ refl
  command_on policies m (event.Recover id) =
      unless_on m (event.Recover id) (first_refusal (command_refusals policies m (event.Recover id))) (λ is. recovers_on m id (row m.table id))
  command_on policies m (event.Report node id) = omega arith
  command_on policies m (event.Deny node on) = omega arith
  command_on policies m (event.Ask node what) = omega arith
  command_on policies m event.ScgFail = omega arith
  command_on policies m (event.Submit id d payload) = omega arith
  command_on policies m (event.Step l i) = omega arith
  command_on policies m (event.Lose l i) = omega arith
  command_on policies m (event.Again l i) = omega arith
