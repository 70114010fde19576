-- Each plan in what the master's procedures have it do is one that the terminal is told in the same step, or the one that is asked for.
use Rattle.std.proofs.Common.{ℕ, ◌≡◌, ◌++◌, ◌==◌, ◌&&◌, Bool, true, false, List, [], ◌∷◌, Option, Some, None, refl, sym, subst, inl, inr, ◌⊎◌}
use Rattle.std.specs.Prelude.{Err, Ok, Result, filter, find, if◌then◌else◌, not, ⊤}
use Rattle.std.specs.List.{AllByRecursion, list_any}
use Rattle.dc_base.specs.Nodes.{is_same_node}
use Rattle.dc_base.specs.declared.events.Event.{Event}
use Rattle.dc_base.specs.declared.events.Event.TheVariants as event
use Rattle.dc_base.specs.declared.events.Note.{Note}
use Rattle.dc_base.specs.declared.events.Note.TheVariants as note
use Rattle.dc_base.specs.declared.nodes.Node.{Node}
use Rattle.dc_base.specs.declared.nodes.Node.TheVariants.{A, B, M, T}
use Rattle.dc_base.specs.declared.nodes.Want.{Want}
use Rattle.dc_base.specs.declared.nodes.Want.TheVariants as want
use Rattle.dc_base.specs.declared.answers.Word.{Word}
use Rattle.dc_base.specs.declared.records.Plan.{Plan}
use Rattle.dc_base.specs.declared.records.Rec.{Rec}
use Rattle.dc_base.specs.declared.records.Rec.TheVariants as rec
use Rattle.dc_base.specs.declared.records.RecKind.{RecKind}
use Rattle.dc_base.specs.declared.records.StatusTransfer.{StatusTransfer}
use Rattle.transcript.proofs.OnEach.{each_append, each_weaker}
use Rattle.std.proofs.lemmas.List.{append-nil}
use Rattle.claims.specs.Planned.{plan_in}
use Rattle.node_rules.specs.Acts.{ProcFault}
use Rattle.node_rules.specs.CommandTable.{row}
use Rattle.node_rules.specs.Drafts.{Draft, draft}
use Rattle.node_rules.specs.MasterCommands.{command_by, commands, recovered_by, recovers_at, recovers_row}
use Rattle.node_rules.specs.MasterEnds.{ends, ends_gone, ends_if, ends_recovering, forgetting, is_release_spent, releases_if, retries, tried_first, tries, tries_if, tries_now, waits_for}
use Rattle.node_rules.specs.MasterGo.{alone, before_acts, begins_by, begins_if, drawn, first_record, goes, leave_acts, leave_record, let_go, lets_go, preparing, moves_here, way}
use Rattle.node_rules.specs.MasterRecords.{adopted_if, agreed, agreed_if, asking_refusal, begins_asked, completed, completed_if, completing, failed_legs, failing, failing_at, is_answer, is_moving, moved, passed_to, recovered, recovered_at, recovered_second, recovered_there, rejected, rejected_if, rejecting, released, transferred, wanted_by}
use Rattle.node_rules.specs.MasterState.{MasterActs, MasterProc, waits_at, with_waits}
use Rattle.node_rules.specs.MasterTaking.{adopted_here, from_second, from_terminal, master_adopted, master_take}
use Rattle.node_rules.specs.Places.{is_at, other_second}
use Rattle.node_rules.specs.declared.acts.Act.{Act}
use Rattle.node_rules.specs.declared.acts.Act.TheVariants.{FailOne as fail_one, Go as go, Pass as pass, Prepare as prepare, RecoverOne as recover_one, Say as say, Send as send, UnlockAll as unlock_all}
use Rattle.node_rules.specs.declared.commands.Change.{Change}
use Rattle.node_rules.specs.declared.commands.Command.{Command}
use Rattle.node_rules.specs.declared.commands.Command.TheVariants.{Asked as asked, Gone as gone, Recovering as recovering}
use Rattle.node_rules.specs.declared.commands.First.{First}
use Rattle.node_rules.specs.declared.commands.First.TheVariants.{Addition as addition, Modification as modification, Release as release}
use Rattle.node_rules.specs.declared.commands.Going.{Going}
use Rattle.node_rules.specs.declared.commands.Leaving.{Leaving}
use Rattle.node_rules.specs.declared.commands.Leaving.TheVariants.{ByRequest as by_request, ByChangeConfirm as by_change_confirm, ByReleaseConfirm as by_release_confirm}
use Rattle.node_rules.specs.declared.commands.Row.{Row}
use Rattle.node_rules.specs.declared.commands.Way.{Way}
use Rattle.run_control.proofs.Sent.{either}
use Rattle.run_words.proofs.Lines.{each_flat}
use Rattle.run_relays.specs.Setups.{no_release}

-- ---- the plan that the terminal is told

-- the act tells the terminal this plan
abbrev pub Orders : Plan → Act → Type 0
Orders p (send T (rec.Reconf q key)) = q ≡ p
Orders p _ = ⊥

-- one of them does
abbrev pub HasOrder : Plan → List Act → Type 0
HasOrder p [] = ⊥
HasOrder p (a ∷ acts) = Orders p a ⊎ HasOrder p acts

order_behind : (p : Plan) (xs acts : List Act) → HasOrder p acts → HasOrder p (xs ++ acts)
order_behind p [] acts has = has
order_behind p (x ∷ xs) acts has = inr (order_behind p xs acts has)

order_before : (p : Plan) (acts ys : List Act) → HasOrder p acts → HasOrder p (acts ++ ys)
order_before p [] ys has = absurd has
order_before p (a ∷ acts) ys has = elim has [ inl here ↦ inl here | inr there ↦ inr (order_before p acts ys there) ]

-- the plan of a record is told, or is the one with which the record says that there is nothing to release
abbrev pub PlanTold : List Act → Rec → Option Plan → Type 0
PlanTold all r None = ⊤
PlanTold all r (Some p) = HasOrder p all ⊎ ((p ≡ no_release) × (r ≡ rec.Relcnf p))

-- each plan of an act is
abbrev pub IsOrdered : List Act → Act → Type 0
IsOrdered all (send to r) = PlanTold all r (plan_in r)
IsOrdered all (prepare p) = HasOrder p all
IsOrdered all (go p) = HasOrder p all
IsOrdered all (unlock_all g) = ⊤
IsOrdered all (say n) = ⊤
IsOrdered all (recover_one id) = ⊤
IsOrdered all (fail_one id g) = ⊤
IsOrdered all (pass st) = ⊤

abbrev pub AreOrdered : List Act → Type 0
AreOrdered acts = AllByRecursion (IsOrdered acts) acts

-- where more is done before or after it
told_more : (xs all ys : List Act) (r : Rec) (o : Option Plan) → PlanTold all r o → PlanTold (xs ++ (all ++ ys)) r o
told_more xs all ys r None is = tt
told_more xs all ys r (Some p) is = elim is [ inl has ↦ inl (order_behind p xs (all ++ ys) (order_before p all ys has)) | inr none ↦ inr none ]

ordered_more : (xs all ys : List Act) (a : Act) → IsOrdered all a → IsOrdered (xs ++ (all ++ ys)) a
ordered_more xs all ys (send to r) is = told_more xs all ys r (plan_in r) is
ordered_more xs all ys (prepare p) is = order_behind p xs (all ++ ys) (order_before p all ys is)
ordered_more xs all ys (go p) is = order_behind p xs (all ++ ys) (order_before p all ys is)
ordered_more xs all ys (unlock_all g) is = tt
ordered_more xs all ys (say n) is = tt
ordered_more xs all ys (recover_one id) is = tt
ordered_more xs all ys (fail_one id g) is = tt
ordered_more xs all ys (pass st) is = tt

-- an act without a plan
abbrev pub HasNoPlan : Act → Type 0
HasNoPlan (send to r) = plan_in r ≡ None
HasNoPlan (prepare p) = ⊥
HasNoPlan (go p) = ⊥
HasNoPlan (unlock_all g) = ⊤
HasNoPlan (say n) = ⊤
HasNoPlan (recover_one id) = ⊤
HasNoPlan (fail_one id g) = ⊤
HasNoPlan (pass st) = ⊤

no_plan : (all : List Act) (a : Act) → HasNoPlan a → IsOrdered all a
no_plan all (send to r) none = subst (PlanTold all r) (sym none) tt
no_plan all (prepare p) none = absurd none
no_plan all (go p) none = absurd none
no_plan all (unlock_all g) none = tt
no_plan all (say n) none = tt
no_plan all (recover_one id) none = tt
no_plan all (fail_one id g) none = tt
no_plan all (pass st) none = tt

no_plans : (all acts : List Act) → AllByRecursion HasNoPlan acts → AllByRecursion (IsOrdered all) acts
no_plans all acts none = each_weaker HasNoPlan (IsOrdered all) (λ a is. no_plan all a is) acts none

behind : (xs acts : List Act) → AreOrdered acts → AllByRecursion (IsOrdered (xs ++ acts)) acts
behind xs acts are =
    each_weaker (IsOrdered acts) (IsOrdered (xs ++ acts)) (λ a is. subst (λ ys. IsOrdered (xs ++ ys) a) (append-nil acts) (ordered_more xs acts [] a is)) acts are

-- acts without a plan come before
plain_before : (xs acts : List Act) → AllByRecursion HasNoPlan xs → AreOrdered acts → AreOrdered (xs ++ acts)
plain_before xs acts none are = each_append (IsOrdered (xs ++ acts)) xs acts (no_plans (xs ++ acts) xs none) (behind xs acts are)

-- one and then the other
both_ordered : (xs ys : List Act) → AreOrdered xs → AreOrdered ys → AreOrdered (xs ++ ys)
both_ordered xs ys first then' = each_append (IsOrdered (xs ++ ys)) xs ys (each_weaker (IsOrdered xs) (IsOrdered (xs ++ ys)) (λ a is. ordered_more [] xs ys a is) xs first) (behind xs ys then')

-- ---- a plan is carried out

leaves_told : (how : Leaving) (p : Plan) (all : List Act) → HasOrder p all → PlanTold all (leave_record how p) (plan_in (leave_record how p))
leaves_told by_request p all has = inl has
leaves_told by_change_confirm p all has = inl has
leaves_told by_release_confirm p all has = inl has

leave_ordered : (all : List Act) (x : Option Node) (told : Option Leaving) (p : Plan) → HasOrder p all → AllByRecursion (IsOrdered all) (leave_acts x told p)
leave_ordered all None told p has = tt
leave_ordered all (Some x) None p has = tt
leave_ordered all (Some x) (Some how) p has = (leaves_told how p all has, tt)

goes_ordered : (m : MasterProc) (c : Change) (w : Way) → AreOrdered (goes m c w).1
goes_ordered m c w =
    let all = (goes m c w).1 in
    let has : HasOrder c.plan all = inl refl in
    (inl has, (has, leave_ordered all w.leaving w.told c.plan has))

goes_has : (m : MasterProc) (c : Change) (w : Way) → HasOrder c.plan (goes m c w).1
goes_has m c w = inl refl

prepares : (p : Plan) (acts : List Act) → HasOrder p acts → AllByRecursion (IsOrdered (preparing p ++ acts)) (preparing p)
prepares p acts has = by (moves_here p)
  where
    by : (b : Bool) → AllByRecursion (IsOrdered ((if b then prepare p ∷ [] else []) ++ acts)) (if b then prepare p ∷ [] else [])
    by true = (inr has, tt)
    by false = tt

prepared : (p : Plan) (acts : List Act) → HasOrder p acts → AreOrdered acts → AreOrdered (preparing p ++ acts)
prepared p acts has are = each_append (IsOrdered (preparing p ++ acts)) (preparing p) acts (prepares p acts has) (behind (preparing p) acts are)

lets_ordered : (m : MasterProc) (x : Node) (d : Draft) → AreOrdered (lets_go m x d).1
lets_ordered m x d =
    let acts = (goes (drawn m d) d.change (let_go x)).1 in
    plain_before (say (note.Begin want.Release) ∷ []) (preparing d.change.plan ++ acts) (tt, tt) (prepared d.change.plan acts (goes_has (drawn m d) d.change (let_go x)) (goes_ordered (drawn m d) d.change (let_go x)))

-- ---- a command ends, and what waits is tried

releases_ordered : (m : MasterProc) (x : Node) (spent : Bool) (o : Option Draft) → AreOrdered (releases_if m x spent o).1
releases_ordered m x spent None = tt
releases_ordered m x true (Some d) = tt
releases_ordered m x false (Some d) = lets_ordered (with_waits false x m) x d

now_ordered : (m : MasterProc) (x : Node) (is : Bool) → AreOrdered (tries_now m x is).1
now_ordered m x true = let d = draft m.table event.Release in releases_ordered m x (is_release_spent m.table d) d
now_ordered m x false = (inr (refl, refl), tt)

if_ordered : (m : MasterProc) (x : Node) (waits : Bool) (c : Option Command) → AreOrdered (tries_if m x waits c).1
if_ordered m x false c = tt
if_ordered m x true None = now_ordered m x (is_at x m.table.sec)
if_ordered m x true (Some (asked c first who wanted)) = tt
if_ordered m x true (Some (gone plan going)) = tt
if_ordered m x true (Some (recovering id terminal second)) = tt

tries_ordered : (x : Node) (m : MasterProc) → AreOrdered (tries x m).1
tries_ordered x m = if_ordered m x (waits_at m x) m.command

retries_ordered : (m : MasterProc) → AreOrdered (retries m).1
retries_ordered m =
    let x = tried_first m.table.sec in
    let first = tries x m in
    both_ordered first.1 (tries (other_second x) first.0).1 (tries_ordered x m) (tries_ordered (other_second x) first.0)

ends_ordered : (m : MasterProc) (acts : List Act) (how : Note) → AllByRecursion HasNoPlan acts → AreOrdered (ends m acts how).1
ends_ordered m acts how none =
    let k : MasterProc = record m { command = None } in plain_before (acts ++ say how ∷ []) (retries k).1 (each_append HasNoPlan acts (say how ∷ []) none (tt, tt)) (retries_ordered k)

forgetting_plain : (x : Option Node) (g : ℕ) → AllByRecursion HasNoPlan (forgetting x g)
forgetting_plain None g = tt
forgetting_plain (Some x) g = (refl, tt)

gone_ordered : (m : MasterProc) (p : Plan) (w : Going) (complete : Bool) (moving : List (ℕ × Node)) → AreOrdered (ends_gone m p w complete moving).1
gone_ordered m p w false moving = tt
gone_ordered m p w true (x ∷ xs) = tt
gone_ordered m p w true [] = ends_ordered m (forgetting w.leaving p.g) note.Done (forgetting_plain w.leaving p.g)

recovering_ordered : (m : MasterProc) (terminal : Bool) (second : Option Node) → AreOrdered (ends_recovering m terminal second).1
recovering_ordered m false None = ends_ordered m [] note.Done tt
recovering_ordered m false (Some x) = tt
recovering_ordered m true second = tt

ended_ordered : (m : MasterProc) (c : Option Command) → AreOrdered (ends_if m c).1
ended_ordered m None = tt
ended_ordered m (Some (asked c first who wanted)) = tt
ended_ordered m (Some (gone plan going)) = gone_ordered m plan going going.complete going.moving
ended_ordered m (Some (recovering id terminal second)) = recovering_ordered m terminal second

waits_ordered : (m : MasterProc) (c : Command) → AreOrdered (waits_for m c).1
waits_ordered m c = ended_ordered (record m { command = Some c }) (Some c)

-- the master's own anchor adopted a bearer
adopted_ordered : (id : ℕ) (m : MasterProc) (o : Option Command) → AreOrdered (adopted_here id m o).1
adopted_ordered id m None = tt
adopted_ordered id m (Some (asked c first who wanted)) = tt
adopted_ordered id m (Some (gone p w)) = waits_ordered m (gone p (record w { moving = filter (λ y. not (is_moving id M y)) w.moving }))
adopted_ordered id m (Some (recovering i terminal second)) = tt

-- ---- what comes of a step

-- each plan of an act is the one that is asked for then
abbrev pub PlanIs : Plan → Option Plan → Type 0
PlanIs p None = ⊤
PlanIs p (Some q) = q ≡ p

abbrev pub IsOfPlanAct : Plan → Act → Type 0
IsOfPlanAct p (send to r) = PlanIs p (plan_in r)
IsOfPlanAct p (prepare q) = q ≡ p
IsOfPlanAct p (go q) = q ≡ p
IsOfPlanAct p (unlock_all g) = ⊤
IsOfPlanAct p (say n) = ⊤
IsOfPlanAct p (recover_one id) = ⊤
IsOfPlanAct p (fail_one id g) = ⊤
IsOfPlanAct p (pass st) = ⊤

-- all plans are told the terminal, or all are the one that is asked for
pub data ActsFrom (r : MasterActs) : Type 0 where
  told_acts : (are : AreOrdered r.1) → ActsFrom r
  asking_acts : (c : Change) (first : First) (who : Node) (wanted : Bool) → (open' : r.0.command ≡ Some (asked c first who wanted)) → (are : AllByRecursion (IsOfPlanAct c.plan) r.1) → ActsFrom r

abbrev pub FromIf : Result MasterActs ProcFault → Type 0
FromIf (Ok r) = ActsFrom r
FromIf (Err why) = ⊤

first_is : (roots : List (List ℕ)) (first : First) (c : Change) → PlanIs c.plan (plan_in (first_record roots first c))
first_is roots addition c = refl
first_is roots modification c = refl
first_is roots release c = refl

prepares_it : (p : Plan) → AllByRecursion (IsOfPlanAct p) (preparing p)
prepares_it p = by (moves_here p)
  where
    by : (b : Bool) → AllByRecursion (IsOfPlanAct p) (if b then prepare p ∷ [] else [])
    by true = (refl, tt)
    by false = tt

by_first : (m : MasterProc) (d : Draft) (wanted : Bool) (o : Option (First × Node)) → ActsFrom (before_acts (preparing d.change.plan) (begins_by (drawn m d) d wanted o))
by_first m d wanted None = told_acts (prepared d.change.plan (goes (drawn m d) d.change alone).1 (goes_has (drawn m d) d.change alone) (goes_ordered (drawn m d) d.change alone))
by_first m d wanted (Some (first, who)) =
    asking_acts d.change first who wanted refl
    (each_append (IsOfPlanAct d.change.plan) (preparing d.change.plan) (send who (first_record (drawn m d).table.book.roots first d.change) ∷ []) (prepares_it d.change.plan) (first_is (drawn m d).table.book.roots first d.change, tt))

begins_from : (m : MasterProc) (wanted : Bool) (o : Option Draft) → ActsFrom (begins_if m wanted o)
begins_from m wanted None = told_acts tt
begins_from m wanted (Some d) = by_first m d wanted d.first

-- an act without a plan comes before
plain_from : (a : Act) (r : MasterActs) → HasNoPlan a → ActsFrom r → ActsFrom (before_acts (a ∷ []) r)
plain_from a r none (told_acts are) = told_acts (plain_before (a ∷ []) r.1 (none, tt) are)
plain_from a r none (asking_acts c first who wanted open' are) = asking_acts c first who wanted open' (of_plan a none, are)
  where
    of_plan : (a : Act) → HasNoPlan a → IsOfPlanAct c.plan a
    of_plan (send to x) no' = subst (PlanIs c.plan) (sym no') tt
    of_plan (prepare p) no' = absurd no'
    of_plan (go p) no' = absurd no'
    of_plan (unlock_all g) no' = tt
    of_plan (say n) no' = tt
    of_plan (recover_one id) no' = tt
    of_plan (fail_one id g) no' = tt
    of_plan (pass st) no' = tt

-- ---- records

agreed_from : (k : RecKind) (m : MasterProc) (c : Change) (first : First) (who : Node) (wanted is : Bool) → FromIf (agreed_if k m c first who wanted is)
agreed_from k m c first who wanted true = told_acts (goes_ordered m c (way first who wanted m.table.sec))
agreed_from k m c first who wanted false = tt

by_agreed : (k : RecKind) (f : First) (from : Node) (g : ℕ) (m : MasterProc) (o : Option Command) → FromIf (agreed k f from g m o)
by_agreed k f from g m None = tt
by_agreed k f from g m (Some (asked c first who wanted)) = agreed_from k m c first who wanted (is_answer f from g first who c.plan.g)
by_agreed k f from g m (Some (gone plan going)) = tt
by_agreed k f from g m (Some (recovering id terminal second)) = tt

by_released : (r : Result MasterActs ProcFault) (m : MasterProc) → FromIf r → FromIf (released r m)
by_released (Ok r) m from = from
by_released (Err why) m from = told_acts tt

rejecting_plain : (first : First) (who : Node) (wanted : Bool) → AllByRecursion HasNoPlan (rejecting first who wanted)
rejecting_plain first who false = tt
rejecting_plain addition who true = (refl, tt)
rejecting_plain modification who true = (refl, tt)
rejecting_plain release who true = tt

rejected_from : (k : RecKind) (m : MasterProc) (first : First) (who : Node) (wanted is : Bool) → FromIf (rejected_if k m first who wanted is)
rejected_from k m first who wanted true = told_acts (ends_ordered m (rejecting first who wanted) note.Rejected (rejecting_plain first who wanted))
rejected_from k m first who wanted false = tt

by_rejected : (k : RecKind) (f : First) (from : Node) (g : ℕ) (m : MasterProc) (o : Option Command) → FromIf (rejected k f from g m o)
by_rejected k f from g m None = tt
by_rejected k f from g m (Some (asked c first who wanted)) = rejected_from k m first who wanted (is_answer f from g first who c.plan.g)
by_rejected k f from g m (Some (gone plan going)) = tt
by_rejected k f from g m (Some (recovering id terminal second)) = tt

completing_plain : (x : Option Node) (confirms : Bool) (g : ℕ) → AllByRecursion HasNoPlan (completing x confirms g)
completing_plain None confirms g = tt
completing_plain (Some x) true g = (refl, tt)
completing_plain (Some x) false g = (refl, tt)

completed_from : (m : MasterProc) (p : Plan) (w : Going) (is : Bool) → FromIf (completed_if m p w is)
completed_from m p w true =
    let k = gone p (record w { complete = true }) in
    told_acts (plain_before (completing w.due w.confirms p.g ++ unlock_all p.g ∷ []) (waits_for m k).1
    (each_append HasNoPlan (completing w.due w.confirms p.g) (unlock_all p.g ∷ []) (completing_plain w.due w.confirms p.g) (tt, tt)) (waits_ordered m k))
completed_from m p w false = tt

by_completed : (g : ℕ) (m : MasterProc) (o : Option Command) → FromIf (completed g m o)
by_completed g m None = tt
by_completed g m (Some (asked c first who wanted)) = tt
by_completed g m (Some (gone p w)) = completed_from m p w ((p.g == g) && not w.complete)
by_completed g m (Some (recovering id terminal second)) = tt

at_plain : (id g : ℕ) (x : Node) → AllByRecursion HasNoPlan (failing_at id g x)
at_plain id g M = (tt, tt)
at_plain id g A = (refl, tt)
at_plain id g B = (refl, tt)
at_plain id g T = tt

failing_plain : (id g : ℕ) (o : Option Row) → AllByRecursion HasNoPlan (failing id g o)
failing_plain id g None = tt
failing_plain id g (Some r) = either (AllByRecursion HasNoPlan) (r.g == g) (failing_at id g r.anchor) [] (at_plain id g r.anchor) tt

failed_plain : (m : MasterProc) (pairs : List (ℕ × ℕ)) → AllByRecursion HasNoPlan (failed_legs m pairs).1
failed_plain m pairs = each_flat HasNoPlan (λ (x : ℕ × ℕ). failing x.0 x.1 (row m.table x.0)) pairs (λ x. failing_plain x.0 x.1 (row m.table x.0))

there_from : (m : MasterProc) (id : ℕ) (second : Option Node) (is : Bool) → FromIf (recovered_there m id second is)
there_from m id second true = told_acts (waits_ordered m (recovering id false second))
there_from m id second false = tt

second_from : (m : MasterProc) (id : ℕ) (terminal is : Bool) → FromIf (recovered_second m id terminal is)
second_from m id terminal true = told_acts (waits_ordered m (recovering id terminal None))
second_from m id terminal false = tt

at_from : (x : Node) (m : MasterProc) (id : ℕ) (terminal : Bool) (second : Option Node) (same : Bool) → FromIf (recovered_at x m id terminal second same)
at_from T m id terminal second same = there_from m id second (terminal && same)
at_from A m id terminal second same = second_from m id terminal (is_at A second && same)
at_from B m id terminal second same = second_from m id terminal (is_at B second && same)
at_from M m id terminal second same = tt

by_recovered : (from : Node) (id : ℕ) (m : MasterProc) (o : Option Command) → FromIf (recovered from id m o)
by_recovered from id m None = tt
by_recovered from id m (Some (asked c first who wanted)) = tt
by_recovered from id m (Some (gone plan going)) = tt
by_recovered from id m (Some (recovering i terminal second)) = at_from from m i terminal second (i == id)

adopted_from : (k : RecKind) (m : MasterProc) (id : ℕ) (x : Node) (p : Plan) (w : Going) (is : Bool) → FromIf (adopted_if k m id x p w is)
adopted_from k m id x p w true = told_acts (waits_ordered m (gone p (record w { moving = filter (λ y. not (is_moving id x y)) w.moving })))
adopted_from k m id x p w false = tt

by_moved : (from : Node) (g id : ℕ) (m : MasterProc) (o : Option Command) → FromIf (moved from g id m o)
by_moved from g id m None = tt
by_moved from g id m (Some (asked c first who wanted)) = tt
by_moved from g id m (Some (gone p w)) = adopted_from _ m id from p w ((p.g == g) && list_any (is_moving id from) w.moving)
by_moved from g id m (Some (recovering i terminal second)) = tt

by_passed : (m : MasterProc) (s : StatusTransfer) (from : Node) (o : Option (ℕ × Node)) → FromIf (passed_to m s from o)
by_passed m s from None = tt
by_passed m s from (Some (id, M)) = told_acts (tt, tt)
by_passed m s from (Some (id, A)) = either FromIf (is_same_node from A) _ (Ok (m, send A (rec.Snst s) ∷ [])) tt (told_acts (tt, tt))
by_passed m s from (Some (id, B)) = either FromIf (is_same_node from B) _ (Ok (m, send B (rec.Snst s) ∷ [])) tt (told_acts (tt, tt))
by_passed m s from (Some (id, T)) = tt

by_transferred : (from : Node) (s : StatusTransfer) (m : MasterProc) (o : Option Command) → FromIf (transferred from s m o)
by_transferred from s m None = tt
by_transferred from s m (Some (asked c first who wanted)) = tt
by_transferred from s m (Some (gone p w)) = by_passed m s from (if p.g == s.g then find (λ (x : ℕ × Node). x.0 == s.id) w.moving else None)
by_transferred from s m (Some (recovering i terminal second)) = tt

asked_from : (m : MasterProc) (from : Node) (what : Want) (e : Event) (refuse : Word → Rec) → ((w : Word) → plan_in (refuse w) ≡ None) → (o : Option Word) → ActsFrom (begins_asked m from what e refuse o)
asked_from m from what e refuse none (Some why) = told_acts (no_plan (send from (refuse why) ∷ []) (send from (refuse why)) (none why), tt)
asked_from m from what e refuse none None = plain_from (say (note.Begin what)) (begins_if m true (draft m.table e)) tt (begins_from m true (draft m.table e))

by_wanted : (from : Node) (w : Want) (m : MasterProc) → ActsFrom (wanted_by from w m)
by_wanted from want.Rekey m = asked_from m from want.Rekey event.RekeySecond (λ w. rec.Modref w) (λ w. refl) (asking_refusal from m)
by_wanted from want.Change m = asked_from m from want.Change event.Change (λ w. rec.Chgref w) (λ w. refl) (asking_refusal from m)
by_wanted from want.Release m = told_acts (tries_ordered from (with_waits true from m))

second_acts : (x : Node) (m : MasterProc) (r : Rec) → FromIf (from_second x m r)
second_acts x m (rec.Addack g) = by_agreed _ addition x g m m.command
second_acts x m (rec.Modack g) = by_agreed _ modification x g m m.command
second_acts x m (rec.Relack g) = by_released (agreed _ release x g m m.command) m (by_agreed _ release x g m m.command)
second_acts x m (rec.Addrej g) = by_rejected _ addition x g m m.command
second_acts x m (rec.Modrej g) = by_rejected _ modification x g m m.command
second_acts x m (rec.Relrej g) = by_rejected _ release x g m m.command
second_acts x m (rec.Snst status) = by_transferred x status m m.command
second_acts x m (rec.Moved g id) = by_moved x g id m m.command
second_acts x m (rec.Recovd id) = by_recovered x id m m.command
second_acts x m rec.Modrqd = by_wanted x want.Rekey m
second_acts x m rec.Chgrqd = by_wanted x want.Change m
second_acts x m rec.Relrqd = by_wanted x want.Release m
second_acts x m (rec.Reconf plan key) = tt
second_acts x m (rec.Rcomp g) = tt
second_acts x m (rec.Scgf failed) = tt
second_acts x m (rec.Recov id) = tt
second_acts x m (rec.Addreq plan key) = tt
second_acts x m (rec.Modreq plan key) = tt
second_acts x m (rec.Recfg g) = tt
second_acts x m (rec.Relreq plan) = tt
second_acts x m (rec.Uecr g) = tt
second_acts x m (rec.Scgn id g) = tt
second_acts x m (rec.Modcnf g) = tt
second_acts x m (rec.Modref word) = tt
second_acts x m (rec.Chgcnf plan) = tt
second_acts x m (rec.Chgref word) = tt
second_acts x m (rec.Relcnf plan) = tt

terminal_acts : (m : MasterProc) (r : Rec) → FromIf (from_terminal m r)
terminal_acts m (rec.Rcomp g) = by_completed g m m.command
terminal_acts m (rec.Scgf failed) = told_acts (no_plans (failed_legs m failed).1 (failed_legs m failed).1 (failed_plain m failed))
terminal_acts m (rec.Recovd id) = by_recovered T id m m.command
terminal_acts m (rec.Reconf plan key) = tt
terminal_acts m (rec.Recov id) = tt
terminal_acts m (rec.Addreq plan key) = tt
terminal_acts m (rec.Addack g) = tt
terminal_acts m (rec.Addrej g) = tt
terminal_acts m (rec.Modreq plan key) = tt
terminal_acts m (rec.Modack g) = tt
terminal_acts m (rec.Modrej g) = tt
terminal_acts m (rec.Recfg g) = tt
terminal_acts m (rec.Relreq plan) = tt
terminal_acts m (rec.Relack g) = tt
terminal_acts m (rec.Relrej g) = tt
terminal_acts m (rec.Uecr g) = tt
terminal_acts m (rec.Snst status) = tt
terminal_acts m (rec.Moved g id) = tt
terminal_acts m (rec.Scgn id g) = tt
terminal_acts m rec.Modrqd = tt
terminal_acts m (rec.Modcnf g) = tt
terminal_acts m (rec.Modref word) = tt
terminal_acts m rec.Chgrqd = tt
terminal_acts m (rec.Chgcnf plan) = tt
terminal_acts m (rec.Chgref word) = tt
terminal_acts m rec.Relrqd = tt
terminal_acts m (rec.Relcnf plan) = tt

-- of a record that the master takes
pub taken_acts : (from : Node) (m : MasterProc) (r : Rec) → FromIf (master_take from m r)
taken_acts T m r = terminal_acts m r
taken_acts A m r = second_acts A m r
taken_acts B m r = second_acts B m r
taken_acts M m r = tt

-- of an adoption
pub adopted_acts : (m : MasterProc) (id : ℕ) → ActsFrom (master_adopted m id)
adopted_acts m id = told_acts (adopted_ordered id m m.command)

recovers_from : (m : MasterProc) (id : ℕ) (x : Node) → ActsFrom (recovers_at m id x)
recovers_from m id M = told_acts (tt, (tt, tt))
recovers_from m id A = told_acts (tt, (tt, tt))
recovers_from m id B = told_acts (tt, (tt, tt))
recovers_from m id T = told_acts tt

by_row : (m : MasterProc) (id : ℕ) (o : Option Row) → ActsFrom (recovers_row m id o)
by_row m id None = told_acts tt
by_row m id (Some r) = recovers_from m id r.anchor

command_from : (m : MasterProc) (e : Event) (o : Option ℕ) → ActsFrom (command_by m e o)
command_from m e None = begins_from m false (draft m.table e)
command_from m e (Some id) = by_row m id (row m.table id)

-- of a command
pub command_acts : (m : MasterProc) (e : Event) → ActsFrom (commands m e)
command_acts m e = command_from m e (recovered_by e)
