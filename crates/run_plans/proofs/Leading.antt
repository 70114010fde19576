-- What leads among the plans in what the master's procedures have it do: the record by which a plan is carried out, or the one that
-- says that there is nothing to release; or it is the first record of a change, and then no command ends.
use Rattle.std.proofs.Common.{ℕ, ◌≡◌, ◌++◌, ◌==◌, ◌&&◌, Bool, true, false, List, [], ◌∷◌, Option, Some, None, refl, sym, subst, inl, inr, ◌⊎◌}
use Rattle.std.specs.Prelude.{Err, Ok, Result, filter, find, if◌then◌else◌, not, ⊤}
use Rattle.std.specs.List.{AllByRecursion, list_any}
use Rattle.dc_base.specs.Nodes.{is_same_node}
use Rattle.dc_base.specs.declared.events.Event.{Event}
use Rattle.dc_base.specs.declared.events.Event.TheVariants as event
use Rattle.dc_base.specs.declared.events.Note.{Note}
use Rattle.dc_base.specs.declared.events.Note.TheVariants as note
use Rattle.dc_base.specs.declared.nodes.Node.{Node}
use Rattle.dc_base.specs.declared.nodes.Node.TheVariants.{A, B, M, T}
use Rattle.dc_base.specs.declared.nodes.Want.{Want}
use Rattle.dc_base.specs.declared.nodes.Want.TheVariants as want
use Rattle.dc_base.specs.declared.answers.Word.{Word}
use Rattle.dc_base.specs.declared.records.Plan.{Plan}
use Rattle.dc_base.specs.declared.records.Rec.{Rec}
use Rattle.dc_base.specs.declared.records.Rec.TheVariants as rec
use Rattle.dc_base.specs.declared.records.RecKind.{RecKind}
use Rattle.dc_base.specs.declared.records.StatusTransfer.{StatusTransfer}
use Rattle.transcript.proofs.OnEach.{each_append, each_weaker}
use Rattle.std.proofs.lemmas.List.{append-nil}
use Rattle.claims.specs.Planned.{plan_in}
use Rattle.node_rules.specs.Acts.{ProcFault}
use Rattle.node_rules.specs.CommandTable.{row}
use Rattle.node_rules.specs.Drafts.{Draft, draft}
use Rattle.node_rules.specs.MasterCommands.{command_by, commands, recovered_by, recovers_at, recovers_row}
use Rattle.node_rules.specs.MasterEnds.{ends, ends_gone, ends_if, ends_recovering, forgetting, is_release_spent, releases_if, retries, tried_first, tries, tries_if, tries_now, waits_for}
use Rattle.node_rules.specs.MasterGo.{alone, before_acts, begins_by, begins_if, drawn, first_record, goes, leave_acts, leave_record, let_go, lets_go, preparing, moves_here, way}
use Rattle.node_rules.specs.MasterRecords.{adopted_if, agreed, agreed_if, asking_refusal, begins_asked, completed, completed_if, completing, failed_legs, failing, failing_at, is_answer, is_moving, moved, passed_to, recovered, recovered_at, recovered_second, recovered_there, rejected, rejected_if, rejecting, released, transferred, wanted_by}
use Rattle.node_rules.specs.MasterState.{MasterActs, MasterProc, waits_at, with_waits}
use Rattle.node_rules.specs.MasterTaking.{adopted_here, from_second, from_terminal, master_adopted, master_take}
use Rattle.node_rules.specs.Places.{is_at, other_second}
use Rattle.node_rules.specs.declared.acts.Act.{Act}
use Rattle.node_rules.specs.declared.acts.Act.TheVariants.{FailOne as fail_one, Go as go, Pass as pass, Prepare as prepare, RecoverOne as recover_one, Say as say, Send as send, UnlockAll as unlock_all}
use Rattle.node_rules.specs.declared.commands.Change.{Change}
use Rattle.node_rules.specs.declared.commands.Command.{Command}
use Rattle.node_rules.specs.declared.commands.Command.TheVariants.{Asked as asked, Gone as gone, Recovering as recovering}
use Rattle.node_rules.specs.declared.commands.First.{First}
use Rattle.node_rules.specs.declared.commands.First.TheVariants.{Addition as addition, Modification as modification, Release as release}
use Rattle.node_rules.specs.declared.commands.Going.{Going}
use Rattle.node_rules.specs.declared.commands.Leaving.{Leaving}
use Rattle.node_rules.specs.declared.commands.Leaving.TheVariants.{ByRequest as by_request, ByChangeConfirm as by_change_confirm, ByReleaseConfirm as by_release_confirm}
use Rattle.node_rules.specs.declared.commands.Row.{Row}
use Rattle.node_rules.specs.declared.commands.Way.{Way}
use Rattle.run_control.proofs.Sent.{either}
use Rattle.run_words.proofs.Lines.{each_flat}
use Rattle.run_relays.specs.Setups.{no_release}
use Rattle.node_rules.specs.Lines.{is_end}
use Rattle.key_chain.specs.KeyNames.{octets}
use Rattle.run_plans.specs.Leading.{IsAsked, KeyFree, Led, LedFrom, Opens, PlanFree, asking_acts, is_first, led_acts}

-- ---- lists of acts

no_first : (r : Rec) → plan_in r ≡ None → is_first r ≡ false
no_first (rec.Reconf q key) none = refl
no_first (rec.Rcomp g) none = refl
no_first (rec.Scgf x) none = refl
no_first (rec.Recov id) none = refl
no_first (rec.Recovd id) none = refl
no_first (rec.Addreq q key) none = absurd (let bad : Some q ≡ None = none in cc)
no_first (rec.Addack g) none = refl
no_first (rec.Addrej g) none = refl
no_first (rec.Modreq q key) none = absurd (let bad : Some q ≡ None = none in cc)
no_first (rec.Modack g) none = refl
no_first (rec.Modrej g) none = refl
no_first (rec.Recfg g) none = refl
no_first (rec.Relreq q) none = refl
no_first (rec.Relack g) none = refl
no_first (rec.Relrej g) none = refl
no_first (rec.Uecr g) none = refl
no_first (rec.Snst s) none = refl
no_first (rec.Moved g id) none = refl
no_first (rec.Scgn id g) none = refl
no_first rec.Modrqd none = refl
no_first (rec.Modcnf g) none = refl
no_first (rec.Modref w) none = refl
no_first rec.Chgrqd none = refl
no_first (rec.Chgcnf q) none = refl
no_first (rec.Chgref w) none = refl
no_first rec.Relrqd none = refl
no_first (rec.Relcnf q) none = refl

opens_no_first : (to : Node) (r : Rec) → Opens (send to r) → is_first r ≡ false
opens_no_first to (rec.Reconf q key) opens = refl
opens_no_first to (rec.Rcomp g) opens = absurd opens
opens_no_first to (rec.Scgf x) opens = absurd opens
opens_no_first to (rec.Recov id) opens = absurd opens
opens_no_first to (rec.Recovd id) opens = absurd opens
opens_no_first to (rec.Addreq q key) opens = absurd opens
opens_no_first to (rec.Addack g) opens = absurd opens
opens_no_first to (rec.Addrej g) opens = absurd opens
opens_no_first to (rec.Modreq q key) opens = absurd opens
opens_no_first to (rec.Modack g) opens = absurd opens
opens_no_first to (rec.Modrej g) opens = absurd opens
opens_no_first to (rec.Recfg g) opens = absurd opens
opens_no_first to (rec.Relreq q) opens = absurd opens
opens_no_first to (rec.Relack g) opens = absurd opens
opens_no_first to (rec.Relrej g) opens = absurd opens
opens_no_first to (rec.Uecr g) opens = absurd opens
opens_no_first to (rec.Snst s) opens = absurd opens
opens_no_first to (rec.Moved g id) opens = absurd opens
opens_no_first to (rec.Scgn id g) opens = absurd opens
opens_no_first to rec.Modrqd opens = absurd opens
opens_no_first to (rec.Modcnf g) opens = absurd opens
opens_no_first to (rec.Modref w) opens = absurd opens
opens_no_first to rec.Chgrqd opens = absurd opens
opens_no_first to (rec.Chgcnf q) opens = absurd opens
opens_no_first to (rec.Chgref w) opens = absurd opens
opens_no_first to rec.Relrqd opens = absurd opens
opens_no_first to (rec.Relcnf q) opens = refl

free_key : (a : Act) → PlanFree a → KeyFree a
free_key (send to r) free = no_first r free
free_key (prepare p) free = tt
free_key (go p) free = tt
free_key (unlock_all g) free = tt
free_key (say n) free = tt
free_key (recover_one id) free = tt
free_key (fail_one id g) free = tt
free_key (pass st) free = tt

opens_key : (a : Act) → Opens a → KeyFree a
opens_key (send to r) opens = opens_no_first to r opens
opens_key (prepare p) opens = absurd opens
opens_key (go p) opens = absurd opens
opens_key (unlock_all g) opens = absurd opens
opens_key (say n) opens = absurd opens
opens_key (recover_one id) opens = absurd opens
opens_key (fail_one id g) opens = absurd opens
opens_key (pass st) opens = absurd opens

-- no first record is among them
pub led_key : (acts : List Act) → Led acts → AllByRecursion KeyFree acts
led_key [] led = tt
led_key (a ∷ acts) (inl free) = (free_key a free.0, led_key acts free.1)
led_key (a ∷ acts) (inr opens) = (opens_key a opens.0, opens.1)

-- one and then the other
both_led : (xs ys : List Act) → Led xs → Led ys → Led (xs ++ ys)
both_led [] ys first then' = then'
both_led (a ∷ xs) ys (inl free) then' = inl (free.0, both_led xs ys free.1 then')
both_led (a ∷ xs) ys (inr opens) then' = inr (opens.0, each_append KeyFree xs ys opens.1 (led_key ys then'))

plain_led : (acts : List Act) → AllByRecursion PlanFree acts → Led acts
plain_led [] free = tt
plain_led (a ∷ acts) free = inl (free.0, plain_led acts free.1)

-- acts without a plan come before
plain_before : (xs acts : List Act) → AllByRecursion PlanFree xs → Led acts → Led (xs ++ acts)
plain_before xs acts free led = both_led xs acts (plain_led xs free) led

-- ---- a plan is carried out

leaves_key : (how : Leaving) (p : Plan) → is_first (leave_record how p) ≡ false
leaves_key by_request p = refl
leaves_key by_change_confirm p = refl
leaves_key by_release_confirm p = refl

leave_key : (x : Option Node) (told : Option Leaving) (p : Plan) → AllByRecursion KeyFree (leave_acts x told p)
leave_key None told p = tt
leave_key (Some x) None p = tt
leave_key (Some x) (Some how) p = (leaves_key how p, tt)

goes_led : (m : MasterProc) (c : Change) (w : Way) → Led (goes m c w).1
goes_led m c w = inr (tt, (tt, leave_key w.leaving w.told c.plan))

prepares : (p : Plan) → AllByRecursion PlanFree (preparing p)
prepares p = by (moves_here p)
  where
    by : (b : Bool) → AllByRecursion PlanFree (if b then prepare p ∷ [] else [])
    by true = (tt, tt)
    by false = tt

prepared : (p : Plan) (acts : List Act) → Led acts → Led (preparing p ++ acts)
prepared p acts led = plain_before (preparing p) acts (prepares p) led

lets_led : (m : MasterProc) (x : Node) (d : Draft) → Led (lets_go m x d).1
lets_led m x d =
    let acts = (goes (drawn m d) d.change (let_go x)).1 in
    inl (tt, prepared d.change.plan acts (goes_led (drawn m d) d.change (let_go x)))

-- ---- a command ends, and what waits is tried

releases_led : (m : MasterProc) (x : Node) (spent : Bool) (o : Option Draft) → Led (releases_if m x spent o).1
releases_led m x spent None = tt
releases_led m x true (Some d) = tt
releases_led m x false (Some d) = lets_led (with_waits false x m) x d

now_led : (m : MasterProc) (x : Node) (is : Bool) → Led (tries_now m x is).1
now_led m x true = let d = draft m.table event.Release in releases_led m x (is_release_spent m.table d) d
now_led m x false = inr (refl, tt)

if_led : (m : MasterProc) (x : Node) (waits : Bool) (c : Option Command) → Led (tries_if m x waits c).1
if_led m x false c = tt
if_led m x true None = now_led m x (is_at x m.table.sec)
if_led m x true (Some (asked c first who wanted)) = tt
if_led m x true (Some (gone plan going)) = tt
if_led m x true (Some (recovering id terminal second)) = tt

tries_led : (x : Node) (m : MasterProc) → Led (tries x m).1
tries_led x m = if_led m x (waits_at m x) m.command

retries_led : (m : MasterProc) → Led (retries m).1
retries_led m =
    let x = tried_first m.table.sec in
    let first = tries x m in
    both_led first.1 (tries (other_second x) first.0).1 (tries_led x m) (tries_led (other_second x) first.0)

ends_led : (m : MasterProc) (acts : List Act) (how : Note) → AllByRecursion PlanFree acts → Led (ends m acts how).1
ends_led m acts how none =
    let k : MasterProc = record m { command = None } in plain_before (acts ++ say how ∷ []) (retries k).1 (each_append PlanFree acts (say how ∷ []) none (tt, tt)) (retries_led k)

forgetting_plain : (x : Option Node) (g : ℕ) → AllByRecursion PlanFree (forgetting x g)
forgetting_plain None g = tt
forgetting_plain (Some x) g = (refl, tt)

gone_led : (m : MasterProc) (p : Plan) (w : Going) (complete : Bool) (moving : List (ℕ × Node)) → Led (ends_gone m p w complete moving).1
gone_led m p w false moving = tt
gone_led m p w true (x ∷ xs) = tt
gone_led m p w true [] = ends_led m (forgetting w.leaving p.g) note.Done (forgetting_plain w.leaving p.g)

recovering_led : (m : MasterProc) (terminal : Bool) (second : Option Node) → Led (ends_recovering m terminal second).1
recovering_led m false None = ends_led m [] note.Done tt
recovering_led m false (Some x) = tt
recovering_led m true second = tt

ended_led : (m : MasterProc) (c : Option Command) → Led (ends_if m c).1
ended_led m None = tt
ended_led m (Some (asked c first who wanted)) = tt
ended_led m (Some (gone plan going)) = gone_led m plan going going.complete going.moving
ended_led m (Some (recovering id terminal second)) = recovering_led m terminal second

waits_led : (m : MasterProc) (c : Command) → Led (waits_for m c).1
waits_led m c = ended_led (record m { command = Some c }) (Some c)

-- the master's own anchor adopted a bearer
adopted_led : (id : ℕ) (m : MasterProc) (o : Option Command) → Led (adopted_here id m o).1
adopted_led id m None = tt
adopted_led id m (Some (asked c first who wanted)) = tt
adopted_led id m (Some (gone p w)) = waits_led m (gone p (record w { moving = filter (λ y. not (is_moving id M y)) w.moving }))
adopted_led id m (Some (recovering i terminal second)) = tt

-- ---- what comes of a step

abbrev pub FromIf : Result MasterActs ProcFault → Type 0
FromIf (Ok r) = LedFrom r
FromIf (Err why) = ⊤

first_is : (roots : List (List ℕ)) (who : Node) (first : First) (c : Change) → IsAsked roots c (send who (first_record roots first c))
first_is roots who addition c = (refl, refl)
first_is roots who modification c = (refl, refl)
first_is roots who release c = tt

prepares_it : (roots : List (List ℕ)) (c : Change) → AllByRecursion (IsAsked roots c) (preparing c.plan)
prepares_it roots c = by (moves_here c.plan)
  where
    by : (b : Bool) → AllByRecursion (IsAsked roots c) (if b then prepare c.plan ∷ [] else [])
    by true = (tt, tt)
    by false = tt

by_first : (m : MasterProc) (d : Draft) (wanted : Bool) (o : Option (First × Node)) → LedFrom (before_acts (preparing d.change.plan) (begins_by (drawn m d) d wanted o))
by_first m d wanted None = led_acts (prepared d.change.plan (goes (drawn m d) d.change alone).1 (goes_led (drawn m d) d.change alone))
by_first m d wanted (Some (first, who)) =
    let roots = (drawn m d).table.book.roots in
    asking_acts d.change first who wanted refl
    (each_append (IsAsked roots d.change) (preparing d.change.plan) (send who (first_record roots first d.change) ∷ []) (prepares_it roots d.change) (first_is roots who first d.change, tt))

begins_from : (m : MasterProc) (wanted : Bool) (o : Option Draft) → LedFrom (begins_if m wanted o)
begins_from m wanted None = led_acts tt
begins_from m wanted (Some d) = by_first m d wanted d.first

-- the line that it begins comes before
begun_from : (w : Want) (r : MasterActs) → LedFrom r → LedFrom (before_acts (say (note.Begin w) ∷ []) r)
begun_from w r (led_acts led) = led_acts (inl (tt, led))
begun_from w r (asking_acts c first who wanted open' are) = asking_acts c first who wanted open' (refl, are)

-- ---- records

agreed_from : (k : RecKind) (m : MasterProc) (c : Change) (first : First) (who : Node) (wanted is : Bool) → FromIf (agreed_if k m c first who wanted is)
agreed_from k m c first who wanted true = led_acts (goes_led m c (way first who wanted m.table.sec))
agreed_from k m c first who wanted false = tt

by_agreed : (k : RecKind) (f : First) (from : Node) (g : ℕ) (m : MasterProc) (o : Option Command) → FromIf (agreed k f from g m o)
by_agreed k f from g m None = tt
by_agreed k f from g m (Some (asked c first who wanted)) = agreed_from k m c first who wanted (is_answer f from g first who c.plan.g)
by_agreed k f from g m (Some (gone plan going)) = tt
by_agreed k f from g m (Some (recovering id terminal second)) = tt

by_released : (r : Result MasterActs ProcFault) (m : MasterProc) → FromIf r → FromIf (released r m)
by_released (Ok r) m from = from
by_released (Err why) m from = led_acts tt

rejecting_plain : (first : First) (who : Node) (wanted : Bool) → AllByRecursion PlanFree (rejecting first who wanted)
rejecting_plain first who false = tt
rejecting_plain addition who true = (refl, tt)
rejecting_plain modification who true = (refl, tt)
rejecting_plain release who true = tt

rejected_from : (k : RecKind) (m : MasterProc) (first : First) (who : Node) (wanted is : Bool) → FromIf (rejected_if k m first who wanted is)
rejected_from k m first who wanted true = led_acts (ends_led m (rejecting first who wanted) note.Rejected (rejecting_plain first who wanted))
rejected_from k m first who wanted false = tt

by_rejected : (k : RecKind) (f : First) (from : Node) (g : ℕ) (m : MasterProc) (o : Option Command) → FromIf (rejected k f from g m o)
by_rejected k f from g m None = tt
by_rejected k f from g m (Some (asked c first who wanted)) = rejected_from k m first who wanted (is_answer f from g first who c.plan.g)
by_rejected k f from g m (Some (gone plan going)) = tt
by_rejected k f from g m (Some (recovering id terminal second)) = tt

completing_plain : (x : Option Node) (confirms : Bool) (g : ℕ) → AllByRecursion PlanFree (completing x confirms g)
completing_plain None confirms g = tt
completing_plain (Some x) true g = (refl, tt)
completing_plain (Some x) false g = (refl, tt)

completed_from : (m : MasterProc) (p : Plan) (w : Going) (is : Bool) → FromIf (completed_if m p w is)
completed_from m p w true =
    let k = gone p (record w { complete = true }) in
    led_acts (plain_before (completing w.due w.confirms p.g ++ unlock_all p.g ∷ []) (waits_for m k).1
    (each_append PlanFree (completing w.due w.confirms p.g) (unlock_all p.g ∷ []) (completing_plain w.due w.confirms p.g) (tt, tt)) (waits_led m k))
completed_from m p w false = tt

by_completed : (g : ℕ) (m : MasterProc) (o : Option Command) → FromIf (completed g m o)
by_completed g m None = tt
by_completed g m (Some (asked c first who wanted)) = tt
by_completed g m (Some (gone p w)) = completed_from m p w ((p.g == g) && not w.complete)
by_completed g m (Some (recovering id terminal second)) = tt

at_plain : (id g : ℕ) (x : Node) → AllByRecursion PlanFree (failing_at id g x)
at_plain id g M = (tt, tt)
at_plain id g A = (refl, tt)
at_plain id g B = (refl, tt)
at_plain id g T = tt

failing_plain : (id g : ℕ) (o : Option Row) → AllByRecursion PlanFree (failing id g o)
failing_plain id g None = tt
failing_plain id g (Some r) = either (AllByRecursion PlanFree) (r.g == g) (failing_at id g r.anchor) [] (at_plain id g r.anchor) tt

failed_plain : (m : MasterProc) (pairs : List (ℕ × ℕ)) → AllByRecursion PlanFree (failed_legs m pairs).1
failed_plain m pairs = each_flat PlanFree (λ (x : ℕ × ℕ). failing x.0 x.1 (row m.table x.0)) pairs (λ x. failing_plain x.0 x.1 (row m.table x.0))

there_from : (m : MasterProc) (id : ℕ) (second : Option Node) (is : Bool) → FromIf (recovered_there m id second is)
there_from m id second true = led_acts (waits_led m (recovering id false second))
there_from m id second false = tt

second_from : (m : MasterProc) (id : ℕ) (terminal is : Bool) → FromIf (recovered_second m id terminal is)
second_from m id terminal true = led_acts (waits_led m (recovering id terminal None))
second_from m id terminal false = tt

at_from : (x : Node) (m : MasterProc) (id : ℕ) (terminal : Bool) (second : Option Node) (same : Bool) → FromIf (recovered_at x m id terminal second same)
at_from T m id terminal second same = there_from m id second (terminal && same)
at_from A m id terminal second same = second_from m id terminal (is_at A second && same)
at_from B m id terminal second same = second_from m id terminal (is_at B second && same)
at_from M m id terminal second same = tt

by_recovered : (from : Node) (id : ℕ) (m : MasterProc) (o : Option Command) → FromIf (recovered from id m o)
by_recovered from id m None = tt
by_recovered from id m (Some (asked c first who wanted)) = tt
by_recovered from id m (Some (gone plan going)) = tt
by_recovered from id m (Some (recovering i terminal second)) = at_from from m i terminal second (i == id)

adopted_from : (k : RecKind) (m : MasterProc) (id : ℕ) (x : Node) (p : Plan) (w : Going) (is : Bool) → FromIf (adopted_if k m id x p w is)
adopted_from k m id x p w true = led_acts (waits_led m (gone p (record w { moving = filter (λ y. not (is_moving id x y)) w.moving })))
adopted_from k m id x p w false = tt

by_moved : (from : Node) (g id : ℕ) (m : MasterProc) (o : Option Command) → FromIf (moved from g id m o)
by_moved from g id m None = tt
by_moved from g id m (Some (asked c first who wanted)) = tt
by_moved from g id m (Some (gone p w)) = adopted_from _ m id from p w ((p.g == g) && list_any (is_moving id from) w.moving)
by_moved from g id m (Some (recovering i terminal second)) = tt

by_passed : (m : MasterProc) (s : StatusTransfer) (from : Node) (o : Option (ℕ × Node)) → FromIf (passed_to m s from o)
by_passed m s from None = tt
by_passed m s from (Some (id, M)) = led_acts (inl (tt, tt))
by_passed m s from (Some (id, A)) = either FromIf (is_same_node from A) _ (Ok (m, send A (rec.Snst s) ∷ [])) tt (led_acts (inl (refl, tt)))
by_passed m s from (Some (id, B)) = either FromIf (is_same_node from B) _ (Ok (m, send B (rec.Snst s) ∷ [])) tt (led_acts (inl (refl, tt)))
by_passed m s from (Some (id, T)) = tt

by_transferred : (from : Node) (s : StatusTransfer) (m : MasterProc) (o : Option Command) → FromIf (transferred from s m o)
by_transferred from s m None = tt
by_transferred from s m (Some (asked c first who wanted)) = tt
by_transferred from s m (Some (gone p w)) = by_passed m s from (if p.g == s.g then find (λ (x : ℕ × Node). x.0 == s.id) w.moving else None)
by_transferred from s m (Some (recovering i terminal second)) = tt

asked_from : (m : MasterProc) (from : Node) (what : Want) (e : Event) (refuse : Word → Rec) → ((w : Word) → plan_in (refuse w) ≡ None) → (o : Option Word) → LedFrom (begins_asked m from what e refuse o)
asked_from m from what e refuse none (Some why) = led_acts (inl (none why, tt))
asked_from m from what e refuse none None = begun_from what (begins_if m true (draft m.table e)) (begins_from m true (draft m.table e))

by_wanted : (from : Node) (w : Want) (m : MasterProc) → LedFrom (wanted_by from w m)
by_wanted from want.Rekey m = asked_from m from want.Rekey event.RekeySecond (λ w. rec.Modref w) (λ w. refl) (asking_refusal from m)
by_wanted from want.Change m = asked_from m from want.Change event.Change (λ w. rec.Chgref w) (λ w. refl) (asking_refusal from m)
by_wanted from want.Release m = led_acts (tries_led from (with_waits true from m))

second_acts : (x : Node) (m : MasterProc) (r : Rec) → FromIf (from_second x m r)
second_acts x m (rec.Addack g) = by_agreed _ addition x g m m.command
second_acts x m (rec.Modack g) = by_agreed _ modification x g m m.command
second_acts x m (rec.Relack g) = by_released (agreed _ release x g m m.command) m (by_agreed _ release x g m m.command)
second_acts x m (rec.Addrej g) = by_rejected _ addition x g m m.command
second_acts x m (rec.Modrej g) = by_rejected _ modification x g m m.command
second_acts x m (rec.Relrej g) = by_rejected _ release x g m m.command
second_acts x m (rec.Snst status) = by_transferred x status m m.command
second_acts x m (rec.Moved g id) = by_moved x g id m m.command
second_acts x m (rec.Recovd id) = by_recovered x id m m.command
second_acts x m rec.Modrqd = by_wanted x want.Rekey m
second_acts x m rec.Chgrqd = by_wanted x want.Change m
second_acts x m rec.Relrqd = by_wanted x want.Release m
second_acts x m (rec.Reconf plan key) = tt
second_acts x m (rec.Rcomp g) = tt
second_acts x m (rec.Scgf failed) = tt
second_acts x m (rec.Recov id) = tt
second_acts x m (rec.Addreq plan key) = tt
second_acts x m (rec.Modreq plan key) = tt
second_acts x m (rec.Recfg g) = tt
second_acts x m (rec.Relreq plan) = tt
second_acts x m (rec.Uecr g) = tt
second_acts x m (rec.Scgn id g) = tt
second_acts x m (rec.Modcnf g) = tt
second_acts x m (rec.Modref word) = tt
second_acts x m (rec.Chgcnf plan) = tt
second_acts x m (rec.Chgref word) = tt
second_acts x m (rec.Relcnf plan) = tt

terminal_acts : (m : MasterProc) (r : Rec) → FromIf (from_terminal m r)
terminal_acts m (rec.Rcomp g) = by_completed g m m.command
terminal_acts m (rec.Scgf failed) = led_acts (plain_led (failed_legs m failed).1 (failed_plain m failed))
terminal_acts m (rec.Recovd id) = by_recovered T id m m.command
terminal_acts m (rec.Reconf plan key) = tt
terminal_acts m (rec.Recov id) = tt
terminal_acts m (rec.Addreq plan key) = tt
terminal_acts m (rec.Addack g) = tt
terminal_acts m (rec.Addrej g) = tt
terminal_acts m (rec.Modreq plan key) = tt
terminal_acts m (rec.Modack g) = tt
terminal_acts m (rec.Modrej g) = tt
terminal_acts m (rec.Recfg g) = tt
terminal_acts m (rec.Relreq plan) = tt
terminal_acts m (rec.Relack g) = tt
terminal_acts m (rec.Relrej g) = tt
terminal_acts m (rec.Uecr g) = tt
terminal_acts m (rec.Snst status) = tt
terminal_acts m (rec.Moved g id) = tt
terminal_acts m (rec.Scgn id g) = tt
terminal_acts m rec.Modrqd = tt
terminal_acts m (rec.Modcnf g) = tt
terminal_acts m (rec.Modref word) = tt
terminal_acts m rec.Chgrqd = tt
terminal_acts m (rec.Chgcnf plan) = tt
terminal_acts m (rec.Chgref word) = tt
terminal_acts m rec.Relrqd = tt
terminal_acts m (rec.Relcnf plan) = tt

-- of a record that the master takes
pub taken_acts : (from : Node) (m : MasterProc) (r : Rec) → FromIf (master_take from m r)
taken_acts T m r = terminal_acts m r
taken_acts A m r = second_acts A m r
taken_acts B m r = second_acts B m r
taken_acts M m r = tt

-- of an adoption
pub adopted_acts : (m : MasterProc) (id : ℕ) → LedFrom (master_adopted m id)
adopted_acts m id = led_acts (adopted_led id m m.command)

recovers_from : (m : MasterProc) (id : ℕ) (x : Node) → LedFrom (recovers_at m id x)
recovers_from m id M = led_acts (inl (refl, inl (tt, tt)))
recovers_from m id A = led_acts (inl (refl, inl (refl, tt)))
recovers_from m id B = led_acts (inl (refl, inl (refl, tt)))
recovers_from m id T = led_acts tt

by_row : (m : MasterProc) (id : ℕ) (o : Option Row) → LedFrom (recovers_row m id o)
by_row m id None = led_acts tt
by_row m id (Some r) = recovers_from m id r.anchor

command_from : (m : MasterProc) (e : Event) (o : Option ℕ) → LedFrom (command_by m e o)
command_from m e None = begins_from m false (draft m.table e)
command_from m e (Some id) = by_row m id (row m.table id)

-- of a command
pub command_acts : (m : MasterProc) (e : Event) → LedFrom (commands m e)
command_acts m e = command_from m e (recovered_by e)
