-- What the procedures of the master say, says nothing of anchors.
use Rattle.std.proofs.Common.{ℕ, ◌==◌, ◌++◌, Bool, true, false, List, [], ◌∷◌, Option, Some, None, refl, inl, inr}
use Rattle.std.specs.Prelude.{◌≡◌, if◌then◌else◌, Err, Ok, Result, filter, find, not, ⊤, ◌&&◌}
use Rattle.std.specs.List.{AllByRecursion, list_any}
use Rattle.std.proofs.lemmas.Bool.{cases_Bool}
use Rattle.dc_base.specs.Nodes.{is_same_node}
use Rattle.dc_base.specs.declared.answers.Refusal.{Refusal}
use Rattle.dc_base.specs.declared.answers.Word.{Word}
use Rattle.dc_base.specs.declared.events.Event.{Event}
use Rattle.dc_base.specs.declared.events.Event.TheVariants as event
use Rattle.dc_base.specs.declared.events.Note.{Note}
use Rattle.dc_base.specs.declared.events.Note.TheVariants as note
use Rattle.dc_base.specs.declared.nodes.Node.{Node}
use Rattle.dc_base.specs.declared.nodes.Node.TheVariants.{A, B, M, T}
use Rattle.dc_base.specs.declared.nodes.Want.{Want}
use Rattle.dc_base.specs.declared.nodes.Want.TheVariants as want
use Rattle.dc_base.specs.declared.records.Plan.{Plan}
use Rattle.dc_base.specs.declared.records.Rec.{Rec}
use Rattle.dc_base.specs.declared.records.Rec.TheVariants as rec
use Rattle.dc_base.specs.declared.records.RecKind.{RecKind}
use Rattle.dc_base.specs.declared.records.RecKind.TheVariants as kind
use Rattle.dc_base.specs.declared.records.StatusTransfer.{StatusTransfer}
use Rattle.transcript.proofs.OnEach.{each_append}
use Rattle.node_rules.specs.Acts.{ProcFault}
use Rattle.node_rules.specs.CommandTable.{row}
use Rattle.node_rules.specs.Drafts.{Draft, draft}
use Rattle.node_rules.specs.MasterCommands.{command_by, commands_unless, recovered_by, recovers_at, recovers_row}
use Rattle.node_rules.specs.MasterEnds.{ends, ends_gone, ends_if, ends_recovering, forgetting, is_release_spent, releases_if, retries, tried_first, tries, tries_if, tries_now, waits_for}
use Rattle.node_rules.specs.MasterGo.{alone, begins, begins_by, begins_if, drawn, goes, leave_acts, let_go, lets_go, moves_here, preparing, way}
use Rattle.node_rules.specs.MasterRecords.{adopted_if, agreed, agreed_if, asking_refusal, begins_asked, completed, completed_if, completing, failed_legs, failing, failing_at, is_answer, is_moving, moved, passed_to, recovered, recovered_at, recovered_second, recovered_there, rejected, rejected_if, rejecting, released, transferred, wanted_by}
use Rattle.node_rules.specs.MasterState.{MasterActs, MasterProc, waits_at, with_waits}
use Rattle.node_rules.specs.MasterTaking.{adopted_here, from_second, from_terminal, master_take}
use Rattle.node_rules.specs.Places.{is_at, other_second}
use Rattle.node_rules.specs.declared.acts.Act.{Act}
use Rattle.node_rules.specs.declared.acts.Act.TheVariants.{FailOne as fail_one, Go as go, Pass as pass, Prepare as prepare, RecoverOne as recover_one, Say as say, Send as send, UnlockAll as unlock_all}
use Rattle.node_rules.specs.declared.commands.Change.{Change}
use Rattle.node_rules.specs.declared.commands.Command.{Command}
use Rattle.node_rules.specs.declared.commands.Command.TheVariants.{Asked as asked, Gone as gone, Recovering as recovering}
use Rattle.node_rules.specs.declared.commands.First.{First}
use Rattle.node_rules.specs.declared.commands.First.TheVariants.{Addition as addition, Modification as modification, Release as release}
use Rattle.node_rules.specs.declared.commands.Going.{Going}
use Rattle.node_rules.specs.declared.commands.Row.{Row}
use Rattle.node_rules.specs.declared.commands.Way.{Way}
use Rattle.node_rules.specs.declared.commands.Leaving.{Leaving}
use Rattle.run_holders.specs.Actives.{is_of_anchor}

-- an act says nothing of them
abbrev pub SaysPlain : Act → Type 0
SaysPlain (say n) = is_of_anchor n ≡ false
SaysPlain (send to r) = ⊤
SaysPlain (prepare p) = ⊤
SaysPlain (go p) = ⊤
SaysPlain (unlock_all g) = ⊤
SaysPlain (recover_one id) = ⊤
SaysPlain (fail_one id g) = ⊤
SaysPlain (pass st) = ⊤

-- nor does any of several
abbrev pub SayPlain : List Act → Type 0
SayPlain acts = AllByRecursion SaysPlain acts

-- ---- the procedures

says_append : (xs ys : List Act) → SayPlain xs → SayPlain ys → SayPlain (xs ++ ys)
says_append xs ys one more = each_append SaysPlain xs ys one more

-- of what is taken
abbrev pub TakesPlain : Result MasterActs ProcFault → Type 0
TakesPlain (Ok r) = SayPlain r.1
TakesPlain (Err why) = ⊤

preparing_says : (p : Plan) → SayPlain (preparing p)
preparing_says p = elim (cases_Bool (moves_here p)) [ inl yes' ↦ rw yes' (tt, tt) | inr no' ↦ rw no' tt ]

leave_says : (x : Option Node) (how : Option Leaving) (p : Plan) → SayPlain (leave_acts x how p)
leave_says None how p = tt
leave_says (Some x) None p = tt
leave_says (Some x) (Some how) p = (tt, tt)

goes_says : (m : MasterProc) (c : Change) (w : Way) → SayPlain (goes m c w).1
goes_says m c w = (tt, (tt, leave_says w.leaving w.told c.plan))

begins_by_says : (m : MasterProc) (d : Draft) (wanted : Bool) (o : Option (First × Node)) → SayPlain (begins_by m d wanted o).1
begins_by_says m d wanted None = goes_says m d.change alone
begins_by_says m d wanted (Some (first, who)) = (tt, tt)

begins_says : (m : MasterProc) (d : Draft) (wanted : Bool) → SayPlain (begins m d wanted).1
begins_says m d wanted = says_append (preparing d.change.plan) (begins_by (drawn m d) d wanted d.first).1 (preparing_says d.change.plan) (begins_by_says (drawn m d) d wanted d.first)

begins_if_says : (m : MasterProc) (wanted : Bool) (o : Option Draft) → SayPlain (begins_if m wanted o).1
begins_if_says m wanted None = tt
begins_if_says m wanted (Some d) = begins_says m d wanted

lets_go_says : (m : MasterProc) (x : Node) (d : Draft) → SayPlain (lets_go m x d).1
lets_go_says m x d = (refl, says_append (preparing d.change.plan) (goes (drawn m d) d.change (let_go x)).1 (preparing_says d.change.plan) (goes_says (drawn m d) d.change (let_go x)))

releases_says : (m : MasterProc) (x : Node) (spent : Bool) (o : Option Draft) → SayPlain (releases_if m x spent o).1
releases_says m x spent None = tt
releases_says m x true (Some d) = tt
releases_says m x false (Some d) = lets_go_says (with_waits false x m) x d

tries_now_says : (m : MasterProc) (x : Node) (is : Bool) → SayPlain (tries_now m x is).1
tries_now_says m x true = releases_says m x (is_release_spent m.table (draft m.table event.Release)) (draft m.table event.Release)
tries_now_says m x false = (tt, tt)

tries_if_says : (m : MasterProc) (x : Node) (waits : Bool) (o : Option Command) → SayPlain (tries_if m x waits o).1
tries_if_says m x false o = tt
tries_if_says m x true None = tries_now_says m x (is_at x m.table.sec)
tries_if_says m x true (Some (asked c first who wanted)) = tt
tries_if_says m x true (Some (gone plan going)) = tt
tries_if_says m x true (Some (recovering id terminal second)) = tt

tries_says : (x : Node) (m : MasterProc) → SayPlain (tries x m).1
tries_says x m = tries_if_says m x (waits_at m x) m.command

retries_says : (m : MasterProc) → SayPlain (retries m).1
retries_says m = let x = tried_first m.table.sec in says_append (tries x m).1 (tries (other_second x) (tries x m).0).1 (tries_says x m) (tries_says (other_second x) (tries x m).0)

ends_says : (m : MasterProc) (acts : List Act) (n : Note) → SayPlain acts → is_of_anchor n ≡ false → SayPlain (ends m acts n).1
ends_says m acts n plain is =
    says_append (acts ++ say n ∷ []) (retries (record m { command = None })).1 (says_append acts (say n ∷ []) plain (is, tt)) (retries_says (record m { command = None }))

forgetting_says : (x : Option Node) (g : ℕ) → SayPlain (forgetting x g)
forgetting_says None g = tt
forgetting_says (Some x) g = (tt, tt)

ends_gone_says : (m : MasterProc) (p : Plan) (w : Going) (complete : Bool) (moving : List (ℕ × Node)) → SayPlain (ends_gone m p w complete moving).1
ends_gone_says m p w false moving = tt
ends_gone_says m p w true (x ∷ xs) = tt
ends_gone_says m p w true [] = ends_says m (forgetting w.leaving p.g) note.Done (forgetting_says w.leaving p.g) refl

ends_recovering_says : (m : MasterProc) (terminal : Bool) (second : Option Node) → SayPlain (ends_recovering m terminal second).1
ends_recovering_says m false None = ends_says m [] note.Done tt refl
ends_recovering_says m false (Some x) = tt
ends_recovering_says m true second = tt

ends_if_says : (m : MasterProc) (o : Option Command) → SayPlain (ends_if m o).1
ends_if_says m None = tt
ends_if_says m (Some (asked c first who wanted)) = tt
ends_if_says m (Some (gone plan going)) = ends_gone_says m plan going going.complete going.moving
ends_if_says m (Some (recovering id terminal second)) = ends_recovering_says m terminal second

waits_says : (m : MasterProc) (c : Command) → SayPlain (waits_for m c).1
waits_says m c = ends_if_says (record m { command = Some c }) (Some c)

-- ---- records

agreed_if_says : (k : RecKind) (m : MasterProc) (c : Change) (f : First) (who : Node) (wanted is : Bool) → TakesPlain (agreed_if k m c f who wanted is)
agreed_if_says k m c f who wanted true = goes_says m c (way f who wanted m.table.sec)
agreed_if_says k m c f who wanted false = tt

agreed_says : (k : RecKind) (f : First) (from : Node) (g : ℕ) (m : MasterProc) (o : Option Command) → TakesPlain (agreed k f from g m o)
agreed_says k f from g m None = tt
agreed_says k f from g m (Some (asked c first who wanted)) = agreed_if_says k m c first who wanted (is_answer f from g first who c.plan.g)
agreed_says k f from g m (Some (gone plan going)) = tt
agreed_says k f from g m (Some (recovering id terminal second)) = tt

released_says : (r : Result MasterActs ProcFault) (m : MasterProc) → TakesPlain r → TakesPlain (released r m)
released_says (Ok r) m plain = plain
released_says (Err why) m plain = tt

rejecting_says : (f : First) (who : Node) (wanted : Bool) → SayPlain (rejecting f who wanted)
rejecting_says addition who false = tt
rejecting_says modification who false = tt
rejecting_says release who false = tt
rejecting_says addition who true = (tt, tt)
rejecting_says modification who true = (tt, tt)
rejecting_says release who true = tt

rejected_if_says : (k : RecKind) (m : MasterProc) (f : First) (who : Node) (wanted is : Bool) → TakesPlain (rejected_if k m f who wanted is)
rejected_if_says k m f who wanted true = ends_says m (rejecting f who wanted) note.Rejected (rejecting_says f who wanted) refl
rejected_if_says k m f who wanted false = tt

rejected_says : (k : RecKind) (f : First) (from : Node) (g : ℕ) (m : MasterProc) (o : Option Command) → TakesPlain (rejected k f from g m o)
rejected_says k f from g m None = tt
rejected_says k f from g m (Some (asked c first who wanted)) = rejected_if_says k m first who wanted (is_answer f from g first who c.plan.g)
rejected_says k f from g m (Some (gone plan going)) = tt
rejected_says k f from g m (Some (recovering id terminal second)) = tt

completing_says : (x : Option Node) (confirms : Bool) (g : ℕ) → SayPlain (completing x confirms g)
completing_says None confirms g = tt
completing_says (Some x) true g = (tt, tt)
completing_says (Some x) false g = (tt, tt)

completed_if_says : (m : MasterProc) (p : Plan) (w : Going) (is : Bool) → TakesPlain (completed_if m p w is)
completed_if_says m p w true =
    says_append (completing w.due w.confirms p.g ++ unlock_all p.g ∷ []) (waits_for m (gone p (record w { complete = true }))).1
    (says_append (completing w.due w.confirms p.g) (unlock_all p.g ∷ []) (completing_says w.due w.confirms p.g) (tt, tt)) (waits_says m (gone p (record w { complete = true })))
completed_if_says m p w false = tt

completed_says : (g : ℕ) (m : MasterProc) (o : Option Command) → TakesPlain (completed g m o)
completed_says g m None = tt
completed_says g m (Some (asked c first who wanted)) = tt
completed_says g m (Some (gone p w)) = completed_if_says m p w ((p.g == g) && not w.complete)
completed_says g m (Some (recovering id terminal second)) = tt

failing_at_says : (id g : ℕ) (x : Node) → SayPlain (failing_at id g x)
failing_at_says id g M = (tt, tt)
failing_at_says id g A = (tt, tt)
failing_at_says id g B = (tt, tt)
failing_at_says id g T = tt

failing_says : (id g : ℕ) (o : Option Row) → SayPlain (failing id g o)
failing_says id g None = tt
failing_says id g (Some r) = elim (cases_Bool (r.g == g)) [ inl yes' ↦ rw yes' (failing_at_says id g r.anchor) | inr no' ↦ rw no' tt ]

failed_says : (m : MasterProc) (pairs : List (ℕ × ℕ)) → SayPlain (failed_legs m pairs).1
failed_says m [] = tt
failed_says m (x ∷ pairs) = says_append (failing x.0 x.1 (row m.table x.0)) (failed_legs m pairs).1 (failing_says x.0 x.1 (row m.table x.0)) (failed_says m pairs)

recovered_there_says : (m : MasterProc) (id : ℕ) (second : Option Node) (is : Bool) → TakesPlain (recovered_there m id second is)
recovered_there_says m id second true = waits_says m (recovering id false second)
recovered_there_says m id second false = tt

recovered_second_says : (m : MasterProc) (id : ℕ) (terminal is : Bool) → TakesPlain (recovered_second m id terminal is)
recovered_second_says m id terminal true = waits_says m (recovering id terminal None)
recovered_second_says m id terminal false = tt

recovered_at_says : (x : Node) (m : MasterProc) (id : ℕ) (terminal : Bool) (second : Option Node) (same : Bool) → TakesPlain (recovered_at x m id terminal second same)
recovered_at_says T m id terminal second same = recovered_there_says m id second (terminal && same)
recovered_at_says A m id terminal second same = recovered_second_says m id terminal (is_at A second && same)
recovered_at_says B m id terminal second same = recovered_second_says m id terminal (is_at B second && same)
recovered_at_says M m id terminal second same = tt

recovered_says : (from : Node) (id : ℕ) (m : MasterProc) (o : Option Command) → TakesPlain (recovered from id m o)
recovered_says from id m None = tt
recovered_says from id m (Some (asked c first who wanted)) = tt
recovered_says from id m (Some (gone plan going)) = tt
recovered_says from id m (Some (recovering i terminal second)) = recovered_at_says from m i terminal second (i == id)

adopted_if_says : (k : RecKind) (m : MasterProc) (id : ℕ) (x : Node) (p : Plan) (w : Going) (is : Bool) → TakesPlain (adopted_if k m id x p w is)
adopted_if_says k m id x p w true = waits_says m (gone p (record w { moving = filter (λ y. not (is_moving id x y)) w.moving }))
adopted_if_says k m id x p w false = tt

moved_says : (from : Node) (g id : ℕ) (m : MasterProc) (o : Option Command) → TakesPlain (moved from g id m o)
moved_says from g id m None = tt
moved_says from g id m (Some (asked c first who wanted)) = tt
moved_says from g id m (Some (gone p w)) = adopted_if_says kind.Moved m id from p w ((p.g == g) && list_any (is_moving id from) w.moving)
moved_says from g id m (Some (recovering i terminal second)) = tt

passed_says : (m : MasterProc) (s : StatusTransfer) (from : Node) (o : Option (ℕ × Node)) → TakesPlain (passed_to m s from o)
passed_says m s from None = tt
passed_says m s from (Some (id, M)) = (tt, tt)
passed_says m s from (Some (id, A)) = elim (cases_Bool (is_same_node from A)) [ inl yes' ↦ rw yes' tt | inr no' ↦ rw no' (tt, tt) ]
passed_says m s from (Some (id, B)) = elim (cases_Bool (is_same_node from B)) [ inl yes' ↦ rw yes' tt | inr no' ↦ rw no' (tt, tt) ]
passed_says m s from (Some (id, T)) = tt

transferred_says : (from : Node) (s : StatusTransfer) (m : MasterProc) (o : Option Command) → TakesPlain (transferred from s m o)
transferred_says from s m None = tt
transferred_says from s m (Some (asked c first who wanted)) = tt
transferred_says from s m (Some (gone p w)) = passed_says m s from (if p.g == s.g then find (λ (x : ℕ × Node). x.0 == s.id) w.moving else None)
transferred_says from s m (Some (recovering i terminal second)) = tt

asked_says : (m : MasterProc) (from : Node) (what : Want) (e : Event) (refuse : Word → Rec) (o : Option Word) → SayPlain (begins_asked m from what e refuse o).1
asked_says m from what e refuse (Some why) = (tt, tt)
asked_says m from what e refuse None = (refl, begins_if_says m true (draft m.table e))

wanted_says : (from : Node) (w : Want) (m : MasterProc) → SayPlain (wanted_by from w m).1
wanted_says from want.Rekey m = asked_says m from want.Rekey event.RekeySecond (λ w. rec.Modref w) (asking_refusal from m)
wanted_says from want.Change m = asked_says m from want.Change event.Change (λ w. rec.Chgref w) (asking_refusal from m)
wanted_says from want.Release m = tries_says from (with_waits true from m)

second_says : (x : Node) (m : MasterProc) (r : Rec) → TakesPlain (from_second x m r)
second_says x m (rec.Addack g) = agreed_says kind.Addack addition x g m m.command
second_says x m (rec.Modack g) = agreed_says kind.Modack modification x g m m.command
second_says x m (rec.Relack g) = released_says (agreed kind.Relack release x g m m.command) m (agreed_says kind.Relack release x g m m.command)
second_says x m (rec.Addrej g) = rejected_says kind.Addrej addition x g m m.command
second_says x m (rec.Modrej g) = rejected_says kind.Modrej modification x g m m.command
second_says x m (rec.Relrej g) = rejected_says kind.Relrej release x g m m.command
second_says x m (rec.Snst status) = transferred_says x status m m.command
second_says x m (rec.Moved g id) = moved_says x g id m m.command
second_says x m (rec.Recovd id) = recovered_says x id m m.command
second_says x m rec.Modrqd = wanted_says x want.Rekey m
second_says x m rec.Chgrqd = wanted_says x want.Change m
second_says x m rec.Relrqd = wanted_says x want.Release m
second_says x m (rec.Reconf plan key) = tt
second_says x m (rec.Rcomp g) = tt
second_says x m (rec.Scgf failed) = tt
second_says x m (rec.Recov id) = tt
second_says x m (rec.Addreq plan key) = tt
second_says x m (rec.Modreq plan key) = tt
second_says x m (rec.Recfg g) = tt
second_says x m (rec.Relreq plan) = tt
second_says x m (rec.Uecr g) = tt
second_says x m (rec.Scgn id g) = tt
second_says x m (rec.Modcnf g) = tt
second_says x m (rec.Modref word) = tt
second_says x m (rec.Chgcnf plan) = tt
second_says x m (rec.Chgref word) = tt
second_says x m (rec.Relcnf plan) = tt

terminal_says : (m : MasterProc) (r : Rec) → TakesPlain (from_terminal m r)
terminal_says m (rec.Rcomp g) = completed_says g m m.command
terminal_says m (rec.Scgf failed) = failed_says m failed
terminal_says m (rec.Recovd id) = recovered_says T id m m.command
terminal_says m (rec.Reconf plan key) = tt
terminal_says m (rec.Recov id) = tt
terminal_says m (rec.Addreq plan key) = tt
terminal_says m (rec.Addack g) = tt
terminal_says m (rec.Addrej g) = tt
terminal_says m (rec.Modreq plan key) = tt
terminal_says m (rec.Modack g) = tt
terminal_says m (rec.Modrej g) = tt
terminal_says m (rec.Recfg g) = tt
terminal_says m (rec.Relreq plan) = tt
terminal_says m (rec.Relack g) = tt
terminal_says m (rec.Relrej g) = tt
terminal_says m (rec.Uecr g) = tt
terminal_says m (rec.Snst status) = tt
terminal_says m (rec.Moved g id) = tt
terminal_says m (rec.Scgn id g) = tt
terminal_says m rec.Modrqd = tt
terminal_says m (rec.Modcnf g) = tt
terminal_says m (rec.Modref word) = tt
terminal_says m rec.Chgrqd = tt
terminal_says m (rec.Chgcnf plan) = tt
terminal_says m (rec.Chgref word) = tt
terminal_says m rec.Relrqd = tt
terminal_says m (rec.Relcnf plan) = tt

pub take_says : (from : Node) (m : MasterProc) (r : Rec) → TakesPlain (master_take from m r)
take_says T m r = terminal_says m r
take_says A m r = second_says A m r
take_says B m r = second_says B m r
take_says M m r = tt

pub adopted_says : (id : ℕ) (m : MasterProc) (o : Option Command) → SayPlain (adopted_here id m o).1
adopted_says id m None = tt
adopted_says id m (Some (asked c first who wanted)) = tt
adopted_says id m (Some (gone p w)) = waits_says m (gone p (record w { moving = filter (λ y. not (is_moving id M y)) w.moving }))
adopted_says id m (Some (recovering i terminal second)) = tt

-- ---- commands

recovers_at_says : (m : MasterProc) (id : ℕ) (x : Node) → SayPlain (recovers_at m id x).1
recovers_at_says m id M = (tt, (tt, tt))
recovers_at_says m id A = (tt, (tt, tt))
recovers_at_says m id B = (tt, (tt, tt))
recovers_at_says m id T = tt

recovers_row_says : (m : MasterProc) (id : ℕ) (o : Option Row) → SayPlain (recovers_row m id o).1
recovers_row_says m id None = tt
recovers_row_says m id (Some r) = recovers_at_says m id r.anchor

command_by_says : (m : MasterProc) (e : Event) (o : Option ℕ) → SayPlain (command_by m e o).1
command_by_says m e None = begins_if_says m false (draft m.table e)
command_by_says m e (Some id) = recovers_row_says m id (row m.table id)

pub commands_says : (m : MasterProc) (e : Event) (o : Option Refusal) → TakesPlain (commands_unless m e o)
commands_says m e None = command_by_says m e (recovered_by e)
commands_says m e (Some why) = tt
