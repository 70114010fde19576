-- The records that the procedures of the master send are for nodes that take such records.
use Rattle.std.proofs.Common.{ℕ, ◌≡◌, ◌==◌, ◌++◌, Bool, true, false, List, [], ◌∷◌, Option, Some, None, refl, inl, inr}
use Rattle.std.specs.Prelude.{if◌then◌else◌, Err, Ok, Result, filter, find, not, ⊤, ◌&&◌}
use Rattle.std.specs.List.{AllByRecursion, list_any}
use Rattle.std.proofs.lemmas.Bool.{cases_Bool}
use Rattle.dc_base.specs.Nodes.{is_same_node, is_secondary}
use Rattle.dc_base.specs.declared.answers.Refusal.{Refusal}
use Rattle.dc_base.specs.declared.answers.Word.{Word}
use Rattle.dc_base.specs.declared.events.Event.{Event}
use Rattle.dc_base.specs.declared.events.Event.TheVariants as event
use Rattle.dc_base.specs.declared.events.Note.{Note}
use Rattle.dc_base.specs.declared.events.Note.TheVariants as note
use Rattle.dc_base.specs.declared.nodes.Node.{Node}
use Rattle.dc_base.specs.declared.nodes.Node.TheVariants.{A, B, M, T}
use Rattle.dc_base.specs.declared.nodes.Want.{Want}
use Rattle.dc_base.specs.declared.nodes.Want.TheVariants as want
use Rattle.dc_base.specs.declared.records.Plan.{Plan}
use Rattle.dc_base.specs.declared.records.Rec.{Rec}
use Rattle.dc_base.specs.declared.records.Rec.TheVariants as rec
use Rattle.dc_base.specs.declared.records.RecKind.{RecKind}
use Rattle.dc_base.specs.declared.records.RecKind.TheVariants as kind
use Rattle.dc_base.specs.declared.records.StatusTransfer.{StatusTransfer}
use Rattle.transcript.proofs.OnEach.{each_append}
use Rattle.claims.specs.OnLink.{record_fits}
use Rattle.dc_base.specs.Links.{link}
use Rattle.dc_base.specs.declared.nodes.Class.TheVariants.{Ctl}
use Rattle.run_control.specs.Sound.{AddsSecond, IsSecond, IsSound, IsSoundCommand, IsSoundDraft, IsSoundFirst}
use Rattle.run_control.proofs.Sound.{draft_sound, other_is, way_leaving}
use Rattle.node_rules.specs.Acts.{ProcFault}
use Rattle.node_rules.specs.CommandTable.{row}
use Rattle.node_rules.specs.Drafts.{Draft, draft}
use Rattle.node_rules.specs.MasterCommands.{command_by, commands_unless, recovered_by, recovers_at, recovers_row}
use Rattle.node_rules.specs.MasterEnds.{ends, ends_gone, ends_if, ends_recovering, forgetting, is_release_spent, releases_if, retries, tried_first, tries, tries_if, tries_now, waits_for}
use Rattle.node_rules.specs.MasterGo.{alone, begins, begins_by, begins_if, drawn, goes, leave_acts, let_go, lets_go, moves_here, preparing, way}
use Rattle.node_rules.specs.MasterRecords.{adopted_if, agreed, agreed_if, asking_refusal, begins_asked, completed, completed_if, completing, failed_legs, failing, failing_at, is_answer, is_moving, moved, passed_to, recovered, recovered_at, recovered_second, recovered_there, rejected, rejected_if, rejecting, released, transferred, wanted_by}
use Rattle.node_rules.specs.MasterState.{MasterActs, MasterProc, with_waits}
use Rattle.node_rules.specs.MasterTaking.{adopted_here, from_second, from_terminal, master_take}
use Rattle.node_rules.specs.Places.{is_at, other_second}
use Rattle.node_rules.specs.declared.acts.Act.{Act}
use Rattle.node_rules.specs.declared.acts.Act.TheVariants.{Say as say, Send as send, UnlockAll as unlock_all}
use Rattle.node_rules.specs.declared.commands.Change.{Change}
use Rattle.node_rules.specs.declared.commands.Command.{Command}
use Rattle.node_rules.specs.declared.commands.Command.TheVariants.{Asked as asked, Gone as gone, Recovering as recovering}
use Rattle.node_rules.specs.declared.commands.First.{First}
use Rattle.node_rules.specs.declared.commands.First.TheVariants.{Addition as addition, Modification as modification, Release as release}
use Rattle.node_rules.specs.declared.commands.Going.{Going}
use Rattle.node_rules.specs.declared.commands.Row.{Row}
use Rattle.node_rules.specs.declared.commands.Way.{Way}
use Rattle.node_rules.specs.declared.commands.Leaving.{Leaving}
use Rattle.node_rules.specs.declared.commands.Leaving.TheVariants.{ByChangeConfirm as by_change_confirm, ByReleaseConfirm as by_release_confirm, ByRequest as by_request}

-- an act sends no record that does not fit its link
abbrev pub act_fits : Act → Bool
act_fits (send to r) = record_fits (link M to Ctl) r
act_fits _ = true

-- each is
abbrev pub AllFit : List Act → Type 0
AllFit acts = AllByRecursion (λ a. act_fits a ≡ true) acts

-- ---- the procedures

fits_append : (xs ys : List Act) → AllFit xs → AllFit ys → AllFit (xs ++ ys)
fits_append xs ys one more = each_append (λ a. act_fits a ≡ true) xs ys one more

-- of what is taken
abbrev pub TakeFits : Result MasterActs ProcFault → Type 0
TakeFits (Ok r) = AllFit r.1
TakeFits (Err why) = ⊤

preparing_fits : (p : Plan) → AllFit (preparing p)
preparing_fits p = elim (cases_Bool (moves_here p)) [ inl yes' ↦ rw yes' (refl, tt) | inr no' ↦ rw no' tt ]

leave_fits : (x : Option Node) (how : Option Leaving) (p : Plan) → IsSecond x → AllFit (leave_acts x how p)
leave_fits None how p second = tt
leave_fits (Some x) None p second = tt
leave_fits (Some x) (Some by_request) p second = (second, tt)
leave_fits (Some x) (Some by_change_confirm) p second = (second, tt)
leave_fits (Some x) (Some by_release_confirm) p second = (second, tt)

goes_fits : (m : MasterProc) (c : Change) (w : Way) → IsSecond w.leaving → AllFit (goes m c w).1
goes_fits m c w leaves = (refl, (refl, leave_fits w.leaving w.told c.plan leaves))

begins_by_fits : (m : MasterProc) (d : Draft) (wanted : Bool) (o : Option (First × Node)) → IsSoundFirst o → AllFit (begins_by m d wanted o).1
begins_by_fits m d wanted None first = goes_fits m d.change alone tt
begins_by_fits m d wanted (Some (addition, who)) first = (first, tt)
begins_by_fits m d wanted (Some (modification, who)) first = (first, tt)
begins_by_fits m d wanted (Some (release, who)) first = (first, tt)

begins_fits : (m : MasterProc) (d : Draft) (wanted : Bool) → IsSoundFirst d.first → AllFit (begins m d wanted).1
begins_fits m d wanted first = fits_append (preparing d.change.plan) (begins_by (drawn m d) d wanted d.first).1 (preparing_fits d.change.plan) (begins_by_fits (drawn m d) d wanted d.first first)

begins_if_fits : (m : MasterProc) (wanted : Bool) (o : Option Draft) → IsSoundDraft o → AllFit (begins_if m wanted o).1
begins_if_fits m wanted None sound = tt
begins_if_fits m wanted (Some d) sound = begins_fits m d wanted sound.1

lets_go_fits : (m : MasterProc) (x : Node) (d : Draft) → is_secondary x ≡ true → AllFit (lets_go m x d).1
lets_go_fits m x d second = (refl, fits_append (preparing d.change.plan) (goes (drawn m d) d.change (let_go x)).1 (preparing_fits d.change.plan) (goes_fits (drawn m d) d.change (let_go x) second))

releases_fits : (m : MasterProc) (x : Node) (spent : Bool) (o : Option Draft) → is_secondary x ≡ true → AllFit (releases_if m x spent o).1
releases_fits m x spent None second = tt
releases_fits m x true (Some d) second = tt
releases_fits m x false (Some d) second = lets_go_fits (with_waits false x m) x d second

tries_now_fits : (m : MasterProc) (x : Node) (is : Bool) → is_secondary x ≡ true → AllFit (tries_now m x is).1
tries_now_fits m x true second = releases_fits m x (is_release_spent m.table (draft m.table event.Release)) (draft m.table event.Release) second
tries_now_fits m x false second = (second, tt)

tries_if_fits : (m : MasterProc) (x : Node) (waits : Bool) (o : Option Command) → is_secondary x ≡ true → AllFit (tries_if m x waits o).1
tries_if_fits m x false o second = tt
tries_if_fits m x true None second = tries_now_fits m x (is_at x m.table.sec) second
tries_if_fits m x true (Some (asked c first who wanted)) second = tt
tries_if_fits m x true (Some (gone plan going)) second = tt
tries_if_fits m x true (Some (recovering id terminal who)) second = tt

tries_fits : (x : Node) (m : MasterProc) → AllFit (tries x m).1
tries_fits A m = tries_if_fits m A m.a_waits m.command refl
tries_fits B m = tries_if_fits m B m.b_waits m.command refl
tries_fits M m = tt
tries_fits T m = tt

retries_fits : (m : MasterProc) → AllFit (retries m).1
retries_fits m = let x = tried_first m.table.sec in fits_append (tries x m).1 (tries (other_second x) (tries x m).0).1 (tries_fits x m) (tries_fits (other_second x) (tries x m).0)

ends_fits : (m : MasterProc) (acts : List Act) (n : Note) → AllFit acts → AllFit (ends m acts n).1
ends_fits m acts n fit =
    fits_append (acts ++ say n ∷ []) (retries (record m { command = None })).1 (fits_append acts (say n ∷ []) fit (refl, tt)) (retries_fits (record m { command = None }))

forgetting_fits : (x : Option Node) (g : ℕ) → IsSecond x → AllFit (forgetting x g)
forgetting_fits None g second = tt
forgetting_fits (Some x) g second = (second, tt)

ends_gone_fits : (m : MasterProc) (p : Plan) (w : Going) (complete : Bool) (moving : List (ℕ × Node)) → IsSecond w.leaving → AllFit (ends_gone m p w complete moving).1
ends_gone_fits m p w false moving second = tt
ends_gone_fits m p w true (x ∷ xs) second = tt
ends_gone_fits m p w true [] second = ends_fits m (forgetting w.leaving p.g) note.Done (forgetting_fits w.leaving p.g second)

ends_recovering_fits : (m : MasterProc) (terminal : Bool) (second : Option Node) → AllFit (ends_recovering m terminal second).1
ends_recovering_fits m false None = ends_fits m [] note.Done tt
ends_recovering_fits m false (Some x) = tt
ends_recovering_fits m true second = tt

ends_if_fits : (m : MasterProc) (o : Option Command) → IsSoundCommand o → AllFit (ends_if m o).1
ends_if_fits m None sound = tt
ends_if_fits m (Some (asked c first who wanted)) sound = tt
ends_if_fits m (Some (gone plan going)) sound = ends_gone_fits m plan going going.complete going.moving sound.2
ends_if_fits m (Some (recovering id terminal second)) sound = ends_recovering_fits m terminal second

waits_fits : (m : MasterProc) (c : Command) → IsSoundCommand (Some c) → AllFit (waits_for m c).1
waits_fits m c sound = ends_if_fits (record m { command = Some c }) (Some c) sound

-- ---- records

agreed_if_fits : (k : RecKind) (m : MasterProc) (c : Change) (f : First) (who : Node) (wanted is : Bool) → IsSecond m.table.sec → is_secondary who ≡ true → TakeFits (agreed_if k m c f who wanted is)
agreed_if_fits k m c f who wanted true sec second = goes_fits m c (way f who wanted m.table.sec) (way_leaving f who wanted m.table.sec second sec)
agreed_if_fits k m c f who wanted false sec second = tt

agreed_fits : (k : RecKind) (f : First) (from : Node) (g : ℕ) (m : MasterProc) (o : Option Command) → IsSecond m.table.sec → IsSoundCommand o → TakeFits (agreed k f from g m o)
agreed_fits k f from g m None sec sound = tt
agreed_fits k f from g m (Some (asked c first who wanted)) sec sound = agreed_if_fits k m c first who wanted (is_answer f from g first who c.plan.g) sec sound.1
agreed_fits k f from g m (Some (gone plan going)) sec sound = tt
agreed_fits k f from g m (Some (recovering id terminal second)) sec sound = tt

released_fits : (r : Result MasterActs ProcFault) (m : MasterProc) → TakeFits r → TakeFits (released r m)
released_fits (Ok r) m fit = fit
released_fits (Err why) m fit = tt

rejecting_fits : (f : First) (who : Node) (wanted : Bool) → is_secondary who ≡ true → AllFit (rejecting f who wanted)
rejecting_fits addition who false second = tt
rejecting_fits modification who false second = tt
rejecting_fits release who false second = tt
rejecting_fits addition who true second = (other_is who, tt)
rejecting_fits modification who true second = (second, tt)
rejecting_fits release who true second = tt

rejected_if_fits : (k : RecKind) (m : MasterProc) (f : First) (who : Node) (wanted is : Bool) → is_secondary who ≡ true → TakeFits (rejected_if k m f who wanted is)
rejected_if_fits k m f who wanted true second = ends_fits m (rejecting f who wanted) note.Rejected (rejecting_fits f who wanted second)
rejected_if_fits k m f who wanted false second = tt

rejected_fits : (k : RecKind) (f : First) (from : Node) (g : ℕ) (m : MasterProc) (o : Option Command) → IsSoundCommand o → TakeFits (rejected k f from g m o)
rejected_fits k f from g m None sound = tt
rejected_fits k f from g m (Some (asked c first who wanted)) sound = rejected_if_fits k m first who wanted (is_answer f from g first who c.plan.g) sound.1
rejected_fits k f from g m (Some (gone plan going)) sound = tt
rejected_fits k f from g m (Some (recovering id terminal second)) sound = tt

completing_fits : (x : Option Node) (confirms : Bool) (g : ℕ) → IsSecond x → AllFit (completing x confirms g)
completing_fits None confirms g second = tt
completing_fits (Some x) true g second = (second, tt)
completing_fits (Some x) false g second = (second, tt)

completed_if_fits : (m : MasterProc) (p : Plan) (w : Going) (is : Bool) → IsSoundCommand (Some (gone p w)) → TakeFits (completed_if m p w is)
completed_if_fits m p w true sound =
    fits_append (completing w.due w.confirms p.g ++ unlock_all p.g ∷ []) (waits_for m (gone p (record w { complete = true }))).1
    (fits_append (completing w.due w.confirms p.g) (unlock_all p.g ∷ []) (completing_fits w.due w.confirms p.g sound.1) (refl, tt)) (waits_fits m (gone p (record w { complete = true })) sound)
completed_if_fits m p w false sound = tt

completed_fits : (g : ℕ) (m : MasterProc) (o : Option Command) → IsSoundCommand o → TakeFits (completed g m o)
completed_fits g m None sound = tt
completed_fits g m (Some (asked c first who wanted)) sound = tt
completed_fits g m (Some (gone p w)) sound = completed_if_fits m p w ((p.g == g) && not w.complete) sound
completed_fits g m (Some (recovering id terminal second)) sound = tt

failing_at_fits : (id g : ℕ) (x : Node) → AllFit (failing_at id g x)
failing_at_fits id g M = (refl, tt)
failing_at_fits id g A = (refl, tt)
failing_at_fits id g B = (refl, tt)
failing_at_fits id g T = tt

failing_fits : (id g : ℕ) (o : Option Row) → AllFit (failing id g o)
failing_fits id g None = tt
failing_fits id g (Some r) = elim (cases_Bool (r.g == g)) [ inl yes' ↦ rw yes' (failing_at_fits id g r.anchor) | inr no' ↦ rw no' tt ]

failed_fits : (m : MasterProc) (pairs : List (ℕ × ℕ)) → AllFit (failed_legs m pairs).1
failed_fits m [] = tt
failed_fits m (x ∷ pairs) = fits_append (failing x.0 x.1 (row m.table x.0)) (failed_legs m pairs).1 (failing_fits x.0 x.1 (row m.table x.0)) (failed_fits m pairs)

recovered_there_fits : (m : MasterProc) (id : ℕ) (second : Option Node) (is : Bool) → IsSecond second → TakeFits (recovered_there m id second is)
recovered_there_fits m id second true sound = waits_fits m (recovering id false second) sound
recovered_there_fits m id second false sound = tt

recovered_second_fits : (m : MasterProc) (id : ℕ) (terminal is : Bool) → TakeFits (recovered_second m id terminal is)
recovered_second_fits m id terminal true = waits_fits m (recovering id terminal None) tt
recovered_second_fits m id terminal false = tt

recovered_at_fits : (x : Node) (m : MasterProc) (id : ℕ) (terminal : Bool) (second : Option Node) (same : Bool) → IsSecond second → TakeFits (recovered_at x m id terminal second same)
recovered_at_fits T m id terminal second same sound = recovered_there_fits m id second (terminal && same) sound
recovered_at_fits A m id terminal second same sound = recovered_second_fits m id terminal (is_at A second && same)
recovered_at_fits B m id terminal second same sound = recovered_second_fits m id terminal (is_at B second && same)
recovered_at_fits M m id terminal second same sound = tt

recovered_fits : (from : Node) (id : ℕ) (m : MasterProc) (o : Option Command) → IsSoundCommand o → TakeFits (recovered from id m o)
recovered_fits from id m None sound = tt
recovered_fits from id m (Some (asked c first who wanted)) sound = tt
recovered_fits from id m (Some (gone plan going)) sound = tt
recovered_fits from id m (Some (recovering i terminal second)) sound = recovered_at_fits from m i terminal second (i == id) sound

adopted_if_fits : (k : RecKind) (m : MasterProc) (id : ℕ) (x : Node) (p : Plan) (w : Going) (is : Bool) → IsSoundCommand (Some (gone p w)) → TakeFits (adopted_if k m id x p w is)
adopted_if_fits k m id x p w true sound = waits_fits m (gone p (record w { moving = filter (λ y. not (is_moving id x y)) w.moving })) sound
adopted_if_fits k m id x p w false sound = tt

moved_fits : (from : Node) (g id : ℕ) (m : MasterProc) (o : Option Command) → IsSoundCommand o → TakeFits (moved from g id m o)
moved_fits from g id m None sound = tt
moved_fits from g id m (Some (asked c first who wanted)) sound = tt
moved_fits from g id m (Some (gone p w)) sound = adopted_if_fits kind.Moved m id from p w ((p.g == g) && list_any (is_moving id from) w.moving) sound
moved_fits from g id m (Some (recovering i terminal second)) sound = tt

passed_fits : (m : MasterProc) (s : StatusTransfer) (from : Node) (o : Option (ℕ × Node)) → TakeFits (passed_to m s from o)
passed_fits m s from None = tt
passed_fits m s from (Some (id, M)) = (refl, tt)
passed_fits m s from (Some (id, A)) = elim (cases_Bool (is_same_node from A)) [ inl yes' ↦ rw yes' tt | inr no' ↦ rw no' (refl, tt) ]
passed_fits m s from (Some (id, B)) = elim (cases_Bool (is_same_node from B)) [ inl yes' ↦ rw yes' tt | inr no' ↦ rw no' (refl, tt) ]
passed_fits m s from (Some (id, T)) = tt

transferred_fits : (from : Node) (s : StatusTransfer) (m : MasterProc) (o : Option Command) → TakeFits (transferred from s m o)
transferred_fits from s m None = tt
transferred_fits from s m (Some (asked c first who wanted)) = tt
transferred_fits from s m (Some (gone p w)) = passed_fits m s from (if p.g == s.g then find (λ (x : ℕ × Node). x.0 == s.id) w.moving else None)
transferred_fits from s m (Some (recovering i terminal second)) = tt

asked_fits : (m : MasterProc) (from : Node) (what : Want) (e : Event) (refuse : Word → Rec) → ((w : Word) → record_fits (link M from Ctl) (refuse w) ≡ true) → (o : Option Word) → IsSoundDraft (draft m.table e) → AllFit (begins_asked m from what e refuse o).1
asked_fits m from what e refuse other (Some why) sound = (other why, tt)
asked_fits m from what e refuse other None sound = (refl, begins_if_fits m true (draft m.table e) sound)

wanted_fits : (from : Node) (w : Want) (m : MasterProc) → is_secondary from ≡ true → IsSound m → AllFit (wanted_by from w m).1
wanted_fits from want.Rekey m second sound = asked_fits m from want.Rekey event.RekeySecond (λ w. rec.Modref w) (λ w. second) (asking_refusal from m) (draft_sound m.table event.RekeySecond tt sound.sec)
wanted_fits from want.Change m second sound = asked_fits m from want.Change event.Change (λ w. rec.Chgref w) (λ w. second) (asking_refusal from m) (draft_sound m.table event.Change tt sound.sec)
wanted_fits from want.Release m second sound = tries_fits from (with_waits true from m)

second_fits : (x : Node) (m : MasterProc) (r : Rec) → is_secondary x ≡ true → IsSound m → TakeFits (from_second x m r)
second_fits x m (rec.Addack g) second sound = agreed_fits kind.Addack addition x g m m.command sound.sec sound.command
second_fits x m (rec.Modack g) second sound = agreed_fits kind.Modack modification x g m m.command sound.sec sound.command
second_fits x m (rec.Relack g) second sound = released_fits (agreed kind.Relack release x g m m.command) m (agreed_fits kind.Relack release x g m m.command sound.sec sound.command)
second_fits x m (rec.Addrej g) second sound = rejected_fits kind.Addrej addition x g m m.command sound.command
second_fits x m (rec.Modrej g) second sound = rejected_fits kind.Modrej modification x g m m.command sound.command
second_fits x m (rec.Relrej g) second sound = rejected_fits kind.Relrej release x g m m.command sound.command
second_fits x m (rec.Snst status) second sound = transferred_fits x status m m.command
second_fits x m (rec.Moved g id) second sound = moved_fits x g id m m.command sound.command
second_fits x m (rec.Recovd id) second sound = recovered_fits x id m m.command sound.command
second_fits x m rec.Modrqd second sound = wanted_fits x want.Rekey m second sound
second_fits x m rec.Chgrqd second sound = wanted_fits x want.Change m second sound
second_fits x m rec.Relrqd second sound = wanted_fits x want.Release m second sound
second_fits x m (rec.Reconf plan key) second sound = tt
second_fits x m (rec.Rcomp g) second sound = tt
second_fits x m (rec.Scgf failed) second sound = tt
second_fits x m (rec.Recov id) second sound = tt
second_fits x m (rec.Addreq plan key) second sound = tt
second_fits x m (rec.Modreq plan key) second sound = tt
second_fits x m (rec.Recfg g) second sound = tt
second_fits x m (rec.Relreq plan) second sound = tt
second_fits x m (rec.Uecr g) second sound = tt
second_fits x m (rec.Scgn id g) second sound = tt
second_fits x m (rec.Modcnf g) second sound = tt
second_fits x m (rec.Modref word) second sound = tt
second_fits x m (rec.Chgcnf plan) second sound = tt
second_fits x m (rec.Chgref word) second sound = tt
second_fits x m (rec.Relcnf plan) second sound = tt

terminal_fits : (m : MasterProc) (r : Rec) → IsSound m → TakeFits (from_terminal m r)
terminal_fits m (rec.Rcomp g) sound = completed_fits g m m.command sound.command
terminal_fits m (rec.Scgf failed) sound = failed_fits m failed
terminal_fits m (rec.Recovd id) sound = recovered_fits T id m m.command sound.command
terminal_fits m (rec.Reconf plan key) sound = tt
terminal_fits m (rec.Recov id) sound = tt
terminal_fits m (rec.Addreq plan key) sound = tt
terminal_fits m (rec.Addack g) sound = tt
terminal_fits m (rec.Addrej g) sound = tt
terminal_fits m (rec.Modreq plan key) sound = tt
terminal_fits m (rec.Modack g) sound = tt
terminal_fits m (rec.Modrej g) sound = tt
terminal_fits m (rec.Recfg g) sound = tt
terminal_fits m (rec.Relreq plan) sound = tt
terminal_fits m (rec.Relack g) sound = tt
terminal_fits m (rec.Relrej g) sound = tt
terminal_fits m (rec.Uecr g) sound = tt
terminal_fits m (rec.Snst status) sound = tt
terminal_fits m (rec.Moved g id) sound = tt
terminal_fits m (rec.Scgn id g) sound = tt
terminal_fits m rec.Modrqd sound = tt
terminal_fits m (rec.Modcnf g) sound = tt
terminal_fits m (rec.Modref word) sound = tt
terminal_fits m rec.Chgrqd sound = tt
terminal_fits m (rec.Chgcnf plan) sound = tt
terminal_fits m (rec.Chgref word) sound = tt
terminal_fits m rec.Relrqd sound = tt
terminal_fits m (rec.Relcnf plan) sound = tt

pub take_fits : (from : Node) (m : MasterProc) (r : Rec) → IsSound m → TakeFits (master_take from m r)
take_fits T m r sound = terminal_fits m r sound
take_fits A m r sound = second_fits A m r refl sound
take_fits B m r sound = second_fits B m r refl sound
take_fits M m r sound = tt

pub adopted_fits : (id : ℕ) (m : MasterProc) (o : Option Command) → IsSoundCommand o → AllFit (adopted_here id m o).1
adopted_fits id m None sound = tt
adopted_fits id m (Some (asked c first who wanted)) sound = tt
adopted_fits id m (Some (gone p w)) sound = waits_fits m (gone p (record w { moving = filter (λ y. not (is_moving id M y)) w.moving })) sound
adopted_fits id m (Some (recovering i terminal second)) sound = tt

-- ---- commands

recovers_at_fits : (m : MasterProc) (id : ℕ) (x : Node) → AllFit (recovers_at m id x).1
recovers_at_fits m id M = (refl, (refl, tt))
recovers_at_fits m id A = (refl, (refl, tt))
recovers_at_fits m id B = (refl, (refl, tt))
recovers_at_fits m id T = tt

recovers_row_fits : (m : MasterProc) (id : ℕ) (o : Option Row) → AllFit (recovers_row m id o).1
recovers_row_fits m id None = tt
recovers_row_fits m id (Some r) = recovers_at_fits m id r.anchor

command_by_fits : (m : MasterProc) (e : Event) (o : Option ℕ) → AddsSecond e → IsSound m → AllFit (command_by m e o).1
command_by_fits m e None adds sound = begins_if_fits m false (draft m.table e) (draft_sound m.table e adds sound.sec)
command_by_fits m e (Some id) adds sound = recovers_row_fits m id (row m.table id)

pub commands_fits : (m : MasterProc) (e : Event) (o : Option Refusal) → AddsSecond e → IsSound m → TakeFits (commands_unless m e o)
commands_fits m e None adds sound = command_by_fits m e (recovered_by e) adds sound
commands_fits m e (Some why) adds sound = tt
