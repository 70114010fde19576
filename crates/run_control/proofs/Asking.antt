-- Whatever record or command the master takes, it asks the terminal for what is due then, once, and for nothing else.
use Rattle.std.proofs.Common.{ℕ, ◌≡◌, ◌++◌, ◌==◌, Bool, true, false, List, [], ◌∷◌, Option, Some, None, refl, sym, ap, subst, ◌∙◌}
use Rattle.std.specs.Prelude.{Err, Ok, Result, filter, find, if◌then◌else◌, is_some, not, ⊤, ◌&&◌}
use Rattle.std.specs.List.{flat_map, list_any}
use Rattle.dc_base.specs.Nodes.{is_same_node, is_secondary}
use Rattle.dc_base.specs.declared.answers.Refusal.{Refusal}
use Rattle.dc_base.specs.declared.answers.Refusal.TheVariants as refusal
use Rattle.dc_base.specs.declared.answers.Word.{Word}
use Rattle.dc_base.specs.declared.answers.Word.TheVariants as word
use Rattle.dc_base.specs.declared.events.Event.{Event}
use Rattle.dc_base.specs.declared.events.Event.TheVariants as event
use Rattle.dc_base.specs.declared.events.Note.TheVariants as note
use Rattle.dc_base.specs.declared.nodes.Node.{Node}
use Rattle.dc_base.specs.declared.nodes.Node.TheVariants.{A, B, M, T}
use Rattle.dc_base.specs.declared.nodes.Want.{Want}
use Rattle.dc_base.specs.declared.nodes.Want.TheVariants as want
use Rattle.dc_base.specs.declared.records.Plan.{Plan}
use Rattle.dc_base.specs.declared.records.Rec.{Rec}
use Rattle.dc_base.specs.declared.records.Rec.TheVariants as rec
use Rattle.dc_base.specs.declared.records.RecKind.{RecKind}
use Rattle.dc_base.specs.declared.records.RecKind.TheVariants as kind
use Rattle.dc_base.specs.declared.records.StatusTransfer.{StatusTransfer}
use Rattle.node_rules.specs.Acts.{ProcFault, first_refusal, unexpected}
use Rattle.node_rules.specs.CommandTable.{is_counter_spent, row}
use Rattle.node_rules.specs.Drafts.{draft}
use Rattle.node_rules.specs.MasterCommands.{command_refusals, commands, commands_unless, master_command, recovers_at, recovers_row}
use Rattle.node_rules.specs.MasterEnds.{tries, waits_for}
use Rattle.node_rules.specs.MasterGo.{begins_if, way}
use Rattle.node_rules.specs.MasterRecords.{adopted_if, agreed, agreed_if, asking_refusal, begins_asked, completed, completed_if, completing, failed_legs, failing, failing_at, is_answer, is_moving, moved, passed_to, recovered, recovered_second, recovered_there, rejected, rejected_if, rejecting, released, transferred, wanted_by}
use Rattle.node_rules.specs.MasterState.{MasterActs, MasterProc, with_waits}
use Rattle.node_rules.specs.MasterTaking.{adopted_here, from_second, from_terminal, master_adopted, master_take}
use Rattle.node_rules.specs.Places.{is_at, other_second}
use Rattle.node_rules.specs.declared.acts.Act.{Act}
use Rattle.node_rules.specs.declared.acts.Act.TheVariants.{Say as say, Send as send, UnlockAll as unlock_all}
use Rattle.node_rules.specs.declared.commands.Command.{Command}
use Rattle.node_rules.specs.declared.commands.Command.TheVariants.{Asked as asked, Gone as gone, Recovering as recovering}
use Rattle.node_rules.specs.declared.commands.First.{First}
use Rattle.node_rules.specs.declared.commands.First.TheVariants.{Addition as addition, Modification as modification, Release as release}
use Rattle.node_rules.specs.declared.commands.Going.{Going}
use Rattle.node_rules.specs.declared.commands.Row.{Row}
use Rattle.run_control.specs.Sound.{AddsSecond, IsSecond, IsSound, IsSoundCommand}
use Rattle.run_control.specs.Telling.{Due, Tells, due_after, due_by, nothing_due, tells_nothing, tells_once}
use Rattle.run_control.proofs.Sent.{either}
use Rattle.run_control.proofs.Sound.{draft_sound, other_is, way_leaving}
use Rattle.run_control.proofs.Telling.{before_tells, begins_if_tells, ends_tells, goes_tells, not_told, told_append, told_in, tries_tells, waits_command, waits_for_tells}

-- what is taken tells this
abbrev pub TakesTells : Due → Result MasterActs ProcFault → Type 0
TakesTells due (Ok r) = Tells due r
TakesTells due (Err why) = ⊤

-- nothing comes of it
stays_due : (m : MasterProc) → Tells (due_by m.command) (m, [])
stays_due m = tells_nothing refl refl

-- ---- answers

agreed_tells : (k : RecKind) (f : First) (from : Node) (g : ℕ) (m : MasterProc) (c : Option Command) → IsSound m → IsSoundCommand c → TakesTells (due_by c) (agreed k f from g m c)
agreed_tells k f from g m None sound is = tt
agreed_tells k f from g m (Some (asked c first who wanted)) sound is = by (is_answer f from g first who c.plan.g)
  where
    by : (b : Bool) → TakesTells nothing_due (agreed_if k m c first who wanted b)
    by true = goes_tells m c (way first who wanted m.table.sec) (way_leaving first who wanted m.table.sec is.1 sound.sec)
    by false = tt
agreed_tells k f from g m (Some (gone plan going)) sound is = tt
agreed_tells k f from g m (Some (recovering id terminal second)) sound is = tt

released_tells : (r : Result MasterActs ProcFault) (m : MasterProc) → TakesTells (due_by m.command) r → TakesTells (due_by m.command) (released r m)
released_tells (Ok r) m is = is
released_tells (Err why) m is = stays_due m

pub rejecting_tells : (first : First) (who : Node) (wanted : Bool) → is_secondary who ≡ true → told_in (rejecting first who wanted) ≡ []
rejecting_tells first who false is = refl
rejecting_tells addition who true is = ap (λ zs. zs ++ []) (not_told (other_second who) (rec.Chgref word.Rejected) (other_is who))
rejecting_tells modification who true is = ap (λ zs. zs ++ []) (not_told who (rec.Modref word.Rejected) is)
rejecting_tells release who true is = refl

rejected_tells : (k : RecKind) (f : First) (from : Node) (g : ℕ) (m : MasterProc) (c : Option Command) → IsSoundCommand c → TakesTells (due_by c) (rejected k f from g m c)
rejected_tells k f from g m None is = tt
rejected_tells k f from g m (Some (asked c first who wanted)) is = by (is_answer f from g first who c.plan.g)
  where
    by : (b : Bool) → TakesTells nothing_due (rejected_if k m first who wanted b)
    by true = ends_tells m (rejecting first who wanted) note.Rejected (rejecting_tells first who wanted is.1)
    by false = tt
rejected_tells k f from g m (Some (gone plan going)) is = tt
rejected_tells k f from g m (Some (recovering id terminal second)) is = tt

-- ---- the terminal

pub completing_tells : (x : Option Node) (confirms : Bool) (g : ℕ) → IsSecond x → told_in (completing x confirms g) ≡ []
completing_tells None confirms g is = refl
completing_tells (Some x) true g is = ap (λ zs. zs ++ []) (not_told x (rec.Modcnf g) is)
completing_tells (Some x) false g is = ap (λ zs. zs ++ []) (not_told x (rec.Recfg g) is)

completed_tells : (g : ℕ) (m : MasterProc) (c : Option Command) → IsSoundCommand c → TakesTells nothing_due (completed g m c)
completed_tells g m None is = tt
completed_tells g m (Some (asked c first who wanted)) is = tt
completed_tells g m (Some (gone p w)) is = by ((p.g == g) && not w.complete)
  where
    by : (b : Bool) → TakesTells nothing_due (completed_if m p w b)
    by true =
        before_tells nothing_due (completing w.due w.confirms p.g ++ unlock_all p.g ∷ []) (waits_for m (gone p (record w { complete = true })))
        (told_append (completing w.due w.confirms p.g) (unlock_all p.g ∷ []) ∙ ap (λ zs. zs ++ []) (completing_tells w.due w.confirms p.g is.1))
        (waits_for_tells m (gone p (record w { complete = true })) is)
    by false = tt
completed_tells g m (Some (recovering id terminal second)) is = tt

failing_at_tells : (id g : ℕ) (x : Node) → told_in (failing_at id g x) ≡ []
failing_at_tells id g M = refl
failing_at_tells id g A = refl
failing_at_tells id g B = refl
failing_at_tells id g T = refl

failing_tells : (id g : ℕ) (o : Option Row) → told_in (failing id g o) ≡ []
failing_tells id g None = refl
failing_tells id g (Some r) = either (λ acts. told_in acts ≡ []) (r.g == g) (failing_at id g r.anchor) [] (failing_at_tells id g r.anchor) refl

each_tells : {X : Type 0} (f : X → List Act) → ((x : X) → told_in (f x) ≡ []) → (xs : List X) → told_in (flat_map f xs) ≡ []
each_tells f none [] = refl
each_tells f none (x ∷ xs) = told_append (f x) (flat_map f xs) ∙ ap (λ zs. zs ++ told_in (flat_map f xs)) (none x) ∙ each_tells f none xs

pub failed_none : (m : MasterProc) (pairs : List (ℕ × ℕ)) → told_in (failed_legs m pairs).1 ≡ []
failed_none m pairs = each_tells (λ (x : ℕ × ℕ). failing x.0 x.1 (row m.table x.0)) (λ x. failing_tells x.0 x.1 (row m.table x.0)) pairs

failed_tells : (m : MasterProc) (pairs : List (ℕ × ℕ)) → Tells (due_by m.command) (failed_legs m pairs)
failed_tells m pairs = tells_nothing (failed_none m pairs) refl

-- ---- recoveries

terminal_recovered : (id : ℕ) (m : MasterProc) (c : Option Command) → IsSoundCommand c → TakesTells nothing_due (recovered T id m c)
terminal_recovered id m None is = tt
terminal_recovered id m (Some (asked c first who wanted)) is = tt
terminal_recovered id m (Some (gone plan going)) is = tt
terminal_recovered id m (Some (recovering i terminal second)) is = by (terminal && (i == id))
  where
    by : (b : Bool) → TakesTells nothing_due (recovered_there m i second b)
    by true = waits_for_tells m (recovering i false second) is
    by false = tt

second_recovered : (m : MasterProc) (i : ℕ) (terminal : Bool) (b : Bool) → TakesTells (due_by (Some (recovering i terminal None))) (recovered_second m i terminal b)
second_recovered m i terminal true = waits_for_tells m (recovering i terminal None) tt
second_recovered m i terminal false = tt

recovered_tells : (x : Node) (id : ℕ) (m : MasterProc) (c : Option Command) → is_secondary x ≡ true → IsSoundCommand c → TakesTells (due_by c) (recovered x id m c)
recovered_tells x id m None second is = tt
recovered_tells x id m (Some (asked c first who wanted)) second is = tt
recovered_tells x id m (Some (gone plan going)) second is = tt
recovered_tells A id m (Some (recovering i terminal sec)) second is = second_recovered m i terminal (is_at A sec && (i == id))
recovered_tells B id m (Some (recovering i terminal sec)) second is = second_recovered m i terminal (is_at B sec && (i == id))
recovered_tells M id m (Some (recovering i terminal sec)) second is = tt
recovered_tells T id m (Some (recovering i terminal sec)) second is = absurd cc

-- ---- moves

adopted_tells : (k : RecKind) (m : MasterProc) (id : ℕ) (x : Node) (p : Plan) (w : Going) (b : Bool) → IsSoundCommand (Some (gone p w)) → TakesTells (due_by (Some (gone p w))) (adopted_if k m id x p w b)
adopted_tells k m id x p w true is = waits_for_tells m (gone p (record w { moving = filter (λ y. not (is_moving id x y)) w.moving })) is
adopted_tells k m id x p w false is = tt

moved_tells : (from : Node) (g id : ℕ) (m : MasterProc) (c : Option Command) → IsSoundCommand c → TakesTells (due_by c) (moved from g id m c)
moved_tells from g id m None is = tt
moved_tells from g id m (Some (asked c first who wanted)) is = tt
moved_tells from g id m (Some (gone p w)) is = adopted_tells kind.Moved m id from p w ((p.g == g) && list_any (is_moving id from) w.moving) is
moved_tells from g id m (Some (recovering i terminal second)) is = tt

passed_tells : (m : MasterProc) (s : StatusTransfer) (from : Node) (o : Option (ℕ × Node)) → TakesTells (due_by m.command) (passed_to m s from o)
passed_tells m s from None = tt
passed_tells m s from (Some (id, M)) = tells_nothing refl refl
passed_tells m s from (Some (id, A)) = either (TakesTells (due_by m.command)) (is_same_node from A) (Err (unexpected kind.Snst)) (Ok (m, send A (rec.Snst s) ∷ [])) tt (tells_nothing refl refl)
passed_tells m s from (Some (id, B)) = either (TakesTells (due_by m.command)) (is_same_node from B) (Err (unexpected kind.Snst)) (Ok (m, send B (rec.Snst s) ∷ [])) tt (tells_nothing refl refl)
passed_tells m s from (Some (id, T)) = tt

transferred_tells : (from : Node) (s : StatusTransfer) (m : MasterProc) (c : Option Command) → TakesTells (due_by m.command) (transferred from s m c)
transferred_tells from s m None = tt
transferred_tells from s m (Some (asked c first who wanted)) = tt
transferred_tells from s m (Some (gone p w)) = passed_tells m s from (if p.g == s.g then find (λ (x : ℕ × Node). x.0 == s.id) w.moving else None)
transferred_tells from s m (Some (recovering i terminal second)) = tt

-- ---- what a secondary node asks for

none_due : (c : Option Command) → is_some c ≡ false → due_by c ≡ nothing_due
none_due None none = refl
none_due (Some c) none = absurd cc

free_if : {X : Type 0} (a b d : Bool) (u v w : X) → (if a then Some u else if b then Some v else if d then Some w else None) ≡ None → b ≡ false
free_if true b d u v w is = absurd cc
free_if false true d u v w is = absurd cc
free_if false false d u v w is = refl

asked_tells : (m : MasterProc) (from : Node) (what : Want) (e : Event) (refuse : Word → Rec) (o : Option Word) → asking_refusal from m ≡ o → is_secondary from ≡ true → IsSound m → AddsSecond e
    → Tells (due_by m.command) (begins_asked m from what e refuse o)
asked_tells m from what e refuse (Some why) is second sound adds = tells_nothing (ap (λ zs. zs ++ []) (not_told from (refuse why) second)) refl
asked_tells m from what e refuse None is second sound adds =
    let free = none_due m.command (free_if (not (is_at from m.table.sec)) (is_some m.command) (is_counter_spent m.table) word.NoSecondary word.Busy word.CounterSpent is) in
    subst (λ d. Tells d (begins_asked m from what e refuse None)) (sym free)
    (before_tells nothing_due (say (note.Begin what) ∷ []) (begins_if m true (draft m.table e)) refl (begins_if_tells m true (draft m.table e) (draft_sound m.table e adds sound.sec) free))

wanted_tells : (from : Node) (what : Want) (m : MasterProc) → is_secondary from ≡ true → IsSound m → Tells (due_by m.command) (wanted_by from what m)
wanted_tells from want.Rekey m second sound = asked_tells m from want.Rekey event.RekeySecond (λ w. rec.Modref w) (asking_refusal from m) refl second sound tt
wanted_tells from want.Change m second sound = asked_tells m from want.Change event.Change (λ w. rec.Chgref w) (asking_refusal from m) refl second sound tt
wanted_tells from want.Release m second sound =
    subst (λ c. Tells (due_by c) (tries from (with_waits true from m))) (waits_command true from m) (tries_tells from (with_waits true from m) second)

-- ---- a record

second_tells : (x : Node) (m : MasterProc) (r : Rec) → is_secondary x ≡ true → IsSound m → TakesTells (due_by m.command) (from_second x m r)
second_tells x m (rec.Addack g) second sound = agreed_tells kind.Addack addition x g m m.command sound sound.command
second_tells x m (rec.Modack g) second sound = agreed_tells kind.Modack modification x g m m.command sound sound.command
second_tells x m (rec.Relack g) second sound = released_tells (agreed kind.Relack release x g m m.command) m (agreed_tells kind.Relack release x g m m.command sound sound.command)
second_tells x m (rec.Addrej g) second sound = rejected_tells kind.Addrej addition x g m m.command sound.command
second_tells x m (rec.Modrej g) second sound = rejected_tells kind.Modrej modification x g m m.command sound.command
second_tells x m (rec.Relrej g) second sound = rejected_tells kind.Relrej release x g m m.command sound.command
second_tells x m (rec.Snst status) second sound = transferred_tells x status m m.command
second_tells x m (rec.Moved g id) second sound = moved_tells x g id m m.command sound.command
second_tells x m (rec.Recovd id) second sound = recovered_tells x id m m.command second sound.command
second_tells x m rec.Modrqd second sound = wanted_tells x want.Rekey m second sound
second_tells x m rec.Chgrqd second sound = wanted_tells x want.Change m second sound
second_tells x m rec.Relrqd second sound = wanted_tells x want.Release m second sound
second_tells x m (rec.Reconf plan key) second sound = tt
second_tells x m (rec.Rcomp g) second sound = tt
second_tells x m (rec.Scgf failed) second sound = tt
second_tells x m (rec.Recov id) second sound = tt
second_tells x m (rec.Addreq plan key) second sound = tt
second_tells x m (rec.Modreq plan key) second sound = tt
second_tells x m (rec.Recfg g) second sound = tt
second_tells x m (rec.Relreq plan) second sound = tt
second_tells x m (rec.Uecr g) second sound = tt
second_tells x m (rec.Scgn id g) second sound = tt
second_tells x m (rec.Modcnf g) second sound = tt
second_tells x m (rec.Modref word) second sound = tt
second_tells x m (rec.Chgcnf plan) second sound = tt
second_tells x m (rec.Chgref word) second sound = tt
second_tells x m (rec.Relcnf plan) second sound = tt

terminal_tells : (m : MasterProc) (r : Rec) → IsSound m → TakesTells (due_after T r (due_by m.command)) (from_terminal m r)
terminal_tells m (rec.Rcomp g) sound = completed_tells g m m.command sound.command
terminal_tells m (rec.Scgf failed) sound = failed_tells m failed
terminal_tells m (rec.Recovd id) sound = terminal_recovered id m m.command sound.command
terminal_tells m (rec.Reconf plan key) sound = tt
terminal_tells m (rec.Recov id) sound = tt
terminal_tells m (rec.Addreq plan key) sound = tt
terminal_tells m (rec.Addack g) sound = tt
terminal_tells m (rec.Addrej g) sound = tt
terminal_tells m (rec.Modreq plan key) sound = tt
terminal_tells m (rec.Modack g) sound = tt
terminal_tells m (rec.Modrej g) sound = tt
terminal_tells m (rec.Recfg g) sound = tt
terminal_tells m (rec.Relreq plan) sound = tt
terminal_tells m (rec.Relack g) sound = tt
terminal_tells m (rec.Relrej g) sound = tt
terminal_tells m (rec.Uecr g) sound = tt
terminal_tells m (rec.Snst status) sound = tt
terminal_tells m (rec.Moved g id) sound = tt
terminal_tells m (rec.Scgn id g) sound = tt
terminal_tells m rec.Modrqd sound = tt
terminal_tells m (rec.Modcnf g) sound = tt
terminal_tells m (rec.Modref word) sound = tt
terminal_tells m rec.Chgrqd sound = tt
terminal_tells m (rec.Chgcnf plan) sound = tt
terminal_tells m (rec.Chgref word) sound = tt
terminal_tells m rec.Relrqd sound = tt
terminal_tells m (rec.Relcnf plan) sound = tt

-- whatever record comes from whatever node
pub take_tells : (from : Node) (m : MasterProc) (r : Rec) → IsSound m → TakesTells (due_after from r (due_by m.command)) (master_take from m r)
take_tells T m r sound = terminal_tells m r sound
take_tells A m r sound = second_tells A m r refl sound
take_tells B m r sound = second_tells B m r refl sound
take_tells M m r sound = tt

-- ---- an adoption

adopted_here_tells : (id : ℕ) (m : MasterProc) (c : Option Command) → m.command ≡ c → IsSoundCommand c → Tells (due_by c) (adopted_here id m c)
adopted_here_tells id m None is sound = tells_nothing refl (ap due_by is)
adopted_here_tells id m (Some (asked c first who wanted)) is sound = tells_nothing refl (ap due_by is)
adopted_here_tells id m (Some (gone p w)) is sound = waits_for_tells m (gone p (record w { moving = filter (λ y. not (is_moving id M y)) w.moving })) sound
adopted_here_tells id m (Some (recovering i terminal second)) is sound = tells_nothing refl (ap due_by is)

pub adoption_tells : (m : MasterProc) (id : ℕ) → IsSound m → Tells (due_by m.command) (master_adopted m id)
adoption_tells m id sound = adopted_here_tells id m m.command refl sound.command

-- ---- a command

-- the first condition of those under which it is refused is that a command is open
free_first : (b : Bool) (why : Refusal) (rest : Option Refusal) → (if b then Some why else rest) ≡ None → b ≡ false
free_first true why rest is = absurd cc
free_first false why rest is = refl

unless_tells : (m : MasterProc) (e : Event) (o : Option Refusal) → (o ≡ None → Tells (due_by m.command) (commands m e)) → TakesTells (due_by m.command) (commands_unless m e o)
unless_tells m e None so = so refl
unless_tells m e (Some why) so = tt

-- a command that has a plan
planned_tells : (m : MasterProc) (e : Event) → AddsSecond e → IsSound m → is_some m.command ≡ false → Tells (due_by m.command) (begins_if m false (draft m.table e))
planned_tells m e adds sound free =
    let none = none_due m.command free in
    subst (λ d. Tells d (begins_if m false (draft m.table e))) (sym none) (begins_if_tells m false (draft m.table e) (draft_sound m.table e adds sound.sec) none)

recovers_at_tells : (m : MasterProc) (id : ℕ) (x : Node) → due_by m.command ≡ nothing_due → Tells nothing_due (recovers_at m id x)
recovers_at_tells m id M free = tells_once refl (rec.Recov id) refl refl
recovers_at_tells m id A free = tells_once refl (rec.Recov id) refl refl
recovers_at_tells m id B free = tells_once refl (rec.Recov id) refl refl
recovers_at_tells m id T free = tells_nothing refl free

recovers_row_tells : (m : MasterProc) (id : ℕ) (o : Option Row) → due_by m.command ≡ nothing_due → Tells nothing_due (recovers_row m id o)
recovers_row_tells m id None free = tells_nothing refl free
recovers_row_tells m id (Some r) free = recovers_at_tells m id r.anchor free

pub command_tells : (policies : ℕ) (m : MasterProc) (e : Event) → AddsSecond e → IsSound m → TakesTells (due_by m.command) (master_command policies m e)
command_tells policies m (event.Bearer id n first shape threshold policy) adds sound =
    unless_tells m (event.Bearer id n first shape threshold policy) (first_refusal (command_refusals policies m (event.Bearer id n first shape threshold policy)))
    (λ is. planned_tells m (event.Bearer id n first shape threshold policy) adds sound (free_first (is_some m.command) refusal.Busy _ is))
command_tells policies m (event.Reshape id shape) adds sound =
    unless_tells m (event.Reshape id shape) (first_refusal (command_refusals policies m (event.Reshape id shape))) (λ is. planned_tells m (event.Reshape id shape) adds sound (free_first (is_some m.command) refusal.Busy _ is))
command_tells policies m (event.Remove id) adds sound =
    unless_tells m (event.Remove id) (first_refusal (command_refusals policies m (event.Remove id))) (λ is. planned_tells m (event.Remove id) adds sound (free_first (is_some m.command) refusal.Busy _ is))
command_tells policies m (event.Add node) adds sound =
    unless_tells m (event.Add node) (first_refusal (command_refusals policies m (event.Add node))) (λ is. planned_tells m (event.Add node) adds sound (free_first (is_some m.command) refusal.Busy _ is))
command_tells policies m event.Change adds sound =
    unless_tells m event.Change (first_refusal (command_refusals policies m event.Change)) (λ is. planned_tells m event.Change adds sound (free_first (is_some m.command) refusal.Busy _ is))
command_tells policies m event.Release adds sound =
    unless_tells m event.Release (first_refusal (command_refusals policies m event.Release)) (λ is. planned_tells m event.Release adds sound (free_first (is_some m.command) refusal.Busy _ is))
command_tells policies m event.RekeySecond adds sound =
    unless_tells m event.RekeySecond (first_refusal (command_refusals policies m event.RekeySecond)) (λ is. planned_tells m event.RekeySecond adds sound (free_first (is_some m.command) refusal.Busy _ is))
command_tells policies m (event.RekeyMaster root) adds sound =
    unless_tells m (event.RekeyMaster root) (first_refusal (command_refusals policies m (event.RekeyMaster root))) (λ is. planned_tells m (event.RekeyMaster root) adds sound (free_first (is_some m.command) refusal.Busy _ is))
command_tells policies m (event.Recover id) adds sound =
    unless_tells m (event.Recover id) (first_refusal (command_refusals policies m (event.Recover id)))
    (λ is. let none = none_due m.command (free_first (is_some m.command) refusal.Busy _ is) in subst (λ d. Tells d (recovers_row m id (row m.table id))) (sym none) (recovers_row_tells m id (row m.table id) none))
command_tells policies m (event.Report node id) adds sound = stays_due m
command_tells policies m (event.Deny node on) adds sound = stays_due m
command_tells policies m (event.Ask node what) adds sound = stays_due m
command_tells policies m event.ScgFail adds sound = stays_due m
command_tells policies m (event.Submit id d payload) adds sound = stays_due m
command_tells policies m (event.Step l i) adds sound = stays_due m
command_tells policies m (event.Lose l i) adds sound = stays_due m
command_tells policies m (event.Again l i) adds sound = stays_due m
