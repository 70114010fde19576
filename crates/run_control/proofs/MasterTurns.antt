-- Whatever the master's procedures take, each answer that nothing has to be released comes first of what opens a release.
use Rattle.std.proofs.Common.{ℕ, ◌≡◌, ◌++◌, ◌==◌, Bool, true, false, List, [], ◌∷◌, Option, Some, None, refl, ap, ◌∙◌, arith}
use Rattle.std.specs.Prelude.{Err, Ok, Result, filter, find, if◌then◌else◌, not, ⊤, ◌&&◌, ◌+◌, ◌||◌}
use Rattle.std.specs.List.{flat_map, list_any}
use Rattle.std.proofs.lemmas.Bool.{ne_eqb}
use Rattle.std.proofs.lemmas.List.Folds.{list_any-append}
use Rattle.dc_base.specs.Nodes.{is_same_node}
use Rattle.dc_base.specs.declared.answers.Refusal.{Refusal}
use Rattle.dc_base.specs.declared.answers.Word.{Word}
use Rattle.dc_base.specs.declared.events.Event.{Event}
use Rattle.dc_base.specs.declared.events.Event.TheVariants as event
use Rattle.dc_base.specs.declared.events.Note.{Note}
use Rattle.dc_base.specs.declared.events.Note.TheVariants as note
use Rattle.dc_base.specs.declared.nodes.Node.{Node}
use Rattle.dc_base.specs.declared.nodes.Node.TheVariants.{A, B, M, T}
use Rattle.dc_base.specs.declared.nodes.Want.{Want}
use Rattle.dc_base.specs.declared.nodes.Want.TheVariants as want
use Rattle.dc_base.specs.declared.records.Plan.{Plan}
use Rattle.dc_base.specs.declared.records.Rec.{Rec}
use Rattle.dc_base.specs.declared.records.Rec.TheVariants as rec
use Rattle.dc_base.specs.declared.records.RecKind.{RecKind}
use Rattle.dc_base.specs.declared.records.RecKind.TheVariants as kind
use Rattle.dc_base.specs.declared.records.StatusTransfer.{StatusTransfer}
use Rattle.node_rules.specs.Acts.{ProcFault, first_refusal, unexpected}
use Rattle.node_rules.specs.CommandTable.{row}
use Rattle.node_rules.specs.Drafts.{Draft, draft}
use Rattle.node_rules.specs.Lines.{is_idle_release}
use Rattle.node_rules.specs.MasterCommands.{command_by, command_refusals, commands_unless, master_command, recovered_by, recovers_at, recovers_row}
use Rattle.node_rules.specs.MasterEnds.{ends, ends_gone, ends_if, ends_recovering, forgetting, is_release_spent, releases_if, retries, tried_first, tries, tries_if, tries_now, waits_for}
use Rattle.node_rules.specs.MasterGo.{alone, begins_by, begins_if, drawn, first_record, goes, leave_acts, let_go, lets_go, moves_here, preparing, way}
use Rattle.node_rules.specs.MasterRecords.{adopted_if, agreed, agreed_if, asking_refusal, begins_asked, completed, completed_if, completing, failed_legs, failing, failing_at, is_answer, is_moving, moved, passed_to, recovered, recovered_at, recovered_second, recovered_there, rejected, rejected_if, rejecting, released, transferred, wanted_by}
use Rattle.node_rules.specs.MasterState.{MasterActs, MasterProc, waits_at, with_waits}
use Rattle.node_rules.specs.MasterTaking.{adopted_here, from_second, from_terminal, master_adopted, master_take}
use Rattle.node_rules.specs.Places.{is_at, other_second}
use Rattle.node_rules.specs.declared.acts.Act.{Act}
use Rattle.node_rules.specs.declared.acts.Act.TheVariants.{Prepare as prepare, Say as say, Send as send, UnlockAll as unlock_all}
use Rattle.node_rules.specs.declared.commands.Change.{Change}
use Rattle.node_rules.specs.declared.commands.Command.{Command}
use Rattle.node_rules.specs.declared.commands.Command.TheVariants.{Asked as asked, Gone as gone, Recovering as recovering}
use Rattle.node_rules.specs.declared.commands.First.{First}
use Rattle.node_rules.specs.declared.commands.First.TheVariants.{Addition as addition, Modification as modification, Release as release}
use Rattle.node_rules.specs.declared.commands.Going.{Going}
use Rattle.node_rules.specs.declared.commands.Leaving.{Leaving}
use Rattle.node_rules.specs.declared.commands.Leaving.TheVariants.{ByRequest as by_request, ByChangeConfirm as by_change_confirm, ByReleaseConfirm as by_release_confirm}
use Rattle.node_rules.specs.declared.commands.Row.{Row}
use Rattle.node_rules.specs.declared.commands.Way.{Way}
use Rattle.run_control.specs.Links.{idles_first, is_in_turn}
use Rattle.run_control.specs.SecondControl.{record_to}
use Rattle.run_control.proofs.ActTurns.{is_idle_act, opens_act, opens_idle_act}
use Rattle.run_control.proofs.Sent.{either}
use Rattle.run_control.proofs.Turns.{busy_first, busy_turn, first_turn, past}

-- ---- acts

-- none is that nothing has to be released
abbrev Busy : List Act → Type 0
Busy acts = list_any (is_idle_act M) acts ≡ false

-- none opens a release
abbrev Still : List Act → Type 0
Still acts = list_any (opens_act M) acts ≡ false

-- they come first, and none later
abbrev IdleFirst : List Act → Type 0
IdleFirst acts = idles_first (is_idle_act M) acts ≡ true

-- from the first one on that opens a release
abbrev pub InTurn : List Act → Type 0
InTurn acts = is_in_turn (is_idle_act M) (opens_act M) acts ≡ true

both_busy : (xs ys : List Act) → Busy xs → Busy ys → Busy (xs ++ ys)
both_busy xs ys p q = list_any-append (is_idle_act M) xs ys ∙ ap (λ b. b || list_any (is_idle_act M) ys) p ∙ q

both_still : (xs ys : List Act) → Still xs → Still ys → Still (xs ++ ys)
both_still xs ys p q = list_any-append (opens_act M) xs ys ∙ ap (λ b. b || list_any (opens_act M) ys) p ∙ q

each_busy : {X : Type 0} (f : X → List Act) → ((x : X) → Busy (f x)) → (xs : List X) → Busy (flat_map f xs)
each_busy f busy [] = refl
each_busy f busy (x ∷ xs) = both_busy (f x) (flat_map f xs) (busy x) (each_busy f busy xs)

busy_is : (acts : List Act) → Busy acts → InTurn acts
busy_is acts busy = busy_turn (is_idle_act M) (opens_act M) acts busy

first_is : (acts : List Act) → IdleFirst acts → InTurn acts
first_is acts first = first_turn (is_idle_act M) (opens_act M) (opens_idle_act M) acts first

still_then : (xs ys : List Act) → Still xs → InTurn ys → InTurn (xs ++ ys)
still_then xs ys still turn = past (is_idle_act M) (opens_act M) xs ys still ∙ turn

-- ---- a command goes

-- the record for the node that leaves is no such answer
abbrev TellsBusy : Option Leaving → ℕ → Type 0
TellsBusy None g = ⊤
TellsBusy (Some by_request) g = ⊤
TellsBusy (Some by_change_confirm) g = ⊤
TellsBusy (Some by_release_confirm) g = (g == 0) ≡ false

leave_busy : (x : Option Node) (told : Option Leaving) (p : Plan) → TellsBusy told p.g → Busy (leave_acts x told p)
leave_busy None told p is = refl
leave_busy (Some x) None p is = refl
leave_busy (Some x) (Some by_request) p is = refl
leave_busy (Some x) (Some by_change_confirm) p is = refl
leave_busy (Some x) (Some by_release_confirm) p is = ap (λ b. b || false) is

goes_busy : (m : MasterProc) (c : Change) (w : Way) → TellsBusy w.told c.plan.g → Busy (goes m c w).1
goes_busy m c w is = leave_busy w.leaving w.told c.plan is

way_busy : (first : First) (who : Node) (wanted : Bool) (sec : Option Node) (g : ℕ) → TellsBusy (way first who wanted sec).told g
way_busy addition who true sec g = tt
way_busy addition who false sec g = tt
way_busy modification who wanted sec g = tt
way_busy release who wanted sec g = tt

preparing_busy : (p : Plan) → Busy (preparing p)
preparing_busy p = either Busy (moves_here p) (prepare p ∷ []) [] refl refl

asking_busy : (m : MasterProc) (d : Draft) (first : First) (who : Node) → Busy (send who (first_record m.table.book.roots first d.change) ∷ [])
asking_busy m d addition who = refl
asking_busy m d modification who = refl
asking_busy m d release who = refl

begins_by_busy : (m : MasterProc) (d : Draft) (wanted : Bool) (o : Option (First × Node)) → Busy (begins_by m d wanted o).1
begins_by_busy m d wanted None = goes_busy m d.change alone tt
begins_by_busy m d wanted (Some (first, who)) = asking_busy m d first who

begins_if_busy : (m : MasterProc) (wanted : Bool) (o : Option Draft) → Busy (begins_if m wanted o).1
begins_if_busy m wanted None = refl
begins_if_busy m wanted (Some d) = both_busy (preparing d.change.plan) (begins_by (drawn m d) d wanted d.first).1 (preparing_busy d.change.plan) (begins_by_busy (drawn m d) d wanted d.first)

-- ---- releases that wait

lets_go_busy : (m : MasterProc) (x : Node) (d : Draft) → (d.change.plan.g == 0) ≡ false → Busy (lets_go m x d).1
lets_go_busy m x d fresh = both_busy (preparing d.change.plan) (goes (drawn m d) d.change (let_go x)).1 (preparing_busy d.change.plan) (goes_busy (drawn m d) d.change (let_go x) fresh)

-- a draft is of a generation from 1
abbrev IsFresh : Option Draft → Type 0
IsFresh None = ⊤
IsFresh (Some d) = (d.change.plan.g == 0) ≡ false

releases_first : (m : MasterProc) (x : Node) (spent : Bool) (o : Option Draft) → IsFresh o → IdleFirst (releases_if m x spent o).1
releases_first m x spent None fresh = refl
releases_first m x true (Some d) fresh = refl
releases_first m x false (Some d) fresh = busy_first (is_idle_act M) (opens_act M) (lets_go (with_waits false x m) x d).1 (lets_go_busy (with_waits false x m) x d fresh)

tries_now_first : (m : MasterProc) (x : Node) (there : Bool) → IdleFirst (tries_now m x there).1
tries_now_first m x true = let d = draft m.table event.Release in releases_first m x (is_release_spent m.table d) d (ne_eqb (m.table.last + 1) 0 (λ e. omega (arith, e)))
tries_now_first m x false = refl

tries_if_first : (m : MasterProc) (x : Node) (waits : Bool) (c : Option Command) → IdleFirst (tries_if m x waits c).1
tries_if_first m x false c = refl
tries_if_first m x true None = tries_now_first m x (is_at x m.table.sec)
tries_if_first m x true (Some (asked c first who wanted)) = refl
tries_if_first m x true (Some (gone plan going)) = refl
tries_if_first m x true (Some (recovering id terminal second)) = refl

tries_first : (x : Node) (m : MasterProc) → IdleFirst (tries x m).1
tries_first x m = tries_if_first m x (waits_at m x) m.command

-- before others, where the node is not the secondary node
now_then : (m : MasterProc) (x : Node) (there : Bool) (zs : List Act) → there ≡ false → IdleFirst zs → IdleFirst ((tries_now m x there).1 ++ zs)
now_then m x true zs apart first = absurd cc
now_then m x false zs apart first = first

if_then : (m : MasterProc) (x : Node) (waits : Bool) (c : Option Command) (zs : List Act) → is_at x m.table.sec ≡ false → IdleFirst zs → IdleFirst ((tries_if m x waits c).1 ++ zs)
if_then m x false c zs apart first = first
if_then m x true None zs apart first = now_then m x (is_at x m.table.sec) zs apart first
if_then m x true (Some (asked c who' who wanted)) zs apart first = first
if_then m x true (Some (gone plan going)) zs apart first = first
if_then m x true (Some (recovering id terminal second)) zs apart first = first

tried_apart : (sec : Option Node) → is_at (tried_first sec) sec ≡ false
tried_apart None = refl
tried_apart (Some A) = refl
tried_apart (Some B) = refl
tried_apart (Some M) = refl
tried_apart (Some T) = refl

retries_first : (m : MasterProc) → IdleFirst (retries m).1
retries_first m =
    let x = tried_first m.table.sec in
    let then' = tries (other_second x) (tries x m).0 in
    if_then m x (waits_at m x) m.command then'.1 (tried_apart m.table.sec) (tries_first (other_second x) (tries x m).0)

-- ---- a command ends

ends_turn : (m : MasterProc) (acts : List Act) (how : Note) → Still acts → InTurn (ends m acts how).1
ends_turn m acts how still =
    let rest = (retries (record m { command = None })).1 in
    still_then (acts ++ say how ∷ []) rest (both_still acts (say how ∷ []) still refl) (first_is rest (retries_first (record m { command = None })))

forgetting_still : (x : Option Node) (g : ℕ) → Still (forgetting x g)
forgetting_still None g = refl
forgetting_still (Some x) g = refl

ends_gone_turn : (m : MasterProc) (p : Plan) (w : Going) (complete : Bool) (moving : List (ℕ × Node)) → InTurn (ends_gone m p w complete moving).1
ends_gone_turn m p w false moving = refl
ends_gone_turn m p w true (x ∷ xs) = refl
ends_gone_turn m p w true [] = ends_turn m (forgetting w.leaving p.g) note.Done (forgetting_still w.leaving p.g)

ends_recovering_turn : (m : MasterProc) (terminal : Bool) (second : Option Node) → InTurn (ends_recovering m terminal second).1
ends_recovering_turn m false None = ends_turn m [] note.Done refl
ends_recovering_turn m false (Some x) = refl
ends_recovering_turn m true second = refl

ends_if_turn : (m : MasterProc) (c : Option Command) → InTurn (ends_if m c).1
ends_if_turn m None = refl
ends_if_turn m (Some (asked c first who wanted)) = refl
ends_if_turn m (Some (gone plan going)) = ends_gone_turn m plan going going.complete going.moving
ends_if_turn m (Some (recovering id terminal second)) = ends_recovering_turn m terminal second

waits_for_turn : (m : MasterProc) (c : Command) → InTurn (waits_for m c).1
waits_for_turn m c = ends_if_turn (record m { command = Some c }) (Some c)

-- ---- records

-- what is taken is in its turn
abbrev pub TakesTurn : Result MasterActs ProcFault → Type 0
TakesTurn (Ok r) = InTurn r.1
TakesTurn (Err why) = ⊤

agreed_if_turn : (k : RecKind) (m : MasterProc) (c : Change) (first : First) (who : Node) (wanted : Bool) (b : Bool) → TakesTurn (agreed_if k m c first who wanted b)
agreed_if_turn k m c first who wanted true = let w = way first who wanted m.table.sec in busy_is (goes m c w).1 (goes_busy m c w (way_busy first who wanted m.table.sec c.plan.g))
agreed_if_turn k m c first who wanted false = tt

agreed_turn : (k : RecKind) (f : First) (from : Node) (g : ℕ) (m : MasterProc) (c : Option Command) → TakesTurn (agreed k f from g m c)
agreed_turn k f from g m None = tt
agreed_turn k f from g m (Some (asked c first who wanted)) = agreed_if_turn k m c first who wanted (is_answer f from g first who c.plan.g)
agreed_turn k f from g m (Some (gone plan going)) = tt
agreed_turn k f from g m (Some (recovering id terminal second)) = tt

released_turn : (r : Result MasterActs ProcFault) (m : MasterProc) → TakesTurn r → TakesTurn (released r m)
released_turn (Ok r) m turn = turn
released_turn (Err why) m turn = refl

rejecting_still : (first : First) (who : Node) (wanted : Bool) → Still (rejecting first who wanted)
rejecting_still first who false = refl
rejecting_still addition who true = refl
rejecting_still modification who true = refl
rejecting_still release who true = refl

rejected_if_turn : (k : RecKind) (m : MasterProc) (first : First) (who : Node) (wanted : Bool) (b : Bool) → TakesTurn (rejected_if k m first who wanted b)
rejected_if_turn k m first who wanted true = ends_turn m (rejecting first who wanted) note.Rejected (rejecting_still first who wanted)
rejected_if_turn k m first who wanted false = tt

rejected_turn : (k : RecKind) (f : First) (from : Node) (g : ℕ) (m : MasterProc) (c : Option Command) → TakesTurn (rejected k f from g m c)
rejected_turn k f from g m None = tt
rejected_turn k f from g m (Some (asked c first who wanted)) = rejected_if_turn k m first who wanted (is_answer f from g first who c.plan.g)
rejected_turn k f from g m (Some (gone plan going)) = tt
rejected_turn k f from g m (Some (recovering id terminal second)) = tt

completing_still : (x : Option Node) (confirms : Bool) (g : ℕ) → Still (completing x confirms g)
completing_still None confirms g = refl
completing_still (Some x) true g = refl
completing_still (Some x) false g = refl

completed_if_turn : (m : MasterProc) (p : Plan) (w : Going) (b : Bool) → TakesTurn (completed_if m p w b)
completed_if_turn m p w true =
    still_then (completing w.due w.confirms p.g ++ unlock_all p.g ∷ []) (waits_for m (gone p (record w { complete = true }))).1
    (both_still (completing w.due w.confirms p.g) (unlock_all p.g ∷ []) (completing_still w.due w.confirms p.g) refl) (waits_for_turn m (gone p (record w { complete = true })))
completed_if_turn m p w false = tt

completed_turn : (g : ℕ) (m : MasterProc) (c : Option Command) → TakesTurn (completed g m c)
completed_turn g m None = tt
completed_turn g m (Some (asked c first who wanted)) = tt
completed_turn g m (Some (gone p w)) = completed_if_turn m p w ((p.g == g) && not w.complete)
completed_turn g m (Some (recovering id terminal second)) = tt

failing_at_busy : (id g : ℕ) (x : Node) → Busy (failing_at id g x)
failing_at_busy id g M = refl
failing_at_busy id g A = refl
failing_at_busy id g B = refl
failing_at_busy id g T = refl

failing_busy : (id g : ℕ) (o : Option Row) → Busy (failing id g o)
failing_busy id g None = refl
failing_busy id g (Some r) = either Busy (r.g == g) (failing_at id g r.anchor) [] (failing_at_busy id g r.anchor) refl

failed_turn : (m : MasterProc) (pairs : List (ℕ × ℕ)) → InTurn (failed_legs m pairs).1
failed_turn m pairs =
    busy_is (failed_legs m pairs).1 (each_busy (λ (x : ℕ × ℕ). failing x.0 x.1 (row m.table x.0)) (λ x. failing_busy x.0 x.1 (row m.table x.0)) pairs)

there_turn : (m : MasterProc) (id : ℕ) (second : Option Node) (b : Bool) → TakesTurn (recovered_there m id second b)
there_turn m id second true = waits_for_turn m (recovering id false second)
there_turn m id second false = tt

second_turn : (m : MasterProc) (id : ℕ) (terminal : Bool) (b : Bool) → TakesTurn (recovered_second m id terminal b)
second_turn m id terminal true = waits_for_turn m (recovering id terminal None)
second_turn m id terminal false = tt

recovered_at_turn : (x : Node) (m : MasterProc) (id : ℕ) (terminal : Bool) (second : Option Node) (same : Bool) → TakesTurn (recovered_at x m id terminal second same)
recovered_at_turn T m id terminal second same = there_turn m id second (terminal && same)
recovered_at_turn A m id terminal second same = second_turn m id terminal (is_at A second && same)
recovered_at_turn B m id terminal second same = second_turn m id terminal (is_at B second && same)
recovered_at_turn M m id terminal second same = tt

recovered_turn : (from : Node) (id : ℕ) (m : MasterProc) (c : Option Command) → TakesTurn (recovered from id m c)
recovered_turn from id m None = tt
recovered_turn from id m (Some (asked c first who wanted)) = tt
recovered_turn from id m (Some (gone plan going)) = tt
recovered_turn from id m (Some (recovering i terminal second)) = recovered_at_turn from m i terminal second (i == id)

adopted_turn : (k : RecKind) (m : MasterProc) (id : ℕ) (x : Node) (p : Plan) (w : Going) (b : Bool) → TakesTurn (adopted_if k m id x p w b)
adopted_turn k m id x p w true = waits_for_turn m (gone p (record w { moving = filter (λ y. not (is_moving id x y)) w.moving }))
adopted_turn k m id x p w false = tt

moved_turn : (from : Node) (g id : ℕ) (m : MasterProc) (c : Option Command) → TakesTurn (moved from g id m c)
moved_turn from g id m None = tt
moved_turn from g id m (Some (asked c first who wanted)) = tt
moved_turn from g id m (Some (gone p w)) = adopted_turn kind.Moved m id from p w ((p.g == g) && list_any (is_moving id from) w.moving)
moved_turn from g id m (Some (recovering i terminal second)) = tt

passed_turn : (m : MasterProc) (s : StatusTransfer) (from : Node) (o : Option (ℕ × Node)) → TakesTurn (passed_to m s from o)
passed_turn m s from None = tt
passed_turn m s from (Some (id, M)) = refl
passed_turn m s from (Some (id, A)) = either TakesTurn (is_same_node from A) (Err (unexpected kind.Snst)) (Ok (m, send A (rec.Snst s) ∷ [])) tt refl
passed_turn m s from (Some (id, B)) = either TakesTurn (is_same_node from B) (Err (unexpected kind.Snst)) (Ok (m, send B (rec.Snst s) ∷ [])) tt refl
passed_turn m s from (Some (id, T)) = tt

transferred_turn : (from : Node) (s : StatusTransfer) (m : MasterProc) (c : Option Command) → TakesTurn (transferred from s m c)
transferred_turn from s m None = tt
transferred_turn from s m (Some (asked c first who wanted)) = tt
transferred_turn from s m (Some (gone p w)) = passed_turn m s from (if p.g == s.g then find (λ (x : ℕ × Node). x.0 == s.id) w.moving else None)
transferred_turn from s m (Some (recovering i terminal second)) = tt

asked_turn : (m : MasterProc) (from : Node) (what : Want) (e : Event) (refuse : Word → Rec) (o : Option Word) → ((w : Word) → is_idle_release (record_to M from (refuse w)) ≡ false)
    → InTurn (begins_asked m from what e refuse o).1
asked_turn m from what e refuse (Some why) busy = busy_is (begins_asked m from what e refuse (Some why)).1 (ap (λ b. b || false) (busy why))
asked_turn m from what e refuse None busy = busy_is (begins_asked m from what e refuse None).1 (begins_if_busy m true (draft m.table e))

wanted_turn : (from : Node) (what : Want) (m : MasterProc) → InTurn (wanted_by from what m).1
wanted_turn from want.Rekey m = asked_turn m from want.Rekey event.RekeySecond (λ w. rec.Modref w) (asking_refusal from m) (λ w. refl)
wanted_turn from want.Change m = asked_turn m from want.Change event.Change (λ w. rec.Chgref w) (asking_refusal from m) (λ w. refl)
wanted_turn from want.Release m = first_is (wanted_by from want.Release m).1 (tries_first from (with_waits true from m))

from_second_turn : (x : Node) (m : MasterProc) (r : Rec) → TakesTurn (from_second x m r)
from_second_turn x m (rec.Reconf plan key) = tt
from_second_turn x m (rec.Rcomp g) = tt
from_second_turn x m (rec.Scgf failed) = tt
from_second_turn x m (rec.Recov id) = tt
from_second_turn x m (rec.Recovd id) = recovered_turn x id m m.command
from_second_turn x m (rec.Addreq plan key) = tt
from_second_turn x m (rec.Addack g) = agreed_turn kind.Addack addition x g m m.command
from_second_turn x m (rec.Addrej g) = rejected_turn kind.Addrej addition x g m m.command
from_second_turn x m (rec.Modreq plan key) = tt
from_second_turn x m (rec.Modack g) = agreed_turn kind.Modack modification x g m m.command
from_second_turn x m (rec.Modrej g) = rejected_turn kind.Modrej modification x g m m.command
from_second_turn x m (rec.Recfg g) = tt
from_second_turn x m (rec.Relreq plan) = tt
from_second_turn x m (rec.Relack g) = released_turn (agreed kind.Relack release x g m m.command) m (agreed_turn kind.Relack release x g m m.command)
from_second_turn x m (rec.Relrej g) = rejected_turn kind.Relrej release x g m m.command
from_second_turn x m (rec.Uecr g) = tt
from_second_turn x m (rec.Snst status) = transferred_turn x status m m.command
from_second_turn x m (rec.Moved g id) = moved_turn x g id m m.command
from_second_turn x m (rec.Scgn id g) = tt
from_second_turn x m rec.Modrqd = wanted_turn x want.Rekey m
from_second_turn x m (rec.Modcnf g) = tt
from_second_turn x m (rec.Modref word) = tt
from_second_turn x m rec.Chgrqd = wanted_turn x want.Change m
from_second_turn x m (rec.Chgcnf plan) = tt
from_second_turn x m (rec.Chgref word) = tt
from_second_turn x m rec.Relrqd = wanted_turn x want.Release m
from_second_turn x m (rec.Relcnf plan) = tt

from_terminal_turn : (m : MasterProc) (r : Rec) → TakesTurn (from_terminal m r)
from_terminal_turn m (rec.Reconf plan key) = tt
from_terminal_turn m (rec.Rcomp g) = completed_turn g m m.command
from_terminal_turn m (rec.Scgf failed) = failed_turn m failed
from_terminal_turn m (rec.Recov id) = tt
from_terminal_turn m (rec.Recovd id) = recovered_turn T id m m.command
from_terminal_turn m (rec.Addreq plan key) = tt
from_terminal_turn m (rec.Addack g) = tt
from_terminal_turn m (rec.Addrej g) = tt
from_terminal_turn m (rec.Modreq plan key) = tt
from_terminal_turn m (rec.Modack g) = tt
from_terminal_turn m (rec.Modrej g) = tt
from_terminal_turn m (rec.Recfg g) = tt
from_terminal_turn m (rec.Relreq plan) = tt
from_terminal_turn m (rec.Relack g) = tt
from_terminal_turn m (rec.Relrej g) = tt
from_terminal_turn m (rec.Uecr g) = tt
from_terminal_turn m (rec.Snst status) = tt
from_terminal_turn m (rec.Moved g id) = tt
from_terminal_turn m (rec.Scgn id g) = tt
from_terminal_turn m rec.Modrqd = tt
from_terminal_turn m (rec.Modcnf g) = tt
from_terminal_turn m (rec.Modref word) = tt
from_terminal_turn m rec.Chgrqd = tt
from_terminal_turn m (rec.Chgcnf plan) = tt
from_terminal_turn m (rec.Chgref word) = tt
from_terminal_turn m rec.Relrqd = tt
from_terminal_turn m (rec.Relcnf plan) = tt

-- whatever record comes from whatever node
pub take_turn : (from : Node) (m : MasterProc) (r : Rec) → TakesTurn (master_take from m r)
take_turn T m r = from_terminal_turn m r
take_turn A m r = from_second_turn A m r
take_turn B m r = from_second_turn B m r
take_turn M m r = tt

-- ---- an adoption

adopted_here_turn : (id : ℕ) (m : MasterProc) (c : Option Command) → InTurn (adopted_here id m c).1
adopted_here_turn id m None = refl
adopted_here_turn id m (Some (asked c first who wanted)) = refl
adopted_here_turn id m (Some (gone p w)) = waits_for_turn m (gone p (record w { moving = filter (λ y. not (is_moving id M y)) w.moving }))
adopted_here_turn id m (Some (recovering i terminal second)) = refl

pub adoption_turn : (m : MasterProc) (id : ℕ) → InTurn (master_adopted m id).1
adoption_turn m id = adopted_here_turn id m m.command

-- ---- a command

recovers_at_turn : (m : MasterProc) (id : ℕ) (x : Node) → InTurn (recovers_at m id x).1
recovers_at_turn m id M = refl
recovers_at_turn m id A = refl
recovers_at_turn m id B = refl
recovers_at_turn m id T = refl

recovers_row_turn : (m : MasterProc) (id : ℕ) (o : Option Row) → InTurn (recovers_row m id o).1
recovers_row_turn m id None = refl
recovers_row_turn m id (Some r) = recovers_at_turn m id r.anchor

command_by_turn : (m : MasterProc) (e : Event) (o : Option ℕ) → InTurn (command_by m e o).1
command_by_turn m e None = busy_is (begins_if m false (draft m.table e)).1 (begins_if_busy m false (draft m.table e))
command_by_turn m e (Some id) = recovers_row_turn m id (row m.table id)

unless_turn : (m : MasterProc) (e : Event) (o : Option Refusal) → TakesTurn (commands_unless m e o)
unless_turn m e None = command_by_turn m e (recovered_by e)
unless_turn m e (Some why) = tt

pub command_turn : (policies : ℕ) (m : MasterProc) (e : Event) → TakesTurn (master_command policies m e)
command_turn policies m e = unless_turn m e (first_refusal (command_refusals policies m e))
