-- The master's procedures keep to secondary nodes and the terminal, in each run.
use Rattle.std.proofs.Common.{ℕ, ◌≡◌, ◌++◌, ◌==◌, Bool, true, false, List, [], ◌∷◌, Option, Some, None, refl}
use Rattle.std.specs.Prelude.{Err, Ok, Result, filter, find, if◌then◌else◌, not, ◌&&◌}
use Rattle.std.specs.List.{AllByRecursion, flat_map, list_any}
use Rattle.transcript.proofs.OnEach.{each_append}
use Rattle.dc_base.specs.Nodes.{is_same_node, is_secondary, is_mm}
use Rattle.dc_base.specs.declared.answers.Refusal.{Refusal}
use Rattle.dc_base.specs.declared.answers.Word.{Word}
use Rattle.dc_base.specs.declared.events.Event.{Event}
use Rattle.dc_base.specs.declared.events.Event.TheVariants as event
use Rattle.dc_base.specs.declared.events.Note.{Note}
use Rattle.dc_base.specs.declared.events.Note.TheVariants as note
use Rattle.dc_base.specs.declared.nodes.Node.{Node}
use Rattle.dc_base.specs.declared.nodes.Node.TheVariants.{A, B, M, T}
use Rattle.dc_base.specs.declared.nodes.Shape.{Shape}
use Rattle.dc_base.specs.declared.nodes.Want.{Want}
use Rattle.dc_base.specs.declared.nodes.Want.TheVariants as want
use Rattle.dc_base.specs.declared.records.Plan.{Plan}
use Rattle.dc_base.specs.declared.records.Rec.{Rec}
use Rattle.dc_base.specs.declared.records.Rec.TheVariants as rec
use Rattle.dc_base.specs.declared.records.RecKind.{RecKind}
use Rattle.dc_base.specs.declared.records.RecKind.TheVariants as kind
use Rattle.dc_base.specs.declared.records.StatusTransfer.{StatusTransfer}
use Rattle.node_rules.specs.Acts.{ProcFault, first_refusal, unexpected}
use Rattle.node_rules.specs.CommandTable.{Table, row}
use Rattle.node_rules.specs.Drafts.{Draft, asking, asking_for, draft, next_second, shape_of}
use Rattle.node_rules.specs.MasterCommands.{command_by, command_refusals, commands_unless, master_command, recovered_by, recovers_at, recovers_row}
use Rattle.node_rules.specs.MasterEnds.{ends, ends_gone, ends_if, ends_recovering, forgetting, is_release_spent, releases_if, retries, tried_first, tries, tries_if, tries_now, waits_for}
use Rattle.node_rules.specs.MasterGo.{alone, before_acts, begins, begins_by, begins_if, drawn, goes, leave_acts, let_go, lets_go, moves_here, preparing, way}
use Rattle.node_rules.specs.MasterRecords.{adopted_if, agreed, agreed_if, asking_refusal, begins_asked, completed, completed_if, completing, failed_legs, failing, failing_at, is_answer, is_moving, moved, passed_to, recovered, recovered_at, recovered_second, recovered_there, rejected, rejected_if, rejecting, released, transferred, wanted_by}
use Rattle.node_rules.specs.MasterState.{MasterActs, MasterProc, waits_at, with_waits}
use Rattle.node_rules.specs.MasterTaking.{adopted_here, from_second, from_terminal, master_adopted, master_take}
use Rattle.node_rules.specs.Places.{is_at, other_second}
use Rattle.node_rules.specs.declared.acts.Act.{Act}
use Rattle.node_rules.specs.declared.acts.Act.TheVariants.{Prepare as prepare, Say as say, Send as send, UnlockAll as unlock_all}
use Rattle.node_rules.specs.declared.commands.Change.{Change}
use Rattle.node_rules.specs.declared.commands.Command.{Command}
use Rattle.node_rules.specs.declared.commands.Command.TheVariants.{Asked as asked, Gone as gone, Recovering as recovering}
use Rattle.node_rules.specs.declared.commands.First.{First}
use Rattle.node_rules.specs.declared.commands.First.TheVariants.{Addition as addition, Modification as modification, Release as release}
use Rattle.node_rules.specs.declared.commands.Going.{Going}
use Rattle.node_rules.specs.declared.commands.Leaving.{Leaving}
use Rattle.node_rules.specs.declared.commands.Row.{Row}
use Rattle.node_rules.specs.declared.commands.Way.{Way}
use Rattle.run_control.specs.Sound.{AddsSecond, AreSoundActs, IsSecond, IsSentOut, IsSound, IsSoundAct, IsSoundCommand, IsSoundDraft, IsSoundFirst, TakesSound}
use Rattle.run_control.proofs.Sent.{either}

-- ---- nodes

sent_out : (x : Node) → is_secondary x ≡ true → IsSentOut x
sent_out T is = absurd cc
sent_out M is = absurd cc
sent_out A is = tt
sent_out B is = tt

pub other_is : (x : Node) → is_secondary (other_second x) ≡ true
other_is A = refl
other_is B = refl
other_is M = refl
other_is T = refl

next_is : (x : Option Node) → IsSecond (next_second x)
next_is None = tt
next_is (Some x) = other_is x

-- ---- drafts

asking_is : (f : First) (x : Option Node) → IsSecond x → IsSoundFirst (asking f x)
asking_is f None is = tt
asking_is f (Some x) is = is

asking_for_is : (s : Shape) (x : Option Node) → IsSecond x → IsSoundFirst (asking_for s x)
asking_for_is s x is = either IsSoundFirst (is_mm s) None (asking modification x) tt (asking_is modification x is)

pub draft_sound : (t : Table) (e : Event) → AddsSecond e → IsSecond t.sec → IsSoundDraft (draft t e)
draft_sound t (event.Bearer id n first shape threshold policy) adds is = (is, asking_for_is shape t.sec is)
draft_sound t (event.Reshape id shape) adds is = (is, asking_is modification t.sec is)
draft_sound t (event.Remove id) adds is = (is, asking_for_is (shape_of (row t id)) t.sec is)
draft_sound t (event.Add node) adds is = (adds, adds)
draft_sound t event.Change adds is = (next_is t.sec, asking_is addition (next_second t.sec) (next_is t.sec))
draft_sound t event.Release adds is = (tt, asking_is release t.sec is)
draft_sound t event.RekeySecond adds is = (is, asking_is modification t.sec is)
draft_sound t (event.RekeyMaster root) adds is = (is, asking_is modification t.sec is)
draft_sound t (event.Recover id) adds is = tt
draft_sound t (event.Report node id) adds is = tt
draft_sound t (event.Deny node on) adds is = tt
draft_sound t (event.Ask node what) adds is = tt
draft_sound t event.ScgFail adds is = tt
draft_sound t (event.Submit id d payload) adds is = tt
draft_sound t (event.Step l i) adds is = tt
draft_sound t (event.Lose l i) adds is = tt
draft_sound t (event.Again l i) adds is = tt

-- ---- a command begins, goes and ends

before_sound : (acts : List Act) (r : MasterActs) → AllByRecursion IsSoundAct acts → AreSoundActs r → AreSoundActs (before_acts acts r)
before_sound acts r are is = record { state = is.state; acts = each_append IsSoundAct acts r.1 are is.acts }

leave_sound : (x : Option Node) (told : Option Leaving) (p : Plan) → IsSecond x → AllByRecursion IsSoundAct (leave_acts x told p)
leave_sound None told p is = tt
leave_sound (Some x) None p is = tt
leave_sound (Some x) (Some how) p is = (sent_out x is, tt)

goes_sound : (m : MasterProc) (c : Change) (w : Way) → IsSecond c.plan.sec → IsSecond w.due → IsSecond w.leaving → AreSoundActs (goes m c w)
goes_sound m c w sec due leaving = record {
  state = record { sec = sec; command = (sec, due, leaving) };
  acts = (tt, (sec, leave_sound w.leaving w.told c.plan leaving));
}

way_due : (first : First) (who : Node) (wanted : Bool) (sec : Option Node) → is_secondary who ≡ true → IsSecond (way first who wanted sec).due
way_due addition who wanted sec is = is
way_due modification who wanted sec is = is
way_due release who wanted sec is = tt

pub way_leaving : (first : First) (who : Node) (wanted : Bool) (sec : Option Node) → is_secondary who ≡ true → IsSecond sec → IsSecond (way first who wanted sec).leaving
way_leaving addition who wanted sec is second = second
way_leaving modification who wanted sec is second = tt
way_leaving release who wanted sec is second = is

preparing_sound : (p : Plan) → IsSecond p.sec → AllByRecursion IsSoundAct (preparing p)
preparing_sound p is = either (AllByRecursion IsSoundAct) (moves_here p) (prepare p ∷ []) [] (is, tt) tt

begins_by_sound : (m : MasterProc) (d : Draft) (wanted : Bool) (o : Option (First × Node)) → IsSound m → IsSecond d.change.plan.sec → IsSoundFirst o → AreSoundActs (begins_by m d wanted o)
begins_by_sound m d wanted None sound sec is = goes_sound m d.change alone sec tt tt
begins_by_sound m d wanted (Some (first, who)) sound sec is = record {
  state = record { sec = sound.sec; command = (sec, is) };
  acts = (sent_out who is, tt);
}

drawn_sound : (m : MasterProc) (d : Draft) → IsSound m → IsSound (drawn m d)
drawn_sound m d sound = record { sec = sound.sec; command = sound.command }

begins_sound : (m : MasterProc) (d : Draft) (wanted : Bool) → IsSound m → IsSecond d.change.plan.sec × IsSoundFirst d.first → AreSoundActs (begins m d wanted)
begins_sound m d wanted sound is =
    before_sound (preparing d.change.plan) (begins_by (drawn m d) d wanted d.first) (preparing_sound d.change.plan is.0) (begins_by_sound (drawn m d) d wanted d.first (drawn_sound m d sound) is.0 is.1)

begins_if_sound : (m : MasterProc) (wanted : Bool) (o : Option Draft) → IsSound m → IsSoundDraft o → AreSoundActs (begins_if m wanted o)
begins_if_sound m wanted None sound is = record { state = sound; acts = tt }
begins_if_sound m wanted (Some d) sound is = begins_sound m d wanted sound is

lets_go_sound : (m : MasterProc) (x : Node) (d : Draft) → is_secondary x ≡ true → IsSecond d.change.plan.sec → AreSoundActs (lets_go m x d)
lets_go_sound m x d second sec =
    before_sound (say (note.Begin want.Release) ∷ preparing d.change.plan) (goes (drawn m d) d.change (let_go x)) (tt, preparing_sound d.change.plan sec) (goes_sound (drawn m d) d.change (let_go x) sec tt second)

with_waits_sound : (b : Bool) (x : Node) (m : MasterProc) → IsSound m → IsSound (with_waits b x m)
with_waits_sound b A m sound = record { sec = sound.sec; command = sound.command }
with_waits_sound b B m sound = record { sec = sound.sec; command = sound.command }
with_waits_sound b M m sound = sound
with_waits_sound b T m sound = sound

releases_sound : (m : MasterProc) (x : Node) (spent : Bool) (o : Option Draft) → is_secondary x ≡ true → IsSound m → IsSoundDraft o → AreSoundActs (releases_if m x spent o)
releases_sound m x spent None second sound is = record { state = sound; acts = tt }
releases_sound m x true (Some d) second sound is = record { state = sound; acts = tt }
releases_sound m x false (Some d) second sound is = lets_go_sound (with_waits false x m) x d second is.0

tries_now_sound : (m : MasterProc) (x : Node) (there : Bool) → is_secondary x ≡ true → IsSound m → AreSoundActs (tries_now m x there)
tries_now_sound m x true second sound = let d = draft m.table event.Release in releases_sound m x (is_release_spent m.table d) d second sound (draft_sound m.table event.Release tt sound.sec)
tries_now_sound m x false second sound = record { state = with_waits_sound false x m sound; acts = (sent_out x second, tt) }

tries_if_sound : (m : MasterProc) (x : Node) (waits : Bool) (c : Option Command) → is_secondary x ≡ true → IsSound m → AreSoundActs (tries_if m x waits c)
tries_if_sound m x false c second sound = record { state = sound; acts = tt }
tries_if_sound m x true None second sound = tries_now_sound m x (is_at x m.table.sec) second sound
tries_if_sound m x true (Some (asked c first who wanted)) second sound = record { state = sound; acts = tt }
tries_if_sound m x true (Some (gone plan going)) second sound = record { state = sound; acts = tt }
tries_if_sound m x true (Some (recovering id terminal sec)) second sound = record { state = sound; acts = tt }

pub tries_sound : (x : Node) (m : MasterProc) → is_secondary x ≡ true → IsSound m → AreSoundActs (tries x m)
tries_sound x m second sound = tries_if_sound m x (waits_at m x) m.command second sound

pub first_is : (sec : Option Node) → is_secondary (tried_first sec) ≡ true
first_is None = refl
first_is (Some A) = refl
first_is (Some B) = refl
first_is (Some M) = refl
first_is (Some T) = refl

retries_sound : (m : MasterProc) → IsSound m → AreSoundActs (retries m)
retries_sound m sound =
    let x = tried_first m.table.sec in
    let one = tries_sound x m (first_is m.table.sec) sound in
    before_sound (tries x m).1 (tries (other_second x) (tries x m).0) one.acts (tries_sound (other_second x) (tries x m).0 (other_is x) one.state)

ends_sound : (m : MasterProc) (acts : List Act) (how : Note) → IsSound m → AllByRecursion IsSoundAct acts → AreSoundActs (ends m acts how)
ends_sound m acts how sound are =
    let m' : MasterProc = record m { command = None } in
    before_sound (acts ++ say how ∷ []) (retries m') (each_append IsSoundAct acts (say how ∷ []) are (tt, tt)) (retries_sound m' (record { sec = sound.sec; command = tt }))

forgetting_sound : (x : Option Node) (g : ℕ) → IsSecond x → AllByRecursion IsSoundAct (forgetting x g)
forgetting_sound None g is = tt
forgetting_sound (Some x) g is = (sent_out x is, tt)

ends_gone_sound : (m : MasterProc) (p : Plan) (w : Going) (complete : Bool) (moving : List (ℕ × Node)) → IsSound m → IsSecond w.leaving → AreSoundActs (ends_gone m p w complete moving)
ends_gone_sound m p w false moving sound leaving = record { state = sound; acts = tt }
ends_gone_sound m p w true (x ∷ xs) sound leaving = record { state = sound; acts = tt }
ends_gone_sound m p w true [] sound leaving = ends_sound m (forgetting w.leaving p.g) note.Done sound (forgetting_sound w.leaving p.g leaving)

ends_recovering_sound : (m : MasterProc) (terminal : Bool) (second : Option Node) → IsSound m → AreSoundActs (ends_recovering m terminal second)
ends_recovering_sound m false None sound = ends_sound m [] note.Done sound tt
ends_recovering_sound m false (Some x) sound = record { state = sound; acts = tt }
ends_recovering_sound m true second sound = record { state = sound; acts = tt }

ends_if_sound : (m : MasterProc) (c : Option Command) → IsSound m → IsSoundCommand c → AreSoundActs (ends_if m c)
ends_if_sound m None sound is = record { state = sound; acts = tt }
ends_if_sound m (Some (asked c first who wanted)) sound is = record { state = sound; acts = tt }
ends_if_sound m (Some (gone plan going)) sound is = ends_gone_sound m plan going going.complete going.moving sound is.2
ends_if_sound m (Some (recovering id terminal second)) sound is = ends_recovering_sound m terminal second sound

waits_for_sound : (m : MasterProc) (c : Command) → IsSound m → IsSoundCommand (Some c) → AreSoundActs (waits_for m c)
waits_for_sound m c sound is = ends_if_sound (record m { command = Some c }) (Some c) (record { sec = sound.sec; command = is }) is

-- ---- records

agreed_sound_by : (k : RecKind) (m : MasterProc) (c : Change) (first : First) (who : Node) (wanted : Bool) (b : Bool) → IsSound m → IsSecond c.plan.sec × (is_secondary who ≡ true) → TakesSound (agreed_if k m c first who wanted b)
agreed_sound_by k m c first who wanted true sound is =
    goes_sound m c (way first who wanted m.table.sec) is.0 (way_due first who wanted m.table.sec is.1) (way_leaving first who wanted m.table.sec is.1 sound.sec)
agreed_sound_by k m c first who wanted false sound is = tt

agreed_sound : (k : RecKind) (f : First) (from : Node) (g : ℕ) (m : MasterProc) (c : Option Command) → IsSound m → IsSoundCommand c → TakesSound (agreed k f from g m c)
agreed_sound k f from g m None sound is = tt
agreed_sound k f from g m (Some (asked c first who wanted)) sound is = agreed_sound_by k m c first who wanted (is_answer f from g first who c.plan.g) sound is
agreed_sound k f from g m (Some (gone plan going)) sound is = tt
agreed_sound k f from g m (Some (recovering id terminal second)) sound is = tt

released_sound : (r : Result MasterActs ProcFault) (m : MasterProc) → IsSound m → TakesSound r → TakesSound (released r m)
released_sound (Ok r) m sound is = is
released_sound (Err why) m sound is = record { state = sound; acts = tt }

rejecting_sound : (first : First) (who : Node) (wanted : Bool) → is_secondary who ≡ true → AllByRecursion IsSoundAct (rejecting first who wanted)
rejecting_sound first who false is = tt
rejecting_sound addition who true is = (sent_out (other_second who) (other_is who), tt)
rejecting_sound modification who true is = (sent_out who is, tt)
rejecting_sound release who true is = tt

rejected_sound_by : (k : RecKind) (m : MasterProc) (first : First) (who : Node) (wanted : Bool) (b : Bool) → IsSound m → is_secondary who ≡ true → TakesSound (rejected_if k m first who wanted b)
rejected_sound_by k m first who wanted true sound is = ends_sound m (rejecting first who wanted) note.Rejected sound (rejecting_sound first who wanted is)
rejected_sound_by k m first who wanted false sound is = tt

rejected_sound : (k : RecKind) (f : First) (from : Node) (g : ℕ) (m : MasterProc) (c : Option Command) → IsSound m → IsSoundCommand c → TakesSound (rejected k f from g m c)
rejected_sound k f from g m None sound is = tt
rejected_sound k f from g m (Some (asked c first who wanted)) sound is = rejected_sound_by k m first who wanted (is_answer f from g first who c.plan.g) sound is.1
rejected_sound k f from g m (Some (gone plan going)) sound is = tt
rejected_sound k f from g m (Some (recovering id terminal second)) sound is = tt

completing_sound : (x : Option Node) (confirms : Bool) (g : ℕ) → IsSecond x → AllByRecursion IsSoundAct (completing x confirms g)
completing_sound None confirms g is = tt
completing_sound (Some x) true g is = (sent_out x is, tt)
completing_sound (Some x) false g is = (sent_out x is, tt)

completed_sound_by : (m : MasterProc) (p : Plan) (w : Going) (b : Bool) → IsSound m → IsSecond p.sec × IsSecond w.due × IsSecond w.leaving → TakesSound (completed_if m p w b)
completed_sound_by m p w true sound is =
    before_sound (completing w.due w.confirms p.g ++ unlock_all p.g ∷ []) (waits_for m (gone p (record w { complete = true })))
    (each_append IsSoundAct (completing w.due w.confirms p.g) (unlock_all p.g ∷ []) (completing_sound w.due w.confirms p.g is.1) (tt, tt))
    (waits_for_sound m (gone p (record w { complete = true })) sound is)
completed_sound_by m p w false sound is = tt

completed_sound : (g : ℕ) (m : MasterProc) (c : Option Command) → IsSound m → IsSoundCommand c → TakesSound (completed g m c)
completed_sound g m None sound is = tt
completed_sound g m (Some (asked c first who wanted)) sound is = tt
completed_sound g m (Some (gone p w)) sound is = completed_sound_by m p w ((p.g == g) && not w.complete) sound is
completed_sound g m (Some (recovering id terminal second)) sound is = tt

failing_at_sound : (id g : ℕ) (x : Node) → AllByRecursion IsSoundAct (failing_at id g x)
failing_at_sound id g M = (tt, tt)
failing_at_sound id g A = (tt, tt)
failing_at_sound id g B = (tt, tt)
failing_at_sound id g T = tt

failing_sound : (id g : ℕ) (o : Option Row) → AllByRecursion IsSoundAct (failing id g o)
failing_sound id g None = tt
failing_sound id g (Some r) = either (AllByRecursion IsSoundAct) (r.g == g) (failing_at id g r.anchor) [] (failing_at_sound id g r.anchor) tt

each_sound : {X : Type 0} (f : X → List Act) → ((x : X) → AllByRecursion IsSoundAct (f x)) → (xs : List X) → AllByRecursion IsSoundAct (flat_map f xs)
each_sound f are [] = tt
each_sound f are (x ∷ xs) = each_append IsSoundAct (f x) (flat_map f xs) (are x) (each_sound f are xs)

failed_sound : (m : MasterProc) (pairs : List (ℕ × ℕ)) → IsSound m → AreSoundActs (failed_legs m pairs)
failed_sound m pairs sound = record { state = sound; acts = each_sound (λ (x : ℕ × ℕ). failing x.0 x.1 (row m.table x.0)) (λ x. failing_sound x.0 x.1 (row m.table x.0)) pairs }

recovered_there_sound : (m : MasterProc) (id : ℕ) (second : Option Node) (b : Bool) → IsSound m → IsSecond second → TakesSound (recovered_there m id second b)
recovered_there_sound m id second true sound is = waits_for_sound m (recovering id false second) sound is
recovered_there_sound m id second false sound is = tt

recovered_second_sound : (m : MasterProc) (id : ℕ) (terminal : Bool) (b : Bool) → IsSound m → TakesSound (recovered_second m id terminal b)
recovered_second_sound m id terminal true sound = waits_for_sound m (recovering id terminal None) sound tt
recovered_second_sound m id terminal false sound = tt

recovered_at_sound : (x : Node) (m : MasterProc) (id : ℕ) (terminal : Bool) (second : Option Node) (same : Bool) → IsSound m → IsSecond second → TakesSound (recovered_at x m id terminal second same)
recovered_at_sound T m id terminal second same sound is = recovered_there_sound m id second (terminal && same) sound is
recovered_at_sound A m id terminal second same sound is = recovered_second_sound m id terminal (is_at A second && same) sound
recovered_at_sound B m id terminal second same sound is = recovered_second_sound m id terminal (is_at B second && same) sound
recovered_at_sound M m id terminal second same sound is = tt

recovered_sound : (from : Node) (id : ℕ) (m : MasterProc) (c : Option Command) → IsSound m → IsSoundCommand c → TakesSound (recovered from id m c)
recovered_sound from id m None sound is = tt
recovered_sound from id m (Some (asked c first who wanted)) sound is = tt
recovered_sound from id m (Some (gone plan going)) sound is = tt
recovered_sound from id m (Some (recovering i terminal second)) sound is = recovered_at_sound from m i terminal second (i == id) sound is

adopted_sound : (k : RecKind) (m : MasterProc) (id : ℕ) (x : Node) (p : Plan) (w : Going) (b : Bool) → IsSound m → IsSecond p.sec × IsSecond w.due × IsSecond w.leaving → TakesSound (adopted_if k m id x p w b)
adopted_sound k m id x p w true sound is = waits_for_sound m (gone p (record w { moving = filter (λ y. not (is_moving id x y)) w.moving })) sound is
adopted_sound k m id x p w false sound is = tt

moved_sound : (from : Node) (g id : ℕ) (m : MasterProc) (c : Option Command) → IsSound m → IsSoundCommand c → TakesSound (moved from g id m c)
moved_sound from g id m None sound is = tt
moved_sound from g id m (Some (asked c first who wanted)) sound is = tt
moved_sound from g id m (Some (gone p w)) sound is = adopted_sound kind.Moved m id from p w ((p.g == g) && list_any (is_moving id from) w.moving) sound is
moved_sound from g id m (Some (recovering i terminal second)) sound is = tt

passed_sound : (m : MasterProc) (s : StatusTransfer) (from : Node) (o : Option (ℕ × Node)) → IsSound m → TakesSound (passed_to m s from o)
passed_sound m s from None sound = tt
passed_sound m s from (Some (id, M)) sound = record { state = sound; acts = (tt, tt) }
passed_sound m s from (Some (id, A)) sound = either TakesSound (is_same_node from A) (Err (unexpected kind.Snst)) (Ok (m, send A (rec.Snst s) ∷ [])) tt (record { state = sound; acts = (tt, tt) })
passed_sound m s from (Some (id, B)) sound = either TakesSound (is_same_node from B) (Err (unexpected kind.Snst)) (Ok (m, send B (rec.Snst s) ∷ [])) tt (record { state = sound; acts = (tt, tt) })
passed_sound m s from (Some (id, T)) sound = tt

transferred_sound : (from : Node) (s : StatusTransfer) (m : MasterProc) (c : Option Command) → IsSound m → TakesSound (transferred from s m c)
transferred_sound from s m None sound = tt
transferred_sound from s m (Some (asked c first who wanted)) sound = tt
transferred_sound from s m (Some (gone p w)) sound = passed_sound m s from (if p.g == s.g then find (λ (x : ℕ × Node). x.0 == s.id) w.moving else None) sound
transferred_sound from s m (Some (recovering i terminal second)) sound = tt

asked_sound : (m : MasterProc) (from : Node) (what : Want) (e : Event) (refuse : Word → Rec) (o : Option Word) → is_secondary from ≡ true → IsSound m → AddsSecond e → AreSoundActs (begins_asked m from what e refuse o)
asked_sound m from what e refuse (Some why) second sound adds = record { state = sound; acts = (sent_out from second, tt) }
asked_sound m from what e refuse None second sound adds =
    before_sound (say (note.Begin what) ∷ []) (begins_if m true (draft m.table e)) (tt, tt) (begins_if_sound m true (draft m.table e) sound (draft_sound m.table e adds sound.sec))

wanted_sound : (from : Node) (what : Want) (m : MasterProc) → is_secondary from ≡ true → IsSound m → AreSoundActs (wanted_by from what m)
wanted_sound from want.Rekey m second sound = asked_sound m from want.Rekey event.RekeySecond (λ w. rec.Modref w) (asking_refusal from m) second sound tt
wanted_sound from want.Change m second sound = asked_sound m from want.Change event.Change (λ w. rec.Chgref w) (asking_refusal from m) second sound tt
wanted_sound from want.Release m second sound = tries_sound from (with_waits true from m) second (with_waits_sound true from m sound)

second_sound : (x : Node) (m : MasterProc) (r : Rec) → is_secondary x ≡ true → IsSound m → TakesSound (from_second x m r)
second_sound x m (rec.Addack g) second sound = agreed_sound kind.Addack addition x g m m.command sound sound.command
second_sound x m (rec.Modack g) second sound = agreed_sound kind.Modack modification x g m m.command sound sound.command
second_sound x m (rec.Relack g) second sound = released_sound (agreed kind.Relack release x g m m.command) m sound (agreed_sound kind.Relack release x g m m.command sound sound.command)
second_sound x m (rec.Addrej g) second sound = rejected_sound kind.Addrej addition x g m m.command sound sound.command
second_sound x m (rec.Modrej g) second sound = rejected_sound kind.Modrej modification x g m m.command sound sound.command
second_sound x m (rec.Relrej g) second sound = rejected_sound kind.Relrej release x g m m.command sound sound.command
second_sound x m (rec.Snst status) second sound = transferred_sound x status m m.command sound
second_sound x m (rec.Moved g id) second sound = moved_sound x g id m m.command sound sound.command
second_sound x m (rec.Recovd id) second sound = recovered_sound x id m m.command sound sound.command
second_sound x m rec.Modrqd second sound = wanted_sound x want.Rekey m second sound
second_sound x m rec.Chgrqd second sound = wanted_sound x want.Change m second sound
second_sound x m rec.Relrqd second sound = wanted_sound x want.Release m second sound
second_sound x m (rec.Reconf plan key) second sound = tt
second_sound x m (rec.Rcomp g) second sound = tt
second_sound x m (rec.Scgf failed) second sound = tt
second_sound x m (rec.Recov id) second sound = tt
second_sound x m (rec.Addreq plan key) second sound = tt
second_sound x m (rec.Modreq plan key) second sound = tt
second_sound x m (rec.Recfg g) second sound = tt
second_sound x m (rec.Relreq plan) second sound = tt
second_sound x m (rec.Uecr g) second sound = tt
second_sound x m (rec.Scgn id g) second sound = tt
second_sound x m (rec.Modcnf g) second sound = tt
second_sound x m (rec.Modref word) second sound = tt
second_sound x m (rec.Chgcnf plan) second sound = tt
second_sound x m (rec.Chgref word) second sound = tt
second_sound x m (rec.Relcnf plan) second sound = tt

terminal_sound : (m : MasterProc) (r : Rec) → IsSound m → TakesSound (from_terminal m r)
terminal_sound m (rec.Rcomp g) sound = completed_sound g m m.command sound sound.command
terminal_sound m (rec.Scgf failed) sound = failed_sound m failed sound
terminal_sound m (rec.Recovd id) sound = recovered_sound T id m m.command sound sound.command
terminal_sound m (rec.Reconf plan key) sound = tt
terminal_sound m (rec.Recov id) sound = tt
terminal_sound m (rec.Addreq plan key) sound = tt
terminal_sound m (rec.Addack g) sound = tt
terminal_sound m (rec.Addrej g) sound = tt
terminal_sound m (rec.Modreq plan key) sound = tt
terminal_sound m (rec.Modack g) sound = tt
terminal_sound m (rec.Modrej g) sound = tt
terminal_sound m (rec.Recfg g) sound = tt
terminal_sound m (rec.Relreq plan) sound = tt
terminal_sound m (rec.Relack g) sound = tt
terminal_sound m (rec.Relrej g) sound = tt
terminal_sound m (rec.Uecr g) sound = tt
terminal_sound m (rec.Snst status) sound = tt
terminal_sound m (rec.Moved g id) sound = tt
terminal_sound m (rec.Scgn id g) sound = tt
terminal_sound m rec.Modrqd sound = tt
terminal_sound m (rec.Modcnf g) sound = tt
terminal_sound m (rec.Modref word) sound = tt
terminal_sound m rec.Chgrqd sound = tt
terminal_sound m (rec.Chgcnf plan) sound = tt
terminal_sound m (rec.Chgref word) sound = tt
terminal_sound m rec.Relrqd sound = tt
terminal_sound m (rec.Relcnf plan) sound = tt

-- whatever record comes from whatever node
pub take_sound : (from : Node) (m : MasterProc) (r : Rec) → IsSound m → TakesSound (master_take from m r)
take_sound T m r sound = terminal_sound m r sound
take_sound A m r sound = second_sound A m r refl sound
take_sound B m r sound = second_sound B m r refl sound
take_sound M m r sound = tt

-- ---- commands

recovers_at_sound : (m : MasterProc) (id : ℕ) (x : Node) → IsSound m → AreSoundActs (recovers_at m id x)
recovers_at_sound m id M sound = record { state = record { sec = sound.sec; command = tt }; acts = (tt, (tt, tt)) }
recovers_at_sound m id A sound = record { state = record { sec = sound.sec; command = refl }; acts = (tt, (tt, tt)) }
recovers_at_sound m id B sound = record { state = record { sec = sound.sec; command = refl }; acts = (tt, (tt, tt)) }
recovers_at_sound m id T sound = record { state = sound; acts = tt }

recovers_row_sound : (m : MasterProc) (id : ℕ) (o : Option Row) → IsSound m → AreSoundActs (recovers_row m id o)
recovers_row_sound m id None sound = record { state = sound; acts = tt }
recovers_row_sound m id (Some r) sound = recovers_at_sound m id r.anchor sound

command_by_sound : (m : MasterProc) (e : Event) (o : Option ℕ) → AddsSecond e → IsSound m → AreSoundActs (command_by m e o)
command_by_sound m e None adds sound = begins_if_sound m false (draft m.table e) sound (draft_sound m.table e adds sound.sec)
command_by_sound m e (Some id) adds sound = recovers_row_sound m id (row m.table id) sound

unless_sound : (m : MasterProc) (e : Event) (o : Option Refusal) → AddsSecond e → IsSound m → TakesSound (commands_unless m e o)
unless_sound m e None adds sound = command_by_sound m e (recovered_by e) adds sound
unless_sound m e (Some why) adds sound = tt

pub command_sound : (policies : ℕ) (m : MasterProc) (e : Event) → AddsSecond e → IsSound m → TakesSound (master_command policies m e)
command_sound policies m e adds sound = unless_sound m e (first_refusal (command_refusals policies m e)) adds sound

-- ---- an adoption

adopted_here_sound : (id : ℕ) (m : MasterProc) (c : Option Command) → IsSound m → IsSoundCommand c → AreSoundActs (adopted_here id m c)
adopted_here_sound id m None sound is = record { state = sound; acts = tt }
adopted_here_sound id m (Some (asked c first who wanted)) sound is = record { state = sound; acts = tt }
adopted_here_sound id m (Some (gone p w)) sound is = waits_for_sound m (gone p (record w { moving = filter (λ y. not (is_moving id M y)) w.moving })) sound is
adopted_here_sound id m (Some (recovering i terminal second)) sound is = record { state = sound; acts = tt }

pub adoption_sound : (m : MasterProc) (id : ℕ) → IsSound m → AreSoundActs (master_adopted m id)
adoption_sound m id sound = adopted_here_sound id m m.command sound sound.command
