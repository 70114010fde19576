-- Among what the master's procedures have it do, a status transfer for its own anchor stands alone.
use Rattle.std.proofs.Common.{ℕ, ◌≡◌, ◌++◌, ◌==◌, Bool, true, false, List, [], ◌∷◌, Option, Some, None, refl, sym, ap, ◌∙◌}
use Rattle.std.specs.Prelude.{Err, Ok, Result, filter, find, if◌then◌else◌, not, ⊤, ◌&&◌, ◌||◌}
use Rattle.std.specs.List.{flat_map, list_any}
use Rattle.dc_base.specs.Nodes.{is_same_node}
use Rattle.dc_base.specs.Records.{kind_of}
use Rattle.dc_base.specs.declared.answers.Word.{Word}
use Rattle.dc_base.specs.declared.events.Event.{Event}
use Rattle.dc_base.specs.declared.events.Event.TheVariants as event
use Rattle.dc_base.specs.declared.events.Note.{Note}
use Rattle.dc_base.specs.declared.events.Note.TheVariants as note
use Rattle.dc_base.specs.declared.nodes.Node.{Node}
use Rattle.dc_base.specs.declared.nodes.Node.TheVariants.{A, B, M, T}
use Rattle.dc_base.specs.declared.nodes.Want.{Want}
use Rattle.dc_base.specs.declared.nodes.Want.TheVariants as want
use Rattle.dc_base.specs.declared.records.Plan.{Plan}
use Rattle.dc_base.specs.declared.records.Rec.{Rec}
use Rattle.dc_base.specs.declared.records.Rec.TheVariants as rec
use Rattle.dc_base.specs.declared.records.RecKind.{RecKind}
use Rattle.dc_base.specs.declared.records.RecKind.TheVariants as kind
use Rattle.dc_base.specs.declared.records.StatusTransfer.{StatusTransfer}
use Rattle.node_rules.specs.Acts.{ProcFault, unexpected}
use Rattle.node_rules.specs.CommandTable.{row}
use Rattle.node_rules.specs.Drafts.{Draft, draft}
use Rattle.node_rules.specs.MasterEnds.{ends, ends_gone, ends_if, ends_recovering, forgetting, is_release_spent, releases_if, retries, tried_first, tries, tries_if, tries_now, waits_for}
use Rattle.node_rules.specs.MasterGo.{alone, before_acts, begins, begins_by, begins_if, drawn, goes, leave_acts, let_go, lets_go, moves_here, preparing, way}
use Rattle.node_rules.specs.MasterRecords.{adopted_if, agreed, agreed_if, asking_refusal, begins_asked, completed, completed_if, completing, failed_legs, failing, failing_at, is_answer, is_moving, moved, passed_to, recovered, recovered_at, recovered_second, recovered_there, rejected, rejected_if, rejecting, released, transferred, wanted_by}
use Rattle.node_rules.specs.MasterState.{MasterActs, MasterProc, waits_at, with_waits}
use Rattle.node_rules.specs.MasterTaking.{from_second, from_terminal, master_take}
use Rattle.node_rules.specs.Places.{is_at, other_second}
use Rattle.node_rules.specs.declared.acts.Act.{Act}
use Rattle.node_rules.specs.declared.acts.Act.TheVariants.{Pass as pass, Prepare as prepare, Say as say, Send as send, UnlockAll as unlock_all}
use Rattle.node_rules.specs.declared.commands.Change.{Change}
use Rattle.node_rules.specs.declared.commands.Command.{Command}
use Rattle.node_rules.specs.declared.commands.Command.TheVariants.{Asked as asked, Gone as gone, Recovering as recovering}
use Rattle.node_rules.specs.declared.commands.First.{First}
use Rattle.node_rules.specs.declared.commands.First.TheVariants.{Addition as addition, Modification as modification, Release as release}
use Rattle.node_rules.specs.declared.commands.Going.{Going}
use Rattle.node_rules.specs.declared.commands.Leaving.{Leaving}
use Rattle.node_rules.specs.declared.commands.Row.{Row}
use Rattle.node_rules.specs.declared.commands.Way.{Way}
use Rattle.run_control.specs.MasterControl.{Passes_nothing, is_pass}
use Rattle.run_control.proofs.Sent.{either}

-- ---- lists of acts

pub both_plain : (xs ys : List Act) → Passes_nothing xs → Passes_nothing ys → Passes_nothing (xs ++ ys)
both_plain [] ys p q = q
both_plain (x ∷ xs) ys p q = by (is_pass x) refl (λ rest. both_plain xs ys rest q)
  where
    unlike : false ≡ true → ⊥
    unlike e = absurd cc

    by : (b : Bool) → is_pass x ≡ b → (Passes_nothing xs → Passes_nothing (xs ++ ys)) → Passes_nothing ((x ∷ xs) ++ ys)
    by true yes' more = absurd (unlike (sym p ∙ ap (λ z. z || list_any is_pass xs) yes'))
    by false no' more = ap (λ z. z || list_any is_pass (xs ++ ys)) no' ∙ more (sym (ap (λ z. z || list_any is_pass xs) no') ∙ p)

each_plain : {X : Type 0} (f : X → List Act) → ((x : X) → Passes_nothing (f x)) → (xs : List X) → Passes_nothing (flat_map f xs)
each_plain f plain [] = refl
each_plain f plain (x ∷ xs) = both_plain (f x) (flat_map f xs) (plain x) (each_plain f plain xs)

-- of a state with acts
abbrev IsPlain : MasterActs → Type 0
IsPlain r = Passes_nothing r.1

before_plain : (acts : List Act) (r : MasterActs) → Passes_nothing acts → IsPlain r → IsPlain (before_acts acts r)
before_plain acts r p q = both_plain acts r.1 p q

-- ---- a command begins, goes and ends

leave_plain : (x : Option Node) (told : Option Leaving) (p : Plan) → Passes_nothing (leave_acts x told p)
leave_plain None told p = refl
leave_plain (Some x) None p = refl
leave_plain (Some x) (Some how) p = refl

pub goes_plain : (m : MasterProc) (c : Change) (w : Way) → IsPlain (goes m c w)
goes_plain m c w = leave_plain w.leaving w.told c.plan

preparing_plain : (p : Plan) → Passes_nothing (preparing p)
preparing_plain p = either Passes_nothing (moves_here p) (prepare p ∷ []) [] refl refl

begins_by_plain : (m : MasterProc) (d : Draft) (wanted : Bool) (o : Option (First × Node)) → IsPlain (begins_by m d wanted o)
begins_by_plain m d wanted None = goes_plain m d.change alone
begins_by_plain m d wanted (Some (first, who)) = refl

begins_plain : (m : MasterProc) (d : Draft) (wanted : Bool) → IsPlain (begins m d wanted)
begins_plain m d wanted = before_plain (preparing d.change.plan) (begins_by (drawn m d) d wanted d.first) (preparing_plain d.change.plan) (begins_by_plain (drawn m d) d wanted d.first)

pub begins_if_plain : (m : MasterProc) (wanted : Bool) (o : Option Draft) → IsPlain (begins_if m wanted o)
begins_if_plain m wanted None = refl
begins_if_plain m wanted (Some d) = begins_plain m d wanted

lets_go_plain : (m : MasterProc) (x : Node) (d : Draft) → IsPlain (lets_go m x d)
lets_go_plain m x d =
    both_plain (preparing d.change.plan) (goes (drawn m d) d.change (let_go x)).1 (preparing_plain d.change.plan) (goes_plain (drawn m d) d.change (let_go x))

releases_plain : (m : MasterProc) (x : Node) (spent : Bool) (o : Option Draft) → IsPlain (releases_if m x spent o)
releases_plain m x spent None = refl
releases_plain m x true (Some d) = refl
releases_plain m x false (Some d) = lets_go_plain (with_waits false x m) x d

tries_now_plain : (m : MasterProc) (x : Node) (there : Bool) → IsPlain (tries_now m x there)
tries_now_plain m x true = let d = draft m.table event.Release in releases_plain m x (is_release_spent m.table d) d
tries_now_plain m x false = refl

tries_if_plain : (m : MasterProc) (x : Node) (waits : Bool) (c : Option Command) → IsPlain (tries_if m x waits c)
tries_if_plain m x false c = refl
tries_if_plain m x true None = tries_now_plain m x (is_at x m.table.sec)
tries_if_plain m x true (Some (asked c first who wanted)) = refl
tries_if_plain m x true (Some (gone plan going)) = refl
tries_if_plain m x true (Some (recovering id terminal second)) = refl

pub tries_plain : (x : Node) (m : MasterProc) → IsPlain (tries x m)
tries_plain x m = tries_if_plain m x (waits_at m x) m.command

retries_plain : (m : MasterProc) → IsPlain (retries m)
retries_plain m =
    let x = tried_first m.table.sec in
    before_plain (tries x m).1 (tries (other_second x) (tries x m).0) (tries_plain x m) (tries_plain (other_second x) (tries x m).0)

pub ends_plain : (m : MasterProc) (acts : List Act) (how : Note) → Passes_nothing acts → IsPlain (ends m acts how)
ends_plain m acts how plain =
    before_plain (acts ++ say how ∷ []) (retries (record m { command = None })) (both_plain acts (say how ∷ []) plain refl) (retries_plain (record m { command = None }))

forgetting_plain : (x : Option Node) (g : ℕ) → Passes_nothing (forgetting x g)
forgetting_plain None g = refl
forgetting_plain (Some x) g = refl

ends_gone_plain : (m : MasterProc) (p : Plan) (w : Going) (complete : Bool) (moving : List (ℕ × Node)) → IsPlain (ends_gone m p w complete moving)
ends_gone_plain m p w false moving = refl
ends_gone_plain m p w true (x ∷ xs) = refl
ends_gone_plain m p w true [] = ends_plain m (forgetting w.leaving p.g) note.Done (forgetting_plain w.leaving p.g)

ends_recovering_plain : (m : MasterProc) (terminal : Bool) (second : Option Node) → IsPlain (ends_recovering m terminal second)
ends_recovering_plain m false None = ends_plain m [] note.Done refl
ends_recovering_plain m false (Some x) = refl
ends_recovering_plain m true second = refl

ends_if_plain : (m : MasterProc) (c : Option Command) → IsPlain (ends_if m c)
ends_if_plain m None = refl
ends_if_plain m (Some (asked c first who wanted)) = refl
ends_if_plain m (Some (gone plan going)) = ends_gone_plain m plan going going.complete going.moving
ends_if_plain m (Some (recovering id terminal second)) = ends_recovering_plain m terminal second

pub waits_for_plain : (m : MasterProc) (c : Command) → IsPlain (waits_for m c)
waits_for_plain m c = ends_if_plain (record m { command = Some c }) (Some c)

-- ---- records

-- what is taken is plain
abbrev pub TakesPlain : Result MasterActs ProcFault → Type 0
TakesPlain (Ok r) = Passes_nothing r.1
TakesPlain (Err why) = ⊤

agreed_plain_by : (k : RecKind) (m : MasterProc) (c : Change) (first : First) (who : Node) (wanted : Bool) (b : Bool) → TakesPlain (agreed_if k m c first who wanted b)
agreed_plain_by k m c first who wanted true = goes_plain m c (way first who wanted m.table.sec)
agreed_plain_by k m c first who wanted false = tt

agreed_plain : (k : RecKind) (f : First) (from : Node) (g : ℕ) (m : MasterProc) (c : Option Command) → TakesPlain (agreed k f from g m c)
agreed_plain k f from g m None = tt
agreed_plain k f from g m (Some (asked c first who wanted)) = agreed_plain_by k m c first who wanted (is_answer f from g first who c.plan.g)
agreed_plain k f from g m (Some (gone plan going)) = tt
agreed_plain k f from g m (Some (recovering id terminal second)) = tt

released_plain : (r : Result MasterActs ProcFault) (m : MasterProc) → TakesPlain r → TakesPlain (released r m)
released_plain (Ok r) m plain = plain
released_plain (Err why) m plain = refl

rejecting_plain : (first : First) (who : Node) (wanted : Bool) → Passes_nothing (rejecting first who wanted)
rejecting_plain first who false = refl
rejecting_plain addition who true = refl
rejecting_plain modification who true = refl
rejecting_plain release who true = refl

rejected_plain_by : (k : RecKind) (m : MasterProc) (first : First) (who : Node) (wanted : Bool) (b : Bool) → TakesPlain (rejected_if k m first who wanted b)
rejected_plain_by k m first who wanted true = ends_plain m (rejecting first who wanted) note.Rejected (rejecting_plain first who wanted)
rejected_plain_by k m first who wanted false = tt

rejected_plain : (k : RecKind) (f : First) (from : Node) (g : ℕ) (m : MasterProc) (c : Option Command) → TakesPlain (rejected k f from g m c)
rejected_plain k f from g m None = tt
rejected_plain k f from g m (Some (asked c first who wanted)) = rejected_plain_by k m first who wanted (is_answer f from g first who c.plan.g)
rejected_plain k f from g m (Some (gone plan going)) = tt
rejected_plain k f from g m (Some (recovering id terminal second)) = tt

completing_plain : (x : Option Node) (confirms : Bool) (g : ℕ) → Passes_nothing (completing x confirms g)
completing_plain None confirms g = refl
completing_plain (Some x) true g = refl
completing_plain (Some x) false g = refl

completed_plain_by : (m : MasterProc) (p : Plan) (w : Going) (b : Bool) → TakesPlain (completed_if m p w b)
completed_plain_by m p w true =
    before_plain (completing w.due w.confirms p.g ++ unlock_all p.g ∷ []) (waits_for m (gone p (record w { complete = true })))
    (both_plain (completing w.due w.confirms p.g) (unlock_all p.g ∷ []) (completing_plain w.due w.confirms p.g) refl) (waits_for_plain m (gone p (record w { complete = true })))
completed_plain_by m p w false = tt

completed_plain : (g : ℕ) (m : MasterProc) (c : Option Command) → TakesPlain (completed g m c)
completed_plain g m None = tt
completed_plain g m (Some (asked c first who wanted)) = tt
completed_plain g m (Some (gone p w)) = completed_plain_by m p w ((p.g == g) && not w.complete)
completed_plain g m (Some (recovering id terminal second)) = tt

failing_at_plain : (id g : ℕ) (x : Node) → Passes_nothing (failing_at id g x)
failing_at_plain id g M = refl
failing_at_plain id g A = refl
failing_at_plain id g B = refl
failing_at_plain id g T = refl

failing_plain : (id g : ℕ) (o : Option Row) → Passes_nothing (failing id g o)
failing_plain id g None = refl
failing_plain id g (Some r) = either Passes_nothing (r.g == g) (failing_at id g r.anchor) [] (failing_at_plain id g r.anchor) refl

failed_plain : (m : MasterProc) (pairs : List (ℕ × ℕ)) → IsPlain (failed_legs m pairs)
failed_plain m pairs = each_plain (λ (x : ℕ × ℕ). failing x.0 x.1 (row m.table x.0)) (λ x. failing_plain x.0 x.1 (row m.table x.0)) pairs

recovered_there_plain : (m : MasterProc) (id : ℕ) (second : Option Node) (b : Bool) → TakesPlain (recovered_there m id second b)
recovered_there_plain m id second true = waits_for_plain m (recovering id false second)
recovered_there_plain m id second false = tt

recovered_second_plain : (m : MasterProc) (id : ℕ) (terminal : Bool) (b : Bool) → TakesPlain (recovered_second m id terminal b)
recovered_second_plain m id terminal true = waits_for_plain m (recovering id terminal None)
recovered_second_plain m id terminal false = tt

recovered_at_plain : (x : Node) (m : MasterProc) (id : ℕ) (terminal : Bool) (second : Option Node) (same : Bool) → TakesPlain (recovered_at x m id terminal second same)
recovered_at_plain T m id terminal second same = recovered_there_plain m id second (terminal && same)
recovered_at_plain A m id terminal second same = recovered_second_plain m id terminal (is_at A second && same)
recovered_at_plain B m id terminal second same = recovered_second_plain m id terminal (is_at B second && same)
recovered_at_plain M m id terminal second same = tt

recovered_plain : (from : Node) (id : ℕ) (m : MasterProc) (c : Option Command) → TakesPlain (recovered from id m c)
recovered_plain from id m None = tt
recovered_plain from id m (Some (asked c first who wanted)) = tt
recovered_plain from id m (Some (gone plan going)) = tt
recovered_plain from id m (Some (recovering i terminal second)) = recovered_at_plain from m i terminal second (i == id)

adopted_plain : (k : RecKind) (m : MasterProc) (id : ℕ) (x : Node) (p : Plan) (w : Going) (b : Bool) → TakesPlain (adopted_if k m id x p w b)
adopted_plain k m id x p w true = waits_for_plain m (gone p (record w { moving = filter (λ y. not (is_moving id x y)) w.moving }))
adopted_plain k m id x p w false = tt

moved_plain : (from : Node) (g id : ℕ) (m : MasterProc) (c : Option Command) → TakesPlain (moved from g id m c)
moved_plain from g id m None = tt
moved_plain from g id m (Some (asked c first who wanted)) = tt
moved_plain from g id m (Some (gone p w)) = adopted_plain kind.Moved m id from p w ((p.g == g) && list_any (is_moving id from) w.moving)
moved_plain from g id m (Some (recovering i terminal second)) = tt

asked_plain : (m : MasterProc) (from : Node) (what : Want) (e : Event) (refuse : Word → Rec) (o : Option Word) → IsPlain (begins_asked m from what e refuse o)
asked_plain m from what e refuse (Some why) = refl
asked_plain m from what e refuse None = begins_if_plain m true (draft m.table e)

wanted_plain : (from : Node) (what : Want) (m : MasterProc) → IsPlain (wanted_by from what m)
wanted_plain from want.Rekey m = asked_plain m from want.Rekey event.RekeySecond (λ w. rec.Modref w) (asking_refusal from m)
wanted_plain from want.Change m = asked_plain m from want.Change event.Change (λ w. rec.Chgref w) (asking_refusal from m)
wanted_plain from want.Release m = tries_plain from (with_waits true from m)

-- ---- a status transfer for the master's own anchor stands alone

pub data PlainOrPass (m : MasterProc) : Result MasterActs ProcFault → Type 0 where
  plain : (r : MasterActs) → Passes_nothing r.1 → PlainOrPass m (Ok r)
  pass_alone : (status : StatusTransfer) → PlainOrPass m (Ok (m, pass status ∷ []))
  no_row_there : (why : ProcFault) → PlainOrPass m (Err why)

as_plain : (m : MasterProc) (r : Result MasterActs ProcFault) → TakesPlain r → PlainOrPass m r
as_plain m (Ok r) is = plain r is
as_plain m (Err why) is = no_row_there why

unless_own : (m : MasterProc) (k : RecKind) (b : Bool) (r : MasterActs) → Passes_nothing r.1 → PlainOrPass m (if b then Err (unexpected k) else Ok r)
unless_own m k true r is = no_row_there (unexpected k)
unless_own m k false r is = plain r is

passed_pass : (m : MasterProc) (s : StatusTransfer) (from : Node) (o : Option (ℕ × Node)) → PlainOrPass m (passed_to m s from o)
passed_pass m s from None = no_row_there (unexpected kind.Snst)
passed_pass m s from (Some (id, M)) = pass_alone s
passed_pass m s from (Some (id, A)) = unless_own m kind.Snst (is_same_node from A) (m, send A (rec.Snst s) ∷ []) refl
passed_pass m s from (Some (id, B)) = unless_own m kind.Snst (is_same_node from B) (m, send B (rec.Snst s) ∷ []) refl
passed_pass m s from (Some (id, T)) = no_row_there (unexpected kind.Snst)

transferred_pass : (from : Node) (s : StatusTransfer) (m : MasterProc) (c : Option Command) → PlainOrPass m (transferred from s m c)
transferred_pass from s m None = no_row_there (unexpected kind.Snst)
transferred_pass from s m (Some (asked c first who wanted)) = no_row_there (unexpected kind.Snst)
transferred_pass from s m (Some (gone p w)) = passed_pass m s from (if p.g == s.g then find (λ (x : ℕ × Node). x.0 == s.id) w.moving else None)
transferred_pass from s m (Some (recovering i terminal second)) = no_row_there (unexpected kind.Snst)

second_pass : (x : Node) (m : MasterProc) (r : Rec) → PlainOrPass m (from_second x m r)
second_pass x m (rec.Addack g) = as_plain m _ (agreed_plain kind.Addack addition x g m m.command)
second_pass x m (rec.Modack g) = as_plain m _ (agreed_plain kind.Modack modification x g m m.command)
second_pass x m (rec.Relack g) = as_plain m _ (released_plain _ m (agreed_plain kind.Relack release x g m m.command))
second_pass x m (rec.Addrej g) = as_plain m _ (rejected_plain kind.Addrej addition x g m m.command)
second_pass x m (rec.Modrej g) = as_plain m _ (rejected_plain kind.Modrej modification x g m m.command)
second_pass x m (rec.Relrej g) = as_plain m _ (rejected_plain kind.Relrej release x g m m.command)
second_pass x m (rec.Snst status) = transferred_pass x status m m.command
second_pass x m (rec.Moved g id) = as_plain m _ (moved_plain x g id m m.command)
second_pass x m (rec.Recovd id) = as_plain m _ (recovered_plain x id m m.command)
second_pass x m rec.Modrqd = plain _ (wanted_plain x want.Rekey m)
second_pass x m rec.Chgrqd = plain _ (wanted_plain x want.Change m)
second_pass x m rec.Relrqd = plain _ (wanted_plain x want.Release m)
second_pass x m (rec.Reconf plan key) = no_row_there (unexpected kind.Reconf)
second_pass x m (rec.Rcomp g) = no_row_there (unexpected kind.Rcomp)
second_pass x m (rec.Scgf failed) = no_row_there (unexpected kind.Scgf)
second_pass x m (rec.Recov id) = no_row_there (unexpected kind.Recov)
second_pass x m (rec.Addreq plan key) = no_row_there (unexpected kind.Addreq)
second_pass x m (rec.Modreq plan key) = no_row_there (unexpected kind.Modreq)
second_pass x m (rec.Recfg g) = no_row_there (unexpected kind.Recfg)
second_pass x m (rec.Relreq plan) = no_row_there (unexpected kind.Relreq)
second_pass x m (rec.Uecr g) = no_row_there (unexpected kind.Uecr)
second_pass x m (rec.Scgn id g) = no_row_there (unexpected kind.Scgn)
second_pass x m (rec.Modcnf g) = no_row_there (unexpected kind.Modcnf)
second_pass x m (rec.Modref word) = no_row_there (unexpected kind.Modref)
second_pass x m (rec.Chgcnf plan) = no_row_there (unexpected kind.Chgcnf)
second_pass x m (rec.Chgref word) = no_row_there (unexpected kind.Chgref)
second_pass x m (rec.Relcnf plan) = no_row_there (unexpected kind.Relcnf)

terminal_pass : (m : MasterProc) (r : Rec) → PlainOrPass m (from_terminal m r)
terminal_pass m (rec.Rcomp g) = as_plain m _ (completed_plain g m m.command)
terminal_pass m (rec.Scgf failed) = plain _ (failed_plain m failed)
terminal_pass m (rec.Recovd id) = as_plain m _ (recovered_plain T id m m.command)
terminal_pass m (rec.Reconf plan key) = no_row_there (unexpected kind.Reconf)
terminal_pass m (rec.Recov id) = no_row_there (unexpected kind.Recov)
terminal_pass m (rec.Addreq plan key) = no_row_there (unexpected kind.Addreq)
terminal_pass m (rec.Addack g) = no_row_there (unexpected kind.Addack)
terminal_pass m (rec.Addrej g) = no_row_there (unexpected kind.Addrej)
terminal_pass m (rec.Modreq plan key) = no_row_there (unexpected kind.Modreq)
terminal_pass m (rec.Modack g) = no_row_there (unexpected kind.Modack)
terminal_pass m (rec.Modrej g) = no_row_there (unexpected kind.Modrej)
terminal_pass m (rec.Recfg g) = no_row_there (unexpected kind.Recfg)
terminal_pass m (rec.Relreq plan) = no_row_there (unexpected kind.Relreq)
terminal_pass m (rec.Relack g) = no_row_there (unexpected kind.Relack)
terminal_pass m (rec.Relrej g) = no_row_there (unexpected kind.Relrej)
terminal_pass m (rec.Uecr g) = no_row_there (unexpected kind.Uecr)
terminal_pass m (rec.Snst status) = no_row_there (unexpected kind.Snst)
terminal_pass m (rec.Moved g id) = no_row_there (unexpected kind.Moved)
terminal_pass m (rec.Scgn id g) = no_row_there (unexpected kind.Scgn)
terminal_pass m rec.Modrqd = no_row_there (unexpected kind.Modrqd)
terminal_pass m (rec.Modcnf g) = no_row_there (unexpected kind.Modcnf)
terminal_pass m (rec.Modref word) = no_row_there (unexpected kind.Modref)
terminal_pass m rec.Chgrqd = no_row_there (unexpected kind.Chgrqd)
terminal_pass m (rec.Chgcnf plan) = no_row_there (unexpected kind.Chgcnf)
terminal_pass m (rec.Chgref word) = no_row_there (unexpected kind.Chgref)
terminal_pass m rec.Relrqd = no_row_there (unexpected kind.Relrqd)
terminal_pass m (rec.Relcnf plan) = no_row_there (unexpected kind.Relcnf)

-- whatever comes from whatever node
pub take_pass : (from : Node) (m : MasterProc) (r : Rec) → PlainOrPass m (master_take from m r)
take_pass T m r = terminal_pass m r
take_pass A m r = second_pass A m r
take_pass B m r = second_pass B m r
take_pass M m r = no_row_there (unexpected (kind_of r))
