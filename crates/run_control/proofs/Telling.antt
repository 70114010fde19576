-- The master's procedures ask the terminal for what is due, once, and for nothing else.
use Rattle.std.proofs.Common.{ℕ, ◌≡◌, ◌++◌, Bool, true, false, List, [], ◌∷◌, Option, Some, None, refl, sym, ap, subst, ◌∙◌, append_assoc}
use Rattle.std.specs.List.{flat_map}
use Rattle.dc_base.specs.Nodes.{is_secondary}
use Rattle.dc_base.specs.declared.events.Event.TheVariants as event
use Rattle.dc_base.specs.declared.events.Note.{Note}
use Rattle.dc_base.specs.declared.events.Note.TheVariants as note
use Rattle.dc_base.specs.declared.nodes.Node.{Node}
use Rattle.dc_base.specs.declared.nodes.Node.TheVariants.{A, B, M, T}
use Rattle.dc_base.specs.declared.nodes.Want.TheVariants as want
use Rattle.dc_base.specs.declared.records.Plan.{Plan}
use Rattle.dc_base.specs.declared.records.Rec.{Rec}
use Rattle.dc_base.specs.declared.records.Rec.TheVariants as rec
use Rattle.key_chain.specs.KeyNames.{octets}
use Rattle.node_rules.specs.CommandTable.{master_key_of}
use Rattle.node_rules.specs.Drafts.{Draft, draft}
use Rattle.node_rules.specs.MasterEnds.{and_then, ends, ends_gone, ends_if, ends_recovering, forgetting, is_release_spent, nothing_to_release, releases_if, retries, tried_first, tries, tries_if, tries_now, waits_for}
use Rattle.node_rules.specs.MasterGo.{alone, before_acts, begins, begins_by, begins_if, drawn, first_record, goes, leave_acts, leave_record, let_go, lets_go, moves_here, preparing}
use Rattle.node_rules.specs.MasterState.{MasterActs, MasterProc, waits_at, with_waits}
use Rattle.node_rules.specs.Places.{is_at, other_second}
use Rattle.node_rules.specs.declared.acts.Act.{Act}
use Rattle.node_rules.specs.declared.acts.Act.TheVariants.{Prepare as prepare, Say as say}
use Rattle.node_rules.specs.declared.commands.Change.{Change}
use Rattle.node_rules.specs.declared.commands.Command.{Command}
use Rattle.node_rules.specs.declared.commands.Command.TheVariants.{Asked as asked, Gone as gone, Recovering as recovering}
use Rattle.node_rules.specs.declared.commands.First.{First}
use Rattle.node_rules.specs.declared.commands.Going.{Going}
use Rattle.node_rules.specs.declared.commands.Leaving.{Leaving}
use Rattle.node_rules.specs.declared.commands.Way.{Way}
use Rattle.run_control.specs.Sound.{IsSecond, IsSoundCommand, IsSoundDraft, IsSoundFirst}
use Rattle.run_control.specs.Telling.{Due, IsAsking, Tells, due_by, nothing_due, plan_unless, recovery_if, tells_nothing, tells_once, told_by, told_by_act}
use Rattle.run_control.proofs.Sent.{either}
use Rattle.run_control.proofs.Sound.{first_is, other_is}

-- ---- lists of acts

-- what acts tell the terminal
abbrev pub told_in : List Act → List Rec
told_in acts = flat_map told_by_act acts

pub told_append : (xs ys : List Act) → told_in (xs ++ ys) ≡ told_in xs ++ told_in ys
told_append [] ys = refl
told_append (x ∷ xs) ys = ap (λ zs. told_by_act x ++ zs) (told_append xs ys) ∙ sym (append_assoc (told_by_act x) (told_in xs) (told_in ys))

-- a secondary node is not the terminal
pub not_told : (x : Node) (r : Rec) → is_secondary x ≡ true → told_by x r ≡ []
not_told T r is = absurd cc
not_told M r is = refl
not_told A r is = refl
not_told B r is = refl

-- acts before others that tell nothing
pub before_tells : (due : Due) (acts : List Act) (r : MasterActs) → told_in acts ≡ [] → Tells due r → Tells due (before_acts acts r)
before_tells due acts r none (tells_nothing told stays) = tells_nothing (told_append acts r.1 ∙ ap (λ zs. zs ++ told_in r.1) none ∙ told) stays
before_tells due acts r none (tells_once free x told asks) = tells_once free x (told_append acts r.1 ∙ ap (λ zs. zs ++ told_in r.1) none ∙ told) asks

-- nothing asks where nothing is due
not_asking : (d : Due) (x : Rec) → d ≡ nothing_due → IsAsking d x → ⊥
not_asking d x none asks = no_one x (subst (λ z. IsAsking z x) none asks)
  where
    no_one : (y : Rec) → IsAsking nothing_due y → ⊥
    no_one y a = a

-- one step after another
then_tells : (due : Due) (r : MasterActs) (f : MasterProc → MasterActs) → Tells due r → Tells (due_by r.0.command) (f r.0) → Tells due (and_then r f)
then_tells due r f (tells_nothing told stays) (tells_nothing told' stays') = tells_nothing (told_append r.1 (f r.0).1 ∙ ap (λ zs. zs ++ told_in (f r.0).1) told ∙ told') (stays' ∙ stays)
then_tells due r f (tells_nothing told stays) (tells_once free x told' asks) = tells_once (sym stays ∙ free) x (told_append r.1 (f r.0).1 ∙ ap (λ zs. zs ++ told_in (f r.0).1) told ∙ told') asks
then_tells due r f (tells_once free x told asks) (tells_nothing told' stays') =
    tells_once free x (told_append r.1 (f r.0).1 ∙ ap (λ zs. zs ++ told_in (f r.0).1) told ∙ ap (λ zs. x ∷ zs) told') (subst (λ z. IsAsking z x) (sym stays') asks)
then_tells due r f (tells_once free x told asks) (tells_once free' y told' asks') = absurd (not_asking (due_by r.0.command) x free' asks)

-- ---- a command goes

leave_tells : (x : Option Node) (told : Option Leaving) (p : Plan) → IsSecond x → told_in (leave_acts x told p) ≡ []
leave_tells None told p is = refl
leave_tells (Some x) None p is = refl
leave_tells (Some x) (Some how) p is = ap (λ zs. zs ++ []) (not_told x (leave_record how p) is)

pub goes_tells : (m : MasterProc) (c : Change) (w : Way) → IsSecond w.leaving → Tells nothing_due (goes m c w)
goes_tells m c w leaving =
    tells_once refl (rec.Reconf c.plan (octets m.table.book.roots (master_key_of c.root))) (ap (λ zs. rec.Reconf c.plan (octets m.table.book.roots (master_key_of c.root)) ∷ zs) (leave_tells w.leaving w.told c.plan leaving)) refl

preparing_tells : (p : Plan) → told_in (preparing p) ≡ []
preparing_tells p = either (λ acts. told_in acts ≡ []) (moves_here p) (prepare p ∷ []) [] refl refl

begins_by_tells : (m : MasterProc) (d : Draft) (wanted : Bool) (o : Option (First × Node)) → IsSoundFirst o → Tells nothing_due (begins_by m d wanted o)
begins_by_tells m d wanted None is = goes_tells m d.change alone tt
begins_by_tells m d wanted (Some (first, who)) is = tells_nothing (ap (λ zs. zs ++ []) (not_told who (first_record m.table.book.roots first d.change) is)) refl

begins_tells : (m : MasterProc) (d : Draft) (wanted : Bool) → IsSoundFirst d.first → Tells nothing_due (begins m d wanted)
begins_tells m d wanted is = before_tells nothing_due (preparing d.change.plan) (begins_by (drawn m d) d wanted d.first) (preparing_tells d.change.plan) (begins_by_tells (drawn m d) d wanted d.first is)

pub begins_if_tells : (m : MasterProc) (wanted : Bool) (o : Option Draft) → IsSoundDraft o → due_by m.command ≡ nothing_due → Tells nothing_due (begins_if m wanted o)
begins_if_tells m wanted None is free = tells_nothing refl free
begins_if_tells m wanted (Some d) is free = begins_tells m d wanted is.1

-- ---- releases that wait

lets_go_tells : (m : MasterProc) (x : Node) (d : Draft) → is_secondary x ≡ true → Tells nothing_due (lets_go m x d)
lets_go_tells m x d second =
    before_tells nothing_due (say (note.Begin want.Release) ∷ preparing d.change.plan) (goes (drawn m d) d.change (let_go x)) (preparing_tells d.change.plan) (goes_tells (drawn m d) d.change (let_go x) second)

pub waits_command : (b : Bool) (x : Node) (m : MasterProc) → (with_waits b x m).command ≡ m.command
waits_command b A m = refl
waits_command b B m = refl
waits_command b M m = refl
waits_command b T m = refl

releases_tells : (m : MasterProc) (x : Node) (spent : Bool) (o : Option Draft) → is_secondary x ≡ true → due_by m.command ≡ nothing_due → Tells nothing_due (releases_if m x spent o)
releases_tells m x spent None second free = tells_nothing refl free
releases_tells m x true (Some d) second free = tells_nothing refl free
releases_tells m x false (Some d) second free = lets_go_tells (with_waits false x m) x d second

tries_now_tells : (m : MasterProc) (x : Node) (there : Bool) → is_secondary x ≡ true → due_by m.command ≡ nothing_due → Tells nothing_due (tries_now m x there)
tries_now_tells m x true second free = let d = draft m.table event.Release in releases_tells m x (is_release_spent m.table d) d second free
tries_now_tells m x false second free = tells_nothing (ap (λ zs. zs ++ []) (not_told x nothing_to_release second)) (ap due_by (waits_command false x m) ∙ free)

tries_if_tells : (m : MasterProc) (x : Node) (waits : Bool) (c : Option Command) → is_secondary x ≡ true → m.command ≡ c → Tells (due_by c) (tries_if m x waits c)
tries_if_tells m x false c second is = tells_nothing refl (ap due_by is)
tries_if_tells m x true None second is = tries_now_tells m x (is_at x m.table.sec) second (ap due_by is)
tries_if_tells m x true (Some (asked c first who wanted)) second is = tells_nothing refl (ap due_by is)
tries_if_tells m x true (Some (gone plan going)) second is = tells_nothing refl (ap due_by is)
tries_if_tells m x true (Some (recovering id terminal sec)) second is = tells_nothing refl (ap due_by is)

pub tries_tells : (x : Node) (m : MasterProc) → is_secondary x ≡ true → Tells (due_by m.command) (tries x m)
tries_tells x m second = tries_if_tells m x (waits_at m x) m.command second refl

retries_tells : (m : MasterProc) → Tells (due_by m.command) (retries m)
retries_tells m =
    let x = tried_first m.table.sec in
    then_tells (due_by m.command) (tries x m) (tries (other_second x)) (tries_tells x m (first_is m.table.sec)) (tries_tells (other_second x) (tries x m).0 (other_is x))

-- ---- a command ends

pub ends_tells : (m : MasterProc) (acts : List Act) (how : Note) → told_in acts ≡ [] → Tells nothing_due (ends m acts how)
ends_tells m acts how none =
    before_tells nothing_due (acts ++ say how ∷ []) (retries (record m { command = None })) (told_append acts (say how ∷ []) ∙ ap (λ zs. zs ++ []) none) (retries_tells (record m { command = None }))

forgetting_tells : (x : Option Node) (g : ℕ) → IsSecond x → told_in (forgetting x g) ≡ []
forgetting_tells None g is = refl
forgetting_tells (Some x) g is = ap (λ zs. zs ++ []) (not_told x (rec.Uecr g) is)

ends_gone_tells : (m : MasterProc) (p : Plan) (w : Going) (complete : Bool) (moving : List (ℕ × Node)) → IsSecond w.leaving → due_by m.command ≡ plan_unless complete p.g
    → Tells (plan_unless complete p.g) (ends_gone m p w complete moving)
ends_gone_tells m p w false moving leaving is = tells_nothing refl is
ends_gone_tells m p w true (x ∷ xs) leaving is = tells_nothing refl is
ends_gone_tells m p w true [] leaving is = ends_tells m (forgetting w.leaving p.g) note.Done (forgetting_tells w.leaving p.g leaving)

ends_recovering_tells : (m : MasterProc) (id : ℕ) (terminal : Bool) (second : Option Node) → due_by m.command ≡ recovery_if terminal id → Tells (recovery_if terminal id) (ends_recovering m terminal second)
ends_recovering_tells m id false None is = ends_tells m [] note.Done refl
ends_recovering_tells m id false (Some x) is = tells_nothing refl is
ends_recovering_tells m id true second is = tells_nothing refl is

ends_if_tells : (m : MasterProc) (c : Option Command) → IsSoundCommand c → m.command ≡ c → Tells (due_by c) (ends_if m c)
ends_if_tells m None sound is = tells_nothing refl (ap due_by is)
ends_if_tells m (Some (asked c first who wanted)) sound is = tells_nothing refl (ap due_by is)
ends_if_tells m (Some (gone plan going)) sound is = ends_gone_tells m plan going going.complete going.moving sound.2 (ap due_by is)
ends_if_tells m (Some (recovering id terminal second)) sound is = ends_recovering_tells m id terminal second (ap due_by is)

-- the open command after an answer: what is due by it stays due, until it is asked for anew
pub waits_for_tells : (m : MasterProc) (c : Command) → IsSoundCommand (Some c) → Tells (due_by (Some c)) (waits_for m c)
waits_for_tells m c sound = ends_if_tells (record m { command = Some c }) (Some c) sound refl
