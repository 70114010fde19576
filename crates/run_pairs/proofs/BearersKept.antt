-- What a secondary node holds it keeps, whatever it does but carry a plan out or forget the terminal.
use Rattle.std.proofs.Common.{ℕ, ◌≡◌, ◌==◌, Bool, true, false, List, [], ◌∷◌, Option, Some, None, refl, sym, ap, subst, ◌∙◌}
use Rattle.std.specs.Prelude.{Err, Ok, Result, if◌then◌else◌, map, not, ⊤, ◌&&◌}
use Rattle.std.specs.List.{AllByRecursion}
use Rattle.std.proofs.lemmas.Bool.{eqb-true}
use Rattle.dc_base.specs.Count.{bits}
use Rattle.dc_base.specs.declared.answers.Refusal.{Refusal}
use Rattle.dc_base.specs.declared.answers.Word.{Word}
use Rattle.dc_base.specs.declared.events.Event.{Event}
use Rattle.dc_base.specs.declared.events.Event.TheVariants as event
use Rattle.dc_base.specs.declared.nodes.Node.{Node}
use Rattle.dc_base.specs.declared.nodes.Want.TheVariants as want
use Rattle.dc_base.specs.declared.records.Plan.{Plan}
use Rattle.dc_base.specs.declared.records.Rec.{Rec}
use Rattle.dc_base.specs.declared.records.Rec.TheVariants as rec
use Rattle.dc_base.specs.declared.records.RecKind.{RecKind}
use Rattle.dc_base.specs.declared.records.RecKind.TheVariants as kind
use Rattle.dc_base.specs.declared.records.StatusTransfer.{StatusTransfer}
use Rattle.node_rules.specs.Acts.{ProcFault, first_refusal}
use Rattle.node_rules.specs.Effects.{quiet}
use Rattle.node_rules.specs.SecondRecords.{failure_told, is_wanted, key_confirmed, leave_confirmed, reconfigured, release_confirmed, release_needless, recovery_asked, refused_there, second_take, status_passed}
use Rattle.node_rules.specs.SecondState.{SecondActs, SecondProc, second_commands, second_commands_unless, second_refusals}
use Rattle.node_rules.specs.Secondary.{SecondNode}
use Rattle.node_rules.specs.declared.acts.Act.{Act}
use Rattle.node_rules.specs.declared.acts.Act.TheVariants.{FailOne as fail_one, Go as go, Pass as pass, Prepare as prepare, RecoverOne as recover_one, Say as say, Send as send, UnlockAll as unlock_all}
use Rattle.node_rules.specs.declared.commands.Membership.{Membership}
use Rattle.node_rules.specs.declared.commands.Membership.TheVariants.{Joined as joined, Left as left, Outside as outside}
use Rattle.node_rules.specs.declared.inputs.Effects.{Effects}
use Rattle.node_rules.specs.declared.inputs.Input.{Input}
use Rattle.run_control.specs.Rows.{is_outside}
use Rattle.run_control.specs.SecondControl.{SecondProjects, Views, act_view, acts_view, heard, is_holding, no_row, not_ordered, opened_by, ordered, passed, stage_after, unfit, views_within}
use Rattle.run_control.specs.Steps.{SecondStepped, record_in, second_by_command, second_by_nothing, second_by_record, second_by_traffic}
use Rattle.run_control.specs.Traffic.{second_adopts, second_keeps, with_view}
use Rattle.run_control.specs.Views.{Stage, View, adopting, at_stage, has_status, holds, is_awaited, is_lacking, lacks_status, second_view}
use Rattle.run_control.proofs.Turns.{never}
use Rattle.run_pairs.specs.Bearers.{KeepsAll, KeepsHeld, is_mover}

-- ---- one view

pub keeps_itself : (o : Option View) → KeepsHeld o o
keeps_itself o = (λ n first is. is, λ is. is)

pub keeps_then : (o p q : Option View) → KeepsHeld o p → KeepsHeld p q → KeepsHeld o q
keeps_then o p q one two = (λ n first is. two.0 n first (one.0 n first is), λ is. two.1 (one.1 is))

-- an anchor with its bearer as it was, that holds it if it did
pub keeps_view : (v v' : View) → v'.bearer ≡ v.bearer → (is_holding v.stage ≡ true → is_holding v'.stage ≡ true) → KeepsHeld (Some v) (Some v')
keeps_view v v' same stays = (λ n first is. ap (λ b. (bits b.n == bits n) && (b.first == first)) same ∙ is, stays)

and_no : (b : Bool) → (b && false) ≡ false
and_no true = refl
and_no false = refl

-- an anchor that waits for a status transfer does not hold its bearer
holding_lacks : (k : Stage) (b : Bool) → (b && is_lacking k) ≡ true → is_holding k ≡ true → ⊥
holding_lacks holds b is held = never (b && false) is (and_no b)
holding_lacks lacks_status b is held = absurd cc
holding_lacks has_status b is held = absurd cc

opened_keeps : (g : ℕ) (o : Option View) → KeepsHeld o (opened_by g o)
opened_keeps g None = keeps_itself None
opened_keeps g (Some v) = by (v.bearer.g == g)
  where
    by : (b : Bool) → KeepsHeld (Some v) (Some (if b then record v { opened = true } else v))
    by true = keeps_view v (record v { opened = true }) refl (λ is. is)
    by false = keeps_itself (Some v)

passed_keeps : (status : StatusTransfer) (adopts : Bool) (o : Option View) → KeepsHeld o (passed status adopts o)
passed_keeps status adopts None = keeps_itself None
passed_keeps status adopts (Some v) = by (is_awaited status v) refl
  where
    by : (b : Bool) → is_awaited status v ≡ b → KeepsHeld (Some v) (Some (if b then at_stage (stage_after adopts) v else v))
    by true awaited = keeps_view v (at_stage (stage_after adopts) v) refl (λ held. absurd (holding_lacks v.stage ((v.bearer.id == status.id) && (v.bearer.g == status.g)) awaited held))
    by false other = keeps_itself (Some v)

-- ---- acts that carry no plan out

abbrev pub IsNoGo : Act → Type 0
IsNoGo (send to r) = ⊤
IsNoGo (prepare p) = ⊤
IsNoGo (go p) = ⊥
IsNoGo (unlock_all g) = ⊤
IsNoGo (say n) = ⊤
IsNoGo (recover_one id) = ⊤
IsNoGo (fail_one id g) = ⊤
IsNoGo (pass status) = ⊤

pub all_kept : (v : Views) → KeepsAll v v
all_kept v k = keeps_itself (v k)

act_keeps : (me : Node) (adopts : Bool) (a : Act) (views : Views) → IsNoGo a → KeepsAll views (act_view me adopts a views)
act_keeps me adopts (send to r) views is = all_kept views
act_keeps me adopts (prepare p) views is = all_kept views
act_keeps me adopts (go p) views is = absurd is
act_keeps me adopts (unlock_all g) views is = λ k. opened_keeps g (views k)
act_keeps me adopts (say n) views is = all_kept views
act_keeps me adopts (recover_one id) views is = all_kept views
act_keeps me adopts (fail_one id g) views is = all_kept views
act_keeps me adopts (pass status) views is = λ k. by k (status.id == k) refl
  where
    by : (k : ℕ) (b : Bool) → (status.id == k) ≡ b → KeepsHeld (views k) (if b then passed status adopts (views status.id) else views k)
    by k true here = subst (λ j. KeepsHeld (views j) (passed status adopts (views status.id))) (eqb-true status.id k here) (passed_keeps status adopts (views status.id))
    by k false apart = keeps_itself (views k)

pub acts_keep : (me : Node) (acts : List (Bool × Act)) (views : Views) → AllByRecursion IsNoGo (map (λ (a : Bool × Act). a.1) acts) → KeepsAll views (acts_view me acts views)
acts_keep me [] views all = all_kept views
acts_keep me (a ∷ acts) views all = λ k.
    keeps_then (views k) (act_view me a.0 a.1 views k) (acts_view me acts (act_view me a.0 a.1 views) k) (act_keeps me a.0 a.1 views all.0 k) (acts_keep me acts (act_view me a.0 a.1 views) all.1 k)

-- ---- a step of the procedures

pub within_keeps : (m : Membership) (views : Views) → is_outside m ≡ false → views_within m views ≡ views
within_keeps outside views is = absurd cc
within_keeps joined views is = refl
within_keeps left views is = refl

pub projects_keeps : (s : SecondNode) (acts : SecondActs) (done : SecondNode × Effects) → AllByRecursion IsNoGo acts.1 → is_outside done.0.proc.membership ≡ false → SecondProjects s acts done → KeepsAll (second_view s) (second_view done.0)
projects_keeps s acts done all context is k =
    let context' : is_outside acts.0.membership ≡ false = sym (ap (λ (p : SecondProc). is_outside p.membership) is.proc) ∙ context in
    subst (KeepsHeld (second_view s k)) (sym (is.after k ∙ ap (λ v. acts_view acts.0.me is.chosen v k) (within_keeps acts.0.membership (second_view s) context')))
    (acts_keep acts.0.me is.chosen (second_view s) (subst (AllByRecursion IsNoGo) (sym is.all) all) k)

nothing_keeps : (s : SecondNode) (done : SecondNode × Effects) → done ≡ (s, quiet) → KeepsAll (second_view s) (second_view done.0)
nothing_keeps s done is k = subst (λ (z : SecondNode × Effects). KeepsHeld (second_view s k) (second_view z.0 k)) (sym is) (keeps_itself (second_view s k))

-- what is taken carries nothing out
abbrev TakesNoGo : Result SecondActs ProcFault → Type 0
TakesNoGo (Ok acts) = AllByRecursion IsNoGo acts.1
TakesNoGo (Err why) = ⊤

reconfigured_none : (s : SecondProc) (g : ℕ) (m : Membership) → TakesNoGo (reconfigured s g m)
reconfigured_none s g outside = tt
reconfigured_none s g joined = (tt, tt)
reconfigured_none s g left = tt

key_none : (s : SecondProc) (g : ℕ) (b : Bool) (m : Membership) → TakesNoGo (key_confirmed s g b m)
key_none s g true outside = tt
key_none s g true joined = (tt, (tt, tt))
key_none s g true left = tt
key_none s g false m = tt

refused_none : (k : RecKind) (s : SecondProc) (w : Word) (b : Bool) → TakesNoGo (refused_there k s w b)
refused_none k s w true = (tt, tt)
refused_none k s w false = tt

status_none : (s : SecondProc) (status : StatusTransfer) (m : Membership) → TakesNoGo (status_passed s status m)
status_none s status outside = tt
status_none s status joined = (tt, tt)
status_none s status left = tt

recovery_none : (s : SecondProc) (id : ℕ) (m : Membership) → TakesNoGo (recovery_asked s id m)
recovery_none s id outside = tt
recovery_none s id joined = (tt, (tt, tt))
recovery_none s id left = tt

failure_none : (s : SecondProc) (id g : ℕ) (m : Membership) → TakesNoGo (failure_told s id g m)
failure_none s id g outside = tt
failure_none s id g joined = (tt, tt)
failure_none s id g left = (tt, tt)

needless_none : (s : SecondProc) (b : Bool) → TakesNoGo (release_needless s b)
needless_none s true = (tt, tt)
needless_none s false = tt

-- a release of generation 0 releases nothing
confirmed_none : (s : SecondProc) (p : Plan) → not (p.g == 0) ≡ false → TakesNoGo (release_confirmed s p)
confirmed_none s p idle = by (p.g == 0) idle
  where
    by : (b : Bool) → not b ≡ false → TakesNoGo (if b then release_needless s (is_wanted want.Release s.want) else leave_confirmed kind.Relcnf s p (is_wanted want.Release s.want) s.membership)
    by true is = needless_none s (is_wanted want.Release s.want)
    by false is = absurd cc

record_none : (s : SecondProc) (r : Rec) → is_mover r ≡ false → TakesNoGo (second_take s r)
record_none s (rec.Reconf plan key) none = tt
record_none s (rec.Rcomp g) none = tt
record_none s (rec.Scgf failed) none = tt
record_none s (rec.Recov id) none = recovery_none s id s.membership
record_none s (rec.Recovd id) none = tt
record_none s (rec.Addreq plan key) none = absurd cc
record_none s (rec.Addack g) none = tt
record_none s (rec.Addrej g) none = tt
record_none s (rec.Modreq plan key) none = absurd cc
record_none s (rec.Modack g) none = tt
record_none s (rec.Modrej g) none = tt
record_none s (rec.Recfg g) none = reconfigured_none s g s.membership
record_none s (rec.Relreq plan) none = absurd cc
record_none s (rec.Relack g) none = tt
record_none s (rec.Relrej g) none = tt
record_none s (rec.Uecr g) none = absurd cc
record_none s (rec.Snst status) none = status_none s status s.membership
record_none s (rec.Moved g id) none = tt
record_none s (rec.Scgn id g) none = failure_none s id g s.membership
record_none s rec.Modrqd none = tt
record_none s (rec.Modcnf g) none = key_none s g (is_wanted want.Rekey s.want) s.membership
record_none s (rec.Modref word) none = refused_none kind.Modref s word (is_wanted want.Rekey s.want)
record_none s rec.Chgrqd none = tt
record_none s (rec.Chgcnf plan) none = absurd cc
record_none s (rec.Chgref word) none = refused_none kind.Chgref s word (is_wanted want.Change s.want)
record_none s rec.Relrqd none = tt
record_none s (rec.Relcnf plan) none = confirmed_none s plan none

pub commands_none : (s : SecondProc) (e : Event) → AllByRecursion IsNoGo (second_commands s e).1
commands_none s (event.Bearer id n first shape threshold policy) = tt
commands_none s (event.Reshape id shape) = tt
commands_none s (event.Remove id) = tt
commands_none s (event.Add node) = tt
commands_none s event.Change = tt
commands_none s event.Release = tt
commands_none s event.RekeySecond = tt
commands_none s (event.RekeyMaster root) = tt
commands_none s (event.Recover id) = tt
commands_none s (event.Report node id) = tt
commands_none s (event.Deny node on) = tt
commands_none s (event.Ask node what) = (tt, tt)
commands_none s event.ScgFail = tt
commands_none s (event.Submit id d payload) = tt
commands_none s (event.Step l i) = tt
commands_none s (event.Lose l i) = tt
commands_none s (event.Again l i) = tt

unless_none : (s : SecondProc) (e : Event) (o : Option Refusal) → TakesNoGo (second_commands_unless s e o)
unless_none s e None = commands_none s e
unless_none s e (Some why) = tt

-- ---- any step

pub adopts_keeps : (id : ℕ) (v : View) (views : Views) → views id ≡ Some v → (k : ℕ) → KeepsHeld (views k) (with_view id (adopting v) views k)
adopts_keeps id v views at k = by (id == k) refl
  where
    by : (b : Bool) → (id == k) ≡ b → KeepsHeld (views k) (if b then Some (adopting v) else views k)
    by true here = subst (λ o. KeepsHeld o (Some (adopting v))) (sym (ap views (sym (eqb-true id k here)) ∙ at)) (keeps_view v (adopting v) refl (λ is. refl))
    by false apart = keeps_itself (views k)

-- a secondary node keeps what it holds, if it takes no plan and has a context of the terminal then
pub second_holds : (s : SecondNode) (i : Input) (done : SecondNode × Effects) → ((r : Rec) → record_in i ≡ Some r → is_mover r ≡ false) → is_outside done.0.proc.membership ≡ false → SecondStepped s i done → KeepsAll (second_view s) (second_view done.0)
second_holds s i done none context (second_by_traffic (second_keeps proc views sends ascends)) k = subst (KeepsHeld (second_view s k)) (sym (views k)) (keeps_itself (second_view s k))
second_holds s i done none context (second_by_traffic (second_adopts id v at had proc views sends ascends)) k = subst (KeepsHeld (second_view s k)) (sym (views k)) (adopts_keeps id v (second_view s) at k)
second_holds s i done none context (second_by_record r came_in (heard acts fit taken is)) k = projects_keeps s acts done (subst TakesNoGo taken (record_none s.proc r (none r came_in))) context is k
second_holds s i done none context (second_by_record r came_in (unfit fit is)) k = nothing_keeps s done is k
second_holds s i done none context (second_by_record r came_in (no_row why taken is)) k = nothing_keeps s done is k
second_holds s i done none context (second_by_command e came_in (ordered acts taken is)) k =
    projects_keeps s acts done (subst TakesNoGo taken (unless_none s.proc e (first_refusal (second_refusals s.proc e)))) context is k
second_holds s i done none context (second_by_command e came_in (not_ordered why refused is)) k = nothing_keeps s done is k
second_holds s i done none context (second_by_nothing is) k = nothing_keeps s done is k
