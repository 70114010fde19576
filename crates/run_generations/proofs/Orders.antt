-- The plans that a secondary node carries out are those of the records that it takes.
use Rattle.std.proofs.Common.{ℕ, suc, zero, ◌≤◌, ◌+◌, ◌==◌, Bool, true, false, Option, Some, None, subst, arith}
use Rattle.std.specs.Prelude.{Err, Ok, Result, is_none, not, ⊤, ◌&&◌}
use Rattle.std.specs.List.{AllByRecursion}
use Rattle.dc_base.specs.declared.answers.Refusal.{Refusal}
use Rattle.dc_base.specs.declared.answers.Word.{Word}
use Rattle.dc_base.specs.declared.events.Event.{Event}
use Rattle.dc_base.specs.declared.events.Event.TheVariants as event
use Rattle.dc_base.specs.declared.nodes.Want.TheVariants as want
use Rattle.dc_base.specs.declared.records.Plan.{Plan}
use Rattle.dc_base.specs.declared.records.Rec.{Rec}
use Rattle.dc_base.specs.declared.records.Rec.TheVariants as rec
use Rattle.dc_base.specs.declared.records.RecKind.{RecKind}
use Rattle.dc_base.specs.declared.records.RecKind.TheVariants as kind
use Rattle.node_rules.specs.Acts.{ProcFault, first_refusal}
use Rattle.node_rules.specs.SecondRecords.{added, addition_asked, failure_told, forgotten, is_one_drop, is_wanted, key_confirmed, leave_confirmed, let_off, modification_asked, modified, reconfigured, recovery_asked, refused_there, release_asked, release_confirmed, release_needless, second_take, status_passed}
use Rattle.node_rules.specs.SecondState.{SecondActs, SecondProc, second_command, second_commands_unless, second_refusals}
use Rattle.node_rules.specs.declared.acts.Act.{Act}
use Rattle.node_rules.specs.declared.acts.Act.TheVariants.{FailOne as fail_one, Go as go, Pass as pass, Prepare as prepare, RecoverOne as recover_one, Say as say, Send as send, UnlockAll as unlock_all}
use Rattle.node_rules.specs.declared.commands.Membership.{Membership}
use Rattle.node_rules.specs.declared.commands.Membership.TheVariants.{Joined as joined, Left as left, Outside as outside}
use Rattle.run_control.proofs.Sent.{either}
use Rattle.run_generations.specs.Ahead.{AllBelow}
use Rattle.run_generations.specs.Newer.{later, plan_generation}
use Rattle.run_generations.proofs.Telling.{later_is}

-- generation 0 is below each
pub later_below : (b g : ℕ) → 1 ≤ b → AllBelow b (later g) → g + 1 ≤ b
later_below b zero one is = one
later_below b (suc g) one is = (subst (AllBelow b) (later_is (suc g) (omega arith)) is).0

module _ (b : ℕ) where
  -- a plan that is carried out is below
  abbrev pub GoesBelow : Act → Type 0
  GoesBelow (go p) = p.g + 1 ≤ b
  GoesBelow (send to r) = ⊤
  GoesBelow (prepare p) = ⊤
  GoesBelow (unlock_all g) = ⊤
  GoesBelow (say n) = ⊤
  GoesBelow (recover_one id) = ⊤
  GoesBelow (fail_one id g) = ⊤
  GoesBelow (pass status) = ⊤

  -- ---- what its procedures have it do

  abbrev pub TakesBelow : Result SecondActs ProcFault → Type 0
  TakesBelow (Ok acts) = AllByRecursion GoesBelow acts.1
  TakesBelow (Err why) = ⊤

  added_below : (s : SecondProc) (p : Plan) (d : Bool) → p.g + 1 ≤ b → AllByRecursion GoesBelow (added s p d).1
  added_below s p true le = (tt, tt)
  added_below s p false le = (tt, (tt, (le, tt)))

  addition_below : (s : SecondProc) (p : Plan) (m : Membership) → p.g + 1 ≤ b → TakesBelow (addition_asked s p m)
  addition_below s p outside le = added_below s p s.denies le
  addition_below s p joined le = tt
  addition_below s p left le = tt

  modified_below : (s : SecondProc) (p : Plan) (d : Bool) → p.g + 1 ≤ b → AllByRecursion GoesBelow (modified s p d).1
  modified_below s p true le = (tt, tt)
  modified_below s p false le = (tt, (le, tt))

  modification_below : (s : SecondProc) (p : Plan) (m : Membership) → p.g + 1 ≤ b → TakesBelow (modification_asked s p m)
  modification_below s p outside le = tt
  modification_below s p joined le = modified_below s p (s.denies && not (is_one_drop p.items)) le
  modification_below s p left le = tt

  let_off_below : (s : SecondProc) (p : Plan) (d : Bool) → p.g + 1 ≤ b → AllByRecursion GoesBelow (let_off s p d).1
  let_off_below s p true le = (tt, tt)
  let_off_below s p false le = (tt, (tt, (le, tt)))

  release_below : (s : SecondProc) (p : Plan) (m : Membership) → p.g + 1 ≤ b → TakesBelow (release_asked s p m)
  release_below s p outside le = tt
  release_below s p joined le = let_off_below s p (s.denies && is_none p.sec) le
  release_below s p left le = tt

  forgotten_below : (s : SecondProc) (m : Membership) → TakesBelow (forgotten s m)
  forgotten_below s outside = tt
  forgotten_below s joined = tt
  forgotten_below s left = tt

  refused_below : (k : RecKind) (s : SecondProc) (w : Word) (d : Bool) → TakesBelow (refused_there k s w d)
  refused_below k s w true = (tt, tt)
  refused_below k s w false = tt

  key_below : (s : SecondProc) (g : ℕ) (d : Bool) (m : Membership) → TakesBelow (key_confirmed s g d m)
  key_below s g true outside = tt
  key_below s g true joined = (tt, (tt, tt))
  key_below s g true left = tt
  key_below s g false m = tt

  leave_below : (k : RecKind) (s : SecondProc) (p : Plan) (d : Bool) (m : Membership) → p.g + 1 ≤ b → TakesBelow (leave_confirmed k s p d m)
  leave_below k s p true outside le = tt
  leave_below k s p true joined le = (tt, (tt, (le, tt)))
  leave_below k s p true left le = tt
  leave_below k s p false m le = tt

  needless_below : (s : SecondProc) (d : Bool) → TakesBelow (release_needless s d)
  needless_below s true = (tt, tt)
  needless_below s false = tt

  confirmed_below : (s : SecondProc) (p : Plan) → p.g + 1 ≤ b → TakesBelow (release_confirmed s p)
  confirmed_below s p le =
      either TakesBelow (p.g == 0) (release_needless s (is_wanted want.Release s.want)) (leave_confirmed kind.Relcnf s p (is_wanted want.Release s.want) s.membership)
      (needless_below s (is_wanted want.Release s.want)) (leave_below kind.Relcnf s p (is_wanted want.Release s.want) s.membership le)

  reconfigured_below : (s : SecondProc) (g : ℕ) (m : Membership) → TakesBelow (reconfigured s g m)
  reconfigured_below s g outside = tt
  reconfigured_below s g joined = (tt, tt)
  reconfigured_below s g left = tt

  status_below : (s : SecondProc) (st : _) (m : Membership) → TakesBelow (status_passed s st m)
  status_below s st outside = tt
  status_below s st joined = (tt, tt)
  status_below s st left = tt

  recovery_below : (s : SecondProc) (id : ℕ) (m : Membership) → TakesBelow (recovery_asked s id m)
  recovery_below s id outside = tt
  recovery_below s id joined = (tt, (tt, tt))
  recovery_below s id left = tt

  failure_below : (s : SecondProc) (id g : ℕ) (m : Membership) → TakesBelow (failure_told s id g m)
  failure_below s id g outside = tt
  failure_below s id g joined = (tt, tt)
  failure_below s id g left = (tt, tt)

  -- a plan that is carried out is that of the record
  pub take_below : (s : SecondProc) (r : Rec) → 1 ≤ b → AllBelow b (plan_generation r) → TakesBelow (second_take s r)
  take_below s (rec.Addreq plan key) one is = addition_below s plan s.membership (later_below b plan.g one is)
  take_below s (rec.Modreq plan key) one is = modification_below s plan s.membership (later_below b plan.g one is)
  take_below s (rec.Relreq plan) one is = release_below s plan s.membership (later_below b plan.g one is)
  take_below s (rec.Uecr g) one is = forgotten_below s s.membership
  take_below s (rec.Recfg g) one is = reconfigured_below s g s.membership
  take_below s (rec.Modcnf g) one is = key_below s g (is_wanted want.Rekey s.want) s.membership
  take_below s (rec.Modref word) one is = refused_below kind.Modref s word (is_wanted want.Rekey s.want)
  take_below s (rec.Chgcnf plan) one is = leave_below kind.Chgcnf s plan (is_wanted want.Change s.want) s.membership (later_below b plan.g one is)
  take_below s (rec.Chgref word) one is = refused_below kind.Chgref s word (is_wanted want.Change s.want)
  take_below s (rec.Relcnf plan) one is = confirmed_below s plan (later_below b plan.g one is)
  take_below s (rec.Snst status) one is = status_below s status s.membership
  take_below s (rec.Recov id) one is = recovery_below s id s.membership
  take_below s (rec.Scgn id g) one is = failure_below s id g s.membership
  take_below s (rec.Reconf plan key) one is = tt
  take_below s (rec.Rcomp g) one is = tt
  take_below s (rec.Scgf failed) one is = tt
  take_below s (rec.Recovd id) one is = tt
  take_below s (rec.Addack g) one is = tt
  take_below s (rec.Addrej g) one is = tt
  take_below s (rec.Modack g) one is = tt
  take_below s (rec.Modrej g) one is = tt
  take_below s (rec.Relack g) one is = tt
  take_below s (rec.Relrej g) one is = tt
  take_below s (rec.Moved g id) one is = tt
  take_below s rec.Modrqd one is = tt
  take_below s rec.Chgrqd one is = tt
  take_below s rec.Relrqd one is = tt

  unless_below : (s : SecondProc) (e : Event) (o : Option Refusal) → TakesBelow (second_commands_unless s e o)
  unless_below s (event.Ask node what) None = (tt, tt)
  unless_below s (event.Deny node on) None = tt
  unless_below s (event.Bearer id n first shape threshold policy) None = tt
  unless_below s (event.Reshape id shape) None = tt
  unless_below s (event.Remove id) None = tt
  unless_below s (event.Add node) None = tt
  unless_below s event.Change None = tt
  unless_below s event.Release None = tt
  unless_below s event.RekeySecond None = tt
  unless_below s (event.RekeyMaster root) None = tt
  unless_below s (event.Recover id) None = tt
  unless_below s (event.Report node id) None = tt
  unless_below s event.ScgFail None = tt
  unless_below s (event.Submit id d payload) None = tt
  unless_below s (event.Step l i) None = tt
  unless_below s (event.Lose l i) None = tt
  unless_below s (event.Again l i) None = tt
  unless_below s e (Some why) = tt

  -- a command carries no plan out
  pub command_below : (s : SecondProc) (e : Event) → TakesBelow (second_command s e)
  command_below s e = unless_below s e (first_refusal (second_refusals s e))
