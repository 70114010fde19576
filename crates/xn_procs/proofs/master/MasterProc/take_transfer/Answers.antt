use Rattle.std.proofs.Common.{◌≡◌, ℕ, ◌==◌, List, Ok, Result, Some, ◌∙◌, ap, find, refl, rules, subst, sym}
use Rattle.node_rules.specs.Acts.{ProcFault}
use Rattle.node_rules.specs.declared.acts.Act.{Act}
use Rattle.node_rules.specs.declared.commands.Command.TheVariants.{Gone}
use Rattle.node_rules.specs.MasterRecords.{passed_to, transferred}
use Rattle.node_rules.specs.MasterState.{MasterActs, MasterProc}
use Rattle.std.specs.Result.{IfErr, IfOk}
use Rattle.xn_procs.proofs.Stepping.{transferred-passed}
use Rattle.xn_procs.specs.Faults.{FailsAs}
use Rattle.xn_procs.proofs.master.MasterProc.take_transfer.Goals as goal

pub returns-clause-ok : goal.returns-clause-ok
returns-clause-ok c =
    let m = c.args.self.now in
    let s = c.args.status.now in
    let g = c.in-Some-Gone in
    let is_gone : m.command ≡ Some (Gone g.plan g.going) = rw (← c.self.view_is) (search rules) in
    let e : transferred c.args.from s m m.command ≡ passed_to m s c.args.from c.moving_at-moved.result =
    transferred-passed c.args.from s m m.command g.plan g.going is_gone c.if-plan-status.false ∙ ap (passed_to m s c.args.from) (rw c.moving_at-moved.ensures (rw c.as_slice.ensures refl)) in
    let P : Result MasterActs ProcFault → Type 0 = λ r. IfOk c.pass_to.result (λ (made : List Act). r ≡ Ok (m, made)) in
    subst P (sym e) c.pass_to.ensures.ok

pub returns-clause-err : goal.returns-clause-err
returns-clause-err c =
    let m = c.args.self.now in
    let s = c.args.status.now in
    let g = c.in-Some-Gone in
    let is_gone : m.command ≡ Some (Gone g.plan g.going) = rw (← c.self.view_is) (search rules) in
    let e : transferred c.args.from s m m.command ≡ passed_to m s c.args.from c.moving_at-moved.result =
    transferred-passed c.args.from s m m.command g.plan g.going is_gone c.if-plan-status.false ∙ ap (passed_to m s c.args.from) (rw c.moving_at-moved.ensures (rw c.as_slice.ensures refl)) in
    let P : Result MasterActs ProcFault → Type 0 = λ r. IfErr c.pass_to.result (FailsAs r m m) in
    subst P (sym e) c.pass_to.ensures.err
