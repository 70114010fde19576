use Rattle.std.proofs.Common.{◌≡◌, Ok, Some, ◌∙◌, ap, filter, not, refl, rules, true}
use Rattle.std.specs.List.{list_any}
use Rattle.node_rules.specs.declared.commands.Command.TheVariants.{Gone}
use Rattle.node_rules.specs.MasterEnds.{waits_for}
use Rattle.node_rules.specs.MasterRecords.{is_moving}
use Rattle.node_rules.specs.MasterState.{MasterProc}
use Rattle.xn_procs.proofs.Stepping.{moved-awaited}
use Rattle.xn_procs.proofs.master.MasterProc.take_moved.Goals as goal

pub returns-clause-ok : goal.returns-clause-ok
returns-clause-ok c =
    let m = c.args.self.now in
    let g = c.in-Some-Gone in
    let is_gone : m.command ≡ Some (Gone g.plan g.going) = rw (← c.self.view_is) (search rules) in
    let is_there : list_any (is_moving c.args.id c.args.from) g.going.moving ≡ true = search rules in
    let after : Gone g.plan (record g.going { moving = filter (λ y. not (is_moving c.args.id c.args.from y)) g.going.moving }) ≡ Gone c.in_ok-plan.plan c.with_moving-going.result =
    rw (c.with_moving-going.ensures, c.in_ok-moving.ensures, c.as_slice-2.ensures, c.in_ok-plan.ensures) refl in
    moved-awaited c.args.from c.args.g c.args.id m m.command g.plan g.going is_gone c.if-plan-g.false is_there
    ∙ ap (λ x. Ok x) (ap (waits_for m) after ∙ c.in_ok-wait_for_plan.ensures)
