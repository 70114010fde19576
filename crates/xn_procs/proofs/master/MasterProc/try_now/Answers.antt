use Rattle.std.proofs.Common.{◌≡◌, List, Some, false, subst, sym, true, rules}
use Rattle.std.specs.Option.{option_map}
use Rattle.std.specs.Result.{IfOk}
use Rattle.command_table.specs.Drawing.{rule_draft}
use Rattle.dc_base.specs.declared.events.Event.TheVariants as event
use Rattle.node_rules.specs.Drafts.{draft}
use Rattle.node_rules.specs.declared.acts.Act.{Act}
use Rattle.node_rules.specs.CommandTable.{is_spent_by}
use Rattle.node_rules.specs.MasterState.{MasterActs}
use Rattle.node_rules.specs.Places.{is_at}
use Rattle.xn_procs.proofs.Stepping.{tries_now-begun}
use Rattle.xn_procs.proofs.master.MasterProc.try_now.Goals as goal

pub returns : goal.returns
returns c =
    let t = c.self.inside.table in
    let m = c.args.self.now in
    let made = c.in-Some.draft in
    let at_second_inside : is_at c.args.node t.sec ≡ true = search rules in
    let at_second : is_at c.args.node m.table.sec ≡ true = rw (← c.self.view_is) at_second_inside in
    let not_spent_inside : is_spent_by t made.change.plan ≡ false = search rules in
    let not_spent : is_spent_by m.table made.change.plan ≡ false = rw (← c.self.view_is) not_spent_inside in
    let is_draft : option_map (rule_draft m.table) (Some made) ≡ draft m.table event.Release = rw (← c.self.view_is) (rw c.in-Some.is at c.in_ok-draft.ensures) in
    let e = tries_now-begun m c.set_waits-2.new.self c.args.node made at_second is_draft not_spent c.set_waits-2.ensures.after c.set_waits-2.ensures.table in
    let P : MasterActs → Type 0 = λ r. IfOk c.let_go.result (λ (x : List Act). r ≡ (c.let_go.new.self, x)) in
    subst P (sym e) c.let_go.ensures
