-- What comes of a step, by what its procedures have it do.
use Rattle.std.specs.List.{AllByRecursion, list_any}
use Rattle.std.specs.Prelude.{List, false, ◌≡◌}
use Rattle.std.proofs.Common.{◌⊎◌}
use Rattle.node_rules.specs.Choices.{Send}
use Rattle.node_rules.specs.Lines.{is_end, sends_before}
use Rattle.node_rules.specs.Master.{MasterNode}
use Rattle.node_rules.specs.MasterState.{MasterActs}
use Rattle.node_rules.specs.declared.inputs.Effects.{Effects}
use Rattle.run_table.specs.Quiet.{Follows, IsQuiet, has_plan}
use Rattle.run_plans.specs.Leading.{LedFrom}

-- the step follows its procedures
pub record IsFollowing (done : MasterNode × Effects) : Type 0 where
  pub acts : MasterActs
  pub from : LedFrom acts
  pub follows : Follows acts done

-- a step of the master says nothing of commands, or follows its procedures
abbrev pub IsStep : MasterNode × Effects → Type 0
IsStep done = IsQuiet done.1 ⊎ IsFollowing done

-- the sends carry no plan
abbrev pub ArePlanless : List Send → Type 0
ArePlanless ss = AllByRecursion (λ s. has_plan s ≡ false) ss

-- no command ends, or no plan is sent before the record by which a plan is carried out, or by which there is nothing to release
abbrev pub IsSorted : Effects → Type 0
IsSorted x = (list_any is_end x.notes ≡ false) ⊎ ArePlanless (sends_before x.sends)
