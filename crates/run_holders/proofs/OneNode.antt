-- The lines of a step of one node, and the anchors that are active after it.
use Rattle.std.proofs.Common.{sym, subst}
use Rattle.std.specs.Prelude.{fold}
use Rattle.dc_base.specs.declared.nodes.Node.{Node}
use Rattle.dc_base.specs.declared.nodes.Node.TheVariants.{M}
use Rattle.node_rules.specs.Choices.{Choices}
use Rattle.node_rules.specs.Lines.{lines_of}
use Rattle.node_rules.specs.Master.{MasterNode}
use Rattle.node_rules.specs.MasterStep.{master_step}
use Rattle.node_rules.specs.SecondStep.{second_step}
use Rattle.node_rules.specs.Secondary.{SecondNode, name_of}
use Rattle.node_rules.specs.declared.inputs.Input.{Input}
use Rattle.node_rules.specs.declared.inputs.Outcome.{Outcome}
use Rattle.run_control.specs.Orders.{Ascends}
use Rattle.run_holders.specs.Actives.{Actives, GiveOrHand, LinesFit, Within, line_actives, master_actives, second_actives}
use Rattle.run_holders.proofs.MasterKinds.{master_kinds}
use Rattle.run_holders.proofs.MasterTelling.{master_tells}
use Rattle.run_holders.proofs.Ordered.{leads_lines}
use Rattle.run_holders.proofs.SecondKinds.{second_kinds}
use Rattle.run_holders.proofs.SecondTelling.{second_tells}
use Rattle.run_holders.proofs.Telling.{Tells}

-- the lines of an outcome fit the active anchors, and those that are active then became so by them or were so before
pub record Marks (x : Node) (a : Actives) (o : Outcome) (b : Actives) : Type 0 where
  pub fit : LinesFit x a (lines_of o)
  pub after : Within b (fold line_actives a (lines_of o))

marks : (x : Node) (a b : Actives) (o : Outcome) → GiveOrHand o.notes → Tells x a o.notes b → Marks x a o b
marks x a b o either is =
    let leads = leads_lines x a o either is.fits in
    record { fit = leads.fit; after = subst (Within b) (sym leads.is) is.after }

-- of the master
pub master_marks : (c : Choices) (m : MasterNode) (i : Input) → Ascends m.anchors → Marks M (master_actives m) (master_step c m i).1 (master_actives (master_step c m i).0)
master_marks c m i up = marks M (master_actives m) (master_actives (master_step c m i).0) (master_step c m i).1 (master_kinds c m i) (master_tells c m i up).tells

-- of a secondary node
pub second_marks : (c : Choices) (s : SecondNode) (i : Input) → Ascends s.anchors → Marks (name_of s) (second_actives s) (second_step c s i).1 (second_actives (second_step c s i).0)
second_marks c s i up = marks (name_of s) (second_actives s) (second_actives (second_step c s i).0) (second_step c s i).1 (second_kinds c s i) (second_tells c s i up).tells
