use Rattle.std.proofs.Common.{take, ◌≡◌}
use Rattle.dc_base.specs.Nodes.{node_number}
use Rattle.journals.specs.Messages.{messages}
use Rattle.outlets.specs.Ways.{AreOf, posted}
use Rattle.outlets.proofs.ways.Outlets.send_all.Given as goal

abbrev pub invariant-loop-line : goal.invariant-loop-line
invariant-loop-line l = record {
  posted : l.self ≡ posted l.initial.self (messages l.stamp (take l.line-index l.lines));
  own : AreOf (node_number l.fn.me) (messages l.stamp (take l.line-index l.lines));
}
