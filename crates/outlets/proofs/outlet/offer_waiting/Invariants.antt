use Rattle.std.proofs.Common.{length, ◌++◌, ◌≡◌}
use Rattle.crossbeam_queue.specs.Passes.{IsPassOf, view}
use Rattle.dc_base.specs.Nodes.{node_number}
use Rattle.inbox.specs.Inbox.{IsSender, put_of}
use Rattle.outlets.specs.Ways.{AreOf}
use Rattle.outlets.proofs.outlet.offer_waiting.Given as goal

abbrev pub invariant-loop-message : goal.invariant-loop-message
invariant-loop-message l = record {
  pass : IsPassOf l.inbox l.ticket;
  right : IsSender (node_number l.fn.me) (view l.ticket);
  own : AreOf (node_number l.fn.me) l.waiting.items;
  whole : put_of (view l.ticket) ++ l.waiting.items ≡ put_of (view l.fn.ticket) ++ l.fn.waiting.items;
}

abbrev pub decreases-loop-message : goal.decreases-loop-message
decreases-loop-message l = length l.waiting.items
