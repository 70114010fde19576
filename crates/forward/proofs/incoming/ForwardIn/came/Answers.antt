use Rattle.std.proofs.Common.{ap, ◌∙◌}
use Rattle.std.proofs.lemmas.Result.{on_ok_weaker}
use Rattle.gtpu.specs.Content.{view}
use Rattle.forward.specs.Forwarded.{after}
use Rattle.forward.proofs.Arrivals.{one_load, came_kept, packet_later, end_later}
use Rattle.forward.proofs.incoming.ForwardIn.came.Goals as goal

pub returns-clause-only : goal.returns-clause-only
returns-clause-only c load carries =
    on_ok_weaker c.take_in.result (λ is. is.2 ∙ ap (after c.args.self.now) (one_load (view c.args.p.now) is.0 load is.1 carries)) c.take_in.ensures.ok

pub returns-clause-kept : goal.returns-clause-kept
returns-clause-kept c t fits of end = came_kept t (view c.args.p.now) c.args.self.now c.take_in.new.self c.take_in.result fits of c.take_in.ensures.ok c.take_in.ensures.err end

pub returns-clause-lasts : goal.returns-clause-lasts
returns-clause-lasts c t later l = (packet_later t later (view c.args.p.now) l, end_later t later c.take_in.new.self l)
