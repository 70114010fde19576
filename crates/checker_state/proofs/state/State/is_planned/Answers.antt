use Rattle.std.proofs.Common.{sym, ap, ◌∙◌}
use Rattle.dc_base.specs.declared.events.Line.{Line}
use Rattle.claims.specs.Planned.{is_planned}
use Rattle.checker_state.proofs.state.State.is_planned.Goals as goal

pub returns-in-Send : goal.returns-in-Send
returns-in-Send c = c.is_planned_flight.ensures c.in-Send.field-0 ∙ ap (λ (x : Line). is_planned c.args.self.now x) (sym c.in-Send.is)
