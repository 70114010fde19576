use Rattle.std.proofs.Common.{sym, ◌∙◌}
use Rattle.pdcp_entity.proofs.Room.{refused_without}
use Rattle.pdcp_entity.proofs.entity.PdcpEntity.take_or_hold.Goals as goal

pub returns-then-not-has_room-clause-refused : goal.returns-then-not-has_room-clause-refused
returns-then-not-has_room-clause-refused c = λ none. refused_without c.args.self.now.tx c.args.sdu (sym c.has_room.ensures ∙ c.if-not-has_room.true)
