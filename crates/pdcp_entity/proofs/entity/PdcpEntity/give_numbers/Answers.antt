use Rattle.pdcp_entity.proofs.Payloads.{numbers_sound}
use Rattle.pdcp_entity.proofs.entity.PdcpEntity.give_numbers.Goals as goal

pub invariant_of-self : goal.invariant_of-self
invariant_of-self c =
    let e = c.self.inside in
    let v = c.self.invariant in
    let sound = numbers_sound e.setup.n c.give_numbers.result e.tx c.give_numbers.new.self c.give_numbers.ensures.ok c.give_numbers.ensures.same (v.0, v.2, v.3) in
    (sound.0, v.1, sound.1, sound.2)
