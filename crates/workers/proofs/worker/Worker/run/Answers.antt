use Rattle.workers.proofs.worker.Worker.run.Goals as goal

pub loop-turn-init : goal.loop-turn-init
loop-turn-init g c = record { some = (c.requires.opens, c.requires.sound); each = record { now = λ o s. s } }

pub loop-turn-preserved : goal.loop-turn-preserved
loop-turn-preserved g c =
    let i = c.loop-turn.invariant in
    record { some = (i.some.0, c.in_ok-take_turn.ensures i.some.0 i.some.1); each = record { now = λ o s. c.in_ok-take_turn.ensures o (i.each.now o s) } }
