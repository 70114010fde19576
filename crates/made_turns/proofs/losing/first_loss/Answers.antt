use Rattle.std.proofs.Common.{◌<◌, ◌≤◌, ◌∙◌, length, sym, arith}
use Rattle.made_turns.proofs.Loaded.{loss_at, loss_end, loss_past}
use Rattle.made_turns.proofs.losing.first_loss.Goals as goal

pub returns-in-Some : goal.returns-in-Some
returns-in-Some c =
    let less : c.loop-link.link-index < length c.args.links.now = omega (arith, c.loop-link-test.true) in
    sym (c.loop-link.invariant
    ∙ loss_at c.args.network.now.links c.args.links.now c.loop-link.link-index _ c.in-Some.event less (sym c.in_ok-event.ensures ∙ c.in-Some.is))

pub loop-link-preserved : goal.loop-link-preserved
loop-link-preserved c =
    let less : c.loop-link.link-index < length c.args.links.now = omega (arith, c.loop-link-test.true) in
    c.loop-link.invariant
    ∙ loss_past c.args.network.now.links c.args.links.now c.loop-link.link-index _ less (sym c.in_ok-event.ensures ∙ c.in_default.is)

pub returns : goal.returns
returns c =
    let past : length c.args.links.now ≤ c.loop-link.link-index = omega (arith, c.loop-link-test.false) in
    sym (c.loop-link.invariant ∙ loss_end c.args.network.now.links c.args.links.now c.loop-link.link-index past)
