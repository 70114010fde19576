use Rattle.std.proofs.Common.{◌<◌, ◌∙◌, length, sym, arith}
use Rattle.node_rules.specs.World.{flights_on}
use Rattle.made_turns.proofs.Own.{own_first, own_here, own_later}
use Rattle.made_turns.proofs.losing.own_place.Goals as goal

pub loop-place-init : goal.loop-place-init
loop-place-init c = own_first _

pub returns-then-is_own_at : goal.returns-then-is_own_at
returns-then-is_own_at c =
    let fs = flights_on c.args.link c.args.network.now.links in
    let less : c.loop-place.place < length fs = omega (arith, c.len-place-end.ensures, c.loop-place-test.true) in
    sym (c.loop-place.invariant ∙ own_here fs c.loop-place.place c.is_own_at.result less c.is_own_at.ensures c.if-is_own_at.true)

pub loop-place-preserved : goal.loop-place-preserved
loop-place-preserved c =
    let fs = flights_on c.args.link c.args.network.now.links in
    let less : c.loop-place.place < length fs = omega (arith, c.len-place-end.ensures, c.loop-place-test.true) in
    c.loop-place.invariant ∙ own_later fs c.loop-place.place c.is_own_at.result less c.is_own_at.ensures c.if-is_own_at.false
