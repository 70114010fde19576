use Rattle.std.proofs.Common.{◌≡◌, refl, take}
use Rattle.std.proofs.lemmas.List.{take_all}
use Rattle.second_core.proofs.second.Second.are_fit.Goals as goal

pub returns : goal.returns
returns c =
    let all : take c.loop-item.item-index c.args.items.now ≡ c.args.items.now = take_all c.loop-item.item-index c.args.items.now c.loop-item-test.false in
    rw (rw all at c.loop-item.invariant) refl
