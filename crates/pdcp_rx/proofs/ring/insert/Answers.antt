use Rattle.std.proofs.Common.{◌≡◌, ◌+◌, ◌<◌, length, ap, ◌∙◌, arith}
use Rattle.pdcp_rx.specs.Entries.{is_stored, with_sdu}
use Rattle.pdcp_rx.specs.Ring.{ring_from}
use Rattle.pdcp_rx.proofs.RingSteps.{ring_put, slot_none}
use Rattle.pdcp_rx.proofs.ring.insert.Goals as goal

pub returns-clause-ok : goal.returns-clause-ok
returns-clause-ok c =
    let s = c.make_room.new.ring in
    let b = c.args.deliv in
    let d = c.args.count in
    let said = c.in_ok-make_room.ensures in
    let same : ring_from s b ≡ ring_from c.args.ring.now b = said.same in
    let near : d < b + length s = omega (arith, said.ok, c.requires.above) in
    let free = slot_none s b d c.requires.above near (ap (λ es. is_stored d es) same ∙ c.requires.new) in
    ap (λ t. ring_from t b) c.place.ensures ∙ ring_put s b d c.args.sdu c.requires.above near free ∙ ap (λ es. with_sdu d c.args.sdu es) same
