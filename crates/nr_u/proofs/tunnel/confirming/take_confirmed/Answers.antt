use Rattle.std.proofs.Common.{◌∙◌, sym, ap, refl}
use Rattle.std.specs.Prelude.{map, None}
use Rattle.nr_u.specs.Tunnel.Outgoing.{Counted, confirms}
use Rattle.nr_u.proofs.Filters.{none_passes}
use Rattle.nr_u.proofs.tunnel.confirming.take_confirmed.Goals as goal

pub returns-in-None-clause-counts : goal.returns-in-None-clause-counts
returns-in-None-clause-counts c =
    let none = none_passes (confirms None c.args.lost.now) c.args.waiting.now.entries (λ e. refl) in
    rw c.in-None.is (c.new.ensures.items ∙ ap (map (λ (e : Counted). e.1)) (sym none.0))

pub returns-in-None-clause-left : goal.returns-in-None-clause-left
returns-in-None-clause-left c =
    let none = none_passes (confirms None c.args.lost.now) c.args.waiting.now.entries (λ e. refl) in
    rw c.in-None.is (sym none.1)
