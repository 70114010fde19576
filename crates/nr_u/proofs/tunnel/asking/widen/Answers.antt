use Rattle.nr_u.proofs.Asking.{covers_less}
use Rattle.nr_u.proofs.tunnel.asking.widen.Goals as goal

pub returns-else-low-reference-clause-covers : goal.returns-else-low-reference-clause-covers
returns-else-low-reference-clause-covers c = λ confirmed covers.
    covers_less c.args.reference c.args.low confirmed confirmed c.args.askable.now.entries c.args.unasked.now.entries c.if-low-reference.false (λ d there. there) covers
