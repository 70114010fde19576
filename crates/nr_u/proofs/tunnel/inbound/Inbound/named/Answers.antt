use Rattle.std.proofs.Common.{ap, ◌∙◌}
use Rattle.std.specs.Prelude.{option_map}
use Rattle.nr_u.specs.Tunnel.Incoming.{Incoming, Numbered, named}
use Rattle.nr_u.proofs.Settled.{finds_named}
use Rattle.nr_u.proofs.tunnel.inbound.Inbound.named.Goals as goal

pub returns-clause-found : goal.returns-clause-found
returns-clause-found c =
    let inside : Incoming = record { n = c.self.inside.n; came = c.self.inside.came.entries; unacked = c.self.inside.unacked.keys } in
    finds_named inside _ _ _ _ _ _ _ c.self.invariant c.first_unacked.ensures c.first_unlisted.ensures c.min-limit.ensures c.last_below.ensures
    ∙ ap (λ (i : Incoming). option_map (λ (a : Numbered). a.1) (named i)) c.self.view_is
