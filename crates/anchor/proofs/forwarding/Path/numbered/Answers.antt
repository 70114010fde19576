use Rattle.std.proofs.Common.{◌<◌, ◌^◌, subst}
use Rattle.dc_base.specs.Count.{bits, modulus}
use Rattle.anchor.specs.Paths.{ForwardPath}
use Rattle.anchor.proofs.forwarding.Path.numbered.Goals as goal

pub piece-requires : goal.piece-requires
unfolding modulus
piece-requires c = subst (λ (p : ForwardPath). c.sn_of-sn.result < 2 ^ bits p.tunnel.n) c.self.view_is c.sn_of-sn.ensures.small
