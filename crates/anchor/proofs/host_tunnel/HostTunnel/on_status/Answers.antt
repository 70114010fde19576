use Rattle.std.proofs.Common.{◌≡◌, ℕ, ap, refl, arith}
use Rattle.nr_u.specs.Tunnel.Outgoing.{Outgoing}
use Rattle.nr_u.specs.Tunnel.Verdicts.{after_frame}
use Rattle.nr_u.specs.declared.frame.Frame.{Frame}
use Rattle.nr_u.specs.declared.frame.Frame.TheVariants.{User, Status}
use Rattle.anchor.proofs.Ascending.{ascending-is}
use Rattle.anchor.proofs.host_tunnel.HostTunnel.on_status.Goals as goal

next-after_frame : (o : Outgoing) (low : ℕ) (f : Frame) → (after_frame o low f).next ≡ o.next
next-after_frame o low (User n user repeat) = refl
next-after_frame o low (Status highest lost) = refl

pub invariant_of-self-2 : goal.invariant_of-self-2
invariant_of-self-2 c = λ small.
    let next = next-after_frame c.self.inside.outbound c.args.low c.args.status.now in
    let state = ap (λ (o : Outgoing). o.next) c.in_ok-verdict.ensures.state in
    omega (arith, c.self.invariant small, next, state)

pub returns-clause-again : goal.returns-clause-again
returns-clause-again c = rw (← c.self.view_is) (ascending-is _ _ c.in_ok-verdict.ensures.again c.in_ok-verdict.ensures.ascending)
