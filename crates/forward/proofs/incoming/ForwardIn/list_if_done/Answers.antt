use Rattle.std.proofs.Common.{inl, inr, refl}
use Rattle.forward.specs.Forwarded.{Forwarded}
use Rattle.forward.proofs.Numbers.{whole_if, not_whole_if, whole_of_front}
use Rattle.forward.proofs.incoming.ForwardIn.list_if_done.Goals as goal

pub returns-then-self-total-clause-err : goal.returns-then-self-total-clause-err
returns-then-self-total-clause-err c =
    let seen : Forwarded = record { sdus = c.self.inside.sdus.entries; total = c.self.inside.total } in
    inr (refl, not_whole_if c.args.self seen _ _ c.self.view_is c.in-Some.is c.self.invariant c.if-self-total.true)

pub returns-in-Ok-clause-list : goal.returns-in-Ok-clause-list
returns-in-Ok-clause-list c =
    let seen : Forwarded = record { sdus = c.self.inside.sdus.entries; total = c.self.inside.total } in
    whole_of_front c.args.self seen _ _ c.self.view_is c.in-Some.is c.in-Ok.ensures

pub returns-in-Err-clause-err : goal.returns-in-Err-clause-err
returns-in-Err-clause-err c =
    let seen : Forwarded = record { sdus = c.self.inside.sdus.entries; total = c.self.inside.total } in
    inl (refl, whole_if c.args.self seen _ _ c.self.view_is c.in-Some.is c.self.invariant c.if-self-total.false)
