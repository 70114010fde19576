use Rattle.std.proofs.Common.{leb, inl, inr}
use Rattle.std.proofs.lemmas.Bool.{cases_Bool, leb-true, leb-false}
use Rattle.forward.specs.Forwarded.{Forwarded, whole}
use Rattle.forward.proofs.Numbers.{whole_if, not_whole_if, not_none}
use Rattle.forward.proofs.incoming.ForwardIn.is_done.Goals as goal

pub returns-in-Some : goal.returns-in-Some
returns-in-Some c =
    let seen : Forwarded = record { sdus = c.self.inside.sdus.entries; total = c.self.inside.total } in
    elim (cases_Bool (leb c.in-Some.total c.self.inside.missing)) [
      | inl fits ↦
          (λ _. whole_if c.args.self.now seen _ _ c.self.view_is c.in-Some.is c.self.invariant (leb-true _ _ fits), λ _. fits)
      | inr more ↦
          (λ fits. absurd (cc (fits, more)), λ some. absurd (not_none (whole c.args.self.now) some (not_whole_if c.args.self.now seen _ _ c.self.view_is c.in-Some.is c.self.invariant (leb-false _ _ more))))
    ]
