use Rattle.std.proofs.Common.{sym, ◌∙◌, subst, arith}
use Rattle.checker.specs.Parts.{ArePartsOf, Parts}
use Rattle.checker.proofs.Deciding.{due_missing, due_there}
use Rattle.checker.proofs.checker.Checker.tunnel_due.Goals as goal

pub returns-then-index-len : goal.returns-then-index-len
returns-then-index-len c = λ p are. sym
    (due_missing _ p c.args.link c.args.index (subst (λ (s : Parts). ArePartsOf s p) (sym c.self.view_is) are)
    (sym c.is_tunnel.ensures ∙ c.if-not-is_tunnel.false) (omega (arith, c.len.ensures)))

pub returns-else-index-len : goal.returns-else-index-len
returns-else-index-len c = λ p are. sym
    (due_there _ p c.args.link c.args.index (subst (λ (s : Parts). ArePartsOf s p) (sym c.self.view_is) are)
    (sym c.is_tunnel.ensures ∙ c.if-not-is_tunnel.false) (omega (arith, c.len.ensures)))
