use Rattle.std.proofs.Common.{◌≡◌, ◌==◌, true, false, not, ap, sym, ◌∙◌}
use Rattle.std.specs.Option.{is_some}
use Rattle.pdcp_tx.specs.Sender.{sdu_at}
use Rattle.pdcp_entity.proofs.Confirmed.{confirmed_not, confirmed_one, is_some_copied}
use Rattle.pdcp_entity.proofs.Payloads.{payloads_stay}
use Rattle.pdcp_entity.proofs.entity.PdcpEntity.confirm_one.Goals as goal

pub returns-then-is_none : goal.returns-then-is_none
returns-then-is_none c =
    let e = c.self.inside in
    let here : is_some (sdu_at e.tx.kept c.args.count) ≡ false =
    ap is_some (sym c.sdu.ensures) ∙ is_some_copied c.sdu.result ∙ c.is_none.ensures ∙ ap not c.if-is_none.true in
    rw (← c.self.view_is) (confirmed_not (record { setup = e.setup; tx = e.tx; rx = e.rx }) c.args.count here)

pub invariant_of-self : goal.invariant_of-self
invariant_of-self c =
    let v = c.self.invariant in
    let stay = payloads_stay (λ x. not (x.0 == c.args.count)) c.self.inside.tx.kept v.2 in
    rw (c.confirm.ensures, c.settle.ensures) (v.0, v.1, stay, v.3)

pub returns : goal.returns
returns c =
    let e = c.self.inside in
    let here : is_some (sdu_at e.tx.kept c.args.count) ≡ true =
    ap is_some (sym c.sdu.ensures) ∙ is_some_copied c.sdu.result ∙ c.is_none.ensures ∙ ap not c.if-is_none.false in
    rw (← c.self.view_is, c.confirm.ensures, c.settle.ensures) (confirmed_one (record { setup = e.setup; tx = e.tx; rx = e.rx }) c.args.count here)
