use Rattle.std.proofs.Common.{not}
use Rattle.pdcp_pdu.specs.Bitmap.{names}
use Rattle.pdcp_entity.proofs.Payloads.{payloads_stay}
use Rattle.pdcp_entity.proofs.entity.PdcpEntity.confirm_named.Goals as goal

pub invariant_of-self : goal.invariant_of-self
invariant_of-self c =
    let v = c.self.invariant in
    let stay = payloads_stay (λ e. not (names c.args.fmc c.args.bits.now e.0)) c.self.inside.tx.kept v.2 in
    rw (c.on_report.ensures, c.settle_named.ensures) (v.0, v.1, stay, v.3)
