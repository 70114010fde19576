use Rattle.std.proofs.Common.{sym}
use Rattle.pdcp_entity.proofs.Payloads.{payload_found}
use Rattle.pdcp_entity.proofs.entity.PdcpEntity.send_if_kept.Goals as goal

pub send_data-requires : goal.send_data-requires
send_data-requires g c =
    let tx = c.self.inside.tx in
    payload_found tx.kept c.args.count c.in-Some.sdu.now c.self.invariant.2 (sym (rw c.in-Some.is at c.sdu.ensures))
