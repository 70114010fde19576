use Rattle.std.proofs.Common.{◌-◌, ◌+◌, ◌/◌, ℕ, sym, ap}
use Rattle.pdcp_pdu.proofs.Ascending.{last_is}
use Rattle.pdcp_pdu.proofs.status_report.bitmap_len.Goals as goal

pub returns-in-Some : goal.returns-in-Some
returns-in-Some c = ap (λ (l : ℕ). (l - c.args.fmc + 7) / 8) (sym (last_is c.args.fmc c.args.received.now c.in-Some.last.now c.in-Some.ensures.value))
