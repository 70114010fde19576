use Rattle.std.proofs.Common.{◌≡◌, ◌+◌, take}
use Rattle.pdcp_pdu.specs.Bitmap.{is_among, bitmap}
use Rattle.pdcp_pdu.proofs.status_report.write_bitmap.Given as goal

abbrev pub invariant-loop-count : goal.invariant-loop-count
invariant-loop-count l = l.bits ≡ bitmap (is_among (take l.count-index l.received)) (l.fmc + 1) l.len
