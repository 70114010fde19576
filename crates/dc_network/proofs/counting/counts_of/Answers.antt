use Rattle.std.proofs.Common.{sym}
use Rattle.dc_network.proofs.Counted.{counted-send}
use Rattle.dc_network.proofs.counting.counts_of.Goals as goal

pub returns-in-Send : goal.returns-in-Send
returns-in-Send c = rw c.in-Send.is (sym (counted-send c.in-Send.field-0 c.in-Send.flight c.octets_of.result (c.octets_of.ensures c.in-Send.field-0)))
