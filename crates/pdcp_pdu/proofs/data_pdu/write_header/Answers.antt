use Rattle.std.proofs.Common.{◌<◌, arith}
use Rattle.pdcp_pdu.proofs.Reading.{small_12, small_18}
use Rattle.pdcp_pdu.proofs.data_pdu.write_header.Goals as goal

pub overflow_cast-sn : goal.overflow_cast-sn
overflow_cast-sn c = let small : c.args.sn < 4096 = small_12 c.args.n c.args.sn c.in-S12.is c.requires in omega arith

pub overflow_add-sn : goal.overflow_add-sn
overflow_add-sn c = let small : c.args.sn < 4096 = small_12 c.args.n c.args.sn c.in-S12.is c.requires in omega arith

pub overflow_cast-sn-in-S18 : goal.overflow_cast-sn-in-S18
overflow_cast-sn-in-S18 c = let small : c.args.sn < 262144 = small_18 c.args.n c.args.sn c.in-S18.is c.requires in omega arith

pub overflow_add-sn-in-S18 : goal.overflow_add-sn-in-S18
overflow_add-sn-in-S18 c = let small : c.args.sn < 262144 = small_18 c.args.n c.args.sn c.in-S18.is c.requires in omega arith
