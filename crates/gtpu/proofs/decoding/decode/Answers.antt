use Rattle.gtpu.proofs.Unique.{reads_only, fails_first}
use Rattle.std.proofs.Common.{arith}
use Rattle.gtpu.proofs.Reading.{outcome_is_read}
use Rattle.gtpu.proofs.decoding.decode.Goals as goal

pub returns-clause-only : goal.returns-clause-only
returns-clause-only c p is = reads_only c.args.input.now c.packet.result p c.packet.ensures is

pub returns-clause-first : goal.returns-clause-first
returns-clause-first c e fault = fails_first c.args.input.now c.packet.result e c.packet.ensures fault

pub returns-clause-read : goal.returns-clause-read
returns-clause-read c = outcome_is_read c.args.input.now c.packet.result (λ i less. omega (arith, c.type_inv.input i)) c.packet.ensures
