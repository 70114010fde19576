use Rattle.std.proofs.Common.{arith}
use Rattle.std.proofs.lemmas.Grind.{common_steps}
use Rattle.nr_u.specs.Tunnel.Incoming.{is_first}
use Rattle.nr_u.proofs.ByNumber.{remove-insert_key, remove-insert_if}
use Rattle.nr_u.proofs.tunnel.inbound.add.Goals as goal

pub returns-then-is_err-2-clause-err_unacked : goal.returns-then-is_err-2-clause-err_unacked
returns-then-is_err-2-clause-err_unacked c = grind (arith, common_steps, remove-insert_key c.args.number c.args.unacked.now.keys c.requires.acked)

pub returns-then-is_err-3-clause-err_unacked : goal.returns-then-is_err-3-clause-err_unacked
returns-then-is_err-3-clause-err_unacked c = grind (arith, common_steps, remove-insert_key c.args.number c.args.unacked.now.keys c.requires.acked)

pub returns-then-is_err-3-clause-err_firsts : goal.returns-then-is_err-3-clause-err_firsts
returns-then-is_err-3-clause-err_firsts c = grind (arith, common_steps, remove-insert_if (is_first c.args.arrival) c.args.number c.args.arrival c.args.firsts.now.entries c.requires.first)
