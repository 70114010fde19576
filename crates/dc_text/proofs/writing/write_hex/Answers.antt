use Rattle.std.proofs.Common.{arith, sym, ◌∙◌}
use Rattle.std.proofs.lemmas.Bool.{eqb-true}
use Rattle.dc_text.proofs.HexLemmas.{hex_step, hex_done}
use Rattle.dc_text.proofs.writing.write_hex.Goals as goal

pub loop-rest-preserved : goal.loop-rest-preserved
loop-rest-preserved c =
    hex_step c.loop-rest.out _ _ _ _ c.loop-rest.rest.now c.split_at.ensures.by_index.0 c.in_ok-write_hex_part.ensures c.loop-rest.invariant

pub returns : goal.returns
returns c = hex_done c.loop-rest.out _ c.loop-rest.rest.now (eqb-true _ _ (sym c.is_empty.ensures ∙ c.loop-rest-test.false)) c.loop-rest.invariant
