use Rattle.dc_forms.proofs.Wording.{id_found}
use Rattle.dc_forms.proofs.reading.id_of.Goals as goal

pub returns : goal.returns
returns c = id_found _ _ c.new.result c.in_ok-decimal.ensures.some.0 c.in_ok-decimal.ensures.some.1 c.new.ensures.some c.new.ensures.value
