use Rattle.std.proofs.Common.{ap, sym, ◌∙◌}
use Rattle.std.specs.Prelude.{is_some}
use Rattle.forward.proofs.Numbers.{under-removed}
use Rattle.forward.proofs.incoming.take_out.Goals as goal

pub unwrap-requires : goal.unwrap-requires
unwrap-requires c = ap is_some c.remove.ensures.value ∙ c.requires

pub returns-clause-value : goal.returns-clause-value
returns-clause-value c = sym c.remove.ensures.value ∙ c.unwrap.ensures

pub returns-clause-others : goal.returns-clause-others
returns-clause-others c q less = under-removed c.args.sdus.now.entries c.remove.new.self.entries c.args.number q less (c.remove.ensures.updates.0 q)
