use Rattle.std.proofs.Common.{ap, ◌∙◌}
use Rattle.nr_u.specs.Frames.{flag}
use Rattle.nr_u.proofs.Written.{status_bare}
use Rattle.nr_u.proofs.encoding.bare_len.Goals as goal

pub returns-in-Status : goal.returns-in-Status
returns-in-Status c =
    status_bare c.args.f.now c.in-Status.highest c.in-Status.lost _ _ c.in-Status.is (c.flag.ensures ∙ ap flag c.is_some.ensures) c.len.ensures
