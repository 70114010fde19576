use Rattle.std.proofs.Common.{ap, ◌∙◌}
use Rattle.std.specs.Ordering.{nat_cmp}
use Rattle.std.specs.BTreeMap.{is_at}
use Rattle.std.specs.Map.{remove_entry}
use Rattle.nr_u.proofs.Sending.{noted_back}
use Rattle.nr_u.proofs.tunnel.outbound.note_both.Goals as goal

pub returns-then-is_err-clause-err_askable : goal.returns-then-is_err-clause-err_askable
returns-then-is_err-clause-err_askable c =
    c.remove.ensures.entries ∙ ap (remove_entry (is_at (nat_cmp c.args.number))) c.in_ok-note.ensures.ok ∙ noted_back c.args.number c.args.count c.args.askable.now.entries c.requires
