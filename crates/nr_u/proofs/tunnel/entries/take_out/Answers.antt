use Rattle.std.proofs.Common.{◌∙◌, sym, ap}
use Rattle.std.specs.Ordering.{nat_cmp}
use Rattle.std.specs.BTreeMap.{is_at}
use Rattle.std.specs.Map.{remove_entry}
use Rattle.std.proofs.lemmas.List.Sums.{fold_more}
use Rattle.nr_u.specs.Tunnel.Outgoing.{Counted}
use Rattle.nr_u.proofs.tunnel.entries.take_out.Goals as goal

pub loop-entry-preserved : goal.loop-entry-preserved
loop-entry-preserved c =
    c.remove.ensures.entries ∙ ap (remove_entry _) c.loop-entry.invariant ∙ sym (fold_more (λ left (e : Counted). remove_entry (is_at (nat_cmp e.0)) left) c.args.map.now.entries c.args.entries.now c.loop-entry.entry-index _ c.loop-entry-test.true)
