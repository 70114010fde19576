use Rattle.std.proofs.Common.{◌≡◌, Some, rules, true}
use Rattle.std.specs.Prelude.{is_some}
use Rattle.std.specs.Option.{option_and_then}
use Rattle.std.specs.BTreeMap.{get_by}
use Rattle.std.specs.Ordering.{nat_cmp}
use Rattle.node_rules.specs.Held.{held}
use Rattle.node_rules.specs.Secondary.{active_in}
use Rattle.master_core.proofs.Cases.{renews}
use Rattle.master_core.proofs.Maps.{entries_written}
use Rattle.master_core.proofs.master.Master.renew.Goals as goal

pub returns : goal.returns
returns c =
    let there : get_by (nat_cmp c.args.id) c.self.inside.anchors ≡ Some c.in-Some-get_mut.anchor.now = search rules in
    let put = entries_written c.self.inside.anchors (c.get_mut.follows.lender c.renew.new.self) c.args.id c.in-Some-get_mut.anchor.now c.renew.new.self c.get_mut.ensures.ordered there (c.get_mut.follows.holds c.renew.new.self) in
    let active : is_some (option_and_then active_in (held c.args.id c.args.self.now.anchors)) ≡ true = cc in
    let active_inside = rw (← c.self.view_is) at active in
    rw (← c.self.view_is, c.in_ok-noted.ensures, c.in-Some.is) (renews _ c.args.id c.args.g c.in-Some.setup c.in-Some-get_mut.anchor.now (c.renew.new.self, c.in_ok-renew.field-0) _ there put active_inside c.in_ok-renew.ensures)
