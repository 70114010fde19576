use Rattle.std.proofs.Common.{◌≡◌, Some, rules}
use Rattle.std.specs.BTreeMap.{get_by}
use Rattle.std.specs.Ordering.{nat_cmp}
use Rattle.anchor.specs.Frozen.{given}
use Rattle.node_rules.specs.Master.{MasterNode}
use Rattle.master_core.proofs.Cases.{hands_over}
use Rattle.master_core.proofs.master.Master.hand_over.Goals as goal

pub returns : goal.returns
returns c =
    let there : get_by (nat_cmp c.args.id) c.self.inside.anchors ≡ Some c.in-Some.anchor = search rules in
    let m : MasterNode = record { alg = c.self.inside.alg; proc = c.self.inside.proc; anchors = c.self.inside.anchors.entries; hosts = c.self.inside.hosts.entries; windows = c.self.inside.windows.entries } in
    let gave = hands_over m c.args.id c.args.g c.args.to c.in-Some.anchor (given c.in_ok-status.field-0) there c.in_ok-status.ensures in
    rw (← c.self.view_is, c.in_ok-add-2.ensures, c.sends_alone.ensures, c.in_ok-add.ensures, c.in_ok-transfer.ensures, c.in_ok-effects.ensures, c.remove.ensures.entries) gave
