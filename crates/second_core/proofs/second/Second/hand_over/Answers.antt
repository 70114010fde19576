use Rattle.std.proofs.Common.{◌≡◌, Some, rules}
use Rattle.std.specs.BTreeMap.{get_by}
use Rattle.std.specs.Ordering.{nat_cmp}
use Rattle.anchor.specs.Frozen.{given}
use Rattle.node_rules.specs.Secondary.{SecondNode}
use Rattle.second_core.proofs.Cases.{hands_over}
use Rattle.second_core.proofs.second.Second.hand_over.Goals as goal

pub returns : goal.returns
returns c =
    let there : get_by (nat_cmp c.args.id) c.self.inside.anchors ≡ Some c.in-Some.fed = search rules in
    let s : SecondNode = record { alg = c.self.inside.alg; proc = c.self.inside.proc; anchors = c.self.inside.anchors.entries; frozen = c.self.inside.frozen.entries; hosts = c.self.inside.hosts.entries } in
    let gave = hands_over s c.args.id c.args.g c.args.to c.in-Some.fed (given c.in_ok-status.field-0) there c.in_ok-status.ensures in
    rw (← c.self.view_is, c.in_ok-add.ensures, c.sends_alone.ensures, c.in_ok-effects.ensures, c.in_ok-set_frozen.ensures, c.of.ensures, c.since-since.ensures, c.remove.ensures.entries) gave
