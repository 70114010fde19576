use Rattle.std.proofs.Common.{◌≡◌, List}
use Rattle.std.specs.Vec.Iter.{into_iter_items}
use Rattle.node_rules.specs.Entity.{Entity, take_pdus}
use Rattle.pdcp_rx.specs.Entries.{Entry}
use Rattle.anchor.specs.Readable.{handing, readable}
use Rattle.anchor.proofs.takeover.take_pdus.Given as goal

abbrev pub invariant-loop-pdu : goal.invariant-loop-pdu
invariant-loop-pdu l =
    ◌≡◌ {A = Entity × List Entry} (handing l.ups (take_pdus l.entity (readable l.entity.setup.n (into_iter_items l.pdu-iterator))))
    (take_pdus l.initial.entity (readable l.initial.entity.setup.n l.fn.pdus))
