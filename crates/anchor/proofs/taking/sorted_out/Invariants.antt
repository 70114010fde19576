use Rattle.std.proofs.Common.{◌≡◌, ◌++◌, All, fold}
use Rattle.std.specs.List.{filter_map}
use Rattle.std.specs.Vec.Iter.{into_iter_items}
use Rattle.forward.specs.Load.{Sdu}
use Rattle.node_rules.specs.Adopting.{count_of, counted, if_fresh, with_counted}
use Rattle.pdcp_pdu.specs.DataPdu.{IsPayload}
use Rattle.anchor.specs.Bounds.{may_be, reference_of}
use Rattle.anchor.proofs.taking.sorted_out.Given as goal

abbrev pub invariant-loop-sn : goal.invariant-loop-sn
invariant-loop-sn l = record {
  counted : fold (λ es (s : Sdu). with_counted (may_be l.bounds) es s.1 (count_of l.n (reference_of l.bounds) s.0)) l.entries.entries (into_iter_items l.sn-iterator)
      ≡ counted l.n (reference_of l.bounds) (may_be l.bounds) l.fn.sdus;
  fresh : l.fresh ++ filter_map if_fresh (into_iter_items l.sn-iterator) ≡ filter_map if_fresh l.fn.sdus;
  kept : All (λ y. IsPayload y.1) l.entries.entries;
  held : All IsPayload l.fresh;
}
