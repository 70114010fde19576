-- A lane of a bearer at the master is one of these.
use Rattle.std.proofs.Common.{ℕ, List, Option, arith}
use Rattle.dc_base.specs.declared.numbers.SnLen.{SnLen}
use Rattle.pdcp_rx.specs.declared.entity.RxParts.{RxParts}
use Rattle.pdcp_tx.specs.Sender.{Sender}
use Rattle.pdcp_tx.proofs.Entries.{Rises-bounds}
use Rattle.transcript.specs.Bearers.{Confirmation}
use Rattle.transcript.proofs.OnEach.{each_weaker}
use Rattle.master_runs.proofs.Lane as master
use Rattle.master_runs.proofs.Lane.{IsNumbered, low_upto}
use Rattle.run_receivers.specs.Lanes.{IsLane}
use Rattle.run_receivers.specs.Submitted.{IsSubmission, Submitted}

pub lane_at_master : (n : SnLen) (first : ℕ) (submitted : List (List ℕ)) (confirms : List Confirmation) (tx : Sender) (sent : List (Option ℕ)) (rx : RxParts)
    → master.IsLane n first submitted confirms tx sent rx → IsLane (record { n = n; first = first; payloads = submitted }) tx rx
lane_at_master n first submitted confirms tx sent rx lane =
    let u : Submitted = record { n = n; first = first; payloads = submitted } in
    let counted = lane.counted in let small = lane.small in let upto = lane.upto in let near = lane.near in
    let bounds = Rises-bounds first tx.next tx.kept lane.rises in
    record {
      sending = record {
        same_n = lane.tx_length;
        next = lane.counted;
        rises = lane.rises;
        kept = each_weaker (IsNumbered first submitted) (IsSubmission u) (λ e s. record { from = s.counted; payload = s.payload }) tx.kept lane.kept_payloads;
        found = lane.found;
      };
      receiving = record {
        same_n = lane.rx_length;
        payloads = lane.payloads;
        small = omega arith;
        from = bounds.0;
        above = low_upto n first submitted confirms tx sent rx lane;
        upto = omega arith;
        near = omega arith;
        ascends = lane.ascends;
        stored = each_weaker (IsNumbered first submitted) (IsSubmission u) (λ e s. record { from = s.counted; payload = s.payload }) rx.stored lane.stored;
      };
    }
