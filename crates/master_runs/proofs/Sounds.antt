-- What the invariant of the run says of a bearer that a node sends with.
use Rattle.std.proofs.Common.{ℕ, ◌≡◌, List, Some, subst}
use Rattle.std.specs.List.{AllByRecursion}
use Rattle.dc_base.specs.declared.nodes.Dir.{Dir}
use Rattle.dc_base.specs.declared.events.Header.{Header}
use Rattle.transcript.specs.Transcript.{Entry}
use Rattle.master_runs.specs.Entities.{Entities, bearer_in}
use Rattle.master_runs.specs.Run.{WorldState}
use Rattle.master_runs.proofs.Sound.{Sound, half, sender_table}
use Rattle.pdcp_tx.specs.Sender.{Rises}
use Rattle.master_runs.proofs.Lane.{IsGiven}
use Rattle.master_runs.proofs.Tables.{half_at, is_established}
use Rattle.master_runs.proofs.Serving.{IsServable}

-- it is in order, and no COUNT was given twice
pub servable : (h : Header) (policies : ℕ) (t : List Entry) (w : WorldState) → Sound h policies t w → (d : Dir) (id : ℕ) (e : Entities) → bearer_in (sender_table d w.nodes) id ≡ Some e → IsServable e
servable h policies t w sound d id e at =
    let known = is_established t w.nodes sound.tables d id e at in
    let lane = (sound.served e.bearer d known.0).lane in
    let is : half e.bearer (sender_table d w.nodes) ≡ e = half_at e.bearer (sender_table d w.nodes) id e at known.1 in
    record {
      rises = subst (λ (z : Entities). Rises e.bearer.first z.tx.next z.tx.kept) is lane.rises;
      given = subst (λ (z : Entities). AllByRecursion (IsGiven e.bearer.first z.tx.next) z.sent) is lane.given;
    }
