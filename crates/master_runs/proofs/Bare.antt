-- A bearer that carried nothing yet.
use Rattle.std.proofs.Common.{ℕ, ◌≡◌, ◌-◌, ◌^◌, ◌<◌, List, [], take, slice_get, sym, ap, ◌∙◌, subst, arith, inl, inr}
use Rattle.std.proofs.Math.Seq.{take-nil}
use Rattle.dc_base.specs.declared.nodes.Dir.{Dir}
use Rattle.pdcp_rx.specs.Receiver.{Received}
use Rattle.transcript.specs.Transcript.{Entry}
use Rattle.transcript.specs.Bearers.{Established, submitted, handed, numbered, confirmed, tags_sent}
use Rattle.master_runs.specs.Entities.{fresh}
use Rattle.master_runs.specs.Plane.{leg}
use Rattle.master_runs.specs.Control.{Nodes}
use Rattle.master_runs.specs.Links.{Links}
use Rattle.master_runs.proofs.Lane.{fresh_lane}
use Rattle.master_runs.proofs.Served.{lane_same}
use Rattle.master_runs.proofs.Sound.{half, sender_table, receiver_table, listed, IsServed}

-- a bearer of which the transcript says nothing is served where each node begins with it
pub fresh_served : (t : List Entry) (s : Nodes) (links : Links) (b : Established) (d : Dir) → b.first < 2 ^ 32 - 1
    → submitted b d t ≡ [] → handed b d t ≡ [] → confirmed b d t ≡ [] → ((num : ℕ) → tags_sent (leg d) b.id b.g num t ≡ [])
    → half b (sender_table d s) ≡ fresh b → half b (receiver_table d s) ≡ fresh b → IsServed t s links b d
fresh_served t s links b d small submits hands confirms tags sends receives =
    let deliv = (half b (receiver_table d s)).rx.deliv in
    record {
      lane = lane_same b.n b.first _ _ _ _ _ _ _ _ _ _ submits confirms (ap (λ e. e.tx) sends) (ap (λ e. e.sent) sends) (ap (λ e. e.rx) receives) (fresh_lane b.n b.first small);
      handed_is = hands ∙ sym (ap (λ xs. numbered b.first (take (deliv - b.first) xs)) submits ∙ ap (numbered b.first) (take-nil (deliv - b.first)));
      came = λ c from got. elim (subst (λ e. Received e.rx c) receives got) [ inl below ↦ absurd (omega arith) | inr stored ↦ absurd cc ];
      owed = λ c from below. absurd (let first = subst (λ e. c < e.tx.next) sends below in omega arith);
      numbers = λ num. tags num ∙ sym (ap (λ e. listed (slice_get e.sent num)) sends);
    }
