-- The two entities of one direction of a bearer: what is not received is kept (TS 38.323, 5.2 and 5.4).
use Rattle.std.specs.Prelude.{ℕ, ◌≡◌, ◌<◌, ◌≤◌, ◌⊎◌, true}
use Rattle.std.specs.List.{AllByRecursion}
use Rattle.pdcp_rx.specs.Receiver.{Received}
use Rattle.pdcp_rx.specs.declared.entity.RxParts.{RxParts}
use Rattle.pdcp_tx.specs.Sender.{Rises, Sender, is_kept, low}
use Rattle.run_receivers.specs.Receiving.{IsReceiving}
use Rattle.run_receivers.specs.Submitted.{IsSubmission, Submitted, next_of}

-- the sending entity has numbered all that was submitted, keeps it as it was submitted, and what it does not keep was received
pub record IsSending (u : Submitted) (tx : Sender) (rx : RxParts) : Type 0 where
  pub same_n : tx.n ≡ u.n
  pub next : tx.next ≡ next_of u
  pub rises : Rises u.first tx.next tx.kept
  pub kept : AllByRecursion (IsSubmission u) tx.kept
  pub found : (c : ℕ) → u.first ≤ c → c < tx.next → (is_kept tx.kept c ≡ true) ⊎ Received rx c

-- both entities of the direction, wherever they are
pub record IsLane (u : Submitted) (tx : Sender) (rx : RxParts) : Type 0 where
  pub sending : IsSending u tx rx
  pub receiving : IsReceiving u (low tx) rx
