-- A receiving entity that is right about what was submitted (TS 38.323, 5.2.2), and what it is to take PDUs.
use Rattle.std.specs.Prelude.{ℕ, ◌+◌, ◌-◌, ◌^◌, ◌≡◌, ◌<◌, ◌≤◌, ◌⊎◌, ◌++◌, List, Option, Some, take}
use Rattle.std.specs.List.{AllByRecursion}
use Rattle.dc_base.specs.Count.{window}
use Rattle.pdcp_pdu.specs.DataPdu.{IsPayload}
use Rattle.pdcp_rx.specs.Entries.{AscendFrom, Entry}
use Rattle.pdcp_rx.specs.Receiver.{Received}
use Rattle.pdcp_rx.specs.declared.entity.RxParts.{RxParts}
use Rattle.transcript.specs.Bearers.{numbered}
use Rattle.run_legs.specs.Puts.{IsAmong}
use Rattle.run_receivers.specs.Submitted.{IsSubmission, Submitted, next_of}

-- what is stored are submissions above RX_DELIV; RX_DELIV is not below the sender's Low nor above the next COUNT, which is not a
-- window above Low, and the last COUNT of all is not used
pub record IsReceiving (u : Submitted) (low : ℕ) (rx : RxParts) : Type 0 where
  pub same_n : rx.n ≡ u.n
  pub payloads : AllByRecursion IsPayload u.payloads
  pub small : next_of u ≤ 2 ^ 32 - 1
  pub from : u.first ≤ low
  pub above : low ≤ rx.deliv
  pub upto : rx.deliv ≤ next_of u
  pub near : next_of u ≤ low + window u.n
  pub ascends : AscendFrom (rx.deliv + 1) rx.stored
  pub stored : AllByRecursion (IsSubmission u) rx.stored

-- what it has handed up: the submissions below RX_DELIV, in their order
abbrev pub handed_by : Submitted → RxParts → List Entry
handed_by u rx = numbered u.first (take (rx.deliv - u.first) u.payloads)

-- PDUs with these COUNTs (a status report has none) were taken: the entity is right as before, what it handed up are the next of the
-- submissions, what was received is so still, and nothing else became so but those COUNTs
pub record HasTaken (u : Submitted) (low : ℕ) (tags : List (Option ℕ)) (before after : RxParts) (ups : List Entry) : Type 0 where
  pub receiving : IsReceiving u low after
  pub handed : handed_by u before ++ ups ≡ handed_by u after
  pub rises : before.deliv ≤ after.deliv
  pub each : AllByRecursion (λ e. (u.first ≤ e.0) × (e.0 < after.deliv)) ups
  pub grown : (c : ℕ) → Received before c → Received after c
  pub came : (c : ℕ) → IsAmong tags (Some c) → Received after c
  pub only : (c : ℕ) → Received after c → IsAmong tags (Some c) ⊎ Received before c
