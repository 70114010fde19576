-- What was submitted to a bearer in one direction (TS 38.323, 5.2.1).
use Rattle.std.specs.Prelude.{ℕ, ◌+◌, ◌-◌, ◌≡◌, ◌≤◌, ◌++◌, List, length, Some, slice_get}
use Rattle.dc_base.specs.declared.numbers.SnLen.{SnLen}
use Rattle.pdcp_rx.specs.Entries.{Entry}

-- the payloads that were submitted, in their order, the first under the COUNT `first`, with sequence numbers of this length
pub record Submitted : Type 0 where
  pub n : SnLen
  pub first : ℕ
  pub payloads : List (List ℕ)

-- the COUNT of the next submission
abbrev pub next_of : Submitted → ℕ
next_of u = u.first + length u.payloads

-- more was submitted
abbrev pub with_more : Submitted → List (List ℕ) → Submitted
with_more u more = record u { payloads = u.payloads ++ more }

-- the payload was submitted under this COUNT
pub record IsSubmission (u : Submitted) (e : Entry) : Type 0 where
  pub from : u.first ≤ e.0
  pub payload : slice_get u.payloads (e.0 - u.first) ≡ Some e.1
