-- The sending entity of a bearer, wherever it is, and the submissions that have yet to come to it (TS 38.323, 5.2.1).
use Rattle.std.specs.Prelude.{Bool, false, List, [], length, true, ℕ, ◌++◌, ◌+◌, ◌-◌, ◌^◌, ◌≡◌, ◌≤◌}
use Rattle.std.specs.List.{AllByRecursion}
use Rattle.dc_base.specs.Count.{window}
use Rattle.pdcp_pdu.specs.DataPdu.{IsPayload}
use Rattle.pdcp_tx.specs.Sender.{Rises, Sender, low}
use Rattle.node_rules.specs.Anchor.{Active, Waiting}
use Rattle.run_receivers.specs.Submitted.{IsSubmission, Submitted, next_of}

-- the entity has given COUNTs to the first of the submissions, and keeps some of them, each under the COUNT of its submission; the
-- others are, in their order, those that it holds and then these; the last one is at most a window past Low, and an open entity holds
-- none
pub record IsFront (u : Submitted) (rest : List (List ℕ)) (is_open : Bool) (tx : Sender) : Type 0 where
  pub same_n : tx.n ≡ u.n
  pub given : List (List ℕ)
  pub next : tx.next ≡ u.first + length given
  pub all : u.payloads ≡ given ++ (tx.held ++ rest)
  pub rises : Rises u.first tx.next tx.kept
  pub kept : AllByRecursion (IsSubmission u) tx.kept
  pub room : next_of u ≤ low tx + window u.n
  pub small : next_of u ≤ 2 ^ 32 - 1
  pub none_held : is_open ≡ true → tx.held ≡ []

-- an active anchor has such an entity
pub record HasFront (u : Submitted) (rest : List (List ℕ)) (a : Active) : Type 0 where
  pub same_n : a.entity.setup.n ≡ u.n
  pub front : IsFront u rest a.is_open a.entity.tx

-- the entity as it waits to be taken over: behind what it holds comes what has yet to come to it as it is frozen, then what its new
-- anchor keeps, and then these
abbrev pub IsMoving : Submitted → List (List ℕ) → List (List ℕ) → Sender → Waiting → Type 0
IsMoving u old rest tx w = IsFront u (old ++ (w.fresh ++ rest)) false tx

-- all that was submitted may be sent
abbrev pub ArePayloads : Submitted → Type 0
ArePayloads u = AllByRecursion IsPayload u.payloads
