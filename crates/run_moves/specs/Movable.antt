-- An entity of which nothing is lost or doubled when its anchor moves (TS 37.340, 10; TS 38.423, 8.2.2).
use Rattle.std.specs.Prelude.{List, true, ℕ, ◌+◌, ◌<◌, ◌≡◌, ◌^◌}
use Rattle.std.specs.List.{AllByRecursion}
use Rattle.pdcp_tx.specs.Sender.{InWindow}
use Rattle.pdcp_rx.specs.Receiver.{IsInOrder}
use Rattle.node_rules.specs.Adopting.{is_payload}
use Rattle.node_rules.specs.Entity.{Entity}

-- each of these SDUs is a payload
abbrev pub ArePayloads : List (ℕ × List ℕ) → Type 0
ArePayloads es = AllByRecursion (λ (e : ℕ × List ℕ). is_payload e.1 ≡ true) es

-- the entity has sequence numbers of one length, what is kept and what is stored lies in its window, and each SDU is a payload
pub record IsMovable (e : Entity) : Type 0 where
  pub sender_n : e.tx.n ≡ e.setup.n
  pub receiver_n : e.rx.n ≡ e.setup.n
  pub small : e.tx.next < 2 ^ 32
  pub window : InWindow e.setup.n e.tx.next e.tx.kept
  pub kept : ArePayloads e.tx.kept
  pub held : AllByRecursion (λ (sdu : List ℕ). is_payload sdu ≡ true) e.tx.held
  pub order : IsInOrder e.rx
  pub stored : ArePayloads e.rx.stored
