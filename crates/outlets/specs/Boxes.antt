-- All inboxes with all passes, when they are opened and when they are closed.
use Rattle.std.specs.Prelude.{List, [], if◌then◌else◌, true, ℕ, ◌++◌, ◌<◌, ◌==◌, ◌≡◌}
use Rattle.atomic_table.specs.Seated.{TableId}
use Rattle.crossbeam_queue.specs.Passes.{Pass, view}
use Rattle.inbox.specs.Inbox.{sender, view_of}
use Rattle.inbox.specs.declared.View.{View}
use Rattle.journals.specs.Journals.{AreFirst}
use Rattle.journals.specs.Messages.{from}
use Rattle.journals.specs.declared.entries.Message.{Message}
use Rattle.outlets.specs.Ways.{AreWays, IsTicketOf, Ways, id_of}
use Rattle.outlets.specs.declared.boxes.Inboxes.{Inboxes}
use Rattle.outlets.specs.declared.four.Four.{Four}

-- which inbox each node has, by the node's number
abbrev pub ids : Inboxes → ℕ → TableId
ids boxes n = if 0 == n then id_of boxes.t else if 1 == n then id_of boxes.m else if 2 == n then id_of boxes.a else id_of boxes.b

-- the passes of the senders for one inbox, which have pushed nothing
pub record AreTickets (id : TableId) (ts : Four (Pass Message View)) : Type 0 where
  pub t : IsTicketOf id ts.t × (view ts.t ≡ sender 0 [])
  pub m : IsTicketOf id ts.m × (view ts.m ≡ sender 1 [])
  pub a : IsTicketOf id ts.a × (view ts.a ≡ sender 2 [])
  pub b : IsTicketOf id ts.b × (view ts.b ≡ sender 3 [])

-- a pass that takes from an inbox, and has taken these messages
abbrev pub IsReader : TableId → List Message → Pass Message View → Type 0
IsReader id got p = IsTicketOf id p × (view p ≡ view_of true got [])

-- each node has such a pass for its inbox
pub record AreReaders (ids : ℕ → TableId) (got : ℕ → List Message) (ts : Four (Pass Message View)) : Type 0 where
  pub t : IsReader (ids 0) (got 0) ts.t
  pub m : IsReader (ids 1) (got 1) ts.m
  pub a : IsReader (ids 2) (got 2) ts.a
  pub b : IsReader (ids 3) (got 3) ts.b

-- each node has its ways to the inboxes, and has sent these messages, by the numbers of sender and receiver
pub record AreAllWays (ids : ℕ → TableId) (sent : ℕ → ℕ → List Message) (ws : Four Ways) : Type 0 where
  pub t : AreWays ids 0 (sent 0) ws.t
  pub m : AreWays ids 1 (sent 1) ws.m
  pub a : AreWays ids 2 (sent 2) ws.a
  pub b : AreWays ids 3 (sent 3) ws.b

-- nothing was sent
abbrev pub none_sent : ℕ → ℕ → List Message
none_sent p n = []

-- of each sender, what was taken and then what is left in the inbox is what was pushed
pub record IsSettled (got t m a b : List Message) : Type 0 where
  pub left : List Message
  pub from_t : from 0 got ++ from 0 left ≡ t
  pub from_m : from 1 got ++ from 1 left ≡ m
  pub from_a : from 2 got ++ from 2 left ≡ a
  pub from_b : from 3 got ++ from 3 left ≡ b

-- of each sender, what each node took is what was sent to it first, none left out
abbrev pub AllFirst : (ℕ → List Message) → (ℕ → ℕ → List Message) → Type 0
AllFirst got sent = (p n : ℕ) → p < 4 → n < 4 → AreFirst (from p (got n)) (sent p n)
