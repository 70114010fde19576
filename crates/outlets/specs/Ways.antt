-- The way of a node to an inbox: what was pushed by it, and what waits for room.
use Rattle.std.specs.Prelude.{List, Option, [], ℕ, ◌++◌, ◌∷◌, ◌≡◌}
use Rattle.std.specs.List.{AllByRecursion}
use Rattle.atomic_table.specs.Seated.{TableId}
use Rattle.crossbeam_queue.specs.Passes.{Pass, view}
use Rattle.crossbeam_queue.specs.declared.array_queue.Doing.{Doing}
use Rattle.crossbeam_queue.specs.declared.array_queue.Slotted.{Slotted}
use Rattle.dc_base.specs.Nodes.{node_number}
use Rattle.inbox.specs.Inbox.{IsSender, put_of}
use Rattle.inbox.specs.declared.View.{View}
use Rattle.journals.specs.Messages.{to}
use Rattle.journals.specs.declared.entries.Message.{Message}

-- which inbox it is
abbrev pub id_of : {Q A : Type 0} → Slotted (Option Message) (Doing Message View) Q A → TableId
id_of q = q.table.shared.table_id

-- a pass of that inbox, with no slot of it out
abbrev pub IsTicketOf : TableId → Pass Message View → Type 0
IsTicketOf id p = (p.table_id ≡ id) × (p.me.1 ≡ [])

-- a pass, and what waits, in the order in which it was sent
pub record Way : Type 0 where
  pub pass : Pass Message View
  pub waiting : List Message

-- the ways to all inboxes
pub record Ways : Type 0 where
  pub t : Way
  pub m : Way
  pub a : Way
  pub b : Way

-- all are of sender number n
abbrev pub AreOf : ℕ → List Message → Type 0
AreOf n ms = AllByRecursion (λ (m : Message). node_number m.link.from ≡ n) ms

-- what was pushed, and then what waits
abbrev pub all_of : Way → List Message
all_of w = put_of (view w.pass) ++ w.waiting

-- sender number n has this way to the inbox, and has sent these messages by it
pub record IsWay (id : TableId) (n : ℕ) (all : List Message) (w : Way) : Type 0 where
  pub pass : IsTicketOf id w.pass
  pub right : IsSender n (view w.pass)
  pub own : AreOf n w.waiting
  pub whole : all_of w ≡ all

-- sender number n has these ways to the inboxes, and has sent these messages to the nodes by their numbers
pub record AreWays (ids : ℕ → TableId) (n : ℕ) (sent : ℕ → List Message) (ws : Ways) : Type 0 where
  pub t : IsWay (ids 0) n (sent 0) ws.t
  pub m : IsWay (ids 1) n (sent 1) ws.m
  pub a : IsWay (ids 2) n (sent 2) ws.a
  pub b : IsWay (ids 3) n (sent 3) ws.b

-- one more message waits
abbrev pub with_message : Way → Message → Way
with_message w m = record { pass = w.pass; waiting = w.waiting ++ m ∷ [] }

-- those of the messages wait that are for node number k
abbrev pub posted_at : ℕ → Way → List Message → Way
posted_at k w ms = record { pass = w.pass; waiting = w.waiting ++ to k ms }

-- each message waits for its receiver
abbrev pub posted : Ways → List Message → Ways
posted ws ms = record { t = posted_at 0 ws.t ms; m = posted_at 1 ws.m ms; a = posted_at 2 ws.a ms; b = posted_at 3 ws.b ms }
