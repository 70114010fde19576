-- What a state of the nodes with bearers at the master alone, and a state of the nodes of the whole machine, have in common.
use Rattle.std.specs.Prelude.{◌≡◌, ℕ, Bool, true, false, ◌+◌, ◌-◌, ◌<◌, ◌≤◌, ◌^◌, ◌==◌, not, List, [], ◌∷◌, map, find, Option, Some, None}
use Rattle.std.specs.List.{AllByRecursion, list_any}
use Rattle.dc_base.specs.declared.events.Header.{Header}
use Rattle.dc_base.specs.declared.nodes.Node.TheVariants.{A, B, M, T}
use Rattle.dc_base.specs.declared.nodes.KeyName.{KeyName}
use Rattle.dc_base.specs.declared.nodes.Shape.{Shape}
use Rattle.dc_base.specs.declared.numbers.SnLen.{SnLen}
use Rattle.key_chain.specs.Book.{Claim}
use Rattle.nr_u.specs.Tunnel.Outgoing.{Outgoing}
use Rattle.pdcp_tx.specs.Sender.{Sender, Entry, is_kept, low}
use Rattle.split_leg.specs.declared.leg.Pdu.{Pdu}
use Rattle.transcript.specs.Bearers.{OpenCommand, change, recovery}
use Rattle.node_rules.specs.Anchor.{AnchorState, active_anchor}
use Rattle.node_rules.specs.Choices.{Send}
use Rattle.node_rules.specs.Entity.{Entity}
use Rattle.node_rules.specs.Held.{held}
use Rattle.node_rules.specs.Lines.{lines_of}
use Rattle.node_rules.specs.Master.{MasterNode}
use Rattle.node_rules.specs.MasterState.{is_unsettled}
use Rattle.node_rules.specs.Secondary.{new_second}
use Rattle.node_rules.specs.Terminal.{TerminalNode}
use Rattle.node_rules.specs.World.{World, Links}
use Rattle.node_rules.specs.declared.bearers.Window.{Window}
use Rattle.node_rules.specs.declared.commands.Command.{Command}
use Rattle.node_rules.specs.declared.commands.Command.TheVariants.{Gone as gone, Recovering as recovering}
use Rattle.node_rules.specs.declared.commands.Row.{Row}
use Rattle.node_rules.specs.declared.inputs.Outcome.{Outcome as WholeOutcome}
use Rattle.dc_base.specs.Nodes.{is_mm}
use Rattle.dc_base.specs.declared.events.Line.{Line}
use Rattle.dc_base.specs.declared.events.Line.TheVariants as line
use Rattle.dc_base.specs.declared.events.Note.{Note}
use Rattle.dc_base.specs.declared.flights.Flight.{Flight}
use Rattle.dc_base.specs.declared.flights.Flight.TheVariants as flight
use Rattle.dc_base.specs.declared.records.Item.{Item}
use Rattle.dc_base.specs.declared.records.Item.TheVariants.{Set, Unset}
use Rattle.dc_base.specs.declared.records.Rec.{Rec}
use Rattle.dc_base.specs.declared.records.Rec.TheVariants.{Reconf}
use Rattle.master_runs.specs.Control.{Nodes, is_change, plan_for}
use Rattle.master_runs.specs.Entities.{Entities, Table, bearer_in}
use Rattle.master_runs.specs.Plane.{Outcome}
use Rattle.master_runs.specs.Forms.{Leg, entity_as}

-- ---- the nodes of the whole machine in such a run

-- the terminal
abbrev pub terminal_as : Header → List (ℕ × Entity) → TerminalNode
terminal_as h halves = record { alg = h.alg; sec = None; halves = halves }

-- what the master holds, besides what never changes and the generation drawn last
pub record Inside : Type 0 where
  pub counters : List ℕ
  pub claims : List Claim
  pub second_key : KeyName
  pub rows : List Row
  pub command : Option Command
  pub anchors : List (ℕ × AnchorState)
  pub windows : List (ℕ × Window)

-- the master
abbrev pub master_as : Header → ℕ → Inside → MasterNode
master_as h drawn x = record {
  alg = h.alg;
  proc = record {
    table = record {
      sec = None;
      book = record { roots = h.root ∷ []; drawn = x.counters; current = 0; claims = x.claims };
      second_key = x.second_key;
      rows = x.rows;
      last = drawn;
    };
    command = x.command;
    a_waits = false;
    b_waits = false;
  };
  anchors = x.anchors;
  hosts = [];
  windows = x.windows;
}

-- the nodes, and what stands on the links
abbrev pub world_as : Header → ℕ → List (ℕ × Entity) → Inside → Links → World
world_as h drawn halves x links = record {
  terminal = terminal_as h halves;
  master = master_as h drawn x;
  a = new_second h.alg A;
  b = new_second h.alg B;
  links = links;
}

-- ---- what both have of a bearer

-- the COUNT of each PDU of a leg
abbrev pub tags_of : Leg → List (Option ℕ)
tags_of x = map (λ p. p.count) x.pdus

-- the terminal's half
pub data SameHalf (h : Header) (id : ℕ) : Option Entities → Option Entity → Type 0 where
  no_half : SameHalf h id None None
  a_half : (e : Entities) (x : Leg) → e.bearer.id ≡ id → tags_of x ≡ e.sent → SameHalf h id (Some e) (Some (entity_as h T e.bearer x e.tx e.rx))

-- all of them
abbrev pub SameTerminal : Header → Table → List (ℕ × Entity) → Type 0
SameTerminal h table halves = (id : ℕ) → SameHalf h id (bearer_in table id) (held id halves)

-- this COUNT is not kept
abbrev pub IsGone : List Entry → Option ℕ → Type 0
IsGone kept None = Unit {0}
IsGone kept (Some c) = is_kept kept c ≡ false

-- a PDU whose ack came has a COUNT that is not kept
abbrev pub IsConfirmed : List Entry → Pdu → Type 0
IsConfirmed kept p = p.acked ≡ true → IsGone kept p.count

-- a bearer to which nothing was submitted
pub record IsUnused (tx : Sender) : Type 0 where
  pub kept : tx.kept ≡ []
  pub held : tx.held ≡ []
  pub short : tx.next < 2 ^ 32 - 1

-- the master's half: its row, its anchor and its window
pub record IsBearer (drawn : ℕ) (busy : Option OpenCommand) (command : Option Command) (id : ℕ) (e : Entities) (x : Leg) (r : Row) (opened : Bool) (w : Window) : Type 0 where
  pub named : e.bearer.id ≡ id
  pub tags : tags_of x ≡ e.sent
  pub confirmed : AllByRecursion (IsConfirmed e.tx.kept) x.pdus
  pub n : r.n ≡ e.bearer.n
  pub tx_n : e.tx.n ≡ e.bearer.n
  pub anchor : r.anchor ≡ M
  pub accepted : r.first + w.accepted ≡ e.tx.next
  pub told : w.told ≡ low e.tx
  pub known : e.bearer.g ≤ drawn
  pub unsettled : is_unsettled id command ≡ is_change busy e.bearer.g
  pub open_is : opened ≡ not (is_change busy e.bearer.g)
  pub unused : is_change busy e.bearer.g ≡ true → IsUnused e.tx

-- that one, or none
pub data SameBearer (h : Header) (drawn : ℕ) (busy : Option OpenCommand) (command : Option Command) (id : ℕ)
    : Option Entities → Option Row → Option AnchorState → Option Window → Type 0 where
  no_bearer : SameBearer h drawn busy command id None None None None
  a_bearer : (e : Entities) (x : Leg) (r : Row) (opened : Bool) (tunnel : Outgoing) (w : Window) → IsBearer drawn busy command id e x r opened w
      → SameBearer h drawn busy command id (Some e) (Some r) (Some (active_anchor (record { entity = entity_as h M e.bearer x e.tx e.rx; is_open = opened; tunnel = tunnel }))) (Some w)

-- the command that is open
pub data SameCommand : Option OpenCommand → Option Command → Type 0 where
  no_command : SameCommand None None
  a_change : (g id : ℕ) (n : SnLen) (first : ℕ) (shape : Shape) (threshold policy : ℕ)
      → SameCommand (Some (change g)) (Some (gone (plan_for g id n first shape threshold policy) (record { complete = false; due = None; confirms = false; leaving = None; moving = [] })))
  a_recovery : (id : ℕ) → SameCommand (Some (recovery id)) (Some (recovering id true None))

-- no claim is for this identity
abbrev pub is_unclaimed : ℕ → List Claim → Bool
is_unclaimed id claims = not (list_any (λ c. id == c.id) claims)

-- the master
pub record SameMaster (h : Header) (s : Nodes) (x : Inside) : Type 0 where
  pub bearers : (id : ℕ) → SameBearer h s.drawn s.busy x.command id (bearer_in s.master id) (find (λ r. r.id == id) x.rows) (held id x.anchors) (held id x.windows)
  pub command : SameCommand s.busy x.command
  pub unclaimed : (id : ℕ) → bearer_in s.master id ≡ None → is_unclaimed id x.claims ≡ true

-- ---- plans

-- an item drops a bearer, or sets it up at the master alone
abbrev pub IsPlainItem : Item → Type 0
IsPlainItem (Set id n first shape threshold policy key old) = is_mm shape ≡ true
IsPlainItem (Unset id) = Unit {0}

-- such are the items of a plan that the terminal is told
abbrev pub IsPlainRecord : Rec → Type 0
IsPlainRecord (Reconf plan key) = AllByRecursion IsPlainItem plan.items
IsPlainRecord _ = Unit {0}

-- and of a flight
abbrev pub IsPlainFlight : Flight → Type 0
IsPlainFlight (flight.Ctl r) = IsPlainRecord r
IsPlainFlight _ = Unit {0}

-- and of a line
abbrev pub IsPlainLine : Line → Type 0
IsPlainLine (line.Send l f) = IsPlainFlight f
IsPlainLine _ = Unit {0}

-- ---- what both do

-- the terminal does what it did there
pub record TerminalDid (h : Header) (was : TerminalNode × WholeOutcome) (done : Table × Outcome) : Type 0 where
  pub after : List (ℕ × Entity)
  pub notes : List Note
  pub sends : List Send
  pub is : was ≡ (terminal_as h after, record { answer = done.1.0; notes = notes; sends = sends })
  pub lined : lines_of (record { answer = done.1.0; notes = notes; sends = sends }) ≡ done.1.1
  pub plain : AllByRecursion IsPlainLine done.1.1
  pub same : SameTerminal h done.0 after

-- and so does the master
pub record MasterDid (h : Header) (was : MasterNode × WholeOutcome) (done : Nodes × Outcome) : Type 0 where
  pub after : Inside
  pub notes : List Note
  pub sends : List Send
  pub is : was ≡ (master_as h done.0.drawn after, record { answer = done.1.0; notes = notes; sends = sends })
  pub lined : lines_of (record { answer = done.1.0; notes = notes; sends = sends }) ≡ done.1.1
  pub plain : AllByRecursion IsPlainLine done.1.1
  pub same : SameMaster h done.0 after

-- and the world, in which the same stands on the links until the event is over
pub record WorldDid (h : Header) (links : Links) (was : World × WholeOutcome) (done : Nodes × Outcome) : Type 0 where
  pub halves : List (ℕ × Entity)
  pub inside : Inside
  pub notes : List Note
  pub sends : List Send
  pub is : was ≡ (world_as h done.0.drawn halves inside links, record { answer = done.1.0; notes = notes; sends = sends })
  pub lined : lines_of (record { answer = done.1.0; notes = notes; sends = sends }) ≡ done.1.1
  pub plain : AllByRecursion IsPlainLine done.1.1
  pub terminal : SameTerminal h done.0.terminal halves
  pub master : SameMaster h done.0 inside
