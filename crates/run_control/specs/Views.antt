-- What the control plane sees of a node: its procedures, and its bearers without their traffic.
use Rattle.std.specs.Prelude.{Bool, List, None, Option, Some, false, filter, true, ℕ, ◌&&◌, ◌==◌, ◌||◌}
use Rattle.std.specs.Option.{option_map}
use Rattle.dc_base.specs.declared.flights.Flight.{Flight}
use Rattle.dc_base.specs.declared.flights.Flight.TheVariants as flight
use Rattle.dc_base.specs.declared.nodes.Class.{Class}
use Rattle.dc_base.specs.declared.nodes.Class.TheVariants.{Air, Ctl, Feed, Tun}
use Rattle.dc_base.specs.declared.numbers.SnLen.{SnLen}
use Rattle.dc_base.specs.declared.records.StatusTransfer.{StatusTransfer}
use Rattle.node_rules.specs.Anchor.{AnchorState, active_anchor, waiting_anchor}
use Rattle.node_rules.specs.Choices.{Send}
use Rattle.node_rules.specs.Entity.{Entity}
use Rattle.node_rules.specs.Feed.{Fed}
use Rattle.node_rules.specs.Held.{held}
use Rattle.node_rules.specs.Master.{MasterNode}
use Rattle.node_rules.specs.Secondary.{SecondNode}
use Rattle.node_rules.specs.Setup.{Setup}
use Rattle.node_rules.specs.Terminal.{TerminalNode}

-- ---- bearers

-- which bearer it is, in which generation, and what it was set up with
pub record Bearer : Type 0 where
  pub id : ℕ
  pub g : ℕ
  pub n : SnLen
  pub first : ℕ

-- as it is set up at a node
abbrev pub bearer_of : Setup → Bearer
bearer_of s = record { id = s.id; g = s.g; n = s.n; first = s.first }

-- how far an anchor is: it has the bearer, or waits for it without or with its status transfer
pub data Stage : Type 0 where
  holds : Stage
  lacks_status : Stage
  has_status : Stage

-- by the status transfer
abbrev pub waits_with : Option StatusTransfer → Stage
waits_with None = lacks_status
waits_with (Some status) = has_status

-- what is seen of an anchor; `opened`: it heard that the reconfiguration is complete
pub record View : Type 0 where
  pub bearer : Bearer
  pub opened : Bool
  pub stage : Stage

-- of an anchor at a node
abbrev pub view_of : AnchorState → View
view_of (waiting_anchor w) = record { bearer = bearer_of w.setup; opened = w.is_told; stage = waits_with w.transfer }
view_of (active_anchor a) = record { bearer = bearer_of a.entity.setup; opened = a.is_open; stage = holds }

-- the anchor at another stage
abbrev pub at_stage : Stage → View → View
at_stage k v = record v { stage = k }

-- the anchor has the bearer now
abbrev pub adopting : View → View
adopting v = at_stage holds v

-- it waits without a status transfer
abbrev pub is_lacking : Stage → Bool
is_lacking holds = false
is_lacking lacks_status = true
is_lacking has_status = false

-- the status transfer is the one that the anchor waits for
abbrev pub is_awaited : StatusTransfer → View → Bool
is_awaited status v = ((v.bearer.id == status.id) && (v.bearer.g == status.g)) && is_lacking v.stage

-- ---- what the nodes have of an identity

-- the master's anchor
abbrev pub master_view : MasterNode → ℕ → Option View
master_view m id = option_map view_of (held id m.anchors)

-- that of a secondary node
abbrev pub second_view : SecondNode → ℕ → Option View
second_view s id = option_map (λ (x : Fed). view_of x.anchor) (held id s.anchors)

-- the terminal's bearer
abbrev pub terminal_view : TerminalNode → ℕ → Option Bearer
terminal_view t id = option_map (λ (h : Entity). bearer_of h.setup) (held id t.halves)

-- ---- flights

-- the link is one of the control plane (RRC, Xn-C)
abbrev pub is_control : Class → Bool
is_control Ctl = true
is_control Feed = false
is_control Air = false
is_control Tun = false

-- the flight is a record
abbrev pub is_record : Flight → Bool
is_record (flight.Ctl r) = true
is_record (flight.Air id g num tag pdu) = false
is_record (flight.Ack id g num) = false
is_record (flight.Tun tag packet) = false
is_record (flight.Sdu id g payload) = false
is_record (flight.End id g) = false
is_record (flight.Told id g count) = false

-- a send is of the control plane: on such a link, or of a record
abbrev pub is_of_control : Send → Bool
is_of_control s = is_control s.0.class || is_record s.1

-- what of the sends is, in its order
abbrev pub controls : List Send → List Send
controls sends = filter (λ (s : Send). is_of_control s) sends
