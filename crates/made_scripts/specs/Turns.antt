-- What a turn of a made script does, by what it draws and by what stands on the links.
use Rattle.std.specs.Prelude.{ℕ, ◌==◌, nat_lt, if◌then◌else◌, Bool, false, true, List, [], ◌∷◌, count_by, filter, length, slice_get, Option, Some, None, option_map, Result, Ok, Err}
use Rattle.std.specs.Int.{w32, to_be_bytes}
use Rattle.std.specs.List.{position_from}
use Rattle.std.specs.Option.{option_or}
use Rattle.dc_base.specs.Links.{all_links, is_ordered, is_tunnel}
use Rattle.dc_base.specs.Tunnel.{teid_kind}
use Rattle.dc_base.specs.declared.events.Event.{Event}
use Rattle.dc_base.specs.declared.events.Event.TheVariants.{Change, Lose, RekeySecond, Recover, Report, Reshape, Step, Submit}
use Rattle.dc_base.specs.declared.flights.Flight.{Flight}
use Rattle.dc_base.specs.declared.flights.Flight.TheVariants.{Tun}
use Rattle.dc_base.specs.declared.nodes.Cell.TheVariants as cell
use Rattle.dc_base.specs.declared.nodes.Dir.TheVariants.{Dl, Ul}
use Rattle.dc_base.specs.declared.nodes.LegSet.TheVariants as legs
use Rattle.dc_base.specs.declared.nodes.LinkId.{LinkId}
use Rattle.dc_base.specs.declared.nodes.Node.TheVariants.{T}
use Rattle.dc_base.specs.declared.nodes.Shape.{Shape}
use Rattle.gtpu.specs.Content.{Content}
use Rattle.gtpu.specs.Decoded.{decoded}
use Rattle.gtpu.specs.declared.faults.GtpErr.{GtpErr}
use Rattle.node_rules.specs.Readers.{is_busy}
use Rattle.node_rules.specs.World.{Links, World, flights_on}
use Rattle.made_scripts.specs.Draws.{drawn, next_state}

-- the event of a turn, if it has one, and the state of the draws after it
pub record Turn : Type 0 where
  pub event : Option Event
  pub draws : ℕ

-- a turn of this event and these draws
abbrev pub turn : Option Event → ℕ → Turn
turn event draws = record { event = event; draws = draws }

-- the anchor at the master, both legs with the master's primary
abbrev pub mxm : Shape
mxm = record { at_second = false; legs = legs.Split cell.Mcg; dup = false }

-- the anchor and both legs at the secondary node, its own primary
abbrev pub sxs : Shape
sxs = record { at_second = true; legs = legs.Split cell.Scg; dup = false }

-- ---- submissions

-- the payload that a turn submits: its number, in four octets
abbrev pub payload_of : ℕ → List ℕ
payload_of number = to_be_bytes w32 number

-- ---- steps

-- whether a flight stands on a link
abbrev pub is_loaded : Links → LinkId → Bool
is_loaded links l = nat_lt 0 (length (flights_on l links))

-- on how many of some links flights stand
unfoldable pub loaded_count : Links → List LinkId → ℕ
loaded_count links ls = count_by (is_loaded links) ls

-- the links among some on which flights stand, in order
unfoldable pub loaded_of : Links → List LinkId → List LinkId
loaded_of links ls = filter (is_loaded links) ls

-- a step on a link: of its first flight where it keeps its order, and else of one that is drawn
abbrev pub step_on : Links → ℕ → LinkId → Turn
step_on links draws l =
    if is_ordered l.class then turn (Some (Step l 0)) draws
    else turn (Some (Step l (drawn (next_state draws) (length (flights_on l links))))) (next_state draws)

-- a step on a link that was drawn
abbrev pub step_on_drawn : Links → ℕ → Option LinkId → Turn
step_on_drawn links draws None = turn None draws
step_on_drawn links draws (Some l) = step_on links draws l

-- a step on one of the links on which flights stand; nothing is drawn where there is none
unfoldable pub drawn_step : Links → ℕ → Turn
drawn_step links draws =
    let count = loaded_count links all_links in
    let next = next_state draws in
    if count == 0 then turn None draws else step_on_drawn links next (slice_get (loaded_of links all_links) (drawn next count))

-- ---- losses

-- what was read is a packet of a bearer's own traffic
abbrev pub is_own : Result Content GtpErr → Bool
is_own (Ok p) = teid_kind p.teid == 0
is_own (Err e) = false

-- a flight in a tunnel that is such a packet
abbrev pub is_own_traffic : Flight → Bool
is_own_traffic (Tun tag packet) = is_own (decoded packet)
is_own_traffic _ = false

-- the place of the first such flight on a link
unfoldable pub own_place : List Flight → Option ℕ
own_place flights = position_from is_own_traffic 0 flights

-- its loss, if the link is a tunnel
unfoldable pub loss_on : Links → LinkId → Option Event
loss_on links l = if is_tunnel l.class then option_map (λ i. Lose l i) (own_place (flights_on l links)) else None

-- the loss on the first of some links that has such a flight
unfoldable pub first_loss : Links → List LinkId → Option Event
first_loss links [] = None
first_loss links (l ∷ ls) = option_or (loss_on links l) (first_loss links ls)

-- the loss of the first packet of a bearer's own traffic on the first tunnel that has one
abbrev pub loss : Links → Option Event
loss links = first_loss links all_links

-- ---- commands

-- the command of a draw below 24, if it is one
unfoldable pub command_of : ℕ → Option Event
command_of n =
    if n == 0 then Some (Reshape 1 mxm)
    else if n == 1 then Some (Reshape 1 sxs)
    else if n == 2 then Some Change
    else if n == 3 then Some RekeySecond
    else if n == 4 then Some (Report T 1)
    else if n == 5 then Some (Recover 1)
    else None

-- nothing, while a command is open
abbrev pub unless_busy : World → Option Event → Option Event
unless_busy w event = if is_busy w.master then None else event

-- ---- a turn

-- what a turn does by its first draw below 16: of 16 draws two submit in downlink and one in uplink, eleven step, one loses and
-- one commands
unfoldable pub turn_of_kind : World → ℕ → ℕ → ℕ → Turn
turn_of_kind w number draws kind =
    if nat_lt kind 2 then turn (Some (Submit 1 Dl (payload_of number))) draws
    else if kind == 2 then turn (Some (Submit 1 Ul (payload_of number))) draws
    else if nat_lt kind 14 then drawn_step w.links draws
    else if kind == 14 then turn (unless_busy w (loss w.links)) draws
    else turn (unless_busy w (command_of (drawn (next_state draws) 24))) (next_state draws)

-- what the turn of this number does, from 0
abbrev pub turn_of : World → ℕ → ℕ → Turn
turn_of w number draws = turn_of_kind w number (next_state draws) (drawn (next_state draws) 16)
