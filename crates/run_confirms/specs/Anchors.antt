-- What an active anchor sent in its generation, on the leg of its own node and in the tunnel to the host of the other
-- (TS 38.323, 5.2.1; TS 38.425, 5.4.1).
use Rattle.std.specs.Prelude.{Bool, List, Option, Some, [], false, map, slice_get, take, true, ⊤, ◌||◌, ℕ, ◌++◌, ◌≡◌, ◌⊎◌}
use Rattle.std.specs.List.{AllByRecursion, list_any}
use Rattle.dc_base.specs.declared.flights.Flight.{Flight}
use Rattle.dc_base.specs.declared.flights.Flight.TheVariants as flight
use Rattle.dc_base.specs.declared.nodes.Cell.{Cell}
use Rattle.dc_base.specs.declared.nodes.Cell.TheVariants.{Mcg, Scg}
use Rattle.nr_u.specs.declared.tunnel.outbound.Sent.{Sent}
use Rattle.nr_u.specs.Tunnel.Ends.{FirstSendsRise}
use Rattle.nr_u.specs.Tunnel.Outgoing.{Counted, IsHistory}
use Rattle.pdcp_tx.specs.Sender.{is_kept}
use Rattle.split_leg.specs.declared.leg.Pdu.{Pdu}
use Rattle.split_leg.specs.Legs.{LegState, LegsState, is_count, leg_at}
use Rattle.split_leg.specs.Routes.{is_live}
use Rattle.node_rules.specs.Anchor.{Active}
use Rattle.node_rules.specs.Choices.{Send}
use Rattle.node_rules.specs.Entity.{Entity}
use Rattle.node_rules.specs.Packets.{down_packet}
use Rattle.node_rules.specs.Setup.{anchor_cell, other_cell}
use Rattle.node_rules.specs.declared.bearers.OnLeg.{OnLeg}
use Rattle.run_legs.specs.Puts.{over}
use Rattle.run_confirms.specs.Hosts.{IsNumberedOn, WasSent}
use Rattle.run_confirms.specs.Statuses.{FirstsBelow, count_under}

-- a PDU of a leg: its COUNT and its mark
abbrev pub as_sent : Pdu → Sent
as_sent p = record { count = p.count; repeat = p.repeat }

-- those of a leg, by their numbers
abbrev pub sent_on : LegState → List Sent
sent_on leg = map as_sent leg.pdus

-- what was put on the legs, as a tunnel has it
abbrev pub put_as_sent : OnLeg → Sent
put_as_sent p = record { count = p.pdu.0; repeat = p.repeat }

-- that over one cell group, in its order
abbrev pub sent_put : Cell → List OnLeg → List Sent
sent_put cell puts = map put_as_sent (over cell puts)

-- and the COUNTs of it
abbrev pub counts_put : Cell → List OnLeg → List (Option ℕ)
counts_put cell puts = map (λ (p : OnLeg). p.pdu.0) (over cell puts)

-- a PDU of this COUNT is among these
abbrev pub is_among : ℕ → List Sent → Bool
is_among count sent = list_any (λ (s : Sent). is_count count s.count) sent

-- a PDU of this COUNT was put on a leg
abbrev pub was_put : LegsState → ℕ → Bool
was_put legs count = is_among count (sent_on legs.mcg) || is_among count (sent_on legs.scg)

-- a leg is live
abbrev pub has_live : LegsState → Bool
has_live legs = is_live legs Mcg || is_live legs Scg

-- the cell group of the anchor's own node
abbrev pub own_cell : Entity → Cell
own_cell e = anchor_cell e.setup.legs.shape

-- the cell group of the host
abbrev pub far_cell : Entity → Cell
far_cell e = other_cell (own_cell e)

-- a COUNT is among these
abbrev pub has_count : ℕ → List (Option ℕ) → Bool
has_count count leg = list_any (is_count count) leg

-- what is marked as a repeat in the tunnel was sent before: on the anchor's own leg, or in the tunnel under a lower number
abbrev pub MarksSentBefore : List (Option ℕ) → List Sent → Type 0
MarksSentBefore air tun =
    (number count : ℕ) → slice_get tun number ≡ Some (record { count = Some count; repeat = true }) → (has_count count air ≡ true) ⊎ (is_among count (take number tun) ≡ true)

-- what is on the anchor's own leg, by COUNT, and what was sent in the tunnel; first sends of the tunnel rise, below the next COUNT
pub record HasSent (air : List (Option ℕ)) (tun : List Sent) (a : Active) : Type 0 where
  pub own : map (λ (s : Sent). s.count) (sent_on (leg_at a.entity.setup.legs (own_cell a.entity))) ≡ air
  pub far : sent_on (leg_at a.entity.setup.legs (far_cell a.entity)) ≡ tun
  pub history : IsHistory tun a.tunnel
  pub unasked : AllByRecursion (λ (e : Counted). count_under tun e.0 ≡ Some e.1) a.tunnel.unasked
  pub rise : FirstSendsRise tun
  pub below : FirstsBelow a.entity.tx.next tun
  pub marks : MarksSentBefore air tun
  pub same_n : a.tunnel.n ≡ a.entity.setup.n

-- the same of an anchor that sends what it keeps as soon as it is open: a closed one sent nothing, and what an open one keeps was
-- sent, where a leg is live
pub record AnchorSent (air : List (Option ℕ)) (tun : List Sent) (a : Active) : Type 0 where
  pub sent : HasSent air tun a
  pub closed : a.is_open ≡ false → (air ≡ []) × (tun ≡ [])
  pub all_sent : a.is_open ≡ true → has_live a.entity.setup.legs ≡ true → AllByRecursion (λ (e : ℕ × List ℕ). was_put a.entity.setup.legs e.0 ≡ true) a.entity.tx.kept

-- a packet of this bearer and generation with a PDU for the host: it was sent in the tunnel under its number, with its mark and tag
pub record IsInTunnel (id g : ℕ) (tun : List Sent) (tag : Option ℕ) (packet : List ℕ) : Type 0 where
  pub number : ℕ
  pub repeat : Bool
  pub pdu : List ℕ
  pub is : packet ≡ down_packet g id number repeat pdu
  pub sent : WasSent tun number repeat tag

-- a flight of the anchor: over the air it has under its number the COUNT that is its tag, and so in the tunnel
abbrev pub IsOfAnchor : ℕ → ℕ → List (Option ℕ) → List Sent → Flight → Type 0
IsOfAnchor id g air tun (flight.Air i h num tag pdu) = IsNumberedOn id g air (flight.Air i h num tag pdu)
IsOfAnchor id g air tun (flight.Tun tag packet) = IsInTunnel id g tun tag packet
IsOfAnchor id g air tun _ = ⊤

-- a step of the anchor: what it sends is behind what it sent before
pub record Sends (air : List (Option ℕ)) (tun : List Sent) (a : Active) (done : Active × List Send) : Type 0 where
  pub more_air : List (Option ℕ)
  pub more_tun : List Sent
  pub after : AnchorSent (air ++ more_air) (tun ++ more_tun) done.0
  pub flights : AllByRecursion (λ (s : Send). IsOfAnchor a.entity.setup.id a.entity.setup.g (air ++ more_air) (tun ++ more_tun) s.1) done.1

-- each SDU that was kept is kept still, or was received
abbrev pub KeptOrReceived : (ℕ → Type 0) → List (ℕ × List ℕ) → List (ℕ × List ℕ) → Type 0
KeptOrReceived received before after = AllByRecursion (λ (e : ℕ × List ℕ). (is_kept after e.0 ≡ true) ⊎ received e.0) before
