-- What the host of a leg has of the tunnel, and what is put on its leg (TS 38.425, 5.4.1).
use Rattle.std.specs.Prelude.{◌++◌, IfOk, List, Option, Result, Some, map, option_map, slice_get, true, ⊤, ℕ, ◌≡◌, Bool}
use Rattle.std.specs.List.{AllByRecursion}
use Rattle.dc_base.specs.declared.flights.Flight.{Flight}
use Rattle.dc_base.specs.declared.flights.Flight.TheVariants as flight
use Rattle.dc_base.specs.Count.{sn}
use Rattle.dc_base.specs.declared.numbers.SnLen.{SnLen}
use Rattle.nr_u.specs.declared.frame.Frame.{Frame}
use Rattle.nr_u.specs.Frames.{IsWritable}
use Rattle.nr_u.specs.declared.tunnel.outbound.Sent.{Sent}
use Rattle.nr_u.specs.Tunnel.Incoming.{has}
use Rattle.pdcp_pdu.specs.Pdu.{Content}
use Rattle.pdcp_pdu.specs.declared.pdu.PduErr.{PduErr}
use Rattle.node_rules.specs.Choices.{Send}
use Rattle.node_rules.specs.Host.{Host}
use Rattle.node_rules.specs.HostRules.{sn_in, to_anchor}
use Rattle.node_rules.specs.Packets.{status_packet}
use Rattle.run_confirms.specs.Arrivals.{HasCome}
use Rattle.run_confirms.specs.Statuses.{IsStatusOf, count_under}

-- the COUNTs of the PDUs on the leg of a host, by their numbers there
abbrev pub host_leg : List Sent → Host → List (Option ℕ)
host_leg tun h = map (count_under tun) h.carried

-- a host has of its tunnel what was sent there; each PDU on its leg came in the tunnel
pub record HostHas (tun : List Sent) (received : ℕ → Type 0) (h : Host) : Type 0 where
  pub come : HasCome tun received h.tunnel
  pub carried : AllByRecursion (λ number. has number h.tunnel.came ≡ true) h.carried

-- a PDU, as it is read: it shows the sequence number of this COUNT, and none where it is a control PDU
abbrev pub Shows : SnLen → Option ℕ → Result Content PduErr → Type 0
Shows n tag x = IfOk x (λ c. sn_in c ≡ option_map (sn n) tag)

-- it was sent in the tunnel under this number, with this mark and COUNT
abbrev pub WasSent : List Sent → ℕ → Bool → Option ℕ → Type 0
WasSent tun number repeat tag = slice_get tun number ≡ Some (record { count = tag; repeat = repeat })

-- a PDU over the air is of this bearer and generation, and has under its number on the leg the COUNT that is its tag
abbrev pub IsNumberedOn : ℕ → ℕ → List (Option ℕ) → Flight → Type 0
IsNumberedOn id g leg (flight.Air i h num tag pdu) = (i ≡ id) × (h ≡ g) × (slice_get leg num ≡ Some tag)
IsNumberedOn id g leg _ = ⊤

-- what a host sends is the packet of a delivery status that says the truth, and can be written
pub record SendsStatus (tun : List Sent) (received : ℕ → Type 0) (h : Host) (s : Send) : Type 0 where
  pub tag : Option ℕ
  pub status : Frame
  pub is : s ≡ to_anchor h tag (status_packet h.g h.id status)
  pub truth : IsStatusOf h.tunnel.n tun received tag status
  pub fits : IsWritable status

-- the host after a packet that says the truth: what it has is right, and its leg grows behind by PDUs with their numbers
pub record HasTaken (tun : List Sent) (received : ℕ → Type 0) (h : Host) (done : Host × List Send) : Type 0 where
  pub has : HostHas tun received done.0
  pub more : List (Option ℕ)
  pub leg : host_leg tun done.0 ≡ host_leg tun h ++ more
  pub puts : AllByRecursion (λ (s : Send). IsNumberedOn h.id h.g (host_leg tun done.0) s.1) done.1

-- an ack over the air that says the truth: what the host has is right, its leg stays, and its delivery status says the truth
pub record HasTold (tun : List Sent) (received : ℕ → Type 0) (h : Host) (done : Host × List Send) : Type 0 where
  pub has : HostHas tun received done.0
  pub leg : host_leg tun done.0 ≡ host_leg tun h
  pub says : AllByRecursion (SendsStatus tun received h) done.1
