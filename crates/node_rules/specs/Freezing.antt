-- How an anchor gives a bearer up (TS 37.340, 10; TS 38.423, 8.2.2): it numbers and hands up nothing any more, tells the new
-- anchor where it is, and forwards what it has.
use Rattle.std.specs.Prelude.{ℕ, ◌+◌, ◌++◌, Bool, true, false, List, [], ◌∷◌, length, map, Option, Some, None}
use Rattle.dc_base.specs.Count.{sn}
use Rattle.dc_base.specs.Tunnel.{teid}
use Rattle.dc_base.specs.declared.flights.Flight.TheVariants as flight
use Rattle.dc_base.specs.declared.nodes.Class.TheVariants.{Tun}
use Rattle.dc_base.specs.declared.nodes.Node.{Node}
use Rattle.dc_base.specs.declared.numbers.SnLen.{SnLen}
use Rattle.dc_base.specs.declared.records.StatusTransfer.{StatusTransfer}
use Rattle.forward.specs.Load.{Sdu}
use Rattle.forward.specs.Outgoing.{sdu_packet, total_packet, end_marker}
use Rattle.gtpu.specs.Content.{Content}
use Rattle.gtpu.specs.Spelling.{spelling}
use Rattle.pdcp_pdu.specs.StatusReport.{whole_bits}
use Rattle.pdcp_rx.specs.Entries.{Entry, counts_of}
use Rattle.dc_base.specs.Links.{link}
use Rattle.node_rules.specs.Anchor.{Active}
use Rattle.node_rules.specs.Choices.{Send}
use Rattle.node_rules.specs.Entity.{Entity}

-- a forwarding tunnel from the old anchor to the new one, and the forward number of the next SDU
-- (TS 37.340, 10; TS 29.281, 5; the forward number is this product's own)
pub record Tunnel : Type 0 where
  pub node : Node
  pub target : Node
  pub g : ℕ  -- the generation of the change
  pub id : ℕ
  pub n : SnLen
  pub next : ℕ

-- a packet to the new anchor (TS 29.281, 5)
abbrev pub packet_send : Tunnel → Content → Send
packet_send t p = (link t.node t.target Tun, flight.Tun None (spelling p))

-- SDUs are forwarded in their order, each under the next number (TS 37.340, 10; the forward number is this product's own)
abbrev pub pieces : Tunnel → ℕ → ℕ → List Sdu → List Send
pieces t teid number [] = []
pieces t teid number (s ∷ ss) = packet_send t (sdu_packet teid t.n number s) ∷ pieces t teid (number + 1) ss

-- the tunnel is closed: by the number of all SDUs, and an End Marker (TS 29.281, 7.3.2)
abbrev pub closing : Tunnel → ℕ → ℕ → List Send
closing t teid total = packet_send t (total_packet teid total) ∷ packet_send t (end_marker teid) ∷ []

-- ---- the freeze

-- the SDUs that have a COUNT, each with its SN (TS 37.340, 10)
abbrev pub numbered : SnLen → List Entry → List Sdu
numbered n es = map (λ e. (Some (sn n e.0), e.1)) es

-- in downlink what is not confirmed, and then what has no COUNT yet (TS 37.340, 10; TS 38.423, 8.2.2)
abbrev pub down_sdus : Entity → List Sdu
down_sdus e = numbered e.setup.n e.tx.kept ++ map (λ (sdu : List ℕ). (None, sdu)) e.tx.held

-- in uplink what is stored (TS 37.340, 10; TS 38.423, 8.2.2)
abbrev pub up_sdus : Entity → List Sdu
up_sdus e = numbered e.setup.n e.rx.stored

-- where the anchor is: the next COUNT in downlink, RX_DELIV in uplink, and which uplink COUNTs are stored (TS 38.423, 8.2.2)
abbrev pub transfer_of : Entity → ℕ → StatusTransfer
transfer_of e g = record {
  g = g;
  id = e.setup.id;
  ul = e.rx.deliv;
  bits = whole_bits e.rx.deliv (counts_of e.rx.stored);
  dl = e.tx.next;
}

-- what a freeze gives: the record, the packets, and the downlink tunnel where it stays open (part of the rule freeze)
pub record FreezeOut : Type 0 where
  pub status : StatusTransfer
  pub sends : List Send
  pub rest : Option Tunnel

-- the downlink tunnel before anything was forwarded (part of the rule freeze)
abbrev pub new_tunnel : Entity → Node → ℕ → Tunnel
new_tunnel e target g = record { node = e.setup.node; target = target; g = g; id = e.setup.id; n = e.setup.n; next = 0 }

-- the tunnel of a direction, closed (part of the rule freeze)
abbrev pub whole_tunnel : Tunnel → ℕ → List Sdu → List Send
whole_tunnel t teid sdus = pieces t teid 0 sdus ++ closing t teid (length sdus)

-- the downlink packets, with their end if no SDU comes from the core any more (part of the rule freeze)
abbrev pub down_sends : Tunnel → Bool → List Sdu → List Send
down_sends t true sdus = whole_tunnel t (teid t.g t.id 1) sdus
down_sends t false sdus = pieces t (teid t.g t.id 1) 0 sdus

-- what stays open (part of the rule freeze)
abbrev pub rest_of : Tunnel → Bool → ℕ → Option Tunnel
rest_of t true number = None
rest_of t false number = Some (record t { next = number })

-- the anchor is frozen for a change to this node; last says that no SDU comes from the core any more
-- (TS 37.340, 10; TS 38.423, 8.2.2)
abbrev pub freeze : Active → Node → ℕ → Bool → FreezeOut
freeze a target g last =
    let t = new_tunnel a.entity target g in
    record {
      status = transfer_of a.entity g;
      sends = down_sends t last (down_sdus a.entity) ++ whole_tunnel t (teid g a.entity.setup.id 2) (up_sdus a.entity);
      rest = rest_of t last (length (down_sdus a.entity));
    }

-- ---- while the tunnel is open

-- an SDU from the core is forwarded without an SN (TS 37.340, 10)
abbrev pub forward_fresh : Tunnel → List ℕ → Tunnel × List Send
forward_fresh t sdu = (record t { next = t.next + 1 }, pieces t (teid t.g t.id 1) t.next ((None, sdu) ∷ []))

-- no SDU comes any more (TS 29.281, 7.3.2)
abbrev pub forward_end : Tunnel → List Send
forward_end t = closing t (teid t.g t.id 1) t.next
