-- What a leg host sends: each PDU that it puts on its leg has the next number there, and what it sends to the anchor has none.
use Rattle.std.proofs.Common.{ℕ, ◌≡◌, ◌++◌, ◌+◌, ◌==◌, Bool, true, false, List, [], ◌∷◌, Option, Some, None, length, refl, sym, ap, subst, ◌∙◌, arith}
use Rattle.std.specs.Prelude.{Err, Ok, Result, drop, if◌then◌else◌, slice_get, slice_index, ◌&&◌}
use Rattle.std.proofs.lemmas.Bool.{eq-eqb}
use Rattle.std.proofs.lemmas.List.{length-append}
use Rattle.dc_base.specs.Links.{is_same_link, link, link_number}
use Rattle.dc_base.specs.declared.flights.Flight.{Flight}
use Rattle.dc_base.specs.declared.flights.Flight.TheVariants as flight
use Rattle.dc_base.specs.declared.nodes.Class.TheVariants.{Air, Tun}
use Rattle.dc_base.specs.declared.nodes.LinkId.{LinkId}
use Rattle.dc_base.specs.declared.nodes.Node.TheVariants.{T}
use Rattle.dc_base.specs.Tunnel.{teid_gen, teid_id}
use Rattle.claims.specs.Packets as claims
use Rattle.claims.specs.Sameness.{is_same_octets}
use Rattle.claims.proofs.Readable.{octets_are}
use Rattle.claims.specs.Views.{pdu_in, pdu_of}
use Rattle.nr_u.specs.Tunnel.Delivery.{tag_of}
use Rattle.nr_u.specs.Tunnel.Incoming as nru
use Rattle.nr_u.specs.Tunnel.Incoming.{has, listed, named, with_ack}
use Rattle.std.specs.Option.{option_and_then}
use Rattle.nr_u.specs.declared.frame.Frame.TheVariants.{Status}
use Rattle.nr_u.specs.declared.frame.Range.{Range}
use Rattle.pdcp_pdu.specs.Pdu.{Content, decoded}
use Rattle.pdcp_pdu.specs.declared.pdu.PduErr.{PduErr}
use Rattle.node_rules.specs.Choices.{Send}
use Rattle.node_rules.specs.Host.{Host}
use Rattle.node_rules.specs.HostRules.{confirmed, host_air_in, host_packet, host_tunnel_in, is_hosts, pdu_came, put_on_leg, sn_in, to_anchor, to_terminal}
use Rattle.node_rules.specs.Packets.{Packet, delivery, forwarding, nothing, packet_of, pdu_down, pdu_up, status_packet, up_packet}
use Rattle.run_numbers.specs.Histories.{IsNumberedFrom, NoneOf, Numbered, numbered_if, puts_of, puts_on}
use Rattle.run_numbers.specs.Records.{HostSends}
use Rattle.run_numbers.proofs.Holding.{ack_none, none_both}

-- ---- packets without a number

-- no PDU
abbrev pub no_puts : List Numbered
no_puts = []

pub nothing_of : (b : Bool) → (if b then no_puts else no_puts) ≡ no_puts
nothing_of true = refl
nothing_of false = refl

if_spelled_none : (octets : List ℕ) (p : claims.Packet) (tag : Option ℕ) (id g : ℕ) → numbered_if id g (pdu_in tag (Some p)) ≡ [] → numbered_if id g (pdu_in tag (claims.if_spelled octets p)) ≡ []
if_spelled_none octets p tag id g none = by (is_same_octets (claims.octets_of p) octets)
  where
    by : (b : Bool) → numbered_if id g (pdu_in tag (if b then Some p else None)) ≡ []
    by true = none
    by false = refl

-- a relayed PDU has no number
up_none : (tag : Option ℕ) (g id : ℕ) (pdu : List ℕ) (i h : ℕ) → numbered_if i h (pdu_of (flight.Tun tag (up_packet g id pdu))) ≡ []
up_none tag g id pdu i h =
    let octets = up_packet g id pdu in
    let t = claims.number4 (drop 4 octets) in
    if_spelled_none octets (claims.uplink (teid_id t) (teid_gen t) pdu) tag i h (nothing_of ((teid_id t == i) && (teid_gen t == h)))

-- the octets of a packet that was viewed are those that it is written as
pub read_back : (octets : List ℕ) (p : claims.Packet) → claims.packet_of octets ≡ Some p → claims.octets_of p ≡ octets
read_back octets p is = by (claims.read_packet octets) (is_same_octets (claims.octets_of (claims.read_packet octets)) octets) refl is
  where
    by : (q : claims.Packet) (b : Bool) → is_same_octets (claims.octets_of q) octets ≡ b → (if b then Some q else None) ≡ Some p → claims.octets_of p ≡ octets
    by q true same at = let it : q ≡ p = cc in subst (λ x. claims.octets_of x ≡ octets) it (octets_are (claims.octets_of q) octets same)
    by q false other at = absurd (let bad : None ≡ Some p = at in cc)

-- a delivery status is no PDU with a number: its first octet is another
no_down : (g id : ℕ) (highest : Option ℕ) (lost : List Range) (i h number : ℕ) (repeat : Bool) (pdu : List ℕ) → claims.octets_of (claims.downlink i h number repeat pdu) ≡ status_packet g id (Status highest lost) → ⊥
no_down g id None lost i h number true pdu same = let bad : 3 ≡ 16 = ap (λ xs. slice_index xs 13) same in absurd (omega (arith, bad))
no_down g id None lost i h number false pdu same = let bad : 1 ≡ 16 = ap (λ xs. slice_index xs 13) same in absurd (omega (arith, bad))
no_down g id (Some k) lost i h number true pdu same = let bad : 3 ≡ 17 = ap (λ xs. slice_index xs 13) same in absurd (omega (arith, bad))
no_down g id (Some k) lost i h number false pdu same = let bad : 1 ≡ 17 = ap (λ xs. slice_index xs 13) same in absurd (omega (arith, bad))

status_none : (tag : Option ℕ) (g id : ℕ) (highest : Option ℕ) (lost : List Range) (i h : ℕ) → numbered_if i h (pdu_of (flight.Tun tag (status_packet g id (Status highest lost)))) ≡ []
status_none tag g id highest lost i h = by (claims.packet_of (status_packet g id (Status highest lost))) refl
  where
    by : (o : Option claims.Packet) → claims.packet_of (status_packet g id (Status highest lost)) ≡ o → numbered_if i h (pdu_in tag o) ≡ []
    by None at = refl
    by (Some (claims.downlink j k number repeat pdu)) at = absurd (no_down g id highest lost j k number repeat pdu (read_back (status_packet g id (Status highest lost)) (claims.downlink j k number repeat pdu) at))
    by (Some (claims.uplink j k pdu)) at = nothing_of ((j == i) && (k == h))
    by (Some (claims.status j k top gaps)) at = refl
    by (Some (claims.forwarded j k d number sn sdu)) at = refl
    by (Some (claims.total j k d number)) at = refl
    by (Some (claims.closing j k d)) at = refl

-- ---- flights

-- a flight that carries no PDU with a number is none on any link
pub flight_none : (k : LinkId) (f : Flight) → ((i h : ℕ) → numbered_if i h (pdu_of f) ≡ []) → (i h : ℕ) → NoneOf i h ((k, f) ∷ [])
flight_none k f none i h l = by (is_same_link l k)
  where
    by : (b : Bool) → puts_of i h ((if b then f ∷ [] else []) ++ []) ≡ []
    by true = ap (λ zs. zs ++ []) (none i h)
    by false = refl

-- a host that sends no PDU with a number, and has its leg as it was
quiet_host : (h later : Host) (sends : List Send) → later.node ≡ h.node → later.id ≡ h.id → later.g ≡ h.g → later.carried ≡ h.carried → ((i k : ℕ) → NoneOf i k sends) → HostSends h later sends
quiet_host h later sends node id g carried none =
    let l = link h.node T Air in
    let nothing' : puts_on l h.id h.g sends ≡ [] = none h.id h.g l in
    record {
      node = node;
      id = id;
      g = g;
      own = subst (IsNumberedFrom (length h.carried)) (sym nothing') tt;
      counts = let is : length (puts_on l h.id h.g sends) ≡ 0 = ap length nothing' in let same : length later.carried ≡ length h.carried = ap length carried in omega (arith, is, same);
      elsewhere = λ k apart. none h.id h.g k;
      others = λ k i j apart. none i j k;
    }

idle_host : (h : Host) → HostSends h h []
idle_host h = quiet_host h h [] refl refl refl refl (λ i k l. refl)

host_if : (h : Host) (t : Bool) (x y : Host × List Send) → HostSends h x.0 x.1 → HostSends h y.0 y.1 → let z = if t then x else y in HostSends h z.0 z.1
host_if h true x y is else' = is
host_if h false x y is else' = else'

-- ---- over the air

confirmed_goes : (h : Host) (o : Option ℕ) → HostSends h (confirmed h o).0 (confirmed h o).1
confirmed_goes h None = idle_host h
confirmed_goes h (Some number) =
    let tunnel = with_ack h.tunnel number in
    quiet_host h (confirmed h (Some number)).0 (confirmed h (Some number)).1 refl refl refl refl (flight_none (link h.node h.anchor Tun) _ (status_none (tag_of tunnel) h.g h.id (option_and_then (λ (a : nru.Numbered). a.1.sn) (named tunnel)) (listed tunnel.came)))

pub host_air_goes : (h : Host) (f : Flight) → HostSends h (host_air_in h f).0 (host_air_in h f).1
host_air_goes h (flight.Air id g num tag pdu) =
    host_if h (is_hosts h id g) (h, to_terminal h (flight.Ack id g num) ∷ to_anchor h tag (up_packet g id pdu) ∷ []) (h, [])
    (quiet_host h h (to_terminal h (flight.Ack id g num) ∷ to_anchor h tag (up_packet g id pdu) ∷ []) refl refl refl refl
    (λ i k. none_both i k (to_terminal h (flight.Ack id g num) ∷ []) (to_anchor h tag (up_packet g id pdu) ∷ []) (ack_none (link h.node T Air) id g num i k) (flight_none (link h.node h.anchor Tun) _ (up_none tag g id pdu) i k)))
    (idle_host h)
host_air_goes h (flight.Ack id g num) = host_if h (is_hosts h id g) (confirmed h (slice_get h.carried num)) (h, []) (confirmed_goes h (slice_get h.carried num)) (idle_host h)
host_air_goes h (flight.Tun tag packet) = idle_host h
host_air_goes h (flight.Sdu id g payload) = idle_host h
host_air_goes h (flight.End id g) = idle_host h
host_air_goes h (flight.Told id g count) = idle_host h
host_air_goes h (flight.Ctl r) = idle_host h

-- ---- through the tunnel

put_goes : (h : Host) (number : ℕ) (repeat : Bool) (tag : Option ℕ) (pdu : List ℕ) (sn : Option ℕ) → HostSends h (put_on_leg h number repeat tag pdu sn).0 (put_on_leg h number repeat tag pdu sn).1
put_goes h number repeat tag pdu sn = record {
  node = refl;
  id = refl;
  g = refl;
  own = subst (IsNumberedFrom (length h.carried)) (sym here) (refl, tt);
  counts = length-append h.carried (number ∷ []) ∙ ap (λ zs. length h.carried + length zs) (sym here);
  elsewhere = λ l apart. ap (λ (b : Bool). puts_of h.id h.g ((if b then flight.Air h.id h.g (length h.carried) tag pdu ∷ [] else []) ++ [])) apart;
  others = λ l i k apart. other (is_same_link l (link h.node T Air)) i k apart;
}
  where
    itself : ((h.id == h.id) && (h.g == h.g)) ≡ true
    itself = rw (eq-eqb h.id h.id refl, eq-eqb h.g h.g refl) refl

    here : puts_on (link h.node T Air) h.id h.g ((link h.node T Air, flight.Air h.id h.g (length h.carried) tag pdu) ∷ []) ≡ (length h.carried, record { count = tag; repeat = false }) ∷ []
    here =
        ap (λ (b : Bool). puts_of h.id h.g ((if b then flight.Air h.id h.g (length h.carried) tag pdu ∷ [] else []) ++ [])) (eq-eqb (link_number (link h.node T Air)) (link_number (link h.node T Air)) refl)
        ∙ ap (λ (u : Bool). (if u then (length h.carried, record { count = tag; repeat = false }) ∷ [] else []) ++ []) itself

    other : (t : Bool) (i k : ℕ) → ((h.id == i) && (h.g == k)) ≡ false → puts_of i k ((if t then flight.Air h.id h.g (length h.carried) tag pdu ∷ [] else []) ++ []) ≡ []
    other true i k apart = ap (λ (u : Bool). (if u then (length h.carried, record { count = tag; repeat = false }) ∷ [] else []) ++ []) apart
    other false i k apart = refl

came_goes : (h : Host) (number : ℕ) (repeat : Bool) (tag : Option ℕ) (pdu : List ℕ) (r : Result Content PduErr) → HostSends h (pdu_came h number repeat tag pdu r).0 (pdu_came h number repeat tag pdu r).1
came_goes h number repeat tag pdu (Err e) = idle_host h
came_goes h number repeat tag pdu (Ok x) = host_if h (has number h.tunnel.came) (h, []) (put_on_leg h number repeat tag pdu (sn_in x)) (idle_host h) (put_goes h number repeat tag pdu (sn_in x))

packet_goes : (h : Host) (tag : Option ℕ) (p : Packet) → HostSends h (host_packet h tag p).0 (host_packet h tag p).1
packet_goes h tag (pdu_down id g number repeat pdu) =
    host_if h (is_hosts h id g) (pdu_came h number repeat tag pdu (decoded h.tunnel.n pdu)) (h, []) (came_goes h number repeat tag pdu (decoded h.tunnel.n pdu)) (idle_host h)
packet_goes h tag (pdu_up id g pdu) = idle_host h
packet_goes h tag (delivery id g status) = idle_host h
packet_goes h tag (forwarding id g d load) = idle_host h
packet_goes h tag nothing = idle_host h

pub host_tunnel_goes : (h : Host) (f : Flight) → HostSends h (host_tunnel_in h f).0 (host_tunnel_in h f).1
host_tunnel_goes h (flight.Tun tag packet) = packet_goes h tag (packet_of packet)
host_tunnel_goes h (flight.Air id g num tag pdu) = idle_host h
host_tunnel_goes h (flight.Ack id g num) = idle_host h
host_tunnel_goes h (flight.Sdu id g payload) = idle_host h
host_tunnel_goes h (flight.End id g) = idle_host h
host_tunnel_goes h (flight.Told id g count) = idle_host h
host_tunnel_goes h (flight.Ctl r) = idle_host h
