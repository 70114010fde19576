-- What a leg host relays goes up by its plan.
use Rattle.std.proofs.Common.{ℕ, ◌≡◌, ◌||◌, Bool, true, false, List, Option, Some, None, refl, sym, ap, subst, ◌∙◌, inl, inr}
use Rattle.std.specs.Prelude.{drop, if◌then◌else◌, is_none, not}
use Rattle.std.proofs.lemmas.Bool.{and_parts, cases_Bool}
use Rattle.dc_base.specs.Links.{is_link, joins}
use Rattle.dc_base.specs.Nodes.{is_same_node}
use Rattle.dc_base.specs.Tunnel.{teid_gen, teid_id}
use Rattle.dc_base.specs.declared.events.Line.{Line}
use Rattle.dc_base.specs.declared.events.Line.TheVariants as line
use Rattle.dc_base.specs.declared.flights.Flight.TheVariants as flight
use Rattle.dc_base.specs.declared.nodes.Class.{Class}
use Rattle.dc_base.specs.declared.nodes.Class.TheVariants.{Air, Ctl, Feed, Tun}
use Rattle.dc_base.specs.declared.nodes.LinkId.{LinkId}
use Rattle.dc_base.specs.declared.nodes.Node.{Node}
use Rattle.dc_base.specs.declared.nodes.Node.TheVariants.{A, B, M, T}
use Rattle.pdcp_pdu.specs.DataPdu.{is_data}
use Rattle.claims.specs.Links.{is_class}
use Rattle.claims.specs.Packets.{number4, octets_of, packet_of, uplink}
use Rattle.claims.specs.Past.{Past}
use Rattle.claims.specs.Reading.{Setting, anchor_in}
use Rattle.claims.specs.Sameness.{is_none_or, is_same_octets, is_some_and}
use Rattle.claims.specs.Taking.{direction_of, direction_with}
use Rattle.claims.specs.Views.{Pdu, if_data, pdu_in, pdu_of}
use Rattle.node_rules.specs.Packets.{up_packet}
use Rattle.run_uplinks.specs.Readings.{reading}
use Rattle.run_uplinks.specs.Seen.{seen}
use Rattle.run_senders.specs.Lines.{is_on_its_link}
use Rattle.run_relays.specs.Elsewhere.{InTunnel, IsElsewhere}
use Rattle.run_relays.specs.Kept.{AreSmall}
use Rattle.run_relays.specs.Lines.{goes_up, goes_up_on_link, is_up}
use Rattle.run_relays.proofs.Claimed.{HoldsFrom}
use Rattle.run_relays.proofs.Elsewhere.{LineIn}
use Rattle.run_relays.proofs.Pasts.{Becomes}
use Rattle.run_relays.proofs.Protecting.{if_true, relayed}
use Rattle.run_relays.proofs.Views.{other_numbered, up_is_viewed}

-- a tunnel does not end at the terminal
tunnel_ends : (k : Class) (x y : Node) → joins k x y ≡ true → is_class Tun (record { from = x; to = y; class = k }) ≡ true → is_same_node y T ≡ false
tunnel_ends k x M join class = refl
tunnel_ends k x A join class = refl
tunnel_ends k x B join class = refl
tunnel_ends Tun A T join class = absurd (let bad : false ≡ true = join in cc)
tunnel_ends Tun B T join class = absurd (let bad : false ≡ true = join in cc)
tunnel_ends Tun M T join class = absurd (let bad : false ≡ true = join in cc)
tunnel_ends Tun T T join class = absurd (let bad : false ≡ true = join in cc)
tunnel_ends Ctl x T join class = absurd (let bad : false ≡ true = class in cc)
tunnel_ends Feed x T join class = absurd (let bad : false ≡ true = class in cc)
tunnel_ends Air x T join class = absurd (let bad : false ≡ true = class in cc)

-- ---- a relayed PDU

-- the test of what goes up, by the PDU that a flight carries
abbrev pub test_by : Past → LinkId → Option Pdu → Bool
test_by q k o = is_none_or (λ (u : Pdu). not (is_none u.num) || is_same_node k.from T || is_up (direction_of q k u)) (if_data o)

module _ (p q : Past) (k : LinkId) (id g : ℕ) (tag : Option ℕ) (pdu : List ℕ) (becomes : Becomes p q) (small : AreSmall (reading (seen p))) (elsewhere : IsElsewhere (reading (seen p)) k id g) where
  by_control : is_data pdu ≡ false → test_by q k (pdu_in tag (packet_of (up_packet g id pdu))) ≡ true
  by_control no' = let n = number4 (drop 4 (up_packet g id pdu)) in by (teid_id n) (teid_gen n) (is_same_octets (octets_of (uplink (teid_id n) (teid_gen n) pdu)) (up_packet g id pdu))
    where
      by : (i h : ℕ) (b : Bool) → test_by q k (pdu_in tag (if b then Some (uplink i h pdu) else None)) ≡ true
      by i h true = rw no' refl
      by i h false = refl

  by_setting : (s : Setting) → is_same_node k.to T ≡ false → is_same_node k.from (anchor_in s) ≡ false → (is_same_node k.from T || is_up (direction_with k (Some s))) ≡ true
  by_setting s to apart = elim (cases_Bool (is_same_node k.from T)) [ inl from ↦ rw from refl | inr other ↦ rw (other, to, apart) refl ]

  by_data : is_same_node k.to T ≡ false → is_data pdu ≡ true → test_by q k (pdu_in tag (packet_of (up_packet g id pdu))) ≡ true
  by_data to yes' =
      let in_range = small id g elsewhere.set elsewhere.in_plan in
      let u = relayed id g tag pdu in
      let now = becomes.grows.settings id g elsewhere.set elsewhere.in_plan in
      ap (λ o. test_by q k (pdu_in tag o)) (up_is_viewed g id pdu in_range.0 in_range.1 in_range.2)
      ∙ ap (λ b. is_none_or (λ (v : Pdu). not (is_none v.num) || is_same_node k.from T || is_up (direction_of q k v)) (if b then Some u else None)) yes'
      ∙ ap (λ o. is_same_node k.from T || is_up (direction_with k o)) now ∙ by_setting elsewhere.set to elsewhere.apart

  relay_goes : is_same_node k.to T ≡ false → test_by q k (pdu_in tag (packet_of (up_packet g id pdu))) ≡ true
  relay_goes to = elim (cases_Bool (is_data pdu)) [ inl yes' ↦ by_data to yes' | inr no' ↦ by_control no' ]

-- ---- any line

numbered_goes : (q : Past) (k : LinkId) (o : Option Pdu) → is_some_and (λ (v : Pdu). is_none v.num) o ≡ false → test_by q k o ≡ true
numbered_goes q k None none = refl
numbered_goes q k (Some v) none = by (is_data v.octets)
  where
    by : (b : Bool) → is_none_or (λ (u : Pdu). not (is_none u.num) || is_same_node k.from T || is_up (direction_of q k u)) (if b then Some v else None) ≡ true
    by true = rw none refl
    by false = refl

on_link_ends : (k : LinkId) (tag : Option ℕ) (packet : List ℕ) → is_on_its_link (line.Send k (flight.Tun tag packet)) ≡ true → is_same_node k.to T ≡ false
on_link_ends k tag packet on = let both = and_parts (is_link k) (is_class Tun k) on in tunnel_ends k.class k.from k.to both.0 both.1

if_on : (b x : Bool) → (b ≡ true → x ≡ true) → (if b then x else true) ≡ true
if_on true x is = is refl
if_on false x is = refl

tunnel_goes : (p q : Past) (k : LinkId) (tag : Option ℕ) (packet : List ℕ) → Becomes p q → AreSmall (reading (seen p)) → InTunnel (reading (seen p)) k (flight.Tun tag packet) → is_same_node k.to T ≡ false
    → test_by q k (pdu_in tag (packet_of packet)) ≡ true
tunnel_goes p q k tag packet becomes small (inl other) to = numbered_goes q k (pdu_in tag (packet_of packet)) (other_numbered tag packet other)
tunnel_goes p q k tag packet becomes small (inr x) to =
    subst (λ o. test_by q k (pdu_in tag (packet_of o)) ≡ true) (sym x.is) (relay_goes p q k x.id x.g tag x.pdu becomes small x.elsewhere to)

-- a line of which this is so
pub line_goes : (p : Past) (x : Line) → AreSmall (reading (seen p)) → LineIn (reading (seen p)) x → HoldsFrom goes_up_on_link p x
line_goes p (line.Send k (flight.Tun tag packet)) small is = λ q becomes same.
    if_on (is_on_its_link (line.Send k (flight.Tun tag packet))) (goes_up q (line.Send k (flight.Tun tag packet))) (λ on. tunnel_goes p q k tag packet becomes small is (on_link_ends k tag packet on))
line_goes p (line.Send k (flight.Air id g num tag pdu)) small is = λ q becomes same.
    if_true (is_on_its_link (line.Send k (flight.Air id g num tag pdu))) (goes_up q (line.Send k (flight.Air id g num tag pdu))) (numbered_goes q k (pdu_of (flight.Air id g num tag pdu)) refl)
line_goes p (line.Send k (flight.Ack id g num)) small is = λ q becomes same. if_true (is_on_its_link (line.Send k (flight.Ack id g num))) true refl
line_goes p (line.Send k (flight.Sdu id g sdu)) small is = λ q becomes same. if_true (is_on_its_link (line.Send k (flight.Sdu id g sdu))) true refl
line_goes p (line.Send k (flight.End id g)) small is = λ q becomes same. if_true (is_on_its_link (line.Send k (flight.End id g))) true refl
line_goes p (line.Send k (flight.Told id g count)) small is = λ q becomes same. if_true (is_on_its_link (line.Send k (flight.Told id g count))) true refl
line_goes p (line.Send k (flight.Ctl r)) small is = λ q becomes same. if_true (is_on_its_link (line.Send k (flight.Ctl r))) true refl
line_goes p (line.Note n) small is = λ q becomes same. refl
line_goes p (line.Event e) small is = λ q becomes same. refl
line_goes p (line.Answer a) small is = λ q becomes same. refl
