-- What an anchor sends as something comes to it, and as it adopts, begins at its node.
use Rattle.std.proofs.Common.{ℕ, ◌≡◌, Bool, true, false, List, [], ◌∷◌, Option, Some, None, refl, subst, ◌∙◌}
use Rattle.std.specs.Prelude.{Err, Ok, Result, is_none, ◌&&◌}
use Rattle.dc_base.specs.declared.flights.Flight.{Flight}
use Rattle.dc_base.specs.declared.flights.Flight.TheVariants as flight
use Rattle.dc_base.specs.declared.nodes.Cell.{Cell}
use Rattle.dc_base.specs.declared.nodes.Dir.{Dir}
use Rattle.dc_base.specs.declared.nodes.Dir.TheVariants.{Dl, Ul}
use Rattle.dc_base.specs.declared.records.StatusTransfer.{StatusTransfer}
use Rattle.forward.specs.Forwarded.{whole}
use Rattle.forward.specs.Load.{Load, Sdu}
use Rattle.nr_u.specs.Tunnel.Verdicts.{again_of}
use Rattle.nr_u.specs.declared.frame.Frame.{Frame}
use Rattle.pdcp_pdu.specs.Pdu.{Content, decoded, report, sdu}
use Rattle.pdcp_pdu.specs.declared.pdu.PduErr.{PduErr}
use Rattle.pdcp_tx.specs.Sender.{low}
use Rattle.split_leg.specs.Legs.{acked_count, leg_at, with_ack, with_leg}
use Rattle.transcript.proofs.OnEach.{each_append}
use Rattle.node_rules.specs.Adopting.{adopts, adopts_with, forward_in, settled, status_in, taken_over, with_load}
use Rattle.node_rules.specs.Anchor.{Active, AnchorState, Waiting, active_anchor, new_tunnel, setup_at, silent, waiting_anchor}
use Rattle.node_rules.specs.AnchorReceiving.{ack, acked, air_ack, air_in, air_pdu, ascending, delivery_in, is_from_host, is_on_leg, packet_in, pdu_in, relayed_pdu, stepped, tunnel_in, with_confirm, with_delivery}
use Rattle.node_rules.specs.Choices.{Choices, Send}
use Rattle.node_rules.specs.Entity.{Entity, confirmed_count, take_pdu, take_pdus}
use Rattle.node_rules.specs.Packets.{Packet, delivery, forwarding, nothing, packet_of, pdu_down, pdu_up}
use Rattle.node_rules.specs.Setup.{Setup, anchor_cell, has_failed, is_of}
use Rattle.node_rules.specs.declared.bearers.AnchorOut.{AnchorOut}
use Rattle.run_control.proofs.Sent.{either}
use Rattle.run_words.specs.Senders.{AreBy, IsBy}
use Rattle.run_senders.specs.Holders.{Stays}
use Rattle.run_senders.proofs.Anchors.{open_if_serves, sends_serves}

-- nothing comes of it
idle : (s : AnchorState) → Stays s (s, silent)
idle s = record { node = refl; by = tt }

-- ---- PDUs

pdu_node : (e : Entity) (x : Content) → (take_pdu e x).0.setup.node ≡ e.setup.node
pdu_node e (sdu s body) = refl
pdu_node e (report fmc bits) = refl

pdus_node : (e : Entity) (xs : List Content) → (take_pdus e xs).0.setup.node ≡ e.setup.node
pdus_node e [] = refl
pdus_node e (x ∷ xs) = pdus_node (take_pdu e x).0 xs ∙ pdu_node e x

-- a step of the entity sends nothing
by_step : (a : Active) (done : Entity × List (ℕ × List ℕ)) → done.0.setup.node ≡ a.entity.setup.node → Stays (active_anchor a) (stepped a done)
by_step a done same = record { node = same; by = tt }

by_pdu : (s : AnchorState) (x : Content) → Stays s (pdu_in s x)
by_pdu (waiting_anchor w) x = record { node = refl; by = tt }
by_pdu (active_anchor a) x = by_step a (take_pdu a.entity x) (pdu_node a.entity x)

-- ---- on the leg of the anchor's own node

by_ack : (s : Setup) (num : ℕ) (failed : Bool) → AreBy s.node (ack s num failed)
by_ack s num true = tt
by_ack s num false = ((refl, refl), tt)

by_confirm : (s : AnchorState) (acks : List Send) (done : AnchorState × AnchorOut) → AreBy (setup_at s).node acks → Stays s done → Stays s (with_confirm acks done)
by_confirm s acks done mine is = record { node = is.node; by = each_append (IsBy (setup_at s).node) acks done.1.sends mine is.by }

by_air_pdu : (s : AnchorState) (num : ℕ) (r : Result Content PduErr) → Stays s (air_pdu s num r)
by_air_pdu s num (Err e) = idle s
by_air_pdu s num (Ok x) =
    let failed = has_failed (setup_at s) (anchor_cell (setup_at s).legs.shape) in
    by_confirm s (ack (setup_at s) num failed) (pdu_in s x) (by_ack (setup_at s) num failed) (by_pdu s x)

confirmed_node : (e : Entity) (o : Option ℕ) → (confirmed_count e o).setup.node ≡ e.setup.node
confirmed_node e None = refl
confirmed_node e (Some count) = refl

acked_node : (e : Entity) (cell : Cell) (num : ℕ) → (acked e cell num).setup.node ≡ e.setup.node
acked_node e cell num =
    let leg = leg_at e.setup.legs cell in
    confirmed_node (record e { setup = record e.setup { legs = with_leg e.setup.legs cell (with_ack leg num) } }) (acked_count leg.pdus num)

by_air_ack : (s : AnchorState) (num : ℕ) → Stays s (air_ack s num)
by_air_ack (waiting_anchor w) num = idle (waiting_anchor w)
by_air_ack (active_anchor a) num =
    let cell = anchor_cell a.entity.setup.legs.shape in
    by_step a (acked a.entity cell num, []) (acked_node a.entity cell num)

-- a flight over the air
pub air_stays : (s : AnchorState) (cell : Cell) (f : Flight) → Stays s (air_in s cell f)
air_stays s cell (flight.Air id g num tag pdu) =
    either (Stays s) (is_on_leg (setup_at s) cell id g) (air_pdu s num (decoded (setup_at s).n pdu)) (s, silent) (by_air_pdu s num (decoded (setup_at s).n pdu)) (idle s)
air_stays s cell (flight.Ack id g num) = either (Stays s) (is_on_leg (setup_at s) cell id g) (air_ack s num) (s, silent) (by_air_ack s num) (idle s)
air_stays s cell (flight.Tun tag packet) = idle s
air_stays s cell (flight.Sdu id g payload) = idle s
air_stays s cell (flight.End id g) = idle s
air_stays s cell (flight.Told id g count) = idle s
air_stays s cell (flight.Ctl r) = idle s

-- ---- the adoption

by_adoption : (c : Choices) (w : Waiting) (e : Entity) → e.setup.node ≡ w.setup.node → Stays (waiting_anchor w) (adopts c w e)
by_adoption c w e same =
    let up = take_pdus e w.pdus in
    let a : Active = record { entity = up.0; is_open = false; tunnel = new_tunnel w.setup.n } in
    let is = open_if_serves c a w.is_told in
    let there = pdus_node e w.pdus ∙ same in
    record { node = is.node ∙ there; by = subst (λ x. AreBy x (adopts c w e).1.sends) there is.by }

settled_by : (c : Choices) (w : Waiting) (t : Option StatusTransfer) (down up : Option (List Sdu)) → Stays (waiting_anchor w) (adopts_with c w t down up)
settled_by c w None down up = idle (waiting_anchor w)
settled_by c w (Some st) None up = idle (waiting_anchor w)
settled_by c w (Some st) (Some down) None = idle (waiting_anchor w)
settled_by c w (Some st) (Some down) (Some up) = by_adoption c w (taken_over w st down up) refl

by_settled : (c : Choices) (w : Waiting) → Stays (waiting_anchor w) (settled c w)
by_settled c w = settled_by c w w.transfer (whole w.down) (whole w.up)

-- of an anchor that was set up at the same node
as_before : (s t : AnchorState) (done : AnchorState × AnchorOut) → (setup_at t).node ≡ (setup_at s).node → Stays t done → Stays s done
as_before s t done same is = record { node = is.node ∙ same; by = subst (λ x. AreBy x done.1.sends) same is.by }

load_node : (w : Waiting) (d : Dir) (load : Load) → (with_load w d load).setup.node ≡ w.setup.node
load_node w Dl load = refl
load_node w Ul load = refl

by_forward : (c : Choices) (s : AnchorState) (d : Dir) (load : Load) → Stays s (forward_in c s d load)
by_forward c (waiting_anchor w) d load =
    as_before (waiting_anchor w) (waiting_anchor (with_load w d load)) (settled c (with_load w d load)) (load_node w d load) (by_settled c (with_load w d load))
by_forward c (active_anchor a) d load = idle (active_anchor a)

-- ---- through a tunnel

by_relayed : (s : AnchorState) (r : Result Content PduErr) → Stays s (relayed_pdu s r)
by_relayed s (Err e) = idle s
by_relayed s (Ok x) = by_pdu s x

by_delivery : (c : Choices) (s : AnchorState) (status : Frame) → Stays s (delivery_in c s status)
by_delivery c (waiting_anchor w) status = idle (waiting_anchor w)
by_delivery c (active_anchor a) status =
    let is = sends_serves c (with_delivery a status) (ascending (again_of a.tunnel (low a.entity.tx) status)) in record { node = is.node; by = is.by }

by_packet : (c : Choices) (s : AnchorState) (p : Packet) → Stays s (packet_in c s p)
by_packet c s (pdu_down id g number repeat pdu) = idle s
by_packet c s (pdu_up id g pdu) =
    either (Stays s) (is_from_host (setup_at s) id g) (relayed_pdu s (decoded (setup_at s).n pdu)) (s, silent) (by_relayed s (decoded (setup_at s).n pdu)) (idle s)
by_packet c s (delivery id g status) = either (Stays s) (is_from_host (setup_at s) id g) (delivery_in c s status) (s, silent) (by_delivery c s status) (idle s)
by_packet c s (forwarding id g d load) = either (Stays s) (is_of (setup_at s) id g) (forward_in c s d load) (s, silent) (by_forward c s d load) (idle s)
by_packet c s nothing = idle s

-- a flight through a tunnel
pub tunnel_stays : (c : Choices) (s : AnchorState) (f : Flight) → Stays s (tunnel_in c s f)
tunnel_stays c s (flight.Tun tag packet) = by_packet c s (packet_of packet)
tunnel_stays c s (flight.Air id g num tag pdu) = idle s
tunnel_stays c s (flight.Ack id g num) = idle s
tunnel_stays c s (flight.Sdu id g payload) = idle s
tunnel_stays c s (flight.End id g) = idle s
tunnel_stays c s (flight.Told id g count) = idle s
tunnel_stays c s (flight.Ctl r) = idle s

-- ---- the status transfer

pub status_stays : (c : Choices) (s : AnchorState) (st : StatusTransfer) → Stays s (status_in c s st)
status_stays c (waiting_anchor w) st =
    either (Stays (waiting_anchor w)) (is_of w.setup st.id st.g && is_none w.transfer) (settled c (record w { transfer = Some st })) (waiting_anchor w, silent)
    (as_before (waiting_anchor w) (waiting_anchor (record w { transfer = Some st })) (settled c (record w { transfer = Some st })) refl (by_settled c (record w { transfer = Some st })))
    (idle (waiting_anchor w))
status_stays c (active_anchor a) st = idle (active_anchor a)
