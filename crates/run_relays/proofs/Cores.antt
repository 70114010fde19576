-- What an anchor or a leg host is set up with stays at each step of its traffic.
use Rattle.std.proofs.Common.{ℕ, ◌≡◌, Bool, true, false, List, [], ◌∷◌, Option, Some, None, refl, ap, ◌∙◌}
use Rattle.std.specs.Prelude.{Err, Ok, Result, filter, fold, is_none, not, slice_get, ◌&&◌, ◌+◌, ◌==◌}
use Rattle.std.specs.List.{filter_map}
use Rattle.dc_base.specs.declared.flights.Flight.{Flight}
use Rattle.dc_base.specs.declared.flights.Flight.TheVariants as flight
use Rattle.dc_base.specs.declared.nodes.Cell.{Cell}
use Rattle.dc_base.specs.declared.nodes.Dir.{Dir}
use Rattle.dc_base.specs.declared.nodes.Dir.TheVariants.{Dl, Ul}
use Rattle.dc_base.specs.declared.records.StatusTransfer.{StatusTransfer}
use Rattle.forward.specs.Forwarded.{whole}
use Rattle.forward.specs.Load.{Load, Sdu}
use Rattle.nr_u.specs.Tunnel.Incoming.{contains, has}
use Rattle.nr_u.specs.Tunnel.Verdicts.{again_of, confirmed_of}
use Rattle.nr_u.specs.declared.frame.Frame.{Frame}
use Rattle.pdcp_pdu.specs.Pdu.{Content, decoded, report, sdu}
use Rattle.pdcp_pdu.specs.declared.pdu.PduErr.{PduErr}
use Rattle.pdcp_pdu.specs.Bitmap.{names}
use Rattle.pdcp_tx.specs.Sender.{Sender, counts, low}
use Rattle.pdcp_tx.specs.Sending.{give_numbers, take_sdu}
use Rattle.pdcp_tx.specs.declared.tx.TxErr.{TxErr}
use Rattle.split_leg.specs.Legs.{LegsState, acked_count, leg_at, settled_on_both, with_ack, with_leg}
use Rattle.node_rules.specs.Adopting.{adopts_with, forward_in, settled, status_in, taken_over, with_load}
use Rattle.node_rules.specs.Anchor.{Active, AnchorState, Waiting, active_anchor, new_tunnel, setup_at, silent, waiting_anchor}
use Rattle.node_rules.specs.AnchorReceiving.{acked, air_ack, air_in, air_pdu, ascending, delivery_in, is_from_host, is_on_leg, packet_in, pdu_in, relayed_pdu, tunnel_in, with_delivery}
use Rattle.node_rules.specs.AnchorSending.{anchor_recovers, anchor_sends, fail_scg, open_if, opens, recover, recover_at, report as sends_report, report_at, submit, submit_as, submit_at, unlock, with_failure, with_numbers, with_tx}
use Rattle.node_rules.specs.Choices.{Choices, Send}
use Rattle.node_rules.specs.Entity.{Entity, confirmed_count, confirmed_where, take_pdu, take_pdus}
use Rattle.node_rules.specs.Host.{Host}
use Rattle.node_rules.specs.HostRules.{confirmed, host_air_in, host_packet, host_tunnel_in, is_hosts, pdu_came, put_on_leg, sn_in, to_anchor, to_terminal}
use Rattle.node_rules.specs.Packets.{Packet, delivery, forwarding, nothing, packet_of, pdu_down, pdu_up, up_packet}
use Rattle.node_rules.specs.Sending.{Pdu, pdu_at, send_each, sends}
use Rattle.node_rules.specs.declared.bearers.AnchorOut.{AnchorOut}
use Rattle.pdcp_pdu.specs.StatusReport.{report_pdu}
use Rattle.pdcp_rx.specs.Entries.{counts_of}
use Rattle.node_rules.specs.Setup.{Setup, anchor_cell, is_of}
use Rattle.run_control.proofs.Sent.{either}
use Rattle.run_uplinks.proofs.Legs.{send_each_same, settled_same, with_ack_same}
use Rattle.run_relays.specs.Setups.{core, host_core}

-- ---- an entity

-- where the legs have the same shape
with_legs : (s : Setup) (legs : LegsState) → legs.shape ≡ s.legs.shape → core (record s { legs = legs }) ≡ core s
with_legs s legs same = ap (λ x. record (core s) { shape = x }) same

-- a step of an active anchor leaves it so
abbrev Serves : Active → Active × List Send → Type 0
Serves a done = core done.0.entity.setup ≡ core a.entity.setup

entity_sends : (c : Choices) (e : Entity) (pdus : List Pdu) → core (sends c e pdus).0.setup ≡ core e.setup
entity_sends c e pdus = with_legs e.setup (send_each c pdus e.setup.legs).0 (send_each_same c pdus e.setup.legs).shape

counts_serve : (c : Choices) (a : Active) (cs : List ℕ) → Serves a (anchor_sends c a cs)
counts_serve c a cs = entity_sends c a.entity (filter_map (pdu_at a.entity) cs)

recovery_serves : (c : Choices) (a : Active) → Serves a (anchor_recovers c a)
recovery_serves c a = entity_sends c a.entity (filter_map (pdu_at a.entity) (counts a.entity.tx.kept))

submission_serves : (c : Choices) (a : Active) (payload : List ℕ) (r : Result (Sender × ℕ) TxErr) → Serves a (submit_as c a payload r)
submission_serves c a payload (Ok x) = counts_serve c (with_tx a x.0) (x.1 ∷ [])
submission_serves c a payload (Err e) = refl

submit_serves : (is : Bool) (c : Choices) (a : Active) (payload : List ℕ) → Serves a (submit_at is c a payload)
submit_serves true c a payload = submission_serves c a payload (take_sdu a.entity.tx payload)
submit_serves false c a payload = refl

numbers_serve : (c : Choices) (a : Active) (r : Result (Sender × List ℕ) TxErr) → Serves a (with_numbers c a r)
numbers_serve c a (Ok x) = counts_serve c (with_tx a x.0) x.1
numbers_serve c a (Err e) = refl

opening_serves : (c : Choices) (a : Active) → Serves a (opens c a)
opening_serves c a =
    let again = anchor_recovers c (record a { is_open = true }) in numbers_serve c again.0 (give_numbers again.0.entity.tx) ∙ recovery_serves c (record a { is_open = true })

open_if_serves : (is : Bool) (c : Choices) (a : Active) → Serves a (open_if is c a)
open_if_serves true c a = opening_serves c a
open_if_serves false c a = refl

recover_serves : (is : Bool) (c : Choices) (a : Active) → Serves a (recover_at is c a)
recover_serves true c a = recovery_serves c a
recover_serves false c a = refl

report_serves : (is : Bool) (c : Choices) (a : Active) → Serves a (report_at is c a)
report_serves true c a = entity_sends c a.entity ((None, report_pdu a.entity.rx.deliv (counts_of a.entity.rx.stored)) ∷ [])
report_serves false c a = refl

-- ---- an anchor

-- a step of an anchor leaves it so
abbrev pub KeepsCore : AnchorState → AnchorState × AnchorOut → Type 0
KeepsCore s done = core (setup_at done.0) ≡ core (setup_at s)

pub submit_core : (c : Choices) (s : AnchorState) (payload : List ℕ) → KeepsCore s (submit c s payload)
submit_core c (waiting_anchor w) payload = refl
submit_core c (active_anchor a) payload = submit_serves a.is_open c a payload

pub unlock_core : (c : Choices) (s : AnchorState) → KeepsCore s (unlock c s)
unlock_core c (waiting_anchor w) = refl
unlock_core c (active_anchor a) = open_if_serves (not a.is_open) c a

pub recover_core : (c : Choices) (s : AnchorState) → KeepsCore s (recover c s)
recover_core c (waiting_anchor w) = refl
recover_core c (active_anchor a) = recover_serves a.is_open c a

pub fail_core : (c : Choices) (s : AnchorState) → KeepsCore s (fail_scg c s)
fail_core c (waiting_anchor w) = refl
fail_core c (active_anchor a) = recover_serves a.is_open c (record a { entity = with_failure a.entity })

pub report_core : (c : Choices) (s : AnchorState) → KeepsCore s (sends_report c s)
report_core c (waiting_anchor w) = refl
report_core c (active_anchor a) = report_serves a.is_open c a

-- ---- what comes to it

confirmed_core : (test : ℕ → Bool) (e : Entity) → core (confirmed_where test e).setup ≡ core e.setup
confirmed_core test e = with_legs e.setup (fold (λ legs c. settled_on_both c (c + 1) legs) e.setup.legs (filter test (counts e.tx.kept))) (settled_same (filter test (counts e.tx.kept)) e.setup.legs).shape

count_core : (e : Entity) (o : Option ℕ) → core (confirmed_count e o).setup ≡ core e.setup
count_core e None = refl
count_core e (Some count) = confirmed_core (λ c. c == count) e

taken : (e : Entity) (x : Content) → core (take_pdu e x).0.setup ≡ core e.setup
taken e (sdu s body) = refl
taken e (report fmc bits) = confirmed_core (names fmc bits) e

all_taken : (e : Entity) (xs : List Content) → core (take_pdus e xs).0.setup ≡ core e.setup
all_taken e [] = refl
all_taken e (x ∷ xs) = all_taken (take_pdu e x).0 xs ∙ taken e x

pdu_core : (s : AnchorState) (x : Content) → KeepsCore s (pdu_in s x)
pdu_core (waiting_anchor w) x = refl
pdu_core (active_anchor a) x = taken a.entity x

air_pdu_core : (s : AnchorState) (num : ℕ) (r : Result Content PduErr) → KeepsCore s (air_pdu s num r)
air_pdu_core s num (Err e) = refl
air_pdu_core s num (Ok x) = pdu_core s x

acked_core : (e : Entity) (cell : Cell) (num : ℕ) → core (acked e cell num).setup ≡ core e.setup
acked_core e cell num =
    let leg = leg_at e.setup.legs cell in
    let legs = with_leg e.setup.legs cell (with_ack leg num) in
    count_core (record e { setup = record e.setup { legs = legs } }) (acked_count leg.pdus num) ∙ with_legs e.setup legs (with_ack_same cell num e.setup.legs).shape

ack_core : (s : AnchorState) (num : ℕ) → KeepsCore s (air_ack s num)
ack_core (waiting_anchor w) num = refl
ack_core (active_anchor a) num = acked_core a.entity (anchor_cell a.entity.setup.legs.shape) num

-- over the air
pub air_core : (s : AnchorState) (cell : Cell) (f : Flight) → KeepsCore s (air_in s cell f)
air_core s cell (flight.Air id g num tag pdu) = either (KeepsCore s) (is_on_leg (setup_at s) cell id g) (air_pdu s num (decoded (setup_at s).n pdu)) (s, silent) (air_pdu_core s num (decoded (setup_at s).n pdu)) refl
air_core s cell (flight.Ack id g num) = either (KeepsCore s) (is_on_leg (setup_at s) cell id g) (air_ack s num) (s, silent) (ack_core s num) refl
air_core s cell (flight.Tun tag packet) = refl
air_core s cell (flight.Sdu id g payload) = refl
air_core s cell (flight.End id g) = refl
air_core s cell (flight.Told id g count) = refl
air_core s cell (flight.Ctl r) = refl

adoption_core : (c : Choices) (w : Waiting) (st : Option StatusTransfer) (down up : Option (List Sdu)) → KeepsCore (waiting_anchor w) (adopts_with c w st down up)
adoption_core c w None down up = refl
adoption_core c w (Some st) None up = refl
adoption_core c w (Some st) (Some down) None = refl
adoption_core c w (Some st) (Some down) (Some up) =
    let e = taken_over w st down up in
    let a : Active = record { entity = (take_pdus e w.pdus).0; is_open = false; tunnel = new_tunnel w.setup.n } in
    open_if_serves w.is_told c a ∙ all_taken e w.pdus

settled_core : (c : Choices) (w : Waiting) → KeepsCore (waiting_anchor w) (settled c w)
settled_core c w = adoption_core c w w.transfer (whole w.down) (whole w.up)

pub status_core : (c : Choices) (s : AnchorState) (st : StatusTransfer) → KeepsCore s (status_in c s st)
status_core c (waiting_anchor w) st =
    either (KeepsCore (waiting_anchor w)) (is_of w.setup st.id st.g && is_none w.transfer) (settled c (record w { transfer = Some st })) (waiting_anchor w, silent) (settled_core c (record w { transfer = Some st })) refl
status_core c (active_anchor a) st = refl

forward_core : (c : Choices) (s : AnchorState) (d : Dir) (load : Load) → KeepsCore s (forward_in c s d load)
forward_core c (waiting_anchor w) Dl load = settled_core c (with_load w Dl load)
forward_core c (waiting_anchor w) Ul load = settled_core c (with_load w Ul load)
forward_core c (active_anchor a) d load = refl

relayed_core : (s : AnchorState) (r : Result Content PduErr) → KeepsCore s (relayed_pdu s r)
relayed_core s (Err e) = refl
relayed_core s (Ok x) = pdu_core s x

delivery_core : (c : Choices) (s : AnchorState) (status : Frame) → KeepsCore s (delivery_in c s status)
delivery_core c (waiting_anchor w) status = refl
delivery_core c (active_anchor a) status =
    counts_serve c (with_delivery a status) (ascending (again_of a.tunnel (low a.entity.tx) status)) ∙ confirmed_core (λ x. contains x (confirmed_of a.tunnel (low a.entity.tx) status)) a.entity

packet_core : (c : Choices) (s : AnchorState) (p : Packet) → KeepsCore s (packet_in c s p)
packet_core c s (pdu_down id g number repeat pdu) = refl
packet_core c s (pdu_up id g pdu) = either (KeepsCore s) (is_from_host (setup_at s) id g) (relayed_pdu s (decoded (setup_at s).n pdu)) (s, silent) (relayed_core s (decoded (setup_at s).n pdu)) refl
packet_core c s (delivery id g status) = either (KeepsCore s) (is_from_host (setup_at s) id g) (delivery_in c s status) (s, silent) (delivery_core c s status) refl
packet_core c s (forwarding id g d load) = either (KeepsCore s) (is_of (setup_at s) id g) (forward_in c s d load) (s, silent) (forward_core c s d load) refl
packet_core c s nothing = refl

-- through a tunnel
pub tunnel_core : (c : Choices) (s : AnchorState) (f : Flight) → KeepsCore s (tunnel_in c s f)
tunnel_core c s (flight.Tun tag packet) = packet_core c s (packet_of packet)
tunnel_core c s (flight.Air id g num tag pdu) = refl
tunnel_core c s (flight.Ack id g num) = refl
tunnel_core c s (flight.Sdu id g payload) = refl
tunnel_core c s (flight.End id g) = refl
tunnel_core c s (flight.Told id g count) = refl
tunnel_core c s (flight.Ctl r) = refl

-- ---- a leg host

-- a step of a host leaves it so
abbrev pub KeepsHost : Host → Host × List Send → Type 0
KeepsHost h done = host_core done.0 ≡ host_core h

confirm_core : (h : Host) (o : Option ℕ) → KeepsHost h (confirmed h o)
confirm_core h None = refl
confirm_core h (Some number) = refl

pub host_air_core : (h : Host) (f : Flight) → KeepsHost h (host_air_in h f)
host_air_core h (flight.Air id g num tag pdu) = either (KeepsHost h) (is_hosts h id g) (h, to_terminal h (flight.Ack id g num) ∷ to_anchor h tag (up_packet g id pdu) ∷ []) (h, []) refl refl
host_air_core h (flight.Ack id g num) = either (KeepsHost h) (is_hosts h id g) (confirmed h (slice_get h.carried num)) (h, []) (confirm_core h (slice_get h.carried num)) refl
host_air_core h (flight.Tun tag packet) = refl
host_air_core h (flight.Sdu id g payload) = refl
host_air_core h (flight.End id g) = refl
host_air_core h (flight.Told id g count) = refl
host_air_core h (flight.Ctl r) = refl

put_core : (h : Host) (number : ℕ) (repeat : Bool) (tag : Option ℕ) (pdu : List ℕ) (r : Result Content PduErr) → KeepsHost h (pdu_came h number repeat tag pdu r)
put_core h number repeat tag pdu (Err e) = refl
put_core h number repeat tag pdu (Ok x) = either (KeepsHost h) (has number h.tunnel.came) (h, []) (put_on_leg h number repeat tag pdu (sn_in x)) refl refl

host_packet_core : (h : Host) (tag : Option ℕ) (p : Packet) → KeepsHost h (host_packet h tag p)
host_packet_core h tag (pdu_down id g number repeat pdu) =
    either (KeepsHost h) (is_hosts h id g) (pdu_came h number repeat tag pdu (decoded h.tunnel.n pdu)) (h, []) (put_core h number repeat tag pdu (decoded h.tunnel.n pdu)) refl
host_packet_core h tag (pdu_up id g pdu) = refl
host_packet_core h tag (delivery id g status) = refl
host_packet_core h tag (forwarding id g d load) = refl
host_packet_core h tag nothing = refl

pub host_tunnel_core : (h : Host) (f : Flight) → KeepsHost h (host_tunnel_in h f)
host_tunnel_core h (flight.Tun tag packet) = host_packet_core h tag (packet_of packet)
host_tunnel_core h (flight.Air id g num tag pdu) = refl
host_tunnel_core h (flight.Ack id g num) = refl
host_tunnel_core h (flight.Sdu id g payload) = refl
host_tunnel_core h (flight.End id g) = refl
host_tunnel_core h (flight.Told id g count) = refl
host_tunnel_core h (flight.Ctl r) = refl
