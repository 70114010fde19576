-- What comes to an anchor, and its adoption.
use Rattle.std.proofs.Common.{ℕ, ◌≡◌, Bool, true, false, List, [], ◌∷◌, Option, Some, None, refl, sym, ap, ◌∙◌}
use Rattle.std.specs.Prelude.{Err, Ok, Result, if◌then◌else◌, is_none, ◌&&◌}
use Rattle.dc_base.specs.declared.flights.Flight.{Flight}
use Rattle.dc_base.specs.declared.flights.Flight.TheVariants as flight
use Rattle.dc_base.specs.declared.nodes.Cell.{Cell}
use Rattle.dc_base.specs.declared.nodes.Dir.{Dir}
use Rattle.dc_base.specs.declared.nodes.Dir.TheVariants.{Dl, Ul}
use Rattle.dc_base.specs.declared.records.StatusTransfer.{StatusTransfer}
use Rattle.forward.specs.Load.{Load, Sdu}
use Rattle.forward.specs.Forwarded.{whole}
use Rattle.nr_u.specs.Tunnel.Verdicts.{again_of}
use Rattle.nr_u.specs.declared.frame.Frame.{Frame}
use Rattle.pdcp_pdu.specs.Pdu.{Content, decoded, report, sdu}
use Rattle.pdcp_pdu.specs.declared.pdu.PduErr.{PduErr}
use Rattle.pdcp_tx.specs.Sender.{low}
use Rattle.split_leg.specs.Legs.{acked_count, leg_at, with_ack, with_leg}
use Rattle.node_rules.specs.Adopting.{adopts as adopt, adopts_with, forward_in, settled, status_in, taken_over, with_load}
use Rattle.node_rules.specs.Anchor.{Active, AnchorState, Waiting, active_anchor, new_tunnel, setup_at, silent, waiting_anchor}
use Rattle.node_rules.specs.AnchorReceiving.{ack, acked, air_ack, air_in, air_pdu, ascending, delivery_in, is_from_host, is_on_leg, packet_in, pdu_in, relayed_pdu, stepped, tunnel_in, with_confirm, with_delivery}
use Rattle.node_rules.specs.Choices.{Choices, Send}
use Rattle.node_rules.specs.Entity.{Entity, confirmed_count, take_pdu, take_pdus}
use Rattle.node_rules.specs.Packets.{Packet, delivery, forwarding, nothing, packet_of, pdu_down, pdu_up}
use Rattle.node_rules.specs.Setup.{Setup, anchor_cell, has_failed, is_of}
use Rattle.node_rules.specs.declared.bearers.AnchorOut.{AnchorOut}
use Rattle.run_control.specs.Traffic.{OnStatus, OnTraffic, adopts, adopts_at_once, keeps, notes, passes}
use Rattle.run_control.specs.Views.{View, adopting, bearer_of, controls, has_status, holds, is_awaited, is_lacking, view_of, waits_with}
use Rattle.run_control.proofs.Anchors.{open_if_serves, sends_serves, view_is}
use Rattle.run_control.proofs.Sent.{either, none_in_both}

-- nothing comes of it
pub stays_so : (s : AnchorState) → OnTraffic s (s, silent)
stays_so s = keeps refl refl refl

-- ---- PDUs

pub pdu_bearer : (e : Entity) (x : Content) → bearer_of (take_pdu e x).0.setup ≡ bearer_of e.setup
pdu_bearer e (sdu s body) = refl
pdu_bearer e (report fmc bits) = refl

pdus_bearer : (e : Entity) (xs : List Content) → bearer_of (take_pdus e xs).0.setup ≡ bearer_of e.setup
pdus_bearer e [] = refl
pdus_bearer e (x ∷ xs) = pdus_bearer (take_pdu e x).0 xs ∙ pdu_bearer e x

-- a step of the entity
stepped_keeps : (a : Active) (done : Entity × List (ℕ × List ℕ)) → bearer_of done.0.setup ≡ bearer_of a.entity.setup → OnTraffic (active_anchor a) (stepped a done)
stepped_keeps a done same = keeps refl (view_is holds same refl) refl

pdu_keeps : (s : AnchorState) (x : Content) → OnTraffic s (pdu_in s x)
pdu_keeps (waiting_anchor w) x = keeps refl refl refl
pdu_keeps (active_anchor a) x = stepped_keeps a (take_pdu a.entity x) (pdu_bearer a.entity x)

-- ---- on the leg of the anchor's own node

ack_none : (s : Setup) (num : ℕ) (failed : Bool) → controls (ack s num failed) ≡ []
ack_none s num true = refl
ack_none s num false = refl

confirm_keeps : (s : AnchorState) (acks : List Send) (done : AnchorState × AnchorOut) → controls acks ≡ [] → OnTraffic s done → OnTraffic s (with_confirm acks done)
confirm_keeps s acks done none (keeps stays view sends) = keeps stays view (none_in_both acks done.1.sends none sends)
confirm_keeps s acks done none (adopts adopted had view sends) = adopts adopted had view (none_in_both acks done.1.sends none sends)

air_pdu_keeps : (s : AnchorState) (num : ℕ) (r : Result Content PduErr) → OnTraffic s (air_pdu s num r)
air_pdu_keeps s num (Err e) = stays_so s
air_pdu_keeps s num (Ok x) =
    let failed = has_failed (setup_at s) (anchor_cell (setup_at s).legs.shape) in
    confirm_keeps s (ack (setup_at s) num failed) (pdu_in s x) (ack_none (setup_at s) num failed) (pdu_keeps s x)

confirmed_bearer : (e : Entity) (o : Option ℕ) → bearer_of (confirmed_count e o).setup ≡ bearer_of e.setup
confirmed_bearer e None = refl
confirmed_bearer e (Some count) = refl

acked_bearer : (e : Entity) (cell : Cell) (num : ℕ) → bearer_of (acked e cell num).setup ≡ bearer_of e.setup
acked_bearer e cell num =
    let leg = leg_at e.setup.legs cell in
    confirmed_bearer (record e { setup = record e.setup { legs = with_leg e.setup.legs cell (with_ack leg num) } }) (acked_count leg.pdus num)

air_ack_keeps : (s : AnchorState) (num : ℕ) → OnTraffic s (air_ack s num)
air_ack_keeps (waiting_anchor w) num = stays_so (waiting_anchor w)
air_ack_keeps (active_anchor a) num =
    let cell = anchor_cell a.entity.setup.legs.shape in
    stepped_keeps a (acked a.entity cell num, []) (acked_bearer a.entity cell num)

-- a flight over the air
pub air_keeps : (s : AnchorState) (cell : Cell) (f : Flight) → OnTraffic s (air_in s cell f)
air_keeps s cell (flight.Air id g num tag pdu) =
    either (OnTraffic s) (is_on_leg (setup_at s) cell id g) (air_pdu s num (decoded (setup_at s).n pdu)) (s, silent) (air_pdu_keeps s num (decoded (setup_at s).n pdu)) (stays_so s)
air_keeps s cell (flight.Ack id g num) = either (OnTraffic s) (is_on_leg (setup_at s) cell id g) (air_ack s num) (s, silent) (air_ack_keeps s num) (stays_so s)
air_keeps s cell (flight.Tun tag packet) = stays_so s
air_keeps s cell (flight.Sdu id g payload) = stays_so s
air_keeps s cell (flight.End id g) = stays_so s
air_keeps s cell (flight.Told id g count) = stays_so s
air_keeps s cell (flight.Ctl r) = stays_so s

-- ---- the adoption

-- the anchor that adopts is open if it was told so
adopt_is : (c : Choices) (w : Waiting) (e : Entity) → bearer_of e.setup ≡ bearer_of w.setup → (waits_with w.transfer) ≡ has_status → OnTraffic (waiting_anchor w) (adopt c w e)
adopt_is c w e same had =
    let up = take_pdus e w.pdus in
    let a : Active = record { entity = up.0; is_open = false; tunnel = new_tunnel w.setup.n } in
    let is = open_if_serves c a w.is_told refl in
    adopts refl had (view_is holds (is.bearer ∙ pdus_bearer e w.pdus ∙ same) is.opened) is.sends

-- once all is there
settled_by : (c : Choices) (w : Waiting) (t : Option StatusTransfer) (down up : Option (List Sdu)) → w.transfer ≡ t → OnTraffic (waiting_anchor w) (adopts_with c w t down up)
settled_by c w None down up is = stays_so (waiting_anchor w)
settled_by c w (Some st) None up is = stays_so (waiting_anchor w)
settled_by c w (Some st) (Some down) None is = stays_so (waiting_anchor w)
settled_by c w (Some st) (Some down) (Some up) is = adopt_is c w (taken_over w st down up) refl (ap waits_with is)

settled_is : (c : Choices) (w : Waiting) → OnTraffic (waiting_anchor w) (settled c w)
settled_is c w = settled_by c w w.transfer (whole w.down) (whole w.up) refl

-- what comes out of a forwarding tunnel
as_before : (s s' : AnchorState) (done : AnchorState × AnchorOut) → view_of s' ≡ view_of s → OnTraffic s' done → OnTraffic s done
as_before s s' done same (keeps stays view sends) = keeps stays (view ∙ same) sends
as_before s s' done same (adopts adopted had view sends) = adopts adopted (ap (λ (v : View). v.stage) (sym same) ∙ had) (view ∙ ap adopting same) sends

load_view : (w : Waiting) (d : Dir) (load : Load) → view_of (waiting_anchor (with_load w d load)) ≡ view_of (waiting_anchor w)
load_view w Dl load = refl
load_view w Ul load = refl

forward_is : (c : Choices) (s : AnchorState) (d : Dir) (load : Load) → OnTraffic s (forward_in c s d load)
forward_is c (waiting_anchor w) d load =
    as_before (waiting_anchor w) (waiting_anchor (with_load w d load)) (settled c (with_load w d load)) (load_view w d load) (settled_is c (with_load w d load))
forward_is c (active_anchor a) d load = stays_so (active_anchor a)

-- ---- through a tunnel

relayed_keeps : (s : AnchorState) (r : Result Content PduErr) → OnTraffic s (relayed_pdu s r)
relayed_keeps s (Err e) = stays_so s
relayed_keeps s (Ok x) = pdu_keeps s x

delivery_keeps : (c : Choices) (s : AnchorState) (status : Frame) → OnTraffic s (delivery_in c s status)
delivery_keeps c (waiting_anchor w) status = stays_so (waiting_anchor w)
delivery_keeps c (active_anchor a) status =
    let cs = ascending (again_of a.tunnel (low a.entity.tx) status) in
    let is = sends_serves c (with_delivery a status) cs in
    keeps refl (view_is holds is.bearer is.opened) is.sends

packet_is : (c : Choices) (s : AnchorState) (p : Packet) → OnTraffic s (packet_in c s p)
packet_is c s (pdu_down id g number repeat pdu) = stays_so s
packet_is c s (pdu_up id g pdu) =
    either (OnTraffic s) (is_from_host (setup_at s) id g) (relayed_pdu s (decoded (setup_at s).n pdu)) (s, silent) (relayed_keeps s (decoded (setup_at s).n pdu)) (stays_so s)
packet_is c s (delivery id g status) = either (OnTraffic s) (is_from_host (setup_at s) id g) (delivery_in c s status) (s, silent) (delivery_keeps c s status) (stays_so s)
packet_is c s (forwarding id g d load) = either (OnTraffic s) (is_of (setup_at s) id g) (forward_in c s d load) (s, silent) (forward_is c s d load) (stays_so s)
packet_is c s nothing = stays_so s

-- a flight through a tunnel
pub tunnel_is : (c : Choices) (s : AnchorState) (f : Flight) → OnTraffic s (tunnel_in c s f)
tunnel_is c s (flight.Tun tag packet) = packet_is c s (packet_of packet)
tunnel_is c s (flight.Air id g num tag pdu) = stays_so s
tunnel_is c s (flight.Ack id g num) = stays_so s
tunnel_is c s (flight.Sdu id g payload) = stays_so s
tunnel_is c s (flight.End id g) = stays_so s
tunnel_is c s (flight.Told id g count) = stays_so s
tunnel_is c s (flight.Ctl r) = stays_so s

-- ---- the status transfer

-- one that the anchor waits for
noted : (w : Waiting) (st : StatusTransfer) (done : AnchorState × AnchorOut) → is_awaited st (view_of (waiting_anchor w)) ≡ true → OnTraffic (waiting_anchor (record w { transfer = Some st })) done
    → OnStatus st (waiting_anchor w) done
noted w st done awaited (keeps stays view sends) = notes awaited stays view sends
noted w st done awaited (adopts adopted had view sends) = adopts_at_once awaited adopted view sends

lacking_is : (t : Option StatusTransfer) → is_none t ≡ is_lacking (waits_with t)
lacking_is None = refl
lacking_is (Some st) = refl

and_false : (b : Bool) → (b && false) ≡ false
and_false true = refl
and_false false = refl

status_by : (c : Choices) (w : Waiting) (st : StatusTransfer) (awaited : Bool) → is_awaited st (view_of (waiting_anchor w)) ≡ awaited
    → OnStatus st (waiting_anchor w) (if awaited then settled c (record w { transfer = Some st }) else (waiting_anchor w, silent))
status_by c w st false is = passes is (record { stays = refl; view = refl; sends = refl })
status_by c w st true is = noted w st (settled c (record w { transfer = Some st })) is (settled_is c (record w { transfer = Some st }))

pub status_is : (c : Choices) (s : AnchorState) (st : StatusTransfer) → OnStatus st s (status_in c s st)
status_is c (waiting_anchor w) st =
    let same : is_awaited st (view_of (waiting_anchor w)) ≡ (is_of w.setup st.id st.g && is_none w.transfer) = ap (λ b. is_of w.setup st.id st.g && b) (sym (lacking_is w.transfer)) in
    status_by c w st (is_of w.setup st.id st.g && is_none w.transfer) same
status_is c (active_anchor a) st = passes (and_false _) (record { stays = refl; view = refl; sends = refl })
