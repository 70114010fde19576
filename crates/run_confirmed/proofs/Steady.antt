-- What an anchor keeps stays in its window, and its COUNTs stay below 2^32, in each of its steps (TS 38.323, 5.2.1).
use Rattle.std.proofs.Common.{◌≡◌, ℕ, ◌+◌, ◌-◌, ◌++◌, ◌<◌, ◌≤◌, ◌^◌, ◌==◌, true, false, Bool, List, [], ◌∷◌, Option, Some, None, Result, Ok, Err, length, refl, inl, inr, arith}
use Rattle.std.specs.Prelude.{IfSome, not, nat_le, nat_lt, is_none, ◌&&◌}
use Rattle.std.specs.List.{enumerate_from}
use Rattle.std.proofs.lemmas.Bool.{cases_Bool, leb-false, ltb-false, eqb-false}
use Rattle.dc_base.specs.Count.{window}
use Rattle.dc_base.specs.declared.flights.Flight.{Flight}
use Rattle.dc_base.specs.declared.flights.Flight.TheVariants as flight
use Rattle.dc_base.specs.declared.nodes.Cell.{Cell}
use Rattle.dc_base.specs.declared.nodes.Dir.{Dir}
use Rattle.dc_base.specs.declared.nodes.Dir.TheVariants.{Dl, Ul}
use Rattle.dc_base.specs.declared.records.StatusTransfer.{StatusTransfer}
use Rattle.forward.specs.Forwarded.{whole}
use Rattle.forward.specs.Load.{Load, Sdu}
use Rattle.nr_u.specs.Tunnel.Verdicts.{again_of}
use Rattle.nr_u.specs.declared.frame.Frame.{Frame}
use Rattle.pdcp_pdu.specs.Bitmap.{names}
use Rattle.pdcp_pdu.specs.Pdu.{Content, decoded, report, sdu}
use Rattle.pdcp_pdu.specs.declared.pdu.PduErr.{PduErr}
use Rattle.pdcp_tx.specs.Sender.{Sender, low}
use Rattle.pdcp_tx.specs.Sending.{give_numbers, hold_sdu, take_sdu}
use Rattle.pdcp_tx.proofs.Entries.{in_window-enumerated, in_window-filter}
use Rattle.split_leg.specs.Legs.{acked_count, leg_at, with_ack, with_leg}
use Rattle.node_rules.specs.Adopting.{adopts_with, forward_in, settled, status_in, taken_over, with_load}
use Rattle.node_rules.specs.Anchor.{Active, AnchorState, Waiting, active_anchor, new_tunnel, setup_at, silent, waiting_anchor}
use Rattle.node_rules.specs.AnchorReceiving.{acked, air_ack, air_in, air_pdu, ascending, delivery_in, is_from_host, is_on_leg, packet_in, pdu_in, relayed_pdu, tunnel_in, with_delivery}
use Rattle.node_rules.specs.AnchorSending.{anchor_recovers, anchor_sends, fail_scg, open_if, opens, recover, recover_at, report as report_asked, report_at, submit, submit_as, submit_at, unlock, with_failure, with_numbers, with_tx}
use Rattle.node_rules.specs.Choices.{Choices}
use Rattle.node_rules.specs.Entity.{Entity, confirmed_count, confirmed_where, take_pdu, take_pdus}
use Rattle.node_rules.specs.Packets.{Packet, delivery, forwarding, nothing, packet_of, pdu_down, pdu_up}
use Rattle.node_rules.specs.Setup.{anchor_cell, is_of}
use Rattle.run_control.proofs.Sent.{either}
use Rattle.run_confirms.proofs.Adopting.{numbered_window}
use Rattle.run_confirmed.specs.Nodes.{IsSteady, IsSteadyEntity}

-- ---- an entity

confirmed_steady : (test : ℕ → Bool) (e : Entity) → IsSteadyEntity e → IsSteadyEntity (confirmed_where test e)
confirmed_steady test e is = record { window = in_window-filter (λ x. not (test x.0)) e.tx.n e.tx.next e.tx.kept is.window; small = is.small }

count_steady : (e : Entity) (o : Option ℕ) → IsSteadyEntity e → IsSteadyEntity (confirmed_count e o)
count_steady e None is = is
count_steady e (Some count) is = confirmed_steady (λ c. c == count) e is

acked_steady : (e : Entity) (cell : Cell) (num : ℕ) → IsSteadyEntity e → IsSteadyEntity (acked e cell num)
acked_steady e cell num is =
    let leg = leg_at e.setup.legs cell in
    let b : Entity = record e { setup = record e.setup { legs = with_leg e.setup.legs cell (with_ack leg num) } } in
    count_steady b (acked_count leg.pdus num) (record { window = is.window; small = is.small })

pdu_steady : (e : Entity) (x : Content) → IsSteadyEntity e → IsSteadyEntity (take_pdu e x).0
pdu_steady e (sdu s body) is = record { window = is.window; small = is.small }
pdu_steady e (report fmc bits) is = confirmed_steady (names fmc bits) e is

pdus_steady : (e : Entity) (xs : List Content) → IsSteadyEntity e → IsSteadyEntity (take_pdus e xs).0
pdus_steady e [] is = is
pdus_steady e (x ∷ xs) is = pdus_steady (take_pdu e x).0 xs (pdu_steady e x is)

-- ---- numbers

-- an SDU is taken
taken_steady : (e : Entity) (p : List ℕ) → IsSteadyEntity e → (next : ℕ) → next ≡ e.tx.next → nat_le (low e.tx + window e.tx.n) next ≡ false
    → (next == 2 ^ 32 - 1) ≡ false
    → IsSteadyEntity (record e { tx = record e.tx { next = e.tx.next + 1; kept = e.tx.kept ++ (e.tx.next, p) ∷ [] } })
taken_steady e p is next same room left =
    let below : next < low e.tx + window e.tx.n = leb-false (low e.tx + window e.tx.n) next room in
    record {
      window = in_window-enumerated e.tx.n e.tx.next e.tx.kept (p ∷ []) is.window (omega (arith, below, same));
      small = omega (arith, is.small, same, eqb-false next (2 ^ 32 - 1) left);
    }

-- of an active anchor
abbrev IsSteadyActive : Active → Type 0
IsSteadyActive a = IsSteadyEntity a.entity

sends_steady : (c : Choices) (a : Active) (cs : List ℕ) → IsSteadyActive a → IsSteadyActive (anchor_sends c a cs).0
sends_steady c a cs is = record { window = is.window; small = is.small }

recovers_steady : (c : Choices) (a : Active) → IsSteadyActive a → IsSteadyActive (anchor_recovers c a).0
recovers_steady c a is = record { window = is.window; small = is.small }

hold_steady : (a : Active) (p : List ℕ) → IsSteadyActive a → IsSteadyActive (with_tx a (hold_sdu a.entity.tx p))
hold_steady a p is = record { window = is.window; small = is.small }

submit_open : (c : Choices) (a : Active) (p : List ℕ) → IsSteadyActive a → IsSteadyActive (submit_as c a p (take_sdu a.entity.tx p)).0
submit_open c a p is =
    elim (cases_Bool (nat_le (low a.entity.tx + window a.entity.tx.n) a.entity.tx.next)) [
      | inl full ↦ rw full (hold_steady a p is)
      | inr room ↦ elim (cases_Bool (a.entity.tx.next == 2 ^ 32 - 1)) [
        | inl last ↦ rw (room, last) (hold_steady a p is)
        | inr left ↦
            let tx : Sender = record a.entity.tx { next = a.entity.tx.next + 1; kept = a.entity.tx.kept ++ (a.entity.tx.next, p) ∷ [] } in
            rw (room, left) (sends_steady c (with_tx a tx) (a.entity.tx.next ∷ []) (taken_steady a.entity p is a.entity.tx.next refl room left))
      ]
    ]

submit_steady_at : (open' : Bool) (c : Choices) (a : Active) (p : List ℕ) → IsSteadyActive a → IsSteadyActive (submit_at open' c a p).0
submit_steady_at true c a p is = submit_open c a p is
submit_steady_at false c a p is = hold_steady a p is

pub submit_steady : (c : Choices) (s : AnchorState) (p : List ℕ) → IsSteady s → IsSteady (submit c s p).0
submit_steady c (waiting_anchor w) p is = is
submit_steady c (active_anchor a) p is = submit_steady_at a.is_open c a p is

-- all that are held are numbered
given_steady : (e : Entity) → IsSteadyEntity e → nat_lt (low e.tx + window e.tx.n) (e.tx.next + length e.tx.held) ≡ false
    → nat_lt (2 ^ 32 - 1) (e.tx.next + length e.tx.held) ≡ false
    → IsSteadyEntity (record e { tx = record e.tx { next = e.tx.next + length e.tx.held; kept = e.tx.kept ++ enumerate_from e.tx.next e.tx.held; held = [] } })
given_steady e is room left =
    let below : e.tx.next + length e.tx.held ≤ low e.tx + window e.tx.n = ltb-false (low e.tx + window e.tx.n) (e.tx.next + length e.tx.held) room in
    record {
      window = in_window-enumerated e.tx.n e.tx.next e.tx.kept e.tx.held is.window below;
      small = omega (arith, ltb-false (2 ^ 32 - 1) (e.tx.next + length e.tx.held) left);
    }

numbers_steady : (c : Choices) (a : Active) → IsSteadyActive a → IsSteadyActive (with_numbers c a (give_numbers a.entity.tx)).0
numbers_steady c a is =
    let tx = a.entity.tx in
    elim (cases_Bool (nat_lt (low tx + window tx.n) (tx.next + length tx.held))) [
      | inl full ↦ rw full is
      | inr room ↦ elim (cases_Bool (nat_lt (2 ^ 32 - 1) (tx.next + length tx.held))) [
        | inl last ↦ rw (room, last) is
        | inr left ↦ let done = given_steady a.entity is room left in rw (room, left) (record { window = done.window; small = done.small })
      ]
    ]

opens_steady : (c : Choices) (a : Active) → IsSteadyActive a → IsSteadyActive (opens c a).0
opens_steady c a is =
    let again = anchor_recovers c (record a { is_open = true }) in
    numbers_steady c again.0 (recovers_steady c (record a { is_open = true }) is)

open_if_steady : (b : Bool) (c : Choices) (a : Active) → IsSteadyActive a → IsSteadyActive (open_if b c a).0
open_if_steady true c a is = opens_steady c a is
open_if_steady false c a is = is

pub unlock_steady : (c : Choices) (s : AnchorState) → IsSteady s → IsSteady (unlock c s).0
unlock_steady c (waiting_anchor w) is = is
unlock_steady c (active_anchor a) is = open_if_steady (not a.is_open) c a is

-- ---- recovery, failure, reports

recover_steady_at : (b : Bool) (c : Choices) (a : Active) → IsSteadyActive a → IsSteadyActive (recover_at b c a).0
recover_steady_at true c a is = recovers_steady c a is
recover_steady_at false c a is = is

pub recover_steady : (c : Choices) (s : AnchorState) → IsSteady s → IsSteady (recover c s).0
recover_steady c (waiting_anchor w) is = is
recover_steady c (active_anchor a) is = recover_steady_at a.is_open c a is

pub fail_steady : (c : Choices) (s : AnchorState) → IsSteady s → IsSteady (fail_scg c s).0
fail_steady c (waiting_anchor w) is = is
fail_steady c (active_anchor a) is =
    recover_steady_at a.is_open c (record a { entity = with_failure a.entity }) (record { window = is.window; small = is.small })

report_steady_at : (b : Bool) (c : Choices) (a : Active) → IsSteadyActive a → IsSteadyActive (report_at b c a).0
report_steady_at true c a is = record { window = is.window; small = is.small }
report_steady_at false c a is = is

pub report_steady : (c : Choices) (s : AnchorState) → IsSteady s → IsSteady (report_asked c s).0
report_steady c (waiting_anchor w) is = is
report_steady c (active_anchor a) is = report_steady_at a.is_open c a is

-- ---- what comes

pdu_in_steady : (s : AnchorState) (x : Content) → IsSteady s → IsSteady (pdu_in s x).0
pdu_in_steady (waiting_anchor w) x is = is
pdu_in_steady (active_anchor a) x is = pdu_steady a.entity x is

air_pdu_steady : (s : AnchorState) (num : ℕ) (x : Result Content PduErr) → IsSteady s → IsSteady (air_pdu s num x).0
air_pdu_steady s num (Err e) is = is
air_pdu_steady s num (Ok x) is = pdu_in_steady s x is

air_ack_steady : (s : AnchorState) (num : ℕ) → IsSteady s → IsSteady (air_ack s num).0
air_ack_steady (waiting_anchor w) num is = is
air_ack_steady (active_anchor a) num is = acked_steady a.entity (anchor_cell a.entity.setup.legs.shape) num is

pub air_steady : (s : AnchorState) (cell : Cell) (f : Flight) → IsSteady s → IsSteady (air_in s cell f).0
air_steady s cell (flight.Air id g num tag pdu) is =
    either (λ (done : AnchorState × _). IsSteady done.0) (is_on_leg (setup_at s) cell id g) (air_pdu s num (decoded (setup_at s).n pdu)) (s, silent) (air_pdu_steady s num (decoded (setup_at s).n pdu) is) is
air_steady s cell (flight.Ack id g num) is =
    either (λ (done : AnchorState × _). IsSteady done.0) (is_on_leg (setup_at s) cell id g) (air_ack s num) (s, silent) (air_ack_steady s num is) is
air_steady s cell (flight.Tun tag packet) is = is
air_steady s cell (flight.Sdu id g payload) is = is
air_steady s cell (flight.End id g) is = is
air_steady s cell (flight.Told id g count) is = is
air_steady s cell (flight.Ctl r) is = is

relayed_steady : (s : AnchorState) (x : Result Content PduErr) → IsSteady s → IsSteady (relayed_pdu s x).0
relayed_steady s (Err e) is = is
relayed_steady s (Ok x) is = pdu_in_steady s x is

delivery_steady : (c : Choices) (s : AnchorState) (status : Frame) → IsSteady s → IsSteady (delivery_in c s status).0
delivery_steady c (waiting_anchor w) status is = is
delivery_steady c (active_anchor a) status is =
    sends_steady c (with_delivery a status) (ascending (again_of a.tunnel (low a.entity.tx) status)) (confirmed_steady _ a.entity is)

-- ---- the adoption

by_adoption : (c : Choices) (w : Waiting) (st : Option StatusTransfer) (down up : Option (List Sdu)) → IfSome st (λ status. status.dl < 2 ^ 32)
    → IsSteady (waiting_anchor w)
    → IsSteady (adopts_with c w st down up).0
by_adoption c w None down up small is = is
by_adoption c w (Some st) None up small is = is
by_adoption c w (Some st) (Some down) None small is = is
by_adoption c w (Some st) (Some down) (Some up) small is =
    let e = taken_over w st down up in
    open_if_steady w.is_told c (record { entity = (take_pdus e w.pdus).0; is_open = false; tunnel = new_tunnel w.setup.n })
    (pdus_steady e w.pdus (record { window = numbered_window w.setup.n st.dl down; small = small }))

settled_steady : (c : Choices) (w : Waiting) → IsSteady (waiting_anchor w) → IsSteady (settled c w).0
settled_steady c w is = by_adoption c w w.transfer (whole w.down) (whole w.up) is is

forward_steady : (c : Choices) (s : AnchorState) (d : Dir) (load : Load) → IsSteady s → IsSteady (forward_in c s d load).0
forward_steady c (waiting_anchor w) Dl load is = settled_steady c (with_load w Dl load) is
forward_steady c (waiting_anchor w) Ul load is = settled_steady c (with_load w Ul load) is
forward_steady c (active_anchor a) d load is = is

pub status_steady : (c : Choices) (s : AnchorState) (st : StatusTransfer) → st.dl < 2 ^ 32 → IsSteady s → IsSteady (status_in c s st).0
status_steady c (active_anchor a) st small is = is
status_steady c (waiting_anchor w) st small is =
    either (λ (done : AnchorState × _). IsSteady done.0) (is_of w.setup st.id st.g && is_none w.transfer) (settled c (record w { transfer = Some st })) (waiting_anchor w, silent)
    (settled_steady c (record w { transfer = Some st }) small) is

-- ---- through a tunnel

packet_steady : (c : Choices) (s : AnchorState) (p : Packet) → IsSteady s → IsSteady (packet_in c s p).0
packet_steady c s (pdu_down id g number repeat pdu) is = is
packet_steady c s (pdu_up id g pdu) is =
    either (λ (done : AnchorState × _). IsSteady done.0) (is_from_host (setup_at s) id g) (relayed_pdu s (decoded (setup_at s).n pdu)) (s, silent) (relayed_steady s (decoded (setup_at s).n pdu) is) is
packet_steady c s (delivery id g status) is =
    either (λ (done : AnchorState × _). IsSteady done.0) (is_from_host (setup_at s) id g) (delivery_in c s status) (s, silent) (delivery_steady c s status is) is
packet_steady c s (forwarding id g d load) is =
    either (λ (done : AnchorState × _). IsSteady done.0) (is_of (setup_at s) id g) (forward_in c s d load) (s, silent) (forward_steady c s d load is) is
packet_steady c s nothing is = is

pub tunnel_steady : (c : Choices) (s : AnchorState) (f : Flight) → IsSteady s → IsSteady (tunnel_in c s f).0
tunnel_steady c s (flight.Tun tag packet) is = packet_steady c s (packet_of packet) is
tunnel_steady c s (flight.Air id g num tag pdu) is = is
tunnel_steady c s (flight.Ack id g num) is = is
tunnel_steady c s (flight.Sdu id g payload) is = is
tunnel_steady c s (flight.End id g) is = is
tunnel_steady c s (flight.Told id g count) is = is
tunnel_steady c s (flight.Ctl r) is = is
