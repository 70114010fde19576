-- Each step of an anchor keeps what it keeps in its window.
use Rattle.std.proofs.Common.{◌==◌, Bool, Err, List, None, Ok, Option, Result, Some, [], false, not, arith, true, ℕ, inl, inr, ◌+◌, ◌-◌, ◌∷◌, ◌^◌, length}
use Rattle.std.specs.Prelude.{is_none, if◌then◌else◌, ◌&&◌}
use Rattle.std.proofs.lemmas.Bool.{cases_eq, cases_lt}
use Rattle.dc_base.specs.Count.{window}
use Rattle.dc_base.specs.declared.flights.Flight.{Flight}
use Rattle.dc_base.specs.declared.flights.Flight.TheVariants as flight
use Rattle.dc_base.specs.declared.nodes.Cell.{Cell}
use Rattle.dc_base.specs.declared.nodes.Dir.{Dir}
use Rattle.dc_base.specs.declared.records.StatusTransfer.{StatusTransfer}
use Rattle.forward.specs.Forwarded.{whole}
use Rattle.forward.specs.Load.{Load, Sdu}
use Rattle.nr_u.specs.declared.frame.Frame.{Frame}
use Rattle.pdcp_pdu.specs.Bitmap.{names}
use Rattle.pdcp_pdu.specs.Pdu.{Content, decoded, report, sdu}
use Rattle.pdcp_pdu.specs.declared.pdu.PduErr.{PduErr}
use Rattle.pdcp_tx.specs.Sender.{InWindow, Sender, low}
use Rattle.pdcp_tx.specs.Sending.{give_numbers, take_sdu}
use Rattle.pdcp_tx.proofs.Entries.{in_window-enumerated, in_window-filter, in_window-none}
use Rattle.pdcp_tx.proofs.Rules.{give_numbers-exhausted, give_numbers-full, give_numbers-ok, take_sdu-exhausted, take_sdu-full, take_sdu-ok}
use Rattle.node_rules.specs.Adopting.{adopts, adopts_with, forward_in, settled, status_in, taken_over, with_load}
use Rattle.node_rules.specs.Anchor.{Active, AnchorState, Waiting, active_anchor, new_tunnel, setup_at, silent, waiting_anchor}
use Rattle.node_rules.specs.AnchorReceiving.{acked, air_ack, air_in, air_pdu, delivery_in, is_from_host, is_on_leg, packet_in, pdu_in, relayed_pdu, tunnel_in}
use Rattle.node_rules.specs.AnchorSending.{anchor_recovers, fail_scg, open_if, recover, recover_at, report as asked_report, report_at, submit, submit_as, submit_at, unlock, with_failure, with_numbers}
use Rattle.node_rules.specs.Choices.{Choices}
use Rattle.node_rules.specs.Entity.{Entity, confirmed_count, confirmed_where, take_pdu, take_pdus}
use Rattle.node_rules.specs.Packets.{Packet, delivery, forwarding, nothing, packet_of, pdu_down, pdu_up}
use Rattle.node_rules.specs.Setup.{is_of}
use Rattle.node_rules.specs.declared.bearers.AnchorOut.{AnchorOut}
use Rattle.split_leg.specs.Legs.{acked_count, leg_at, with_ack, with_leg}
use Rattle.run_ordered.specs.Anchors.{IsLaw}
use Rattle.run_ordered.specs.Windows.{IsWindowed}
use Rattle.run_ordered.proofs.Counting.{numbered_in_window}

-- ---- a sending entity

abbrev pub HasWindow : Sender → Type 0
HasWindow tx = InWindow tx.n tx.next tx.kept

-- one is taken, or waits
taken_window : (c : Choices) (a : Active) (p : List ℕ) → HasWindow a.entity.tx → HasWindow (submit_as c a p (take_sdu a.entity.tx p)).0.entity.tx
taken_window c a p w =
    elim (cases_lt a.entity.tx.next (low a.entity.tx + window a.entity.tx.n)) [
      | inr full ↦ rw (take_sdu-full a.entity.tx p full) w
      | inl room ↦ elim (cases_eq a.entity.tx.next (2 ^ 32 - 1)) [
        | inl last ↦ rw (take_sdu-exhausted a.entity.tx p room last) w
        | inr more ↦ rw (take_sdu-ok a.entity.tx p room more) (in_window-enumerated a.entity.tx.n a.entity.tx.next a.entity.tx.kept (p ∷ []) w (omega (arith, room)))
      ]
    ]

given_window : (c : Choices) (a : Active) → HasWindow a.entity.tx → HasWindow (with_numbers c a (give_numbers a.entity.tx)).0.entity.tx
given_window c a w =
    elim (cases_lt (low a.entity.tx + window a.entity.tx.n) (a.entity.tx.next + length a.entity.tx.held)) [
      | inl full ↦ rw (give_numbers-full a.entity.tx full) w
      | inr room ↦ elim (cases_lt (2 ^ 32 - 1) (a.entity.tx.next + length a.entity.tx.held)) [
        | inl last ↦ rw (give_numbers-exhausted a.entity.tx room last) w
        | inr more ↦ rw (give_numbers-ok a.entity.tx room more) (in_window-enumerated a.entity.tx.n a.entity.tx.next a.entity.tx.kept a.entity.tx.held w room)
      ]
    ]

-- some are confirmed
confirmed_window : (test : ℕ → Bool) (e : Entity) → HasWindow e.tx → HasWindow (confirmed_where test e).tx
confirmed_window test e w = in_window-filter (λ x. not (test x.0)) e.tx.n e.tx.next e.tx.kept w

count_window : (e : Entity) (o : Option ℕ) → HasWindow e.tx → HasWindow (confirmed_count e o).tx
count_window e None w = w
count_window e (Some count) w = confirmed_window (λ c. c == count) e w

pdu_window : (e : Entity) (x : Content) → HasWindow e.tx → HasWindow (take_pdu e x).0.tx
pdu_window e (sdu s body) w = w
pdu_window e (report fmc bits) w = confirmed_window (names fmc bits) e w

pdus_window : (e : Entity) (xs : List Content) → HasWindow e.tx → HasWindow (take_pdus e xs).0.tx
pdus_window e [] w = w
pdus_window e (x ∷ xs) w = pdus_window (take_pdu e x).0 xs (pdu_window e x w)

-- ---- an active anchor

abbrev HasIn : Active → Type 0
HasIn a = HasWindow a.entity.tx

submit_window : (is_open : Bool) (c : Choices) (a : Active) (p : List ℕ) → HasIn a → HasIn (submit_at is_open c a p).0
submit_window true c a p w = taken_window c a p w
submit_window false c a p w = w

open_window : (is_open : Bool) (c : Choices) (a : Active) → HasIn a → HasIn (open_if is_open c a).0
open_window true c a w = given_window c (anchor_recovers c (record a { is_open = true })).0 w
open_window false c a w = w

recover_window : (is_open : Bool) (c : Choices) (a : Active) → HasIn a → HasIn (recover_at is_open c a).0
recover_window true c a w = w
recover_window false c a w = w

report_window : (is_open : Bool) (c : Choices) (a : Active) → HasIn a → HasIn (report_at is_open c a).0
report_window true c a w = w
report_window false c a w = w

-- ---- an anchor

either_way : (P : AnchorState → Type 0) (t : Bool) (x y : AnchorState × AnchorOut) → P x.0 → P y.0 → P (if t then x else y).0
either_way P true x y one two = one
either_way P false x y one two = two

by_pdu : (s : AnchorState) (x : Content) → IsWindowed s → IsWindowed (pdu_in s x).0
by_pdu (waiting_anchor w) x is = tt
by_pdu (active_anchor a) x is = pdu_window a.entity x is

by_air_pdu : (s : AnchorState) (num : ℕ) (r : Result Content PduErr) → IsWindowed s → IsWindowed (air_pdu s num r).0
by_air_pdu s num (Err e) is = is
by_air_pdu s num (Ok x) is = by_pdu s x is

by_acked : (e : Entity) (cell : Cell) (num : ℕ) → HasWindow e.tx → HasWindow (acked e cell num).tx
by_acked e cell num w =
    let leg = leg_at e.setup.legs cell in
    count_window (record e { setup = record e.setup { legs = with_leg e.setup.legs cell (with_ack leg num) } }) (acked_count leg.pdus num) w

by_air_ack : (s : AnchorState) (num : ℕ) → IsWindowed s → IsWindowed (air_ack s num).0
by_air_ack (waiting_anchor w) num is = tt
by_air_ack (active_anchor a) num is = by_acked a.entity _ num is

by_air : (s : AnchorState) (cell : Cell) (f : Flight) → IsWindowed s → IsWindowed (air_in s cell f).0
by_air s cell (flight.Air id g num tag pdu) is =
    either_way IsWindowed (is_on_leg (setup_at s) cell id g) (air_pdu s num (decoded (setup_at s).n pdu)) (s, silent) (by_air_pdu s num (decoded (setup_at s).n pdu) is) is
by_air s cell (flight.Ack id g num) is = either_way IsWindowed (is_on_leg (setup_at s) cell id g) (air_ack s num) (s, silent) (by_air_ack s num is) is
by_air s cell (flight.Tun tag packet) is = is
by_air s cell (flight.Sdu id g payload) is = is
by_air s cell (flight.End id g) is = is
by_air s cell (flight.Told id g count) is = is
by_air s cell (flight.Ctl r) is = is

-- ---- the adoption

by_adoption : (c : Choices) (w : Waiting) (e : Entity) → HasWindow e.tx → IsWindowed (adopts c w e).0
by_adoption c w e is =
    let up = take_pdus e w.pdus in
    open_window w.is_told c (record { entity = up.0; is_open = false; tunnel = new_tunnel w.setup.n }) (pdus_window e w.pdus is)

by_parts : (c : Choices) (w : Waiting) (t : Option StatusTransfer) (down up : Option (List Sdu)) → IsWindowed (adopts_with c w t down up).0
by_parts c w None down up = tt
by_parts c w (Some st) None up = tt
by_parts c w (Some st) (Some down) None = tt
by_parts c w (Some st) (Some down) (Some up) = by_adoption c w (taken_over w st down up) (numbered_in_window w.setup.n st.dl down)

by_settled : (c : Choices) (w : Waiting) → IsWindowed (settled c w).0
by_settled c w = by_parts c w w.transfer (whole w.down) (whole w.up)

by_forward : (c : Choices) (s : AnchorState) (d : Dir) (load : Load) → IsWindowed s → IsWindowed (forward_in c s d load).0
by_forward c (waiting_anchor w) d load is = by_settled c (with_load w d load)
by_forward c (active_anchor a) d load is = is

by_status : (c : Choices) (s : AnchorState) (st : StatusTransfer) → IsWindowed s → IsWindowed (status_in c s st).0
by_status c (waiting_anchor w) st is =
    either_way IsWindowed (is_of w.setup st.id st.g && is_none w.transfer) (settled c (record w { transfer = Some st })) (waiting_anchor w, silent)
    (by_settled c (record w { transfer = Some st })) tt
by_status c (active_anchor a) st is = is

-- ---- through a tunnel

by_relayed : (s : AnchorState) (r : Result Content PduErr) → IsWindowed s → IsWindowed (relayed_pdu s r).0
by_relayed s (Err e) is = is
by_relayed s (Ok x) is = by_pdu s x is

by_delivery : (c : Choices) (s : AnchorState) (status : Frame) → IsWindowed s → IsWindowed (delivery_in c s status).0
by_delivery c (waiting_anchor w) status is = tt
by_delivery c (active_anchor a) status is = confirmed_window _ a.entity is

by_packet : (c : Choices) (s : AnchorState) (p : Packet) → IsWindowed s → IsWindowed (packet_in c s p).0
by_packet c s (pdu_down id g number repeat pdu) is = is
by_packet c s (pdu_up id g pdu) is =
    either_way IsWindowed (is_from_host (setup_at s) id g) (relayed_pdu s (decoded (setup_at s).n pdu)) (s, silent) (by_relayed s (decoded (setup_at s).n pdu) is) is
by_packet c s (delivery id g status) is = either_way IsWindowed (is_from_host (setup_at s) id g) (delivery_in c s status) (s, silent) (by_delivery c s status is) is
by_packet c s (forwarding id g d load) is = either_way IsWindowed (is_of (setup_at s) id g) (forward_in c s d load) (s, silent) (by_forward c s d load is) is
by_packet c s nothing is = is

by_tunnel : (c : Choices) (s : AnchorState) (f : Flight) → IsWindowed s → IsWindowed (tunnel_in c s f).0
by_tunnel c s (flight.Tun tag packet) is = by_packet c s (packet_of packet) is
by_tunnel c s (flight.Air id g num tag pdu) is = is
by_tunnel c s (flight.Ack id g num) is = is
by_tunnel c s (flight.Sdu id g payload) is = is
by_tunnel c s (flight.End id g) is = is
by_tunnel c s (flight.Told id g count) is = is
by_tunnel c s (flight.Ctl r) is = is

-- ---- what it is asked for

by_submission : (c : Choices) (s : AnchorState) (p : List ℕ) → IsWindowed s → IsWindowed (submit c s p).0
by_submission c (waiting_anchor w) p is = tt
by_submission c (active_anchor a) p is = submit_window a.is_open c a p is

by_unlock : (c : Choices) (s : AnchorState) → IsWindowed s → IsWindowed (unlock c s).0
by_unlock c (waiting_anchor w) is = tt
by_unlock c (active_anchor a) is = open_window (not a.is_open) c a is

by_recovery : (c : Choices) (s : AnchorState) → IsWindowed s → IsWindowed (recover c s).0
by_recovery c (waiting_anchor w) is = tt
by_recovery c (active_anchor a) is = recover_window a.is_open c a is

by_failure : (c : Choices) (s : AnchorState) → IsWindowed s → IsWindowed (fail_scg c s).0
by_failure c (waiting_anchor w) is = tt
by_failure c (active_anchor a) is = recover_window a.is_open c (record a { entity = with_failure a.entity }) is

by_report : (c : Choices) (s : AnchorState) → IsWindowed s → IsWindowed (asked_report c s).0
by_report c (waiting_anchor w) is = tt
by_report c (active_anchor a) is = report_window a.is_open c a is

-- each step keeps what is kept in the window
pub windowed_law : (c : Choices) → IsLaw c IsWindowed
windowed_law c = record {
  begins = λ s. in_window-none s.n s.first;
  waits = λ s. tt;
  renews = λ a s is. is;
  submits = by_submission c;
  unlocks = by_unlock c;
  recovers = by_recovery c;
  fails = by_failure c;
  reports = by_report c;
  hears = by_air;
  tunnels = by_tunnel c;
  transfers = by_status c;
}
