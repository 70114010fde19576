-- What a step of an anchor does to its being active: nothing, or it adopts its bearer; and only an active one hands up.
use Rattle.std.proofs.Common.{ℕ, ◌≡◌, ◌∙◌, Bool, true, false, List, [], ◌∷◌, Option, Some, None, refl, ap, inl, inr}
use Rattle.std.specs.Prelude.{Err, Ok, Result, if◌then◌else◌, is_none, is_some, not, ◌&&◌, ◌⊎◌}
use Rattle.nr_u.specs.declared.frame.Frame.{Frame}
use Rattle.dc_base.specs.declared.flights.Flight.{Flight}
use Rattle.dc_base.specs.declared.flights.Flight.TheVariants as flight
use Rattle.dc_base.specs.declared.nodes.Cell.{Cell}
use Rattle.dc_base.specs.declared.nodes.Dir.{Dir}
use Rattle.dc_base.specs.declared.nodes.Dir.TheVariants.{Dl, Ul}
use Rattle.dc_base.specs.declared.records.StatusTransfer.{StatusTransfer}
use Rattle.forward.specs.Forwarded.{whole}
use Rattle.forward.specs.Load.{Load, Sdu}
use Rattle.pdcp_pdu.specs.Pdu.{Content, decoded, report, sdu}
use Rattle.pdcp_pdu.specs.declared.pdu.PduErr.{PduErr}
use Rattle.pdcp_tx.specs.Sender.{Sender}
use Rattle.pdcp_tx.specs.Sending.{give_numbers, take_sdu}
use Rattle.pdcp_tx.specs.declared.tx.TxErr.{TxErr}
use Rattle.split_leg.specs.Legs.{acked_count, leg_at, with_ack, with_leg}
use Rattle.node_rules.specs.Adopting.{adopts as adopt, adopts_with, forward_in, settled, status_in, taken_over, with_load}
use Rattle.node_rules.specs.Anchor.{Active, AnchorState, Waiting, active_anchor, new_tunnel, setup_at, silent, waiting_anchor}
use Rattle.node_rules.specs.AnchorReceiving.{acked, air_ack, air_in, air_pdu, delivery_in, is_from_host, is_on_leg, packet_in, pdu_in, relayed_pdu, stepped, tunnel_in, with_confirm}
use Rattle.node_rules.specs.AnchorSending.{anchor_recovers, fail_scg, open_if, opens, recover, recover_at, report_at, sent_by, submit, submit_as, submit_at, unlock, with_failure, with_numbers}
use Rattle.node_rules.specs.AnchorSending.{report as report_asked}
use Rattle.node_rules.specs.Choices.{Choices, Send}
use Rattle.node_rules.specs.Entity.{Entity, confirmed_count, take_pdu, take_pdus}
use Rattle.node_rules.specs.Packets.{Packet, delivery, forwarding, nothing, packet_of, pdu_down, pdu_up}
use Rattle.node_rules.specs.Setup.{Setup, anchor_cell, is_of}
use Rattle.node_rules.specs.declared.bearers.AnchorOut.{AnchorOut}
use Rattle.run_holders.specs.Actives.{active_of}

-- ---- what is said of a step

-- being active stays as it is, and nothing is handed up
pub record Stays (a : AnchorState) (done : AnchorState × AnchorOut) : Type 0 where
  pub adopted : done.1.adopted ≡ false
  pub active : active_of (Some done.0) ≡ active_of (Some a)
  pub ups : done.1.ups ≡ []

-- it stays as it is, and an active anchor alone hands up; or the anchor adopts its bearer in its generation
pub data Steps (a : AnchorState) (done : AnchorState × AnchorOut) : Type 0 where
  goes_on : (adopted : done.1.adopted ≡ false) → (active : active_of (Some done.0) ≡ active_of (Some a)) → (ups : (is_some (active_of (Some a)) ≡ true) ⊎ (done.1.ups ≡ []))
      → Steps a done
  takes_over : (adopted : done.1.adopted ≡ true) → (active : active_of (Some done.0) ≡ Some (setup_at a).g) → (same : (setup_at done.0).g ≡ (setup_at a).g) → Steps a done

pub stays_steps : {a : AnchorState} {done : AnchorState × AnchorOut} → Stays a done → Steps a done
stays_steps is = goes_on is.adopted is.active (inr is.ups)

nothing_done : (a : AnchorState) → Steps a (a, silent)
nothing_done a = goes_on refl refl (inr refl)

pub either : {X : Type 0} (P : X → Type 0) (b : Bool) (x y : X) → P x → P y → P (if b then x else y)
either P true x y one two = one
either P false x y one two = two

-- ---- sending

sent_stays : (a : Active) (done : Active × List Send) → done.0.entity.setup.g ≡ a.entity.setup.g → Stays (active_anchor a) (sent_by done)
sent_stays a done same = record { adopted = refl; active = ap (λ g. Some g) same; ups = refl }

submit_g : (c : Choices) (a : Active) (p : List ℕ) (r : Result (Sender × ℕ) TxErr) → (submit_as c a p r).0.entity.setup.g ≡ a.entity.setup.g
submit_g c a p (Ok x) = refl
submit_g c a p (Err e) = refl

submit_at_g : (is : Bool) (c : Choices) (a : Active) (p : List ℕ) → (submit_at is c a p).0.entity.setup.g ≡ a.entity.setup.g
submit_at_g true c a p = submit_g c a p (take_sdu a.entity.tx p)
submit_at_g false c a p = refl

pub submit_stays : (c : Choices) (s : AnchorState) (p : List ℕ) → Stays s (submit c s p)
submit_stays c (waiting_anchor w) p = record { adopted = refl; active = refl; ups = refl }
submit_stays c (active_anchor a) p = sent_stays a (submit_at a.is_open c a p) (submit_at_g a.is_open c a p)

numbers_g : (c : Choices) (a : Active) (r : Result (Sender × List ℕ) TxErr) → (with_numbers c a r).0.entity.setup.g ≡ a.entity.setup.g
numbers_g c a (Ok x) = refl
numbers_g c a (Err e) = refl

opens_g : (c : Choices) (a : Active) → (opens c a).0.entity.setup.g ≡ a.entity.setup.g
opens_g c a =
    let again = anchor_recovers c (record a { is_open = true }) in numbers_g c again.0 (give_numbers again.0.entity.tx)

open_if_g : (is : Bool) (c : Choices) (a : Active) → (open_if is c a).0.entity.setup.g ≡ a.entity.setup.g
open_if_g true c a = opens_g c a
open_if_g false c a = refl

pub unlock_stays : (c : Choices) (s : AnchorState) → Stays s (unlock c s)
unlock_stays c (waiting_anchor w) = record { adopted = refl; active = refl; ups = refl }
unlock_stays c (active_anchor a) = sent_stays a (open_if (not a.is_open) c a) (open_if_g (not a.is_open) c a)

recover_g : (is : Bool) (c : Choices) (a : Active) → (recover_at is c a).0.entity.setup.g ≡ a.entity.setup.g
recover_g true c a = refl
recover_g false c a = refl

pub recover_stays : (c : Choices) (s : AnchorState) → Stays s (recover c s)
recover_stays c (waiting_anchor w) = record { adopted = refl; active = refl; ups = refl }
recover_stays c (active_anchor a) = sent_stays a (recover_at a.is_open c a) (recover_g a.is_open c a)

pub fail_stays : (c : Choices) (s : AnchorState) → Stays s (fail_scg c s)
fail_stays c (waiting_anchor w) = record { adopted = refl; active = refl; ups = refl }
fail_stays c (active_anchor a) =
    sent_stays a (recover_at a.is_open c (record a { entity = with_failure a.entity })) (recover_g a.is_open c (record a { entity = with_failure a.entity }))

report_g : (is : Bool) (c : Choices) (a : Active) → (report_at is c a).0.entity.setup.g ≡ a.entity.setup.g
report_g true c a = refl
report_g false c a = refl

pub report_stays : (c : Choices) (s : AnchorState) → Stays s (report_asked c s)
report_stays c (waiting_anchor w) = record { adopted = refl; active = refl; ups = refl }
report_stays c (active_anchor a) = sent_stays a (report_at a.is_open c a) (report_g a.is_open c a)

-- ---- receiving

pdu_g : (e : Entity) (x : Content) → (take_pdu e x).0.setup.g ≡ e.setup.g
pdu_g e (sdu s body) = refl
pdu_g e (report fmc bits) = refl

pdus_g : (e : Entity) (xs : List Content) → (take_pdus e xs).0.setup.g ≡ e.setup.g
pdus_g e [] = refl
pdus_g e (x ∷ xs) = pdus_g (take_pdu e x).0 xs ∙ pdu_g e x

stepped_on : (a : Active) (done : Entity × List (ℕ × List ℕ)) → done.0.setup.g ≡ a.entity.setup.g → Steps (active_anchor a) (stepped a done)
stepped_on a done same = goes_on refl (ap (λ g. Some g) same) (inl refl)

pdu_steps : (s : AnchorState) (x : Content) → Steps s (pdu_in s x)
pdu_steps (waiting_anchor w) x = goes_on refl refl (inr refl)
pdu_steps (active_anchor a) x = stepped_on a (take_pdu a.entity x) (pdu_g a.entity x)

confirmed_steps : (s : AnchorState) (acks : List Send) (done : AnchorState × AnchorOut) → Steps s done → Steps s (with_confirm acks done)
confirmed_steps s acks done (goes_on adopted active ups) = goes_on adopted active ups
confirmed_steps s acks done (takes_over adopted active same) = takes_over adopted active same

air_pdu_steps : (s : AnchorState) (num : ℕ) (r : Result Content PduErr) → Steps s (air_pdu s num r)
air_pdu_steps s num (Err e) = nothing_done s
air_pdu_steps s num (Ok x) = confirmed_steps s _ (pdu_in s x) (pdu_steps s x)

count_g : (e : Entity) (o : Option ℕ) → (confirmed_count e o).setup.g ≡ e.setup.g
count_g e None = refl
count_g e (Some count) = refl

acked_g : (e : Entity) (cell : Cell) (num : ℕ) → (acked e cell num).setup.g ≡ e.setup.g
acked_g e cell num =
    let leg = leg_at e.setup.legs cell in
    count_g (record e { setup = record e.setup { legs = with_leg e.setup.legs cell (with_ack leg num) } }) (acked_count leg.pdus num)

air_ack_steps : (s : AnchorState) (num : ℕ) → Steps s (air_ack s num)
air_ack_steps (waiting_anchor w) num = nothing_done (waiting_anchor w)
air_ack_steps (active_anchor a) num =
    let cell = anchor_cell a.entity.setup.legs.shape in stepped_on a (acked a.entity cell num, []) (acked_g a.entity cell num)

-- a flight over the air
pub air_steps : (s : AnchorState) (cell : Cell) (f : Flight) → Steps s (air_in s cell f)
air_steps s cell (flight.Air id g num tag pdu) =
    either (Steps s) (is_on_leg (setup_at s) cell id g) (air_pdu s num (decoded (setup_at s).n pdu)) (s, silent) (air_pdu_steps s num (decoded (setup_at s).n pdu)) (nothing_done s)
air_steps s cell (flight.Ack id g num) =
    either (Steps s) (is_on_leg (setup_at s) cell id g) (air_ack s num) (s, silent) (air_ack_steps s num) (nothing_done s)
air_steps s cell (flight.Tun tag packet) = nothing_done s
air_steps s cell (flight.Sdu id g payload) = nothing_done s
air_steps s cell (flight.End id g) = nothing_done s
air_steps s cell (flight.Told id g count) = nothing_done s
air_steps s cell (flight.Ctl r) = nothing_done s

-- ---- the adoption

adopt_steps : (c : Choices) (w : Waiting) (e : Entity) → e.setup.g ≡ w.setup.g → Steps (waiting_anchor w) (adopt c w e)
adopt_steps c w e same =
    let up = take_pdus e w.pdus in
    let a : Active = record { entity = up.0; is_open = false; tunnel = new_tunnel w.setup.n } in
    let is : (open_if w.is_told c a).0.entity.setup.g ≡ w.setup.g = open_if_g w.is_told c a ∙ pdus_g e w.pdus ∙ same in
    takes_over refl (ap (λ g. Some g) is) is

settled_by : (c : Choices) (w : Waiting) (t : Option StatusTransfer) (down up : Option (List Sdu)) → Steps (waiting_anchor w) (adopts_with c w t down up)
settled_by c w None down up = nothing_done (waiting_anchor w)
settled_by c w (Some st) None up = nothing_done (waiting_anchor w)
settled_by c w (Some st) (Some down) None = nothing_done (waiting_anchor w)
settled_by c w (Some st) (Some down) (Some up) = adopt_steps c w (taken_over w st down up) refl

-- an anchor that waits as another one
as_before : (w w' : Waiting) (done : AnchorState × AnchorOut) → w'.setup ≡ w.setup → Steps (waiting_anchor w') done → Steps (waiting_anchor w) done
as_before w w' done same (goes_on adopted active ups) = goes_on adopted active ups
as_before w w' done same (takes_over adopted active is) =
    let g : w'.setup.g ≡ w.setup.g = ap (λ (x : Setup). x.g) same in takes_over adopted (active ∙ ap (λ z. Some z) g) (is ∙ g)

settled_steps : (c : Choices) (w : Waiting) → Steps (waiting_anchor w) (settled c w)
settled_steps c w = settled_by c w w.transfer (whole w.down) (whole w.up)

load_setup : (w : Waiting) (d : Dir) (load : Load) → (with_load w d load).setup ≡ w.setup
load_setup w Dl load = refl
load_setup w Ul load = refl

forward_steps : (c : Choices) (s : AnchorState) (d : Dir) (load : Load) → Steps s (forward_in c s d load)
forward_steps c (waiting_anchor w) d load =
    as_before w (with_load w d load) (settled c (with_load w d load)) (load_setup w d load) (settled_steps c (with_load w d load))
forward_steps c (active_anchor a) d load = nothing_done (active_anchor a)

-- the status transfer
pub status_steps : (c : Choices) (s : AnchorState) (st : StatusTransfer) → Steps s (status_in c s st)
status_steps c (active_anchor a) st = nothing_done (active_anchor a)
status_steps c (waiting_anchor w) st =
    either (Steps (waiting_anchor w)) (is_of w.setup st.id st.g && is_none w.transfer) (settled c (record w { transfer = Some st })) (waiting_anchor w, silent)
    (as_before w (record w { transfer = Some st }) (settled c (record w { transfer = Some st })) refl (settled_steps c (record w { transfer = Some st }))) (nothing_done (waiting_anchor w))

-- ---- through a tunnel

relayed_steps : (s : AnchorState) (r : Result Content PduErr) → Steps s (relayed_pdu s r)
relayed_steps s (Err e) = nothing_done s
relayed_steps s (Ok x) = pdu_steps s x

delivery_steps : (c : Choices) (s : AnchorState) (status : Frame) → Steps s (delivery_in c s status)
delivery_steps c (waiting_anchor w) status = nothing_done (waiting_anchor w)
delivery_steps c (active_anchor a) status = goes_on refl refl (inr refl)

packet_steps : (c : Choices) (s : AnchorState) (p : Packet) → Steps s (packet_in c s p)
packet_steps c s (pdu_down id g number repeat pdu) = nothing_done s
packet_steps c s (pdu_up id g pdu) =
    either (Steps s) (is_from_host (setup_at s) id g) (relayed_pdu s (decoded (setup_at s).n pdu)) (s, silent) (relayed_steps s (decoded (setup_at s).n pdu)) (nothing_done s)
packet_steps c s (delivery id g status) = either (Steps s) (is_from_host (setup_at s) id g) (delivery_in c s status) (s, silent) (delivery_steps c s status) (nothing_done s)
packet_steps c s (forwarding id g d load) = either (Steps s) (is_of (setup_at s) id g) (forward_in c s d load) (s, silent) (forward_steps c s d load) (nothing_done s)
packet_steps c s nothing = nothing_done s

-- a flight through a tunnel
pub tunnel_steps : (c : Choices) (s : AnchorState) (f : Flight) → Steps s (tunnel_in c s f)
tunnel_steps c s (flight.Tun tag packet) = packet_steps c s (packet_of packet)
tunnel_steps c s (flight.Air id g num tag pdu) = nothing_done s
tunnel_steps c s (flight.Ack id g num) = nothing_done s
tunnel_steps c s (flight.Sdu id g payload) = nothing_done s
tunnel_steps c s (flight.End id g) = nothing_done s
tunnel_steps c s (flight.Told id g count) = nothing_done s
tunnel_steps c s (flight.Ctl r) = nothing_done s
