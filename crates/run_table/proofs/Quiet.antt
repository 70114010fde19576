-- What anchors and leg hosts send carries no plan, and what they hand up is no word.
use Rattle.std.proofs.Common.{ℕ, ◌≡◌, ◌++◌, ◌&&◌, ◌+◌, Bool, true, false, List, [], ◌∷◌, Option, Some, None, refl, ap, ◌∙◌, inl, inr}
use Rattle.std.specs.Prelude.{Ok, Err, Result, filter, is_none, length, not, slice_get}
use Rattle.std.specs.List.{flat_map}
use Rattle.std.proofs.lemmas.Bool.{cases_Bool}
use Rattle.dc_base.specs.declared.flights.Flight.{Flight}
use Rattle.dc_base.specs.declared.flights.Flight.TheVariants as flight
use Rattle.dc_base.specs.declared.nodes.Cell.{Cell}
use Rattle.dc_base.specs.declared.nodes.Dir.{Dir}
use Rattle.dc_base.specs.declared.nodes.Node.{Node}
use Rattle.dc_base.specs.declared.records.StatusTransfer.{StatusTransfer}
use Rattle.forward.specs.Load.{Load, Sdu}
use Rattle.forward.specs.Forwarded.{whole}
use Rattle.dc_base.specs.Tunnel.{teid}
use Rattle.nr_u.specs.Tunnel.Incoming.{has}
use Rattle.nr_u.specs.Tunnel.Verdicts.{again_of}
use Rattle.nr_u.specs.declared.frame.Frame.{Frame}
use Rattle.pdcp_pdu.specs.Pdu.{Content, decoded}
use Rattle.pdcp_pdu.specs.declared.pdu.PduErr.{PduErr}
use Rattle.pdcp_tx.specs.Sender.{Sender, low}
use Rattle.pdcp_tx.specs.Sending.{give_numbers, take_sdu}
use Rattle.pdcp_tx.specs.declared.tx.TxErr.{TxErr}
use Rattle.node_rules.specs.Adopting.{adopts_with, forward_in, settled, status_at, status_in, taken_over, with_load}
use Rattle.node_rules.specs.Anchor.{Active, AnchorState, Waiting, active_anchor, new_tunnel, setup_at, waiting_anchor}
use Rattle.node_rules.specs.AnchorReceiving.{ack, air_ack, air_in, air_pdu, delivery_in, is_from_host, is_on_leg, packet_in, pdu_in, ascending, relayed_pdu, tunnel_in, with_delivery}
use Rattle.node_rules.specs.AnchorSending.{anchor_recovers, anchor_sends, fail_scg, leg_send, is_local, open_if, opens, recover, recover_at, report, report_at, submit, submit_as, submit_at, tunnel_send, unlock, with_failure, with_numbers, with_sends, with_tx}
use Rattle.node_rules.specs.Choices.{Choices, Send}
use Rattle.node_rules.specs.Entity.{Entity, take_pdus}
use Rattle.node_rules.specs.Freezing as freezing
use Rattle.node_rules.specs.Freezing.{Tunnel, closing, down_sdus, down_sends, forward_end, forward_fresh, freeze, pieces, up_sdus, whole_tunnel}
use Rattle.node_rules.specs.Host.{Host}
use Rattle.node_rules.specs.HostRules.{confirmed, host_air_in, host_packet, host_tunnel_in, is_hosts, pdu_came}
use Rattle.node_rules.specs.Master.{handed_up}
use Rattle.node_rules.specs.Packets.{Packet, delivery, forwarding, nothing, packet_of, pdu_down, pdu_up}
use Rattle.node_rules.specs.Sending.{send_counts, send_kept, send_report}
use Rattle.node_rules.specs.Setup.{Setup, anchor_cell, has_failed, host_of, is_of}
use Rattle.node_rules.specs.declared.bearers.OnLeg.{OnLeg}
use Rattle.run_table.specs.Quiet.{HaveNoPlan, has_plan}
use Rattle.run_table.specs.Words.{is_word}
use Rattle.run_table.proofs.LineWords.{filter_append}

-- ---- lists

pub no_plan_append : (xs ys : List Send) → HaveNoPlan xs → HaveNoPlan ys → HaveNoPlan (xs ++ ys)
no_plan_append xs ys none none' = filter_append has_plan xs ys ∙ ap (λ zs. zs ++ filter has_plan ys) none ∙ none'

pub no_plan_flat : {X : Type 0} (f : X → List Send) (xs : List X) → ((x : X) → HaveNoPlan (f x)) → HaveNoPlan (flat_map f xs)
no_plan_flat f [] none = refl
no_plan_flat f (x ∷ xs) none = no_plan_append (f x) (flat_map f xs) (none x) (no_plan_flat f xs none)

pub up_quiet : (x : Node) (id : ℕ) (d : Dir) (ups : List (ℕ × List ℕ)) → filter is_word (handed_up x id d ups) ≡ []
up_quiet x id d [] = refl
up_quiet x id d (u ∷ us) = up_quiet x id d us

-- ---- what an anchor sends

of_tunnel : (s : Setup) (p : OnLeg) (o : Option Node) → HaveNoPlan (tunnel_send s p o)
of_tunnel s p None = refl
of_tunnel s p (Some host) = refl

of_leg : (s : Setup) (p : OnLeg) (local : Bool) → HaveNoPlan (leg_send s p local)
of_leg s p true = refl
of_leg s p false = of_tunnel s p (host_of s)

of_entity : (a : Active) (done : Entity × List OnLeg) → HaveNoPlan (with_sends a done).1
of_entity a done = no_plan_flat (λ p. leg_send a.entity.setup p (is_local a.entity.setup p)) done.1 (λ p. of_leg a.entity.setup p (is_local a.entity.setup p))

of_counts : (c : Choices) (a : Active) (cs : List ℕ) → HaveNoPlan (anchor_sends c a cs).1
of_counts c a cs = of_entity a (send_counts c a.entity cs)

of_recovery : (c : Choices) (a : Active) → HaveNoPlan (anchor_recovers c a).1
of_recovery c a = of_entity a (send_kept c a.entity)

of_submission : (c : Choices) (a : Active) (sdu : List ℕ) (r : Result (Sender × ℕ) TxErr) → HaveNoPlan (submit_as c a sdu r).1
of_submission c a sdu (Ok x) = of_counts c (with_tx a x.0) (x.1 ∷ [])
of_submission c a sdu (Err e) = refl

of_submission_at : (open' : Bool) (c : Choices) (a : Active) (sdu : List ℕ) → HaveNoPlan (submit_at open' c a sdu).1
of_submission_at true c a sdu = of_submission c a sdu (take_sdu a.entity.tx sdu)
of_submission_at false c a sdu = refl

pub of_submit : (c : Choices) (s : AnchorState) (sdu : List ℕ) → HaveNoPlan (submit c s sdu).1.sends
of_submit c (waiting_anchor w) sdu = refl
of_submit c (active_anchor a) sdu = of_submission_at a.is_open c a sdu

of_numbers : (c : Choices) (a : Active) (r : Result (Sender × List ℕ) TxErr) → HaveNoPlan (with_numbers c a r).1
of_numbers c a (Ok x) = of_counts c (with_tx a x.0) x.1
of_numbers c a (Err e) = refl

of_opening : (c : Choices) (a : Active) → HaveNoPlan (opens c a).1
of_opening c a =
    let again = anchor_recovers c (record a { is_open = true }) in
    no_plan_append again.1 (with_numbers c again.0 (give_numbers again.0.entity.tx)).1 (of_recovery c (record a { is_open = true })) (of_numbers c again.0 (give_numbers again.0.entity.tx))

of_open_if : (is : Bool) (c : Choices) (a : Active) → HaveNoPlan (open_if is c a).1
of_open_if true c a = of_opening c a
of_open_if false c a = refl

pub of_unlock : (c : Choices) (s : AnchorState) → HaveNoPlan (unlock c s).1.sends
of_unlock c (waiting_anchor w) = refl
of_unlock c (active_anchor a) = of_open_if (not a.is_open) c a

of_recovery_at : (is : Bool) (c : Choices) (a : Active) → HaveNoPlan (recover_at is c a).1
of_recovery_at true c a = of_recovery c a
of_recovery_at false c a = refl

pub of_recover : (c : Choices) (s : AnchorState) → HaveNoPlan (recover c s).1.sends
of_recover c (waiting_anchor w) = refl
of_recover c (active_anchor a) = of_recovery_at a.is_open c a

pub of_failure : (c : Choices) (s : AnchorState) → HaveNoPlan (fail_scg c s).1.sends
of_failure c (waiting_anchor w) = refl
of_failure c (active_anchor a) = of_recovery_at a.is_open c (record a { entity = with_failure a.entity })

of_report_at : (is : Bool) (c : Choices) (a : Active) → HaveNoPlan (report_at is c a).1
of_report_at true c a = of_entity a (send_report c a.entity)
of_report_at false c a = refl

pub of_report : (c : Choices) (s : AnchorState) → HaveNoPlan (report c s).1.sends
of_report c (waiting_anchor w) = refl
of_report c (active_anchor a) = of_report_at a.is_open c a

-- ---- what comes to an anchor

of_adoption : (c : Choices) (w : Waiting) (st : Option StatusTransfer) (down up : Option (List Sdu)) → HaveNoPlan (adopts_with c w st down up).1.sends
of_adoption c w None down up = refl
of_adoption c w (Some st) None up = refl
of_adoption c w (Some st) (Some down) None = refl
of_adoption c w (Some st) (Some down) (Some up) =
    let e = taken_over w st down up in of_open_if w.is_told c (record { entity = (take_pdus e w.pdus).0; is_open = false; tunnel = new_tunnel w.setup.n })

of_settled : (c : Choices) (w : Waiting) → HaveNoPlan (settled c w).1.sends
of_settled c w = of_adoption c w w.transfer (whole w.down) (whole w.up)

of_status_at : (c : Choices) (w : Waiting) (st : StatusTransfer) → HaveNoPlan (status_at c w st).1.sends
of_status_at c w st =
    elim (cases_Bool (is_of w.setup st.id st.g && is_none w.transfer)) [ inl yes' ↦ rw yes' (of_settled c (record w { transfer = Some st })) | inr no' ↦ rw no' refl ]

pub of_status : (c : Choices) (s : AnchorState) (st : StatusTransfer) → HaveNoPlan (status_in c s st).1.sends
of_status c (waiting_anchor w) st = of_status_at c w st
of_status c (active_anchor a) st = refl

of_forward : (c : Choices) (s : AnchorState) (d : Dir) (load : Load) → HaveNoPlan (forward_in c s d load).1.sends
of_forward c (waiting_anchor w) d load = of_settled c (with_load w d load)
of_forward c (active_anchor a) d load = refl

of_pdu : (s : AnchorState) (x : Content) → HaveNoPlan (pdu_in s x).1.sends
of_pdu (waiting_anchor w) x = refl
of_pdu (active_anchor a) x = refl

of_ack : (s : Setup) (num : ℕ) (failed : Bool) → HaveNoPlan (ack s num failed)
of_ack s num true = refl
of_ack s num false = refl

of_air_pdu : (s : AnchorState) (num : ℕ) (r : Result Content PduErr) → HaveNoPlan (air_pdu s num r).1.sends
of_air_pdu s num (Err e) = refl
of_air_pdu s num (Ok x) =
    let setup = setup_at s in
    let failed = has_failed setup (anchor_cell setup.legs.shape) in
    no_plan_append (ack setup num failed) (pdu_in s x).1.sends (of_ack setup num failed) (of_pdu s x)

of_air_ack : (s : AnchorState) (num : ℕ) → HaveNoPlan (air_ack s num).1.sends
of_air_ack (waiting_anchor w) num = refl
of_air_ack (active_anchor a) num = refl

pub of_air : (s : AnchorState) (cell : Cell) (f : Flight) → HaveNoPlan (air_in s cell f).1.sends
of_air s cell (flight.Air id g num tag pdu) =
    elim (cases_Bool (is_on_leg (setup_at s) cell id g)) [ inl yes' ↦ rw yes' (of_air_pdu s num (decoded (setup_at s).n pdu)) | inr no' ↦ rw no' refl ]
of_air s cell (flight.Ack id g num) = elim (cases_Bool (is_on_leg (setup_at s) cell id g)) [ inl yes' ↦ rw yes' (of_air_ack s num) | inr no' ↦ rw no' refl ]
of_air s cell (flight.Tun tag packet) = refl
of_air s cell (flight.Sdu id g sdu) = refl
of_air s cell (flight.End id g) = refl
of_air s cell (flight.Told id g count) = refl
of_air s cell (flight.Ctl rec) = refl

of_relayed : (s : AnchorState) (r : Result Content PduErr) → HaveNoPlan (relayed_pdu s r).1.sends
of_relayed s (Err e) = refl
of_relayed s (Ok x) = of_pdu s x

of_delivery : (c : Choices) (s : AnchorState) (status : Frame) → HaveNoPlan (delivery_in c s status).1.sends
of_delivery c (waiting_anchor w) status = refl
of_delivery c (active_anchor a) status = of_counts c (with_delivery a status) (ascending (again_of a.tunnel (low a.entity.tx) status))

of_packet : (c : Choices) (s : AnchorState) (p : Packet) → HaveNoPlan (packet_in c s p).1.sends
of_packet c s (pdu_down id g number repeat pdu) = refl
of_packet c s (pdu_up id g pdu) =
    elim (cases_Bool (is_from_host (setup_at s) id g)) [ inl yes' ↦ rw yes' (of_relayed s (decoded (setup_at s).n pdu)) | inr no' ↦ rw no' refl ]
of_packet c s (delivery id g status) =
    elim (cases_Bool (is_from_host (setup_at s) id g)) [ inl yes' ↦ rw yes' (of_delivery c s status) | inr no' ↦ rw no' refl ]
of_packet c s (forwarding id g d load) =
    elim (cases_Bool (is_of (setup_at s) id g)) [ inl yes' ↦ rw yes' (of_forward c s d load) | inr no' ↦ rw no' refl ]
of_packet c s nothing = refl

pub of_tunnelled : (c : Choices) (s : AnchorState) (f : Flight) → HaveNoPlan (tunnel_in c s f).1.sends
of_tunnelled c s (flight.Tun tag packet) = of_packet c s (packet_of packet)
of_tunnelled c s (flight.Air id g num tag pdu) = refl
of_tunnelled c s (flight.Ack id g num) = refl
of_tunnelled c s (flight.Sdu id g sdu) = refl
of_tunnelled c s (flight.End id g) = refl
of_tunnelled c s (flight.Told id g count) = refl
of_tunnelled c s (flight.Ctl rec) = refl

-- ---- what a frozen anchor forwards

of_pieces : (t : Tunnel) (teid number : ℕ) (sdus : List Sdu) → HaveNoPlan (pieces t teid number sdus)
of_pieces t teid number [] = refl
of_pieces t teid number (s ∷ ss) = of_pieces t teid (number + 1) ss

of_whole : (t : Tunnel) (teid : ℕ) (sdus : List Sdu) → HaveNoPlan (whole_tunnel t teid sdus)
of_whole t teid sdus = no_plan_append (pieces t teid 0 sdus) (closing t teid (length sdus)) (of_pieces t teid 0 sdus) refl

of_down : (t : Tunnel) (last : Bool) (sdus : List Sdu) → HaveNoPlan (down_sends t last sdus)
of_down t true sdus = of_whole t (teid t.g t.id 1) sdus
of_down t false sdus = of_pieces t (teid t.g t.id 1) 0 sdus

pub of_freeze : (a : Active) (to : Node) (g : ℕ) (last : Bool) → HaveNoPlan (freeze a to g last).sends
of_freeze a to g last =
    let t = freezing.new_tunnel a.entity to g in
    let n = teid g a.entity.setup.id 2 in
    no_plan_append (down_sends t last (down_sdus a.entity)) (whole_tunnel t n (up_sdus a.entity)) (of_down t last (down_sdus a.entity)) (of_whole t n (up_sdus a.entity))

pub of_fresh : (t : Tunnel) (sdu : List ℕ) → HaveNoPlan (forward_fresh t sdu).1
of_fresh t sdu = refl

pub of_end : (t : Tunnel) → HaveNoPlan (forward_end t)
of_end t = refl

-- ---- what a leg host sends

of_confirm : (h : Host) (o : Option ℕ) → HaveNoPlan (confirmed h o).1
of_confirm h None = refl
of_confirm h (Some number) = refl

pub of_host_air : (h : Host) (f : Flight) → HaveNoPlan (host_air_in h f).1
of_host_air h (flight.Air id g num tag pdu) = elim (cases_Bool (is_hosts h id g)) [ inl yes' ↦ rw yes' refl | inr no' ↦ rw no' refl ]
of_host_air h (flight.Ack id g num) =
    elim (cases_Bool (is_hosts h id g)) [ inl yes' ↦ rw yes' (of_confirm h (slice_get h.carried num)) | inr no' ↦ rw no' refl ]
of_host_air h (flight.Tun tag packet) = refl
of_host_air h (flight.Sdu id g payload) = refl
of_host_air h (flight.End id g) = refl
of_host_air h (flight.Told id g count) = refl
of_host_air h (flight.Ctl rec) = refl

of_put : (h : Host) (number : ℕ) (repeat : Bool) (tag : Option ℕ) (pdu : List ℕ) (r : Result Content PduErr) → HaveNoPlan (pdu_came h number repeat tag pdu r).1
of_put h number repeat tag pdu (Err e) = refl
of_put h number repeat tag pdu (Ok x) = elim (cases_Bool (has number h.tunnel.came)) [ inl yes' ↦ rw yes' refl | inr no' ↦ rw no' refl ]

of_host_packet : (h : Host) (tag : Option ℕ) (p : Packet) → HaveNoPlan (host_packet h tag p).1
of_host_packet h tag (pdu_down id g number repeat pdu) =
    elim (cases_Bool (is_hosts h id g)) [ inl yes' ↦ rw yes' (of_put h number repeat tag pdu (decoded h.tunnel.n pdu)) | inr no' ↦ rw no' refl ]
of_host_packet h tag (pdu_up id g pdu) = refl
of_host_packet h tag (delivery id g status) = refl
of_host_packet h tag (forwarding id g d load) = refl
of_host_packet h tag nothing = refl

pub of_host_tunnel : (h : Host) (f : Flight) → HaveNoPlan (host_tunnel_in h f).1
of_host_tunnel h (flight.Tun tag packet) = of_host_packet h tag (packet_of packet)
of_host_tunnel h (flight.Air id g num tag pdu) = refl
of_host_tunnel h (flight.Ack id g num) = refl
of_host_tunnel h (flight.Sdu id g payload) = refl
of_host_tunnel h (flight.End id g) = refl
of_host_tunnel h (flight.Told id g count) = refl
of_host_tunnel h (flight.Ctl rec) = refl
