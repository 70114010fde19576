-- What each step of an anchor, active or waiting, makes of the submissions that have yet to come to it, and what it says.
use Rattle.std.proofs.Common.{Bool, Err, List, None, Ok, Option, Result, Some, [], false, not, refl, sym, arith, true, ℕ, ◌++◌, ◌<◌, ◌^◌, ◌≡◌, ◌≤◌, ◌∙◌, ◌∷◌, ◌==◌}
use Rattle.std.specs.List.{AllByRecursion, flat_map}
use Rattle.std.specs.Prelude.{if◌then◌else◌, nat_lt}
use Rattle.std.proofs.lemmas.List.{append-nil}
use Rattle.dc_base.specs.Tunnel.{teid}
use Rattle.dc_base.specs.declared.flights.Flight.{Flight}
use Rattle.dc_base.specs.declared.flights.Flight.TheVariants as flight
use Rattle.dc_base.specs.declared.nodes.Cell.{Cell}
use Rattle.dc_base.specs.declared.nodes.Dir.TheVariants.{Dl}
use Rattle.dc_base.specs.declared.nodes.Node.{Node}
use Rattle.dc_base.specs.declared.records.StatusTransfer.{StatusTransfer}
use Rattle.gtpu.specs.Content.{Content as Packet'}
use Rattle.gtpu.specs.declared.packet.GtpKind.TheVariants.{GPdu}
use Rattle.nr_u.specs.Frames.{written}
use Rattle.nr_u.specs.declared.frame.Frame.{Frame}
use Rattle.nr_u.specs.declared.frame.Frame.TheVariants.{User}
use Rattle.pdcp_pdu.specs.Pdu.{Content, decoded, report, sdu}
use Rattle.pdcp_pdu.specs.declared.pdu.PduErr.{PduErr}
use Rattle.pdcp_tx.specs.Sender.{Entry, Sender, low}
use Rattle.pdcp_tx.specs.Sending.{give_numbers, take_sdu}
use Rattle.pdcp_tx.specs.declared.tx.TxErr.{TxErr}
use Rattle.split_leg.specs.Legs.{acked_count, leg_at, with_ack, with_leg}
use Rattle.transcript.proofs.OnEach.{each_append}
use Rattle.node_rules.specs.Anchor.{Active, AnchorState, Waiting, active_anchor, silent, waiting_anchor}
use Rattle.node_rules.specs.AnchorReceiving.{is_from_host, packet_in, tunnel_in, ack, acked, air_ack, air_in, air_pdu, ascending, delivery_in, is_on_leg, pdu_in, relayed_pdu, stepped, with_confirm, with_delivery}
use Rattle.node_rules.specs.AnchorSending.{anchor_recovers, anchor_sends, fail_scg, is_local, leg_send, open_if, recover, recover_at, report as asked_report, report_at, sent_by, submit, submit_as, submit_at, tunnel_send, unlock, with_failure, with_numbers, with_sends}
use Rattle.node_rules.specs.Choices.{Choices, Send}
use Rattle.node_rules.specs.Entity.{Entity, confirmed_count, take_pdu}
use Rattle.node_rules.specs.Adopting.{forward_in, status_in}
use Rattle.node_rules.specs.Packets.{Packet, delivery, forwarding, nothing, own_packet, packet_of, pdu_down, pdu_up}
use Rattle.node_rules.specs.Sending.{send_counts, send_kept, send_report}
use Rattle.node_rules.specs.Setup.{Setup, anchor_cell, has_failed, host_of, is_of, with_failed_scg}
use Rattle.node_rules.specs.declared.bearers.AnchorOut.{AnchorOut}
use Rattle.node_rules.specs.declared.bearers.OnLeg.{OnLeg}
use Rattle.nr_u.specs.Tunnel.Verdicts.{again_of, confirmed_of}
use Rattle.nr_u.specs.Tunnel.Incoming.{contains}
use Rattle.run_receivers.specs.Submitted.{Submitted}
use Rattle.run_receivers.proofs.Packets.{kind_in_teid, says_forwarded, teid_fits}
use Rattle.run_ordered.specs.Anchors.{AnchorServes, AnchorWaits}
use Rattle.run_ordered.specs.Forwarding.{IsQuiet, IsSilent}
use Rattle.run_ordered.specs.Fronts.{HasFront}
use Rattle.run_ordered.proofs.Fronts.{confirmed_front, count_front, failure_front, least_without, open_if_front, open_rises, pdu_front, pdu_rises, recovery_front, report_front, submit_front, submit_rises}

-- ---- what says nothing

-- a packet of a bearer's own traffic
pub own_silent : (h i : ℕ) (container : Option (List ℕ)) (body : List ℕ) (tag : Option ℕ) → h < 2 ^ 24 → i ≤ 32 → IsSilent (flight.Tun tag (own_packet h i container body))
own_silent h i container body tag small most id g load says =
    let p : Packet' = record { kind = GPdu; teid = teid h i 0; container = container; number = None; body = body } in
    let said = says_forwarded p id g Dl load (teid_fits h i 0 small most (omega arith)) says in
    let kind = kind_in_teid h i 0 (omega arith) in
    let one = said.kind in
    omega arith

-- its generation and identity are small
pub record IsSmall (s : Setup) : Type 0 where
  pub g : s.g < 2 ^ 24
  pub id : s.id ≤ 32

abbrev pub AreSilent : List Send → Type 0
AreSilent ss = AllByRecursion (λ (x : Send). IsQuiet x.1) ss

both_silent : (xs ys : List Send) → AreSilent xs → AreSilent ys → AreSilent (xs ++ ys)
both_silent xs ys one two = each_append (λ (x : Send). IsQuiet x.1) xs ys one two

tunnel_silent : (s : Setup) (p : OnLeg) (host : Option Node) → IsSmall s → AreSilent (tunnel_send s p host)
tunnel_silent s p None small = tt
tunnel_silent s p (Some host) small = (own_silent s.g s.id (Some (written (User p.num true p.repeat))) p.pdu.1 p.pdu.0 small.g small.id, tt)

leg_silent : (s : Setup) (p : OnLeg) (own : Bool) → IsSmall s → AreSilent (leg_send s p own)
leg_silent s p true small = (tt, tt)
leg_silent s p false small = tunnel_silent s p (host_of s) small

legs_silent : (s : Setup) (ps : List OnLeg) → IsSmall s → AreSilent (flat_map (λ p. leg_send s p (is_local s p)) ps)
legs_silent s [] small = tt
legs_silent s (p ∷ ps) small = both_silent (leg_send s p (is_local s p)) (flat_map (λ q. leg_send s q (is_local s q)) ps) (leg_silent s p (is_local s p) small) (legs_silent s ps small)

sends_silent : (a : Active) (done : Entity × List OnLeg) → IsSmall a.entity.setup → AreSilent (with_sends a done).1
sends_silent a done small = legs_silent a.entity.setup done.1 small

-- ---- an active anchor

module _ (c : Choices) (a : Active) (small : IsSmall a.entity.setup) where
  -- what it sends on its own account
  served : (taken : List (List ℕ)) (done : Active × List Send) → ((u : Submitted) (rest : List (List ℕ)) → HasFront u (taken ++ rest) a → HasFront u rest done.0) → low a.entity.tx ≤ low done.0.entity.tx → AreSilent done.1
      → AnchorServes a taken (sent_by done)
  served taken done front rises none = record { after = done.0; is = refl; front = front; rises = rises; told = λ k is. absurd cc; stays = refl; silent = none }

  numbered_silent : (b : Active) (p : List ℕ) (r : Result (Sender × ℕ) TxErr) → IsSmall b.entity.setup → AreSilent (submit_as c b p r).1
  numbered_silent b p (Ok (tx, count)) few = (let d : Active = record b { entity = record b.entity { tx = tx } } in sends_silent d (send_counts c d.entity (count ∷ [])) (record { g = few.g; id = few.id }))
  numbered_silent b p (Err e) few = tt

  submit_silent : (t : Bool) (p : List ℕ) → AreSilent (submit_at t c a p).1
  submit_silent true p = numbered_silent a p (take_sdu a.entity.tx p) small
  submit_silent false p = tt

  pub submit_served : (p : List ℕ) → AnchorServes a (p ∷ []) (submit c (active_anchor a) p)
  submit_served p = served (p ∷ []) (submit_at a.is_open c a p) (λ u rest f. submit_front u c rest p a f) (submit_rises c a.is_open a p) (submit_silent a.is_open p)

  given_silent : (b : Active) (r : Result (Sender × List ℕ) TxErr) → IsSmall b.entity.setup → AreSilent (with_numbers c b r).1
  given_silent b (Ok (tx, given)) few = (let d : Active = record b { entity = record b.entity { tx = tx } } in sends_silent d (send_counts c d.entity given) (record { g = few.g; id = few.id }))
  given_silent b (Err e) few = tt

  pub open_silent : (t : Bool) (b : Active) → IsSmall b.entity.setup → AreSilent (open_if t c b).1
  open_silent true b few =
      let again = anchor_recovers c (record b { is_open = true }) in
      both_silent again.1 (with_numbers c again.0 (give_numbers again.0.entity.tx)).1 (sends_silent (record b { is_open = true }) (send_kept c b.entity) few) (given_silent again.0 (give_numbers again.0.entity.tx) (record { g = few.g; id = few.id }))
  open_silent false b few = tt

  pub unlock_served : AnchorServes a [] (unlock c (active_anchor a))
  unlock_served = served [] (open_if (not a.is_open) c a) (λ u rest f. open_if_front u c rest (not a.is_open) a f) (open_rises c (not a.is_open) a) (open_silent (not a.is_open) a small)

  recover_silent : (t : Bool) (b : Active) → IsSmall b.entity.setup → AreSilent (recover_at t c b).1
  recover_silent true b few = sends_silent b (send_kept c b.entity) few
  recover_silent false b few = tt

  recover_low : (t : Bool) (b : Active) → low b.entity.tx ≤ low (recover_at t c b).0.entity.tx
  recover_low true b = omega arith
  recover_low false b = omega arith

  pub recover_served : AnchorServes a [] (recover c (active_anchor a))
  recover_served = served [] (recover_at a.is_open c a) (λ u rest f. recovery_front u c rest a.is_open a f) (recover_low a.is_open a) (recover_silent a.is_open a small)

  pub fail_served : AnchorServes a [] (fail_scg c (active_anchor a))
  fail_served =
      let b : Active = record a { entity = with_failure a.entity } in
      served [] (recover_at a.is_open c b) (λ u rest f. failure_front u c rest a f) (recover_low a.is_open b) (recover_silent a.is_open b (record { g = small.g; id = small.id }))

  report_silent : (t : Bool) → AreSilent (report_at t c a).1
  report_silent true = sends_silent a (send_report c a.entity) small
  report_silent false = tt

  report_low : (t : Bool) → low a.entity.tx ≤ low (report_at t c a).0.entity.tx
  report_low true = omega arith
  report_low false = omega arith

  pub report_served : AnchorServes a [] (asked_report c (active_anchor a))
  report_served = served [] (report_at a.is_open c a) (λ u rest f. report_front u c rest a.is_open a f) (report_low a.is_open) (report_silent a.is_open)

  -- ---- what comes to it

  -- nothing is done
  pub idle_served : AnchorServes a [] (active_anchor a, silent)
  idle_served = record { after = a; is = refl; front = λ u rest f. f; rises = omega arith; told = λ k is. absurd cc; stays = refl; silent = tt }

  -- a step of its entity
  by_step : (done : Entity × List (ℕ × List ℕ)) → ((u : Submitted) (rest : List (List ℕ)) → HasFront u rest a → HasFront u rest (record a { entity = done.0 })) → low a.entity.tx ≤ low done.0.tx → AnchorServes a [] (stepped a done)
  by_step done front rises = record { after = record a { entity = done.0 }; is = refl; front = front; rises = rises; told = told_is (nat_lt (low a.entity.tx) (low done.0.tx)); stays = refl; silent = tt }
    where
      told_is : (t : Bool) (k : ℕ) → (if t then Some (low done.0.tx) else None) ≡ Some k → k ≤ low done.0.tx
      told_is true k is = let same : low done.0.tx ≡ k = some is in omega arith
        where
          some : Some (low done.0.tx) ≡ Some k → low done.0.tx ≡ k
          some e = cc
      told_is false k is = absurd cc

  pdu_n : (x : Content) → (take_pdu a.entity x).0.setup.n ≡ a.entity.setup.n
  pdu_n (sdu s body) = refl
  pdu_n (report fmc bits) = refl

  by_pdu : (x : Content) → AnchorServes a [] (pdu_in (active_anchor a) x)
  by_pdu x = by_step (take_pdu a.entity x) (λ u rest f. record { same_n = pdu_n x ∙ f.same_n; front = pdu_front u rest a.is_open a.entity x f.front }) (pdu_rises a.entity x)

  confirm : (acks : List Send) (done : AnchorState × AnchorOut) → AreSilent acks → AnchorServes a [] done → AnchorServes a [] (with_confirm acks done)
  confirm acks done none is = record { after = is.after; is = is.is; front = is.front; rises = is.rises; told = is.told; stays = is.stays; silent = both_silent acks done.1.sends none is.silent }

  ack_silent : (s : Setup) (num : ℕ) (failed : Bool) → AreSilent (ack s num failed)
  ack_silent s num true = tt
  ack_silent s num false = (tt, tt)

  by_air_pdu : (num : ℕ) (r : Result Content PduErr) → AnchorServes a [] (air_pdu (active_anchor a) num r)
  by_air_pdu num (Err e) = idle_served
  by_air_pdu num (Ok x) =
      let s = a.entity.setup in
      confirm (ack s num (has_failed s (anchor_cell s.legs.shape))) (pdu_in (active_anchor a) x) (ack_silent s num (has_failed s (anchor_cell s.legs.shape))) (by_pdu x)

  count_low : (e : Entity) (o : Option ℕ) → low e.tx ≤ low (confirmed_count e o).tx
  count_low e None = omega arith
  count_low e (Some count) = least_without (λ (x : Entry). not (x.0 == count)) e.tx.next e.tx.kept

  count_n : (e : Entity) (o : Option ℕ) → (confirmed_count e o).setup.n ≡ e.setup.n
  count_n e None = refl
  count_n e (Some count) = refl

  by_ack : (num : ℕ) → AnchorServes a [] (air_ack (active_anchor a) num)
  by_ack num =
      let cell = anchor_cell a.entity.setup.legs.shape in
      let leg = leg_at a.entity.setup.legs cell in
      let e : Entity = record a.entity { setup = record a.entity.setup { legs = with_leg a.entity.setup.legs cell (with_ack leg num) } } in
      by_step (acked a.entity cell num, []) (λ u rest f. record { same_n = count_n e (acked_count leg.pdus num) ∙ f.same_n; front = count_front u rest a.is_open e (acked_count leg.pdus num) f.front }) (count_low e (acked_count leg.pdus num))

  -- whichever of two
  either_of : (t : Bool) (x y : AnchorState × AnchorOut) → AnchorServes a [] x → AnchorServes a [] y → AnchorServes a [] (if t then x else y)
  either_of true x y one two = one
  either_of false x y one two = two

  -- over the air
  pub air_served : (cell : Cell) (f : Flight) → AnchorServes a [] (air_in (active_anchor a) cell f)
  air_served cell (flight.Air id g num tag pdu) =
      either_of (is_on_leg a.entity.setup cell id g) (air_pdu (active_anchor a) num (decoded a.entity.setup.n pdu)) (active_anchor a, silent) (by_air_pdu num (decoded a.entity.setup.n pdu)) idle_served
  air_served cell (flight.Ack id g num) = either_of (is_on_leg a.entity.setup cell id g) (air_ack (active_anchor a) num) (active_anchor a, silent) (by_ack num) idle_served
  air_served cell (flight.Tun tag packet) = idle_served
  air_served cell (flight.Sdu id g payload) = idle_served
  air_served cell (flight.End id g) = idle_served
  air_served cell (flight.Told id g count) = idle_served
  air_served cell (flight.Ctl r) = idle_served

  -- ---- through a tunnel

  by_relayed : (r : Result Content PduErr) → AnchorServes a [] (relayed_pdu (active_anchor a) r)
  by_relayed (Err e) = idle_served
  by_relayed (Ok x) = by_pdu x

  by_delivery : (status : Frame) → AnchorServes a [] (delivery_in c (active_anchor a) status)
  by_delivery status =
      let test : ℕ → Bool = λ k. contains k (confirmed_of a.tunnel (low a.entity.tx) status) in
      let b = with_delivery a status in
      let cs = ascending (again_of a.tunnel (low a.entity.tx) status) in
      let done = anchor_sends c b cs in
      record {
        after = done.0;
        is = refl;
        front = λ u rest f. record { same_n = f.same_n; front = confirmed_front u rest a.is_open test a.entity f.front };
        rises = least_without (λ (x : Entry). not (test x.0)) a.entity.tx.next a.entity.tx.kept;
        told = told_is (nat_lt (low a.entity.tx) (low done.0.entity.tx));
        stays = refl;
        silent = sends_silent b (send_counts c b.entity cs) (record { g = small.g; id = small.id });
      }
    where
      after : Sender
      after = (anchor_sends c (with_delivery a status) (ascending (again_of a.tunnel (low a.entity.tx) status))).0.entity.tx

      told_is : (t : Bool) (k : ℕ) → (if t then Some (low (anchor_sends c (with_delivery a status) (ascending (again_of a.tunnel (low a.entity.tx) status))).0.entity.tx) else None) ≡ Some k
          → k ≤ low (anchor_sends c (with_delivery a status) (ascending (again_of a.tunnel (low a.entity.tx) status))).0.entity.tx
      told_is true k is = let same = some is in omega arith
        where
          some : {j : ℕ} → Some j ≡ Some k → j ≡ k
          some e = cc
      told_is false k is = absurd cc

  by_packet : (x : Packet) → AnchorServes a [] (packet_in c (active_anchor a) x)
  by_packet (pdu_down id g number repeat pdu) = idle_served
  by_packet (pdu_up id g pdu) =
      either_of (is_from_host a.entity.setup id g) (relayed_pdu (active_anchor a) (decoded a.entity.setup.n pdu)) (active_anchor a, silent) (by_relayed (decoded a.entity.setup.n pdu)) idle_served
  by_packet (delivery id g status) = either_of (is_from_host a.entity.setup id g) (delivery_in c (active_anchor a) status) (active_anchor a, silent) (by_delivery status) idle_served
  by_packet (forwarding id g d load) = either_of (is_of a.entity.setup id g) (forward_in c (active_anchor a) d load) (active_anchor a, silent) idle_served idle_served
  by_packet nothing = idle_served

  pub tunnel_served : (f : Flight) → AnchorServes a [] (tunnel_in c (active_anchor a) f)
  tunnel_served (flight.Tun tag packet) = by_packet (packet_of packet)
  tunnel_served (flight.Air id g num tag pdu) = idle_served
  tunnel_served (flight.Ack id g num) = idle_served
  tunnel_served (flight.Sdu id g payload) = idle_served
  tunnel_served (flight.End id g) = idle_served
  tunnel_served (flight.Told id g count) = idle_served
  tunnel_served (flight.Ctl r) = idle_served

  -- a status transfer
  pub status_served : (st : StatusTransfer) → AnchorServes a [] (status_in c (active_anchor a) st)
  status_served st = idle_served

-- ---- a waiting one

module _ (c : Choices) (w : Waiting) where
  -- it has all that it had
  pub waits_so : (v : Waiting) → v.fresh ≡ w.fresh → v.setup.g ≡ w.setup.g → v.setup.n ≡ w.setup.n → v.transfer ≡ w.transfer → v.down ≡ w.down → (sends : List Send) → AreSilent sends → AnchorWaits w [] (waiting_anchor v, record silent { sends = sends })
  waits_so v fresh g n transfer down sends none =
      record { after = v; is = refl; fresh = fresh ∙ sym (append-nil w.fresh); same_g = g; same_n = n; transfer = transfer; down = down; out = refl; silent_out = none }

  pub idle_waits : AnchorWaits w [] (waiting_anchor w, silent)
  idle_waits = waits_so w refl refl refl refl refl [] tt

  pub submit_waits : (p : List ℕ) → AnchorWaits w (p ∷ []) (submit c (waiting_anchor w) p)
  submit_waits p = record { after = record w { fresh = w.fresh ++ p ∷ [] }; is = refl; fresh = refl; same_g = refl; same_n = refl; transfer = refl; down = refl; out = refl; silent_out = tt }

  pub unlock_waits : AnchorWaits w [] (unlock c (waiting_anchor w))
  unlock_waits = waits_so (record w { is_told = true }) refl refl refl refl refl [] tt

  pub recover_waits : AnchorWaits w [] (recover c (waiting_anchor w))
  recover_waits = idle_waits

  pub fail_waits : AnchorWaits w [] (fail_scg c (waiting_anchor w))
  fail_waits = waits_so (record w { setup = with_failed_scg w.setup }) refl refl refl refl refl [] tt

  pub report_waits : AnchorWaits w [] (asked_report c (waiting_anchor w))
  report_waits = idle_waits

  -- a PDU is kept
  pdu_waits : (x : Content) (acks : List Send) → AreSilent acks → AnchorWaits w [] (with_confirm acks (pdu_in (waiting_anchor w) x))
  pdu_waits x acks none = waits_so (record w { pdus = w.pdus ++ x ∷ [] }) refl refl refl refl refl (acks ++ []) (both_silent acks [] none tt)

  pub relayed_waits : (r : Result Content PduErr) → AnchorWaits w [] (relayed_pdu (waiting_anchor w) r)
  relayed_waits (Err e) = idle_waits
  relayed_waits (Ok x) = waits_so (record w { pdus = w.pdus ++ x ∷ [] }) refl refl refl refl refl [] tt

  ack_none : (s : Setup) (num : ℕ) (failed : Bool) → AreSilent (ack s num failed)
  ack_none s num true = tt
  ack_none s num false = (tt, tt)

  air_pdu_waits : (num : ℕ) (r : Result Content PduErr) → AnchorWaits w [] (air_pdu (waiting_anchor w) num r)
  air_pdu_waits num (Err e) = idle_waits
  air_pdu_waits num (Ok x) = let s = w.setup in pdu_waits x (ack s num (has_failed s (anchor_cell s.legs.shape))) (ack_none s num (has_failed s (anchor_cell s.legs.shape)))

  either_waits : (t : Bool) (x y : AnchorState × AnchorOut) → AnchorWaits w [] x → AnchorWaits w [] y → AnchorWaits w [] (if t then x else y)
  either_waits true x y one two = one
  either_waits false x y one two = two

  pub air_waits : (cell : Cell) (f : Flight) → AnchorWaits w [] (air_in (waiting_anchor w) cell f)
  air_waits cell (flight.Air id g num tag pdu) =
      either_waits (is_on_leg w.setup cell id g) (air_pdu (waiting_anchor w) num (decoded w.setup.n pdu)) (waiting_anchor w, silent) (air_pdu_waits num (decoded w.setup.n pdu)) idle_waits
  air_waits cell (flight.Ack id g num) = either_waits (is_on_leg w.setup cell id g) (air_ack (waiting_anchor w) num) (waiting_anchor w, silent) idle_waits idle_waits
  air_waits cell (flight.Tun tag packet) = idle_waits
  air_waits cell (flight.Sdu id g payload) = idle_waits
  air_waits cell (flight.End id g) = idle_waits
  air_waits cell (flight.Told id g count) = idle_waits
  air_waits cell (flight.Ctl r) = idle_waits
