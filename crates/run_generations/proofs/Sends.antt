-- What anchors, frozen anchors and leg hosts send is of their generation.
use Rattle.std.proofs.Common.{ℕ, ◌≡◌, ◌≤◌, ◌++◌, ◌&&◌, ◌+◌, ◌==◌, Bool, true, false, List, [], ◌∷◌, Option, Some, None, refl, sym, ap, subst, ◌∙◌}
use Rattle.std.specs.Prelude.{Ok, Err, Result, if◌then◌else◌, is_none, length, nat_le, nat_lt, not, slice_get}
use Rattle.std.specs.List.{flat_map}
use Rattle.std.proofs.lemmas.Bool.{eqb-true}
use Rattle.dc_base.specs.Tunnel.{teid}
use Rattle.dc_base.specs.declared.flights.Flight.{Flight}
use Rattle.dc_base.specs.declared.flights.Flight.TheVariants as flight
use Rattle.dc_base.specs.declared.nodes.Cell.{Cell}
use Rattle.dc_base.specs.declared.nodes.Dir.{Dir}
use Rattle.dc_base.specs.declared.nodes.Dir.TheVariants.{Dl, Ul}
use Rattle.dc_base.specs.declared.nodes.Node.{Node}
use Rattle.dc_base.specs.declared.records.StatusTransfer.{StatusTransfer}
use Rattle.forward.specs.Load.{Load, Sdu}
use Rattle.forward.specs.Forwarded.{whole}
use Rattle.forward.specs.Outgoing.{end_marker, sdu_packet, total_packet}
use Rattle.gtpu.specs.declared.packet.GtpKind.TheVariants.{GPdu}
use Rattle.nr_u.specs.Tunnel.Delivery.{status_of}
use Rattle.nr_u.specs.Tunnel.Incoming.{has, with_ack}
use Rattle.nr_u.specs.Tunnel.Verdicts.{again_of}
use Rattle.nr_u.specs.Frames.{written}
use Rattle.nr_u.specs.declared.frame.Frame.{Frame}
use Rattle.nr_u.specs.declared.frame.Frame.TheVariants.{User}
use Rattle.pdcp_pdu.specs.Pdu.{Content, decoded}
use Rattle.pdcp_pdu.specs.declared.pdu.PduErr.{PduErr}
use Rattle.pdcp_tx.specs.Sender.{Sender, low}
use Rattle.pdcp_tx.specs.Sending.{give_numbers, take_sdu}
use Rattle.pdcp_tx.specs.declared.tx.TxErr.{TxErr}
use Rattle.transcript.proofs.OnEach.{each_append}
use Rattle.node_rules.specs.Adopting.{adopts_with, forward_in, settled, status_in, taken_over, with_load}
use Rattle.node_rules.specs.Anchor.{Active, AnchorState, Waiting, active_anchor, new_tunnel, setup_at, silent, waiting_anchor}
use Rattle.node_rules.specs.AnchorReceiving.{ack, air_ack, air_in, air_pdu, delivery_in, is_from_host, is_on_leg, packet_in, pdu_in, ascending, relayed_pdu, tunnel_in, with_delivery}
use Rattle.node_rules.specs.AnchorSending.{anchor_recovers, anchor_sends, fail_scg, leg_send, is_local, open_if, opens, recover, recover_at, report, report_at, submit, submit_as, submit_at, tunnel_send, unlock, with_failure, with_numbers, with_sends, with_tx}
use Rattle.node_rules.specs.Choices.{Choices, Send}
use Rattle.node_rules.specs.Entity.{Entity, take_pdu, take_pdus}
use Rattle.node_rules.specs.Feed.{Frozen, frozen_end_in, frozen_sdu_in}
use Rattle.node_rules.specs.Freezing as freezing
use Rattle.node_rules.specs.Freezing.{Tunnel, closing, down_sdus, down_sends, forward_end, forward_fresh, freeze, pieces, up_sdus, whole_tunnel}
use Rattle.node_rules.specs.Host.{Host}
use Rattle.node_rules.specs.HostRules.{confirmed, host_air_in, host_packet, host_tunnel_in, is_hosts, pdu_came, put_on_leg, sn_in, to_anchor, to_terminal}
use Rattle.node_rules.specs.Packets.{Packet, delivery, forwarding, nothing, own_packet, packet_of, pdu_down, pdu_up, up_packet}
use Rattle.node_rules.specs.Sending.{send_counts, send_kept, send_report}
use Rattle.node_rules.specs.Setup.{Setup, anchor_cell, has_failed, host_of, is_of}
use Rattle.node_rules.specs.declared.bearers.AnchorOut.{AnchorOut}
use Rattle.node_rules.specs.declared.bearers.OnLeg.{OnLeg}
use Rattle.run_control.specs.Views.{Bearer}
use Rattle.run_control.proofs.Arrivals.{pdu_bearer}
use Rattle.run_generations.specs.Ahead.{AreSentBelow, IsPacketBelow, IsSentBelow}

-- taking PDUs leaves the generation
pdus_generation : (e : Entity) (xs : List Content) → (take_pdus e xs).0.setup.g ≡ e.setup.g
pdus_generation e [] = refl
pdus_generation e (x ∷ xs) = pdus_generation (take_pdu e x).0 xs ∙ ap (λ (v : Bearer). v.g) (pdu_bearer e x)

module _ (b : ℕ) where
  abbrev Good : List Send → Type 0
  Good sends = AreSentBelow b sends

  both_good : (xs ys : List Send) → Good xs → Good ys → Good (xs ++ ys)
  both_good xs ys first then' = each_append (IsSentBelow b) xs ys first then'

  flat_good : {X : Type 0} (f : X → List Send) (xs : List X) → ((x : X) → Good (f x)) → Good (flat_map f xs)
  flat_good f [] good = tt
  flat_good f (x ∷ xs) good = both_good (f x) (flat_map f xs) (good x) (flat_good f xs good)

  if_good : {S : Type 0} (t : Bool) (x y : S × List Send) → Good x.1 → Good y.1 → Good (if t then x else y).1
  if_good true x y is else' = is
  if_good false x y is else' = else'

  -- a packet of a bearer's own traffic
  own_below : (g id : ℕ) (container : Option (List ℕ)) (body : List ℕ) → g + 1 ≤ b → IsPacketBelow b (own_packet g id container body)
  own_below g id container body le =
      record { content = record { kind = GPdu; teid = teid g id 0; container = container; number = None; body = body }; g = g; id = id; kind = 0; is = refl; of = refl; le = le }

  -- ---- what an anchor sends

  of_tunnel : (s : Setup) (p : OnLeg) (o : Option Node) → s.g + 1 ≤ b → Good (tunnel_send s p o)
  of_tunnel s p None le = tt
  of_tunnel s p (Some host) le = (own_below s.g s.id (Some (written (User p.num true p.repeat))) p.pdu.1 le, tt)

  of_leg : (s : Setup) (p : OnLeg) (local : Bool) → s.g + 1 ≤ b → Good (leg_send s p local)
  of_leg s p true le = (le, tt)
  of_leg s p false le = of_tunnel s p (host_of s) le

  of_entity : (a : Active) (done : Entity × List OnLeg) → a.entity.setup.g + 1 ≤ b → Good (with_sends a done).1
  of_entity a done le = flat_good (λ p. leg_send a.entity.setup p (is_local a.entity.setup p)) done.1 (λ p. of_leg a.entity.setup p (is_local a.entity.setup p) le)

  of_counts : (c : Choices) (a : Active) (cs : List ℕ) → a.entity.setup.g + 1 ≤ b → Good (anchor_sends c a cs).1
  of_counts c a cs le = of_entity a (send_counts c a.entity cs) le

  of_recovery : (c : Choices) (a : Active) → a.entity.setup.g + 1 ≤ b → Good (anchor_recovers c a).1
  of_recovery c a le = of_entity a (send_kept c a.entity) le

  of_submission : (c : Choices) (a : Active) (sdu : List ℕ) (r : Result (Sender × ℕ) TxErr) → a.entity.setup.g + 1 ≤ b → Good (submit_as c a sdu r).1
  of_submission c a sdu (Ok x) le = of_counts c (with_tx a x.0) (x.1 ∷ []) le
  of_submission c a sdu (Err e) le = tt

  of_submission_at : (is : Bool) (c : Choices) (a : Active) (sdu : List ℕ) → a.entity.setup.g + 1 ≤ b → Good (submit_at is c a sdu).1
  of_submission_at true c a sdu le = of_submission c a sdu (take_sdu a.entity.tx sdu) le
  of_submission_at false c a sdu le = tt

  pub submit_good : (c : Choices) (s : AnchorState) (sdu : List ℕ) → (setup_at s).g + 1 ≤ b → Good (submit c s sdu).1.sends
  submit_good c (waiting_anchor w) sdu le = tt
  submit_good c (active_anchor a) sdu le = of_submission_at a.is_open c a sdu le

  of_numbers : (c : Choices) (a : Active) (r : Result (Sender × List ℕ) TxErr) → a.entity.setup.g + 1 ≤ b → Good (with_numbers c a r).1
  of_numbers c a (Ok x) le = of_counts c (with_tx a x.0) x.1 le
  of_numbers c a (Err e) le = tt

  of_opening : (c : Choices) (a : Active) → a.entity.setup.g + 1 ≤ b → Good (opens c a).1
  of_opening c a le =
      let again = anchor_recovers c (record a { is_open = true }) in
      both_good again.1 (with_numbers c again.0 (give_numbers again.0.entity.tx)).1 (of_recovery c (record a { is_open = true }) le) (of_numbers c again.0 (give_numbers again.0.entity.tx) le)

  of_open_if : (is : Bool) (c : Choices) (a : Active) → a.entity.setup.g + 1 ≤ b → Good (open_if is c a).1
  of_open_if true c a le = of_opening c a le
  of_open_if false c a le = tt

  pub unlock_good : (c : Choices) (s : AnchorState) → (setup_at s).g + 1 ≤ b → Good (unlock c s).1.sends
  unlock_good c (waiting_anchor w) le = tt
  unlock_good c (active_anchor a) le = of_open_if (not a.is_open) c a le

  of_recovery_at : (is : Bool) (c : Choices) (a : Active) → a.entity.setup.g + 1 ≤ b → Good (recover_at is c a).1
  of_recovery_at true c a le = of_recovery c a le
  of_recovery_at false c a le = tt

  pub recover_good : (c : Choices) (s : AnchorState) → (setup_at s).g + 1 ≤ b → Good (recover c s).1.sends
  recover_good c (waiting_anchor w) le = tt
  recover_good c (active_anchor a) le = of_recovery_at a.is_open c a le

  pub fail_good : (c : Choices) (s : AnchorState) → (setup_at s).g + 1 ≤ b → Good (fail_scg c s).1.sends
  fail_good c (waiting_anchor w) le = tt
  fail_good c (active_anchor a) le = of_recovery_at a.is_open c (record a { entity = with_failure a.entity }) le

  of_report_at : (is : Bool) (c : Choices) (a : Active) → a.entity.setup.g + 1 ≤ b → Good (report_at is c a).1
  of_report_at true c a le = of_entity a (send_report c a.entity) le
  of_report_at false c a le = tt

  pub report_good : (c : Choices) (s : AnchorState) → (setup_at s).g + 1 ≤ b → Good (report c s).1.sends
  report_good c (waiting_anchor w) le = tt
  report_good c (active_anchor a) le = of_report_at a.is_open c a le

  -- ---- what comes to an anchor

  of_adoption : (c : Choices) (w : Waiting) (st : Option StatusTransfer) (down up : Option (List Sdu)) → w.setup.g + 1 ≤ b → Good (adopts_with c w st down up).1.sends
  of_adoption c w None down up le = tt
  of_adoption c w (Some st) None up le = tt
  of_adoption c w (Some st) (Some down) None le = tt
  of_adoption c w (Some st) (Some down) (Some up) le =
      let e = taken_over w st down up in
      of_open_if w.is_told c (record { entity = (take_pdus e w.pdus).0; is_open = false; tunnel = new_tunnel w.setup.n })
      (subst (λ k. k + 1 ≤ b) (sym (pdus_generation e w.pdus)) le)

  of_settled : (c : Choices) (w : Waiting) → w.setup.g + 1 ≤ b → Good (settled c w).1.sends
  of_settled c w le = of_adoption c w w.transfer (whole w.down) (whole w.up) le

  out_good : (t : Bool) (x y : AnchorState × AnchorOut) → Good x.1.sends → Good y.1.sends → Good (if t then x else y).1.sends
  out_good true x y is else' = is
  out_good false x y is else' = else'

  pub status_good : (c : Choices) (s : AnchorState) (st : StatusTransfer) → (setup_at s).g + 1 ≤ b → Good (status_in c s st).1.sends
  status_good c (waiting_anchor w) st le =
      out_good (is_of w.setup st.id st.g && is_none w.transfer) (settled c (record w { transfer = Some st })) (waiting_anchor w, silent) (of_settled c (record w { transfer = Some st }) le) tt
  status_good c (active_anchor a) st le = tt

  of_load : (c : Choices) (w : Waiting) (d : Dir) (load : Load) → w.setup.g + 1 ≤ b → Good (settled c (with_load w d load)).1.sends
  of_load c w Dl load le = of_settled c (with_load w Dl load) le
  of_load c w Ul load le = of_settled c (with_load w Ul load) le

  of_forward : (c : Choices) (s : AnchorState) (d : Dir) (load : Load) → (setup_at s).g + 1 ≤ b → Good (forward_in c s d load).1.sends
  of_forward c (waiting_anchor w) d load le = of_load c w d load le
  of_forward c (active_anchor a) d load le = tt

  of_pdu : (s : AnchorState) (x : Content) → Good (pdu_in s x).1.sends
  of_pdu (waiting_anchor w) x = tt
  of_pdu (active_anchor a) x = tt

  of_ack : (s : Setup) (num : ℕ) (failed : Bool) → Good (ack s num failed)
  of_ack s num true = tt
  of_ack s num false = (tt, tt)

  of_air_pdu : (s : AnchorState) (num : ℕ) (r : Result Content PduErr) → Good (air_pdu s num r).1.sends
  of_air_pdu s num (Err e) = tt
  of_air_pdu s num (Ok x) =
      let setup = setup_at s in
      let failed = has_failed setup (anchor_cell setup.legs.shape) in
      both_good (ack setup num failed) (pdu_in s x).1.sends (of_ack setup num failed) (of_pdu s x)

  of_air_ack : (s : AnchorState) (num : ℕ) → Good (air_ack s num).1.sends
  of_air_ack (waiting_anchor w) num = tt
  of_air_ack (active_anchor a) num = tt

  pub air_good : (s : AnchorState) (cell : Cell) (f : Flight) → Good (air_in s cell f).1.sends
  air_good s cell (flight.Air id g num tag pdu) = out_good (is_on_leg (setup_at s) cell id g) (air_pdu s num (decoded (setup_at s).n pdu)) (s, silent) (of_air_pdu s num (decoded (setup_at s).n pdu)) tt
  air_good s cell (flight.Ack id g num) = out_good (is_on_leg (setup_at s) cell id g) (air_ack s num) (s, silent) (of_air_ack s num) tt
  air_good s cell (flight.Tun tag packet) = tt
  air_good s cell (flight.Sdu id g sdu) = tt
  air_good s cell (flight.End id g) = tt
  air_good s cell (flight.Told id g count) = tt
  air_good s cell (flight.Ctl r) = tt

  of_relayed : (s : AnchorState) (r : Result Content PduErr) → Good (relayed_pdu s r).1.sends
  of_relayed s (Err e) = tt
  of_relayed s (Ok x) = of_pdu s x

  of_delivery : (c : Choices) (s : AnchorState) (status : Frame) → (setup_at s).g + 1 ≤ b → Good (delivery_in c s status).1.sends
  of_delivery c (waiting_anchor w) status le = tt
  of_delivery c (active_anchor a) status le =
      let confirmed = with_delivery a status in
      of_counts c confirmed (ascending (again_of a.tunnel (low a.entity.tx) status)) le

  of_packet : (c : Choices) (s : AnchorState) (p : Packet) → (setup_at s).g + 1 ≤ b → Good (packet_in c s p).1.sends
  of_packet c s (pdu_down id g number repeat pdu) le = tt
  of_packet c s (pdu_up id g pdu) le = out_good (is_from_host (setup_at s) id g) (relayed_pdu s (decoded (setup_at s).n pdu)) (s, silent) (of_relayed s (decoded (setup_at s).n pdu)) tt
  of_packet c s (delivery id g status) le = out_good (is_from_host (setup_at s) id g) (delivery_in c s status) (s, silent) (of_delivery c s status le) tt
  of_packet c s (forwarding id g d load) le = out_good (is_of (setup_at s) id g) (forward_in c s d load) (s, silent) (of_forward c s d load le) tt
  of_packet c s nothing le = tt

  pub tunnel_good : (c : Choices) (s : AnchorState) (f : Flight) → (setup_at s).g + 1 ≤ b → Good (tunnel_in c s f).1.sends
  tunnel_good c s (flight.Tun tag packet) le = of_packet c s (packet_of packet) le
  tunnel_good c s (flight.Air id g num tag pdu) le = tt
  tunnel_good c s (flight.Ack id g num) le = tt
  tunnel_good c s (flight.Sdu id g sdu) le = tt
  tunnel_good c s (flight.End id g) le = tt
  tunnel_good c s (flight.Told id g count) le = tt
  tunnel_good c s (flight.Ctl r) le = tt

  -- ---- what a frozen anchor forwards

  of_pieces : (t : Tunnel) (kind number : ℕ) (sdus : List Sdu) → t.g + 1 ≤ b → Good (pieces t (teid t.g t.id kind) number sdus)
  of_pieces t kind number [] le = tt
  of_pieces t kind number (s ∷ ss) le = (record { content = sdu_packet (teid t.g t.id kind) t.n number s; g = t.g; id = t.id; kind = kind; is = refl; of = refl; le = le }, of_pieces t kind (number + 1) ss le)

  of_closing : (t : Tunnel) (kind total : ℕ) → t.g + 1 ≤ b → Good (closing t (teid t.g t.id kind) total)
  of_closing t kind total le = (
    record { content = total_packet (teid t.g t.id kind) total; g = t.g; id = t.id; kind = kind; is = refl; of = refl; le = le },
    (record { content = end_marker (teid t.g t.id kind); g = t.g; id = t.id; kind = kind; is = refl; of = refl; le = le }, tt),
  )

  of_whole : (t : Tunnel) (kind : ℕ) (sdus : List Sdu) → t.g + 1 ≤ b → Good (whole_tunnel t (teid t.g t.id kind) sdus)
  of_whole t kind sdus le =
      both_good (pieces t (teid t.g t.id kind) 0 sdus) (closing t (teid t.g t.id kind) (length sdus)) (of_pieces t kind 0 sdus le) (of_closing t kind (length sdus) le)

  of_down : (t : Tunnel) (last : Bool) (sdus : List Sdu) → t.g + 1 ≤ b → Good (down_sends t last sdus)
  of_down t true sdus le = of_whole t 1 sdus le
  of_down t false sdus le = of_pieces t 1 0 sdus le

  pub freeze_good : (a : Active) (to : Node) (g : ℕ) (last : Bool) → g + 1 ≤ b → Good (freeze a to g last).sends
  freeze_good a to g last le =
      let t = freezing.new_tunnel a.entity to g in
      both_good (down_sends t last (down_sdus a.entity)) (whole_tunnel t (teid g a.entity.setup.id 2) (up_sdus a.entity)) (of_down t last (down_sdus a.entity) le) (of_whole t 2 (up_sdus a.entity) le)

  pub frozen_sdu_good : (f : Frozen) (g : ℕ) (sdu : List ℕ) → f.tunnel.g + 1 ≤ b → Good (frozen_sdu_in f g sdu).1
  frozen_sdu_good f g sdu le =
      if_good (nat_le f.since g && nat_lt g f.tunnel.g) (record f { tunnel = (forward_fresh f.tunnel sdu).0 }, (forward_fresh f.tunnel sdu).1) (f, []) (of_pieces f.tunnel 1 f.tunnel.next ((None, sdu) ∷ []) le) tt

  pub frozen_end_good : (f : Frozen) (g : ℕ) → f.tunnel.g + 1 ≤ b → Good (frozen_end_in f g).1
  frozen_end_good f g le = if_good (f.tunnel.g == g) (None, forward_end f.tunnel) (Some f, []) (of_closing f.tunnel 1 f.tunnel.next le) tt

  -- ---- what a leg host sends

  of_confirm : (h : Host) (o : Option ℕ) → h.g + 1 ≤ b → Good (confirmed h o).1
  of_confirm h None le = tt
  of_confirm h (Some number) le = (own_below h.g h.id (Some (written (status_of (with_ack h.tunnel number)))) [] le, tt)

  -- what it relays is of its generation
  relays : (h : Host) (id g num : ℕ) (tag : Option ℕ) (pdu : List ℕ) (t : Bool) → is_hosts h id g ≡ t → h.g + 1 ≤ b
      → Good (if◌then◌else◌ {A = Host × List Send} t (h, to_terminal h (flight.Ack id g num) ∷ to_anchor h tag (up_packet g id pdu) ∷ []) (h, [])).1
  relays h id g num tag pdu true is le =
      (tt, (own_below g id None pdu (subst (λ k. k + 1 ≤ b) (eqb-true h.g g (right_of (h.id == id) (h.g == g) is)) le), tt))
    where
      right_of : (x y : Bool) → (x && y) ≡ true → y ≡ true
      right_of true y is' = is'
      right_of false y is' = absurd cc
  relays h id g num tag pdu false is le = tt

  pub host_air_good : (h : Host) (f : Flight) → h.g + 1 ≤ b → Good (host_air_in h f).1
  host_air_good h (flight.Air id g num tag pdu) le = relays h id g num tag pdu (is_hosts h id g) refl le
  host_air_good h (flight.Ack id g num) le = if_good (is_hosts h id g) (confirmed h (slice_get h.carried num)) (h, []) (of_confirm h (slice_get h.carried num) le) tt
  host_air_good h (flight.Tun tag packet) le = tt
  host_air_good h (flight.Sdu id g payload) le = tt
  host_air_good h (flight.End id g) le = tt
  host_air_good h (flight.Told id g count) le = tt
  host_air_good h (flight.Ctl r) le = tt

  of_put : (h : Host) (number : ℕ) (repeat : Bool) (tag : Option ℕ) (pdu : List ℕ) (r : Result Content PduErr) → h.g + 1 ≤ b → Good (pdu_came h number repeat tag pdu r).1
  of_put h number repeat tag pdu (Err e) le = tt
  of_put h number repeat tag pdu (Ok x) le = if_good (has number h.tunnel.came) (h, []) (put_on_leg h number repeat tag pdu (sn_in x)) tt (le, tt)

  of_host_packet : (h : Host) (tag : Option ℕ) (p : Packet) → h.g + 1 ≤ b → Good (host_packet h tag p).1
  of_host_packet h tag (pdu_down id g number repeat pdu) le =
      if_good (is_hosts h id g) (pdu_came h number repeat tag pdu (decoded h.tunnel.n pdu)) (h, []) (of_put h number repeat tag pdu (decoded h.tunnel.n pdu) le) tt
  of_host_packet h tag (pdu_up id g pdu) le = tt
  of_host_packet h tag (delivery id g status) le = tt
  of_host_packet h tag (forwarding id g d load) le = tt
  of_host_packet h tag nothing le = tt

  pub host_tunnel_good : (h : Host) (f : Flight) → h.g + 1 ≤ b → Good (host_tunnel_in h f).1
  host_tunnel_good h (flight.Tun tag packet) le = of_host_packet h tag (packet_of packet) le
  host_tunnel_good h (flight.Air id g num tag pdu) le = tt
  host_tunnel_good h (flight.Ack id g num) le = tt
  host_tunnel_good h (flight.Sdu id g payload) le = tt
  host_tunnel_good h (flight.End id g) le = tt
  host_tunnel_good h (flight.Told id g count) le = tt
  host_tunnel_good h (flight.Ctl r) le = tt
