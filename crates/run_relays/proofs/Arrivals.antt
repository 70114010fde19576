-- What comes to an anchor: what it sends then is no uplink PDU, and what it keeps while it waits is read of the PDU that came.
use Rattle.std.proofs.Common.{ℕ, ◌≡◌, ◌&&◌, Bool, true, false, List, [], ◌∷◌, Option, Some, None, refl, sym, subst, inl, inr, ◌==◌}
use Rattle.std.specs.Prelude.{Ok, Err, Result, is_none, is_some}
use Rattle.std.proofs.lemmas.Bool.{and_parts, cases_Bool, eqb-true}
use Rattle.dc_base.specs.declared.flights.Flight.{Flight}
use Rattle.dc_base.specs.declared.flights.Flight.TheVariants as flight
use Rattle.dc_base.specs.declared.nodes.Cell.{Cell}
use Rattle.dc_base.specs.declared.nodes.Dir.{Dir}
use Rattle.dc_base.specs.declared.nodes.Dir.TheVariants.{Dl, Ul}
use Rattle.dc_base.specs.declared.records.StatusTransfer.{StatusTransfer}
use Rattle.forward.specs.Forwarded.{whole}
use Rattle.forward.specs.Load.{Load, Sdu}
use Rattle.nr_u.specs.Tunnel.Verdicts.{again_of}
use Rattle.nr_u.specs.declared.frame.Frame.{Frame}
use Rattle.pdcp_pdu.specs.Pdu.{Content, decoded}
use Rattle.pdcp_pdu.specs.declared.pdu.PduErr.{PduErr}
use Rattle.pdcp_tx.specs.Sender.{low}
use Rattle.transcript.proofs.OnEach.{each_append}
use Rattle.node_rules.specs.Adopting.{adopts_with, forward_in, settled, status_in, taken_over, with_load}
use Rattle.node_rules.specs.Anchor.{AnchorState, Waiting, active_anchor, new_tunnel, setup_at, silent, waiting_anchor}
use Rattle.node_rules.specs.AnchorReceiving.{ack, air_ack, air_in, air_pdu, ascending, delivery_in, is_from_host, is_on_leg, packet_in, pdu_in, relayed_pdu, tunnel_in, with_delivery}
use Rattle.node_rules.specs.Choices.{Choices}
use Rattle.node_rules.specs.Entity.{take_pdus}
use Rattle.node_rules.specs.Packets.{Packet, delivery, forwarding, nothing, packet_of, pdu_down, pdu_up}
use Rattle.node_rules.specs.Setup.{Setup, anchor_cell, has_cell, has_failed, host_of, is_of, is_same_cell}
use Rattle.run_control.proofs.Sent.{either}
use Rattle.run_relays.specs.Kept.{Brings, IsReadOf, KeepsOf}
use Rattle.run_relays.specs.Relays.{ArePlain}
use Rattle.run_relays.proofs.AnchorSends.{AnchorDoes, both_plain, of_counts, of_open_if}

module _ (P : ℕ → ℕ → List ℕ → Type 0) where
  idle : (s : AnchorState) → KeepsOf P s → AnchorDoes P (s, silent)
  idle s keeps = record { keeps = keeps; plain = tt }

  -- ---- PDUs

  -- a content that was read of such a PDU
  by_pdu : (s : AnchorState) (x : Content) → IsReadOf P (setup_at s) x → KeepsOf P s → AnchorDoes P (pdu_in s x)
  by_pdu (waiting_anchor w) x is keeps = record { keeps = each_append (IsReadOf P w.setup) w.pdus (x ∷ []) keeps (is, tt); plain = tt }
  by_pdu (active_anchor a) x is keeps = record { keeps = tt; plain = tt }

  by_ack : (s : Setup) (num : ℕ) (failed : Bool) → ArePlain (ack s num failed)
  by_ack s num true = tt
  by_ack s num false = (tt, tt)

  by_air_pdu : (s : AnchorState) (num : ℕ) (pdu : List ℕ) (r : Result Content PduErr) → decoded (setup_at s).n pdu ≡ r → P (setup_at s).id (setup_at s).g pdu → KeepsOf P s → AnchorDoes P (air_pdu s num r)
  by_air_pdu s num pdu (Err e) reads so keeps = idle s keeps
  by_air_pdu s num pdu (Ok x) reads so keeps =
      let setup = setup_at s in
      let failed = has_failed setup (anchor_cell setup.legs.shape) in
      let done = by_pdu s x (record { pdu = pdu; reads = reads; so = so }) keeps in
      record { keeps = done.keeps; plain = both_plain (ack setup num failed) (pdu_in s x).1.sends (by_ack setup num failed) done.plain }

  by_air_ack : (s : AnchorState) (num : ℕ) → KeepsOf P s → AnchorDoes P (air_ack s num)
  by_air_ack (waiting_anchor w) num keeps = idle (waiting_anchor w) keeps
  by_air_ack (active_anchor a) num keeps = record { keeps = tt; plain = tt }

  -- of the setup's own identity and generation
  own : (s : Setup) (id g : ℕ) (pdu : List ℕ) → is_of s id g ≡ true → P id g pdu → P s.id s.g pdu
  own s id g pdu of so =
      let both = and_parts (s.id == id) (s.g == g) of in
      subst (λ k. P k s.g pdu) (sym (eqb-true s.id id both.0)) (subst (λ k. P id k pdu) (sym (eqb-true s.g g both.1)) so)

  -- over the air
  pub air_does : (s : AnchorState) (cell : Cell) (f : Flight) → Brings P f → KeepsOf P s → AnchorDoes P (air_in s cell f)
  air_does s cell (flight.Air id g num tag pdu) brings keeps =
      elim (cases_Bool (is_on_leg (setup_at s) cell id g)) [
        | inl on ↦
            let first = and_parts (is_of (setup_at s) id g && is_same_cell cell (anchor_cell (setup_at s).legs.shape)) (has_cell (setup_at s) cell) on in
            let of = and_parts (is_of (setup_at s) id g) (is_same_cell cell (anchor_cell (setup_at s).legs.shape)) first.0 in
            rw on (by_air_pdu s num pdu (decoded (setup_at s).n pdu) refl (own (setup_at s) id g pdu of.0 brings) keeps)
        | inr off ↦ rw off (idle s keeps)
      ]
  air_does s cell (flight.Ack id g num) brings keeps = either (AnchorDoes P) (is_on_leg (setup_at s) cell id g) (air_ack s num) (s, silent) (by_air_ack s num keeps) (idle s keeps)
  air_does s cell (flight.Tun tag packet) brings keeps = idle s keeps
  air_does s cell (flight.Sdu id g sdu) brings keeps = idle s keeps
  air_does s cell (flight.End id g) brings keeps = idle s keeps
  air_does s cell (flight.Told id g count) brings keeps = idle s keeps
  air_does s cell (flight.Ctl r) brings keeps = idle s keeps

  -- ---- the adoption

  by_adoption : (c : Choices) (w : Waiting) (st : Option StatusTransfer) (down up : Option (List Sdu)) → KeepsOf P (waiting_anchor w) → AnchorDoes P (adopts_with c w st down up)
  by_adoption c w None down up keeps = idle (waiting_anchor w) keeps
  by_adoption c w (Some st) None up keeps = idle (waiting_anchor w) keeps
  by_adoption c w (Some st) (Some down) None keeps = idle (waiting_anchor w) keeps
  by_adoption c w (Some st) (Some down) (Some up) keeps =
      let e = taken_over w st down up in
      record { keeps = tt; plain = of_open_if w.is_told c (record { entity = (take_pdus e w.pdus).0; is_open = false; tunnel = new_tunnel w.setup.n }) }

  by_settled : (c : Choices) (w : Waiting) → KeepsOf P (waiting_anchor w) → AnchorDoes P (settled c w)
  by_settled c w keeps = by_adoption c w w.transfer (whole w.down) (whole w.up) keeps

  pub status_does : (c : Choices) (s : AnchorState) (st : StatusTransfer) → KeepsOf P s → AnchorDoes P (status_in c s st)
  status_does c (waiting_anchor w) st keeps =
      either (AnchorDoes P) (is_of w.setup st.id st.g && is_none w.transfer) (settled c (record w { transfer = Some st })) (waiting_anchor w, silent)
      (by_settled c (record w { transfer = Some st }) keeps) (idle (waiting_anchor w) keeps)
  status_does c (active_anchor a) st keeps = idle (active_anchor a) tt

  by_forward : (c : Choices) (s : AnchorState) (d : Dir) (load : Load) → KeepsOf P s → AnchorDoes P (forward_in c s d load)
  by_forward c (waiting_anchor w) Dl load keeps = by_settled c (with_load w Dl load) keeps
  by_forward c (waiting_anchor w) Ul load keeps = by_settled c (with_load w Ul load) keeps
  by_forward c (active_anchor a) d load keeps = idle (active_anchor a) tt

  -- ---- through a tunnel

  by_relayed : (s : AnchorState) (pdu : List ℕ) (r : Result Content PduErr) → decoded (setup_at s).n pdu ≡ r → P (setup_at s).id (setup_at s).g pdu → KeepsOf P s → AnchorDoes P (relayed_pdu s r)
  by_relayed s pdu (Err e) reads so keeps = idle s keeps
  by_relayed s pdu (Ok x) reads so keeps = by_pdu s x (record { pdu = pdu; reads = reads; so = so }) keeps

  by_delivery : (c : Choices) (s : AnchorState) (status : Frame) → KeepsOf P s → AnchorDoes P (delivery_in c s status)
  by_delivery c (waiting_anchor w) status keeps = idle (waiting_anchor w) keeps
  by_delivery c (active_anchor a) status keeps = record { keeps = tt; plain = of_counts c (with_delivery a status) (ascending (again_of a.tunnel (low a.entity.tx) status)) }

  by_packet : (c : Choices) (s : AnchorState) (p : Packet) → ((id g : ℕ) (pdu : List ℕ) → p ≡ pdu_up id g pdu → P id g pdu) → KeepsOf P s → AnchorDoes P (packet_in c s p)
  by_packet c s (pdu_down id g number repeat pdu) brings keeps = idle s keeps
  by_packet c s (pdu_up id g pdu) brings keeps =
      elim (cases_Bool (is_from_host (setup_at s) id g)) [
        | inl on ↦
            let of = and_parts (is_of (setup_at s) id g) (is_some (host_of (setup_at s))) on in
            rw on (by_relayed s pdu (decoded (setup_at s).n pdu) refl (own (setup_at s) id g pdu of.0 (brings id g pdu refl)) keeps)
        | inr off ↦ rw off (idle s keeps)
      ]
  by_packet c s (delivery id g status) brings keeps = either (AnchorDoes P) (is_from_host (setup_at s) id g) (delivery_in c s status) (s, silent) (by_delivery c s status keeps) (idle s keeps)
  by_packet c s (forwarding id g d load) brings keeps = either (AnchorDoes P) (is_of (setup_at s) id g) (forward_in c s d load) (s, silent) (by_forward c s d load keeps) (idle s keeps)
  by_packet c s nothing brings keeps = idle s keeps

  pub tunnel_does : (c : Choices) (s : AnchorState) (f : Flight) → Brings P f → KeepsOf P s → AnchorDoes P (tunnel_in c s f)
  tunnel_does c s (flight.Tun tag packet) brings keeps = by_packet c s (packet_of packet) brings keeps
  tunnel_does c s (flight.Air id g num tag pdu) brings keeps = idle s keeps
  tunnel_does c s (flight.Ack id g num) brings keeps = idle s keeps
  tunnel_does c s (flight.Sdu id g sdu) brings keeps = idle s keeps
  tunnel_does c s (flight.End id g) brings keeps = idle s keeps
  tunnel_does c s (flight.Told id g count) brings keeps = idle s keeps
  tunnel_does c s (flight.Ctl r) brings keeps = idle s keeps
