-- What an entity keeps in each of its steps, an anchor keeps in each of its own; so it is of the length of its SNs.
use Rattle.std.proofs.Common.{ℕ, ◌≡◌, ◌+◌, ◌==◌, ◌&&◌, ◌^◌, ◌-◌, ◌∙◌, Bool, true, false, List, [], ◌∷◌, Option, Some, None, length, not, refl, sym, ap, inl, inr}
use Rattle.std.specs.Prelude.{Err, Ok, Result, if◌then◌else◌, is_none}
use Rattle.std.proofs.lemmas.Bool.{cases_eq, cases_lt}
use Rattle.dc_base.specs.Count.{window}
use Rattle.dc_base.specs.declared.flights.Flight.{Flight}
use Rattle.dc_base.specs.declared.flights.Flight.TheVariants as flight
use Rattle.dc_base.specs.declared.nodes.Cell.{Cell}
use Rattle.dc_base.specs.declared.nodes.Dir.{Dir}
use Rattle.dc_base.specs.declared.numbers.SnLen.{SnLen}
use Rattle.dc_base.specs.declared.records.StatusTransfer.{StatusTransfer}
use Rattle.forward.specs.Forwarded.{whole}
use Rattle.forward.specs.Load.{Load, Sdu}
use Rattle.nr_u.specs.Tunnel.Incoming.{contains}
use Rattle.nr_u.specs.Tunnel.Verdicts.{confirmed_of}
use Rattle.nr_u.specs.declared.frame.Frame.{Frame}
use Rattle.pdcp_pdu.specs.Bitmap.{names}
use Rattle.pdcp_pdu.specs.Pdu.{Content, decoded, report, sdu}
use Rattle.pdcp_pdu.specs.declared.pdu.PduErr.{PduErr}
use Rattle.pdcp_tx.specs.Sender.{Sender, low}
use Rattle.pdcp_tx.specs.Sending.{give_numbers, take_sdu}
use Rattle.pdcp_tx.specs.declared.tx.TxErr.{TxErr}
use Rattle.pdcp_tx.proofs.Rules.{give_numbers-exhausted, give_numbers-full, give_numbers-ok, take_sdu-exhausted, take_sdu-full, take_sdu-ok}
use Rattle.split_leg.specs.Legs.{acked_count, leg_at, with_ack, with_leg}
use Rattle.node_rules.specs.Adopting.{adopts_with, forward_in, settled, status_in, taken_over, with_load}
use Rattle.node_rules.specs.Anchor.{Active, AnchorState, Waiting, active_anchor, new_tunnel, setup_at, silent, waiting_anchor}
use Rattle.node_rules.specs.AnchorReceiving.{acked, air_ack, air_in, air_pdu, delivery_in, is_from_host, is_on_leg, packet_in, pdu_in, relayed_pdu, tunnel_in}
use Rattle.node_rules.specs.AnchorSending.{anchor_recovers, fail_scg, open_if, recover, recover_at, report as asked_report, report_at, submit, submit_as, submit_at, unlock, with_failure, with_numbers}
use Rattle.node_rules.specs.Choices.{Choices}
use Rattle.node_rules.specs.Entity.{Entity, confirmed_count, confirmed_where, take_pdu, take_pdus}
use Rattle.node_rules.specs.Packets.{Packet, delivery, forwarding, nothing, packet_of, pdu_down, pdu_up}
use Rattle.node_rules.specs.Setup.{anchor_cell, is_of, with_failed_scg}
use Rattle.node_rules.specs.declared.bearers.AnchorOut.{AnchorOut}
use Rattle.run_downlinks.specs.Entities.{HasLength, IsEntityLaw, Keeps, OfActive}

module _ (Q : Entity → Type 0) (law : IsEntityLaw Q) where
  -- whichever of two
  either_way : (t : Bool) (x y : AnchorState × AnchorOut) → OfActive Q x.0 → OfActive Q y.0 → OfActive Q (if t then x else y).0
  either_way true x y one two = one
  either_way false x y one two = two

  -- ---- an active anchor

  submission_keeps : (c : Choices) (a : Active) (p : List ℕ) (r : Result (Sender × ℕ) TxErr) → take_sdu a.entity.tx p ≡ r → Q a.entity → Q (submit_as c a p r).0.entity
  submission_keeps c a p (Ok (tx, count)) took is = law.sends (record a.entity { tx = tx }) _ (law.takes a.entity p tx count took is)
  submission_keeps c a p (Err e) took is = law.holds a.entity p is

  submit_keeps : (t : Bool) (c : Choices) (a : Active) (p : List ℕ) → Q a.entity → Q (submit_at t c a p).0.entity
  submit_keeps true c a p is = submission_keeps c a p (take_sdu a.entity.tx p) refl is
  submit_keeps false c a p is = law.holds a.entity p is

  numbers_keep : (c : Choices) (a : Active) (r : Result (Sender × List ℕ) TxErr) → give_numbers a.entity.tx ≡ r → Q a.entity → Q (with_numbers c a r).0.entity
  numbers_keep c a (Ok (tx, given)) gave is = law.sends (record a.entity { tx = tx }) _ (law.numbers a.entity tx given gave is)
  numbers_keep c a (Err e) gave is = is

  open_keeps : (t : Bool) (c : Choices) (a : Active) → Q a.entity → Q (open_if t c a).0.entity
  open_keeps true c a is = let again = anchor_recovers c (record a { is_open = true }) in numbers_keep c again.0 (give_numbers again.0.entity.tx) refl (law.sends a.entity _ is)
  open_keeps false c a is = is

  recover_keeps : (t : Bool) (c : Choices) (a : Active) → Q a.entity → Q (recover_at t c a).0.entity
  recover_keeps true c a is = law.sends a.entity _ is
  recover_keeps false c a is = is

  report_keeps : (t : Bool) (c : Choices) (a : Active) → Q a.entity → Q (report_at t c a).0.entity
  report_keeps true c a is = law.sends a.entity _ is
  report_keeps false c a is = is

  -- ---- what comes to it

  count_keeps : (e : Entity) (o : Option ℕ) → Q e → Q (confirmed_count e o)
  count_keeps e None is = is
  count_keeps e (Some count) is = law.confirms (λ c. c == count) e is

  taken_keeps : (e : Entity) (x : Content) → Q e → Q (take_pdu e x).0
  taken_keeps e (sdu s body) is = law.receives e _ is
  taken_keeps e (report fmc bits) is = law.confirms (names fmc bits) e is

  all_keep : (e : Entity) (xs : List Content) → Q e → Q (take_pdus e xs).0
  all_keep e [] is = is
  all_keep e (x ∷ xs) is = all_keep (take_pdu e x).0 xs (taken_keeps e x is)

  pdu_keeps : (s : AnchorState) (x : Content) → Keeps Q s (pdu_in s x)
  pdu_keeps (waiting_anchor w) x is = tt
  pdu_keeps (active_anchor a) x is = taken_keeps a.entity x is

  air_pdu_keeps : (s : AnchorState) (num : ℕ) (r : Result Content PduErr) → Keeps Q s (air_pdu s num r)
  air_pdu_keeps s num (Err e) is = is
  air_pdu_keeps s num (Ok x) is = pdu_keeps s x is

  acked_keeps : (e : Entity) (cell : Cell) (num : ℕ) → Q e → Q (acked e cell num)
  acked_keeps e cell num is =
      let leg = leg_at e.setup.legs cell in
      let legs = with_leg e.setup.legs cell (with_ack leg num) in
      count_keeps (record e { setup = record e.setup { legs = legs } }) (acked_count leg.pdus num) (law.sends e legs is)

  air_ack_keeps : (s : AnchorState) (num : ℕ) → Keeps Q s (air_ack s num)
  air_ack_keeps (waiting_anchor w) num is = tt
  air_ack_keeps (active_anchor a) num is = acked_keeps a.entity (anchor_cell a.entity.setup.legs.shape) num is

  pub hears : (s : AnchorState) (cell : Cell) (f : Flight) → Keeps Q s (air_in s cell f)
  hears s cell (flight.Air id g num tag pdu) is =
      either_way (is_on_leg (setup_at s) cell id g) (air_pdu s num (decoded (setup_at s).n pdu)) (s, silent) (air_pdu_keeps s num (decoded (setup_at s).n pdu) is) is
  hears s cell (flight.Ack id g num) is = either_way (is_on_leg (setup_at s) cell id g) (air_ack s num) (s, silent) (air_ack_keeps s num is) is
  hears s cell (flight.Tun tag packet) is = is
  hears s cell (flight.Sdu id g payload) is = is
  hears s cell (flight.End id g) is = is
  hears s cell (flight.Told id g count) is = is
  hears s cell (flight.Ctl r) is = is

  -- ---- the adoption

  adoption_keeps : (c : Choices) (w : Waiting) (st : Option StatusTransfer) (down up : Option (List Sdu)) → OfActive Q (adopts_with c w st down up).0
  adoption_keeps c w None down up = tt
  adoption_keeps c w (Some st) None up = tt
  adoption_keeps c w (Some st) (Some down) None = tt
  adoption_keeps c w (Some st) (Some down) (Some up) =
      let e = taken_over w st down up in
      open_keeps w.is_told c (record { entity = (take_pdus e w.pdus).0; is_open = false; tunnel = new_tunnel w.setup.n }) (all_keep e w.pdus (law.begins w st down up))

  settled_keeps : (c : Choices) (w : Waiting) → OfActive Q (settled c w).0
  settled_keeps c w = adoption_keeps c w w.transfer (whole w.down) (whole w.up)

  forward_keeps : (c : Choices) (s : AnchorState) (d : Dir) (load : Load) → Keeps Q s (forward_in c s d load)
  forward_keeps c (waiting_anchor w) d load is = settled_keeps c (with_load w d load)
  forward_keeps c (active_anchor a) d load is = is

  pub transfers : (c : Choices) (s : AnchorState) (st : StatusTransfer) → Keeps Q s (status_in c s st)
  transfers c (waiting_anchor w) st is =
      let v : Waiting = record w { transfer = Some st } in
      either_way (is_of w.setup st.id st.g && is_none w.transfer) (settled c v) (waiting_anchor w, silent) (settled_keeps c v) tt
  transfers c (active_anchor a) st is = is

  -- ---- through a tunnel

  relayed_keeps : (s : AnchorState) (r : Result Content PduErr) → Keeps Q s (relayed_pdu s r)
  relayed_keeps s (Err e) is = is
  relayed_keeps s (Ok x) is = pdu_keeps s x is

  delivery_keeps : (c : Choices) (s : AnchorState) (status : Frame) → Keeps Q s (delivery_in c s status)
  delivery_keeps c (waiting_anchor w) status is = tt
  delivery_keeps c (active_anchor a) status is =
      law.sends (confirmed_where (λ x. contains x (confirmed_of a.tunnel (low a.entity.tx) status)) a.entity) _ (law.confirms (λ x. contains x (confirmed_of a.tunnel (low a.entity.tx) status)) a.entity is)

  packet_keeps : (c : Choices) (s : AnchorState) (p : Packet) → Keeps Q s (packet_in c s p)
  packet_keeps c s (pdu_down id g number repeat pdu) is = is
  packet_keeps c s (pdu_up id g pdu) is =
      either_way (is_from_host (setup_at s) id g) (relayed_pdu s (decoded (setup_at s).n pdu)) (s, silent) (relayed_keeps s (decoded (setup_at s).n pdu) is) is
  packet_keeps c s (delivery id g status) is = either_way (is_from_host (setup_at s) id g) (delivery_in c s status) (s, silent) (delivery_keeps c s status is) is
  packet_keeps c s (forwarding id g d load) is = either_way (is_of (setup_at s) id g) (forward_in c s d load) (s, silent) (forward_keeps c s d load is) is
  packet_keeps c s nothing is = is

  pub tunnels : (c : Choices) (s : AnchorState) (f : Flight) → Keeps Q s (tunnel_in c s f)
  tunnels c s (flight.Tun tag packet) is = packet_keeps c s (packet_of packet) is
  tunnels c s (flight.Air id g num tag pdu) is = is
  tunnels c s (flight.Ack id g num) is = is
  tunnels c s (flight.Sdu id g payload) is = is
  tunnels c s (flight.End id g) is = is
  tunnels c s (flight.Told id g count) is = is
  tunnels c s (flight.Ctl r) is = is

  -- ---- what it is asked for

  pub submits : (c : Choices) (s : AnchorState) (p : List ℕ) → Keeps Q s (submit c s p)
  submits c (waiting_anchor w) p is = tt
  submits c (active_anchor a) p is = submit_keeps a.is_open c a p is

  pub unlocks : (c : Choices) (s : AnchorState) → Keeps Q s (unlock c s)
  unlocks c (waiting_anchor w) is = tt
  unlocks c (active_anchor a) is = open_keeps (not a.is_open) c a is

  pub recovers : (c : Choices) (s : AnchorState) → Keeps Q s (recover c s)
  recovers c (waiting_anchor w) is = tt
  recovers c (active_anchor a) is = recover_keeps a.is_open c a is

  pub fails : (c : Choices) (s : AnchorState) → Keeps Q s (fail_scg c s)
  fails c (waiting_anchor w) is = tt
  fails c (active_anchor a) is = recover_keeps a.is_open c (record a { entity = with_failure a.entity }) (law.sends a.entity (with_failed_scg a.entity.setup).legs is)

  pub reports : (c : Choices) (s : AnchorState) → Keeps Q s (asked_report c s)
  reports c (waiting_anchor w) is = tt
  reports c (active_anchor a) is = report_keeps a.is_open c a is

-- ---- the length of SNs

-- of what a rule of the entity answers; of a refusal this one
length_in : {X : Type 0} → SnLen → Result (Sender × X) TxErr → SnLen
length_in n (Ok x) = x.0.n
length_in n (Err e) = n

took_length : (s : Sender) (p : List ℕ) (tx : Sender) (count : ℕ) → take_sdu s p ≡ Ok (tx, count) → tx.n ≡ s.n
unfolding length_in
took_length s p tx count took =
    sym (ap (length_in s.n) took)
    ∙ elim (cases_lt s.next (low s + window s.n)) [
      | inr full ↦ ap (length_in s.n) (take_sdu-full s p full)
      | inl room ↦ elim (cases_eq s.next (2 ^ 32 - 1)) [
        | inl last ↦ ap (length_in s.n) (take_sdu-exhausted s p room last)
        | inr more ↦ ap (length_in s.n) (take_sdu-ok s p room more)
      ]
    ]

gave_length : (s : Sender) (tx : Sender) (given : List ℕ) → give_numbers s ≡ Ok (tx, given) → tx.n ≡ s.n
unfolding length_in
gave_length s tx given gave =
    sym (ap (length_in s.n) gave)
    ∙ elim (cases_lt (low s + window s.n) (s.next + length s.held)) [
      | inl full ↦ ap (length_in s.n) (give_numbers-full s full)
      | inr room ↦ elim (cases_lt (2 ^ 32 - 1) (s.next + length s.held)) [
        | inl last ↦ ap (length_in s.n) (give_numbers-exhausted s room last)
        | inr more ↦ ap (length_in s.n) (give_numbers-ok s room more)
      ]
    ]

-- each step of an entity keeps the length of its SNs; a new generation does, where it is that of the plan
pub length_law : IsEntityLaw HasLength
length_law = record {
  begins = λ w st down up. refl;
  takes = λ e p tx count took is. took_length e.tx p tx count took ∙ is;
  holds = λ e p is. is;
  numbers = λ e tx given gave is. gave_length e.tx tx given gave ∙ is;
  sends = λ e legs is. is;
  confirms = λ test e is. is;
  receives = λ e rx is. is;
}
