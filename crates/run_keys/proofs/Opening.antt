-- An anchor sends downlink PDUs of its identity and generation alone, and none before it is unlocked.
use Rattle.std.proofs.Common.{ℕ, ◌≡◌, ◌++◌, ◌&&◌, Bool, true, false, List, [], ◌∷◌, Option, Some, None, refl, sym, ap, subst, ◌∙◌, inl, inr}
use Rattle.std.specs.Prelude.{Err, Ok, Result, filter, if◌then◌else◌, is_none, map, not}
use Rattle.std.specs.List.{flat_map}
use Rattle.std.proofs.lemmas.Bool.{cases_Bool}
use Rattle.dc_base.specs.declared.flights.Flight.{Flight}
use Rattle.dc_base.specs.declared.flights.Flight.TheVariants as flight
use Rattle.dc_base.specs.declared.nodes.Cell.{Cell}
use Rattle.dc_base.specs.declared.nodes.Dir.{Dir}
use Rattle.dc_base.specs.declared.nodes.Dir.TheVariants.{Dl, Ul}
use Rattle.dc_base.specs.declared.nodes.Node.{Node}
use Rattle.dc_base.specs.declared.records.StatusTransfer.{StatusTransfer}
use Rattle.forward.specs.Forwarded.{whole}
use Rattle.forward.specs.Load.{Load, Sdu}
use Rattle.nr_u.specs.declared.frame.Frame.{Frame}
use Rattle.nr_u.specs.declared.frame.Frame.TheVariants.{Status, User}
use Rattle.nr_u.specs.Tunnel.Outgoing.{Counted, Outgoing, asks, confirmed_after}
use Rattle.nr_u.specs.Tunnel.Verdicts.{after_frame, again_of}
use Rattle.pdcp_pdu.specs.Pdu.{Content, decoded}
use Rattle.pdcp_pdu.specs.declared.pdu.PduErr.{PduErr}
use Rattle.pdcp_tx.specs.Sender.{Sender, low}
use Rattle.pdcp_tx.specs.Sending.{give_numbers, take_sdu}
use Rattle.pdcp_tx.specs.declared.tx.TxErr.{TxErr}
use Rattle.transcript.proofs.OnEach.{each_append}
use Rattle.node_rules.specs.Adopting.{adopts_with, forward_in, settled, status_in, taken_over, with_load}
use Rattle.node_rules.specs.Anchor.{Active, AnchorState, Waiting, active_anchor, fresh, new_tunnel, renew, setup_at, silent, waiting, waiting_anchor}
use Rattle.node_rules.specs.AnchorReceiving.{ack, air_ack, air_in, air_pdu, ascending, delivery_in, is_from_host, is_on_leg, packet_in, pdu_in, relayed_pdu, tunnel_in, with_delivery}
use Rattle.node_rules.specs.AnchorSending.{anchor_recovers, anchor_sends, fail_scg, is_local, leg_send, open_if, opens, recover, recover_at, report, report_at, submit, submit_as, submit_at, tunnel_send, unlock, with_failure, with_numbers, with_sends, with_tx}
use Rattle.node_rules.specs.Choices.{Choices, Send}
use Rattle.node_rules.specs.Entity.{Entity, take_pdus}
use Rattle.node_rules.specs.Packets.{Packet, delivery, forwarding, nothing, packet_of, pdu_down, pdu_up}
use Rattle.node_rules.specs.Sending.{send_counts, send_kept, send_report}
use Rattle.node_rules.specs.Setup.{Setup, anchor_cell, has_failed, host_of, is_of}
use Rattle.node_rules.specs.declared.bearers.AnchorOut.{AnchorOut}
use Rattle.node_rules.specs.declared.bearers.OnLeg.{OnLeg}
use Rattle.run_relays.specs.Setups.{Core, core}
use Rattle.run_relays.proofs.Cores.{KeepsCore, air_core, fail_core, recover_core, report_core, status_core, submit_core, tunnel_core, unlock_core}
use Rattle.run_control.proofs.Sent.{either}
use Rattle.run_keys.specs.Open.{AreDownOf, AtAnchor, IsDownOf, OpenDoes, OpenOf, is_unlocked, unasked_at}

module _ (P : ℕ → ℕ → Type 0) where
  -- ---- what an anchor sends

  all_down : (xs ys : List Send) → AreDownOf P xs → AreDownOf P ys → AreDownOf P (xs ++ ys)
  all_down xs ys first then' = each_append (IsDownOf P) xs ys first then'

  each_down : {X : Type 0} (f : X → List Send) (xs : List X) → ((x : X) → AreDownOf P (f x)) → AreDownOf P (flat_map f xs)
  each_down f [] so = tt
  each_down f (x ∷ xs) so = all_down (f x) (flat_map f xs) (so x) (each_down f xs so)

  -- an anchor of which it is so
  abbrev At : Active → Type 0
  At a = P a.entity.setup.id a.entity.setup.g

  of_tunnel : (s : Setup) (x : OnLeg) (o : Option Node) → P s.id s.g → AreDownOf P (tunnel_send s x o)
  of_tunnel s x None so = tt
  of_tunnel s x (Some host) so = (record { id = s.id; g = s.g; number = x.num; repeat = x.repeat; pdu = x.pdu.1; is = refl; so = so }, tt)

  of_leg : (s : Setup) (x : OnLeg) (local : Bool) → P s.id s.g → AreDownOf P (leg_send s x local)
  of_leg s x true so = (so, tt)
  of_leg s x false so = of_tunnel s x (host_of s) so

  of_entity : (a : Active) (done : Entity × List OnLeg) → At a → AreDownOf P (with_sends a done).1
  of_entity a done so = each_down (λ x. leg_send a.entity.setup x (is_local a.entity.setup x)) done.1 (λ x. of_leg a.entity.setup x (is_local a.entity.setup x) so)

  of_counts : (c : Choices) (a : Active) (cs : List ℕ) → At a → AreDownOf P (anchor_sends c a cs).1
  of_counts c a cs so = of_entity a (send_counts c a.entity cs) so

  of_recovery : (c : Choices) (a : Active) → At a → AreDownOf P (anchor_recovers c a).1
  of_recovery c a so = of_entity a (send_kept c a.entity) so

  of_submission : (c : Choices) (a : Active) (sdu : List ℕ) (r : Result (Sender × ℕ) TxErr) → At a → AreDownOf P (submit_as c a sdu r).1
  of_submission c a sdu (Ok x) so = of_counts c (with_tx a x.0) (x.1 ∷ []) so
  of_submission c a sdu (Err e) so = tt

  of_submission_at : (is : Bool) (c : Choices) (a : Active) (sdu : List ℕ) → (is ≡ true → At a) → AreDownOf P (submit_at is c a sdu).1
  of_submission_at true c a sdu so = of_submission c a sdu (take_sdu a.entity.tx sdu) (so refl)
  of_submission_at false c a sdu so = tt

  of_numbers : (c : Choices) (a : Active) (r : Result (Sender × List ℕ) TxErr) → At a → AreDownOf P (with_numbers c a r).1
  of_numbers c a (Ok x) so = of_counts c (with_tx a x.0) x.1 so
  of_numbers c a (Err e) so = tt

  of_opening : (c : Choices) (a : Active) → At a → AreDownOf P (opens c a).1
  of_opening c a so =
      let again = anchor_recovers c (record a { is_open = true }) in
      all_down again.1 (with_numbers c again.0 (give_numbers again.0.entity.tx)).1 (of_recovery c (record a { is_open = true }) so) (of_numbers c again.0 (give_numbers again.0.entity.tx) so)

  of_open_if : (is : Bool) (c : Choices) (a : Active) → (is ≡ true → At a) → AreDownOf P (open_if is c a).1
  of_open_if true c a so = of_opening c a (so refl)
  of_open_if false c a so = tt

  of_recovery_at : (is : Bool) (c : Choices) (a : Active) → (is ≡ true → At a) → AreDownOf P (recover_at is c a).1
  of_recovery_at true c a so = of_recovery c a (so refl)
  of_recovery_at false c a so = tt

  of_report_at : (is : Bool) (c : Choices) (a : Active) → (is ≡ true → At a) → AreDownOf P (report_at is c a).1
  of_report_at true c a so = of_entity a (send_report c a.entity) (so refl)
  of_report_at false c a so = tt

  -- ---- when it is open

  submission_open : (c : Choices) (a : Active) (sdu : List ℕ) (r : Result (Sender × ℕ) TxErr) → (submit_as c a sdu r).0.is_open ≡ a.is_open
  submission_open c a sdu (Ok x) = refl
  submission_open c a sdu (Err e) = refl

  submitted_open : (is : Bool) (c : Choices) (a : Active) (sdu : List ℕ) → (submit_at is c a sdu).0.is_open ≡ a.is_open
  submitted_open true c a sdu = submission_open c a sdu (take_sdu a.entity.tx sdu)
  submitted_open false c a sdu = refl

  recovered_open : (is : Bool) (c : Choices) (a : Active) → (recover_at is c a).0.is_open ≡ a.is_open
  recovered_open true c a = refl
  recovered_open false c a = refl

  reported_open : (is : Bool) (c : Choices) (a : Active) → (report_at is c a).0.is_open ≡ a.is_open
  reported_open true c a = refl
  reported_open false c a = refl

  -- one that was closed is open only if it was to open
  opened_open : (is : Bool) (c : Choices) (a : Active) → a.is_open ≡ false → (open_if is c a).0.is_open ≡ true → is ≡ true
  opened_open true c a closed open' = refl
  opened_open false c a closed open' = absurd (let bad : false ≡ true = sym closed ∙ open' in cc)

  numbers_open : (c : Choices) (a : Active) (r : Result (Sender × List ℕ) TxErr) → (with_numbers c a r).0.is_open ≡ a.is_open
  numbers_open c a (Ok x) = refl
  numbers_open c a (Err e) = refl

  opening_open : (c : Choices) (a : Active) → (opens c a).0.is_open ≡ true
  opening_open c a = let again = anchor_recovers c (record a { is_open = true }) in numbers_open c again.0 (give_numbers again.0.entity.tx)

  unlocked_open : (is : Bool) (c : Choices) (a : Active) → a.is_open ≡ is → (open_if (not is) c a).0.is_open ≡ true
  unlocked_open true c a is = is
  unlocked_open false c a is = opening_open c a

  -- ---- where it is not, it has nothing in its tunnel

  never : {X : Type 0} (b : Bool) → b ≡ true → b ≡ false → X
  never b yes' no' = absurd (let bad : true ≡ false = sym yes' ∙ no' in cc)

  submitted_shut : (is : Bool) (c : Choices) (a : Active) (sdu : List ℕ) → (is ≡ false → a.tunnel.unasked ≡ []) → is ≡ false
      → (submit_at is c a sdu).0.tunnel.unasked ≡ []
  submitted_shut true c a sdu none no' = never true refl no'
  submitted_shut false c a sdu none no' = none refl

  recovered_shut : (is : Bool) (c : Choices) (a : Active) → (is ≡ false → a.tunnel.unasked ≡ []) → is ≡ false → (recover_at is c a).0.tunnel.unasked ≡ []
  recovered_shut true c a none no' = never true refl no'
  recovered_shut false c a none no' = none refl

  reported_shut : (is : Bool) (c : Choices) (a : Active) → (is ≡ false → a.tunnel.unasked ≡ []) → is ≡ false → (report_at is c a).0.tunnel.unasked ≡ []
  reported_shut true c a none no' = never true refl no'
  reported_shut false c a none no' = none refl

  opened_shut : (is : Bool) (c : Choices) (a : Active) → a.tunnel.unasked ≡ [] → (open_if is c a).0.is_open ≡ false → (open_if is c a).0.tunnel.unasked ≡ []
  opened_shut true c a none no' = never (opens c a).0.is_open (opening_open c a) no'
  opened_shut false c a none no' = none

  -- ---- its steps

  stays : (s : AnchorState) (done : AnchorState × AnchorOut) → KeepsCore s done → (is_unlocked done.0 ≡ true → AtAnchor P s)
      → (is_unlocked done.0 ≡ false → unasked_at done.0 ≡ []) → OpenOf P done.0
  stays s done same so none = record { may = λ is. subst (λ (x : Core). P x.id x.g) (sym same) (so is); shut = none }

  pub submit_opens : (c : Choices) (s : AnchorState) (sdu : List ℕ) → OpenOf P s → OpenDoes P (submit c s sdu)
  submit_opens c (waiting_anchor w) sdu so = record { opens = record { may = so.may; shut = λ no'. refl }; sends = tt }
  submit_opens c (active_anchor a) sdu so =
      let open' = submitted_open a.is_open c a sdu in
      record {
        opens = stays (active_anchor a) (submit c (active_anchor a) sdu) (submit_core c (active_anchor a) sdu) (λ is. so.may (sym open' ∙ is))
            (λ no'. submitted_shut a.is_open c a sdu so.shut (sym open' ∙ no'));
        sends = of_submission_at a.is_open c a sdu so.may;
      }

  -- an anchor of which it is so is unlocked
  pub unlock_opens : (c : Choices) (s : AnchorState) → AtAnchor P s → OpenDoes P (unlock c s)
  unlock_opens c (waiting_anchor w) so = record { opens = record { may = λ is. so; shut = λ no'. refl }; sends = tt }
  unlock_opens c (active_anchor a) so = record {
    opens = stays (active_anchor a) (unlock c (active_anchor a)) (unlock_core c (active_anchor a)) (λ is. so)
        (λ no'. never (open_if (not a.is_open) c a).0.is_open (unlocked_open a.is_open c a refl) no');
    sends = of_open_if (not a.is_open) c a (λ is. so);
  }

  pub recover_opens : (c : Choices) (s : AnchorState) → OpenOf P s → OpenDoes P (recover c s)
  recover_opens c (waiting_anchor w) so = record { opens = so; sends = tt }
  recover_opens c (active_anchor a) so =
      let open' = recovered_open a.is_open c a in
      record {
        opens = stays (active_anchor a) (recover c (active_anchor a)) (recover_core c (active_anchor a)) (λ is. so.may (sym open' ∙ is))
            (λ no'. recovered_shut a.is_open c a so.shut (sym open' ∙ no'));
        sends = of_recovery_at a.is_open c a so.may;
      }

  pub fail_opens : (c : Choices) (s : AnchorState) → OpenOf P s → OpenDoes P (fail_scg c s)
  fail_opens c (waiting_anchor w) so = record { opens = record { may = so.may; shut = λ no'. refl }; sends = tt }
  fail_opens c (active_anchor a) so =
      let b : Active = record a { entity = with_failure a.entity } in
      let open' = recovered_open a.is_open c b in
      record {
        opens = stays (active_anchor a) (fail_scg c (active_anchor a)) (fail_core c (active_anchor a)) (λ is. so.may (sym open' ∙ is))
            (λ no'. recovered_shut a.is_open c b so.shut (sym open' ∙ no'));
        sends = of_recovery_at a.is_open c b so.may;
      }

  pub report_opens : (c : Choices) (s : AnchorState) → OpenOf P s → OpenDoes P (report c s)
  report_opens c (waiting_anchor w) so = record { opens = so; sends = tt }
  report_opens c (active_anchor a) so =
      let open' = reported_open a.is_open c a in
      record {
        opens = stays (active_anchor a) (report c (active_anchor a)) (report_core c (active_anchor a)) (λ is. so.may (sym open' ∙ is))
            (λ no'. reported_shut a.is_open c a so.shut (sym open' ∙ no'));
        sends = of_report_at a.is_open c a so.may;
      }

  -- an anchor that is set up, or again, is closed
  pub fresh_opens : (s : Setup) → OpenOf P (fresh s)
  fresh_opens s = record { may = λ is. absurd (let bad : false ≡ true = is in cc); shut = λ no'. refl }

  pub waiting_opens : (s : Setup) → OpenOf P (waiting s)
  waiting_opens s = record { may = λ is. absurd (let bad : false ≡ true = is in cc); shut = λ no'. refl }

  pub renew_opens : (a : Active) (s : Setup) → OpenOf P (active_anchor (renew a s))
  renew_opens a s = record { may = λ is. absurd (let bad : false ≡ true = is in cc); shut = λ no'. refl }

  -- ---- what comes to it

  -- a step leaves it unlocked or not, and its tunnel, and sends no PDU
  record IsStill (s : AnchorState) (done : AnchorState × AnchorOut) : Type 0 where
    unlocked : is_unlocked done.0 ≡ is_unlocked s
    unasked : unasked_at done.0 ≡ unasked_at s
    sends : AreDownOf P done.1.sends

  silently : (s : AnchorState) (done : AnchorState × AnchorOut) → KeepsCore s done → IsStill s done → OpenOf P s → OpenDoes P done
  silently s done same still so = record { opens = stays s done same (λ is. so.may (sym still.unlocked ∙ is)) (λ no'. still.unasked ∙ so.shut (sym still.unlocked ∙ no')); sends = still.sends }

  still : (s : AnchorState) → IsStill s (s, silent)
  still s = record { unlocked = refl; unasked = refl; sends = tt }

  pdu_still : (s : AnchorState) (x : Content) → IsStill s (pdu_in s x)
  pdu_still (waiting_anchor w) x = record { unlocked = refl; unasked = refl; sends = tt }
  pdu_still (active_anchor a) x = record { unlocked = refl; unasked = refl; sends = tt }

  ack_silent : (s : Setup) (num : ℕ) (failed : Bool) → AreDownOf P (ack s num failed)
  ack_silent s num true = tt
  ack_silent s num false = (tt, tt)

  air_pdu_still : (s : AnchorState) (num : ℕ) (r : Result Content PduErr) → IsStill s (air_pdu s num r)
  air_pdu_still s num (Err e) = still s
  air_pdu_still s num (Ok x) =
      let failed = has_failed (setup_at s) (anchor_cell (setup_at s).legs.shape) in
      let k = pdu_still s x in
      record { unlocked = k.unlocked; unasked = k.unasked; sends = all_down (ack (setup_at s) num failed) (pdu_in s x).1.sends (ack_silent (setup_at s) num failed) k.sends }

  air_ack_still : (s : AnchorState) (num : ℕ) → IsStill s (air_ack s num)
  air_ack_still (waiting_anchor w) num = still (waiting_anchor w)
  air_ack_still (active_anchor a) num = record { unlocked = refl; unasked = refl; sends = tt }

  air_still : (s : AnchorState) (cell : Cell) (f : Flight) → IsStill s (air_in s cell f)
  air_still s cell (flight.Air id g num tag pdu) =
      let r = decoded (setup_at s).n pdu in either (IsStill s) (is_on_leg (setup_at s) cell id g) (air_pdu s num r) (s, silent) (air_pdu_still s num r) (still s)
  air_still s cell (flight.Ack id g num) = either (IsStill s) (is_on_leg (setup_at s) cell id g) (air_ack s num) (s, silent) (air_ack_still s num) (still s)
  air_still s cell (flight.Tun tag packet) = still s
  air_still s cell (flight.Sdu id g sdu) = still s
  air_still s cell (flight.End id g) = still s
  air_still s cell (flight.Told id g count) = still s
  air_still s cell (flight.Ctl r) = still s

  -- over the air
  pub air_opens : (s : AnchorState) (cell : Cell) (f : Flight) → OpenOf P s → OpenDoes P (air_in s cell f)
  air_opens s cell f so = silently s (air_in s cell f) (air_core s cell f) (air_still s cell f) so

  -- an adoption: it opens if it was told
  adoption_opens : (c : Choices) (w : Waiting) (st : Option StatusTransfer) (down up : Option (List Sdu))
      → KeepsCore (waiting_anchor w) (adopts_with c w st down up) → OpenOf P (waiting_anchor w) → OpenDoes P (adopts_with c w st down up)
  adoption_opens c w None down up same so = record { opens = so; sends = tt }
  adoption_opens c w (Some st) None up same so = record { opens = so; sends = tt }
  adoption_opens c w (Some st) (Some down) None same so = record { opens = so; sends = tt }
  adoption_opens c w (Some st) (Some down) (Some up) same so =
      let a : Active = record { entity = (take_pdus (taken_over w st down up) w.pdus).0; is_open = false; tunnel = new_tunnel w.setup.n } in
      let alike : w.is_told ≡ true → core a.entity.setup ≡ core w.setup =
      λ told. sym (unlock_core c (active_anchor a)) ∙ subst (λ (b : Bool). core (open_if b c a).0.entity.setup ≡ core w.setup) told same in
      let at : w.is_told ≡ true → At a = λ told. subst (λ (x : Core). P x.id x.g) (sym (alike told)) (so.may told) in
      record {
        opens = stays (waiting_anchor w) (adopts_with c w (Some st) (Some down) (Some up)) same (λ is. so.may (opened_open w.is_told c a refl is)) (λ no'. opened_shut w.is_told c a refl no');
        sends = of_open_if w.is_told c a at;
      }

  settled_opens : (c : Choices) (w : Waiting) → KeepsCore (waiting_anchor w) (settled c w) → OpenOf P (waiting_anchor w) → OpenDoes P (settled c w)
  settled_opens c w same so = adoption_opens c w w.transfer (whole w.down) (whole w.up) same so

  -- SN STATUS TRANSFER
  pub status_opens : (c : Choices) (s : AnchorState) (st : StatusTransfer) → OpenOf P s → OpenDoes P (status_in c s st)
  status_opens c (waiting_anchor w) st so = by (is_of w.setup st.id st.g && is_none w.transfer) (status_core c (waiting_anchor w) st)
    where
      then' : AnchorState × AnchorOut
      then' = settled c (record w { transfer = Some st })

      by : (is : Bool) → KeepsCore (waiting_anchor w) (if is then then' else (waiting_anchor w, silent))
          → OpenDoes P (if is then then' else (waiting_anchor w, silent))
      by true same = settled_opens c (record w { transfer = Some st }) same (record { may = so.may; shut = λ no'. refl })
      by false same = record { opens = so; sends = tt }
  status_opens c (active_anchor a) st so = record { opens = so; sends = tt }

  forward_opens : (c : Choices) (s : AnchorState) (d : Dir) (load : Load) → KeepsCore s (forward_in c s d load) → OpenOf P s
      → OpenDoes P (forward_in c s d load)
  forward_opens c (waiting_anchor w) Dl load same so = settled_opens c (with_load w Dl load) same (record { may = so.may; shut = λ no'. refl })
  forward_opens c (waiting_anchor w) Ul load same so = settled_opens c (with_load w Ul load) same (record { may = so.may; shut = λ no'. refl })
  forward_opens c (active_anchor a) d load same so = record { opens = so; sends = tt }

  relayed_still : (s : AnchorState) (r : Result Content PduErr) → IsStill s (relayed_pdu s r)
  relayed_still s (Err e) = still s
  relayed_still s (Ok x) = pdu_still s x

  -- a delivery status asks for nothing again where nothing is in the tunnel
  again_none : (o : Outgoing) (reference : ℕ) (f : Frame) → o.unasked ≡ [] → again_of o reference f ≡ []
  again_none o reference (User n user repeat) none = refl
  again_none o reference (Status highest lost) none = ap (λ es. map (λ (e : Counted). e.1) (filter (asks reference (confirmed_after o reference highest lost) lost) es)) none

  after_none : (o : Outgoing) (reference : ℕ) (f : Frame) → o.unasked ≡ [] → (after_frame o reference f).unasked ≡ []
  after_none o reference (User n user repeat) none = none
  after_none o reference (Status highest lost) none = ap (λ es. filter (λ (e : Counted). not (asks reference (confirmed_after o reference highest lost) lost e)) es) none

  delivery_opens : (c : Choices) (s : AnchorState) (f : Frame) → KeepsCore s (delivery_in c s f) → OpenOf P s → OpenDoes P (delivery_in c s f)
  delivery_opens c (waiting_anchor w) f same so = record { opens = so; sends = tt }
  delivery_opens c (active_anchor a) f same so =
      let b : Active = with_delivery a f in
      let cs = again_of a.tunnel (low a.entity.tx) f in
      let none : a.is_open ≡ false → cs ≡ [] = λ no'. again_none a.tunnel (low a.entity.tx) f (so.shut no') in
      record {
        opens = stays (active_anchor a) (delivery_in c (active_anchor a) f) same so.may
            (λ no'. subst (λ xs. (anchor_sends c b (ascending xs)).0.tunnel.unasked ≡ []) (sym (none no')) (after_none a.tunnel (low a.entity.tx) f (so.shut no')));
        sends = elim (cases_Bool a.is_open) [
          | inl open' ↦ of_counts c b (ascending cs) (so.may open')
          | inr shut' ↦ subst (λ xs. AreDownOf P (anchor_sends c b (ascending xs)).1) (sym (none shut')) tt
        ];
      }

  -- what is done if a packet is the anchor's
  if_its : (s : AnchorState) (is : Bool) (done : AnchorState × AnchorOut) → (KeepsCore s done → OpenDoes P done)
      → KeepsCore s (if is then done else (s, silent)) → OpenOf P s → OpenDoes P (if is then done else (s, silent))
  if_its s true done does same so = does same
  if_its s false done does same so = record { opens = so; sends = tt }

  packet_opens : (c : Choices) (s : AnchorState) (x : Packet) → KeepsCore s (packet_in c s x) → OpenOf P s → OpenDoes P (packet_in c s x)
  packet_opens c s (pdu_down id g number repeat pdu) same so = record { opens = so; sends = tt }
  packet_opens c s (pdu_up id g pdu) same so =
      let r = decoded (setup_at s).n pdu in if_its s (is_from_host (setup_at s) id g) (relayed_pdu s r) (λ k. silently s (relayed_pdu s r) k (relayed_still s r) so) same so
  packet_opens c s (delivery id g f) same so = if_its s (is_from_host (setup_at s) id g) (delivery_in c s f) (λ k. delivery_opens c s f k so) same so
  packet_opens c s (forwarding id g d load) same so = if_its s (is_of (setup_at s) id g) (forward_in c s d load) (λ k. forward_opens c s d load k so) same so
  packet_opens c s nothing same so = record { opens = so; sends = tt }

  -- through a tunnel
  pub tunnel_opens : (c : Choices) (s : AnchorState) (f : Flight) → OpenOf P s → OpenDoes P (tunnel_in c s f)
  tunnel_opens c s (flight.Tun tag packet) so = packet_opens c s (packet_of packet) (tunnel_core c s (flight.Tun tag packet)) so
  tunnel_opens c s (flight.Air id g num tag pdu) so = record { opens = so; sends = tt }
  tunnel_opens c s (flight.Ack id g num) so = record { opens = so; sends = tt }
  tunnel_opens c s (flight.Sdu id g sdu) so = record { opens = so; sends = tt }
  tunnel_opens c s (flight.End id g) so = record { opens = so; sends = tt }
  tunnel_opens c s (flight.Told id g count) so = record { opens = so; sends = tt }
  tunnel_opens c s (flight.Ctl r) so = record { opens = so; sends = tt }
