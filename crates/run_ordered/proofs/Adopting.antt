-- What comes to an anchor that waits makes of the entity that it takes over: it waits on, or adopts.
use Rattle.std.proofs.Common.{Bool, List, None, Option, Some, [], false, refl, sym, ap, subst, arith, true, ℕ, ◌++◌, ◌≡◌, ◌≤◌, ◌∙◌, ◌==◌, ◌∷◌}
use Rattle.std.specs.Prelude.{if◌then◌else◌, is_none, nat_lt, ◌&&◌}
use Rattle.std.proofs.lemmas.Bool.{eqb-true}
use Rattle.std.proofs.lemmas.List.{append-nil}
use Rattle.dc_base.specs.declared.flights.Flight.{Flight}
use Rattle.dc_base.specs.declared.flights.Flight.TheVariants as flight
use Rattle.dc_base.specs.declared.nodes.Dir.{Dir}
use Rattle.dc_base.specs.declared.nodes.Dir.TheVariants.{Dl, Ul}
use Rattle.dc_base.specs.declared.records.Rec.TheVariants as rec
use Rattle.dc_base.specs.declared.records.StatusTransfer.{StatusTransfer}
use Rattle.forward.specs.Forwarded.{whole}
use Rattle.forward.specs.Load.{Load, Sdu}
use Rattle.forward.specs.Tunnel.{IsEndOf}
use Rattle.pdcp_pdu.specs.Pdu.{Content, decoded, report, sdu}
use Rattle.pdcp_tx.specs.Sender.{Sender, low}
use Rattle.node_rules.specs.Adopting.{adopts, adopts_with, forward_in, settled, status_in, taken_over, with_load}
use Rattle.node_rules.specs.Anchor.{Active, AnchorState, Waiting, active_anchor, new_tunnel, silent, waiting_anchor}
use Rattle.node_rules.specs.AnchorReceiving.{delivery_in, is_from_host, packet_in, relayed_pdu, tunnel_in}
use Rattle.node_rules.specs.AnchorSending.{open_if}
use Rattle.node_rules.specs.Choices.{Choices}
use Rattle.node_rules.specs.Entity.{Entity, take_pdu, take_pdus}
use Rattle.node_rules.specs.Packets.{Packet, delivery, forwarding, nothing, packet_of, pdu_down, pdu_up}
use Rattle.node_rules.specs.Setup.{is_of}
use Rattle.node_rules.specs.declared.bearers.AnchorOut.{AnchorOut}
use Rattle.run_ordered.specs.Anchors.{AnchorWaits}
use Rattle.run_ordered.specs.Forwarding.{IsBeforeFreeze, IsForwardedOf, IsOfSender, IsOtherRecord, IsTransferOf, down_tunnel}
use Rattle.run_ordered.specs.Fronts.{IsFront}
use Rattle.run_ordered.specs.Scenes.{AnchorTakes, HasOrTakes, takes}
use Rattle.run_ordered.proofs.Fronts.{open_rises}
use Rattle.run_ordered.proofs.Serving.{AreSilent, IsSmall, idle_waits, open_silent, relayed_waits, waits_so}
use Rattle.run_ordered.proofs.Taking.{forward_front, status_front}

-- ---- what an adoption says

pdu_small : (e : Entity) (x : Content) → IsSmall e.setup → IsSmall (take_pdu e x).0.setup
pdu_small e (sdu s body) few = few
pdu_small e (report fmc bits) few = record { g = few.g; id = few.id }

pdus_small : (e : Entity) (xs : List Content) → IsSmall e.setup → IsSmall (take_pdus e xs).0.setup
pdus_small e [] few = few
pdus_small e (x ∷ xs) few = pdus_small (take_pdu e x).0 xs (pdu_small e x few)

-- what comes of an anchor after something that it waits for: what it tells is Low, if it adopted, and it says nothing
record SaysSettled (done : AnchorState × AnchorOut) : Type 0 where
  told : (b : Active) → done.0 ≡ active_anchor b → (k : ℕ) → done.1.low ≡ Some k → k ≤ low b.entity.tx
  untold : (v : Waiting) → done.0 ≡ waiting_anchor v → done.1.low ≡ None
  none : AreSilent done.1.sends

idle_says : (w : Waiting) → SaysSettled (waiting_anchor w, silent)
idle_says w = record { told = λ b is. absurd cc; untold = λ v is. refl; none = tt }

adoption_says : (c : Choices) (w : Waiting) (e : Entity) → IsSmall e.setup → SaysSettled (adopts c w e)
adoption_says c w e few =
    let up = take_pdus e w.pdus in
    let begun : Active = record { entity = up.0; is_open = false; tunnel = new_tunnel w.setup.n } in
    let small = pdus_small e w.pdus few in
    record {
      told = λ b is k low_is.
          let same = one b is in
          let le = told_is (nat_lt (low e.tx) (low up.0.tx)) k low_is in
          let rises = open_rises c w.is_told begun in
          subst (λ (a : Active). k ≤ low a.entity.tx) same (omega arith);
      untold = λ v is. absurd cc;
      none = open_silent c begun small w.is_told begun small;
    }
  where
    one : (b : Active) → active_anchor (open_if w.is_told c (record { entity = (take_pdus e w.pdus).0; is_open = false; tunnel = new_tunnel w.setup.n })).0 ≡ active_anchor b
        → (open_if w.is_told c (record { entity = (take_pdus e w.pdus).0; is_open = false; tunnel = new_tunnel w.setup.n })).0 ≡ b
    one b is = cc

    told_is : (t : Bool) (k : ℕ) → (if t then Some (low (take_pdus e w.pdus).0.tx) else None) ≡ Some k → k ≤ low (take_pdus e w.pdus).0.tx
    told_is true k is = let same = some is in omega arith
      where
        some : {j : ℕ} → Some j ≡ Some k → j ≡ k
        some s = cc
    told_is false k is = absurd cc

parts_say : (c : Choices) (w : Waiting) (o : Option StatusTransfer) (down up : Option (List Sdu)) → IsSmall w.setup → SaysSettled (adopts_with c w o down up)
parts_say c w None down up few = idle_says w
parts_say c w (Some st) None up few = idle_says w
parts_say c w (Some st) (Some down) None few = idle_says w
parts_say c w (Some st) (Some down) (Some up) few = adoption_says c w (taken_over w st down up) few

settled_says : (c : Choices) (w : Waiting) → IsSmall w.setup → SaysSettled (settled c w)
settled_says c w few = parts_say c w w.transfer (whole w.down) (whole w.up) few

load_small : (w : Waiting) (d : Dir) (load : Load) → IsSmall w.setup → IsSmall (with_load w d load).setup
load_small w Dl load few = few
load_small w Ul load few = few

-- ---- what comes

module _ (c : Choices) (w : Waiting) (few : IsSmall w.setup) where
  -- nothing that it waits for
  waited : (of : Sender → Bool → Type 0) (before : Type 0) (done : AnchorState × AnchorOut) → AnchorWaits w [] done → AnchorTakes w of before done
  waited of before done is = record {
    waits = λ first no_transfer nothing'. is;
    after = λ u old rest tx closed payloads none says taking moving.
        subst (HasOrTakes u w.setup.g w.fresh old rest tx closed) (sym is.is)
        (let fresh : is.after.fresh ≡ w.fresh = is.fresh ∙ append-nil w.fresh in
        takes is.after is.same_g fresh
        (record {
          same_n = is.same_n ∙ taking.same_n;
          transfer = λ st at. taking.transfer st (sym is.transfer ∙ at);
          down = subst (IsEndOf (down_tunnel tx closed)) (sym is.down) taking.down;
        }) (subst (λ xs. IsFront u (old ++ (xs ++ rest)) false tx) (sym fresh) moving));
    told = λ b at. absurd (differ b (sym is.is ∙ at));
    untold = λ v at. ap (λ (o : AnchorOut). o.low) is.out;
    silent_out = is.silent_out;
  }
    where
      differ : (b : Active) → waiting_anchor is.after ≡ active_anchor b → ⊥
      differ b same = absurd cc

  -- an SDU that is forwarded, or how many there are, while nothing was told yet
  up_waits : (load : Load) (o : Option StatusTransfer) (down up : Option (List Sdu)) → o ≡ None → AnchorWaits w [] (adopts_with c (with_load w Ul load) o down up)
  up_waits load None down up is = waits_so c w (with_load w Ul load) refl refl refl refl refl [] tt
  up_waits load (Some st) down up is = absurd cc

  by_forward : (d : Dir) (load : Load) (of : Sender → Bool → Type 0) (before : Type 0) → ((tx : Sender) (closed : Bool) → of tx closed → d ≡ Dl → IsForwardedOf tx closed load) → (before → d ≡ Dl → ⊥) → AnchorTakes w of before (forward_in c (waiting_anchor w) d load)
  by_forward d load of before says never =
      let told = settled_says c (with_load w d load) (load_small w d load few) in
      record {
        waits = λ first no_transfer nothing'. waits_by d (never first) no_transfer;
        after = λ u old rest tx closed payloads none is taking moving. forward_front u payloads old rest tx closed none c w d load taking moving (says tx closed is);
        told = told.told;
        untold = told.untold;
        silent_out = told.none;
      }
    where
      waits_by : (d : Dir) → (d ≡ Dl → ⊥) → w.transfer ≡ None → AnchorWaits w [] (forward_in c (waiting_anchor w) d load)
      waits_by Dl no'' no_transfer = absurd (no'' refl)
      waits_by Ul no'' no_transfer = up_waits load w.transfer (whole w.down) (whole (with_load w Ul load).up) no_transfer

  either_takes : (of : Sender → Bool → Type 0) (before : Type 0) (t : Bool) (x y : AnchorState × AnchorOut) → (t ≡ true → AnchorTakes w of before x) → AnchorTakes w of before y → AnchorTakes w of before (if t then x else y)
  either_takes of before true x y one two = one refl
  either_takes of before false x y one two = two

  of_both : (p q : Bool) → (p && q) ≡ true → (p ≡ true) × (q ≡ true)
  of_both true q is = (refl, is)
  of_both false q is = absurd cc

  -- what a packet says
  by_packet : (x : Packet) (of : Sender → Bool → Type 0) (before : Type 0) → ((tx : Sender) (closed : Bool) → of tx closed → (load : Load) → x ≡ forwarding w.setup.id w.setup.g Dl load → IsForwardedOf tx closed load)
      → (before → (load : Load) → x ≡ forwarding w.setup.id w.setup.g Dl load → ⊥) → AnchorTakes w of before (packet_in c (waiting_anchor w) x)
  by_packet (pdu_down id g number repeat pdu) of before says never = waited of before (waiting_anchor w, silent) (idle_waits c w)
  by_packet (pdu_up id g pdu) of before says never =
      either_takes of before (is_from_host w.setup id g) (relayed_pdu (waiting_anchor w) (decoded w.setup.n pdu)) (waiting_anchor w, silent)
      (λ is. waited of before (relayed_pdu (waiting_anchor w) (decoded w.setup.n pdu)) (relayed_waits c w (decoded w.setup.n pdu))) (waited of before (waiting_anchor w, silent) (idle_waits c w))
  by_packet (delivery id g status) of before says never =
      either_takes of before (is_from_host w.setup id g) (delivery_in c (waiting_anchor w) status) (waiting_anchor w, silent) (λ is. waited of before (waiting_anchor w, silent) (idle_waits c w)) (waited of before (waiting_anchor w, silent) (idle_waits c w))
  by_packet (forwarding id g d load) of before says never =
      either_takes of before (is_of w.setup id g) (forward_in c (waiting_anchor w) d load) (waiting_anchor w, silent)
      (λ ours.
      let named = of_both (w.setup.id == id) (w.setup.g == g) ours in
      let id_is = eqb-true w.setup.id id named.0 in
      let g_is = eqb-true w.setup.g g named.1 in
      by_forward d load of before
      (λ tx closed is down. says tx closed is load (ap (λ i. forwarding i g d load) (sym id_is) ∙ ap (λ h. forwarding w.setup.id h d load) (sym g_is) ∙ ap (λ e. forwarding w.setup.id w.setup.g e load) down))
      (λ first down. never first load (ap (λ i. forwarding i g d load) (sym id_is) ∙ ap (λ h. forwarding w.setup.id h d load) (sym g_is) ∙ ap (λ e. forwarding w.setup.id w.setup.g e load) down)))
      (waited of before (waiting_anchor w, silent) (idle_waits c w))
  by_packet nothing of before says never = waited of before (waiting_anchor w, silent) (idle_waits c w)

  -- a flight through a tunnel
  pub tunnel_takes : (f : Flight) → AnchorTakes w (λ tx closed. IsOfSender tx closed w.setup.g w.setup.id f) (IsBeforeFreeze w.setup.g w.setup.id f) (tunnel_in c (waiting_anchor w) f)
  tunnel_takes (flight.Tun tag packet) = by_packet (packet_of packet) _ _ (λ tx closed is load at. is load at) (λ first load at. first load at)
  tunnel_takes (flight.Air id g num tag pdu) = waited _ _ (waiting_anchor w, silent) (idle_waits c w)
  tunnel_takes (flight.Ack id g num) = waited _ _ (waiting_anchor w, silent) (idle_waits c w)
  tunnel_takes (flight.Sdu id g payload) = waited _ _ (waiting_anchor w, silent) (idle_waits c w)
  tunnel_takes (flight.End id g) = waited _ _ (waiting_anchor w, silent) (idle_waits c w)
  tunnel_takes (flight.Told id g count) = waited _ _ (waiting_anchor w, silent) (idle_waits c w)
  tunnel_takes (flight.Ctl r) = waited _ _ (waiting_anchor w, silent) (idle_waits c w)

  -- a status transfer
  pub status_takes : (st : StatusTransfer) → AnchorTakes w (λ tx closed. IsTransferOf tx w.setup.g w.setup.id st) (IsOtherRecord w.setup.g w.setup.id (rec.Snst st)) (status_in c (waiting_anchor w) st)
  status_takes st =
      let told = says (is_of w.setup st.id st.g && is_none w.transfer) in
      record {
        waits = λ first no_transfer nothing'. passes first (is_of w.setup st.id st.g) (is_none w.transfer) refl;
        after = λ u old rest tx closed payloads none is taking moving. status_front u payloads old rest tx closed none c w st taking moving is;
        told = told.told;
        untold = told.untold;
        silent_out = told.none;
      }
    where
      says : (t : Bool) → SaysSettled (if◌then◌else◌ {A = AnchorState × AnchorOut} t (settled c (record w { transfer = Some st })) (waiting_anchor w, silent))
      says true = settled_says c (record w { transfer = Some st }) few
      says false = idle_says w

      both : (p q : Bool) → (p && q) ≡ true → (p ≡ true) × (q ≡ true)
      both true q is = (refl, is)
      both false q is = absurd cc

      passes : IsOtherRecord w.setup.g w.setup.id (rec.Snst st) → (p q : Bool) → is_of w.setup st.id st.g ≡ p
          → AnchorWaits w [] (if◌then◌else◌ {A = AnchorState × AnchorOut} (p && q) (settled c (record w { transfer = Some st })) (waiting_anchor w, silent))
      passes other true q ours =
          let named = both (w.setup.id == st.id) (w.setup.g == st.g) ours in
          absurd (other (sym (eqb-true w.setup.g st.g named.1)) (sym (eqb-true w.setup.id st.id named.0)))
      passes other false q ours = idle_waits c w
