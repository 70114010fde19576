-- An anchor that waits gathers the sending entity of the frozen one, and has it once it adopts, with what came to it meanwhile behind.
use Rattle.std.proofs.Common.{Bool, List, None, Option, Some, [], false, refl, sym, subst, ap, arith, true, ℕ, ◌++◌, ◌-◌, ◌∷◌, ◌<◌, ◌≡◌, ◌∙◌, ◌^◌, append_assoc}
use Rattle.std.specs.List.{AllByRecursion, filter_map}
use Rattle.std.specs.Prelude.{if◌then◌else◌, is_none, is_some, ◌&&◌, ◌==◌}
use Rattle.std.proofs.lemmas.Bool.Decides.{nat_tests}
use Rattle.std.proofs.lemmas.Bool.{eqb-true}
use Rattle.dc_base.specs.Count.{window}
use Rattle.dc_base.specs.declared.nodes.Dir.{Dir}
use Rattle.dc_base.specs.declared.nodes.Dir.TheVariants.{Dl, Ul}
use Rattle.dc_base.specs.declared.records.StatusTransfer.{StatusTransfer}
use Rattle.forward.specs.Forwarded.{nothing_came, whole}
use Rattle.forward.specs.Load.{Load, Sdu}
use Rattle.forward.specs.Tunnel.{IsEndOf}
use Rattle.forward.proofs.Arrivals.{after_packet, list_of, nothing_of, one_list}
use Rattle.pdcp_pdu.specs.DataPdu.{IsPayload}
use Rattle.pdcp_pdu.specs.Pdu.{Content, report, sdu}
use Rattle.pdcp_tx.specs.Sender.{Entry, InWindow, Sender, low}
use Rattle.pdcp_tx.proofs.Entries.{Rises-least}
use Rattle.transcript.proofs.OnEach.{each_weaker}
use Rattle.node_rules.specs.Adopting.{adopts, adopts_with, forward_in, if_fresh, is_payload, numbered_of, settled, status_in, taken_over, with_load}
use Rattle.node_rules.specs.Anchor.{Active, AnchorState, Waiting, new_tunnel, silent, waiting_anchor}
use Rattle.node_rules.specs.AnchorSending.{open_if}
use Rattle.node_rules.specs.Choices.{Choices}
use Rattle.node_rules.specs.Entity.{Entity, take_pdu, take_pdus}
use Rattle.node_rules.specs.Setup.{Setup, is_of}
use Rattle.node_rules.specs.declared.bearers.AnchorOut.{AnchorOut}
use Rattle.run_moves.proofs.Taken.{held_same, kept_same}
use Rattle.run_receivers.specs.Submitted.{IsSubmission, Submitted}
use Rattle.run_ordered.specs.Forwarding.{IsForwardedOf, IsTakingOver, IsTransferOf, down_tunnel, forwarded_by}
use Rattle.run_ordered.specs.Scenes.{HasOrTakes, has, takes}
use Rattle.run_ordered.specs.Fronts.{ArePayloads, IsFront, IsMoving}
use Rattle.run_ordered.proofs.Freezing.{all_at, forwarded_few}
use Rattle.run_ordered.proofs.Fronts.{open_rises, pdus_rise, front_near, length_is, open_if_front, pdus_front}

-- ---- payloads

passes : (p : List ℕ) → IsPayload p → is_payload p ≡ true
passes p good = let some = good.some in let most = good.most in grind (arith, nat_tests)

right_of : {X : Type 0} (P : X → Type 0) (xs ys : List X) → AllByRecursion P (xs ++ ys) → AllByRecursion P ys
right_of P [] ys all = all
right_of P (x ∷ xs) ys all = right_of P xs ys all.1

left_of : {X : Type 0} (P : X → Type 0) (xs ys : List X) → AllByRecursion P (xs ++ ys) → AllByRecursion P xs
left_of P [] ys all = tt
left_of P (x ∷ xs) ys all = (all.0, left_of P xs ys all.1)

module _ (u : Submitted) (payloads : ArePayloads u) where
  -- what is kept and what is held are payloads
  pub kept_payloads : (es : List Entry) → AllByRecursion (IsSubmission u) es → AllByRecursion (λ (e : Entry). IsPayload e.1) es
  kept_payloads es all = each_weaker (IsSubmission u) (λ (e : Entry). IsPayload e.1) (λ e s. all_at IsPayload u.payloads (e.0 - u.first) e.1 payloads s.payload) es all

  pub held_payloads : (rest : List (List ℕ)) (is_open : Bool) (tx : Sender) → IsFront u rest is_open tx → AllByRecursion IsPayload tx.held
  held_payloads rest is_open tx f = left_of IsPayload tx.held rest (right_of IsPayload f.given (tx.held ++ rest) (subst (AllByRecursion IsPayload) f.all payloads))

  -- ---- the entity that is taken over

  -- the same next COUNT, the same SDUs kept, and what is held, with what came meanwhile behind
  taken_same : (rest : List (List ℕ)) (tx : Sender) (w : Waiting) (st : StatusTransfer) (up : List Sdu) → IsFront u (w.fresh ++ rest) false tx → w.setup.n ≡ tx.n → st.dl ≡ tx.next
      → (taken_over w st (forwarded_by tx) up).tx ≡ record tx { held = tx.held ++ w.fresh }
  taken_same rest tx w st up f n_is dl_is =
      let kept = each_weaker (λ (e : Entry). IsPayload e.1) (λ (e : Entry). is_payload e.1 ≡ true) (λ e. passes e.1) tx.kept (kept_payloads tx.kept f.kept) in
      let held = each_weaker IsPayload (λ (p : List ℕ). is_payload p ≡ true) passes tx.held (held_payloads (w.fresh ++ rest) false tx f) in
      let near = front_near u (w.fresh ++ rest) false tx f in
      let n_same : window tx.n ≡ window u.n = ap window f.same_n in
      let small : tx.next < 2 ^ 32 = let len = length_is u (w.fresh ++ rest) false tx f in let next = f.next in let few = f.small in omega arith in
      let in_window : InWindow tx.n tx.next tx.kept = record { from = low tx; near = omega arith; rises = Rises-least u.first tx.next tx.kept f.rises } in
      let one : numbered_of w.setup.n st.dl (forwarded_by tx) ≡ tx.kept =
      ap (λ n. numbered_of n st.dl (forwarded_by tx)) n_is ∙ ap (λ c. numbered_of tx.n c (forwarded_by tx)) dl_is ∙ kept_same tx.n tx.next tx.kept tx.held small in_window kept in
      let two : filter_map if_fresh (forwarded_by tx) ≡ tx.held = held_same tx.n tx.kept tx.held held in
      ap {B = Sender} (λ n. record { n = n; next = st.dl; kept = numbered_of w.setup.n st.dl (forwarded_by tx); held = filter_map if_fresh (forwarded_by tx) ++ w.fresh }) n_is
      ∙ ap {B = Sender} (λ c. record { n = tx.n; next = c; kept = numbered_of w.setup.n st.dl (forwarded_by tx); held = filter_map if_fresh (forwarded_by tx) ++ w.fresh }) dl_is
      ∙ ap {B = Sender} (λ es. record { n = tx.n; next = tx.next; kept = es; held = filter_map if_fresh (forwarded_by tx) ++ w.fresh }) one
      ∙ ap {B = Sender} (λ sdus. record { n = tx.n; next = tx.next; kept = tx.kept; held = sdus ++ w.fresh }) two

  -- what came to the new anchor is held then
  joined_front : (rest fresh : List (List ℕ)) (tx : Sender) → IsFront u (fresh ++ rest) false tx → IsFront u rest false (record tx { held = tx.held ++ fresh })
  joined_front rest fresh tx f = record {
    same_n = f.same_n;
    given = f.given;
    next = f.next;
    all = f.all ∙ ap (λ (xs : List (List ℕ)). f.given ++ xs) (sym (append_assoc tx.held fresh rest));
    rises = f.rises;
    kept = f.kept;
    room = f.room;
    small = f.small;
    none_held = λ is. absurd cc;
  }

  -- the SNs of an entity are of one length, whatever PDUs it takes
  pdu_n : (e : Entity) (x : Content) → (take_pdu e x).0.setup.n ≡ e.setup.n
  pdu_n e (sdu s body) = refl
  pdu_n e (report fmc bits) = refl

  pdus_n : (e : Entity) (xs : List Content) → (take_pdus e xs).0.setup.n ≡ e.setup.n
  pdus_n e [] = refl
  pdus_n e (x ∷ xs) = pdus_n (take_pdu e x).0 xs ∙ pdu_n e x

  -- ---- an anchor that waits, or adopted

  module _ (old rest : List (List ℕ)) (tx : Sender) (closed : Bool) (none : closed ≡ true → old ≡ []) where
    -- it adopts
    adopted_front : (c : Choices) (w : Waiting) (st : StatusTransfer) (down up : List Sdu) → IsTakingOver tx closed w → IsMoving u old rest tx w → st.dl ≡ tx.next → down ≡ forwarded_by tx → closed ≡ true
        → HasOrTakes u w.setup.g w.fresh old rest tx closed (adopts c w (taken_over w st down up)).0
    adopted_front c w st down up is moving dl_is all shut =
        let e = taken_over w st down up in
        let front' : IsFront u (w.fresh ++ rest) false tx = subst (λ xs. IsFront u (xs ++ (w.fresh ++ rest)) false tx) (none shut) moving in
        let same : e.tx ≡ record tx { held = tx.held ++ w.fresh } = ap (λ ds. (taken_over w st ds up).tx) all ∙ taken_same rest tx w st up front' is.same_n dl_is in
        let front : IsFront u rest false e.tx = subst (IsFront u rest false) (sym same) (joined_front rest w.fresh tx front') in
        let done = take_pdus e w.pdus in
        let begun : Active = record { entity = done.0; is_open = false; tunnel = new_tunnel w.setup.n } in
        let same_low : low e.tx ≡ low tx = ap low same in
        let one = pdus_rise e w.pdus in
        let two = open_rises c w.is_told begun in
        has (open_if w.is_told c begun).0 shut
        (open_if_front u c rest w.is_told begun (record { same_n = pdus_n e w.pdus ∙ is.same_n ∙ moving.same_n; front = pdus_front u rest false e w.pdus front })) (omega arith)

    by_parts : (c : Choices) (w : Waiting) → IsTakingOver tx closed w → IsMoving u old rest tx w → (o : Option StatusTransfer) (down up : Option (List Sdu)) → w.transfer ≡ o → whole w.down ≡ down
        → HasOrTakes u w.setup.g w.fresh old rest tx closed (adopts_with c w o down up).0
    by_parts c w is moving None down up there all = takes w refl refl is moving
    by_parts c w is moving (Some st) None up there all = takes w refl refl is moving
    by_parts c w is moving (Some st) (Some down) None there all = takes w refl refl is moving
    by_parts c w is moving (Some st) (Some down) (Some up) there all =
        let list = list_of (down_tunnel tx closed) w.down is.down (ap is_some all) in
        adopted_front c w st down up is moving (is.transfer st there) (one_list w.down down (forwarded_by tx) all list.0) list.1

    settled_front : (c : Choices) (w : Waiting) → IsTakingOver tx closed w → IsMoving u old rest tx w → HasOrTakes u w.setup.g w.fresh old rest tx closed (settled c w).0
    settled_front c w is moving = by_parts c w is moving w.transfer (whole w.down) (whole w.up) refl refl

    -- the status transfer comes
    pub status_front : (c : Choices) (w : Waiting) (st : StatusTransfer) → IsTakingOver tx closed w → IsMoving u old rest tx w → IsTransferOf tx w.setup.g w.setup.id st
        → HasOrTakes u w.setup.g w.fresh old rest tx closed (status_in c (waiting_anchor w) st).0
    status_front c w st is moving says = by (is_of w.setup st.id st.g) (is_none w.transfer) refl
      where
        both : (p q : Bool) → (p && q) ≡ true → (p ≡ true) × (q ≡ true)
        both true q so = (refl, so)
        both false q so = absurd cc

        one : (x : StatusTransfer) → Some st ≡ Some x → st ≡ x
        one x same = cc

        by : (p q : Bool) → is_of w.setup st.id st.g ≡ p
            → HasOrTakes u w.setup.g w.fresh old rest tx closed (if◌then◌else◌ {A = AnchorState × AnchorOut} (p && q) (settled c (record w { transfer = Some st })) (waiting_anchor w, silent)).0
        by true true named =
            let ids = both (w.setup.id == st.id) (w.setup.g == st.g) named in
            let dl_is = says (sym (eqb-true w.setup.g st.g ids.1)) (sym (eqb-true w.setup.id st.id ids.0)) in
            settled_front c (record w { transfer = Some st }) (record { same_n = is.same_n; transfer = λ x same. subst (λ (y : StatusTransfer). y.dl ≡ tx.next) (one x same) dl_is; down = is.down }) moving
        by true false named = takes w refl refl is moving
        by false q other = takes w refl refl is moving

    -- something comes out of a forwarding tunnel
    pub forward_front : (c : Choices) (w : Waiting) (d : Dir) (load : Load) → IsTakingOver tx closed w → IsMoving u old rest tx w → (d ≡ Dl → IsForwardedOf tx closed load)
        → HasOrTakes u w.setup.g w.fresh old rest tx closed (forward_in c (waiting_anchor w) d load).0
    forward_front c w Ul load is moving says = settled_front c (with_load w Ul load) (record { same_n = is.same_n; transfer = is.transfer; down = is.down }) moving
    forward_front c w Dl load is moving says =
        let of = says refl in
        settled_front c (with_load w Dl load)
        (record { same_n = is.same_n; transfer = is.transfer; down = after_packet (down_tunnel tx closed) w.down of.0 load (forwarded_few u (old ++ (w.fresh ++ rest)) false tx moving) of.1 of.2 is.down }) moving

-- an anchor that begins to wait takes any entity over
pub waiting_takes : (tx : Sender) (closed : Bool) (s : Setup) → s.n ≡ tx.n → (w : Waiting) → w.setup ≡ s → w.transfer ≡ None → w.down ≡ nothing_came → IsTakingOver tx closed w
waiting_takes tx closed s n_is w at no_transfer nothing = record {
  same_n = ap (λ (x : Setup). x.n) at ∙ n_is;
  transfer = λ st is. absurd (cc (no_transfer, is));
  down = subst (IsEndOf (down_tunnel tx closed)) (sym nothing) (nothing_of (down_tunnel tx closed));
}
