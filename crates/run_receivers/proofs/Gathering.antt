-- An anchor that waits gathers the receiving entity of the frozen one, and has it once it adopts; the PDUs that it kept are taken then.
use Rattle.std.proofs.Common.{ℕ, ◌≡◌, ◌+◌, ◌^◌, ◌<◌, ◌==◌, ◌++◌, ◌&&◌, Bool, true, false, List, [], ◌∷◌, Option, Some, None, length, refl, sym, ap, ◌∙◌, subst, arith, append_assoc}
use Rattle.std.specs.Prelude.{is_none, is_some, if◌then◌else◌}
use Rattle.std.proofs.lemmas.Bool.{eqb-true}
use Rattle.std.proofs.lemmas.Bool.Decides.{nat_tests}
use Rattle.std.proofs.lemmas.List.{append-nil}
use Rattle.dc_base.specs.Count.{window}
use Rattle.dc_base.specs.declared.nodes.Dir.{Dir}
use Rattle.dc_base.specs.declared.nodes.Dir.TheVariants.{Dl, Ul}
use Rattle.dc_base.specs.declared.numbers.SnLen.{SnLen}
use Rattle.dc_base.specs.declared.records.StatusTransfer.{StatusTransfer}
use Rattle.dc_base.proofs.Counting.{window_small}
use Rattle.forward.specs.Forwarded.{Forwarded, whole}
use Rattle.forward.specs.Load.{Load, Sdu}
use Rattle.forward.specs.Tunnel.{IsEndOf}
use Rattle.forward.proofs.Arrivals.{after_packet, list_of, nothing_of, one_list}
use Rattle.pdcp_pdu.specs.DataPdu.{IsPayload}
use Rattle.pdcp_pdu.specs.Pdu.{Content}
use Rattle.pdcp_rx.specs.Entries.{Entry}
use Rattle.pdcp_rx.specs.declared.entity.RxParts.{RxParts}
use Rattle.transcript.proofs.OnEach.{each_weaker}
use Rattle.node_rules.specs.Adopting.{adopts, adopts_with, forward_in, is_payload, settled, status_in, stored_of, taken_over, with_load}
use Rattle.node_rules.specs.Anchor.{Active, AnchorState, Waiting, active_anchor, new_tunnel, setup_at, silent, waiting, waiting_anchor}
use Rattle.node_rules.specs.AnchorSending.{open_if}
use Rattle.node_rules.specs.Choices.{Choices}
use Rattle.node_rules.specs.Entity.{take_pdus}
use Rattle.node_rules.specs.Setup.{Setup, is_of}
use Rattle.node_rules.specs.declared.bearers.AnchorOut.{AnchorOut}
use Rattle.run_moves.specs.Movable.{ArePayloads}
use Rattle.run_moves.proofs.Taken.{stored_same}
use Rattle.run_receivers.specs.Anchors.{HasReceiver, HasStepped, IsGathering}
use Rattle.run_receivers.specs.Frozen.{IsForwardedOf, IsTransferOf, SaysOf, up_tunnel}
use Rattle.run_receivers.specs.Pdus.{ArePdus, Ciphering, IsFrom, IsPdu, IsReader}
use Rattle.run_receivers.specs.Receiving.{HasTaken, IsReceiving}
use Rattle.run_receivers.specs.Submitted.{IsSubmission, Submitted, with_more}
use Rattle.run_receivers.proofs.Ciphering.{payload_is}
use Rattle.run_receivers.proofs.Freezing.{length-numbered, stored_few}
use Rattle.run_receivers.proofs.Growing.{in_order, pdus_later}
use Rattle.run_receivers.proofs.Taking.{pdus_taken, readers_stay, taken_none, taken_again}
use Rattle.run_receivers.proofs.Untouched.{open_if_leaves, same_reader}

-- ---- what is stored

payload_passes : (p : List ℕ) → IsPayload p → is_payload p ≡ true
payload_passes p good = let some = good.some in let most = good.most in grind (arith, nat_tests)

-- what a receiving entity stores are payloads
pub stored_payloads : (u : Submitted) (low : ℕ) (rx : RxParts) → IsReceiving u low rx → ArePayloads rx.stored
stored_payloads u low rx r =
    each_weaker (IsSubmission u) (λ (e : Entry). is_payload e.1 ≡ true) (λ e s. payload_passes e.1 (payload_is u e.0 e.1 r.payloads s)) rx.stored r.stored

-- and there are few of them
tunnel_short : (u : Submitted) (low : ℕ) (rx : RxParts) → IsReceiving u low rx → length (up_tunnel rx).sdus < 2 ^ 24
tunnel_short u low rx r =
    let order = in_order u low rx r in
    let count = length-numbered rx.n rx.stored in
    let few = stored_few (rx.deliv + 1) (rx.deliv + window rx.n) rx.stored order.ascends order.in_window in
    let wide = window_small rx.n in
    omega arith

-- ---- what is kept

pub pdus_more : (u : Submitted) (k : Ciphering) (low : ℕ) (tags : List (Option ℕ)) (xs : List Content) (tag : Option ℕ) (x : Content)
    → ArePdus u k low tags xs → IsPdu u k tag x → IsFrom low tag
    → ArePdus u k low (tags ++ tag ∷ []) (xs ++ x ∷ [])
pdus_more u k low [] [] tag x all is from = (is, from, tt)
pdus_more u k low [] (y ∷ ys) tag x all is from = absurd all
pdus_more u k low (t ∷ ts) [] tag x all is from = absurd all
pdus_more u k low (t ∷ ts) (y ∷ ys) tag x all is from = (all.0, all.1, pdus_more u k low ts ys tag x all.2 is from)

-- ---- the beginning

-- an anchor that begins to wait gathers any entity
pub waiting_gathers : (u : Submitted) (low : ℕ) (k : Ciphering) (rx : RxParts) (s : Setup) → IsReader u k s → HasReceiver u low k rx [] (waiting s)
waiting_gathers u low k rx s reader = record { reader = reader; transfer = λ st is. absurd cc; up = nothing_of (up_tunnel rx); kept = tt }

-- and so does one to which nothing of the old anchor came, whatever PDUs it keeps
pub gathers_any : (u : Submitted) (low : ℕ) (k : Ciphering) (rx other : RxParts) (tags : List (Option ℕ)) (w : Waiting) → IsGathering u low k rx tags w
    → w.transfer ≡ None → w.up.sdus ≡ [] → w.up.total ≡ None
    → IsGathering u low k other tags w
gathers_any u low k rx other tags w g no_transfer no_sdus no_total =
    let none : w.up ≡ record { sdus = []; total = None } =
    ap {B = Forwarded} (λ xs. record { sdus = xs; total = w.up.total }) no_sdus ∙ ap {B = Forwarded} (λ o. record { sdus = []; total = o }) no_total in
    record {
      reader = g.reader;
      transfer = λ st is. absurd (cc (no_transfer, is));
      up = subst (IsEndOf (up_tunnel other)) (sym none) (nothing_of (up_tunnel other));
      kept = g.kept;
    }

-- more is submitted
pub receiver_later : (u : Submitted) (low : ℕ) (k : Ciphering) (rx : RxParts) (tags : List (Option ℕ)) (more : List (List ℕ)) (s : AnchorState)
    → HasReceiver u low k rx tags s → HasReceiver (with_more u more) low k rx tags s
receiver_later u low k rx tags more (waiting_anchor w) h = record {
  reader = record { same_n = h.reader.same_n; same_key = h.reader.same_key };
  transfer = h.transfer;
  up = h.up;
  kept = pdus_later u k low more tags w.pdus h.kept;
}
receiver_later u low k rx tags more (active_anchor a) h =
    record { reader = record { same_n = h.reader.same_n; same_key = h.reader.same_key }; is = h.is; none = h.none }

-- ---- one step after another

pub stepped_again : (u : Submitted) (low : ℕ) (k : Ciphering) (rx : RxParts) (kept new more : List (Option ℕ)) (s s' : AnchorState) (out out' : AnchorOut)
    → (first : HasStepped u low k rx kept new (s, out)) → HasStepped u low k first.after first.left more (s', out')
    → HasStepped u low k rx kept (new ++ more) (s', record out' { ups = out.ups ++ out'.ups })
stepped_again u low k rx kept new more s s' out out' first later = record {
  after = later.after;
  tags = first.tags ++ later.tags;
  left = later.left;
  taken = taken_again u low first.tags later.tags rx first.after later.after out.ups out'.ups first.taken later.taken;
  holds = later.holds;
  those =
      append_assoc first.tags later.tags later.left
      ∙ ap (λ (ts : List (Option ℕ)). first.tags ++ ts) later.those
      ∙ sym (append_assoc first.tags first.left more)
      ∙ ap (λ (ts : List (Option ℕ)). ts ++ more) first.those
      ∙ append_assoc kept new more;
}

-- ---- the adoption

module _ (u : Submitted) (low : ℕ) (k : Ciphering) (rx : RxParts) (r : IsReceiving u low rx) where
  -- the entity that is taken over receives as the frozen one
  pub adopted_rx : (tags : List (Option ℕ)) (w : Waiting) → IsGathering u low k rx tags w → (st : StatusTransfer) (down up : List Sdu) → SaysOf rx st
      → up ≡ (up_tunnel rx).sdus
      → (taken_over w st down up).rx ≡ rx
  adopted_rx tags w g st down up says all =
      let n_is : w.setup.n ≡ rx.n = g.reader.same_n ∙ sym r.same_n in
      ap {B = RxParts} (λ (n : SnLen). record { n = n; deliv = st.ul; stored = stored_of n st.ul up }) n_is
      ∙ ap {B = RxParts} (λ (c : ℕ). record { n = rx.n; deliv = c; stored = stored_of rx.n c up }) says.ul
      ∙ ap {B = RxParts} (λ (xs : List Sdu). record { n = rx.n; deliv = rx.deliv; stored = stored_of rx.n rx.deliv xs }) all
      ∙ ap {B = RxParts} (λ (es : List Entry). record { n = rx.n; deliv = rx.deliv; stored = es })
      (stored_same rx (in_order u low rx r) (stored_payloads u low rx r))

  -- nothing was taken, and nothing came
  pub still : (tags : List (Option ℕ)) (s : AnchorState) (out : AnchorOut) → HasReceiver u low k rx tags s → out.ups ≡ []
      → HasStepped u low k rx tags [] (s, out)
  still tags s out h none = record {
    after = rx;
    tags = [];
    left = tags;
    taken = subst (HasTaken u low [] rx rx) (sym none) (taken_none u low rx r);
    holds = h;
    those = sym (append-nil tags);
  }

  -- it adopts: the PDUs that it kept are taken
  adoption_steps : (c : Choices) (tags : List (Option ℕ)) (w : Waiting) → IsGathering u low k rx tags w → (st : StatusTransfer) (down up : List Sdu)
      → SaysOf rx st → up ≡ (up_tunnel rx).sdus
      → HasStepped u low k rx tags [] (adopts c w (taken_over w st down up))
  adoption_steps c tags w g st down up says all =
      let e = taken_over w st down up in
      let is = adopted_rx tags w g st down up says all in
      let done = take_pdus e w.pdus in
      let taken = pdus_taken u low k e (subst (IsReceiving u low) (sym is) r) g.reader tags w.pdus g.kept in
      let begun : Active = record { entity = done.0; is_open = false; tunnel = new_tunnel w.setup.n } in
      let opened = open_if_leaves w.is_told c begun in
      record {
        after = done.0.rx;
        tags = tags;
        left = [];
        taken = subst (λ x. HasTaken u low tags x done.0.rx done.1) is taken;
        holds = record {
          reader = same_reader u k done.0.setup (open_if w.is_told c begun).0.entity.setup opened.setup (readers_stay u k e w.pdus g.reader);
          is = opened.rx;
          none = refl;
        };
        those = refl;
      }

  by_parts : (c : Choices) (tags : List (Option ℕ)) (w : Waiting) → IsGathering u low k rx tags w → (o : Option StatusTransfer) (down up : Option (List Sdu))
      → w.transfer ≡ o → whole w.up ≡ up
      → HasStepped u low k rx tags [] (adopts_with c w o down up)
  by_parts c tags w g None down up there all = still tags (waiting_anchor w) silent g refl
  by_parts c tags w g (Some st) None up there all = still tags (waiting_anchor w) silent g refl
  by_parts c tags w g (Some st) (Some down) None there all = still tags (waiting_anchor w) silent g refl
  by_parts c tags w g (Some st) (Some down) (Some up) there all =
      let list = list_of (up_tunnel rx) w.up g.up (ap is_some all) in
      adoption_steps c tags w g st down up (g.transfer st there) (one_list w.up up (up_tunnel rx).sdus all list.0)

  -- after something came that it waits for
  settled_steps : (c : Choices) (tags : List (Option ℕ)) (w : Waiting) → IsGathering u low k rx tags w → HasStepped u low k rx tags [] (settled c w)
  settled_steps c tags w g = by_parts c tags w g w.transfer (whole w.down) (whole w.up) refl refl

  with_transfer : (tags : List (Option ℕ)) (w : Waiting) (st : StatusTransfer) → IsGathering u low k rx tags w → SaysOf rx st
      → IsGathering u low k rx tags (record w { transfer = Some st })
  with_transfer tags w st g says = record {
    reader = g.reader;
    transfer = λ other is. subst (SaysOf rx) (one other is) says;
    up = g.up;
    kept = g.kept;
  }
    where
      one : (other : StatusTransfer) → Some st ≡ Some other → st ≡ other
      one other is = cc

  of_both : (a b : Bool) → (a && b) ≡ true → (a ≡ true) × (b ≡ true)
  of_both true b is = (refl, is)
  of_both false b is = absurd cc

  by_transfer : (c : Choices) (tags : List (Option ℕ)) (w : Waiting) (st : StatusTransfer) → IsGathering u low k rx tags w
      → IsTransferOf rx w.setup.g w.setup.id st → (t : Bool)
      → (is_of w.setup st.id st.g && is_none w.transfer) ≡ t
      → HasStepped u low k rx tags [] (if◌then◌else◌ {A = AnchorState × AnchorOut} t (settled c (record w { transfer = Some st })) (waiting_anchor w, silent))
  by_transfer c tags w st g says true is =
      let both = of_both (is_of w.setup st.id st.g) (is_none w.transfer) is in
      let named = of_both (w.setup.id == st.id) (w.setup.g == st.g) both.0 in
      settled_steps c tags (record w { transfer = Some st })
      (with_transfer tags w st g (says (sym (eqb-true w.setup.g st.g named.1)) (sym (eqb-true w.setup.id st.id named.0))))
  by_transfer c tags w st g says false is = still tags (waiting_anchor w) silent g refl

  -- the status transfer comes
  pub status_stepped : (c : Choices) (tags : List (Option ℕ)) (s : AnchorState) (st : StatusTransfer) → HasReceiver u low k rx tags s
      → IsTransferOf rx (setup_at s).g (setup_at s).id st
      → HasStepped u low k rx tags [] (status_in c s st)
  status_stepped c tags (waiting_anchor w) st h says = by_transfer c tags w st h says (is_of w.setup st.id st.g && is_none w.transfer) refl
  status_stepped c tags (active_anchor a) st h says = still tags (active_anchor a) silent h refl

  load_kept : (tags : List (Option ℕ)) (w : Waiting) (d : Dir) (load : Load) → IsGathering u low k rx tags w → (d ≡ Ul → IsForwardedOf rx load)
      → IsGathering u low k rx tags (with_load w d load)
  load_kept tags w Dl load g says = record { reader = g.reader; transfer = g.transfer; up = g.up; kept = g.kept }
  load_kept tags w Ul load g says =
      let from = says refl in
      record {
        reader = g.reader;
        transfer = g.transfer;
        up = after_packet (up_tunnel rx) w.up from.0 load (tunnel_short u low rx r) from.1 from.2 g.up;
        kept = g.kept;
      }

  -- a packet of a forwarding tunnel comes
  pub forward_stepped : (c : Choices) (tags : List (Option ℕ)) (w : Waiting) (d : Dir) (load : Load) → IsGathering u low k rx tags w
      → (d ≡ Ul → IsForwardedOf rx load)
      → HasStepped u low k rx tags [] (forward_in c (waiting_anchor w) d load)
  forward_stepped c tags w d load g says = settled_steps c tags (with_load w d load) (load_kept tags w d load g says)
