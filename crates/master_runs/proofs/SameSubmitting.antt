-- What the master sends: a submission, and a report.
use Rattle.std.proofs.Common.{ℕ, ◌≡◌, ◌+◌, ◌-◌, ◌^◌, ◌≤◌, ◌==◌, ◌++◌, true, false, List, [], ◌∷◌, Option, Some, None, length, refl, sym, ap, subst, ◌∙◌, inl, inr, arith}
use Rattle.std.specs.Prelude.{Ok, map, find, nat_le}
use Rattle.std.specs.List.{filter_map, cons_option, AllByRecursion}
use Rattle.std.specs.Option.{option_map}
use Rattle.std.proofs.lemmas.Bool.{cases_Bool, leb-true, leb-false, le-leb, lt-leb}
use Rattle.dc_base.specs.Count.{window}
use Rattle.dc_base.specs.declared.answers.Answer.TheVariants as answer
use Rattle.dc_base.specs.declared.answers.Refusal.TheVariants as refusal
use Rattle.dc_base.specs.declared.events.Header.{Header}
use Rattle.dc_base.specs.declared.events.Line.TheVariants as line
use Rattle.dc_base.specs.declared.flights.Flight.TheVariants as flight
use Rattle.dc_base.specs.declared.nodes.Dir.TheVariants.{Dl}
use Rattle.dc_base.specs.declared.nodes.Node.TheVariants.{M}
use Rattle.nr_u.specs.Tunnel.Outgoing.{Outgoing}
use Rattle.pdcp_pdu.specs.StatusReport.{report_pdu}
use Rattle.pdcp_rx.specs.Entries.{counts_of}
use Rattle.pdcp_tx.specs.Sender.{Sender, Entry, least, low, sdu_at, Rises}
use Rattle.pdcp_tx.proofs.Entries.{Rises-bounds}
use Rattle.split_leg.specs.declared.leg.Pdu.{Pdu}
use Rattle.transcript.specs.Content.{mt_air}
use Rattle.transcript.proofs.OnEach.{each_append}
use Rattle.master_runs.specs.Control.{Nodes, is_change}
use Rattle.master_runs.specs.Entities.{Entities, bearer_in, with_bearer}
use Rattle.master_runs.specs.Plane.{numbered_as, submitted}
use Rattle.master_runs.specs.Run.{reported_by}
use Rattle.master_runs.proofs.Lane.{IsGiven}
use Rattle.master_runs.proofs.Lists.{kept_before}
use Rattle.master_runs.proofs.Tables.{within_table}
use Rattle.node_rules.specs.Anchor.{Active, active_anchor}
use Rattle.node_rules.specs.AnchorSending as anchor
use Rattle.node_rules.specs.Choices.{Choices, Send}
use Rattle.node_rules.specs.Effects.{accepted}
use Rattle.node_rules.specs.Entity.{pdu_of}
use Rattle.node_rules.specs.Held.{held, holding}
use Rattle.node_rules.specs.Master.{MasterNode, anchor_did}
use Rattle.node_rules.specs.MasterStep as master
use Rattle.node_rules.specs.Sending.{sends}
use Rattle.node_rules.specs.declared.bearers.Window.{Window}
use Rattle.node_rules.specs.declared.commands.Row.{Row}
use Rattle.master_runs.specs.Forms.{Leg, legs_as, setup_as, entity_as, all_more, flights_from, all_on}
use Rattle.master_runs.specs.Same.{Inside, IsBearer, IsConfirmed, IsGone, SameMaster, MasterDid, master_as}
use Rattle.master_runs.proofs.SameSending.{anchor_with, sdu-next}
use Rattle.master_runs.proofs.Lining.{lines_down}
use Rattle.master_runs.proofs.Ciphering.{pdu_same}
use Rattle.master_runs.proofs.Legs.{tags-more, many_same}
use Rattle.master_runs.proofs.Holding.{held-same, held-other}
use Rattle.master_runs.proofs.Bearers.{active_as, did_there, put_back, bearers_with}

-- the windows are full together
window_same : (size next low : ℕ) → low ≤ next → nat_le size (next - low) ≡ nat_le (low + size) next
window_same size next low le =
    elim (cases_Bool (nat_le (low + size) next)) [
      | inl full ↦ let is = leb-true (low + size) next full in le-leb size (next - low) (omega arith) ∙ sym full
      | inr room ↦ let is = leb-false (low + size) next room in lt-leb size (next - low) (omega arith) ∙ sym room
    ]

-- Low stays where one more is kept
least_push : (next : ℕ) (p : List ℕ) (es : List Entry) → least (next + 1) (es ++ (next, p) ∷ []) ≡ least next es
least_push next p [] = omega arith
least_push next p (x ∷ es) = let rest = least_push next p es in omega arith

-- one more PDU is put on a leg, which has no ack
pub confirmed-more : (kept : List Entry) (ps : List Pdu) (p : Pdu) → p.acked ≡ false → AllByRecursion (IsConfirmed kept) ps → AllByRecursion (IsConfirmed kept) (ps ++ p ∷ [])
confirmed-more kept ps p new all = each_append (IsConfirmed kept) ps (p ∷ []) all ((λ is. absurd cc), tt)

-- the COUNTs of a leg's PDUs are below the next one, so those that are gone are so when the next one is kept
pub confirmed-kept : (first next : ℕ) (kept : List Entry) (sdu : List ℕ) (ps : List Pdu) → AllByRecursion (IsGiven first next) (map (λ (p : Pdu). p.count) ps)
    → AllByRecursion (IsConfirmed kept) ps → AllByRecursion (IsConfirmed (kept ++ (next, sdu) ∷ [])) ps
confirmed-kept first next kept sdu [] given all = tt
confirmed-kept first next kept sdu (p ∷ ps) given all = ((λ is. gone p.count given.0 (all.0 is)), confirmed-kept first next kept sdu ps given.1 all.1)
  where
    gone : (o : Option ℕ) → IsGiven first next o → IsGone kept o → IsGone (kept ++ (next, sdu) ∷ []) o
    gone None given was = was
    gone (Some c) given was = kept_before next c sdu kept given.1 ∙ was

module _ (h : Header) (c : Choices) (s : Nodes) (y : Inside) (same : SameMaster h s y) where
  -- the master
  abbrev the_master : MasterNode
  the_master = master_as h s.drawn y

  -- nothing changes
  pub unchanged : (why : _) → MasterDid h (the_master, record { answer = answer.No why; notes = []; sends = [] }) (s, (answer.No why, []))
  unchanged why = record { after = y; notes = []; sends = []; is = refl; lined = refl; plain = tt; same = same }

  module _ (id : ℕ) (e : Entities) (x : Leg) (r : Row) (tunnel : Outgoing) (w : Window) (is : IsBearer s.drawn s.busy y.command id e x r true w)
      (free : is_change s.busy e.bearer.g ≡ false) (at : bearer_in s.master id ≡ Some e) (row : find (λ r. r.id == id) y.rows ≡ Some r)
      (anchor_at : held id y.anchors ≡ Some (active_anchor (active_as h e.bearer x e.tx e.rx true tunnel))) (window_at : held id y.windows ≡ Some w)
      (rises : Rises e.bearer.first e.tx.next e.tx.kept) (given : AllByRecursion (IsGiven e.bearer.first e.tx.next) e.sent) where
    -- a submission that is numbered
    pub numbered_down : (payload : List ℕ) → (nat_le (low e.tx + window e.tx.n) e.tx.next ≡ false) → ((e.tx.next == 2 ^ 32 - 1) ≡ false)
        → let tx : Sender = record e.tx { next = e.tx.next + 1; kept = e.tx.kept ++ (e.tx.next, payload) ∷ [] } in
        MasterDid h (accepted (anchor_did (master.with_accepted the_master id w) id (anchor.sent_by (anchor.submit_as c (active_as h e.bearer x e.tx e.rx true tunnel) payload (Ok (tx, e.tx.next))))))
        (record s { master = with_bearer s.master id (Some (numbered_as h Dl e payload (Ok (tx, e.tx.next))).0) }, (numbered_as h Dl e payload (Ok (tx, e.tx.next))).1)
    numbered_down payload room left =
        let b = e.bearer in
        let count = e.tx.next in
        let tx : Sender = record e.tx { next = e.tx.next + 1; kept = e.tx.kept ++ (e.tx.next, payload) ∷ [] } in
        let the_entity = entity_as h M b x tx e.rx in
        let pdu = pdu_of (setup_as h M b (legs_as x)) (count, payload) in
        let ps : List (Option ℕ × List ℕ) = (Some count, pdu) ∷ [] in
        let found : filter_map (λ k. option_map (λ sdu. (Some k, pdu_of (setup_as h M b (legs_as x)) (k, sdu))) (sdu_at tx.kept k)) (count ∷ []) ≡ ps =
        ap (λ o. cons_option (option_map (λ sdu. (Some count, pdu_of (setup_as h M b (legs_as x)) (count, sdu))) o) []) (sdu-next b.first count payload e.tx.kept rises) in
        let e' : Entities = record e { tx = tx; sent = e.sent ++ Some count ∷ [] } in
        let z = all_more x ps in
        let w' : Window = record w { accepted = w.accepted + 1 } in
        let windows = holding id (Some w') y.windows in
        let finish : Active × List Send → MasterNode × _ = λ q. accepted (anchor_did (master.with_accepted the_master id w) id (anchor.sent_by q)) in
        record {
          after = record y { anchors = holding id (Some (active_anchor (active_as h b z tx e.rx true tunnel))) y.anchors; windows = windows };
          notes = [];
          sends = all_on mt_air (flights_from b (length x.pdus) ps);
          is = ap (λ qs. finish (anchor.with_sends (active_as h b x tx e.rx true tunnel) (sends c the_entity qs))) found
              ∙ ap finish (anchor_with h c b x tx e.rx true tunnel ps);
          lined = lines_down answer.Ok (flights_from b (length x.pdus) ps)
              ∙ ap (λ k. line.Send mt_air (flight.Air b.id b.g k (Some count) pdu) ∷ []) (many_same x e.sent is.tags)
              ∙ ap (λ u. line.Send mt_air (flight.Air b.id b.g (length e.sent) (Some count) u) ∷ []) (pdu_same h Dl b (legs_as x) count payload);
          plain = (tt, tt);
          same = bearers_with h s y same id (within_table s.master id e at) e' z r true tunnel w' windows row (held-same id w' y.windows) (λ k apart. held-other id k w' y.windows apart) (record {
            named = is.named;
            tags = tags-more x ps ∙ ap (λ ts. ts ++ Some count ∷ []) is.tags;
            confirmed = confirmed-more tx.kept x.pdus _ refl (confirmed-kept b.first count e.tx.kept payload x.pdus (subst (AllByRecursion (IsGiven b.first count)) (sym is.tags) given) is.confirmed);
            n = is.n;
            tx_n = is.tx_n;
            anchor = is.anchor;
            accepted = let was = is.accepted in omega arith;
            told = is.told ∙ sym (least_push e.tx.next payload e.tx.kept);
            known = is.known;
            unsettled = is.unsettled;
            open_is = is.open_is;
            unused = λ open'. absurd cc;
          });
        }

    -- a report
    pub reported_down : MasterDid h (accepted (anchor_did the_master id (anchor.report c (active_anchor (active_as h e.bearer x e.tx e.rx true tunnel)))))
        (let done = reported_by Dl s.master id (Some e) in (record s { master = done.0 }, done.1))
    reported_down =
        let b = e.bearer in
        let ps : List (Option ℕ × List ℕ) = (None, report_pdu e.rx.deliv (counts_of e.rx.stored)) ∷ [] in
        let e' : Entities = record e { sent = e.sent ++ None ∷ [] } in
        let z = all_more x ps in
        record {
          after = record y { anchors = holding id (Some (active_anchor (active_as h b z e.tx e.rx true tunnel))) y.anchors };
          notes = [];
          sends = all_on mt_air (flights_from b (length x.pdus) ps);
          is = ap (λ (q : Active × List Send). accepted (anchor_did the_master id (anchor.sent_by q))) (anchor_with h c b x e.tx e.rx true tunnel ps);
          lined = lines_down answer.Ok (flights_from b (length x.pdus) ps)
              ∙ ap (λ k. line.Send mt_air (flight.Air b.id b.g k None (report_pdu e.rx.deliv (counts_of e.rx.stored))) ∷ []) (many_same x e.sent is.tags);
          plain = (tt, tt);
          same = bearers_with h s y same id (within_table s.master id e at) e' z r true tunnel w y.windows row window_at (λ k apart. refl) (record {
            named = is.named;
            tags = tags-more x ps ∙ ap (λ ts. ts ++ None ∷ []) is.tags;
            confirmed = confirmed-more e.tx.kept x.pdus _ refl is.confirmed;
            n = is.n;
            tx_n = is.tx_n;
            anchor = is.anchor;
            accepted = is.accepted;
            told = is.told;
            known = is.known;
            unsettled = is.unsettled;
            open_is = is.open_is;
            unused = is.unused;
          });
        }

    -- whether it is taken
    pub submission_down : (payload : List ℕ)
        → MasterDid h (master.submitted_to c the_master id payload r (Some w))
        (let done = submitted h Dl s.master id payload (Some e) in (record s { master = done.0 }, done.1))
    submission_down payload =
        let bounds = Rises-bounds e.bearer.first e.tx.next e.tx.kept rises in
        let accepted_is = is.accepted in
        let told_is = is.told in
        let full_is : nat_le (window r.n) (r.first + w.accepted - w.told) ≡ nat_le (low e.tx + window e.tx.n) e.tx.next =
        ap (λ n. nat_le (window n) (r.first + w.accepted - w.told)) (is.n ∙ sym is.tx_n)
        ∙ ap (λ k. nat_le (window e.tx.n) (k - w.told)) accepted_is ∙ ap (λ k. nat_le (window e.tx.n) (e.tx.next - k)) told_is
        ∙ window_same (window e.tx.n) e.tx.next (low e.tx) bounds.1 in
        let last_is : (r.first + w.accepted == 2 ^ 32 - 1) ≡ (e.tx.next == 2 ^ 32 - 1) = ap (λ k. k == 2 ^ 32 - 1) accepted_is in
        let back = put_back s.master id e at in
        let s_back : record s { master = with_bearer s.master id (Some e) } ≡ s = ap (λ t. record s { master = t }) back in
        elim (cases_Bool (nat_le (low e.tx + window e.tx.n) e.tx.next)) [
          | inl full ↦ did_there h (rw (full_is, full) refl) (rw full (ap (λ (n : Nodes). (n, (answer.No refusal.Full, []))) s_back)) (unchanged refusal.Full)
          | inr room ↦ elim (cases_Bool (e.tx.next == 2 ^ 32 - 1)) [
            | inl last ↦ did_there h (rw (full_is, room, last_is, last) refl) (rw (room, last) (ap (λ (n : Nodes). (n, (answer.No refusal.Exhausted, []))) s_back)) (unchanged refusal.Exhausted)
            | inr left ↦ did_there h (rw (full_is, room, last_is, left, is.anchor, anchor_at, room, left) refl) (rw (room, left) refl) (numbered_down payload room left)
          ]
        ]
