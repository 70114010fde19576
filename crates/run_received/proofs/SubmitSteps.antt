-- Each uplink after an event in which the terminal submits one more SDU of one of them.
use Rattle.std.proofs.Common.{ℕ, ◌≡◌, ◌+◌, ◌-◌, ◌^◌, ◌==◌, ◌++◌, true, false, List, []}
use Rattle.std.proofs.Common.{◌∷◌, Some, length, refl, sym, ap, subst, ◌∙◌, arith, length-append}
use Rattle.std.specs.Prelude.{if◌then◌else◌, nat_le}
use Rattle.std.specs.List.{AllByRecursion}
use Rattle.std.specs.Option.{option_map}
use Rattle.std.proofs.lemmas.Bool.{eq-eqb, eqb-false, ne_eqb, or_left}
use Rattle.std.proofs.lemmas.List.Folds.{list_any-append}
use Rattle.transcript.proofs.OnEach.{each_weaker}
use Rattle.dc_base.specs.Count.{window}
use Rattle.dc_base.specs.declared.events.Event.TheVariants as event
use Rattle.dc_base.specs.declared.events.Line.TheVariants as line
use Rattle.dc_base.specs.declared.flights.Flight.TheVariants as flight
use Rattle.dc_base.specs.declared.nodes.Dir.TheVariants.{Ul}
use Rattle.dc_base.specs.declared.nodes.Node.{Node}
use Rattle.dc_base.specs.declared.nodes.Node.TheVariants.{A, B, M, T}
use Rattle.claims.specs.Noted.{after}
use Rattle.claims.specs.Past.{Bearer, Early, Past}
use Rattle.claims.specs.Reading.{latest}
use Rattle.master_runs.proofs.Holding.{held-other, held-same}
use Rattle.node_rules.specs.Anchor.{AnchorState, Waiting, active_anchor, waiting_anchor}
use Rattle.node_rules.specs.Choices.{Choices, Send}
use Rattle.node_rules.specs.Held.{held}
use Rattle.node_rules.specs.Lines.{lines_of}
use Rattle.node_rules.specs.Run.{entry_with, moved_on, world_step}
use Rattle.node_rules.specs.Terminal.{TerminalNode, with_half}
use Rattle.node_rules.specs.TerminalHalf.{TerminalHalf}
use Rattle.node_rules.specs.World.{World, flights_on}
use Rattle.node_rules.specs.declared.inputs.Outcome.{Outcome}
use Rattle.pdcp_pdu.specs.DataPdu.{IsPayload}
use Rattle.pdcp_rx.specs.declared.entity.RxParts.{RxParts}
use Rattle.pdcp_tx.specs.Sender.{low}
use Rattle.pdcp_tx.proofs.Entries.{Rises-bounds}
use Rattle.run_receivers.specs.Anchors.{IsGathering}
use Rattle.run_receivers.proofs.Gathering.{receiver_later}
use Rattle.run_uplinks.specs.Seen.{seen, uplink_of}
use Rattle.run_uplinks.specs.Uplinks.{IsSender, plane}
use Rattle.run_uplinks.proofs.Establishments.{some_is}
use Rattle.run_words.proofs.Lines.{each_line_of}
use Rattle.run_received.specs.OnTheWay.{Comes, SentAlso, UpComes, is_air_of, is_sent_in}
use Rattle.run_received.specs.Receipts.{Receipt, receipt, receipt_of, submitted_to}
use Rattle.run_received.specs.Receivers.{IsSource, anchor_at, ciphering_of}
use Rattle.run_received.specs.Uplinks.{HasReceiver, IsWaiter, Serves}
use Rattle.run_received.proofs.Coming.{all_later}
use Rattle.run_received.proofs.Folding.{NamesDescend, hands_only, no_ups, with_ups}
use Rattle.run_received.proofs.Keeping.{grows_one, grows_still, waiter_still}
use Rattle.run_received.proofs.Links.{OfLine, each_after}
use Rattle.run_received.proofs.Outcomes.{none_begin, outcome_receipt}
use Rattle.run_received.proofs.Planes.{plane_after, same_ciphering, same_setting}
use Rattle.run_received.proofs.Receiving.{with_one}
use Rattle.run_received.proofs.Steps.{moved_anchors}
use Rattle.run_received.proofs.Submitting.{IsApart, IsUpSend, sends_come, sends_up, submission_happens, submitted_half, submitted_outcome}
use Rattle.run_received.proofs.Terminals.{IsEven, submits, with_next}

-- an anchor that waits gathers as it did while more is submitted
waiter_more : (p q : Past) (r : Receipt) (rx : RxParts) (payload : List ℕ) (x : Node) (v : Waiting) → plane (seen q) ≡ plane (seen p) → IsWaiter p r rx x v
    → IsWaiter q (with_one payload r) rx x v
waiter_more p q r rx payload x v same w = record {
  set = w.set;
  in_plan = same_setting p q same r.id v.setup.g ∙ w.in_plan;
  tags = w.tags;
  gathers = subst (λ k. IsGathering (submitted_to (with_one payload r)) r.freed k rx w.tags v) (sym (same_ciphering p q same r.id w.set))
      (receiver_later (submitted_to r) r.freed (ciphering_of p r.id w.set) rx w.tags (payload ∷ []) (waiting_anchor v) w.gathers);
  early = w.early;
  kept = w.kept;
  took = w.took;
  since = w.since;
  apart = w.apart;
}

up_hands : (id g count : ℕ) (s : Send) → IsUpSend id g count s → hands_only (line.Send s.0 s.1) ≡ true
up_hands id g count (l, flight.Air i h num tag pdu) is = refl
up_hands id g count (l, flight.Ack i h num) is = absurd is
up_hands id g count (l, flight.Tun tag packet) is = absurd is
up_hands id g count (l, flight.Sdu i h payload) is = absurd is
up_hands id g count (l, flight.End i h) is = absurd is
up_hands id g count (l, flight.Told i h c) is = absurd is
up_hands id g count (l, flight.Ctl r) is = absurd is

-- a PDU of one bearer says nothing of another
other_comes : (sent : List Send) (r : Receipt) (rx : RxParts) (id g count : ℕ) → (id == r.id) ≡ false → (s : Send) → IsUpSend id g count s
    → Comes sent r rx s.0 s.1
other_comes sent r rx id g count apart (l, flight.Air i h num tag pdu) is =
    let none : UpComes sent r i h tag pdu = λ of data'. absurd (eqb-false id r.id apart (sym is.1 ∙ of.0)) in rw is.0 none
other_comes sent r rx id g count apart (l, flight.Ack i h num) is = absurd is
other_comes sent r rx id g count apart (l, flight.Tun tag packet) is = absurd is
other_comes sent r rx id g count apart (l, flight.Sdu i h payload) is = absurd is
other_comes sent r rx id g count apart (l, flight.End i h) is = absurd is
other_comes sent r rx id g count apart (l, flight.Told i h c) is = absurd is
other_comes sent r rx id g count apart (l, flight.Ctl x) is = absurd is

module _ (c : Choices) (w : World) (p : Past) (b : Bearer) (payload : List ℕ) (e : TerminalHalf) (above : ℕ) (down : NamesDescend above p)
    (at : latest p b.id ≡ Some b) (there : held b.id w.terminal.halves ≡ Some e) (of_id : e.setup.id ≡ b.id) (set_to : b.terminal ≡ Some e.setup.g)
    (apart : IsApart e.setup) (s : IsSender (uplink_of b) e.tx) (good : IsPayload payload) (room : nat_le (low e.tx + window e.tx.n) e.tx.next ≡ false)
    (left : (e.tx.next == 2 ^ 32 - 1) ≡ false) (long : length w.links ≡ 64) (sent : List Send) where
  abbrev O : Outcome
  O = submitted_outcome c e payload

  abbrev V : World
  V = record w { terminal = with_half w.terminal b.id (Some (submitted_half c e payload).0) }

  abbrev Next : World
  Next = (world_step c w (event.Submit b.id Ul payload)).0

  abbrev Q : Past
  Q = after p (world_step c w (event.Submit b.id Ul payload)).1

  -- all that the terminal sent
  abbrev pub Sent : List Send
  Sent = sent ++ (submitted_half c e payload).1

  step_is : world_step c w (event.Submit b.id Ul payload) ≡ moved_on (event.Submit b.id Ul payload) (V, O)
  step_is = ap (moved_on (event.Submit b.id Ul payload)) (submission_happens c w b.id e payload there room left)

  entry_is : (world_step c w (event.Submit b.id Ul payload)).1 ≡ entry_with (event.Submit b.id Ul payload) O
  entry_is = ap (λ x. x.1) step_is

  same_anchors : (y : Node) (id : ℕ) → anchor_at y V id ≡ anchor_at y w id
  same_anchors M id = refl
  same_anchors A id = refl
  same_anchors B id = refl
  same_anchors T id = refl

  anchors_next : (y : Node) (id : ℕ) → anchor_at y Next id ≡ anchor_at y w id
  anchors_next y id = ap (λ x. anchor_at y x.0 id) step_is ∙ moved_anchors (event.Submit b.id Ul payload) V O y id ∙ same_anchors y id

  halves_next : Next.terminal ≡ V.terminal
  halves_next = ap (λ x. x.0.terminal) step_is

  ups : AllByRecursion (IsUpSend b.id e.setup.g e.tx.next) (submitted_half c e payload).1
  ups = subst (λ id. AllByRecursion (IsUpSend id e.setup.g e.tx.next) (submitted_half c e payload).1) of_id
      (sends_up c (record e { tx = with_next payload e.tx }) e.tx.next apart)

  hand : AllByRecursion (λ k. hands_only k ≡ true) (lines_of O)
  hand =
      each_line_of (λ k. hands_only k ≡ true) O tt
      (each_weaker (IsUpSend b.id e.setup.g e.tx.next) (λ (z : Send). hands_only (line.Send z.0 z.1) ≡ true) (up_hands b.id e.setup.g e.tx.next)
      (submitted_half c e payload).1 ups)

  same_plane : plane (seen Q) ≡ plane (seen p)
  same_plane = ap (λ z. plane (seen (after p z))) entry_is ∙ plane_after p (entry_with (event.Submit b.id Ul payload) O) refl (none_begin (lines_of O) hand)

  also : SentAlso sent Sent
  also id g before = list_any-append (λ (z : Send). is_air_of id g z.1) sent (submitted_half c e payload).1 ∙ or_left (is_sent_in id g sent) _ before

  early_still : (r : Receipt) → AllByRecursion (λ (x : Early). is_sent_in r.id x.g sent ≡ true) r.early → AllByRecursion
      (λ (x : Early). is_sent_in r.id x.g Sent ≡ true) r.early
  early_still r all = each_weaker (λ (x : Early). is_sent_in r.id x.g sent ≡ true) (λ (x : Early). is_sent_in r.id x.g Sent ≡ true)
      (λ x before. also r.id x.g before) r.early all

  -- the past has one more submission
  pub submitted_receipt : receipt Q b.id ≡ Some (with_one payload (receipt_of b))
  submitted_receipt =
      ap (λ z. receipt (after p z) b.id) entry_is
      ∙ outcome_receipt p (event.Submit b.id Ul payload) O b.id above refl down refl hand (receipt_of b) (ap (option_map receipt_of) at)
      ∙ ap (λ t. let q = if t then with_one payload (receipt_of b) else receipt_of b in Some (with_ups [] q)) (eq-eqb b.id b.id refl)
      ∙ ap Some (sym (no_ups (with_one payload (receipt_of b))))

  module _ (rx : RxParts) (was : HasReceiver p w sent (receipt_of b) rx) where
    now : IsEven (with_one payload (receipt_of b)) (with_next payload e.tx) rx
    now = submits b e.tx rx payload (record { is = was.is; told = was.told; source = was.source e there }) s good room left

    serves_still : (y : Node) (x : AnchorState) → Serves p (receipt_of b) rx y x → Serves Q (with_one payload (receipt_of b)) rx y x
    serves_still y (active_anchor z) is = is
    serves_still y (waiting_anchor z) is = waiter_more p Q (receipt_of b) rx payload y z same_plane is

    -- the entity is the receiving one of the uplink still, and the PDUs that were sent are due
    pub submitted_next : HasReceiver Q Next Sent (with_one payload (receipt_of b)) rx
    submitted_next =
        let next = s.next in
        let bounds = Rises-bounds b.first e.tx.next e.tx.kept s.rises in
        let low_is = s.low_is in
        let long' = length-append b.up.submitted (payload ∷ []) in
        record {
          is = now.is;
          told = now.told;
          source = λ x held'.
              let stands : Some (submitted_half c e payload).0 ≡ Some x =
              sym (held-same b.id (submitted_half c e payload).0 w.terminal.halves) ∙ ap (λ (t : TerminalNode). held b.id t.halves) (sym halves_next) ∙ held' in
              subst (λ (z : TerminalHalf). IsSource (with_one payload (receipt_of b)) z.tx) (some_is (submitted_half c e payload).0 x stands) now.source;
          anchors = λ y x stands. serves_still y x (was.anchors y x (sym (anchors_next y b.id) ∙ stands));
          comes = each_after (Comes Sent (with_one payload (receipt_of b)) rx) c w (event.Submit b.id Ul payload) long
              (λ j. all_later sent Sent (receipt_of b) (with_one payload (receipt_of b)) rx rx (grows_one (receipt_of b) rx payload) also j
              (flights_on j w.links) (was.comes j))
              (subst (λ z. AllByRecursion (OfLine (Comes Sent (with_one payload (receipt_of b)) rx)) z.lines) (sym entry_is)
              (each_line_of (OfLine (Comes Sent (with_one payload (receipt_of b)) rx)) O tt
              (sends_come sent (with_one payload (receipt_of b)) rx e.setup.g e.tx.next (omega (arith, bounds.0, bounds.1)) (omega (arith, next, long')) set_to
              (omega (arith, low_is, bounds.1)) (submitted_half c e payload).1 ups)));
          early = early_still (receipt_of b) was.early;
        }

  -- ---- another bearer

  pub other_receipt : (id : ℕ) (r : Receipt) → (b.id == id) ≡ false → r.id ≡ id → receipt p id ≡ Some r → receipt Q id ≡ Some r
  other_receipt id r apart' of before =
      let no' : (r.id == b.id) ≡ false = ne_eqb r.id b.id (λ same. eqb-false b.id id apart' (sym same ∙ of)) in
      ap (λ z. receipt (after p z) id) entry_is
      ∙ outcome_receipt p (event.Submit b.id Ul payload) O id above refl down refl hand r before
      ∙ ap (λ t. let q = if t then with_one payload r else r in Some (with_ups [] q)) no'
      ∙ ap Some (sym (no_ups r))

  pub other_next : (r : Receipt) (rx : RxParts) → (b.id == r.id) ≡ false → HasReceiver p w sent r rx → HasReceiver Q Next Sent r rx
  other_next r rx apart' was = record {
    is = was.is;
    told = was.told;
    source = λ h held'. was.source h (sym (held-other b.id r.id (submitted_half c e payload).0 w.terminal.halves apart')
        ∙ ap (λ (t : TerminalNode). held r.id t.halves) (sym halves_next) ∙ held');
    anchors = λ y x stands. still_serves y x (was.anchors y x (sym (anchors_next y r.id) ∙ stands));
    comes = each_after (Comes Sent r rx) c w (event.Submit b.id Ul payload) long
        (λ j. all_later sent Sent r r rx rx (grows_still r rx) also j (flights_on j w.links) (was.comes j))
        (subst (λ z. AllByRecursion (OfLine (Comes Sent r rx)) z.lines) (sym entry_is) (each_line_of (OfLine (Comes Sent r rx)) O tt
        (each_weaker (IsUpSend b.id e.setup.g e.tx.next) (λ (z : Send). Comes Sent r rx z.0 z.1) (other_comes Sent r rx b.id e.setup.g e.tx.next apart')
        (submitted_half c e payload).1 ups)));
    early = early_still r was.early;
  }
    where
      still_serves : (y : Node) (x : AnchorState) → Serves p r rx y x → Serves Q r rx y x
      still_serves y (active_anchor z) is = is
      still_serves y (waiting_anchor z) is = waiter_still p Q r rx y z same_plane is
