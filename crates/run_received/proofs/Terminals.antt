-- The terminal submits one more SDU of an uplink, or takes a status report of it (TS 38.323, 5.2.1 and 5.4.2).
use Rattle.std.proofs.Common.{ℕ, ◌≡◌, ◌+◌, ◌-◌, ◌^◌, ◌<◌, ◌≤◌, ◌==◌, ◌++◌, ◌||◌, Bool, true, false, not}
use Rattle.std.proofs.Common.{List, [], ◌∷◌, Option, Some, None, refl, sym, ap, subst, ◌∙◌, inl, inr, arith}
use Rattle.std.specs.Prelude.{Ok, fold, if◌then◌else◌, is_some, ◌&&◌, max, nat_le, nat_lt}
use Rattle.std.specs.List.{AllByRecursion, flat_map, list_any}
use Rattle.std.specs.Option.{option_map}
use Rattle.std.proofs.lemmas.Bool.{and_from, cases_Bool, eq-eqb, eqb-false, leb-false, ltb-false, ltb-true}
use Rattle.std.proofs.lemmas.List.{append-nil}
use Rattle.dc_base.specs.Count.{window}
use Rattle.dc_base.specs.Links.{all_links, is_same_link}
use Rattle.dc_base.specs.declared.answers.Answer.TheVariants as answer
use Rattle.dc_base.specs.declared.events.Event.TheVariants as event
use Rattle.dc_base.specs.declared.events.Line.{Line}
use Rattle.dc_base.specs.declared.events.Line.TheVariants as line
use Rattle.dc_base.specs.declared.events.Note.TheVariants as note
use Rattle.dc_base.specs.declared.nodes.Dir.TheVariants.{Dl, Ul}
use Rattle.dc_base.specs.declared.nodes.LinkId.{LinkId}
use Rattle.claims.specs.Confirming.{Confirmation, reported}
use Rattle.claims.specs.Noted.{after, noted}
use Rattle.claims.specs.Judged.{judged}
use Rattle.claims.specs.Past.{Bearer, Past}
use Rattle.claims.specs.Links.{find_at}
use Rattle.claims.specs.Reading.{Setting, latest, setting}
use Rattle.claims.specs.Taking.{direction_in}
use Rattle.claims.specs.Views.{Pdu, report_in}
use Rattle.dc_base.specs.declared.answers.Answer.{Answer}
use Rattle.dc_base.specs.declared.flights.Flight.{Flight}
use Rattle.pdcp_pdu.specs.Pdu.{decoded}
use Rattle.node_rules.specs.Choices.{Choices, Send}
use Rattle.node_rules.specs.Entity.{Entity, confirmed_where, risen_low}
use Rattle.node_rules.specs.Lines.{is_end, lines_by, lines_of, ordered, sends_on}
use Rattle.node_rules.specs.Run.{entry_with}
use Rattle.node_rules.specs.Terminal.{TerminalNode, air_taken_by, half_did, terminal_takes, uplink_freed, with_half}
use Rattle.node_rules.specs.TerminalHalf as half
use Rattle.node_rules.specs.TerminalHalf.{TerminalHalf, ack, is_taken, pdu_came}
use Rattle.node_rules.specs.declared.bearers.HalfOut.{HalfOut}
use Rattle.node_rules.specs.Held.{held}
use Rattle.dc_base.specs.declared.flights.Flight.TheVariants as flight
use Rattle.dc_base.specs.declared.nodes.Class.TheVariants.{Air}
use Rattle.dc_base.specs.declared.nodes.Node.{Node}
use Rattle.node_rules.specs.declared.inputs.Outcome.{Outcome}
use Rattle.pdcp_pdu.specs.Bitmap.{names}
use Rattle.pdcp_pdu.specs.DataPdu.{IsPayload, is_data}
use Rattle.pdcp_pdu.specs.Pdu.{report}
use Rattle.pdcp_rx.specs.declared.entity.RxParts.{RxParts}
use Rattle.pdcp_tx.specs.Sender.{Sender, low}
use Rattle.pdcp_tx.proofs.Entries.{Rises-bounds, Rises-filter, Rises-least}
use Rattle.run_receivers.specs.Reports.{NamesReceived}
use Rattle.run_receivers.specs.Submitted.{next_of}
use Rattle.run_words.proofs.Lines.{each_flat, each_line_of}
use Rattle.run_uplinks.proofs.Seeing.{begins_line}
use Rattle.run_uplinks.specs.Seen.{uplink_of}
use Rattle.run_uplinks.specs.Uplinks.{IsSender}
use Rattle.run_uplinks.proofs.Lines.{NoneBegins}
use Rattle.run_received.specs.Changes.{answered_on, confirmed_on, data_on, given_on, is_live_on, is_named}
use Rattle.run_received.specs.Changes.{low_of, maybe_pdu_on, pdu_on, report_on, set_pdu_on, taken_on}
use Rattle.run_received.specs.Receipts.{Receipt, receipt, receipt_of, submitted_to}
use Rattle.run_received.specs.Receivers.{IsReceiver, IsSource}
use Rattle.run_received.proofs.Folding.{NamesDescend, all_handing, hands_only, lines_on, lines_receipt, no_ups, sends_on_none, ups_in, with_ups}
use Rattle.run_received.proofs.Outcomes.{judged_down, none_begin}
use Rattle.run_received.proofs.Judging.{judged_receipt}
use Rattle.run_received.proofs.Latest.{distinct_of}
use Rattle.run_received.proofs.Receiving.{AreOf, low_by, receives_confirmed, source_confirmed, source_more, submits_more, with_confirms, with_one}

-- ---- one more is submitted

-- what the past and the terminal have of an uplink: the entity is what the past says, Told is the COUNT of the last `freed` line, and the
-- terminal keeps what was not confirmed
pub record IsEven (r : Receipt) (tx : Sender) (rx : RxParts) : Type 0 where
  pub is : IsReceiver r rx
  pub told : r.told ≡ r.freed
  pub source : IsSource r tx

-- the SDU that is numbered next
abbrev pub with_next : List ℕ → Sender → Sender
with_next payload tx = record tx { next = tx.next + 1; kept = tx.kept ++ (tx.next, payload) ∷ [] }

pub submits : (b : Bearer) (tx : Sender) (rx : RxParts) (payload : List ℕ) → IsEven (receipt_of b) tx rx → IsSender (uplink_of b) tx → IsPayload payload
    → nat_le (low tx + window tx.n) tx.next ≡ false → (tx.next == 2 ^ 32 - 1) ≡ false
    → IsEven (with_one payload (receipt_of b)) (with_next payload tx) rx
submits b tx rx payload even s good room left =
    let r = receipt_of b in
    let below = leb-false (low tx + window tx.n) tx.next room in
    let same : window tx.n ≡ window b.n = ap window s.n in
    let small = even.is.receiving.small in
    let next = s.next in
    let low_is = s.low_is in
    let last = eqb-false tx.next (2 ^ 32 - 1) left in
    let less : next_of (submitted_to r) < 2 ^ 32 - 1 = by (next_of (submitted_to r)) small (λ is. last (next ∙ is)) in
    record {
      is = submits_more r rx payload even.is good (omega (arith, below, same, next, low_is)) less;
      told = even.told;
      source = source_more r tx rx payload next even.is even.source;
    }
  where
    by : (k : ℕ) → k ≤ 2 ^ 32 - 1 → (k ≡ 2 ^ 32 - 1 → ⊥) → k < 2 ^ 32 - 1
    by k le apart = elim (cases_Bool (nat_lt k (2 ^ 32 - 1))) [
      | inl yes' ↦ ltb-true k (2 ^ 32 - 1) yes'
      | inr no' ↦ absurd (apart (let ge = ltb-false k (2 ^ 32 - 1) no' in omega (arith, le, ge)))
    ]

-- ---- a status report is taken

reported_of : (fmc : ℕ) (bits : List ℕ) → AreOf (reported fmc bits ∷ []) (names fmc bits)
reported_of fmc bits c = by (names fmc bits c)
  where
    by : (t : Bool) → (t || false) ≡ t
    by true = refl
    by false = refl

max_is : (a b : ℕ) → a ≤ b → max a b ≡ b
max_is a b le = omega (arith, le)

module _ (b : Bearer) (e : Entity) (rx : RxParts) (fmc : ℕ) (bits : List ℕ) (even : IsEven (receipt_of b) e.tx rx) (s : IsSender (uplink_of b) e.tx)
    (named : NamesReceived rx fmc bits) where
  -- the entity after it
  abbrev pub Confirmed : Entity
  Confirmed = confirmed_where (names fmc bits) e

  -- what it confirms
  abbrev pub Names : List Confirmation
  Names = reported fmc bits ∷ []

  -- what the past says of the uplink after it: Told and the last `freed` line are at the terminal's Low
  abbrev pub Reported : Receipt
  Reported = with_confirms Names (low Confirmed.tx) (receipt_of b)

  source_after : IsSource Reported Confirmed.tx
  source_after = source_confirmed (receipt_of b) e (names fmc bits) Names (low Confirmed.tx) (reported_of fmc bits) even.source

  pub low_after : low Confirmed.tx ≡ low_of Reported
  low_after =
      low_by Reported Confirmed.tx s.next (Rises-filter (λ x. not (names fmc bits x.0)) b.first e.tx.next e.tx.kept s.rises) source_after

  pub risen : b.up.freed ≤ low Confirmed.tx
  risen =
      let up = Rises-filter (λ x. not (names fmc bits x.0)) (low e.tx) e.tx.next e.tx.kept (Rises-least b.first e.tx.next e.tx.kept s.rises) in
      let bounds = Rises-bounds (low e.tx) e.tx.next Confirmed.tx.kept up in
      let low_is = s.low_is in
      omega (arith, bounds.0, low_is)

  -- all of it is so after the report
  pub report_even : IsEven Reported Confirmed.tx rx
  report_even = record {
    is = receives_confirmed b e rx (names fmc bits) Names s even.source even.is (reported_of fmc bits) (λ c yes'. named.received c yes');
    told = refl;
    source = source_after;
  }

  -- before its lines the past has Told there
  pub report_told : confirmed_on Names (receipt_of b) ≡ record Reported { freed = b.up.freed }
  report_told =
      let told = even.told in
      let up = risen in
      ap (λ (k : ℕ). record Reported { told = k; freed = b.up.freed })
      (ap (max b.up.told) (sym low_after) ∙ max_is b.up.told (low Confirmed.tx) (omega (arith, told, up)))

-- ---- a `freed` line

abbrev Hand : List Line → Type 0
Hand xs = AllByRecursion (λ k. hands_only k ≡ true) xs

abbrev SendsHand : List Send → Type 0
SendsHand ss = AllByRecursion (λ (z : Send). hands_only (line.Send z.0 z.1) ≡ true) ss

on_link_hand : (ss : List Send) (l : LinkId) → SendsHand ss → Hand (sends_on ss l)
on_link_hand [] l all = tt
on_link_hand (z ∷ ss) l all = elim (cases_Bool (is_same_link l z.0)) [
  | inl here ↦ rw here (all.0, on_link_hand ss l all.1)
  | inr there ↦ rw there
      (on_link_hand ss l all.1)
]

links_hand : (ss : List Send) (ls : List LinkId) → SendsHand ss → Hand (flat_map (sends_on ss) ls)
links_hand ss ls all = each_flat (λ k. hands_only k ≡ true) (sends_on ss) ls (λ l. on_link_hand ss l all)

links_none : (id : ℕ) (ss : List Send) (ls : List LinkId) → ups_in id (flat_map (sends_on ss) ls) ≡ []
links_none id ss ls = sends_on_none id ss ls

-- the window moves to this COUNT, and lines follow that hand up nothing
freed_then : (p : Past) (id c : ℕ) (xs : List Line) (r : Receipt) → r.id ≡ id → Hand xs → ups_in id xs ≡ []
    → lines_on p (line.Note (note.Freed id Ul c) ∷ xs) r ≡ record r { freed = c }
freed_then p id c xs r of all none =
    ap (lines_on (noted p (line.Note (note.Freed id Ul c))) xs) (ap (λ t. if t then record r { freed = c } else r) (eq-eqb r.id id of))
    ∙ all_handing xs (noted p (line.Note (note.Freed id Ul c))) (record r { freed = c }) all
    ∙ ap (λ es. with_ups es (record r { freed = c })) (ap (λ j. ups_in j xs) of ∙ none)
    ∙ sym (no_ups (record r { freed = c }))

freed_begins : (id c : ℕ) (ss : List Send) → SendsHand ss → NoneBegins (line.Note (note.Freed id Ul c) ∷ flat_map (sends_on ss) all_links)
freed_begins id c ss all = (refl, none_begin (flat_map (sends_on ss) all_links) (links_hand ss all_links all))

-- the lines of an outcome with such a note alone
freed_lines : (id c : ℕ) (ss : List Send) → ordered (note.Freed id Ul c ∷ []) ss ≡ line.Note (note.Freed id Ul c) ∷ flat_map (sends_on ss) all_links
freed_lines id c ss = ap (λ xs. line.Note (note.Freed id Ul c) ∷ xs) (append-nil (flat_map (sends_on ss) all_links))

-- the last `freed` line is at this COUNT, if there was one
abbrev pub moved_to : Option ℕ → Receipt → Receipt
moved_to None r = r
moved_to (Some c) r = record r { freed = c }

-- an event whose outcome moves the window, or leaves it
pub freed_after : (p : Past) (l : LinkId) (i : ℕ) (o : Outcome) (id above : ℕ) (move : Option ℕ) → NamesDescend above p → o.notes ≡ uplink_freed id move
    → SendsHand o.sends → (r q : Receipt) → receipt p id ≡ Some r → answered_on p (event.Step l i) o.answer r ≡ q → q.id ≡ id
    → receipt (after p (entry_with (event.Step l i) o)) id ≡ Some (moved_to move q)
freed_after p l i o id above move down notes sends r q at before of = by move notes
  where
    j : Past
    j = judged (event.Step l i) o.answer p

    at_lines : receipt j id ≡ Some q
    at_lines =
        judged_receipt (event.Step l i) o.answer p id refl (distinct_of above p.bearers down)
        ∙ ap (option_map (answered_on p (event.Step l i) o.answer)) at ∙ ap Some before

    on_lines : (xs : List Line) (k : Receipt) → lines_of o ≡ xs → NoneBegins xs → lines_on j xs q ≡ k → receipt (fold noted j (lines_of o)) id ≡ Some k
    on_lines xs k is none same =
        ap (λ ys. receipt (fold noted j ys) id) is
        ∙ lines_receipt xs j id above none (judged_down above p (event.Step l i) o.answer refl down)
        ∙ ap (option_map (lines_on j xs)) at_lines ∙ ap Some same

    b : List Line
    b = flat_map (sends_on o.sends) all_links

    by : (m : Option ℕ) → o.notes ≡ uplink_freed id m → receipt (fold noted j (lines_of o)) id ≡ Some (moved_to m q)
    by None is =
        on_lines b q
        (ap (λ t. lines_by t o) (ap (list_any is_end) is) ∙ ap (λ ns. ordered ns o.sends) is ∙ append-nil b)
        (none_begin b (links_hand o.sends all_links sends))
        (all_handing b j q (links_hand o.sends all_links sends) ∙ ap (λ es. with_ups es q) (links_none q.id o.sends all_links) ∙ sym (no_ups q))
    by (Some c) is =
        on_lines (line.Note (note.Freed id Ul c) ∷ b) (record q { freed = c })
        (ap (λ t. lines_by t o) (ap (list_any is_end) is) ∙ ap (λ ns. ordered ns o.sends) is ∙ freed_lines id c o.sends)
        (freed_begins id c o.sends sends)
        (freed_then j id c b q of (links_hand o.sends all_links sends) (links_none id o.sends all_links))

-- of another bearer nothing changes at such an event
pub freed_other : (p : Past) (l : LinkId) (i : ℕ) (o : Outcome) (id k above : ℕ) (move : Option ℕ) → NamesDescend above p → o.notes ≡ uplink_freed id move
    → SendsHand o.sends → (r q : Receipt) → receipt p k ≡ Some r → answered_on p (event.Step l i) o.answer r ≡ q → (q.id == id) ≡ false
    → receipt (after p (entry_with (event.Step l i) o)) k ≡ Some q
freed_other p l i o id k above move down notes sends r q at before apart = by move notes
  where
    j : Past
    j = judged (event.Step l i) o.answer p

    at_lines : receipt j k ≡ Some q
    at_lines =
        judged_receipt (event.Step l i) o.answer p k refl (distinct_of above p.bearers down)
        ∙ ap (option_map (answered_on p (event.Step l i) o.answer)) at ∙ ap Some before

    on_lines : (xs : List Line) → lines_of o ≡ xs → NoneBegins xs → lines_on j xs q ≡ q → receipt (fold noted j (lines_of o)) k ≡ Some q
    on_lines xs is none same =
        ap (λ ys. receipt (fold noted j ys) k) is
        ∙ lines_receipt xs j k above none (judged_down above p (event.Step l i) o.answer refl down)
        ∙ ap (option_map (lines_on j xs)) at_lines ∙ ap Some same

    b : List Line
    b = flat_map (sends_on o.sends) all_links

    rest : (z : Past) → lines_on z b q ≡ q
    rest z = all_handing b z q (links_hand o.sends all_links sends) ∙ ap (λ es. with_ups es q) (links_none q.id o.sends all_links) ∙ sym (no_ups q)

    by : (m : Option ℕ) → o.notes ≡ uplink_freed id m → receipt (fold noted j (lines_of o)) k ≡ Some q
    by None is =
        on_lines b
        (ap (λ t. lines_by t o) (ap (list_any is_end) is) ∙ ap (λ ns. ordered ns o.sends) is ∙ append-nil b)
        (none_begin b (links_hand o.sends all_links sends)) (rest j)
    by (Some c) is =
        on_lines (line.Note (note.Freed id Ul c) ∷ b)
        (ap (λ t. lines_by t o) (ap (list_any is_end) is) ∙ ap (λ ns. ordered ns o.sends) is ∙ freed_lines id c o.sends)
        (freed_begins id c o.sends sends)
        (ap (lines_on (noted j (line.Note (note.Freed id Ul c))) b) (ap (λ t. if t then record q { freed = c } else q) apart)
        ∙ rest (noted j (line.Note (note.Freed id Ul c))))

-- its lines begin no command
pub freed_begin_none : (o : Outcome) (id : ℕ) (move : Option ℕ) → o.notes ≡ uplink_freed id move → NoneBegins (lines_of o)
freed_begin_none o id move is =
    each_line_of (λ x. begins_line x ≡ false) o (subst (AllByRecursion (λ n. begins_line (line.Note n) ≡ false)) (sym is) (of_notes move)) (of_sends o.sends)
  where
    of_notes : (m : Option ℕ) → AllByRecursion (λ n. begins_line (line.Note n) ≡ false) (uplink_freed id m)
    of_notes None = tt
    of_notes (Some c) = (refl, tt)

    of_sends : (ss : List Send) → AllByRecursion (λ (z : Send). begins_line (line.Send z.0 z.1) ≡ false) ss
    of_sends [] = tt
    of_sends (z ∷ ss) = (refl, of_sends ss)

-- ---- a status report comes to the terminal

-- the terminal takes it on a leg that it has there and that did not fail
pub takes_report : (c : Choices) (t : TerminalNode) (from : Node) (e : TerminalHalf) (id g num : ℕ) (tag : Option ℕ) (pdu : List ℕ) (fmc : ℕ) (bits : List ℕ)
    → held id t.halves ≡ Some e → is_taken e.setup from id g ≡ true → decoded e.setup.n pdu ≡ Ok (report fmc bits)
    → terminal_takes c t from (flight.Air id g num tag pdu) Air
    ≡ (
      with_half t id (Some (confirmed_where (names fmc bits) e)),
      record { notes = uplink_freed id (risen_low e (confirmed_where (names fmc bits) e)); sends = ack e.setup from num },
    )
takes_report c t from e id g num tag pdu fmc bits there takes reads =
    ap (air_taken_by t from (flight.Air id g num tag pdu) id) there
    ∙ ap (λ b. half_did t id (if◌then◌else◌ {A = TerminalHalf × HalfOut} b (pdu_came e from num (decoded e.setup.n pdu)) (e, half.silent))) takes
    ∙ ap (λ x. half_did t id (pdu_came e from num x)) reads

-- the past of a step in which it is taken: a PDU of the establishment that is read as a status report, on a leg that is live
pub record ReportComes (p : Past) (b : Bearer) (set : Setting) (l : LinkId) (i : ℕ) (f : Flight) (u : Pdu) (fmc : ℕ) (bits : List ℕ) : Type 0 where
  pub above : ℕ
  pub down : NamesDescend above p
  pub at : latest p b.id ≡ Some b
  pub found : find_at l i p.standing ≡ Some (l, f)
  pub pdu : (r : Receipt) → taken_on p l f r ≡ maybe_pdu_on p l (Some u) r
  pub of_id : u.id ≡ b.id
  pub upto : nat_le b.g u.g ≡ true
  pub in_plan : setting p u.id u.g ≡ Some set
  pub control : is_data u.octets ≡ false
  pub dir : direction_in l set ≡ Dl
  pub reads : decoded b.n u.octets ≡ Ok (report fmc bits)
  pub live : is_live_on l u.g (receipt_of b) ≡ true

module _ (p : Past) (b : Bearer) (set : Setting) (l : LinkId) (i : ℕ) (f : Flight) (u : Pdu) (fmc : ℕ) (bits : List ℕ)
    (k : ReportComes p b set l i f u fmc bits)
    (e : Entity) (rx : RxParts) (even : IsEven (receipt_of b) e.tx rx) (s : IsSender (uplink_of b) e.tx) (named : NamesReceived rx fmc bits)
    (o : Outcome) (ok : o.answer ≡ answer.Ok) (notes : o.notes ≡ uplink_freed b.id (risen_low e (confirmed_where (names fmc bits) e)))
    (sends : SendsHand o.sends) where
  confirms_it : answered_on p (event.Step l i) o.answer (receipt_of b) ≡ confirmed_on (reported fmc bits ∷ []) (receipt_of b)
  confirms_it =
      let r = receipt_of b in
      let is_of : is_named p u.id u.g r ≡ true =
      ap (λ x. is_some x && ((b.id == u.id) && nat_le b.g u.g)) k.in_plan ∙ and_from (b.id == u.id) (nat_le b.g u.g) (eq-eqb b.id u.id (sym k.of_id)) k.upto in
      ap (λ (n : Answer). answered_on p (event.Step l i) n r) ok
      ∙ ap (λ x. given_on p x r) k.found
      ∙ k.pdu r
      ∙ ap (λ x. set_pdu_on p l u x r) k.in_plan
      ∙ ap (λ t. if t then pdu_on l u set r else r) is_of
      ∙ ap (λ t. if t then data_on l u.g set (direction_in l set) u.tag r
      else report_on l u.g (direction_in l set) (report_in (decoded b.n u.octets)) r) k.control
      ∙ ap (λ d. report_on l u.g d (report_in (decoded b.n u.octets)) r) k.dir
      ∙ ap (λ x. report_on l u.g Dl (report_in x) r) k.reads
      ∙ ap (λ t. if t then confirmed_on (reported fmc bits ∷ []) r else r) k.live

  -- Low did not rise, or the window moved there
  window_is : moved_to (risen_low e (confirmed_where (names fmc bits) e)) (record (Reported b e rx fmc bits even s named) { freed = b.up.freed })
      ≡ Reported b e rx fmc bits even s named
  window_is =
      let now = low (confirmed_where (names fmc bits) e).tx in
      let up = risen b e rx fmc bits even s named in
      let low_is = s.low_is in
      elim (cases_Bool (nat_lt (low e.tx) now)) [
        | inl yes' ↦ rw yes' refl
        | inr no' ↦ rw no' (ap (λ (c : ℕ). record (Reported b e rx fmc bits even s named) { freed = c })
            (let ge = ltb-false (low e.tx) now no' in omega (arith, ge, up, low_is)))
      ]

  -- what the past says of the uplink after it, and that it is so
  pub report_after : receipt (after p (entry_with (event.Step l i) o)) b.id ≡ Some (Reported b e rx fmc bits even s named)
  report_after =
      freed_after p l i o b.id k.above (risen_low e (confirmed_where (names fmc bits) e)) k.down notes sends (receipt_of b)
      (record (Reported b e rx fmc bits even s named) { freed = b.up.freed })
      (ap (option_map receipt_of) k.at) (confirms_it ∙ report_told b e rx fmc bits even s named) refl
      ∙ ap Some window_is
