-- Each uplink after a step in which the terminal takes a status report of it.
use Rattle.std.proofs.Common.{ℕ, ◌≡◌, ◌≤◌, ◌==◌, false, List, [], ◌∷◌, Option, Some, None, length, refl, sym, ap, subst, ◌∙◌, inl, inr, arith}
use Rattle.std.specs.List.{AllByRecursion}
use Rattle.std.specs.Prelude.{if◌then◌else◌, is_some, nat_le, ◌&&◌}
use Rattle.std.proofs.lemmas.Bool.{eqb-false, ne_eqb}
use Rattle.dc_base.specs.declared.answers.Answer.{Answer}
use Rattle.dc_base.specs.declared.answers.Answer.TheVariants as answer
use Rattle.dc_base.specs.declared.events.Event.TheVariants as event
use Rattle.dc_base.specs.declared.flights.Flight.{Flight}
use Rattle.dc_base.specs.declared.nodes.LinkId.{LinkId}
use Rattle.dc_base.specs.declared.nodes.Node.{Node}
use Rattle.claims.specs.Noted.{after}
use Rattle.claims.specs.Past.{Bearer, Past}
use Rattle.claims.specs.Reading.{Setting}
use Rattle.claims.specs.Views.{Pdu}
use Rattle.node_rules.specs.Anchor.{AnchorState, Waiting, active_anchor, waiting_anchor}
use Rattle.node_rules.specs.Choices.{Choices, Send}
use Rattle.run_uplinks.proofs.Establishments.{some_is}
use Rattle.node_rules.specs.Entity.{confirmed_where, risen_low}
use Rattle.node_rules.specs.Held.{held}
use Rattle.node_rules.specs.Run.{carried_on, entry_with, happening, moved_on, world_step}
use Rattle.node_rules.specs.Terminal.{TerminalNode, uplink_freed}
use Rattle.node_rules.specs.TerminalHalf.{TerminalHalf}
use Rattle.node_rules.specs.World.{World, flights_on}
use Rattle.node_rules.specs.declared.inputs.Outcome.{Outcome}
use Rattle.pdcp_pdu.specs.Bitmap.{names}
use Rattle.pdcp_pdu.specs.Pdu.{Content}
use Rattle.pdcp_rx.specs.declared.entity.RxParts.{RxParts}
use Rattle.pdcp_tx.specs.Sender.{low}
use Rattle.run_legs.specs.Puts.{IsAmong}
use Rattle.run_receivers.specs.Anchors.{IsGathering}
use Rattle.run_receivers.specs.Pdus.{ArePdus, Ciphering}
use Rattle.run_receivers.specs.Reports.{NamesReceived}
use Rattle.run_receivers.specs.Submitted.{Submitted}
use Rattle.run_uplinks.specs.Seen.{seen, uplink_of}
use Rattle.run_uplinks.specs.Uplinks.{IsSender, plane}
use Rattle.run_received.specs.OnTheWay.{Comes}
use Rattle.run_received.specs.Receipts.{Receipt, receipt, receipt_of, submitted_to}
use Rattle.run_received.specs.Receivers.{IsSource, anchor_at, ciphering_of}
use Rattle.run_received.specs.Uplinks.{HasReceiver, IsWaiter, Serves}
use Rattle.run_received.proofs.Coming.{all_later}
use Rattle.run_received.proofs.Keeping.{grows_confirmed, waiter_still}
use Rattle.run_received.specs.Changes.{answered_on, given_on, is_named, pdu_on, set_pdu_on}
use Rattle.run_received.proofs.Links.{OfLine, each_after}
use Rattle.run_received.proofs.Nodes.{IsConfirm, confirms_hand}
use Rattle.run_received.proofs.Planes.{plane_after, same_ciphering, same_setting}
use Rattle.run_received.proofs.Steps.{lines_come, moved_anchors}
use Rattle.run_received.proofs.Terminals.{IsEven, freed_begin_none, freed_other, Names, ReportComes, Reported, report_after, report_even}

-- PDUs without a COUNT are from any COUNT on
pdus_from : (u : Submitted) (k : Ciphering) (from to : ℕ) (tags : List (Option ℕ)) (xs : List Content) → ((c : ℕ) → IsAmong tags (Some c) → ⊥)
    → ArePdus u k from tags xs → ArePdus u k to tags xs
pdus_from u k from to [] [] none all = tt
pdus_from u k from to [] (x ∷ xs) none all = all
pdus_from u k from to (tag ∷ tags) [] none all = all
pdus_from u k from to (None ∷ tags) (x ∷ xs) none all = (all.0, tt, pdus_from u k from to tags xs (λ c there. none c (inr there)) all.2)
pdus_from u k from to (Some c ∷ tags) (x ∷ xs) none all = absurd (none c (inl refl))

-- an anchor that waits gathers as it did while Low rises: no PDU of its generation came yet
waiter_freed : (p q : Past) (r s : Receipt) (rx : RxParts) (x : Node) (v : Waiting) (h : ℕ) → plane (seen q) ≡ plane (seen p)
    → s ≡ record r { confirms = s.confirms; told = s.told; freed = s.freed } → r.terminal ≡ Some h → h ≤ r.owned → IsWaiter p r rx x v → IsWaiter q s rx x v
waiter_freed p q r s rx x v h same only at upto w =
    subst (λ (z : Receipt). IsWaiter q z rx x v) (sym only) (
    let none : (c : ℕ) → IsAmong w.tags (Some c) → ⊥ = λ c there. (let le = w.took c there h at in let above = w.since in omega (arith, le, above, upto)) in
    record {
      set = w.set;
      in_plan = same_setting p q same r.id v.setup.g ∙ w.in_plan;
      tags = w.tags;
      gathers = subst (λ k. IsGathering (submitted_to r) s.freed k rx w.tags v) (sym (same_ciphering p q same r.id w.set)) (record {
        reader = w.gathers.reader;
        transfer = w.gathers.transfer;
        up = w.gathers.up;
        kept = pdus_from (submitted_to r) (ciphering_of p r.id w.set) r.freed s.freed w.tags v.pdus none w.gathers.kept;
      });
      early = w.early;
      kept = w.kept;
      took = w.took;
      since = w.since;
      apart = w.apart;
    })

-- ---- the step

-- the terminal has this half of a bearer after it; of the others it has what it had, and so have all anchors
pub record TerminalTakes (w v : World) (id : ℕ) (e : TerminalHalf) : Type 0 where
  pub here : held id v.terminal.halves ≡ Some e
  pub others : (k : ℕ) → (id == k) ≡ false → held k v.terminal.halves ≡ held k w.terminal.halves
  pub anchors : (y : Node) (k : ℕ) → anchor_at y v k ≡ anchor_at y w k

module _ (c : Choices) (w v : World) (p : Past) (b : Bearer) (set : Setting) (l : LinkId) (i : ℕ) (f : Flight) (u : Pdu) (fmc : ℕ) (bits : List ℕ)
    (k : ReportComes p b set l i f u fmc bits) (sent : List Send) (rx : RxParts) (was : HasReceiver p w sent (receipt_of b) rx) (e : TerminalHalf)
    (there : held b.id w.terminal.halves ≡ Some e) (s : IsSender (uplink_of b) e.tx) (h : ℕ) (set_to : b.terminal ≡ Some h) (owned : h ≤ b.owned)
    (named : NamesReceived rx fmc bits) (o : Outcome) (ok : o.answer ≡ answer.Ok)
    (notes : o.notes ≡ uplink_freed b.id (risen_low e (confirmed_where (names fmc bits) e))) (confirms : AllByRecursion IsConfirm o.sends)
    (happens : carried_on c w (happening w (event.Step l i)) ≡ (v, o)) (long : length w.links ≡ 64)
    (takes : TerminalTakes w v b.id (confirmed_where (names fmc bits) e)) where
  abbrev Next : World
  Next = (world_step c w (event.Step l i)).0

  abbrev Q : Past
  Q = after p (world_step c w (event.Step l i)).1

  pub even : IsEven (receipt_of b) e.tx rx
  even = record { is = was.is; told = was.told; source = was.source e there }

  abbrev R : Receipt
  R = Reported b e rx fmc bits even s named

  step_is : world_step c w (event.Step l i) ≡ moved_on (event.Step l i) (v, o)
  step_is = ap (moved_on (event.Step l i)) happens

  entry_is : (world_step c w (event.Step l i)).1 ≡ entry_with (event.Step l i) o
  entry_is = ap (λ x. x.1) step_is

  anchors_next : (y : Node) (id : ℕ) → anchor_at y Next id ≡ anchor_at y w id
  anchors_next y id = ap (λ x. anchor_at y x.0 id) step_is ∙ moved_anchors (event.Step l i) v o y id ∙ takes.anchors y id

  halves_next : Next.terminal ≡ v.terminal
  halves_next = ap (λ x. x.0.terminal) step_is

  same_plane : plane (seen Q) ≡ plane (seen p)
  same_plane =
      ap (λ z. plane (seen (after p z))) entry_is
      ∙ plane_after p (entry_with (event.Step l i) o) refl (freed_begin_none o b.id (risen_low e (confirmed_where (names fmc bits) e)) notes)

  -- the past has what was confirmed, and Told and the window at the terminal's Low
  pub reported_receipt : receipt Q b.id ≡ Some R
  reported_receipt =
      ap (λ z. receipt (after p z) b.id) entry_is
      ∙ report_after p b set l i f u fmc bits k e rx even s named o ok notes (confirms_hand o.sends confirms)

  now : IsEven R (confirmed_where (names fmc bits) e).tx rx
  now = report_even b e rx fmc bits even s named

  serves_still : (y : Node) (x : AnchorState) → Serves p (receipt_of b) rx y x → Serves Q R rx y x
  serves_still y (active_anchor z) is = is
  serves_still y (waiting_anchor z) is = waiter_freed p Q (receipt_of b) R rx y z h same_plane refl set_to owned is

  -- the entity is the receiving one of the uplink still, and all that is on its way is of it
  pub reported_next : HasReceiver Q Next sent R rx
  reported_next = record {
    is = now.is;
    told = now.told;
    source = λ x at.
        let stands : Some (confirmed_where (names fmc bits) e) ≡ Some x = sym takes.here ∙ ap
        (λ (t : TerminalNode). held b.id t.halves) (sym halves_next) ∙ at in
        subst (λ (z : TerminalHalf). IsSource R z.tx) (some_is (confirmed_where (names fmc bits) e) x stands) now.source;
    anchors = λ y x at. serves_still y x (was.anchors y x (sym (anchors_next y b.id) ∙ at));
    comes = each_after (Comes sent R rx) c w (event.Step l i) long
        (λ j. all_later sent sent (receipt_of b) R rx rx
        (grows_confirmed (receipt_of b) rx (Names b e rx fmc bits even s named) (low (confirmed_where (names fmc bits) e).tx) h set_to owned)
        (λ id g before. before) j (flights_on j w.links) (was.comes j))
        (subst (λ z. AllByRecursion (OfLine (Comes sent R rx)) z.lines) (sym entry_is) (lines_come sent R rx o confirms));
    early = was.early;
  }

  -- ---- another bearer

  unnamed : (id : ℕ) (r : Receipt) → (b.id == id) ≡ false → r.id ≡ id → answered_on p (event.Step l i) o.answer r ≡ r
  unnamed id r apart of =
      let none : is_named p u.id u.g r ≡ false =
      ap (λ x. is_some x && ((r.id == u.id) && nat_le r.g u.g)) k.in_plan
      ∙ ap (λ t. t && nat_le r.g u.g) (ap (λ j. r.id == j) k.of_id ∙ ne_eqb r.id b.id (λ same. eqb-false b.id id apart (sym same ∙ of))) in
      ap (λ (n : Answer). answered_on p (event.Step l i) n r) ok
      ∙ ap (λ x. given_on p x r) k.found
      ∙ k.pdu r
      ∙ ap (λ x. set_pdu_on p l u x r) k.in_plan
      ∙ ap (λ t. if t then pdu_on l u set r else r) none

  -- nothing of its uplink changes by the past
  pub other_reported : (id : ℕ) (r : Receipt) → (b.id == id) ≡ false → r.id ≡ id → receipt p id ≡ Some r → receipt Q id ≡ Some r
  other_reported id r apart of at =
      ap (λ z. receipt (after p z) id) entry_is
      ∙ freed_other p l i o b.id id k.above (risen_low e (confirmed_where (names fmc bits) e)) k.down notes (confirms_hand o.sends confirms) r r at
      (unnamed id r apart of) (ne_eqb r.id b.id (λ same. eqb-false b.id id apart (sym same ∙ of)))

  -- and its entity is what it was
  pub other_next : (r : Receipt) (ry : RxParts) → (b.id == r.id) ≡ false → HasReceiver p w sent r ry → HasReceiver Q Next sent r ry
  other_next r ry apart had = record {
    is = had.is;
    told = had.told;
    source = λ x at. had.source x (sym (takes.others r.id apart) ∙ ap (λ (t : TerminalNode). held r.id t.halves) (sym halves_next) ∙ at);
    anchors = λ y x at. still_serves y x (had.anchors y x (sym (anchors_next y r.id) ∙ at));
    comes = each_after (Comes sent r ry) c w (event.Step l i) long had.comes
        (subst (λ z. AllByRecursion (OfLine (Comes sent r ry)) z.lines) (sym entry_is) (lines_come sent r ry o confirms));
    early = had.early;
  }
    where
      still_serves : (y : Node) (x : AnchorState) → Serves p r ry y x → Serves Q r ry y x
      still_serves y (active_anchor z) is = is
      still_serves y (waiting_anchor z) is = waiter_still p Q r ry y z same_plane is
