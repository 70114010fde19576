-- Each uplink after an event that is refused, and after one that loses or copies a flight.
use Rattle.std.proofs.Common.{ℕ, zero, suc, ◌≡◌, false, List, []}
use Rattle.std.proofs.Common.{◌∷◌, Some, None, length, slice_get, refl, sym, ap, subst, ◌∙◌}
use Rattle.std.specs.List.{AllByRecursion}
use Rattle.dc_base.specs.declared.answers.Answer.TheVariants as answer
use Rattle.dc_base.specs.declared.answers.Refusal.{Refusal}
use Rattle.dc_base.specs.declared.events.Event.{Event}
use Rattle.dc_base.specs.declared.events.Event.TheVariants as event
use Rattle.dc_base.specs.declared.flights.Flight.{Flight}
use Rattle.dc_base.specs.declared.nodes.LinkId.{LinkId}
use Rattle.dc_base.specs.declared.nodes.Node.{Node}
use Rattle.claims.specs.Noted.{after}
use Rattle.claims.specs.Past.{Past}
use Rattle.node_rules.specs.Anchor.{AnchorState, active_anchor, waiting_anchor}
use Rattle.node_rules.specs.Choices.{Choices, Send}
use Rattle.node_rules.specs.Effects.{sent}
use Rattle.node_rules.specs.Held.{held}
use Rattle.node_rules.specs.Lines.{lines_of}
use Rattle.node_rules.specs.Run.{carried_on, entry_with, happening, moved_on, world_step}
use Rattle.node_rules.specs.Terminal.{TerminalNode}
use Rattle.node_rules.specs.World.{World, flights_on}
use Rattle.node_rules.specs.declared.inputs.Outcome.{Outcome}
use Rattle.pdcp_rx.specs.declared.entity.RxParts.{RxParts}
use Rattle.run_uplinks.specs.Seen.{seen}
use Rattle.run_uplinks.specs.Uplinks.{plane}
use Rattle.run_uplinks.proofs.Seeing.{judged_seen}
use Rattle.run_words.proofs.Lines.{each_line_of}
use Rattle.run_received.specs.OnTheWay.{Comes}
use Rattle.run_received.specs.Receipts.{Receipt, receipt}
use Rattle.run_received.specs.Receivers.{anchor_at}
use Rattle.run_received.specs.Uplinks.{HasReceiver, Serves}
use Rattle.run_received.proofs.Folding.{NamesDescend, no_ups}
use Rattle.run_received.proofs.Outcomes.{outcome_receipt}
use Rattle.run_received.proofs.Planes.{plane_after}
use Rattle.run_uplinks.proofs.Establishments.{some_is}
use Rattle.run_uplinks.proofs.Lines.{NoneBegins}
use Rattle.run_uplinks.proofs.Seeing.{begins_line}
use Rattle.run_received.proofs.Judging.{refused_receipt}
use Rattle.run_received.proofs.Keeping.{waiter_still}
use Rattle.run_received.proofs.Links.{OfLine, each_after}
use Rattle.run_received.proofs.Steps.{moved_anchors}

-- an event in which no node changes, nor anything of the uplink by the past, and whose lines send only what was on its way
pub still_next : (c : Choices) (w : World) (p : Past) (e : Event) (o : Outcome) (sent : List Send) (r : Receipt) (rx : RxParts)
    → carried_on c w (happening w e) ≡ (w, o) → length w.links ≡ 64 → plane (seen (after p (entry_with e o))) ≡ plane (seen p)
    → AllByRecursion (OfLine (Comes sent r rx)) (lines_of o) → HasReceiver p w sent r rx
    → HasReceiver (after p (world_step c w e).1) (world_step c w e).0 sent r rx
still_next c w p e o sent r rx happens long same lines was = record {
  is = was.is;
  told = was.told;
  source = λ h at. was.source h (ap (λ (t : TerminalNode). held r.id t.halves) (sym (ap (λ x. x.0.terminal) step)) ∙ at);
  anchors = λ y s at. still_serves y s (was.anchors y s (sym (moved_anchors e w o y r.id) ∙ sym (ap (λ x. anchor_at y x.0 r.id) step) ∙ at));
  comes = each_after (Comes sent r rx) c w e long was.comes (subst (λ z. AllByRecursion (OfLine (Comes sent r rx)) z.lines) (sym entry) lines);
  early = was.early;
}
  where
    step : world_step c w e ≡ moved_on e (w, o)
    step = ap (moved_on e) happens

    entry : (world_step c w e).1 ≡ entry_with e o
    entry = ap (λ x. x.1) step

    same_plane : plane (seen (after p (world_step c w e).1)) ≡ plane (seen p)
    same_plane = ap (λ z. plane (seen (after p z))) entry ∙ same

    still_serves : (y : Node) (s : AnchorState) → Serves p r rx y s → Serves (after p (world_step c w e).1) r rx y s
    still_serves y (active_anchor z) is = is
    still_serves y (waiting_anchor z) is = waiter_still p (after p (world_step c w e).1) r rx y z same_plane is

-- ---- refusals

-- the outcome of an event that is refused
abbrev pub refused_outcome : Refusal → Outcome
refused_outcome why = record { answer = answer.No why; notes = []; sends = [] }

-- nothing of any uplink changes
pub refused_is : (p : Past) (e : Event) (why : Refusal) (id : ℕ) → receipt (after p (entry_with e (refused_outcome why))) id ≡ receipt p id
refused_is p e why id =
    refused_receipt why e (record p { earlier = p.pdus; event = e; answer = answer.No why; given = None; copied = None; fresh = []; said = [] }) id

refused_plane : (p : Past) (e : Event) (why : Refusal) → plane (seen (after p (entry_with e (refused_outcome why)))) ≡ plane (seen p)
refused_plane p e why = ap plane (judged_seen e (answer.No why) p)

pub refused_next : (c : Choices) (w : World) (p : Past) (e : Event) (why : Refusal) (sent : List Send) (r : Receipt) (rx : RxParts)
    → carried_on c w (happening w e) ≡ (w, refused_outcome why) → length w.links ≡ 64 → HasReceiver p w sent r rx
    → HasReceiver (after p (world_step c w e).1) (world_step c w e).0 sent r rx
refused_next c w p e why sent r rx happens long was = still_next c w p e (refused_outcome why) sent r rx happens long (refused_plane p e why) tt was

-- and its receipt is what it was
pub refused_receipts : (c : Choices) (w : World) (p : Past) (e : Event) (why : Refusal) (id : ℕ) → carried_on c w (happening w e) ≡ (w, refused_outcome why)
    → receipt (after p (world_step c w e).1) id ≡ receipt p id
refused_receipts c w p e why id happens = ap (λ x. receipt (after p x.1) id) (ap (moved_on e) happens) ∙ refused_is p e why id

-- ---- losses and copies

-- the outcome of a loss
abbrev pub lost_outcome : Outcome
lost_outcome = record { answer = answer.Ok; notes = []; sends = [] }

-- of a copy
abbrev pub copied_outcome : LinkId → Flight → Outcome
copied_outcome l f = record { answer = answer.Ok; notes = []; sends = (l, f) ∷ [] }

pub lost_next : (c : Choices) (w : World) (p : Past) (l : LinkId) (i : ℕ) (sent : List Send) (r : Receipt) (rx : RxParts)
    → carried_on c w (happening w (event.Lose l i)) ≡ (w, lost_outcome) → length w.links ≡ 64 → HasReceiver p w sent r rx
    → HasReceiver (after p (world_step c w (event.Lose l i)).1) (world_step c w (event.Lose l i)).0 sent r rx
lost_next c w p l i sent r rx happens long was =
    still_next c w p (event.Lose l i) lost_outcome sent r rx happens long (plane_after p (entry_with (event.Lose l i) lost_outcome) refl tt) tt was

pub lost_receipts : (c : Choices) (w : World) (p : Past) (l : LinkId) (i above : ℕ) (id : ℕ) (r : Receipt) → NamesDescend above p
    → carried_on c w (happening w (event.Lose l i)) ≡ (w, lost_outcome) → receipt p id ≡ Some r
    → receipt (after p (world_step c w (event.Lose l i)).1) id ≡ Some r
lost_receipts c w p l i above id r down happens at =
    ap (λ x. receipt (after p x.1) id) (ap (moved_on (event.Lose l i)) happens)
    ∙ outcome_receipt p (event.Lose l i) lost_outcome id above refl down refl tt r at ∙ ap Some (sym (no_ups r))

each_at : {X : Type 0} (P : X → Type 0) (xs : List X) (i : ℕ) (x : X) → AllByRecursion P xs → slice_get xs i ≡ Some x → P x
each_at P [] i x all at = absurd (let bad : None ≡ Some x = at in cc)
each_at P (y ∷ ys) zero x all at = subst P (let same : y ≡ x = some_is y x at in same) all.0
each_at P (y ∷ ys) (suc i) x all at = each_at P ys i x all.1 at

copy_begins : (l : LinkId) (f : Flight) → NoneBegins (lines_of (copied_outcome l f))
copy_begins l f = each_line_of (λ x. begins_line x ≡ false) (copied_outcome l f) tt (refl, tt)

-- a copy of what was on its way is of the uplink as that was
pub copied_next : (c : Choices) (w : World) (p : Past) (l : LinkId) (i : ℕ) (f : Flight) (sent : List Send) (r : Receipt) (rx : RxParts)
    → carried_on c w (happening w (event.Again l i)) ≡ (w, copied_outcome l f) → slice_get (flights_on l w.links) i ≡ Some f → length w.links ≡ 64
    → HasReceiver p w sent r rx
    → HasReceiver (after p (world_step c w (event.Again l i)).1) (world_step c w (event.Again l i)).0 sent r rx
copied_next c w p l i f sent r rx happens at long was =
    still_next c w p (event.Again l i) (copied_outcome l f) sent r rx happens long
    (plane_after p (entry_with (event.Again l i) (copied_outcome l f)) refl (copy_begins l f))
    (each_line_of (OfLine (Comes sent r rx)) (copied_outcome l f) tt (each_at (Comes sent r rx l) (flights_on l w.links) i f (was.comes l) at, tt)) was
