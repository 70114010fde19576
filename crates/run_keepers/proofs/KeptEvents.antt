-- What an event does by itself, before its lines, leaves each node with an active anchor of what it holds by the past.
use Rattle.std.proofs.Common.{ℕ, ◌≡◌, ◌==◌, ◌+◌, Bool, true, false, List, [], ◌∷◌, Option, Some, None, subst}
use Rattle.std.specs.Option.{option_and_then}
use Rattle.std.specs.Prelude.{fold, if◌then◌else◌}
use Rattle.dc_base.specs.declared.answers.Answer.{Answer}
use Rattle.dc_base.specs.declared.answers.Answer.TheVariants as answer
use Rattle.dc_base.specs.declared.events.Event.{Event}
use Rattle.dc_base.specs.declared.events.Event.TheVariants as event
use Rattle.dc_base.specs.declared.flights.Flight.{Flight}
use Rattle.dc_base.specs.declared.flights.Flight.TheVariants as flight
use Rattle.dc_base.specs.declared.nodes.LinkId.{LinkId}
use Rattle.dc_base.specs.declared.nodes.Node.{Node}
use Rattle.dc_base.specs.declared.records.Item.{Item}
use Rattle.dc_base.specs.declared.records.Item.TheVariants as item
use Rattle.dc_base.specs.declared.records.Rec.{Rec}
use Rattle.dc_base.specs.declared.records.Rec.TheVariants as rec
use Rattle.claims.specs.Drafts.{Draft, draft}
use Rattle.claims.specs.Judged.{judged}
use Rattle.claims.specs.Links.{find_at}
use Rattle.claims.specs.Past.{Past}
use Rattle.run_holders.specs.Actives.{Actives}
use Rattle.run_holders.specs.Holdings.{Holding, holder_in, holdings, latest_in, new_holding, with_new}
use Rattle.run_holders.proofs.HeldSeeing.{draws, judged_seen, with_answer, with_event, with_flight, with_given, with_record}
use Rattle.run_keepers.specs.Kept.{KeepsAll}
use Rattle.run_keepers.proofs.KeptLines.{drops_less}

-- nobody holds what is new
item_less : (g k : ℕ) (i : Item) (hs : List Holding) (z : Node × ℕ) → holder_in k (with_new g hs i) ≡ Some z → holder_in k hs ≡ Some z
item_less g k (item.Set id n first shape threshold policy key (Some old)) hs z at = at
item_less g k (item.Unset id) hs z at = at
item_less g k (item.Set id n first shape threshold policy key None) hs z at = by (id == k) at
  where
    by : (b : Bool) → option_and_then (λ (h : Holding). h.holder) (if b then Some (new_holding g id) else latest_in k hs) ≡ Some z → holder_in k hs ≡ Some z
    by true is = absurd (let bad : None ≡ Some z = is in cc)
    by false is = is

items_less : (g k : ℕ) (items : List Item) (hs : List Holding) (z : Node × ℕ) → holder_in k (fold (with_new g) hs items) ≡ Some z → holder_in k hs ≡ Some z
items_less g k [] hs z at = at
items_less g k (i ∷ items) hs z at = item_less g k i hs z (items_less g k items (with_new g hs i) z at)

draws_less : (g k : ℕ) (o : Option Draft) (hs : List Holding) (z : Node × ℕ) → holder_in k (draws g o hs) ≡ Some z → holder_in k hs ≡ Some z
draws_less g k None hs z at = at
draws_less g k (Some d) hs z at = items_less g k d.items hs z at

record_less : (x : Node) (k : ℕ) (r : Rec) (hs : List Holding) (z : Node × ℕ) → holder_in k (with_record x r hs) ≡ Some z → holder_in k hs ≡ Some z
record_less x k (rec.Modreq q key) hs z at = drops_less x q.g k q.items hs z at
record_less x k r hs z at = at

flight_less : (l : LinkId) (k : ℕ) (f : Flight) (hs : List Holding) (z : Node × ℕ) → holder_in k (with_flight l f hs) ≡ Some z → holder_in k hs ≡ Some z
flight_less l k (flight.Ctl r) hs z at = record_less l.to k r hs z at
flight_less l k f hs z at = at

given_less : (k : ℕ) (o : Option (LinkId × Flight)) (hs : List Holding) (z : Node × ℕ) → holder_in k (with_given o hs) ≡ Some z → holder_in k hs ≡ Some z
given_less k None hs z at = at
given_less k (Some s) hs z at = flight_less s.0 k s.1 hs z at

event_less : (p : Past) (k : ℕ) (e : Event) (hs : List Holding) (z : Node × ℕ) → holder_in k (with_event p e hs) ≡ Some z → holder_in k hs ≡ Some z
event_less p k (event.Step l i) hs z at = given_less k (find_at l i p.standing) hs z at
event_less p k e hs z at = draws_less (p.table.last + 1) k (draft p.table e) hs z at

answer_less : (p : Past) (k : ℕ) (e : Event) (a : Answer) (hs : List Holding) (z : Node × ℕ) → holder_in k (with_answer p e a hs) ≡ Some z → holder_in k hs ≡ Some z
answer_less p k e answer.Ok hs z at = event_less p k e hs z at
answer_less p k e (answer.No why) hs z at = at

-- before the lines of an event
pub judged_keeps : (p : Past) (e : Event) (r : Answer) (x : Node) (a : Actives) → KeepsAll p x a → KeepsAll (judged e r p) x a
judged_keeps p e r x a keeps k g at = keeps k g (answer_less p k e r (holdings p) (x, g) (subst (λ hs. holder_in k hs ≡ Some (x, g)) (judged_seen e r p) at))
