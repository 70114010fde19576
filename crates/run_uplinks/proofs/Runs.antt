-- At each moment of a run the terminal's side of each bearer is what the past says of it.
use Rattle.std.proofs.Common.{ℕ, List, [], ◌∷◌, refl, sym, subst}
use Rattle.std.specs.List.{AllByRecursion}
use Rattle.dc_base.specs.declared.events.Event.{Event}
use Rattle.dc_base.specs.declared.events.Header.{Header}
use Rattle.claims.specs.Noted.{after, past, past_from}
use Rattle.claims.specs.Past.{Past, new_past}
use Rattle.node_rules.specs.Choices.{Choices}
use Rattle.node_rules.specs.Run.{entries_from, world_after, world_step}
use Rattle.node_rules.specs.World.{World, new_world}
use Rattle.run_control.specs.Sound.{AddsSecond}
use Rattle.run_control.proofs.BookRuns.{always_agreed, event_agreed}
use Rattle.run_table.specs.View.{view}
use Rattle.run_table.proofs.Runs.{lasts_new, lasts_next}
use Rattle.run_table.proofs.Views.{after_view, hears_answer}
use Rattle.run_words.proofs.Runs.{linked_new}
use Rattle.run_words.proofs.Standing.{stands_next}
use Rattle.run_uplinks.specs.Seen.{seen}
use Rattle.run_uplinks.specs.Uplinks.{IsUp, absent, nothing_drawn}
use Rattle.run_uplinks.proofs.Events.{event_up}
use Rattle.run_uplinks.proofs.Held.{Holds}
use Rattle.run_uplinks.proofs.Standing.{orders_new, orders_next}
use Rattle.run_uplinks.proofs.Wells.{IsWell, answer_grows, lines_grow, well_new}

well_next : (c : Choices) (w : World) (p : Past) (e : Event) → IsWell (view p) → IsWell (view (after p (world_step c w e).1))
well_next c w p e well =
    let x = (world_step c w e).1 in
    let first = answer_grows p e x.answer (view p) well in
    subst IsWell (sym (after_view p x)) (lines_grow x.lines (hears_answer p e x.answer (view p)) first.well).well

-- an event of a run keeps it
pub holds_next : (c : Choices) (w : World) (p : Past) (e : Event) → AddsSecond e → Holds p w → Holds (after p (world_step c w e).1) (world_step c w e).0
holds_next c w p e names h = record {
  agreed = event_agreed c w e names h.agreed;
  lasts = lasts_next c w p e names h.lasts;
  stands = stands_next c w p e h.lasts.long h.stands;
  well = well_next c w p e h.well;
  orders = orders_next c w p e names h.lasts h.well h.orders;
  up = event_up c w p h e;
}

-- at the start
pub holds_new : (c : Choices) (h : Header) (policies : ℕ) → Holds (new_past h policies) (new_world h)
holds_new c h policies = record {
  agreed = always_agreed c h [] tt;
  lasts = lasts_new h policies;
  stands = (linked_new h policies).same;
  well = well_new h policies;
  orders = orders_new (view (new_past h policies)) h;
  up = record { each = λ id. absent refl tt; alone = tt; near = tt; drawn = nothing_drawn refl refl; sec = refl; alg = refl; ascends = tt };
}

pub holds_on : (c : Choices) (es : List Event) → AllByRecursion AddsSecond es → (w : World) (p : Past) → Holds p w → Holds (past_from p (entries_from c w es)) (world_after c w es)
holds_on c [] names w p h = h
holds_on c (e ∷ es) names w p h = holds_on c es names.1 (world_step c w e).0 (after p (world_step c w e).1) (holds_next c w p e names.0 h)

-- after any events of which each addition is of a secondary node, the terminal's side of each bearer is what the past says of it:
-- which generation it has, of what shape and with which secondary node, which leg is marked as failed, and what its sending
-- entity keeps
pub uplinks_always : (c : Choices) (h : Header) (policies : ℕ) (es : List Event) → AllByRecursion AddsSecond es
    → IsUp (seen (past h policies (entries_from c (new_world h) es))) (world_after c (new_world h) es).terminal
uplinks_always c h policies es names = (holds_on c es names (new_world h) (new_past h policies) (holds_new c h policies)).up
