-- The nodes, the counts and the entries after events, one after another.
use Rattle.std.proofs.Common.{ℕ, ◌≡◌, ◌+◌, ◌≤◌, ◌++◌, List, [], ◌∷◌, refl, ap, arith, subst}
use Rattle.dc_base.specs.declared.events.Event.{Event}
use Rattle.dc_base.specs.declared.events.Line.TheVariants as line
use Rattle.transcript.specs.Transcript.{Entry, entry_lines}
use Rattle.node_rules.specs.Choices.{Choices}
use Rattle.node_rules.specs.Run.{entries_from, world_after, world_step}
use Rattle.node_rules.specs.World.{World}
use Rattle.dc_network.specs.Counting.{Counted, IsWithin, counted, counts_of_both}
use Rattle.dc_network.proofs.Counted.{counted-append}
use Rattle.counted_network.specs.Counted.{Counting, counting_after, counting_after_all}

module _ (c : Choices) where
  pub world_after-next : (w : World) (es : List Event) (e : Event) → world_after c w (es ++ e ∷ []) ≡ (world_step c (world_after c w es) e).0
  world_after-next w [] e = refl
  world_after-next w (x ∷ es) e = world_after-next (world_step c w x).0 es e

  pub world_after-append : (w : World) (es fs : List Event) → world_after c w (es ++ fs) ≡ world_after c (world_after c w es) fs
  world_after-append w [] fs = refl
  world_after-append w (x ∷ es) fs = world_after-append (world_step c w x).0 es fs

  pub entries-next : (w : World) (es : List Event) (e : Event)
      → entries_from c w (es ++ e ∷ []) ≡ entries_from c w es ++ (world_step c (world_after c w es) e).1 ∷ []
  entries-next w [] e = refl
  entries-next w (x ∷ es) e = ap (λ (t : List Entry). (world_step c w x).1 ∷ t) (entries-next (world_step c w x).0 es e)

  pub entries-append : (w : World) (es fs : List Event) → entries_from c w (es ++ fs) ≡ entries_from c w es ++ entries_from c (world_after c w es) fs
  entries-append w [] fs = refl
  entries-append w (e ∷ es) fs = ap (λ (t : List Entry). (world_step c w e).1 ∷ t) (entries-append (world_step c w e).0 es fs)

  pub counting-append : (k : Counting) (es fs : List Event) → counting_after_all c k (es ++ fs) ≡ counting_after_all c (counting_after_all c k es) fs
  counting-append k [] fs = refl
  counting-append k (e ∷ es) fs = counting-append (counting_after c k e) es fs

  pub counting_world : (k : Counting) (es : List Event) → (counting_after_all c k es).world ≡ world_after c k.world es
  counting_world k [] = refl
  counting_world k (e ∷ es) = counting_world (counting_after c k e) es

-- ---- the limit on events

-- an entry is one event more
entry_events : (x : Entry) → 1 ≤ (counted (entry_lines x)).events
entry_events x =
    let e = ap (λ (n : Counted). n.events) (counted-append (line.Event x.event ∷ []) (line.Answer x.answer ∷ x.lines)) in
    let one : (counted (line.Event x.event ∷ [])).events ≡ 1 = refl in
    omega (arith, e, one)

module _ (c : Choices) where
  pub one_event_more : (k : Counting) (e : Event) → k.counts.events + 1 ≤ (counting_after c k e).counts.events
  one_event_more k e = let one = entry_events (world_step c k.world e).1 in omega (arith, one)

  -- events before one that is within the limits are
  pub within_front : (k : Counting) (es : List Event) (e : Event) → IsWithin (counting_after_all c k (es ++ e ∷ [])).counts → IsWithin (counting_after_all c k es).counts
  within_front k es e within =
      let m = counting_after_all c k es in
      let own = counted (entry_lines (world_step c m.world e).1) in
      let sum : IsWithin (counts_of_both m.counts own) = subst (λ (j : Counting). IsWithin j.counts) (counting-append c k es (e ∷ [])) within in
      record { events = omega arith; flights = omega arith; octets = omega arith }
