-- A plan is drawn: what is kept of the master's anchors, among which waiting ones are made.
use Rattle.std.proofs.Common.{ℕ, ◌≡◌, ◌≤◌, ◌+◌, ◌==◌, ◌++◌, ◌∙◌, Bool, true, false, List, [], ◌∷◌, Option, Some, None, refl, sym, ap, subst, arith, inl, inr}
use Rattle.std.specs.List.{AllByRecursion, find, list_any}
use Rattle.std.specs.Prelude.{if◌then◌else◌, ⊤}
use Rattle.dc_base.specs.Nodes.{is_same_node}
use Rattle.dc_base.specs.Records.{item_id}
use Rattle.dc_base.specs.declared.nodes.Node.{Node}
use Rattle.dc_base.specs.declared.nodes.Node.TheVariants.{M}
use Rattle.dc_base.specs.declared.records.Item.{Item}
use Rattle.dc_base.specs.declared.records.Item.TheVariants as item
use Rattle.dc_base.specs.declared.records.Plan.{Plan}
use Rattle.node_rules.specs.MasterGo.{moves_here, moving_by, moving_of, preparing}
use Rattle.node_rules.specs.MasterRecords.{is_moving}
use Rattle.node_rules.specs.Parts.{moved_part, part_at, set_part}
use Rattle.node_rules.specs.Places.{anchor_at}
use Rattle.node_rules.specs.declared.acts.Act.{Act}
use Rattle.node_rules.specs.declared.acts.Act.TheVariants.{Prepare as prepare}
use Rattle.node_rules.specs.declared.commands.Row.{Row}
use Rattle.node_rules.specs.declared.parts.Part.{Part}
use Rattle.node_rules.specs.declared.parts.Part.TheVariants.{Awaits as awaits, Drops as drops, Establishes as establishes, HandsOver as hands_over, HasNoAnchor as has_no_anchor, Renews as renews}
use Rattle.run_control.specs.MasterControl.{own_acts_sends, own_acts_view, prepared_here, prepared_view}
use Rattle.run_control.specs.SecondControl.{Views, holds_there, is_holding, made, set_by}
use Rattle.run_control.specs.Views.{View, lacks_status}
use Rattle.run_control.proofs.Turns.{never}
use Rattle.run_pairs.specs.Bearers.{IsOfRow}
use Rattle.run_places.specs.Tokens.{kept_by}
use Rattle.run_places.proofs.Counting.{sent}
use Rattle.run_places.proofs.Items.{AreNamed, OneItem, all_named, by_item, made_by, one_item, untouched}
use Rattle.run_places.proofs.ItemKinds.{awaits_moves, found_each, is_awaits, old_here}
use Rattle.run_places.proofs.Parts.{prepared_is, prepared_law, prepares, prepares_own, says_nothing}
use Rattle.run_places.proofs.Plans.{moves_by, moves_then}
use Rattle.run_places.proofs.States.{Course, IsAwaited, IsDropped, IsPlanFor, Keeps, State, WaitsFor, carried_out, item_in, proposed, row_in, settled, set_before, under_way}

-- where no plan is open, nothing waits
pub settled_waits : (x : Node) (s : Course) (k : ℕ) (o : Option View) → WaitsFor x settled k o → WaitsFor x s k o
settled_waits x s k None is = tt
settled_waits x s k (Some v) is = λ idle. absurd (is idle)

-- ---- an anchor that is made

waits_made : (p : Plan) (who : Option Node) (k : ℕ) (i : Item) → item_id i ≡ k → list_any (is_moving k M) (moving_by p) ≡ true → WaitsFor M (proposed p who false) k (made lacks_status (set_by p.g i))
waits_made p who k (item.Set id n first shape threshold policy key old) here moves = λ idle. (refl, moves, tt)
waits_made p who k (item.Unset id) here moves = tt

prepared_waits : (p : Plan) (who : Option Node) (k : ℕ) (i : Item) (part : Part) (o : Option View) → item_id i ≡ k → (is_awaits part ≡ true → list_any (is_moving k M) (moving_by p) ≡ true) → WaitsFor M settled k o
    → WaitsFor M (proposed p who false) k (prepared_view p.g i part o)
prepared_waits p who k i establishes o here moves is = settled_waits M (proposed p who false) k o is
prepared_waits p who k i renews o here moves is = settled_waits M (proposed p who false) k o is
prepared_waits p who k i awaits o here moves is = waits_made p who k i here (moves refl)
prepared_waits p who k i (hands_over to) o here moves is = settled_waits M (proposed p who false) k o is
prepared_waits p who k i drops o here moves is = settled_waits M (proposed p who false) k o is
prepared_waits p who k i has_no_anchor o here moves is = settled_waits M (proposed p who false) k o is

-- an anchor that holds stays, where its row is at the master
unless_awaits : (g : ℕ) (i : Item) (part : Part) (o : Option View) → is_awaits part ≡ false → prepared_view g i part o ≡ o
unless_awaits g i establishes o is = refl
unless_awaits g i renews o is = refl
unless_awaits g i awaits o is = absurd cc
unless_awaits g i (hands_over to) o is = refl
unless_awaits g i drops o is = refl
unless_awaits g i has_no_anchor o is = refl

new_awaits : (b : Bool) → is_awaits (if b then establishes else has_no_anchor) ≡ false
new_awaits true = refl
new_awaits false = refl

old_awaits : (new : Node) (b d : Bool) → b ≡ true → is_awaits (moved_part new b d) ≡ false
old_awaits new true true is = refl
old_awaits new true false is = refl
old_awaits new false d is = absurd cc

-- the master does not wait for a bearer whose row is there
pub none_awaited : (x : Node) (sec : Option Node) (rows : List Row) (i : Item) (k : ℕ) (r : Row) → IsOfRow rows i → item_id i ≡ k → row_in k rows ≡ Some r → r.anchor ≡ x → is_awaits (part_at x sec i) ≡ false
none_awaited x sec rows (item.Set id n first shape threshold policy key None) k r of here at there = new_awaits (is_same_node x (anchor_at sec shape))
none_awaited x sec rows (item.Set id n first shape threshold policy key (Some old)) k r of here at there =
    old_awaits (anchor_at sec shape) (is_same_node x old) (is_same_node x (anchor_at sec shape)) (old_here x rows id n first shape threshold policy key old r of (ap (λ j. row_in j rows) here ∙ at) there)
none_awaited x sec rows (item.Unset id) k r of here at there = refl

-- ---- the plan

module _ (s : State) (p : Plan) (who : Option Node) (mv : Views) (rest : ℕ → ℕ) (at : s.course ≡ settled) (is : IsPlanFor s.rows p who) (keeps : Keeps s mv rest) where
  abbrev after : Views
  after = prepared_here p p.items mv

  abbrev next : State
  next = record { rows = s.rows; last = p.g; course = proposed p who false }

  still : (k : ℕ) → WaitsFor M settled k (mv k)
  still k = subst (λ c. WaitsFor M c k (mv k)) at (keeps.waits k)

  -- what becomes of a bearer
  record Becomes (k : ℕ) : Type 0 where
    few : kept_by (after k) ≤ kept_by (mv k)
    waits : WaitsFor M (proposed p who false) k (after k)
    own : (r : Row) → row_in k s.rows ≡ Some r → r.anchor ≡ M → holds_there (mv k) ≡ true → holds_there (after k) ≡ true

  becomes : (k : ℕ) → Becomes k
  becomes k = by (one_item (prepares p) (says_nothing p) (prepares_own p) p.items mv k is.items.apart keeps.named)
    where
      as_made : {v : Option View} → made_by (prepares p) (says_nothing p) p.items mv k ≡ v → after k ≡ v
      as_made e = ap (λ (views : Views). views k) (prepared_is p p.items mv) ∙ e

      by : OneItem (prepares p) (says_nothing p) (prepares_own p) p.items mv k → Becomes k
      by (untouched none stays silent) =
          let same : after k ≡ mv k = as_made stays in
          record {
            few = omega (arith, ap kept_by same);
            waits = subst (WaitsFor M (proposed p who false) k) (sym same) (settled_waits M (proposed p who false) k (mv k) (still k));
            own = λ r there here holds. ap holds_there same ∙ holds;
          }
      by (by_item i found here makes says) =
          let same : after k ≡ prepared_view p.g i (part_at M p.sec i) (mv k) = as_made makes in
          record {
            few = omega (arith, ap kept_by same, prepared_law p.g i (part_at M p.sec i) (mv k));
            waits = subst (WaitsFor M (proposed p who false) k) (sym same)
                (prepared_waits p who k i (part_at M p.sec i) (mv k) here (λ waits. moves_by k M p.sec p.items is.items.apart ∙ ap (λ o. moves_then k M p.sec o) found ∙ awaits_moves M p.sec i k here waits) (still k));
            own = λ r there here' holds.
                ap holds_there (same ∙ unless_awaits p.g i (part_at M p.sec i) (mv k) (none_awaited M p.sec s.rows i k r (found_each (IsOfRow s.rows) p.items k i is.items.olds found) here there here')) ∙ holds;
          }

  none_before : (o : Option Node) (k : ℕ) → set_before (proposed p o false) k ≡ 0
  none_before None k = refl
  none_before (Some x) k = refl

  none_dropped : (o : Option Node) (k : ℕ) → IsDropped (proposed p o false) s.rows k → ⊥
  none_dropped None k so = so
  none_dropped (Some x) k so = so

  drawn : Keeps next after rest
  drawn = record {
    named = subst AreNamed (sym (prepared_is p p.items mv)) (all_named (prepares p) (says_nothing p) (prepares_own p) p.items mv keeps.named);
    once = λ k. omega (arith, keeps.once k, (becomes k).few);
    none = λ k none. omega (arith, keeps.none k none, (becomes k).few, ap (λ c. set_before c k) at, none_before who k);
    dropped = λ k gone. absurd (none_dropped who k gone);
    own = λ k r there here stays. (becomes k).own r there here (keeps.own k r there here (ap (λ c. list_any (is_moving k M) (under_way c)) at));
    away = keeps.away;
    waits = λ k. (becomes k).waits;
    planned = (is, refl);
    single = λ k y z one two. absurd cc;
  }

  -- none of its bearers moves to the master
  unprepared : Keeps next mv rest
  unprepared = record {
    named = keeps.named;
    once = keeps.once;
    none = λ k none. omega (arith, keeps.none k none, ap (λ c. set_before c k) at, none_before who k);
    dropped = λ k gone. absurd (none_dropped who k gone);
    own = λ k r there here stays. keeps.own k r there here (ap (λ c. list_any (is_moving k M) (under_way c)) at);
    away = keeps.away;
    waits = λ k. settled_waits M (proposed p who false) k (mv k) (still k);
    planned = (is, refl);
    single = λ k y z one two. absurd cc;
  }

  pub draw_keeps : Keeps next (own_acts_view (preparing p) mv) rest
  draw_keeps = by (moves_here p)
    where
      by : (b : Bool) → Keeps next (own_acts_view (if b then prepare p ∷ [] else []) mv) rest
      by true = drawn
      by false = unprepared

  pub draw_silent : (k : ℕ) → sent k (own_acts_sends (preparing p) mv) ≡ 0
  draw_silent k = by (moves_here p)
    where
      by : (b : Bool) → sent k (own_acts_sends (if b then prepare p ∷ [] else []) mv) ≡ 0
      by true = refl
      by false = refl
