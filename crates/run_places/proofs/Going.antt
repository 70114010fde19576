-- A plan is carried out by the master: what is kept of its anchors.
use Rattle.std.proofs.Common.{ℕ, ◌≡◌, ◌≤◌, ◌+◌, ◌==◌, ◌++◌, ◌∙◌, Bool, true, false, List, [], ◌∷◌, Option, Some, None, refl, sym, ap, subst, arith, inl, inr}
use Rattle.std.specs.List.{AllByRecursion, find, fold, list_any}
use Rattle.std.specs.Prelude.{if◌then◌else◌, ⊤, ◌⊎◌}
use Rattle.dc_base.specs.Nodes.{is_same_node, is_secondary}
use Rattle.dc_base.specs.Records.{item_id}
use Rattle.dc_base.specs.declared.nodes.Node.{Node}
use Rattle.dc_base.specs.declared.nodes.Node.TheVariants.{A, B, M, T}
use Rattle.dc_base.specs.declared.records.Item.{Item}
use Rattle.dc_base.specs.declared.records.Item.TheVariants as item
use Rattle.dc_base.specs.declared.records.Plan.{Plan}
use Rattle.node_rules.specs.CommandTable.{Table, rows_after}
use Rattle.node_rules.specs.MasterGo.{moving_by, moving_of}
use Rattle.node_rules.specs.MasterRecords.{is_moving}
use Rattle.node_rules.specs.Parts.{moved_part, part_at}
use Rattle.node_rules.specs.Places.{anchor_at, node_or_master}
use Rattle.node_rules.specs.declared.acts.Act.TheVariants.{Go as go}
use Rattle.node_rules.specs.declared.commands.Row.{Row}
use Rattle.node_rules.specs.declared.parts.Part.{Part}
use Rattle.node_rules.specs.declared.parts.Part.TheVariants.{Awaits as awaits, Drops as drops, Establishes as establishes, HandsOver as hands_over, HasNoAnchor as has_no_anchor, Renews as renews}
use Rattle.run_control.specs.MasterControl.{carried_here, own_acts_sends, own_acts_view, own_part_sends, own_part_view, sent_here}
use Rattle.run_control.specs.SecondControl.{Views, given, given_at, holds_there, is_holding, made, renewed, renewed_at, set_by}
use Rattle.run_control.specs.Sound.{IsSecond}
use Rattle.run_control.specs.Views.{Bearer, Stage, View, has_status, holds, lacks_status}
use Rattle.run_control.proofs.Turns.{never}
use Rattle.run_pairs.specs.Bearers.{AreApart, IsOfRow, IsRowOf}
use Rattle.dc_base.specs.declared.nodes.Shape.{Shape}
use Rattle.run_pairs.proofs.Replies.{node_itself, same_node}
use Rattle.std.proofs.lemmas.List.{append-nil}
use Rattle.std.proofs.lemmas.Option.{same_Some}
use Rattle.run_places.specs.Tokens.{kept_at, kept_by}
use Rattle.run_places.proofs.Counting.{sent, sent_append}
use Rattle.run_places.proofs.Items.{AreNamed, OneItem, all_named, by_item, made_by, one_item, sends_by, untouched}
use Rattle.run_places.proofs.ItemKinds.{SetsUp, awaits_moves, found_each, is_awaits, old_here, renewed_holds, sets_new, sets_none, sets_once, sets_up}
use Rattle.run_places.proofs.Parts.{master_makes, master_own, master_says, own_is, own_part_law, own_says, setting}
use Rattle.run_places.proofs.Plans.{anchor_by, found_here, moves_by, moves_then, moves_there, row_after, row_by, row_then}
use Rattle.run_places.proofs.States.{AreSingle, Course, IsDropped, IsDroppedAt, IsPlanFor, IsPlanned, Keeps, State, WaitsFor, carried_out, is_drop, is_new, item_in, proposed, row_in, set_before, sets_at, sets_by, under_way}

-- ---- a waiting anchor stays as it is

pub renewed_waits : (x : Node) (c : Course) (k : ℕ) (b : Option Bearer) (o : Option View) → WaitsFor x c k o → WaitsFor x c k (renewed b o)
renewed_waits x c k None o is = is
renewed_waits x c k (Some b) None is = tt
renewed_waits x c k (Some b) (Some v) is = by v.stage refl
  where
    by : (n : Stage) → v.stage ≡ n → WaitsFor x c k (Some (renewed_at n b v))
    by holds at = λ idle. absurd cc
    by lacks_status at = is
    by has_status at = is

pub given_waits : (x : Node) (c : Course) (k : ℕ) (o : Option View) → WaitsFor x c k o → WaitsFor x c k (given o)
given_waits x c k None is = tt
given_waits x c k (Some v) is = by v.stage
  where
    by : (n : Stage) → WaitsFor x c k (given_at n v)
    by holds = tt
    by lacks_status = is
    by has_status = is

pub made_waits : (x : Node) (c : Course) (k : ℕ) (b : Option Bearer) → WaitsFor x c k (made holds b)
made_waits x c k None = tt
made_waits x c k (Some b) = λ idle. absurd cc

own_waits : (c : Course) (k : ℕ) (g : ℕ) (i : Item) (part : Part) (o : Option View) → WaitsFor M c k o → WaitsFor M c k (own_part_view g i part o)
own_waits c k g i establishes o is = made_waits M c k (set_by g i)
own_waits c k g i renews o is = renewed_waits M c k (set_by g i) o is
own_waits c k g i awaits o is = is
own_waits c k g i (hands_over to) o is = given_waits M c k o is
own_waits c k g i drops o is = tt
own_waits c k g i has_no_anchor o is = is

-- ---- a bearer that has its anchor at the master then is held there, or moves there

holds_or_moves : (p : Plan) (rows : List Row) (t : Table) (i : Item) (k : ℕ) (o : Option View) (r : Row) → IsOfRow rows i → item_id i ≡ k → row_by t p.g p.sec i ≡ Some r → r.anchor ≡ M → ((q : Row) → row_in k rows ≡ Some q → q.anchor ≡ M → holds_there o ≡ true)
    → (holds_there (own_part_view p.g i (part_at M p.sec i) o) ≡ true) ⊎ (is_awaits (part_at M p.sec i) ≡ true)
holds_or_moves p rows t (item.Unset id) k o r of here sets at held = absurd cc
holds_or_moves p rows t (item.Set id n first shape threshold policy key None) k o r of here sets at held = inl (ap (λ b. holds_there (own_part_view p.g it (if b then establishes else has_no_anchor) o)) new)
  where
    it : Item
    it = item.Set id n first shape threshold policy key None

    new : is_same_node M (anchor_at p.sec shape) ≡ true
    new = subst (λ y. is_same_node M y ≡ true) (sym (ap (λ (z : Row). z.anchor) (same_Some _ r sets) ∙ at)) refl
holds_or_moves p rows t (item.Set id n first shape threshold policy key (Some old)) k o r of here sets at held = by (is_same_node M old) refl
  where
    it : Item
    it = item.Set id n first shape threshold policy key (Some old)

    new : is_same_node M (anchor_at p.sec shape) ≡ true
    new = subst (λ y. is_same_node M y ≡ true) (sym (ap (λ (z : Row). z.anchor) (same_Some _ r sets) ∙ at)) refl

    part_is : (b : Bool) → is_same_node M old ≡ b → part_at M p.sec it ≡ moved_part (anchor_at p.sec shape) b true
    part_is b is = ap (λ c. moved_part (anchor_at p.sec shape) c (is_same_node M (anchor_at p.sec shape))) is ∙ ap (moved_part (anchor_at p.sec shape) b) new

    its_row : (q : Option Row) → row_in id rows ≡ q → IsRowOf old n first q → is_same_node M old ≡ true → holds_there o ≡ true
    its_row None is so mine = absurd so
    its_row (Some q) is so mine = held q (ap (λ j. row_in j rows) (sym here) ∙ is) (so.0 ∙ sym (same_node M old mine))

    by : (b : Bool) → is_same_node M old ≡ b → (holds_there (own_part_view p.g it (part_at M p.sec it) o) ≡ true) ⊎ (is_awaits (part_at M p.sec it) ≡ true)
    by true mine = inl (ap (λ z. holds_there (own_part_view p.g it z o)) (part_is true mine) ∙ renewed_holds (record { id = id; g = p.g; n = n; first = first }) o (its_row (row_in id rows) refl of mine))
    by false other = inr (ap is_awaits (part_is false other))

-- ---- the anchors of rows

anchor_known : (sec : Option Node) (shape : Shape) → IsSecond sec → is_same_node T (anchor_at sec shape) ≡ false
anchor_known sec shape second = by shape.at_second
  where
    known : (o : Option Node) → IsSecond o → is_same_node T (node_or_master o) ≡ false
    known None is = refl
    known (Some T) is = absurd cc
    known (Some M) is = refl
    known (Some A) is = refl
    known (Some B) is = refl

    by : (b : Bool) → is_same_node T (if b then node_or_master sec else M) ≡ false
    by true = known sec second
    by false = refl

row_known : (t : Table) (p : Plan) (i : Item) (r : Row) → IsSecond p.sec → row_by t p.g p.sec i ≡ Some r → is_same_node T r.anchor ≡ false
row_known t p (item.Set id n first shape threshold policy key old) r second is = ap (λ (z : Row). is_same_node T z.anchor) (sym (same_Some _ r is)) ∙ anchor_known p.sec shape second
row_known t p (item.Unset id) r second is = absurd cc

-- no row is there only where it was dropped
no_row : (t : Table) (p : Plan) (i : Item) → row_by t p.g p.sec i ≡ None → (is_drop i ≡ true) × (part_at M p.sec i ≡ drops)
no_row t p (item.Set id n first shape threshold policy key old) is = absurd cc
no_row t p (item.Unset id) is = (refl, refl)

drop_sets : (x : Node) (sec : Option Node) (i : Item) → is_drop i ≡ true → setting (part_at x sec i) ≡ 0
drop_sets x sec (item.Set id n first shape threshold policy key old) is = absurd cc
drop_sets x sec (item.Unset id) is = refl

pub held_is_kept : (o : Option View) → holds_there o ≡ true → kept_by o ≡ 1
held_is_kept None is = absurd cc
held_is_kept (Some v) is = by v.stage is
  where
    by : (n : Stage) → is_holding n ≡ true → kept_at n ≡ 1
    by holds at = refl
    by lacks_status at = absurd cc
    by has_status at = absurd cc

-- ---- the plan

-- each bearer moves to one node
pub moves_single : (p : Plan) → AreApart p.items → AreSingle (moving_by p)
moves_single p apart k y z one two = by (item_in k p) (sym (moves_by k y p.sec p.items apart) ∙ one) (sym (moves_by k z p.sec p.items apart) ∙ two)
  where
    by : (o : Option Item) → moves_then k y p.sec o ≡ true → moves_then k z p.sec o ≡ true → y ≡ z
    by None one two = absurd cc
    by (Some i) one two = same_Some y z (sym (moves_there k y p.sec i one) ∙ moves_there k z p.sec i two)

module _ (s : State) (t : Table) (p : Plan) (who : Option Node) (agreed : Bool) (mv : Views) (rest : ℕ → ℕ) (at : s.course ≡ proposed p who agreed) (sure : (who ≡ None) ⊎ (agreed ≡ true)) (keeps : Keeps s mv rest) where
  abbrev after : Views
  after = carried_here p p.items mv

  abbrev next : State
  next = record { rows = fold (rows_after t p.g p.sec) s.rows p.items; last = s.last; course = carried_out p (moving_by p) }

  plan : IsPlanFor s.rows p who
  plan = (subst (λ c. IsPlanned (record s { course = c })) at keeps.planned).0

  before : (k : ℕ) → row_in k s.rows ≡ None → kept_by (mv k) + rest k ≤ set_before (proposed p who agreed) k
  before k none = subst (λ c. kept_by (mv k) + rest k ≤ set_before c k) at (keeps.none k none)

  waited : (k : ℕ) → WaitsFor M (proposed p who agreed) k (mv k)
  waited k = subst (λ c. WaitsFor M c k (mv k)) at (keeps.waits k)

  waits_on : (k : ℕ) (o : Option View) → WaitsFor M (proposed p who agreed) k o → WaitsFor M (carried_out p (moving_by p)) k o
  waits_on k None is = tt
  waits_on k (Some v) is = λ idle. let so = is idle in (so.0, so.1)

  held : (k : ℕ) (r : Row) → row_in k s.rows ≡ Some r → r.anchor ≡ M → holds_there (mv k) ≡ true
  held k r there here = keeps.own k r there here (ap (λ c. list_any (is_moving k M) (under_way c)) at)

  row_is : (k : ℕ) → row_in k next.rows ≡ row_then t p.g p.sec (item_in k p) (row_in k s.rows)
  row_is k = row_after t p.g p.sec p.items s.rows k plan.items.apart

  -- what becomes of a bearer
  record Becomes (k : ℕ) : Type 0 where
    once : (kept_by (after k) + rest k) + sent k (sent_here p p.items mv) ≤ 1
    none : row_in k next.rows ≡ None → (kept_by (after k) + rest k) + sent k (sent_here p p.items mv) ≡ 0
    own : (r : Row) → row_in k next.rows ≡ Some r → r.anchor ≡ M → list_any (is_moving k M) (moving_by p) ≡ false → holds_there (after k) ≡ true
    away : (r : Row) → row_in k next.rows ≡ Some r → is_same_node T r.anchor ≡ false
    waits : WaitsFor M (carried_out p (moving_by p)) k (after k)

  -- a bearer that is set up at the master was nowhere, nor did the node that agreed set it up
  set_else : (o : Option Node) (b : Bool) (k : ℕ) (i : Item) → IsSecond o → item_in k p ≡ Some i → setting (part_at M p.sec i) ≡ 1 → set_before (proposed p o b) k ≡ 0
  set_else None b k i second found sets = refl
  set_else (Some x) false k i second found sets = refl
  set_else (Some x) true k i second found sets = ap (sets_by x p) found ∙ by (is_same_node M x) refl
    where
      by : (b : Bool) → is_same_node M x ≡ b → setting (part_at x p.sec i) ≡ 0
      by true here = absurd (never (is_secondary x) second (ap is_secondary (sym (same_node M x here))))
      by false apart = omega (arith, sets_once M x p.sec i apart, sets)

  -- what is dropped is nowhere else
  rest_none : (k : ℕ) (i : Item) → item_in k p ≡ Some i → is_drop i ≡ true → rest k ≡ 0
  rest_none k i found drop = by (row_in k s.rows) refl
    where
      unset : (o : Option Node) (b : Bool) → set_before (proposed p o b) k ≡ 0
      unset None b = refl
      unset (Some x) false = refl
      unset (Some x) true = ap (sets_by x p) found ∙ drop_sets x p.sec i drop

      at_node : (r : Row) → row_in k s.rows ≡ Some r → (r.anchor ≡ M) ⊎ (who ≡ Some r.anchor) → rest k ≡ 0
      at_node r there (inl here) = omega (arith, held_is_kept (mv k) (held k r there here), keeps.once k)
      at_node r there (inr asked) = agreeing sure
        where
          gone : agreed ≡ true → IsDropped s.course s.rows k
          gone yes' =
              subst (λ c. IsDropped c s.rows k) (sym (at ∙ ap (λ o. proposed p o agreed) asked ∙ ap (proposed p (Some r.anchor)) yes'))
              (record { it = i; found = found; drop = drop; its_row = r; there = there; here = refl })

          agreeing : (who ≡ None) ⊎ (agreed ≡ true) → rest k ≡ 0
          agreeing (inl nobody) = absurd (none_some (sym nobody ∙ asked))
            where
              none_some : None ≡ Some r.anchor → ⊥
              none_some e = absurd cc
          agreeing (inr yes') = omega (arith, keeps.dropped k (gone yes'))

      by : (o : Option Row) → row_in k s.rows ≡ o → rest k ≡ 0
      by None none = omega (arith, before k none, unset who agreed)
      by (Some r) there = at_node r there (plan.drops k i r found drop there)

  becomes : (k : ℕ) → Becomes k
  becomes k = by (one_item (master_makes p) (master_says p) (master_own p) p.items mv k plan.items.apart keeps.named)
    where
      as_made : {v : Option View} → made_by (master_makes p) (master_says p) p.items mv k ≡ v → after k ≡ v
      as_made e = ap (λ (views : Views). views k) (own_is p p.items mv) ∙ e

      as_said : {n : ℕ} → sent k (sends_by (master_makes p) (master_says p) p.items mv) ≡ n → sent k (sent_here p p.items mv) ≡ n
      as_said e = ap (sent k) (own_says p p.items mv) ∙ e

      row_then_is : (o : Option Item) → item_in k p ≡ o → row_in k next.rows ≡ row_then t p.g p.sec o (row_in k s.rows)
      row_then_is o found = row_is k ∙ ap (λ z. row_then t p.g p.sec z (row_in k s.rows)) found

      unset : (o : Option Node) (b : Bool) → item_in k p ≡ None → set_before (proposed p o b) k ≡ 0
      unset None b none = refl
      unset (Some x) false none = refl
      unset (Some x) true none = ap (sets_by x p) none

      by : OneItem (master_makes p) (master_says p) (master_own p) p.items mv k → Becomes k
      by (untouched none stays silent) =
          let same : after k ≡ mv k = as_made stays in
          let quiet : sent k (sent_here p p.items mv) ≡ 0 = as_said silent in
          let row_same : row_in k next.rows ≡ row_in k s.rows = row_then_is None none in
          record {
            once = omega (arith, ap kept_by same, quiet, keeps.once k);
            none = λ gone. omega (arith, ap kept_by same, quiet, before k (sym row_same ∙ gone), unset who agreed none);
            own = λ r there here stays'. ap holds_there same ∙ held k r (sym row_same ∙ there) here;
            away = λ r there. keeps.away k r (sym row_same ∙ there);
            waits = subst (WaitsFor M (carried_out p (moving_by p)) k) (sym same) (waits_on k (mv k) (waited k));
          }
      by (by_item i found here makes says) =
          let same : after k ≡ own_part_view p.g i (part_at M p.sec i) (mv k) = as_made makes in
          let told : sent k (sent_here p p.items mv) ≡ sent k (master_says p i (mv k)) = as_said says in
          let law = own_part_law p.g i (part_at M p.sec i) (mv k) k in
          let row_set : row_in k next.rows ≡ row_by t p.g p.sec i = row_then_is (Some i) found in
          let of = found_each (IsOfRow s.rows) p.items k i plan.items.olds found in
          record {
            once = one (sets_up M p.sec i) same told law;
            none = λ gone. let dropped = no_row t p i (sym row_set ∙ gone) in
                omega (arith, ap kept_by (same ∙ ap (λ z. own_part_view p.g i z (mv k)) dropped.1), told ∙ ap (λ z. sent k (own_part_sends p.g z (mv k))) dropped.1, rest_none k i found dropped.0);
            own = λ r there at' stays'.
                ap holds_there same ∙ or_moves (holds_or_moves p s.rows t i k (mv k) r of here (sym row_set ∙ there) at' (held k)) stays' found here;
            away = λ r there. row_known t p i r plan.second (sym row_set ∙ there);
            waits = subst (WaitsFor M (carried_out p (moving_by p)) k) (sym same) (own_waits (carried_out p (moving_by p)) k p.g i (part_at M p.sec i) (mv k) (waits_on k (mv k) (waited k)));
          }
        where
          one : SetsUp M p.sec i → after k ≡ own_part_view p.g i (part_at M p.sec i) (mv k) → sent k (sent_here p p.items mv) ≡ sent k (master_says p i (mv k))
              → kept_by (own_part_view p.g i (part_at M p.sec i) (mv k)) + sent k (master_says p i (mv k)) ≤ kept_by (mv k) + setting (part_at M p.sec i) → (kept_by (after k) + rest k) + sent k (sent_here p p.items mv) ≤ 1
          one (sets_none none) same told law = omega (arith, ap kept_by same, told, law, none, keeps.once k)
          one (sets_new sets new there) same told law =
              omega (arith, ap kept_by same, told, law, sets, before k (plan.new k i found new), set_else who agreed k i plan.asked_second found sets)

          or_moves : (holds_there (own_part_view p.g i (part_at M p.sec i) (mv k)) ≡ true) ⊎ (is_awaits (part_at M p.sec i) ≡ true) → list_any (is_moving k M) (moving_by p) ≡ false → item_in k p ≡ Some i → item_id i ≡ k
              → holds_there (own_part_view p.g i (part_at M p.sec i) (mv k)) ≡ true
          or_moves (inl holds') stays' found here = holds'
          or_moves (inr waits') stays' found here =
              absurd (never (list_any (is_moving k M) (moving_by p)) (moves_by k M p.sec p.items plan.items.apart ∙ ap (λ o. moves_then k M p.sec o) found ∙ awaits_moves M p.sec i k here waits') stays')

  pub go_keeps : Keeps next (own_acts_view (go p ∷ []) mv) (λ k. rest k + sent k (own_acts_sends (go p ∷ []) mv))
  go_keeps = record {
    named = subst AreNamed (sym (own_is p p.items mv)) (all_named (master_makes p) (master_says p) (master_own p) p.items mv keeps.named);
    once = λ k. omega (arith, (becomes k).once, alone k);
    none = λ k none. omega (arith, (becomes k).none none, alone k);
    dropped = λ k gone. absurd gone;
    own = λ k r there here stays. (becomes k).own r there here stays;
    away = λ k r there. (becomes k).away r there;
    waits = λ k. (becomes k).waits;
    planned = tt;
    single = moves_single p plan.items.apart;
  }
    where
      alone : (k : ℕ) → sent k (own_acts_sends (go p ∷ []) mv) ≡ sent k (sent_here p p.items mv)
      alone k = ap (sent k) (append-nil (sent_here p p.items mv))
