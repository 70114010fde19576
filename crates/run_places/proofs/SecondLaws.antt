-- What a secondary node does with a record leaves each bearer held at most once: by how it acts, one bearer at a time.
use Rattle.std.proofs.Common.{ℕ, ◌≡◌, ◌≤◌, ◌+◌, ◌==◌, ◌++◌, ◌∙◌, Bool, true, false, List, [], ◌∷◌, Option, Some, None, refl, sym, ap, subst, arith, inl, inr}
use Rattle.std.specs.List.{AllByRecursion, find, list_any}
use Rattle.std.specs.Prelude.{if◌then◌else◌, map, ⊤, ◌&&◌, ◌⊎◌}
use Rattle.std.proofs.lemmas.Bool.{eqb-true}
use Rattle.dc_base.specs.Nodes.{is_same_node, is_secondary}
use Rattle.dc_base.specs.Records.{item_id}
use Rattle.dc_base.specs.declared.nodes.Node.{Node}
use Rattle.dc_base.specs.declared.nodes.Node.TheVariants.{A, B, M, T}
use Rattle.dc_base.specs.declared.records.Item.{Item}
use Rattle.dc_base.specs.declared.records.Item.TheVariants as item
use Rattle.dc_base.specs.declared.records.Plan.{Plan}
use Rattle.dc_base.specs.declared.records.Rec.{Rec}
use Rattle.dc_base.specs.declared.records.Rec.TheVariants as rec
use Rattle.dc_base.specs.declared.records.StatusTransfer.{StatusTransfer}
use Rattle.node_rules.specs.MasterGo.{moving_by, moving_of}
use Rattle.node_rules.specs.MasterRecords.{is_moving}
use Rattle.node_rules.specs.Parts.{moved_part, part_at}
use Rattle.node_rules.specs.Places.{anchor_at, is_at}
use Rattle.node_rules.specs.declared.acts.Act.{Act}
use Rattle.node_rules.specs.declared.acts.Act.TheVariants.{Go as go, Pass as pass, Prepare as prepare}
use Rattle.node_rules.specs.declared.commands.Membership.{Membership}
use Rattle.node_rules.specs.declared.commands.Membership.TheVariants.{Joined as joined, Left as left, Outside as outside}
use Rattle.node_rules.specs.declared.parts.Part.{Part}
use Rattle.node_rules.specs.declared.parts.Part.TheVariants.{Awaits as awaits, Drops as drops, Establishes as establishes, HandsOver as hands_over, HasNoAnchor as has_no_anchor, Renews as renews}
use Rattle.run_control.specs.SecondControl.{Views, part_sends, record_to, act_sends, act_view, acts_sends, acts_view, carried_by, is_holding, made, moved, part_view, passed, sent_by_items, set_by, stage_after, views_within}
use Rattle.run_control.specs.Views.{Stage, View, at_stage, has_status, holds, is_awaited, is_lacking, lacks_status}
use Rattle.run_control.proofs.Turns.{never}
use Rattle.run_pairs.specs.Bearers.{AreApart}
use Rattle.run_pairs.proofs.Replies.{same_node}
use Rattle.std.proofs.lemmas.Option.{same_Some}
use Rattle.std.proofs.lemmas.List.{append-nil}
use Rattle.run_places.specs.Tokens.{kept_at, kept_by, status_in}
use Rattle.run_places.proofs.Counting.{sent, sent_append}
use Rattle.run_places.proofs.Going.{given_waits, made_waits, renewed_waits}
use Rattle.run_places.proofs.Items.{AreNamed, IsNamed, OneItem, all_named, by_item, made_by, one_item, sends_by, untouched}
use Rattle.run_places.proofs.ItemKinds.{anchor_second, awaits_moves, is_awaits, moved_awaits, sets_aside}
use Rattle.run_places.proofs.Parts.{carried_is, carried_says, part_law, second_makes, second_own, second_says, setting}
use Rattle.run_places.proofs.Plans.{moves_by, moves_then}
use Rattle.run_places.proofs.SecondTakes.{IsQuiet, Took, quiets_same, quiets_silent, took_plan, took_quietly, took_status}
use Rattle.run_places.proofs.States.{Course, IsAwaited, MayWait, WaitsFor, carried_out, is_drop, item_in, proposed, sets_at, sets_by, settled}
use Rattle.run_places.proofs.TurnKeeps.{AreSame, IsSame, same_itself, same_kept, same_named, same_then, same_waits}

-- ---- without a context of the terminal nothing is held

pub within_few : (m : Membership) (at : Views) (k : ℕ) → kept_by (views_within m at k) ≤ kept_by (at k)
within_few outside at k = omega arith
within_few joined at k = omega arith
within_few left at k = omega arith

pub within_named : (m : Membership) (at : Views) → AreNamed at → AreNamed (views_within m at)
within_named outside at is k = tt
within_named joined at is k = is k
within_named left at is k = is k

pub within_waits : (x : Node) (c : Course) (m : Membership) (at : Views) (k : ℕ) → WaitsFor x c k (at k) → WaitsFor x c k (views_within m at k)
within_waits x c outside at k is = tt
within_waits x c joined at k is = is
within_waits x c left at k is = is

-- ---- a status transfer is given to an anchor

pub passed_law : (status : StatusTransfer) (adopts : Bool) (o : Option View) → kept_by (passed status adopts o) ≤ kept_by o + 1
passed_law status adopts None = omega arith
passed_law status adopts (Some v) = by (is_awaited status v)
  where
    at_most : (n : Stage) → kept_at n ≤ 1
    at_most holds = omega arith
    at_most lacks_status = omega arith
    at_most has_status = omega arith

    by : (b : Bool) → kept_by (Some (if b then at_stage (stage_after adopts) v else v)) ≤ kept_at v.stage + 1
    by true = omega (arith, at_most (stage_after adopts))
    by false = omega arith

pub passed_named : (k : ℕ) (status : StatusTransfer) (adopts : Bool) (o : Option View) → IsNamed k o → IsNamed k (passed status adopts o)
passed_named k status adopts None is = tt
passed_named k status adopts (Some v) is = by (is_awaited status v)
  where
    by : (b : Bool) → IsNamed k (Some (if b then at_stage (stage_after adopts) v else v))
    by true = is
    by false = is

-- an anchor that waits with it, waited
pub awaited_idle : (k : Stage) (b : Bool) → (b && is_lacking k) ≡ true → is_holding k ≡ false
awaited_idle holds true is = absurd cc
awaited_idle holds false is = absurd cc
awaited_idle lacks_status b is = refl
awaited_idle has_status b is = refl

at_stage_waits : (x : Node) (c : Course) (k : ℕ) (n : Stage) (v : View) → is_holding v.stage ≡ false → WaitsFor x c k (Some v) → WaitsFor x c k (Some (at_stage n v))
at_stage_waits x settled k n v idle is = λ z. is idle
at_stage_waits x (proposed p who agreed) k n v idle is = λ z. is idle
at_stage_waits x (carried_out p zs) k n v idle is = λ z. is idle

pub passed_waits : (x : Node) (c : Course) (k : ℕ) (status : StatusTransfer) (adopts : Bool) (o : Option View) → WaitsFor x c k o → WaitsFor x c k (passed status adopts o)
passed_waits x c k status adopts None is = tt
passed_waits x c k status adopts (Some v) is = by (is_awaited status v) refl
  where
    by : (b : Bool) → is_awaited status v ≡ b → WaitsFor x c k (Some (if b then at_stage (stage_after adopts) v else v))
    by true awaited = at_stage_waits x c k (stage_after adopts) v (awaited_idle v.stage ((v.bearer.id == status.id) && (v.bearer.g == status.g)) awaited) is
    by false other = is

pub moved_silent : (me : Node) (status : StatusTransfer) (adopts : Bool) (o : Option View) (k : ℕ) → sent k (moved me status adopts o) ≡ 0
moved_silent me status adopts None k = refl
moved_silent me status adopts (Some v) k = by (is_awaited status v && adopts)
  where
    by : (b : Bool) → sent k (if b then record_to me M (rec.Moved v.bearer.g status.id) ∷ [] else []) ≡ 0
    by true = refl
    by false = refl

-- ---- acts, one after another

-- quiet acts, and then a plan that is carried out
pub record Carries (me : Node) (p : Plan) (acts : List (Bool × Act)) (v : Views) : Type 0 where
  pub mid : Views
  pub same : AreSame v mid
  pub after : acts_view me acts v ≡ carried_by me p p.items mid
  pub said : (k : ℕ) → sent k (acts_sends me acts v) ≡ sent k (sent_by_items me p p.items mid)

goes_carries : (me : Node) (p : Plan) (adopts : Bool) (a : Act) (v : Views) → a ≡ go p → Carries me p ((adopts, a) ∷ []) v
goes_carries me p adopts a v is = subst (λ b. Carries me p ((adopts, b) ∷ []) v) (sym is) (record {
  mid = v;
  same = λ k. same_itself (v k);
  after = refl;
  said = λ k. ap (sent k) (append-nil (sent_by_items me p p.items v));
})

pub carries : (me : Node) (p : Plan) (front : List Act) (acts : List (Bool × Act)) (v : Views) → AllByRecursion IsQuiet front → map (λ (a : Bool × Act). a.1) acts ≡ front ++ go p ∷ [] → Carries me p acts v
carries me p [] [] v all is = absurd cc
carries me p [] (a ∷ []) v all is = goes_carries me p a.0 a.1 v (ap (first_of a.1) is)
  where
    first_of : Act → List Act → Act
    first_of d [] = d
    first_of d (z ∷ zs) = z
carries me p [] (a ∷ (b ∷ acts)) v all is = absurd (no_more (ap rest is))
  where
    rest : List Act → List Act
    rest [] = []
    rest (z ∷ zs) = zs

    no_more : b.1 ∷ map (λ (z : Bool × Act). z.1) acts ≡ [] → ⊥
    no_more e = absurd cc
carries me p (f ∷ front) [] v all is = absurd cc
carries me p (f ∷ front) (a ∷ acts) v all is = joined_to (quiet (ap first is)) (carries me p front acts (act_view me a.0 a.1 v) all.1 (ap rest is))
  where
    first : List Act → Act
    first [] = f
    first (z ∷ zs) = z

    rest : List Act → List Act
    rest [] = []
    rest (z ∷ zs) = zs

    quiet : a.1 ≡ f → IsQuiet a.1
    quiet e = subst IsQuiet (sym e) all.0

    joined_to : IsQuiet a.1 → Carries me p acts (act_view me a.0 a.1 v) → Carries me p (a ∷ acts) v
    joined_to still more = record {
      mid = more.mid;
      same = λ k. same_then (v k) (act_view me a.0 a.1 v k) (more.mid k) (quiets_same me (a ∷ []) v (still, tt) k) (more.same k);
      after = more.after;
      said = λ k. sent_append k (act_sends me a.0 a.1 v) (acts_sends me acts (act_view me a.0 a.1 v))
          ∙ omega (arith, more.said k, sent_append k (act_sends me a.0 a.1 v) [], quiets_silent me (a ∷ []) v k (still, tt));
    }

-- ---- the parts of a secondary node

part_waits : (x : Node) (c : Course) (k g : ℕ) (i : Item) (part : Part) (o : Option View) → is_awaits part ≡ false → WaitsFor x c k o → WaitsFor x c k (part_view g i part o)
part_waits x c k g i establishes o plain is = made_waits x c k (set_by g i)
part_waits x c k g i renews o plain is = renewed_waits x c k (set_by g i) o is
part_waits x c k g i awaits o plain is = absurd cc
part_waits x c k g i (hands_over to) o plain is = given_waits x c k o is
part_waits x c k g i drops o plain is = tt
part_waits x c k g i has_no_anchor o plain is = is

-- a node waits for nothing by a plan of which it is not the secondary node
awaits_aside : (x : Node) (sec : Option Node) (i : Item) → is_secondary x ≡ true → is_at x sec ≡ false → is_awaits (part_at x sec i) ≡ false
awaits_aside x sec (item.Set id n first shape threshold policy key None) second apart = by (is_same_node x (anchor_at sec shape))
  where
    by : (b : Bool) → is_awaits (if b then establishes else has_no_anchor) ≡ false
    by true = refl
    by false = refl
awaits_aside x sec (item.Set id n first shape threshold policy key (Some old)) second apart = by (is_awaits (moved_part (anchor_at sec shape) (is_same_node x old) (is_same_node x (anchor_at sec shape)))) refl
  where
    by : (b : Bool) → is_awaits (moved_part (anchor_at sec shape) (is_same_node x old) (is_same_node x (anchor_at sec shape))) ≡ b → b ≡ false
    by false is = refl
    by true is =
        absurd (never (is_at x sec) (anchor_second x sec shape second (sym (same_node x (anchor_at sec shape) (moved_awaits (anchor_at sec shape) (is_same_node x old) (is_same_node x (anchor_at sec shape)) is).1))) apart)
awaits_aside x sec (item.Unset id) second apart = refl

-- ---- a plan is carried out

module _ (x : Node) (second : is_secondary x ≡ true) (p : Plan) (apart : AreApart p.items) (v : Views) (named : AreNamed v) where
  abbrev after : Views
  after = carried_by x p p.items v

  pub after_named : AreNamed after
  after_named = subst AreNamed (sym (carried_is x p p.items v)) (all_named (second_makes x p) (second_says x p) (second_own x p) p.items v named)

  -- what becomes of a bearer
  pub data Becomes (k : ℕ) : Type 0 where
    stays_so : (none : item_in k p ≡ None) → (same : after k ≡ v k) → (silent : sent k (sent_by_items x p p.items v) ≡ 0) → Becomes k
    is_made : (i : Item) → (found : item_in k p ≡ Some i) → (here : item_id i ≡ k) → (same : after k ≡ part_view p.g i (part_at x p.sec i) (v k)) → (told : sent k (sent_by_items x p p.items v) ≡ sent k (second_says x p i (v k))) → Becomes k

  pub becomes : (k : ℕ) → Becomes k
  becomes k = by (one_item (second_makes x p) (second_says x p) (second_own x p) p.items v k apart named)
    where
      by : OneItem (second_makes x p) (second_says x p) (second_own x p) p.items v k → Becomes k
      by (untouched none stays silent) = stays_so none (ap (λ (views : Views). views k) (carried_is x p p.items v) ∙ stays) (ap (sent k) (carried_says x p p.items v) ∙ silent)
      by (by_item i found here makes says) = is_made i found here (ap (λ (views : Views). views k) (carried_is x p p.items v) ∙ makes) (ap (sent k) (carried_says x p p.items v) ∙ says)

  pub few_after : (k : ℕ) → kept_by (after k) + sent k (sent_by_items x p p.items v) ≤ kept_by (v k) + sets_at x p k
  few_after k = by (becomes k)
    where
      by : Becomes k → kept_by (after k) + sent k (sent_by_items x p p.items v) ≤ kept_by (v k) + sets_at x p k
      by (stays_so none same silent) = omega (arith, ap kept_by same, silent)
      by (is_made i found here same told) = omega (arith, ap kept_by same, told, part_law x p.g i (part_at x p.sec i) (v k) k, ap (sets_by x p) found)

  -- what is dropped is neither held nor sent
  pub none_after : (k : ℕ) (i : Item) → item_in k p ≡ Some i → is_drop i ≡ true → kept_by (after k) + sent k (sent_by_items x p p.items v) ≡ 0
  none_after k i found drop = by (becomes k)
    where
      dropped : (j : Item) → is_drop j ≡ true → part_at x p.sec j ≡ drops
      dropped (item.Set id n first shape threshold policy key old) is = absurd cc
      dropped (item.Unset id) is = refl

      by : Becomes k → kept_by (after k) + sent k (sent_by_items x p p.items v) ≡ 0
      by (stays_so none same silent) = absurd (none_some (sym none ∙ found))
        where
          none_some : None ≡ Some i → ⊥
          none_some e = absurd cc
      by (is_made j found' here same told) =
          let part : part_at x p.sec j ≡ drops = dropped j (ap is_drop (same_Some j i (sym found' ∙ found)) ∙ drop) in
          omega (arith, ap kept_by (same ∙ ap (λ z. part_view p.g j z (v k)) part), told ∙ ap (λ z. sent k (part_sends x p.g z (v k))) part)

  -- a plan of which it is not the secondary node makes no anchor wait
  pub waits_aside : (c : Course) (k : ℕ) → is_at x p.sec ≡ false → WaitsFor x c k (v k) → WaitsFor x c k (after k)
  waits_aside c k aside is = by (becomes k)
    where
      by : Becomes k → WaitsFor x c k (after k)
      by (stays_so none same silent) = subst (WaitsFor x c k) (sym same) is
      by (is_made i found here same told) = subst (WaitsFor x c k) (sym same) (part_waits x c k p.g i (part_at x p.sec i) (v k) (awaits_aside x p.sec i second aside) is)

  pub sets_none : (k : ℕ) → is_at x p.sec ≡ false → sets_at x p k ≡ 0
  sets_none k aside = by (item_in k p)
    where
      by : (o : Option Item) → sets_by x p o ≡ 0
      by None = refl
      by (Some i) = sets_aside x p.sec i second aside

  -- one that it agrees to makes its anchors wait
  may_wait : MayWait x (Some x) true
  may_wait = by x second
    where
      by : (y : Node) → is_secondary y ≡ true → MayWait y (Some y) true
      by T is = absurd cc
      by M is = tt
      by A is = (refl, refl)
      by B is = (refl, refl)

  not_before : (k : ℕ) (c : Course) (o : Option View) → WaitsFor x (proposed p (Some x) false) k o → WaitsFor x c k o
  not_before k c None is = tt
  not_before k c (Some w) is = λ idle. absurd (no_way x second (is idle).2)
    where
      no_way : (y : Node) → is_secondary y ≡ true → MayWait y (Some x) false → ⊥
      no_way T s z = z
      no_way M s z = absurd cc
      no_way A s z = absurd cc
      no_way B s z = absurd cc

  made_lacks : (k : ℕ) (i : Item) → item_id i ≡ k → list_any (is_moving k x) (moving_by p) ≡ true → WaitsFor x (proposed p (Some x) true) k (made lacks_status (set_by p.g i))
  made_lacks k (item.Set id n first shape threshold policy key old) here moves = λ idle. (refl, moves, may_wait)
  made_lacks k (item.Unset id) here moves = tt

  agreed_part : (k : ℕ) (i : Item) (part : Part) (o : Option View) → item_id i ≡ k → (is_awaits part ≡ true → list_any (is_moving k x) (moving_by p) ≡ true) → WaitsFor x (proposed p (Some x) true) k o
      → WaitsFor x (proposed p (Some x) true) k (part_view p.g i part o)
  agreed_part k i establishes o here moves is = made_waits x (proposed p (Some x) true) k (set_by p.g i)
  agreed_part k i renews o here moves is = renewed_waits x (proposed p (Some x) true) k (set_by p.g i) o is
  agreed_part k i awaits o here moves is = made_lacks k i here (moves refl)
  agreed_part k i (hands_over to) o here moves is = given_waits x (proposed p (Some x) true) k o is
  agreed_part k i drops o here moves is = tt
  agreed_part k i has_no_anchor o here moves is = is

  pub waits_agreed : (k : ℕ) → WaitsFor x (proposed p (Some x) false) k (v k) → WaitsFor x (proposed p (Some x) true) k (after k)
  waits_agreed k is = by (becomes k)
    where
      by : Becomes k → WaitsFor x (proposed p (Some x) true) k (after k)
      by (stays_so none same silent) = subst (WaitsFor x (proposed p (Some x) true) k) (sym same) (not_before k (proposed p (Some x) true) (v k) is)
      by (is_made i found here same told) =
          subst (WaitsFor x (proposed p (Some x) true) k) (sym same)
          (agreed_part k i (part_at x p.sec i) (v k) here (λ waits. moves_by k x p.sec p.items apart ∙ ap (λ o. moves_then k x p.sec o) found ∙ awaits_moves x p.sec i k here waits) (not_before k (proposed p (Some x) true) (v k) is))
