-- An anchor that adopts its bearer at a secondary node: the plan of its generation sets the bearer, whose latest establishment is no later,
-- and the node alone has it, or is to have it.
use Rattle.std.proofs.Common.{ℕ, ◌≡◌, ◌≤◌, ◌==◌, ◌++◌, ◌∙◌, Bool, true, false, List, [], ◌∷◌, Option, Some, None, refl, sym, ap, subst, arith}
use Rattle.std.specs.List.{AllByRecursion, find, flat_map, list_any}
use Rattle.std.specs.Option.{option_and_then, option_map}
use Rattle.std.specs.Prelude.{if◌then◌else◌, ◌&&◌, ◌||◌}
use Rattle.std.proofs.lemmas.Bool.{eqb-true}
use Rattle.std.proofs.lemmas.Option.{same_Some}
use Rattle.dc_base.specs.Nodes.{is_same_node, is_secondary}
use Rattle.dc_base.specs.declared.nodes.Node.{Node}
use Rattle.dc_base.specs.declared.nodes.Node.TheVariants.{A, B, M, T}
use Rattle.dc_base.specs.declared.records.Item.{Item}
use Rattle.dc_base.specs.declared.records.Item.TheVariants as item
use Rattle.dc_base.specs.declared.records.Plan.{Plan}
use Rattle.node_rules.specs.Anchor.{AnchorState, active_anchor, setup_at, waiting_anchor}
use Rattle.node_rules.specs.Feed.{Fed}
use Rattle.node_rules.specs.Held.{held}
use Rattle.node_rules.specs.MasterGo.{moving_of}
use Rattle.node_rules.specs.MasterRecords.{is_moving}
use Rattle.node_rules.specs.Places.{anchor_at}
use Rattle.node_rules.specs.World.{World}
use Rattle.node_rules.specs.declared.commands.Command.{Command}
use Rattle.node_rules.specs.declared.commands.Command.TheVariants.{Asked as asked, Gone as gone, Recovering as recovering}
use Rattle.node_rules.specs.declared.commands.Row.{Row}
use Rattle.claims.specs.Past.{Past}
use Rattle.claims.specs.Reading.{Setting, setting, setting_of, sets}
use Rattle.run_control.proofs.Records.{bare_records}
use Rattle.run_control.specs.Claims.{second_at}
use Rattle.run_control.specs.Links.{records_on}
use Rattle.run_control.specs.SecondControl.{is_holding}
use Rattle.run_control.specs.Views.{View, second_view, view_of}
use Rattle.run_pairs.specs.Apt.{IsAptCommand}
use Rattle.run_pairs.specs.Bearers.{IsOfRow, IsRowOf}
use Rattle.run_places.proofs.Items.{IsNamed}
use Rattle.run_places.proofs.Runs.{IsWhole}
use Rattle.run_places.proofs.States.{IsAwaited, WaitsFor, course_of, row_in, set_before}
use Rattle.run_places.proofs.Whole.{There}
use Rattle.run_relays.specs.Setups.{FedOf, IsOfPlan, core}
use Rattle.run_senders.proofs.Held.{held_so}
use Rattle.run_senders.specs.Holders.{AllHeld, IfThere}
use Rattle.run_table.specs.SameTable.{FitsOpen}
use Rattle.run_holders.specs.Owning.{SetsLatest}
use Rattle.run_holders.proofs.SecondWellAlways.{AreEstablished}
use Rattle.run_holders.proofs.SecondWellLatest.{IsEstablished, row_established}
use Rattle.run_holders.proofs.SecondWellPlans.{flag_in, held_at, held_in_all}

-- ---- what the plan of its generation sets

anchors_set : (p : Past) (w : World) → AreEstablished p w → (x : Node) → is_secondary x ≡ true → AllHeld (FedOf (IsOfPlan p.plans)) (second_at x w).anchors
anchors_set p w is A second = is.planned.have.a.anchors
anchors_set p w is B second = is.planned.have.b.anchors
anchors_set p w is M second = absurd cc
anchors_set p w is T second = absurd cc

-- as it is set up
of_plan_set : (p : Past) (a : AnchorState) → IsOfPlan p.plans (core (setup_at a)) → (s : Setting) × (setting p (setup_at a).id (setup_at a).g ≡ Some s)
of_plan_set p a is = (
  record { sec = is.plan.sec; shape = (setup_at a).legs.shape; key = is.key; old = is.old },
  ap (λ (o : Option Plan). option_and_then (λ (z : Plan). setting_of z.sec (find (sets (setup_at a).id) z.items)) o) is.drawn ∙ ap
      (λ (o : Option Item). setting_of is.plan.sec o) is.item,
)

seen_set : (p : Past) (a : AnchorState) (v : View) → view_of a ≡ v → IsOfPlan p.plans (core (setup_at a))
    → (s : Setting) × (setting p v.bearer.id v.bearer.g ≡ Some s)
seen_set p (active_anchor a) v seen is =
    subst (λ (z : View). (s : Setting) × (setting p z.bearer.id z.bearer.g ≡ Some s)) seen (of_plan_set p (active_anchor a) is)
seen_set p (waiting_anchor a) v seen is =
    subst (λ (z : View). (s : Setting) × (setting p z.bearer.id z.bearer.g ≡ Some s)) seen (of_plan_set p (waiting_anchor a) is)

anchor_set : (p : Past) (w : World) → AreEstablished p w → (x : Node) → is_secondary x ≡ true → (id : ℕ) (v : View) → second_view (second_at x w) id ≡ Some v
    → (s : Setting) × (setting p v.bearer.id v.bearer.g ≡ Some s)
anchor_set p w is x second id v at =
    by (held id (second_at x w).anchors) at (held_so (FedOf (IsOfPlan p.plans)) id (second_at x w).anchors (anchors_set p w is x second))
  where
    by : (o : Option Fed) → option_map (λ (z : Fed). view_of z.anchor) o ≡ Some v → IfThere (FedOf (IsOfPlan p.plans)) o
        → (s : Setting) × (setting p v.bearer.id v.bearer.g ≡ Some s)
    by None at' so = absurd (let bad : None ≡ Some v = at' in cc)
    by (Some f) at' so = seen_set p f.anchor v (same_Some (view_of f.anchor) v at') so

-- ---- what moves by a plan has a row

moving_more : (k : ℕ) (x : Node) (xs ys : List (ℕ × Node)) → list_any (is_moving k x) (xs ++ ys) ≡ true → list_any (is_moving k x) xs ≡ false
    → list_any (is_moving k x) ys ≡ true
moving_more k x [] ys is none = is
moving_more k x (z ∷ zs) ys is none = by (is_moving k x z) is none (λ is' none'. moving_more k x zs ys is' none')
  where
    by : (b : Bool) → (b || list_any (is_moving k x) (zs ++ ys)) ≡ true → (b || list_any (is_moving k x) zs) ≡ false
        → (list_any (is_moving k x) (zs ++ ys) ≡ true → list_any (is_moving k x) zs ≡ false → list_any (is_moving k x) ys ≡ true)
        → list_any (is_moving k x) ys ≡ true
    by true is' none' more = absurd (let bad : true ≡ false = none' in cc)
    by false is' none' more = more is' none'

item_row : (sec : Option Node) (rows : List Row) (i : Item) (k : ℕ) (x : Node) → IsOfRow rows i → list_any (is_moving k x) (moving_of sec i) ≡ true
    → (r : Row) × (row_in k rows ≡ Some r)
item_row sec rows (item.Set id n first shape threshold policy key None) k x of moves = absurd (let bad : false ≡ true = moves in cc)
item_row sec rows (item.Unset id) k x of moves = absurd (let bad : false ≡ true = moves in cc)
item_row sec rows (item.Set id n first shape threshold policy key (Some old)) k x of moves =
    subst (λ j. (r : Row) × (row_in j rows ≡ Some r)) (here (is_same_node old (anchor_at sec shape)) moves) (there (row_in id rows) of)
  where
    there : (o : Option Row) → IsRowOf old n first o → (r : Row) × (o ≡ Some r)
    there None so = absurd so
    there (Some r) so = (r, refl)

    first_true : (a b : Bool) → ((a && b) || false) ≡ true → a ≡ true
    first_true true b e = refl
    first_true false b e = absurd (let bad : false ≡ true = e in cc)

    here : (b : Bool) → list_any (is_moving k x) (if b then [] else (id, anchor_at sec shape) ∷ []) ≡ true → id ≡ k
    here true e = absurd (let bad : false ≡ true = e in cc)
    here false e = eqb-true id k (first_true (id == k) (is_same_node x (anchor_at sec shape)) e)

moved_row : (sec : Option Node) (rows : List Row) (items : List Item) (k : ℕ) (x : Node) → AllByRecursion (IsOfRow rows) items
    → list_any (is_moving k x) (flat_map (moving_of sec) items) ≡ true → (r : Row) × (row_in k rows ≡ Some r)
moved_row sec rows [] k x all moves = absurd (let bad : false ≡ true = moves in cc)
moved_row sec rows (i ∷ items) k x all moves = by (list_any (is_moving k x) (moving_of sec i)) refl (λ later. moved_row sec rows items k x all.1 later)
  where
    by : (b : Bool) → list_any (is_moving k x) (moving_of sec i) ≡ b
        → (list_any (is_moving k x) (flat_map (moving_of sec) items) ≡ true → (r : Row) × (row_in k rows ≡ Some r)) → (r : Row) × (row_in k rows ≡ Some r)
    by true here more = item_row sec rows i k x all.0 here
    by false none more = more (moving_more k x (moving_of sec i) (flat_map (moving_of sec) items) moves none)

-- ---- of a waiting anchor

-- the part of a node in all
pub part_in_all : (w : World) (x : Node) (id : ℕ) → is_secondary x ≡ true → held_at w x id ≤ held_in_all w id
part_in_all w A id second = omega arith
part_in_all w B id second = omega arith
part_in_all w M id second = absurd cc
part_in_all w T id second = absurd cc

module _ (p : Past) (w : World) (is : AreEstablished p w) (whole : IsWhole w) (x : Node) (second : is_secondary x ≡ true)
    (there : There x (course_of (flag_in w) w.master.proc.command) (second_view (second_at x w)) (bare_records (records_on M x w))) where
  -- where it is held, or on its way there, its bearer has a row, and its generation is that of the plan drawn last
  waiting_established : (id : ℕ) (v : View) → 1 ≤ held_at w x id → (o : Option Command) → w.master.proc.command ≡ o
      → IsAwaited x (course_of (flag_in w) o) id v → IsEstablished p id v.bearer.g
  waiting_established id v held None opened awaited = absurd awaited
  waiting_established id v held (Some (recovering i terminal s)) opened awaited = absurd awaited
  waiting_established id v held (Some (asked c first who wanted)) opened awaited =
      let apt = subst (IsAptCommand w.master.proc.table) opened is.paired.apt.command in
      let row = moved_row c.plan.sec w.master.proc.table.rows c.plan.items id x apt.items.olds awaited.1 in
      subst (λ g. IsEstablished p id g) (sym (awaited.0 ∙ apt.fresh)) (row_established p w id row.0 is.keys row.1)
  waiting_established id v held (Some (gone q going)) opened awaited =
      let last = subst (FitsOpen w.master.proc.table) opened is.keys.lasts.agree.sound.open_fits in
      subst (λ g. IsEstablished p id g) (sym (awaited.0 ∙ last)) (by (row_in id w.master.proc.table.rows) refl)
    where
      no_row : row_in id w.master.proc.table.rows ≡ None → ⊥
      no_row none = omega (arith, whole.keeps.none id none, ap (λ o. set_before (course_of (flag_in w) o) id) opened, held, part_in_all w x id second)

      by : (o : Option Row) → row_in id w.master.proc.table.rows ≡ o → IsEstablished p id w.master.proc.table.last
      by None none = absurd (no_row none)
      by (Some r) at = row_established p w id r is.keys at

  pub waiting_owns : (id : ℕ) (v : View) → second_view (second_at x w) id ≡ Some v → is_holding v.stage ≡ false → 1 ≤ held_at w x id
      → SetsLatest p id v.bearer.g
  waiting_owns id v at idle held =
      let named : v.bearer.id ≡ id = subst (IsNamed id) at (there.named id) in
      let awaited = subst (WaitsFor x (course_of (flag_in w) w.master.proc.command) id) at (there.waits id) idle in
      let latest = waiting_established id v held w.master.proc.command refl awaited in
      let set = subst (λ j. (s : Setting) × (setting p j v.bearer.g ≡ Some s)) named (anchor_set p w is x second id v at) in
      record { set = set.0; in_plan = set.1; holding = latest.holding; latest = latest.latest; upto = latest.upto }
