-- The bearers of a secondary node beside its line, as more comes on the line, and as what is said of them changes.
use Rattle.std.proofs.Common.{ℕ, ◌≡◌, ◌≤◌, ◌++◌, ◌==◌, Bool, true, false, List, [], ◌∷◌, Option, Some, None, refl, sym, ap, subst, ◌∙◌, arith, inr}
use Rattle.std.specs.Prelude.{find, fold, if◌then◌else◌, is_none, not, ⊤, ◌&&◌, ◌||◌}
use Rattle.std.specs.List.{AllByRecursion, flat_map, list_any}
use Rattle.std.proofs.lemmas.List.Folds.{list_any-append}
use Rattle.dc_base.specs.Nodes.{is_same_node, is_secondary}
use Rattle.dc_base.specs.Records.{item_id}
use Rattle.dc_base.specs.declared.nodes.Node.{Node}
use Rattle.dc_base.specs.declared.nodes.Node.TheVariants.{A, B, M, T}
use Rattle.dc_base.specs.declared.nodes.Want.{Want}
use Rattle.dc_base.specs.declared.records.Item.{Item}
use Rattle.dc_base.specs.declared.records.Item.TheVariants as item
use Rattle.dc_base.specs.declared.records.Plan.{Plan}
use Rattle.dc_base.specs.declared.records.Rec.{Rec}
use Rattle.dc_base.specs.declared.records.Rec.TheVariants as rec
use Rattle.transcript.proofs.OnEach.{each_append, each_weaker}
use Rattle.node_rules.specs.CommandTable.{Table, rows_after}
use Rattle.node_rules.specs.MasterGo.{moving_of}
use Rattle.node_rules.specs.MasterRecords.{is_moving}
use Rattle.node_rules.specs.Places.{anchor_at, is_at, node_or_master}
use Rattle.node_rules.specs.SecondState.{is_joined}
use Rattle.node_rules.specs.declared.commands.Membership.{Membership}
use Rattle.node_rules.specs.declared.commands.Membership.TheVariants.{Joined as joined, Left as left}
use Rattle.node_rules.specs.declared.commands.Row.{Row}
use Rattle.run_control.specs.Rows.{Reads, is_request, membership_after, wanted_after}
use Rattle.run_control.specs.SecondControl.{Views, fits, fits_plan, holds_like, misses}
use Rattle.run_control.specs.Views.{View}
use Rattle.run_control.proofs.Sent.{either}
use Rattle.run_control.proofs.Turns.{never}
use Rattle.run_pairs.specs.Apt.{ArePlaced, IsPlaced, IsPlacedRow}
use Rattle.run_pairs.specs.Bearers.{AreHeld, IsAtMaster, IsFitLine, IsFree, IsHeldAt, IsOfRow, IsRowOf, is_mover}
use Rattle.run_pairs.specs.Fits.{AreFitting, Bearing, IsMovedBelow, IsMovedHeld, IsPlanBelow, IsViewBelow}
use Rattle.run_pairs.proofs.FitLines.{free_line, line_append}
use Rattle.run_pairs.proofs.BearersCarried.{row_set}
use Rattle.run_pairs.proofs.Placed.{item_apart}
use Rattle.run_pairs.proofs.Replies.{same_node}

-- ---- bounds

pub moved_below : (n n' : ℕ) → n ≤ n' → (r : Rec) → IsMovedBelow n r → IsMovedBelow n' r
moved_below n n' le (rec.Reconf plan key) is = tt
moved_below n n' le (rec.Rcomp g) is = tt
moved_below n n' le (rec.Scgf failed) is = tt
moved_below n n' le (rec.Recov id) is = tt
moved_below n n' le (rec.Recovd id) is = tt
moved_below n n' le (rec.Addreq plan key) is = tt
moved_below n n' le (rec.Addack g) is = tt
moved_below n n' le (rec.Addrej g) is = tt
moved_below n n' le (rec.Modreq plan key) is = tt
moved_below n n' le (rec.Modack g) is = tt
moved_below n n' le (rec.Modrej g) is = tt
moved_below n n' le (rec.Recfg g) is = tt
moved_below n n' le (rec.Relreq plan) is = tt
moved_below n n' le (rec.Relack g) is = tt
moved_below n n' le (rec.Relrej g) is = tt
moved_below n n' le (rec.Uecr g) is = tt
moved_below n n' le (rec.Snst status) is = tt
moved_below n n' le (rec.Moved g id) is = omega (arith, le, is)
moved_below n n' le (rec.Scgn id g) is = tt
moved_below n n' le rec.Modrqd is = tt
moved_below n n' le (rec.Modcnf g) is = tt
moved_below n n' le (rec.Modref word) is = tt
moved_below n n' le rec.Chgrqd is = tt
moved_below n n' le (rec.Chgcnf plan) is = tt
moved_below n n' le (rec.Chgref word) is = tt
moved_below n n' le rec.Relrqd is = tt
moved_below n n' le (rec.Relcnf plan) is = tt

pub plan_below : (n n' : ℕ) → n ≤ n' → (r : Rec) → IsPlanBelow n r → IsPlanBelow n' r
plan_below n n' le (rec.Reconf plan key) is = tt
plan_below n n' le (rec.Rcomp g) is = tt
plan_below n n' le (rec.Scgf failed) is = tt
plan_below n n' le (rec.Recov id) is = tt
plan_below n n' le (rec.Recovd id) is = tt
plan_below n n' le (rec.Addreq plan key) is = tt
plan_below n n' le (rec.Addack g) is = tt
plan_below n n' le (rec.Addrej g) is = tt
plan_below n n' le (rec.Modreq plan key) is = tt
plan_below n n' le (rec.Modack g) is = tt
plan_below n n' le (rec.Modrej g) is = tt
plan_below n n' le (rec.Recfg g) is = tt
plan_below n n' le (rec.Relreq plan) is = λ some. let lt = is some in omega (arith, le, lt)
plan_below n n' le (rec.Relack g) is = tt
plan_below n n' le (rec.Relrej g) is = tt
plan_below n n' le (rec.Uecr g) is = tt
plan_below n n' le (rec.Snst status) is = tt
plan_below n n' le (rec.Moved g id) is = tt
plan_below n n' le (rec.Scgn id g) is = tt
plan_below n n' le rec.Modrqd is = tt
plan_below n n' le (rec.Modcnf g) is = tt
plan_below n n' le (rec.Modref word) is = tt
plan_below n n' le rec.Chgrqd is = tt
plan_below n n' le (rec.Chgcnf plan) is = omega (arith, le, is)
plan_below n n' le (rec.Chgref word) is = tt
plan_below n n' le rec.Relrqd is = tt
plan_below n n' le (rec.Relcnf plan) is = omega (arith, le, is)

pub view_below : (n n' : ℕ) → n ≤ n' → (o : Option View) → IsViewBelow n o → IsViewBelow n' o
view_below n n' le None is = tt
view_below n n' le (Some v) is = omega (arith, le, is)

-- ---- what is said of the bearers changes

-- whatever holds by the one holds by the other
pub record IsLater (x : Node) (b b' : Bearing) : Type 0 where
  pub held : (at : Views) → AreHeld x at b.moving b.rows → AreHeld x at b'.moving b'.rows
  pub moved : (at : Views) (r : Rec) → IsMovedHeld x b at r → IsMovedHeld x b' at r
  pub below : b.below ≤ b'.below

pub later_same : (x : Node) (b : Bearing) → IsLater x b b
later_same x b = record { held = λ at held. held; moved = λ at r is. is; below = omega arith }

bound_moved : (x : Node) (b : Bearing) (n : ℕ) (at : Views) (r : Rec) → IsMovedHeld x b at r → IsMovedHeld x (record b { below = n }) at r
bound_moved x b n at (rec.Reconf plan key) is = is
bound_moved x b n at (rec.Rcomp g) is = is
bound_moved x b n at (rec.Scgf failed) is = is
bound_moved x b n at (rec.Recov id) is = is
bound_moved x b n at (rec.Recovd id) is = is
bound_moved x b n at (rec.Addreq plan key) is = is
bound_moved x b n at (rec.Addack g) is = is
bound_moved x b n at (rec.Addrej g) is = is
bound_moved x b n at (rec.Modreq plan key) is = is
bound_moved x b n at (rec.Modack g) is = is
bound_moved x b n at (rec.Modrej g) is = is
bound_moved x b n at (rec.Recfg g) is = is
bound_moved x b n at (rec.Relreq plan) is = is
bound_moved x b n at (rec.Relack g) is = is
bound_moved x b n at (rec.Relrej g) is = is
bound_moved x b n at (rec.Uecr g) is = is
bound_moved x b n at (rec.Snst status) is = is
bound_moved x b n at (rec.Moved g id) is = is
bound_moved x b n at (rec.Scgn id g) is = is
bound_moved x b n at rec.Modrqd is = is
bound_moved x b n at (rec.Modcnf g) is = is
bound_moved x b n at (rec.Modref word) is = is
bound_moved x b n at rec.Chgrqd is = is
bound_moved x b n at (rec.Chgcnf plan) is = is
bound_moved x b n at (rec.Chgref word) is = is
bound_moved x b n at rec.Relrqd is = is
bound_moved x b n at (rec.Relcnf plan) is = is

-- another bound
pub later_bound : (x : Node) (b : Bearing) (n : ℕ) → b.below ≤ n → IsLater x b (record b { below = n })
later_bound x b n le = record { held = λ at held. held; moved = bound_moved x b n; below = le }

-- where nothing moves to the node
pub none_moves : (x : Node) (b : Bearing) (at : Views) → ((id : ℕ) → list_any (is_moving id x) b.moving ≡ false) → (r : Rec) → IsMovedHeld x b at r
none_moves x b at none (rec.Reconf plan key) = tt
none_moves x b at none (rec.Rcomp g) = tt
none_moves x b at none (rec.Scgf failed) = tt
none_moves x b at none (rec.Recov id) = tt
none_moves x b at none (rec.Recovd id) = tt
none_moves x b at none (rec.Addreq plan key) = tt
none_moves x b at none (rec.Addack g) = tt
none_moves x b at none (rec.Addrej g) = tt
none_moves x b at none (rec.Modreq plan key) = tt
none_moves x b at none (rec.Modack g) = tt
none_moves x b at none (rec.Modrej g) = tt
none_moves x b at none (rec.Recfg g) = tt
none_moves x b at none (rec.Relreq plan) = tt
none_moves x b at none (rec.Relack g) = tt
none_moves x b at none (rec.Relrej g) = tt
none_moves x b at none (rec.Uecr g) = tt
none_moves x b at none (rec.Snst status) = tt
none_moves x b at none (rec.Moved g id) = λ same moves. never (list_any (is_moving id x) b.moving) moves (none id)
none_moves x b at none (rec.Scgn id g) = tt
none_moves x b at none rec.Modrqd = tt
none_moves x b at none (rec.Modcnf g) = tt
none_moves x b at none (rec.Modref word) = tt
none_moves x b at none rec.Chgrqd = tt
none_moves x b at none (rec.Chgcnf plan) = tt
none_moves x b at none (rec.Chgref word) = tt
none_moves x b at none rec.Relrqd = tt
none_moves x b at none (rec.Relcnf plan) = tt

-- ---- more on the line

-- the record fits whatever is held, and is of no new generation
pub record IsLight (x : Node) (n : ℕ) (r : Rec) : Type 0 where
  pub free : IsFree x r
  pub below : IsPlanBelow n r

line_free : (x : Node) (at : Views) (down more : List Rec) → AllByRecursion (IsFree x) more → IsFitLine x at down → IsFitLine x at (down ++ more)
line_free x at [] more all line = free_line x at more all
line_free x at (r ∷ down) more all line = (line.0, λ moves. each_append (IsFree x) down more (line.1 moves) all, line_free x at down more all line.2)

-- light records come, and what is said changes
pub fits_on : (x : Node) (b b' : Bearing) (more : List Rec) → IsLater x b b' → AllByRecursion (IsLight x b'.below) more → (at : Views) (down all : List Rec) → AreFitting x b at down all → AreFitting x b' at (down ++ more) all
fits_on x b b' more later light at down all fit = record {
  line = line_free x at down more (each_weaker (IsLight x b'.below) (IsFree x) (λ r is. is.free) more light) fit.line;
  held = later.held at fit.held;
  moved = each_weaker (IsMovedHeld x b at) (IsMovedHeld x b' at) (later.moved at) all fit.moved;
  up_below = each_weaker (IsMovedBelow b.below) (IsMovedBelow b'.below) (moved_below b.below b'.below later.below) all fit.up_below;
  at_below = λ k. view_below b.below b'.below later.below (at k) (fit.at_below k);
  down_below = each_append (IsPlanBelow b'.below) down more (each_weaker (IsPlanBelow b.below) (IsPlanBelow b'.below) (plan_below b.below b'.below later.below) down fit.down_below)
      (each_weaker (IsLight x b'.below) (IsPlanBelow b'.below) (λ r is. is.below) more light);
}

-- a record comes that fits what is held, where nothing on the line may change that
pub fits_with : (x : Node) (b b' : Bearing) (r : Rec) → IsLater x b b' → (at : Views) (down all : List Rec) → (AreHeld x at b.moving b.rows → fits x at r ≡ true) → IsPlanBelow b'.below r → AllByRecursion (λ z. is_mover z ≡ false) down
    → AreFitting x b at down all → AreFitting x b' at (down ++ r ∷ []) all
fits_with x b b' r later at down all now below still fit = record {
  line = line_append x at down r (inr (now fit.held, still)) fit.line;
  held = later.held at fit.held;
  moved = each_weaker (IsMovedHeld x b at) (IsMovedHeld x b' at) (later.moved at) all fit.moved;
  up_below = each_weaker (IsMovedBelow b.below) (IsMovedBelow b'.below) (moved_below b.below b'.below later.below) all fit.up_below;
  at_below = λ k. view_below b.below b'.below later.below (at k) (fit.at_below k);
  down_below = each_append (IsPlanBelow b'.below) down (r ∷ []) (each_weaker (IsPlanBelow b.below) (IsPlanBelow b'.below) (plan_below b.below b'.below later.below) down fit.down_below) (below, tt);
}

-- ---- nothing on the line may change what is held

pub still_apart : (m : Membership) (r : Rec) → is_joined m ≡ false → is_joined (membership_after r m) ≡ false
still_apart m (rec.Reconf plan key) apart = apart
still_apart m (rec.Rcomp g) apart = apart
still_apart m (rec.Scgf failed) apart = apart
still_apart m (rec.Recov id) apart = apart
still_apart m (rec.Recovd id) apart = apart
still_apart m (rec.Addreq plan key) apart = apart
still_apart m (rec.Addack g) apart = apart
still_apart m (rec.Addrej g) apart = apart
still_apart m (rec.Modreq plan key) apart = apart
still_apart m (rec.Modack g) apart = apart
still_apart m (rec.Modrej g) apart = apart
still_apart m (rec.Recfg g) apart = apart
still_apart m (rec.Relreq plan) apart = either (λ n. is_joined n ≡ false) (is_none plan.sec) m left apart refl
still_apart m (rec.Relack g) apart = apart
still_apart m (rec.Relrej g) apart = apart
still_apart m (rec.Uecr g) apart = refl
still_apart m (rec.Snst status) apart = apart
still_apart m (rec.Moved g id) apart = apart
still_apart m (rec.Scgn id g) apart = apart
still_apart m rec.Modrqd apart = apart
still_apart m (rec.Modcnf g) apart = apart
still_apart m (rec.Modref word) apart = apart
still_apart m rec.Chgrqd apart = apart
still_apart m (rec.Chgcnf plan) apart = refl
still_apart m (rec.Chgref word) apart = apart
still_apart m rec.Relrqd apart = apart
still_apart m (rec.Relcnf plan) apart = either (λ n. is_joined n ≡ false) (plan.g == 0) m left apart refl

not_zero : (b : Bool) → not b ≡ true → b ≡ false
not_zero true is = absurd cc
not_zero false is = refl

pub mover_leaves : (m : Membership) (r : Rec) → is_request r ≡ false → is_mover r ≡ true → is_joined (membership_after r m) ≡ false
mover_leaves m (rec.Reconf plan key) plain moves = absurd cc
mover_leaves m (rec.Rcomp g) plain moves = absurd cc
mover_leaves m (rec.Scgf failed) plain moves = absurd cc
mover_leaves m (rec.Recov id) plain moves = absurd cc
mover_leaves m (rec.Recovd id) plain moves = absurd cc
mover_leaves m (rec.Addreq plan key) plain moves = absurd cc
mover_leaves m (rec.Addack g) plain moves = absurd cc
mover_leaves m (rec.Addrej g) plain moves = absurd cc
mover_leaves m (rec.Modreq plan key) plain moves = absurd cc
mover_leaves m (rec.Modack g) plain moves = absurd cc
mover_leaves m (rec.Modrej g) plain moves = absurd cc
mover_leaves m (rec.Recfg g) plain moves = absurd cc
mover_leaves m (rec.Relreq plan) plain moves = ap (λ b. is_joined (if b then m else left)) plain
mover_leaves m (rec.Relack g) plain moves = absurd cc
mover_leaves m (rec.Relrej g) plain moves = absurd cc
mover_leaves m (rec.Uecr g) plain moves = refl
mover_leaves m (rec.Snst status) plain moves = absurd cc
mover_leaves m (rec.Moved g id) plain moves = absurd cc
mover_leaves m (rec.Scgn id g) plain moves = absurd cc
mover_leaves m rec.Modrqd plain moves = absurd cc
mover_leaves m (rec.Modcnf g) plain moves = absurd cc
mover_leaves m (rec.Modref word) plain moves = absurd cc
mover_leaves m rec.Chgrqd plain moves = absurd cc
mover_leaves m (rec.Chgcnf plan) plain moves = refl
mover_leaves m (rec.Chgref word) plain moves = absurd cc
mover_leaves m rec.Relrqd plain moves = absurd cc
mover_leaves m (rec.Relcnf plan) plain moves = ap (λ b. is_joined (if b then m else left)) (not_zero (plan.g == 0) moves)

-- a node that does not serve the terminal does not come to serve it by what it reads
pub never_joins : (m : Membership) (w : Option Want) (down : List Rec) (w' : Option Want) → is_joined m ≡ false → Reads m w down joined w' → ⊥
never_joins m w [] w' apart reads = never (is_joined joined) refl (sym (ap is_joined reads.0) ∙ apart)
never_joins m w (r ∷ down) w' apart reads = never_joins (membership_after r m) (wanted_after r w) down w' (still_apart m r apart) reads.1

-- a node that serves the terminal in the end has none such on its line
pub still_line : (m : Membership) (w : Option Want) (down : List Rec) (w' : Option Want) → AllByRecursion (λ r. is_request r ≡ false) down → Reads m w down joined w' → AllByRecursion (λ r. is_mover r ≡ false) down
still_line m w [] w' plain reads = tt
still_line m w (r ∷ down) w' plain reads = (by (is_mover r) refl, still_line (membership_after r m) (wanted_after r w) down w' plain.1 reads.1)
  where
    by : (b : Bool) → is_mover r ≡ b → b ≡ false
    by false stays = refl
    by true moves = absurd (never_joins (membership_after r m) (wanted_after r w) down w' (mover_leaves m r plain.0 moves) reads.1)

-- ---- plans that set nothing at the node

-- the new anchor of the item is not at the node
abbrev pub IsAside : Node → Option Node → Item → Type 0
IsAside x sec (item.Set id n first shape threshold policy key old) = is_same_node x (anchor_at sec shape) ≡ false
IsAside x sec (item.Unset id) = ⊤

second_apart : (x : Node) (sec : Option Node) → is_secondary x ≡ true → is_at x sec ≡ false → is_same_node x (node_or_master sec) ≡ false
second_apart T sec second apart = absurd cc
second_apart M sec second apart = absurd cc
second_apart A None second apart = refl
second_apart A (Some y) second apart = apart
second_apart B None second apart = refl
second_apart B (Some y) second apart = apart

master_apart : (x : Node) → is_secondary x ≡ true → is_same_node x M ≡ false
master_apart T second = absurd cc
master_apart M second = absurd cc
master_apart A second = refl
master_apart B second = refl

-- where the node is not the secondary node of the plan
pub aside_items : (x : Node) (sec : Option Node) → is_secondary x ≡ true → is_at x sec ≡ false → (items : List Item) → AllByRecursion (IsAside x sec) items
aside_items x sec second apart [] = tt
aside_items x sec second apart (item.Set id n first shape threshold policy key old ∷ items) =
    (either (λ y. is_same_node x y ≡ false) shape.at_second (node_or_master sec) M (second_apart x sec second apart) (master_apart x second), aside_items x sec second apart items)
aside_items x sec second apart (item.Unset id ∷ items) = (tt, aside_items x sec second apart items)

-- where the new anchors are at the master
pub master_items : (x : Node) (sec : Option Node) → is_secondary x ≡ true → (items : List Item) → AllByRecursion (IsAtMaster sec) items → AllByRecursion (IsAside x sec) items
master_items x sec second [] all = tt
master_items x sec second (item.Set id n first shape threshold policy key old ∷ items) all = (ap (is_same_node x) all.0 ∙ master_apart x second, master_items x sec second items all.1)
master_items x sec second (item.Unset id ∷ items) all = (tt, master_items x sec second items all.1)

-- nothing moves to the node by such items
aside_moves : (x : Node) (sec : Option Node) (k : ℕ) (i : Item) → IsAside x sec i → list_any (is_moving k x) (moving_of sec i) ≡ false
aside_moves x sec k (item.Set id n first shape threshold policy key None) aside = refl
aside_moves x sec k (item.Set id n first shape threshold policy key (Some old)) aside =
    either (λ zs. list_any (is_moving k x) zs ≡ false) (is_same_node old (anchor_at sec shape)) [] ((id, anchor_at sec shape) ∷ []) refl (ap (λ b. ((id == k) && b) || false) aside ∙ and_either (id == k))
  where
    and_either : (b : Bool) → ((b && false) || false) ≡ false
    and_either true = refl
    and_either false = refl
aside_moves x sec k (item.Unset id) aside = refl

pub aside_moving : (x : Node) (sec : Option Node) (items : List Item) → AllByRecursion (IsAside x sec) items → (k : ℕ) → list_any (is_moving k x) (flat_map (moving_of sec) items) ≡ false
aside_moving x sec [] all k = refl
aside_moving x sec (i ∷ items) all k =
    list_any-append (is_moving k x) (moving_of sec i) (flat_map (moving_of sec) items) ∙ ap (λ b. b || list_any (is_moving k x) (flat_map (moving_of sec) items)) (aside_moves x sec k i all.0) ∙ aside_moving x sec items all.1 k

module _ (t : Table) (x : Node) (g : ℕ) (sec : Option Node) (at : Views) where
  aside_row : (rows : List Row) (i : Item) (k : ℕ) → IsAside x sec i → IsHeldAt x (at k) false (find (λ (r : Row). r.id == k) rows) → IsHeldAt x (at k) false (find (λ (r : Row). r.id == k) (rows_after t g sec rows i))
  aside_row rows i k aside held = by (item_id i == k) refl
    where
      not_here : (i : Item) → IsAside x sec i → (item_id i == k) ≡ true → IsHeldAt x (at k) false (find (λ (r : Row). r.id == k) (rows_after t g sec rows i))
      not_here (item.Set id n first shape threshold policy key old) aside here =
          subst (IsHeldAt x (at k) false) (sym (row_set t g sec rows (item.Set id n first shape threshold policy key old) k here)) (λ mine. never (is_same_node x (anchor_at sec shape)) mine aside)
      not_here (item.Unset id) aside here = subst (IsHeldAt x (at k) false) (sym (row_set t g sec rows (item.Unset id) k here)) tt

      by : (b : Bool) → (item_id i == k) ≡ b → IsHeldAt x (at k) false (find (λ (r : Row). r.id == k) (rows_after t g sec rows i))
      by true here = not_here i aside here
      by false apart = subst (IsHeldAt x (at k) false) (sym (item_apart t g sec rows i k apart)) held

  aside_rows : (items : List Item) (rows : List Row) (k : ℕ) → AllByRecursion (IsAside x sec) items → IsHeldAt x (at k) false (find (λ (r : Row). r.id == k) rows)
      → IsHeldAt x (at k) false (find (λ (r : Row). r.id == k) (fold (rows_after t g sec) rows items))
  aside_rows [] rows k all held = held
  aside_rows (i ∷ items) rows k all held = aside_rows items (rows_after t g sec rows i) k all.1 (aside_row rows i k all.0 held)

whole_held : (x : Node) (v : Option View) (moving : Bool) (o : Option Row) → IsHeldAt x v false o → IsHeldAt x v moving o
whole_held x v moving None held = tt
whole_held x v moving (Some r) held = λ here. ((held here).0, λ still. (held here).1 refl)

-- what is said of the bearers after such a plan
pub later_aside : (t : Table) (x : Node) (p : Plan) (rows : List Row) (moving : List (ℕ × Node)) (gen n : ℕ) (b : Bearing) → b ≡ record { rows = rows; moving = []; gen = 0; below = n } → AllByRecursion (IsAside x p.sec) p.items
    → ((id : ℕ) → list_any (is_moving id x) moving ≡ false) → IsLater x b (record { rows = fold (rows_after t p.g p.sec) rows p.items; moving = moving; gen = gen; below = n })
later_aside t x p rows moving gen n b same aside none =
    let after : Bearing = record { rows = fold (rows_after t p.g p.sec) rows p.items; moving = moving; gen = gen; below = n } in
    subst (λ z. IsLater x z after) (sym same) (record {
      held = λ at held k. whole_held x (at k) (list_any (is_moving k x) moving) (find (λ (r : Row). r.id == k) (fold (rows_after t p.g p.sec) rows p.items)) (aside_rows t x p.g p.sec at p.items rows k aside (held k));
      moved = λ at r is. none_moves x after at none r;
      below = omega arith;
    })

-- ---- a plan for a node that has none of its anchors

free_item : (x : Node) (sec : Option Node) (rows : List Row) (at : Views) → is_secondary x ≡ true → is_at x sec ≡ false → ArePlaced sec rows → (i : Item) → IsOfRow rows i → misses x at i ≡ false
free_item x sec rows at second apart placed (item.Set id n first shape threshold policy key None) is = refl
free_item x sec rows at second apart placed (item.Set id n first shape threshold policy key (Some old)) is = by (is_same_node old x) refl
  where
    placed_there : (y : Node) → is_secondary y ≡ true → IsPlaced sec y → is_at y sec ≡ true
    placed_there T s p = absurd cc
    placed_there M s p = absurd cc
    placed_there A s p = p
    placed_there B s p = p

    of_row : (o : Option Row) → IsPlacedRow sec o → IsRowOf old n first o → IsPlaced sec old
    of_row None p is = absurd is
    of_row (Some r) p is = subst (IsPlaced sec) is.0 p.0

    by : (b : Bool) → is_same_node old x ≡ b → (b && not (holds_like n first (at id))) ≡ false
    by false other = refl
    by true mine = never (is_at x sec) (placed_there x second (subst (IsPlaced sec) (same_node old x mine) (of_row (find (λ (r : Row). r.id == id) rows) (placed id) is))) apart
free_item x sec rows at second apart placed (item.Unset id) is = refl

free_items : (x : Node) (sec : Option Node) (rows : List Row) (at : Views) → is_secondary x ≡ true → is_at x sec ≡ false → ArePlaced sec rows → (items : List Item) → AllByRecursion (IsOfRow rows) items → list_any (misses x at) items ≡ false
free_items x sec rows at second apart placed [] all = refl
free_items x sec rows at second apart placed (i ∷ items) all = ap (λ b. b || list_any (misses x at) items) (free_item x sec rows at second apart placed i all.0) ∙ free_items x sec rows at second apart placed items all.1

pub free_plan : (x : Node) (sec : Option Node) (rows : List Row) (p : Plan) → is_secondary x ≡ true → is_at x sec ≡ false → ArePlaced sec rows → AllByRecursion (IsOfRow rows) p.items → (at : Views) → fits_plan x at (Some p) ≡ true
free_plan x sec rows p second apart placed all at = ap not (free_items x sec rows at second apart placed p.items all)
