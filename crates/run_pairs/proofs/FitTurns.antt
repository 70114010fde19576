-- The bearers of a secondary node beside its lines, as the node takes what comes first and as it acts on its own.
use Rattle.std.proofs.Common.{ℕ, ◌≡◌, ◌≤◌, ◌<◌, ◌+◌, ◌++◌, ◌==◌, Bool, true, false, List, [], ◌∷◌, Option, Some, None, refl, sym, ap, subst, ◌∙◌, arith}
use Rattle.std.specs.Prelude.{find, fold, ◌&&◌, ◌||◌}
use Rattle.std.specs.List.{AllByRecursion, list_any}
use Rattle.std.proofs.lemmas.List.{append-nil}
use Rattle.dc_base.specs.Nodes.{is_same_node, is_secondary}
use Rattle.dc_base.specs.declared.nodes.Node.{Node}
use Rattle.dc_base.specs.declared.nodes.Want.{Want}
use Rattle.dc_base.specs.declared.records.Plan.{Plan}
use Rattle.dc_base.specs.declared.records.Rec.{Rec}
use Rattle.dc_base.specs.declared.records.Rec.TheVariants as rec
use Rattle.transcript.proofs.OnEach.{each_append, each_weaker}
use Rattle.node_rules.specs.CommandTable.{Table, rows_after}
use Rattle.node_rules.specs.MasterGo.{moving_by}
use Rattle.node_rules.specs.MasterRecords.{is_moving}
use Rattle.node_rules.specs.MasterState.{MasterProc}
use Rattle.node_rules.specs.Places.{is_at}
use Rattle.node_rules.specs.declared.commands.Command.{Command}
use Rattle.node_rules.specs.declared.commands.Command.TheVariants.{Asked as asked, Gone as gone, Recovering as recovering}
use Rattle.node_rules.specs.declared.commands.First.{First}
use Rattle.node_rules.specs.declared.commands.Membership.{Membership}
use Rattle.node_rules.specs.declared.commands.Membership.TheVariants.{Joined as joined}
use Rattle.node_rules.specs.declared.commands.Row.{Row}
use Rattle.run_control.specs.Claims.{Stand, agrees, asks, goes_on, membership_by, membership_if, refuses, rests}
use Rattle.run_control.specs.Rows.{Reads, is_request, membership_after, wanted_after}
use Rattle.run_control.specs.SecondControl.{Views, bare_record, fits, holds_there}
use Rattle.std.specs.Prelude.{filter, if◌then◌else◌, not}
use Rattle.std.proofs.lemmas.Bool.{eqb-true}
use Rattle.run_control.specs.Views.{View}
use Rattle.run_control.proofs.Turns.{never}
use Rattle.run_pairs.specs.Apt.{ArePlaced, IsApt, IsAptCommand, IsPlaced, IsPlacedRow}
use Rattle.run_pairs.specs.Bearers.{AreHeld, IsHeldAt, KeepsAll, is_mover}
use Rattle.run_pairs.specs.Fits.{AreFitting, Bearing, IsMovedBelow, IsMovedHeld, IsPlanBelow, IsViewBelow, bearing_by, moving_in}
use Rattle.run_pairs.specs.Pairs.{IsLineOf, is_notice}
use Rattle.run_pairs.proofs.ActKinds.{IsUnmoved}
use Rattle.run_pairs.proofs.Adoptions.{IsSaid, unmoved_said}
use Rattle.run_pairs.proofs.BearersServed.{held_kept}
use Rattle.run_pairs.proofs.FitLines.{line_kept, moved_line}
use Rattle.run_pairs.proofs.FitSteps.{fits_on, later_bound, mover_leaves, moved_below, never_joins, none_moves, plan_below}
use Rattle.run_pairs.proofs.Replies.{same_node}
use Rattle.run_pairs.proofs.Taking.{placed_at}

-- ---- one record less

-- the master takes what comes first to it
pub fits_rest : (x : Node) (b : Bearing) (at : Views) (down : List Rec) (r : Rec) (up : List Rec) → AreFitting x b at down (r ∷ up) → AreFitting x b at down up
fits_rest x b at down r up fit = record { line = fit.line; held = fit.held; moved = fit.moved.1; up_below = fit.up_below.1; at_below = fit.at_below; down_below = fit.down_below }

-- the node takes what comes first to it
pub fits_taken : (x : Node) (b : Bearing) (at : Views) (r : Rec) (down up : List Rec) → AreFitting x b at (r ∷ down) up → AreFitting x b at down up
fits_taken x b at r down up fit = record { line = fit.line.2; held = fit.held; moved = fit.moved; up_below = fit.up_below; at_below = fit.at_below; down_below = fit.down_below.1 }

-- ---- the node keeps what it holds

-- what was told of adoptions stays so, where the node keeps what it holds
pub moved_kept : (x : Node) (b : Bearing) (at at' : Views) → KeepsAll at at' → (r : Rec) → IsMovedHeld x b at r → IsMovedHeld x b at' r
moved_kept x b at at' keeps (rec.Reconf plan key) is = tt
moved_kept x b at at' keeps (rec.Rcomp g) is = tt
moved_kept x b at at' keeps (rec.Scgf failed) is = tt
moved_kept x b at at' keeps (rec.Recov id) is = tt
moved_kept x b at at' keeps (rec.Recovd id) is = tt
moved_kept x b at at' keeps (rec.Addreq plan key) is = tt
moved_kept x b at at' keeps (rec.Addack g) is = tt
moved_kept x b at at' keeps (rec.Addrej g) is = tt
moved_kept x b at at' keeps (rec.Modreq plan key) is = tt
moved_kept x b at at' keeps (rec.Modack g) is = tt
moved_kept x b at at' keeps (rec.Modrej g) is = tt
moved_kept x b at at' keeps (rec.Recfg g) is = tt
moved_kept x b at at' keeps (rec.Relreq plan) is = tt
moved_kept x b at at' keeps (rec.Relack g) is = tt
moved_kept x b at at' keeps (rec.Relrej g) is = tt
moved_kept x b at at' keeps (rec.Uecr g) is = tt
moved_kept x b at at' keeps (rec.Snst status) is = tt
moved_kept x b at at' keeps (rec.Moved g id) is = λ same moves. (keeps id).1 (is same moves)
moved_kept x b at at' keeps (rec.Scgn id g) is = tt
moved_kept x b at at' keeps rec.Modrqd is = tt
moved_kept x b at at' keeps (rec.Modcnf g) is = tt
moved_kept x b at at' keeps (rec.Modref word) is = tt
moved_kept x b at at' keeps rec.Chgrqd is = tt
moved_kept x b at at' keeps (rec.Chgcnf plan) is = tt
moved_kept x b at at' keeps (rec.Chgref word) is = tt
moved_kept x b at at' keeps rec.Relrqd is = tt
moved_kept x b at at' keeps (rec.Relcnf plan) is = tt

-- and tells of adoptions of what it holds
pub fits_kept : (x : Node) (b : Bearing) (at at' : Views) (down up more : List Rec) → KeepsAll at at' → ((k : ℕ) → IsViewBelow b.below (at' k)) → AllByRecursion (IsSaid x b at') more → AreFitting x b at down up → AreFitting x b at' down (up ++ more)
fits_kept x b at at' down up more keeps below said fit = record {
  line = line_kept x at at' keeps down fit.line;
  held = held_kept x at at' b.moving b.rows keeps fit.held;
  moved = each_append (IsMovedHeld x b at') up more (each_weaker (IsMovedHeld x b at) (IsMovedHeld x b at') (moved_kept x b at at' keeps) up fit.moved) (each_weaker (IsSaid x b at') (IsMovedHeld x b at') (λ r is. is.0) more said);
  up_below = each_append (IsMovedBelow b.below) up more fit.up_below (each_weaker (IsSaid x b at') (IsMovedBelow b.below) (λ r is. is.1) more said);
  at_below = below;
  down_below = fit.down_below;
}

-- ---- the node leaves

each_every : {X : Type 0} (P : X → Type 0) → ((y : X) → P y) → (ys : List X) → AllByRecursion P ys
each_every P so [] = tt
each_every P so (y ∷ ys) = (so y, each_every P so ys)

-- nothing is to be held there, and nothing moves there
pub fits_left : (x : Node) (b : Bearing) (at at' : Views) (r : Rec) (down up more : List Rec) → is_mover r ≡ true → AreHeld x at' b.moving b.rows → ((id : ℕ) → list_any (is_moving id x) b.moving ≡ false) → ((k : ℕ) → IsViewBelow b.below (at' k))
    → AllByRecursion IsUnmoved more → AreFitting x b at (r ∷ down) up → AreFitting x b at' down (up ++ more)
fits_left x b at at' r down up more moves held none below said fit = record {
  line = moved_line x at at' r down moves fit.line;
  held = held;
  moved = each_every (IsMovedHeld x b at') (none_moves x b at' none) (up ++ more);
  up_below = each_append (IsMovedBelow b.below) up more fit.up_below (each_weaker IsUnmoved (IsMovedBelow b.below) (λ z is. (unmoved_said x b at' z is).1) more said);
  at_below = below;
  down_below = fit.down_below.1;
}

-- ---- the node agrees to a plan, or rejects it

not_less : (m n : ℕ) → m < n → m ≡ n → ⊥
not_less m n lt e = omega (arith, lt, e)

-- what was told of adoptions was of older generations
older_moved : (x : Node) (b : Bearing) (at : Views) (r : Rec) → IsMovedBelow b.gen r → IsMovedHeld x b at r
older_moved x b at (rec.Reconf plan key) is = tt
older_moved x b at (rec.Rcomp g) is = tt
older_moved x b at (rec.Scgf failed) is = tt
older_moved x b at (rec.Recov id) is = tt
older_moved x b at (rec.Recovd id) is = tt
older_moved x b at (rec.Addreq plan key) is = tt
older_moved x b at (rec.Addack g) is = tt
older_moved x b at (rec.Addrej g) is = tt
older_moved x b at (rec.Modreq plan key) is = tt
older_moved x b at (rec.Modack g) is = tt
older_moved x b at (rec.Modrej g) is = tt
older_moved x b at (rec.Recfg g) is = tt
older_moved x b at (rec.Relreq plan) is = tt
older_moved x b at (rec.Relack g) is = tt
older_moved x b at (rec.Relrej g) is = tt
older_moved x b at (rec.Uecr g) is = tt
older_moved x b at (rec.Snst status) is = tt
older_moved x b at (rec.Moved g id) is = λ same. absurd (not_less g b.gen is same)
older_moved x b at (rec.Scgn id g) is = tt
older_moved x b at rec.Modrqd is = tt
older_moved x b at (rec.Modcnf g) is = tt
older_moved x b at (rec.Modref word) is = tt
older_moved x b at rec.Chgrqd is = tt
older_moved x b at (rec.Chgcnf plan) is = tt
older_moved x b at (rec.Chgref word) is = tt
older_moved x b at rec.Relrqd is = tt
older_moved x b at (rec.Relcnf plan) is = tt

le_next : (g last : ℕ) → g ≡ last → g ≤ last + 1
le_next g last e = omega (arith, e)

-- the node agreed: it has what the table is to have
pub fits_agreed : (x : Node) (m : MasterProc) (c : Option Command) (f : First) (p : Plan) (at at' : Views) (r : Rec) (down up more : List Rec) → is_mover r ≡ true → p.g ≡ m.table.last
    → AreHeld x at' (moving_by p) (fold (rows_after m.table p.g p.sec) m.table.rows p.items) → ((k : ℕ) → IsViewBelow (m.table.last + 1) (at' k)) → AllByRecursion IsUnmoved more
    → AreFitting x (bearing_by m c (asks f p)) at (r ∷ down) up → AreFitting x (bearing_by m c (agrees f p)) at' down (up ++ more)
fits_agreed x m c f p at at' r down up more moves last held below said fit =
    let b : Bearing = bearing_by m c (agrees f p) in
    record {
      line = moved_line x at at' r down moves fit.line;
      held = held;
      moved = each_append (IsMovedHeld x b at') up more (each_weaker (IsMovedBelow p.g) (IsMovedHeld x b at') (older_moved x b at') up fit.up_below) (each_weaker IsUnmoved (IsMovedHeld x b at') (λ z is. (unmoved_said x b at' z is).0) more said);
      up_below = each_append (IsMovedBelow (m.table.last + 1)) up more (each_weaker (IsMovedBelow p.g) (IsMovedBelow (m.table.last + 1)) (moved_below p.g (m.table.last + 1) (le_next p.g m.table.last last)) up fit.up_below)
          (each_weaker IsUnmoved (IsMovedBelow (m.table.last + 1)) (λ z is. (unmoved_said x b at' z is).1) more said);
      at_below = below;
      down_below = each_weaker (IsPlanBelow p.g) (IsPlanBelow (m.table.last + 1)) (plan_below p.g (m.table.last + 1) (le_next p.g m.table.last last)) down fit.down_below.1;
    }

-- the node rejected: it has what the table has
pub fits_refused : (x : Node) (m : MasterProc) (c : Option Command) (f : First) (p : Plan) (at : Views) (down up : List Rec) → p.g ≡ m.table.last → AreFitting x (bearing_by m c (asks f p)) at down up → AreFitting x (bearing_by m c (refuses f p)) at down up
fits_refused x m c f p at down up last fit =
    subst (λ ds. AreFitting x (bearing_by m c (refuses f p)) at ds up) (append-nil down)
    (fits_on x (bearing_by m c (asks f p)) (bearing_by m c (refuses f p)) [] (later_bound x (bearing_by m c (asks f p)) (m.table.last + 1) (le_next p.g m.table.last last)) tt at down up fit)

-- ---- a node that is not the secondary node

module _ (x : Node) (second : is_secondary x ≡ true) (sec : Option Node) (apart : is_at x sec ≡ false) where
  not_placed : (y : Node) → is_same_node x y ≡ true → IsPlaced sec y → ⊥
  not_placed y here placed = never (is_at x sec) (placed_at x sec second (subst (IsPlaced sec) (sym (same_node x y here)) placed)) apart

  apart_row : (v : Option View) (moving : Bool) (o : Option Row) → IsPlacedRow sec o → IsHeldAt x v moving o
  apart_row v moving None placed = tt
  apart_row v moving (Some r) placed = λ here. absurd (not_placed r.anchor here placed.0)

  -- is to hold nothing
  pub apart_held : (rows : List Row) (at : Views) (moving : List (ℕ × Node)) → ArePlaced sec rows → AreHeld x at moving rows
  apart_held rows at moving placed k = apart_row (at k) (list_any (is_moving k x) moving) (find (λ (r : Row). r.id == k) rows) (placed k)

  -- and nothing moves there
  pub apart_moving : (zs : List (ℕ × Node)) → AllByRecursion (λ (z : ℕ × Node). IsPlaced sec z.1) zs → (id : ℕ) → list_any (is_moving id x) zs ≡ false
  apart_moving [] all id = refl
  apart_moving (z ∷ zs) all id = ap (λ b. b || list_any (is_moving id x) zs) (by (is_same_node x z.1) refl) ∙ apart_moving zs all.1 id
    where
      and_no : (b : Bool) → (b && false) ≡ false
      and_no true = refl
      and_no false = refl

      by : (b : Bool) → is_same_node x z.1 ≡ b → ((z.0 == id) && is_same_node x z.1) ≡ false
      by true here = absurd (not_placed z.1 here all.0)
      by false other = ap (λ c. (z.0 == id) && c) other ∙ and_no (z.0 == id)

-- ---- by a record it leaves

notice_still : (r : Rec) → is_notice r ≡ true → is_mover r ≡ false
notice_still (rec.Reconf plan key) is = absurd cc
notice_still (rec.Rcomp g) is = absurd cc
notice_still (rec.Scgf failed) is = absurd cc
notice_still (rec.Recov id) is = absurd cc
notice_still (rec.Recovd id) is = absurd cc
notice_still (rec.Addreq plan key) is = absurd cc
notice_still (rec.Addack g) is = absurd cc
notice_still (rec.Addrej g) is = absurd cc
notice_still (rec.Modreq plan key) is = absurd cc
notice_still (rec.Modack g) is = absurd cc
notice_still (rec.Modrej g) is = absurd cc
notice_still (rec.Recfg g) is = absurd cc
notice_still (rec.Relreq plan) is = absurd cc
notice_still (rec.Relack g) is = absurd cc
notice_still (rec.Relrej g) is = absurd cc
notice_still (rec.Uecr g) is = absurd cc
notice_still (rec.Snst status) is = absurd cc
notice_still (rec.Moved g id) is = absurd cc
notice_still (rec.Scgn id g) is = refl
notice_still rec.Modrqd is = absurd cc
notice_still (rec.Modcnf g) is = absurd cc
notice_still (rec.Modref word) is = refl
notice_still rec.Chgrqd is = absurd cc
notice_still (rec.Chgcnf plan) is = absurd cc
notice_still (rec.Chgref word) is = refl
notice_still rec.Relrqd is = absurd cc
notice_still (rec.Relcnf plan) is = absurd cc

moving_placed_in : (t : Table) (o : Option Command) → IsAptCommand t o → AllByRecursion (λ (z : ℕ × Node). IsPlaced t.sec z.1) (moving_in o)
moving_placed_in t None apt = tt
moving_placed_in t (Some (asked c first who wanted)) apt = tt
moving_placed_in t (Some (gone plan going)) apt = apt.1.moving
moving_placed_in t (Some (recovering id terminal o)) apt = tt

module _ (x : Node) (second : is_secondary x ≡ true) (m : MasterProc) (apt : IsApt m) (mem : Membership) (w w' : Option Want) (r : Rec) (down : List Rec) (plain : is_request r ≡ false) (moves : is_mover r ≡ true) where
  -- it is not the secondary node
  leaves_apart : (f : Bool → Membership) → f true ≡ joined → Reads mem w (r ∷ down) (f (is_at x m.table.sec)) w' → is_at x m.table.sec ≡ false
  leaves_apart f there reads = by (is_at x m.table.sec) refl
    where
      by : (b : Bool) → is_at x m.table.sec ≡ b → b ≡ false
      by false apart = refl
      by true here = absurd (never_joins (membership_after r mem) (wanted_after r w) down w' (mover_leaves mem r plain moves) (subst (λ n. Reads (membership_after r mem) (wanted_after r w) down n w') (ap f here ∙ there) reads.1))

  -- so nothing is to be held there, and nothing moves there
  pub leaves_held : (s : Stand) → IsLineOf s (r ∷ down) → Reads mem w (r ∷ down) (membership_by (is_at x m.table.sec) s) w' → (at : Views)
      → AreHeld x at (bearing_by m m.command s).moving (bearing_by m m.command s).rows × ((id : ℕ) → list_any (is_moving id x) (bearing_by m m.command s).moving ≡ false)
  leaves_held rests line reads at =
      let apart = leaves_apart membership_if refl reads in
      (apart_held x second m.table.sec apart m.table.rows at (moving_in m.command) apt.rows, apart_moving x second m.table.sec apart (moving_in m.command) (moving_placed_in m.table m.command apt.command))
  leaves_held (asks f p) line reads at = let apart = leaves_apart membership_if refl reads in (apart_held x second m.table.sec apart m.table.rows at [] apt.rows, λ id. refl)
  leaves_held (refuses f p) line reads at = absurd (never (is_mover r) moves (notice_still r line.0))
  leaves_held (agrees f p) line reads at = absurd (never (is_mover r) moves (notice_still r line.0))
  leaves_held (goes_on l) line reads at =
      let apart = leaves_apart (λ b. membership_by b (goes_on l)) refl reads in
      (apart_held x second m.table.sec apart m.table.rows at (moving_in m.command) apt.rows, apart_moving x second m.table.sec apart (moving_in m.command) (moving_placed_in m.table m.command apt.command))

-- ---- records without what they say of the traffic

-- a record fits by what it does not say of the traffic
pub bare_fits : (x : Node) (views : Views) (r : Rec) → fits x views (bare_record r) ≡ true → fits x views r ≡ true
bare_fits x views (rec.Reconf plan key) is = is
bare_fits x views (rec.Rcomp g) is = is
bare_fits x views (rec.Scgf failed) is = is
bare_fits x views (rec.Recov id) is = is
bare_fits x views (rec.Recovd id) is = is
bare_fits x views (rec.Addreq plan key) is = is
bare_fits x views (rec.Addack g) is = is
bare_fits x views (rec.Addrej g) is = is
bare_fits x views (rec.Modreq plan key) is = is
bare_fits x views (rec.Modack g) is = is
bare_fits x views (rec.Modrej g) is = is
bare_fits x views (rec.Recfg g) is = is
bare_fits x views (rec.Relreq plan) is = is
bare_fits x views (rec.Relack g) is = is
bare_fits x views (rec.Relrej g) is = is
bare_fits x views (rec.Uecr g) is = is
bare_fits x views (rec.Snst status) is = is
bare_fits x views (rec.Moved g id) is = is
bare_fits x views (rec.Scgn id g) is = is
bare_fits x views rec.Modrqd is = is
bare_fits x views (rec.Modcnf g) is = is
bare_fits x views (rec.Modref word) is = is
bare_fits x views rec.Chgrqd is = is
bare_fits x views (rec.Chgcnf plan) is = is
bare_fits x views (rec.Chgref word) is = is
bare_fits x views rec.Relrqd is = is
bare_fits x views (rec.Relcnf plan) is = is

-- ---- an adoption that the master hears of

held_sure : (x : Node) (v : Option View) (moving moving' : Bool) (o : Option Row) → holds_there v ≡ true → IsHeldAt x v moving o → IsHeldAt x v moving' o
held_sure x v moving moving' None sure held = tt
held_sure x v moving moving' (Some r) sure held = λ here. ((held here).0, λ still. sure)

-- other bearers move as before
other_moves : (x : Node) (id k : ℕ) → (id == k) ≡ false → (zs : List (ℕ × Node)) → list_any (is_moving k x) (filter (λ z. not (is_moving id x z)) zs) ≡ list_any (is_moving k x) zs
other_moves x id k apart [] = refl
other_moves x id k apart (z ∷ zs) = by (is_moving id x z) refl (other_moves x id k apart zs)
  where
    left_of : (b d : Bool) → (b && d) ≡ true → b ≡ true
    left_of true d is = refl
    left_of false d is = absurd cc

    not_mine : is_moving id x z ≡ true → is_moving k x z ≡ false
    not_mine moves = ap (λ n. (n == k) && is_same_node x z.1) (eqb-true z.0 id (left_of (z.0 == id) (is_same_node x z.1) moves)) ∙ ap (λ b. b && is_same_node x z.1) apart

    by : (b : Bool) → is_moving id x z ≡ b → list_any (is_moving k x) (filter (λ z. not (is_moving id x z)) zs) ≡ list_any (is_moving k x) zs
        → list_any (is_moving k x) (if not b then z ∷ filter (λ z. not (is_moving id x z)) zs else filter (λ z. not (is_moving id x z)) zs) ≡ (is_moving k x z || list_any (is_moving k x) zs)
    by true moves rest = rest ∙ sym (ap (λ b. b || list_any (is_moving k x) zs) (not_mine moves))
    by false stays rest = ap (λ b. is_moving k x z || b) rest

module _ (x : Node) (rows : List Row) (zs : List (ℕ × Node)) (gen n id : ℕ) (at : Views) (sure : holds_there (at id) ≡ true) where
  -- what is said of the bearers before, and after
  abbrev moving_bearing : List (ℕ × Node) → Bearing
  moving_bearing ys = record { rows = rows; moving = ys; gen = gen; below = n }

  abbrev fewer : List (ℕ × Node)
  fewer = filter (λ z. not (is_moving id x z)) zs

  adopted_held : AreHeld x at zs rows → AreHeld x at fewer rows
  adopted_held held k = by (id == k) refl
    where
      by : (b : Bool) → (id == k) ≡ b → IsHeldAt x (at k) (list_any (is_moving k x) fewer) (find (λ (r : Row). r.id == k) rows)
      by true here =
          held_sure x (at k) (list_any (is_moving k x) zs) (list_any (is_moving k x) fewer) (find (λ (r : Row). r.id == k) rows) (subst (λ j. holds_there (at j) ≡ true) (eqb-true id k here) sure) (held k)
      by false apart = subst (λ b. IsHeldAt x (at k) b (find (λ (r : Row). r.id == k) rows)) (sym (other_moves x id k apart zs)) (held k)

  moved_one : (g k : ℕ) → IsMovedHeld x (moving_bearing zs) at (rec.Moved g k) → IsMovedHeld x (moving_bearing fewer) at (rec.Moved g k)
  moved_one g k is = λ same moves. by (id == k) refl same moves
    where
      by : (b : Bool) → (id == k) ≡ b → g ≡ gen → list_any (is_moving k x) fewer ≡ true → holds_there (at k) ≡ true
      by true here same moves = subst (λ j. holds_there (at j) ≡ true) (eqb-true id k here) sure
      by false apart same moves = is same (sym (other_moves x id k apart zs) ∙ moves)

  adopted_moved : (r : Rec) → IsMovedHeld x (moving_bearing zs) at r → IsMovedHeld x (moving_bearing fewer) at r
  adopted_moved (rec.Reconf plan key) is = tt
  adopted_moved (rec.Rcomp g) is = tt
  adopted_moved (rec.Scgf failed) is = tt
  adopted_moved (rec.Recov id) is = tt
  adopted_moved (rec.Recovd id) is = tt
  adopted_moved (rec.Addreq plan key) is = tt
  adopted_moved (rec.Addack g) is = tt
  adopted_moved (rec.Addrej g) is = tt
  adopted_moved (rec.Modreq plan key) is = tt
  adopted_moved (rec.Modack g) is = tt
  adopted_moved (rec.Modrej g) is = tt
  adopted_moved (rec.Recfg g) is = tt
  adopted_moved (rec.Relreq plan) is = tt
  adopted_moved (rec.Relack g) is = tt
  adopted_moved (rec.Relrej g) is = tt
  adopted_moved (rec.Uecr g) is = tt
  adopted_moved (rec.Snst status) is = tt
  adopted_moved (rec.Moved g k) is = moved_one g k is
  adopted_moved (rec.Scgn id g) is = tt
  adopted_moved rec.Modrqd is = tt
  adopted_moved (rec.Modcnf g) is = tt
  adopted_moved (rec.Modref word) is = tt
  adopted_moved rec.Chgrqd is = tt
  adopted_moved (rec.Chgcnf plan) is = tt
  adopted_moved (rec.Chgref word) is = tt
  adopted_moved rec.Relrqd is = tt
  adopted_moved (rec.Relcnf plan) is = tt

  pub fits_adopted : (g : ℕ) (down up : List Rec) → AreFitting x (moving_bearing zs) at down (rec.Moved g id ∷ up) → AreFitting x (moving_bearing fewer) at down up
  fits_adopted g down up fit = record {
    line = fit.line;
    held = adopted_held fit.held;
    moved = each_weaker (IsMovedHeld x (moving_bearing zs) at) (IsMovedHeld x (moving_bearing fewer) at) adopted_moved up fit.moved.1;
    up_below = fit.up_below.1;
    at_below = fit.at_below;
    down_below = fit.down_below;
  }
