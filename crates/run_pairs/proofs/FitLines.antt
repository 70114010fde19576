-- Records that fit the bearers of a secondary node: they fit still where it keeps what it holds, and more may come behind them.
use Rattle.std.proofs.Common.{ℕ, ◌≡◌, ◌++◌, ◌==◌, Bool, true, false, List, [], ◌∷◌, Option, Some, None, refl, ap, ◌∙◌, inl, inr}
use Rattle.std.specs.Prelude.{not, ◌&&◌, ◌||◌, ◌⊎◌}
use Rattle.std.specs.List.{AllByRecursion, list_any}
use Rattle.dc_base.specs.Count.{bits}
use Rattle.dc_base.specs.Nodes.{is_same_node}
use Rattle.dc_base.specs.declared.nodes.Node.{Node}
use Rattle.dc_base.specs.declared.numbers.SnLen.{SnLen}
use Rattle.dc_base.specs.declared.records.Item.{Item}
use Rattle.dc_base.specs.declared.records.Item.TheVariants as item
use Rattle.dc_base.specs.declared.records.Plan.{Plan}
use Rattle.dc_base.specs.declared.records.Rec.{Rec}
use Rattle.transcript.proofs.OnEach.{each_append}
use Rattle.node_rules.specs.SecondStep.{plan_in, recovery_in}
use Rattle.run_control.specs.SecondControl.{Views, fits, fits_plan, fits_recovery, holds_like, holds_like_at, holds_there, is_holding, misses}
use Rattle.run_control.specs.Views.{Bearer, Stage, View, has_status, holds, lacks_status}
use Rattle.run_control.proofs.Turns.{never, not_is, or_first, or_later}
use Rattle.run_pairs.specs.Bearers.{IsFitLine, IsFree, KeepsAll, KeepsHeld, is_alike, is_mover}

-- ---- a bearer that is held

held_at : (k : Stage) (n : SnLen) (first : ℕ) (b : Bearer) → holds_like_at k n first b ≡ true → (((bits b.n == bits n) && (b.first == first)) ≡ true) × (is_holding k ≡ true)
held_at holds n first b is = (is, refl)
held_at lacks_status n first b is = absurd cc
held_at has_status n first b is = absurd cc

-- it is of the SN length and first COUNT, and held
pub held_both : (n : SnLen) (first : ℕ) (o : Option View) → holds_like n first o ≡ true → (is_alike n first o ≡ true) × (holds_there o ≡ true)
held_both n first None is = absurd cc
held_both n first (Some v) is = held_at v.stage n first v.bearer is

like_at : (k : Stage) (n : SnLen) (first : ℕ) (b : Bearer) → ((bits b.n == bits n) && (b.first == first)) ≡ true → is_holding k ≡ true → holds_like_at k n first b ≡ true
like_at holds n first b alike held = alike
like_at lacks_status n first b alike held = absurd cc
like_at has_status n first b alike held = absurd cc

pub both_held : (n : SnLen) (first : ℕ) (o : Option View) → is_alike n first o ≡ true → holds_there o ≡ true → holds_like n first o ≡ true
both_held n first None alike held = absurd cc
both_held n first (Some v) alike held = like_at v.stage n first v.bearer alike held

like_kept : (n : SnLen) (first : ℕ) (o p : Option View) → KeepsHeld o p → holds_like n first o ≡ true → holds_like n first p ≡ true
like_kept n first o p kept is = let both = held_both n first o is in both_held n first p (kept.0 n first both.0) (kept.1 both.1)

-- ---- a record

and_right : (b d d' : Bool) → (d ≡ true → d' ≡ true) → (b && not d) ≡ false → (b && not d') ≡ false
and_right true true d' so is = ap not (so refl)
and_right true false d' so is = absurd cc
and_right false d d' so is = refl

misses_kept : (x : Node) (views views' : Views) → KeepsAll views views' → (i : Item) → misses x views i ≡ false → misses x views' i ≡ false
misses_kept x views views' kept (item.Set id n first shape threshold policy key None) is = refl
misses_kept x views views' kept (item.Set id n first shape threshold policy key (Some old)) is =
    and_right (is_same_node old x) (holds_like n first (views id)) (holds_like n first (views' id)) (like_kept n first (views id) (views' id) (kept id)) is
misses_kept x views views' kept (item.Unset id) is = refl

none_kept : {X : Type 0} (f g : X → Bool) → ((y : X) → f y ≡ false → g y ≡ false) → (ys : List X) → list_any f ys ≡ false → list_any g ys ≡ false
none_kept f g so [] none = refl
none_kept f g so (y ∷ ys) none = ap (λ b. b || list_any g ys) (so y (or_first (f y) (list_any f ys) none)) ∙ none_kept f g so ys (or_later (f y) (list_any f ys) none)

plan_kept : (x : Node) (views views' : Views) → KeepsAll views views' → (o : Option Plan) → fits_plan x views o ≡ true → fits_plan x views' o ≡ true
plan_kept x views views' kept None is = refl
plan_kept x views views' kept (Some p) is = ap not (none_kept (misses x views) (misses x views') (misses_kept x views views' kept) p.items (not_is (list_any (misses x views) p.items) is))

recovery_kept : (views views' : Views) → KeepsAll views views' → (o : Option ℕ) → fits_recovery views o ≡ true → fits_recovery views' o ≡ true
recovery_kept views views' kept None is = refl
recovery_kept views views' kept (Some id) is = (kept id).1 is

pub both_are : (b d : Bool) → (b && d) ≡ true → (b ≡ true) × (d ≡ true)
both_are true true is = (refl, refl)
both_are true false is = absurd cc
both_are false d is = absurd cc

-- a record that fits does so still
pub fits_kept : (x : Node) (views views' : Views) → KeepsAll views views' → (r : Rec) → fits x views r ≡ true → fits x views' r ≡ true
fits_kept x views views' kept r is =
    let both = both_are (fits_plan x views (plan_in r)) (fits_recovery views (recovery_in r)) is in
    ap (λ b. b && fits_recovery views' (recovery_in r)) (plan_kept x views views' kept (plan_in r) both.0) ∙ recovery_kept views views' kept (recovery_in r) both.1

-- ---- a line

-- each record of a line does
pub line_kept : (x : Node) (views views' : Views) → KeepsAll views views' → (down : List Rec) → IsFitLine x views down → IsFitLine x views' down
line_kept x views views' kept [] line = tt
line_kept x views views' kept (r ∷ q) line = (fits_kept x views views' kept r line.0, line.1, line_kept x views views' kept q line.2)

-- a line of records that fit whatever is held
pub free_line : (x : Node) (views : Views) (down : List Rec) → AllByRecursion (IsFree x) down → IsFitLine x views down
free_line x views [] all = tt
free_line x views (r ∷ q) all = (all.0 views, λ moves. all.1, free_line x views q all.1)

-- behind what may change what is held the line fits whatever that is
pub moved_line : (x : Node) (views views' : Views) (r : Rec) (q : List Rec) → is_mover r ≡ true → IsFitLine x views (r ∷ q) → IsFitLine x views' q
moved_line x views views' r q moves line = free_line x views' q (line.1 moves)

-- one more record: it fits whatever is held, or it fits what is held and nothing on the line may change that
pub line_append : (x : Node) (views : Views) (down : List Rec) (r : Rec) → (IsFree x r) ⊎ ((fits x views r ≡ true) × AllByRecursion (λ z. is_mover z ≡ false) down) → IsFitLine x views down → IsFitLine x views (down ++ r ∷ [])
line_append x views [] r (inl free) line = (free views, λ moves. tt, tt)
line_append x views [] r (inr now) line = (now.0, λ moves. tt, tt)
line_append x views (z ∷ q) r (inl free) line = (line.0, λ moves. each_append (IsFree x) q (r ∷ []) (line.1 moves) (free, tt), line_append x views q r (inl free) line.2)
line_append x views (z ∷ q) r (inr now) line = (line.0, λ moves. never (is_mover z) moves now.1.0, line_append x views q r (inr (now.0, now.1.1)) line.2)
