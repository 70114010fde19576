-- An anchor that becomes active at a secondary node by an item of a plan: the plan sets its bearer, whose latest establishment is no
-- later, and no other node has an active anchor of it.
use Rattle.std.proofs.Common.{ℕ, ◌≡◌, ◌≤◌, ◌+◌, ◌==◌, ◌∙◌, Bool, true, false, List, [], ◌∷◌, Option, Some, None, refl, sym, ap, subst, arith, inl, inr}
use Rattle.std.specs.List.{find, list_any}
use Rattle.std.specs.Option.{option_and_then}
use Rattle.std.specs.Prelude.{if◌then◌else◌, is_none, not, ◌&&◌, ◌||◌, ◌⊎◌}
use Rattle.std.proofs.lemmas.Bool.{eq-eqb}
use Rattle.std.proofs.lemmas.Option.{same_Some}
use Rattle.dc_base.specs.Nodes.{is_same_node, is_secondary}
use Rattle.dc_base.specs.Records.{item_id}
use Rattle.dc_base.specs.declared.nodes.KeyName.{KeyName}
use Rattle.dc_base.specs.declared.nodes.Node.{Node}
use Rattle.dc_base.specs.declared.nodes.Node.TheVariants.{A, B, M, T}
use Rattle.dc_base.specs.declared.nodes.Shape.{Shape}
use Rattle.dc_base.specs.declared.numbers.SnLen.{SnLen}
use Rattle.dc_base.specs.declared.records.Item.{Item}
use Rattle.dc_base.specs.declared.records.Item.TheVariants as item
use Rattle.dc_base.specs.declared.records.Plan.{Plan}
use Rattle.dc_base.specs.declared.records.Rec.{Rec}
use Rattle.dc_base.specs.declared.records.Rec.TheVariants as rec
use Rattle.node_rules.specs.MasterState.{MasterProc}
use Rattle.node_rules.specs.Parts.{moved_part, part_at}
use Rattle.node_rules.specs.Places.{anchor_at, is_at}
use Rattle.node_rules.specs.SecondStep.{plan_in, recovery_in}
use Rattle.node_rules.specs.World.{World}
use Rattle.node_rules.specs.declared.commands.Row.{Row}
use Rattle.node_rules.specs.declared.parts.Part.TheVariants.{Establishes as establishes, HasNoAnchor as has_no_anchor}
use Rattle.claims.specs.Past.{Past}
use Rattle.claims.specs.Reading.{Setting, setting, setting_of, sets}
use Rattle.run_control.proofs.Records.{bare_records}
use Rattle.run_control.proofs.Turns.{never}
use Rattle.run_control.specs.Claims.{is_agreement, second_at}
use Rattle.run_control.specs.Links.{records_on}
use Rattle.run_control.specs.Rows.{is_request}
use Rattle.run_control.specs.SecondControl.{Views, bare_record, fits, fits_plan, fits_recovery, holds_like, holds_like_at, misses}
use Rattle.run_control.specs.Views.{Stage, View, has_status, holds, lacks_status, master_view, second_view}
use Rattle.run_pairs.proofs.Replies.{same_node}
use Rattle.run_pairs.proofs.Runs.{LinePaired}
use Rattle.run_pairs.specs.Bearers.{IsOfRow, IsRowOf}
use Rattle.run_places.proofs.ItemKinds.{anchor_second}
use Rattle.run_places.proofs.Runs.{IsWhole}
use Rattle.run_places.proofs.States.{IsPlanned, is_new as plan_new, course_of, item_in, proposed, row_in, set_before, state_of}
use Rattle.run_places.proofs.TurnLines.{AreApartAll, IsApart}
use Rattle.run_places.proofs.Whole.{There, agreed_by, rest_of, ups}
use Rattle.run_places.specs.Tokens.{kept_at, kept_by, statuses}
use Rattle.run_table.specs.View.{planned}
use Rattle.run_uplinks.specs.Uplinks.{AreSettings}
use Rattle.run_holders.specs.Owning.{SetsLatest}
use Rattle.run_holders.proofs.SecondWellAlways.{AreEstablished}
use Rattle.run_holders.proofs.SecondWellLatest.{IsAskedNow, IsEstablished, KindOfLast, asked_now, drops_one, kind_now, last_now, olds_now, planned_now, row_established, sets_new, sets_olds}
use Rattle.run_holders.proofs.SecondWellActs.{IsAmong, each_among, is_active_part}

-- ---- where a bearer is

-- how often it is held by the node, or on its way there
abbrev pub held_at : World → Node → ℕ → ℕ
held_at w x id = kept_by (second_view (second_at x w) id) + statuses id (bare_records (records_on M x w))

-- or anywhere
abbrev pub held_in_all : World → ℕ → ℕ
held_in_all w id =
    kept_by (master_view w.master id)
    + rest_of (second_view w.a) (second_view w.b) (bare_records (records_on M A w)) (bare_records (records_on A M w)) (bare_records (records_on M B w))
    (bare_records (records_on B M w)) id

-- the node alone has it, or is to have it; or no node
abbrev pub IsAlone : World → Node → ℕ → Type 0
IsAlone w x id = (1 ≤ held_at w x id) ⊎ (held_in_all w id ≤ 0)

-- whether the node that is asked has agreed
abbrev pub flag_in : World → Bool
flag_in w = agreed_by w.master.proc.command (ups (bare_records (records_on A M w)) (bare_records (records_on B M w)))

-- ---- items

among_one : (i j : Item) → IsAmong i (j ∷ []) → j ≡ i
among_one i j (inl here) = here
among_one i j (inr later) = absurd later

-- items of bearers that were there before are so each
olds_old : (from : ℕ) (items : List Item) (id : ℕ) (n : SnLen) (first : ℕ) (shape : Shape) (threshold policy : ℕ) (key : KeyName) → AreSettings from items
    → IsAmong (item.Set id n first shape threshold policy key None) items → ⊥
olds_old from [] id n first shape threshold policy key olds among = among
olds_old from (item.Set k n' first' shape' threshold' policy' key' None ∷ items) id n first shape threshold policy key olds among = olds
olds_old from (item.Set k n' first' shape' threshold' policy' key' (Some old) ∷ items) id n first shape threshold policy key olds (inl here) =
    differ (ap is_fresh here)
  where
    is_fresh : Item → Bool
    is_fresh (item.Set i a b s t o e None) = true
    is_fresh (item.Set i a b s t o e (Some x)) = false
    is_fresh (item.Unset i) = false

    differ : false ≡ true → ⊥
    differ e = absurd cc
olds_old from (item.Set k n' first' shape' threshold' policy' key' (Some old) ∷ items) id n first shape threshold policy key olds (inr later) =
    olds_old (k + 1) items id n first shape threshold policy key olds.1 later
olds_old from (item.Unset k ∷ items) id n first shape threshold policy key olds among = olds

-- what sets a bearer is found
found_set : (sec : Option Node) (items : List Item) (it : Item) → IsAmong it items → sets (item_id it) it ≡ true
    → (s : Setting) × (setting_of sec (find (sets (item_id it)) items) ≡ Some s)
found_set sec [] it among is = absurd among
found_set sec (j ∷ items) it among is = by (sets (item_id it) j) refl (λ later. found_set sec items it later is)
  where
    one : (j : Item) → sets (item_id it) j ≡ true → (s : Setting) × (setting_of sec (Some j) ≡ Some s)
    one (item.Set k n first shape threshold policy key old) here = (record { sec = sec; shape = shape; key = key; old = old }, refl)
    one (item.Unset k) here = absurd (let bad : false ≡ true = here in cc)

    by : (b : Bool) → sets (item_id it) j ≡ b → (IsAmong it items → (s : Setting) × (setting_of sec (find (sets (item_id it)) items) ≡ Some s))
        → (s : Setting) × (setting_of sec (if b then Some j else find (sets (item_id it)) items) ≡ Some s)
    by true here more = one j here
    by false other more = more (rest among)
      where
        rest : IsAmong it (j ∷ items) → IsAmong it items
        rest (inl same) = absurd (never (sets (item_id it) j) (subst (λ z. sets (item_id it) z ≡ true) (sym same) is) other)
        rest (inr later) = later

pub set_in_plan : (p : Past) (q : Plan) (it : Item) → planned p.plans q.g ≡ Some q → IsAmong it q.items → sets (item_id it) it ≡ true
    → (s : Setting) × (setting p (item_id it) q.g ≡ Some s)
set_in_plan p q it at among is =
    let found = found_set q.sec q.items it among is in
    (found.0, ap (λ (o : Option Plan). option_and_then (λ (z : Plan). setting_of z.sec (find (sets (item_id it)) z.items)) o) at ∙ found.1)

-- an item by which an anchor becomes active sets up a bearer that is new, or one that the node had
data ActiveItem (x : Node) (sec : Option Node) (it : Item) : Type 0 where
  is_new : (id : ℕ) → (n : SnLen) → (first : ℕ) → (shape : Shape) → (threshold : ℕ) → (policy : ℕ) → (key : KeyName)
      → (is : it ≡ item.Set id n first shape threshold policy key None) → (here : is_same_node x (anchor_at sec shape) ≡ true) → ActiveItem x sec it
  is_old : (id : ℕ) → (n : SnLen) → (first : ℕ) → (shape : Shape) → (threshold : ℕ) → (policy : ℕ) → (key : KeyName) → (old : Node)
      → (is : it ≡ item.Set id n first shape threshold policy key (Some old))
      → (before : is_same_node x old ≡ true) → (here : is_same_node x (anchor_at sec shape) ≡ true) → ActiveItem x sec it

active_item : (x : Node) (sec : Option Node) (it : Item) → is_active_part (part_at x sec it) ≡ true → ActiveItem x sec it
active_item x sec (item.Set id n first shape threshold policy key None) active =
    is_new id n first shape threshold policy key refl (by (is_same_node x (anchor_at sec shape)) active)
  where
    by : (b : Bool) → is_active_part (if b then establishes else has_no_anchor) ≡ true → b ≡ true
    by true e = refl
    by false e = e
active_item x sec (item.Set id n first shape threshold policy key (Some old)) active =
    let both = by (is_same_node x old) (is_same_node x (anchor_at sec shape)) active in is_old id n first shape threshold policy key old refl both.0 both.1
  where
    by : (b d : Bool) → is_active_part (moved_part (anchor_at sec shape) b d) ≡ true → (b ≡ true) × (d ≡ true)
    by true true e = (refl, refl)
    by true false e = absurd (let bad : false ≡ true = e in cc)
    by false true e = absurd (let bad : false ≡ true = e in cc)
    by false false e = absurd (let bad : false ≡ true = e in cc)
active_item x sec (item.Unset id) active = absurd (let bad : false ≡ true = active in cc)

-- at a secondary node, which is that of the plan
active_second : (x : Node) (sec : Option Node) (it : Item) → is_secondary x ≡ true → ActiveItem x sec it → is_at x sec ≡ true
active_second x sec it second (is_new id n first shape threshold policy key is here) =
    anchor_second x sec shape second (sym (same_node x (anchor_at sec shape) here))
active_second x sec it second (is_old id n first shape threshold policy key old is before here) =
    anchor_second x sec shape second (sym (same_node x (anchor_at sec shape) here))

-- a record that is no request tells the node of no plan with such an item
leave_of : (x : Node) (r : Rec) (p : Plan) → plan_in r ≡ Some p → is_request r ≡ false → IsApart x (bare_record r) → is_at x p.sec ≡ false
leave_of x (rec.Relreq q) p is plain (inl none) = absurd (never (is_none q.sec) (ap is_none none) plain)
leave_of x (rec.Relreq q) p is plain (inr leave) = subst (λ (z : Plan). is_at x z.sec ≡ false) (same_Some q p is) leave.0
leave_of x (rec.Chgcnf q) p is plain leave = subst (λ (z : Plan). is_at x z.sec ≡ false) (same_Some q p is) leave.0
leave_of x (rec.Relcnf q) p is plain leave = subst (λ (z : Plan). is_at x z.sec ≡ false) (same_Some q p is) leave.0
leave_of x (rec.Addreq q key) p is plain leave = absurd cc
leave_of x (rec.Modreq q key) p is plain leave = absurd cc
leave_of x r p is plain leave = absurd cc

-- ---- what fits is there

like_holds : (n : SnLen) (first : ℕ) (o : Option View) → holds_like n first o ≡ true → kept_by o ≡ 1
like_holds n first None is = absurd (let bad : false ≡ true = is in cc)
like_holds n first (Some v) is = by v.stage is
  where
    by : (k : Stage) → holds_like_at k n first v.bearer ≡ true → kept_at k ≡ 1
    by holds e = refl
    by lacks_status e = absurd (let bad : false ≡ true = e in cc)
    by has_status e = absurd (let bad : false ≡ true = e in cc)

none_misses : (x : Node) (views : Views) (items : List Item) (it : Item) → list_any (misses x views) items ≡ false → IsAmong it items
    → misses x views it ≡ false
none_misses x views [] it none among = absurd among
none_misses x views (j ∷ items) it none among = by (misses x views j) refl none among (λ none' later. none_misses x views items it none' later)
  where
    by : (b : Bool) → misses x views j ≡ b → (b || list_any (misses x views) items) ≡ false → IsAmong it (j ∷ items)
        → (list_any (misses x views) items ≡ false → IsAmong it items → misses x views it ≡ false) → misses x views it ≡ false
    by true is none' among' more = absurd (let bad : true ≡ false = none' in cc)
    by false is none' (inl here) more = subst (λ z. misses x views z ≡ false) here is
    by false is none' (inr later) more = more none' later

fit_items : (x : Node) (views : Views) (r : Rec) (q : Plan) → fits x views r ≡ true → plan_in r ≡ Some q → list_any (misses x views) q.items ≡ false
fit_items x views r q fit plan =
    by (list_any (misses x views) q.items) (fits_recovery views (recovery_in r))
    (sym (ap (λ (o : Option Plan). fits_plan x views o && fits_recovery views (recovery_in r)) plan) ∙ fit)
  where
    by : (b d : Bool) → (not b && d) ≡ true → b ≡ false
    by true d e = absurd (let bad : false ≡ true = e in cc)
    by false d e = refl

same_turned : (x y : Node) → is_same_node x y ≡ true → is_same_node y x ≡ true
same_turned x y is = subst (λ z. is_same_node z x ≡ true) (same_node x y is) (subst (λ z. is_same_node x z ≡ true) (sym (same_node x y is)) is)

-- ---- an item of the plan of a record that came first

-- the lines to the master, of which the one is that of the node
abbrev ups_in : World → Node → List Rec
ups_in w x = ups (bare_records (records_on A M w)) (bare_records (records_on B M w)) x

ups_is : (w : World) (x : Node) → is_secondary x ≡ true → ups_in w x ≡ bare_records (records_on x M w)
ups_is w A second = refl
ups_is w B second = refl
ups_is w M second = absurd cc
ups_is w T second = absurd cc

module _ (p : Past) (w : World) (is : AreEstablished p w) (whole : IsWhole w) (x : Node) (second : is_secondary x ≡ true) (r : Rec) (q : Plan) (it : Item)
    (now : IsAskedNow x w.master.proc (bare_records (records_on x M w)) q) (among : IsAmong it q.items) where
  m : MasterProc
  m = w.master.proc

  up : List Rec
  up = bare_records (records_on x M w)

  -- the node has not agreed to the plan
  course_now : course_of (flag_in w) w.master.proc.command ≡ proposed now.change.plan (Some x) false
  course_now =
      let unflagged : flag_in w ≡ false =
      ap (λ o. agreed_by o (ups (bare_records (records_on A M w)) (bare_records (records_on B M w)))) now.opened ∙ ap
      (λ rs. list_any (is_agreement now.change.plan.g) rs) (ups_is w x second) ∙ now.unagreed in
      ap (course_of (flag_in w)) now.opened ∙ ap (proposed now.change.plan (Some x)) unflagged

  last_there : p.table.last ≡ w.master.proc.table.last
  last_there = is.keys.lasts.agree.same.rest.last

  sets_it : sets (item_id it) it ≡ true → IsEstablished p (item_id it) q.g → SetsLatest p (item_id it) q.g
  sets_it so latest =
      let set = set_in_plan p q it (planned_now p w is x (bare_records (records_on x M w)) q now) among so in
      record { set = set.0; in_plan = set.1; holding = latest.holding; latest = latest.latest; upto = latest.upto }

  -- a bearer that is new has no row, and is nowhere
  new_alone : q.items ≡ it ∷ [] → plan_new it ≡ true → held_in_all w (item_id it) ≤ 0
  new_alone items new =
      let plan = (subst (λ z. IsPlanned (record (state_of (flag_in w) w.master.proc) { course = z })) course_now whole.keeps.planned).0 in
      let found : item_in (item_id it) now.change.plan ≡ Some it =
      ap (λ (z : List Item). find (λ j. item_id j == item_id it) z) (ap (λ (z : Plan). z.items) (sym now.same) ∙ items) ∙ ap
      (λ (b : Bool). if b then Some it else None) (eq-eqb (item_id it) (item_id it) refl) in
      let none = plan.new (item_id it) it found new in
      omega (arith, whole.keeps.none (item_id it) none, ap (λ c. set_before c (item_id it)) course_now)

  new_item : (id : ℕ) (n : SnLen) (first : ℕ) (shape : Shape) (threshold policy : ℕ) (key : KeyName)
      → it ≡ item.Set id n first shape threshold policy key None → KindOfLast p q → SetsLatest p (item_id it) q.g × IsAlone w x (item_id it)
  new_item id n first shape threshold policy key of (sets_olds olds) =
      absurd (olds_old 0 q.items id n first shape threshold policy key olds (subst (λ z. IsAmong z q.items) of among))
  new_item id n first shape threshold policy key of (drops_one k items) =
      absurd (differ (ap is_drop_item (among_one it (item.Unset k) (subst (IsAmong it) items among) ∙ of)))
    where
      is_drop_item : Item → Bool
      is_drop_item (item.Set i a b s t o e old) = false
      is_drop_item (item.Unset i) = true

      differ : true ≡ false → ⊥
      differ e = absurd cc
  new_item id n first shape threshold policy key of (sets_new k n' first' shape' threshold' policy' key' items latest) =
      let same : item.Set k n' first' shape' threshold' policy' key' None ≡ it = among_one it _ (subst (IsAmong it) items among) in
      let last = last_now p w is x (bare_records (records_on x M w)) q now ∙ sym last_there in
      let so : IsEstablished p (item_id it) q.g =
      subst (λ g. IsEstablished p (item_id it) g) (sym last) (subst (λ j. IsEstablished p j p.table.last) (ap item_id same) latest) in (
        sets_it (subst (λ z. sets (item_id z) z ≡ true) (sym of) (eq-eqb id id refl)) so,
        inr (new_alone (items ∙ ap (λ z. z ∷ []) same) (ap plan_new of)),
      )

  -- one that the node had has a row, and is there
  old_item : (id : ℕ) (n : SnLen) (first : ℕ) (shape : Shape) (threshold policy : ℕ) (key : KeyName) (old : Node)
      → it ≡ item.Set id n first shape threshold policy key (Some old) → is_same_node x old ≡ true
      → list_any (misses x (second_view (second_at x w))) q.items ≡ false → SetsLatest p (item_id it) q.g × IsAlone w x (item_id it)
  old_item id n first shape threshold policy key old of before fit =
      let views = second_view (second_at x w) in
      let unmissed : misses x views (item.Set id n first shape threshold policy key (Some old)) ≡ false =
      subst (λ z. misses x views z ≡ false) of (none_misses x views q.items it fit among) in
      let like = like_of (holds_like n first (views id)) (ap (λ b. b && not (holds_like n first (views id))) (sym (same_turned x old before)) ∙ unmissed) in
      let its =
      subst (IsOfRow w.master.proc.table.rows) of
      (each_among (IsOfRow w.master.proc.table.rows) q.items it (olds_now p w is x (bare_records (records_on x M w)) q now) among) in
      let id_is : item_id it ≡ id = ap item_id of in (
        sets_it (subst (λ z. sets (item_id z) z ≡ true) (sym of) (eq-eqb id id refl))
            (subst (λ j. IsEstablished p j q.g) (sym id_is)
            (subst (λ g. IsEstablished p id g) (sym (last_now p w is x (bare_records (records_on x M w)) q now))
            (row_there id old n first (row_in id w.master.proc.table.rows) refl its))),
        inl (subst (λ j. 1 ≤ held_at w x j) (sym id_is) (omega (arith, like_holds n first (views id) like))),
      )
    where
      like_of : (b : Bool) → (true && not b) ≡ false → b ≡ true
      like_of true e = refl
      like_of false e = absurd (let bad : true ≡ false = e in cc)

      row_there : (id : ℕ) (old : Node) (n : SnLen) (first : ℕ) (o : Option Row) → row_in id w.master.proc.table.rows ≡ o → IsRowOf old n first o
          → IsEstablished p id w.master.proc.table.last
      row_there id old n first None at so = absurd so
      row_there id old n first (Some row) at so = row_established p w id row is.keys at

-- an item of the plan of a record that comes first, by which an anchor becomes active at the node
pub plan_owns : (p : Past) (w : World) → AreEstablished p w → IsWhole w → (x : Node) → is_secondary x ≡ true → LinePaired w x
    → There x (course_of (flag_in w) w.master.proc.command) (second_view (second_at x w)) (bare_records (records_on M x w))
    → (r : Rec) (q : Plan) (it : Item) (rest : List Rec) → records_on M x w ≡ r ∷ rest → fits x (second_view (second_at x w)) r ≡ true → plan_in r ≡ Some q
    → IsAmong it q.items → is_active_part (part_at x q.sec it) ≡ true
    → SetsLatest p (item_id it) q.g × IsAlone w x (item_id it)
plan_owns p w is whole x second pair there r q it rest first fit plan among active = by (is_request r) refl
  where
    by : (b : Bool) → is_request r ≡ b → SetsLatest p (item_id it) q.g × IsAlone w x (item_id it)
    by false plain =
        let apart : IsApart x (bare_record r) = (subst (λ rs. AreApartAll x (bare_records rs)) first there.line).0 in
        absurd (never (is_at x q.sec) (active_second x q.sec it second (active_item x q.sec it active)) (leave_of x r q plan plain apart))
    by true request = of (active_item x q.sec it active)
      where
        now : IsAskedNow x w.master.proc (bare_records (records_on x M w)) q
        now = asked_now x w r q rest pair first request plan

        of : ActiveItem x q.sec it → SetsLatest p (item_id it) q.g × IsAlone w x (item_id it)
        of (is_new id n f shape threshold policy key so here) =
            new_item p w is whole x second r q it now among id n f shape threshold policy key so (kind_now p w is x (bare_records (records_on x M w)) q now)
        of (is_old id n f shape threshold policy key old so before here) =
            old_item p w is whole x second r q it now among id n f shape threshold policy key old so before
            (fit_items x (second_view (second_at x w)) r q fit plan)
