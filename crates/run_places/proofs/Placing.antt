-- What is kept of all bearers has each of them placed.
use Rattle.std.proofs.Common.{ℕ, ◌≡◌, ◌≤◌, ◌+◌, ◌∙◌, Bool, true, false, List, [], Option, Some, None, refl, sym, ap, subst, arith}
use Rattle.dc_base.specs.Nodes.{is_same_node}
use Rattle.dc_base.specs.declared.nodes.Node.{Node}
use Rattle.dc_base.specs.declared.nodes.Node.TheVariants.{A, B, M, T}
use Rattle.dc_base.specs.declared.records.Rec.{Rec}
use Rattle.node_rules.specs.World.{World}
use Rattle.node_rules.specs.declared.commands.Command.{Command}
use Rattle.node_rules.specs.declared.commands.Command.TheVariants.{Asked as asked, Gone as gone, Recovering as recovering}
use Rattle.run_control.specs.SecondControl.{holds_there, is_holding}
use Rattle.run_control.specs.Views.{View, master_view, second_view}
use Rattle.run_places.specs.Places.{IsActiveAt, IsPlaced, IsWaitingAt, MovesBy, NoneBut, about_to_move, at_node, nowhere, on_its_way}
use Rattle.run_places.specs.Tokens.{anchors_at, kept_by}
use Rattle.run_places.proofs.Going.{held_is_kept, moves_single}
use Rattle.run_places.proofs.States.{AreSingle, IsAwaited, IsPlanned, State, WaitsFor, course_of, state_of, under_way}
use Rattle.run_places.proofs.Whole.{Whole, agreed_by, ups}

-- what a waiting anchor waits for is what the open command moves
awaited_moves : (x : Node) (b : Bool) (o : Option Command) (k : ℕ) (v : View) → IsAwaited x (course_of b o) k v → MovesBy k x v.bearer.g o
awaited_moves x b None k v is = is
awaited_moves x b (Some (asked ch first who wanted)) k v is = (is.0, is.1)
awaited_moves x b (Some (gone p w)) k v is = is
awaited_moves x b (Some (recovering i terminal o)) k v is = is

-- one bearer waits at one node
one_waits : (b : Bool) (o : Option Command) (s : State) (x y : Node) (k g h : ℕ) → s.course ≡ course_of b o → IsPlanned s → AreSingle (under_way s.course) → MovesBy k x g o → MovesBy k y h o → x ≡ y
one_waits b None s x y k g h at planned single one two = absurd one
one_waits b (Some (asked ch first who wanted)) s x y k g h at planned single one two =
    moves_single ch.plan (subst (λ c. IsPlanned (record s { course = c })) at planned).0.items.apart k x y one.1 two.1
one_waits b (Some (gone p w)) s x y k g h at planned single one two = (subst (λ c. AreSingle (under_way c)) at single) k x y one.1 two.1
one_waits b (Some (recovering i terminal o)) s x y k g h at planned single one two = absurd one

-- what a node has of a bearer
data Has (w : World) (id : ℕ) (x : Node) : Type 0 where
  has_none : (none : anchors_at x w id ≡ None) → Has w id x
  has_active : (is : IsActiveAt w id x) → Has w id x
  has_waiting : (is : IsWaitingAt w id x) → Has w id x

module _ (w : World) (da ua db ub : List Rec) (whole : Whole w.master.proc (master_view w.master) (second_view w.a) (second_view w.b) da ua db ub) (id : ℕ) where
  abbrev flag : Bool
  flag = agreed_by w.master.proc.command (ups ua ub)

  has : (x : Node) (b : Bool) → WaitsFor x (course_of b w.master.proc.command) id (anchors_at x w id) → Has w id x
  has x b waits = by (anchors_at x w id) refl waits
    where
      stage : (v : View) → anchors_at x w id ≡ Some v → (is_holding v.stage ≡ false → IsAwaited x (course_of b w.master.proc.command) id v) → (d : Bool) → is_holding v.stage ≡ d → Has w id x
      stage v there is true holds = has_active (record { view = v; there = there; active = holds })
      stage v there is false idle = has_waiting (record { view = v; there = there; waits = idle; moves = awaited_moves x b w.master.proc.command id v (is idle) })

      by : (o : Option View) → anchors_at x w id ≡ o → WaitsFor x (course_of b w.master.proc.command) id o → Has w id x
      by None there is = has_none there
      by (Some v) there is = stage v there is (is_holding v.stage) refl

  -- ---- not twice

  active_kept : (x : Node) → IsActiveAt w id x → kept_by (anchors_at x w id) ≡ 1
  active_kept x is = held_is_kept (anchors_at x w id) (subst (λ o. holds_there o ≡ true) (sym is.there) is.active)

  sum : (kept_by (anchors_at M w id) + kept_by (anchors_at A w id)) + kept_by (anchors_at B w id) ≤ 1
  sum = omega (arith, whole.keeps.once id)

  too_many : {X : Type 0} → 2 ≤ 1 → X
  too_many le = absurd (never_two le)
    where
      never_two : 2 ≤ 1 → ⊥
      never_two more = omega (arith, more)

  same_waiting : (x y : Node) → IsWaitingAt w id x → IsWaitingAt w id y → x ≡ y
  same_waiting x y one two = one_waits flag w.master.proc.command (state_of flag w.master.proc) x y id one.view.bearer.g two.view.bearer.g refl whole.keeps.planned whole.keeps.single one.moves two.moves

  two_waiting : {X : Type 0} (x y : Node) → is_same_node x y ≡ false → is_same_node x x ≡ true → IsWaitingAt w id x → IsWaitingAt w id y → X
  two_waiting x y apart itself one two = absurd (differ (sym itself ∙ ap (is_same_node x) (same_waiting x y one two) ∙ apart))
    where
      differ : true ≡ false → ⊥
      differ e = absurd cc

  -- ---- no other node

  no : {X : Type 0} → true ≡ false → X
  no e = absurd cc

  but : (x y : Node) → (is_same_node x M ≡ false → is_same_node y M ≡ false → anchors_at M w id ≡ None) → (is_same_node x A ≡ false → is_same_node y A ≡ false → anchors_at A w id ≡ None) → (is_same_node x B ≡ false → is_same_node y B ≡ false → anchors_at B w id ≡ None)
      → NoneBut w id x y
  but x y m a b M p q = m p q
  but x y m a b A p q = a p q
  but x y m a b B p q = b p q
  but x y m a b T p q = refl

  none_at_all : anchors_at M w id ≡ None → anchors_at A w id ≡ None → anchors_at B w id ≡ None → (z : Node) → anchors_at z w id ≡ None
  none_at_all m a b M = m
  none_at_all m a b A = a
  none_at_all m a b B = b
  none_at_all m a b T = refl

  -- ---- by what each has

  place : Has w id M → Has w id A → Has w id B → IsPlaced w id
  place (has_none m) (has_none a) (has_none b) = nowhere (none_at_all m a b)
  place (has_active m) (has_none a) (has_none b) = at_node M m (but M M (λ p q. no p) (λ p q. a) (λ p q. b))
  place (has_none m) (has_active a) (has_none b) = at_node A a (but A A (λ p q. m) (λ p q. no p) (λ p q. b))
  place (has_none m) (has_none a) (has_active b) = at_node B b (but B B (λ p q. m) (λ p q. a) (λ p q. no p))
  place (has_waiting m) (has_none a) (has_none b) = on_its_way M m (but M M (λ p q. no p) (λ p q. a) (λ p q. b))
  place (has_none m) (has_waiting a) (has_none b) = on_its_way A a (but A A (λ p q. m) (λ p q. no p) (λ p q. b))
  place (has_none m) (has_none a) (has_waiting b) = on_its_way B b (but B B (λ p q. m) (λ p q. a) (λ p q. no p))
  place (has_active m) (has_waiting a) (has_none b) = about_to_move M A refl m a (but M A (λ p q. no p) (λ p q. no q) (λ p q. b))
  place (has_active m) (has_none a) (has_waiting b) = about_to_move M B refl m b (but M B (λ p q. no p) (λ p q. a) (λ p q. no q))
  place (has_waiting m) (has_active a) (has_none b) = about_to_move A M refl a m (but A M (λ p q. no q) (λ p q. no p) (λ p q. b))
  place (has_none m) (has_active a) (has_waiting b) = about_to_move A B refl a b (but A B (λ p q. m) (λ p q. no p) (λ p q. no q))
  place (has_waiting m) (has_none a) (has_active b) = about_to_move B M refl b m (but B M (λ p q. no q) (λ p q. a) (λ p q. no p))
  place (has_none m) (has_waiting a) (has_active b) = about_to_move B A refl b a (but B A (λ p q. m) (λ p q. no q) (λ p q. no p))
  place (has_active m) (has_active a) b = too_many (omega (arith, sum, active_kept M m, active_kept A a))
  place (has_active m) (has_none a) (has_active b) = too_many (omega (arith, sum, active_kept M m, active_kept B b))
  place (has_active m) (has_waiting a) (has_active b) = too_many (omega (arith, sum, active_kept M m, active_kept B b))
  place (has_none m) (has_active a) (has_active b) = too_many (omega (arith, sum, active_kept A a, active_kept B b))
  place (has_waiting m) (has_active a) (has_active b) = too_many (omega (arith, sum, active_kept A a, active_kept B b))
  place (has_waiting m) (has_waiting a) b = two_waiting M A refl refl m a
  place (has_waiting m) (has_none a) (has_waiting b) = two_waiting M B refl refl m b
  place (has_waiting m) (has_active a) (has_waiting b) = two_waiting M B refl refl m b
  place (has_none m) (has_waiting a) (has_waiting b) = two_waiting A B refl refl a b
  place (has_active m) (has_waiting a) (has_waiting b) = two_waiting A B refl refl a b

  pub placed : IsPlaced w id
  placed = place (has M flag (whole.keeps.waits id)) (has A flag (whole.a.waits id)) (has B flag (whole.b.waits id))
