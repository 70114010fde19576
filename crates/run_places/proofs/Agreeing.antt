-- A secondary node acts: what is kept of the master's anchors, with how often each bearer is held elsewhere.
use Rattle.std.proofs.Common.{ℕ, ◌≡◌, ◌≤◌, ◌+◌, ◌==◌, ◌∙◌, Bool, true, false, List, Option, Some, None, refl, sym, ap, subst, arith, inl, inr}
use Rattle.std.specs.List.{list_any}
use Rattle.std.specs.Prelude.{⊤, ◌⊎◌}
use Rattle.dc_base.specs.Nodes.{is_same_node}
use Rattle.dc_base.specs.declared.nodes.Node.{Node}
use Rattle.dc_base.specs.declared.nodes.Node.TheVariants.{M}
use Rattle.dc_base.specs.declared.records.Item.{Item}
use Rattle.dc_base.specs.declared.records.Plan.{Plan}
use Rattle.node_rules.specs.MasterRecords.{is_moving}
use Rattle.node_rules.specs.Parts.{part_at}
use Rattle.node_rules.specs.declared.commands.Row.{Row}
use Rattle.run_control.specs.SecondControl.{Views, holds_there}
use Rattle.run_control.specs.Views.{View}
use Rattle.run_places.specs.Tokens.{kept_by}
use Rattle.run_places.proofs.Going.{held_is_kept}
use Rattle.run_places.proofs.ItemKinds.{SetsUp, sets_new, sets_none, sets_up}
use Rattle.run_places.proofs.Parts.{setting}
use Rattle.run_places.proofs.States.{Course, IsDroppedAt, IsPlanFor, IsPlanned, Keeps, State, WaitsFor, is_drop, is_new, item_in, proposed, row_in, set_before, sets_at, sets_by, under_way}

-- a node agrees to the plan that was proposed to it: it sets up no more than what is new, and holds nothing of what it drops
module _ (s : State) (p : Plan) (x : Node) (mv : Views) (rest rest' : ℕ → ℕ) (at : s.course ≡ proposed p (Some x) false) (few : (k : ℕ) → rest' k ≤ rest k + sets_at x p k)
    (drops : (k : ℕ) → IsDroppedAt p x s.rows k → kept_by (mv k) + rest' k ≡ 0) (keeps : Keeps s mv rest) where
  plan : IsPlanFor s.rows p (Some x) × (p.g ≡ s.last)
  plan = subst (λ c. IsPlanned (record s { course = c })) at keeps.planned

  before : (k : ℕ) → row_in k s.rows ≡ None → kept_by (mv k) + rest k ≤ 0
  before k none = subst (λ c. kept_by (mv k) + rest k ≤ set_before c k) at (keeps.none k none)

  once : (k : ℕ) → kept_by (mv k) + rest' k ≤ 1
  once k = by (item_in k p) refl
    where
      one : (i : Item) → item_in k p ≡ Some i → SetsUp x p.sec i → kept_by (mv k) + rest' k ≤ 1
      one i found (sets_none is) = omega (arith, keeps.once k, few k, ap (sets_by x p) found, is)
      one i found (sets_new is new there) = omega (arith, before k (plan.0.new k i found new), few k, ap (sets_by x p) found, is)

      by : (o : Option Item) → item_in k p ≡ o → kept_by (mv k) + rest' k ≤ 1
      by None found = omega (arith, keeps.once k, few k, ap (sets_by x p) found)
      by (Some i) found = one i found (sets_up x p.sec i)

  waits_on : (k : ℕ) (o : Option View) → WaitsFor M (proposed p (Some x) false) k o → WaitsFor M (proposed p (Some x) true) k o
  waits_on k None is = tt
  waits_on k (Some v) is = λ idle. let so = is idle in (so.0, so.1, tt)

  pub agreed_keeps : Keeps (record s { course = proposed p (Some x) true }) mv rest'
  agreed_keeps = record {
    named = keeps.named;
    once = once;
    none = λ k none. omega (arith, before k none, few k);
    dropped = drops;
    own = λ k r there here stays. keeps.own k r there here (ap (λ c. list_any (is_moving k M) (under_way c)) at);
    away = keeps.away;
    waits = λ k. waits_on k (mv k) (subst (λ c. WaitsFor M c k (mv k)) at (keeps.waits k));
    planned = plan;
    single = λ k y z one two. absurd cc;
  }
