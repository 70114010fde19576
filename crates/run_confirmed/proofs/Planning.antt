-- The plans that a step of the master carries out were drawn, once its lines are heard.
use Rattle.std.proofs.Common.{ℕ, ◌≡◌, ◌++◌, ◌==◌, Bool, true, false, List, [], ◌∷◌, Option, Some, None, refl, sym, ap, subst, ◌∙◌, inl, inr}
use Rattle.std.specs.Prelude.{filter, fold}
use Rattle.std.specs.List.{AllByRecursion}
use Rattle.std.proofs.lemmas.Bool.{cases_Bool}
use Rattle.dc_base.specs.declared.answers.Answer.TheVariants as answer
use Rattle.dc_base.specs.declared.events.Line.TheVariants as line
use Rattle.dc_base.specs.declared.events.Note.TheVariants as note
use Rattle.dc_base.specs.declared.nodes.Node.{Node}
use Rattle.dc_base.specs.declared.nodes.Want.{Want}
use Rattle.dc_base.specs.declared.records.Plan.{Plan}
use Rattle.claims.specs.Table as claims
use Rattle.claims.specs.Table.{is_change}
use Rattle.node_rules.specs.Lines.{lines_of}
use Rattle.node_rules.specs.Master.{MasterNode}
use Rattle.node_rules.specs.MasterState.{MasterActs, MasterProc}
use Rattle.node_rules.specs.declared.commands.Change.{Change}
use Rattle.node_rules.specs.declared.commands.Command.TheVariants.{Asked as asked}
use Rattle.node_rules.specs.declared.commands.First.{First}
use Rattle.node_rules.specs.declared.inputs.Effects.{Effects}
use Rattle.node_rules.specs.declared.inputs.Outcome.{Outcome}
use Rattle.run_table.specs.Orders.{OrderFits, before_order}
use Rattle.run_table.specs.Quiet.{Follows, said}
use Rattle.run_table.specs.SameTable.{SameCommand}
use Rattle.run_table.specs.View.{View, carries, carries_if, carries_plan, carries_with, planned}
use Rattle.run_table.specs.Words.{Ending, Words, begun_notes, by_words, done as finished, hears, is_order_sent, lines_in, order_sends, over_notes, rejected as turned_down}
use Rattle.run_table.proofs.LineWords.{heard_lines}
use Rattle.run_table.proofs.Procs.{Goes}
use Rattle.run_relays.specs.Pdus.{Ascend}
use Rattle.run_relays.proofs.ActPlans.{ActsFrom}
use Rattle.run_relays.proofs.Drawn.{HasOrderSent, Hears, acts_run, kept_order, orders_planned}
use Rattle.run_relays.proofs.MasterTurn.{ArePlansApart}
use Rattle.run_relays.proofs.Planned.{RunsOnly}

-- ---- which plans a view has

-- carrying a plan out draws none
carries_plans : (g : ℕ) (v : View) → (carries g v).plans ≡ v.plans
carries_plans g v = by v.table.command
  where
    of_plan : (c : claims.Command) (o : Option Plan) → (carries_plan g c o v).plans ≡ v.plans
    of_plan c None = refl
    of_plan c (Some q) = refl

    if_so : (c : claims.Command) (b : Bool) → (carries_if g c b v).plans ≡ v.plans
    if_so c true = of_plan c (planned v.plans g)
    if_so c false = refl

    by : (o : Option claims.Command) → (carries_with g o v).plans ≡ v.plans
    by None = refl
    by (Some c) = if_so c _

order_plans : (begun : Option Want) (order : Option (Plan × List ℕ)) (v : View)
    → (fold hears v (lines_in (begun_notes begun) (order_sends order))).plans ≡ (fold hears v (lines_in (begun_notes begun) (order_sends None))).plans
order_plans None None v = refl
order_plans (Some w) None v = refl
order_plans None (Some x) v = carries_plans x.0.g v
order_plans (Some w) (Some x) v = carries_plans x.0.g (hears v (line.Note (note.Begin w)))

words_plans : (over : Option Ending) (begun : Option Want) (order : Option (Plan × List ℕ)) (v : View)
    → (fold hears v (lines_in (over_notes over ++ begun_notes begun) (order_sends order))).plans ≡ (fold hears v (lines_in (over_notes over ++ begun_notes begun) (order_sends None))).plans
words_plans None begun order v = order_plans begun order v
words_plans (Some finished) begun order v = order_plans begun order (hears v (line.Note note.Done))
words_plans (Some turned_down) begun order v = order_plans begun order (hears v (line.Note note.Rejected))

found_apart : (plans : List Plan) (g : ℕ) (q : Plan) → ArePlansApart plans → planned plans g ≡ Some q → Ascend 0 q.items
found_apart [] g q all at = absurd (let bad : None ≡ Some q = at in cc)
found_apart (x ∷ plans) g q all at =
    elim (cases_Bool (x.g == g)) [
      | inl here ↦ let same : x ≡ q = let e = rw here at at in cc in subst (λ (y : Plan). Ascend 0 y.items) same all.0
      | inr there ↦ found_apart plans g q all.1 (rw there at at)
    ]

-- ---- a step, from this view on

module _ (v : View) where
  -- the view after its lines
  abbrev pub now : Effects → View
  now x = fold hears v (lines_of (record { answer = answer.Ok; notes = x.notes; sends = x.sends }))

  order_drawn : (w : Words) (p : Plan) (o : Option (Plan × List ℕ)) → HasOrderSent p (order_sends o) → OrderFits (before_order w v) o
      → planned (before_order w v).plans p.g ≡ Some p
  order_drawn w p None has fits = absurd has
  order_drawn w p (Some x) has fits =
      elim has [ inl same ↦ subst (λ (q : Plan). planned (before_order w v).plans q.g ≡ Some q) same fits.drawn | inr none ↦ absurd none ]

  asked_drawn : (u : View) (ch : Change) (first : First) (who : Node) (wanted : Bool) (k : Option claims.Command)
      → SameCommand u (Some (asked ch first who wanted)) k
      → planned u.plans ch.plan.g ≡ Some ch.plan
  asked_drawn u ch first who wanted None same = absurd same
  asked_drawn u ch first who wanted (Some k) same = same.1.plan

  hears_it : (r : MasterActs) (g : Goes v r) (done : MasterNode × Effects) → Follows r done → ArePlansApart (now done.1).plans
      → Hears (now done.1).plans done.0.proc done.1.sends
  hears_it r g done f apart =
      let orders = orders_planned done.1.sends ∙ ap (filter is_order_sent) f.says.sends ∙ sym (orders_planned (said r.1).sends) ∙ g.speaks.orders in
      let out : Outcome = record { answer = answer.Ok; notes = done.1.notes; sends = done.1.sends } in
      let same : now done.1 ≡ by_words g.words v = heard_lines out g.words v (f.says.notes ∙ g.speaks.notes) orders in
      let plans : (before_order g.words v).plans ≡ (now done.1).plans = sym (ap (λ (u : View). u.plans) same ∙ words_plans g.words.over g.words.begun g.words.order v) in
      record {
        order = λ p has.
            let drawn = subst (λ ps. planned ps p.g ≡ Some p) plans (order_drawn g.words p g.words.order (subst (HasOrderSent p) orders (kept_order p done.1.sends has)) g.fits) in
            (drawn, found_apart (now done.1).plans p.g p apart drawn);
        asks = λ ch first who wanted open'.
            let command : r.0.command ≡ Some (asked ch first who wanted) = sym (ap (λ (x : MasterProc). x.command) f.proc) ∙ open' in
            let u = by_words g.words v in
            let drawn = subst (λ (z : View). planned z.plans ch.plan.g ≡ Some ch.plan) (sym same)
            (asked_drawn u ch first who wanted u.table.command (subst (λ o. SameCommand u o u.table.command) command g.agree.same.command)) in
            (drawn, found_apart (now done.1).plans ch.plan.g ch.plan apart drawn);
      }

  -- the plans of its acts were drawn
  pub acts_drawn : (r : MasterActs) → Goes v r → ActsFrom r → (done : MasterNode × Effects) → Follows r done → ArePlansApart (now done.1).plans
      → AllByRecursion (RunsOnly (now done.1).plans) r.1
  acts_drawn r g from done f apart = acts_run (now done.1).plans r done from f (hears_it r g done f apart)
