-- Whatever a secondary node takes: it holds each bearer no more often, or it agrees to the plan that was proposed to it.
use Rattle.std.proofs.Common.{ℕ, ◌≡◌, ◌≤◌, ◌+◌, ◌==◌, ◌++◌, ◌∙◌, Bool, true, false, List, [], ◌∷◌, Option, Some, None, refl, sym, ap, subst, arith, inl, inr}
use Rattle.std.specs.List.{AllByRecursion, list_any}
use Rattle.std.specs.Prelude.{Err, Ok, Result, if◌then◌else◌, map, not, ⊤, ◌&&◌, ◌||◌, ◌⊎◌}
use Rattle.std.proofs.lemmas.Bool.{eq-eqb, eqb-true}
use Rattle.std.proofs.lemmas.List.{append-nil}
use Rattle.std.proofs.lemmas.List.Folds.{list_any-append}
use Rattle.dc_base.specs.Links.{link}
use Rattle.dc_base.specs.Nodes.{is_same_node, is_secondary}
use Rattle.dc_base.specs.declared.flights.Flight.TheVariants as flight
use Rattle.dc_base.specs.declared.nodes.Class.TheVariants.{Ctl}
use Rattle.dc_base.specs.declared.nodes.Node.{Node}
use Rattle.dc_base.specs.declared.nodes.Node.TheVariants.{A, B, M, T}
use Rattle.dc_base.specs.declared.records.Item.{Item}
use Rattle.dc_base.specs.declared.records.Plan.{Plan}
use Rattle.dc_base.specs.declared.records.Rec.{Rec}
use Rattle.dc_base.specs.declared.records.Rec.TheVariants as rec
use Rattle.node_rules.specs.Acts.{ProcFault}
use Rattle.node_rules.specs.Choices.{Send}
use Rattle.node_rules.specs.Effects.{quiet}
use Rattle.node_rules.specs.SecondRecords.{second_take}
use Rattle.node_rules.specs.SecondState.{SecondActs}
use Rattle.node_rules.specs.SecondStep.{plan_in}
use Rattle.node_rules.specs.Secondary.{SecondNode, name_of}
use Rattle.node_rules.specs.declared.acts.Act.{Act}
use Rattle.node_rules.specs.declared.acts.Act.TheVariants.{Go as go, Pass as pass}
use Rattle.node_rules.specs.declared.inputs.Effects.{Effects}
use Rattle.run_control.specs.SecondControl.{SecondProjects, Views, acts_sends, acts_view, carried_by, moved, passed, records_sent, views_within}
use Rattle.run_control.specs.Views.{View, second_view}
use Rattle.run_pairs.specs.Bearers.{AreApart}
use Rattle.run_pairs.proofs.SecondWords.{told_of}
use Rattle.run_places.specs.Tokens.{kept_by, status_in, statuses}
use Rattle.run_places.proofs.Counting.{line_sent, sent}
use Rattle.run_places.proofs.Items.{AreNamed, IsNamed}
use Rattle.dc_base.specs.declared.records.StatusTransfer.{StatusTransfer}
use Rattle.node_rules.specs.Places.{is_at}
use Rattle.run_places.proofs.SecondLaws.{Carries, after_named, carries, few_after, moved_silent, none_after, passed_law, passed_named, passed_waits, sets_none, waits_agreed, waits_aside, within_few, within_named, within_waits}
use Rattle.run_places.proofs.SecondTakes.{AreQuiet, IsQuiet, Took, quiets_same, quiets_silent, took_plan, took_quietly, took_status}
use Rattle.run_places.proofs.States.{Course, IsLeave, WaitsFor, is_drop, item_in, proposed, sets_at}
use Rattle.run_places.proofs.TurnKeeps.{same_kept, same_named, same_waits}

-- the node, without agreeing to a plan
pub record HoldsOn (x : Node) (c : Course) (r_status : ℕ → ℕ) (at at' : Views) (told : List Rec) : Type 0 where
  pub few : (k : ℕ) → kept_by (at' k) + statuses k told ≤ kept_by (at k) + r_status k
  pub named : AreNamed at'
  pub waits : (k : ℕ) → WaitsFor x c k (at' k)

-- the node, as it agrees to this one
pub record HasAgreed (x : Node) (p : Plan) (at at' : Views) (told : List Rec) : Type 0 where
  pub few : (k : ℕ) → kept_by (at' k) + statuses k told ≤ kept_by (at k) + sets_at x p k
  pub drops : (k : ℕ) (i : Item) → item_in k p ≡ Some i → is_drop i ≡ true → kept_by (at' k) + statuses k told ≡ 0
  pub named : AreNamed at'
  pub waits : (k : ℕ) → WaitsFor x (proposed p (Some x) true) k (at' k)

module _ (x : Node) (second : is_secondary x ≡ true) (s : SecondNode) (done : SecondNode × Effects) (acts : SecondActs) (me_is : acts.0.me ≡ x) (is : SecondProjects s acts done) (named : AreNamed (second_view s)) where
  abbrev told : List Rec
  told = told_of x (records_sent done.1.sends)

  abbrev start : Views
  start = views_within acts.0.membership (second_view s)

  -- what is told is what the acts send
  told_few : (k : ℕ) → statuses k told ≤ sent k (acts_sends x is.chosen start)
  told_few k =
      subst (λ sends. statuses k told ≤ sent k sends) (is.told ∙ ap (λ me. acts_sends me is.chosen start) me_is) (line_sent k (link x M Ctl) (records_sent done.1.sends))

  views_are : (k : ℕ) → second_view done.0 k ≡ acts_view x is.chosen start k
  views_are k = is.after k ∙ ap (λ me. acts_view me is.chosen start k) me_is

  quiet_chosen : (chosen : List (Bool × Act)) → AllByRecursion IsQuiet (map (λ (a : Bool × Act). a.1) chosen) → AreQuiet chosen
  quiet_chosen [] all = tt
  quiet_chosen (a ∷ chosen) all = (all.0, quiet_chosen chosen all.1)

  -- ---- quietly

  pub quietly : (c : Course) → AllByRecursion IsQuiet acts.1 → ((k : ℕ) → WaitsFor x c k (second_view s k)) → HoldsOn x c (λ k. 0) (second_view s) (second_view done.0) told
  quietly c all waits =
      let quiet' : AreQuiet is.chosen = quiet_chosen is.chosen (subst (AllByRecursion IsQuiet) (sym is.all) all) in
      let same = λ (k : ℕ). quiets_same x is.chosen start quiet' k in
      record {
        few = λ k. omega (arith, ap kept_by (views_are k), same_kept (start k) (acts_view x is.chosen start k) (same k), within_few acts.0.membership (second_view s) k, told_few k, quiets_silent x is.chosen start k quiet');
        named = λ k. subst (IsNamed k) (sym (views_are k)) (same_named k (start k) (acts_view x is.chosen start k) (same k) (within_named acts.0.membership (second_view s) named k));
        waits = λ k.
            subst (WaitsFor x c k) (sym (views_are k)) (same_waits x c k (start k) (acts_view x is.chosen start k) (same k) (within_waits x c acts.0.membership (second_view s) k (waits k)));
      }

  -- ---- by a status transfer

  module _ (c : Course) (status : StatusTransfer) (waits : (k : ℕ) → WaitsFor x c k (second_view s k)) where
    abbrev Passes : List (Bool × Act) → Type 0
    Passes chosen = (k : ℕ) → (kept_by (acts_view x chosen start k) + sent k (acts_sends x chosen start) ≤ kept_by (start k) + status_in k (rec.Snst status)) × (IsNamed k (acts_view x chosen start k) × WaitsFor x c k (acts_view x chosen start k))

    one_passes : (adopts : Bool) → Passes ((adopts, pass status) ∷ [])
    one_passes adopts k = by (status.id == k) refl
      where
        silent : sent k (moved x status adopts (start status.id) ++ []) ≡ 0
        silent = ap (sent k) (append-nil (moved x status adopts (start status.id))) ∙ moved_silent x status adopts (start status.id) k

        by : (b : Bool) → (status.id == k) ≡ b
            → (kept_by (if b then passed status adopts (start status.id) else start k) + sent k (acts_sends x ((adopts, pass status) ∷ []) start) ≤ kept_by (start k) + (if b then 1 else 0))
            × (IsNamed k (if b then passed status adopts (start status.id) else start k) × WaitsFor x c k (if b then passed status adopts (start status.id) else start k))
        by true here =
            let same : status.id ≡ k = eqb-true status.id k here in (
              omega (arith, silent, passed_law status adopts (start status.id), ap (λ j. kept_by (start j)) same),
              (
                subst (λ j. IsNamed j (passed status adopts (start status.id))) same (passed_named status.id status adopts (start status.id) (within_named acts.0.membership (second_view s) named status.id)),
                subst (λ j. WaitsFor x c j (passed status adopts (start status.id))) same (passed_waits x c status.id status adopts (start status.id) (within_waits x c acts.0.membership (second_view s) status.id (waits status.id))),
              ),
            )
        by false other = (omega (arith, silent), (within_named acts.0.membership (second_view s) named k, within_waits x c acts.0.membership (second_view s) k (waits k)))

    chosen_passes : (chosen : List (Bool × Act)) → map (λ (a : Bool × Act). a.1) chosen ≡ pass status ∷ [] → Passes chosen
    chosen_passes [] is' = absurd cc
    chosen_passes (a ∷ []) is' = subst (λ (b : Act). Passes ((a.0, b) ∷ [])) (sym (ap first is')) (one_passes a.0)
      where
        first : List Act → Act
        first [] = a.1
        first (z ∷ zs) = z
    chosen_passes (a ∷ (b ∷ chosen)) is' = no_more (ap rest is')
      where
        rest : List Act → List Act
        rest [] = []
        rest (z ∷ zs) = zs

        no_more : b.1 ∷ map (λ (z : Bool × Act). z.1) chosen ≡ [] → Passes (a ∷ (b ∷ chosen))
        no_more e = absurd cc

    pub passing : acts.1 ≡ pass status ∷ [] → HoldsOn x c (λ k. status_in k (rec.Snst status)) (second_view s) (second_view done.0) told
    passing acts_are =
        let so = chosen_passes is.chosen (is.all ∙ acts_are) in
        record {
          few = λ k. omega (arith, ap kept_by (views_are k), (so k).0, within_few acts.0.membership (second_view s) k, told_few k);
          named = λ k. subst (IsNamed k) (sym (views_are k)) (so k).1.0;
          waits = λ k. subst (WaitsFor x c k) (sym (views_are k)) (so k).1.1;
        }

  -- ---- by a plan

  module _ (p : Plan) (front : List Act) (all : AllByRecursion IsQuiet front) (acts_are : acts.1 ≡ front ++ go p ∷ []) (apart : AreApart p.items) where
    it : Carries x p is.chosen start
    it = carries x p front is.chosen start all (is.all ∙ acts_are)

    mid_named : AreNamed it.mid
    mid_named k = same_named k (start k) (it.mid k) (it.same k) (within_named acts.0.membership (second_view s) named k)

    after_is : (k : ℕ) → second_view done.0 k ≡ carried_by x p p.items it.mid k
    after_is k = views_are k ∙ ap (λ (views : Views). views k) it.after

    mid_kept : (k : ℕ) → kept_by (it.mid k) ≤ kept_by (second_view s k)
    mid_kept k = omega (arith, same_kept (start k) (it.mid k) (it.same k), within_few acts.0.membership (second_view s) k)

    mid_waits : (c : Course) (k : ℕ) → WaitsFor x c k (second_view s k) → WaitsFor x c k (it.mid k)
    mid_waits c k waits = same_waits x c k (start k) (it.mid k) (it.same k) (within_waits x c acts.0.membership (second_view s) k waits)

    then_named : AreNamed (second_view done.0)
    then_named k = subst (IsNamed k) (sym (after_is k)) (after_named x second p apart it.mid mid_named k)

    -- by which it leaves
    pub leaving : (c : Course) → is_at x p.sec ≡ false → ((k : ℕ) → WaitsFor x c k (second_view s k)) → HoldsOn x c (λ k. 0) (second_view s) (second_view done.0) told
    leaving c aside waits = record {
      few = λ k. omega (arith, ap kept_by (after_is k), few_after x second p apart it.mid mid_named k, mid_kept k, told_few k, it.said k, sets_none x second p apart it.mid mid_named k aside);
      named = then_named;
      waits = λ k. subst (WaitsFor x c k) (sym (after_is k)) (waits_aside x second p apart it.mid mid_named c k aside (mid_waits c k (waits k)));
    }

    -- to which it agrees
    pub agrees_to : ((k : ℕ) → WaitsFor x (proposed p (Some x) false) k (second_view s k)) → HasAgreed x p (second_view s) (second_view done.0) told
    agrees_to waits = record {
      few = λ k. omega (arith, ap kept_by (after_is k), few_after x second p apart it.mid mid_named k, mid_kept k, told_few k, it.said k);
      drops = λ k i found drop. omega (arith, ap kept_by (after_is k), none_after x second p apart it.mid mid_named k i found drop, told_few k, it.said k);
      named = then_named;
      waits = λ k. subst (WaitsFor x (proposed p (Some x) true) k) (sym (after_is k)) (waits_agreed x second p apart it.mid mid_named k (mid_waits (proposed p (Some x) false) k (waits k)));
    }
