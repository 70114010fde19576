-- A submission to the master, and a report that is asked of it: of a bearer whose own command is open neither is taken.
use Rattle.std.proofs.Common.{ℕ, ◌≡◌, ◌==◌, ◌&&◌, Bool, true, false, List, Option, Some, None, refl, ap, subst, ◌∙◌, inl, inr}
use Rattle.std.specs.Prelude.{find, not, is_some, if◌then◌else◌}
use Rattle.std.specs.List.{AllByRecursion}
use Rattle.std.proofs.lemmas.Bool.{cases_Bool}
use Rattle.dc_base.specs.declared.answers.Refusal.TheVariants as refusal
use Rattle.dc_base.specs.declared.events.Header.{Header}
use Rattle.dc_base.specs.declared.nodes.Dir.TheVariants.{Dl}
use Rattle.pdcp_tx.specs.Sender.{Rises}
use Rattle.master_runs.specs.Control.{Nodes, is_change, unless_open}
use Rattle.master_runs.specs.Entities.{Entities, bearer_in}
use Rattle.master_runs.specs.Plane.{submitted}
use Rattle.master_runs.specs.Run.{reported_by}
use Rattle.master_runs.proofs.Lane.{IsGiven}
use Rattle.nr_u.specs.Tunnel.Outgoing.{Outgoing}
use Rattle.node_rules.specs.Anchor.{AnchorState, active_anchor}
use Rattle.node_rules.specs.Choices.{Choices}
use Rattle.node_rules.specs.Held.{held}
use Rattle.node_rules.specs.MasterState.{is_unsettled}
use Rattle.node_rules.specs.MasterStep as master
use Rattle.node_rules.specs.declared.bearers.Window.{Window}
use Rattle.node_rules.specs.declared.commands.Row.{Row}
use Rattle.master_runs.specs.Forms.{Leg}
use Rattle.master_runs.specs.Same.{Inside, IsBearer, SameBearer, no_bearer, a_bearer, SameMaster, MasterDid, master_as}
use Rattle.master_runs.proofs.Bearers.{active_as, did_there}
use Rattle.master_runs.proofs.SameSubmitting.{unchanged, submission_down, reported_down}

-- what is known of each bearer of a run: its COUNTs rise, and those that were put on its leg were given
pub record IsServable (e : Entities) : Type 0 where
  pub rises : Rises e.bearer.first e.tx.next e.tx.kept
  pub given : AllByRecursion (IsGiven e.bearer.first e.tx.next) e.sent

module _ (h : Header) (c : Choices) (s : Nodes) (y : Inside) (same : SameMaster h s y) (id : ℕ) where
  -- a bearer that is not being set up
  module _ (e : Entities) (x : Leg) (r : Row) (opened : Bool) (tunnel : Outgoing) (w : Window) (is : IsBearer s.drawn s.busy y.command id e x r opened w)
      (free : is_change s.busy e.bearer.g ≡ false) (at : bearer_in s.master id ≡ Some e) (row : find (λ r. r.id == id) y.rows ≡ Some r)
      (anchor_at : held id y.anchors ≡ Some (active_anchor (active_as h e.bearer x e.tx e.rx opened tunnel))) (window_at : held id y.windows ≡ Some w)
      (servable : IsServable e) where
    -- it is open
    opened_is : opened ≡ true
    opened_is = is.open_is ∙ ap not free

    open_bearer : IsBearer s.drawn s.busy y.command id e x r true w
    open_bearer = subst (λ o. IsBearer s.drawn s.busy y.command id e x r o w) opened_is is

    open_anchor : held id y.anchors ≡ Some (active_anchor (active_as h e.bearer x e.tx e.rx true tunnel))
    open_anchor = subst (λ o. held id y.anchors ≡ Some (active_anchor (active_as h e.bearer x e.tx e.rx o tunnel))) opened_is anchor_at

    submitted_to_it : (payload : List ℕ) → MasterDid h (master.submitted c (master_as h s.drawn y) id payload (Some r))
        (let done = submitted h Dl s.master id payload (Some e) in (record s { master = done.0 }, done.1))
    submitted_to_it payload =
        did_there h (ap (master.submitted_to c (master_as h s.drawn y) id payload r) window_at) refl
        (submission_down h c s y same id e x r tunnel w open_bearer free at row open_anchor window_at servable.rises servable.given payload)

    reported_of_it : MasterDid h (master.report_asked c (master_as h s.drawn y) id true)
        (let done = reported_by Dl s.master id (Some e) in (record s { master = done.0 }, done.1))
    reported_of_it =
        did_there h (rw open_anchor refl) refl (reported_down h c s y same id e x r tunnel w open_bearer free at row open_anchor window_at servable.rises servable.given)

  -- a submission
  pub submitted_down : (payload : List ℕ) {o : Option Entities} {r : Option Row} {a : Option AnchorState} {w : Option Window}
      → SameBearer h s.drawn s.busy y.command id o r a w → bearer_in s.master id ≡ o → find (λ r. r.id == id) y.rows ≡ r → held id y.anchors ≡ a → held id y.windows ≡ w
      → ((e : Entities) → o ≡ Some e → IsServable e)
      → MasterDid h (master.submitted c (master_as h s.drawn y) id payload (if is_unsettled id y.command then None else r))
      (let done = submitted h Dl s.master id payload (unless_open s.busy o) in (record s { master = done.0 }, done.1))
  submitted_down payload no_bearer at row anchor_at window_at servable =
      elim (cases_Bool (is_unsettled id y.command)) [
        | inl yes' ↦ did_there h (rw yes' refl) refl (unchanged h c s y same refusal.NoBearer)
        | inr no' ↦ did_there h (rw no' refl) refl (unchanged h c s y same refusal.NoBearer)
      ]
  submitted_down payload (a_bearer e x r opened tunnel w is) at row anchor_at window_at servable =
      elim (cases_Bool (is_change s.busy e.bearer.g)) [
        | inl yes' ↦ did_there h (rw (is.unsettled, yes') refl) (rw yes' refl) (unchanged h c s y same refusal.NoBearer)
        | inr no' ↦ did_there h (rw (is.unsettled, no') refl) (rw no' refl) (submitted_to_it e x r opened tunnel w is no' at row anchor_at window_at (servable e refl) payload)
      ]

  -- a report
  pub report_down : {o : Option Entities} {r : Option Row} {a : Option AnchorState} {w : Option Window}
      → SameBearer h s.drawn s.busy y.command id o r a w → bearer_in s.master id ≡ o → find (λ r. r.id == id) y.rows ≡ r → held id y.anchors ≡ a → held id y.windows ≡ w
      → ((e : Entities) → o ≡ Some e → IsServable e)
      → MasterDid h (master.report_asked c (master_as h s.drawn y) id (is_some r && not (is_unsettled id y.command)))
      (let done = reported_by Dl s.master id (unless_open s.busy o) in (record s { master = done.0 }, done.1))
  report_down no_bearer at row anchor_at window_at servable = unchanged h c s y same refusal.NoBearer
  report_down (a_bearer e x r opened tunnel w is) at row anchor_at window_at servable =
      elim (cases_Bool (is_change s.busy e.bearer.g)) [
        | inl yes' ↦ did_there h (rw (is.unsettled, yes') refl) (rw yes' refl) (unchanged h c s y same refusal.NoBearer)
        | inr no' ↦ did_there h (rw (is.unsettled, no') refl) (rw no' refl) (reported_of_it e x r opened tunnel w is no' at row anchor_at window_at (servable e refl))
      ]
