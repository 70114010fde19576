-- The lines of every step of the master suit what the past says of who holds each bearer.
use Rattle.std.proofs.Common.{ℕ, ◌≡◌, ◌≤◌, ◌==◌, ◌∙◌, Bool, true, false, List, [], ◌∷◌, Option, Some, None, refl, sym, ap, subst, arith}
use Rattle.std.specs.List.{AllByRecursion}
use Rattle.std.specs.Prelude.{fold, if◌then◌else◌, is_some, ◌&&◌}
use Rattle.dc_base.specs.Nodes.{is_same_node, is_secondary}
use Rattle.dc_base.specs.declared.events.Event.{Event}
use Rattle.dc_base.specs.declared.events.Header.{Header}
use Rattle.dc_base.specs.declared.flights.Flight.{Flight}
use Rattle.dc_base.specs.declared.flights.Flight.TheVariants as flight
use Rattle.dc_base.specs.declared.nodes.Cell.TheVariants as cell
use Rattle.dc_base.specs.declared.nodes.Class.TheVariants.{Ctl}
use Rattle.dc_base.specs.declared.nodes.LinkId.{LinkId}
use Rattle.dc_base.specs.declared.nodes.Node.{Node}
use Rattle.dc_base.specs.declared.nodes.Node.TheVariants.{A, B, M, T}
use Rattle.dc_base.specs.declared.records.Rec.TheVariants as rec
use Rattle.dc_base.specs.declared.records.StatusTransfer.{StatusTransfer}
use Rattle.node_rules.specs.Adopting.{status_in}
use Rattle.node_rules.specs.Anchor.{AnchorState, setup_at}
use Rattle.node_rules.specs.AnchorReceiving.{air_in, tunnel_in}
use Rattle.node_rules.specs.Choices.{Choices}
use Rattle.node_rules.specs.Held.{held}
use Rattle.node_rules.specs.Lines.{lines_of}
use Rattle.node_rules.specs.MasterStep.{master_step}
use Rattle.node_rules.specs.Run.{Happening, carried_on, entries_from, given_to, happening, on_links, refused_for, world_after, world_step}
use Rattle.node_rules.specs.World.{World, new_world}
use Rattle.node_rules.specs.declared.bearers.AnchorOut.{AnchorOut}
use Rattle.node_rules.specs.declared.inputs.Input.{Input}
use Rattle.node_rules.specs.declared.inputs.Input.TheVariants.{Cmd, Come}
use Rattle.claims.specs.Judged.{judged}
use Rattle.claims.specs.Noted.{after}
use Rattle.claims.specs.Past.{Past, new_past}
use Rattle.run_control.proofs.Arrivals.{air_keeps, status_is, tunnel_is}
use Rattle.run_control.proofs.Steps.{event_ordered}
use Rattle.run_control.specs.SecondControl.{is_holding}
use Rattle.run_control.specs.Sound.{AddsSecond}
use Rattle.run_control.specs.Steps.{AreOrdered}
use Rattle.run_control.specs.Traffic.{OnStatus, OnTraffic, adopts, adopts_at_once, keeps, notes, passes}
use Rattle.run_control.specs.Views.{Stage, View, has_status, holds, is_lacking, lacks_status, view_of}
use Rattle.run_keys.proofs.Worlds.{holds_keys_new, holds_keys_next}
use Rattle.run_keys.specs.Names.{HoldsKeys}
use Rattle.run_places.proofs.Runs.{IsWhole, whole_always}
use Rattle.run_places.specs.Tokens.{anchors_at, kept_at, kept_by}
use Rattle.run_plans.proofs.Runs.{HoldsPlans, holds_plans_next}
use Rattle.run_relays.proofs.Drawn.{SendBrings}
use Rattle.run_relays.proofs.MasterTurn.{ArePlansApart}
use Rattle.run_relays.proofs.Runs.{event_becomes, relays_new}
use Rattle.run_relays.proofs.SetEvents.{event_after}
use Rattle.run_relays.proofs.SetRuns.{planned_new}
use Rattle.run_table.proofs.Views.{after_view, hears_answer, judged_view}
use Rattle.run_table.specs.View.{View as TableView, view}
use Rattle.run_table.specs.Words.{hears}
use Rattle.run_uplinks.proofs.Wells.{IsWell, answer_grows}
use Rattle.run_words.specs.Parts.{at_lines}
use Rattle.run_holders.specs.Holders.{active_in}
use Rattle.run_holders.specs.LeftOver.{MasterLines}
use Rattle.run_holders.specs.Suited.{actives_at}
use Rattle.run_holders.proofs.MasterWellAdopts.{HasToken, others_none, status_token, stood, told_token, waiting_sets}
use Rattle.run_holders.proofs.MasterWellFits.{Before, Then, master_lines}
use Rattle.run_holders.proofs.MasterWellSets.{SetsBy, sets_judged}
use Rattle.run_holders.proofs.MasterWellSteps.{AdoptsBy, step_shape}
use Rattle.run_holders.proofs.NamesApart.{drawn_descends}
use Rattle.run_holders.proofs.ViewHolders.{actives_seen}

-- ---- a state of a run

-- after any events from here each anchor is in one place
abbrev pub StaysWhole : Choices → World → Type 0
StaysWhole c w = (es : List Event) → AllByRecursion AddsSecond es → IsWhole (world_after c w es)

-- what is so at any moment of a run: the command table is the master's, with its keys; all plans on links and of all that nodes have were
-- drawn; and each anchor is in one place
pub record Known (c : Choices) (p : Past) (w : World) : Type 0 where
  pub keys : HoldsKeys p w
  pub plans : HoldsPlans p w
  pub ordered : AreOrdered w
  pub whole : StaysWhole c w

pub known_next : (c : Choices) (p : Past) (w : World) (e : Event) → AddsSecond e → Known c p w → Known c (after p (world_step c w e).1) (world_step c w e).0
known_next c p w e adds k = record {
  keys = holds_keys_next c w p k.keys e adds;
  plans = holds_plans_next c w p e adds k.plans;
  ordered = event_ordered c w e k.ordered;
  whole = λ es more. k.whole (e ∷ es) (adds, more);
}

pub known_new : (c : Choices) (h : Header) (policies : ℕ) → Known c (new_past h policies) (new_world h)
known_new c h policies = record {
  keys = holds_keys_new h policies;
  plans = record { relays = relays_new c h policies; plans = planned_new h policies; later = tt };
  ordered = record { terminal = tt; master = tt; a = tt; b = tt };
  whole = λ es more. whole_always c h es more;
}

-- ---- after an event

active_kept : (o : Option View) → is_some (active_in o) ≡ true → 1 ≤ kept_by o
active_kept None is = absurd cc
active_kept (Some v) is = by v.stage is
  where
    by : (s : Stage) → is_some (if is_holding s then Some v.bearer.g else None) ≡ true → 1 ≤ kept_at s
    by holds so = omega arith
    by lacks_status so = absurd cc
    by has_status so = omega arith

-- where the master has an active anchor, no other node has
pub alone_at : (w : World) → IsWhole w → (id : ℕ) → is_some (actives_at M w id) ≡ true → (y : Node) → is_same_node M y ≡ false → actives_at y w id ≡ None
alone_at w whole id active =
    let kept = active_kept (anchors_at M w id) (ap is_some (actives_seen M w id) ∙ active) in
    others_none w whole id (omega (arith, kept))

module _ (c : Choices) (p : Past) (w : World) (e : Event) (adds : AddsSecond e) (k : Known c p w) where
  pub then_holds : Then c p w e (happening w e)
  then_holds =
      let o = (carried_on c w (happening w e)).1 in
      let next = known_next c p w e adds k in
      let same : view (after p (world_step c w e).1) ≡ fold hears (hears_answer p e o.answer (view p)) (lines_of o) = after_view p (world_step c w e).1 in
      let apart : ArePlansApart (fold hears (hears_answer p e o.answer (view p)) (lines_of o)).plans = subst (λ (v : TableView). ArePlansApart v.plans) same
      (event_becomes c w p e k.plans.relays.read).is.apart in
      let done = event_after c p w k.plans.relays.holds.well k.plans.relays.holds.lasts.agree k.plans.plans.have k.plans.plans.stand e adds apart in
      record {
        well = subst IsWell (sym (judged_view e o.answer p)) (answer_grows p e o.answer (view p) k.plans.relays.holds.well).well;
        brings = subst (λ (v : TableView). AllByRecursion (SendBrings v.plans) o.sends) (sym same) done.brings;
        keys = next.keys.keys;
        agree = next.keys.lasts.agree;
        drawn = next.plans.relays.holds.up.drawn;
        down = drawn_descends (after p (world_step c w e).1) next.plans.relays.holds.up.drawn;
        alone = λ id active y apart. links_same y id (alone_at (world_step c w e).0 (next.whole [] tt) id active y apart);
      }
    where
      links_same : (y : Node) (id : ℕ) → actives_at y (world_step c w e).0 id ≡ None → actives_at y (carried_on c w (happening w e)).0 id ≡ None
      links_same T id none = none
      links_same M id none = none
      links_same A id none = none
      links_same B id none = none

  -- ---- an adoption

  no_adoption : {X : Type 0} (b : Bool) → b ≡ false → b ≡ true → X
  no_adoption b one two = absurd (let bad : false ≡ true = sym one ∙ two in cc)

  last_true : (a b d : Bool) → ((a && b) && d) ≡ true → d ≡ true
  last_true true true d is = is
  last_true true false d is = absurd cc
  last_true false b d is = absurd cc

  lacking_waits : (s : Stage) → is_lacking s ≡ true → is_holding s ≡ false
  lacking_waits holds is = absurd cc
  lacking_waits lacks_status is = refl
  lacking_waits has_status is = absurd cc

  -- where an anchor waited, and the entity is at it or on its way
  adopted_before : (l : LinkId) (f : Flight) (is : happening w e ≡ given_to M (Come l f)) (t : Then c p w e (given_to M (Come l f))) (id : ℕ) (a : AnchorState) → held id w.master.anchors ≡ Some a → is_holding (view_of a).stage ≡ false → HasToken w id
      → Before c p w e (Come l f) t id (setup_at a).g
  adopted_before l f is t id a at waits token =
      let st = stood w l f e is in
      let so = waiting_sets p w (k.whole [] tt) k.keys k.plans.plans.have.master id a at waits token in
      let answer = (master_step c w.master (Come l f)).1.answer in (
        subst (λ (x : Event). SetsBy (judged x answer p) id (setup_at a).g) (sym st.event)
            (sets_judged p l st.place answer k.plans.relays.holds.well id (setup_at a).g so),
        others_none w (k.whole [] tt) id token,
      )

  by_traffic : (l : LinkId) (f : Flight) (is : happening w e ≡ given_to M (Come l f)) (t : Then c p w e (given_to M (Come l f))) (id : ℕ) (a : AnchorState) (done : AnchorState × AnchorOut) → held id w.master.anchors ≡ Some a → OnTraffic a done
      → done.1.adopted ≡ true → Before c p w e (Come l f) t id (setup_at a).g
  by_traffic l f is t id a done at (keeps stays view' sends) adopted = no_adoption done.1.adopted stays adopted
  by_traffic l f is t id a done at (adopts does had view' sends) adopted = adopted_before l f is t id a at (ap is_holding had) (told_token w id a at had)

  by_status : (l : LinkId) (f : Flight) (is : happening w e ≡ given_to M (Come l f)) (t : Then c p w e (given_to M (Come l f))) (st : StatusTransfer) (a : AnchorState) (done : AnchorState × AnchorOut) → l.class ≡ Ctl → is_secondary l.from ≡ true
      → f ≡ flight.Ctl (rec.Snst st) → held st.id w.master.anchors ≡ Some a → OnStatus st a done → done.1.adopted ≡ true
      → Before c p w e (Come l f) t st.id (setup_at a).g
  by_status l f is t st a done class second same at (passes other so) adopted = no_adoption done.1.adopted so.stays adopted
  by_status l f is t st a done class second same at (notes awaited stays view' sends) adopted = no_adoption done.1.adopted stays adopted
  by_status l f is t st a done class second same at (adopts_at_once awaited does view' sends) adopted =
      let there = stood w l f e is in
      adopted_before l f is t st.id a at
      (lacking_waits (view_of a).stage (last_true ((view_of a).bearer.id == st.id) ((view_of a).bearer.g == st.g) (is_lacking (view_of a).stage) awaited))
      (status_token w l there.place st (there.there ∙ ap (λ x. Some x) same) there.to class second)

  adopts_by : (i : Input) → happening w e ≡ given_to M i → (t : Then c p w e (given_to M i)) → AdoptsBy (Before c p w e i t) c w.master i
  adopts_by (Cmd x) is t = tt
  adopts_by (Come l f) is t = (
    λ st class second same a at adopted. by_status l f is t st a (status_in c a st) class second same at (status_is c a st) adopted,
    λ id a at adopted. by_traffic l f is t id a (air_in a cell.Mcg f) at (air_keeps a cell.Mcg f) adopted,
    λ id a at adopted. by_traffic l f is t id a (tunnel_in c a f) at (tunnel_is c a f) adopted,
  )

  -- the lines of a step of the master
  pub master_well : (i : Input) → happening w e ≡ given_to M i → MasterLines c p w e (given_to M i)
  master_well i is =
      let t = subst (Then c p w e) is then_holds in master_lines c p w e i t (step_shape (Before c p w e i t) c w.master i k.ordered.master (adopts_by i is t))
