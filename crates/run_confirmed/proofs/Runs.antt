-- In every run plans lay bearers out as the layout of the plans drawn says, and the master's procedures carry out what they may; so what
-- is still asked of an event is that what is taken is read right, that the terminal infers its COUNT, and that its plan is new.
use Rattle.std.proofs.Common.{◌≡◌, ℕ, ◌+◌, ◌≤◌, ◌==◌, ◌&&◌, true, false, Bool, List, [], ◌∷◌, Option, Some, None, refl, sym, ap, ◌∙◌, subst, inl, inr, arith}
use Rattle.std.specs.Prelude.{if◌then◌else◌, nat_lt, not, slice_get}
use Rattle.std.specs.List.{AllByRecursion}
use Rattle.std.proofs.lemmas.Bool.{cases_Bool, eqb-false, ne_eqb}
use Rattle.dc_base.specs.Links.{is_ordered, is_tunnel, joins}
use Rattle.dc_base.specs.Nodes.{is_same_node}
use Rattle.dc_base.specs.Records.{item_id}
use Rattle.dc_base.specs.declared.answers.Refusal.TheVariants as refusal
use Rattle.dc_base.specs.declared.events.Event.{Event}
use Rattle.dc_base.specs.declared.events.Event.TheVariants as event
use Rattle.dc_base.specs.declared.events.Header.{Header}
use Rattle.dc_base.specs.declared.flights.Flight.{Flight}
use Rattle.dc_base.specs.declared.flights.Flight.TheVariants as flight
use Rattle.dc_base.specs.declared.nodes.Class.{Class}
use Rattle.dc_base.specs.declared.nodes.Class.TheVariants.{Air, Ctl}
use Rattle.dc_base.specs.declared.nodes.Dir.TheVariants.{Dl, Ul}
use Rattle.dc_base.specs.declared.nodes.LinkId.{LinkId}
use Rattle.dc_base.specs.declared.nodes.Node.{Node}
use Rattle.dc_base.specs.declared.nodes.Node.TheVariants.{A, B, M, T}
use Rattle.dc_base.specs.declared.records.Item.{Item}
use Rattle.dc_base.specs.declared.records.Plan.{Plan}
use Rattle.dc_base.specs.declared.records.Rec.{Rec}
use Rattle.dc_base.specs.declared.records.Rec.TheVariants as rec
use Rattle.transcript.proofs.OnEach.{each_at}
use Rattle.claims.specs.Noted.{after, past, past_from}
use Rattle.claims.specs.Past.{Past, new_past}
use Rattle.node_rules.specs.Anchor.{AnchorState, setup_at}
use Rattle.node_rules.specs.Choices.{Choices}
use Rattle.node_rules.specs.Flights.{weight}
use Rattle.node_rules.specs.Held.{held}
use Rattle.node_rules.specs.Lines.{lines_of}
use Rattle.node_rules.specs.MasterStep.{master_takes}
use Rattle.node_rules.specs.Readers.{is_aged_for}
use Rattle.node_rules.specs.Run.{Happening, carried_on, copy_of, entries_from, given_to, happening, loss_of, node_at, refused_for, step_of, world_step}
use Rattle.node_rules.specs.World.{World, flights_on, new_world}
use Rattle.node_rules.specs.declared.inputs.Input.TheVariants.{Cmd, Come}
use Rattle.run_control.specs.Sound.{AddsSecond}
use Rattle.run_control.proofs.TalkRuns.{event_kept, new_kept}
use Rattle.run_control.proofs.TalkSteps.{IsKept}
use Rattle.run_senders.specs.Kinds.{MayBeOn}
use Rattle.run_table.specs.View.{View, view}
use Rattle.run_table.proofs.Views.{after_view, hears_answer}
use Rattle.run_uplinks.proofs.Wells.{answer_grows, lines_grow}
use Rattle.run_relays.specs.Pdus.{Ascend}
use Rattle.run_relays.proofs.MasterTurn.{ArePlansApart, Stay}
use Rattle.run_relays.proofs.Planned.{Runs}
use Rattle.run_relays.proofs.Runs.{Relays, event_becomes, relays_new, relays_next}
use Rattle.run_relays.proofs.SecondSets.{BringsFlight, BringsPlan, BringsRec}
use Rattle.run_relays.proofs.SetRuns.{Planned, planned_new, planned_next}
use Rattle.run_confirmed.specs.Flights.{IsTrue}
use Rattle.run_confirmed.specs.Heard.{HappensHeard, HasNewOrder, HasNewPlan, IsHeardRight, IsNewAt}
use Rattle.run_confirmed.specs.Laid.{AreLow, layout_of}
use Rattle.run_confirmed.specs.Nodes.{IsAnchorOf}
use Rattle.run_confirmed.specs.Plans.{AreApart, IsFitOrder, IsFitRecord, LaysOut}
use Rattle.run_confirmed.specs.Stories.{IsNew, Stories}
use Rattle.run_confirmed.specs.Worlds.{FitsAt, HappensRight, IsTakenRight, IsWorldOf, ProcsTake}
use Rattle.run_confirmed.proofs.Ends.{air_ends}
use Rattle.run_confirmed.proofs.Held.{if_there}
use Rattle.run_confirmed.proofs.Laid.{AreNamed, laid_out}
use Rattle.run_confirmed.proofs.Linked.{AreOnLinks, IsOnLink, on_links_new, on_links_next}
use Rattle.run_confirmed.proofs.Procs.{AreKept, IsKeptAfter, IsSmallFlight, adopts_by, command_so, controls_by}

-- ---- what is so at any moment of a run

pub record Stands (p : Past) (w : World) : Type 0 where
  pub relays : Relays p w
  pub planned' : Planned p w
  pub linked : AreOnLinks w
  pub kept : IsKept w

pub stands_new : (c : Choices) (h : Header) (policies : ℕ) → Stands (new_past h policies) (new_world h)
stands_new c h policies = record { relays = relays_new c h policies; planned' = planned_new h policies; linked = on_links_new h; kept = new_kept h }

pub stands_next : (c : Choices) (w : World) (p : Past) (e : Event) → AddsSecond e → Stands p w → Stands (after p (world_step c w e).1) (world_step c w e).0
stands_next c w p e adds is = record {
  relays = relays_next c w p e adds is.relays;
  planned' = planned_next c w p e adds is.relays is.planned';
  linked = on_links_next c w e is.relays.right.long is.linked;
  kept = event_kept c w e adds is.kept;
}

-- ---- plans that were drawn stay

pub event_stays : (c : Choices) (w : World) (p : Past) (e : Event) → Stands p w → Stay (view p).plans (view (after p (world_step c w e).1)).plans
event_stays c w p e is =
    let o = (carried_on c w (happening w e)).1 in
    let first = answer_grows p e o.answer (view p) is.relays.holds.well in
    let more = lines_grow (lines_of o) (hears_answer p e o.answer (view p)) first.well in
    subst (λ (v : View). Stay (view p).plans v.plans) (sym (after_view p (world_step c w e).1)) (λ g q at. more.stays g q (first.stays g q at))

pub run_stays : (c : Choices) (es : List Event) → AllByRecursion AddsSecond es → (w : World) (p : Past) → Stands p w
    → Stay (view p).plans (view (past_from p (entries_from c w es))).plans
run_stays c [] adds w p is = λ g q at. at
run_stays c (e ∷ es) adds w p is =
    let one = event_stays c w p e is in
    let more = run_stays c es adds.1 (world_step c w e).0 (after p (world_step c w e).1) (stands_next c w p e adds.0 is) in
    λ g q at. more g q (one g q at)

-- ---- orders

apart_from : (from : ℕ) (i : Item) (items : List Item) → item_id i + 1 ≤ from → Ascend from items → AllByRecursion (λ (j : Item). (item_id i == item_id j) ≡ false) items
apart_from from i [] le up = tt
apart_from from i (j ∷ items) le up =
    (ne_eqb (item_id i) (item_id j) (λ same. let first = up.0 in absurd (omega (arith, le, first, same))), apart_from (item_id j + 1) i items (let first = up.0 in omega (arith, le, first)) up.1)

ascend_apart : (from : ℕ) (items : List Item) → Ascend from items → AreApart items
ascend_apart from [] up = tt
ascend_apart from (i ∷ items) up = (apart_from (item_id i + 1) i items (omega arith) up.1, ascend_apart (item_id i + 1) items up.1)

true_small : (plans : List Plan) (stories : Stories) (l : LinkId) (f : Flight) → IsTrue (layout_of plans) stories l f → IsSmallFlight f
true_small plans stories l (flight.Ctl r) is = is
true_small plans stories l (flight.Air id g num tag pdu) is = tt
true_small plans stories l (flight.Ack id g num) is = tt
true_small plans stories l (flight.Tun tag packet) is = tt
true_small plans stories l (flight.Sdu id g payload) is = tt
true_small plans stories l (flight.End id g) is = tt
true_small plans stories l (flight.Told id g count) is = tt

-- ---- an event

module _ (c : Choices) (plans : List Plan) (named : AreNamed plans) (low : AreLow plans) (p : Past) (w : World) (stands : Stands p w) (stories : Stories) (is : IsWorldOf (layout_of plans) stories w) (stay : Stay (view p).plans plans) where
  abbrev Right : Happening → Type 0
  Right what = HappensRight (layout_of plans) c stories w what

  abbrev Kept : Event → Happening → Type 0
  Kept e what = IsKeptAfter plans named low c p e (carried_on c w what).1

  -- over the air the terminal is at one end
  record_not_air : (l : LinkId) (r : Rec) → MayBeOn l (flight.Ctl r) → l.class ≡ Air → ⊥
  record_not_air l r may air = let bad : Air ≡ Ctl = sym air ∙ may.class in cc

  air_at : (l : LinkId) (f : Flight) → IsOnLink l f → MayBeOn l f → l.class ≡ Air → is_same_node l.from T ≡ not (is_same_node l.to T)
  air_at l (flight.Ctl r) on may air = absurd (record_not_air l r may air)
  air_at l (flight.Air id g num tag pdu) on may air = air_ends l.from l.to (subst (λ (k : Class). joins k l.from l.to ≡ true) air (on refl))
  air_at l (flight.Ack id g num) on may air = air_ends l.from l.to (subst (λ (k : Class). joins k l.from l.to ≡ true) air (on refl))
  air_at l (flight.Tun tag packet) on may air = air_ends l.from l.to (subst (λ (k : Class). joins k l.from l.to ≡ true) air (on refl))
  air_at l (flight.Sdu id g payload) on may air = air_ends l.from l.to (subst (λ (k : Class). joins k l.from l.to ≡ true) air (on refl))
  air_at l (flight.End id g) on may air = air_ends l.from l.to (subst (λ (k : Class). joins k l.from l.to ≡ true) air (on refl))
  air_at l (flight.Told id g count) on may air = air_ends l.from l.to (subst (λ (k : Class). joins k l.from l.to ≡ true) air (on refl))

  -- a plan that was drawn by now
  drawn_laid : (q : Plan) → Runs (view p).plans q → LaysOut (layout_of plans) q
  drawn_laid q runs = laid_out plans named low q (stay q.g q runs.0, runs.1)

  brought : (r : Rec) (q : Plan) → BringsPlan (view p).plans r (Some q) → (r ≡ rec.Relcnf q → ⊥) → Runs (view p).plans q
  brought r q (inl runs) other = runs
  brought r q (inr none) other = absurd (other none.1)

  confirmed : (q : Plan) → BringsPlan (view p).plans (rec.Relcnf q) (Some q) → (q.g == 0) ≡ false → Runs (view p).plans q
  confirmed q (inl runs) some = runs
  confirmed q (inr none) some = absurd (eqb-false q.g 0 some (ap (λ (y : Plan). y.g) none.0))

  order_fits : (fresh : ℕ → Type 0) (r : Rec) → BringsRec (view p).plans r → HasNewOrder fresh r → IsFitOrder (layout_of plans) fresh r
  order_fits fresh (rec.Reconf q key) brings new = let runs = brought (rec.Reconf q key) q brings (λ same. cc) in ((new, drawn_laid q runs), ascend_apart 0 q.items runs.1)
  order_fits fresh (rec.Rcomp g) brings new = tt
  order_fits fresh (rec.Scgf failed) brings new = tt
  order_fits fresh (rec.Recov id) brings new = tt
  order_fits fresh (rec.Recovd id) brings new = tt
  order_fits fresh (rec.Addreq q key) brings new = tt
  order_fits fresh (rec.Addack g) brings new = tt
  order_fits fresh (rec.Addrej g) brings new = tt
  order_fits fresh (rec.Modreq q key) brings new = tt
  order_fits fresh (rec.Modack g) brings new = tt
  order_fits fresh (rec.Modrej g) brings new = tt
  order_fits fresh (rec.Recfg g) brings new = tt
  order_fits fresh (rec.Relreq q) brings new = tt
  order_fits fresh (rec.Relack g) brings new = tt
  order_fits fresh (rec.Relrej g) brings new = tt
  order_fits fresh (rec.Uecr g) brings new = tt
  order_fits fresh (rec.Snst status) brings new = tt
  order_fits fresh (rec.Moved g id) brings new = tt
  order_fits fresh (rec.Scgn id g) brings new = tt
  order_fits fresh rec.Modrqd brings new = tt
  order_fits fresh (rec.Modcnf g) brings new = tt
  order_fits fresh (rec.Modref word) brings new = tt
  order_fits fresh rec.Chgrqd brings new = tt
  order_fits fresh (rec.Chgcnf q) brings new = tt
  order_fits fresh (rec.Chgref word) brings new = tt
  order_fits fresh rec.Relrqd brings new = tt
  order_fits fresh (rec.Relcnf q) brings new = tt

  plan_fits : (fresh : ℕ → Type 0) (l : LinkId) (r : Rec) → IsTrue (layout_of plans) stories l (flight.Ctl r) → BringsRec (view p).plans r → HasNewPlan fresh r
      → IsFitRecord (layout_of plans) fresh r
  plan_fits fresh l (rec.Addreq q key) true' brings new = (new, drawn_laid q (brought (rec.Addreq q key) q brings (λ same. cc)))
  plan_fits fresh l (rec.Modreq q key) true' brings new = (new, drawn_laid q (brought (rec.Modreq q key) q brings (λ same. cc)))
  plan_fits fresh l (rec.Relreq q) true' brings new = (new, drawn_laid q (brought (rec.Relreq q) q brings (λ same. cc)))
  plan_fits fresh l (rec.Chgcnf q) true' brings new = (new, drawn_laid q (brought (rec.Chgcnf q) q brings (λ same. cc)))
  plan_fits fresh l (rec.Relcnf q) true' brings new = λ some. (new some, drawn_laid q (confirmed q brings some))
  plan_fits fresh l (rec.Snst status) true' brings new = true'
  plan_fits fresh l (rec.Reconf q key) true' brings new = tt
  plan_fits fresh l (rec.Rcomp g) true' brings new = tt
  plan_fits fresh l (rec.Scgf failed) true' brings new = tt
  plan_fits fresh l (rec.Recov id) true' brings new = tt
  plan_fits fresh l (rec.Recovd id) true' brings new = tt
  plan_fits fresh l (rec.Addack g) true' brings new = tt
  plan_fits fresh l (rec.Addrej g) true' brings new = tt
  plan_fits fresh l (rec.Modack g) true' brings new = tt
  plan_fits fresh l (rec.Modrej g) true' brings new = tt
  plan_fits fresh l (rec.Recfg g) true' brings new = tt
  plan_fits fresh l (rec.Relack g) true' brings new = tt
  plan_fits fresh l (rec.Relrej g) true' brings new = tt
  plan_fits fresh l (rec.Uecr g) true' brings new = tt
  plan_fits fresh l (rec.Moved g id) true' brings new = tt
  plan_fits fresh l (rec.Scgn id g) true' brings new = tt
  plan_fits fresh l rec.Modrqd true' brings new = tt
  plan_fits fresh l (rec.Modcnf g) true' brings new = tt
  plan_fits fresh l (rec.Modref word) true' brings new = tt
  plan_fits fresh l rec.Chgrqd true' brings new = tt
  plan_fits fresh l (rec.Chgref word) true' brings new = tt
  plan_fits fresh l rec.Relrqd true' brings new = tt

  fits_at : (x : Node) (l : LinkId) (r : Rec) → IsTrue (layout_of plans) stories l (flight.Ctl r) → BringsRec (view p).plans r → IsNewAt (layout_of plans) stories x r
      → FitsAt (layout_of plans) stories x r
  fits_at T l r true' brings new = order_fits (IsNew (layout_of plans) T stories) r brings new
  fits_at M l r true' brings new = tt
  fits_at A l r true' brings new = plan_fits (IsNew (layout_of plans) A stories) l r true' brings new
  fits_at B l r true' brings new = plan_fits (IsNew (layout_of plans) B stories) l r true' brings new

  procs_at : (x : Node) (l : LinkId) (i : ℕ) (f : Flight) → IsTrue (layout_of plans) stories l f → Kept (event.Step l i) (given_to x (Come l f))
      → ProcsTake (layout_of plans) c w x l f
  procs_at M l i f true' kept =
      let own = λ (id : ℕ). if_there (IsAnchorOf (layout_of plans) stories M id) (λ (a : AnchorState). (setup_at a).id ≡ id) (λ a was. was.same_id) (held id w.master.anchors) (is.nodes.master.has.anchors id) in
      let agree = stands.relays.holds.lasts.agree in
      let now : AreKept plans named low c (view p) (master_takes c w.master l.from f l.class).1 = record { apart = kept.apart; stay = kept.stay } in (
        adopts_by plans named low c (view p) w.master agree l.from f l.class own now,
        controls_by plans named low c (view p) w.master agree l.from f l.class stands.kept.sound (true_small plans stories l f true') now,
      )
  procs_at T l i f true' kept = tt
  procs_at A l i f true' kept = tt
  procs_at B l i f true' kept = tt

  taken : (l : LinkId) (i : ℕ) (f : Flight) → slice_get (flights_on l w.links) i ≡ Some f → Kept (event.Step l i) (given_to l.to (Come l f))
      → IsHeardRight (layout_of plans) stories w l.to l f
      → IsTakenRight (layout_of plans) c stories w l.to l f
  taken l i f at kept heard =
      let fs = flights_on l w.links in
      let true' = each_at (IsTrue (layout_of plans) stories l) fs i f (is.flights l) at in
      let brings = each_at (BringsFlight (view p).plans) fs i f (stands.planned'.stand l) at in
      record {
        from = air_at l f (each_at (IsOnLink l) fs i f (stands.linked l) at) (each_at (MayBeOn l) fs i f (stands.relays.right.right l) at);
        to = refl;
        reads = heard.reads;
        infers = heard.infers;
        fits = λ r same class.
            fits_at l.to l r (subst (IsTrue (layout_of plans) stories l) same true') (subst (BringsFlight (view p).plans) same brings) (heard.new r same class);
        procs = procs_at l.to l i f true' kept;
      }

  -- ---- what happens

  abbrev Heard : Happening → Type 0
  Heard what = HappensHeard (layout_of plans) stories w what

  given_right : (x : Node) (e : Event) → AddsSecond e → Kept e (given_to x (Cmd e)) → Right (given_to x (Cmd e))
  given_right M e adds kept = command_so plans named low c p w.master stands.relays.holds.lasts.agree e adds kept
  given_right T e adds kept = tt
  given_right A e adds kept = tt
  given_right B e adds kept = tt

  step_right : (l : LinkId) (i : ℕ) (o : Option Flight) → slice_get (flights_on l w.links) i ≡ o → Kept (event.Step l i) (step_of w l i o)
      → Heard (step_of w l i o) → Right (step_of w l i o)
  step_right l i None at = λ kept heard. tt
  step_right l i (Some f) at =
      elim (cases_Bool (is_ordered l.class && nat_lt 0 i)) [
        | inl behind ↦ rw behind (λ kept heard. tt)
        | inr first ↦ elim (cases_Bool (is_aged_for (node_at w l.to) (weight f))) [
          | inl aged ↦ rw (first, aged) (λ kept heard. tt)
          | inr fresh ↦ rw (first, fresh) (λ kept heard. taken l i f at kept heard)
        ]
      ]

  loss_right : (b : Bool) (o : Option Flight) → Right (if b then loss_of o else refused_for refusal.NotTunnel)
  loss_right false o = tt
  loss_right true None = tt
  loss_right true (Some f) = tt

  copy_right : (l : LinkId) (b : Bool) (o : Option Flight) → Right (if b then copy_of l o else refused_for refusal.NotTunnel)
  copy_right l false o = tt
  copy_right l true None = tt
  copy_right l true (Some f) = tt

  happens_right : (e : Event) → AddsSecond e → Kept e (happening w e) → Heard (happening w e) → Right (happening w e)
  happens_right (event.Bearer id n first shape threshold policy) adds kept heard = given_right M (event.Bearer id n first shape threshold policy) adds kept
  happens_right (event.Reshape id shape) adds kept heard = given_right M (event.Reshape id shape) adds kept
  happens_right (event.Remove id) adds kept heard = given_right M (event.Remove id) adds kept
  happens_right (event.Add node) adds kept heard = given_right M (event.Add node) adds kept
  happens_right event.Change adds kept heard = given_right M event.Change adds kept
  happens_right event.Release adds kept heard = given_right M event.Release adds kept
  happens_right event.RekeySecond adds kept heard = given_right M event.RekeySecond adds kept
  happens_right (event.RekeyMaster root) adds kept heard = given_right M (event.RekeyMaster root) adds kept
  happens_right (event.Recover id) adds kept heard = given_right M (event.Recover id) adds kept
  happens_right (event.Report node id) adds kept heard = given_right node (event.Report node id) adds kept
  happens_right (event.Deny node on) adds kept heard = given_right node (event.Deny node on) adds kept
  happens_right (event.Ask node what) adds kept heard = given_right node (event.Ask node what) adds kept
  happens_right event.ScgFail adds kept heard = given_right T event.ScgFail adds kept
  happens_right (event.Submit id Ul payload) adds kept heard = given_right T (event.Submit id Ul payload) adds kept
  happens_right (event.Submit id Dl payload) adds kept heard = given_right M (event.Submit id Dl payload) adds kept
  happens_right (event.Step l i) adds kept heard = step_right l i (slice_get (flights_on l w.links) i) refl kept heard
  happens_right (event.Lose l i) adds kept heard = loss_right (is_tunnel l.class) (slice_get (flights_on l w.links) i)
  happens_right (event.Again l i) adds kept heard = copy_right l (is_tunnel l.class) (slice_get (flights_on l w.links) i)

  -- the event of a run
  pub event_right : (e : Event) → AddsSecond e → Stay (view (after p (world_step c w e).1)).plans plans → Heard (happening w e) → Right (happening w e)
  event_right e adds stays heard =
      let x = (world_step c w e).1 in
      let same = after_view p x in
      happens_right e adds
      (record {
        apart = subst (λ (v : View). ArePlansApart v.plans) same (event_becomes c w p e stands.relays.read).is.apart;
        stay = subst (λ (v : View). Stay v.plans plans) same stays;
      }) heard

-- ---- a run

-- the plans that were drawn in a run
abbrev pub plans_of : Choices → Header → ℕ → List Event → List Plan
plans_of c h policies es = (past h policies (entries_from c (new_world h) es)).plans
