-- Where the master's anchor adopts a bearer, the plan of its generation sets the latest establishment, and no other node has an active
-- anchor of it.
use Rattle.std.proofs.Common.{ℕ, ◌≡◌, ◌≤◌, ◌+◌, ◌==◌, ◌∙◌, Bool, true, false, List, [], ◌∷◌, Option, Some, None, refl, sym, ap, subst, arith, suc, zero}
use Rattle.std.proofs.lemmas.Bool.{eq-eqb}
use Rattle.std.specs.Option.{option_map}
use Rattle.std.specs.Prelude.{find, if◌then◌else◌, nat_lt, slice_get, ◌&&◌}
use Rattle.dc_base.specs.Links.{is_ordered, is_tunnel, link}
use Rattle.dc_base.specs.Nodes.{is_same_node, is_secondary}
use Rattle.dc_base.specs.declared.answers.Refusal.TheVariants as refusal
use Rattle.dc_base.specs.declared.events.Event.{Event}
use Rattle.dc_base.specs.declared.events.Event.TheVariants as event
use Rattle.dc_base.specs.declared.flights.Flight.{Flight}
use Rattle.dc_base.specs.declared.flights.Flight.TheVariants as flight
use Rattle.dc_base.specs.declared.nodes.Class.TheVariants.{Ctl}
use Rattle.dc_base.specs.declared.nodes.LinkId.{LinkId}
use Rattle.dc_base.specs.declared.nodes.Node.{Node}
use Rattle.dc_base.specs.declared.nodes.Node.TheVariants.{A, B, M, T}
use Rattle.dc_base.specs.declared.records.Plan.{Plan}
use Rattle.dc_base.specs.declared.records.Rec.TheVariants as rec
use Rattle.dc_base.specs.declared.records.StatusTransfer.{StatusTransfer}
use Rattle.node_rules.specs.Anchor.{AnchorState, active_anchor, setup_at, waiting_anchor}
use Rattle.node_rules.specs.CommandTable.{Table, carried, row}
use Rattle.node_rules.specs.Flights.{weight}
use Rattle.node_rules.specs.Held.{held}
use Rattle.node_rules.specs.Readers.{is_aged_for}
use Rattle.node_rules.specs.Run.{Happening, copy_of, given_to, happening, loss_of, node_at, on_links, refused_for, step_of}
use Rattle.node_rules.specs.World.{World, flights_on}
use Rattle.node_rules.specs.declared.commands.Command.{Command}
use Rattle.node_rules.specs.declared.commands.Command.TheVariants.{Asked as asked, Gone as gone, Recovering as recovering}
use Rattle.node_rules.specs.declared.commands.Change.{Change}
use Rattle.node_rules.specs.declared.commands.First.{First}
use Rattle.node_rules.specs.declared.commands.Going.{Going}
use Rattle.node_rules.specs.declared.commands.Row.{Row}
use Rattle.node_rules.specs.declared.inputs.Input.TheVariants.{Cmd, Come}
use Rattle.claims.specs.Past.{Past}
use Rattle.claims.specs.Reading.{Setting, setting_of, sets}
use Rattle.claims.specs.Table as claims
use Rattle.run_control.proofs.Records.{bare_records}
use Rattle.run_control.specs.Links.{records_on}
use Rattle.run_control.proofs.Taken.{records_in}
use Rattle.run_control.specs.SecondControl.{is_holding}
use Rattle.run_control.specs.Views.{Stage, View, has_status, holds, lacks_status, master_view, second_view, view_of}
use Rattle.run_keys.specs.Keyed.{AreSet, IsKeyed}
use Rattle.run_keys.specs.Names.{HoldsKeys, est}
use Rattle.run_keys.specs.Tables.{OfCommand}
use Rattle.run_places.proofs.Counting.{bare_statuses}
use Rattle.run_places.proofs.Items.{IsNamed}
use Rattle.run_places.proofs.Runs.{IsWhole}
use Rattle.run_places.proofs.States.{IsAwaited, WaitsFor, course_of, set_before}
use Rattle.run_places.proofs.Whole.{agreed_by, rest_of, ups}
use Rattle.run_places.specs.Tokens.{anchors_at, kept_at, kept_by, statuses}
use Rattle.run_relays.proofs.MasterSets as master
use Rattle.run_relays.specs.Setups.{AnchorOf, IsOfPlan, core}
use Rattle.run_senders.specs.Holders.{IfThere}
use Rattle.run_table.specs.SameTable.{FitsOpen, SameCommand}
use Rattle.run_table.specs.View.{View as TableView, planned, view}
use Rattle.run_windows.specs.Seen.{seen}
use Rattle.run_holders.specs.Holders.{active_in}
use Rattle.run_holders.specs.Suited.{actives_at}
use Rattle.run_holders.proofs.MasterWellLines.{some_plan}
use Rattle.run_holders.proofs.MasterWellSets.{SetsBy, row_sets, table_sets}
use Rattle.run_holders.proofs.ViewHolders.{actives_seen}

-- the entity of the bearer is with the master's anchor, or on its way between nodes
abbrev pub HasToken : World → ℕ → Type 0
HasToken w id =
    1 ≤ kept_by (master_view w.master id) +
    ((statuses id (records_on M A w) + statuses id (records_on A M w)) + (statuses id (records_on M B w) + statuses id (records_on B M w)))

-- an anchor that is not kept is not active
unkept : (o : Option View) → kept_by o ≤ 0 → active_in o ≡ None
unkept None le = refl
unkept (Some v) le = by v.stage le
  where
    by : (k : Stage) → kept_at k ≤ 0 → (if is_holding k then Some v.bearer.g else None) ≡ None
    by holds le' = absurd (omega (arith, le'))
    by lacks_status le' = refl
    by has_status le' = refl

module _ (w : World) (whole : IsWhole w) (id : ℕ) (token : HasToken w id) where
  abbrev flag : Bool
  flag = agreed_by w.master.proc.command (ups (bare_records (records_on A M w)) (bare_records (records_on B M w)))

  sum : kept_by (master_view w.master id) + rest_of (second_view w.a) (second_view w.b) (bare_records (records_on M A w)) (bare_records (records_on A M w)) (bare_records (records_on M B w)) (bare_records (records_on B M w)) id ≤ 1
  sum = whole.keeps.once id

  held_once : 1 ≤ kept_by (master_view w.master id) + ((statuses id (bare_records (records_on M A w)) + statuses id (bare_records (records_on A M w))) + (statuses id (bare_records (records_on M B w)) + statuses id (bare_records (records_on B M w))))
  held_once = omega (
    arith,
    token,
    bare_statuses id (records_on M A w),
    bare_statuses id (records_on A M w),
    bare_statuses id
        (records_on M B w),
    bare_statuses id (records_on B M w),
  )

  none_a : kept_by (second_view w.a id) ≤ 0
  none_a = omega (arith, sum, held_once)

  none_b : kept_by (second_view w.b id) ≤ 0
  none_b = omega (arith, sum, held_once)

  -- then no other node has an active anchor
  pub others_none : (y : Node) → is_same_node M y ≡ false → actives_at y w id ≡ None
  others_none M apart = absurd (let bad : true ≡ false = apart in cc)
  others_none T apart = refl
  others_none A apart = sym (actives_seen A w id) ∙ unkept (anchors_at A w id) none_a
  others_none B apart = sym (actives_seen B w id) ∙ unkept (anchors_at B w id) none_b

  -- and where its plan was carried out, the bearer has a row
  row_there : (q : Plan) (going : Going) → w.master.proc.command ≡ Some (gone q going) → (r : Row) × (row w.master.proc.table id ≡ Some r)
  row_there q going opened = by (row w.master.proc.table id) refl
    where
      nothing_set : (b : Bool) (o : Option Command) → o ≡ Some (gone q going) → set_before (course_of b o) id ≡ 0
      nothing_set b o is = ap (λ z. set_before (course_of b z) id) is

      never : row w.master.proc.table id ≡ None → ⊥
      never none = omega (arith, held_once, whole.keeps.none id none, nothing_set flag w.master.proc.command opened)

      by : (o : Option Row) → row w.master.proc.table id ≡ o → (r : Row) × (row w.master.proc.table id ≡ Some r)
      by None is = absurd (never is)
      by (Some r) is = (r, is)

bearer_g : (a : AnchorState) → (view_of a).bearer.g ≡ (setup_at a).g
bearer_g (waiting_anchor v) = refl
bearer_g (active_anchor v) = refl

bearer_id : (a : AnchorState) → (view_of a).bearer.id ≡ (setup_at a).id
bearer_id (waiting_anchor v) = refl
bearer_id (active_anchor v) = refl

-- the plan that awaits its agreement was drawn
asked_drawn : (v : TableView) (c : Change) (first : First) (who : Node) (wanted : Bool) (o : Option claims.Command)
    → SameCommand v (Some (asked c first who wanted)) o → planned v.plans c.plan.g ≡ Some c.plan
asked_drawn v c first who wanted None same = absurd same
asked_drawn v c first who wanted (Some k) same = same.1.plan

module _ (p : Past) (w : World) (whole : IsWhole w) (keys : HoldsKeys p w) (set : master.K (view p).plans w.master) (id : ℕ) (a : AnchorState)
    (at : held id w.master.anchors ≡ Some a) (waits : is_holding (view_of a).stage ≡ false) (token : HasToken w id) where
  abbrev t : Table
  t = w.master.proc.table

  abbrev its_flag : Bool
  its_flag = agreed_by w.master.proc.command (ups (bare_records (records_on A M w)) (bare_records (records_on B M w)))

  there : master_view w.master id ≡ Some (view_of a)
  there = ap (option_map view_of) at

  named : (setup_at a).id ≡ id
  named = sym (bearer_id a) ∙ subst (IsNamed id) there (whole.keeps.named id)

  of_plan : IsOfPlan (view p).plans (core (setup_at a))
  of_plan = subst (IfThere (AnchorOf (IsOfPlan (view p).plans))) at (master.anchor_here (view p).plans w.master id set)

  -- what its plan sets
  abbrev its_set : Setting
  its_set = record { sec = of_plan.plan.sec; shape = (core (setup_at a)).shape; key = of_plan.key; old = of_plan.old }

  in_plan : setting_of of_plan.plan.sec (find (sets id) of_plan.plan.items) ≡ Some its_set
  in_plan = subst (λ k. setting_of of_plan.plan.sec (find (sets k) of_plan.plan.items) ≡ Some its_set) named (ap (setting_of of_plan.plan.sec) of_plan.item)

  by_command : (b : Bool) (o : Option Command) → w.master.proc.command ≡ o → IsAwaited M (course_of b o) id (view_of a) → SetsBy p id (setup_at a).g
  by_command b None opened is = absurd is
  by_command b (Some (asked c first who wanted)) opened is =
      let g : (setup_at a).g ≡ c.plan.g = sym (bearer_g a) ∙ is.0 in
      let drawn = asked_drawn (view p) c first who wanted p.table.command
      (subst (λ o. SameCommand (view p) o p.table.command) opened keys.lasts.agree.same.command) in
      let same = some_plan of_plan.plan c.plan (sym of_plan.drawn ∙ ap (λ n. planned p.plans n) g ∙ drawn) in
      let so : IsKeyed (est (seen p)) (carried t c) × AreSet (carried t c) c.plan = subst
      (OfCommand (IsKeyed (est (seen p))) AreSet t) opened keys.keys.command in
      subst (SetsBy p id) (sym g)
      (table_sets p (carried t c) c.plan id its_set so.0 so.1 drawn
      (subst (λ (q : Plan). setting_of q.sec (find (sets id) q.items) ≡ Some its_set) same in_plan))
  by_command b (Some (gone q going)) opened is =
      let last : q.g ≡ t.last = subst (FitsOpen t) opened keys.lasts.agree.sound.open_fits in
      let r = row_there w whole id token q going opened in
      row_sets p t of_plan.plan id (setup_at a).g its_set r.0 keys.keys.table r.1 (sym (bearer_g a) ∙ is.0 ∙ last) of_plan.drawn in_plan
  by_command b (Some (recovering i terminal second)) opened is = absurd is

  -- the plan of its generation sets the latest establishment
  pub waiting_sets : SetsBy p id (setup_at a).g
  waiting_sets = by_command its_flag w.master.proc.command refl
      (subst (WaitsFor M (course_of its_flag w.master.proc.command) id) there (whole.keeps.waits id) waits)

-- ---- where a flight comes from

-- a flight that the master takes stood on its link
pub record Stood (w : World) (e : Event) (l : LinkId) (f : Flight) : Type 0 where
  pub place : ℕ
  pub event : e ≡ event.Step l place
  pub there : slice_get (flights_on l w.links) place ≡ Some f
  pub to : l.to ≡ M

-- a flight is taken
abbrev comes : Happening → Bool
comes (given_to x (Come l f)) = true
comes (given_to x (Cmd e)) = false
comes (refused_for why) = false
comes (on_links effects) = false

-- its link, the flight, and the node
abbrev link_or : LinkId → Happening → LinkId
link_or l (given_to x (Come k f)) = k
link_or l h = l

abbrev flight_or : Flight → Happening → Flight
flight_or f (given_to x (Come k g)) = g
flight_or f h = f

abbrev node_or : Node → Happening → Node
node_or y (given_to x i) = x
node_or y h = y

module _ (w : World) (l : LinkId) (f : Flight) where
  never : {X : Type 0} (h : Happening) → comes h ≡ false → h ≡ given_to M (Come l f) → X
  never h none is = absurd (let bad : false ≡ true = sym none ∙ ap comes is in cc)

  step_stood : (k : LinkId) (i : ℕ) (o : Option Flight) → slice_get (flights_on k w.links) i ≡ o → step_of w k i o ≡ given_to M (Come l f)
      → Stood w (event.Step k i) l f
  step_stood k i None at is = never (refused_for refusal.NoFlight) refl is
  step_stood k i (Some g) at is = by (is_ordered k.class && nat_lt 0 i) (is_aged_for (node_at w k.to) (weight g)) is
    where
      by : (a b : Bool) → (if a then refused_for refusal.NotFirst else if b then refused_for refusal.Aged else given_to k.to (Come k g)) ≡ given_to M (Come l f) → Stood w (event.Step k i) l f
      by true b so = never (refused_for refusal.NotFirst) refl so
      by false true so = never (refused_for refusal.Aged) refl so
      by false false so =
          let link_is : k ≡ l = ap (link_or k) so in
          let flight_is : g ≡ f = ap (flight_or g) so in
          let node_is : k.to ≡ M = ap (node_or k.to) so in
          record {
            place = i;
            event = ap (λ x. event.Step x i) link_is;
            there = subst (λ x. slice_get (flights_on x w.links) i ≡ Some f) link_is (at ∙ ap (λ x. Some x) flight_is);
            to = subst (λ (x : LinkId). x.to ≡ M) link_is node_is;
          }

  loss_comes : (b : Bool) (o : Option Flight) → comes (if b then loss_of o else refused_for refusal.NotTunnel) ≡ false
  loss_comes true None = refl
  loss_comes true (Some g) = refl
  loss_comes false o = refl

  copy_comes : (k : LinkId) (b : Bool) (o : Option Flight) → comes (if b then copy_of k o else refused_for refusal.NotTunnel) ≡ false
  copy_comes k true None = refl
  copy_comes k true (Some g) = refl
  copy_comes k false o = refl

  pub stood : (e : Event) → happening w e ≡ given_to M (Come l f) → Stood w e l f
  stood (event.Step k i) is = step_stood k i (slice_get (flights_on k w.links) i) refl is
  stood (event.Lose k i) is = never (happening w (event.Lose k i)) (loss_comes (is_tunnel k.class) (slice_get (flights_on k w.links) i)) is
  stood (event.Again k i) is = never (happening w (event.Again k i)) (copy_comes k (is_tunnel k.class) (slice_get (flights_on k w.links) i)) is
  stood e is = never (happening w e) refl is

status_there : (i : ℕ) (fs : List Flight) (st : StatusTransfer) → slice_get fs i ≡ Some (flight.Ctl (rec.Snst st)) → 1 ≤ statuses st.id (records_in fs)
status_there i [] st is = absurd (let bad : None ≡ Some (flight.Ctl (rec.Snst st)) = is in cc)
status_there zero (g ∷ gs) st is =
    let same : flight.Ctl (rec.Snst st) ≡ g = cc in
    subst (λ x. 1 ≤ statuses st.id (records_in (x ∷ gs))) same (one (st.id == st.id) (eq-eqb st.id st.id refl))
  where
    one : (b : Bool) → b ≡ true → 1 ≤ (if b then 1 else 0) + statuses st.id (records_in gs)
    one true so = omega arith
    one false so = absurd cc
status_there (suc i) (g ∷ gs) st is = more g (status_there i gs st is)
  where
    more : (g : Flight) → 1 ≤ statuses st.id (records_in gs) → 1 ≤ statuses st.id (records_in (g ∷ gs))
    more (flight.Ctl r) le = omega (arith, le)
    more x le = le

-- a status transfer on its way is a token
pub status_token : (w : World) (l : LinkId) (i : ℕ) (st : StatusTransfer) → slice_get (flights_on l w.links) i ≡ Some (flight.Ctl (rec.Snst st)) → l.to ≡ M
    → l.class ≡ Ctl → is_secondary l.from ≡ true → HasToken w st.id
status_token w l i st there to class second = by l.from refl second
  where
    same : l ≡ link l.from M Ctl
    same = ap (λ (y : Node). link l.from y l.class) to ∙ ap (λ k. link l.from M k) class

    le : 1 ≤ statuses st.id (records_on l.from M w)
    le = status_there i (flights_on (link l.from M Ctl) w.links) st
        (subst (λ x. slice_get (flights_on x w.links) i ≡ Some (flight.Ctl (rec.Snst st))) same there)

    by : (x : Node) → l.from ≡ x → is_secondary x ≡ true → HasToken w st.id
    by A at so = let here : 1 ≤ statuses st.id (records_on A M w) = subst (λ x. 1 ≤ statuses st.id (records_on x M w)) at le in omega (arith, here)
    by B at so = let here : 1 ≤ statuses st.id (records_on B M w) = subst (λ x. 1 ≤ statuses st.id (records_on x M w)) at le in omega (arith, here)
    by M at so = absurd (let bad : false ≡ true = so in cc)
    by T at so = absurd (let bad : false ≡ true = so in cc)

-- an anchor that was told where the entity is has it
pub told_token : (w : World) (id : ℕ) (a : AnchorState) → held id w.master.anchors ≡ Some a → (view_of a).stage ≡ has_status → HasToken w id
told_token w id a at had =
    let kept : kept_by (master_view w.master id) ≡ 1 = ap (λ o. kept_by (option_map view_of o)) at ∙ ap kept_at had in omega (arith, kept)
