-- A step of the master carries no plan out, or it carries one out last; what else becomes active in it was adopted.
use Rattle.std.proofs.Common.{append_assoc, ℕ, ◌≡◌, ◌++◌, ◌∙◌, Bool, true, false, List, [], ◌∷◌, Option, Some, None, refl, sym, ap, subst, arith, inl, inr}
use Rattle.std.proofs.lemmas.List.{append-nil}
use Rattle.std.specs.List.{AllByRecursion}
use Rattle.std.specs.Prelude.{Err, Ok, Result, length, nat_lt, ⊤, ◌⊎◌}
use Rattle.dc_base.specs.Nodes.{is_secondary}
use Rattle.dc_base.specs.declared.answers.Refusal.{Refusal}
use Rattle.dc_base.specs.declared.events.Event.{Event}
use Rattle.dc_base.specs.declared.events.Event.TheVariants as event
use Rattle.dc_base.specs.declared.events.Note.{Note}
use Rattle.dc_base.specs.declared.events.Note.TheVariants as note
use Rattle.dc_base.specs.declared.flights.Flight.{Flight}
use Rattle.dc_base.specs.declared.flights.Flight.TheVariants as flight
use Rattle.dc_base.specs.declared.nodes.Cell.TheVariants as cell
use Rattle.dc_base.specs.declared.nodes.Class.{Class}
use Rattle.dc_base.specs.declared.nodes.Class.TheVariants.{Air, Ctl, Feed, Tun}
use Rattle.dc_base.specs.declared.nodes.Dir.TheVariants.{Ul}
use Rattle.dc_base.specs.declared.nodes.LinkId.{LinkId}
use Rattle.dc_base.specs.declared.nodes.Node.{Node}
use Rattle.dc_base.specs.declared.nodes.Node.TheVariants.{A, B, M, T}
use Rattle.dc_base.specs.declared.records.Plan.{Plan}
use Rattle.dc_base.specs.declared.records.Rec.{Rec}
use Rattle.dc_base.specs.declared.records.Rec.TheVariants as rec
use Rattle.dc_base.specs.declared.records.StatusTransfer.{StatusTransfer}
use Rattle.transcript.proofs.OnEach.{each_append, each_weaker}
use Rattle.node_rules.specs.Acts.{ProcFault, first_refusal}
use Rattle.node_rules.specs.Adopting.{status_in}
use Rattle.node_rules.specs.Anchor.{AnchorState, setup_at}
use Rattle.node_rules.specs.AnchorReceiving.{air_in, tunnel_in}
use Rattle.node_rules.specs.AnchorSending.{report, submit}
use Rattle.node_rules.specs.Choices.{Choices, Send}
use Rattle.node_rules.specs.CommandTable.{row}
use Rattle.node_rules.specs.Effects.{after_effects, both, in_turn, noted, quiet, unless}
use Rattle.node_rules.specs.Flights.{Named, flight_named}
use Rattle.node_rules.specs.Held.{held, holding}
use Rattle.node_rules.specs.Host.{Host}
use Rattle.node_rules.specs.HostRules.{host_air_in, host_tunnel_in}
use Rattle.node_rules.specs.Master.{MasterNode, anchor_did, handed_up, low_rises, on_anchor, told_by, window_told}
use Rattle.node_rules.specs.MasterCommands.{command_refusals, commands, commands_unless}
use Rattle.node_rules.specs.MasterPlan.{adopts_if, carries_item, does, master_act, master_did, on_waiting}
use Rattle.node_rules.specs.MasterState.{MasterActs, MasterProc, has_bearer}
use Rattle.node_rules.specs.MasterStep.{commanded, control_taken, data_taken, is_anchor_of, line_taken, master_event, master_step, master_takes, on_host, record_taken, report_asked, settled_row, submit_refusals, submitted, submitted_to, to_anchor_at, with_accepted}
use Rattle.node_rules.specs.MasterTaking.{master_adopted, master_take}
use Rattle.node_rules.specs.declared.acts.Act.{Act}
use Rattle.node_rules.specs.declared.acts.Act.TheVariants.{FailOne as fail_one, Go as go, Pass as pass, Prepare as prepare, RecoverOne as recover_one, Say as say, Send as send, UnlockAll as unlock_all}
use Rattle.node_rules.specs.declared.bearers.AnchorOut.{AnchorOut}
use Rattle.node_rules.specs.declared.bearers.Window.{Window}
use Rattle.node_rules.specs.declared.commands.Command.TheVariants.{Gone as gone}
use Rattle.node_rules.specs.declared.commands.Going.{Going}
use Rattle.node_rules.specs.declared.commands.Row.{Row}
use Rattle.node_rules.specs.declared.inputs.Effects.{Effects}
use Rattle.node_rules.specs.declared.inputs.Input.{Input}
use Rattle.node_rules.specs.declared.inputs.Input.TheVariants.{Cmd, Come}
use Rattle.node_rules.specs.declared.inputs.Outcome.{Outcome}
use Rattle.run_control.proofs.Ascending.{ascends_with}
use Rattle.run_control.specs.MasterControl.{is_pass}
use Rattle.run_control.specs.Orders.{Ascends}
use Rattle.run_relays.proofs.Drawn.{SendBrings}
use Rattle.run_relays.proofs.Planned.{Runs}
use Rattle.run_table.proofs.Beside.{beside_on, does_follows, line_did, to_anchor_did}
use Rattle.run_table.proofs.Quiet.{of_air, of_host_air, of_host_tunnel, of_report, of_status, of_tunnelled}
use Rattle.run_table.specs.Quiet.{HaveNoPlan, effects_of}
use Rattle.run_holders.proofs.AnchorSteps.{either, report_stays, submit_stays}
use Rattle.run_holders.proofs.MasterWellActs.{CarriesOut, NoteNone, does_carry, does_none, each_right, low_none, none_owns, on_anchor_none, planless}
use Rattle.run_holders.proofs.MasterWellGoes.{Any, GoesBy, IsFarewell, IsStay, Taken, adopted_goes, commands_goes, goes_none, goes_one, take_goes, taken_goes, taken_pass}
use Rattle.run_holders.proofs.MasterWellLines.{DropsNone, OrdersOf, OwnsOf}

-- ---- what comes of a step

-- sends without an order to reconfigure
abbrev NoOrders : List Send → Type 0
NoOrders ss = AllByRecursion (λ (s : Send). OrdersOf (λ q. ⊥) s.1) ss

-- a plan is carried out last; each anchor that becomes active before it is one of these, and none is if the plan drops a bearer
pub record WithPlan (P : ℕ → ℕ → Type 0) (done : MasterNode × Effects) (q : Plan) : Type 0 where
  pub going : Going
  pub opened : done.0.proc.command ≡ Some (gone q going)
  pub at : MasterNode
  pub up : Ascends at.anchors
  pub first : List Note
  pub notes : done.1.notes ≡ first ++ (in_turn (carries_item q) at q.items).1.notes
  pub anchors : done.0.anchors ≡ (in_turn (carries_item q) at q.items).0.anchors
  pub owns : AllByRecursion (OwnsOf P) first
  pub orders : AllByRecursion (λ (s : Send). OrdersOf (λ r. r ≡ q) s.1) done.1.sends
  pub runs : (plans : List Plan) → AllByRecursion (SendBrings plans) done.1.sends → Runs plans q
  pub calm : DropsNone q ⊎ NoteNone first

-- or none is
pub data Shape (P : ℕ → ℕ → Type 0) (done : MasterNode × Effects) : Type 0 where
  without_plan : (owns : AllByRecursion (OwnsOf P) done.1.notes) → (orders : NoOrders done.1.sends) → Shape P done
  with_plan : (q : Plan) → (is : WithPlan P done q) → Shape P done

orders_none : (Q : Plan → Type 0) (f : Flight) → OrdersOf (λ q. ⊥) f → OrdersOf Q f
orders_none Q (flight.Ctl (rec.Reconf q key)) is = absurd is
orders_none Q f is = tt

-- ---- what an anchor did

low_anchors : (m : MasterNode) (id : ℕ) (o : Option ℕ) → (low_rises m id o).0.anchors ≡ m.anchors
low_anchors m id None = refl
low_anchors m id (Some count) = window (held id m.windows)
  where
    window : (o : Option Window) → (window_told m id count o).0.anchors ≡ m.anchors
    window None = refl
    window (Some w) = either (λ (done : MasterNode × Effects). done.0.anchors ≡ m.anchors) (nat_lt w.told count) _ _ refl refl

low_sends : (m : MasterNode) (id : ℕ) (o : Option ℕ) → (low_rises m id o).1.sends ≡ []
low_sends m id None = refl
low_sends m id (Some count) = window (held id m.windows)
  where
    window : (o : Option Window) → (window_told m id count o).1.sends ≡ []
    window None = refl
    window (Some w) = either (λ (done : MasterNode × Effects). done.1.sends ≡ []) (nat_lt w.told count) _ _ refl refl

did_up : (m : MasterNode) (id : ℕ) (done : AnchorState × AnchorOut) → Ascends m.anchors → Ascends (anchor_did m id done).0.anchors
did_up m id done up =
    subst (λ xs. Ascends xs) (sym (low_anchors (record m { anchors = holding id (Some done.0) m.anchors }) id done.1.low))
    (ascends_with 0 id done.0 m.anchors (omega arith) up)

did_orders : (m : MasterNode) (id : ℕ) (done : AnchorState × AnchorOut) → HaveNoPlan done.1.sends → NoOrders (anchor_did m id done).1.sends
did_orders m id done plans =
    each_append (λ (s : Send). OrdersOf (λ q. ⊥) s.1) done.1.sends
    (low_rises (record m { anchors = holding id (Some done.0) m.anchors }) id done.1.low).1.sends (planless done.1.sends plans)
    (subst NoOrders (sym (low_sends (record m { anchors = holding id (Some done.0) m.anchors }) id done.1.low)) tt)

-- ---- acts of a record

pass_free : (a : Act) → IsStay a → is_pass a ≡ false
pass_free (pass st) stay = absurd stay
pass_free (send to r) stay = refl
pass_free (prepare p) stay = refl
pass_free (go p) stay = refl
pass_free (unlock_all g) stay = refl
pass_free (say n) stay = refl
pass_free (recover_one id) stay = refl
pass_free (fail_one id g) stay = refl

farewell_free : (a : Act) → IsFarewell a → is_pass a ≡ false
farewell_free (send to r) is = refl
farewell_free a is = absurd is

abbrev NoPass : List Act → Type 0
NoPass acts = AllByRecursion (λ a. is_pass a ≡ false) acts

goes_free : (r : MasterActs) → GoesBy Any r → NoPass r.1
goes_free r (goes_none stay) = each_weaker IsStay (λ a. is_pass a ≡ false) pass_free r.1 stay
goes_free r (goes_one before q key leave w is stay more opened of) =
    subst NoPass (sym is)
    (each_append (λ a. is_pass a ≡ false) before (send T (rec.Reconf q key) ∷ go q ∷ leave) (each_weaker IsStay (λ a. is_pass a ≡ false) pass_free before stay)
    (refl, (refl, each_weaker IsFarewell (λ a. is_pass a ≡ false) farewell_free leave more)))

did_one : (c : Choices) (a : Act) (m : MasterNode) → is_pass a ≡ false → master_did c m a ≡ master_act c m a
did_one c (pass st) m none = absurd (let bad : true ≡ false = none in cc)
did_one c (send to r) m none = refl
did_one c (prepare p) m none = refl
did_one c (go p) m none = refl
did_one c (unlock_all g) m none = refl
did_one c (say n) m none = refl
did_one c (recover_one id) m none = refl
did_one c (fail_one id g) m none = refl

did_acts : (c : Choices) (acts : List Act) (m : MasterNode) → NoPass acts → in_turn (master_did c) m acts ≡ in_turn (master_act c) m acts
did_acts c [] m none = refl
did_acts c (a ∷ acts) m none =
    ap (λ (here : MasterNode × Effects). after_effects here.1 (in_turn (master_did c) here.0 acts)) (did_one c a m none.0) ∙ ap
    (λ x. after_effects (master_act c m a).1 x) (did_acts c acts (master_act c m a).0 none.1)

both_none : (x : Effects) → both x quiet ≡ x
both_none x = ap (λ ns. record { notes = ns; sends = x.sends ++ [] }) (append-nil x.notes) ∙ ap (λ ss. record { notes = x.notes; sends = ss })
    (append-nil x.sends)

module _ (P : ℕ → ℕ → Type 0) where
  idle : (m : MasterNode) → Shape P (m, quiet)
  idle m = without_plan tt tt

  no_notes : (done : MasterNode × Effects) → NoteNone done.1.notes → HaveNoPlan done.1.sends → Shape P done
  no_notes done none plans = without_plan (none_owns P done.1.notes none) (planless done.1.sends plans)

  -- ---- the procedures

  -- behind what adopts
  carried : (m : MasterNode) (x : Effects) (done : MasterNode × Effects) (q : Plan) (w : Going) → CarriesOut m done q → done.0.proc.command ≡ Some (gone q w)
      → AllByRecursion (OwnsOf P) x.notes → NoOrders x.sends → DropsNone q ⊎ (x.notes ≡ [])
      → WithPlan P (after_effects x done) q
  carried m x done q w is opened owns orders calm = record {
    going = w;
    opened = opened;
    at = is.at;
    up = is.up;
    first = x.notes ++ is.first;
    notes = ap (λ ns. x.notes ++ ns) is.notes ∙ sym (append_assoc x.notes is.first (in_turn (carries_item q) is.at q.items).1.notes);
    anchors = is.anchors;
    owns = each_append (OwnsOf P) x.notes is.first owns (none_owns P is.first is.none);
    orders =
        each_append (λ (s : Send). OrdersOf (λ r. r ≡ q) s.1) x.sends done.1.sends
        (each_weaker (λ (s : Send). OrdersOf (λ r. ⊥) s.1) (λ (s : Send). OrdersOf (λ r. r ≡ q) s.1)
        (λ s so. orders_none (λ r. r ≡ q) s.1 so) x.sends orders) is.orders;
    runs = λ plans bring. is.runs plans (each_right (SendBrings plans) x.sends done.1.sends bring);
    calm = by calm;
  }
    where
      by : DropsNone q ⊎ (x.notes ≡ []) → DropsNone q ⊎ NoteNone (x.notes ++ is.first)
      by (inl none) = inl none
      by (inr none) = inr (subst (λ ns. NoteNone (ns ++ is.first)) (sym none) is.none)

  by_does : (c : Choices) (m : MasterNode) (r : MasterActs) (x : Effects) → Ascends m.anchors → AllByRecursion (OwnsOf P) x.notes → NoOrders x.sends
      → GoesBy DropsNone r → Shape P (after_effects x (does c m r))
  by_does c m r x up owns orders (goes_none stay) =
      let is = does_none c m r stay in
      without_plan (each_append (OwnsOf P) x.notes (does c m r).1.notes owns (none_owns P (does c m r).1.notes is.0))
      (each_append (λ (s : Send). OrdersOf (λ q. ⊥) s.1) x.sends (does c m r).1.sends orders is.1)
  by_does c m r x up owns orders (goes_one before q key leave w is stay more opened of) =
      with_plan q (carried m x (does c m r) q w (does_carry c m r before q key leave is stay more up)
      (ap (λ (y : MasterProc). y.command) (does_follows c m r).proc ∙ opened) owns orders (inl of))

  by_any : (c : Choices) (m : MasterNode) (r : MasterActs) → Ascends m.anchors → GoesBy Any r → Shape P (does c m r)
  by_any c m r up (goes_none stay) = let is = does_none c m r stay in without_plan (none_owns P (does c m r).1.notes is.0) is.1
  by_any c m r up (goes_one before q key leave w is stay more opened of) =
      with_plan q (carried m quiet (does c m r) q w (does_carry c m r before q key leave is stay more up)
      (ap (λ (y : MasterProc). y.command) (does_follows c m r).proc ∙ opened) tt tt (inr refl))

  -- ---- an anchor that may adopt

  -- it does where these may become active
  abbrev Adopts : MasterNode → ℕ → (AnchorState → AnchorState × AnchorOut) → Type 0
  Adopts m id f = (a : AnchorState) → held id m.anchors ≡ Some a → (f a).1.adopted ≡ true → P id (setup_at a).g

  ups_own : (id : ℕ) (ups : List (ℕ × List ℕ)) → AllByRecursion (OwnsOf P) (handed_up M id Ul ups)
  ups_own id [] = tt
  ups_own id (u ∷ ups) = (tt, ups_own id ups)

  did_owns : (m : MasterNode) (id : ℕ) (done : AnchorState × AnchorOut) → AllByRecursion (OwnsOf P) (anchor_did m id done).1.notes
  did_owns m id done =
      let low = low_rises (record m { anchors = holding id (Some done.0) m.anchors }) id done.1.low in
      each_append (OwnsOf P) (handed_up M id Ul done.1.ups) low.1.notes (ups_own id done.1.ups)
      (none_owns P low.1.notes (low_none (record m { anchors = holding id (Some done.0) m.anchors }) id done.1.low))

  by_adopting : (c : Choices) (m : MasterNode) (id g : ℕ) (done : AnchorState × AnchorOut) → Ascends m.anchors → HaveNoPlan done.1.sends → (b : Bool)
      → (b ≡ true → P id g) → Shape P (adopts_if c id g b (anchor_did m id done))
  by_adopting c m id g done up plans false adopts = without_plan (did_owns m id done) (did_orders m id done plans)
  by_adopting c m id g done up plans true adopts =
      let k = anchor_did m id done in
      by_does c k.0 (master_adopted k.0.proc id) (both (noted (note.Own M id g)) k.1) (did_up m id done up) (adopts refl, did_owns m id done)
      (did_orders m id done plans) (adopted_goes k.0.proc id)

  by_waiting : (c : Choices) (m : MasterNode) (id : ℕ) (f : AnchorState → AnchorState × AnchorOut) (o : Option AnchorState) → Ascends m.anchors
      → held id m.anchors ≡ o → ((a : AnchorState) → HaveNoPlan (f a).1.sends) → Adopts m id f → Shape P (on_waiting c m id f o)
  by_waiting c m id f None up at plans adopts = idle m
  by_waiting c m id f (Some a) up at plans adopts = by_adopting c m id (setup_at a).g (f a) up (plans a) (f a).1.adopted (adopts a at)

  -- ---- inputs

  by_record : (c : Choices) (m : MasterNode) (from : Node) (r : Rec) (x : Result MasterActs ProcFault) → Taken from m.proc r x → Ascends m.anchors
      → ((st : StatusTransfer) → is_secondary from ≡ true → r ≡ rec.Snst st → Adopts m st.id (λ a. status_in c a st)) → Shape P (record_taken c m x)
  by_record c m from r x (taken_goes (Ok acts) goes') up adopts = subst (Shape P)
      (sym (did_acts c acts.1 (record m { proc = acts.0 }) (goes_free acts goes'))) (by_any c m acts up goes')
  by_record c m from r x (taken_goes (Err why) goes') up adopts = idle m
  by_record c m from r x (taken_pass st second is) up adopts =
      let here = on_waiting c m st.id (λ a. status_in c a st) (held st.id m.anchors) in
      subst (λ y. Shape P (here.0, y)) (sym (both_none here.1))
      (by_waiting c m st.id (λ a. status_in c a st) (held st.id m.anchors) up refl (λ a. of_status c a st) (adopts st second is))

  by_host : (m : MasterNode) (id : ℕ) (h : Host → Host × List Send) (o : Option Host) → ((x : Host) → HaveNoPlan (h x).1) → Shape P (on_host m id h o)
  by_host m id h None hosts = idle m
  by_host m id h (Some x) hosts = without_plan tt (planless (h x).1 (hosts x))

  by_data : (c : Choices) (m : MasterNode) (f : AnchorState → AnchorState × AnchorOut) (h : Host → Host × List Send) (o : Option Named) → Ascends m.anchors
      → ((a : AnchorState) → HaveNoPlan (f a).1.sends) → ((x : Host) → HaveNoPlan (h x).1)
      → ((id : ℕ) → Adopts m id f) → Shape P (data_taken c m f h o)
  by_data c m f h None up plans hosts adopts = idle m
  by_data c m f h (Some (id, g)) up plans hosts adopts =
      either (Shape P) (is_anchor_of g (held id m.anchors)) (on_waiting c m id f (held id m.anchors)) (on_host m id h (held id m.hosts))
      (by_waiting c m id f (held id m.anchors) up refl plans (adopts id)) (by_host m id h (held id m.hosts) hosts)

  by_told : (m : MasterNode) (id g count : ℕ) (o : Option Row) → NoteNone (told_by m id g count o).1.notes
  by_told m id g count None = tt
  by_told m id g count (Some r) = either (λ (done : MasterNode × Effects). NoteNone done.1.notes) (nat_lt g r.est) (m, quiet)
      (window_told m id count (held id m.windows)) tt (low_none m id (Some count))

  line_notes : (m : MasterNode) (f : Flight) → NoteNone (line_taken m f).1.notes
  line_notes m (flight.Told id g count) = by_told m id g count (row m.proc.table id)
  line_notes m (flight.Sdu id g payload) = tt
  line_notes m (flight.End id g) = tt
  line_notes m (flight.Air id g num tag pdu) = tt
  line_notes m (flight.Ack id g num) = tt
  line_notes m (flight.Tun tag packet) = tt
  line_notes m (flight.Ctl r) = tt

  -- which anchors may adopt by an input
  abbrev pub AdoptsBy : Choices → MasterNode → Input → Type 0
  AdoptsBy c m (Cmd e) = ⊤
  AdoptsBy c m (Come l f) =
      ((st : StatusTransfer) → l.class ≡ Ctl → is_secondary l.from ≡ true → f ≡ flight.Ctl (rec.Snst st) → Adopts m st.id (λ a. status_in c a st))
      × ((id : ℕ) → Adopts m id (λ a. air_in a cell.Mcg f)) × ((id : ℕ) → Adopts m id (λ a. tunnel_in c a f))

  by_control : (c : Choices) (m : MasterNode) (from : Node) (f : Flight) → Ascends m.anchors
      → ((st : StatusTransfer) → is_secondary from ≡ true → f ≡ flight.Ctl (rec.Snst st) → Adopts m st.id (λ a. status_in c a st))
      → Shape P (control_taken c m from f)
  by_control c m from (flight.Ctl r) up adopts = by_record c m from r (master_take from m.proc r) (take_goes from m.proc r) up
      (λ st second is. adopts st second (ap (λ (x : Rec). flight.Ctl x) is))
  by_control c m from (flight.Air id g num tag pdu) up adopts = idle m
  by_control c m from (flight.Ack id g num) up adopts = idle m
  by_control c m from (flight.Tun tag packet) up adopts = idle m
  by_control c m from (flight.Sdu id g payload) up adopts = idle m
  by_control c m from (flight.End id g) up adopts = idle m
  by_control c m from (flight.Told id g count) up adopts = idle m

  by_class : (c : Choices) (m : MasterNode) (l : LinkId) (f : Flight) (k : Class) → l.class ≡ k → Ascends m.anchors → AdoptsBy c m (Come l f)
      → Shape P (master_takes c m l.from f k)
  by_class c m l f Ctl is up adopts = by_control c m l.from f up (λ st second so. adopts.0 st is second so)
  by_class c m l f Feed is up adopts = no_notes (line_taken m f) (line_notes m f) (line_did m f).quiet.sends
  by_class c m l f Air is up adopts = by_data c m (λ a. air_in a cell.Mcg f) (λ h. host_air_in h f) (flight_named f) up (λ a. of_air a cell.Mcg f)
      (λ h. of_host_air h f) adopts.1
  by_class c m l f Tun is up adopts = by_data c m (λ a. tunnel_in c a f) (λ h. host_tunnel_in h f) (flight_named f) up (λ a. of_tunnelled c a f)
      (λ h. of_host_tunnel h f) adopts.2

  -- ---- events

  -- of an outcome
  abbrev pub ShapeOf : MasterNode × Outcome → Type 0
  ShapeOf done = Shape P (done.0, effects_of done.1)

  by_command : (c : Choices) (m : MasterNode) (e : Event) (o : Option Refusal) → Ascends m.anchors → ShapeOf (commanded c m (commands_unless m.proc e o))
  by_command c m e None up = by_any c m (commands m.proc e) up (commands_goes m.proc e)
  by_command c m e (Some why) up = idle m

  by_report : (c : Choices) (m : MasterNode) (id : ℕ) (b : Bool) → ShapeOf (report_asked c m id b)
  by_report c m id false = idle m
  by_report c m id true = no_notes (on_anchor m id (report c) (held id m.anchors)) (on_anchor_none m id (report c) (report_stays c) (held id m.anchors))
      (beside_on m id (report c) (of_report c) (held id m.anchors)).quiet.sends

  to_anchor_notes : (c : Choices) (m : MasterNode) (id g : ℕ) (payload : List ℕ) (x : Node) → NoteNone (to_anchor_at c m id g payload x).1.notes
  to_anchor_notes c m id g payload M = on_anchor_none m id (λ a. submit c a payload) (λ a. submit_stays c a payload) (held id m.anchors)
  to_anchor_notes c m id g payload A = tt
  to_anchor_notes c m id g payload B = tt
  to_anchor_notes c m id g payload T = tt

  by_unless : (c : Choices) (m k : MasterNode) (id : ℕ) (payload : List ℕ) (r : Row) (o : Option Refusal)
      → ShapeOf (unless m o (to_anchor_at c k id r.g payload r.anchor))
  by_unless c m k id payload r (Some why) = idle m
  by_unless c m k id payload r None = no_notes (to_anchor_at c k id r.g payload r.anchor) (to_anchor_notes c k id r.g payload r.anchor)
      (to_anchor_did c k id r.g payload r.anchor).quiet.sends

  by_submitted_to : (c : Choices) (m : MasterNode) (id : ℕ) (payload : List ℕ) (r : Row) (o : Option Window) → ShapeOf (submitted_to c m id payload r o)
  by_submitted_to c m id payload r None = idle m
  by_submitted_to c m id payload r (Some w) = by_unless c m (with_accepted m id w) id payload r (first_refusal (submit_refusals r w))

  by_submitted : (c : Choices) (m : MasterNode) (id : ℕ) (payload : List ℕ) (o : Option Row) → ShapeOf (submitted c m id payload o)
  by_submitted c m id payload None = idle m
  by_submitted c m id payload (Some r) = by_submitted_to c m id payload r (held id m.windows)

  by_event : (c : Choices) (m : MasterNode) (e : Event) → Ascends m.anchors → ShapeOf (master_event c m e)
  by_event c m (event.Bearer id n first shape threshold policy) up = let e = event.Bearer id n first shape threshold policy in by_command c m e
      (first_refusal (command_refusals (length c.policies) m.proc e)) up
  by_event c m (event.Reshape id shape) up = let e = event.Reshape id shape in by_command c m e
      (first_refusal (command_refusals (length c.policies) m.proc e)) up
  by_event c m (event.Remove id) up = let e = event.Remove id in by_command c m e (first_refusal (command_refusals (length c.policies) m.proc e)) up
  by_event c m (event.Add node) up = let e = event.Add node in by_command c m e (first_refusal (command_refusals (length c.policies) m.proc e)) up
  by_event c m event.Change up = let e = event.Change in by_command c m e (first_refusal (command_refusals (length c.policies) m.proc e)) up
  by_event c m event.Release up = let e = event.Release in by_command c m e (first_refusal (command_refusals (length c.policies) m.proc e)) up
  by_event c m event.RekeySecond up = let e = event.RekeySecond in by_command c m e (first_refusal (command_refusals (length c.policies) m.proc e)) up
  by_event c m (event.RekeyMaster root) up = let e = event.RekeyMaster root in by_command c m e
      (first_refusal (command_refusals (length c.policies) m.proc e)) up
  by_event c m (event.Recover id) up = let e = event.Recover id in by_command c m e (first_refusal (command_refusals (length c.policies) m.proc e)) up
  by_event c m (event.Report node id) up = by_report c m id (has_bearer m.proc id)
  by_event c m (event.Submit id d payload) up = by_submitted c m id payload (settled_row m id)
  by_event c m (event.Deny node on) up = idle m
  by_event c m (event.Ask node what) up = idle m
  by_event c m event.ScgFail up = idle m
  by_event c m (event.Step l i) up = idle m
  by_event c m (event.Lose l i) up = idle m
  by_event c m (event.Again l i) up = idle m

  -- whatever the master takes
  pub step_shape : (c : Choices) (m : MasterNode) (i : Input) → Ascends m.anchors → AdoptsBy c m i → ShapeOf (master_step c m i)
  step_shape c m (Cmd e) up adopts = by_event c m e up
  step_shape c m (Come l f) up adopts = by_class c m l f l.class refl up adopts
