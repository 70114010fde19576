-- Each step of the master, and each event that it takes, keeps what is so of its command table.
use Rattle.std.proofs.Common.{ℕ, ◌≡◌, ◌++◌, Bool, true, false, List, [], ◌∷◌, Option, Some, None, refl, sym, ap, subst, ◌∙◌, inl, inr, ◌⊎◌}
use Rattle.std.specs.Prelude.{Err, Ok, Result, filter, is_some, length, ⊤}
use Rattle.std.specs.List.{AllByRecursion, list_any}
use Rattle.std.proofs.lemmas.Bool.{cases_Bool}
use Rattle.std.proofs.lemmas.List.{append-nil}
use Rattle.dc_base.specs.declared.answers.Refusal.{Refusal}
use Rattle.dc_base.specs.declared.events.Event.{Event}
use Rattle.dc_base.specs.declared.events.Event.TheVariants as event
use Rattle.dc_base.specs.declared.flights.Flight.{Flight}
use Rattle.dc_base.specs.declared.flights.Flight.TheVariants as flight
use Rattle.dc_base.specs.declared.nodes.Class.{Class}
use Rattle.dc_base.specs.declared.nodes.Class.TheVariants.{Air, Ctl, Feed, Tun}
use Rattle.dc_base.specs.declared.nodes.Node.{Node}
use Rattle.dc_base.specs.declared.records.Plan.{Plan}
use Rattle.dc_base.specs.declared.records.Rec.TheVariants as rec
use Rattle.claims.specs.Views.{carried_plan}
use Rattle.node_rules.specs.Acts.{ProcFault, first_refusal}
use Rattle.node_rules.specs.Adopting.{status_in}
use Rattle.node_rules.specs.Anchor.{AnchorState}
use Rattle.node_rules.specs.AnchorSending.{report}
use Rattle.node_rules.specs.Choices.{Choices, Send}
use Rattle.node_rules.specs.CommandTable.{Table}
use Rattle.node_rules.specs.Drafts.{Draft, draft}
use Rattle.node_rules.specs.Effects.{after_effects, both, in_turn, quiet, unless}
use Rattle.node_rules.specs.Held.{held}
use Rattle.node_rules.specs.Master.{MasterNode}
use Rattle.node_rules.specs.MasterCommands.{command_refusals, commands, commands_unless}
use Rattle.node_rules.specs.MasterEnds.{is_release_spent}
use Rattle.node_rules.specs.MasterPlan.{does, master_act, master_did, on_waiting}
use Rattle.node_rules.specs.MasterState.{MasterActs, MasterProc, has_bearer}
use Rattle.node_rules.specs.MasterStep.{commanded, control_taken, line_taken, master_event, master_takes, record_taken, report_asked, settled_row, submit_refusals, submitted, submitted_to, to_anchor_at, with_accepted}
use Rattle.node_rules.specs.MasterTaking.{master_adopted, master_take}
use Rattle.node_rules.specs.declared.acts.Act.{Act}
use Rattle.node_rules.specs.declared.acts.Act.TheVariants.{FailOne as fail_one, Go as go, Pass as pass, Prepare as prepare, RecoverOne as recover_one, Say as say, Send as send, UnlockAll as unlock_all}
use Rattle.node_rules.specs.declared.bearers.AnchorOut.{AnchorOut}
use Rattle.node_rules.specs.declared.bearers.Window.{Window}
use Rattle.node_rules.specs.declared.commands.Command.TheVariants.{Gone as gone}
use Rattle.node_rules.specs.declared.commands.Going.{Going}
use Rattle.node_rules.specs.declared.commands.Row.{Row}
use Rattle.node_rules.specs.declared.inputs.Effects.{Effects}
use Rattle.node_rules.specs.declared.inputs.Outcome.{Outcome}
use Rattle.run_table.specs.Quiet.{Adopted, Follows, IsBeside, effects_of, has_plan, said}
use Rattle.run_table.specs.SameTable.{Agree}
use Rattle.run_table.specs.View.{View}
use Rattle.run_table.proofs.Beside.{air_did, beside_none, beside_on, does_follows, line_did, to_anchor_did, tunnel_did, waiting_did}
use Rattle.run_table.proofs.Procs.{is_pass}
use Rattle.run_table.proofs.Quiet.{of_report, of_status}
use Rattle.run_table.proofs.Records.{TakenIf, goes_taken}
use Rattle.run_keys.specs.Tables.{MayDraw, OfAct, OfProc, OfSend, OfSome, OfStep, OfTurn}
use Rattle.run_keys.proofs.Procedures.{Taken, adopted_step, commands_step, taken_step}

-- ---- what is sent

-- what carries no plan has none carried out
planless : (s : Send) → has_plan s ≡ false → carried_plan s.1 ≡ None
planless (l, flight.Air id g num tag pdu) is = refl
planless (l, flight.Ack id g num) is = refl
planless (l, flight.Tun tag packet) is = refl
planless (l, flight.Sdu id g sdu) is = refl
planless (l, flight.End id g) is = refl
planless (l, flight.Told id g count) is = refl
planless (l, flight.Ctl (rec.Reconf q key)) is = absurd (let bad : true ≡ false = is in cc)
planless (l, flight.Ctl (rec.Rcomp g)) is = refl
planless (l, flight.Ctl (rec.Scgf x)) is = refl
planless (l, flight.Ctl (rec.Recov id)) is = refl
planless (l, flight.Ctl (rec.Recovd id)) is = refl
planless (l, flight.Ctl (rec.Addreq q key)) is = refl
planless (l, flight.Ctl (rec.Addack g)) is = refl
planless (l, flight.Ctl (rec.Addrej g)) is = refl
planless (l, flight.Ctl (rec.Modreq q key)) is = refl
planless (l, flight.Ctl (rec.Modack g)) is = refl
planless (l, flight.Ctl (rec.Modrej g)) is = refl
planless (l, flight.Ctl (rec.Recfg g)) is = refl
planless (l, flight.Ctl (rec.Relreq q)) is = refl
planless (l, flight.Ctl (rec.Relack g)) is = refl
planless (l, flight.Ctl (rec.Relrej g)) is = refl
planless (l, flight.Ctl (rec.Uecr g)) is = refl
planless (l, flight.Ctl (rec.Snst st)) is = refl
planless (l, flight.Ctl (rec.Moved g id)) is = refl
planless (l, flight.Ctl (rec.Scgn id g)) is = refl
planless (l, flight.Ctl rec.Modrqd) is = refl
planless (l, flight.Ctl (rec.Modcnf g)) is = refl
planless (l, flight.Ctl (rec.Modref w)) is = refl
planless (l, flight.Ctl rec.Chgrqd) is = refl
planless (l, flight.Ctl (rec.Chgcnf q)) is = refl
planless (l, flight.Ctl (rec.Chgref w)) is = refl
planless (l, flight.Ctl rec.Relrqd) is = refl
planless (l, flight.Ctl (rec.Relcnf q)) is = refl

module _ (P : Plan → Type 0) where
  filtered : (ss : List Send) → AllByRecursion (OfSend P) ss → AllByRecursion (OfSend P) (filter has_plan ss)
  filtered [] all = tt
  filtered (s ∷ ss) all = elim (cases_Bool (has_plan s)) [ inl yes' ↦ rw yes' (all.0, filtered ss all.1) | inr no' ↦ rw no' (filtered ss all.1) ]

  pub unfiltered : (ss : List Send) → AllByRecursion (OfSend P) (filter has_plan ss) → AllByRecursion (OfSend P) ss
  unfiltered [] all = tt
  unfiltered (s ∷ ss) all =
      elim (cases_Bool (has_plan s)) [
        | inl yes' ↦ let both' = rw yes' at all in (both'.0, unfiltered ss both'.1)
        | inr no' ↦ (subst (OfSome P) (sym (planless s no')) tt, unfiltered ss (rw no' at all))
      ]

  -- of acts
  said_so : (U : ℕ → Type 0) (acts : List Act) → AllByRecursion (OfAct P U) acts → AllByRecursion (OfSend P) (said acts).sends
  said_so U [] all = tt
  said_so U (send to r ∷ acts) all = (all.0.0, said_so U acts all.1)
  said_so U (say n ∷ acts) all = said_so U acts all.1
  said_so U (prepare p ∷ acts) all = said_so U acts all.1
  said_so U (go p ∷ acts) all = said_so U acts all.1
  said_so U (unlock_all g ∷ acts) all = said_so U acts all.1
  said_so U (recover_one id ∷ acts) all = said_so U acts all.1
  said_so U (fail_one id g ∷ acts) all = said_so U acts all.1
  said_so U (pass st ∷ acts) all = said_so U acts all.1

-- ---- steps of the master

both_none : (x : Effects) → both x quiet ≡ x
both_none x = ap (λ ns. record { notes = ns; sends = x.sends ++ [] }) (append-nil x.notes) ∙ ap (λ ss. record { notes = x.notes; sends = ss }) (append-nil x.sends)

did_acts : (c : Choices) (acts : List Act) (k : MasterNode) → list_any is_pass acts ≡ false → in_turn (master_did c) k acts ≡ in_turn (master_act c) k acts
did_acts c [] k none = refl
did_acts c (send to r ∷ acts) k none = let done = master_act c k (send to r) in ap (λ x. after_effects done.1 x) (did_acts c acts done.0 none)
did_acts c (say n ∷ acts) k none = let done = master_act c k (say n) in ap (λ x. after_effects done.1 x) (did_acts c acts done.0 none)
did_acts c (prepare p ∷ acts) k none = let done = master_act c k (prepare p) in ap (λ x. after_effects done.1 x) (did_acts c acts done.0 none)
did_acts c (go p ∷ acts) k none = let done = master_act c k (go p) in ap (λ x. after_effects done.1 x) (did_acts c acts done.0 none)
did_acts c (unlock_all g ∷ acts) k none = let done = master_act c k (unlock_all g) in ap (λ x. after_effects done.1 x) (did_acts c acts done.0 none)
did_acts c (recover_one id ∷ acts) k none = let done = master_act c k (recover_one id) in ap (λ x. after_effects done.1 x) (did_acts c acts done.0 none)
did_acts c (fail_one id g ∷ acts) k none = let done = master_act c k (fail_one id g) in ap (λ x. after_effects done.1 x) (did_acts c acts done.0 none)
did_acts c (pass st ∷ acts) k none = absurd (let bad : true ≡ false = none in cc)

module _ (K : Table → Type 0) (S : Table → Plan → Type 0) (D : Table → Event → Type 0)
    (draws : (t : Table) (e : Event) (d : Draft) → K t → D t e → draft t e ≡ Some d → MayDraw K S t d)
    (may_rekey : (t : Table) → D t event.RekeySecond) (may_change : (t : Table) → is_some t.sec ≡ true → D t event.Change)
    (may_release : (t : Table) → is_release_spent t (draft t event.Release) ≡ false → D t event.Release) (c : Choices) (m : MasterNode) (good : OfProc K S m.proc) where
  -- nothing is asked of what opens
  abbrev Any : ℕ → Type 0
  Any g = ⊤

  abbrev Turn : MasterNode × Effects → Type 0
  Turn done = OfTurn K S done

  of_beside : (done : MasterNode × Effects) → IsBeside m done → Turn done
  of_beside done b = record {
    state = subst (OfProc K S) (sym b.proc) good;
    sends = unfiltered (S done.0.proc.table) done.1.sends (subst (AllByRecursion (OfSend (S done.0.proc.table))) (sym b.quiet.sends) tt);
  }

  of_follows : (r : MasterActs) (done : MasterNode × Effects) → OfStep K S Any r → Follows r done → Turn done
  of_follows r done step f =
      let P : Plan → Type 0 = S done.0.proc.table in
      let acts : AllByRecursion (OfSend P) (said r.1).sends = subst (λ (p : MasterProc). AllByRecursion (OfSend (S p.table)) (said r.1).sends) (sym f.proc) (said_so (S r.0.table) Any r.1 step.acts) in
      record {
        state = subst (OfProc K S) (sym f.proc) step.state;
        sends = unfiltered P done.1.sends (subst (AllByRecursion (OfSend P)) (sym f.says.sends) (filtered P (said r.1).sends acts));
      }

  opens : (p : Plan) (w : Going) → m.proc.command ≡ Some (gone p w) → Any p.g
  opens p w is = tt

  of_either : (done : MasterNode × Effects) → IsBeside m done ⊎ Adopted m done → Turn done
  of_either done (inl b) = of_beside done b
  of_either done (inr a) = of_follows (master_adopted m.proc a.id) done (adopted_step K S D Any draws may_rekey may_change may_release m.proc good opens a.id) a.follows

  of_acts : (r : MasterActs) → OfStep K S Any r → Turn (does c m r)
  of_acts r step = of_follows r (does c m r) step (does_follows c m r)

  module _ (v : View) (agree : Agree v m.proc) where
    of_record : (r : Result MasterActs ProcFault) → TakenIf v m.proc r → Taken K S D Any draws may_rekey may_change may_release r → Turn (record_taken c m r)
    of_record (Err why) taken step = of_beside (m, quiet) (beside_none m)
    of_record (Ok r) (inl g) step = subst Turn (sym (did_acts c r.1 (record m { proc = r.0 }) g.speaks.no_pass)) (of_acts r step)
    of_record (Ok r) (inr p) step =
        let f : AnchorState → AnchorState × AnchorOut = λ a. status_in c a p.status in
        let here = on_waiting c m p.status.id f (held p.status.id m.anchors) in
        let k = of_either here (waiting_did c m p.status.id f (λ a. of_status c a p.status) (held p.status.id m.anchors)) in
        subst (λ (y : MasterActs). Turn (in_turn (master_did c) (record m { proc = y.0 }) y.1)) (sym p.is) (subst (λ x. Turn (here.0, x)) (sym (both_none here.1)) k)

    of_control : (from : Node) (f : Flight) → Turn (control_taken c m from f)
    of_control from (flight.Ctl r) =
        of_record (master_take from m.proc r) (goes_taken v m.proc agree from r) (taken_step K S D Any draws may_rekey may_change may_release m.proc good opens from r)
    of_control from (flight.Air id g num tag pdu) = of_beside (m, quiet) (beside_none m)
    of_control from (flight.Ack id g num) = of_beside (m, quiet) (beside_none m)
    of_control from (flight.Tun tag packet) = of_beside (m, quiet) (beside_none m)
    of_control from (flight.Sdu id g payload) = of_beside (m, quiet) (beside_none m)
    of_control from (flight.End id g) = of_beside (m, quiet) (beside_none m)
    of_control from (flight.Told id g count) = of_beside (m, quiet) (beside_none m)

    -- a flight
    pub of_flight : (from : Node) (f : Flight) (k : Class) → Turn (master_takes c m from f k)
    of_flight from f Ctl = of_control from f
    of_flight from f Feed = of_beside (line_taken m f) (line_did m f)
    of_flight from f Air = of_either _ (air_did c m f)
    of_flight from f Tun = of_either _ (tunnel_did c m f)

  -- ---- its events

  abbrev TurnWith : MasterNode × Outcome → Type 0
  TurnWith done = Turn (done.0, effects_of done.1)

  of_command : (e : Event) (o : Option Refusal) → (o ≡ None → D m.proc.table e) → TurnWith (commanded c m (commands_unless m.proc e o))
  of_command e None may =
      let k = of_acts (commands m.proc e) (commands_step K S D Any draws may_rekey may_change may_release m.proc good opens e (may refl)) in
      record { state = k.state; sends = k.sends }
  of_command e (Some why) may = record { state = good; sends = tt }

  to_it : (n : MasterNode) (o : Option Refusal) (id g : ℕ) (payload : List ℕ) (x : Node) → n.proc ≡ m.proc → TurnWith (unless m o (to_anchor_at c n id g payload x))
  to_it n None id g payload x same =
      let b = to_anchor_did c n id g payload x in
      let k = of_beside (to_anchor_at c n id g payload x) (record { proc = b.proc ∙ same; quiet = b.quiet }) in
      record { state = k.state; sends = k.sends }
  to_it n (Some why) id g payload x same = record { state = good; sends = tt }

  of_submission : (id : ℕ) (payload : List ℕ) (o : Option Row) → TurnWith (submitted c m id payload o)
  of_submission id payload None = record { state = good; sends = tt }
  of_submission id payload (Some r) = by (held id m.windows)
    where
      by : (o : Option Window) → TurnWith (submitted_to c m id payload r o)
      by None = record { state = good; sends = tt }
      by (Some win) = to_it (with_accepted m id win) (first_refusal (submit_refusals r win)) id r.g payload r.anchor refl

  of_question : (id : ℕ) (has : Bool) → TurnWith (report_asked c m id has)
  of_question id false = record { state = good; sends = tt }
  of_question id true =
      let k = of_beside _ (beside_on m id (report c) (of_report c) (held id m.anchors)) in record { state = k.state; sends = k.sends }

  -- an event; if it is a command that is not refused, it may be drawn
  pub of_event : (e : Event) → (first_refusal (command_refusals (length c.policies) m.proc e) ≡ None → D m.proc.table e) → TurnWith (master_event c m e)
  of_event (event.Bearer id n first shape threshold policy) may = of_command (event.Bearer id n first shape threshold policy) (first_refusal (command_refusals (length c.policies) m.proc (event.Bearer id n first shape threshold policy))) may
  of_event (event.Reshape id shape) may = of_command (event.Reshape id shape) (first_refusal (command_refusals (length c.policies) m.proc (event.Reshape id shape))) may
  of_event (event.Remove id) may = of_command (event.Remove id) (first_refusal (command_refusals (length c.policies) m.proc (event.Remove id))) may
  of_event (event.Add node) may = of_command (event.Add node) (first_refusal (command_refusals (length c.policies) m.proc (event.Add node))) may
  of_event event.Change may = of_command event.Change (first_refusal (command_refusals (length c.policies) m.proc event.Change)) may
  of_event event.Release may = of_command event.Release (first_refusal (command_refusals (length c.policies) m.proc event.Release)) may
  of_event event.RekeySecond may = of_command event.RekeySecond (first_refusal (command_refusals (length c.policies) m.proc event.RekeySecond)) may
  of_event (event.RekeyMaster root) may = of_command (event.RekeyMaster root) (first_refusal (command_refusals (length c.policies) m.proc (event.RekeyMaster root))) may
  of_event (event.Recover id) may = of_command (event.Recover id) (first_refusal (command_refusals (length c.policies) m.proc (event.Recover id))) may
  of_event (event.Report node id) may = of_question id (has_bearer m.proc id)
  of_event (event.Submit id d payload) may = of_submission id payload (settled_row m id)
  of_event (event.Deny node on) may = record { state = good; sends = tt }
  of_event (event.Ask node what) may = record { state = good; sends = tt }
  of_event event.ScgFail may = record { state = good; sends = tt }
  of_event (event.Step l i) may = record { state = good; sends = tt }
  of_event (event.Lose l i) may = record { state = good; sends = tt }
  of_event (event.Again l i) may = record { state = good; sends = tt }
