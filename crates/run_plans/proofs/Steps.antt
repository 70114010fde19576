-- Each step of the master, and each event: no command ends, or the plans that are sent are sorted.
use Rattle.std.proofs.Common.{ℕ, ◌≡◌, ◌++◌, ◌==◌, ◌&&◌, Bool, true, false, List, [], ◌∷◌, Option, Some, None, refl, sym, ap, subst, ◌∙◌, inl, inr, ◌⊎◌, length, slice_get}
use Rattle.std.specs.Prelude.{Err, Ok, Result, filter, if◌then◌else◌, is_none, is_some, nat_lt, ⊤}
use Rattle.std.specs.List.{AllByRecursion, list_any}
use Rattle.std.proofs.lemmas.Bool.{cases_Bool}
use Rattle.std.proofs.lemmas.List.{append-nil}
use Rattle.dc_base.specs.Links.{is_ordered, is_tunnel, link}
use Rattle.dc_base.specs.declared.answers.Refusal.{Refusal}
use Rattle.dc_base.specs.declared.answers.Refusal.TheVariants as refusal
use Rattle.dc_base.specs.declared.events.Event.{Event}
use Rattle.dc_base.specs.declared.events.Event.TheVariants as event
use Rattle.dc_base.specs.declared.events.Note.{Note}
use Rattle.dc_base.specs.declared.events.Note.TheVariants as note
use Rattle.dc_base.specs.declared.flights.Flight.{Flight}
use Rattle.dc_base.specs.declared.flights.Flight.TheVariants as flight
use Rattle.dc_base.specs.declared.nodes.Class.{Class}
use Rattle.dc_base.specs.declared.nodes.Class.TheVariants.{Air, Ctl, Feed, Tun}
use Rattle.dc_base.specs.declared.nodes.Dir.TheVariants.{Dl, Ul}
use Rattle.dc_base.specs.declared.nodes.LinkId.{LinkId}
use Rattle.dc_base.specs.declared.nodes.Node.{Node}
use Rattle.dc_base.specs.declared.nodes.Node.TheVariants.{A, B, M, T}
use Rattle.dc_base.specs.declared.records.Plan.{Plan}
use Rattle.dc_base.specs.declared.records.Rec.{Rec}
use Rattle.dc_base.specs.declared.records.Rec.TheVariants as rec
use Rattle.claims.specs.Planned.{plan_in}
use Rattle.node_rules.specs.Acts.{ProcFault, first_refusal}
use Rattle.node_rules.specs.Adopting.{status_in}
use Rattle.node_rules.specs.Anchor.{AnchorState}
use Rattle.node_rules.specs.AnchorSending.{report}
use Rattle.node_rules.specs.Choices.{Choices, Send}
use Rattle.node_rules.specs.Effects.{after_effects, both, in_turn, quiet, unless}
use Rattle.node_rules.specs.Flights.{weight}
use Rattle.node_rules.specs.Held.{held}
use Rattle.node_rules.specs.Lines.{is_end, is_idle_release, opens_release, sends_before}
use Rattle.node_rules.specs.Master.{MasterNode}
use Rattle.node_rules.specs.MasterCommands.{command_refusals, commands, commands_unless}
use Rattle.node_rules.specs.MasterPlan.{does, master_act, master_did, on_waiting}
use Rattle.node_rules.specs.MasterState.{MasterActs, MasterProc, has_bearer}
use Rattle.node_rules.specs.MasterStep.{commanded, control_taken, master_event, master_takes, record_taken, report_asked, settled_row, submit_refusals, submitted, submitted_to, to_anchor_at, with_accepted}
use Rattle.node_rules.specs.MasterTaking.{master_take}
use Rattle.node_rules.specs.Readers.{is_aged_for}
use Rattle.node_rules.specs.Run.{Happening, carried_on, copy_of, given_to, happening, loss_of, node_at, on_links, refused_for, step_of}
use Rattle.node_rules.specs.World.{World, flights_on}
use Rattle.node_rules.specs.declared.acts.Act.{Act}
use Rattle.node_rules.specs.declared.acts.Act.TheVariants.{FailOne as fail_one, Go as go, Pass as pass, Prepare as prepare, RecoverOne as recover_one, Say as say, Send as send, UnlockAll as unlock_all}
use Rattle.node_rules.specs.declared.bearers.Window.{Window}
use Rattle.node_rules.specs.declared.commands.Change.{Change}
use Rattle.node_rules.specs.declared.commands.Row.{Row}
use Rattle.node_rules.specs.declared.inputs.Effects.{Effects}
use Rattle.node_rules.specs.declared.inputs.Input.{Input}
use Rattle.node_rules.specs.declared.inputs.Input.TheVariants.{Cmd, Come}
use Rattle.node_rules.specs.declared.inputs.Outcome.{Outcome}
use Rattle.run_table.specs.Quiet.{Adopted, Follows, HaveNoPlan, IsBeside, IsQuiet, effects_of, has_plan, said, said_by}
use Rattle.run_table.specs.SameTable.{Agree}
use Rattle.run_table.specs.View.{View}
use Rattle.run_table.specs.Words.{is_word}
use Rattle.run_table.proofs.Beside.{air_did, beside_none, beside_on, does_follows, line_did, to_anchor_did, tunnel_did, waiting_did}
use Rattle.run_table.proofs.Others.{second_quiet, terminal_quiet}
use Rattle.run_table.proofs.Procs.{is_pass}
use Rattle.run_table.proofs.Quiet.{of_report, of_status}
use Rattle.run_table.proofs.Records.{Passes, TakenIf, goes_taken}
use Rattle.run_relays.specs.Setups.{no_release}
use Rattle.run_plans.specs.Leading.{IsAsked, Led, LedFrom, Opens, asking_acts, led_acts}
use Rattle.run_plans.specs.Steps.{ArePlanless, IsFollowing, IsSorted, IsStep}
use Rattle.run_plans.proofs.Leading.{FromIf, adopted_acts, command_acts, taken_acts}

-- ---- sends that carry a plan

-- none, or the first of them opens
abbrev OpensFirst : List Send → Type 0
OpensFirst [] = ⊤
OpensFirst (s ∷ ss) = opens_release s ≡ true

-- a record that opens
opening : (l : LinkId) (to : Node) (r : Rec) → Opens (send to r) → (is_some (plan_in r) ≡ true) × (opens_release (l, flight.Ctl r) ≡ true)
opening l to (rec.Reconf q key) opens = (refl, refl)
opening l to (rec.Rcomp g) opens = absurd opens
opening l to (rec.Scgf x) opens = absurd opens
opening l to (rec.Recov id) opens = absurd opens
opening l to (rec.Recovd id) opens = absurd opens
opening l to (rec.Addreq q key) opens = absurd opens
opening l to (rec.Addack g) opens = absurd opens
opening l to (rec.Addrej g) opens = absurd opens
opening l to (rec.Modreq q key) opens = absurd opens
opening l to (rec.Modack g) opens = absurd opens
opening l to (rec.Modrej g) opens = absurd opens
opening l to (rec.Recfg g) opens = absurd opens
opening l to (rec.Relreq q) opens = absurd opens
opening l to (rec.Relack g) opens = absurd opens
opening l to (rec.Relrej g) opens = absurd opens
opening l to (rec.Uecr g) opens = absurd opens
opening l to (rec.Snst st) opens = absurd opens
opening l to (rec.Moved g id) opens = absurd opens
opening l to (rec.Scgn id g) opens = absurd opens
opening l to rec.Modrqd opens = absurd opens
opening l to (rec.Modcnf g) opens = absurd opens
opening l to (rec.Modref w) opens = absurd opens
opening l to rec.Chgrqd opens = absurd opens
opening l to (rec.Chgcnf q) opens = absurd opens
opening l to (rec.Chgref w) opens = absurd opens
opening l to rec.Relrqd opens = absurd opens
opening l to (rec.Relcnf q) opens = (refl, ap (λ (p : Plan). p.g == 0) opens)

-- of acts
said_opens : (acts : List Act) → Led acts → OpensFirst (filter has_plan (said acts).sends)
said_opens [] led = tt
said_opens (send to r ∷ acts) (inl free) = let none : is_some (plan_in r) ≡ false = ap (λ (o : Option Plan). is_some o) free.0 in rw none (said_opens acts free.1)
said_opens (say n ∷ acts) (inl free) = said_opens acts free.1
said_opens (prepare p ∷ acts) (inl free) = said_opens acts free.1
said_opens (go p ∷ acts) (inl free) = said_opens acts free.1
said_opens (unlock_all g ∷ acts) (inl free) = said_opens acts free.1
said_opens (recover_one id ∷ acts) (inl free) = said_opens acts free.1
said_opens (fail_one id g ∷ acts) (inl free) = said_opens acts free.1
said_opens (pass st ∷ acts) (inl free) = said_opens acts free.1
said_opens (send to r ∷ acts) (inr opens) = let is = opening (link M to Ctl) to r opens.0 in rw (is.0) is.1
said_opens (say n ∷ acts) (inr opens) = absurd opens.0
said_opens (prepare p ∷ acts) (inr opens) = absurd opens.0
said_opens (go p ∷ acts) (inr opens) = absurd opens.0
said_opens (unlock_all g ∷ acts) (inr opens) = absurd opens.0
said_opens (recover_one id ∷ acts) (inr opens) = absurd opens.0
said_opens (fail_one id g ∷ acts) (inr opens) = absurd opens.0
said_opens (pass st ∷ acts) (inr opens) = absurd opens.0

-- so those before it carry none
before_opening : (ss : List Send) → OpensFirst (filter has_plan ss) → ArePlanless (sends_before ss)
before_opening [] first = tt
before_opening (s ∷ ss) first =
    elim (cases_Bool (opens_release s)) [
      | inl yes' ↦ rw yes' tt
      | inr no' ↦ elim (cases_Bool (has_plan s)) [
        | inl plan ↦ absurd (let bad : false ≡ true = sym no' ∙ (rw plan at first) in cc)
        | inr none ↦ rw no' (none, before_opening ss (rw none at first))
      ]
    ]

-- ---- notes by which a command ends

end_is_word : (n : Note) → is_word n ≡ false → is_end n ≡ false
end_is_word (note.Begin w) is = absurd (let bad : true ≡ false = is in cc)
end_is_word (note.Join x g) is = refl
end_is_word (note.Leave x g) is = refl
end_is_word (note.Give x id g) is = refl
end_is_word (note.Own x id g) is = refl
end_is_word (note.Set id g) is = refl
end_is_word (note.Unset id) is = refl
end_is_word (note.Up x id d count sdu) is = refl
end_is_word (note.Freed id d count) is = refl
end_is_word (note.Confirmed x) is = refl
end_is_word (note.Refused x w) is = refl
end_is_word note.Done is = absurd (let bad : true ≡ false = is in cc)
end_is_word note.Rejected is = absurd (let bad : true ≡ false = is in cc)

any_end : (notes : List Note) → list_any is_end (filter is_word notes) ≡ false → list_any is_end notes ≡ false
any_end [] none = refl
any_end (n ∷ ns) none =
    elim (cases_Bool (is_word n)) [
      | inl said' ↦ elim (cases_Bool (is_end n)) [
        | inl yes' ↦ absurd (let bad : true ≡ false = rw yes' at (rw said' at none) in cc)
        | inr no' ↦ rw no' (any_end ns (rw no' at (rw said' at none)))
      ]
      | inr quiet' ↦ rw (end_is_word n quiet') (any_end ns (rw quiet' at none))
    ]

fewer_ends : (notes : List Note) → list_any is_end notes ≡ false → list_any is_end (filter is_word notes) ≡ false
fewer_ends [] none = refl
fewer_ends (n ∷ ns) none =
    elim (cases_Bool (is_end n)) [
      | inl yes' ↦ absurd (let bad : true ≡ false = rw yes' at none in cc)
      | inr no' ↦ elim (cases_Bool (is_word n)) [
        | inl said' ↦ rw said' (rw no' (fewer_ends ns (rw no' at none)))
        | inr quiet' ↦ rw quiet' (fewer_ends ns (rw no' at none))
      ]
    ]

-- of acts
asked_endless : (roots : List (List ℕ)) (c : Change) (acts : List Act) → AllByRecursion (IsAsked roots c) acts → list_any is_end (said acts).notes ≡ false
asked_endless roots c [] are = refl
asked_endless roots c (send to r ∷ acts) are = asked_endless roots c acts are.1
asked_endless roots c (say n ∷ acts) are = rw (are.0) (asked_endless roots c acts are.1)
asked_endless roots c (prepare p ∷ acts) are = asked_endless roots c acts are.1
asked_endless roots c (go p ∷ acts) are = asked_endless roots c acts are.1
asked_endless roots c (unlock_all g ∷ acts) are = asked_endless roots c acts are.1
asked_endless roots c (recover_one id ∷ acts) are = asked_endless roots c acts are.1
asked_endless roots c (fail_one id g ∷ acts) are = asked_endless roots c acts are.1
asked_endless roots c (pass st ∷ acts) are = asked_endless roots c acts are.1

-- ---- a step of the master

sorted_quiet : (x : Effects) → IsQuiet x → IsSorted x
sorted_quiet x is = inl (any_end x.notes (ap (λ ns. list_any is_end ns) is.notes))

sorted_follows : (r : MasterActs) (done : MasterNode × Effects) → LedFrom r → Follows r done → IsSorted done.1
sorted_follows r done (led_acts led) f = inr (before_opening done.1.sends (subst OpensFirst (sym f.says.sends) (said_opens r.1 led)))
sorted_follows r done (asking_acts c first who wanted open' are) f =
    inl (any_end done.1.notes (ap (λ ns. list_any is_end ns) f.says.notes ∙ fewer_ends (said r.1).notes (asked_endless r.0.table.book.roots c r.1 are)))

pub sorted_step : (done : MasterNode × Effects) → IsStep done → IsSorted done.1
sorted_step done (inl q) = sorted_quiet done.1 q
sorted_step done (inr f) = sorted_follows f.acts done f.from f.follows

-- ---- what it takes

step_beside : (m : MasterNode) (done : MasterNode × Effects) → IsBeside m done → IsStep done
step_beside m done b = inl b.quiet

step_either : (m : MasterNode) (done : MasterNode × Effects) → IsBeside m done ⊎ Adopted m done → IsStep done
step_either m done (inl b) = inl b.quiet
step_either m done (inr a) = inr (record { acts = _; from = adopted_acts m.proc a.id; follows = a.follows })

step_does : (c : Choices) (m : MasterNode) (r : MasterActs) → LedFrom r → IsStep (does c m r)
step_does c m r from = inr (record { acts = r; from = from; follows = does_follows c m r })

both_none : (x : Effects) → both x quiet ≡ x
both_none x = ap (λ ns. record { notes = ns; sends = x.sends ++ [] }) (append-nil x.notes) ∙ ap (λ ss. record { notes = x.notes; sends = ss }) (append-nil x.sends)

did_acts : (c : Choices) (acts : List Act) (k : MasterNode) → list_any is_pass acts ≡ false → in_turn (master_did c) k acts ≡ in_turn (master_act c) k acts
did_acts c [] k none = refl
did_acts c (send to r ∷ acts) k none = let done = master_act c k (send to r) in ap (λ x. after_effects done.1 x) (did_acts c acts done.0 none)
did_acts c (say n ∷ acts) k none = let done = master_act c k (say n) in ap (λ x. after_effects done.1 x) (did_acts c acts done.0 none)
did_acts c (prepare p ∷ acts) k none = let done = master_act c k (prepare p) in ap (λ x. after_effects done.1 x) (did_acts c acts done.0 none)
did_acts c (go p ∷ acts) k none = let done = master_act c k (go p) in ap (λ x. after_effects done.1 x) (did_acts c acts done.0 none)
did_acts c (unlock_all g ∷ acts) k none = let done = master_act c k (unlock_all g) in ap (λ x. after_effects done.1 x) (did_acts c acts done.0 none)
did_acts c (recover_one id ∷ acts) k none = let done = master_act c k (recover_one id) in ap (λ x. after_effects done.1 x) (did_acts c acts done.0 none)
did_acts c (fail_one id g ∷ acts) k none = let done = master_act c k (fail_one id g) in ap (λ x. after_effects done.1 x) (did_acts c acts done.0 none)
did_acts c (pass st ∷ acts) k none = absurd (let bad : true ≡ false = none in cc)

module _ (c : Choices) (m : MasterNode) (v : View) (agree : Agree v m.proc) where
  step_record : (r : Result MasterActs ProcFault) → TakenIf v m.proc r → FromIf r → IsStep (record_taken c m r)
  step_record (Err why) taken from = step_beside m (m, quiet) (beside_none m)
  step_record (Ok r) (inl g) from = subst IsStep (sym (did_acts c r.1 (record m { proc = r.0 }) g.speaks.no_pass)) (step_does c m r from)
  step_record (Ok r) (inr p) from =
      let f : AnchorState → AnchorState × _ = λ a. status_in c a p.status in
      let here = on_waiting c m p.status.id f (held p.status.id m.anchors) in
      let k = step_either m here (waiting_did c m p.status.id f (λ a. of_status c a p.status) (held p.status.id m.anchors)) in
      subst (λ (y : MasterActs). IsStep (in_turn (master_did c) (record m { proc = y.0 }) y.1)) (sym p.is) (subst (λ x. IsStep (here.0, x)) (sym (both_none here.1)) k)

  step_control : (from : Node) (f : Flight) → IsStep (control_taken c m from f)
  step_control from (flight.Ctl r) = step_record (master_take from m.proc r) (goes_taken v m.proc agree from r) (taken_acts from m.proc r)
  step_control from (flight.Air id g num tag pdu) = step_beside m (m, quiet) (beside_none m)
  step_control from (flight.Ack id g num) = step_beside m (m, quiet) (beside_none m)
  step_control from (flight.Tun tag packet) = step_beside m (m, quiet) (beside_none m)
  step_control from (flight.Sdu id g payload) = step_beside m (m, quiet) (beside_none m)
  step_control from (flight.End id g) = step_beside m (m, quiet) (beside_none m)
  step_control from (flight.Told id g count) = step_beside m (m, quiet) (beside_none m)

  -- a flight
  pub step_flight : (from : Node) (f : Flight) (k : Class) → IsStep (master_takes c m from f k)
  step_flight from f Ctl = step_control from f
  step_flight from f Feed = inl (line_did m f).quiet
  step_flight from f Air = step_either m _ (air_did c m f)
  step_flight from f Tun = step_either m _ (tunnel_did c m f)

-- ---- its events

-- with the outcome
abbrev pub IsStepWith : MasterNode × Outcome → Type 0
IsStepWith done = IsStep (done.0, effects_of done.1)

module _ (c : Choices) (m : MasterNode) where
  step_command : (e : Event) (o : Option Refusal) → IsStepWith (commanded c m (commands_unless m.proc e o))
  step_command e None =
      let done = does c m (commands m.proc e) in
      let f = does_follows c m (commands m.proc e) in
      inr (record { acts = commands m.proc e; from = command_acts m.proc e; follows = record { proc = f.proc; says = record { notes = f.says.notes; sends = f.says.sends } } })
  step_command e (Some why) = inl (record { notes = refl; sends = refl })

  to_it : (n : MasterNode) (o : Option Refusal) (id g : ℕ) (payload : List ℕ) (x : Node) → IsQuiet (effects_of (unless m o (to_anchor_at c n id g payload x)).1)
  to_it n None id g payload x = let b = to_anchor_did c n id g payload x in record { notes = b.quiet.notes; sends = b.quiet.sends }
  to_it n (Some why) id g payload x = record { notes = refl; sends = refl }

  step_submitted : (id : ℕ) (payload : List ℕ) (o : Option Row) → IsQuiet (effects_of (submitted c m id payload o).1)
  step_submitted id payload None = record { notes = refl; sends = refl }
  step_submitted id payload (Some r) = by (held id m.windows)
    where
      by : (o : Option Window) → IsQuiet (effects_of (submitted_to c m id payload r o).1)
      by None = record { notes = refl; sends = refl }
      by (Some win) = to_it (with_accepted m id win) (first_refusal (submit_refusals r win)) id r.g payload r.anchor

  step_report : (id : ℕ) (has : Bool) → IsQuiet (effects_of (report_asked c m id has).1)
  step_report id false = record { notes = refl; sends = refl }
  step_report id true = let b = beside_on m id (report c) (of_report c) (held id m.anchors) in record { notes = b.quiet.notes; sends = b.quiet.sends }

  pub step_event : (e : Event) → IsStepWith (master_event c m e)
  step_event (event.Bearer id n first shape threshold policy) = step_command (event.Bearer id n first shape threshold policy) (first_refusal (command_refusals (length c.policies) m.proc (event.Bearer id n first shape threshold policy)))
  step_event (event.Reshape id shape) = step_command (event.Reshape id shape) (first_refusal (command_refusals (length c.policies) m.proc (event.Reshape id shape)))
  step_event (event.Remove id) = step_command (event.Remove id) (first_refusal (command_refusals (length c.policies) m.proc (event.Remove id)))
  step_event (event.Add node) = step_command (event.Add node) (first_refusal (command_refusals (length c.policies) m.proc (event.Add node)))
  step_event event.Change = step_command event.Change (first_refusal (command_refusals (length c.policies) m.proc event.Change))
  step_event event.Release = step_command event.Release (first_refusal (command_refusals (length c.policies) m.proc event.Release))
  step_event event.RekeySecond = step_command event.RekeySecond (first_refusal (command_refusals (length c.policies) m.proc event.RekeySecond))
  step_event (event.RekeyMaster root) = step_command (event.RekeyMaster root) (first_refusal (command_refusals (length c.policies) m.proc (event.RekeyMaster root)))
  step_event (event.Recover id) = step_command (event.Recover id) (first_refusal (command_refusals (length c.policies) m.proc (event.Recover id)))
  step_event (event.Report node id) = inl (step_report id (has_bearer m.proc id))
  step_event (event.Submit id d payload) = inl (step_submitted id payload (settled_row m id))
  step_event (event.Deny node on) = inl (record { notes = refl; sends = refl })
  step_event (event.Ask node what) = inl (record { notes = refl; sends = refl })
  step_event event.ScgFail = inl (record { notes = refl; sends = refl })
  step_event (event.Step l i) = inl (record { notes = refl; sends = refl })
  step_event (event.Lose l i) = inl (record { notes = refl; sends = refl })
  step_event (event.Again l i) = inl (record { notes = refl; sends = refl })

-- ---- any event

module _ (c : Choices) (w : World) (v : View) (agree : Agree v w.master.proc) where
  -- of what happens
  abbrev SortedIn : Happening → Type 0
  SortedIn h = IsSorted (effects_of (carried_on c w h).1)

  sorted_given : (e : Event) (x : Node) → SortedIn (given_to x (Cmd e))
  sorted_given e T = sorted_quiet _ (terminal_quiet c w.terminal (Cmd e))
  sorted_given e M = let done = master_event c w.master e in sorted_step (done.0, effects_of done.1) (step_event c w.master e)
  sorted_given e A = sorted_quiet _ (second_quiet c w.a (Cmd e))
  sorted_given e B = sorted_quiet _ (second_quiet c w.b (Cmd e))

  sorted_come : (l : LinkId) (f : Flight) (x : Node) → SortedIn (given_to x (Come l f))
  sorted_come l f T = sorted_quiet _ (terminal_quiet c w.terminal (Come l f))
  sorted_come l f M = sorted_step (master_takes c w.master l.from f l.class) (step_flight c w.master v agree l.from f l.class)
  sorted_come l f A = sorted_quiet _ (second_quiet c w.a (Come l f))
  sorted_come l f B = sorted_quiet _ (second_quiet c w.b (Come l f))

  sorted_stepped : (l : LinkId) (i : ℕ) (o : Option Flight) → SortedIn (step_of w l i o)
  sorted_stepped l i None = inl refl
  sorted_stepped l i (Some f) =
      elim (cases_Bool (is_ordered l.class && nat_lt 0 i)) [
        | inl behind ↦ rw behind (inl refl)
        | inr first ↦ elim (cases_Bool (is_aged_for (node_at w l.to) (weight f))) [
          | inl aged ↦ rw (first, aged) (inl refl)
          | inr fresh ↦ rw (first, fresh) (sorted_come l f l.to)
        ]
      ]

  sorted_loss : (in_it : Bool) (o : Option Flight) → SortedIn (if in_it then loss_of o else refused_for refusal.NotTunnel)
  sorted_loss false o = inl refl
  sorted_loss true None = inl refl
  sorted_loss true (Some f) = inl refl

  sorted_copy : (l : LinkId) (in_it : Bool) (o : Option Flight) → SortedIn (if in_it then copy_of l o else refused_for refusal.NotTunnel)
  sorted_copy l false o = inl refl
  sorted_copy l true None = inl refl
  sorted_copy l true (Some f) = inl refl

  pub sorted_event : (e : Event) → SortedIn (happening w e)
  sorted_event (event.Bearer id n first shape threshold policy) = sorted_given (event.Bearer id n first shape threshold policy) M
  sorted_event (event.Reshape id shape) = sorted_given (event.Reshape id shape) M
  sorted_event (event.Remove id) = sorted_given (event.Remove id) M
  sorted_event (event.Add node) = sorted_given (event.Add node) M
  sorted_event event.Change = sorted_given event.Change M
  sorted_event event.Release = sorted_given event.Release M
  sorted_event event.RekeySecond = sorted_given event.RekeySecond M
  sorted_event (event.RekeyMaster root) = sorted_given (event.RekeyMaster root) M
  sorted_event (event.Recover id) = sorted_given (event.Recover id) M
  sorted_event (event.Report node id) = sorted_given (event.Report node id) node
  sorted_event (event.Deny node on) = sorted_given (event.Deny node on) node
  sorted_event (event.Ask node what) = sorted_given (event.Ask node what) node
  sorted_event event.ScgFail = sorted_given event.ScgFail T
  sorted_event (event.Submit id Ul payload) = sorted_given (event.Submit id Ul payload) T
  sorted_event (event.Submit id Dl payload) = sorted_given (event.Submit id Dl payload) M
  sorted_event (event.Step l i) = sorted_stepped l i (slice_get (flights_on l w.links) i)
  sorted_event (event.Lose l i) = sorted_loss (is_tunnel l.class) (slice_get (flights_on l w.links) i)
  sorted_event (event.Again l i) = sorted_copy l (is_tunnel l.class) (slice_get (flights_on l w.links) i)
