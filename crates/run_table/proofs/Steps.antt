-- Each event of a run keeps both tables the same.
use Rattle.std.proofs.Common.{ℕ, zero, suc, ◌≡◌, ◌==◌, ◌&&◌, Bool, true, false, List, [], ◌∷◌, Option, Some, None, refl, sym, ap, ap₂, subst, ◌∙◌, inl, inr, ◌⊎◌}
use Rattle.std.specs.Prelude.{Ok, Err, Result, filter, find, fold, is_none, is_some, length, nat_lt, not, slice_get, ⊤}
use Rattle.std.specs.List.{AllByRecursion, list_any}
use Rattle.std.proofs.lemmas.Bool.{cases_Bool}
use Rattle.std.proofs.lemmas.List.{append-nil}
use Rattle.dc_base.specs.Links.{is_ordered}
use Rattle.dc_base.specs.declared.answers.Answer.{Answer}
use Rattle.dc_base.specs.declared.answers.Answer.TheVariants as answer
use Rattle.dc_base.specs.declared.answers.Refusal.{Refusal}
use Rattle.dc_base.specs.declared.events.Event.{Event}
use Rattle.dc_base.specs.declared.events.Event.TheVariants as event
use Rattle.dc_base.specs.declared.events.Header.{Header}
use Rattle.dc_base.specs.declared.events.Line.{Line}
use Rattle.dc_base.specs.declared.flights.Flight.{Flight}
use Rattle.dc_base.specs.declared.flights.Flight.TheVariants as flight
use Rattle.dc_base.specs.declared.nodes.Cell.TheVariants as cell
use Rattle.dc_base.specs.declared.nodes.Class.{Class}
use Rattle.dc_base.specs.declared.nodes.Class.TheVariants.{Air, Ctl, Feed, Tun}
use Rattle.dc_base.specs.declared.nodes.LinkId.{LinkId}
use Rattle.dc_base.specs.declared.nodes.Node.{Node}
use Rattle.dc_base.specs.declared.nodes.Node.TheVariants.{A, B, M, T}
use Rattle.dc_base.specs.declared.nodes.Shape.{Shape}
use Rattle.dc_base.specs.declared.records.Rec.TheVariants as rec
use Rattle.dc_base.specs.declared.records.StatusTransfer.{StatusTransfer}
use Rattle.claims.specs.Judged.{lost_command}
use Rattle.claims.specs.Links.{find_at}
use Rattle.claims.specs.Noted.{after}
use Rattle.claims.specs.Past.{Past, new_past}
use Rattle.claims.specs.Table as claims
use Rattle.claims.specs.Views.{forwarding_of}
use Rattle.transcript.specs.Transcript.{sends}
use Rattle.node_rules.specs.Acts.{ProcFault, first_refusal}
use Rattle.node_rules.specs.Adopting.{status_in}
use Rattle.node_rules.specs.Anchor.{AnchorState}
use Rattle.node_rules.specs.AnchorReceiving.{air_in, tunnel_in}
use Rattle.node_rules.specs.AnchorSending.{report}
use Rattle.node_rules.specs.Choices.{Choices, Send}
use Rattle.node_rules.specs.CommandTable.{row}
use Rattle.node_rules.specs.Effects.{after_effects, both, in_turn, quiet, unless}
use Rattle.node_rules.specs.Flights.{flight_named, weight}
use Rattle.node_rules.specs.Held.{held}
use Rattle.node_rules.specs.HostRules.{host_air_in, host_tunnel_in}
use Rattle.node_rules.specs.Lines.{lines_of}
use Rattle.node_rules.specs.Master.{MasterNode, on_anchor}
use Rattle.node_rules.specs.MasterCommands.{command_refusals, commands, commands_unless, recovers_at, recovers_row}
use Rattle.node_rules.specs.MasterPlan.{does, master_act, master_did, on_waiting}
use Rattle.node_rules.specs.MasterState.{MasterActs, MasterProc, has_bearer}
use Rattle.node_rules.specs.MasterStep.{commanded, control_taken, data_taken, line_taken, master_event, master_takes, record_taken, report_asked, settled_row, submit_refusals, submitted, submitted_to, to_anchor_at, with_accepted}
use Rattle.node_rules.specs.MasterTaking.{master_take}
use Rattle.node_rules.specs.Places.{anchor_at, node_or_master}
use Rattle.node_rules.specs.Readers.{is_aged_for}
use Rattle.node_rules.specs.Run.{carried_on, copy_of, happening, in_tunnel, loss_of, node_at, step_of, submitter, takes, world_step}
use Rattle.node_rules.specs.SecondStep.{second_step}
use Rattle.node_rules.specs.Terminal.{terminal_step}
use Rattle.node_rules.specs.World.{World, flights_on, new_world}
use Rattle.node_rules.specs.declared.acts.Act.{Act}
use Rattle.node_rules.specs.declared.acts.Act.TheVariants.{FailOne as fail_one, Go as go, Pass as pass, Prepare as prepare, RecoverOne as recover_one, Say as say, Send as send, UnlockAll as unlock_all}
use Rattle.node_rules.specs.declared.bearers.AnchorOut.{AnchorOut}
use Rattle.node_rules.specs.declared.bearers.Window.{Window}
use Rattle.node_rules.specs.declared.commands.Command.{Command}
use Rattle.node_rules.specs.declared.commands.Command.TheVariants.{Asked as asked, Gone as gone, Recovering as recovering}
use Rattle.node_rules.specs.declared.commands.Row.{Row}
use Rattle.node_rules.specs.declared.inputs.Effects.{Effects}
use Rattle.node_rules.specs.declared.inputs.Input.TheVariants.{Cmd, Come}
use Rattle.node_rules.specs.declared.inputs.Outcome.{Outcome}
use Rattle.run_table.specs.Orders.{OrderFits, before_order}
use Rattle.run_table.specs.Quiet.{Adopted, Follows, IsBeside, IsQuiet, effects_of, has_plan, said}
use Rattle.run_control.specs.Sound.{AddsSecond, IsSecond}
use Rattle.run_table.specs.SameTable.{Agree, NoOrderInTunnels, SameCommand}
use Rattle.run_table.specs.View.{View, planned, view}
use Rattle.run_table.specs.Words.{Words, by_words, hears, is_order_sent, is_word, is_word_line, lines_in, no_words, notes_of, order_sends, orders}
use Rattle.run_table.proofs.Beginnings.{begins_it}
use Rattle.run_table.proofs.Beside.{air_did, beside_none, beside_on, does_follows, line_did, to_anchor_did, tunnel_did, waiting_did}
use Rattle.run_table.proofs.LineWords.{heard_lines, lines_words, orders_sent}
use Rattle.run_table.proofs.Others.{second_quiet, terminal_quiet}
use Rattle.run_table.proofs.Procs.{Goes, but_command, is_pass, stays}
use Rattle.run_table.proofs.Quiet.{of_report, of_status}
use Rattle.run_table.proofs.Records.{TakenIf, goes_adopted, goes_taken}
use Rattle.run_table.proofs.Views.{after_view, hears_answer, hears_event, loses, loses_flight, recovers}

-- ---- orders are among the sends that carry a plan

planless : (s : Send) → has_plan s ≡ false → is_order_sent s ≡ false
planless (l, flight.Air id g num tag pdu) is = refl
planless (l, flight.Ack id g num) is = refl
planless (l, flight.Tun tag packet) is = refl
planless (l, flight.Sdu id g sdu) is = refl
planless (l, flight.End id g) is = refl
planless (l, flight.Told id g count) is = refl
planless (l, flight.Ctl (rec.Reconf q key)) is = absurd cc
planless (l, flight.Ctl (rec.Rcomp g)) is = refl
planless (l, flight.Ctl (rec.Scgf pairs)) is = refl
planless (l, flight.Ctl (rec.Recov id)) is = refl
planless (l, flight.Ctl (rec.Recovd id)) is = refl
planless (l, flight.Ctl (rec.Addreq q key)) is = refl
planless (l, flight.Ctl (rec.Addack g)) is = refl
planless (l, flight.Ctl (rec.Addrej g)) is = refl
planless (l, flight.Ctl (rec.Modreq q key)) is = refl
planless (l, flight.Ctl (rec.Modack g)) is = refl
planless (l, flight.Ctl (rec.Modrej g)) is = refl
planless (l, flight.Ctl (rec.Recfg g)) is = refl
planless (l, flight.Ctl (rec.Relreq q)) is = refl
planless (l, flight.Ctl (rec.Relack g)) is = refl
planless (l, flight.Ctl (rec.Relrej g)) is = refl
planless (l, flight.Ctl (rec.Uecr g)) is = refl
planless (l, flight.Ctl (rec.Snst s)) is = refl
planless (l, flight.Ctl (rec.Moved g id)) is = refl
planless (l, flight.Ctl (rec.Scgn id g)) is = refl
planless (l, flight.Ctl rec.Modrqd) is = refl
planless (l, flight.Ctl (rec.Modcnf g)) is = refl
planless (l, flight.Ctl (rec.Modref w)) is = refl
planless (l, flight.Ctl rec.Chgrqd) is = refl
planless (l, flight.Ctl (rec.Chgcnf q)) is = refl
planless (l, flight.Ctl (rec.Chgref w)) is = refl
planless (l, flight.Ctl rec.Relrqd) is = refl
planless (l, flight.Ctl (rec.Relcnf q)) is = refl

orders_planned : (ss : List Send) → filter is_order_sent ss ≡ filter is_order_sent (filter has_plan ss)
orders_planned [] = refl
orders_planned (s ∷ ss) =
    elim (cases_Bool (has_plan s)) [
      | inl yes' ↦ elim (cases_Bool (is_order_sent s)) [
        | inl order ↦ rw yes' (rw order (ap (λ xs. s ∷ xs) (orders_planned ss)))
        | inr other ↦ rw yes' (rw other (orders_planned ss))
      ]
      | inr no' ↦ rw no' (rw (planless s no') (orders_planned ss))
    ]

-- ---- an outcome

-- the outcome says these words, and after them both tables agree
record Keeps (v : View) (m : MasterProc) (x : Effects) : Type 0 where
  words : Words
  notes : filter is_word x.notes ≡ notes_of words
  orders : filter is_order_sent x.sends ≡ order_sends words.order
  agree : Agree (by_words words v) m
  fits : OrderFits (before_order words v) words.order

keeps_goes : (v : View) (r : MasterActs) (done : MasterNode × Effects) → Goes v r → Follows r done → Keeps v done.0.proc done.1
keeps_goes v r done g f = record {
  words = g.words;
  notes = f.says.notes ∙ g.speaks.notes;
  orders = orders_planned done.1.sends ∙ ap (λ ss. filter is_order_sent ss) f.says.sends ∙ sym (orders_planned (said r.1).sends) ∙ g.speaks.orders;
  agree = subst (λ p. Agree (by_words g.words v) p) (sym f.proc) g.agree;
  fits = g.fits;
}

keeps_quiet : (v : View) (m : MasterProc) (x : Effects) → IsQuiet x → Agree v m → Keeps v m x
keeps_quiet v m x q agree = record {
  words = no_words;
  notes = q.notes;
  orders = orders_planned x.sends ∙ ap (λ ss. filter is_order_sent ss) q.sends;
  agree = agree;
  fits = tt;
}

keeps_beside : (v : View) (m : MasterNode) (done : MasterNode × Effects) → Agree v m.proc → IsBeside m done → Keeps v done.0.proc done.1
keeps_beside v m done agree b = keeps_quiet v done.0.proc done.1 b.quiet (subst (λ p. Agree v p) (sym b.proc) agree)

keeps_either : (v : View) (m : MasterNode) (done : MasterNode × Effects) → Agree v m.proc → IsBeside m done ⊎ Adopted m done → Keeps v done.0.proc done.1
keeps_either v m done agree (inl b) = keeps_beside v m done agree b
keeps_either v m done agree (inr a) = keeps_goes v _ done (goes_adopted v m.proc agree a.id) a.follows

-- after lines both agree, and the only order among them is one to the terminal, on its link
pub record After (v : View) (m : MasterProc) (lines : List Line) : Type 0 where
  pub agree : Agree (fold hears v lines) m
  pub words : Words
  pub said : filter is_word_line lines ≡ lines_in (notes_of words) (order_sends words.order)
  pub fits : OrderFits (before_order words v) words.order
  pub sent : filter is_order_sent (sends lines) ≡ order_sends words.order

-- so it is of the lines of an outcome
heard : (v : View) (m : MasterProc) (o : Outcome) → Keeps v m (effects_of o) → After v m (lines_of o)
heard v m o k = record {
  agree = subst (λ u. Agree u m) (sym (heard_lines o k.words v k.notes k.orders)) k.agree;
  words = k.words;
  said = lines_words o k.words k.notes k.orders;
  fits = k.fits;
  sent = orders_sent o k.words k.notes k.orders;
}

-- and of none
no_lines : (v : View) (m : MasterProc) → Agree v m → After v m []
no_lines v m agree = record { agree = agree; words = no_words; said = refl; fits = tt; sent = refl }

-- ---- what the master takes

did_acts : (c : Choices) (acts : List Act) (m : MasterNode) → list_any is_pass acts ≡ false → in_turn (master_did c) m acts ≡ in_turn (master_act c) m acts
did_acts c [] m none = refl
did_acts c (send to r ∷ acts) m none = let done = master_act c m (send to r) in ap (λ x. after_effects done.1 x) (did_acts c acts done.0 none)
did_acts c (prepare p ∷ acts) m none = let done = master_act c m (prepare p) in ap (λ x. after_effects done.1 x) (did_acts c acts done.0 none)
did_acts c (go p ∷ acts) m none = let done = master_act c m (go p) in ap (λ x. after_effects done.1 x) (did_acts c acts done.0 none)
did_acts c (unlock_all g ∷ acts) m none = let done = master_act c m (unlock_all g) in ap (λ x. after_effects done.1 x) (did_acts c acts done.0 none)
did_acts c (say n ∷ acts) m none = let done = master_act c m (say n) in ap (λ x. after_effects done.1 x) (did_acts c acts done.0 none)
did_acts c (recover_one id ∷ acts) m none = let done = master_act c m (recover_one id) in ap (λ x. after_effects done.1 x) (did_acts c acts done.0 none)
did_acts c (fail_one id g ∷ acts) m none = let done = master_act c m (fail_one id g) in ap (λ x. after_effects done.1 x) (did_acts c acts done.0 none)
did_acts c (pass st ∷ acts) m none = absurd cc

-- nothing comes after it
both_none : (x : Effects) → both x quiet ≡ x
both_none x = ap₂ (λ ns ss. record { notes = ns; sends = ss }) (append-nil x.notes) (append-nil x.sends)

did_pass : (c : Choices) (m : MasterNode) (v : View) (st : StatusTransfer) → Agree v m.proc
    → let done = in_turn (master_did c) m (pass st ∷ []) in Keeps v done.0.proc done.1
did_pass c m v st agree =
    let f : AnchorState → AnchorState × AnchorOut = λ a. status_in c a st in
    let here = on_waiting c m st.id f (held st.id m.anchors) in
    let k = keeps_either v m here agree (waiting_did c m st.id f (λ a. of_status c a st) (held st.id m.anchors)) in
    subst (λ x. Keeps v here.0.proc x) (sym (both_none here.1)) k

did_record : (c : Choices) (m : MasterNode) (v : View) → Agree v m.proc → (r : Result MasterActs ProcFault) → TakenIf v m.proc r → let done = record_taken c m r in Keeps v done.0.proc done.1
did_record c m v agree (Err why) taken = keeps_beside v m (m, quiet) agree (beside_none m)
did_record c m v agree (Ok r) (inl g) =
    let is = did_acts c r.1 (record m { proc = r.0 }) g.speaks.no_pass in
    subst (λ (done : MasterNode × Effects). Keeps v done.0.proc done.1) (sym is) (keeps_goes v r (does c m r) g (does_follows c m r))
did_record c m v agree (Ok r) (inr p) =
    subst (λ (x : MasterActs). let done = in_turn (master_did c) (record m { proc = x.0 }) x.1 in Keeps v done.0.proc done.1) (sym p.is) (did_pass c m v p.status agree)

takes_control : (c : Choices) (m : MasterNode) (v : View) (from : Node) (f : Flight) → Agree v m.proc → let done = control_taken c m from f in Keeps v done.0.proc done.1
takes_control c m v from (flight.Ctl r) agree = did_record c m v agree (master_take from m.proc r) (goes_taken v m.proc agree from r)
takes_control c m v from (flight.Air id g num tag pdu) agree = keeps_beside v m (m, quiet) agree (beside_none m)
takes_control c m v from (flight.Ack id g num) agree = keeps_beside v m (m, quiet) agree (beside_none m)
takes_control c m v from (flight.Tun tag packet) agree = keeps_beside v m (m, quiet) agree (beside_none m)
takes_control c m v from (flight.Sdu id g payload) agree = keeps_beside v m (m, quiet) agree (beside_none m)
takes_control c m v from (flight.End id g) agree = keeps_beside v m (m, quiet) agree (beside_none m)
takes_control c m v from (flight.Told id g count) agree = keeps_beside v m (m, quiet) agree (beside_none m)

takes_flight : (c : Choices) (m : MasterNode) (v : View) (from : Node) (f : Flight) (k : Class) → Agree v m.proc → let done = master_takes c m from f k in Keeps v done.0.proc done.1
takes_flight c m v from f Ctl agree = takes_control c m v from f agree
takes_flight c m v from f Feed agree = keeps_beside v m (line_taken m f) agree (line_did m f)
takes_flight c m v from f Air agree =
    keeps_either v m (data_taken c m (λ a. air_in a cell.Mcg f) (λ h. host_air_in h f) (flight_named f)) agree (air_did c m f)
takes_flight c m v from f Tun agree =
    keeps_either v m (data_taken c m (λ a. tunnel_in c a f) (λ h. host_tunnel_in h f) (flight_named f)) agree (tunnel_did c m f)

-- ---- commands

-- no refusal of a row holds
none_of : (bs : List (Bool × Refusal)) → first_refusal bs ≡ None → AllByRecursion (λ (b : Bool × Refusal). b.0 ≡ false) bs
none_of [] none = tt
none_of ((true, w) ∷ more) none = absurd cc
none_of ((false, w) ∷ more) none = (refl, none_of more none)

is_there : (o : Option Node) → is_none o ≡ false → is_some o ≡ true
is_there None is = absurd cc
is_there (Some x) is = refl

is_not_there : (o : Option Node) → not (is_none o) ≡ false → o ≡ None
is_not_there None is = refl
is_not_there (Some x) is = absurd cc

-- a row that is found is one of them
found_so : (P : Row → Type 0) (id : ℕ) (rows : List Row) (r : Row) → AllByRecursion P rows → find (λ x. x.id == id) rows ≡ Some r → P r
found_so P id [] r all is = absurd cc
found_so P id (x ∷ xs) r all is =
    elim (cases_Bool (x.id == id)) [
      | inl here ↦ let same : x ≡ r = let e = rw here at is in cc in subst P same all.0
      | inr apart ↦ found_so P id xs r all.1 (rw apart at is)
    ]

-- the anchor of a bearer is not at the terminal
abbrev IsInNetwork : Node → Type 0
IsInNetwork T = ⊥
IsInNetwork M = ⊤
IsInNetwork A = ⊤
IsInNetwork B = ⊤

second_there : (sec : Option Node) → IsSecond sec → IsInNetwork (node_or_master sec)
second_there None is = tt
second_there (Some A) is = tt
second_there (Some B) is = tt
second_there (Some M) is = tt
second_there (Some T) is = absurd cc

anchor_there : (sec : Option Node) (s : Shape) → IsSecond sec → IsInNetwork (anchor_at sec s)
anchor_there sec s is = elim (cases_Bool s.at_second) [ inl yes' ↦ rw yes' (second_there sec is) | inr no' ↦ rw no' tt ]

module _ (v : View) (m : MasterProc) (agree : Agree v m) where
  recovers_there : (id : ℕ) (x : Node) → IsInNetwork x → Goes (recovers id v) (recovers_at m id x)
  recovers_there id M is = stays (recovers id v) (record m { command = Some (recovering id true None) }) (send T (rec.Recov id) ∷ recover_one id ∷ []) (record { notes = refl; orders = refl; no_pass = refl }) (recovering_agrees None)
    where
      recovering_agrees : (o : Option Node) → Agree (recovers id v) (record m { command = Some (recovering id true o) })
      recovering_agrees o = record {
        same = record { rest = but_command v.table m.table (recovers id v).table.command agree.same.rest; command = refl };
        sound = record { placed = agree.sound.placed; rows = agree.sound.rows; claims = agree.sound.claims; open_fits = tt };
      }
  recovers_there id A is = stays (recovers id v) (record m { command = Some (recovering id true (Some A)) }) (send T (rec.Recov id) ∷ send A (rec.Recov id) ∷ []) (record { notes = refl; orders = refl; no_pass = refl }) (record {
    same = record { rest = but_command v.table m.table (recovers id v).table.command agree.same.rest; command = refl };
    sound = record { placed = agree.sound.placed; rows = agree.sound.rows; claims = agree.sound.claims; open_fits = tt };
  })
  recovers_there id B is = stays (recovers id v) (record m { command = Some (recovering id true (Some B)) }) (send T (rec.Recov id) ∷ send B (rec.Recov id) ∷ []) (record { notes = refl; orders = refl; no_pass = refl }) (record {
    same = record { rest = but_command v.table m.table (recovers id v).table.command agree.same.rest; command = refl };
    sound = record { placed = agree.sound.placed; rows = agree.sound.rows; claims = agree.sound.claims; open_fits = tt };
  })
  recovers_there id T is = absurd is

  recovers_row_of : (id : ℕ) (o : Option Row) → row m.table id ≡ o → is_some o ≡ true → Goes (recovers id v) (recovers_row m id o)
  recovers_row_of id None is there = absurd cc
  recovers_row_of id (Some r) is there =
      let at : r.anchor ≡ anchor_at m.table.sec r.shape = found_so (λ (x : Row). x.anchor ≡ anchor_at m.table.sec x.shape) id m.table.rows r agree.sound.placed.anchors is in
      recovers_there id r.anchor (subst IsInNetwork (sym at) (anchor_there m.table.sec r.shape agree.sound.placed.second))

has_row : (m : MasterProc) (id : ℕ) → not (has_bearer m id) ≡ false → is_some (row m.table id) ≡ true
has_row m id is =
    elim (cases_Bool (is_some (row m.table id))) [ inl yes' ↦ yes' | inr no' ↦ let n = rw no' at is in absurd cc ]

-- what it does, if it is one of the master's
abbrev CommandGoes : Past → View → MasterProc → Event → Type 0
CommandGoes p v m (event.Bearer id n first shape threshold policy) = Goes (hears_event p (event.Bearer id n first shape threshold policy) v) (commands m (event.Bearer id n first shape threshold policy))
CommandGoes p v m (event.Reshape id shape) = Goes (hears_event p (event.Reshape id shape) v) (commands m (event.Reshape id shape))
CommandGoes p v m (event.Remove id) = Goes (hears_event p (event.Remove id) v) (commands m (event.Remove id))
CommandGoes p v m (event.Add node) = Goes (hears_event p (event.Add node) v) (commands m (event.Add node))
CommandGoes p v m event.Change = Goes (hears_event p event.Change v) (commands m event.Change)
CommandGoes p v m event.Release = Goes (hears_event p event.Release v) (commands m event.Release)
CommandGoes p v m event.RekeySecond = Goes (hears_event p event.RekeySecond v) (commands m event.RekeySecond)
CommandGoes p v m (event.RekeyMaster root) = Goes (hears_event p (event.RekeyMaster root) v) (commands m (event.RekeyMaster root))
CommandGoes p v m (event.Recover id) = Goes (hears_event p (event.Recover id) v) (commands m (event.Recover id))
CommandGoes p v m _ = ⊤

-- a command that is not refused
pub goes_command : (n : ℕ) (p : Past) (v : View) (m : MasterProc) (e : Event) → AddsSecond e → Agree v m → first_refusal (command_refusals n m e) ≡ None → CommandGoes p v m e
goes_command k p v m (event.Bearer id n first shape threshold policy) names agree none =
    let e = event.Bearer id n first shape threshold policy in
    let all = none_of (command_refusals k m e) none in
    (begins_it v m e None agree all.1.1.0 tt false _ refl).goes
goes_command k p v m (event.Reshape id shape) names agree none =
    let all = none_of (command_refusals k m (event.Reshape id shape)) none in
    (begins_it v m (event.Reshape id shape) None agree all.1.1.0 tt false _ refl).goes
goes_command k p v m (event.Remove id) names agree none = (begins_it v m (event.Remove id) None agree tt tt false _ refl).goes
goes_command k p v m (event.Add node) names agree none =
    let all = none_of (command_refusals k m (event.Add node)) none in
    (begins_it v m (event.Add node) None agree (is_not_there m.table.sec all.1.0, names) tt false _ refl).goes
goes_command k p v m event.Change names agree none =
    let all = none_of (command_refusals k m event.Change) none in
    let there = is_there m.table.sec all.1.0 in
    (begins_it v m event.Change None agree there there false _ refl).goes
goes_command k p v m event.Release names agree none = (begins_it v m event.Release None agree tt tt false _ refl).goes
goes_command k p v m event.RekeySecond names agree none = (begins_it v m event.RekeySecond None agree tt tt false _ refl).goes
goes_command k p v m (event.RekeyMaster root) names agree none = (begins_it v m (event.RekeyMaster root) None agree tt tt false _ refl).goes
goes_command k p v m (event.Recover id) names agree none =
    let all = none_of (command_refusals k m (event.Recover id)) none in
    recovers_row_of v m agree id (row m.table id) refl (has_row m id all.1.0)
goes_command k p v m (event.Report node id) names agree none = tt
goes_command k p v m (event.Deny node on) names agree none = tt
goes_command k p v m (event.Ask node what) names agree none = tt
goes_command k p v m event.ScgFail names agree none = tt
goes_command k p v m (event.Submit id d payload) names agree none = tt
goes_command k p v m (event.Step l i) names agree none = tt
goes_command k p v m (event.Lose l i) names agree none = tt
goes_command k p v m (event.Again l i) names agree none = tt

-- ---- losses

lost_so : (v : View) (g : ℕ) (o : Option Command) (k : Option claims.Command) → SameCommand v o k → SameCommand v o (lost_command g k)
lost_so v g None None is = tt
lost_so v g None (Some k) is = absurd is
lost_so v g (Some (asked ch first who wanted)) None is = absurd is
lost_so v g (Some (asked ch first who wanted)) (Some k) is =
    (record { kind = is.0.kind; carried = is.0.carried; last = is.0.last }, record { root = is.1.root; second_key = is.1.second_key; plan = is.1.plan })
lost_so v g (Some (gone plan going)) None is = absurd is
lost_so v g (Some (gone plan going)) (Some k) is = record { kind = is.kind; carried = is.carried; last = is.last }
lost_so v g (Some (recovering id terminal second)) None is = absurd is
lost_so v g (Some (recovering id terminal second)) (Some k) is = is

same_view : (v u : View) (o : Option Command) (k : Option claims.Command) → u.plans ≡ v.plans → u.table.last ≡ v.table.last → SameCommand v o k → SameCommand u o k
same_view v u None None plans last is = tt
same_view v u None (Some k) plans last is = absurd is
same_view v u (Some (asked ch first who wanted)) None plans last is = absurd is
same_view v u (Some (asked ch first who wanted)) (Some k) plans last is = (
  record { kind = is.0.kind; carried = is.0.carried; last = is.0.last ∙ sym last },
  record { root = is.1.root; second_key = is.1.second_key; plan = ap (λ qs. planned qs ch.plan.g) plans ∙ is.1.plan },
)
same_view v u (Some (gone plan going)) None plans last is = absurd is
same_view v u (Some (gone plan going)) (Some k) plans last is = record { kind = is.kind; carried = is.carried; last = is.last ∙ sym last }
same_view v u (Some (recovering id terminal second)) None plans last is = absurd is
same_view v u (Some (recovering id terminal second)) (Some k) plans last is = is

agree_loses : (v : View) (m : MasterProc) (o : Option (ℕ × ℕ)) → Agree v m → Agree (loses o v) m
agree_loses v m None agree = agree
agree_loses v m (Some x) agree =
    let u = loses (Some x) v in record {
      same = record {
        rest = but_command v.table m.table u.table.command agree.same.rest;
        command = same_view v u m.command u.table.command refl refl (lost_so v x.1 m.command v.table.command agree.same.command);
      };
      sound = agree.sound;
    }

agree_lost : (v : View) (m : MasterProc) (o : Option (LinkId × Flight)) → Agree v m → Agree (loses_flight o v) m
agree_lost v m None agree = agree
agree_lost v m (Some s) agree = agree_loses v m (forwarding_of s.1) agree

-- ---- the events of the master

-- both agree after an outcome of an event, with the lines that it has
abbrev KeepsAfter : Past → View → Event → MasterNode × Outcome → Type 0
KeepsAfter p v e done = Keeps (hears_answer p e done.1.answer v) done.0.proc (effects_of done.1)

commanded_keeps : (c : Choices) (m : MasterNode) (p : Past) (v : View) (e : Event) → Agree v m.proc → (o : Option Refusal)
    → (o ≡ None → Goes (hears_event p e v) (commands m.proc e)) → KeepsAfter p v e (commanded c m (commands_unless m.proc e o))
commanded_keeps c m p v e agree None goes =
    let r = commands m.proc e in
    let k = keeps_goes (hears_event p e v) r (does c m r) (goes refl) (does_follows c m r) in
    record { words = k.words; notes = k.notes; orders = k.orders; agree = k.agree; fits = k.fits }
commanded_keeps c m p v e agree (Some why) goes = keeps_quiet v m.proc quiet (record { notes = refl; sends = refl }) agree

unless_keeps : (m : MasterNode) (v : View) (o : Option Refusal) (done : MasterNode × Effects) → Agree v m.proc → IsBeside m done
    → Keeps v (unless m o done).0.proc (effects_of (unless m o done).1)
unless_keeps m v None done agree b = let k = keeps_beside v m done agree b in record { words = k.words; notes = k.notes; orders = k.orders; agree = k.agree; fits = k.fits }
unless_keeps m v (Some why) done agree b = keeps_quiet v m.proc quiet (record { notes = refl; sends = refl }) agree

submitted_keeps : (c : Choices) (m : MasterNode) (v : View) (id : ℕ) (payload : List ℕ) (r : Row) (o : Option Window) → Agree v m.proc
    → let done = submitted_to c m id payload r o in Keeps v done.0.proc (effects_of done.1)
submitted_keeps c m v id payload r None agree = keeps_quiet v m.proc quiet (record { notes = refl; sends = refl }) agree
submitted_keeps c m v id payload r (Some w) agree =
    let n = with_accepted m id w in
    let b = to_anchor_did c n id r.g payload r.anchor in
    unless_keeps m v (first_refusal (submit_refusals r w)) (to_anchor_at c n id r.g payload r.anchor) agree (record { proc = b.proc; quiet = b.quiet })

submission_keeps : (c : Choices) (m : MasterNode) (v : View) (id : ℕ) (payload : List ℕ) (o : Option Row) → Agree v m.proc
    → let done = submitted c m id payload o in Keeps v done.0.proc (effects_of done.1)
submission_keeps c m v id payload None agree = keeps_quiet v m.proc quiet (record { notes = refl; sends = refl }) agree
submission_keeps c m v id payload (Some r) agree = submitted_keeps c m v id payload r (held id m.windows) agree

report_keeps : (c : Choices) (m : MasterNode) (v : View) (id : ℕ) (has : Bool) → Agree v m.proc → let done = report_asked c m id has in Keeps v done.0.proc (effects_of done.1)
report_keeps c m v id false agree = keeps_quiet v m.proc quiet (record { notes = refl; sends = refl }) agree
report_keeps c m v id true agree =
    let k = keeps_beside v m (on_anchor m id (report c) (held id m.anchors)) agree (beside_on m id (report c) (of_report c) (held id m.anchors)) in
    record { words = k.words; notes = k.notes; orders = k.orders; agree = k.agree; fits = k.fits }

-- an event that changes nothing of the table by itself, whatever its answer is
same_answer : (p : Past) (v : View) (e : Event) (a : Answer) → hears_event p e v ≡ v → hears_answer p e a v ≡ v
same_answer p v e answer.Ok is = is
same_answer p v e (answer.No why) is = refl

keeps_same : (p : Past) (v : View) (e : Event) (m : MasterProc) (o : Outcome) → hears_event p e v ≡ v → Keeps v m (effects_of o) → Keeps (hears_answer p e o.answer v) m (effects_of o)
keeps_same p v e m o is k = subst (λ u. Keeps u m (effects_of o)) (sym (same_answer p v e o.answer is)) k

idle : (v : View) (m : MasterProc) → Agree v m → Keeps v m quiet
idle v m agree = keeps_quiet v m quiet (record { notes = refl; sends = refl }) agree

event_keeps : (c : Choices) (m : MasterNode) (p : Past) (v : View) (e : Event) → AddsSecond e → Agree v m.proc → KeepsAfter p v e (master_event c m e)
event_keeps c m p v (event.Bearer id n first shape threshold policy) names agree =
    commanded_keeps c m p v (event.Bearer id n first shape threshold policy) agree (first_refusal (command_refusals (length c.policies) m.proc (event.Bearer id n first shape threshold policy))) (goes_command (length c.policies) p v m.proc (event.Bearer id n first shape threshold policy) names agree)
event_keeps c m p v (event.Reshape id shape) names agree =
    commanded_keeps c m p v (event.Reshape id shape) agree (first_refusal (command_refusals (length c.policies) m.proc (event.Reshape id shape))) (goes_command (length c.policies) p v m.proc (event.Reshape id shape) names agree)
event_keeps c m p v (event.Remove id) names agree =
    commanded_keeps c m p v (event.Remove id) agree (first_refusal (command_refusals (length c.policies) m.proc (event.Remove id))) (goes_command (length c.policies) p v m.proc (event.Remove id) names agree)
event_keeps c m p v (event.Add node) names agree =
    commanded_keeps c m p v (event.Add node) agree (first_refusal (command_refusals (length c.policies) m.proc (event.Add node))) (goes_command (length c.policies) p v m.proc (event.Add node) names agree)
event_keeps c m p v event.Change names agree =
    commanded_keeps c m p v event.Change agree (first_refusal (command_refusals (length c.policies) m.proc event.Change)) (goes_command (length c.policies) p v m.proc event.Change names agree)
event_keeps c m p v event.Release names agree =
    commanded_keeps c m p v event.Release agree (first_refusal (command_refusals (length c.policies) m.proc event.Release)) (goes_command (length c.policies) p v m.proc event.Release names agree)
event_keeps c m p v event.RekeySecond names agree =
    commanded_keeps c m p v event.RekeySecond agree (first_refusal (command_refusals (length c.policies) m.proc event.RekeySecond)) (goes_command (length c.policies) p v m.proc event.RekeySecond names agree)
event_keeps c m p v (event.RekeyMaster root) names agree =
    commanded_keeps c m p v (event.RekeyMaster root) agree (first_refusal (command_refusals (length c.policies) m.proc (event.RekeyMaster root))) (goes_command (length c.policies) p v m.proc (event.RekeyMaster root) names agree)
event_keeps c m p v (event.Recover id) names agree =
    commanded_keeps c m p v (event.Recover id) agree (first_refusal (command_refusals (length c.policies) m.proc (event.Recover id))) (goes_command (length c.policies) p v m.proc (event.Recover id) names agree)
event_keeps c m p v (event.Report node id) names agree =
    let done = report_asked c m id (has_bearer m.proc id) in keeps_same p v (event.Report node id) done.0.proc done.1 refl (report_keeps c m v id (has_bearer m.proc id) agree)
event_keeps c m p v (event.Deny node on) names agree = idle v m.proc agree
event_keeps c m p v (event.Ask node what) names agree = idle v m.proc agree
event_keeps c m p v event.ScgFail names agree = idle v m.proc agree
event_keeps c m p v (event.Submit id d payload) names agree =
    let done = submitted c m id payload (settled_row m id) in keeps_same p v (event.Submit id d payload) done.0.proc done.1 refl (submission_keeps c m v id payload (settled_row m id) agree)
event_keeps c m p v (event.Step l i) names agree = idle v m.proc agree
event_keeps c m p v (event.Lose l i) names agree = idle (hears_event p (event.Lose l i) v) m.proc (agree_lost v m.proc (find_at l i p.standing) agree)
event_keeps c m p v (event.Again l i) names agree = idle v m.proc agree

-- ---- the events of the whole machine

-- both agree after the lines of an outcome
abbrev pub AgreesAfter : Past → View → Event → World × Outcome → Type 0
AgreesAfter p v e done = After (hears_answer p e done.1.answer v) done.0.master.proc (lines_of done.1)

quiet_after : (p : Past) (v : View) (e : Event) (m : MasterProc) (o : Outcome) → hears_event p e v ≡ v → IsQuiet (effects_of o) → Agree v m
    → After (hears_answer p e o.answer v) m (lines_of o)
quiet_after p v e m o is q agree = heard (hears_answer p e o.answer v) m o (keeps_same p v e m o is (keeps_quiet v m (effects_of o) q agree))

-- an event that is given to a node as it is
given_after : (c : Choices) (w : World) (p : Past) (v : View) (e : Event) → AddsSecond e → hears_event p e v ≡ v → Agree v w.master.proc → (x : Node)
    → AgreesAfter p v e (takes c w (Cmd e) x)
given_after c w p v e names is agree T = quiet_after p v e w.master.proc (terminal_step c w.terminal (Cmd e)).1 is (terminal_quiet c w.terminal (Cmd e)) agree
given_after c w p v e names is agree M = let done = master_event c w.master e in heard (hears_answer p e done.1.answer v) done.0.proc done.1 (event_keeps c w.master p v e names agree)
given_after c w p v e names is agree A = quiet_after p v e w.master.proc (second_step c w.a (Cmd e)).1 is (second_quiet c w.a (Cmd e)) agree
given_after c w p v e names is agree B = quiet_after p v e w.master.proc (second_step c w.b (Cmd e)).1 is (second_quiet c w.b (Cmd e)) agree

command_after : (c : Choices) (w : World) (p : Past) (v : View) (e : Event) → AddsSecond e → Agree v w.master.proc → AgreesAfter p v e (takes c w (Cmd e) M)
command_after c w p v e names agree = let done = master_event c w.master e in heard (hears_answer p e done.1.answer v) done.0.proc done.1 (event_keeps c w.master p v e names agree)

-- a flight that comes to a node
come_after : (c : Choices) (w : World) (p : Past) (v : View) (l : LinkId) (i : ℕ) (f : Flight) → Agree v w.master.proc → (x : Node) → AgreesAfter p v (event.Step l i) (takes c w (Come l f) x)
come_after c w p v l i f agree T = quiet_after p v (event.Step l i) w.master.proc (terminal_step c w.terminal (Come l f)).1 refl (terminal_quiet c w.terminal (Come l f)) agree
come_after c w p v l i f agree M =
    let done = master_takes c w.master l.from f l.class in
    let k = takes_flight c w.master v l.from f l.class agree in
    heard v done.0.proc (record { answer = answer.Ok; notes = done.1.notes; sends = done.1.sends }) (record { words = k.words; notes = k.notes; orders = k.orders; agree = k.agree; fits = k.fits })
come_after c w p v l i f agree A = quiet_after p v (event.Step l i) w.master.proc (second_step c w.a (Come l f)).1 refl (second_quiet c w.a (Come l f)) agree
come_after c w p v l i f agree B = quiet_after p v (event.Step l i) w.master.proc (second_step c w.b (Come l f)).1 refl (second_quiet c w.b (Come l f)) agree

none_quiet : (a : Answer) → IsQuiet (effects_of (record { answer = a; notes = []; sends = [] }))
none_quiet a = record { notes = refl; sends = refl }

step_after : (c : Choices) (w : World) (p : Past) (v : View) (l : LinkId) (i : ℕ) → Agree v w.master.proc → (o : Option Flight) → AgreesAfter p v (event.Step l i) (carried_on c w (step_of w l i o))
step_after c w p v l i agree None = no_lines v w.master.proc agree
step_after c w p v l i agree (Some f) =
    elim (cases_Bool (is_ordered l.class && nat_lt 0 i)) [
      | inl behind ↦ rw behind (no_lines v w.master.proc agree)
      | inr first ↦ elim (cases_Bool (is_aged_for (node_at w l.to) (weight f))) [
        | inl aged ↦ rw first (rw aged (no_lines v w.master.proc agree))
        | inr fresh ↦ rw first (rw fresh (come_after c w p v l i f agree l.to))
      ]
    ]

-- a loss
loss_after : (c : Choices) (w : World) (p : Past) (v : View) (l : LinkId) (i : ℕ) → Agree v w.master.proc → (k : Class) (o : Option Flight)
    → AgreesAfter p v (event.Lose l i) (carried_on c w (in_tunnel k (loss_of o)))
loss_after c w p v l i agree Ctl o = no_lines v w.master.proc agree
loss_after c w p v l i agree Feed o = no_lines v w.master.proc agree
loss_after c w p v l i agree Air o = no_lines v w.master.proc agree
loss_after c w p v l i agree Tun None = no_lines v w.master.proc agree
loss_after c w p v l i agree Tun (Some f) = no_lines (loses_flight (find_at l i p.standing) v) w.master.proc (agree_lost v w.master.proc (find_at l i p.standing) agree)

-- a copy of a flight that is no order
copied : (p : Past) (v : View) (m : MasterProc) (l : LinkId) (i : ℕ) (f : Flight) → orders f ≡ false → Agree v m → After v m (lines_of (record { answer = answer.Ok; notes = []; sends = (l, f) ∷ [] }))
copied p v m l i f none agree =
    heard v m (record { answer = answer.Ok; notes = []; sends = (l, f) ∷ [] }) (record { words = no_words; notes = refl; orders = rw none refl; agree = agree; fits = tt })

-- none of the flights on a link is an order
no_order_at : (i : ℕ) (fs : List Flight) (f : Flight) → filter orders fs ≡ [] → slice_get fs i ≡ Some f → orders f ≡ false
no_order_at i [] f none is = absurd cc
no_order_at zero (g ∷ gs) f none is =
    let same : g ≡ f = cc in
    elim (cases_Bool (orders g)) [ inl yes' ↦ absurd (let n = rw yes' at none in cc) | inr no' ↦ subst (λ x. orders x ≡ false) same no' ]
no_order_at (suc i) (g ∷ gs) f none is =
    elim (cases_Bool (orders g)) [ inl yes' ↦ absurd (let n = rw yes' at none in cc) | inr no' ↦ no_order_at i gs f (rw no' at none) is ]

copy_after : (c : Choices) (w : World) (p : Past) (v : View) (l : LinkId) (i : ℕ) → Agree v w.master.proc → (k : Class) (o : Option Flight)
    → (k ≡ Tun → (f : Flight) → o ≡ Some f → orders f ≡ false) → AgreesAfter p v (event.Again l i) (carried_on c w (in_tunnel k (copy_of l o)))
copy_after c w p v l i agree Ctl o none = no_lines v w.master.proc agree
copy_after c w p v l i agree Feed o none = no_lines v w.master.proc agree
copy_after c w p v l i agree Air o none = no_lines v w.master.proc agree
copy_after c w p v l i agree Tun None none = no_lines v w.master.proc agree
copy_after c w p v l i agree Tun (Some f) none = copied p v w.master.proc l i f (none refl f refl) agree

-- ---- an event

pub agrees_after : (c : Choices) (w : World) (p : Past) (v : View) (e : Event) → AddsSecond e → NoOrderInTunnels w → Agree v w.master.proc → AgreesAfter p v e (carried_on c w (happening w e))
agrees_after c w p v (event.Bearer id n first shape threshold policy) names none agree = command_after c w p v (event.Bearer id n first shape threshold policy) names agree
agrees_after c w p v (event.Reshape id shape) names none agree = command_after c w p v (event.Reshape id shape) names agree
agrees_after c w p v (event.Remove id) names none agree = command_after c w p v (event.Remove id) names agree
agrees_after c w p v (event.Add node) names none agree = command_after c w p v (event.Add node) names agree
agrees_after c w p v event.Change names none agree = command_after c w p v event.Change names agree
agrees_after c w p v event.Release names none agree = command_after c w p v event.Release names agree
agrees_after c w p v event.RekeySecond names none agree = command_after c w p v event.RekeySecond names agree
agrees_after c w p v (event.RekeyMaster root) names none agree = command_after c w p v (event.RekeyMaster root) names agree
agrees_after c w p v (event.Recover id) names none agree = command_after c w p v (event.Recover id) names agree
agrees_after c w p v (event.Report node id) names none agree = given_after c w p v (event.Report node id) names refl agree node
agrees_after c w p v (event.Deny node on) names none agree = given_after c w p v (event.Deny node on) names refl agree node
agrees_after c w p v (event.Ask node what) names none agree = given_after c w p v (event.Ask node what) names refl agree node
agrees_after c w p v event.ScgFail names none agree = given_after c w p v event.ScgFail names refl agree T
agrees_after c w p v (event.Submit id d payload) names none agree = given_after c w p v (event.Submit id d payload) names refl agree (submitter d)
agrees_after c w p v (event.Step l i) names none agree = step_after c w p v l i agree (slice_get (flights_on l w.links) i)
agrees_after c w p v (event.Lose l i) names none agree = loss_after c w p v l i agree l.class (slice_get (flights_on l w.links) i)
agrees_after c w p v (event.Again l i) names none agree =
    copy_after c w p v l i agree l.class (slice_get (flights_on l w.links) i) (λ is f at. no_order_at i (flights_on l w.links) f (none l is) at)

-- an event of a run keeps both tables the same
pub agree_next : (c : Choices) (w : World) (p : Past) (e : Event) → AddsSecond e → NoOrderInTunnels w → Agree (view p) w.master.proc
    → Agree (view (after p (world_step c w e).1)) (world_step c w e).0.master.proc
agree_next c w p e names none agree =
    let x = (world_step c w e).1 in
    subst (λ v. Agree v (world_step c w e).0.master.proc) (sym (after_view p x)) (agrees_after c w p (view p) e names none agree).agree

-- nothing happened yet
pub agree_new : (h : Header) (policies : ℕ) → Agree (view (new_past h policies)) (new_world h).master.proc
agree_new h policies = record {
  same = record {
    rest = record { sec = refl; root = refl; roots = refl; counters = refl; second_key = refl; rows = refl; uses = λ f. refl; last = refl };
    command = tt;
  };
  sound = record { placed = record { anchors = tt; alone = λ none. tt; ascend = tt; second = tt }; rows = tt; claims = tt; open_fits = tt };
}
