-- What any event sends keeps its order on each control link.
use Rattle.std.proofs.Common.{ℕ, ◌≡◌, ◌++◌, ◌==◌, Bool, true, false, List, [], ◌∷◌, Option, Some, None, length, refl, sym, ap, subst, ◌∙◌, slice_get}
use Rattle.std.specs.Prelude.{Err, Ok, Result, if◌then◌else◌, is_none, map, nat_lt, not, ⊤, ◌&&◌, ◌||◌}
use Rattle.std.specs.List.{list_any}
use Rattle.dc_base.specs.Links.{is_ordered, is_tunnel}
use Rattle.dc_base.specs.declared.answers.Refusal.{Refusal}
use Rattle.dc_base.specs.declared.answers.Refusal.TheVariants as refusal
use Rattle.dc_base.specs.declared.answers.Word.{Word}
use Rattle.dc_base.specs.declared.events.Event.{Event}
use Rattle.dc_base.specs.declared.events.Event.TheVariants as event
use Rattle.dc_base.specs.declared.flights.Flight.{Flight}
use Rattle.dc_base.specs.declared.flights.Flight.TheVariants as flight
use Rattle.dc_base.specs.declared.nodes.Class.{Class}
use Rattle.dc_base.specs.declared.nodes.LinkId.{LinkId}
use Rattle.dc_base.specs.declared.nodes.Node.{Node}
use Rattle.dc_base.specs.declared.nodes.Node.TheVariants.{A, B, M, T}
use Rattle.dc_base.specs.declared.nodes.Want.{Want}
use Rattle.dc_base.specs.declared.nodes.Want.TheVariants as want
use Rattle.dc_base.specs.declared.records.Plan.{Plan}
use Rattle.dc_base.specs.declared.records.Rec.{Rec}
use Rattle.dc_base.specs.declared.records.Rec.TheVariants as rec
use Rattle.dc_base.specs.declared.records.RecKind.{RecKind}
use Rattle.dc_base.specs.declared.records.RecKind.TheVariants as kind
use Rattle.dc_base.specs.declared.records.StatusTransfer.{StatusTransfer}
use Rattle.transcript.specs.Content.{place_taken, without_taken}
use Rattle.node_rules.specs.Acts.{ProcFault, first_refusal}
use Rattle.node_rules.specs.Choices.{Choices, Send}
use Rattle.node_rules.specs.Effects.{after_effects, quiet}
use Rattle.node_rules.specs.Flights.{weight}
use Rattle.node_rules.specs.Lines.{is_idle_release, opens_release}
use Rattle.node_rules.specs.Master.{MasterNode}
use Rattle.node_rules.specs.MasterPlan.{does}
use Rattle.node_rules.specs.MasterState.{MasterActs}
use Rattle.node_rules.specs.MasterStep.{master_step}
use Rattle.node_rules.specs.MasterTaking.{master_adopted, master_take}
use Rattle.node_rules.specs.MasterCommands.{master_command}
use Rattle.node_rules.specs.Readers.{is_aged_for}
use Rattle.node_rules.specs.Run.{Happening, carried_on, copy_of, given_to, happening, in_tunnel, loss_of, node_at, on_links, refused_for, step_of, world_step}
use Rattle.node_rules.specs.SecondRecords.{added, addition_asked, failure_told, forgotten, is_one_drop, is_wanted, key_confirmed, leave_confirmed, let_off, modification_asked, modified, reconfigured, recovery_asked, refused_there, release_asked, release_confirmed, release_needless, second_take, status_passed}
use Rattle.node_rules.specs.SecondState.{SecondActs, SecondProc, second_commands, second_commands_unless, second_refusals}
use Rattle.node_rules.specs.SecondStep.{second_step}
use Rattle.node_rules.specs.Secondary.{SecondNode}
use Rattle.node_rules.specs.Terminal.{TerminalNode, terminal_step}
use Rattle.node_rules.specs.World.{World, flights_on}
use Rattle.node_rules.specs.declared.commands.Membership.{Membership}
use Rattle.node_rules.specs.declared.commands.Membership.TheVariants.{Joined as joined, Left as left, Outside as outside}
use Rattle.node_rules.specs.declared.inputs.Effects.{Effects}
use Rattle.node_rules.specs.declared.inputs.Input.{Input}
use Rattle.node_rules.specs.declared.inputs.Input.TheVariants.{Come}
use Rattle.run_control.specs.Links.{idles_first, is_in_turn, sent_on}
use Rattle.run_control.specs.MasterControl.{MasterPassed, adopts_by_it, master_heard, master_no_row, master_ordered, master_passed, master_refused, waits_on}
use Rattle.run_control.specs.Orders.{Ascends}
use Rattle.run_control.specs.SecondControl.{SecondProjects, bare_flight, heard, no_row, not_ordered, ordered, record_to, records_sent, unfit, views_within}
use Rattle.run_control.specs.Steps.{AreOrdered, MasterStepped, SecondStepped, TerminalStepped, master_by_command, master_by_nothing, master_by_record, master_by_traffic, second_by_command, second_by_nothing, second_by_record, second_by_traffic, sender_of, terminal_by_failure, terminal_by_nothing, terminal_by_record, terminal_by_traffic}
use Rattle.run_control.specs.TerminalControl.{Bearers, recovery_answer, takes_plan, terminal_answers}
use Rattle.run_control.specs.Traffic.{came, master_adopts, master_keeps, second_adopts, second_keeps}
use Rattle.run_control.specs.Views.{Bearer, controls, is_of_control, master_view, second_view, terminal_view}
use Rattle.run_control.proofs.ActTurns.{chosen_idle, is_idle_act, sends_turn}
use Rattle.run_control.proofs.Links.{IsControlLink, event_links}
use Rattle.run_control.proofs.MasterActs.{does_projects}
use Rattle.run_control.proofs.MasterTurns.{InTurn, TakesTurn, adoption_turn, command_turn, take_turn}
use Rattle.run_control.proofs.Sent.{either}
use Rattle.run_control.proofs.Sequences.{no_records, records_both}
use Rattle.run_control.proofs.Steps.{master_stepped, second_stepped, terminal_stepped}
use Rattle.run_control.proofs.Turns.{busy_turn}

-- sends are in their turn
abbrev pub SendTurn : List Send → Type 0
SendTurn sends = is_in_turn is_idle_release opens_release sends ≡ true

-- ---- a secondary node

-- whatever is taken, the node stays the same one, and no release is said to be needless
abbrev pub TakesBusy : SecondProc → Result SecondActs ProcFault → Type 0
TakesBusy s (Ok r) = (r.0.me ≡ s.me) × ((me : Node) → list_any (is_idle_act me) r.1 ≡ false)
TakesBusy s (Err why) = ⊤

added_busy : (s : SecondProc) (p : Plan) (b : Bool) → TakesBusy s (Ok (added s p b))
added_busy s p true = (refl, λ me. refl)
added_busy s p false = (refl, λ me. refl)

addition_busy : (s : SecondProc) (p : Plan) (m : Membership) → TakesBusy s (addition_asked s p m)
addition_busy s p outside = added_busy s p s.denies
addition_busy s p joined = tt
addition_busy s p left = tt

modified_busy : (s : SecondProc) (p : Plan) (b : Bool) → TakesBusy s (Ok (modified s p b))
modified_busy s p true = (refl, λ me. refl)
modified_busy s p false = (refl, λ me. refl)

modification_busy : (s : SecondProc) (p : Plan) (m : Membership) → TakesBusy s (modification_asked s p m)
modification_busy s p outside = tt
modification_busy s p joined = modified_busy s p (s.denies && not (is_one_drop p.items))
modification_busy s p left = tt

let_off_busy : (s : SecondProc) (p : Plan) (b : Bool) → TakesBusy s (Ok (let_off s p b))
let_off_busy s p true = (refl, λ me. refl)
let_off_busy s p false = (refl, λ me. refl)

release_busy : (s : SecondProc) (p : Plan) (m : Membership) → TakesBusy s (release_asked s p m)
release_busy s p outside = tt
release_busy s p joined = let_off_busy s p (s.denies && is_none p.sec)
release_busy s p left = tt

forgotten_busy : (s : SecondProc) (m : Membership) → TakesBusy s (forgotten s m)
forgotten_busy s outside = tt
forgotten_busy s joined = tt
forgotten_busy s left = (refl, λ me. refl)

reconfigured_busy : (s : SecondProc) (g : ℕ) (m : Membership) → TakesBusy s (reconfigured s g m)
reconfigured_busy s g outside = tt
reconfigured_busy s g joined = (refl, λ me. refl)
reconfigured_busy s g left = tt

key_busy : (s : SecondProc) (g : ℕ) (b : Bool) (m : Membership) → TakesBusy s (key_confirmed s g b m)
key_busy s g true outside = tt
key_busy s g true joined = (refl, λ me. refl)
key_busy s g true left = tt
key_busy s g false m = tt

refused_busy : (k : RecKind) (s : SecondProc) (w : Word) (b : Bool) → TakesBusy s (refused_there k s w b)
refused_busy k s w true = (refl, λ me. refl)
refused_busy k s w false = tt

leave_busy : (k : RecKind) (s : SecondProc) (p : Plan) (b : Bool) (m : Membership) → TakesBusy s (leave_confirmed k s p b m)
leave_busy k s p true outside = tt
leave_busy k s p true joined = (refl, λ me. refl)
leave_busy k s p true left = tt
leave_busy k s p false m = tt

needless_busy : (s : SecondProc) (b : Bool) → TakesBusy s (release_needless s b)
needless_busy s true = (refl, λ me. refl)
needless_busy s false = tt

confirmed_busy : (s : SecondProc) (p : Plan) → TakesBusy s (release_confirmed s p)
confirmed_busy s p =
    either (TakesBusy s) (p.g == 0) (release_needless s (is_wanted want.Release s.want)) (leave_confirmed kind.Relcnf s p (is_wanted want.Release s.want) s.membership)
    (needless_busy s (is_wanted want.Release s.want)) (leave_busy kind.Relcnf s p (is_wanted want.Release s.want) s.membership)

status_busy : (s : SecondProc) (status : StatusTransfer) (m : Membership) → TakesBusy s (status_passed s status m)
status_busy s status outside = tt
status_busy s status joined = (refl, λ me. refl)
status_busy s status left = tt

recovery_busy : (s : SecondProc) (id : ℕ) (m : Membership) → TakesBusy s (recovery_asked s id m)
recovery_busy s id outside = tt
recovery_busy s id joined = (refl, λ me. refl)
recovery_busy s id left = tt

failure_busy : (s : SecondProc) (id g : ℕ) (m : Membership) → TakesBusy s (failure_told s id g m)
failure_busy s id g outside = tt
failure_busy s id g joined = (refl, λ me. refl)
failure_busy s id g left = (refl, λ me. refl)

pub second_busy : (s : SecondProc) (r : Rec) → TakesBusy s (second_take s r)
second_busy s (rec.Reconf plan key) = tt
second_busy s (rec.Rcomp g) = tt
second_busy s (rec.Scgf failed) = tt
second_busy s (rec.Recov id) = recovery_busy s id s.membership
second_busy s (rec.Recovd id) = tt
second_busy s (rec.Addreq plan key) = addition_busy s plan s.membership
second_busy s (rec.Addack g) = tt
second_busy s (rec.Addrej g) = tt
second_busy s (rec.Modreq plan key) = modification_busy s plan s.membership
second_busy s (rec.Modack g) = tt
second_busy s (rec.Modrej g) = tt
second_busy s (rec.Recfg g) = reconfigured_busy s g s.membership
second_busy s (rec.Relreq plan) = release_busy s plan s.membership
second_busy s (rec.Relack g) = tt
second_busy s (rec.Relrej g) = tt
second_busy s (rec.Uecr g) = forgotten_busy s s.membership
second_busy s (rec.Snst status) = status_busy s status s.membership
second_busy s (rec.Moved g id) = tt
second_busy s (rec.Scgn id g) = failure_busy s id g s.membership
second_busy s rec.Modrqd = tt
second_busy s (rec.Modcnf g) = key_busy s g (is_wanted want.Rekey s.want) s.membership
second_busy s (rec.Modref word) = refused_busy kind.Modref s word (is_wanted want.Rekey s.want)
second_busy s rec.Chgrqd = tt
second_busy s (rec.Chgcnf plan) = leave_busy kind.Chgcnf s plan (is_wanted want.Change s.want) s.membership
second_busy s (rec.Chgref word) = refused_busy kind.Chgref s word (is_wanted want.Change s.want)
second_busy s rec.Relrqd = tt
second_busy s (rec.Relcnf plan) = confirmed_busy s plan

asks_busy : (s : SecondProc) (node : Node) (what : Want) → TakesBusy s (Ok (second_commands s (event.Ask node what)))
asks_busy s node want.Rekey = (refl, λ me. refl)
asks_busy s node want.Change = (refl, λ me. refl)
asks_busy s node want.Release = (refl, λ me. refl)

commands_busy : (s : SecondProc) (e : Event) → TakesBusy s (Ok (second_commands s e))
commands_busy s (event.Bearer id n first shape threshold policy) = (refl, λ me. refl)
commands_busy s (event.Reshape id shape) = (refl, λ me. refl)
commands_busy s (event.Remove id) = (refl, λ me. refl)
commands_busy s (event.Add node) = (refl, λ me. refl)
commands_busy s event.Change = (refl, λ me. refl)
commands_busy s event.Release = (refl, λ me. refl)
commands_busy s event.RekeySecond = (refl, λ me. refl)
commands_busy s (event.RekeyMaster root) = (refl, λ me. refl)
commands_busy s (event.Recover id) = (refl, λ me. refl)
commands_busy s (event.Report node id) = (refl, λ me. refl)
commands_busy s (event.Deny node on) = (refl, λ me. refl)
commands_busy s (event.Ask node what) = asks_busy s node what
commands_busy s event.ScgFail = (refl, λ me. refl)
commands_busy s (event.Submit id d payload) = (refl, λ me. refl)
commands_busy s (event.Step l i) = (refl, λ me. refl)
commands_busy s (event.Lose l i) = (refl, λ me. refl)
commands_busy s (event.Again l i) = (refl, λ me. refl)

pub unless_busy : (s : SecondProc) (e : Event) (o : Option Refusal) → TakesBusy s (second_commands_unless s e o)
unless_busy s e None = commands_busy s e
unless_busy s e (Some why) = tt

-- what was taken is so
projects_idle : (s : SecondNode) (acts : SecondActs) (done : SecondNode × Effects) → TakesBusy s.proc (Ok acts) → SecondProjects s acts done → list_any is_idle_release (records_sent done.1.sends) ≡ false
projects_idle s acts done busy is =
    let me = acts.0.me in
    let views = views_within acts.0.membership (second_view s) in
    ap (list_any is_idle_release) is.told ∙ chosen_idle me is.chosen views ∙ ap (list_any (is_idle_act me)) is.all ∙ busy.1 me

nothing_second : (s : SecondNode) (done : SecondNode × Effects) → done ≡ (s, quiet) → list_any is_idle_release (records_sent done.1.sends) ≡ false
nothing_second s done is = ap (λ (x : SecondNode × Effects). list_any is_idle_release (records_sent x.1.sends)) is

-- a secondary node never says that a release is needless
pub second_idle : (s : SecondNode) (i : Input) (done : SecondNode × Effects) → SecondStepped s i done → list_any is_idle_release (records_sent done.1.sends) ≡ false
second_idle s i done (second_by_traffic (second_keeps proc views sends ascends)) = ap (list_any is_idle_release) (no_records done.1.sends sends)
second_idle s i done (second_by_traffic (second_adopts id v at had proc views sends ascends)) =
    ap (λ (zs : List Send). list_any is_idle_release (map (λ (x : Send). (x.0, bare_flight x.1)) zs)) sends
second_idle s i done (second_by_record r came_in (heard acts fit taken is)) = projects_idle s acts done (subst (TakesBusy s.proc) taken (second_busy s.proc r)) is
second_idle s i done (second_by_record r came_in (unfit fit is)) = nothing_second s done is
second_idle s i done (second_by_record r came_in (no_row why taken is)) = nothing_second s done is
second_idle s i done (second_by_command e came_in (ordered acts taken is)) = projects_idle s acts done (subst (TakesBusy s.proc) taken (unless_busy s.proc e (first_refusal (second_refusals s.proc e)))) is
second_idle s i done (second_by_command e came_in (not_ordered why refused is)) = nothing_second s done is
second_idle s i done (second_by_nothing is) = nothing_second s done is

-- ---- the master

-- the procedures' acts are in their turn
acts_turn : (t : Result MasterActs ProcFault) (acts : MasterActs) → t ≡ Ok acts → TakesTurn t → InTurn acts.1
acts_turn t acts is turn = subst TakesTurn is turn

nothing_master : (m : MasterNode) (done : MasterNode × Effects) → done ≡ (m, quiet) → SendTurn (records_sent done.1.sends)
nothing_master m done is = subst (λ (x : MasterNode × Effects). SendTurn (records_sent x.1.sends)) (sym is) refl

-- after an adoption
adopted_turn : (c : Choices) (next : MasterNode) (before : Effects) (id : ℕ) (done : MasterNode × Effects) → records_sent before.sends ≡ [] → Ascends next.anchors
    → done ≡ after_effects before (does c next (master_adopted next.proc id)) → SendTurn (records_sent done.1.sends)
adopted_turn c next before id done none up is =
    let acts = master_adopted next.proc id in
    let then' = does c next acts in
    ap (λ (x : MasterNode × Effects). is_in_turn is_idle_release opens_release (records_sent x.1.sends)) is
    ∙ ap (is_in_turn is_idle_release opens_release) (records_both before.sends then'.1.sends none (does_projects c next acts up).told)
    ∙ sends_turn acts.1 (master_view next) (adoption_turn next.proc id)

passed_turn : (c : Choices) (m : MasterNode) (done : MasterNode × Effects) (status : StatusTransfer) → MasterPassed c m status done → SendTurn (records_sent done.1.sends)
passed_turn c m done status (waits_on did) = ap (is_in_turn is_idle_release opens_release) did.told
passed_turn c m done status (adopts_by_it v at awaited next before did is) = adopted_turn c next before status.id done did.told did.ascends is

master_turn : (c : Choices) (m : MasterNode) (i : Input) (done : MasterNode × Effects) → Ascends m.anchors → MasterStepped c m i done → SendTurn (records_sent done.1.sends)
master_turn c m i done up (master_by_traffic (master_keeps proc views sends ascends)) = ap (is_in_turn is_idle_release opens_release) (no_records done.1.sends sends)
master_turn c m i done up (master_by_traffic (master_adopts id v at had next before proc views sends ascends is)) = adopted_turn c next before id done (no_records before.sends sends) (ascends up) is
master_turn c m i done up (master_by_record r came_in (master_heard acts taken plain is)) =
    ap (is_in_turn is_idle_release opens_release) is.told ∙ sends_turn acts.1 (master_view m) (acts_turn (master_take (sender_of i) m.proc r) acts taken (take_turn (sender_of i) m.proc r))
master_turn c m i done up (master_by_record r came_in (master_passed status taken is)) = passed_turn c m done status is
master_turn c m i done up (master_by_record r came_in (master_no_row why taken is)) = nothing_master m done is
master_turn c m i done up (master_by_command e came_in (master_ordered acts taken is)) =
    ap (is_in_turn is_idle_release opens_release) is.told ∙ sends_turn acts.1 (master_view m) (acts_turn (master_command (length c.policies) m.proc e) acts taken (command_turn (length c.policies) m.proc e))
master_turn c m i done up (master_by_command e came_in (master_refused why refused is)) = nothing_master m done is
master_turn c m i done up (master_by_nothing is) = nothing_master m done is

-- ---- the terminal

recovery_idle : (id : ℕ) (o : Option Bearer) → list_any is_idle_release (recovery_answer id o) ≡ false
recovery_idle id None = refl
recovery_idle id (Some b) = refl

answers_idle : (bearers : Bearers) (r : Rec) → list_any is_idle_release (terminal_answers bearers r) ≡ false
answers_idle bearers (rec.Reconf plan key) = either (λ (xs : List Send). list_any is_idle_release xs ≡ false) (takes_plan bearers plan) (record_to T M (rec.Rcomp plan.g) ∷ []) [] refl refl
answers_idle bearers (rec.Rcomp g) = refl
answers_idle bearers (rec.Scgf failed) = refl
answers_idle bearers (rec.Recov id) = recovery_idle id (bearers id)
answers_idle bearers (rec.Recovd id) = refl
answers_idle bearers (rec.Addreq plan key) = refl
answers_idle bearers (rec.Addack g) = refl
answers_idle bearers (rec.Addrej g) = refl
answers_idle bearers (rec.Modreq plan key) = refl
answers_idle bearers (rec.Modack g) = refl
answers_idle bearers (rec.Modrej g) = refl
answers_idle bearers (rec.Recfg g) = refl
answers_idle bearers (rec.Relreq plan) = refl
answers_idle bearers (rec.Relack g) = refl
answers_idle bearers (rec.Relrej g) = refl
answers_idle bearers (rec.Uecr g) = refl
answers_idle bearers (rec.Snst status) = refl
answers_idle bearers (rec.Moved g id) = refl
answers_idle bearers (rec.Scgn id g) = refl
answers_idle bearers rec.Modrqd = refl
answers_idle bearers (rec.Modcnf g) = refl
answers_idle bearers (rec.Modref word) = refl
answers_idle bearers rec.Chgrqd = refl
answers_idle bearers (rec.Chgcnf plan) = refl
answers_idle bearers (rec.Chgref word) = refl
answers_idle bearers rec.Relrqd = refl
answers_idle bearers (rec.Relcnf plan) = refl

-- the terminal does not either
pub terminal_idle : (t : TerminalNode) (i : Input) (done : TerminalNode × Effects) → TerminalStepped t i done → list_any is_idle_release (records_sent done.1.sends) ≡ false
terminal_idle t i done (terminal_by_traffic is) = ap (list_any is_idle_release) (no_records done.1.sends is.sends)
terminal_idle t i done (terminal_by_record r came_in is) = ap (list_any is_idle_release) is.told ∙ answers_idle (terminal_view t) r
terminal_idle t i done (terminal_by_failure failed came_in is) = ap (list_any is_idle_release) is.told
terminal_idle t i done (terminal_by_nothing is) = ap (λ (x : TerminalNode × Effects). list_any is_idle_release (records_sent x.1.sends)) is

-- ---- without what a status transfer says of the traffic

pub same_idle : (s : Send) → is_idle_release (s.0, bare_flight s.1) ≡ is_idle_release s
same_idle (l, flight.Ctl (rec.Reconf plan key)) = refl
same_idle (l, flight.Ctl (rec.Rcomp g)) = refl
same_idle (l, flight.Ctl (rec.Scgf failed)) = refl
same_idle (l, flight.Ctl (rec.Recov id)) = refl
same_idle (l, flight.Ctl (rec.Recovd id)) = refl
same_idle (l, flight.Ctl (rec.Addreq plan key)) = refl
same_idle (l, flight.Ctl (rec.Addack g)) = refl
same_idle (l, flight.Ctl (rec.Addrej g)) = refl
same_idle (l, flight.Ctl (rec.Modreq plan key)) = refl
same_idle (l, flight.Ctl (rec.Modack g)) = refl
same_idle (l, flight.Ctl (rec.Modrej g)) = refl
same_idle (l, flight.Ctl (rec.Recfg g)) = refl
same_idle (l, flight.Ctl (rec.Relreq plan)) = refl
same_idle (l, flight.Ctl (rec.Relack g)) = refl
same_idle (l, flight.Ctl (rec.Relrej g)) = refl
same_idle (l, flight.Ctl (rec.Uecr g)) = refl
same_idle (l, flight.Ctl (rec.Snst status)) = refl
same_idle (l, flight.Ctl (rec.Moved g id)) = refl
same_idle (l, flight.Ctl (rec.Scgn id g)) = refl
same_idle (l, flight.Ctl rec.Modrqd) = refl
same_idle (l, flight.Ctl (rec.Modcnf g)) = refl
same_idle (l, flight.Ctl (rec.Modref word)) = refl
same_idle (l, flight.Ctl rec.Chgrqd) = refl
same_idle (l, flight.Ctl (rec.Chgcnf plan)) = refl
same_idle (l, flight.Ctl (rec.Chgref word)) = refl
same_idle (l, flight.Ctl rec.Relrqd) = refl
same_idle (l, flight.Ctl (rec.Relcnf plan)) = refl
same_idle (l, flight.Air id g num tag pdu) = refl
same_idle (l, flight.Ack id g num) = refl
same_idle (l, flight.Tun tag packet) = refl
same_idle (l, flight.Sdu id g payload) = refl
same_idle (l, flight.End id g) = refl
same_idle (l, flight.Told id g count) = refl

same_opens : (s : Send) → opens_release (s.0, bare_flight s.1) ≡ opens_release s
same_opens (l, flight.Ctl (rec.Reconf plan key)) = refl
same_opens (l, flight.Ctl (rec.Rcomp g)) = refl
same_opens (l, flight.Ctl (rec.Scgf failed)) = refl
same_opens (l, flight.Ctl (rec.Recov id)) = refl
same_opens (l, flight.Ctl (rec.Recovd id)) = refl
same_opens (l, flight.Ctl (rec.Addreq plan key)) = refl
same_opens (l, flight.Ctl (rec.Addack g)) = refl
same_opens (l, flight.Ctl (rec.Addrej g)) = refl
same_opens (l, flight.Ctl (rec.Modreq plan key)) = refl
same_opens (l, flight.Ctl (rec.Modack g)) = refl
same_opens (l, flight.Ctl (rec.Modrej g)) = refl
same_opens (l, flight.Ctl (rec.Recfg g)) = refl
same_opens (l, flight.Ctl (rec.Relreq plan)) = refl
same_opens (l, flight.Ctl (rec.Relack g)) = refl
same_opens (l, flight.Ctl (rec.Relrej g)) = refl
same_opens (l, flight.Ctl (rec.Uecr g)) = refl
same_opens (l, flight.Ctl (rec.Snst status)) = refl
same_opens (l, flight.Ctl (rec.Moved g id)) = refl
same_opens (l, flight.Ctl (rec.Scgn id g)) = refl
same_opens (l, flight.Ctl rec.Modrqd) = refl
same_opens (l, flight.Ctl (rec.Modcnf g)) = refl
same_opens (l, flight.Ctl (rec.Modref word)) = refl
same_opens (l, flight.Ctl rec.Chgrqd) = refl
same_opens (l, flight.Ctl (rec.Chgcnf plan)) = refl
same_opens (l, flight.Ctl (rec.Chgref word)) = refl
same_opens (l, flight.Ctl rec.Relrqd) = refl
same_opens (l, flight.Ctl (rec.Relcnf plan)) = refl
same_opens (l, flight.Air id g num tag pdu) = refl
same_opens (l, flight.Ack id g num) = refl
same_opens (l, flight.Tun tag packet) = refl
same_opens (l, flight.Sdu id g payload) = refl
same_opens (l, flight.End id g) = refl
same_opens (l, flight.Told id g count) = refl

abbrev bare : Send → Send
bare s = (s.0, bare_flight s.1)

any_bare : (xs : List Send) → list_any is_idle_release (map bare xs) ≡ list_any is_idle_release xs
any_bare [] = refl
any_bare (x ∷ xs) = ap (λ b. b || list_any is_idle_release (map bare xs)) (same_idle x) ∙ ap (λ b. is_idle_release x || b) (any_bare xs)

first_bare : (xs : List Send) → idles_first is_idle_release (map bare xs) ≡ idles_first is_idle_release xs
first_bare [] = refl
first_bare (x ∷ xs) =
    ap (λ b. if b then idles_first is_idle_release (map bare xs) else not (list_any is_idle_release (map bare xs))) (same_idle x)
    ∙ ap (λ z. if is_idle_release x then z else not (list_any is_idle_release (map bare xs))) (first_bare xs)
    ∙ ap (λ z. if is_idle_release x then idles_first is_idle_release xs else not z) (any_bare xs)

turn_bare : (xs : List Send) → is_in_turn is_idle_release opens_release (map bare xs) ≡ is_in_turn is_idle_release opens_release xs
turn_bare [] = refl
turn_bare (x ∷ xs) =
    ap (λ b. if b then idles_first is_idle_release (map bare (x ∷ xs)) else is_in_turn is_idle_release opens_release (map bare xs)) (same_opens x)
    ∙ ap (λ z. if opens_release x then z else is_in_turn is_idle_release opens_release (map bare xs)) (first_bare (x ∷ xs))
    ∙ ap (λ z. if opens_release x then idles_first is_idle_release (x ∷ xs) else z) (turn_bare xs)

from_records : (xs : List Send) → SendTurn (records_sent xs) → SendTurn (controls xs)
from_records xs turn = sym (turn_bare (controls xs)) ∙ turn

-- ---- an event

-- what is put on links alone is one flight
abbrev LinkTurn : Happening → Type 0
LinkTurn (given_to x i) = ⊤
LinkTurn (refused_for why) = ⊤
LinkTurn (on_links effects) = SendTurn (controls effects.sends)

step_turn : (w : World) (l : LinkId) (i : ℕ) (o : Option Flight) → LinkTurn (step_of w l i o)
step_turn w l i None = tt
step_turn w l i (Some f) =
    either LinkTurn (is_ordered l.class && nat_lt 0 i) (refused_for refusal.NotFirst) (if is_aged_for (node_at w l.to) (weight f) then refused_for refusal.Aged else given_to l.to (Come l f))
    tt (either LinkTurn (is_aged_for (node_at w l.to) (weight f)) (refused_for refusal.Aged) (given_to l.to (Come l f)) tt tt)

tunnel_turn : (k : Class) (h : Happening) → LinkTurn h → LinkTurn (in_tunnel k h)
tunnel_turn k h turn = either LinkTurn (is_tunnel k) h (refused_for refusal.NotTunnel) turn tt

loss_turn : (o : Option Flight) → LinkTurn (loss_of o)
loss_turn None = tt
loss_turn (Some f) = refl

-- one send is
one_turn : (x : Send) → SendTurn (x ∷ [])
one_turn x = by (opens_release x) (is_idle_release x)
  where
    by : (b d : Bool) → (if b then (if d then true else true) else true) ≡ true
    by true true = refl
    by true false = refl
    by false d = refl

copy_turn : (l : LinkId) (o : Option Flight) → LinkTurn (copy_of l o)
copy_turn l None = tt
copy_turn l (Some f) = either SendTurn (is_of_control (l, f)) ((l, f) ∷ []) [] (one_turn (l, f)) refl

links_turn : (w : World) (e : Event) → LinkTurn (happening w e)
links_turn w (event.Bearer id n first shape threshold policy) = tt
links_turn w (event.Reshape id shape) = tt
links_turn w (event.Remove id) = tt
links_turn w (event.Add node) = tt
links_turn w event.Change = tt
links_turn w event.Release = tt
links_turn w event.RekeySecond = tt
links_turn w (event.RekeyMaster root) = tt
links_turn w (event.Recover id) = tt
links_turn w (event.Report node id) = tt
links_turn w (event.Deny node on) = tt
links_turn w (event.Ask node what) = tt
links_turn w event.ScgFail = tt
links_turn w (event.Submit id d payload) = tt
links_turn w (event.Step l i) = step_turn w l i (slice_get (flights_on l w.links) i)
links_turn w (event.Lose l i) = tunnel_turn l.class (loss_of (slice_get (flights_on l w.links) i)) (loss_turn (slice_get (flights_on l w.links) i))
links_turn w (event.Again l i) = tunnel_turn l.class (copy_of l (slice_get (flights_on l w.links) i)) (copy_turn l (slice_get (flights_on l w.links) i))

carried_turn : (c : Choices) (w : World) (what : Happening) → LinkTurn what → AreOrdered w → SendTurn (controls (carried_on c w what).1.sends)
carried_turn c w (given_to T i) turn up =
    let done = came (terminal_step c w.terminal i) in from_records done.1.sends (busy_turn is_idle_release opens_release (records_sent done.1.sends) (terminal_idle w.terminal i done (terminal_stepped c w.terminal i up.terminal)))
carried_turn c w (given_to M i) turn up = let done = came (master_step c w.master i) in from_records done.1.sends (master_turn c w.master i done up.master (master_stepped c w.master i up.master))
carried_turn c w (given_to A i) turn up = let done = came (second_step c w.a i) in from_records done.1.sends (busy_turn is_idle_release opens_release (records_sent done.1.sends) (second_idle w.a i done (second_stepped c w.a i up.a)))
carried_turn c w (given_to B i) turn up = let done = came (second_step c w.b i) in from_records done.1.sends (busy_turn is_idle_release opens_release (records_sent done.1.sends) (second_idle w.b i done (second_stepped c w.b i up.b)))
carried_turn c w (refused_for why) turn up = refl
carried_turn c w (on_links effects) turn up = turn

pub event_turn : (c : Choices) (w : World) (e : Event) → AreOrdered w → SendTurn (controls (carried_on c w (happening w e)).1.sends)
event_turn c w e up = carried_turn c w (happening w e) (links_turn w e) up

-- after each event each control link holds what stood there without what was taken, and what was sent there, in order
pub always_links : (c : Choices) (w : World) (e : Event) (l : LinkId) → IsControlLink l → length w.links ≡ 64 → AreOrdered w
    → flights_on l (world_step c w e).0.links ≡ without_taken l (place_taken e (carried_on c w (happening w e)).1.answer) (flights_on l w.links) ++ sent_on l (carried_on c w (happening w e)).1.sends
always_links c w e l control long up = event_links c w e l control long (event_turn c w e up)
