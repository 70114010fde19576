-- Each event keeps what stands between the master and the terminal, where the terminal takes what comes first to it.
use Rattle.std.proofs.Common.{ℕ, ◌≡◌, ◌++◌, Bool, true, false, List, [], ◌∷◌, Some, None, length, refl, sym, ap, subst, ◌∙◌, inl, inr}
use Rattle.std.specs.Prelude.{Err, if◌then◌else◌, not}
use Rattle.std.proofs.lemmas.List.{append-nil}
use Rattle.std.proofs.lemmas.Bool.{eq-eqb}
use Rattle.std.proofs.lemmas.List.Elements.{filter-append}
use Rattle.dc_base.specs.Links.{is_same_link, link, link_number}
use Rattle.dc_base.specs.Nodes.{is_same_node}
use Rattle.dc_base.specs.declared.answers.Refusal.{Refusal}
use Rattle.dc_base.specs.declared.flights.Flight.{Flight}
use Rattle.dc_base.specs.declared.flights.Flight.TheVariants as flight
use Rattle.dc_base.specs.declared.nodes.Class.{Class}
use Rattle.dc_base.specs.declared.nodes.Class.TheVariants.{Air, Ctl, Feed, Tun}
use Rattle.dc_base.specs.declared.nodes.LinkId.{LinkId}
use Rattle.dc_base.specs.declared.nodes.Node.{Node}
use Rattle.dc_base.specs.declared.nodes.Node.TheVariants.{A, B, M, T}
use Rattle.dc_base.specs.declared.records.Rec.{Rec}
use Rattle.dc_base.specs.declared.records.Rec.TheVariants as rec
use Rattle.dc_base.specs.declared.records.StatusTransfer.{StatusTransfer}
use Rattle.node_rules.specs.Acts.{ProcFault}
use Rattle.node_rules.specs.Choices.{Choices, Send}
use Rattle.node_rules.specs.Effects.{after_effects, quiet}
use Rattle.node_rules.specs.Master.{MasterNode}
use Rattle.node_rules.specs.MasterPlan.{does}
use Rattle.node_rules.specs.MasterState.{MasterActs, MasterProc}
use Rattle.node_rules.specs.MasterStep.{master_step, master_takes}
use Rattle.node_rules.specs.MasterTaking.{master_adopted, master_take}
use Rattle.node_rules.specs.Run.{Happening, carried_on, given_to, on_links, refused_for}
use Rattle.node_rules.specs.SecondStep.{second_step}
use Rattle.node_rules.specs.Terminal.{TerminalNode, terminal_step, terminal_takes}
use Rattle.node_rules.specs.World.{World}
use Rattle.node_rules.specs.declared.acts.Act.TheVariants.{Pass as pass}
use Rattle.node_rules.specs.declared.inputs.Effects.{Effects}
use Rattle.node_rules.specs.declared.inputs.Input.{Input}
use Rattle.node_rules.specs.declared.inputs.Input.TheVariants.{Cmd, Come}
use Rattle.run_control.specs.Claims.{FirstIs, IsAnswer, IsTakenThere, Talks, answered_once, asked_once, is_failure, quiet_both}
use Rattle.run_control.specs.Links.{sent_on}
use Rattle.run_control.specs.MasterControl.{MasterHeard, MasterPassed, MasterProjects, adopts_by_it, master_heard, master_no_row, master_ordered, master_passed, master_refused, own_acts_sends, waits_on}
use Rattle.run_control.specs.Orders.{Ascends}
use Rattle.run_control.specs.Rows.{IsTaken}
use Rattle.run_control.specs.SecondControl.{bare_record, record_to, records_sent}
use Rattle.run_control.specs.Sound.{AddsSecond, AreSoundActs, IsSound, TakesSound}
use Rattle.run_control.specs.Steps.{AreOrdered, MasterStepped, TerminalStepped, master_by_command, master_by_nothing, master_by_record, master_by_traffic, record_in, record_on, sender_of, terminal_by_failure, terminal_by_nothing, terminal_by_record, terminal_by_traffic}
use Rattle.run_control.specs.Telling.{Due, Tells, due_after, due_by, nothing_due, tells_nothing, tells_once}
use Rattle.run_control.specs.TerminalControl.{terminal_answers}
use Rattle.run_control.specs.Traffic.{came, master_adopts, master_keeps}
use Rattle.run_control.specs.Views.{master_view, terminal_view}
use Rattle.run_control.proofs.Answers.{answer_taken}
use Rattle.run_control.proofs.Asking.{TakesTells, adoption_tells, command_tells, take_tells}
use Rattle.run_control.proofs.MasterActs.{does_projects}
use Rattle.run_control.proofs.MasterHears.{master_hears}
use Rattle.run_control.proofs.Names.{AreNamed, IsAway, second_apart}
use Rattle.run_control.proofs.NoLinks.{AreSilent, IsNoLink, acts_apart, a_terminal, b_terminal, terminal_terminal}
use Rattle.run_control.proofs.Records.{bare_flights, bare_records, sent_bare}
use Rattle.run_control.proofs.Runs.{AddsBy, AddsIn}
use Rattle.run_control.proofs.Sequences.{no_records, records_both}
use Rattle.run_control.proofs.Sound.{adoption_sound, command_sound, take_sound}
use Rattle.run_control.proofs.Steps.{master_stepped, second_stepped, terminal_stepped}
use Rattle.run_control.proofs.Taken.{GoesRight, HasNone, IsRight, NoneOf, Takes, records_in, takes_none, takes_one}
use Rattle.run_control.proofs.Talks.{acts_down, answering, bare_told, first_or, rest_of, talks_answered, talks_by, talks_told}
use Rattle.run_control.proofs.TerminalHears.{terminal_hears}
use Rattle.run_control.proofs.Telling.{told_in}
use Rattle.run_control.proofs.Turns.{never}

-- what is sent to the terminal, and by it
abbrev pub told_down : List Send → List Rec
told_down sends = records_in (sent_on (link M T Ctl) (records_sent sends))

abbrev pub told_up : List Send → List Rec
told_up sends = records_in (sent_on (link T M Ctl) (records_sent sends))

-- what stands there then
abbrev pub TalksThen : Due → List Rec → List Rec → List Send → Type 0
TalksThen due down up sends = Talks due (bare_records down ++ told_down sends) (bare_records up ++ told_up sends)

-- ---- nothing is sent there

talks_still : (due : Due) (down down' up up' : List Rec) (sends : List Send) → down' ≡ down → up' ≡ up → told_down sends ≡ [] → told_up sends ≡ [] → Talks due (bare_records down) (bare_records up)
    → TalksThen due down' up' sends
talks_still due down down' up up' sends same_down same_up no_down no_up talks =
    let p : bare_records down' ++ told_down sends ≡ bare_records down = ap (λ rs. bare_records down' ++ rs) no_down ∙ append-nil (bare_records down') ∙ ap bare_records same_down in
    let q : bare_records up' ++ told_up sends ≡ bare_records up = ap (λ rs. bare_records up' ++ rs) no_up ∙ append-nil (bare_records up') ∙ ap bare_records same_up in
    subst (λ rs. Talks due rs (bare_records up' ++ told_up sends)) (sym p) (subst (λ rs. Talks due (bare_records down) rs) (sym q) talks)

-- ---- the terminal

abbrev pub input_of : Happening → Input → Input
input_of (given_to x i) d = i
input_of (refused_for why) d = d
input_of (on_links effects) d = d

pub class_of : (k : Class) (f : Flight) (r : Rec) → record_on k f ≡ Some r → k ≡ Ctl
class_of Ctl f r is = refl
class_of Feed f r is = absurd cc
class_of Air f r is = absurd cc
class_of Tun f r is = absurd cc

pub itself : (l : LinkId) → is_same_link l l ≡ true
itself l = eq-eqb (link_number l) (link_number l) refl

pub same_as : (x y : Node) (k : LinkId) → k.from ≡ x → y ≡ k.to → k.class ≡ Ctl → is_same_link (link x y Ctl) k ≡ true
same_as x y k from to class =
    let is : k ≡ link x y Ctl =
    ap (λ n. record { from = n; to = k.to; class = k.class }) from
    ∙ ap (λ n. record { from = x; to = n; class = k.class }) (sym to)
    ∙ ap (λ n. record { from = x; to = y; class = n }) class in
    subst (λ j. is_same_link (link x y Ctl) j ≡ true) (sym is) (itself (link x y Ctl))

-- no record of this link is among the input
pub refutes : (x y : Node) (k : LinkId) (f : Flight) (r : Rec) → NoneOf (link x y Ctl) (Come k f) → k.from ≡ x → y ≡ k.to → record_in (Come k f) ≡ Some r → ⊥
refutes x y k f r (inl other) from to is = never (is_same_link (link x y Ctl) k) (same_as x y k from to (class_of k.class f r is)) other
refutes x y k f r (inr none) from to is = no_some r (sym none ∙ is)
  where
    no_some : (q : Rec) → None ≡ Some q → ⊥
    no_some q e = absurd cc

-- from no node a record comes to the terminal
from_nowhere : (k : LinkId) (f : Flight) (r : Rec) (x : Node) → k.from ≡ x → ((l : LinkId) → IsNoLink l → NoneOf l (Come k f)) → NoneOf (link M T Ctl) (Come k f) → T ≡ k.to → record_in (Come k f) ≡ Some r → ⊥
from_nowhere k f r T from others none to is = refutes T T k f r (others (link T T Ctl) terminal_terminal) from to is
from_nowhere k f r M from others none to is = refutes M T k f r none from to is
from_nowhere k f r A from others none to is = refutes A T k f r (others (link A T Ctl) a_terminal) from to is
from_nowhere k f r B from others none to is = refutes B T k f r (others (link B T Ctl) b_terminal) from to is

pub not_given : (i : Input) (r : Rec) → ((l : LinkId) → IsNoLink l → NoneOf l i) → NoneOf (link M T Ctl) i → GoesRight i T → record_in i ≡ Some r → ⊥
not_given (Cmd e) r others none right is = absurd cc
not_given (Come k f) r others none right is = from_nowhere k f r k.from refl others none right is

-- a record that the master gets is not the terminal's, where none of its link is taken
from_other : (i : Input) (r : Rec) → NoneOf (link T M Ctl) i → GoesRight i M → record_in i ≡ Some r → is_same_node (sender_of i) T ≡ false
from_other (Cmd e) r none right is = absurd cc
from_other (Come k f) r none right is = by k.from refl
  where
    by : (x : Node) → k.from ≡ x → is_same_node x T ≡ false
    by T from = absurd (refutes T M k f r none from right is)
    by M from = refl
    by A from = refl
    by B from = refl

module _ (t : TerminalNode) (due : Due) (down down' up up' : List Rec) (talks : Talks due (bare_records down) (bare_records up)) where
  -- without a record from the master
  terminal_alone : (i : Input) (done : TerminalNode × Effects) → down' ≡ down → up' ≡ up → ((r : Rec) → record_in i ≡ Some r → ⊥) → TerminalStepped t i done → TalksThen due down' up' done.1.sends
  terminal_alone i done p q never_given (terminal_by_traffic is) =
      talks_still due down down' up up' done.1.sends p q (ap (λ xs. records_in (sent_on (link M T Ctl) xs)) (no_records done.1.sends is.sends)) (ap (λ xs. records_in (sent_on (link T M Ctl) xs)) (no_records done.1.sends is.sends)) talks
  terminal_alone i done p q never_given (terminal_by_record r came_in is) = absurd (never_given r came_in)
  terminal_alone i done p q never_given (terminal_by_failure failed came_in is) =
      let x = rec.Scgf failed in
      let nothing : told_down done.1.sends ≡ [] = ap (λ xs. records_in (sent_on (link M T Ctl) xs)) is.told in
      let one : told_up done.1.sends ≡ x ∷ [] = ap (λ xs. records_in (sent_on (link T M Ctl) xs)) is.told in
      let line : bare_records down' ++ told_down done.1.sends ≡ bare_records down = ap (λ rs. bare_records down' ++ rs) nothing ∙ append-nil (bare_records down') ∙ ap bare_records p in
      let same : answering (bare_records up' ++ told_up done.1.sends) ≡ answering (bare_records up) =
      ap (λ rs. answering (bare_records up' ++ rs)) one ∙ filter-append (λ y. not (is_failure y)) (bare_records up') (x ∷ []) ∙ append-nil (answering (bare_records up')) ∙ ap (λ rs. answering (bare_records rs)) q in
      subst (λ rs. Talks due rs (bare_records up' ++ told_up done.1.sends)) (sym line) (talks_by (bare_records up' ++ told_up done.1.sends) same talks)
  terminal_alone i done p q never_given (terminal_by_nothing is) =
      talks_still due down down' up up' done.1.sends p q (ap (λ (x : TerminalNode × Effects). told_down x.1.sends) is) (ap (λ (x : TerminalNode × Effects). told_up x.1.sends) is) talks

  -- with one
  terminal_answering : (c : Choices) (r : Rec) → Ascends t.halves → down ≡ r ∷ down' → up' ≡ up → FirstIs (IsTakenThere (terminal_view t)) down
      → TalksThen due down' up' (terminal_takes c t M (flight.Ctl r) Ctl).1.sends
  terminal_answering c r ascends first q taken =
      by (talks_answered due (terminal_view t) r (bare_records down') (bare_records up) (subst (FirstIs (IsTakenThere (terminal_view t))) first taken)
      (subst (λ rs. Talks due (bare_records rs) (bare_records up)) first talks))
    where
      by : ((a : Rec) × (terminal_answers (terminal_view t) r ≡ record_to T M a ∷ []) × Talks due (bare_records down') (bare_records up ++ bare_record a ∷ []))
          → TalksThen due down' up' (terminal_takes c t M (flight.Ctl r) Ctl).1.sends
      by (a, is, then') =
          let out = (terminal_takes c t M (flight.Ctl r) Ctl).1.sends in
          let told : records_sent out ≡ record_to T M a ∷ [] = (terminal_hears c t M r ascends).told ∙ is in
          let nothing : told_down out ≡ [] = ap (λ xs. records_in (sent_on (link M T Ctl) xs)) told in
          let one : told_up out ≡ bare_record a ∷ [] = ap (λ xs. records_in (sent_on (link T M Ctl) xs)) told in
          let lower : bare_records down' ++ told_down out ≡ bare_records down' = ap (λ rs. bare_records down' ++ rs) nothing ∙ append-nil (bare_records down') in
          let upper : bare_records up' ++ told_up out ≡ bare_records up ++ bare_record a ∷ [] = ap (λ rs. bare_records up' ++ rs) one ∙ ap (λ rs. bare_records rs ++ bare_record a ∷ []) q in
          subst (λ rs. Talks due rs (bare_records up' ++ told_up out)) (sym lower) (subst (λ rs. Talks due (bare_records down') rs) (sym upper) then')

-- links from other nodes
up_away : IsAway M (link T M Ctl)
up_away T = refl
up_away M = refl
up_away A = refl
up_away B = refl

pub a_down : IsAway A (link M T Ctl)
a_down T = refl
a_down M = refl
a_down A = refl
a_down B = refl

a_up : IsAway A (link T M Ctl)
a_up T = refl
a_up M = refl
a_up A = refl
a_up B = refl

pub b_down : IsAway B (link M T Ctl)
b_down T = refl
b_down M = refl
b_down A = refl
b_down B = refl

b_up : IsAway B (link T M Ctl)
b_up T = refl
b_up M = refl
b_up A = refl
b_up B = refl

-- ---- the master

-- what it did, by acts of its procedures that tell the terminal what is due
record Spoke (due : Due) (done : MasterNode × Effects) : Type 0 where
  acts : MasterActs
  tells : Tells due acts
  proc : done.0.proc ≡ acts.0
  down : told_down done.1.sends ≡ told_in acts.1
  up : told_up done.1.sends ≡ []

-- by the acts
projects_spoke : (due : Due) (m : MasterNode) (acts : MasterActs) (done : MasterNode × Effects) → Tells due acts → AreSoundActs acts → MasterProjects m acts done → Spoke due done
projects_spoke due m acts done tells sound is = record {
  acts = acts;
  tells = tells;
  proc = is.proc;
  down = ap (λ xs. records_in (sent_on (link M T Ctl) xs)) is.told ∙ acts_down acts.1 (master_view m) sound.acts ∙ bare_told due acts tells;
  up = ap (λ xs. records_in (sent_on (link T M Ctl) xs)) is.told ∙ ap records_in (acts_apart (link T M Ctl) up_away acts.1 (master_view m));
}

-- nothing
nothing_spoke : (due : Due) (m : MasterNode) (done : MasterNode × Effects) → done ≡ (m, quiet) → due_by m.proc.command ≡ due → Spoke due done
nothing_spoke due m done is stays = record {
  acts = (m.proc, []);
  tells = tells_nothing refl stays;
  proc = ap (λ (x : MasterNode × Effects). x.0.proc) is;
  down = ap (λ (x : MasterNode × Effects). told_down x.1.sends) is;
  up = ap (λ (x : MasterNode × Effects). told_up x.1.sends) is;
}

-- an adoption
adopted_spoke : (due : Due) (c : Choices) (m next : MasterNode) (before : Effects) (id : ℕ) (done : MasterNode × Effects) → due_by m.proc.command ≡ due → IsSound m.proc → next.proc ≡ m.proc
    → records_sent before.sends ≡ [] → Ascends next.anchors → done ≡ after_effects before (does c next (master_adopted next.proc id)) → Spoke due done
adopted_spoke due c m next before id done stays sound proc none up is =
    let acts = master_adopted next.proc id in
    let then' = does c next acts in
    let projects = does_projects c next acts up in
    let still : IsSound next.proc = subst IsSound (sym proc) sound in
    let tells : Tells due acts = subst (λ d. Tells d acts) (ap (λ (p : MasterProc). due_by p.command) proc ∙ stays) (adoption_tells next.proc id still) in
    let told : records_sent done.1.sends ≡ own_acts_sends acts.1 (master_view next) =
    ap (λ (x : MasterNode × Effects). records_sent x.1.sends) is ∙ records_both before.sends then'.1.sends none projects.told in
    projects_spoke due next acts done tells (adoption_sound next.proc id still) (record {
      proc = ap (λ (x : MasterNode × Effects). x.0.proc) is ∙ projects.proc;
      after = λ k. ap (λ (x : MasterNode × Effects). master_view x.0 k) is ∙ projects.after k;
      told = told;
      ascends = subst (λ (x : MasterNode × Effects). Ascends x.0.anchors) (sym is) projects.ascends;
    })

stays_of : (due : Due) (m : MasterProc) (acts : MasterActs) → told_in acts.1 ≡ [] → acts.0 ≡ m → Tells due acts → due_by m.command ≡ due
stays_of due m acts none same (tells_nothing told stays) = sym (ap (λ (p : MasterProc). due_by p.command) same) ∙ stays
stays_of due m acts none same (tells_once free x told asks) = no_one (sym told ∙ none)
  where
    no_one : x ∷ [] ≡ [] → due_by m.command ≡ due
    no_one e = absurd cc

passed_spoke : (due : Due) (c : Choices) (m : MasterNode) (status : StatusTransfer) (done : MasterNode × Effects) → due_by m.proc.command ≡ due → IsSound m.proc → MasterPassed c m status done → Spoke due done
passed_spoke due c m status done stays sound (waits_on did) = record {
  acts = (m.proc, []);
  tells = tells_nothing refl stays;
  proc = did.proc;
  down = ap (λ xs. records_in (sent_on (link M T Ctl) xs)) did.told;
  up = ap (λ xs. records_in (sent_on (link T M Ctl) xs)) did.told;
}
passed_spoke due c m status done stays sound (adopts_by_it v at awaited next before did is) = adopted_spoke due c m next before status.id done stays sound did.proc did.told did.ascends is

-- a record, which is taken or leaves what is due
heard_spoke : (due : Due) (c : Choices) (m : MasterNode) (from : Node) (r : Rec) (done : MasterNode × Effects) → IsSound m.proc → TakesTells due (master_take from m.proc r)
    → ((why : ProcFault) → master_take from m.proc r ≡ Err why → due_by m.proc.command ≡ due) → MasterHeard c m from r done → Spoke due done
heard_spoke due c m from r done sound tells else' (master_heard acts taken plain is) =
    projects_spoke due m acts done (subst (TakesTells due) taken tells) (subst TakesSound taken (take_sound from m.proc r sound)) is
heard_spoke due c m from r done sound tells else' (master_passed status taken is) =
    passed_spoke due c m status done (stays_of due m.proc (m.proc, pass status ∷ []) refl refl (subst (TakesTells due) taken tells)) sound is
heard_spoke due c m from r done sound tells else' (master_no_row why taken is) = nothing_spoke due m done is (else' why taken)

-- from a secondary node, or the master itself
due_elsewhere : (x : Node) (r : Rec) (due : Due) → is_same_node x T ≡ false → due_after x r due ≡ due
due_elsewhere T r due other = absurd cc
due_elsewhere M r due other = refl
due_elsewhere A r due other = refl
due_elsewhere B r due other = refl

stepped_spoke : (c : Choices) (m : MasterNode) (i : Input) (done : MasterNode × Effects) → AddsIn i → Ascends m.anchors → IsSound m.proc → ((r : Rec) → record_in i ≡ Some r → is_same_node (sender_of i) T ≡ false)
    → MasterStepped c m i done → Spoke (due_by m.proc.command) done
stepped_spoke c m i done adds ascends sound elsewhere (master_by_traffic (master_keeps proc views sends up)) = record {
  acts = (m.proc, []);
  tells = tells_nothing refl refl;
  proc = proc;
  down = ap (λ xs. records_in (sent_on (link M T Ctl) xs)) (no_records done.1.sends sends);
  up = ap (λ xs. records_in (sent_on (link T M Ctl) xs)) (no_records done.1.sends sends);
}
stepped_spoke c m i done adds ascends sound elsewhere (master_by_traffic (master_adopts id v at had next before proc views sends up is)) =
    adopted_spoke (due_by m.proc.command) c m next before id done refl sound proc (no_records before.sends sends) (up ascends) is
stepped_spoke c m i done adds ascends sound elsewhere (master_by_record r came_in is) =
    heard_spoke (due_by m.proc.command) c m (sender_of i) r done sound
    (subst (λ d. TakesTells d (master_take (sender_of i) m.proc r)) (due_elsewhere (sender_of i) r (due_by m.proc.command) (elsewhere r came_in)) (take_tells (sender_of i) m.proc r sound)) (λ why taken. refl) is
stepped_spoke c m i done adds ascends sound elsewhere (master_by_command e came_in (master_ordered acts taken is)) =
    let good : AddsSecond e = subst AddsIn came_in adds in
    projects_spoke (due_by m.proc.command) m acts done (subst (TakesTells (due_by m.proc.command)) taken (command_tells (length c.policies) m.proc e good sound))
    (subst TakesSound taken (command_sound (length c.policies) m.proc e good sound)) is
stepped_spoke c m i done adds ascends sound elsewhere (master_by_command e came_in (master_refused why refused is)) = nothing_spoke (due_by m.proc.command) m done is refl
stepped_spoke c m i done adds ascends sound elsewhere (master_by_nothing is) = nothing_spoke (due_by m.proc.command) m done is refl

-- what was due is asked for, or stays
spoke_talks : (due : Due) (done : MasterNode × Effects) (down down' up up' : List Rec) → down' ≡ down → up' ≡ up → Spoke due done → Talks due (bare_records down) (bare_records up)
    → TalksThen (due_by done.0.proc.command) down' up' done.1.sends
spoke_talks due done down down' up up' p q spoke talks =
    let lower : bare_records down' ++ told_down done.1.sends ≡ bare_records down ++ told_in spoke.acts.1 = ap (λ rs. bare_records rs ++ told_down done.1.sends) p ∙ ap (λ rs. bare_records down ++ rs) spoke.down in
    let upper : bare_records up' ++ told_up done.1.sends ≡ bare_records up = ap (λ rs. bare_records up' ++ rs) spoke.up ∙ append-nil (bare_records up') ∙ ap bare_records q in
    subst (λ d. Talks d (bare_records down' ++ told_down done.1.sends) (bare_records up' ++ told_up done.1.sends)) (sym (ap (λ (x : MasterProc). due_by x.command) spoke.proc))
    (subst (λ rs. Talks (due_by spoke.acts.0.command) rs (bare_records up' ++ told_up done.1.sends)) (sym lower)
    (subst (λ rs. Talks (due_by spoke.acts.0.command) (bare_records down ++ told_in spoke.acts.1) rs) (sym upper) (talks_told due spoke.acts (bare_records down) (bare_records up) spoke.tells talks)))

-- ---- the terminal's answers

-- the record is a failure, or it answers
data Hears (due : Due) (r : Rec) (down up : List Rec) : Type 0 where
  hears_failure : (is : is_failure r ≡ true) → (rest : Talks due down up) → Hears due r down up
  hears_answer : (is : IsAnswer due (bare_record r)) → (rest : Talks nothing_due down up) → Hears due r down up

failure_bare : (r : Rec) → is_failure (bare_record r) ≡ is_failure r
failure_bare (rec.Reconf plan key) = refl
failure_bare (rec.Rcomp g) = refl
failure_bare (rec.Scgf failed) = refl
failure_bare (rec.Recov id) = refl
failure_bare (rec.Recovd id) = refl
failure_bare (rec.Addreq plan key) = refl
failure_bare (rec.Addack g) = refl
failure_bare (rec.Addrej g) = refl
failure_bare (rec.Modreq plan key) = refl
failure_bare (rec.Modack g) = refl
failure_bare (rec.Modrej g) = refl
failure_bare (rec.Recfg g) = refl
failure_bare (rec.Relreq plan) = refl
failure_bare (rec.Relack g) = refl
failure_bare (rec.Relrej g) = refl
failure_bare (rec.Uecr g) = refl
failure_bare (rec.Snst status) = refl
failure_bare (rec.Moved g id) = refl
failure_bare (rec.Scgn id g) = refl
failure_bare rec.Modrqd = refl
failure_bare (rec.Modcnf g) = refl
failure_bare (rec.Modref word) = refl
failure_bare rec.Chgrqd = refl
failure_bare (rec.Chgcnf plan) = refl
failure_bare (rec.Chgref word) = refl
failure_bare rec.Relrqd = refl
failure_bare (rec.Relcnf plan) = refl

answer_bare : (due : Due) (r : Rec) → IsAnswer due (bare_record r) → IsAnswer due r
answer_bare due (rec.Reconf plan key) is = is
answer_bare due (rec.Rcomp g) is = is
answer_bare due (rec.Scgf failed) is = is
answer_bare due (rec.Recov id) is = is
answer_bare due (rec.Recovd id) is = is
answer_bare due (rec.Addreq plan key) is = is
answer_bare due (rec.Addack g) is = is
answer_bare due (rec.Addrej g) is = is
answer_bare due (rec.Modreq plan key) is = is
answer_bare due (rec.Modack g) is = is
answer_bare due (rec.Modrej g) is = is
answer_bare due (rec.Recfg g) is = is
answer_bare due (rec.Relreq plan) is = is
answer_bare due (rec.Relack g) is = is
answer_bare due (rec.Relrej g) is = is
answer_bare due (rec.Uecr g) is = is
answer_bare due (rec.Snst status) is = is
answer_bare due (rec.Moved g id) is = is
answer_bare due (rec.Scgn id g) is = is
answer_bare due rec.Modrqd is = is
answer_bare due (rec.Modcnf g) is = is
answer_bare due (rec.Modref word) is = is
answer_bare due rec.Chgrqd is = is
answer_bare due (rec.Chgcnf plan) is = is
answer_bare due (rec.Chgref word) is = is
answer_bare due rec.Relrqd is = is
answer_bare due (rec.Relcnf plan) is = is

after_answer : (due : Due) (r : Rec) → IsAnswer due r → due_after T r due ≡ nothing_due
after_answer due (rec.Reconf plan key) is = absurd is
after_answer due (rec.Rcomp g) is = refl
after_answer due (rec.Scgf failed) is = absurd is
after_answer due (rec.Recov id) is = absurd is
after_answer due (rec.Recovd id) is = refl
after_answer due (rec.Addreq plan key) is = absurd is
after_answer due (rec.Addack g) is = absurd is
after_answer due (rec.Addrej g) is = absurd is
after_answer due (rec.Modreq plan key) is = absurd is
after_answer due (rec.Modack g) is = absurd is
after_answer due (rec.Modrej g) is = absurd is
after_answer due (rec.Recfg g) is = absurd is
after_answer due (rec.Relreq plan) is = absurd is
after_answer due (rec.Relack g) is = absurd is
after_answer due (rec.Relrej g) is = absurd is
after_answer due (rec.Uecr g) is = absurd is
after_answer due (rec.Snst status) is = absurd is
after_answer due (rec.Moved g id) is = absurd is
after_answer due (rec.Scgn id g) is = absurd is
after_answer due rec.Modrqd is = absurd is
after_answer due (rec.Modcnf g) is = absurd is
after_answer due (rec.Modref word) is = absurd is
after_answer due rec.Chgrqd is = absurd is
after_answer due (rec.Chgcnf plan) is = absurd is
after_answer due (rec.Chgref word) is = absurd is
after_answer due rec.Relrqd is = absurd is
after_answer due (rec.Relcnf plan) is = absurd is

after_failure : (due : Due) (r : Rec) → is_failure r ≡ true → due_after T r due ≡ due
after_failure due (rec.Reconf plan key) is = absurd cc
after_failure due (rec.Rcomp g) is = absurd cc
after_failure due (rec.Scgf failed) is = refl
after_failure due (rec.Recov id) is = absurd cc
after_failure due (rec.Recovd id) is = absurd cc
after_failure due (rec.Addreq plan key) is = absurd cc
after_failure due (rec.Addack g) is = absurd cc
after_failure due (rec.Addrej g) is = absurd cc
after_failure due (rec.Modreq plan key) is = absurd cc
after_failure due (rec.Modack g) is = absurd cc
after_failure due (rec.Modrej g) is = absurd cc
after_failure due (rec.Recfg g) is = absurd cc
after_failure due (rec.Relreq plan) is = absurd cc
after_failure due (rec.Relack g) is = absurd cc
after_failure due (rec.Relrej g) is = absurd cc
after_failure due (rec.Uecr g) is = absurd cc
after_failure due (rec.Snst status) is = absurd cc
after_failure due (rec.Moved g id) is = absurd cc
after_failure due (rec.Scgn id g) is = absurd cc
after_failure due rec.Modrqd is = absurd cc
after_failure due (rec.Modcnf g) is = absurd cc
after_failure due (rec.Modref word) is = absurd cc
after_failure due rec.Chgrqd is = absurd cc
after_failure due (rec.Chgcnf plan) is = absurd cc
after_failure due (rec.Chgref word) is = absurd cc
after_failure due rec.Relrqd is = absurd cc
after_failure due (rec.Relcnf plan) is = absurd cc

hears : (due : Due) (r : Rec) (down up : List Rec) → Talks due down (bare_record r ∷ up) → Hears due r down up
hears due r down up talks = by (is_failure (bare_record r)) refl talks
  where
    front : (b : Bool) → is_failure (bare_record r) ≡ b → answering (bare_record r ∷ up) ≡ (if not b then bare_record r ∷ answering up else answering up)
    front b is = ap (λ d. if not d then bare_record r ∷ answering up else answering up) is

    one : (x : Rec) → bare_record r ∷ answering up ≡ x ∷ [] → bare_record r ≡ x
    one x is = ap (λ (rs : List Rec). first_or rs (bare_record r)) is

    rest : (x : Rec) → bare_record r ∷ answering up ≡ x ∷ [] → answering up ≡ []
    rest x is = ap rest_of is

    never_none : bare_record r ∷ answering up ≡ [] → ⊥
    never_none is = absurd cc

    by : (b : Bool) → is_failure (bare_record r) ≡ b → Talks due down (bare_record r ∷ up) → Hears due r down up
    by true is t = hears_failure (sym (failure_bare r) ∙ is) (talks_by up (sym (front true is)) t)
    by false is (quiet_both none down_is up_is) = absurd (never_none (sym (front false is) ∙ up_is))
    by false is (asked_once x asks down_is up_is) = absurd (never_none (sym (front false is) ∙ up_is))
    by false is (answered_once x answers down_is up_is) =
        let all = sym (front false is) ∙ up_is in
        hears_answer (subst (IsAnswer due) (sym (one x all)) answers) (quiet_both refl down_is (rest x all))

-- the master takes it
hearing_talks : (c : Choices) (m : MasterNode) (r : Rec) (down down' up' : List Rec) → Ascends m.anchors → IsSound m.proc → down' ≡ down → Hears (due_by m.proc.command) r (bare_records down) (bare_records up')
    → (let done = master_takes c m T (flight.Ctl r) Ctl in TalksThen (due_by done.0.proc.command) down' up' done.1.sends)
hearing_talks c m r down down' up' ascends sound p (hears_failure is rest) =
    let done = master_takes c m T (flight.Ctl r) Ctl in
    let due = due_by m.proc.command in
    spoke_talks due done down down' up' up' p refl
    (heard_spoke due c m T r done sound (subst (λ d. TakesTells d (master_take T m.proc r)) (after_failure due r is) (take_tells T m.proc r sound)) (λ why taken. refl) (master_hears c m T r ascends)) rest
hearing_talks c m r down down' up' ascends sound p (hears_answer is rest) =
    let done = master_takes c m T (flight.Ctl r) Ctl in
    let due = due_by m.proc.command in
    let answers = answer_bare due r is in
    spoke_talks nothing_due done down down' up' up' p refl
    (heard_spoke nothing_due c m T r done sound (subst (λ d. TakesTells d (master_take T m.proc r)) (after_answer due r answers) (take_tells T m.proc r sound))
    (λ why taken. absurd (subst IsTaken taken (answer_taken m.proc r answers))) (master_hears c m T r ascends)) rest

-- ---- any input

-- all that is kept besides
pub record IsKept (w : World) : Type 0 where
  pub long : length w.links ≡ 64
  pub ordered : AreOrdered w
  pub sound : IsSound w.master.proc
  pub silent : AreSilent w
  pub named : AreNamed w

-- it is no input for the master, or for the terminal
abbrev pub Receiver : Happening → Node → Node
Receiver (given_to x i) d = x
Receiver (refused_for why) d = d
Receiver (on_links effects) d = d

itself_node : (z : Node) → is_same_node z z ≡ true
itself_node T = refl
itself_node M = refl
itself_node A = refl
itself_node B = refl

pub no_happening : (what : Happening) (x y : Node) (i : Input) → what ≡ given_to x i → Receiver what y ≡ y → is_same_node x y ≡ false → ⊥
no_happening what x y i is at other = by (sym (ap (λ h. Receiver h y) is) ∙ at)
  where
    by : x ≡ y → ⊥
    by e = never (is_same_node x y) (subst (λ z. is_same_node x z ≡ true) e (itself_node x)) other

module _ (c : Choices) (w : World) (kept : IsKept w) (down down' up up' : List Rec) (taken : FirstIs (IsTakenThere (terminal_view w.terminal)) down)
    (talks : Talks (due_by w.master.proc.command) (bare_records down) (bare_records up)) where
  -- what is so then
  abbrev Then : Happening → Type 0
  Then what = TalksThen (due_by (carried_on c w what).0.master.proc.command) down' up' (carried_on c w what).1.sends

  -- where nothing comes from either
  quietly : (sends : List Send) → down' ≡ down → up' ≡ up → sent_on (link M T Ctl) (records_sent sends) ≡ [] → sent_on (link T M Ctl) (records_sent sends) ≡ [] → TalksThen (due_by w.master.proc.command) down' up' sends
  quietly sends p q no_down no_up = talks_still (due_by w.master.proc.command) down down' up up' sends p q (ap records_in no_down) (ap records_in no_up) talks

  to_terminal : (i : Input) → Takes (link M T Ctl) (given_to T i) down down' → Takes (link T M Ctl) (given_to T i) up up' → ((l : LinkId) → IsNoLink l → HasNone l (given_to T i)) → GoesRight i T → Then (given_to T i)
  to_terminal i (takes_none p none) (takes_none q none') others right =
      let done = came (terminal_step c w.terminal i) in
      terminal_alone w.terminal (due_by w.master.proc.command) down down' up up' talks i done p q (λ r is. not_given i r others none right is) (terminal_stepped c w.terminal i kept.ordered.terminal)
  to_terminal i (takes_one r first is) (takes_none q none') others right =
      let input : i ≡ Come (link M T Ctl) (flight.Ctl r) = ap (λ h. input_of h i) is in
      subst (λ j. Then (given_to T j)) (sym input) (terminal_answering w.terminal (due_by w.master.proc.command) down down' up up' talks c r kept.ordered.terminal first q taken)
  to_terminal i t (takes_one r first is) others right = absurd (no_happening (given_to T i) M T (Come (link T M Ctl) (flight.Ctl r)) is refl refl)

  to_master : (i : Input) → Takes (link M T Ctl) (given_to M i) down down' → Takes (link T M Ctl) (given_to M i) up up' → GoesRight i M → AddsIn i → Then (given_to M i)
  to_master i (takes_one r first is) t right adds = absurd (no_happening (given_to M i) T M (Come (link M T Ctl) (flight.Ctl r)) is refl refl)
  to_master i (takes_none p none) (takes_one r first is) right adds =
      let input : i ≡ Come (link T M Ctl) (flight.Ctl r) = ap (λ h. input_of h i) is in
      let line : Talks (due_by w.master.proc.command) (bare_records down) (bare_record r ∷ bare_records up') = subst (λ rs. Talks (due_by w.master.proc.command) (bare_records down) (bare_records rs)) first talks in
      subst (λ j. Then (given_to M j)) (sym input)
      (hearing_talks c w.master r down down' up' kept.ordered.master kept.sound p (hears (due_by w.master.proc.command) r (bare_records down) (bare_records up') line))
  to_master i (takes_none p none) (takes_none q none') right adds =
      let done = came (master_step c w.master i) in
      spoke_talks (due_by w.master.proc.command) done down down' up up' p q
      (stepped_spoke c w.master i done adds kept.ordered.master kept.sound (λ r is. from_other i r none' right is) (master_stepped c w.master i kept.ordered.master)) talks

  to_a : (i : Input) → Takes (link M T Ctl) (given_to A i) down down' → Takes (link T M Ctl) (given_to A i) up up' → Then (given_to A i)
  to_a i (takes_one r first is) t = absurd (no_happening (given_to A i) T A (Come (link M T Ctl) (flight.Ctl r)) is refl refl)
  to_a i (takes_none p none) (takes_one r first is) = absurd (no_happening (given_to A i) M A (Come (link T M Ctl) (flight.Ctl r)) is refl refl)
  to_a i (takes_none p none) (takes_none q none') =
      let done = came (second_step c w.a i) in
      let stepped = second_stepped c w.a i kept.ordered.a in
      quietly done.1.sends p q
      (second_apart w.a i (link M T Ctl) done (subst (λ me. IsAway me (link M T Ctl)) (sym kept.named.a) a_down) stepped)
      (second_apart w.a i (link T M Ctl) done (subst (λ me. IsAway me (link T M Ctl)) (sym kept.named.a) a_up) stepped)

  to_b : (i : Input) → Takes (link M T Ctl) (given_to B i) down down' → Takes (link T M Ctl) (given_to B i) up up' → Then (given_to B i)
  to_b i (takes_one r first is) t = absurd (no_happening (given_to B i) T B (Come (link M T Ctl) (flight.Ctl r)) is refl refl)
  to_b i (takes_none p none) (takes_one r first is) = absurd (no_happening (given_to B i) M B (Come (link T M Ctl) (flight.Ctl r)) is refl refl)
  to_b i (takes_none p none) (takes_none q none') =
      let done = came (second_step c w.b i) in
      let stepped = second_stepped c w.b i kept.ordered.b in
      quietly done.1.sends p q
      (second_apart w.b i (link M T Ctl) done (subst (λ me. IsAway me (link M T Ctl)) (sym kept.named.b) b_down) stepped)
      (second_apart w.b i (link T M Ctl) done (subst (λ me. IsAway me (link T M Ctl)) (sym kept.named.b) b_up) stepped)

  on_neither : (effects : Effects) → Takes (link M T Ctl) (on_links effects) down down' → Takes (link T M Ctl) (on_links effects) up up' → IsRight (on_links effects) → Then (on_links effects)
  on_neither effects (takes_one r first is) t right = no_way is
    where
      no_way : on_links effects ≡ given_to T (Come (link M T Ctl) (flight.Ctl r)) → Then (on_links effects)
      no_way e = absurd cc
  on_neither effects (takes_none p none) (takes_one r first is) right = no_way is
    where
      no_way : on_links effects ≡ given_to M (Come (link T M Ctl) (flight.Ctl r)) → Then (on_links effects)
      no_way e = absurd cc
  on_neither effects (takes_none p none) (takes_none q none') right =
      quietly effects.sends p q
      (sent_bare (link M T Ctl) refl effects.sends ∙ ap bare_flights (right (link M T Ctl) refl))
      (sent_bare (link T M Ctl) refl effects.sends ∙ ap bare_flights (right (link T M Ctl) refl))

  in_refusal : (why : Refusal) → Takes (link M T Ctl) (refused_for why) down down' → Takes (link T M Ctl) (refused_for why) up up' → Then (refused_for why)
  in_refusal why (takes_one r first is) t = no_way is
    where
      no_way : refused_for why ≡ given_to T (Come (link M T Ctl) (flight.Ctl r)) → Then (refused_for why)
      no_way e = absurd cc
  in_refusal why (takes_none p none) (takes_one r first is) = no_way is
    where
      no_way : refused_for why ≡ given_to M (Come (link T M Ctl) (flight.Ctl r)) → Then (refused_for why)
      no_way e = absurd cc
  in_refusal why (takes_none p none) (takes_none q none') = quietly [] p q refl refl

  pub carried_talks : (what : Happening) → Takes (link M T Ctl) what down down' → Takes (link T M Ctl) what up up' → ((l : LinkId) → IsNoLink l → HasNone l what) → IsRight what → AddsBy what → Then what
  carried_talks (given_to T i) s t others right adds = to_terminal i s t others right
  carried_talks (given_to M i) s t others right adds = to_master i s t right adds
  carried_talks (given_to A i) s t others right adds = to_a i s t
  carried_talks (given_to B i) s t others right adds = to_b i s t
  carried_talks (refused_for why) s t others right adds = in_refusal why s t
  carried_talks (on_links effects) s t others right adds = on_neither effects s t right
