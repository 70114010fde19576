-- The records that the master sends are between the ends that they have.
use Rattle.std.proofs.Common.{ℕ, ◌≡◌, ◌++◌, Bool, true, false, List, [], ◌∷◌, Option, Some, None, length, refl, sym, subst}
use Rattle.std.specs.Prelude.{Ok, Result, if◌then◌else◌, ⊤}
use Rattle.std.specs.List.{AllByRecursion}
use Rattle.dc_base.specs.Links.{is_link, joins, link}
use Rattle.dc_base.specs.Nodes.{is_same_node, is_secondary}
use Rattle.dc_base.specs.Records.{item_id}
use Rattle.dc_base.specs.declared.flights.Flight.{Flight}
use Rattle.dc_base.specs.declared.flights.Flight.TheVariants as flight
use Rattle.dc_base.specs.declared.nodes.Class.TheVariants.{Ctl}
use Rattle.dc_base.specs.declared.nodes.Node.{Node}
use Rattle.dc_base.specs.declared.nodes.Node.TheVariants.{A, B, M, T}
use Rattle.dc_base.specs.declared.records.Item.{Item}
use Rattle.dc_base.specs.declared.records.Plan.{Plan}
use Rattle.dc_base.specs.declared.records.Rec.{Rec}
use Rattle.dc_base.specs.declared.records.Rec.TheVariants as rec
use Rattle.transcript.proofs.OnEach.{each_append}
use Rattle.node_rules.specs.Acts.{ProcFault, first_refusal}
use Rattle.node_rules.specs.Choices.{Choices, Send}
use Rattle.node_rules.specs.Effects.{after_effects, quiet}
use Rattle.node_rules.specs.Master.{MasterNode}
use Rattle.node_rules.specs.MasterCommands.{command_refusals, master_command}
use Rattle.node_rules.specs.MasterPlan.{does}
use Rattle.node_rules.specs.MasterState.{MasterActs}
use Rattle.node_rules.specs.MasterTaking.{master_adopted, master_take}
use Rattle.node_rules.specs.Parts.{part_at}
use Rattle.node_rules.specs.declared.acts.Act.{Act}
use Rattle.node_rules.specs.declared.acts.Act.TheVariants.{FailOne as fail_one, Go as go, Pass as pass, Prepare as prepare, RecoverOne as recover_one, Say as say, Send as send, UnlockAll as unlock_all}
use Rattle.node_rules.specs.declared.inputs.Effects.{Effects}
use Rattle.node_rules.specs.declared.inputs.Input.{Input}
use Rattle.node_rules.specs.declared.parts.Part.{Part}
use Rattle.node_rules.specs.declared.parts.Part.TheVariants.{Awaits as awaits, Drops as drops, Establishes as establishes, HandsOver as hands_over, HasNoAnchor as has_no_anchor, Renews as renews}
use Rattle.run_control.specs.MasterControl.{adopts_by_it, master_heard, master_no_row, master_ordered, master_passed, master_refused, own_act_sends, own_act_view, own_acts_sends, own_part_sends, sent_here, waits_on, with_own_item}
use Rattle.run_control.specs.Orders.{Ascends}
use Rattle.run_control.specs.SecondControl.{Views, records_sent, tells, tells_at}
use Rattle.run_control.specs.Steps.{MasterStepped, master_by_command, master_by_nothing, master_by_record, master_by_traffic, sender_of}
use Rattle.run_control.specs.Traffic.{master_adopts, master_keeps}
use Rattle.run_control.specs.Views.{Stage, View, has_status, holds, lacks_status, master_view}
use Rattle.run_control.proofs.MasterActs.{does_projects}
use Rattle.run_control.proofs.Sequences.{no_records, records_both}
use Rattle.run_senders.proofs.MasterRecords.{AllFit, TakeFits, act_fits, adopted_fits, commands_fits, take_fits}
use Rattle.run_senders.proofs.Records.{bare_fits}
use Rattle.run_senders.specs.Fitting.{FitsOn, IsFitting}
use Rattle.run_control.specs.Sound.{AddsSecond, IsSecond, IsSound, IsSoundAct, TakesSound}
use Rattle.run_control.proofs.Runs.{AddsIn}
use Rattle.run_control.proofs.Sent.{either}
use Rattle.run_control.proofs.Sound.{adoption_sound, command_sound, take_sound}
use Rattle.run_words.specs.Senders.{IsBy}
use Rattle.claims.specs.OnLink.{record_fits}
use Rattle.node_rules.specs.Parts.{moved_part}
use Rattle.node_rules.specs.Places.{anchor_at, node_or_master}
use Rattle.dc_base.specs.declared.nodes.LinkId.{LinkId}
use Rattle.dc_base.specs.declared.records.Item.TheVariants as item
use Rattle.run_senders.proofs.OnLinks.{IsIdleLinked}

abbrev AreFitting : List Send → Type 0
AreFitting ss = AllByRecursion IsFitting ss

by_telling_at : (k : Stage) (x : Node) (g : ℕ) (v : View) → is_secondary x ≡ true → AreFitting (tells_at k (link M x Ctl) g v)
by_telling_at holds x g v second = (second, tt)
by_telling_at lacks_status x g v second = tt
by_telling_at has_status x g v second = tt

by_telling : (x : Node) (g : ℕ) (o : Option View) → is_secondary x ≡ true → AreFitting (tells (link M x Ctl) g o)
by_telling x g None second = tt
by_telling x g (Some v) second = by_telling_at v.stage x g v second

-- what is handed over goes to a secondary node
abbrev HandsToSecond : Part → Type 0
HandsToSecond (hands_over to) = is_secondary to ≡ true
HandsToSecond establishes = ⊤
HandsToSecond renews = ⊤
HandsToSecond awaits = ⊤
HandsToSecond drops = ⊤
HandsToSecond has_no_anchor = ⊤

anchor_second : (sec : Option Node) (at_second : Bool) → IsSecond sec → is_same_node M (if at_second then node_or_master sec else M) ≡ false → is_secondary (if at_second then node_or_master sec else M) ≡ true
anchor_second None true second other = absurd cc
anchor_second (Some x) true second other = second
anchor_second sec false second other = absurd cc

moved_second : (new : Node) (b d : Bool) → is_same_node M new ≡ d → (is_same_node M new ≡ false → is_secondary new ≡ true) → HandsToSecond (moved_part new b d)
moved_second new true true is second = tt
moved_second new true false is second = second is
moved_second new false true is second = tt
moved_second new false false is second = tt

part_second : (sec : Option Node) (i : Item) → IsSecond sec → HandsToSecond (part_at M sec i)
part_second sec (item.Set id n first shape threshold policy key None) second = either HandsToSecond (is_same_node M (anchor_at sec shape)) establishes has_no_anchor tt tt
part_second sec (item.Set id n first shape threshold policy key (Some old)) second =
    moved_second (anchor_at sec shape) (is_same_node M old) (is_same_node M (anchor_at sec shape)) refl (anchor_second sec shape.at_second second)
part_second sec (item.Unset id) second = tt

by_part : (g : ℕ) (part : Part) (o : Option View) → HandsToSecond part → AreFitting (own_part_sends g part o)
by_part g establishes o second = tt
by_part g renews o second = tt
by_part g awaits o second = tt
by_part g (hands_over to) o second = by_telling to g o second
by_part g drops o second = tt
by_part g has_no_anchor o second = tt

by_items : (p : Plan) (is : List Item) (v : Views) → IsSecond p.sec → AreFitting (sent_here p is v)
by_items p [] v second = tt
by_items p (i ∷ is) v second =
    each_append IsFitting (own_part_sends p.g (part_at M p.sec i) (v (item_id i))) (sent_here p is (with_own_item p i v)) (by_part p.g (part_at M p.sec i) (v (item_id i)) (part_second p.sec i second)) (by_items p is (with_own_item p i v) second)

by_act : (a : Act) (v : Views) → act_fits a ≡ true → IsSoundAct a → AreFitting (own_act_sends a v)
by_act (send to r) v fits sound = (bare_fits (link M to Ctl) r fits, tt)
by_act (prepare p) v fits sound = tt
by_act (go p) v fits sound = by_items p p.items v sound
by_act (unlock_all g) v fits sound = tt
by_act (say n) v fits sound = tt
by_act (recover_one id) v fits sound = tt
by_act (fail_one id g) v fits sound = tt
by_act (pass status) v fits sound = tt

by_acts : (acts : List Act) (v : Views) → AllFit acts → AllByRecursion IsSoundAct acts → AreFitting (own_acts_sends acts v)
by_acts [] v fits sound = tt
by_acts (a ∷ acts) v fits sound = each_append IsFitting (own_act_sends a v) (own_acts_sends acts (own_act_view a v)) (by_act a v fits.0 sound.0) (by_acts acts (own_act_view a v) fits.1 sound.1)

-- by what was sent
as_sent : (xs ys : List Send) → xs ≡ ys → AreFitting ys → AreFitting xs
as_sent xs ys same all = subst AreFitting (sym same) all

abbrev Fits : MasterNode × Effects → Type 0
Fits done = AreFitting (records_sent done.1.sends)

by_adoption : (c : Choices) (next : MasterNode) (before : Effects) (id : ℕ) (done : MasterNode × Effects) → IsSound next.proc → records_sent before.sends ≡ [] → Ascends next.anchors
    → done ≡ after_effects before (does c next (master_adopted next.proc id)) → Fits done
by_adoption c next before id done sound nothing up is =
    let acts = master_adopted next.proc id in
    let then' = does c next acts in
    subst Fits (sym is)
    (as_sent (records_sent (before.sends ++ then'.1.sends)) (own_acts_sends acts.1 (master_view next)) (records_both before.sends then'.1.sends nothing (does_projects c next acts up).told)
    (by_acts acts.1 (master_view next) (adopted_fits id next.proc next.proc.command sound.command) (adoption_sound next.proc id sound).acts))

-- nothing is done
by_nothing : (m : MasterNode) (done : MasterNode × Effects) → done ≡ (m, quiet) → Fits done
by_nothing m done is = subst Fits (sym is) tt

taken_fits : (t : Result MasterActs ProcFault) (acts : MasterActs) → t ≡ Ok acts → TakeFits t → AllFit acts.1
taken_fits t acts is fits = subst TakeFits is fits

taken_sound : (t : Result MasterActs ProcFault) (acts : MasterActs) → t ≡ Ok acts → TakesSound t → AllByRecursion IsSoundAct acts.1
taken_sound t acts is sound = (subst TakesSound is sound).acts

pub master_fits : (c : Choices) (m : MasterNode) (i : Input) (done : MasterNode × Effects) → AddsIn i → IsSound m.proc → Ascends m.anchors → MasterStepped c m i done → Fits done
master_fits c m i done adds sound up (master_by_traffic (master_keeps proc views sends ascends)) = as_sent (records_sent done.1.sends) [] (no_records done.1.sends sends) tt
master_fits c m i done adds sound up (master_by_traffic (master_adopts id v at had next before proc views sends ascends is)) =
    by_adoption c next before id done (subst IsSound (sym proc) sound) (no_records before.sends sends) (ascends up) is
master_fits c m i done adds sound up (master_by_record r came_in (master_heard acts taken plain is)) =
    as_sent (records_sent done.1.sends) (own_acts_sends acts.1 (master_view m)) is.told
    (by_acts acts.1 (master_view m) (taken_fits (master_take (sender_of i) m.proc r) acts taken (take_fits (sender_of i) m.proc r sound))
    (taken_sound (master_take (sender_of i) m.proc r) acts taken (take_sound (sender_of i) m.proc r sound)))
master_fits c m i done adds sound up (master_by_record r came_in (master_passed status taken (waits_on did))) = as_sent (records_sent done.1.sends) [] did.told tt
master_fits c m i done adds sound up (master_by_record r came_in (master_passed status taken (adopts_by_it v at awaited next before did is))) =
    by_adoption c next before status.id done (subst IsSound (sym did.proc) sound) did.told did.ascends is
master_fits c m i done adds sound up (master_by_record r came_in (master_no_row why taken is)) = by_nothing m done is
master_fits c m i done adds sound up (master_by_command e came_in (master_ordered acts taken is)) =
    let good : AddsSecond e = subst AddsIn came_in adds in
    as_sent (records_sent done.1.sends) (own_acts_sends acts.1 (master_view m)) is.told
    (by_acts acts.1 (master_view m)
    (taken_fits (master_command (length c.policies) m.proc e) acts taken (commands_fits m.proc e (first_refusal (command_refusals (length c.policies) m.proc e)) good sound))
    (taken_sound (master_command (length c.policies) m.proc e) acts taken (command_sound (length c.policies) m.proc e good sound)))
master_fits c m i done adds sound up (master_by_command e came_in (master_refused why refused is)) = by_nothing m done is
master_fits c m i done adds sound up (master_by_nothing is) = by_nothing m done is

-- ---- answers that nothing has to be released

secondary_linked : (l : LinkId) → l.from ≡ M → l.class ≡ Ctl → is_secondary l.to ≡ true → is_link l ≡ true
secondary_linked l from class second =
    subst (λ k. joins k l.from l.to ≡ true) (sym class) (subst (λ x. joins Ctl x l.to ≡ true) (sym from) (by l.to second))
  where
    by : (to : Node) → is_secondary to ≡ true → joins Ctl M to ≡ true
    by T second = absurd cc
    by M second = absurd cc
    by A second = refl
    by B second = refl

idle_by_fit : (l : LinkId) (f : Flight) → IsBy M (l, f) → FitsOn l f → IsIdleLinked (l, f)
idle_by_fit l (flight.Ctl r) by fits = by_kind r fits
  where
    by_kind : (r : Rec) → record_fits l r ≡ true → IsIdleLinked (l, flight.Ctl r)
    by_kind (rec.Reconf plan key) fits = λ idle. absurd cc
    by_kind (rec.Rcomp g) fits = λ idle. absurd cc
    by_kind (rec.Scgf failed) fits = λ idle. absurd cc
    by_kind (rec.Recov id) fits = λ idle. absurd cc
    by_kind (rec.Recovd id) fits = λ idle. absurd cc
    by_kind (rec.Addreq plan key) fits = λ idle. absurd cc
    by_kind (rec.Addack g) fits = λ idle. absurd cc
    by_kind (rec.Addrej g) fits = λ idle. absurd cc
    by_kind (rec.Modreq plan key) fits = λ idle. absurd cc
    by_kind (rec.Modack g) fits = λ idle. absurd cc
    by_kind (rec.Modrej g) fits = λ idle. absurd cc
    by_kind (rec.Recfg g) fits = λ idle. absurd cc
    by_kind (rec.Relreq plan) fits = λ idle. absurd cc
    by_kind (rec.Relack g) fits = λ idle. absurd cc
    by_kind (rec.Relrej g) fits = λ idle. absurd cc
    by_kind (rec.Uecr g) fits = λ idle. absurd cc
    by_kind (rec.Snst status) fits = λ idle. absurd cc
    by_kind (rec.Moved g id) fits = λ idle. absurd cc
    by_kind (rec.Scgn id g) fits = λ idle. absurd cc
    by_kind rec.Modrqd fits = λ idle. absurd cc
    by_kind (rec.Modcnf g) fits = λ idle. absurd cc
    by_kind (rec.Modref word) fits = λ idle. absurd cc
    by_kind rec.Chgrqd fits = λ idle. absurd cc
    by_kind (rec.Chgcnf plan) fits = λ idle. absurd cc
    by_kind (rec.Chgref word) fits = λ idle. absurd cc
    by_kind rec.Relrqd fits = λ idle. absurd cc
    by_kind (rec.Relcnf plan) fits = λ idle. secondary_linked l by.0 by.1 fits
idle_by_fit l (flight.Air id g num tag pdu) by fits = λ idle. absurd cc
idle_by_fit l (flight.Ack id g num) by fits = λ idle. absurd cc
idle_by_fit l (flight.Tun tag packet) by fits = λ idle. absurd cc
idle_by_fit l (flight.Sdu id g payload) by fits = λ idle. absurd cc
idle_by_fit l (flight.End id g) by fits = λ idle. absurd cc
idle_by_fit l (flight.Told id g count) by fits = λ idle. absurd cc

-- of what the master sends
pub idle_by_fits : (ss : List Send) → AllByRecursion (IsBy M) ss → AllByRecursion IsFitting ss → AllByRecursion IsIdleLinked ss
idle_by_fits [] by fits = tt
idle_by_fits (s ∷ ss) by fits = (idle_by_fit s.0 s.1 by.0 fits.0, idle_by_fits ss by.1 fits.1)
