-- What the terminal and the secondary nodes do says nothing of commands.
use Rattle.std.proofs.Common.{ℕ, ◌≡◌, ◌++◌, ◌&&◌, ◌==◌, Bool, true, false, List, [], ◌∷◌, Option, Some, None, refl, ap, ◌∙◌, inl, inr}
use Rattle.std.specs.Prelude.{Ok, Err, Result, filter, is_some, nat_le, nat_lt, not, ⊤}
use Rattle.std.specs.List.{AllByRecursion, list_any}
use Rattle.std.proofs.lemmas.Bool.{cases_Bool}
use Rattle.dc_base.specs.Records.{item_id}
use Rattle.dc_base.specs.declared.answers.Refusal.{Refusal}
use Rattle.dc_base.specs.declared.answers.Word.{Word}
use Rattle.dc_base.specs.declared.events.Event.{Event}
use Rattle.dc_base.specs.declared.events.Event.TheVariants as event
use Rattle.dc_base.specs.declared.flights.Flight.{Flight}
use Rattle.dc_base.specs.declared.flights.Flight.TheVariants as flight
use Rattle.dc_base.specs.declared.nodes.Cell.TheVariants as cell
use Rattle.dc_base.specs.declared.nodes.Class.{Class}
use Rattle.dc_base.specs.declared.nodes.Class.TheVariants.{Air, Ctl, Feed, Tun}
use Rattle.dc_base.specs.declared.nodes.Dir.TheVariants.{Dl, Ul}
use Rattle.dc_base.specs.declared.nodes.Node.{Node}
use Rattle.dc_base.specs.declared.nodes.Node.TheVariants.{M, T}
use Rattle.dc_base.specs.declared.nodes.Want.{Want}
use Rattle.dc_base.specs.declared.nodes.Want.TheVariants as want
use Rattle.dc_base.specs.declared.records.Item.{Item}
use Rattle.dc_base.specs.declared.records.Item.TheVariants as item
use Rattle.dc_base.specs.declared.records.Plan.{Plan}
use Rattle.dc_base.specs.declared.records.Rec.{Rec}
use Rattle.dc_base.specs.declared.records.Rec.TheVariants as rec
use Rattle.dc_base.specs.declared.records.RecKind.{RecKind}
use Rattle.dc_base.specs.declared.records.StatusTransfer.{StatusTransfer}
use Rattle.key_chain.specs.KeyNames.{octets_of_side}
use Rattle.pdcp_pdu.specs.Pdu.{Content, decoded}
use Rattle.pdcp_pdu.specs.declared.pdu.PduErr.{PduErr}
use Rattle.pdcp_tx.specs.Sender.{Sender}
use Rattle.pdcp_tx.specs.Sending.{take_sdu}
use Rattle.pdcp_tx.specs.declared.tx.TxErr.{TxErr}
use Rattle.pdcp_tx.specs.declared.tx.TxErr.TheVariants as unable
use Rattle.node_rules.specs.Acts.{ProcFault, first_refusal}
use Rattle.node_rules.specs.Adopting.{status_in}
use Rattle.node_rules.specs.Anchor.{Active, AnchorState}
use Rattle.node_rules.specs.AnchorReceiving.{air_in, tunnel_in}
use Rattle.node_rules.specs.AnchorSending.{fail_scg, recover, report, unlock}
use Rattle.node_rules.specs.Choices.{Choices, Send}
use Rattle.node_rules.specs.Effects.{both, in_turn, quiet}
use Rattle.node_rules.specs.Entity.{Entity, renewed}
use Rattle.node_rules.specs.Feed.{Fed, Frozen, has_ended, sdu_in}
use Rattle.node_rules.specs.Flights.{Named, flight_named}
use Rattle.node_rules.specs.Held.{held, holding, identities}
use Rattle.node_rules.specs.Host.{Host}
use Rattle.node_rules.specs.HostRules.{host_air_in, host_tunnel_in}
use Rattle.node_rules.specs.Master.{handed_up}
use Rattle.node_rules.specs.Parts.{host_at, part_at}
use Rattle.node_rules.specs.SecondPlan.{frozen_active, frozen_there, renewed_active, renewed_there, second_act, second_does, second_item, second_part}
use Rattle.node_rules.specs.SecondRecords.{added, addition_asked, failure_told, forgotten, is_wanted, key_confirmed, leave_confirmed, let_off, modification_asked, modified, reconfigured, recovery_asked, refused_there, release_asked, release_confirmed, release_needless, second_take, status_passed}
use Rattle.node_rules.specs.SecondState.{SecondActs, SecondProc, request, second_commands, second_commands_unless, second_refusals}
use Rattle.node_rules.specs.SecondStep.{fed_ended, fed_took, frozen_ended, frozen_took, is_before_change, is_fit, key_in, on_second_host, second_commanded, second_control, second_data, second_event, second_line, second_record, second_record_taken, second_report, second_step, second_takes}
use Rattle.node_rules.specs.Secondary.{SecondNode, active_at, active_in, adopted_there, anchored, fed_did, is_fed_of, low_told, name_of, on_fed, on_fed_of, second_effects, within}
use Rattle.node_rules.specs.Sending.{send_counts, send_kept, send_report}
use Rattle.node_rules.specs.Setup.{Setup, node_of, setup_of}
use Rattle.node_rules.specs.Terminal.{TerminalNode, air_taken, air_taken_by, half_set, half_set_if, is_takable, item_taken, plan_taken, recovered_half, reported_there, scg_fails, submitted_there, terminal_control, terminal_event, terminal_record, terminal_step, terminal_takes, uplink_freed}
use Rattle.node_rules.specs.TerminalHalf.{TerminalHalf, is_taken, leg_send, pdu_came, submit_as, terminal_air_in, with_sends}
use Rattle.node_rules.specs.declared.acts.Act.{Act}
use Rattle.node_rules.specs.declared.acts.Act.TheVariants.{FailOne as fail_one, Go as go, Pass as pass, Prepare as prepare, RecoverOne as recover_one, Say as say, Send as send, UnlockAll as unlock_all}
use Rattle.node_rules.specs.declared.bearers.AnchorOut.{AnchorOut}
use Rattle.node_rules.specs.declared.bearers.OnLeg.{OnLeg}
use Rattle.node_rules.specs.declared.commands.Membership.{Membership}
use Rattle.node_rules.specs.declared.commands.Membership.TheVariants.{Joined as joined, Left as left, Outside as outside}
use Rattle.node_rules.specs.declared.inputs.Effects.{Effects}
use Rattle.node_rules.specs.declared.inputs.Input.{Input}
use Rattle.node_rules.specs.declared.inputs.Input.TheVariants.{Cmd, Come}
use Rattle.node_rules.specs.declared.parts.Part.{Part}
use Rattle.node_rules.specs.declared.parts.Part.TheVariants.{Awaits as awaits, Drops as drops, Establishes as establishes, HandsOver as hands_over, HasNoAnchor as has_no_anchor, Renews as renews}
use Rattle.run_table.specs.Quiet.{AreQuiet, HaveNoPlan, IsQuiet, IsQuietAct, effects_of}
use Rattle.run_table.specs.Words.{is_word}
use Rattle.run_table.proofs.LineWords.{filter_append}
use Rattle.run_table.proofs.Quiet.{no_plan_append, no_plan_flat, of_air, of_failure, of_freeze, of_host_air, of_host_tunnel, of_recover, of_report, of_status, of_submit, of_tunnelled, of_unlock, up_quiet}

-- ---- effects

pub nothing_said : IsQuiet quiet
nothing_said = record { notes = refl; sends = refl }

pub quiet_both : (x y : Effects) → IsQuiet x → IsQuiet y → IsQuiet (both x y)
quiet_both x y qx qy = record {
  notes = filter_append is_word x.notes y.notes ∙ ap (λ ns. ns ++ filter is_word y.notes) qx.notes ∙ qy.notes;
  sends = no_plan_append x.sends y.sends qx.sends qy.sends;
}

pub quiet_turn : {S X : Type 0} (P : X → Type 0) (f : S → X → S × Effects) → ((s : S) (x : X) → P x → IsQuiet (f s x).1) → (s : S) (xs : List X) → AllByRecursion P xs → IsQuiet (in_turn f s xs).1
quiet_turn P f each s [] all = nothing_said
quiet_turn P f each s (x ∷ xs) all = quiet_both (f s x).1 (in_turn f (f s x).0 xs).1 (each s x all.0) (quiet_turn P f each (f s x).0 xs all.1)

-- of each whatever it is
pub any_of : {X : Type 0} (xs : List X) → AllByRecursion (λ x. ⊤) xs
any_of [] = tt
any_of (x ∷ xs) = (tt, any_of xs)

pub only_sends : (ss : List Send) → HaveNoPlan ss → IsQuiet (record { notes = []; sends = ss })
only_sends ss none = record { notes = refl; sends = none }

-- ---- the terminal

of_terminal_leg : (s : Setup) (p : OnLeg) (o : Option Node) → HaveNoPlan (leg_send s p o)
of_terminal_leg s p None = refl
of_terminal_leg s p (Some node) = refl

of_terminal : (done : Entity × List OnLeg) → HaveNoPlan (with_sends done).1
of_terminal done = no_plan_flat (λ p. leg_send done.0.setup p (node_of done.0.setup.sec p.cell)) done.1 (λ p. of_terminal_leg done.0.setup p (node_of done.0.setup.sec p.cell))

of_submitting : (c : Choices) (h : TerminalHalf) (r : Result (Sender × ℕ) TxErr) → HaveNoPlan (submit_as c h r).2
of_submitting c h (Ok x) = of_terminal (send_counts c (record h { tx = x.0 }) (x.1 ∷ []))
of_submitting c h (Err (unable.Full lowest next)) = refl
of_submitting c h (Err unable.Exhausted) = refl
of_submitting c h (Err unable.Memory) = refl

terminal_submits : (c : Choices) (t : TerminalNode) (id : ℕ) (payload : List ℕ) (o : Option TerminalHalf) → IsQuiet (effects_of (submitted_there c t id payload o).1)
terminal_submits c t id payload None = nothing_said
terminal_submits c t id payload (Some h) = only_sends _ (of_submitting c h (take_sdu h.tx payload))

terminal_reports : (c : Choices) (t : TerminalNode) (id : ℕ) (o : Option TerminalHalf) → IsQuiet (effects_of (reported_there c t id o).1)
terminal_reports c t id None = nothing_said
terminal_reports c t id (Some h) = only_sends _ (of_terminal (send_report c h))

terminal_fails : (t : TerminalNode) (o : Option Node) → IsQuiet (effects_of (scg_fails t o).1)
terminal_fails t None = nothing_said
terminal_fails t (Some sec) = record { notes = refl; sends = refl }

terminal_acts : (c : Choices) (t : TerminalNode) (e : Event) → IsQuiet (effects_of (terminal_event c t e).1)
terminal_acts c t (event.Bearer id n first shape threshold policy) = nothing_said
terminal_acts c t (event.Reshape id shape) = nothing_said
terminal_acts c t (event.Remove id) = nothing_said
terminal_acts c t (event.Add node) = nothing_said
terminal_acts c t event.Change = nothing_said
terminal_acts c t event.Release = nothing_said
terminal_acts c t event.RekeySecond = nothing_said
terminal_acts c t (event.RekeyMaster root) = nothing_said
terminal_acts c t (event.Recover id) = nothing_said
terminal_acts c t (event.Report node id) = terminal_reports c t id (held id t.halves)
terminal_acts c t (event.Deny node on) = nothing_said
terminal_acts c t (event.Ask node what) = nothing_said
terminal_acts c t event.ScgFail = terminal_fails t t.sec
terminal_acts c t (event.Submit id d payload) = terminal_submits c t id payload (held id t.halves)
terminal_acts c t (event.Step l i) = nothing_said
terminal_acts c t (event.Lose l i) = nothing_said
terminal_acts c t (event.Again l i) = nothing_said

sets_half : (c : Choices) (t : TerminalNode) (id : ℕ) (s : Setup) (o : Option TerminalHalf) → IsQuiet (half_set c t id s o).1
sets_half c t id s None = nothing_said
sets_half c t id s (Some h) = only_sends _ (of_terminal (send_kept c (renewed h s)))

sets_half_if : (c : Choices) (t : TerminalNode) (id : ℕ) (o : Option Setup) → IsQuiet (half_set_if c t id o).1
sets_half_if c t id None = nothing_said
sets_half_if c t id (Some s) = sets_half c t id s (held id t.halves)

takes_item : (c : Choices) (root : List ℕ) (p : Plan) (t : TerminalNode) (i : Item) → IsQuiet (item_taken c root p t i).1
takes_item c root p t (item.Set id n first shape threshold policy key old) =
    let s = setup_of T p t.alg (octets_of_side root key.side) (item.Set id n first shape threshold policy key old) in
    let done = sets_half_if c t id s in record { notes = done.notes; sends = done.sends }
takes_item c root p t (item.Unset id) = record { notes = refl; sends = refl }

takes_plan : (c : Choices) (root : List ℕ) (p : Plan) (t : TerminalNode) (takes : Bool) → IsQuiet (plan_taken c root p t takes).1
takes_plan c root p t true =
    let done = quiet_turn (λ i. ⊤) (item_taken c root p) (λ s i all. takes_item c root p s i) (record t { sec = p.sec }) p.items (any_of p.items) in
    record { notes = done.notes; sends = done.sends }
takes_plan c root p t false = nothing_said

recovers_half : (c : Choices) (t : TerminalNode) (id : ℕ) (o : Option TerminalHalf) → IsQuiet (recovered_half c t id o).1
recovers_half c t id None = nothing_said
recovers_half c t id (Some h) = record { notes = refl; sends = of_terminal (send_kept c h) }

terminal_takes_record : (c : Choices) (t : TerminalNode) (r : Rec) → IsQuiet (terminal_record c t r).1
terminal_takes_record c t (rec.Reconf plan key) = takes_plan c key plan t (not (list_any (λ i. not (is_takable t i)) plan.items))
terminal_takes_record c t (rec.Recov id) = recovers_half c t id (held id t.halves)
terminal_takes_record c t (rec.Rcomp g) = nothing_said
terminal_takes_record c t (rec.Scgf failed) = nothing_said
terminal_takes_record c t (rec.Recovd id) = nothing_said
terminal_takes_record c t (rec.Addreq plan key) = nothing_said
terminal_takes_record c t (rec.Addack g) = nothing_said
terminal_takes_record c t (rec.Addrej g) = nothing_said
terminal_takes_record c t (rec.Modreq plan key) = nothing_said
terminal_takes_record c t (rec.Modack g) = nothing_said
terminal_takes_record c t (rec.Modrej g) = nothing_said
terminal_takes_record c t (rec.Recfg g) = nothing_said
terminal_takes_record c t (rec.Relreq plan) = nothing_said
terminal_takes_record c t (rec.Relack g) = nothing_said
terminal_takes_record c t (rec.Relrej g) = nothing_said
terminal_takes_record c t (rec.Uecr g) = nothing_said
terminal_takes_record c t (rec.Snst status) = nothing_said
terminal_takes_record c t (rec.Moved g id) = nothing_said
terminal_takes_record c t (rec.Scgn id g) = nothing_said
terminal_takes_record c t rec.Modrqd = nothing_said
terminal_takes_record c t (rec.Modcnf g) = nothing_said
terminal_takes_record c t (rec.Modref word) = nothing_said
terminal_takes_record c t rec.Chgrqd = nothing_said
terminal_takes_record c t (rec.Chgcnf plan) = nothing_said
terminal_takes_record c t (rec.Chgref word) = nothing_said
terminal_takes_record c t rec.Relrqd = nothing_said
terminal_takes_record c t (rec.Relcnf plan) = nothing_said

freed_quiet : (id : ℕ) (o : Option ℕ) → filter is_word (uplink_freed id o) ≡ []
freed_quiet id None = refl
freed_quiet id (Some count) = refl

terminal_pdu : (h : TerminalHalf) (from : Node) (num : ℕ) (r : Result Content PduErr) → HaveNoPlan (pdu_came h from num r).1.sends
terminal_pdu h from num (Err e) = refl
terminal_pdu h from num (Ok x) = refl

terminal_air : (h : TerminalHalf) (from : Node) (f : Flight) → HaveNoPlan (terminal_air_in h from f).1.sends
terminal_air h from (flight.Air id g num tag pdu) =
    elim (cases_Bool (is_taken h.setup from id g)) [ inl yes' ↦ rw yes' (terminal_pdu h from num (decoded h.setup.n pdu)) | inr no' ↦ rw no' refl ]
terminal_air h from (flight.Ack id g num) = elim (cases_Bool (is_taken h.setup from id g)) [ inl yes' ↦ rw yes' refl | inr no' ↦ rw no' refl ]
terminal_air h from (flight.Tun tag packet) = refl
terminal_air h from (flight.Sdu id g sdu) = refl
terminal_air h from (flight.End id g) = refl
terminal_air h from (flight.Told id g count) = refl
terminal_air h from (flight.Ctl r) = refl

takes_air_by : (t : TerminalNode) (from : Node) (f : Flight) (id : ℕ) (o : Option TerminalHalf) → IsQuiet (air_taken_by t from f id o).1
takes_air_by t from f id None = nothing_said
takes_air_by t from f id (Some h) =
    let done = terminal_air_in h from f in record {
      notes = filter_append is_word (handed_up T id Dl done.1.ups) (uplink_freed id done.1.low)
          ∙ ap (λ ns. ns ++ filter is_word (uplink_freed id done.1.low)) (up_quiet T id Dl done.1.ups) ∙ freed_quiet id done.1.low;
      sends = terminal_air h from f;
    }

takes_air : (t : TerminalNode) (from : Node) (f : Flight) (o : Option Named) → IsQuiet (air_taken t from f o).1
takes_air t from f None = nothing_said
takes_air t from f (Some x) = takes_air_by t from f x.0 (held x.0 t.halves)

takes_control : (c : Choices) (t : TerminalNode) (f : Flight) → IsQuiet (terminal_control c t f).1
takes_control c t (flight.Ctl r) = terminal_takes_record c t r
takes_control c t (flight.Air id g num tag pdu) = nothing_said
takes_control c t (flight.Ack id g num) = nothing_said
takes_control c t (flight.Tun tag packet) = nothing_said
takes_control c t (flight.Sdu id g payload) = nothing_said
takes_control c t (flight.End id g) = nothing_said
takes_control c t (flight.Told id g count) = nothing_said

terminal_takes_flight : (c : Choices) (t : TerminalNode) (from : Node) (f : Flight) (k : Class) → IsQuiet (terminal_takes c t from f k).1
terminal_takes_flight c t from f Ctl = takes_control c t f
terminal_takes_flight c t from f Feed = nothing_said
terminal_takes_flight c t from f Air = takes_air t from f (flight_named f)
terminal_takes_flight c t from f Tun = nothing_said

-- whatever the terminal takes
pub terminal_quiet : (c : Choices) (t : TerminalNode) (i : Input) → IsQuiet (effects_of (terminal_step c t i).1)
terminal_quiet c t (Cmd e) = terminal_acts c t e
terminal_quiet c t (Come l f) = terminal_takes_flight c t l.from f l.class

-- ---- the anchors of a secondary node

adopted_quiet : (me : Node) (id g : ℕ) (adopted : Bool) → IsQuiet (adopted_there me id g adopted)
adopted_quiet me id g false = nothing_said
adopted_quiet me id g true = record { notes = refl; sends = refl }

low_quiet : (me : Node) (id g : ℕ) (o : Option ℕ) → IsQuiet (low_told me id g o)
low_quiet me id g None = nothing_said
low_quiet me id g (Some count) = record { notes = refl; sends = refl }

second_out : (me : Node) (id g : ℕ) (out : AnchorOut) → HaveNoPlan out.sends → IsQuiet (second_effects me id g out)
second_out me id g out none =
    let ups : Effects = record { notes = handed_up me id Ul out.ups; sends = out.sends } in
    quiet_both (both (adopted_there me id g out.adopted) ups) (low_told me id g out.low)
    (quiet_both (adopted_there me id g out.adopted) ups (adopted_quiet me id g out.adopted) (record { notes = up_quiet me id Ul out.ups; sends = none })) (low_quiet me id g out.low)

did_fed : (s : SecondNode) (id : ℕ) (done : Fed × AnchorOut) → HaveNoPlan done.1.sends → IsQuiet (fed_did s id done).1
did_fed s id done none = second_out (name_of s) id _ done.1 none

fed_on : (s : SecondNode) (id : ℕ) (f : AnchorState → AnchorState × AnchorOut) → ((a : AnchorState) → HaveNoPlan (f a).1.sends) → (o : Option Fed) → IsQuiet (on_fed s id f o).1
fed_on s id f none None = nothing_said
fed_on s id f none (Some x) = did_fed s id (anchored x (f x.anchor)) (none x.anchor)

fed_of : (s : SecondNode) (g : ℕ) (f : AnchorState → AnchorState × AnchorOut) → ((a : AnchorState) → HaveNoPlan (f a).1.sends) → (id : ℕ) (o : Option Fed) → IsQuiet (on_fed_of s g f id o).1
fed_of s g f none id o = elim (cases_Bool (is_fed_of g o)) [ inl yes' ↦ rw yes' (fed_on s id f none o) | inr no' ↦ rw no' nothing_said ]

-- ---- how it carries a plan out

renews_active : (s : SecondNode) (id g : ℕ) (setup : Setup) (x : Fed) (o : Option Active) → IsQuiet (renewed_active s id g setup x o).1
renews_active s id g setup x None = nothing_said
renews_active s id g setup x (Some a) = record { notes = refl; sends = refl }

renews_there : (s : SecondNode) (id g : ℕ) (o : Option Setup) (x : Option Fed) → IsQuiet (renewed_there s id g o x).1
renews_there s id g None x = nothing_said
renews_there s id g (Some setup) None = nothing_said
renews_there s id g (Some setup) (Some x) = renews_active s id g setup x (active_in x.anchor)

freezes_active : (s : SecondNode) (id g : ℕ) (to : Node) (x : Fed) (o : Option Active) → IsQuiet (frozen_active s id g to x o).1
freezes_active s id g to x None = nothing_said
freezes_active s id g to x (Some a) = record { notes = refl; sends = of_freeze a to g (has_ended x.ended g) }

freezes_there : (s : SecondNode) (id g : ℕ) (to : Node) (o : Option Fed) → IsQuiet (frozen_there s id g to o).1
freezes_there s id g to None = nothing_said
freezes_there s id g to (Some x) = freezes_active s id g to x (active_in x.anchor)

takes_part : (s : SecondNode) (p : Plan) (setup : Option Setup) (id : ℕ) (k : Part) → IsQuiet (second_part s p setup id k).1
takes_part s p setup id establishes = record { notes = refl; sends = refl }
takes_part s p setup id renews = renews_there s id p.g setup (held id s.anchors)
takes_part s p setup id awaits = nothing_said
takes_part s p setup id (hands_over to) = freezes_there s id p.g to (held id s.anchors)
takes_part s p setup id drops = nothing_said
takes_part s p setup id has_no_anchor = nothing_said

does_item : (key : List ℕ) (p : Plan) (s : SecondNode) (i : Item) → IsQuiet (second_item key p s i).1
does_item key p s i =
    takes_part (record s { hosts = holding (item_id i) (host_at (name_of s) p i) s.hosts }) p (setup_of (name_of s) p s.alg key i) (item_id i) (part_at (name_of s) p.sec i)

does_act : (c : Choices) (key : List ℕ) (s : SecondNode) (a : Act) → IsQuietAct a → IsQuiet (second_act c key s a).1
does_act c key s (send to r) q = record { notes = refl; sends = rw q refl }
does_act c key s (prepare p) q = nothing_said
does_act c key s (go p) q = quiet_turn (λ i. ⊤) (second_item key p) (λ n i all. does_item key p n i) s p.items (any_of p.items)
does_act c key s (unlock_all g) q =
    quiet_turn (λ id. ⊤) (λ (n : SecondNode) id. on_fed_of n g (unlock c) id (held id n.anchors)) (λ n id all. fed_of n g (unlock c) (of_unlock c) id (held id n.anchors)) s (identities s.anchors) (any_of (identities s.anchors))
does_act c key s (say n) q = record { notes = rw q refl; sends = refl }
does_act c key s (recover_one id) q = fed_on s id (recover c) (of_recover c) (held id s.anchors)
does_act c key s (fail_one id g) q = fed_of s g (fail_scg c) (of_failure c) id (held id s.anchors)
does_act c key s (pass st) q = fed_on s st.id (λ a. status_in c a st) (λ a. of_status c a st) (held st.id s.anchors)

does_acts : (c : Choices) (key : List ℕ) (s : SecondNode) (r : SecondActs) → AreQuiet r.1 → IsQuiet (second_does c key s r).1
does_acts c key s r all = quiet_turn IsQuietAct (second_act c key) (does_act c key) (within r.0.membership (record s { proc = r.0 })) r.1 all

-- ---- its procedures

-- none of what they have it do says anything
abbrev GivesQuiet : Result SecondActs ProcFault → Type 0
GivesQuiet (Ok r) = AreQuiet r.1
GivesQuiet (Err e) = ⊤

asked_addition : (s : SecondProc) (p : Plan) (denies : Bool) → AreQuiet (added s p denies).1
asked_addition s p true = (refl, tt)
asked_addition s p false = (refl, (refl, (tt, tt)))

gives_addition : (s : SecondProc) (p : Plan) (m : Membership) → GivesQuiet (addition_asked s p m)
gives_addition s p outside = asked_addition s p s.denies
gives_addition s p joined = tt
gives_addition s p left = tt

asked_change : (s : SecondProc) (p : Plan) (denies : Bool) → AreQuiet (modified s p denies).1
asked_change s p true = (refl, tt)
asked_change s p false = (refl, (tt, tt))

gives_change : (s : SecondProc) (p : Plan) (m : Membership) → GivesQuiet (modification_asked s p m)
gives_change s p outside = tt
gives_change s p joined = asked_change s p _
gives_change s p left = tt

asked_release : (s : SecondProc) (p : Plan) (denies : Bool) → AreQuiet (let_off s p denies).1
asked_release s p true = (refl, tt)
asked_release s p false = (refl, (refl, (tt, tt)))

gives_release : (s : SecondProc) (p : Plan) (m : Membership) → GivesQuiet (release_asked s p m)
gives_release s p outside = tt
gives_release s p joined = asked_release s p _
gives_release s p left = tt

gives_end : (s : SecondProc) (m : Membership) → GivesQuiet (forgotten s m)
gives_end s outside = tt
gives_end s joined = tt
gives_end s left = tt

gives_refusal : (k : RecKind) (s : SecondProc) (w : Word) (is : Bool) → GivesQuiet (refused_there k s w is)
gives_refusal k s w true = (refl, tt)
gives_refusal k s w false = tt

gives_key : (s : SecondProc) (g : ℕ) (is : Bool) (m : Membership) → GivesQuiet (key_confirmed s g is m)
gives_key s g true outside = tt
gives_key s g true joined = (tt, (refl, tt))
gives_key s g true left = tt
gives_key s g false m = tt

gives_leave : (k : RecKind) (s : SecondProc) (p : Plan) (is : Bool) (m : Membership) → GivesQuiet (leave_confirmed k s p is m)
gives_leave k s p true outside = tt
gives_leave k s p true joined = (refl, (refl, (tt, tt)))
gives_leave k s p true left = tt
gives_leave k s p false m = tt

gives_needless : (s : SecondProc) (is : Bool) → GivesQuiet (release_needless s is)
gives_needless s true = (refl, tt)
gives_needless s false = tt

gives_confirm : (s : SecondProc) (p : Plan) → GivesQuiet (release_confirmed s p)
gives_confirm s p =
    elim (cases_Bool (p.g == 0)) [
      | inl none ↦ rw none (gives_needless s (is_wanted want.Release s.want))
      | inr some' ↦ rw some' (gives_leave _ s p (is_wanted want.Release s.want) s.membership)
    ]

gives_completion : (s : SecondProc) (g : ℕ) (m : Membership) → GivesQuiet (reconfigured s g m)
gives_completion s g outside = tt
gives_completion s g joined = (tt, tt)
gives_completion s g left = tt

gives_status : (s : SecondProc) (st : StatusTransfer) (m : Membership) → GivesQuiet (status_passed s st m)
gives_status s st outside = tt
gives_status s st joined = (tt, tt)
gives_status s st left = tt

gives_recovery : (s : SecondProc) (id : ℕ) (m : Membership) → GivesQuiet (recovery_asked s id m)
gives_recovery s id outside = tt
gives_recovery s id joined = (refl, (tt, tt))
gives_recovery s id left = tt

gives_failure : (s : SecondProc) (id g : ℕ) (m : Membership) → GivesQuiet (failure_told s id g m)
gives_failure s id g outside = tt
gives_failure s id g joined = (tt, tt)
gives_failure s id g left = (tt, tt)

gives_acts : (s : SecondProc) (r : Rec) → GivesQuiet (second_take s r)
gives_acts s (rec.Reconf plan key) = tt
gives_acts s (rec.Rcomp g) = tt
gives_acts s (rec.Scgf failed) = tt
gives_acts s (rec.Recov id) = gives_recovery s id s.membership
gives_acts s (rec.Recovd id) = tt
gives_acts s (rec.Addreq plan key) = gives_addition s plan s.membership
gives_acts s (rec.Addack g) = tt
gives_acts s (rec.Addrej g) = tt
gives_acts s (rec.Modreq plan key) = gives_change s plan s.membership
gives_acts s (rec.Modack g) = tt
gives_acts s (rec.Modrej g) = tt
gives_acts s (rec.Recfg g) = gives_completion s g s.membership
gives_acts s (rec.Relreq plan) = gives_release s plan s.membership
gives_acts s (rec.Relack g) = tt
gives_acts s (rec.Relrej g) = tt
gives_acts s (rec.Uecr g) = gives_end s s.membership
gives_acts s (rec.Snst status) = gives_status s status s.membership
gives_acts s (rec.Moved g id) = tt
gives_acts s (rec.Scgn id g) = gives_failure s id g s.membership
gives_acts s rec.Modrqd = tt
gives_acts s (rec.Modcnf g) = gives_key s g (is_wanted want.Rekey s.want) s.membership
gives_acts s (rec.Modref word) = gives_refusal _ s word (is_wanted want.Rekey s.want)
gives_acts s rec.Chgrqd = tt
gives_acts s (rec.Chgcnf plan) = gives_leave _ s plan (is_wanted want.Change s.want) s.membership
gives_acts s (rec.Chgref word) = gives_refusal _ s word (is_wanted want.Change s.want)
gives_acts s rec.Relrqd = tt
gives_acts s (rec.Relcnf plan) = gives_confirm s plan

-- ---- whatever it takes

second_takes_record : (c : Choices) (key : List ℕ) (s : SecondNode) (r : Result SecondActs ProcFault) → GivesQuiet r → IsQuiet (second_record_taken c key s r).1
second_takes_record c key s (Ok r) q = does_acts c key s r q
second_takes_record c key s (Err e) q = nothing_said

second_record_if : (c : Choices) (s : SecondNode) (r : Rec) (fits : Bool) → IsQuiet (second_record c s r fits).1
second_record_if c s r true = second_takes_record c (key_in r) s (second_take s.proc r) (gives_acts s.proc r)
second_record_if c s r false = nothing_said

takes_frozen : (s : SecondNode) (id g : ℕ) (payload : List ℕ) (o : Option Frozen) → IsQuiet (frozen_took s id g payload o).1
takes_frozen s id g payload None = nothing_said
takes_frozen s id g payload (Some f) =
    elim (cases_Bool (nat_le f.since g && nat_lt g f.tunnel.g)) [ inl yes' ↦ rw yes' (record { notes = refl; sends = refl }) | inr no' ↦ rw no' nothing_said ]

takes_sdu : (c : Choices) (x : Fed) (g : ℕ) (sdu : List ℕ) → HaveNoPlan (sdu_in c x g sdu).1.sends
takes_sdu c x g sdu = elim (cases_Bool (nat_lt g x.since)) [ inl yes' ↦ rw yes' refl | inr no' ↦ rw no' (of_submit c x.anchor sdu) ]

takes_fed : (c : Choices) (s : SecondNode) (id g : ℕ) (payload : List ℕ) (o : Option Fed) → IsQuiet (fed_took c s id g payload o).1
takes_fed c s id g payload None = nothing_said
takes_fed c s id g payload (Some x) = did_fed s id (sdu_in c x g payload) (takes_sdu c x g payload)

ends_frozen : (s : SecondNode) (id g : ℕ) (o : Option Frozen) → IsQuiet (frozen_ended s id g o).1
ends_frozen s id g None = nothing_said
ends_frozen s id g (Some f) = elim (cases_Bool (f.tunnel.g == g)) [ inl yes' ↦ rw yes' (record { notes = refl; sends = refl }) | inr no' ↦ rw no' nothing_said ]

ends_fed : (s : SecondNode) (id g : ℕ) (o : Option Fed) → IsQuiet (fed_ended s id g o).1
ends_fed s id g None = nothing_said
ends_fed s id g (Some x) = nothing_said

takes_line : (c : Choices) (s : SecondNode) (f : Flight) → IsQuiet (second_line c s f).1
takes_line c s (flight.Sdu id g payload) =
    elim (cases_Bool (is_before_change g (held id s.frozen))) [
      | inl yes' ↦ rw yes' (takes_frozen s id g payload (held id s.frozen))
      | inr no' ↦ rw no' (takes_fed c s id g payload (held id s.anchors))
    ]
takes_line c s (flight.End id g) =
    elim (cases_Bool (is_some (held id s.frozen))) [
      | inl yes' ↦ rw yes' (ends_frozen s id g (held id s.frozen))
      | inr no' ↦ rw no' (ends_fed s id g (held id s.anchors))
    ]
takes_line c s (flight.Told id g count) = nothing_said
takes_line c s (flight.Air id g num tag pdu) = nothing_said
takes_line c s (flight.Ack id g num) = nothing_said
takes_line c s (flight.Tun tag packet) = nothing_said
takes_line c s (flight.Ctl r) = nothing_said

host_on : (s : SecondNode) (id : ℕ) (f : Host → Host × List Send) → ((h : Host) → HaveNoPlan (f h).1) → (o : Option Host) → IsQuiet (on_second_host s id f o).1
host_on s id f none None = nothing_said
host_on s id f none (Some h) = only_sends _ (none h)

takes_data : (s : SecondNode) (f : AnchorState → AnchorState × AnchorOut) (h : Host → Host × List Send) → ((a : AnchorState) → HaveNoPlan (f a).1.sends)
    → ((x : Host) → HaveNoPlan (h x).1) → (o : Option Named) → IsQuiet (second_data s f h o).1
takes_data s f h of_f of_h None = nothing_said
takes_data s f h of_f of_h (Some (id, g)) =
    elim (cases_Bool (is_fed_of g (held id s.anchors))) [
      | inl yes' ↦ rw yes' (fed_on s id f of_f (held id s.anchors))
      | inr no' ↦ rw no' (host_on s id h of_h (held id s.hosts))
    ]

second_takes_control : (c : Choices) (s : SecondNode) (f : Flight) → IsQuiet (second_control c s f).1
second_takes_control c s (flight.Ctl r) = second_record_if c s r (is_fit s r)
second_takes_control c s (flight.Air id g num tag pdu) = nothing_said
second_takes_control c s (flight.Ack id g num) = nothing_said
second_takes_control c s (flight.Tun tag packet) = nothing_said
second_takes_control c s (flight.Sdu id g payload) = nothing_said
second_takes_control c s (flight.End id g) = nothing_said
second_takes_control c s (flight.Told id g count) = nothing_said

second_takes_flight : (c : Choices) (s : SecondNode) (f : Flight) (k : Class) → IsQuiet (second_takes c s f k).1
second_takes_flight c s f Ctl = second_takes_control c s f
second_takes_flight c s f Feed = takes_line c s f
second_takes_flight c s f Air = takes_data s (λ a. air_in a cell.Scg f) (λ h. host_air_in h f) (λ a. of_air a cell.Scg f) (λ h. of_host_air h f) (flight_named f)
second_takes_flight c s f Tun = takes_data s (λ a. tunnel_in c a f) (λ h. host_tunnel_in h f) (λ a. of_tunnelled c a f) (λ h. of_host_tunnel h f) (flight_named f)

second_reports : (c : Choices) (s : SecondNode) (id : ℕ) (o : Option Active) → IsQuiet (effects_of (second_report c s id o).1)
second_reports c s id None = nothing_said
second_reports c s id (Some a) = let done = fed_on s id (report c) (of_report c) (held id s.anchors) in record { notes = done.notes; sends = done.sends }

of_request : (w : Want) → IsQuietAct (send M (request w))
of_request want.Rekey = refl
of_request want.Change = refl
of_request want.Release = refl

commands_quiet : (s : SecondProc) (e : Event) → AreQuiet (second_commands s e).1
commands_quiet s (event.Bearer id n first shape threshold policy) = tt
commands_quiet s (event.Reshape id shape) = tt
commands_quiet s (event.Remove id) = tt
commands_quiet s (event.Add node) = tt
commands_quiet s event.Change = tt
commands_quiet s event.Release = tt
commands_quiet s event.RekeySecond = tt
commands_quiet s (event.RekeyMaster root) = tt
commands_quiet s (event.Recover id) = tt
commands_quiet s (event.Report node id) = tt
commands_quiet s (event.Deny node on) = tt
commands_quiet s (event.Ask node what) = (of_request what, tt)
commands_quiet s event.ScgFail = tt
commands_quiet s (event.Submit id d payload) = tt
commands_quiet s (event.Step l i) = tt
commands_quiet s (event.Lose l i) = tt
commands_quiet s (event.Again l i) = tt

commanded_quiet : (c : Choices) (n : SecondNode) (s : SecondProc) (e : Event) (o : Option Refusal) → IsQuiet (effects_of (second_commanded c n (second_commands_unless s e o)).1)
commanded_quiet c n s e None = let done = does_acts c [] n (second_commands s e) (commands_quiet s e) in record { notes = done.notes; sends = done.sends }
commanded_quiet c n s e (Some why) = nothing_said

second_acts : (c : Choices) (s : SecondNode) (e : Event) → IsQuiet (effects_of (second_event c s e).1)
second_acts c s (event.Bearer id n first shape threshold policy) = nothing_said
second_acts c s (event.Reshape id shape) = nothing_said
second_acts c s (event.Remove id) = nothing_said
second_acts c s (event.Add node) = nothing_said
second_acts c s event.Change = nothing_said
second_acts c s event.Release = nothing_said
second_acts c s event.RekeySecond = nothing_said
second_acts c s (event.RekeyMaster root) = nothing_said
second_acts c s (event.Recover id) = nothing_said
second_acts c s (event.Report node id) = second_reports c s id (active_at s id)
second_acts c s (event.Deny node on) = commanded_quiet c s s.proc (event.Deny node on) (first_refusal (second_refusals s.proc (event.Deny node on)))
second_acts c s (event.Ask node what) = commanded_quiet c s s.proc (event.Ask node what) (first_refusal (second_refusals s.proc (event.Ask node what)))
second_acts c s event.ScgFail = nothing_said
second_acts c s (event.Submit id d payload) = nothing_said
second_acts c s (event.Step l i) = nothing_said
second_acts c s (event.Lose l i) = nothing_said
second_acts c s (event.Again l i) = nothing_said

-- whatever a secondary node takes
pub second_quiet : (c : Choices) (s : SecondNode) (i : Input) → IsQuiet (effects_of (second_step c s i).1)
second_quiet c s (Cmd e) = second_acts c s e
second_quiet c s (Come l f) = second_takes_flight c s f l.class
