-- What the master does besides its procedures says nothing of commands, and leaves the procedures as they are.
use Rattle.std.proofs.Common.{ℕ, ◌≡◌, ◌++◌, ◌==◌, Bool, true, false, List, [], ◌∷◌, Option, Some, None, refl, sym, ap, subst, ◌∙◌, inl, inr, ◌⊎◌}
use Rattle.std.specs.Prelude.{filter, nat_lt}
use Rattle.std.proofs.lemmas.Bool.{cases_Bool}
use Rattle.dc_base.specs.Nodes.{is_same_node}
use Rattle.dc_base.specs.Records.{item_id}
use Rattle.dc_base.specs.declared.events.Note.{Note}
use Rattle.dc_base.specs.declared.events.Note.TheVariants as note
use Rattle.dc_base.specs.declared.flights.Flight.{Flight}
use Rattle.dc_base.specs.declared.flights.Flight.TheVariants as flight
use Rattle.dc_base.specs.declared.nodes.Cell.TheVariants as cell
use Rattle.dc_base.specs.declared.nodes.Dir.TheVariants.{Ul}
use Rattle.dc_base.specs.declared.nodes.Node.{Node}
use Rattle.dc_base.specs.declared.nodes.Node.TheVariants.{A, B, M, T}
use Rattle.dc_base.specs.declared.records.Item.{Item}
use Rattle.dc_base.specs.declared.records.Item.TheVariants as item
use Rattle.dc_base.specs.declared.records.Plan.{Plan}
use Rattle.node_rules.specs.Anchor.{AnchorState, active_anchor, renew, setup_at, waiting_anchor}
use Rattle.node_rules.specs.AnchorReceiving.{air_in, tunnel_in}
use Rattle.node_rules.specs.AnchorSending.{fail_scg, recover, submit, unlock}
use Rattle.node_rules.specs.Choices.{Choices, Send}
use Rattle.node_rules.specs.CommandTable.{row}
use Rattle.node_rules.specs.Effects.{after_effects, both, in_turn, noted, quiet}
use Rattle.node_rules.specs.Flights.{Named, flight_named}
use Rattle.node_rules.specs.Held.{held, holding, identities}
use Rattle.node_rules.specs.Host.{Host}
use Rattle.node_rules.specs.HostRules.{host_air_in, host_tunnel_in}
use Rattle.node_rules.specs.Master.{MasterNode, anchor_did, handed_up, low_rises, on_anchor, on_anchor_of, told_by, window_told}
use Rattle.node_rules.specs.MasterPlan.{adopts_if, carries_item, does, frozen_here, is_rejection, line_end, line_ends, master_act, master_part, master_setup, on_waiting, owned, prepares_item, prepares_part, renewed_here, says, with_host_and_window}
use Rattle.node_rules.specs.MasterState.{MasterActs}
use Rattle.node_rules.specs.MasterStep.{data_taken, is_anchor_of, line_taken, on_host, to_anchor_at}
use Rattle.node_rules.specs.MasterTaking.{master_adopted}
use Rattle.node_rules.specs.Parts.{part_at}
use Rattle.node_rules.specs.Places.{anchor_at}
use Rattle.node_rules.specs.Setup.{Setup}
use Rattle.node_rules.specs.declared.acts.Act.{Act}
use Rattle.node_rules.specs.declared.acts.Act.TheVariants.{FailOne as fail_one, Go as go, Pass as pass, Prepare as prepare, RecoverOne as recover_one, Say as say, Send as send, UnlockAll as unlock_all}
use Rattle.node_rules.specs.declared.bearers.AnchorOut.{AnchorOut}
use Rattle.node_rules.specs.declared.bearers.Window.{Window}
use Rattle.node_rules.specs.declared.commands.Row.{Row}
use Rattle.node_rules.specs.declared.inputs.Effects.{Effects}
use Rattle.node_rules.specs.declared.parts.Part.{Part}
use Rattle.node_rules.specs.declared.parts.Part.TheVariants.{Awaits as awaits, Drops as drops, Establishes as establishes, HandsOver as hands_over, HasNoAnchor as has_no_anchor, Renews as renews}
use Rattle.run_table.specs.Quiet.{Adopted, Follows, HaveNoPlan, IsBeside, IsQuiet, SaysAs, has_plan, said, said_by}
use Rattle.run_table.specs.Words.{is_word}
use Rattle.run_table.proofs.LineWords.{filter_append}
use Rattle.run_table.proofs.Others.{nothing_said, only_sends, quiet_both}
use Rattle.run_table.proofs.Quiet.{of_air, of_failure, of_freeze, of_host_air, of_host_tunnel, of_recover, of_submit, of_tunnelled, of_unlock, up_quiet}

-- nothing is done
pub beside_none : (m : MasterNode) → IsBeside m (m, quiet)
beside_none m = record { proc = refl; quiet = nothing_said }

-- one step after another
beside_after : (m : MasterNode) (x : Effects) (done : MasterNode × Effects) → IsQuiet x → IsBeside m done → IsBeside m (after_effects x done)
beside_after m x done q b = record { proc = b.proc; quiet = quiet_both x done.1 q b.quiet }

pub beside_turn : {X : Type 0} (f : MasterNode → X → MasterNode × Effects) → ((m : MasterNode) (x : X) → IsBeside m (f m x)) → (m : MasterNode) (xs : List X) → IsBeside m (in_turn f m xs)
beside_turn f each m [] = beside_none m
beside_turn f each m (x ∷ xs) =
    let here = each m x in
    let later = beside_turn f each (f m x).0 xs in
    record { proc = later.proc ∙ here.proc; quiet = quiet_both (f m x).1 (in_turn f (f m x).0 xs).1 here.quiet later.quiet }

-- ---- windows and anchors

beside_window : (m : MasterNode) (id count : ℕ) (o : Option Window) → IsBeside m (window_told m id count o)
beside_window m id count None = beside_none m
beside_window m id count (Some w) =
    elim (cases_Bool (nat_lt w.told count)) [ inl yes' ↦ rw yes' (record { proc = refl; quiet = record { notes = refl; sends = refl } }) | inr no' ↦ rw no' (beside_none m) ]

beside_low : (m : MasterNode) (id : ℕ) (o : Option ℕ) → IsBeside m (low_rises m id o)
beside_low m id None = beside_none m
beside_low m id (Some count) = beside_window m id count (held id m.windows)

beside_told : (m : MasterNode) (id g count : ℕ) (o : Option Row) → IsBeside m (told_by m id g count o)
beside_told m id g count None = beside_none m
beside_told m id g count (Some r) =
    elim (cases_Bool (nat_lt g r.est)) [ inl yes' ↦ rw yes' (beside_none m) | inr no' ↦ rw no' (beside_window m id count (held id m.windows)) ]

beside_anchor : (m : MasterNode) (id : ℕ) (done : AnchorState × AnchorOut) → HaveNoPlan done.1.sends → IsBeside m (anchor_did m id done)
beside_anchor m id done none =
    let n = record m { anchors = holding id (Some done.0) m.anchors } in
    let low = beside_low n id done.1.low in
    let ups : Effects = record { notes = handed_up M id Ul done.1.ups; sends = done.1.sends } in
    record { proc = low.proc; quiet = quiet_both ups (low_rises n id done.1.low).1 (record { notes = up_quiet M id Ul done.1.ups; sends = none }) low.quiet }

pub beside_on : (m : MasterNode) (id : ℕ) (f : AnchorState → AnchorState × AnchorOut) → ((a : AnchorState) → HaveNoPlan (f a).1.sends) → (o : Option AnchorState) → IsBeside m (on_anchor m id f o)
beside_on m id f none None = beside_none m
beside_on m id f none (Some a) = beside_anchor m id (f a) (none a)

beside_on_of : (m : MasterNode) (g id : ℕ) (f : AnchorState → AnchorState × AnchorOut) → ((a : AnchorState) → HaveNoPlan (f a).1.sends) → (o : Option AnchorState)
    → IsBeside m (on_anchor_of m g f id o)
beside_on_of m g id f none None = beside_none m
beside_on_of m g id f none (Some a) =
    elim (cases_Bool ((setup_at a).g == g)) [ inl yes' ↦ rw yes' (beside_anchor m id (f a) (none a)) | inr no' ↦ rw no' (beside_none m) ]

-- ---- how a plan is carried out

beside_owned : (m : MasterNode) (id g : ℕ) (a : Option AnchorState) → IsBeside m (owned m id g a)
beside_owned m id g a = record { proc = refl; quiet = record { notes = refl; sends = refl } }

beside_renewed : (m : MasterNode) (id g : ℕ) (s : Option Setup) (o : Option AnchorState) → IsBeside m (renewed_here m id g s o)
beside_renewed m id g None o = beside_none m
beside_renewed m id g (Some s) None = beside_none m
beside_renewed m id g (Some s) (Some (waiting_anchor w)) = beside_none m
beside_renewed m id g (Some s) (Some (active_anchor a)) = beside_owned m id g (Some (active_anchor (renew a s)))

beside_frozen : (m : MasterNode) (id g : ℕ) (to : Node) (o : Option AnchorState) → IsBeside m (frozen_here m id g to o)
beside_frozen m id g to None = beside_none m
beside_frozen m id g to (Some (waiting_anchor w)) = beside_none m
beside_frozen m id g to (Some (active_anchor a)) = record { proc = refl; quiet = record { notes = refl; sends = of_freeze a to g true } }

beside_part : (m : MasterNode) (p : Plan) (i : Item) (k : Part) → IsBeside m (master_part m p i k)
beside_part m p i establishes = record { proc = refl; quiet = record { notes = refl; sends = refl } }
beside_part m p i renews = beside_renewed m (item_id i) p.g (master_setup m p i) (held (item_id i) m.anchors)
beside_part m p i awaits = beside_none m
beside_part m p i (hands_over to) = beside_frozen m (item_id i) p.g to (held (item_id i) m.anchors)
beside_part m p i drops = record { proc = refl; quiet = nothing_said }
beside_part m p i has_no_anchor = beside_none m

quiet_end : (g id : ℕ) (new old : Node) → IsQuiet (line_end g id new old)
quiet_end g id new M = nothing_said
quiet_end g id new T = nothing_said
quiet_end g id new A = elim (cases_Bool (is_same_node new A)) [ inl yes' ↦ rw yes' nothing_said | inr no' ↦ rw no' (record { notes = refl; sends = refl }) ]
quiet_end g id new B = elim (cases_Bool (is_same_node new B)) [ inl yes' ↦ rw yes' nothing_said | inr no' ↦ rw no' (record { notes = refl; sends = refl }) ]

quiet_ends : (g : ℕ) (sec : Option Node) (i : Item) → IsQuiet (line_ends g sec i)
quiet_ends g sec (item.Set id n first shape threshold policy key None) = nothing_said
quiet_ends g sec (item.Set id n first shape threshold policy key (Some old)) = quiet_end g id (anchor_at sec shape) old
quiet_ends g sec (item.Unset id) = nothing_said

beside_item : (p : Plan) (m : MasterNode) (i : Item) → IsBeside m (carries_item p m i)
beside_item p m i =
    let n = with_host_and_window p m i in
    let part = beside_part n p i (part_at M p.sec i) in
    record { proc = part.proc; quiet = quiet_both (line_ends p.g p.sec i) (master_part n p i (part_at M p.sec i)).1 (quiet_ends p.g p.sec i) part.quiet }

beside_preparing : (m : MasterNode) (p : Plan) (i : Item) (k : Part) → IsBeside m (prepares_part m p i k)
beside_preparing m p i establishes = beside_none m
beside_preparing m p i renews = beside_none m
beside_preparing m p i awaits = record { proc = refl; quiet = nothing_said }
beside_preparing m p i (hands_over to) = beside_none m
beside_preparing m p i drops = beside_none m
beside_preparing m p i has_no_anchor = beside_none m

-- ---- acts

-- nothing is said by what is quiet
says_none : (x : Effects) → IsQuiet x → SaysAs x quiet
says_none x q = record { notes = q.notes; sends = q.sends }

-- an act leaves the procedures, and says what it is to say
record DoesAct (m : MasterNode) (a : Act) (done : MasterNode × Effects) : Type 0 where
  proc : done.0.proc ≡ m.proc
  says : SaysAs done.1 (said_by a)

by_side : (m : MasterNode) (a : Act) (done : MasterNode × Effects) → said_by a ≡ quiet → IsBeside m done → DoesAct m a done
by_side m a done none b = record {
  proc = b.proc;
  says = record { notes = b.quiet.notes ∙ ap (λ (x : Effects). filter is_word x.notes) (sym none); sends = b.quiet.sends ∙ ap (λ (x : Effects). filter has_plan x.sends) (sym none) };
}

proc_says : (m : MasterNode) (n : Note) → (says m n).0.proc ≡ m.proc
proc_says m n = elim (cases_Bool (is_rejection n)) [ inl yes' ↦ rw yes' refl | inr no' ↦ rw no' refl ]

does_act : (c : Choices) (m : MasterNode) (a : Act) → DoesAct m a (master_act c m a)
does_act c m (send to r) = record { proc = refl; says = record { notes = refl; sends = refl } }
does_act c m (prepare p) = by_side m (prepare p) (in_turn (prepares_item p) m p.items) refl (beside_turn (prepares_item p) (λ n i. beside_preparing n p i (part_at M p.sec i)) m p.items)
does_act c m (go p) = by_side m (go p) (in_turn (carries_item p) m p.items) refl (beside_turn (carries_item p) (beside_item p) m p.items)
does_act c m (unlock_all g) =
    let f : MasterNode → ℕ → MasterNode × Effects = λ n id. on_anchor_of n g (unlock c) id (held id n.anchors) in
    by_side m (unlock_all g) (in_turn f m (identities m.anchors)) refl (beside_turn f (λ n id. beside_on_of n g id (unlock c) (of_unlock c) (held id n.anchors)) m (identities m.anchors))
does_act c m (say n) = record { proc = proc_says m n; says = record { notes = refl; sends = refl } }
does_act c m (recover_one id) = by_side m (recover_one id) (on_anchor m id (recover c) (held id m.anchors)) refl (beside_on m id (recover c) (of_recover c) (held id m.anchors))
does_act c m (fail_one id g) = by_side m (fail_one id g) (on_anchor_of m g (fail_scg c) id (held id m.anchors)) refl (beside_on_of m g id (fail_scg c) (of_failure c) (held id m.anchors))
does_act c m (pass st) = record { proc = refl; says = record { notes = refl; sends = refl } }

pub says_both : (x x' y y' : Effects) → SaysAs x x' → SaysAs y y' → SaysAs (both x y) (both x' y')
says_both x x' y y' of_x of_y = record {
  notes =
      filter_append is_word x.notes y.notes ∙ ap (λ ns. ns ++ filter is_word y.notes) of_x.notes ∙ ap (λ ns. filter is_word x'.notes ++ ns) of_y.notes
      ∙ sym (filter_append is_word x'.notes y'.notes);
  sends =
      filter_append has_plan x.sends y.sends ∙ ap (λ ss. ss ++ filter has_plan y.sends) of_x.sends ∙ ap (λ ss. filter has_plan x'.sends ++ ss) of_y.sends
      ∙ sym (filter_append has_plan x'.sends y'.sends);
}

-- acts in turn
record DoesActs (m : MasterNode) (acts : List Act) (done : MasterNode × Effects) : Type 0 where
  proc : done.0.proc ≡ m.proc
  says : SaysAs done.1 (said acts)

does_acts : (c : Choices) (acts : List Act) (m : MasterNode) → DoesActs m acts (in_turn (master_act c) m acts)
does_acts c [] m = record { proc = refl; says = record { notes = refl; sends = refl } }
does_acts c (a ∷ acts) m =
    let here = does_act c m a in
    let n = master_act c m a in
    let later = does_acts c acts n.0 in
    record { proc = later.proc ∙ here.proc; says = says_both n.1 (said_by a) (in_turn (master_act c) n.0 acts).1 (said acts) here.says later.says }

-- the procedures after their step
pub does_follows : (c : Choices) (m : MasterNode) (r : MasterActs) → Follows r (does c m r)
does_follows c m r = let done = does_acts c r.1 (record m { proc = r.0 }) in record { proc = done.proc; says = done.says }

-- what comes before, if it says nothing
pub follows_after : (x : Effects) (r : MasterActs) (done : MasterNode × Effects) → IsQuiet x → Follows r done → Follows r (after_effects x done)
follows_after x r done q f = record {
  proc = f.proc;
  says = record {
    notes = filter_append is_word x.notes done.1.notes ∙ ap (λ ns. ns ++ filter is_word done.1.notes) q.notes ∙ f.says.notes;
    sends = filter_append has_plan x.sends done.1.sends ∙ ap (λ ss. ss ++ filter has_plan done.1.sends) q.sends ∙ f.says.sends;
  };
}

-- ---- adoptions

adopting : (c : Choices) (id g : ℕ) (m : MasterNode) (adopted : Bool) (done : MasterNode × Effects) → IsBeside m done → IsBeside m (adopts_if c id g adopted done) ⊎ Adopted m (adopts_if c id g adopted done)
adopting c id g m false done b = inl b
adopting c id g m true done b =
    let r = master_adopted done.0.proc id in
    let own : Effects = both (noted (note.Own M id g)) done.1 in
    let all = follows_after own r (does c done.0 r) (quiet_both (noted (note.Own M id g)) done.1 (record { notes = refl; sends = refl }) b.quiet) (does_follows c done.0 r) in
    let is : master_adopted done.0.proc id ≡ master_adopted m.proc id = ap (λ p. master_adopted p id) b.proc in
    inr (record { id = id; follows = subst (λ x. Follows x (after_effects own (does c done.0 r))) is all })

pub waiting_did : (c : Choices) (m : MasterNode) (id : ℕ) (f : AnchorState → AnchorState × AnchorOut) → ((a : AnchorState) → HaveNoPlan (f a).1.sends) → (o : Option AnchorState)
    → IsBeside m (on_waiting c m id f o) ⊎ Adopted m (on_waiting c m id f o)
waiting_did c m id f none None = inl (beside_none m)
waiting_did c m id f none (Some a) = adopting c id (setup_at a).g m (f a).1.adopted (anchor_did m id (f a)) (beside_anchor m id (f a) (none a))

beside_host : (m : MasterNode) (id : ℕ) (f : Host → Host × List Send) → ((h : Host) → HaveNoPlan (f h).1) → (o : Option Host) → IsBeside m (on_host m id f o)
beside_host m id f none None = beside_none m
beside_host m id f none (Some h) = record { proc = refl; quiet = only_sends (f h).1 (none h) }

data_did : (c : Choices) (m : MasterNode) (f : AnchorState → AnchorState × AnchorOut) (h : Host → Host × List Send) → ((a : AnchorState) → HaveNoPlan (f a).1.sends)
    → ((x : Host) → HaveNoPlan (h x).1) → (o : Option Named) → IsBeside m (data_taken c m f h o) ⊎ Adopted m (data_taken c m f h o)
data_did c m f h of_f of_h None = inl (beside_none m)
data_did c m f h of_f of_h (Some (id, g)) =
    elim (cases_Bool (is_anchor_of g (held id m.anchors))) [
      | inl yes' ↦ rw yes' (waiting_did c m id f of_f (held id m.anchors))
      | inr no' ↦ rw no' (inl (beside_host m id h of_h (held id m.hosts)))
    ]

pub air_did : (c : Choices) (m : MasterNode) (f : Flight)
    → let done = data_taken c m (λ a. air_in a cell.Mcg f) (λ h. host_air_in h f) (flight_named f) in IsBeside m done ⊎ Adopted m done
air_did c m f = data_did c m (λ a. air_in a cell.Mcg f) (λ h. host_air_in h f) (λ a. of_air a cell.Mcg f) (λ h. of_host_air h f) (flight_named f)

pub tunnel_did : (c : Choices) (m : MasterNode) (f : Flight)
    → let done = data_taken c m (λ a. tunnel_in c a f) (λ h. host_tunnel_in h f) (flight_named f) in IsBeside m done ⊎ Adopted m done
tunnel_did c m f = data_did c m (λ a. tunnel_in c a f) (λ h. host_tunnel_in h f) (λ a. of_tunnelled c a f) (λ h. of_host_tunnel h f) (flight_named f)

pub line_did : (m : MasterNode) (f : Flight) → IsBeside m (line_taken m f)
line_did m (flight.Told id g count) = beside_told m id g count (row m.proc.table id)
line_did m (flight.Sdu id g payload) = beside_none m
line_did m (flight.End id g) = beside_none m
line_did m (flight.Air id g num tag pdu) = beside_none m
line_did m (flight.Ack id g num) = beside_none m
line_did m (flight.Tun tag packet) = beside_none m
line_did m (flight.Ctl r) = beside_none m

-- a submission
pub to_anchor_did : (c : Choices) (m : MasterNode) (id g : ℕ) (payload : List ℕ) (x : Node) → IsBeside m (to_anchor_at c m id g payload x)
to_anchor_did c m id g payload M = beside_on m id (λ a. submit c a payload) (λ a. of_submit c a payload) (held id m.anchors)
to_anchor_did c m id g payload A = record { proc = refl; quiet = record { notes = refl; sends = refl } }
to_anchor_did c m id g payload B = record { proc = refl; quiet = record { notes = refl; sends = refl } }
to_anchor_did c m id g payload T = beside_none m
