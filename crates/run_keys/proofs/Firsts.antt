-- Each step of the master asks for nothing, or for the change that is open, with the octets of its K_SN.
use Rattle.std.proofs.Common.{ℕ, ◌≡◌, ◌&&◌, true, false, List, [], ◌∷◌, Option, Some, None, refl, sym, ap, subst, ◌∙◌, inl, inr}
use Rattle.std.specs.Prelude.{filter, nat_lt, slice_get}
use Rattle.std.specs.List.{AllByRecursion, list_any}
use Rattle.std.proofs.lemmas.Bool.{cases_Bool}
use Rattle.dc_base.specs.Links.{is_ordered}
use Rattle.dc_base.specs.declared.events.Event.{Event}
use Rattle.dc_base.specs.declared.events.Event.TheVariants as event
use Rattle.dc_base.specs.declared.events.Note.{Note}
use Rattle.dc_base.specs.declared.events.Note.TheVariants as note
use Rattle.dc_base.specs.declared.flights.Flight.{Flight}
use Rattle.dc_base.specs.declared.flights.Flight.TheVariants as flight
use Rattle.dc_base.specs.declared.nodes.Class.{Class}
use Rattle.dc_base.specs.declared.nodes.Class.TheVariants.{Air, Ctl, Feed, Tun}
use Rattle.dc_base.specs.declared.nodes.LinkId.{LinkId}
use Rattle.dc_base.specs.declared.nodes.Node.{Node}
use Rattle.dc_base.specs.declared.nodes.Node.TheVariants.{A, B, M, T}
use Rattle.dc_base.specs.declared.records.Rec.{Rec}
use Rattle.dc_base.specs.declared.records.Rec.TheVariants as rec
use Rattle.claims.specs.Planned.{plan_in}
use Rattle.node_rules.specs.Choices.{Choices, Send}
use Rattle.node_rules.specs.Flights.{weight}
use Rattle.node_rules.specs.Lines.{is_end}
use Rattle.node_rules.specs.Master.{MasterNode}
use Rattle.node_rules.specs.MasterState.{MasterActs, MasterProc}
use Rattle.node_rules.specs.MasterStep.{master_event, master_takes}
use Rattle.node_rules.specs.Readers.{is_aged_for}
use Rattle.node_rules.specs.Run.{carried_on, copy_of, happening, in_tunnel, loss_of, node_at, step_of, submitter, takes}
use Rattle.node_rules.specs.SecondStep.{second_step}
use Rattle.node_rules.specs.Terminal.{terminal_step}
use Rattle.node_rules.specs.World.{World, flights_on}
use Rattle.node_rules.specs.declared.acts.Act.{Act}
use Rattle.node_rules.specs.declared.acts.Act.TheVariants.{FailOne as fail_one, Go as go, Pass as pass, Prepare as prepare, RecoverOne as recover_one, Say as say, Send as send, UnlockAll as unlock_all}
use Rattle.node_rules.specs.declared.commands.Change.{Change}
use Rattle.node_rules.specs.declared.inputs.Effects.{Effects}
use Rattle.node_rules.specs.declared.inputs.Input.TheVariants.{Cmd, Come}
use Rattle.node_rules.specs.declared.inputs.Outcome.{Outcome}
use Rattle.transcript.proofs.OnEach.{each_at}
use Rattle.run_table.specs.Quiet.{Follows, IsQuiet, effects_of, has_plan, said}
use Rattle.run_table.specs.SameTable.{Agree}
use Rattle.run_table.specs.View.{View}
use Rattle.run_table.specs.Words.{is_word}
use Rattle.run_table.proofs.Others.{second_quiet, terminal_quiet}
use Rattle.run_senders.specs.Kinds.{MayBeOn}
use Rattle.run_senders.proofs.Standing.{StandRight}
use Rattle.run_plans.specs.Leading.{IsAsked, KeyFree, Led, LedFrom, Opens, asking_acts, is_first, led_acts}
use Rattle.run_plans.specs.Steps.{IsStep}
use Rattle.run_plans.proofs.Steps.{step_event, step_flight}
use Rattle.run_keys.specs.Firsts.{AsksBy, IsFirstOf, asks_for, asks_none, is_first_flight}

-- no send of these is a first record
abbrev NoFirsts : List Send → Type 0
NoFirsts ss = AllByRecursion (λ (s : Send). is_first_flight s.1 ≡ false) ss

-- ---- what carries no plan is none

no_first : (r : Rec) → plan_in r ≡ None → is_first r ≡ false
no_first (rec.Addreq q key) none = absurd (let bad : Some q ≡ None = none in cc)
no_first (rec.Modreq q key) none = absurd (let bad : Some q ≡ None = none in cc)
no_first (rec.Reconf q key) none = refl
no_first (rec.Rcomp g) none = refl
no_first (rec.Scgf x) none = refl
no_first (rec.Recov id) none = refl
no_first (rec.Recovd id) none = refl
no_first (rec.Addack g) none = refl
no_first (rec.Addrej g) none = refl
no_first (rec.Modack g) none = refl
no_first (rec.Modrej g) none = refl
no_first (rec.Recfg g) none = refl
no_first (rec.Relreq q) none = refl
no_first (rec.Relack g) none = refl
no_first (rec.Relrej g) none = refl
no_first (rec.Uecr g) none = refl
no_first (rec.Snst st) none = refl
no_first (rec.Moved g id) none = refl
no_first (rec.Scgn id g) none = refl
no_first rec.Modrqd none = refl
no_first (rec.Modcnf g) none = refl
no_first (rec.Modref w) none = refl
no_first rec.Chgrqd none = refl
no_first (rec.Chgcnf q) none = refl
no_first (rec.Chgref w) none = refl
no_first rec.Relrqd none = refl
no_first (rec.Relcnf q) none = refl

planless_none : (s : Send) → has_plan s ≡ false → is_first_flight s.1 ≡ false
planless_none (l, flight.Air id g num tag pdu) is = refl
planless_none (l, flight.Ack id g num) is = refl
planless_none (l, flight.Tun tag packet) is = refl
planless_none (l, flight.Sdu id g sdu) is = refl
planless_none (l, flight.End id g) is = refl
planless_none (l, flight.Told id g count) is = refl
planless_none (l, flight.Ctl (rec.Addreq q key)) is = absurd (let bad : true ≡ false = is in cc)
planless_none (l, flight.Ctl (rec.Modreq q key)) is = absurd (let bad : true ≡ false = is in cc)
planless_none (l, flight.Ctl (rec.Reconf q key)) is = refl
planless_none (l, flight.Ctl (rec.Rcomp g)) is = refl
planless_none (l, flight.Ctl (rec.Scgf x)) is = refl
planless_none (l, flight.Ctl (rec.Recov id)) is = refl
planless_none (l, flight.Ctl (rec.Recovd id)) is = refl
planless_none (l, flight.Ctl (rec.Addack g)) is = refl
planless_none (l, flight.Ctl (rec.Addrej g)) is = refl
planless_none (l, flight.Ctl (rec.Modack g)) is = refl
planless_none (l, flight.Ctl (rec.Modrej g)) is = refl
planless_none (l, flight.Ctl (rec.Recfg g)) is = refl
planless_none (l, flight.Ctl (rec.Relreq q)) is = refl
planless_none (l, flight.Ctl (rec.Relack g)) is = refl
planless_none (l, flight.Ctl (rec.Relrej g)) is = refl
planless_none (l, flight.Ctl (rec.Uecr g)) is = refl
planless_none (l, flight.Ctl (rec.Snst st)) is = refl
planless_none (l, flight.Ctl (rec.Moved g id)) is = refl
planless_none (l, flight.Ctl (rec.Scgn id g)) is = refl
planless_none (l, flight.Ctl rec.Modrqd) is = refl
planless_none (l, flight.Ctl (rec.Modcnf g)) is = refl
planless_none (l, flight.Ctl (rec.Modref w)) is = refl
planless_none (l, flight.Ctl rec.Chgrqd) is = refl
planless_none (l, flight.Ctl (rec.Chgcnf q)) is = refl
planless_none (l, flight.Ctl (rec.Chgref w)) is = refl
planless_none (l, flight.Ctl rec.Relrqd) is = refl
planless_none (l, flight.Ctl (rec.Relcnf q)) is = refl

-- what is no first record is of any change
other_of : (roots : List (List ℕ)) (c : Change) (f : Flight) → is_first_flight f ≡ false → IsFirstOf roots c f
other_of roots c (flight.Air id g num tag pdu) is = tt
other_of roots c (flight.Ack id g num) is = tt
other_of roots c (flight.Tun tag packet) is = tt
other_of roots c (flight.Sdu id g sdu) is = tt
other_of roots c (flight.End id g) is = tt
other_of roots c (flight.Told id g count) is = tt
other_of roots c (flight.Ctl (rec.Addreq q key)) is = absurd (let bad : true ≡ false = is in cc)
other_of roots c (flight.Ctl (rec.Modreq q key)) is = absurd (let bad : true ≡ false = is in cc)
other_of roots c (flight.Ctl (rec.Reconf q key)) is = tt
other_of roots c (flight.Ctl (rec.Rcomp g)) is = tt
other_of roots c (flight.Ctl (rec.Scgf x)) is = tt
other_of roots c (flight.Ctl (rec.Recov id)) is = tt
other_of roots c (flight.Ctl (rec.Recovd id)) is = tt
other_of roots c (flight.Ctl (rec.Addack g)) is = tt
other_of roots c (flight.Ctl (rec.Addrej g)) is = tt
other_of roots c (flight.Ctl (rec.Modack g)) is = tt
other_of roots c (flight.Ctl (rec.Modrej g)) is = tt
other_of roots c (flight.Ctl (rec.Recfg g)) is = tt
other_of roots c (flight.Ctl (rec.Relreq q)) is = tt
other_of roots c (flight.Ctl (rec.Relack g)) is = tt
other_of roots c (flight.Ctl (rec.Relrej g)) is = tt
other_of roots c (flight.Ctl (rec.Uecr g)) is = tt
other_of roots c (flight.Ctl (rec.Snst st)) is = tt
other_of roots c (flight.Ctl (rec.Moved g id)) is = tt
other_of roots c (flight.Ctl (rec.Scgn id g)) is = tt
other_of roots c (flight.Ctl rec.Modrqd) is = tt
other_of roots c (flight.Ctl (rec.Modcnf g)) is = tt
other_of roots c (flight.Ctl (rec.Modref w)) is = tt
other_of roots c (flight.Ctl rec.Chgrqd) is = tt
other_of roots c (flight.Ctl (rec.Chgcnf q)) is = tt
other_of roots c (flight.Ctl (rec.Chgref w)) is = tt
other_of roots c (flight.Ctl rec.Relrqd) is = tt
other_of roots c (flight.Ctl (rec.Relcnf q)) is = tt

module _ (P : Send → Type 0) (other : (s : Send) → has_plan s ≡ false → P s) where
  filtered : (ss : List Send) → AllByRecursion P ss → AllByRecursion P (filter has_plan ss)
  filtered [] all = tt
  filtered (s ∷ ss) all = elim (cases_Bool (has_plan s)) [ inl yes' ↦ rw yes' (all.0, filtered ss all.1) | inr no' ↦ rw no' (filtered ss all.1) ]

  unfiltered : (ss : List Send) → AllByRecursion P (filter has_plan ss) → AllByRecursion P ss
  unfiltered [] all = tt
  unfiltered (s ∷ ss) all =
      elim (cases_Bool (has_plan s)) [
        | inl yes' ↦ let both' = rw yes' at all in (both'.0, unfiltered ss both'.1)
        | inr no' ↦ (other s no', unfiltered ss (rw no' at all))
      ]

  as_said : (xs ys : List Send) → filter has_plan xs ≡ filter has_plan ys → AllByRecursion P ys → AllByRecursion P xs
  as_said xs ys same all = unfiltered xs (subst (AllByRecursion P) (sym same) (filtered ys all))

-- ---- acts

opening_none : (to : Node) (r : Rec) → Opens (send to r) → is_first r ≡ false
opening_none to (rec.Reconf q key) opens = refl
opening_none to (rec.Addreq q key) opens = absurd opens
opening_none to (rec.Modreq q key) opens = absurd opens
opening_none to (rec.Relcnf q) opens = refl
opening_none to (rec.Rcomp g) opens = absurd opens
opening_none to (rec.Scgf x) opens = absurd opens
opening_none to (rec.Recov id) opens = absurd opens
opening_none to (rec.Recovd id) opens = absurd opens
opening_none to (rec.Addack g) opens = absurd opens
opening_none to (rec.Addrej g) opens = absurd opens
opening_none to (rec.Modack g) opens = absurd opens
opening_none to (rec.Modrej g) opens = absurd opens
opening_none to (rec.Recfg g) opens = absurd opens
opening_none to (rec.Relreq q) opens = absurd opens
opening_none to (rec.Relack g) opens = absurd opens
opening_none to (rec.Relrej g) opens = absurd opens
opening_none to (rec.Uecr g) opens = absurd opens
opening_none to (rec.Snst st) opens = absurd opens
opening_none to (rec.Moved g id) opens = absurd opens
opening_none to (rec.Scgn id g) opens = absurd opens
opening_none to rec.Modrqd opens = absurd opens
opening_none to (rec.Modcnf g) opens = absurd opens
opening_none to (rec.Modref w) opens = absurd opens
opening_none to rec.Chgrqd opens = absurd opens
opening_none to (rec.Chgcnf q) opens = absurd opens
opening_none to (rec.Chgref w) opens = absurd opens
opening_none to rec.Relrqd opens = absurd opens

free_none : (acts : List Act) → AllByRecursion KeyFree acts → NoFirsts (said acts).sends
free_none [] all = tt
free_none (send to r ∷ acts) all = (all.0, free_none acts all.1)
free_none (say n ∷ acts) all = free_none acts all.1
free_none (prepare p ∷ acts) all = free_none acts all.1
free_none (go p ∷ acts) all = free_none acts all.1
free_none (unlock_all g ∷ acts) all = free_none acts all.1
free_none (recover_one id ∷ acts) all = free_none acts all.1
free_none (fail_one id g ∷ acts) all = free_none acts all.1
free_none (pass st ∷ acts) all = free_none acts all.1

led_none : (acts : List Act) → Led acts → NoFirsts (said acts).sends
led_none [] led = tt
led_none (send to r ∷ acts) (inl free) = (no_first r free.0, led_none acts free.1)
led_none (send to r ∷ acts) (inr opens) = (opening_none to r opens.0, free_none acts opens.1)
led_none (say n ∷ acts) (inl free) = led_none acts free.1
led_none (say n ∷ acts) (inr opens) = absurd opens.0
led_none (prepare p ∷ acts) (inl free) = led_none acts free.1
led_none (prepare p ∷ acts) (inr opens) = absurd opens.0
led_none (go p ∷ acts) (inl free) = led_none acts free.1
led_none (go p ∷ acts) (inr opens) = absurd opens.0
led_none (unlock_all g ∷ acts) (inl free) = led_none acts free.1
led_none (unlock_all g ∷ acts) (inr opens) = absurd opens.0
led_none (recover_one id ∷ acts) (inl free) = led_none acts free.1
led_none (recover_one id ∷ acts) (inr opens) = absurd opens.0
led_none (fail_one id g ∷ acts) (inl free) = led_none acts free.1
led_none (fail_one id g ∷ acts) (inr opens) = absurd opens.0
led_none (pass st ∷ acts) (inl free) = led_none acts free.1
led_none (pass st ∷ acts) (inr opens) = absurd opens.0

asked_first : (roots : List (List ℕ)) (c : Change) (to : Node) (r : Rec) → IsAsked roots c (send to r) → IsFirstOf roots c (flight.Ctl r)
asked_first roots c to (rec.Addreq q key) is = is
asked_first roots c to (rec.Modreq q key) is = is
asked_first roots c to (rec.Reconf q key) is = tt
asked_first roots c to (rec.Rcomp g) is = tt
asked_first roots c to (rec.Scgf x) is = tt
asked_first roots c to (rec.Recov id) is = tt
asked_first roots c to (rec.Recovd id) is = tt
asked_first roots c to (rec.Addack g) is = tt
asked_first roots c to (rec.Addrej g) is = tt
asked_first roots c to (rec.Modack g) is = tt
asked_first roots c to (rec.Modrej g) is = tt
asked_first roots c to (rec.Recfg g) is = tt
asked_first roots c to (rec.Relreq q) is = tt
asked_first roots c to (rec.Relack g) is = tt
asked_first roots c to (rec.Relrej g) is = tt
asked_first roots c to (rec.Uecr g) is = tt
asked_first roots c to (rec.Snst st) is = tt
asked_first roots c to (rec.Moved g id) is = tt
asked_first roots c to (rec.Scgn id g) is = tt
asked_first roots c to rec.Modrqd is = tt
asked_first roots c to (rec.Modcnf g) is = tt
asked_first roots c to (rec.Modref w) is = tt
asked_first roots c to rec.Chgrqd is = tt
asked_first roots c to (rec.Chgcnf q) is = tt
asked_first roots c to (rec.Chgref w) is = tt
asked_first roots c to rec.Relrqd is = tt
asked_first roots c to (rec.Relcnf q) is = tt

asked_all : (roots : List (List ℕ)) (c : Change) (acts : List Act) → AllByRecursion (IsAsked roots c) acts → AllByRecursion (λ (s : Send). IsFirstOf roots c s.1) (said acts).sends
asked_all roots c [] all = tt
asked_all roots c (send to r ∷ acts) all = (asked_first roots c to r all.0, asked_all roots c acts all.1)
asked_all roots c (say n ∷ acts) all = asked_all roots c acts all.1
asked_all roots c (prepare p ∷ acts) all = asked_all roots c acts all.1
asked_all roots c (go p ∷ acts) all = asked_all roots c acts all.1
asked_all roots c (unlock_all g ∷ acts) all = asked_all roots c acts all.1
asked_all roots c (recover_one id ∷ acts) all = asked_all roots c acts all.1
asked_all roots c (fail_one id g ∷ acts) all = asked_all roots c acts all.1
asked_all roots c (pass st ∷ acts) all = asked_all roots c acts all.1

-- no command ends
said_endless : (roots : List (List ℕ)) (c : Change) (acts : List Act) → AllByRecursion (IsAsked roots c) acts → list_any is_end (said acts).notes ≡ false
said_endless roots c [] all = refl
said_endless roots c (send to r ∷ acts) all = said_endless roots c acts all.1
said_endless roots c (say n ∷ acts) all = rw (all.0) (said_endless roots c acts all.1)
said_endless roots c (prepare p ∷ acts) all = said_endless roots c acts all.1
said_endless roots c (go p ∷ acts) all = said_endless roots c acts all.1
said_endless roots c (unlock_all g ∷ acts) all = said_endless roots c acts all.1
said_endless roots c (recover_one id ∷ acts) all = said_endless roots c acts all.1
said_endless roots c (fail_one id g ∷ acts) all = said_endless roots c acts all.1
said_endless roots c (pass st ∷ acts) all = said_endless roots c acts all.1

end_is_word : (n : Note) → is_word n ≡ false → is_end n ≡ false
end_is_word (note.Begin w) is = refl
end_is_word (note.Join x g) is = refl
end_is_word (note.Leave x g) is = refl
end_is_word (note.Give x id g) is = refl
end_is_word (note.Own x id g) is = refl
end_is_word (note.Set id g) is = refl
end_is_word (note.Unset id) is = refl
end_is_word (note.Up x id d count sdu) is = refl
end_is_word (note.Freed id d count) is = refl
end_is_word (note.Confirmed x) is = refl
end_is_word (note.Refused x w) is = refl
end_is_word note.Done is = absurd (let bad : true ≡ false = is in cc)
end_is_word note.Rejected is = absurd (let bad : true ≡ false = is in cc)

ends_among : (ns : List Note) → list_any is_end (filter is_word ns) ≡ list_any is_end ns
ends_among [] = refl
ends_among (n ∷ ns) =
    elim (cases_Bool (is_word n)) [
      | inl yes' ↦ elim (cases_Bool (is_end n)) [ inl end' ↦ rw yes' (rw end' refl) | inr on ↦ rw yes' (rw on (ends_among ns)) ]
      | inr no' ↦ rw no' (rw (end_is_word n no') (ends_among ns))
    ]

-- ---- steps of the master

by_step : (done : MasterNode × Effects) → IsStep done → AsksBy done.0.proc done.1
by_step done (inl quiet') = asks_none (unfiltered (λ s. is_first_flight s.1 ≡ false) planless_none done.1.sends (subst (λ ss. NoFirsts ss) (sym quiet'.sends) tt))
by_step done (inr f) = by f.acts f.from f.follows
  where
    by : (r : MasterActs) → LedFrom r → Follows r done → AsksBy done.0.proc done.1
    by r (led_acts led) follows =
        asks_none (as_said (λ s. is_first_flight s.1 ≡ false) planless_none done.1.sends (said r.1).sends follows.says.sends (led_none r.1 led))
    by r (asking_acts c first who wanted opened are) follows =
        let roots = r.0.table.book.roots in
        let all = as_said (λ s. IsFirstOf roots c s.1) (λ s none. other_of roots c s.1 (planless_none s none)) done.1.sends (said r.1).sends follows.says.sends (asked_all roots c r.1 are) in
        asks_for c first who wanted (ap (λ (p : MasterProc). p.command) follows.proc ∙ opened)
        (subst (λ (p : MasterProc). AllByRecursion (λ (s : Send). IsFirstOf p.table.book.roots c s.1) done.1.sends) (sym follows.proc) all)
        (sym (ends_among done.1.notes) ∙ ap (list_any is_end) follows.says.notes ∙ ends_among (said r.1).notes ∙ said_endless roots c r.1 are)

-- ---- any event

tunnel_none : (l : LinkId) (f : Flight) → l.class ≡ Tun → MayBeOn l f → is_first_flight f ≡ false
tunnel_none l (flight.Ctl r) tun on = absurd (let bad : Tun ≡ Ctl = sym tun ∙ on.class in cc)
tunnel_none l (flight.Air id g num tag pdu) tun on = refl
tunnel_none l (flight.Ack id g num) tun on = refl
tunnel_none l (flight.Tun tag packet) tun on = refl
tunnel_none l (flight.Sdu id g sdu) tun on = refl
tunnel_none l (flight.End id g) tun on = refl
tunnel_none l (flight.Told id g count) tun on = refl

at_place : (P : Flight → Type 0) (fs : List Flight) (i : ℕ) (f : Flight) → AllByRecursion P fs → slice_get fs i ≡ Some f → P f
at_place P fs i f all at = each_at P fs i f all at

module _ (c : Choices) (w : World) (v : View) (agree : Agree v w.master.proc) (right : StandRight w) where
  -- what is asked by it
  abbrev pub Asks : World × Outcome → Type 0
  Asks done = AsksBy done.0.master.proc (effects_of done.1)

  elsewhere : (o : Outcome) → IsQuiet (effects_of o) → AsksBy w.master.proc (effects_of o)
  elsewhere o q = asks_none (unfiltered (λ s. is_first_flight s.1 ≡ false) planless_none o.sends (subst (λ ss. NoFirsts ss) (sym q.sends) tt))

  given : (e : Event) (x : Node) → Asks (takes c w (Cmd e) x)
  given e T = elsewhere (terminal_step c w.terminal (Cmd e)).1 (terminal_quiet c w.terminal (Cmd e))
  given e M = let done = master_event c w.master e in by_step (done.0, effects_of done.1) (step_event c w.master e)
  given e A = elsewhere (second_step c w.a (Cmd e)).1 (second_quiet c w.a (Cmd e))
  given e B = elsewhere (second_step c w.b (Cmd e)).1 (second_quiet c w.b (Cmd e))

  come : (l : LinkId) (f : Flight) (x : Node) → Asks (takes c w (Come l f) x)
  come l f T = elsewhere (terminal_step c w.terminal (Come l f)).1 (terminal_quiet c w.terminal (Come l f))
  come l f M = by_step (master_takes c w.master l.from f l.class) (step_flight c w.master v agree l.from f l.class)
  come l f A = elsewhere (second_step c w.a (Come l f)).1 (second_quiet c w.a (Come l f))
  come l f B = elsewhere (second_step c w.b (Come l f)).1 (second_quiet c w.b (Come l f))

  stepped : (l : LinkId) (i : ℕ) (o : Option Flight) → Asks (carried_on c w (step_of w l i o))
  stepped l i None = asks_none tt
  stepped l i (Some f) =
      elim (cases_Bool (is_ordered l.class && nat_lt 0 i)) [
        | inl behind ↦ rw behind (asks_none tt)
        | inr first ↦ elim (cases_Bool (is_aged_for (node_at w l.to) (weight f))) [
          | inl aged ↦ rw first (rw aged (asks_none tt))
          | inr fresh ↦ rw first (rw fresh (come l f l.to))
        ]
      ]

  lost : (k : Class) (o : Option Flight) → Asks (carried_on c w (in_tunnel k (loss_of o)))
  lost Ctl o = asks_none tt
  lost Feed o = asks_none tt
  lost Air o = asks_none tt
  lost Tun None = asks_none tt
  lost Tun (Some f) = asks_none tt

  copied : (l : LinkId) (k : Class) (o : Option Flight) → (k ≡ Tun → (f : Flight) → o ≡ Some f → is_first_flight f ≡ false) → Asks (carried_on c w (in_tunnel k (copy_of l o)))
  copied l Ctl o none = asks_none tt
  copied l Feed o none = asks_none tt
  copied l Air o none = asks_none tt
  copied l Tun None none = asks_none tt
  copied l Tun (Some f) none = asks_none (none refl f refl, tt)

  pub event_asks : (e : Event) → Asks (carried_on c w (happening w e))
  event_asks (event.Bearer id n first shape threshold policy) = given (event.Bearer id n first shape threshold policy) M
  event_asks (event.Reshape id shape) = given (event.Reshape id shape) M
  event_asks (event.Remove id) = given (event.Remove id) M
  event_asks (event.Add x) = given (event.Add x) M
  event_asks event.Change = given event.Change M
  event_asks event.Release = given event.Release M
  event_asks event.RekeySecond = given event.RekeySecond M
  event_asks (event.RekeyMaster root) = given (event.RekeyMaster root) M
  event_asks (event.Recover id) = given (event.Recover id) M
  event_asks (event.Report x id) = given (event.Report x id) x
  event_asks (event.Deny x on) = given (event.Deny x on) x
  event_asks (event.Ask x what) = given (event.Ask x what) x
  event_asks event.ScgFail = given event.ScgFail T
  event_asks (event.Submit id d payload) = given (event.Submit id d payload) (submitter d)
  event_asks (event.Step l i) = stepped l i (slice_get (flights_on l w.links) i)
  event_asks (event.Lose l i) = lost l.class (slice_get (flights_on l w.links) i)
  event_asks (event.Again l i) =
      copied l l.class (slice_get (flights_on l w.links) i) (λ tun f at. tunnel_none l f tun (at_place (MayBeOn l) (flights_on l w.links) i f (right l) at))
