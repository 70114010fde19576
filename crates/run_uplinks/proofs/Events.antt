-- Each event of a run keeps the terminal's side what the past says of it.
use Rattle.std.proofs.Common.{ℕ, ◌≡◌, ◌&&◌, Bool, true, false, List, Option, Some, None, slice_get, refl, sym, ap, subst, ◌∙◌, inl, inr, arith}
use Rattle.std.specs.Prelude.{fold, if◌then◌else◌, is_some, length, nat_lt, not}
use Rattle.std.specs.Option.{option_map}
use Rattle.std.proofs.lemmas.Bool.{cases_Bool, ltb-false}
use Rattle.dc_base.specs.Links.{is_ordered, is_tunnel, link}
use Rattle.dc_base.specs.declared.answers.Answer.{Answer}
use Rattle.dc_base.specs.declared.answers.Answer.TheVariants as answer
use Rattle.dc_base.specs.declared.answers.Refusal.{Refusal}
use Rattle.dc_base.specs.declared.answers.Refusal.TheVariants as refusal
use Rattle.dc_base.specs.declared.events.Event.{Event}
use Rattle.dc_base.specs.declared.events.Event.TheVariants as event
use Rattle.dc_base.specs.declared.flights.Flight.{Flight}
use Rattle.dc_base.specs.declared.flights.Flight.TheVariants as flight
use Rattle.dc_base.specs.declared.nodes.Class.TheVariants.{Ctl}
use Rattle.dc_base.specs.declared.nodes.Dir.TheVariants.{Dl, Ul}
use Rattle.dc_base.specs.declared.nodes.LinkId.{LinkId}
use Rattle.dc_base.specs.declared.nodes.Node.{Node}
use Rattle.dc_base.specs.declared.nodes.Node.TheVariants.{A, B, M, T}
use Rattle.dc_base.specs.declared.nodes.Shape.{Shape}
use Rattle.dc_base.specs.declared.numbers.SnLen.{SnLen}
use Rattle.dc_base.specs.declared.records.Plan.{Plan}
use Rattle.dc_base.specs.declared.records.Rec.TheVariants as rec
use Rattle.claims.specs.Drafts.{draft}
use Rattle.claims.specs.Links.{find_at}
use Rattle.claims.specs.Noted.{after}
use Rattle.claims.specs.Past.{Past}
use Rattle.node_rules.specs.Acts.{first_refusal}
use Rattle.node_rules.specs.Choices.{Choices}
use Rattle.node_rules.specs.CommandTable.{row}
use Rattle.node_rules.specs.Flights.{weight}
use Rattle.node_rules.specs.Held.{held}
use Rattle.node_rules.specs.MasterCommands.{command_refusals, commands_unless}
use Rattle.node_rules.specs.MasterState.{has_bearer, is_unsettled}
use Rattle.node_rules.specs.MasterStep.{commanded, master_step}
use Rattle.node_rules.specs.Readers.{is_aged_for}
use Rattle.node_rules.specs.Run.{carried_on, copy_of, entry_with, happening, loss_of, node_at, refused_for, step_of, takes}
use Rattle.node_rules.specs.SecondStep.{second_step}
use Rattle.node_rules.specs.Terminal.{plan_taken, is_takable, reported_there, scg_fails, submitted_there, terminal_takes}
use Rattle.node_rules.specs.TerminalHalf.{TerminalHalf}
use Rattle.node_rules.specs.World.{World, flights_on}
use Rattle.node_rules.specs.declared.commands.Row.{Row}
use Rattle.node_rules.specs.declared.inputs.Input.{Input}
use Rattle.node_rules.specs.declared.inputs.Input.TheVariants.{Cmd, Come}
use Rattle.node_rules.specs.declared.inputs.Outcome.{Outcome}
use Rattle.node_rules.specs.Effects.{accepted}
use Rattle.master_runs.proofs.Moving.{same_link}
use Rattle.run_table.specs.Words.{orders}
use Rattle.run_windows.proofs.Commands.{none_of, not_first}
use Rattle.run_words.proofs.Standing.{found_standing}
use Rattle.run_uplinks.specs.Seen.{Seen, answered, seen, with_flight, with_given, with_note}
use Rattle.run_uplinks.specs.Uplinks.{IsUp}
use Rattle.run_uplinks.proofs.Drawing.{draws_up}
use Rattle.run_uplinks.proofs.Failing.{failed_up}
use Rattle.run_uplinks.proofs.Held.{Holds, free_of, taken_next}
use Rattle.run_uplinks.proofs.MasterNotes.{master_plain}
use Rattle.run_uplinks.proofs.PlainLines.{plain_up}
use Rattle.run_uplinks.proofs.Plans.{plan_up}
use Rattle.run_uplinks.proofs.SecondNotes.{ArePlain, second_plain}
use Rattle.run_uplinks.proofs.Seeing.{flight_at}
use Rattle.run_uplinks.proofs.Standing.{order_at}
use Rattle.run_uplinks.proofs.Terminals.{reported_up, seen_after, submitted_up}
use Rattle.run_uplinks.proofs.TerminalNotes.{plan_notes}
use Rattle.node_rules.specs.Effects.{quiet}
use Rattle.run_table.specs.View.{view}
use Rattle.dc_base.specs.Nodes.{is_same_node}
use Rattle.run_uplinks.proofs.Standing.{IsDrawnOrder, IsOrderOn, order_in}
use Rattle.std.specs.List.{list_any}
use Rattle.run_uplinks.proofs.Given.{after_freed, after_set, does_flight, unseen_flight}

pub zero_is : (j : ℕ) → nat_lt 0 j ≡ false → j ≡ 0
zero_is j not' = let le = ltb-false 0 j not' in omega (arith, le)

-- ---- an event

module _ (c : Choices) (w : World) (p : Past) (h : Holds p w) where
  -- the terminal's side after what an event came to
  abbrev pub UpAfter : Event → World × Outcome → Type 0
  UpAfter e done = IsUp (seen (after p (entry_with e done.1))) done.0.terminal

  -- what is seen before the lines
  abbrev pub before : Event → Answer → Seen
  before e a = answered (draft p.table e) (flight_at p.standing e) e a (seen p)

  at_master : (e : Event) (i : Input) → IsUp (before e (master_step c w.master i).1.answer) w.terminal → UpAfter e (takes c w i M)
  at_master e i is = plain_up e (master_step c w.master i).1 p w.terminal (master_plain c w.master i) h.well is

  at_a : (e : Event) (i : Input) → IsUp (before e (second_step c w.a i).1.answer) w.terminal → UpAfter e (takes c w i A)
  at_a e i is = plain_up e (second_step c w.a i).1 p w.terminal (second_plain c w.a i) h.well is

  at_b : (e : Event) (i : Input) → IsUp (before e (second_step c w.b i).1.answer) w.terminal → UpAfter e (takes c w i B)
  at_b e i is = plain_up e (second_step c w.b i).1 p w.terminal (second_plain c w.b i) h.well is

  -- the event itself is not seen
  abbrev IsStill : Event → Type 0
  IsStill e = (a : Answer) → before e a ≡ seen p

  still_up : (e : Event) → IsStill e → (a : Answer) → IsUp (before e a) w.terminal
  still_up e still a = subst (λ s. IsUp s w.terminal) (sym (still a)) h.up

  at_other : (e : Event) → IsStill e → (x : Node) (i : Input) → UpAfter e (takes c w i T) → UpAfter e (takes c w i x)
  at_other e still T i here = here
  at_other e still M i here = at_master e i (still_up e still (master_step c w.master i).1.answer)
  at_other e still A i here = at_a e i (still_up e still (second_step c w.a i).1.answer)
  at_other e still B i here = at_b e i (still_up e still (second_step c w.b i).1.answer)

  refused_up : (e : Event) (why : Refusal) → UpAfter e (carried_on c w (refused_for why))
  refused_up e why = plain_up e (carried_on c w (refused_for why)).1 p w.terminal tt h.well h.up

  -- ---- commands

  reshape_up : (id : ℕ) (shape : Shape) (a : Answer) → IsUp (before (event.Reshape id shape) a) w.terminal
  reshape_up id shape answer.Ok = draws_up (seen p) w.terminal h.up p.table (event.Reshape id shape) h.well.rows tt
  reshape_up id shape (answer.No why) = h.up

  remove_up : (id : ℕ) (a : Answer) → IsUp (before (event.Remove id) a) w.terminal
  remove_up id answer.Ok = draws_up (seen p) w.terminal h.up p.table (event.Remove id) h.well.rows tt
  remove_up id (answer.No why) = h.up

  add_up : (x : Node) (a : Answer) → IsUp (before (event.Add x) a) w.terminal
  add_up x answer.Ok = draws_up (seen p) w.terminal h.up p.table (event.Add x) h.well.rows tt
  add_up x (answer.No why) = h.up

  change_up : (a : Answer) → IsUp (before event.Change a) w.terminal
  change_up answer.Ok = draws_up (seen p) w.terminal h.up p.table event.Change h.well.rows tt
  change_up (answer.No why) = h.up

  release_up : (a : Answer) → IsUp (before event.Release a) w.terminal
  release_up answer.Ok = draws_up (seen p) w.terminal h.up p.table event.Release h.well.rows tt
  release_up (answer.No why) = h.up

  rekey_second_up : (a : Answer) → IsUp (before event.RekeySecond a) w.terminal
  rekey_second_up answer.Ok = draws_up (seen p) w.terminal h.up p.table event.RekeySecond h.well.rows tt
  rekey_second_up (answer.No why) = h.up

  rekey_master_up : (root : List ℕ) (a : Answer) → IsUp (before (event.RekeyMaster root) a) w.terminal
  rekey_master_up root answer.Ok = draws_up (seen p) w.terminal h.up p.table (event.RekeyMaster root) h.well.rows tt
  rekey_master_up root (answer.No why) = h.up

  -- a new bearer is drawn where no command is open and the table does not have it: then the terminal does not
  bearer_up : (id : ℕ) (n : SnLen) (first : ℕ) (shape : Shape) (threshold policy : ℕ) (q : Option Refusal)
      → first_refusal (command_refusals (length c.policies) w.master.proc (event.Bearer id n first shape threshold policy)) ≡ q
      → IsUp (before (event.Bearer id n first shape threshold policy) (commanded c w.master (commands_unless w.master.proc (event.Bearer id n first shape threshold policy) q)).1.answer) w.terminal
  bearer_up id n first shape threshold policy (Some why) some = h.up
  bearer_up id n first shape threshold policy None none =
      let one = not_first (is_some w.master.proc.command) refusal.Busy _ none in
      let free = none_of w.master.proc.command one.0 in
      let two = not_first (has_bearer w.master.proc id) refusal.BearerThere _ one.1 in
      draws_up (seen p) w.terminal h.up p.table (event.Bearer id n first shape threshold policy) h.well.rows (free_of w id h.agreed free (no_row free two.0))
    where
      no_row : w.master.proc.command ≡ None → has_bearer w.master.proc id ≡ false → row w.master.proc.table id ≡ None
      no_row free has = by (row w.master.proc.table id) (ap (λ o. is_some (row w.master.proc.table id) && not (is_unsettled id o)) (sym free) ∙ has)
        where
          by : (o : Option Row) → (is_some o && true) ≡ false → o ≡ None
          by None no' = refl
          by (Some r) no' = let bad : true ≡ false = no' in cc

  -- ---- events of the terminal

  submission_up : (id : ℕ) (payload : List ℕ) (o : Option TerminalHalf) → held id w.terminal.halves ≡ o
      → UpAfter (event.Submit id Ul payload) (let done = submitted_there c w.terminal id payload o in (record w { terminal = done.0 }, done.1))
  submission_up id payload o at =
      let done = submitted_there c w.terminal id payload o in
      plain_up (event.Submit id Ul payload) done.1 p done.0 (plain o) h.well (subst (λ s. IsUp s done.0) (same done.1.answer) (submitted_up c (seen p) w.terminal h.up id payload o at))
    where
      plain : (o : Option TerminalHalf) → ArePlain (submitted_there c w.terminal id payload o).1.notes
      plain None = tt
      plain (Some x) = tt

      same : (a : Answer) → seen_after c (seen p) w.terminal h.up id payload a ≡ before (event.Submit id Ul payload) a
      same answer.Ok = refl
      same (answer.No why) = refl

  report_up : (id : ℕ) (o : Option TerminalHalf) → held id w.terminal.halves ≡ o
      → UpAfter (event.Report T id) (let done = reported_there c w.terminal id o in (record w { terminal = done.0 }, done.1))
  report_up id o at =
      let done = reported_there c w.terminal id o in
      plain_up (event.Report T id) done.1 p done.0 (plain o) h.well (subst (λ s. IsUp s done.0) (same done.1.answer) (reported_up c (seen p) w.terminal h.up id o at))
    where
      plain : (o : Option TerminalHalf) → ArePlain (reported_there c w.terminal id o).1.notes
      plain None = tt
      plain (Some x) = tt

      same : (a : Answer) → seen p ≡ before (event.Report T id) a
      same answer.Ok = refl
      same (answer.No why) = refl

  failure_up : (o : Option Node) → UpAfter event.ScgFail (let done = scg_fails w.terminal o in (record w { terminal = done.0 }, done.1))
  failure_up None = plain_up event.ScgFail (scg_fails w.terminal None).1 p w.terminal tt h.well h.up
  failure_up (Some x) = plain_up event.ScgFail (scg_fails w.terminal (Some x)).1 p (scg_fails w.terminal (Some x)).0 tt h.well (failed_up (seen p) w.terminal h.up)

  idle_up : (e : Event) → IsStill e → UpAfter e (w, (accepted (w.terminal, quiet)).1)
  idle_up e still = plain_up e (accepted (w.terminal, quiet)).1 p w.terminal tt h.well (still_up e still answer.Ok)

  -- ---- a flight is given

  module _ (l : LinkId) (i : ℕ) (f : Flight) (at : slice_get (flights_on l w.links) i ≡ Some f) where
    pub found : find_at l i p.standing ≡ Some (l, f)
    found = found_standing p w h.stands l i ∙ ap (option_map (λ x. (l, x))) at

    -- what the past sees of it
    pub given_is : before (event.Step l i) answer.Ok ≡ with_flight f (seen p)
    given_is = ap (λ o. with_given o (seen p)) found

    -- a plan is on the link to the terminal
    pub order_is : orders f ≡ true → (l ≡ link M T Ctl) × IsDrawnOrder (view p) (order_in f)
    order_is is = let x = order_at (IsOrderOn (view p) l) i (flights_on l w.links) f (h.orders l) at is in (same_link l (link M T Ctl) x.0, x.1)

    elsewhere : (x : Node) → l.to ≡ x → is_same_node x T ≡ false → orders f ≡ false
    elsewhere x to apart =
        elim (cases_Bool (orders f)) [
          | inl yes' ↦
              let same : l.to ≡ T = ap (λ (k : LinkId). k.to) (order_is yes').0 in
              absurd (let bad : true ≡ false = sym (ap (λ y. is_same_node y T) (sym to ∙ same)) ∙ apart in cc)
          | inr no' ↦ no'
        ]

    given_still : (x : Node) → l.to ≡ x → is_same_node x T ≡ false → IsUp (before (event.Step l i) answer.Ok) w.terminal
    given_still x to apart = subst (λ s. IsUp s w.terminal) (sym (given_is ∙ unseen_flight f (seen p) (elsewhere x to apart))) h.up

    no_plan : orders f ≡ false → UpAfter (event.Step l i) (takes c w (Come l f) T)
    no_plan no' =
        let done = terminal_takes c w.terminal l.from f l.class in
        let does = does_flight c (seen p) w.terminal h.up l.from f l.class no' in
        subst (λ s. IsUp s done.0) (sym (after_freed p (event.Step l i) (accepted done).1 does.notes ∙ ap (λ s. fold with_note s done.1.notes) (given_is ∙ unseen_flight f (seen p) no'))) does.up

  -- a plan comes to the terminal
  plan_comes : (q : Plan) (key : List ℕ) → slice_get (flights_on (link M T Ctl) w.links) 0 ≡ Some (flight.Ctl (rec.Reconf q key)) → IsDrawnOrder (view p) (Some (q, key))
      → UpAfter (event.Step (link M T Ctl) 0) (takes c w (Come (link M T Ctl) (flight.Ctl (rec.Reconf q key))) T)
  plan_comes q key at drawn =
      let l = link M T Ctl in
      let x = taken_next p w q key h drawn.0 drawn.1 at in
      let takes' = not (list_any (λ i. not (is_takable w.terminal i)) q.items) in
      let done = plan_taken c key q w.terminal takes' in
      subst (λ s. IsUp s done.0)
      (sym (after_set p (event.Step l 0) (accepted done).1 (plan_notes c key q w.terminal takes') ∙ ap (λ s. fold with_note s done.1.notes) (given_is l 0 (flight.Ctl (rec.Reconf q key)) at)))
      (plan_up c key q x.qs (seen p) w.terminal h.up x.last takes' refl x.takes).up

  order_comes : (l : LinkId) (i : ℕ) (q : Plan) (key : List ℕ) → slice_get (flights_on l w.links) i ≡ Some (flight.Ctl (rec.Reconf q key)) → (is_ordered l.class && nat_lt 0 i) ≡ false
      → UpAfter (event.Step l i) (takes c w (Come l (flight.Ctl (rec.Reconf q key))) T)
  order_comes l i q key at first =
      let f = flight.Ctl (rec.Reconf q key) in
      let x = order_is l i f at refl in
      let front : i ≡ 0 = zero_is i (ap (λ (k : LinkId). is_ordered k.class && nat_lt 0 i) (sym x.0) ∙ first) in
      subst (λ j. UpAfter (event.Step l j) (takes c w (Come l f) T)) (sym front)
      (subst (λ k. UpAfter (event.Step k 0) (takes c w (Come k f) T)) (sym x.0)
      (plan_comes q key (subst (λ k. slice_get (flights_on k w.links) 0 ≡ Some f) x.0 (subst (λ j. slice_get (flights_on l w.links) j ≡ Some f) front at)) x.1))

  -- any flight comes to the terminal
  to_terminal : (l : LinkId) (i : ℕ) (f : Flight) → slice_get (flights_on l w.links) i ≡ Some f → (is_ordered l.class && nat_lt 0 i) ≡ false → UpAfter (event.Step l i) (takes c w (Come l f) T)
  to_terminal l i (flight.Ctl (rec.Reconf q key)) at first = order_comes l i q key at first
  to_terminal l i (flight.Ctl (rec.Rcomp g)) at first = no_plan l i (flight.Ctl (rec.Rcomp g)) at refl
  to_terminal l i (flight.Ctl (rec.Scgf failed)) at first = no_plan l i (flight.Ctl (rec.Scgf failed)) at refl
  to_terminal l i (flight.Ctl (rec.Recov id)) at first = no_plan l i (flight.Ctl (rec.Recov id)) at refl
  to_terminal l i (flight.Ctl (rec.Recovd id)) at first = no_plan l i (flight.Ctl (rec.Recovd id)) at refl
  to_terminal l i (flight.Ctl (rec.Addreq plan key)) at first = no_plan l i (flight.Ctl (rec.Addreq plan key)) at refl
  to_terminal l i (flight.Ctl (rec.Addack g)) at first = no_plan l i (flight.Ctl (rec.Addack g)) at refl
  to_terminal l i (flight.Ctl (rec.Addrej g)) at first = no_plan l i (flight.Ctl (rec.Addrej g)) at refl
  to_terminal l i (flight.Ctl (rec.Modreq plan key)) at first = no_plan l i (flight.Ctl (rec.Modreq plan key)) at refl
  to_terminal l i (flight.Ctl (rec.Modack g)) at first = no_plan l i (flight.Ctl (rec.Modack g)) at refl
  to_terminal l i (flight.Ctl (rec.Modrej g)) at first = no_plan l i (flight.Ctl (rec.Modrej g)) at refl
  to_terminal l i (flight.Ctl (rec.Recfg g)) at first = no_plan l i (flight.Ctl (rec.Recfg g)) at refl
  to_terminal l i (flight.Ctl (rec.Relreq plan)) at first = no_plan l i (flight.Ctl (rec.Relreq plan)) at refl
  to_terminal l i (flight.Ctl (rec.Relack g)) at first = no_plan l i (flight.Ctl (rec.Relack g)) at refl
  to_terminal l i (flight.Ctl (rec.Relrej g)) at first = no_plan l i (flight.Ctl (rec.Relrej g)) at refl
  to_terminal l i (flight.Ctl (rec.Uecr g)) at first = no_plan l i (flight.Ctl (rec.Uecr g)) at refl
  to_terminal l i (flight.Ctl (rec.Snst status)) at first = no_plan l i (flight.Ctl (rec.Snst status)) at refl
  to_terminal l i (flight.Ctl (rec.Moved g id)) at first = no_plan l i (flight.Ctl (rec.Moved g id)) at refl
  to_terminal l i (flight.Ctl (rec.Scgn id g)) at first = no_plan l i (flight.Ctl (rec.Scgn id g)) at refl
  to_terminal l i (flight.Ctl rec.Modrqd) at first = no_plan l i (flight.Ctl rec.Modrqd) at refl
  to_terminal l i (flight.Ctl (rec.Modcnf g)) at first = no_plan l i (flight.Ctl (rec.Modcnf g)) at refl
  to_terminal l i (flight.Ctl (rec.Modref word)) at first = no_plan l i (flight.Ctl (rec.Modref word)) at refl
  to_terminal l i (flight.Ctl rec.Chgrqd) at first = no_plan l i (flight.Ctl rec.Chgrqd) at refl
  to_terminal l i (flight.Ctl (rec.Chgcnf plan)) at first = no_plan l i (flight.Ctl (rec.Chgcnf plan)) at refl
  to_terminal l i (flight.Ctl (rec.Chgref word)) at first = no_plan l i (flight.Ctl (rec.Chgref word)) at refl
  to_terminal l i (flight.Ctl rec.Relrqd) at first = no_plan l i (flight.Ctl rec.Relrqd) at refl
  to_terminal l i (flight.Ctl (rec.Relcnf plan)) at first = no_plan l i (flight.Ctl (rec.Relcnf plan)) at refl
  to_terminal l i (flight.Air id g num tag pdu) at first = no_plan l i (flight.Air id g num tag pdu) at refl
  to_terminal l i (flight.Ack id g num) at first = no_plan l i (flight.Ack id g num) at refl
  to_terminal l i (flight.Tun tag packet) at first = no_plan l i (flight.Tun tag packet) at refl
  to_terminal l i (flight.Sdu id g payload) at first = no_plan l i (flight.Sdu id g payload) at refl
  to_terminal l i (flight.End id g) at first = no_plan l i (flight.End id g) at refl
  to_terminal l i (flight.Told id g count) at first = no_plan l i (flight.Told id g count) at refl

  given_up : (l : LinkId) (i : ℕ) (f : Flight) → slice_get (flights_on l w.links) i ≡ Some f → (is_ordered l.class && nat_lt 0 i) ≡ false → (x : Node) → l.to ≡ x → UpAfter (event.Step l i) (takes c w (Come l f) x)
  given_up l i f at first T to = to_terminal l i f at first
  given_up l i f at first M to = at_master (event.Step l i) (Come l f) (given_still l i f at M to refl)
  given_up l i f at first A to = at_a (event.Step l i) (Come l f) (given_still l i f at A to refl)
  given_up l i f at first B to = at_b (event.Step l i) (Come l f) (given_still l i f at B to refl)

  step_up : (l : LinkId) (i : ℕ) (o : Option Flight) → slice_get (flights_on l w.links) i ≡ o → UpAfter (event.Step l i) (carried_on c w (step_of w l i o))
  step_up l i None at = refused_up (event.Step l i) refusal.NoFlight
  step_up l i (Some f) at =
      elim (cases_Bool (is_ordered l.class && nat_lt 0 i)) [
        | inl behind ↦ rw behind (refused_up (event.Step l i) refusal.NotFirst)
        | inr first ↦ elim (cases_Bool (is_aged_for (node_at w l.to) (weight f))) [
          | inl aged ↦ rw (first, aged) (refused_up (event.Step l i) refusal.Aged)
          | inr fresh ↦ rw (first, fresh) (given_up l i f at first l.to refl)
        ]
      ]

  loss_up : (l : LinkId) (i : ℕ) (in_it : Bool) (o : Option Flight) → UpAfter (event.Lose l i) (carried_on c w (if in_it then loss_of o else refused_for refusal.NotTunnel))
  loss_up l i false o = refused_up (event.Lose l i) refusal.NotTunnel
  loss_up l i true None = refused_up (event.Lose l i) refusal.NoFlight
  loss_up l i true (Some f) = plain_up (event.Lose l i) (carried_on c w (loss_of (Some f))).1 p w.terminal tt h.well h.up

  copy_up : (l : LinkId) (i : ℕ) (in_it : Bool) (o : Option Flight) → UpAfter (event.Again l i) (carried_on c w (if in_it then copy_of l o else refused_for refusal.NotTunnel))
  copy_up l i false o = refused_up (event.Again l i) refusal.NotTunnel
  copy_up l i true None = refused_up (event.Again l i) refusal.NoFlight
  copy_up l i true (Some f) = plain_up (event.Again l i) (carried_on c w (copy_of l (Some f))).1 p w.terminal tt h.well h.up

  -- any event
  pub event_up : (e : Event) → UpAfter e (carried_on c w (happening w e))
  event_up (event.Bearer id n first shape threshold policy) =
      let e = event.Bearer id n first shape threshold policy in at_master e (Cmd e) (bearer_up id n first shape threshold policy (first_refusal (command_refusals (length c.policies) w.master.proc e)) refl)
  event_up (event.Reshape id shape) = let e = event.Reshape id shape in at_master e (Cmd e) (reshape_up id shape (master_step c w.master (Cmd e)).1.answer)
  event_up (event.Remove id) = let e = event.Remove id in at_master e (Cmd e) (remove_up id (master_step c w.master (Cmd e)).1.answer)
  event_up (event.Add x) = let e = event.Add x in at_master e (Cmd e) (add_up x (master_step c w.master (Cmd e)).1.answer)
  event_up event.Change = at_master event.Change (Cmd event.Change) (change_up (master_step c w.master (Cmd event.Change)).1.answer)
  event_up event.Release = at_master event.Release (Cmd event.Release) (release_up (master_step c w.master (Cmd event.Release)).1.answer)
  event_up event.RekeySecond = at_master event.RekeySecond (Cmd event.RekeySecond) (rekey_second_up (master_step c w.master (Cmd event.RekeySecond)).1.answer)
  event_up (event.RekeyMaster root) = let e = event.RekeyMaster root in at_master e (Cmd e) (rekey_master_up root (master_step c w.master (Cmd e)).1.answer)
  event_up (event.Recover id) = let e = event.Recover id in at_master e (Cmd e) (still_up e still (master_step c w.master (Cmd e)).1.answer)
    where
      still : IsStill (event.Recover id)
      still answer.Ok = refl
      still (answer.No why) = refl
  event_up (event.Report T id) = report_up id (held id w.terminal.halves) refl
  event_up (event.Report M id) = let e = event.Report M id in at_master e (Cmd e) (still_up e still (master_step c w.master (Cmd e)).1.answer)
    where
      still : IsStill (event.Report M id)
      still answer.Ok = refl
      still (answer.No why) = refl
  event_up (event.Report A id) = let e = event.Report A id in at_a e (Cmd e) (still_up e still (second_step c w.a (Cmd e)).1.answer)
    where
      still : IsStill (event.Report A id)
      still answer.Ok = refl
      still (answer.No why) = refl
  event_up (event.Report B id) = let e = event.Report B id in at_b e (Cmd e) (still_up e still (second_step c w.b (Cmd e)).1.answer)
    where
      still : IsStill (event.Report B id)
      still answer.Ok = refl
      still (answer.No why) = refl
  event_up (event.Deny x on) = at_other (event.Deny x on) still x (Cmd (event.Deny x on)) (idle_up (event.Deny x on) still)
    where
      still : IsStill (event.Deny x on)
      still answer.Ok = refl
      still (answer.No why) = refl
  event_up (event.Ask x what) = at_other (event.Ask x what) still x (Cmd (event.Ask x what)) (idle_up (event.Ask x what) still)
    where
      still : IsStill (event.Ask x what)
      still answer.Ok = refl
      still (answer.No why) = refl
  event_up event.ScgFail = failure_up w.terminal.sec
  event_up (event.Submit id Ul payload) = submission_up id payload (held id w.terminal.halves) refl
  event_up (event.Submit id Dl payload) = let e = event.Submit id Dl payload in at_master e (Cmd e) (still_up e still (master_step c w.master (Cmd e)).1.answer)
    where
      still : IsStill (event.Submit id Dl payload)
      still answer.Ok = refl
      still (answer.No why) = refl
  event_up (event.Step l i) = step_up l i (slice_get (flights_on l w.links) i) refl
  event_up (event.Lose l i) = loss_up l i (is_tunnel l.class) (slice_get (flights_on l w.links) i)
  event_up (event.Again l i) = copy_up l i (is_tunnel l.class) (slice_get (flights_on l w.links) i)
