-- Each note of what the terminal has of a bearer stands in its place, in each event of a run.
use Rattle.std.proofs.Common.{ℕ, ◌≡◌, ◌+◌, ◌<◌, ◌==◌, ◌&&◌, ◌++◌, Bool, true, false, not, List, [], ◌∷◌, Option, Some, None, slice_get, refl, sym, ap, subst, ◌∙◌, inl, inr, arith}
use Rattle.std.specs.Prelude.{filter_map, if◌then◌else◌, nat_lt}
use Rattle.std.specs.List.{AllByRecursion, list_any}
use Rattle.std.proofs.lemmas.Bool.{cases_Bool, ne_eqb}
use Rattle.dc_base.specs.Links.{is_ordered, is_tunnel, link}
use Rattle.dc_base.specs.declared.answers.Answer.TheVariants as answer
use Rattle.dc_base.specs.declared.answers.Refusal.{Refusal}
use Rattle.dc_base.specs.declared.answers.Refusal.TheVariants as refusal
use Rattle.dc_base.specs.declared.events.Event.{Event}
use Rattle.dc_base.specs.declared.events.Event.TheVariants as event
use Rattle.dc_base.specs.declared.events.Header.{Header}
use Rattle.dc_base.specs.declared.flights.Flight.{Flight}
use Rattle.dc_base.specs.declared.flights.Flight.TheVariants as flight
use Rattle.dc_base.specs.declared.nodes.Class.TheVariants.{Ctl}
use Rattle.dc_base.specs.declared.nodes.Dir.TheVariants.{Dl, Ul}
use Rattle.dc_base.specs.declared.nodes.LinkId.{LinkId}
use Rattle.dc_base.specs.declared.nodes.Node.{Node}
use Rattle.dc_base.specs.declared.nodes.Node.TheVariants.{A, B, M, T}
use Rattle.dc_base.specs.declared.records.Plan.{Plan}
use Rattle.dc_base.specs.declared.records.Rec.{Rec}
use Rattle.dc_base.specs.declared.records.Rec.TheVariants as rec
use Rattle.claims.specs.Claim.{Each}
use Rattle.claims.specs.Judged.{judged}
use Rattle.claims.specs.Links.{find_at}
use Rattle.claims.specs.Names.{claim, placed}
use Rattle.claims.specs.Noted.{after}
use Rattle.claims.specs.Past.{Past, new_past}
use Rattle.node_rules.specs.Choices.{Choices, Send}
use Rattle.node_rules.specs.Effects.{accepted, quiet}
use Rattle.node_rules.specs.Flights.{weight}
use Rattle.node_rules.specs.Held.{held}
use Rattle.node_rules.specs.Lines.{lines_of}
use Rattle.node_rules.specs.Readers.{is_aged_for}
use Rattle.node_rules.specs.Run.{carried_on, copy_of, entries_from, happening, loss_of, node_at, refused_for, step_of, takes, world_after, world_step}
use Rattle.node_rules.specs.Terminal.{is_takable, plan_taken, reported_there, scg_fails, submitted_there, terminal_takes}
use Rattle.node_rules.specs.TerminalHalf.{TerminalHalf}
use Rattle.node_rules.specs.World.{World, flights_on, new_world}
use Rattle.node_rules.specs.declared.inputs.Input.{Input}
use Rattle.node_rules.specs.declared.inputs.Input.TheVariants.{Cmd, Come}
use Rattle.node_rules.specs.declared.inputs.Outcome.{Outcome}
use Rattle.run_control.specs.Links.{record_of, records_on}
use Rattle.run_control.specs.Sound.{AddsSecond}
use Rattle.run_generations.specs.Ahead.{HalvesBelow, IsAhead, sent_in}
use Rattle.run_generations.specs.Newer.{plan_generation}
use Rattle.run_generations.proofs.Runs.{always_ahead, new_when_taken}
use Rattle.run_table.specs.Words.{orders}
use Rattle.run_words.specs.Parts.{at_lines}
use Rattle.run_words.proofs.Runs.{each_if}
use Rattle.run_uplinks.specs.Seen.{seen}
use Rattle.run_uplinks.proofs.Events.{found, given_is, order_is, zero_is}
use Rattle.run_uplinks.proofs.Held.{Holds, taken_next}
use Rattle.run_uplinks.proofs.MasterNotes.{master_plain}
use Rattle.run_uplinks.proofs.Runs.{holds_new, holds_next}
use Rattle.run_uplinks.proofs.SecondNotes.{second_plain}
use Rattle.run_uplinks.proofs.Seeing.{judged_seen}
use Rattle.run_placed.specs.Lines.{is_terminal_note_line}
use Rattle.run_placed.proofs.Beside.{ArePlaced, NotesBeside, all_beside, outcome_placed, takes_beside}
use Rattle.run_placed.proofs.Settings.{Gives}
use Rattle.run_placed.proofs.Taken.{plan_placed}

-- ---- a plan is newer than what the terminal has

front_is : (fs : List Flight) (r : Rec) → slice_get fs 0 ≡ Some (flight.Ctl r) → (rs : List Rec) × (filter_map record_of fs ≡ r ∷ rs)
front_is [] r at = absurd (let bad : None ≡ Some (flight.Ctl r) = at in cc)
front_is (f ∷ fs) r at = let same : f ≡ flight.Ctl r = cc in (filter_map record_of fs, ap (λ x. filter_map record_of (x ∷ fs)) same)

generation_is : (q : Plan) (key : List ℕ) → 0 < q.g → plan_generation (rec.Reconf q key) ≡ q.g ∷ []
generation_is q key some = let is : (q.g == 0) ≡ false = ne_eqb q.g 0 (λ same. omega (arith, some, same)) in rw is refl

-- ---- an event

module _ (c : Choices) (w : World) (p : Past) (h : Holds p w) (sent : List Send) (ahead : IsAhead T w sent) where
  abbrev PlacedAfter : Event → World × Outcome → Type 0
  PlacedAfter e done = ArePlaced (judged e done.1.answer p) (lines_of done.1)

  beside : (e : Event) (done : World × Outcome) → NotesBeside done.1.notes → PlacedAfter e done
  beside e done notes = outcome_placed done.1 (judged e done.1.answer p) notes

  at_master : (e : Event) (i : Input) → PlacedAfter e (takes c w i M)
  at_master e i = beside e (takes c w i M) (all_beside (takes c w i M).1.notes (master_plain c w.master i))

  at_a : (e : Event) (i : Input) → PlacedAfter e (takes c w i A)
  at_a e i = beside e (takes c w i A) (all_beside (takes c w i A).1.notes (second_plain c w.a i))

  at_b : (e : Event) (i : Input) → PlacedAfter e (takes c w i B)
  at_b e i = beside e (takes c w i B) (all_beside (takes c w i B).1.notes (second_plain c w.b i))

  refused_placed : (e : Event) (why : Refusal) → PlacedAfter e (carried_on c w (refused_for why))
  refused_placed e why = beside e (carried_on c w (refused_for why)) tt

  -- ---- a flight comes to the terminal

  older : (q : Plan) (key : List ℕ) → slice_get (flights_on (link M T Ctl) w.links) 0 ≡ Some (flight.Ctl (rec.Reconf q key)) → 0 < q.g → HalvesBelow q.g w.terminal
  older q key at some =
      let front = front_is (flights_on (link M T Ctl) w.links) (rec.Reconf q key) at in
      (new_when_taken T w sent (rec.Reconf q key) front.0 q.g ahead front.1 (generation_is q key some)).0

  plan_comes : (q : Plan) (key : List ℕ) → slice_get (flights_on (link M T Ctl) w.links) 0 ≡ Some (flight.Ctl (rec.Reconf q key))
      → PlacedAfter (event.Step (link M T Ctl) 0) (takes c w (Come (link M T Ctl) (flight.Ctl (rec.Reconf q key))) T)
  plan_comes q key at =
      let l = link M T Ctl in
      let f = flight.Ctl (rec.Reconf q key) in
      let drawn = (order_is c w p h l 0 f at refl).1 in
      let x = taken_next p w q key h drawn.0 drawn.1 at in
      let e = event.Step l 0 in
      let r = judged e answer.Ok p in
      let gives : Gives l q key r = rw (found c w p h l 0 f at) refl in
      let same = judged_seen e answer.Ok p ∙ given_is c w p h l 0 f at in
      plan_placed c q p w h.up (older q key at) l refl key x.qs x.last (not (list_any (λ i. not (is_takable w.terminal i)) q.items)) refl x.takes r gives same

  order_comes : (l : LinkId) (i : ℕ) (q : Plan) (key : List ℕ) → slice_get (flights_on l w.links) i ≡ Some (flight.Ctl (rec.Reconf q key)) → (is_ordered l.class && nat_lt 0 i) ≡ false
      → PlacedAfter (event.Step l i) (takes c w (Come l (flight.Ctl (rec.Reconf q key))) T)
  order_comes l i q key at first =
      let f = flight.Ctl (rec.Reconf q key) in
      let x = order_is c w p h l i f at refl in
      let front : i ≡ 0 = zero_is i (ap (λ (k : LinkId). is_ordered k.class && nat_lt 0 i) (sym x.0) ∙ first) in
      subst (λ j. PlacedAfter (event.Step l j) (takes c w (Come l f) T)) (sym front)
      (subst (λ k. PlacedAfter (event.Step k 0) (takes c w (Come k f) T)) (sym x.0)
      (plan_comes q key (subst (λ k. slice_get (flights_on k w.links) 0 ≡ Some f) x.0 (subst (λ j. slice_get (flights_on l w.links) j ≡ Some f) front at))))

  other_comes : (l : LinkId) (i : ℕ) (f : Flight) → orders f ≡ false → PlacedAfter (event.Step l i) (takes c w (Come l f) T)
  other_comes l i f other = beside (event.Step l i) (takes c w (Come l f) T) (takes_beside c w.terminal l.from f l.class other)

  to_terminal : (l : LinkId) (i : ℕ) (f : Flight) → slice_get (flights_on l w.links) i ≡ Some f → (is_ordered l.class && nat_lt 0 i) ≡ false → PlacedAfter (event.Step l i) (takes c w (Come l f) T)
  to_terminal l i f at first = by f refl
    where
      by : (g : Flight) → f ≡ g → PlacedAfter (event.Step l i) (takes c w (Come l g) T)
      by (flight.Ctl (rec.Reconf q key)) is = order_comes l i q key (at ∙ ap Some is) first
      by (flight.Ctl (rec.Rcomp g)) is = other_comes l i (flight.Ctl (rec.Rcomp g)) refl
      by (flight.Ctl (rec.Scgf failed)) is = other_comes l i (flight.Ctl (rec.Scgf failed)) refl
      by (flight.Ctl (rec.Recov id)) is = other_comes l i (flight.Ctl (rec.Recov id)) refl
      by (flight.Ctl (rec.Recovd id)) is = other_comes l i (flight.Ctl (rec.Recovd id)) refl
      by (flight.Ctl (rec.Addreq plan key)) is = other_comes l i (flight.Ctl (rec.Addreq plan key)) refl
      by (flight.Ctl (rec.Addack g)) is = other_comes l i (flight.Ctl (rec.Addack g)) refl
      by (flight.Ctl (rec.Addrej g)) is = other_comes l i (flight.Ctl (rec.Addrej g)) refl
      by (flight.Ctl (rec.Modreq plan key)) is = other_comes l i (flight.Ctl (rec.Modreq plan key)) refl
      by (flight.Ctl (rec.Modack g)) is = other_comes l i (flight.Ctl (rec.Modack g)) refl
      by (flight.Ctl (rec.Modrej g)) is = other_comes l i (flight.Ctl (rec.Modrej g)) refl
      by (flight.Ctl (rec.Recfg g)) is = other_comes l i (flight.Ctl (rec.Recfg g)) refl
      by (flight.Ctl (rec.Relreq plan)) is = other_comes l i (flight.Ctl (rec.Relreq plan)) refl
      by (flight.Ctl (rec.Relack g)) is = other_comes l i (flight.Ctl (rec.Relack g)) refl
      by (flight.Ctl (rec.Relrej g)) is = other_comes l i (flight.Ctl (rec.Relrej g)) refl
      by (flight.Ctl (rec.Uecr g)) is = other_comes l i (flight.Ctl (rec.Uecr g)) refl
      by (flight.Ctl (rec.Snst status)) is = other_comes l i (flight.Ctl (rec.Snst status)) refl
      by (flight.Ctl (rec.Moved g id)) is = other_comes l i (flight.Ctl (rec.Moved g id)) refl
      by (flight.Ctl (rec.Scgn id g)) is = other_comes l i (flight.Ctl (rec.Scgn id g)) refl
      by (flight.Ctl rec.Modrqd) is = other_comes l i (flight.Ctl rec.Modrqd) refl
      by (flight.Ctl (rec.Modcnf g)) is = other_comes l i (flight.Ctl (rec.Modcnf g)) refl
      by (flight.Ctl (rec.Modref word)) is = other_comes l i (flight.Ctl (rec.Modref word)) refl
      by (flight.Ctl rec.Chgrqd) is = other_comes l i (flight.Ctl rec.Chgrqd) refl
      by (flight.Ctl (rec.Chgcnf plan)) is = other_comes l i (flight.Ctl (rec.Chgcnf plan)) refl
      by (flight.Ctl (rec.Chgref word)) is = other_comes l i (flight.Ctl (rec.Chgref word)) refl
      by (flight.Ctl rec.Relrqd) is = other_comes l i (flight.Ctl rec.Relrqd) refl
      by (flight.Ctl (rec.Relcnf plan)) is = other_comes l i (flight.Ctl (rec.Relcnf plan)) refl
      by (flight.Air id g num tag pdu) is = other_comes l i (flight.Air id g num tag pdu) refl
      by (flight.Ack id g num) is = other_comes l i (flight.Ack id g num) refl
      by (flight.Tun tag packet) is = other_comes l i (flight.Tun tag packet) refl
      by (flight.Sdu id g payload) is = other_comes l i (flight.Sdu id g payload) refl
      by (flight.End id g) is = other_comes l i (flight.End id g) refl
      by (flight.Told id g count) is = other_comes l i (flight.Told id g count) refl

  given_placed : (l : LinkId) (i : ℕ) (f : Flight) → slice_get (flights_on l w.links) i ≡ Some f → (is_ordered l.class && nat_lt 0 i) ≡ false → (x : Node) → PlacedAfter (event.Step l i) (takes c w (Come l f) x)
  given_placed l i f at first T = to_terminal l i f at first
  given_placed l i f at first M = at_master (event.Step l i) (Come l f)
  given_placed l i f at first A = at_a (event.Step l i) (Come l f)
  given_placed l i f at first B = at_b (event.Step l i) (Come l f)

  step_placed : (l : LinkId) (i : ℕ) (o : Option Flight) → slice_get (flights_on l w.links) i ≡ o → PlacedAfter (event.Step l i) (carried_on c w (step_of w l i o))
  step_placed l i None at = refused_placed (event.Step l i) refusal.NoFlight
  step_placed l i (Some f) at =
      elim (cases_Bool (is_ordered l.class && nat_lt 0 i)) [
        | inl behind ↦ rw behind (refused_placed (event.Step l i) refusal.NotFirst)
        | inr first ↦ elim (cases_Bool (is_aged_for (node_at w l.to) (weight f))) [
          | inl aged ↦ rw (first, aged) (refused_placed (event.Step l i) refusal.Aged)
          | inr fresh ↦ rw (first, fresh) (given_placed l i f at first l.to)
        ]
      ]

  loss_placed : (e : Event) (in_it : Bool) (o : Option Flight) → PlacedAfter e (carried_on c w (if in_it then loss_of o else refused_for refusal.NotTunnel))
  loss_placed e false o = refused_placed e refusal.NotTunnel
  loss_placed e true None = refused_placed e refusal.NoFlight
  loss_placed e true (Some f) = beside e (carried_on c w (loss_of (Some f))) tt

  copy_placed : (e : Event) (l : LinkId) (in_it : Bool) (o : Option Flight) → PlacedAfter e (carried_on c w (if in_it then copy_of l o else refused_for refusal.NotTunnel))
  copy_placed e l false o = refused_placed e refusal.NotTunnel
  copy_placed e l true None = refused_placed e refusal.NoFlight
  copy_placed e l true (Some f) = beside e (carried_on c w (copy_of l (Some f))) tt

  -- events of the terminal
  submission_beside : (id : ℕ) (payload : List ℕ) (o : Option TerminalHalf) → NotesBeside (submitted_there c w.terminal id payload o).1.notes
  submission_beside id payload None = tt
  submission_beside id payload (Some x) = tt

  report_beside : (id : ℕ) (o : Option TerminalHalf) → NotesBeside (reported_there c w.terminal id o).1.notes
  report_beside id None = tt
  report_beside id (Some x) = tt

  failure_beside : (o : Option Node) → NotesBeside (scg_fails w.terminal o).1.notes
  failure_beside None = tt
  failure_beside (Some x) = tt

  other : (e : Event) (x : Node) → PlacedAfter e (takes c w (Cmd e) T) → PlacedAfter e (takes c w (Cmd e) x)
  other e T here = here
  other e M here = at_master e (Cmd e)
  other e A here = at_a e (Cmd e)
  other e B here = at_b e (Cmd e)

  event_placed : (e : Event) → PlacedAfter e (carried_on c w (happening w e))
  event_placed (event.Submit id Ul payload) =
      let e = event.Submit id Ul payload in beside e (takes c w (Cmd e) T) (submission_beside id payload (held id w.terminal.halves))
  event_placed (event.Submit id Dl payload) = at_master (event.Submit id Dl payload) (Cmd (event.Submit id Dl payload))
  event_placed (event.Report x id) = let e = event.Report x id in other e x (beside e (takes c w (Cmd e) T) (report_beside id (held id w.terminal.halves)))
  event_placed (event.Deny x on) = let e = event.Deny x on in other e x (beside e (takes c w (Cmd e) T) tt)
  event_placed (event.Ask x what) = let e = event.Ask x what in other e x (beside e (takes c w (Cmd e) T) tt)
  event_placed event.ScgFail = beside event.ScgFail (takes c w (Cmd event.ScgFail) T) (failure_beside w.terminal.sec)
  event_placed (event.Step l i) = step_placed l i (slice_get (flights_on l w.links) i) refl
  event_placed (event.Lose l i) = loss_placed (event.Lose l i) (is_tunnel l.class) (slice_get (flights_on l w.links) i)
  event_placed (event.Again l i) = copy_placed (event.Again l i) l (is_tunnel l.class) (slice_get (flights_on l w.links) i)
  event_placed (event.Bearer id n first shape threshold policy) = let e = event.Bearer id n first shape threshold policy in at_master e (Cmd e)
  event_placed (event.Reshape id shape) = let e = event.Reshape id shape in at_master e (Cmd e)
  event_placed (event.Remove id) = let e = event.Remove id in at_master e (Cmd e)
  event_placed (event.Add x) = let e = event.Add x in at_master e (Cmd e)
  event_placed event.Change = at_master event.Change (Cmd event.Change)
  event_placed event.Release = at_master event.Release (Cmd event.Release)
  event_placed event.RekeySecond = at_master event.RekeySecond (Cmd event.RekeySecond)
  event_placed (event.RekeyMaster root) = let e = event.RekeyMaster root in at_master e (Cmd e)
  event_placed (event.Recover id) = let e = event.Recover id in at_master e (Cmd e)

-- ---- a run

-- some events lead here from the opening state
pub record IsReached (c : Choices) (h : Header) (w : World) : Type 0 where
  pub events : List Event
  pub adds : AllByRecursion AddsSecond events
  pub there : w ≡ world_after c (new_world h) events

one_more : (c : Choices) (w : World) (es : List Event) (e : Event) → world_after c w (es ++ e ∷ []) ≡ (world_step c (world_after c w es) e).0
one_more c w [] e = refl
one_more c w (x ∷ es) e = one_more c (world_step c w x).0 es e

adds_more : (es : List Event) (e : Event) → AllByRecursion AddsSecond es → AddsSecond e → AllByRecursion AddsSecond (es ++ e ∷ [])
adds_more [] e all adds = (adds, tt)
adds_more (x ∷ es) e all adds = (all.0, adds_more es e all.1 adds)

-- what is so at any moment of a run
record Stands (c : Choices) (h : Header) (p : Past) (w : World) : Type 0 where
  holds : Holds p w
  reached : IsReached c h w

stands_next : (c : Choices) (h : Header) (w : World) (p : Past) (e : Event) → AddsSecond e → Stands c h p w → Stands c h (after p (world_step c w e).1) (world_step c w e).0
stands_next c h w p e adds is = record {
  holds = holds_next c w p e adds is.holds;
  reached = record {
    events = is.reached.events ++ e ∷ [];
    adds = adds_more is.reached.events e is.reached.adds adds;
    there = ap (λ v. (world_step c v e).0) is.reached.there ∙ sym (one_more c (new_world h) is.reached.events e);
  };
}

-- each line of any run by which the terminal has a bearer in a generation, or has dropped one, stands in its place
pub terminal_notes_placed : (c : Choices) (h : Header) (policies : ℕ) (es : List Event) → AllByRecursion AddsSecond es
    → Each (at_lines is_terminal_note_line (claim placed)) (new_past h policies) (entries_from c (new_world h) es)
terminal_notes_placed c h policies es adds =
    each_if c (at_lines is_terminal_note_line (claim placed)) AddsSecond (Stands c h)
    (λ w p e name is. event_placed c w p is.holds (sent_in T c (new_world h) is.reached.events)
    (subst (λ v. IsAhead T v (sent_in T c (new_world h) is.reached.events)) (sym is.reached.there) (always_ahead c h is.reached.events T refl is.reached.adds)) e)
    (λ w p e name is. refl) (λ w p e name is. stands_next c h w p e name is)
    es adds (new_world h) (new_past h policies) (record { holds = holds_new c h policies; reached = record { events = []; adds = tt; there = refl } })
