-- A flight is given to its receiver, or what stands in a tunnel is lost or repeated.
use Rattle.std.proofs.Common.{ℕ, zero, suc, ◌≡◌, Bool, true, false, List, [], ◌∷◌, Option, Some, None, length, slice_get, refl, sym, ap, subst, ◌∙◌, inl, inr, arith}
use Rattle.std.specs.Prelude.{if◌then◌else◌, nat_lt}
use Rattle.std.specs.List.{AllByRecursion}
use Rattle.std.proofs.lemmas.Option.{same_Some, none-some}
use Rattle.std.proofs.lemmas.Bool.{cases_Bool}
use Rattle.std.proofs.lemmas.Bool.Decides.{nat_tests}
use Rattle.dc_base.specs.Count.{sn}
use Rattle.dc_base.specs.Links.{is_tunnel, link}
use Rattle.pdcp_pdu.specs.DataPdu.{data_pdu}
use Rattle.dc_base.specs.declared.answers.Answer.TheVariants as answer
use Rattle.dc_base.specs.declared.answers.Refusal.TheVariants as refusal
use Rattle.dc_base.specs.declared.events.Header.{Header}
use Rattle.dc_base.specs.declared.events.Line.{Line}
use Rattle.dc_base.specs.declared.flights.Flight.{Flight}
use Rattle.dc_base.specs.declared.flights.Flight.TheVariants as flight
use Rattle.dc_base.specs.declared.nodes.Class.{Class}
use Rattle.dc_base.specs.declared.nodes.Class.TheVariants.{Ctl, Feed, Air, Tun}
use Rattle.dc_base.specs.declared.nodes.Dir.TheVariants.{Dl, Ul}
use Rattle.dc_base.specs.declared.nodes.LinkId.{LinkId}
use Rattle.dc_base.specs.declared.nodes.Node.{Node}
use Rattle.dc_base.specs.declared.nodes.Node.TheVariants.{T, M, A, B}
use Rattle.dc_base.specs.declared.records.Rec.TheVariants.{Reconf, Rcomp, Recov, Recovd}
use Rattle.transcript.specs.Bearers.{Established}
use Rattle.node_rules.specs.World.{World}
use Rattle.node_rules.specs.declared.inputs.Outcome.{Outcome as WholeOutcome}
use Rattle.transcript.specs.Content.{mt_air, mt_ctl, tm_air, tm_ctl}
use Rattle.transcript.specs.Transcript.{Entry}
use Rattle.transcript.proofs.OnEach.{each_at}
use Rattle.master_runs.specs.Control.{Nodes, ends, is_change, is_recovery, plan_for, recovers_there, told_master, told_terminal}
use Rattle.master_runs.specs.Entities.{Entities, bearer_in}
use Rattle.master_runs.specs.Links.{Links, on}
use Rattle.master_runs.specs.Plane.{Outcome, air_taken, ciphered, is_aged}
use Rattle.master_runs.specs.Run.{WorldState, stepped, taken_from, tunnelled}
use Rattle.master_runs.proofs.Sound.{OnLeg, a_pdu, a_report, an_ack, Promise, Sound, idle, commanded, answered, recovering, recovered}
use Rattle.master_runs.proofs.Tables.{at_the_master}
use Rattle.node_rules.specs.Choices.{Choices}
use Rattle.node_rules.specs.Entity.{Entity}
use Rattle.node_rules.specs.Flights.{weight}
use Rattle.node_rules.specs.MasterStep.{master_step}
use Rattle.node_rules.specs.NodeRule.{master_node, terminal_node}
use Rattle.node_rules.specs.Readers.{is_aged_for}
use Rattle.node_rules.specs.Run.{Happening, given_to, refused_for, carried_on, in_tunnel, step_of}
use Rattle.node_rules.specs.Terminal.{terminal_step}
use Rattle.node_rules.specs.declared.inputs.Input.TheVariants.{Come}
use Rattle.master_runs.specs.Same.{Inside, IsPlainFlight, SameTerminal, SameMaster, WorldDid, terminal_as, master_as, world_as}
use Rattle.master_runs.proofs.Arriving.{pdu_up, ack_up}
use Rattle.master_runs.proofs.SameCompleting.{completed_there}
use Rattle.master_runs.proofs.SameConfiguring.{configured}
use Rattle.master_runs.proofs.Downwards.{pdu_down, ack_down}
use Rattle.master_runs.proofs.Lifting.{by_terminal, by_master, by_none, did_so, aged_there, aged_here}
use Rattle.master_runs.proofs.SameRecovering.{recovered_there}
use Rattle.master_runs.proofs.Sounds.{servable}
use Rattle.master_runs.proofs.SameUpwards.{recovered_up}

-- no flight stands on a tunnel
no_tunnel : (h : Header) (t : List Entry) (s : Nodes) (from to : Node) (f : Flight) → Promise h t s from to Tun f → ⊥
no_tunnel h t s T T f p = p
no_tunnel h t s T M f p = p
no_tunnel h t s T A f p = p
no_tunnel h t s T B f p = p
no_tunnel h t s M T f p = p
no_tunnel h t s M M f p = p
no_tunnel h t s M A f p = p
no_tunnel h t s M B f p = p
no_tunnel h t s A to f p = p
no_tunnel h t s B to f p = p

-- a link that loses and repeats is a tunnel
tun_is : (k : Class) → is_tunnel k ≡ true → k ≡ Tun
tun_is Ctl e = absurd cc
tun_is Feed e = absurd cc
tun_is Air e = absurd cc
tun_is Tun e = refl

-- only the first place is not after it
first_place : (i : ℕ) → nat_lt 0 i ≡ false → i ≡ 0
first_place zero is = refl
first_place (suc i) is = absurd (let e : nat_lt 0 (suc i) ≡ true = grind (arith, nat_tests) in cc)

-- the end of a command leaves the terminal
ends_terminal : (s : Nodes) (b : Bool) → (ends s b).0.terminal ≡ s.terminal
ends_terminal s true = refl
ends_terminal s false = refl

-- a recovery at the terminal changes the terminal alone
recovers_alone : (h : Header) (s : Nodes) (id : ℕ) (o : Option Entities) → record s { terminal = (recovers_there h s id o).0.terminal } ≡ (recovers_there h s id o).0
recovers_alone h s id None = refl
recovers_alone h s id (Some e) = refl

module _ (h : Header) (c : Choices) (t : List Entry) (s : Nodes) (links : Links) (sound : Sound h (length c.policies) t (record { header = h; nodes = s; links = links }))
    (halves : List (ℕ × Entity)) (y : Inside) (term : SameTerminal h s.terminal halves) (mast : SameMaster h s y)
    (plain : AllByRecursion IsPlainFlight (on links mt_ctl)) where
  -- the two worlds
  abbrev first_world : WorldState
  first_world = record { header = h; nodes = s; links = links }

  abbrev second_world : World
  second_world = world_as h s.drawn halves y links

  -- ---- over the air

  -- a PDU from the master
  pdu_there : (i id g num : ℕ) (tag : Option ℕ) (pdu : List ℕ) → let f = flight.Air id g num tag pdu in
      WorldDid h links (carried_on c second_world (step_of second_world mt_air i (Some f))) (stepped first_world mt_air i (Some f))
  pdu_there i id g num tag pdu =
      let f = flight.Air id g num tag pdu in
      let aged = aged_there h s.terminal halves term id g num tag pdu in
      let now : Bool → World × WholeOutcome = λ b. carried_on c second_world (if b then refused_for refusal.Aged else given_to T (Come mt_air f)) in
      let was : Bool → Nodes × Outcome = λ b. if b then (s, (answer.No refusal.Aged, [])) else (let done = taken_from h s M T Air f in (done.0, (answer.Ok, done.1))) in
      elim (cases_Bool (is_aged s.terminal f)) [
        | inl old ↦ did_so h links (ap now (aged ∙ old)) (ap was old) (by_none h s halves y links term mast refusal.Aged)
        | inr young ↦ did_so h links (ap now (aged ∙ young)) (ap was young)
            (by_terminal h s halves y links term mast (terminal_step c (terminal_as h halves) (Come mt_air f)) (let done = air_taken h Dl s.terminal f in (done.0, (answer.Ok, done.1)))
            (pdu_down h s.terminal halves term id g num tag pdu (term id) refl))
      ]

  -- a confirm from the master
  ack_there : (i id g num : ℕ) → let f = flight.Ack id g num in
      WorldDid h links (carried_on c second_world (step_of second_world mt_air i (Some f))) (stepped first_world mt_air i (Some f))
  ack_there i id g num =
      let f = flight.Ack id g num in
      by_terminal h s halves y links term mast (terminal_step c (terminal_as h halves) (Come mt_air f)) (let done = air_taken h Dl s.terminal f in (done.0, (answer.Ok, done.1)))
      (ack_down h s.terminal halves term id g num (term id) refl)

  -- a PDU from the terminal
  pdu_here : (i id g num : ℕ) (tag : Option ℕ) (pdu : List ℕ) → let f = flight.Air id g num tag pdu in
      WorldDid h links (carried_on c second_world (step_of second_world tm_air i (Some f))) (stepped first_world tm_air i (Some f))
  pdu_here i id g num tag pdu =
      let f = flight.Air id g num tag pdu in
      let aged = aged_here h s y mast id g num tag pdu in
      let now : Bool → World × WholeOutcome = λ b. carried_on c second_world (if b then refused_for refusal.Aged else given_to M (Come tm_air f)) in
      let was : Bool → Nodes × Outcome = λ b. if b then (s, (answer.No refusal.Aged, [])) else (let done = taken_from h s T M Air f in (done.0, (answer.Ok, done.1))) in
      elim (cases_Bool (is_aged s.master f)) [
        | inl old ↦ did_so h links (ap now (aged ∙ old)) (ap was old) (by_none h s halves y links term mast refusal.Aged)
        | inr young ↦ did_so h links (ap now (aged ∙ young)) (ap was young)
            (by_master h s halves y links term mast (master_step c (master_as h s.drawn y) (Come tm_air f)) (let done = air_taken h Ul s.master f in (record s { master = done.0 }, (answer.Ok, done.1)))
            (pdu_up h c s y mast id g num tag pdu (mast.bearers id) refl refl refl refl) refl)
      ]

  -- a confirm from the terminal
  ack_here : (i id g num : ℕ) → let f = flight.Ack id g num in
      WorldDid h links (carried_on c second_world (step_of second_world tm_air i (Some f))) (stepped first_world tm_air i (Some f))
  ack_here i id g num =
      let f = flight.Ack id g num in
      by_master h s halves y links term mast (master_step c (master_as h s.drawn y) (Come tm_air f)) (let done = air_taken h Ul s.master f in (record s { master = done.0 }, (answer.Ok, done.1)))
      (ack_up h c s y mast id g num (mast.bearers id) refl refl refl refl) refl

  -- ---- records

  -- the flight is the one that stands there
  one_there : (l : LinkId) (f k : Flight) → slice_get (on links l) 0 ≡ Some f → on links l ≡ k ∷ [] → k ≡ f
  one_there l f k at is = same_Some k f (sym (ap (λ (fs : List Flight). slice_get fs 0) is) ∙ at)

  -- none does
  none_stands : (l : LinkId) (f : Flight) → slice_get (on links l) 0 ≡ Some f → on links l ≡ [] → ⊥
  none_stands l f at is = none-some f (sym (ap (λ (fs : List Flight). slice_get fs 0) is) ∙ at)

  -- what the terminal does with the first record
  abbrev now_there : Flight → World × WholeOutcome
  now_there f = carried_on c second_world (if is_aged_for (terminal_node (terminal_as h halves)) (weight f) then refused_for refusal.Aged else given_to T (Come mt_ctl f))

  abbrev was_there : Flight → Nodes × Outcome
  was_there f = if is_aged s.terminal f then (s, (answer.No refusal.Aged, [])) else (let done = told_terminal h s f in (done.0, (answer.Ok, done.1)))

  record_there : (f : Flight) → slice_get (on links mt_ctl) 0 ≡ Some f → WorldDid h links (now_there f) (was_there f)
  record_there f at =
      elim sound.phase [
        | idle free down up all ↦ absurd (none_stands mt_ctl f at down)
        | answered b there busy down up all ↦ absurd (none_stands mt_ctl f at down)
        | recovered b there busy down up all ↦ absurd (none_stands mt_ctl f at down)
        | commanded b there shape threshold policy busy down up unused unsent lacks others ↦
            let k = flight.Ctl (Reconf (plan_for b.g b.id b.n b.first shape threshold policy) h.root) in
            let is = one_there mt_ctl f k at down in
            let mm : IsPlainFlight k = subst IsPlainFlight (sym is) (each_at IsPlainFlight (on links mt_ctl) 0 f plain at) in
            let ranged = sound.tables.ranged b there in
            let long = sound.tables.terminal_long in
            subst (λ f. WorldDid h links (now_there f) (was_there f)) is
            (by_terminal h s halves y links term mast (terminal_step c (terminal_as h halves) (Come mt_ctl k)) ((told_terminal h s k).0.terminal, (answer.Ok, (told_terminal h s k).1))
            (configured h c s halves term b.g b.id b.n b.first shape threshold policy mm.0 (omega (arith, ranged.0, long)) lacks))
        | recovering b there busy down up all ↦
            let k = flight.Ctl (Recov b.id) in
            let is = one_there mt_ctl f k at down in
            subst (λ f. WorldDid h links (now_there f) (was_there f)) is
            (did_so h links refl (ap (λ (n : Nodes). (n, (answer.Ok, (recovers_there h s b.id (bearer_in s.terminal b.id)).1))) (sym (recovers_alone h s b.id (bearer_in s.terminal b.id))))
            (by_terminal h s halves y links term mast (terminal_step c (terminal_as h halves) (Come mt_ctl k)) ((told_terminal h s k).0.terminal, (answer.Ok, (told_terminal h s k).1))
            (recovered_up h c s halves term b.id (term b.id) refl (λ e at. (servable h (length c.policies) t first_world sound Ul b.id e at).rises))))
      ]

  -- what the master does with it
  abbrev now_here : Flight → World × WholeOutcome
  now_here f = carried_on c second_world (if is_aged_for (master_node (master_as h s.drawn y)) (weight f) then refused_for refusal.Aged else given_to M (Come tm_ctl f))

  abbrev was_here : Flight → Nodes × Outcome
  was_here f = if is_aged s.master f then (s, (answer.No refusal.Aged, [])) else (let done = told_master s f in (done.0, (answer.Ok, done.1)))

  record_here : (f : Flight) → slice_get (on links tm_ctl) 0 ≡ Some f → WorldDid h links (now_here f) (was_here f)
  record_here f at =
      elim sound.phase [
        | idle free down up all ↦ absurd (none_stands tm_ctl f at up)
        | commanded b there shape threshold policy busy down up unused unsent lacks others ↦ absurd (none_stands tm_ctl f at up)
        | recovering b there busy down up all ↦ absurd (none_stands tm_ctl f at up)
        | answered b there busy down up all ↦
            let k = flight.Ctl (Rcomp b.g) in
            let own = at_the_master t s sound.tables b there in
            subst (λ f. WorldDid h links (now_here f) (was_here f)) (one_there tm_ctl f k at up)
            (by_master h s halves y links term mast (master_step c (master_as h s.drawn y) (Come tm_ctl k)) (let done = told_master s k in (done.0, (answer.Ok, done.1)))
            (completed_there h c s.drawn s.master s.terminal y b.g b.id own.0 (ap (λ (x : Established). x.g) own.2) own.1 mast.command busy mast) (ends_terminal s (is_change s.busy b.g)))
        | recovered b there busy down up all ↦
            let k = flight.Ctl (Recovd b.id) in
            subst (λ f. WorldDid h links (now_here f) (was_here f)) (one_there tm_ctl f k at up)
            (by_master h s halves y links term mast (master_step c (master_as h s.drawn y) (Come tm_ctl k)) (let done = told_master s k in (done.0, (answer.Ok, done.1)))
            (recovered_there h c s.drawn s.master s.terminal y b.id mast.command busy mast) (ends_terminal s (is_recovery s.busy b.id)))
      ]

  -- a record in its turn
  in_turn_there : (i : ℕ) (f : Flight) → slice_get (on links mt_ctl) i ≡ Some f → WorldDid h links (carried_on c second_world (step_of second_world mt_ctl i (Some f))) (stepped first_world mt_ctl i (Some f))
  in_turn_there i f at =
      elim (cases_Bool (nat_lt 0 i)) [
        | inl late ↦ did_so h links (rw late refl) (rw late refl) (by_none h s halves y links term mast refusal.NotFirst)
        | inr first ↦ did_so h links (rw first refl) (rw first refl) (record_there f (subst (λ k. slice_get (on links mt_ctl) k ≡ Some f) (first_place i first) at))
      ]

  in_turn_here : (i : ℕ) (f : Flight) → slice_get (on links tm_ctl) i ≡ Some f → WorldDid h links (carried_on c second_world (step_of second_world tm_ctl i (Some f))) (stepped first_world tm_ctl i (Some f))
  in_turn_here i f at =
      elim (cases_Bool (nat_lt 0 i)) [
        | inl late ↦ did_so h links (rw late refl) (rw late refl) (by_none h s halves y links term mast refusal.NotFirst)
        | inr first ↦ did_so h links (rw first refl) (rw first refl) (record_here f (subst (λ k. slice_get (on links tm_ctl) k ≡ Some f) (first_place i first) at))
      ]

  -- ---- any step

  -- on a leg
  leg_there : (i : ℕ) (f : Flight) → OnLeg h t s Dl f → WorldDid h links (carried_on c second_world (step_of second_world mt_air i (Some f))) (stepped first_world mt_air i (Some f))
  leg_there i f promise =
      let P : Flight → Type 0 = λ f. WorldDid h links (carried_on c second_world (step_of second_world mt_air i (Some f))) (stepped first_world mt_air i (Some f)) in
      elim promise [
        | a_pdu p ↦ subst P (sym p.is) (pdu_there i p.bearer.id p.bearer.g p.num (Some p.count) (data_pdu p.bearer.n (sn p.bearer.n p.count) (ciphered h p.bearer.id Dl p.count p.payload)))
        | a_report p ↦ subst P (sym p.is) (pdu_there i p.bearer.id p.bearer.g p.num None p.pdu)
        | an_ack p ↦ subst P (sym p.is) (ack_there i p.bearer.id p.bearer.g p.num)
      ]

  leg_here : (i : ℕ) (f : Flight) → OnLeg h t s Ul f → WorldDid h links (carried_on c second_world (step_of second_world tm_air i (Some f))) (stepped first_world tm_air i (Some f))
  leg_here i f promise =
      let P : Flight → Type 0 = λ f. WorldDid h links (carried_on c second_world (step_of second_world tm_air i (Some f))) (stepped first_world tm_air i (Some f)) in
      elim promise [
        | a_pdu p ↦ subst P (sym p.is) (pdu_here i p.bearer.id p.bearer.g p.num (Some p.count) (data_pdu p.bearer.n (sn p.bearer.n p.count) (ciphered h p.bearer.id Ul p.count p.payload)))
        | a_report p ↦ subst P (sym p.is) (pdu_here i p.bearer.id p.bearer.g p.num None p.pdu)
        | an_ack p ↦ subst P (sym p.is) (ack_here i p.bearer.id p.bearer.g p.num)
      ]

  -- by the ends of the link
  step_at : (from to : Node) (class : Class) (i : ℕ) (f : Flight) → slice_get (on links (link from to class)) i ≡ Some f → Promise h t s from to class f
      → WorldDid h links (carried_on c second_world (step_of second_world (link from to class) i (Some f))) (stepped first_world (link from to class) i (Some f))
  step_at M T Air i f at promise = leg_there i f promise
  step_at T M Air i f at promise = leg_here i f promise
  step_at M T Ctl i f at promise = in_turn_there i f at
  step_at T M Ctl i f at promise = in_turn_here i f at
  step_at M T Feed i f at promise = absurd promise
  step_at M T Tun i f at promise = absurd promise
  step_at T M Feed i f at promise = absurd promise
  step_at T M Tun i f at promise = absurd promise
  step_at T T class i f at promise = absurd promise
  step_at T A class i f at promise = absurd promise
  step_at T B class i f at promise = absurd promise
  step_at M M class i f at promise = absurd promise
  step_at M A class i f at promise = absurd promise
  step_at M B class i f at promise = absurd promise
  step_at A to class i f at promise = absurd promise
  step_at B to class i f at promise = absurd promise

  -- with what stands at its place
  pub step_same : (l : LinkId) (i : ℕ) (o : Option Flight) → slice_get (on links l) i ≡ o → WorldDid h links (carried_on c second_world (step_of second_world l i o)) (stepped first_world l i o)
  step_same l i None at = by_none h s halves y links term mast refusal.NoFlight
  step_same l i (Some f) at = step_at l.from l.to l.class i f at (each_at (Promise h t s l.from l.to l.class) (on links l) i f (sound.promises l) at)

  -- a loss or a repeat
  pub tunnel_same : (l : LinkId) (i : ℕ) (so : Option Flight → Happening) (lines : Flight → List Line) → so None ≡ refused_for refusal.NoFlight
      → (o : Option Flight) → slice_get (on links l) i ≡ o → WorldDid h links (carried_on c second_world (in_tunnel l.class (so o))) (tunnelled first_world l o lines)
  tunnel_same l i so lines none o at =
      elim (cases_Bool (is_tunnel l.class)) [
        | inl tunnel ↦ in_it o at tunnel
        | inr other ↦ did_so h links (rw other refl) (rw other refl) (by_none h s halves y links term mast refusal.NotTunnel)
      ]
    where
      in_it : (o : Option Flight) → slice_get (on links l) i ≡ o → is_tunnel l.class ≡ true → WorldDid h links (carried_on c second_world (in_tunnel l.class (so o))) (tunnelled first_world l o lines)
      in_it None at tunnel = did_so h links (rw (tunnel, none) refl) (rw tunnel refl) (by_none h s halves y links term mast refusal.NoFlight)
      in_it (Some f) at tunnel =
          absurd (no_tunnel h t s l.from l.to f
          (subst (λ k. Promise h t s l.from l.to k f) (tun_is l.class tunnel) (each_at (Promise h t s l.from l.to l.class) (on links l) i f (sound.promises l) at)))
