-- An anchor that sends: what it sent stays as the history has it, whatever is sent on whichever legs.
use Rattle.std.proofs.Common.{◌≡◌, ℕ, ◌+◌, ◌++◌, ◌≤◌, ◌∷◌, [], true, false, Bool, List, Option, Some, None, zero, suc, fold, map, not, refl, sym, ap, ◌∙◌, subst, inl, inr, arith, append_assoc}
use Rattle.std.specs.Prelude.{◌==◌, ◌||◌, is_some, option_map, slice_get}
use Rattle.std.specs.List.{AllByRecursion, filter_map, flat_map, range_with_len}
use Rattle.std.proofs.lemmas.Bool.{cases_Bool, false≢true}
use Rattle.std.proofs.lemmas.List.{append-nil, map-append}
use Rattle.std.proofs.lemmas.Option.{slice_get-map}
use Rattle.std.proofs.lemmas.Simd.{map-map}
use Rattle.dc_base.specs.declared.flights.Flight.{Flight}
use Rattle.dc_base.specs.declared.flights.Flight.TheVariants as flight
use Rattle.dc_base.specs.declared.nodes.Cell.{Cell}
use Rattle.dc_base.specs.declared.nodes.Cell.TheVariants.{Mcg, Scg}
use Rattle.dc_base.specs.declared.nodes.Node.{Node}
use Rattle.nr_u.specs.declared.tunnel.outbound.Sent.{Sent}
use Rattle.nr_u.specs.Tunnel.Outgoing.{Outgoing}
use Rattle.pdcp_tx.specs.Sender.{Rises, counts, sdu_at}
use Rattle.split_leg.specs.Legs.{LegsState, leg_at}
use Rattle.split_leg.specs.Routes.{is_live}
use Rattle.node_rules.specs.Anchor.{Active}
use Rattle.node_rules.specs.AnchorSending.{is_local, leg_send, tunnel_send, tunnelled, with_sends}
use Rattle.node_rules.specs.Choices.{Choices, Send}
use Rattle.node_rules.specs.Entity.{Entity, pdu_of}
use Rattle.node_rules.specs.Sending.{Pdu, pdu_at, send_each, sends}
use Rattle.node_rules.specs.Setup.{Setup, anchor_cell, host_of, is_same_cell, other_cell}
use Rattle.node_rules.specs.declared.bearers.OnLeg.{OnLeg}
use Rattle.run_legs.specs.Puts.{HaveGrown, over}
use Rattle.run_legs.proofs.Grown.{live_as_before}
use Rattle.run_legs.proofs.Sends.{each_more, each_sent}
use Rattle.run_confirms.specs.Anchors.{AnchorSent, HasSent, IsOfAnchor, Sends, counts_put, far_cell, has_live, own_cell, put_as_sent, sent_on, sent_put, was_put}
use Rattle.run_confirms.proofs.Arrivals.{each_with}
use Rattle.run_confirms.proofs.Legs.{Fit, marks_each, marks_of_legs, marks_on_legs, RisesTo, StepsTo, rises_each, rises_weaker}
use Rattle.run_confirms.proofs.Puts.{IsThere, grown_sent, other_is, puts_at, tunnel_is}
use Rattle.run_confirms.proofs.Statuses.{get_front}

-- ---- the flights

-- each PDU that was put is a flight with its number in the history
flights_are : (s : Setup) (air : List (Option ℕ)) (tun : List Sent) (puts : List OnLeg)
    → AllByRecursion (λ (p : OnLeg). is_same_cell p.cell (anchor_cell s.legs.shape) ≡ true → slice_get air p.num ≡ Some p.pdu.0) puts
    → AllByRecursion (λ (p : OnLeg). is_same_cell p.cell (other_cell (anchor_cell s.legs.shape)) ≡ true → slice_get tun p.num ≡ Some (put_as_sent p)) puts
    → AllByRecursion (λ (x : Send). IsOfAnchor s.id s.g air tun x.1) (flat_map (λ (p : OnLeg). leg_send s p (is_local s p)) puts)
flights_are s air tun [] own far = tt
flights_are s air tun (p ∷ puts) own far =
    each_more (λ (x : Send). IsOfAnchor s.id s.g air tun x.1) (leg_send s p (is_local s p)) (flat_map (λ (q : OnLeg). leg_send s q (is_local s q)) puts) (one (is_local s p) refl) (flights_are s air tun puts own.1 far.1)
  where
    in_tunnel : (host : Option Node) → slice_get tun p.num ≡ Some (put_as_sent p)
        → AllByRecursion (λ (x : Send). IsOfAnchor s.id s.g air tun x.1) (tunnel_send s p host)
    in_tunnel None at = tt
    in_tunnel (Some host) at = (record { number = p.num; repeat = p.repeat; pdu = p.pdu.1; is = refl; sent = at }, tt)

    one : (local : Bool) → is_local s p ≡ local → AllByRecursion (λ (x : Send). IsOfAnchor s.id s.g air tun x.1) (leg_send s p local)
    one true is = ((refl, refl, own.0 is), tt)
    one false is = in_tunnel (host_of s) (far.0 (other_is p.cell (anchor_cell s.legs.shape) ∙ ap not is))

-- a flight goes on saying the truth
flight_lasts : (id g : ℕ) (air more_air : List (Option ℕ)) (tun more_tun : List Sent) (f : Flight) → IsOfAnchor id g air tun f
    → IsOfAnchor id g (air ++ more_air) (tun ++ more_tun) f
flight_lasts id g air more_air tun more_tun (flight.Air i h num tag pdu) is = (is.0, is.1, get_front air more_air num tag is.2)
flight_lasts id g air more_air tun more_tun (flight.Tun tag packet) is =
    record { number = is.number; repeat = is.repeat; pdu = is.pdu; is = is.is; sent = get_front tun more_tun is.number (record { count = tag; repeat = is.repeat }) is.sent }
flight_lasts id g air more_air tun more_tun (flight.Ack i h num) is = tt
flight_lasts id g air more_air tun more_tun (flight.Sdu i h sdu) is = tt
flight_lasts id g air more_air tun more_tun (flight.End i h) is = tt
flight_lasts id g air more_air tun more_tun (flight.Told i h count) is = tt
flight_lasts id g air more_air tun more_tun (flight.Ctl r) is = tt

-- ---- what is on the legs and in the tunnel

tunnel_n : (own : Cell) (puts : List OnLeg) (o : Outgoing) → (fold (λ (o : Outgoing) (p : OnLeg). tunnelled o p (is_same_cell p.cell own)) o puts).n ≡ o.n
tunnel_n own [] o = refl
tunnel_n own (p ∷ puts) o = tunnel_n own puts (tunnelled o p (is_same_cell p.cell own)) ∙ by (is_same_cell p.cell own)
  where
    by : (local : Bool) → (tunnelled o p local).n ≡ o.n
    by true = refl
    by false = refl

counts_grown : (cell : Cell) (puts : List OnLeg) (a b : LegsState) → HaveGrown puts a b
    → map (λ (s : Sent). s.count) (sent_on (leg_at b cell)) ≡ map (λ (s : Sent). s.count) (sent_on (leg_at a cell)) ++ counts_put cell puts
counts_grown cell puts a b grown =
    ap (map (λ (s : Sent). s.count)) (grown_sent cell puts a b grown) ∙ map-append (λ (s : Sent). s.count) (sent_on (leg_at a cell)) (sent_put cell puts)
    ∙ ap (λ (xs : List (Option ℕ)). map (λ (s : Sent). s.count) (sent_on (leg_at a cell)) ++ xs) (map-map (λ (s : Sent). s.count) put_as_sent (over cell puts))

-- an anchor that sends has what it had sent, and behind it what it puts on the legs, if the first sends rise
has_sent : (c : Choices) (air : List (Option ℕ)) (tun : List Sent) (a : Active) (pdus : List Pdu) → HasSent air tun a
    → RisesTo a.entity.tx.next (sent_on (leg_at (send_each c pdus a.entity.setup.legs).0 (far_cell a.entity)))
    → let puts = (send_each c pdus a.entity.setup.legs).1 in
    HasSent (air ++ counts_put (own_cell a.entity) puts) (tun ++ sent_put (far_cell a.entity) puts) (with_sends a (sends c a.entity pdus)).0
has_sent c air tun a pdus is rises =
    let legs = a.entity.setup.legs in
    let done = send_each c pdus legs in
    let grown = (each_sent c pdus legs).grown in
    let own = own_cell a.entity in
    let own_is : anchor_cell done.0.shape ≡ own = ap anchor_cell grown.shape in
    let far_is : other_cell (anchor_cell done.0.shape) ≡ other_cell own = ap other_cell own_is in
    let on_far : sent_on (leg_at done.0 (other_cell own)) ≡ tun ++ sent_put (other_cell own) done.1 =
    grown_sent (other_cell own) done.1 legs done.0 grown ∙ ap (λ (xs : List Sent). xs ++ sent_put (other_cell own) done.1) is.far in
    let on_own : map (λ (s : Sent). s.count) (sent_on (leg_at done.0 own)) ≡ air ++ counts_put own done.1 =
    counts_grown own done.1 legs done.0 grown ∙ ap (λ (xs : List (Option ℕ)). xs ++ counts_put own done.1) is.own in
    let tunnel = tunnel_is own done.1 tun a.tunnel (record { history = is.history; unasked = is.unasked }) in
    let rising : RisesTo a.entity.tx.next (tun ++ sent_put (other_cell own) done.1) = subst (RisesTo a.entity.tx.next) on_far rises in
    record {
      own = subst (λ (cell : Cell). map (λ (s : Sent). s.count) (sent_on (leg_at done.0 cell)) ≡ air ++ counts_put own done.1) (sym own_is) on_own;
      far = subst (λ (cell : Cell). sent_on (leg_at done.0 cell) ≡ tun ++ sent_put (other_cell own) done.1) (sym far_is) on_far;
      history = tunnel.history;
      unasked = tunnel.unasked;
      rise = rising.0;
      below = rising.1;
      marks = marks_of_legs (sent_on (leg_at done.0 own)) (sent_on (leg_at done.0 (other_cell own))) (tun ++ sent_put (other_cell own) done.1) (air ++ counts_put own done.1) on_own on_far
          (marks_each c pdus legs own (marks_on_legs (sent_on (leg_at legs own)) (sent_on (leg_at legs (other_cell own))) tun air is.own is.far is.marks));
      same_n = tunnel_n own done.1 a.tunnel ∙ is.same_n;
    }

-- ---- what rises

no_leg : (legs : LegsState) (cell : Cell) → has_live legs ≡ false → is_live legs cell ≡ true → ⊥
no_leg legs Mcg none live = false≢true (sym none ∙ rw live refl)
no_leg legs Scg none live = false≢true (sym none ∙ by (is_live legs Mcg))
  where
    by : (m : Bool) → (m || is_live legs Scg) ≡ true
    by true = refl
    by false = live

none_put : (legs : LegsState) (puts : List OnLeg) → has_live legs ≡ false → AllByRecursion (λ (p : OnLeg). is_live legs p.cell ≡ true) puts → puts ≡ []
none_put legs [] none live = refl
none_put legs (p ∷ puts) none live = absurd (no_leg legs p.cell none live.0)

-- where a leg is live the sends fit, and else nothing is put
pub rises_by : (c : Choices) (pdus : List Pdu) (legs : LegsState) (from to : ℕ) (cell : Cell) → (has_live legs ≡ true → Fit legs from to pdus) → from ≤ to
    → RisesTo from (sent_on (leg_at legs cell))
    → RisesTo to (sent_on (leg_at (send_each c pdus legs).0 cell))
rises_by c pdus legs from to cell fit le is =
    elim (cases_Bool (has_live legs)) [
      | inl live ↦ rises_each c pdus legs from to cell (fit live) is
      | inr none ↦
          let sent = each_sent c pdus legs in
          let same : sent_on (leg_at (send_each c pdus legs).0 cell) ≡ sent_on (leg_at legs cell) =
          grown_sent cell (send_each c pdus legs).1 legs (send_each c pdus legs).0 sent.grown
          ∙ ap (λ (puts : List OnLeg). sent_on (leg_at legs cell) ++ sent_put cell puts) (none_put legs (send_each c pdus legs).1 none sent.live) ∙ append-nil (sent_on (leg_at legs cell)) in
          rw same (rises_weaker from to (sent_on (leg_at legs cell)) le is)
    ]

steps_from : (legs : LegsState) (from later to : ℕ) (tag : Option ℕ) → from ≤ later → StepsTo legs later to tag → StepsTo legs from to tag
steps_from legs from later to None le steps = omega arith
steps_from legs from later to (Some c) le steps = (
  omega (arith, steps.0),
  elim steps.1 [ inl put ↦ inl put | inr lies ↦ inr (omega (arith, lies.0), lies.1) ],
)

fit_from : (legs : LegsState) (from later to : ℕ) (pdus : List Pdu) → from ≤ later → Fit legs later to pdus → Fit legs from to pdus
fit_from legs from later to [] le fit = omega arith
fit_from legs from later to (pdu ∷ pdus) le fit = (fit.0, (steps_from legs from later fit.0 pdu.0 le fit.1.0, fit.1.1))

-- COUNTs that may be sent one after another
abbrev pub FitCounts : LegsState → ℕ → ℕ → List ℕ → Type 0
FitCounts legs from to [] = from ≤ to
FitCounts legs from to (c ∷ cs) = (next : ℕ) × (StepsTo legs from next (Some c) × FitCounts legs next to cs)

pub fit_counts : (e : Entity) (legs : LegsState) (from to : ℕ) (cs : List ℕ) → FitCounts legs from to cs → Fit legs from to (filter_map (pdu_at e) cs)
fit_counts e legs from to [] fit = fit
fit_counts e legs from to (c ∷ cs) fit = by (sdu_at e.tx.kept c) refl (fit_counts e legs fit.0 to cs fit.1.1)
  where
    by : (o : Option (List ℕ)) → sdu_at e.tx.kept c ≡ o → Fit legs fit.0 to (filter_map (pdu_at e) cs) → Fit legs from to (filter_map (pdu_at e) (c ∷ cs))
    by None is later = rw is (fit_from legs from fit.0 to (filter_map (pdu_at e) cs) fit.1.0.0 later)
    by (Some sdu) is later = rw is (fit.0, (fit.1.0, later))

-- COUNTs that were put before
pub fit_put : (legs : LegsState) (from to : ℕ) (cs : List ℕ) → from ≤ to → AllByRecursion (λ c. was_put legs c ≡ true) cs → FitCounts legs from to cs
fit_put legs from to [] le all = le
fit_put legs from to (c ∷ cs) le all = (from, ((omega arith, inl all.0), fit_put legs from to cs le all.1))

-- COUNTs that rise
pub fit_rising : (legs : LegsState) (from to : ℕ) (es : List (ℕ × List ℕ)) → Rises from to es → FitCounts legs from to (counts es)
fit_rising legs from to [] up = up
fit_rising legs from to (e ∷ es) up = (e.0 + 1, ((omega (arith, up.0), inr (up.0, omega arith)), fit_rising legs (e.0 + 1) to es up.1))

pub fit_range : (legs : LegsState) (from many to : ℕ) → to ≡ from + many → FitCounts legs from to (range_with_len from many)
fit_range legs from zero to is = omega arith
fit_range legs from (suc many) to is = (from + 1, ((omega arith, inr (omega arith, omega arith)), fit_range legs (from + 1) many to (omega arith)))

-- ---- what is sent of what is kept

-- what is kept is there
pub kept_there : (es : List (ℕ × List ℕ)) → AllByRecursion (λ (e : ℕ × List ℕ). is_some (sdu_at es e.0) ≡ true) es
kept_there [] = tt
kept_there (e ∷ es) = (
  head e.0,
  each_with (λ (x : ℕ × List ℕ). is_some (sdu_at es x.0) ≡ true) (λ (x : ℕ × List ℕ). is_some (sdu_at (e ∷ es) x.0) ≡ true) es (kept_there es) (λ x there. later x.0 there),
)
  where
    head : (c : ℕ) → is_some (sdu_at ((c, e.1) ∷ es) c) ≡ true
    head c = grind arith

    later : (c : ℕ) → is_some (sdu_at es c) ≡ true → is_some (sdu_at (e ∷ es) c) ≡ true
    later c there = elim (cases_Bool (e.0 == c)) [ inl is ↦ rw is refl | inr not_is ↦ rw not_is there ]

-- the COUNTs of what was sent were put
pub counts_there : (e : Entity) (legs : LegsState) (cs : List ℕ) → AllByRecursion (IsThere legs) (filter_map (pdu_at e) cs)
    → AllByRecursion (λ c. is_some (sdu_at e.tx.kept c) ≡ true → was_put legs c ≡ true) cs
counts_there e legs [] all = tt
counts_there e legs (c ∷ cs) all = by (sdu_at e.tx.kept c) refl (λ rest. counts_there e legs cs rest)
  where
    by : (o : Option (List ℕ)) → sdu_at e.tx.kept c ≡ o
        → (AllByRecursion (IsThere legs) (filter_map (pdu_at e) cs) → AllByRecursion (λ c. is_some (sdu_at e.tx.kept c) ≡ true → was_put legs c ≡ true) cs)
        → AllByRecursion (λ c. is_some (sdu_at e.tx.kept c) ≡ true → was_put legs c ≡ true) (c ∷ cs)
    by None is later =
        let step : filter_map (pdu_at e) (c ∷ cs) ≡ filter_map (pdu_at e) cs = rw is refl in
        (λ some. absurd (false≢true (sym (ap is_some is) ∙ some)), later (subst (AllByRecursion (IsThere legs)) step all))
    by (Some sdu) is later =
        let step : filter_map (pdu_at e) (c ∷ cs) ≡ (Some c, pdu_of e.setup (c, sdu)) ∷ filter_map (pdu_at e) cs = rw is refl in
        let both = subst (AllByRecursion (IsThere legs)) step all in
        (λ some. both.0, later both.1)

-- ---- a step

-- an anchor sends: what it sent is behind what it had sent
pub sends_step : (c : Choices) (air : List (Option ℕ)) (tun : List Sent) (a : Active) (pdus : List Pdu) → HasSent air tun a
    → RisesTo a.entity.tx.next (sent_on (leg_at (send_each c pdus a.entity.setup.legs).0 (far_cell a.entity)))
    → (a.is_open ≡ false → (air ≡ []) × (tun ≡ []) × (pdus ≡ []))
    → (a.is_open ≡ true → has_live a.entity.setup.legs ≡ true → AllByRecursion (λ (e : ℕ × List ℕ). was_put (send_each c pdus a.entity.setup.legs).0 e.0 ≡ true) a.entity.tx.kept)
    → Sends air tun a (with_sends a (sends c a.entity pdus))
sends_step c air tun a pdus is rises closed all =
    let legs = a.entity.setup.legs in
    let done = send_each c pdus legs in
    let grown = (each_sent c pdus legs).grown in
    let own = own_cell a.entity in
    let after = has_sent c air tun a pdus is rises in
    let live : has_live done.0 ≡ has_live legs = rw (live_as_before done.1 legs done.0 Mcg grown, live_as_before done.1 legs done.0 Scg grown) refl in
    let on_own : map (λ (s : Sent). s.count) (sent_on (leg_at done.0 own)) ≡ air ++ counts_put own done.1 =
    counts_grown own done.1 legs done.0 grown ∙ ap (λ (xs : List (Option ℕ)). xs ++ counts_put own done.1) is.own in
    let on_far : sent_on (leg_at done.0 (other_cell own)) ≡ tun ++ sent_put (other_cell own) done.1 =
    grown_sent (other_cell own) done.1 legs done.0 grown ∙ ap (λ (xs : List Sent). xs ++ sent_put (other_cell own) done.1) is.far in
    record {
      more_air = counts_put own done.1;
      more_tun = sent_put (other_cell own) done.1;
      after = record {
        sent = after;
        closed = λ shut. let none = closed shut in (nothing_air none.0 none.2, nothing_tun none.1 none.2);
        all_sent = λ opened some. all opened (sym live ∙ some);
      };
      flights = flights_are a.entity.setup (air ++ counts_put own done.1) (tun ++ sent_put (other_cell own) done.1) done.1
          (each_with (λ (p : OnLeg). is_same_cell p.cell own ≡ true → slice_get (sent_on (leg_at done.0 own)) p.num ≡ Some (put_as_sent p))
          (λ (p : OnLeg). is_same_cell p.cell own ≡ true → slice_get (air ++ counts_put own done.1) p.num ≡ Some p.pdu.0) done.1 (puts_at own done.1 legs done.0 grown)
          (λ p at local. ap (λ (xs : List (Option ℕ)). slice_get xs p.num) (sym on_own) ∙ slice_get-map (λ (s : Sent). s.count) (sent_on (leg_at done.0 own)) p.num ∙ ap (option_map (λ (s : Sent). s.count)) (at local)))
          (subst (λ (xs : List Sent). AllByRecursion (λ (p : OnLeg). is_same_cell p.cell (other_cell own) ≡ true → slice_get xs p.num ≡ Some (put_as_sent p)) done.1) on_far
          (puts_at (other_cell own) done.1 legs done.0 grown));
    }
  where
    nothing_air : air ≡ [] → pdus ≡ [] → air ++ counts_put (own_cell a.entity) (send_each c pdus a.entity.setup.legs).1 ≡ []
    nothing_air no_air no_pdus = rw (no_air, no_pdus) refl

    nothing_tun : tun ≡ [] → pdus ≡ [] → tun ++ sent_put (far_cell a.entity) (send_each c pdus a.entity.setup.legs).1 ≡ []
    nothing_tun no_tun no_pdus = rw (no_tun, no_pdus) refl

-- nothing is sent
pub none_step : (air : List (Option ℕ)) (tun : List Sent) (a b : Active) → AnchorSent air tun b → Sends air tun a (b, [])
none_step air tun a b is = record {
  more_air = [];
  more_tun = [];
  after = subst (λ (t : List Sent). AnchorSent (air ++ []) t b) (sym (append-nil tun)) (subst (λ (xs : List (Option ℕ)). AnchorSent xs tun b) (sym (append-nil air)) is);
  flights = tt;
}

-- one step after another
pub then_step : (air : List (Option ℕ)) (tun : List Sent) (a b : Active) (one two : Active × List Send) → b.entity.setup.id ≡ a.entity.setup.id
    → b.entity.setup.g ≡ a.entity.setup.g
    → (first : Sends air tun a one) → Sends (air ++ first.more_air) (tun ++ first.more_tun) b two → Sends air tun a (two.0, one.1 ++ two.1)
then_step air tun a b one two id g first second =
    let id_now = a.entity.setup.id in
    let g_now = a.entity.setup.g in
    let air_is : (air ++ first.more_air) ++ second.more_air ≡ air ++ (first.more_air ++ second.more_air) = append_assoc air first.more_air second.more_air in
    let tun_is : (tun ++ first.more_tun) ++ second.more_tun ≡ tun ++ (first.more_tun ++ second.more_tun) = append_assoc tun first.more_tun second.more_tun in
    record {
      more_air = first.more_air ++ second.more_air;
      more_tun = first.more_tun ++ second.more_tun;
      after = rw (← air_is, ← tun_is) second.after;
      flights = rw (← air_is, ← tun_is) (each_more (λ (s : Send). IsOfAnchor id_now g_now ((air ++ first.more_air) ++ second.more_air) ((tun ++ first.more_tun) ++ second.more_tun) s.1) one.1 two.1
          (each_with (λ (s : Send). IsOfAnchor id_now g_now (air ++ first.more_air) (tun ++ first.more_tun) s.1) (λ (s : Send). IsOfAnchor id_now g_now ((air ++ first.more_air) ++ second.more_air) ((tun ++ first.more_tun) ++ second.more_tun) s.1) one.1 first.flights
          (λ s is. flight_lasts id_now g_now (air ++ first.more_air) second.more_air (tun ++ first.more_tun) second.more_tun s.1 is))
          (rw (← id, ← g) second.flights));
    }
