-- What an entity with one leg puts on it.
use Rattle.std.proofs.Common.{ℕ, ◌≡◌, ◌+◌, ◌≤◌, ◌==◌, ◌++◌, Bool, false, List, [], ◌∷◌, Option, Some, None, length, refl, ap, ◌∙◌, arith}
use Rattle.std.specs.Prelude.{fold, map}
use Rattle.std.specs.List.{flat_map, filter_map, AllByRecursion}
use Rattle.std.specs.Option.{option_map}
use Rattle.std.proofs.lemmas.Bool.{eq-eqb, ne_eqb}
use Rattle.std.proofs.lemmas.List.{length_push}
use Rattle.dc_base.specs.declared.events.Header.{Header}
use Rattle.dc_base.specs.declared.flights.Flight.TheVariants as flight
use Rattle.dc_base.specs.declared.nodes.Node.TheVariants.{M, T}
use Rattle.nr_u.specs.Tunnel.Outgoing.{Outgoing}
use Rattle.pdcp_rx.specs.declared.entity.RxParts.{RxParts}
use Rattle.pdcp_tx.specs.Sender.{Sender, Entry, counts, sdu_at, Rises}
use Rattle.pdcp_tx.proofs.Entries.{Rises-bounds}
use Rattle.split_leg.specs.Legs.{LegsState}
use Rattle.transcript.specs.Bearers.{Established}
use Rattle.transcript.specs.Content.{mt_air, tm_air}
use Rattle.transcript.proofs.OnEach.{each_weaker}
use Rattle.node_rules.specs.AnchorSending as anchor
use Rattle.node_rules.specs.Choices.{Choices}
use Rattle.node_rules.specs.Sending.{send_each, sends}
use Rattle.node_rules.specs.Setup.{node_of}
use Rattle.node_rules.specs.TerminalHalf as half
use Rattle.master_runs.specs.Forms.{Leg, legs_as, setup_as, entity_as, one_more, all_more, flights_from, all_on}

-- two parts that are the same
pub pair_is : {A B : Type 0} {a b : A} {c d : B} → a ≡ b → c ≡ d → ◌≡◌ {A = A × B} (a, c) (b, d)
pair_is {A} {B} {a} {b} {c} {d} p q = ap (λ (x : A). (x, c)) p ∙ ap (λ (y : B). (b, y)) q

-- the legs after each is sent
pub sent_legs : (c : Choices) (x : Leg) (ps : List (Option ℕ × List ℕ)) → (send_each c ps (legs_as x)).0 ≡ legs_as (all_more x ps)
sent_legs c x [] = refl
sent_legs c x (p ∷ ps) = sent_legs c (one_more x p) ps

-- the terminal sends them to the master
pub sent_up : (h : Header) (c : Choices) (b : Established) (legs : LegsState) (x : Leg) (ps : List (Option ℕ × List ℕ))
    → flat_map (λ p. half.leg_send (setup_as h T b legs) p (node_of None p.cell)) (send_each c ps (legs_as x)).1 ≡ all_on tm_air (flights_from b (length x.pdus) ps)
sent_up h c b legs x [] = refl
sent_up h c b legs x (p ∷ ps) =
    ap (λ ss. (tm_air, flight.Air b.id b.g (length x.pdus) p.0 p.1) ∷ ss)
    (sent_up h c b legs (one_more x p) ps ∙ ap (λ n. all_on tm_air (flights_from b n ps)) (length_push x.pdus _))

-- the master's anchor sends them to the terminal
pub sent_down : (h : Header) (c : Choices) (b : Established) (x y : Leg) (ps : List (Option ℕ × List ℕ))
    → flat_map (λ p. anchor.leg_send (setup_as h M b (legs_as y)) p (anchor.is_local (setup_as h M b (legs_as y)) p)) (send_each c ps (legs_as x)).1
    ≡ all_on mt_air (flights_from b (length x.pdus) ps)
sent_down h c b x y [] = refl
sent_down h c b x y (p ∷ ps) =
    ap (λ ss. (mt_air, flight.Air b.id b.g (length x.pdus) p.0 p.1) ∷ ss)
    (sent_down h c b (one_more x p) y ps ∙ ap (λ n. all_on mt_air (flights_from b n ps)) (length_push x.pdus _))

-- and none through a tunnel
pub none_tunnelled : (h : Header) (c : Choices) (b : Established) (x y : Leg) (o : Outgoing) (ps : List (Option ℕ × List ℕ))
    → fold (λ o p. anchor.tunnelled o p (anchor.is_local (setup_as h M b (legs_as y)) p)) o (send_each c ps (legs_as x)).1 ≡ o
none_tunnelled h c b x y o [] = refl
none_tunnelled h c b x y o (p ∷ ps) = none_tunnelled h c b (one_more x p) y o ps

-- a bearer at the terminal after it sends PDUs, with the sends
pub half_sends : (h : Header) (c : Choices) (b : Established) (x : Leg) (tx : Sender) (rx : RxParts) (ps : List (Option ℕ × List ℕ))
    → half.with_sends (sends c (entity_as h T b x tx rx) ps) ≡ (entity_as h T b (all_more x ps) tx rx, all_on tm_air (flights_from b (length x.pdus) ps))
half_sends h c b x tx rx ps =
    let legs = sent_legs c x ps in
    let up = sent_up h c b (send_each c ps (legs_as x)).0 x ps in
    pair_is (ap (λ ls. record { setup = setup_as h T b ls; tx = tx; rx = rx }) legs) up

-- and at the master
pub anchor_with : (h : Header) (c : Choices) (b : Established) (x : Leg) (tx : Sender) (rx : RxParts) (opened : Bool) (o : Outgoing) (ps : List (Option ℕ × List ℕ))
    → anchor.with_sends (record { entity = entity_as h M b x tx rx; is_open = opened; tunnel = o }) (sends c (entity_as h M b x tx rx) ps)
    ≡ (record { entity = entity_as h M b (all_more x ps) tx rx; is_open = opened; tunnel = o }, all_on mt_air (flights_from b (length x.pdus) ps))
anchor_with h c b x tx rx opened o ps =
    let legs = sent_legs c x ps in
    let none = none_tunnelled h c b x x o ps in
    let down = sent_down h c b x x ps in
    pair_is (ap (λ ls. record { entity = record { setup = setup_as h M b ls; tx = tx; rx = rx }; is_open = opened; tunnel = fold (λ o p. anchor.tunnelled o p (anchor.is_local (setup_as h M b (legs_as x)) p)) o (send_each c ps (legs_as x)).1 }) legs
    ∙ ap (λ u. record { entity = entity_as h M b (all_more x ps) tx rx; is_open = opened; tunnel = u }) none) down

-- ---- which PDUs

-- a COUNT that is after all of these
pub sdu-next : (from next : ℕ) (p : List ℕ) (es : List Entry) → Rises from next es → sdu_at (es ++ (next, p) ∷ []) next ≡ Some p
sdu-next from next p [] up = rw (eq-eqb next next refl) refl
sdu-next from next p (e ∷ es) up =
    let bounds = Rises-bounds (e.0 + 1) next es up.1 in
    let apart : (e.0 == next) ≡ false = ne_eqb e.0 next (λ same. omega (arith, bounds.0, bounds.1)) in
    rw apart (sdu-next (e.0 + 1) next p es up.1)

-- each of these is not below the first
from_first : (from next : ℕ) (es : List Entry) → Rises from next es → AllByRecursion (λ e. from ≤ e.0) es
from_first from next [] up = tt
from_first from next (e ∷ es) up = (up.0, each_weaker (λ y. e.0 + 1 ≤ y.0) (λ y. from ≤ y.0) (λ y le. omega (arith, le, up.0)) es (from_first (e.0 + 1) next es up.1))

-- each has its SDU under its COUNT
pub sdu_of_each : (from next : ℕ) (es : List Entry) → Rises from next es → AllByRecursion (λ e. sdu_at es e.0 ≡ Some e.1) es
sdu_of_each from next [] up = tt
sdu_of_each from next (e ∷ es) up =
    (rw (eq-eqb e.0 e.0 refl) refl, past_first e es es (from_first (e.0 + 1) next es up.1) (sdu_of_each (e.0 + 1) next es up.1))
  where
    past_first : (e : Entry) (all es : List Entry) → AllByRecursion (λ y. e.0 + 1 ≤ y.0) es → AllByRecursion (λ y. sdu_at all y.0 ≡ Some y.1) es
        → AllByRecursion (λ y. sdu_at (e ∷ all) y.0 ≡ Some y.1) es
    past_first e all [] above is = tt
    past_first e all (y ∷ ys) above is =
        let apart : (e.0 == y.0) ≡ false = ne_eqb e.0 y.0 (λ same. omega (arith, above.0)) in
        (rw apart is.0, past_first e all ys above.1 is.1)

-- so all of them are sent
pub pdus_of_all : (f : ℕ → List ℕ → Option ℕ × List ℕ) (all es : List Entry) → AllByRecursion (λ e. sdu_at all e.0 ≡ Some e.1) es
    → filter_map (λ c. option_map (f c) (sdu_at all c)) (counts es) ≡ map (λ e. f e.0 e.1) es
pdus_of_all f all [] is = refl
pdus_of_all f all (e ∷ es) is = rw is.0 (ap (λ ps. f e.0 e.1 ∷ ps) (pdus_of_all f all es is.1))
