-- What sends put on the legs of a bearer, whatever is chosen.
use Rattle.std.proofs.Common.{ℕ, ◌≡◌, ◌+◌, ◌++◌, ◌∷◌, [], true, false, Bool, List, Option, Some, None, length, map, not, refl, sym, ap, ◌∙◌, subst, inl, inr, ◌⊎◌}
use Rattle.std.specs.Prelude.{◌&&◌, ◌||◌, is_some, if◌then◌else◌}
use Rattle.std.specs.List.{AllByRecursion}
use Rattle.std.proofs.lemmas.List.{append-nil, map-append}
use Rattle.dc_base.specs.declared.nodes.Cell.{Cell}
use Rattle.dc_base.specs.declared.nodes.Cell.TheVariants.{Mcg, Scg}
use Rattle.split_leg.specs.Legs.{LegState, LegsState, is_repeat, leg_at, with_leg, with_pdu, with_send}
use Rattle.split_leg.specs.Routes.{data_route, is_live, primary_of, route_by, route_of}
use Rattle.split_leg.specs.declared.legs.Route.{Route}
use Rattle.split_leg.specs.declared.legs.Route.TheVariants as route
use Rattle.node_rules.specs.Choices.{Choices}
use Rattle.node_rules.specs.Sending.{Pdu, put_by, put_on, send_each, send_one}
use Rattle.node_rules.specs.declared.bearers.OnLeg.{OnLeg}
use Rattle.run_legs.specs.Puts.{AreSent, HasGrown, HaveGrown, IsAmong, IsPut, over}
use Rattle.run_legs.proofs.Grown.{all_begun, all_grown_again, all_grown_none, grown_none, live_as_before}

-- ---- one of these

pub among_left : {X : Type 0} (xs ys : List X) (x : X) → IsAmong xs x → IsAmong (xs ++ ys) x
among_left [] ys x none = absurd none
among_left (y ∷ xs) ys x (inl is) = inl is
among_left (y ∷ xs) ys x (inr more) = inr (among_left xs ys x more)

pub among_right : {X : Type 0} (xs ys : List X) (x : X) → IsAmong ys x → IsAmong (xs ++ ys) x
among_right [] ys x is = is
among_right (y ∷ xs) ys x is = inr (among_right xs ys x is)

-- ---- one PDU on one leg

one_put : (cell : Cell) (repeat : Bool) (pdu : Pdu) (legs : LegsState) → let done = put_on cell repeat pdu legs in HaveGrown (done.1 ∷ []) legs done.0
one_put Mcg repeat pdu legs = record {
  shape = refl;
  threshold = refl;
  policy = refl;
  mcg = record { pdus = refl; failed = refl; numbered = (refl, tt) };
  scg = grown_none legs.scg;
}
one_put Scg repeat pdu legs = record {
  shape = refl;
  threshold = refl;
  policy = refl;
  mcg = grown_none legs.mcg;
  scg = record { pdus = refl; failed = refl; numbered = (refl, tt) };
}

-- ---- the route goes over live legs, and over one where one is live
data IsRoute (legs : LegsState) : Route → Type 0 where
  nowhere : (mcg : is_live legs Mcg ≡ false) → (scg : is_live legs Scg ≡ false) → IsRoute legs route.None
  by_one : (cell : Cell) → (live : is_live legs cell ≡ true) → IsRoute legs (route.One cell)
  by_both : (mcg : is_live legs Mcg ≡ true) → (scg : is_live legs Scg ≡ true) → IsRoute legs route.Both

of_two : (legs : LegsState) → is_live legs Mcg ≡ true → is_live legs Scg ≡ true → (r : Route) → (r ≡ route.None → ⊥) → IsRoute legs r
of_two legs mcg scg route.None some = absurd (some refl)
of_two legs mcg scg (route.One Mcg) some = by_one Mcg mcg
of_two legs mcg scg (route.One Scg) some = by_one Scg scg
of_two legs mcg scg route.Both some = by_both mcg scg

-- what is chosen where both legs are live is some leg
chosen_some : (legs : LegsState) (dup few : Bool) (p q : Cell) → is_live legs Mcg ≡ true → is_live legs Scg ≡ true
    → IsRoute legs (if dup then route.Both else if few then route.One p else route.One q)
chosen_some legs true few p q mcg scg = by_both mcg scg
chosen_some legs false true Mcg q mcg scg = by_one Mcg mcg
chosen_some legs false true Scg q mcg scg = by_one Scg scg
chosen_some legs false false p Mcg mcg scg = by_one Mcg mcg
chosen_some legs false false p Scg mcg scg = by_one Scg scg

split_is : (legs : LegsState) (c : Choices) (is_data : Bool) → is_live legs Mcg ≡ true → is_live legs Scg ≡ true
    → IsRoute legs (if is_data then data_route legs c.policies else route.One (primary_of legs.shape.legs))
split_is legs c true mcg scg = chosen_some legs legs.shape.dup _ _ _ mcg scg
split_is legs c false mcg scg = chosen_some legs false true (primary_of legs.shape.legs) Mcg mcg scg

route_is : (legs : LegsState) (c : Choices) (is_data : Bool) → IsRoute legs (route_of legs c.policies is_data)
route_is legs c is_data = by (is_live legs Mcg) (is_live legs Scg) refl refl
  where
    split : Route
    split = if is_data then data_route legs c.policies else route.One (primary_of legs.shape.legs)

    by : (m s : Bool) → is_live legs Mcg ≡ m → is_live legs Scg ≡ s → IsRoute legs (route_by (is_live legs Mcg) (is_live legs Scg) split)
    by false false mcg scg = rw (mcg, scg) (nowhere mcg scg)
    by true false mcg scg = rw (mcg, scg) (by_one Mcg mcg)
    by false true mcg scg = rw (mcg, scg) (by_one Scg scg)
    by true true mcg scg = rw (mcg, scg) (split_is legs c is_data mcg scg)

-- ---- one send

-- a PDU that was put by a route over live legs
by_route : (legs : LegsState) (r : Route) (repeat : Bool) (pdu : Pdu) → IsRoute legs r → let done = put_by r repeat pdu (with_send legs) in AreSent (pdu ∷ []) legs done.0 done.1
by_route legs route.None repeat pdu (nowhere mcg scg) =
    record { grown = all_begun legs; those = tt; live = tt; all = λ some. no_leg some }
  where
    no_leg : (is_live legs Mcg || is_live legs Scg) ≡ true → AllByRecursion (IsPut []) (pdu ∷ [])
    no_leg some = absurd (cc (mcg, scg, some))
by_route legs (route.One cell) repeat pdu (by_one _ live) = record {
  grown = all_grown_again [] ((put_on cell repeat pdu (with_send legs)).1 ∷ []) legs (with_send legs) (put_on cell repeat pdu (with_send legs)).0 (all_begun legs) (one_put cell repeat pdu (with_send legs));
  those = (inl refl, tt);
  live = (live, tt);
  all = λ some. (inl refl, tt);
}
by_route legs route.Both repeat pdu (by_both mcg scg) =
    let one = put_on Mcg repeat pdu (with_send legs) in
    let two = put_on Scg repeat pdu one.0 in
    record {
      grown = all_grown_again (one.1 ∷ []) (two.1 ∷ []) legs one.0 two.0
          (all_grown_again [] (one.1 ∷ []) legs (with_send legs) one.0 (all_begun legs) (one_put Mcg repeat pdu (with_send legs))) (one_put Scg repeat pdu one.0);
      those = (inl refl, (inl refl, tt));
      live = (mcg, (scg, tt));
      all = λ some. (inl refl, tt);
    }

one_sent : (c : Choices) (pdu : Pdu) (legs : LegsState) → let done = send_one c pdu legs in AreSent (pdu ∷ []) legs done.0 done.1
one_sent c pdu legs = by_route legs (route_of legs c.policies (is_some pdu.0)) (is_repeat (with_send legs) pdu.0) pdu (route_is legs c (is_some pdu.0))

-- ---- one send after another

those_more : (pdu : Pdu) (pdus : List Pdu) (ps : List OnLeg) → AllByRecursion (λ (p : OnLeg). IsAmong pdus p.pdu) ps → AllByRecursion (λ (p : OnLeg). IsAmong (pdu ∷ pdus) p.pdu) ps
those_more pdu pdus [] all = tt
those_more pdu pdus (p ∷ ps) all = (inr all.0, those_more pdu pdus ps all.1)

those_first : (pdu : Pdu) (pdus : List Pdu) (ps : List OnLeg) → AllByRecursion (λ (p : OnLeg). IsAmong (pdu ∷ []) p.pdu) ps → AllByRecursion (λ (p : OnLeg). IsAmong (pdu ∷ pdus) p.pdu) ps
those_first pdu pdus [] all = tt
those_first pdu pdus (p ∷ ps) all = (among_left (pdu ∷ []) pdus p.pdu all.0, those_first pdu pdus ps all.1)

pub each_more : {X : Type 0} (P : X → Type 0) (xs ys : List X) → AllByRecursion P xs → AllByRecursion P ys → AllByRecursion P (xs ++ ys)
each_more P [] ys here later = later
each_more P (x ∷ xs) ys here later = (here.0, each_more P xs ys here.1 later)

live_before : (puts : List OnLeg) (a b : LegsState) (ps : List OnLeg) → HaveGrown puts a b → AllByRecursion (λ (p : OnLeg). is_live b p.cell ≡ true) ps
    → AllByRecursion (λ (p : OnLeg). is_live a p.cell ≡ true) ps
live_before puts a b [] grown all = tt
live_before puts a b (p ∷ ps) grown all = (sym (live_as_before puts a b p.cell grown) ∙ all.0, live_before puts a b ps grown all.1)

put_left : (xs ys : List OnLeg) (pdus : List Pdu) → AllByRecursion (IsPut xs) pdus → AllByRecursion (IsPut (xs ++ ys)) pdus
put_left xs ys [] all = tt
put_left xs ys (pdu ∷ pdus) all = (
  subst (λ qs. IsAmong qs pdu) (sym (map-append (λ (p : OnLeg). p.pdu) xs ys)) (among_left (map (λ (p : OnLeg). p.pdu) xs) (map (λ (p : OnLeg). p.pdu) ys) pdu all.0),
  put_left xs ys pdus all.1,
)

put_right : (xs ys : List OnLeg) (pdus : List Pdu) → AllByRecursion (IsPut ys) pdus → AllByRecursion (IsPut (xs ++ ys)) pdus
put_right xs ys [] all = tt
put_right xs ys (pdu ∷ pdus) all = (
  subst (λ qs. IsAmong qs pdu) (sym (map-append (λ (p : OnLeg). p.pdu) xs ys)) (among_right (map (λ (p : OnLeg). p.pdu) xs) (map (λ (p : OnLeg). p.pdu) ys) pdu all.0),
  put_right xs ys pdus all.1,
)

-- sends of PDUs: each has the next number of its leg, goes over live legs, and is one of those; each goes over one, where one is live
pub each_sent : (c : Choices) (pdus : List Pdu) (legs : LegsState) → let done = send_each c pdus legs in AreSent pdus legs done.0 done.1
each_sent c [] legs = record { grown = all_grown_none legs; those = tt; live = tt; all = λ some. tt }
each_sent c (pdu ∷ pdus) legs =
    let here = send_one c pdu legs in
    let later = send_each c pdus here.0 in
    let first = one_sent c pdu legs in
    let then' = each_sent c pdus here.0 in
    record {
      grown = all_grown_again here.1 later.1 legs here.0 later.0 first.grown then'.grown;
      those = each_more (λ (p : OnLeg). IsAmong (pdu ∷ pdus) p.pdu) here.1 later.1 (those_first pdu pdus here.1 first.those) (those_more pdu pdus later.1 then'.those);
      live = each_more (λ (p : OnLeg). is_live legs p.cell ≡ true) here.1 later.1 first.live (live_before here.1 legs here.0 later.1 first.grown then'.live);
      all = λ some. (
        (put_left here.1 later.1 (pdu ∷ []) (first.all some)).0,
        put_right here.1 later.1 pdus (then'.all (rw (live_as_before here.1 legs here.0 Mcg first.grown, live_as_before here.1 legs here.0 Scg first.grown) some)),
      );
    }
