-- What sends leave on the legs of a bearer: first sends that rise, and all that was put before.
use Rattle.std.proofs.Common.{◌≡◌, ℕ, ◌++◌, ◌<◌, ◌≤◌, ◌∷◌, [], true, false, Bool, List, Option, Some, None, length, map, take, refl, sym, ap, ◌∙◌, subst, inl, inr, ◌⊎◌, arith}
use Rattle.std.specs.Prelude.{◌||◌, is_some, slice_get}
use Rattle.std.specs.List.{list_any}
use Rattle.std.proofs.lemmas.Bool.{false≢true}
use Rattle.std.proofs.lemmas.List.{map-append, take-append-le, take_all}
use Rattle.std.proofs.lemmas.Option.{slice_get_within}
use Rattle.std.proofs.lemmas.List.Folds.{list_any-append}
use Rattle.dc_base.specs.declared.nodes.Cell.{Cell}
use Rattle.dc_base.specs.declared.nodes.Cell.TheVariants.{Mcg, Scg}
use Rattle.nr_u.specs.declared.tunnel.outbound.Sent.{Sent}
use Rattle.nr_u.specs.Tunnel.Ends.{FirstSendsRise}
use Rattle.nr_u.specs.Tunnel.Outgoing.{first_send}
use Rattle.nr_u.proofs.History.{get_cases}
use Rattle.nr_u.proofs.Meeting.{FirstSendsRise-sent}
use Rattle.split_leg.specs.declared.leg.Pdu as leg_pdu
use Rattle.split_leg.specs.Legs.{LegsState, is_count, is_repeat, leg_at, with_send}
use Rattle.split_leg.specs.Routes.{route_of}
use Rattle.split_leg.specs.declared.legs.Route.{Route}
use Rattle.split_leg.specs.declared.legs.Route.TheVariants as route
use Rattle.node_rules.specs.Choices.{Choices}
use Rattle.node_rules.specs.Sending.{Pdu, put_by, send_each, send_one}
use Rattle.node_rules.specs.Setup.{other_cell}
use Rattle.run_confirms.specs.Anchors.{MarksSentBefore, as_sent, has_count, is_among, sent_on, was_put}
use Rattle.run_confirms.specs.Statuses.{FirstsBelow}

-- ---- one send

-- a leg after a send: nothing is on it that was not, or the PDU with its mark is behind
abbrev pub HasOneMore : List Sent → List Sent → Sent → Type 0
HasOneMore before after s = (after ≡ before) ⊎ (after ≡ before ++ s ∷ [])

by_route : (r : Route) (repeat : Bool) (pdu : Pdu) (legs : LegsState) (cell : Cell)
    → HasOneMore (sent_on (leg_at legs cell)) (sent_on (leg_at (put_by r repeat pdu (with_send legs)).0 cell)) (record { count = pdu.0; repeat = repeat })
by_route route.None repeat pdu legs Mcg = inl refl
by_route route.None repeat pdu legs Scg = inl refl
by_route (route.One Mcg) repeat pdu legs Mcg = inr (map-append as_sent legs.mcg.pdus _)
by_route (route.One Mcg) repeat pdu legs Scg = inl refl
by_route (route.One Scg) repeat pdu legs Mcg = inl refl
by_route (route.One Scg) repeat pdu legs Scg = inr (map-append as_sent legs.scg.pdus _)
by_route route.Both repeat pdu legs Mcg = inr (map-append as_sent legs.mcg.pdus _)
by_route route.Both repeat pdu legs Scg = inr (map-append as_sent legs.scg.pdus _)

pub one_more : (c : Choices) (pdu : Pdu) (legs : LegsState) (cell : Cell)
    → HasOneMore (sent_on (leg_at legs cell)) (sent_on (leg_at (send_one c pdu legs).0 cell)) (record { count = pdu.0; repeat = is_repeat (with_send legs) pdu.0 })
one_more c pdu legs cell = by_route (route_of legs c.policies (is_some pdu.0)) (is_repeat (with_send legs) pdu.0) pdu legs cell

-- ---- what was put before

among_pdus : (count : ℕ) (pdus : List leg_pdu.Pdu)
    → list_any (λ (p : leg_pdu.Pdu). is_count count p.count) (take (length pdus) pdus) ≡ is_among count (map as_sent pdus)
among_pdus count [] = refl
among_pdus count (p ∷ pdus) = rw (among_pdus count pdus) refl

-- a PDU is marked as a repeat exactly where one of its COUNT was put before
pub repeat_is : (legs : LegsState) (count : ℕ) → is_repeat (with_send legs) (Some count) ≡ was_put legs count
repeat_is legs count = rw (among_pdus count legs.mcg.pdus, among_pdus count legs.scg.pdus) refl

or_left : (a b : Bool) → a ≡ true → (a || b) ≡ true
or_left a b is = rw is refl

or_right : (a b : Bool) → b ≡ true → (a || b) ≡ true
or_right true b is = refl
or_right false b is = is

or_parts : (a b : Bool) → (a || b) ≡ true → (a ≡ true) ⊎ (b ≡ true)
or_parts true b is = inl refl
or_parts false b is = inr is

pub among_left : (count : ℕ) (xs ys : List Sent) → is_among count xs ≡ true → is_among count (xs ++ ys) ≡ true
among_left count xs ys there = list_any-append (λ (s : Sent). is_count count s.count) xs ys ∙ or_left _ _ there

pub among_right : (count : ℕ) (xs ys : List Sent) → is_among count ys ≡ true → is_among count (xs ++ ys) ≡ true
among_right count xs ys there = list_any-append (λ (s : Sent). is_count count s.count) xs ys ∙ or_right _ _ there

among_more : (count : ℕ) (before after : List Sent) (s : Sent) → HasOneMore before after s → is_among count before ≡ true → is_among count after ≡ true
among_more count before after s (inl same) there = rw same there
among_more count before after s (inr more) there = rw more (among_left count before (s ∷ []) there)

-- what was put on one of two legs is there after both grew
pub put_still : (legs later : LegsState) (count : ℕ) → (is_among count (sent_on legs.mcg) ≡ true → is_among count (sent_on later.mcg) ≡ true)
    → (is_among count (sent_on legs.scg) ≡ true → is_among count (sent_on later.scg) ≡ true) → was_put legs count ≡ true → was_put later count ≡ true
put_still legs later count mcg scg there =
    elim (or_parts (is_among count (sent_on legs.mcg)) (is_among count (sent_on legs.scg)) there) [
      | inl at ↦ or_left (is_among count (sent_on later.mcg)) _ (mcg at)
      | inr at ↦ or_right (is_among count (sent_on later.mcg)) _ (scg at)
    ]

one_still : (c : Choices) (pdu : Pdu) (legs : LegsState) (count : ℕ) → was_put legs count ≡ true → was_put (send_one c pdu legs).0 count ≡ true
one_still c pdu legs count there =
    put_still legs (send_one c pdu legs).0 count (among_more count (sent_on legs.mcg) _ _ (one_more c pdu legs Mcg)) (among_more count (sent_on legs.scg) _ _ (one_more c pdu legs Scg)) there

-- ---- first sends rise

-- the COUNTs of first sends rise, below this one
abbrev pub RisesTo : ℕ → List Sent → Type 0
RisesTo end sent = FirstSendsRise sent × FirstsBelow end sent

-- from one bound to another a PDU may be sent: its COUNT was put before, or lies between
abbrev pub StepsTo : LegsState → ℕ → ℕ → Option ℕ → Type 0
StepsTo legs from to None = from ≤ to
StepsTo legs from to (Some c) = (from ≤ to) × ((was_put legs c ≡ true) ⊎ ((from ≤ c) × (c < to)))

-- one after another
abbrev pub Fit : LegsState → ℕ → ℕ → List Pdu → Type 0
Fit legs from to [] = from ≤ to
Fit legs from to (pdu ∷ pdus) = (next : ℕ) × (StepsTo legs from next pdu.0 × Fit legs next to pdus)

pub rises_weaker : (end later : ℕ) (sent : List Sent) → end ≤ later → RisesTo end sent → RisesTo later sent
rises_weaker end later sent le is = (is.0, λ number count at. omega (arith, le, is.1 number count at))

rises_put : (from to : ℕ) (sent : List Sent) (s : Sent) → from ≤ to → ((count : ℕ) → s ≡ first_send count → (from ≤ count) × (count < to)) → RisesTo from sent
    → RisesTo to (sent ++ s ∷ [])
rises_put from to sent s le first is = (
  FirstSendsRise-sent sent s is.0 (λ j c d at new. omega (arith, is.1 j c at, (first d new).0)),
  λ number count at. elim (get_cases sent s (first_send count) number at) [
    | inl before ↦ omega (arith, le, is.1 number count before)
    | inr last ↦ (first count last.1).1
  ],
)

-- a PDU that is marked as it is to be
between : (legs : LegsState) (from to : ℕ) (tag : Option ℕ) → StepsTo legs from to tag
    → (count : ℕ) → (record { count = tag; repeat = is_repeat (with_send legs) tag }) ≡ first_send count → (from ≤ count) × (count < to)
between legs from to None steps count is = let none : None ≡ Some count = ap (λ (s : Sent). s.count) is in absurd cc
between legs from to (Some c) steps count is =
    let same : c ≡ count = some_same c count (ap (λ (s : Sent). s.count) is) in
    let fresh : was_put legs c ≡ false = sym (repeat_is legs c) ∙ ap (λ (s : Sent). s.repeat) is in
    elim steps.1 [
      | inl put ↦ absurd (false≢true (sym fresh ∙ put))
      | inr lies ↦ (omega (arith, same, lies.0), omega (arith, same, lies.1))
    ]
  where
    some_same : (c count : ℕ) → Some c ≡ Some count → c ≡ count
    some_same c count is = cc

steps_le : (legs : LegsState) (from to : ℕ) (tag : Option ℕ) → StepsTo legs from to tag → from ≤ to
steps_le legs from to None steps = steps
steps_le legs from to (Some c) steps = steps.0

rises_one : (c : Choices) (pdu : Pdu) (legs : LegsState) (from to : ℕ) (cell : Cell) → StepsTo legs from to pdu.0 → RisesTo from (sent_on (leg_at legs cell))
    → RisesTo to (sent_on (leg_at (send_one c pdu legs).0 cell))
rises_one c pdu legs from to cell steps is =
    let le = steps_le legs from to pdu.0 steps in
    elim (one_more c pdu legs cell) [
      | inl same ↦ rw same (rises_weaker from to (sent_on (leg_at legs cell)) le is)
      | inr more ↦ rw more (rises_put from to (sent_on (leg_at legs cell)) (record { count = pdu.0; repeat = is_repeat (with_send legs) pdu.0 }) le (between legs from to pdu.0 steps) is)
    ]

-- legs on which more was put do no harm
steps_more : (legs later : LegsState) (from to : ℕ) (tag : Option ℕ) → ((count : ℕ) → was_put legs count ≡ true → was_put later count ≡ true)
    → StepsTo legs from to tag → StepsTo later from to tag
steps_more legs later from to None still steps = steps
steps_more legs later from to (Some c) still steps =
    (steps.0, elim steps.1 [ inl put ↦ inl (still c put) | inr lies ↦ inr lies ])

fit_more : (legs later : LegsState) (from to : ℕ) (pdus : List Pdu) → ((count : ℕ) → was_put legs count ≡ true → was_put later count ≡ true)
    → Fit legs from to pdus → Fit later from to pdus
fit_more legs later from to [] still fit = fit
fit_more legs later from to (pdu ∷ pdus) still fit = (fit.0, (steps_more legs later from fit.0 pdu.0 still fit.1.0, fit_more legs later fit.0 to pdus still fit.1.1))

-- sends one after another: the first sends on each leg rise on
pub rises_each : (c : Choices) (pdus : List Pdu) (legs : LegsState) (from to : ℕ) (cell : Cell) → Fit legs from to pdus
    → RisesTo from (sent_on (leg_at legs cell))
    → RisesTo to (sent_on (leg_at (send_each c pdus legs).0 cell))
rises_each c [] legs from to cell fit is = rises_weaker from to (sent_on (leg_at legs cell)) fit is
rises_each c (pdu ∷ pdus) legs from to cell fit is =
    rises_each c pdus (send_one c pdu legs).0 fit.0 to cell (fit_more legs (send_one c pdu legs).0 fit.0 to pdus (one_still c pdu legs) fit.1.1) (rises_one c pdu legs from fit.0 cell fit.1.0 is)

-- ---- repeats were sent before

-- what is marked as a repeat on the far leg was put before: on the own leg, or on the far one under a lower number
abbrev pub MarkedBefore : List Sent → List Sent → Type 0
MarkedBefore own far =
    (number count : ℕ) → slice_get far number ≡ Some (record { count = Some count; repeat = true }) → (is_among count own ≡ true) ⊎ (is_among count (take number far) ≡ true)

take_whole : (xs ys : List Sent) → take (length xs) (xs ++ ys) ≡ xs
take_whole xs ys = take-append-le (length xs) xs ys (omega arith) ∙ take_all (length xs) xs (omega arith)

-- what was put on a leg is on the one or the other
put_parts : (own : Cell) (legs : LegsState) (count : ℕ) → was_put legs count ≡ true
    → (is_among count (sent_on (leg_at legs own)) ≡ true) ⊎ (is_among count (sent_on (leg_at legs (other_cell own))) ≡ true)
put_parts Mcg legs count there = or_parts (is_among count (sent_on legs.mcg)) (is_among count (sent_on legs.scg)) there
put_parts Scg legs count there =
    elim (or_parts (is_among count (sent_on legs.mcg)) (is_among count (sent_on legs.scg)) there) [ inl at ↦ inr at | inr at ↦ inl at ]

marks_one : (c : Choices) (pdu : Pdu) (legs : LegsState) (own : Cell) → MarkedBefore (sent_on (leg_at legs own)) (sent_on (leg_at legs (other_cell own)))
    → MarkedBefore (sent_on (leg_at (send_one c pdu legs).0 own)) (sent_on (leg_at (send_one c pdu legs).0 (other_cell own)))
marks_one c pdu legs own is = λ number count at.
    elim (one_more c pdu legs (other_cell own)) [
      | inl same ↦ old number count (subst (λ (xs : List Sent). slice_get xs number ≡ Some (again count)) same at) (ap (take number) same)
      | inr more ↦ elim (get_cases before s (again count) number (subst (λ (xs : List Sent). slice_get xs number ≡ Some (again count)) more at)) [
        | inl earlier ↦ old number count earlier (ap (take number) more ∙ take-append-le number before (s ∷ []) (omega (arith, slice_get_within before number (again count) earlier)))
        | inr last ↦ elim (put_parts own legs count (put count last.1)) [
          | inl there ↦ inl (among_more count (sent_on (leg_at legs own)) _ s (one_more c pdu legs own) there)
          | inr there ↦ inr (ap (is_among count) (ap (take number) more ∙ ap (λ (k : ℕ). take k (before ++ s ∷ [])) last.0 ∙ take_whole before (s ∷ [])) ∙ there)
        ]
      ]
    ]
  where
    before : List Sent
    before = sent_on (leg_at legs (other_cell own))

    s : Sent
    s = record { count = pdu.0; repeat = is_repeat (with_send legs) pdu.0 }

    again : ℕ → Sent
    again count = record { count = Some count; repeat = true }

    put : (count : ℕ) → s ≡ again count → was_put legs count ≡ true
    put count same =
        let tag : pdu.0 ≡ Some count = ap (λ (x : Sent). x.count) same in
        sym (repeat_is legs count) ∙ ap (is_repeat (with_send legs)) (sym tag) ∙ ap (λ (x : Sent). x.repeat) same

    old : (number count : ℕ) → slice_get before number ≡ Some (again count)
        → take number (sent_on (leg_at (send_one c pdu legs).0 (other_cell own))) ≡ take number before
        → (is_among count (sent_on (leg_at (send_one c pdu legs).0 own)) ≡ true) ⊎ (is_among count (take number (sent_on (leg_at (send_one c pdu legs).0 (other_cell own)))) ≡ true)
    old number count at front =
        elim (is number count at) [
          | inl there ↦ inl (among_more count (sent_on (leg_at legs own)) _ s (one_more c pdu legs own) there)
          | inr there ↦ inr (ap (is_among count) front ∙ there)
        ]

-- sends one after another: each is marked as a repeat only if its COUNT was put before
pub marks_each : (c : Choices) (pdus : List Pdu) (legs : LegsState) (own : Cell)
    → MarkedBefore (sent_on (leg_at legs own)) (sent_on (leg_at legs (other_cell own)))
    → MarkedBefore (sent_on (leg_at (send_each c pdus legs).0 own)) (sent_on (leg_at (send_each c pdus legs).0 (other_cell own)))
marks_each c [] legs own is = is
marks_each c (pdu ∷ pdus) legs own is = marks_each c pdus (send_one c pdu legs).0 own (marks_one c pdu legs own is)

-- by the COUNTs of the own leg
among_counts : (count : ℕ) (sent : List Sent) → has_count count (map (λ (s : Sent). s.count) sent) ≡ is_among count sent
among_counts count [] = refl
among_counts count (s ∷ sent) = rw (among_counts count sent) refl

pub marks_of_legs : (own far tun : List Sent) (air : List (Option ℕ)) → map (λ (s : Sent). s.count) own ≡ air → far ≡ tun → MarkedBefore own far
    → MarksSentBefore air tun
marks_of_legs own far tun air own_is far_is is = λ number count at.
    elim (is number count (ap (λ (xs : List Sent). slice_get xs number) far_is ∙ at)) [
      | inl there ↦ inl (ap (has_count count) (sym own_is) ∙ among_counts count own ∙ there)
      | inr there ↦ inr (ap (λ (xs : List Sent). is_among count (take number xs)) (sym far_is) ∙ there)
    ]

pub marks_on_legs : (own far tun : List Sent) (air : List (Option ℕ)) → map (λ (s : Sent). s.count) own ≡ air → far ≡ tun → MarksSentBefore air tun
    → MarkedBefore own far
marks_on_legs own far tun air own_is far_is is = λ number count at.
    elim (is number count (ap (λ (xs : List Sent). slice_get xs number) (sym far_is) ∙ at)) [
      | inl there ↦ inl (sym (among_counts count own) ∙ ap (has_count count) own_is ∙ there)
      | inr there ↦ inr (ap (λ (xs : List Sent). is_among count (take number xs)) far_is ∙ there)
    ]
