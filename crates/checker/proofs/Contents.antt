-- By the past of the claims there stands on each link what stood there before, without what was taken and with what was sent.
use Rattle.std.proofs.Common.{ℕ, zero, suc, ◌≡◌, ◌<◌, ◌==◌, arith, ◌++◌, true, false, List, [], ◌∷◌, Option, Some, None, slice_get, refl, sym, ap, ◌∙◌, inl, inr}
use Rattle.std.specs.Prelude.{if◌then◌else◌, is_none, remove}
use Rattle.std.specs.List.{filter_map, flat_map}
use Rattle.std.specs.Option.{option_map}
use Rattle.std.proofs.lemmas.Bool.{cases_Bool, eqb-true}
use Rattle.std.proofs.lemmas.List.{append-nil}
use Rattle.dc_base.specs.Links.{class_number, is_same_link, link_number}
use Rattle.dc_base.specs.Nodes.{node_number}
use Rattle.dc_base.specs.declared.answers.Answer.{Answer}
use Rattle.dc_base.specs.declared.events.Event.{Event}
use Rattle.dc_base.specs.declared.events.Line.{Line}
use Rattle.dc_base.specs.declared.flights.Flight.{Flight}
use Rattle.dc_base.specs.declared.nodes.Class.{Class}
use Rattle.dc_base.specs.declared.nodes.Class.TheVariants.{Ctl, Feed, Air, Tun}
use Rattle.dc_base.specs.declared.nodes.LinkId.{LinkId}
use Rattle.dc_base.specs.declared.nodes.Node.{Node}
use Rattle.dc_base.specs.declared.nodes.Node.TheVariants.{T, M, A, B}
use Rattle.transcript.specs.Content.{on_link, place_taken, put_on, without_taken}
use Rattle.transcript.specs.Transcript.{sends, sends_of}
use Rattle.claims.specs.Links.{find_at, without}
use Rattle.claims.specs.Past.{Past}
use Rattle.claims.specs.Reading.{content}
use Rattle.claims.specs.Judged.{judged}
use Rattle.claims.specs.Noted.{noted}
use Rattle.checker.proofs.Moments.{Moment, left_after}
use Rattle.checker.proofs.Keeping.{judged_stands, noted_stands}

-- the flights of a link among flights with their links
abbrev on_this : LinkId → LinkId × Flight → Option Flight
on_this l s = if is_same_link l s.0 then Some s.1 else None

abbrev of_link : LinkId → List (LinkId × Flight) → List Flight
of_link l ss = filter_map (on_this l) ss

of_link-append : (l : LinkId) (xs ys : List (LinkId × Flight)) → of_link l (xs ++ ys) ≡ of_link l xs ++ of_link l ys
of_link-append l [] ys = refl
of_link-append l (x ∷ xs) ys =
    elim (cases_Bool (is_same_link l x.0)) [
      | inl here ↦ rw here (ap (λ fs. x.1 ∷ fs) (of_link-append l xs ys))
      | inr there ↦ rw there (of_link-append l xs ys)
    ]

-- those that are put on a link
of_sends : (l : LinkId) (ss : List (LinkId × Flight)) → of_link l ss ≡ flat_map (on_link l) ss
of_sends l [] = refl
of_sends l (s ∷ ss) =
    elim (cases_Bool (is_same_link l s.0)) [ inl here ↦ rw here (ap (λ fs. s.1 ∷ fs) (of_sends l ss)) | inr there ↦ rw there (of_sends l ss) ]

-- a link that is the same as another is so to any
same_to : (l k m : LinkId) → is_same_link k m ≡ true → is_same_link l k ≡ is_same_link l m
same_to l k m same = ap (λ n. link_number l == n) (eqb-true (link_number k) (link_number m) same)

same_from : (l k m : LinkId) → is_same_link l k ≡ true → is_same_link l m ≡ is_same_link k m
same_from l k m same = ap (λ n. n == link_number m) (eqb-true (link_number l) (link_number k) same)

-- one flight less
of_without : (l k : LinkId) (i : ℕ) (ss : List (LinkId × Flight)) → of_link l (without k i ss) ≡ (if is_same_link l k then remove (of_link l ss) i else of_link l ss)
of_without l k zero [] = elim (cases_Bool (is_same_link l k)) [ inl same ↦ rw same refl | inr apart ↦ rw apart refl ]
of_without l k (suc i) [] = elim (cases_Bool (is_same_link l k)) [ inl same ↦ rw same refl | inr apart ↦ rw apart refl ]
of_without l k zero (s ∷ ss) =
    elim (cases_Bool (is_same_link k s.0)) [
      | inl taken ↦
          let alike = same_to l k s.0 taken in
          elim (cases_Bool (is_same_link l s.0)) [
            | inl here ↦ rw taken (rw here (rw (alike ∙ here) refl))
            | inr there ↦ rw taken (rw there (rw (alike ∙ there) refl))
          ]
      | inr left ↦
          let rest = of_without l k zero ss in
          elim (cases_Bool (is_same_link l k)) [
            | inl same ↦
                let there : is_same_link l s.0 ≡ false = same_from l k s.0 same ∙ left in
                let rest' = rw same at rest in rw left (rw there (rw same rest'))
            | inr apart ↦
                let rest' = rw apart at rest in
                elim (cases_Bool (is_same_link l s.0)) [
                  | inl here ↦ rw left (rw here (rw apart (ap (λ fs. s.1 ∷ fs) rest')))
                  | inr there ↦ rw left (rw there (rw apart rest'))
                ]
          ]
    ]
of_without l k (suc i) (s ∷ ss) =
    elim (cases_Bool (is_same_link k s.0)) [
      | inl taken ↦
          let alike = same_to l k s.0 taken in
          let rest = of_without l k i ss in
          elim (cases_Bool (is_same_link l s.0)) [
            | inl here ↦ let rest' = rw (alike ∙ here) at rest in rw taken (rw here (rw (alike ∙ here) (ap (λ fs. s.1 ∷ fs) rest')))
            | inr there ↦ let rest' = rw (alike ∙ there) at rest in rw taken (rw there (rw (alike ∙ there) rest'))
          ]
      | inr left ↦
          let rest = of_without l k (suc i) ss in
          elim (cases_Bool (is_same_link l k)) [
            | inl same ↦
                let there : is_same_link l s.0 ≡ false = same_from l k s.0 same ∙ left in
                let rest' = rw same at rest in rw left (rw there (rw same rest'))
            | inr apart ↦
                let rest' = rw apart at rest in
                elim (cases_Bool (is_same_link l s.0)) [
                  | inl here ↦ rw left (rw here (rw apart (ap (λ fs. s.1 ∷ fs) rest')))
                  | inr there ↦ rw left (rw there (rw apart rest'))
                ]
          ]
    ]

-- what is left of a link
of_left : (l : LinkId) (place : Option (LinkId × ℕ)) (ss : List (LinkId × Flight)) → of_link l (left_after place ss) ≡ without_taken l place (of_link l ss)
of_left l None ss = refl
of_left l (Some place) ss = of_without l place.0 place.1 ss

-- ---- a step of the past

pub content_judged : (l : LinkId) (e : Event) (a : Answer) (p : Past) → content l (judged e a p) ≡ without_taken l (place_taken e a) (content l p)
content_judged l e a p = ap (λ (m : Moment). of_link l m.standing) (judged_stands e a p) ∙ of_left l (place_taken e a) p.standing

one_send : (x : Line) → sends (x ∷ []) ≡ sends_of x
one_send x = append-nil (sends_of x)

pub content_noted : (l : LinkId) (p : Past) (x : Line) → content l (noted p x) ≡ content l p ++ put_on l (x ∷ [])
content_noted l p x =
    ap (λ (m : Moment). of_link l m.standing) (noted_stands p x) ∙ of_link-append l p.standing (sends_of x)
    ∙ ap (λ fs. content l p ++ fs) (of_sends l (sends_of x) ∙ ap (λ ss. flat_map (on_link l) ss) (sym (one_send x)))

-- whether a flight is at a place of a link
found_none : (l : LinkId) (i : ℕ) (ss : List (LinkId × Flight)) → is_none (find_at l i ss) ≡ is_none (slice_get (of_link l ss) i)
found_none l zero [] = refl
found_none l (suc i) [] = refl
found_none l zero (s ∷ ss) = elim (cases_Bool (is_same_link l s.0)) [ inl here ↦ rw here refl | inr there ↦ rw there (found_none l zero ss) ]
found_none l (suc i) (s ∷ ss) =
    elim (cases_Bool (is_same_link l s.0)) [ inl here ↦ rw here (found_none l i ss) | inr there ↦ rw there (found_none l (suc i) ss) ]

pub no_flight : (p : Past) (l : LinkId) (i : ℕ) → is_none (find_at l i p.standing) ≡ is_none (slice_get (content l p) i)
no_flight p l i = found_none l i p.standing

-- ---- the flight at a place

abbrev node_of : ℕ → Node
node_of n = if n == 0 then T else if n == 1 then M else if n == 2 then A else B

node_back : (x : Node) → node_of (node_number x) ≡ x
node_back T = refl
node_back M = refl
node_back A = refl
node_back B = refl

abbrev class_of : ℕ → Class
class_of n = if n == 0 then Ctl else if n == 1 then Feed else if n == 2 then Air else Tun

class_back : (c : Class) → class_of (class_number c) ≡ c
class_back Ctl = refl
class_back Feed = refl
class_back Air = refl
class_back Tun = refl

node_small : (x : Node) → node_number x < 4
node_small T = omega arith
node_small M = omega arith
node_small A = omega arith
node_small B = omega arith

class_small : (c : Class) → class_number c < 4
class_small Ctl = omega arith
class_small Feed = omega arith
class_small Air = omega arith
class_small Tun = omega arith

-- links with the same number are the same
same_link : (l k : LinkId) → is_same_link l k ≡ true → l ≡ k
same_link l k same =
    let n : link_number l ≡ link_number k = eqb-true (link_number l) (link_number k) same in
    let from : node_number l.from ≡ node_number k.from = omega (arith, node_small l.from, node_small k.from, node_small l.to, node_small k.to) in
    let to : node_number l.to ≡ node_number k.to = omega (arith, node_small l.from, node_small k.from, node_small l.to, node_small k.to) in
    let class : class_number l.class ≡ class_number k.class = omega (arith, node_small l.from, node_small k.from, node_small l.to, node_small k.to) in
    ap (λ (x : Node). record l { from = x }) (sym (node_back l.from) ∙ ap node_of from ∙ node_back k.from)
    ∙ ap (λ (x : Node). record l { from = k.from; to = x }) (sym (node_back l.to) ∙ ap node_of to ∙ node_back k.to)
    ∙ ap (λ (x : Class). record k { class = x }) (sym (class_back l.class) ∙ ap class_of class ∙ class_back k.class)

-- it with the link
abbrev with_link : LinkId → Flight → LinkId × Flight
with_link l f = (l, f)

found_at : (l : LinkId) (i : ℕ) (ss : List (LinkId × Flight)) → find_at l i ss ≡ option_map (with_link l) (slice_get (of_link l ss) i)
found_at l zero [] = refl
found_at l (suc i) [] = refl
found_at l zero (s ∷ ss) = elim (cases_Bool (is_same_link l s.0)) [
  | inl here ↦ rw here (ap (λ (k : LinkId). Some (k, s.1)) (sym (same_link l s.0 here)))
  | inr there ↦ rw there (found_at l zero ss)
]
found_at l (suc i) (s ∷ ss) =
    elim (cases_Bool (is_same_link l s.0)) [ inl here ↦ rw here (found_at l i ss) | inr there ↦ rw there (found_at l (suc i) ss) ]

pub flight_there : (p : Past) (l : LinkId) (i : ℕ) → find_at l i p.standing ≡ option_map (λ f. (l, f)) (slice_get (content l p) i)
flight_there p l i = found_at l i p.standing
