-- What stands on each link after an event.
use Rattle.std.proofs.Common.{ℕ, zero, suc, ◌≡◌, ◌<◌, ◌++◌, true, List, [], ◌∷◌, Option, Some, None, length, refl, sym, ap, ◌∙◌, arith, inl, inr, append_assoc, slice_get}
use Rattle.std.specs.Prelude.{if◌then◌else◌, fold, remove, replicate, slice_index_or}
use Rattle.std.specs.List.{flat_map}
use Rattle.std.proofs.lemmas.List.{get_or-set_same, get_or-set_other, length-set, append-nil}
use Rattle.std.proofs.lemmas.Bool.{cases_Bool, eqb-true, eq-eqb}
use Rattle.dc_base.specs.declared.nodes.Node.{Node}
use Rattle.dc_base.specs.declared.nodes.Node.TheVariants.{T, M, A, B}
use Rattle.dc_base.specs.declared.nodes.Class.{Class}
use Rattle.dc_base.specs.declared.nodes.Class.TheVariants.{Ctl, Feed, Air, Tun}
use Rattle.dc_base.specs.declared.nodes.LinkId.{LinkId}
use Rattle.dc_base.specs.declared.flights.Flight.{Flight}
use Rattle.dc_base.specs.declared.events.Line.{Line}
use Rattle.dc_base.specs.Nodes.{node_number}
use Rattle.dc_base.specs.Links.{class_number, is_same_link, link_number}
use Rattle.transcript.specs.Transcript.{Entry, sends}
use Rattle.transcript.specs.Content.{given, content, content_after, without_taken, on_link, put_on, place_taken}
use Rattle.std.specs.Option.{option_map}
use Rattle.transcript.specs.Claims.{step_answer}
use Rattle.dc_base.specs.declared.answers.Answer.TheVariants as answer
use Rattle.dc_base.specs.declared.events.Event.TheVariants.{Step}
use Rattle.transcript.proofs.Growing.{content-next}
use Rattle.master_runs.specs.Links.{Links, on, with_flights, put_on_one, taken_out, moved}

-- nothing stands in a list of nothing
pub none_there : {X : Type 0} (n i : ℕ) (x : X) → slice_index_or (replicate n x) i x ≡ x
none_there zero i x = refl
none_there (suc n) zero x = refl
none_there (suc n) (suc i) x = none_there n i x

-- a node has its number below 4
node_small : (n : Node) → node_number n < 4
node_small T = omega arith
node_small M = omega arith
node_small A = omega arith
node_small B = omega arith

-- and so has a class
class_small : (c : Class) → class_number c < 4
class_small Ctl = omega arith
class_small Feed = omega arith
class_small Air = omega arith
class_small Tun = omega arith

-- each link has its number below 64
link_small : (l : LinkId) → link_number l < 64
link_small l = let a = node_small l.from in let b = node_small l.to in let k = class_small l.class in omega (arith, a, b, k)

-- what stands on a link after another has these flights
on-with : (links : Links) (k l : LinkId) (fs : List Flight) → length links ≡ 64 → on (with_flights links k fs) l ≡ (if is_same_link l k then fs else on links l)
on-with links k l fs long =
    let small = link_small k in
    elim (cases_Bool (is_same_link l k)) [
      | inl same ↦ rw same (
          let is : link_number l ≡ link_number k = eqb-true (link_number l) (link_number k) same in
          ap (λ i. slice_index_or (with_flights links k fs) i []) is
          ∙ get_or-set_same links (link_number k) fs [] (omega (arith, small, long)))
      | inr other ↦ rw other (get_or-set_other links (link_number k) (link_number l) fs [] (λ is. let yes' : is_same_link l k ≡ true = eq-eqb (link_number l) (link_number k) is in absurd cc))
    ]

-- one flight is put on its link
on-put : (links : Links) (s : LinkId × Flight) (l : LinkId) → length links ≡ 64 → on (put_on_one links s) l ≡ on links l ++ on_link l s
on-put links s l long =
    on-with links s.0 l (on links s.0 ++ s.1 ∷ []) long
    ∙ elim (cases_Bool (is_same_link l s.0)) [
      | inl same ↦ rw same (
          let is : link_number s.0 ≡ link_number l = sym (eqb-true (link_number l) (link_number s.0) same) in
          ap (λ i. slice_index_or links i [] ++ s.1 ∷ []) is)
      | inr other ↦ rw other (sym (append-nil (on links l)))
    ]

-- and so are several
on-puts : (xs : List (LinkId × Flight)) (links : Links) (l : LinkId) → length links ≡ 64 → on (fold put_on_one links xs) l ≡ on links l ++ flat_map (on_link l) xs
on-puts [] links l long = sym (append-nil (on links l))
on-puts (x ∷ xs) links l long =
    on-puts xs (put_on_one links x) l (length-set links (link_number x.0) (on links x.0 ++ x.1 ∷ []) ∙ long)
    ∙ ap (λ fs. fs ++ flat_map (on_link l) xs) (on-put links x l long)
    ∙ append_assoc (on links l) (on_link l x) (flat_map (on_link l) xs)

-- a flight is taken from its link
on-taken_out : (links : Links) (place : Option (LinkId × ℕ)) (l : LinkId) → length links ≡ 64 → on (taken_out links place) l ≡ without_taken l place (on links l)
on-taken_out links None l long = refl
on-taken_out links (Some place) l long =
    on-with links place.0 l (remove (on links place.0) place.1) long
    ∙ elim (cases_Bool (is_same_link l place.0)) [
      | inl same ↦ rw same (
          let is : link_number place.0 ≡ link_number l = sym (eqb-true (link_number l) (link_number place.0) same) in
          ap (λ i. remove (slice_index_or links i []) place.1) is)
      | inr other ↦ rw other refl
    ]

-- there are as many links when one is taken
length-taken_out : (links : Links) (place : Option (LinkId × ℕ)) → length (taken_out links place) ≡ length links
length-taken_out links None = refl
length-taken_out links (Some place) = length-set links (link_number place.0) (remove (on links place.0) place.1)

-- and when flights are put
length-puts : (xs : List (LinkId × Flight)) (links : Links) → length (fold put_on_one links xs) ≡ length links
length-puts [] links = refl
length-puts (x ∷ xs) links = length-puts xs (put_on_one links x) ∙ length-set links (link_number x.0) (on links x.0 ++ x.1 ∷ [])

-- what stands on a link then: what was there without the flight that was taken, and what was put there
pub on_moved : (links : Links) (place : Option (LinkId × ℕ)) (lines : List Line) (l : LinkId) → length links ≡ 64
    → on (moved links place lines) l ≡ without_taken l place (on links l) ++ put_on l lines
on_moved links place lines l long =
    on-puts (sends lines) (taken_out links place) l (length-taken_out links place ∙ long)
    ∙ ap (λ fs. fs ++ put_on l lines) (on-taken_out links place l long)

-- so there are after an event
pub length_moved : (links : Links) (place : Option (LinkId × ℕ)) (lines : List Line) → length (moved links place lines) ≡ length links
length_moved links place lines = length-puts (sends lines) (taken_out links place) ∙ length-taken_out links place

-- so the links keep what the transcript says
pub contents-next : (t : List Entry) (e : Entry) (links : Links) → length links ≡ 64 → ((l : LinkId) → content l t ≡ on links l)
    → (l : LinkId) → content l (t ++ e ∷ []) ≡ on (moved links (place_taken e.event e.answer) e.lines) l
contents-next t e links long same l =
    content-next l t e ∙ ap (λ fs. content_after l fs e) (same l) ∙ sym (on_moved links (place_taken e.event e.answer) e.lines l long)

-- nodes and classes of one number are one
node_is : (m n : Node) → node_number m ≡ node_number n → m ≡ n
node_is T T e = refl
node_is T M e = absurd (omega (arith, e))
node_is T A e = absurd (omega (arith, e))
node_is T B e = absurd (omega (arith, e))
node_is M T e = absurd (omega (arith, e))
node_is M M e = refl
node_is M A e = absurd (omega (arith, e))
node_is M B e = absurd (omega (arith, e))
node_is A T e = absurd (omega (arith, e))
node_is A M e = absurd (omega (arith, e))
node_is A A e = refl
node_is A B e = absurd (omega (arith, e))
node_is B T e = absurd (omega (arith, e))
node_is B M e = absurd (omega (arith, e))
node_is B A e = absurd (omega (arith, e))
node_is B B e = refl

-- a class is known by its number
class_is : (m n : Class) → class_number m ≡ class_number n → m ≡ n
class_is Ctl Ctl e = refl
class_is Ctl Feed e = absurd (omega (arith, e))
class_is Ctl Air e = absurd (omega (arith, e))
class_is Ctl Tun e = absurd (omega (arith, e))
class_is Feed Ctl e = absurd (omega (arith, e))
class_is Feed Feed e = refl
class_is Feed Air e = absurd (omega (arith, e))
class_is Feed Tun e = absurd (omega (arith, e))
class_is Air Ctl e = absurd (omega (arith, e))
class_is Air Feed e = absurd (omega (arith, e))
class_is Air Air e = refl
class_is Air Tun e = absurd (omega (arith, e))
class_is Tun Ctl e = absurd (omega (arith, e))
class_is Tun Feed e = absurd (omega (arith, e))
class_is Tun Air e = absurd (omega (arith, e))
class_is Tun Tun e = refl

-- links of one number are one link
pub same_link : (l k : LinkId) → is_same_link l k ≡ true → l ≡ k
same_link l k same =
    let is : link_number l ≡ link_number k = eqb-true (link_number l) (link_number k) same in
    let a = node_small l.from in let b = node_small l.to in let c = node_small k.from in let d = node_small k.to in
    let from = node_is l.from k.from (omega (arith, is, a, b, c, d)) in
    let to = node_is l.to k.to (omega (arith, is, a, b, c, d)) in
    let class = class_is l.class k.class (omega (arith, is, a, b, c, d)) in
    ap (λ n. record { from = n; to = l.to; class = l.class }) from
    ∙ ap (λ n. record { from = k.from; to = n; class = l.class }) to
    ∙ ap (λ n. record { from = k.from; to = k.to; class = n }) class

-- a step takes the flight that stands there
module _ (t : List Entry) (links : Links) (contents : (l : LinkId) → content l t ≡ on links l) (l : LinkId) (i : ℕ) (f : Flight) (at : slice_get (on links l) i ≡ Some f) where
  -- if it is answered ok it gives it
  pub step_given : (lines : List Line) → given t (record { event = Step l i; answer = answer.Ok; lines = lines }) ≡ Some (l, f)
  step_given lines = ap (λ fs. option_map (λ f. (l, f)) (slice_get fs i)) (contents l) ∙ ap (option_map (λ f. (l, f))) at

  -- the answer that is due is that to the flight
  pub step_due : step_answer t l i (slice_get (content l t) i) ≡ step_answer t l i (Some f)
  step_due = ap (λ fs. step_answer t l i (slice_get fs i)) (contents l) ∙ ap (step_answer t l i) at
