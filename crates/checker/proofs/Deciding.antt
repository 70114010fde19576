-- What the checker has of a past, and what the claims read of it.
use Rattle.std.proofs.Common.{ℕ, zero, suc, ◌≡◌, ◌<◌, ◌≤◌, ◌==◌, ◌++◌, Bool, true, false, List, [], ◌∷◌, Option, Some, None, Result, Ok, Err, length, slice_get, refl, sym, ap, ◌∙◌, inl, inr, arith}
use Rattle.std.specs.Prelude.{◌&&◌, if◌then◌else◌, is_none, nat_lt, not, slice_index_or, IfOk, OnOk}
use Rattle.std.specs.Option.{option_map}
use Rattle.std.proofs.lemmas.Bool.Decides.{nat_tests}
use Rattle.std.proofs.lemmas.Option.{slice_get_cases}
use Rattle.dc_base.specs.Links.{class_number, is_ordered, is_tunnel}
use Rattle.dc_base.specs.declared.answers.Answer.{Answer}
use Rattle.dc_base.specs.declared.answers.Answer.TheVariants as answer
use Rattle.dc_base.specs.declared.answers.Refusal.TheVariants as refusal
use Rattle.dc_base.specs.declared.events.Event.{Event}
use Rattle.dc_base.specs.declared.events.Event.TheVariants as event
use Rattle.dc_base.specs.declared.events.Header.{Header}
use Rattle.dc_base.specs.declared.events.Line.{Line}
use Rattle.dc_base.specs.declared.flights.Flight.{Flight}
use Rattle.dc_base.specs.declared.nodes.Class.{Class}
use Rattle.dc_base.specs.declared.nodes.Class.TheVariants.{Ctl, Feed, Air, Tun}
use Rattle.dc_base.specs.declared.nodes.LinkId.{LinkId}
use Rattle.transcript.specs.Content.{place_taken, put_on, without_taken}
use Rattle.claims.specs.Causes.{first_of_them, is_aged, step_due, tunnel_due}
use Rattle.claims.specs.Judged.{judged}
use Rattle.claims.specs.Links.{find_at}
use Rattle.claims.specs.Noted.{noted}
use Rattle.claims.specs.OnLink.{is_consequence}
use Rattle.claims.specs.Past.{Past, new_past}
use Rattle.claims.specs.Planned.{is_planned}
use Rattle.checker_state.specs.Due.{decided_due, is_of_link, with_policies, without_age}
use Rattle.checker_state.specs.Steps.{flight_at, kept_judged, kept_line}
use Rattle.checker_state.proofs.KeptDue.{due_kept}
use Rattle.checker_state.proofs.KeptEvents.{judged_kept}
use Rattle.checker_state.proofs.KeptLines.{line_kept}
use Rattle.checker_state.proofs.KeptPlans.{planned_kept}
use Rattle.checker.specs.Decided.{broken_by_line, is_on_link}
use Rattle.checker.specs.Parts.{ArePartsOf, Parts, Queues, flights_on}
use Rattle.checker.specs.declared.claim.Claim.{Claim}
use Rattle.checker.specs.declared.claim.Claim.TheVariants.{Consequence, OnLink, Planned}
use Rattle.checker.proofs.Contents.{content_judged, content_noted, flight_there, no_flight}

-- ---- the flights on the links

-- one more empty queue
pub empty_more : (qs : Queues) → ((n : ℕ) → slice_index_or qs n [] ≡ []) → (n : ℕ) → slice_index_or (qs ++ [] ∷ []) n [] ≡ []
empty_more [] empty zero = refl
empty_more [] empty (suc n) = refl
empty_more (q ∷ qs) empty zero = empty 0
empty_more (q ∷ qs) empty (suc n) = empty_more qs (λ k. empty (suc k)) n

-- an event with its answer
judged_parts : (s t : Parts) (p : Past) (e : Event) (a : Answer) (x : Option (LinkId × Flight)) → ArePartsOf s p → x ≡ flight_at e p
    → ((l : LinkId) → flights_on l t.queues ≡ without_taken l (place_taken e a) (flights_on l s.queues)) → t.state ≡ kept_judged e a x s.state
    → ArePartsOf t (judged e a p)
judged_parts s t p e a x are at taken judges = record {
  standing = λ l. content_judged l e a p ∙ ap (without_taken l (place_taken e a)) (are.standing l) ∙ sym (taken l);
  keeps = judges ∙ ap (λ y. kept_judged e a y s.state) at ∙ ap (kept_judged e a (flight_at e p)) are.keeps ∙ sym (judged_kept e a p);
}

pub judged_if : (s : Parts) (qs : Queues) (u : Past) (p : Past) (e : Event) (a : Answer) (x : Option (LinkId × Flight)) → ArePartsOf s p → x ≡ flight_at e p
    → ((l : LinkId) → flights_on l qs ≡ without_taken l (place_taken e a) (flights_on l s.queues)) → u ≡ kept_judged e a x s.state
    → ArePartsOf (record { queues = qs; state = u }) (judged e a p)
judged_if s qs u p e a x are at taken judges = judged_parts s (record { queues = qs; state = u }) p e a x are at taken judges

-- a line
noted_parts : (s t : Parts) (p : Past) (x : Line) → ArePartsOf s p
    → ((l : LinkId) → flights_on l t.queues ≡ flights_on l s.queues ++ put_on l (x ∷ [])) → t.state ≡ kept_line x s.state → ArePartsOf t (noted p x)
noted_parts s t p x are put notes = record {
  standing = λ l. content_noted l p x ∙ ap (λ fs. fs ++ put_on l (x ∷ [])) (are.standing l) ∙ sym (put l);
  keeps = notes ∙ ap (kept_line x) are.keeps ∙ sym (line_kept x p);
}

-- if there was memory for it
pub noted_if : {E : Type 0} (r : Result (Unit {0}) E) (s : Parts) (qs : Queues) (u : Past) (p : Past) (x : Line) → ArePartsOf s p
    → ((l : LinkId) → flights_on l qs ≡ flights_on l s.queues ++ put_on l (x ∷ [])) → OnOk r (u ≡ kept_line x s.state)
    → OnOk r (ArePartsOf (record { queues = qs; state = u }) (noted p x))
noted_if (Ok v) s qs u p x are put notes = noted_parts s (record { queues = qs; state = u }) p x are put notes
noted_if (Err e) s qs u p x are put notes = tt

-- nothing happened yet
pub new_parts : (qs : Queues) (u : Past) (h : Header) (policies : ℕ) → ((l : LinkId) → flights_on l qs ≡ []) → u ≡ new_past h 0
    → ArePartsOf (record { queues = qs; state = u }) (new_past h policies)
new_parts qs u h policies none is = record { standing = λ l. sym (none l); keeps = is }

-- ---- the answer to a step

-- the flight at a place of a link
pub found_there : (s : Parts) (p : Past) (l : LinkId) (i : ℕ) → ArePartsOf s p
    → find_at l i p.standing ≡ option_map (λ f. (l, f)) (slice_get (flights_on l s.queues) i)
found_there s p l i are = flight_there p l i ∙ ap (λ fs. option_map (λ f. (l, f)) (slice_get fs i)) (are.standing l)

aged_or : (first aged : Bool) → without_age (first_of_them ((first, refusal.NotFirst) ∷ (aged, refusal.Aged) ∷ [])) ≡ (if first then answer.No refusal.NotFirst else answer.Ok)
aged_or true aged = refl
aged_or false true = refl
aged_or false false = refl

step_is : (p : Past) (l : LinkId) (i : ℕ) (o : Option (LinkId × Flight)) (gone : Bool) → is_none o ≡ gone
    → without_age (step_due p l i o) ≡ (if gone then answer.No refusal.NoFlight else if is_ordered l.class && nat_lt 0 i then answer.No refusal.NotFirst else answer.Ok)
step_is p l i None gone is = ap (λ g. if g then answer.No refusal.NoFlight else if is_ordered l.class && nat_lt 0 i then answer.No refusal.NotFirst else answer.Ok) is
step_is p l i (Some x) gone is =
    aged_or (is_ordered l.class && nat_lt 0 i) (is_aged p l x.1)
    ∙ ap (λ g. if g then answer.No refusal.NoFlight else if is_ordered l.class && nat_lt 0 i then answer.No refusal.NotFirst else answer.Ok) is

-- ---- the answer to a loss or a copy

tunnel_class : (c : Class) → (class_number c == class_number Tun) ≡ is_tunnel c
tunnel_class Ctl = refl
tunnel_class Feed = refl
tunnel_class Air = refl
tunnel_class Tun = refl

none_past : {X : Type 0} (xs : List X) (i : ℕ) → length xs ≤ i → is_none (slice_get xs i) ≡ true
none_past xs i past = elim (slice_get_cases xs i).1 [ inl there ↦ absurd (omega (arith, there.1, past)) | inr none ↦ ap is_none none.1 ]

some_within : {X : Type 0} (xs : List X) (i : ℕ) → i < length xs → is_none (slice_get xs i) ≡ false
some_within xs i within = elim (slice_get_cases xs i).1 [ inl there ↦ ap is_none there.2 | inr none ↦ absurd (omega (arith, none.0, within)) ]

-- whether a flight is missing, by what the checker has
missing : (s : Parts) (p : Past) (l : LinkId) (i : ℕ) → ArePartsOf s p → is_none (find_at l i p.standing) ≡ is_none (slice_get (flights_on l s.queues) i)
missing s p l i are = no_flight p l i ∙ ap (λ fs. is_none (slice_get fs i)) (are.standing l)

-- the answer, by whether it is a tunnel and whether the flight is missing
abbrev answer_of : Bool → Bool → Answer
answer_of tunnel gone = if not tunnel then answer.No refusal.NotTunnel else if gone then answer.No refusal.NoFlight else answer.Ok

answer_is : (p : Past) (l : LinkId) (i : ℕ) (gone : Bool) → is_tunnel l.class ≡ true → is_none (find_at l i p.standing) ≡ gone → tunnel_due p l i ≡ answer_of true gone
answer_is p l i gone tunnel is =
    ap (λ t. answer_of t (is_none (find_at l i p.standing))) (tunnel_class l.class ∙ tunnel) ∙ ap (answer_of true) is

pub due_missing : (s : Parts) (p : Past) (l : LinkId) (i : ℕ) → ArePartsOf s p → is_tunnel l.class ≡ true → length (flights_on l s.queues) ≤ i
    → tunnel_due p l i ≡ answer.No refusal.NoFlight
due_missing s p l i are tunnel past = answer_is p l i true tunnel (missing s p l i are ∙ none_past (flights_on l s.queues) i past)

pub due_there : (s : Parts) (p : Past) (l : LinkId) (i : ℕ) → ArePartsOf s p → is_tunnel l.class ≡ true → i < length (flights_on l s.queues)
    → tunnel_due p l i ≡ answer.Ok
due_there s p l i are tunnel within = answer_is p l i false tunnel (missing s p l i are ∙ some_within (flights_on l s.queues) i within)

-- a step, where no flight is
pub step_missing : (s : Parts) (p : Past) (a : Answer) (l : LinkId) (i : ℕ) → ArePartsOf s p → length (flights_on l s.queues) ≤ i
    → decided_due a p (event.Step l i) ≡ answer.No refusal.NoFlight
step_missing s p a l i are past =
    step_is (with_policies a p) l i (find_at l i p.standing) true (missing s p l i are ∙ none_past (flights_on l s.queues) i past)

-- or one is
pub step_there : (s : Parts) (p : Past) (a : Answer) (l : LinkId) (i : ℕ) → ArePartsOf s p → i < length (flights_on l s.queues)
    → decided_due a p (event.Step l i) ≡ (if is_ordered l.class && nat_lt 0 i then answer.No refusal.NotFirst else answer.Ok)
step_there s p a l i are within =
    step_is (with_policies a p) l i (find_at l i p.standing) false (missing s p l i are ∙ some_within (flights_on l s.queues) i within)

-- a link that keeps its order, and another
pub not_first : (s : Parts) (p : Past) (a : Answer) (l : LinkId) (i : ℕ) → ArePartsOf s p → i < length (flights_on l s.queues) → is_ordered l.class ≡ true → 0 < i
    → decided_due a p (event.Step l i) ≡ answer.No refusal.NotFirst
not_first s p a l i are within ordered later =
    let past : nat_lt 0 i ≡ true = grind (arith, nat_tests) in
    step_there s p a l i are within
    ∙ ap (λ (b : Bool). if b && nat_lt 0 i then answer.No refusal.NotFirst else answer.Ok) ordered
    ∙ ap (λ (b : Bool). if b then answer.No refusal.NotFirst else answer.Ok) past

pub the_first : (s : Parts) (p : Past) (a : Answer) (l : LinkId) (i : ℕ) → ArePartsOf s p → i < length (flights_on l s.queues) → is_ordered l.class ≡ true → i ≤ 0
    → decided_due a p (event.Step l i) ≡ answer.Ok
the_first s p a l i are within ordered first =
    let past : nat_lt 0 i ≡ false = grind (arith, nat_tests) in
    step_there s p a l i are within
    ∙ ap (λ (b : Bool). if b && nat_lt 0 i then answer.No refusal.NotFirst else answer.Ok) ordered
    ∙ ap (λ (b : Bool). if b then answer.No refusal.NotFirst else answer.Ok) past

pub unordered : (s : Parts) (p : Past) (a : Answer) (l : LinkId) (i : ℕ) → ArePartsOf s p → i < length (flights_on l s.queues) → is_ordered l.class ≡ false
    → decided_due a p (event.Step l i) ≡ answer.Ok
unordered s p a l i are within ordered =
    step_there s p a l i are within
    ∙ ap (λ (b : Bool). if b && nat_lt 0 i then answer.No refusal.NotFirst else answer.Ok) ordered

-- an event of no link
due_by_state : (s : Parts) (p : Past) (a : Answer) (e : Event) → ArePartsOf s p → is_of_link e ≡ false → decided_due a s.state e ≡ decided_due a p e
due_by_state s p a e are own = ap (λ (u : Past). decided_due a u e) are.keeps ∙ due_kept a p e own

pub due_if : {E : Type 0} (r : Result Answer E) (s : Parts) (p : Past) (a : Answer) (e : Event) → ArePartsOf s p → is_of_link e ≡ false
    → IfOk r (λ made. made ≡ decided_due a s.state e) → IfOk r (λ made. made ≡ decided_due a p e)
due_if (Ok made) s p a e are own h = h ∙ due_by_state s p a e are own
due_if (Err f) s p a e are own h = tt

-- ---- the first claim that a line breaks

-- by whether the claims of lines hold
abbrev pub first_of : Bool → Bool → Bool → Option Claim
first_of consequence linked planned =
    if not consequence then Some Consequence else if not linked then Some OnLink else if not planned then Some Planned else None

pub broken_is : (p : Past) (x : Line) (a b c : Bool) → is_consequence p x ≡ a → is_on_link p x ≡ b → is_planned p x ≡ c → broken_by_line p x ≡ first_of a b c
broken_is p x a b c consequence linked planned =
    ap (λ k. first_of k (is_on_link p x) (is_planned p x)) consequence ∙ ap (λ k. first_of a k (is_planned p x)) linked ∙ ap (first_of a b) planned

-- the plans that were drawn are kept
pub planned_by_state : (s : Parts) (p : Past) (x : Line) → ArePartsOf s p → is_planned p x ≡ is_planned s.state x
planned_by_state s p x are = sym (ap (λ (u : Past). is_planned u x) are.keeps ∙ planned_kept p x)
