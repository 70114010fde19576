-- What one more entry makes of the bearers, and what is so of a bearer before it is established.
use Rattle.std.proofs.Common.{ℕ, ◌≡◌, ◌≢◌, ◌+◌, ◌<◌, ◌≤◌, ◌⊎◌, ◌==◌, ◌++◌, true, false, List, [], ◌∷◌, Option, Some, None, Bool, refl, sym, ap, ◌∙◌, subst, arith, inl, inr, ◌&&◌, cond, append_assoc, append-nil, ne_eqb, eq-eqb, ⊎_elim, nat_le, le_refl, le-leb, lt_of_le_of_lt, true≢false}
use Rattle.std.proofs.Math.Bool.{and-false}
use Rattle.std.proofs.lemmas.Grind.{flat_map-append}
use Rattle.std.proofs.lemmas.List.Sums.{fold-append, fold_push, sum_by_push}
use Rattle.std.proofs.lemmas.List.Elements.{Contains-push_cases, Contains-append_left, Contains-append_right, Contains-append_cases, Contains-push}
use Rattle.std.proofs.lemmas.Option.{same_Some, none-some}
use Rattle.std.proofs.lemmas.Bool.Decides.{eqb_tells}
use Rattle.std.proofs.lemmas.Bool.{cond-true, cond-false, eqb-true, false_from_ne_true}
use Rattle.std.specs.Prelude.{if◌then◌else◌, fold, filter, map, Contains}
use Rattle.std.specs.List.{flat_map}
use Rattle.dc_base.specs.declared.nodes.Dir.{Dir}
use Rattle.dc_base.specs.declared.nodes.LinkId.{LinkId}
use Rattle.dc_base.specs.declared.flights.Flight.{Flight}
use Rattle.dc_base.specs.declared.records.Plan.{Plan}
use Rattle.dc_base.specs.declared.nodes.Dir.TheVariants.{Ul, Dl}
use Rattle.dc_base.specs.declared.answers.Answer.{Answer}
use Rattle.dc_base.specs.declared.answers.Answer.TheVariants.{Ok}
use Rattle.dc_base.specs.declared.events.Event.{Event}
use Rattle.dc_base.specs.declared.events.Event.TheVariants.{Bearer, Submit}
use Rattle.dc_base.specs.declared.flights.Flight.TheVariants as flight
use Rattle.dc_base.specs.Nodes.{is_same_dir}
use Rattle.dc_base.specs.Links.{is_to, reverse}
use Rattle.transcript.specs.Transcript.{Entry, sends, gathered}
use Rattle.dc_base.specs.declared.nodes.Node.TheVariants.{T, M}
use Rattle.pdcp_pdu.specs.Pdu.{decoded}
use Rattle.transcript.specs.Bearers.{OpenCommand, acked, read_of, Established, established, established_by, generation, is_draw, plans, plan_drawn, latest, is_latest, is_generation_of, submission, submitted, ups, handed, confirms, confirmed, tag_of, tags_sent, command_after, open_command, has_after, is_set, key_in, key_of_item, open_from, is_named, plan_of, is_draw_of, submission_of, confirmed_by, up_of}
use Rattle.transcript.specs.Content.{given}
use Rattle.transcript.proofs.Growing.{gathered-next}
use Rattle.transcript.proofs.Lists.{by_pushes, contains_kept, contains_one, contains-none}

-- the bearers that a plan establishes
abbrev bearers_of : Plan → List Established
bearers_of p = flat_map (established_by p.g) p.items

-- one step of the search for the latest of an identity
abbrev later_of : ℕ → Option Established → Established → Option Established
later_of id found b = if b.id == id then Some b else found

-- ---- one more entry

pub submitted-next : (b : Established) (d : Dir) (t : List Entry) (e : Entry) → submitted b d (t ++ e ∷ []) ≡ submitted b d t ++ submission b d t e
submitted-next b d t e = gathered-next (submission b d) t e

pub handed-next : (b : Established) (d : Dir) (t : List Entry) (e : Entry) → handed b d (t ++ e ∷ []) ≡ handed b d t ++ ups b d t e
handed-next b d t e = gathered-next (ups b d) t e

pub confirmed-next : (b : Established) (d : Dir) (t : List Entry) (e : Entry) → confirmed b d (t ++ e ∷ []) ≡ confirmed b d t ++ confirms b d t e
confirmed-next b d t e = gathered-next (confirms b d) t e

pub tags_sent-next : (l : LinkId) (id g num : ℕ) (t : List Entry) (e : Entry) → tags_sent l id g num (t ++ e ∷ []) ≡ tags_sent l id g num t ++ flat_map (tag_of l id g num) (sends e.lines)
tags_sent-next l id g num t e = gathered-next (λ before e. flat_map (tag_of l id g num) (sends e.lines)) t e

pub plans-next : (t : List Entry) (e : Entry) → plans (t ++ e ∷ []) ≡ plans t ++ plan_drawn t e
plans-next t e = gathered-next plan_drawn t e

pub established-next : (t : List Entry) (e : Entry) → established (t ++ e ∷ []) ≡ established t ++ flat_map (λ p. flat_map (established_by p.g) p.items) (plan_drawn t e)
established-next t e = ap (flat_map bearers_of) (plans-next t e) ∙ flat_map-append bearers_of (plans t) (plan_drawn t e)

pub generation-next : (t : List Entry) (e : Entry) → generation (t ++ e ∷ []) ≡ generation t + (if is_draw e then 1 else 0)
generation-next t e = sum_by_push (λ x. cond (is_draw x) 1 0) t e

-- the open command after a list of entries and one more
open_from_push : (before : List Entry) (g : Option OpenCommand) (es : List Entry) (e : Entry) → open_from before g (es ++ e ∷ []) ≡ command_after (before ++ es) (open_from before g es) e
open_from_push before g [] e = ap (λ b. command_after b g e) (sym (append-nil before))
open_from_push before g (x ∷ es) e =
    open_from_push (before ++ x ∷ []) (command_after before g x) es e
    ∙ ap (λ b. command_after b (open_from before g (x ∷ es)) e) (append_assoc before (x ∷ []) es)

pub open_command-next : (t : List Entry) (e : Entry) → open_command (t ++ e ∷ []) ≡ command_after t (open_command t) e
open_command-next t e = open_from_push [] None t e

pub is_set-next : (id : ℕ) (t : List Entry) (e : Entry) → is_set id (t ++ e ∷ []) ≡ fold (has_after id) (is_set id t) e.lines
is_set-next id t e =
    ap (fold (has_after id) false) (flat_map-append (λ x. x.lines) t (e ∷ []) ∙ ap (λ xs. flat_map (λ x. x.lines) t ++ xs) (append-nil e.lines))
    ∙ fold-append (has_after id) false (flat_map (λ x. x.lines) t) e.lines

-- ---- the latest of an identity

pub latest-push : (id : ℕ) (bs : List Established) (b : Established) → latest id (bs ++ b ∷ []) ≡ (if b.id == id then Some b else latest id bs)
latest-push id bs b = fold_push (later_of id) None bs b

-- each identity was established once at most
abbrev pub IsOnce : List Established → Type 0
IsOnce bs = (b : Established) → Contains bs b → latest b.id bs ≡ Some b

pub once-push : (bs : List Established) (b : Established) → IsOnce bs → latest b.id bs ≡ None → IsOnce (bs ++ b ∷ [])
once-push bs b once none c there =
    elim (Contains-push_cases bs b c there) [
      | inl here ↦
          let other : (b.id == c.id) ≡ false = ne_eqb b.id c.id (λ same. let e : None ≡ Some c = sym none ∙ ap (λ i. latest i bs) same ∙ once c here in absurd cc) in
          latest-push c.id bs b ∙ cond-false (b.id == c.id) (Some b) (latest c.id bs) other ∙ once c here
      | inr same ↦
          subst (λ x. latest x.id (bs ++ b ∷ []) ≡ Some x) same (latest-push b.id bs b ∙ cond-true (b.id == b.id) (Some b) (latest b.id bs) (eq-eqb b.id b.id refl))
    ]

-- what a fold for the latest finds is what it had found before, or an element
latest_from : (id : ℕ) (found : Option Established) (bs : List Established) (b : Established) → fold (later_of id) found bs ≡ Some b → (found ≡ Some b) ⊎ (Contains bs b × (b.id ≡ id))
latest_from id found [] b is = inl is
latest_from id found (x ∷ bs) b is =
    elim (latest_from id (later_of id found x) bs b is) [
      | inl had ↦ ⊎_elim
          (λ (w : ((x.id == id) ≡ true) × (x.id ≡ id)).
          let same : x ≡ b = same_Some x b (sym (cond-true (x.id == id) (Some x) found w.0) ∙ had) in
          inr (Contains-append_left (x ∷ []) bs b (subst (λ y. Contains (x ∷ []) y) same (Contains-push [] x)), sym (ap (λ y. y.id) same) ∙ w.1))
          (λ (w : ((x.id == id) ≡ false) × (x.id ≢ id)). inl (sym (cond-false (x.id == id) (Some x) found w.0) ∙ had))
          (eqb_tells x.id id)
      | inr there ↦ inr (Contains-append_right (x ∷ []) bs b there.0, there.1)
    ]

pub latest_there : (id : ℕ) (bs : List Established) (b : Established) → latest id bs ≡ Some b → Contains bs b × (b.id ≡ id)
latest_there id bs b is = elim (latest_from id None bs b is) [ inl none ↦ absurd (none-some b none) | inr there ↦ there ]

pub contains_push : (bs : List Established) (b c : Established) → Contains (bs ++ b ∷ []) c → (c ≡ b) ⊎ Contains bs c
contains_push bs b c there = elim (Contains-push_cases bs b c there) [ inl here ↦ inr here | inr same ↦ inl (sym same) ]

pub contains_left : (bs cs : List Established) (b : Established) → Contains bs b → Contains (bs ++ cs) b
contains_left bs cs b there = Contains-append_left bs cs b there

pub contains_last : (bs : List Established) (b : Established) → Contains (bs ++ b ∷ []) b
contains_last bs b = Contains-push bs b

pub same_bearer : (bs : List Established) (b c : Established) → IsOnce bs → Contains bs b → Contains bs c → b.id ≡ c.id → b ≡ c
same_bearer bs b c once here there same = same_Some b c (sym (once b here) ∙ ap (λ i. latest i bs) same ∙ once c there)

-- such a bearer is the latest of its identity, and its generation is its own
pub is_latest_once : (t : List Entry) (b : Established) → IsOnce (established t) → Contains (established t) b → is_latest b t ≡ true
is_latest_once t b once there = ap (is_named b) (once b there) ∙ eq-eqb b.g b.g refl

-- a test that the latest passes leaves it the latest
latest_kept : (test : Established → Bool) (id : ℕ) (found kept : Option Established) (bs : List Established) (b : Established) → test b ≡ true → (found ≡ Some b → kept ≡ Some b)
    → fold (later_of id) found bs ≡ Some b → fold (later_of id) kept (filter test bs) ≡ Some b
latest_kept test id found kept [] b passes keeps is = keeps is
latest_kept test id found kept (x ∷ bs) b passes keeps is =
    elim (test x) as (λ p. test x ≡ p → fold (later_of id) kept (cond p (x ∷ filter test bs) (filter test bs)) ≡ Some b) [
      | true ↦ λ passed. latest_kept test id (later_of id found x) (later_of id kept x) bs b passes
          (elim (x.id == id) as (λ c. cond c (Some x) found ≡ Some b → cond c (Some x) kept ≡ Some b) [ true ↦ λ same. same | false ↦ keeps ]) is
      | false ↦ λ failed. latest_kept test id (later_of id found x) kept bs b passes
          (elim (x.id == id) as (λ c. cond c (Some x) found ≡ Some b → kept ≡ Some b) [
            | true ↦ λ same. absurd (true≢false (sym passes ∙ ap test (sym (same_Some x b same)) ∙ failed))
            | false ↦ keeps
          ]) is
    ] refl

pub is_generation_once : (t : List Entry) (b : Established) → IsOnce (established t) → Contains (established t) b → is_generation_of b b.g t ≡ true
is_generation_once t b once there =
    ap (is_named b) (latest_kept (λ c. nat_le c.g b.g) b.id None None (established t) b (le-leb b.g b.g (le_refl b.g)) (λ none. none) (once b there)) ∙ eq-eqb b.g b.g refl

-- the latest of an identity that is named as a bearer is one of the list, with its identity and its generation
named_there : (b : Established) (bs : List Established) → is_named b (latest b.id bs) ≡ true → (c : Established) × Contains bs c × (c.id ≡ b.id) × (c.g ≡ b.g)
named_there b bs is = named_as (latest b.id bs) refl is
  where
    named_as : (found : Option Established) → latest b.id bs ≡ found → is_named b found ≡ true → (c : Established) × Contains bs c × (c.id ≡ b.id) × (c.g ≡ b.g)
    named_as None found is = absurd cc
    named_as (Some c) found is = let there = latest_there b.id bs c found in (c, there.0, there.1, eqb-true c.g b.g is)

-- a generation is one of the bearer only if a bearer of that identity and of its own generation was established
pub generation_there : (t : List Entry) (b : Established) (g : ℕ) → is_generation_of b g t ≡ true → (c : Established) × Contains (established t) c × (c.id ≡ b.id) × (c.g ≡ b.g)
generation_there t b g is =
    let there = named_there b (filter (λ c. nat_le c.g g) (established t)) is in
    (there.0, contains_kept (λ c. nat_le c.g g) (established t) there.0 there.1, there.2, there.3)

-- ---- before a bearer is established

-- a plan's bearer has the generation that it draws
drawn_of : (g : ℕ) (event : Event) (answer : Answer) (b : Established) → Contains (flat_map bearers_of (plan_of (g + 1) event answer)) b → b.g ≤ g + (if is_draw_of event answer then 1 else 0)
drawn_of g (Bearer id n first shape threshold policy) Ok b there = let same = ap (λ x. x.g) (contains_one _ b there) in omega arith
drawn_of g _ _ b there = absurd (contains-none b there)

-- one more entry adds bearers of its own generation only
drawn_next : (t : List Entry) (e : Entry) → ((b : Established) → Contains (established t) b → b.g ≤ generation t) → (b : Established) → Contains (established (t ++ e ∷ [])) b → b.g ≤ generation (t ++ e ∷ [])
drawn_next t e drawn b there =
    let grows = generation-next t e in
    elim (Contains-append_cases (established t) (flat_map bearers_of (plan_drawn t e)) b (subst (λ bs. Contains bs b) (established-next t e) there)) [
      | inl before ↦ let le = drawn b before in omega arith
      | inr now ↦ let le = drawn_of (generation t) e.event e.answer b now in omega arith
    ]

-- generations are drawn in order
pub established_drawn : (t : List Entry) (b : Established) → Contains (established t) b → b.g ≤ generation t
established_drawn t b there =
    by_pushes (λ t. (b : Established) → Contains (established t) b → b.g ≤ generation t) drawn_next (λ b there. absurd (contains-none b there)) t b there

-- what every entry gives that comes before the generation, a list of them gives
module _ {A : Type 0} (f : List Entry → Entry → List A) (g : ℕ) (none : (t : List Entry) (e : Entry) → generation t < g → f t e ≡ []) where
  gathered_none : (t : List Entry) → generation t < g → gathered f t ≡ []
  gathered_none t later =
      by_pushes (λ t. generation t < g → gathered f t ≡ [])
      (λ t e before more. let grows = generation-next t e in let early : generation t < g = omega arith in
      gathered-next f t e ∙ ap (λ xs. xs ++ f t e) (before early) ∙ none t e early)
      (λ _. refl) t later

-- a bearer of another generation is not named
not_named : (b : Established) (bs : List Established) → ((c : Established) → Contains bs c → c.g < b.g) → is_named b (latest b.id bs) ≡ false
not_named b bs below =
    false_from_ne_true (is_named b (latest b.id bs)) (λ is. let there = named_there b bs is in let less = below there.0 there.1 in let same = there.3 in omega arith)

-- no submission counts for a bearer that is not the latest
submission_of-none : (b : Established) (d : Dir) (event : Event) (answer : Answer) → submission_of b d false event answer ≡ []
submission_of-none b d (Submit id dir sdu) Ok =
    let own = (id == b.id) && is_same_dir dir d in cond-false (own && false) (sdu ∷ []) [] (and-false own)
submission_of-none b d _ _ = refl

-- a test that has a part that fails leaves nothing
none_of : {A : Type 0} (own c : Bool) (xs : List A) → c ≡ false → (if own && c then xs else []) ≡ []
none_of own c xs no' = cond-false (own && c) xs [] (ap (λ x. own && x) no' ∙ and-false own)

-- no flight confirms anything of a bearer that has no generation yet
confirmed_by-none : (b : Established) (d : Dir) (before : List Entry) (taken : Option (LinkId × Flight)) → ((g : ℕ) → is_generation_of b g before ≡ false) → confirmed_by b d before taken ≡ []
confirmed_by-none b Dl before (Some (l, flight.Ack id g num)) none = none_of (is_to M l && (id == b.id)) (is_generation_of b g before) (map acked (tags_sent (reverse l) id g num before)) (none g)
confirmed_by-none b Dl before (Some (l, flight.Air id g num tag pdu)) none = none_of (is_to M l && (id == b.id)) (is_generation_of b g before) (read_of (decoded b.n pdu)) (none g)
confirmed_by-none b Ul before (Some (l, flight.Air id g num tag pdu)) none = none_of (is_to T l && (id == b.id)) (is_generation_of b g before) (read_of (decoded b.n pdu)) (none g)
confirmed_by-none b d before _ none = refl

-- every bearer so far has a lower generation: none is named as this one, up to any generation
module _ (b : Established) (t : List Entry) (later : generation t < b.g) where
  lower : (c : Established) → Contains (established t) c → c.g < b.g
  lower c there = lt_of_le_of_lt (established_drawn t c there) later

  unnamed : (g : ℕ) → is_generation_of b g t ≡ false
  unnamed g = not_named b (filter (λ c. nat_le c.g g) (established t)) (λ c there. lower c (contains_kept (λ c. nat_le c.g g) (established t) c there))

  not_current : is_latest b t ≡ false
  not_current = not_named b (established t) lower

-- no entry before the bearer's generation confirms any of its COUNTs
confirms-none : (b : Established) (d : Dir) (t : List Entry) (e : Entry) → generation t < b.g → confirms b d t e ≡ []
confirms-none b d t e later = confirmed_by-none b d t (given t e) (unnamed b t later)

module _ (b : Established) (d : Dir) (t : List Entry) (later : generation t < b.g) where
  pub not_latest : is_latest b t ≡ false
  not_latest = not_current b t later

  pub none_submitted : submitted b d t ≡ []
  none_submitted =
      gathered_none (submission b d) b.g
      (λ t e later. ap (λ c. submission_of b d c e.event e.answer) (not_current b t later) ∙ submission_of-none b d e.event e.answer) t later

  pub none_handed : handed b d t ≡ []
  none_handed = gathered_none (ups b d) b.g (λ t e later. cond-false (is_latest b t) (flat_map (up_of b d) e.lines) [] (not_current b t later)) t later

  pub none_confirmed : confirmed b d t ≡ []
  none_confirmed = gathered_none (confirms b d) b.g (confirms-none b d) t later

-- ---- keys

-- a plan of another generation leaves the key that one gives
pub key_in-other : (g id : ℕ) (ps : List Plan) (p : Plan) → (p.g == g) ≡ false → key_in g id (ps ++ p ∷ []) ≡ key_in g id ps
key_in-other g id ps p other =
    fold_push (λ found q. if q.g == g then fold (key_of_item id) found q.items else found) None ps p
    ∙ cond-false (p.g == g) (fold (key_of_item id) (key_in g id ps) p.items) (key_in g id ps) other

-- the plan of a generation gives the key of its items
pub key_in-same : (g id : ℕ) (ps : List Plan) (p : Plan) → (p.g == g) ≡ true → key_in g id (ps ++ p ∷ []) ≡ fold (key_of_item id) (key_in g id ps) p.items
key_in-same g id ps p same =
    fold_push (λ found q. if q.g == g then fold (key_of_item id) found q.items else found) None ps p
    ∙ cond-true (p.g == g) (fold (key_of_item id) (key_in g id ps) p.items) (key_in g id ps) same
