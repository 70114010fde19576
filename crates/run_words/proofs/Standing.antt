-- By the past of the claims there stands on each link what stands there in the world, after any entries of a run.
use Rattle.std.proofs.Common.{ℕ, zero, suc, ◌≡◌, ◌==◌, ◌++◌, true, false, List, [], ◌∷◌, Option, Some, None, length, slice_get, refl, sym, ap, ◌∙◌, inl, inr}
use Rattle.std.specs.Prelude.{fold, if◌then◌else◌, remove}
use Rattle.std.specs.List.{filter_map, flat_map}
use Rattle.std.specs.Option.{option_map}
use Rattle.std.proofs.lemmas.Bool.{cases_Bool, eqb-true}
use Rattle.dc_base.specs.Links.{is_same_link, link_number}
use Rattle.dc_base.specs.declared.events.Event.{Event}
use Rattle.dc_base.specs.declared.events.Header.{Header}
use Rattle.dc_base.specs.declared.flights.Flight.{Flight}
use Rattle.dc_base.specs.declared.nodes.LinkId.{LinkId}
use Rattle.transcript.specs.Content as transcript
use Rattle.transcript.specs.Content.{content_after, on_link, place_taken, without_taken}
use Rattle.transcript.specs.Transcript.{Entry, sends}
use Rattle.claims.specs.Links.{find_at, without}
use Rattle.claims.specs.Past.{Past, new_past}
use Rattle.claims.specs.Reading.{content}
use Rattle.claims.specs.Noted.{after, past, past_from}
use Rattle.node_rules.specs.Choices.{Choices}
use Rattle.node_rules.specs.Run.{entries_from, world_after, world_step}
use Rattle.node_rules.specs.World.{World, flights_on, new_world}
use Rattle.master_runs.proofs.Contents.{content_is, flights_next}
use Rattle.master_runs.proofs.Moving.{same_link}
use Rattle.run_words.specs.Standing.{StandsAs, left_after}
use Rattle.run_words.proofs.Keeping.{after_stands}

-- the flights of a link among flights with their links
abbrev on_this : LinkId → LinkId × Flight → Option Flight
on_this l s = if is_same_link l s.0 then Some s.1 else None

abbrev of_link : LinkId → List (LinkId × Flight) → List Flight
of_link l ss = filter_map (on_this l) ss

of_link-append : (l : LinkId) (xs ys : List (LinkId × Flight)) → of_link l (xs ++ ys) ≡ of_link l xs ++ of_link l ys
of_link-append l [] ys = refl
of_link-append l (x ∷ xs) ys =
    elim (cases_Bool (is_same_link l x.0)) [
      | inl here ↦ rw here (ap (λ fs. x.1 ∷ fs) (of_link-append l xs ys))
      | inr there ↦ rw there (of_link-append l xs ys)
    ]

-- those that are put on a link
of_sends : (l : LinkId) (ss : List (LinkId × Flight)) → of_link l ss ≡ flat_map (on_link l) ss
of_sends l [] = refl
of_sends l (s ∷ ss) =
    elim (cases_Bool (is_same_link l s.0)) [ inl here ↦ rw here (ap (λ fs. s.1 ∷ fs) (of_sends l ss)) | inr there ↦ rw there (of_sends l ss) ]

-- a link that is the same as another is so to any
same_to : (l k m : LinkId) → is_same_link k m ≡ true → is_same_link l k ≡ is_same_link l m
same_to l k m same = ap (λ n. link_number l == n) (eqb-true (link_number k) (link_number m) same)

same_from : (l k m : LinkId) → is_same_link l k ≡ true → is_same_link l m ≡ is_same_link k m
same_from l k m same = ap (λ n. n == link_number m) (eqb-true (link_number l) (link_number k) same)

-- one flight less
of_without : (l k : LinkId) (i : ℕ) (ss : List (LinkId × Flight)) → of_link l (without k i ss) ≡ (if is_same_link l k then remove (of_link l ss) i else of_link l ss)
of_without l k zero [] = elim (cases_Bool (is_same_link l k)) [ inl same ↦ rw same refl | inr apart ↦ rw apart refl ]
of_without l k (suc i) [] = elim (cases_Bool (is_same_link l k)) [ inl same ↦ rw same refl | inr apart ↦ rw apart refl ]
of_without l k zero (s ∷ ss) =
    elim (cases_Bool (is_same_link k s.0)) [
      | inl taken ↦
          let alike = same_to l k s.0 taken in
          elim (cases_Bool (is_same_link l s.0)) [
            | inl here ↦ rw taken (rw here (rw (alike ∙ here) refl))
            | inr there ↦ rw taken (rw there (rw (alike ∙ there) refl))
          ]
      | inr left ↦
          let rest = of_without l k zero ss in
          elim (cases_Bool (is_same_link l k)) [
            | inl same ↦
                let there : is_same_link l s.0 ≡ false = same_from l k s.0 same ∙ left in
                let rest' = rw same at rest in rw left (rw there (rw same rest'))
            | inr apart ↦
                let rest' = rw apart at rest in
                elim (cases_Bool (is_same_link l s.0)) [
                  | inl here ↦ rw left (rw here (rw apart (ap (λ fs. s.1 ∷ fs) rest')))
                  | inr there ↦ rw left (rw there (rw apart rest'))
                ]
          ]
    ]
of_without l k (suc i) (s ∷ ss) =
    elim (cases_Bool (is_same_link k s.0)) [
      | inl taken ↦
          let alike = same_to l k s.0 taken in
          let rest = of_without l k i ss in
          elim (cases_Bool (is_same_link l s.0)) [
            | inl here ↦ let rest' = rw (alike ∙ here) at rest in rw taken (rw here (rw (alike ∙ here) (ap (λ fs. s.1 ∷ fs) rest')))
            | inr there ↦ let rest' = rw (alike ∙ there) at rest in rw taken (rw there (rw (alike ∙ there) rest'))
          ]
      | inr left ↦
          let rest = of_without l k (suc i) ss in
          elim (cases_Bool (is_same_link l k)) [
            | inl same ↦
                let there : is_same_link l s.0 ≡ false = same_from l k s.0 same ∙ left in
                let rest' = rw same at rest in rw left (rw there (rw same rest'))
            | inr apart ↦
                let rest' = rw apart at rest in
                elim (cases_Bool (is_same_link l s.0)) [
                  | inl here ↦ rw left (rw here (rw apart (ap (λ fs. s.1 ∷ fs) rest')))
                  | inr there ↦ rw left (rw there (rw apart rest'))
                ]
          ]
    ]

-- what is left of a link
of_left : (l : LinkId) (place : Option (LinkId × ℕ)) (ss : List (LinkId × Flight)) → of_link l (left_after place ss) ≡ without_taken l place (of_link l ss)
of_left l None ss = refl
of_left l (Some place) ss = of_without l place.0 place.1 ss

-- an entry does the same to the past and to what its transcript says of a link
content_next : (l : LinkId) (p : Past) (x : Entry) → content l (after p x) ≡ content_after l (content l p) x
content_next l p x =
    let place = place_taken x.event x.answer in
    ap (of_link l) (after_stands p x) ∙ of_link-append l (left_after place p.standing) (sends x.lines)
    ∙ ap (λ fs. fs ++ of_link l (sends x.lines)) (of_left l place p.standing)
    ∙ ap (λ fs. without_taken l place (content l p) ++ fs) (of_sends l (sends x.lines))

contents_from : (l : LinkId) (t : List Entry) (p : Past) → content l (past_from p t) ≡ fold (content_after l) (content l p) t
contents_from l [] p = refl
contents_from l (x ∷ t) p = contents_from l t (after p x) ∙ ap (λ fs. fold (content_after l) fs t) (content_next l p x)

-- of any transcript: the past of the claims says of a link what the transcript does
pub past_content : (h : Header) (policies : ℕ) (t : List Entry) (l : LinkId) → content l (past h policies t) ≡ transcript.content l t
past_content h policies t l = contents_from l t (new_past h policies)

-- of any run: it says of it what stands there
pub standing_is : (c : Choices) (h : Header) (policies : ℕ) (es : List Event) (l : LinkId)
    → content l (past h policies (entries_from c (new_world h) es)) ≡ flights_on l (world_after c (new_world h) es).links
standing_is c h policies es l = past_content h policies (entries_from c (new_world h) es) l ∙ content_is c h es l

-- one event keeps it so
pub stands_next : (c : Choices) (v : World) (p : Past) (e : Event) → length v.links ≡ 64 → StandsAs p v → StandsAs (after p (world_step c v e).1) (world_step c v e).0
stands_next c v p e long same l =
    let x = (world_step c v e).1 in
    content_next l p x ∙ ap (λ fs. content_after l fs x) (same l) ∙ sym (flights_next c v e l long)

-- a flight at a place of a link is found there
pub found_at : (l : LinkId) (i : ℕ) (ss : List (LinkId × Flight)) → find_at l i ss ≡ option_map (λ f. (l, f)) (slice_get (of_link l ss) i)
found_at l zero [] = refl
found_at l (suc i) [] = refl
found_at l zero (s ∷ ss) =
    elim (cases_Bool (is_same_link l s.0)) [
      | inl here ↦ rw here (ap (λ k. Some (k, s.1)) (sym (same_link l s.0 here)))
      | inr there ↦ rw there (found_at l zero ss)
    ]
found_at l (suc i) (s ∷ ss) =
    elim (cases_Bool (is_same_link l s.0)) [ inl here ↦ rw here (found_at l i ss) | inr there ↦ rw there (found_at l (suc i) ss) ]

-- so it is in the world
pub found_standing : (p : Past) (v : World) → StandsAs p v → (l : LinkId) (i : ℕ) → find_at l i p.standing ≡ option_map (λ f. (l, f)) (slice_get (flights_on l v.links) i)
found_standing p v same l i = found_at l i p.standing ∙ ap (λ fs. option_map (λ f. (l, f)) (slice_get fs i)) (same l)
