-- What stands on a link after an event, and the flights of messages on a link.
use Rattle.std.proofs.Common.{List, None, Option, Some, [], ap, append_assoc, arith, inl, inr, length, refl, sym, ℕ, ◌++◌, ◌∙◌, ◌∷◌, ◌≡◌}
use Rattle.std.proofs.lemmas.Bool.{cases_Bool, eq-eqb, eqb-true}
use Rattle.std.proofs.lemmas.List.{append-nil, get_or-set_other, get_or-set_same, length-set}
use Rattle.std.specs.List.{AllByRecursion, flat_map}
use Rattle.std.specs.Prelude.{fold, if◌then◌else◌, remove, slice_index_or, true, ◌==◌}
use Rattle.dc_base.specs.Links.{is_same_link, link_number}
use Rattle.dc_base.specs.Nodes.{node_number}
use Rattle.dc_base.specs.declared.events.Event.{Event}
use Rattle.dc_base.specs.declared.events.Line.{Line}
use Rattle.dc_base.specs.declared.events.Line.TheVariants as line
use Rattle.dc_base.specs.declared.flights.Flight.{Flight}
use Rattle.dc_base.specs.declared.nodes.LinkId.{LinkId}
use Rattle.dc_base.specs.declared.nodes.Node.TheVariants.{A, B, M, T}
use Rattle.journal_runs.proofs.SameLink.{link_small, same_link}
use Rattle.journals.specs.Messages.{messages, to}
use Rattle.journals.specs.declared.entries.Message.{Message}
use Rattle.node_rules.specs.Choices.{Choices}
use Rattle.node_rules.specs.Run.{Happening, carried_on, given_to, happening, on_links, refused_for, world_step}
use Rattle.node_rules.specs.World.{Links, World, flights_on, links_after, with_flights, with_send, without}
use Rattle.transcript.specs.Content.{content_after, on_link, place_taken, put_on, without_taken}
use Rattle.transcript.specs.Transcript.{sends}

-- what stands on a link after another has these flights
on_with : (links : Links) (k l : LinkId) (fs : List Flight) → length links ≡ 64 → flights_on l (with_flights k fs links) ≡ (if is_same_link l k then fs else flights_on l links)
on_with links k l fs long =
    let small = link_small k in
    elim (cases_Bool (is_same_link l k)) [
      | inl same ↦ rw same (
          let is : link_number l ≡ link_number k = eqb-true (link_number l) (link_number k) same in
          ap (λ i. slice_index_or (with_flights k fs links) i []) is
          ∙ get_or-set_same links (link_number k) fs [] (omega (arith, small, long)))
      | inr other ↦ rw other (get_or-set_other links (link_number k) (link_number l) fs [] (λ is. let yes' : is_same_link l k ≡ true = eq-eqb (link_number l) (link_number k) is in absurd cc))
    ]

-- one flight is put on its link
on_put : (links : Links) (s : LinkId × Flight) (l : LinkId) → length links ≡ 64 → flights_on l (with_send links s) ≡ flights_on l links ++ on_link l s
on_put links s l long =
    on_with links s.0 l (flights_on s.0 links ++ s.1 ∷ []) long
    ∙ elim (cases_Bool (is_same_link l s.0)) [
      | inl same ↦ rw same (
          let is : link_number s.0 ≡ link_number l = sym (eqb-true (link_number l) (link_number s.0) same) in
          ap (λ i. slice_index_or links i [] ++ s.1 ∷ []) is)
      | inr other ↦ rw other (sym (append-nil (flights_on l links)))
    ]

-- and so are several
on_puts : (xs : List (LinkId × Flight)) (links : Links) (l : LinkId) → length links ≡ 64 → flights_on l (fold with_send links xs) ≡ flights_on l links ++ flat_map (on_link l) xs
on_puts [] links l long = sym (append-nil (flights_on l links))
on_puts (x ∷ xs) links l long =
    on_puts xs (with_send links x) l (length-set links (link_number x.0) (flights_on x.0 links ++ x.1 ∷ []) ∙ long)
    ∙ ap (λ fs. fs ++ flat_map (on_link l) xs) (on_put links x l long)
    ∙ append_assoc (flights_on l links) (on_link l x) (flat_map (on_link l) xs)

-- a flight is taken from its link
on_without : (links : Links) (place : Option (LinkId × ℕ)) (l : LinkId) → length links ≡ 64 → flights_on l (without place links) ≡ without_taken l place (flights_on l links)
on_without links None l long = refl
on_without links (Some place) l long =
    on_with links place.0 l (remove (flights_on place.0 links) place.1) long
    ∙ elim (cases_Bool (is_same_link l place.0)) [
      | inl same ↦ rw same (
          let is : link_number place.0 ≡ link_number l = sym (eqb-true (link_number l) (link_number place.0) same) in
          ap (λ i. remove (slice_index_or links i []) place.1) is)
      | inr other ↦ rw other refl
    ]

-- there are as many links
length_without : (links : Links) (place : Option (LinkId × ℕ)) → length (without place links) ≡ length links
length_without links None = refl
length_without links (Some place) = length-set links (link_number place.0) (remove (flights_on place.0 links) place.1)

length_puts : (xs : List (LinkId × Flight)) (links : Links) → length (fold with_send links xs) ≡ length links
length_puts [] links = refl
length_puts (x ∷ xs) links = length_puts xs (with_send links x) ∙ length-set links (link_number x.0) (flights_on x.0 links ++ x.1 ∷ [])

length_after : (links : Links) (place : Option (LinkId × ℕ)) (lines : List Line) → length (links_after place lines links) ≡ length links
length_after links place lines = length_puts (sends lines) (without place links) ∙ length_without links place

on_after : (links : Links) (place : Option (LinkId × ℕ)) (lines : List Line) (l : LinkId) → length links ≡ 64
    → flights_on l (links_after place lines links) ≡ without_taken l place (flights_on l links) ++ put_on l lines
on_after links place lines l long =
    on_puts (sends lines) (without place links) l (length_without links place ∙ long)
    ∙ ap (λ fs. fs ++ put_on l lines) (on_without links place l long)

-- a node's step leaves the links
carried_links : (c : Choices) (w : World) (what : Happening) → (carried_on c w what).0.links ≡ w.links
carried_links c w (given_to T i) = refl
carried_links c w (given_to M i) = refl
carried_links c w (given_to A i) = refl
carried_links c w (given_to B i) = refl
carried_links c w (refused_for why) = refl
carried_links c w (on_links effects) = refl

-- the links after an event
links_next : (c : Choices) (w : World) (e : Event) → (world_step c w e).0.links ≡ (let x = (world_step c w e).1 in links_after (place_taken e x.answer) x.lines w.links)
links_next c w e =
    let x = (world_step c w e).1 in
    ap (λ (links : Links). links_after (place_taken e x.answer) x.lines links) (carried_links c w (happening w e))

pub long_next : (c : Choices) (w : World) (e : Event) → length w.links ≡ 64 → length (world_step c w e).0.links ≡ 64
long_next c w e long =
    let x = (world_step c w e).1 in
    ap (λ (links : Links). length links) (links_next c w e) ∙ length_after w.links (place_taken e x.answer) x.lines ∙ long

pub flights_next : (c : Choices) (w : World) (e : Event) (l : LinkId) → length w.links ≡ 64
    → flights_on l (world_step c w e).0.links ≡ content_after l (flights_on l w.links) (world_step c w e).1
flights_next c w e l long =
    let x = (world_step c w e).1 in
    ap (flights_on l) (links_next c w e) ∙ on_after w.links (place_taken e x.answer) x.lines l long

-- ---- the flights of messages on a link

abbrev pub flights_of : LinkId → List Message → List Flight
flights_of l [] = []
flights_of l (m ∷ ms) = if is_same_link l m.link then m.flight ∷ flights_of l ms else flights_of l ms

pub flights_append : (l : LinkId) (xs ys : List Message) → flights_of l (xs ++ ys) ≡ flights_of l xs ++ flights_of l ys
flights_append l [] ys = refl
flights_append l (m ∷ ms) ys =
    elim (cases_Bool (is_same_link l m.link)) [
      | inl same ↦ rw same (ap (λ (fs : List Flight). m.flight ∷ fs) (flights_append l ms ys))
      | inr other ↦ rw other (flights_append l ms ys)
    ]

-- those of the messages that lines send
pub flights_sent : (l : LinkId) (s : ℕ) (lines : List Line) → flights_of l (messages s lines) ≡ put_on l lines
flights_sent l s [] = refl
flights_sent l s (line.Send k f ∷ ls) =
    elim (cases_Bool (is_same_link l k)) [
      | inl same ↦ rw same (ap (λ (fs : List Flight). f ∷ fs) (flights_sent l s ls))
      | inr other ↦ rw other (flights_sent l s ls)
    ]
flights_sent l s (line.Note n ∷ ls) = flights_sent l s ls
flights_sent l s (line.Event e ∷ ls) = flights_sent l s ls
flights_sent l s (line.Answer a ∷ ls) = flights_sent l s ls

-- those of the messages to its receiver
pub flights_to : (l : LinkId) (ms : List Message) → flights_of l (to (node_number l.to) ms) ≡ flights_of l ms
flights_to l [] = refl
flights_to l (m ∷ ms) =
    elim (cases_Bool (is_same_link l m.link)) [
      | inl same ↦
          let to_it : (node_number m.link.to == node_number l.to) ≡ true = eq-eqb (node_number m.link.to) (node_number l.to) (ap (λ (k : LinkId). node_number k.to) (sym (same_link l m.link same))) in
          rw (to_it, same) (ap (λ (fs : List Flight). m.flight ∷ fs) (flights_to l ms))
      | inr other ↦ elim (cases_Bool (node_number m.link.to == node_number l.to)) [
        | inl here ↦ rw (here, other) (flights_to l ms)
        | inr there ↦ rw (there, other) (flights_to l ms)
      ]
    ]

-- there are none of another sender's
pub flights_none : (l : LinkId) (n : ℕ) (ms : List Message) → (node_number l.from ≡ n → ⊥) → AllByRecursion (λ (m : Message). node_number m.link.from ≡ n) ms → flights_of l ms ≡ []
flights_none l n [] other all = refl
flights_none l n (m ∷ ms) other all =
    elim (cases_Bool (is_same_link l m.link)) [
      | inl same ↦ absurd (other (ap (λ (k : LinkId). node_number k.from) (same_link l m.link same) ∙ all.0))
      | inr no' ↦ rw no' (flights_none l n ms other all.1)
    ]
