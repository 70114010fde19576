-- In any run of the whole machine, what stands on a link is what the transcript says.
use Rattle.std.proofs.Common.{ℕ, ◌≡◌, ◌++◌, List, [], ◌∷◌, Option, Some, None, length, refl, sym, ap, ◌∙◌, append_assoc}
use Rattle.std.specs.Prelude.{find, nat_lt, if◌then◌else◌}
use Rattle.std.proofs.lemmas.List.{append-nil}
use Rattle.dc_base.specs.Links.{all_links, link_number}
use Rattle.dc_base.specs.declared.events.Event.{Event}
use Rattle.dc_base.specs.declared.events.Header.{Header}
use Rattle.dc_base.specs.declared.events.Line.{Line}
use Rattle.dc_base.specs.declared.flights.Flight.{Flight}
use Rattle.dc_base.specs.declared.nodes.LinkId.{LinkId}
use Rattle.dc_base.specs.declared.nodes.Node.TheVariants.{T, M, A, B}
use Rattle.transcript.specs.Content.{content, content_after, first_loaded, place_taken}
use Rattle.transcript.specs.Transcript.{Entry}
use Rattle.transcript.proofs.Growing.{content-next}
use Rattle.master_runs.specs.Links.{moved}
use Rattle.master_runs.proofs.Moving.{none_there, on_moved, length_moved}
use Rattle.node_rules.specs.Choices.{Choices}
use Rattle.node_rules.specs.Run.{Happening, given_to, refused_for, on_links, carried_on, entries_from, happening, world_after, world_step}
use Rattle.node_rules.specs.World as world
use Rattle.node_rules.specs.World.{Links, World, flights_on, links_after, new_world}

-- both rules leave the same on the links after an event
pub links_same : (place : Option (LinkId × ℕ)) (lines : List Line) (links : Links) → links_after place lines links ≡ moved links place lines
links_same None lines links = refl
links_same (Some place) lines links = refl

-- a node's step leaves the links
carried_links : (c : Choices) (v : World) (what : Happening) → (carried_on c v what).0.links ≡ v.links
carried_links c v (given_to T i) = refl
carried_links c v (given_to M i) = refl
carried_links c v (given_to A i) = refl
carried_links c v (given_to B i) = refl
carried_links c v (refused_for why) = refl
carried_links c v (on_links effects) = refl

-- the links after an event
links_next : (c : Choices) (v : World) (e : Event)
    → (world_step c v e).0.links ≡ (let x = (world_step c v e).1 in moved v.links (place_taken e x.answer) x.lines)
links_next c v e =
    let x = (world_step c v e).1 in
    links_same (place_taken e x.answer) x.lines (carried_on c v (happening v e)).0.links
    ∙ ap (λ (links : Links). moved links (place_taken e x.answer) x.lines) (carried_links c v (happening v e))

-- there are as many
pub long_next : (c : Choices) (v : World) (e : Event) → length v.links ≡ 64 → length (world_step c v e).0.links ≡ 64
long_next c v e long =
    let x = (world_step c v e).1 in
    ap (λ (links : Links). length links) (links_next c v e) ∙ length_moved v.links (place_taken e x.answer) x.lines ∙ long

-- what stands on a link after an event
pub flights_next : (c : Choices) (v : World) (e : Event) (l : LinkId) → length v.links ≡ 64
    → flights_on l (world_step c v e).0.links ≡ content_after l (flights_on l v.links) (world_step c v e).1
flights_next c v e l long =
    let x = (world_step c v e).1 in
    ap (flights_on l) (links_next c v e) ∙ on_moved v.links (place_taken e x.answer) x.lines l long

-- and after several
contents_from : (c : Choices) (es : List Event) (t : List Entry) (v : World) (l : LinkId) → length v.links ≡ 64 → content l t ≡ flights_on l v.links
    → content l (t ++ entries_from c v es) ≡ flights_on l (world_after c v es).links
contents_from c [] t v l long same = ap (content l) (append-nil t) ∙ same
contents_from c (e ∷ es) t v l long same =
    let x = (world_step c v e).1 in
    let v' = (world_step c v e).0 in
    ap (content l) (sym (append_assoc t (x ∷ []) (entries_from c v' es)))
    ∙ contents_from c es (t ++ x ∷ []) v' l (long_next c v e long) (content-next l t x ∙ ap (λ fs. content_after l fs x) same ∙ sym (flights_next c v e l long))

-- what stands on a link in a run is what the transcript says
pub content_is : (c : Choices) (h : Header) (es : List Event) (l : LinkId) → content l (entries_from c (new_world h) es) ≡ flights_on l (world_after c (new_world h) es).links
content_is c h es l = contents_from c es [] (new_world h) l refl (sym (none_there 64 (link_number l) []))

-- and so is the first link on which something does
pub first_loaded_is : (c : Choices) (h : Header) (es : List Event) → first_loaded (entries_from c (new_world h) es) ≡ world.first_loaded (world_after c (new_world h) es).links
first_loaded_is c h es = by all_links
  where
    by : (ls : List LinkId) → find (λ l. nat_lt 0 (length (content l (entries_from c (new_world h) es)))) ls ≡ find (λ l. nat_lt 0 (length (flights_on l (world_after c (new_world h) es).links))) ls
    by [] = refl
    by (l ∷ ls) =
        ap (λ (fs : List Flight). if nat_lt 0 (length fs) then Some l else find (λ k. nat_lt 0 (length (content k (entries_from c (new_world h) es)))) ls) (content_is c h es l)
        ∙ ap (λ o. if nat_lt 0 (length (flights_on l (world_after c (new_world h) es).links)) then Some l else o) (by ls)
