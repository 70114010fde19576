-- What stands on a link and is no record stands on one of the 22 links; so what is taken over the air comes from the terminal or to it.
use Rattle.std.proofs.Common.{◌≡◌, ℕ, ◌==◌, ◌++◌, true, false, Bool, List, [], ◌∷◌, Option, Some, None, refl, sym, ◌∙◌, subst, inl, inr}
use Rattle.std.specs.Prelude.{filter, length, map, ⊤}
use Rattle.std.specs.List.{AllByRecursion, flat_map, list_any}
use Rattle.std.proofs.lemmas.Bool.{cases_Bool}
use Rattle.dc_base.specs.Links.{all_links, is_link, is_same_link, link_number}
use Rattle.dc_base.specs.declared.events.Event.{Event}
use Rattle.dc_base.specs.declared.events.Header.{Header}
use Rattle.dc_base.specs.declared.events.Line.{Line}
use Rattle.dc_base.specs.declared.events.Line.TheVariants as line
use Rattle.dc_base.specs.declared.events.Note.{Note}
use Rattle.dc_base.specs.declared.flights.Flight.{Flight}
use Rattle.dc_base.specs.declared.flights.Flight.TheVariants as flight
use Rattle.dc_base.specs.declared.nodes.LinkId.{LinkId}
use Rattle.transcript.specs.Content.{on_link, place_taken, put_on, without_taken}
use Rattle.transcript.specs.Transcript.{sends}
use Rattle.transcript.proofs.OnEach.{each_append, each_remove}
use Rattle.master_runs.proofs.Contents.{flights_next}
use Rattle.master_runs.proofs.Moving.{none_there, same_link}
use Rattle.node_rules.specs.Choices.{Choices, Send}
use Rattle.node_rules.specs.Lines.{ended, is_end, is_idle_release, lines_by, lines_of, notes_after, notes_at, notes_before, ordered, place, sends_after, sends_before, sends_on}
use Rattle.node_rules.specs.Run.{carried_on, happening, world_step}
use Rattle.node_rules.specs.World.{World, flights_on, new_world}
use Rattle.node_rules.specs.declared.inputs.Outcome.{Outcome}

-- a flight is a record
abbrev pub is_record : Flight → Bool
is_record (flight.Ctl r) = true
is_record _ = false

-- else it stands on a link
abbrev pub IsOnLink : LinkId → Flight → Type 0
IsOnLink l f = is_record f ≡ false → is_link l ≡ true

abbrev pub AreOnLinks : World → Type 0
AreOnLinks w = (l : LinkId) → AllByRecursion (IsOnLink l) (flights_on l w.links)

-- ---- lines

abbrev LineOn : Line → Type 0
LineOn (line.Send l f) = IsOnLink l f
LineOn (line.Note n) = ⊤
LineOn (line.Event e) = ⊤
LineOn (line.Answer a) = ⊤

abbrev AreOn : List Line → Type 0
AreOn xs = AllByRecursion LineOn xs

notes_on : (ns : List Note) → AreOn (map (λ n. line.Note n) ns)
notes_on [] = tt
notes_on (n ∷ ns) = (tt, notes_on ns)

places_on : (notes : List Note) (ks : List ℕ) → AreOn (flat_map (notes_at notes) ks)
places_on notes [] = tt
places_on notes (k ∷ ks) = each_append LineOn (notes_at notes k) (flat_map (notes_at notes) ks) (notes_on (filter (λ n. place n == k) notes)) (places_on notes ks)

one_on : (l : LinkId) → is_link l ≡ true → (ss : List Send) → AreOn (sends_on ss l)
one_on l is [] = tt
one_on l is (s ∷ ss) =
    elim (cases_Bool (is_same_link l s.0)) [
      | inl here ↦ rw here ((λ plain. subst (λ k. is_link k ≡ true) (same_link l s.0 here) is), one_on l is ss)
      | inr there ↦ rw there (one_on l is ss)
    ]

several_on : (ss : List Send) (ls : List LinkId) → AllByRecursion (λ l. is_link l ≡ true) ls → AreOn (flat_map (sends_on ss) ls)
several_on ss [] are = tt
several_on ss (l ∷ ls) are = each_append LineOn (sends_on ss l) (flat_map (sends_on ss) ls) (one_on l are.0 ss) (several_on ss ls are.1)

all_are : AllByRecursion (λ l. is_link l ≡ true) all_links
all_are = (refl, (refl, (refl, (refl, (refl, (refl, (refl, (refl, (refl, (refl, (refl, (refl, (refl, (refl, (refl, (refl, (refl, (refl, (refl, (refl, (refl, (refl, tt))))))))))))))))))))))

ordered_on : (notes : List Note) (ss : List Send) → AreOn (ordered notes ss)
ordered_on notes ss =
    let before = flat_map (notes_at notes) (0 ∷ 1 ∷ 2 ∷ 3 ∷ 4 ∷ []) in
    let middle = flat_map (sends_on ss) all_links in
    let after = flat_map (notes_at notes) (5 ∷ 6 ∷ []) in
    each_append LineOn (before ++ middle) after (each_append LineOn before middle (places_on notes (0 ∷ 1 ∷ 2 ∷ 3 ∷ 4 ∷ [])) (several_on ss all_links all_are)) (places_on notes (5 ∷ 6 ∷ []))

-- a send that says that nothing has to be released is a record
idle_record : (l : LinkId) (f : Flight) → is_idle_release (l, f) ≡ true → is_record f ≡ true
idle_record l (flight.Ctl r) is = refl
idle_record l (flight.Air id g num tag pdu) is = is
idle_record l (flight.Ack id g num) is = is
idle_record l (flight.Tun tag packet) is = is
idle_record l (flight.Sdu id g payload) is = is
idle_record l (flight.End id g) is = is
idle_record l (flight.Told id g count) is = is

idle_on : (ss : List Send) → AreOn (map (λ (s : Send). line.Send s.0 s.1) (filter is_idle_release ss))
idle_on [] = tt
idle_on (s ∷ ss) =
    elim (cases_Bool (is_idle_release s)) [
      | inl yes' ↦ rw yes' ((λ plain. absurd (let bad : true ≡ false = sym (idle_record s.0 s.1 yes') ∙ plain in cc)), idle_on ss)
      | inr no' ↦ rw no' (idle_on ss)
    ]

ended_on : (notes : List Note) (ss : List Send) → AreOn (ended notes ss)
ended_on notes ss =
    let first = ordered (notes_before notes) (sends_before ss) in
    let idle = map (λ (s : Send). line.Send s.0 s.1) (filter is_idle_release ss) in
    let last = ordered (notes_after notes) (sends_after ss) in
    each_append LineOn (first ++ idle) last (each_append LineOn first idle (ordered_on (notes_before notes) (sends_before ss)) (idle_on ss)) (ordered_on (notes_after notes) (sends_after ss))

lines_on : (o : Outcome) → AreOn (lines_of o)
lines_on o = by (list_any is_end o.notes)
  where
    by : (b : Bool) → AreOn (lines_by b o)
    by true = ended_on o.notes o.sends
    by false = ordered_on o.notes o.sends

sends_of_lines : (xs : List Line) → AreOn xs → AllByRecursion (λ (s : LinkId × Flight). IsOnLink s.0 s.1) (sends xs)
sends_of_lines [] all = tt
sends_of_lines (line.Send l f ∷ xs) all = (all.0, sends_of_lines xs all.1)
sends_of_lines (line.Note n ∷ xs) all = sends_of_lines xs all.1
sends_of_lines (line.Event e ∷ xs) all = sends_of_lines xs all.1
sends_of_lines (line.Answer a ∷ xs) all = sends_of_lines xs all.1

-- ---- an event

puts_on_it : (l : LinkId) (ss : List (LinkId × Flight)) → AllByRecursion (λ (s : LinkId × Flight). IsOnLink s.0 s.1) ss
    → AllByRecursion (IsOnLink l) (flat_map (on_link l) ss)
puts_on_it l [] all = tt
puts_on_it l (s ∷ ss) all =
    elim (cases_Bool (is_same_link l s.0)) [
      | inl here ↦ rw here (subst (λ k. IsOnLink k s.1) (sym (same_link l s.0 here)) all.0, puts_on_it l ss all.1)
      | inr there ↦ rw there (puts_on_it l ss all.1)
    ]

left_on_it : (l : LinkId) (place : Option (LinkId × ℕ)) (fs : List Flight) → AllByRecursion (IsOnLink l) fs → AllByRecursion (IsOnLink l) (without_taken l place fs)
left_on_it l None fs all = all
left_on_it l (Some place) fs all =
    elim (cases_Bool (is_same_link l place.0)) [ inl here ↦ rw here (each_remove (IsOnLink l) fs place.1 all) | inr there ↦ rw there all ]

pub on_links_next : (c : Choices) (w : World) (e : Event) → ◌≡◌ {A = ℕ} (length w.links) 64 → AreOnLinks w → AreOnLinks (world_step c w e).0
on_links_next c w e long is = λ l.
    let x = (world_step c w e).1 in
    subst (AllByRecursion (IsOnLink l)) (sym (flights_next c w e l long))
    (each_append (IsOnLink l) (without_taken l (place_taken e x.answer) (flights_on l w.links)) (put_on l x.lines)
    (left_on_it l (place_taken e x.answer) (flights_on l w.links) (is l)) (puts_on_it l (sends x.lines) (sends_of_lines x.lines (lines_on (carried_on c w (happening w e)).1))))

pub on_links_new : (h : Header) → AreOnLinks (new_world h)
on_links_new h = λ l. subst (AllByRecursion (IsOnLink l)) (sym (none_there 64 (link_number l) [])) tt
