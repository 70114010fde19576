-- Each send is on one of the 22 links.
use Rattle.std.proofs.Common.{ℕ, ◌≡◌, ◌==◌, ◌++◌, Bool, true, false, List, [], ◌∷◌, refl, subst, inl, inr}
use Rattle.std.specs.Prelude.{filter, map, ⊤}
use Rattle.std.specs.List.{AllByRecursion, flat_map, list_any}
use Rattle.std.proofs.lemmas.Bool.{cases_Bool}
use Rattle.dc_base.specs.Links.{all_links, is_link, is_same_link}
use Rattle.dc_base.specs.declared.events.Line.{Line}
use Rattle.dc_base.specs.declared.events.Line.TheVariants as line
use Rattle.dc_base.specs.declared.events.Note.{Note}
use Rattle.dc_base.specs.declared.nodes.LinkId.{LinkId}
use Rattle.transcript.proofs.OnEach.{each_append}
use Rattle.master_runs.proofs.Moving.{same_link}
use Rattle.node_rules.specs.Choices.{Send}
use Rattle.node_rules.specs.Lines.{ended, is_end, is_idle_release, lines_by, lines_of, notes_after, notes_at, notes_before, ordered, place, sends_after, sends_before, sends_on}
use Rattle.node_rules.specs.declared.inputs.Outcome.{Outcome}

-- a line is no send, or one on a link
abbrev pub IsLinked : Line → Type 0
IsLinked (line.Send l f) = is_link l ≡ true
IsLinked (line.Note n) = ⊤
IsLinked (line.Event e) = ⊤
IsLinked (line.Answer a) = ⊤

abbrev pub AreLinked : List Line → Type 0
AreLinked xs = AllByRecursion IsLinked xs

-- a send that says that nothing has to be released is on a link
abbrev pub IsIdleLinked : Send → Type 0
IsIdleLinked s = is_idle_release s ≡ true → is_link s.0 ≡ true

-- ---- in their order

notes_linked : (ns : List Note) → AreLinked (map (λ n. line.Note n) ns)
notes_linked [] = tt
notes_linked (n ∷ ns) = (tt, notes_linked ns)

places_linked : (notes : List Note) (ks : List ℕ) → AreLinked (flat_map (notes_at notes) ks)
places_linked notes [] = tt
places_linked notes (k ∷ ks) = each_append IsLinked (notes_at notes k) (flat_map (notes_at notes) ks) (notes_linked (filter (λ n. place n == k) notes)) (places_linked notes ks)

-- those on a link that is one
on_linked : (l : LinkId) → is_link l ≡ true → (ss : List Send) → AreLinked (sends_on ss l)
on_linked l is [] = tt
on_linked l is (s ∷ ss) =
    elim (cases_Bool (is_same_link l s.0)) [
      | inl here ↦ rw here (subst (λ k. is_link k ≡ true) (same_link l s.0 here) is, on_linked l is ss)
      | inr there ↦ rw there (on_linked l is ss)
    ]

links_linked : (ss : List Send) (ls : List LinkId) → AllByRecursion (λ l. is_link l ≡ true) ls → AreLinked (flat_map (sends_on ss) ls)
links_linked ss [] are = tt
links_linked ss (l ∷ ls) are = each_append IsLinked (sends_on ss l) (flat_map (sends_on ss) ls) (on_linked l are.0 ss) (links_linked ss ls are.1)

all_are : AllByRecursion (λ l. is_link l ≡ true) all_links
all_are = (refl, (refl, (refl, (refl, (refl, (refl, (refl, (refl, (refl, (refl, (refl, (refl, (refl, (refl, (refl, (refl, (refl, (refl, (refl, (refl, (refl, (refl, tt))))))))))))))))))))))

ordered_linked : (notes : List Note) (ss : List Send) → AreLinked (ordered notes ss)
ordered_linked notes ss =
    let before = flat_map (notes_at notes) (0 ∷ 1 ∷ 2 ∷ 3 ∷ 4 ∷ []) in
    let middle = flat_map (sends_on ss) all_links in
    let after = flat_map (notes_at notes) (5 ∷ 6 ∷ []) in
    each_append IsLinked (before ++ middle) after (each_append IsLinked before middle (places_linked notes (0 ∷ 1 ∷ 2 ∷ 3 ∷ 4 ∷ [])) (links_linked ss all_links all_are)) (places_linked notes (5 ∷ 6 ∷ []))

idle_linked : (ss : List Send) → AllByRecursion IsIdleLinked ss → AreLinked (map (λ (s : Send). line.Send s.0 s.1) (filter is_idle_release ss))
idle_linked [] all = tt
idle_linked (s ∷ ss) all = elim (cases_Bool (is_idle_release s)) [ inl yes' ↦ rw yes' (all.0 yes', idle_linked ss all.1) | inr no' ↦ rw no' (idle_linked ss all.1) ]

ended_linked : (notes : List Note) (ss : List Send) → AllByRecursion IsIdleLinked ss → AreLinked (ended notes ss)
ended_linked notes ss all =
    let first = ordered (notes_before notes) (sends_before ss) in
    let idle = map (λ (s : Send). line.Send s.0 s.1) (filter is_idle_release ss) in
    let last = ordered (notes_after notes) (sends_after ss) in
    each_append IsLinked (first ++ idle) last (each_append IsLinked first idle (ordered_linked (notes_before notes) (sends_before ss)) (idle_linked ss all)) (ordered_linked (notes_after notes) (sends_after ss))

-- the lines of an outcome
pub lines_linked : (o : Outcome) → AllByRecursion IsIdleLinked o.sends → AreLinked (lines_of o)
lines_linked o all = by (list_any is_end o.notes)
  where
    by : (b : Bool) → AreLinked (lines_by b o)
    by true = ended_linked o.notes o.sends all
    by false = ordered_linked o.notes o.sends
