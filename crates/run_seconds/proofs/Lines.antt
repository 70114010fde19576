-- What the lines of an outcome in which no command ends do to what is said of the secondary nodes: the same as its notes in
-- their order.
use Rattle.std.proofs.Common.{ℕ, ◌≡◌, ◌==◌, ◌++◌, true, false, List, [], ◌∷◌, refl, sym, ap, ◌∙◌, inl, inr}
use Rattle.std.specs.Prelude.{filter, fold, map}
use Rattle.std.specs.List.{AllByRecursion, flat_map, list_any}
use Rattle.std.proofs.lemmas.Bool.{cases_Bool, eqb-true}
use Rattle.dc_base.specs.Links.{all_links, is_same_link}
use Rattle.dc_base.specs.declared.events.Line.{Line}
use Rattle.dc_base.specs.declared.events.Line.TheVariants as line
use Rattle.dc_base.specs.declared.events.Note.{Note}
use Rattle.dc_base.specs.declared.events.Note.TheVariants as note
use Rattle.dc_base.specs.declared.nodes.LinkId.{LinkId}
use Rattle.dc_base.specs.declared.nodes.Node.{Node}
use Rattle.dc_base.specs.declared.nodes.Node.TheVariants.{A, B, M, T}
use Rattle.dc_base.specs.declared.nodes.Want.{Want}
use Rattle.std.specs.Prelude.{Bool, None, Option}
use Rattle.node_rules.specs.Choices.{Send}
use Rattle.node_rules.specs.Lines.{is_end, lines_by, lines_of, notes_at, ordered, place, sends_on}
use Rattle.node_rules.specs.declared.inputs.Outcome.{Outcome}
use Rattle.run_seconds.specs.Sides.{Sides, joining, on_side, wanting, with_line, with_note}

-- ---- at which places something happens: 1, who joins or leaves; and 5, which request is answered

nothing_at : (j : ℕ) → (j == 1) ≡ false → (j == 5) ≡ false → (n : Note) → (place n == j) ≡ true → (s : Sides) → with_note s n ≡ s
nothing_at j one five (note.Join x g) at s = absurd (let bad : true ≡ false = ap (λ k. k == 1) (eqb-true 1 j at) ∙ one in cc)
nothing_at j one five (note.Leave x g) at s = absurd (let bad : true ≡ false = ap (λ k. k == 1) (eqb-true 1 j at) ∙ one in cc)
nothing_at j one five (note.Confirmed x) at s = absurd (let bad : true ≡ false = ap (λ k. k == 5) (eqb-true 5 j at) ∙ five in cc)
nothing_at j one five (note.Refused x w) at s = absurd (let bad : true ≡ false = ap (λ k. k == 5) (eqb-true 5 j at) ∙ five in cc)
nothing_at j one five (note.Begin w) at s = refl
nothing_at j one five (note.Give x id g) at s = refl
nothing_at j one five (note.Own x id g) at s = refl
nothing_at j one five (note.Set id g) at s = refl
nothing_at j one five (note.Unset id) at s = refl
nothing_at j one five (note.Up x id d count sdu) at s = refl
nothing_at j one five (note.Freed id d count) at s = refl
nothing_at j one five note.Done at s = refl
nothing_at j one five note.Rejected at s = refl

-- elsewhere nothing
nothing_else : (n : Note) → (place n == 1) ≡ false → (place n == 5) ≡ false → (s : Sides) → with_note s n ≡ s
nothing_else (note.Join x g) one five s = absurd cc
nothing_else (note.Leave x g) one five s = absurd cc
nothing_else (note.Confirmed x) one five s = absurd cc
nothing_else (note.Refused x w) one five s = absurd cc
nothing_else (note.Begin w) one five s = refl
nothing_else (note.Give x id g) one five s = refl
nothing_else (note.Own x id g) one five s = refl
nothing_else (note.Set id g) one five s = refl
nothing_else (note.Unset id) one five s = refl
nothing_else (note.Up x id d count sdu) one five s = refl
nothing_else (note.Freed id d count) one five s = refl
nothing_else note.Done one five s = refl
nothing_else note.Rejected one five s = refl

-- both in either order
either_order : (x y : Node) (is : Bool) (w : Option Want) (s : Sides) → on_side y (joining is) (on_side x (wanting w) s) ≡ on_side x (wanting w) (on_side y (joining is) s)
either_order T y is w s = refl
either_order M y is w s = refl
either_order A T is w s = refl
either_order A M is w s = refl
either_order A A is w s = refl
either_order A B is w s = refl
either_order B T is w s = refl
either_order B M is w s = refl
either_order B A is w s = refl
either_order B B is w s = refl

after_answer : (x : Node) (m : Note) → (place m == 1) ≡ true → (s : Sides) → with_note (on_side x (wanting None) s) m ≡ on_side x (wanting None) (with_note s m)
after_answer x (note.Join y g) at s = either_order x y true None s
after_answer x (note.Leave y g) at s = either_order x y false None s
after_answer x (note.Begin w) at s = refl
after_answer x (note.Give y id g) at s = refl
after_answer x (note.Own y id g) at s = refl
after_answer x (note.Set id g) at s = refl
after_answer x (note.Unset id) at s = refl
after_answer x (note.Up y id d count sdu) at s = refl
after_answer x (note.Freed id d count) at s = refl
after_answer x (note.Confirmed y) at s = absurd cc
after_answer x (note.Refused y w) at s = absurd cc
after_answer x note.Done at s = refl
after_answer x note.Rejected at s = refl

commutes : (n m : Note) → (place n == 5) ≡ true → (place m == 1) ≡ true → (s : Sides) → with_note (with_note s n) m ≡ with_note (with_note s m) n
commutes (note.Confirmed x) m five one s = after_answer x m one s
commutes (note.Refused x w) m five one s = after_answer x m one s
commutes (note.Join x g) m five one s = absurd cc
commutes (note.Leave x g) m five one s = absurd cc
commutes (note.Begin w) m five one s = refl
commutes (note.Give x id g) m five one s = refl
commutes (note.Own x id g) m five one s = refl
commutes (note.Set id g) m five one s = refl
commutes (note.Unset id) m five one s = refl
commutes (note.Up x id d count sdu) m five one s = refl
commutes (note.Freed id d count) m five one s = refl
commutes note.Done m five one s = refl
commutes note.Rejected m five one s = refl

-- ---- notes of a place

abbrev of_place : ℕ → List Note → List Note
of_place j ns = filter (λ x. place x == j) ns

none_at : (j : ℕ) → (j == 1) ≡ false → (j == 5) ≡ false → (ns : List Note) (s : Sides) → fold with_note s (of_place j ns) ≡ s
none_at j one five [] s = refl
none_at j one five (n ∷ ns) s =
    elim (cases_Bool (place n == j)) [
      | inl at ↦ rw at (ap (λ z. fold with_note z (of_place j ns)) (nothing_at j one five n at s) ∙ none_at j one five ns s)
      | inr off ↦ rw off (none_at j one five ns s)
    ]

later : (n : Note) → (place n == 5) ≡ true → (ns : List Note) (s : Sides) → fold with_note (with_note s n) (of_place 1 ns) ≡ with_note (fold with_note s (of_place 1 ns)) n
later n five [] s = refl
later n five (m ∷ ns) s =
    elim (cases_Bool (place m == 1)) [
      | inl at ↦ rw at (ap (λ z. fold with_note z (of_place 1 ns)) (commutes n m five at s) ∙ later n five ns (with_note s m))
      | inr off ↦ rw off (later n five ns s)
    ]

-- first those of place 1, then those of place 5
both_places : (ns : List Note) (s : Sides) → fold with_note (fold with_note s (of_place 1 ns)) (of_place 5 ns) ≡ fold with_note s ns
both_places [] s = refl
both_places (n ∷ ns) s =
    elim (cases_Bool (place n == 1)) [
      | inl one ↦
          let not_five : (place n == 5) ≡ false = ap (λ k. k == 5) (eqb-true (place n) 1 one) in
          rw (one, not_five) (both_places ns (with_note s n))
      | inr off ↦ elim (cases_Bool (place n == 5)) [
        | inl five ↦ rw (off, five) (ap (λ z. fold with_note z (of_place 5 ns)) (sym (later n five ns s)) ∙ both_places ns (with_note s n))
        | inr neither ↦ rw (off, neither) (both_places ns s ∙ ap (λ z. fold with_note z ns) (sym (nothing_else n off neither s)))
      ]
    ]

-- ---- lines

in_parts : (s : Sides) (xs ys : List Line) → fold with_line s (xs ++ ys) ≡ fold with_line (fold with_line s xs) ys
in_parts s [] ys = refl
in_parts s (x ∷ xs) ys = in_parts (with_line s x) xs ys

of_notes : (s : Sides) (ns : List Note) → fold with_line s (map (λ x. line.Note x) ns) ≡ fold with_note s ns
of_notes s [] = refl
of_notes s (n ∷ ns) = of_notes (with_note s n) ns

of_sends : (s : Sides) (xs : List Send) → fold with_line s (map (λ (x : Send). line.Send x.0 x.1) xs) ≡ s
of_sends s [] = refl
of_sends s (x ∷ xs) = of_sends s xs

on_links : (s : Sides) (xs : List Send) (ls : List LinkId) → fold with_line s (flat_map (sends_on xs) ls) ≡ s
on_links s xs [] = refl
on_links s xs (l ∷ ls) =
    in_parts s (sends_on xs l) (flat_map (sends_on xs) ls)
    ∙ ap (λ z. fold with_line z (flat_map (sends_on xs) ls)) (of_sends s (filter (λ (x : Send). is_same_link l x.0) xs)) ∙ on_links s xs ls

module _ (ns : List Note) where
  at_none : (js : List ℕ) → AllByRecursion (λ j. ((j == 1) ≡ false) × ((j == 5) ≡ false)) js → (s : Sides) → fold with_line s (flat_map (notes_at ns) js) ≡ s
  at_none [] apart s = refl
  at_none (j ∷ js) apart s =
      in_parts s (notes_at ns j) (flat_map (notes_at ns) js)
      ∙ ap (λ z. fold with_line z (flat_map (notes_at ns) js)) (of_notes s (of_place j ns) ∙ none_at j apart.0.0 apart.0.1 ns s) ∙ at_none js apart.1 s

  before_sends : (s : Sides) → fold with_line s (flat_map (notes_at ns) (0 ∷ 1 ∷ 2 ∷ 3 ∷ 4 ∷ [])) ≡ fold with_note s (of_place 1 ns)
  before_sends s =
      in_parts s (notes_at ns 0) (flat_map (notes_at ns) (1 ∷ 2 ∷ 3 ∷ 4 ∷ []))
      ∙ ap (λ z. fold with_line z (flat_map (notes_at ns) (1 ∷ 2 ∷ 3 ∷ 4 ∷ []))) (of_notes s (of_place 0 ns) ∙ none_at 0 refl refl ns s)
      ∙ in_parts s (notes_at ns 1) (flat_map (notes_at ns) (2 ∷ 3 ∷ 4 ∷ []))
      ∙ ap (λ z. fold with_line z (flat_map (notes_at ns) (2 ∷ 3 ∷ 4 ∷ []))) (of_notes s (of_place 1 ns))
      ∙ at_none (2 ∷ 3 ∷ 4 ∷ []) ((refl, refl), ((refl, refl), ((refl, refl), tt))) (fold with_note s (of_place 1 ns))

  after_sends : (s : Sides) → fold with_line s (flat_map (notes_at ns) (5 ∷ 6 ∷ [])) ≡ fold with_note s (of_place 5 ns)
  after_sends s =
      in_parts s (notes_at ns 5) (flat_map (notes_at ns) (6 ∷ []))
      ∙ ap (λ z. fold with_line z (flat_map (notes_at ns) (6 ∷ []))) (of_notes s (of_place 5 ns)) ∙ at_none (6 ∷ []) ((refl, refl), tt) (fold with_note s (of_place 5 ns))

  ordered_sides : (xs : List Send) (s : Sides) → fold with_line s (ordered ns xs) ≡ fold with_note s ns
  ordered_sides xs s =
      let a = flat_map (notes_at ns) (0 ∷ 1 ∷ 2 ∷ 3 ∷ 4 ∷ []) in
      let b = flat_map (sends_on xs) all_links in
      let d = flat_map (notes_at ns) (5 ∷ 6 ∷ []) in
      let t = fold with_note s (of_place 1 ns) in
      in_parts s (a ++ b) d ∙ ap (λ z. fold with_line z d) (in_parts s a b ∙ ap (λ z. fold with_line z b) (before_sends s) ∙ on_links t xs all_links)
      ∙ after_sends t ∙ both_places ns s

-- the lines of an outcome in which no command ends
pub lines_sides : (o : Outcome) → list_any is_end o.notes ≡ false → (s : Sides) → fold with_line s (lines_of o) ≡ fold with_note s o.notes
lines_sides o none s = ap (λ b. fold with_line s (lines_by b o)) none ∙ ordered_sides o.notes o.sends s
