-- The lines of a step of a secondary node: what it notes of itself stands in its place.
use Rattle.std.proofs.Common.{ℕ, ◌≡◌, ◌==◌, ◌++◌, Bool, true, false, List, [], ◌∷◌, Option, Some, None, refl, sym, ap, subst, ◌∙◌, inl, inr}
use Rattle.std.specs.Prelude.{filter, flat_map, fold, if◌then◌else◌, map, ⊤}
use Rattle.std.specs.List.{AllByRecursion, list_any}
use Rattle.std.proofs.lemmas.Bool.{cases_Bool, eqb-true}
use Rattle.dc_base.specs.Links.{all_links}
use Rattle.dc_base.specs.declared.events.Line.{Line}
use Rattle.dc_base.specs.declared.events.Line.TheVariants as line
use Rattle.dc_base.specs.declared.events.Note.{Note}
use Rattle.dc_base.specs.declared.events.Note.TheVariants as note
use Rattle.dc_base.specs.declared.nodes.LinkId.{LinkId}
use Rattle.dc_base.specs.declared.nodes.Node.{Node}
use Rattle.dc_base.specs.declared.nodes.Node.TheVariants.{A, B, M, T}
use Rattle.dc_base.specs.declared.nodes.Want.{Want}
use Rattle.dc_base.specs.declared.records.Rec.{Rec}
use Rattle.claims.specs.Claim.{EachLine}
use Rattle.claims.specs.Noted.{noted}
use Rattle.claims.specs.Past.{Past}
use Rattle.claims.specs.Placed.{is_placed, note_reason}
use Rattle.node_rules.specs.Choices.{Send}
use Rattle.node_rules.specs.Lines.{is_end, lines_by, lines_of, notes_at, place, sends_on}
use Rattle.node_rules.specs.declared.inputs.Outcome.{Outcome}
use Rattle.run_seconds.specs.Sides.{Side, Sides, joining, on_side, sides, with_line, with_note}
use Rattle.run_seconds.proofs.Seeing.{all_noted_sides, noted_sides}
use Rattle.run_words.proofs.Lines.{each_line_of}
use Rattle.run_placed.specs.Lines.{is_second_note_line}
use Rattle.run_placed.proofs.Givens.{all_given_kept, given_kept}
use Rattle.run_placed.proofs.Reasons.{IsGiven}

-- the claim on the lines that say it
abbrev pub SecondPlaced : Past → List Line → Type 0
SecondPlaced p xs = EachLine (λ q x. if is_second_note_line x then is_placed q x else true) p xs

-- a line that does not
abbrev pub IsNoOwn : Line → Type 0
IsNoOwn x = is_second_note_line x ≡ false

no_own_placed : (xs : List Line) (p : Past) → AllByRecursion IsNoOwn xs → SecondPlaced p xs
no_own_placed [] p none = tt
no_own_placed (x ∷ xs) p none = (ap (λ b. if b then is_placed p x else true) none.0, no_own_placed xs (noted p x) none.1)

fold_append : (xs ys : List Line) (p : Past) → fold noted p (xs ++ ys) ≡ fold noted (fold noted p xs) ys
fold_append [] ys p = refl
fold_append (x ∷ xs) ys p = fold_append xs ys (noted p x)

append_placed : (xs ys : List Line) (p : Past) → SecondPlaced p xs → SecondPlaced (fold noted p xs) ys → SecondPlaced p (xs ++ ys)
append_placed [] ys p first second = second
append_placed (x ∷ xs) ys p first second = (first.0, append_placed xs ys (noted p x) first.1 second)

-- ---- what is said of the node

-- of one of the two
abbrev pub side_at : Node → Sides → Side
side_at A s = s.a
side_at B s = s.b
side_at T s = s.a
side_at M s = s.a

silent_line : (x : Line) (s : Sides) → IsNoOwn x → with_line s x ≡ s
silent_line (line.Note (note.Join x g)) s none = absurd cc
silent_line (line.Note (note.Leave x g)) s none = absurd cc
silent_line (line.Note (note.Confirmed x)) s none = absurd cc
silent_line (line.Note (note.Refused x w)) s none = absurd cc
silent_line (line.Note (note.Begin w)) s none = refl
silent_line (line.Note (note.Give x id g)) s none = refl
silent_line (line.Note (note.Own x id g)) s none = refl
silent_line (line.Note (note.Set id g)) s none = refl
silent_line (line.Note (note.Unset id)) s none = refl
silent_line (line.Note (note.Up x id d count sdu)) s none = refl
silent_line (line.Note (note.Freed id d count)) s none = refl
silent_line (line.Note note.Done) s none = refl
silent_line (line.Note note.Rejected) s none = refl
silent_line (line.Send l f) s none = refl
silent_line (line.Event e) s none = refl
silent_line (line.Answer a) s none = refl

silent_lines : (xs : List Line) (s : Sides) → AllByRecursion IsNoOwn xs → fold with_line s xs ≡ s
silent_lines [] s none = refl
silent_lines (x ∷ xs) s none = ap (λ z. fold with_line z xs) (silent_line x s none.0) ∙ silent_lines xs s none.1

silent_sides : (xs : List Line) (p : Past) → AllByRecursion IsNoOwn xs → sides (fold noted p xs) ≡ sides p
silent_sides xs p none = all_noted_sides xs p ∙ silent_lines xs (sides p) none

-- to join or to leave is no answer
joined_wants : (y x : Node) (b : Bool) (s : Sides) → (side_at x (on_side y (joining b) s)).wants ≡ (side_at x s).wants
joined_wants T x b s = refl
joined_wants M x b s = refl
joined_wants A T b s = refl
joined_wants A M b s = refl
joined_wants A A b s = refl
joined_wants A B b s = refl
joined_wants B T b s = refl
joined_wants B M b s = refl
joined_wants B A b s = refl
joined_wants B B b s = refl

wants_still : (n : Note) → (place n == 1) ≡ true → (x : Node) (s : Sides) → (side_at x (with_note s n)).wants ≡ (side_at x s).wants
wants_still (note.Join y g) at x s = joined_wants y x true s
wants_still (note.Leave y g) at x s = joined_wants y x false s
wants_still (note.Begin w) at x s = absurd cc
wants_still (note.Give y id g) at x s = absurd cc
wants_still (note.Own y id g) at x s = absurd cc
wants_still (note.Set id g) at x s = absurd cc
wants_still (note.Unset id) at x s = absurd cc
wants_still (note.Up y id d count sdu) at x s = absurd cc
wants_still (note.Freed id d count) at x s = absurd cc
wants_still (note.Confirmed y) at x s = absurd cc
wants_still (note.Refused y w) at x s = absurd cc
wants_still note.Done at x s = absurd cc
wants_still note.Rejected at x s = absurd cc

-- ---- the lines in their order

-- there is one note at most, and it stands in its place wherever this is so
abbrev pub OneReasoned : (Past → Type 0) → List Note → Type 0
OneReasoned P [] = ⊤
OneReasoned P (n ∷ []) = (q : Past) → P q → note_reason q n ≡ true
OneReasoned P (n ∷ m ∷ ns) = ⊥

-- notes of other places are not of the node itself
place_no_own : (n : Note) → (place n == 1) ≡ false → (place n == 5) ≡ false → IsNoOwn (line.Note n)
place_no_own (note.Join y g) one five = absurd cc
place_no_own (note.Leave y g) one five = absurd cc
place_no_own (note.Confirmed y) one five = absurd cc
place_no_own (note.Refused y w) one five = absurd cc
place_no_own (note.Begin w) one five = refl
place_no_own (note.Give y id g) one five = refl
place_no_own (note.Own y id g) one five = refl
place_no_own (note.Set id g) one five = refl
place_no_own (note.Unset id) one five = refl
place_no_own (note.Up y id d count sdu) one five = refl
place_no_own (note.Freed id d count) one five = refl
place_no_own note.Done one five = refl
place_no_own note.Rejected one five = refl

at_no_own : (j : ℕ) → (j == 1) ≡ false → (j == 5) ≡ false → (ns : List Note) → AllByRecursion IsNoOwn (notes_at ns j)
at_no_own j one five [] = tt
at_no_own j one five (n ∷ ns) =
    elim (cases_Bool (place n == j)) [
      | inl here ↦ let same = eqb-true (place n) j here in rw here (place_no_own n (ap (λ k. k == 1) same ∙ one) (ap (λ k. k == 5) same ∙ five), at_no_own j one five ns)
      | inr there ↦ rw there (at_no_own j one five ns)
    ]

sent_no_own : (ss : List Send) → AllByRecursion IsNoOwn (map (λ (s : Send). line.Send s.0 s.1) ss)
sent_no_own [] = tt
sent_no_own (s ∷ ss) = (refl, sent_no_own ss)

both_no_own : (xs ys : List Line) → AllByRecursion IsNoOwn xs → AllByRecursion IsNoOwn ys → AllByRecursion IsNoOwn (xs ++ ys)
both_no_own [] ys first second = second
both_no_own (x ∷ xs) ys first second = (first.0, both_no_own xs ys first.1 second)

links_no_own : (ss : List Send) (ls : List LinkId) → AllByRecursion IsNoOwn (flat_map (sends_on ss) ls)
links_no_own ss [] = tt
links_no_own ss (l ∷ ls) = both_no_own (sends_on ss l) (flat_map (sends_on ss) ls) (sent_no_own _) (links_no_own ss ls)

module _ (x : Node) (r : Rec) (z : Side) where
  -- the node was given the record, and this is said of it
  pub record IsBefore (q : Past) : Type 0 where
    pub given : IsGiven q x r
    pub side : side_at x (sides q) ≡ z

  -- and so much of it, once it joined or left
  pub record IsBetween (q : Past) : Type 0 where
    pub given : IsGiven q x r
    pub wants : (side_at x (sides q)).wants ≡ z.wants

  still_given : (xs : List Line) (q : Past) → IsGiven q x r → IsGiven (fold noted q xs) x r
  still_given xs q is = record { link = is.link; given = all_given_kept xs q ∙ is.given; to = is.to }

  before_stays : (xs : List Line) (q : Past) → AllByRecursion IsNoOwn xs → IsBefore q → IsBefore (fold noted q xs)
  before_stays xs q none is = record { given = still_given xs q is.given; side = ap (side_at x) (silent_sides xs q none) ∙ is.side }

  between_stays : (xs : List Line) (q : Past) → AllByRecursion IsNoOwn xs → IsBetween q → IsBetween (fold noted q xs)
  between_stays xs q none is = record { given = still_given xs q is.given; wants = ap (λ s. (side_at x s).wants) (silent_sides xs q none) ∙ is.wants }

  -- one note, or none
  one_placed : (P : Past → Type 0) (ns : List Note) (q : Past) → OneReasoned P ns → P q → SecondPlaced q (map (λ n. line.Note n) ns)
  one_placed P [] q one is = tt
  one_placed P (n ∷ []) q one is = (by (is_second_note_line (line.Note n)), tt)
    where
      by : (b : Bool) → (if b then note_reason q n else true) ≡ true
      by true = one q is
      by false = refl
  one_placed P (n ∷ m ∷ ns) q one is = absurd one

  -- after the first
  after_front : (ns : List Note) (q : Past) → AllByRecursion (λ n. (place n == 1) ≡ true) ns → OneReasoned IsBefore ns → IsBefore q → IsBetween (fold noted q (map (λ n. line.Note n) ns))
  after_front [] q at one is = record { given = is.given; wants = ap (λ (s : Side). s.wants) is.side }
  after_front (n ∷ []) q at one is = record {
    given = still_given (line.Note n ∷ []) q is.given;
    wants = ap (λ s. (side_at x s).wants) (noted_sides q (line.Note n)) ∙ wants_still n at.0 x (sides q) ∙ ap (λ (s : Side). s.wants) is.side;
  }
  after_front (n ∷ m ∷ ns) q at one is = absurd one

  all_at : (j : ℕ) (ns : List Note) → AllByRecursion (λ n. (place n == j) ≡ true) (filter (λ n. place n == j) ns)
  all_at j [] = tt
  all_at j (n ∷ ns) = elim (cases_Bool (place n == j)) [ inl here ↦ rw here (here, all_at j ns) | inr there ↦ rw there (all_at j ns) ]

  -- the lines of an outcome
  ordered_placed : (ns : List Note) (sent : List Line) → AllByRecursion IsNoOwn sent → OneReasoned IsBefore (filter (λ n. place n == 1) ns) → OneReasoned IsBetween (filter (λ n. place n == 5) ns)
      → (q : Past) → IsBefore q → SecondPlaced q (flat_map (notes_at ns) (0 ∷ 1 ∷ 2 ∷ 3 ∷ 4 ∷ []) ++ sent ++ flat_map (notes_at ns) (5 ∷ 6 ∷ []))
  ordered_placed ns sent none front back q is =
      let begin = notes_at ns 0 in
      let rest = flat_map (notes_at ns) (2 ∷ 3 ∷ 4 ∷ []) in
      let rest_none : AllByRecursion IsNoOwn rest = both_no_own (notes_at ns 2) _ (at_no_own 2 refl refl ns) (both_no_own (notes_at ns 3) _ (at_no_own 3 refl refl ns)
      (both_no_own (notes_at ns 4) [] (at_no_own 4 refl refl ns) tt)) in
      let q1 = fold noted q begin in
      let is1 = before_stays begin q (at_no_own 0 refl refl ns) is in
      let q2 = fold noted q1 (notes_at ns 1) in
      let is2 : IsBetween q2 = after_front (filter (λ n. place n == 1) ns) q1 (all_at 1 ns) front is1 in
      let first : SecondPlaced q (begin ++ (notes_at ns 1 ++ rest)) =
      append_placed begin (notes_at ns 1 ++ rest) q (no_own_placed begin q (at_no_own 0 refl refl ns))
      (append_placed (notes_at ns 1) rest q1 (one_placed IsBefore (filter (λ n. place n == 1) ns) q1 front is1) (no_own_placed rest q2 rest_none)) in
      let front_lines = begin ++ (notes_at ns 1 ++ rest) in
      let q3 = fold noted q front_lines in
      let q3_is : q3 ≡ fold noted q2 rest = fold_append begin (notes_at ns 1 ++ rest) q ∙ fold_append (notes_at ns 1) rest q1 in
      let is3 : IsBetween q3 = subst IsBetween (sym q3_is) (between_stays rest q2 rest_none is2) in
      let last = flat_map (notes_at ns) (6 ∷ []) in
      let last_none : AllByRecursion IsNoOwn last = both_no_own (notes_at ns 6) [] (at_no_own 6 refl refl ns) tt in
      let q4 = fold noted q3 sent in
      let is4 : IsBetween q4 = between_stays sent q3 none is3 in
      let q5 = fold noted q (front_lines ++ sent) in
      let q5_is : q5 ≡ q4 = fold_append front_lines sent q in
      append_placed (front_lines ++ sent) (notes_at ns 5 ++ last) q (append_placed front_lines sent q first (no_own_placed sent q3 none))
      (append_placed (notes_at ns 5) last q5 (one_placed IsBetween (filter (λ n. place n == 5) ns) q5 back (subst IsBetween (sym q5_is) is4)) (no_own_placed last _ last_none))

  pub outcome_placed : (o : Outcome) → list_any is_end o.notes ≡ false → OneReasoned IsBefore (filter (λ n. place n == 1) o.notes) → OneReasoned IsBetween (filter (λ n. place n == 5) o.notes)
      → (q : Past) → IsBefore q → SecondPlaced q (lines_of o)
  outcome_placed o no_end front back q is =
      subst (SecondPlaced q) (sym (ap (λ b. lines_by b o) no_end)) (ordered_placed o.notes (flat_map (sends_on o.sends) all_links) (links_no_own o.sends all_links) front back q is)

-- where a step notes nothing of the node itself
pub silent_placed : (o : Outcome) (q : Past) → AllByRecursion (λ n. IsNoOwn (line.Note n)) o.notes → SecondPlaced q (lines_of o)
silent_placed o q none = no_own_placed (lines_of o) q (each_line_of IsNoOwn o none (sends_none o.sends))
  where
    sends_none : (ss : List Send) → AllByRecursion (λ (s : Send). IsNoOwn (line.Send s.0 s.1)) ss
    sends_none [] = tt
    sends_none (s ∷ ss) = (refl, sends_none ss)
