-- What is seen after the lines of an outcome is what is seen after its notes in their order, where one command ends at most.
use Rattle.std.proofs.Common.{ℕ, ◌≡◌, ◌+◌, ◌==◌, ◌++◌, Bool, true, false, List, [], ◌∷◌, Option, Some, None, refl, sym, ap, ◌∙◌, inl, inr, append_assoc}
use Rattle.std.specs.Prelude.{fold, filter, map, ◌||◌}
use Rattle.std.specs.List.{flat_map, list_any}
use Rattle.std.proofs.lemmas.Bool.{cases_Bool, eqb-true, false≢true}
use Rattle.std.proofs.lemmas.List.{append-nil}
use Rattle.dc_base.specs.Links.{all_links, is_same_link}
use Rattle.dc_base.specs.declared.events.Line.{Line}
use Rattle.dc_base.specs.declared.events.Line.TheVariants as line
use Rattle.dc_base.specs.declared.events.Note.{Note}
use Rattle.dc_base.specs.declared.events.Note.TheVariants as note
use Rattle.dc_base.specs.declared.nodes.Dir.TheVariants.{Dl, Ul}
use Rattle.dc_base.specs.declared.nodes.LinkId.{LinkId}
use Rattle.claims.specs.Table.{Kind, is_change}
use Rattle.node_rules.specs.Choices.{Send}
use Rattle.node_rules.specs.Lines.{ended, is_end, is_idle_release, lines_by, lines_of, notes_after, notes_at, notes_before, ordered, place, sends_after, sends_before, sends_on}
use Rattle.node_rules.specs.declared.inputs.Outcome.{Outcome}
use Rattle.run_windows.specs.Seen.{Count, Face, Seen, done_by, done_in, freed_to, on_latest, with_line, with_note}
use Rattle.run_windows.specs.Controls.{controls, freeds, is_control, notes_in_place}

-- the notes among lines
abbrev note_of : Line → List Note
note_of (line.Note n) = n ∷ []
note_of (line.Send l f) = []
note_of (line.Event e) = []
note_of (line.Answer a) = []

abbrev pub notes_in : List Line → List Note
notes_in xs = flat_map note_of xs

with_notes : (xs : List Line) (s : Seen) → fold with_line s xs ≡ fold with_note s (notes_in xs)
with_notes [] s = refl
with_notes (line.Note n ∷ xs) s = with_notes xs (with_note s n)
with_notes (line.Send l f ∷ xs) s = with_notes xs s
with_notes (line.Event e ∷ xs) s = with_notes xs s
with_notes (line.Answer a ∷ xs) s = with_notes xs s

-- ---- filters

filter_append : {X : Type 0} (f : X → Bool) (xs ys : List X) → filter f (xs ++ ys) ≡ filter f xs ++ filter f ys
filter_append f [] ys = refl
filter_append f (x ∷ xs) ys =
    elim (cases_Bool (f x)) [ inl yes' ↦ rw yes' (ap (λ zs. x ∷ zs) (filter_append f xs ys)) | inr no' ↦ rw no' (filter_append f xs ys) ]

filter_none : {X : Type 0} (f g : X → Bool) → ((x : X) → g x ≡ true → f x ≡ false) → (xs : List X) → filter f (filter g xs) ≡ []
filter_none f g never [] = refl
filter_none f g never (x ∷ xs) =
    elim (cases_Bool (g x)) [ inl yes' ↦ let off = never x yes' in rw (yes', off) (filter_none f g never xs) | inr no' ↦ rw no' (filter_none f g never xs) ]

filter_all : {X : Type 0} (f g : X → Bool) → ((x : X) → g x ≡ true → f x ≡ true) → (xs : List X) → filter f (filter g xs) ≡ filter g xs
filter_all f g all [] = refl
filter_all f g all (x ∷ xs) =
    elim (cases_Bool (g x)) [
      | inl yes' ↦ let on = all x yes' in rw (yes', on) (ap (λ zs. x ∷ zs) (filter_all f g all xs))
      | inr no' ↦ rw no' (filter_all f g all xs)
    ]

-- ---- the notes of ordered lines

notes_append : (xs ys : List Line) → notes_in (xs ++ ys) ≡ notes_in xs ++ notes_in ys
notes_append [] ys = refl
notes_append (x ∷ xs) ys = ap (λ ns. note_of x ++ ns) (notes_append xs ys) ∙ sym (append_assoc (note_of x) (notes_in xs) (notes_in ys))

all_notes : (ns : List Note) → notes_in (map (λ x. line.Note x) ns) ≡ ns
all_notes [] = refl
all_notes (n ∷ ns) = ap (λ ms. n ∷ ms) (all_notes ns)

no_notes : (ss : List Send) → notes_in (map (λ (s : Send). line.Send s.0 s.1) ss) ≡ []
no_notes [] = refl
no_notes (s ∷ ss) = no_notes ss

no_notes_on : (ss : List Send) (ls : List LinkId) → notes_in (flat_map (sends_on ss) ls) ≡ []
no_notes_on ss [] = refl
no_notes_on ss (l ∷ ls) =
    notes_append (sends_on ss l) (flat_map (sends_on ss) ls) ∙ ap (λ ns. ns ++ notes_in (flat_map (sends_on ss) ls)) (no_notes (filter (λ (s : Send). is_same_link l s.0) ss))
    ∙ no_notes_on ss ls

-- the notes of some places that pass a test
abbrev passing : (Note → Bool) → List Note → List ℕ → List Note
passing f ns [] = []
passing f ns (k ∷ ks) = filter f (notes_in_place k ns) ++ passing f ns ks

passing_is : (f : Note → Bool) (ns : List Note) (ks : List ℕ) → filter f (notes_in (flat_map (notes_at ns) ks)) ≡ passing f ns ks
passing_is f ns [] = refl
passing_is f ns (k ∷ ks) =
    ap (filter f) (notes_append (notes_at ns k) (flat_map (notes_at ns) ks) ∙ ap (λ ms. ms ++ notes_in (flat_map (notes_at ns) ks)) (all_notes (notes_in_place k ns)))
    ∙ filter_append f (notes_in_place k ns) (notes_in (flat_map (notes_at ns) ks)) ∙ ap (λ ms. filter f (notes_in_place k ns) ++ ms) (passing_is f ns ks)

passing_ordered : (f : Note → Bool) (ns : List Note) (ss : List Send)
    → filter f (notes_in (ordered ns ss)) ≡ passing f ns (0 ∷ 1 ∷ 2 ∷ 3 ∷ 4 ∷ []) ++ passing f ns (5 ∷ 6 ∷ [])
passing_ordered f ns ss =
    let first = flat_map (notes_at ns) (0 ∷ 1 ∷ 2 ∷ 3 ∷ 4 ∷ []) in
    let mid = flat_map (sends_on ss) all_links in
    let last = flat_map (notes_at ns) (5 ∷ 6 ∷ []) in
    ap (filter f) (notes_append (first ++ mid) last ∙ ap (λ ms. ms ++ notes_in last) (notes_append first mid ∙ ap (λ ms. notes_in first ++ ms) (no_notes_on ss all_links) ∙ append-nil (notes_in first)))
    ∙ filter_append f (notes_in first) (notes_in last)
    ∙ ap (λ ms. ms ++ filter f (notes_in last)) (passing_is f ns (0 ∷ 1 ∷ 2 ∷ 3 ∷ 4 ∷ []))
    ∙ ap (λ ms. passing f ns (0 ∷ 1 ∷ 2 ∷ 3 ∷ 4 ∷ []) ++ ms) (passing_is f ns (5 ∷ 6 ∷ []))

-- a test of the place alone
abbrev by_place : (ℕ → Bool) → Note → Bool
by_place t x = t (place x)

off_place : (t : ℕ → Bool) (k : ℕ) (ns : List Note) → t k ≡ false → filter (by_place t) (notes_in_place k ns) ≡ []
off_place t k ns off = filter_none (by_place t) (λ x. place x == k) (λ x at. ap t (eqb-true (place x) k at) ∙ off) ns

on_place : (t : ℕ → Bool) (k : ℕ) (ns : List Note) → t k ≡ true → filter (by_place t) (notes_in_place k ns) ≡ notes_in_place k ns
on_place t k ns on = filter_all (by_place t) (λ x. place x == k) (λ x at. ap t (eqb-true (place x) k at) ∙ on) ns

ordered_controls : (ns : List Note) (ss : List Send) → controls (notes_in (ordered ns ss)) ≡ notes_in_place 0 ns ++ notes_in_place 6 ns
ordered_controls ns ss =
    let t : ℕ → Bool = λ k. (k == 0) || (k == 6) in
    passing_ordered (by_place t) ns ss
    ∙ rw (on_place t 0 ns refl, off_place t 1 ns refl, off_place t 2 ns refl, off_place t 3 ns refl, off_place t 4 ns refl, off_place t 5 ns refl, on_place t 6 ns refl)
    (ap (λ xs. xs ++ (notes_in_place 6 ns ++ [])) (append-nil (notes_in_place 0 ns)) ∙ ap (λ xs. notes_in_place 0 ns ++ xs) (append-nil (notes_in_place 6 ns)))

ordered_freeds : (ns : List Note) (ss : List Send) → freeds (notes_in (ordered ns ss)) ≡ freeds ns
ordered_freeds ns ss =
    let t : ℕ → Bool = λ k. k == 4 in
    passing_ordered (by_place t) ns ss
    ∙ rw (off_place t 0 ns refl, off_place t 1 ns refl, off_place t 2 ns refl, off_place t 3 ns refl, on_place t 4 ns refl, off_place t 5 ns refl, off_place t 6 ns refl)
    (append-nil (freeds ns ++ []) ∙ append-nil (freeds ns))

-- ---- before and after the end of a command

end_place : (x : Note) → is_end x ≡ (place x == 6)
end_place (note.Begin w) = refl
end_place (note.Join x g) = refl
end_place (note.Leave x g) = refl
end_place (note.Give x id g) = refl
end_place (note.Own x id g) = refl
end_place (note.Set id g) = refl
end_place (note.Unset id) = refl
end_place (note.Up x id d count sdu) = refl
end_place (note.Freed id d count) = refl
end_place (note.Confirmed x) = refl
end_place (note.Refused x w) = refl
end_place note.Done = refl
end_place note.Rejected = refl

-- without an end there are only beginnings
no_end : (ns : List Note) → list_any is_end ns ≡ false → (notes_in_place 0 ns ++ notes_in_place 6 ns ≡ controls ns)
no_end ns none = rw (ends_none ns none) (append-nil (notes_in_place 0 ns) ∙ begins ns none)
  where
    ends_none : (ns : List Note) → list_any is_end ns ≡ false → notes_in_place 6 ns ≡ []
    ends_none [] none = refl
    ends_none (x ∷ xs) none =
        elim (cases_Bool (is_end x)) [
          | inl yes' ↦ let bad : true ≡ false = rw yes' at none in cc
          | inr no' ↦ let off : (place x == 6) ≡ false = sym (end_place x) ∙ no' in rw off (ends_none xs (rw no' at none))
        ]

    begins : (ns : List Note) → list_any is_end ns ≡ false → notes_in_place 0 ns ≡ controls ns
    begins [] none = refl
    begins (x ∷ xs) none =
        elim (cases_Bool (is_end x)) [
          | inl yes' ↦ let bad : true ≡ false = rw yes' at none in cc
          | inr no' ↦
              let off : (place x == 6) ≡ false = sym (end_place x) ∙ no' in
              let rest = begins xs (rw no' at none) in
              elim (cases_Bool (place x == 0)) [
                | inl zero' ↦ rw zero' (ap (λ zs. x ∷ zs) rest)
                | inr other ↦ rw (other, off) rest
              ]
        ]

-- up to the end nothing begins after it
until_end : (ns : List Note) → notes_in_place 0 (notes_before ns) ++ notes_in_place 6 (notes_before ns) ≡ controls (notes_before ns)
until_end [] = refl
until_end (x ∷ xs) =
    elim (cases_Bool (is_end x)) [
      | inl yes' ↦
          let on : (place x == 6) ≡ true = sym (end_place x) ∙ yes' in
          let off : (place x == 0) ≡ false = ap (λ k. k == 0) (eqb-true (place x) 6 on) in
          rw yes' (rw (on, off) refl)
      | inr no' ↦
          let off : (place x == 6) ≡ false = sym (end_place x) ∙ no' in
          elim (cases_Bool (place x == 0)) [
            | inl zero' ↦ rw no' (rw (zero', off) (ap (λ zs. x ∷ zs) (until_end xs)))
            | inr other ↦ rw no' (rw (other, off) (until_end xs))
          ]
    ]

-- what passes a test is before or after the end
both_sides : (f : Note → Bool) (ns : List Note) → filter f (notes_before ns) ++ filter f (notes_after ns) ≡ filter f ns
both_sides f [] = refl
both_sides f (x ∷ xs) =
    elim (cases_Bool (is_end x)) [
      | inl yes' ↦ rw yes' (sym (filter_append f (x ∷ []) xs))
      | inr no' ↦ elim (cases_Bool (f x)) [
        | inl on ↦ rw no' (rw on (ap (λ zs. x ∷ zs) (both_sides f xs)))
        | inr off ↦ rw no' (rw off (both_sides f xs))
      ]
    ]

-- after an end of a command there is none
abbrev pub EndsOnce : List Note → Type 0
EndsOnce ns = list_any is_end (notes_after ns) ≡ false

ended_passing : (f : Note → Bool) (ns : List Note) (ss : List Send)
    → filter f (notes_in (ended ns ss)) ≡ filter f (notes_in (ordered (notes_before ns) (sends_before ss))) ++ filter f (notes_in (ordered (notes_after ns) (sends_after ss)))
ended_passing f ns ss =
    let first = ordered (notes_before ns) (sends_before ss) in
    let idle = map (λ (s : Send). line.Send s.0 s.1) (filter is_idle_release ss) in
    let last = ordered (notes_after ns) (sends_after ss) in
    ap (filter f) (notes_append (first ++ idle) last ∙ ap (λ ms. ms ++ notes_in last) (notes_append first idle ∙ ap (λ ms. notes_in first ++ ms) (no_notes (filter is_idle_release ss)) ∙ append-nil (notes_in first)))
    ∙ filter_append f (notes_in first) (notes_in last)

controls_by : (ends : Bool) (o : Outcome) → list_any is_end o.notes ≡ ends → EndsOnce o.notes → controls (notes_in (lines_by ends o)) ≡ controls o.notes
controls_by false o none once = ordered_controls o.notes o.sends ∙ no_end o.notes none
controls_by true o there once =
    ended_passing is_control o.notes o.sends
    ∙ rw (ordered_controls (notes_before o.notes) (sends_before o.sends) ∙ until_end o.notes, ordered_controls (notes_after o.notes) (sends_after o.sends) ∙ no_end (notes_after o.notes) once)
    (both_sides is_control o.notes)

freeds_by : (ends : Bool) (o : Outcome) → freeds (notes_in (lines_by ends o)) ≡ freeds o.notes
freeds_by false o = ordered_freeds o.notes o.sends
freeds_by true o =
    let f : Note → Bool = λ x. place x == 4 in
    ended_passing f o.notes o.sends
    ∙ rw (ordered_freeds (notes_before o.notes) (sends_before o.sends), ordered_freeds (notes_after o.notes) (sends_after o.sends)) (both_sides f o.notes)

-- ---- notes of other bearers and of commands in another order

done_commutes : (k : Kind) (id count : ℕ) (bs : List (Face × Count)) → map (done_in k) (on_latest id (freed_to count) bs) ≡ on_latest id (freed_to count) (map (done_in k) bs)
done_commutes k id count [] = refl
done_commutes k id count (b ∷ bs) =
    elim (cases_Bool (is_change b.0.g k)) [
      | inl is ↦ elim (cases_Bool (b.0.id == id)) [
        | inl here ↦ rw is (rw here (rw is refl))
        | inr there ↦ rw is (rw there (rw is (ap (λ xs. (record b.0 { is_done = true }, b.1) ∷ xs) (done_commutes k id count bs))))
      ]
      | inr no' ↦ elim (cases_Bool (b.0.id == id)) [
        | inl here ↦ rw no' (rw here (rw no' refl))
        | inr there ↦ rw no' (rw there (rw no' (ap (λ xs. b ∷ xs) (done_commutes k id count bs))))
      ]
    ]

done_by_commutes : (o : Option Kind) (id count : ℕ) (bs : List (Face × Count)) → done_by o (on_latest id (freed_to count) bs) ≡ on_latest id (freed_to count) (done_by o bs)
done_by_commutes None id count bs = refl
done_by_commutes (Some k) id count bs = done_commutes k id count bs

-- a window's beginning goes past any note that begins or ends a command
past_control : (s : Seen) (id count : ℕ) (x : Note) → is_control x ≡ true → with_note (with_note s (note.Freed id Dl count)) x ≡ with_note (with_note s x) (note.Freed id Dl count)
past_control s id count (note.Begin w) is = refl
past_control s id count note.Done is = ap (λ bs. record s { bearers = bs; kind = None }) (done_by_commutes s.kind id count s.bearers)
past_control s id count note.Rejected is = refl
past_control s id count (note.Join x g) is = refl
past_control s id count (note.Leave x g) is = refl
past_control s id count (note.Give x i g) is = refl
past_control s id count (note.Own x i g) is = refl
past_control s id count (note.Set i g) is = refl
past_control s id count (note.Unset i) is = refl
past_control s id count (note.Up x i d c sdu) is = refl
past_control s id count (note.Freed i d c) is = absurd (false≢true is)
past_control s id count (note.Confirmed x) is = refl
past_control s id count (note.Refused x w) is = refl

past_controls : (s : Seen) (id count : ℕ) (ns : List Note) → fold with_note (with_note s (note.Freed id Dl count)) (controls ns) ≡ with_note (fold with_note s (controls ns)) (note.Freed id Dl count)
past_controls s id count [] = refl
past_controls s id count (x ∷ xs) =
    elim (cases_Bool (is_control x)) [
      | inl is ↦ rw is (ap (λ t. fold with_note t (controls xs)) (past_control s id count x is) ∙ past_controls (with_note s x) id count xs)
      | inr no' ↦ rw no' (past_controls s id count xs)
    ]

-- first what begins and ends, then the windows
pub apart : (s : Seen) (ns : List Note) → fold with_note s ns ≡ fold with_note (fold with_note s (controls ns)) (freeds ns)
apart s [] = refl
apart s (note.Begin w ∷ ns) = apart (with_note s (note.Begin w)) ns
apart s (note.Done ∷ ns) = apart (with_note s note.Done) ns
apart s (note.Rejected ∷ ns) = apart (with_note s note.Rejected) ns
apart s (note.Join x g ∷ ns) = apart s ns
apart s (note.Leave x g ∷ ns) = apart s ns
apart s (note.Give x i g ∷ ns) = apart s ns
apart s (note.Own x i g ∷ ns) = apart s ns
apart s (note.Set i g ∷ ns) = apart s ns
apart s (note.Unset i ∷ ns) = apart s ns
apart s (note.Up x i d c sdu ∷ ns) = apart s ns
apart s (note.Freed i Ul c ∷ ns) = apart s ns
apart s (note.Freed i Dl c ∷ ns) =
    apart (with_note s (note.Freed i Dl c)) ns ∙ ap (λ t. fold with_note t (freeds ns)) (past_controls s i c ns)
apart s (note.Confirmed x ∷ ns) = apart s ns
apart s (note.Refused x w ∷ ns) = apart s ns

-- of the lines of an outcome the same is seen as of its notes in their order
pub lines_seen : (s : Seen) (o : Outcome) → EndsOnce o.notes → fold with_line s (lines_of o) ≡ fold with_note s o.notes
lines_seen s o once =
    let ns = notes_in (lines_of o) in
    with_notes (lines_of o) s ∙ apart s ns
    ∙ rw (controls_by (list_any is_end o.notes) o refl once, freeds_by (list_any is_end o.notes) o) (sym (apart s o.notes))
