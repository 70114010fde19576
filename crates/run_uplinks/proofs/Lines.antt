-- What is seen of the lines of an outcome of the terminal: the same as of its notes in their order.
use Rattle.std.proofs.Common.{ℕ, ◌≡◌, ◌==◌, ◌++◌, Bool, true, false, List, [], ◌∷◌, refl, sym, ap, ◌∙◌, inl, inr, ◌⊎◌}
use Rattle.std.specs.Prelude.{filter, fold, if◌then◌else◌, map, ◌||◌}
use Rattle.std.specs.List.{AllByRecursion, flat_map, list_any}
use Rattle.std.proofs.lemmas.Bool.{cases_Bool, eq-eqb, eqb-true, ne_eqb, eqb-false}
use Rattle.dc_base.specs.Links.{all_links, is_same_link}
use Rattle.dc_base.specs.declared.events.Line.{Line}
use Rattle.dc_base.specs.declared.events.Line.TheVariants as line
use Rattle.dc_base.specs.declared.events.Note.{Note}
use Rattle.dc_base.specs.declared.nodes.LinkId.{LinkId}
use Rattle.claims.specs.Noted.{noted}
use Rattle.claims.specs.Past.{Past}
use Rattle.node_rules.specs.Choices.{Send}
use Rattle.node_rules.specs.Lines.{is_end, lines_by, lines_of, notes_at, ordered, place, sends_on}
use Rattle.node_rules.specs.declared.inputs.Outcome.{Outcome}
use Rattle.run_words.proofs.Lines.{each_line_of}
use Rattle.run_uplinks.specs.Notes.{is_of_second}
use Rattle.run_uplinks.specs.Seen.{Seen, seen, with_line, with_note}
use Rattle.run_uplinks.proofs.Seeing.{begins, begins_line, noted_seen}

-- the note stands in this place, or nothing is seen of it
abbrev pub InPlace : ℕ → Note → Type 0
InPlace k n = ((place n == k) ≡ true) ⊎ ((s : Seen) → with_note s n ≡ s)

-- a note of the terminal: by it no command begins or ends, and it is none of a secondary node's procedures
abbrev pub IsOfTerminal : ℕ → Note → Type 0
IsOfTerminal k n = ((is_end n || is_of_second n) ≡ false) × (begins n ≡ false) × InPlace k n

-- ---- notes of a place

module _ (k : ℕ) where
  pub of_place : (j : ℕ) (ns : List Note) (s : Seen) → AllByRecursion (IsOfTerminal k) ns → fold with_note s (filter (λ x. place x == j) ns) ≡ (if j == k then fold with_note s ns else s)
  of_place j [] s all = by (j == k)
    where
      by : (b : Bool) → s ≡ (if b then s else s)
      by true = refl
      by false = refl
  of_place j (n ∷ ns) s all =
      elim all.0.2 [
        | inl at ↦ elim (cases_Bool (place n == j)) [
          | inl here ↦
              let same : (j == k) ≡ true = eq-eqb j k (sym (eqb-true (place n) j here) ∙ eqb-true (place n) k at) in
              rw here (of_place j ns (with_note s n) all.1 ∙ ap (λ b. if b then fold with_note (with_note s n) ns else with_note s n) same ∙ sym (ap (λ b. if b then fold with_note (with_note s n) ns else s) same))
          | inr there ↦
              let apart : (j == k) ≡ false = ne_eqb j k (λ same. eqb-false (place n) j there (eqb-true (place n) k at ∙ sym same)) in
              rw there (of_place j ns s all.1 ∙ ap (λ b. if b then fold with_note s ns else s) apart ∙ sym (ap (λ b. if b then fold with_note (with_note s n) ns else s) apart))
        ]
        | inr unseen ↦
            let same : fold with_note (with_note s n) ns ≡ fold with_note s ns = ap (λ z. fold with_note z ns) (unseen s) in
            let rest = of_place j ns s all.1 ∙ ap (λ z. if j == k then z else s) (sym same) in
            elim (cases_Bool (place n == j)) [
              | inl here ↦ rw here (ap (λ z. fold with_note z (filter (λ x. place x == j) ns)) (unseen s) ∙ rest)
              | inr there ↦ rw there rest
            ]
      ]

  -- ---- lines

  fold_lines : (s : Seen) (xs ys : List Line) → fold with_line s (xs ++ ys) ≡ fold with_line (fold with_line s xs) ys
  fold_lines s [] ys = refl
  fold_lines s (x ∷ xs) ys = fold_lines (with_line s x) xs ys

  pub fold_notes : (s : Seen) (ns : List Note) → fold with_line s (map (λ x. line.Note x) ns) ≡ fold with_note s ns
  fold_notes s [] = refl
  fold_notes s (n ∷ ns) = fold_notes (with_note s n) ns

  fold_sends : (s : Seen) (ss : List Send) → fold with_line s (map (λ (x : Send). line.Send x.0 x.1) ss) ≡ s
  fold_sends s [] = refl
  fold_sends s (x ∷ ss) = fold_sends s ss

  fold_sends_on : (s : Seen) (ss : List Send) (ls : List LinkId) → fold with_line s (flat_map (sends_on ss) ls) ≡ s
  fold_sends_on s ss [] = refl
  fold_sends_on s ss (l ∷ ls) =
      fold_lines s (sends_on ss l) (flat_map (sends_on ss) ls) ∙ ap (λ z. fold with_line z (flat_map (sends_on ss) ls)) (fold_sends s (filter (λ (x : Send). is_same_link l x.0) ss)) ∙ fold_sends_on s ss ls

  module _ (ns : List Note) (all : AllByRecursion (IsOfTerminal k) ns) where
    at_place : (j : ℕ) (s : Seen) → fold with_line s (notes_at ns j) ≡ (if j == k then fold with_note s ns else s)
    at_place j s = fold_notes s (filter (λ x. place x == j) ns) ∙ of_place j ns s all

    -- places where nothing is seen
    off_places : (js : List ℕ) (s : Seen) → AllByRecursion (λ j. (j == k) ≡ false) js → fold with_line s (flat_map (notes_at ns) js) ≡ s
    off_places [] s off = refl
    off_places (j ∷ js) s off =
        fold_lines s (notes_at ns j) (flat_map (notes_at ns) js)
        ∙ ap (λ z. fold with_line z (flat_map (notes_at ns) js)) (at_place j s ∙ ap (λ b. if b then fold with_note s ns else s) off.0)
        ∙ off_places js s off.1

    -- and the one where it is
    on_place : (js ms : List ℕ) (s : Seen) → AllByRecursion (λ j. (j == k) ≡ false) js → AllByRecursion (λ j. (j == k) ≡ false) ms
        → fold with_line s (flat_map (notes_at ns) (js ++ k ∷ ms)) ≡ fold with_note s ns
    on_place [] ms s off more =
        fold_lines s (notes_at ns k) (flat_map (notes_at ns) ms)
        ∙ ap (λ z. fold with_line z (flat_map (notes_at ns) ms)) (at_place k s ∙ ap (λ b. if b then fold with_note s ns else s) (eq-eqb k k refl))
        ∙ off_places ms (fold with_note s ns) more
    on_place (j ∷ js) ms s off more =
        fold_lines s (notes_at ns j) (flat_map (notes_at ns) (js ++ k ∷ ms))
        ∙ ap (λ z. fold with_line z (flat_map (notes_at ns) (js ++ k ∷ ms))) (at_place j s ∙ ap (λ b. if b then fold with_note s ns else s) off.0)
        ∙ on_place js ms s off.1 more

    -- the lines in order
    ordered_seen : (ss : List Send) (s : Seen) → fold with_line s (flat_map (notes_at ns) (0 ∷ 1 ∷ 2 ∷ 3 ∷ 4 ∷ [])) ≡ fold with_note s ns → AllByRecursion (λ j. (j == k) ≡ false) (5 ∷ 6 ∷ [])
        → fold with_line s (ordered ns ss) ≡ fold with_note s ns
    ordered_seen ss s first off =
        let a = flat_map (notes_at ns) (0 ∷ 1 ∷ 2 ∷ 3 ∷ 4 ∷ []) in
        let b = flat_map (sends_on ss) all_links in
        let d = flat_map (notes_at ns) (5 ∷ 6 ∷ []) in
        fold_lines s (a ++ b) d ∙ ap (λ z. fold with_line z d) (fold_lines s a b ∙ ap (λ z. fold with_line z b) first ∙ fold_sends_on (fold with_note s ns) ss all_links)
        ∙ off_places (5 ∷ 6 ∷ []) (fold with_note s ns) off

-- ---- of the terminal

pub no_ends : (k : ℕ) (ns : List Note) → AllByRecursion (IsOfTerminal k) ns → list_any is_end ns ≡ false
no_ends k [] all = refl
no_ends k (n ∷ ns) all =
    elim (cases_Bool (is_end n)) [ inl yes' ↦ absurd (let bad : true ≡ false = rw yes' at all.0.0 in cc) | inr off ↦ rw off (no_ends k ns all.1) ]

-- notes of a bearer that is set or dropped
pub set_lines : (o : Outcome) (s : Seen) → AllByRecursion (IsOfTerminal 2) o.notes → fold with_line s (lines_of o) ≡ fold with_note s o.notes
set_lines o s all =
    ap (λ b. fold with_line s (lines_by b o)) (no_ends 2 o.notes all)
    ∙ ordered_seen 2 o.notes all o.sends s (on_place 2 o.notes all (0 ∷ 1 ∷ []) (3 ∷ 4 ∷ []) s (refl, (refl, tt)) (refl, (refl, tt))) (refl, (refl, tt))

-- notes of a window
pub freed_lines : (o : Outcome) (s : Seen) → AllByRecursion (IsOfTerminal 4) o.notes → fold with_line s (lines_of o) ≡ fold with_note s o.notes
freed_lines o s all =
    ap (λ b. fold with_line s (lines_by b o)) (no_ends 4 o.notes all)
    ∙ ordered_seen 4 o.notes all o.sends s (on_place 4 o.notes all (0 ∷ 1 ∷ 2 ∷ 3 ∷ []) [] s (refl, (refl, (refl, (refl, tt)))) tt) (refl, (refl, tt))

-- ---- the past

-- no line begins a command
abbrev pub NoneBegins : List Line → Type 0
NoneBegins xs = AllByRecursion (λ x. begins_line x ≡ false) xs

pub all_noted_seen : (xs : List Line) (p : Past) → NoneBegins xs → seen (fold noted p xs) ≡ fold with_line (seen p) xs
all_noted_seen [] p all = refl
all_noted_seen (x ∷ xs) p all = all_noted_seen xs (noted p x) all.1 ∙ ap (λ s. fold with_line s xs) (noted_seen p x all.0)

notes_begin_none : (k : ℕ) (ns : List Note) → AllByRecursion (IsOfTerminal k) ns → AllByRecursion (λ n. begins_line (line.Note n) ≡ false) ns
notes_begin_none k [] all = tt
notes_begin_none k (n ∷ ns) all = (all.0.1, notes_begin_none k ns all.1)

sends_begin_none : (ss : List Send) → AllByRecursion (λ (x : Send). begins_line (line.Send x.0 x.1) ≡ false) ss
sends_begin_none [] = tt
sends_begin_none (x ∷ ss) = (refl, sends_begin_none ss)

pub lines_begin_none : (k : ℕ) (o : Outcome) → AllByRecursion (IsOfTerminal k) o.notes → NoneBegins (lines_of o)
lines_begin_none k o all = each_line_of (λ x. begins_line x ≡ false) o (notes_begin_none k o.notes all) (sends_begin_none o.sends)
