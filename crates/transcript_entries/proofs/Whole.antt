-- What it means that octets are a transcript: they are its text, of which the last LF may be left out.
use Rattle.std.proofs.Common.{ℕ, ◌≡◌, ◌≢◌, ◌+◌, ◌<◌, ◌⊎◌, ◌++◌, List, [], ◌∷◌, length, get_or, map, take, drop, refl, sym, ap, ◌∙◌, subst, arith, inl, inr, append_assoc, append-nil}
use Rattle.std.specs.List.{flat_map, position_or_len}
use Rattle.std.proofs.lemmas.Bool.{cases_lt, eqb-true}
use Rattle.std.proofs.lemmas.List.{drop_all, drop_more, take-append-drop, take_all}
use Rattle.std.proofs.lemmas.List.Sums.{passes_at_first}
use Rattle.dc_base.specs.declared.events.Header.{Header}
use Rattle.dc_base.specs.declared.events.Line.{Line}
use Rattle.dc_text.specs.Lines.{is_line_feed, line_of, rest_of}
use Rattle.transcript.specs.Text.{ended, header_text, lines_text}
use Rattle.transcript.specs.Transcript.{Entry, entry_lines, transcript_text}
use Rattle.transcript_entries.specs.Lines.{AreFirstLines, IsTranscript, text_of, texts}

-- octets begin with their first line and its LF, or are that line
first_parts : (os : List ℕ) → (os ≡ ended (line_of os) ++ rest_of os) ⊎ ((os ++ 10 ∷ [] ≡ ended (line_of os)) × (rest_of os ≡ []))
first_parts os = elim (cases_lt (position_or_len is_line_feed os) (length os)) [
  | inl less ↦
      let n = position_or_len is_line_feed os in
      let feed : get_or os n 0 ≡ 10 = eqb-true (get_or os n 0) 10 (passes_at_first is_line_feed os 0 less) in
      inl (sym (take-append-drop n os) ∙ ap (λ (l : List ℕ). take n os ++ l) (drop_more os n 0 less ∙ ap (λ x. x ∷ drop (n + 1) os) feed)
      ∙ sym (append_assoc (take n os) (10 ∷ []) (drop (n + 1) os)))
  | inr more ↦
      let n = position_or_len is_line_feed os in
      inr (ap (λ l. l ++ 10 ∷ []) (sym (take_all n os more)), drop_all (n + 1) os (omega arith))
]

-- the text of lines, each with its LF
abbrev all_ended : List (List ℕ) → List ℕ
all_ended ts = flat_map ended ts

-- octets whose lines are these are their text, or that without the last LF; without octets there is no line
all_lines : (ts : List (List ℕ)) (os : List ℕ) → AreFirstLines os ts [] → (os ≡ all_ended ts) ⊎ (os ++ 10 ∷ [] ≡ all_ended ts)
all_lines [] os h = inl h
all_lines (t ∷ ts) os h = elim (first_parts os) [
  | inl fed ↦
      let front : ended (line_of os) ≡ ended t = ap ended (sym h.1) in
      let begun : os ≡ ended t ++ rest_of os = fed ∙ ap (λ l. l ++ rest_of os) front in
      elim (all_lines ts (rest_of os) h.2) [
        | inl all ↦ inl (begun ∙ ap (λ l. ended t ++ l) all)
        | inr bare ↦ inr (ap (λ l. l ++ 10 ∷ []) begun ∙ append_assoc (ended t) (rest_of os) (10 ∷ []) ∙ ap (λ l. ended t ++ l) bare)
      ]
  | inr last ↦ inr (last.0 ∙ ap ended (sym h.1) ∙ sym (append-nil (ended t)) ∙ ap (λ l. ended t ++ l) (sym (no_more ts (rest_of os) last.1 h.2)))
]
  where
    no_more : (ts : List (List ℕ)) (os : List ℕ) → os ≡ [] → AreFirstLines os ts [] → all_ended ts ≡ []
    no_more [] os none h = refl
    no_more (t ∷ ts) os none h = absurd (h.0 none)

-- the text of lines by their texts
lines_text_is : (ls : List Line) → all_ended (texts ls) ≡ lines_text ls
lines_text_is [] = refl
lines_text_is (l ∷ ls) = ap (λ t. ended (text_of l) ++ t) (lines_text_is ls)

pub transcript_is : (os : List ℕ) (h : Header) (t : List Entry) → IsTranscript os h t → (os ≡ transcript_text h t) ⊎ (os ++ 10 ∷ [] ≡ transcript_text h t)
transcript_is os h t is =
    let text : all_ended (header_text h ∷ texts (flat_map entry_lines t)) ≡ transcript_text h t =
    ap (λ l. ended (header_text h) ++ l) (lines_text_is (flat_map entry_lines t)) in
    elim (all_lines (header_text h ∷ texts (flat_map entry_lines t)) os is) [ inl all ↦ inl (all ∙ text) | inr bare ↦ inr (bare ∙ text) ]
