-- The text of a script, part by part.
use Rattle.std.proofs.Common.{ℕ, ◌≡◌, ◌++◌, List, [], ap, ◌∙◌, map, sym, append_assoc}
use Rattle.std.proofs.lemmas.Grind.{flat_map-append}
use Rattle.std.proofs.lemmas.List.{map-append}
use Rattle.dc_base.specs.declared.events.Event.{Event}
use Rattle.dc_base.specs.declared.events.Header.{Header}
use Rattle.transcript.specs.Text.{ended, header_text}
use Rattle.script_text.specs.declared.scripted.Scripted.{Scripted}
use Rattle.script_text.specs.declared.scripted.Scripted.TheVariants.{One}
use Rattle.node_rules.specs.Choices.{Choices}
use Rattle.made_scripts.specs.Scripts.{closing, made_header, opened, opening, turns_from}
use Rattle.made_runs.specs.Made.{event_lines, line_words, lines_words, made_text}

pub lines_words-append : (xs ys : List Scripted) → lines_words (xs ++ ys) ≡ lines_words xs ++ lines_words ys
lines_words-append xs ys = flat_map-append (λ l. ended (line_words l)) xs ys

pub event_lines-append : (es fs : List Event) → event_lines (es ++ fs) ≡ event_lines es ++ event_lines fs
event_lines-append es fs = ap lines_words (map-append (λ e. One e) es fs) ∙ lines_words-append (map (λ e. One e) es) (map (λ e. One e) fs)

-- the parts of a text of a header, lines, events and lines
parts : (h : List ℕ) (xs : List Scripted) (es : List Event) (ys : List Scripted)
    → h ++ lines_words (xs ++ map (λ e. One e) es ++ ys) ≡ h ++ lines_words xs ++ event_lines es ++ lines_words ys
parts h xs es ys =
    ap (λ t. h ++ t) (lines_words-append (xs ++ map (λ e. One e) es) ys ∙ ap (λ t. t ++ lines_words ys) (lines_words-append xs (map (λ e. One e) es)))
    ∙ sym (append_assoc h (lines_words xs ++ event_lines es) (lines_words ys))
    ∙ ap (λ t. t ++ lines_words ys) (sym (append_assoc h (lines_words xs) (event_lines es)))

-- the script is its header, the opening, the lines of the turns and the closing
pub made_parts : (c : Choices) (seed turns : ℕ) → made_text c seed turns
    ≡ ended (header_text made_header) ++ lines_words opening ++ event_lines (turns_from c (opened c) 0 seed turns) ++ lines_words closing
made_parts c seed turns = parts (ended (header_text made_header)) opening (turns_from c (opened c) 0 seed turns) closing

-- so it stands where it is written part after part
pub made_whole : (c : Choices) (seed turns : ℕ) (h : Header) (xs ys : List Scripted) (t0 t1 t2 t3 t4 : List ℕ) → h ≡ made_header → xs ≡ opening → ys ≡ closing → t0 ≡ []
    → t1 ≡ t0 ++ ended (header_text h) → t2 ≡ t1 ++ lines_words xs → t3 ≡ t2 ++ event_lines (turns_from c (opened c) 0 seed turns) → t4 ≡ t3 ++ lines_words ys
    → t4 ≡ made_text c seed turns
made_whole c seed turns h xs ys t0 t1 t2 t3 t4 header first last none one two three four =
    let turns_text = event_lines (turns_from c (opened c) 0 seed turns) in
    let begun : t1 ≡ ended (header_text made_header) = one ∙ ap (λ t. t ++ ended (header_text h)) none ∙ ap (λ (x : Header). ended (header_text x)) header in
    let opened_text : t2 ≡ ended (header_text made_header) ++ lines_words opening =
    two ∙ ap (λ t. t ++ lines_words xs) begun ∙ ap (λ (ls : List Scripted). ended (header_text made_header) ++ lines_words ls) first in
    four ∙ ap (λ t. t ++ lines_words ys) (three ∙ ap (λ t. t ++ turns_text) opened_text)
    ∙ ap (λ (ls : List Scripted). ended (header_text made_header) ++ lines_words opening ++ turns_text ++ lines_words ls) last
    ∙ sym (made_parts c seed turns)
