-- The texts of what comes one after another.
use Rattle.std.proofs.Common.{ℕ, ◌≡◌, ◌+◌, ◌≤◌, ◌++◌, List, [], ◌∷◌, length, sym, ap, ◌∙◌, arith, append_assoc, append-nil}
use Rattle.std.specs.List.{flat_map}
use Rattle.std.proofs.lemmas.List.{length-append}
use Rattle.std.proofs.lemmas.Grind.{flat_map-append}
use Rattle.dc_base.specs.declared.events.Header.{Header}
use Rattle.dc_base.specs.declared.events.Line.{Line}
use Rattle.transcript.specs.Text.{header_text, ended, mark, lines_text}
use Rattle.transcript.specs.Text.{line_text}
use Rattle.transcript.specs.Transcript.{Entry, entry_lines, transcript_text}
use Rattle.script_text.specs.declared.scripted.Scripted.{Scripted}
use Rattle.dc_top.specs.Script.{script_line, script_text}

pub lines_text-append : (ls ms : List Line) → lines_text (ls ++ ms) ≡ lines_text ls ++ lines_text ms
lines_text-append ls ms = flat_map-append (λ l. ended (mark l ++ line_text l)) ls ms

-- the text of entries
abbrev pub entries_text : List Entry → List ℕ
entries_text t = lines_text (flat_map entry_lines t)

pub entries_text-append : (t u : List Entry) → entries_text (t ++ u) ≡ entries_text t ++ entries_text u
entries_text-append t u = ap lines_text (flat_map-append entry_lines t u) ∙ lines_text-append (flat_map entry_lines t) (flat_map entry_lines u)

pub transcript_text-append : (h : Header) (t u : List Entry) → transcript_text h (t ++ u) ≡ transcript_text h t ++ entries_text u
transcript_text-append h t u =
    ap (λ x. ended (header_text h) ++ x) (entries_text-append t u) ∙ sym (append_assoc (ended (header_text h)) (entries_text t) (entries_text u))

pub transcript_text-none : (h : Header) → transcript_text h [] ≡ ended (header_text h)
transcript_text-none h = append-nil (ended (header_text h))

-- a script, and one more line
pub script_text-none : (h : Header) → script_text h [] ≡ ended (header_text h)
script_text-none h = append-nil (ended (header_text h))

pub script_text-next : (h : Header) (ls : List Scripted) (l : Scripted) → script_text h (ls ++ l ∷ []) ≡ script_text h ls ++ ended (script_line l)
script_text-next h ls l =
    let f : Scripted → List ℕ = λ l. ended (script_line l) in
    ap (λ x. ended (header_text h) ++ x) (flat_map-append f ls (l ∷ []) ∙ ap (λ (xs : List ℕ). flat_map f ls ++ xs) (append-nil (f l)))
    ∙ sym (append_assoc (ended (header_text h)) (flat_map f ls) (f l))

-- each line has its LF
lines_long : (ls : List Scripted) → length ls ≤ length (flat_map (λ l. ended (script_line l)) ls)
lines_long [] = omega arith
lines_long (l ∷ ls) =
    let rest = lines_long ls in
    omega (arith, rest, length-append (ended (script_line l)) (flat_map (λ l. ended (script_line l)) ls), length-append (script_line l) (10 ∷ []))

pub script_long : (h : Header) (ls : List Scripted) → length ls + 1 ≤ length (script_text h ls)
script_long h ls =
    omega (arith, lines_long ls, length-append (ended (header_text h)) (flat_map (λ l. ended (script_line l)) ls), length-append (header_text h) (10 ∷ []))
