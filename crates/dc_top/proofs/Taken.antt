-- What one more line adds to what was read.
use Rattle.std.proofs.Common.{Bool, false, true, ℕ, ◌≡◌, ◌≢◌, ◌+◌, ◌≤◌, ◌⊎◌, ◌++◌, List, [], ◌∷◌, Option, Some, None, length, take, drop, get_or, refl, sym, ap, ◌∙◌, subst, arith, inl, inr, append_assoc, append-nil}
use Rattle.std.specs.Prelude.{IfSome, ⊤}
use Rattle.std.specs.Io.KnownBytes.{IsAtEnd, prepend_known}
use Rattle.std.specs.List.{position_or_len}
use Rattle.std.proofs.lemmas.Bool.{cases_lt, eqb-true}
use Rattle.std.proofs.lemmas.Option.{none-some, same_Some}
use Rattle.std.proofs.lemmas.List.{drop_all, drop_more, length-append, nil_from_length, take-append-drop, take_all}
use Rattle.std.proofs.lemmas.List.Sums.{passes_at_first}
use Rattle.dc_base.specs.declared.events.Header.{Header}
use Rattle.dc_text.specs.Lines.{GivesLine, is_line_feed, line_of, rest_of, span, taken_by}
use Rattle.transcript.specs.Text.{header_text, ended}
use Rattle.script_text.specs.declared.scripted.Scripted.{Scripted}
use Rattle.dc_top.specs.Script.{HasRead, script_line, script_text, most_octets}
use Rattle.dc_top.specs.Ended.{IsAhead, most_read}
use Rattle.dc_top.specs.SoFar.{IsAtRest, ReadsOn}
use Rattle.dc_top.proofs.Texts.{script_text-none, script_text-next, script_long}

-- the octets of the first line, with its LF if it has one; a line without one is the last
record IsFirst (rest : List ℕ) (last : Bool) : Type 0 where
  part : List ℕ
  whole : rest ≡ part ++ rest_of rest
  spelled : (part ≡ ended (line_of rest)) ⊎ ((part ++ 10 ∷ [] ≡ ended (line_of rest)) × (rest_of rest ≡ []))
  long : length part ≡ span rest
  with_feed : last ≡ false → part ≡ ended (line_of rest)
  at_end : last ≡ true → rest_of rest ≡ []

first_of_rest : (rest : List ℕ) (last : Bool) → span rest ≡ taken_by (line_of rest) last → IsFirst rest last
first_of_rest rest last is = elim (cases_lt (position_or_len is_line_feed rest) (length rest)) [
  | inl less ↦
      let n = position_or_len is_line_feed rest in
      let feed : get_or rest n 0 ≡ 10 = eqb-true (get_or rest n 0) 10 (passes_at_first is_line_feed rest 0 less) in
      let split : rest ≡ ended (line_of rest) ++ rest_of rest =
      sym (take-append-drop n rest) ∙ ap (λ (l : List ℕ). take n rest ++ l) (drop_more rest n 0 less ∙ ap (λ x. x ∷ drop (n + 1) rest) feed)
      ∙ sym (append_assoc (take n rest) (10 ∷ []) (drop (n + 1) rest)) in
      let counted : length rest ≡ length (ended (line_of rest) ++ rest_of rest) = ap (λ (l : List ℕ). length l) split in
      let long : length (ended (line_of rest)) ≡ span rest = omega (arith, counted, length-append (ended (line_of rest)) (rest_of rest)) in
      record {
        part = ended (line_of rest);
        whole = split;
        spelled = inl refl;
        long = long;
        with_feed = λ open_still. refl;
        at_end = λ over.
            let bare : span rest ≡ length (line_of rest) + 0 = subst (λ b. span rest ≡ taken_by (line_of rest) b) over is in
            absurd (omega (arith, bare, long, length-append (line_of rest) (10 ∷ [])));
      }
  | inr more ↦
      let n = position_or_len is_line_feed rest in
      let all : line_of rest ≡ rest = take_all n rest more in
      let none : rest_of rest ≡ [] = drop_all (n + 1) rest (omega arith) in
      let zero_long : length (rest_of rest) ≡ 0 = ap (λ (l : List ℕ). length l) none in
      let same_long : length (line_of rest) ≡ length rest = ap (λ (l : List ℕ). length l) all in
      record {
        part = rest;
        whole = sym (append-nil rest) ∙ ap (λ l. rest ++ l) (sym none);
        spelled = inr (ap (λ l. l ++ 10 ∷ []) (sym all), none);
        long = omega arith;
        with_feed = λ open_still.
            let fed : span rest ≡ length (line_of rest) + 1 = subst (λ b. span rest ≡ taken_by (line_of rest) b) open_still is in
            absurd (omega (arith, fed, zero_long, same_long));
        at_end = λ over. none;
      }
]

-- ---- over octets that are told

-- the header and these lines were read, and whether the end was found
record ReadsTo (input : List ℕ) (h : Header) (lines : List Scripted) (rest : List ℕ) (passed : ℕ) (last : Bool) : Type 0 where
  pub read : HasRead input h lines rest
  pub counted : passed ≡ length read.taken
  pub with_feeds : last ≡ false → read.taken ≡ script_text h lines
  pub at_end : last ≡ true → rest ≡ []

read_first : (input : List ℕ) (h : Header) (passed : ℕ) (last : Bool) → header_text h ≡ line_of input → passed ≡ 0 + span input → span input ≡ taken_by (line_of input) last
    → passed ≤ most_octets → ReadsTo input h [] (rest_of input) passed last
read_first input h passed last is counted ends short =
    let f = first_of_rest input last ends in
    let text : ended (line_of input) ≡ script_text h [] = ap ended (sym is) ∙ sym (script_text-none h) in
    let n : passed ≡ length f.part = counted ∙ omega (arith, f.long) in
    record {
      read = record {
        taken = f.part;
        whole = f.whole;
        spelled = elim f.spelled [ inl all ↦ inl (all ∙ text) | inr bare ↦ inr (bare.0 ∙ text, bare.1) ];
        short = omega (arith, n);
      };
      counted = n;
      with_feeds = λ open_still. f.with_feed open_still ∙ text;
      at_end = f.at_end;
    }

-- there were octets after the lines, so the last of these had its LF
all_fed : (input : List ℕ) (h : Header) (lines : List Scripted) (rest : List ℕ) (r : HasRead input h lines rest) → rest ≢ [] → r.taken ≡ script_text h lines
all_fed input h lines rest r some = elim r.spelled [ inl all ↦ all | inr bare ↦ absurd (some bare.1) ]

read_more : (input : List ℕ) (h : Header) (lines : List Scripted) (line : Scripted) (rest : List ℕ) (old new : ℕ) (before last : Bool) → ReadsTo input h lines rest old before → rest ≢ []
    → script_line line ≡ line_of rest → new ≡ old + span rest → span rest ≡ taken_by (line_of rest) last → new ≤ most_octets
    → ReadsTo input h (lines ++ line ∷ []) (rest_of rest) new last
read_more input h lines line rest old new before last r some is counted ends short =
    let f = first_of_rest rest last ends in
    let taken = r.read.taken in
    let all : taken ≡ script_text h lines = all_fed input h lines rest r.read some in
    let n : new ≡ length (taken ++ f.part) = omega (arith, counted, r.counted, f.long, length-append taken f.part) in
    let text : script_text h lines ++ ended (line_of rest) ≡ script_text h (lines ++ line ∷ []) =
    ap (λ l. script_text h lines ++ ended l) (sym is) ∙ sym (script_text-next h lines line) in
    let front : taken ++ f.part ≡ script_text h lines ++ f.part = ap (λ l. l ++ f.part) all in
    record {
      read = record {
        taken = taken ++ f.part;
        whole = r.read.whole ∙ ap (λ l. taken ++ l) f.whole ∙ sym (append_assoc taken f.part (rest_of rest));
        spelled = elim f.spelled [
          | inl whole ↦ inl (front ∙ ap (λ l. script_text h lines ++ l) whole ∙ text)
          | inr bare ↦ inr (
            append_assoc taken f.part (10 ∷ []) ∙ ap (λ l. l ++ (f.part ++ 10 ∷ [])) all ∙ ap (λ l. script_text h lines ++ l) bare.0 ∙ text,
            bare.1,
          )
        ];
        short = omega (arith, n);
      };
      counted = n;
      with_feeds = λ open_still. front ∙ ap (λ l. script_text h lines ++ l) (f.with_feed open_still) ∙ text;
      at_end = f.at_end;
    }

-- ---- over octets that may not be told

pub reads_first : (all now : Option (List ℕ)) (h : Header) (passed : ℕ) (last : Bool) → GivesLine (prepend_known [] all) now (header_text h)
    → IfSome (prepend_known [] all) (λ octets. passed ≡ 0 + span octets) → IfSome (prepend_known [] all) (λ octets. span octets ≡ taken_by (header_text h) last)
    → passed ≤ most_octets → ReadsOn all h [] now passed last
reads_first None now h passed last gives counted ends short = tt
reads_first (Some input) now h passed last gives counted ends short =
    let r = read_first input h passed last gives.1 counted (subst (λ (l : List ℕ). span input ≡ taken_by l last) gives.1 ends) short in
    record { rest = rest_of input; told = gives.2; read = r.read; counted = r.counted; with_feeds = r.with_feeds; at_end = r.at_end }

reads_next : (input : List ℕ) (h : Header) (lines : List Scripted) (line : Scripted) (now now' : Option (List ℕ)) (old new : ℕ) (before last : Bool)
    → (r : IsAtRest input h lines now old before) → GivesLine (Some r.rest) now' (script_line line) → new ≡ old + span r.rest
    → span r.rest ≡ taken_by (script_line line) last → new ≤ most_octets → IsAtRest input h (lines ++ line ∷ []) now' new last
reads_next input h lines line now now' old new before last r gives counted ends short =
    let more = read_more input h lines line r.rest old new before last
    (record { read = r.read; counted = r.counted; with_feeds = r.with_feeds; at_end = r.at_end }) gives.0 gives.1 counted
    (subst (λ (l : List ℕ). span r.rest ≡ taken_by l last) gives.1 ends) short in
    record { rest = rest_of r.rest; told = gives.2; read = more.read; counted = more.counted; with_feeds = more.with_feeds; at_end = more.at_end }

pub reads_more : (all : Option (List ℕ)) (h : Header) (lines : List Scripted) (line : Scripted) (now now' : Option (List ℕ)) (old new : ℕ) (before last : Bool)
    → ReadsOn all h lines now old before → GivesLine now now' (script_line line) → IfSome now (λ octets. new ≡ old + span octets)
    → IfSome now (λ octets. span octets ≡ taken_by (script_line line) last) → new ≤ most_octets → ReadsOn all h (lines ++ line ∷ []) now' new last
reads_more None h lines line now now' old new before last r gives counted ends short = tt
reads_more (Some input) h lines line now now' old new before last r gives counted ends short =
    reads_next input h lines line now now' old new before last r
    (subst (λ o. GivesLine o now' (script_line line)) r.told gives)
    (subst (λ o. IfSome o (λ octets. new ≡ old + span octets)) r.told counted)
    (subst (λ o. IfSome o (λ octets. span octets ≡ taken_by (script_line line) last)) r.told ends) short

-- where nothing is held out of what is left, the source is at its end
pub at_end_of_source : (held : List ℕ) (left : Option (List ℕ)) → IsAtEnd (prepend_known held left) → IsAtEnd left
at_end_of_source held None over = tt
at_end_of_source held (Some xs) over =
    let n : length (held ++ xs) ≡ 0 = ap (λ (l : List ℕ). length l) over in
    nil_from_length xs (omega (arith, n, length-append held xs))

-- what was held and not handed out is one read at most
pub not_far : (held : List ℕ) (left : Option (List ℕ)) (rest : List ℕ) → prepend_known held left ≡ Some rest → length held ≤ most_read → IsAhead rest left
not_far held None rest is few = absurd (none-some rest is)
not_far held (Some xs) rest is few =
    let n : length (held ++ xs) ≡ length rest = ap (λ (l : List ℕ). length l) (same_Some (held ++ xs) rest is) in
    record { unread = xs; told = refl; few = omega (arith, n, length-append held xs) }

-- so many lines as that are within the limit
pub few_lines : (input : List ℕ) (h : Header) (lines : List Scripted) (rest : List ℕ) → HasRead input h lines rest → length lines ≤ most_octets
few_lines input h lines rest r =
    let long = script_long h lines in
    let short = r.short in
    elim r.spelled [
      | inl all ↦ let n : length r.taken ≡ length (script_text h lines) = ap (λ (l : List ℕ). length l) all in omega arith
      | inr last ↦
          let n : length (r.taken ++ 10 ∷ []) ≡ length (script_text h lines) = ap (λ (l : List ℕ). length l) last.0 in
          omega (arith, length-append r.taken (10 ∷ []))
    ]
