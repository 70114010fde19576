-- Each `freed` line of an uplink is past the one before.
use Rattle.std.proofs.Common.{ℕ, ◌≡◌, ◌==◌, ◌++◌, true, false, List, [], ◌∷◌, Option, Some, None, refl, sym, ap, subst, ◌∙◌, inl, inr}
use Rattle.std.specs.Prelude.{filter, fold, if◌then◌else◌, nat_lt}
use Rattle.std.specs.List.{AllByRecursion, flat_map}
use Rattle.std.specs.Option.{option_map}
use Rattle.std.proofs.lemmas.Bool.{cases_Bool, eqb-true}
use Rattle.dc_base.specs.Links.{all_links, is_same_link}
use Rattle.dc_base.specs.declared.events.Line.{Line}
use Rattle.dc_base.specs.declared.events.Line.TheVariants as line
use Rattle.dc_base.specs.declared.events.Note.{Note}
use Rattle.dc_base.specs.declared.events.Note.TheVariants as note
use Rattle.dc_base.specs.declared.nodes.Dir.TheVariants.{Dl, Ul}
use Rattle.dc_base.specs.declared.nodes.LinkId.{LinkId}
use Rattle.dc_base.specs.declared.nodes.Node.TheVariants.{T}
use Rattle.claims.specs.Claim.{EachLine}
use Rattle.claims.specs.Noted.{noted}
use Rattle.claims.specs.Past.{Bearer, Past}
use Rattle.claims.specs.Reading as reading
use Rattle.claims.specs.Sameness.{is_some_and}
use Rattle.node_rules.specs.Choices.{Send}
use Rattle.node_rules.specs.Lines.{lines_by, lines_of, notes_at, ordered, place, sends_on}
use Rattle.node_rules.specs.Master.{handed_up}
use Rattle.node_rules.specs.Terminal.{uplink_freed}
use Rattle.node_rules.specs.declared.inputs.Outcome.{Outcome}
use Rattle.run_words.proofs.Lines.{each_flat, each_line_of}
use Rattle.run_uplinks.specs.Answers.{uplink_rises}
use Rattle.run_uplinks.specs.Seen.{Seen, Uplink, latest, seen, uplink_of, with_note}
use Rattle.run_uplinks.proofs.Establishments.{some_is}
use Rattle.run_uplinks.proofs.Lines.{IsOfTerminal, NoneBegins, all_noted_seen, fold_notes, no_ends, of_place}
use Rattle.run_uplinks.proofs.SecondNotes.{ArePlain, IsPlain}
use Rattle.run_uplinks.proofs.Unseen.{latest_is}

-- ---- lines of which nothing is asked

abbrev pub IsQuiet : Line → Type 0
IsQuiet x = (q : Past) → uplink_rises q x ≡ true

all_quiet : (xs : List Line) (q : Past) → AllByRecursion IsQuiet xs → EachLine uplink_rises q xs
all_quiet [] q all = tt
all_quiet (x ∷ xs) q all = (all.0 q, all_quiet xs (noted q x) all.1)

each_then : (xs ys : List Line) (q : Past) → EachLine uplink_rises q xs → EachLine uplink_rises (fold noted q xs) ys → EachLine uplink_rises q (xs ++ ys)
each_then [] ys q one more = more
each_then (x ∷ xs) ys q one more = (one.0, each_then xs ys (noted q x) one.1 more)

plain_quiet : (n : Note) → IsPlain n → IsQuiet (line.Note n)
plain_quiet (note.Freed id Ul count) plain = absurd (let bad : true ≡ false = plain in cc)
plain_quiet (note.Freed id Dl count) plain = λ q. refl
plain_quiet (note.Begin w) plain = λ q. refl
plain_quiet (note.Join x g) plain = λ q. refl
plain_quiet (note.Leave x g) plain = λ q. refl
plain_quiet (note.Give x id g) plain = λ q. refl
plain_quiet (note.Own x id g) plain = λ q. refl
plain_quiet (note.Set id g) plain = λ q. refl
plain_quiet (note.Unset id) plain = λ q. refl
plain_quiet (note.Up x id d count sdu) plain = λ q. refl
plain_quiet (note.Confirmed x) plain = λ q. refl
plain_quiet (note.Refused x w) plain = λ q. refl
plain_quiet note.Done plain = λ q. refl
plain_quiet note.Rejected plain = λ q. refl

-- of notes that are no `freed` lines of an uplink
plain_notes : (ns : List Note) → ArePlain ns → AllByRecursion (λ n. IsQuiet (line.Note n)) ns
plain_notes [] plain = tt
plain_notes (n ∷ ns) plain = (plain_quiet n plain.0, plain_notes ns plain.1)

quiet_sends : (ss : List Send) → AllByRecursion (λ (x : Send). IsQuiet (line.Send x.0 x.1)) ss
quiet_sends [] = tt
quiet_sends (x ∷ ss) = (λ q. refl, quiet_sends ss)

pub quiet_lines : (o : Outcome) (q : Past) → AllByRecursion (λ n. IsQuiet (line.Note n)) o.notes → EachLine uplink_rises q (lines_of o)
quiet_lines o q notes = all_quiet (lines_of o) q (each_line_of IsQuiet o notes (quiet_sends o.sends))

pub plain_lines_rise : (o : Outcome) (q : Past) → ArePlain o.notes → EachLine uplink_rises q (lines_of o)
plain_lines_rise o q plain = quiet_lines o q (plain_notes o.notes plain)

-- ---- the lines of a window

other_place : (n : Note) → (place n == 4) ≡ false → IsQuiet (line.Note n)
other_place (note.Freed id d count) other = absurd (let bad : true ≡ false = other in cc)
other_place (note.Begin w) other = λ q. refl
other_place (note.Join x g) other = λ q. refl
other_place (note.Leave x g) other = λ q. refl
other_place (note.Give x id g) other = λ q. refl
other_place (note.Own x id g) other = λ q. refl
other_place (note.Set id g) other = λ q. refl
other_place (note.Unset id) other = λ q. refl
other_place (note.Up x id d count sdu) other = λ q. refl
other_place (note.Confirmed x) other = λ q. refl
other_place (note.Refused x w) other = λ q. refl
other_place note.Done other = λ q. refl
other_place note.Rejected other = λ q. refl

module _ (ns : List Note) (all : AllByRecursion (IsOfTerminal 4) ns) where
  none_of : (j : ℕ) (ms : List Note) → AllByRecursion (IsOfTerminal 4) ms → NoneBegins (notes_at ms j)
  none_of j [] alls = tt
  none_of j (n ∷ ms) alls = elim (cases_Bool (place n == j)) [ inl here ↦ rw here (alls.0.1, none_of j ms alls.1) | inr there ↦ rw there (none_of j ms alls.1) ]

  quiet_of : (j : ℕ) (ms : List Note) → (j == 4) ≡ false → AllByRecursion IsQuiet (notes_at ms j)
  quiet_of j [] off = tt
  quiet_of j (n ∷ ms) off =
      elim (cases_Bool (place n == j)) [
        | inl here ↦ let other : (place n == 4) ≡ false = ap (λ k. k == 4) (eqb-true (place n) j here) ∙ off in rw here (other_place n other, quiet_of j ms off)
        | inr there ↦ rw there (quiet_of j ms off)
      ]

  seen_of : (j : ℕ) (q : Past) → (j == 4) ≡ false → seen (fold noted q (notes_at ns j)) ≡ seen q
  seen_of j q off =
      all_noted_seen (notes_at ns j) q (none_of j ns all) ∙ fold_notes 4 (seen q) (filter (λ x. place x == j) ns) ∙ of_place 4 j ns (seen q) all
      ∙ ap (λ b. if b then fold with_note (seen q) ns else seen q) off

  quiet_places : (js : List ℕ) (q : Past) → AllByRecursion (λ j. (j == 4) ≡ false) js → EachLine uplink_rises q (flat_map (notes_at ns) js)
  quiet_places [] q off = tt
  quiet_places (j ∷ js) q off =
      each_then (notes_at ns j) (flat_map (notes_at ns) js) q (all_quiet (notes_at ns j) q (quiet_of j ns off.0)) (quiet_places js (fold noted q (notes_at ns j)) off.1)

  -- the place of the line is asked where what was seen before is still seen
  module _ (s : Seen) (there : (q : Past) → seen q ≡ s → EachLine uplink_rises q (notes_at ns 4)) where
    rises_places : (js ms : List ℕ) (q : Past) → seen q ≡ s → AllByRecursion (λ j. (j == 4) ≡ false) js → AllByRecursion (λ j. (j == 4) ≡ false) ms
        → EachLine uplink_rises q (flat_map (notes_at ns) (js ++ 4 ∷ ms))
    rises_places [] ms q same off more =
        each_then (notes_at ns 4) (flat_map (notes_at ns) ms) q (there q same) (quiet_places ms (fold noted q (notes_at ns 4)) more)
    rises_places (j ∷ js) ms q same off more =
        let next = fold noted q (notes_at ns j) in
        each_then (notes_at ns j) (flat_map (notes_at ns) (js ++ 4 ∷ ms)) q (all_quiet (notes_at ns j) q (quiet_of j ns off.0))
        (rises_places js ms next (seen_of j q off.0 ∙ same) off.1 more)

    quiet_on : (ss : List Send) (l : LinkId) → AllByRecursion IsQuiet (sends_on ss l)
    quiet_on [] l = tt
    quiet_on (x ∷ ss) l = elim (cases_Bool (is_same_link l x.0)) [ inl here ↦ rw here (λ q. refl, quiet_on ss l) | inr apart ↦ rw apart (quiet_on ss l) ]

    rises_ordered : (ss : List Send) (q : Past) → seen q ≡ s → EachLine uplink_rises q (ordered ns ss)
    rises_ordered ss q same =
        let a = flat_map (notes_at ns) (0 ∷ 1 ∷ 2 ∷ 3 ∷ 4 ∷ []) in
        let b = flat_map (sends_on ss) all_links in
        let d = flat_map (notes_at ns) (5 ∷ 6 ∷ []) in
        each_then (a ++ b) d q
        (each_then a b q (rises_places (0 ∷ 1 ∷ 2 ∷ 3 ∷ []) [] q same (refl, (refl, (refl, (refl, tt)))) tt) (all_quiet b (fold noted q a) (each_flat IsQuiet (sends_on ss) all_links (quiet_on ss))))
        (quiet_places (5 ∷ 6 ∷ []) (fold noted q (a ++ b)) (refl, (refl, tt)))

-- ---- the terminal

-- the `freed` line stands alone in its place
ups_off : (id : ℕ) (ups : List (ℕ × List ℕ)) (ns : List Note) → notes_at (handed_up T id Dl ups ++ ns) 4 ≡ notes_at ns 4
ups_off id [] ns = refl
ups_off id (u ∷ ups) ns = ups_off id ups ns

-- with a past in which the last `freed` line was before it
freed_rises : (q : Past) (id count : ℕ) (u : Uplink) → latest id (seen q).bearers ≡ Some u → nat_lt u.freed count ≡ true → uplink_rises q (line.Note (note.Freed id Ul count)) ≡ true
freed_rises q id count u at rises = by (reading.latest q id) (sym (latest_is id q.bearers) ∙ at)
  where
    by : (o : Option Bearer) → option_map uplink_of o ≡ Some u → is_some_and (λ (b : Bearer). nat_lt b.up.freed count) o ≡ true
    by None is = absurd (let bad : None ≡ Some u = is in cc)
    by (Some b) is = ap (λ (y : Uplink). nat_lt y.freed count) (some_is (uplink_of b) u is) ∙ rises

-- the lines of a step of a bearer over the air, whose window moved if Low rose
pub air_lines_rise : (o : Outcome) (q : Past) (id : ℕ) (ups : List (ℕ × List ℕ)) (low : Option ℕ) (u : Uplink) → o.notes ≡ handed_up T id Dl ups ++ uplink_freed id low → AllByRecursion (IsOfTerminal 4) o.notes
    → latest id (seen q).bearers ≡ Some u → ((count : ℕ) → low ≡ Some count → nat_lt u.freed count ≡ true) → EachLine uplink_rises q (lines_of o)
air_lines_rise o q id ups low u notes all at rises =
    subst (λ xs. EachLine uplink_rises q xs) (sym (ap (λ b. lines_by b o) (no_ends 4 o.notes all)))
    (rises_ordered o.notes all (seen q) there o.sends q refl)
  where
    one : (k : Option ℕ) → ((count : ℕ) → k ≡ Some count → nat_lt u.freed count ≡ true) → (p : Past) → seen p ≡ seen q → EachLine uplink_rises p (notes_at (uplink_freed id k) 4)
    one None up p same = tt
    one (Some count) up p same = (freed_rises p id count u (ap (λ (s : Seen). latest id s.bearers) same ∙ at) (up count refl), tt)

    there : (p : Past) → seen p ≡ seen q → EachLine uplink_rises p (notes_at o.notes 4)
    there p same = subst (λ xs. EachLine uplink_rises p xs) (sym (ap (λ ns. notes_at ns 4) notes ∙ ups_off id ups (uplink_freed id low))) (one low rises p same)
