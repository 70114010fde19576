-- The first line of octets that come in parts.
use Rattle.std.proofs.Common.{◌≡◌, ◌≢◌, ℕ, ◌+◌, ◌-◌, ◌<◌, ◌≤◌, nat_lt, cond, true, false, List, [], ◌++◌, length, take, drop, get_or, sym, ◌∙◌, ap, subst, inl, inr, arith, Option, None, Some, IfSome}
use Rattle.std.proofs.lemmas.Bool.{cases_lt, eqb-true}
use Rattle.std.proofs.lemmas.Grind.{common_steps}
use Rattle.std.proofs.lemmas.List.{append-nil, append_assoc, drop_all, drop-append-le, drop-drop, get_or_append_left, get_or-append-add, length-append, length-drop, length-take, take_all, take-append-le}
use Rattle.std.proofs.lemmas.List.Sums.{fails_before_first, passes_at_first, position_or_len_is}
use Rattle.std.proofs.lemmas.Slice.{between_is}
use Rattle.std.proofs.Math.Seq.{drop-append-add, take-append-add}
use Rattle.std.specs.List.{position, position_or_len, slice_range}
use Rattle.std.specs.Io.KnownBytes.{IsAtEnd, Keeps, prepend_known}
use Rattle.dc_text.specs.Lines.{GivesLine, HasNoLineFeed, is_line_feed, line_of, rest_of, span}

-- ---- where the first LF is

not_line_feed : (x : ℕ) → x ≢ 10 → is_line_feed x ≡ false
not_line_feed x h = grind arith

-- the place of the first LF
abbrev feed_at : List ℕ → ℕ
feed_at octets = position_or_len is_line_feed octets

feed_at-found : (octets : List ℕ) (n : ℕ) → n < length octets → get_or octets n 0 ≡ 10 → ((k : ℕ) → k < n → get_or octets k 0 ≢ 10) → feed_at octets ≡ n
feed_at-found octets n lt feed none =
    position_or_len_is is_line_feed octets n 0 (omega arith) (λ k h. not_line_feed _ (none k h)) (λ _. ap is_line_feed feed)

feed_at-none : (octets : List ℕ) → HasNoLineFeed octets → feed_at octets ≡ length octets
feed_at-none octets none =
    position_or_len_is is_line_feed octets (length octets) 0 (omega arith) (λ k h. not_line_feed _ (none k h)) (λ h. absurd (omega arith))

feed_there : (octets : List ℕ) → feed_at octets < length octets → get_or octets (feed_at octets) 0 ≡ 10
feed_there octets lt = eqb-true _ _ (passes_at_first is_line_feed octets 0 lt)

none_before : (octets : List ℕ) (k : ℕ) → k < feed_at octets → get_or octets k 0 ≢ 10
none_before octets k lt e =
    let fails = fails_before_first is_line_feed octets k 0 lt in
    let passes : is_line_feed (get_or octets k 0) ≡ true = ap is_line_feed e in
    cc

-- what a search answers
place : (a b n : ℕ) → Some n ≡ cond (nat_lt a b) (Some a) None → (a < b) × (a ≡ n)
place a b n e = grind (arith, common_steps)

no_place : (a b : ℕ) → None ≡ cond (nat_lt a b) (Some a) None → b ≤ a
no_place a b e = grind (arith, common_steps)

pub HasNoLineFeed-searched : (octets : List ℕ) → None ≡ position is_line_feed octets → HasNoLineFeed octets
HasNoLineFeed-searched octets e k lt =
    let all = no_place (feed_at octets) (length octets) e in
    none_before octets k (omega arith)

-- octets without LF, twice
pub HasNoLineFeed-append : (a b : List ℕ) → HasNoLineFeed a → HasNoLineFeed b → HasNoLineFeed (a ++ b)
HasNoLineFeed-append a b na nb k lt = elim (cases_lt k (length a)) [
  | inl left ↦ rw get_or_append_left (na k left)
  | inr right ↦
      let j = k - length a in
      let whole : k ≡ length a + j = omega arith in
      let short : j < length b = omega (arith, length-append a b) in
      rw (whole, get_or-append-add) (nb j short)
]

-- ---- the first line of octets that begin with a part without LF

-- the first LF after such a part
feed_at-parts : (line held rest : List ℕ) → HasNoLineFeed line → feed_at held < length held
    → feed_at (line ++ (held ++ rest)) ≡ length line + feed_at held
feed_at-parts line held rest none lt =
    feed_at-found (line ++ (held ++ rest)) (length line + feed_at held)
    (omega (arith, length-append line (held ++ rest), length-append held rest))
    (rw (get_or-append-add, get_or_append_left) (feed_there held lt))
    (λ k below. elim (cases_lt k (length line)) [
      | inl left ↦ rw get_or_append_left (none k left)
      | inr right ↦
          let j = k - length line in
          let whole : k ≡ length line + j = omega arith in
          let short : j < feed_at held = omega arith in
          let within : j < length held = omega arith in
          rw (whole, get_or-append-add, get_or_append_left) (none_before held j short)
    ])

line_of-parts : (line held rest : List ℕ) → HasNoLineFeed line → feed_at held < length held
    → line_of (line ++ (held ++ rest)) ≡ line ++ line_of held
line_of-parts line held rest none lt =
    ap (λ n. take n (line ++ (held ++ rest))) (feed_at-parts line held rest none lt)
    ∙ take-append-add line (held ++ rest) (feed_at held)
    ∙ ap (λ l. line ++ l) (take-append-le (feed_at held) held rest (omega arith))

rest_of-parts : (line held rest : List ℕ) → HasNoLineFeed line → feed_at held < length held
    → rest_of (line ++ (held ++ rest)) ≡ rest_of held ++ rest
rest_of-parts line held rest none lt =
    let place : feed_at (line ++ (held ++ rest)) + 1 ≡ length line + (feed_at held + 1) = omega (arith, feed_at-parts line held rest none lt) in
    ap (λ n. drop n (line ++ (held ++ rest))) place
    ∙ drop-append-add line (held ++ rest) (feed_at held + 1)
    ∙ drop-append-le (feed_at held + 1) held rest (omega arith)

-- a part without LF is within the first line
length-line_of : (line rest : List ℕ) → HasNoLineFeed line → length line ≤ length (line_of (line ++ rest))
length-line_of line rest none = elim (cases_lt (feed_at (line ++ rest)) (length line)) [
  | inl short ↦
      let at = feed_at (line ++ rest) in
      let within : at < length (line ++ rest) = omega (arith, length-append line rest) in
      let feed : get_or line at 0 ≡ 10 = rw get_or_append_left at (feed_there (line ++ rest) within) in
      absurd (none at short feed)
  | inr long ↦ omega (arith, length-append line rest, length-take (feed_at (line ++ rest)) (line ++ rest))
]

-- ---- the same where the octets may not be told

pub Keeps-more : (octets : Option (List ℕ)) (line held more : List ℕ) (left rest : Option (List ℕ))
    → Keeps octets (prepend_known (line ++ held) left) → Keeps (prepend_known held left) (prepend_known more rest)
    → Keeps octets (prepend_known (line ++ more) rest)
Keeps-more None line held more left rest p q = tt
Keeps-more (Some xs) line held more None rest p q = absurd p
Keeps-more (Some xs) line held more (Some ys) None p q = q
Keeps-more (Some xs) line held more (Some ys) (Some zs) p q =
    append_assoc line more zs ∙ ap (λ l. line ++ l) q ∙ sym (append_assoc line held ys) ∙ p

pub GivesLine-found : (octets : Option (List ℕ)) (line held : List ℕ) (left : Option (List ℕ))
    → Keeps octets (prepend_known (line ++ held) left) → HasNoLineFeed line → feed_at held < length held
    → GivesLine octets (prepend_known (rest_of held) left) (line ++ line_of held)
GivesLine-found None line held left p none lt = tt
GivesLine-found (Some xs) line held None p none lt = absurd p
GivesLine-found (Some xs) line held (Some ys) p none lt =
    let e : line ++ (held ++ ys) ≡ xs = sym (append_assoc line held ys) ∙ p in
    subst (λ (l : List ℕ). GivesLine (Some l) (prepend_known (rest_of held) (Some ys)) (line ++ line_of held)) e (
      (λ empty. let none : length (line ++ (held ++ ys)) ≡ 0 = ap length empty in omega (arith, length-append line (held ++ ys), length-append held ys)),
      sym (line_of-parts line held ys none lt),
      ap Some (sym (rest_of-parts line held ys none lt)),
    )

pub span-found : (octets : Option (List ℕ)) (line held : List ℕ) (left : Option (List ℕ))
    → Keeps octets (prepend_known (line ++ held) left) → HasNoLineFeed line → feed_at held < length held
    → IfSome octets (λ l. length (line ++ line_of held) + 1 ≡ span l)
span-found None line held left p none lt = tt
span-found (Some xs) line held None p none lt = absurd p
span-found (Some xs) line held (Some ys) p none lt =
    let e : line ++ (held ++ ys) ≡ xs = sym (append_assoc line held ys) ∙ p in
    let at = feed_at-parts line held ys none lt in
    let whole = length-append line (held ++ ys) in
    let part = length-append held ys in
    let short = length-append line (line_of held) in
    let taken = length-take (feed_at held) held in
    let dropped = length-drop (feed_at (line ++ (held ++ ys)) + 1) (line ++ (held ++ ys)) in
    subst (λ (l : List ℕ). length (line ++ line_of held) + 1 ≡ span l) e (omega (arith, at, whole, part, short, taken, dropped))

-- the last line of an input, which has no LF
pub GivesLine-last : (octets : Option (List ℕ)) (line : List ℕ) (left : Option (List ℕ))
    → Keeps octets (prepend_known (line ++ []) left) → HasNoLineFeed line → IsAtEnd left → 0 < length line
    → GivesLine octets (prepend_known [] left) line
GivesLine-last None line left p none end some = tt
GivesLine-last (Some xs) line None p none end some = absurd p
GivesLine-last (Some xs) line (Some ys) p none end some =
    let e : line ≡ xs = sym (append-nil line) ∙ sym (append-nil (line ++ [])) ∙ ap (λ l. line ++ [] ++ l) (sym end) ∙ p in
    let at = feed_at-none line none in
    subst (λ (l : List ℕ). GivesLine (Some l) (prepend_known [] (Some ys)) line) e (
      (λ empty. let zero : length line ≡ 0 = ap length empty in omega arith),
      sym (take_all (feed_at line) line (omega arith)),
      ap Some (end ∙ sym (drop_all (feed_at line + 1) line (omega arith))),
    )

pub span-last : (octets : Option (List ℕ)) (line : List ℕ) (left : Option (List ℕ))
    → Keeps octets (prepend_known (line ++ []) left) → HasNoLineFeed line → IsAtEnd left → IfSome octets (λ l. length line ≡ span l)
span-last None line left p none end = tt
span-last (Some xs) line None p none end = absurd p
span-last (Some xs) line (Some ys) p none end =
    let e : line ≡ xs = sym (append-nil line) ∙ sym (append-nil (line ++ [])) ∙ ap (λ l. line ++ [] ++ l) (sym end) ∙ p in
    let at = feed_at-none line none in
    subst (λ (l : List ℕ). length line ≡ span l) e (omega (arith, at, length-drop (feed_at line + 1) line))

-- a line that is too long already
pub line_of-long : (octets : Option (List ℕ)) (line held : List ℕ) (left : Option (List ℕ)) (m : ℕ)
    → Keeps octets (prepend_known (line ++ held) left) → HasNoLineFeed line → HasNoLineFeed held → m < length (line ++ held)
    → IfSome octets (λ l. m < length (line_of l))
line_of-long None line held left m p nl nh long = tt
line_of-long (Some xs) line held None m p nl nh long = absurd p
line_of-long (Some xs) line held (Some ys) m p nl nh long =
    subst (λ (l : List ℕ). m < length (line_of l)) p (omega (arith, length-line_of (line ++ held) ys (HasNoLineFeed-append line held nl nh)))

-- ---- what is held

-- the held octets up to the first LF, and what stays held
pub part_taken : (items held line new : List ℕ) (start end len : ℕ) → held ≡ items → Some len ≡ position is_line_feed (slice_range held start end)
    → new ≡ line ++ take len (slice_range held start end)
    → (feed_at (slice_range items start end) < length (slice_range items start end))
    × (new ≡ line ++ line_of (slice_range items start end))
    × (slice_range items (start + (len + 1)) end ≡ rest_of (slice_range items start end))
part_taken items held line new start end len same found added =
    let there = place (feed_at (slice_range items start end)) (length (slice_range items start end)) len (rw same at found) in
    let front : new ≡ line ++ take len (slice_range items start end) = rw same at added in
    let rest : slice_range items (start + (len + 1)) end ≡ drop (len + 1) (slice_range items start end) =
    between_is items (start + (len + 1)) end ∙ sym (drop-drop (len + 1) start (take end items)) ∙ ap (drop (len + 1)) (sym (between_is items start end)) in (
      there.0,
      front ∙ ap (λ n. line ++ take n (slice_range items start end)) (sym there.1),
      rest ∙ ap (λ n. drop (n + 1) (slice_range items start end)) (sym there.1),
    )
