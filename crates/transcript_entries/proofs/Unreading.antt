-- Why no entry comes, from a place on.
use Rattle.std.proofs.Common.{ℕ, ◌≡◌, ◌≢◌, ◌+◌, ◌-◌, ◌<◌, ◌≤◌, ◌⊎◌, ◌++◌, List, [], ◌∷◌, Option, Some, None, length, refl, sym, ap, ◌∙◌, subst, arith, inl, inr}
use Rattle.std.specs.Prelude.{IfSome}
use Rattle.std.specs.Io.KnownBytes.{IsAtEnd}
use Rattle.std.specs.List.{AllByRecursion}
use Rattle.std.proofs.lemmas.List.{length-append}
use Rattle.dc_base.specs.declared.events.Line.{Line}
use Rattle.dc_text.specs.Lines.{line_of, span}
use Rattle.transcript_entries.specs.declared.fault.EntryFault.{EntryFault}
use Rattle.transcript_entries.specs.declared.fault.EntryFault.TheVariants as fault
use Rattle.transcript_entries.specs.Lines.{Ahead, AreFirstLines, HaveRead, HaveReadOf, text_of, texts}
use Rattle.transcript_entries.specs.Places.{AreReadFrom, HasNoLine, IsRead, Place, answering, place_after, place_after_line}
use Rattle.transcript_entries.specs.Read.{IsBadFrom, IsLong, IsLongFrom, IsNoLineNext, IsUncut, IsUnread, PassesLimit}
use Rattle.transcript_entries.proofs.Joining.{rest_long}
use Rattle.transcript_entries.proofs.Standing.{read_append}

-- no line was read
nothing_read : (p : Place) (os : List ℕ) → AreReadFrom p os [] p os
nothing_read p os = record { read = refl; good = tt; placed = refl }

-- a limit, with the same numbers
pub long_same : (m n : ℕ) (os : List ℕ) → m ≡ n → IsLong m os → IsLong n os
long_same m n os is long = subst (λ k. IsLong k os) is long

passes_same : (t u m n : ℕ) (os : List ℕ) → t ≡ u → m ≡ n → PassesLimit t m os → PassesLimit u n os
passes_same t u m n os is same (inl many) = inl (omega arith)
passes_same t u m n os is same (inr long) = inr (long_same m n os same long)

-- the next line is bad, or too long
bad_next : (o : Option (List ℕ)) (p : Place) (taken number column : ℕ) → number ≡ taken + 1 → IfSome o (λ os. (os ≢ []) × HasNoLine os column)
    → IfSome o (λ os. IsBadFrom p taken os number column)
bad_next None p taken number column is h = tt
bad_next (Some os) p taken number column is h =
    record { lines = []; rest = os; now = p; before = nothing_read p os; bad = inr (h.0, inl h.1); counted = omega arith }

long_next : (o : Option (List ℕ)) (p : Place) (taken passed : ℕ) → IfSome o (IsLong passed) → IfSome o (IsLongFrom p taken passed)
long_next None p taken passed h = tt
long_next (Some os) p taken passed h = record {
  lines = [];
  rest = os;
  now = p;
  before = nothing_read p os;
  passes = inr (long_same passed (passed + (length os - length os)) os (omega arith) h);
}

pub next_unread : (f : EntryFault) (p : Place) (taken number : ℕ) (a : Ahead) → number ≡ taken + 1 → IsNoLineNext f number a → IsUnread f p taken a
next_unread (fault.BadLine line column) p taken number a is h = bad_next a.octets p taken line column (h.0 ∙ is) h.1
next_unread fault.TooLong p taken number a is h = long_next a.octets p taken a.passed h
next_unread fault.ReadFault p taken number a is h = tt
next_unread fault.Memory p taken number a is h = tt

-- there are too many lines
many_of : (o : Option (List ℕ)) (p : Place) (taken passed : ℕ) → 4294967295 ≤ taken → IfSome o (IsLongFrom p taken passed)
many_of None p taken passed many = tt
many_of (Some os) p taken passed many = record { lines = []; rest = os; now = p; before = nothing_read p os; passes = inl (omega arith) }

pub many_unread : (p : Place) (taken : ℕ) (a : Ahead) → 4294967295 ≤ taken → IsUnread fault.TooLong p taken a
many_unread p taken a many = many_of a.octets p taken a.passed many

-- a line of the wrong sort
misplaced_of : (o : Option (List ℕ)) (n : ℕ) (b : Ahead) (p : Place) (taken number : ℕ) (l : Line) → number ≡ taken + 1 → HaveReadOf o n (text_of l ∷ []) b → IsRead l
    → place_after_line p l ≡ None → IfSome o (λ os. IsBadFrom p taken os number 1)
misplaced_of None n b p taken number l is read good misplaced = tt
misplaced_of (Some os) n b p taken number l is read good misplaced = record {
  lines = [];
  rest = os;
  now = p;
  before = nothing_read p os;
  bad = inr (read.1.0, inr (record { found = l; text = (good.in_range, sym read.1.1); misplaced = misplaced; first = refl }));
  counted = omega arith;
}

pub misplaced : (a b : Ahead) (p : Place) (taken number : ℕ) (l : Line) → number ≡ taken + 1 → HaveRead a (text_of l ∷ []) b → IsRead l → place_after_line p l ≡ None
    → IsUnread (fault.BadLine number 1) p taken a
misplaced a b p taken number l is read good wrong = misplaced_of a.octets a.passed b p taken number l is read good wrong

-- an answer is due at the end
missing_of : (o : Option (List ℕ)) (taken number : ℕ) → number ≡ taken + 1 → IsAtEnd o → IfSome o (λ os. IsBadFrom answering taken os number 1)
missing_of None taken number is over = tt
missing_of (Some os) taken number is over =
    record { lines = []; rest = os; now = answering; before = nothing_read answering os; bad = inl (over, refl, refl); counted = omega arith }

pub missing : (a : Ahead) (taken number : ℕ) → number ≡ taken + 1 → IsAtEnd a.octets → IsUnread (fault.BadLine number 1) answering taken a
missing a taken number is over = missing_of a.octets taken number is over

-- ---- after lines that were read

-- lines that were read of octets
read_from : (p q : Place) (ls : List Line) (os rest : List ℕ) → AreFirstLines os (texts ls) rest → AllByRecursion IsRead ls → place_after p ls ≡ Some q → AreReadFrom p os ls q rest
read_from p q ls os rest read good placed = record { read = read; good = good; placed = placed }

bad_after : (o : Option (List ℕ)) (n : ℕ) (b : Ahead) (p q : Place) (taken number column : ℕ) (ls : List Line) → HaveReadOf o n (texts ls) b → AllByRecursion IsRead ls
    → place_after p ls ≡ Some q → IfSome b.octets (λ os. IsBadFrom q (taken + length ls) os number column) → IfSome o (λ os. IsBadFrom p taken os number column)
bad_after None n b p q taken number column ls read good placed bad = tt
bad_after (Some os) n b p q taken number column ls read good placed bad =
    let next : IsBadFrom q (taken + length ls) read.0 number column = subst (λ k. IfSome k (λ os. IsBadFrom q (taken + length ls) os number column)) read.2 bad in
    record {
      lines = ls ++ next.lines;
      rest = next.rest;
      now = next.now;
      before = read_append p q next.now ls next.lines os read.0 next.rest (read_from p q ls os read.0 read.1 good placed) next.before;
      bad = next.bad;
      counted = omega (arith, next.counted, length-append ls next.lines);
    }

long_after : (o : Option (List ℕ)) (n : ℕ) (b : Ahead) (p q : Place) (taken : ℕ) (ls : List Line) → HaveReadOf o n (texts ls) b → AllByRecursion IsRead ls
    → place_after p ls ≡ Some q → IfSome b.octets (IsLongFrom q (taken + length ls) b.passed) → IfSome o (IsLongFrom p taken n)
long_after None n b p q taken ls read good placed long = tt
long_after (Some os) n b p q taken ls read good placed long =
    let next : IsLongFrom q (taken + length ls) b.passed read.0 = subst (λ k. IfSome k (IsLongFrom q (taken + length ls) b.passed)) read.2 long in
    let less : length read.0 ≤ length os = rest_long (texts ls) os read.0 read.1 in
    let least : length next.rest ≤ length read.0 = rest_long (texts next.lines) read.0 next.rest next.before.read in
    record {
      lines = ls ++ next.lines;
      rest = next.rest;
      now = next.now;
      before = read_append p q next.now ls next.lines os read.0 next.rest (read_from p q ls os read.0 read.1 good placed) next.before;
      passes = passes_same (taken + length ls + length next.lines) (taken + length (ls ++ next.lines)) (b.passed + (length read.0 - length next.rest))
          (n + (length os - length next.rest)) next.rest (omega (arith, length-append ls next.lines)) (omega (arith, read.3, less, least)) next.passes;
    }

pub after_unread : (f : EntryFault) (a b : Ahead) (p q : Place) (taken : ℕ) (ls : List Line) → HaveRead a (texts ls) b → AllByRecursion IsRead ls
    → place_after p ls ≡ Some q → IsUnread f q (taken + length ls) b → IsUnread f p taken a
after_unread (fault.BadLine number column) a b p q taken ls read good placed h = bad_after a.octets a.passed b p q taken number column ls read good placed h
after_unread fault.TooLong a b p q taken ls read good placed h = long_after a.octets a.passed b p q taken ls read good placed h
after_unread fault.ReadFault a b p q taken ls read good placed h = tt
after_unread fault.Memory a b p q taken ls read good placed h = tt
