-- What the first claim that an entry breaks says: none where each claim holds of the entry, and else one that does not hold.
use Rattle.std.proofs.Common.{ℕ, suc, ◌≡◌, ◌+◌, ◌++◌, Bool, true, false, List, [], ◌∷◌, Option, Some, None, slice_get, take, refl, sym, ap, ◌∙◌, subst, arith, zero-add, inl, inr}
use Rattle.std.specs.Prelude.{fold, not}
use Rattle.std.specs.List.{AllByRecursion, find}
use Rattle.std.proofs.lemmas.Bool.{cases_Bool}
use Rattle.std.proofs.lemmas.Option.{none-some, same_Some}
use Rattle.dc_base.specs.declared.events.Line.{Line}
use Rattle.transcript.specs.Transcript.{Entry}
use Rattle.claims.specs.Claim as claims
use Rattle.claims.specs.Claim.{Each, EachLine}
use Rattle.claims.specs.Judged.{judged}
use Rattle.claims.specs.Noted.{after, noted, past_from}
use Rattle.claims.specs.Past.{Past}
use Rattle.checker.specs.Decided.{at_entry, at_line, broken_by_entry, broken_by_line, broken_in_lines, claim_of, decided, first_broken, or_broken}
use Rattle.checker.specs.Says.{HoldsOf, IsBrokenAt}
use Rattle.checker.specs.declared.claim.Broken.{Broken}
use Rattle.checker.specs.declared.claim.Claim.{Claim}
use Rattle.checker.specs.declared.claim.Claim.TheVariants.{Cause, Consequence, OnLink, Planned}

-- what is not found passes no test
none_found : {X : Type 0} (test : X → Bool) (xs : List X) → find test xs ≡ None → AllByRecursion (λ x. test x ≡ false) xs
none_found test [] is = tt
none_found test (x ∷ xs) is = elim (cases_Bool (test x)) [
  | inl passes ↦ let some = rw passes at is in absurd (none-some x (sym some))
  | inr fails ↦ let rest = rw fails at is in (fails, none_found test xs rest)
]

-- what is found passes it
some_found : {X : Type 0} (test : X → Bool) (xs : List X) (y : X) → find test xs ≡ Some y → test y ≡ true
some_found test [] y is = absurd (none-some y is)
some_found test (x ∷ xs) y is = elim (cases_Bool (test x)) [
  | inl passes ↦ let same = rw passes at is in subst (λ z. test z ≡ true) (same_Some x y same) passes
  | inr fails ↦ let rest = rw fails at is in some_found test xs y rest
]

-- a fact of each claim that is decided
each_decided : (P : Claim → Type 0) → AllByRecursion P decided → (c : Claim) → P c
each_decided P h Cause = h.0
each_decided P h Consequence = h.1.0
each_decided P h OnLink = h.1.1.0
each_decided P h Planned = h.1.1.1.0

-- a test that does not fail
not_false : (b : Bool) → not b ≡ false → b ≡ true
not_false true is = refl
not_false false is = sym is

not_true : (b : Bool) → not b ≡ true → b ≡ false
not_true true is = sym is
not_true false is = refl

-- ---- no claim is broken

no_or : {X : Type 0} (f : X → Broken) (o : Option X) (later : Option Broken) → or_broken f o later ≡ None → (o ≡ None) × (later ≡ None)
no_or f (Some x) later is = absurd (none-some (f x) (sym is))
no_or f None later is = (refl, is)

line_holds : (p : Past) (x : Line) → broken_by_line p x ≡ None → (c : Claim) → (claim_of c).of_line p x ≡ true
line_holds p x is c =
    not_false ((claim_of c).of_line p x) (each_decided (λ d. not ((claim_of d).of_line p x) ≡ false) (none_found (λ d. not ((claim_of d).of_line p x)) decided is) c)

lines_hold : (xs : List Line) (p : Past) (k : ℕ) → broken_in_lines p k xs ≡ None → (c : Claim) → EachLine (claim_of c).of_line p xs
lines_hold [] p k is c = tt
lines_hold (x ∷ xs) p k is c =
    let parts = no_or (at_line k) (broken_by_line p x) (broken_in_lines (noted p x) (k + 1) xs) is in
    (line_holds p x parts.0 c, lines_hold xs (noted p x) (k + 1) parts.1 c)

-- each claim that is decided holds of an entry that breaks none
pub none_broken : (p : Past) (e : Entry) → first_broken p e ≡ None → (c : Claim) → HoldsOf c p e
none_broken p e is c =
    let parts = no_or at_entry (broken_by_entry p e (after p e)) (broken_in_lines (judged e.event e.answer p) 0 e.lines) is in
    record {
      lines = lines_hold e.lines (judged e.event e.answer p) 0 parts.1 c;
      whole = not_false ((claim_of c).of_entry p e (after p e))
          (each_decided (λ d. not ((claim_of d).of_entry p e (after p e)) ≡ false) (none_found (λ d. not ((claim_of d).of_entry p e (after p e))) decided parts.0) c);
    }

-- ---- one is

-- it is broken by a line, at the place from k on, or by what comes after
record IsIn (p : Past) (xs : List Line) (k : ℕ) (b : Broken) : Type 0 where
  place : ℕ
  line : Line
  counted : b.line ≡ Some (k + place)
  there : slice_get xs place ≡ Some line
  broken : (claim_of b.claim).of_line (fold noted p (take place xs)) line ≡ false

first_in : (p : Past) (x : Line) (xs : List Line) (k : ℕ) (b : Broken) (c : Claim) → broken_by_line p x ≡ Some c → at_line k c ≡ b → IsIn p (x ∷ xs) k b
first_in p x xs k b c found is =
    let fails : (claim_of c).of_line p x ≡ false = not_true ((claim_of c).of_line p x) (some_found (λ d. not ((claim_of d).of_line p x)) decided c found) in
    record {
      place = 0;
      line = x;
      counted = sym (ap (λ (d : Broken). d.line) is) ∙ ap Some (omega arith);
      there = refl;
      broken = subst (λ (d : Broken). (claim_of d.claim).of_line p x ≡ false) is fails;
    }

later_in : (p : Past) (x : Line) (xs : List Line) (k : ℕ) (b : Broken) → IsIn (noted p x) xs (k + 1) b → IsIn p (x ∷ xs) k b
later_in p x xs k b rest = record {
  place = suc rest.place;
  line = rest.line;
  counted = rest.counted ∙ ap Some (omega arith);
  there = rest.there;
  broken = rest.broken;
}

in_or : (p : Past) (x : Line) (xs : List Line) (k : ℕ) (b : Broken) (o : Option Claim) → broken_by_line p x ≡ o
    → or_broken (at_line k) o (broken_in_lines (noted p x) (k + 1) xs) ≡ Some b
    → (broken_in_lines (noted p x) (k + 1) xs ≡ Some b → IsIn (noted p x) xs (k + 1) b) → IsIn p (x ∷ xs) k b
in_or p x xs k b (Some c) found is rest = first_in p x xs k b c found (same_Some (at_line k c) b is)
in_or p x xs k b None found is rest = later_in p x xs k b (rest is)

in_lines : (xs : List Line) (p : Past) (k : ℕ) (b : Broken) → broken_in_lines p k xs ≡ Some b → IsIn p xs k b
in_lines [] p k b is = absurd (none-some b is)
in_lines (x ∷ xs) p k b is =
    in_or p x xs k b (broken_by_line p x) refl is (λ after. in_lines xs (noted p x) (k + 1) b after)

by_entry : (p : Past) (e : Entry) (b : Broken) (o : Option Claim) → broken_by_entry p e (after p e) ≡ o
    → or_broken at_entry o (broken_in_lines (judged e.event e.answer p) 0 e.lines) ≡ Some b → IsBrokenAt b.claim p e b.line
by_entry p e b (Some c) found is =
    let fails : (claim_of c).of_entry p e (after p e) ≡ false =
    not_true ((claim_of c).of_entry p e (after p e)) (some_found (λ d. not ((claim_of d).of_entry p e (after p e))) decided c found) in
    subst (λ (d : Broken). IsBrokenAt d.claim p e d.line) (same_Some (at_entry c) b is) fails
by_entry p e b None found is =
    let i = in_lines e.lines (judged e.event e.answer p) 0 b is in
    let place : b.line ≡ Some i.place = i.counted ∙ ap Some (zero-add i.place) in
    subst (λ l. IsBrokenAt b.claim p e l) (sym place) (i.line, i.there, i.broken)

-- the claim that an entry breaks first does not hold where it says
pub some_broken : (p : Past) (e : Entry) (b : Broken) → first_broken p e ≡ Some b → IsBrokenAt b.claim p e b.line
some_broken p e b is = by_entry p e b (broken_by_entry p e (after p e)) refl is

-- ---- over entries

pub past_more : (p : Past) (t : List Entry) (e : Entry) → past_from p (t ++ e ∷ []) ≡ after (past_from p t) e
past_more p [] e = refl
past_more p (x ∷ t) e = past_more (after p x) t e

each_more : (c : claims.Claim) (p : Past) (t : List Entry) (e : Entry) → Each c p t
    → EachLine c.of_line (judged e.event e.answer (past_from p t)) e.lines → c.of_entry (past_from p t) e (after (past_from p t) e) ≡ true → Each c p (t ++ e ∷ [])
each_more c p [] e each lines whole = (lines, whole, tt)
each_more c p (x ∷ t) e each lines whole = (each.0, each.1, each_more c (after p x) t e each.2 lines whole)

-- one more entry that breaks none
pub holds_more : (c : Claim) (p : Past) (t : List Entry) (e : Entry) → Each (claim_of c) p t → first_broken (past_from p t) e ≡ None → Each (claim_of c) p (t ++ e ∷ [])
holds_more c p t e each none =
    let h = none_broken (past_from p t) e none c in
    each_more (claim_of c) p t e each h.lines h.whole
