-- An entry, line by line.
use Rattle.std.proofs.Common.{ℕ, ◌≡◌, ◌+◌, ◌<◌, ◌≤◌, ◌++◌, true, false, List, [], ◌∷◌, not, Option, Some, None, length, get_or, take, drop, refl, sym, ap, ◌∙◌, subst, arith}
use Rattle.std.specs.Prelude.{fold, if◌then◌else◌, IfNone}
use Rattle.std.proofs.lemmas.List.{drop_all, drop_more, take_all, take_more}
use Rattle.dc_base.specs.declared.events.Line.{Line}
use Rattle.transcript.specs.Transcript.{Entry}
use Rattle.claims.specs.Judged.{judged}
use Rattle.claims.specs.Noted.{after, noted}
use Rattle.claims.specs.Past.{Past}
use Rattle.checker.specs.Decided.{at_entry, at_line, broken_by_entry, broken_by_line, broken_in_lines, first_broken, or_broken}
use Rattle.checker.specs.Parts.{ArePartsOf, Parts}
use Rattle.checker.specs.Says.{past_up_to}
use Rattle.checker.specs.declared.claim.Claim.{Claim}
use Rattle.checker.specs.declared.claim.Claim.TheVariants.{Cause}
use Rattle.checker_state.specs.Due.{has_decided_cause}

-- an entry that is not broken as a whole is broken by a line, if it is
pub after_whole : (p : Past) (e : Entry) → broken_by_entry p e (after p e) ≡ None → first_broken p e ≡ broken_in_lines (judged e.event e.answer p) 0 e.lines
after_whole p e none = ap (λ o. or_broken at_entry o (broken_in_lines (judged e.event e.answer p) 0 e.lines)) none

-- or it is broken as a whole
pub as_whole : (p : Past) (e : Entry) (c : Claim) → broken_by_entry p e (after p e) ≡ Some c → Some (at_entry c) ≡ first_broken p e
as_whole p e c some = sym (ap (λ o. or_broken at_entry o (broken_in_lines (judged e.event e.answer p) 0 e.lines)) some)

-- an entry has the answer that it is due, or is broken so
pub whole_holds : (p : Past) (e : Entry) → has_decided_cause p e ≡ true → broken_by_entry p e (after p e) ≡ None
whole_holds p e is = ap (λ b. if not b then Some Cause else None) is

pub whole_broken : (p : Past) (e : Entry) → has_decided_cause p e ≡ false → broken_by_entry p e (after p e) ≡ Some Cause
whole_broken p e is = ap (λ b. if not b then Some Cause else None) is

-- the lines of an entry before this place break no claim, and this is what the checker has then
pub record IsUpTo (s : Parts) (p : Past) (e : Entry) (k : ℕ) : Type 0 where
  pub parts : ArePartsOf s (past_up_to p e k)
  pub broken : first_broken p e ≡ broken_in_lines (past_up_to p e k) k (drop k e.lines)
  pub few : k ≤ length e.lines

pub before_lines : (s : Parts) (p : Past) (e : Entry) → ArePartsOf s (judged e.event e.answer p) → broken_by_entry p e (after p e) ≡ None → IsUpTo s p e 0
before_lines s p e are none = record { parts = are; broken = after_whole p e none; few = omega arith }

fold_more : (xs : List Line) (p : Past) (x : Line) → fold noted p (xs ++ x ∷ []) ≡ noted (fold noted p xs) x
fold_more [] p x = refl
fold_more (y ∷ xs) p x = fold_more xs (noted p y) x

up_to_more : (p : Past) (e : Entry) (k : ℕ) (x : Line) → k < length e.lines → get_or e.lines k x ≡ x → past_up_to p e (k + 1) ≡ noted (past_up_to p e k) x
up_to_more p e k x within is =
    ap (fold noted (judged e.event e.answer p)) (take_more e.lines k x within ∙ ap (λ y. take k e.lines ++ y ∷ []) is)
    ∙ fold_more (take k e.lines) (judged e.event e.answer p) x

-- what is left from a line on
lines_from : (q : Past) (e : Entry) (k : ℕ) (x : Line) → k < length e.lines → get_or e.lines k x ≡ x
    → broken_in_lines q k (drop k e.lines) ≡ or_broken (at_line k) (broken_by_line q x) (broken_in_lines (noted q x) (k + 1) (drop (k + 1) e.lines))
lines_from q e k x within is =
    ap (λ ls. broken_in_lines q k ls) (drop_more e.lines k x within ∙ ap (λ y. y ∷ drop (k + 1) e.lines) is)

-- a line breaks a claim
pub breaks_at : (s : Parts) (p : Past) (e : Entry) (k : ℕ) (x : Line) (c : Claim) → IsUpTo s p e k → k < length e.lines → get_or e.lines k x ≡ x
    → ((q : Past) → ArePartsOf s q → Some c ≡ broken_by_line q x) → Some (at_line k c) ≡ first_broken p e
breaks_at s p e k x c up within is breaks =
    let q = past_up_to p e k in
    sym (up.broken ∙ lines_from q e k x within is ∙ ap (λ o. or_broken (at_line k) o (broken_in_lines (noted q x) (k + 1) (drop (k + 1) e.lines))) (sym (breaks q up.parts)))

-- a line breaks none
pub passes_at : (s t : Parts) (p : Past) (e : Entry) (k : ℕ) (x : Line) → IsUpTo s p e k → k < length e.lines → get_or e.lines k x ≡ x
    → ((q : Past) → ArePartsOf s q → None ≡ broken_by_line q x) → ((q : Past) → ArePartsOf s q → ArePartsOf t (noted q x)) → IsUpTo t p e (k + 1)
passes_at s t p e k x up within is breaks parts =
    let q = past_up_to p e k in
    let next = up_to_more p e k x within is in
    let rest : first_broken p e ≡ broken_in_lines (noted q x) (k + 1) (drop (k + 1) e.lines) =
    up.broken ∙ lines_from q e k x within is ∙ ap (λ o. or_broken (at_line k) o (broken_in_lines (noted q x) (k + 1) (drop (k + 1) e.lines))) (sym (breaks q up.parts)) in
    record {
      parts = subst (ArePartsOf t) (sym next) (parts q up.parts);
      broken = rest ∙ ap (λ r. broken_in_lines r (k + 1) (drop (k + 1) e.lines)) (sym next);
      few = omega arith;
    }

-- after the lines the past is that after the entry
all_lines : (p : Past) (e : Entry) (k : ℕ) → length e.lines ≤ k → past_up_to p e k ≡ after p e
all_lines p e k past = ap (fold noted (judged e.event e.answer p)) (take_all k e.lines past)

pub after_lines : (s : Parts) (p : Past) (e : Entry) (k : ℕ) → IsUpTo s p e k → length e.lines ≤ k → ArePartsOf s (after p e) × (first_broken p e ≡ None)
after_lines s p e k up past =
    (subst (ArePartsOf s) (all_lines p e k past) up.parts, up.broken ∙ ap (λ ls. broken_in_lines (past_up_to p e k) k ls) (drop_all k e.lines past))

-- a fact, where there is none
pub where_none : {X : Type 0} (o : Option X) (P : Type 0) → P → IfNone o P
where_none (Some x) P h = tt
where_none None P h = h
