-- Reading ranges one after the other, as a loop does.
use Rattle.std.proofs.Common.{◌≡◌, ℕ, ◌+◌, ◌++◌, ◌∷◌, ◌<◌, ◌≤◌, ◌%◌, ◌^◌, false, cond, ltb, [], List, length, Some, refl, sym, ap, ◌∙◌, append_assoc, arith, ◌||◌}
use Rattle.std.specs.List.{flat_map, AllByRecursion}
use Rattle.std.proofs.lemmas.Bool.{le-ltb}
use Rattle.std.proofs.lemmas.Grind.{flat_map-append}
use Rattle.std.proofs.lemmas.List.{append-nil, nil_from_length}
use Rattle.nr_u.specs.declared.frame.Range.{Range}
use Rattle.nr_u.specs.declared.frame.NruErr.TheVariants.{Ranges}
use Rattle.nr_u.specs.Frames.{Rising, AreRanges, range}
use Rattle.nr_u.specs.Faults.{range_fault}
use Rattle.nr_u.proofs.Numbers.{number_again}

-- the ranges found so far, what is left of the octets and its place; low is past the last range
pub record Reading (octets : List ℕ) (begin : ℕ) (found : List Range) (low place : ℕ) (rest : List ℕ) : Type 0 where
  pub parts : octets ≡ flat_map range found ++ rest
  pub checked : range_fault 0 begin octets ≡ range_fault low place rest
  pub rising : (rs : List Range) → Rising low rs → Rising 0 (found ++ rs)
  pub fits : AllByRecursion (λ r. r.to < 2 ^ 24) found
  pub low_fits : low ≤ 2 ^ 24
  pub whole : length rest % 6 ≡ 0
  pub near : place + length rest ≡ begin + length octets

All-push : (P : Range → Type 0) (rs : List Range) (r : Range) → AllByRecursion P rs → P r → AllByRecursion P (rs ++ r ∷ [])
All-push P [] r all here = (here, tt)
All-push P (q ∷ rs) r all here = (all.0, All-push P rs r all.1 here)

-- the check on the first range
pub range_fault-range : (low place : ℕ) (r : Range) (rest : List ℕ) → r.from < 2 ^ 24 → r.to < 2 ^ 24
    → range_fault low place (range r ++ rest) ≡ cond (ltb r.from low || ltb r.to r.from) (Some (Ranges place)) (range_fault (r.to + 1) (place + 6) rest)
range_fault-range low place r rest from to =
    rw (number_again r.from from, number_again r.to to) refl

pub reads_range : (octets : List ℕ) (begin : ℕ) (found : List Range) (low place : ℕ) (rest : List ℕ) (r : Range) (after : List ℕ)
    → Reading octets begin found low place rest → rest ≡ range r ++ after → r.from < 2 ^ 24 → r.to < 2 ^ 24 → low ≤ r.from → r.from ≤ r.to
    → Reading octets begin (found ++ r ∷ []) (r.to + 1) (place + 6) after
reads_range octets begin found low place rest r after so_far parts from to above forward =
    let len : length rest ≡ length after + 6 = omega (arith, ap length parts) in
    let below : ltb r.from low ≡ false = le-ltb _ _ above in
    let falls : ltb r.to r.from ≡ false = le-ltb _ _ forward in
    record {
      parts = so_far.parts ∙ ap (λ (x : List ℕ). flat_map range found ++ x) parts ∙ sym (append_assoc (flat_map range found) (range r) after) ∙ ap (λ (x : List ℕ). x ++ after) (sym (flat_map-append range found (r ∷ [])));
      checked = so_far.checked ∙ ap (range_fault low place) parts ∙ range_fault-range low place r after from to ∙ rw (below, falls) refl;
      rising = λ rs up. rw (append_assoc found (r ∷ []) rs) (so_far.rising (r ∷ rs) (above, forward, up));
      fits = All-push (λ r. r.to < 2 ^ 24) found r so_far.fits to;
      low_fits = omega arith;
      whole = let w = so_far.whole in omega arith;
      near = let n = so_far.near in omega arith;
    }

pub reads_all : (octets : List ℕ) (begin : ℕ) (found : List Range) (low place : ℕ) (rest : List ℕ)
    → Reading octets begin found low place rest → length rest ≡ 0 → AreRanges found × (octets ≡ flat_map range found)
reads_all octets begin found low place rest so_far ended =
    let nothing : rest ≡ [] = nil_from_length rest ended in
    ((rw (← append-nil found) (so_far.rising [] tt), so_far.fits), so_far.parts ∙ ap (λ (x : List ℕ). flat_map range found ++ x) nothing ∙ append-nil (flat_map range found))
