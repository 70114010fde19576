-- The function that reads octets gives a frame exactly where they are that frame.
use Rattle.std.proofs.Common.{◌≡◌, ℕ, zero, suc, ◌+◌, ◌*◌, ◌++◌, ◌∷◌, ◌/◌, ◌%◌, ◌<◌, ◌≤◌, ◌^◌, ◌||◌, Bool, true, false, cond, eqb, ltb, leb, [], List, length, take, drop, Option, Some, None, Result, Ok, Err, is_some, refl, sym, ap, subst, ◌∙◌, inl, inr, arith}
use Rattle.std.specs.Prelude.{IfSome}
use Rattle.std.specs.List.{flat_map, AllByRecursion}
use Rattle.std.proofs.lemmas.Bool.{ltb-false, leb-false, eqb-true, cases_Bool}
use Rattle.std.proofs.lemmas.List.{length-take, length-drop}
use Rattle.nr_u.specs.declared.frame.Range.{Range}
use Rattle.nr_u.specs.declared.frame.Frame.{Frame}
use Rattle.nr_u.specs.declared.frame.Frame.TheVariants.{User, Status}
use Rattle.nr_u.specs.declared.frame.NruErr.{NruErr}
use Rattle.nr_u.specs.declared.frame.NruErr.TheVariants.{Short, Kind, Ranges, Trailing, Memory}
use Rattle.nr_u.specs.Frames.{Rising, AreRanges, number, range, optional, is_set, IsFrame}
use Rattle.nr_u.specs.Faults.{number_of, range_fault, padding_fault, highest_fault, highest_len, user_fault, status_fault, fault_of, ◌else◌}
use Rattle.nr_u.specs.Reading.{shown_number, shown_ranges, shown_status, shown_frame, judged, decoded, AreOctets}
use Rattle.nr_u.proofs.Numbers.{number_again}
use Rattle.nr_u.proofs.Grammar.{AreSmall, AreSmall-rising, frame_passes, one_frame}
use Rattle.nr_u.proofs.Status.{ReadsHighest, status_frame}

-- ---- a frame is read as itself

shown_again : (n : ℕ) (rest : List ℕ) → n < 2 ^ 24 → shown_number (number n ++ rest) ≡ n
shown_again n rest fits = number_again n fits

ranges_again : (rs : List Range) (rest : List ℕ) → AreSmall rs → shown_ranges (length rs) (flat_map range rs ++ rest) ≡ rs
ranges_again [] rest small = refl
ranges_again (r ∷ rs) rest small = rw (number_again r.from small.0.0, number_again r.to small.0.1, ranges_again rs rest small.1) refl

status_again : (first : ℕ) (highest : Option ℕ) (rs : List Range) (padding : List ℕ) → is_set first 0 ≡ is_some highest → IfSome highest (λ h. h < 2 ^ 18) → AreRanges rs
    → shown_status first (length rs ∷ (optional highest ++ flat_map range rs) ++ padding) ≡ Status highest rs
status_again first None rs padding flag small are =
    rw flag (ap (λ (x : List Range). Status None x) (ranges_again rs padding (AreSmall-rising 0 rs are.0 are.1)))
status_again first (Some h) rs padding flag small are =
    rw (flag, number_again h (omega (arith, small)), ranges_again rs padding (AreSmall-rising 0 rs are.0 are.1)) refl

shown_is : (octets : List ℕ) (f : Frame) → IsFrame octets f → shown_frame octets ≡ f
shown_is octets (User n u r) h =
    let kind : eqb (h.first / 16) 0 ≡ true = rw h.first_is.0 refl in
    ap shown_frame h.parts ∙ rw (kind, number_again n h.fits, h.first_is.1, h.first_is.2) refl
shown_is octets (Status highest rs) h =
    let other : eqb (h.first / 16) 0 ≡ false = rw h.first_is.0 refl in
    ap shown_frame h.parts ∙ rw other (status_again h.first highest rs h.padding h.first_is.1 h.fits.0 h.fits.2)

pub frame_decodes : (octets : List ℕ) (f : Frame) → IsFrame octets f → decoded octets ≡ Ok f
frame_decodes octets f is = rw (frame_passes octets f is) (ap Ok (shown_is octets f is))

-- ---- what is read is a frame

number_octets : (a b c : ℕ) → a < 2 ^ 8 → b < 2 ^ 8 → c < 2 ^ 8 → number (number_of a b c) ≡ a ∷ b ∷ c ∷ []
number_octets a b c a_fits b_fits c_fits =
    let high : number_of a b c / 256 ^ 2 % 256 ≡ a = omega arith in
    let middle : number_of a b c / 256 ^ 1 % 256 ≡ b = omega arith in
    let low : number_of a b c % 256 ≡ c = omega arith in
    rw (high, middle, low) refl

-- the ranges that octets show, of which each check passes
record ShowsRanges (low k : ℕ) (octets : List ℕ) : Type 0 where
  rising : Rising low (shown_ranges k octets)
  small : AllByRecursion (λ r. r.to < 2 ^ 24) (shown_ranges k octets)
  shown : take (6 * k) octets ≡ flat_map range (shown_ranges k octets)

number_small : (a b c : ℕ) → a < 2 ^ 8 → b < 2 ^ 8 → c < 2 ^ 8 → number_of a b c < 2 ^ 24
number_small a b c a_fits b_fits c_fits = omega arith

step_passes : (x y : Bool) (place : ℕ) (rest : Option NruErr) → cond (x || y) (Some (Ranges place)) rest ≡ None → (x ≡ false) × (y ≡ false) × (rest ≡ None)
step_passes true y place rest pass = absurd cc
step_passes false true place rest pass = absurd cc
step_passes false false place rest pass = (refl, refl, pass)

shows_ranges : (low place k : ℕ) (octets : List ℕ) → AreOctets octets → 6 * k ≤ length octets → range_fault low place (take (6 * k) octets) ≡ None → ShowsRanges low k octets
shows_ranges low place zero octets fits long pass = record { rising = tt; small = tt; shown = refl }
shows_ranges low place (suc k) [] fits long pass = absurd (omega arith)
shows_ranges low place (suc k) (a ∷ []) fits long pass = absurd (omega arith)
shows_ranges low place (suc k) (a ∷ b ∷ []) fits long pass = absurd (omega arith)
shows_ranges low place (suc k) (a ∷ b ∷ c ∷ []) fits long pass = absurd (omega arith)
shows_ranges low place (suc k) (a ∷ b ∷ c ∷ d ∷ []) fits long pass = absurd (omega arith)
shows_ranges low place (suc k) (a ∷ b ∷ c ∷ d ∷ e ∷ []) fits long pass = absurd (omega arith)
shows_ranges low place (suc k) (a ∷ b ∷ c ∷ d ∷ e ∷ f ∷ rest) fits long pass =
    let len : 6 * suc k ≡ suc (suc (suc (suc (suc (suc (6 * k)))))) = omega arith in
    let pass' : range_fault low place (take (suc (suc (suc (suc (suc (suc (6 * k))))))) (a ∷ b ∷ c ∷ d ∷ e ∷ f ∷ rest)) ≡ None = subst (λ (n : ℕ). range_fault low place (take n (a ∷ b ∷ c ∷ d ∷ e ∷ f ∷ rest)) ≡ None) len pass in
    let steps = step_passes (ltb (number_of a b c) low) (ltb (number_of d e f) (number_of a b c)) place _ pass' in
    let later = shows_ranges (number_of d e f + 1) (place + 6) k rest fits.1.1.1.1.1.1 (omega arith) steps.2 in
    record {
      rising = (ltb-false _ _ steps.0, ltb-false _ _ steps.1, later.rising);
      small = (number_small d e f fits.1.1.1.0 fits.1.1.1.1.0 fits.1.1.1.1.1.0, later.small);
      shown = ap (λ (n : ℕ). take n (a ∷ b ∷ c ∷ d ∷ e ∷ f ∷ rest)) len ∙ ap (λ (x : List ℕ). a ∷ b ∷ c ∷ d ∷ e ∷ f ∷ x) later.shown
          ∙ sym (ap (λ (x : List ℕ). (x ++ number (number_of d e f)) ++ flat_map range (shown_ranges k rest)) (number_octets a b c fits.0 fits.1.0 fits.1.1.0)
          ∙ ap (λ (x : List ℕ). ((a ∷ b ∷ c ∷ []) ++ x) ++ flat_map range (shown_ranges k rest)) (number_octets d e f fits.1.1.1.0 fits.1.1.1.1.0 fits.1.1.1.1.1.0));
    }

else_passes : (a b : Option NruErr) → (a else b) ≡ None → (a ≡ None) × (b ≡ None)
else_passes None b pass = (refl, pass)
else_passes (Some e) b pass = absurd cc

if_passes : (x : Bool) (e : NruErr) (rest : Option NruErr) → cond x (Some e) rest ≡ None → (x ≡ false) × (rest ≡ None)
if_passes true e rest pass = absurd cc
if_passes false e rest pass = (refl, pass)

padding_short : (place : ℕ) (padding : List ℕ) → padding_fault place padding ≡ None → length padding ≤ 3
padding_short place padding pass = ltb-false _ _ (if_passes (ltb 3 (length padding)) _ None pass).0

octets_take : (k : ℕ) (octets : List ℕ) → AreOctets octets → AreOctets (take k octets)
octets_take zero octets fits = tt
octets_take (suc k) [] fits = tt
octets_take (suc k) (o ∷ octets) fits = (fits.0, octets_take k octets fits.1)

octets_drop : (k : ℕ) (octets : List ℕ) → AreOctets octets → AreOctets (drop k octets)
octets_drop zero octets fits = fits
octets_drop (suc k) [] fits = tt
octets_drop (suc k) (o ∷ octets) fits = octets_drop k octets fits.1

-- the highest sequence number that is shown where the flag is set
abbrev shown_highest : Bool → List ℕ → Option ℕ
shown_highest flag rest = cond flag (Some (shown_number rest)) None

abbrev flag_len : Bool → ℕ
flag_len flag = cond flag 3 0

reads_highest : (flag : Bool) (rest : List ℕ) → AreOctets rest → flag_len flag ≤ length rest → highest_fault (take (flag_len flag) rest) ≡ None → ReadsHighest (take (flag_len flag) rest) (shown_highest flag rest)
reads_highest false rest fits long pass = (tt, (λ none. refl), λ three. absurd cc)
reads_highest true [] fits long pass = absurd (omega arith)
reads_highest true (a ∷ []) fits long pass = absurd (omega arith)
reads_highest true (a ∷ b ∷ []) fits long pass = absurd (omega arith)
reads_highest true (a ∷ b ∷ c ∷ rest) fits long pass =
    (leb-false _ _ (if_passes (leb (2 ^ 18) (number_of a b c)) _ None pass).0, (λ none. absurd cc), λ three. (refl, sym (number_octets a b c fits.0 fits.1.0 fits.1.1.0)))

status_shown : (first count : ℕ) (rest : List ℕ) → first / 2 ^ 4 ≡ 1 → count < 2 ^ 8 → AreOctets rest → status_fault first (count ∷ rest) ≡ None → IsFrame (first ∷ count ∷ rest) (shown_status first (count ∷ rest))
status_shown first count rest kind small fits pass =
    let start = highest_len first in
    let whole = if_passes (ltb (length rest) (start + 6 * count)) _ _ pass in
    let long : start + 6 * count ≤ length rest = ltb-false _ _ whole.0 in
    let parts = else_passes (highest_fault (take start rest)) _ whole.1 in
    let behind = else_passes (range_fault 0 (2 + start) (take (6 * count) (drop start rest))) _ parts.1 in
    let highest = reads_highest (is_set first 0) rest fits (omega (arith, long)) parts.0 in
    let after_long : 6 * count ≤ length (drop start rest) = omega (arith, long, length-drop start rest) in
    let ranges = shows_ranges 0 (2 + start) count (drop start rest) (octets_drop start rest fits) after_long behind.0 in
    status_frame first count start rest (take start rest) (drop start rest) (take (6 * count) (drop start rest)) (drop (6 * count) (drop start rest)) (shown_highest (is_set first 0) rest) (shown_ranges count (drop start rest))
    kind small refl (omega (arith, length-take start rest, long)) refl refl (omega (arith, length-take (6 * count) (drop start rest), after_long)) refl refl
    highest (ranges.rising, ranges.small) ranges.shown (padding_short _ _ behind.1)

user_shown : (first : ℕ) (rest : List ℕ) → first / 2 ^ 4 ≡ 0 → AreOctets rest → user_fault rest ≡ None → IsFrame (first ∷ rest) (User (shown_number rest) (is_set first 0) (is_set first 1))
user_shown first [] kind fits pass = absurd cc
user_shown first (a ∷ []) kind fits pass = absurd cc
user_shown first (a ∷ b ∷ []) kind fits pass = absurd cc
user_shown first (a ∷ b ∷ c ∷ padding) kind fits pass = record {
  first = first;
  padding = padding;
  parts = ap (λ (x : List ℕ). first ∷ (x ++ padding)) (sym (number_octets a b c fits.0 fits.1.0 fits.1.1.0));
  first_is = (kind, refl, refl);
  fits = number_small a b c fits.0 fits.1.0 fits.1.1.0;
  short = padding_short 4 padding pass;
}

none_kind : {e : NruErr} → Some e ≡ None → ⊥
none_kind is = cc

status_all : (first : ℕ) (rest : List ℕ) → first / 2 ^ 4 ≡ 1 → AreOctets rest → status_fault first rest ≡ None → IsFrame (first ∷ rest) (shown_status first rest)
status_all first [] kind fits pass = absurd cc
status_all first (count ∷ rest) kind fits pass = status_shown first count rest kind fits.0 fits.1 pass

status_or : (first : ℕ) (rest : List ℕ) → AreOctets rest → cond (eqb (first / 16) 1) (status_fault first rest) (Some (Kind 0)) ≡ None → IsFrame (first ∷ rest) (shown_status first rest)
status_or first rest fits pass =
    elim (cases_Bool (eqb (first / 16) 1)) [
      | inl status ↦ status_all first rest (eqb-true _ _ status) fits (rw status at pass)
      | inr none ↦ absurd (none_kind (rw none at pass))
    ]

shown_frame_is : (octets : List ℕ) → AreOctets octets → fault_of octets ≡ None → IsFrame octets (shown_frame octets)
shown_frame_is [] fits pass = absurd cc
shown_frame_is (first ∷ rest) fits pass =
    elim (cases_Bool (eqb (first / 16) 0)) [
      | inl user ↦
          let passes : user_fault rest ≡ None = rw user at pass in
          rw user (user_shown first rest (eqb-true _ _ user) fits.1 passes)
      | inr other ↦
          let rest_pass : cond (eqb (first / 16) 1) (status_fault first rest) (Some (Kind 0)) ≡ None = rw other at pass in
          rw other (status_or first rest fits.1 rest_pass)
    ]

judged_is : (f g : Frame) (fault : Option NruErr) → judged f fault ≡ Ok g → (fault ≡ None) × (f ≡ g)
judged_is f g None is = (refl, cc)
judged_is f g (Some e) is = absurd cc

pub decodes_frame : (octets : List ℕ) (f : Frame) → AreOctets octets → decoded octets ≡ Ok f → IsFrame octets f
decodes_frame octets f fits is =
    let parts = judged_is (shown_frame octets) f (fault_of octets) is in
    rw (← parts.1) (shown_frame_is octets fits parts.0)

-- ---- it computes

abbrev lost_1 : Range
lost_1 = record { from = 1; to = 1 }

-- the status that names 2 and lists 1 to 1
status_computes : decoded (17 ∷ 1 ∷ 0 ∷ 0 ∷ 2 ∷ 0 ∷ 0 ∷ 1 ∷ 0 ∷ 0 ∷ 1 ∷ 0 ∷ 0 ∷ 0 ∷ []) ≡ Ok (Status (Some 2) (lost_1 ∷ []))
status_computes = refl

-- a range that ends before it begins
fault_computes : decoded (16 ∷ 1 ∷ 0 ∷ 0 ∷ 5 ∷ 0 ∷ 0 ∷ 4 ∷ []) ≡ Err (Ranges 2)
fault_computes = refl
