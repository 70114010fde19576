-- Octets are at most one frame, and what is a frame passes each check.
use Rattle.std.proofs.Common.{◌≡◌, ℕ, ◌+◌, ◌*◌, ◌++◌, ◌∷◌, ◌/◌, ◌%◌, ◌<◌, ◌≤◌, ◌^◌, true, false, eqb, ltb, leb, [], List, length, take, drop, Option, Some, None, Result, Ok, Err, is_some, refl, sym, ap, ◌∙◌, arith}
use Rattle.std.specs.Prelude.{IfSome, IfOk, IfErr, MatchResult}
use Rattle.std.specs.List.{flat_map, AllByRecursion}
use Rattle.std.proofs.lemmas.Bool.{le-ltb, lt-leb, false≢true}
use Rattle.std.proofs.lemmas.List.{take_at, drop_at, length-append}
use Rattle.nr_u.specs.declared.frame.Range.{Range}
use Rattle.nr_u.specs.declared.frame.Frame.{Frame}
use Rattle.nr_u.specs.declared.frame.Frame.TheVariants.{User, Status}
use Rattle.nr_u.specs.declared.frame.NruErr.{NruErr}
use Rattle.nr_u.specs.declared.frame.NruErr.TheVariants.{Short, Kind, Ranges, Trailing, Memory}
use Rattle.nr_u.specs.Frames.{Rising, AreRanges, number, range, optional, is_set, IsFrame}
use Rattle.nr_u.specs.Faults.{number_of, range_fault, padding_fault, status_fault, fault_of, IsFaultOf, ◌else◌}
use Rattle.nr_u.proofs.Numbers.{number_again}
use Rattle.nr_u.proofs.Ranges.{range_fault-range}

none_some : {e : NruErr} → None ≡ Some e → ⊥
none_some h = cc

-- both ends of each range have 24 bits
abbrev pub AreSmall : List Range → Type 0
AreSmall rs = AllByRecursion (λ r. (r.from < 2 ^ 24) × (r.to < 2 ^ 24)) rs

pub AreSmall-rising : (low : ℕ) (rs : List Range) → Rising low rs → AllByRecursion (λ r. r.to < 2 ^ 24) rs → AreSmall rs
AreSmall-rising low [] up fits = tt
AreSmall-rising low (r ∷ rs) up fits = ((omega (arith, up.1, fits.0), fits.0), AreSmall-rising (r.to + 1) rs up.2 fits.1)

pub length-ranges : (rs : List Range) → length (flat_map range rs) ≡ 6 * length rs
length-ranges [] = refl
length-ranges (r ∷ rs) = omega (arith, length-ranges rs)

-- ranges in order pass the check
ranges_pass : (low place : ℕ) (rs : List Range) → Rising low rs → AreSmall rs → range_fault low place (flat_map range rs) ≡ None
ranges_pass low place [] up small = refl
ranges_pass low place (r ∷ rs) up small =
    let below : ltb r.from low ≡ false = le-ltb _ _ up.0 in
    let falls : ltb r.to r.from ≡ false = le-ltb _ _ up.1 in
    range_fault-range low place r (flat_map range rs) small.0.0 small.0.1 ∙ rw (below, falls) (ranges_pass (r.to + 1) (place + 6) rs up.2 small.1)

same_range : (r q : Range) → r.from ≡ q.from → r.to ≡ q.to → r ≡ q
same_range r q from to =
    let ends : (r.from, r.to) ≡ (q.from, q.to) = cc in
    ap (λ (p : ℕ × ℕ). let x : Range = record { from = p.0; to = p.1 } in x) ends

same_number : (m n : ℕ) → m < 2 ^ 24 → n < 2 ^ 24 → number m ≡ number n → m ≡ n
same_number m n m_fits n_fits e =
    let high : m / 256 ^ 2 % 256 ≡ n / 256 ^ 2 % 256 = cc in
    let middle : m / 256 ^ 1 % 256 ≡ n / 256 ^ 1 % 256 = cc in
    let low : m % 256 ≡ n % 256 = cc in
    omega arith

-- two numbers at the front of one list of octets
same_front : (m n : ℕ) (x y : List ℕ) → m < 2 ^ 24 → n < 2 ^ 24 → number m ++ x ≡ number n ++ y → (m ≡ n) × (x ≡ y)
same_front m n x y m_fits n_fits e =
    let front : number m ≡ number n = cc in
    (same_number m n m_fits n_fits front, cc)

same_ranges : (rs qs : List Range) (x y : List ℕ) → length rs ≡ length qs → AreSmall rs → AreSmall qs → flat_map range rs ++ x ≡ flat_map range qs ++ y → rs ≡ qs
same_ranges [] [] x y len rs_small qs_small e = refl
same_ranges [] (q ∷ qs) x y len rs_small qs_small e = absurd (omega arith)
same_ranges (r ∷ rs) [] x y len rs_small qs_small e = absurd (omega arith)
same_ranges (r ∷ rs) (q ∷ qs) x y len rs_small qs_small e =
    let from = same_front r.from q.from (number r.to ++ (flat_map range rs ++ x)) (number q.to ++ (flat_map range qs ++ y)) rs_small.0.0 qs_small.0.0 e in
    let to = same_front r.to q.to (flat_map range rs ++ x) (flat_map range qs ++ y) rs_small.0.1 qs_small.0.1 from.1 in
    let one = same_range r q from.0 to.0 in
    let others = same_ranges rs qs x y (omega arith) rs_small.1 qs_small.1 to.1 in
    cc

same_heads : (x y : ℕ) (xs ys : List ℕ) → x ∷ xs ≡ y ∷ ys → (x ≡ y) × (xs ≡ ys)
same_heads x y xs ys e = (cc, cc)

same_lost : (a b : List Range) (x y : List ℕ) → AreRanges a → AreRanges b → length a ≡ length b → flat_map range a ++ x ≡ flat_map range b ++ y → a ≡ b
same_lost a b x y a_are b_are len e =
    same_ranges a b x y len (AreSmall-rising 0 a a_are.0 a_are.1) (AreSmall-rising 0 b b_are.0 b_are.1) e

-- the flag of octet 0 says whether there is a highest number
apart_by_flag : {X : Type 0} (k : ℕ) → is_set k 0 ≡ false → is_set k 0 ≡ true → X
apart_by_flag k unset set = absurd (false≢true (sym unset ∙ set))

-- octets are at most one frame
pub one_frame : (octets : List ℕ) (f g : Frame) → IsFrame octets f → IsFrame octets g → f ≡ g
one_frame octets (User m u r) (User n v s) a b =
    let heads = same_heads a.first b.first (number m ++ a.padding) (number n ++ b.padding) (sym a.parts ∙ b.parts) in
    let n_is = (same_front m n a.padding b.padding a.fits b.fits heads.1).0 in
    let u_is : u ≡ v = sym a.first_is.1 ∙ ap (λ (k : ℕ). is_set k 0) heads.0 ∙ b.first_is.1 in
    let r_is : r ≡ s = sym a.first_is.2 ∙ ap (λ (k : ℕ). is_set k 1) heads.0 ∙ b.first_is.2 in
    cc
one_frame octets (User m u r) (Status h bs) a b =
    let heads = same_heads a.first b.first (number m ++ a.padding) (length bs ∷ (optional h ++ flat_map range bs) ++ b.padding) (sym a.parts ∙ b.parts) in
    absurd (omega (arith, heads.0, a.first_is.0, b.first_is.0))
one_frame octets (Status h rs) (User n v s) a b =
    let heads = same_heads a.first b.first (length rs ∷ (optional h ++ flat_map range rs) ++ a.padding) (number n ++ b.padding) (sym a.parts ∙ b.parts) in
    absurd (omega (arith, heads.0, a.first_is.0, b.first_is.0))
one_frame octets (Status None rs) (Status None qs) a b =
    let heads = same_heads a.first b.first (length rs ∷ flat_map range rs ++ a.padding) (length qs ∷ flat_map range qs ++ b.padding) (sym a.parts ∙ b.parts) in
    let counts = same_heads (length rs) (length qs) (flat_map range rs ++ a.padding) (flat_map range qs ++ b.padding) heads.1 in
    let lost = same_lost rs qs a.padding b.padding a.fits.2 b.fits.2 counts.0 counts.1 in
    cc
one_frame octets (Status None rs) (Status (Some k) qs) a b =
    let heads = same_heads a.first b.first (length rs ∷ flat_map range rs ++ a.padding) (length qs ∷ number k ++ (flat_map range qs ++ b.padding)) (sym a.parts ∙ b.parts) in
    apart_by_flag a.first a.first_is.1 (ap (λ (k : ℕ). is_set k 0) heads.0 ∙ b.first_is.1)
one_frame octets (Status (Some h) rs) (Status None qs) a b =
    let heads = same_heads a.first b.first (length rs ∷ number h ++ (flat_map range rs ++ a.padding)) (length qs ∷ flat_map range qs ++ b.padding) (sym a.parts ∙ b.parts) in
    apart_by_flag b.first b.first_is.1 (ap (λ (k : ℕ). is_set k 0) (sym heads.0) ∙ a.first_is.1)
one_frame octets (Status (Some h) rs) (Status (Some k) qs) a b =
    let heads = same_heads a.first b.first (length rs ∷ number h ++ (flat_map range rs ++ a.padding)) (length qs ∷ number k ++ (flat_map range qs ++ b.padding)) (sym a.parts ∙ b.parts) in
    let counts = same_heads (length rs) (length qs) (number h ++ (flat_map range rs ++ a.padding)) (number k ++ (flat_map range qs ++ b.padding)) heads.1 in
    let highest = same_front h k (flat_map range rs ++ a.padding) (flat_map range qs ++ b.padding) (omega (arith, a.fits.0)) (omega (arith, b.fits.0)) counts.1 in
    let lost = same_lost rs qs a.padding b.padding a.fits.2 b.fits.2 counts.0 highest.1 in
    cc

padding_passes : (place : ℕ) (padding : List ℕ) → length padding ≤ 3 → padding_fault place padding ≡ None
padding_passes place padding short =
    let few : ltb 3 (length padding) ≡ false = le-ltb _ _ short in
    rw few refl

-- the ranges of a status and the padding after them
rest_passes : (place : ℕ) (rs : List Range) (padding : List ℕ) → AreRanges rs → length padding ≤ 3
    → (range_fault 0 place (take (6 * length rs) (flat_map range rs ++ padding)) else padding_fault (place + 6 * length rs) (drop (6 * length rs) (flat_map range rs ++ padding))) ≡ None
rest_passes place rs padding are short =
    let len : length (flat_map range rs) ≡ 6 * length rs = length-ranges rs in
    rw (take_at (flat_map range rs) padding (6 * length rs) len, drop_at (flat_map range rs) padding (6 * length rs) len, ranges_pass 0 place rs are.0 (AreSmall-rising 0 rs are.0 are.1)) (padding_passes (place + 6 * length rs) padding short)

-- a status passes, by its octets from octet 1 on
status_passes : (first : ℕ) (highest : Option ℕ) (rs : List Range) (padding : List ℕ) → is_set first 0 ≡ is_some highest → IfSome highest (λ h. h < 2 ^ 18) → AreRanges rs → length padding ≤ 3
    → status_fault first (length rs ∷ (optional highest ++ flat_map range rs) ++ padding) ≡ None
status_passes first None rs padding flag small are short =
    let long : ltb (length (flat_map range rs ++ padding)) (0 + 6 * length rs) ≡ false = le-ltb _ _ (omega (arith, length-append (flat_map range rs) padding, length-ranges rs)) in
    rw (flag, long) (rest_passes 2 rs padding are short)
status_passes first (Some h) rs padding flag small are short =
    let long : ltb (length (number h ++ (flat_map range rs ++ padding))) (3 + 6 * length rs) ≡ false = le-ltb _ _ (omega (arith, length-append (flat_map range rs) padding, length-ranges rs)) in
    let low : leb (2 ^ 18) (number_of (h / 256 ^ 2 % 256) (h / 256 ^ 1 % 256) (h % 256)) ≡ false = rw (number_again h (omega (arith, small))) (lt-leb _ _ small) in
    rw (flag, long, low) (rest_passes 5 rs padding are short)

-- a frame passes each check
pub frame_passes : (octets : List ℕ) (f : Frame) → IsFrame octets f → fault_of octets ≡ None
frame_passes octets (User n u r) h =
    let kind : eqb (h.first / 16) 0 ≡ true = rw h.first_is.0 refl in
    ap fault_of h.parts ∙ rw kind (padding_passes 4 h.padding h.short)
frame_passes octets (Status highest rs) h =
    let other : eqb (h.first / 16) 0 ≡ false = rw h.first_is.0 refl in
    let kind : eqb (h.first / 16) 1 ≡ true = rw h.first_is.0 refl in
    ap fault_of h.parts ∙ rw (other, kind) (status_passes h.first highest rs h.padding h.first_is.1 h.fits.0 h.fits.2 h.short)

-- what is read of octets that are a frame
pub reads_frame : (octets : List ℕ) (result : Result Frame NruErr) (f : Frame) → IfOk result (IsFrame octets) → IfErr result (IsFaultOf octets) → IsFrame octets f → MatchResult result (λ g. g ≡ f) (λ e. e ≡ Memory)
reads_frame octets (Ok g) f ok err is = one_frame octets g f ok is
reads_frame octets (Err (Short place)) f ok err is = absurd (none_some (sym (frame_passes octets f is) ∙ err))
reads_frame octets (Err (Kind place)) f ok err is = absurd (none_some (sym (frame_passes octets f is) ∙ err))
reads_frame octets (Err (Ranges place)) f ok err is = absurd (none_some (sym (frame_passes octets f is) ∙ err))
reads_frame octets (Err (Trailing place)) f ok err is = absurd (none_some (sym (frame_passes octets f is) ∙ err))
reads_frame octets (Err Memory) f ok err is = refl
