-- A status frame, put together from its parts.
use Rattle.std.proofs.Common.{◌≡◌, ℕ, ◌*◌, ◌++◌, ◌∷◌, ◌/◌, ◌<◌, ◌≤◌, ◌^◌, Bool, true, false, cond, List, length, take, drop, Option, None, is_some, refl, sym, ap, ◌∙◌, append_assoc, arith}
use Rattle.std.specs.Prelude.{IfSome, IsSome}
use Rattle.std.specs.List.{flat_map}
use Rattle.std.proofs.lemmas.List.{take-append-drop, nil_from_length}
use Rattle.nr_u.specs.declared.frame.Range.{Range}
use Rattle.nr_u.specs.declared.frame.Frame.TheVariants.{Status}
use Rattle.nr_u.specs.Frames.{AreRanges, range, optional, is_set, IsFrame}
use Rattle.nr_u.specs.Faults.{highest_len}
use Rattle.nr_u.proofs.Grammar.{length-ranges}

-- what is read of the octets for a highest number, of which there are none or three
abbrev pub ReadsHighest : List ℕ → Option ℕ → Type 0
ReadsHighest octets h = IfSome h (λ n. n < 2 ^ 18) × (length octets ≡ 0 → h ≡ None) × (length octets ≡ 3 → IsSome h × (octets ≡ optional h))

front_is : (flag : Bool) (front : List ℕ) (h : Option ℕ) → length front ≡ cond flag 3 0 → ReadsHighest front h → (front ≡ optional h) × (flag ≡ is_some h)
front_is false front h len found =
    let none = found.1 len in
    (nil_from_length front len ∙ ap optional (sym none), ap is_some (sym none))
front_is true front h len found =
    let there = found.2 len in
    (there.1, sym there.0)

pub status_frame : (first count start : ℕ) (rest front after octets padding : List ℕ) (h : Option ℕ) (lost : List Range) → first / 2 ^ 4 ≡ 1 → count < 2 ^ 8 → start ≡ highest_len first
    → length front ≡ start → front ≡ take start rest → after ≡ drop start rest
    → length octets ≡ 6 * count → octets ≡ take (6 * count) after → padding ≡ drop (6 * count) after
    → ReadsHighest front h → AreRanges lost → octets ≡ flat_map range lost → length padding ≤ 3 → IsFrame (first ∷ count ∷ rest) (Status h lost)
status_frame first count start rest front after octets padding h lost kind small start_is front_len front_cut after_cut octets_len octets_cut padding_cut found are ranges short =
    let highest = front_is (is_set first 0) front h (front_len ∙ start_is) found in
    let counted : count ≡ length lost = omega (arith, length-ranges lost, ap length ranges) in
    let rest_is : rest ≡ front ++ after = sym (take-append-drop start rest) ∙ rw (← front_cut, ← after_cut) refl in
    let after_is : after ≡ octets ++ padding = sym (take-append-drop (6 * count) after) ∙ rw (← octets_cut, ← padding_cut) refl in
    let fields_are : rest ≡ (optional h ++ flat_map range lost) ++ padding = rest_is ∙ ap (λ (x : List ℕ). front ++ x) after_is ∙ sym (append_assoc front octets padding) ∙ ap (λ (x : List ℕ). (x ++ octets) ++ padding) highest.0 ∙ ap (λ (x : List ℕ). (optional h ++ x) ++ padding) ranges in
    record {
      first = first;
      padding = padding;
      parts = ap (λ (x : List ℕ). first ∷ count ∷ x) fields_are ∙ ap (λ (k : ℕ). first ∷ k ∷ (optional h ++ flat_map range lost) ++ padding) counted;
      first_is = (kind, highest.1);
      fits = (found.0, omega arith, are);
      short = short;
    }
