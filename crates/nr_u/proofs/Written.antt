-- What is written is the frame, and fits a container.
use Rattle.std.proofs.Common.{◌≡◌, ℕ, ◌+◌, ◌*◌, ◌-◌, ◌∷◌, ◌%◌, ◌≤◌, true, false, List, length, Option, Some, None, is_some, refl, sym, ap, ◌∙◌, arith}
use Rattle.std.specs.Prelude.{replicate}
use Rattle.std.proofs.lemmas.List.{length-append, length-replicate}
use Rattle.nr_u.specs.declared.frame.Range.{Range}
use Rattle.nr_u.specs.declared.frame.Frame.{Frame}
use Rattle.nr_u.specs.declared.frame.Frame.TheVariants.{User, Status}
use Rattle.nr_u.specs.Frames.{flag, fields, first_octet, written, IsFirst, Fits, IsWritable, IsFrame}
use Rattle.nr_u.proofs.Grammar.{length-ranges}

first_is : (f : Frame) → IsFirst (first_octet f) f
first_is (User n false false) = (refl, refl, refl)
first_is (User n false true) = (refl, refl, refl)
first_is (User n true false) = (refl, refl, refl)
first_is (User n true true) = (refl, refl, refl)
first_is (Status None lost) = (refl, refl)
first_is (Status (Some h) lost) = (refl, refl)

fits : (f : Frame) → IsWritable f → Fits f
fits (User n user repeat) can = can
fits (Status highest lost) can = (can.0, omega (arith, can.1), can.2)

fields_len : (f : Frame) → IsWritable f → length (fields f) ≤ 1012
fields_len (User n user repeat) can = omega arith
fields_len (Status None lost) can = omega (arith, can.1, length-ranges lost)
fields_len (Status (Some h) lost) can = omega (arith, can.1, length-ranges lost)

-- with its padding a frame ends within a container, which has at most 1018 octets
pub written_fits : (f : Frame) → IsWritable f → length (written f) ≤ 1018
written_fits f can =
    let pad = (6 - length (first_octet f ∷ fields f) % 4) % 4 in
    omega (arith, fields_len f can, length-append (first_octet f ∷ fields f) (replicate pad 0), length-replicate {A = ℕ} pad 0)

pub written_is_frame : (f : Frame) → IsWritable f → IsFrame (written f) f
written_is_frame f can =
    let pad = (6 - length (first_octet f ∷ fields f) % 4) % 4 in
    record {
      first = first_octet f;
      padding = replicate pad 0;
      parts = refl;
      first_is = first_is f;
      fits = fits f can;
      short = omega (arith, length-replicate {A = ℕ} pad 0);
    }

-- a status has two octets, three for a highest sequence number, and six a range
pub status_length : (highest : Option ℕ) (lost : List Range) → length (first_octet (Status highest lost) ∷ fields (Status highest lost)) ≡ 2 + 3 * flag (is_some highest) + 6 * length lost
status_length None lost = omega (arith, length-ranges lost)
status_length (Some h) lost = omega (arith, length-ranges lost)

pub written_length : (f : Frame) (bare : ℕ) → bare ≡ length (first_octet f ∷ fields f) → bare + (6 - bare % 4) % 4 ≡ length (written f)
written_length f bare is =
    let pad = (6 - length (first_octet f ∷ fields f) % 4) % 4 in
    rw is (omega (arith, length-append (first_octet f ∷ fields f) (replicate pad 0), length-replicate {A = ℕ} pad 0))

pub status_bare : (f : Frame) (highest : Option ℕ) (lost : List Range) (set count : ℕ) → f ≡ Status highest lost → set ≡ flag (is_some highest) → count ≡ length lost → 2 + 3 * set + 6 * count ≡ length (first_octet f ∷ fields f)
status_bare f highest lost set count f_is set_is count_is =
    let bare : 2 + 3 * set + 6 * count ≡ length (first_octet (Status highest lost) ∷ fields (Status highest lost)) = rw (set_is, count_is) (sym (status_length highest lost)) in
    bare ∙ sym (ap (λ (x : Frame). length (first_octet x ∷ fields x)) f_is)

pub bare_small : (f : Frame) → IsWritable f → length (first_octet f ∷ fields f) ≤ 1013
bare_small f can = omega (arith, fields_len f can)
