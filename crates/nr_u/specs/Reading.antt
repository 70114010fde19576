-- What octets are read as, by a function that computes: the frame that they are, or the first check that fails.
use Rattle.std.specs.Prelude.{ℕ, zero, suc, ◌/◌, ◌^◌, ◌<◌, ◌==◌, if◌then◌else◌, false, List, [], ◌∷◌, drop, Option, Some, None, Result, Ok, Err}
use Rattle.std.specs.List.{AllByRecursion}
use Rattle.nr_u.specs.declared.frame.Range.{Range}
use Rattle.nr_u.specs.declared.frame.Frame.{Frame}
use Rattle.nr_u.specs.declared.frame.Frame.TheVariants.{User, Status}
use Rattle.nr_u.specs.declared.frame.NruErr.{NruErr}
use Rattle.nr_u.specs.Frames.{is_set}
use Rattle.nr_u.specs.Faults.{number_of, highest_len, fault_of}

-- the number that the first three octets show
abbrev pub shown_number : List ℕ → ℕ
shown_number (a ∷ b ∷ c ∷ rest) = number_of a b c
shown_number octets = 0

-- the first ranges, so many, that octets show
abbrev pub shown_ranges : ℕ → List ℕ → List Range
shown_ranges zero octets = []
shown_ranges (suc k) (a ∷ b ∷ c ∷ d ∷ e ∷ f ∷ rest) = record { from = number_of a b c; to = number_of d e f } ∷ shown_ranges k rest
shown_ranges (suc k) octets = []

-- the delivery status that octets from octet 1 on show behind this octet 0
abbrev pub shown_status : ℕ → List ℕ → Frame
shown_status first [] = Status None []
shown_status first (count ∷ rest) = Status (if is_set first 0 then Some (shown_number rest) else None) (shown_ranges count (drop (highest_len first) rest))

-- the frame that octets show which pass each check
abbrev pub shown_frame : List ℕ → Frame
shown_frame [] = Status None []
shown_frame (first ∷ rest) = if first / 2 ^ 4 == 0 then User (shown_number rest) (is_set first 0) (is_set first 1) else shown_status first rest

-- a frame that passed, or the check that failed
abbrev pub judged : Frame → Option NruErr → Result Frame NruErr
judged f None = Ok f
judged f (Some e) = Err e

-- what octets are read as
abbrev pub decoded : List ℕ → Result Frame NruErr
decoded octets = judged (shown_frame octets) (fault_of octets)

-- each is an octet
abbrev pub AreOctets : List ℕ → Type 0
AreOctets octets = AllByRecursion (λ o. o < 2 ^ 8) octets
