-- The claims that are decided, and the first that an entry breaks.
use Rattle.std.specs.Prelude.{Bool, true, not, ℕ, ◌&&◌, ◌+◌, List, [], ◌∷◌, Option, Some, None}
use Rattle.std.specs.List.{find}
use Rattle.dc_base.specs.Links.{is_link}
use Rattle.dc_base.specs.declared.events.Line.{Line}
use Rattle.dc_base.specs.declared.events.Line.TheVariants as line
use Rattle.dc_base.specs.declared.flights.Flight.{Flight}
use Rattle.dc_base.specs.declared.flights.Flight.TheVariants as flight
use Rattle.dc_base.specs.declared.nodes.Class.TheVariants.{Tun}
use Rattle.dc_base.specs.declared.nodes.LinkId.{LinkId}
use Rattle.transcript.specs.Transcript.{Entry}
use Rattle.claims.specs.Claim as claims
use Rattle.claims.specs.Claim.{of_entries, of_lines}
use Rattle.claims.specs.Judged.{judged}
use Rattle.claims.specs.Links.{is_class}
use Rattle.claims.specs.Noted.{after, noted}
use Rattle.claims.specs.OnLink.{flight_fits, is_consequence}
use Rattle.claims.specs.Past.{Past}
use Rattle.claims.specs.Planned.{is_planned}
use Rattle.checker_state.specs.Due.{has_decided_cause}
use Rattle.checker.specs.declared.claim.Broken.{Broken}
use Rattle.checker.specs.declared.claim.Claim.{Claim}
use Rattle.checker.specs.declared.claim.Claim.TheVariants.{Cause, Consequence, OnLink, Planned}

-- the link is of the class of the flight, and the flight is formed as it has to be; of a packet in a tunnel the form is not
-- decided yet
abbrev pub fits_link : LinkId → Flight → Bool
fits_link l (flight.Tun tag packet) = is_class Tun l
fits_link l f = flight_fits l f

-- a send is on one of the 22 links, and fits it
abbrev pub is_on_link : Past → Line → Bool
is_on_link p (line.Send l f) = is_link l && fits_link l f
is_on_link p _ = true

-- what a claim says
abbrev pub claim_of : Claim → claims.Claim
claim_of Consequence = of_lines is_consequence
claim_of OnLink = of_lines is_on_link
claim_of Planned = of_lines is_planned
claim_of Cause = of_entries (λ p e q. has_decided_cause p e)

-- the claims that are decided, in the order in which they are tried
abbrev pub decided : List Claim
decided = Cause ∷ Consequence ∷ OnLink ∷ Planned ∷ []

-- the first claim that a line breaks, with the past up to it
abbrev pub broken_by_line : Past → Line → Option Claim
broken_by_line p x = find (λ c. not ((claim_of c).of_line p x)) decided

-- the first that an entry breaks as a whole
abbrev pub broken_by_entry : Past → Entry → Past → Option Claim
broken_by_entry p e q = find (λ c. not ((claim_of c).of_entry p e q)) decided

-- a claim that is broken by a line, the one of this number from 0
abbrev pub at_line : ℕ → Claim → Broken
at_line k c = record { claim = c; line = Some k }

-- or by an entry as a whole
abbrev pub at_entry : Claim → Broken
at_entry c = record { claim = c; line = None }

-- what is broken first, if it is, or else by what comes after it
abbrev pub or_broken : {X : Type 0} → (X → Broken) → Option X → Option Broken → Option Broken
or_broken f (Some x) later = Some (f x)
or_broken f None later = later

-- the first that a list of lines breaks, the first of which has this number
abbrev pub broken_in_lines : Past → ℕ → List Line → Option Broken
broken_in_lines p k [] = None
broken_in_lines p k (x ∷ xs) = or_broken (at_line k) (broken_by_line p x) (broken_in_lines (noted p x) (k + 1) xs)

-- the first claim that an entry breaks, with the past before it: as a whole, and then line by line; None where every claim that is
-- decided holds of it
abbrev pub first_broken : Past → Entry → Option Broken
first_broken p e = or_broken at_entry (broken_by_entry p e (after p e)) (broken_in_lines (judged e.event e.answer p) 0 e.lines)
