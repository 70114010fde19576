-- What it means that an entry breaks a claim, or none.
use Rattle.std.specs.Prelude.{◌≡◌, ℕ, true, false, fold, take, slice_get, Option, Some, None}
use Rattle.dc_base.specs.declared.events.Line.{Line}
use Rattle.transcript.specs.Transcript.{Entry}
use Rattle.claims.specs.Claim.{EachLine}
use Rattle.claims.specs.Judged.{judged}
use Rattle.claims.specs.Noted.{after, noted}
use Rattle.claims.specs.Past.{Past}
use Rattle.checker.specs.Decided.{claim_of}
use Rattle.checker.specs.declared.claim.Claim.{Claim}

-- a claim holds of an entry, with the past before it: of each line, and of the entry as a whole
pub record HoldsOf (c : Claim) (p : Past) (e : Entry) : Type 0 where
  pub lines : EachLine (claim_of c).of_line (judged e.event e.answer p) e.lines
  pub whole : (claim_of c).of_entry p e (after p e) ≡ true

-- the past up to a line of an entry
abbrev pub past_up_to : Past → Entry → ℕ → Past
past_up_to p e k = fold noted (judged e.event e.answer p) (take k e.lines)

-- a claim does not hold of an entry: of the line at this place, or of the entry as a whole
abbrev pub IsBrokenAt : Claim → Past → Entry → Option ℕ → Type 0
IsBrokenAt c p e (Some k) = (x : Line) × (slice_get e.lines k ≡ Some x) × ((claim_of c).of_line (past_up_to p e k) x ≡ false)
IsBrokenAt c p e None = (claim_of c).of_entry p e (after p e) ≡ false
