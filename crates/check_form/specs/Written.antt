-- The lines that a check writes, and what is said of the octets put out, by how it ends.
use Rattle.std.specs.Prelude.{◌≡◌, ◌⊎◌, ℕ, List, [], ◌++◌, codes, Option}
use Rattle.std.specs.Fmt.{decimal}
use Rattle.std.specs.Io.KnownBytes.{Appends}
use Rattle.dc_outside.specs.Octets.{AppendsFront}
use Rattle.checker.specs.declared.claim.Claim.{Claim}
use Rattle.checker.specs.declared.claim.Claim.TheVariants.{Cause, Consequence, OnLink, Planned}
use Rattle.transcript_entries.specs.declared.fault.EntryFault.TheVariants as fault
use Rattle.check_form.specs.declared.outcome.Outcome.{Outcome}
use Rattle.check_form.specs.declared.outcome.Outcome.TheVariants as outcome
use Rattle.check_form.specs.declared.verdict.Verdict.TheVariants as verdict
use Rattle.check_form.specs.Verdicts.{IsVerdict}

-- the number with which the program ends
abbrev pub outcome_number : Outcome → ℕ
outcome_number outcome.Holds = 0
outcome_number (outcome.Unread (fault.BadLine line column)) = 2
outcome_number (outcome.Unread fault.ReadFault) = 3
outcome_number outcome.WriteFault = 4
outcome_number (outcome.Unread fault.Memory) = 5
outcome_number (outcome.Unread fault.TooLong) = 6
outcome_number outcome.Fails = 7

-- the plain name of a claim
abbrev pub claim_name : Claim → List ℕ
claim_name Consequence = codes "consequence"
claim_name OnLink = codes "on_link"
claim_name Cause = codes "cause"
claim_name Planned = codes "planned"

-- what is wrong where it does not hold
abbrev pub claim_reason : Claim → List ℕ
claim_reason Consequence = codes "an event has one answer, and after it stand notes and sends alone"
claim_reason OnLink = codes "this flight may not stand on this link"
claim_reason Cause = codes "this answer is not due to the event"
claim_reason Planned = codes "this plan was not drawn with its generation"

-- the line where every claim that is decided holds
abbrev pub holds_text : ℕ → List ℕ
holds_text entries =
    codes "ok: " ++ decimal entries ++ codes " entries; decided: cause, but for full windows and aged flights; consequence; on_link, but for the form of packets; planned\n"

-- the line where one does not
abbrev pub fails_text : ℕ → Claim → List ℕ
fails_text line claim = codes "line " ++ decimal line ++ codes ": " ++ claim_name claim ++ codes ": " ++ claim_reason claim ++ codes "\n"

-- the line where a line is outside the grammar
abbrev pub bad_line_text : ℕ → ℕ → List ℕ
bad_line_text line column = codes "dc: line " ++ decimal line ++ codes " column " ++ decimal column ++ codes ": not in the grammar\n"

-- the line that tells what a check of octets comes to
abbrev pub IsLineOf : List ℕ → List ℕ → Type 0
IsLineOf octets text =
    ((entries : ℕ) × IsVerdict (verdict.Holds entries) octets × (text ≡ holds_text entries))
    ⊎ ((line : ℕ) × (claim : Claim) × IsVerdict (verdict.Fails line claim) octets × (text ≡ fails_text line claim))

-- what is said of the octets put out before and after a check of these octets that ended so
abbrev pub HasChecked : List ℕ → Outcome → Option (List ℕ) → Option (List ℕ) → Type 0
HasChecked octets outcome.Holds old new = (entries : ℕ) × IsVerdict (verdict.Holds entries) octets × Appends old new (holds_text entries)
HasChecked octets outcome.Fails old new =
    (line : ℕ) × (claim : Claim) × IsVerdict (verdict.Fails line claim) octets × Appends old new (fails_text line claim)
HasChecked octets (outcome.Unread fault.Memory) old new = Appends old new []
HasChecked octets (outcome.Unread f) old new = IsVerdict (verdict.Unread f) octets × Appends old new []
HasChecked octets outcome.WriteFault old new = (text : List ℕ) × IsLineOf octets text × AppendsFront old new text
