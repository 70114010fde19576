-- The answer to a downlink submission, by what the past says.
use Rattle.std.specs.Prelude.{◌≡◌, ◌+◌, ◌-◌, ◌==◌, ◌^◌, ℕ, Bool, true, [], ◌∷◌, Option, Some, None, if◌then◌else◌, is_some, nat_le}
use Rattle.dc_base.specs.Count.{window}
use Rattle.dc_base.specs.declared.answers.Answer.{Answer}
use Rattle.dc_base.specs.declared.answers.Answer.TheVariants as answer
use Rattle.dc_base.specs.declared.answers.Refusal.TheVariants as refusal
use Rattle.dc_base.specs.declared.events.Event.{Event}
use Rattle.dc_base.specs.declared.events.Event.TheVariants as event
use Rattle.dc_base.specs.declared.nodes.Dir.TheVariants.{Dl}
use Rattle.transcript.specs.Transcript.{Entry}
use Rattle.claims.specs.Causes.{at_master, first_of_them}
use Rattle.claims.specs.Past.{Bearer, Past}
use Rattle.claims.specs.Reading.{latest, next_count}
use Rattle.claims.specs.Sameness.{is_same_answer}
use Rattle.node_rules.specs.CommandTable.{row}
use Rattle.node_rules.specs.Held.{held}
use Rattle.node_rules.specs.Master.{MasterNode}
use Rattle.run_windows.specs.Fits.{Fit}
use Rattle.run_windows.specs.Seen.{Seen}
use Rattle.run_windows.specs.Windows.{AreCounted, pending}

-- what is seen of the past is what the master holds
pub record IsSeen (s : Seen) (m : MasterNode) : Type 0 where
  pub fit : Fit s m.proc
  pub counted : AreCounted (pending m.proc.command) s.bearers m.windows
  pub there : (id : ℕ) → is_some (held id m.windows) ≡ is_some (row m.proc.table id)

-- to a bearer at the master a submission is answered ok, unless the next COUNT is a window past the last `freed` line, or is
-- the last one (TS 38.323, 5.2.1 and 7.1)
abbrev pub submission_due : Option Bearer → Answer
submission_due None = answer.No refusal.NoBearer
submission_due (Some b) =
    first_of_them ((nat_le (b.down.freed + window b.n) (next_count Dl b), refusal.Full) ∷ (next_count Dl b == 2 ^ 32 - 1, refusal.Exhausted) ∷ [])

-- of a bearer that is dropped nothing is said
abbrev pub unless_dropped : Option Bearer → Bool → Bool
unless_dropped None b = b
unless_dropped (Some x) b = if x.is_dropped then true else b

-- a downlink submission has the answer that it is due
abbrev pub is_answered : Past → Answer → Event → Bool
is_answered p a (event.Submit id Dl sdu) = unless_dropped (latest p id) (is_same_answer a (submission_due (at_master p id)))
is_answered p a _ = true

-- a downlink submission has the answer that is due, unless its bearer is dropped
abbrev pub submission_is_answered : Past → Entry → Bool
submission_is_answered p x = is_answered p x.answer x.event
