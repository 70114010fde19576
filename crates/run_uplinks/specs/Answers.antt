-- The answers to the events of the terminal, by what the past says.
use Rattle.std.specs.List.{list_all}
use Rattle.std.specs.Prelude.{Bool, None, Option, Some, [], nat_le, nat_lt, true, ◌+◌, ◌-◌, ◌==◌, ◌^◌, ◌∷◌}
use Rattle.dc_base.specs.Count.{window}
use Rattle.dc_base.specs.declared.answers.Answer.{Answer}
use Rattle.dc_base.specs.declared.answers.Answer.TheVariants as answer
use Rattle.dc_base.specs.declared.answers.Refusal.TheVariants as refusal
use Rattle.dc_base.specs.declared.events.Event.{Event}
use Rattle.dc_base.specs.declared.events.Event.TheVariants as event
use Rattle.dc_base.specs.declared.events.Line.{Line}
use Rattle.dc_base.specs.declared.events.Line.TheVariants as line
use Rattle.dc_base.specs.declared.events.Note.TheVariants as note
use Rattle.dc_base.specs.declared.nodes.Dir.TheVariants.{Ul}
use Rattle.dc_base.specs.declared.nodes.Node.TheVariants.{T}
use Rattle.transcript.specs.Transcript.{Entry}
use Rattle.claims.specs.Causes.{at_terminal, due, first_of_them}
use Rattle.claims.specs.Past.{Bearer, Past}
use Rattle.claims.specs.Reading.{latest, next_count}
use Rattle.claims.specs.Sameness.{is_same_answer, is_some_and}

-- to a bearer at the terminal a submission is answered ok, unless the next COUNT is a window past the last `freed` line, or is the
-- last one (TS 38.323, 5.2.1 and 7.1)
abbrev pub submission_due : Option Bearer → Answer
submission_due None = answer.No refusal.NoBearer
submission_due (Some b) =
    first_of_them ((nat_le (b.up.freed + window b.n) (next_count Ul b), refusal.Full) ∷ (next_count Ul b == 2 ^ 32 - 1, refusal.Exhausted) ∷ [])

-- an event of the terminal has the answer that it is due
abbrev pub is_answered : Past → Answer → Event → Bool
is_answered p a (event.Submit id Ul sdu) = is_same_answer a (submission_due (at_terminal p id))
is_answered p a (event.Report T id) = is_same_answer a (due p (event.Report T id))
is_answered p a event.ScgFail = is_same_answer a (due p event.ScgFail)
is_answered p a _ = true

-- of each bearer the next COUNT of the uplink is at most a window past its last `freed` line (TS 38.323, 5.2.1)
abbrev pub uplinks_are_near : Past → Bool
uplinks_are_near p = list_all (λ b. nat_le (next_count Ul b) (b.up.freed + window b.n)) p.bearers

-- a `freed` line of an uplink is past the one before
abbrev pub uplink_rises : Past → Line → Bool
uplink_rises p (line.Note (note.Freed id Ul count)) = is_some_and (λ b. nat_lt b.up.freed count) (latest p id)
uplink_rises p _ = true

-- of an entry
abbrev pub terminal_is_answered : Past → Entry → Bool
terminal_is_answered p x = is_answered p x.answer x.event
