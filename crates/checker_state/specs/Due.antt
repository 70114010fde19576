-- Which of the answers to events are decided: all but whether a window is full, whether COUNTs are used up, whether a flight is
-- aged; and of policies the best case, since how many are handed in is in no text.
use Rattle.std.specs.Prelude.{Bool, false, if◌then◌else◌, true}
use Rattle.dc_base.specs.declared.answers.Answer.{Answer}
use Rattle.dc_base.specs.declared.answers.Answer.TheVariants as answer
use Rattle.dc_base.specs.declared.answers.Refusal.TheVariants as refusal
use Rattle.dc_base.specs.declared.events.Event.{Event}
use Rattle.dc_base.specs.declared.events.Event.TheVariants as event
use Rattle.transcript.specs.Transcript.{Entry}
use Rattle.claims.specs.Causes.{due}
use Rattle.claims.specs.Past.{Past}
use Rattle.claims.specs.Sameness.{is_same_answer}

-- the past with no policy where the answer says that there is none, and else with one of each number
abbrev pub with_policies : Answer → Past → Past
with_policies a p = record p { policies = if is_same_answer a (answer.No refusal.NoPolicy) then 0 else 256 }

-- an answer to a submission, but for whether there is room for it
abbrev pub without_room : Answer → Answer
without_room (answer.No refusal.Full) = answer.Ok
without_room (answer.No refusal.Exhausted) = answer.Ok
without_room a = a

-- an answer to a step, but for whether the flight is aged
abbrev pub without_age : Answer → Answer
without_age (answer.No refusal.Aged) = answer.Ok
without_age a = a

-- what is decided of an answer
abbrev pub decided_of : Event → Answer → Answer
decided_of (event.Submit id d sdu) a = without_room a
decided_of (event.Step l i) a = without_age a
decided_of e a = a

-- the answer that an event is due, as far as it is decided
abbrev pub decided_due : Answer → Past → Event → Answer
decided_due a p e = decided_of e (due (with_policies a p) e)

-- each event has the answer that it is due, as far as it is decided
abbrev pub has_decided_cause : Past → Entry → Bool
has_decided_cause p e = is_same_answer (decided_of e.event e.answer) (decided_due e.answer p e.event)

-- it is an event of a link: it names a flight that stands there
abbrev pub is_of_link : Event → Bool
is_of_link (event.Step l i) = true
is_of_link (event.Lose l i) = true
is_of_link (event.Again l i) = true
is_of_link _ = false
