-- Which events are answered by what the past says of a secondary node, or by what stands on a link.
use Rattle.std.specs.Prelude.{Bool, false, true}
use Rattle.dc_base.specs.Nodes.{is_secondary}
use Rattle.dc_base.specs.declared.answers.Answer.{Answer}
use Rattle.dc_base.specs.declared.answers.Answer.TheVariants as answer
use Rattle.dc_base.specs.declared.answers.Refusal.TheVariants as refusal
use Rattle.dc_base.specs.declared.events.Event.{Event}
use Rattle.dc_base.specs.declared.events.Event.TheVariants as event
use Rattle.transcript.specs.Transcript.{Entry}
use Rattle.claims.specs.Causes.{due}
use Rattle.claims.specs.Past.{Past}
use Rattle.claims.specs.Sameness.{is_same_answer}

-- a secondary node is set to deny or not to, or asks the master for something
abbrev pub is_second_event : Event → Bool
is_second_event (event.Deny x on) = is_secondary x
is_second_event (event.Ask x w) = is_secondary x
is_second_event _ = false

-- an answer, where a flight that is taken from its link as aged counts as one that is given
abbrev pub but_for_age : Answer → Answer
but_for_age (answer.No refusal.Aged) = answer.Ok
but_for_age a = a

-- a step has the answer that it is due, but for whether its flight is aged
abbrev pub step_is_answered : Past → Answer → Event → Bool
step_is_answered p a (event.Step l i) = is_same_answer (but_for_age a) (but_for_age (due p (event.Step l i)))
step_is_answered p a _ = true

-- of an entry
abbrev pub step_has_answer : Past → Entry → Bool
step_has_answer p x = step_is_answered p x.answer x.event
