-- The answers to commands on bearers, and to downlink submissions.
use Rattle.std.specs.Prelude.{Bool, false, true}
use Rattle.dc_base.specs.declared.answers.Answer.{Answer}
use Rattle.dc_base.specs.declared.events.Event.{Event}
use Rattle.dc_base.specs.declared.events.Event.TheVariants as event
use Rattle.dc_base.specs.declared.nodes.Dir.TheVariants.{Dl}
use Rattle.dc_base.specs.declared.nodes.Node.TheVariants.{M}
use Rattle.claims.specs.Causes.{at_master}
use Rattle.claims.specs.Past.{Past}
use Rattle.claims.specs.Sameness.{is_same_answer}
use Rattle.run_windows.specs.Answers.{submission_due}

-- the event sets up, changes, drops or recovers a bearer
abbrev pub is_bearer_command : Event → Bool
is_bearer_command (event.Bearer id n first shape threshold policy) = true
is_bearer_command (event.Reshape id shape) = true
is_bearer_command (event.Remove id) = true
is_bearer_command (event.Recover id) = true
is_bearer_command _ = false

-- a downlink submission has the answer that is due, whatever became of its bearer
abbrev pub submission_has_answer : Past → Answer → Event → Bool
submission_has_answer p a (event.Submit id Dl sdu) = is_same_answer a (submission_due (at_master p id))
submission_has_answer p a _ = true

-- a status report is asked for at the master
abbrev pub is_master_report : Event → Bool
is_master_report (event.Report M id) = true
is_master_report _ = false
