-- The claims that each run keeps, and of which of its events and lines.
use Rattle.std.specs.Prelude.{List, ℕ}
use Rattle.dc_base.specs.declared.events.Header.{Header}
use Rattle.transcript.specs.Transcript.{Entry}
use Rattle.claims.specs.Claim.{Claim, Each, of_entries, of_lines}
use Rattle.claims.specs.Names.{cause, claim, consequence, holder, keyed, on_link, one_use, placed, planned, protected}
use Rattle.claims.specs.Past.{new_past}
use Rattle.run_words.specs.Parts.{at_events, at_lines, is_loss_or_copy}
use Rattle.run_table.specs.Commands.{is_key_command}
use Rattle.run_table.specs.Orders.{is_order_line}
use Rattle.run_agreed.specs.BearerCauses.{is_bearer_command, is_master_report, submission_has_answer}
use Rattle.run_seconds.specs.Answers.{is_second_event, step_has_answer}
use Rattle.run_uplinks.specs.Answers.{terminal_is_answered, uplink_rises, uplinks_are_near}
use Rattle.run_senders.specs.Fitting.{is_record_or_ack}
use Rattle.run_senders.specs.Lines.{is_on_its_link}
use Rattle.run_relays.specs.Lines.{is_uplink_line}
use Rattle.run_placed.specs.Lines.{is_second_note_line, is_terminal_note_line}
use Rattle.run_holders.specs.Lines.{is_give_line, is_handing_line}

-- a claim holds of each entry of the transcript of a run with so many policies
abbrev pub Keeps : Claim → Header → ℕ → List Entry → Type 0
Keeps k h policies t = Each k (new_past h policies) t

-- what holds of each entry of a transcript, by the names of the claims:
-- each line after an answer is a note or a send (consequence);
-- each send is on one of the 22 links, and the link is of the class of its flight; each record is moreover between the ends that
-- such a record has (on_link, of records and acks);
-- each loss and each copy, each event that adds, changes or releases the secondary node or gives a new key, and each that sets up,
-- reshapes, drops or recovers a bearer, has the answer that it is due (cause);
-- a submission has the answer that is due by the last `freed` line of its direction: a downlink one by the bearers of the master,
-- an uplink one by those of the terminal; and so have the other events of the terminal, a report that is asked for there and the
-- failure of the secondary cell group;
-- so have the events of the secondary nodes: to be set to deny, which is always answered ok, and a request to the master, which is
-- refused where the node has not joined or another request of it is open (cause);
-- and so has a status report that is asked for at the master, which is refused where the bearer is not done or was dropped (cause);
-- a step is refused where no flight stands at its place, or the link keeps its order and the flight is not the first, and not
-- otherwise, but for the age of the flight;
-- the next COUNT of an uplink is at most a window past its last `freed` line, and each such line is past the one before;
-- each uplink data PDU protects the submission of its tag, under the key of its plan, whether the terminal sends it, a leg host relays it
-- or it is the copy of such a one; and one that is relayed was taken from the air so (protected);
-- each record that carries a plan carries the one that was drawn with its generation, or the empty plan of generation 0 (planned);
-- each that carries a key carries the octets of the one that its plan names: one that has the terminal reconfigure those of the root,
-- and one that asks a secondary node first those of the K_SN, that are current once the plan is carried out (keyed);
-- each plan that is carried out brings no key that another establishment of its identity uses, and the key of each uplink data PDU, sent by
-- the terminal, relayed or copied, is in use for its establishment and for no other (one_use, of these lines);
-- each note that the terminal has a bearer in a generation stands where it is given the plan that sets it, and first in that generation; each
-- that it has dropped one, where it is given a plan that drops it, and has it (placed, of these notes);
-- a secondary node joins where it was not there and is given an addition that it accepts, and leaves where it was and is given a release that
-- it accepts or the confirmation of a change or a release; what it asked for is confirmed or refused where it waits for that and is given
-- the record that says so (placed, of these notes);
-- each anchor that is frozen is that of the node that holds the bearer, and so is each that hands an uplink payload up (holder, of these
-- lines)
pub record KeepsClaims (h : Header) (policies : ℕ) (t : List Entry) : Type 0 where
  pub consequences : Keeps (claim consequence) h policies t
  pub on_links : Keeps (of_lines (λ p x. is_on_its_link x)) h policies t
  pub records : Keeps (at_lines is_record_or_ack (claim on_link)) h policies t
  pub losses : Keeps (at_events is_loss_or_copy (claim cause)) h policies t
  pub key_commands : Keeps (at_events is_key_command (claim cause)) h policies t
  pub bearer_commands : Keeps (at_events is_bearer_command (claim cause)) h policies t
  pub submissions : Keeps (of_entries (λ p x q. submission_has_answer p x.answer x.event)) h policies t
  pub at_terminal : Keeps (of_entries (λ p x q. terminal_is_answered p x)) h policies t
  pub at_seconds : Keeps (at_events is_second_event (claim cause)) h policies t
  pub master_reports : Keeps (at_events is_master_report (claim cause)) h policies t
  pub steps : Keeps (of_entries (λ p x q. step_has_answer p x)) h policies t
  pub uplink_windows : Keeps (of_entries (λ p x q. uplinks_are_near q)) h policies t
  pub uplink_freed : Keeps (of_lines uplink_rises) h policies t
  pub uplink_protected : Keeps (at_lines is_uplink_line (claim protected)) h policies t
  pub plans : Keeps (claim planned) h policies t
  pub keys : Keeps (claim keyed) h policies t
  pub order_uses : Keeps (at_lines is_order_line (claim one_use)) h policies t
  pub uplink_uses : Keeps (at_lines is_uplink_line (claim one_use)) h policies t
  pub terminal_notes : Keeps (at_lines is_terminal_note_line (claim placed)) h policies t
  pub second_notes : Keeps (at_lines is_second_note_line (claim placed)) h policies t
  pub gives : Keeps (at_lines is_give_line (claim holder)) h policies t
  pub hand_ups : Keeps (at_lines is_handing_line (claim holder)) h policies t
