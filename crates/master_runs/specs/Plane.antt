-- The rules of the user plane (TS 38.323, 5.2): what a node does with a payload that is submitted to a bearer, and
-- with a flight that comes on its leg. Master and terminal have the same ones; the direction tells them apart.
use Rattle.std.specs.Prelude.{ℕ, ◌+◌, ◌-◌, ◌^◌, nat_lt, ◌==◌, ◌&&◌, if◌then◌else◌, List, [], ◌∷◌, ◌++◌, length, map, slice_get, Bool, false, Option, Some, None, Result, Ok, Err}
use Rattle.dc_base.specs.Count.{sn, count_for, window}
use Rattle.dc_base.specs.declared.nodes.Dir.{Dir}
use Rattle.dc_base.specs.declared.nodes.Dir.TheVariants.{Ul, Dl}
use Rattle.dc_base.specs.declared.nodes.LinkId.{LinkId}
use Rattle.dc_base.specs.declared.flights.Flight.{Flight}
use Rattle.dc_base.specs.declared.flights.Flight.TheVariants as flight
use Rattle.dc_base.specs.declared.answers.Answer.{Answer}
use Rattle.dc_base.specs.declared.answers.Answer.TheVariants as answer
use Rattle.dc_base.specs.declared.answers.Refusal.TheVariants.{NoBearer, Full, Exhausted}
use Rattle.dc_base.specs.declared.events.Header.{Header}
use Rattle.dc_base.specs.declared.events.Line.{Line}
use Rattle.dc_base.specs.declared.events.Line.TheVariants as line
use Rattle.dc_base.specs.declared.events.Note.TheVariants as note
use Rattle.nea2.specs.Combined.{combined}
use Rattle.nea2.specs.Keystream.{keystream}
use Rattle.key_chain.specs.KeyNames.{upenc}
use Rattle.pdcp_pdu.specs.DataPdu.{data_pdu}
use Rattle.pdcp_pdu.specs.Pdu.{Content, sdu, report, decoded}
use Rattle.pdcp_pdu.specs.StatusReport.{report_pdu}
use Rattle.pdcp_pdu.specs.declared.pdu.PduErr.{PduErr}
use Rattle.pdcp_rx.specs.Entries.{counts_of}
use Rattle.pdcp_rx.specs.Receiver.{put, handed_of}
use Rattle.pdcp_tx.specs.Sender.{Sender, low}
use Rattle.pdcp_tx.specs.Sending.{take_sdu as taken, confirm_count as confirmed, take_report as reported}
use Rattle.pdcp_tx.specs.declared.tx.TxErr.{TxErr}
use Rattle.pdcp_tx.specs.declared.tx.TxErr.TheVariants as refused
use Rattle.pdcp_pdu.specs.DataPdu.{is_data}
use Rattle.transcript.specs.Content.{air_link}
use Rattle.transcript.specs.Bearers.{Established, master_key}
use Rattle.transcript.specs.Claims.{receiver}
use Rattle.master_runs.specs.Entities.{Entities, Table, bearer_in, with_bearer}

-- an answer with the lines after it
abbrev pub Outcome : Type 0
Outcome = Answer × List Line

-- the leg on which PDUs of a direction travel
abbrev pub leg : Dir → LinkId
leg d = air_link d

-- the direction of what travels the other way
abbrev pub other : Dir → Dir
other Dl = Ul
other Ul = Dl

-- a payload under its COUNT, combined with the keystream of the master's key: ciphered, or deciphered again
abbrev pub ciphered : Header → ℕ → Dir → ℕ → List ℕ → List ℕ
ciphered h id d count text = combined text (keystream h.alg (upenc (h.root ∷ []) (master_key 0) h.alg) count id d (length text))

-- the data PDU of a submission with this COUNT, as this number of its leg
abbrev pub data_flight : Header → Established → Dir → ℕ → ℕ → List ℕ → Flight
data_flight h b d num count payload =
    flight.Air b.id b.g num (Some count) (data_pdu b.n (sn b.n count) (ciphered h b.id d count payload))

-- a submission is numbered, kept and sent, or refused
abbrev pub numbered_as : Header → Dir → Entities → List ℕ → Result (Sender × ℕ) TxErr → Entities × Outcome
numbered_as h d e payload (Ok (tx, count)) = (
  record e { tx = tx; sent = e.sent ++ Some count ∷ [] },
  (answer.Ok, line.Send (leg d) (data_flight h e.bearer d (length e.sent) count payload) ∷ []),
)
numbered_as h d e payload (Err refused.Exhausted) = (e, (answer.No Exhausted, []))
numbered_as h d e payload (Err _) = (e, (answer.No Full, []))

-- a bearer takes a submission, with the next COUNT of its sending entity
abbrev pub submitted_to : Header → Dir → Entities → List ℕ → Entities × Outcome
submitted_to h d e payload = numbered_as h d e payload (taken e.tx payload)

-- a payload is submitted to a bearer of the table, if it is one
abbrev pub submitted : Header → Dir → Table → ℕ → List ℕ → Option Entities → Table × Outcome
submitted h d table id payload None = (table, (answer.No NoBearer, []))
submitted h d table id payload (Some e) =
    let done = submitted_to h d e payload in (with_bearer table id (Some done.0), done.1)

-- a payload goes up, with its COUNT
abbrev pub up_line : ℕ → Dir → ℕ × List ℕ → Line
up_line id d u = line.Note (note.Up (receiver d) id d u.0 u.1)

-- the confirm of the PDU of this number, which came in direction d
abbrev pub ack_line : Established → Dir → ℕ → Line
ack_line b d num = line.Send (leg (other d)) (flight.Ack b.id b.g num)

-- a ciphered payload comes with its COUNT: it is deciphered and put in order; the last COUNT is not used
abbrev pub sdu_taken : Header → Dir → Entities → List ℕ → ℕ → Entities × List Line
sdu_taken h d e body count =
    if count == 2 ^ 32 - 1 then (e, []) else
    (let done = put e.rx count (ciphered h e.bearer.id d count body) in
    (record e { rx = done.0 }, map (up_line e.bearer.id d) (handed_of done.1)))

-- without a COUNT it is discarded
abbrev pub with_count : Header → Dir → Entities → List ℕ → Option ℕ → Entities × List Line
with_count h d e body None = (e, [])
with_count h d e body (Some count) = sdu_taken h d e body count

-- where the window of a direction begins, if that is further than before
abbrev pub freed_lines : ℕ → Dir → ℕ → ℕ → List Line
freed_lines id d before after = if nat_lt before after then line.Note (note.Freed id d after) ∷ [] else []

-- the bearer with what its sending entity becomes, which confirms PDUs of direction d
abbrev pub with_confirmed : Dir → Entities → Sender → Entities × List Line
with_confirmed d e tx = (record e { tx = tx }, freed_lines e.bearer.id d (low e.tx) (low tx))

-- what was read of a PDU that came in direction d gives: an SDU goes up in order, and a status report confirms what was
-- sent the other way; each is confirmed after what it gave, even where the SDU is discarded; nothing else is taken
abbrev pub pdu_taken : Header → Dir → Entities → ℕ → Result Content PduErr → Entities × List Line
pdu_taken h d e num (Ok (sdu shown body)) =
    let done = with_count h d e body (count_for e.bearer.n e.rx.deliv shown) in
    (done.0, done.1 ++ ack_line e.bearer d num ∷ [])
pdu_taken h d e num (Ok (report fmc bits)) =
    let done = with_confirmed (other d) e (reported e.tx fmc bits) in
    (done.0, done.1 ++ ack_line e.bearer d num ∷ [])
pdu_taken h d e num _ = (e, [])

-- the PDU of this number is confirmed to the master: only a data PDU has a COUNT
abbrev pub confirmed_at : Entities → Option (Option ℕ) → Entities × List Line
confirmed_at e (Some (Some count)) = with_confirmed Dl e (confirmed e.tx count)
confirmed_at e _ = (e, [])

-- an ack comes with what travels in direction d: it confirms downlink PDUs; in uplink status reports alone confirm
abbrev pub ack_taken : Dir → Entities → ℕ → Entities × List Line
ack_taken Ul e num = confirmed_at e (slice_get e.sent num)
ack_taken Dl e num = (e, [])

-- a flight of this bearer's own generation comes in direction d
abbrev pub flight_taken : Header → Dir → Entities → Flight → Entities × List Line
flight_taken h d e (flight.Air id g num tag pdu) = if g == e.bearer.g then pdu_taken h d e num (decoded e.bearer.n pdu) else (e, [])
flight_taken h d e (flight.Ack id g num) = if g == e.bearer.g then ack_taken d e num else (e, [])
flight_taken h d e _ = (e, [])

-- the node takes it for this bearer, if it has one
abbrev pub taken_for : Header → Dir → Table → ℕ → Flight → Option Entities → Table × List Line
taken_for h d table id f None = (table, [])
taken_for h d table id f (Some e) = let done = flight_taken h d e f in (with_bearer table id (Some done.0), done.1)

-- the identity that a flight on a leg names, 0 for any other flight
abbrev pub identity_of : Flight → ℕ
identity_of (flight.Air id g num tag pdu) = id
identity_of (flight.Ack id g num) = id
identity_of _ = 0

-- a node takes a flight from the leg of direction d
abbrev pub air_taken : Header → Dir → Table → Flight → Table × List Line
air_taken h d table f = taken_for h d table (identity_of f) f (bearer_in table (identity_of f))

-- whether the COUNT is more than a window behind what the entity handed up
abbrev pub is_behind : ℕ → ℕ → Option Entities → Bool
is_behind g count None = false
is_behind g count (Some e) = (e.bearer.g == g) && nat_lt (count + window e.bearer.n) e.rx.deliv

-- whether a flight is aged for the receiver with this table
abbrev pub is_aged : Table → Flight → Bool
is_aged table (flight.Air id g num (Some count) pdu) = is_data pdu && is_behind g count (bearer_in table id)
is_aged table _ = false

-- ---- reports and recoveries

-- the status report of the receiving entity, sent in direction d as the next PDU of its leg
abbrev pub report_flight : Entities → Flight
report_flight e = flight.Air e.bearer.id e.bearer.g (length e.sent) None (report_pdu e.rx.deliv (counts_of e.rx.stored))

-- a bearer sends one
abbrev pub reports : Dir → Entities → Entities × List Line
reports d e = (record e { sent = e.sent ++ None ∷ [] }, line.Send (leg d) (report_flight e) ∷ [])

-- these are sent again, the first as this number of the leg
abbrev pub resends : Header → Established → Dir → ℕ → List (ℕ × List ℕ) → List Line
resends h b d num [] = []
resends h b d num (x ∷ xs) = line.Send (leg d) (data_flight h b d num x.0 x.1) ∷ resends h b d (num + 1) xs

-- a bearer recovers (TS 38.323, 5.4.1 and 5.5): all that is kept is sent again, in ascending COUNT
abbrev pub recovers : Header → Dir → Entities → Entities × List Line
recovers h d e = (record e { sent = e.sent ++ map (λ x. Some x.0) e.tx.kept }, resends h e.bearer d (length e.sent) e.tx.kept)
