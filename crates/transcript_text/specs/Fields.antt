-- The fields of each line of a transcript.
use Rattle.std.specs.Prelude.{ℕ, if◌then◌else◌, List, [], ◌∷◌, codes, map}
use Rattle.std.specs.Fmt.{decimal}
use Rattle.hex.specs.Hex.{encode_lower}
use Rattle.dc_base.specs.declared.answers.Answer.{Answer}
use Rattle.dc_base.specs.declared.answers.Answer.TheVariants.{Ok, No}
use Rattle.dc_base.specs.declared.events.Note.{Note}
use Rattle.dc_base.specs.declared.events.Note.TheVariants as note
use Rattle.dc_base.specs.declared.events.Line.{Line}
use Rattle.dc_base.specs.declared.events.Line.TheVariants as line
use Rattle.dc_base.specs.declared.flights.Flight.{Flight}
use Rattle.dc_base.specs.declared.flights.Flight.TheVariants as flight
use Rattle.dc_base.specs.declared.records.Plan.{Plan}
use Rattle.dc_base.specs.declared.records.StatusTransfer.{StatusTransfer}
use Rattle.dc_base.specs.declared.records.Rec.{Rec}
use Rattle.dc_base.specs.declared.records.Rec.TheVariants as rec
use Rattle.transcript.specs.Words.{or_dash, octets_or_dash, dir_word, node_word, link_word, want_word, refusal_word, cause_word}
use Rattle.transcript.specs.Text.{item_text, pair_text}
use Rattle.script_text.specs.Scripts.{event_fields}
use Rattle.pdcp_pdu.specs.DataPdu.{is_data}
use Rattle.transcript_text.specs.declared.words.Mark.{Mark}
use Rattle.transcript_text.specs.declared.words.Mark.TheVariants as mark
use Rattle.transcript_text.specs.Words.{mark_word}

-- the fields of a plan
abbrev pub plan_fields : Plan → List (List ℕ)
plan_fields p = decimal p.g ∷ or_dash node_word p.sec ∷ map item_text p.items

-- the fields of SN STATUS TRANSFER after its name
abbrev pub status_fields : StatusTransfer → List (List ℕ)
status_fields s = decimal s.g ∷ decimal s.id ∷ decimal s.ul ∷ octets_or_dash s.bits ∷ decimal s.dl ∷ []

-- the fields of a record
abbrev pub rec_fields : Rec → List (List ℕ)
rec_fields (rec.Reconf plan key) = codes "reconf" ∷ plan_fields plan
rec_fields (rec.Rcomp g) = codes "rcomp" ∷ decimal g ∷ []
rec_fields (rec.Scgf failed) = codes "scgf" ∷ map pair_text failed
rec_fields (rec.Recov id) = codes "recov" ∷ decimal id ∷ []
rec_fields (rec.Recovd id) = codes "recovd" ∷ decimal id ∷ []
rec_fields (rec.Addreq plan key) = codes "addreq" ∷ plan_fields plan
rec_fields (rec.Addack g) = codes "addack" ∷ decimal g ∷ []
rec_fields (rec.Addrej g) = codes "addrej" ∷ decimal g ∷ []
rec_fields (rec.Modreq plan key) = codes "modreq" ∷ plan_fields plan
rec_fields (rec.Modack g) = codes "modack" ∷ decimal g ∷ []
rec_fields (rec.Modrej g) = codes "modrej" ∷ decimal g ∷ []
rec_fields (rec.Recfg g) = codes "recfg" ∷ decimal g ∷ []
rec_fields (rec.Relreq plan) = codes "relreq" ∷ plan_fields plan
rec_fields (rec.Relack g) = codes "relack" ∷ decimal g ∷ []
rec_fields (rec.Relrej g) = codes "relrej" ∷ decimal g ∷ []
rec_fields (rec.Uecr g) = codes "uecr" ∷ decimal g ∷ []
rec_fields (rec.Snst s) = codes "snst" ∷ status_fields s
rec_fields (rec.Moved g id) = codes "moved" ∷ decimal g ∷ decimal id ∷ []
rec_fields (rec.Scgn id g) = codes "scgn" ∷ pair_text (id, g) ∷ []
rec_fields rec.Modrqd = codes "modrqd" ∷ []
rec_fields (rec.Modcnf g) = codes "modcnf" ∷ decimal g ∷ []
rec_fields (rec.Modref word) = codes "modref" ∷ cause_word word ∷ []
rec_fields rec.Chgrqd = codes "chgrqd" ∷ []
rec_fields (rec.Chgcnf plan) = codes "chgcnf" ∷ plan_fields plan
rec_fields (rec.Chgref word) = codes "chgref" ∷ cause_word word ∷ []
rec_fields rec.Relrqd = codes "relrqd" ∷ []
rec_fields (rec.Relcnf plan) = codes "relcnf" ∷ plan_fields plan

-- the fields of a flight
abbrev pub flight_fields : Flight → List (List ℕ)
flight_fields (flight.Air id g num tag pdu) =
    if is_data pdu then codes "pdu" ∷ decimal id ∷ decimal g ∷ decimal num ∷ or_dash decimal tag ∷ encode_lower pdu ∷ []
    else codes "ctl" ∷ decimal id ∷ decimal g ∷ decimal num ∷ encode_lower pdu ∷ []
flight_fields (flight.Ack id g num) = codes "ack" ∷ decimal id ∷ decimal g ∷ decimal num ∷ []
flight_fields (flight.Tun tag packet) = codes "gtp" ∷ or_dash decimal tag ∷ encode_lower packet ∷ []
flight_fields (flight.Sdu id g sdu) = codes "sdu" ∷ decimal id ∷ decimal g ∷ encode_lower sdu ∷ []
flight_fields (flight.End id g) = codes "end" ∷ decimal id ∷ decimal g ∷ []
flight_fields (flight.Told id g count) = codes "told" ∷ decimal id ∷ decimal g ∷ decimal count ∷ []
flight_fields (flight.Ctl r) = rec_fields r

-- the fields of a consequence that is no send
abbrev pub note_fields : Note → List (List ℕ)
note_fields (note.Begin what) = codes "begin" ∷ want_word what ∷ []
note_fields (note.Join node g) = codes "join" ∷ node_word node ∷ decimal g ∷ []
note_fields (note.Leave node g) = codes "leave" ∷ node_word node ∷ decimal g ∷ []
note_fields (note.Give node id g) = codes "give" ∷ node_word node ∷ decimal id ∷ decimal g ∷ []
note_fields (note.Own node id g) = codes "own" ∷ node_word node ∷ decimal id ∷ decimal g ∷ []
note_fields (note.Set id g) = codes "set" ∷ decimal id ∷ decimal g ∷ []
note_fields (note.Unset id) = codes "unset" ∷ decimal id ∷ []
note_fields (note.Up node id dir count sdu) = codes "up" ∷ node_word node ∷ decimal id ∷ dir_word dir ∷ decimal count ∷ encode_lower sdu ∷ []
note_fields (note.Freed id dir count) = codes "freed" ∷ decimal id ∷ dir_word dir ∷ decimal count ∷ []
note_fields (note.Confirmed node) = codes "confirmed" ∷ node_word node ∷ []
note_fields (note.Refused node word) = codes "refused" ∷ node_word node ∷ cause_word word ∷ []
note_fields note.Done = codes "done" ∷ []
note_fields note.Rejected = codes "rejected" ∷ []

-- the fields of an answer
abbrev pub answer_fields : Answer → List (List ℕ)
answer_fields Ok = codes "ok" ∷ []
answer_fields (No why) = codes "no" ∷ refusal_word why ∷ []

-- the fields of a line after its mark
abbrev pub fields_after_mark : Line → List (List ℕ)
fields_after_mark (line.Event e) = event_fields e
fields_after_mark (line.Answer a) = answer_fields a
fields_after_mark (line.Note n) = note_fields n
fields_after_mark (line.Send l f) = codes "send" ∷ link_word l ∷ flight_fields f

-- what a line begins with
abbrev pub mark_of : Line → Mark
mark_of (line.Event e) = mark.Event
mark_of (line.Answer a) = mark.Answer
mark_of (line.Note n) = mark.Consequence
mark_of (line.Send l f) = mark.Consequence

-- all fields of a line
abbrev pub line_fields : Line → List (List ℕ)
line_fields l = mark_word (mark_of l) ∷ fields_after_mark l
