-- The text of each line of a script and of a transcript.
use Rattle.std.specs.Prelude.{ℕ, nat_le, if◌then◌else◌, Bool, false, List, [], ◌∷◌, ◌++◌, codes, map}
use Rattle.std.specs.Fmt.{decimal}
use Rattle.std.specs.List.{join_with_byte, flat_map}
use Rattle.hex.specs.Hex.{encode_lower}
use Rattle.dc_base.specs.declared.answers.Answer.{Answer}
use Rattle.dc_base.specs.declared.answers.Answer.TheVariants.{Ok, No}
use Rattle.dc_base.specs.declared.events.Header.{Header}
use Rattle.dc_base.specs.declared.events.Event.{Event}
use Rattle.dc_base.specs.declared.events.Event.TheVariants as event
use Rattle.dc_base.specs.declared.events.Note.{Note}
use Rattle.dc_base.specs.declared.events.Note.TheVariants as note
use Rattle.dc_base.specs.declared.events.Line.{Line}
use Rattle.dc_base.specs.declared.events.Line.TheVariants as line
use Rattle.dc_base.specs.declared.flights.Flight.{Flight}
use Rattle.dc_base.specs.declared.flights.Flight.TheVariants as flight
use Rattle.dc_base.specs.declared.records.Item.{Item}
use Rattle.dc_base.specs.declared.records.Item.TheVariants.{Set, Unset}
use Rattle.dc_base.specs.declared.records.Plan.{Plan}
use Rattle.dc_base.specs.declared.records.Rec.{Rec}
use Rattle.dc_base.specs.declared.records.Rec.TheVariants as rec
use Rattle.transcript.specs.Words.{spaced, or_dash, octets_or_dash, dir_word, node_word, alg_word, sn_word, link_word, shape_word, key_word, want_word, state_word, refusal_word, cause_word}
use Rattle.pdcp_pdu.specs.DataPdu.{is_data}

-- the first line of a script and of a transcript
abbrev pub header_text : Header → List ℕ
header_text h = spaced (codes "dcs1" ∷ alg_word h.alg ∷ decimal h.used ∷ encode_lower h.root ∷ [])

-- an event as a script has it
abbrev pub event_text : Event → List ℕ
event_text (event.Bearer id n first shape threshold policy) =
    spaced (codes "bearer" ∷ decimal id ∷ sn_word n ∷ decimal first ∷ shape_word shape ∷ decimal threshold ∷ decimal policy ∷ [])
event_text (event.Reshape id shape) = spaced (codes "shape" ∷ decimal id ∷ shape_word shape ∷ [])
event_text (event.Remove id) = spaced (codes "drop" ∷ decimal id ∷ [])
event_text (event.Add node) = spaced (codes "add" ∷ node_word node ∷ [])
event_text event.Change = codes "change"
event_text event.Release = codes "release"
event_text event.RekeySecond = codes "rekey s"
event_text (event.RekeyMaster root) = spaced (codes "rekey" ∷ codes "m" ∷ encode_lower root ∷ [])
event_text (event.Recover id) = spaced (codes "recover" ∷ decimal id ∷ [])
event_text (event.Report node id) = spaced (codes "report" ∷ node_word node ∷ decimal id ∷ [])
event_text (event.Deny node on) = spaced (codes "deny" ∷ node_word node ∷ state_word on ∷ [])
event_text (event.Ask node what) = spaced (codes "want" ∷ node_word node ∷ want_word what ∷ [])
event_text event.ScgFail = codes "scgfail"
event_text (event.Submit id dir sdu) = spaced (dir_word dir ∷ decimal id ∷ encode_lower sdu ∷ [])
event_text (event.Step link index) = spaced (codes "step" ∷ link_word link ∷ decimal index ∷ [])
event_text (event.Lose link index) = spaced (codes "lose" ∷ link_word link ∷ decimal index ∷ [])
event_text (event.Again link index) = spaced (codes "again" ∷ link_word link ∷ decimal index ∷ [])

-- an item of a plan: ID/SN/FIRST/SHAPE/THR/POL/KEY/OLD, or -ID for a drop
abbrev pub item_text : Item → List ℕ
item_text (Set id n first shape threshold policy key old) =
    join_with_byte 47 (decimal id ∷ sn_word n ∷ decimal first ∷ shape_word shape ∷ decimal threshold ∷ decimal policy ∷ key_word key ∷ or_dash node_word old ∷ [])
item_text (Unset id) = codes "-" ++ decimal id

-- a plan: its generation, the secondary after it, its items
abbrev pub plan_text : Plan → List ℕ
plan_text p = spaced (decimal p.g ∷ or_dash node_word p.sec ∷ map item_text p.items)

-- a bearer and a generation of it
abbrev pub pair_text : ℕ × ℕ → List ℕ
pair_text p = decimal p.0 ++ codes "/" ++ decimal p.1

-- a record
abbrev pub rec_text : Rec → List ℕ
rec_text (rec.Reconf plan key) = spaced (codes "reconf" ∷ plan_text plan ∷ [])
rec_text (rec.Rcomp g) = spaced (codes "rcomp" ∷ decimal g ∷ [])
rec_text (rec.Scgf failed) = spaced (codes "scgf" ∷ map pair_text failed)
rec_text (rec.Recov id) = spaced (codes "recov" ∷ decimal id ∷ [])
rec_text (rec.Recovd id) = spaced (codes "recovd" ∷ decimal id ∷ [])
rec_text (rec.Addreq plan key) = spaced (codes "addreq" ∷ plan_text plan ∷ [])
rec_text (rec.Addack g) = spaced (codes "addack" ∷ decimal g ∷ [])
rec_text (rec.Addrej g) = spaced (codes "addrej" ∷ decimal g ∷ [])
rec_text (rec.Modreq plan key) = spaced (codes "modreq" ∷ plan_text plan ∷ [])
rec_text (rec.Modack g) = spaced (codes "modack" ∷ decimal g ∷ [])
rec_text (rec.Modrej g) = spaced (codes "modrej" ∷ decimal g ∷ [])
rec_text (rec.Recfg g) = spaced (codes "recfg" ∷ decimal g ∷ [])
rec_text (rec.Relreq plan) = spaced (codes "relreq" ∷ plan_text plan ∷ [])
rec_text (rec.Relack g) = spaced (codes "relack" ∷ decimal g ∷ [])
rec_text (rec.Relrej g) = spaced (codes "relrej" ∷ decimal g ∷ [])
rec_text (rec.Uecr g) = spaced (codes "uecr" ∷ decimal g ∷ [])
rec_text (rec.Snst s) = spaced (codes "snst" ∷ decimal s.g ∷ decimal s.id ∷ decimal s.ul ∷ octets_or_dash s.bits ∷ decimal s.dl ∷ [])
rec_text (rec.Moved g id) = spaced (codes "moved" ∷ decimal g ∷ decimal id ∷ [])
rec_text (rec.Scgn id g) = spaced (codes "scgn" ∷ pair_text (id, g) ∷ [])
rec_text rec.Modrqd = codes "modrqd"
rec_text (rec.Modcnf g) = spaced (codes "modcnf" ∷ decimal g ∷ [])
rec_text (rec.Modref word) = spaced (codes "modref" ∷ cause_word word ∷ [])
rec_text rec.Chgrqd = codes "chgrqd"
rec_text (rec.Chgcnf plan) = spaced (codes "chgcnf" ∷ plan_text plan ∷ [])
rec_text (rec.Chgref word) = spaced (codes "chgref" ∷ cause_word word ∷ [])
rec_text rec.Relrqd = codes "relrqd"
rec_text (rec.Relcnf plan) = spaced (codes "relcnf" ∷ plan_text plan ∷ [])

-- what stands on a link
abbrev pub flight_text : Flight → List ℕ
flight_text (flight.Air id g num tag pdu) =
    if is_data pdu then spaced (codes "pdu" ∷ decimal id ∷ decimal g ∷ decimal num ∷ or_dash decimal tag ∷ encode_lower pdu ∷ [])
    else spaced (codes "ctl" ∷ decimal id ∷ decimal g ∷ decimal num ∷ encode_lower pdu ∷ [])
flight_text (flight.Ack id g num) = spaced (codes "ack" ∷ decimal id ∷ decimal g ∷ decimal num ∷ [])
flight_text (flight.Tun tag packet) = spaced (codes "gtp" ∷ or_dash decimal tag ∷ encode_lower packet ∷ [])
flight_text (flight.Sdu id g sdu) = spaced (codes "sdu" ∷ decimal id ∷ decimal g ∷ encode_lower sdu ∷ [])
flight_text (flight.End id g) = spaced (codes "end" ∷ decimal id ∷ decimal g ∷ [])
flight_text (flight.Told id g count) = spaced (codes "told" ∷ decimal id ∷ decimal g ∷ decimal count ∷ [])
flight_text (flight.Ctl r) = rec_text r

-- a consequence that is no send
abbrev pub note_text : Note → List ℕ
note_text (note.Begin what) = spaced (codes "begin" ∷ want_word what ∷ [])
note_text (note.Join node g) = spaced (codes "join" ∷ node_word node ∷ decimal g ∷ [])
note_text (note.Leave node g) = spaced (codes "leave" ∷ node_word node ∷ decimal g ∷ [])
note_text (note.Give node id g) = spaced (codes "give" ∷ node_word node ∷ decimal id ∷ decimal g ∷ [])
note_text (note.Own node id g) = spaced (codes "own" ∷ node_word node ∷ decimal id ∷ decimal g ∷ [])
note_text (note.Set id g) = spaced (codes "set" ∷ decimal id ∷ decimal g ∷ [])
note_text (note.Unset id) = spaced (codes "unset" ∷ decimal id ∷ [])
note_text (note.Up node id dir count sdu) = spaced (codes "up" ∷ node_word node ∷ decimal id ∷ dir_word dir ∷ decimal count ∷ encode_lower sdu ∷ [])
note_text (note.Freed id dir count) = spaced (codes "freed" ∷ decimal id ∷ dir_word dir ∷ decimal count ∷ [])
note_text (note.Confirmed node) = spaced (codes "confirmed" ∷ node_word node ∷ [])
note_text (note.Refused node word) = spaced (codes "refused" ∷ node_word node ∷ cause_word word ∷ [])
note_text note.Done = codes "done"
note_text note.Rejected = codes "rejected"

-- the answer to an event: ok, or no and why
abbrev pub answer_text : Answer → List ℕ
answer_text Ok = codes "ok"
answer_text (No why) = spaced (codes "no" ∷ refusal_word why ∷ [])

-- a line of a transcript, without its end; an event is led by its mark in a transcript, and has none in a script
abbrev pub line_text : Line → List ℕ
line_text (line.Event e) = event_text e
line_text (line.Answer a) = codes "= " ++ answer_text a
line_text (line.Note n) = codes "- " ++ note_text n
line_text (line.Send l f) = codes "- send " ++ spaced (link_word l ∷ flight_text f ∷ [])

-- what leads an event's line in a transcript; the other lines have their marks in their own text
abbrev pub mark : Line → List ℕ
mark (line.Event e) = codes "> "
mark _ = []

-- a text as a line: each ends with LF
abbrev pub ended : List ℕ → List ℕ
ended text = text ++ 10 ∷ []

-- the text of a list of lines
abbrev pub lines_text : List Line → List ℕ
lines_text lines = flat_map (λ l. ended (mark l ++ line_text l)) lines
