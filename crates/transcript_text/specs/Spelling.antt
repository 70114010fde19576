-- What is read of a line, and what its text does not show.
use Rattle.std.specs.Prelude.{◌≡◌, ℕ, Bool, true, false, List, [], ◌∷◌, ◌++◌, Option, None}
use Rattle.dc_base.specs.declared.events.Line.{Line}
use Rattle.dc_base.specs.declared.events.Line.TheVariants as line
use Rattle.dc_base.specs.declared.flights.Flight.{Flight}
use Rattle.dc_base.specs.declared.flights.Flight.TheVariants as flight
use Rattle.dc_base.specs.declared.records.Rec.{Rec}
use Rattle.dc_base.specs.declared.records.Rec.TheVariants as rec
use Rattle.pdcp_pdu.specs.DataPdu.{is_data}
use Rattle.transcript.specs.Text.{line_text, mark}
use Rattle.transcript_text.specs.Ranges.{IsLine}

-- 32 octets of 0
abbrev pub no_key : List ℕ
no_key = 0 ∷ 0 ∷ 0 ∷ 0 ∷ 0 ∷ 0 ∷ 0 ∷ 0 ∷ 0 ∷ 0 ∷ 0 ∷ 0 ∷ 0 ∷ 0 ∷ 0 ∷ 0 ∷ 0 ∷ 0 ∷ 0 ∷ 0 ∷ 0 ∷ 0 ∷ 0 ∷ 0 ∷ 0 ∷ 0 ∷ 0 ∷ 0 ∷ 0 ∷ 0 ∷ 0 ∷ 0 ∷ []

-- the octets of the key in a record, which stand in no text, are 0
abbrev pub HidesNoKey : Rec → Type 0
HidesNoKey (rec.Reconf plan key) = key ≡ no_key
HidesNoKey (rec.Addreq plan key) = key ≡ no_key
HidesNoKey (rec.Modreq plan key) = key ≡ no_key
HidesNoKey _ = Unit {0}

-- a control PDU has no COUNT beside it, since its text shows none
abbrev pub HidesNoTag : Bool → Option ℕ → Type 0
HidesNoTag true tag = Unit {0}
HidesNoTag false tag = tag ≡ None

-- what no text shows of a flight is not there
abbrev pub HidesNothing : Flight → Type 0
HidesNothing (flight.Air id g num tag pdu) = HidesNoTag (is_data pdu) tag
HidesNothing (flight.Ctl r) = HidesNoKey r
HidesNothing _ = Unit {0}

-- a line whose text shows all of it: its keys have octets 0, its control PDUs have no COUNT
abbrev pub IsShown : Line → Type 0
IsShown (line.Send l f) = HidesNothing f
IsShown _ = Unit {0}

-- the octets are the text of a line, without its end
abbrev pub IsTextOf : Line → List ℕ → Type 0
IsTextOf l octets = IsLine l × (octets ≡ mark l ++ line_text l)
