-- The lines that a transcript may have: each part is in its range.
use Rattle.std.specs.Prelude.{◌≢◌, ℕ, ◌≤◌, List, [], ◌∷◌, length, Option, Some, None, IsTrue}
use Rattle.hex.specs.Hex.{IsBytes}
use Rattle.dc_base.specs.declared.events.Note.{Note}
use Rattle.dc_base.specs.declared.events.Note.TheVariants as note
use Rattle.dc_base.specs.declared.events.Line.{Line}
use Rattle.dc_base.specs.declared.events.Line.TheVariants as line
use Rattle.dc_base.specs.declared.flights.Flight.{Flight}
use Rattle.dc_base.specs.declared.flights.Flight.TheVariants as flight
use Rattle.dc_base.specs.declared.nodes.KeyName.{KeyName}
use Rattle.dc_base.specs.declared.nodes.Side.{Side}
use Rattle.dc_base.specs.declared.nodes.Side.TheVariants.{Master, Second}
use Rattle.dc_base.specs.declared.records.Item.{Item}
use Rattle.dc_base.specs.declared.records.Item.TheVariants.{Set, Unset}
use Rattle.dc_base.specs.declared.records.Plan.{Plan}
use Rattle.dc_base.specs.declared.records.StatusTransfer.{StatusTransfer}
use Rattle.dc_base.specs.declared.records.Rec.{Rec}
use Rattle.dc_base.specs.declared.records.Rec.TheVariants as rec
use Rattle.dc_base.specs.Links.{is_link}
use Rattle.dc_base.specs.Nodes.{is_shape}
use Rattle.script_text.specs.Scripts.{IsScripted, IsIdentity}
use Rattle.transcript.specs.Text.{event_text}

-- a number of 32 bits
abbrev pub IsWord : ℕ → Type 0
IsWord n = n ≤ 4294967295

-- octets that stand as HEX: one or more
abbrev pub IsHex : List ℕ → Type 0
IsHex octets = (octets ≢ []) × IsBytes octets

-- a COUNT beside a flight, or none
abbrev pub IsTag : Option ℕ → Type 0
IsTag (Some count) = IsWord count
IsTag None = Unit {0}

-- whose key it is: an SN Counter has 16 bits
abbrev pub IsSide : Side → Type 0
IsSide Master = Unit {0}
IsSide (Second counter) = counter ≤ 65535

-- the name of a key
abbrev pub IsKey : KeyName → Type 0
IsKey key = IsWord key.root × IsSide key.side

-- an item of a plan
abbrev pub IsItem : Item → Type 0
IsItem (Set id n first shape threshold policy key old) =
    IsIdentity id × IsWord first × IsTrue (is_shape shape) × IsWord threshold × (policy ≤ 255) × IsKey key
IsItem (Unset id) = IsIdentity id

-- a bearer and a generation of it
abbrev pub IsPair : ℕ × ℕ → Type 0
IsPair p = IsIdentity p.0 × IsWord p.1

-- each value of a list is in its range
abbrev pub Every : {A : Type 0} → (A → Type 0) → List A → Type 0
Every P [] = Unit {0}
Every P (x ∷ xs) = P x × Every P xs

-- a plan
abbrev pub IsPlan : Plan → Type 0
IsPlan p = IsWord p.g × Every IsItem p.items

-- SN STATUS TRANSFER
abbrev pub IsStatus : StatusTransfer → Type 0
IsStatus s = IsWord s.g × IsIdentity s.id × IsWord s.ul × IsBytes s.bits × IsWord s.dl

-- a record
abbrev pub IsRecord : Rec → Type 0
IsRecord (rec.Reconf plan key) = IsPlan plan
IsRecord (rec.Rcomp g) = IsWord g
IsRecord (rec.Scgf failed) = Every IsPair failed
IsRecord (rec.Recov id) = IsIdentity id
IsRecord (rec.Recovd id) = IsIdentity id
IsRecord (rec.Addreq plan key) = IsPlan plan
IsRecord (rec.Addack g) = IsWord g
IsRecord (rec.Addrej g) = IsWord g
IsRecord (rec.Modreq plan key) = IsPlan plan
IsRecord (rec.Modack g) = IsWord g
IsRecord (rec.Modrej g) = IsWord g
IsRecord (rec.Recfg g) = IsWord g
IsRecord (rec.Relreq plan) = IsPlan plan
IsRecord (rec.Relack g) = IsWord g
IsRecord (rec.Relrej g) = IsWord g
IsRecord (rec.Uecr g) = IsWord g
IsRecord (rec.Snst status) = IsStatus status
IsRecord (rec.Moved g id) = IsWord g × IsIdentity id
IsRecord (rec.Scgn id g) = IsIdentity id × IsWord g
IsRecord rec.Modrqd = Unit {0}
IsRecord (rec.Modcnf g) = IsWord g
IsRecord (rec.Modref word) = Unit {0}
IsRecord rec.Chgrqd = Unit {0}
IsRecord (rec.Chgcnf plan) = IsPlan plan
IsRecord (rec.Chgref word) = Unit {0}
IsRecord rec.Relrqd = Unit {0}
IsRecord (rec.Relcnf plan) = IsPlan plan

-- what stands on a link
abbrev pub IsFlight : Flight → Type 0
IsFlight (flight.Air id g num tag pdu) = IsIdentity id × IsWord g × IsWord num × IsTag tag × IsHex pdu
IsFlight (flight.Ack id g num) = IsIdentity id × IsWord g × IsWord num
IsFlight (flight.Tun tag packet) = IsTag tag × IsHex packet
IsFlight (flight.Sdu id g sdu) = IsIdentity id × IsWord g × IsHex sdu
IsFlight (flight.End id g) = IsIdentity id × IsWord g
IsFlight (flight.Told id g count) = IsIdentity id × IsWord g × IsWord count
IsFlight (flight.Ctl r) = IsRecord r

-- a consequence that is no send
abbrev pub IsNote : Note → Type 0
IsNote (note.Begin what) = Unit {0}
IsNote (note.Join node g) = IsWord g
IsNote (note.Leave node g) = IsWord g
IsNote (note.Give node id g) = IsIdentity id × IsWord g
IsNote (note.Own node id g) = IsIdentity id × IsWord g
IsNote (note.Set id g) = IsIdentity id × IsWord g
IsNote (note.Unset id) = IsIdentity id
IsNote (note.Up node id dir count sdu) = IsIdentity id × IsWord count × IsHex sdu
IsNote (note.Freed id dir count) = IsIdentity id × IsWord count
IsNote (note.Confirmed node) = Unit {0}
IsNote (note.Refused node word) = Unit {0}
IsNote note.Done = Unit {0}
IsNote note.Rejected = Unit {0}

-- a line that a transcript may have; an event is one that a script may have, in a line of at most 20,000 octets
abbrev pub IsLine : Line → Type 0
IsLine (line.Event e) = IsScripted e × (length (event_text e) ≤ 20000)
IsLine (line.Answer a) = Unit {0}
IsLine (line.Note n) = IsNote n
IsLine (line.Send l f) = IsTrue (is_link l) × IsFlight f
