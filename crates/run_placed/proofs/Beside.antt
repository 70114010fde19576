-- Lines that do not say what the terminal has of a bearer.
use Rattle.std.proofs.Common.{ℕ, ◌≡◌, Bool, true, false, List, [], ◌∷◌, Option, Some, None, refl, ap}
use Rattle.std.specs.Prelude.{if◌then◌else◌, ⊤}
use Rattle.std.specs.List.{AllByRecursion}
use Rattle.dc_base.specs.declared.events.Line.{Line}
use Rattle.dc_base.specs.declared.events.Line.TheVariants as line
use Rattle.dc_base.specs.declared.events.Note.{Note}
use Rattle.dc_base.specs.declared.events.Note.TheVariants as note
use Rattle.dc_base.specs.declared.flights.Flight.{Flight}
use Rattle.dc_base.specs.declared.flights.Flight.TheVariants as flight
use Rattle.dc_base.specs.declared.nodes.Class.{Class}
use Rattle.dc_base.specs.declared.nodes.Class.TheVariants.{Air, Ctl, Feed, Tun}
use Rattle.dc_base.specs.declared.nodes.Dir.TheVariants.{Dl}
use Rattle.dc_base.specs.declared.nodes.Node.{Node}
use Rattle.dc_base.specs.declared.nodes.Node.TheVariants.{T}
use Rattle.dc_base.specs.declared.records.Rec.{Rec}
use Rattle.dc_base.specs.declared.records.Rec.TheVariants as rec
use Rattle.transcript.proofs.OnEach.{each_append}
use Rattle.claims.specs.Claim.{EachLine}
use Rattle.claims.specs.Noted.{noted}
use Rattle.claims.specs.Past.{Past}
use Rattle.claims.specs.Placed.{is_placed}
use Rattle.node_rules.specs.Choices.{Choices, Send}
use Rattle.node_rules.specs.Effects.{accepted, quiet}
use Rattle.node_rules.specs.Flights.{Named, flight_named}
use Rattle.node_rules.specs.Held.{held}
use Rattle.node_rules.specs.Lines.{lines_of}
use Rattle.node_rules.specs.Master.{handed_up}
use Rattle.node_rules.specs.Terminal.{TerminalNode, air_taken, air_taken_by, recovered_half, terminal_control, terminal_record, terminal_takes, uplink_freed}
use Rattle.node_rules.specs.TerminalHalf.{TerminalHalf, terminal_air_in}
use Rattle.node_rules.specs.declared.inputs.Effects.{Effects}
use Rattle.node_rules.specs.declared.inputs.Outcome.{Outcome}
use Rattle.run_table.specs.Words.{orders}
use Rattle.run_words.proofs.Lines.{each_line_of}
use Rattle.run_uplinks.proofs.SecondNotes.{ArePlain, IsPlain}
use Rattle.run_placed.specs.Lines.{is_terminal_note_line}

-- the claim on the lines that say it
abbrev pub ArePlaced : Past → List Line → Type 0
ArePlaced p xs = EachLine (λ q x. if is_terminal_note_line x then is_placed q x else true) p xs

-- a line that does not
abbrev pub IsBeside : Line → Type 0
IsBeside x = is_terminal_note_line x ≡ false

pub beside_placed : (xs : List Line) (p : Past) → AllByRecursion IsBeside xs → ArePlaced p xs
beside_placed [] p none = tt
beside_placed (x ∷ xs) p none = (ap (λ b. if b then is_placed p x else true) none.0, beside_placed xs (noted p x) none.1)

-- notes that do not
abbrev pub NotesBeside : List Note → Type 0
NotesBeside ns = AllByRecursion (λ n. IsBeside (line.Note n)) ns

-- no send does
sends_beside : (ss : List Send) → AllByRecursion (λ (s : Send). IsBeside (line.Send s.0 s.1)) ss
sends_beside [] = tt
sends_beside (s ∷ ss) = (refl, sends_beside ss)

-- so of the lines of an outcome
pub outcome_beside : (o : Outcome) → NotesBeside o.notes → AllByRecursion IsBeside (lines_of o)
outcome_beside o notes = each_line_of IsBeside o notes (sends_beside o.sends)

pub outcome_placed : (o : Outcome) (p : Past) → NotesBeside o.notes → ArePlaced p (lines_of o)
outcome_placed o p notes = beside_placed (lines_of o) p (outcome_beside o notes)

-- ---- notes of other nodes

plain_beside : (n : Note) → IsPlain n → IsBeside (line.Note n)
plain_beside (note.Begin w) plain = refl
plain_beside (note.Join x g) plain = refl
plain_beside (note.Leave x g) plain = refl
plain_beside (note.Give x id g) plain = refl
plain_beside (note.Own x id g) plain = refl
plain_beside (note.Set id g) plain = absurd cc
plain_beside (note.Unset id) plain = absurd cc
plain_beside (note.Up x id d count sdu) plain = refl
plain_beside (note.Freed id d count) plain = refl
plain_beside (note.Confirmed x) plain = refl
plain_beside (note.Refused x w) plain = refl
plain_beside note.Done plain = refl
plain_beside note.Rejected plain = refl

pub all_beside : (ns : List Note) → ArePlain ns → NotesBeside ns
all_beside [] plain = tt
all_beside (n ∷ ns) plain = (plain_beside n plain.0, all_beside ns plain.1)

-- ---- notes of the terminal, where it takes no plan

ups_beside : (id : ℕ) (ups : List (ℕ × List ℕ)) → NotesBeside (handed_up T id Dl ups)
ups_beside id [] = tt
ups_beside id (u ∷ ups) = (refl, ups_beside id ups)

freed_beside : (id : ℕ) (o : Option ℕ) → NotesBeside (uplink_freed id o)
freed_beside id None = tt
freed_beside id (Some count) = (refl, tt)

air_by_beside : (t : TerminalNode) (from : Node) (f : Flight) (id : ℕ) (o : Option TerminalHalf) → NotesBeside (air_taken_by t from f id o).1.notes
air_by_beside t from f id None = tt
air_by_beside t from f id (Some h) =
    let done = terminal_air_in h from f in
    each_append (λ n. IsBeside (line.Note n)) (handed_up T id Dl done.1.ups) (uplink_freed id done.1.low) (ups_beside id done.1.ups) (freed_beside id done.1.low)

air_beside : (t : TerminalNode) (from : Node) (f : Flight) (o : Option Named) → NotesBeside (air_taken t from f o).1.notes
air_beside t from f None = tt
air_beside t from f (Some (id, g)) = air_by_beside t from f id (held id t.halves)

recovery_beside : (c : Choices) (t : TerminalNode) (id : ℕ) (o : Option TerminalHalf) → NotesBeside (recovered_half c t id o).1.notes
recovery_beside c t id None = tt
recovery_beside c t id (Some h) = tt

record_beside : (c : Choices) (t : TerminalNode) (r : Rec) → orders (flight.Ctl r) ≡ false → NotesBeside (terminal_record c t r).1.notes
record_beside c t (rec.Reconf q key) other = absurd cc
record_beside c t (rec.Recov id) other = recovery_beside c t id (held id t.halves)
record_beside c t (rec.Rcomp g) other = tt
record_beside c t (rec.Scgf failed) other = tt
record_beside c t (rec.Recovd id) other = tt
record_beside c t (rec.Addreq plan key) other = tt
record_beside c t (rec.Addack g) other = tt
record_beside c t (rec.Addrej g) other = tt
record_beside c t (rec.Modreq plan key) other = tt
record_beside c t (rec.Modack g) other = tt
record_beside c t (rec.Modrej g) other = tt
record_beside c t (rec.Recfg g) other = tt
record_beside c t (rec.Relreq plan) other = tt
record_beside c t (rec.Relack g) other = tt
record_beside c t (rec.Relrej g) other = tt
record_beside c t (rec.Uecr g) other = tt
record_beside c t (rec.Snst status) other = tt
record_beside c t (rec.Moved g id) other = tt
record_beside c t (rec.Scgn id g) other = tt
record_beside c t rec.Modrqd other = tt
record_beside c t (rec.Modcnf g) other = tt
record_beside c t (rec.Modref word) other = tt
record_beside c t rec.Chgrqd other = tt
record_beside c t (rec.Chgcnf plan) other = tt
record_beside c t (rec.Chgref word) other = tt
record_beside c t rec.Relrqd other = tt
record_beside c t (rec.Relcnf plan) other = tt

control_beside : (c : Choices) (t : TerminalNode) (f : Flight) → orders f ≡ false → NotesBeside (terminal_control c t f).1.notes
control_beside c t (flight.Ctl r) other = record_beside c t r other
control_beside c t (flight.Air id g num tag pdu) other = tt
control_beside c t (flight.Ack id g num) other = tt
control_beside c t (flight.Tun tag packet) other = tt
control_beside c t (flight.Sdu id g payload) other = tt
control_beside c t (flight.End id g) other = tt
control_beside c t (flight.Told id g count) other = tt

-- whatever it takes
pub takes_beside : (c : Choices) (t : TerminalNode) (from : Node) (f : Flight) (k : Class) → orders f ≡ false → NotesBeside (terminal_takes c t from f k).1.notes
takes_beside c t from f Ctl other = control_beside c t f other
takes_beside c t from f Feed other = tt
takes_beside c t from f Air other = air_beside t from f (flight_named f)
takes_beside c t from f Tun other = tt
