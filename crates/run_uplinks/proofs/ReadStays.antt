-- What is read of the past stays at each line of the terminal, and so its sends protect their submissions.
use Rattle.std.proofs.Common.{ℕ, ◌≡◌, ◌==◌, true, List, [], ◌∷◌, Option, Some, None, refl, ap, ◌∙◌, inl, inr}
use Rattle.std.specs.Prelude.{map}
use Rattle.std.specs.List.{AllByRecursion}
use Rattle.std.proofs.lemmas.Bool.{cases_Bool}
use Rattle.dc_base.specs.declared.events.Line.{Line}
use Rattle.dc_base.specs.declared.events.Line.TheVariants as line
use Rattle.dc_base.specs.declared.events.Note.{Note}
use Rattle.dc_base.specs.declared.events.Note.TheVariants as note
use Rattle.dc_base.specs.declared.flights.Flight.{Flight}
use Rattle.dc_base.specs.declared.flights.Flight.TheVariants as flight
use Rattle.dc_base.specs.declared.nodes.Dir.TheVariants.{Dl, Ul}
use Rattle.dc_base.specs.declared.records.Rec.{Rec}
use Rattle.dc_base.specs.declared.records.Rec.TheVariants as rec
use Rattle.claims.specs.Claim.{EachLine}
use Rattle.claims.specs.Noted.{noted}
use Rattle.claims.specs.Past.{Past}
use Rattle.claims.specs.Protected.{is_protected}
use Rattle.node_rules.specs.Lines.{lines_of}
use Rattle.node_rules.specs.declared.inputs.Outcome.{Outcome}
use Rattle.run_words.proofs.Lines.{each_line_of}
use Rattle.run_uplinks.specs.Readings.{IsGood, Reading, face_of, reading}
use Rattle.run_uplinks.specs.Seen.{Seen, Uplink, changed_in, freed_to, named_in, on_latest, on_named, seen, set_to, setting_in, unset, with_flight, with_line, with_note}
use Rattle.run_uplinks.proofs.Lines.{IsOfTerminal, NoneBegins, lines_begin_none}
use Rattle.run_uplinks.proofs.Seeing.{noted_seen}

-- a change of which nothing is read
abbrev KeepsRead : (Uplink → Uplink) → Type 0
KeepsRead f = (u : Uplink) → face_of (f u) ≡ face_of u

latest_reads : (id : ℕ) (f : Uplink → Uplink) → KeepsRead f → (us : List Uplink) → map face_of (on_latest id f us) ≡ map face_of us
latest_reads id f same [] = refl
latest_reads id f same (u ∷ us) =
    elim (cases_Bool (u.id == id)) [
      | inl here ↦ rw here (ap (λ x. x ∷ map face_of us) (same u))
      | inr there ↦ rw there (ap (λ xs. face_of u ∷ xs) (latest_reads id f same us))
    ]

named_reads : (g : ℕ) (f : Uplink → Uplink) → KeepsRead f → (us : List Uplink) → map face_of (on_named g f us) ≡ map face_of us
named_reads g f same [] = refl
named_reads g f same (u ∷ us) =
    elim (cases_Bool (u.g == g)) [
      | inl here ↦ rw here (ap (λ x. x ∷ map face_of (on_named g f us)) (same u) ∙ ap (λ xs. face_of u ∷ xs) (named_reads g f same us))
      | inr there ↦ rw there (ap (λ xs. face_of u ∷ xs) (named_reads g f same us))
    ]

changed_reads : (f : Uplink → Uplink) → KeepsRead f → (us : List Uplink) (o : Option Uplink) → map face_of (changed_in f us o) ≡ map face_of us
changed_reads f same us None = refl
changed_reads f same us (Some u) = named_reads u.g f same us

with_faces : (s : Seen) (us : List Uplink) → map face_of us ≡ map face_of s.bearers → reading (record s { bearers = us }) ≡ reading s
with_faces s us same = ap (λ fs. record (reading s) { faces = fs }) same

pub note_reads : (s : Seen) (n : Note) → reading (with_note s n) ≡ reading s
note_reads s (note.Set id g) = with_faces s _ (changed_reads (set_to g) (λ u. refl) s.bearers (named_in id g (setting_in s.plans id g) s.bearers))
note_reads s (note.Unset id) = with_faces s _ (latest_reads id unset (λ u. refl) s.bearers)
note_reads s (note.Freed id Ul count) = with_faces s _ (latest_reads id (freed_to count) (λ u. refl) s.bearers)
note_reads s (note.Freed id Dl count) = refl
note_reads s (note.Begin w) = refl
note_reads s (note.Join x g) = refl
note_reads s (note.Leave x g) = refl
note_reads s (note.Give x id g) = refl
note_reads s (note.Own x id g) = refl
note_reads s (note.Up x id d count sdu) = refl
note_reads s (note.Confirmed x) = refl
note_reads s (note.Refused x w) = refl
note_reads s note.Done = refl
note_reads s note.Rejected = refl

line_reads : (s : Seen) (x : Line) → reading (with_line s x) ≡ reading s
line_reads s (line.Note n) = note_reads s n
line_reads s (line.Send l f) = refl
line_reads s (line.Event e) = refl
line_reads s (line.Answer a) = refl

-- ---- a flight that is taken

record_reads : (r : Rec) (s : Seen) → reading (with_flight (flight.Ctl r) s) ≡ reading s
record_reads (rec.Reconf q key) s = refl
record_reads (rec.Rcomp g) s = refl
record_reads (rec.Scgf failed) s = refl
record_reads (rec.Recov id) s = refl
record_reads (rec.Recovd id) s = refl
record_reads (rec.Addreq plan key) s = refl
record_reads (rec.Addack g) s = refl
record_reads (rec.Addrej g) s = refl
record_reads (rec.Modreq plan key) s = refl
record_reads (rec.Modack g) s = refl
record_reads (rec.Modrej g) s = refl
record_reads (rec.Recfg g) s = refl
record_reads (rec.Relreq plan) s = refl
record_reads (rec.Relack g) s = refl
record_reads (rec.Relrej g) s = refl
record_reads (rec.Uecr g) s = refl
record_reads (rec.Snst status) s = refl
record_reads (rec.Moved g id) s = refl
record_reads (rec.Scgn id g) s = refl
record_reads rec.Modrqd s = refl
record_reads (rec.Modcnf g) s = refl
record_reads (rec.Modref word) s = refl
record_reads rec.Chgrqd s = refl
record_reads (rec.Chgcnf plan) s = refl
record_reads (rec.Chgref word) s = refl
record_reads rec.Relrqd s = refl
record_reads (rec.Relcnf plan) s = refl

pub flight_reads : (f : Flight) (s : Seen) → reading (with_flight f s) ≡ reading s
flight_reads (flight.Ctl r) s = record_reads r s
flight_reads (flight.Air id g num tag pdu) s = refl
flight_reads (flight.Ack id g num) s = refl
flight_reads (flight.Tun tag packet) s = refl
flight_reads (flight.Sdu id g payload) s = refl
flight_reads (flight.End id g) s = refl
flight_reads (flight.Told id g count) s = refl

-- ---- lines

-- a line is protected by each past of which this is read
abbrev IsGoodLine : Reading → Line → Type 0
IsGoodLine r x = (p : Past) → reading (seen p) ≡ r → is_protected p x ≡ true

each_protected : (xs : List Line) (p : Past) (r : Reading) → reading (seen p) ≡ r → NoneBegins xs → AllByRecursion (IsGoodLine r) xs → EachLine is_protected p xs
each_protected [] p r same none all = tt
each_protected (x ∷ xs) p r same none all =
    (all.0 p same, each_protected xs (noted p x) r (ap reading (noted_seen p x none.0) ∙ line_reads (seen p) x ∙ same) none.1 all.1)

good_notes : (r : Reading) (ns : List Note) → AllByRecursion (λ n. IsGoodLine r (line.Note n)) ns
good_notes r [] = tt
good_notes r (n ∷ ns) = (λ p same. refl, good_notes r ns)

-- of an outcome of the terminal whose sends are good
pub lines_protected : (k : ℕ) (o : Outcome) (p : Past) (r : Reading) → reading (seen p) ≡ r → AllByRecursion (IsOfTerminal k) o.notes → AllByRecursion (IsGood r) o.sends → EachLine is_protected p (lines_of o)
lines_protected k o p r same notes good =
    each_protected (lines_of o) p r same (lines_begin_none k o notes) (each_line_of (IsGoodLine r) o (good_notes r o.notes) good)
