-- The fields of flights have no fault.
use Rattle.std.proofs.Common.{◌≡◌, ℕ, List, [], ◌∷◌, Bool, true, false, Option, refl}
use Rattle.std.specs.Prelude.{codes, if◌then◌else◌}
use Rattle.std.specs.Fmt.{decimal}
use Rattle.hex.specs.Hex.{encode_lower}
use Rattle.dc_base.specs.declared.flights.Flight.{Flight}
use Rattle.dc_base.specs.declared.flights.Flight.TheVariants as flight
use Rattle.pdcp_pdu.specs.DataPdu.{is_data}
use Rattle.transcript.specs.Words.{spaced, or_dash}
use Rattle.transcript.specs.Text.{flight_text}
use Rattle.transcript_text.specs.Ranges.{IsFlight}
use Rattle.transcript_text.specs.Words.{carried_word}
use Rattle.transcript_text.specs.declared.words.Carried.TheVariants as carried
use Rattle.transcript_text.specs.Fields.{flight_fields}
use Rattle.transcript_text.specs.Grammar.{Octets, Pdu, Tag, AfterCarried, identity, word_32}
use Rattle.transcript_text.proofs.Beginning.{Begins, begins, id_of, word_of}
use Rattle.transcript_text.proofs.RecordFields.{record_begins, spaced-rec_fields}

-- the fields of a PDU, which is data or control
abbrev pdu_fields : ℕ → ℕ → ℕ → Option ℕ → List ℕ → Bool → List (List ℕ)
pdu_fields id g num tag pdu b =
    if b then codes "pdu" ∷ decimal id ∷ decimal g ∷ decimal num ∷ or_dash decimal tag ∷ encode_lower pdu ∷ []
    else codes "ctl" ∷ decimal id ∷ decimal g ∷ decimal num ∷ encode_lower pdu ∷ []

pdu_begins : (id g num : ℕ) (tag : Option ℕ) (pdu : List ℕ) → IsFlight (flight.Air id g num tag pdu) → (b : Bool) → is_data pdu ≡ b
    → Begins carried_word AfterCarried (pdu_fields id g num tag pdu b)
pdu_begins id g num tag pdu h true e =
    begins carried_word AfterCarried carried.Data (identity ∷ word_32 ∷ word_32 ∷ Tag ∷ Pdu true ∷ [])
    (decimal id ∷ decimal g ∷ decimal num ∷ or_dash decimal tag ∷ encode_lower pdu ∷ []) refl
    (id_of id h.0, (word_of g h.1, (word_of num h.2, ((tag, h.3, refl), ((pdu, (h.4, e), refl), tt))))) (λ at c bad. bad)
pdu_begins id g num tag pdu h false e =
    begins carried_word AfterCarried carried.Control (identity ∷ word_32 ∷ word_32 ∷ Pdu false ∷ [])
    (decimal id ∷ decimal g ∷ decimal num ∷ encode_lower pdu ∷ []) refl
    (id_of id h.0, (word_of g h.1, (word_of num h.2, ((pdu, (h.4, e), refl), tt)))) (λ at c bad. bad)

-- the fields of a flight begin with its word
pub flight_begins : (f : Flight) → IsFlight f → Begins carried_word AfterCarried (flight_fields f)
flight_begins (flight.Air id g num tag pdu) h = pdu_begins id g num tag pdu h (is_data pdu) refl
flight_begins (flight.Ack id g num) h =
    begins carried_word AfterCarried carried.Ack (identity ∷ word_32 ∷ word_32 ∷ []) (decimal id ∷ decimal g ∷ decimal num ∷ []) refl
    (id_of id h.0, (word_of g h.1, (word_of num h.2, tt))) (λ at c bad. bad)
flight_begins (flight.Tun tag packet) h =
    begins carried_word AfterCarried carried.Packet (Tag ∷ Octets ∷ []) (or_dash decimal tag ∷ encode_lower packet ∷ []) refl
    ((tag, h.0, refl), ((packet, h.1, refl), tt)) (λ at c bad. bad)
flight_begins (flight.Sdu id g sdu) h =
    begins carried_word AfterCarried carried.Sdu (identity ∷ word_32 ∷ Octets ∷ []) (decimal id ∷ decimal g ∷ encode_lower sdu ∷ []) refl
    (id_of id h.0, (word_of g h.1, ((sdu, h.2, refl), tt))) (λ at c bad. bad)
flight_begins (flight.End id g) h =
    begins carried_word AfterCarried carried.End (identity ∷ word_32 ∷ []) (decimal id ∷ decimal g ∷ []) refl
    (id_of id h.0, (word_of g h.1, tt)) (λ at c bad. bad)
flight_begins (flight.Told id g count) h =
    begins carried_word AfterCarried carried.Told (identity ∷ word_32 ∷ word_32 ∷ []) (decimal id ∷ decimal g ∷ decimal count ∷ []) refl
    (id_of id h.0, (word_of g h.1, (word_of count h.2, tt))) (λ at c bad. bad)
flight_begins (flight.Ctl r) h = record_begins r h

spaced_if : (b : Bool) (x y : List (List ℕ)) → spaced (if b then x else y) ≡ (if b then spaced x else spaced y)
spaced_if true x y = refl
spaced_if false x y = refl

-- and make its text
pub spaced-flight_fields : (f : Flight) → spaced (flight_fields f) ≡ flight_text f
spaced-flight_fields (flight.Air id g num tag pdu) =
    spaced_if (is_data pdu) (codes "pdu" ∷ decimal id ∷ decimal g ∷ decimal num ∷ or_dash decimal tag ∷ encode_lower pdu ∷ [])
    (codes "ctl" ∷ decimal id ∷ decimal g ∷ decimal num ∷ encode_lower pdu ∷ [])
spaced-flight_fields (flight.Ack id g num) = refl
spaced-flight_fields (flight.Tun tag packet) = refl
spaced-flight_fields (flight.Sdu id g sdu) = refl
spaced-flight_fields (flight.End id g) = refl
spaced-flight_fields (flight.Told id g count) = refl
spaced-flight_fields (flight.Ctl r) = spaced-rec_fields r
