-- The claim that no key protects two establishments, of its parts: plans that are carried out, uplink and downlink data PDUs.
use Rattle.std.proofs.Common.{◌≡◌, ◌&&◌, ◌||◌, Bool, true, false, List, [], ◌∷◌, Option, Some, None, refl}
use Rattle.std.specs.Prelude.{if◌then◌else◌, is_none, not}
use Rattle.dc_base.specs.Nodes.{is_same_node}
use Rattle.dc_base.specs.declared.events.Line.{Line}
use Rattle.dc_base.specs.declared.events.Line.TheVariants as line
use Rattle.dc_base.specs.declared.flights.Flight.TheVariants as flight
use Rattle.dc_base.specs.declared.nodes.LinkId.{LinkId}
use Rattle.dc_base.specs.declared.nodes.Node.TheVariants.{T}
use Rattle.dc_base.specs.declared.records.Rec.{Rec}
use Rattle.dc_base.specs.declared.records.Rec.TheVariants as rec
use Rattle.transcript.specs.Transcript.{Entry}
use Rattle.claims.specs.Claim.{Each, EachLine}
use Rattle.claims.specs.Judged.{judged}
use Rattle.claims.specs.Names as claims
use Rattle.claims.specs.Names.{claim}
use Rattle.claims.specs.Noted.{after, noted}
use Rattle.claims.specs.OneUse.{is_one_use, uses_once}
use Rattle.claims.specs.Packets.{packet_of}
use Rattle.claims.specs.Past.{Past}
use Rattle.claims.specs.Reading.{bearer_of, setting}
use Rattle.claims.specs.Sameness.{is_none_or, is_some_and}
use Rattle.claims.specs.Views.{Pdu, if_data, pdu_in}
use Rattle.run_table.specs.Orders.{is_order_line}
use Rattle.run_words.specs.Parts.{at_lines}
use Rattle.run_relays.specs.Lines.{is_uplink_line}
use Rattle.run_keys.specs.Downlink.{is_downlink_line}

-- a test of these lines alone
abbrev Of : (Line → Bool) → Past → Line → Bool
Of these p x = if these x then is_one_use p x else true

record_whole : (p : Past) (l : LinkId) (r : Rec) → Of is_order_line p (line.Send l (flight.Ctl r)) ≡ true → is_one_use p (line.Send l (flight.Ctl r)) ≡ true
record_whole p l (rec.Reconf q key) order = order
record_whole p l (rec.Rcomp g) order = refl
record_whole p l (rec.Scgf x) order = refl
record_whole p l (rec.Recov id) order = refl
record_whole p l (rec.Recovd id) order = refl
record_whole p l (rec.Addreq q key) order = refl
record_whole p l (rec.Modreq q key) order = refl
record_whole p l (rec.Addack g) order = refl
record_whole p l (rec.Addrej g) order = refl
record_whole p l (rec.Modack g) order = refl
record_whole p l (rec.Modrej g) order = refl
record_whole p l (rec.Recfg g) order = refl
record_whole p l (rec.Relreq q) order = refl
record_whole p l (rec.Relack g) order = refl
record_whole p l (rec.Relrej g) order = refl
record_whole p l (rec.Uecr g) order = refl
record_whole p l (rec.Snst st) order = refl
record_whole p l (rec.Moved g id) order = refl
record_whole p l (rec.Scgn id g) order = refl
record_whole p l rec.Modrqd order = refl
record_whole p l (rec.Modcnf g) order = refl
record_whole p l (rec.Modref w) order = refl
record_whole p l rec.Chgrqd order = refl
record_whole p l (rec.Chgcnf q) order = refl
record_whole p l (rec.Chgref w) order = refl
record_whole p l rec.Relrqd order = refl
record_whole p l (rec.Relcnf q) order = refl

-- what is so of a PDU in either direction is so of it
one_way : (up x : Bool) → (if up then x else true) ≡ true → (if not up then x else true) ≡ true → x ≡ true
one_way true x is there = is
one_way false x is there = there

pdu_whole : (p : Past) (l : LinkId) (o : Option Pdu) → let x = is_none_or (λ (u : Pdu). uses_once p (setting p u.id u.g) (bearer_of p u.id u.g)) (if_data o) && true in
    (if is_some_and (λ (u : Pdu). is_same_node l.from T || is_none u.num) o then x else true) ≡ true → (if is_some_and (λ (u : Pdu). not (is_same_node l.from T || is_none u.num)) o then x else true) ≡ true → x ≡ true
pdu_whole p l None up down = refl
pdu_whole p l (Some u) up down = one_way (is_same_node l.from T || is_none u.num) _ up down

line_whole : (p : Past) (x : Line) → Of is_order_line p x ≡ true → Of is_uplink_line p x ≡ true → Of is_downlink_line p x ≡ true → is_one_use p x ≡ true
line_whole p (line.Note n) order up down = refl
line_whole p (line.Event e) order up down = refl
line_whole p (line.Answer a) order up down = refl
line_whole p (line.Send l (flight.Ctl r)) order up down = record_whole p l r order
line_whole p (line.Send l (flight.Air id g num tag pdu)) order up down =
    pdu_whole p l (Some (record { id = id; g = g; num = Some num; is_repeat = false; tag = tag; octets = pdu })) up down
line_whole p (line.Send l (flight.Tun tag packet)) order up down = pdu_whole p l (pdu_in tag (packet_of packet)) up down
line_whole p (line.Send l (flight.Ack id g num)) order up down = refl
line_whole p (line.Send l (flight.Sdu id g sdu)) order up down = refl
line_whole p (line.Send l (flight.End id g)) order up down = refl
line_whole p (line.Send l (flight.Told id g count)) order up down = refl

lines_whole : (xs : List Line) (p : Past) → EachLine (Of is_order_line) p xs → EachLine (Of is_uplink_line) p xs → EachLine (Of is_downlink_line) p xs → EachLine is_one_use p xs
lines_whole [] p order up down = tt
lines_whole (x ∷ xs) p order up down = (line_whole p x order.0 up.0 down.0, lines_whole xs (noted p x) order.1 up.1 down.1)

-- of entries of which it is so for each of the three, it is so
pub one_use_whole : (es : List Entry) (p : Past) → Each (at_lines is_order_line (claim claims.one_use)) p es → Each (at_lines is_uplink_line (claim claims.one_use)) p es
    → Each (at_lines is_downlink_line (claim claims.one_use)) p es → Each (claim claims.one_use) p es
one_use_whole [] p order up down = tt
one_use_whole (e ∷ es) p order up down = (lines_whole e.lines (judged e.event e.answer p) order.0 up.0 down.0, refl, one_use_whole es (after p e) order.2 up.2 down.2)
