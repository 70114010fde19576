-- What is read of the downlinks of a past grows at each event and at each line, and a PDU that is that of its submission stays so.
use Rattle.std.proofs.Common.{ℕ, ◌≡◌, ◌<◌, ◌-◌, Bool, true, false, List, [], ◌∷◌, Option, Some, None, length, slice_get, refl, sym, ap, subst, ◌∙◌, inl, inr}
use Rattle.std.specs.Prelude.{fold, if◌then◌else◌, nat_le, slice_index_or}
use Rattle.dc_base.specs.Count.{sn}
use Rattle.dc_base.specs.declared.answers.Answer.{Answer}
use Rattle.dc_base.specs.declared.answers.Answer.TheVariants as answer
use Rattle.dc_base.specs.declared.events.Event.{Event}
use Rattle.dc_base.specs.declared.events.Event.TheVariants as event
use Rattle.dc_base.specs.declared.events.Line.{Line}
use Rattle.dc_base.specs.declared.events.Line.TheVariants as line
use Rattle.dc_base.specs.declared.events.Note.TheVariants as note
use Rattle.dc_base.specs.declared.flights.Flight.{Flight}
use Rattle.dc_base.specs.declared.flights.Flight.TheVariants as flight
use Rattle.dc_base.specs.declared.nodes.Alg.{Alg}
use Rattle.dc_base.specs.declared.nodes.Alg.TheVariants.{Nea0, Nea2}
use Rattle.dc_base.specs.declared.nodes.Dir.TheVariants.{Dl, Ul}
use Rattle.dc_base.specs.declared.nodes.KeyName.{KeyName}
use Rattle.dc_base.specs.declared.nodes.LinkId.{LinkId}
use Rattle.dc_base.specs.declared.numbers.SnLen.{SnLen}
use Rattle.key_chain.specs.Derived.{k_upenc}
use Rattle.key_chain.specs.KeyNames.{octets_of_side}
use Rattle.nea2.specs.Combined.{combined}
use Rattle.nea2.specs.Keystream.{keystream}
use Rattle.pdcp_pdu.specs.DataPdu.{data_pdu}
use Rattle.claims.specs.Drafts.{Draft, command_of, draft}
use Rattle.claims.specs.Judged.{judged}
use Rattle.claims.specs.Noted.{noted}
use Rattle.claims.specs.Past.{Past}
use Rattle.claims.specs.Protected.{stream}
use Rattle.run_uplinks.specs.Readings.{Face, Reading, reading}
use Rattle.run_uplinks.specs.Seen.{Seen}
use Rattle.run_uplinks.proofs.Seeing.{begins_line}
use Rattle.run_uplinks.proofs.Wells.{AreUpTo}
use Rattle.run_relays.specs.Pdus.{Extends, GrowsTo, payload_of}
use Rattle.run_relays.proofs.Drawing.{draws_grow, event_grows}
use Rattle.run_relays.proofs.Growing.{grows_same, grows_self, grows_then}
use Rattle.run_relays.proofs.Pasts.{IsRead, noted_becomes}
use Rattle.run_downlinks.specs.Downlinks.{InTunnel, IsGoodDown, IsOwn, LineIn, down_octets}
use Rattle.run_downlinks.specs.Seen.{answered, down_reading, seen, with_event}
use Rattle.run_downlinks.proofs.Seeing.{begun_seen, judged_seen, noted_seen}

-- ---- an event and a line

-- of an event that was answered ok
accepted_grows : (d : Option Draft) (s : Seen) (e : Event) → AreUpTo s.last s.plans → GrowsTo (reading s) (reading (with_event d e s))
accepted_grows d s (event.Bearer id n first shape threshold policy) all = draws_grow s d all
accepted_grows d s (event.Reshape id shape) all = draws_grow s d all
accepted_grows d s (event.Remove id) all = draws_grow s d all
accepted_grows d s (event.Add x) all = draws_grow s d all
accepted_grows d s event.Change all = draws_grow s d all
accepted_grows d s event.Release all = draws_grow s d all
accepted_grows d s event.RekeySecond all = draws_grow s d all
accepted_grows d s (event.RekeyMaster root) all = draws_grow s d all
accepted_grows d s (event.Recover id) all = grows_self (reading s)
accepted_grows d s (event.Submit id Dl sdu) all = event_grows d None s (event.Submit id Ul sdu) all
accepted_grows d s (event.Submit id Ul sdu) all = grows_self (reading s)
accepted_grows d s (event.Report x id) all = grows_self (reading s)
accepted_grows d s (event.Deny x on) all = grows_self (reading s)
accepted_grows d s (event.Ask x w) all = grows_self (reading s)
accepted_grows d s event.ScgFail all = grows_self (reading s)
accepted_grows d s (event.Step l i) all = grows_self (reading s)
accepted_grows d s (event.Lose l i) all = grows_self (reading s)
accepted_grows d s (event.Again l i) all = grows_self (reading s)

answer_grows : (d : Option Draft) (s : Seen) (e : Event) (a : Answer) → AreUpTo s.last s.plans → GrowsTo (reading s) (reading (answered d e a s))
answer_grows d s e answer.Ok all = accepted_grows d s e all
answer_grows d s e (answer.No why) all = grows_self (reading s)

-- an event with its answer
pub judged_grows : (e : Event) (a : Answer) (p : Past) → IsRead p → GrowsTo (down_reading p) (down_reading (judged e a p))
judged_grows e a p is = subst (λ s. GrowsTo (down_reading p) (reading s)) (sym (judged_seen e a p)) (answer_grows (draft p.table e) (seen p) e a is.well.plans)

plain_grows : (p : Past) (x : Line) → begins_line x ≡ false → GrowsTo (down_reading p) (down_reading (noted p x))
plain_grows p x none = grows_same (down_reading p) (down_reading (noted p x)) (ap reading (noted_seen p x none))

-- a line
pub noted_grows : (p : Past) (x : Line) → IsRead p → GrowsTo (down_reading p) (down_reading (noted p x))
noted_grows p (line.Note (note.Begin w)) is = subst (λ s. GrowsTo (down_reading p) (reading s)) (sym (begun_seen p.table.sec w p)) (draws_grow (seen p) (draft p.table (command_of w)) is.well.plans)
noted_grows p (line.Note (note.Join x g)) is = plain_grows p (line.Note (note.Join x g)) refl
noted_grows p (line.Note (note.Leave x g)) is = plain_grows p (line.Note (note.Leave x g)) refl
noted_grows p (line.Note (note.Give x id g)) is = plain_grows p (line.Note (note.Give x id g)) refl
noted_grows p (line.Note (note.Own x id g)) is = plain_grows p (line.Note (note.Own x id g)) refl
noted_grows p (line.Note (note.Set id g)) is = plain_grows p (line.Note (note.Set id g)) refl
noted_grows p (line.Note (note.Unset id)) is = plain_grows p (line.Note (note.Unset id)) refl
noted_grows p (line.Note (note.Up x id d count sdu)) is = plain_grows p (line.Note (note.Up x id d count sdu)) refl
noted_grows p (line.Note (note.Freed id d count)) is = plain_grows p (line.Note (note.Freed id d count)) refl
noted_grows p (line.Note (note.Confirmed x)) is = plain_grows p (line.Note (note.Confirmed x)) refl
noted_grows p (line.Note (note.Refused x w)) is = plain_grows p (line.Note (note.Refused x w)) refl
noted_grows p (line.Note note.Done) is = plain_grows p (line.Note note.Done) refl
noted_grows p (line.Note note.Rejected) is = plain_grows p (line.Note note.Rejected) refl
noted_grows p (line.Send l f) is = plain_grows p (line.Send l f) refl
noted_grows p (line.Event e) is = plain_grows p (line.Event e) refl
noted_grows p (line.Answer a) is = plain_grows p (line.Answer a) refl

-- several
pub lines_grow : (xs : List Line) (p : Past) → IsRead p → GrowsTo (down_reading p) (down_reading (fold noted p xs))
lines_grow [] p is = grows_self (down_reading p)
lines_grow (x ∷ xs) p is =
    grows_then (down_reading p) (down_reading (noted p x)) (down_reading (fold noted (noted p x) xs)) (noted_grows p x is) (lines_grow xs (noted p x) (noted_becomes p x is).is)

-- ---- a PDU stays the one of its submission

-- a key of a root that was named gives the same keystream
stream_stays : (a : Alg) (rs ss : List (List ℕ)) (key : KeyName) (c id len : ℕ) → slice_index_or ss key.root [] ≡ slice_index_or rs key.root [] → stream a ss key c id Dl len ≡ stream a rs key c id Dl len
stream_stays Nea0 rs ss key c id len same = refl
stream_stays Nea2 rs ss key c id len same = ap (λ o. keystream Nea2 (k_upenc (octets_of_side o key.side) Nea2) c id Dl len) same

payload_stays : (f h : Face) (c : ℕ) (payload : List ℕ) → Extends f h → payload_of f c ≡ Some payload → payload_of h c ≡ Some payload
payload_stays f h c payload more at = ap (λ k. if nat_le k c then slice_get h.submitted (c - k) else None) more.first ∙ by (nat_le f.first c) at
  where
    by : (b : Bool) → (if b then slice_get f.submitted (c - f.first) else None) ≡ Some payload → (if b then slice_get h.submitted (c - f.first) else None) ≡ Some payload
    by true there = more.submitted (c - f.first) payload there
    by false there = absurd (let bad : None ≡ Some payload = there in cc)

-- the PDU by the parts of an establishment
abbrev pdu_by : SnLen → Alg → List (List ℕ) → KeyName → ℕ → ℕ → List ℕ → List ℕ
pdu_by n a roots key c id payload = data_pdu n (sn n c) (combined payload (stream a roots key c id Dl (length payload)))

octets_stay : (r s : Reading) (f h : Face) (key : KeyName) (c : ℕ) (payload : List ℕ) → GrowsTo r s → key.root < length r.roots → Extends f h
    → down_octets r f key c payload ≡ down_octets s h key c payload
octets_stay r s f h key c payload grows root more =
    sym (ap (λ n. pdu_by n s.alg s.roots key c h.id payload) more.n ∙ ap (λ i. pdu_by f.n s.alg s.roots key c i payload) more.id ∙ ap (λ a. pdu_by f.n a s.roots key c f.id payload) grows.alg
    ∙ ap (λ o. data_pdu f.n (sn f.n c) (combined payload o)) (stream_stays r.alg r.roots s.roots key c f.id (length payload) (grows.roots key.root root).1))

pub good_stays : (r s : Reading) (id g : ℕ) (tag : Option ℕ) (pdu : List ℕ) → GrowsTo r s → IsGoodDown r id g tag pdu → IsGoodDown s id g tag pdu
good_stays r s id g tag pdu grows is =
    let x = grows.faces id g is.set is.face is.in_plan is.of_face in
    record {
      set = is.set;
      in_plan = grows.settings id g is.set is.in_plan;
      root = (grows.roots is.set.key.root is.root).0;
      face = x.0;
      of_face = x.1;
      count = is.count;
      tagged = is.tagged;
      payload = is.payload;
      submitted = payload_stays is.face x.0 is.count is.payload x.2 is.submitted;
      octets = is.octets ∙ octets_stay r s is.face x.0 is.set.key is.count is.payload grows is.root x.2;
    }

pub own_stays : (r s : Reading) (l : LinkId) (id g : ℕ) (tag : Option ℕ) (pdu : List ℕ) → GrowsTo r s → IsOwn r l id g tag pdu → IsOwn s l id g tag pdu
unfolding good_stays
own_stays r s l id g tag pdu grows is = record { good = good_stays r s id g tag pdu grows is.good; from = is.from }

pub tunnel_stays : (r s : Reading) (l : LinkId) (f : Flight) → GrowsTo r s → InTunnel r l f → InTunnel s l f
tunnel_stays r s l (flight.Tun tag packet) grows (inl other) = inl other
tunnel_stays r s l (flight.Tun tag packet) grows (inr x) = inr (record { of = x.of; own = λ data'. own_stays r s l x.of.id x.of.g tag x.of.pdu grows (x.own data') })
tunnel_stays r s l (flight.Air id g num tag pdu) grows is = tt
tunnel_stays r s l (flight.Ack id g num) grows is = tt
tunnel_stays r s l (flight.Sdu id g sdu) grows is = tt
tunnel_stays r s l (flight.End id g) grows is = tt
tunnel_stays r s l (flight.Told id g count) grows is = tt
tunnel_stays r s l (flight.Ctl c) grows is = tt

pub line_stays : (r s : Reading) (x : Line) → GrowsTo r s → LineIn r x → LineIn s x
line_stays r s (line.Send l f) grows is = tunnel_stays r s l f grows is
line_stays r s (line.Note n) grows is = tt
line_stays r s (line.Event e) grows is = tt
line_stays r s (line.Answer a) grows is = tt
