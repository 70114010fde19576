-- What the terminal sends on the air is the PDU of its submission; and such a PDU protects its submission.
use Rattle.std.proofs.Common.{ℕ, ◌≡◌, ◌==◌, ◌&&◌, Bool, true, false, List, [], ◌∷◌, Option, Some, None, refl, sym, ap, subst, ◌∙◌, inl, inr}
use Rattle.std.specs.Prelude.{find, fold, map, nat_le, ⊤}
use Rattle.std.specs.List.{AllByRecursion}
use Rattle.std.specs.Option.{option_map}
use Rattle.std.proofs.lemmas.Bool.{cases_Bool, eq-eqb}
use Rattle.dc_base.specs.Nodes.{is_same_node}
use Rattle.dc_base.specs.declared.events.Line.{Line}
use Rattle.dc_base.specs.declared.events.Line.TheVariants as line
use Rattle.dc_base.specs.declared.flights.Flight.{Flight}
use Rattle.dc_base.specs.declared.flights.Flight.TheVariants as flight
use Rattle.dc_base.specs.declared.nodes.Dir.TheVariants.{Ul}
use Rattle.dc_base.specs.declared.nodes.LinkId.{LinkId}
use Rattle.dc_base.specs.declared.nodes.Node.TheVariants.{T}
use Rattle.claims.specs.Claim.{EachLine}
use Rattle.claims.specs.Noted.{noted}
use Rattle.claims.specs.Past.{Bearer, Past}
use Rattle.claims.specs.Protected.{is_protected, protected_pdu, protects}
use Rattle.claims.specs.Reading.{bearer_of, named, setting}
use Rattle.claims.specs.Sameness.{is_same_octets, is_some_and}
use Rattle.claims.specs.Says.{Protects}
use Rattle.claims.specs.Taking.{direction_of, direction_with}
use Rattle.claims.specs.Views.{Pdu, data_of}
use Rattle.claims.proofs.Readable.{protected_is}
use Rattle.run_uplinks.specs.Readings.{Face, Reading, face_of, reading}
use Rattle.run_uplinks.specs.Seen.{seen, uplink_of}
use Rattle.run_uplinks.proofs.Establishments.{some_is}
use Rattle.run_senders.specs.Kinds.{is_of_terminal}
use Rattle.run_relays.specs.Pdus.{GrowsTo, IsGoodPdu, IsPromised, named_face, payload_of, pdu_octets}
use Rattle.run_relays.specs.Relays.{OnLine, OnLink}
use Rattle.run_relays.proofs.Growing.{promise_stays}
use Rattle.run_relays.proofs.Pasts.{IsRead, lines_become, noted_becomes}

-- ---- what is read of an establishment

abbrev face_in : Bearer → Face
face_in b = face_of (uplink_of b)

found_face : (t : Face → Bool) (bs : List Bearer) → find t (map face_of (map uplink_of bs)) ≡ option_map face_in (find (λ b. t (face_in b)) bs)
found_face t [] = refl
found_face t (b ∷ bs) = elim (cases_Bool (t (face_in b))) [ inl here ↦ rw here refl | inr there ↦ rw there (found_face t bs) ]

-- the establishment that a generation names, where its plan sets something
face_is : (p : Past) (id g : ℕ) → named_face id g (reading (seen p)).faces ≡ option_map face_in (find (λ (b : Bearer). (b.id == id) && nat_le b.g g) p.bearers)
face_is p id g = found_face (λ (f : Face). (f.id == id) && nat_le f.g g) p.bearers

some_bearer : (o : Option Bearer) (f : Face) → option_map face_in o ≡ Some f → (b : Bearer) × (o ≡ Some b) × (face_in b ≡ f)
some_bearer None f is = absurd (let bad : None ≡ Some f = is in cc)
some_bearer (Some b) f is = (b, refl, some_is (face_in b) f is)

-- ---- from the claim to the promise

-- a PDU that protects a submission in uplink is the one of its submission
good_by : (p : Past) (u : Pdu) → IsRead p → Protects p Ul u → IsGoodPdu (reading (seen p)) u.id u.g u.tag u.octets
good_by p u is x = record {
  set = x.set;
  in_plan = x.in_plan;
  root = is.rooted u.id u.g x.set x.in_plan;
  face = face_in x.bearer;
  of_face = face_is p u.id u.g ∙ ap (option_map face_in) (sym (ap (λ o. named p u.id u.g o) x.in_plan) ∙ x.of_bearer);
  count = x.count;
  tagged = x.tagged;
  payload = x.sdu;
  submitted = x.submitted;
  octets = x.octets_are;
}

-- from the terminal each PDU is in uplink
from_terminal : (p : Past) (l : LinkId) (u : Pdu) → is_same_node l.from T ≡ true → Protects p (direction_of p l u) u → Protects p Ul u
from_terminal p l u from x = subst (λ d. Protects p d u) (ap (direction_with l) x.in_plan ∙ by) x
  where
    by : direction_with l (Some x.set) ≡ Ul
    by = rw from refl

pub promised_by : (p : Past) (l : LinkId) (id g num : ℕ) (tag : Option ℕ) (pdu : List ℕ) → IsRead p → is_same_node l.from T ≡ true
    → is_protected p (line.Send l (flight.Air id g num tag pdu)) ≡ true → IsPromised (reading (seen p)) id g tag pdu
promised_by p l id g num tag pdu is from protected data' =
    let f = flight.Air id g num tag pdu in
    let u : Pdu = record { id = id; g = g; num = Some num; is_repeat = false; tag = tag; octets = pdu } in
    let carries : data_of f ≡ Some u = rw data' refl in
    good_by p u is (from_terminal p l u from (protected_is p l f u carries protected))

-- ---- and back

pub octets_same : (xs ys : List ℕ) → xs ≡ ys → is_same_octets xs ys ≡ true
octets_same xs ys same = subst (λ zs. is_same_octets xs zs ≡ true) same (itself xs)
  where
    itself : (zs : List ℕ) → is_same_octets zs zs ≡ true
    itself [] = refl
    itself (z ∷ zs) = rw (eq-eqb z z refl) (itself zs)

pub good_protects : (p : Past) (u : Pdu) → IsGoodPdu (reading (seen p)) u.id u.g u.tag u.octets → protects p Ul u u.tag (setting p u.id u.g) (bearer_of p u.id u.g) ≡ true
good_protects p u is =
    let r = reading (seen p) in
    let b = some_bearer (find (λ (b : Bearer). (b.id == u.id) && nat_le b.g u.g) p.bearers) is.face (sym (face_is p u.id u.g) ∙ is.of_face) in
    let named_is : bearer_of p u.id u.g ≡ Some b.0 = ap (λ o. named p u.id u.g o) is.in_plan ∙ b.1 in
    ap (λ t. protects p Ul u t (setting p u.id u.g) (bearer_of p u.id u.g)) is.tagged
    ∙ ap (λ o. protects p Ul u (Some is.count) o (bearer_of p u.id u.g)) is.in_plan
    ∙ ap (λ o. protects p Ul u (Some is.count) (Some is.set) o) named_is
    ∙ ap (λ o. is_some_and (λ x. is_same_octets u.octets (protected_pdu p b.0 is.set.key Ul is.count x)) o) (ap (λ f. payload_of f is.count) b.2 ∙ is.submitted)
    ∙ octets_same u.octets (protected_pdu p b.0 is.set.key Ul is.count is.payload) (is.octets ∙ sym (ap (λ f. pdu_octets r f is.set.key is.count is.payload) b.2))

-- ---- lines

pub link_stays : (r s : Reading) (l : LinkId) (f : Flight) → GrowsTo r s → OnLink r l f → OnLink s l f
link_stays r s l (flight.Air id g num tag pdu) grows on = λ away. promise_stays r s id g tag pdu grows (on away)
link_stays r s l (flight.Tun tag packet) grows (inl other) = inl other
link_stays r s l (flight.Tun tag packet) grows (inr x) = inr (record { id = x.id; g = x.g; pdu = x.pdu; is = x.is; promised = promise_stays r s x.id x.g tag x.pdu grows x.promised })
link_stays r s l (flight.Ack id g num) grows on = tt
link_stays r s l (flight.Sdu id g sdu) grows on = tt
link_stays r s l (flight.End id g) grows on = tt
link_stays r s l (flight.Told id g count) grows on = tt
link_stays r s l (flight.Ctl x) grows on = tt

pub line_stays : (r s : Reading) (x : Line) → GrowsTo r s → OnLine r x → OnLine s x
line_stays r s (line.Send l f) grows on = link_stays r s l f grows on
line_stays r s (line.Note n) grows on = tt
line_stays r s (line.Event e) grows on = tt
line_stays r s (line.Answer a) grows on = tt

-- a line may be the terminal's
abbrev pub IsFromTerminal : Line → Type 0
IsFromTerminal (line.Send l f) = (is_same_node l.from T ≡ true) × (is_of_terminal l f ≡ true)
IsFromTerminal (line.Note n) = ⊤
IsFromTerminal (line.Event e) = ⊤
IsFromTerminal (line.Answer a) = ⊤

one_line : (p : Past) (x : Line) → IsRead p → IsFromTerminal x → is_protected p x ≡ true → OnLine (reading (seen p)) x
one_line p (line.Send l (flight.Air id g num tag pdu)) is from protected = λ away. promised_by p l id g num tag pdu is from.0 protected
one_line p (line.Send l (flight.Tun tag packet)) is from protected = absurd (let bad : false ≡ true = from.1 in cc)
one_line p (line.Send l (flight.Ack id g num)) is from protected = tt
one_line p (line.Send l (flight.Sdu id g sdu)) is from protected = tt
one_line p (line.Send l (flight.End id g)) is from protected = tt
one_line p (line.Send l (flight.Told id g count)) is from protected = tt
one_line p (line.Send l (flight.Ctl r)) is from protected = tt
one_line p (line.Note n) is from protected = tt
one_line p (line.Event e) is from protected = tt
one_line p (line.Answer a) is from protected = tt

-- the lines of the terminal, each of which protects its submission
pub terminal_lines : (xs : List Line) (p : Past) → IsRead p → AllByRecursion IsFromTerminal xs → EachLine is_protected p xs → AllByRecursion (OnLine (reading (seen (fold noted p xs)))) xs
terminal_lines [] p is from protected = tt
terminal_lines (x ∷ xs) p is from protected =
    let all = lines_become (x ∷ xs) p is in
    (line_stays (reading (seen p)) (reading (seen (fold noted p (x ∷ xs)))) x all.grows (one_line p x is from.0 protected.0), terminal_lines xs (noted p x) (noted_becomes p x is).is from.1 protected.1)
