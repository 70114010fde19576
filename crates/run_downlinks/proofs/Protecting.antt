-- Each line that sends a downlink data PDU of its submission protects it: it comes from the anchor of its plan, or is passed on.
use Rattle.std.proofs.Common.{ℕ, ◌≡◌, ◌&&◌, ◌||◌, ◌==◌, Bool, true, false, List, [], ◌∷◌, Option, Some, None, refl, sym, ap, subst, ◌∙◌, inl, inr}
use Rattle.std.specs.Prelude.{find, if◌then◌else◌, is_none, map, nat_le, not}
use Rattle.std.specs.List.{AllByRecursion}
use Rattle.std.specs.Option.{option_map}
use Rattle.std.proofs.lemmas.Bool.{cases_Bool, eq-eqb}
use Rattle.dc_base.specs.Nodes.{is_same_node}
use Rattle.dc_base.specs.declared.events.Line.{Line}
use Rattle.dc_base.specs.declared.events.Line.TheVariants as line
use Rattle.dc_base.specs.declared.flights.Flight.{Flight}
use Rattle.dc_base.specs.declared.flights.Flight.TheVariants as flight
use Rattle.dc_base.specs.declared.nodes.Dir.{Dir}
use Rattle.dc_base.specs.declared.nodes.Dir.TheVariants.{Dl, Ul}
use Rattle.dc_base.specs.declared.nodes.LinkId.{LinkId}
use Rattle.dc_base.specs.declared.nodes.Node.{Node}
use Rattle.dc_base.specs.declared.nodes.Node.TheVariants.{A, B, M, T}
use Rattle.pdcp_pdu.specs.DataPdu.{is_data}
use Rattle.claims.specs.Claim.{EachLine}
use Rattle.claims.specs.Noted.{noted}
use Rattle.claims.specs.Packets as claims
use Rattle.claims.specs.Past.{Bearer, Past}
use Rattle.claims.specs.Protected.{is_copy, is_origin, is_passed_on, is_protected, is_protected_pdu, is_same_pdu, protected_pdu, protects}
use Rattle.claims.specs.Reading.{Setting, anchor_in, bearer_of, named, setting}
use Rattle.claims.specs.Sameness.{is_none_or, is_same_number, is_same_octets, is_some_and}
use Rattle.claims.specs.Taking.{direction_in, direction_with}
use Rattle.claims.specs.Views.{Pdu, if_data, pdu_in, pdu_of}
use Rattle.node_rules.specs.Packets.{packet_of, pdu_down}
use Rattle.run_uplinks.specs.Readings.{Face, face_of}
use Rattle.run_uplinks.proofs.Establishments.{some_is}
use Rattle.run_relays.specs.Pdus.{GrowsTo, named_face, payload_of}
use Rattle.run_relays.proofs.Contexts.{context, noted_context}
use Rattle.run_relays.proofs.FromTerminal.{octets_same}
use Rattle.run_relays.proofs.Growing.{grows_then}
use Rattle.run_relays.proofs.Pasts.{IsRead, noted_becomes}
use Rattle.run_relays.proofs.Protecting.{if_true}
use Rattle.run_keys.specs.Downlink.{is_downlink_line}
use Rattle.run_downlinks.specs.Downlinks.{InTunnel, IsDownSend, IsGoodDown, IsOwn, IsOwnPacket, down_octets}
use Rattle.run_downlinks.specs.Seen.{down_reading, downlink_of}
use Rattle.run_downlinks.proofs.Growing.{good_stays, noted_grows, own_stays}
use Rattle.run_downlinks.proofs.Packets.{ReadAs, down_is_viewed, down_says}

-- ---- what is read of an establishment

abbrev face_in : Bearer → Face
face_in b = face_of (downlink_of b)

found_face : (t : Face → Bool) (bs : List Bearer) → find t (map face_of (map downlink_of bs)) ≡ option_map face_in (find (λ b. t (face_in b)) bs)
found_face t [] = refl
found_face t (b ∷ bs) = elim (cases_Bool (t (face_in b))) [ inl here ↦ rw here refl | inr there ↦ rw there (found_face t bs) ]

face_is : (p : Past) (id g : ℕ) → named_face id g (down_reading p).faces ≡ option_map face_in (find (λ (b : Bearer). (b.id == id) && nat_le b.g g) p.bearers)
face_is p id g = found_face (λ (f : Face). (f.id == id) && nat_le f.g g) p.bearers

some_bearer : (o : Option Bearer) (f : Face) → option_map face_in o ≡ Some f → (b : Bearer) × (o ≡ Some b) × (face_in b ≡ f)
some_bearer None f is = absurd (let bad : None ≡ Some f = is in cc)
some_bearer (Some b) f is = (b, refl, some_is (face_in b) f is)

-- a PDU of its submission protects it
pub good_protects : (p : Past) (u : Pdu) → IsGoodDown (down_reading p) u.id u.g u.tag u.octets → protects p Dl u u.tag (setting p u.id u.g) (bearer_of p u.id u.g) ≡ true
good_protects p u is =
    let r = down_reading p in
    let b = some_bearer (find (λ (b : Bearer). (b.id == u.id) && nat_le b.g u.g) p.bearers) is.face (sym (face_is p u.id u.g) ∙ is.of_face) in
    let named_is : bearer_of p u.id u.g ≡ Some b.0 = ap (λ o. named p u.id u.g o) is.in_plan ∙ b.1 in
    ap (λ t. protects p Dl u t (setting p u.id u.g) (bearer_of p u.id u.g)) is.tagged
    ∙ ap (λ o. protects p Dl u (Some is.count) o (bearer_of p u.id u.g)) is.in_plan
    ∙ ap (λ o. protects p Dl u (Some is.count) (Some is.set) o) named_is
    ∙ ap (λ o. is_some_and (λ x. is_same_octets u.octets (protected_pdu p b.0 is.set.key Dl is.count x)) o) (ap (λ f. payload_of f is.count) b.2 ∙ is.submitted)
    ∙ octets_same u.octets (protected_pdu p b.0 is.set.key Dl is.count is.payload) (is.octets ∙ sym (ap (λ f. down_octets r f is.set.key is.count is.payload) b.2))

-- ---- the test of a line

-- the claim, of lines that send a downlink PDU
abbrev pub protects_down : Past → Line → Bool
protects_down p x = if is_downlink_line x then is_protected p x else true

-- of a flight on a link, by the PDU that it carries
abbrev by_pdu : Past → LinkId → Flight → Option Pdu → Bool
by_pdu q l f o = if is_some_and (λ (u : Pdu). not (is_same_node l.from T || is_none u.num)) o then is_none_or (is_protected_pdu q l f) (if_data o) else true

-- what is not from the terminal is to be tested, if it is a data PDU
from_other : (q : Past) (l : LinkId) (f : Flight) (u : Pdu) → (is_same_node l.from T ≡ false → is_data u.octets ≡ true → is_protected_pdu q l f u ≡ true) → by_pdu q l f (Some u) ≡ true
from_other q l f u is =
    elim (cases_Bool (is_same_node l.from T)) [
      | inl from ↦ ap (λ b. if not (b || is_none u.num) then is_none_or (is_protected_pdu q l f) (if_data (Some u)) else true) from
      | inr other ↦ if_true (not (is_same_node l.from T || is_none u.num)) (is_none_or (is_protected_pdu q l f) (if_data (Some u))) (data_or (is_data u.octets) refl other)
    ]
  where
    data_or : (b : Bool) → is_data u.octets ≡ b → is_same_node l.from T ≡ false → is_none_or (is_protected_pdu q l f) (if_data (Some u)) ≡ true
    data_or true data' other = ap (λ b. is_none_or (is_protected_pdu q l f) (if b then Some u else None)) data' ∙ is other data'
    data_or false control other = ap (λ b. is_none_or (is_protected_pdu q l f) (if b then Some u else None)) control

or_true : (a : Bool) → (a || true) ≡ true
or_true true = refl
or_true false = refl

either_dl : (b : Bool) → (if b then Dl else Dl) ≡ Dl
either_dl true = refl
either_dl false = refl

module _ (q : Past) (l : LinkId) (f : Flight) (u : Pdu) where
  -- in a direction, by its setting
  abbrev at : Dir → Option Setting → Bool
  at d o = protects q d u u.tag (setting q u.id u.g) (bearer_of q u.id u.g) && (is_origin l d o || is_passed_on q l u || is_copy q l f)

  -- it goes down, and has a cause
  goes_down : (good : IsGoodDown (down_reading q) u.id u.g u.tag u.octets) → direction_in l good.set ≡ Dl
      → (is_origin l Dl (Some good.set) || is_passed_on q l u || is_copy q l f) ≡ true → is_protected_pdu q l f u ≡ true
  goes_down good down cause =
      ap (λ d. at d (setting q u.id u.g)) (ap (direction_with l) good.in_plan ∙ down) ∙ ap (at Dl) good.in_plan
      ∙ ap (λ b. b && (is_origin l Dl (Some good.set) || is_passed_on q l u || is_copy q l f)) (good_protects q u good) ∙ cause

  -- from the anchor of its plan
  own_protected : is_same_node l.from T ≡ false → IsOwn (down_reading q) l u.id u.g u.tag u.octets → is_protected_pdu q l f u ≡ true
  own_protected other own =
      goes_down own.good (down (is_same_node l.from T) other (is_same_node l.from (anchor_in own.good.set)) own.from) (ap (λ b. b || is_passed_on q l u || is_copy q l f) own.from)
    where
      down : (b : Bool) → b ≡ false → (c : Bool) → c ≡ true → (if b then Ul else if is_same_node l.to T then Dl else if c then Dl else Ul) ≡ Dl
      down true bad c is = absurd cc
      down false no' true is = either_dl (is_same_node l.to T)
      down false no' false bad = absurd cc

  -- passed on
  passed_protected : is_same_node l.from T ≡ false → l.to ≡ T → IsGoodDown (down_reading q) u.id u.g u.tag u.octets → is_passed_on q l u ≡ true → is_protected_pdu q l f u ≡ true
  passed_protected other to good passed =
      goes_down good (down (is_same_node l.from T) other (is_same_node l.to T) (ap (λ y. is_same_node y T) to) (is_same_node l.from (anchor_in good.set)))
      (ap (λ b. is_origin l Dl (Some good.set) || b || is_copy q l f) passed ∙ ap (λ b. b || is_copy q l f) (or_true (is_origin l Dl (Some good.set))))
    where
      down : (b : Bool) → b ≡ false → (c : Bool) → c ≡ true → (e : Bool) → (if b then Ul else if c then Dl else if e then Dl else Ul) ≡ Dl
      down true bad c is e = absurd cc
      down false no' true is e = refl
      down false no' false bad e = absurd cc

-- ---- lines, in whatever past comes of this one while the same event happens

abbrev pub HoldsFrom : Past → Line → Type 0
HoldsFrom p x = (q : Past) → GrowsTo (down_reading p) (down_reading q) → context q ≡ context p → protects_down q x ≡ true

pub each_from : (p : Past) (xs : List Line) (q : Past) → IsRead q → GrowsTo (down_reading p) (down_reading q) → context q ≡ context p → AllByRecursion (HoldsFrom p) xs → EachLine protects_down q xs
each_from p [] q is grows same all = tt
each_from p (x ∷ xs) q is grows same all = (
  all.0 q grows same,
  each_from p xs (noted q x) (noted_becomes q x is).is (grows_then (down_reading p) (down_reading q) (down_reading (noted q x)) grows (noted_grows q x is)) (noted_context q x ∙ same) all.1,
)

none_down : (l : LinkId) (o : Option Pdu) → is_some_and (λ (u : Pdu). not (is_none u.num)) o ≡ false → is_some_and (λ (u : Pdu). not (is_same_node l.from T || is_none u.num)) o ≡ false
none_down l None none = refl
none_down l (Some u) none = by (is_same_node l.from T) (is_none u.num) none
  where
    by : (a b : Bool) → not b ≡ false → not (a || b) ≡ false
    by true b none = refl
    by false b none = none

-- what stands in a tunnel, sent from there
pub tunnel_holds : (p : Past) (l : LinkId) (f : Flight) → InTunnel (down_reading p) l f → (tag : Option ℕ) (packet : List ℕ) → f ≡ flight.Tun tag packet → HoldsFrom p (line.Send l f)
tunnel_holds p l (flight.Tun tag packet) (inl other) tag' packet' is q grows same =
    ap (λ b. if b then is_none_or (is_protected_pdu q l (flight.Tun tag packet)) (if_data (pdu_in tag (claims.packet_of packet))) else true) (none_down l (pdu_in tag (claims.packet_of packet)) (other.unseen tag))
tunnel_holds p l (flight.Tun tag packet) (inr x) tag' packet' is q grows same =
    let u : Pdu = record { id = x.of.id; g = x.of.g; num = Some x.of.number; is_repeat = x.of.repeat; tag = tag; octets = x.of.pdu } in
    ap (λ o. by_pdu q l (flight.Tun tag packet) (pdu_in tag o)) (down_is_viewed packet x.of)
    ∙ from_other q l (flight.Tun tag packet) u (λ other data'. own_protected q l (flight.Tun tag packet) u other (own_stays (down_reading p) (down_reading q) l x.of.id x.of.g tag x.of.pdu grows (x.own data')))
tunnel_holds p l (flight.Air id g num tag pdu) in' tag' packet' is q grows same = absurd cc
tunnel_holds p l (flight.Ack id g num) in' tag' packet' is q grows same = refl
tunnel_holds p l (flight.Sdu id g sdu) in' tag' packet' is q grows same = refl
tunnel_holds p l (flight.End id g) in' tag' packet' is q grows same = refl
tunnel_holds p l (flight.Told id g count) in' tag' packet' is q grows same = refl
tunnel_holds p l (flight.Ctl r) in' tag' packet' is q grows same = refl

-- a PDU that the node took through a tunnel in this event, sent on the air
same_number : (o : Option ℕ) → is_same_number o o ≡ true
same_number None = refl
same_number (Some n) = eq-eqb n n refl

and_true : (a b : Bool) → a ≡ true → b ≡ true → (a && b) ≡ true
and_true true b is more = more
and_true false b is more = is

same_node : (x : Node) → is_same_node x x ≡ true
same_node T = refl
same_node M = refl
same_node A = refl
same_node B = refl

same_pdu : (u v : Pdu) → u.id ≡ v.id → u.g ≡ v.g → u.tag ≡ v.tag → u.octets ≡ v.octets → is_same_pdu u v ≡ true
same_pdu u v id g tag octets =
    and_true ((u.id == v.id) && (u.g == v.g) && is_same_number u.tag v.tag) (is_same_octets u.octets v.octets)
    (and_true ((u.id == v.id) && (u.g == v.g)) (is_same_number u.tag v.tag) (and_true (u.id == v.id) (u.g == v.g) (eq-eqb u.id v.id id) (eq-eqb u.g v.g g)) (subst (λ t. is_same_number u.tag t ≡ true) tag (same_number u.tag)))
    (octets_same u.octets v.octets octets)

module _ (p : Past) (k l : LinkId) (id g num : ℕ) (tag : Option ℕ) (pdu packet : List ℕ) where
  abbrev of_it : Pdu
  of_it = record { id = id; g = g; num = Some num; is_repeat = false; tag = tag; octets = pdu }

  passed_is : (q : Past) (x : IsOwnPacket (down_reading p) k tag packet) → ReadAs packet x.of id g pdu → q.given ≡ Some (k, flight.Tun tag packet) → k.to ≡ l.from → is_passed_on q l of_it ≡ true
  passed_is q x read given same =
      let v : Pdu = record { id = x.of.id; g = x.of.g; num = Some x.of.number; is_repeat = x.of.repeat; tag = tag; octets = x.of.pdu } in
      ap (λ o. is_some_and (λ (s : LinkId × Flight). is_same_node s.0.to l.from && is_some_and (is_same_pdu of_it) (pdu_of s.1)) o) given
      ∙ and_true (is_same_node k.to l.from) (is_some_and (is_same_pdu of_it) (pdu_in tag (claims.packet_of packet))) (ap (is_same_node k.to) (sym same) ∙ same_node k.to)
      (ap (λ o. is_some_and (is_same_pdu of_it) (pdu_in tag o)) (down_is_viewed packet x.of) ∙ same_pdu of_it v (sym read.of_id) (sym read.of_g) refl (sym read.octets))

  pub passed_holds : InTunnel (down_reading p) k (flight.Tun tag packet) → p.given ≡ Some (k, flight.Tun tag packet) → k.to ≡ l.from → l.to ≡ T
      → (number : ℕ) (repeat : Bool) → packet_of packet ≡ pdu_down id g number repeat pdu → HoldsFrom p (line.Send l (flight.Air id g num tag pdu))
  passed_holds (inl other) given same to number repeat says q grows context' = absurd (other.unread id g number repeat pdu says)
  passed_holds (inr x) given same to number repeat says q grows context' =
      let read = down_says packet x.of id g number repeat pdu says in
      let now : q.given ≡ Some (k, flight.Tun tag packet) = ap (λ (c : Option (LinkId × Flight) × Option (LinkId × Flight)). c.0) context' ∙ given in
      from_other q l (flight.Air id g num tag pdu) of_it
      (λ other data'.
      let own = x.own (subst (λ o. is_data o ≡ true) (sym read.octets) data') in
      let good : IsGoodDown (down_reading p) id g tag pdu =
      subst (λ o. IsGoodDown (down_reading p) id g tag o) read.octets (subst (λ h. IsGoodDown (down_reading p) id h tag x.of.pdu) read.of_g (subst (λ i. IsGoodDown (down_reading p) i x.of.g tag x.of.pdu) read.of_id own.good)) in
      passed_protected q l (flight.Air id g num tag pdu) of_it other to (good_stays (down_reading p) (down_reading q) id g tag pdu grows good) (passed_is q x read now same))

-- what a network node sends
pub send_holds : (Passes : ℕ → ℕ → Option ℕ → List ℕ → Type 0) (p : Past) (l : LinkId) (f : Flight)
    → ((id g num : ℕ) (tag : Option ℕ) (pdu : List ℕ) → l.to ≡ T → Passes id g tag pdu → HoldsFrom p (line.Send l (flight.Air id g num tag pdu)))
    → IsDownSend Passes (down_reading p) (l, f) → HoldsFrom p (line.Send l f)
send_holds Passes p l (flight.Air id g num tag pdu) passes (inl own) q grows same =
    let f = flight.Air id g num tag pdu in
    let u : Pdu = record { id = id; g = g; num = Some num; is_repeat = false; tag = tag; octets = pdu } in
    from_other q l f u (λ other data'. own_protected q l f u other (own_stays (down_reading p) (down_reading q) l id g tag pdu grows (own data')))
send_holds Passes p l (flight.Air id g num tag pdu) passes (inr x) q grows same = passes id g num tag pdu x.0 x.1 q grows same
send_holds Passes p l (flight.Tun tag packet) passes is q grows same = tunnel_holds p l (flight.Tun tag packet) is tag packet refl q grows same
send_holds Passes p l (flight.Ack id g num) passes is q grows same = refl
send_holds Passes p l (flight.Sdu id g sdu) passes is q grows same = refl
send_holds Passes p l (flight.End id g) passes is q grows same = refl
send_holds Passes p l (flight.Told id g count) passes is q grows same = refl
send_holds Passes p l (flight.Ctl r) passes is q grows same = refl
