-- Each line that sends an uplink data PDU, from whatever node, protects its submission: one that is relayed is passed on, or a copy.
use Rattle.std.proofs.Common.{ℕ, ◌≡◌, ◌&&◌, ◌||◌, ◌==◌, Bool, true, false, List, [], ◌∷◌, Option, Some, None, refl, sym, ap, subst, ◌∙◌, inl, inr}
use Rattle.std.specs.Prelude.{drop, if◌then◌else◌, is_none}
use Rattle.std.specs.List.{AllByRecursion}
use Rattle.std.proofs.lemmas.Bool.{cases_Bool, eq-eqb}
use Rattle.dc_base.specs.Links.{is_same_link}
use Rattle.dc_base.specs.Nodes.{is_same_node}
use Rattle.dc_base.specs.Tunnel.{teid_gen, teid_id}
use Rattle.dc_base.specs.declared.events.Line.TheVariants as line
use Rattle.dc_base.specs.declared.flights.Flight.{Flight}
use Rattle.dc_base.specs.declared.flights.Flight.TheVariants as flight
use Rattle.dc_base.specs.declared.nodes.Dir.{Dir}
use Rattle.dc_base.specs.declared.nodes.Dir.TheVariants.{Dl, Ul}
use Rattle.dc_base.specs.declared.nodes.LinkId.{LinkId}
use Rattle.dc_base.specs.declared.nodes.Node.{Node}
use Rattle.dc_base.specs.declared.nodes.Node.TheVariants.{A, B, M, T}
use Rattle.pdcp_pdu.specs.DataPdu.{is_data}
use Rattle.claims.specs.Packets.{number4, octets_of, packet_of, uplink}
use Rattle.claims.specs.Past.{Past}
use Rattle.claims.specs.Protected.{is_copy, is_origin, is_passed_on, is_protected_pdu, is_same_packet, is_same_pdu, protects}
use Rattle.claims.specs.Reading.{Setting, bearer_of, setting}
use Rattle.claims.specs.Sameness.{is_none_or, is_same_number, is_same_octets, is_some_and}
use Rattle.claims.specs.Taking.{direction_of}
use Rattle.claims.specs.Views.{Pdu, if_data, pdu_in, pdu_of}
use Rattle.node_rules.specs.Choices.{Send}
use Rattle.node_rules.specs.Packets.{up_packet}
use Rattle.run_control.proofs.TalkSteps.{itself as same_itself}
use Rattle.run_words.specs.Senders.{AreBy}
use Rattle.run_uplinks.specs.Readings.{reading}
use Rattle.run_uplinks.specs.Seen.{seen}
use Rattle.run_relays.specs.Kept.{AreSmall}
use Rattle.run_relays.specs.Lines.{is_up, is_uplink, protects_uplink}
use Rattle.run_relays.specs.Pdus.{IsPromised}
use Rattle.run_relays.specs.Relays.{ArePlain, AreSentFor, IsPlain, OnLink, PassesOn}
use Rattle.run_relays.proofs.Claimed.{HoldsFrom}
use Rattle.run_relays.proofs.FromTerminal.{good_protects, octets_same}
use Rattle.run_relays.proofs.Growing.{good_stays}
use Rattle.run_relays.proofs.Pasts.{Becomes}
use Rattle.run_relays.proofs.Steps.{AnyHost}
use Rattle.run_relays.proofs.Views.{other_numbered, up_is_viewed}

pub if_true : (b x : Bool) → x ≡ true → (if b then x else true) ≡ true
if_true true x is = is
if_true false x is = refl

-- ---- a relayed PDU

-- the test of a flight by the PDU that it carries
abbrev pub test_by : Past → LinkId → Flight → Option Pdu → Bool
test_by q k f o = if is_some_and (is_uplink q k) o then is_none_or (is_protected_pdu q k f) (if_data o) else true

-- the PDU that a leg host passes on
abbrev pub relayed : ℕ → ℕ → Option ℕ → List ℕ → Pdu
relayed id g tag pdu = record { id = id; g = g; num = None; is_repeat = false; tag = tag; octets = pdu }

-- one that has its cause
abbrev HasCause : Past → LinkId → Flight → Pdu → Type 0
HasCause q k f u = (s : Option Setting) → (is_origin k Ul s || is_passed_on q k u || is_copy q k f) ≡ true

module _ (p q : Past) (k : LinkId) (id g : ℕ) (tag : Option ℕ) (pdu : List ℕ) (becomes : Becomes p q) (small : AreSmall (reading (seen p))) (promised : IsPromised (reading (seen p)) id g tag pdu) where
  abbrev f : Flight
  f = flight.Tun tag (up_packet g id pdu)

  abbrev u : Pdu
  u = relayed id g tag pdu

  -- no data PDU
  by_control : is_data pdu ≡ false → test_by q k f (pdu_of f) ≡ true
  by_control no' =
      let n = number4 (drop 4 (up_packet g id pdu)) in
      if_true (is_some_and (is_uplink q k) (pdu_of f)) (is_none_or (is_protected_pdu q k f) (if_data (pdu_of f)))
      (by (teid_id n) (teid_gen n) (is_same_octets (octets_of (uplink (teid_id n) (teid_gen n) pdu)) (up_packet g id pdu)))
    where
      by : (i h : ℕ) (b : Bool) → is_none_or (is_protected_pdu q k f) (if_data (pdu_in tag (if b then Some (uplink i h pdu) else None))) ≡ true
      by i h true = rw no' refl
      by i h false = refl

  -- a data PDU in this direction
  abbrev test_in : Dir → Bool
  test_in d = if is_same_node k.from T || (true && is_up d) then protects q d u tag (setting q id g) (bearer_of q id g) && (is_origin k d (setting q id g) || is_passed_on q k u || is_copy q k f) else true

  by_direction : (d : Dir) → is_same_node k.from T ≡ false → protects q Ul u tag (setting q id g) (bearer_of q id g) ≡ true → HasCause q k f u → test_in d ≡ true
  by_direction Dl other good cause = rw other refl
  by_direction Ul other good cause = if_true (is_same_node k.from T || (true && true)) _ (ap (λ b. b && (is_origin k Ul (setting q id g) || is_passed_on q k u || is_copy q k f)) good ∙ cause (setting q id g))

  by_data : is_same_node k.from T ≡ false → HasCause q k f u → is_data pdu ≡ true → test_by q k f (pdu_of f) ≡ true
  by_data other cause yes' =
      let good = promised yes' in
      let in_range = small id g good.set good.in_plan in
      let viewed = up_is_viewed g id pdu in_range.0 in_range.1 in_range.2 in
      let now = good_protects q u (good_stays (reading (seen p)) (reading (seen q)) id g tag pdu becomes.grows good) in
      ap (λ o. test_by q k f (pdu_in tag o)) viewed ∙ ap (λ b. if is_uplink q k u then is_none_or (is_protected_pdu q k f) (if b then Some u else None) else true) yes'
      ∙ by_direction (direction_of q k u) other now cause

  -- the line that sends it
  relay_protects : is_same_node k.from T ≡ false → HasCause q k f u → protects_uplink q (line.Send k f) ≡ true
  relay_protects other cause = elim (cases_Bool (is_data pdu)) [ inl yes' ↦ by_data other cause yes' | inr no' ↦ by_control no' ]

-- ---- its cause

or_true : (a : Bool) → (a || true) ≡ true
or_true true = refl
or_true false = refl

same_number : (o : Option ℕ) → is_same_number o o ≡ true
same_number None = refl
same_number (Some n) = eq-eqb n n refl

and_true : (a b : Bool) → a ≡ true → b ≡ true → (a && b) ≡ true
and_true true b is more = more
and_true false b is more = is

same_node : (x : Node) → is_same_node x x ≡ true
same_node T = refl
same_node M = refl
same_node A = refl
same_node B = refl

same_pdu : (id g num : ℕ) (tag : Option ℕ) (pdu : List ℕ) → is_same_pdu (relayed id g tag pdu) (record { id = id; g = g; num = Some num; is_repeat = false; tag = tag; octets = pdu }) ≡ true
same_pdu id g num tag pdu =
    and_true ((id == id) && (g == g) && is_same_number tag tag) (is_same_octets pdu pdu)
    (and_true ((id == id) && (g == g)) (is_same_number tag tag) (and_true (id == id) (g == g) (eq-eqb id id refl) (eq-eqb g g refl)) (same_number tag)) (octets_same pdu pdu refl)

-- the node took it in this event
passed_cause : (q : Past) (l k : LinkId) (id g num : ℕ) (tag : Option ℕ) (pdu : List ℕ) → q.given ≡ Some (l, flight.Air id g num tag pdu) → k.from ≡ l.to → HasCause q k (flight.Tun tag (up_packet g id pdu)) (relayed id g tag pdu)
passed_cause q l k id g num tag pdu given same s =
    let u = relayed id g tag pdu in
    let passed : is_passed_on q k u ≡ true =
    ap (λ o. is_some_and (λ (x : LinkId × Flight). is_same_node x.0.to k.from && is_some_and (is_same_pdu u) (pdu_of x.1)) o) given
    ∙ and_true (is_same_node l.to k.from) (is_same_pdu u (record { id = id; g = g; num = Some num; is_repeat = false; tag = tag; octets = pdu }))
    (ap (is_same_node l.to) same ∙ same_node l.to) (same_pdu id g num tag pdu) in
    ap (λ b. is_origin k Ul s || b || is_copy q k (flight.Tun tag (up_packet g id pdu))) passed ∙ ap (λ b. b || is_copy q k (flight.Tun tag (up_packet g id pdu))) (or_true (is_origin k Ul s))

-- it is the copy of the event
copy_cause : (q : Past) (k : LinkId) (id g : ℕ) (tag : Option ℕ) (pdu : List ℕ) → q.copied ≡ Some (k, flight.Tun tag (up_packet g id pdu)) → HasCause q k (flight.Tun tag (up_packet g id pdu)) (relayed id g tag pdu)
copy_cause q k id g tag pdu copied s =
    let u = relayed id g tag pdu in
    let packet = up_packet g id pdu in
    let f = flight.Tun tag packet in
    let is : is_copy q k f ≡ true =
    ap (λ o. is_some_and (λ (x : LinkId × Flight). is_same_link k x.0 && is_same_packet f x.1) o) copied
    ∙ and_true (is_same_link k k) (is_same_packet f f) (same_itself k) (and_true (is_same_number tag tag) (is_same_octets packet packet) (same_number tag) (octets_same packet packet refl)) in
    ap (λ b. is_origin k Ul s || is_passed_on q k u || b) is ∙ or_true (is_origin k Ul s || is_passed_on q k u)

-- ---- other lines

none_up : (q : Past) (k : LinkId) (o : Option Pdu) → is_same_node k.from T ≡ false → is_some_and (λ (v : Pdu). is_none v.num) o ≡ false → is_some_and (is_uplink q k) o ≡ false
none_up q k None other none = refl
none_up q k (Some v) other none = rw (other, none) refl

-- a send of another node than the terminal that is no uplink PDU
plain_protects : (q : Past) (k : LinkId) (f : Flight) → is_same_node k.from T ≡ false → IsPlain (k, f) → protects_uplink q (line.Send k f) ≡ true
plain_protects q k (flight.Air id g num tag pdu) other plain = rw other refl
plain_protects q k (flight.Tun tag packet) other plain =
    let none = none_up q k (pdu_in tag (packet_of packet)) other (other_numbered tag packet plain) in
    ap (λ b. if b then is_none_or (is_protected_pdu q k (flight.Tun tag packet)) (if_data (pdu_in tag (packet_of packet))) else true) none
plain_protects q k (flight.Ack id g num) other plain = refl
plain_protects q k (flight.Sdu id g sdu) other plain = refl
plain_protects q k (flight.End id g) other plain = refl
plain_protects q k (flight.Told id g count) other plain = refl
plain_protects q k (flight.Ctl r) other plain = refl

-- ---- what a node sends

-- of a send
abbrev pub SendHolds : Past → Send → Type 0
SendHolds p s = HoldsFrom protects_uplink p (line.Send s.0 s.1)

from_other : (x : Node) (k : LinkId) → k.from ≡ x → is_same_node x T ≡ false → is_same_node k.from T ≡ false
from_other x k same other = ap (λ y. is_same_node y T) same ∙ other

pub plain_hold : (p : Past) (x : Node) (ss : List Send) → is_same_node x T ≡ false → AreBy x ss → ArePlain ss → AllByRecursion (SendHolds p) ss
plain_hold p x [] other by plain = tt
plain_hold p x (s ∷ ss) other by plain = (λ q becomes same. plain_protects q s.0 s.1 (from_other x s.0 by.0.0 other) plain.0, plain_hold p x ss other by.1 plain.1)

-- one that passes on what the event gives
passes_hold : (p : Past) (x : Node) (l : LinkId) (f : Flight) (s : Send) → AreSmall (reading (seen p)) → OnLink (reading (seen p)) l f → p.given ≡ Some (l, f) → l.to ≡ x → s.0.from ≡ x → is_same_node x T ≡ false
    → PassesOn AnyHost f s → SendHolds p s
passes_hold p x l f s small on given to from other is q becomes same =
    let here : OnLink (reading (seen p)) l (flight.Air is.id is.g is.num is.tag is.pdu) = subst (OnLink (reading (seen p)) l) is.is on in
    let now : q.given ≡ Some (l, flight.Air is.id is.g is.num is.tag is.pdu) = ap (λ (c : Option (LinkId × Flight) × Option (LinkId × Flight)). c.0) same ∙ given ∙ ap (λ g. Some (l, g)) is.is in
    subst (λ g. protects_uplink q (line.Send s.0 g) ≡ true) (sym is.relays)
    (relay_protects p q s.0 is.id is.g is.tag is.pdu becomes small (here (ap (λ y. is_same_node y T) to ∙ other)) (from_other x s.0 from other)
    (passed_cause q l s.0 is.id is.g is.num is.tag is.pdu now (from ∙ sym to)))

pub sent_hold : (p : Past) (x : Node) (l : LinkId) (f : Flight) (ss : List Send) → AreSmall (reading (seen p)) → OnLink (reading (seen p)) l f → p.given ≡ Some (l, f) → l.to ≡ x → is_same_node x T ≡ false
    → AreBy x ss → AreSentFor AnyHost f ss → AllByRecursion (SendHolds p) ss
sent_hold p x l f [] small on given to other by sent = tt
sent_hold p x l f (s ∷ ss) small on given to other by sent = (
  elim sent.0 [
    | inl plain ↦ λ q becomes same. plain_protects q s.0 s.1 (from_other x s.0 by.0.0 other) plain
    | inr passes ↦ passes_hold p x l f s small on given to by.0.0 other passes
  ],
  sent_hold p x l f ss small on given to other by.1 sent.1,
)

-- the copy of what stands in a tunnel
pub copy_holds : (p : Past) (k : LinkId) (f : Flight) → AreSmall (reading (seen p)) → OnLink (reading (seen p)) k f → is_same_node k.from T ≡ false → p.copied ≡ Some (k, f)
    → HoldsFrom protects_uplink p (line.Send k f)
copy_holds p k (flight.Tun tag packet) small (inl plain) other copied = λ q becomes same. plain_protects q k (flight.Tun tag packet) other plain
copy_holds p k (flight.Tun tag packet) small (inr x) other copied = λ q becomes same.
    let now : q.copied ≡ Some (k, flight.Tun tag (up_packet x.g x.id x.pdu)) = ap (λ (c : Option (LinkId × Flight) × Option (LinkId × Flight)). c.1) same ∙ copied ∙ ap (λ o. Some (k, flight.Tun tag o)) x.is in
    subst (λ o. protects_uplink q (line.Send k (flight.Tun tag o)) ≡ true) (sym x.is)
    (relay_protects p q k x.id x.g tag x.pdu becomes small x.promised other (copy_cause q k x.id x.g tag x.pdu now))
copy_holds p k (flight.Air id g num tag pdu) small on other copied = λ q becomes same. rw other refl
copy_holds p k (flight.Ack id g num) small on other copied = λ q becomes same. refl
copy_holds p k (flight.Sdu id g sdu) small on other copied = λ q becomes same. refl
copy_holds p k (flight.End id g) small on other copied = λ q becomes same. refl
copy_holds p k (flight.Told id g count) small on other copied = λ q becomes same. refl
copy_holds p k (flight.Ctl r) small on other copied = λ q becomes same. refl
