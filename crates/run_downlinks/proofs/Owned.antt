-- What an anchor that is keyed by its plan sends of what was submitted is the PDUs of submissions, from the anchor of their plan.
use Rattle.std.proofs.Common.{ℕ, ◌≡◌, ◌+◌, ◌*◌, ◌≤◌, ◌==◌, ◌&&◌, ◌∙◌, Bool, true, false, List, [], ◌∷◌, Option, Some, None, arith, length, refl, sym, ap, subst, inl, inr}
use Rattle.std.specs.Prelude.{if◌then◌else◌, nat_le, ◌%◌, ◌/◌, ◌^◌}
use Rattle.std.specs.List.{AllByRecursion}
use Rattle.std.proofs.lemmas.Bool.{cases_Bool, eqb-true}
use Rattle.dc_base.specs.Count.{sn}
use Rattle.dc_base.specs.Nodes.{is_same_node}
use Rattle.dc_base.specs.declared.flights.Flight.TheVariants as flight
use Rattle.dc_base.specs.declared.nodes.Alg.{Alg}
use Rattle.dc_base.specs.declared.nodes.Alg.TheVariants.{Nea0, Nea2}
use Rattle.dc_base.specs.declared.nodes.Dir.{Dir}
use Rattle.dc_base.specs.declared.nodes.Dir.TheVariants.{Dl}
use Rattle.dc_base.specs.declared.nodes.KeyName.{KeyName}
use Rattle.dc_base.specs.declared.nodes.LinkId.{LinkId}
use Rattle.dc_base.specs.declared.nodes.Node.{Node}
use Rattle.dc_base.specs.declared.nodes.Node.TheVariants.{A, B, M, T}
use Rattle.dc_base.specs.declared.numbers.SnLen.{SnLen}
use Rattle.dc_base.specs.declared.numbers.SnLen.TheVariants.{S12, S18}
use Rattle.key_chain.specs.KeyNames.{octets}
use Rattle.nea2.specs.Combined.{combined}
use Rattle.nea2.specs.Keystream.{keystream}
use Rattle.pdcp_pdu.specs.DataPdu.{data_pdu, is_data}
use Rattle.pdcp_tx.specs.Sender.{Entry}
use Rattle.transcript.specs.Content.{direction_from}
use Rattle.claims.specs.Protected as protected
use Rattle.claims.specs.Reading.{anchor_in}
use Rattle.node_rules.specs.Choices.{Send}
use Rattle.node_rules.specs.Entity.{stream}
use Rattle.node_rules.specs.Packets.{down_packet, own_packet}
use Rattle.node_rules.specs.Setup.{Setup}
use Rattle.run_words.specs.Senders.{AreBy}
use Rattle.run_uplinks.specs.Readings.{Face, Reading}
use Rattle.run_uplinks.proofs.Establishments.{some_is}
use Rattle.run_relays.specs.Pdus.{named_face}
use Rattle.run_downlinks.specs.Canonical.{AreSentOf, IsDataOf, IsPacketOf, IsSentOf, keying, pdu_by}
use Rattle.run_downlinks.specs.Downlinks.{IsDownOf, IsDownSend, IsOwn, down_octets}
use Rattle.run_downlinks.specs.Keyed.{IsKeyedBy, IsSubmittedTo}

-- the keystream of a key is that of its name
stream_is : (alg : Alg) (roots : List (List ℕ)) (name : KeyName) (count id len : ℕ) → stream alg (octets roots name) count id Dl len ≡ protected.stream alg roots name count id Dl len
unfolding keystream
stream_is Nea0 roots name count id len = refl
stream_is Nea2 roots name count id len = refl

-- the establishment that a generation names is of the identity
found_id : (id g : ℕ) (fs : List Face) (f : Face) → named_face id g fs ≡ Some f → f.id ≡ id
found_id id g [] f at = absurd (let bad : None ≡ Some f = at in cc)
found_id id g (x ∷ fs) f at =
    elim (cases_Bool ((x.id == id) && nat_le x.g g)) [
      | inl here ↦ ap (λ (y : Face). y.id) (sym (some_is x f (rw here at at))) ∙ eqb-true x.id id (left_of (x.id == id) (nat_le x.g g) here)
      | inr there ↦ found_id id g fs f (rw there at at)
    ]
  where
    left_of : (a b : Bool) → (a && b) ≡ true → a ≡ true
    left_of true b is = refl
    left_of false b is = is

same_node : (x : Node) → is_same_node x x ≡ true
same_node T = refl
same_node M = refl
same_node A = refl
same_node B = refl

-- the header has three octets at most
length-data_pdu : (n : SnLen) (shown : ℕ) (body : List ℕ) → length (data_pdu n shown body) ≤ length body + 3
unfolding data_pdu
length-data_pdu S12 shown body = omega arith
length-data_pdu S18 shown body = omega arith

length-combined : (text keys : List ℕ) → length (combined text keys) ≡ length text
length-combined text [] = refl
length-combined [] (k ∷ ks) = refl
length-combined (x ∷ xs) (k ∷ ks) = let rest = length-combined xs ks in cc

-- the number in a packet is written in three octets
same_written : (g id number : ℕ) (repeat : Bool) (pdu : List ℕ) → down_packet g id number repeat pdu ≡ down_packet g id (number % 2 ^ 24) repeat pdu
same_written g id number repeat pdu =
    ap (λ a. by a (number / 256 % 256) (number % 256)) first ∙ ap (λ b. by (number % 2 ^ 24 / 65536 % 256) b (number % 256)) second ∙ ap (λ c. by (number % 2 ^ 24 / 65536 % 256) (number % 2 ^ 24 / 256 % 256) c) third
  where
    by : ℕ → ℕ → ℕ → List ℕ
    by a b c = own_packet g id (Some ((1 + 2 * (if repeat then 1 else 0)) ∷ a ∷ b ∷ c ∷ 0 ∷ 0 ∷ [])) pdu

    first : number / 65536 % 256 ≡ number % 2 ^ 24 / 65536 % 256
    first = omega arith

    second : number / 256 % 256 ≡ number % 2 ^ 24 / 256 % 256
    second = omega arith

    third : number % 256 ≡ number % 2 ^ 24 % 256
    third = omega arith

module _ (r : Reading) (s : Setup) (keyed : IsKeyedBy r s) where
  -- the PDU by the parts of a setup
  abbrev pdu_for : Entry → SnLen → Alg → List ℕ → ℕ → Dir → List ℕ
  pdu_for e n alg key id d = data_pdu n (sn n e.0) (combined e.1 (stream alg key e.0 id d (length e.1)))

  octets_are : (e : Entry) → pdu_by (keying s) e ≡ down_octets r keyed.face keyed.set.key e.0 e.1
  octets_are e =
      let f = keyed.face in
      let name = keyed.set.key in
      let id : f.id ≡ s.id = found_id s.id s.g r.faces f keyed.of_face in
      ap (λ n. pdu_for e n s.alg s.key s.id (direction_from s.node)) keyed.n
      ∙ ap (λ a. pdu_for e f.n a s.key s.id (direction_from s.node)) keyed.alg
      ∙ ap (λ k. pdu_for e f.n r.alg k s.id (direction_from s.node)) keyed.key
      ∙ ap (λ d. pdu_for e f.n r.alg (octets r.roots name) s.id d) keyed.down
      ∙ ap (λ i. pdu_for e f.n r.alg (octets r.roots name) i Dl) (sym id)
      ∙ ap (λ z. data_pdu f.n (sn f.n e.0) (combined e.1 z)) (stream_is r.alg r.roots name e.0 f.id (length e.1))

  data_owned : (l : LinkId) (tag : Option ℕ) (pdu : List ℕ) → l.from ≡ s.node → IsDataOf (keying s) (IsSubmittedTo keyed.face) tag pdu → is_data pdu ≡ true → IsOwn r l s.id s.g tag pdu
  data_owned l tag pdu from is data' =
      let x = is data' in
      record {
        good = record {
          set = keyed.set;
          in_plan = keyed.in_plan;
          root = keyed.root;
          face = keyed.face;
          of_face = keyed.of_face;
          count = x.entry.0;
          tagged = x.tagged;
          payload = x.entry.1;
          submitted = x.so.is;
          octets = x.is ∙ octets_are x.entry;
        };
        from = ap (λ y. is_same_node y (anchor_in keyed.set)) (from ∙ keyed.node) ∙ same_node (anchor_in keyed.set);
      }

  packet_is : (tag : Option ℕ) (packet : List ℕ) → IsPacketOf (keying s) (IsSubmittedTo keyed.face) tag packet → IsDownOf packet
  packet_is tag packet is = record {
    id = s.id;
    g = s.g;
    number = is.number % 2 ^ 24;
    repeat = is.repeat;
    pdu = is.pdu;
    is = is.is ∙ same_written s.g s.id is.number is.repeat is.pdu;
    some = keyed.some;
    most = keyed.most;
    small = keyed.small;
    few = omega arith;
    short = short (is_data is.pdu) refl;
  }
    where
      short : (b : Bool) → is_data is.pdu ≡ b → length is.pdu ≤ 2 ^ 15
      short true data' =
          let x = is.so data' in
          let k = keying s in
          let body = combined x.entry.1 (stream k.alg k.key x.entry.0 k.id k.d (length x.entry.1)) in
          let one = length-data_pdu k.n (sn k.n x.entry.0) body in
          let two = length-combined x.entry.1 (stream k.alg k.key x.entry.0 k.id k.d (length x.entry.1)) in
          let all : length is.pdu ≡ length (data_pdu k.n (sn k.n x.entry.0) body) = ap length x.is in
          let most = x.so.most in
          omega (arith, one, two, all, most)
      short false control = let few = is.control control in omega (arith, few)

  one_owned : (Passes : ℕ → ℕ → Option ℕ → List ℕ → Type 0) (x : Send) → x.0.from ≡ s.node → IsSentOf (keying s) (IsSubmittedTo keyed.face) x → IsDownSend Passes r x
  unfolding packet_is
  one_owned Passes (l, flight.Air id g num tag pdu) from is =
      inl (λ data'. subst (λ i. IsOwn r l i g tag pdu) (sym is.0) (subst (λ h. IsOwn r l s.id h tag pdu) (sym is.1) (data_owned l tag pdu from is.2 data')))
  one_owned Passes (l, flight.Tun tag packet) from is = inr (record { of = packet_is tag packet is; own = λ data'. data_owned l tag is.pdu from is.so data' })
  one_owned Passes (l, flight.Ack id g num) from is = tt
  one_owned Passes (l, flight.Sdu id g sdu) from is = tt
  one_owned Passes (l, flight.End id g) from is = tt
  one_owned Passes (l, flight.Told id g count) from is = tt
  one_owned Passes (l, flight.Ctl c) from is = tt

  -- all that it sends
  pub sends_owned : (Passes : ℕ → ℕ → Option ℕ → List ℕ → Type 0) (ss : List Send) → AreBy s.node ss → AreSentOf (keying s) (IsSubmittedTo keyed.face) ss → AllByRecursion (IsDownSend Passes r) ss
  sends_owned Passes [] by all = tt
  sends_owned Passes (x ∷ ss) by all = (one_owned Passes x by.0.0 all.0, sends_owned Passes ss by.1 all.1)
