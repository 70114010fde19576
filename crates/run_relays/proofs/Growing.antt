-- What is read of a past grows, and a PDU that is that of its submission stays so.
use Rattle.std.proofs.Common.{ℕ, ◌≡◌, ◌<◌, ◌-◌, Bool, true, false, List, [], Option, Some, None, length, slice_get, refl, sym, ap, subst, ◌∙◌}
use Rattle.std.specs.Prelude.{if◌then◌else◌, nat_le, slice_index_or}
use Rattle.dc_base.specs.Count.{sn}
use Rattle.dc_base.specs.declared.nodes.Alg.{Alg}
use Rattle.dc_base.specs.declared.nodes.Alg.TheVariants.{Nea0, Nea2}
use Rattle.dc_base.specs.declared.nodes.Dir.TheVariants.{Ul}
use Rattle.dc_base.specs.declared.nodes.KeyName.{KeyName}
use Rattle.dc_base.specs.declared.numbers.SnLen.{SnLen}
use Rattle.key_chain.specs.Derived.{k_upenc}
use Rattle.key_chain.specs.KeyNames.{octets_of_side}
use Rattle.nea2.specs.Combined.{combined}
use Rattle.nea2.specs.Keystream.{keystream}
use Rattle.pdcp_pdu.specs.DataPdu.{data_pdu}
use Rattle.claims.specs.Protected.{stream}
use Rattle.run_uplinks.specs.Readings.{Face, Reading}
use Rattle.run_relays.specs.Pdus.{Extends, GrowsTo, IsGoodPdu, IsPromised, payload_of, pdu_octets}

-- ---- growth

pub extends_self : (f : Face) → Extends f f
extends_self f = record { id = refl; n = refl; first = refl; submitted = λ k payload at. at }

extends_then : (f h k : Face) → Extends f h → Extends h k → Extends f k
extends_then f h k one more = record {
  id = more.id ∙ one.id;
  n = more.n ∙ one.n;
  first = more.first ∙ one.first;
  submitted = λ i payload at. more.submitted i payload (one.submitted i payload at);
}

-- nothing changes
pub grows_self : (r : Reading) → GrowsTo r r
grows_self r = record { alg = refl; settings = λ id g x at. at; roots = λ i below. (below, refl); faces = λ id g x f set at. (f, at, extends_self f) }

pub grows_same : (r s : Reading) → s ≡ r → GrowsTo r s
grows_same r s same = subst (GrowsTo r) (sym same) (grows_self r)

-- one growth after another
pub grows_then : (r s t : Reading) → GrowsTo r s → GrowsTo s t → GrowsTo r t
grows_then r s t one more = record {
  alg = more.alg ∙ one.alg;
  settings = λ id g x at. more.settings id g x (one.settings id g x at);
  roots = λ i below. let a = one.roots i below in let b = more.roots i a.0 in (b.0, b.1 ∙ a.1);
  faces = λ id g x f set at.
      let a = one.faces id g x f set at in
      let b = more.faces id g x a.0 (one.settings id g x set) a.1 in
      (b.0, b.1, extends_then f a.0 b.0 a.2 b.2);
}

-- ---- a PDU stays the one of its submission

-- a key of a root that was named gives the same keystream
stream_stays : (a : Alg) (rs ss : List (List ℕ)) (key : KeyName) (c id len : ℕ) → slice_index_or ss key.root [] ≡ slice_index_or rs key.root [] → stream a ss key c id Ul len ≡ stream a rs key c id Ul len
stream_stays Nea0 rs ss key c id len same = refl
stream_stays Nea2 rs ss key c id len same = ap (λ o. keystream Nea2 (k_upenc (octets_of_side o key.side) Nea2) c id Ul len) same

payload_stays : (f h : Face) (c : ℕ) (payload : List ℕ) → Extends f h → payload_of f c ≡ Some payload → payload_of h c ≡ Some payload
payload_stays f h c payload more at = ap (λ k. if nat_le k c then slice_get h.submitted (c - k) else None) more.first ∙ by (nat_le f.first c) at
  where
    by : (b : Bool) → (if b then slice_get f.submitted (c - f.first) else None) ≡ Some payload → (if b then slice_get h.submitted (c - f.first) else None) ≡ Some payload
    by true there = more.submitted (c - f.first) payload there
    by false there = absurd (let bad : None ≡ Some payload = there in cc)

-- the PDU by the parts of an establishment
abbrev pdu_by : SnLen → Alg → List (List ℕ) → KeyName → ℕ → ℕ → List ℕ → List ℕ
pdu_by n a roots key c id payload = data_pdu n (sn n c) (combined payload (stream a roots key c id Ul (length payload)))

octets_stay : (r s : Reading) (f h : Face) (key : KeyName) (c : ℕ) (payload : List ℕ) → GrowsTo r s → key.root < length r.roots → Extends f h
    → pdu_octets r f key c payload ≡ pdu_octets s h key c payload
octets_stay r s f h key c payload grows root more =
    sym (ap (λ n. pdu_by n s.alg s.roots key c h.id payload) more.n ∙ ap (λ i. pdu_by f.n s.alg s.roots key c i payload) more.id ∙ ap (λ a. pdu_by f.n a s.roots key c f.id payload) grows.alg
    ∙ ap (λ o. data_pdu f.n (sn f.n c) (combined payload o)) (stream_stays r.alg r.roots s.roots key c f.id (length payload) (grows.roots key.root root).1))

pub good_stays : (r s : Reading) (id g : ℕ) (tag : Option ℕ) (pdu : List ℕ) → GrowsTo r s → IsGoodPdu r id g tag pdu → IsGoodPdu s id g tag pdu
good_stays r s id g tag pdu grows is =
    let x = grows.faces id g is.set is.face is.in_plan is.of_face in
    record {
      set = is.set;
      in_plan = grows.settings id g is.set is.in_plan;
      root = (grows.roots is.set.key.root is.root).0;
      face = x.0;
      of_face = x.1;
      count = is.count;
      tagged = is.tagged;
      payload = is.payload;
      submitted = payload_stays is.face x.0 is.count is.payload x.2 is.submitted;
      octets = is.octets ∙ octets_stay r s is.face x.0 is.set.key is.count is.payload grows is.root x.2;
    }

pub promise_stays : (r s : Reading) (id g : ℕ) (tag : Option ℕ) (pdu : List ℕ) → GrowsTo r s → IsPromised r id g tag pdu → IsPromised s id g tag pdu
promise_stays r s id g tag pdu grows is data' = good_stays r s id g tag pdu grows (is data')
