-- An uplink data PDU is the PDU of its submission (TS 38.323, 5.2.1 and 5.8; TS 33.501, D.2.1).
use Rattle.std.specs.Prelude.{List, None, Option, Some, [], find, if◌then◌else◌, length, nat_le, slice_get, slice_index_or, true, ℕ, ◌&&◌, ⊤, ◌+◌, ◌-◌, ◌<◌, ◌==◌, ◌≡◌, ◌≤◌, ◌∷◌}
use Rattle.std.specs.List.{AllByRecursion}
use Rattle.dc_base.specs.Records.{item_id}
use Rattle.dc_base.specs.declared.records.Item.{Item}
use Rattle.dc_base.specs.declared.records.Plan.{Plan}
use Rattle.dc_base.specs.Count.{sn}
use Rattle.dc_base.specs.declared.nodes.Dir.TheVariants.{Ul}
use Rattle.dc_base.specs.declared.nodes.KeyName.{KeyName}
use Rattle.nea2.specs.Combined.{combined}
use Rattle.pdcp_pdu.specs.DataPdu.{data_pdu, is_data}
use Rattle.claims.specs.Protected.{stream}
use Rattle.claims.specs.Reading.{Setting}
use Rattle.run_uplinks.specs.Readings.{Face, Reading}
use Rattle.run_uplinks.specs.Seen.{setting_in}

-- the establishment of an identity that a generation is one of: the latest that was drawn by then
abbrev pub named_face : ℕ → ℕ → List Face → Option Face
named_face id g faces = find (λ (f : Face). (f.id == id) && nat_le f.g g) faces

-- the payload that was submitted to it under this COUNT
abbrev pub payload_of : Face → ℕ → Option (List ℕ)
payload_of f c = if nat_le f.first c then slice_get f.submitted (c - f.first) else None

-- the payload as it is ciphered under a key
abbrev pub ciphered : Reading → Face → KeyName → ℕ → List ℕ → List ℕ
ciphered r f key c payload = combined payload (stream r.alg r.roots key c f.id Ul (length payload))

-- the octets of its PDU
abbrev pub pdu_octets : Reading → Face → KeyName → ℕ → List ℕ → List ℕ
pdu_octets r f key c payload = data_pdu f.n (sn f.n c) (ciphered r f key c payload)

-- a PDU of an identity and generation is the one of the submission with its tag as COUNT, under the key of the generation's plan,
-- whose root was named
pub record IsGoodPdu (r : Reading) (id g : ℕ) (tag : Option ℕ) (pdu : List ℕ) : Type 0 where
  pub set : Setting
  pub in_plan : setting_in r.plans id g ≡ Some set
  pub root : set.key.root < length r.roots
  pub face : Face
  pub of_face : named_face id g r.faces ≡ Some face
  pub count : ℕ
  pub tagged : tag ≡ Some count
  pub payload : List ℕ
  pub submitted : payload_of face count ≡ Some payload
  pub octets : pdu ≡ pdu_octets r face set.key count payload

-- it is so of a data PDU; of a control PDU nothing is said
abbrev pub IsPromised : Reading → ℕ → ℕ → Option ℕ → List ℕ → Type 0
IsPromised r id g tag pdu = is_data pdu ≡ true → IsGoodPdu r id g tag pdu

-- ---- what is read of a past grows

-- an establishment with more submissions
pub record Extends (f h : Face) : Type 0 where
  pub id : h.id ≡ f.id
  pub n : h.n ≡ f.n
  pub first : h.first ≡ f.first
  pub submitted : (k : ℕ) (payload : List ℕ) → slice_get f.submitted k ≡ Some payload → slice_get h.submitted k ≡ Some payload

-- plans that were drawn, roots that were named and payloads that were submitted stay
pub record GrowsTo (r s : Reading) : Type 0 where
  pub alg : s.alg ≡ r.alg
  pub settings : (id g : ℕ) (x : Setting) → setting_in r.plans id g ≡ Some x → setting_in s.plans id g ≡ Some x
  pub roots : (i : ℕ) → i < length r.roots → (i < length s.roots) × (slice_index_or s.roots i [] ≡ slice_index_or r.roots i [])
  pub faces : (id g : ℕ) (x : Setting) (f : Face) → setting_in r.plans id g ≡ Some x → named_face id g r.faces ≡ Some f
      → (h : Face) × (named_face id g s.faces ≡ Some h) × Extends f h

-- the identities of items ascend, from this one on
abbrev pub Ascend : ℕ → List Item → Type 0
Ascend from [] = ⊤
Ascend from (i ∷ items) = (from ≤ item_id i) × Ascend (item_id i + 1) items

-- so do those of each plan
abbrev pub AreApart : Reading → Type 0
AreApart r = AllByRecursion (λ (q : Plan). Ascend 0 q.items) r.plans

-- the roots of all keys that plans set were named
abbrev pub AreRooted : Reading → Type 0
AreRooted r = (id g : ℕ) (x : Setting) → setting_in r.plans id g ≡ Some x → x.key.root < length r.roots
