-- The PDUs of what was submitted, as they are read (TS 38.323, 5.8 and 6.2.2).
use Rattle.std.specs.Prelude.{ℕ, ◌≡◌, ◌≤◌, List, [], ◌∷◌, length, Option, Some, None, Ok, ⊤}
use Rattle.dc_base.specs.Count.{sn}
use Rattle.dc_base.specs.declared.nodes.Alg.{Alg}
use Rattle.dc_base.specs.declared.nodes.Dir.{Dir}
use Rattle.dc_base.specs.declared.flights.Flight.{Flight}
use Rattle.dc_base.specs.declared.flights.Flight.TheVariants as flight
use Rattle.nea2.specs.Combined.{combined}
use Rattle.pdcp_pdu.specs.Pdu.{Content, decoded, report, sdu}
use Rattle.transcript.specs.Content.{direction_from}
use Rattle.node_rules.specs.Entity.{direction_to, stream}
use Rattle.node_rules.specs.Setup.{Setup}
use Rattle.run_receivers.specs.Submitted.{IsSubmission, Submitted}

-- how the payloads of a bearer are ciphered in one direction, in one generation
pub record Ciphering : Type 0 where
  pub alg : Alg
  pub key : List ℕ
  pub id : ℕ
  pub d : Dir

-- a payload under its COUNT, ciphered
abbrev pub ciphered_by : Ciphering → ℕ → List ℕ → List ℕ
ciphered_by k count octets = combined octets (stream k.alg k.key count k.id k.d (length octets))

-- how a node ciphers in a direction
abbrev pub ciphering_in : Dir → Setup → Ciphering
ciphering_in d s = record { alg = s.alg; key = s.key; id = s.id; d = d }

-- the node receives what was submitted, so ciphered
pub record IsReader (u : Submitted) (k : Ciphering) (s : Setup) : Type 0 where
  pub same_n : s.n ≡ u.n
  pub same_key : ciphering_in (direction_to s.node) s ≡ k

-- the node sends what was submitted, so ciphered
pub record IsWriter (u : Submitted) (k : Ciphering) (s : Setup) : Type 0 where
  pub same_n : s.n ≡ u.n
  pub same_key : ciphering_in (direction_from s.node) s ≡ k

-- the data PDU of the submission with this COUNT, as it is read
pub record IsPduOf (u : Submitted) (k : Ciphering) (tag : ℕ) (x : Content) : Type 0 where
  pub payload : List ℕ
  pub submission : IsSubmission u (tag, payload)
  pub is : x ≡ sdu (sn u.n tag) (ciphered_by k tag payload)

-- that, or a status report, which has no COUNT
abbrev pub IsPdu : Submitted → Ciphering → Option ℕ → Content → Type 0
IsPdu u k (Some tag) x = IsPduOf u k tag x
IsPdu u k None (sdu sn body) = ⊥
IsPdu u k None (report fmc bits) = ⊤

-- the octets of one
pub record IsPduIn (u : Submitted) (k : Ciphering) (tag : Option ℕ) (octets : List ℕ) : Type 0 where
  pub content : Content
  pub read : decoded u.n octets ≡ Ok content
  pub is : IsPdu u k tag content

-- the COUNT, if there is one, is not below this one
abbrev pub IsFrom : ℕ → Option ℕ → Type 0
IsFrom low (Some tag) = low ≤ tag
IsFrom low None = ⊤

-- PDUs, each with its COUNT, none of which is below this one
abbrev pub ArePdus : Submitted → Ciphering → ℕ → List (Option ℕ) → List Content → Type 0
ArePdus u k low [] [] = ⊤
ArePdus u k low [] (x ∷ xs) = ⊥
ArePdus u k low (tag ∷ tags) [] = ⊥
ArePdus u k low (tag ∷ tags) (x ∷ xs) = IsPdu u k tag x × IsFrom low tag × ArePdus u k low tags xs

-- ---- on their way

-- a PDU with its COUNT, which is not below this one
pub record IsPduFrom (u : Submitted) (k : Ciphering) (low : ℕ) (tag : Option ℕ) (octets : List ℕ) : Type 0 where
  pub pdu : IsPduIn u k tag octets
  pub from : IsFrom low tag

-- a flight over the air, of this bearer and generation, with one
abbrev pub CarriesPdu : Submitted → Ciphering → ℕ → ℕ → ℕ → Flight → Type 0
CarriesPdu u k low id g (flight.Air i h num tag pdu) = (i ≡ id) × (h ≡ g) × IsPduFrom u k low tag pdu
CarriesPdu u k low id g _ = ⊥
