-- Which octets are a packet: TS 29.281, 5.1 and 5.2.
use Rattle.std.specs.Prelude.{◌≡◌, ℕ, ◌/◌, ◌%◌, ◌^◌, ◌<◌, ◌≤◌, List, ◌∷◌, ◌++◌, length, Option, None}
use Rattle.std.specs.Int.{w16, w32, to_be_bytes}
use Rattle.gtpu.specs.declared.packet.GtpKind.{GtpKind}
use Rattle.gtpu.specs.declared.packet.PduNumber.{PduNumber}
use Rattle.gtpu.specs.Content.{Content, message_type}
use Rattle.gtpu.specs.Extension.{AreExtensions}

-- what stands behind the TEID, by the flags E (4), S (2) and PN (1)
pub data IsAfterTeid (flags : ℕ) (container : Option (List ℕ)) (number : Option PduNumber) (body octets : List ℕ) : Type 0 where
  -- without a flag, the body
  plain : flags ≡ 0 → container ≡ None → number ≡ None → octets ≡ body → IsAfterTeid flags container number body octets
  -- with S or PN alone a sequence number of two octets, an N-PDU number and a next type, all ignored
  sequenced : 0 < flags → flags < 4 → container ≡ None → number ≡ None → (s t n e : ℕ) → octets ≡ s ∷ t ∷ n ∷ e ∷ body → IsAfterTeid flags container number body octets
  -- with E the same numbers, and extension headers up to a next type of 0
  extended : 4 ≤ flags → (s t n : ℕ) (more : List ℕ) → octets ≡ s ∷ t ∷ n ∷ more → AreExtensions more container number (0 ∷ body) → IsAfterTeid flags container number body octets

-- version 1 and PT 1 with the flags, the message type, the length of all after octet 7, the TEID, and the rest
pub record HasHeader (octets : List ℕ) (first : ℕ) (kind : GtpKind) (teid : ℕ) (after : List ℕ) : Type 0 where
  pub spelled : octets ≡ first ∷ message_type kind ∷ to_be_bytes w16 (length after) ++ to_be_bytes w32 teid ++ after
  pub version : first / 16 ≡ 3
  pub fits : teid < 2 ^ 32
  pub short : length after < 2 ^ 16

-- the octets are a packet that says this
pub record IsPacket (p : Content) (octets : List ℕ) : Type 0 where
  pub first : ℕ
  pub after : List ℕ
  pub header : HasHeader octets first p.kind p.teid after
  pub parts : IsAfterTeid (first % 8) p.container p.number p.body after
