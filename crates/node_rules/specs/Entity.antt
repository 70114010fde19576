-- A PDCP entity, both its sides, over the legs of its bearer (TS 38.323, 4.2.2): terminal and anchor have the same one.
use Rattle.std.specs.Prelude.{ℕ, ◌+◌, ◌-◌, ◌^◌, ◌==◌, nat_lt, not, if◌then◌else◌, Bool, true, false, List, [], ◌∷◌, ◌++◌, length, filter, fold, Option, Some, None}
use Rattle.dc_base.specs.Count.{sn, count_for}
use Rattle.dc_base.specs.Nodes.{opposite}
use Rattle.dc_base.specs.declared.nodes.Alg.{Alg}
use Rattle.dc_base.specs.declared.nodes.Alg.TheVariants.{Nea0, Nea2}
use Rattle.dc_base.specs.declared.nodes.Dir.{Dir}
use Rattle.dc_base.specs.declared.nodes.Node.{Node}
use Rattle.key_chain.specs.Derived.{k_upenc}
use Rattle.nea2.specs.Combined.{combined}
use Rattle.nea2.specs.Keystream.{keystream}
use Rattle.pdcp_pdu.specs.Bitmap.{names}
use Rattle.pdcp_pdu.specs.DataPdu.{data_pdu}
use Rattle.pdcp_pdu.specs.Pdu.{Content, sdu, report}
use Rattle.pdcp_rx.specs.Entries.{Entry}
use Rattle.pdcp_rx.specs.Receiver.{put, handed_of}
use Rattle.pdcp_rx.specs.declared.entity.RxParts.{RxParts}
use Rattle.pdcp_tx.specs.Sender.{Sender, counts, low}
use Rattle.transcript.specs.Content.{direction_from}
use Rattle.split_leg.specs.Legs.{settled_on_both}
use Rattle.node_rules.specs.Setup.{Setup}

-- both sides of a PDCP entity, under what is set up for its bearer in the present generation (TS 38.323, 4.2.2)
pub record Entity : Type 0 where
  pub setup : Setup
  pub tx : Sender
  pub rx : RxParts

-- both sides begin at the first COUNT (TS 38.323, 5.1; the first COUNT is this product's own choice)
abbrev pub new_entity : Setup → Entity
new_entity s = record {
  setup = s;
  tx = record { n = s.n; next = s.first; kept = []; held = [] };
  rx = record { n = s.n; deliv = s.first; stored = [] };
}

-- the same entity in a new generation (TS 38.323, 5.1.2; TS 37.340, 10.3)
abbrev pub renewed : Entity → Setup → Entity
renewed e s = record e { setup = s }

-- ---- ciphering (TS 38.323, 5.8)

-- the keystream for so many octets; that of NEA0 needs no key (TS 38.323, 5.8)
abbrev pub stream : Alg → List ℕ → ℕ → ℕ → Dir → ℕ → List ℕ
stream Nea0 key count id d octets = keystream Nea0 [] count id d octets
stream Nea2 key count id d octets = keystream Nea2 (k_upenc key Nea2) count id d octets

-- octets under a COUNT, ciphered, or deciphered again (TS 38.323, 5.8)
abbrev pub ciphered : Setup → Dir → ℕ → List ℕ → List ℕ
ciphered s d count octets = combined octets (stream s.alg s.key count s.id d (length octets))

-- the direction in which a node receives (part of the rule received_under)
abbrev pub direction_to : Node → Dir
direction_to node = opposite (direction_from node)

-- the data PDU of an SDU with its COUNT (TS 38.323, 5.2.1 and 5.8)
abbrev pub pdu_of : Setup → Entry → List ℕ
pdu_of s e = data_pdu s.n (sn s.n e.0) (ciphered s (direction_from s.node) e.0 e.1)

-- ---- receiving

-- a data PDU with its COUNT is deciphered and received; the last COUNT is not used, and its PDU is discarded
-- (TS 38.323, 5.2.2; that the last COUNT is not used is this product's own)
abbrev pub received_under : Bool → Setup → RxParts → ℕ → List ℕ → RxParts × List Entry
received_under true s rx count body = (rx, [])
received_under false s rx count body =
    let done = put rx count (ciphered s (direction_to s.node) count body) in (done.0, handed_of done.1)

-- a data PDU for which there is no COUNT is discarded (TS 38.323, 5.2.2)
abbrev pub received_as : Setup → RxParts → List ℕ → Option ℕ → RxParts × List Entry
received_as s rx body None = (rx, [])
received_as s rx body (Some count) = received_under (count == 2 ^ 32 - 1) s rx count body

-- ---- confirming

-- the COUNTs that pass the test are confirmed: their SDUs are kept no more, and their PDUs are outstanding no more
-- (TS 38.323, 5.4.2)
abbrev pub confirmed_where : (ℕ → Bool) → Entity → Entity
confirmed_where test e =
    let named = filter test (counts e.tx.kept) in
    record e {
      setup = record e.setup { legs = fold (λ legs c. settled_on_both c (c + 1) legs) e.setup.legs named };
      tx = record e.tx { kept = filter (λ x. not (test x.0)) e.tx.kept };
    }

-- this COUNT is confirmed, if it is one (part of the rule confirmed_where)
abbrev pub confirmed_count : Entity → Option ℕ → Entity
confirmed_count e None = e
confirmed_count e (Some count) = confirmed_where (λ c. c == count) e

-- Low, where it rose (part of the rule risen_low)
abbrev pub risen : ℕ → ℕ → Option ℕ
risen before after = if nat_lt before after then Some after else None

-- Low after a step, where it rose (this product's own)
abbrev pub risen_low : Entity → Entity → Option ℕ
risen_low before after = risen (low before.tx) (low after.tx)

-- ---- what a PDU does

-- a data PDU is received (5.2.2), its COUNT inferred with RX_DELIV as the reference; a status report confirms what it
-- names (5.4.2; both of TS 38.323)
abbrev pub take_pdu : Entity → Content → Entity × List Entry
take_pdu e (sdu s body) =
    let done = received_as e.setup e.rx body (count_for e.setup.n e.rx.deliv s) in (record e { rx = done.0 }, done.1)
take_pdu e (report fmc bits) = (confirmed_where (names fmc bits) e, [])

-- PDUs come one after another (TS 38.323, 5.2.2)
abbrev pub take_pdus : Entity → List Content → Entity × List Entry
take_pdus e [] = (e, [])
take_pdus e (x ∷ xs) =
    let here = take_pdu e x in
    let later = take_pdus here.0 xs in
    (later.0, here.1 ++ later.1)
