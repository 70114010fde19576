-- A payload that is ciphered twice is as it was, and the data PDU of one is read again.
use Rattle.std.proofs.Common.{ℕ, ◌≡◌, ◌-◌, ◌<◌, ◌≤◌, List, Some, Ok, length, refl, ap, ◌∙◌, arith}
use Rattle.std.specs.List.{AllByRecursion}
use Rattle.dc_base.specs.Count.{modulus, sn}
use Rattle.dc_base.specs.declared.numbers.SnLen.{SnLen}
use Rattle.dc_base.proofs.Counting.{sn_small}
use Rattle.nea2.specs.Combined.{combined}
use Rattle.nea2.proofs.CombinedLaws.{combined-combined, length-combined}
use Rattle.pdcp_pdu.specs.DataPdu.{IsPayload, data_pdu}
use Rattle.pdcp_pdu.specs.Pdu.{decoded, sdu}
use Rattle.pdcp_pdu.proofs.Reading.{data_again}
use Rattle.transcript.specs.Content.{direction_from}
use Rattle.transcript.proofs.OnEach.{each_at}
use Rattle.node_rules.specs.Entity.{pdu_of, stream}
use Rattle.node_rules.specs.Setup.{Setup}
use Rattle.run_receivers.specs.Pdus.{Ciphering, IsPduIn, IsWriter, ciphered_by, ciphering_in}
use Rattle.run_receivers.specs.Submitted.{IsSubmission, Submitted}

length-ciphered : (k : Ciphering) (count : ℕ) (text : List ℕ) → length (ciphered_by k count text) ≡ length text
length-ciphered k count text = length-combined text _

-- ciphered twice it is as before
pub ciphered_twice : (k : Ciphering) (count : ℕ) (text : List ℕ) → ciphered_by k count (ciphered_by k count text) ≡ text
ciphered_twice k count text =
    let key = stream k.alg k.key count k.id k.d (length text) in
    ap (λ n. combined (combined text key) (stream k.alg k.key count k.id k.d n)) (length-combined text key) ∙ combined-combined text key

-- a data PDU is read again
data_read : (n : SnLen) (shown : ℕ) (body : List ℕ) → shown < modulus n → 1 ≤ length body → length body ≤ 9000
    → decoded n (data_pdu n shown body) ≡ Ok (sdu shown body)
unfolding data_pdu
data_read n shown body small some most = data_again n 0 shown body small some most

-- the payload of a submission is one
pub payload_is : (u : Submitted) (c : ℕ) (p : List ℕ) → AllByRecursion IsPayload u.payloads → IsSubmission u (c, p) → IsPayload p
payload_is u c p all s = each_at IsPayload u.payloads (c - u.first) p all s.payload

-- what is sent for a submission is its PDU
pub pdu_sent : (u : Submitted) (k : Ciphering) (s : Setup) (c : ℕ) (p : List ℕ) → AllByRecursion IsPayload u.payloads → IsWriter u k s → IsSubmission u (c, p)
    → IsPduIn u k (Some c) (pdu_of s (c, p))
pdu_sent u k s c p all writer sub =
    let good = payload_is u c p all sub in
    let some = good.some in let most = good.most in
    let body = ciphered_by k c p in
    let long = length-ciphered k c p in
    let is : pdu_of s (c, p) ≡ data_pdu u.n (sn u.n c) body =
    ap (λ (n : SnLen). data_pdu n (sn n c) (ciphered_by (ciphering_in (direction_from s.node) s) c p)) writer.same_n
    ∙ ap (λ (j : Ciphering). data_pdu u.n (sn u.n c) (ciphered_by j c p)) writer.same_key in
    record {
      content = sdu (sn u.n c) body;
      read = ap (decoded u.n) is ∙ data_read u.n (sn u.n c) body (sn_small u.n c) (omega arith) (omega arith);
      is = record { payload = p; submission = sub; is = refl };
    }
