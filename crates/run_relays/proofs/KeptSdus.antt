-- What a kept SDU is: the ciphered payload of a submission, under its SN.
use Rattle.std.proofs.Common.{ℕ, ◌≡◌, ◌≤◌, ◌<◌, ◌+◌, ◌++◌, true, List, Option, Some, None, Result, Ok, get_or, length, refl, sym, ap, ◌∙◌, arith}
use Rattle.std.proofs.lemmas.Bool.{le-leb}
use Rattle.dc_base.proofs.Counting.{sn_small}
use Rattle.dc_base.specs.Count.{modulus, sn}
use Rattle.dc_base.specs.declared.numbers.SnLen.{SnLen}
use Rattle.dc_base.specs.declared.numbers.SnLen.TheVariants.{S12, S18}
use Rattle.pdcp_pdu.specs.DataPdu.{data_pdu, header, header_len, is_data}
use Rattle.pdcp_pdu.specs.Pdu.{Content, decoded, judged, sdu}
use Rattle.pdcp_pdu.specs.declared.pdu.PduErr.{PduErr}
use Rattle.pdcp_pdu.proofs.Reading.{data_again, decoded_cases, decoded_data, read_data_cases, read_report_cases}
use Rattle.node_rules.specs.Setup.{Setup}
use Rattle.run_uplinks.specs.Readings.{Reading}
use Rattle.run_relays.specs.Kept.{HasTag, IsKeptSdu, IsReadOf}
use Rattle.run_relays.specs.Pdus.{ciphered}

-- ---- what is read of a PDU

-- an SDU is read of a data PDU alone
judged_is : (fmc : ℕ) (bits : List ℕ) (k : ℕ) (body : List ℕ) (found : Option ℕ) → judged fmc bits found ≡ Ok (sdu k body) → ⊥
judged_is fmc bits k body None is = cc
judged_is fmc bits k body (Some i) is = cc

read_of_data : (n : SnLen) (pdu : List ℕ) (k : ℕ) (body : List ℕ) → decoded n pdu ≡ Ok (sdu k body) → is_data pdu ≡ true
read_of_data n pdu k body =
    let Q : Result Content PduErr → Type 0 = λ r. r ≡ Ok (sdu k body) → is_data pdu ≡ true in
    decoded_cases Q n pdu (λ e. absurd cc) (λ first e. le-leb 128 (get_or pdu 0 0) first) (λ e. absurd cc)
    (λ first. read_report_cases Q pdu (λ e. absurd cc) (λ e. absurd cc) (λ least most found at e. absurd (judged_is _ _ k body found e)))

first_octet : (n : SnLen) (s : ℕ) (body : List ℕ) → 128 ≤ get_or (header n 0 s ++ body) 0 0
first_octet S12 s body = omega arith
first_octet S18 s body = omega arith

header_length : (n : SnLen) (s : ℕ) (body : List ℕ) → length (header n 0 s ++ body) ≡ header_len n + length body
header_length S12 s body = omega arith
header_length S18 s body = omega arith

-- of a data PDU that can be read, what it was written of
read_again : (n : SnLen) (s : ℕ) (body : List ℕ) (x : Content) → s < modulus n → decoded n (header n 0 s ++ body) ≡ Ok x → x ≡ sdu s body
read_again n s body x small is =
    let octets = header n 0 s ++ body in
    let Q : Result Content PduErr → Type 0 = λ r. r ≡ Ok x → x ≡ sdu s body in
    read_data_cases Q n octets (λ e. absurd cc) (λ e. absurd cc)
    (λ least most e.
    let len = header_length n s body in
    let again : decoded n octets ≡ Ok (sdu s body) = data_again n 0 s body small (omega (arith, len, least)) (omega (arith, len, most)) in
    let same : Ok x ≡ Ok (sdu s body) = sym is ∙ again in
    cc)
    (sym (decoded_data n octets (first_octet n s body)) ∙ is)

unfolded : (n : SnLen) (s : ℕ) (body : List ℕ) → data_pdu n s body ≡ header n 0 s ++ body
unfolding data_pdu
unfolded n s body = refl

-- ---- what is kept

-- each SDU that is read of a promised PDU, where the node has the length of SNs of the establishment
pub kept_sdu : (r : Reading) (s : Setup) (k : ℕ) (body : List ℕ) → IsReadOf (HasTag r) s (sdu k body) → IsKeptSdu r s k body
kept_sdu r s k body is =
    let good = is.so.promised (read_of_data s.n is.pdu k body is.reads) in
    record {
      tag = is.so.tag;
      pdu = is.pdu;
      good = good;
      sn_is = λ same.
          let f = good.face in
          let octets : decoded f.n (header f.n 0 (sn f.n good.count) ++ ciphered r f good.set.key good.count good.payload) ≡ Ok (sdu k body) =
          ap (decoded f.n) (sym (good.octets ∙ unfolded f.n (sn f.n good.count) (ciphered r f good.set.key good.count good.payload))) ∙ ap (λ n. decoded n is.pdu) (sym same) ∙ is.reads in
          read_again f.n (sn f.n good.count) (ciphered r f good.set.key good.count good.payload) (sdu k body) (sn_small f.n good.count) octets;
    }
