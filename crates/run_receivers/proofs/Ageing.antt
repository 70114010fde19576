-- A data PDU that is not refused as aged is within the window of its receiver.
use Rattle.std.proofs.Common.{ℕ, ◌≡◌, ◌+◌, ◌≤◌, true, false, List, Option, Some, None, Ok, refl, sym, ap, ◌∙◌, subst}
use Rattle.std.specs.Prelude.{nat_lt}
use Rattle.std.proofs.lemmas.Bool.{eq-eqb, le-leb, ltb-false}
use Rattle.dc_base.specs.Count.{window}
use Rattle.dc_base.specs.declared.numbers.SnLen.{SnLen}
use Rattle.pdcp_pdu.specs.DataPdu.{is_data}
use Rattle.pdcp_pdu.specs.Pdu.{decoded, judged, sdu}
use Rattle.pdcp_pdu.proofs.Reading.{decoded_cases, read_report_cases}
use Rattle.node_rules.specs.Entity.{Entity}
use Rattle.node_rules.specs.Flights.{pdu_weight}
use Rattle.node_rules.specs.NodeRule.{NodeState}
use Rattle.node_rules.specs.Readers.{edges_of, entity_at, entity_edges, is_aged_for, is_behind}
use Rattle.node_rules.specs.declared.bearers.Edges.{Edges}
use Rattle.run_receivers.specs.Anchors.{IsYoung}
use Rattle.run_receivers.specs.Pdus.{Ciphering, IsPduIn}
use Rattle.run_receivers.specs.Submitted.{Submitted}

-- what is read as an SDU is a data PDU
sdu_is_data : (n : SnLen) (octets : List ℕ) (s : ℕ) (body : List ℕ) → decoded n octets ≡ Ok (sdu s body) → is_data octets ≡ true
sdu_is_data n octets s body =
    decoded_cases (λ o. o ≡ Ok (sdu s body) → is_data octets ≡ true) n octets (λ e. absurd (cc (e))) (λ high e. le-leb _ _ high) (λ e. absurd (cc (e)))
    (λ low. read_report_cases (λ o. o ≡ Ok (sdu s body) → is_data octets ≡ true) octets (λ e. absurd (cc (e))) (λ e. absurd (cc (e)))
    (λ least most found is. not_sdu _ _ found))
  where
    not_sdu : (fmc : ℕ) (bits : List ℕ) (found : Option ℕ) → judged fmc bits found ≡ Ok (sdu s body) → is_data octets ≡ true
    not_sdu fmc bits None e = absurd (cc (e))
    not_sdu fmc bits (Some i) e = absurd (cc (e))

-- the data PDU of a submission, with its COUNT, that is not aged for the node that has its receiving entity in its generation
pub young_if_not_aged : (u : Submitted) (k : Ciphering) (s : NodeState) (e : Entity) (id g tag : ℕ) (pdu : List ℕ) → IsPduIn u k (Some tag) pdu
    → entity_at s id ≡ Some e → e.setup.g ≡ g → e.setup.n ≡ u.n
    → is_aged_for s (pdu_weight id g tag pdu) ≡ false → IsYoung u e.rx (Some tag)
young_if_not_aged u k s e id g tag pdu p there of same young =
    let data' : is_data pdu ≡ true = sdu_is_data u.n pdu _ _ (p.read ∙ ap Ok p.is.is) in
    let edges : edges_of g (entity_at s id) ≡ Some (entity_edges e) = ap (edges_of g) there ∙ rw (eq-eqb e.setup.g g of) refl in
    let behind : is_behind tag (λ x. x.deliv) (edges_of g (entity_at s id)) ≡ false = rw data' at young in
    let near : nat_lt (tag + window e.setup.n) e.rx.deliv ≡ false = sym (ap (is_behind tag (λ (x : Edges). x.deliv)) edges) ∙ behind in
    let le = ltb-false (tag + window e.setup.n) e.rx.deliv near in
    subst (λ (n : SnLen). e.rx.deliv ≤ tag + window n) same le
