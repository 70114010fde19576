-- A status report of a receiving entity names what was received, when it is written and ever after.
use Rattle.std.proofs.Common.{ℕ, zero, suc, ◌≡◌, ◌+◌, ◌-◌, ◌^◌, ◌<◌, ◌≤◌, ◌==◌, ◌||◌, List, [], ◌∷◌, Option, None, true, get_or, refl, sym, ap, ◌∙◌, subst, arith, inl, inr}
use Rattle.std.specs.Prelude.{nat_lt, ◌&&◌}
use Rattle.std.specs.List.{AllByRecursion}
use Rattle.std.proofs.lemmas.Bool.{cases_Bool, or_cases, ltb-true}
use Rattle.dc_base.specs.declared.numbers.SnLen.{SnLen}
use Rattle.pdcp_pdu.specs.Bitmap.{is_among}
use Rattle.pdcp_pdu.specs.Pdu.{Content, report, sdu}
use Rattle.pdcp_pdu.specs.StatusReport.{report_pdu, sent_bits, sent_set}
use Rattle.pdcp_pdu.proofs.Ascending.{Ascending}
use Rattle.pdcp_pdu.proofs.Reports.{sent_again, sent_names}
use Rattle.pdcp_rx.specs.Entries.{AscendFrom, Entry, counts_of, is_stored}
use Rattle.pdcp_rx.specs.Receiver.{IsInOrder, Received}
use Rattle.pdcp_rx.specs.declared.entity.RxParts.{RxParts}
use Rattle.transcript.proofs.OnEach.{each_weaker}
use Rattle.node_rules.specs.Choices.{Choices}
use Rattle.node_rules.specs.Entity.{Entity}
use Rattle.node_rules.specs.Sending.{Pdu, send_report}
use Rattle.node_rules.specs.declared.bearers.OnLeg.{OnLeg}
use Rattle.run_legs.specs.Puts.{IsAmong}
use Rattle.run_legs.proofs.Entities.{has_sent}
use Rattle.run_receivers.specs.Receiving.{HasTaken, IsReceiving}
use Rattle.run_receivers.specs.Reports.{IsReportIn, IsReportOf, NamesReceived, MayConfirm}
use Rattle.run_receivers.specs.Submitted.{Submitted}
use Rattle.run_receivers.proofs.Growing.{in_order}

-- ---- as it is written

-- the COUNTs that are stored ascend above RX_DELIV
stored_ascend : (c : ℕ) (es : List Entry) → AscendFrom (c + 1) es → Ascending c (counts_of es)
stored_ascend c [] up = tt
stored_ascend c (e ∷ es) up = (omega (arith, up.0), stored_ascend e.0 es up.1)

stored_small : (es : List Entry) → AllByRecursion (λ e. e.0 < 2 ^ 32 - 1) es → (i : ℕ) → get_or (counts_of es) i 0 < 2 ^ 32
stored_small [] all i = omega arith
stored_small (e ∷ es) all zero = omega (arith, all.0)
stored_small (e ∷ es) all (suc i) = stored_small es all.1 i

among_stored : (c : ℕ) (es : List Entry) → is_among (counts_of es) c ≡ is_stored c es
among_stored c [] = refl
among_stored c (e ∷ es) = ap (λ b. (e.0 == c) || b) (among_stored c es)

-- what is to be named was received
set_received : (rx : RxParts) (c : ℕ) → sent_set rx.deliv (counts_of rx.stored) c ≡ true → Received rx c
set_received rx c named =
    elim (or_cases (nat_lt c rx.deliv) (is_among (counts_of rx.stored) c && nat_lt c (rx.deliv + 71961)) named) [
      | inl below ↦ inl (ltb-true c rx.deliv below)
      | inr among ↦ elim (cases_Bool (is_among (counts_of rx.stored) c)) [
        | inl stored ↦ inr (sym (among_stored c rx.stored) ∙ stored)
        | inr not_there ↦ let e = rw not_there at among in absurd (cc (e))
      ]
    ]

-- the report that is written is one of the entity
pub report_written : (rx : RxParts) (n : SnLen) → IsInOrder rx → rx.deliv < 2 ^ 32 → IsReportIn rx n (report_pdu rx.deliv (counts_of rx.stored))
report_written rx n order small =
    let counts = counts_of rx.stored in
    let ascends = stored_ascend rx.deliv rx.stored order.ascends in
    record {
      content = report rx.deliv (sent_bits rx.deliv counts);
      read = sent_again rx.deliv counts (report_pdu rx.deliv counts) small (stored_small rx.stored order.not_last) ascends refl n;
      is = record { upto = omega arith; received = λ c named. set_received rx c (sym (sent_names rx.deliv counts c ascends) ∙ named) };
    }

-- a PDU on a leg that is a report of the entity
abbrev pub IsReportOnLeg : RxParts → SnLen → OnLeg → Type 0
IsReportOnLeg rx n p = (p.pdu.0 ≡ None) × IsReportIn rx n p.pdu.1

-- what is put on the legs for a report
pub reports_sent : (u : Submitted) (low : ℕ) (c : Choices) (e : Entity) (n : SnLen) → IsReceiving u low e.rx
    → AllByRecursion (IsReportOnLeg e.rx n) (send_report c e).1
reports_sent u low c e n r =
    let order = in_order u low e.rx r in
    let small = r.small in let upto = r.upto in
    let pdu : Pdu = (None, report_pdu e.rx.deliv (counts_of e.rx.stored)) in
    let sent = has_sent c e (pdu ∷ []) in
    let good = report_written e.rx n order (omega arith) in
    each_weaker (λ (p : OnLeg). IsAmong (pdu ∷ []) p.pdu) (IsReportOnLeg e.rx n)
    (λ p there. elim there [
      | inl is ↦ (ap (λ (x : Pdu). x.0) is, subst (IsReportIn e.rx n) (sym (ap (λ (x : Pdu). x.1) is)) good)
      | inr none ↦ absurd none
    ]) (send_report c e).1 sent.legs.those

-- ---- later

pub names_later : (before after : RxParts) (fmc : ℕ) (bits : List ℕ) → before.deliv ≤ after.deliv → ((c : ℕ) → Received before c → Received after c)
    → NamesReceived before fmc bits → NamesReceived after fmc bits
names_later before after fmc bits rises grown n = let upto = n.upto in record { upto = omega arith; received = λ c named. grown c (n.received c named) }

-- a report of the entity is one as it receives more
pub report_later : (u : Submitted) (low : ℕ) (tags : List (Option ℕ)) (before after : RxParts) (ups : List Entry) (x : Content)
    → HasTaken u low tags before after ups → IsReportOf before x → IsReportOf after x
report_later u low tags before after ups (sdu sn body) t is = is
report_later u low tags before after ups (report fmc bits) t is = names_later before after fmc bits t.rises t.grown is

pub confirm_later : (u : Submitted) (low : ℕ) (tags : List (Option ℕ)) (before after : RxParts) (ups : List Entry) (x : Content)
    → HasTaken u low tags before after ups
    → MayConfirm before x → MayConfirm after x
confirm_later u low tags before after ups (sdu sn body) t is = tt
confirm_later u low tags before after ups (report fmc bits) t is = names_later before after fmc bits t.rises t.grown is

pub report_in_later : (u : Submitted) (low : ℕ) (tags : List (Option ℕ)) (before after : RxParts) (ups : List Entry) (n : SnLen) (octets : List ℕ)
    → HasTaken u low tags before after ups
    → IsReportIn before n octets → IsReportIn after n octets
report_in_later u low tags before after ups n octets t r =
    record { content = r.content; read = r.read; is = report_later u low tags before after ups r.content t r.is }
