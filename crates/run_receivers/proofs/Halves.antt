-- The terminal's half of a bearer: in downlink it takes PDUs, in uplink it submits and heeds status reports; all else leaves both sides
-- as they are.
use Rattle.std.proofs.Common.{ℕ, ◌≡◌, Bool, true, false, List, [], ◌∷◌, Option, Ok, refl, sym, ap, ◌∙◌, subst}
use Rattle.std.specs.Prelude.{Err, Result, if◌then◌else◌}
use Rattle.dc_base.specs.declared.nodes.Cell.{Cell}
use Rattle.dc_base.specs.declared.nodes.Cell.TheVariants.{Scg}
use Rattle.dc_base.specs.declared.nodes.Node.{Node}
use Rattle.dc_base.specs.declared.numbers.SnLen.{SnLen}
use Rattle.pdcp_pdu.specs.Pdu.{Content, decoded}
use Rattle.pdcp_pdu.specs.declared.pdu.PduErr.{PduErr}
use Rattle.pdcp_rx.specs.declared.entity.RxParts.{RxParts}
use Rattle.pdcp_tx.specs.Sender.{Sender}
use Rattle.pdcp_tx.specs.Sending.{take_sdu}
use Rattle.pdcp_tx.specs.declared.tx.TxErr.{TxErr}
use Rattle.pdcp_tx.specs.declared.tx.TxErr.TheVariants as unable
use Rattle.node_rules.specs.Choices.{Choices}
use Rattle.node_rules.specs.Entity.{renewed}
use Rattle.node_rules.specs.Setup.{Setup, has_cell, with_failed_scg}
use Rattle.node_rules.specs.TerminalHalf.{TerminalHalf, acked, pdu_came, submit_as, terminal_fail, terminal_recover, terminal_renew, terminal_report, terminal_submit}
use Rattle.run_receivers.specs.Anchors.{IsYoung}
use Rattle.run_receivers.specs.Lanes.{IsLane}
use Rattle.run_receivers.specs.Pdus.{Ciphering, IsPduIn, IsReader}
use Rattle.run_receivers.specs.Receiving.{HasTaken, IsReceiving}
use Rattle.run_receivers.specs.Reports.{IsReportIn}
use Rattle.run_receivers.specs.Submitted.{Submitted}
use Rattle.run_receivers.specs.Untouched.{IsUntouched}
use Rattle.run_receivers.proofs.Lanes.{lane_reported}
use Rattle.run_receivers.proofs.Taking.{reader_stays, young_taken}
use Rattle.run_receivers.proofs.Untouched.{counts_untouched, kept_untouched, reporting_untouched, tx_untouched, untouched, untouched_again}

-- ---- what leaves the receiving side

by_submission : (c : Choices) (h : TerminalHalf) (r : Result (Sender × ℕ) TxErr) → IsUntouched h (submit_as c h r).0
by_submission c h (Ok (tx, count)) = untouched_again h (record h { tx = tx }) _ (tx_untouched h tx) (counts_untouched c (record h { tx = tx }) (count ∷ []))
by_submission c h (Err (unable.Full lowest next)) = untouched h
by_submission c h (Err unable.Exhausted) = untouched h
by_submission c h (Err unable.Memory) = untouched h

pub submission_untouched : (c : Choices) (h : TerminalHalf) (p : List ℕ) → IsUntouched h (terminal_submit c h p).0
submission_untouched c h p = by_submission c h (take_sdu h.tx p)

pub recovery_untouched : (c : Choices) (h : TerminalHalf) → IsUntouched h (terminal_recover c h).0
recovery_untouched c h = kept_untouched c h

pub asking_untouched : (c : Choices) (h : TerminalHalf) → IsUntouched h (terminal_report c h).0
asking_untouched c h = reporting_untouched c h

pub failure_untouched : (h : TerminalHalf) → IsUntouched h (terminal_fail h)
failure_untouched h = by (has_cell h.setup Scg)
  where
    by : (t : Bool) → IsUntouched h (if◌then◌else◌ {A = TerminalHalf} t (record h { setup = with_failed_scg h.setup }) h)
    by true = record { setup = record { node = refl; id = refl; g = refl; n = refl; alg = refl; key = refl }; rx = refl }
    by false = untouched h

pub confirm_untouched : (h : TerminalHalf) (cell : Cell) (num : ℕ) → IsUntouched h (acked h cell num)
confirm_untouched h cell num = record { setup = record { node = refl; id = refl; g = refl; n = refl; alg = refl; key = refl }; rx = refl }

-- a new generation has its own setup, and the same two sides
pub renewal_rx : (c : Choices) (h : TerminalHalf) (s : Setup) → (terminal_renew c h s).0.rx ≡ h.rx
renewal_rx c h s = (recovery_untouched c (renewed h s)).rx

pub renewal_tx : (c : Choices) (h : TerminalHalf) (s : Setup) → (terminal_renew c h s).0.tx ≡ h.tx
renewal_tx c h s = refl

-- ---- what a PDU does

-- a PDU of downlink that is not aged is taken
pub pdu_came_taken : (u : Submitted) (low : ℕ) (k : Ciphering) (h : TerminalHalf) (from : Node) (num : ℕ) (tag : Option ℕ) (pdu : List ℕ)
    → IsReceiving u low h.rx → IsReader u k h.setup → IsPduIn u k tag pdu → IsYoung u h.rx tag
    → let done = pdu_came h from num (decoded h.setup.n pdu) in HasTaken u low (tag ∷ []) h.rx done.0.rx done.1.ups × IsReader u k done.0.setup
pdu_came_taken u low k h from num tag pdu r reader p young =
    let read : decoded h.setup.n pdu ≡ Ok p.content = ap (λ (n : SnLen). decoded n pdu) reader.same_n ∙ p.read in
    subst (λ (o : Result Content PduErr). let done = pdu_came h from num o in HasTaken u low
    (tag ∷ []) h.rx done.0.rx done.1.ups × IsReader u k done.0.setup) (sym read)
    (young_taken u low k h r reader tag p.content p.is young, reader_stays u k h p.content reader)

-- a status report of the entity that receives in uplink keeps the lane
pub report_came : (u : Submitted) (h : TerminalHalf) (rx : RxParts) (from : Node) (num : ℕ) (pdu : List ℕ) → IsLane u h.tx rx → IsReportIn rx h.setup.n pdu
    → IsLane u (pdu_came h from num (decoded h.setup.n pdu)).0.tx rx
report_came u h rx from num pdu lane p =
    subst (λ (o : Result Content PduErr). IsLane u (pdu_came h from num o).0.tx rx) (sym p.read) (lane_reported u h rx p.content lane p.is).0
