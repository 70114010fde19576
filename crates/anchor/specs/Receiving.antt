-- What octets and records do that come to an anchor.
use Rattle.std.specs.Prelude.{Bool, true, false, List, [], ◌∷◌, ◌++◌, ◌&&◌, Option, Some, None, Result, Ok, Err, is_none, if◌then◌else◌}
use Rattle.dc_base.specs.declared.records.StatusTransfer.{StatusTransfer}
use Rattle.pdcp_pdu.specs.Pdu.{Content}
use Rattle.pdcp_pdu.specs.declared.pdu.PduErr.{PduErr}
use Rattle.node_rules.specs.Adopting.{settled}
use Rattle.node_rules.specs.Anchor.{AnchorState, Waiting, active_anchor, silent, waiting_anchor}
use Rattle.node_rules.specs.AnchorReceiving.{pdu_in}
use Rattle.node_rules.specs.Choices.{Choices}
use Rattle.node_rules.specs.declared.bearers.AnchorOut.{AnchorOut}
use Rattle.node_rules.specs.Setup.{is_of}

-- by how they are read; those that are no PDU do nothing (None)
abbrev pub octets_in : AnchorState → Result Content PduErr → Option (AnchorState × AnchorOut)
octets_in s (Err e) = None
octets_in s (Ok x) = Some (pdu_in s x)

-- a waiting anchor keeps a PDU
abbrev pub kept_pdu : Waiting → Result Content PduErr → Waiting × Bool
kept_pdu w (Err e) = (w, false)
kept_pdu w (Ok x) = (record w { pdus = w.pdus ++ x ∷ [] }, true)

-- it keeps the first SN STATUS TRANSFER of its bearer and generation
abbrev pub status_noted : Waiting → StatusTransfer → Waiting × Bool
status_noted w st = if is_of w.setup st.id st.g && is_none w.transfer then (record w { transfer = Some st }, true) else (w, false)

-- an anchor after something that it waits for came
abbrev pub settled_at : Choices → AnchorState → AnchorState × AnchorOut
settled_at c (waiting_anchor w) = settled c w
settled_at c (active_anchor a) = (active_anchor a, silent)
