-- Status reports of a receiving entity (TS 38.323, 5.4.1 and 6.2.3.1).
use Rattle.std.specs.Prelude.{ℕ, ◌≡◌, ◌≤◌, true, List, Ok, ⊤}
use Rattle.dc_base.specs.declared.numbers.SnLen.{SnLen}
use Rattle.pdcp_pdu.specs.Bitmap.{names}
use Rattle.pdcp_pdu.specs.Pdu.{Content, decoded, report, sdu}
use Rattle.pdcp_rx.specs.Receiver.{Received}
use Rattle.pdcp_rx.specs.declared.entity.RxParts.{RxParts}

-- FMC is not above RX_DELIV, and each COUNT that is named was received
pub record NamesReceived (rx : RxParts) (fmc : ℕ) (bits : List ℕ) : Type 0 where
  pub upto : fmc ≤ rx.deliv
  pub received : (c : ℕ) → names fmc bits c ≡ true → Received rx c

-- a status report of the entity, as it is read
abbrev pub IsReportOf : RxParts → Content → Type 0
IsReportOf rx (sdu sn body) = ⊥
IsReportOf rx (report fmc bits) = NamesReceived rx fmc bits

-- a PDU of which a status report is one of the entity
abbrev pub MayConfirm : RxParts → Content → Type 0
MayConfirm rx (sdu sn body) = ⊤
MayConfirm rx (report fmc bits) = NamesReceived rx fmc bits

-- the octets of a status report of the entity
pub record IsReportIn (rx : RxParts) (n : SnLen) (octets : List ℕ) : Type 0 where
  pub content : Content
  pub read : decoded n octets ≡ Ok content
  pub is : IsReportOf rx content
