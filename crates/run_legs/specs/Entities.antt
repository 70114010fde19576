-- What a PDCP entity's sends are (TS 38.323, 5.2.1).
use Rattle.std.specs.Prelude.{List, Option, Some, ℕ, ◌≡◌}
use Rattle.pdcp_tx.specs.Sender.{sdu_at}
use Rattle.node_rules.specs.Entity.{Entity, pdu_of}
use Rattle.node_rules.specs.Sending.{Pdu}
use Rattle.node_rules.specs.declared.bearers.OnLeg.{OnLeg}
use Rattle.run_legs.specs.Puts.{AreSent}

-- an entity sent PDUs: nothing of it changed but its legs
pub record HasSent (pdus : List Pdu) (e : Entity) (done : Entity × List OnLeg) : Type 0 where
  pub tx : done.0.tx ≡ e.tx
  pub rx : done.0.rx ≡ e.rx
  pub setup : done.0.setup ≡ record e.setup { legs = done.0.setup.legs }
  pub legs : AreSent pdus e.setup.legs done.0.setup.legs done.1

-- the PDU is the data PDU of an SDU that the entity keeps, under its COUNT
pub record IsOfKept (e : Entity) (pdu : Pdu) : Type 0 where
  pub count : ℕ
  pub sdu : List ℕ
  pub kept : sdu_at e.tx.kept count ≡ Some sdu
  pub is : pdu ≡ (Some count, pdu_of e.setup (count, sdu))
