-- What octets that come do to a bearer.
use Rattle.std.proofs.Common.{◌≡◌, ℕ, List, ap, Some, None, Ok, Err, Result, refl}
use Rattle.dc_base.specs.declared.nodes.Node.{Node}
use Rattle.node_rules.specs.declared.bearers.HalfOut.{HalfOut}
use Rattle.node_rules.specs.Entity.{Entity, take_pdu}
use Rattle.node_rules.specs.TerminalHalf.{ack, pdu_came, silent, stepped}
use Rattle.pdcp_entity.specs.Reading.{taken_as}
use Rattle.pdcp_pdu.specs.Pdu.{Content}
use Rattle.pdcp_pdu.specs.declared.pdu.PduErr.{PduErr}

-- what was read is confirmed
pub pdu_came-read : (e : Entity) (from : Node) (num : ℕ) (x : Result Content PduErr) (done : Entity × List (ℕ × List ℕ)) → Some done ≡ taken_as e x → stepped e (ack e.setup from num) done ≡ pdu_came e from num x
pdu_came-read e from num (Ok x) done is = let same : done ≡ take_pdu e x = cc in ap (stepped e (ack e.setup from num)) same
pdu_came-read e from num (Err why) done is = cc

-- what can not be read does nothing
pub pdu_came-unread : (e : Entity) (from : Node) (num : ℕ) (x : Result Content PduErr) → taken_as e x ≡ None → (let out : Entity × HalfOut = (e, silent) in out) ≡ pdu_came e from num x
pdu_came-unread e from num (Ok x) is = cc
pdu_came-unread e from num (Err why) is = refl
