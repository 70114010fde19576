-- What the anchor of a bearer holds: the node that has its PDCP entity (TS 37.340, 4.2.2 and 8).
use Rattle.std.specs.Prelude.{ℕ, Bool, false, List, [], Option, Some, None}
use Rattle.dc_base.specs.declared.numbers.SnLen.{SnLen}
use Rattle.dc_base.specs.declared.records.StatusTransfer.{StatusTransfer}
use Rattle.nr_u.specs.Tunnel.Outgoing.{Outgoing}
use Rattle.pdcp_pdu.specs.Pdu.{Content}
use Rattle.pdcp_tx.specs.Sender.{low}
use Rattle.node_rules.specs.Choices.{Send}
use Rattle.node_rules.specs.Entity.{Entity, new_entity, renewed}
use Rattle.forward.specs.Forwarded.{Forwarded, nothing_came}
use Rattle.node_rules.specs.Setup.{Setup}
use Rattle.node_rules.specs.declared.bearers.AnchorOut.{AnchorOut}

-- an anchor with the PDCP entity and its end of the tunnel to the host. It is closed until the reconfiguration is complete,
-- and open from then on (TS 37.340, 4.2.2; when it opens: 10.2 to 10.5)
pub record Active : Type 0 where
  pub entity : Entity
  pub is_open : Bool
  pub tunnel : Outgoing

-- an anchor that waits for SN STATUS TRANSFER and for all that the old anchor forwards, and keeps what comes until then
-- (TS 37.340, 10; TS 38.423, 8.2.2)
pub record Waiting : Type 0 where
  pub setup : Setup
  pub is_told : Bool  -- that the reconfiguration is complete
  pub transfer : Option StatusTransfer
  pub down : Forwarded  -- what came in the downlink forwarding tunnel
  pub up : Forwarded  -- and in that of the uplink
  pub pdus : List Content  -- the uplink PDUs of its generation, in the order in which they came
  pub fresh : List (List ℕ)  -- the SDUs from the core, in their order

-- an anchor at a node (TS 37.340, 4.2.2)
pub data AnchorState : Type 0 where
  waiting_anchor : (w : Waiting) → AnchorState
  active_anchor : (a : Active) → AnchorState

-- nothing comes of it (this product's own)
abbrev pub silent : AnchorOut
silent = record { adopted = false; ups = []; low = None; sends = [] }

-- only sends come of it (this product's own)
abbrev pub sending : List Send → AnchorOut
sending sends = record { adopted = false; ups = []; low = None; sends = sends }

-- a tunnel in which nothing was sent (TS 38.425, 5.4.1)
abbrev pub new_tunnel : SnLen → Outgoing
new_tunnel n = record { n = n; next = 0; waiting = []; unasked = []; confirmed = [] }

-- the anchor of a new bearer: active and closed (TS 37.340, 10.2 and 10.3; TS 38.323, 5.1)
abbrev pub fresh : Setup → AnchorState
fresh s = active_anchor (record { entity = new_entity s; is_open = false; tunnel = new_tunnel s.n })

-- the anchor to which a bearer moves (TS 37.340, 10; TS 38.423, 8.2.2)
abbrev pub waiting : Setup → AnchorState
waiting s = waiting_anchor (record {
  setup = s;
  is_told = false;
  transfer = None;
  down = nothing_came;
  up = nothing_came;
  pdus = [];
  fresh = [];
})

-- the anchor in a new generation at the same node: closed, with the same entity, the new key, and legs and tunnel anew
-- (TS 37.340, 10.3: a PSCell change or key change with the same anchor)
abbrev pub renew : Active → Setup → Active
renew a s = record { entity = renewed a.entity s; is_open = false; tunnel = new_tunnel s.n }

-- ---- what the node reads

-- what is set up in this generation (this product's own)
abbrev pub setup_at : AnchorState → Setup
setup_at (waiting_anchor w) = w.setup
setup_at (active_anchor a) = a.entity.setup

-- RX_DELIV; None while the anchor waits (this product's own)
abbrev pub deliv_at : AnchorState → Option ℕ
deliv_at (waiting_anchor w) = None
deliv_at (active_anchor a) = Some a.entity.rx.deliv

-- Low; None while the anchor waits (this product's own)
abbrev pub low_at : AnchorState → Option ℕ
low_at (waiting_anchor w) = None
low_at (active_anchor a) = Some (low a.entity.tx)
