-- What each step of the PDCP entity of an anchor keeps, whatever comes (TS 38.323, 5.2 and 5.4).
use Rattle.std.specs.Prelude.{Bool, List, Ok, ⊤, ℕ, ◌≡◌}
use Rattle.dc_base.specs.declared.records.StatusTransfer.{StatusTransfer}
use Rattle.forward.specs.Load.{Sdu}
use Rattle.pdcp_rx.specs.declared.entity.RxParts.{RxParts}
use Rattle.pdcp_tx.specs.Sender.{Sender}
use Rattle.pdcp_tx.specs.Sending.{give_numbers, hold_sdu, take_sdu}
use Rattle.split_leg.specs.Legs.{LegsState}
use Rattle.node_rules.specs.Adopting.{taken_over}
use Rattle.node_rules.specs.Anchor.{AnchorState, Waiting, active_anchor, waiting_anchor}
use Rattle.node_rules.specs.Entity.{Entity, confirmed_where}
use Rattle.node_rules.specs.declared.bearers.AnchorOut.{AnchorOut}

-- it is so of an entity that is taken over, and stays so as an SDU is taken or held, as those that are held are numbered, as PDUs are put
-- on the legs, as COUNTs are confirmed and as a PDU is received
pub record IsEntityLaw (Q : Entity → Type 0) : Type 0 where
  pub begins : (w : Waiting) (st : StatusTransfer) (down up : List Sdu) → Q (taken_over w st down up)
  pub takes : (e : Entity) (payload : List ℕ) (tx : Sender) (count : ℕ) → take_sdu e.tx payload ≡ Ok (tx, count) → Q e → Q (record e { tx = tx })
  pub holds : (e : Entity) (payload : List ℕ) → Q e → Q (record e { tx = hold_sdu e.tx payload })
  pub numbers : (e : Entity) (tx : Sender) (given : List ℕ) → give_numbers e.tx ≡ Ok (tx, given) → Q e → Q (record e { tx = tx })
  pub sends : (e : Entity) (legs : LegsState) → Q e → Q (record e { setup = record e.setup { legs = legs } })
  pub confirms : (test : ℕ → Bool) (e : Entity) → Q e → Q (confirmed_where test e)
  pub receives : (e : Entity) (rx : RxParts) → Q e → Q (record e { rx = rx })

-- of the entity of an active anchor
abbrev pub OfActive : (Entity → Type 0) → AnchorState → Type 0
OfActive Q (waiting_anchor w) = ⊤
OfActive Q (active_anchor a) = Q a.entity

-- a step of an anchor keeps it
abbrev pub Keeps : (Entity → Type 0) → AnchorState → AnchorState × AnchorOut → Type 0
Keeps Q s done = OfActive Q s → OfActive Q done.0

-- the entity sends with SNs of the length that is set up
abbrev pub HasLength : Entity → Type 0
HasLength e = e.tx.n ≡ e.setup.n
