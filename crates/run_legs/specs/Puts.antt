-- What sends put on the legs of a bearer (TS 38.323, 5.2.1 and 5.11.1).
use Rattle.std.specs.Prelude.{Bool, List, [], false, filter, length, map, true, ⊤, ℕ, ◌+◌, ◌++◌, ◌||◌, ◌∷◌, ◌≡◌, ◌⊎◌}
use Rattle.std.specs.List.{AllByRecursion}
use Rattle.dc_base.specs.declared.nodes.Cell.{Cell}
use Rattle.dc_base.specs.declared.nodes.Cell.TheVariants.{Mcg, Scg}
use Rattle.split_leg.specs.declared.leg.Pdu.{Pdu}
use Rattle.split_leg.specs.Legs.{LegState, LegsState}
use Rattle.split_leg.specs.Routes.{is_live}
use Rattle.node_rules.specs.declared.bearers.OnLeg.{OnLeg}
use Rattle.node_rules.specs.Setup.{is_same_cell}
use Rattle.node_rules.specs.Sending as sending

-- it is one of these
abbrev pub IsAmong : {X : Type 0} → List X → X → Type 0
IsAmong [] x = ⊥
IsAmong (y ∷ ys) x = (x ≡ y) ⊎ IsAmong ys x

-- of what was put, that over one cell group, in its order
abbrev pub over : Cell → List OnLeg → List OnLeg
over cell puts = filter (λ (p : OnLeg). is_same_cell p.cell cell) puts

-- they have the numbers from this one on
abbrev pub AreNumbered : ℕ → List OnLeg → Type 0
AreNumbered num [] = ⊤
AreNumbered num (p ∷ ps) = (p.num ≡ num) × AreNumbered (num + 1) ps

-- a PDU as its leg has it, before its confirm
abbrev pub listed : OnLeg → Pdu
listed p = record { count = p.pdu.0; octets = length p.pdu.1; repeat = p.repeat; acked = false; settled = false }

-- a leg has behind what it had what was put on it, under the next numbers, and nothing else changed
pub record HasGrown (puts : List OnLeg) (before after : LegState) : Type 0 where
  pub pdus : after.pdus ≡ before.pdus ++ map listed puts
  pub failed : after.failed ≡ before.failed
  pub numbered : AreNumbered (length before.pdus) puts

-- both legs have, and the bearer is routed as it was
pub record HaveGrown (puts : List OnLeg) (before after : LegsState) : Type 0 where
  pub shape : after.shape ≡ before.shape
  pub threshold : after.threshold ≡ before.threshold
  pub policy : after.policy ≡ before.policy
  pub mcg : HasGrown (over Mcg puts) before.mcg after.mcg
  pub scg : HasGrown (over Scg puts) before.scg after.scg

-- the PDU is one that was put
abbrev pub IsPut : List OnLeg → sending.Pdu → Type 0
IsPut puts pdu = IsAmong (map (λ (p : OnLeg). p.pdu) puts) pdu

-- PDUs were sent: legs that are live have them, and no others; each is on a leg, where one is live
pub record AreSent (pdus : List sending.Pdu) (before after : LegsState) (puts : List OnLeg) : Type 0 where
  pub grown : HaveGrown puts before after
  pub those : AllByRecursion (λ (p : OnLeg). IsAmong pdus p.pdu) puts
  pub live : AllByRecursion (λ (p : OnLeg). is_live before p.cell ≡ true) puts
  pub all : (is_live before Mcg || is_live before Scg) ≡ true → AllByRecursion (IsPut puts) pdus
