-- What is so at any moment of a run of the plans that were drawn, of the rows of the command table, and of the secondary nodes.
use Rattle.std.proofs.Common.{ℕ}
use Rattle.dc_base.specs.declared.events.Event.{Event}
use Rattle.dc_base.specs.declared.events.Header.{Header}
use Rattle.node_rules.specs.Choices.{Choices}
use Rattle.node_rules.specs.Run.{world_step}
use Rattle.node_rules.specs.World.{World, new_world}
use Rattle.claims.specs.Noted.{after}
use Rattle.claims.specs.Past.{Past, new_past}
use Rattle.run_control.specs.Sound.{AddsSecond}
use Rattle.run_keys.specs.Names.{HoldsKeys}
use Rattle.run_keys.proofs.Worlds.{holds_keys_new, holds_keys_next}
use Rattle.run_pairs.proofs.Runs.{ArePaired, event_paired, new_paired}
use Rattle.run_relays.proofs.Runs.{Relays, relays_new, relays_next}
use Rattle.run_relays.proofs.SetRuns.{Planned, planned_new, planned_next}

-- each anchor is set up as the plan of its generation sets it; each row is of the latest establishment of its identity; and each secondary
-- node is paired with the master
pub record AreEstablished (p : Past) (w : World) : Type 0 where
  pub relays : Relays p w
  pub planned : Planned p w
  pub keys : HoldsKeys p w
  pub paired : ArePaired w

pub established_new : (c : Choices) (h : Header) (policies : ℕ) → AreEstablished (new_past h policies) (new_world h)
established_new c h policies = record {
  relays = relays_new c h policies;
  planned = planned_new h policies;
  keys = holds_keys_new h policies;
  paired = new_paired h;
}

pub established_next : (c : Choices) (w : World) (p : Past) (e : Event) → AddsSecond e → AreEstablished p w
    → AreEstablished (after p (world_step c w e).1) (world_step c w e).0
established_next c w p e adds is =
    let kept = is.relays.holds.agreed.kept in
    record {
      relays = relays_next c w p e adds is.relays;
      planned = planned_next c w p e adds is.relays is.planned;
      keys = holds_keys_next c w p is.keys e adds;
      paired = event_paired c w e adds kept is.paired;
    }
