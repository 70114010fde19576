-- The table of the claims is the master's after any events of a run.
use Rattle.std.proofs.Common.{ℕ, ◌≡◌, List, [], ◌∷◌, refl}
use Rattle.std.specs.List.{AllByRecursion}
use Rattle.std.specs.Prelude.{length}
use Rattle.dc_base.specs.declared.events.Event.{Event}
use Rattle.dc_base.specs.declared.events.Header.{Header}
use Rattle.claims.specs.Noted.{after, past, past_from}
use Rattle.claims.specs.Past.{Past, new_past}
use Rattle.node_rules.specs.Choices.{Choices}
use Rattle.node_rules.specs.Run.{entries_from, world_after, world_step}
use Rattle.node_rules.specs.World.{World, new_world}
use Rattle.master_runs.proofs.Contents.{long_next}
use Rattle.run_control.specs.Sound.{AddsSecond}
use Rattle.run_table.specs.SameTable.{Agree, NoOrderInTunnels}
use Rattle.run_table.specs.View.{view}
use Rattle.run_table.proofs.Steps.{agree_new, agree_next, agrees_after}
use Rattle.run_table.proofs.Tunnels.{no_order_new, no_order_next}

-- what lasts in a run
pub record Lasts (p : Past) (w : World) : Type 0 where
  pub agree : Agree (view p) w.master.proc
  pub none : NoOrderInTunnels w
  pub long : length w.links ≡ 64

pub lasts_new : (h : Header) (policies : ℕ) → Lasts (new_past h policies) (new_world h)
lasts_new h policies = record { agree = agree_new h policies; none = no_order_new h; long = refl }

pub lasts_next : (c : Choices) (w : World) (p : Past) (e : Event) → AddsSecond e → Lasts p w → Lasts (after p (world_step c w e).1) (world_step c w e).0
lasts_next c w p e names l =
    let done = agrees_after c w p (view p) e names l.none l.agree in record {
      agree = agree_next c w p e names l.none l.agree;
      none = no_order_next c w e done.words.order l.long l.none done.sent;
      long = long_next c w e l.long;
    }

lasts_on : (c : Choices) (es : List Event) → AllByRecursion AddsSecond es → (w : World) (p : Past) → Lasts p w → Lasts (past_from p (entries_from c w es)) (world_after c w es)
lasts_on c [] names w p l = l
lasts_on c (e ∷ es) names w p l = lasts_on c es names.1 (world_step c w e).0 (after p (world_step c w e).1) (lasts_next c w p e names.0 l)

-- after any events of which each addition is of a secondary node, the command table and the open command of the claims are
-- those of the master
pub same_table : (c : Choices) (h : Header) (policies : ℕ) (es : List Event) → AllByRecursion AddsSecond es
    → Agree (view (past h policies (entries_from c (new_world h) es))) (world_after c (new_world h) es).master.proc
same_table c h policies es names = (lasts_on c es names (new_world h) (new_past h policies) (lasts_new h policies)).agree
