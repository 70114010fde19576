use mathlib.Core.List.{[], ◌∷◌}
use mir.Syntax.{named}
use denote.Param.{param}
use denote.Param.Object.{Vt, ghosts_of}
use denote.Param.Callables.{held_fn}
use denote.Param.Send.{IsSend, sendable, struct_send}
use denote.Param.SendFields.{as_row_send}
use denote.Struct.Declared.{shape}
use denote.Struct.Field.{shr_ref_field, u64-field}
use Rattle.std.proofs.Common.{rules}
use Rattle.std.proofs.Crossing.{Vec-send, crosses, dyn_box_send}
use Rattle.live_run.specs.contracts.together.run_all.dyn-1 as dyn-1
use Rattle.outlets.specs.contracts.boxes.Inboxes as Inboxes
use Rattle.split_leg.specs.contracts.policies.Policies as Policies
use Rattle.split_leg.specs.contracts.policies.Policy as Policy
use Rattle.workers.specs.contracts.worker.Worker as Worker
use Rattle.live_run.proofs.Crosses.{closure_send, inboxes_sync, octets_send, worker_send}
use Rattle.live_run.proofs.together.run_all.Goals as goal

pub join-t-requires-send-F : goal.join-t-requires-send-F
join-t-requires-send-F g c κs within =
    let b = c.type_bounds in
    let V = Vt (dyn-1.slots g.row.C g.row.D g.row.E g.row.G g.row.S g.row.R) g.dyn-1.0 in
    let G = ghosts_of (dyn-1.slots g.row.C g.row.D g.row.E g.row.G g.row.S g.row.R) g.dyn-1.0 g.dyn-1.1 in
    let F = held_fn g.dyn-1.0 in
    let sends : (i : g.dyn-1.0.I) → IsSend (g.dyn-1.0.entry i).0 = λ i. search (rules, g.dyn-1-has, g.dyn-1.1, g.dyn-1) in
    let policy : IsSend (Policy.the_field V G F).row = struct_send (shape (Policy.the_type V G F)) (octets_send, (search sendable, (search sendable, (dyn_box_send V G sends (search sendable), tt)))) in
    let policies : IsSend (Policies.the_row V G F) =
    as_row_send (Policies.the_field V G F) (struct_send (shape (Policies.the_type V G F)) (Vec-send (Policy.the_row V G F) (as_row_send (Policy.the_field V G F) policy), tt)) in
    let X = Worker.the_row (param 0 g.row.C) (param 3 g.row.G) (param 4 g.row.S) in
    let Y = Worker.the_row (param 1 g.row.D) (param 3 g.row.G) (param 4 g.row.S) in
    let H = (shr_ref_field (record { mir = named 6; lft = κs.1.1.1.1.1.1.0 }) (param 5 g.row.R) (tt {0})).row in
    let I = (shr_ref_field (record { mir = named 7; lft = κs.1.1.1.1.1.1.1.0 }) Inboxes.the_row (tt {0})).row in
    let P = Policies.the_row V G F in
    closure_send _ _ (H ∷ I ∷ (u64-field).row ∷ X ∷ P ∷ Y ∷ P ∷ []) (
      search (sendable, b.sync-R),
      (
        search (sendable, inboxes_sync),
        (
          search sendable,
          (
            worker_send (param 0 g.row.C) (param 3 g.row.G) (param 4 g.row.S) (search (sendable, b.send-C)) (search (sendable, b.send-G)) (search (sendable, b.send-S)),
            (
              policies,
              (worker_send (param 1 g.row.D) (param 3 g.row.G) (param 4 g.row.S) (search (sendable, b.send-D)) (search (sendable, b.send-G)) (search (sendable, b.send-S)), (policies, tt)),
            ),
          ),
        ),
      ),
    )
