-- The rules of the control plane (TS 37.340, 10): how a bearer is set up at the master and at the terminal.
use Rattle.std.specs.Prelude.{ℕ, ◌+◌, ◌==◌, nat_le, not, if◌then◌else◌, Bool, false, List, [], ◌∷◌, ◌++◌, fold, Option, Some, None, is_some}
use Rattle.dc_base.specs.declared.numbers.SnLen.{SnLen}
use Rattle.dc_base.specs.declared.nodes.Dir.TheVariants.{Ul, Dl}
use Rattle.dc_base.specs.declared.nodes.Node.TheVariants.{M}
use Rattle.dc_base.specs.declared.nodes.Shape.{Shape}
use Rattle.dc_base.specs.declared.flights.Flight.{Flight}
use Rattle.dc_base.specs.declared.flights.Flight.TheVariants as flight
use Rattle.dc_base.specs.declared.records.Item.{Item}
use Rattle.dc_base.specs.declared.records.Item.TheVariants.{Set, Unset}
use Rattle.dc_base.specs.declared.records.Plan.{Plan}
use Rattle.dc_base.specs.declared.records.Rec.TheVariants.{Reconf, Rcomp, Recov, Recovd}
use Rattle.dc_base.specs.declared.answers.Answer.TheVariants as answer
use Rattle.dc_base.specs.declared.answers.Refusal.TheVariants.{NoBearer, BearerThere, Busy, NoSecondary, NoPolicy}
use Rattle.dc_base.specs.declared.events.Header.{Header}
use Rattle.dc_base.specs.declared.events.Line.{Line}
use Rattle.dc_base.specs.declared.events.Line.TheVariants as line
use Rattle.dc_base.specs.declared.events.Note.TheVariants as note
use Rattle.dc_base.specs.Nodes.{is_mm}
use Rattle.transcript.specs.Content.{mt_ctl, tm_ctl}
use Rattle.transcript.specs.Bearers.{Established, OpenCommand, change, recovery, master_key}
use Rattle.master_runs.specs.Entities.{Entities, Table, fresh, no_bearers, bearer_in, with_bearer}
use Rattle.master_runs.specs.Plane.{Outcome, recovers}

-- the master and the terminal: the last generation drawn, the command that is open, and the bearers of each node
pub record Nodes : Type 0 where
  pub drawn : ℕ
  pub busy : Option OpenCommand
  pub master : Table
  pub terminal : Table

-- both without a bearer
abbrev pub new_nodes : Nodes
new_nodes = record { drawn = 0; busy = None; master = no_bearers; terminal = no_bearers }

-- the bearer of this command
abbrev pub opened : ℕ → ℕ → SnLen → ℕ → Established
opened g id n first = record { g = g; id = id; n = n; first = first }

-- the plan that sets it up at the master
abbrev pub plan_for : ℕ → ℕ → SnLen → ℕ → Shape → ℕ → ℕ → Plan
plan_for g id n first shape threshold policy =
    record { g = g; sec = None; items = Set id n first shape threshold policy (master_key 0) None ∷ [] }

-- the master sets a bearer up: its anchor is active, and the terminal is told the plan
abbrev pub set_up : Header → Nodes → ℕ → SnLen → ℕ → Shape → ℕ → ℕ → Nodes × Outcome
set_up h s id n first shape threshold policy =
    let g = s.drawn + 1 in (
      record s { drawn = g; busy = Some (change g); master = with_bearer s.master id (Some (fresh (opened g id n first))) },
      (answer.Ok, line.Note (note.Own M id g) ∷ line.Send mt_ctl (flight.Ctl (Reconf (plan_for g id n first shape threshold policy) h.root)) ∷ []),
    )

-- a new bearer is commanded, where there are so many policies
abbrev pub commanded : ℕ → Header → Nodes → ℕ → SnLen → ℕ → Shape → ℕ → ℕ → Nodes × Outcome
commanded policies h s id n first shape threshold policy =
    if is_some s.busy then (s, (answer.No Busy, []))
    else if is_some (bearer_in s.master id) then (s, (answer.No BearerThere, []))
    else if not (is_mm shape) then (s, (answer.No NoSecondary, []))
    else if nat_le policies policy then (s, (answer.No NoPolicy, []))
    else set_up h s id n first shape threshold policy

-- the terminal takes an item of a plan: a bearer of this generation, or one that is dropped
abbrev pub item_taken : ℕ → Table × List Line → Item → Table × List Line
item_taken g done (Set id n first shape threshold policy key old) =
    (with_bearer done.0 id (Some (fresh (opened g id n first))), done.1 ++ line.Note (note.Set id g) ∷ [])
item_taken g done (Unset id) = (with_bearer done.0 id None, done.1 ++ line.Note (note.Unset id) ∷ [])

-- whether the command that is open is this generation's
abbrev pub is_change : Option OpenCommand → ℕ → Bool
is_change (Some (change opening)) g = opening == g
is_change _ g = false

-- whether it is the recovery of this identity
abbrev pub is_recovery : Option OpenCommand → ℕ → Bool
is_recovery (Some (recovery opening)) id = opening == id
is_recovery _ id = false

-- the bearer, unless its own command is still open
abbrev pub unless_open : Option OpenCommand → Option Entities → Option Entities
unless_open busy None = None
unless_open busy (Some e) = if is_change busy e.bearer.g then None else Some e

-- the master has a bearer recovered, and recovers its own side at once
abbrev pub recovered : Header → Nodes → ℕ → Option Entities → Nodes × Outcome
recovered h s id None = (s, (answer.No NoBearer, []))
recovered h s id (Some e) =
    let done = recovers h Dl e in (
      record s { busy = Some (recovery id); master = with_bearer s.master id (Some done.0) },
      (answer.Ok, line.Send mt_ctl (flight.Ctl (Recov id)) ∷ done.1),
    )

-- a recovery is commanded
abbrev pub recovery_commanded : Header → Nodes → ℕ → Nodes × Outcome
recovery_commanded h s id =
    if is_some s.busy then (s, (answer.No Busy, [])) else recovered h s id (unless_open s.busy (bearer_in s.master id))

-- the terminal recovers a bearer, if it has it, and says so
abbrev pub recovers_there : Header → Nodes → ℕ → Option Entities → Nodes × List Line
recovers_there h s id None = (s, [])
recovers_there h s id (Some e) =
    let done = recovers h Ul e in
    (record s { terminal = with_bearer s.terminal id (Some done.0) }, line.Send tm_ctl (flight.Ctl (Recovd id)) ∷ done.1)

-- the terminal takes a record from the master
abbrev pub told_terminal : Header → Nodes → Flight → Nodes × List Line
told_terminal h s (flight.Ctl (Reconf plan root)) =
    let done = fold (item_taken plan.g) (s.terminal, []) plan.items in
    (record s { terminal = done.0 }, done.1 ++ line.Send tm_ctl (flight.Ctl (Rcomp plan.g)) ∷ [])
told_terminal h s (flight.Ctl (Recov id)) = recovers_there h s id (bearer_in s.terminal id)
told_terminal h s _ = (s, [])

-- the command ends, if it is the one that is open
abbrev pub ends : Nodes → Bool → Nodes × List Line
ends s is_open = if is_open then (record s { busy = None }, line.Note note.Done ∷ []) else (s, [])

-- the master takes a record from the terminal: the reconfiguration of the open command is complete, or the recovery
abbrev pub told_master : Nodes → Flight → Nodes × List Line
told_master s (flight.Ctl (Rcomp g)) = ends s (is_change s.busy g)
told_master s (flight.Ctl (Recovd id)) = ends s (is_recovery s.busy id)
told_master s _ = (s, [])
