-- What is so of the master's command table in each step of its procedures, of the plans that are carried out, and of the
-- generations whose anchors are opened.
use Rattle.std.specs.List.{AllByRecursion}
use Rattle.std.specs.Prelude.{None, Option, Some, ℕ, ◌≡◌, ⊤}
use Rattle.dc_base.specs.declared.flights.Flight.TheVariants as flight
use Rattle.dc_base.specs.declared.records.Plan.{Plan}
use Rattle.dc_base.specs.declared.records.Rec.{Rec}
use Rattle.dc_base.specs.declared.records.Rec.TheVariants as rec
use Rattle.claims.specs.Views.{carried_plan}
use Rattle.node_rules.specs.CommandTable.{Table, carried}
use Rattle.node_rules.specs.Choices.{Send}
use Rattle.node_rules.specs.Drafts.{Draft}
use Rattle.node_rules.specs.Master.{MasterNode}
use Rattle.node_rules.specs.MasterState.{MasterActs, MasterProc}
use Rattle.node_rules.specs.declared.acts.Act.{Act}
use Rattle.node_rules.specs.declared.acts.Act.TheVariants.{FailOne as fail_one, Go as go, Pass as pass, Prepare as prepare, RecoverOne as recover_one, Say as say, Send as send, UnlockAll as unlock_all}
use Rattle.node_rules.specs.declared.inputs.Effects.{Effects}
use Rattle.node_rules.specs.declared.commands.Command.{Command}
use Rattle.node_rules.specs.declared.commands.Command.TheVariants.{Asked as asked, Gone as gone, Recovering as recovering}

-- the table once a draft is drawn
abbrev pub with_draft : Table → Draft → Table
with_draft t d = record t { book = d.book; last = d.change.plan.g }

-- with the open command: what is asked may be carried out, and of what was carried out the table is so
abbrev pub OfCommand : (Table → Type 0) → (Table → Plan → Type 0) → Table → Option Command → Type 0
OfCommand K S t None = ⊤
OfCommand K S t (Some (asked c first who wanted)) = K (carried t c) × S (carried t c) c.plan
OfCommand K S t (Some (gone plan going)) = S t plan
OfCommand K S t (Some (recovering id terminal second)) = ⊤

-- of the master's procedures
pub record OfProc (K : Table → Type 0) (S : Table → Plan → Type 0) (m : MasterProc) : Type 0 where
  pub table : K m.table
  pub command : OfCommand K S m.table m.command

-- a draft may be drawn, and carried out
pub record MayDraw (K : Table → Type 0) (S : Table → Plan → Type 0) (t : Table) (d : Draft) : Type 0 where
  pub drawn : K (with_draft t d)
  pub carried_out : K (carried (with_draft t d) d.change)
  pub set : S (carried (with_draft t d) d.change) d.change.plan

-- the plan that a record has the terminal carry out
abbrev pub ordered : Rec → Option Plan
ordered r = carried_plan (flight.Ctl r)

-- the generation whose anchors a record opens
abbrev pub opened_by : Rec → Option ℕ
opened_by (rec.Recfg g) = Some g
opened_by (rec.Modcnf g) = Some g
opened_by _ = None

-- of what may be there
abbrev pub OfSome : {X : Type 0} → (X → Type 0) → Option X → Type 0
OfSome P None = ⊤
OfSome P (Some x) = P x

-- of the plan that an act has the terminal carry out, and of the generation whose anchors it opens
abbrev pub OfAct : (Plan → Type 0) → (ℕ → Type 0) → Act → Type 0
OfAct P U (send to r) = OfSome P (ordered r) × OfSome U (opened_by r)
OfAct P U (say n) = ⊤
OfAct P U (prepare p) = ⊤
OfAct P U (go p) = ⊤
OfAct P U (unlock_all g) = U g
OfAct P U (recover_one id) = ⊤
OfAct P U (fail_one id g) = ⊤
OfAct P U (pass st) = ⊤

-- what neither has the terminal carry out a plan nor opens anchors
abbrev pub IsFree : Act → Type 0
IsFree (send to r) = (ordered r ≡ None) × (opened_by r ≡ None)
IsFree (unlock_all g) = ⊥
IsFree _ = ⊤

-- of what comes of a step of the procedures
pub record OfStep (K : Table → Type 0) (S : Table → Plan → Type 0) (U : ℕ → Type 0) (r : MasterActs) : Type 0 where
  pub state : OfProc K S r.0
  pub acts : AllByRecursion (OfAct (S r.0.table) U) r.1

-- of the plan that a send has the terminal carry out
abbrev pub OfSend : (Plan → Type 0) → Send → Type 0
OfSend P s = OfSome P (carried_plan s.1)

-- of a step of the master
pub record OfTurn (K : Table → Type 0) (S : Table → Plan → Type 0) (done : MasterNode × Effects) : Type 0 where
  pub state : OfProc K S done.0.proc
  pub sends : AllByRecursion (OfSend (S done.0.proc.table)) done.1.sends
