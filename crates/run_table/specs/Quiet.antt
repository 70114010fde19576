-- What says nothing of commands: notes that are no words, and sends that carry no plan.
use Rattle.std.specs.List.{AllByRecursion}
use Rattle.std.specs.Prelude.{Bool, List, None, Option, [], false, filter, is_some, ℕ, ◌≡◌, ◌∷◌, ⊤}
use Rattle.dc_base.specs.declared.flights.Flight.{Flight}
use Rattle.dc_base.specs.declared.flights.Flight.TheVariants as flight
use Rattle.dc_base.specs.declared.nodes.Node.TheVariants.{M}
use Rattle.dc_base.specs.declared.records.Plan.{Plan}
use Rattle.claims.specs.Planned.{plan_in}
use Rattle.node_rules.specs.Choices.{Send}
use Rattle.node_rules.specs.Effects.{both, noted, quiet, told}
use Rattle.node_rules.specs.Master.{MasterNode}
use Rattle.node_rules.specs.MasterState.{MasterActs}
use Rattle.node_rules.specs.MasterTaking.{master_adopted}
use Rattle.node_rules.specs.declared.acts.Act.{Act}
use Rattle.node_rules.specs.declared.acts.Act.TheVariants.{FailOne as fail_one, Go as go, Pass as pass, Prepare as prepare, RecoverOne as recover_one, Say as say, Send as send, UnlockAll as unlock_all}
use Rattle.node_rules.specs.declared.inputs.Effects.{Effects}
use Rattle.node_rules.specs.declared.inputs.Outcome.{Outcome}
use Rattle.run_table.specs.Words.{is_word}

-- the plan that a flight carries
abbrev pub plan_of : Flight → Option Plan
plan_of (flight.Ctl r) = plan_in r
plan_of _ = None

-- the send carries a plan
abbrev pub has_plan : Send → Bool
has_plan s = is_some (plan_of s.1)

-- none of them does
abbrev pub HaveNoPlan : List Send → Type 0
HaveNoPlan ss = filter has_plan ss ≡ []

-- what comes of a step says nothing of commands
pub record IsQuiet (x : Effects) : Type 0 where
  pub notes : filter is_word x.notes ≡ []
  pub sends : HaveNoPlan x.sends

-- the notes and sends of an outcome
abbrev pub effects_of : Outcome → Effects
effects_of o = record { notes = o.notes; sends = o.sends }

-- an act that says nothing of them
abbrev pub IsQuietAct : Act → Type 0
IsQuietAct (send to r) = is_some (plan_in r) ≡ false
IsQuietAct (say n) = is_word n ≡ false
IsQuietAct (prepare p) = ⊤
IsQuietAct (go p) = ⊤
IsQuietAct (unlock_all g) = ⊤
IsQuietAct (recover_one id) = ⊤
IsQuietAct (fail_one id g) = ⊤
IsQuietAct (pass st) = ⊤

-- none of them says anything
abbrev pub AreQuiet : List Act → Type 0
AreQuiet acts = AllByRecursion IsQuietAct acts

-- a step of the master beside its procedures
pub record IsBeside (m : MasterNode) (done : MasterNode × Effects) : Type 0 where
  pub proc : done.0.proc ≡ m.proc
  pub quiet : IsQuiet done.1

-- what an act says of them
abbrev pub said_by : Act → Effects
said_by (send to r) = told M to r
said_by (say n) = noted n
said_by _ = quiet

-- what acts say of them, in turn
abbrev pub said : List Act → Effects
said [] = quiet
said (a ∷ acts) = both (said_by a) (said acts)

-- both say the same of them
pub record SaysAs (x y : Effects) : Type 0 where
  pub notes : filter is_word x.notes ≡ filter is_word y.notes
  pub sends : filter has_plan x.sends ≡ filter has_plan y.sends

-- a step of the master leaves its procedures as they came out of theirs, and says what those have it say
pub record Follows (r : MasterActs) (done : MasterNode × Effects) : Type 0 where
  pub proc : done.0.proc ≡ r.0
  pub says : SaysAs done.1 (said r.1)

-- a step of the master by which its own anchor adopted a bearer
pub record Adopted (m : MasterNode) (done : MasterNode × Effects) : Type 0 where
  pub id : ℕ
  pub follows : Follows (master_adopted m.proc id) done
