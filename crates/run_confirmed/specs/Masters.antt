-- What the master has of it, by the generations that it may still carry out.
use Rattle.std.specs.Prelude.{Bool, List, Option, Err, Ok, Result, [], false, true, ℕ, ⊤, ◌+◌, ◌<◌, ◌^◌, ◌∷◌, ◌≡◌, ◌≤◌, ◌⊎◌}
use Rattle.std.specs.List.{AllByRecursion}
use Rattle.dc_base.specs.declared.flights.Flight.{Flight}
use Rattle.dc_base.specs.declared.flights.Flight.TheVariants as flight
use Rattle.dc_base.specs.declared.nodes.Cell.TheVariants as cell
use Rattle.dc_base.specs.declared.nodes.Class.{Class}
use Rattle.dc_base.specs.declared.nodes.Class.TheVariants.{Air, Ctl, Feed, Tun}
use Rattle.dc_base.specs.declared.nodes.Node.{Node}
use Rattle.dc_base.specs.declared.nodes.Node.TheVariants.{M, T}
use Rattle.dc_base.specs.declared.records.StatusTransfer.{StatusTransfer}
use Rattle.node_rules.specs.Acts.{ProcFault}
use Rattle.node_rules.specs.Adopting.{status_in}
use Rattle.node_rules.specs.Anchor.{AnchorState, setup_at, silent}
use Rattle.node_rules.specs.AnchorReceiving.{air_in, tunnel_in}
use Rattle.node_rules.specs.Choices.{Choices}
use Rattle.node_rules.specs.Held.{held}
use Rattle.node_rules.specs.Host.{Host}
use Rattle.node_rules.specs.Master.{MasterNode}
use Rattle.node_rules.specs.MasterState.{MasterActs, MasterProc}
use Rattle.node_rules.specs.MasterTaking.{master_adopted, master_take}
use Rattle.node_rules.specs.declared.acts.Act.{Act}
use Rattle.node_rules.specs.declared.acts.Act.TheVariants.{FailOne as fail_one, Go as go, Pass as pass, Prepare as prepare, RecoverOne as recover_one, Say as say, Send as send, UnlockAll as unlock_all}
use Rattle.node_rules.specs.declared.bearers.AnchorOut.{AnchorOut}
use Rattle.run_control.specs.Views.{lacks_status, view_of}
use Rattle.run_generations.specs.Newer.{fresh_from}
use Rattle.run_senders.specs.Holders.{IfThere}
use Rattle.run_confirmed.specs.Flights.{IsSmallStatus}
use Rattle.run_confirmed.specs.Nodes.{IsMasterOf}
use Rattle.run_confirmed.specs.Plans.{LaysOut}
use Rattle.run_confirmed.specs.Stories.{IsUnused, Layout, Stories}

-- an anchor is of a generation below this one, or waits without a status transfer
abbrev pub IsYoung : ℕ → AnchorState → Type 0
IsYoung from a = ((setup_at a).g + 1 ≤ from) ⊎ ((view_of a).stage ≡ lacks_status)

-- the master has what the stories say; those of generations from this one on, which it may still carry out, are unused
pub record IsMasterFrom (layout : Layout) (proc : MasterProc) (from : ℕ) (stories : Stories) (m : MasterNode) : Type 0 where
  pub has : IsMasterOf layout stories m
  pub procs : m.proc ≡ proc
  pub young : (id : ℕ) → IfThere (IsYoung from) (held id m.anchors)
  pub below : (id : ℕ) → IfThere (λ (h : Host). h.g + 1 ≤ from) (held id m.hosts)
  pub unused : (id g : ℕ) → from ≤ g → IsUnused layout M id g (stories id g)

-- acts carry out plans of generations that ascend, from this one on and below that one, each laid out so
abbrev pub MayDo : Layout → ℕ → List Act → ℕ → Type 0
MayDo layout from [] below = from ≤ below
MayDo layout from (send to r ∷ acts) below = IsSmallStatus r × MayDo layout from acts below
MayDo layout from (prepare p ∷ acts) below = (from ≤ p.g) × LaysOut layout p × MayDo layout from acts below
MayDo layout from (go p ∷ acts) below = (from ≤ p.g) × LaysOut layout p × MayDo layout (p.g + 1) acts below
MayDo layout from (unlock_all g ∷ acts) below = MayDo layout from acts below
MayDo layout from (say n ∷ acts) below = MayDo layout from acts below
MayDo layout from (recover_one id ∷ acts) below = MayDo layout from acts below
MayDo layout from (fail_one id g ∷ acts) below = MayDo layout from acts below
MayDo layout from (pass status ∷ acts) below = MayDo layout from acts below

-- of a state of the procedures: the least generation that may still be carried out
abbrev pub next_of : MasterProc → ℕ
next_of m = fresh_from T m

-- a step of the procedures: its acts carry out what may be carried out
abbrev pub Does : Layout → MasterProc → MasterActs → Type 0
Does layout m r = MayDo layout (next_of m) r.1 (next_of r.0)

-- so it is where an anchor of the master adopts its bearer by this step
abbrev pub AdoptsSo : Layout → MasterProc → (AnchorState → AnchorState × AnchorOut) → ℕ → Option AnchorState → Type 0
AdoptsSo layout m f id o = IfThere (λ (a : AnchorState). (f a).1.adopted ≡ true → Does layout m (master_adopted m id)) o

-- an act is no status transfer
abbrev pub is_pass : Act → Bool
is_pass (pass status) = true
is_pass _ = false

-- a status transfer is the one act of a step: it is of a generation that was carried out before, and has a COUNT of 32 bits
pub record Passes (layout : Layout) (c : Choices) (m : MasterNode) (r : MasterActs) : Type 0 where
  pub status : StatusTransfer
  pub acts : r.1 ≡ pass status ∷ []
  pub small : status.dl < 2 ^ 32
  pub older : status.g + 1 ≤ next_of r.0
  pub rises : next_of m.proc ≤ next_of r.0
  pub adopts : AdoptsSo layout r.0 (λ a. status_in c a status) status.id (held status.id m.anchors)

-- where a record is taken: its acts carry out what they may, or are a status transfer
abbrev pub TakesSo : Layout → Choices → MasterNode → Result MasterActs ProcFault → Type 0
TakesSo layout c m (Ok r) = (AllByRecursion (λ (a : Act). is_pass a ≡ false) r.1 × Does layout m.proc r) ⊎ Passes layout c m r
TakesSo layout c m (Err why) = ⊤

-- where a command is carried on
abbrev pub CommandsSo : Layout → MasterProc → Result MasterActs ProcFault → Type 0
CommandsSo layout m (Ok r) = Does layout m r
CommandsSo layout m (Err why) = ⊤

-- by the flight that comes on a control link
abbrev pub ControlsSo : Layout → Choices → MasterNode → Node → Flight → Type 0
ControlsSo layout c m from (flight.Ctl r) = TakesSo layout c m (master_take from m.proc r)
ControlsSo layout c m from _ = ⊤

-- what a flight on a link of this class does to an anchor of the master
abbrev pub taken_by : Choices → Class → Flight → AnchorState → AnchorState × AnchorOut
taken_by c Air f a = air_in a cell.Mcg f
taken_by c Tun f a = tunnel_in c a f
taken_by c Ctl f a = (a, silent)
taken_by c Feed f a = (a, silent)

-- the master has what the stories say, of the generations that its procedures may still carry out
abbrev pub IsMasterNow : Layout → Stories → MasterNode → Type 0
IsMasterNow layout stories m = IsMasterFrom layout m.proc (next_of m.proc) stories m
