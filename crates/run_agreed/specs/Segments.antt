-- The parts of which each step of the master's procedures is made, one after another: each draws, carries out or ends at most one
-- plan.
use Rattle.std.specs.List.{AllByRecursion}
use Rattle.std.specs.Prelude.{Bool, List, None, Ok, Err, Option, Result, Some, [], false, true, ℕ, ⊤, ◌++◌, ◌==◌, ◌∷◌, ◌≡◌}
use Rattle.dc_base.specs.Nodes.{is_secondary}
use Rattle.dc_base.specs.declared.events.Event.{Event}
use Rattle.dc_base.specs.declared.events.Event.TheVariants as event
use Rattle.dc_base.specs.declared.events.Note.TheVariants as note
use Rattle.dc_base.specs.declared.nodes.Node.{Node}
use Rattle.dc_base.specs.declared.nodes.Node.TheVariants.{T}
use Rattle.dc_base.specs.declared.nodes.Want.{Want}
use Rattle.dc_base.specs.declared.records.Plan.{Plan}
use Rattle.dc_base.specs.declared.records.Rec.{Rec}
use Rattle.dc_base.specs.declared.records.Rec.TheVariants as rec
use Rattle.claims.specs.Drafts.{command_of}
use Rattle.node_rules.specs.Acts.{ProcFault, first_refusal}
use Rattle.node_rules.specs.CommandTable.{is_spent_by}
use Rattle.node_rules.specs.Drafts.{Draft, draft}
use Rattle.node_rules.specs.MasterCommands.{command_refusals, recovers_at}
use Rattle.node_rules.specs.MasterEnds.{forgetting, nothing_to_release}
use Rattle.node_rules.specs.MasterGo.{before_acts, begins, goes, lets_go, way}
use Rattle.node_rules.specs.MasterRecords.{asking_refusal, completing, rejecting}
use Rattle.node_rules.specs.MasterState.{MasterActs, MasterProc, waits_at, with_waits}
use Rattle.node_rules.specs.Places.{is_at}
use Rattle.node_rules.specs.SecondState.{request}
use Rattle.node_rules.specs.declared.acts.Act.{Act}
use Rattle.node_rules.specs.declared.acts.Act.TheVariants.{FailOne as fail_one, Go as go, Pass as pass, Prepare as prepare, RecoverOne as recover_one, Say as say, Send as send, UnlockAll as unlock_all}
use Rattle.node_rules.specs.declared.commands.Change.{Change}
use Rattle.node_rules.specs.declared.commands.Command.TheVariants.{Asked as asked, Gone as gone, Recovering as recovering}
use Rattle.node_rules.specs.declared.commands.First.{First}
use Rattle.node_rules.specs.declared.commands.First.TheVariants.{Addition as addition, Modification as modification, Release as release}
use Rattle.node_rules.specs.declared.commands.Going.{Going}

-- a record that is of no command: the failure of a leg, or a status transfer
abbrev pub IsAsideRecord : Rec → Type 0
IsAsideRecord (rec.Scgn id g) = ⊤
IsAsideRecord (rec.Snst status) = ⊤
IsAsideRecord _ = ⊥

-- an act that is of no command
abbrev pub IsAside : Act → Type 0
IsAside (send to r) = IsAsideRecord r
IsAside (prepare p) = ⊥
IsAside (go p) = ⊥
IsAside (unlock_all g) = ⊤
IsAside (say n) = ⊤
IsAside (recover_one id) = ⊤
IsAside (fail_one id g) = ⊤
IsAside (pass status) = ⊤

-- a record that refuses what a secondary node asked for
abbrev pub IsRefusal : Rec → Type 0
IsRefusal (rec.Modref word) = ⊤
IsRefusal (rec.Chgref word) = ⊤
IsRefusal _ = ⊥

-- what a step of the master's procedures comes from: a record from a node, an event, or an adoption at the master
pub data Origin : Type 0 where
  by_record : (x : Node) → (r : Rec) → Origin
  by_event : (e : Event) → Origin
  by_itself : Origin

-- the record acknowledges a first record of this kind and generation
abbrev pub is_ack : First → ℕ → Rec → Bool
is_ack addition g (rec.Addack h) = h == g
is_ack modification g (rec.Modack h) = h == g
is_ack release g (rec.Relack h) = h == g
is_ack f g _ = false

-- or it rejects one
abbrev pub is_rej : First → ℕ → Rec → Bool
is_rej addition g (rec.Addrej h) = h == g
is_rej modification g (rec.Modrej h) = h == g
is_rej release g (rec.Relrej h) = h == g
is_rej f g _ = false

-- nothing refuses the command of an event: one that was given to the master, or one that a secondary node asked for
pub data MayBegin (o : Origin) (m : MasterProc) (e : Event) (wanted : Bool) : Type 0 where
  is_ordered : (policies : ℕ) → (unrefused : first_refusal (command_refusals policies m e) ≡ None) → (from : o ≡ by_event e) → (by_none : wanted ≡ false) → MayBegin o m e wanted
  is_asked : (x : Node) → (what : Want) → (unrefused : asking_refusal x m ≡ None) → (from : o ≡ by_record x (request what)) → (by_second : wanted ≡ true) → (event_is : e ≡ command_of what)
      → MayBegin o m e wanted

-- one part: from a state to a state, with what the node has to do
pub data Segment (o : Origin) (m : MasterProc) (r : MasterActs) : Type 0 where
  aside : (acts : List Act) → (all : AllByRecursion IsAside acts) → (is : r ≡ (m, acts)) → Segment o m r
  refuses : (x : Node) → (q : Rec) → (refusal : IsRefusal q) → (what : Want) → (from : o ≡ by_record x (request what)) → (is : r ≡ (m, send x q ∷ [])) → Segment o m r
  waits : (x : Node) → (from : o ≡ by_record x rec.Relrqd) → (is : r ≡ (with_waits true x m, [])) → Segment o m r
  needless : (x : Node) → (waiting : waits_at m x ≡ true) → (free : m.command ≡ None) → (apart : is_at x m.table.sec ≡ false)
      → (is : r ≡ (with_waits false x m, send x nothing_to_release ∷ [])) → Segment o m r
  lets_off : (x : Node) → (d : Draft) → (waiting : waits_at m x ≡ true) → (free : m.command ≡ None) → (here : is_at x m.table.sec ≡ true)
      → (drawn : draft m.table event.Release ≡ Some d) → (unspent : is_spent_by m.table d.change.plan ≡ false) → (is : r ≡ lets_go (with_waits false x m) x d) → Segment o m r
  begun : (e : Event) → (d : Draft) → (wanted : Bool) → (free : m.command ≡ None) → (drawn : draft m.table e ≡ Some d) → (may : MayBegin o m e wanted)
      → (is : r ≡ begins m d wanted) → Segment o m r
  agrees : (c : Change) → (first : First) → (who : Node) → (wanted : Bool) → (opened : m.command ≡ Some (asked c first who wanted))
      → (second : is_secondary who ≡ true) → (q : Rec) → (from : o ≡ by_record who q) → (ack : is_ack first c.plan.g q ≡ true)
      → (is : r ≡ goes m c (way first who wanted m.table.sec)) → Segment o m r
  completes : (p : Plan) → (w : Going) → (opened : m.command ≡ Some (gone p w)) → (waited : w.complete ≡ false) → (from : o ≡ by_record T (rec.Rcomp p.g))
      → (is : r ≡ (record m { command = Some (gone p (record w { complete = true })) }, completing w.due w.confirms p.g ++ unlock_all p.g ∷ [])) → Segment o m r
  moves_on : (p : Plan) → (w : Going) → (moving : List (ℕ × Node)) → (opened : m.command ≡ Some (gone p w))
      → (is : r ≡ (record m { command = Some (gone p (record w { moving = moving })) }, [])) → Segment o m r
  ends : (p : Plan) → (w : Going) → (opened : m.command ≡ Some (gone p w)) → (complete : w.complete ≡ true)
      → (is : r ≡ (record m { command = None }, forgetting w.leaving p.g ++ say note.Done ∷ [])) → Segment o m r
  rejects : (c : Change) → (first : First) → (who : Node) → (wanted : Bool) → (opened : m.command ≡ Some (asked c first who wanted))
      → (second : is_secondary who ≡ true) → (q : Rec) → (from : o ≡ by_record who q) → (rej : is_rej first c.plan.g q ≡ true)
      → (is : r ≡ (record m { command = None }, rejecting first who wanted ++ say note.Rejected ∷ [])) → Segment o m r
  recovers : (id : ℕ) → (x : Node) → (free : m.command ≡ None) → (is : r ≡ recovers_at m id x) → Segment o m r
  terminal_recovers : (id : ℕ) → (t : Bool) → (y : Option Node) → (opened : m.command ≡ Some (recovering id t y)) → (from : o ≡ by_record T (rec.Recovd id))
      → (is : r ≡ (record m { command = Some (recovering id false y) }, [])) → Segment o m r
  second_recovers : (id : ℕ) → (t : Bool) → (x : Node) → (opened : m.command ≡ Some (recovering id t (Some x))) → (from : o ≡ by_record x (rec.Recovd id))
      → (is : r ≡ (record m { command = Some (recovering id t None) }, [])) → Segment o m r
  recovered : (id : ℕ) → (opened : m.command ≡ Some (recovering id false None)) → (is : r ≡ (record m { command = None }, say note.Done ∷ [])) → Segment o m r

-- parts one after another
abbrev pub Chain : Origin → List MasterActs → MasterProc → MasterActs → Type 0
Chain o [] m out = out ≡ (m, [])
Chain o (r ∷ rs) m out = Segment o m r × ((q : MasterActs) × Chain o rs r.0 q × (out ≡ before_acts r.1 q))

-- a step is made of parts
pub record IsChain (o : Origin) (m : MasterProc) (out : MasterActs) : Type 0 where
  pub parts : List MasterActs
  pub all : Chain o parts m out

-- what is taken is
abbrev pub OfChain : Origin → MasterProc → Result MasterActs ProcFault → Type 0
OfChain o m (Ok out) = IsChain o m out
OfChain o m (Err why) = ⊤
