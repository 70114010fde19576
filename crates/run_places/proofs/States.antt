-- How the master stands to its bearers: its rows, the generation drawn last, and how far the open command is; and what its steps do to that.
use Rattle.std.proofs.Common.{ℕ, ◌≡◌, ◌≤◌, ◌+◌, ◌==◌, ◌++◌, Bool, true, false, List, [], ◌∷◌, Option, Some, None}
use Rattle.std.specs.List.{AllByRecursion, find, fold, list_any}
use Rattle.std.specs.Prelude.{⊤, ◌⊎◌}
use Rattle.dc_base.specs.Nodes.{is_same_node}
use Rattle.dc_base.specs.Records.{item_id}
use Rattle.dc_base.specs.declared.events.Note.TheVariants as note
use Rattle.dc_base.specs.declared.nodes.Node.{Node}
use Rattle.dc_base.specs.declared.nodes.Node.TheVariants.{A, B, M, T}
use Rattle.dc_base.specs.declared.records.Item.{Item}
use Rattle.dc_base.specs.declared.records.Item.TheVariants as item
use Rattle.dc_base.specs.declared.records.Plan.{Plan}
use Rattle.dc_base.specs.declared.records.Rec.{Rec}
use Rattle.dc_base.specs.declared.records.Rec.TheVariants as rec
use Rattle.node_rules.specs.CommandTable.{Table, rows_after}
use Rattle.node_rules.specs.MasterGo.{moving_by, preparing}
use Rattle.node_rules.specs.MasterPlan.{is_rejection}
use Rattle.node_rules.specs.MasterRecords.{is_moving}
use Rattle.node_rules.specs.MasterState.{MasterProc}
use Rattle.node_rules.specs.Parts.{part_at}
use Rattle.node_rules.specs.Places.{is_at}
use Rattle.node_rules.specs.declared.acts.Act.{Act}
use Rattle.node_rules.specs.declared.acts.Act.TheVariants.{FailOne as fail_one, Go as go, Pass as pass, Prepare as prepare, RecoverOne as recover_one, Say as say, Send as send, UnlockAll as unlock_all}
use Rattle.node_rules.specs.declared.commands.Command.{Command}
use Rattle.node_rules.specs.declared.commands.Command.TheVariants.{Asked as asked, Gone as gone, Recovering as recovering}
use Rattle.node_rules.specs.declared.commands.Row.{Row}
use Rattle.run_control.specs.SecondControl.{Views, holds_there, is_holding}
use Rattle.run_control.specs.Sound.{IsSecond}
use Rattle.run_control.specs.Views.{View}
use Rattle.run_pairs.specs.Bearers.{AreApart, IsOfTable}
use Rattle.run_places.specs.Tokens.{kept_by}
use Rattle.run_places.proofs.Items.{AreNamed}
use Rattle.run_places.proofs.Parts.{setting}

-- ---- a state

-- no plan is open; or one is, that awaits the agreement of a node, which has agreed or not, or that was carried out and moves these bearers
pub data Course : Type 0 where
  settled : Course
  proposed : (p : Plan) → (who : Option Node) → (agreed : Bool) → Course
  carried_out : (p : Plan) → (zs : List (ℕ × Node)) → Course

pub record State : Type 0 where
  pub rows : List Row
  pub last : ℕ
  pub course : Course

-- the course of a command, where the node that is asked has agreed or not
abbrev pub course_of : Bool → Option Command → Course
course_of b None = settled
course_of b (Some (asked c first who wanted)) = proposed c.plan (Some who) b
course_of b (Some (gone p going)) = carried_out p going.moving
course_of b (Some (recovering id terminal second)) = settled

-- the state of the procedures
abbrev pub state_of : Bool → MasterProc → State
state_of b m = record { rows = m.table.rows; last = m.table.last; course = course_of b m.command }

-- the row of a bearer
abbrev pub row_in : ℕ → List Row → Option Row
row_in k rows = find (λ r. r.id == k) rows

-- the item of a bearer
abbrev pub item_in : ℕ → Plan → Option Item
item_in k p = find (λ j. item_id j == k) p.items

-- ---- plans

-- the item sets up a bearer that is new
abbrev pub is_new : Item → Bool
is_new (item.Set id n first shape threshold policy key None) = true
is_new (item.Set id n first shape threshold policy key (Some old)) = false
is_new (item.Unset id) = false

-- it drops one
abbrev pub is_drop : Item → Bool
is_drop (item.Set id n first shape threshold policy key old) = false
is_drop (item.Unset id) = true

-- a plan for these rows, which that node is to agree to: new bearers have no row, and what is dropped has its anchor at the master or at
-- the node that is asked
pub record IsPlanFor (rows : List Row) (p : Plan) (who : Option Node) : Type 0 where
  pub second : IsSecond p.sec
  pub asked_second : IsSecond who
  pub items : IsOfTable rows p.items
  pub new : (k : ℕ) (i : Item) → item_in k p ≡ Some i → is_new i ≡ true → row_in k rows ≡ None
  pub drops : (k : ℕ) (i : Item) (r : Row) → item_in k p ≡ Some i → is_drop i ≡ true → row_in k rows ≡ Some r → (r.anchor ≡ M) ⊎ (who ≡ Some r.anchor)

-- the open one
abbrev pub IsPlanned : State → Type 0
IsPlanned s = by s.course
  where
    by : Course → Type 0
    by settled = ⊤
    by (proposed p who agreed) = IsPlanFor s.rows p who × (p.g ≡ s.last)
    by (carried_out p zs) = ⊤

-- ---- what is kept

-- an item sets a bearer up at a node
abbrev pub sets_by : Node → Plan → Option Item → ℕ
sets_by x p None = 0
sets_by x p (Some i) = setting (part_at x p.sec i)

-- a plan does
abbrev pub sets_at : Node → Plan → ℕ → ℕ
sets_at x p k = sets_by x p (item_in k p)

-- the node that agreed has set the bearer up, though it has no row yet
abbrev pub set_before : Course → ℕ → ℕ
set_before settled k = 0
set_before (proposed p None agreed) k = 0
set_before (proposed p (Some x) false) k = 0
set_before (proposed p (Some x) true) k = sets_at x p k
set_before (carried_out p zs) k = 0

-- it has dropped the bearer, though that has a row still
pub record IsDroppedAt (p : Plan) (x : Node) (rows : List Row) (k : ℕ) : Type 0 where
  pub it : Item
  pub found : item_in k p ≡ Some it
  pub drop : is_drop it ≡ true
  pub its_row : Row
  pub there : row_in k rows ≡ Some its_row
  pub here : its_row.anchor ≡ x

abbrev pub IsDropped : Course → List Row → ℕ → Type 0
IsDropped settled rows k = ⊥
IsDropped (proposed p None agreed) rows k = ⊥
IsDropped (proposed p (Some x) false) rows k = ⊥
IsDropped (proposed p (Some x) true) rows k = IsDroppedAt p x rows k
IsDropped (carried_out p zs) rows k = ⊥

-- what moves by a plan that was carried out
abbrev pub under_way : Course → List (ℕ × Node)
under_way settled = []
under_way (proposed p who agreed) = []
under_way (carried_out p zs) = zs

-- a node may have waiting anchors of a proposed plan: the master, and one that agreed
abbrev pub MayWait : Node → Option Node → Bool → Type 0
MayWait M who agreed = ⊤
MayWait A who agreed = (who ≡ Some A) × (agreed ≡ true)
MayWait B who agreed = (who ≡ Some B) × (agreed ≡ true)
MayWait T who agreed = ⊥

-- a waiting anchor is of the open plan, which moves the bearer there
abbrev pub IsAwaited : Node → Course → ℕ → View → Type 0
IsAwaited x settled k v = ⊥
IsAwaited x (proposed p who agreed) k v = (v.bearer.g ≡ p.g) × (list_any (is_moving k x) (moving_by p) ≡ true) × MayWait x who agreed
IsAwaited x (carried_out p zs) k v = (v.bearer.g ≡ p.g) × (list_any (is_moving k x) zs ≡ true)

abbrev pub WaitsFor : Node → Course → ℕ → Option View → Type 0
WaitsFor x s k None = ⊤
WaitsFor x s k (Some v) = is_holding v.stage ≡ false → IsAwaited x s k v

-- each bearer moves to one node
abbrev pub AreSingle : List (ℕ × Node) → Type 0
AreSingle zs = (k : ℕ) (y z : Node) → list_any (is_moving k y) zs ≡ true → list_any (is_moving k z) zs ≡ true → y ≡ z

-- the master's anchors, in a state, with how often each bearer is held, or on its way, elsewhere
pub record Keeps (s : State) (mv : Views) (rest : ℕ → ℕ) : Type 0 where
  pub named : AreNamed mv
  pub once : (k : ℕ) → kept_by (mv k) + rest k ≤ 1
  pub none : (k : ℕ) → row_in k s.rows ≡ None → kept_by (mv k) + rest k ≤ set_before s.course k
  pub dropped : (k : ℕ) → IsDropped s.course s.rows k → kept_by (mv k) + rest k ≡ 0
  pub own : (k : ℕ) (r : Row) → row_in k s.rows ≡ Some r → r.anchor ≡ M → list_any (is_moving k M) (under_way s.course) ≡ false → holds_there (mv k) ≡ true
  pub away : (k : ℕ) (r : Row) → row_in k s.rows ≡ Some r → is_same_node T r.anchor ≡ false
  pub waits : (k : ℕ) → WaitsFor M s.course k (mv k)
  pub planned : IsPlanned s
  pub single : AreSingle (under_way s.course)

-- ---- steps of the master's procedures

-- a record that is no status transfer, and tells a node of no plan by which it leaves but one that has no anchor there
abbrev pub IsLeave : Node → Plan → Type 0
IsLeave x p = (is_at x p.sec ≡ false) × AreApart p.items

abbrev pub IsMinorRecord : Node → Rec → Type 0
IsMinorRecord to (rec.Snst status) = ⊥
IsMinorRecord to (rec.Relreq p) = (p.sec ≡ None) ⊎ IsLeave to p
IsMinorRecord to (rec.Chgcnf p) = IsLeave to p
IsMinorRecord to (rec.Relcnf p) = IsLeave to p
IsMinorRecord to _ = ⊤

-- an act that leaves the anchors as they are, but that it may open them
abbrev pub IsMinor : Act → Type 0
IsMinor (send to r) = IsMinorRecord to r
IsMinor (prepare p) = ⊥
IsMinor (go p) = ⊥
IsMinor (unlock_all g) = ⊤
IsMinor (say n) = is_rejection n ≡ false
IsMinor (recover_one id) = ⊤
IsMinor (fail_one id g) = ⊤
IsMinor (pass status) = ⊥

-- a plan is drawn, and its waiting anchors made; it is carried out, if its node agreed; it ends, or is rejected; or none of these
pub data Turn : State → List Act → State → Type 0 where
  minor : (s : State) (acts : List Act) → (all : AllByRecursion IsMinor acts) → Turn s acts s
  draws : (s : State) (p : Plan) (who : Option Node) → (at : s.course ≡ settled) → (is : IsPlanFor s.rows p who) → (fresh : p.g ≡ s.last + 1)
      → Turn s (preparing p) (record { rows = s.rows; last = p.g; course = proposed p who false })
  goes_on : (s : State) (t : Table) (p : Plan) (who : Option Node) (agreed : Bool) → (at : s.course ≡ proposed p who agreed) → (sure : (who ≡ None) ⊎ (agreed ≡ true))
      → Turn s (go p ∷ []) (record { rows = fold (rows_after t p.g p.sec) s.rows p.items; last = s.last; course = carried_out p (moving_by p) })
  is_done : (s : State) (p : Plan) → (at : s.course ≡ carried_out p []) → Turn s [] (record s { course = settled })
  is_rejected : (s : State) (p : Plan) (who : Option Node) → (at : s.course ≡ proposed p who false) → Turn s (say note.Rejected ∷ []) (record s { course = settled })
  one_then : (s s' s'' : State) (acts more : List Act) → (one : Turn s acts s') → (more' : Turn s' more s'') → Turn s (acts ++ more) s''
