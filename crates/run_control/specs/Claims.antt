-- What holds of the control plane in each state of each run: each record that comes first on its link has its row where it comes;
-- the master and a secondary node agree, once what is on its way has been taken; and nothing stalls.
use Rattle.std.specs.List.{list_any}
use Rattle.std.specs.Prelude.{Bool, List, None, Option, Some, [], false, filter, is_some, not, true, ℕ, ⊤, ◌==◌, ◌∷◌, ◌≡◌, ◌⊎◌}
use Rattle.dc_base.specs.Nodes.{is_same_node, is_secondary}
use Rattle.dc_base.specs.declared.events.Event.TheVariants as event
use Rattle.dc_base.specs.declared.nodes.Node.{Node}
use Rattle.dc_base.specs.declared.nodes.Node.TheVariants.{A, B, M, T}
use Rattle.dc_base.specs.declared.nodes.Want.{Want}
use Rattle.dc_base.specs.declared.nodes.Want.TheVariants as want
use Rattle.dc_base.specs.declared.records.Plan.{Plan}
use Rattle.dc_base.specs.declared.records.Rec.{Rec}
use Rattle.dc_base.specs.declared.records.Rec.TheVariants as rec
use Rattle.node_rules.specs.Drafts.{draft}
use Rattle.node_rules.specs.MasterEnds.{is_release_spent}
use Rattle.node_rules.specs.MasterState.{MasterProc, waits_at}
use Rattle.node_rules.specs.MasterTaking.{master_take}
use Rattle.node_rules.specs.Places.{is_at}
use Rattle.node_rules.specs.SecondRecords.{second_take}
use Rattle.node_rules.specs.Secondary.{SecondNode}
use Rattle.node_rules.specs.World.{World}
use Rattle.node_rules.specs.declared.commands.Command.{Command}
use Rattle.node_rules.specs.declared.commands.Command.TheVariants.{Asked as asked, Gone as gone, Recovering as recovering}
use Rattle.node_rules.specs.declared.commands.First.{First}
use Rattle.node_rules.specs.declared.commands.First.TheVariants.{Addition as addition, Modification as modification, Release as release}
use Rattle.node_rules.specs.declared.commands.Membership.{Membership}
use Rattle.node_rules.specs.declared.commands.Membership.TheVariants.{Joined as joined, Left as left, Outside as outside}
use Rattle.run_control.specs.Links.{records_on}
use Rattle.run_control.specs.Rows.{IsTaken, Reads, is_request}
use Rattle.run_control.specs.SecondControl.{fits}
use Rattle.run_control.specs.Telling.{Due, IsAsking, due_by, nothing_due, plan_due, recovery_due}
use Rattle.run_control.specs.TerminalControl.{Bearers, takes_plan}
use Rattle.run_control.specs.Views.{second_view, terminal_view}

-- ---- what stands on a control link

-- the first record of a line is so, if there is one
abbrev pub FirstIs : (Rec → Type 0) → List Rec → Type 0
FirstIs P [] = ⊤
FirstIs P (r ∷ q) = P r

-- a secondary node; that of the master and of the terminal does not matter
abbrev pub second_at : Node → World → SecondNode
second_at A w = w.a
second_at B w = w.b
second_at M w = w.a
second_at T w = w.a

-- ---- nothing unexpected

-- the terminal takes the record
abbrev pub IsTakenThere : Bearers → Rec → Type 0
IsTakenThere bearers (rec.Reconf p key) = takes_plan bearers p ≡ true
IsTakenThere bearers (rec.Recov id) = is_some (bearers id) ≡ true
IsTakenThere bearers _ = ⊥

-- each record that comes first on its link has its row, and fits
pub record IsExpected (w : World) : Type 0 where
  pub at_second : (x : Node) → is_secondary x ≡ true
      → FirstIs (λ r. IsTaken (second_take (second_at x w).proc r) × (fits x (second_view (second_at x w)) r ≡ true)) (records_on M x w)
  pub at_master : (x : Node) → FirstIs (λ r. IsTaken (master_take x w.master.proc r)) (records_on x M w)
  pub at_terminal : FirstIs (IsTakenThere (terminal_view w.terminal)) (records_on M T w)

-- ---- agreement

-- how the open command stands to a secondary node: it does not concern it; its first record is on its way there, or the
-- rejection or the acknowledge on its way back; or it is carried out, and the node leaves by it or not
pub data Stand : Type 0 where
  rests : Stand
  asks : (first : First) → (plan : Plan) → Stand
  refuses : (first : First) → (plan : Plan) → Stand
  agrees : (first : First) → (plan : Plan) → Stand
  goes_on : (leaves : Bool) → Stand

-- of this first record and plan
abbrev pub IsAskedOf : Node → Node → First → Plan → First → Plan → Type 0
IsAskedOf x who first plan f p = (x ≡ who) × (f ≡ first) × (p ≡ plan)

-- as the open command says
abbrev pub IsStandOf : Node → Option Command → Stand → Type 0
IsStandOf x None rests = ⊤
IsStandOf x (Some (recovering id terminal second)) rests = ⊤
IsStandOf x (Some (asked c first who wanted)) rests = is_same_node x who ≡ false
IsStandOf x (Some (asked c first who wanted)) (asks f p) = IsAskedOf x who first c.plan f p
IsStandOf x (Some (asked c first who wanted)) (refuses f p) = IsAskedOf x who first c.plan f p
IsStandOf x (Some (asked c first who wanted)) (agrees f p) = IsAskedOf x who first c.plan f p
IsStandOf x (Some (gone plan going)) (goes_on leaves) = leaves ≡ is_at x going.leaving
IsStandOf x _ _ = ⊥

-- the membership of a node that agreed
abbrev pub agreed_membership : First → Membership
agreed_membership addition = joined
agreed_membership modification = joined
agreed_membership release = left

-- of the secondary node, and of the other one
abbrev pub membership_if : Bool → Membership
membership_if true = joined
membership_if false = outside

-- what the master takes a node to be, once it has taken what is on its way; the first: it is the secondary node
abbrev pub membership_by : Bool → Stand → Membership
membership_by b rests = membership_if b
membership_by b (asks first p) = membership_if b
membership_by b (refuses first p) = membership_if b
membership_by b (agrees first p) = agreed_membership first
membership_by true (goes_on leaves) = joined
membership_by false (goes_on true) = left
membership_by false (goes_on false) = outside

-- the record is the first one of this plan
abbrev pub IsFirst : First → Plan → Rec → Type 0
IsFirst addition p (rec.Addreq plan key) = plan ≡ p
IsFirst modification p (rec.Modreq plan key) = plan ≡ p
IsFirst release p (rec.Relreq plan) = plan ≡ p
IsFirst _ p _ = ⊥

-- one request is on its way exactly where it is asked
abbrev pub IsLine : Stand → List Rec → Type 0
IsLine (asks first p) down = (r : Rec) × (filter is_request down ≡ r ∷ []) × IsFirst first p r
IsLine _ down = filter is_request down ≡ []

-- the acknowledge or the rejection of a plan of this generation
abbrev pub is_agreement : ℕ → Rec → Bool
is_agreement g (rec.Addack h) = h == g
is_agreement g (rec.Modack h) = h == g
is_agreement g (rec.Relack h) = h == g
is_agreement g _ = false

-- the record rejects what was asked in generation g
abbrev pub is_rejection : ℕ → Rec → Bool
is_rejection g (rec.Addrej h) = h == g
is_rejection g (rec.Modrej h) = h == g
is_rejection g (rec.Relrej h) = h == g
is_rejection g _ = false

-- what was awaited is on its way exactly where it was given
abbrev pub AreAnswers : Stand → List Rec → Type 0
AreAnswers (asks first p) up = (list_any (is_agreement p.g) up ≡ false) × (list_any (is_rejection p.g) up ≡ false)
AreAnswers (refuses first p) up = (list_any (is_agreement p.g) up ≡ false) × ((r : Rec) × (filter (is_rejection p.g) up ≡ r ∷ []))
AreAnswers (agrees first p) up = ((r : Rec) × (filter (is_agreement p.g) up ≡ r ∷ [])) × (list_any (is_rejection p.g) up ≡ false)
AreAnswers _ up = ⊤

-- the master and a secondary node agree
pub record Agrees (w : World) (x : Node) : Type 0 where
  pub stand : Stand
  pub stands : IsStandOf x w.master.proc.command stand
  pub wants : Option Want  -- what is open once all was taken
  pub reads : Reads (second_at x w).proc.membership (second_at x w).proc.want (records_on M x w) (membership_by (is_at x w.master.proc.table.sec) stand) wants
  pub line : IsLine stand (records_on M x w)
  pub answers : AreAnswers stand (records_on x M w)

-- ---- the terminal

-- the record answers what is due
abbrev pub IsAnswer : Due → Rec → Type 0
IsAnswer due (rec.Rcomp g) = due ≡ plan_due g
IsAnswer due (rec.Recovd id) = due ≡ recovery_due id
IsAnswer due _ = ⊥

-- a failure of the secondary cell group answers nothing
abbrev pub is_failure : Rec → Bool
is_failure (rec.Scgf failed) = true
is_failure _ = false

-- exactly one of the two is on its way, where something is due, and none else; failures may stand anywhere
pub data Talks (due : Due) (down up : List Rec) : Type 0 where
  quiet_both : (is : due ≡ nothing_due) → (down_is : down ≡ []) → (up_is : filter (λ r. not (is_failure r)) up ≡ []) → Talks due down up
  asked_once : (r : Rec) → (asks : IsAsking due r) → (down_is : down ≡ r ∷ []) → (up_is : filter (λ r. not (is_failure r)) up ≡ []) → Talks due down up
  answered_once : (r : Rec) → (answers : IsAnswer due r) → (down_is : down ≡ []) → (up_is : filter (λ r. not (is_failure r)) up ≡ r ∷ []) → Talks due down up

-- of a state
abbrev pub TerminalTalks : World → Type 0
TerminalTalks w = Talks (due_by w.master.proc.command) (records_on M T w) (records_on T M w)

-- ---- nothing stalls

-- no record is on its way
abbrev pub IsQuiet : World → Type 0
IsQuiet w = (x y : Node) → records_on x y w ≡ []

-- no command is open; or one was carried out and answered, and a bearer still moves
abbrev pub IsIdleOrMoves : Option Command → Type 0
IsIdleOrMoves None = ⊤
IsIdleOrMoves (Some (asked c first who wanted)) = ⊥
IsIdleOrMoves (Some (gone plan going)) = (going.complete ≡ true) × ((x : ℕ × Node) × (q : List (ℕ × Node)) × (going.moving ≡ x ∷ q))
IsIdleOrMoves (Some (recovering id terminal second)) = ⊥

-- a release waits, since it would set a key that another establishment used
abbrev pub WaitsSpent : MasterProc → Node → Option Want → Type 0
WaitsSpent m x o = (o ≡ Some want.Release) × (waits_at m x ≡ true) × (is_release_spent m.table (draft m.table event.Release) ≡ true)

-- with no record on its way, the command waits for traffic alone; and with no command open what a node asked for was answered
pub record NeverStalls (w : World) : Type 0 where
  pub command : IsQuiet w → IsIdleOrMoves w.master.proc.command
  pub asked_for : (x : Node) → is_secondary x ≡ true → IsQuiet w → w.master.proc.command ≡ None
      → ((second_at x w).proc.want ≡ None) ⊎ WaitsSpent w.master.proc x (second_at x w).proc.want
