-- What holds between the master and a secondary node in each state of a run, in the form that each event keeps.
use Rattle.std.specs.List.{AllByRecursion, flat_map}
use Rattle.std.specs.Prelude.{Bool, List, None, Option, Some, [], false, filter, not, true, ℕ, ⊤, ◌&&◌, ◌++◌, ◌==◌, ◌∷◌, ◌≡◌, ◌≤◌, ◌⊎◌}
use Rattle.dc_base.specs.Nodes.{is_same_node}
use Rattle.dc_base.specs.declared.nodes.Node.{Node}
use Rattle.dc_base.specs.declared.nodes.Want.{Want}
use Rattle.dc_base.specs.declared.nodes.Want.TheVariants as want
use Rattle.dc_base.specs.declared.records.Plan.{Plan}
use Rattle.dc_base.specs.declared.records.Rec.{Rec}
use Rattle.dc_base.specs.declared.records.Rec.TheVariants as rec
use Rattle.node_rules.specs.MasterState.{MasterProc, waits_at}
use Rattle.node_rules.specs.Places.{is_at, other_second}
use Rattle.node_rules.specs.declared.commands.Command.{Command}
use Rattle.node_rules.specs.declared.commands.Command.TheVariants.{Asked as asked, Gone as gone, Recovering as recovering}
use Rattle.node_rules.specs.declared.commands.First.{First}
use Rattle.node_rules.specs.declared.commands.First.TheVariants.{Addition as addition, Modification as modification, Release as release}
use Rattle.node_rules.specs.declared.commands.Membership.{Membership}
use Rattle.run_control.specs.Claims.{IsFirst, Stand, agrees, asks, goes_on, membership_by, refuses, rests}
use Rattle.run_control.specs.Rows.{Reads, is_request}
use Rattle.run_pairs.specs.Fits.{Bearing, bearing_by}

-- ---- records from the secondary node

-- what a record asks the master for
abbrev pub asks_of : Rec → List Want
asks_of rec.Modrqd = want.Rekey ∷ []
asks_of rec.Chgrqd = want.Change ∷ []
asks_of rec.Relrqd = want.Release ∷ []
asks_of _ = []

-- by several
abbrev pub asked_for : List Rec → List Want
asked_for rs = flat_map asks_of rs

-- the record asks for something, or answers what the master asked
abbrev pub is_word : Rec → Bool
is_word (rec.Addack g) = true
is_word (rec.Addrej g) = true
is_word (rec.Modack g) = true
is_word (rec.Modrej g) = true
is_word (rec.Relack g) = true
is_word (rec.Relrej g) = true
is_word rec.Modrqd = true
is_word rec.Chgrqd = true
is_word rec.Relrqd = true
is_word _ = false

-- those among several
abbrev pub words : List Rec → List Rec
words rs = filter is_word rs

-- the generation is that of what was asked of the node
abbrev pub is_asked_in : Stand → ℕ → Bool
is_asked_in rests g = false
is_asked_in (asks first p) g = g == p.g
is_asked_in (refuses first p) g = g == p.g
is_asked_in (agrees first p) g = g == p.g
is_asked_in (goes_on leaves) g = false

-- the record answers a first record; the acknowledge of a release by a change answers none
abbrev pub is_reply : Stand → Rec → Bool
is_reply s (rec.Addack g) = true
is_reply s (rec.Addrej g) = true
is_reply s (rec.Modack g) = true
is_reply s (rec.Modrej g) = true
is_reply s (rec.Relack g) = is_asked_in s g
is_reply s (rec.Relrej g) = true
is_reply s _ = false

-- the acknowledge of a first record
abbrev pub acknowledge : First → ℕ → Rec
acknowledge addition g = rec.Addack g
acknowledge modification g = rec.Modack g
acknowledge release g = rec.Relack g

-- its rejection
abbrev pub rejection : First → ℕ → Rec
rejection addition g = rec.Addrej g
rejection modification g = rec.Modrej g
rejection release g = rec.Relrej g

-- the replies that are on their way
abbrev pub reply : Stand → List Rec
reply rests = []
reply (asks first p) = []
reply (refuses first p) = rejection first p.g ∷ []
reply (agrees first p) = acknowledge first p.g ∷ []
reply (goes_on leaves) = []

-- ---- records to the secondary node

-- a record that may stand behind a request: a refusal, or the failure of a leg
abbrev pub is_notice : Rec → Bool
is_notice (rec.Modref word) = true
is_notice (rec.Chgref word) = true
is_notice (rec.Scgn id g) = true
is_notice _ = false

-- no release by a plan of this generation
abbrev pub is_before : ℕ → Rec → Bool
is_before g (rec.Relreq plan) = not (plan.g == g)
is_before g _ = true

-- one first record of this plan, with notices alone behind it, and no other request
abbrev pub IsAskingLine : First → Plan → List Rec → Type 0
IsAskingLine first p [] = ⊥
IsAskingLine first p (r ∷ q) =
    ((is_request r ≡ true) × IsFirst first p r × AllByRecursion (λ x. is_notice x ≡ true) q) ⊎ ((is_request r ≡ false) × (is_before p.g r ≡ true) × IsAskingLine first p q)

-- what may stand on the line to the node
abbrev pub IsLineOf : Stand → List Rec → Type 0
IsLineOf rests down = AllByRecursion (λ r. is_request r ≡ false) down
IsLineOf (asks first p) down = IsAskingLine first p down
IsLineOf (refuses first p) down = AllByRecursion (λ r. is_notice r ≡ true) down
IsLineOf (agrees first p) down = AllByRecursion (λ r. is_notice r ≡ true) down
IsLineOf (goes_on leaves) down = AllByRecursion (λ r. is_request r ≡ false) down

-- a release, or its acknowledge, is of no later generation than this
abbrev pub IsWithin : ℕ → Rec → Type 0
IsWithin last (rec.Relreq plan) = plan.g ≤ last
IsWithin last (rec.Relack g) = g ≤ last
IsWithin last _ = ⊤

-- ---- both

-- a want, as a list
abbrev pub wants_in : Option Want → List Want
wants_in None = []
wants_in (Some w) = w ∷ []

-- how the master stands to a secondary node: whether it is that of the table; how the open command stands to it; what it asked for and the
-- master has yet to answer; the replies that the master awaits; the generation drawn last
pub record Standing : Type 0 where
  pub secondary : Bool
  pub stand : Stand
  pub owed : List Want
  pub replies : List Rec
  pub last : ℕ
  pub bearing : Bearing

-- the membership and the want of the node, the line to it and the words on the line from it, where the master stands so to it
pub record IsPair (v : Standing) (m : Membership) (w : Option Want) (down up : List Rec) : Type 0 where
  pub wants : Option Want  -- what is open once all was taken
  pub owes : v.owed ++ asked_for up ≡ wants_in wants
  pub reads : Reads m w down (membership_by v.secondary v.stand) wants
  pub line : IsLineOf v.stand down
  pub answers : filter (is_reply v.stand) up ≡ v.replies
  pub down_within : AllByRecursion (IsWithin v.last) down
  pub up_within : AllByRecursion (IsWithin v.last) up

-- ---- by the master's procedures

-- the release that a node asked for waits
abbrev pub waiting_of : Bool → List Want
waiting_of true = want.Release ∷ []
waiting_of false = []

-- the node asked for the command, which is yet to be answered
abbrev pub begun_as : Want → Bool → List Want
begun_as w true = w ∷ []
begun_as w false = []

-- the command that awaits its agreement
abbrev pub begun_asked : Node → First → Node → Bool → List Want
begun_asked x first who false = []
begun_asked x addition who true = begun_as want.Change (is_same_node x (other_second who))
begun_asked x modification who true = begun_as want.Rekey (is_same_node x who)
begun_asked x release who true = []

-- the open command
abbrev pub begun_for : Node → Option Command → List Want
begun_for x None = []
begun_for x (Some (asked c first who wanted)) = begun_asked x first who wanted
begun_for x (Some (gone plan going)) = begun_as want.Rekey ((going.confirms && not going.complete) && is_at x going.due)
begun_for x (Some (recovering id terminal second)) = []

-- how the master stands to the node
abbrev pub standing : Node → MasterProc → Stand → Standing
standing x m s = record {
  secondary = is_at x m.table.sec;
  stand = s;
  owed = waiting_of (waits_at m x) ++ begun_for x m.command;
  replies = reply s;
  last = m.table.last;
  bearing = bearing_by m m.command s;
}
